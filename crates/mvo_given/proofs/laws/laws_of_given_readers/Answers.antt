use Rattle.mvo_given.proofs.Causes.{whole_causes_go}
use Rattle.mvo_given.proofs.Together.{whole_goes, opens_together, whole_runs_go}
use Rattle.mvo_given.proofs.Counting.{works_count}
use Rattle.mvo_given.proofs.Traced.{told_traced}
use Rattle.mvo_theory.specs.Changes.{to_stamped}
use Rattle.mvo_shared.proofs.Causes.{no_entry_test}
use Rattle.mvo_given.proofs.HeldReads.{found_one, wrote_nothing, nothing_differs}
use Rattle.mvo_given.proofs.Behind.{behind_same}
use Rattle.mvo_given.proofs.Back.{given_is_whole}
use Rattle.mvo_given.proofs.laws.laws_of_given_readers.Goals as goal

pub returns-clause-causes : goal.returns-clause-causes
returns-clause-causes c = whole_causes_go

pub returns-clause-calls : goal.returns-clause-calls
returns-clause-calls c = whole_goes

pub returns-clause-back : goal.returns-clause-back
returns-clause-back c = given_is_whole

pub returns-clause-opens : goal.returns-clause-opens
returns-clause-opens c = opens_together

pub returns-clause-active : goal.returns-clause-active
returns-clause-active c = works_count

pub returns-clause-runs : goal.returns-clause-runs
returns-clause-runs c = whole_runs_go

pub returns-clause-told : goal.returns-clause-told
returns-clause-told c = told_traced

pub returns-clause-checks : goal.returns-clause-checks
returns-clause-checks c = λ s r l. (found_one s.base s.stamped r l, no_entry_test s.base s.stamped (to_stamped r.id r) l)

pub returns-clause-taken : goal.returns-clause-taken
returns-clause-taken c = λ r w e. (wrote_nothing r w e, nothing_differs r w e)

pub returns-clause-same : goal.returns-clause-same
returns-clause-same c = behind_same
