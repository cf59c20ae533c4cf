use Rattle.std.specs.Prelude.{ℕ, List}
use Rattle.mvo_types.specs.Keys.{Map}
use Rattle.mvo_shared.specs.Shared.{AllTaken}
use Rattle.mvo_shared.specs.Given.{GivenCall, MayRunGiven, after_given_run}
use Rattle.mvo_shared.specs.Held.{IsHeldGiven, empty_work}
use Rattle.mvo_shared.specs.GivenLaws.{opened_given}
use Rattle.mvo_shared.proofs.Works.{work_empty}
use Rattle.mvo_shared.proofs.Finals.{shared_tale}
use Rattle.mvo_shared.proofs.GivenSteps.{held_after, held_run, held_opened}
use Rattle.mvo_shared.proofs.OwnCalls.{own_after, own_run, own_opened}
use Rattle.mvo_shared.proofs.laws.laws_of_given_works.Goals as goal

over_runs : (rows : Map) (mark : ℕ) (all : AllTaken) (cs : List GivenCall) → MayRunGiven (opened_given rows mark all) cs → IsHeldGiven rows (after_given_run (opened_given rows mark all) cs)
over_runs rows mark all cs m = held_run rows (opened_given rows mark all) cs m (held_opened rows mark all)

pub returns-clause-holds : goal.returns-clause-holds
returns-clause-holds c = held_after

pub returns-clause-runs : goal.returns-clause-runs
returns-clause-runs c = over_runs

pub returns-clause-legal : goal.returns-clause-legal
returns-clause-legal c = λ rows mark all cs m. let g = after_given_run (opened_given rows mark all) cs in shared_tale g.state g.taken (over_runs rows mark all cs m).shared

pub returns-clause-keeps : goal.returns-clause-keeps
returns-clause-keeps c = own_after

pub returns-clause-serial : goal.returns-clause-serial
returns-clause-serial c = λ rows mark all cs m. own_run rows (opened_given rows mark all) (λ t. empty_work) cs m (λ n. work_empty) (held_opened rows mark all) (own_opened rows mark all (λ t. empty_work))
