use Rattle.mvo_representation.proofs.Proved.{opens_so, each_call_keeps, shows_snapshot, depends_so, shown_is_there, free_may_be_ended, tells_cause, names_change, rows_are_placed, meets_what_counts}
use Rattle.mvo_representation.proofs.laws.laws_of_representation.Goals as goal

pub returns-clause-opens : goal.returns-clause-opens
returns-clause-opens c = opens_so

pub returns-clause-keeps : goal.returns-clause-keeps
returns-clause-keeps c = each_call_keeps

pub returns-clause-shows : goal.returns-clause-shows
returns-clause-shows c = shows_snapshot

pub returns-clause-depends : goal.returns-clause-depends
returns-clause-depends c = depends_so

pub returns-clause-there : goal.returns-clause-there
returns-clause-there c = shown_is_there

pub returns-clause-free : goal.returns-clause-free
returns-clause-free c = free_may_be_ended

pub returns-clause-tells : goal.returns-clause-tells
returns-clause-tells c = tells_cause

pub returns-clause-names : goal.returns-clause-names
returns-clause-names c = names_change

pub returns-clause-placed : goal.returns-clause-placed
returns-clause-placed c = rows_are_placed

pub returns-clause-meets : goal.returns-clause-meets
returns-clause-meets c = meets_what_counts
