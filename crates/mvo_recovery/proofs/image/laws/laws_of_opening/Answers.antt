use Rattle.mvo_recovery.proofs.image.Opening.{slot_exact, pick_exact, segment_exact, one_answer, exact}
use Rattle.mvo_recovery.proofs.image.Base.{rows_are_live}
use Rattle.mvo_recovery.proofs.image.laws.laws_of_opening.Goals as goal

pub returns-clause-one : goal.returns-clause-one
returns-clause-one c = one_answer

pub returns-clause-exact : goal.returns-clause-exact
returns-clause-exact c = exact

pub returns-clause-live : goal.returns-clause-live
returns-clause-live c = rows_are_live

pub returns-clause-slot : goal.returns-clause-slot
returns-clause-slot c = slot_exact

pub returns-clause-pick : goal.returns-clause-pick
returns-clause-pick c = pick_exact

pub returns-clause-segment : goal.returns-clause-segment
returns-clause-segment c = segment_exact
