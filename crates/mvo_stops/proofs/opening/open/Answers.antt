use Rattle.std.proofs.Common.{refl}
use Rattle.mvo_stops.proofs.opening.open.Goals as goal

pub returns-in-Ok-clause-answer : goal.returns-in-Ok-clause-answer
returns-in-Ok-clause-answer g c = c.in-Ok.ensures.answer refl
