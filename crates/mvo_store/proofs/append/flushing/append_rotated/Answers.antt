use Rattle.std.proofs.Common.{inr, subst}
use Rattle.mvo_store.specs.Wholes.{AreToRefusal, rotation}
use Rattle.mvo_store.proofs.append.flushing.append_rotated.Goals as goal

pub returns-in-Ok : goal.returns-in-Ok
returns-in-Ok g c = inr (c.in-Ok.field-0, c.run_rotation.new.caller, subst (λ r. AreToRefusal g.L.StoreCaller.comes_to rotation c.args.log.now r c.run_rotation.new.caller) c.in-Ok.is c.run_rotation.ensures, c.append_here.ensures)
