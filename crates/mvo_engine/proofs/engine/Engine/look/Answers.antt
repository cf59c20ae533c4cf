use Rattle.std.proofs.Common.{Bool, Result, refl, subst}
use Rattle.std.specs.Prelude.{IfErr}
use Rattle.mvo_types.specs.declared.refusal.Refusal.{Refusal}
use Rattle.mvo_engine.specs.Lasting.{WasNotFlushed}
use Rattle.mvo_engine.specs.Lasting.IsNotAwaited.{WhereDown, WhereRefused}
use Rattle.mvo_engine.proofs.engine.Engine.look.Goals as goal

pub returns-then-is_down-clause-err : goal.returns-then-is_down-clause-err
returns-then-is_down-clause-err g c = WhereDown refl (c.is_down.ensures.down c.if-is_down.true)

pub returns-in-Err-clause-err : goal.returns-in-Err-clause-err
returns-in-Err-clause-err g c = WhereRefused (subst (λ (r : Result Bool Refusal). IfErr r (WasNotFlushed g.D.Disk)) c.in-Err.is c.flush_next.ensures)
