use Rattle.std.proofs.Common.{Bool, Result, subst}
use Rattle.std.specs.Prelude.{IfErr}
use Rattle.mvo_types.specs.declared.refusal.Refusal.{Refusal}
use Rattle.mvo_engine.specs.Lasting.{WasNotFlushed}
use Rattle.mvo_engine.specs.Lasting.IsNotMadeDurable.{AtFlushing}
use Rattle.mvo_engine.proofs.session.Session.flush_up_to.Goals as goal

pub returns-in-Err-clause-err : goal.returns-in-Err-clause-err
returns-in-Err-clause-err g c = AtFlushing (subst (λ (r : Result Bool Refusal). IfErr r (WasNotFlushed g.D.Disk)) c.in-Err.is c.flush_next.ensures)
