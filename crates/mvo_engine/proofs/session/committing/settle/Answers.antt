use Rattle.std.proofs.Common.{subst}
use Rattle.mvo_model.specs.History.{History}
use Rattle.mvo_engine.specs.Asked.{HasRefusedToCommit}
use Rattle.mvo_engine.proofs.Refused.{settling_refused, settled_so}
use Rattle.mvo_engine.proofs.session.committing.settle.Goals as goal

pub returns-in-Err-clause-core : goal.returns-in-Err-clause-core
returns-in-Err-clause-core g c =
    subst (λ (told : History). HasRefusedToCommit g.L.Run.opening c.args.tx.0 told c.in-Err.refusal) c.loop.invariant.3
    (settling_refused _ _ _ c.loop.told _ c.in-Err.ensures.sound c.in-Err.ensures.step)

pub returns-in-Ok-Committed-clause-settled : goal.returns-in-Ok-Committed-clause-settled
returns-in-Ok-Committed-clause-settled g c =
    let e = c.in-Ok-Committed.ensures in
    settled_so _ _ c.args.tx.0 c.loop.told c.args.told.now _ c.in-Ok-Committed.end c.in-Ok-Committed.field-0-is c.loop.invariant.3 e.sound e.step e.answer
