use Rattle.std.proofs.Common.{sym, ap, ◌∙◌, refl}
use Rattle.mvo_txn.specs.Txns.{state_of}
use Rattle.mvo_core.specs.Readers.{no_readers}
use Rattle.mvo_core.specs.Data.{CoreData}
use Rattle.mvo_core.specs.Causes.{why_not_undo}
use Rattle.mvo_core.proofs.GivenUp.{rolled_back}
use Rattle.mvo_core.proofs.WholeUndone.{rollback_refused_whole, rolled_back_whole}
use Rattle.mvo_core.proofs.event_core.Core.rollback_tx.Goals as goal

pub returns-clause-step : goal.returns-clause-step
returns-clause-step c = λ opening steps s h.
    let none = ap (λ (v : CoreData). why_not_undo (state_of v.table c.args.tx.0)) (sym c.self.view_is) ∙ sym c.not_undone.ensures ∙ c.in_default.is in
    rolled_back no_readers opening steps s c.args.self.now c.abort.new.self h c.args.tx.0 refl none c.abort.ensures.others

-- ---- beside read-only ones
pub returns-in-Some-clause-whole : goal.returns-in-Some-clause-whole
returns-in-Some-clause-whole c = λ opening steps own w h.
    rollback_refused_whole opening steps own w c.args.self.now h c.args.tx.0 c.in-Some.refusal
    (ap (λ (v : CoreData). why_not_undo (state_of v.table c.args.tx.0)) (sym c.self.view_is) ∙ sym c.not_undone.ensures ∙ c.in-Some.is)

pub returns-clause-whole : goal.returns-clause-whole
returns-clause-whole c = λ opening steps own w h.
    let none = ap (λ (v : CoreData). why_not_undo (state_of v.table c.args.tx.0)) (sym c.self.view_is) ∙ sym c.not_undone.ensures ∙ c.in_default.is in
    rolled_back_whole opening steps own w c.args.self.now h c.args.tx.0 c.abort.new.self none c.abort.ensures.others c.abort.ensures.readers

-- ---- why it is refused
pub returns-in-Some-clause-cause : goal.returns-in-Some-clause-cause
returns-in-Some-clause-cause c =
    ap (λ (v : CoreData). why_not_undo (state_of v.table c.args.tx.0)) (sym c.self.view_is) ∙ sym c.not_undone.ensures ∙ c.in-Some.is
