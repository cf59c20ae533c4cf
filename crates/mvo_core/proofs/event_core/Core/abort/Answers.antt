use Rattle.std.proofs.Common.{◌∙◌, sym, ap, subst}
use Rattle.mvo_txn.specs.declared.state.TxState.TheVariants.{Aborted}
use Rattle.mvo_txn.specs.Txns.{state_of, IsUnended}
use Rattle.mvo_deps.specs.Data as deps
use Rattle.mvo_core.specs.declared.kept_transaction.TransactionKind.TheVariants.{Aborted as KindAborted}
use Rattle.mvo_core.specs.Causes.{is_read_only}
use Rattle.mvo_core.specs.Keeping.{HasEndedIf}
use Rattle.mvo_core.specs.Data.{CoreData, own_of}
use Rattle.mvo_core.specs.View.{core_data}
use Rattle.mvo_core.specs.Standing.{StandsAmong}
use Rattle.mvo_core.proofs.Undone.{has_open_place, may_undo}
use Rattle.mvo_core.proofs.ReaderAborted.{other_aborted, reader_aborted, read_only_some}
use Rattle.mvo_core.proofs.Reporting.{own_same}
use Rattle.mvo_core.specs.Standing.{words_in}
use Rattle.mvo_core.proofs.WaitsOn.{aborted_waits}
use Rattle.mvo_theory.specs.Calls.Call.{Rollback}
use Rattle.mvo_theory.specs.Calls.Result.{Accepted}
use Rattle.mvo_readonly.specs.WholeCauses.WholeCall.{CoreCall}
use Rattle.mvo_core.specs.WholeStanding.{readers_of}
use Rattle.mvo_core.proofs.WholeStands.{whole_stands_on, waits_ended}
use Rattle.mvo_core.proofs.WholeUndone.{rolled_back_whole}
use Rattle.mvo_core.proofs.event_core.Core.abort.Goals as goal

pub leave_tale-reads-requires : goal.leave_tale-reads-requires
leave_tale-reads-requires c =
    let f = c.self.inside in
    let i = c.self.invariant.stands in
    let old : CoreData = core_data f in
    has_open_place (readers_of i.whole) i.opening i.own i.whole.core old i.stands.core c.args.tx.id.0

pub end_reading-requires : goal.end_reading-requires
end_reading-requires c = λ reads.
    let f = c.self.inside in
    read_only_some (own_of c.report_abort.new.table c.args.tx.id.0)
    (ap is_read_only (own_same (deps.after_dependency_abort c.args.tx.id) f.table c.abort.new.self c.report_abort.new.table c.args.tx.id Aborted c.abort.ensures c.report_abort.ensures.told c.args.tx.id.0)
    ∙ sym c.leave_tale-reads.ensures.reads ∙ reads)

pub invariant_of-self : goal.invariant_of-self
invariant_of-self c =
    let f = c.self.inside in
    let i = c.self.invariant.stands in
    let old : CoreData = core_data f in
    let unended : IsUnended (state_of f.table c.args.tx.id.0) = subst (λ (v : CoreData). IsUnended (state_of v.table c.args.tx.id.0)) (sym c.self.view_is) c.requires in
    let ended : HasEndedIf (is_read_only (own_of f.table c.args.tx.id.0)) KindAborted c.report_abort.new.table c.end_reading.new.table c.args.tx.id.0 =
    subst (λ b. HasEndedIf b KindAborted c.report_abort.new.table c.end_reading.new.table c.args.tx.id.0) c.leave_tale-reads.ensures.reads c.end_reading.ensures in
    let new : CoreData = record old { versions = c.bring_puts.new.versions; table = c.end_reading.new.table; tale = c.leave_tale-reads.new.tale } in
    record {
      stands =
          whole_stands_on i (CoreCall (Rollback c.args.tx.id.0)) Accepted new
          (rolled_back_whole i.opening i.steps i.own i.whole old i.stands c.args.tx.id.0 new (may_undo (state_of f.table c.args.tx.id.0) unended)
          (λ rs opening steps s other h.
          other_aborted rs opening steps s old h c.args.tx.id unended c.abort.new.self c.report_abort.new.table c.abort.ensures c.report_abort.ensures.told c.report_abort.ensures.graph
          c.bring_puts.new.versions c.leave_tale-reads.new.tale c.bring_puts.ensures c.leave_tale-reads.ensures.left c.end_reading.new.table ended other)
          (λ rs opening steps s p at going h.
          reader_aborted rs opening steps s old h c.args.tx.id unended c.abort.new.self c.report_abort.new.table c.abort.ensures c.report_abort.ensures.told c.report_abort.ensures.graph
          c.bring_puts.new.versions c.leave_tale-reads.new.tale c.bring_puts.ensures c.leave_tale-reads.ensures.left c.end_reading.new.table ended c.leave_tale-reads.ensures.rising p at going));
      waiting = waits_ended (is_read_only (own_of f.table c.args.tx.id.0)) KindAborted c.report_abort.new.table c.end_reading.new.table c.args.tx.id.0 c.bring_puts.new.versions.slots f.waiting ended
          (aborted_waits f.table c.abort.new.self c.report_abort.new.table c.args.tx.id f.versions c.bring_puts.new.versions f.waiting (words_in c.report_abort.new.table c.args.tx.id.0) unended c.abort.ensures c.report_abort.ensures.told c.bring_puts.ensures c.self.invariant.waiting);
    }

pub returns-clause-others : goal.returns-clause-others
returns-clause-others c = λ rs opening steps s other h.
    let f = c.self.inside in
    let old : CoreData = core_data f in
    let unended : IsUnended (state_of f.table c.args.tx.id.0) = subst (λ (v : CoreData). IsUnended (state_of v.table c.args.tx.id.0)) (sym c.self.view_is) c.requires in
    other_aborted rs opening steps s old (subst (StandsAmong rs opening steps s) (sym c.self.view_is) h) c.args.tx.id unended c.abort.new.self c.report_abort.new.table c.abort.ensures c.report_abort.ensures.told c.report_abort.ensures.graph
    c.bring_puts.new.versions c.leave_tale-reads.new.tale c.bring_puts.ensures c.leave_tale-reads.ensures.left c.end_reading.new.table
    (subst (λ b. HasEndedIf b KindAborted c.report_abort.new.table c.end_reading.new.table c.args.tx.id.0) c.leave_tale-reads.ensures.reads c.end_reading.ensures) other

pub returns-clause-readers : goal.returns-clause-readers
returns-clause-readers c = λ rs opening steps s p at going h.
    let f = c.self.inside in
    let old : CoreData = core_data f in
    let unended : IsUnended (state_of f.table c.args.tx.id.0) = subst (λ (v : CoreData). IsUnended (state_of v.table c.args.tx.id.0)) (sym c.self.view_is) c.requires in
    reader_aborted rs opening steps s old (subst (StandsAmong rs opening steps s) (sym c.self.view_is) h) c.args.tx.id unended c.abort.new.self c.report_abort.new.table c.abort.ensures c.report_abort.ensures.told c.report_abort.ensures.graph
    c.bring_puts.new.versions c.leave_tale-reads.new.tale c.bring_puts.ensures c.leave_tale-reads.ensures.left c.end_reading.new.table
    (subst (λ b. HasEndedIf b KindAborted c.report_abort.new.table c.end_reading.new.table c.args.tx.id.0) c.leave_tale-reads.ensures.reads c.end_reading.ensures) c.leave_tale-reads.ensures.rising p at going
