use Rattle.std.proofs.Common.{◌≡◌, ◌∙◌, Some, refl, sym, ap, subst}
use Rattle.std.specs.Prelude.{slice_set}
use Rattle.mvo_theory.specs.Entries.{written_keys}
use Rattle.mvo_tale.specs.Stored.{StoredCommit}
use Rattle.mvo_tale.specs.declared.tale_place.TalePlace.TheVariants.{Settled}
use Rattle.mvo_core.specs.Data.{CoreData}
use Rattle.mvo_core.specs.View.{core_data}
use Rattle.mvo_core.specs.Settling.{IsReadyReader}
use Rattle.mvo_core.specs.WholeStanding.{StandsWhole}
use Rattle.mvo_core.proofs.WholeSettles.{unended_if_none, some_reported, reads_wrote_nothing, reads_pending, reads_settle}
use Rattle.mvo_theory.specs.Calls.Call.{Settle}
use Rattle.mvo_theory.specs.Calls.Result.{Accepted}
use Rattle.mvo_readonly.specs.WholeCauses.WholeCall.{CoreCall}
use Rattle.mvo_core.specs.declared.kept_transaction.TransactionKind.TheVariants.{Committed}
use Rattle.mvo_core.specs.Keeping.{HasEndedAs}
use Rattle.mvo_core.specs.Standing.{words_in}
use Rattle.mvo_core.proofs.Waits.{waits_alike, alike_written}
use Rattle.mvo_core.proofs.WaitsOn.{aborted_waits}
use Rattle.mvo_core.proofs.WholeStands.{whole_stands_on}
use Rattle.mvo_core.proofs.event_core.Core.settle_reader.Goals as goal

pub abort-requires : goal.abort-requires
abort-requires c =
    let f = c.self.inside in
    let ready : IsReadyReader f.table c.args.reader.id = subst (λ (v : CoreData). IsReadyReader v.table c.args.reader.id) (sym c.self.view_is) c.requires in
    unended_if_none f.table c.args.reader.id.0 ready.called.none

pub commit_read-place-requires : goal.commit_read-place-requires
commit_read-place-requires c =
    let f = c.self.inside in
    let ready : IsReadyReader f.table c.args.reader.id = subst (λ (v : CoreData). IsReadyReader v.table c.args.reader.id) (sym c.self.view_is) c.requires in
    some_reported f.table c.abort.new.self c.report_abort.new.table c.args.reader.id c.abort.ensures c.report_abort.ensures.told ready.reads

pub entry_read-entry-requires : goal.entry_read-entry-requires
entry_read-entry-requires c =
    let f = c.self.inside in
    let i = c.self.invariant.stands in
    let old : CoreData = core_data f in
    let ready : IsReadyReader f.table c.args.reader.id = subst (λ (v : CoreData). IsReadyReader v.table c.args.reader.id) (sym c.self.view_is) c.requires in
    ap (λ w. written_keys w.history) c.take-content.ensures.taken ∙ reads_wrote_nothing i.opening i.steps i.own i.whole old i.stands c.args.reader.id ready

pub settle-requires : goal.settle-requires
settle-requires c =
    let f = c.self.inside in
    let i = c.self.invariant.stands in
    let old : CoreData = core_data f in
    let ready : IsReadyReader f.table c.args.reader.id = subst (λ (v : CoreData). IsReadyReader v.table c.args.reader.id) (sym c.self.view_is) c.requires in
    reads_pending i.opening i.steps i.own i.whole old i.stands c.args.reader.id ready c.abort.new.self c.report_abort.new.table c.abort.ensures c.report_abort.ensures.told c.commit_read-place.result c.commit_read-place.ensures.place
    ∙ ap (λ (e : StoredCommit). Some e.end) (sym c.entry_read-entry.ensures)

pub invariant_of-self : goal.invariant_of-self
invariant_of-self c =
    let f = c.self.inside in
    let i = c.self.invariant.stands in
    let old : CoreData = core_data f in
    let ready : IsReadyReader f.table c.args.reader.id = subst (λ (v : CoreData). IsReadyReader v.table c.args.reader.id) (sym c.self.view_is) c.requires in
    record {
      stands =
          whole_stands_on i (CoreCall (Settle c.args.reader.id.0)) Accepted (record old { versions = c.bring_puts.new.versions; table = c.commit_read-place.new.table; tale = c.settle.new.self; works = c.take-content.new.self })
          (reads_settle i.opening i.steps i.own i.whole old i.stands c.args.reader.id ready c.len.ensures.rising c.abort.new.self c.report_abort.new.table c.commit_read-place.new.table c.abort.ensures c.report_abort.ensures.told
          c.report_abort.ensures.graph c.bring_puts.new.versions c.bring_puts.ensures c.commit_read-place.ensures.left c.take-content.new.self c.take-content.ensures.left
          c.commit_read-place.result c.commit_read-place.ensures.place c.take-content.result.history (ap (λ w. w.history) c.take-content.ensures.taken) c.settle.new.self (c.settle.ensures ∙ ap (λ e. slice_set f.tale c.commit_read-place.result (Settled e)) c.entry_read-entry.ensures));
      waiting =
          waits_alike c.report_abort.new.table c.commit_read-place.new.table c.bring_puts.new.versions.slots f.waiting (alike_written c.report_abort.new.table c.commit_read-place.new.table c.args.reader.id.0 (HasEndedAs Committed) c.commit_read-place.ensures.left)
          (aborted_waits f.table c.abort.new.self c.report_abort.new.table c.args.reader.id f.versions c.bring_puts.new.versions f.waiting (words_in c.report_abort.new.table c.args.reader.id.0) (unended_if_none f.table c.args.reader.id.0 ready.called.none) c.abort.ensures c.report_abort.ensures.told c.bring_puts.ensures c.self.invariant.waiting);
    }

pub returns-clause-settled : goal.returns-clause-settled
returns-clause-settled c = λ opening steps own w h.
    let f = c.self.inside in
    let old : CoreData = core_data f in
    let g : StandsWhole opening steps own w old = subst (StandsWhole opening steps own w) (sym c.self.view_is) h in
    let ready : IsReadyReader f.table c.args.reader.id = subst (λ (v : CoreData). IsReadyReader v.table c.args.reader.id) (sym c.self.view_is) c.requires in
    reads_settle opening steps own w old g c.args.reader.id ready c.len.ensures.rising c.abort.new.self c.report_abort.new.table c.commit_read-place.new.table c.abort.ensures c.report_abort.ensures.told
    c.report_abort.ensures.graph c.bring_puts.new.versions c.bring_puts.ensures c.commit_read-place.ensures.left c.take-content.new.self c.take-content.ensures.left
    c.commit_read-place.result c.commit_read-place.ensures.place c.take-content.result.history (ap (λ w. w.history) c.take-content.ensures.taken) c.settle.new.self (c.settle.ensures ∙ ap (λ e. slice_set f.tale c.commit_read-place.result (Settled e)) c.entry_read-entry.ensures)
