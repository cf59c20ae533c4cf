use Rattle.std.proofs.Common.{◌≡◌, Some, refl, sym, ap, ◌∙◌, subst}
use Rattle.std.specs.Prelude.{slice_set}
use Rattle.mvo_types.specs.declared.refusal.Refusal.TheVariants.{NotValidated}
use Rattle.mvo_theory.specs.Told.{history_told}
use Rattle.mvo_theory.specs.Calls.Call.{Settle}
use Rattle.mvo_theory.specs.Calls.Result.{Accepted, Refused}
use Rattle.mvo_txn.specs.declared.state.TxState.TheVariants.{Committed}
use Rattle.mvo_txn.specs.Txns.{IsPreparingState as StandsPreparing}
use Rattle.mvo_tale.specs.declared.tale_place.TalePlace.TheVariants.{Settled}
use Rattle.mvo_tale.specs.Stored.{StoredCommit}
use Rattle.mvo_tale.specs.Slots.{open_end_at}
use Rattle.mvo_tale.proofs.Rising.{open_pending}
use Rattle.mvo_core.specs.Readers.{no_readers}
use Rattle.mvo_core.specs.Data.{CoreData}
use Rattle.mvo_core.specs.View.{core_data}
use Rattle.mvo_core.specs.Causes.{why_not_preparing}
use Rattle.mvo_core.specs.Standing.{StandsFor}
use Rattle.mvo_core.specs.Keeping.{HasHandedOver}
use Rattle.mvo_core.specs.Steps.{LeadsOn}
use Rattle.mvo_core.proofs.WholeStands.{whole_stands_on}
use Rattle.mvo_core.proofs.Committing.{settle_refused, unvalidated_leads, waits_leads, waits_for, prepared, place_there, commits_leads, commits_as}
use Rattle.mvo_core.proofs.WaitsOn.{committed_waits}
use Rattle.mvo_core.proofs.WrittenThen.{data_changed}
use Rattle.mvo_readonly.specs.WholeCauses.WholeCall.{CoreCall}
use Rattle.mvo_core.specs.WholeStanding.{readers_of, StandsWhole, LeadsWhole}
use Rattle.mvo_core.proofs.WholeCalled.{none_reads, other_leads_whole, stage_none}
use Rattle.mvo_core.proofs.WholeSettles.{settle_refused_whole, unvalidated_leads_whole, waits_leads_whole, waits_for_whole, commits_as_whole, reads_settled}
use Rattle.mvo_core.proofs.event_core.Core.settle.Goals as goal

pub returns-in-Refused-clause-step : goal.returns-in-Refused-clause-step
returns-in-Refused-clause-step c = λ opening steps s h.
    let f = c.self.inside in
    let old : CoreData = core_data f in
    let why : why_not_preparing old.table c.args.tx.0 ≡ Some c.in-Refused.refusal = c.in-Refused.ensures in
    subst (λ r. LeadsOn opening steps s (Settle c.args.tx.0) (Refused r) c.give_up.new.self) (sym c.give_up.ensures.same)
    (settle_refused no_readers opening steps s c.args.self.now h c.args.tx.0 refl c.in-Refused.refusal c.give_up.new.self
    (ap (λ (v : CoreData). why_not_preparing v.table c.args.tx.0) (sym c.self.view_is) ∙ why) c.give_up.ensures.left)

pub returns-in-NotValidated-clause-step : goal.returns-in-NotValidated-clause-step
returns-in-NotValidated-clause-step c = λ opening steps s h.
    let f = c.self.inside in
    let old : CoreData = core_data f in
    let g : StandsFor opening steps s old = subst (StandsFor opening steps s) (sym c.self.view_is) h in
    subst (LeadsOn opening steps s (Settle c.args.tx.0) (Refused NotValidated)) c.self.view_is
    (unvalidated_leads no_readers opening steps s old g c.args.tx c.in-NotValidated.ensures.none refl c.in-NotValidated.ensures.valid_is)

pub returns-in-WaitsFor-clause-step : goal.returns-in-WaitsFor-clause-step
returns-in-WaitsFor-clause-step c = λ opening steps s h.
    let f = c.self.inside in
    let old : CoreData = core_data f in
    let g : StandsFor opening steps s old = subst (StandsFor opening steps s) (sym c.self.view_is) h in
    subst (LeadsOn opening steps s (Settle c.args.tx.0) Accepted) c.self.view_is
    (waits_leads no_readers opening steps s old g c.args.tx c.in-WaitsFor.ensures.0.none refl c.in-WaitsFor.other c.in-WaitsFor.ensures.1 c.in-WaitsFor.ensures.0.valid_is)

pub returns-in-WaitsFor-clause-answer : goal.returns-in-WaitsFor-clause-answer
returns-in-WaitsFor-clause-answer c = λ opening steps s h.
    let f = c.self.inside in
    let old : CoreData = core_data f in
    let g : StandsFor opening steps s old = subst (StandsFor opening steps s) (sym c.self.view_is) h in
    waits_for no_readers opening steps s old g c.args.tx c.in-WaitsFor.ensures.0.none refl c.in-WaitsFor.other c.in-WaitsFor.ensures.1

pub commit-place-requires : goal.commit-place-requires
commit-place-requires c =
    let f = c.self.inside in
    let i = c.self.invariant.stands in
    let old : CoreData = core_data f in
    subst StandsPreparing (sym (prepared (readers_of i.whole) i.opening i.own i.whole.core old i.stands.core c.args.tx c.in-Ready.ensures.0.none (stage_none (readers_of i.whole) i.opening i.own i.whole.core old i.stands.core c.args.tx.0 c.in-Ready.ensures.3)).1) refl

pub report_settled-requires : goal.report_settled-requires
report_settled-requires c = λ none.
    let f = c.self.inside in
    ap (λ d. d.dependents) (data_changed f.table c.commit-place.new.table c.args.tx HasHandedOver (Committed c.commit-place.result.0) c.commit-place.ensures.left) ∙ c.in-Ready.ensures.2 none

pub settle-requires : goal.settle-requires
settle-requires c =
    let f = c.self.inside in
    let i = c.self.invariant.stands in
    let old : CoreData = core_data f in
    open_pending f.tale c.commit-place.result.1 c.commit-place.result.0.0
    (ap (open_end_at f.tale) c.commit-place.ensures.place
    ∙ place_there (readers_of i.whole) i.opening i.own i.whole.core old i.stands.core c.args.tx c.in-Ready.ensures.0.none (stage_none (readers_of i.whole) i.opening i.own i.whole.core old i.stands.core c.args.tx.0 c.in-Ready.ensures.3) c.commit-place.result.0 c.commit-place.ensures.end)

pub invariant_of-self : goal.invariant_of-self
invariant_of-self c =
    let f = c.self.inside in
    let i = c.self.invariant.stands in
    let old : CoreData = core_data f in
    let none = c.in-Ready.ensures.0.none in
    let end = c.commit-place.result.0 in
    let entry : StoredCommit = record { id = c.args.tx.0; end = end.0; history = history_told c.commit-place.result.2.told.items } in
    record {
      stands =
          whole_stands_on i (CoreCall (Settle c.args.tx.0)) Accepted (record old { table = c.report_settled.new.table; tale = c.settle.new.self })
          (let none = c.in-Ready.ensures.0.none in
          let end = c.commit-place.result.0 in
          let entry : StoredCommit = record { id = c.args.tx.0; end = end.0; history = history_told c.commit-place.result.2.told.items } in
          other_leads_whole i.opening i.steps i.own i.whole old i.stands c.args.tx.0 (Settle c.args.tx.0) refl tt Accepted (record old { table = c.report_settled.new.table; tale = c.settle.new.self }) c.in-Ready.ensures.3
          (λ other. commits_leads (readers_of i.whole) i.opening i.own i.whole.core old i.stands.core c.args.tx none other end c.commit-place.ensures.end c.commit-place.new.table c.report_settled.new.table c.commit-place.ensures.left c.report_settled.ensures.told
          c.report_settled.ensures.graph entry refl refl c.commit-place.ensures.told c.in-Ready.ensures.1 c.in-Ready.ensures.0.valid_is
          c.settle.new.self (c.settle.ensures ∙ ap (λ p. slice_set f.tale p (Settled entry)) c.commit-place.ensures.place)));
      waiting = committed_waits f.table c.commit-place.new.table c.report_settled.new.table c.args.tx end f.versions f.waiting c.commit-place.ensures.end c.commit-place.ensures.left c.report_settled.ensures.told c.self.invariant.waiting;
    }

pub returns-clause-step : goal.returns-clause-step
returns-clause-step c = λ opening steps s h.
    let f = c.self.inside in
    let old : CoreData = core_data f in
    let g : StandsFor opening steps s old = subst (StandsFor opening steps s) (sym c.self.view_is) h in
    let none = c.in-Ready.ensures.0.none in
    let end = c.commit-place.result.0 in
    let entry : StoredCommit = record { id = c.args.tx.0; end = end.0; history = history_told c.commit-place.result.2.told.items } in
    commits_leads no_readers opening steps s old g c.args.tx none refl end c.commit-place.ensures.end c.commit-place.new.table c.report_settled.new.table c.commit-place.ensures.left c.report_settled.ensures.told
    c.report_settled.ensures.graph entry refl refl c.commit-place.ensures.told c.in-Ready.ensures.1 c.in-Ready.ensures.0.valid_is
    c.settle.new.self (c.settle.ensures ∙ ap (λ p. slice_set f.tale p (Settled entry)) c.commit-place.ensures.place)

pub returns-clause-answer : goal.returns-clause-answer
returns-clause-answer c = λ opening steps s h.
    let f = c.self.inside in
    let old : CoreData = core_data f in
    let g : StandsFor opening steps s old = subst (StandsFor opening steps s) (sym c.self.view_is) h in
    commits_as no_readers opening steps s old g c.args.tx c.in-Ready.ensures.0.none refl c.in-Ready.ensures.1 c.commit-place.result.0 c.commit-place.ensures.end

-- ---- of one that is read-only, which none is
pub returns-in-ReadyReader-clause-step : goal.returns-in-ReadyReader-clause-step
returns-in-ReadyReader-clause-step c = λ opening steps s h.
    let f = c.self.inside in
    let old : CoreData = core_data f in
    let g : StandsFor opening steps s old = subst (StandsFor opening steps s) (sym c.self.view_is) h in
    absurd (none_reads opening steps s old g c.args.tx.0 c.in-ReadyReader.ensures.reads)

pub returns-in-ReadyReader-clause-answer : goal.returns-in-ReadyReader-clause-answer
returns-in-ReadyReader-clause-answer c = λ opening steps s h.
    let f = c.self.inside in
    let old : CoreData = core_data f in
    let g : StandsFor opening steps s old = subst (StandsFor opening steps s) (sym c.self.view_is) h in
    absurd (none_reads opening steps s old g c.args.tx.0 c.in-ReadyReader.ensures.reads)

pub returns-in-ReadyReader-clause-whole : goal.returns-in-ReadyReader-clause-whole
returns-in-ReadyReader-clause-whole c = λ opening steps own w h. c.settle_reader.ensures.settled opening steps own w h

pub returns-in-ReadyReader-clause-whole_answer : goal.returns-in-ReadyReader-clause-whole_answer
returns-in-ReadyReader-clause-whole_answer c = λ opening steps own w h.
    let f = c.self.inside in
    let old : CoreData = core_data f in
    let g : StandsWhole opening steps own w old = subst (StandsWhole opening steps own w) (sym c.self.view_is) h in
    c.settle_reader.ensures.answer ∙ reads_settled opening steps own w old g c.args.tx c.in-ReadyReader.ensures

-- ---- with read-only ones beside
pub returns-in-Refused-clause-whole : goal.returns-in-Refused-clause-whole
returns-in-Refused-clause-whole c = λ opening steps own w h.
    let f = c.self.inside in
    let old : CoreData = core_data f in
    let why : why_not_preparing old.table c.args.tx.0 ≡ Some c.in-Refused.refusal = c.in-Refused.ensures in
    subst (λ r. LeadsWhole opening steps own w (CoreCall (Settle c.args.tx.0)) (Refused r) c.give_up.new.self) (sym c.give_up.ensures.same)
    (settle_refused_whole opening steps own w c.args.self.now h c.args.tx c.in-Refused.refusal c.give_up.new.self
    (ap (λ (v : CoreData). why_not_preparing v.table c.args.tx.0) (sym c.self.view_is) ∙ why) c.give_up.ensures.left c.give_up.ensures.reader)

pub returns-in-NotValidated-clause-whole : goal.returns-in-NotValidated-clause-whole
returns-in-NotValidated-clause-whole c = λ opening steps own w h.
    let f = c.self.inside in
    let old : CoreData = core_data f in
    let g : StandsWhole opening steps own w old = subst (StandsWhole opening steps own w) (sym c.self.view_is) h in
    subst (LeadsWhole opening steps own w (CoreCall (Settle c.args.tx.0)) (Refused NotValidated)) c.self.view_is
    (unvalidated_leads_whole opening steps own w old g c.args.tx c.in-NotValidated.ensures.none c.in-NotValidated.ensures.valid_is)

pub returns-in-WaitsFor-clause-whole : goal.returns-in-WaitsFor-clause-whole
returns-in-WaitsFor-clause-whole c = λ opening steps own w h.
    let f = c.self.inside in
    let old : CoreData = core_data f in
    let g : StandsWhole opening steps own w old = subst (StandsWhole opening steps own w) (sym c.self.view_is) h in
    subst (LeadsWhole opening steps own w (CoreCall (Settle c.args.tx.0)) Accepted) c.self.view_is
    (waits_leads_whole opening steps own w old g c.args.tx c.in-WaitsFor.ensures.0.none c.in-WaitsFor.other c.in-WaitsFor.ensures.1 c.in-WaitsFor.ensures.0.valid_is)

pub returns-in-WaitsFor-clause-whole_answer : goal.returns-in-WaitsFor-clause-whole_answer
returns-in-WaitsFor-clause-whole_answer c = λ opening steps own w h.
    let f = c.self.inside in
    let old : CoreData = core_data f in
    let g : StandsWhole opening steps own w old = subst (StandsWhole opening steps own w) (sym c.self.view_is) h in
    waits_for_whole opening steps own w old g c.args.tx c.in-WaitsFor.ensures.0.none c.in-WaitsFor.other c.in-WaitsFor.ensures.1 c.in-WaitsFor.ensures.0.valid_is

pub returns-clause-whole : goal.returns-clause-whole
returns-clause-whole c = λ opening steps own w h.
    let f = c.self.inside in
    let old : CoreData = core_data f in
    let g : StandsWhole opening steps own w old = subst (StandsWhole opening steps own w) (sym c.self.view_is) h in
    let none = c.in-Ready.ensures.0.none in
    let end = c.commit-place.result.0 in
    let entry : StoredCommit = record { id = c.args.tx.0; end = end.0; history = history_told c.commit-place.result.2.told.items } in
    other_leads_whole opening steps own w old g c.args.tx.0 (Settle c.args.tx.0) refl tt Accepted (record old { table = c.report_settled.new.table; tale = c.settle.new.self }) c.in-Ready.ensures.3
    (λ other. commits_leads (readers_of w) opening own w.core old g.core c.args.tx none other end c.commit-place.ensures.end c.commit-place.new.table c.report_settled.new.table c.commit-place.ensures.left c.report_settled.ensures.told
    c.report_settled.ensures.graph entry refl refl c.commit-place.ensures.told c.in-Ready.ensures.1 c.in-Ready.ensures.0.valid_is
    c.settle.new.self (c.settle.ensures ∙ ap (λ p. slice_set f.tale p (Settled entry)) c.commit-place.ensures.place))

pub returns-clause-whole_answer : goal.returns-clause-whole_answer
returns-clause-whole_answer c = λ opening steps own w h.
    let f = c.self.inside in
    let old : CoreData = core_data f in
    let g : StandsWhole opening steps own w old = subst (StandsWhole opening steps own w) (sym c.self.view_is) h in
    commits_as_whole opening steps own w old g c.args.tx c.in-Ready.ensures.0.none c.in-Ready.ensures.3 c.in-Ready.ensures.1 c.commit-place.result.0 c.commit-place.ensures.end
