use Rattle.std.proofs.Common.{List, refl, sym, subst, ap, ◌∙◌}
use Rattle.mvo_tale.specs.declared.tale_place.TalePlace.{TalePlace}
use Rattle.mvo_txn.specs.Txns.{why_not_begun, IsTableRefusal}
use Rattle.mvo_theory.specs.Calls.Call.{Begin}
use Rattle.mvo_core.specs.Readers.{no_readers}
use Rattle.mvo_core.specs.Data.{CoreData}
use Rattle.mvo_core.specs.View.{core_data}
use Rattle.mvo_core.specs.Standing.{StandsFor}
use Rattle.mvo_content.specs.Works.{WorksData}
use Rattle.mvo_core.specs.WholeStanding.{StandsInWhole}
use Rattle.mvo_core.specs.Steps.{came}
use Rattle.mvo_core.proofs.Begun.{begin_leads, begin_refused}
use Rattle.mvo_core.proofs.WholeStands.{whole_stands_on}
use Rattle.mvo_core.proofs.Waits.{begun_waits}
use Rattle.mvo_core.specs.WholeStanding.{readers_of, StandsWhole}
use Rattle.mvo_readonly.specs.WholeCauses.WholeCall.{CoreCall}
use Rattle.mvo_theory.specs.Calls.Result.{Refused}
use Rattle.mvo_core.proofs.OthersLead.{others_lead}
use Rattle.mvo_core.proofs.event_core.Core.begin_tx.Goals as goal

pub returns-in-Some-clause-step : goal.returns-in-Some-clause-step
returns-in-Some-clause-step c = λ opening steps s h.
    begin_refused no_readers opening steps s c.args.self.now h c.in-Some.refusal
    (subst (λ o. IsTableRefusal o c.in-Some.refusal) (sym (ap (λ (x : CoreData). why_not_begun x.table) (sym c.self.view_is) ∙ sym c.why_not_begun.ensures ∙ c.in-Some.is)) refl)

pub invariant_of-self : goal.invariant_of-self
invariant_of-self c =
    let f = c.self.inside in
    let old : CoreData = record (core_data f) { tale = c.give_list.new.tale; works = c.give_list.new.works } in
    let i : StandsInWhole old = subst (λ (p : List TalePlace × WorksData). StandsInWhole (record (core_data f) { tale = p.0; works = p.1 })) (λ j. (sym c.give_list.ensures.tale j, sym c.give_list.ensures.works j)) c.self.invariant.stands in
    record {
      stands =
          whole_stands_on i (CoreCall Begin) (came c.begin.result) (record old { table = c.begin.new.self })
          (others_lead i.opening i.steps i.own i.whole Begin (came c.begin.result) old (record old { table = c.begin.new.self }) i.stands refl tt
          (begin_leads (readers_of i.whole) i.opening i.own i.whole.core old i.stands.core c.begun.result c.begun.ensures.dependencies
          (ap (λ w. w.words) c.begun.ensures.writes ∙ c.take-writes.ensures) c.begun.ensures.kind
          c.begin.result c.begin.new.self c.begin.ensures.ok c.begin.ensures.no_cause c.begin.ensures.refused c.begin.ensures.err));
      waiting = begun_waits f.table c.begin.new.self c.begun.result f.versions.slots f.waiting c.begin.result c.begin.ensures.ok c.begin.ensures.err c.self.invariant.waiting;
    }

pub returns-clause-step : goal.returns-clause-step
returns-clause-step c = λ opening steps s h.
    let f = c.self.inside in
    let old : CoreData = record (core_data f) { tale = c.give_list.new.tale; works = c.give_list.new.works } in
    let g : StandsFor opening steps s (core_data f) = subst (StandsFor opening steps s) (sym c.self.view_is) h in
    let stands : StandsFor opening steps s old = subst (λ (p : List TalePlace × WorksData). StandsFor opening steps s (record (core_data f) { tale = p.0; works = p.1 })) (λ j. (sym c.give_list.ensures.tale j, sym c.give_list.ensures.works j)) g in
    begin_leads no_readers opening steps s old stands c.begun.result c.begun.ensures.dependencies
    (ap (λ w. w.words) c.begun.ensures.writes ∙ c.take-writes.ensures) c.begun.ensures.kind
    c.begin.result c.begin.new.self c.begin.ensures.ok c.begin.ensures.no_cause c.begin.ensures.refused c.begin.ensures.err

-- ---- beside read-only ones
pub returns-in-Some-clause-whole : goal.returns-in-Some-clause-whole
returns-in-Some-clause-whole c = λ opening steps own w h.
    others_lead opening steps own w Begin (Refused c.in-Some.refusal) c.args.self.now c.args.self.now h refl tt
    (begin_refused (readers_of w) opening own w.core c.args.self.now h.core c.in-Some.refusal
    (subst (λ o. IsTableRefusal o c.in-Some.refusal) (sym (ap (λ (x : CoreData). why_not_begun x.table) (sym c.self.view_is) ∙ sym c.why_not_begun.ensures ∙ c.in-Some.is)) refl))

pub returns-clause-whole : goal.returns-clause-whole
returns-clause-whole c = λ opening steps own w h.
    let f = c.self.inside in
    let old : CoreData = record (core_data f) { tale = c.give_list.new.tale; works = c.give_list.new.works } in
    let g : StandsWhole opening steps own w (core_data f) = subst (StandsWhole opening steps own w) (sym c.self.view_is) h in
    let stands : StandsWhole opening steps own w old = subst (λ (p : List TalePlace × WorksData). StandsWhole opening steps own w (record (core_data f) { tale = p.0; works = p.1 })) (λ j. (sym c.give_list.ensures.tale j, sym c.give_list.ensures.works j)) g in
    others_lead opening steps own w Begin (came c.begin.result) old (record old { table = c.begin.new.self }) stands refl tt
    (begin_leads (readers_of w) opening own w.core old stands.core c.begun.result c.begun.ensures.dependencies
    (ap (λ w. w.words) c.begun.ensures.writes ∙ c.take-writes.ensures) c.begun.ensures.kind
    c.begin.result c.begin.new.self c.begin.ensures.ok c.begin.ensures.no_cause c.begin.ensures.refused c.begin.ensures.err)
