use Rattle.std.proofs.Common.{ℕ, sym, ap, ◌∙◌, subst, refl}
use Rattle.std.proofs.lemmas.Bool.{false≢true}
use Rattle.mvo_theory.specs.Calls.Call.{Trim}
use Rattle.mvo_theory.specs.Calls.Result.{Accepted, Refused}
use Rattle.mvo_types.specs.declared.refusal.Refusal.TheVariants.{NothingToDo}
use Rattle.mvo_tale.specs.Forgetting.{forgotten}
use Rattle.mvo_core.proofs.CausesTold.{may_write}
use Rattle.mvo_core.specs.Readers.{no_readers}
use Rattle.mvo_core.specs.Data.{CoreData}
use Rattle.mvo_core.specs.View.{core_data}
use Rattle.mvo_core.specs.Standing.{StandsFor}
use Rattle.mvo_core.specs.Steps.{LeadsOn}
use Rattle.mvo_core.proofs.WholeStands.{whole_stands_on}
use Rattle.mvo_core.proofs.Trimmed.{trim_refused, trim_leads}
use Rattle.mvo_core.specs.WholeStanding.{StandsWhole, LeadsWhole}
use Rattle.mvo_readonly.specs.WholeCauses.WholeCall.{CoreCall}
use Rattle.mvo_core.proofs.WholeTrims.{trim_refused_whole, trim_to_reader, trim_leads_whole}
use Rattle.mvo_core.proofs.event_core.Core.trim_tale.Goals as goal

pub returns-then-not-is_within-clause-step : goal.returns-then-not-is_within-clause-step
returns-then-not-is_within-clause-step c = λ opening steps s h.
    let f = c.self.inside in
    let old : CoreData = core_data f in
    let g : StandsFor opening steps s old = subst (StandsFor opening steps s) (sym c.self.view_is) h in
    subst (LeadsOn opening steps s (Trim c.args.upto.0) (Refused NothingToDo)) c.self.view_is
    (trim_refused no_readers opening steps s old g c.args.upto.0 c.oldest_begin-oldest.result.0 c.low_water-low_water.result.0 c.oldest_begin-oldest.ensures c.low_water-low_water.ensures (sym c.is_within.ensures ∙ c.if-not-is_within.true))

pub returns-then-is_begin_of_reader-clause-step : goal.returns-then-is_begin_of_reader-clause-step
returns-then-is_begin_of_reader-clause-step c = λ opening steps s h.
    let f = c.self.inside in
    let old : CoreData = core_data f in
    let g : StandsFor opening steps s old = subst (StandsFor opening steps s) (sym c.self.view_is) h in
    absurd (false≢true (sym (may_write no_readers opening steps s old g c.args.upto.0 refl) ∙ sym c.is_begin_of_reader.ensures ∙ c.if-is_begin_of_reader.true))

pub invariant_of-self : goal.invariant_of-self
invariant_of-self c =
    let f = c.self.inside in
    let i = c.self.invariant.stands in
    let old : CoreData = core_data f in
    record {
      stands =
          whole_stands_on i (CoreCall (Trim c.args.upto.0)) Accepted (record old { start = c.args.upto.0; tale = c.forget.new.self })
          (trim_leads_whole i.opening i.steps i.own i.whole old i.stands c.args.upto.0 c.oldest_begin-oldest.result.0 c.low_water-low_water.result.0 c.oldest_begin-oldest.ensures c.low_water-low_water.ensures (sym c.is_within.ensures ∙ c.if-not-is_within.false)
          (sym c.is_begin_of_reader.ensures ∙ c.if-is_begin_of_reader.false) c.forget.new.self (c.forget.ensures ∙ ap (λ (n : ℕ). forgotten n f.tale) c.lesser.ensures));
      waiting = c.self.invariant.waiting;
    }

pub returns-clause-step : goal.returns-clause-step
returns-clause-step c = λ opening steps s h.
    let f = c.self.inside in
    let old : CoreData = core_data f in
    let g : StandsFor opening steps s old = subst (StandsFor opening steps s) (sym c.self.view_is) h in
    trim_leads no_readers opening steps s old g c.args.upto.0 c.oldest_begin-oldest.result.0 c.low_water-low_water.result.0 c.oldest_begin-oldest.ensures c.low_water-low_water.ensures (sym c.is_within.ensures ∙ c.if-not-is_within.false)
    c.forget.new.self (c.forget.ensures ∙ ap (λ (n : ℕ). forgotten n f.tale) c.lesser.ensures)

-- ---- beside read-only ones
pub returns-then-not-is_within-clause-whole : goal.returns-then-not-is_within-clause-whole
returns-then-not-is_within-clause-whole c = λ opening steps own w h.
    let f = c.self.inside in
    let old : CoreData = core_data f in
    let g : StandsWhole opening steps own w old = subst (StandsWhole opening steps own w) (sym c.self.view_is) h in
    subst (LeadsWhole opening steps own w (CoreCall (Trim c.args.upto.0)) (Refused NothingToDo)) c.self.view_is
    (trim_refused_whole opening steps own w old g c.args.upto.0 c.oldest_begin-oldest.result.0 c.low_water-low_water.result.0 c.oldest_begin-oldest.ensures c.low_water-low_water.ensures (sym c.is_within.ensures ∙ c.if-not-is_within.true))

pub returns-then-is_begin_of_reader-clause-whole : goal.returns-then-is_begin_of_reader-clause-whole
returns-then-is_begin_of_reader-clause-whole c = λ opening steps own w h.
    let f = c.self.inside in
    let old : CoreData = core_data f in
    let g : StandsWhole opening steps own w old = subst (StandsWhole opening steps own w) (sym c.self.view_is) h in
    subst (LeadsWhole opening steps own w (CoreCall (Trim c.args.upto.0)) (Refused NothingToDo)) c.self.view_is
    (trim_to_reader opening steps own w old g c.args.upto.0 c.oldest_begin-oldest.result.0 c.low_water-low_water.result.0 c.oldest_begin-oldest.ensures c.low_water-low_water.ensures (sym c.is_within.ensures ∙ c.if-not-is_within.false)
    (sym c.is_begin_of_reader.ensures ∙ c.if-is_begin_of_reader.true))

pub returns-clause-whole : goal.returns-clause-whole
returns-clause-whole c = λ opening steps own w h.
    let f = c.self.inside in
    let old : CoreData = core_data f in
    let g : StandsWhole opening steps own w old = subst (StandsWhole opening steps own w) (sym c.self.view_is) h in
    trim_leads_whole opening steps own w old g c.args.upto.0 c.oldest_begin-oldest.result.0 c.low_water-low_water.result.0 c.oldest_begin-oldest.ensures c.low_water-low_water.ensures (sym c.is_within.ensures ∙ c.if-not-is_within.false)
    (sym c.is_begin_of_reader.ensures ∙ c.if-is_begin_of_reader.false) c.forget.new.self (c.forget.ensures ∙ ap (λ (n : ℕ). forgotten n f.tale) c.lesser.ensures)
