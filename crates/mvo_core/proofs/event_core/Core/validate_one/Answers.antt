use Rattle.std.proofs.Common.{◌≡◌, Some, sym, ap, ◌∙◌, subst, refl}
use Rattle.mvo_types.specs.declared.refusal.Refusal.TheVariants.{ValidationFailed}
use Rattle.mvo_theory.specs.Calls.Call.{Validate}
use Rattle.mvo_theory.specs.Calls.Result.{Accepted, Refused}
use Rattle.mvo_core.specs.Readers.{no_readers}
use Rattle.mvo_core.specs.View.{core_data}
use Rattle.mvo_core.specs.Causes.{why_not_preparing}
use Rattle.mvo_core.specs.Standing.{StandsFor}
use Rattle.mvo_core.specs.Aborting.{IsGivenUp}
use Rattle.mvo_core.specs.Steps.{LeadsOn}
use Rattle.mvo_core.proofs.WholeStands.{whole_stands_on}
use Rattle.mvo_core.proofs.Validating.{validate_refused, fall, valid_leads, valid_answers, differs_leads, own_there, counted_leads, counts_as}
use Rattle.mvo_core.specs.Data.{CoreData, own_of}
use Rattle.mvo_core.specs.Own.{done_in}
use Rattle.mvo_core.specs.Checking.{entries_to_check}
use Rattle.mvo_core.specs.Keeping.{IsCounted}
use Rattle.mvo_core.proofs.Waits.{waits_alike, alike_written}
use Rattle.mvo_readonly.specs.WholeCauses.WholeCall.{CoreCall}
use Rattle.mvo_core.specs.WholeStanding.{StandsWhole, LeadsWhole}
use Rattle.mvo_core.proofs.WholeChecks.{validate_refused_whole, valid_leads_whole, valid_answers_whole, differs_leads_whole, counted_leads_whole, counts_as_whole, own_there_whole}
use Rattle.mvo_core.proofs.event_core.Core.validate_one.Goals as goal

pub returns-in-Refused-clause-step : goal.returns-in-Refused-clause-step
returns-in-Refused-clause-step c = λ opening steps s h.
    let f = c.self.inside in
    let old : CoreData = core_data f in
    let why : why_not_preparing old.table c.args.tx.0 ≡ Some c.in-Refused.refusal = c.in-Refused.ensures in
    subst (λ r. LeadsOn opening steps s (Validate c.args.tx.0) (Refused r) c.give_up.new.self) (sym c.give_up.ensures.same)
    (validate_refused no_readers opening steps s c.args.self.now h c.args.tx.0 refl c.in-Refused.refusal c.give_up.new.self
    (ap (λ (v : CoreData). why_not_preparing v.table c.args.tx.0) (sym c.self.view_is) ∙ why) c.give_up.ensures.left)

pub returns-in-Valid-clause-step : goal.returns-in-Valid-clause-step
returns-in-Valid-clause-step c = λ opening steps s h.
    let f = c.self.inside in
    let old : CoreData = core_data f in
    let g : StandsFor opening steps s old = subst (StandsFor opening steps s) (sym c.self.view_is) h in
    subst (LeadsOn opening steps s (Validate c.args.tx.0) Accepted) c.self.view_is
    (valid_leads no_readers opening steps s old g c.args.tx.0 c.in-Valid.ensures.none refl c.in-Valid.ensures.valid_is)

pub returns-in-Valid-clause-answer : goal.returns-in-Valid-clause-answer
returns-in-Valid-clause-answer c = λ opening steps s h.
    let f = c.self.inside in
    let old : CoreData = core_data f in
    let g : StandsFor opening steps s old = subst (StandsFor opening steps s) (sym c.self.view_is) h in
    valid_answers no_readers opening steps s old g c.args.tx.0 c.in-Valid.ensures.none refl c.in-Valid.ensures.valid_is

pub returns-in-Differs-clause-step : goal.returns-in-Differs-clause-step
returns-in-Differs-clause-step c = λ opening steps s h.
    let f = c.self.inside in
    let i = c.self.invariant.stands in
    let old : CoreData = core_data f in
    let g : StandsFor opening steps s old = subst (StandsFor opening steps s) (sym c.self.view_is) h in
    let left : IsGivenUp old c.args.tx.0 (ValidationFailed c.in-Differs.stamp) c.give_up-in-Differs.new.self = subst (λ (v : CoreData). IsGivenUp v c.args.tx.0 (ValidationFailed c.in-Differs.stamp) c.give_up-in-Differs.new.self) (sym c.self.view_is) c.give_up-in-Differs.ensures.left in
    subst (λ r. LeadsOn opening steps s (Validate c.args.tx.0) (Refused r) c.give_up-in-Differs.new.self) (sym c.give_up-in-Differs.ensures.same)
    (differs_leads no_readers opening steps s old g c.args.tx.0 c.in-Differs.ensures.0.none refl c.in-Differs.ensures.0.valid_is c.in-Differs.stamp c.give_up-in-Differs.new.self (c.in-Differs.ensures.1 (fall no_readers opening steps s old g)) left)

pub count_check-requires : goal.count_check-requires
count_check-requires c =
    let f = c.self.inside in
    let i = c.self.invariant.stands in
    let old : CoreData = core_data f in
    own_there_whole i.opening i.steps i.own i.whole old i.stands c.args.tx.0 c.in-Same.ensures.0.none

pub invariant_of-self : goal.invariant_of-self
invariant_of-self c =
    let f = c.self.inside in
    let i = c.self.invariant.stands in
    let old : CoreData = core_data f in
    record {
      stands =
          whole_stands_on i (CoreCall (Validate c.args.tx.0)) Accepted (record old { table = c.count_check.new.table })
          (counted_leads_whole i.opening i.steps i.own i.whole old i.stands c.args.tx.0 c.in-Same.ensures.0.none c.in-Same.ensures.0.valid_is c.count_check.new.table c.count_check.ensures.counted c.in-Same.ensures.1);
      waiting = waits_alike f.table c.count_check.new.table f.versions.slots f.waiting (alike_written f.table c.count_check.new.table c.args.tx.0 (IsCounted (entries_to_check (done_in f.works c.args.tx.0) (own_of f.table c.args.tx.0))) c.count_check.ensures.counted) c.self.invariant.waiting;
    }

pub returns-in-Same-clause-step : goal.returns-in-Same-clause-step
returns-in-Same-clause-step c = λ opening steps s h.
    let f = c.self.inside in
    let old : CoreData = core_data f in
    let g : StandsFor opening steps s old = subst (StandsFor opening steps s) (sym c.self.view_is) h in
    counted_leads no_readers opening steps s old g c.args.tx.0 c.in-Same.ensures.0.none refl c.in-Same.ensures.0.valid_is c.count_check.new.table c.count_check.ensures.counted (c.in-Same.ensures.1 (fall no_readers opening steps s old g))

pub returns-in-Same-clause-answer : goal.returns-in-Same-clause-answer
returns-in-Same-clause-answer c = λ opening steps s h.
    let f = c.self.inside in
    let old : CoreData = core_data f in
    let g : StandsFor opening steps s old = subst (StandsFor opening steps s) (sym c.self.view_is) h in
    c.count_check.ensures.answer ∙ counts_as no_readers opening steps s old g c.args.tx.0 c.in-Same.ensures.0.none refl c.in-Same.ensures.0.valid_is

-- ---- with read-only ones beside
pub returns-in-Refused-clause-whole : goal.returns-in-Refused-clause-whole
returns-in-Refused-clause-whole c = λ opening steps own w h.
    let f = c.self.inside in
    let old : CoreData = core_data f in
    let why : why_not_preparing old.table c.args.tx.0 ≡ Some c.in-Refused.refusal = c.in-Refused.ensures in
    subst (λ r. LeadsWhole opening steps own w (CoreCall (Validate c.args.tx.0)) (Refused r) c.give_up.new.self) (sym c.give_up.ensures.same)
    (validate_refused_whole opening steps own w c.args.self.now h c.args.tx.0 c.in-Refused.refusal c.give_up.new.self
    (ap (λ (v : CoreData). why_not_preparing v.table c.args.tx.0) (sym c.self.view_is) ∙ why) c.give_up.ensures.left c.give_up.ensures.reader)

pub returns-in-Valid-clause-whole : goal.returns-in-Valid-clause-whole
returns-in-Valid-clause-whole c = λ opening steps own w h.
    let f = c.self.inside in
    let old : CoreData = core_data f in
    let g : StandsWhole opening steps own w old = subst (StandsWhole opening steps own w) (sym c.self.view_is) h in
    subst (LeadsWhole opening steps own w (CoreCall (Validate c.args.tx.0)) Accepted) c.self.view_is
    (valid_leads_whole opening steps own w old g c.args.tx.0 c.in-Valid.ensures.none c.in-Valid.ensures.valid_is)

pub returns-in-Valid-clause-whole_answer : goal.returns-in-Valid-clause-whole_answer
returns-in-Valid-clause-whole_answer c = λ opening steps own w h.
    let f = c.self.inside in
    let old : CoreData = core_data f in
    let g : StandsWhole opening steps own w old = subst (StandsWhole opening steps own w) (sym c.self.view_is) h in
    valid_answers_whole opening steps own w old g c.args.tx.0 c.in-Valid.ensures.none c.in-Valid.ensures.valid_is

pub returns-in-Differs-clause-whole : goal.returns-in-Differs-clause-whole
returns-in-Differs-clause-whole c = λ opening steps own w h.
    let f = c.self.inside in
    let old : CoreData = core_data f in
    let g : StandsWhole opening steps own w old = subst (StandsWhole opening steps own w) (sym c.self.view_is) h in
    let left : IsGivenUp old c.args.tx.0 (ValidationFailed c.in-Differs.stamp) c.give_up-in-Differs.new.self = subst (λ (v : CoreData). IsGivenUp v c.args.tx.0 (ValidationFailed c.in-Differs.stamp) c.give_up-in-Differs.new.self) (sym c.self.view_is) c.give_up-in-Differs.ensures.left in
    subst (λ r. LeadsWhole opening steps own w (CoreCall (Validate c.args.tx.0)) (Refused r) c.give_up-in-Differs.new.self) (sym c.give_up-in-Differs.ensures.same)
    (differs_leads_whole opening steps own w old g c.args.tx.0 c.in-Differs.ensures.0.none c.in-Differs.ensures.0.valid_is c.in-Differs.stamp c.give_up-in-Differs.new.self c.in-Differs.ensures.1 left)

pub returns-in-Same-clause-whole : goal.returns-in-Same-clause-whole
returns-in-Same-clause-whole c = λ opening steps own w h.
    let f = c.self.inside in
    let old : CoreData = core_data f in
    let g : StandsWhole opening steps own w old = subst (StandsWhole opening steps own w) (sym c.self.view_is) h in
    counted_leads_whole opening steps own w old g c.args.tx.0 c.in-Same.ensures.0.none c.in-Same.ensures.0.valid_is c.count_check.new.table c.count_check.ensures.counted c.in-Same.ensures.1

pub returns-in-Same-clause-whole_answer : goal.returns-in-Same-clause-whole_answer
returns-in-Same-clause-whole_answer c = λ opening steps own w h.
    let f = c.self.inside in
    let old : CoreData = core_data f in
    let g : StandsWhole opening steps own w old = subst (StandsWhole opening steps own w) (sym c.self.view_is) h in
    c.count_check.ensures.answer ∙ counts_as_whole opening steps own w old g c.args.tx.0 c.in-Same.ensures.0.none c.in-Same.ensures.0.valid_is
