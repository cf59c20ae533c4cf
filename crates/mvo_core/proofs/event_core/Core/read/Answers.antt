use Rattle.std.proofs.Common.{sym, ap, ◌∙◌, subst, refl}
use Rattle.std.specs.Option.{option_to_list}
use Rattle.mvo_types.specs.declared.op.Op.TheVariants.{Read}
use Rattle.mvo_types.specs.declared.refusal.Refusal.TheVariants.{OutOfMemory}
use Rattle.mvo_types.specs.AnswerData.{answer_data}
use Rattle.mvo_theory.specs.Calls.Call.{Do}
use Rattle.mvo_theory.specs.Calls.Result.{Accepted, Refused}
use Rattle.mvo_types.specs.declared.entry.Entry.TheVariants.{Key}
use Rattle.mvo_core.specs.Readers.{no_readers}
use Rattle.mvo_core.specs.Causes.{why_not_look}
use Rattle.mvo_shared.specs.Kept.{WorkContent}
use Rattle.mvo_core.specs.Own.{done_in}
use Rattle.mvo_core.specs.Data.{CoreData}
use Rattle.mvo_core.specs.View.{core_data}
use Rattle.mvo_core.specs.Standing.{StandsFor}
use Rattle.mvo_core.specs.Steps.{LeadsOn}
use Rattle.mvo_core.proofs.WholeStands.{whole_stands_on}
use Rattle.mvo_core.proofs.Asked.{own_if_active, unfinished_if_own, active_if_looked, may_look_failing}
use Rattle.mvo_core.proofs.Refused.{came_spent}
use Rattle.mvo_core.proofs.WorksHeld.{stands_same_works, whole_same_works}
use Rattle.mvo_core.proofs.Reading.{read_refused, read_spent_roomy, read_answers, read_leads, read_may_be_kept}
use Rattle.mvo_core.proofs.Waits.{waits_alike, alike_depending, alike_same}
use Rattle.mvo_core.specs.WholeStanding.{readers_of, StandsWhole, LeadsWhole}
use Rattle.mvo_readonly.specs.WholeCauses.WholeCall.{CoreCall}
use Rattle.mvo_core.proofs.WholeReads.{look_refused, may_look_whole, look_leads, look_spent}
use Rattle.mvo_core.proofs.CausesTold.{MayLook}
use Rattle.mvo_core.proofs.event_core.Core.read.Goals as goal

pub give_up-requires : goal.give_up-requires
give_up-requires c =
    may_look_failing c.args.self.now.table (done_in c.args.self.now.works c.args.tx.0) c.args.tx.0 c.args.key.table (Key c.args.key) c.in-Some.refusal
    (ap (λ (x : CoreData). why_not_look x.table (done_in x.works c.args.tx.0) c.args.tx.0 c.args.key.table (Key c.args.key)) (sym c.self.view_is) ∙ sym c.not_looked.ensures ∙ c.in-Some.is)

pub do_at_key-requires-clause-unfinished : goal.do_at_key-requires-clause-unfinished
do_at_key-requires-clause-unfinished c = unfinished_if_own c.self.inside.table c.args.tx.0 (own_if_active c.self.inside.table c.args.tx.0 (active_if_looked c.self.inside.table (done_in c.self.inside.works c.args.tx.0) c.args.tx.0 c.args.key.table (Key c.args.key) (sym c.not_looked.ensures ∙ c.in_default.is)))

pub do_at_key-requires-clause-work : goal.do_at_key-requires-clause-work
do_at_key-requires-clause-work c =
    let f = c.self.inside in
    let i = c.self.invariant.stands in
    let old : CoreData = core_data f in
    let looks = may_look_whole i.opening i.steps i.own i.whole old i.stands c.args.tx.0 (Read c.args.key) c.args.key.table (Key c.args.key) refl (sym c.not_looked.ensures ∙ c.in_default.is) in
    read_may_be_kept (readers_of i.whole) i.opening i.own i.whole.core old i.stands.core c.args.tx c.args.key looks (sym c.not_looked.ensures ∙ c.in_default.is) c.shown-seen.result c.shown-seen.ensures

pub returns-in-Some-clause-step : goal.returns-in-Some-clause-step
returns-in-Some-clause-step c = λ opening steps s h.
    subst (λ r. LeadsOn opening steps s (Do c.args.tx.0 (Read c.args.key)) (Refused r) c.give_up.new.self) (sym c.give_up.ensures.same)
    (read_refused no_readers opening steps s c.args.self.now h c.args.tx c.args.key tt c.in-Some.refusal
    (ap (λ (x : CoreData). why_not_look x.table (done_in x.works c.args.tx.0) c.args.tx.0 c.args.key.table (Key c.args.key)) (sym c.self.view_is) ∙ sym c.not_looked.ensures ∙ c.in-Some.is) c.give_up.new.self
    (c.give_up.ensures.left no_readers opening steps s refl h))

-- ---- nothing is done
pub invariant_of-self : goal.invariant_of-self
invariant_of-self c =
    let f = c.self.inside in
    let i = c.self.invariant.stands in
    let old : CoreData = core_data f in
    let now : CoreData = record old { works = c.do_at_key.new.works } in
    let g : StandsWhole i.opening i.steps i.own i.whole now = whole_same_works i.opening i.steps i.own i.whole old i.stands c.do_at_key.new.works c.in_err-answer.ensures.same in
    record {
      stands =
          whole_stands_on i (CoreCall (Do c.args.tx.0 (Read c.args.key))) (Refused OutOfMemory) (record now { table = c.do_at_key.new.table })
          (let looks = may_look_whole i.opening i.steps i.own i.whole now g c.args.tx.0 (Read c.args.key) c.args.key.table (Key c.args.key) refl (ap (λ (z : WorkContent). why_not_look c.self.inside.table z.history c.args.tx.0 c.args.key.table (Key c.args.key)) (c.in_err-answer.ensures.same c.args.tx.0) ∙ sym c.not_looked.ensures ∙ c.in_default.is) in
          (look_spent i.opening i.steps i.own i.whole now g c.args.tx.0 (Read c.args.key) c.args.key.table (Key c.args.key) refl (ap (λ (z : WorkContent). why_not_look c.self.inside.table z.history c.args.tx.0 c.args.key.table (Key c.args.key)) (c.in_err-answer.ensures.same c.args.tx.0) ∙ sym c.not_looked.ensures ∙ c.in_default.is) _
          (read_spent_roomy (readers_of i.whole) i.opening i.own i.whole.core now g.core c.args.tx c.args.key looks (ap (λ (z : WorkContent). why_not_look c.self.inside.table z.history c.args.tx.0 c.args.key.table (Key c.args.key)) (c.in_err-answer.ensures.same c.args.tx.0) ∙ sym c.not_looked.ensures ∙ c.in_default.is) c.do_at_key.new.table c.in_err-answer.ensures.alone)));
      waiting = waits_alike f.table c.do_at_key.new.table f.versions.slots f.waiting (alike_same f.table c.do_at_key.new.table c.in_err-answer.ensures.alone) c.self.invariant.waiting;
    }

pub returns-in_err-answer-clause-step : goal.returns-in_err-answer-clause-step
returns-in_err-answer-clause-step c = λ opening steps s h.
    let f = c.self.inside in
    let old : CoreData = core_data f in
    let now : CoreData = record old { works = c.do_at_key.new.works } in
    subst (λ r. LeadsOn opening steps s (Do c.args.tx.0 (Read c.args.key)) r (record now { table = c.do_at_key.new.table })) (came_spent c.from_residual.result c.from_residual.ensures.1)
    (read_spent_roomy no_readers opening steps s now (stands_same_works no_readers opening steps s old (subst (StandsFor opening steps s) (sym c.self.view_is) h) c.do_at_key.new.works c.in_err-answer.ensures.same) c.args.tx c.args.key tt (ap (λ (z : WorkContent). why_not_look c.self.inside.table z.history c.args.tx.0 c.args.key.table (Key c.args.key)) (c.in_err-answer.ensures.same c.args.tx.0) ∙ sym c.not_looked.ensures ∙ c.in_default.is) c.do_at_key.new.table c.in_err-answer.ensures.alone)

pub returns-in_err-answer-clause-whole : goal.returns-in_err-answer-clause-whole
returns-in_err-answer-clause-whole c = λ opening steps own w h.
    let f = c.self.inside in
    let old : CoreData = core_data f in
    let now : CoreData = record old { works = c.do_at_key.new.works } in
    let g : StandsWhole opening steps own w now = whole_same_works opening steps own w old (subst (StandsWhole opening steps own w) (sym c.self.view_is) h) c.do_at_key.new.works c.in_err-answer.ensures.same in
    let looks = may_look_whole opening steps own w now g c.args.tx.0 (Read c.args.key) c.args.key.table (Key c.args.key) refl (ap (λ (z : WorkContent). why_not_look c.self.inside.table z.history c.args.tx.0 c.args.key.table (Key c.args.key)) (c.in_err-answer.ensures.same c.args.tx.0) ∙ sym c.not_looked.ensures ∙ c.in_default.is) in
    subst (λ r. LeadsWhole opening steps own w (CoreCall (Do c.args.tx.0 (Read c.args.key))) r (record now { table = c.do_at_key.new.table })) (came_spent c.from_residual.result c.from_residual.ensures.1)
    (look_spent opening steps own w now g c.args.tx.0 (Read c.args.key) c.args.key.table (Key c.args.key) refl (ap (λ (z : WorkContent). why_not_look c.self.inside.table z.history c.args.tx.0 c.args.key.table (Key c.args.key)) (c.in_err-answer.ensures.same c.args.tx.0) ∙ sym c.not_looked.ensures ∙ c.in_default.is) _
    (read_spent_roomy (readers_of w) opening own w.core now g.core c.args.tx c.args.key looks (ap (λ (z : WorkContent). why_not_look c.self.inside.table z.history c.args.tx.0 c.args.key.table (Key c.args.key)) (c.in_err-answer.ensures.same c.args.tx.0) ∙ sym c.not_looked.ensures ∙ c.in_default.is) c.do_at_key.new.table c.in_err-answer.ensures.alone))

-- ---- it is done
pub invariant_of-self-2 : goal.invariant_of-self-2
invariant_of-self-2 c =
    let f = c.self.inside in
    let i = c.self.invariant.stands in
    let old : CoreData = core_data f in
    record {
      stands =
          whole_stands_on i (CoreCall (Do c.args.tx.0 (Read c.args.key))) Accepted (record old { table = c.do_at_key.new.table; works = c.do_at_key.new.works })
          (let looks = may_look_whole i.opening i.steps i.own i.whole old i.stands c.args.tx.0 (Read c.args.key) c.args.key.table (Key c.args.key) refl (sym c.not_looked.ensures ∙ c.in_default.is) in
          look_leads i.opening i.steps i.own i.whole old i.stands c.args.tx.0 (Read c.args.key) c.args.key.table (Key c.args.key) refl (sym c.not_looked.ensures ∙ c.in_default.is) _
          (read_leads (readers_of i.whole) i.opening i.own i.whole.core old i.stands.core c.args.tx c.args.key looks (sym c.not_looked.ensures ∙ c.in_default.is) c.shown-seen.result c.shown-seen.ensures
          c.do_at_key.new.table c.in_ok-answer.ensures.depends c.do_at_key.new.works c.in_ok-answer.ensures.told));
      waiting = waits_alike f.table c.do_at_key.new.table f.versions.slots f.waiting (alike_depending f.table c.do_at_key.new.table c.args.tx (option_to_list c.shown-seen.result.depends_on) c.in_ok-answer.ensures.depends) c.self.invariant.waiting;
    }

pub returns-clause-step : goal.returns-clause-step
returns-clause-step c = λ opening steps s h.
    let old : CoreData = core_data c.self.inside in
    read_leads no_readers opening steps s old (subst (StandsFor opening steps s) (sym c.self.view_is) h) c.args.tx c.args.key tt (sym c.not_looked.ensures ∙ c.in_default.is) c.shown-seen.result c.shown-seen.ensures
    c.do_at_key.new.table c.in_ok-answer.ensures.depends c.do_at_key.new.works c.in_ok-answer.ensures.told

pub returns-clause-answer : goal.returns-clause-answer
returns-clause-answer c = λ opening steps s h.
    let old : CoreData = core_data c.self.inside in
    read_answers no_readers opening steps s old (subst (StandsFor opening steps s) (sym c.self.view_is) h) c.args.tx c.args.key tt (sym c.not_looked.ensures ∙ c.in_default.is) c.shown-seen.result c.shown-seen.ensures (answer_data c.in_ok-answer.answer) c.in_ok-answer.ensures.answer

-- ---- beside read-only ones
pub returns-in-Some-clause-whole : goal.returns-in-Some-clause-whole
returns-in-Some-clause-whole c = λ opening steps own w h.
    subst (λ r. LeadsWhole opening steps own w (CoreCall (Do c.args.tx.0 (Read c.args.key))) (Refused r) c.give_up.new.self) (sym c.give_up.ensures.same)
    (look_refused opening steps own w c.args.self.now h c.args.tx.0 (Read c.args.key) c.args.key.table (Key c.args.key) refl c.in-Some.refusal
    (ap (λ (x : CoreData). why_not_look x.table (done_in x.works c.args.tx.0) c.args.tx.0 c.args.key.table (Key c.args.key)) (sym c.self.view_is) ∙ sym c.not_looked.ensures ∙ c.in-Some.is)
    c.give_up.new.self c.give_up.ensures.reader (λ other. read_refused (readers_of w) opening own w.core c.args.self.now h.core c.args.tx c.args.key (subst MayLook (sym other) tt) c.in-Some.refusal
    (ap (λ (x : CoreData). why_not_look x.table (done_in x.works c.args.tx.0) c.args.tx.0 c.args.key.table (Key c.args.key)) (sym c.self.view_is) ∙ sym c.not_looked.ensures ∙ c.in-Some.is) c.give_up.new.self
    (c.give_up.ensures.left (readers_of w) opening own w.core other h.core)))

pub returns-clause-whole : goal.returns-clause-whole
returns-clause-whole c = λ opening steps own w h.
    let old : CoreData = core_data c.self.inside in
    let g : StandsWhole opening steps own w old = subst (StandsWhole opening steps own w) (sym c.self.view_is) h in
    let looks = may_look_whole opening steps own w old g c.args.tx.0 (Read c.args.key) c.args.key.table (Key c.args.key) refl (sym c.not_looked.ensures ∙ c.in_default.is) in
    look_leads opening steps own w old g c.args.tx.0 (Read c.args.key) c.args.key.table (Key c.args.key) refl (sym c.not_looked.ensures ∙ c.in_default.is) _
    (read_leads (readers_of w) opening own w.core old g.core c.args.tx c.args.key looks (sym c.not_looked.ensures ∙ c.in_default.is) c.shown-seen.result c.shown-seen.ensures
    c.do_at_key.new.table c.in_ok-answer.ensures.depends c.do_at_key.new.works c.in_ok-answer.ensures.told)

pub returns-clause-whole_answer : goal.returns-clause-whole_answer
returns-clause-whole_answer c = λ opening steps own w h.
    let old : CoreData = core_data c.self.inside in
    let g : StandsWhole opening steps own w old = subst (StandsWhole opening steps own w) (sym c.self.view_is) h in
    let looks = may_look_whole opening steps own w old g c.args.tx.0 (Read c.args.key) c.args.key.table (Key c.args.key) refl (sym c.not_looked.ensures ∙ c.in_default.is) in
    read_answers (readers_of w) opening own w.core old g.core c.args.tx c.args.key looks (sym c.not_looked.ensures ∙ c.in_default.is) c.shown-seen.result c.shown-seen.ensures (answer_data c.in_ok-answer.answer) c.in_ok-answer.ensures.answer
