use Rattle.std.proofs.Common.{sym, ap, ◌∙◌, subst, refl}
use Rattle.mvo_types.specs.declared.op.Op.TheVariants.{Scan}
use Rattle.mvo_types.specs.declared.refusal.Refusal.TheVariants.{OutOfMemory}
use Rattle.mvo_types.specs.AnswerData.{answer_data}
use Rattle.mvo_theory.specs.Calls.Call.{Do}
use Rattle.mvo_theory.specs.Calls.Result.{Accepted, Refused}
use Rattle.mvo_types.specs.declared.entry.Entry.TheVariants.{Range}
use Rattle.mvo_core.specs.Readers.{no_readers}
use Rattle.mvo_core.specs.Causes.{why_not_look}
use Rattle.mvo_shared.specs.Kept.{WorkContent}
use Rattle.mvo_core.specs.Own.{done_in}
use Rattle.mvo_core.specs.Data.{CoreData}
use Rattle.mvo_core.specs.View.{core_data}
use Rattle.mvo_core.specs.Standing.{StandsFor}
use Rattle.mvo_core.specs.Steps.{LeadsOn}
use Rattle.mvo_core.proofs.WholeStands.{whole_stands_on}
use Rattle.mvo_core.proofs.Asked.{own_if_active, unfinished_if_own, active_if_looked, may_look_failing}
use Rattle.mvo_core.proofs.Refused.{came_spent}
use Rattle.mvo_core.proofs.WorksHeld.{stands_same_works, whole_same_works}
use Rattle.mvo_core.proofs.ScanRefused.{scan_refused, scan_spent, scan_spent_roomy}
use Rattle.mvo_core.proofs.ScanAnswered.{scan_answers, scan_leads, scan_may_be_told, scan_fits}
use Rattle.mvo_core.proofs.Waits.{waits_alike, alike_depending, alike_same}
use Rattle.mvo_core.specs.WholeStanding.{readers_of, StandsWhole, LeadsWhole}
use Rattle.mvo_readonly.specs.WholeCauses.WholeCall.{CoreCall}
use Rattle.mvo_core.proofs.WholeReads.{look_refused, may_look_whole, look_leads, look_spent}
use Rattle.mvo_core.proofs.CausesTold.{MayLook}
use Rattle.mvo_core.specs.Steps.{came}
use Rattle.mvo_core.proofs.event_core.Core.scan.Goals as goal

pub give_up-requires : goal.give_up-requires
give_up-requires c =
    may_look_failing c.args.self.now.table (done_in c.args.self.now.works c.args.tx.0) c.args.tx.0 c.args.table (Range c.args.table c.args.lo c.args.hi) c.in-Some.refusal
    (ap (λ (x : CoreData). why_not_look x.table (done_in x.works c.args.tx.0) c.args.tx.0 c.args.table (Range c.args.table c.args.lo c.args.hi)) (sym c.self.view_is) ∙ sym c.not_looked.ensures ∙ c.in-Some.is)

pub register_all-requires : goal.register_all-requires
register_all-requires c = unfinished_if_own c.self.inside.table c.args.tx.0 (own_if_active c.self.inside.table c.args.tx.0 (active_if_looked c.self.inside.table (done_in c.self.inside.works c.args.tx.0) c.args.tx.0 c.args.table (Range c.args.table c.args.lo c.args.hi) (sym c.not_looked.ensures ∙ c.in_default.is)))

pub returns-in-Some-clause-step : goal.returns-in-Some-clause-step
returns-in-Some-clause-step c = λ opening steps s h.
    subst (λ r. LeadsOn opening steps s (Do c.args.tx.0 (Scan c.args.table c.args.lo c.args.hi)) (Refused r) c.give_up.new.self) (sym c.give_up.ensures.same)
    (scan_refused no_readers opening steps s c.args.self.now h c.args.tx c.args.table c.args.lo c.args.hi tt c.in-Some.refusal
    (ap (λ (x : CoreData). why_not_look x.table (done_in x.works c.args.tx.0) c.args.tx.0 c.args.table (Range c.args.table c.args.lo c.args.hi)) (sym c.self.view_is) ∙ sym c.not_looked.ensures ∙ c.in-Some.is) c.give_up.new.self
    (c.give_up.ensures.left no_readers opening steps s refl h))

pub returns-in_err-scanned-clause-step : goal.returns-in_err-scanned-clause-step
returns-in_err-scanned-clause-step c = λ opening steps s h.
    subst (λ r. LeadsOn opening steps s (Do c.args.tx.0 (Scan c.args.table c.args.lo c.args.hi)) r c.args.self.now) (came_spent c.from_residual.result c.from_residual.ensures.1)
    (scan_spent no_readers opening steps s c.args.self.now h c.args.tx c.args.table c.args.lo c.args.hi tt
    (ap (λ (x : CoreData). why_not_look x.table (done_in x.works c.args.tx.0) c.args.tx.0 c.args.table (Range c.args.table c.args.lo c.args.hi)) (sym c.self.view_is) ∙ sym c.not_looked.ensures ∙ c.in_default.is))

pub returns-in_err-others-clause-step : goal.returns-in_err-others-clause-step
returns-in_err-others-clause-step c = λ opening steps s h.
    subst (λ r. LeadsOn opening steps s (Do c.args.tx.0 (Scan c.args.table c.args.lo c.args.hi)) r c.args.self.now) (came_spent c.from_residual-in_err-others.result c.from_residual-in_err-others.ensures.1)
    (scan_spent no_readers opening steps s c.args.self.now h c.args.tx c.args.table c.args.lo c.args.hi tt
    (ap (λ (x : CoreData). why_not_look x.table (done_in x.works c.args.tx.0) c.args.tx.0 c.args.table (Range c.args.table c.args.lo c.args.hi)) (sym c.self.view_is) ∙ sym c.not_looked.ensures ∙ c.in_default.is))

pub returns-in_err-others-clause-whole : goal.returns-in_err-others-clause-whole
returns-in_err-others-clause-whole c = λ opening steps own w h.
    let f = c.self.inside in
    let old : CoreData = core_data f in
    let g : StandsWhole opening steps own w old = subst (StandsWhole opening steps own w) (sym c.self.view_is) h in
    let looks = may_look_whole opening steps own w old g c.args.tx.0 (Scan c.args.table c.args.lo c.args.hi) c.args.table (Range c.args.table c.args.lo c.args.hi) refl (sym c.not_looked.ensures ∙ c.in_default.is) in
    subst (λ (x : CoreData). LeadsWhole opening steps own w (CoreCall (Do c.args.tx.0 (Scan c.args.table c.args.lo c.args.hi))) (came c.from_residual-in_err-others.result) x) c.self.view_is (
    subst (λ r. LeadsWhole opening steps own w (CoreCall (Do c.args.tx.0 (Scan c.args.table c.args.lo c.args.hi))) r old) (came_spent c.from_residual-in_err-others.result c.from_residual-in_err-others.ensures.1)
    (look_spent opening steps own w old g c.args.tx.0 (Scan c.args.table c.args.lo c.args.hi) c.args.table (Range c.args.table c.args.lo c.args.hi) refl (sym c.not_looked.ensures ∙ c.in_default.is) _
    (scan_spent (readers_of w) opening own w.core old g.core c.args.tx c.args.table c.args.lo c.args.hi looks (sym c.not_looked.ensures ∙ c.in_default.is))))

-- ---- the work is prepared
pub prepare-requires : goal.prepare-requires
prepare-requires c =
    let f = c.self.inside in
    let i = c.self.invariant.stands in
    let old : CoreData = core_data f in
    let looks = may_look_whole i.opening i.steps i.own i.whole old i.stands c.args.tx.0 (Scan c.args.table c.args.lo c.args.hi) c.args.table (Range c.args.table c.args.lo c.args.hi) refl (sym c.not_looked.ensures ∙ c.in_default.is) in
    scan_fits (readers_of i.whole) i.opening i.own i.whole.core old i.stands.core c.args.tx c.args.table c.args.lo c.args.hi (sym c.not_looked.ensures ∙ c.in_default.is) looks c.in_ok-scanned.scanned.rows.items c.in_ok-scanned.scanned.on.items c.in_ok-scanned.ensures (done_in c.self.inside.works c.args.tx.0) refl c.in_ok-others.others.items c.in_ok-others.ensures

pub invariant_of-self : goal.invariant_of-self
invariant_of-self c =
    let f = c.self.inside in
    let i = c.self.invariant.stands in
    let old : CoreData = core_data f in
    let now : CoreData = record old { works = c.prepare.new.self } in
    let g : StandsWhole i.opening i.steps i.own i.whole now = whole_same_works i.opening i.steps i.own i.whole old i.stands c.prepare.new.self c.prepare.ensures.same in
    record {
      stands =
          whole_stands_on i (CoreCall (Do c.args.tx.0 (Scan c.args.table c.args.lo c.args.hi))) (Refused OutOfMemory) now
          (let looks = may_look_whole i.opening i.steps i.own i.whole now g c.args.tx.0 (Scan c.args.table c.args.lo c.args.hi) c.args.table (Range c.args.table c.args.lo c.args.hi) refl (ap (λ (z : WorkContent). why_not_look c.self.inside.table z.history c.args.tx.0 c.args.table (Range c.args.table c.args.lo c.args.hi)) (c.prepare.ensures.same c.args.tx.0) ∙ sym c.not_looked.ensures ∙ c.in_default.is) in
          (look_spent i.opening i.steps i.own i.whole now g c.args.tx.0 (Scan c.args.table c.args.lo c.args.hi) c.args.table (Range c.args.table c.args.lo c.args.hi) refl (ap (λ (z : WorkContent). why_not_look c.self.inside.table z.history c.args.tx.0 c.args.table (Range c.args.table c.args.lo c.args.hi)) (c.prepare.ensures.same c.args.tx.0) ∙ sym c.not_looked.ensures ∙ c.in_default.is) _
          (scan_spent (readers_of i.whole) i.opening i.own i.whole.core now g.core c.args.tx c.args.table c.args.lo c.args.hi looks (ap (λ (z : WorkContent). why_not_look c.self.inside.table z.history c.args.tx.0 c.args.table (Range c.args.table c.args.lo c.args.hi)) (c.prepare.ensures.same c.args.tx.0) ∙ sym c.not_looked.ensures ∙ c.in_default.is))));
      waiting = c.self.invariant.waiting;
    }

pub returns-in_err-next-clause-step : goal.returns-in_err-next-clause-step
returns-in_err-next-clause-step c = λ opening steps s h.
    let f = c.self.inside in
    let old : CoreData = core_data f in
    let now : CoreData = record old { works = c.prepare.new.self } in
    subst (λ r. LeadsOn opening steps s (Do c.args.tx.0 (Scan c.args.table c.args.lo c.args.hi)) r now) (came_spent c.from_residual-in_err-next.result c.from_residual-in_err-next.ensures.1)
    (scan_spent no_readers opening steps s now (stands_same_works no_readers opening steps s old (subst (StandsFor opening steps s) (sym c.self.view_is) h) c.prepare.new.self c.prepare.ensures.same) c.args.tx c.args.table c.args.lo c.args.hi tt (ap (λ (z : WorkContent). why_not_look c.self.inside.table z.history c.args.tx.0 c.args.table (Range c.args.table c.args.lo c.args.hi)) (c.prepare.ensures.same c.args.tx.0) ∙ sym c.not_looked.ensures ∙ c.in_default.is))

pub returns-in_err-next-clause-whole : goal.returns-in_err-next-clause-whole
returns-in_err-next-clause-whole c = λ opening steps own w h.
    let f = c.self.inside in
    let old : CoreData = core_data f in
    let now : CoreData = record old { works = c.prepare.new.self } in
    let g : StandsWhole opening steps own w now = whole_same_works opening steps own w old (subst (StandsWhole opening steps own w) (sym c.self.view_is) h) c.prepare.new.self c.prepare.ensures.same in
    let looks = may_look_whole opening steps own w now g c.args.tx.0 (Scan c.args.table c.args.lo c.args.hi) c.args.table (Range c.args.table c.args.lo c.args.hi) refl (ap (λ (z : WorkContent). why_not_look c.self.inside.table z.history c.args.tx.0 c.args.table (Range c.args.table c.args.lo c.args.hi)) (c.prepare.ensures.same c.args.tx.0) ∙ sym c.not_looked.ensures ∙ c.in_default.is) in
    subst (λ r. LeadsWhole opening steps own w (CoreCall (Do c.args.tx.0 (Scan c.args.table c.args.lo c.args.hi))) r now) (came_spent c.from_residual-in_err-next.result c.from_residual-in_err-next.ensures.1)
    (look_spent opening steps own w now g c.args.tx.0 (Scan c.args.table c.args.lo c.args.hi) c.args.table (Range c.args.table c.args.lo c.args.hi) refl (ap (λ (z : WorkContent). why_not_look c.self.inside.table z.history c.args.tx.0 c.args.table (Range c.args.table c.args.lo c.args.hi)) (c.prepare.ensures.same c.args.tx.0) ∙ sym c.not_looked.ensures ∙ c.in_default.is) _
    (scan_spent (readers_of w) opening own w.core now g.core c.args.tx c.args.table c.args.lo c.args.hi looks (ap (λ (z : WorkContent). why_not_look c.self.inside.table z.history c.args.tx.0 c.args.table (Range c.args.table c.args.lo c.args.hi)) (c.prepare.ensures.same c.args.tx.0) ∙ sym c.not_looked.ensures ∙ c.in_default.is)))

pub tell-requires : goal.tell-requires
tell-requires c =
    let f = c.self.inside in
    let i = c.self.invariant.stands in
    let old : CoreData = core_data f in
    let now : CoreData = record old { works = c.prepare.new.self } in
    let g : StandsWhole i.opening i.steps i.own i.whole now = whole_same_works i.opening i.steps i.own i.whole old i.stands c.prepare.new.self c.prepare.ensures.same in
    let looks = may_look_whole i.opening i.steps i.own i.whole now g c.args.tx.0 (Scan c.args.table c.args.lo c.args.hi) c.args.table (Range c.args.table c.args.lo c.args.hi) refl (ap (λ (z : WorkContent). why_not_look c.self.inside.table z.history c.args.tx.0 c.args.table (Range c.args.table c.args.lo c.args.hi)) (c.prepare.ensures.same c.args.tx.0) ∙ sym c.not_looked.ensures ∙ c.in_default.is) in
    scan_may_be_told (readers_of i.whole) i.opening i.own i.whole.core now g.core c.args.tx c.args.table c.args.lo c.args.hi (ap (λ (z : WorkContent). why_not_look c.self.inside.table z.history c.args.tx.0 c.args.table (Range c.args.table c.args.lo c.args.hi)) (c.prepare.ensures.same c.args.tx.0) ∙ sym c.not_looked.ensures ∙ c.in_default.is) looks _ c.in_ok-next.next c.in_ok-next.ensures.next

pub invariant_of-self-in_err-register_all : goal.invariant_of-self-in_err-register_all
invariant_of-self-in_err-register_all c =
    let f = c.self.inside in
    let i = c.self.invariant.stands in
    let old : CoreData = core_data f in
    let now : CoreData = record old { works = c.prepare.new.self } in
    let g : StandsWhole i.opening i.steps i.own i.whole now = whole_same_works i.opening i.steps i.own i.whole old i.stands c.prepare.new.self c.prepare.ensures.same in
    record {
      stands =
          whole_stands_on i (CoreCall (Do c.args.tx.0 (Scan c.args.table c.args.lo c.args.hi))) (Refused OutOfMemory) (record now { table = c.register_all.new.table })
          (let looks = may_look_whole i.opening i.steps i.own i.whole now g c.args.tx.0 (Scan c.args.table c.args.lo c.args.hi) c.args.table (Range c.args.table c.args.lo c.args.hi) refl (ap (λ (z : WorkContent). why_not_look c.self.inside.table z.history c.args.tx.0 c.args.table (Range c.args.table c.args.lo c.args.hi)) (c.prepare.ensures.same c.args.tx.0) ∙ sym c.not_looked.ensures ∙ c.in_default.is) in
          (look_spent i.opening i.steps i.own i.whole now g c.args.tx.0 (Scan c.args.table c.args.lo c.args.hi) c.args.table (Range c.args.table c.args.lo c.args.hi) refl (ap (λ (z : WorkContent). why_not_look c.self.inside.table z.history c.args.tx.0 c.args.table (Range c.args.table c.args.lo c.args.hi)) (c.prepare.ensures.same c.args.tx.0) ∙ sym c.not_looked.ensures ∙ c.in_default.is) _
          (scan_spent_roomy (readers_of i.whole) i.opening i.own i.whole.core now g.core c.args.tx c.args.table c.args.lo c.args.hi looks (ap (λ (z : WorkContent). why_not_look c.self.inside.table z.history c.args.tx.0 c.args.table (Range c.args.table c.args.lo c.args.hi)) (c.prepare.ensures.same c.args.tx.0) ∙ sym c.not_looked.ensures ∙ c.in_default.is) c.register_all.new.table c.in_err-register_all.ensures.err)));
      waiting = waits_alike f.table c.register_all.new.table f.versions.slots f.waiting (alike_same f.table c.register_all.new.table c.in_err-register_all.ensures.err) c.self.invariant.waiting;
    }

pub returns-in_err-register_all-clause-step : goal.returns-in_err-register_all-clause-step
returns-in_err-register_all-clause-step c = λ opening steps s h.
    let f = c.self.inside in
    let old : CoreData = core_data f in
    let now : CoreData = record old { works = c.prepare.new.self } in
    subst (λ r. LeadsOn opening steps s (Do c.args.tx.0 (Scan c.args.table c.args.lo c.args.hi)) r (record now { table = c.register_all.new.table })) (came_spent c.from_residual-in_err-register_all.result c.from_residual-in_err-register_all.ensures.1)
    (scan_spent_roomy no_readers opening steps s now (stands_same_works no_readers opening steps s old (subst (StandsFor opening steps s) (sym c.self.view_is) h) c.prepare.new.self c.prepare.ensures.same) c.args.tx c.args.table c.args.lo c.args.hi tt (ap (λ (z : WorkContent). why_not_look c.self.inside.table z.history c.args.tx.0 c.args.table (Range c.args.table c.args.lo c.args.hi)) (c.prepare.ensures.same c.args.tx.0) ∙ sym c.not_looked.ensures ∙ c.in_default.is) c.register_all.new.table c.in_err-register_all.ensures.err)

pub invariant_of-self-2 : goal.invariant_of-self-2
invariant_of-self-2 c =
    let f = c.self.inside in
    let i = c.self.invariant.stands in
    let old : CoreData = core_data f in
    let now : CoreData = record old { works = c.prepare.new.self } in
    let g : StandsWhole i.opening i.steps i.own i.whole now = whole_same_works i.opening i.steps i.own i.whole old i.stands c.prepare.new.self c.prepare.ensures.same in
    record {
      stands =
          whole_stands_on i (CoreCall (Do c.args.tx.0 (Scan c.args.table c.args.lo c.args.hi))) Accepted (record now { table = c.register_all.new.table; works = c.tell.new.self })
          (let looks = may_look_whole i.opening i.steps i.own i.whole now g c.args.tx.0 (Scan c.args.table c.args.lo c.args.hi) c.args.table (Range c.args.table c.args.lo c.args.hi) refl (ap (λ (z : WorkContent). why_not_look c.self.inside.table z.history c.args.tx.0 c.args.table (Range c.args.table c.args.lo c.args.hi)) (c.prepare.ensures.same c.args.tx.0) ∙ sym c.not_looked.ensures ∙ c.in_default.is) in
          look_leads i.opening i.steps i.own i.whole now g c.args.tx.0 (Scan c.args.table c.args.lo c.args.hi) c.args.table (Range c.args.table c.args.lo c.args.hi) refl (ap (λ (z : WorkContent). why_not_look c.self.inside.table z.history c.args.tx.0 c.args.table (Range c.args.table c.args.lo c.args.hi)) (c.prepare.ensures.same c.args.tx.0) ∙ sym c.not_looked.ensures ∙ c.in_default.is) _
          (scan_leads (readers_of i.whole) i.opening i.own i.whole.core now g.core c.args.tx c.args.table c.args.lo c.args.hi (ap (λ (z : WorkContent). why_not_look c.self.inside.table z.history c.args.tx.0 c.args.table (Range c.args.table c.args.lo c.args.hi)) (c.prepare.ensures.same c.args.tx.0) ∙ sym c.not_looked.ensures ∙ c.in_default.is) looks c.in_ok-scanned.scanned.rows.items c.in_ok-scanned.scanned.on.items c.in_ok-scanned.ensures c.deref.result.now c.deref.ensures.value c.register_all.new.table c.in_ok-register_all.ensures.ok
          (done_in c.self.inside.works c.args.tx.0) (sym (ap (λ (z : WorkContent). z.history) (c.prepare.ensures.same c.args.tx.0))) c.in_ok-others.others.items c.in_ok-others.ensures c.tell.new.self
          (record { next = c.in_ok-next.next; prepared = c.in_ok-next.ensures.next; told = c.tell.ensures.told })));
      waiting = waits_alike f.table c.register_all.new.table f.versions.slots f.waiting (alike_depending f.table c.register_all.new.table c.args.tx c.deref.result.now c.in_ok-register_all.ensures.ok) c.self.invariant.waiting;
    }

pub returns-clause-step : goal.returns-clause-step
returns-clause-step c = λ opening steps s h.
    let f = c.self.inside in
    let old : CoreData = core_data f in
    let now : CoreData = record old { works = c.prepare.new.self } in
    scan_leads no_readers opening steps s now (stands_same_works no_readers opening steps s old (subst (StandsFor opening steps s) (sym c.self.view_is) h) c.prepare.new.self c.prepare.ensures.same) c.args.tx c.args.table c.args.lo c.args.hi (ap (λ (z : WorkContent). why_not_look c.self.inside.table z.history c.args.tx.0 c.args.table (Range c.args.table c.args.lo c.args.hi)) (c.prepare.ensures.same c.args.tx.0) ∙ sym c.not_looked.ensures ∙ c.in_default.is) tt c.in_ok-scanned.scanned.rows.items c.in_ok-scanned.scanned.on.items c.in_ok-scanned.ensures c.deref.result.now c.deref.ensures.value c.register_all.new.table c.in_ok-register_all.ensures.ok
    (done_in c.self.inside.works c.args.tx.0) (sym (ap (λ (z : WorkContent). z.history) (c.prepare.ensures.same c.args.tx.0))) c.in_ok-others.others.items c.in_ok-others.ensures c.tell.new.self
    (record { next = c.in_ok-next.next; prepared = c.in_ok-next.ensures.next; told = c.tell.ensures.told })

pub returns-clause-answer : goal.returns-clause-answer
returns-clause-answer c = λ opening steps s h.
    let f = c.self.inside in
    let old : CoreData = core_data f in
    let now : CoreData = record old { works = c.prepare.new.self } in
    scan_answers no_readers opening steps s now (stands_same_works no_readers opening steps s old (subst (StandsFor opening steps s) (sym c.self.view_is) h) c.prepare.new.self c.prepare.ensures.same) c.args.tx c.args.table c.args.lo c.args.hi (ap (λ (z : WorkContent). why_not_look c.self.inside.table z.history c.args.tx.0 c.args.table (Range c.args.table c.args.lo c.args.hi)) (c.prepare.ensures.same c.args.tx.0) ∙ sym c.not_looked.ensures ∙ c.in_default.is) tt c.in_ok-scanned.scanned.rows.items c.in_ok-scanned.scanned.on.items c.in_ok-scanned.ensures
    (done_in c.self.inside.works c.args.tx.0) (sym (ap (λ (z : WorkContent). z.history) (c.prepare.ensures.same c.args.tx.0))) c.in_ok-others.others.items c.in_ok-others.ensures c.in_ok-next.next c.in_ok-next.ensures.next (answer_data c.tell.result) c.tell.ensures.answer

-- ---- beside read-only ones
pub returns-in-Some-clause-whole : goal.returns-in-Some-clause-whole
returns-in-Some-clause-whole c = λ opening steps own w h.
    subst (λ r. LeadsWhole opening steps own w (CoreCall (Do c.args.tx.0 (Scan c.args.table c.args.lo c.args.hi))) (Refused r) c.give_up.new.self) (sym c.give_up.ensures.same)
    (look_refused opening steps own w c.args.self.now h c.args.tx.0 (Scan c.args.table c.args.lo c.args.hi) c.args.table (Range c.args.table c.args.lo c.args.hi) refl c.in-Some.refusal
    (ap (λ (x : CoreData). why_not_look x.table (done_in x.works c.args.tx.0) c.args.tx.0 c.args.table (Range c.args.table c.args.lo c.args.hi)) (sym c.self.view_is) ∙ sym c.not_looked.ensures ∙ c.in-Some.is)
    c.give_up.new.self c.give_up.ensures.reader (λ other. scan_refused (readers_of w) opening own w.core c.args.self.now h.core c.args.tx c.args.table c.args.lo c.args.hi (subst MayLook (sym other) tt) c.in-Some.refusal
    (ap (λ (x : CoreData). why_not_look x.table (done_in x.works c.args.tx.0) c.args.tx.0 c.args.table (Range c.args.table c.args.lo c.args.hi)) (sym c.self.view_is) ∙ sym c.not_looked.ensures ∙ c.in-Some.is) c.give_up.new.self
    (c.give_up.ensures.left (readers_of w) opening own w.core other h.core)))

pub returns-in_err-scanned-clause-whole : goal.returns-in_err-scanned-clause-whole
returns-in_err-scanned-clause-whole c = λ opening steps own w h.
    let f = c.self.inside in
    let old : CoreData = core_data f in
    let g : StandsWhole opening steps own w old = subst (StandsWhole opening steps own w) (sym c.self.view_is) h in
    let looks = may_look_whole opening steps own w old g c.args.tx.0 (Scan c.args.table c.args.lo c.args.hi) c.args.table (Range c.args.table c.args.lo c.args.hi) refl (sym c.not_looked.ensures ∙ c.in_default.is) in
    subst (λ (x : CoreData). LeadsWhole opening steps own w (CoreCall (Do c.args.tx.0 (Scan c.args.table c.args.lo c.args.hi))) (came c.from_residual.result) x) c.self.view_is (
    subst (λ r. LeadsWhole opening steps own w (CoreCall (Do c.args.tx.0 (Scan c.args.table c.args.lo c.args.hi))) r old) (came_spent c.from_residual.result c.from_residual.ensures.1)
    (look_spent opening steps own w old g c.args.tx.0 (Scan c.args.table c.args.lo c.args.hi) c.args.table (Range c.args.table c.args.lo c.args.hi) refl (sym c.not_looked.ensures ∙ c.in_default.is) _
    (scan_spent (readers_of w) opening own w.core old g.core c.args.tx c.args.table c.args.lo c.args.hi looks
    (sym c.not_looked.ensures ∙ c.in_default.is))))

pub returns-in_err-register_all-clause-whole : goal.returns-in_err-register_all-clause-whole
returns-in_err-register_all-clause-whole c = λ opening steps own w h.
    let f = c.self.inside in
    let old : CoreData = core_data f in
    let now : CoreData = record old { works = c.prepare.new.self } in
    let g : StandsWhole opening steps own w now = whole_same_works opening steps own w old (subst (StandsWhole opening steps own w) (sym c.self.view_is) h) c.prepare.new.self c.prepare.ensures.same in
    let looks = may_look_whole opening steps own w now g c.args.tx.0 (Scan c.args.table c.args.lo c.args.hi) c.args.table (Range c.args.table c.args.lo c.args.hi) refl (ap (λ (z : WorkContent). why_not_look c.self.inside.table z.history c.args.tx.0 c.args.table (Range c.args.table c.args.lo c.args.hi)) (c.prepare.ensures.same c.args.tx.0) ∙ sym c.not_looked.ensures ∙ c.in_default.is) in
    subst (λ r. LeadsWhole opening steps own w (CoreCall (Do c.args.tx.0 (Scan c.args.table c.args.lo c.args.hi))) r (record now { table = c.register_all.new.table })) (came_spent c.from_residual-in_err-register_all.result c.from_residual-in_err-register_all.ensures.1)
    (look_spent opening steps own w now g c.args.tx.0 (Scan c.args.table c.args.lo c.args.hi) c.args.table (Range c.args.table c.args.lo c.args.hi) refl (ap (λ (z : WorkContent). why_not_look c.self.inside.table z.history c.args.tx.0 c.args.table (Range c.args.table c.args.lo c.args.hi)) (c.prepare.ensures.same c.args.tx.0) ∙ sym c.not_looked.ensures ∙ c.in_default.is) _
    (scan_spent_roomy (readers_of w) opening own w.core now g.core c.args.tx c.args.table c.args.lo c.args.hi looks (ap (λ (z : WorkContent). why_not_look c.self.inside.table z.history c.args.tx.0 c.args.table (Range c.args.table c.args.lo c.args.hi)) (c.prepare.ensures.same c.args.tx.0) ∙ sym c.not_looked.ensures ∙ c.in_default.is) c.register_all.new.table c.in_err-register_all.ensures.err))

pub returns-clause-whole : goal.returns-clause-whole
returns-clause-whole c = λ opening steps own w h.
    let f = c.self.inside in
    let old : CoreData = core_data f in
    let now : CoreData = record old { works = c.prepare.new.self } in
    let g : StandsWhole opening steps own w now = whole_same_works opening steps own w old (subst (StandsWhole opening steps own w) (sym c.self.view_is) h) c.prepare.new.self c.prepare.ensures.same in
    let looks = may_look_whole opening steps own w now g c.args.tx.0 (Scan c.args.table c.args.lo c.args.hi) c.args.table (Range c.args.table c.args.lo c.args.hi) refl (ap (λ (z : WorkContent). why_not_look c.self.inside.table z.history c.args.tx.0 c.args.table (Range c.args.table c.args.lo c.args.hi)) (c.prepare.ensures.same c.args.tx.0) ∙ sym c.not_looked.ensures ∙ c.in_default.is) in
    look_leads opening steps own w now g c.args.tx.0 (Scan c.args.table c.args.lo c.args.hi) c.args.table (Range c.args.table c.args.lo c.args.hi) refl (ap (λ (z : WorkContent). why_not_look c.self.inside.table z.history c.args.tx.0 c.args.table (Range c.args.table c.args.lo c.args.hi)) (c.prepare.ensures.same c.args.tx.0) ∙ sym c.not_looked.ensures ∙ c.in_default.is) _
    (scan_leads (readers_of w) opening own w.core now g.core c.args.tx c.args.table c.args.lo c.args.hi (ap (λ (z : WorkContent). why_not_look c.self.inside.table z.history c.args.tx.0 c.args.table (Range c.args.table c.args.lo c.args.hi)) (c.prepare.ensures.same c.args.tx.0) ∙ sym c.not_looked.ensures ∙ c.in_default.is) looks c.in_ok-scanned.scanned.rows.items c.in_ok-scanned.scanned.on.items c.in_ok-scanned.ensures c.deref.result.now c.deref.ensures.value c.register_all.new.table c.in_ok-register_all.ensures.ok
    (done_in c.self.inside.works c.args.tx.0) (sym (ap (λ (z : WorkContent). z.history) (c.prepare.ensures.same c.args.tx.0))) c.in_ok-others.others.items c.in_ok-others.ensures c.tell.new.self
    (record { next = c.in_ok-next.next; prepared = c.in_ok-next.ensures.next; told = c.tell.ensures.told }))

pub returns-clause-whole_answer : goal.returns-clause-whole_answer
returns-clause-whole_answer c = λ opening steps own w h.
    let f = c.self.inside in
    let old : CoreData = core_data f in
    let now : CoreData = record old { works = c.prepare.new.self } in
    let g : StandsWhole opening steps own w now = whole_same_works opening steps own w old (subst (StandsWhole opening steps own w) (sym c.self.view_is) h) c.prepare.new.self c.prepare.ensures.same in
    let looks = may_look_whole opening steps own w now g c.args.tx.0 (Scan c.args.table c.args.lo c.args.hi) c.args.table (Range c.args.table c.args.lo c.args.hi) refl (ap (λ (z : WorkContent). why_not_look c.self.inside.table z.history c.args.tx.0 c.args.table (Range c.args.table c.args.lo c.args.hi)) (c.prepare.ensures.same c.args.tx.0) ∙ sym c.not_looked.ensures ∙ c.in_default.is) in
    scan_answers (readers_of w) opening own w.core now g.core c.args.tx c.args.table c.args.lo c.args.hi (ap (λ (z : WorkContent). why_not_look c.self.inside.table z.history c.args.tx.0 c.args.table (Range c.args.table c.args.lo c.args.hi)) (c.prepare.ensures.same c.args.tx.0) ∙ sym c.not_looked.ensures ∙ c.in_default.is) looks c.in_ok-scanned.scanned.rows.items c.in_ok-scanned.scanned.on.items c.in_ok-scanned.ensures
    (done_in c.self.inside.works c.args.tx.0) (sym (ap (λ (z : WorkContent). z.history) (c.prepare.ensures.same c.args.tx.0))) c.in_ok-others.others.items c.in_ok-others.ensures c.in_ok-next.next c.in_ok-next.ensures.next (answer_data c.tell.result) c.tell.ensures.answer
