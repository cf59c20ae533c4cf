use Rattle.std.proofs.Common.{◌≡◌, sym, ap, ◌∙◌, subst, refl}
use Rattle.mvo_types.specs.declared.op.Op.TheVariants.{Update}
use Rattle.mvo_types.specs.declared.refusal.Refusal.TheVariants.{OutOfMemory}
use Rattle.mvo_theory.specs.Calls.Call.{Do}
use Rattle.mvo_theory.specs.Calls.Result.{Accepted, Refused}
use Rattle.mvo_txn.specs.Txns.{state_of, IsUnended}
use Rattle.mvo_visible.specs.Versions.{versions_at}
use Rattle.mvo_visible.specs.Shown.{AreVersionsInOrder}
use Rattle.mvo_core.specs.Readers.{no_readers}
use Rattle.mvo_core.specs.Causes.{why_not_put}
use Rattle.mvo_shared.specs.Kept.{WorkContent}
use Rattle.mvo_core.specs.Own.{done_in}
use Rattle.mvo_core.specs.Data.{CoreData}
use Rattle.mvo_core.specs.View.{core_data}
use Rattle.mvo_core.specs.Standing.{StandsFor}
use Rattle.mvo_core.specs.Steps.{LeadsOn}
use Rattle.mvo_core.proofs.Allowed.{unended_if_active}
use Rattle.mvo_core.proofs.Asked.{own_if_active, unfinished_if_own, active_if_put, may_put_failing}
use Rattle.mvo_core.proofs.WholeStands.{whole_stands_on}
use Rattle.mvo_core.proofs.CausesTold.{stands_active}
use Rattle.mvo_core.proofs.Looked.{shown_in}
use Rattle.mvo_core.proofs.Refused.{came_spent}
use Rattle.mvo_core.proofs.WorksHeld.{stands_same_works, whole_same_works}
use Rattle.mvo_core.proofs.Updating.{update_starved, update_refused, update_conflicts, update_spent, update_left, absent_answers, absent_leads, updated_answers, updated_live, updated_leads, update_may_be_told, update_fits}
use Rattle.std.specs.Option.{option_to_list}
use Rattle.mvo_core.proofs.Waits.{waits_roomy, waits_alike, alike_depending, alike_same, waits_spent, waits_replaced}
use Rattle.mvo_core.specs.WholeStanding.{readers_of, StandsWhole, LeadsWhole}
use Rattle.mvo_readonly.specs.WholeCauses.WholeCall.{CoreCall}
use Rattle.mvo_core.proofs.OthersLead.{others_lead}
use Rattle.mvo_core.proofs.WholeCalled.{stage_none}
use Rattle.mvo_core.proofs.WholeReads.{put_not_reading, put_refused_whole}
use Rattle.mvo_core.proofs.VersionCounts.{same_counts, replaced_counts, put_more, refused_more}
use Rattle.mvo_core.proofs.event_core.Core.update.Goals as goal

pub give_up-requires : goal.give_up-requires
give_up-requires c =
    may_put_failing c.args.self.now.table (done_in c.args.self.now.works c.args.tx.0) c.args.tx.0 c.args.row c.in-Some.refusal
    (ap (λ (x : CoreData). why_not_put x.table (done_in x.works c.args.tx.0) c.args.tx.0 c.args.row) (sym c.self.view_is) ∙ sym c.not_put.ensures ∙ c.in-Some.is)

pub depend-requires : goal.depend-requires
depend-requires c = unfinished_if_own c.self.inside.table c.args.tx.0 (own_if_active c.self.inside.table c.args.tx.0 (active_if_put c.self.inside.table (done_in c.self.inside.works c.args.tx.0) c.args.tx.0 c.args.row (sym c.not_put.ensures ∙ c.in_default.is)))

pub put_instead-requires-clause-there : goal.put_instead-requires-clause-there
put_instead-requires-clause-there c = own_if_active c.self.inside.table c.args.tx.0 (active_if_put c.self.inside.table (done_in c.self.inside.works c.args.tx.0) c.args.tx.0 c.args.row (sym c.not_put.ensures ∙ c.in_default.is))

pub returns-in-Some-clause-step : goal.returns-in-Some-clause-step
returns-in-Some-clause-step c = λ opening steps s h.
    subst (λ r. LeadsOn opening steps s (Do c.args.tx.0 (Update c.args.row)) (Refused r) c.give_up.new.self) (sym c.give_up.ensures.same)
    (update_refused no_readers opening steps s c.args.self.now h c.args.tx c.args.row refl c.in-Some.refusal
    (ap (λ (x : CoreData). why_not_put x.table (done_in x.works c.args.tx.0) c.args.tx.0 c.args.row) (sym c.self.view_is) ∙ sym c.not_put.ensures ∙ c.in-Some.is) c.give_up.new.self
    (c.give_up.ensures.left no_readers opening steps s refl h))

pub give_up-requires-in-Some-in_the_way : goal.give_up-requires-in-Some-in_the_way
give_up-requires-in-Some-in_the_way c = λ _.
    subst (λ (x : CoreData). IsUnended (state_of x.table c.args.tx.0)) c.self.view_is
    (unended_if_active c.self.inside.table c.args.tx.0 (active_if_put c.self.inside.table (done_in c.self.inside.works c.args.tx.0) c.args.tx.0 c.args.row (sym c.not_put.ensures ∙ c.in_default.is)))

pub returns-in-Some-in_the_way-clause-step : goal.returns-in-Some-in_the_way-clause-step
returns-in-Some-in_the_way-clause-step c = λ opening steps s h.
    let f = c.self.inside in
    let old : CoreData = core_data f in
    let is = subst (λ k. AreVersionsInOrder (state_of f.table) c.args.tx.0 c.args.tx.0 (versions_at f.versions.slots f.versions.lists k) → c.shown-found.result ≡ shown_in old c.args.tx.0 k) c.row_key-key.ensures c.shown-found.ensures in
    subst (λ r. LeadsOn opening steps s (Do c.args.tx.0 (Update c.args.row)) (Refused r) c.give_up-in-Some-in_the_way.new.self) (sym c.give_up-in-Some-in_the_way.ensures.same)
    (update_conflicts no_readers opening steps s old (subst (StandsFor opening steps s) (sym c.self.view_is) h) c.args.tx c.args.row refl (sym c.not_put.ensures ∙ c.in_default.is) c.shown-found.result is c.in-Some-in_the_way.cause (sym c.in_the_way.ensures ∙ c.in-Some-in_the_way.is)
    c.give_up-in-Some-in_the_way.new.self (c.give_up-in-Some-in_the_way.ensures.left no_readers opening steps s refl h))

pub prepare_update-requires : goal.prepare_update-requires
prepare_update-requires c =
    let f = c.self.inside in
    let i = c.self.invariant.stands in
    let old : CoreData = core_data f in
    let is = subst (λ k. AreVersionsInOrder (state_of f.table) c.args.tx.0 c.args.tx.0 (versions_at f.versions.slots f.versions.lists k) → c.shown-found.result ≡ shown_in old c.args.tx.0 k) c.row_key-key.ensures c.shown-found.ensures in
    update_fits (readers_of i.whole) i.opening i.own i.whole.core old i.stands.core c.args.tx c.args.row (stage_none (readers_of i.whole) i.opening i.own i.whole.core old i.stands.core c.args.tx.0 (put_not_reading f.table (done_in f.works c.args.tx.0) c.args.tx.0 c.args.row (sym c.not_put.ensures ∙ c.in_default.is))) (sym c.not_put.ensures ∙ c.in_default.is) c.shown-found.result is (sym c.in_the_way.ensures ∙ c.in_default-in_the_way.is)

pub invariant_of-self : goal.invariant_of-self
invariant_of-self c =
    let f = c.self.inside in
    let i = c.self.invariant.stands in
    let old : CoreData = core_data f in
    let now : CoreData = record old { works = c.prepare_update.new.works } in
    let g : StandsWhole i.opening i.steps i.own i.whole now = whole_same_works i.opening i.steps i.own i.whole old i.stands c.prepare_update.new.works c.prepare_update.ensures.same in
    let is = subst (λ k. AreVersionsInOrder (state_of f.table) c.args.tx.0 c.args.tx.0 (versions_at f.versions.slots f.versions.lists k) → c.shown-found.result ≡ shown_in now c.args.tx.0 k) c.row_key-key.ensures c.shown-found.ensures in
    record {
      stands =
          whole_stands_on i (CoreCall (Do c.args.tx.0 (Update c.args.row))) (Refused OutOfMemory) now
          (let other = (stage_none (readers_of i.whole) i.opening i.own i.whole.core now g.core c.args.tx.0 (put_not_reading f.table (done_in f.works c.args.tx.0) c.args.tx.0 c.args.row (sym c.not_put.ensures ∙ c.in_default.is))) in
          others_lead i.opening i.steps i.own i.whole (Do c.args.tx.0 (Update c.args.row)) _ now _ g other tt
          (update_starved (readers_of i.whole) i.opening i.own i.whole.core now g.core c.args.tx c.args.row other (ap (λ (z : WorkContent). why_not_put c.self.inside.table z.history c.args.tx.0 c.args.row) (c.prepare_update.ensures.same c.args.tx.0) ∙ sym c.not_put.ensures ∙ c.in_default.is) c.shown-found.result is (sym c.in_the_way.ensures ∙ c.in_default-in_the_way.is)));
      waiting = c.self.invariant.waiting;
    }

pub returns-in_err-next-clause-step : goal.returns-in_err-next-clause-step
returns-in_err-next-clause-step c = λ opening steps s h.
    let f = c.self.inside in
    let old : CoreData = core_data f in
    let now : CoreData = record old { works = c.prepare_update.new.works } in
    let is = subst (λ k. AreVersionsInOrder (state_of f.table) c.args.tx.0 c.args.tx.0 (versions_at f.versions.slots f.versions.lists k) → c.shown-found.result ≡ shown_in now c.args.tx.0 k) c.row_key-key.ensures c.shown-found.ensures in
    subst (λ r. LeadsOn opening steps s (Do c.args.tx.0 (Update c.args.row)) r now) (came_spent c.from_residual.result c.from_residual.ensures.1)
    (update_starved no_readers opening steps s now (stands_same_works no_readers opening steps s old (subst (StandsFor opening steps s) (sym c.self.view_is) h) c.prepare_update.new.works c.prepare_update.ensures.same) c.args.tx c.args.row refl (ap (λ (z : WorkContent). why_not_put c.self.inside.table z.history c.args.tx.0 c.args.row) (c.prepare_update.ensures.same c.args.tx.0) ∙ sym c.not_put.ensures ∙ c.in_default.is) c.shown-found.result is (sym c.in_the_way.ensures ∙ c.in_default-in_the_way.is))

pub returns-in_err-next-clause-whole : goal.returns-in_err-next-clause-whole
returns-in_err-next-clause-whole c = λ opening steps own w h.
    let f = c.self.inside in
    let old : CoreData = core_data f in
    let now : CoreData = record old { works = c.prepare_update.new.works } in
    let g : StandsWhole opening steps own w now = whole_same_works opening steps own w old (subst (StandsWhole opening steps own w) (sym c.self.view_is) h) c.prepare_update.new.works c.prepare_update.ensures.same in
    let other = stage_none (readers_of w) opening own w.core now g.core c.args.tx.0 (put_not_reading f.table (done_in f.works c.args.tx.0) c.args.tx.0 c.args.row (sym c.not_put.ensures ∙ c.in_default.is)) in
    let is = subst (λ k. AreVersionsInOrder (state_of f.table) c.args.tx.0 c.args.tx.0 (versions_at f.versions.slots f.versions.lists k) → c.shown-found.result ≡ shown_in now c.args.tx.0 k) c.row_key-key.ensures c.shown-found.ensures in
    subst (λ r. LeadsWhole opening steps own w (CoreCall (Do c.args.tx.0 (Update c.args.row))) r now) (came_spent c.from_residual.result c.from_residual.ensures.1)
    (others_lead opening steps own w (Do c.args.tx.0 (Update c.args.row)) _ now _ g other tt
    (update_starved (readers_of w) opening own w.core now g.core c.args.tx c.args.row other (ap (λ (z : WorkContent). why_not_put c.self.inside.table z.history c.args.tx.0 c.args.row) (c.prepare_update.ensures.same c.args.tx.0) ∙ sym c.not_put.ensures ∙ c.in_default.is) c.shown-found.result is (sym c.in_the_way.ensures ∙ c.in_default-in_the_way.is)))

pub tell-requires : goal.tell-requires
tell-requires c =
    let f = c.self.inside in
    let i = c.self.invariant.stands in
    let old : CoreData = core_data f in
    let now : CoreData = record old { works = c.prepare_update.new.works } in
    let g : StandsWhole i.opening i.steps i.own i.whole now = whole_same_works i.opening i.steps i.own i.whole old i.stands c.prepare_update.new.works c.prepare_update.ensures.same in
    let is = subst (λ k. AreVersionsInOrder (state_of f.table) c.args.tx.0 c.args.tx.0 (versions_at f.versions.slots f.versions.lists k) → c.shown-found.result ≡ shown_in now c.args.tx.0 k) c.row_key-key.ensures c.shown-found.ensures in
    update_may_be_told (readers_of i.whole) i.opening i.own i.whole.core now g.core c.args.tx c.args.row (stage_none (readers_of i.whole) i.opening i.own i.whole.core now g.core c.args.tx.0 (put_not_reading f.table (done_in f.works c.args.tx.0) c.args.tx.0 c.args.row (sym c.not_put.ensures ∙ c.in_default.is))) (ap (λ (z : WorkContent). why_not_put c.self.inside.table z.history c.args.tx.0 c.args.row) (c.prepare_update.ensures.same c.args.tx.0) ∙ sym c.not_put.ensures ∙ c.in_default.is) c.shown-found.result is (sym c.in_the_way.ensures ∙ c.in_default-in_the_way.is) _ c.in_ok-next.next c.in_ok-next.ensures.next

pub tell-requires-2 : goal.tell-requires-2
tell-requires-2 c =
    let f = c.self.inside in
    let i = c.self.invariant.stands in
    let old : CoreData = core_data f in
    let now : CoreData = record old { works = c.prepare_update.new.works } in
    let g : StandsWhole i.opening i.steps i.own i.whole now = whole_same_works i.opening i.steps i.own i.whole old i.stands c.prepare_update.new.works c.prepare_update.ensures.same in
    let is = subst (λ k. AreVersionsInOrder (state_of f.table) c.args.tx.0 c.args.tx.0 (versions_at f.versions.slots f.versions.lists k) → c.shown-found.result ≡ shown_in now c.args.tx.0 k) c.row_key-key.ensures c.shown-found.ensures in
    update_may_be_told (readers_of i.whole) i.opening i.own i.whole.core now g.core c.args.tx c.args.row (stage_none (readers_of i.whole) i.opening i.own i.whole.core now g.core c.args.tx.0 (put_not_reading f.table (done_in f.works c.args.tx.0) c.args.tx.0 c.args.row (sym c.not_put.ensures ∙ c.in_default.is))) (ap (λ (z : WorkContent). why_not_put c.self.inside.table z.history c.args.tx.0 c.args.row) (c.prepare_update.ensures.same c.args.tx.0) ∙ sym c.not_put.ensures ∙ c.in_default.is) c.shown-found.result is (sym c.in_the_way.ensures ∙ c.in_default-in_the_way.is) _ c.in_ok-next.next c.in_ok-next.ensures.next

pub invariant_of-self-in_err-depend : goal.invariant_of-self-in_err-depend
invariant_of-self-in_err-depend c =
    let f = c.self.inside in
    let i = c.self.invariant.stands in
    let old : CoreData = core_data f in
    let now : CoreData = record old { works = c.prepare_update.new.works } in
    let g : StandsWhole i.opening i.steps i.own i.whole now = whole_same_works i.opening i.steps i.own i.whole old i.stands c.prepare_update.new.works c.prepare_update.ensures.same in
    let is = subst (λ k. AreVersionsInOrder (state_of f.table) c.args.tx.0 c.args.tx.0 (versions_at f.versions.slots f.versions.lists k) → c.shown-found.result ≡ shown_in now c.args.tx.0 k) c.row_key-key.ensures c.shown-found.ensures in
    record {
      stands =
          whole_stands_on i (CoreCall (Do c.args.tx.0 (Update c.args.row))) (Refused OutOfMemory) (record now { table = c.depend.new.table })
          (let other = stage_none (readers_of i.whole) i.opening i.own i.whole.core now g.core c.args.tx.0 (put_not_reading f.table (done_in f.works c.args.tx.0) c.args.tx.0 c.args.row (sym c.not_put.ensures ∙ c.in_default.is)) in
          let is = subst (λ k. AreVersionsInOrder (state_of f.table) c.args.tx.0 c.args.tx.0 (versions_at f.versions.slots f.versions.lists k) → c.shown-found.result ≡ shown_in now c.args.tx.0 k) c.row_key-key.ensures c.shown-found.ensures in
          (others_lead i.opening i.steps i.own i.whole (Do c.args.tx.0 (Update c.args.row)) _ now _ g other tt
          (update_spent (readers_of i.whole) i.opening i.own i.whole.core now g.core c.args.tx c.args.row other (ap (λ (z : WorkContent). why_not_put c.self.inside.table z.history c.args.tx.0 c.args.row) (c.prepare_update.ensures.same c.args.tx.0) ∙ sym c.not_put.ensures ∙ c.in_default.is) c.shown-found.result is (sym c.in_the_way.ensures ∙ c.in_default-in_the_way.is) c.depend.new.table c.in_err-depend.ensures.err)));
      waiting = waits_alike f.table c.depend.new.table f.versions.slots f.waiting (alike_same f.table c.depend.new.table c.in_err-depend.ensures.err) c.self.invariant.waiting;
    }

pub returns-in_err-depend-clause-step : goal.returns-in_err-depend-clause-step
returns-in_err-depend-clause-step c = λ opening steps s h.
    let f = c.self.inside in
    let old : CoreData = core_data f in
    let now : CoreData = record old { works = c.prepare_update.new.works } in
    let is = subst (λ k. AreVersionsInOrder (state_of f.table) c.args.tx.0 c.args.tx.0 (versions_at f.versions.slots f.versions.lists k) → c.shown-found.result ≡ shown_in now c.args.tx.0 k) c.row_key-key.ensures c.shown-found.ensures in
    subst (λ r. LeadsOn opening steps s (Do c.args.tx.0 (Update c.args.row)) r (record now { table = c.depend.new.table })) (came_spent c.from_residual-in_err-depend.result c.from_residual-in_err-depend.ensures.1)
    (update_spent no_readers opening steps s now (stands_same_works no_readers opening steps s old (subst (StandsFor opening steps s) (sym c.self.view_is) h) c.prepare_update.new.works c.prepare_update.ensures.same) c.args.tx c.args.row refl (ap (λ (z : WorkContent). why_not_put c.self.inside.table z.history c.args.tx.0 c.args.row) (c.prepare_update.ensures.same c.args.tx.0) ∙ sym c.not_put.ensures ∙ c.in_default.is) c.shown-found.result is (sym c.in_the_way.ensures ∙ c.in_default-in_the_way.is) c.depend.new.table c.in_err-depend.ensures.err)

pub invariant_of-self-in_default-version : goal.invariant_of-self-in_default-version
invariant_of-self-in_default-version c =
    let f = c.self.inside in
    let i = c.self.invariant.stands in
    let old : CoreData = core_data f in
    let now : CoreData = record old { works = c.prepare_update.new.works } in
    let g : StandsWhole i.opening i.steps i.own i.whole now = whole_same_works i.opening i.steps i.own i.whole old i.stands c.prepare_update.new.works c.prepare_update.ensures.same in
    let is = subst (λ k. AreVersionsInOrder (state_of f.table) c.args.tx.0 c.args.tx.0 (versions_at f.versions.slots f.versions.lists k) → c.shown-found.result ≡ shown_in now c.args.tx.0 k) c.row_key-key.ensures c.shown-found.ensures in
    record {
      stands =
          whole_stands_on i (CoreCall (Do c.args.tx.0 (Update c.args.row))) Accepted (record now { table = c.depend.new.table; works = c.tell.new.self })
          (let other = stage_none (readers_of i.whole) i.opening i.own i.whole.core now g.core c.args.tx.0 (put_not_reading f.table (done_in f.works c.args.tx.0) c.args.tx.0 c.args.row (sym c.not_put.ensures ∙ c.in_default.is)) in
          let is = subst (λ k. AreVersionsInOrder (state_of f.table) c.args.tx.0 c.args.tx.0 (versions_at f.versions.slots f.versions.lists k) → c.shown-found.result ≡ shown_in now c.args.tx.0 k) c.row_key-key.ensures c.shown-found.ensures in
          others_lead i.opening i.steps i.own i.whole (Do c.args.tx.0 (Update c.args.row)) _ now _ g other tt
          (absent_leads (readers_of i.whole) i.opening i.own i.whole.core now g.core c.args.tx c.args.row other (ap (λ (z : WorkContent). why_not_put c.self.inside.table z.history c.args.tx.0 c.args.row) (c.prepare_update.ensures.same c.args.tx.0) ∙ sym c.not_put.ensures ∙ c.in_default.is) c.shown-found.result is (sym c.in_the_way.ensures ∙ c.in_default-in_the_way.is) c.in_default-version.is c.depend.new.table c.in_ok-depend.ensures.ok c.tell.new.self
          (record { next = c.in_ok-next.next; prepared = c.in_ok-next.ensures.next; told = c.tell.ensures.told })));
      waiting = waits_alike f.table c.depend.new.table f.versions.slots f.waiting (alike_depending f.table c.depend.new.table c.args.tx (option_to_list c.shown-found.result.depends_on) c.in_ok-depend.ensures.ok) c.self.invariant.waiting;
    }

pub returns-in_default-version-clause-step : goal.returns-in_default-version-clause-step
returns-in_default-version-clause-step c = λ opening steps s h.
    let f = c.self.inside in
    let old : CoreData = core_data f in
    let now : CoreData = record old { works = c.prepare_update.new.works } in
    let is = subst (λ k. AreVersionsInOrder (state_of f.table) c.args.tx.0 c.args.tx.0 (versions_at f.versions.slots f.versions.lists k) → c.shown-found.result ≡ shown_in now c.args.tx.0 k) c.row_key-key.ensures c.shown-found.ensures in
    absent_leads no_readers opening steps s now (stands_same_works no_readers opening steps s old (subst (StandsFor opening steps s) (sym c.self.view_is) h) c.prepare_update.new.works c.prepare_update.ensures.same) c.args.tx c.args.row refl (ap (λ (z : WorkContent). why_not_put c.self.inside.table z.history c.args.tx.0 c.args.row) (c.prepare_update.ensures.same c.args.tx.0) ∙ sym c.not_put.ensures ∙ c.in_default.is) c.shown-found.result is (sym c.in_the_way.ensures ∙ c.in_default-in_the_way.is) c.in_default-version.is c.depend.new.table c.in_ok-depend.ensures.ok c.tell.new.self
    (record { next = c.in_ok-next.next; prepared = c.in_ok-next.ensures.next; told = c.tell.ensures.told })

pub returns-in_default-version-clause-answer : goal.returns-in_default-version-clause-answer
returns-in_default-version-clause-answer c = λ opening steps s h.
    let f = c.self.inside in
    let old : CoreData = core_data f in
    let is = subst (λ k. AreVersionsInOrder (state_of f.table) c.args.tx.0 c.args.tx.0 (versions_at f.versions.slots f.versions.lists k) → c.shown-found.result ≡ shown_in old c.args.tx.0 k) c.row_key-key.ensures c.shown-found.ensures in
    absent_answers no_readers opening steps s old (subst (StandsFor opening steps s) (sym c.self.view_is) h) c.args.tx c.args.row refl (sym c.not_put.ensures ∙ c.in_default.is) c.shown-found.result is (sym c.in_the_way.ensures ∙ c.in_default-in_the_way.is) c.in_default-version.is

pub put_instead-requires-clause-live : goal.put_instead-requires-clause-live
put_instead-requires-clause-live c =
    let f = c.self.inside in
    let i = c.self.invariant.stands in
    let old : CoreData = core_data f in
    let is = subst (λ k. AreVersionsInOrder (state_of f.table) c.args.tx.0 c.args.tx.0 (versions_at f.versions.slots f.versions.lists k) → c.shown-found.result ≡ shown_in old c.args.tx.0 k) c.row_key-key.ensures c.shown-found.ensures in
    updated_live (readers_of i.whole) i.opening i.own i.whole.core old i.stands.core c.args.tx c.args.row (stage_none (readers_of i.whole) i.opening i.own i.whole.core old i.stands.core c.args.tx.0 (put_not_reading f.table (done_in f.works c.args.tx.0) c.args.tx.0 c.args.row (sym c.not_put.ensures ∙ c.in_default.is))) (sym c.not_put.ensures ∙ c.in_default.is) c.shown-found.result is (sym c.in_the_way.ensures ∙ c.in_default-in_the_way.is) c.in-Some-version.old c.in-Some-version.is

pub invariant_of-self-in_err-put_instead : goal.invariant_of-self-in_err-put_instead
invariant_of-self-in_err-put_instead c =
    let f = c.self.inside in
    let i = c.self.invariant.stands in
    let old : CoreData = core_data f in
    let now : CoreData = record old { works = c.prepare_update.new.works } in
    let g : StandsWhole i.opening i.steps i.own i.whole now = whole_same_works i.opening i.steps i.own i.whole old i.stands c.prepare_update.new.works c.prepare_update.ensures.same in
    let is = subst (λ k. AreVersionsInOrder (state_of f.table) c.args.tx.0 c.args.tx.0 (versions_at f.versions.slots f.versions.lists k) → c.shown-found.result ≡ shown_in now c.args.tx.0 k) c.row_key-key.ensures c.shown-found.ensures in
    record {
      stands =
          whole_stands_on i (CoreCall (Do c.args.tx.0 (Update c.args.row))) (Refused OutOfMemory) (record now { versions = c.put_instead.new.versions; table = c.put_instead.new.table })
          (let other = stage_none (readers_of i.whole) i.opening i.own i.whole.core now g.core c.args.tx.0 (put_not_reading f.table (done_in f.works c.args.tx.0) c.args.tx.0 c.args.row (sym c.not_put.ensures ∙ c.in_default.is)) in
          let is = subst (λ k. AreVersionsInOrder (state_of f.table) c.args.tx.0 c.args.tx.0 (versions_at f.versions.slots f.versions.lists k) → c.shown-found.result ≡ shown_in now c.args.tx.0 k) c.row_key-key.ensures c.shown-found.ensures in
          (others_lead i.opening i.steps i.own i.whole (Do c.args.tx.0 (Update c.args.row)) _ now _ g other tt
          (update_left (readers_of i.whole) i.opening i.own i.whole.core now g.core c.args.tx c.args.row other (ap (λ (z : WorkContent). why_not_put c.self.inside.table z.history c.args.tx.0 c.args.row) (c.prepare_update.ensures.same c.args.tx.0) ∙ sym c.not_put.ensures ∙ c.in_default.is) c.shown-found.result is (sym c.in_the_way.ensures ∙ c.in_default-in_the_way.is) c.put_instead.new.versions c.put_instead.new.table c.in_err-put_instead.ensures.err)));
      waiting = waits_spent f.table c.put_instead.new.table c.args.tx.0 f.versions c.put_instead.new.versions f.waiting c.make_room.new.self c.make_room.ensures.same c.in_err-put_instead.ensures.err.versions c.in_err-put_instead.ensures.err.own c.self.invariant.waiting;
    }

pub returns-in_err-put_instead-clause-step : goal.returns-in_err-put_instead-clause-step
returns-in_err-put_instead-clause-step c = λ opening steps s h.
    let f = c.self.inside in
    let old : CoreData = core_data f in
    let now : CoreData = record old { works = c.prepare_update.new.works } in
    let is = subst (λ k. AreVersionsInOrder (state_of f.table) c.args.tx.0 c.args.tx.0 (versions_at f.versions.slots f.versions.lists k) → c.shown-found.result ≡ shown_in now c.args.tx.0 k) c.row_key-key.ensures c.shown-found.ensures in
    subst (λ r. LeadsOn opening steps s (Do c.args.tx.0 (Update c.args.row)) r (record now { versions = c.put_instead.new.versions; table = c.put_instead.new.table })) (came_spent c.from_residual-in_err-put_instead.result c.from_residual-in_err-put_instead.ensures.1)
    (update_left no_readers opening steps s now (stands_same_works no_readers opening steps s old (subst (StandsFor opening steps s) (sym c.self.view_is) h) c.prepare_update.new.works c.prepare_update.ensures.same) c.args.tx c.args.row refl (ap (λ (z : WorkContent). why_not_put c.self.inside.table z.history c.args.tx.0 c.args.row) (c.prepare_update.ensures.same c.args.tx.0) ∙ sym c.not_put.ensures ∙ c.in_default.is) c.shown-found.result is (sym c.in_the_way.ensures ∙ c.in_default-in_the_way.is) c.put_instead.new.versions c.put_instead.new.table c.in_err-put_instead.ensures.err)

pub invariant_of-self-2 : goal.invariant_of-self-2
invariant_of-self-2 c =
    let f = c.self.inside in
    let i = c.self.invariant.stands in
    let old : CoreData = core_data f in
    let now : CoreData = record old { works = c.prepare_update.new.works } in
    let g : StandsWhole i.opening i.steps i.own i.whole now = whole_same_works i.opening i.steps i.own i.whole old i.stands c.prepare_update.new.works c.prepare_update.ensures.same in
    let is = subst (λ k. AreVersionsInOrder (state_of f.table) c.args.tx.0 c.args.tx.0 (versions_at f.versions.slots f.versions.lists k) → c.shown-found.result ≡ shown_in now c.args.tx.0 k) c.row_key-key.ensures c.shown-found.ensures in
    record {
      stands =
          whole_stands_on i (CoreCall (Do c.args.tx.0 (Update c.args.row))) Accepted (record now { versions = c.put_instead.new.versions; table = c.put_instead.new.table; works = c.tell-2.new.self })
          (let other = stage_none (readers_of i.whole) i.opening i.own i.whole.core now g.core c.args.tx.0 (put_not_reading f.table (done_in f.works c.args.tx.0) c.args.tx.0 c.args.row (sym c.not_put.ensures ∙ c.in_default.is)) in
          let is = subst (λ k. AreVersionsInOrder (state_of f.table) c.args.tx.0 c.args.tx.0 (versions_at f.versions.slots f.versions.lists k) → c.shown-found.result ≡ shown_in now c.args.tx.0 k) c.row_key-key.ensures c.shown-found.ensures in
          others_lead i.opening i.steps i.own i.whole (Do c.args.tx.0 (Update c.args.row)) _ now _ g other tt
          (updated_leads (readers_of i.whole) i.opening i.own i.whole.core now g.core c.args.tx c.args.row other (ap (λ (z : WorkContent). why_not_put c.self.inside.table z.history c.args.tx.0 c.args.row) (c.prepare_update.ensures.same c.args.tx.0) ∙ sym c.not_put.ensures ∙ c.in_default.is) c.shown-found.result is (sym c.in_the_way.ensures ∙ c.in_default-in_the_way.is) c.in-Some-version.old c.in-Some-version.is c.put_instead.new.versions c.put_instead.new.table c.in_ok-put_instead.ensures.ok c.tell-2.new.self
          (record { next = c.in_ok-next.next; prepared = c.in_ok-next.ensures.next; told = c.tell-2.ensures.told })));
      waiting = waits_replaced f.versions c.put_instead.new.versions f.table c.put_instead.new.table c.args.tx (option_to_list c.shown-found.result.depends_on) f.waiting c.make_room.new.self c.make_room.ensures.same c.in-Some-version.old c.args.row c.has_open_end-is_open.result c.owe.new.self c.owe_end.new.waiting (stands_active f.table c.args.tx.0 (active_if_put f.table (done_in f.works c.args.tx.0) c.args.tx.0 c.args.row (sym c.not_put.ensures ∙ c.in_default.is))) (updated_live (readers_of i.whole) i.opening i.own i.whole.core now g.core c.args.tx c.args.row (stage_none (readers_of i.whole) i.opening i.own i.whole.core now g.core c.args.tx.0 (put_not_reading f.table (done_in f.works c.args.tx.0) c.args.tx.0 c.args.row (sym c.not_put.ensures ∙ c.in_default.is))) (ap (λ (z : WorkContent). why_not_put c.self.inside.table z.history c.args.tx.0 c.args.row) (c.prepare_update.ensures.same c.args.tx.0) ∙ sym c.not_put.ensures ∙ c.in_default.is) c.shown-found.result is (sym c.in_the_way.ensures ∙ c.in_default-in_the_way.is) c.in-Some-version.old c.in-Some-version.is) c.in_ok-put_instead.ensures.ok c.has_open_end-is_open.ensures c.owe.ensures c.owe_end.ensures c.self.invariant.waiting;
    }

pub returns-clause-step : goal.returns-clause-step
returns-clause-step c = λ opening steps s h.
    let f = c.self.inside in
    let old : CoreData = core_data f in
    let now : CoreData = record old { works = c.prepare_update.new.works } in
    let is = subst (λ k. AreVersionsInOrder (state_of f.table) c.args.tx.0 c.args.tx.0 (versions_at f.versions.slots f.versions.lists k) → c.shown-found.result ≡ shown_in now c.args.tx.0 k) c.row_key-key.ensures c.shown-found.ensures in
    updated_leads no_readers opening steps s now (stands_same_works no_readers opening steps s old (subst (StandsFor opening steps s) (sym c.self.view_is) h) c.prepare_update.new.works c.prepare_update.ensures.same) c.args.tx c.args.row refl (ap (λ (z : WorkContent). why_not_put c.self.inside.table z.history c.args.tx.0 c.args.row) (c.prepare_update.ensures.same c.args.tx.0) ∙ sym c.not_put.ensures ∙ c.in_default.is) c.shown-found.result is (sym c.in_the_way.ensures ∙ c.in_default-in_the_way.is) c.in-Some-version.old c.in-Some-version.is c.put_instead.new.versions c.put_instead.new.table c.in_ok-put_instead.ensures.ok c.tell-2.new.self
    (record { next = c.in_ok-next.next; prepared = c.in_ok-next.ensures.next; told = c.tell-2.ensures.told })

pub returns-clause-answer : goal.returns-clause-answer
returns-clause-answer c = λ opening steps s h.
    let f = c.self.inside in
    let old : CoreData = core_data f in
    let is = subst (λ k. AreVersionsInOrder (state_of f.table) c.args.tx.0 c.args.tx.0 (versions_at f.versions.slots f.versions.lists k) → c.shown-found.result ≡ shown_in old c.args.tx.0 k) c.row_key-key.ensures c.shown-found.ensures in
    updated_answers no_readers opening steps s old (subst (StandsFor opening steps s) (sym c.self.view_is) h) c.args.tx c.args.row refl (sym c.not_put.ensures ∙ c.in_default.is) c.shown-found.result is (sym c.in_the_way.ensures ∙ c.in_default-in_the_way.is) c.in-Some-version.old c.in-Some-version.is

-- ---- for want of room for what waits
pub invariant_of-self-in_err-make_room : goal.invariant_of-self-in_err-make_room
invariant_of-self-in_err-make_room c =
    let f = c.self.inside in
    let i = c.self.invariant.stands in
    let old : CoreData = core_data f in
    let now : CoreData = record old { works = c.prepare_update.new.works } in
    let g : StandsWhole i.opening i.steps i.own i.whole now = whole_same_works i.opening i.steps i.own i.whole old i.stands c.prepare_update.new.works c.prepare_update.ensures.same in
    let is = subst (λ k. AreVersionsInOrder (state_of f.table) c.args.tx.0 c.args.tx.0 (versions_at f.versions.slots f.versions.lists k) → c.shown-found.result ≡ shown_in now c.args.tx.0 k) c.row_key-key.ensures c.shown-found.ensures in
    record {
      stands =
          whole_stands_on i (CoreCall (Do c.args.tx.0 (Update c.args.row))) (Refused OutOfMemory) now
          (let other = (stage_none (readers_of i.whole) i.opening i.own i.whole.core now g.core c.args.tx.0 (put_not_reading f.table (done_in f.works c.args.tx.0) c.args.tx.0 c.args.row (sym c.not_put.ensures ∙ c.in_default.is))) in
          others_lead i.opening i.steps i.own i.whole (Do c.args.tx.0 (Update c.args.row)) _ now _ g other tt
          (update_starved (readers_of i.whole) i.opening i.own i.whole.core now g.core c.args.tx c.args.row other (ap (λ (z : WorkContent). why_not_put c.self.inside.table z.history c.args.tx.0 c.args.row) (c.prepare_update.ensures.same c.args.tx.0) ∙ sym c.not_put.ensures ∙ c.in_default.is) c.shown-found.result is (sym c.in_the_way.ensures ∙ c.in_default-in_the_way.is)));
      waiting = waits_roomy f.table.clock (state_of f.table) f.versions.slots f.waiting c.make_room.new.self c.make_room.new.self.room c.make_room.ensures.same c.self.invariant.waiting;
    }

pub returns-in_err-make_room-clause-step : goal.returns-in_err-make_room-clause-step
returns-in_err-make_room-clause-step c = λ opening steps s h.
    let f = c.self.inside in
    let old : CoreData = core_data f in
    let now : CoreData = record old { works = c.prepare_update.new.works } in
    let is = subst (λ k. AreVersionsInOrder (state_of f.table) c.args.tx.0 c.args.tx.0 (versions_at f.versions.slots f.versions.lists k) → c.shown-found.result ≡ shown_in now c.args.tx.0 k) c.row_key-key.ensures c.shown-found.ensures in
    subst (λ r. LeadsOn opening steps s (Do c.args.tx.0 (Update c.args.row)) r now) (came_spent c.from_residual-in_err-make_room.result c.from_residual-in_err-make_room.ensures.1)
    (update_starved no_readers opening steps s now (stands_same_works no_readers opening steps s old (subst (StandsFor opening steps s) (sym c.self.view_is) h) c.prepare_update.new.works c.prepare_update.ensures.same) c.args.tx c.args.row refl (ap (λ (z : WorkContent). why_not_put c.self.inside.table z.history c.args.tx.0 c.args.row) (c.prepare_update.ensures.same c.args.tx.0) ∙ sym c.not_put.ensures ∙ c.in_default.is) c.shown-found.result is (sym c.in_the_way.ensures ∙ c.in_default-in_the_way.is))

-- ---- beside read-only ones
pub returns-in-Some-clause-whole : goal.returns-in-Some-clause-whole
returns-in-Some-clause-whole c = λ opening steps own w h.
    subst (λ r. LeadsWhole opening steps own w (CoreCall (Do c.args.tx.0 (Update c.args.row))) (Refused r) c.give_up.new.self) (sym c.give_up.ensures.same)
    (put_refused_whole opening steps own w c.args.self.now h c.args.tx.0 (Update c.args.row) refl c.in-Some.refusal c.give_up.new.self c.give_up.ensures.reader
    (λ other. update_refused (readers_of w) opening own w.core c.args.self.now h.core c.args.tx c.args.row other c.in-Some.refusal
    (ap (λ (x : CoreData). why_not_put x.table (done_in x.works c.args.tx.0) c.args.tx.0 c.args.row) (sym c.self.view_is) ∙ sym c.not_put.ensures ∙ c.in-Some.is) c.give_up.new.self
    (c.give_up.ensures.left (readers_of w) opening own w.core other h.core))
    c.args.row
    (ap (λ (x : CoreData). why_not_put x.table (done_in x.works c.args.tx.0) c.args.tx.0 c.args.row) (sym c.self.view_is) ∙ sym c.not_put.ensures ∙ c.in-Some.is))

pub returns-in-Some-in_the_way-clause-whole : goal.returns-in-Some-in_the_way-clause-whole
returns-in-Some-in_the_way-clause-whole c = λ opening steps own w h.
    let f = c.self.inside in
    let old : CoreData = core_data f in
    let g : StandsWhole opening steps own w old = subst (StandsWhole opening steps own w) (sym c.self.view_is) h in
    let other = stage_none (readers_of w) opening own w.core old g.core c.args.tx.0 (put_not_reading f.table (done_in f.works c.args.tx.0) c.args.tx.0 c.args.row (sym c.not_put.ensures ∙ c.in_default.is)) in
    let is = subst (λ k. AreVersionsInOrder (state_of f.table) c.args.tx.0 c.args.tx.0 (versions_at f.versions.slots f.versions.lists k) → c.shown-found.result ≡ shown_in old c.args.tx.0 k) c.row_key-key.ensures c.shown-found.ensures in
    subst (λ r. LeadsWhole opening steps own w (CoreCall (Do c.args.tx.0 (Update c.args.row))) (Refused r) c.give_up-in-Some-in_the_way.new.self) (sym c.give_up-in-Some-in_the_way.ensures.same)
    (others_lead opening steps own w (Do c.args.tx.0 (Update c.args.row)) _ old _ g other tt
    (update_conflicts (readers_of w) opening own w.core old g.core c.args.tx c.args.row other (sym c.not_put.ensures ∙ c.in_default.is) c.shown-found.result is c.in-Some-in_the_way.cause (sym c.in_the_way.ensures ∙ c.in-Some-in_the_way.is)
    c.give_up-in-Some-in_the_way.new.self (c.give_up-in-Some-in_the_way.ensures.left (readers_of w) opening own w.core other h.core)))

pub returns-in_err-depend-clause-whole : goal.returns-in_err-depend-clause-whole
returns-in_err-depend-clause-whole c = λ opening steps own w h.
    let f = c.self.inside in
    let old : CoreData = core_data f in
    let now : CoreData = record old { works = c.prepare_update.new.works } in
    let g : StandsWhole opening steps own w now = whole_same_works opening steps own w old (subst (StandsWhole opening steps own w) (sym c.self.view_is) h) c.prepare_update.new.works c.prepare_update.ensures.same in
    let other = stage_none (readers_of w) opening own w.core now g.core c.args.tx.0 (put_not_reading f.table (done_in f.works c.args.tx.0) c.args.tx.0 c.args.row (sym c.not_put.ensures ∙ c.in_default.is)) in
    let is = subst (λ k. AreVersionsInOrder (state_of f.table) c.args.tx.0 c.args.tx.0 (versions_at f.versions.slots f.versions.lists k) → c.shown-found.result ≡ shown_in now c.args.tx.0 k) c.row_key-key.ensures c.shown-found.ensures in
    subst (λ r. LeadsWhole opening steps own w (CoreCall (Do c.args.tx.0 (Update c.args.row))) r (record now { table = c.depend.new.table })) (came_spent c.from_residual-in_err-depend.result c.from_residual-in_err-depend.ensures.1)
    (others_lead opening steps own w (Do c.args.tx.0 (Update c.args.row)) _ now _ g other tt
    (update_spent (readers_of w) opening own w.core now g.core c.args.tx c.args.row other (ap (λ (z : WorkContent). why_not_put c.self.inside.table z.history c.args.tx.0 c.args.row) (c.prepare_update.ensures.same c.args.tx.0) ∙ sym c.not_put.ensures ∙ c.in_default.is) c.shown-found.result is (sym c.in_the_way.ensures ∙ c.in_default-in_the_way.is) c.depend.new.table c.in_err-depend.ensures.err))

pub returns-in_default-version-clause-whole : goal.returns-in_default-version-clause-whole
returns-in_default-version-clause-whole c = λ opening steps own w h.
    let f = c.self.inside in
    let old : CoreData = core_data f in
    let now : CoreData = record old { works = c.prepare_update.new.works } in
    let g : StandsWhole opening steps own w now = whole_same_works opening steps own w old (subst (StandsWhole opening steps own w) (sym c.self.view_is) h) c.prepare_update.new.works c.prepare_update.ensures.same in
    let other = stage_none (readers_of w) opening own w.core now g.core c.args.tx.0 (put_not_reading f.table (done_in f.works c.args.tx.0) c.args.tx.0 c.args.row (sym c.not_put.ensures ∙ c.in_default.is)) in
    let is = subst (λ k. AreVersionsInOrder (state_of f.table) c.args.tx.0 c.args.tx.0 (versions_at f.versions.slots f.versions.lists k) → c.shown-found.result ≡ shown_in now c.args.tx.0 k) c.row_key-key.ensures c.shown-found.ensures in
    others_lead opening steps own w (Do c.args.tx.0 (Update c.args.row)) _ now _ g other tt
    (absent_leads (readers_of w) opening own w.core now g.core c.args.tx c.args.row other (ap (λ (z : WorkContent). why_not_put c.self.inside.table z.history c.args.tx.0 c.args.row) (c.prepare_update.ensures.same c.args.tx.0) ∙ sym c.not_put.ensures ∙ c.in_default.is) c.shown-found.result is (sym c.in_the_way.ensures ∙ c.in_default-in_the_way.is) c.in_default-version.is c.depend.new.table c.in_ok-depend.ensures.ok c.tell.new.self
    (record { next = c.in_ok-next.next; prepared = c.in_ok-next.ensures.next; told = c.tell.ensures.told }))

pub returns-in_default-version-clause-whole_answer : goal.returns-in_default-version-clause-whole_answer
returns-in_default-version-clause-whole_answer c = λ opening steps own w h.
    let f = c.self.inside in
    let old : CoreData = core_data f in
    let g : StandsWhole opening steps own w old = subst (StandsWhole opening steps own w) (sym c.self.view_is) h in
    let other = stage_none (readers_of w) opening own w.core old g.core c.args.tx.0 (put_not_reading f.table (done_in f.works c.args.tx.0) c.args.tx.0 c.args.row (sym c.not_put.ensures ∙ c.in_default.is)) in
    let is = subst (λ k. AreVersionsInOrder (state_of f.table) c.args.tx.0 c.args.tx.0 (versions_at f.versions.slots f.versions.lists k) → c.shown-found.result ≡ shown_in old c.args.tx.0 k) c.row_key-key.ensures c.shown-found.ensures in
    absent_answers (readers_of w) opening own w.core old g.core c.args.tx c.args.row other (sym c.not_put.ensures ∙ c.in_default.is) c.shown-found.result is (sym c.in_the_way.ensures ∙ c.in_default-in_the_way.is) c.in_default-version.is

pub returns-in_err-put_instead-clause-whole : goal.returns-in_err-put_instead-clause-whole
returns-in_err-put_instead-clause-whole c = λ opening steps own w h.
    let f = c.self.inside in
    let old : CoreData = core_data f in
    let now : CoreData = record old { works = c.prepare_update.new.works } in
    let g : StandsWhole opening steps own w now = whole_same_works opening steps own w old (subst (StandsWhole opening steps own w) (sym c.self.view_is) h) c.prepare_update.new.works c.prepare_update.ensures.same in
    let other = stage_none (readers_of w) opening own w.core now g.core c.args.tx.0 (put_not_reading f.table (done_in f.works c.args.tx.0) c.args.tx.0 c.args.row (sym c.not_put.ensures ∙ c.in_default.is)) in
    let is = subst (λ k. AreVersionsInOrder (state_of f.table) c.args.tx.0 c.args.tx.0 (versions_at f.versions.slots f.versions.lists k) → c.shown-found.result ≡ shown_in now c.args.tx.0 k) c.row_key-key.ensures c.shown-found.ensures in
    subst (λ r. LeadsWhole opening steps own w (CoreCall (Do c.args.tx.0 (Update c.args.row))) r (record now { versions = c.put_instead.new.versions; table = c.put_instead.new.table })) (came_spent c.from_residual-in_err-put_instead.result c.from_residual-in_err-put_instead.ensures.1)
    (others_lead opening steps own w (Do c.args.tx.0 (Update c.args.row)) _ now _ g other tt
    (update_left (readers_of w) opening own w.core now g.core c.args.tx c.args.row other (ap (λ (z : WorkContent). why_not_put c.self.inside.table z.history c.args.tx.0 c.args.row) (c.prepare_update.ensures.same c.args.tx.0) ∙ sym c.not_put.ensures ∙ c.in_default.is) c.shown-found.result is (sym c.in_the_way.ensures ∙ c.in_default-in_the_way.is) c.put_instead.new.versions c.put_instead.new.table c.in_err-put_instead.ensures.err))

pub returns-clause-whole : goal.returns-clause-whole
returns-clause-whole c = λ opening steps own w h.
    let f = c.self.inside in
    let old : CoreData = core_data f in
    let now : CoreData = record old { works = c.prepare_update.new.works } in
    let g : StandsWhole opening steps own w now = whole_same_works opening steps own w old (subst (StandsWhole opening steps own w) (sym c.self.view_is) h) c.prepare_update.new.works c.prepare_update.ensures.same in
    let other = stage_none (readers_of w) opening own w.core now g.core c.args.tx.0 (put_not_reading f.table (done_in f.works c.args.tx.0) c.args.tx.0 c.args.row (sym c.not_put.ensures ∙ c.in_default.is)) in
    let is = subst (λ k. AreVersionsInOrder (state_of f.table) c.args.tx.0 c.args.tx.0 (versions_at f.versions.slots f.versions.lists k) → c.shown-found.result ≡ shown_in now c.args.tx.0 k) c.row_key-key.ensures c.shown-found.ensures in
    others_lead opening steps own w (Do c.args.tx.0 (Update c.args.row)) _ now _ g other tt
    (updated_leads (readers_of w) opening own w.core now g.core c.args.tx c.args.row other (ap (λ (z : WorkContent). why_not_put c.self.inside.table z.history c.args.tx.0 c.args.row) (c.prepare_update.ensures.same c.args.tx.0) ∙ sym c.not_put.ensures ∙ c.in_default.is) c.shown-found.result is (sym c.in_the_way.ensures ∙ c.in_default-in_the_way.is) c.in-Some-version.old c.in-Some-version.is c.put_instead.new.versions c.put_instead.new.table c.in_ok-put_instead.ensures.ok c.tell-2.new.self
    (record { next = c.in_ok-next.next; prepared = c.in_ok-next.ensures.next; told = c.tell-2.ensures.told }))

pub returns-clause-whole_answer : goal.returns-clause-whole_answer
returns-clause-whole_answer c = λ opening steps own w h.
    let f = c.self.inside in
    let old : CoreData = core_data f in
    let g : StandsWhole opening steps own w old = subst (StandsWhole opening steps own w) (sym c.self.view_is) h in
    let other = stage_none (readers_of w) opening own w.core old g.core c.args.tx.0 (put_not_reading f.table (done_in f.works c.args.tx.0) c.args.tx.0 c.args.row (sym c.not_put.ensures ∙ c.in_default.is)) in
    let is = subst (λ k. AreVersionsInOrder (state_of f.table) c.args.tx.0 c.args.tx.0 (versions_at f.versions.slots f.versions.lists k) → c.shown-found.result ≡ shown_in old c.args.tx.0 k) c.row_key-key.ensures c.shown-found.ensures in
    updated_answers (readers_of w) opening own w.core old g.core c.args.tx c.args.row other (sym c.not_put.ensures ∙ c.in_default.is) c.shown-found.result is (sym c.in_the_way.ensures ∙ c.in_default-in_the_way.is) c.in-Some-version.old c.in-Some-version.is

pub returns-in_err-make_room-clause-whole : goal.returns-in_err-make_room-clause-whole
returns-in_err-make_room-clause-whole c = λ opening steps own w h.
    let f = c.self.inside in
    let old : CoreData = core_data f in
    let now : CoreData = record old { works = c.prepare_update.new.works } in
    let g : StandsWhole opening steps own w now = whole_same_works opening steps own w old (subst (StandsWhole opening steps own w) (sym c.self.view_is) h) c.prepare_update.new.works c.prepare_update.ensures.same in
    let other = stage_none (readers_of w) opening own w.core now g.core c.args.tx.0 (put_not_reading f.table (done_in f.works c.args.tx.0) c.args.tx.0 c.args.row (sym c.not_put.ensures ∙ c.in_default.is)) in
    let is = subst (λ k. AreVersionsInOrder (state_of f.table) c.args.tx.0 c.args.tx.0 (versions_at f.versions.slots f.versions.lists k) → c.shown-found.result ≡ shown_in now c.args.tx.0 k) c.row_key-key.ensures c.shown-found.ensures in
    subst (λ r. LeadsWhole opening steps own w (CoreCall (Do c.args.tx.0 (Update c.args.row))) r now) (came_spent c.from_residual-in_err-make_room.result c.from_residual-in_err-make_room.ensures.1)
    (others_lead opening steps own w (Do c.args.tx.0 (Update c.args.row)) _ now _ g other tt
    (update_starved (readers_of w) opening own w.core now g.core c.args.tx c.args.row other (ap (λ (z : WorkContent). why_not_put c.self.inside.table z.history c.args.tx.0 c.args.row) (c.prepare_update.ensures.same c.args.tx.0) ∙ sym c.not_put.ensures ∙ c.in_default.is) c.shown-found.result is (sym c.in_the_way.ensures ∙ c.in_default-in_the_way.is)))

-- ---- how many versions there are then
pub returns-in_err-put_instead-clause-count : goal.returns-in_err-put_instead-clause-count
returns-in_err-put_instead-clause-count c =
    let f = c.self.inside in
    let old : CoreData = core_data f in
    let now : CoreData = record old { works = c.prepare_update.new.works } in
    let versions = c.put_instead.new.versions in
    refused_more old c.args.self.now (record now { versions = versions; table = c.put_instead.new.table }) c.from_residual-in_err-put_instead.result c.from_residual-in_err-put_instead.ensures.1 c.self.view_is
    (same_counts f.versions versions c.in_err-put_instead.ensures.err.versions)

pub returns-clause-count : goal.returns-clause-count
returns-clause-count c =
    let f = c.self.inside in
    put_more (core_data f) c.args.self.now _ 1 c.self.view_is
    (replaced_counts f.versions c.put_instead.new.versions f.table c.put_instead.new.table c.args.tx (option_to_list c.shown-found.result.depends_on) c.in-Some-version.old c.args.row c.in_ok-put_instead.ensures.ok)
