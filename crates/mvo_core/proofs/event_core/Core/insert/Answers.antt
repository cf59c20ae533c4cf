use Rattle.std.proofs.Common.{sym, ap, ◌∙◌, subst, ◌≡◌, refl}
use Rattle.mvo_types.specs.declared.op.Op.TheVariants.{Insert}
use Rattle.mvo_types.specs.declared.refusal.Refusal.TheVariants.{OutOfMemory}
use Rattle.mvo_theory.specs.Calls.Call.{Do}
use Rattle.mvo_theory.specs.Calls.Result.{Accepted, Refused}
use Rattle.mvo_txn.specs.Txns.{state_of}
use Rattle.mvo_visible.specs.Versions.{versions_at}
use Rattle.mvo_visible.specs.Shown.{AreVersionsInOrder}
use Rattle.mvo_core.specs.Readers.{no_readers}
use Rattle.mvo_core.specs.Causes.{why_not_put}
use Rattle.mvo_shared.specs.Kept.{WorkContent}
use Rattle.mvo_core.specs.Own.{done_in}
use Rattle.mvo_core.specs.Data.{CoreData}
use Rattle.mvo_core.specs.View.{core_data}
use Rattle.mvo_core.specs.Standing.{StandsFor}
use Rattle.mvo_core.specs.Steps.{LeadsOn}
use Rattle.mvo_core.proofs.WholeStands.{whole_stands_on}
use Rattle.mvo_core.proofs.Inserting.{insert_starved, insert_refused, insert_spent, insert_spent_same, exists_answers, exists_leads, insert_leads, inserted_answers, insert_may_be_told, insert_fits}
use Rattle.mvo_core.proofs.Asked.{own_if_active, unfinished_if_own, active_if_put, may_put_failing}
use Rattle.mvo_core.proofs.Looked.{shown_in}
use Rattle.mvo_core.proofs.Refused.{came_spent}
use Rattle.mvo_core.proofs.WorksHeld.{stands_same_works, whole_same_works}
use Rattle.std.specs.Option.{option_to_list}
use Rattle.mvo_core.proofs.Waits.{waits_roomy, waits_alike, alike_depending, alike_same, waits_spent, waits_inserted}
use Rattle.mvo_core.specs.WholeStanding.{readers_of, StandsWhole, LeadsWhole}
use Rattle.mvo_readonly.specs.WholeCauses.WholeCall.{CoreCall}
use Rattle.mvo_core.proofs.OthersLead.{others_lead}
use Rattle.mvo_core.proofs.WholeCalled.{stage_none}
use Rattle.mvo_core.proofs.WholeReads.{put_not_reading, put_refused_whole}
use Rattle.mvo_core.proofs.VersionCounts.{same_counts, inserted_counts, put_more, refused_more}
use Rattle.mvo_core.proofs.event_core.Core.insert.Goals as goal

pub give_up-requires : goal.give_up-requires
give_up-requires c =
    may_put_failing c.args.self.now.table (done_in c.args.self.now.works c.args.tx.0) c.args.tx.0 c.args.row c.in-Some.refusal
    (ap (λ (x : CoreData). why_not_put x.table (done_in x.works c.args.tx.0) c.args.tx.0 c.args.row) (sym c.self.view_is) ∙ sym c.not_put.ensures ∙ c.in-Some.is)

pub depend-requires : goal.depend-requires
depend-requires c = unfinished_if_own c.self.inside.table c.args.tx.0 (own_if_active c.self.inside.table c.args.tx.0 (active_if_put c.self.inside.table (done_in c.self.inside.works c.args.tx.0) c.args.tx.0 c.args.row (sym c.not_put.ensures ∙ c.in_default.is)))

pub insert_row-requires : goal.insert_row-requires
insert_row-requires c = own_if_active c.self.inside.table c.args.tx.0 (active_if_put c.self.inside.table (done_in c.self.inside.works c.args.tx.0) c.args.tx.0 c.args.row (sym c.not_put.ensures ∙ c.in_default.is))

pub returns-in-Some-clause-step : goal.returns-in-Some-clause-step
returns-in-Some-clause-step c = λ opening steps s h.
    subst (λ r. LeadsOn opening steps s (Do c.args.tx.0 (Insert c.args.row)) (Refused r) c.give_up.new.self) (sym c.give_up.ensures.same)
    (insert_refused no_readers opening steps s c.args.self.now h c.args.tx c.args.row refl c.in-Some.refusal
    (ap (λ (x : CoreData). why_not_put x.table (done_in x.works c.args.tx.0) c.args.tx.0 c.args.row) (sym c.self.view_is) ∙ sym c.not_put.ensures ∙ c.in-Some.is) c.give_up.new.self
    (c.give_up.ensures.left no_readers opening steps s refl h))

-- ---- the work is prepared
pub prepare_insert-requires : goal.prepare_insert-requires
prepare_insert-requires c =
    let f = c.self.inside in
    let i = c.self.invariant.stands in
    let old : CoreData = core_data f in
    let is = subst (λ k. AreVersionsInOrder (state_of f.table) c.args.tx.0 c.args.tx.0 (versions_at f.versions.slots f.versions.lists k) → c.shown-found.result ≡ shown_in old c.args.tx.0 k) c.row_key-key.ensures c.shown-found.ensures in
    insert_fits (readers_of i.whole) i.opening i.own i.whole.core old i.stands.core c.args.tx c.args.row (stage_none (readers_of i.whole) i.opening i.own i.whole.core old i.stands.core c.args.tx.0 (put_not_reading f.table (done_in f.works c.args.tx.0) c.args.tx.0 c.args.row (sym c.not_put.ensures ∙ c.in_default.is))) (sym c.not_put.ensures ∙ c.in_default.is) c.shown-found.result is

pub invariant_of-self : goal.invariant_of-self
invariant_of-self c =
    let f = c.self.inside in
    let i = c.self.invariant.stands in
    let old : CoreData = core_data f in
    let now : CoreData = record old { works = c.prepare_insert.new.works } in
    let g : StandsWhole i.opening i.steps i.own i.whole now = whole_same_works i.opening i.steps i.own i.whole old i.stands c.prepare_insert.new.works c.prepare_insert.ensures.same in
    record {
      stands =
          whole_stands_on i (CoreCall (Do c.args.tx.0 (Insert c.args.row))) (Refused OutOfMemory) now
          (let other = (stage_none (readers_of i.whole) i.opening i.own i.whole.core now g.core c.args.tx.0 (put_not_reading f.table (done_in f.works c.args.tx.0) c.args.tx.0 c.args.row (sym c.not_put.ensures ∙ c.in_default.is))) in
          others_lead i.opening i.steps i.own i.whole (Do c.args.tx.0 (Insert c.args.row)) _ now _ g other tt
          (insert_starved (readers_of i.whole) i.opening i.own i.whole.core now g.core c.args.tx c.args.row other (ap (λ (z : WorkContent). why_not_put c.self.inside.table z.history c.args.tx.0 c.args.row) (c.prepare_insert.ensures.same c.args.tx.0) ∙ sym c.not_put.ensures ∙ c.in_default.is)));
      waiting = c.self.invariant.waiting;
    }

pub returns-in_err-next-clause-step : goal.returns-in_err-next-clause-step
returns-in_err-next-clause-step c = λ opening steps s h.
    let f = c.self.inside in
    let old : CoreData = core_data f in
    let now : CoreData = record old { works = c.prepare_insert.new.works } in
    subst (λ r. LeadsOn opening steps s (Do c.args.tx.0 (Insert c.args.row)) r now) (came_spent c.from_residual.result c.from_residual.ensures.1)
    (insert_starved no_readers opening steps s now (stands_same_works no_readers opening steps s old (subst (StandsFor opening steps s) (sym c.self.view_is) h) c.prepare_insert.new.works c.prepare_insert.ensures.same) c.args.tx c.args.row refl (ap (λ (z : WorkContent). why_not_put c.self.inside.table z.history c.args.tx.0 c.args.row) (c.prepare_insert.ensures.same c.args.tx.0) ∙ sym c.not_put.ensures ∙ c.in_default.is))

pub returns-in_err-next-clause-whole : goal.returns-in_err-next-clause-whole
returns-in_err-next-clause-whole c = λ opening steps own w h.
    let f = c.self.inside in
    let old : CoreData = core_data f in
    let now : CoreData = record old { works = c.prepare_insert.new.works } in
    let g : StandsWhole opening steps own w now = whole_same_works opening steps own w old (subst (StandsWhole opening steps own w) (sym c.self.view_is) h) c.prepare_insert.new.works c.prepare_insert.ensures.same in
    let other = stage_none (readers_of w) opening own w.core now g.core c.args.tx.0 (put_not_reading f.table (done_in f.works c.args.tx.0) c.args.tx.0 c.args.row (sym c.not_put.ensures ∙ c.in_default.is)) in
    subst (λ r. LeadsWhole opening steps own w (CoreCall (Do c.args.tx.0 (Insert c.args.row))) r now) (came_spent c.from_residual.result c.from_residual.ensures.1)
    (others_lead opening steps own w (Do c.args.tx.0 (Insert c.args.row)) _ now _ g other tt
    (insert_starved (readers_of w) opening own w.core now g.core c.args.tx c.args.row other (ap (λ (z : WorkContent). why_not_put c.self.inside.table z.history c.args.tx.0 c.args.row) (c.prepare_insert.ensures.same c.args.tx.0) ∙ sym c.not_put.ensures ∙ c.in_default.is)))

pub tell-requires : goal.tell-requires
tell-requires c =
    let f = c.self.inside in
    let i = c.self.invariant.stands in
    let old : CoreData = core_data f in
    let now : CoreData = record old { works = c.prepare_insert.new.works } in
    let g : StandsWhole i.opening i.steps i.own i.whole now = whole_same_works i.opening i.steps i.own i.whole old i.stands c.prepare_insert.new.works c.prepare_insert.ensures.same in
    insert_may_be_told (readers_of i.whole) i.opening i.own i.whole.core now g.core c.args.tx c.args.row (stage_none (readers_of i.whole) i.opening i.own i.whole.core now g.core c.args.tx.0 (put_not_reading f.table (done_in f.works c.args.tx.0) c.args.tx.0 c.args.row (sym c.not_put.ensures ∙ c.in_default.is))) (ap (λ (z : WorkContent). why_not_put c.self.inside.table z.history c.args.tx.0 c.args.row) (c.prepare_insert.ensures.same c.args.tx.0) ∙ sym c.not_put.ensures ∙ c.in_default.is) _ c.in_ok-next.next c.in_ok-next.ensures.next

pub tell-requires-2 : goal.tell-requires-2
tell-requires-2 c =
    let f = c.self.inside in
    let i = c.self.invariant.stands in
    let old : CoreData = core_data f in
    let now : CoreData = record old { works = c.prepare_insert.new.works } in
    let g : StandsWhole i.opening i.steps i.own i.whole now = whole_same_works i.opening i.steps i.own i.whole old i.stands c.prepare_insert.new.works c.prepare_insert.ensures.same in
    insert_may_be_told (readers_of i.whole) i.opening i.own i.whole.core now g.core c.args.tx c.args.row (stage_none (readers_of i.whole) i.opening i.own i.whole.core now g.core c.args.tx.0 (put_not_reading f.table (done_in f.works c.args.tx.0) c.args.tx.0 c.args.row (sym c.not_put.ensures ∙ c.in_default.is))) (ap (λ (z : WorkContent). why_not_put c.self.inside.table z.history c.args.tx.0 c.args.row) (c.prepare_insert.ensures.same c.args.tx.0) ∙ sym c.not_put.ensures ∙ c.in_default.is) _ c.in_ok-next.next c.in_ok-next.ensures.next

pub invariant_of-self-in_err-depend : goal.invariant_of-self-in_err-depend
invariant_of-self-in_err-depend c =
    let f = c.self.inside in
    let i = c.self.invariant.stands in
    let old : CoreData = core_data f in
    let now : CoreData = record old { works = c.prepare_insert.new.works } in
    let g : StandsWhole i.opening i.steps i.own i.whole now = whole_same_works i.opening i.steps i.own i.whole old i.stands c.prepare_insert.new.works c.prepare_insert.ensures.same in
    record {
      stands =
          whole_stands_on i (CoreCall (Do c.args.tx.0 (Insert c.args.row))) (Refused OutOfMemory) (record now { table = c.depend.new.table })
          (let other = stage_none (readers_of i.whole) i.opening i.own i.whole.core now g.core c.args.tx.0 (put_not_reading f.table (done_in f.works c.args.tx.0) c.args.tx.0 c.args.row (sym c.not_put.ensures ∙ c.in_default.is)) in
          (others_lead i.opening i.steps i.own i.whole (Do c.args.tx.0 (Insert c.args.row)) _ now _ g other tt
          (insert_spent (readers_of i.whole) i.opening i.own i.whole.core now g.core c.args.tx c.args.row other (ap (λ (z : WorkContent). why_not_put c.self.inside.table z.history c.args.tx.0 c.args.row) (c.prepare_insert.ensures.same c.args.tx.0) ∙ sym c.not_put.ensures ∙ c.in_default.is) c.depend.new.table c.in_err-depend.ensures.err)));
      waiting = waits_alike f.table c.depend.new.table f.versions.slots f.waiting (alike_same f.table c.depend.new.table c.in_err-depend.ensures.err) c.self.invariant.waiting;
    }

pub returns-in_err-depend-clause-step : goal.returns-in_err-depend-clause-step
returns-in_err-depend-clause-step c = λ opening steps s h.
    let f = c.self.inside in
    let old : CoreData = core_data f in
    let now : CoreData = record old { works = c.prepare_insert.new.works } in
    subst (λ r. LeadsOn opening steps s (Do c.args.tx.0 (Insert c.args.row)) r (record now { table = c.depend.new.table })) (came_spent c.from_residual-in_err-depend.result c.from_residual-in_err-depend.ensures.1)
    (insert_spent no_readers opening steps s now (stands_same_works no_readers opening steps s old (subst (StandsFor opening steps s) (sym c.self.view_is) h) c.prepare_insert.new.works c.prepare_insert.ensures.same) c.args.tx c.args.row refl (ap (λ (z : WorkContent). why_not_put c.self.inside.table z.history c.args.tx.0 c.args.row) (c.prepare_insert.ensures.same c.args.tx.0) ∙ sym c.not_put.ensures ∙ c.in_default.is) c.depend.new.table c.in_err-depend.ensures.err)

pub invariant_of-self-then-is_some : goal.invariant_of-self-then-is_some
invariant_of-self-then-is_some c =
    let f = c.self.inside in
    let i = c.self.invariant.stands in
    let old : CoreData = core_data f in
    let now : CoreData = record old { works = c.prepare_insert.new.works } in
    let g : StandsWhole i.opening i.steps i.own i.whole now = whole_same_works i.opening i.steps i.own i.whole old i.stands c.prepare_insert.new.works c.prepare_insert.ensures.same in
    let is = subst (λ k. AreVersionsInOrder (state_of f.table) c.args.tx.0 c.args.tx.0 (versions_at f.versions.slots f.versions.lists k) → c.shown-found.result ≡ shown_in now c.args.tx.0 k) c.row_key-key.ensures c.shown-found.ensures in
    record {
      stands =
          whole_stands_on i (CoreCall (Do c.args.tx.0 (Insert c.args.row))) Accepted (record now { table = c.depend.new.table; works = c.tell.new.self })
          (let other = stage_none (readers_of i.whole) i.opening i.own i.whole.core now g.core c.args.tx.0 (put_not_reading f.table (done_in f.works c.args.tx.0) c.args.tx.0 c.args.row (sym c.not_put.ensures ∙ c.in_default.is)) in
          let is = subst (λ k. AreVersionsInOrder (state_of f.table) c.args.tx.0 c.args.tx.0 (versions_at f.versions.slots f.versions.lists k) → c.shown-found.result ≡ shown_in now c.args.tx.0 k) c.row_key-key.ensures c.shown-found.ensures in
          others_lead i.opening i.steps i.own i.whole (Do c.args.tx.0 (Insert c.args.row)) _ now _ g other tt
          (exists_leads (readers_of i.whole) i.opening i.own i.whole.core now g.core c.args.tx c.args.row other (ap (λ (z : WorkContent). why_not_put c.self.inside.table z.history c.args.tx.0 c.args.row) (c.prepare_insert.ensures.same c.args.tx.0) ∙ sym c.not_put.ensures ∙ c.in_default.is) c.shown-found.result is (sym c.is_some.ensures ∙ c.if-is_some.true)
          c.depend.new.table c.in_ok-depend.ensures.ok c.tell.new.self
          (record { next = c.in_ok-next.next; prepared = c.in_ok-next.ensures.next; told = c.tell.ensures.told })));
      waiting = waits_alike f.table c.depend.new.table f.versions.slots f.waiting (alike_depending f.table c.depend.new.table c.args.tx (option_to_list c.shown-found.result.depends_on) c.in_ok-depend.ensures.ok) c.self.invariant.waiting;
    }

pub returns-then-is_some-clause-step : goal.returns-then-is_some-clause-step
returns-then-is_some-clause-step c = λ opening steps s h.
    let f = c.self.inside in
    let old : CoreData = core_data f in
    let now : CoreData = record old { works = c.prepare_insert.new.works } in
    let is = subst (λ k. AreVersionsInOrder (state_of f.table) c.args.tx.0 c.args.tx.0 (versions_at f.versions.slots f.versions.lists k) → c.shown-found.result ≡ shown_in now c.args.tx.0 k) c.row_key-key.ensures c.shown-found.ensures in
    exists_leads no_readers opening steps s now (stands_same_works no_readers opening steps s old (subst (StandsFor opening steps s) (sym c.self.view_is) h) c.prepare_insert.new.works c.prepare_insert.ensures.same) c.args.tx c.args.row refl (ap (λ (z : WorkContent). why_not_put c.self.inside.table z.history c.args.tx.0 c.args.row) (c.prepare_insert.ensures.same c.args.tx.0) ∙ sym c.not_put.ensures ∙ c.in_default.is) c.shown-found.result is (sym c.is_some.ensures ∙ c.if-is_some.true)
    c.depend.new.table c.in_ok-depend.ensures.ok c.tell.new.self
    (record { next = c.in_ok-next.next; prepared = c.in_ok-next.ensures.next; told = c.tell.ensures.told })

pub returns-then-is_some-clause-answer : goal.returns-then-is_some-clause-answer
returns-then-is_some-clause-answer c = λ opening steps s h.
    let f = c.self.inside in
    let old : CoreData = core_data f in
    let is = subst (λ k. AreVersionsInOrder (state_of f.table) c.args.tx.0 c.args.tx.0 (versions_at f.versions.slots f.versions.lists k) → c.shown-found.result ≡ shown_in old c.args.tx.0 k) c.row_key-key.ensures c.shown-found.ensures in
    exists_answers no_readers opening steps s old (subst (StandsFor opening steps s) (sym c.self.view_is) h) c.args.tx c.args.row refl (sym c.not_put.ensures ∙ c.in_default.is) c.shown-found.result is (sym c.is_some.ensures ∙ c.if-is_some.true)

pub invariant_of-self-in_err-insert_row : goal.invariant_of-self-in_err-insert_row
invariant_of-self-in_err-insert_row c =
    let f = c.self.inside in
    let i = c.self.invariant.stands in
    let old : CoreData = core_data f in
    let now : CoreData = record old { works = c.prepare_insert.new.works } in
    let g : StandsWhole i.opening i.steps i.own i.whole now = whole_same_works i.opening i.steps i.own i.whole old i.stands c.prepare_insert.new.works c.prepare_insert.ensures.same in
    record {
      stands =
          whole_stands_on i (CoreCall (Do c.args.tx.0 (Insert c.args.row))) (Refused OutOfMemory) (record now { versions = c.insert_row.new.versions; table = c.insert_row.new.table })
          (let other = stage_none (readers_of i.whole) i.opening i.own i.whole.core now g.core c.args.tx.0 (put_not_reading f.table (done_in f.works c.args.tx.0) c.args.tx.0 c.args.row (sym c.not_put.ensures ∙ c.in_default.is)) in
          (others_lead i.opening i.steps i.own i.whole (Do c.args.tx.0 (Insert c.args.row)) _ now _ g other tt
          (insert_spent_same (readers_of i.whole) i.opening i.own i.whole.core now g.core c.args.tx c.args.row other (ap (λ (z : WorkContent). why_not_put c.self.inside.table z.history c.args.tx.0 c.args.row) (c.prepare_insert.ensures.same c.args.tx.0) ∙ sym c.not_put.ensures ∙ c.in_default.is) c.insert_row.new.versions c.in_err-insert_row.ensures.err
          c.insert_row.ensures.indexed c.insert_row.new.table c.in_err-insert_row.ensures.alone)));
      waiting = waits_spent f.table c.insert_row.new.table c.args.tx.0 f.versions c.insert_row.new.versions f.waiting c.make_room.new.self c.make_room.ensures.same c.in_err-insert_row.ensures.err c.in_err-insert_row.ensures.alone c.self.invariant.waiting;
    }

pub returns-in_err-insert_row-clause-step : goal.returns-in_err-insert_row-clause-step
returns-in_err-insert_row-clause-step c = λ opening steps s h.
    let f = c.self.inside in
    let old : CoreData = core_data f in
    let now : CoreData = record old { works = c.prepare_insert.new.works } in
    subst (λ r. LeadsOn opening steps s (Do c.args.tx.0 (Insert c.args.row)) r (record now { versions = c.insert_row.new.versions; table = c.insert_row.new.table }))
    (came_spent c.from_residual-in_err-insert_row.result c.from_residual-in_err-insert_row.ensures.1)
    (insert_spent_same no_readers opening steps s now (stands_same_works no_readers opening steps s old (subst (StandsFor opening steps s) (sym c.self.view_is) h) c.prepare_insert.new.works c.prepare_insert.ensures.same) c.args.tx c.args.row refl (ap (λ (z : WorkContent). why_not_put c.self.inside.table z.history c.args.tx.0 c.args.row) (c.prepare_insert.ensures.same c.args.tx.0) ∙ sym c.not_put.ensures ∙ c.in_default.is) c.insert_row.new.versions c.in_err-insert_row.ensures.err
    c.insert_row.ensures.indexed c.insert_row.new.table c.in_err-insert_row.ensures.alone)

pub invariant_of-self-2 : goal.invariant_of-self-2
invariant_of-self-2 c =
    let f = c.self.inside in
    let i = c.self.invariant.stands in
    let old : CoreData = core_data f in
    let now : CoreData = record old { works = c.prepare_insert.new.works } in
    let g : StandsWhole i.opening i.steps i.own i.whole now = whole_same_works i.opening i.steps i.own i.whole old i.stands c.prepare_insert.new.works c.prepare_insert.ensures.same in
    let is = subst (λ k. AreVersionsInOrder (state_of f.table) c.args.tx.0 c.args.tx.0 (versions_at f.versions.slots f.versions.lists k) → c.shown-found.result ≡ shown_in now c.args.tx.0 k) c.row_key-key.ensures c.shown-found.ensures in
    record {
      stands =
          whole_stands_on i (CoreCall (Do c.args.tx.0 (Insert c.args.row))) Accepted (record now { versions = c.insert_row.new.versions; table = c.insert_row.new.table; works = c.tell-2.new.self })
          (let other = stage_none (readers_of i.whole) i.opening i.own i.whole.core now g.core c.args.tx.0 (put_not_reading f.table (done_in f.works c.args.tx.0) c.args.tx.0 c.args.row (sym c.not_put.ensures ∙ c.in_default.is)) in
          let is = subst (λ k. AreVersionsInOrder (state_of f.table) c.args.tx.0 c.args.tx.0 (versions_at f.versions.slots f.versions.lists k) → c.shown-found.result ≡ shown_in now c.args.tx.0 k) c.row_key-key.ensures c.shown-found.ensures in
          others_lead i.opening i.steps i.own i.whole (Do c.args.tx.0 (Insert c.args.row)) _ now _ g other tt
          (insert_leads (readers_of i.whole) i.opening i.own i.whole.core now g.core c.args.tx c.args.row other (ap (λ (z : WorkContent). why_not_put c.self.inside.table z.history c.args.tx.0 c.args.row) (c.prepare_insert.ensures.same c.args.tx.0) ∙ sym c.not_put.ensures ∙ c.in_default.is) c.shown-found.result is (sym c.is_some.ensures ∙ c.if-is_some.false)
          c.insert_row.new.versions c.insert_row.new.table c.in_ok-insert_row.ensures.ok c.insert_row.ensures.indexed c.tell-2.new.self
          (record { next = c.in_ok-next.next; prepared = c.in_ok-next.ensures.next; told = c.tell-2.ensures.told })));
      waiting = waits_inserted f.versions c.insert_row.new.versions f.table c.insert_row.new.table c.args.tx (option_to_list c.shown-found.result.depends_on) f.waiting c.make_room.new.self c.make_room.ensures.same c.args.row c.owe.new.self c.in_ok-insert_row.ensures.ok c.owe.ensures c.self.invariant.waiting;
    }

pub returns-clause-step : goal.returns-clause-step
returns-clause-step c = λ opening steps s h.
    let f = c.self.inside in
    let old : CoreData = core_data f in
    let now : CoreData = record old { works = c.prepare_insert.new.works } in
    let is = subst (λ k. AreVersionsInOrder (state_of f.table) c.args.tx.0 c.args.tx.0 (versions_at f.versions.slots f.versions.lists k) → c.shown-found.result ≡ shown_in now c.args.tx.0 k) c.row_key-key.ensures c.shown-found.ensures in
    insert_leads no_readers opening steps s now (stands_same_works no_readers opening steps s old (subst (StandsFor opening steps s) (sym c.self.view_is) h) c.prepare_insert.new.works c.prepare_insert.ensures.same) c.args.tx c.args.row refl (ap (λ (z : WorkContent). why_not_put c.self.inside.table z.history c.args.tx.0 c.args.row) (c.prepare_insert.ensures.same c.args.tx.0) ∙ sym c.not_put.ensures ∙ c.in_default.is) c.shown-found.result is (sym c.is_some.ensures ∙ c.if-is_some.false)
    c.insert_row.new.versions c.insert_row.new.table c.in_ok-insert_row.ensures.ok c.insert_row.ensures.indexed c.tell-2.new.self
    (record { next = c.in_ok-next.next; prepared = c.in_ok-next.ensures.next; told = c.tell-2.ensures.told })

pub returns-clause-answer : goal.returns-clause-answer
returns-clause-answer c = λ opening steps s h.
    let f = c.self.inside in
    let old : CoreData = core_data f in
    let is = subst (λ k. AreVersionsInOrder (state_of f.table) c.args.tx.0 c.args.tx.0 (versions_at f.versions.slots f.versions.lists k) → c.shown-found.result ≡ shown_in old c.args.tx.0 k) c.row_key-key.ensures c.shown-found.ensures in
    inserted_answers no_readers opening steps s old (subst (StandsFor opening steps s) (sym c.self.view_is) h) c.args.tx c.args.row refl (sym c.not_put.ensures ∙ c.in_default.is) c.shown-found.result is (sym c.is_some.ensures ∙ c.if-is_some.false)

-- ---- for want of room for what waits
pub invariant_of-self-in_err-make_room : goal.invariant_of-self-in_err-make_room
invariant_of-self-in_err-make_room c =
    let f = c.self.inside in
    let i = c.self.invariant.stands in
    let old : CoreData = core_data f in
    let now : CoreData = record old { works = c.prepare_insert.new.works } in
    let g : StandsWhole i.opening i.steps i.own i.whole now = whole_same_works i.opening i.steps i.own i.whole old i.stands c.prepare_insert.new.works c.prepare_insert.ensures.same in
    record {
      stands =
          whole_stands_on i (CoreCall (Do c.args.tx.0 (Insert c.args.row))) (Refused OutOfMemory) now
          (let other = (stage_none (readers_of i.whole) i.opening i.own i.whole.core now g.core c.args.tx.0 (put_not_reading f.table (done_in f.works c.args.tx.0) c.args.tx.0 c.args.row (sym c.not_put.ensures ∙ c.in_default.is))) in
          others_lead i.opening i.steps i.own i.whole (Do c.args.tx.0 (Insert c.args.row)) _ now _ g other tt
          (insert_starved (readers_of i.whole) i.opening i.own i.whole.core now g.core c.args.tx c.args.row other (ap (λ (z : WorkContent). why_not_put c.self.inside.table z.history c.args.tx.0 c.args.row) (c.prepare_insert.ensures.same c.args.tx.0) ∙ sym c.not_put.ensures ∙ c.in_default.is)));
      waiting = waits_roomy f.table.clock (state_of f.table) f.versions.slots f.waiting c.make_room.new.self c.make_room.new.self.room c.make_room.ensures.same c.self.invariant.waiting;
    }

pub returns-in_err-make_room-clause-step : goal.returns-in_err-make_room-clause-step
returns-in_err-make_room-clause-step c = λ opening steps s h.
    let f = c.self.inside in
    let old : CoreData = core_data f in
    let now : CoreData = record old { works = c.prepare_insert.new.works } in
    subst (λ r. LeadsOn opening steps s (Do c.args.tx.0 (Insert c.args.row)) r now) (came_spent c.from_residual-in_err-make_room.result c.from_residual-in_err-make_room.ensures.1)
    (insert_starved no_readers opening steps s now (stands_same_works no_readers opening steps s old (subst (StandsFor opening steps s) (sym c.self.view_is) h) c.prepare_insert.new.works c.prepare_insert.ensures.same) c.args.tx c.args.row refl (ap (λ (z : WorkContent). why_not_put c.self.inside.table z.history c.args.tx.0 c.args.row) (c.prepare_insert.ensures.same c.args.tx.0) ∙ sym c.not_put.ensures ∙ c.in_default.is))

-- ---- beside read-only ones
pub returns-in-Some-clause-whole : goal.returns-in-Some-clause-whole
returns-in-Some-clause-whole c = λ opening steps own w h.
    subst (λ r. LeadsWhole opening steps own w (CoreCall (Do c.args.tx.0 (Insert c.args.row))) (Refused r) c.give_up.new.self) (sym c.give_up.ensures.same)
    (put_refused_whole opening steps own w c.args.self.now h c.args.tx.0 (Insert c.args.row) refl c.in-Some.refusal c.give_up.new.self c.give_up.ensures.reader
    (λ other. insert_refused (readers_of w) opening own w.core c.args.self.now h.core c.args.tx c.args.row other c.in-Some.refusal
    (ap (λ (x : CoreData). why_not_put x.table (done_in x.works c.args.tx.0) c.args.tx.0 c.args.row) (sym c.self.view_is) ∙ sym c.not_put.ensures ∙ c.in-Some.is) c.give_up.new.self
    (c.give_up.ensures.left (readers_of w) opening own w.core other h.core))
    c.args.row
    (ap (λ (x : CoreData). why_not_put x.table (done_in x.works c.args.tx.0) c.args.tx.0 c.args.row) (sym c.self.view_is) ∙ sym c.not_put.ensures ∙ c.in-Some.is))

pub returns-in_err-depend-clause-whole : goal.returns-in_err-depend-clause-whole
returns-in_err-depend-clause-whole c = λ opening steps own w h.
    let f = c.self.inside in
    let old : CoreData = core_data f in
    let now : CoreData = record old { works = c.prepare_insert.new.works } in
    let g : StandsWhole opening steps own w now = whole_same_works opening steps own w old (subst (StandsWhole opening steps own w) (sym c.self.view_is) h) c.prepare_insert.new.works c.prepare_insert.ensures.same in
    let other = stage_none (readers_of w) opening own w.core now g.core c.args.tx.0 (put_not_reading f.table (done_in f.works c.args.tx.0) c.args.tx.0 c.args.row (sym c.not_put.ensures ∙ c.in_default.is)) in
    subst (λ r. LeadsWhole opening steps own w (CoreCall (Do c.args.tx.0 (Insert c.args.row))) r (record now { table = c.depend.new.table })) (came_spent c.from_residual-in_err-depend.result c.from_residual-in_err-depend.ensures.1)
    (others_lead opening steps own w (Do c.args.tx.0 (Insert c.args.row)) _ now _ g other tt
    (insert_spent (readers_of w) opening own w.core now g.core c.args.tx c.args.row other (ap (λ (z : WorkContent). why_not_put c.self.inside.table z.history c.args.tx.0 c.args.row) (c.prepare_insert.ensures.same c.args.tx.0) ∙ sym c.not_put.ensures ∙ c.in_default.is) c.depend.new.table c.in_err-depend.ensures.err))

pub returns-then-is_some-clause-whole : goal.returns-then-is_some-clause-whole
returns-then-is_some-clause-whole c = λ opening steps own w h.
    let f = c.self.inside in
    let old : CoreData = core_data f in
    let now : CoreData = record old { works = c.prepare_insert.new.works } in
    let g : StandsWhole opening steps own w now = whole_same_works opening steps own w old (subst (StandsWhole opening steps own w) (sym c.self.view_is) h) c.prepare_insert.new.works c.prepare_insert.ensures.same in
    let other = stage_none (readers_of w) opening own w.core now g.core c.args.tx.0 (put_not_reading f.table (done_in f.works c.args.tx.0) c.args.tx.0 c.args.row (sym c.not_put.ensures ∙ c.in_default.is)) in
    let is = subst (λ k. AreVersionsInOrder (state_of f.table) c.args.tx.0 c.args.tx.0 (versions_at f.versions.slots f.versions.lists k) → c.shown-found.result ≡ shown_in now c.args.tx.0 k) c.row_key-key.ensures c.shown-found.ensures in
    others_lead opening steps own w (Do c.args.tx.0 (Insert c.args.row)) _ now _ g other tt
    (exists_leads (readers_of w) opening own w.core now g.core c.args.tx c.args.row other (ap (λ (z : WorkContent). why_not_put c.self.inside.table z.history c.args.tx.0 c.args.row) (c.prepare_insert.ensures.same c.args.tx.0) ∙ sym c.not_put.ensures ∙ c.in_default.is) c.shown-found.result is (sym c.is_some.ensures ∙ c.if-is_some.true)
    c.depend.new.table c.in_ok-depend.ensures.ok c.tell.new.self
    (record { next = c.in_ok-next.next; prepared = c.in_ok-next.ensures.next; told = c.tell.ensures.told }))

pub returns-then-is_some-clause-whole_answer : goal.returns-then-is_some-clause-whole_answer
returns-then-is_some-clause-whole_answer c = λ opening steps own w h.
    let f = c.self.inside in
    let old : CoreData = core_data f in
    let g : StandsWhole opening steps own w old = subst (StandsWhole opening steps own w) (sym c.self.view_is) h in
    let other = stage_none (readers_of w) opening own w.core old g.core c.args.tx.0 (put_not_reading f.table (done_in f.works c.args.tx.0) c.args.tx.0 c.args.row (sym c.not_put.ensures ∙ c.in_default.is)) in
    let is = subst (λ k. AreVersionsInOrder (state_of f.table) c.args.tx.0 c.args.tx.0 (versions_at f.versions.slots f.versions.lists k) → c.shown-found.result ≡ shown_in old c.args.tx.0 k) c.row_key-key.ensures c.shown-found.ensures in
    exists_answers (readers_of w) opening own w.core old g.core c.args.tx c.args.row other (sym c.not_put.ensures ∙ c.in_default.is) c.shown-found.result is (sym c.is_some.ensures ∙ c.if-is_some.true)

pub returns-in_err-insert_row-clause-whole : goal.returns-in_err-insert_row-clause-whole
returns-in_err-insert_row-clause-whole c = λ opening steps own w h.
    let f = c.self.inside in
    let old : CoreData = core_data f in
    let now : CoreData = record old { works = c.prepare_insert.new.works } in
    let g : StandsWhole opening steps own w now = whole_same_works opening steps own w old (subst (StandsWhole opening steps own w) (sym c.self.view_is) h) c.prepare_insert.new.works c.prepare_insert.ensures.same in
    let other = stage_none (readers_of w) opening own w.core now g.core c.args.tx.0 (put_not_reading f.table (done_in f.works c.args.tx.0) c.args.tx.0 c.args.row (sym c.not_put.ensures ∙ c.in_default.is)) in
    subst (λ r. LeadsWhole opening steps own w (CoreCall (Do c.args.tx.0 (Insert c.args.row))) r (record now { versions = c.insert_row.new.versions; table = c.insert_row.new.table }))
    (came_spent c.from_residual-in_err-insert_row.result c.from_residual-in_err-insert_row.ensures.1)
    (others_lead opening steps own w (Do c.args.tx.0 (Insert c.args.row)) _ now _ g other tt
    (insert_spent_same (readers_of w) opening own w.core now g.core c.args.tx c.args.row other (ap (λ (z : WorkContent). why_not_put c.self.inside.table z.history c.args.tx.0 c.args.row) (c.prepare_insert.ensures.same c.args.tx.0) ∙ sym c.not_put.ensures ∙ c.in_default.is) c.insert_row.new.versions c.in_err-insert_row.ensures.err
    c.insert_row.ensures.indexed c.insert_row.new.table c.in_err-insert_row.ensures.alone))

pub returns-clause-whole : goal.returns-clause-whole
returns-clause-whole c = λ opening steps own w h.
    let f = c.self.inside in
    let old : CoreData = core_data f in
    let now : CoreData = record old { works = c.prepare_insert.new.works } in
    let g : StandsWhole opening steps own w now = whole_same_works opening steps own w old (subst (StandsWhole opening steps own w) (sym c.self.view_is) h) c.prepare_insert.new.works c.prepare_insert.ensures.same in
    let other = stage_none (readers_of w) opening own w.core now g.core c.args.tx.0 (put_not_reading f.table (done_in f.works c.args.tx.0) c.args.tx.0 c.args.row (sym c.not_put.ensures ∙ c.in_default.is)) in
    let is = subst (λ k. AreVersionsInOrder (state_of f.table) c.args.tx.0 c.args.tx.0 (versions_at f.versions.slots f.versions.lists k) → c.shown-found.result ≡ shown_in now c.args.tx.0 k) c.row_key-key.ensures c.shown-found.ensures in
    others_lead opening steps own w (Do c.args.tx.0 (Insert c.args.row)) _ now _ g other tt
    (insert_leads (readers_of w) opening own w.core now g.core c.args.tx c.args.row other (ap (λ (z : WorkContent). why_not_put c.self.inside.table z.history c.args.tx.0 c.args.row) (c.prepare_insert.ensures.same c.args.tx.0) ∙ sym c.not_put.ensures ∙ c.in_default.is) c.shown-found.result is (sym c.is_some.ensures ∙ c.if-is_some.false)
    c.insert_row.new.versions c.insert_row.new.table c.in_ok-insert_row.ensures.ok c.insert_row.ensures.indexed c.tell-2.new.self
    (record { next = c.in_ok-next.next; prepared = c.in_ok-next.ensures.next; told = c.tell-2.ensures.told }))

pub returns-clause-whole_answer : goal.returns-clause-whole_answer
returns-clause-whole_answer c = λ opening steps own w h.
    let f = c.self.inside in
    let old : CoreData = core_data f in
    let g : StandsWhole opening steps own w old = subst (StandsWhole opening steps own w) (sym c.self.view_is) h in
    let other = stage_none (readers_of w) opening own w.core old g.core c.args.tx.0 (put_not_reading f.table (done_in f.works c.args.tx.0) c.args.tx.0 c.args.row (sym c.not_put.ensures ∙ c.in_default.is)) in
    let is = subst (λ k. AreVersionsInOrder (state_of f.table) c.args.tx.0 c.args.tx.0 (versions_at f.versions.slots f.versions.lists k) → c.shown-found.result ≡ shown_in old c.args.tx.0 k) c.row_key-key.ensures c.shown-found.ensures in
    inserted_answers (readers_of w) opening own w.core old g.core c.args.tx c.args.row other (sym c.not_put.ensures ∙ c.in_default.is) c.shown-found.result is (sym c.is_some.ensures ∙ c.if-is_some.false)

pub returns-in_err-make_room-clause-whole : goal.returns-in_err-make_room-clause-whole
returns-in_err-make_room-clause-whole c = λ opening steps own w h.
    let f = c.self.inside in
    let old : CoreData = core_data f in
    let now : CoreData = record old { works = c.prepare_insert.new.works } in
    let g : StandsWhole opening steps own w now = whole_same_works opening steps own w old (subst (StandsWhole opening steps own w) (sym c.self.view_is) h) c.prepare_insert.new.works c.prepare_insert.ensures.same in
    let other = stage_none (readers_of w) opening own w.core now g.core c.args.tx.0 (put_not_reading f.table (done_in f.works c.args.tx.0) c.args.tx.0 c.args.row (sym c.not_put.ensures ∙ c.in_default.is)) in
    subst (λ r. LeadsWhole opening steps own w (CoreCall (Do c.args.tx.0 (Insert c.args.row))) r now) (came_spent c.from_residual-in_err-make_room.result c.from_residual-in_err-make_room.ensures.1)
    (others_lead opening steps own w (Do c.args.tx.0 (Insert c.args.row)) _ now _ g other tt
    (insert_starved (readers_of w) opening own w.core now g.core c.args.tx c.args.row other (ap (λ (z : WorkContent). why_not_put c.self.inside.table z.history c.args.tx.0 c.args.row) (c.prepare_insert.ensures.same c.args.tx.0) ∙ sym c.not_put.ensures ∙ c.in_default.is)))

-- ---- how many versions there are then
pub returns-in_err-insert_row-clause-count : goal.returns-in_err-insert_row-clause-count
returns-in_err-insert_row-clause-count c =
    let f = c.self.inside in
    let old : CoreData = core_data f in
    let now : CoreData = record old { works = c.prepare_insert.new.works } in
    let versions = c.insert_row.new.versions in
    refused_more old c.args.self.now (record now { versions = versions; table = c.insert_row.new.table }) c.from_residual-in_err-insert_row.result c.from_residual-in_err-insert_row.ensures.1 c.self.view_is
    (same_counts f.versions versions c.in_err-insert_row.ensures.err)

pub returns-clause-count : goal.returns-clause-count
returns-clause-count c =
    let f = c.self.inside in
    put_more (core_data f) c.args.self.now _ 1 c.self.view_is
    (inserted_counts f.versions c.insert_row.new.versions f.table c.insert_row.new.table c.args.tx (option_to_list c.shown-found.result.depends_on) c.args.row c.in_ok-insert_row.ensures.ok)
