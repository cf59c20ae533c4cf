use Rattle.std.proofs.Common.{◌∙◌, ◌+◌, ◌<◌, List, [], ◌∷◌, ◌++◌, length, refl, sym, ap, subst}
use Rattle.std.specs.List.{AllByRecursion}
use Rattle.std.specs.Option.{is_some}
use Rattle.mvo_types.specs.declared.ids.Stamp.{Stamp}
use Rattle.mvo_tale.specs.declared.tale_place.TalePlace.TheVariants.{Reading}
use Rattle.mvo_tale.specs.Slots.{ends, pending_end_at}
use Rattle.mvo_tale.proofs.ReadingMoves.{reading_last}
use Rattle.mvo_core.proofs.ReaderOwn.{reading_pending}
use Rattle.mvo_types.specs.declared.refusal.Refusal.TheVariants.{OutOfMemory}
use Rattle.mvo_tale.specs.declared.tale_place.TalePlace.{TalePlace}
use Rattle.mvo_txn.specs.Txns.{why_not_begun, IsTableRefusal}
use Rattle.mvo_theory.specs.Calls.Result.{Accepted}
use Rattle.mvo_readonly.specs.WholeCauses.WholeCall.{BeginReadOnly}
use Rattle.mvo_core.specs.Data.{CoreData}
use Rattle.mvo_core.specs.View.{core_data}
use Rattle.mvo_content.specs.Works.{WorksData}
use Rattle.mvo_core.specs.WholeStanding.{readers_of, StandsInWhole, StandsWhole, LeadsWhole}
use Rattle.mvo_core.proofs.Drawing.{ends_below}
use Rattle.mvo_core.proofs.Refused.{came_spent}
use Rattle.mvo_core.proofs.WholeBegins.{not_begun_whole, left_whole, begins_whole}
use Rattle.mvo_core.proofs.WholeStands.{whole_stands_on}
use Rattle.mvo_core.proofs.Waits.{begun_waits}
use Rattle.mvo_core.proofs.event_core.Core.begin_read_only.Goals as goal

pub returns-in-Some-clause-whole : goal.returns-in-Some-clause-whole
returns-in-Some-clause-whole c = λ opening steps own w h.
    not_begun_whole opening steps own w c.args.self.now h c.in-Some.refusal
    (subst (λ o. IsTableRefusal o c.in-Some.refusal) (sym (ap (λ (x : CoreData). why_not_begun x.table) (sym c.self.view_is) ∙ sym c.why_not_begun.ensures ∙ c.in-Some.is)) refl) c.args.self.now h

pub open_reading-requires : goal.open_reading-requires
open_reading-requires c =
    let f = c.self.inside in
    let old : CoreData = record (core_data f) { works = c.give_list.new.works } in
    let i : StandsInWhole old = subst (λ (ws : WorksData). StandsInWhole (record (core_data f) { works = ws })) (sym c.give_list.ensures.works) c.self.invariant.stands in
    subst (λ (xs : List TalePlace). AllByRecursion (λ earlier. earlier < c.clock-clock.result.0 + 1) (ends xs)) (sym c.give_list.ensures.tale)
    (ends_below (readers_of i.whole) i.opening i.own i.whole.core old i.stands.core (c.clock-clock.result.0 + 1) (ap (λ n. n + 1) c.clock-clock.ensures.value))

pub returns-in_err-place-clause-whole : goal.returns-in_err-place-clause-whole
returns-in_err-place-clause-whole c = λ opening steps own w h.
    let f = c.self.inside in
    let old : CoreData = record (core_data f) { works = c.give_list.new.works } in
    let g : StandsWhole opening steps own w old = subst (λ (ws : WorksData). StandsWhole opening steps own w (record (core_data f) { works = ws })) (sym c.give_list.ensures.works) (subst (StandsWhole opening steps own w) (sym c.self.view_is) h) in
    subst (λ r. LeadsWhole opening steps own w BeginReadOnly r (record old { tale = c.open_reading.new.self })) (came_spent c.from_residual.result c.from_residual.ensures.1)
    (not_begun_whole opening steps own w old g OutOfMemory (subst (λ o. IsTableRefusal o OutOfMemory) (sym (sym c.why_not_begun.ensures ∙ c.in_default.is)) refl) (record old { tale = c.open_reading.new.self })
    (subst (λ (xs : List TalePlace). StandsWhole opening steps own w (record old { tale = xs })) (sym (c.in_err-place.ensures.err ∙ c.give_list.ensures.tale)) g))

-- ---- it begins
pub invariant_of-self-in-Ok : goal.invariant_of-self-in-Ok
invariant_of-self-in-Ok c =
    let f = c.self.inside in
    let old : CoreData = record (core_data f) { works = c.give_list.new.works } in
    let i : StandsInWhole old = subst (λ (ws : WorksData). StandsInWhole (record (core_data f) { works = ws })) (sym c.give_list.ensures.works) c.self.invariant.stands in
    let b : Stamp = record { 0 = c.clock-clock.result.0 + 1 } in
    let tale_is = c.in_ok-place.ensures.ok ∙ ap (λ (xs : List TalePlace). xs ++ Reading b ∷ []) c.give_list.ensures.tale in
    let place_is = c.in_ok-place.ensures.place ∙ ap (λ (xs : List TalePlace). length xs) c.give_list.ensures.tale in
    record {
      stands =
          whole_stands_on i BeginReadOnly Accepted (record old { table = c.begin.new.self; tale = c.open_reading.new.self })
          (begins_whole i.opening i.steps i.own i.whole old i.stands c.begun_reading.result c.begun_reading.ensures.dependencies
          (ap (λ w. w.words) c.begun_reading.ensures.writes ∙ c.take-writes.ensures) c.begun_reading.ensures.kind (c.begun_reading.ensures.place ∙ place_is)
          c.clock-clock.result.0 c.clock-clock.ensures.value c.in-Ok.ensures.no_cause c.begin.new.self c.in-Ok.ensures.ok c.open_reading.new.self tale_is);
      waiting = begun_waits f.table c.begin.new.self c.begun_reading.result f.versions.slots f.waiting c.begin.result c.begin.ensures.ok c.begin.ensures.err c.self.invariant.waiting;
    }

pub returns-in-Ok-clause-whole : goal.returns-in-Ok-clause-whole
returns-in-Ok-clause-whole c = λ opening steps own w h.
    let f = c.self.inside in
    let old : CoreData = record (core_data f) { works = c.give_list.new.works } in
    let g : StandsWhole opening steps own w old = subst (λ (ws : WorksData). StandsWhole opening steps own w (record (core_data f) { works = ws })) (sym c.give_list.ensures.works) (subst (StandsWhole opening steps own w) (sym c.self.view_is) h) in
    let b : Stamp = record { 0 = c.clock-clock.result.0 + 1 } in
    let tale_is = c.in_ok-place.ensures.ok ∙ ap (λ (xs : List TalePlace). xs ++ Reading b ∷ []) c.give_list.ensures.tale in
    let place_is = c.in_ok-place.ensures.place ∙ ap (λ (xs : List TalePlace). length xs) c.give_list.ensures.tale in
    begins_whole opening steps own w old g c.begun_reading.result c.begun_reading.ensures.dependencies
    (ap (λ w. w.words) c.begun_reading.ensures.writes ∙ c.take-writes.ensures) c.begun_reading.ensures.kind (c.begun_reading.ensures.place ∙ place_is)
    c.clock-clock.result.0 c.clock-clock.ensures.value c.in-Ok.ensures.no_cause c.begin.new.self c.in-Ok.ensures.ok c.open_reading.new.self tale_is

-- ---- the table has no memory: the place that was opened is left
pub leave-requires : goal.leave-requires
leave-requires c =
    let f = c.self.inside in
    let b : Stamp = record { 0 = c.clock-clock.result.0 + 1 } in
    let tale_is = c.in_ok-place.ensures.ok ∙ ap (λ (xs : List TalePlace). xs ++ Reading b ∷ []) c.give_list.ensures.tale in
    let place_is = c.in_ok-place.ensures.place ∙ ap (λ (xs : List TalePlace). length xs) c.give_list.ensures.tale in
    ap is_some ((λ i. pending_end_at (tale_is i) (place_is i)) ∙ reading_pending (f.tale ++ Reading b ∷ []) (length f.tale) b.0 (reading_last f.tale b))

pub invariant_of-self-in-Err : goal.invariant_of-self-in-Err
invariant_of-self-in-Err c =
    let f = c.self.inside in
    let old : CoreData = record (core_data f) { works = c.give_list.new.works } in
    let i : StandsInWhole old = subst (λ (ws : WorksData). StandsInWhole (record (core_data f) { works = ws })) (sym c.give_list.ensures.works) c.self.invariant.stands in
    let b : Stamp = record { 0 = c.clock-clock.result.0 + 1 } in
    let tale_is = c.in_ok-place.ensures.ok ∙ ap (λ (xs : List TalePlace). xs ++ Reading b ∷ []) c.give_list.ensures.tale in
    let place_is = c.in_ok-place.ensures.place ∙ ap (λ (xs : List TalePlace). length xs) c.give_list.ensures.tale in
    record {
      stands = record {
        opening = i.opening;
        steps = i.steps;
        own = i.own;
        whole = i.whole;
        stands = subst (λ x. StandsWhole i.opening i.steps i.own i.whole (record old { table = x; tale = c.leave.new.self })) (sym c.in-Err.ensures.err)
            (left_whole i.opening i.steps i.own i.whole old i.stands c.len.ensures.rising c.clock-clock.result.0 c.clock-clock.ensures.value c.in_ok-place.place place_is c.open_reading.new.self c.leave.new.self tale_is c.leave.ensures);
        closed = i.closed;
      };
      waiting = begun_waits f.table c.begin.new.self c.begun_reading.result f.versions.slots f.waiting c.begin.result c.begin.ensures.ok c.begin.ensures.err c.self.invariant.waiting;
    }

pub returns-in-Err-clause-whole : goal.returns-in-Err-clause-whole
returns-in-Err-clause-whole c = λ opening steps own w h.
    let f = c.self.inside in
    let old : CoreData = record (core_data f) { works = c.give_list.new.works } in
    let g : StandsWhole opening steps own w old = subst (λ (ws : WorksData). StandsWhole opening steps own w (record (core_data f) { works = ws })) (sym c.give_list.ensures.works) (subst (StandsWhole opening steps own w) (sym c.self.view_is) h) in
    let b : Stamp = record { 0 = c.clock-clock.result.0 + 1 } in
    let tale_is = c.in_ok-place.ensures.ok ∙ ap (λ (xs : List TalePlace). xs ++ Reading b ∷ []) c.give_list.ensures.tale in
    let place_is = c.in_ok-place.ensures.place ∙ ap (λ (xs : List TalePlace). length xs) c.give_list.ensures.tale in
    not_begun_whole opening steps own w old g c.in-Err.refusal c.in-Err.ensures.refused (record old { table = c.begin.new.self; tale = c.leave.new.self })
    (subst (λ x. StandsWhole opening steps own w (record old { table = x; tale = c.leave.new.self })) (sym c.in-Err.ensures.err)
    (left_whole opening steps own w old g c.len.ensures.rising c.clock-clock.result.0 c.clock-clock.ensures.value c.in_ok-place.place place_is c.open_reading.new.self c.leave.new.self tale_is c.leave.ensures))
