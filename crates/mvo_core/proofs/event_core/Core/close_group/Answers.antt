use Rattle.std.proofs.Common.{ℕ, ◌++◌, ◌∷◌, [], refl, sym, ◌∙◌, subst, arith, ap}
use Rattle.std.specs.Prelude.{◌==◌}
use Rattle.rtrb.specs.Ring.{sent, known_free}
use Rattle.mvo_group.specs.Data.{GroupData, group_of}
use Rattle.mvo_tale.specs.Forgetting.{forgotten}
use Rattle.mvo_core.specs.Readers.{no_readers}
use Rattle.mvo_core.specs.Data.{CoreData}
use Rattle.mvo_core.specs.View.{core_data}
use Rattle.mvo_core.specs.Standing.{StandsFor}
use Rattle.mvo_core.specs.Closing.{HasClosed}
use Rattle.mvo_core.proofs.GroupClosed.{made, full_is, spent_for, ends_above, above_closed, low_drawn, closes, closed_now, not_moved, no_slot, no_memory}
use Rattle.mvo_core.specs.WholeStanding.{readers_of, StandsWhole}
use Rattle.mvo_core.specs.WholeClosing.{HasClosedWhole}
use Rattle.mvo_core.proofs.WholeClosed.{closes_whole}
use Rattle.mvo_types.specs.declared.refusal.Refusal.TheVariants.{NothingToDo, RingFull}
use Rattle.std.specs.Prelude.{Ok, Err}
use Rattle.mvo_theory.specs.Calls.Result.{Accepted}
use Rattle.mvo_core.proofs.WholeStands.{whole_stands_on}
use Rattle.mvo_core.proofs.event_core.Core.close_group.Goals as goal

pub returns-then-eq-clause-step : goal.returns-then-eq-clause-step
returns-then-eq-clause-step g c = λ opening steps s h.
    let f = c.self.inside in
    let old : CoreData = core_data f in
    let low = c.low_water-low_water.result.0 in (
      rw (← c.self.view_is) (not_moved no_readers opening steps s old (subst (StandsFor opening steps s) (sym c.self.view_is) h) low c.low_water-low_water.ensures (known_free c.args.ring.now == 0) (sym c.eq.ensures ∙ c.if-eq.true)),
      (((refl, refl, refl, refl), refl), refl, omega arith),
    )

pub returns-then-is_full-clause-step : goal.returns-then-is_full-clause-step
returns-then-is_full-clause-step g c = λ opening steps s h.
    let f = c.self.inside in
    let old : CoreData = core_data f in
    let low = c.low_water-low_water.result.0 in (
      rw (← c.self.view_is) (no_slot no_readers opening steps s old (subst (StandsFor opening steps s) (sym c.self.view_is) h) low c.low_water-low_water.ensures (known_free c.is_full.new.self == 0) (sym c.eq.ensures ∙ c.if-eq.false) (full_is c.is_full.result (known_free c.is_full.new.self) c.is_full.ensures.value ∙ c.if-is_full.true)),
      c.is_full.ensures.looked,
    )

pub next_records-requires-clause-preparing : goal.next_records-requires-clause-preparing
next_records-requires-clause-preparing g c =
    let f = c.self.inside in
    let i = c.self.invariant.stands in
    let old : CoreData = core_data f in
    ends_above (readers_of i.whole) i.opening i.own i.whole.core old i.stands.core c.low_water-low_water.result.0 c.low_water-low_water.ensures

pub next_records-requires-clause-above : goal.next_records-requires-clause-above
next_records-requires-clause-above g c =
    let f = c.self.inside in
    let i = c.self.invariant.stands in
    let old : CoreData = core_data f in
    let low = c.low_water-low_water.result.0 in
    above_closed (readers_of i.whole) i.opening i.own i.whole.core old i.stands.core low c.low_water-low_water.ensures i.closed (sym c.eq.ensures ∙ c.if-eq.false)

pub next_records-requires-clause-drawn : goal.next_records-requires-clause-drawn
next_records-requires-clause-drawn g c =
    let f = c.self.inside in
    let i = c.self.invariant.stands in
    let old : CoreData = core_data f in
    let drawn = low_drawn (readers_of i.whole) i.opening i.own i.whole.core old i.stands.core c.low_water-low_water.result.0 c.low_water-low_water.ensures in
    let is = i.stands.core.dependencies.stands.clock in
    let stamped = c.clock.ensures.sound.stamped in
    omega (arith, drawn, is, stamped)

pub returns-in_err-next-clause-step : goal.returns-in_err-next-clause-step
returns-in_err-next-clause-step g c = λ opening steps s h.
    let f = c.self.inside in
    let old : CoreData = core_data f in
    let low = c.low_water-low_water.result.0 in
    let full = known_free c.is_full.new.self == 0 in
    let free = full_is c.is_full.result (known_free c.is_full.new.self) c.is_full.ensures.value ∙ c.if-is_full.false in
    subst (λ x. HasClosed opening steps s c.args.ring.now c.from_residual.result x c.is_full.new.self) c.self.view_is
    (spent_for no_readers opening steps s c.args.ring.now c.is_full.new.self old
    (no_memory no_readers opening steps s old (subst (StandsFor opening steps s) (sym c.self.view_is) h) low c.low_water-low_water.ensures full (sym c.eq.ensures ∙ c.if-eq.false) free, c.is_full.ensures.looked)
    c.from_residual.result c.from_residual.ensures.1)

pub invariant_of-self : goal.invariant_of-self
invariant_of-self g c =
    let f = c.self.inside in
    let i = c.self.invariant.stands in
    let old : CoreData = core_data f in
    let low = c.low_water-low_water.result.0 in
    let n = c.in_ok-next.next in
    let now : GroupData = group_of f.closed.0 n.mark.0 n.records.items in
    let is = made c.new.result c.unwrap.result now c.new.ensures c.unwrap.ensures in
    record {
      stands =
          whole_stands_on i _ Accepted (record old { tale = c.forget.new.self; closed = n.mark.0; grouped = n.next })
          (closes_whole i.opening i.steps i.own i.whole old i.stands c.args.ring.now c.push_reserved.new.self (Ok (record { prev = f.closed; mark = n.mark })) (record old { tale = c.forget.new.self; closed = n.mark.0; grouped = n.next }) (
            closes (readers_of i.whole) i.opening i.own i.whole.core old i.stands.core low c.low_water-low_water.ensures (sym c.eq.ensures ∙ c.if-eq.false),
            (
              now,
              c.push_reserved.ensures.sent.0 ∙ ap (λ xs. xs ++ c.unwrap.result ∷ []) c.is_full.ensures.looked.1 ∙ ap (λ (x : GroupData). sent c.args.ring.now ++ x ∷ []) (sym is.1),
              closed_now (readers_of i.whole) i.opening i.own i.whole.core old i.stands.core low c.low_water-low_water.ensures n c.in_ok-next.ensures.next c.in_ok-next.ensures.rules.above (sym c.eq.ensures ∙ c.if-eq.false) f.closed refl is.0
                  c.forget.new.self (c.forget.ensures ∙ ap (λ (n : ℕ). forgotten n f.tale) c.lesser.ensures),
            ),
          )).2.leads;
      waiting = c.self.invariant.waiting;
    }

pub returns-clause-step : goal.returns-clause-step
returns-clause-step g c = λ opening steps s h.
    let f = c.self.inside in
    let old : CoreData = core_data f in
    let low = c.low_water-low_water.result.0 in
    let n = c.in_ok-next.next in
    let stands = subst (StandsFor opening steps s) (sym c.self.view_is) h in
    let now : GroupData = group_of f.closed.0 n.mark.0 n.records.items in
    let is = made c.new.result c.unwrap.result now c.new.ensures c.unwrap.ensures in (
      closes no_readers opening steps s old stands low c.low_water-low_water.ensures (sym c.eq.ensures ∙ c.if-eq.false),
      (
        now,
        c.push_reserved.ensures.sent.0 ∙ ap (λ xs. xs ++ c.unwrap.result ∷ []) c.is_full.ensures.looked.1 ∙ ap (λ (x : GroupData). sent c.args.ring.now ++ x ∷ []) (sym is.1),
        closed_now no_readers opening steps s old stands low c.low_water-low_water.ensures n c.in_ok-next.ensures.next c.in_ok-next.ensures.rules.above (sym c.eq.ensures ∙ c.if-eq.false) f.closed refl is.0
            c.forget.new.self (c.forget.ensures ∙ ap (λ (n : ℕ). forgotten n f.tale) c.lesser.ensures),
      ),
    )

-- ---- beside read-only ones
pub returns-then-eq-clause-whole : goal.returns-then-eq-clause-whole
returns-then-eq-clause-whole g c = λ opening steps own w h.
    let f = c.self.inside in
    let old : CoreData = core_data f in
    let stands : StandsWhole opening steps own w old = subst (StandsWhole opening steps own w) (sym c.self.view_is) h in
    let low = c.low_water-low_water.result.0 in
    closes_whole opening steps own w c.args.self.now h c.args.ring.now c.args.ring.now (Err NothingToDo) c.args.self.now (
      rw (← c.self.view_is) (not_moved (readers_of w) opening own w.core old stands.core low c.low_water-low_water.ensures (known_free c.args.ring.now == 0) (sym c.eq.ensures ∙ c.if-eq.true)),
      (((refl, refl, refl, refl), refl), refl, omega arith),
    )

pub returns-then-is_full-clause-whole : goal.returns-then-is_full-clause-whole
returns-then-is_full-clause-whole g c = λ opening steps own w h.
    let f = c.self.inside in
    let old : CoreData = core_data f in
    let stands : StandsWhole opening steps own w old = subst (StandsWhole opening steps own w) (sym c.self.view_is) h in
    let low = c.low_water-low_water.result.0 in
    closes_whole opening steps own w c.args.self.now h c.args.ring.now c.is_full.new.self (Err RingFull) c.args.self.now (
      rw (← c.self.view_is) (no_slot (readers_of w) opening own w.core old stands.core low c.low_water-low_water.ensures (known_free c.is_full.new.self == 0) (sym c.eq.ensures ∙ c.if-eq.false) (full_is c.is_full.result (known_free c.is_full.new.self) c.is_full.ensures.value ∙ c.if-is_full.true)),
      c.is_full.ensures.looked,
    )

pub returns-in_err-next-clause-whole : goal.returns-in_err-next-clause-whole
returns-in_err-next-clause-whole g c = λ opening steps own w h.
    let f = c.self.inside in
    let old : CoreData = core_data f in
    let stands : StandsWhole opening steps own w old = subst (StandsWhole opening steps own w) (sym c.self.view_is) h in
    let low = c.low_water-low_water.result.0 in
    let full = known_free c.is_full.new.self == 0 in
    let free = full_is c.is_full.result (known_free c.is_full.new.self) c.is_full.ensures.value ∙ c.if-is_full.false in
    subst (λ x. HasClosedWhole opening steps own w c.args.ring.now c.from_residual.result x c.is_full.new.self) c.self.view_is
    (closes_whole opening steps own w old stands c.args.ring.now c.is_full.new.self c.from_residual.result old
    (spent_for (readers_of w) opening own w.core c.args.ring.now c.is_full.new.self old
    (no_memory (readers_of w) opening own w.core old stands.core low c.low_water-low_water.ensures full (sym c.eq.ensures ∙ c.if-eq.false) free, c.is_full.ensures.looked)
    c.from_residual.result c.from_residual.ensures.1))

pub returns-clause-whole : goal.returns-clause-whole
returns-clause-whole g c = λ opening steps own w h.
    let f = c.self.inside in
    let old : CoreData = core_data f in
    let low = c.low_water-low_water.result.0 in
    let n = c.in_ok-next.next in
    let stands : StandsWhole opening steps own w old = subst (StandsWhole opening steps own w) (sym c.self.view_is) h in
    let now : GroupData = group_of f.closed.0 n.mark.0 n.records.items in
    let is = made c.new.result c.unwrap.result now c.new.ensures c.unwrap.ensures in
    closes_whole opening steps own w old stands c.args.ring.now c.push_reserved.new.self (Ok (record { prev = f.closed; mark = n.mark })) (record old { tale = c.forget.new.self; closed = n.mark.0; grouped = n.next }) (
      closes (readers_of w) opening own w.core old stands.core low c.low_water-low_water.ensures (sym c.eq.ensures ∙ c.if-eq.false),
      (
        now,
        c.push_reserved.ensures.sent.0 ∙ ap (λ xs. xs ++ c.unwrap.result ∷ []) c.is_full.ensures.looked.1 ∙ ap (λ (x : GroupData). sent c.args.ring.now ++ x ∷ []) (sym is.1),
        closed_now (readers_of w) opening own w.core old stands.core low c.low_water-low_water.ensures n c.in_ok-next.ensures.next c.in_ok-next.ensures.rules.above (sym c.eq.ensures ∙ c.if-eq.false) f.closed refl is.0
            c.forget.new.self (c.forget.ensures ∙ ap (λ (n : ℕ). forgotten n f.tale) c.lesser.ensures),
      ),
    )
