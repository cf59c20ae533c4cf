-- What the calls of the two ends of the ring make of it.
use Rattle.std.proofs.Common.{◌≡◌, ◌≤◌, ◌+◌, ℕ, Bool, false, List, [], ◌∷◌, ◌++◌, length, drop, Result, Ok, Err, refl, sym, ap, ◌∙◌, subst, arith, append_assoc}
use Rattle.std.specs.Prelude.{◌==◌}
use Rattle.std.specs.Cmp.{both_ways}
use Rattle.std.proofs.lemmas.Bool.{eqb-true, eq-eqb, ne_eqb}
use Rattle.std.proofs.lemmas.List.{length-append}
use Rattle.std.proofs.Math.Seq.{drop-append_seam}
use Rattle.mvo_types.specs.declared.refusal.Refusal.{Refusal}
use Rattle.mvo_types.specs.Keys.{Map}
use Rattle.mvo_model.specs.Trace.{Step}
use Rattle.mvo_group.specs.Data.{GroupData}
use Rattle.mvo_readonly.specs.Whole.{WholeState}
use Rattle.mvo_core.specs.declared.answers.Closed.{Closed}
use Rattle.mvo_core.specs.Data.{CoreData}
use Rattle.mvo_core.specs.WholeClosing.{HasClosedWhole, IsNotClosedWhole}
use Rattle.rtrb.specs.declared.producer.Producer.{Producer}
use Rattle.rtrb.specs.declared.consumer.Consumer.{Consumer}
use Rattle.rtrb.specs.Ring.{sent, received, known_free, known_items, producer_capacity, IsPair, SameProducer, SameConsumer, ProducerLooked, ConsumerLooked}
use Rattle.mvo_types.specs.declared.limits.TheConstants.{RING_GROUPS}
use Rattle.mvo_world.specs.Ends.{in_ring, AreEnds}
use Rattle.mvo_world.specs.Ring.{is_full, HasClosedInto}

-- behind the first of two lists
behind : {X : Type 0} (r s k : List X) → s ≡ r ++ k → drop (length r) s ≡ k
behind r s k e = ap (drop (length r)) e ∙ drop-append_seam r k

-- two numbers that make up the room
parts_of_room : (a b m : ℕ) → a + b ≡ m → (a == 0) ≡ (b == m)
parts_of_room a b m e = both_ways (a == 0) (b == m)
    (λ t. let z = eqb-true a 0 t in eq-eqb b m (omega (arith, e, z)))
    (λ t. let z = eqb-true b m t in eq-eqb a 0 (omega (arith, e, z)))

module _ {A P : Type 0} where
  pub pair_moves : (p p' : Producer GroupData A P) (c c' : Consumer GroupData A P) → SameProducer p p' → SameConsumer c c' → IsPair p c → IsPair p' c'
  pair_moves p p' c c' sp sc pr = (sc.0.0 ∙ pr.0 ∙ sym sp.0.0, sc.0.1 ∙ pr.1 ∙ sym sp.0.1, sc.0.2 ∙ pr.2 ∙ sym sp.0.2, sc.0.3 ∙ pr.3 ∙ sym sp.0.3)

  -- what was received and what is known to be in the ring is all that was sent
  pub known_is : (p : Producer GroupData A P) (c : Consumer GroupData A P) → received c ++ known_items c ≡ sent p → in_ring p c ≡ known_items c
  known_is p c fifo = behind (received c) (sent p) (known_items c) (sym fifo)

  pub ends_are : (p : Producer GroupData A P) (c : Consumer GroupData A P) → IsPair p c → received c ++ known_items c ≡ sent p → producer_capacity p ≡ RING_GROUPS → AreEnds p c
  ends_are p c pair fifo room = record { pair = pair; order = ap (λ gs. received c ++ gs) (known_is p c fifo) ∙ fifo; room = room }

  -- ---- a group is closed into it
  module _ (p0 p1 p2 p3 p4 : Producer GroupData A P) (c0 c1 c3 c4 : Consumer GroupData A P) (e : AreEnds p0 c0)
      (look1 : ProducerLooked p0 p1) (with1 : ConsumerLooked c0 c1) (free1 : known_free p1 + length (sent p1) ≡ producer_capacity p1 + length (received c1))
      (step2 : SameProducer p1 p2)
      (look3 : ProducerLooked p2 p3) (with3 : ConsumerLooked c1 c3) (free3 : known_free p3 + length (sent p3) ≡ producer_capacity p3 + length (received c3))
      (look4 : ProducerLooked p3 p4) (with4 : ConsumerLooked c3 c4) (fifo : received c4 ++ known_items c4 ≡ sent p4) where
    room3 : producer_capacity p3 ≡ RING_GROUPS
    room3 = look3.0.1 ∙ step2.1 ∙ look1.0.1 ∙ e.room

    pub still_ends : AreEnds p4 c4
    still_ends =
        let one = pair_moves p0 p1 c0 c1 look1.0 with1.0 e.pair in
        let two = pair_moves p1 p2 c1 c1 step2 ((refl, refl, refl, refl), refl) one in
        let three = pair_moves p2 p3 c1 c3 look3.0 with3.0 two in
        ends_are p4 c4 (pair_moves p3 p4 c3 c4 look4.0 with4.0 three) fifo (look4.0.1 ∙ room3)

    all_received : received c4 ≡ received c0
    all_received = with4.1 ∙ with3.1 ∙ with1.1

    before : sent p1 ≡ received c0 ++ in_ring p0 c0
    before = look1.1 ∙ sym e.order

    in_ring_then : (k : List GroupData) → sent p2 ≡ received c0 ++ k → in_ring p4 c4 ≡ k
    in_ring_then k is = behind (received c4) (sent p4) k (look4.1 ∙ look3.1 ∙ is ∙ ap (λ (r : List GroupData). r ++ k) (sym all_received))

    -- how many slots are free, by what is in the ring
    free_before : known_free p1 + length (in_ring p0 c0) ≡ RING_GROUPS
    free_before =
        let n = ap length before ∙ length-append (received c0) (in_ring p0 c0) in
        let m = ap length with1.1 in
        let room = look1.0.1 ∙ e.room in
        omega (arith, free1, n, m, room)

    free_then : (k : List GroupData) → sent p2 ≡ received c0 ++ k → known_free p3 + length k ≡ RING_GROUPS
    free_then k is =
        let n = ap length (look3.1 ∙ is) ∙ length-append (received c0) k in
        let m = ap length (with3.1 ∙ with1.1) in
        omega (arith, free3, n, m, room3)

    -- none was seen to be free exactly where the ring is full
    full_is : sent p2 ≡ sent p1 → known_free p1 ≤ known_free p2 → (known_free p2 == 0) ≡ is_full (in_ring p0 c0)
    full_is same up =
        let later = free_then (in_ring p0 c0) (same ∙ before) in
        let now : known_free p2 + length (in_ring p0 c0) ≡ RING_GROUPS = omega (arith, free_before, later, up, look3.2) in
        parts_of_room (known_free p2) (length (in_ring p0 c0)) RING_GROUPS now

    not_full : (g : GroupData) → sent p2 ≡ sent p1 ++ g ∷ [] → is_full (in_ring p0 c0) ≡ false
    not_full g is =
        let more = is ∙ ap (λ gs. gs ++ g ∷ []) before ∙ append_assoc (received c0) (in_ring p0 c0) (g ∷ []) in
        let later = free_then (in_ring p0 c0 ++ g ∷ []) more in
        let n = length-append (in_ring p0 c0) (g ∷ []) in
        ne_eqb (length (in_ring p0 c0)) RING_GROUPS (λ z. omega (arith, later, n, z))

    pub closed_into : (opening : Map) (steps own : List Step) (s : WholeState) (result : Result Closed Refusal) (new : CoreData) → HasClosedWhole opening steps own s p1 result new p2 → HasClosedInto opening steps own s (in_ring p0 c0) result new (in_ring p4 c4)
    closed_into opening steps own s (Ok c) new h =
        let g = h.0 in
        let is = h.1 in (
          not_full g is,
          (
            g,
            in_ring_then (in_ring p0 c0 ++ g ∷ []) (is ∙ ap (λ gs. gs ++ g ∷ []) before ∙ append_assoc (received c0) (in_ring p0 c0) (g ∷ [])),
            h.2,
          ),
        )
    closed_into opening steps own s (Err r) new h = (
      subst (λ (b : Bool). IsNotClosedWhole opening steps own s b r new) (full_is h.1.1 h.1.2) h.0,
      in_ring_then (in_ring p0 c0) (h.1.1 ∙ before),
    )

  -- ---- the oldest is taken
  module _ (p0 p1 : Producer GroupData A P) (c0 c1 : Consumer GroupData A P) (e : AreEnds p0 c0) (look : ProducerLooked p0 p1) (with : ConsumerLooked c0 c1) (fifo : received c1 ++ known_items c1 ≡ sent p1) where
    pub was_known : in_ring p0 c0 ≡ known_items c1
    was_known = behind (received c0) (sent p0) (known_items c1) (sym look.1 ∙ sym fifo ∙ ap (λ (r : List GroupData). r ++ known_items c1) with.1)

    pub looked_ends : AreEnds p1 c1
    looked_ends = ends_are p1 c1 (pair_moves p0 p1 c0 c1 look.0 with.0 e.pair) fifo (look.0.1 ∙ e.room)

    module _ (c2 : Consumer GroupData A P) (g : GroupData) (step : SameConsumer c1 c2) (got : received c2 ≡ received c1 ++ g ∷ []) (left : known_items c1 ≡ g ∷ known_items c2) where
      pub order_then : received c2 ++ known_items c2 ≡ sent p1
      order_then =
          ap (λ (r : List GroupData). r ++ known_items c2) got
          ∙ append_assoc (received c1) (g ∷ []) (known_items c2)
          ∙ ap (λ (k : List GroupData). received c1 ++ k) (sym left)
          ∙ fifo

      pub taken_ends : AreEnds p1 c2
      taken_ends = ends_are p1 c2 (pair_moves p1 p1 c1 c2 ((refl, refl, refl, refl), refl) step looked_ends.pair) order_then looked_ends.room

      pub has_taken : in_ring p0 c0 ≡ g ∷ in_ring p1 c2
      has_taken = was_known ∙ left ∙ ap (λ (k : List GroupData). g ∷ k) (sym (known_is p1 c2 order_then))
