use Rattle.std.proofs.Common.{◌≡◌, ℕ, ◌+◌, ◌<◌, ◌^◌, Option, Some, take, sym, ap, ◌∙◌, subst, arith}
use Rattle.std.specs.FinMap as map
use Rattle.std.specs.Option.{SomeIff}
use Rattle.mvo_hash.specs.declared.seeds.Seeds.{Seeds}
use Rattle.mvo_hash.specs.Home.{hash_of}
use Rattle.mvo_hash.specs.Slots.{slot, live_count}
use Rattle.mvo_hash.specs.Table.{Table, map_of}
use Rattle.mvo_hash.proofs.Counts.{live_next, live_next_free, live_front}
use Rattle.mvo_hash.proofs.Puts.{Apart}
use Rattle.mvo_hash.proofs.Tables.{next_free, next_new, next_live}
use Rattle.mvo_hash.proofs.open_table.OpenTable.moved.Goals.{then-is_live, else-is_live}
use Rattle.mvo_hash.proofs.open_table.OpenTable.moved.Goals as goal

pub place-requires-clause-new : goal.place-requires-clause-new
place-requires-clause-new c =
    let xs = c.deref-slot-items.result.now in
    let i = c.loop-slot.slot-index in
    let apart : Apart xs = subst Apart (sym c.deref-slot-items.ensures.value) c.self.invariant.table.apart in
    ap (λ m. map.get m c.row_key-key.result) c.loop-slot.invariant.same ∙ ap (map.get (map_of (take i xs))) c.row_key-key.ensures
    ∙ next_new xs i c.loop-slot-test.true (c.is_live.ensures.0 c.if-is_live.true) apart

pub place-requires-clause-room : goal.place-requires-clause-room
place-requires-clause-room c =
    let xs = c.deref-slot-items.result.now in
    let i = c.loop-slot.slot-index in
    let next = live_next xs i c.loop-slot-test.true (c.is_live.ensures.0 c.if-is_live.true) in
    let counted : c.self.inside.keys ≡ live_count xs = c.self.invariant.live ∙ ap live_count (sym c.deref-slot-items.ensures.value) in
    let keys = c.self.inside.keys in
    let more = c.max-more.result in
    let sum : SomeIff (Some c.in_ok-enough.enough) (keys + more < 2 ^ 64) (keys + more) = subst (λ (o : Option ℕ). SomeIff o (keys + more < 2 ^ 64) (keys + more)) c.in_ok-enough.ensures.ok_part c.checked_add.ensures in
    omega (arith, next, counted, live_front xs (i + 1), c.loop-slot.invariant.room, sum.1)

pub loop-slot-preserved : goal.loop-slot-preserved
loop-slot-preserved c =
    let xs = c.deref-slot-items.result.now in
    let i = c.loop-slot.slot-index in
    let apart : Apart xs = subst Apart (sym c.deref-slot-items.ensures.value) c.self.invariant.table.apart in
    elim c.if-is_live.branch [
      | then-is_live w ↦
          let next = live_next xs i c.loop-slot-test.true (c.is_live.ensures.0 w.if-is_live.true) in
          record {
            same =
                ap (λ (t : Table). t.numbers) w.larger-is ∙ w.place.ensures.numbers ∙ ap (λ m. map.insert m w.row_key-key.result (slot xs i).number) c.loop-slot.invariant.same
                ∙ ap (λ k. map.insert (map_of (take i xs)) k (slot xs i).number) w.row_key-key.ensures
                ∙ sym (next_live xs i c.loop-slot-test.true (c.is_live.ensures.0 w.if-is_live.true) apart);
            seeds = ap (λ (t : Table). t.seeds) w.larger-is ∙ w.place.ensures.seeds ∙ c.loop-slot.invariant.seeds;
            room = omega (arith, next, w.place.ensures.room, ap (λ (t : Table). t.room) w.larger-is, c.loop-slot.invariant.room);
          }
      | else-is_live w ↦
          let next = live_next_free xs i c.loop-slot-test.true (λ l. let t = c.is_live.ensures.1 l in let f = w.if-is_live.false in cc) in
          record {
            same = ap (λ (t : Table). t.numbers) w.larger-is ∙ c.loop-slot.invariant.same ∙ sym (next_free xs i c.loop-slot-test.true (λ l. let t = c.is_live.ensures.1 l in let f = w.if-is_live.false in cc));
            seeds = ap (λ (t : Table). t.seeds) w.larger-is ∙ c.loop-slot.invariant.seeds;
            room = omega (arith, next, ap (λ (t : Table). t.room) w.larger-is, c.loop-slot.invariant.room);
          }
    ]

pub place-requires-clause-hash : goal.place-requires-clause-hash
place-requires-clause-hash c = c.hash.ensures ∙ ap (λ (s : Seeds). hash_of s.first s.second c.row_key-key.result) (sym c.loop-slot.invariant.seeds)
