-- A new table, and changes of one key, which keep the used slots and the keys counted.
use Rattle.std.proofs.Common.{◌≡◌, ◌≢◌, ℕ, zero, suc, ◌+◌, ◌-◌, ◌<◌, ◌≤◌, List, [], ◌∷◌, ◌++◌, None, length, set, take, replicate, refl, sym, ap, subst, ◌∙◌, arith}
use Rattle.std.proofs.Math.Seq.{take-nil}
use Rattle.std.proofs.lemmas.List.{length-replicate, length-set}
use Rattle.std.proofs.lemmas.List.Sums.{sum_by-cons}
use Rattle.std.specs.FinMap.{get, empty, from_entries}
use Rattle.mvo_types.specs.declared.row.RowKey.{RowKey}
use Rattle.mvo_types.specs.Keys.{key_cmp}
use Rattle.mvo_hash.specs.declared.seeds.Seeds.{Seeds}
use Rattle.mvo_hash.specs.declared.slot.Slot.{Slot}
use Rattle.mvo_hash.specs.declared.slot.State.TheVariants.{Empty, Live}
use Rattle.mvo_hash.specs.Home.{home_of}
use Rattle.mvo_hash.specs.Slots.{slot, empty_slot, left_slot, live_slot, used_count, live_count, IsLive, IsFreeFrom, IsFoundAt}
use Rattle.mvo_hash.specs.Table.{map_of, table_of, no_keys, IsHashTable, IsHeads}
use Rattle.mvo_hash.proofs.Counts.{share, live_used, used_kept, used_more, live_kept, live_more, live_less}
use Rattle.mvo_hash.proofs.Finds.{entries_of-replicate}
use Rattle.mvo_hash.proofs.Tables.{table_set, table_take, table_place}

-- a write of one slot leaves as many homes
as_long : (first second : ℕ) (ss : List Slot) (i : ℕ) (s : Slot) → IsHashTable first second (length ss) (set ss i s) → IsHashTable first second (length (set ss i s)) (set ss i s)
as_long first second ss i s t = subst (λ n. IsHashTable first second n (set ss i s)) (sym (length-set ss i s)) t

module _ (first second most used keys : ℕ) (ss : List Slot) (h : IsHeads first second most used keys ss) (key : RowKey) (number : ℕ) (i : ℕ) (none : get (map_of ss) key ≡ None) (from : ℕ) (at_home : from ≡ home_of first second (length ss) key) (free : IsFreeFrom ss from i) where
  placed : IsHashTable first second (length (set ss i (live_slot key number))) (set ss i (live_slot key number))
  placed = as_long first second ss i (live_slot key number) (table_place first second (length ss) ss h.table key number i none from at_home free)

  -- in a slot that was never used
  pub heads_fresh : (slot ss i).state ≡ Empty → used < most → IsHeads first second most (used + 1) (keys + 1) (set ss i (live_slot key number))
  heads_fresh empty room = record {
    table = placed;
    live = let e = live_more ss i (live_slot key number) free.within free.free refl in omega (arith, e, h.live);
    counted = let e = used_more ss i (live_slot key number) free.within empty (λ e. cc) in omega (arith, e, h.counted);
    room = omega (arith, room);
    long = let e = length-set ss i (live_slot key number) in omega (arith, e, h.long);
  }

  -- in one that another key has left
  pub heads_again : (slot ss i).state ≢ Empty → IsHeads first second most used (keys + 1) (set ss i (live_slot key number))
  heads_again full = record {
    table = placed;
    live = let e = live_more ss i (live_slot key number) free.within free.free refl in omega (arith, e, h.live);
    counted = let e = used_kept ss i (live_slot key number) free.within full (λ e. cc) in omega (arith, e, h.counted);
    room = h.room;
    long = let e = length-set ss i (live_slot key number) in omega (arith, e, h.long);
  }

module _ (first second most used keys : ℕ) (ss : List Slot) (h : IsHeads first second most used keys ss) (key : RowKey) (i : ℕ) (found : IsFoundAt ss key i) where
  full : (slot ss i).state ≢ Empty
  full e = let l = found.live in cc

  -- another number at a key
  pub heads_set : (number : ℕ) → IsHeads first second most used keys (set ss i (live_slot key number))
  heads_set number = record {
    table = as_long first second ss i (live_slot key number) (table_set first second (length ss) ss h.table key number i found);
    counted = let e = used_kept ss i (live_slot key number) found.within full (λ e. cc) in omega (arith, e, h.counted);
    live = let e = live_kept ss i (live_slot key number) found.within found.live refl in omega (arith, e, h.live);
    room = h.room;
    long = let e = length-set ss i (live_slot key number) in omega (arith, e, h.long);
  }

  -- a key less
  pub heads_left : IsHeads first second most used (keys - 1) (set ss i left_slot)
  heads_left = record {
    table = as_long first second ss i left_slot (table_take first second (length ss) ss h.table key 0 i found);
    counted = let e = used_kept ss i left_slot found.within full (λ e. cc) in omega (arith, e, h.counted);
    live = let e = live_less ss i left_slot found.within found.live (λ e. cc) in omega (arith, e, h.live);
    room = h.room;
    long = let e = length-set ss i left_slot in omega (arith, e, h.long);
  }

empty_at : (n i : ℕ) → slot (replicate n empty_slot) i ≡ empty_slot
empty_at zero i = refl
empty_at (suc n) zero = refl
empty_at (suc n) (suc i) = empty_at n i

not_live : (n i : ℕ) → IsLive (slot (replicate n empty_slot) i) → ⊥
not_live n i live =
    let f : Empty ≡ Live = sym (ap (λ (s : Slot). s.state) (empty_at n i)) ∙ live in
    cc

used_none : (n : ℕ) → used_count (replicate n empty_slot) ≡ 0
used_none zero = refl
used_none (suc n) =
    let e : used_count (empty_slot ∷ replicate n empty_slot) ≡ share empty_slot + used_count (replicate n empty_slot) = sum_by-cons share empty_slot (replicate n empty_slot) in
    omega (arith, e, used_none n)

live_none : (n : ℕ) → live_count (replicate n empty_slot) ≡ 0
live_none n = omega (arith, live_used (replicate n empty_slot), used_none n)

-- a table that was just made
pub new_heads : (first second most count : ℕ) (ss : List Slot) → ss ≡ replicate count empty_slot → most ≤ count → IsHeads first second most 0 0 ss
new_heads first second most count ss is le = subst (IsHeads first second most 0 0) (sym is) (record {
  table = record {
    reached = λ key. record { at = λ i live e. absurd (not_live count i live) };
    apart = λ i j live other e. absurd (not_live count i live);
  };
  counted = sym (used_none count);
  live = sym (live_none count);
  room = omega arith;
  long = omega (arith, length-replicate count empty_slot, le);
})

pub new_table : (seeds : Seeds) (keys count : ℕ) (ss : List Slot) → ss ≡ replicate count empty_slot → table_of seeds keys 0 ss ≡ no_keys seeds keys
new_table seeds keys count ss is =
    let numbers : map_of ss ≡ empty = ap map_of is ∙ ap (from_entries {R = key_cmp}) (entries_of-replicate count) in
    let room : keys - 0 ≡ keys = omega arith in
    cc

-- an empty list that was filled up
pub filled_up : (old : List Slot) (n len : ℕ) (s : Slot) (new : List Slot) → new ≡ take n old ++ replicate (n - len) s → old ≡ [] → len ≡ 0 → s ≡ empty_slot → new ≡ replicate n empty_slot
filled_up old n len s new is none start same =
    let front : take n old ≡ [] = ap (take n) none ∙ take-nil n in
    is ∙ ap (λ (l : List Slot). l ++ replicate (n - len) s) front
    ∙ ap (λ (m : ℕ). replicate m s) (omega (arith, start)) ∙ ap (replicate n) same
