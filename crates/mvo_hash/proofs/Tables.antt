-- A change of one key keeps the table, and changes its map there.
use Rattle.std.proofs.Common.{◌≡◌, ◌≢◌, ℕ, ◌<◌, List, [], ◌∷◌, ◌++◌, None, Some, length, set, take, ◌+◌, refl, sym, ap, subst, ◌∙◌, arith}
use Rattle.std.proofs.lemmas.List.{length-take, get_or-take, take_more, append-nil}
use Rattle.std.proofs.lemmas.List.Elements.{filter_map-append}
use Rattle.std.specs.FinMap.{from_entries, from_entries_push}
use Rattle.mvo_types.specs.Keys.{key_cmp}
use Rattle.mvo_types.proofs.Maps.{keys_total, exact_keys}
use Rattle.std.specs.FinMap.{get, insert, remove}
use Rattle.mvo_types.specs.declared.row.RowKey.{RowKey}
use Rattle.mvo_hash.specs.declared.slot.Slot.{Slot}
use Rattle.mvo_hash.specs.declared.slot.State.TheVariants.{Left, Live}
use Rattle.mvo_hash.specs.Home.{home_of}
use Rattle.mvo_hash.specs.Slots.{slot_entry, slot_entries, empty_slot, slot, slot_key, live_slot, left_slot, IsLive, IsProbed, IsFoundAt, IsNowhere, IsFreeFrom}
use Rattle.mvo_hash.specs.Table.{map_of, IsHashTable}
use Rattle.mvo_hash.proofs.Finds.{get_found, get_missing, kept, skipped, live_within, missing}
use Rattle.mvo_hash.proofs.Puts.{Apart, Puts, Puts-set, reached_put, apart_put, map_put, apart_take, map_take}

module _ (first second homes : ℕ) (ss : List Slot) (t : IsHashTable first second homes ss) (key : RowKey) where
  abbrev home : RowKey → ℕ
  home k = home_of first second homes k

  only_at : (i : ℕ) → IsFoundAt ss key i → (j : ℕ) → IsLive (slot ss j) → slot_key (slot ss j) ≡ slot_key (slot ss i) → j ≡ i
  only_at i found j l e = t.apart j i l found.live e

  pub get_at : (i : ℕ) → IsFoundAt ss key i → get (map_of ss) key ≡ Some (slot ss i).number
  get_at i found = get_found ss i key found.live found.same (only_at i found)

  pub nowhere_from_none : get (map_of ss) key ≡ None → IsNowhere ss key
  nowhere_from_none none = record { at = λ i l e. let some = get_found ss i key l e (λ j lj ej. t.apart j i lj l ej) in cc }

  module _ (number : ℕ) (i : ℕ) (found : IsFoundAt ss key i) where
    only_key : (j : ℕ) → IsLive (slot ss j) → slot_key (slot ss j) ≡ slot_key (live_slot key number) → j ≡ i
    only_key j l e = only_at i found j l (e ∙ sym found.same)

    put_found : Puts ss (set ss i (live_slot key number)) i (live_slot key number)
    put_found = Puts-set ss i (live_slot key number) found.within

    -- another number at a key that stands there
    pub table_set : IsHashTable first second homes (set ss i (live_slot key number))
    table_set = record {
      reached = reached_put ss _ i _ put_found home (λ e. cc) (λ _. (t.reached key).at i found.live found.same) t.reached;
      apart = apart_put ss _ i _ put_found refl only_key t.apart;
    }

    pub map_set : map_of (set ss i (live_slot key number)) ≡ insert (map_of ss) key number
    map_set = map_put ss _ i _ put_found refl only_key t.apart (λ _. found.same)

    put_left : Puts ss (set ss i left_slot) i left_slot
    put_left = Puts-set ss i left_slot found.within

    -- a slot that a key left
    pub table_take : IsHashTable first second homes (set ss i left_slot)
    table_take = record {
      reached = reached_put ss _ i _ put_left home (λ e. cc) (λ l. absurd (let e : Left ≡ Live = l in cc)) t.reached;
      apart = apart_take ss _ i _ put_left (λ e. cc) found.live t.apart;
    }

    pub map_left : map_of (set ss i left_slot) ≡ remove (map_of ss) key
    map_left = map_take ss _ i _ put_left (λ e. cc) found.live t.apart ∙ ap (remove (map_of ss)) found.same

  module _ (number : ℕ) (i : ℕ) (none : get (map_of ss) key ≡ None) (from : ℕ) (at_home : from ≡ home key) (free : IsFreeFrom ss from i) where
    nowhere : IsNowhere ss key
    nowhere = nowhere_from_none none

    new_key : (j : ℕ) → IsLive (slot ss j) → slot_key (slot ss j) ≡ slot_key (live_slot key number) → j ≡ i
    new_key j l e = absurd (nowhere.at j l e)

    probed : IsProbed ss (home key) i
    probed = subst (λ h. IsProbed ss h i) at_home free.probed

    not_before : IsLive (slot ss i) → slot_key (slot ss i) ≡ slot_key (live_slot key number)
    not_before l = absurd (free.free l)

    put_free : Puts ss (set ss i (live_slot key number)) i (live_slot key number)
    put_free = Puts-set ss i (live_slot key number) free.within

    -- a new key at a free slot
    pub table_place : IsHashTable first second homes (set ss i (live_slot key number))
    table_place = record {
      reached = reached_put ss _ i _ put_free home (λ e. cc) (λ _. probed) t.reached;
      apart = apart_put ss _ i _ put_free refl new_key t.apart;
    }

    pub map_place : map_of (set ss i (live_slot key number)) ≡ insert (map_of ss) key number
    map_place = map_put ss _ i _ put_free refl new_key t.apart not_before

module _ (ss : List Slot) (i : ℕ) (within : i < length ss) where
  next_entries : slot_entries (take (i + 1) ss) ≡ slot_entries (take i ss) ++ slot_entries (slot ss i ∷ [])
  next_entries = ap slot_entries (take_more ss i empty_slot within) ∙ filter_map-append slot_entry (take i ss) (slot ss i ∷ [])

  -- a slot that holds no key adds none
  pub next_free : (slot ss i).state ≢ Live → map_of (take (i + 1) ss) ≡ map_of (take i ss)
  next_free free =
      ap (from_entries {R = key_cmp}) (next_entries
      ∙ ap (λ es. slot_entries (take i ss) ++ es) (skipped (slot ss i).state (slot_key (slot ss i), (slot ss i).number) [] free) ∙ append-nil (slot_entries (take i ss)))

  module _ (live : IsLive (slot ss i)) (apart : Apart ss) where
    earlier : IsNowhere (take i ss) (slot_key (slot ss i))
    earlier = record {
      at = λ m l e.
          let below : m < i = (let h = live_within (take i ss) m l in let g = length-take i ss in omega (arith, h, g)) in
          let same : slot (take i ss) m ≡ slot ss m = get_or-take i ss m empty_slot below in
          let h : m ≡ i = apart m i (ap (λ (s : Slot). s.state) (sym same) ∙ l) live (ap slot_key (sym same) ∙ e) in
          omega (arith, h, below);
    }

    -- the key of the next slot is a new one
    pub next_new : get (map_of (take i ss)) (slot_key (slot ss i)) ≡ None
    next_new = get_missing (take i ss) (slot_key (slot ss i)) earlier

    pub next_live : map_of (take (i + 1) ss) ≡ insert (map_of (take i ss)) (slot_key (slot ss i)) (slot ss i).number
    next_live =
        ap (from_entries {R = key_cmp}) (next_entries
        ∙ ap (λ es. slot_entries (take i ss) ++ es) (kept (slot ss i).state (slot_key (slot ss i), (slot ss i).number) [] live))
        ∙ from_entries_push keys_total exact_keys (slot_entries (take i ss)) (slot_key (slot ss i)) (slot ss i).number (missing (take i ss) (slot_key (slot ss i)) earlier.at)
