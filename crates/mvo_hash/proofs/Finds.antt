-- What the entries of an open table have at a key.
use Rattle.std.proofs.Common.{◌≡◌, ◌≢◌, ℕ, suc, zero, ◌<◌, ◌≤◌, ◌⊎◌, inl, inr, List, [], ◌∷◌, None, Some, true, false, length, get_or, replicate, refl, sym, ap, ◌∙◌, arith}
use Rattle.std.proofs.lemmas.Bool.{cond-true, cond-false, false_from_ne_true, cases_lt, cases_Bool}
use Rattle.std.proofs.lemmas.List.{get_or_past, get_or_read}
use Rattle.std.proofs.lemmas.Map.Views.{tells_apart}
use Rattle.std.specs.List.{cons_option}
use Rattle.std.specs.Ordering.{eq_by_cmp}
use Rattle.std.specs.Cmp.{eq_by_cmp_equiv}
use Rattle.std.specs.FinMap.{find, get, get-from_entries, remove, get-remove, same_map, FinMap}
use Rattle.mvo_types.specs.declared.row.RowKey.{RowKey}
use Rattle.mvo_types.specs.Keys.{key_cmp}
use Rattle.mvo_types.proofs.Maps.{keys_total, exact_keys}
use Rattle.mvo_hash.specs.declared.slot.Slot.{Slot}
use Rattle.mvo_hash.specs.declared.slot.State.{State}
use Rattle.mvo_hash.specs.declared.slot.State.TheVariants.{Empty, Left, Live}
use Rattle.mvo_hash.specs.Slots.{slot, slot_key, empty_slot, IsLive, held_by, slot_entries, IsNowhere}
use Rattle.mvo_hash.specs.Table.{map_of}

pub same_key : (q k : RowKey) → q ≡ k → eq_by_cmp key_cmp q k ≡ true
same_key q k e = ap (eq_by_cmp key_cmp q) (sym e) ∙ (eq_by_cmp_equiv keys_total).refl q

pub other_key : (q k : RowKey) → q ≢ k → eq_by_cmp key_cmp q k ≡ false
other_key q k n = false_from_ne_true _ (λ t. n (tells_apart exact_keys q k t))

pub cases_key : (q k : RowKey) → (q ≡ k) ⊎ (q ≢ k)
cases_key q k =
    elim (cases_Bool (eq_by_cmp key_cmp q k)) [
      | inl t ↦ inl (tells_apart exact_keys q k t)
      | inr f ↦ inr (λ e. let t = same_key q k e in cc)
    ]

pub cases_live : (t : State) → (t ≡ Live) ⊎ (t ≢ Live)
cases_live Empty = inr (λ e. cc)
cases_live Left = inr (λ e. cc)
cases_live Live = inl refl

pub skipped : (t : State) (e : RowKey × ℕ) (es : List (RowKey × ℕ)) → t ≢ Live → cons_option (held_by t e) es ≡ es
skipped Empty e es n = refl
skipped Left e es n = refl
skipped Live e es n = absurd (n refl)

pub kept : (t : State) (e : RowKey × ℕ) (es : List (RowKey × ℕ)) → t ≡ Live → cons_option (held_by t e) es ≡ e ∷ es
kept Empty e es h = cc
kept Left e es h = cc
kept Live e es h = refl

pub past_not_live : (ss : List Slot) (i : ℕ) → length ss ≤ i → IsLive (slot ss i) → ⊥
past_not_live ss i past live = let e : (slot ss i).state ≡ Empty = ap (λ (s : Slot). s.state) (get_or_past ss i empty_slot past) in cc

pub live_within : (ss : List Slot) (i : ℕ) → IsLive (slot ss i) → i < length ss
live_within ss i live = elim (cases_lt i (length ss)) [ inl l ↦ l | inr past ↦ absurd (past_not_live ss i past live) ]

-- the key of a slot has its number, where no other slot has the key
pub found : (ss : List Slot) (i : ℕ) → IsLive (slot ss i) → ((j : ℕ) → IsLive (slot ss j) → slot_key (slot ss j) ≡ slot_key (slot ss i) → j ≡ i) → find key_cmp (slot_key (slot ss i)) (slot_entries ss) ≡ Some (slot ss i).number
found [] i live only = absurd (past_not_live [] i (omega arith) live)
found (s ∷ ss) zero live only =
    ap (find key_cmp (slot_key s)) (kept s.state (slot_key s, s.number) (slot_entries ss) live)
    ∙ cond-true _ (Some s.number) (find key_cmp (slot_key s) (slot_entries ss)) (same_key (slot_key s) (slot_key s) refl)
found (s ∷ ss) (suc i) live only =
    let k : RowKey = slot_key (slot ss i) in
    let rest = found ss i live (λ j l e. let h = only (suc j) l e in omega (arith, h)) in
    elim (cases_live s.state) [
      | inl l ↦ ap (find key_cmp k) (kept s.state (slot_key s, s.number) (slot_entries ss) l)
          ∙ cond-false _ (Some s.number) (find key_cmp k (slot_entries ss)) (other_key k (slot_key s) (λ e. let h : 0 ≡ suc i = only 0 l (sym e) in omega (arith, h))) ∙ rest
      | inr n ↦ ap (find key_cmp k) (skipped s.state (slot_key s, s.number) (slot_entries ss) n) ∙ rest
    ]

-- a key that no slot has isn't among the entries
pub missing : (ss : List Slot) (q : RowKey) → ((i : ℕ) → IsLive (slot ss i) → slot_key (slot ss i) ≢ q) → find key_cmp q (slot_entries ss) ≡ None
missing [] q none = refl
missing (s ∷ ss) q none =
    let rest = missing ss q (λ i. none (suc i)) in
    elim (cases_live s.state) [
      | inl l ↦ ap (find key_cmp q) (kept s.state (slot_key s, s.number) (slot_entries ss) l)
          ∙ cond-false _ (Some s.number) (find key_cmp q (slot_entries ss)) (other_key q (slot_key s) (λ e. none 0 l (sym e))) ∙ rest
      | inr n ↦ ap (find key_cmp q) (skipped s.state (slot_key s, s.number) (slot_entries ss) n) ∙ rest
    ]

abbrev Somewhere : List Slot → RowKey → Type 0
Somewhere ss q = (i : ℕ) × IsLive (slot ss i) × (slot_key (slot ss i) ≡ q)

none_more : (s : Slot) (ss : List Slot) (q : RowKey) → (IsLive s → slot_key s ≢ q) → IsNowhere ss q → (i : ℕ) → IsLive (slot (s ∷ ss) i) → slot_key (slot (s ∷ ss) i) ≢ q
none_more s ss q here rest zero = here
none_more s ss q here rest (suc i) = rest.at i

later : (s : Slot) (ss : List Slot) (q : RowKey) → (IsLive s → slot_key s ≢ q) → Somewhere ss q ⊎ IsNowhere ss q → Somewhere (s ∷ ss) q ⊎ IsNowhere (s ∷ ss) q
later s ss q here (inl w) = inl (suc w.0, w.1, w.2)
later s ss q here (inr none) = inr (record { at = none_more s ss q here none })

-- a key stands in some slot or in none
pub search_slots : (ss : List Slot) (q : RowKey) → Somewhere ss q ⊎ IsNowhere ss q
search_slots [] q = inr (record { at = λ i l. absurd (past_not_live [] i (omega arith) l) })
search_slots (s ∷ ss) q =
    elim (cases_live s.state) [
      | inl l ↦ elim (cases_key (slot_key s) q) [
        | inl e ↦ inl (0, l, e)
        | inr n ↦ later s ss q (λ _. n) (search_slots ss q)
      ]
      | inr n ↦ later s ss q (λ l. absurd (n l)) (search_slots ss q)
    ]

-- what the map has at a key that a slot holds, and at one that no slot holds
pub get_found : (ss : List Slot) (i : ℕ) (q : RowKey) → IsLive (slot ss i) → slot_key (slot ss i) ≡ q → ((j : ℕ) → IsLive (slot ss j) → slot_key (slot ss j) ≡ slot_key (slot ss i) → j ≡ i) → get (map_of ss) q ≡ Some (slot ss i).number
get_found ss i q live e only = ap (get (map_of ss)) (sym e) ∙ get-from_entries keys_total (slot_entries ss) (slot_key (slot ss i)) ∙ found ss i live only

pub get_missing : (ss : List Slot) (q : RowKey) → IsNowhere ss q → get (map_of ss) q ≡ None
get_missing ss q none = get-from_entries keys_total (slot_entries ss) q ∙ missing ss q none.at

-- to remove a key that isn't there changes nothing
pub remove_absent : (m : FinMap key_cmp ℕ) (k : RowKey) → get m k ≡ None → m ≡ remove m k
remove_absent m k none = same_map keys_total exact_keys _ _ (λ q.
    elim (cases_key q k) [
      | inl e ↦ ap (get m) e ∙ none ∙ sym (get-remove keys_total m k q ∙ cond-true _ None (get m q) (same_key q k e))
      | inr n ↦ sym (get-remove keys_total m k q ∙ cond-false _ None (get m q) (other_key q k n))
    ])

-- what was read at a place is the slot there
pub slot_read : (ss : List Slot) (i : ℕ) (s : Slot) → i < length ss → s ≡ get_or ss i s → s ≡ slot ss i
slot_read ss i s h e = get_or_read ss i s h e empty_slot

-- slots that were never used have no entries
pub entries_of-replicate : (n : ℕ) → slot_entries (replicate n empty_slot) ≡ []
entries_of-replicate zero = refl
entries_of-replicate (suc n) = entries_of-replicate n
