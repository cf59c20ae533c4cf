-- A write of one slot.
use Rattle.std.proofs.Common.{◌≡◌, ◌≢◌, ℕ, ◌<◌, inl, inr, List, None, Some, cond, length, set, sym, ap, subst, ◌∙◌}
use Rattle.std.proofs.lemmas.Bool.{cond-true, cond-false, cases_eq}
use Rattle.std.proofs.lemmas.List.{length-set, get_or-set_same, get_or-set_other}
use Rattle.std.specs.Ordering.{eq_by_cmp}
use Rattle.std.specs.FinMap.{get, insert, remove, get-insert, get-remove, same_map}
use Rattle.mvo_types.specs.declared.row.RowKey.{RowKey}
use Rattle.mvo_types.specs.Keys.{key_cmp}
use Rattle.mvo_types.proofs.Maps.{keys_total, exact_keys}
use Rattle.mvo_hash.specs.declared.slot.Slot.{Slot}
use Rattle.mvo_hash.specs.declared.slot.State.TheVariants.{Empty, Live}
use Rattle.mvo_hash.specs.Slots.{slot, slot_key, empty_slot, IsLive, IsFilled, IsProbed, IsReached}
use Rattle.mvo_hash.specs.Table.{map_of}
use Rattle.mvo_hash.proofs.Finds.{same_key, other_key, cases_key, search_slots, get_found, get_missing}

-- the new slots are the old ones but for s at i
pub record Puts (old new : List Slot) (i : ℕ) (s : Slot) : Type 0 where
  pub long : length new ≡ length old
  pub at : slot new i ≡ s
  pub others : (j : ℕ) → j ≢ i → slot new j ≡ slot old j

pub Puts-set : (ss : List Slot) (i : ℕ) (s : Slot) → i < length ss → Puts ss (set ss i s) i s
Puts-set ss i s h = record { long = length-set ss i s; at = get_or-set_same ss i s empty_slot h; others = λ j n. get_or-set_other ss i j s empty_slot n }

abbrev pub Apart : List Slot → Type 0
Apart ss = (i j : ℕ) → IsLive (slot ss i) → IsLive (slot ss j) → slot_key (slot ss i) ≡ slot_key (slot ss j) → i ≡ j

state_of : (s t : Slot) → s ≡ t → s.state ≡ t.state
state_of s t e = ap (λ (r : Slot). r.state) e

module _ (old new : List Slot) (i : ℕ) (s : Slot) (put : Puts old new i s) where
  live_before : (j : ℕ) → j ≢ i → IsLive (slot new j) → IsLive (slot old j)
  live_before j n l = sym (state_of _ _ (put.others j n)) ∙ l

  live_after : (j : ℕ) → j ≢ i → IsLive (slot old j) → IsLive (slot new j)
  live_after j n l = state_of _ _ (put.others j n) ∙ l

  key_before : (j : ℕ) → j ≢ i → slot_key (slot new j) ≡ slot_key (slot old j)
  key_before j n = ap slot_key (put.others j n)

  filled_put : s.state ≢ Empty → (from to : ℕ) → IsFilled old from to → IsFilled new from to
  filled_put full from to was = record {
    at = λ x a b. elim (cases_eq x i) [
      | inl is ↦ λ empty. full (sym (state_of _ _ put.at) ∙ ap (λ y. (slot new y).state) (sym is) ∙ empty)
      | inr n ↦ λ empty. was.at x a b (sym (state_of _ _ (put.others x n)) ∙ empty)
    ];
  }

  probed_put : s.state ≢ Empty → (home to : ℕ) → IsProbed old home to → IsProbed new home to
  probed_put full home to was = record {
    ahead = λ le. filled_put full home to (was.ahead le);
    behind = λ lt. filled_put full home (length new) (subst (IsFilled old home) (sym put.long) (was.behind lt));
    front = λ lt. filled_put full 0 to (was.front lt);
  }

  -- searches still meet what they met, and the new key where it stands
  pub reached_put : (home : RowKey → ℕ) → s.state ≢ Empty → (IsLive s → IsProbed old (home (slot_key s)) i) → ((key : RowKey) → IsReached old (home key) key) → (key : RowKey) → IsReached new (home key) key
  reached_put home full first was key = record {
    at = λ m l e. elim (cases_eq m i) [
      | inl is ↦
          let k : slot_key s ≡ key = ap slot_key (sym put.at) ∙ ap (λ x. slot_key (slot new x)) (sym is) ∙ e in
          let live : IsLive s = sym (state_of _ _ put.at) ∙ ap (λ x. (slot new x).state) (sym is) ∙ l in
          let there : IsProbed old (home key) i = subst (λ q. IsProbed old (home q) i) k (first live) in
          probed_put full (home key) m (subst (IsProbed old (home key)) (sym is) there)
      | inr n ↦ probed_put full (home key) m ((was key).at m (live_before m n l) (sym (key_before m n) ∙ e))
    ];
  }

  module _ (live : IsLive s) (only : (j : ℕ) → IsLive (slot old j) → slot_key (slot old j) ≡ slot_key s → j ≡ i) (was : Apart old) where
    pub apart_put : Apart new
    apart_put a b la lb e =
        elim (cases_eq a i) [
          | inl ai ↦ elim (cases_eq b i) [
            | inl bi ↦ ai ∙ sym bi
            | inr bn ↦ ai ∙ sym (only b (live_before b bn lb) (sym (key_before b bn) ∙ sym e ∙ ap (λ x. slot_key (slot new x)) ai ∙ ap slot_key put.at))
          ]
          | inr an ↦ elim (cases_eq b i) [
            | inl bi ↦ only a (live_before a an la) (sym (key_before a an) ∙ e ∙ ap (λ x. slot_key (slot new x)) bi ∙ ap slot_key put.at) ∙ sym bi
            | inr bn ↦ was a b (live_before a an la) (live_before b bn lb) (sym (key_before a an) ∙ e ∙ key_before b bn)
          ]
        ]

    only_new : (j m : ℕ) → IsLive (slot new j) → IsLive (slot new m) → slot_key (slot new m) ≡ slot_key (slot new j) → m ≡ j
    only_new j m lj lm e = apart_put m j lm lj e

    get_put : (before : IsLive (slot old i) → slot_key (slot old i) ≡ slot_key s) (q : RowKey) → get (map_of new) q ≡ cond (eq_by_cmp key_cmp q (slot_key s)) (Some s.number) (get (map_of old) q)
    get_put before q =
        let here : IsLive (slot new i) = state_of _ _ put.at ∙ live in
        elim (cases_key q (slot_key s)) [
          | inl e ↦ get_found new i q here (ap slot_key put.at ∙ sym e) (λ m lm em. only_new i m here lm em) ∙ ap (λ (x : Slot). Some x.number) put.at
              ∙ sym (cond-true _ (Some s.number) (get (map_of old) q) (same_key q (slot_key s) e))
          | inr n ↦ elim (search_slots old q) [
            | inl w ↦
                let apart : w.0 ≢ i = λ is. n (sym w.2 ∙ ap (λ x. slot_key (slot old x)) is ∙ before (ap (λ x. (slot old x).state) (sym is) ∙ w.1)) in
                get_found new w.0 q (live_after w.0 apart w.1) (key_before w.0 apart ∙ w.2) (λ m lm em. only_new w.0 m (live_after w.0 apart w.1) lm em)
                ∙ ap (λ (x : Slot). Some x.number) (put.others w.0 apart)
                ∙ sym (get_found old w.0 q w.1 w.2 (λ m lm em. was m w.0 lm w.1 em))
            | inr none ↦
                get_missing new q (record {
                  at = λ m lm em. elim (cases_eq m i) [
                    | inl is ↦ n (sym em ∙ ap (λ x. slot_key (slot new x)) is ∙ ap slot_key put.at)
                    | inr o ↦ none.at m (live_before m o lm) (sym (key_before m o) ∙ em)
                  ];
                }) ∙ sym (get_missing old q none)
          ] ∙ sym (cond-false _ (Some s.number) (get (map_of old) q) (other_key q (slot_key s) n))
        ]

    -- the map takes the number at the key
    pub map_put : (IsLive (slot old i) → slot_key (slot old i) ≡ slot_key s) → map_of new ≡ insert (map_of old) (slot_key s) s.number
    map_put before = same_map keys_total exact_keys _ _ (λ q. get_put before q ∙ sym (get-insert keys_total (map_of old) (slot_key s) s.number q))

  module _ (gone : s.state ≢ Live) (before : IsLive (slot old i)) (was : Apart old) where
    not_here : (m : ℕ) → IsLive (slot new m) → m ≢ i
    not_here m lm is = gone (sym (state_of _ _ put.at) ∙ ap (λ x. (slot new x).state) (sym is) ∙ lm)

    pub apart_take : Apart new
    apart_take a b la lb e =
        let an = not_here a la in
        let bn = not_here b lb in
        was a b (live_before a an la) (live_before b bn lb) (sym (key_before a an) ∙ e ∙ key_before b bn)

    get_take : (q : RowKey) → get (map_of new) q ≡ cond (eq_by_cmp key_cmp q (slot_key (slot old i))) None (get (map_of old) q)
    get_take q =
        elim (cases_key q (slot_key (slot old i))) [
          | inl e ↦
              get_missing new q (record {
                at = λ m lm em. let o = not_here m lm in
                    o (was m i (live_before m o lm) before (sym (key_before m o) ∙ em ∙ e));
              })
              ∙ sym (cond-true _ None (get (map_of old) q) (same_key q (slot_key (slot old i)) e))
          | inr n ↦ elim (search_slots old q) [
            | inl w ↦
                let apart : w.0 ≢ i = λ is. n (sym w.2 ∙ ap (λ x. slot_key (slot old x)) is) in
                let there = live_after w.0 apart w.1 in
                get_found new w.0 q there (key_before w.0 apart ∙ w.2) (λ m lm em. apart_take m w.0 lm there em)
                ∙ ap (λ (x : Slot). Some x.number) (put.others w.0 apart)
                ∙ sym (get_found old w.0 q w.1 w.2 (λ m lm em. was m w.0 lm w.1 em))
            | inr none ↦
                get_missing new q (record { at = λ m lm em. let o = not_here m lm in none.at m (live_before m o lm) (sym (key_before m o) ∙ em) })
                ∙ sym (get_missing old q none)
          ] ∙ sym (cond-false _ None (get (map_of old) q) (other_key q (slot_key (slot old i)) n))
        ]

    -- the map loses the key
    pub map_take : map_of new ≡ remove (map_of old) (slot_key (slot old i))
    map_take = same_map keys_total exact_keys _ _ (λ q. get_take q ∙ sym (get-remove keys_total (map_of old) (slot_key (slot old i)) q))
