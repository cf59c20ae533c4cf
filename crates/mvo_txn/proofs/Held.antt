-- What the map of a table's entries has at an id, and a change at one id.
use Rattle.std.proofs.Common.{◌≡◌, ℕ, ◌+◌, false, cond, List, [], ◌∷◌, length, Some, None, eqb, refl, sym, ap, ◌∙◌, arith}
use Rattle.std.proofs.lemmas.Cmp.{nat_cmp_total, eq_by_cmp_equiv}
use Rattle.std.proofs.lemmas.Map.Keys.{IsDistinct-head, IsDistinct-tail}
use Rattle.std.specs.List.{list_any, IsDistinct, AllByRecursion}
use Rattle.std.specs.Cmp.{unsigned_tied}
use Rattle.std.specs.Map.{lookup, keys_of}
use Rattle.std.specs.Ordering.{nat_cmp, eq_by_cmp}
use Rattle.std.specs.FinMap.{FinMap, find, from_entries, get, insert, remove, len, empty, get-from_entries, get-insert, get-remove, same_map, nat_cmp-IsAntisymmetric, len-insert, len-empty}

eqb_turned : (a b : ℕ) → eqb a b ≡ eqb b a
eqb_turned a b = sym (unsigned_tied a b) ∙ (eq_by_cmp_equiv nat_cmp_total).symm a b ∙ unsigned_tied b a

module _ {X : Type 0} where
  pub find-lookup : (es : List (ℕ × X)) (q : ℕ) → find nat_cmp q es ≡ lookup (eqb q) es
  find-lookup [] q = refl
  find-lookup (e ∷ es) q =
      ap (λ b. cond b (Some e.1) (find nat_cmp q es)) (unsigned_tied q e.0) ∙ ap (cond (eqb q e.0) (Some e.1)) (find-lookup es q)

  pub get_held : (es : List (ℕ × X)) (q : ℕ) → get (from_entries {R = nat_cmp} es) q ≡ lookup (eqb q) es
  get_held es q = get-from_entries nat_cmp_total es q ∙ find-lookup es q

  -- entries that differ at one id make maps that differ there
  pub one_put : (es fs : List (ℕ × X)) (k : ℕ) (v : X) → ((q : ℕ) → lookup (eqb q) fs ≡ cond (eqb k q) (Some v) (lookup (eqb q) es)) → from_entries {R = nat_cmp} fs ≡ insert (from_entries es) k v
  one_put es fs k v h = same_map nat_cmp_total nat_cmp-IsAntisymmetric _ _ (λ q.
      get_held fs q ∙ h q ∙ ap (λ b. cond b (Some v) (lookup (eqb q) es)) (eqb_turned k q ∙ sym (unsigned_tied q k))
      ∙ sym (get-insert nat_cmp_total (from_entries es) k v q ∙ ap (cond (eq_by_cmp nat_cmp q k) (Some v)) (get_held es q)))

  -- entries without one id make the map without it
  pub one_gone : (es fs : List (ℕ × X)) (k : ℕ) → ((q : ℕ) → lookup (eqb q) fs ≡ cond (eqb k q) None (lookup (eqb q) es)) → from_entries {R = nat_cmp} fs ≡ remove (from_entries es) k
  one_gone es fs k h = same_map nat_cmp_total nat_cmp-IsAntisymmetric _ _ (λ q.
      get_held fs q ∙ h q ∙ ap (λ b. cond b None (lookup (eqb q) es)) (eqb_turned k q ∙ sym (unsigned_tied q k))
      ∙ sym (get-remove nat_cmp_total (from_entries es) k q ∙ ap (cond (eq_by_cmp nat_cmp q k) None) (get_held es q)))

  none_at : (k : ℕ) (es : List (ℕ × X)) → AllByRecursion (λ y. eqb k y ≡ false) (keys_of es) → lookup (eqb k) es ≡ None
  none_at k [] h = refl
  none_at k (e ∷ es) h = ap (λ b. cond b (Some e.1) (lookup (eqb k) es)) h.0 ∙ none_at k es h.1

  -- the map has as many ids as there are entries
  pub len_held : (es : List (ℕ × X)) → IsDistinct eqb (keys_of es) → len (from_entries {R = nat_cmp} es) ≡ length es
  len_held [] h = len-empty nat_cmp X
  len_held (e ∷ es) h =
      let new : get (from_entries {R = nat_cmp} es) e.0 ≡ None = get_held es e.0 ∙ none_at e.0 es (IsDistinct-head eqb e.0 (keys_of es) h) in
      len-insert nat_cmp_total (from_entries es) e.0 e.1
      ∙ ap (λ o. cond (Rattle.std.specs.Prelude.is_some o) (len (from_entries {R = nat_cmp} es)) (len (from_entries {R = nat_cmp} es) + 1)) new
      ∙ ap (λ n. n + 1) (len_held es (IsDistinct-tail eqb e.0 (keys_of es) h))
      ∙ omega arith

  -- what a look-up found, in the map
  pub found : (es : List (ℕ × X)) (m : FinMap nat_cmp X) (k : ℕ) (x : X) → from_entries {R = nat_cmp} es ≡ m → Some x ≡ lookup (eqb k) es → get m k ≡ Some x
  found es m k x view value = ap (λ n. get n k) (sym view) ∙ get_held es k ∙ sym value

  pub found_none : (es : List (ℕ × X)) (m : FinMap nat_cmp X) (k : ℕ) → from_entries {R = nat_cmp} es ≡ m → None ≡ lookup (eqb k) es → get m k ≡ None
  found_none es m k view value = ap (λ n. get n k) (sym view) ∙ get_held es k ∙ sym value
