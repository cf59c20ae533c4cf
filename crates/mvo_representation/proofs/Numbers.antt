-- The key index stays right where a version fills a hole, and where one is taken out.
use Rattle.std.proofs.Common.{◌≡◌, ℕ, ◌+◌, ◌<◌, Bool, true, false, cond, not, eqb, List, [], ◌∷◌, length, None, Some, refl, sym, ap, ◌∙◌, arith, ◌⊎◌, inl, inr}
use Rattle.std.specs.Prelude.{◌==◌, slice_index_or, slice_set}
use Rattle.std.specs.Ordering.{eq_by_cmp}
use Rattle.std.specs.FinMap as fin
use Rattle.std.proofs.lemmas.Bool.{eq-eqb, eqb-true, ne_eqb, true≢false, cases_eq}
use Rattle.std.proofs.lemmas.List.{get_or-set_same, get_or-set_other}
use Rattle.std.proofs.lemmas.Map.Views.{tells_apart}
use Rattle.mvo_types.proofs.Maps.{exact_keys, keys_total}
use Rattle.mvo_types.specs.declared.row.RowKey.{RowKey}
use Rattle.mvo_types.specs.Keys.{key_cmp}
use Rattle.mvo_theory.specs.Sound.{how_many}
use Rattle.mvo_chain.specs.declared.version.Version.{Version}
use Rattle.mvo_chain.specs.Slots.{Slots}
use Rattle.mvo_hash.specs.Lists.{Lists, or_empty, numbers_of, with_numbers, without_number}
use Rattle.mvo_representation.specs.Indexes.{is_of_key, HasNumbers}
use Rattle.mvo_deps.proofs.Lists.{one}

pub numbers_with : (lists : Lists) (k : RowKey) (ns : List ℕ) (q : RowKey) → numbers_of (with_numbers lists k ns) q ≡ cond (eq_by_cmp key_cmp q k) ns (numbers_of lists q)
numbers_with lists k [] q = ap or_empty (fin.get-remove keys_total lists k q) ∙ go (eq_by_cmp key_cmp q k)
  where
    go : (b : Bool) → or_empty (cond b None (fin.get lists q)) ≡ cond b [] (numbers_of lists q)
    go true = refl
    go false = refl
numbers_with lists k (n ∷ ns) q = ap or_empty (fin.get-insert keys_total lists k (n ∷ ns) q) ∙ go (eq_by_cmp key_cmp q k)
  where
    go : (b : Bool) → or_empty (cond b (Some (n ∷ ns)) (fin.get lists q)) ≡ cond b (n ∷ ns) (numbers_of lists q)
    go true = refl
    go false = refl

-- a version fills the hole n
pub numbers_added : (slots : Slots) (lists : Lists) (n : ℕ) (v : Version) → n < length slots → slice_index_or slots n None ≡ None → HasNumbers slots lists → HasNumbers (slice_set slots n (Some v)) (with_numbers lists v.row.key (n ∷ numbers_of lists v.row.key))
numbers_added slots lists n v lt hole h = record { at = λ q m. ap (how_many (λ i. i == m)) (numbers_with lists v.row.key (n ∷ numbers_of lists v.row.key) q) ∙ go q m (eq_by_cmp key_cmp q v.row.key) refl (cases_eq m n) }
  where
    go : (q : RowKey) (m : ℕ) (b : Bool) → eq_by_cmp key_cmp q v.row.key ≡ b → (m ≡ n) ⊎ (m ≡ n → ⊥) → how_many (λ i. i == m) (cond b (n ∷ numbers_of lists v.row.key) (numbers_of lists q)) ≡ one (is_of_key q (slice_index_or (slice_set slots n (Some v)) m None))
    go q m b e (inl i) = by b e
      where
        new : one (is_of_key q (slice_index_or (slice_set slots n (Some v)) m None)) ≡ one (eq_by_cmp key_cmp q v.row.key)
        new = ap (λ j. one (is_of_key q (slice_index_or (slice_set slots n (Some v)) j None))) i ∙ ap (λ x. one (is_of_key q x)) (get_or-set_same slots n (Some v) None lt)

        old : (k : RowKey) → how_many (λ i. i == m) (numbers_of lists k) ≡ 0
        old k = h.at k m ∙ ap (λ j. one (is_of_key k (slice_index_or slots j None))) i ∙ ap (λ x. one (is_of_key k x)) hole

        by : (b : Bool) → eq_by_cmp key_cmp q v.row.key ≡ b → how_many (λ i. i == m) (cond b (n ∷ numbers_of lists v.row.key) (numbers_of lists q)) ≡ one (is_of_key q (slice_index_or (slice_set slots n (Some v)) m None))
        by true e = let c : one (n == m) ≡ 1 = ap one (eq-eqb n m (sym i)) in let z = old v.row.key in let w : one (is_of_key q (slice_index_or (slice_set slots n (Some v)) m None)) ≡ 1 = new ∙ ap one e in omega (arith, c, z, w)
        by false e = let z = old q in let w : one (is_of_key q (slice_index_or (slice_set slots n (Some v)) m None)) ≡ 0 = new ∙ ap one e in omega (arith, z, w)
    go q m b e (inr d) = by b e
      where
        same : one (is_of_key q (slice_index_or (slice_set slots n (Some v)) m None)) ≡ one (is_of_key q (slice_index_or slots m None))
        same = ap (λ x. one (is_of_key q x)) (get_or-set_other slots n m (Some v) None d)

        by : (b : Bool) → eq_by_cmp key_cmp q v.row.key ≡ b → how_many (λ i. i == m) (cond b (n ∷ numbers_of lists v.row.key) (numbers_of lists q)) ≡ one (is_of_key q (slice_index_or (slice_set slots n (Some v)) m None))
        by true e =
            let c : one (n == m) ≡ 0 = ap one (ne_eqb n m (λ i. d (sym i))) in
            let z : how_many (λ i. i == m) (numbers_of lists v.row.key) ≡ one (is_of_key q (slice_index_or slots m None)) = ap (λ k. how_many (λ i. i == m) (numbers_of lists k)) (sym (tells_apart exact_keys q v.row.key e)) ∙ h.at q m in
            let w = same in omega (arith, c, z, w)
        by false e = h.at q m ∙ sym same

pub without_same : (n : ℕ) (ns : List ℕ) → how_many (λ i. i == n) (without_number n ns) ≡ 0
without_same n [] = refl
without_same n (m ∷ ns) = go (eqb n m) refl (without_same n ns)
  where
    go : (b : Bool) → eqb n m ≡ b → how_many (λ i. i == n) (without_number n ns) ≡ 0 → how_many (λ i. i == n) (cond (not b) (m ∷ without_number n ns) (without_number n ns)) ≡ 0
    go true e z = z
    go false e z = let c : one (m == n) ≡ 0 = ap one (ne_eqb m n (λ i. true≢false (sym (eq-eqb n m (sym i)) ∙ e))) in omega (arith, z, c)

pub without_other : (n j : ℕ) (ns : List ℕ) → (j ≡ n → ⊥) → how_many (λ i. i == j) (without_number n ns) ≡ how_many (λ i. i == j) ns
without_other n j [] d = refl
without_other n j (m ∷ ns) d = go (eqb n m) refl (without_other n j ns d)
  where
    go : (b : Bool) → eqb n m ≡ b → how_many (λ i. i == j) (without_number n ns) ≡ how_many (λ i. i == j) ns → how_many (λ i. i == j) (cond (not b) (m ∷ without_number n ns) (without_number n ns)) ≡ one (m == j) + how_many (λ i. i == j) ns
    go true e z = let c : one (m == j) ≡ 0 = ap one (ne_eqb m j (λ i. d (sym i ∙ sym (eqb-true n m e)))) in omega (arith, z, c)
    go false e z = ap (λ x. one (m == j) + x) z

-- the version n is taken out
pub numbers_gone : (slots : Slots) (lists : Lists) (n : ℕ) (v : Version) → n < length slots → slice_index_or slots n None ≡ Some v → HasNumbers slots lists → HasNumbers (slice_set slots n None) (with_numbers lists v.row.key (without_number n (numbers_of lists v.row.key)))
numbers_gone slots lists n v lt is h = record { at = λ q m. ap (how_many (λ i. i == m)) (numbers_with lists v.row.key (without_number n (numbers_of lists v.row.key)) q) ∙ go q m (eq_by_cmp key_cmp q v.row.key) refl (cases_eq m n) }
  where
    go : (q : RowKey) (m : ℕ) (b : Bool) → eq_by_cmp key_cmp q v.row.key ≡ b → (m ≡ n) ⊎ (m ≡ n → ⊥) → how_many (λ i. i == m) (cond b (without_number n (numbers_of lists v.row.key)) (numbers_of lists q)) ≡ one (is_of_key q (slice_index_or (slice_set slots n None) m None))
    go q m b e (inl i) = by b e
      where
        new : one (is_of_key q (slice_index_or (slice_set slots n None) m None)) ≡ 0
        new = ap (λ j. one (is_of_key q (slice_index_or (slice_set slots n None) j None))) i ∙ ap (λ x. one (is_of_key q x)) (get_or-set_same slots n None None lt)

        by : (b : Bool) → eq_by_cmp key_cmp q v.row.key ≡ b → how_many (λ i. i == m) (cond b (without_number n (numbers_of lists v.row.key)) (numbers_of lists q)) ≡ one (is_of_key q (slice_index_or (slice_set slots n None) m None))
        by true e = ap (λ j. how_many (λ i. i == j) (without_number n (numbers_of lists v.row.key))) i ∙ without_same n (numbers_of lists v.row.key) ∙ sym new
        by false e = h.at q m ∙ ap (λ j. one (is_of_key q (slice_index_or slots j None))) i ∙ ap (λ x. one (is_of_key q x)) is ∙ ap one e ∙ sym new
    go q m b e (inr d) = by b e
      where
        same : one (is_of_key q (slice_index_or (slice_set slots n None) m None)) ≡ one (is_of_key q (slice_index_or slots m None))
        same = ap (λ x. one (is_of_key q x)) (get_or-set_other slots n m None None d)

        by : (b : Bool) → eq_by_cmp key_cmp q v.row.key ≡ b → how_many (λ i. i == m) (cond b (without_number n (numbers_of lists v.row.key)) (numbers_of lists q)) ≡ one (is_of_key q (slice_index_or (slice_set slots n None) m None))
        by true e = without_other n m (numbers_of lists v.row.key) d ∙ ap (λ k. how_many (λ i. i == m) (numbers_of lists k)) (sym (tells_apart exact_keys q v.row.key e)) ∙ h.at q m ∙ sym same
        by false e = h.at q m ∙ sym same
