-- The versions that the key index gives say all of a key, and the places come and go with versions.
use Rattle.std.proofs.Common.{◌≡◌, ℕ, ◌+◌, suc, zero, Bool, true, false, cond, ◌||◌, List, [], ◌∷◌, ◌++◌, Option, None, Some, refl, sym, ap, ◌∙◌, subst, arith, ◌⊎◌, inl, inr}
use Rattle.std.specs.Prelude.{◌==◌, is_some, slice_index_or}
use Rattle.std.specs.List.{list_any}
use Rattle.std.specs.Ordering.{eq_by_cmp}
use Rattle.std.specs.FinMap as fin
use Rattle.std.proofs.lemmas.Bool.{eq-eqb, ne_eqb, cases_eq}
use Rattle.mvo_types.specs.declared.row.RowKey.{RowKey}
use Rattle.mvo_types.specs.RowData.{RowData, content_of}
use Rattle.std.proofs.lemmas.Map.Views.{tells_apart}
use Rattle.mvo_theory.specs.Sound.{how_many}
use Rattle.mvo_word.specs.declared.held.Held.{Held}
use Rattle.mvo_chain.specs.declared.version.Version.{Version}
use Rattle.mvo_chain.specs.Slots.{Slots}
use Rattle.mvo_hash.specs.Lists.{Lists, numbers_of}
use Rattle.mvo_range.specs.declared.sort_place.SortPlace.{SortPlace}
use Rattle.mvo_range.specs.Place.{PlaceNumbers as Places, place_cmp}
use Rattle.mvo_range.proofs.Places.{places_total, exact_places}
use Rattle.mvo_representation.specs.Words.{NetEffect, with_effect, effect_by, effect_of, net_effect}
use Rattle.mvo_representation.specs.Words.NetEffect.{Untouched}
use Rattle.mvo_representation.specs.Indexes.{all_versions, and_found, versions_numbered, is_of_key, HasNumbers, version_place, is_at_place, HasPlaces}
use Rattle.mvo_representation.proofs.Effects.{with_comm, with_assoc, or_comm}
use Rattle.mvo_deps.proofs.Lists.{one}

-- ---- slots, one of which is emptied
abbrev emptied : Slots → ℕ → Slots
emptied [] n = []
emptied (x ∷ xs) zero = None ∷ xs
emptied (x ∷ xs) (suc n) = x ∷ emptied xs n

emptied_same : (slots : Slots) (n : ℕ) → slice_index_or (emptied slots n) n None ≡ None
emptied_same [] n = refl
emptied_same (x ∷ xs) zero = refl
emptied_same (x ∷ xs) (suc n) = emptied_same xs n

emptied_other : (slots : Slots) (m n : ℕ) → (m ≡ n → ⊥) → slice_index_or (emptied slots m) n None ≡ slice_index_or slots n None
emptied_other [] m n d = refl
emptied_other (x ∷ xs) zero zero d = absurd (d refl)
emptied_other (x ∷ xs) zero (suc n) d = refl
emptied_other (x ∷ xs) (suc m) zero d = refl
emptied_other (x ∷ xs) (suc m) (suc n) d = emptied_other xs m n (λ e. d (ap suc e))

none_some : (v : Version) → ◌≡◌ {A = Option Version} None (Some v) → ⊥
none_some v e = cc

some_some : (v w : Version) → ◌≡◌ {A = Option Version} (Some v) (Some w) → v ≡ w
some_some v w e = cc

swap : (a b c : NetEffect) → with_effect a (with_effect b c) ≡ with_effect b (with_effect a c)
swap a b c = sym (with_assoc a b c) ∙ ap (λ d. with_effect d c) (with_comm a b) ∙ with_assoc b a c

-- one version apart from the others
versions_apart : (n : Held → Bool) (k : RowKey) (slots : Slots) (m : ℕ) (v : Version) → slice_index_or slots m None ≡ Some v → net_effect n k (all_versions slots) ≡ with_effect (effect_of n k v) (net_effect n k (all_versions (emptied slots m)))
versions_apart n k [] m v e = absurd (none_some v e)
versions_apart n k (None ∷ xs) zero v e = absurd (none_some v e)
versions_apart n k (Some w ∷ xs) zero v e = ap (λ x. with_effect (effect_of n k x) (net_effect n k (all_versions xs))) (some_some w v e)
versions_apart n k (None ∷ xs) (suc m) v e = versions_apart n k xs m v e
versions_apart n k (Some w ∷ xs) (suc m) v e = ap (with_effect (effect_of n k w)) (versions_apart n k xs m v e) ∙ swap (effect_of n k w) (effect_of n k v) (net_effect n k (all_versions (emptied xs m)))

-- where no slot has a version of the key, nothing is said of it
versions_nothing : (n : Held → Bool) (k : RowKey) (slots : Slots) → ((m : ℕ) → is_of_key k (slice_index_or slots m None) ≡ false) → net_effect n k (all_versions slots) ≡ Untouched
versions_nothing n k [] h = refl
versions_nothing n k (None ∷ xs) h = versions_nothing n k xs (λ m. h (suc m))
versions_nothing n k (Some v ∷ xs) h =
    ap (λ b. with_effect (cond b (effect_by (n v.begin) (n v.end) (content_of v.row)) Untouched) (net_effect n k (all_versions xs))) (h zero)
    ∙ versions_nothing n k xs (λ m. h (suc m))

found_same : (slots : Slots) (m : ℕ) (ns : List ℕ) → how_many (λ i. i == m) ns ≡ 0 → versions_numbered (emptied slots m) ns ≡ versions_numbered slots ns
found_same slots m [] h = refl
found_same slots m (i ∷ ns) h = go (cases_eq i m) (λ e. found_same slots m ns e)
  where
    go : (i ≡ m) ⊎ (i ≡ m → ⊥) → (how_many (λ i. i == m) ns ≡ 0 → versions_numbered (emptied slots m) ns ≡ versions_numbered slots ns) → and_found (slice_index_or (emptied slots m) i None) (versions_numbered (emptied slots m) ns) ≡ and_found (slice_index_or slots i None) (versions_numbered slots ns)
    go (inl e) again = absurd (let c : one (i == m) ≡ 1 = ap one (eq-eqb i m e) in omega (arith, h, c))
    go (inr d) again =
        ap (λ x. and_found x (versions_numbered (emptied slots m) ns)) (emptied_other slots m i (λ e. d (sym e)))
        ∙ ap (and_found (slice_index_or slots i None)) (again (let c : one (i == m) ≡ 0 = ap one (ne_eqb i m d) in omega (arith, h, c)))

-- the versions that the key index gives say all of the key
pub found_net_effect : (n : Held → Bool) (k : RowKey) (slots : Slots) (ns : List ℕ) → ((m : ℕ) → how_many (λ i. i == m) ns ≡ one (is_of_key k (slice_index_or slots m None))) → net_effect n k (all_versions slots) ≡ net_effect n k (versions_numbered slots ns)
found_net_effect n k slots [] h = versions_nothing n k slots (λ m. by (is_of_key k (slice_index_or slots m None)) refl (h m))
  where
    by : (b : Bool) → b ≡ b → 0 ≡ one b → b ≡ false
    by true _ e = absurd (omega (arith, e))
    by false _ e = refl
found_net_effect n k slots (i ∷ ns) h = go (slice_index_or slots i None) refl (λ g. found_net_effect n k (emptied slots i) ns g)
  where
    here : how_many (λ j. j == i) ns + 1 ≡ one (is_of_key k (slice_index_or slots i None))
    here = let c : one (i == i) ≡ 1 = ap one (eq-eqb i i refl) in let l = h i in omega (arith, c, l)

    rest : (m : ℕ) → (i ≡ m) ⊎ (i ≡ m → ⊥) → how_many (λ j. j == m) ns ≡ one (is_of_key k (slice_index_or (emptied slots i) m None))
    rest m (inl e) = subst (λ (x : ℕ). how_many (λ j. j == x) ns ≡ one (is_of_key k (slice_index_or (emptied slots i) x None))) e (none (is_of_key k (slice_index_or slots i None)) here ∙ ap (λ x. one (is_of_key k x)) (sym (emptied_same slots i)))
      where
        none : (b : Bool) → how_many (λ j. j == i) ns + 1 ≡ one b → how_many (λ j. j == i) ns ≡ 0
        none true e = omega (arith, e)
        none false e = absurd (omega (arith, e))
    rest m (inr d) = let c : one (i == m) ≡ 0 = ap one (ne_eqb i m d) in let l = h m in let e : one (is_of_key k (slice_index_or (emptied slots i) m None)) ≡ one (is_of_key k (slice_index_or slots m None)) = ap (λ x. one (is_of_key k x)) (emptied_other slots i m d) in omega (arith, c, l, e)

    go : (x : Option Version) → slice_index_or slots i None ≡ x → (((m : ℕ) → how_many (λ j. j == m) ns ≡ one (is_of_key k (slice_index_or (emptied slots i) m None))) → net_effect n k (all_versions (emptied slots i)) ≡ net_effect n k (versions_numbered (emptied slots i) ns)) → net_effect n k (all_versions slots) ≡ net_effect n k (and_found (slice_index_or slots i None) (versions_numbered slots ns))
    go None e again = absurd (let z : one (is_of_key k (slice_index_or slots i None)) ≡ 0 = ap (λ x. one (is_of_key k x)) e in let l = here in omega (arith, l, z))
    go (Some v) e again =
        versions_apart n k slots i v e
        ∙ ap (with_effect (effect_of n k v)) (again (λ m. rest m (cases_eq i m)) ∙ ap (net_effect n k) (found_same slots i ns (let r = rest i (inl refl) in let z : one (is_of_key k (slice_index_or (emptied slots i) i None)) ≡ 0 = ap (λ x. one (is_of_key k x)) (emptied_same slots i) in omega (arith, r, z))))
        ∙ ap (λ x. net_effect n k (and_found x (versions_numbered slots ns))) (sym e)

pub index_net_effect : (n : Held → Bool) (k : RowKey) (slots : Slots) (lists : Lists) → HasNumbers slots lists → net_effect n k (all_versions slots) ≡ net_effect n k (versions_numbered slots (numbers_of lists k))
index_net_effect n k slots lists h = found_net_effect n k slots (numbers_of lists k) (h.at k)

-- ---- places
pub there-at : (p : SortPlace) (xs : List Version) (v : Version) (ys : List Version) → list_any (is_at_place p) (xs ++ v ∷ ys) ≡ (is_at_place p v || list_any (is_at_place p) (xs ++ ys))
there-at p [] v ys = refl
there-at p (x ∷ xs) v ys = ap (λ b. is_at_place p x || b) (there-at p xs v ys) ∙ or_comm (is_at_place p x) (is_at_place p v) (list_any (is_at_place p) (xs ++ ys))

some_cond : (b : Bool) (n : ℕ) (o : Option ℕ) → is_some (cond b (Some n) o) ≡ (b || is_some o)
some_cond true n o = refl
some_cond false n o = refl

-- a version more, with any number at its place
pub places_added : (xs : List Version) (v : Version) (ys : List Version) (places : Places) (n : ℕ) → HasPlaces (xs ++ ys) places → HasPlaces (xs ++ v ∷ ys) (fin.insert places (version_place v) n)
places_added xs v ys places n h = record {
  at = λ p. ap is_some (fin.get-insert places_total places (version_place v) n p) ∙ some_cond (eq_by_cmp place_cmp p (version_place v)) n (fin.get places p) ∙ ap (λ b. is_at_place p v || b) (h.at p) ∙ sym (there-at p xs v ys);
}

-- a version less, while another stands at its place
pub places_kept : (xs : List Version) (v : Version) (ys : List Version) (places : Places) → HasPlaces (xs ++ v ∷ ys) places → list_any (is_at_place (version_place v)) (xs ++ ys) ≡ true → HasPlaces (xs ++ ys) places
places_kept xs v ys places h e = record { at = λ p. h.at p ∙ there-at p xs v ys ∙ go p (is_at_place p v) refl }
  where
    go : (p : SortPlace) (b : Bool) → is_at_place p v ≡ b → (b || list_any (is_at_place p) (xs ++ ys)) ≡ list_any (is_at_place p) (xs ++ ys)
    go p true q = sym (ap (λ x. list_any (is_at_place x) (xs ++ ys)) (tells_apart exact_places p (version_place v) q) ∙ e)
    go p false q = refl

-- the last version of its place goes
pub places_gone : (xs : List Version) (v : Version) (ys : List Version) (places : Places) → HasPlaces (xs ++ v ∷ ys) places → list_any (is_at_place (version_place v)) (xs ++ ys) ≡ false → HasPlaces (xs ++ ys) (fin.remove places (version_place v))
places_gone xs v ys places h e = record { at = λ p. ap is_some (fin.get-remove places_total places (version_place v) p) ∙ go p (is_at_place p v) refl }
  where
    go : (p : SortPlace) (b : Bool) → is_at_place p v ≡ b → is_some (cond b None (fin.get places p)) ≡ list_any (is_at_place p) (xs ++ ys)
    go p true q = sym (ap (λ x. list_any (is_at_place x) (xs ++ ys)) (tells_apart exact_places p (version_place v) q) ∙ e)
    go p false q = h.at p ∙ there-at p xs v ys ∙ ap (λ b. b || list_any (is_at_place p) (xs ++ ys)) q

-- words that change leave the places
pub places_same : (xs : List Version) (v w : Version) (ys : List Version) (places : Places) → v.row ≡ w.row → HasPlaces (xs ++ v ∷ ys) places → HasPlaces (xs ++ w ∷ ys) places
places_same xs v w ys places e h = record { at = λ p. h.at p ∙ there-at p xs v ys ∙ ap (λ (r : RowData). eq_by_cmp place_cmp p (record { table = r.key.table; sort = r.sort; key = r.key.key }) || list_any (is_at_place p) (xs ++ ys)) e ∙ sym (there-at p xs w ys) }
