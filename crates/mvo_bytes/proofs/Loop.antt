-- Reading one after the other, as a loop does.
use Rattle.std.proofs.Common.{◌≡◌, ℕ, zero, suc, ◌-◌, ◌+◌, ◌≤◌, ◌<◌, List, [], ◌∷◌, ◌++◌, length, Option, Some, None, refl, sym, ap, subst, ◌∙◌, append_assoc, arith}
use Rattle.std.specs.List.{flat_map, AllByRecursion}
use Rattle.std.proofs.lemmas.List.{append-nil}
use Rattle.std.proofs.lemmas.List.Concat.{flat_map-cons}
use Rattle.mvo_bytes.specs.Reading.{◌>>=◌, times}
use Rattle.mvo_bytes.proofs.Fields.{IsBytes, bind_some, some_is, Takes, Takes-then}

-- what was read before, and what is still read
abbrev pub with_front : {X : Type 0} → List X → Option (List X × List ℕ) → Option (List X × List ℕ)
with_front front read = read >>= λ x. Some (front ++ x.0, x.1)

regroup : {X : Type 0} (front : List X) (n : X) (read : Option (List X × List ℕ)) → with_front front (read >>= λ x. Some (n ∷ x.0, x.1)) ≡ with_front (front ++ n ∷ []) read
regroup {X} front n (Some x) = ap (λ (ns : List X). Some (ns, x.1)) (simp append_assoc)
regroup front n None = refl

module _ {X : Type 0} (one : List ℕ → Option (X × List ℕ)) where
  pub goes_on : (front : List X) (count i : ℕ) (bytes : List ℕ) (n : X) (after : List ℕ) (total : Option (List X × List ℕ)) → i < count → one bytes ≡ Some (n, after)
      → with_front front (times one (count - i) bytes) ≡ total → with_front (front ++ n ∷ []) (times one (count - (i + 1)) after) ≡ total
  unfolding times
  goes_on front count i bytes n after total lt h so_far =
      let k : count - i ≡ suc (count - (i + 1)) = omega arith in
      let step : with_front front (times one (count - i) bytes) ≡ with_front (front ++ n ∷ []) (times one (count - (i + 1)) after) = rw (k, h) (regroup front n (times one (count - (i + 1)) after)) in
      sym step ∙ so_far

  pub ends : (front : List X) (count i : ℕ) (bytes : List ℕ) (total : Option (List X × List ℕ)) → i < count → one bytes ≡ None
      → with_front front (times one (count - i) bytes) ≡ total → total ≡ None
  unfolding times
  ends front count i bytes total lt h so_far =
      let k : count - i ≡ suc (count - (i + 1)) = omega arith in
      let step : with_front front (times one (count - i) bytes) ≡ None = rw (k, h) refl in
      sym so_far ∙ step

  pub is_done : (front : List X) (count i : ℕ) (bytes : List ℕ) (total : Option (List X × List ℕ)) → count ≤ i → with_front front (times one (count - i) bytes) ≡ total → total ≡ Some (front, bytes)
  unfolding times
  is_done front count i bytes total le so_far =
      let k : count - i ≡ 0 = omega arith in
      let step : with_front front (times one (count - i) bytes) ≡ Some (front, bytes) = rw k (ap (λ (ns : List X). Some (ns, bytes)) (append-nil front)) in
      sym so_far ∙ step

  -- each is read as it is spelled, and spelled as it is read
  module _ (spell : X → List ℕ) (Fits : X → Type 0) where
    pub times_take : ((bytes : List ℕ) (x : X × List ℕ) → IsBytes bytes → one bytes ≡ Some x → Takes bytes (spell x.0) x.1 × Fits x.0)
        → (n : ℕ) (bytes : List ℕ) (x : List X × List ℕ) → IsBytes bytes → times one n bytes ≡ Some x → Takes bytes (flat_map spell x.0) x.1 × (length x.0 ≡ n) × AllByRecursion Fits x.0
    unfolding times
    times_take each zero bytes x fits e =
        subst (λ (y : List X × List ℕ). Takes bytes (flat_map spell y.0) y.1 × (length y.0 ≡ 0) × AllByRecursion Fits y.0) (some_is ([], bytes) x e) (record { parts = refl; rest_fits = fits }, refl, tt)
    times_take each (suc n) bytes x fits e =
        let a = bind_some (one bytes) (λ first. times one n first.1 >>= λ others. Some (first.0 ∷ others.0, others.1)) x e in
        let b = bind_some (times one n a.0.1) (λ others. Some (a.0.0 ∷ others.0, others.1)) x a.2 in
        let first = each bytes a.0 fits a.1 in
        let second = times_take each n a.0.1 b.0 first.0.rest_fits b.1 in
        let both = Takes-then bytes (spell a.0.0) a.0.1 (flat_map spell b.0.0) b.0.1 first.0 second.0 in
        let made : List X × List ℕ = (a.0.0 ∷ b.0.0, b.0.1) in
        subst (λ (y : List X × List ℕ). Takes bytes (flat_map spell y.0) y.1 × (length y.0 ≡ suc n) × AllByRecursion Fits y.0) (some_is made x b.2) (rw flat_map-cons both, ap suc second.1, (first.1, second.2))

    pub times_again : ((x : X) (rest : List ℕ) → Fits x → one (spell x ++ rest) ≡ Some (x, rest))
        → (xs : List X) (rest : List ℕ) → AllByRecursion Fits xs → times one (length xs) (flat_map spell xs ++ rest) ≡ Some (xs, rest)
    unfolding times
    times_again each [] rest fits = refl
    times_again each (x ∷ xs) rest fits =
        let regrouped : flat_map spell (x ∷ xs) ++ rest ≡ spell x ++ (flat_map spell xs ++ rest) = ap (λ (l : List ℕ). l ++ rest) (flat_map-cons spell x xs) ∙ append_assoc (spell x) (flat_map spell xs) rest in
        ap (times one (suc (length xs))) regrouped ∙ rw (each x (flat_map spell xs ++ rest) fits.0, times_again each xs rest fits.1) refl
