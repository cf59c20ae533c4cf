-- What keeping an engine comes to.
use Rattle.std.proofs.Common.{◌≡◌, ℕ, ◌+◌, ◌-◌, ◌≤◌, ◌++◌, List, [], ◌∷◌, Option, None, Some, subst, append_assoc, arith}
use Rattle.std.specs.Bool.{⊤}
use Rattle.std.specs.List.{AllByRecursion, sum}
use Rattle.std.proofs.lemmas.List.Sums.{fold-append}
use Rattle.mvo_theory.proofs.Each.{each_append}
use Rattle.mvo_types.specs.declared.ids.Stamp.{Stamp}

-- the last of the marks, if there is one
abbrev pub EndsWith : Option Stamp → List Stamp → Type 0
EndsWith None marks = ⊤
EndsWith (Some last) marks = (front : List Stamp) × (marks ≡ front ++ last ∷ [])

-- one collection more, of those that are left
pub one_piece_more : (most left n : ℕ) (counts : List ℕ) → left + sum counts ≡ most → n ≤ left → (left - n) + sum (counts ++ n ∷ []) ≡ most
one_piece_more most left n counts h low =
    let more : sum (counts ++ n ∷ []) ≡ sum counts + n = fold-append ◌+◌ 0 counts (n ∷ []) in
    omega (arith, h, low, more)

-- the last one once more
pub each_twice : {X : Type 0} (P : X → Type 0) (front xs : List X) (x : X) → xs ≡ front ++ x ∷ [] → AllByRecursion P xs → P x → AllByRecursion P (front ++ x ∷ x ∷ [])
each_twice {X} P front xs x e h p =
    let all : AllByRecursion P (xs ++ x ∷ []) = each_append P xs (x ∷ []) h (p, tt) in
    let apart : AllByRecursion P ((front ++ x ∷ []) ++ x ∷ []) = subst (λ (ys : List X). AllByRecursion P (ys ++ x ∷ [])) e all in
    subst (AllByRecursion P) (append_assoc front (x ∷ []) (x ∷ [])) apart
