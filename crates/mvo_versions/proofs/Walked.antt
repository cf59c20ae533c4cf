-- A test over the numbers of a key, as a walk meets them.
use Rattle.std.proofs.Common.{◌≡◌, ℕ, Bool, true, false, ◌||◌, List, [], ◌∷◌, ◌++◌, map, refl, sym, ap, ◌∙◌}
use Rattle.std.specs.List.{list_any}
use Rattle.mvo_chain.specs.declared.version.VersionNo.{VersionNo}
use Rattle.mvo_hash.specs.Lists.{number}

abbrev pub by_number : (ℕ → Bool) → VersionNo → Bool
by_number p n = p n.0

pub any_numbers : (p : ℕ → Bool) (ns : List ℕ) → list_any (by_number p) (map number ns) ≡ list_any p ns
any_numbers p [] = refl
any_numbers p (n ∷ ns) = ap (λ b. p n || b) (any_numbers p ns)

pub any_append : (p : VersionNo → Bool) (xs ys : List VersionNo) → list_any p (xs ++ ys) ≡ (list_any p xs || list_any p ys)
any_append p [] ys = refl
any_append p (x ∷ xs) ys = ap (λ b. p x || b) (any_append p xs ys) ∙ assoc (p x) (list_any p xs) (list_any p ys)
  where
    assoc : (a b c : Bool) → (a || (b || c)) ≡ ((a || b) || c)
    assoc true b c = refl
    assoc false b c = refl

-- one of them passes
pub met : (p : ℕ → Bool) (ns : List ℕ) (before : List VersionNo) (n : VersionNo) (rest : List VersionNo) → map number ns ≡ before ++ n ∷ rest → p n.0 ≡ true → list_any p ns ≡ true
met p ns before n rest e q = sym (any_numbers p ns) ∙ ap (list_any (by_number p)) e ∙ any_append (by_number p) before (n ∷ rest) ∙ ap (λ b. list_any (by_number p) before || (b || list_any (by_number p) rest)) q ∙ or_true (list_any (by_number p) before)
  where
    or_true : (b : Bool) → (b || true) ≡ true
    or_true true = refl
    or_true false = refl

-- one more doesn't
pub still_none : (p : ℕ → Bool) (before : List VersionNo) (n : VersionNo) → list_any (by_number p) before ≡ false → p n.0 ≡ false → list_any (by_number p) (before ++ n ∷ []) ≡ false
still_none p before n e q = any_append (by_number p) before (n ∷ []) ∙ ap (λ b. b || (p n.0 || false)) e ∙ ap (λ b. b || false) q

-- none does
pub none_met : (p : ℕ → Bool) (ns : List ℕ) (all : List VersionNo) → map number ns ≡ all → list_any (by_number p) all ≡ false → list_any p ns ≡ false
none_met p ns all e q = sym (any_numbers p ns) ∙ ap (list_any (by_number p)) e ∙ q
