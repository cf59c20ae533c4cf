-- Where a look stands: among the first few, or behind them.
use Rattle.std.proofs.Common.{◌≡◌, ℕ, ◌-◌, ◌<◌, ◌≤◌, ◌⊎◌, inl, inr, zero, suc, List, [], ◌∷◌, ◌++◌, Option, None, Some, length, sym, ap, ◌∙◌, arith}
use Rattle.std.specs.Prelude.{slice_get}
use Rattle.std.proofs.lemmas.Bool.{cases_order}
use Rattle.mvo_types.specs.declared.entry.Entry.{Entry}
use Rattle.mvo_content.specs.declared.rows_shown.RowsShown.{RowsShown}
use Rattle.mvo_content.specs.declared.looks.TheConstants.{FEW}
use Rattle.mvo_content.specs.Looks.{FewLooksFirst}

none_some : {X : Type 0} (x : X) → ◌≡◌ {A = Option X} None (Some x) → ⊥
none_some x e = cc

pub place_front : {X : Type 0} (xs ys : List X) (i : ℕ) (x : X) → slice_get xs i ≡ Some x → slice_get (xs ++ ys) i ≡ Some x
place_front [] ys i x e = absurd (none_some x e)
place_front (y ∷ xs) ys zero x e = e
place_front (y ∷ xs) ys (suc n) x e = place_front xs ys n x e

place_past : {X : Type 0} (xs : List X) (i : ℕ) → slice_get xs i ≡ None → length xs ≤ i
place_past [] i e = omega arith
place_past (y ∷ xs) zero e = absurd (none_some y (sym e))
place_past (y ∷ xs) (suc n) e = let le = place_past xs n e in omega (arith, le)

place_behind : {X : Type 0} (xs ys : List X) (i : ℕ) → slice_get xs i ≡ None → slice_get (xs ++ ys) i ≡ slice_get ys (i - length xs)
place_behind [] ys i e = let same : i ≡ i - 0 = omega arith in ap (slice_get ys) same
place_behind (y ∷ xs) ys zero e = absurd (none_some y (sym e))
place_behind (y ∷ xs) ys (suc n) e = let same : n - length xs ≡ suc n - suc (length xs) = omega arith in place_behind xs ys n e ∙ ap (slice_get ys) same

-- none of the few stands there, so it is one of those behind them
pub look_behind_few : (few behind : List (Entry × RowsShown)) (i : ℕ) → FewLooksFirst few behind → slice_get few i ≡ None → slice_get (few ++ behind) i ≡ slice_get behind (i - FEW)
look_behind_few few behind i h none = place_behind few behind i none ∙ go (cases_order (length few) FEW)
  where
    go : (length few ≡ FEW) ⊎ ((length few < FEW) ⊎ (FEW < length few)) → slice_get behind (i - length few) ≡ slice_get behind (i - FEW)
    go (inl e) = ap (λ (n : ℕ). slice_get behind (i - n)) e
    go (inr (inl lt)) = ap (λ (ls : List (Entry × RowsShown)). slice_get ls (i - length few)) (h.order lt) ∙ sym (ap (λ (ls : List (Entry × RowsShown)). slice_get ls (i - FEW)) (h.order lt))
    go (inr (inr gt)) = let most = h.most in absurd (omega (arith, gt, most))
