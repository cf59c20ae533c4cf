-- Receipts with rising ends, and what they count.
use Rattle.std.proofs.Common.{◌≡◌, ℕ, ◌+◌, ◌≤◌, ◌<◌, List, [], ◌∷◌, ◌++◌, arith}
use Rattle.std.proofs.lemmas.List.Sums.{sum_by-append}
use Rattle.mvo_theory.proofs.Each.{each_append, each_weaker}
use Rattle.mvo_core.specs.Receipts.{Receipt}
use Rattle.mvo_engine.specs.run.Receiving.{Rises, AreBelow, AreUpTo}
use Rattle.mvo_engine.specs.run.Watching.{Watched, count_of}

pub rises_append : (rs : List Receipt) (r : Receipt) → Rises rs → AreBelow r.end rs → Rises (rs ++ r ∷ [])
rises_append [] r up below = (tt, tt)
rises_append (x ∷ xs) r up below = (each_append (λ (later : Receipt). x.end < later.end) xs (r ∷ []) up.0 (below.0, tt), rises_append xs r up.1 below.1)

pub up_to_append : (rs : List Receipt) (r : Receipt) → AreBelow r.end rs → AreUpTo r.end (rs ++ r ∷ [])
up_to_append rs r below = each_append (λ (x : Receipt). x.end ≤ r.end) rs (r ∷ []) (each_weaker (λ (x : Receipt). x.end < r.end) (λ (x : Receipt). x.end ≤ r.end) (λ x p. omega (arith, p)) rs below) (omega arith, tt)

pub below_from : (t e : ℕ) (rs : List Receipt) → AreBelow t rs → t ≤ e → AreBelow e rs
below_from t e rs below later = each_weaker (λ (x : Receipt). x.end < t) (λ (x : Receipt). x.end < e) (λ x p. omega (arith, p, later)) rs below

pub count_append : (w : Watched) (rs : List Receipt) (r : Receipt) → count_of w (rs ++ r ∷ []) ≡ count_of w rs + w.weigh r
count_append w rs r = let h = sum_by-append w.weigh rs (r ∷ []) in omega (arith, h)
