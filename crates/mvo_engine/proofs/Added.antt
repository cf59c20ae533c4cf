-- What each call adds to what the stored commits count.
use Rattle.std.proofs.Common.{◌≡◌, ℕ, ◌+◌, Bool, true, false, cond, List, [], ◌∷◌, Option, None, Some, refl, arith}
use Rattle.std.proofs.lemmas.List.Sums.{sum_by-cons}
use Rattle.std.specs.List.{sum_by}
use Rattle.mvo_theory.specs.State.{State, StampedTx, preparing_of}
use Rattle.mvo_theory.specs.Causes.{awaited}
use Rattle.mvo_theory.specs.Calls.{Call, Result}
use Rattle.mvo_theory.specs.Calls.Call.{Settle}
use Rattle.mvo_theory.specs.Calls.Result.{Accepted}
use Rattle.mvo_core.specs.Receipts.{Receipt, receipt_of, receipts_of}

-- what the entries of the tale weigh
abbrev pub weight : (Receipt → ℕ) → StampedTx → ℕ
weight h x = cond x.settled (h (receipt_of x)) 0

abbrev pub tale_weight : (Receipt → ℕ) → List StampedTx → ℕ
tale_weight h [] = 0
tale_weight h (x ∷ xs) = weight h x + tale_weight h xs

-- it is what the receipts of the settled ones weigh
pub weight_is : (h : Receipt → ℕ) (xs : List StampedTx) → tale_weight h xs ≡ sum_by h (receipts_of xs)
weight_is h [] = refl
weight_is h (x ∷ xs) = go x.settled (weight_is h xs)
  where
    go : (b : Bool) → tale_weight h xs ≡ sum_by h (receipts_of xs) → cond b (h (receipt_of x)) 0 + tale_weight h xs ≡ sum_by h (cond b (receipt_of x ∷ receipts_of xs) (receipts_of xs))
    go true ih = let more = sum_by-cons h (receipt_of x) (receipts_of xs) in omega (arith, ih, more)
    go false ih = omega (arith, ih)

-- what a call adds: an accepted settle that doesn't wait adds the receipt of the transaction
abbrev pub found_weight : (Receipt → ℕ) → Option StampedTx → ℕ
found_weight h None = 0
found_weight h (Some x) = h (receipt_of x)

abbrev pub unless_waiting : (Receipt → ℕ) → State → ℕ → Option StampedTx → ℕ
unless_waiting h s t (Some y) = 0
unless_waiting h s t None = found_weight h (preparing_of t s.stamped)

abbrev pub added : (Receipt → ℕ) → State → Call → Result → ℕ
added h s (Settle t) Accepted = unless_waiting h s t (awaited s t)
added h s c r = 0
