-- The receipts of a session.
use Rattle.std.specs.Prelude.{◌≡◌, ◌<◌, ◌≤◌, ℕ, Bool, true, false, length, List, [], ◌∷◌, ◌++◌, ⊤}
use Rattle.std.specs.List.{AllByRecursion}
use Rattle.mvo_core.specs.Receipts.{Receipt}

-- receipts by rising end, and whether there is room for one more
pub record KeptState : Type 0 where
  pub list : List Receipt
  pub room : Bool

-- the receipts, whether there is room for one more, and up to where some were let go of
pub record ReceiptsState : Type 0 where
  pub list : List Receipt
  pub room : Bool
  pub forgotten : ℕ

-- all of them end below the stamp
abbrev pub AreBelow : ℕ → List Receipt → Type 0
AreBelow e rs = AllByRecursion (λ r. r.end < e) rs

-- none of them ends above the stamp
abbrev pub AreUpTo : ℕ → List Receipt → Type 0
AreUpTo e rs = AllByRecursion (λ r. r.end ≤ e) rs

-- all of them end above the stamp
abbrev pub AreAbove : ℕ → List Receipt → Type 0
AreAbove e rs = AllByRecursion (λ r. e < r.end) rs

-- each ends below those behind it
abbrev pub Rises : List Receipt → Type 0
Rises [] = ⊤
Rises (r ∷ rs) = AllByRecursion (λ later. r.end < later.end) rs × Rises rs

-- So many in front were let go of, none of which ends above the stamp: as many as were asked for,
-- or fewer, and then all that are left end above it.
pub record HasLetGo (start most : ℕ) (old : List Receipt) (n : ℕ) (new : List Receipt) : Type 0
  where
    pub gone : List Receipt
    pub front : old ≡ gone ++ new
    pub number : length gone ≡ n
    pub upto : AreUpTo start gone
    pub at_most : n ≤ most
    pub fewer : n < most → AreAbove start new

-- the first one was let go of, which doesn't end above the stamp; or none, and all end above it
abbrev pub HasLetGoFirst : ℕ → List Receipt → Bool → List Receipt → Type 0
HasLetGoFirst start old true new = (r : Receipt) × (r.end ≤ start) × (old ≡ r ∷ new)
HasLetGoFirst start old false new = (new ≡ old) × AreAbove start old
