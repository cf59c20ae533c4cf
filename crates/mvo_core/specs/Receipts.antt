-- The stored commits, and how much a receipt among them weighs.
use Rattle.std.specs.Prelude.{◌≡◌, ◌≢◌, ℕ, if◌then◌else◌, List, [], ◌∷◌}
use Rattle.mvo_model.specs.History.{History}
use Rattle.mvo_theory.specs.State.{State, StampedTx}

-- what a session was told of a transaction that it committed
pub record Receipt : Type 0 where
  pub id : ℕ
  pub begin : ℕ
  pub end : ℕ
  pub history : History  -- its operations with their answers

abbrev pub receipt : ℕ → ℕ → History → Receipt
receipt t e history = record { id = t; begin = t; end = e; history = history }

abbrev pub receipt_of : StampedTx → Receipt
receipt_of x = receipt x.id x.end x.history

-- the receipts of those that are settled
abbrev pub receipts_of : List StampedTx → List Receipt
receipts_of [] = []
receipts_of (x ∷ xs) = if x.settled then receipt_of x ∷ receipts_of xs else receipts_of xs

-- the stored commits that end above the tale's start, by end
abbrev pub stored_commits : State → List Receipt
stored_commits s = receipts_of s.stamped

-- A weight on receipts that is 0 but at one end. To count one receipt, it is 1 there and 0 at every
-- other.
abbrev pub IsAt : ℕ → (Receipt → ℕ) → Type 0
IsAt e weigh = (r : Receipt) → r.end ≢ e → weigh r ≡ 0
