-- Queues of transactions by a timestamp.
use Rattle.std.specs.Prelude.{ℕ, ◌≡◌, ◌+◌, ◌≤◌, ◌⊎◌, ◌==◌, if◌then◌else◌, Bool, eqb, Option, Some, None, List, [], ◌∷◌, ◌++◌}
use Rattle.mvo_txn.specs.declared.state.TxState.{TxState}
use Rattle.mvo_txn.specs.declared.state.TxState.TheVariants.{Active, Preparing, Committed, Aborted}
use Rattle.std.specs.Option.{option_map, option_eq}
use Rattle.std.specs.FinMap as map
use Rattle.mvo_txn.specs.declared.mark.Kind.{Kind}
use Rattle.mvo_txn.specs.declared.mark.Kind.TheVariants.{Begin, OpenEnd}
use Rattle.mvo_txn.specs.declared.mark.Mark.{Mark}
use Rattle.mvo_txn.specs.Seats.{SeatMap, state_in}

-- the end timestamp of one that is Preparing
abbrev pub open_end : Option TxState → Option ℕ
open_end None = None
open_end (Some Active) = None
open_end (Some (Preparing end)) = Some end.0
open_end (Some (Committed end)) = None
open_end (Some Aborted) = None

-- the timestamp of a transaction that counts
abbrev pub queue_stamp : {P : Type 0} → Kind → SeatMap P → ℕ → Option ℕ
queue_stamp Begin m id = option_map (λ _. id) (map.get m id)
queue_stamp OpenEnd m id = open_end (state_in m id)

-- the same, where one transaction doesn't count
abbrev pub stamp_without : ℕ → (ℕ → Option ℕ) → ℕ → Option ℕ
stamp_without gone stamp_of id = if id == gone then None else stamp_of id

-- whether the mark's transaction counts, with the mark's timestamp
abbrev pub is_current : (ℕ → Option ℕ) → Mark → Bool
is_current stamp_of m = option_eq eqb (stamp_of m.id) (Some m.stamp)

abbrev pub first_stamp : List Mark → Option ℕ
first_stamp [] = None
first_stamp (m ∷ ms) = Some m.stamp

-- the timestamps rise, from the first number on and below the second
abbrev pub HasRisingStamps : ℕ → ℕ → List Mark → Type 0
HasRisingStamps low high [] = low ≤ high
HasRisingStamps low high (m ∷ ms) = (low ≤ m.stamp) × HasRisingStamps (m.stamp + 1) high ms

-- the transaction stands in the queue with this timestamp
abbrev pub IsListed : ℕ → ℕ → List Mark → Type 0
IsListed id stamp [] = ⊥
IsListed id stamp (m ∷ ms) = ((m.id ≡ id) × (m.stamp ≡ stamp)) ⊎ IsListed id stamp ms

abbrev pub IsCurrent : (ℕ → Option ℕ) → List Mark → Type 0
IsCurrent stamp_of [] = Unit {0}
IsCurrent stamp_of (m ∷ ms) = stamp_of m.id ≡ Some m.stamp

-- the timestamps rise from 1 on, and each transaction that counts is there
pub record IsListing (stamp_of : ℕ → Option ℕ) (high : ℕ) (ms : List Mark) : Type 0 where
  pub rising : HasRisingStamps 1 high ms
  pub complete : (id stamp : ℕ) → stamp_of id ≡ Some stamp → IsListed id stamp ms

-- the same, and the first counts
pub record IsQueue (stamp_of : ℕ → Option ℕ) (high : ℕ) (ms : List Mark) : Type 0 where
  pub listing : IsListing stamp_of high ms
  pub current : IsCurrent stamp_of ms

-- the queue with one more behind
abbrev pub with_mark : List Mark → ℕ → ℕ → List Mark
with_mark ms stamp id = ms ++ record { stamp = stamp; id = id } ∷ []

-- one that was a queue still is
abbrev pub StaysQueue : (ℕ → Option ℕ) → List Mark → List Mark → Type 0
StaysQueue stamp_of old new = (high : ℕ) → IsQueue stamp_of high old → IsQueue stamp_of high new

-- one whose first need not have counted is a queue
abbrev pub Trims : (ℕ → Option ℕ) → List Mark → List Mark → Type 0
Trims stamp_of old new = (high : ℕ) → IsListing stamp_of high old → IsQueue stamp_of high new
