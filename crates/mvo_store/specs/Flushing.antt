-- One turn of a flush: which calls of a log it makes, and what it comes to.
use Rattle.std.specs.Prelude.{◌≡◌, ◌≢◌, ◌⊎◌, Bool, true, false, Result, Ok, Err}
use Rattle.mvo_types.specs.declared.refusal.Refusal.{Refusal}
use Rattle.mvo_types.specs.declared.refusal.Refusal.TheVariants.{Busy, NothingToDo, SegmentFull, OldSegment}
use Rattle.mvo_store.specs.declared.call.StoreCall.{StoreCall}
use Rattle.mvo_store.specs.declared.call.StoreCall.TheVariants.{AppendBody, AppendOpen}
use Rattle.mvo_store.specs.declared.done.Done.{Done}
use Rattle.mvo_store.specs.Wholes.{IsThen, AreToRefusal, rotation}

-- for these the log is rotated first
abbrev pub needs_rotation : Refusal → Bool
needs_rotation SegmentFull = true
needs_rotation OldSegment = true
needs_rotation e = false

-- so it is of an answer
abbrev pub asks_rotation : {A : Type 0} → Result A Refusal → Bool
asks_rotation (Ok a) = false
asks_rotation (Err e) = needs_rotation e

-- Accepted, or Busy: so a group is pending, by this taking or before; or a body is written.
abbrev pub lets_go_on : {A : Type 0} → Result A Refusal → Bool
lets_go_on (Ok a) = true
lets_go_on (Err Busy) = true
lets_go_on (Err e) = false

-- ---- by what the calls of a log come to
module _ {L : Type 0} (ComesTo : L → StoreCall → Result Done Refusal → L → Type 0) where
  -- the body of the pending group is written, and its gate is opened
  pub data IsAppendHere (l : L) (r : Result Done Refusal) (l' : L) : Type 0 where
    HereAtBody : lets_go_on r ≡ false → ComesTo l AppendBody r l' → IsAppendHere l r l'
    HereAtOpen : (q : Result Done Refusal) (m : L) → lets_go_on q ≡ true
        → ComesTo l AppendBody q m → ComesTo m AppendOpen r l' → IsAppendHere l r l'

  -- a rotation of the log, and where it isn't refused an append
  abbrev pub IsRotatedAppend : L → Result Done Refusal → L → Type 0
  IsRotatedAppend = IsThen (AreToRefusal ComesTo rotation) IsAppendHere

  -- An append of the pending group. Where the segment is full for it or of an older version, and
  -- only there, the log is rotated first.
  pub data IsAppend (l : L) (r : Result Done Refusal) (l' : L) : Type 0 where
    AtBody : asks_rotation r ≡ false → lets_go_on r ≡ false
        → ComesTo l AppendBody r l' → IsAppend l r l'
    AtOpen : (q : Result Done Refusal) (m : L) → lets_go_on q ≡ true
        → ComesTo l AppendBody q m → ComesTo m AppendOpen r l' → IsAppend l r l'
    AtFull : (e : Refusal) (m : L) → needs_rotation e ≡ true → ComesTo l AppendBody (Err e) m
        → IsRotatedAppend m r l' → IsAppend l r l'

module _ {L : Type 0} (Takes : L → Result (Unit {0}) Refusal → L → Type 0)
    (ComesTo : L → StoreCall → Result Done Refusal → L → Type 0) where
  -- the next group is taken, where none is pending, and then the pending one is appended
  abbrev pub TakesAndAppends : L → Result Done Refusal → L → Type 0
  TakesAndAppends l r l' = (q : Result (Unit {0}) Refusal) × (m : L)
      × Takes l q m × (lets_go_on q ≡ true) × IsAppend ComesTo m r l'

  -- Either there is no group to take; or one is made durable; or a call is refused.
  abbrev pub IsTurn : L → Result Bool Refusal → L → Type 0
  IsTurn l (Ok false) l' = Takes l (Err NothingToDo) l'
  IsTurn l (Ok true) l' = (done : Done) × TakesAndAppends l (Ok done) l'
  IsTurn l (Err e) l' =
      (Takes l (Err e) l' × (lets_go_on {A = Unit {0}} (Err e) ≡ false) × (e ≢ NothingToDo))
      ⊎ TakesAndAppends l (Err e) l'
