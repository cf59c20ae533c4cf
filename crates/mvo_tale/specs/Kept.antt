-- The places of a tale that is trimmed: what is forgotten, and what stays for its group.
use Rattle.std.specs.Prelude.{ℕ, ◌≡◌, ◌≤◌, List, [], ◌++◌}
use Rattle.std.specs.List.{AllByRecursion}
use Rattle.mvo_theory.specs.State.{State, StampedTx}
use Rattle.mvo_theory.specs.Sound.{IsRising, IsStarted}
use Rattle.mvo_theory.specs.Changes.{after_trim, after_close}
use Rattle.mvo_tale.specs.declared.tale_place.TalePlace.{TalePlace}
use Rattle.mvo_tale.specs.Timeline.{ArePlacesOf}
use Rattle.mvo_tale.specs.Forgetting.{forgotten}

-- it ends at most at the start of the tale, and at most at the mark of the last group
pub record MayGo (start closed : ℕ) (x : StampedTx) : Type 0 where
  pub trimmed : x.end ≤ start
  pub grouped : x.end ≤ closed

-- The places are those of all that have an end, but for some at the front that may be forgotten. Of
-- those up to the start the ones that are in no group yet stay.
pub record IsTale (start closed : ℕ) (past stamped : List StampedTx)
    (slots : List TalePlace) : Type 0 where
  pub gone : List StampedTx
  pub kept : List StampedTx
  pub parts : past ≡ gone ++ kept
  pub places : ArePlacesOf slots (kept ++ stamped)
  pub may : AllByRecursion (MayGo start closed) gone

abbrev pub HasTale : State → List TalePlace → Type 0
HasTale s slots = IsTale s.start s.marks.closed s.past s.stamped slots

-- ---- laws
-- A trim keeps the places: what was stamped up to the new start stays for its group.
abbrev pub TrimKeepsTale : Type 0
TrimKeepsTale = (s : State) (m : ℕ) (slots : List TalePlace) → IsRising s.stamped → s.start ≤ m
    → HasTale s slots → HasTale (after_trim s m) slots

-- So does a group that is closed.
abbrev pub CloseKeepsTale : Type 0
CloseKeepsTale = (s : State) (mark : ℕ) (slots : List TalePlace) → s.marks.closed ≤ mark
    → HasTale s slots → HasTale (after_close s mark) slots

-- What is both trimmed and grouped may be forgotten.
abbrev pub ForgettingKeepsTale : Type 0
ForgettingKeepsTale = (s : State) (upto : ℕ) (slots : List TalePlace) → IsStarted s → upto ≤ s.start
    → upto ≤ s.marks.closed → HasTale s slots → HasTale s (forgotten upto slots)

-- Where nothing is past, the places are those of all that have an end.
abbrev pub WholeIsTale : Type 0
WholeIsTale = (s : State) (slots : List TalePlace) → s.past ≡ [] → ArePlacesOf slots s.stamped
    → HasTale s slots
