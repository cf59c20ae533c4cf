-- The places of the ends that were drawn: which ends they have, and which commits.
use Rattle.std.specs.Prelude.{ℕ, ◌<◌, ◌-◌, length, Bool, true, false, if◌then◌else◌, List, [], ◌∷◌, Option, None, Some, slice_get, option_and_then, ⊤}
use Rattle.std.specs.List.{AllByRecursion}
use Rattle.mvo_theory.specs.Marks.{Commit}
use Rattle.mvo_tale.specs.declared.tale_place.TalePlace.{TalePlace}
use Rattle.mvo_tale.specs.declared.tale_place.TalePlace.TheVariants.{Open, Reading, Settled, Empty}
use Rattle.mvo_tale.specs.Stored.{StoredCommit, stored_commit_of}

-- ---- over the places
-- the ends that were drawn and not given up. The end of a read-only one is its begin
abbrev pub ends : List TalePlace → List ℕ
ends [] = []
ends (Open e ∷ xs) = e.0 ∷ ends xs
ends (Reading b ∷ xs) = b.0 ∷ ends xs
ends (Settled x ∷ xs) = x.end ∷ ends xs
ends (Empty ∷ xs) = ends xs

-- the ends of those that are Preparing and may have written
abbrev pub open_ends : List TalePlace → List ℕ
open_ends [] = []
open_ends (Open e ∷ xs) = e.0 ∷ open_ends xs
open_ends (Reading b ∷ xs) = open_ends xs
open_ends (Settled x ∷ xs) = open_ends xs
open_ends (Empty ∷ xs) = open_ends xs

-- the begins of the read-only ones that haven't ended
abbrev pub reading_begins : List TalePlace → List ℕ
reading_begins [] = []
reading_begins (Open e ∷ xs) = reading_begins xs
reading_begins (Reading b ∷ xs) = b.0 ∷ reading_begins xs
reading_begins (Settled x ∷ xs) = reading_begins xs
reading_begins (Empty ∷ xs) = reading_begins xs

-- the commits that are stored
abbrev pub tale_commits : List TalePlace → List Commit
tale_commits [] = []
tale_commits (Open e ∷ xs) = tale_commits xs
tale_commits (Reading b ∷ xs) = tale_commits xs
tale_commits (Settled x ∷ xs) = stored_commit_of x ∷ tale_commits xs
tale_commits (Empty ∷ xs) = tale_commits xs

-- each is below those that come after it
abbrev pub AreRising : List ℕ → Type 0
AreRising [] = ⊤
AreRising (e ∷ es) = AllByRecursion (λ later. e < later) es × AreRising es

-- ---- at a place
abbrev pub open_end_of : TalePlace → Option ℕ
open_end_of (Open e) = Some e.0
open_end_of (Reading b) = None
open_end_of (Settled x) = None
open_end_of Empty = None

abbrev pub reading_begin_of : TalePlace → Option ℕ
reading_begin_of (Open e) = None
reading_begin_of (Reading b) = Some b.0
reading_begin_of (Settled x) = None
reading_begin_of Empty = None

-- where it ends, or would end; of a read-only one that is its begin
abbrev pub place_end : TalePlace → Option ℕ
place_end (Open e) = Some e.0
place_end (Reading b) = Some b.0
place_end (Settled x) = Some x.end
place_end Empty = None

-- where it ends, if it does
abbrev pub pending_end_of : TalePlace → Option ℕ
pending_end_of (Open e) = Some e.0
pending_end_of (Reading b) = Some b.0
pending_end_of (Settled x) = None
pending_end_of Empty = None

abbrev pub stored_of : TalePlace → Option StoredCommit
stored_of (Open e) = None
stored_of (Reading b) = None
stored_of (Settled x) = Some x
stored_of Empty = None

-- the end at the back, if that place isn't empty
abbrev pub end_at_back : List TalePlace → Option ℕ
end_at_back slots = option_and_then place_end (slice_get slots (length slots - 1))

-- the end of the Preparing transaction at the place, if one is there
abbrev pub open_end_at : List TalePlace → ℕ → Option ℕ
open_end_at slots place = option_and_then open_end_of (slice_get slots place)

-- the begin of the read-only one at the place that hasn't ended, if one is there
abbrev pub reading_begin_at : List TalePlace → ℕ → Option ℕ
reading_begin_at slots place = option_and_then reading_begin_of (slice_get slots place)

-- the end of the one at the place that is neither settled nor aborted, if one is there
abbrev pub pending_end_at : List TalePlace → ℕ → Option ℕ
pending_end_at slots place = option_and_then pending_end_of (slice_get slots place)

-- the stored commit at the place, if one is there
abbrev pub stored_at : List TalePlace → ℕ → Option StoredCommit
stored_at slots place = option_and_then stored_of (slice_get slots place)

-- ---- empty places at the back go
abbrev pub is_empty : TalePlace → Bool
is_empty (Open e) = false
is_empty (Reading b) = false
is_empty (Settled x) = false
is_empty Empty = true

abbrev pub and_place : TalePlace → List TalePlace → List TalePlace
and_place x [] = if is_empty x then [] else x ∷ []
and_place x (y ∷ ys) = x ∷ y ∷ ys

abbrev pub without_empty_back : List TalePlace → List TalePlace
without_empty_back [] = []
without_empty_back (x ∷ xs) = and_place x (without_empty_back xs)

-- these, if there are any
abbrev pub or_all : List TalePlace → List TalePlace → List TalePlace
or_all xs [] = xs
or_all xs (y ∷ ys) = y ∷ ys

-- the empty ones at the back go, unless all are empty
abbrev pub closed_up : List TalePlace → List TalePlace
closed_up xs = or_all xs (without_empty_back xs)
