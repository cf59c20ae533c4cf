-- The records of the next group, and where the group after it goes on.
use Rattle.std.specs.Prelude.{ℕ, zero, suc, ◌≡◌, nat_le, false, List, [], ◌∷◌, filter, drop, take, length, IsSome, ⊤}
use Rattle.std.specs.List.{AllByRecursion}
use Rattle.mvo_theory.specs.Marks.{Commit}
use Rattle.mvo_theory.specs.Groups.{is_due, IsLongest, mark_by}
use Rattle.mvo_tale.specs.declared.tale_place.TalePlace.{TalePlace}
use Rattle.mvo_tale.specs.declared.tale_place.TalePlace.TheVariants.{Open, Reading, Settled, Empty}
use Rattle.mvo_tale.specs.declared.next_records.NextRecords.{NextRecords}
use Rattle.mvo_tale.specs.Slots.{open_ends, tale_commits, stored_at}
use Rattle.mvo_tale.specs.Records.{AreRecordsOf, fits}

-- the commits that the next group may take: with a net write, above prev and at most the low-water
abbrev pub due_in : ℕ → ℕ → List TalePlace → List Commit
due_in prev low slots = filter (is_due prev) (filter (λ c. nat_le c.0 low) (tale_commits slots))

-- none of these is to be in a group above the mark
abbrev pub NoneIsDue : ℕ → List Commit → Type 0
NoneIsDue mark cs = AllByRecursion (λ c. is_due mark c ≡ false) cs

-- a place before which all are empty, or one right behind a stored commit
abbrev pub IsBehindStored : List TalePlace → ℕ → Type 0
IsBehindStored slots zero = ⊤
IsBehindStored [] (suc place) = ⊥
IsBehindStored (Open e ∷ slots) (suc place) = IsSome (stored_at (Open e ∷ slots) place)
IsBehindStored (Reading b ∷ slots) (suc place) = IsSome (stored_at (Reading b ∷ slots) place)
IsBehindStored (Settled c ∷ slots) (suc place) = IsSome (stored_at (Settled c ∷ slots) place)
IsBehindStored (Empty ∷ slots) (suc place) = IsBehindStored slots place

-- before the place none is Preparing that may have written, and each commit that wrote is in a
-- group up to the mark. The place is right behind a commit, or all before it are empty, so that it
-- stays one where empty places at the back go
pub record AreGroupedTo (slots : List TalePlace) (place mark : ℕ) : Type 0 where
  pub behind : IsBehindStored slots place
  pub settled : open_ends (take place slots) ≡ []
  pub grouped : NoneIsDue mark (tale_commits (take place slots))

-- the group takes the longest beginning of the commits that fits, with its mark
pub record AreNextRecords (slots : List TalePlace) (prev low : ℕ) (n : NextRecords) : Type 0 where
  pub taken : List Commit
  pub longest : IsLongest fits (due_in prev low slots) taken
  pub records : AreRecordsOf taken n.records.items
  pub mark : n.mark.0 ≡ mark_by low prev taken (drop (length taken) (due_in prev low slots))
  pub next : AreGroupedTo slots n.next n.mark.0
