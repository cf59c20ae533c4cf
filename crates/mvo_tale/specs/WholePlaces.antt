-- The places as a state with its read-only transactions has them.
use Rattle.std.specs.Prelude.{ℕ, ◌≡◌, ◌≤◌, nat_lt, Bool, true, false, if◌then◌else◌, List, [], ◌∷◌, ◌++◌, map, Some, slice_set, IsSome}
use Rattle.std.specs.List.{AllByRecursion}
use Rattle.std.specs.List.Sorted.{IsPermutation}
use Rattle.mvo_types.specs.declared.ids.Stamp.{Stamp}
use Rattle.mvo_types.specs.Keys.{Map}
use Rattle.mvo_model.specs.History.{Legal}
use Rattle.mvo_model.specs.Trace.{Step}
use Rattle.mvo_theory.specs.Sound.{IsRising, IsStarted}
use Rattle.mvo_theory.specs.Changes.{after_trim, after_close}
use Rattle.mvo_readonly.specs.ReadAt.{WritesNothing}
use Rattle.mvo_readonly.specs.Whole.{ReaderStage, UnfinishedReader, CommittedReader, WholeState}
use Rattle.mvo_readonly.specs.Whole.ReaderStage.{Reading as IsReading, Preparing, Committed, Aborted}
use Rattle.mvo_readonly.specs.WholeCalls.{with_stage, without_reader}
use Rattle.mvo_readonly.specs.WholeKept.{IsWholeKept}
use Rattle.mvo_readonly.specs.WholeTale.{stored_readers, whole_tale}
use Rattle.mvo_tale.specs.declared.tale_place.TalePlace.{TalePlace}
use Rattle.mvo_tale.specs.declared.tale_place.TalePlace.TheVariants.{Open, Reading, Settled, Empty}
use Rattle.mvo_tale.specs.Stored.{StoredCommit}
use Rattle.mvo_tale.specs.Slots.{ends, reading_begins, reading_begin_at, open_end_at, AreRising, closed_up}
use Rattle.mvo_tale.specs.Forgetting.{forgotten}
use Rattle.mvo_tale.specs.Next.{due_in}
use Rattle.mvo_tale.specs.Kept.{HasTale}
use Rattle.mvo_tale.specs.Others.{ends_at_begin, others_places}

-- ---- the read-only transactions at the places
abbrev pub has_ended : ReaderStage → Bool
has_ended IsReading = false
has_ended (Preparing n v) = false
has_ended Committed = true
has_ended Aborted = true

-- the begins of those that haven't ended
abbrev pub begins_of : List UnfinishedReader → List ℕ
begins_of [] = []
begins_of (r ∷ rs) = if has_ended r.stage then begins_of rs else r.id ∷ begins_of rs

abbrev pub reader_of : StoredCommit → CommittedReader
reader_of c = record { id = c.id; history = c.history }

-- the committed ones that are stored
abbrev pub readers_at : List TalePlace → List CommittedReader
readers_at [] = []
readers_at (Open e ∷ xs) = readers_at xs
readers_at (Reading b ∷ xs) = readers_at xs
readers_at (Settled c ∷ xs) = if ends_at_begin c then reader_of c ∷ readers_at xs else readers_at xs
readers_at (Empty ∷ xs) = readers_at xs

-- A read-only transaction that hasn't ended has a place, opened at its begin; of the committed ones
-- those above the start are stored, and above each later stamp the same; and each wrote nothing.
pub record HasReaders (start : ℕ) (readers : List UnfinishedReader)
    (committed : List CommittedReader) (slots : List TalePlace) : Type 0 where
  pub reading : reading_begins slots ≡ begins_of readers
  pub stored : (m : ℕ) → start ≤ m
      → IsPermutation (stored_readers m committed) (stored_readers m (readers_at slots))
  pub idle : AllByRecursion (λ y. WritesNothing y.history) (readers_at slots)

-- the places are those of the others, and those of the read-only ones among them
pub record HasWholeTale (w : WholeState) (slots : List TalePlace) : Type 0 where
  pub others : HasTale w.core (others_places slots)
  pub readers : HasReaders w.core.start w.readers w.committed_readers slots

-- ---- what is stored
-- the stored commits that end above the start
abbrev pub stored_after : ℕ → List TalePlace → List StoredCommit
stored_after start [] = []
stored_after start (Open e ∷ xs) = stored_after start xs
stored_after start (Reading b ∷ xs) = stored_after start xs
stored_after start (Settled c ∷ xs) =
    if nat_lt start c.end then c ∷ stored_after start xs else stored_after start xs
stored_after start (Empty ∷ xs) = stored_after start xs

-- The stored commits above the start are those of the state, by end timestamp, a read-only one at
-- its begin; and they are legal from the rows at the start.
pub record IsStoredWhole (w : WholeState) (slots : List TalePlace) : Type 0 where
  pub stored : map (λ c. (c.end, c.id)) (stored_after w.core.start slots) ≡ whole_tale w
  pub legal : Legal w.core.base (map (λ c. c.history) (stored_after w.core.start slots))

-- ---- laws
-- A read-only transaction begins: its place is opened behind all others.
abbrev pub BeginKeepsWholeTale : Type 0
BeginKeepsWholeTale = (w : WholeState) (b : Stamp) (slots : List TalePlace)
    → HasWholeTale w slots
    → HasWholeTale
    (record w { readers = w.readers ++ (record { id = b.0; stage = IsReading }) ∷ [] })
    (slots ++ Reading b ∷ [])

-- It prepares, or one more of its entries is checked: its place stays.
abbrev pub StageKeepsWholeTale : Type 0
StageKeepsWholeTale = (w : WholeState) (t n : ℕ) (v : Bool) (slots : List TalePlace)
    → AllByRecursion (λ r. r.id ≡ t → has_ended r.stage ≡ false) w.readers
    → HasWholeTale w slots
    → HasWholeTale (record w { readers = with_stage t (Preparing n v) w.readers }) slots

-- It commits: its commit is stored at the place that it has, whatever was stored behind it.
abbrev pub SettleKeepsWholeTale : Type 0
SettleKeepsWholeTale =
    (w : WholeState) (c : StoredCommit) (place : ℕ) (slots : List TalePlace)
    → AreRising (ends slots) → reading_begin_at slots place ≡ Some c.end → c.id ≡ c.end
    → WritesNothing c.history → HasWholeTale w slots
    → HasWholeTale
    (record w {
      readers = with_stage c.id Committed w.readers;
      committed_readers = w.committed_readers ++ reader_of c ∷ [];
    })
    (slice_set slots place (Settled c))

-- It is aborted: its place is empty then.
abbrev pub LeaveKeepsWholeTale : Type 0
LeaveKeepsWholeTale = (w : WholeState) (t place : ℕ) (slots : List TalePlace)
    → AreRising (ends slots) → reading_begin_at slots place ≡ Some t → HasWholeTale w slots
    → HasWholeTale (record w { readers = with_stage t Aborted w.readers })
    (closed_up (slice_set slots place Empty))

-- It is finished, once it has ended.
abbrev pub FinishKeepsWholeTale : Type 0
FinishKeepsWholeTale = (w : WholeState) (t : ℕ) (slots : List TalePlace)
    → AllByRecursion (λ r. r.id ≡ t → has_ended r.stage ≡ true) w.readers
    → HasWholeTale w slots
    → HasWholeTale (record w { readers = without_reader t w.readers }) slots

-- Another prepares, is settled or is aborted: the read-only ones' places stay.
abbrev pub PrepareKeepsReaders : Type 0
PrepareKeepsReaders = (start : ℕ) (readers : List UnfinishedReader)
    (committed : List CommittedReader) (e : Stamp) (slots : List TalePlace)
    → HasReaders start readers committed slots
    → HasReaders start readers committed (slots ++ Open e ∷ [])

abbrev pub CommitKeepsReaders : Type 0
CommitKeepsReaders = (start : ℕ) (readers : List UnfinishedReader)
    (committed : List CommittedReader) (c : StoredCommit) (place : ℕ) (slots : List TalePlace)
    → open_end_at slots place ≡ Some c.end → ends_at_begin c ≡ false
    → HasReaders start readers committed slots
    → HasReaders start readers committed (slice_set slots place (Settled c))

abbrev pub AbortKeepsReaders : Type 0
AbortKeepsReaders = (start : ℕ) (readers : List UnfinishedReader)
    (committed : List CommittedReader) (place : ℕ) (slots : List TalePlace)
    → IsSome (open_end_at slots place) → HasReaders start readers committed slots
    → HasReaders start readers committed (closed_up (slice_set slots place Empty))

-- A trim keeps the places, a closed group does, and what is both trimmed and grouped may be
-- forgotten.
abbrev pub TrimKeepsWholeTale : Type 0
TrimKeepsWholeTale = (w : WholeState) (m : ℕ) (slots : List TalePlace)
    → IsRising w.core.stamped → w.core.start ≤ m → HasWholeTale w slots
    → HasWholeTale (record w { core = after_trim w.core m }) slots

abbrev pub CloseKeepsWholeTale : Type 0
CloseKeepsWholeTale = (w : WholeState) (mark : ℕ) (slots : List TalePlace)
    → w.core.marks.closed ≤ mark → HasWholeTale w slots
    → HasWholeTale (record w { core = after_close w.core mark }) slots

abbrev pub ForgettingKeepsWholeTale : Type 0
ForgettingKeepsWholeTale = (w : WholeState) (upto : ℕ) (slots : List TalePlace)
    → IsStarted w.core → upto ≤ w.core.start → upto ≤ w.core.marks.closed
    → HasWholeTale w slots → HasWholeTale w (forgotten upto slots)

-- The next group takes what it takes of the others.
abbrev pub GroupTakesOthers : Type 0
GroupTakesOthers = (w : WholeState) (prev low : ℕ) (slots : List TalePlace)
    → HasWholeTale w slots → due_in prev low slots ≡ due_in prev low (others_places slots)

-- What is stored above the start is the whole tale, and legal.
abbrev pub StoredIsWhole : Type 0
StoredIsWhole = (opening : Map) (steps own : List Step) (w : WholeState) (slots : List TalePlace)
    → IsWholeKept opening steps own w → AreRising (ends slots) → HasWholeTale w slots
    → IsStoredWhole w slots
