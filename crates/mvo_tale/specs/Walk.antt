-- The walk over the places: what it does at each, and what it has gathered.
use Rattle.std.specs.Prelude.{ℕ, ◌≡◌, ◌+◌, ◌<◌, ◌≤◌, ◌⊎◌, true, false, List, [], ◌∷◌, ◌++◌, All, length, sum_by, ⊤}
use Rattle.mvo_types.specs.declared.limits.TheConstants.{MAX_BODY_LEN, MAX_RECORDS}
use Rattle.mvo_theory.specs.Marks.{Commit}
use Rattle.mvo_theory.specs.Groups.{is_due}
use Rattle.mvo_group.specs.declared.lengths.TheConstants.{BODY_HEADER_LEN}
use Rattle.mvo_group.specs.Data.{RecordData}
use Rattle.mvo_group.specs.Rules.{IsRecord, record_len}
use Rattle.mvo_tale.specs.declared.tale_place.TalePlace.{TalePlace}
use Rattle.mvo_tale.specs.declared.tale_place.TalePlace.TheVariants.{Open, Reading, Settled, Empty}
use Rattle.mvo_tale.specs.declared.walk_step.WalkStep.{WalkStep}
use Rattle.mvo_tale.specs.declared.walk_step.WalkStep.TheVariants.{Due, Passed, Skipped, Stop}
use Rattle.mvo_tale.specs.Stored.{StoredCommit, stored_commit_of}
use Rattle.mvo_tale.specs.Records.{IsRecordOf, commit_len}

-- ---- at a place
-- one that is Preparing and may have written ends here, or a commit above the low-water
abbrev pub IsWalkEnd : ℕ → TalePlace → Type 0
IsWalkEnd low (Open e) = ⊤
IsWalkEnd low (Reading b) = ⊥
IsWalkEnd low (Settled x) = low < x.end
IsWalkEnd low Empty = ⊥

-- no commit is here, and none that wrote will be: a read-only one hasn't ended, or nothing is here
abbrev pub IsPassedOver : TalePlace → Type 0
IsPassedOver (Open e) = ⊥
IsPassedOver (Reading b) = ⊤
IsPassedOver (Settled x) = ⊥
IsPassedOver Empty = ⊤

-- a commit that is at most the low-water, and isn't due
pub record IsPassed (prev low : ℕ) (slot : TalePlace) : Type 0 where
  pub commit : StoredCommit
  pub at : slot ≡ Settled commit
  pub within : commit.end ≤ low
  pub due : is_due prev (stored_commit_of commit) ≡ false

-- a commit that is at most the low-water, and is due
pub record IsDueAt (prev low : ℕ) (slot : TalePlace) (commit : StoredCommit) : Type 0 where
  pub at : slot ≡ Settled commit
  pub within : commit.end ≤ low
  pub due : is_due prev (stored_commit_of commit) ≡ true

abbrev pub IsStepAt : ℕ → ℕ → TalePlace → WalkStep → Type 0
IsStepAt prev low slot (Due x) = IsDueAt prev low slot x.now
IsStepAt prev low slot Passed = IsPassed prev low slot
IsStepAt prev low slot Skipped = IsPassedOver slot
IsStepAt prev low slot Stop = IsWalkEnd low slot

-- ---- what is gathered
-- records that may be in a group
pub record AreFitting (rs : List RecordData) : Type 0 where
  pub few : length rs ≤ MAX_RECORDS
  pub size : BODY_HEADER_LEN + sum_by record_len rs ≤ MAX_BODY_LEN
  pub each : All IsRecord rs

-- with the record of the commit
pub record HasOneRecordMore (c : Commit) (rs rs' : List RecordData) : Type 0 where
  pub added : RecordData
  pub is : IsRecordOf c added
  pub len : record_len added ≡ commit_len c
  pub more : rs' ≡ rs ++ added ∷ []

-- the record of the commit doesn't fit behind these. Alone it would
pub record IsTooMuch (c : Commit) (rs : List RecordData) : Type 0 where
  pub some : 1 ≤ length rs
  pub over : (MAX_RECORDS ≤ length rs)
      ⊎ (MAX_BODY_LEN < BODY_HEADER_LEN + sum_by record_len rs + commit_len c)

-- the end of the last record, if there is one
abbrev pub end_behind : ℕ → List RecordData → ℕ
end_behind e [] = e
end_behind e (r ∷ rs) = end_behind r.end rs
