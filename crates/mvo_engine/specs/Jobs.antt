-- What the jobs of the store come to that an engine makes whole.
use Rattle.std.specs.Prelude.{◌≡◌, ℕ, Bool, true, false, Option, Some, None, Result, Ok, Err}
use Rattle.mvo_types.specs.declared.refusal.Refusal.{Refusal}
use Rattle.mvo_disk.specs.declared.disk.Disk.{Ghosts}
use Rattle.mvo_store.specs.declared.install.generation.Generation.{Generation}
use Rattle.mvo_store.specs.declared.call.StoreCall.{StoreCall}
use Rattle.mvo_store.specs.declared.call.StoreCall.TheVariants.{Step, RotateWrite, CheckpointRead as ReadToCheckpoint, MergeRead as ReadToMerge, Reclaim}
use Rattle.mvo_store.specs.declared.jobs.due.Due.TheVariants.{Data, MergeData, Install}
use Rattle.mvo_store.specs.declared.install.install_step.InstallStep.TheVariants.{Close, Open}
use Rattle.mvo_store.specs.declared.jobs.progress.Progress.{Progress}
use Rattle.mvo_store.specs.declared.jobs.progress.Progress.TheVariants.{More, Ready}
use Rattle.mvo_store.specs.declared.done.Done.{Done}
use Rattle.mvo_store.specs.declared.done.Done.TheVariants.{Installed, Progress as Progressed}
use Rattle.mvo_engine.specs.declared.slice.Slice.{Slice}
use Rattle.mvo_engine.specs.declared.slice.Slice.TheVariants.{Checkpoint, Merge, Places, MergeBegin, MergeRead, MergeForget, CheckpointBegin, CheckpointRead, CheckpointForget, Shorten}
use Rattle.mvo_engine.specs.declared.sliced.Sliced.{Sliced}
use Rattle.mvo_engine.specs.declared.sliced.Sliced.TheVariants.{Written, Placed, Shortened, PairsRead, SegmentRead}
use Rattle.mvo_engine.specs.declared.read_slices.ReadSlices.{ReadSlices}
use Rattle.mvo_engine.specs.States.{StoreState}
use Rattle.mvo_engine.specs.Calls.{IsLockedCall, IsLockedSlice}

-- A slice with the lock of the store taken for it alone.
abbrev pub IsSliceAlone : {D : Type 0} → Ghosts D → Slice → Result Progress Refusal → Type 0
IsSliceAlone {D} d slice result =
    (old new : StoreState D) × IsLockedSlice d old slice result new

-- Behind this slice no more are made: it was the last, or it is refused.
abbrev pub IsEndOfSlices : Result Progress Refusal → Result (Unit {0}) Refusal → Type 0
IsEndOfSlices (Ok More) result = ⊥
IsEndOfSlices (Ok Ready) result = result ≡ Ok tt
IsEndOfSlices (Err e) result = result ≡ Err e

-- Slices are made, each alone, up to the last or the first that is refused.
abbrev pub AreSlicesAlone : {D : Type 0} → Ghosts D → Slice → Result (Unit {0}) Refusal → Type 0
AreSlicesAlone d slice result =
    (last : Result Progress Refusal) × IsSliceAlone d slice last × IsEndOfSlices last result

-- A call of the store with its lock taken for it alone. Others may have made calls before it, so it
-- begins with some store, and not with the one that the call before it left.
abbrev pub IsOneCallAlone : {D : Type 0} → Ghosts D → StoreCall → Result Done Refusal → Type 0
IsOneCallAlone {D} d call result = (old new : StoreState D) × IsLockedCall d old call result new

-- the call installs a manifest
abbrev pub opens_a_manifest : StoreCall → Bool
opens_a_manifest (Step (Install Open)) = true
opens_a_manifest call = false

-- how a call is made of slices, or behind some
abbrev pub slices_of : StoreCall → Option Sliced
slices_of (Step Data) = Some (Written Checkpoint)
slices_of (Step MergeData) = Some (Written Merge)
slices_of (Step (Install Close)) = Some Placed
slices_of RotateWrite = Some Shortened
slices_of Reclaim = Some Shortened
slices_of (ReadToMerge place) = Some (PairsRead place)
slices_of ReadToCheckpoint = Some SegmentRead
slices_of call = None

-- what the call answers that the slices make
abbrev pub made_by : Result (Unit {0}) Refusal → Result Done Refusal
made_by (Ok _) = Ok (Progressed More)
made_by (Err e) = Err e

-- a data file is written by slices
abbrev pub IsDataAlone : {D : Type 0} → Ghosts D → Slice → Result Done Refusal → Type 0
IsDataAlone d slice result =
    (came : Result (Unit {0}) Refusal) × AreSlicesAlone d slice came × (result ≡ made_by came)

-- the call alone, behind the slices of the places, whatever these came to
abbrev pub IsBehindPlaces : {D : Type 0} → Ghosts D → StoreCall → Result Done Refusal → Type 0
IsBehindPlaces d call result =
    ((came : Result (Unit {0}) Refusal) × AreSlicesAlone d Places came)
    × IsOneCallAlone d call result

-- so it goes on where long files were cut, and else this is the refusal
abbrev pub GoesOnBehind : Result (Unit {0}) Refusal → (Result Done Refusal → Type 0)
    → Result Done Refusal → Type 0
GoesOnBehind (Ok _) P result = P result
GoesOnBehind (Err e) P result = result ≡ Err e

-- long files that nobody names are cut by slices first
abbrev pub IsBehindCuts : {D : Type 0} → Ghosts D → (Result Done Refusal → Type 0)
    → Result Done Refusal → Type 0
IsBehindCuts d P result =
    (came : Result (Unit {0}) Refusal) × AreSlicesAlone d Shorten came × GoesOnBehind came P result

-- by which slices two pairs are read, and a segment
abbrev pub of_pairs : ℕ → ReadSlices
of_pairs place = record { begin = MergeBegin place; on = MergeRead; forget = MergeForget }

abbrev pub of_segment : ReadSlices
of_segment = record { begin = CheckpointBegin; on = CheckpointRead; forget = CheckpointForget }

-- where a reading is refused, what is read is forgotten
abbrev pub IsForgottenBehind : {D : Type 0} → Ghosts D → Slice → Result (Unit {0}) Refusal
    → Type 0
IsForgottenBehind d forget (Ok _) = Unit {0}
IsForgottenBehind d forget (Err e) = (told : Result Progress Refusal) × IsSliceAlone d forget told

-- what has begun to be read is read on by slices
abbrev pub IsReadOnAlone : {D : Type 0} → Ghosts D → ReadSlices → Result Done Refusal → Type 0
IsReadOnAlone d slices result = (came : Result (Unit {0}) Refusal)
    × AreSlicesAlone d slices.on came × IsForgottenBehind d slices.forget came
    × (result ≡ made_by came)

-- so it is where it isn't refused to begin
abbrev pub IsReadBehind : {D : Type 0} → Ghosts D → ReadSlices → Result Progress Refusal
    → Result Done Refusal → Type 0
IsReadBehind d slices (Ok _) result = IsReadOnAlone d slices result
IsReadBehind d slices (Err e) result = result ≡ Err e

-- what a job is made of is read by slices
abbrev pub IsReadAlone : {D : Type 0} → Ghosts D → ReadSlices → Result Done Refusal → Type 0
IsReadAlone d slices result = (begun : Result Progress Refusal)
    × IsSliceAlone d slices.begin begun × IsReadBehind d slices begun result

abbrev pub IsInSlices : {D : Type 0} → Ghosts D → Sliced → StoreCall → Result Done Refusal
    → Type 0
IsInSlices d (Written slice) call result = IsDataAlone d slice result
IsInSlices d Placed call result = IsBehindPlaces d call result
IsInSlices d Shortened call result = IsBehindCuts d (IsOneCallAlone d call) result
IsInSlices d (PairsRead place) call result = IsBehindCuts d (IsReadAlone d (of_pairs place)) result
IsInSlices d SegmentRead call result = IsBehindCuts d (IsReadAlone d of_segment) result

abbrev pub IsAloneWith : {D : Type 0} → Ghosts D → Option Sliced → StoreCall
    → Result Done Refusal → Type 0
IsAloneWith d None call result = IsOneCallAlone d call result
IsAloneWith d (Some sliced) call result = IsInSlices d sliced call result

-- A call alone; but a data file is written by slices, a segment and two pairs are read by slices,
-- and before a manifest is installed the places of its records are put by slices. Before a job
-- begins, or a file is reclaimed, long files that nobody names are cut by slices.
abbrev pub IsCallAlone : {D : Type 0} → Ghosts D → Unit {0} → StoreCall → Result Done Refusal
    → Unit {0} → Type 0
IsCallAlone d _ call result _ = IsAloneWith d (slices_of call) call result

-- a manifest is installed
abbrev pub IsInstallAnswer : Done → Type 0
IsInstallAnswer done = (generation : Generation) × (done ≡ Installed generation)

-- what the last call of a job answered, by the generation that the job answers
abbrev pub told_of : Result Generation Refusal → Result Done Refusal
told_of (Ok generation) = Ok (Installed generation)
told_of (Err e) = Err e
