-- The places of a job's records, which are put all at once or in slices.
use Rattle.std.specs.Prelude.{◌≡◌, ℕ, ◌+◌, ◌-◌, nat_lt, Bool, false, List, length, take, Option, Some, None, if◌then◌else◌}
use Rattle.std.specs.Option.{option_map}
use Rattle.mvo_pair.specs.declared.pair.Pair.{Pair}
use Rattle.mvo_pair.specs.Data.{Numbered}
use Rattle.mvo_ckpt.specs.Checkpoint.{BuiltCheckpoint}
use Rattle.mvo_places.specs.Places.{PlaceMap, ArePlaces, taken_upto}
use Rattle.mvo_merge.specs.Moved.{moved}
use Rattle.mvo_store.specs.declared.limits.TheConstants.{PLACES_A_SLICE}
use Rattle.mvo_store.specs.declared.checkpoint.checkpointing.Checkpointing.{Checkpointing}
use Rattle.mvo_store.specs.declared.checkpoint.checkpoint_job.CheckpointJob.{CheckpointJob}
use Rattle.mvo_store.specs.declared.checkpoint.checkpoint_job.CheckpointJob.TheVariants.{Reading as Reads, Running as Runs}
use Rattle.mvo_store.specs.declared.jobs.jobs.Jobs.{Jobs}
use Rattle.mvo_store.specs.declared.jobs.jobs.Jobs.TheVariants.{Rotation as RotationAlone, Merge as MergeAlone, Beside}
use Rattle.mvo_store.specs.Jobs.{Job, next_installed}
use Rattle.mvo_store.specs.Jobs.Job.{Rotation, Checkpoint, Merge, MergeInstall}

-- ---- the changes of places that a job makes

-- how many a checkpoint makes: a key without a row loses its place, and a record gets one
abbrev pub change_count : BuiltCheckpoint → ℕ
change_count made = length made.gone + length made.records

-- the places with those changes of the job that are made
abbrev pub places_upto : Job → PlaceMap → PlaceMap
places_upto (Rotation fresh i) at = at
places_upto (Checkpoint c) at =
    taken_upto c.pair.data_file c.made.records c.made.gone c.placed at
places_upto (Merge g) at = at
places_upto (MergeInstall g placed i) at =
    moved g.left.data_file g.right.data_file g.pair.data_file (take placed g.made.records) at

-- the same of the job whose manifest is the next to be installed
abbrev pub places_so_far : Option Job → PlaceMap → PlaceMap
places_so_far None at = at
places_so_far (Some j) at = places_upto j at

-- The places are those of the live records of these pairs, with the changes that the next job to be
-- installed has made so far.
pub record HavePlacesSoFar (ps : List Pair) (lives : List (List Numbered)) (jobs : Jobs)
    (places : PlaceMap) : Type 0 where
  pub at : PlaceMap
  pub are : ArePlaces ps lives at
  pub so_far : places ≡ places_so_far (next_installed jobs) at

-- ---- what a slice makes of the jobs

-- how many changes are made behind the next slice, where so many of so many are
abbrev pub changes_behind : ℕ → ℕ → ℕ
changes_behind placed all =
    if nat_lt PLACES_A_SLICE (all - placed) then placed + PLACES_A_SLICE else all

abbrev pub checkpoint_placed : Checkpointing → Checkpointing
checkpoint_placed c = record c { placed = changes_behind c.placed (change_count c.made) }

abbrev pub checkpoint_job_placed : CheckpointJob → CheckpointJob
checkpoint_job_placed (Reads r) = Reads r
checkpoint_job_placed (Runs c) = Runs (checkpoint_placed c)

-- a checkpoint, or a merge whose files are written, has a slice more behind it
abbrev pub with_places : Jobs → Jobs
with_places (RotationAlone fresh i) = RotationAlone fresh i
with_places (MergeAlone seen placed i) =
    MergeAlone seen (changes_behind placed (length seen.made.records)) i
with_places (Beside c g) = Beside (option_map checkpoint_job_placed c) g

-- some of its changes are left
abbrev pub is_checkpoint_left : Option CheckpointJob → Bool
is_checkpoint_left None = false
is_checkpoint_left (Some (Reads r)) = false
is_checkpoint_left (Some (Runs c)) = nat_lt c.placed (change_count c.made)

abbrev pub are_places_left : Jobs → Bool
are_places_left (RotationAlone fresh i) = false
are_places_left (MergeAlone seen placed i) = nat_lt placed (length seen.made.records)
are_places_left (Beside c g) = is_checkpoint_left c
