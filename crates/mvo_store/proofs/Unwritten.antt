-- A job that has written some of its data file, seen as one that has written none of it.
use Rattle.std.proofs.Common.{◌≡◌, ℕ, Result, Ok, Err, refl, sym, subst, ◌∙◌, arith, length}
use Rattle.std.specs.Prelude.{OnOk, IfErr}
use Rattle.mvo_types.specs.declared.refusal.Refusal.{Refusal}
use Rattle.mvo_disk.specs.declared.disk.Disk.{Ghosts}
use Rattle.mvo_disk.specs.Disk.{IsHonest}
use Rattle.mvo_manifest.specs.Data.{ManifestData}
use Rattle.mvo_recovery.specs.Parts.{Parts}
use Rattle.mvo_store.specs.declared.jobs.due.Due.{Due}
use Rattle.mvo_store.specs.declared.jobs.due.Due.TheVariants.{MergeData}
use Rattle.mvo_store.specs.declared.checkpoint.checkpointing.Checkpointing.{Checkpointing}
use Rattle.mvo_store.specs.declared.checkpoint.stage.CheckpointStage.{CheckpointStage}
use Rattle.mvo_store.specs.declared.checkpoint.stage.CheckpointStage.TheVariants.{Data as AtData, Delta as AtDelta}
use Rattle.mvo_store.specs.declared.merge.stage.MergeStage.{MergeStage}
use Rattle.mvo_store.specs.declared.merge.stage.MergeStage.TheVariants.{Data as MergeAtData, Delta as MergeAtDelta}
use Rattle.mvo_store.specs.declared.merge.merging.Merging.{Merging}
use Rattle.mvo_store.specs.Jobs.{Job, step_due, merge_due_of, stage_behind}
use Rattle.mvo_store.specs.Jobs.Job.{Checkpoint, Merge}
use Rattle.mvo_store.specs.Safe.{IsSafeWork}
use Rattle.mvo_store.specs.Writing.{IsFileDue, StandsWith, WritesOne, IsMadeStep, HasMadeStep, TakesMemory, IsStepRefusal, IsStepTo, IsJobStep}

-- what holds of both answers holds of the two together
pub both_ok : {X E : Type 0} (P Q R : Type 0) (result : Result X E) → (P → Q → R) → OnOk result P → OnOk result Q → OnOk result R
both_ok P Q R (Ok x) so p q = so p q
both_ok P Q R (Err e) so p q = tt

abbrev pub unwritten : Checkpointing → Checkpointing
unwritten c = record c { stage = AtData 0 }

abbrev pub merge_unwritten : Merging → Merging
merge_unwritten g = record g { stage = MergeAtData 0 }

-- each way in which the job stands, the other one stands too, and it writes the same file
pub record IsSeenAs {D : Type 0} (d : Ghosts D) (old : D) (m : ManifestData) (j k : Job) : Type 0 where
  pub takes : TakesMemory (step_due j)
  pub due : step_due k ≡ step_due j
  pub file : (n : ℕ) → IsFileDue m k n → IsFileDue m j n
  pub stands : (x : Parts) → StandsWith d old m x j → StandsWith d old m x k

pub checkpoint_as : {D : Type 0} (d : Ghosts D) (old : D) (m : ManifestData) (c : Checkpointing) (written : ℕ) → c.stage ≡ AtData written → IsSeenAs d old m (Checkpoint c) (Checkpoint (unwritten c))
checkpoint_as d old m c written at = subst (λ (stage : CheckpointStage). IsSeenAs d old m (Checkpoint (record c { stage = stage })) (Checkpoint (unwritten c))) (sym at) (record {
  takes = tt;
  due = refl;
  file = λ n is. is;
  stands = λ x s. record { settled = s.settled; job = record { work = record { into = s.job.work.into; have = s.job.work.have; written = tt }; install = tt } };
})

pub merge_as : {D : Type 0} (d : Ghosts D) (old : D) (m : ManifestData) (g : Merging) (written : ℕ) → g.stage ≡ MergeAtData written → IsSeenAs d old m (Merge g) (Merge (merge_unwritten g))
merge_as d old m g written at = subst (λ (stage : MergeStage). IsSeenAs d old m (Merge (record g { stage = stage })) (Merge (merge_unwritten g))) (sym at) (record {
  takes = tt;
  due = refl;
  file = λ n is. is;
  stands = λ x s. record { settled = s.settled; job = record { work = record { merge = s.job.work.merge; written = tt }; install = tt } };
})

module _ {D : Type 0} (d : Ghosts D) (old new : D) (m : ManifestData) (j k behind : Job) (seen : IsSeenAs d old m j k) where
  pub writes_as : (x : Parts) → StandsWith d old m x j → WritesOne d old new m x (IsFileDue m k) → WritesOne d old new m x (IsFileDue m j)
  writes_as x s w = record { file = w.file; is = seen.file w.file w.is; other = w.other; rest = w.rest; leaves = w.leaves }

  pub made_as : (x : Parts) → IsMadeStep d old new m x k behind → IsMadeStep d old new m x j behind
  made_as x made = record { slots = made.slots; counts = made.counts; stands = λ ne. made.stands (λ e. ne (sym seen.due ∙ e)); opened = λ e. absurd (subst TakesMemory e seen.takes) }

  -- A STEP OF THE OTHER ONE is a step of the job.
  pub step_as : (result : Result (Unit {0}) Refusal) → (IsSafeWork m j → IsSafeWork m k) → IsStepTo d old new m k behind result → IsStepTo d old new m j behind result
  step_as result safe_as e = record {
    honest = e.honest;
    file = λ safe. let w = e.file (safe_as safe) in record { file = w.file; is = seen.file w.file w.is; rest = w.rest };
    writes = λ honest x s. writes_as x s (e.writes honest x (seen.stands x s));
    makes = both_ok (IsHonest (d.moment new) → HasMadeStep d old new m k behind) (IsHonest (d.moment new) → HasMadeStep d old new m k behind) (IsHonest (d.moment new) → HasMadeStep d old new m j behind) result (λ makes _ honest x s. made_as x (makes honest x (seen.stands x s))) e.makes e.makes;
    count = e.count;
    refused = subst (λ (due : Due). IfErr result (IsStepRefusal d.fault_count due old new)) seen.due e.refused;
  }

-- so is one of a checkpoint, and of a merge, whose data file is written then
pub data_step : {D : Type 0} (d : Ghosts D) (old new : D) (m : ManifestData) (c : Checkpointing) (written : ℕ) (at : c.stage ≡ AtData written) (result : Result (Unit {0}) Refusal) → IsStepTo d old new m (Checkpoint (unwritten c)) (Checkpoint (record c { stage = AtDelta 0 })) result → IsJobStep d old new m (Checkpoint c) result
data_step d old new m c written at result e =
    subst (λ (stage : CheckpointStage). IsStepTo d old new m (Checkpoint c) (Checkpoint (record c { stage = stage_behind (length c.made.deltas) stage })) result) (sym at)
    (step_as d old new m (Checkpoint c) (Checkpoint (unwritten c)) (Checkpoint (record c { stage = AtDelta 0 })) (checkpoint_as d old m c written at) result
    (λ safe. record { generation = safe.generation; pair = safe.pair; known = safe.known; within = tt; among = omega arith; placed = safe.placed; next_is = safe.next_is }) e)

pub merge_data_step : {D : Type 0} (d : Ghosts D) (old new : D) (m : ManifestData) (g : Merging) (written : ℕ) (at : g.stage ≡ MergeAtData written) (result : Result (Unit {0}) Refusal) → IsStepTo d old new m (Merge (merge_unwritten g)) (Merge (record g { stage = MergeAtDelta })) result → IsJobStep d old new m (Merge g) result
merge_data_step d old new m g written at result e =
    step_as d old new m (Merge g) (Merge (merge_unwritten g)) (Merge (record g { stage = MergeAtDelta })) (merge_as d old m g written at) result
    (λ safe. record { pair = safe.pair; among = omega arith; still = safe.still; may_become = safe.may_become }) e

-- the stage of a merge whose data file is due
pub at_merge_data : (stage : MergeStage) → merge_due_of stage ≡ MergeData → (written : ℕ) × (stage ≡ MergeAtData written)
at_merge_data (MergeAtData written) e = (written, refl)
at_merge_data MergeAtDelta e = absurd (cc e)
