-- A step of one of two jobs leaves the other.
use Rattle.std.proofs.Common.{◌≡◌, ◌≢◌, inl, inr, ℕ, zero, suc, ◌+◌, ◌<◌, ◌≤◌, ◌||◌, Bool, true, false, eqb, cond, List, [], ◌∷◌, Option, Some, None, refl, sym, ap, subst, ◌∙◌, arith, eq-eqb}
use Rattle.std.specs.List.{Contains, flat_map}
use Rattle.mvo_disk.specs.Disk.{Image, OthersStay}
use Rattle.mvo_frame.specs.declared.segment.Segment.{Segment}
use Rattle.mvo_manifest.specs.Data.{ManifestData, named, pair_files}
use Rattle.mvo_manifest.specs.Rules.{IsManifest}
use Rattle.mvo_recovery.specs.Parts.{Parts}
use Rattle.mvo_recovery.specs.Settled.{IsSettled, other_slot}
use Rattle.mvo_recovery.proofs.Named.{named_is_no_slot, pairs_named, slot_below, last_named}
use Rattle.mvo_recovery.proofs.Pairs.{delta_among}
use Rattle.mvo_recovery.proofs.Framed.{files_stay_others}
use Rattle.mvo_recovery.specs.beside.Seen.{CountsStay}
use Rattle.mvo_recovery.proofs.beside.Seen.{seen_stays, seen_where_counts_stay, seen_beside_install, stays_unnamed}
use Rattle.mvo_store.specs.declared.install.install.Install.{Install as InstallData}
use Rattle.mvo_store.specs.declared.limits.TheConstants.{MAX_GENERATION}
use Rattle.mvo_store.specs.declared.jobs.due.Due.{Due}
use Rattle.mvo_store.specs.declared.jobs.due.Due.TheVariants.{Install}
use Rattle.mvo_store.specs.declared.checkpoint.stage.CheckpointStage.{CheckpointStage}
use Rattle.mvo_store.specs.declared.checkpoint.stage.CheckpointStage.TheVariants.{Data as AtData, Delta as AtDelta, Install as AtInstall}
use Rattle.mvo_store.specs.declared.merge.stage.MergeStage.{MergeStage}
use Rattle.mvo_store.specs.declared.merge.stage.MergeStage.TheVariants.{Data as MergeAtData, Delta as MergeAtDelta}
use Rattle.mvo_store.specs.declared.checkpoint.checkpointing.Checkpointing.{Checkpointing}
use Rattle.mvo_store.specs.declared.checkpoint.checkpoint_job.CheckpointJob.{CheckpointJob}
use Rattle.mvo_store.specs.declared.checkpoint.checkpoint_job.CheckpointJob.TheVariants.{Reading as Reads, Running as Runs}
use Rattle.mvo_store.specs.declared.merge.merging.Merging.{Merging}
use Rattle.mvo_store.specs.declared.merge.merge_job.MergeJob.{MergeJob}
use Rattle.mvo_store.specs.declared.merge.merge_job.MergeJob.TheVariants.{Reading, Running}
use Rattle.mvo_store.specs.declared.merge.seen_pairs.SeenPairs.{SeenPairs}
use Rattle.mvo_store.specs.declared.jobs.jobs.Jobs.{Jobs}
use Rattle.mvo_store.specs.declared.jobs.jobs.Jobs.TheVariants.{Rotation as RotationAlone, Merge as MergeAlone, Beside}
use Rattle.mvo_store.specs.Checkpoint.{gained, made_of, IsCheckpointInto}
use Rattle.mvo_store.specs.Merging.{seen_with, IsMergeWritten}
use Rattle.mvo_store.specs.Jobs.{Job, due_of, merge_due_of, step_due, is_step_of, first_due, job_due, is_of_merge, job_takes_file}
use Rattle.mvo_store.specs.Jobs.Job.{Rotation, Checkpoint, Merge, MergeInstall}
use Rattle.mvo_store.specs.Standing.{IsRunning, IsMergingAt, ShareNoFile}
use Rattle.mvo_store.specs.Writing.{IsFileAt, IsMergeFileAt}
use Rattle.mvo_store.proofs.Numbered.{same_due}
use Rattle.mvo_store.proofs.Working.{IsOfPair, RestsOn, IsNew, keeps_last, written_of_pair, job_framed, records_framed, first_framed, merge_new}

-- ---- the job whose step is due

-- how it stands among those that run
pub data IsDueIn (step : Due) : Jobs → Job → Type 0 where
  TheRotation : (fresh : Segment) (i : InstallData) → Install i.step ≡ step → IsDueIn step (RotationAlone fresh i) (Rotation fresh i)
  TheMerge : (seen : SeenPairs) (placed : ℕ) (i : InstallData) → Install i.step ≡ step → IsDueIn step (MergeAlone seen placed i) (MergeInstall seen placed i)
  TheCheckpoint : (c : Checkpointing) (g : Option MergeJob) → due_of c.stage ≡ step → IsDueIn step (Beside (Some (Runs c)) g) (Checkpoint c)
  OfMerge : (c : Option CheckpointJob) (g : Merging) → merge_due_of g.stage ≡ step → IsDueIn step (Beside c (Some (Running g))) (Merge g)

module _ (step : Due) where
  -- the one of a list
  one_due : (k j : Job) → first_due step (k ∷ []) ≡ Some j → (k ≡ j) × (step_due k ≡ step)
  one_due k j e = go (is_step_of step k) refl e
    where
      go : (b : Bool) → is_step_of step k ≡ b → cond b (Some k) None ≡ Some j → (k ≡ j) × (step_due k ≡ step)
      go true is f = (let same : k ≡ j = cc f in same, same_due (step_due k) step is)
      go false is f = absurd (cc f)

  pub due_in_jobs : (jobs : Jobs) (j : Job) → job_due step jobs ≡ Some j → IsDueIn step jobs j
  due_in_jobs (RotationAlone fresh i) j e = let o = one_due (Rotation fresh i) j e in subst (IsDueIn step (RotationAlone fresh i)) o.0 (TheRotation fresh i o.1)
  due_in_jobs (MergeAlone seen placed i) j e = let o = one_due (MergeInstall seen placed i) j e in subst (IsDueIn step (MergeAlone seen placed i)) o.0 (TheMerge seen placed i o.1)
  due_in_jobs (Beside None None) j e = absurd (cc e)
  due_in_jobs (Beside (Some (Reads r)) None) j e = absurd (cc e)
  due_in_jobs (Beside (Some (Reads r)) (Some (Reading q))) j e = absurd (cc e)
  due_in_jobs (Beside (Some (Reads r)) (Some (Running g))) j e = let o = one_due (Merge g) j e in subst (IsDueIn step (Beside (Some (Reads r)) (Some (Running g)))) o.0 (OfMerge (Some (Reads r)) g o.1)
  due_in_jobs (Beside (Some (Runs c)) None) j e = let o = one_due (Checkpoint c) j e in subst (IsDueIn step (Beside (Some (Runs c)) None)) o.0 (TheCheckpoint c None o.1)
  due_in_jobs (Beside None (Some (Reading r))) j e = absurd (cc e)
  due_in_jobs (Beside (Some (Runs c)) (Some (Reading r))) j e = let o = one_due (Checkpoint c) j e in subst (IsDueIn step (Beside (Some (Runs c)) (Some (Reading r)))) o.0 (TheCheckpoint c (Some (Reading r)) o.1)
  due_in_jobs (Beside None (Some (Running g))) j e = let o = one_due (Merge g) j e in subst (IsDueIn step (Beside None (Some (Running g)))) o.0 (OfMerge None g o.1)
  due_in_jobs (Beside (Some (Runs c)) (Some (Running g))) j e = go (is_step_of step (Checkpoint c)) refl e
    where
      go : (b : Bool) → is_step_of step (Checkpoint c) ≡ b → cond b (Some (Checkpoint c)) (first_due step (Merge g ∷ [])) ≡ Some j → IsDueIn step (Beside (Some (Runs c)) (Some (Running g))) j
      go true is f = let same : Checkpoint c ≡ j = cc f in subst (IsDueIn step (Beside (Some (Runs c)) (Some (Running g)))) same (TheCheckpoint c (Some (Running g)) (same_due (due_of c.stage) step is))
      go false is f = let o = one_due (Merge g) j f in subst (IsDueIn step (Beside (Some (Runs c)) (Some (Running g)))) o.0 (OfMerge (Some (Runs c)) g o.1)

-- a step of a checkpoint is none of a merge
pub checkpoint_step : (stage : CheckpointStage) (step : Due) → due_of stage ≡ step → is_of_merge step ≡ false
checkpoint_step (AtData written) step e = subst (λ (s : Due). is_of_merge s ≡ false) e refl
checkpoint_step (AtDelta written) step e = subst (λ (s : Due). is_of_merge s ≡ false) e refl
checkpoint_step (AtInstall k) step e = subst (λ (s : Due). is_of_merge s ≡ false) e refl

pub merge_step : (stage : MergeStage) (step : Due) → merge_due_of stage ≡ step → is_of_merge step ≡ true
merge_step (MergeAtData written) step e = subst (λ (s : Due). is_of_merge s ≡ true) e refl
merge_step MergeAtDelta step e = subst (λ (s : Due). is_of_merge s ≡ true) e refl

-- ---- files that are apart

has_left : (a b : Bool) → a ≡ true → (a || b) ≡ true
has_left true b e = refl
has_left false b e = absurd (cc e)

has_right : (a b : Bool) → b ≡ true → (a || b) ≡ true
has_right true b e = refl
has_right false b e = e

-- a file of its pair is taken
pub checkpoint_takes : (c : Checkpointing) (n : ℕ) → IsOfPair c.pair n → job_takes_file (Checkpoint c) n ≡ true
checkpoint_takes c n (inl e) = has_left (eqb c.pair.data_file n) (eqb c.pair.delta_file n) (eq-eqb c.pair.data_file n (sym e))
checkpoint_takes c n (inr e) = has_right (eqb c.pair.data_file n) (eqb c.pair.delta_file n) (eq-eqb c.pair.delta_file n (sym e))

pub merge_takes : (g : Merging) (n : ℕ) → IsOfPair g.seen.pair n → job_takes_file (Merge g) n ≡ true
merge_takes g n (inl e) = has_left (eqb g.seen.pair.data_file n) (eqb g.seen.pair.delta_file n) (eq-eqb g.seen.pair.data_file n (sym e))
merge_takes g n (inr e) = has_right (eqb g.seen.pair.data_file n) (eqb g.seen.pair.delta_file n) (eq-eqb g.seen.pair.delta_file n (sym e))

module _ (c : Checkpointing) (g : Merging) (apart : ShareNoFile (Checkpoint c) (Merge g)) where
  -- no file is of both pairs
  pub pairs_apart_here : (n : ℕ) → IsOfPair c.pair n → IsOfPair g.seen.pair n → ⊥
  pairs_apart_here n first second = absurd (cc (sym (merge_takes g n second) ∙ apart n (checkpoint_takes c n first)))

-- ---- a step of a checkpoint leaves the merge

module _ (old new : Image) (may_old may_new : ℕ → List ℕ → Type 0) (m : ManifestData) (x : Parts) (settled : IsSettled old may_old m x) where
  is : IsManifest m
  is = settled.installed.own.is

  module _ (file : ℕ) (rest : OthersStay file old new may_old may_new) where
    -- what it has written is another file
    merge_written_beside : (g : SeenPairs) (stage : MergeStage) → g.pair.data_file ≢ file → IsMergeWritten old may_old g stage → IsMergeWritten new may_new g stage
    merge_written_beside g (MergeAtData zero) ne has = tt
    merge_written_beside g (MergeAtData (suc k)) ne has = first_framed old new may_old may_new (λ n. n ≢ file) (files_stay_others old new may_old may_new (λ n. n ≢ file) file (λ no. no refl) rest) g.pair g.made.records (suc k) ne has
    merge_written_beside g MergeAtDelta ne has = records_framed old new may_old may_new (λ n. n ≢ file) (files_stay_others old new may_old may_new (λ n. n ≢ file) file (λ no. no refl) rest) g.pair g.made.records ne has

    module _ (c : Checkpointing) (g : Merging) (apart : ShareNoFile (Checkpoint c) (Merge g)) (due : IsFileAt m c c.stage file) (has : IsMergingAt old may_old m g) where
      new_files : IsNew m g.seen.pair.data_file × IsNew m g.seen.pair.delta_file
      new_files = merge_new m _ g.seen.pair _ _ has.merge.may_merge

      -- the file of a checkpoint's step is of its pair, or a delta file of the manifest's, or a slot
      data_beside : g.seen.pair.data_file ≢ file
      data_beside e = go c.stage (subst (IsFileAt m c c.stage) (sym e) due)
        where
          go : (stage : CheckpointStage) → IsFileAt m c stage g.seen.pair.data_file → ⊥
          go (AtData written) at = pairs_apart_here c g apart g.seen.pair.data_file (inl at) (inl refl)
          go (AtDelta zero) at = pairs_apart_here c g apart g.seen.pair.data_file (inr at) (inl refl)
          go (AtDelta (suc k)) at = new_files.0.unnamed (pairs_named m g.seen.pair.data_file (subst (Contains (flat_map pair_files m.pairs)) (sym at.file) (delta_among m.pairs at.pair at.among)))
          go (AtInstall step) at = absurd (omega (arith, new_files.0.file.0, at, slot_below (m.generation + 1)))

      -- THE MERGE STANDS beside a step of the checkpoint.
      pub merge_stays : CountsStay m.version old new m.pairs → IsRunning new may_new m x (Merge g)
      merge_stays counts = record {
        work = record {
          merge = record {
            live_left = has.merge.live_left;
            live_right = has.merge.live_right;
            seen = seen_where_counts_stay old new m (seen_with g.seen has.merge.live_left has.merge.live_right) x.lives is settled.installed.parts.live counts has.merge.seen;
            may_merge = has.merge.may_merge;
            records = has.merge.records;
            renumbering = has.merge.renumbering;
            are = has.merge.are;
          };
          written = merge_written_beside g.seen g.stage data_beside has.written;
        };
        install = tt;
      }

    -- ---- a step of a merge leaves the checkpoint

    module _ (c : Checkpointing) (g : Merging) (apart : ShareNoFile (Checkpoint c) (Merge g)) (due : IsMergeFileAt g.seen.pair g.stage file) (has : IsMergingAt old may_old m g) where
      of_merge : IsOfPair g.seen.pair file
      of_merge = go g.stage due
        where
          go : (stage : MergeStage) → IsMergeFileAt g.seen.pair stage file → IsOfPair g.seen.pair file
          go (MergeAtData written) at = inl at
          go MergeAtDelta at = inr at

      file_new : IsNew m file
      file_new = go of_merge
        where
          both : IsNew m g.seen.pair.data_file × IsNew m g.seen.pair.delta_file
          both = merge_new m _ g.seen.pair _ _ has.merge.may_merge

          go : IsOfPair g.seen.pair file → IsNew m file
          go (inl e) = subst (IsNew m) (sym e) both.0
          go (inr e) = subst (IsNew m) (sym e) both.1

      not_rested : RestsOn m (Checkpoint c) file → ⊥
      not_rested (inl on) = pairs_apart_here c g apart file (written_of_pair c.pair c.stage file on) of_merge
      not_rested (inr before) = file_new.unnamed before.0

      no_slot : other_slot m ≢ file
      no_slot e = absurd (omega (arith, e, file_new.file.0, slot_below (m.generation + 1)))

      -- THE CHECKPOINT STANDS beside a step of the merge.
      pub checkpoint_stays : IsRunning old may_old m x (Checkpoint c) → IsRunning new may_new m x (Checkpoint c)
      checkpoint_stays runs = job_framed old new may_old may_new m is x settled.installed.parts x.last (keeps_last old new m x file rest.content (λ last. file_new.unnamed (last_named m last.0 file last.1))) (Checkpoint c) (files_stay_others old new may_old may_new (RestsOn m (Checkpoint c)) file not_rested rest) (rest.content (other_slot m) no_slot) runs

-- ---- the merge beside an install of the checkpoint

module _ (old new : Image) (may_old may_new : ℕ → List ℕ → Type 0) (m : ManifestData) (x : Parts) (settled : IsSettled old may_old m x) (rest : OthersStay (other_slot m) old new may_old may_new) (c : Checkpointing) (g : Merging) (apart : ShareNoFile (Checkpoint c) (Merge g)) (into : IsCheckpointInto old m x c.pair c.made c.next) (few : m.generation < MAX_GENERATION) (has : IsMergingAt old may_old m g) where
  pair_stays : (n : ℕ) → Contains (flat_map pair_files m.pairs) n → new n ≡ old n
  pair_stays n in_pairs = rest.content n (λ e. named_is_no_slot m n settled.installed.own.is (pairs_named m n in_pairs) (omega (arith, e, slot_below (m.generation + 1))))

  -- a file that the merge has taken stays unnamed
  still_unnamed : (n : ℕ) → IsOfPair g.seen.pair n → (Contains (named m) n → ⊥) → Contains (named c.next) n → ⊥
  still_unnamed n of_merge unnamed is_named =
      stays_unnamed m (made_of c.pair c.made into.segment) n into.log.first unnamed (λ e. pairs_apart_here c g apart n (inl e) of_merge) (λ e. pairs_apart_here c g apart n (inr e) of_merge)
      (subst (λ (k : ManifestData). Contains (named k) n) into.next_is is_named)

  generation_is : c.next.generation ≡ m.generation + 1
  generation_is = ap (λ (k : ManifestData). k.generation) into.next_is

  -- THE MERGE RUNS ON.
  pub merge_runs_on : (y : Parts) → IsRunning new may_new c.next y (Merge g)
  merge_runs_on y =
      let saw = seen_with g.seen has.merge.live_left has.merge.live_right in
      let may = has.merge.may_merge in
      record {
        work = record {
          merge = record {
            live_left = has.merge.live_left;
            live_right = has.merge.live_right;
            seen = seen_beside_install new m c.next saw (gained c.made.deltas) c.pair (subst (λ (k : ManifestData). m.version ≤ k.version) (sym into.next_is) (omega arith)) (ap (λ (k : ManifestData). k.pairs) into.next_is) (seen_stays old new m saw pair_stays has.merge.seen);
            may_merge = record {
              generation = omega (arith, generation_is, few);
              lo = may.lo;
              hi = may.hi;
              counted = may.counted;
              few = may.few;
              entries = may.entries;
              data_file = may.data_file;
              delta_file = may.delta_file;
              data_unnamed = still_unnamed g.seen.pair.data_file (inl refl) may.data_unnamed;
              delta_unnamed = still_unnamed g.seen.pair.delta_file (inr refl) may.delta_unnamed;
              two_files = may.two_files;
            };
            records = has.merge.records;
            renumbering = has.merge.renumbering;
            are = has.merge.are;
          };
          written = written_on g.stage has.written;
        };
        install = tt;
      }
    where
      data_no_slot : g.seen.pair.data_file ≢ other_slot m
      data_no_slot e = absurd (omega (arith, e, has.merge.may_merge.data_file.0, slot_below (m.generation + 1)))

      written_on : (stage : MergeStage) → IsMergeWritten old may_old g.seen stage → IsMergeWritten new may_new g.seen stage
      written_on (MergeAtData zero) w = tt
      written_on (MergeAtData (suc k)) w = first_framed old new may_old may_new (λ n. n ≢ other_slot m) (files_stay_others old new may_old may_new (λ n. n ≢ other_slot m) (other_slot m) (λ no. no refl) rest) g.seen.pair g.seen.made.records (suc k) data_no_slot w
      written_on MergeAtDelta w = records_framed old new may_old may_new (λ n. n ≢ other_slot m) (files_stay_others old new may_old may_new (λ n. n ≢ other_slot m) (other_slot m) (λ no. no refl) rest) g.seen.pair g.seen.made.records data_no_slot w
