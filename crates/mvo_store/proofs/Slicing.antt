-- A slice of the data file of a job: what is written, and the job behind it.
use Rattle.std.proofs.Common.{◌≡◌, ℕ, zero, suc, ◌<◌, ◌≤◌, Bool, true, false, cond, eqb, ltb, List, [], ◌∷◌, length, take, Option, Some, None, All, Ok, Err, refl, sym, ap, subst, ◌∙◌, arith}
use Rattle.std.specs.Prelude.{⊤}
use Rattle.std.proofs.lemmas.Bool.{ltb-false}
use Rattle.std.proofs.lemmas.List.{append-nil, take_all}
use Rattle.mvo_types.specs.declared.refusal.Refusal.{Refusal}
use Rattle.mvo_types.specs.declared.refusal.Refusal.TheVariants.{NothingToDo}
use Rattle.mvo_disk.specs.declared.disk.Disk.{Ghosts}
use Rattle.mvo_disk.specs.Disk.{Image, OthersStay, Touched, LeavesOnly, Only, IsHonest}
use Rattle.mvo_format.specs.declared.format.TheConstants.{LAST_FORMAT}
use Rattle.mvo_frame.specs.declared.segment.Segment.{Segment}
use Rattle.mvo_pair.specs.declared.pair.Pair.{Pair}
use Rattle.mvo_pair.specs.Data.{EntryData}
use Rattle.mvo_pair.specs.Files.{AreEntries, HasRowWords, data_bytes}
use Rattle.mvo_pair.specs.Slices.{HasFirst, with_slice}
use Rattle.mvo_pair.specs.Writing.{IsWriteRefusal}
use Rattle.mvo_manifest.specs.Data.{ManifestData}
use Rattle.mvo_recovery.specs.Parts.{Parts}
use Rattle.mvo_recovery.specs.Merging.{HasRecords}
use Rattle.mvo_store.specs.declared.install.install.Install.{Install as InstallData}
use Rattle.mvo_store.specs.declared.install.install_step.InstallStep.{InstallStep}
use Rattle.mvo_store.specs.declared.install.install_step.InstallStep.TheVariants.{Close, Body, Open}
use Rattle.mvo_store.specs.declared.jobs.due.Due.TheVariants.{Data, MergeData, Install}
use Rattle.mvo_store.specs.declared.jobs.jobs.Jobs.TheVariants.{Rotation as RotationAlone, Merge as MergeAlone, Beside}
use Rattle.mvo_store.specs.declared.checkpoint.checkpointing.Checkpointing.{Checkpointing}
use Rattle.mvo_store.specs.declared.checkpoint.checkpoint_job.CheckpointJob.{CheckpointJob}
use Rattle.mvo_store.specs.declared.checkpoint.checkpoint_job.CheckpointJob.TheVariants.{Reading as Reads, Running as Runs}
use Rattle.mvo_store.specs.declared.checkpoint.reading.CheckpointReading.{CheckpointReading}
use Rattle.mvo_store.specs.declared.checkpoint.stage.CheckpointStage.{CheckpointStage}
use Rattle.mvo_store.specs.declared.checkpoint.stage.CheckpointStage.TheVariants.{Data as AtData, Delta as AtDelta, Install as AtInstall}
use Rattle.mvo_store.specs.declared.merge.stage.MergeStage.{MergeStage}
use Rattle.mvo_store.specs.declared.merge.stage.MergeStage.TheVariants.{Data as MergeAtData, Delta as MergeAtDelta}
use Rattle.mvo_store.specs.declared.merge.merging.Merging.{Merging}
use Rattle.mvo_store.specs.declared.merge.merge_job.MergeJob.{MergeJob}
use Rattle.mvo_store.specs.declared.merge.merge_job.MergeJob.TheVariants.{Reading, Running}
use Rattle.mvo_store.specs.declared.merge.seen_pairs.SeenPairs.{SeenPairs}
use Rattle.mvo_store.specs.declared.merge.reading.MergeReading.{MergeReading}
use Rattle.mvo_store.specs.Checkpoint.{made_of, IsWrittenUpTo}
use Rattle.mvo_store.specs.Merging.{IsMergeWritten}
use Rattle.mvo_store.specs.Slices.{HasFirstRecords, HasAnyFirst}
use Rattle.mvo_store.specs.Jobs.{Job, step_number, due_of, merge_due_of, first_due, job_due, is_step_of, merge_alone, slice_end_at, merge_slice_end_at, checkpoint_upto, merge_upto}
use Rattle.mvo_store.specs.Jobs.Job.{Rotation, Checkpoint, Merge, MergeInstall}
use Rattle.mvo_store.specs.Standing.{HasWork, IsRunning}
use Rattle.mvo_store.specs.Writing.{IsFileDue, StandsWith, WritesFile, WritesFor, IsStepTo, IsDueSlice}
use Rattle.mvo_store.proofs.Unwritten.{unwritten, merge_unwritten, IsSeenAs, checkpoint_as, merge_as, writes_as, made_as}
use Rattle.mvo_store.proofs.Written.{FillsNew, fill_writes, fill_makes, data_fills, merged_data_fills}

-- ---- the records that are written

pub any_first : (content : Image) (may : ℕ → List ℕ → Type 0) (p : Pair) (es : List EntryData) (count : ℕ) → HasFirstRecords content may p es count → HasAnyFirst content may p es count
any_first content may p es zero has = tt
any_first content may p es (suc count) has = has

pub some_first : (content : Image) (may : ℕ → List ℕ → Type 0) (p : Pair) (es : List EntryData) (count : ℕ) → 0 < count → HasAnyFirst content may p es count → HasFirstRecords content may p es count
some_first content may p es zero some has = absurd (omega (arith, some))
some_first content may p es (suc count) some has = has

-- all of them are the file
all_first : (content : Image) (may : ℕ → List ℕ → Type 0) (p : Pair) (es : List EntryData) (count : ℕ) → length es ≤ count → AreEntries LAST_FORMAT p.lo.0 p.hi.0 es → HasFirstRecords content may p es count → HasRecords LAST_FORMAT content may p es
all_first content may p es count le are has =
    let all : take count es ≡ es = take_all count es le in
    record {
      has = record {
        rest = [];
        whole = has.has.whole ∙ ap (λ (l : List EntryData). data_bytes LAST_FORMAT.version l) all ∙ sym (append-nil (data_bytes LAST_FORMAT.version es));
        counted = refl;
        are = are;
        words = subst (All HasRowWords) all has.has.words;
      };
      durable = has.durable;
    }

-- ---- the file that is filled

module _ {D : Type 0} (d : Ghosts D) (old new : D) (m : ManifestData) where
  pub slice_fills : (c : Checkpointing) (upto : ℕ) → FillsNew d old new m (Checkpoint (unwritten c)) (Checkpoint (checkpoint_upto upto c)) c.pair.data_file (HasFirstRecords (d.content new) (d.may_leave new) c.pair c.made.records upto)
  slice_fills c upto = record {
    due = refl;
    takes = tt;
    is = λ x w. (data_fills d old new m c).is x w;
    goes_on = λ x _ w has. go x w has (ltb upto (length c.made.records)) refl;
  }
    where
      go : (x : Parts) → HasWork (d.content new) (d.may_leave new) m x (Checkpoint (unwritten c)) → HasFirstRecords (d.content new) (d.may_leave new) c.pair c.made.records upto → (b : Bool) → ltb upto (length c.made.records) ≡ b
          → IsRunning (d.content new) (d.may_leave new) m x (Checkpoint (record c { stage = cond b (AtData upto) (AtDelta 0) }))
      go x w has true is = record { work = record { into = w.into; have = w.have; written = any_first (d.content new) (d.may_leave new) c.pair c.made.records upto has }; install = tt }
      go x w has false is =
          let whole = all_first (d.content new) (d.may_leave new) c.pair c.made.records upto (ltb-false upto (length c.made.records) is) w.into.are has in
          record { work = record { into = w.into; have = w.have; written = record { few = omega arith; entries = record { has = whole.has; durable = whole.durable }; delta = λ lt. absurd (omega (arith, lt)) } }; install = tt }

  pub merge_slice_fills : (g : Merging) (upto : ℕ) → FillsNew d old new m (Merge (merge_unwritten g)) (Merge (merge_upto upto g)) g.seen.pair.data_file (HasFirstRecords (d.content new) (d.may_leave new) g.seen.pair g.seen.made.records upto)
  merge_slice_fills g upto = record {
    due = refl;
    takes = tt;
    is = λ x w. (merged_data_fills d old new m g).is x w;
    goes_on = λ x _ w has. go x w has (ltb upto (length g.seen.made.records)) refl;
  }
    where
      go : (x : Parts) → HasWork (d.content new) (d.may_leave new) m x (Merge (merge_unwritten g)) → HasFirstRecords (d.content new) (d.may_leave new) g.seen.pair g.seen.made.records upto → (b : Bool) → ltb upto (length g.seen.made.records) ≡ b
          → IsRunning (d.content new) (d.may_leave new) m x (Merge (record g { stage = cond b (MergeAtData upto) MergeAtDelta }))
      go x w has true is = record { work = record { merge = w.merge; written = any_first (d.content new) (d.may_leave new) g.seen.pair g.seen.made.records upto has }; install = tt }
      go x w has false is = record { work = record { merge = w.merge; written = all_first (d.content new) (d.may_leave new) g.seen.pair g.seen.made.records upto (ltb-false upto (length g.seen.made.records) is) w.merge.are has }; install = tt }

-- ---- a job that fills it, seen as another

module _ {D : Type 0} (d : Ghosts D) (old new : D) (m : ManifestData) (j k behind : Job) (seen : IsSeenAs d old m j k) (file : ℕ) (Holds : Type 0) (fills : FillsNew d old new m k behind file Holds) (was : IsHonest (d.moment new) → IsHonest (d.moment old)) (rest : OthersStay file (d.content old) (d.content new) (d.may_leave old) (d.may_leave new))
    (touched : (x : Parts) → StandsWith d old m x j → LeavesOnly d.moment d.left_since old new (Touched file (d.may_leave old) (λ _. ⊤))) where
  as_writes : WritesFor d old new m j
  as_writes x s = writes_as d old new m j k behind seen x s (fill_writes d old new m k behind file Holds fills rest (touched x s) x (seen.stands x s))

  as_file : WritesFile d old new (IsFileDue m j)
  as_file = record { file = file; is = seen.file file fills.due; rest = rest }

  pub as_done : d.fault_count new ≡ d.fault_count old → (IsHonest (d.moment new) → Holds) → IsStepTo d old new m j behind (Ok tt)
  as_done count holds = record {
    honest = was;
    file = λ _. as_file;
    writes = λ _. as_writes;
    makes = λ honest x s. made_as d old new m j k behind seen x (fill_makes d old new m k behind file Holds fills rest (holds honest) x (seen.stands x s));
    count = count;
    refused = tt;
  }

  pub as_refused : (e : Refusal) → IsWriteRefusal d.fault_count old new e → IsStepTo d old new m j j (Err e)
  as_refused e refusal = record {
    honest = was;
    file = λ _. as_file;
    writes = λ _. as_writes;
    makes = tt;
    count = tt;
    refused = record { refusal = refusal; memory = λ _. seen.takes };
  }

-- ---- a slice of a checkpoint, and of a merge

module _ {D : Type 0} (d : Ghosts D) (old new : D) (m : ManifestData) (c : Checkpointing) (written : ℕ) (at : c.stage ≡ AtData written) where
  -- it is due
  slice_due : first_due Data (Checkpoint c ∷ []) ≡ Some (Checkpoint c)
  slice_due = ap (λ (stage : CheckpointStage). cond (eqb (step_number (due_of stage)) (step_number Data)) (Some (Checkpoint c)) None) at

  -- what is written stands
  written_here : (x : Parts) → StandsWith d old m x (Checkpoint c) → 0 < written → HasFirstRecords (d.content old) (d.may_leave old) c.pair c.made.records written
  written_here x s some = some_first (d.content old) (d.may_leave old) c.pair c.made.records written some (subst (IsWrittenUpTo (d.content old) (d.may_leave old) (made_of c.pair c.made s.job.work.into.segment) (length c.made.deltas)) at s.job.work.written)

  pub first_here : (x : Parts) → StandsWith d old m x (Checkpoint c) → 0 < written → HasFirst LAST_FORMAT c.made.records written (d.content old c.pair.data_file)
  first_here x s some = (written_here x s some).has

  module _ (was : IsHonest (d.moment new) → IsHonest (d.moment old)) (rest : OthersStay c.pair.data_file (d.content old) (d.content new) (d.may_leave old) (d.may_leave new))
      (touched : (0 < written → Only (d.content old c.pair.data_file) (d.may_leave old c.pair.data_file)) → LeavesOnly d.moment d.left_since old new (Touched c.pair.data_file (d.may_leave old) (λ _. ⊤))) where
    touched_here : (x : Parts) → StandsWith d old m x (Checkpoint c) → LeavesOnly d.moment d.left_since old new (Touched c.pair.data_file (d.may_leave old) (λ _. ⊤))
    touched_here x s = touched (λ some. (written_here x s some).durable)

    -- THE SLICE IS WRITTEN.
    pub slice_written : (upto : ℕ) → upto ≡ with_slice c.made.records written → d.fault_count new ≡ d.fault_count old → (IsHonest (d.moment new) → HasFirst LAST_FORMAT c.made.records upto (d.content new c.pair.data_file)) → Only (d.content new c.pair.data_file) (d.may_leave new c.pair.data_file)
        → IsDueSlice d old new m (first_due Data (Checkpoint c ∷ [])) (Ok upto)
    slice_written upto is count has only = subst (λ (o : Option Job). IsDueSlice d old new m o (Ok upto)) (sym slice_due) (
      is ∙ sym (ap (slice_end_at c.made.records) at),
      as_done d old new m (Checkpoint c) (Checkpoint (unwritten c)) (Checkpoint (checkpoint_upto upto c)) (checkpoint_as d old m c written at) c.pair.data_file _ (slice_fills d old new m c upto) was rest touched_here count (λ honest. record { has = has honest; durable = only }),
    )

    -- it is refused
    pub slice_stopped : (e : Refusal) → IsWriteRefusal d.fault_count old new e → IsDueSlice d old new m (first_due Data (Checkpoint c ∷ [])) (Err e)
    slice_stopped e refusal = subst (λ (o : Option Job). IsDueSlice d old new m o (Err e)) (sym slice_due)
        (as_refused d old new m (Checkpoint c) (Checkpoint (unwritten c)) (Checkpoint (checkpoint_upto 0 c)) (checkpoint_as d old m c written at) c.pair.data_file _ (slice_fills d old new m c 0) was rest touched_here e refusal)

module _ {D : Type 0} (d : Ghosts D) (old new : D) (m : ManifestData) (g : Merging) (written : ℕ) (at : g.stage ≡ MergeAtData written) where
  merge_slice_due : first_due MergeData (Merge g ∷ []) ≡ Some (Merge g)
  merge_slice_due = ap (λ (stage : MergeStage). cond (eqb (step_number (merge_due_of stage)) (step_number MergeData)) (Some (Merge g)) None) at

  merge_written_here : (x : Parts) → StandsWith d old m x (Merge g) → 0 < written → HasFirstRecords (d.content old) (d.may_leave old) g.seen.pair g.seen.made.records written
  merge_written_here x s some = some_first (d.content old) (d.may_leave old) g.seen.pair g.seen.made.records written some (subst (IsMergeWritten (d.content old) (d.may_leave old) g.seen) at s.job.work.written)

  pub merge_first_here : (x : Parts) → StandsWith d old m x (Merge g) → 0 < written → HasFirst LAST_FORMAT g.seen.made.records written (d.content old g.seen.pair.data_file)
  merge_first_here x s some = (merge_written_here x s some).has

  module _ (was : IsHonest (d.moment new) → IsHonest (d.moment old)) (rest : OthersStay g.seen.pair.data_file (d.content old) (d.content new) (d.may_leave old) (d.may_leave new))
      (touched : (0 < written → Only (d.content old g.seen.pair.data_file) (d.may_leave old g.seen.pair.data_file)) → LeavesOnly d.moment d.left_since old new (Touched g.seen.pair.data_file (d.may_leave old) (λ _. ⊤))) where
    merge_touched_here : (x : Parts) → StandsWith d old m x (Merge g) → LeavesOnly d.moment d.left_since old new (Touched g.seen.pair.data_file (d.may_leave old) (λ _. ⊤))
    merge_touched_here x s = touched (λ some. (merge_written_here x s some).durable)

    pub merge_slice_written : (upto : ℕ) → upto ≡ with_slice g.seen.made.records written → d.fault_count new ≡ d.fault_count old → (IsHonest (d.moment new) → HasFirst LAST_FORMAT g.seen.made.records upto (d.content new g.seen.pair.data_file)) → Only (d.content new g.seen.pair.data_file) (d.may_leave new g.seen.pair.data_file)
        → IsDueSlice d old new m (first_due MergeData (Merge g ∷ [])) (Ok upto)
    merge_slice_written upto is count has only = subst (λ (o : Option Job). IsDueSlice d old new m o (Ok upto)) (sym merge_slice_due) (
      is ∙ sym (ap (merge_slice_end_at g.seen.made.records) at),
      as_done d old new m (Merge g) (Merge (merge_unwritten g)) (Merge (merge_upto upto g)) (merge_as d old m g written at) g.seen.pair.data_file _ (merge_slice_fills d old new m g upto) was rest merge_touched_here count (λ honest. record { has = has honest; durable = only }),
    )

    pub merge_slice_stopped : (e : Refusal) → IsWriteRefusal d.fault_count old new e → IsDueSlice d old new m (first_due MergeData (Merge g ∷ [])) (Err e)
    merge_slice_stopped e refusal = subst (λ (o : Option Job). IsDueSlice d old new m o (Err e)) (sym merge_slice_due)
        (as_refused d old new m (Merge g) (Merge (merge_unwritten g)) (Merge (merge_upto 0 g)) (merge_as d old m g written at) g.seen.pair.data_file _ (merge_slice_fills d old new m g 0) was rest merge_touched_here e refusal)

-- ---- the job whose data file is due

no_merge : (g : Option MergeJob) → first_due Data (merge_alone g) ≡ None
no_merge None = refl
no_merge (Some (Reading r)) = refl
no_merge (Some (Running g)) = go g.stage
  where
    go : (stage : MergeStage) → cond (eqb (step_number (merge_due_of stage)) (step_number Data)) (Some (Merge g)) None ≡ None
    go (MergeAtData written) = refl
    go MergeAtDelta = refl

no_checkpoint : (stage : CheckpointStage) → eqb (step_number (due_of stage)) (step_number MergeData) ≡ false
no_checkpoint (AtData written) = refl
no_checkpoint (AtDelta written) = refl
no_checkpoint (AtInstall Close) = refl
no_checkpoint (AtInstall Body) = refl
no_checkpoint (AtInstall Open) = refl

-- a checkpoint's
pub data_due : (c : Checkpointing) (g : Option MergeJob) → job_due Data (Beside (Some (Runs c)) g) ≡ first_due Data (Checkpoint c ∷ [])
data_due c g = ap (λ (o : Option Job). cond (is_step_of Data (Checkpoint c)) (Some (Checkpoint c)) o) (no_merge g)

pub no_data_due : (g : Option MergeJob) → job_due Data (Beside None g) ≡ None
no_data_due g = no_merge g

pub no_data_read : (r : CheckpointReading) (g : Option MergeJob) → job_due Data (Beside (Some (Reads r)) g) ≡ None
no_data_read r g = no_merge g

-- a merge's
pub merge_data_due : (c : Option CheckpointJob) (g : Merging) → job_due MergeData (Beside c (Some (Running g))) ≡ first_due MergeData (Merge g ∷ [])
merge_data_due None g = refl
merge_data_due (Some (Reads r)) g = refl
merge_data_due (Some (Runs c)) g = ap (λ b. cond b (Some (Checkpoint c)) (first_due MergeData (Merge g ∷ []))) (no_checkpoint c.stage)

pub no_merge_data_due : (c : Option CheckpointJob) → job_due MergeData (Beside c None) ≡ None
no_merge_data_due None = refl
no_merge_data_due (Some (Reads r)) = refl
no_merge_data_due (Some (Runs c)) = ap (λ b. cond b (Some (Checkpoint c)) None) (no_checkpoint c.stage)

pub no_merge_data_read : (c : Option CheckpointJob) (r : MergeReading) → job_due MergeData (Beside c (Some (Reading r))) ≡ None
no_merge_data_read None r = refl
no_merge_data_read (Some (Reads q)) r = refl
no_merge_data_read (Some (Runs c)) r = ap (λ b. cond b (Some (Checkpoint c)) None) (no_checkpoint c.stage)

-- none of those that run alone
install_number : (k : InstallStep) → (eqb (step_number (Install k)) (step_number Data) ≡ false) × (eqb (step_number (Install k)) (step_number MergeData) ≡ false)
install_number Close = (refl, refl)
install_number Body = (refl, refl)
install_number Open = (refl, refl)

pub data_of_rotation : (fresh : Segment) (i : InstallData) → job_due Data (RotationAlone fresh i) ≡ None
data_of_rotation fresh i = ap (λ b. cond b (Some (Rotation fresh i)) None) (install_number i.step).0

pub merge_data_of_rotation : (fresh : Segment) (i : InstallData) → job_due MergeData (RotationAlone fresh i) ≡ None
merge_data_of_rotation fresh i = ap (λ b. cond b (Some (Rotation fresh i)) None) (install_number i.step).1

pub data_of_merge : (seen : SeenPairs) (placed : ℕ) (i : InstallData) → job_due Data (MergeAlone seen placed i) ≡ None
data_of_merge seen placed i = ap (λ b. cond b (Some (MergeInstall seen placed i)) None) (install_number i.step).0

pub merge_data_of_merge : (seen : SeenPairs) (placed : ℕ) (i : InstallData) → job_due MergeData (MergeAlone seen placed i) ≡ None
merge_data_of_merge seen placed i = ap (λ b. cond b (Some (MergeInstall seen placed i)) None) (install_number i.step).1

-- nothing is due, and nothing is done
pub none_due : {D : Type 0} (d : Ghosts D) (disk : D) (m : ManifestData) (o : Option Job) → o ≡ None → IsDueSlice d disk disk m o (Err NothingToDo)
none_due d disk m o is = subst (λ (k : Option Job). IsDueSlice d disk disk m k (Err NothingToDo)) (sym is) (refl, refl)
