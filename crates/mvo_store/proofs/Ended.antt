-- The call that writes the last file of a merge: what the store is behind it.
use Rattle.std.proofs.Common.{◌≡◌, ◌≢◌, ◌⊎◌, inl, inr, Bool, true, false, cond, eqb, Some, None, Result, Ok, Err, refl, sym, ap, subst, ◌∙◌, arith}
use Rattle.std.specs.Bool.{OnTrue, OnFalse}
use Rattle.mvo_types.specs.Keys.{Map}
use Rattle.mvo_types.specs.declared.refusal.Refusal.{Refusal}
use Rattle.mvo_types.specs.declared.refusal.Refusal.TheVariants.{DiskFault, OutOfMemory}
use Rattle.mvo_disk.specs.declared.disk.Disk.{Ghosts}
use Rattle.mvo_disk.specs.Disk.{IsHonest}
use Rattle.mvo_pair.specs.Writing.{IsStop, CountsFaults}
use Rattle.mvo_manifest.specs.Data.{ManifestData}
use Rattle.mvo_load.specs.Read.{IsMisread}
use Rattle.mvo_recovery.specs.Parts.{IsLastFile}
use Rattle.mvo_store.specs.declared.jobs.due.Due.TheVariants.{MergeDelta, Install}
use Rattle.mvo_store.specs.declared.install.install_step.InstallStep.TheVariants.{Close, Open}
use Rattle.mvo_store.specs.declared.merge.stage.MergeStage.{MergeStage}
use Rattle.mvo_store.specs.declared.merge.stage.MergeStage.TheVariants.{Data as MergeAtData, Delta as MergeAtDelta}
use Rattle.mvo_store.specs.declared.merge.merging.Merging.{Merging}
use Rattle.mvo_store.specs.declared.merge.merge_job.MergeJob.TheVariants.{Running}
use Rattle.mvo_store.specs.declared.jobs.jobs.Jobs.{Jobs}
use Rattle.mvo_store.specs.declared.jobs.jobs.Jobs.TheVariants.{Merge as MergeAlone, Beside}
use Rattle.mvo_store.specs.StoreData.{StoreData}
use Rattle.mvo_store.specs.Causes.{why_not_merge_delta}
use Rattle.mvo_store.specs.Merging.{merged_at, pair_with}
use Rattle.mvo_store.specs.Jobs.{merge_due_of, step_number, step_due, job_due, with_manifest, next_installed}
use Rattle.mvo_store.specs.Jobs.Job.{Merge, MergeInstall}
use Rattle.mvo_store.specs.Safe.{IsSafeMerge, AreSafe, IsSafe, IsStoreSound}
use Rattle.mvo_store.specs.Standing.{IsUp}
use Rattle.mvo_store.specs.Placing.{places_so_far}
use Rattle.mvo_store.specs.Writing.{IsFileDue, IsMergeFileAt, JobStandsFor, WritesFile, IsEndOf}
use Rattle.mvo_store.specs.Calls.{IsMergeEnded, IsStoreStep}
use Rattle.mvo_store.specs.Calls.{StoreStep}
use Rattle.mvo_store.specs.Calls.StoreStep.{Call}
use Rattle.mvo_store.specs.declared.call.StoreCall.TheVariants.{Step}
use Rattle.mvo_store.proofs.Keeping.{CountsNow, Begins, begins, may_end, slots_as, stays_up, stays_safe, looked_safe, fault_step, misread_step, looked_step, done_step}
use Rattle.mvo_store.proofs.Turning.{ends_alone}
use Rattle.mvo_store.proofs.Changes.{same_changes}
use Rattle.mvo_store.proofs.Olds.{step_stays}
use Rattle.mvo_store.proofs.Dues.{stands_of, step_others, step_leaves, step_slots}
use Rattle.mvo_store.proofs.Looks.{looked_same, misread_count}

-- its delta file comes next
-- the call that writes the last file of a merge
abbrev EndMerge : StoreStep
EndMerge = Call (Step MergeDelta)

last_stage : (stage : MergeStage) → merge_due_of stage ≡ MergeDelta → stage ≡ MergeAtDelta
last_stage (MergeAtData written) e = absurd (cc e)
last_stage MergeAtDelta e = refl

-- no cause refuses the call, and this merge runs alone
pub record EndsAlone {D : Type 0} (d : Ghosts D) (s : StoreData D) : Type 0 where
  pub begins : Begins d s EndMerge
  pub merge : Merging
  pub is : s.jobs ≡ Beside None (Some (Running merge))
  pub at : merge.stage ≡ MergeAtDelta

module _ {D : Type 0} (d : Ghosts D) (s t : StoreData D) (same : s ≡ t) (none : why_not_merge_delta t ≡ None) (invariant : s.down ≡ false → IsStoreSound d s) where
  pub begun : Begins d s EndMerge
  begun = begins d s t EndMerge same none invariant

  -- one runs
  pub runs_alone : (g : Merging) × (s.jobs ≡ Beside None (Some (Running g))) × (merge_due_of g.stage ≡ MergeDelta)
  runs_alone = let may = may_end s begun.none in ends_alone s.jobs may.0 may.1

  -- it is this one
  pub last_at : (merge : Merging) → s.jobs ≡ Beside None (Some (Running merge)) → merge.stage ≡ MergeAtDelta
  last_at merge is =
      let e : Beside None (Some (Running runs_alone.0)) ≡ Beside None (Some (Running merge)) = sym runs_alone.1 ∙ is in
      let it : runs_alone.0 ≡ merge = cc in
      last_stage merge.stage (subst (λ (k : Merging). merge_due_of k.stage ≡ MergeDelta) it runs_alone.2)

  abbrev pub ends_at : (merge : Merging) → s.jobs ≡ Beside None (Some (Running merge)) → EndsAlone d s
  ends_at merge is = record { begins = begun; merge = merge; is = is; at = last_at merge is }

module _ {D : Type 0} {d : Ghosts D} {s : StoreData D} (b : EndsAlone d s) where
  abbrev g : Merging
  g = b.merge

  last_due : job_due MergeDelta s.jobs ≡ Some (Merge g)
  last_due = ap (job_due MergeDelta) b.is ∙ ap (λ (t : Bool). cond t (Some (Merge g)) None) (ap (λ (k : MergeStage). eqb (step_number (merge_due_of k)) (step_number MergeDelta)) b.at)

  pub safe_here : IsSafeMerge s.manifest g
  safe_here = (subst (λ (k : Jobs). AreSafe s.manifest k) b.is b.begins.sound.safe.jobs).0

  pub stands_here : IsHonest (d.moment s.disk) → JobStandsFor d s.disk s.manifest (Merge g)
  stands_here honest = let now = b.begins.sound.up honest in (now.1.parts, stands_of d s MergeDelta (Merge g) last_due now.0 now.1)

  -- it opens no gate
  no_gate : step_due (Merge g) ≢ Install Open
  no_gate e = absurd (cc (sym (ap merge_due_of b.at) ∙ e))

  module _ (new : D) where
    -- the other files are as they were
    last_file : {result : Result ManifestData Refusal} → IsEndOf d s.disk new s.manifest g result → WritesFile d s.disk new (IsFileDue s.manifest (Merge g))
    last_file e = record { file = e.file.file; is = subst (λ (k : MergeStage). IsMergeFileAt g.seen.pair k e.file.file) (sym b.at) e.file.is; rest = e.file.rest }

    -- ---- it is written

    module _ (next : ManifestData) (e : IsEndOf d s.disk new s.manifest g (Ok next)) where
      abbrev alone : Jobs
      alone = MergeAlone g.seen 0 (record { next = next; step = Close })

      abbrev ended : StoreData D
      ended = record s { disk = new; jobs = alone }

      jobs_are : with_manifest next s.jobs ≡ alone
      jobs_are = ap (with_manifest next) b.is

      ended_up : IsHonest (d.moment new) → (rows : Map) → IsUp d s rows → IsUp d ended rows
      ended_up honest rows up =
          let stood = stands_of d s MergeDelta (Merge g) last_due rows up in
          let w = e.writes honest up.parts stood in
          let made = e.ended.makes honest up.parts stood in
          let stands = made.stands no_gate in
          stays_up d s rows up new s.places alone stands.settled (w.rest.content s.segment.file (λ f. w.other (subst (IsLastFile s.manifest) f up.last)))
          (step_stays (d.content s.disk) (d.content new) (d.may_leave s.disk) s.manifest up.parts up.settled made.counts (Merge g) stood.job.work w.file w.is w.rest.content) (stands.job, tt) tt (record { pairs = tt; segment = tt })
          (same_changes s.manifest.pairs up.parts.lives s.jobs alone s.places.at (λ at. sym (ap (λ (k : Jobs). places_so_far (next_installed k) at) b.is)) up.places) (tt, tt) e.count

      ended_safe : IsSafe d ended
      ended_safe = stays_safe b.begins.sound.safe new s.places alone (record { pair = safe_here.pair; within = omega arith; next_is = ap (λ (n : ManifestData). n.generation) e.ended.next_is }, tt) tt (record { pairs = tt; segment = tt }) (tt, tt) e.count

      -- THE STORE IS SOUND WITH THE MERGE'S MANIFEST.
      pub ended_sound : IsStoreSound d (record s { disk = new; jobs = with_manifest next s.jobs })
      ended_sound = subst (λ (k : Jobs). IsStoreSound d (record s { disk = new; jobs = k })) (sym jobs_are) (record {
        safe = ended_safe;
        up = λ honest. let now = b.begins.sound.up (e.honest honest) in (now.0, ended_up honest now.0 now.1);
      })

      makes : IsMergeEnded d s ended
      makes =
          let whole = merged_at s.manifest g.seen.place (pair_with g.seen e.ended.late) in
          record {
            merge = g;
            was = b.is;
            late = e.ended.late;
            are = e.ended.are;
            bytes = e.ended.bytes;
            after = ap (λ (k : Jobs). record s { disk = new; jobs = k }) (ap (λ (n : ManifestData). MergeAlone g.seen 0 (record { next = n; step = Close })) e.ended.next_is ∙ sym (ap (with_manifest whole) b.is));
          }

      pub ended_done : IsStoreStep {A = Unit {0}} d s EndMerge (Ok tt) (record s { disk = new; jobs = with_manifest next s.jobs })
      ended_done = subst (λ (k : Jobs). IsStoreStep {A = Unit {0}} d s EndMerge (Ok tt) (record s { disk = new; jobs = k })) (sym jobs_are)
          (done_step b.begins ended e.honest (step_leaves d s MergeDelta (Merge g) last_due new e.writes) (step_slots d s MergeDelta (Merge g) last_due new e.writes (MergeInstall g.seen 0 (record { next = next; step = Close })) e.ended.makes)
          (step_others d s MergeDelta (Merge g) last_due ended (last_file e)) tt makes e.count ended_up)

    -- ---- it is refused

    module _ (refusal : Refusal) (e : IsEndOf d s.disk new s.manifest g (Err refusal)) (down : Bool) where
      -- want of memory is no fault
      no_fault : refusal ≡ OutOfMemory → d.fault_count new ≡ d.fault_count s.disk
      no_fault is = subst (λ (k : Refusal). CountsFaults {X = Unit {0}} (d.fault_count s.disk) (d.fault_count new) (Err k)) is e.count

      at_memory : refusal ≡ OutOfMemory → IsStoreStep {A = Unit {0}} d s EndMerge (Err refusal) (record s { disk = new })
      at_memory is =
          let rest = e.memory is in
          subst (λ (k : Refusal). IsStoreStep {A = Unit {0}} d s EndMerge (Err k) (record s { disk = new })) (sym is)
          (looked_step b.begins (record s { disk = new }) e.honest (step_leaves d s MergeDelta (Merge g) last_due new e.writes)
          (λ _ rows up. slots_as (d.content s.disk) (d.content new) (rest.content 0) (rest.content 1)) (step_others d s MergeDelta (Merge g) last_due (record s { disk = new }) (last_file e))
          (inl refl) (record { after = refl; no_fault = no_fault is }) (λ _. looked_same b.begins new rest (no_fault is)))

      at_fault : CountsNow d → refusal ≡ DiskFault → IsStoreStep {A = Unit {0}} d s EndMerge (Err refusal) (record s { disk = new; down = true })
      at_fault counts_now is = fault_step b.begins counts_now new refusal is (inr (inl refl)) (subst (λ (k : Refusal). CountsFaults {X = Unit {0}} (d.fault_count s.disk) (d.fault_count new) (Err k)) is e.count) e.honest
          (step_leaves d s MergeDelta (Merge g) last_due new e.writes) (step_others d s MergeDelta (Merge g) last_due (record s { disk = new; down = true }) (last_file e))

      at_misread : IsMisread refusal → IsStoreStep {A = Unit {0}} d s EndMerge (Err refusal) (record s { disk = new; down = true })
      at_misread is = misread_step b.begins new refusal is (inr (inr is)) (misread_count (d.fault_count s.disk) (d.fault_count new) refusal is e.count) (e.lied is)
          (step_others d s MergeDelta (Merge g) last_due (record s { disk = new; down = true }) (last_file e))

      pub end_refused : CountsNow d → OnTrue down (refusal ≢ OutOfMemory) → OnFalse down (refusal ≡ OutOfMemory) → IsStoreStep {A = Unit {0}} d s EndMerge (Err refusal) (record s { disk = new; down = down })
      end_refused counts_now = go down
        where
          same : (t : Bool) → t ≡ s.down → ◌≡◌ {A = StoreData D} (record s { disk = new }) (record s { disk = new; down = t })
          same t is = ap (λ (k : Bool). record s { disk = new; down = k }) (sym is)

          go : (t : Bool) → OnTrue t (refusal ≢ OutOfMemory) → OnFalse t (refusal ≡ OutOfMemory) → IsStoreStep {A = Unit {0}} d s EndMerge (Err refusal) (record s { disk = new; down = t })
          go true ne is = why e.why
            where
              why : IsStop refusal ⊎ IsMisread refusal → IsStoreStep {A = Unit {0}} d s EndMerge (Err refusal) (record s { disk = new; down = true })
              why (inl (inl memory)) = absurd (ne memory)
              why (inl (inr fault)) = at_fault counts_now fault
              why (inr broken) = at_misread broken
          go false ne is = subst (λ (t : StoreData D). IsStoreStep {A = Unit {0}} d s EndMerge (Err refusal) t) (same false (sym b.begins.up)) (at_memory is)

      -- the store stands as it did, unless it is down
      pub end_still : OnFalse down (refusal ≡ OutOfMemory) → down ≡ false → IsStoreSound d (record s { disk = new; down = down })
      end_still = go down
        where
          go : (t : Bool) → OnFalse t (refusal ≡ OutOfMemory) → t ≡ false → IsStoreSound d (record s { disk = new; down = t })
          go true is up = absurd (cc up)
          go false is up = subst (λ (t : StoreData D). IsStoreSound d t) (ap (λ (k : Bool). record s { disk = new; down = k }) b.begins.up) (record {
            safe = looked_safe b.begins.sound.safe new (no_fault is);
            up = λ honest. let now = b.begins.sound.up (e.honest honest) in (now.0, looked_same b.begins new (e.memory is) (no_fault is) now.0 now.1);
          })
