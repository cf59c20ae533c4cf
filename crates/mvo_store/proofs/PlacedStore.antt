-- A slice of the changes of places that a job makes: the store behind it.
use Rattle.std.proofs.Common.{◌≡◌, ℕ, ◌+◌, ◌-◌, ◌≤◌, Bool, true, false, cond, ltb, List, length, Some, None, Ok, refl, sym, subst, arith}
use Rattle.std.specs.List.{AllByRecursion}
use Rattle.std.proofs.lemmas.Bool.{ltb-true}
use Rattle.mvo_types.specs.Keys.{Map}
use Rattle.mvo_disk.specs.declared.disk.Disk.{Ghosts}
use Rattle.mvo_disk.specs.Disk.{Image}
use Rattle.mvo_manifest.specs.Data.{ManifestData}
use Rattle.mvo_places.specs.Places.{PlaceMap, PlaceTable}
use Rattle.mvo_merge.specs.Moved.{HaveOwnKeys}
use Rattle.mvo_merge.proofs.Kept.{own_keys}
use Rattle.mvo_recovery.specs.Parts.{Parts}
use Rattle.mvo_store.specs.declared.limits.TheConstants.{PLACES_A_SLICE}
use Rattle.mvo_store.specs.declared.checkpoint.checkpoint_job.CheckpointJob.TheVariants.{Reading as Reads, Running as Runs}
use Rattle.mvo_store.specs.declared.merge.merge_job.MergeJob.TheVariants.{Reading, Running}
use Rattle.mvo_store.specs.declared.jobs.jobs.Jobs.{Jobs}
use Rattle.mvo_store.specs.declared.jobs.jobs.Jobs.TheVariants.{Rotation as RotationAlone, Merge as MergeAlone, Beside}
use Rattle.mvo_store.specs.StoreData.{StoreData}
use Rattle.mvo_store.specs.Jobs.{Job, jobs_of, next_installed}
use Rattle.mvo_store.specs.Jobs.Job.{Rotation, Checkpoint, Merge, MergeInstall}
use Rattle.mvo_store.specs.Placing.{change_count, changes_behind, checkpoint_placed, with_places, places_so_far}
use Rattle.mvo_store.specs.Standing.{IsRunning, HaveJobs, ShareNone, JobsHaveRoom, IsUp, MayTakeOverOf, HaveKeysOf}
use Rattle.mvo_store.specs.PairsRead.{IsSafeReading, HasReading}
use Rattle.mvo_store.specs.SegmentRead.{oldest_file}
use Rattle.mvo_store.specs.Safe.{IsSafeWork, AreSafe, IsStoreSound}
use Rattle.mvo_store.specs.Calls.{IsStoreStep}
use Rattle.mvo_store.specs.Calls.StoreStep.{Place}
use Rattle.mvo_store.proofs.Keeping.{OnlyNow, Begins, stays_up, stays_safe, still_leaves, all_others, done_step}
use Rattle.mvo_store.proofs.Changes.{place_reads}
use Rattle.mvo_store.proofs.Segments.{segment_placed, safe_placed_segment}
use Rattle.mvo_store.proofs.Dues.{safe_take_over}

-- ---- how many are made

-- no more than there are
pub end_most : (placed all : ℕ) → changes_behind placed all ≤ all
end_most placed all = go (ltb PLACES_A_SLICE (all - placed)) refl
  where
    go : (b : Bool) → ltb PLACES_A_SLICE (all - placed) ≡ b → cond b (placed + PLACES_A_SLICE) all ≤ all
    go true is = omega (arith, ltb-true PLACES_A_SLICE (all - placed) is)
    go false is = omega arith

-- and those that were
pub end_least : (placed all : ℕ) → placed ≤ all → placed ≤ changes_behind placed all
end_least placed all le = go (ltb PLACES_A_SLICE (all - placed))
  where
    go : (b : Bool) → placed ≤ cond b (placed + PLACES_A_SLICE) all
    go true = omega arith
    go false = le

-- ---- the jobs

-- a job with a slice more
abbrev placed_job : Job → Job
placed_job (Rotation fresh i) = Rotation fresh i
placed_job (Checkpoint c) = Checkpoint (checkpoint_placed c)
placed_job (Merge g) = Merge g
placed_job (MergeInstall g placed i) = MergeInstall g (changes_behind placed (length g.made.records)) i

all_placed : (P Q : Job → Type 0) → ((j : Job) → P j → Q (placed_job j)) → (jobs : Jobs) → AllByRecursion P (jobs_of jobs) → AllByRecursion Q (jobs_of (with_places jobs))
all_placed P Q each (RotationAlone fresh i) all = (each (Rotation fresh i) all.0, tt)
all_placed P Q each (MergeAlone seen placed i) all = (each (MergeInstall seen placed i) all.0, tt)
all_placed P Q each (Beside None None) all = tt
all_placed P Q each (Beside None (Some (Reading r))) all = tt
all_placed P Q each (Beside (Some (Reads q)) None) all = tt
all_placed P Q each (Beside (Some (Reads q)) (Some (Reading r))) all = tt
all_placed P Q each (Beside (Some (Reads q)) (Some (Running g))) all = (each (Merge g) all.0, tt)
all_placed P Q each (Beside (Some (Runs c)) (Some (Reading r))) all = (each (Checkpoint c) all.0, tt)
all_placed P Q each (Beside None (Some (Running g))) all = (each (Merge g) all.0, tt)
all_placed P Q each (Beside (Some (Runs c)) None) all = (each (Checkpoint c) all.0, tt)
all_placed P Q each (Beside (Some (Runs c)) (Some (Running g))) all = (each (Checkpoint c) all.0, (each (Merge g) all.1.0, tt))

-- what it has written stands
placed_runs : (content : Image) (may : ℕ → List ℕ → Type 0) (m : ManifestData) (x : Parts) (j : Job) → IsRunning content may m x j → IsRunning content may m x (placed_job j)
placed_runs content may m x (Rotation fresh i) runs = runs
placed_runs content may m x (Checkpoint c) runs = record { work = record { into = runs.work.into; have = runs.work.have; written = runs.work.written }; install = runs.install }
placed_runs content may m x (Merge g) runs = runs
placed_runs content may m x (MergeInstall g placed i) runs = record { work = runs.work; install = runs.install }

placed_safe : (m : ManifestData) (j : Job) → IsSafeWork m j → IsSafeWork m (placed_job j)
placed_safe m (Rotation fresh i) safe = safe
placed_safe m (Checkpoint c) safe = record { generation = safe.generation; pair = safe.pair; known = safe.known; within = safe.within; among = safe.among; placed = end_most c.placed (change_count c.made); next_is = safe.next_is }
placed_safe m (Merge g) safe = safe
placed_safe m (MergeInstall g placed i) safe = record { pair = safe.pair; within = end_most placed (length g.made.records); next_is = safe.next_is }

share_placed : (jobs : Jobs) → ShareNone jobs → ShareNone (with_places jobs)
share_placed (RotationAlone fresh i) apart = tt
share_placed (MergeAlone seen placed i) apart = tt
share_placed (Beside None g) apart = tt
share_placed (Beside (Some (Reads q)) g) apart = tt
share_placed (Beside (Some (Runs c)) None) apart = tt
share_placed (Beside (Some (Runs c)) (Some (Reading r))) apart = tt
share_placed (Beside (Some (Runs c)) (Some (Running g))) apart = apart

-- the places of what it installs may be put
may_place : (m : ManifestData) (places : PlaceTable) (jobs : Jobs) → AreSafe m jobs → JobsHaveRoom places jobs → MayTakeOverOf places (next_installed jobs)
may_place m places (RotationAlone fresh i) safe room = tt
may_place m places (MergeAlone seen placed i) safe room = safe_take_over m places (MergeInstall seen placed i) safe.0 room.0
may_place m places (Beside None g) safe room = tt
may_place m places (Beside (Some (Reads q)) g) safe room = tt
may_place m places (Beside (Some (Runs c)) g) safe room = safe_take_over m places (Checkpoint c) safe.0 room.0

-- the records of a merge have each a key of their own
next_keys : (content : Image) (may : ℕ → List ℕ → Type 0) (m : ManifestData) (x : Parts) (jobs : Jobs) → HaveJobs content may m x jobs → HaveKeysOf (next_installed jobs)
next_keys content may m x (RotationAlone fresh i) has = tt
next_keys content may m x (MergeAlone seen placed i) has =
    let merge = has.0.work.merge in
    subst HaveOwnKeys (sym merge.records) (own_keys merge.live_left merge.live_right merge.seen.apart)
next_keys content may m x (Beside None g) has = tt
next_keys content may m x (Beside (Some (Reads q)) g) has = tt
next_keys content may m x (Beside (Some (Runs c)) g) has = tt

-- ---- the store

module _ {D : Type 0} {d : Ghosts D} {s : StoreData D} (b : Begins d s Place) where
  pub may_place_here : MayTakeOverOf s.places (next_installed s.jobs)
  may_place_here = may_place s.manifest s.places s.jobs b.sound.safe.jobs b.sound.safe.room_for

  module _ (places : PlaceTable) (took : HaveKeysOf (next_installed s.jobs) → (at : PlaceMap) → s.places.at ≡ places_so_far (next_installed s.jobs) at → places.at ≡ places_so_far (next_installed (with_places s.jobs)) at) (room : JobsHaveRoom s.places s.jobs → JobsHaveRoom places (with_places s.jobs)) where
    abbrev after : StoreData D
    after = record s { places = places; jobs = with_places s.jobs }

    keys_here : (rows : Map) → IsUp d s rows → HaveKeysOf (next_installed s.jobs)
    keys_here rows up = next_keys (d.content s.disk) (d.may_leave s.disk) s.manifest up.parts s.jobs up.jobs

    -- THE STORE STANDS with the slice behind its job.
    up_so : (rows : Map) → IsUp d s rows → IsUp d after rows
    up_so rows up = stays_up d s rows up s.disk places (with_places s.jobs) up.settled refl (λ n _. refl)
        (all_placed (IsRunning (d.content s.disk) (d.may_leave s.disk) s.manifest up.parts) (IsRunning (d.content s.disk) (d.may_leave s.disk) s.manifest up.parts) (placed_runs (d.content s.disk) (d.may_leave s.disk) s.manifest up.parts) s.jobs up.jobs)
        (share_placed s.jobs up.apart)
        (record { pairs = subst (HasReading (d.content s.disk) s.manifest) (sym (place_reads s.jobs)) up.reading.pairs; segment = segment_placed s.manifest s.places.at places.at (d.content s.disk (oldest_file s.manifest)) s.jobs took up.reading.segment }) (record { at = up.places.at; are = up.places.are; so_far = took (keys_here rows up) up.places.at up.places.so_far }) (room up.room_for) refl

    pub placed_sound : IsStoreSound d after
    placed_sound = record {
      safe = stays_safe b.sound.safe s.disk places (with_places s.jobs) (all_placed (IsSafeWork s.manifest) (IsSafeWork s.manifest) (placed_safe s.manifest) s.jobs b.sound.safe.jobs) (share_placed s.jobs b.sound.safe.apart)
          (record { pairs = subst (IsSafeReading s.manifest) (sym (place_reads s.jobs)) b.sound.safe.reading.pairs; segment = safe_placed_segment s.manifest s.places.at places.at s.jobs took b.sound.safe.reading.segment }) (room b.sound.safe.room_for) refl;
      up = λ honest. let now = b.sound.up honest in (now.0, up_so now.0 now.1);
    }

    -- THE SLICE IS MADE.
    pub placed_done : {A : Type 0} → OnlyNow d → (a : A) → IsStoreStep {A = A} d s Place (Ok a) after
    placed_done only_now a = done_step b after (λ honest. honest) (λ _. still_leaves d only_now s) (λ _ rows up slots. slots)
        (all_others d Place s after (record { content = λ n. refl; images = λ n c left. left; keeps = λ n c left. left })) a
        (record { after = refl; places = λ honest. let now = b.sound.up honest in took (keys_here now.0 now.1) }) refl (λ _. up_so)
