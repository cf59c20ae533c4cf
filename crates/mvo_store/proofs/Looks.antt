-- A store beside calls that look at the disk, or empty a file that is not used.
use Rattle.std.proofs.Common.{◌≡◌, ◌≢◌, inl, inr, ℕ, ◌+◌, eqb, Bool, true, false, List, [], ◌∷◌, Option, Some, Ok, Err, sym, ap, subst, ◌∙◌, arith, ◌⊎◌, ◌||◌, eq-eqb}
use Rattle.std.specs.Prelude.{⊤, IfSome, MatchOption}
use Rattle.std.specs.Bool.{OnTrue, OnFalse}
use Rattle.std.proofs.Math.Bool.{or-true}
use Rattle.std.proofs.lemmas.Bool.{or_parts}
use Rattle.std.specs.List.{AllByRecursion, list_any}
use Rattle.mvo_types.specs.Keys.{Map}
use Rattle.mvo_types.specs.declared.refusal.Refusal.{Refusal}
use Rattle.mvo_types.specs.declared.refusal.Refusal.TheVariants.{DiskFault, OutOfMemory, Corrupt, BadVersion}
use Rattle.mvo_disk.specs.declared.disk.Disk.{Ghosts}
use Rattle.mvo_disk.specs.Disk.{OthersStay, AllOf, AllStay, Touched, LeavesOnly, IsHonest}
use Rattle.mvo_disk.specs.Moments.{weaker, runs_on}
use Rattle.mvo_pair.specs.Writing.{IsStop, CountsFaults}
use Rattle.mvo_pair.specs.declared.pair.Pair.{Pair}
use Rattle.mvo_manifest.specs.Data.{ManifestData}
use Rattle.mvo_places.specs.Places.{PlaceTable}
use Rattle.mvo_recovery.specs.Settled.{other_slot, IsUsed, FilesStay}
use Rattle.mvo_recovery.proofs.Named.{slot_below, last_used}
use Rattle.mvo_store.specs.declared.jobs.jobs.Jobs.{Jobs}
use Rattle.mvo_store.specs.StoreData.{StoreData, opening}
use Rattle.mvo_store.specs.Jobs.{Job, jobs_of, job_takes_file}
use Rattle.mvo_store.specs.Jobs.Job.{Rotation, Checkpoint, Merge, MergeInstall}
use Rattle.mvo_store.specs.Standing.{HaveJobs, ShareNone, JobsHaveRoom, IsUp, MayBeLeft, HasSlots, HasWork}
use Rattle.mvo_store.specs.Placing.{HavePlacesSoFar}
use Rattle.mvo_store.specs.Reading.{HaveReadings}
use Rattle.mvo_store.specs.Safe.{IsStoreSound}
use Rattle.mvo_store.specs.Calls.{MayMeet, Makes, IsStoreStep, rows_behind, StoreStep, HasNoFault, LeftByMemory}
use Rattle.mvo_store.proofs.Keeping.{stays_up, AllLeave, CountsNow, slots_as, now_left, touched_left, Begins, fault_step, misread_step, all_others, done_step, looked_step, looked_safe}
use Rattle.mvo_store.proofs.Checkpoints.{stop_or_misread}
use Rattle.mvo_store.proofs.Working.{IsOfPair, RestsOn, jobs_framed, each_job, each_follows, written_of_pair, merged_of_pair}
use Rattle.mvo_load.specs.Read.{IsMisread}
use Rattle.mvo_load.specs.Old.{is_old}
use Rattle.mvo_recovery.proofs.Framed.{files_stay_others, settled_all, settled_framed}
use Rattle.mvo_store.specs.Reclaiming.{IsUnused, IsLeastDead}
use Rattle.mvo_store.proofs.Logged.{unnamed_unused}
use Rattle.mvo_store.proofs.Segments.{readings_framed}

-- ---- looks at the disk

pub misread_count : (before now : ℕ) (e : Refusal) → IsMisread e → CountsFaults {X = Unit {0}} before now (Err e) → now ≡ before
misread_count before now (Corrupt file) is count = count
misread_count before now BadVersion is count = count
misread_count before now e is count = absurd is

module _ {D : Type 0} {d : Ghosts D} {s : StoreData D} {call : StoreStep} (b : Begins d s call) (new : D) (rest : AllStay (d.content s.disk) (d.content new) (d.may_leave s.disk) (d.may_leave new)) where
  -- the store stays up, whatever jobs run then
  pub looked_up : (rows : Map) (up : IsUp d s rows) (places : PlaceTable) (jobs : Jobs) → HavePlacesSoFar s.manifest.pairs up.parts.lives jobs places.at → JobsHaveRoom places jobs → HaveJobs (d.content s.disk) (d.may_leave s.disk) s.manifest up.parts jobs → ShareNone jobs → HaveReadings (d.content s.disk) s.manifest places.at jobs → d.fault_count new ≡ d.fault_count s.disk
      → IsUp d (record s { disk = new; places = places; jobs = jobs }) rows
  looked_up rows up places jobs are room has apart reading = stays_up d s rows up new places jobs (settled_all (d.content s.disk) (d.content new) (d.may_leave s.disk) (d.may_leave new) s.manifest up.parts rest up.settled) (rest.content s.segment.file) (λ n _. ap is_old (rest.content n))
      (jobs_framed (d.content s.disk) (d.content new) (d.may_leave s.disk) (d.may_leave new) s.manifest up.settled.installed.own.is up.parts up.settled.installed.parts up.parts.last (record { ends = λ r _ last. last; olds = λ n _. ap is_old (rest.content n) }) (jobs_of jobs)
      (each_job (λ j. HasWork (d.content s.disk) (d.may_leave s.disk) s.manifest up.parts j → FilesStay (RestsOn s.manifest j) (d.content s.disk) (d.content new) (d.may_leave s.disk) (d.may_leave new)) (λ j work. record { content = λ n _. rest.content n; images = λ n c _. rest.images n c }) (jobs_of jobs))
      (rest.content (other_slot s.manifest)) has) apart (readings_framed (d.content s.disk) (d.content new) s.manifest up.settled.installed.own.is (λ n _. rest.content n) places.at jobs reading) are room

  -- so with those that run
  pub looked_same : d.fault_count new ≡ d.fault_count s.disk → (rows : Map) → IsUp d s rows → IsUp d (record s { disk = new }) rows
  looked_same count rows up = looked_up rows up s.places s.jobs up.places up.room_for up.jobs up.apart up.reading count

  module _ (any_moment : LeavesOnly d.moment d.left_since s.disk new (AllOf (d.may_leave s.disk))) where
    -- it is sound still, with the jobs that run
    pub still_sound : d.fault_count new ≡ d.fault_count s.disk → IsStoreSound d (record s { disk = new })
    still_sound count = record {
      safe = looked_safe b.sound.safe new count;
      up = λ honest. let now = b.sound.up (any_moment.later.honest honest) in (now.0, looked_same count now.0 now.1);
    }

    pub looks_leave : AllLeave d s new
    looks_leave rows up slots = weaker d.moment d.left_since s.disk new (AllOf (d.may_leave s.disk)) (MayBeLeft rows s.mark (opening s)) (now_left d s rows up slots) any_moment

    looks_slots : HasSlots (d.content s.disk) → HasSlots (d.content new)
    looks_slots = slots_as (d.content s.disk) (d.content new) (rest.content 0) (rest.content 1)

    -- a call that has done no more
    pub looked_fault : {A : Type 0} → CountsNow d → (e : Refusal) → e ≡ DiskFault → MayMeet call DiskFault → d.fault_count new ≡ d.fault_count s.disk + 1 → IsStoreStep {A = A} d s call (Err e) (record s { disk = new; down = true })
    looked_fault counts_now e at may count = fault_step b counts_now new e at may count any_moment.later.honest (λ _. looks_leave) (all_others d call s (record s { disk = new; down = true }) rest)

    -- or has read what breaks a rule
    pub looked_misread : {A : Type 0} (e : Refusal) → IsMisread e → MayMeet call e → d.fault_count new ≡ d.fault_count s.disk → (IsHonest (d.moment new) → ⊥) → IsStoreStep {A = A} d s call (Err e) (record s { disk = new; down = true })
    looked_misread e is may count lied = misread_step b new e is may count lied (all_others d call s (record s { disk = new; down = true }) rest)

    pub looked_memory : {A : Type 0} → MayMeet call OutOfMemory → (HasNoFault d s (record s { disk = new }) → LeftByMemory d call s (record s { disk = new })) → d.fault_count new ≡ d.fault_count s.disk → IsStoreStep {A = A} d s call (Err OutOfMemory) (record s { disk = new })
    looked_memory may left count = looked_step b (record s { disk = new }) any_moment.later.honest (λ _. looks_leave) (λ _ rows up. looks_slots) (all_others d call s (record s { disk = new }) rest) may (left count) (λ _. looked_same count)

    -- a read was refused: the store is down, unless it was for want of memory
    pub looked_refused : {A : Type 0} → CountsNow d → (e : Refusal) → MayMeet call OutOfMemory → MayMeet call DiskFault → (IsMisread e → MayMeet call e) → (HasNoFault d s (record s { disk = new }) → LeftByMemory d call s (record s { disk = new }))
        → CountsFaults {X = Unit {0}} (d.fault_count s.disk) (d.fault_count new) (Err e) → IsStop e ⊎ IsMisread e → (IsHonest (d.moment new) → (rows : Map) → IsUp d s rows → IsStop e)
        → (down : Bool) → OnTrue down (e ≢ OutOfMemory) → OnFalse down (e ≡ OutOfMemory) → IsStoreStep {A = A} d s call (Err e) (record s { disk = new; down = down })
    looked_refused {A} counts_now e memory fault misread left count why stop true ne is = go why
      where
        go : IsStop e ⊎ IsMisread e → IsStoreStep {A = A} d s call (Err e) (record s { disk = new; down = true })
        go (inl (inl m)) = absurd (ne m)
        go (inl (inr at)) = looked_fault counts_now e at fault (subst (λ (k : Refusal). CountsFaults {X = Unit {0}} (d.fault_count s.disk) (d.fault_count new) (Err k)) at count)
        go (inr broken) = looked_misread e broken (misread broken) (misread_count (d.fault_count s.disk) (d.fault_count new) e broken count)
            (λ honest. let now = b.sound.up (any_moment.later.honest honest) in stop_or_misread e (stop honest now.0 now.1) broken)
    looked_refused {A} counts_now e memory fault misread left count why stop false ne is =
        subst (λ (k : Refusal). IsStoreStep {A = A} d s call (Err k) (record s { disk = new; down = false })) (sym is)
        (subst (λ (t : StoreData D). IsStoreStep {A = A} d s call (Err OutOfMemory) t) (ap (λ (b : Bool). record s { disk = new; down = b }) b.up) (looked_memory memory left (subst (λ (k : Refusal). CountsFaults {X = Unit {0}} (d.fault_count s.disk) (d.fault_count new) (Err k)) is count)))

    pub refused_still : (e : Refusal) → CountsFaults {X = Unit {0}} (d.fault_count s.disk) (d.fault_count new) (Err e) → (down : Bool) → OnFalse down (e ≡ OutOfMemory) → down ≡ false → IsStoreSound d (record s { disk = new; down = down })
    refused_still e count true is up = absurd (cc up)
    refused_still e count false is up = subst (λ (t : StoreData D). IsStoreSound d t) (ap (λ (b : Bool). record s { disk = new; down = b }) b.up) (still_sound (subst (λ (k : Refusal). CountsFaults {X = Unit {0}} (d.fault_count s.disk) (d.fault_count new) (Err k)) is count))

    module _ (places : PlaceTable) (jobs : Jobs) where
      pub looked_done : {A : Type 0} (a : A) → Makes d call s (record s { disk = new; places = places; jobs = jobs }) → d.fault_count new ≡ d.fault_count s.disk → (IsHonest (d.moment new) → (rows : Map) → IsUp d s rows → IsUp d (record s { disk = new; places = places; jobs = jobs }) (rows_behind {A = A} s call (Ok a) rows))
          → IsStoreStep d s call (Ok a) (record s { disk = new; places = places; jobs = jobs })
      looked_done a = done_step b (record s { disk = new; places = places; jobs = jobs }) any_moment.later.honest (λ _. looks_leave) (λ _ rows up. looks_slots) (all_others d call s (record s { disk = new; places = places; jobs = jobs }) rest) a

-- ---- a file is emptied

pub of_pair : (p : Pair) (n : ℕ) → IsOfPair p n → (eqb p.data_file n || eqb p.delta_file n) ≡ true
of_pair p n (inl here) = ap (λ t. t || eqb p.delta_file n) (eq-eqb p.data_file n (sym here))
of_pair p n (inr here) = ap (λ t. eqb p.data_file n || t) (eq-eqb p.delta_file n (sym here)) ∙ or-true (eqb p.data_file n)

-- a file that a job rests on is used, or it takes it
rests_kept : (m : ManifestData) (j : Job) (n : ℕ) → RestsOn m j n → IsUsed m n ⊎ (job_takes_file j n ≡ true)
rests_kept m (Rotation fresh i) n here = inr (eq-eqb fresh.file n (sym here))
rests_kept m (Checkpoint c) n (inl on) = inr (of_pair c.pair n (written_of_pair c.pair c.stage n on))
rests_kept m (Checkpoint c) n (inr before) = inl (inr before.0)
rests_kept m (Merge g) n (inl on) = inr (of_pair g.seen.pair n (merged_of_pair g.seen.pair g.stage n on))
rests_kept m (Merge g) n (inr before) = inl (inr before.0)
rests_kept m (MergeInstall g placed i) n (inl on) = inr (of_pair g.pair n on)
rests_kept m (MergeInstall g placed i) n (inr before) = inl (inr before.0)

-- of each job that doesn't take it
none_take : (n : ℕ) (js : List Job) → list_any (λ j. job_takes_file j n) js ≡ false → AllByRecursion (λ j. job_takes_file j n ≡ false) js
none_take n [] e = tt
none_take n (j ∷ js) e = let parts = or_parts (job_takes_file j n) (list_any (λ k. job_takes_file k n) js) e in (parts.0, none_take n js parts.1)

not_rested : {D : Type 0} (s : StoreData D) (n : ℕ) → IsUnused s.manifest s.jobs n → (j : Job) → job_takes_file j n ≡ false → RestsOn s.manifest j n → ⊥
not_rested s n free j not_taken on = go (rests_kept s.manifest j n on)
  where
    go : IsUsed s.manifest n ⊎ (job_takes_file j n ≡ true) → ⊥
    go (inl used) = unnamed_unused s.manifest n free.first free.unnamed used
    go (inr is) = absurd (cc (is, not_taken))

module _ {D : Type 0} {d : Ghosts D} {s : StoreData D} {call : StoreStep} (b : Begins d s call) (mid new : D) (file : ℕ) (free : IsUnused s.manifest s.jobs file) (looks : AllStay (d.content s.disk) (d.content mid) (d.may_leave s.disk) (d.may_leave mid)) (rest : OthersStay file (d.content mid) (d.content new) (d.may_leave mid) (d.may_leave new)) where
  -- the other files are as they were
  pub others_stay : OthersStay file (d.content s.disk) (d.content new) (d.may_leave s.disk) (d.may_leave new)
  others_stay = record {
    content = λ n ne. rest.content n ne ∙ looks.content n;
    images = λ n c ne left. looks.images n c (rest.images n c ne left);
    keeps = λ n c ne left. rest.keeps n c ne (looks.keeps n c left);
  }

  used_stay : FilesStay (IsUsed s.manifest) (d.content s.disk) (d.content new) (d.may_leave s.disk) (d.may_leave new)
  used_stay = files_stay_others (d.content s.disk) (d.content new) (d.may_leave s.disk) (d.may_leave new) (IsUsed s.manifest) file (unnamed_unused s.manifest file free.first free.unnamed) others_stay

  -- what each job rests on
  rested_stay : (j : Job) → job_takes_file j file ≡ false → FilesStay (RestsOn s.manifest j) (d.content s.disk) (d.content new) (d.may_leave s.disk) (d.may_leave new)
  rested_stay j not_taken = files_stay_others (d.content s.disk) (d.content new) (d.may_leave s.disk) (d.may_leave new) (RestsOn s.manifest j) file (not_rested s file free j not_taken) others_stay

  pub emptied_slots : HasSlots (d.content s.disk) → HasSlots (d.content new)
  emptied_slots = slots_as (d.content s.disk) (d.content new) (used_stay.content 0 (inl (omega arith))) (used_stay.content 1 (inl (omega arith)))

  -- THE STORE STAYS UP where a file is emptied that is not used.
  pub emptied_up : d.fault_count new ≡ d.fault_count s.disk → (rows : Map) → IsUp d s rows → IsUp d (record s { disk = new }) rows
  emptied_up count rows up = stays_up d s rows up new s.places s.jobs
      (settled_framed (d.content s.disk) (d.content new) (d.may_leave s.disk) (d.may_leave new) s.manifest up.parts used_stay up.settled)
      (used_stay.content s.segment.file (last_used s.manifest s.segment.file up.last)) (λ n inside. ap is_old (used_stay.content n (inr inside)))
      (jobs_framed (d.content s.disk) (d.content new) (d.may_leave s.disk) (d.may_leave new) s.manifest up.settled.installed.own.is up.parts up.settled.installed.parts up.parts.last (record { ends = λ r _ last. last; olds = λ n last. ap is_old (used_stay.content n (last_used s.manifest n last)) }) (jobs_of s.jobs)
      (each_follows (λ j. job_takes_file j file ≡ false) (λ j. HasWork (d.content s.disk) (d.may_leave s.disk) s.manifest up.parts j → FilesStay (RestsOn s.manifest j) (d.content s.disk) (d.content new) (d.may_leave s.disk) (d.may_leave new)) (λ j not_taken work. rested_stay j not_taken) (jobs_of s.jobs) (none_take file (jobs_of s.jobs) free.untaken))
      (used_stay.content (other_slot s.manifest) (inl (slot_below (s.manifest.generation + 1)))) up.jobs) up.apart
      (readings_framed (d.content s.disk) (d.content new) s.manifest up.settled.installed.own.is (λ n has. used_stay.content n (inr has)) s.places.at s.jobs up.reading) up.places up.room_for count

  pub emptying_leaves : LeavesOnly d.moment d.left_since s.disk mid (AllOf (d.may_leave s.disk)) → LeavesOnly d.moment d.left_since mid new (Touched file (d.may_leave mid) (λ bytes. ⊤)) → AllLeave d s new
  emptying_leaves first second rows up slots = runs_on d.moment d.left_since s.disk mid new (MayBeLeft rows s.mark (opening s)) (Touched file (d.may_leave mid) (λ bytes. ⊤)) (looks_leave b mid looks first rows up slots) second
      (λ image t. touched_left d s rows up slots file free.first (unnamed_unused s.manifest file free.first free.unnamed) image (record { here = t.here; others = λ n ne. looks.images n (image n) (t.others n ne) }))

-- the file that a look found
pub unused_found : {D : Type 0} (s : StoreData D) (found : Option ℕ) (file : ℕ) → found ≡ Some file → IfSome found (IsUnused s.manifest s.jobs) → IsUnused s.manifest s.jobs file
unused_found s found file is free = subst (λ (o : Option ℕ). IfSome o (IsUnused s.manifest s.jobs)) is free

pub least_found : {D : Type 0} (d : Ghosts D) (s : StoreData D) (found : Option ℕ) (file : ℕ) (P : Type 0) → found ≡ Some file → MatchOption found P (λ n. IsLeastDead (d.content s.disk) s.manifest s.jobs n) → IsLeastDead (d.content s.disk) s.manifest s.jobs file
least_found d s found file P is least = subst (λ (o : Option ℕ). MatchOption o P (λ n. IsLeastDead (d.content s.disk) s.manifest s.jobs n)) is least
