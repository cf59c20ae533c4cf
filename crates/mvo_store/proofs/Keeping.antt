-- A store keeps its rows over a step, and each slot its gate. What each way through a call comes to, where no cause of a refusal stands.
use Rattle.std.proofs.Common.{◌≡◌, ◌≢◌, inl, inr, ℕ, ◌<◌, ◌≤◌, true, false, List, [], ◌∷◌, Option, Some, None, sym, subst, ◌∙◌, arith, ◌&&◌, ⊎_elim, length, refl, ◌+◌, ◌^◌, Ok, Err, Bool}
use Rattle.std.specs.Prelude.{⊤, not}
use Rattle.std.proofs.lemmas.Bool.{cases_eq}
use Rattle.mvo_types.specs.Keys.{Map}
use Rattle.mvo_disk.specs.declared.disk.Disk.{Ghosts}
use Rattle.mvo_disk.specs.Disk.{Image, AllOf, OthersStay, Touched, LeavesOnly, AllStay, Moment, IsBefore, IsHonest}
use Rattle.mvo_disk.specs.Moments.{weaker, started, at_end}
use Rattle.mvo_group.specs.Data.{GroupData}
use Rattle.mvo_manifest.specs.Data.{ManifestData}
use Rattle.mvo_places.specs.Places.{PlaceTable}
use Rattle.mvo_recovery.specs.Parts.{Parts}
use Rattle.mvo_recovery.specs.Settled.{IsSettled, IsUsed, GivesParts}
use Rattle.mvo_recovery.proofs.Framed.{settled_gives, within_unused}
use Rattle.mvo_load.specs.Read.{IsMisread}
use Rattle.mvo_store.specs.declared.jobs.jobs.Jobs.{Jobs}
use Rattle.mvo_store.proofs.Marks.{HeadersStay, known_stays}
use Rattle.mvo_store.specs.StoreData.{StoreData, opening}
use Rattle.mvo_store.specs.Standing.{IsUp, HasBody, HaveJobs, ShareNone, JobsHaveRoom, Gives, GivesOr, HasSlots, MayBeLeft, KeepsRows, IsKeeping, KeepsAllRows}
use Rattle.mvo_store.specs.Placing.{HavePlacesSoFar}
use Rattle.mvo_store.specs.Reading.{AreSafeReadings, HaveReadings}
use Rattle.mvo_store.specs.Writing.{StillGives}
use Rattle.mvo_store.specs.Safe.{IsSafe, AreSafe, IsStoreSound}
use Rattle.mvo_types.specs.declared.limits.TheConstants.{MAX_SEGMENTS}
use Rattle.mvo_types.specs.declared.refusal.Refusal.{Refusal}
use Rattle.mvo_types.specs.declared.refusal.Refusal.TheVariants.{DiskFault, OutOfMemory, Down, NothingToDo, Busy}
use Rattle.mvo_types.specs.Causes.{when, first_cause}
use Rattle.mvo_format.specs.declared.header.TheConstants.{HEADER_LEN}
use Rattle.mvo_store.specs.declared.limits.TheConstants.{MAX_GENERATION}
use Rattle.mvo_store.specs.declared.install.install_step.InstallStep.TheVariants.{Open}
use Rattle.mvo_store.specs.declared.jobs.due.Due.{Due}
use Rattle.mvo_store.specs.declared.jobs.due.Due.TheVariants.{MergeDelta, Install}
use Rattle.mvo_store.specs.Causes.{replaces_last, why_not_take, why_not_rotate, why_not_checkpoint, why_not_merge, why_not_merge_read, why_not_segment_read, why_not_due, why_not_merge_delta, why_not_install_open}
use Rattle.mvo_store.specs.Jobs.{keeps_all_out, keeps_checkpoint_out, keeps_merge_out, has_checkpoint, has_rotation, is_step_due, is_merge_read, is_segment_read}
use Rattle.mvo_store.specs.SegmentRead.{MayReadCheckpoint}
use Rattle.mvo_store.specs.MergeReading.{MayReadMerge}
use Rattle.mvo_store.specs.Calls.{StoreStep, why_not_store, MayMeet, IsRefused, Makes, HasNoFault, LeftByRefusal, LeftByMemory, MayTouch, KeepsOthers, IsStoreStep, rows_behind}
use Rattle.mvo_store.specs.Calls.StoreStep.{Take, Call, MergeBegin, MergeReadOn, CheckpointBegin, CheckpointReadOn}
use Rattle.mvo_store.specs.declared.call.StoreCall.TheVariants.{AppendOpen, CheckpointRead, MergeRead, Step}

-- ---- the slots

-- they have their gates where they stay
pub slots_as : (old new : Image) → new 0 ≡ old 0 → new 1 ≡ old 1 → HasSlots old → HasSlots new
slots_as old new here there slots = record { first = λ e. slots.first (sym here ∙ e); second = λ e. slots.second (sym there ∙ e) }

-- a step on a file behind them leaves them
pub slots_beside : (old new : Image) (may_old may_new : ℕ → List ℕ → Type 0) (file : ℕ) → 2 ≤ file → OthersStay file old new may_old may_new → HasSlots old → HasSlots new
slots_beside old new may_old may_new file behind rest = slots_as old new (rest.content 0 (λ z. absurd (omega (arith, z, behind)))) (rest.content 1 (λ z. absurd (omega (arith, z, behind))))

-- what is left of a slot that a call touches has a gate
abbrev pub HasGateIn : ℕ → (List ℕ → Type 0) → Type 0
HasGateIn file P = (c : List ℕ) → file < 2 → P c → c ≢ []

module _ {D : Type 0} (d : Ghosts D) where
  -- what leaves both
  both_leave : (old new : D) (P Q : Image → Type 0) → LeavesOnly d.moment d.left_since old new P → LeavesOnly d.moment d.left_since old new Q → LeavesOnly d.moment d.left_since old new (λ image. P image × Q image)
  both_leave old new P Q first second = record {
    later = first.later;
    each = λ image left. (first.each image left, second.each image left);
    before = λ t image le left. ⊎_elim (λ past. inl past) (λ p. ⊎_elim (λ past. inl past) (λ q. inr (p, q)) (second.before t image le left)) (first.before t image le left);
  }

  module _ (old : D) (m : ManifestData) (x : Parts) (settled : IsSettled (d.content old) (d.may_leave old) m x) (slots : HasSlots (d.content old)) where
    -- each image of now has the slots
    pub settled_slots : (image : Image) → AllOf (d.may_leave old) image → HasSlots image
    settled_slots image all = slots_as (d.content old) image (settled.durable 0 (inl (omega arith)) (image 0) (all 0)) (settled.durable 1 (inl (omega arith)) (image 1) (all 1)) slots

    -- and each in which a call has touched a file
    pub slots_touched : (file : ℕ) (P : List ℕ → Type 0) → HasGateIn file P → (image : Image) → Touched file (d.may_leave old) P image → HasSlots image
    slots_touched file P some image t = record { first = at 0 (omega arith) slots.first; second = at 1 (omega arith) slots.second }
      where
        at : (n : ℕ) → n < 2 → d.content old n ≢ [] → image n ≢ []
        at n lt was e = elim (cases_eq n file) [
          | inl same ↦ some (image file) (subst (λ k. k < 2) same lt) t.here (subst (λ k. image k ≡ []) same e)
          | inr ne ↦ was (sym (settled.durable n (inl lt) (image n) (t.others n ne)) ∙ e)
        ]

    -- a step on a file leaves them, beside what the parts make up
    pub leaves_still : (new : D) (file : ℕ) (P : List ℕ → Type 0) → HasGateIn file P → LeavesOnly d.moment d.left_since old new (Touched file (d.may_leave old) P)
        → LeavesOnly d.moment d.left_since old new (GivesParts x) → LeavesOnly d.moment d.left_since old new (StillGives x)
    leaves_still new file P some touched gives = weaker d.moment d.left_since old new (λ image. HasSlots image × GivesParts x image) (StillGives x) (λ image both. record { slots = both.0; gives = both.1 })
        (both_leave old new HasSlots (GivesParts x) (weaker d.moment d.left_since old new (Touched file (d.may_leave old) P) HasSlots (slots_touched file P some) touched) gives)

-- ---- the rows

-- without the group that is being opened
pub gives_or : (rows : Map) (mark : ℕ) (o : Option GroupData) (image : Image) → Gives rows mark image → GivesOr rows mark o image
gives_or rows mark None image g = g
gives_or rows mark (Some x) image g = inl g

module _ {D : Type 0} (d : Ghosts D) where
  -- a stop within a run from this store to that disk leaves the rows
  abbrev pub Leaves : StoreData D → D → Map → Type 0
  Leaves s disk rows = LeavesOnly d.moment d.left_since s.disk disk (MayBeLeft rows s.mark (opening s))

  -- so it is for whatever rows the store is up with
  abbrev pub AllLeave : StoreData D → D → Type 0
  AllLeave s disk = (rows : Map) → IsUp d s rows → HasSlots (d.content s.disk) → Leaves s disk rows

  abbrev pub OnlyNow : Type 0
  OnlyNow = (disk : D) (image : Image) → d.left_since disk (d.moment disk) image → AllOf (d.may_leave disk) image

  abbrev pub CountsNow : Type 0
  CountsNow = (disk : D) (t : Moment) (image : Image) → IsBefore t (d.moment disk) → AllOf (d.may_leave disk) image → d.left_since disk t image

  -- ---- a store that is up

  module _ (s : StoreData D) (rows : Map) (up : IsUp d s rows) where
    -- what the parts give are its rows and its mark
    pub give_or : (image : Image) → GivesParts up.parts image → GivesOr rows s.mark (opening s) image
    give_or image g = gives_or rows s.mark (opening s) image (rw (up.rows_are, up.mark_is) g)

    pub now_left : HasSlots (d.content s.disk) → (image : Image) → AllOf (d.may_leave s.disk) image → MayBeLeft rows s.mark (opening s) image
    now_left slots image all = record {
      slots = settled_slots d s.disk s.manifest up.parts up.settled slots image all;
      gives = give_or image (settled_gives (d.content s.disk) (d.may_leave s.disk) s.manifest up.parts up.settled image all);
    }

    -- so in an image in which a call has touched a file that isn't used
    pub touched_left : HasSlots (d.content s.disk) → (file : ℕ) → 2 ≤ file → (IsUsed s.manifest file → ⊥) → (image : Image) → Touched file (d.may_leave s.disk) (λ _. ⊤) image → MayBeLeft rows s.mark (opening s) image
    touched_left slots file behind unused image t = record {
      slots = slots_touched d s.disk s.manifest up.parts up.settled slots file (λ _. ⊤) (λ c lt _ e. absurd (omega (arith, lt, behind))) image t;
      gives = give_or image (within_unused (d.content s.disk) (d.may_leave s.disk) s.manifest up.parts up.settled file (λ _. ⊤) image unused t);
    }

    pub up_keeps : HasSlots (d.content s.disk) → KeepsRows d s rows
    up_keeps slots = record { images = now_left slots; up = λ _. (up, slots) }

    -- Its disk, its places and its jobs are others: the last segment stays, and which files are old, and the jobs stand.
    pub stays_up : (new : D) (places : PlaceTable) (jobs : Jobs) → IsSettled (d.content new) (d.may_leave new) s.manifest up.parts → d.content new s.segment.file ≡ d.content s.disk s.segment.file → HeadersStay (d.content s.disk) (d.content new) s.manifest
        → HaveJobs (d.content new) (d.may_leave new) s.manifest up.parts jobs → ShareNone jobs → HaveReadings (d.content new) s.manifest places.at jobs → HavePlacesSoFar s.manifest.pairs up.parts.lives jobs places.at → JobsHaveRoom places jobs → d.fault_count new ≡ d.fault_count s.disk → IsUp d (record s { disk = new; places = places; jobs = jobs }) rows
    stays_up new places jobs settled last headers stands apart reading are room count =
        let written : s.written ≡ true → HasBody up.parts s.pending s.segment.gate s.segment.next (d.content new s.segment.file) = λ e. subst (λ (c : List ℕ). HasBody up.parts s.pending s.segment.gate s.segment.next c) (sym last) (up.written e) in
        let marks = known_stays (d.content s.disk) (d.content new) s.manifest 1024 s.old_marks headers up.marks in
        search arith

  -- ---- a step

  -- nothing changes
  pub refused_keeps : OnlyNow → (s : StoreData D) → KeepsAllRows d s s
  refused_keeps only_now s = record {
    any_moment = λ rows k. started d.moment d.left_since s.disk (MayBeLeft rows s.mark (opening s)) (λ image left. k.images image (only_now s.disk image left));
    keeps = λ rows k. k;
  }

  -- nothing of the disk does
  pub still_leaves : OnlyNow → (s : StoreData D) → AllLeave s s.disk
  still_leaves only_now s rows up slots = started d.moment d.left_since s.disk (MayBeLeft rows s.mark (opening s)) (λ image left. now_left s rows up slots image (only_now s.disk image left))

  -- a call of the device failed
  pub fault_keeps : CountsNow → (s : StoreData D) (disk : D) → s.down ≡ false → AllLeave s disk → KeepsAllRows d s (record s { disk = disk; down = true })
  fault_keeps counts_now s disk is moments = record {
    any_moment = λ rows k. moments rows (k.up is).0 (k.up is).1;
    keeps = λ rows k. record {
      images = λ image all. at_end d.moment d.may_leave d.left_since counts_now s.disk disk (MayBeLeft rows s.mark (opening s)) (moments rows (k.up is).0 (k.up is).1) image all;
      up = λ e. absurd (cc e);
    };
  }

  -- the step went well
  pub step_keeps : (made : Map → Map) (s t : StoreData D) → s.down ≡ false → AllLeave s t.disk
      → ((rows : Map) → IsUp d s rows → IsUp d t (made rows)) → ((rows : Map) → IsUp d s rows → HasSlots (d.content s.disk) → HasSlots (d.content t.disk))
      → IsKeeping d made s t
  step_keeps made s t is moments ups slots = record {
    any_moment = λ rows k. moments rows (k.up is).0 (k.up is).1;
    keeps = λ rows k. up_keeps t (made rows) (ups rows (k.up is).0) (slots rows (k.up is).0 (k.up is).1);
  }

-- the store is up
up_of : {D : Type 0} (s : StoreData D) (call : StoreStep) → why_not_store s call ≡ None → s.down ≡ false
up_of s (Take g) e = grind arith
up_of s (Call (Step MergeDelta)) e = grind arith
up_of s (Call (Step (Install Open))) e = grind arith
up_of s call e = grind arith

-- no cause is a fault or what was misread
cause_apart : {D : Type 0} (s : StoreData D) (call : StoreStep) (cause : Refusal) → why_not_store s call ≡ Some cause → (cause ≢ DiskFault) × (IsMisread cause → ⊥)
cause_apart s (Take g) cause is = grind arith
cause_apart s (Call (Step MergeDelta)) cause is = grind arith
cause_apart s (Call (Step (Install Open))) cause is = grind arith
cause_apart s call cause is = grind arith

-- nor is one want of memory
cause_no_memory : {D : Type 0} (s : StoreData D) (call : StoreStep) (cause : Refusal) → why_not_store s call ≡ Some cause → cause ≢ OutOfMemory
cause_no_memory s (Take g) cause is = grind arith
cause_no_memory s (Call (Step MergeDelta)) cause is = grind arith
cause_no_memory s (Call (Step (Install Open))) cause is = grind arith
cause_no_memory s call cause is = grind arith

-- a step of a job may be made
pub may_step : {D : Type 0} (step : Due) (s : StoreData D) → why_not_due step s ≡ None → is_step_due step s.jobs ≡ true
may_step step s e = grind arith

-- the gate of a manifest may be opened
pub may_open : {D : Type 0} (s : StoreData D) → why_not_install_open s ≡ None → (is_step_due (Install Open) s.jobs ≡ true) × ((s.written && has_rotation s.jobs) ≡ false)
may_open s e = grind arith

-- what refuses its step refuses it first
first_two_of : (a b c : Bool) (x y z r : Refusal) → first_cause (when a x ∷ when b y ∷ []) ≡ Some r → first_cause (when a x ∷ when b y ∷ when c z ∷ []) ≡ Some r
first_two_of true b c x y z r e = e
first_two_of false true c x y z r e = e
first_two_of false false c x y z r e = absurd (cc e)

pub due_first : {D : Type 0} (s : StoreData D) (r : Refusal) → why_not_due (Install Open) s ≡ Some r → why_not_install_open s ≡ Some r
due_first s r e = first_two_of s.down (not (is_step_due (Install Open) s.jobs)) (s.written && has_rotation s.jobs) Down NothingToDo Busy r e

-- the last file of a merge may be written
pub may_end : {D : Type 0} (s : StoreData D) → why_not_merge_delta s ≡ None → (is_step_due MergeDelta s.jobs ≡ true) × (has_checkpoint s.jobs ≡ false)
may_end s e = grind arith

-- no job keeps one out that begins
pub none_keeps_all : {D : Type 0} (s : StoreData D) → why_not_rotate s ≡ None → keeps_all_out s.jobs ≡ false
none_keeps_all s e = grind arith

pub none_keeps_checkpoint : {D : Type 0} (s : StoreData D) → why_not_checkpoint s ≡ None → keeps_checkpoint_out s.jobs ≡ false
none_keeps_checkpoint s e = grind arith

pub none_keeps_merge : {D : Type 0} (place : ℕ) (s : StoreData D) → why_not_merge place s ≡ None → keeps_merge_out s.jobs ≡ false
none_keeps_merge place s e = grind arith

-- a rotation may begin
pub may_begin : {D : Type 0} (s : StoreData D) → why_not_rotate s ≡ None → (s.manifest.generation < MAX_GENERATION) × (replaces_last s ≡ false → s.segment.gate ≢ HEADER_LEN) × (replaces_last s ≡ false → length s.manifest.segments < MAX_SEGMENTS)
may_begin s e = go (replaces_last s) refl
  where
    go : (b : Bool) → replaces_last s ≡ b → (s.manifest.generation < MAX_GENERATION) × (replaces_last s ≡ false → s.segment.gate ≢ HEADER_LEN) × (replaces_last s ≡ false → length s.manifest.segments < MAX_SEGMENTS)
    go true is = grind (arith, e, is)
    go false is = grind (arith, e, is)

-- a group may be taken
pub free_to_take : {D : Type 0} (s : StoreData D) → why_not_take s ≡ None → s.pending ≡ None
free_to_take s e = grind arith

-- a checkpoint may begin
pub may_read : {D : Type 0} (s : StoreData D) → why_not_checkpoint s ≡ None → MayReadCheckpoint s.manifest
may_read s e = grind arith

-- the pairs of a merge may be read on
pub may_read_on : {D : Type 0} (s : StoreData D) → why_not_merge_read s ≡ None → is_merge_read s.jobs ≡ true
may_read_on s e = grind arith

-- the segment of a checkpoint may be read on
pub may_read_segment : {D : Type 0} (s : StoreData D) → why_not_segment_read s ≡ None → is_segment_read s.jobs ≡ true
may_read_segment s e = grind arith

-- a merge may begin
pub may_merge_at : {D : Type 0} (place : ℕ) (s : StoreData D) → why_not_merge place s ≡ None → MayReadMerge s.manifest place
may_merge_at place s e = grind arith

-- a refusal keeps the rows as they are
err_keeps : {D : Type 0} (A : Type 0) (d : Ghosts D) (old new : StoreData D) (call : StoreStep) (e : Refusal) → KeepsAllRows d old new → IsKeeping d (rows_behind {A = A} old call (Err e)) old new
err_keeps A d old new (Call AppendOpen) e h = h
err_keeps A d old new call e h = h

module _ {D : Type 0} (d : Ghosts D) where
  -- any but the one that may let go of what is read
  abbrev pub IsNoSlice : StoreStep → Type 0
  IsNoSlice CheckpointReadOn = ⊥
  IsNoSlice call = Unit {0}

  pub same_left : (call : StoreStep) → IsNoSlice call → (s : StoreData D) → LeftByMemory d call s s
  same_left (Call CheckpointRead) other s = record { after = refl; no_fault = refl }
  same_left (Call (MergeRead place)) other s = record { after = refl; no_fault = refl }
  same_left (Call (Step MergeDelta)) other s = record { after = refl; no_fault = refl }
  same_left (MergeBegin place) other s = record { after = refl; no_fault = refl }
  same_left MergeReadOn other s = record { after = refl; no_fault = refl }
  same_left CheckpointBegin other s = record { after = refl; no_fault = refl }
  same_left CheckpointReadOn other s = absurd other
  same_left call other s = refl

  -- nothing changes
  left_same : (call : StoreStep) (e : Refusal) (s : StoreData D) → e ≢ DiskFault → (IsMisread e → ⊥) → (e ≡ OutOfMemory → LeftByMemory d call s s) → LeftByRefusal d call e s s
  left_same call e s ne never memory = record { fault = λ is. absurd (ne is); memory = memory; misread = λ is. absurd (never is); other = λ f m n. refl }

  -- ---- the files

  -- no file changes
  pub all_others : (call : StoreStep) (old new : StoreData D) → AllStay (d.content old.disk) (d.content new.disk) (d.may_leave old.disk) (d.may_leave new.disk) → KeepsOthers d call old new
  all_others call old new stay = record { content = λ n _. stay.content n; images = λ n c _. stay.images n c; keeps = λ n c _. stay.keeps n c }

  same_others : (call : StoreStep) (s : StoreData D) → KeepsOthers d call s s
  same_others call s = record { content = λ n _. refl; images = λ n c _ left. left; keeps = λ n c _ left. left }

  -- but the one that the call may write
  pub file_others : (call : StoreStep) (old new : StoreData D) (file : ℕ) → MayTouch d call old new file → OthersStay file (d.content old.disk) (d.content new.disk) (d.may_leave old.disk) (d.may_leave new.disk) → KeepsOthers d call old new
  file_others call old new file may rest =
      let apart : (n : ℕ) → (MayTouch d call old new n → ⊥) → n ≢ file = λ n others e. others (subst (MayTouch d call old new) (sym e) may) in
      record { content = λ n others. rest.content n (apart n others); images = λ n c others. rest.images n c (apart n others); keeps = λ n c others. rest.keeps n c (apart n others) }

  -- ---- a call that no cause refuses, of a store that is up

  pub record Begins (s : StoreData D) (call : StoreStep) : Type 0 where
    pub none : why_not_store s call ≡ None
    pub up : s.down ≡ false
    pub sound : IsStoreSound d s

  -- so it is, where a store's value is known and its invariant
  pub begins : (s t : StoreData D) (call : StoreStep) → s ≡ t → why_not_store t call ≡ None → (s.down ≡ false → IsStoreSound d s) → Begins s call
  begins s t call same none invariant =
      let here = subst (λ (u : StoreData D). why_not_store u call ≡ None) (sym same) none in
      record { none = here; up = up_of s call here; sound = invariant (up_of s call here) }

  -- ---- each way

  pub err_is : (A : Type 0) (call : StoreStep) (why : Option Refusal) (e : Refusal) → why ≡ None → MayMeet call e → IsRefused {A = A} call why (Err e)
  err_is A call why e none may = subst (λ (o : Option Refusal). IsRefused {A = A} call o (Err e)) (sym none) may

  err_step : {A : Type 0} (s t : StoreData D) (call : StoreStep) (e : Refusal) → IsRefused {A = A} call (why_not_store s call) (Err e) → LeftByRefusal d call e s t → (IsHonest (d.moment t.disk) → IsHonest (d.moment s.disk)) → (IsHonest (d.moment t.disk) → KeepsAllRows d s t) → KeepsOthers d call s t → IsStoreStep {A = A} d s call (Err e) t
  err_step {A} s t call e refused left was keeps others = record { comes = record { refused = refused; made = tt; left = left }; honest = was; keeps = λ honest. err_keeps A d s t call e (keeps honest); others = others }

  -- it is refused, and nothing has changed
  pub other_step : {A : Type 0} → OnlyNow d → (s t : StoreData D) (call : StoreStep) (e : Refusal) → t ≡ s → e ≢ DiskFault → (IsMisread e → ⊥) → (e ≡ OutOfMemory → LeftByMemory d call s s) → IsRefused {A = A} call (why_not_store s call) (Err e) → IsStoreStep {A = A} d s call (Err e) t
  other_step {A} only_now s t call e same ne never memory refused = subst (λ (u : StoreData D). IsStoreStep {A = A} d s call (Err e) u) (sym same) (err_step s s call e refused (left_same call e s ne never memory) (λ h. h) (λ _. refused_keeps d only_now s) (same_others call s))

  -- so where a cause stands
  pub refused_step : {A : Type 0} → OnlyNow d → (s : StoreData D) (call : StoreStep) (cause : Refusal) → why_not_store s call ≡ Some cause → IsStoreStep {A = A} d s call (Err cause) s
  refused_step {A} only_now s call cause is =
      let apart = cause_apart s call cause is in
      other_step only_now s s call cause refl apart.0 apart.1 (λ memory. absurd (cause_no_memory s call cause is memory)) (subst (λ (o : Option Refusal). IsRefused {A = A} call o (Err cause)) (sym is) refl)

  -- and where memory is refused first
  pub memory_step : {A : Type 0} → OnlyNow d → (s : StoreData D) (call : StoreStep) → IsNoSlice call → why_not_store s call ≡ None → MayMeet call OutOfMemory → IsStoreStep {A = A} d s call (Err OutOfMemory) s
  memory_step {A} only_now s call other none may = other_step only_now s s call OutOfMemory refl (λ e. cc) (λ never. never) (λ _. same_left call other s) (err_is A call (why_not_store s call) OutOfMemory none may)

module _ {D : Type 0} {d : Ghosts D} {s : StoreData D} {call : StoreStep} (b : Begins d s call) where
  -- the disk met a fault
  pub fault_step : {A : Type 0} → CountsNow d → (disk : D) (e : Refusal) → e ≡ DiskFault → MayMeet call DiskFault → d.fault_count disk ≡ d.fault_count s.disk + 1 → (IsHonest (d.moment disk) → IsHonest (d.moment s.disk)) → (IsHonest (d.moment disk) → AllLeave d s disk) → KeepsOthers d call s (record s { disk = disk; down = true })
      → IsStoreStep {A = A} d s call (Err e) (record s { disk = disk; down = true })
  fault_step {A} counts_now disk e at may count was leaves others = subst (λ (r : Refusal). IsStoreStep {A = A} d s call (Err r) (record s { disk = disk; down = true })) (sym at)
      (err_step d s (record s { disk = disk; down = true }) call DiskFault (err_is d A call (why_not_store s call) DiskFault b.none may)
      (record { fault = λ is. record { after = refl; count = count }; memory = λ is. absurd (cc is); misread = λ never. absurd never; other = λ ne m n. absurd (ne refl) }) was (λ honest. fault_keeps d counts_now s disk b.up (leaves honest)) others)

  -- what was read breaks a rule
  pub misread_step : {A : Type 0} (disk : D) (e : Refusal) → IsMisread e → MayMeet call e → d.fault_count disk ≡ d.fault_count s.disk → (IsHonest (d.moment disk) → ⊥) → KeepsOthers d call s (record s { disk = disk; down = true })
      → IsStoreStep {A = A} d s call (Err e) (record s { disk = disk; down = true })
  misread_step {A} disk e is may count lied others = err_step d s (record s { disk = disk; down = true }) call e (err_is d A call (why_not_store s call) e b.none may)
      (record {
        fault = λ at. absurd (subst IsMisread at is);
        memory = λ at. absurd (subst IsMisread at is);
        misread = λ _. record { after = refl; no_fault = count; lied = lied };
        other = λ f m never. absurd (never is);
      }) (λ honest. absurd (lied honest)) (λ honest. absurd (lied honest)) others

  module _ (t : StoreData D) (was : IsHonest (d.moment t.disk) → IsHonest (d.moment s.disk)) (leaves : IsHonest (d.moment t.disk) → AllLeave d s t.disk) (slots : IsHonest (d.moment t.disk) → (rows : Map) → IsUp d s rows → HasSlots (d.content s.disk) → HasSlots (d.content t.disk)) (others : KeepsOthers d call s t) where
    -- the call does what it is for
    pub done_step : {A : Type 0} (a : A) → Makes d call s t → HasNoFault d s t → (IsHonest (d.moment t.disk) → (rows : Map) → IsUp d s rows → IsUp d t (rows_behind {A = A} s call (Ok a) rows)) → IsStoreStep d s call (Ok a) t
    done_step {A} a makes no_fault ups =
        let refused : IsRefused {A = A} call (why_not_store s call) (Ok a) = subst (λ (o : Option Refusal). IsRefused {A = A} call o (Ok a)) (sym b.none) tt in
        record {
          comes = record { refused = refused; made = record { makes = makes; no_fault = no_fault }; left = tt };
          honest = was;
          keeps = λ honest. step_keeps d (rows_behind {A = A} s call (Ok a)) s t b.up (leaves honest) (ups honest) (slots honest);
          others = others;
        }

    -- it has looked at the disk before memory is refused
    pub looked_step : {A : Type 0} → MayMeet call OutOfMemory → LeftByMemory d call s t → (IsHonest (d.moment t.disk) → (rows : Map) → IsUp d s rows → IsUp d t rows) → IsStoreStep {A = A} d s call (Err OutOfMemory) t
    looked_step {A} may left ups = err_step d s t call OutOfMemory (err_is d A call (why_not_store s call) OutOfMemory b.none may)
        (record { fault = λ is. absurd (cc is); memory = λ _. left; misread = λ never. absurd never; other = λ _ ne n. absurd (ne refl) }) was (λ honest. step_keeps d (λ rows. rows) s t b.up (leaves honest) (ups honest) (slots honest)) others

-- ---- what safety needs

module _ {D : Type 0} {d : Ghosts D} {s : StoreData D} (safe : IsSafe d s) where
  -- the disk, the places and the jobs are others
  pub stays_safe : (new : D) (places : PlaceTable) (jobs : Jobs) → AreSafe s.manifest jobs → ShareNone jobs → AreSafeReadings s.manifest places.at jobs → JobsHaveRoom places jobs → d.fault_count new ≡ d.fault_count s.disk → IsSafe d (record s { disk = new; places = places; jobs = jobs })
  stays_safe new places jobs is apart reading room count = record {
    file = safe.file;
    few = safe.few;
    written = safe.written;
    jobs = is;
    apart = apart;
    reading = reading;
    room_for = room;
    room = subst (λ n. n + 1 < 2 ^ 64) (sym count) safe.room;
  }

  pub looked_safe : (new : D) → d.fault_count new ≡ d.fault_count s.disk → IsSafe d (record s { disk = new })
  looked_safe new = stays_safe new s.places s.jobs safe.jobs safe.apart safe.reading safe.room_for
