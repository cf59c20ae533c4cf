-- A segment that is read in slices, and its pair that is built in slices: what a slice makes of them.
use Rattle.std.proofs.Common.{◌≡◌, ◌⊎◌, ⊎_elim, ℕ, ◌+◌, ◌<◌, ◌≤◌, List, Some, Result, Ok, Err, sym, subst, ◌∙◌}
use Rattle.std.specs.Prelude.{OnOk, IfErr}
use Rattle.mvo_types.specs.declared.ids.Stamp.{Stamp}
use Rattle.mvo_types.specs.declared.refusal.Refusal.{Refusal}
use Rattle.mvo_group.specs.Data.{GroupData}
use Rattle.mvo_format.specs.declared.format.TheConstants.{LAST_FORMAT}
use Rattle.mvo_frame.specs.declared.kind.Kind.TheVariants.{Sealed}
use Rattle.mvo_frame.specs.declared.lengths.TheConstants.{MAX_FRAME_LEN, SLICE_LEN}
use Rattle.mvo_frame.specs.Frames.{IsSegment, mark_after}
use Rattle.mvo_frame.specs.Slices.{ReaderData, IsReadTo, HasClosedGateAt, SegmentHas}
use Rattle.mvo_pair.specs.Writing.{IsStop}
use Rattle.mvo_manifest.specs.Data.{ManifestData}
use Rattle.mvo_manifest.specs.Rules.{IsManifest}
use Rattle.mvo_places.specs.Places.{PlaceMap}
use Rattle.mvo_ckpt.specs.Checkpoint.{BuiltCheckpoint}
use Rattle.mvo_ckpt.specs.declared.building.Building.{Building}
use Rattle.mvo_ckpt.specs.declared.building.Built.TheVariants.{More, Ready}
use Rattle.mvo_ckpt.specs.Building.{IsBuilding, IsBuiltCheckpointOf}
use Rattle.mvo_recovery.specs.image.Opens.{Image}
use Rattle.mvo_load.specs.Framed.{IsFramedTo, IsAllFramed, IsStopOrOnly}
use Rattle.mvo_load.specs.Read.{IsMisread, IsDiskUnchanged, HasRead}
use Rattle.mvo_disk.specs.declared.disk.Disk.{Ghosts}
use Rattle.mvo_pair.specs.Answers.{IsOnly}
use Rattle.mvo_recovery.specs.image.Files.{SegmentIs}
use Rattle.mvo_frame.proofs.Slices.{has_only}
use Rattle.mvo_store.specs.declared.checkpoint.checkpointing.Checkpointing.{Checkpointing}
use Rattle.mvo_store.specs.declared.checkpoint.checkpoint_job.CheckpointJob.{CheckpointJob}
use Rattle.mvo_store.specs.declared.checkpoint.checkpoint_job.CheckpointJob.TheVariants.{Reading as Reads, Running as Runs}
use Rattle.mvo_store.specs.declared.checkpoint.reading.CheckpointReading.TheVariants.{Frames, Whole, Pair}
use Rattle.mvo_store.specs.Planning.{MayPlan, CountsFit, IsPlanRefusal, IsStoppedBeside}
use Rattle.mvo_store.specs.SegmentRead.{oldest_file, MayReadCheckpoint, IsFramesRead, IsWholeRead, IsPairBuilt, IsWholeOf, IsPairOf, IsSafeSegmentRead, IsSegmentRead}
use Rattle.mvo_store.specs.SegmentSlices.{MayPlanOf, IsEndedPlan, IsEndedPlanTo, IsSegmentFurther, IsSegmentPlanned, IsSegmentSliceTo}
use Rattle.mvo_store.proofs.Checkpoints.{may_plan_of, safe_planned, read_to, counts_are, read_stands, read_never, plan_why, plan_stop, plan_count}

-- ---- a refusal of what the segment of a settled manifest holds

module _ (content : Image) (may : ℕ → List ℕ → Type 0) (m : ManifestData) (ready : MayReadCheckpoint m) (at : PlaceMap) (e : Refusal) where
  pub stop_or_only : (file : ℕ) → file ≡ oldest_file m → IsStopOrOnly LAST_FORMAT.version file m.checkpoint_mark (content file) e → IsStoppedBeside content may m at e
  stop_or_only file is told x settled are =
      ⊎_elim (λ stop. stop) (λ only. absurd (read_never content may m x settled ready.sealed e (only Sealed)))
      (subst (λ n. IsStopOrOnly LAST_FORMAT.version n m.checkpoint_mark (content n) e) is told)

-- ---- it is begun

module _ (honest : Type 0) (bytes : List ℕ) (m : ManifestData) (ready : MayReadCheckpoint m) (r : ReaderData) (file : r.file ≡ oldest_file m) (begun : IsFramedTo LAST_FORMAT.version m.checkpoint_mark honest bytes r) (at : PlaceMap) where
  pub begun_safe : IsSafeSegmentRead m at (Frames r)
  begun_safe = record { may = ready; read = record { file = file; some = begun.some } }

  pub begun_stands : honest → IsSegmentRead m at bytes (Frames r)
  begun_stands now = record { sealed = ready.sealed; read = begun.of_file now }

-- ---- frames

module _ (honest : Type 0) (content : Image) (m : ManifestData) (old : ReaderData) (read : IsFramesRead m old) (of : honest → IsReadTo LAST_FORMAT.version m.checkpoint_mark (content (oldest_file m)) old) where
  pub framed_so : IsFramedTo LAST_FORMAT.version m.checkpoint_mark honest (content old.file) old
  framed_so = record { some = read.some; of_file = λ now. subst (λ n. IsReadTo LAST_FORMAT.version m.checkpoint_mark (content n) old) (sym read.file) (of now) }

  module _ (later : Type 0) (new : ReaderData) (same : new.file ≡ old.file) (on : IsFramedTo LAST_FORMAT.version m.checkpoint_mark later (content old.file) new) (most : new.gate ≤ old.gate + SLICE_LEN + MAX_FRAME_LEN) (at : PlaceMap) where
    to_oldest : later → IsReadTo LAST_FORMAT.version m.checkpoint_mark (content (oldest_file m)) new
    to_oldest now = subst (λ n. IsReadTo LAST_FORMAT.version m.checkpoint_mark (content n) new) read.file (on.of_file now)

    pub more_frames : old.gate < new.gate → IsSegmentFurther later (content (oldest_file m)) m at (Frames old) (Frames new)
    more_frames lt = record {
      next = (record { file = same; most = most }, lt);
      safe = record { file = same ∙ read.file; some = on.some };
      of = to_oldest;
    }

    pub all_frames : IsAllFramed LAST_FORMAT.version m.checkpoint_mark later (content old.file) new → IsSegmentFurther later (content (oldest_file m)) m at (Frames old) (Whole new)
    all_frames end = record {
      next = record { file = same; most = most };
      safe = record { file = same ∙ read.file; some = end.some };
      of = λ now. record { to = to_oldest now; closed = subst (λ n. HasClosedGateAt new.gate (content n)) read.file (end.of_file now) };
    }

-- ---- the turn to the pair

module _ (m : ManifestData) (at : PlaceMap) (r : ReaderData) (groups : List GroupData) (are : groups ≡ r.groups) (mark : Stamp) (mark_is : mark.0 ≡ mark_after m.checkpoint_mark groups) (b : Building) (begun : IsBuilding at m.pairs groups b)
    (ok : (upto start : ℕ) (bytes : List ℕ) → IsReadTo upto start bytes r → HasClosedGateAt r.gate bytes → IsSegment upto start Sealed r.groups bytes) where
  segment_is : (bytes : List ℕ) → IsReadTo LAST_FORMAT.version m.checkpoint_mark bytes r → HasClosedGateAt r.gate bytes → IsSegment LAST_FORMAT.version m.checkpoint_mark Sealed groups bytes
  segment_is bytes to closed = subst (λ (gs : List GroupData). IsSegment LAST_FORMAT.version m.checkpoint_mark Sealed gs bytes) (sym are) (ok LAST_FORMAT.version m.checkpoint_mark bytes to closed)

  pub turned_safe : IsWholeRead m r → IsPairBuilt m at mark.0 (More b)
  turned_safe whole = record {
    groups = groups;
    may = (whole.some.0, segment_is whole.some.0 whole.some.1 whole.some.2);
    mark_is = mark_is;
    built = begun;
  }

  pub turned_of : (bytes : List ℕ) → IsWholeOf m bytes r → IsPairOf m at bytes mark.0 (More b)
  turned_of bytes h = record { groups = groups; has = segment_is bytes h.to h.closed; mark_is = mark_is; built = begun }

-- ---- the plan

module _ (m : ManifestData) (is : IsManifest m) (ready : MayReadCheckpoint m) (at : PlaceMap) (mark : Stamp) (made : BuiltCheckpoint) where
  may_plan : (h : IsPairBuilt m at mark.0 (Ready made)) → MayPlan m h.groups mark.0
  may_plan h = may_plan_of m is ready h.groups mark.0 h.may h.mark_is

  pub may_plan_made : IsPairBuilt m at mark.0 (Ready made) → MayPlanOf m mark.0 made
  may_plan_made h = (at, h.groups, may_plan h, h.built)

  module _ (h : IsPairBuilt m at mark.0 (Ready made)) (taken : List ℕ) (c : Checkpointing) (room : ℕ) (ended : IsEndedPlan m taken room mark.0 made c) (honest : Type 0) (content : Image) (may : ℕ → List ℕ → Type 0)
      (of : honest → IsPairOf m at (content (oldest_file m)) mark.0 (Ready made)) where
    has_groups : (now : honest) → MayPlan m (of now).groups mark.0
    has_groups now = may_plan_of m is ready (of now).groups mark.0 (content (oldest_file m), (of now).has) (of now).mark_is

    pub planned_segment : IsSegmentPlanned honest content may m at room taken (Pair mark (Ready made)) c
    planned_segment =
        let p = ended.planned at h.groups h.built in
        record {
          read = record {
            all = tt;
            some = read_to ⊥ content m h.groups mark.0 (may_plan h) h.mark_is (λ never. absurd never) taken c p.plan;
            has = λ now. read_to (Unit {0}) content m (of now).groups mark.0 (has_groups now) (of now).mark_is (λ _. (of now).has) taken c (ended.planned at (of now).groups (of now).built).plan;
          };
          safe = safe_planned m h.groups mark.0 (may_plan h) taken c p.plan p.known;
          fits = ended.fits;
          stands = λ now x settled are. read_stands content may m x settled ready.sealed (of now).groups (segment_only (of now).groups (of now).has) at are mark.0 (of now).mark_is (has_groups now) taken c (ended.planned at (of now).groups (of now).built);
        }
      where
        segment_only : (groups : List GroupData) → IsSegment LAST_FORMAT.version m.checkpoint_mark Sealed groups (content (oldest_file m)) → IsOnly (SegmentIs LAST_FORMAT.version (oldest_file m) m.checkpoint_mark Sealed (content (oldest_file m))) (Ok groups)
        segment_only groups has = (has, λ z says. has_only LAST_FORMAT.version (oldest_file m) m.checkpoint_mark Sealed (content (oldest_file m)) (Ok groups) z has says)

  -- so it is of whichever comes
  module _ (h : IsPairBuilt m at mark.0 (Ready made)) (taken : List ℕ) (room : ℕ) (honest : Type 0) (content : Image) (may : ℕ → List ℕ → Type 0) (of : honest → IsPairOf m at (content (oldest_file m)) mark.0 (Ready made)) where
    ended_slice : (j : CheckpointJob) → IsEndedPlanTo m taken room mark.0 made j → IsSegmentSliceTo honest content may m at room taken (Pair mark (Ready made)) (Some j)
    ended_slice (Reads r) e = absurd e
    ended_slice (Runs c) e = planned_segment h taken c room e honest content may of

    pub ended_done : (j : CheckpointJob) (r : Result (Unit {0}) Refusal) → OnOk r (IsEndedPlanTo m taken room mark.0 made j) → OnOk r (IsSegmentSliceTo honest content may m at room taken (Pair mark (Ready made)) (Some j))
    ended_done j (Ok a) e = ended_slice j e
    ended_done j (Err k) e = tt

  -- what refuses it
  abbrev pub RefusesPlan : Result (Unit {0}) Refusal → Type 0
  RefusesPlan r = (at : PlaceMap) (groups : List GroupData) → IsBuiltCheckpointOf at m.pairs groups made → IfErr r (IsPlanRefusal (CountsFit m at groups))

  pub ended_why : IsPairBuilt m at mark.0 (Ready made) → (r : Result (Unit {0}) Refusal) → RefusesPlan r → IfErr r (λ e. IsStop e ⊎ IsMisread e)
  ended_why h (Ok a) refused = tt
  ended_why h (Err e) refused = plan_why _ e (refused at h.groups h.built)

  pub ended_stop : (content : Image) (may : ℕ → List ℕ → Type 0) → IsPairOf m at (content (oldest_file m)) mark.0 (Ready made) → (r : Result (Unit {0}) Refusal) → RefusesPlan r → IfErr r (IsStoppedBeside content may m at)
  ended_stop content may of (Ok a) refused = tt
  ended_stop content may of (Err e) refused = λ x settled are. plan_stop _ e (counts_are content may m x settled ready.sealed at are of.groups) (refused at of.groups of.built)

  -- no call of the device was made
  pub ended_read : {D : Type 0} (d : Ghosts D) (disk : D) → IsDiskUnchanged d disk disk → IsPairBuilt m at mark.0 (Ready made) → (r : Result (Unit {0}) Refusal) → RefusesPlan r → HasRead d disk disk r
  ended_read d disk u h (Ok a) refused = record { rest = u.rest; any_moment = u.any_moment; count = u.count }
  ended_read d disk u h (Err e) refused = record { rest = u.rest; any_moment = u.any_moment; count = plan_count _ (d.fault_count disk) (d.fault_count disk) e u.count (refused at h.groups h.built) }

-- ---- refusals of the stages

module _ (m : ManifestData) (ready : MayReadCheckpoint m) (at : PlaceMap) (content : Image) (may : ℕ → List ℕ → Type 0) (e : Refusal) where
  pub turn_never : SegmentHas LAST_FORMAT.version (oldest_file m) m.checkpoint_mark Sealed (content (oldest_file m)) (Err e) → IsStoppedBeside content may m at e
  turn_never says x settled are = absurd (read_never content may m x settled ready.sealed e (says, λ z is. has_only LAST_FORMAT.version (oldest_file m) m.checkpoint_mark Sealed (content (oldest_file m)) (Err e) z says is))

pub turn_stops : (m : ManifestData) (ready : MayReadCheckpoint m) (at : PlaceMap) (content : Image) (may : ℕ → List ℕ → Type 0) (r : Result (Unit {0}) Refusal) → IfErr r (λ e. SegmentHas LAST_FORMAT.version (oldest_file m) m.checkpoint_mark Sealed (content (oldest_file m)) (Err e)) → IfErr r (IsStoppedBeside content may m at)
turn_stops m ready at content may (Ok a) says = tt
turn_stops m ready at content may (Err e) says = turn_never m ready at content may e says
