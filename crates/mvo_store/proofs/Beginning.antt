-- A checkpoint or a merge that begins beside the other: what holds of both, and that they share no file.
use Rattle.std.proofs.Common.{◌≡◌, ◌⊎◌, inl, inr, ℕ, Bool, true, false, eqb, ◌||◌, ◌∷◌, Option, Some, None, refl, sym, ap, subst, ◌∙◌}
use Rattle.std.specs.List.{AllByRecursion, list_any}
use Rattle.std.proofs.lemmas.Bool.{or_parts, eqb-true}
use Rattle.mvo_pair.specs.declared.pair.Pair.{Pair}
use Rattle.mvo_manifest.specs.Data.{ManifestData}
use Rattle.mvo_places.specs.Places.{PlaceTable}
use Rattle.mvo_store.specs.declared.checkpoint.checkpointing.Checkpointing.{Checkpointing}
use Rattle.mvo_store.specs.declared.checkpoint.checkpoint_job.CheckpointJob.{CheckpointJob}
use Rattle.mvo_store.specs.declared.checkpoint.checkpoint_job.CheckpointJob.TheVariants.{Reading as Reads, Running as Runs}
use Rattle.mvo_store.specs.declared.merge.merging.Merging.{Merging}
use Rattle.mvo_store.specs.declared.merge.merge_job.MergeJob.{MergeJob}
use Rattle.mvo_store.specs.declared.merge.merge_job.MergeJob.TheVariants.{Reading, Running}
use Rattle.mvo_store.specs.declared.jobs.jobs.Jobs.TheVariants.{Beside}
use Rattle.mvo_store.specs.Jobs.{Job, jobs_of, job_takes_file, checkpoint_pair, merge_pair}
use Rattle.mvo_store.specs.Jobs.Job.{Checkpoint, Merge}
use Rattle.mvo_store.specs.Files.{files_taken, IsLeastFree}
use Rattle.mvo_store.specs.Standing.{ShareNone, JobsHaveRoom}
use Rattle.mvo_store.proofs.Logged.{free_untaken}

-- ---- the files

either : (a b : Bool) → (a || b) ≡ true → (a ≡ true) ⊎ (b ≡ true)
either true b e = inl refl
either false b e = inr e

turned : (a b : Bool) → (b ≡ true → a ≡ false) → a ≡ true → b ≡ false
turned a true apart e = absurd (cc (sym e ∙ apart refl))
turned a false apart e = refl

-- a file that is none of the pair's
not_of : (q : Pair) (a n : ℕ) → list_any (λ k. eqb k a) (files_taken (Some q)) ≡ false → eqb a n ≡ true → (eqb q.data_file n || eqb q.delta_file n) ≡ false
not_of q a n none is =
    let first = or_parts (eqb q.data_file a) (eqb q.delta_file a || false) none in
    let second = or_parts (eqb q.delta_file a) false first.1 in
    subst (λ (k : ℕ). (eqb q.data_file k || eqb q.delta_file k) ≡ false) (eqb-true a n is) (ap (λ (t : Bool). t || eqb q.delta_file a) first.0 ∙ second.0)

-- the two least free files, where those of a pair are taken
share_free : (m : ManifestData) (p q : Pair) → IsLeastFree m (files_taken (Some q)) p.data_file → IsLeastFree m (p.data_file ∷ files_taken (Some q)) p.delta_file → (n : ℕ) → (eqb p.data_file n || eqb p.delta_file n) ≡ true → (eqb q.data_file n || eqb q.delta_file n) ≡ false
share_free m p q data_file delta_file n has = go (either (eqb p.data_file n) (eqb p.delta_file n) has)
  where
    go : (eqb p.data_file n ≡ true) ⊎ (eqb p.delta_file n ≡ true) → (eqb q.data_file n || eqb q.delta_file n) ≡ false
    go (inl is) = not_of q p.data_file n (free_untaken m (files_taken (Some q)) p.data_file data_file) is
    go (inr is) = not_of q p.delta_file n (or_parts (eqb p.data_file p.delta_file) (list_any (λ k. eqb k p.delta_file) (files_taken (Some q))) (free_untaken m (p.data_file ∷ files_taken (Some q)) p.delta_file delta_file)).1 is

-- THE JOBS SHARE NO FILE.
pub checkpoint_shares_none : (m : ManifestData) (c : Checkpointing) (g : Option MergeJob) → IsLeastFree m (files_taken (merge_pair (Beside None g))) c.pair.data_file → IsLeastFree m (c.pair.data_file ∷ files_taken (merge_pair (Beside None g))) c.pair.delta_file → ShareNone (Beside (Some (Runs c)) g)
checkpoint_shares_none m c None data_file delta_file = tt
checkpoint_shares_none m c (Some (Reading r)) data_file delta_file = tt
checkpoint_shares_none m c (Some (Running g)) data_file delta_file = share_free m c.pair g.seen.pair data_file delta_file

pub merge_shares_none : (m : ManifestData) (c : Option CheckpointJob) (g : Merging) → IsLeastFree m (files_taken (checkpoint_pair (Beside c None))) g.seen.pair.data_file → IsLeastFree m (g.seen.pair.data_file ∷ files_taken (checkpoint_pair (Beside c None))) g.seen.pair.delta_file → ShareNone (Beside c (Some (Running g)))
merge_shares_none m None g data_file delta_file = tt
merge_shares_none m (Some (Reads r)) g data_file delta_file = tt
merge_shares_none m (Some (Runs c)) g data_file delta_file = λ n. turned (job_takes_file (Checkpoint c) n) (job_takes_file (Merge g) n) (share_free m g.seen.pair c.pair data_file delta_file n)

-- ---- what holds of each

module _ (P : Job → Type 0) where
  pub with_checkpoint_all : (c : Checkpointing) (g : Option MergeJob) → P (Checkpoint c) → AllByRecursion P (jobs_of (Beside None g)) → AllByRecursion P (jobs_of (Beside (Some (Runs c)) g))
  with_checkpoint_all c None now all = (now, tt)
  with_checkpoint_all c (Some (Reading r)) now all = (now, tt)
  with_checkpoint_all c (Some (Running g)) now all = (now, all)

  pub with_merge_all : (c : Option CheckpointJob) (g : Merging) → P (Merge g) → AllByRecursion P (jobs_of (Beside c None)) → AllByRecursion P (jobs_of (Beside c (Some (Running g))))
  with_merge_all None g now all = (now, tt)
  with_merge_all (Some (Reads r)) g now all = (now, tt)
  with_merge_all (Some (Runs c)) g now all = (all.0, (now, tt))

-- a merge needs no room
pub merge_room : (places : PlaceTable) (g : Option MergeJob) → JobsHaveRoom places (Beside None g)
merge_room places None = tt
merge_room places (Some (Reading r)) = tt
merge_room places (Some (Running g)) = (tt, tt)
