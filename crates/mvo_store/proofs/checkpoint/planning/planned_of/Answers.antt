use Rattle.std.proofs.Common.{◌≡◌, List, length, rules, refl, ap, sym, subst, ◌∙◌, inl, inr, ⊎_elim}
use Rattle.mvo_group.specs.Data.{GroupData}
use Rattle.mvo_pair.specs.Data.{EntryData}
use Rattle.mvo_manifest.specs.Data.{ManifestData}
use Rattle.mvo_places.specs.Places.{PlaceMap}
use Rattle.mvo_ckpt.specs.Building.{IsBuiltCheckpointOf}
use Rattle.mvo_ckpt.specs.Checkpoint.{BuiltCheckpoint, DeltaData}
use Rattle.mvo_pair.specs.declared.pair.Pair.{Pair}
use Rattle.mvo_store.specs.declared.checkpoint.stage.CheckpointStage.TheVariants.{Data}
use Rattle.mvo_store.specs.declared.checkpoint.checkpointing.Checkpointing.{Checkpointing}
use Rattle.mvo_store.specs.Checkpoint.{next_of}
use Rattle.mvo_store.specs.Files.{files_taken}
use Rattle.mvo_store.specs.Planning.{HaveCounts, IsPlan}
use Rattle.mvo_store.proofs.Checkpoints.{manifest_planned}
use Rattle.mvo_store.proofs.checkpoint.planning.planned_of.Goals as goal
use Rattle.mvo_store.proofs.checkpoint.planning.planned_of.Goals.{After-deref}

-- what is planned, with this manifest
abbrev plan_with : goal.After-deref → ManifestData → Checkpointing
plan_with c next = record {
  pair = record { data_file = c.two_free-data_file.result.0; delta_file = c.two_free-data_file.result.1; lo = c.checkpoint_mark.result; hi = c.args.mark; records = length c.as_slice-records.result.now; entries = 0 };
  made = c.args.made;
  next = next;
  stage = Data 0;
  placed = 0;
}

counts_of : (c : goal.After-deref) (ps : List Pair) → HaveCounts c.deref.result.now ps → HaveCounts c.args.made.deltas ps
counts_of c ps = subst (λ (ds : List DeltaData). HaveCounts ds ps) (c.deref.ensures.value ∙ ap (λ (k : BuiltCheckpoint). k.deltas) c.made.view_is)

plan_of : (c : goal.After-deref) (at : PlaceMap) (groups : List GroupData) → IsBuiltCheckpointOf at c.args.manifest.now.pairs groups c.args.made → (next : ManifestData) → next ≡ next_of c.args.manifest.now (plan_with c next).pair c.args.made.deltas → IsPlan c.args.manifest.now (files_taken c.args.other) groups c.args.mark.0 (plan_with c next)
plan_of c at groups built next next_is =
    let made = c.args.made in
    let counted : length c.as_slice-records.result.now ≡ length made.records = ap (λ (es : List EntryData). length es) (c.as_slice-records.ensures.value ∙ ap (λ (k : BuiltCheckpoint). k.records) c.made.view_is) in
    search (rules, built, c.checkpoint_mark.ensures.value, counted, c.two_free-data_file.ensures, next_is)

pub checkpointed-requires : goal.checkpointed-requires
checkpointed-requires c = λ counts.
    let here = (goal.at.checkpointed-requires c).After-deref in
    let may = c.requires in
    let plan = plan_of here may.0 may.1 may.3 _ refl in
    rw (c.deref.ensures.value ∙ ap (λ (k : BuiltCheckpoint). k.deltas) c.made.view_is) (manifest_planned _ _ _ may.2 _ _ plan (counts_of here c.args.manifest.now.pairs counts))

pub returns-in-Ok-clause-planned : goal.returns-in-Ok-clause-planned
returns-in-Ok-clause-planned c at groups built =
    let here = (goal.at.returns-in-Ok-clause-planned c).After-deref in
    let deltas_same = c.deref.ensures.value ∙ ap (λ (k : BuiltCheckpoint). k.deltas) c.made.view_is in
    record {
      plan = plan_of here at groups built c.in-Ok.next (rw (← deltas_same) c.in-Ok.ensures.next);
      known = built.known;
      counts = counts_of here c.args.manifest.now.pairs c.in-Ok.ensures.counts;
      deltas = built.deltas;
    }

pub returns-in-Err-clause-refused : goal.returns-in-Err-clause-refused
returns-in-Err-clause-refused c at groups built =
    ⊎_elim (λ memory. inl memory) (λ broken. inr (broken.0, λ fits. broken.1 (subst (λ (ds : List DeltaData). HaveCounts ds c.args.manifest.now.pairs) (sym (built.deltas fits.0 fits.1) ∙ sym (c.deref.ensures.value ∙ ap (λ (k : BuiltCheckpoint). k.deltas) c.made.view_is)) fits.2))) c.in-Err.ensures.refused
