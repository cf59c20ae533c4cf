use Rattle.std.proofs.Common.{◌≡◌, ◌≤◌, List, length, subst}
use Rattle.mvo_group.specs.Data.{GroupData}
use Rattle.mvo_pair.specs.Data.{Numbered}
use Rattle.mvo_pair.specs.declared.pair.Pair.{Pair}
use Rattle.mvo_places.specs.Places.{PlaceMap, ArePlaces}
use Rattle.mvo_ckpt.specs.Building.{IsBuiltCheckpointOf}
use Rattle.mvo_ckpt.specs.Checkpoint.{BuiltCheckpoint}
use Rattle.mvo_ckpt.specs.Ended.{deltas_of, AreOfPairs}
use Rattle.mvo_ckpt.specs.Writes.{records_of, gone_of}
use Rattle.mvo_store.proofs.checkpoint.planning.planned.Goals as goal

-- what is made beside the manifest's pairs
built_of : (at : PlaceMap) (gs : List GroupData) (ps qs : List Pair) → ps ≡ qs → (made : BuiltCheckpoint) → made.records ≡ records_of gs → made.gone ≡ gone_of gs → ((lives : List (List Numbered)) → ArePlaces ps lives at → made.deltas ≡ deltas_of gs ps lives) → AreOfPairs ps made.deltas → length made.deltas ≤ length ps → IsBuiltCheckpointOf at qs gs made
built_of at gs ps qs same made records gone deltas known few = subst (λ (k : List Pair). IsBuiltCheckpointOf at k gs made) same (record { records = records; gone = gone; deltas = deltas; known = known; few = few })

pub planned_of-requires : goal.planned_of-requires
planned_of-requires c =
    let e = c.in_ok-made.ensures in
    let gs = c.args.contents.groups.items in
    let at = c.args.places.now.at in
    (at, gs, c.requires, built_of at gs c.pairs.result.now c.args.manifest.now.pairs c.pairs.ensures.value c.in_ok-made.made e.records e.gone e.deltas e.known e.few)

pub returns-in-Ok-clause-planned : goal.returns-in-Ok-clause-planned
returns-in-Ok-clause-planned c =
    let e = c.in_ok-made.ensures in
    let gs = c.args.contents.groups.items in
    let at = c.args.places.now.at in
    c.in-Ok.ensures.planned at gs (built_of at gs c.pairs.result.now c.args.manifest.now.pairs c.pairs.ensures.value c.in_ok-made.made e.records e.gone e.deltas e.known e.few)

pub returns-clause-refused : goal.returns-clause-refused
returns-clause-refused c =
    let e = c.in_ok-made.ensures in
    let gs = c.args.contents.groups.items in
    let at = c.args.places.now.at in
    c.in-Err.ensures.refused at gs (built_of at gs c.pairs.result.now c.args.manifest.now.pairs c.pairs.ensures.value c.in_ok-made.made e.records e.gone e.deltas e.known e.few)
