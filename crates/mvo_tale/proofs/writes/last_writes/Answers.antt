use Rattle.std.proofs.Common.{take, ap, ◌∙◌}
use Rattle.std.specs.Option.{option_map}
use Rattle.mvo_model.specs.History.{net_write}
use Rattle.mvo_theory.specs.Told.{history_told}
use Rattle.mvo_tale.specs.Stored.{write_as}
use Rattle.mvo_tale.specs.Records.{with_newer}
use Rattle.mvo_tale.proofs.Noting.{none_yet, note_step, as_many}
use Rattle.mvo_tale.proofs.writes.last_writes.Goals as goal

pub loop-told-init : goal.loop-told-init
loop-told-init c = none_yet c.args.keys.now c.in_ok-lasts.lasts.items c.in_ok-lasts.ensures

pub note-requires-clause-len : goal.note-requires-clause-len
note-requires-clause-len c =
    as_many c.args.keys.now c.loop-told.lasts.items (λ k. net_write k (history_told (take c.loop-told.told-index c.args.operations.now))) c.loop-told.invariant

pub loop-told-preserved : goal.loop-told-preserved
loop-told-preserved c =
    let ks = c.args.keys.now in
    let w = option_map write_as c.write_by.result in
    c.note.ensures
    ∙ ap (with_newer w ks) c.loop-told.invariant
    ∙ note_step ks c.args.operations.now c.loop-told.told-index c.told-item.result w c.loop-told-test.true c.told-item.is c.write_by.ensures
