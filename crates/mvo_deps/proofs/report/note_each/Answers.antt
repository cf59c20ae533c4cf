use Rattle.std.proofs.Common.{◌+◌, sym, subst, take, drop, slice_index_or, ◌++◌, ◌∷◌, []}
use Rattle.std.proofs.lemmas.List.{take_more, take-append-drop}
use Rattle.mvo_types.specs.declared.ids.TxId.{TxId}
use Rattle.mvo_deps.specs.Data.{AreDistinctIds, dependency_noted}
use Rattle.mvo_deps.specs.Nodes.{IsEachChanged}
use Rattle.mvo_deps.proofs.Apart.{apart_front}
use Rattle.mvo_deps.proofs.Changes.{each_more}
use Rattle.mvo_deps.proofs.report.note_each.Goals as goal

pub loop-id-preserved : goal.loop-id-preserved
loop-id-preserved g c =
    let id : TxId = slice_index_or c.args.ids.now c.loop-id.id-index (record { 0 = 0 }) in
    let more = take_more c.args.ids.now c.loop-id.id-index (record { 0 = 0 }) c.loop-id-test.true in
    let apart : AreDistinctIds (take (c.loop-id.id-index + 1) c.args.ids.now) = apart_front (take (c.loop-id.id-index + 1) c.args.ids.now) (drop (c.loop-id.id-index + 1) c.args.ids.now) (subst AreDistinctIds (sym (take-append-drop (c.loop-id.id-index + 1) c.args.ids.now)) c.requires) in
    subst (λ ids. IsEachChanged (dependency_noted c.args.outcome) c.args.table.now c.note.new.table ids) (sym more)
    (subst (λ t. IsEachChanged (dependency_noted c.args.outcome) c.args.table.now t (take c.loop-id.id-index c.args.ids.now ++ id ∷ [])) (sym c.note.ensures)
    (each_more (dependency_noted c.args.outcome) c.args.table.now c.loop-id.table (take c.loop-id.id-index c.args.ids.now) id (subst AreDistinctIds more apart) c.loop-id.invariant))
