use Rattle.std.proofs.Common.{◌≡◌, get_or, suc, ◌-◌, ap, ◌∙◌, List, arith, Bool, IsTrue, subst}
use Rattle.mvo_ckpt.specs.Checkpoint.{DeltaData}
use Rattle.mvo_store.specs.declared.checkpoint.stage.CheckpointStage.TheVariants.{Delta as AtDelta}
use Rattle.mvo_store.specs.declared.checkpoint.checkpointing.Checkpointing.{Checkpointing}
use Rattle.mvo_store.proofs.Written.{IsNextOlder, start_of, pair_below, older_step}
use Rattle.mvo_store.proofs.checkpoint.deltas.append_older_delta.Goals as goal

pub append_delta-requires-clause-file : goal.append_delta-requires-clause-file
append_delta-requires-clause-file g c = pair_below c.args.manifest.now c.pairs.ensures.manifest c.pair_with-pair.result (rw c.pairs.ensures.value at c.pair_with-pair.ensures.among)

pub append_delta-requires-clause-start : goal.append_delta-requires-clause-start
append_delta-requires-clause-start g c = λ honest.
    let s = c.requires.stands honest in
    start_of g.D.Disk c.args.disk.now c.args.disk.now c.args.manifest.now s.0 c.args.checkpoint.now s.1 c.pair_with-pair.result (rw c.pairs.ensures.value at c.pair_with-pair.ensures.among)

pub returns : goal.returns
returns g c =
    let e = c.index-deltas-written.result in
    let i = c.append_delta.ensures in
    let later = c.requires.later in
    let behind : c.args.written ≡ suc (c.args.written - 1) = omega arith in
    let list_is = c.as_slice-deltas.ensures.value ∙ ap (λ (k : Checkpointing). k.made.deltas) c.checkpoint.view_is in
    let next : IsNextOlder c.args.manifest.now c.args.checkpoint.now (c.args.written - 1) c.pair_with-pair.result e = record {
      at = c.requires.at ∙ ap (λ n. AtDelta n) behind;
      among = rw c.pairs.ensures.value at c.pair_with-pair.ensures.among;
      is = c.index-deltas-written.is ∙ ap (λ (l : List DeltaData). get_or l (c.args.written - 1) e) list_is;
      of = c.pair_with-pair.ensures.file ∙ ap (λ (z : DeltaData). z.data_file) c.delta.view_is;
    } in
    let numbers_are = c.deref.ensures.value ∙ ap (λ (z : DeltaData). z.numbers) c.delta.view_is in
    older_step g.D.Disk c.args.disk.now c.append_delta.new.disk c.args.manifest.now c.args.checkpoint.now c.append_delta.result i.count i.refused (c.args.written - 1) c.pair_with-pair.result e next (λ h. subst (λ (b : Bool). IsTrue b) i.honest h) i.rest i.any_moment (rw numbers_are at i.gains) i.durable (rw numbers_are at i.written)
