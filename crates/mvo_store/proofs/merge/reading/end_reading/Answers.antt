use Rattle.std.proofs.Common.{refl, subst}
use Rattle.mvo_merge.specs.Merged.{MergedData}
use Rattle.mvo_store.specs.Files.{files_taken}
use Rattle.mvo_store.specs.MergePlanning.{IsPlannedMerge}
use Rattle.mvo_store.proofs.ReadOn.{rise_left, rise_right, few_numbers, few_records}
use Rattle.mvo_store.proofs.merge.reading.end_reading.Goals as goal

pub end-requires-in-Ok-clause-rise_left : goal.end-requires-in-Ok-clause-rise_left
end-requires-in-Ok-clause-rise_left c = rise_left c.args.manifest.now c.generation-generation.ensures.manifest c.args.reading c.requires.safe c.requires.read (λ rest. c.in-Ok.ensures c.args.reading.so_far rest c.requires.whole)

pub end-requires-in-Ok-clause-rise_right : goal.end-requires-in-Ok-clause-rise_right
end-requires-in-Ok-clause-rise_right c = rise_right c.args.manifest.now c.generation-generation.ensures.manifest c.args.reading c.requires.safe c.requires.read (λ rest. c.in-Ok.ensures c.args.reading.so_far rest c.requires.whole)

pub end-requires-in-Ok-clause-few : goal.end-requires-in-Ok-clause-few
end-requires-in-Ok-clause-few c = few_numbers c.args.manifest.now c.generation-generation.ensures.manifest c.args.reading c.requires.safe c.requires.read (λ rest. c.in-Ok.ensures c.args.reading.so_far rest c.requires.whole)

pub planned_merge-merge-requires : goal.planned_merge-merge-requires
planned_merge-merge-requires c = rw c.end-in-Ok.ensures (few_records c.args.manifest.now c.generation-generation.ensures.manifest c.args.reading c.requires.safe c.requires.read (λ rest. c.in-Ok.ensures c.args.reading.so_far rest c.requires.whole))

pub returns-in-Ok-clause-done : goal.returns-in-Ok-clause-done
returns-in-Ok-clause-done c =
    let g = c.args.reading in
    let merge = c.planned_merge-merge.result in
    record {
      is = c.generation-generation.ensures.manifest;
      ended = λ rest. c.in-Ok.ensures g.so_far rest c.requires.whole;
      planned = subst (λ (k : MergedData). IsPlannedMerge c.args.manifest.now (files_taken c.args.other) g.place g.left g.right k merge) c.end-in-Ok.ensures c.planned_merge-merge.ensures;
    }

pub returns-in-Err-clause-err : goal.returns-in-Err-clause-err
returns-in-Err-clause-err c = refl

pub returns-in-Err-clause-refused : goal.returns-in-Err-clause-refused
returns-in-Err-clause-refused c = λ rest. c.in-Err.ensures c.args.reading.so_far rest c.requires.whole
