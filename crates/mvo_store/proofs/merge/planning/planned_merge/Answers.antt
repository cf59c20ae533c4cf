use Rattle.std.proofs.Common.{◌≡◌, List, length, rules, ap, ◌∙◌}
use Rattle.mvo_pair.specs.Data.{EntryData}
use Rattle.mvo_merge.specs.Merged.{MergedData}
use Rattle.mvo_store.proofs.merge.planning.planned_merge.Goals as goal

pub returns : goal.returns
returns c =
    let counted : length c.as_slice-records.result.now ≡ length c.args.made.records = ap (λ (es : List EntryData). length es) (c.as_slice-records.ensures.value ∙ ap (λ (k : MergedData). k.records) c.made.view_is) in
    search (rules, counted, c.two_free-data_file.ensures)
