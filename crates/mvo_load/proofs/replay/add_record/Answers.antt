use Rattle.std.proofs.Common.{◌∙◌, ◌++◌, List, map, ap}
use Rattle.std.proofs.lemmas.List.{map-append}
use Rattle.mvo_group.specs.Data.{RecordData, write_data}
use Rattle.mvo_group.specs.declared.write.Write.{Write}
use Rattle.mvo_load.proofs.replay.add_record.Goals as goal

pub returns : goal.returns
returns c =
    ap (λ (l : List Write). map write_data l) c.in_ok-append.ensures.items ∙ map-append write_data _ _
    ∙ ap (λ (r : RecordData). map write_data c.args.writes.now.items ++ r.writes) c.commit.view_is
