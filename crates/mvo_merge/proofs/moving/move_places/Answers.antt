use Rattle.std.proofs.Common.{List, length, refl, ap, ◌∙◌, arith}
use Rattle.std.proofs.lemmas.List.{take_all}
use Rattle.mvo_pair.specs.Data.{EntryData}
use Rattle.mvo_merge.specs.Moved.{moved}
use Rattle.mvo_merge.proofs.moving.move_places.Goals as goal

pub returns-clause-moved : goal.returns-clause-moved
returns-clause-moved c = λ keys.
    let es = c.args.records.now in
    let old = c.args.places.now.at in
    c.move_places_upto.ensures.moved keys old refl
    ∙ ap (λ (xs : List EntryData). moved c.args.left c.args.right c.args.data_file xs old) (take_all (length es) es (omega arith))
