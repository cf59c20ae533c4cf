use Rattle.std.proofs.Common.{◌≤◌, List, length, ap, arith, ◌∙◌}
use Rattle.mvo_pair.specs.Data.{EntryData}
use Rattle.mvo_store.specs.declared.checkpoint.checkpointing.Checkpointing.{Checkpointing}
use Rattle.mvo_store.proofs.SegmentOn.{may_plan_made}
use Rattle.mvo_store.proofs.checkpoint.reading.end_building.Goals as goal

pub planned_of-requires : goal.planned_of-requires
planned_of-requires c = may_plan_made c.args.manifest.now c.generation-generation.ensures.manifest c.requires.may c.args.places.now.at c.args.mark c.args.made c.requires.built

pub returns-in-Ok-reserve-clause-done : goal.returns-in-Ok-reserve-clause-done
returns-in-Ok-reserve-clause-done c =
    let fits : length c.in-Ok.checkpoint.made.records ≤ c.reserve.new.self.room = omega (arith, ap (λ (es : List EntryData). length es) (c.as_slice.ensures.value ∙ ap (λ (k : Checkpointing). k.made.records) c.checkpoint.view_is), c.in-Ok-reserve.ensures.ok) in
    record { planned = λ at groups built. c.in-Ok.ensures.planned at groups built; fits = fits }
