use Rattle.std.proofs.Common.{List, subst}
use Rattle.mvo_group.specs.Data.{GroupData}
use Rattle.mvo_pair.specs.declared.pair.Pair.{Pair}
use Rattle.mvo_ckpt.specs.Building.{IsBuilding, IsBuilt}
use Rattle.mvo_store.proofs.checkpoint.reading.build_on.Goals as goal
use Rattle.mvo_store.proofs.checkpoint.reading.build_on.Goals.{In-Ok}

-- built on beside the manifest's pairs
built_on : (c : goal.In-Ok) (gs : List GroupData) → IsBuilding c.args.places.now.at c.args.manifest.now.pairs gs c.args.building → IsBuilt c.args.places.now.at c.args.manifest.now.pairs gs c.in-Ok.built
built_on c gs = subst (λ (ps : List Pair). IsBuilding c.args.places.now.at ps gs c.args.building → IsBuilt c.args.places.now.at ps gs c.in-Ok.built) c.pairs.ensures.value (c.in-Ok.ensures.built gs)

pub returns-in-Ok-clause-safe : goal.returns-in-Ok-clause-safe
returns-in-Ok-clause-safe c =
    let h = c.requires.built in
    record { groups = h.groups; may = h.may; mark_is = h.mark_is; built = built_on (goal.at.returns-in-Ok-clause-safe c).In-Ok h.groups h.built }

pub returns-in-Ok-clause-of : goal.returns-in-Ok-clause-of
returns-in-Ok-clause-of c = λ bytes h.
    record { groups = h.groups; has = h.has; mark_is = h.mark_is; built = built_on (goal.at.returns-in-Ok-clause-of c).In-Ok h.groups h.built }
