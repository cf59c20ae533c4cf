use Rattle.std.proofs.Common.{subst}
use Rattle.mvo_ckpt.specs.declared.building.Built.{Built}
use Rattle.mvo_ckpt.specs.Building.{IsBuiltCheckpointOf, IsBuilt}
use Rattle.mvo_ckpt.proofs.building.build.Goals as goal

pub loop-built-init : goal.loop-built-init
loop-built-init c = c.begin-building.ensures c.args.pairs.now

pub loop-built-preserved : goal.loop-built-preserved
loop-built-preserved c = subst (λ (x : Built). IsBuilt c.args.places.now.at c.args.pairs.now c.args.groups.items x) c.in-More.is (c.in-Ok.ensures.built c.args.groups.items c.loop-built.invariant)

pub returns-in-Ready-clause-records : goal.returns-in-Ready-clause-records
returns-in-Ready-clause-records c =
    let is : IsBuiltCheckpointOf c.args.places.now.at c.args.pairs.now c.args.groups.items c.in-Ready.checkpoint = subst (λ (x : Built). IsBuilt c.args.places.now.at c.args.pairs.now c.args.groups.items x) c.in-Ready.is (c.in-Ok.ensures.built c.args.groups.items c.loop-built.invariant) in
    is.records

pub returns-in-Ready-clause-gone : goal.returns-in-Ready-clause-gone
returns-in-Ready-clause-gone c =
    let is : IsBuiltCheckpointOf c.args.places.now.at c.args.pairs.now c.args.groups.items c.in-Ready.checkpoint = subst (λ (x : Built). IsBuilt c.args.places.now.at c.args.pairs.now c.args.groups.items x) c.in-Ready.is (c.in-Ok.ensures.built c.args.groups.items c.loop-built.invariant) in
    is.gone

pub returns-in-Ready-clause-deltas : goal.returns-in-Ready-clause-deltas
returns-in-Ready-clause-deltas c =
    let is : IsBuiltCheckpointOf c.args.places.now.at c.args.pairs.now c.args.groups.items c.in-Ready.checkpoint = subst (λ (x : Built). IsBuilt c.args.places.now.at c.args.pairs.now c.args.groups.items x) c.in-Ready.is (c.in-Ok.ensures.built c.args.groups.items c.loop-built.invariant) in
    is.deltas

pub returns-in-Ready-clause-known : goal.returns-in-Ready-clause-known
returns-in-Ready-clause-known c =
    let is : IsBuiltCheckpointOf c.args.places.now.at c.args.pairs.now c.args.groups.items c.in-Ready.checkpoint = subst (λ (x : Built). IsBuilt c.args.places.now.at c.args.pairs.now c.args.groups.items x) c.in-Ready.is (c.in-Ok.ensures.built c.args.groups.items c.loop-built.invariant) in
    is.known

pub returns-in-Ready-clause-few : goal.returns-in-Ready-clause-few
returns-in-Ready-clause-few c =
    let is : IsBuiltCheckpointOf c.args.places.now.at c.args.pairs.now c.args.groups.items c.in-Ready.checkpoint = subst (λ (x : Built). IsBuilt c.args.places.now.at c.args.pairs.now c.args.groups.items x) c.in-Ready.is (c.in-Ok.ensures.built c.args.groups.items c.loop-built.invariant) in
    is.few
