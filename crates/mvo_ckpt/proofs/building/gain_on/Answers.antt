use Rattle.std.proofs.Common.{◌≤◌, length, arith}
use Rattle.mvo_ckpt.proofs.building.gain_on.Goals as goal

pub returns-then-gaining-pairs-clause-built : goal.returns-then-gaining-pairs-clause-built
returns-then-gaining-pairs-clause-built c at gs is =
    let few : c.args.gaining.done ≤ length c.args.pairs.now = is.few in
    c.gained.ensures at c.args.pairs.now gs is (omega (arith, few, c.if-gaining-pairs.true))
