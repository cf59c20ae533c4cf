use Rattle.std.proofs.Common.{◌+◌, arith}
use Rattle.mvo_ckpt.proofs.building.Building.more.Goals as goal

pub returns-in-Ok-clause-built : goal.returns-in-Ok-clause-built
returns-in-Ok-clause-built c = rw c.in-Writes.is (λ gs is. c.in-Ok.ensures.built c.args.pairs.now gs is)

pub returns-in-Ok-clause-on : goal.returns-in-Ok-clause-on
returns-in-Ok-clause-on c = rw c.in-Writes.is (c.in-Ok.ensures.on c.args.pairs.now)

pub returns-in-Ok-gain_on-clause-on : goal.returns-in-Ok-gain_on-clause-on
returns-in-Ok-gain_on-clause-on c = rw c.in-Pairs.is (c.in-Ok-gain_on.ensures.on (c.args.most + 2) (omega arith))
