use Rattle.std.proofs.Common.{arith}
use Rattle.mvo_hash.proofs.Probes.{some_free}
use Rattle.mvo_hash.proofs.probe.first_free.Goals as goal

pub returns : goal.returns
returns c =
    absurd (some_free c.args.slots.now c.requires (λ j a b. c.loop-i.invariant j a (omega (arith, b, c.loop-i-test.false))))
