use Rattle.std.proofs.Common.{◌≡◌, length, take, arith}
use Rattle.mvo_load.specs.declared.part.Part.{Part}
use Rattle.mvo_load.specs.Gathered.{filed_in}
use Rattle.mvo_load.proofs.Taken.{OneMore, one_more}
use Rattle.mvo_load.proofs.at_once.count_of.Goals as goal

pub loop-part-preserved : goal.loop-part-preserved
loop-part-preserved c = λ few.
    let part : Part = c.part-item.result in
    let one : OneMore c.args.parts.now c.loop-part.part-index part = one_more c.args.parts.now c.loop-part.part-index part c.loop-part-test.true c.part-item.is in
    let before : c.loop-part.count ≡ length (filed_in (take c.loop-part.part-index c.args.parts.now)) = c.loop-part.invariant few in
    omega (arith, c.len.ensures, c.saturating_add-count.ensures, part.live.ok.0)
