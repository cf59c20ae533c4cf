use Rattle.std.proofs.Common.{◌≡◌, ◌<◌, ◌^◌, length, take}
use Rattle.mvo_load.specs.Gathered.{filed_in}
use Rattle.mvo_load.proofs.at_once.count_of.Given as goal

abbrev pub invariant-loop-part : goal.invariant-loop-part
invariant-loop-part l = length (filed_in l.parts) < 2 ^ 64 → l.count ≡ length (filed_in (take l.part-index l.parts))
