use Rattle.std.proofs.Common.{take}
use Rattle.std.specs.List.{AllZip}
use Rattle.mvo_load.specs.Files.{IsPart}
use Rattle.mvo_load.proofs.turns.parts_in_turn.Given as goal

abbrev pub invariant-loop-one : goal.invariant-loop-one
invariant-loop-one l = AllZip (IsPart l.upto) (take l.one-index l.files) l.parts.items
