use Rattle.std.proofs.Common.{◌≡◌, drop}
use Rattle.mvo_content.specs.Looks.{look_at}
use Rattle.mvo_content.proofs.looks.look_at.Given as goal

abbrev pub invariant-loop-kept : goal.invariant-loop-kept
invariant-loop-kept l = look_at l.few l.entry ≡ look_at (drop l.kept-index l.few) l.entry
