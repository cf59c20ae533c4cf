use Rattle.std.proofs.Common.{◌≡◌, ◌≤◌, ◌+◌, ◌-◌, ℕ, length}
use Rattle.mvo_frame.specs.declared.reached.Reached.TheVariants.{End}
use Rattle.mvo_frame.specs.Slices.{IsReadTo, HasClosedGateAt}
use Rattle.mvo_frame.proofs.Slices.{is_more}
use Rattle.mvo_frame.proofs.reading.read_slices.Given as goal

abbrev pub invariant-loop-reached : goal.invariant-loop-reached
invariant-loop-reached l =
    (l.reader.gate ≤ length l.bytes) × (l.reader.file ≡ l.fn.reader.file)
    × ((upto start : ℕ) → IsReadTo upto start l.bytes l.fn.reader → IsReadTo upto start l.bytes l.reader × (l.reached ≡ End → HasClosedGateAt l.reader.gate l.bytes))

abbrev pub decreases-loop-reached : goal.decreases-loop-reached
decreases-loop-reached l = is_more l.reached + (length l.bytes - l.reader.gate)
