use Rattle.mvo_ckpt.proofs.Slicing.{IsSliced}
use Rattle.mvo_ckpt.proofs.walking.take_slice.Given as goal

abbrev pub invariant-loop-room : goal.invariant-loop-room
invariant-loop-room l = IsSliced l.places.at l.fn.most l.fn.walking l.room l.walking

abbrev pub decreases-loop-room : goal.decreases-loop-room
decreases-loop-room l = l.room
