use Rattle.std.proofs.Common.{◌≡◌, length}
use Rattle.mvo_group.proofs.Orders.{do_ends_rise}
use Rattle.mvo_group.proofs.rules.ends_rise.Given as goal

abbrev pub invariant-loop-rest : goal.invariant-loop-rest
invariant-loop-rest l = do_ends_rise l.last l.mark.0 l.rest ≡ do_ends_rise l.fn.prev.0 l.mark.0 l.records

abbrev pub decreases-loop-rest : goal.decreases-loop-rest
decreases-loop-rest l = length l.rest
