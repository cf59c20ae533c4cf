use Rattle.std.proofs.Common.{◌≡◌, length, map}
use Rattle.mvo_group.specs.Data.{write_data}
use Rattle.mvo_group.proofs.Orders.{do_keys_rise}
use Rattle.mvo_group.proofs.rules.keys_rise.Given as goal

abbrev pub invariant-loop-rest : goal.invariant-loop-rest
invariant-loop-rest l = do_keys_rise (map (λ w. w.0) (map write_data l.rest)) ≡ do_keys_rise (map (λ w. w.0) (map write_data l.writes))

abbrev pub decreases-loop-rest : goal.decreases-loop-rest
decreases-loop-rest l = length l.rest
