use Rattle.std.proofs.Common.{◌≡◌, ◌++◌, map}
use Rattle.mvo_merge.proofs.building.add_records.Given as goal

abbrev pub invariant-loop-one : goal.invariant-loop-one
invariant-loop-one l = l.records.items ≡ l.fn.records.items ++ map (λ x. x.1) l.yielded
