use Rattle.std.specs.Prelude.{◌≡◌, ◌-◌, ◌^◌, ℕ, List, length, min}
use Rattle.std.specs.List.{AllByRecursion}
use Rattle.mvo_engine.specs.RollingBack.{HasGivenWay}
use Rattle.mvo_engine.proofs.engine.Engine.roll_back_older.Given as goal

abbrev pub invariant-loop : goal.invariant-loop
invariant-loop g l =
    (ids : List ℕ) × AllByRecursion (HasGivenWay g.L.Run.opening l.stamp.0) ids × (l.all ≡ min (length ids) (2 ^ 64 - 1))
