use Rattle.std.specs.Prelude.{◌≡◌, ◌+◌, ℕ, List}
use Rattle.std.specs.List.{AllByRecursion, sum}
use Rattle.mvo_engine.specs.Keeping.{WasPiece}
use Rattle.mvo_engine.proofs.engine.Engine.collect_some.Given as goal

abbrev pub invariant-loop : goal.invariant-loop
invariant-loop g l = (counts : List ℕ) × AllByRecursion WasPiece counts × (l.left + sum counts ≡ l.most)
