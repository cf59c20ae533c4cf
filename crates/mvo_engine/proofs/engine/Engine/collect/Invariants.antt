use Rattle.std.specs.Prelude.{◌≡◌, ◌-◌, ◌^◌, ℕ, List, min}
use Rattle.std.specs.List.{AllByRecursion, sum}
use Rattle.mvo_engine.specs.declared.engine.TheConstants.{AT_ONCE}
use Rattle.mvo_engine.specs.Collecting.{WasCollected}
use Rattle.mvo_engine.proofs.engine.Engine.collect.Given as goal

abbrev pub invariant-loop : goal.invariant-loop
invariant-loop g l = (before : List ℕ) × AllByRecursion (WasCollected AT_ONCE) before × (l.all ≡ min (sum before) (2 ^ 64 - 1))
