use Rattle.std.specs.Prelude.{◌≡◌, List}
use Rattle.mvo_keep.specs.declared.keeper.Keeper.{Keeper}
use Rattle.mvo_engine.specs.Keeping.{AreKeeperTurns}
use Rattle.mvo_engine.proofs.engine.Engine.keep_until.Given as goal

abbrev pub invariant-loop : goal.invariant-loop
invariant-loop g l = (before : List Keeper) × AreKeeperTurns g.D.Disk g.L.Run.opening l.policy before l.keeper
