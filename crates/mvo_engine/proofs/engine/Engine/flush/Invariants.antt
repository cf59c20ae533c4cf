use Rattle.std.specs.Prelude.{List, Ok}
use Rattle.std.specs.List.{AllByRecursion}
use Rattle.mvo_group.specs.Data.{GroupData}
use Rattle.mvo_engine.specs.Flushing.{IsClosingFirst, WasFlushed}
use Rattle.mvo_engine.proofs.engine.Engine.flush.Given as goal

abbrev pub invariant-loop : goal.invariant-loop
invariant-loop g l = (groups : List GroupData) × IsClosingFirst (Ok tt) × AllByRecursion (WasFlushed g.row.D.Denot) groups
