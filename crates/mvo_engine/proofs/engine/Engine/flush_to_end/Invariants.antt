use Rattle.std.specs.Prelude.{◌≡◌, List}
use Rattle.mvo_types.specs.declared.ids.Stamp.{Stamp}
use Rattle.mvo_engine.specs.Keeping.{WereFlushed}
use Rattle.mvo_engine.proofs.Upkeep.{EndsWith}
use Rattle.mvo_engine.proofs.engine.Engine.flush_to_end.Given as goal

abbrev pub invariant-loop : goal.invariant-loop
invariant-loop g l = (marks : List Stamp) × WereFlushed g.D.Disk marks × EndsWith l.before marks
