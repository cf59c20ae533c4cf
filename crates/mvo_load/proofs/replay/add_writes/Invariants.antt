use Rattle.std.proofs.Common.{◌≡◌, ◌++◌, map}
use Rattle.mvo_group.specs.Data.{write_data}
use Rattle.mvo_load.specs.Replay.{all_writes}
use Rattle.mvo_load.proofs.replay.add_writes.Given as goal

abbrev pub invariant-loop-commit : goal.invariant-loop-commit
invariant-loop-commit l = map write_data l.writes.items ≡ map write_data l.initial.writes.items ++ all_writes l.yielded
