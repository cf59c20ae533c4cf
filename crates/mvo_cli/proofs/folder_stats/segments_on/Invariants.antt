use Rattle.std.proofs.Common.{◌≡◌, length}
use Rattle.mvo_cli.proofs.folder_stats.segments_on.Given as goal

abbrev pub invariant-loop-rest : goal.invariant-loop-rest
invariant-loop-rest g l = g.D.Disk.fault_count l.disk ≡ g.D.Disk.fault_count l.initial.disk

abbrev pub decreases-loop-rest : goal.decreases-loop-rest
decreases-loop-rest g l = length l.rest
