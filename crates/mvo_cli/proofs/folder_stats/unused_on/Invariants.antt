use Rattle.std.proofs.Common.{◌≡◌}
use Rattle.mvo_cli.proofs.folder_stats.unused_on.Given as goal

abbrev pub invariant-loop-file : goal.invariant-loop-file
invariant-loop-file g l = g.D.Disk.fault_count l.disk ≡ g.D.Disk.fault_count l.initial.disk
