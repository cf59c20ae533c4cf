use Rattle.std.proofs.Common.{◌≡◌, length}
use Rattle.mvo_disk.specs.Disk.{IsHonest}
use Rattle.mvo_load.specs.Read.{IsDiskUnchanged}
use Rattle.mvo_store.specs.Old.{KnowsOld}
use Rattle.mvo_store.proofs.old.find_old.Given as goal

abbrev pub invariant-loop-file : goal.invariant-loop-file
invariant-loop-file g l =
    (IsHonest (g.D.Disk.moment l.disk) → KnowsOld (g.D.Disk.content l.initial.disk) l.manifest l.file l.old.items) × IsDiskUnchanged g.D.Disk l.initial.disk l.disk × (length l.old.items ≡ l.file)
