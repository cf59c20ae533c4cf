use Rattle.std.proofs.Common.{take}
use Rattle.mvo_representation.specs.Indexes.{HasNumbers}
use Rattle.mvo_versions.proofs.indexes.index_of.Given as goal

abbrev pub invariant-loop-at : goal.invariant-loop-at
invariant-loop-at l = HasNumbers (take l.at l.chains) l.index.versions
