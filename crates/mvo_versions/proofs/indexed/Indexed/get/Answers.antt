use Rattle.std.proofs.Common.{subst}
use Rattle.mvo_versions.specs.Data.{AreIndexed}
use Rattle.mvo_versions.proofs.Counted.{indexed}
use Rattle.mvo_versions.proofs.indexed.Indexed.get.Goals as goal

pub returns-clause-indexed : goal.returns-clause-indexed
returns-clause-indexed c = subst AreIndexed c.self.view_is (indexed (record { slots = c.self.inside.chains; lists = c.self.inside.index.versions; places = c.self.inside.order }) c.self.invariant)
