use Rattle.std.proofs.Common.{subst}
use Rattle.mvo_deps.specs.Data.{AreDistinctIds}
use Rattle.mvo_deps.proofs.Apart.{apart_front}
use Rattle.mvo_deps.proofs.dependencies.Dependencies.drop_last_dependent.Goals as goal

pub invariant_of-self : goal.invariant_of-self
invariant_of-self c = record {
  counted = c.self.invariant.counted;
  apart = apart_front c.pop.new.self.items _ (subst AreDistinctIds c.pop.ensures.items c.self.invariant.apart);
}
