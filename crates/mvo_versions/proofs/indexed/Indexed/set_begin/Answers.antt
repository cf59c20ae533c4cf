use Rattle.std.proofs.Common.{refl, sym, subst}
use Rattle.mvo_versions.specs.Runs.{AreCounted}
use Rattle.mvo_versions.proofs.Counted.{indexed}
use Rattle.mvo_versions.proofs.Going.{reworded}
use Rattle.mvo_versions.proofs.indexed.Indexed.set_begin.Goals as goal

pub invariant_of-self : goal.invariant_of-self
invariant_of-self c = subst (λ ss. AreCounted (record { slots = ss; lists = c.self.inside.index.versions; places = c.self.inside.order })) (sym c.set_begin.ensures) (reworded (record { slots = c.self.inside.chains; lists = c.self.inside.index.versions; places = c.self.inside.order }) c.args.number _ (λ w. refl) c.self.invariant)

pub returns-clause-indexed : goal.returns-clause-indexed
returns-clause-indexed c = indexed _ (invariant_of-self c)
