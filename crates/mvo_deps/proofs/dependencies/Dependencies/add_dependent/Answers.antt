use Rattle.std.proofs.Common.{sym, ap, subst, ◌∙◌}
use Rattle.mvo_deps.specs.Data.{is_id_among, AreDistinctIds}
use Rattle.mvo_deps.proofs.Apart.{apart_behind}
use Rattle.mvo_deps.proofs.dependencies.Dependencies.add_dependent.Goals as goal

pub invariant_of-self-2 : goal.invariant_of-self-2
invariant_of-self-2 c = record {
  counted = c.self.invariant.counted;
  apart = subst AreDistinctIds (sym c.in_ok-push.ensures.items) (apart_behind c.args.id c.self.inside.dependents.items (ap (λ d. is_id_among c.args.id d.dependents) c.self.view_is ∙ c.requires) c.self.invariant.apart);
}
