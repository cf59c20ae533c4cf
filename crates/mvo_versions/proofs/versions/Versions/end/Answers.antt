use Rattle.std.proofs.Common.{subst}
use Rattle.mvo_representation.specs.Steps.{ended_by}
use Rattle.mvo_versions.specs.Skips.{IsUnlessEnded}
use Rattle.mvo_versions.proofs.Kept.{reworded_has}
use Rattle.mvo_versions.proofs.versions.Versions.end.Goals as goal

pub invariant_of-self : goal.invariant_of-self
invariant_of-self c =
    reworded_has c.self.inside.indexed c.end.new.self c.args.number (ended_by c.args.by.0) c.self.inside.skips c.unless_ended.new.skips
    c.end.ensures.reworded c.end.ensures.indexed
    (subst (λ ss. IsUnlessEnded ss c.self.inside.skips c.unless_ended.new.skips c.args.number.0) c.chains.ensures c.unless_ended.ensures)
    c.self.invariant
