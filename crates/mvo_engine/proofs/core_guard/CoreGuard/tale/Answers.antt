use Rattle.std.proofs.Common.{◌∙◌, subst}
use Rattle.mvo_engine.specs.States.{CoreState}
use Rattle.mvo_engine.specs.Stored.{HasStored}
use Rattle.mvo_engine.proofs.core_guard.CoreGuard.tale.Goals as goal

pub returns-clause-stored : goal.returns-clause-stored
returns-clause-stored g c = subst (λ (s : CoreState). HasStored s.core) (c.deref.ensures ∙ c.self.view_is) c.tale.ensures.stored
