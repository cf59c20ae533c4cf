use Rattle.std.proofs.Common.{sym, ◌∙◌, subst}
use Rattle.mvo_hash.specs.Lists.{LeadsTo}
use Rattle.mvo_hash.proofs.Passing.{passed, passed_to}
use Rattle.mvo_hash.proofs.version_walk.VersionWalk.pass_to.Goals as goal

pub invariant_of-self : goal.invariant_of-self
invariant_of-self c = (passed c.self.inside.links.now c.self.inside.at c.self.inside.began c.args.version c.requires.0 c.self.invariant (subst (λ ns. LeadsTo ns c.args.version c.requires.0) (sym c.self.view_is) c.requires.1)).walks

pub returns : goal.returns
returns c rest leads = passed_to c.self.inside.links.now c.self.inside.at c.self.inside.began c.args.version rest c.self.invariant (subst (λ ns. LeadsTo ns c.args.version rest) (sym c.self.view_is) leads)
