use Rattle.mvo_chain.proofs.Holes.{changed, live_inside}
use Rattle.mvo_chain.proofs.chains.Chains.set_end.Goals as goal

pub invariant_of-self : goal.invariant_of-self
invariant_of-self c = changed c.self.inside.slots _ c.index.result _ _ (live_inside c.self.inside.slots _ _ c.index.result c.self.view_is c.index.ensures c.requires) c.self.invariant
