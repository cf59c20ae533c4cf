use Rattle.std.proofs.Common.{◌++◌, sym, ap, ◌∙◌, ℕ, Option, Some}
use Rattle.std.specs.Prelude.{option_to_list, slice_set}
use Rattle.std.specs.Vec.{vec_capacity}
use Rattle.mvo_chain.proofs.Holes.{filled}
use Rattle.mvo_chain.specs.declared.version.VersionNo.{VersionNo}
use Rattle.mvo_chain.proofs.chains.Chains.fill.Goals as goal

pub invariant_of-self : goal.invariant_of-self
invariant_of-self c =
    filled c.self.inside.slots _ c.self.inside.holes.items c.pop.new.self.items c.unwrap-number.result c.added.result (vec_capacity c.self.inside.holes) (vec_capacity c.pop.new.self)
    c.pop.ensures.capacity
    (c.pop.ensures.items ∙ ap (λ (o : Option VersionNo). c.pop.new.self.items ++ option_to_list o) c.unwrap-number.ensures)
    (ap (λ (i : ℕ). slice_set c.self.inside.slots i (Some c.added.result)) (sym c.index.ensures))
    c.self.invariant
