use Rattle.std.proofs.Common.{arith, length, ap, sym, ◌∙◌, subst}
use Rattle.mvo_tale.specs.Slots.{AreRising, ends}
use Rattle.mvo_tale.proofs.Gone.{length_gone, ends_gone}
use Rattle.mvo_tale.proofs.tale.Tale.len.Goals as goal

pub returns-clause-count : goal.returns-clause-count
returns-clause-count c =
    let e = ap length c.self.view_is in
    let n = length_gone c.self.inside.gone c.self.inside.slots.items in
    omega arith

pub returns-clause-rising : goal.returns-clause-rising
returns-clause-rising c =
    subst AreRising (sym (ends_gone c.self.inside.gone c.self.inside.slots.items) ∙ ap ends c.self.view_is) c.self.invariant.0
