use Rattle.std.proofs.Common.{sym, ap, ◌∙◌}
use Rattle.std.specs.FinMap as map
use Rattle.mvo_range.proofs.Places.{len_held}
use Rattle.mvo_range.proofs.index.RangeIndex.len.Goals as goal

pub returns : goal.returns
returns c = c.len.ensures.len ∙ sym (len_held c.self.inside.held.entries c.len.ensures.ordered) ∙ ap (λ m. map.len m) c.self.view_is
