use Rattle.std.proofs.Common.{sym, ap, ◌∙◌}
use Rattle.std.specs.FinMap as map
use Rattle.mvo_range.proofs.Places.{get_held}
use Rattle.mvo_range.proofs.index.RangeIndex.get.Goals as goal

pub returns : goal.returns
returns c = c.copied.ensures ∙ c.get.ensures.value ∙ sym (get_held c.self.inside.held.entries c.args.place) ∙ ap (λ m. map.get m c.args.place) c.self.view_is
