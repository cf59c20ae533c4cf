use Rattle.std.proofs.Common.{sym, ap, ◌∙◌, subst}
use Rattle.std.specs.List.{All}
use Rattle.mvo_range.specs.Place.{HasKey}
use Rattle.std.specs.FinMap as map
use Rattle.mvo_range.proofs.Places.{one_gone, get_held, HasKey-remove_entry}
use Rattle.mvo_range.proofs.index.RangeIndex.remove.Goals as goal

pub returns-clause-number : goal.returns-clause-number
returns-clause-number c =
    c.remove.ensures.value ∙ sym (get_held c.self.inside.held.entries c.args.place) ∙ ap (λ m. map.get m c.args.place) c.self.view_is

pub returns-clause-gone : goal.returns-clause-gone
returns-clause-gone c =
    one_gone c.self.inside.held.entries c.remove.new.self.entries c.args.place c.remove.ensures.updates.0
    ∙ ap (λ m. map.remove m c.args.place) c.self.view_is

pub invariant_of-self : goal.invariant_of-self
invariant_of-self c = subst (All HasKey) (sym c.remove.ensures.entries) (HasKey-remove_entry _ c.self.inside.held.entries c.self.invariant)
