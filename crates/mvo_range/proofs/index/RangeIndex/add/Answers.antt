use Rattle.std.proofs.Common.{◌≡◌, None, sym, ap, ◌∙◌, rules, subst}
use Rattle.std.specs.List.{All}
use Rattle.mvo_range.specs.Place.{HasKey}
use Rattle.std.specs.FinMap as map
use Rattle.mvo_range.proofs.Places.{one_put, get_held, HasKey-insert_entry}
use Rattle.mvo_range.proofs.index.RangeIndex.add.Goals as goal

pub returns-in_err-insert-clause-absent : goal.returns-in_err-insert-clause-absent
returns-in_err-insert-clause-absent c =
    let e : map.get c.args.self.now c.args.place ≡ None =
    sym (ap (λ m. map.get m c.args.place) c.self.view_is) ∙ get_held c.self.inside.held.entries c.args.place ∙ c.in_err-insert.ensures.absent in
    search rules

pub returns-clause-ok : goal.returns-clause-ok
returns-clause-ok c =
    one_put c.self.inside.held.entries c.insert.new.self.entries c.args.place c.args.number c.in_ok-insert.ensures.updates.0
    ∙ ap (λ m. map.insert m c.args.place c.args.number) c.self.view_is

pub returns-clause-before : goal.returns-clause-before
returns-clause-before c =
    c.in_ok-insert.ensures.old ∙ sym (get_held c.self.inside.held.entries c.args.place) ∙ ap (λ m. map.get m c.args.place) c.self.view_is

pub invariant_of-self-2 : goal.invariant_of-self-2
invariant_of-self-2 c = subst (All HasKey) (sym c.in_ok-insert.ensures.entries) (HasKey-insert_entry c.self.inside.held.entries c.args.place c.args.number c.fits.ensures c.self.invariant)
