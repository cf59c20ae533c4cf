use Rattle.std.proofs.Common.{◌≡◌, ℕ, ◌-◌, ◌≤◌, List, None, Some, sym, ap, ◌∙◌}
use Rattle.mvo_tale.specs.declared.tale_place.TalePlace.{TalePlace}
use Rattle.mvo_tale.specs.Slots.{stored_at}
use Rattle.mvo_tale.specs.Forgetting.{behind_gone}
use Rattle.mvo_tale.proofs.Gone.{stored_gone, stored_behind_gone, stored_slot}
use Rattle.mvo_tale.proofs.tale.Tale.get.Goals as goal

pub returns-then-place-self : goal.returns-then-place-self
returns-then-place-self c =
    sym (ap (λ (xs : List TalePlace). stored_at xs c.args.place) (sym c.self.view_is)
    ∙ stored_gone c.self.inside.gone c.args.place c.self.inside.slots.items c.if-place-self.true)

stored_now : (g p : ℕ) (xs ys : List TalePlace) → g ≤ p → behind_gone g xs ≡ ys → stored_at xs (p - g) ≡ stored_at ys p
stored_now g p xs ys le e = sym (stored_behind_gone g p xs le) ∙ ap (λ (zs : List TalePlace). stored_at zs p) e

pub returns-in-Some : goal.returns-in-Some
returns-in-Some c =
    let g = c.self.inside.gone in
    let xs = c.self.inside.slots.items in
    c.stored.ensures
    ∙ stored_slot xs (c.args.place - g) (Some c.in-Some.slot.now) c.in-Some.ensures
    ∙ stored_now g c.args.place xs c.args.self.now c.if-place-self.false c.self.view_is

pub returns-in-None : goal.returns-in-None
returns-in-None c =
    let g = c.self.inside.gone in
    let xs = c.self.inside.slots.items in
    stored_slot xs (c.args.place - g) None c.in-None.ensures
    ∙ stored_now g c.args.place xs c.args.self.now c.if-place-self.false c.self.view_is
