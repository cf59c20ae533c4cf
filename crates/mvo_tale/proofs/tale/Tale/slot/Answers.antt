use Rattle.std.proofs.Common.{◌-◌, List, length, arith, ap, sym, ◌∙◌}
use Rattle.std.specs.Prelude.{slice_get}
use Rattle.std.specs.Option.{option_copied}
use Rattle.mvo_tale.specs.declared.tale_place.TalePlace.{TalePlace}
use Rattle.mvo_tale.proofs.Gone.{length_gone, get_gone, get_behind, slot_within}
use Rattle.mvo_tale.proofs.tale.Tale.slot.Goals as goal

pub returns-then-place-self : goal.returns-then-place-self
returns-then-place-self c =
    ap (λ (xs : List TalePlace). slice_get xs c.args.place) (sym c.self.view_is)
    ∙ get_gone c.self.inside.gone c.args.place c.self.inside.slots.items c.if-place-self.true

pub returns : goal.returns
returns c =
    let n = length_gone c.self.inside.gone c.self.inside.slots.items in
    let e = ap length c.self.view_is in
    ap (λ (xs : List TalePlace). slice_get xs c.args.place) (sym c.self.view_is)
    ∙ get_behind c.self.inside.gone c.args.place c.self.inside.slots.items c.if-place-self.false
    ∙ slot_within c.self.inside.slots.items (c.args.place - c.self.inside.gone) (option_copied c.get.result) c.get.ensures (omega arith)
