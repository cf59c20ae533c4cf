use Rattle.std.proofs.Common.{List, sym, ap, ◌∙◌, subst, arith}
use Rattle.mvo_tale.specs.declared.tale_place.TalePlace.{TalePlace}
use Rattle.mvo_tale.specs.Slots.{AreRising, ends}
use Rattle.mvo_tale.specs.Forgetting.{behind_gone, from_kept, forgotten}
use Rattle.mvo_tale.proofs.Gone.{forgotten_behind, rising_kept}
use Rattle.std.proofs.Common.{◌≡◌, ◌+◌, length}
use Rattle.mvo_tale.proofs.tale.Tale.forget.Goals as goal

pub invariant_of-self : goal.invariant_of-self
invariant_of-self c =
    let count = c.drop_front-gone.ensures.count in
    let below = c.self.invariant.1 in (
      subst (λ (xs : List TalePlace). AreRising (ends xs)) (sym c.drop_front-gone.ensures.kept) (rising_kept c.args.upto.0 c.self.inside.slots.items c.self.invariant.0),
      omega arith,
    )

pub returns : goal.returns
returns c =
    let g = c.self.inside.gone in
    let k = c.drop_front-gone.result in
    let xs = c.self.inside.slots.items in
    let kept = c.drop_front-gone.ensures.kept in
    let count : k + length (from_kept c.args.upto.0 xs) ≡ length xs = ap (λ (ys : List TalePlace). k + length ys) (sym kept) ∙ c.drop_front-gone.ensures.count in
    ap (behind_gone (g + k)) kept
    ∙ forgotten_behind c.args.upto.0 g k xs count
    ∙ ap (forgotten c.args.upto.0) c.self.view_is
