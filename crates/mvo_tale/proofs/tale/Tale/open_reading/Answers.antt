use Rattle.std.proofs.Common.{ℕ, ◌<◌, List, [], ◌∷◌, ◌++◌, length, refl, sym, ap, ◌∙◌, subst, arith}
use Rattle.std.specs.List.{AllByRecursion}
use Rattle.std.proofs.lemmas.List.{length-append}
use Rattle.mvo_tale.specs.declared.tale_place.TalePlace.{TalePlace}
use Rattle.mvo_tale.specs.declared.tale_place.TalePlace.TheVariants.{Reading}
use Rattle.mvo_tale.specs.Slots.{AreRising, ends}
use Rattle.mvo_tale.proofs.Rising.{rising_opened}
use Rattle.mvo_tale.specs.Forgetting.{behind_gone}
use Rattle.mvo_tale.proofs.Gone.{ends_gone, length_gone, push_gone}
use Rattle.mvo_tale.proofs.tale.Tale.open_reading.Goals as goal

pub invariant_of-self-2 : goal.invariant_of-self-2
invariant_of-self-2 c = (
  subst (λ (xs : List TalePlace). AreRising (ends xs)) (sym c.in_ok-push_back.ensures.items)
      (rising_opened c.self.inside.slots.items (Reading c.args.begin) c.args.begin.0 refl c.self.invariant.0
      (subst (AllByRecursion (λ (e : ℕ). e < c.args.begin.0)) (sym (ap ends c.self.view_is) ∙ ends_gone c.self.inside.gone c.self.inside.slots.items) c.requires)),
  omega (arith, ap length c.in_ok-push_back.ensures.items, length-append c.self.inside.slots.items (Reading c.args.begin ∷ [])),
)

pub returns-clause-place : goal.returns-clause-place
returns-clause-place c =
    let e = ap length c.self.view_is in
    let n = length_gone c.self.inside.gone c.self.inside.slots.items in
    omega arith

pub returns-clause-ok : goal.returns-clause-ok
returns-clause-ok c =
    ap (behind_gone c.self.inside.gone) c.in_ok-push_back.ensures.items
    ∙ push_gone c.self.inside.gone c.self.inside.slots.items (Reading c.args.begin ∷ [])
    ∙ ap (λ (ys : List TalePlace). ys ++ Reading c.args.begin ∷ []) c.self.view_is
