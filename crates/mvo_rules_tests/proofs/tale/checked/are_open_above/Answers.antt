use Rattle.std.proofs.Common.{ℕ, ◌<◌, ◌≤◌, List, length, refl, arith, subst}
use Rattle.std.specs.List.{AllByRecursion}
use Rattle.std.specs.Option.{option_copied}
use Rattle.std.proofs.lemmas.List.{take_all}
use Rattle.mvo_tale.specs.declared.tale_place.TalePlace.{TalePlace}
use Rattle.mvo_tale.specs.Slots.{open_ends}
use Rattle.mvo_tale.specs.Forgetting.{slot_or_empty}
use Rattle.mvo_tale.proofs.Gone.{slot_is}
use Rattle.mvo_rules_tests.proofs.tale.Loops.{open_ends_more}
use Rattle.mvo_rules_tests.proofs.tale.checked.are_open_above.Goals as goal

pub loop-place-preserved : goal.loop-place-preserved
loop-place-preserved c =
    let x = slot_or_empty (option_copied c.slot.result) in
    open_ends_more (λ (end : ℕ). c.args.mark.0 < end) c.args.tale.now c.loop-place.place x (omega arith) (slot_is c.args.tale.now c.loop-place.place x c.slot.ensures) c.loop-place.invariant (c.if-not-is_open_above.ensures refl)

pub returns : goal.returns
returns c =
    let count = c.len-place-end.ensures.count in
    let le : length c.args.tale.now ≤ c.loop-place.place = omega arith in
    λ _. subst (λ (xs : List TalePlace). AllByRecursion (λ (end : ℕ). c.args.mark.0 < end) (open_ends xs)) (take_all c.loop-place.place c.args.tale.now le) c.loop-place.invariant
