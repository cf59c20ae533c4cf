use Rattle.std.proofs.Common.{◌≡◌, true, refl, arith}
use Rattle.std.specs.Option.{option_copied}
use Rattle.mvo_tale.specs.declared.tale_place.TalePlace.{TalePlace}
use Rattle.mvo_tale.specs.Slots.{is_empty}
use Rattle.mvo_tale.specs.Forgetting.{slot_or_empty}
use Rattle.mvo_tale.proofs.Gone.{slot_is}
use Rattle.mvo_rules_tests.proofs.tale.Loops.{empty_more}
use Rattle.mvo_rules_tests.proofs.tale.checked.are_empty.Goals as goal

pub loop-place-preserved : goal.loop-place-preserved
loop-place-preserved c =
    let x = slot_or_empty (option_copied c.slot.result) in
    empty_more (λ (y : TalePlace). is_empty y ≡ true) c.args.tale.now c.loop-place.place x (omega arith) (slot_is c.args.tale.now c.loop-place.place x c.slot.ensures) c.loop-place.invariant (c.if-not-is_empty_there.ensures refl)
