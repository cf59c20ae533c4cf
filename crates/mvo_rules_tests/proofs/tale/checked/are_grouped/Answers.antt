use Rattle.std.proofs.Common.{refl, arith}
use Rattle.std.specs.Option.{option_copied}
use Rattle.mvo_tale.specs.Forgetting.{slot_or_empty}
use Rattle.mvo_tale.proofs.Gone.{slot_is}
use Rattle.mvo_tale.proofs.DueCommits.{opens_more, none_more}
use Rattle.mvo_rules_tests.proofs.tale.checked.are_grouped.Goals as goal

pub loop-place-preserved : goal.loop-place-preserved
loop-place-preserved c =
    let x = slot_or_empty (option_copied c.slot.result) in
    let is = slot_is c.args.tale.now c.loop-place.place x c.slot.ensures in
    record {
      opens = opens_more c.args.tale.now c.loop-place.place x (omega arith) is c.loop-place.invariant.opens (c.if-not-is_grouped.ensures.opens refl);
      due = none_more c.args.mark.0 c.args.tale.now c.loop-place.place x (omega arith) is c.loop-place.invariant.due (c.if-not-is_grouped.ensures.due refl);
    }
