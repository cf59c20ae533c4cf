use Rattle.std.proofs.Common.{◌-◌, ◌<◌, length, get_or, arith, ap, sym, ◌∙◌}
use Rattle.mvo_pair.specs.declared.pair.Pair.{Pair}
use Rattle.mvo_keep.specs.declared.neighbours.Neighbours.{Neighbours}
use Rattle.mvo_keep.specs.Choosing.{chosen_from}
use Rattle.mvo_keep.proofs.Neighbouring.{none_left, one_before, may_merge, one_may}
use Rattle.mvo_keep.proofs.choosing.chosen_place.Goals as goal

pub loop-place-init : goal.loop-place-init
loop-place-init c = (omega (arith), none_left c.args.policy.now c.args.choice c.args.pairs.now, tt)

pub loop-place-preserved : goal.loop-place-preserved
loop-place-preserved c =
    let i = c.loop-place.invariant in
    let none : Pair = record { data_file = 0; delta_file = 0; lo = record { 0 = 0 }; hi = record { 0 = 0 }; records = 0; entries = 0 } in
    let two : Neighbours = record { place = c.loop-place.place - 1 - 1; left = get_or c.args.pairs.now (c.loop-place.place - 1 - 1) none; right = get_or c.args.pairs.now (c.loop-place.place - 1) none } in
    let lt : c.loop-place.place - 1 < length c.args.pairs.now = omega (arith, i.0, c.loop-place-test.true) in (
      omega (arith, i.0),
      c.better-best.ensures.value ∙ ap (chosen_from c.args.policy.now c.args.choice two) i.1 ∙ sym (one_before c.args.policy.now c.args.choice c.args.pairs.now (c.loop-place.place - 1) none (omega (arith, c.loop-place-test.true)) lt),
      one_may c.args.policy.now c.args.pairs.now two c.loop-place.best (may_merge c.args.policy.now c.args.pairs.now (c.loop-place.place - 1 - 1) (c.loop-place.place - 1) none (omega (arith, c.loop-place-test.true)) lt) i.2 c.better-best.result c.better-best.ensures.one,
    )
