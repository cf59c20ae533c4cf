use Rattle.std.proofs.Common.{Some}
use Rattle.mvo_ckpt.specs.Building.{IsWalkStep}
use Rattle.mvo_ckpt.proofs.Slicing.{sliced_more}
use Rattle.mvo_ckpt.proofs.walking.take_slice.Goals as goal

pub loop-room-preserved : goal.loop-room-preserved
loop-room-preserved c =
    let step : IsWalkStep c.args.places.now.at c.loop-room.walking (Some c.in-Some.count) c.take_next.new.walking = rw c.in-Some.is at c.in-Ok.ensures in
    sliced_more c.args.places.now.at c.args.most c.args.walking.now c.loop-room.room c.loop-room.walking c.loop-room.invariant c.in-Some.count c.take_next.new.walking c.saturating_sub-room.result c.loop-room-test.true step c.saturating_sub-room.ensures
