use Rattle.mvo_bytes.specs.Reading.{times}
use Rattle.mvo_group.specs.Reading.{record_at}
use Rattle.mvo_bytes.proofs.Loop.{goes_on, ends, is_done}
use Rattle.mvo_group.proofs.decode.records_of.Goals as goal

pub returns-in_default : goal.returns-in_default
returns-in_default c = ends record_at c.loop.records.items c.args.count c.loop.counter c.loop.rest.now (times record_at c.args.count c.args.bytes.now) c.loop-test.true (rw c.in_default.is at c.in_ok-next.ensures) c.loop.invariant

pub loop-preserved : goal.loop-preserved
loop-preserved c =
    rw c.in_ok-push.ensures.items (goes_on record_at c.loop.records.items c.args.count c.loop.counter c.loop.rest.now c.in-Some.next c.in-Some.after.now (times record_at c.args.count c.args.bytes.now) c.loop-test.true (rw c.in-Some.is at c.in_ok-next.ensures) c.loop.invariant)

pub returns : goal.returns
returns c = is_done record_at c.loop.records.items c.args.count c.loop.counter c.loop.rest.now (times record_at c.args.count c.args.bytes.now) c.loop-test.false c.loop.invariant
