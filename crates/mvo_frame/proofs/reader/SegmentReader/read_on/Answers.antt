use Rattle.std.proofs.Common.{None, Some, arith}
use Rattle.mvo_frame.specs.Slices.{IsGroupRead}
use Rattle.mvo_frame.proofs.Slices.{on_none, on_more, on_shorter, on_read, on_end, on_unmoved}
use Rattle.mvo_frame.proofs.reader.SegmentReader.read_on.Goals as goal

pub loop-rest-init : goal.loop-rest-init
loop-rest-init c = on_none c.args.self.now c.args.most c.args.bytes.now (λ i. omega (arith, c.type_inv.bytes i))

pub returns-in-Err-clause-read : goal.returns-in-Err-clause-read
returns-in-Err-clause-read c upto start all more is at = rw c.in-Err.ensures.err (on_read c.args.self.now c.args.most c.args.bytes.now c.loop-rest.rest.now c.loop-rest.self c.loop-rest.invariant upto start all more is at)

pub returns-in_default-clause-read : goal.returns-in_default-clause-read
returns-in_default-clause-read c upto start all more is at =
    let s : IsGroupRead c.loop-rest.self c.loop-rest.rest.now None c.next.new.self = rw c.in_default.is at c.in-Ok.ensures.ok in
    rw s.1 (on_read c.args.self.now c.args.most c.args.bytes.now c.loop-rest.rest.now c.loop-rest.self c.loop-rest.invariant upto start all more is at)

pub returns-in_default-clause-end : goal.returns-in_default-clause-end
returns-in_default-clause-end c upto start all more is at end =
    let s : IsGroupRead c.loop-rest.self c.loop-rest.rest.now None c.next.new.self = rw c.in_default.is at c.in-Ok.ensures.ok in
    on_end c.args.self.now c.args.most c.args.bytes.now c.loop-rest.rest.now c.loop-rest.self c.loop-rest.invariant upto start all more is at c.next.new.self s

pub loop-rest-smaller : goal.loop-rest-smaller
loop-rest-smaller c =
    let s : IsGroupRead c.loop-rest.self c.loop-rest.rest.now (Some c.in-Some.later.now) c.next.new.self = rw c.in-Some.is at c.in-Ok.ensures.ok in
    on_shorter c.args.self.now c.args.most c.args.bytes.now c.loop-rest.rest.now c.loop-rest.self c.loop-rest.invariant c.in-Some.later.now c.next.new.self s

pub loop-rest-preserved : goal.loop-rest-preserved
loop-rest-preserved c =
    let s : IsGroupRead c.loop-rest.self c.loop-rest.rest.now (Some c.in-Some.later.now) c.next.new.self = rw c.in-Some.is at c.in-Ok.ensures.ok in
    on_more c.args.self.now c.args.most c.args.bytes.now c.loop-rest.rest.now c.loop-rest.self c.loop-rest.invariant c.in-Some.later.now c.next.new.self (omega (arith, c.loop-rest-test.true)) s

pub returns-clause-read : goal.returns-clause-read
returns-clause-read c upto start all more is at = on_read c.args.self.now c.args.most c.args.bytes.now c.loop-rest.rest.now c.loop-rest.self c.loop-rest.invariant upto start all more is at
