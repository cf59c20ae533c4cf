use Rattle.std.proofs.Common.{◌≡◌, ◌++◌, ◌∷◌, [], map}
use Rattle.std.proofs.lemmas.List.{map_push}
use Rattle.mvo_group.specs.Data.{write_data}
use Rattle.mvo_bytes.specs.Reading.{times}
use Rattle.mvo_group.specs.Reading.{keyed_write_at}
use Rattle.mvo_bytes.proofs.Loop.{goes_on, ends, is_done}
use Rattle.mvo_group.proofs.decode.writes_of.Goals as goal

pub returns-in_default : goal.returns-in_default
returns-in_default c = ends keyed_write_at (map write_data c.loop.writes.items) c.args.count c.loop.counter c.loop.rest.now (times keyed_write_at c.args.count c.args.bytes.now) c.loop-test.true (rw c.in_default.is at c.in_ok-write.ensures) c.loop.invariant

pub loop-preserved : goal.loop-preserved
loop-preserved c =
    let n = c.in-Some.write in
    let e : map write_data c.push.new.self.items ≡ map write_data c.loop.writes.items ++ write_data n ∷ [] = rw c.in_ok-push.ensures.items (map_push _ c.loop.writes.items n) in
    rw e (goes_on keyed_write_at (map write_data c.loop.writes.items) c.args.count c.loop.counter c.loop.rest.now (write_data n) c.in-Some.after.now (times keyed_write_at c.args.count c.args.bytes.now) c.loop-test.true (rw c.in-Some.is at c.in_ok-write.ensures) c.loop.invariant)

pub returns : goal.returns
returns c = is_done keyed_write_at (map write_data c.loop.writes.items) c.args.count c.loop.counter c.loop.rest.now (times keyed_write_at c.args.count c.args.bytes.now) c.loop-test.false c.loop.invariant
