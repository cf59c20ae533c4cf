use Rattle.std.proofs.Common.{sym, ◌∙◌}
use Rattle.mvo_world.proofs.Ends.{taken_ends, has_taken}
use Rattle.mvo_world.proofs.ring.Ring.take.Goals as goal

pub invariant_of-self-2 : goal.invariant_of-self-2
invariant_of-self-2 c =
    let f = c.self.inside in
    let a = c.slots_beside in
    let t = c.pop_known in
    taken_ends f.producer a.new.producer f.consumer a.new.self c.self.invariant a.ensures.producer a.ensures.looked a.ensures.fifo t.new.self t.result t.ensures.ring t.ensures.received.0 t.ensures.received.1

pub returns : goal.returns
returns c =
    let f = c.self.inside in
    let a = c.slots_beside in
    let t = c.pop_known in
    sym c.self.view_is ∙ has_taken f.producer a.new.producer f.consumer a.new.self c.self.invariant a.ensures.producer a.ensures.looked a.ensures.fifo t.new.self t.result t.ensures.ring t.ensures.received.0 t.ensures.received.1
