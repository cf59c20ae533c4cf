use Rattle.std.proofs.Common.{◌≡◌, ◌+◌, ℕ, length, subst}
use Rattle.rtrb.specs.Ring.{sent, received, producer_capacity}
use Rattle.mvo_world.proofs.Ends.{still_ends, closed_into}
use Rattle.mvo_world.proofs.ring.Ring.close.Goals as goal

pub invariant_of-self : goal.invariant_of-self
invariant_of-self c =
    let f = c.self.inside in
    let a = c.slots_beside in
    let b = c.slots_beside-2 in
    let d = c.slots_beside-3 in
    let p1 = a.new.self in
    let p2 = c.close_group-result.new.ring in
    let p3 = b.new.self in
    still_ends f.producer p1 p2 p3 d.new.producer f.consumer a.new.consumer b.new.consumer d.new.self c.self.invariant
    a.ensures.looked a.ensures.consumer (subst (λ (n : ℕ). n + length (sent p1) ≡ producer_capacity p1 + length (received a.new.consumer)) a.ensures.value a.ensures.all_free)
    c.close_group-result.ensures.ring
    b.ensures.looked b.ensures.consumer (subst (λ (n : ℕ). n + length (sent p3) ≡ producer_capacity p3 + length (received b.new.consumer)) b.ensures.value b.ensures.all_free)
    d.ensures.producer d.ensures.looked d.ensures.fifo

pub returns-clause-closing : goal.returns-clause-closing
returns-clause-closing c = λ opening steps own s h.
    let f = c.self.inside in
    let a = c.slots_beside in
    let b = c.slots_beside-2 in
    let d = c.slots_beside-3 in
    let p1 = a.new.self in
    let p2 = c.close_group-result.new.ring in
    let p3 = b.new.self in
    rw (← c.self.view_is) (closed_into f.producer p1 p2 p3 d.new.producer f.consumer a.new.consumer b.new.consumer d.new.self c.self.invariant
    a.ensures.looked a.ensures.consumer (subst (λ (n : ℕ). n + length (sent p1) ≡ producer_capacity p1 + length (received a.new.consumer)) a.ensures.value a.ensures.all_free)
    c.close_group-result.ensures.ring
    b.ensures.looked b.ensures.consumer (subst (λ (n : ℕ). n + length (sent p3) ≡ producer_capacity p3 + length (received b.new.consumer)) b.ensures.value b.ensures.all_free)
    d.ensures.producer d.ensures.looked d.ensures.fifo
    opening steps own s c.close_group-result.result c.close_group-result.new.self (c.close_group-result.ensures.whole opening steps own s h))
