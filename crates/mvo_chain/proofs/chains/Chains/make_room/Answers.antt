use Rattle.std.proofs.Common.{◌≡◌, ◌≤◌, ◌+◌, ◌++◌, ◌∷◌, [], List, length, ap, ◌∙◌, arith}
use Rattle.std.specs.Vec.{vec_capacity}
use Rattle.mvo_chain.specs.declared.version.VersionNo.{VersionNo}
use Rattle.mvo_chain.proofs.Holes.{grown, last_empty}
use Rattle.mvo_chain.proofs.chains.Chains.make_room.Goals as goal

pub invariant_of-self-2 : goal.invariant_of-self-2
invariant_of-self-2 c =
    let count : c.len-count.result ≡ length c.self.inside.slots = omega (arith, c.len-count.ensures) in
    let room : c.len-count.result + 1 ≤ vec_capacity c.widen.new.holes = c.in_ok-widen.ensures.ok in
    grown c.self.inside.slots _ c.self.inside.holes.items _ (record { 0 = c.len-count.result }) (vec_capacity c.self.inside.holes) _
    count
    (omega (arith, count, room, c.push-2.ensures.capacity))
    (omega (arith, count))
    c.in_ok-push.ensures.ok
    (c.in_ok-push-2.ensures.items ∙ ap (λ (h : List VersionNo). h ++ record { 0 = c.len-count.result } ∷ []) c.in_ok-widen.ensures.items)
    c.self.invariant

pub returns-clause-room : goal.returns-clause-room
returns-clause-room c = last_empty c.self.inside.slots c.push.new.self c.in_ok-push.ensures.ok
