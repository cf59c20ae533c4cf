use Rattle.std.proofs.Common.{◌≡◌, ℕ, ◌+◌, ◌/◌, ◌<◌, ◌^◌, Option, Some, subst, arith, replicate}
use Rattle.std.specs.Option.{SomeIff}
use Rattle.mvo_hash.specs.Slots.{empty_slot}
use Rattle.mvo_hash.proofs.Uses.{new_heads, new_table, filled_up}
use Rattle.mvo_hash.proofs.open_table.OpenTable.with_room.Goals as goal

pub invariant_of-result : goal.invariant_of-result
invariant_of-result c =
    let keys = c.args.keys in
    let count = c.in_ok-homes.homes in
    let homes : SomeIff (Some count) (keys + keys / 2 < 2 ^ 64) (keys + keys / 2) = subst (λ (o : Option ℕ). SomeIff o (keys + keys / 2 < 2 ^ 64) (keys + keys / 2)) c.in_ok-homes.ensures.ok_part c.checked_add.ensures in
    let items : c.resize.new.self.items ≡ replicate count empty_slot = filled_up c.in_ok-slots.slots.items count c.in_ok-slots.slots.len c.empty.result c.resize.new.self.items c.in_ok-resize.ensures.items c.in_ok-slots.ensures.items c.in_ok-slots.ensures.len c.empty.ensures in
    new_heads c.args.seeds.first c.args.seeds.second keys count c.resize.new.self.items items (omega (arith, homes.1))

pub returns : goal.returns
returns c =
    let count = c.in_ok-homes.homes in
    let items : c.resize.new.self.items ≡ replicate count empty_slot = filled_up c.in_ok-slots.slots.items count c.in_ok-slots.slots.len c.empty.result c.resize.new.self.items c.in_ok-resize.ensures.items c.in_ok-slots.ensures.items c.in_ok-slots.ensures.len c.empty.ensures in
    new_table c.args.seeds c.args.keys count c.resize.new.self.items items
