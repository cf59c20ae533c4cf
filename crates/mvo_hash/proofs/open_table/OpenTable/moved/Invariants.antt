use Rattle.std.proofs.Common.{◌≡◌, ◌≤◌, ◌+◌, take}
use Rattle.mvo_hash.specs.Slots.{live_count}
use Rattle.mvo_hash.specs.Table.{map_of}
use Rattle.mvo_hash.proofs.open_table.OpenTable.moved.Given as goal

abbrev pub invariant-loop-slot : goal.invariant-loop-slot
invariant-loop-slot l = record {
  same : l.larger.numbers ≡ map_of (take l.slot-index l.slot-items);
  seeds : l.larger.seeds ≡ l.self-inside.seeds;
  room : l.all ≤ l.larger.room + live_count (take l.slot-index l.slot-items);
}
