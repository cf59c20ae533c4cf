use Rattle.std.proofs.Common.{◌≡◌, ◌+◌, ◌≤◌, take}
use Rattle.std.specs.List.{enumerate_from}
use Rattle.mvo_places.specs.Places.{PlaceMap, with_live}
use Rattle.mvo_places.proofs.places.Places.put_records.Given as goal

abbrev pub invariant-loop-number : goal.invariant-loop-number
invariant-loop-number l = ((at : PlaceMap) → l.fn.self.at ≡ with_live l.data_file (enumerate_from 0 (take l.from l.records)) at → l.self.at ≡ with_live l.data_file (enumerate_from 0 (take l.number l.records)) at) × (l.fn.self.room + l.from ≤ l.self.room + l.number)
