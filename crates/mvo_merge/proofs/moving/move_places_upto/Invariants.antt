use Rattle.std.proofs.Common.{◌≡◌, take}
use Rattle.mvo_places.specs.Places.{PlaceMap}
use Rattle.mvo_merge.specs.Moved.{HaveOwnKeys, moved}
use Rattle.mvo_merge.proofs.moving.move_places_upto.Given as goal

abbrev pub invariant-loop-number : goal.invariant-loop-number
invariant-loop-number l = (HaveOwnKeys l.records → (at : PlaceMap) → l.fn.places.at ≡ moved l.left l.right l.data_file (take l.from l.records) at → l.places.at ≡ moved l.left l.right l.data_file (take l.number l.records) at) × (l.places.room ≡ l.fn.places.room)
