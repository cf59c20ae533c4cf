use Rattle.std.proofs.Common.{◌≡◌, take}
use Rattle.mvo_places.specs.Places.{without_keys}
use Rattle.mvo_places.proofs.places.Places.remove_keys.Given as goal

abbrev pub invariant-loop-key : goal.invariant-loop-key
invariant-loop-key l = (l.self.at ≡ without_keys (take l.key-index l.keys) l.fn.self.at) × (l.self.room ≡ l.fn.self.room)
