use Rattle.std.proofs.Common.{◌≡◌, take}
use Rattle.mvo_places.specs.Places.{with_live}
use Rattle.mvo_places.proofs.places.Places.add_pair.Given as goal

abbrev pub invariant-loop-one : goal.invariant-loop-one
invariant-loop-one l = l.self.at ≡ with_live l.data_file (take l.one-index l.live) l.fn.self.at
