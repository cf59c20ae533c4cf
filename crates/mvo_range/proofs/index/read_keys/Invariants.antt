use Rattle.std.proofs.Common.{ℕ, ◌<◌, get_or}
use Rattle.mvo_range.specs.declared.sort_place.SortPlace.{SortPlace}
use Rattle.mvo_range.specs.Place.{HasKey}
use Rattle.mvo_range.proofs.index.read_keys.Given as goal

abbrev pub invariant-loop-place : goal.invariant-loop-place
invariant-loop-place l = (k : ℕ) (d : SortPlace × ℕ) → k < l.place-index → HasKey (get_or l.entries k d)
