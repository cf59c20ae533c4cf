-- The seats of a slab of chairs.
use Rattle.std.specs.Prelude.{ℕ, ◌≤◌, List, [], ◌∷◌, Option, Some, None}
use Rattle.mvo_types.specs.declared.limits.TheConstants.{MAX_UNFINISHED}
use Rattle.slab.specs.Slab.{Slab}
use Rattle.mvo_txn.specs.declared.directory.Directory.{Directory}
use Rattle.mvo_txn.specs.declared.chair.Chair.{Chair}
use Rattle.mvo_txn.specs.declared.table_seat.TableSeat.{TableSeat}
use Rattle.mvo_txn.specs.Directory.{IsDirectory}

-- the seats with their ids
abbrev pub seats_of : {P : Type 0} → List (Option (Chair P)) → List (ℕ × TableSeat P)
seats_of [] = []
seats_of (None ∷ chairs) = seats_of chairs
seats_of (Some chair ∷ chairs) = (chair.id, chair.seat) ∷ seats_of chairs

-- each is found, and there is room for as many as may be unfinished
pub record AreSeats {P : Type 0} (d : Directory) (chairs : Slab (Chair P)) : Type 0 where
  pub directory : IsDirectory d chairs
  pub room : MAX_UNFINISHED ≤ chairs.capacity
