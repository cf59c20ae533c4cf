-- How many groups went by an end of the ring.
use Rattle.std.specs.Prelude.{ℕ, ◌-◌, ◌^◌, min, List, length}
use Rattle.mvo_group.specs.Data.{GroupData}

-- all of them, as far as 64 bits can say it
abbrev pub count_of_groups : List GroupData → ℕ
count_of_groups groups = min (length groups) (2 ^ 64 - 1)
