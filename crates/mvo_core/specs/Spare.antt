-- The memory of transactions that are over.
use Rattle.std.specs.Prelude.{◌≡◌, List, []}
use Rattle.std.specs.List.{AllByRecursion}
use Rattle.mvo_work.specs.Writes.{WritesData}

-- nothing is written in them
abbrev pub AreUnwritten : List WritesData → Type 0
AreUnwritten writes = AllByRecursion (λ w. w.words ≡ []) writes
