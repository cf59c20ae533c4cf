-- The writes of groups, one after another.
use Rattle.std.specs.Prelude.{List, fold}
use Rattle.std.specs.List.{flat_map}
use Rattle.mvo_types.specs.Keys.{Map}
use Rattle.mvo_types.specs.Write.{Write}
use Rattle.mvo_model.specs.History.{after_effect}
use Rattle.mvo_group.specs.Data.{RecordData}

-- the writes of these transactions
abbrev pub all_writes : List RecordData → List Write
all_writes rs = flat_map (λ r. r.writes) rs

-- the rows after these writes
abbrev pub after_writes : Map → List Write → Map
after_writes m ws = fold (λ n w. after_effect w.0 w.1 n) m ws
