-- What is found while the writes are walked from the last to the first.
use Rattle.std.specs.Prelude.{ℕ, Bool, true, false, ◌==◌, ◌/◌, ◌%◌, List, [], ◌∷◌, ◌++◌, map, filter}
use Rattle.std.specs.List.{flat_map}
use Rattle.std.specs.Option.{option_map, option_to_list}
use Rattle.std.specs.FinMap as map
use Rattle.mvo_types.specs.declared.row.RowKey.{RowKey}
use Rattle.mvo_types.specs.declared.limits.TheConstants.{MAX_PAIR_RECORDS}
use Rattle.mvo_hash.specs.Table.{KeyNumbers}
use Rattle.mvo_pair.specs.Data.{EntryData}
use Rattle.mvo_pair.specs.declared.pair.Pair.{Pair}
use Rattle.mvo_ckpt.specs.declared.newest.Newest.{Newest}
use Rattle.mvo_ckpt.specs.Writes.{Stamped, record_of, gone_at}
use Rattle.mvo_places.specs.Places.{PlaceMap, number_of}
use Rattle.mvo_ckpt.specs.Checkpoint.{DeltaData}
use Rattle.mvo_ckpt.specs.Ended.{delta_by}

-- the keys that were met, and what their last writes leave and end
pub record Walk : Type 0 where
  pub seen : KeyNumbers
  pub records : List EntryData
  pub gone : List RowKey
  pub places : List ℕ

abbrev pub walk_of : Newest → Walk
walk_of n = record {
  seen = n.seen.numbers;
  records = n.records.items;
  gone = n.gone.items;
  places = n.places.items;
}

abbrev pub none_met : Walk
none_met = record { seen = map.empty; records = []; gone = []; places = [] }

abbrev pub with_seen : RowKey → Walk → Walk
with_seen k s = record s { seen = map.insert s.seen k 0 }

abbrev pub with_place : PlaceMap → RowKey → Walk → Walk
with_place at k s =
    record s { places = s.places ++ option_to_list (option_map number_of (map.get at k)) }

abbrev pub with_write : Stamped → Walk → Walk
with_write w s = record s {
  records = s.records ++ option_to_list (record_of w);
  gone = s.gone ++ option_to_list (gone_at w);
}

-- the write is passed over where a later one of its key was met
abbrev pub meet : PlaceMap → Bool → Stamped → Walk → Walk
meet at true w s = with_seen w.1.0 s
meet at false w s = with_write w (with_place at w.1.0 (with_seen w.1.0 s))

abbrev pub step : PlaceMap → Stamped → Walk → Walk
step at w s = meet at (map.contains_key s.seen w.1.0) w s

-- the writes from the last to the first
abbrev pub walk_writes : PlaceMap → List Stamped → Walk → Walk
walk_writes at [] s = s
walk_writes at (w ∷ ws) s = step at w (walk_writes at ws s)

-- the numbers in a file, of places
abbrev pub part_of : ℕ → List ℕ → List ℕ
part_of file ns =
    map (λ n. n % MAX_PAIR_RECORDS) (filter (λ n. n / MAX_PAIR_RECORDS == file) ns)

-- what the delta files gain by the places
abbrev pub deltas_by : List Pair → List ℕ → List DeltaData
deltas_by ps ns = flat_map (λ p. delta_by p.data_file (part_of p.data_file ns)) ps
