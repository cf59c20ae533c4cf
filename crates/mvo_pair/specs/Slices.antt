-- A data file that is written in slices.
use Rattle.std.specs.Prelude.{◌≡◌, ℕ, suc, ◌+◌, ◌-◌, nat_lt, List, [], ◌∷◌, length, All, take, drop, if◌then◌else◌}
use Rattle.mvo_format.specs.declared.format.Format.{Format}
use Rattle.mvo_pair.specs.Data.{EntryData}
use Rattle.mvo_pair.specs.Files.{HasRowWords, data_bytes}
use Rattle.mvo_pair.specs.declared.slices.TheConstants.{SLICE_LEN}

-- how many bytes a record takes
abbrev pub entry_len : EntryData → ℕ
entry_len e = 27 + length e.row.bytes

-- how many records, from the first on, fit into so many bytes
abbrev pub fitting : ℕ → List EntryData → ℕ
fitting room [] = 0
fitting room (e ∷ es) =
    if nat_lt room (entry_len e) then 0 else suc (fitting (room - entry_len e) es)

-- How many records a data file holds once the next slice is written, where it holds so many: those
-- too that fit into a slice.
abbrev pub with_slice : List EntryData → ℕ → ℕ
with_slice es from = from + fitting SLICE_LEN (drop from es)

-- The bytes are a data file of the first so many of these records, and nothing else.
pub record HasFirst (f : Format) (es : List EntryData) (count : ℕ) (bytes : List ℕ) : Type 0 where
  pub whole : bytes ≡ data_bytes f.version (take count es)
  pub words : All HasRowWords (take count es)
