-- The forms of a script's lines.
use Rattle.std.specs.Prelude.{◌≡◌, ◌⊎◌, ℕ, ◌<◌, ◌^◌, List, []}
use Rattle.mvo_types.specs.declared.row.RowKey.{RowKey}
use Rattle.mvo_store.specs.declared.call.StoreCall.TheVariants.{MergeRead}
use Rattle.mvo_script.specs.line.Words.{IsName, IsHex}
use Rattle.mvo_script.specs.declared.line.line.Line.{Line}
use Rattle.mvo_script.specs.declared.line.line.Line.TheVariants as line
use Rattle.mvo_script.specs.declared.line.line.RowText.{RowText}
use Rattle.mvo_script.specs.declared.line.line.SortRange.{SortRange}

-- no bytes, or some in lower-case hexadecimal digits
abbrev pub IsData : List ℕ → Type 0
IsData digits = (digits ≡ []) ⊎ IsHex digits

-- a name has the form of one, and data that of data
abbrev pub HasForm : Line → Type 0
HasForm (line.Begin name) = IsName name.now
HasForm (line.BeginReadOnly name) = IsName name.now
HasForm (line.Read name key) = IsName name.now
HasForm (line.Scan name range) = IsName name.now
HasForm (line.Insert name row) = IsName name.now × IsData row.digits.now
HasForm (line.Update name row) = IsName name.now × IsData row.digits.now
HasForm (line.Delete name key) = IsName name.now
HasForm (line.Precommit name) = IsName name.now
HasForm (line.Validate name) = IsName name.now
HasForm (line.Settle name) = IsName name.now
HasForm (line.Rollback name) = IsName name.now
HasForm (line.Finish name) = IsName name.now
HasForm (line.Commit name) = IsName name.now
HasForm (line.Poll name) = IsName name.now
HasForm _ = Unit {0}

-- a table of 8 bits and a key of 64
abbrev pub IsKeyInRange : RowKey → Type 0
IsKeyInRange key = (key.table < 2 ^ 8) × (key.key < 2 ^ 64)

abbrev pub IsSpanInRange : SortRange → Type 0
IsSpanInRange range = (range.table < 2 ^ 8) × (range.lo < 2 ^ 64) × (range.hi < 2 ^ 64)

abbrev pub IsRowInRange : RowText → Type 0
IsRowInRange row = IsKeyInRange row.key × (row.sort < 2 ^ 64)

-- its numbers are of the types that they have in the program
abbrev pub IsInRange : Line → Type 0
IsInRange (line.Read name key) = IsKeyInRange key
IsInRange (line.Scan name range) = IsSpanInRange range
IsInRange (line.Insert name row) = IsRowInRange row
IsInRange (line.Update name row) = IsRowInRange row
IsInRange (line.Delete name key) = IsKeyInRange key
IsInRange (line.Trim stamp) = stamp.0 < 2 ^ 64
IsInRange (line.Merge place) = place < 2 ^ 64
IsInRange (line.Store (MergeRead place)) = place < 2 ^ 64
IsInRange _ = Unit {0}
