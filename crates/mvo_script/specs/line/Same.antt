-- Two lines that say the same.
use Rattle.std.specs.Prelude.{◌≡◌}
use Rattle.mvo_types.specs.declared.row.RowKey.{RowKey}
use Rattle.mvo_script.specs.line.Forms.{HasForm, IsInRange}
use Rattle.mvo_script.specs.line.Written.{text_of}
use Rattle.mvo_script.specs.declared.line.line.Line.{Line}
use Rattle.mvo_script.specs.declared.line.line.Line.TheVariants as line
use Rattle.mvo_script.specs.declared.line.line.RowText.{RowText}
use Rattle.mvo_script.specs.declared.line.line.SortRange.{SortRange}

abbrev pub IsSameKey : RowKey → RowKey → Type 0
IsSameKey a b = (a.table ≡ b.table) × (a.key ≡ b.key)

abbrev pub IsSameRange : SortRange → SortRange → Type 0
IsSameRange a b = (a.table ≡ b.table) × (a.lo ≡ b.lo) × (a.hi ≡ b.hi)

abbrev pub IsSameRow : RowText → RowText → Type 0
IsSameRow a b = IsSameKey a.key b.key × (a.sort ≡ b.sort) × (a.digits.now ≡ b.digits.now)

-- of one kind, with the same name, the same numbers and the same data
abbrev pub IsSameLine : Line → Line → Type 0
IsSameLine (line.Begin a) (line.Begin b) = a.now ≡ b.now
IsSameLine (line.BeginReadOnly a) (line.BeginReadOnly b) = a.now ≡ b.now
IsSameLine (line.Read a key) (line.Read b other) = (a.now ≡ b.now) × IsSameKey key other
IsSameLine (line.Scan a range) (line.Scan b other) = (a.now ≡ b.now) × IsSameRange range other
IsSameLine (line.Insert a row) (line.Insert b other) = (a.now ≡ b.now) × IsSameRow row other
IsSameLine (line.Update a row) (line.Update b other) = (a.now ≡ b.now) × IsSameRow row other
IsSameLine (line.Delete a key) (line.Delete b other) = (a.now ≡ b.now) × IsSameKey key other
IsSameLine (line.Precommit a) (line.Precommit b) = a.now ≡ b.now
IsSameLine (line.Validate a) (line.Validate b) = a.now ≡ b.now
IsSameLine (line.Settle a) (line.Settle b) = a.now ≡ b.now
IsSameLine (line.Rollback a) (line.Rollback b) = a.now ≡ b.now
IsSameLine (line.Finish a) (line.Finish b) = a.now ≡ b.now
IsSameLine (line.Commit a) (line.Commit b) = a.now ≡ b.now
IsSameLine (line.Poll a) (line.Poll b) = a.now ≡ b.now
IsSameLine line.Collect line.Collect = Unit {0}
IsSameLine (line.Trim a) (line.Trim b) = a.0 ≡ b.0
IsSameLine line.Group line.Group = Unit {0}
IsSameLine line.Take line.Take = Unit {0}
IsSameLine line.Flush line.Flush = Unit {0}
IsSameLine line.Rotate line.Rotate = Unit {0}
IsSameLine line.Checkpoint line.Checkpoint = Unit {0}
IsSameLine (line.Merge a) (line.Merge b) = a ≡ b
IsSameLine (line.Store a) (line.Store b) = a ≡ b
IsSameLine _ _ = ⊥

-- a text is the text of one line at most
abbrev pub TextTellsLine : Type 0
TextTellsLine = (a b : Line) → HasForm a → HasForm b → IsInRange a → IsInRange b →
    text_of a ≡ text_of b → IsSameLine a b
