-- Which words begin no line.
use Rattle.std.specs.Prelude.{◌≢◌, ◌≡◌, ℕ, ◌<◌, List, [], ◌∷◌, ◌++◌, length}
use Rattle.mvo_types.specs.declared.row.RowKey.{RowKey}
use Rattle.mvo_store.specs.declared.call.StoreCall.{StoreCall}
use Rattle.mvo_script.specs.line.Forms.{HasForm, IsData, IsInRange, IsKeyInRange, IsRowInRange, IsSpanInRange}
use Rattle.mvo_script.specs.line.Written.{call_words, key_words, range_words, row_words, line_words, text_of}
use Rattle.mvo_script.specs.declared.line.line.TheConstants.{MAX_LINE_LEN}
use Rattle.mvo_script.specs.declared.line.line.Line.{Line}
use Rattle.mvo_script.specs.declared.line.line.Line.TheVariants as line
use Rattle.mvo_script.specs.declared.line.line.RowText.{RowText}
use Rattle.mvo_script.specs.declared.line.line.SortRange.{SortRange}

abbrev pub BeginNoKey : List (List ℕ) → Type 0
BeginNoKey words = (key : RowKey) (left : List (List ℕ)) → IsKeyInRange key →
    key_words key ++ left ≢ words

abbrev pub BeginNoRange : List (List ℕ) → Type 0
BeginNoRange words = (range : SortRange) (left : List (List ℕ)) → IsSpanInRange range →
    range_words range ++ left ≢ words

abbrev pub BeginNoRow : List (List ℕ) → Type 0
BeginNoRow words = (row : RowText) (left : List (List ℕ)) → IsRowInRange row →
    IsData row.digits.now → row_words row ++ left ≢ words

-- it is one of a transaction
abbrev pub IsOfTransaction : Line → Type 0
IsOfTransaction (line.Begin _) = Unit {0}
IsOfTransaction (line.BeginReadOnly _) = Unit {0}
IsOfTransaction (line.Read _ _) = Unit {0}
IsOfTransaction (line.Scan _ _) = Unit {0}
IsOfTransaction (line.Insert _ _) = Unit {0}
IsOfTransaction (line.Update _ _) = Unit {0}
IsOfTransaction (line.Delete _ _) = Unit {0}
IsOfTransaction (line.Precommit _) = Unit {0}
IsOfTransaction (line.Validate _) = Unit {0}
IsOfTransaction (line.Settle _) = Unit {0}
IsOfTransaction (line.Rollback _) = Unit {0}
IsOfTransaction (line.Finish _) = Unit {0}
IsOfTransaction (line.Commit _) = Unit {0}
IsOfTransaction (line.Poll _) = Unit {0}
IsOfTransaction _ = ⊥

-- such a line is in front of none of them
abbrev pub BeginNoLine : (Line → Type 0) → List (List ℕ) → Type 0
BeginNoLine P words = (a : Line) (left : List (List ℕ)) → P a → HasForm a → IsInRange a →
    line_words a ++ left ≢ words

-- it is the word of no call of the store
abbrev pub IsNoCall : List ℕ → Type 0
IsNoCall word = (call : StoreCall) → call_words call ≢ word ∷ []

-- no line of so few bytes has this text
abbrev pub IsNoLine : List ℕ → Type 0
IsNoLine text = (a : Line) → HasForm a → IsInRange a → text_of a ≡ text → MAX_LINE_LEN < length text
