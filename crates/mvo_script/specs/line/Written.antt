-- The text of each line.
use Rattle.std.specs.Prelude.{ℕ, List, [], ◌∷◌, ◌++◌, codes, decimal}
use Rattle.std.specs.List.{join_with_byte}
use Rattle.mvo_types.specs.declared.row.RowKey.{RowKey}
use Rattle.mvo_store.specs.declared.install.install_step.InstallStep.TheVariants.{Close, Body, Open}
use Rattle.mvo_store.specs.declared.jobs.due.Due.TheVariants.{Data, Delta, MergeData, MergeDelta, Install}
use Rattle.mvo_store.specs.declared.call.StoreCall.{StoreCall}
use Rattle.mvo_store.specs.declared.call.StoreCall.TheVariants.{AppendBody, AppendOpen, RotateWrite}
use Rattle.mvo_store.specs.declared.call.StoreCall.TheVariants.{CheckpointRead, MergeRead, Step, Reclaim}
use Rattle.mvo_script.specs.declared.line.line.Line.{Line}
use Rattle.mvo_script.specs.declared.line.line.Line.TheVariants as line
use Rattle.mvo_script.specs.declared.line.line.RowText.{RowText}
use Rattle.mvo_script.specs.declared.line.line.SortRange.{SortRange}

-- the word of a row's data: `-` stands for no bytes
abbrev pub data_word : List ℕ → List ℕ
data_word [] = codes "-"
data_word (digit ∷ digits) = digit ∷ digits

abbrev pub key_words : RowKey → List (List ℕ)
key_words key = decimal key.table ∷ decimal key.key ∷ []

abbrev pub range_words : SortRange → List (List ℕ)
range_words range = decimal range.table ∷ decimal range.lo ∷ decimal range.hi ∷ []

abbrev pub row_words : RowText → List (List ℕ)
row_words row = key_words row.key ++ decimal row.sort ∷ data_word row.digits.now ∷ []

abbrev pub call_words : StoreCall → List (List ℕ)
call_words AppendBody = codes "body" ∷ []
call_words AppendOpen = codes "open" ∷ []
call_words RotateWrite = codes "rotate-write" ∷ []
call_words CheckpointRead = codes "checkpoint-read" ∷ []
call_words (MergeRead place) = codes "merge-read" ∷ decimal place ∷ []
call_words (Step Data) = codes "checkpoint-data" ∷ []
call_words (Step Delta) = codes "checkpoint-delta" ∷ []
call_words (Step MergeData) = codes "merge-data" ∷ []
call_words (Step MergeDelta) = codes "merge-delta" ∷ []
call_words (Step (Install Close)) = codes "install-close" ∷ []
call_words (Step (Install Body)) = codes "install-body" ∷ []
call_words (Step (Install Open)) = codes "install-open" ∷ []
call_words Reclaim = codes "reclaim" ∷ []

abbrev pub line_words : Line → List (List ℕ)
line_words (line.Begin name) = codes "begin" ∷ name.now ∷ []
line_words (line.BeginReadOnly name) = codes "begin-read" ∷ name.now ∷ []
line_words (line.Read name key) = codes "read" ∷ name.now ∷ key_words key
line_words (line.Scan name range) = codes "scan" ∷ name.now ∷ range_words range
line_words (line.Insert name row) = codes "insert" ∷ name.now ∷ row_words row
line_words (line.Update name row) = codes "update" ∷ name.now ∷ row_words row
line_words (line.Delete name key) = codes "delete" ∷ name.now ∷ key_words key
line_words (line.Precommit name) = codes "precommit" ∷ name.now ∷ []
line_words (line.Validate name) = codes "validate" ∷ name.now ∷ []
line_words (line.Settle name) = codes "settle" ∷ name.now ∷ []
line_words (line.Rollback name) = codes "rollback" ∷ name.now ∷ []
line_words (line.Finish name) = codes "finish" ∷ name.now ∷ []
line_words (line.Commit name) = codes "commit" ∷ name.now ∷ []
line_words (line.Poll name) = codes "poll" ∷ name.now ∷ []
line_words line.Collect = codes "collect" ∷ []
line_words (line.Trim stamp) = codes "trim" ∷ decimal stamp.0 ∷ []
line_words line.Group = codes "group" ∷ []
line_words line.Take = codes "take" ∷ []
line_words line.Flush = codes "flush" ∷ []
line_words line.Rotate = codes "rotate" ∷ []
line_words line.Checkpoint = codes "checkpoint" ∷ []
line_words (line.Merge place) = codes "merge" ∷ decimal place ∷ []
line_words (line.Store call) = call_words call

-- its words with single spaces between them
abbrev pub text_of : Line → List ℕ
text_of line = join_with_byte 32 (line_words line)
