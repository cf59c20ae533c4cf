-- The words of a line tell the line, and where it ends.
use Rattle.std.proofs.Common.{◌≡◌, ℕ, ◌+◌, ◌<◌, ◌^◌, ◌⊎◌, Bool, true, false, ◌&&◌, cond, suc, List, [], ◌∷◌, ◌++◌, length, codes, decimal, get_or, refl, ap, sym, ◌∙◌, subst, inl, inr, append-nil, arith}
use Rattle.std.specs.Prelude.{◌==◌}
use Rattle.std.proofs.lemmas.Fmt.{decimal_injective}
use Rattle.std.proofs.lemmas.List.{length-append}
use Rattle.mvo_types.specs.declared.row.RowKey.{RowKey}
use Rattle.mvo_store.specs.declared.install.install_step.InstallStep.{InstallStep}
use Rattle.mvo_store.specs.declared.install.install_step.InstallStep.TheVariants.{Close, Body, Open}
use Rattle.mvo_store.specs.declared.jobs.due.Due.{Due}
use Rattle.mvo_store.specs.declared.jobs.due.Due.TheVariants.{Data, Delta, MergeData, MergeDelta, Install}
use Rattle.mvo_store.specs.declared.call.StoreCall.{StoreCall}
use Rattle.mvo_store.specs.declared.call.StoreCall.TheVariants.{AppendBody, AppendOpen, RotateWrite}
use Rattle.mvo_store.specs.declared.call.StoreCall.TheVariants.{CheckpointRead, MergeRead, Step, Reclaim}
use Rattle.mvo_script.specs.line.Words.{IsHex}
use Rattle.mvo_script.specs.line.Forms.{HasForm, IsData, IsInRange, IsKeyInRange}
use Rattle.mvo_script.specs.line.Same.{IsSameKey, IsSameLine, TextTellsLine}
use Rattle.mvo_script.specs.line.Split.{split_words}
use Rattle.mvo_script.specs.line.Written.{call_words, data_word, line_words}
use Rattle.mvo_script.specs.declared.line.line.Line.{Line}
use Rattle.mvo_script.specs.declared.line.line.Line.TheVariants as line
use Rattle.mvo_script.proofs.line.Parts.{text_splits}

-- ---- the first word tells the kind, and how many words there are

abbrev is_word : List ℕ → List ℕ → Bool
is_word [] [] = true
is_word (x ∷ xs) (y ∷ ys) = (x == y) && is_word xs ys
is_word _ _ = false

abbrev place_in : List ℕ → List (List ℕ) → ℕ
place_in w [] = 0
place_in w (v ∷ vs) = cond (is_word w v) 0 (suc (place_in w vs))

abbrev first_words : List (List ℕ)
first_words = codes "begin" ∷ codes "read" ∷ codes "scan" ∷ codes "insert" ∷ codes "update" ∷ codes "delete" ∷ codes "precommit" ∷ codes "validate" ∷ codes "settle" ∷ codes "rollback" ∷ codes "finish" ∷ codes "commit" ∷ codes "poll" ∷ codes "collect" ∷ codes "trim" ∷ codes "group" ∷ codes "take" ∷ codes "flush" ∷ codes "rotate" ∷ codes "checkpoint" ∷ codes "merge" ∷ codes "begin-read" ∷ codes "body" ∷ codes "open" ∷ codes "rotate-write" ∷ codes "checkpoint-read" ∷ codes "merge-read" ∷ codes "reclaim" ∷ codes "checkpoint-data" ∷ codes "checkpoint-delta" ∷ codes "merge-data" ∷ codes "merge-delta" ∷ codes "install-close" ∷ codes "install-body" ∷ codes "install-open" ∷ []

abbrev counts : List ℕ
counts = 2 ∷ 4 ∷ 5 ∷ 6 ∷ 6 ∷ 4 ∷ 2 ∷ 2 ∷ 2 ∷ 2 ∷ 2 ∷ 2 ∷ 2 ∷ 1 ∷ 2 ∷ 1 ∷ 1 ∷ 1 ∷ 1 ∷ 1 ∷ 2 ∷ 2 ∷ 1 ∷ 1 ∷ 1 ∷ 1 ∷ 2 ∷ 1 ∷ 1 ∷ 1 ∷ 1 ∷ 1 ∷ 1 ∷ 1 ∷ 1 ∷ []

abbrev pub kind_by : List (List ℕ) → ℕ
kind_by [] = 99
kind_by (w ∷ ws) = place_in w first_words

abbrev count_by : List (List ℕ) → ℕ
count_by [] = 0
count_by (w ∷ ws) = get_or counts (place_in w first_words) 0

abbrev install_kind : InstallStep → ℕ
install_kind Close = 0
install_kind Body = 1
install_kind Open = 2

abbrev step_kind : Due → ℕ
step_kind Data = 0
step_kind Delta = 1
step_kind MergeData = 2
step_kind MergeDelta = 3
step_kind (Install step) = 4 + install_kind step

abbrev pub call_kind : StoreCall → ℕ
call_kind AppendBody = 0
call_kind AppendOpen = 1
call_kind RotateWrite = 2
call_kind CheckpointRead = 3
call_kind (MergeRead _) = 4
call_kind Reclaim = 5
call_kind (Step step) = 6 + step_kind step

abbrev pub kind : Line → ℕ
kind (line.Begin _) = 0
kind (line.Read _ _) = 1
kind (line.Scan _ _) = 2
kind (line.Insert _ _) = 3
kind (line.Update _ _) = 4
kind (line.Delete _ _) = 5
kind (line.Precommit _) = 6
kind (line.Validate _) = 7
kind (line.Settle _) = 8
kind (line.Rollback _) = 9
kind (line.Finish _) = 10
kind (line.Commit _) = 11
kind (line.Poll _) = 12
kind line.Collect = 13
kind (line.Trim _) = 14
kind line.Group = 15
kind line.Take = 16
kind line.Flush = 17
kind line.Rotate = 18
kind line.Checkpoint = 19
kind (line.Merge _) = 20
kind (line.BeginReadOnly _) = 21
kind (line.Store call) = 22 + call_kind call

pub kind_told : (a : Line) (left : List (List ℕ)) → kind_by (line_words a ++ left) ≡ kind a
kind_told (line.Begin _) left = refl
kind_told (line.BeginReadOnly _) left = refl
kind_told (line.Read _ _) left = refl
kind_told (line.Scan _ _) left = refl
kind_told (line.Insert _ _) left = refl
kind_told (line.Update _ _) left = refl
kind_told (line.Delete _ _) left = refl
kind_told (line.Precommit _) left = refl
kind_told (line.Validate _) left = refl
kind_told (line.Settle _) left = refl
kind_told (line.Rollback _) left = refl
kind_told (line.Finish _) left = refl
kind_told (line.Commit _) left = refl
kind_told (line.Poll _) left = refl
kind_told line.Collect left = refl
kind_told (line.Trim _) left = refl
kind_told line.Group left = refl
kind_told line.Take left = refl
kind_told line.Flush left = refl
kind_told line.Rotate left = refl
kind_told line.Checkpoint left = refl
kind_told (line.Merge _) left = refl
kind_told (line.Store AppendBody) left = refl
kind_told (line.Store AppendOpen) left = refl
kind_told (line.Store RotateWrite) left = refl
kind_told (line.Store CheckpointRead) left = refl
kind_told (line.Store (Step Data)) left = refl
kind_told (line.Store (Step Delta)) left = refl
kind_told (line.Store (MergeRead _)) left = refl
kind_told (line.Store (Step MergeData)) left = refl
kind_told (line.Store (Step MergeDelta)) left = refl
kind_told (line.Store (Step (Install Close))) left = refl
kind_told (line.Store (Step (Install Body))) left = refl
kind_told (line.Store (Step (Install Open))) left = refl
kind_told (line.Store Reclaim) left = refl

count_told : (a : Line) (left : List (List ℕ)) → count_by (line_words a ++ left) ≡ length (line_words a)
count_told (line.Begin _) left = refl
count_told (line.BeginReadOnly _) left = refl
count_told (line.Read _ _) left = refl
count_told (line.Scan _ _) left = refl
count_told (line.Insert _ _) left = refl
count_told (line.Update _ _) left = refl
count_told (line.Delete _ _) left = refl
count_told (line.Precommit _) left = refl
count_told (line.Validate _) left = refl
count_told (line.Settle _) left = refl
count_told (line.Rollback _) left = refl
count_told (line.Finish _) left = refl
count_told (line.Commit _) left = refl
count_told (line.Poll _) left = refl
count_told line.Collect left = refl
count_told (line.Trim _) left = refl
count_told line.Group left = refl
count_told line.Take left = refl
count_told line.Flush left = refl
count_told line.Rotate left = refl
count_told line.Checkpoint left = refl
count_told (line.Merge _) left = refl
count_told (line.Store AppendBody) left = refl
count_told (line.Store AppendOpen) left = refl
count_told (line.Store RotateWrite) left = refl
count_told (line.Store CheckpointRead) left = refl
count_told (line.Store (Step Data)) left = refl
count_told (line.Store (Step Delta)) left = refl
count_told (line.Store (MergeRead _)) left = refl
count_told (line.Store (Step MergeData)) left = refl
count_told (line.Store (Step MergeDelta)) left = refl
count_told (line.Store (Step (Install Close))) left = refl
count_told (line.Store (Step (Install Body))) left = refl
count_told (line.Store (Step (Install Open))) left = refl
count_told (line.Store Reclaim) left = refl

none_left : (left : List (List ℕ)) → length left ≡ 0 → left ≡ []
none_left [] none = refl
none_left (w ∷ ws) none = absurd (omega arith)

-- whose words are in front of those of another has no more
pub ends_there : (a b : Line) (left : List (List ℕ)) → line_words a ++ left ≡ line_words b → left ≡ []
ends_there a b left same =
    let first = count_told a left in
    let other = count_told b [] in
    let counted = ap count_by same in
    let whole = ap length same in
    let last = ap count_by (append-nil (line_words b)) in
    none_left left (omega (arith, length-append (line_words a) left))

-- ---- the other words tell the rest

table_told : (n m : ℕ) → n < 2 ^ 8 → m < 2 ^ 8 → decimal n ≡ decimal m → n ≡ m
table_told n m small least e = decimal_injective n m (omega arith) (omega arith) e

key_told : (k l : RowKey) → IsKeyInRange k → IsKeyInRange l → decimal k.table ≡ decimal l.table → decimal k.key ≡ decimal l.key → IsSameKey k l
key_told k l small least table key =
    (table_told k.table l.table small.0 least.0 table, decimal_injective k.key l.key small.1 least.1 key)

-- a dash is no digit
no_dash : (d : List ℕ) → IsData d → d ≡ codes "-" → ⊥
no_dash d form dash = elim form [
  | inl none ↦ cc
  | inr hex ↦ let is : IsHex (codes "-") = subst IsHex dash hex in absurd (omega (arith, is.1))
]

data_told : (d e : List ℕ) → IsData d → IsData e → data_word d ≡ data_word e → d ≡ e
data_told [] [] form other same = refl
data_told [] (b ∷ bs) form other same = absurd (no_dash (b ∷ bs) other (sym same))
data_told (b ∷ bs) [] form other same = absurd (no_dash (b ∷ bs) form same)
data_told (b ∷ bs) (c ∷ cs) form other same = same

-- the words of a call tell the call
calls_tell : (a b : StoreCall) → IsInRange (line.Store a) → IsInRange (line.Store b) → call_kind a ≡ call_kind b → call_words a ≡ call_words b → a ≡ b
calls_tell AppendBody AppendBody range least alike same = refl
calls_tell AppendOpen AppendOpen range least alike same = refl
calls_tell RotateWrite RotateWrite range least alike same = refl
calls_tell CheckpointRead CheckpointRead range least alike same = refl
calls_tell (Step Data) (Step Data) range least alike same = refl
calls_tell (Step Delta) (Step Delta) range least alike same = refl
calls_tell (MergeRead a) (MergeRead b) range least alike same = ap MergeRead (decimal_injective a b range least (cc))
calls_tell (Step MergeData) (Step MergeData) range least alike same = refl
calls_tell (Step MergeDelta) (Step MergeDelta) range least alike same = refl
calls_tell (Step (Install Close)) (Step (Install Close)) range least alike same = refl
calls_tell (Step (Install Body)) (Step (Install Body)) range least alike same = refl
calls_tell (Step (Install Open)) (Step (Install Open)) range least alike same = refl
calls_tell Reclaim Reclaim range least alike same = refl
calls_tell _ _ range least alike same = absurd (omega arith)

words_tell : (a b : Line) → HasForm a → HasForm b → IsInRange a → IsInRange b → kind a ≡ kind b → line_words a ≡ line_words b → IsSameLine a b
words_tell (line.Begin a) (line.Begin b) form other range least alike same = cc
words_tell (line.BeginReadOnly a) (line.BeginReadOnly b) form other range least alike same = cc
words_tell (line.Read a key) (line.Read b next) form other range least alike same =
    (cc, key_told key next range least (cc) (cc))
words_tell (line.Scan a bounds) (line.Scan b next) form other range least alike same = (
  cc,
  (
    table_told bounds.table next.table range.0 least.0 (cc),
    decimal_injective bounds.lo next.lo range.1 least.1 (cc),
    decimal_injective bounds.hi next.hi range.2 least.2 (cc),
  ),
)
words_tell (line.Insert a row) (line.Insert b next) form other range least alike same = (
  cc,
  (
    key_told row.key next.key range.0 least.0 (cc) (cc),
    decimal_injective row.sort next.sort range.1 least.1 (cc),
    data_told row.digits.now next.digits.now form.1 other.1 (cc),
  ),
)
words_tell (line.Update a row) (line.Update b next) form other range least alike same = (
  cc,
  (
    key_told row.key next.key range.0 least.0 (cc) (cc),
    decimal_injective row.sort next.sort range.1 least.1 (cc),
    data_told row.digits.now next.digits.now form.1 other.1 (cc),
  ),
)
words_tell (line.Delete a key) (line.Delete b next) form other range least alike same =
    (cc, key_told key next range least (cc) (cc))
words_tell (line.Precommit a) (line.Precommit b) form other range least alike same = cc
words_tell (line.Validate a) (line.Validate b) form other range least alike same = cc
words_tell (line.Settle a) (line.Settle b) form other range least alike same = cc
words_tell (line.Rollback a) (line.Rollback b) form other range least alike same = cc
words_tell (line.Finish a) (line.Finish b) form other range least alike same = cc
words_tell (line.Commit a) (line.Commit b) form other range least alike same = cc
words_tell (line.Poll a) (line.Poll b) form other range least alike same = cc
words_tell line.Collect line.Collect form other range least alike same = tt
words_tell (line.Trim a) (line.Trim b) form other range least alike same = decimal_injective a.0 b.0 range least (cc)
words_tell line.Group line.Group form other range least alike same = tt
words_tell line.Take line.Take form other range least alike same = tt
words_tell line.Flush line.Flush form other range least alike same = tt
words_tell line.Rotate line.Rotate form other range least alike same = tt
words_tell line.Checkpoint line.Checkpoint form other range least alike same = tt
words_tell (line.Merge a) (line.Merge b) form other range least alike same = decimal_injective a b range least (cc)
words_tell (line.Store a) (line.Store b) form other range least alike same = calls_tell a b range least (omega arith) same
words_tell _ _ form other range least alike same = absurd (omega arith)

pub text_tells : TextTellsLine
text_tells a b form other range least same =
    let words = sym (text_splits a form range) ∙ ap split_words same ∙ text_splits b other least in
    words_tell a b form other range least
    (sym (kind_told a []) ∙ ap kind_by (append-nil (line_words a) ∙ words ∙ sym (append-nil (line_words b)))
    ∙ kind_told b []) words
