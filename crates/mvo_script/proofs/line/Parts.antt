-- The words of a line are told by its text.
use Rattle.std.proofs.Common.{◌≡◌, ℕ, ◌<◌, ◌≤◌, ◌^◌, ◌⊎◌, Bool, true, false, not, ◌&&◌, List, [], ◌∷◌, ◌++◌, length, codes, decimal, refl, ap, sym, ◌∙◌, inl, inr, lit<, arith}
use Rattle.std.specs.Prelude.{◌==◌, nat_lt, nat_le}
use Rattle.std.specs.List.{list_all, onto_first, join_with_byte}
use Rattle.std.specs.Str.{IsAscii}
use Rattle.std.specs.Str.Parse.{AllDigits}
use Rattle.std.proofs.lemmas.Bool.{and_parts, and_from, or_cases, not-true, not_from_false, ne_eqb, ltb-true, lt-ltb, leb-true}
use Rattle.std.proofs.lemmas.Fmt.{decimal_is_IsNumeral}
use Rattle.std.proofs.lemmas.List.Splits.{slice_split-cons_no}
use Rattle.std.proofs.lemmas.Str.{IsAscii-append}
use Rattle.std.proofs.lemmas.Str.Ascii.{IsAscii-nil, IsAscii-cons}
use Rattle.std.proofs.lemmas.Str.Parse.{tells_digits}
use Rattle.mvo_types.specs.declared.row.RowKey.{RowKey}
use Rattle.mvo_store.specs.declared.install.install_step.InstallStep.TheVariants.{Close, Body, Open}
use Rattle.mvo_store.specs.declared.jobs.due.Due.TheVariants.{Data, Delta, MergeData, MergeDelta, Install}
use Rattle.mvo_store.specs.declared.call.StoreCall.{StoreCall}
use Rattle.mvo_store.specs.declared.call.StoreCall.TheVariants.{AppendBody, AppendOpen, RotateWrite}
use Rattle.mvo_store.specs.declared.call.StoreCall.TheVariants.{CheckpointRead, MergeRead, Step, Reclaim}
use Rattle.mvo_script.specs.line.Words.{is_name_byte, is_hex_byte, IsName}
use Rattle.mvo_script.specs.line.Forms.{HasForm, IsData, IsInRange, IsKeyInRange}
use Rattle.mvo_script.specs.line.Split.{split_words}
use Rattle.mvo_script.specs.line.Written.{call_words, data_word, key_words, line_words, text_of}
use Rattle.mvo_script.specs.declared.line.line.Line.{Line}
use Rattle.mvo_script.specs.declared.line.line.Line.TheVariants as line

abbrev is_space : ℕ → Bool
is_space b = b == 32

-- ASCII, and no space
abbrev is_part_byte : ℕ → Bool
is_part_byte b = nat_lt b 128 && not (b == 32)

abbrev is_part : List ℕ → Bool
is_part w = list_all is_part_byte w

abbrev AreParts : List (List ℕ) → Type 0
AreParts [] = Unit {0}
AreParts (w ∷ ws) = (is_part w ≡ true) × AreParts ws

-- ---- words that have no space

part_byte : (b : ℕ) → 33 ≤ b → b < 128 → is_part_byte b ≡ true
part_byte b above below =
    and_from (nat_lt b 128) (not (b == 32)) (lt-ltb b 128 below)
    (not_from_false (b == 32) (ne_eqb b 32 (λ e. absurd (omega arith))))

byte_in : (lo hi b : ℕ) → (nat_le lo b && nat_le b hi) ≡ true → (lo ≤ b) × (b ≤ hi)
byte_in lo hi b passes =
    let parts = and_parts (nat_le lo b) (nat_le b hi) passes in
    (leb-true lo b parts.0, leb-true b hi parts.1)

name_byte : (b : ℕ) → is_name_byte b ≡ true → is_part_byte b ≡ true
name_byte b is = elim (or_cases (nat_le 97 b && nat_le b 122) (nat_le 48 b && nat_le b 57) is) [
  | inl letter ↦ let range = byte_in 97 122 b letter in part_byte b (omega arith) (omega arith)
  | inr digit ↦ let range = byte_in 48 57 b digit in part_byte b (omega arith) (omega arith)
]

hex_byte : (b : ℕ) → is_hex_byte b ≡ true → is_part_byte b ≡ true
hex_byte b is = elim (or_cases (nat_le 48 b && nat_le b 57) (nat_le 97 b && nat_le b 102) is) [
  | inl digit ↦ let range = byte_in 48 57 b digit in part_byte b (omega arith) (omega arith)
  | inr letter ↦ let range = byte_in 97 102 b letter in part_byte b (omega arith) (omega arith)
]

part_by : (p : ℕ → Bool) → ((b : ℕ) → p b ≡ true → is_part_byte b ≡ true) → (w : List ℕ) → list_all p w ≡ true → is_part w ≡ true
part_by p each [] passes = refl
part_by p each (b ∷ bs) passes =
    let parts = and_parts (p b) (list_all p bs) passes in
    and_from (is_part_byte b) (is_part bs) (each b parts.0) (part_by p each bs parts.1)

digits_part : (w : List ℕ) → AllDigits 10 w → is_part w ≡ true
digits_part [] digits = refl
digits_part (b ∷ bs) digits =
    let parts = tells_digits.parts b bs digits in
    and_from (is_part_byte b) (is_part bs)
    (part_byte b (omega arith) (omega arith)) (digits_part bs digits.1)

number_part : (n : ℕ) → n < 2 ^ 64 → is_part (decimal n) ≡ true
number_part n small = digits_part (decimal n) ((decimal_is_IsNumeral n small).0.1)

table_part : (n : ℕ) → n < 2 ^ 8 → is_part (decimal n) ≡ true
table_part n small = number_part n (omega arith)

name_part : (w : List ℕ) → IsName w → is_part w ≡ true
name_part w is = part_by is_name_byte name_byte w is.2

data_part : (d : List ℕ) → IsData d → is_part (data_word d) ≡ true
data_part [] form = refl
data_part (b ∷ bs) form =
    elim form [ inl none ↦ absurd (cc) | inr hex ↦ part_by is_hex_byte hex_byte (b ∷ bs) hex.2 ]

-- ---- a text of such words, with single spaces between them

no_space : (b : ℕ) → is_part_byte b ≡ true → is_space b ≡ false
no_space b is = not-true (b == 32) ((and_parts (nat_lt b 128) (not (b == 32)) is).1)

front_part : (w rest : List ℕ) → is_part w ≡ true → split_words (w ++ 32 ∷ rest) ≡ w ∷ split_words rest
front_part [] rest all = refl
front_part (b ∷ bs) rest all =
    let parts = and_parts (is_part_byte b) (is_part bs) all in
    slice_split-cons_no is_space b (bs ++ 32 ∷ rest) (no_space b parts.0)
    ∙ ap (onto_first b) (front_part bs rest parts.1)

last_part : (w : List ℕ) → is_part w ≡ true → split_words w ≡ w ∷ []
last_part [] all = refl
last_part (b ∷ bs) all =
    let parts = and_parts (is_part_byte b) (is_part bs) all in
    slice_split-cons_no is_space b bs (no_space b parts.0)
    ∙ ap (onto_first b) (last_part bs parts.1)

split_joined : (w : List ℕ) (ws : List (List ℕ)) → AreParts (w ∷ ws) → split_words (join_with_byte 32 (w ∷ ws)) ≡ w ∷ ws
split_joined w [] all = last_part w all.0
split_joined w (v ∷ ws) all =
    front_part w (join_with_byte 32 (v ∷ ws)) all.0 ∙ ap (λ rest. w ∷ rest) (split_joined v ws all.1)

split_text : (ws : List (List ℕ)) → AreParts ws → (ws ≡ [] → ⊥) → split_words (join_with_byte 32 ws) ≡ ws
split_text [] all some = absurd (some refl)
split_text (w ∷ ws) all some = split_joined w ws all

part_ascii : (w : List ℕ) → is_part w ≡ true → IsAscii w
part_ascii [] all = IsAscii-nil
part_ascii (b ∷ bs) all =
    let parts = and_parts (is_part_byte b) (is_part bs) all in
    let ascii = and_parts (nat_lt b 128) (not (b == 32)) parts.0 in
    IsAscii-cons b bs (ltb-true b 128 ascii.0) (part_ascii bs parts.1)

joined_ascii : (ws : List (List ℕ)) → AreParts ws → IsAscii (join_with_byte 32 ws)
joined_ascii [] all = IsAscii-nil
joined_ascii (w ∷ []) all = part_ascii w all.0
joined_ascii (w ∷ v ∷ ws) all =
    IsAscii-append w (32 ∷ join_with_byte 32 (v ∷ ws)) (part_ascii w all.0)
    (IsAscii-cons 32 (join_with_byte 32 (v ∷ ws)) (lit< tt) (joined_ascii (v ∷ ws) all.1))

-- ---- the words of a line

key_parts : (key : RowKey) → IsKeyInRange key → AreParts (key_words key)
key_parts key range = (table_part key.table range.0, (number_part key.key range.1, tt))

call_parts : (call : StoreCall) → IsInRange (line.Store call) → AreParts (call_words call)
call_parts AppendBody range = (refl, tt)
call_parts AppendOpen range = (refl, tt)
call_parts RotateWrite range = (refl, tt)
call_parts CheckpointRead range = (refl, tt)
call_parts (MergeRead place) range = (refl, (number_part place range, tt))
call_parts (Step Data) range = (refl, tt)
call_parts (Step Delta) range = (refl, tt)
call_parts (Step MergeData) range = (refl, tt)
call_parts (Step MergeDelta) range = (refl, tt)
call_parts (Step (Install Close)) range = (refl, tt)
call_parts (Step (Install Body)) range = (refl, tt)
call_parts (Step (Install Open)) range = (refl, tt)
call_parts Reclaim range = (refl, tt)

line_parts : (a : Line) → HasForm a → IsInRange a → AreParts (line_words a)
line_parts (line.Begin name) form range = (refl, (name_part name.now form, tt))
line_parts (line.BeginReadOnly name) form range = (refl, (name_part name.now form, tt))
line_parts (line.Read name key) form range =
    (refl, (name_part name.now form, key_parts key range))
line_parts (line.Scan name bounds) form range = (
  refl,
  (
    name_part name.now form,
    (
      table_part bounds.table range.0,
      (number_part bounds.lo range.1, (number_part bounds.hi range.2, tt)),
    ),
  ),
)
line_parts (line.Insert name row) form range = (
  refl,
  (
    name_part name.now form.0,
    (
      table_part row.key.table range.0.0,
      (
        number_part row.key.key range.0.1,
        (
          number_part row.sort range.1,
          (data_part row.digits.now form.1, tt),
        ),
      ),
    ),
  ),
)
line_parts (line.Update name row) form range = (
  refl,
  (
    name_part name.now form.0,
    (
      table_part row.key.table range.0.0,
      (
        number_part row.key.key range.0.1,
        (
          number_part row.sort range.1,
          (data_part row.digits.now form.1, tt),
        ),
      ),
    ),
  ),
)
line_parts (line.Delete name key) form range =
    (refl, (name_part name.now form, key_parts key range))
line_parts (line.Precommit name) form range = (refl, (name_part name.now form, tt))
line_parts (line.Validate name) form range = (refl, (name_part name.now form, tt))
line_parts (line.Settle name) form range = (refl, (name_part name.now form, tt))
line_parts (line.Rollback name) form range = (refl, (name_part name.now form, tt))
line_parts (line.Finish name) form range = (refl, (name_part name.now form, tt))
line_parts (line.Commit name) form range = (refl, (name_part name.now form, tt))
line_parts (line.Poll name) form range = (refl, (name_part name.now form, tt))
line_parts line.Collect form range = (refl, tt)
line_parts (line.Trim stamp) form range = (refl, (number_part stamp.0 range, tt))
line_parts line.Group form range = (refl, tt)
line_parts line.Take form range = (refl, tt)
line_parts line.Flush form range = (refl, tt)
line_parts line.Rotate form range = (refl, tt)
line_parts line.Checkpoint form range = (refl, tt)
line_parts (line.Merge place) form range = (refl, (number_part place range, tt))
line_parts (line.Store call) form range = call_parts call range

some_call_words : (call : StoreCall) → call_words call ≡ [] → ⊥
some_call_words AppendBody none = cc
some_call_words (Step (Install Close)) none = cc
some_call_words (Step Data) none = cc
some_call_words _ none = cc

pub some_words : (a : Line) → line_words a ≡ [] → ⊥
some_words (line.Store call) none = some_call_words call none
some_words _ none = cc

pub text_splits : (a : Line) → HasForm a → IsInRange a → split_words (text_of a) ≡ line_words a
text_splits a form range = split_text (line_words a) (line_parts a form range) (some_words a)

pub text_ascii : (a : Line) → HasForm a → IsInRange a → IsAscii (text_of a)
text_ascii a form range = joined_ascii (line_words a) (line_parts a form range)
