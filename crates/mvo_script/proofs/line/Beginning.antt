-- Words that begin no line.
use Rattle.std.proofs.Common.{◌≡◌, ℕ, Option, None, Some, IfNone, lit≤, ◌<◌, ◌≤◌, ◌^◌, ◌⊎◌, List, [], ◌∷◌, ◌++◌, length, codes, decimal, refl, ap, sym, ◌∙◌, subst, inl, inr, lit<, append-nil, arith}
use Rattle.std.specs.Str.{IsUtf8}
use Rattle.std.specs.Str.Parse.{digits_value}
use Rattle.std.proofs.lemmas.Bool.{cases_lt}
use Rattle.std.proofs.lemmas.Fmt.{decimal_is_IsNumeral, decimal_digit, first_decimal}
use Rattle.std.proofs.lemmas.Str.{IsUtf8-from_ascii}
use Rattle.mvo_store.specs.declared.call.StoreCall.TheVariants.{MergeRead}
use Rattle.mvo_script.specs.line.Words.{IsNumber}
use Rattle.mvo_script.specs.line.Forms.{HasForm, IsInRange}
use Rattle.mvo_script.specs.line.Readable.{BeginNoLine, BeginNoRow, IsOfTransaction, IsNoLine}
use Rattle.mvo_script.specs.line.Split.{split_words}
use Rattle.mvo_script.specs.line.Written.{line_words, text_of}
use Rattle.mvo_script.specs.declared.line.line.Line.{Line}
use Rattle.mvo_script.specs.declared.line.line.Line.TheVariants as line
use Rattle.mvo_script.proofs.line.Parts.{some_words, text_ascii, text_splits}
use Rattle.mvo_script.proofs.line.Telling.{ends_there, kind, kind_by, kind_told}

-- ---- a word that is no number

zero_text : (n : ℕ) → n ≡ 0 → length (decimal n) ≡ 1
zero_text n is = ap (λ m. length (decimal m)) is ∙ ap length (decimal_digit 0 (lit< tt))

is_number : (k n : ℕ) → 2 ^ k ≤ 2 ^ 64 → n < 2 ^ k → IsNumber k (decimal n)
is_number k n most small =
    let fits : n < 2 ^ 64 = omega arith in
    let numeral = decimal_is_IsNumeral n fits in
    let value : digits_value 10 (decimal n) < 2 ^ k = omega (arith, numeral.1) in (
      numeral.0,
      (λ zero_first. elim (cases_lt 0 n) [
        | inl some ↦ absurd (omega (arith, first_decimal n some fits, zero_first))
        | inr none ↦ zero_text n (omega arith)
      ]),
      value,
    )

pub no_number : (k : ℕ) (w : List ℕ) → 2 ^ k ≤ 2 ^ 64 → (IsNumber k w → ⊥) → (n : ℕ) → n < 2 ^ k → decimal n ≡ w → ⊥
no_number k w most fails n small e = fails (subst (IsNumber k) e (is_number k n most small))

-- ---- the words of what is read

pub first_word : (a b : List ℕ) (more next : List (List ℕ)) → a ∷ more ≡ b ∷ next → a ≡ b
first_word a b more next e = cc

pub second_word : (a b c d : List ℕ) (more ws next : List (List ℕ)) → a ∷ b ∷ more ≡ c ∷ ws → ws ≡ d ∷ next → b ≡ d
second_word a b c d more ws next e split = cc

pub third_word : (a b c d f g : List ℕ) (more ws vs next : List (List ℕ)) → a ∷ b ∷ c ∷ more ≡ d ∷ ws → ws ≡ f ∷ vs → vs ≡ g ∷ next → c ≡ g
third_word a b c d f g more ws vs next e split parted = cc

pub word_behind_two : (a b c d f g : List ℕ) (more ws next : List (List ℕ)) → a ∷ b ∷ c ∷ more ≡ d ∷ f ∷ ws → ws ≡ g ∷ next → c ≡ g
word_behind_two a b c d f g more ws next e split = cc

joined : (a b : List ℕ) (more next : List (List ℕ)) → a ≡ b → more ≡ next → a ∷ more ≡ b ∷ next
joined a b more next e same = cc

pub if_none : {T : Type 0} (r : Option T) (P : Type 0) → r ≡ None → P → IfNone r P
if_none None P is p = p
if_none (Some x) P is p = absurd (cc)

insert_only : (a : Line) (left : List (List ℕ)) (word : List ℕ) (words : List (List ℕ)) → kind a ≡ 3 → HasForm a → IsInRange a → line_words a ++ left ≡ codes "insert" ∷ word ∷ words → BeginNoRow words → ⊥
insert_only (line.Insert name row) left word words is form range e fails = fails row left range form.1 (cc)
insert_only _ left word words is form range e fails = absurd (omega arith)

pub no_insert : (first word : List ℕ) (rest words : List (List ℕ)) → first ≡ codes "insert" → rest ≡ word ∷ words → BeginNoRow words → BeginNoLine IsOfTransaction (first ∷ rest)
no_insert first word rest words is split fails a left named form range e =
    let whole = e ∙ joined first (codes "insert") rest (word ∷ words) is split in
    insert_only a left word words (sym (kind_told a left) ∙ ap kind_by whole) form range whole fails

update_only : (a : Line) (left : List (List ℕ)) (word : List ℕ) (words : List (List ℕ)) → kind a ≡ 4 → HasForm a → IsInRange a → line_words a ++ left ≡ codes "update" ∷ word ∷ words → BeginNoRow words → ⊥
update_only (line.Update name row) left word words is form range e fails = fails row left range form.1 (cc)
update_only _ left word words is form range e fails = absurd (omega arith)

pub no_update : (first word : List ℕ) (rest words : List (List ℕ)) → first ≡ codes "update" → rest ≡ word ∷ words → BeginNoRow words → BeginNoLine IsOfTransaction (first ∷ rest)
no_update first word rest words is split fails a left named form range e =
    let whole = e ∙ joined first (codes "update") rest (word ∷ words) is split in
    update_only a left word words (sym (kind_told a left) ∙ ap kind_by whole) form range whole fails

trim_only : (a : Line) (left : List (List ℕ)) (word : List ℕ) (words : List (List ℕ)) → kind a ≡ 14 → IsInRange a → line_words a ++ left ≡ codes "trim" ∷ word ∷ words → (n : ℕ) × (n < 2 ^ 64) × (decimal n ≡ word)
trim_only (line.Trim stamp) left word words is range e = (stamp.0, range, cc)
trim_only _ left word words is range e = absurd (omega arith)

pub no_trim : (P : Line → Type 0) (first word : List ℕ) (rest words : List (List ℕ)) → first ≡ codes "trim" → rest ≡ word ∷ words → (IsNumber 64 word → ⊥) → BeginNoLine P (first ∷ rest)
no_trim P first word rest words is split fails a left kept form range e =
    let whole = e ∙ joined first (codes "trim") rest (word ∷ words) is split in
    let found = trim_only a left word words (sym (kind_told a left) ∙ ap kind_by whole) range whole in
    no_number 64 word (lit≤ tt) fails found.0 found.1 found.2

merge_read_only : (a : Line) (left : List (List ℕ)) (word : List ℕ) (words : List (List ℕ)) → kind a ≡ 26 → IsInRange a → line_words a ++ left ≡ codes "merge-read" ∷ word ∷ words → (n : ℕ) × (n < 2 ^ 64) × (decimal n ≡ word)
merge_read_only (line.Store (MergeRead place)) left word words is range e = (place, range, cc)
merge_read_only _ left word words is range e = absurd (omega arith)

pub no_merge_read : (P : Line → Type 0) (first word : List ℕ) (rest words : List (List ℕ)) → first ≡ codes "merge-read" → rest ≡ word ∷ words → (IsNumber 64 word → ⊥) → BeginNoLine P (first ∷ rest)
no_merge_read P first word rest words is split fails a left kept form range e =
    let whole = e ∙ joined first (codes "merge-read") rest (word ∷ words) is split in
    let found = merge_read_only a left word words (sym (kind_told a left) ∙ ap kind_by whole) range whole in
    no_number 64 word (lit≤ tt) fails found.0 found.1 found.2

merge_only : (a : Line) (left : List (List ℕ)) (word : List ℕ) (words : List (List ℕ)) → kind a ≡ 20 → IsInRange a → line_words a ++ left ≡ codes "merge" ∷ word ∷ words → (n : ℕ) × (n < 2 ^ 64) × (decimal n ≡ word)
merge_only (line.Merge place) left word words is range e = (place, range, cc)
merge_only _ left word words is range e = absurd (omega arith)

pub no_merge : (P : Line → Type 0) (first word : List ℕ) (rest words : List (List ℕ)) → first ≡ codes "merge" → rest ≡ word ∷ words → (IsNumber 64 word → ⊥) → BeginNoLine P (first ∷ rest)
no_merge P first word rest words is split fails a left kept form range e =
    let whole = e ∙ joined first (codes "merge") rest (word ∷ words) is split in
    let found = merge_only a left word words (sym (kind_told a left) ∙ ap kind_by whole) range whole in
    no_number 64 word (lit≤ tt) fails found.0 found.1 found.2

-- ---- a text

-- the words of a line with this text are those that were split off
words_of : (a : Line) (text : List ℕ) (words : List (List ℕ)) → HasForm a → IsInRange a → text_of a ≡ text → split_words text ≡ words → line_words a ≡ words
words_of a text words form range same split =
    sym (text_splits a form range) ∙ ap split_words same ∙ split

pub not_text : (text : List ℕ) → (IsUtf8 text → ⊥) → IsNoLine text
not_text text fails a form range same =
    absurd (fails (subst IsUtf8 same (IsUtf8-from_ascii (text_of a) (text_ascii a form range))))

pub no_words : (text : List ℕ) → split_words text ≡ [] → IsNoLine text
no_words text none a form range same =
    absurd (some_words a (words_of a text [] form range same none))

pub no_line : (text : List ℕ) (words : List (List ℕ)) → split_words text ≡ words → BeginNoLine (λ _. Unit {0}) words → IsNoLine text
no_line text words split fails a form range same =
    absurd (fails a [] tt form range (append-nil (line_words a) ∙ words_of a text words form range same split))

pub too_many_words : (text w : List ℕ) (words : List (List ℕ)) (read : Line) → line_words read ++ (w ∷ words) ≡ split_words text → IsNoLine text
too_many_words text w words read all a form range same =
    let both = all ∙ sym (words_of a text (split_words text) form range same refl) in
    let none : w ∷ words ≡ [] = ends_there read a (w ∷ words) both in absurd (cc)
