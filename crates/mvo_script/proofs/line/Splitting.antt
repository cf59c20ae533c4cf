-- A text up to its next space, and what is left behind it.
use Rattle.std.proofs.Common.{◌≡◌, ℕ, ◌+◌, Bool, true, false, cond, not, List, [], ◌∷◌, ◌++◌, length, Option, None, Some, MatchOption, Bor, refl, ap, sym, ◌∙◌, lit<, append-nil, arith}
use Rattle.std.specs.Prelude.{◌==◌}
use Rattle.std.specs.List.{position_or_len, onto_first, join_with_byte}
use Rattle.std.proofs.lemmas.List.Splits.{slice_split_first, join_with_byte-slice_split}
use Rattle.std.proofs.lemmas.Str.Pattern.{split_once_first, IsSplitOnceResult}
use Rattle.mvo_script.specs.line.Split.{split_words}

abbrev is_space : ℕ → Bool
is_space b = b == 32

whole_step : (b : Bool) (x : ℕ) (xs : List ℕ) → cond (not b) (1 + position_or_len is_space xs) 0 ≡ length (x ∷ xs) → (position_or_len is_space xs ≡ length xs → split_words xs ≡ xs ∷ []) → cond b ([] ∷ split_words xs) (onto_first x (split_words xs)) ≡ (x ∷ xs) ∷ []
whole_step true x xs none rest = grind arith
whole_step false x xs none rest = ap (onto_first x) (rest (grind arith))

-- without a space a text is one word
whole : (s : List ℕ) → position_or_len is_space s ≡ length s → split_words s ≡ s ∷ []
whole [] none = refl
whole (x ∷ xs) none = whole_step (is_space x) x xs none (whole xs)

pub next_word : (text : List ℕ) (r : Option (Bor (List ℕ) × Bor (List ℕ))) → IsSplitOnceResult 32 text r → MatchOption r (split_words text ≡ text ∷ []) (λ x. split_words text ≡ x.0.now ∷ split_words x.1.now)
next_word text None cut = whole text (split_once_first 32 text None cut (lit< tt))
next_word text (Some x) cut =
    let parts = split_once_first 32 text (Some x) cut (lit< tt) in
    rw (parts.1, parts.2) (slice_split_first is_space text 0 parts.0)

-- the words of a text, with single spaces between them, are the text
pub read_back : (read left : List (List ℕ)) (text : List ℕ) → read ++ left ≡ split_words text → left ≡ [] → join_with_byte 32 read ≡ text
read_back read left text all none =
    ap (join_with_byte 32) (sym (append-nil read) ∙ ap (λ ws. read ++ ws) (sym none) ∙ all)
    ∙ join_with_byte-slice_split 32 text
