-- The words of a text.
use Rattle.std.specs.Prelude.{ℕ, ◌==◌, List, [], Option, None, Some}
use Rattle.std.specs.List.{slice_split}
use Rattle.std.specs.Borrow.{Bor}

-- what stands between its spaces
abbrev pub split_words : List ℕ → List (List ℕ)
split_words text = slice_split (λ b. b == 32) text

-- those of a text that is left to read, if one is
abbrev pub unread_words : Option (Bor (List ℕ)) → List (List ℕ)
unread_words None = []
unread_words (Some text) = split_words text.now
