-- The numbers of a delta file from a place on.
use Rattle.std.specs.Prelude.{◌≡◌, ℕ, zero, suc, ◌*◌, ◌≤◌, ◌^◌, List, [], ◌∷◌, ◌++◌, drop}
use Rattle.mvo_pair.specs.Reading.{number_in}
use Rattle.mvo_pair.specs.Files.{HasDeadNumbers}

-- so many numbers of four bytes, one behind another
abbrev pub numbers_upto : ℕ → List ℕ → List ℕ
numbers_upto zero bytes = []
numbers_upto (suc n) bytes = numbers_upto n bytes ++ number_in 4 (drop (4 * n) bytes) ∷ []

-- Where so many numbers count in the file, these are those from the place on.
abbrev pub AreThoseFrom : ℕ → ℕ → List ℕ → List ℕ → Type 0
AreThoseFrom from count bytes found = (version below : ℕ) (ns : List ℕ) → below ≤ 2 ^ 32 →
    HasDeadNumbers version below count ns bytes → found ≡ drop from ns
