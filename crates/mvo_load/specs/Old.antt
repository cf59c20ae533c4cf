-- Which files are of an older version than the one that is written.
use Rattle.std.specs.Prelude.{ℕ, ◌==◌, Bool, false, List, Option, Some, None, take}
use Rattle.mvo_format.specs.declared.format.TheConstants.{FIRST_FORMAT}
use Rattle.mvo_format.specs.declared.header.TheConstants.{HEADER_LEN}
use Rattle.mvo_format.specs.Found.{header_at}

-- the number of the version, which stands behind the magic, is the first
abbrev pub is_of_first : Option ((ℕ × ℕ) × List ℕ) → Bool
is_of_first None = false
is_of_first (Some x) = x.0.1 == FIRST_FORMAT.version

-- by the header alone
unfoldable pub is_old : List ℕ → Bool
is_old bytes = is_of_first (header_at (take HEADER_LEN bytes))
