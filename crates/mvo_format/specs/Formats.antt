-- The versions that files may have.
use Rattle.std.specs.Prelude.{◌≡◌, ◌⊎◌, ℕ, ◌<◌, ◌≤◌, ◌^◌, ◌==◌, ◌||◌, nat_le, Bool}
use Rattle.std.specs.Prelude.{Option, Some, None, if◌then◌else◌}
use Rattle.mvo_format.specs.declared.format.Format.{Format}
use Rattle.mvo_format.specs.declared.format.TheConstants.{FIRST_FORMAT, LAST_FORMAT}

-- the format of a version, if there is one
unfoldable pub format_of : ℕ → Option Format
format_of version =
    if version == FIRST_FORMAT.version then Some FIRST_FORMAT
    else (if version == LAST_FORMAT.version then Some LAST_FORMAT else None)

-- the same, where it is at most another version
unfoldable pub format_up_to : ℕ → ℕ → Option Format
format_up_to upto version = if nat_le version upto then format_of version else None

-- This is the format of a version up to the other.
pub record IsFormatUpTo (upto : ℕ) (f : Format) : Type 0 where
  pub is : format_of f.version ≡ Some f
  pub within : f.version ≤ upto

-- files may have this version
abbrev pub IsVersion : ℕ → Type 0
IsVersion version = (version ≡ FIRST_FORMAT.version) ⊎ (version ≡ LAST_FORMAT.version)

-- the same, as a test
unfoldable pub is_version : ℕ → Bool
is_version version = version == FIRST_FORMAT.version || version == LAST_FORMAT.version

-- ---- the laws

-- Version 1 has tables up to 15 and rows of up to 1,024 bytes.
pub record IsFirstFormat (f : Format) : Type 0 where
  pub version : f.version ≡ 1
  pub table : f.max_table ≡ 15
  pub size : f.max_data_len ≡ 1024

-- Version 2 has tables up to 63 and rows of up to 4,096 bytes.
pub record IsLastFormat (f : Format) : Type 0 where
  pub version : f.version ≡ 2
  pub table : f.max_table ≡ 63
  pub size : f.max_data_len ≡ 4096

-- What the one allows, the other does.
pub record AllowsNoMore (f g : Format) : Type 0 where
  pub table : f.max_table ≤ g.max_table
  pub size : f.max_data_len ≤ g.max_data_len

-- Of two known versions the later allows what the earlier does.
abbrev pub LaterAllows : Type 0
LaterAllows = (v w : ℕ) (f g : Format) → IsFormatUpTo v f → IsFormatUpTo w g →
    f.version ≤ g.version → AllowsNoMore f g

-- A version that is known up to one is known up to a later one.
abbrev pub KnownLater : Type 0
KnownLater = (v w : ℕ) (f : Format) → v ≤ w → IsFormatUpTo v f → IsFormatUpTo w f
