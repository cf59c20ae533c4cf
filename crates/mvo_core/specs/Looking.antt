-- What is found among versions.
use Rattle.std.specs.Prelude.{ℕ, ◌≡◌, ◌⊎◌, Option, None, Some}
use Rattle.std.specs.Option.{option_map}
use Rattle.mvo_types.specs.declared.cause.Cause.{Cause}
use Rattle.mvo_types.specs.declared.row.RowKey.{RowKey}
use Rattle.mvo_types.specs.RowData.{RowData}
use Rattle.mvo_chain.specs.declared.version.Version.{Version}
use Rattle.mvo_chain.specs.declared.version.VersionNo.{VersionNo}
use Rattle.mvo_chain.specs.Slots.{Slots, version_at, with_room}
use Rattle.mvo_hash.specs.Lists.{numbers_of}
use Rattle.mvo_visible.specs.Words.{States}
use Rattle.mvo_visible.specs.Causes.{cause_of}
use Rattle.mvo_versions.specs.Data.{VersionsData}

-- the row of the version, if there is one
abbrev pub row_shown : Slots → Option VersionNo → Option RowData
row_shown slots None = None
row_shown slots (Some n) = option_map (λ v. v.row) (version_at slots n)

abbrev pub cause_for : States → ℕ → Option Version → Option Cause
cause_for states t None = None
cause_for states t (Some v) = cause_of states t v.end

-- who has ended the version first, for this writer
abbrev pub cause_at : States → Slots → ℕ → Option VersionNo → Option Cause
cause_at states slots t None = None
cause_at states slots t (Some n) = cause_for states t (version_at slots n)

-- the same versions stand under the same keys, in the same order. There may be one more empty slot
pub record HasSameVersions (old new : VersionsData) : Type 0 where
  pub slots : (new.slots ≡ old.slots) ⊎ (new.slots ≡ with_room old.slots)
  pub numbers : (k : RowKey) → numbers_of new.lists k ≡ numbers_of old.lists k
