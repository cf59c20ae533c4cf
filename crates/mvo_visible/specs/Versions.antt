-- The versions of a key, newest first, with their numbers.
use Rattle.std.specs.Prelude.{ℕ, ◌||◌, ◌&&◌, Bool, not, cond, List, [], ◌∷◌, map, Option, None, Some}
use Rattle.std.specs.Option.{option_or}
use Rattle.mvo_types.specs.declared.row.RowKey.{RowKey}
use Rattle.mvo_chain.specs.declared.version.Version.{Version}
use Rattle.mvo_chain.specs.declared.version.VersionNo.{VersionNo}
use Rattle.mvo_chain.specs.Slots.{Slots, version_at}
use Rattle.mvo_hash.specs.Lists.{Lists, number, numbers_of}
use Rattle.mvo_visible.specs.Words.{names}

-- a version with its number
abbrev pub NumberedVersion : Type 0
NumberedVersion = VersionNo × Version

abbrev pub and_version : VersionNo → Option Version → List NumberedVersion → List NumberedVersion
and_version n None vs = vs
and_version n (Some v) vs = (n, v) ∷ vs

-- the versions with these numbers
abbrev pub versions_by : Slots → List VersionNo → List NumberedVersion
versions_by slots [] = []
versions_by slots (n ∷ ns) = and_version n (version_at slots n) (versions_by slots ns)

-- the versions of a key, newest first
abbrev pub versions_at : Slots → Lists → RowKey → List NumberedVersion
versions_at slots lists key = versions_by slots (map number (numbers_of lists key))

-- ---- what a transaction did itself
-- whether it put the version or ended it
abbrev pub is_own : ℕ → NumberedVersion → Bool
is_own t e = names t e.1.begin || names t e.1.end

-- whether it put the version and hasn't ended it
abbrev pub is_own_newest : ℕ → NumberedVersion → Bool
is_own_newest t e = names t e.1.begin && not (names t e.1.end)

-- the version that it put and hasn't ended
abbrev pub own_newest : ℕ → List NumberedVersion → Option VersionNo
own_newest t [] = None
own_newest t (e ∷ es) = option_or (cond (is_own_newest t e) (Some e.0) None) (own_newest t es)
