-- The version that a transaction is shown.
use Rattle.std.specs.Prelude.{◌≡◌, ℕ, ◌≤◌, ◌<◌, Bool, false, cond, List, [], ◌∷◌, Option, None, Some, ⊤}
use Rattle.std.specs.List.{AllByRecursion, list_any}
use Rattle.std.specs.Option.{option_map}
use Rattle.mvo_types.specs.declared.row.RowKey.{RowKey}
use Rattle.mvo_chain.specs.declared.version.VersionNo.{VersionNo}
use Rattle.mvo_chain.specs.Slots.{Slots, version_at}
use Rattle.mvo_hash.specs.Lists.{Lists}
use Rattle.mvo_visible.specs.declared.seen.Seen.TheVariants.{Settled}
use Rattle.mvo_types.specs.declared.ids.Stamp.{Stamp}
use Rattle.mvo_visible.specs.declared.change.Change.{Change}
use Rattle.mvo_visible.specs.declared.outcome.Shown.{Shown}
use Rattle.mvo_visible.specs.Words.{States, seen_of}
use Rattle.mvo_visible.specs.Versions.{NumberedVersion, versions_at, versions_by, is_own, own_newest}
use Rattle.mvo_visible.specs.Changes.{changes_of, owner_with, deciding}
use Rattle.mvo_visible.specs.Walked.{settled_put_of}

abbrev pub shown_by : Option Change → Shown
shown_by None = record { version = None; depends_on = None }
shown_by (Some c) = record { version = c.version; depends_on = c.owner }

abbrev pub own_or : Bool → Option VersionNo → Option Change → Shown
own_or own version change =
    cond own (record { version = version; depends_on = None }) (shown_by change)

-- its own newest, or none, where it wrote the key itself; else what the deciding change of the
-- others below b shows
abbrev pub shown_to : States → ℕ → ℕ → List NumberedVersion → Shown
shown_to states b reader vs =
    own_or (list_any (is_own reader) vs) (own_newest reader vs) (deciding b (changes_of states vs))

-- what the words of the first version alone tell below b, if they do, and that nothing is shown
-- where there is none
abbrev pub first_shown : ℕ → Slots → List VersionNo → Option Shown
first_shown b slots [] = Some (record { version = None; depends_on = None })
first_shown b slots (n ∷ ns) =
    option_map (λ s. record { version = Some n; depends_on = None })
    (settled_put_of b (version_at slots n))

-- behind a put that is settled with the stamp s nothing has a greater one, and nobody who is
-- Preparing has that
pub record IsSettledBehind (states : States) (s : ℕ) (vs : List NumberedVersion) : Type 0 where
  pub below : AllByRecursion (λ c. c.stamp.0 ≤ s) (changes_of states vs)
  pub settled : owner_with s (changes_of states vs) ≡ None

-- so it is behind each put that is settled
abbrev pub HasFallingStamps : States → List NumberedVersion → Type 0
HasFallingStamps states [] = ⊤
HasFallingStamps states (e ∷ es) =
    ((s : Stamp) → seen_of states e.1.begin ≡ Settled s → IsSettledBehind states s.0 es)
    × HasFallingStamps states es

-- behind a put that is settled below b the reader wrote nothing
abbrev pub HasOwnInFront : States → ℕ → ℕ → List NumberedVersion → Type 0
HasOwnInFront states b reader [] = ⊤
HasOwnInFront states b reader (e ∷ es) =
    ((s : Stamp) → seen_of states e.1.begin ≡ Settled s → s.0 < b →
    list_any (is_own reader) es ≡ false)
    × HasOwnInFront states b reader es

-- the versions of a key stand so that a walk for the reader may stop at a put that is settled
pub record AreVersionsInOrder (states : States) (b reader : ℕ)
    (vs : List NumberedVersion) : Type 0 where
  pub falling : HasFallingStamps states vs
  pub own : HasOwnInFront states b reader vs

-- at each key
abbrev pub AllHaveFallingStamps : States → Slots → Lists → Type 0
AllHaveFallingStamps states slots lists =
    (key : RowKey) → HasFallingStamps states (versions_at slots lists key)

-- everyone is shown this of the versions with these numbers, where they stand in order
abbrev pub IsShownToAll : ℕ → Slots → List VersionNo → Shown → Type 0
IsShownToAll b slots ns shown =
    (states : States) → (reader : ℕ) → AreVersionsInOrder states b reader (versions_by slots ns)
    → shown ≡ shown_to states b reader (versions_by slots ns)
