-- Which versions stand in front of the others of their key.
use Rattle.std.specs.Prelude.{◌≡◌, ◌≢◌, ℕ, ◌+◌, true, false, List, [], ◌∷◌, Some, ⊤}
use Rattle.std.specs.List.{list_any}
use Rattle.mvo_types.specs.declared.row.RowKey.{RowKey}
use Rattle.mvo_types.specs.declared.ids.Stamp.{Stamp}
use Rattle.mvo_chain.specs.declared.version.Version.{Version}
use Rattle.mvo_chain.specs.Slots.{Slots, version_at}
use Rattle.mvo_hash.specs.Lists.{Lists, number, numbers_of, with_numbers, without_number}
use Rattle.mvo_visible.specs.declared.seen.Seen.TheVariants.{Settled}
use Rattle.mvo_visible.specs.Words.{States, seen_of, names}
use Rattle.mvo_visible.specs.Versions.{NumberedVersion, versions_at, is_own}
use Rattle.mvo_visible.specs.Shown.{IsSettledBehind, HasOwnInFront}

-- only this transaction may stand otherwise
abbrev pub DifferAt : ℕ → States → States → Type 0
DifferAt t states states' = (u : ℕ) → u ≢ t → states' u ≡ states u

-- the put of the version isn't settled, so no walk ends at it
abbrev pub IsUnsettled : States → Version → Type 0
IsUnsettled states v = (s : Stamp) → seen_of states v.begin ≢ Settled s

-- the number is empty, or that of such a version
abbrev pub IsUnsettledAt : States → Slots → ℕ → Type 0
IsUnsettledAt states slots n =
    (v : Version) → version_at slots (number n) ≡ Some v → IsUnsettled states v

-- the lists with a new number in front
abbrev pub with_new : Lists → RowKey → ℕ → Lists
with_new lists key n = with_numbers lists key (n ∷ numbers_of lists key)

-- the lists with a number of the key brought to the front
abbrev pub with_front : Lists → RowKey → ℕ → Lists
with_front lists key n = with_numbers lists key (n ∷ without_number n (numbers_of lists key))

-- the lists without a number of the key
abbrev pub with_less : Lists → RowKey → ℕ → Lists
with_less lists key n = with_numbers lists key (without_number n (numbers_of lists key))

-- at each key, what the reader put or ended stands in front of each put that is settled below b
abbrev pub AllOwnInFront : States → ℕ → ℕ → Slots → Lists → Type 0
AllOwnInFront states b reader slots lists =
    (key : RowKey) → HasOwnInFront states b reader (versions_at slots lists key)

-- what the transaction put or ended stands in front of each put that is settled with at most s
abbrev pub StandsInFront : States → ℕ → ℕ → List NumberedVersion → Type 0
StandsInFront states s t vs = HasOwnInFront states (s + 1) t vs

-- behind what the transaction put nothing has a stamp above s, and nobody who is Preparing has s
abbrev pub IsLatestBehind : States → ℕ → ℕ → List NumberedVersion → Type 0
IsLatestBehind states s t [] = ⊤
IsLatestBehind states s t (e ∷ es) =
    (names t e.1.begin ≡ true → IsSettledBehind states s es) × IsLatestBehind states s t es

-- behind what the transaction put the reader wrote nothing
abbrev pub WroteNothingBehind : ℕ → ℕ → List NumberedVersion → Type 0
WroteNothingBehind t reader [] = ⊤
WroteNothingBehind t reader (e ∷ es) =
    (names t e.1.begin ≡ true → list_any (is_own reader) es ≡ false)
    × WroteNothingBehind t reader es
