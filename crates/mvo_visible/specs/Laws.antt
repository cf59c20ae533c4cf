-- What keeps the versions of each key in order.
use Rattle.std.specs.Prelude.{◌≡◌, ◌≢◌, ◌↔◌, ℕ, ◌<◌, List, Some}
use Rattle.std.specs.Option.{option_map}
use Rattle.mvo_types.specs.declared.row.RowKey.{RowKey}
use Rattle.mvo_types.specs.declared.ids.Stamp.{Stamp}
use Rattle.mvo_word.specs.declared.held.Held.{Held}
use Rattle.mvo_chain.specs.declared.version.Version.{Version}
use Rattle.mvo_chain.specs.declared.version.VersionNo.{VersionNo}
use Rattle.mvo_chain.specs.Slots.{Slots, version_at}
use Rattle.mvo_hash.specs.Lists.{Lists, IsNewNumber}
use Rattle.mvo_txn.specs.declared.state.TxState.TheVariants.{Active, Preparing, Committed, Aborted}
use Rattle.mvo_visible.specs.declared.seen.Seen.{Seen}
use Rattle.mvo_visible.specs.declared.seen.Seen.TheVariants.{Settled}
use Rattle.mvo_visible.specs.Words.{States, seen_of}
use Rattle.mvo_visible.specs.Versions.{NumberedVersion}
use Rattle.mvo_visible.specs.Shown.{AllHaveFallingStamps, HasFallingStamps, HasOwnInFront}
use Rattle.mvo_visible.specs.Fronts.{AllOwnInFront, DifferAt, IsUnsettledAt, with_new, with_front, with_less}
use Rattle.mvo_visible.specs.Fronts.{StandsInFront, IsLatestBehind, WroteNothingBehind}

-- What `shown` and `check_entry` ask of the versions is kept.
pub record KeepsShownOrder
    (states states' : States) (slots slots' : Slots) (lists lists' : Lists) : Type 0 where
  pub falling : AllHaveFallingStamps states slots lists → AllHaveFallingStamps states' slots' lists'
  pub own : (b reader : ℕ) → AllOwnInFront states b reader slots lists
      → AllOwnInFront states' b reader slots' lists'

-- the slots differ at this number alone
abbrev pub SlotsDifferAt : ℕ → Slots → Slots → Type 0
SlotsDifferAt n slots slots' = (m : VersionNo) → m.0 ≢ n → version_at slots' m ≡ version_at slots m

-- A new version whose put isn't settled goes in front of those of its key.
abbrev pub NewKeepsOrder : Type 0
NewKeepsOrder = (states : States) (slots slots' : Slots) (lists : Lists) (key : RowKey) (n : ℕ) →
    SlotsDifferAt n slots slots' → IsNewNumber lists n → IsUnsettledAt states slots' n →
    KeepsShownOrder states states slots slots' lists (with_new lists key n)

-- A version whose put isn't settled is brought to the front of its key.
abbrev pub FrontKeepsOrder : Type 0
FrontKeepsOrder = (states : States) (slots : Slots) (lists : Lists) (key : RowKey) (n : ℕ) →
    IsUnsettledAt states slots n
    → KeepsShownOrder states states slots slots lists (with_front lists key n)

-- A version of a key is removed.
abbrev pub LessKeepsOrder : Type 0
LessKeepsOrder = (states : States) (slots : Slots) (lists : Lists) (key : RowKey) (n : ℕ) →
    KeepsShownOrder states states slots slots lists (with_less lists key n)

-- The slot of a number that no key has changes.
abbrev pub UnheldKeepsOrder : Type 0
UnheldKeepsOrder = (states : States) (slots slots' : Slots) (lists : Lists) (n : ℕ) →
    SlotsDifferAt n slots slots' → IsNewNumber lists n
    → KeepsShownOrder states states slots slots' lists lists

-- A transaction is aborted.
abbrev pub AbortKeepsOrder : Type 0
AbortKeepsOrder = (states states' : States) (t : ℕ) (slots : Slots) (lists : Lists) →
    DifferAt t states states' → states' t ≡ Some Aborted →
    KeepsShownOrder states states' slots slots lists lists

-- An Active transaction draws its end. The versions of a key stay in order exactly where all that
-- it put or ended stands in front of each put that is settled up to that end.
abbrev pub PrepareKeepsOrder : Type 0
PrepareKeepsOrder = (states states' : States) (t : ℕ) (end' : Stamp) (vs : List NumberedVersion) →
    DifferAt t states states' → states t ≡ Some Active → states' t ≡ Some (Preparing end') →
    HasFallingStamps states' vs ↔
    (HasFallingStamps states vs × StandsInFront states end'.0 t vs)

-- A Preparing transaction commits. They stay in order exactly where nothing behind what it put has
-- a stamp above its end.
abbrev pub CommitKeepsOrder : Type 0
CommitKeepsOrder = (states states' : States) (t : ℕ) (end' : Stamp) (vs : List NumberedVersion) →
    DifferAt t states states' → states t ≡ Some (Preparing end') →
    states' t ≡ Some (Committed end') → HasFallingStamps states vs →
    HasFallingStamps states' vs ↔ IsLatestBehind states' end'.0 t vs

-- what others see in both words of a version
abbrev pub seen_both : States → Version → Seen × Seen
seen_both states v = (seen_of states v.begin, seen_of states v.end)

-- Words and transactions change so that others see the same in each version.
abbrev pub AlikeKeepsOrder : Type 0
AlikeKeepsOrder = (states states' : States) (slots slots' : Slots) (lists : Lists) →
    ((m : VersionNo) → option_map (seen_both states') (version_at slots' m)
    ≡ option_map (seen_both states) (version_at slots m)) →
    AllHaveFallingStamps states slots lists → AllHaveFallingStamps states' slots' lists

-- No more puts are settled below b.
abbrev pub FewerKeepFront : Type 0
FewerKeepFront = (states states' : States) (b reader : ℕ) (vs : List NumberedVersion) →
    ((w : Held) (s : Stamp) → s.0 < b → seen_of states' w ≡ Settled s →
    seen_of states w ≡ Settled s) →
    HasOwnInFront states b reader vs → HasOwnInFront states' b reader vs

-- A Preparing transaction commits with an end below b. What a reader wrote stays in front exactly
-- where it wrote nothing behind what that one put.
abbrev pub CommitKeepsFront : Type 0
CommitKeepsFront = (states states' : States) (t : ℕ) (end' : Stamp) (b reader : ℕ)
    (vs : List NumberedVersion) → DifferAt t states states' → states t ≡ Some (Preparing end') →
    states' t ≡ Some (Committed end') → end'.0 < b → HasOwnInFront states b reader vs →
    HasOwnInFront states' b reader vs ↔ WroteNothingBehind t reader vs
