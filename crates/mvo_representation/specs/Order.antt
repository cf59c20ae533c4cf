-- How the versions of a key stand, newest first.
use Rattle.std.specs.Prelude.{ℕ, ◌≡◌, ◌≢◌, ◌<◌, ◌≤◌, ◌⊎◌, ◌||◌, ◌&&◌, Bool, true, false, cond, is_none, List, [], ◌∷◌, Option, None, Some, ⊤}
use Rattle.std.specs.List.{AllByRecursion}
use Rattle.std.specs.Option.{option_or}
use Rattle.mvo_types.specs.declared.row.RowKey.{RowKey}
use Rattle.mvo_word.specs.declared.held.Held.{Held}
use Rattle.mvo_word.specs.declared.held.Held.TheVariants.{At, Infinity}
use Rattle.mvo_chain.specs.declared.version.Version.{Version}
use Rattle.mvo_chain.specs.Slots.{Slots, version_at}
use Rattle.mvo_hash.specs.Lists.{Lists, number, is_among}
use Rattle.mvo_model.specs.Trace.Phase.{Active, Preparing}
use Rattle.mvo_visible.specs.declared.seen.Seen.{Seen}
use Rattle.mvo_visible.specs.declared.seen.Seen.TheVariants.{Nothing, Settled, Speculative}
use Rattle.mvo_visible.specs.Words.{States, names}
use Rattle.mvo_visible.specs.Versions.{NumberedVersion, versions_at}
use Rattle.mvo_visible.specs.Fronts.{with_front}
use Rattle.mvo_representation.specs.Words.{Phases, Ends, ends_of, stamp_in, has_stamp}
use Rattle.mvo_representation.specs.Table.{phases_of}

-- each stands so to each behind it
abbrev pub EachPair : {X : Type 0} → (X → X → Type 0) → List X → Type 0
EachPair R [] = ⊤
EachPair R (w ∷ vs) = AllByRecursion (R w) vs × EachPair R vs

-- ---- two versions of a key, w in front of v
abbrev pub IsUpTo : ℕ → Option ℕ → Type 0
IsUpTo s None = ⊤
IsUpTo s (Some e) = e ≤ s

-- the stamp of the put, or else that of the removal
abbrev pub first_change_stamp : Ends → Version → Option ℕ
first_change_stamp ends v = option_or (stamp_in ends v.begin) (stamp_in ends v.end)

-- behind a put with a stamp no put has a greater one, nor has the removal of a version whose put
-- has none
abbrev pub HasFallingPut : Ends → Version → Version → Type 0
HasFallingPut ends w v =
    (s : ℕ) → stamp_in ends w.begin ≡ Some s → IsUpTo s (first_change_stamp ends v)

-- up to the start, no removal has a greater one either
abbrev pub HasFallingRemoval : Ends → ℕ → Version → Version → Type 0
HasFallingRemoval ends start w v =
    (s e : ℕ) → stamp_in ends w.begin ≡ Some s → stamp_in ends v.end ≡ Some e
    → e ≤ start → e ≤ s

-- where one put both, it has ended the one behind
abbrev pub HasEndedItsOwn : (Held → Bool) → Version → Version → Type 0
HasEndedItsOwn n w v = n w.begin ≡ true → n v.begin ≡ true → n v.end ≡ true

-- whether t put the version or ended it
abbrev pub is_written_by : ℕ → Version → Bool
is_written_by t v = names t v.begin || names t v.end

-- behind a put with a stamp below its begin t wrote nothing
abbrev pub WritesInFront : Ends → ℕ → Version → Version → Type 0
WritesInFront ends t w v =
    (s : ℕ) → stamp_in ends w.begin ≡ Some s → s < t → is_written_by t v ≡ false

-- w may stand in front of v
pub record MayPrecede (start : ℕ) (table : Phases) (w v : Version) : Type 0 where
  pub puts : HasFallingPut (ends_of table) w v
  pub removals : HasFallingRemoval (ends_of table) start w v
  pub stamped : (e : ℕ) → HasEndedItsOwn (has_stamp (ends_of table) e) w v
  pub active : (t : ℕ) → table t ≡ Active → HasEndedItsOwn (names t) w v
  pub writes : (t : ℕ) → table t ≡ Active → WritesInFront (ends_of table) t w v

-- ---- the versions of a key, and of each key
abbrev pub StandInOrder : ℕ → Phases → List NumberedVersion → Type 0
StandInOrder start table vs = EachPair (λ w v. MayPrecede start table w.1 v.1) vs

abbrev pub AllStandInOrder : ℕ → States → Slots → Lists → Type 0
AllStandInOrder start states slots lists =
    (key : RowKey) → StandInOrder start (phases_of states) (versions_at slots lists key)

-- ---- versions that come to the front
-- what t put; and what it ended, where that put has no stamp
abbrev pub comes_forward : Ends → ℕ → Version → Bool
comes_forward ends t v = names t v.begin || (names t v.end && is_none (stamp_in ends v.begin))

-- what t put
abbrev pub is_put_by : ℕ → Version → Bool
is_put_by t v = names t v.begin

-- the lists after the version with this number came to the front of its key, if it passes
abbrev pub with_front_if : (Version → Bool) → Lists → ℕ → Option Version → Lists
with_front_if test lists n None = lists
with_front_if test lists n (Some v) = cond (test v) (with_front lists v.row.key n) lists

-- the lists after those that pass came to the front, one after another
abbrev pub with_fronts : (Version → Bool) → Slots → Lists → List ℕ → Lists
with_fronts test slots lists [] = lists
with_fronts test slots lists (n ∷ ns) =
    with_fronts test slots (with_front_if test lists n (version_at slots (number n))) ns

-- ---- what a transaction has written
-- of two versions that t put of one key, it ended the one that it put first
abbrev pub IsEndedBefore : ℕ → Slots → ℕ → ℕ → Type 0
IsEndedBefore t slots m n =
    (v w : Version) → version_at slots (number m) ≡ Some v → version_at slots (number n) ≡ Some w
    → v.row.key ≡ w.row.key → m ≢ n → HasEndedItsOwn (names t) w v

-- these are the numbers of the versions that t put or ended, in the order of writing as far as it
-- counts
pub record AreWrittenBy (t : ℕ) (slots : Slots) (ns : List ℕ) : Type 0 where
  pub all : (n : ℕ) (v : Version) → version_at slots (number n) ≡ Some v
      → is_written_by t v ≡ true → is_among n ns ≡ true
  pub only :
      AllByRecursion
      (λ n. (v : Version) × (version_at slots (number n) ≡ Some v) × (is_written_by t v ≡ true)) ns
  pub order : EachPair (IsEndedBefore t slots) ns

-- whether t may still be aborted: it is Active or Preparing
abbrev pub MayAbort : Phases → ℕ → Type 0
MayAbort table t = (table t ≡ Active) ⊎ ((e : ℕ) × (table t ≡ Preparing e))

-- ---- words that change so that others see the same
-- an Active transaction has the same words, or none
pub data HasSameWords (states : States) (t : ℕ) (v w : Version) : Type 0 where
  Same : phases_of states t ≡ Active → names t w.begin ≡ names t v.begin
      → names t w.end ≡ names t v.end → HasSameWords states t v w
  Unnamed : names t w.begin ≡ false → names t w.end ≡ false → HasSameWords states t v w

-- the version has become w, and the table the other one
pub record IsSeenAlike (states states' : States) (v w : Version) : Type 0 where
  pub begin : stamp_in (ends_of (phases_of states')) w.begin
      ≡ stamp_in (ends_of (phases_of states)) v.begin
  pub end : stamp_in (ends_of (phases_of states')) w.end
      ≡ stamp_in (ends_of (phases_of states)) v.end
  pub active : (t : ℕ) → phases_of states' t ≡ Active → HasSameWords states t v w

-- ---- words that are finished
-- the timestamp of one that committed, or infinity
abbrev pub word_of_stamp : Option ℕ → Held
word_of_stamp None = Infinity
word_of_stamp (Some e) = At (record { 0 = e })

-- the word is what it was, or it named t and says what is known of t now
abbrev pub IsFinished : Ends → ℕ → Held → Held → Type 0
IsFinished ends t old new = (new ≡ old) ⊎ ((names t old ≡ true) × (new ≡ word_of_stamp (ends t)))

-- ---- the words of one transaction in a version
-- the key, and which of the two words name it, if one does
abbrev pub own_words : ℕ → Option Version → Option (RowKey × Bool × Bool)
own_words t None = None
own_words t (Some v) =
    cond (is_written_by t v) (Some (v.row.key, names t v.begin, names t v.end)) None

-- ---- what others see in a word
abbrev pub is_nothing : Seen → Bool
is_nothing Nothing = true
is_nothing (Settled s) = false
is_nothing (Speculative s t) = false
