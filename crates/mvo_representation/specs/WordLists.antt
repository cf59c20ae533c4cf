-- The words that each unfinished transaction still has to replace.
use Rattle.std.specs.Prelude.{ℕ, ◌≡◌, ◌≢◌, ◌≤◌, ◌⊎◌, ◌==◌, Bool, true, false, List, [], ◌∷◌, map, filter, Option, None, Some, ⊤}
use Rattle.std.specs.List.{AllByRecursion}
use Rattle.mvo_theory.specs.State.{State, Claim, Word}
use Rattle.mvo_theory.specs.State.Word.{Own, Ended}
use Rattle.mvo_theory.specs.Phases.{phase_in}
use Rattle.mvo_theory.specs.Words.{words_of}
use Rattle.mvo_theory.specs.Sound.{how_many}
use Rattle.mvo_model.specs.Trace.Phase.{Absent}
use Rattle.mvo_word.specs.declared.held.Held.{Held}
use Rattle.mvo_chain.specs.declared.version.Version.{Version}
use Rattle.mvo_chain.specs.declared.version.VersionNo.{VersionNo}
use Rattle.mvo_chain.specs.Slots.{Slots, version_at}
use Rattle.mvo_visible.specs.Words.{names}
use Rattle.mvo_work.specs.declared.word_place.WordPlace.{WordPlace}
use Rattle.mvo_work.specs.declared.word_place.WordPlace.TheVariants.{Begin, End}
use Rattle.mvo_representation.specs.Words.{Ends, ends_of, stamp_in}
use Rattle.mvo_representation.specs.Order.{AreWrittenBy, word_of_stamp}

-- ---- places
-- the places that each transaction has on its list, by its id: none where it isn't in the table
abbrev pub WordLists : Type 0
WordLists = ℕ → List WordPlace

abbrev pub number_at_word : WordPlace → VersionNo
number_at_word (Begin n) = n
number_at_word (End n) = n

abbrev pub is_place : WordPlace → WordPlace → Bool
is_place (Begin n) (Begin m) = m.0 == n.0
is_place (Begin n) (End m) = false
is_place (End n) (Begin m) = false
is_place (End n) (End m) = m.0 == n.0

abbrev pub word_at : WordPlace → Version → Held
word_at (Begin n) v = v.begin
word_at (End n) v = v.end

abbrev pub is_named_at : ℕ → WordPlace → Option Version → Bool
is_named_at t p None = false
is_named_at t p (Some v) = names t (word_at p v)

-- whether the word at the place names t
abbrev pub names_at : Slots → ℕ → WordPlace → Bool
names_at slots t p = is_named_at t p (version_at slots (number_at_word p))

-- the places whose words name t
abbrev pub places_naming : Slots → ℕ → List WordPlace → List WordPlace
places_naming slots t ps = filter (names_at slots t) ps

-- ---- a word of the state, and where it stands
-- no put of the key has the claim's origin as its stamp: who put it was aborted
abbrev pub IsGone : Ends → Slots → Claim → Type 0
IsGone ends slots c = (number : VersionNo) (v : Version)
    → version_at slots number ≡ Some v → v.row.key ≡ c.key
    → stamp_in ends v.begin ≢ Some c.origin

-- the version that t ended is that of the claim
pub record IsOfClaim (s : State) (slots : Slots) (t : ℕ) (c : Claim) (v : Version) : Type 0 where
  pub key : v.row.key ≡ c.key
  pub others : names t v.begin ≡ false
  pub put : (stamp_in (ends_of (phase_in s)) v.begin ≡ Some c.origin)
      ⊎ ((stamp_in (ends_of (phase_in s)) v.begin ≡ None)
      × IsGone (ends_of (phase_in s)) slots c)
  pub drawn : c.origin ≤ s.clock

-- a put with a stamp is that of t itself
abbrev pub IsOwnPut : State → ℕ → Version → Type 0
IsOwnPut s t v = (a : ℕ) → stamp_in (ends_of (phase_in s)) v.begin ≡ Some a
    → ends_of (phase_in s) t ≡ Some a

-- an own word is a Begin, or the End of an own version; another one is the End of the version that
-- was claimed
abbrev pub IsWordOf : State → Slots → ℕ → Word → WordPlace → Version → Type 0
IsWordOf s slots t Own (Begin n) v = ⊤
IsWordOf s slots t Own (End n) v = IsOwnPut s t v
IsWordOf s slots t (Ended c) (Begin n) v = ⊥
IsWordOf s slots t (Ended c) (End n) v = IsOfClaim s slots t c v

-- the place has a version, whose word there names t and is this one
pub record IsWordAt (s : State) (slots : Slots) (t : ℕ) (w : Word) (p : WordPlace) : Type 0 where
  pub version : Version
  pub at : version_at slots (number_at_word p) ≡ Some version
  pub named : names t (word_at p version) ≡ true
  pub is : IsWordOf s slots t w p version

-- the words of t stand at these places, one at each, in this order
abbrev pub StandAt : State → Slots → ℕ → List Word → List WordPlace → Type 0
StandAt s slots t [] [] = ⊤
StandAt s slots t (w ∷ ws) (p ∷ ps) = IsWordAt s slots t w p × StandAt s slots t ws ps
StandAt s slots t ws ps = ⊥

-- ---- the lists
-- an Active or Preparing one has its words on its list, and its versions are written in this order
pub record HasOwnWords (s : State) (slots : Slots) (t : ℕ) (ws : List Word)
    (ps : List WordPlace) : Type 0 where
  pub stand : StandAt s slots t ws ps
  pub written : AreWrittenBy t slots (map (λ p. (number_at_word p).0) ps)

-- each word that names a transaction is on its list once. Of an ended one the places that name it
-- have the words that are left
pub record HasWordLists (s : State) (slots : Slots) (lists : WordLists) : Type 0 where
  pub once : (t : ℕ) (p : WordPlace) → names_at slots t p ≡ true
      → how_many (is_place p) (lists t) ≡ 1
  pub active :
      AllByRecursion
      (λ r. HasOwnWords s slots r.id (words_of r.history r.claims) (lists r.id)) s.active
  pub preparing :
      AllByRecursion
      (λ x. x.settled ≡ false
      → HasOwnWords s slots x.id (words_of x.history x.claims) (lists x.id)) s.stamped
  pub ended :
      AllByRecursion
      (λ u. StandAt s slots u.id u.words (places_naming slots u.id (lists u.id))) s.ended
  pub absent : (t : ℕ) → phase_in s t ≡ Absent → lists t ≡ []

-- ---- changes
-- the lists have this one at t, and the others are as they were
pub record HaveListNow (lists lists' : WordLists) (t : ℕ) (ps : List WordPlace) : Type 0 where
  pub others : (u : ℕ) → u ≢ t → lists' u ≡ lists u
  pub here : lists' t ≡ ps

-- the version with another word at the place
abbrev pub with_word : WordPlace → Held → Version → Version
with_word (Begin n) w v = record { row = v.row; begin = w; end = v.end }
with_word (End n) w v = record { row = v.row; begin = v.begin; end = w }

-- the version after the word at the place is finished: t's end, or infinity
abbrev pub finished : Ends → ℕ → WordPlace → Version → Version
finished ends t p v = with_word p (word_of_stamp (ends t)) v
