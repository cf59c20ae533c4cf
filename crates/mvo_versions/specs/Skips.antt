-- Skips of versions of a key whose words all are timestamps, from a post to another one behind it.
use Rattle.std.specs.Prelude.{◌≡◌, ◌≢◌, ◌⊎◌, ℕ, ◌*◌, ◌/◌, ◌%◌, nat_le, Bool, true, false, ◌&&◌, ◌||◌, cond, eqb, List, [], ◌∷◌, ◌++◌, slice_get, Option, None, Some}
use Rattle.mvo_types.specs.declared.ids.Stamp.{Stamp}
use Rattle.mvo_types.specs.declared.row.RowKey.{RowKey}
use Rattle.mvo_word.specs.declared.held.Held.{Held}
use Rattle.mvo_word.specs.declared.held.Held.TheVariants.{At, By, Infinity}
use Rattle.mvo_chain.specs.declared.version.Version.{Version}
use Rattle.mvo_chain.specs.declared.version.VersionNo.{VersionNo}
use Rattle.mvo_chain.specs.Slots.{Slots, version_at}
use Rattle.mvo_hash.specs.Lists.{Lists, is_among, number, numbers_of}
use Rattle.mvo_visible.specs.Walked.{AreLater, is_later}
use Rattle.mvo_visible.specs.Versions.{versions_by}
use Rattle.mvo_representation.specs.Indexes.{HasNumbers}
use Rattle.mvo_versions.specs.declared.skips.Post.{Post}
use Rattle.mvo_versions.specs.declared.skip.Skip.{Skip}
use Rattle.mvo_versions.specs.Data.{VersionsData}

-- ---- posts
-- of each 128 numbers one is that of a post
abbrev pub is_post : ℕ → Bool
is_post n = eqb (n % 128) (((n / 128) * 3) % 128)

-- the post with the number, if there is one
abbrev pub post_at : List Post → ℕ → Option Post
post_at ps n = cond (is_post n) (slice_get ps (n / 128)) None

-- where a post says that a skip ends, if the post there says that it began here
abbrev pub skip_up_to : ℕ → Post → Option Post → Option Skip
skip_up_to n p None = None
skip_up_to n p (Some q) =
    cond (eqb q.from.0 n) (Some (record { to = p.to; least = p.least })) None

abbrev pub skip_from : List Post → ℕ → Option Post → Option Skip
skip_from ps n None = None
skip_from ps n (Some p) = skip_up_to n p (post_at ps p.to.0)

-- the skip that begins at the number, if one is known
abbrev pub skip_at : List Post → ℕ → Option Skip
skip_at ps n = skip_from ps n (post_at ps n)

-- ---- what the calls do with the skips
-- a post at which no skip begins, nor ends
pub record IsEmpty (p : Post) : Type 0 where
  pub to : p.to.0 ≡ 0xFFFF_FFFF
  pub from : p.from.0 ≡ 0xFFFF_FFFF

-- no skip comes
pub record HasNoMore (old new : List Post) : Type 0 where
  pub was : (n : ℕ) (r : Skip) → skip_at new n ≡ Some r → skip_at old n ≡ Some r

-- no skip comes, and none begins at the number or ends there
pub record IsForgotten (old new : List Post) (n : ℕ) : Type 0 where
  pub was : (m : ℕ) (r : Skip) → skip_at new m ≡ Some r → skip_at old m ≡ Some r
  pub begins : (r : Skip) → skip_at new n ≢ Some r
  pub ends : (m : ℕ) (r : Skip) → skip_at new m ≡ Some r → r.to.0 ≢ n

-- no skip comes but this one
pub record IsNoted (old new : List Post) (n : ℕ) (skip : Skip) : Type 0 where
  pub was : (m : ℕ) (r : Skip) → skip_at new m ≡ Some r
      → (skip_at old m ≡ Some r) ⊎ ((m ≡ n) × (r ≡ skip))

-- ---- ended versions
abbrev pub begin_of : Held → Held → Option Stamp
begin_of (At b) (At e) = cond (nat_le b.0 e.0) (Some b) None
begin_of (At b) (By t) = None
begin_of (At b) Infinity = None
begin_of (By t) end' = None
begin_of Infinity end' = None

-- the begin of a version, if both its words are timestamps, and the end isn't the lesser
abbrev pub begin_of_ended : Option Version → Option Stamp
begin_of_ended None = None
begin_of_ended (Some v) = begin_of v.begin v.end

abbrev pub is_at_least : ℕ → Option Stamp → Bool
is_at_least b None = false
is_at_least b (Some s) = nat_le b s.0

-- whether the version with the number has ended, and began at b or later
abbrev pub is_ended_from : Slots → ℕ → ℕ → Bool
is_ended_from slots b n = is_at_least b (begin_of_ended (version_at slots (number n)))

-- whether there is a version, and it tells nothing below b
abbrev pub is_later_one : ℕ → Option Version → Bool
is_later_one b None = false
is_later_one b (Some v) = is_later b v

-- ---- skips
-- the numbers from this one on
abbrev pub from_on : ℕ → List ℕ → List ℕ
from_on n [] = []
from_on n (m ∷ ns) = cond (eqb n m) (m ∷ ns) (from_on n ns)

-- whether the numbers go up to this one, and the versions up to it have ended, and began at b or
-- later
abbrev pub leads : Slots → ℕ → ℕ → List ℕ → Bool
leads slots b to [] = false
leads slots b to (m ∷ ns) = is_ended_from slots b m && (eqb m to || leads slots b to ns)

-- the skip is one of each key that has the version at which it begins
pub record IsSkip (slots : Slots) (lists : Lists) (n : ℕ) (r : Skip) : Type 0 where
  pub at : (key : RowKey) → is_among n (numbers_of lists key) ≡ true
      → leads slots r.least.0 r.to.0 (from_on n (numbers_of lists key)) ≡ true

-- each skip that is known is one
pub record AreSkips (slots : Slots) (lists : Lists) (ps : List Post) : Type 0 where
  pub each : (n : ℕ) (r : Skip) → skip_at ps n ≡ Some r → IsSkip slots lists n r

-- and each version stands once under its key
pub record HasSkips (v : VersionsData) (ps : List Post) : Type 0 where
  pub numbers : HasNumbers v.slots v.lists
  pub skips : AreSkips v.slots v.lists ps

-- all skips are forgotten where the version has ended, and else they stay
abbrev pub IsUnlessEnded : Slots → List Post → List Post → ℕ → Type 0
IsUnlessEnded slots old new n =
    (new ≡ []) ⊎ ((new ≡ old) × (begin_of_ended (version_at slots (number n)) ≡ None))

-- a walk over the versions of a key, past some that tell nothing below b
pub record IsRest (b : ℕ) (slots : Slots) (all walk : List VersionNo) : Type 0 where
  pub front : List VersionNo
  pub split : all ≡ front ++ walk
  pub later : AreLater b (versions_by slots front)
