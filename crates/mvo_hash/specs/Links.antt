-- The links between the versions of a key, by number.
use Rattle.std.specs.Prelude.{◌≡◌, ◌≢◌, ℕ, zero, suc, ◌<◌, ◌≤◌, List, [], ◌∷◌, Bool, true, false, eqb, cond, length, drop, slice_index_or, map, Option, None, Some}
use Rattle.std.specs.FinMap as finite_map
use Rattle.mvo_types.specs.declared.row.RowKey.{RowKey}
use Rattle.mvo_hash.specs.declared.link.Link.{Link}
use Rattle.mvo_hash.specs.Table.{KeyNumbers, Table}
use Rattle.mvo_hash.specs.Lists.{Lists, Index, newest_of, is_among}

-- what stands for no version
abbrev pub no_number : ℕ
no_number = 0xFFFF_FFFF

-- what a number that no key has shows as its newer neighbour
abbrev pub unheld : ℕ
unheld = 0xFFFF_FFFE

abbrev pub no_link : Link
no_link = record { older = no_number; newer = unheld }

-- the link of a number, which no key has past the end
abbrev pub link : List Link → ℕ → Link
link ls n = slice_index_or ls n no_link

abbrev pub number_or_none : Option ℕ → ℕ
number_or_none None = no_number
number_or_none (Some n) = n

abbrev pub first_or_none : List ℕ → ℕ
first_or_none ns = number_or_none (newest_of ns)

-- the heads once a link goes, which may be that of the newest number of the key
abbrev pub beheaded : KeyNumbers → RowKey → Link → KeyNumbers
beheaded heads key gone =
    cond (eqb gone.newer no_number)
    (cond (eqb gone.older no_number) (finite_map.remove heads key)
    (finite_map.insert heads key gone.older)) heads

-- at most so many numbers, from this one on to ever older ones
abbrev pub walk : List Link → ℕ → ℕ → List ℕ
walk ls zero n = []
walk ls (suc most) n = cond (eqb n no_number) [] (n ∷ walk ls most (link ls n).older)

-- what is still to come of a walk, which stands at this number: it comes next, or came last
abbrev pub to_come : List Link → ℕ → Bool → List ℕ
to_come ls at false = walk ls (length ls) at
to_come ls at true = drop 1 (walk ls (length ls) at)

-- the numbers of a key
abbrev pub numbers : KeyNumbers → List Link → RowKey → List ℕ
numbers heads ls key = walk ls (length ls) (number_or_none (finite_map.get heads key))

abbrev pub listed : List Link → RowKey × ℕ → RowKey × List ℕ
listed ls e = (e.0, walk ls (length ls) e.1)

abbrev pub lists_of : KeyNumbers → List Link → Lists
lists_of heads ls = finite_map.from_entries (map (listed ls) (finite_map.entries heads))

abbrev pub index_of : Table → List Link → Index
index_of heads ls = record { versions = lists_of heads.numbers ls; room = heads.room }

-- each number's links lead to its neighbours, where this one is newer than the first
abbrev pub IsChain : List Link → ℕ → List ℕ → Type 0
IsChain ls newer [] = Unit {0}
IsChain ls newer (n ∷ ns) =
    (n < length ls) × ((link ls n).newer ≡ newer) × ((link ls n).older ≡ first_or_none ns)
    × IsChain ls n ns

-- no number stands twice
abbrev pub AreDistinctNumbers : List ℕ → Type 0
AreDistinctNumbers [] = Unit {0}
AreDistinctNumbers (n ∷ ns) = (is_among n ns ≡ false) × AreDistinctNumbers ns

abbrev pub some_unless_none : ℕ → Option ℕ
some_unless_none n = cond (eqb n no_number) None (Some n)

-- the heads and the links hold these numbers
pub record IsIndexOf (heads : KeyNumbers) (ls : List Link) (at : RowKey → List ℕ) : Type 0 where
  pub numbered : length ls ≤ unheld
  pub starts : (key : RowKey) → finite_map.get heads key ≡ newest_of (at key)
  pub chained : (key : RowKey) → IsChain ls no_number (at key)
  pub apart : (key : RowKey) → AreDistinctNumbers (at key)
  pub only : (j k : RowKey) (n : ℕ) → is_among n (at j) ≡ true → is_among n (at k) ≡ true → j ≡ k
  pub held : (n : ℕ) → (link ls n).newer ≢ unheld → (key : RowKey) × (is_among n (at key) ≡ true)

abbrev pub IsIndex : KeyNumbers → List Link → Type 0
IsIndex heads ls = IsIndexOf heads ls (numbers heads ls)

-- more links, of numbers that no key has
pub record IsGrown (old new : List Link) : Type 0 where
  pub longer : length old ≤ length new
  pub numbered : length new ≤ unheld
  pub same : (n : ℕ) → link new n ≡ link old n

-- another newer neighbour at one place
pub record HasNewer (old new : List Link) (at value : ℕ) : Type 0 where
  pub size : length new ≡ length old
  pub newer : (n : ℕ) → n < length old
      → (link new n).newer ≡ cond (eqb n at) value (link old n).newer
  pub older : (n : ℕ) → (link new n).older ≡ (link old n).older

-- another older neighbour at one place
pub record HasOlder (old new : List Link) (at value : ℕ) : Type 0 where
  pub size : length new ≡ length old
  pub older : (n : ℕ) → n < length old
      → (link new n).older ≡ cond (eqb n at) value (link old n).older
  pub newer : (n : ℕ) → (link new n).newer ≡ (link old n).newer

-- a number without newer ones in front of the older one
pub record IsJoined (old new : List Link) (number behind : ℕ) : Type 0 where
  pub size : length new ≡ length old
  pub here : link new number ≡ record { older = behind; newer = no_number }
  pub newer : (n : ℕ) → n < length old → n ≢ number
      → (link new n).newer ≡ cond (eqb n behind) number (link old n).newer
  pub older : (n : ℕ) → n ≢ number → (link new n).older ≡ (link old n).older

-- a number's neighbours lead to each other, and none to it
pub record IsUnlinked (old new : List Link) (number : ℕ) : Type 0 where
  pub size : length new ≡ length old
  pub here : link new number ≡ no_link
  pub newer : (n : ℕ) → n < length old → n ≢ number
      → (link new n).newer
      ≡ cond (eqb n (link old number).older) (link old number).newer (link old n).newer
  pub older : (n : ℕ) → n < length old → n ≢ number
      → (link new n).older
      ≡ cond (eqb n (link old number).newer) (link old number).older (link old n).older

-- a walk stands at the newest of a chain of numbers, or at its end
pub record IsWalk (ls : List Link) (at : ℕ) : Type 0 where
  pub newer : ℕ
  pub numbered : length ls ≤ unheld
  pub starts : at ≡ first_or_none (walk ls (length ls) at)
  pub chained : IsChain ls newer (walk ls (length ls) at)
  pub short : length (walk ls (length ls) at) ≤ length ls
