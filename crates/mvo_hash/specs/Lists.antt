-- The numbers of each key, newest first.
use Rattle.std.specs.Prelude.{◌≡◌, ℕ, ◌≤◌, List, [], ◌∷◌, ◌++◌, Bool, true, false, not, cond, eqb, IsTrue, Option, None, Some, refl}
use Rattle.std.specs.List.{filter, list_any}
use Rattle.std.specs.Coded.{Coded, code_by, coded×, coded_ℕ, coded_list}
use Rattle.std.specs.FinMap as map
use Rattle.mvo_types.specs.declared.row.RowKey.{RowKey}
use Rattle.mvo_types.specs.Keys.{key_cmp, coded_key}
use Rattle.mvo_chain.specs.declared.version.VersionNo.{VersionNo}

-- a finite map from keys to the numbers of their versions, newest first, where each key has one at
-- least
abbrev pub Lists : Type 0
Lists = map.FinMap key_cmp (List ℕ)

abbrev pub coded_lists : Coded Lists
coded_lists = map.code coded_key (coded_list coded_ℕ)

-- the versions of each key, and how many more can be added before every key is moved
pub record Index : Type 0 where
  pub versions : Lists
  pub room : ℕ

abbrev pub coded_index : Coded Index
coded_index =
    code_by (Lists × ℕ) (coded× coded_lists coded_ℕ) (λ i. (i.versions, i.room))
    (λ p. record { versions = p.0; room = p.1 }) (λ _. refl)

-- no version yet, and no room
abbrev pub no_versions : Index
no_versions = record { versions = map.empty; room = 0 }

abbrev pub or_empty : Option (List ℕ) → List ℕ
or_empty None = []
or_empty (Some ns) = ns

-- the numbers of a key, newest first
abbrev pub numbers_of : Lists → RowKey → List ℕ
numbers_of lists key = or_empty (map.get lists key)

-- the lists with this one at the key, which goes with its last number
abbrev pub with_numbers : Lists → RowKey → List ℕ → Lists
with_numbers lists key [] = map.remove lists key
with_numbers lists key (n ∷ ns) = map.insert lists key (n ∷ ns)

-- the number of a version as the code has it
abbrev pub number : ℕ → VersionNo
number n = record { 0 = n }

-- the first of a list of versions
abbrev pub foremost : List VersionNo → Option VersionNo
foremost [] = None
foremost (n ∷ ns) = Some n

-- the version stands in the list, in front of the rest
abbrev pub LeadsTo : List VersionNo → VersionNo → List VersionNo → Type 0
LeadsTo ns n rest = (front : List VersionNo) × (ns ≡ front ++ n ∷ rest)

abbrev pub newest_of : List ℕ → Option ℕ
newest_of [] = None
newest_of (n ∷ ns) = Some n

abbrev pub is_among : ℕ → List ℕ → Bool
is_among n ns = list_any (eqb n) ns

-- the numbers without this one, in their order
abbrev pub without_number : ℕ → List ℕ → List ℕ
without_number n ns = filter (λ m. not (eqb n m)) ns

-- the number that stands behind this one
abbrev pub older_of : ℕ → List ℕ → Option ℕ
older_of n [] = None
older_of n (m ∷ ns) = cond (eqb n m) (newest_of ns) (older_of n ns)

-- the number in front of this one, where the first stands in front of all the others
abbrev pub newer_behind : Option ℕ → ℕ → List ℕ → Option ℕ
newer_behind front n [] = None
newer_behind front n (m ∷ ns) = cond (eqb n m) front (newer_behind (Some m) n ns)

-- the number that stands in front of this one
abbrev pub newer_of : ℕ → List ℕ → Option ℕ
newer_of n ns = newer_behind None n ns

-- some key has the number
abbrev pub IsHeld : Lists → ℕ → Type 0
IsHeld lists n = (key : RowKey) × IsTrue (is_among n (numbers_of lists key))

-- no key has the number
pub record IsNewNumber (lists : Lists) (n : ℕ) : Type 0 where
  pub at : (key : RowKey) → is_among n (numbers_of lists key) ≡ false

-- no key has the number, or one above it
abbrev pub IsPastAll : Lists → ℕ → Type 0
IsPastAll lists n = (m : ℕ) → n ≤ m → IsNewNumber lists m

-- the answer is the number behind this one, with whichever key has it
pub record IsOlder (lists : Lists) (n : ℕ) (answer : Option ℕ) : Type 0 where
  pub at : (key : RowKey) → is_among n (numbers_of lists key) ≡ true
      → answer ≡ older_of n (numbers_of lists key)

-- the answer is the number in front of this one, with whichever key has it
pub record IsNewer (lists : Lists) (n : ℕ) (answer : Option ℕ) : Type 0 where
  pub at : (key : RowKey) → is_among n (numbers_of lists key) ≡ true
      → answer ≡ newer_of n (numbers_of lists key)
