-- Where the seat of each id is.
use Rattle.std.specs.Prelude.{ℕ, ◌≡◌, ◌≢◌, ◌%◌, ◌==◌, ◌⊎◌, Bool, true, false, nat_eq, cond, slice_index, Option, Some, None}
use Rattle.std.specs.HashMap as hash_map
use Rattle.slab.specs.Slab.{Slab, get}
use Rattle.mvo_txn.specs.declared.directory.TheConstants.{PLACES}
use Rattle.mvo_txn.specs.declared.directory.Directory.{Directory}
use Rattle.mvo_txn.specs.declared.chair.Chair.{Chair}

-- whether the chair is the id's
abbrev pub is_of : {P : Type 0} → Option (Chair P) → ℕ → Bool
is_of None id = false
is_of (Some chair) id = chair.id == id

-- whether the chair is an id's with this place
abbrev pub has_place : {P : Type 0} → Option (Chair P) → ℕ → Bool
has_place None place = false
has_place (Some chair) place = chair.id % PLACES == place

-- the number that stands at the id's place
abbrev pub hinted : Directory → ℕ → ℕ
hinted d id = slice_index d.hints.value (id % PLACES)

-- the number under which the id is listed
abbrev pub displaced : Directory → ℕ → Option ℕ
displaced d id = hash_map.get nat_eq d.displaced id

-- the number stands at the id's place, or the id is listed with it
abbrev pub Knows : Directory → ℕ → ℕ → Type 0
Knows d id number = (hinted d id ≡ number) ⊎ (displaced d id ≡ Some number)

-- both say the same of each id
abbrev pub KnowsAlike : Directory → Directory → Type 0
KnowsAlike old new = (id number : ℕ) → Knows old id number → Knows new id number

-- the number stands at the id's place, and else nothing changes
pub record Hints (old new : Directory) (id number : ℕ) : Type 0 where
  pub hinted_is : (other : ℕ)
      → hinted new other ≡ cond (other % PLACES == id % PLACES) number (hinted old other)
  pub same : (other : ℕ) → displaced new other ≡ displaced old other

-- the number of the id is known, and of each other id whose seat was known
pub record Notes {P : Type 0} (old new : Directory) (chairs : Slab (Chair P)) (id number : ℕ)
    : Type 0 where
  pub known : Knows new id number
  pub others : (other n : ℕ) → other ≢ id → is_of (get chairs n) other ≡ true
      → Knows old other n → Knows new other n

-- the id is listed no more, and the others' are known as before
pub record Forgets (old new : Directory) (id : ℕ) : Type 0 where
  pub gone : displaced new id ≡ None
  pub others : (other n : ℕ) → other ≢ id → Knows old other n → Knows new other n

-- no id has two chairs, and the directory knows the number of each
pub record IsDirectory {P : Type 0} (d : Directory) (chairs : Slab (Chair P)) : Type 0 where
  pub own : (i j id : ℕ) → is_of (get chairs i) id ≡ true → is_of (get chairs j) id ≡ true → i ≡ j
  pub known : (n id : ℕ) → is_of (get chairs n) id ≡ true → Knows d id n
