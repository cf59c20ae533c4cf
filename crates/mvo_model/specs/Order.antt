-- Lists in order: the elements of a list, strictly rising.
use Rattle.std.specs.Prelude.{if◌then◌else◌, List, [], ◌∷◌}
use Rattle.std.specs.List.Sorted.{IsPermutation, IsStrictlySortedBy}
use Rattle.std.specs.Ordering.{is_lt}
use Rattle.std.specs.declared.cmp.Ordering.{Ordering}

-- these are the elements of the list, and they rise strictly
pub record IsInOrder {X : Type 0} (cmp : X → X → Ordering) (list ordered : List X) : Type 0 where
  pub same : IsPermutation list ordered
  pub rise : IsStrictlySortedBy cmp ordered

-- an element, put into its place among elements in order
abbrev pub placed : {X : Type 0} → (X → X → Ordering) → X → List X → List X
placed cmp x [] = x ∷ []
placed cmp x (y ∷ ys) = if is_lt (cmp y x) then y ∷ placed cmp x ys else x ∷ y ∷ ys

-- the one list that is the elements in order, where no two of them are equal
abbrev pub in_order : {X : Type 0} → (X → X → Ordering) → List X → List X
in_order cmp [] = []
in_order cmp (x ∷ xs) = placed cmp x (in_order cmp xs)
