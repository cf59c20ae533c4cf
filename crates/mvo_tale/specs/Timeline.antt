-- The places as the theory's state has them.
use Rattle.std.specs.Prelude.{◌≡◌, true, false, List, [], ◌∷◌, ⊤}
use Rattle.mvo_theory.specs.State.{StampedTx}
use Rattle.mvo_tale.specs.declared.tale_place.TalePlace.{TalePlace}
use Rattle.mvo_tale.specs.declared.tale_place.TalePlace.TheVariants.{Open, Reading, Settled, Empty}
use Rattle.mvo_tale.specs.Stored.{StoredCommit}

-- a stored commit is a settled transaction
pub record IsStoredAs (c : StoredCommit) (x : StampedTx) : Type 0 where
  pub settled : x.settled ≡ true
  pub id : x.id ≡ c.id
  pub end' : x.end ≡ c.end
  pub history : x.history ≡ c.history

abbrev pub IsPlaceOf : TalePlace → StampedTx → Type 0
IsPlaceOf (Open e) x = (x.settled ≡ false) × (x.end ≡ e.0)
IsPlaceOf (Reading b) x = ⊥
IsPlaceOf (Settled c) x = IsStoredAs c x
IsPlaceOf Empty x = ⊥

-- those that have an end are, one after another, at the places that aren't empty. None is of a
-- read-only one
abbrev pub ArePlacesOf : List TalePlace → List StampedTx → Type 0
ArePlacesOf [] [] = ⊤
ArePlacesOf [] (x ∷ xs) = ⊥
ArePlacesOf (Open e ∷ slots) [] = ⊥
ArePlacesOf (Open e ∷ slots) (x ∷ xs) = IsPlaceOf (Open e) x × ArePlacesOf slots xs
ArePlacesOf (Reading b ∷ slots) [] = ⊥
ArePlacesOf (Reading b ∷ slots) (x ∷ xs) = ⊥
ArePlacesOf (Settled c ∷ slots) [] = ⊥
ArePlacesOf (Settled c ∷ slots) (x ∷ xs) = IsPlaceOf (Settled c) x × ArePlacesOf slots xs
ArePlacesOf (Empty ∷ slots) [] = ArePlacesOf slots []
ArePlacesOf (Empty ∷ slots) (x ∷ xs) = ArePlacesOf slots (x ∷ xs)
