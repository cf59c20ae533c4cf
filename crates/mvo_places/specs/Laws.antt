-- The laws of places.
use Rattle.std.specs.Prelude.{ℕ, ◌<◌, List, [], ◌∷◌, ◌++◌, map, All, Ok, nat_eq}
use Rattle.std.specs.List.{IsDistinct}
use Rattle.std.specs.FinMap.{empty}
use Rattle.mvo_pair.specs.Data.{Numbered, AreApart}
use Rattle.mvo_pair.specs.Loading.{LoadsAs}
use Rattle.mvo_pair.specs.declared.pair.Pair.{Pair}
use Rattle.mvo_places.specs.Places.{PlaceMap, Rise, ArePlaces, file_of, with_live}

-- The numbers of the live records of a pair rise, and lie below its count.
abbrev pub LiveNumbersRise : Type 0
LiveNumbersRise = (upto : ℕ) (p : Pair) (data_bytes delta : List ℕ) (live : List Numbered) →
    LoadsAs upto p data_bytes delta (Ok live) → Rise live × All (λ l. l.0 < p.records) live

-- Without pairs there are no places.
abbrev pub NoPlaces : Type 0
NoPlaces = ArePlaces [] [] empty

-- The places of one more pair's live records go beside those of the others.
abbrev pub PlacesGrow : Type 0
PlacesGrow = (ps : List Pair) (lives : List (List Numbered)) (at : PlaceMap) (p : Pair)
    (live : List Numbered) → ArePlaces ps lives at →
    IsDistinct nat_eq (map file_of (ps ++ p ∷ [])) → AreApart (lives ++ live ∷ []) → Rise live →
    ArePlaces (ps ++ p ∷ []) (lives ++ live ∷ []) (with_live p.data_file live at)
