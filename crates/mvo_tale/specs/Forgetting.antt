-- Places at the front from which nothing is stored any more.
use Rattle.std.specs.Prelude.{ℕ, zero, suc, nat_le, Bool, true, false, if◌then◌else◌, List, [], ◌∷◌, Option, None, Some}
use Rattle.mvo_tale.specs.declared.tale_place.TalePlace.{TalePlace}
use Rattle.mvo_tale.specs.declared.tale_place.TalePlace.TheVariants.{Open, Reading, Settled, Empty}

-- these behind so many that are gone, each of which is empty
abbrev pub behind_gone : ℕ → List TalePlace → List TalePlace
behind_gone zero xs = xs
behind_gone (suc n) xs = Empty ∷ behind_gone n xs

-- what is at a place, of which nothing is kept where it is gone
abbrev pub slot_or_empty : Option TalePlace → TalePlace
slot_or_empty None = Empty
slot_or_empty (Some x) = x

-- whether nothing is lost with the place: it is empty, or its commit ends at most there
abbrev pub may_go : ℕ → TalePlace → Bool
may_go upto (Open e) = false
may_go upto (Reading b) = false
may_go upto (Settled c) = nat_le c.end upto
may_go upto Empty = true

abbrev pub goes_first : ℕ → List TalePlace → Bool
goes_first upto [] = false
goes_first upto (x ∷ xs) = may_go upto x

-- from the first place on that stays
abbrev pub from_kept : ℕ → List TalePlace → List TalePlace
from_kept upto [] = []
from_kept upto (x ∷ xs) = if may_go upto x then from_kept upto xs else x ∷ xs

-- those before the first place that stays are empty
abbrev pub forgotten : ℕ → List TalePlace → List TalePlace
forgotten upto [] = []
forgotten upto (x ∷ xs) = if may_go upto x then Empty ∷ forgotten upto xs else x ∷ xs
