-- Which two neighbours among the pairs are merged.
use Rattle.std.specs.Prelude.{ℕ, ◌≡◌, ◌≤◌, ◌⊎◌, ◌+◌, ◌-◌, ◌*◌, ◌&&◌, nat_lt, nat_le, Bool, true, List, [], ◌∷◌, Option, Some, None, if◌then◌else◌}
use Rattle.mvo_pair.specs.declared.pair.Pair.{Pair}
use Rattle.mvo_keep.specs.declared.policy.Policy.{Policy}
use Rattle.mvo_keep.specs.declared.choice.Choice.{Choice}
use Rattle.mvo_keep.specs.declared.choice.Choice.TheVariants.{LeastLive, LastSmall, MostDead}
use Rattle.mvo_keep.specs.declared.neighbours.Neighbours.{Neighbours}

-- the records that its delta file doesn't name
abbrev pub live_in : Pair → ℕ
live_in p = p.records - p.entries

abbrev pub live_in_both : Neighbours → ℕ
live_in_both two = live_in two.left + live_in two.right

abbrev pub dead_in_both : Neighbours → ℕ
dead_in_both two = two.left.entries + two.right.entries

abbrev pub records_in_both : Neighbours → ℕ
records_in_both two = two.left.records + two.right.records

-- the left one has less than twice the live records of the right one
abbrev pub is_left_small : Neighbours → Bool
is_left_small two = nat_lt (live_in two.left) (2 * live_in two.right)

-- more than half of their records are dead, and as many as a merge is worth
abbrev pub is_mostly_dead : Policy → Neighbours → Bool
is_mostly_dead p two =
    nat_le p.many_dead (dead_in_both two) && nat_lt (records_in_both two) (2 * dead_in_both two)

abbrev pub suits : Policy → Choice → Neighbours → Bool
suits p LeastLive two = true
suits p LastSmall two = is_left_small two
suits p MostDead two = is_mostly_dead p two

-- they may be chosen: together they aren't too large
abbrev pub is_candidate : Policy → Choice → Neighbours → Bool
is_candidate p choice two = nat_le (live_in_both two) p.most_live && suits p choice two

-- the later ones are chosen before the earlier ones
abbrev pub comes_before : Choice → Neighbours → Neighbours → Bool
comes_before LeastLive later earlier = nat_lt (live_in_both later) (live_in_both earlier)
comes_before LastSmall later earlier = true
comes_before MostDead later earlier = nat_lt (dead_in_both earlier) (dead_in_both later)

abbrev pub better_of : Choice → Neighbours → Option Neighbours → Neighbours
better_of choice two None = two
better_of choice two (Some later) = if comes_before choice later two then later else two

-- of these, and what was chosen of those behind them
abbrev pub chosen_from : Policy → Choice → Neighbours → Option Neighbours → Option Neighbours
chosen_from p choice two behind =
    if is_candidate p choice two then Some (better_of choice two behind) else behind

-- they are the first two, which aren't too large, or those that were chosen behind them
abbrev pub IsBetterOf : Policy → Neighbours → Option Neighbours → Neighbours → Type 0
IsBetterOf p two behind t = ((t ≡ two) × (live_in_both two ≤ p.most_live)) ⊎ (behind ≡ Some t)

-- the neighbours among the pairs, whose first is at this place
abbrev pub neighbours_from : ℕ → List Pair → List Neighbours
neighbours_from place [] = []
neighbours_from place (left ∷ []) = []
neighbours_from place (left ∷ right ∷ ps) =
    record { place = place; left = left; right = right } ∷ neighbours_from (place + 1) (right ∷ ps)

abbrev pub chosen_neighbours : Policy → Choice → List Neighbours → Option Neighbours
chosen_neighbours p choice [] = None
chosen_neighbours p choice (two ∷ twos) = chosen_from p choice two (chosen_neighbours p choice twos)

abbrev pub place_of_chosen : Option Neighbours → Option ℕ
place_of_chosen None = None
place_of_chosen (Some two) = Some two.place

abbrev pub chosen_place : Policy → Choice → List Pair → Option ℕ
chosen_place p choice pairs = place_of_chosen (chosen_neighbours p choice (neighbours_from 0 pairs))
