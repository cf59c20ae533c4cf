-- The first refusal of a list whose cause stands.
use Rattle.std.specs.Prelude.{Bool, if◌then◌else◌, List, [], ◌∷◌, Option, None, Some}
use Rattle.mvo_types.specs.declared.refusal.Refusal.{Refusal}

-- the refusal, if the test stands
abbrev pub when : Bool → Refusal → Option Refusal
when test r = if test then Some r else None

abbrev pub or_next : Option Refusal → Option Refusal → Option Refusal
or_next None next = next
or_next (Some r) next = Some r

-- the first of the list that stands
abbrev pub first_cause : List (Option Refusal) → Option Refusal
first_cause [] = None
first_cause (c ∷ cs) = or_next c (first_cause cs)
