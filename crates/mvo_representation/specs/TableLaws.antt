-- What the transaction table tells beside dependencies is what the state has.
use Rattle.std.specs.Prelude.{ℕ, ◌≡◌, List}
use Rattle.std.specs.FinMap as fin
use Rattle.mvo_types.specs.Keys.{Map}
use Rattle.mvo_theory.specs.State.{State}
use Rattle.mvo_theory.specs.Phases.{phase_in}
use Rattle.mvo_theory.specs.Causes.{unfinished, why_not_begin}
use Rattle.mvo_theory.specs.Marks.{low_water, oldest_begin}
use Rattle.mvo_shared.specs.Standing.{IsStanding}
use Rattle.mvo_txn.specs.Txns.{Txns, state_of, why_not_begun, IsOldestBegin, IsLowWater}
use Rattle.mvo_representation.specs.Table.{phases_of}
use Rattle.mvo_representation.specs.Dependencies.{IsTableOf}

-- where each stands, at one stroke
abbrev pub TellsPhases : Type 0 → Type 0
TellsPhases P = (s : State) (table : Txns P) → IsTableOf s table
    → phases_of (state_of table) ≡ phase_in s

-- how many are unfinished
abbrev pub TellsUnfinished : Type 0 → Type 0
TellsUnfinished P = (opening : Map) (s : State) (table : Txns P)
    → IsStanding opening s → IsTableOf s table → fin.len table.seats ≡ unfinished s

-- why no transaction may begin
abbrev pub TellsWhyNotBegun : Type 0 → Type 0
TellsWhyNotBegun P = (opening : Map) (s : State) (table : Txns P)
    → IsStanding opening s → IsTableOf s table → why_not_begun table ≡ why_not_begin s

-- the oldest begin, and the low-water
abbrev pub TellsOldestBegin : Type 0 → Type 0
TellsOldestBegin P = (opening : Map) (s : State) (table : Txns P) (n : ℕ)
    → IsStanding opening s → IsTableOf s table → IsOldestBegin table n → n ≡ oldest_begin s

abbrev pub TellsLowWater : Type 0 → Type 0
TellsLowWater P = (opening : Map) (s : State) (table : Txns P) (n : ℕ)
    → IsStanding opening s → IsTableOf s table → IsLowWater table n → n ≡ low_water s
