-- At which moments a call is looked at, by what is found where openings are refused.
use Rattle.std.specs.Prelude.{◌≡◌, ◌≢◌, ◌≤◌, ◌<◌, ◌+◌, ℕ, [], true, Some, length, slice_get, IsSomeAnd}
use Rattle.mvo_disk.specs.declared.call.DeviceWork.{DeviceWork}
use Rattle.mvo_disk.specs.declared.call.DeviceWork.TheVariants.{Write, Cut}
use Rattle.mvo_stops.specs.Calls.{calls_in}
use Rattle.mvo_stops.specs.declared.recorded.Recorded.{Recorded}
use Rattle.mvo_stops.specs.declared.when.When.{When}
use Rattle.mvo_stops.specs.declared.when.When.TheVariants.{StopBefore, StopWithin, StopBehindFault, StopAtEnd}
use Rattle.mvo_stops.specs.declared.when.When.TheVariants.{FaultIdle, FaultInPart, FaultPassed, FaultAtEnd}
use Rattle.mvo_stops.specs.declared.which.Which.TheVariants.{First}

-- the first opening of what is left at such a moment isn't refused
abbrev pub IsOpenedAt : Recorded → When → Type 0
IsOpenedAt r when = r.refused ≢ Some (record { 0 = when; 1 = First })

-- it changes a file: there is a moment within it, and one at which it has failed in part
abbrev pub Changes : DeviceWork → Type 0
Changes (Write at len bytes) = bytes.items ≢ []
Changes (Cut len new) = Unit {0}
Changes _ = ⊥

abbrev pub ChangesAt : Recorded → ℕ → Type 0
ChangesAt r place = IsSomeAnd (slice_get (calls_in r) place) (λ call. Changes call.work)

-- a store that goes on after a fault makes more calls behind this one
pub record RunsPastFault (r : Recorded) (place : ℕ) : Type 0 where
  pub forgets : r.faults_forgotten ≡ true
  pub more : place + 1 < length (calls_in r)

-- Nothing is wrong at a call, so openings aren't refused at any moment that it has.
pub record EachMomentIsOpened (r : Recorded) (place : ℕ) : Type 0 where
  pub before : IsOpenedAt r StopBefore
  pub within : ChangesAt r place → IsOpenedAt r StopWithin
  pub idle : IsOpenedAt r FaultIdle
  pub in_part : ChangesAt r place → IsOpenedAt r FaultInPart
  pub passed : RunsPastFault r place → IsOpenedAt r FaultPassed
  pub behind : RunsPastFault r place → IsOpenedAt r StopBehindFault
  pub at_end : IsOpenedAt r FaultAtEnd
  pub stopped : length (calls_in r) ≤ place + 1 → IsOpenedAt r StopAtEnd
