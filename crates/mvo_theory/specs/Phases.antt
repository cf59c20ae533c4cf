-- Where a transaction stands in a state.
use Rattle.std.specs.Prelude.{ℕ, Bool, true, false, Option, None, Some}
use Rattle.mvo_model.specs.Trace.{Phase}
use Rattle.mvo_model.specs.Trace.Phase.{Absent, Active, Preparing, Committed as Commits, Aborted as Aborts}
use Rattle.mvo_theory.specs.State.{State, StampedTx, ActiveTx, EndedTx, Outcome, active_of, preparing_of, ended_of}
use Rattle.mvo_theory.specs.State.Outcome.{Committed, Aborted}

-- how it ended
abbrev pub ended_as : Outcome → Phase
ended_as (Committed e) = Commits e
ended_as Aborted = Aborts

abbrev pub phase_by : Option ActiveTx → Option StampedTx → Option EndedTx → Phase
phase_by (Some r) w u = Active
phase_by None (Some x) u = Preparing x.end
phase_by None None (Some u) = ended_as u.outcome
phase_by None None None = Absent

-- the transaction t is Active, Preparing, Committed or Aborted, or it is in no table
abbrev pub phase_in : State → ℕ → Phase
phase_in s t = phase_by (active_of t s.active) (preparing_of t s.stamped) (ended_of t s.ended)

abbrev pub is_absent : Phase → Bool
is_absent Absent = true
is_absent p = false

abbrev pub is_active : Phase → Bool
is_active Active = true
is_active p = false

abbrev pub is_preparing : Phase → Bool
is_preparing (Preparing e) = true
is_preparing p = false

-- Committed or Aborted
abbrev pub is_ended : Phase → Bool
is_ended (Commits e) = true
is_ended Aborts = true
is_ended p = false
