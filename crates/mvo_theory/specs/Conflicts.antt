-- Whose first write stands in the way of an update or a delete, by the trace.
use Rattle.std.specs.Prelude.{ℕ, ◌≡◌, ◌≢◌, true, false, is_some, List}
use Rattle.std.specs.FinMap as fin
use Rattle.mvo_types.specs.declared.row.RowKey.{RowKey}
use Rattle.mvo_types.specs.declared.cause.Cause.{Cause}
use Rattle.mvo_types.specs.declared.cause.Cause.TheVariants.{Active, Stamped}
use Rattle.mvo_types.specs.Keys.{Map}
use Rattle.mvo_model.specs.History.{net_write}
use Rattle.mvo_model.specs.Trace.{Step, history_of, phase_of}
use Rattle.mvo_model.specs.Trace.Phase.{Active as Runs}
use Rattle.mvo_theory.specs.Claimed.{IsOrigin, IsClaimed}
use Rattle.mvo_theory.specs.Snapshots.{snapshot_of}
use Rattle.mvo_theory.specs.Ends.{EndsAt}

-- u was the first to update or delete the row of the key that t would: its first writing answer on
-- the key did, and the key's origin for it then is its origin for t now
pub record IsFirstWriter (mark : ℕ) (steps : List Step) (t u : ℕ) (k : RowKey) : Type 0 where
  pub origin : ℕ
  pub claimed : IsClaimed mark steps u (record { key = k; origin = origin })
  pub now : IsOrigin mark steps k t origin

-- the cause names such a one: Active, or Preparing or Committed with the end timestamp
abbrev pub IsNamed : ℕ → List Step → ℕ → RowKey → Cause → Type 0
IsNamed mark steps t k (Active u) =
    (u.0 ≢ t) × (phase_of u.0 steps ≡ Runs) × IsFirstWriter mark steps t u.0 k
IsNamed mark steps t k (Stamped e) = (u : ℕ) × EndsAt steps u e.0 × IsFirstWriter mark steps t u k

-- t sees a row of the key and has no writing answer on it, and another that was first to update or
-- delete that row is named
pub record IsInTheWay (opening : Map) (mark : ℕ) (steps : List Step) (t : ℕ) (k : RowKey)
    (c : Cause) : Type 0 where
  pub stands : fin.contains_key (snapshot_of opening steps t) k ≡ true
  pub unwritten : is_some (net_write k (history_of t steps)) ≡ false
  pub named : IsNamed mark steps t k c
