-- What rolling back old transactions comes to.
use Rattle.std.specs.Prelude.{◌≡◌, ◌-◌, ◌^◌, ℕ, min, List, length, Option, None, Some, Ok}
use Rattle.std.specs.List.{AllByRecursion}
use Rattle.mvo_types.specs.declared.ids.TxId.{TxId}
use Rattle.mvo_theory.specs.Calls.Call.{Rollback}
use Rattle.mvo_core.specs.Unfinished.{IsNextActive}
use Rattle.mvo_engine.specs.run.Opening.{Opening}
use Rattle.mvo_engine.specs.Sound.{IsSoundCore}
use Rattle.mvo_engine.specs.States.{CoreState}
use Rattle.mvo_engine.specs.Calls.{IsCoreStep}
use Rattle.mvo_engine.specs.Asked.{WasFinished}

-- the transaction was rolled back, if there was one
abbrev pub IsRolledBack : CoreState → Option TxId → CoreState → Type 0
IsRolledBack old None new = new ≡ old
IsRolledBack old (Some t) new = IsCoreStep {A = Unit {0}} old (Rollback t.0) (Ok tt) new

-- Under its lock the core lay sound. Of the Active transactions that began below the stamp this one
-- had the least begin from some stamp on, and it was rolled back; then it was finished.
pub record HasGivenWay (o : Opening) (below t : ℕ) : Type 0 where
  pub old : CoreState
  pub new : CoreState
  pub sound : IsSoundCore o old.core old.sends.sent
  pub from : ℕ
  pub next : IsNextActive old.core.table from below (Some (record { 0 = t }))
  pub rolled_back : IsRolledBack old (Some (record { 0 = t })) new
  pub finished : WasFinished o t

-- Under its lock the core lay sound, and no transaction was Active that began below the stamp.
pub record NoneWasOlder (o : Opening) (below : ℕ) : Type 0 where
  pub state : CoreState
  pub sound : IsSoundCore o state.core state.sends.sent
  pub none : IsNextActive state.core.table 0 below None

-- A pass over them: so many gave way, one after another; and if none did, none was left.
pub record IsPassOver (o : Opening) (below all : ℕ) : Type 0 where
  pub ids : List ℕ
  pub each : AllByRecursion (HasGivenWay o below) ids
  pub count : all ≡ min (length ids) (2 ^ 64 - 1)
  pub none : all ≡ 0 → NoneWasOlder o below

-- Each of these transactions gave way, one after another, until none was left. The answer is how
-- many they were, as far as a number says it.
pub record HaveGivenWay (o : Opening) (below all : ℕ) : Type 0 where
  pub ids : List ℕ
  pub each : AllByRecursion (HasGivenWay o below) ids
  pub none : NoneWasOlder o below
  pub count : all ≡ min (length ids) (2 ^ 64 - 1)
