-- What a state says of the steps since the opening.
use Rattle.std.specs.Prelude.{ℕ, ◌≡◌, ◌<◌, cond, List, [], ◌∷◌, ◌++◌}
use Rattle.std.specs.List.{AllByRecursion}
use Rattle.mvo_types.specs.Keys.{Map}
use Rattle.mvo_model.specs.Trace.{Step, history_of, committed, phase_of}
use Rattle.mvo_theory.specs.State.{State, StampedTx, after_settled}
use Rattle.mvo_theory.specs.Sound.{IsLegal}
use Rattle.mvo_theory.specs.Phases.{phase_in}

-- the settled ones, by end timestamp: their ends and ids
abbrev pub pairs : List StampedTx → List (ℕ × ℕ)
pairs [] = []
pairs (x ∷ xs) = cond x.settled ((x.end, x.id) ∷ pairs xs) (pairs xs)

-- the state is one after this trace
pub record IsAfterTrace (opening : Map) (steps : List Step) (s : State) : Type 0 where
  -- the base is what those before the start leave of the opening rows
  pub base : s.base ≡ after_settled s.past opening
  pub legal : IsLegal opening s.past
  -- the settled ones are the committed transactions, in commit order
  pub tale : committed steps ≡ pairs s.past ++ pairs s.stamped
  -- the history of each is that of its steps
  pub past : AllByRecursion (λ x. history_of x.id steps ≡ x.history) s.past
  pub stamped : AllByRecursion (λ x. history_of x.id steps ≡ x.history) s.stamped
  pub active : AllByRecursion (λ r. history_of r.id steps ≡ r.history) s.active
  pub fresh : (t : ℕ) → s.clock < t → history_of t steps ≡ []
  -- each transaction stands where its steps led it
  pub phases : (t : ℕ) → phase_of t steps ≡ phase_in s t
