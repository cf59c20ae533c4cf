-- What happened since the opening, with the trims of the history.
use Rattle.std.specs.Prelude.{ℕ, nat_le, if◌then◌else◌, List, [], ◌∷◌, ◌++◌, length}
use Rattle.mvo_types.specs.Keys.{Map}
use Rattle.mvo_model.specs.Trace.{Step}
use Rattle.mvo_theory.specs.Calls.{Call, Result}
use Rattle.mvo_theory.specs.Calls.Call.{Trim}
use Rattle.mvo_theory.specs.Calls.Result.{Accepted}

pub record Course : Type 0 where
  -- the rows and the mark of the opening
  pub rows : Map
  pub mark : ℕ
  -- the steps of the transactions since
  pub steps : List Step
  -- each trim: how many steps were before it, and where the history starts from then on
  pub trims : List (ℕ × ℕ)

-- where the history starts behind n steps: at the opening mark, or where it was trimmed last
abbrev pub start_behind : ℕ → List (ℕ × ℕ) → ℕ → ℕ
start_behind mark [] n = mark
start_behind mark (c ∷ cs) n = if nat_le c.0 n then start_behind c.1 cs n else mark

-- the trims after a call
abbrev pub trims_after : Course → Call → Result → List (ℕ × ℕ)
trims_after c (Trim m) Accepted = c.trims ++ (length c.steps, m) ∷ []
trims_after c call r = c.trims

-- with these steps more
abbrev pub with_steps : Course → List Step → Course
with_steps c xs = record c { steps = c.steps ++ xs }

-- with one trim more
abbrev pub with_trim : Course → ℕ → Course
with_trim c m = record c { trims = c.trims ++ (length c.steps, m) ∷ [] }
