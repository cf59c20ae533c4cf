-- Who is Preparing or Committed, by the trace.
use Rattle.std.specs.Prelude.{ℕ, ◌≡◌, ◌⊎◌, ◌==◌, ◌&&◌, true, List}
use Rattle.std.specs.List.{list_any}
use Rattle.mvo_model.specs.Trace.{Step, phase_of, committed}
use Rattle.mvo_model.specs.Trace.Phase.{Preparing}

-- u is Preparing or Committed with the end e
abbrev pub EndsAt : List Step → ℕ → ℕ → Type 0
EndsAt steps u e =
    (phase_of u steps ≡ Preparing e)
    ⊎ (list_any (λ c. (c.0 == e) && (c.1 == u)) (committed steps) ≡ true)
