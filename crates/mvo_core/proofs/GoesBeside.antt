-- Works that go on beside what a core stands for, where nothing is in the trace, and where they stay.
use Rattle.std.proofs.Common.{◌≡◌, ℕ, ◌++◌, List, [], append-nil, sym, subst}
use Rattle.mvo_types.specs.Keys.{Map}
use Rattle.mvo_model.specs.Trace.{Step}
use Rattle.mvo_theory.specs.State.{State}
use Rattle.mvo_shared.specs.Shared.{WorksById}
use Rattle.mvo_standing.specs.Beside.{WorksGoBeside}

pub called_beside_so : (opening : Map) (steps : List Step) (s : State) (works : WorksById) → WorksGoBeside opening (steps ++ []) s works → WorksGoBeside opening steps s works
called_beside_so opening steps s works h = subst (λ (ys : List Step). WorksGoBeside opening ys s works) (append-nil steps) h

pub same_beside : (opening : Map) (steps : List Step) (s : State) (works more : WorksById) → WorksGoBeside opening steps s works → ((t : ℕ) → more t ≡ works t) → WorksGoBeside opening steps s more
same_beside opening steps s works more h same = subst (WorksGoBeside opening steps s) (λ i t. sym (same t) i) h
