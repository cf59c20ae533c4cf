-- What a state counts, read off the trace.
use Rattle.std.specs.Prelude.{ℕ, ◌≡◌, ◌+◌, ◌<◌, nat_lt, nat_le, ◌&&◌, false, List, length}
use Rattle.std.specs.List.{AllByRecursion}
use Rattle.mvo_model.specs.Trace.{Step}
use Rattle.mvo_theory.specs.Entries.{entries}
use Rattle.mvo_theory.specs.State.{State, StampedTx}
use Rattle.mvo_theory.specs.Causes.{unfinished}
use Rattle.mvo_theory.specs.Sound.{how_many}
use Rattle.mvo_theory.specs.Counts.{draws, is_begin, is_finish, checks_in}

-- a Preparing transaction was checked as often as the trace says, up to Valid
pub record HasChecks (steps : List Step) (x : StampedTx) : Type 0 where
  pub checked : x.valid ≡ false → x.checked ≡ checks_in x.id steps
  pub valid :
      (nat_lt 0 (checks_in x.id steps)
      && nat_le (length (entries x.history)) (checks_in x.id steps)) ≡ x.valid

-- the opening mark, the clock, the number of the unfinished and the checks are those of the trace
pub record HasCounts (mark : ℕ) (steps : List Step) (s : State) : Type 0 where
  pub opening : s.marks.opening ≡ mark
  pub clock : s.clock ≡ mark + draws steps
  pub unfinished : how_many is_begin steps ≡ unfinished s + how_many is_finish steps
  pub active : AllByRecursion (λ r. checks_in r.id steps ≡ 0) s.active
  pub preparing : AllByRecursion (λ x. x.settled ≡ false → HasChecks steps x) s.stamped
  pub fresh : (t : ℕ) → s.clock < t → checks_in t steps ≡ 0
