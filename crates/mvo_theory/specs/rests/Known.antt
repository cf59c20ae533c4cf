-- What a state knows of whom its transactions rest on.
use Rattle.std.specs.Prelude.{ℕ, ◌≡◌, ◌≤◌, true, false, List, length, Option, None, Some}
use Rattle.std.specs.List.{AllByRecursion}
use Rattle.mvo_theory.specs.Dependencies.{has_end}
use Rattle.mvo_theory.specs.State.{State, ActiveTx, StampedTx}
use Rattle.mvo_theory.specs.rests.Course.{Course, start_behind}
use Rattle.mvo_theory.specs.rests.Resting.{RestsOn, RestsOnNoAborted, IsFirstAborted}

-- the first of them that was aborted, if one was
abbrev pub IsFlag : Course → ℕ → Option ℕ → Type 0
IsFlag c t None = RestsOnNoAborted c t
IsFlag c t (Some x) = IsFirstAborted c t x

-- these are the ends of those on whom t rests
pub record KnowsOne (c : Course) (t : ℕ) (depends_on : List ℕ) (aborted : Option ℕ) :
    Type 0 where
  pub all : (x e : ℕ) → RestsOn c t x e → has_end depends_on e ≡ true
  pub only : (e : ℕ) → has_end depends_on e ≡ true → (x : ℕ) × RestsOn c t x e
  pub flag : IsFlag c t aborted

-- the state knows that of each of its transactions, and where the history starts
pub record KnowsRests (c : Course) (s : State) : Type 0 where
  pub start : start_behind c.mark c.trims (length c.steps) ≡ s.start
  pub earlier : AllByRecursion (λ d. d.0 ≤ length c.steps) c.trims
  pub active :
      AllByRecursion (λ (r : ActiveTx). KnowsOne c r.id r.depends_on r.aborted_dependency) s.active
  pub preparing :
      AllByRecursion
      (λ (x : StampedTx). x.settled ≡ false → KnowsOne c x.id x.depends_on x.aborted_dependency)
      s.stamped
