-- What collecting under the lock of the core comes to.
use Rattle.std.specs.Prelude.{◌≡◌, ◌+◌, ◌-◌, ◌^◌, ◌<◌, ℕ, min, List, [], ◌∷◌, ◌++◌}
use Rattle.std.specs.List.{AllByRecursion, sum}
use Rattle.mvo_theory.specs.State.{State}
use Rattle.mvo_core.specs.Collection.{Collection}
use Rattle.mvo_core.specs.Garbage.{horizon, garbage_count}
use Rattle.mvo_core.specs.WholeAnswers.{InEachWhole, StandsWholeAsBefore, AreFewerWhole}
use Rattle.mvo_engine.specs.States.{CoreState}

-- A collection came to this: of the core's versions one that is garbage is fewer, or none was. It
-- stands for each whole state that it stood for, and all else stays.
pub record IsCoreCollection (old : CoreState) (c : Collection) (new : CoreState) : Type 0 where
  pub counts : AreFewerWhole old.core c new.core
  pub stands : StandsWholeAsBefore old.core new.core
  pub core : new.core ≡ record old.core { versions = new.core.versions }
  pub rest : new ≡ record old { core = new.core }

-- how many of the core's versions are garbage in the state
abbrev pub garbage_in : State → CoreState → ℕ
garbage_in s c = garbage_count (horizon s) c.core.versions.slots

-- So many were asked for, and that many garbage versions are fewer, or all that there were.
pub record HasCollectedUpTo (old : CoreState) (most n : ℕ) (new : CoreState) : Type 0 where
  pub taken : InEachWhole old.core (λ w. n ≡ min most (garbage_in w.core old))
  pub left : InEachWhole old.core (λ w.
      garbage_in w.core new + n ≡ garbage_in w.core old)
  pub stands : StandsWholeAsBefore old.core new.core
  pub core : new.core ≡ record old.core { versions = new.core.versions }
  pub rest : new ≡ record old { core = new.core }

-- so many were collected under the lock of the core, which was taken for it
abbrev pub WasCollected : ℕ → ℕ → Type 0
WasCollected most n = (old new : CoreState) × HasCollectedUpTo old most n new

-- Collections alone, one after another, each of at most so many, up to the first of fewer, which
-- left no garbage. The answer is the sum, as far as a number says it.
pub record HaveCollected (most all : ℕ) : Type 0 where
  pub before : List ℕ
  pub last : ℕ
  pub fewer : last < most
  pub each : AllByRecursion (WasCollected most) (before ++ last ∷ [])
  pub sum : all ≡ min (sum (before ++ last ∷ [])) (2 ^ 64 - 1)
