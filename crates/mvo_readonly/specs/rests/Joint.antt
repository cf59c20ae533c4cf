-- Two courses, by the whole trace and by the core's own: they go together.
use Rattle.std.specs.Prelude.{ℕ, ◌≡◌, ◌≤◌, ◌⊎◌, List, ◌∷◌, ◌++◌, length}
use Rattle.std.specs.List.{AllByRecursion}
use Rattle.mvo_types.specs.declared.op.Op.{Op}
use Rattle.mvo_types.specs.AnswerData.{AnswerData}
use Rattle.mvo_model.specs.Trace.{Step}
use Rattle.mvo_model.specs.Trace.Step.{Answers, Aborts}
use Rattle.mvo_theory.specs.Calls.{Result}
use Rattle.mvo_theory.specs.rests.Course.{Course, start_behind, trims_after}
use Rattle.mvo_readonly.specs.Whole.{WholeState}
use Rattle.mvo_readonly.specs.WholeCauses.{WholeCall}
use Rattle.mvo_readonly.specs.WholeCauses.WholeCall.{CoreCall, BeginReadOnly}
use Rattle.mvo_readonly.specs.WholeKept.{IsWholeKept}
use Rattle.mvo_readonly.specs.BothTraces.{NoPrepare, IsMatched, AreGiven}

-- so many steps of both go together, and the history starts at the same then
pub record AtBoth (whole own : Course) (front before : List Step) : Type 0 where
  pub state : WholeState
  pub kept : IsWholeKept own.rows front before state
  pub matched : IsMatched front before state
  pub given : AreGiven own.rows front before state
  pub start : start_behind whole.mark whole.trims (length front)
      ≡ start_behind own.mark own.trims (length before)

-- the place in the core's own steps, and in the whole
pub record PlacedOwn (whole own : Course) (z : Step) (front steps : List Step) : Type 0 where
  pub before : List Step
  pub after : List Step
  pub then' : steps ≡ before ++ (z ∷ after)
  pub both : AtBoth whole own front before

pub record PlacedWhole (whole own : Course) (z : Step) (before steps : List Step) : Type 0 where
  pub front : List Step
  pub back : List Step
  pub then' : steps ≡ front ++ (z ∷ back)
  pub both : AtBoth whole own front before

-- Each answer has its place in both. So has each abort of the core's own, but for that of one that
-- got no end: of a read-only one that was committed.
pub record AreJoint (whole own : Course) : Type 0 where
  pub rows : whole.rows ≡ own.rows
  pub mark : whole.mark ≡ own.mark
  pub to_own : (front back : List Step) (t : ℕ) (op : Op) (s : AnswerData)
      → whole.steps ≡ front ++ (Answers t op s ∷ back)
      → PlacedOwn whole own (Answers t op s) front own.steps
  pub to_whole : (before after : List Step) (t : ℕ) (op : Op) (s : AnswerData)
      → own.steps ≡ before ++ (Answers t op s ∷ after)
      → PlacedWhole whole own (Answers t op s) before whole.steps
  pub aborts : (before after : List Step) (t : ℕ) → own.steps ≡ before ++ (Aborts t ∷ after)
      → PlacedWhole whole own (Aborts t) before whole.steps ⊎ NoPrepare t own.steps
  pub now : start_behind whole.mark whole.trims (length whole.steps)
      ≡ start_behind own.mark own.trims (length own.steps)
  pub earlier : AllByRecursion (λ d. d.0 ≤ length whole.steps) whole.trims
  pub earlier_own : AllByRecursion (λ d. d.0 ≤ length own.steps) own.trims

-- the trims of a course after a call
abbrev pub whole_trims_after : Course → WholeCall → Result → List (ℕ × ℕ)
whole_trims_after c BeginReadOnly r = c.trims
whole_trims_after c (CoreCall call) r = trims_after c call r

-- the course after a call, with these steps of it
abbrev pub course_after : Course → List Step → WholeCall → Result → Course
course_after c steps a r = record c {
  steps = c.steps ++ steps;
  trims = whole_trims_after c a r;
}
