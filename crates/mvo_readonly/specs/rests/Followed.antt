-- All that each call keeps of a state with its read-only transactions, after what happened.
use Rattle.std.specs.Prelude.{[]}
use Rattle.std.specs.Prelude.{ℕ}
use Rattle.mvo_types.specs.Keys.{Map}
use Rattle.mvo_theory.specs.rests.Course.{Course}
use Rattle.mvo_theory.specs.rests.Known.{KnowsRests}
use Rattle.mvo_readonly.specs.Whole.{WholeState}
use Rattle.mvo_readonly.specs.WholeKept.{IsWholeKept}
use Rattle.mvo_readonly.specs.BothTraces.{IsMatched, AreGiven, IsRemembered, IsRecalled}
use Rattle.mvo_readonly.specs.WholeCounts.{HasWholeCounts}
use Rattle.mvo_readonly.specs.rests.Joint.{AreJoint}

-- what happened at the opening
abbrev pub opened_course : Map → ℕ → Course
opened_course rows mark = record { rows = rows; mark = mark; steps = []; trims = [] }

-- The state is kept by both traces, these go together, it counts what they say, and its core knows
-- on whom its transactions rest by its own.
pub record IsFollowed (whole own : Course) (w : WholeState) : Type 0 where
  pub kept : IsWholeKept own.rows whole.steps own.steps w
  pub matched : IsMatched whole.steps own.steps w
  pub given : AreGiven own.rows whole.steps own.steps w
  pub remembered : IsRemembered own.rows whole.steps own.steps
  pub recalled : IsRecalled own.rows whole.steps own.steps
  pub counts : HasWholeCounts own.mark whole.steps own.steps w
  pub joint : AreJoint whole own
  pub knows : KnowsRests own w.core
