-- How the whole trace and the core's own go together.
use Rattle.std.specs.Prelude.{ℕ, ◌≡◌, ◌≤◌, ◌<◌, ◌==◌, ◌⊎◌, Bool, true, false, not, List, ◌∷◌, ◌++◌, Some}
use Rattle.std.specs.List.{AllByRecursion, filter, list_any}
use Rattle.mvo_types.specs.declared.row.RowKey.{RowKey}
use Rattle.mvo_types.specs.declared.op.Op.{Op}
use Rattle.mvo_types.specs.Keys.{Map}
use Rattle.mvo_types.specs.AnswerData.{AnswerData}
use Rattle.mvo_model.specs.Trace.{Step, history_of, phase_of}
use Rattle.mvo_model.specs.Trace.Step.{Begins, Answers, Prepares, Checks, Commits, Aborts, Terminates}
use Rattle.mvo_model.specs.Trace.Phase.{Active as IsActive}
use Rattle.mvo_theory.specs.Ranges.{Row}
use Rattle.mvo_theory.specs.Snapshots.{prepares, is_aborted, footprint_in}
use Rattle.mvo_theory.specs.Traced.{puts_row}
use Rattle.mvo_readonly.specs.ReadAt.{WritesNothing}
use Rattle.mvo_readonly.specs.Whole.{ReaderStage, WholeState, stage_of}
use Rattle.mvo_readonly.specs.WholeKept.{IsWholeKept}

-- ---- who got an end
abbrev pub is_prepare_of : ℕ → Step → Bool
is_prepare_of u (Prepares v e) = v == u
is_prepare_of u (Begins v) = false
is_prepare_of u (Answers v op a) = false
is_prepare_of u (Checks v) = false
is_prepare_of u (Commits v e) = false
is_prepare_of u (Aborts v) = false
is_prepare_of u (Terminates v) = false

-- u gets no end in these steps
abbrev pub NoPrepare : ℕ → List Step → Type 0
NoPrepare u zs = AllByRecursion (λ z. is_prepare_of u z ≡ false) zs

-- In the core's own trace a read-only transaction gets no end, nor does one that hasn't begun; and
-- who is aborted there is in the whole trace too, or got no end.
pub record IsMatched (steps own : List Step) (w : WholeState) : Type 0 where
  pub fresh : (u : ℕ) → w.core.clock < u → NoPrepare u own
  pub readers : (u : ℕ) (p : ReaderStage) → stage_of u w.readers ≡ Some p → NoPrepare u own
  pub aborts : (u : ℕ) → is_aborted u own ≡ true → (is_aborted u steps ≡ true) ⊎ NoPrepare u own

-- ---- the ends that were given: those of the others, and each begin of a read-only one
abbrev pub is_others : ℕ × ℕ → Bool
is_others c = not (c.0 == c.1)

pub record IsGiven (steps own : List Step) (w : WholeState) (c : ℕ × ℕ) : Type 0 where
  pub drawn : c.1 ≤ w.core.clock
  pub done : phase_of c.1 steps ≡ IsActive → ⊥
  pub idle : c.0 ≡ c.1 → WritesNothing (history_of c.1 own)

-- The ends of the whole trace are those of the core's own and begins of ones that wrote nothing;
-- who is aborted in the whole trace is in the own; and each has the same footprint in both.
pub record AreGiven (opening : Map) (steps own : List Step) (w : WholeState) : Type 0 where
  pub order : filter is_others (prepares steps) ≡ prepares own
  pub each : AllByRecursion (IsGiven steps own w) (prepares steps)
  pub aborts : (u : ℕ) → is_aborted u steps ≡ true → is_aborted u own ≡ true
  pub prints : (u : ℕ) → footprint_in opening steps u ≡ footprint_in opening own u

-- ---- the place of an answer in the other trace
-- what came before the answer in the whole trace, where this came before it in the core's own
pub record HasWholePlace (opening : Map) (steps before : List Step) (t : ℕ) (op : Op)
    (a : AnswerData) : Type 0 where
  pub front : List Step
  pub back : List Step
  pub state : WholeState
  pub then' : steps ≡ front ++ (Answers t op a ∷ back)
  pub kept : IsWholeKept opening front before state
  pub looks : (p : Row → Bool) (q : RowKey)
      → list_any (puts_row p q) front ≡ list_any (puts_row p q) before

-- each answer of the core's own trace has its place in the whole
pub record IsRemembered (opening : Map) (steps own : List Step) : Type 0 where
  pub looks : (p : Row → Bool) (q : RowKey)
      → list_any (puts_row p q) steps ≡ list_any (puts_row p q) own
  pub at : (before after : List Step) (t : ℕ) (op : Op) (a : AnswerData)
      → own ≡ before ++ (Answers t op a ∷ after) → HasWholePlace opening steps before t op a

-- what came before the answer in the core's own trace, where this came before it in the whole
pub record HasOwnPlace (opening : Map) (own front : List Step) (t : ℕ) (op : Op)
    (a : AnswerData) : Type 0 where
  pub before : List Step
  pub after : List Step
  pub state : WholeState
  pub then' : own ≡ before ++ (Answers t op a ∷ after)
  pub kept : IsWholeKept opening front before state

-- each answer of the whole trace has its place in the core's own
pub record IsRecalled (opening : Map) (steps own : List Step) : Type 0 where
  pub at : (front back : List Step) (t : ℕ) (op : Op) (a : AnswerData)
      → steps ≡ front ++ (Answers t op a ∷ back) → HasOwnPlace opening own front t op a
