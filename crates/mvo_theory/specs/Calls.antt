-- The calls, what they may be answered with, what they leave, and what they are in the trace.
use Rattle.std.specs.Prelude.{ℕ, ◌≡◌, ◌+◌, Bool, true, false, if◌then◌else◌, List, [], ◌∷◌, ◌++◌, Option, None, Some, ⊤}
use Rattle.mvo_types.specs.declared.op.Op.{Op}
use Rattle.mvo_types.specs.declared.refusal.Refusal.{Refusal}
use Rattle.mvo_types.specs.declared.refusal.Refusal.TheVariants.{OutOfMemory}
use Rattle.mvo_types.specs.Keys.{Map}
use Rattle.mvo_types.specs.AnswerData.{AnswerData}
use Rattle.mvo_model.specs.Serial.{answer_to}
use Rattle.mvo_model.specs.Trace.{Step}
use Rattle.mvo_model.specs.Trace.Step.{Begins, Answers, Prepares, Checks, Commits, Aborts, Terminates}
use Rattle.mvo_theory.specs.State.{State, StampedTx, snapshot}
use Rattle.mvo_theory.specs.Changes.{after_begin, after_answer, after_finish, after_trim, after_close}
use Rattle.mvo_theory.specs.Words.{is_done}
use Rattle.mvo_theory.specs.Causes.{why_not_begin, why_not_do, why_not_precommit, why_not_validate, why_not_settle, why_not_rollback, why_not_finish, why_not_trim, why_not_close, end_of, awaited}
use Rattle.mvo_theory.specs.Groups.{Limits, Group, IsNextGroup}
use Rattle.mvo_theory.specs.Steps.{after_precommit, after_validate, after_settle, after_abort, after_refusal, steps_of_refusal}
use Rattle.mvo_theory.specs.Sound.{IsSound, IsNumbered, IsSingle, IsStarted, AreExclusive}
use Rattle.mvo_theory.specs.AfterTrace.{IsAfterTrace}
use Rattle.mvo_theory.specs.Traced.{AreTraced}
use Rattle.mvo_theory.specs.Claimed.{AreClaimed}
use Rattle.mvo_theory.specs.Origins.{HasOrigins}
use Rattle.mvo_theory.specs.Snapshots.{HasEnds, HasFootprints}

pub data Call : Type 0 where
  Begin : Call
  Do : (t : ℕ) (op : Op) → Call
  Precommit : (t : ℕ) → Call
  Validate : (t : ℕ) → Call
  Settle : (t : ℕ) → Call
  Rollback : (t : ℕ) → Call
  Finish : (t : ℕ) → Call
  Trim : (upto : ℕ) → Call
  Close : (fits : Limits) (g : Group) (full : Bool) → Call  -- whether the ring of groups is full

-- the first refusal of the call's list whose test stands
abbrev pub why_not : State → Call → Option Refusal
why_not s Begin = why_not_begin s
why_not s (Do t op) = why_not_do s t op
why_not s (Precommit t) = why_not_precommit s t
why_not s (Validate t) = why_not_validate s t
why_not s (Settle t) = why_not_settle s t
why_not s (Rollback t) = why_not_rollback s t
why_not s (Finish t) = why_not_finish s t
why_not s (Trim m) = why_not_trim s m
why_not s (Close fits g full) = why_not_close s full

-- ---- out of memory
-- whether the call may need memory. A check needs none; what settle, rollback and finish need was
-- taken before
abbrev pub takes_memory : Call → Bool
takes_memory (Validate t) = false
takes_memory (Settle t) = false
takes_memory (Rollback t) = false
takes_memory (Finish t) = false
takes_memory c = true

-- what a call may be refused with: the first cause that stands; and where none does, out of memory,
-- if the call takes memory
abbrev pub IsRefusal : Bool → Option Refusal → Refusal → Type 0
IsRefusal takes (Some why) r = r ≡ why
IsRefusal true None r = r ≡ OutOfMemory
IsRefusal false None r = ⊥

-- what a call came to
pub data Result : Type 0 where
  Accepted : Result
  Refused : Refusal → Result

-- a group that is closed is the next one
abbrev pub IsCallInOrder : State → Call → Type 0
IsCallInOrder s (Close fits g full) = IsNextGroup fits s g
IsCallInOrder s c = ⊤

-- what a call may come to
abbrev pub MayCome : State → Call → Result → Type 0
MayCome s c Accepted = (why_not s c ≡ None) × IsCallInOrder s c
MayCome s c (Refused r) = IsRefusal (takes_memory c) (why_not s c) r

-- ---- what a call leaves
-- the answer to an operation of the transaction t
abbrev pub answer_in : State → ℕ → Op → AnswerData
answer_in s t op = answer_to op (snapshot s t)

abbrev pub after_accepted : State → Call → State
after_accepted s Begin = after_begin s (s.clock + 1)
after_accepted s (Do t op) = after_answer s t op (answer_in s t op)
after_accepted s (Precommit t) = after_precommit s t
after_accepted s (Validate t) = after_validate s t
after_accepted s (Settle t) = after_settle s t
after_accepted s (Rollback t) = after_abort s t
after_accepted s (Finish t) = after_finish s t
after_accepted s (Trim m) = after_trim s m
after_accepted s (Close fits g full) = after_close s g.mark

abbrev pub after_refused : State → Call → Refusal → State
after_refused s Begin r = s
after_refused s (Do t op) r = after_refusal s t r
after_refused s (Precommit t) r = after_refusal s t r
after_refused s (Validate t) r = after_refusal s t r
after_refused s (Settle t) r = after_refusal s t r
after_refused s (Rollback t) r = s
after_refused s (Finish t) r = s
after_refused s (Trim m) r = s
after_refused s (Close fits g full) r = s

abbrev pub after_call : State → Call → Result → State
after_call s c Accepted = after_accepted s c
after_call s c (Refused r) = after_refused s c r

-- ---- what a call is in the trace
abbrev pub steps_unless : ℕ → ℕ → Option StampedTx → List Step
steps_unless t e (Some x) = []
steps_unless t e None = Commits t e ∷ []

abbrev pub steps_of_accepted : State → Call → List Step
steps_of_accepted s Begin = Begins (s.clock + 1) ∷ []
steps_of_accepted s (Do t op) = Answers t op (answer_in s t op) ∷ []
steps_of_accepted s (Precommit t) = Prepares t (s.clock + 1) ∷ []
steps_of_accepted s (Validate t) = Checks t ∷ []
steps_of_accepted s (Settle t) = steps_unless t (end_of s t) (awaited s t)
steps_of_accepted s (Rollback t) = Aborts t ∷ []
steps_of_accepted s (Finish t) = if is_done s t then Terminates t ∷ [] else []
steps_of_accepted s (Trim m) = []
steps_of_accepted s (Close fits g full) = []

abbrev pub steps_of_refused : Call → Refusal → List Step
steps_of_refused Begin r = []
steps_of_refused (Do t op) r = steps_of_refusal t r
steps_of_refused (Precommit t) r = steps_of_refusal t r
steps_of_refused (Validate t) r = steps_of_refusal t r
steps_of_refused (Settle t) r = steps_of_refusal t r
steps_of_refused (Rollback t) r = []
steps_of_refused (Finish t) r = []
steps_of_refused (Trim m) r = []
steps_of_refused (Close fits g full) r = []

abbrev pub steps_of : State → Call → Result → List Step
steps_of s c Accepted = steps_of_accepted s c
steps_of s c (Refused r) = steps_of_refused c r

-- ---- lists of calls, each with what it came to
abbrev pub Run : Type 0
Run = List (Call × Result)

-- each call may come to what it came to
abbrev pub MayRun : State → Run → Type 0
MayRun s [] = ⊤
MayRun s (c ∷ cs) = MayCome s c.0 c.1 × MayRun (after_call s c.0 c.1) cs

-- the state after the calls, and their trace
abbrev pub after_run : State → Run → State
after_run s [] = s
after_run s (c ∷ cs) = after_run (after_call s c.0 c.1) cs

abbrev pub trace_of : State → Run → List Step
trace_of s [] = []
trace_of s (c ∷ cs) = steps_of s c.0 c.1 ++ trace_of (after_call s c.0 c.1) cs

-- the groups that the calls closed
abbrev pub groups_closed_by : Call → Result → List Group
groups_closed_by (Close fits g full) Accepted = g ∷ []
groups_closed_by c r = []

abbrev pub groups_of : Run → List Group
groups_of [] = []
groups_of (c ∷ cs) = groups_closed_by c.0 c.1 ++ groups_of cs

-- ---- what each call keeps of a state after the trace since the opening
pub record IsKept (opening : Map) (steps : List Step) (s : State) : Type 0 where
  pub sound : IsSound s
  pub numbered : IsNumbered s
  pub single : IsSingle s
  pub exclusive : AreExclusive s
  pub started : IsStarted s
  pub after_trace : IsAfterTrace opening steps s
  pub traced : AreTraced opening steps s
  pub claimed : AreClaimed steps s
  pub has_ends : HasEnds steps s
  pub prints : HasFootprints opening steps s
  pub origins : HasOrigins s
