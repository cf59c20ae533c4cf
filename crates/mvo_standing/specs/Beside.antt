-- Works that go on beside a state, on a core that is given them.
use Rattle.std.specs.Prelude.{ℕ, ◌≡◌, ◌≢◌, ◌<◌, ◌++◌, List, []}
use Rattle.std.specs.List.{AllByRecursion}
use Rattle.mvo_types.specs.declared.op.Op.{Op}
use Rattle.mvo_types.specs.RowData.{RowData}
use Rattle.mvo_types.specs.Keys.{Map}
use Rattle.mvo_model.specs.Trace.{Step}
use Rattle.mvo_theory.specs.State.{State, opened}
use Rattle.mvo_theory.specs.Calls.{Call, Result, MayCome, after_call, steps_of}
use Rattle.mvo_theory.specs.Calls.Call.{Begin, Do}
use Rattle.mvo_theory.specs.Calls.Result.{Accepted}
use Rattle.mvo_shared.specs.Kept.{after_op}
use Rattle.mvo_shared.specs.Shared.{WorksById}
use Rattle.mvo_shared.specs.Given.{GivenState}
use Rattle.mvo_shared.specs.Held.{empty_work, works_after}
use Rattle.mvo_shadow.specs.Shadowed.{IsByWrites, shadow_call, shadow_result}
use Rattle.mvo_standing.specs.Together.{StandTogether}
use Rattle.mvo_standing.specs.Telling.{MayComeWith, AreWorksWith}

-- some core that is given works, which were all made on it, stands with the state; and who hasn't
-- begun has done nothing
pub record WorksGoBeside (opening : Map) (steps : List Step) (s : State)
    (works : WorksById) : Type 0 where
  pub given : GivenState
  pub together : StandTogether opening steps s given works
  pub fresh : (t : ℕ) → s.clock < t → works t ≡ empty_work

-- From the opening on they go beside, where nobody has done anything;
abbrev pub WorksOpenBeside : Type 0
WorksOpenBeside = (rows : Map) (mark : ℕ)
    → WorksGoBeside rows [] (opened rows mark) (λ t. empty_work)

-- the call leaves all works as they are
abbrev pub LeavesWorks : Call → Result → Type 0
LeavesWorks call r = (g : GivenState) (works : WorksById)
    → works_after g works (shadow_call call) (shadow_result r) ≡ works

-- over a call that leaves them as they are;
abbrev pub WorksStayBeside : Type 0
WorksStayBeside = (opening : Map) (steps : List Step) (s : State) (works : WorksById)
    (call : Call) (r : Result) → WorksGoBeside opening steps s works → IsByWrites call
    → MayCome s call r → LeavesWorks call r
    → WorksGoBeside opening (steps ++ steps_of s call r) (after_call s call r) works

-- over a begin, at which nothing has to be done;
abbrev pub WorksBeginBeside : Type 0
WorksBeginBeside = (opening : Map) (steps : List Step) (s : State) (works : WorksById)
    → WorksGoBeside opening steps s works → MayCome s Begin Accepted
    → WorksGoBeside opening (steps ++ steps_of s Begin Accepted) (after_call s Begin Accepted) works

-- with these rows the work of t was told the operation
pub record WasTold (s : State) (works : WorksById) (t : ℕ) (op : Op)
    (more : WorksById) : Type 0 where
  pub rows : List RowData
  pub come : MayComeWith s t (works t) op rows
  pub told : AreWorksWith works t (after_op (works t) op rows) more

-- over an operation that its work was told;
abbrev pub WorksToldBeside : Type 0
WorksToldBeside = (opening : Map) (steps : List Step) (s : State) (works : WorksById) (t : ℕ)
    (op : Op) (more : WorksById) → WorksGoBeside opening steps s works
    → MayCome s (Do t op) Accepted → WasTold s works t op more
    → WorksGoBeside opening (steps ++ steps_of s (Do t op) Accepted)
    (after_call s (Do t op) Accepted) more

-- and where the work of one that isn't Active is forgotten.
abbrev pub WorksForgottenBeside : Type 0
WorksForgottenBeside = (opening : Map) (steps : List Step) (s : State) (works : WorksById)
    (t : ℕ) (more : WorksById) → WorksGoBeside opening steps s works
    → AllByRecursion (λ r. r.id ≢ t) s.active → AreWorksWith works t empty_work more
    → WorksGoBeside opening steps s more
