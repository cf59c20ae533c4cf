-- The laws of what happened, with read-only transactions: what justifies what a call came to, and
-- on whom the transactions rest, by the whole course.
use Rattle.std.specs.Prelude.{ℕ, ◌≡◌, Option, None, Some, ⊤}
use Rattle.std.specs.List.{AllByRecursion}
use Rattle.mvo_types.specs.Keys.{Map}
use Rattle.mvo_theory.specs.State.{State, StampedTx, ActiveTx, snapshot}
use Rattle.mvo_theory.specs.Causes.{awaited}
use Rattle.mvo_theory.specs.Snapshots.{snapshot_of, HasFootprints}
use Rattle.mvo_theory.specs.Traced.{AreTraced}
use Rattle.mvo_theory.specs.Claimed.{AreClaimed}
use Rattle.mvo_theory.specs.Justified.{IsJustified}
use Rattle.mvo_theory.specs.Calls.{Call, Result, trace_of}
use Rattle.mvo_theory.specs.Calls.Call.{Begin, Settle}
use Rattle.mvo_theory.specs.Calls.Result.{Accepted}
use Rattle.mvo_theory.specs.rests.Course.{Course}
use Rattle.mvo_theory.specs.rests.Laws.{TellsRests, TellsSettling}
use Rattle.mvo_readonly.specs.Whole.{ReaderStage, WholeState, opened_whole, stage_of, id_named, stage_named}
use Rattle.mvo_readonly.specs.WholeCauses.{WholeCall, MayComeWhole, awaited_by_reader}
use Rattle.mvo_readonly.specs.WholeCauses.WholeCall.{CoreCall, BeginReadOnly}
use Rattle.mvo_readonly.specs.WholeCalls.{core_calls, steps_of_whole_call, after_whole_call}
use Rattle.mvo_readonly.specs.WholeJustified.{IsReaderJustified}
use Rattle.mvo_readonly.specs.rests.Joint.{course_after}
use Rattle.mvo_readonly.specs.rests.Followed.{opened_course, IsFollowed}

-- ---- what justifies what a call came to
-- of a call of a read-only transaction its own causes do, of another the causes of a core
abbrev pub IsJustifiedAtStage : Course → Call → Result → Option ReaderStage → Type 0
IsJustifiedAtStage c call r None = IsJustified c.rows c.mark c.steps call r
IsJustifiedAtStage c call r (Some p) = IsReaderJustified c.rows c.steps call r

abbrev pub IsWholeJustified : WholeState → Course → WholeCall → Result → Type 0
IsWholeJustified w c BeginReadOnly r = IsJustified c.rows c.mark c.steps Begin r
IsWholeJustified w c (CoreCall call) r =
    IsJustifiedAtStage c call r (stage_named w.readers (id_named call))

-- What a call may come to, in a state after what happened, is justified by the whole trace.
abbrev pub WholeTraceJustifies : Type 0
WholeTraceJustifies = (whole own : Course) (w : WholeState) (c : WholeCall) (r : Result)
    → IsFollowed whole own w → MayComeWhole w c r → IsWholeJustified w whole c r

-- What an Active transaction sees, a read-only one too, is read off the whole trace.
abbrev pub SnapshotsAreWhole : Type 0
SnapshotsAreWhole = (whole own : Course) (w : WholeState) → IsFollowed whole own w
    → AllByRecursion
    (λ (r : ActiveTx). snapshot w.core r.id ≡ snapshot_of own.rows whole.steps r.id) w.core.active

-- What the core keeps of dependencies, flags, claims and footprints is what the whole trace says.
abbrev pub CoreIsTraced : Type 0
CoreIsTraced = (whole own : Course) (w : WholeState) → IsFollowed whole own w
    → AreTraced own.rows whole.steps w.core × AreClaimed whole.steps w.core
    × HasFootprints own.rows whole.steps w.core

-- ---- on whom a transaction rests
abbrev pub TellsWholeRests : Course → WholeCall → Result → Type 0
TellsWholeRests c BeginReadOnly r = ⊤
TellsWholeRests c (CoreCall call) r = TellsRests c call r

-- What a call may come to tells on whom its transaction rests, by the whole course:
-- DependencyAborted names the first of them that was aborted, and comes where one was.
abbrev pub EachWholeCallTells : Type 0
EachWholeCallTells = (whole own : Course) (w : WholeState) (c : WholeCall) (r : Result)
    → IsFollowed whole own w → MayComeWhole w c r → TellsWholeRests whole c r

-- for whom a transaction waits, by whether it is read-only
abbrev pub awaited_at_stage : State → ℕ → Option ReaderStage → Option StampedTx
awaited_at_stage s t None = awaited s t
awaited_at_stage s t (Some p) = awaited_by_reader s t

-- A settling that isn't refused tells that too, by whom it waits for.
abbrev pub EachWholeSettlingTells : Type 0
EachWholeSettlingTells = (whole own : Course) (w : WholeState) (t : ℕ)
    → IsFollowed whole own w → MayComeWhole w (CoreCall (Settle t)) Accepted
    → TellsSettling whole t (awaited_at_stage w.core t (stage_of t w.readers))

-- ---- what is kept of both courses
-- A state that was just opened is followed by both courses, and so it is after each call.
abbrev pub OpensFollowed : Type 0
OpensFollowed = (rows : Map) (mark : ℕ)
    → IsFollowed (opened_course rows mark) (opened_course rows mark) (opened_whole rows mark)

abbrev pub EachWholeCallFollows : Type 0
EachWholeCallFollows = (whole own : Course) (w : WholeState) (c : WholeCall) (r : Result)
    → MayComeWhole w c r → IsFollowed whole own w
    → IsFollowed (course_after whole (steps_of_whole_call w c r) c r)
    (course_after own (trace_of w.core (core_calls w c r)) c r) (after_whole_call w c r)
