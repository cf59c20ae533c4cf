-- The laws of read-only transactions: of replies, of the stored commits, and of calls.
use Rattle.std.specs.Prelude.{ℕ, ◌≡◌, nat_lt, true, is_some, List, [], ◌++◌, map, filter, sum_by}
use Rattle.std.specs.List.{AllByRecursion}
use Rattle.mvo_types.specs.Keys.{Map}
use Rattle.mvo_model.specs.History.{AreSerial, Legal, after_histories}
use Rattle.mvo_model.specs.Trace.{Step, history_of, committed, phase_of, rows_up_to, IsSerial, commits}
use Rattle.mvo_theory.specs.State.{after_settled, timeline}
use Rattle.mvo_theory.specs.AfterTrace.{pairs}
use Rattle.mvo_theory.specs.Causes.{is_trim}
use Rattle.mvo_theory.specs.Groups.{AreGroupsOf}
use Rattle.mvo_theory.specs.Marks.{StaysBelow}
use Rattle.mvo_theory.specs.Calls.{Result, MayRun, after_run, groups_of, trace_of}
use Rattle.mvo_readonly.specs.Whole.{WholeState, opened_whole, stage_of, phase_in_whole}
use Rattle.mvo_readonly.specs.WholeCauses.{WholeCall, MayComeWhole, has_reader_to, IsWholeCallInOrder}
use Rattle.mvo_readonly.specs.WholeCalls.{core_calls, steps_of_whole_call, after_whole_call, WholeRun, MayRunWhole, after_whole_run, whole_trace, core_run}
use Rattle.mvo_readonly.specs.WholeKept.{IsWholeKept}
use Rattle.mvo_readonly.specs.WholeTale.{whole_tale, told_in, is_in_group, weight_above}

-- ---- replies
-- For every list of calls the answers of the committed transactions are those of one map that runs
-- them one after another by end timestamp, a read-only one's being its begin.
abbrev pub RepliesAreSerial : Type 0
RepliesAreSerial = (rows : Map) (mark : ℕ) (run : WholeRun)
    → MayRunWhole (opened_whole rows mark) run
    → IsSerial rows (whole_trace (opened_whole rows mark) run)

-- What a committed read-only transaction was told is what the rows answer that all commits below
-- its begin leave.
abbrev pub ReadsAtBegin : Type 0
ReadsAtBegin = (opening : Map) (steps own : List Step) (w : WholeState)
    → IsWholeKept opening steps own w
    → AllByRecursion
    (λ y. AreSerial (history_of y.id steps)
    (after_histories
    (map (told_in steps) (filter (λ c. nat_lt c.0 y.id) (committed steps))) opening))
    w.committed_readers

-- The rows up to a mark are those that the others leave.
abbrev pub MarkedRowsAreOthers : Type 0
MarkedRowsAreOthers = (opening : Map) (steps own : List Step) (w : WholeState) (m : ℕ)
    → IsWholeKept opening steps own w → rows_up_to m opening steps ≡ rows_up_to m opening own

-- ---- the stored commits
-- The stored commits, with the read-only ones at their begins, are legal from the rows at the
-- start.
abbrev pub WholeTaleIsLegal : Type 0
WholeTaleIsLegal = (opening : Map) (steps own : List Step) (w : WholeState)
    → IsWholeKept opening steps own w → Legal w.core.base (map (told_in steps) (whole_tale w))

-- The stored commits, read-only ones among them, leave the rows that the others leave.
abbrev pub TaleLeavesRows : Type 0
TaleLeavesRows = (opening : Map) (steps own : List Step) (w : WholeState)
    → IsWholeKept opening steps own w
    → after_histories (map (told_in steps) (whole_tale w)) w.core.base
    ≡ after_settled w.core.stamped w.core.base

-- A group takes just what it takes without the read-only ones.
abbrev pub GroupsAreOthers : Type 0
GroupsAreOthers = (opening : Map) (steps own : List Step) (w : WholeState) (prev m : ℕ)
    → IsWholeKept opening steps own w
    → filter (is_in_group steps prev m) (committed steps)
    ≡ filter (is_in_group steps prev m) (pairs (timeline w.core))

-- Each commit that ends above the start is stored once: whatever is weighed, the stored ones weigh
-- what those of the trace weigh.
abbrev pub TaleWeighs : Type 0
TaleWeighs = (opening : Map) (steps own : List Step) (w : WholeState) (weight : ℕ × ℕ → ℕ)
    → IsWholeKept opening steps own w
    → sum_by weight (whole_tale w) ≡ sum_by (weight_above w.core.start weight) (commits steps)

-- Where the others let a trim up to m pass, a read-only transaction stands in the way exactly where
-- m is the id of an unfinished one.
abbrev pub TrimIsLookedUp : Type 0
TrimIsLookedUp = (opening : Map) (steps own : List Step) (w : WholeState) (m : ℕ)
    → IsWholeKept opening steps own w → is_trim w.core m ≡ true
    → has_reader_to m w.readers ≡ is_some (stage_of m w.readers)

-- ---- calls
-- A state that was just opened stands as both traces say, and so it does after each call.
abbrev pub OpensWhole : Type 0
OpensWhole = (rows : Map) (mark : ℕ) → IsWholeKept rows [] [] (opened_whole rows mark)

abbrev pub EachCallKeepsWhole : Type 0
EachCallKeepsWhole = (opening : Map) (steps own : List Step) (w : WholeState)
    (c : WholeCall) (r : Result)
    → MayComeWhole w c r → IsWholeKept opening steps own w
    → IsWholeKept opening (steps ++ steps_of_whole_call w c r)
    (own ++ trace_of w.core (core_calls w c r)) (after_whole_call w c r)

-- Each transaction stands where the whole trace says.
abbrev pub WholePhasesAreTraced : Type 0
WholePhasesAreTraced = (opening : Map) (steps own : List Step) (w : WholeState) (t : ℕ)
    → IsWholeKept opening steps own w → phase_of t steps ≡ phase_in_whole w t

-- The core of the others goes by calls that it may come to: what holds of its runs holds of it.
abbrev pub CoreGoesByRun : Type 0
CoreGoesByRun = (rows : Map) (mark : ℕ) (run : WholeRun) → MayRunWhole (opened_whole rows mark) run
    → let w = opened_whole rows mark in let cs = core_run w run
    in MayRun w.core cs × ((after_whole_run w run).core ≡ after_run w.core cs)
    × AreGroupsOf (after_whole_run w run).core mark (groups_of cs)

-- What the others committed up to a closed mark stays, whatever read-only transactions do.
abbrev pub CoreStaysBelow : Type 0
CoreStaysBelow = (opening : Map) (steps own : List Step) (w : WholeState) (run : WholeRun)
    → MayRunWhole w run → IsWholeKept opening steps own w
    → StaysBelow w.core (after_whole_run w run).core

-- Each call comes to something.
abbrev pub EachCallComes : Type 0
EachCallComes = (w : WholeState) (c : WholeCall)
    → IsWholeCallInOrder w c → (r : Result) × MayComeWhole w c r
