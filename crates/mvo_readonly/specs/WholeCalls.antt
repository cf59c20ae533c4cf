-- What a call is to the core of the others, what it leaves of the read-only transactions, and what
-- it is in the whole trace; and lists of calls.
use Rattle.std.specs.Prelude.{ℕ, ◌+◌, ◌==◌, nat_le, false, not, if◌then◌else◌, List, [], ◌∷◌, ◌++◌, length, map, filter, Option, None, Some, ⊤}
use Rattle.mvo_types.specs.declared.refusal.Refusal.{Refusal}
use Rattle.mvo_model.specs.Trace.{Step}
use Rattle.mvo_model.specs.Trace.Step.{Prepares, Checks, Commits}
use Rattle.mvo_theory.specs.Entries.{entries}
use Rattle.mvo_theory.specs.State.{State, StampedTx, history_of_active}
use Rattle.mvo_theory.specs.Causes.{is_failure}
use Rattle.mvo_theory.specs.Words.{is_done}
use Rattle.mvo_theory.specs.Calls.{Call, Result, Run, after_run, steps_of, trace_of}
use Rattle.mvo_theory.specs.Calls.Call.{Begin, Do, Precommit, Validate, Settle, Rollback, Finish, Trim}
use Rattle.mvo_theory.specs.Calls.Result.{Accepted, Refused}
use Rattle.mvo_readonly.specs.Whole.{ReaderStage, UnfinishedReader, CommittedReader, WholeState, id_named, stage_named}
use Rattle.mvo_readonly.specs.Whole.ReaderStage.{Reading, Preparing, Committed, Aborted}
use Rattle.mvo_readonly.specs.WholeCauses.{WholeCall, MayComeWhole, awaited_by_reader}
use Rattle.mvo_readonly.specs.WholeCauses.WholeCall.{CoreCall, BeginReadOnly}

-- ---- what the core of the others is called with
-- a read-only transaction that commits, or fails, is rolled back there: it wrote nothing
abbrev pub rolled_back : ℕ → Run
rolled_back t = (Rollback t, Accepted) ∷ []

-- it commits, unless it waits
abbrev pub unless_awaited : ℕ → Option StampedTx → Run
unless_awaited t (Some x) = []
unless_awaited t None = rolled_back t

-- a precommit and a check of a read-only one are none of the core's calls
abbrev pub core_accepted : State → Call → Run
core_accepted s (Precommit t) = []
core_accepted s (Validate t) = []
core_accepted s (Settle t) = unless_awaited t (awaited_by_reader s t)
core_accepted s c = (c, Accepted) ∷ []

abbrev pub core_failed : ℕ → Refusal → Run
core_failed t r = if is_failure r then rolled_back t else []

abbrev pub core_refused : Call → Refusal → Run
core_refused (Do t op) r = core_failed t r
core_refused (Precommit t) r = core_failed t r
core_refused (Validate t) r = core_failed t r
core_refused (Settle t) r = core_failed t r
core_refused c r = []

abbrev pub core_reader : State → Call → Result → Run
core_reader s c Accepted = core_accepted s c
core_reader s c (Refused r) = core_refused c r

-- a trim that is refused for a read-only transaction's sake is none of the core's calls
abbrev pub core_other : Call → Result → Run
core_other (Trim m) (Refused r) = []
core_other c r = (c, r) ∷ []

abbrev pub core_at_stage : State → Call → Result → Option ReaderStage → Run
core_at_stage s c r None = core_other c r
core_at_stage s c r (Some p) = core_reader s c r

-- none, or one
abbrev pub core_calls : WholeState → WholeCall → Result → Run
core_calls w BeginReadOnly r = (Begin, r) ∷ []
core_calls w (CoreCall c) r = core_at_stage w.core c r (stage_named w.readers (id_named c))

-- ---- what a call leaves of the read-only transactions
abbrev pub with_stage : ℕ → ReaderStage → List UnfinishedReader → List UnfinishedReader
with_stage t p rs =
    map {A = UnfinishedReader} (λ r. record r { stage = if r.id == t then p else r.stage }) rs

abbrev pub without_reader : ℕ → List UnfinishedReader → List UnfinishedReader
without_reader t rs = filter (λ r. not (r.id == t)) rs

-- one more entry was checked
abbrev pub checked_more : State → ℕ → ReaderStage → ReaderStage
checked_more s t (Preparing n v) =
    if v then Preparing n v
    else Preparing (n + 1) (nat_le (length (entries (history_of_active t s.active))) (n + 1))
checked_more s t p = p

abbrev pub settled_unless : ℕ → List UnfinishedReader → Option StampedTx → List UnfinishedReader
settled_unless t rs (Some x) = rs
settled_unless t rs None = with_stage t Committed rs

abbrev pub readers_accepted :
    State → ReaderStage → Call → List UnfinishedReader → List UnfinishedReader
readers_accepted s p (Precommit t) rs = with_stage t (Preparing 0 false) rs
readers_accepted s p (Validate t) rs = with_stage t (checked_more s t p) rs
readers_accepted s p (Settle t) rs = settled_unless t rs (awaited_by_reader s t)
readers_accepted s p (Rollback t) rs = with_stage t Aborted rs
readers_accepted s p (Finish t) rs = if is_done s t then without_reader t rs else rs
readers_accepted s p c rs = rs

abbrev pub readers_failed : ℕ → Refusal → List UnfinishedReader → List UnfinishedReader
readers_failed t r rs = if is_failure r then with_stage t Aborted rs else rs

abbrev pub readers_refused : Call → Refusal → List UnfinishedReader → List UnfinishedReader
readers_refused (Do t op) r rs = readers_failed t r rs
readers_refused (Precommit t) r rs = readers_failed t r rs
readers_refused (Validate t) r rs = readers_failed t r rs
readers_refused (Settle t) r rs = readers_failed t r rs
readers_refused c r rs = rs

-- of a call of a read-only one
abbrev pub readers_reader :
    State → ReaderStage → Call → Result → List UnfinishedReader → List UnfinishedReader
readers_reader s p c Accepted rs = readers_accepted s p c rs
readers_reader s p c (Refused r) rs = readers_refused c r rs

abbrev pub readers_at_stage :
    State → Call → Result → Option ReaderStage → List UnfinishedReader → List UnfinishedReader
readers_at_stage s c r None rs = rs
readers_at_stage s c r (Some p) rs = readers_reader s p c r rs

-- the unfinished read-only ones after a call
abbrev pub readers_after : WholeState → WholeCall → Result → List UnfinishedReader
readers_after w BeginReadOnly Accepted =
    w.readers ++ (record { id = w.core.clock + 1; stage = Reading }) ∷ []
readers_after w BeginReadOnly (Refused r) = w.readers
readers_after w (CoreCall c) r =
    readers_at_stage w.core c r (stage_named w.readers (id_named c)) w.readers

abbrev pub committed_unless :
    State → ℕ → List CommittedReader → Option StampedTx → List CommittedReader
committed_unless s t ys (Some x) = ys
committed_unless s t ys None =
    ys ++ (record { id = t; history = history_of_active t s.active }) ∷ []

abbrev pub committed_accepted : State → Call → List CommittedReader → List CommittedReader
committed_accepted s (Settle t) ys = committed_unless s t ys (awaited_by_reader s t)
committed_accepted s c ys = ys

abbrev pub committed_by_reader :
    State → Call → Result → List CommittedReader → List CommittedReader
committed_by_reader s c Accepted ys = committed_accepted s c ys
committed_by_reader s c (Refused r) ys = ys

abbrev pub committed_at_stage :
    State → Call → Result → Option ReaderStage → List CommittedReader → List CommittedReader
committed_at_stage s c r None ys = ys
committed_at_stage s c r (Some p) ys = committed_by_reader s c r ys

-- the committed ones after a call
abbrev pub committed_after : WholeState → WholeCall → Result → List CommittedReader
committed_after w BeginReadOnly r = w.committed_readers
committed_after w (CoreCall c) r =
    committed_at_stage w.core c r (stage_named w.readers (id_named c)) w.committed_readers

abbrev pub after_whole_call : WholeState → WholeCall → Result → WholeState
after_whole_call w a r = record {
  core = after_run w.core (core_calls w a r);
  readers = readers_after w a r;
  committed_readers = committed_after w a r;
}

-- ---- what a call is in the whole trace
-- the end of a read-only one is its begin
abbrev pub commits_unless : ℕ → Option StampedTx → List Step
commits_unless t (Some x) = []
commits_unless t None = Commits t t ∷ []

abbrev pub reader_steps_accepted : State → Call → List Step
reader_steps_accepted s (Precommit t) = Prepares t t ∷ []
reader_steps_accepted s (Validate t) = Checks t ∷ []
reader_steps_accepted s (Settle t) = commits_unless t (awaited_by_reader s t)
reader_steps_accepted s c = steps_of s c Accepted

abbrev pub reader_steps : State → Call → Result → List Step
reader_steps s c Accepted = reader_steps_accepted s c
reader_steps s c (Refused r) = steps_of s c (Refused r)

abbrev pub steps_at_stage : State → Call → Result → Option ReaderStage → List Step
steps_at_stage s c r None = steps_of s c r
steps_at_stage s c r (Some p) = reader_steps s c r

abbrev pub steps_of_whole_call : WholeState → WholeCall → Result → List Step
steps_of_whole_call w BeginReadOnly r = steps_of w.core Begin r
steps_of_whole_call w (CoreCall c) r =
    steps_at_stage w.core c r (stage_named w.readers (id_named c))

-- ---- lists of calls, each with what it came to
abbrev pub WholeRun : Type 0
WholeRun = List (WholeCall × Result)

-- each call may come to what it came to
abbrev pub MayRunWhole : WholeState → WholeRun → Type 0
MayRunWhole w [] = ⊤
MayRunWhole w (a ∷ rest) = MayComeWhole w a.0 a.1 × MayRunWhole (after_whole_call w a.0 a.1) rest

-- the state after the calls, and the whole trace of them
abbrev pub after_whole_run : WholeState → WholeRun → WholeState
after_whole_run w [] = w
after_whole_run w (a ∷ rest) = after_whole_run (after_whole_call w a.0 a.1) rest

abbrev pub whole_trace : WholeState → WholeRun → List Step
whole_trace w [] = []
whole_trace w (a ∷ rest) =
    steps_of_whole_call w a.0 a.1 ++ whole_trace (after_whole_call w a.0 a.1) rest

-- ---- the core of the others, beside the read-only ones
-- its calls
abbrev pub core_run : WholeState → WholeRun → Run
core_run w [] = []
core_run w (a ∷ rest) = core_calls w a.0 a.1 ++ core_run (after_whole_call w a.0 a.1) rest

-- its own trace
abbrev pub own_trace : WholeState → WholeRun → List Step
own_trace w [] = []
own_trace w (a ∷ rest) =
    trace_of w.core (core_calls w a.0 a.1) ++ own_trace (after_whole_call w a.0 a.1) rest
