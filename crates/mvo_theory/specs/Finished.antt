-- How many calls finishing takes.
use Rattle.std.specs.Prelude.{ℕ, ◌+◌, ◌<◌, ◌==◌, Bool, false, if◌then◌else◌, max, [], ◌∷◌}
use Rattle.mvo_types.specs.Keys.{Map}
use Rattle.mvo_model.specs.Trace.{history_of}
use Rattle.mvo_theory.specs.State.{State, opened}
use Rattle.mvo_theory.specs.Words.{is_done, word_count}
use Rattle.mvo_theory.specs.Calls.{Call, Result, Run, after_call, MayRun, trace_of}
use Rattle.mvo_theory.specs.Calls.Call.{Finish}
use Rattle.mvo_theory.specs.Calls.Result.{Accepted}

-- whether the call is one of finishing of t that was answered
abbrev pub is_finish_of : ℕ → Call → Result → Bool
is_finish_of t (Finish u) Accepted = u == t
is_finish_of t call result = false

-- how many such calls are answered More, up to the first that is answered Done
abbrev pub mores_before : ℕ → State → Run → ℕ
mores_before t s [] = 0
mores_before t s (c ∷ cs) =
    if is_finish_of t c.0 c.1
    then (if is_done s t then 0 else mores_before t (after_call s c.0 c.1) cs + 1)
    else mores_before t (after_call s c.0 c.1) cs

-- Done comes by the n-th call of finishing of t: n is one for each Inserted or Deleted that t was
-- answered and two for each Updated, and at least 1
abbrev pub FinishingEnds : Type 0
FinishingEnds = (rows : Map) (mark : ℕ) (run : Run) (t : ℕ) → MayRun (opened rows mark) run
    → let n = max 1 (word_count (history_of t (trace_of (opened rows mark) run)))
    in mores_before t (opened rows mark) run < n
