-- The laws of the causes.
use Rattle.std.specs.Prelude.{ℕ, List, ◌++◌, []}
use Rattle.mvo_types.specs.Keys.{Map}
use Rattle.mvo_model.specs.Trace.{Step}
use Rattle.mvo_theory.specs.State.{State, opened}
use Rattle.mvo_theory.specs.Calls.{Call, Result, MayCome, after_call, steps_of, IsKept}
use Rattle.mvo_theory.specs.Counted.{HasCounts}
use Rattle.mvo_theory.specs.Justified.{IsJustified}

-- What a call may come to, in a state after a trace, is justified by the trace.
abbrev pub TraceJustifies : Type 0
TraceJustifies = (opening : Map) (mark : ℕ) (steps : List Step) (s : State) (c : Call) (r : Result)
    → IsKept opening steps s → HasCounts mark steps s → MayCome s c r
    → IsJustified opening mark steps c r

-- A state that was just opened counts what the trace says, and so it does after each call.
abbrev pub OpensCounted : Type 0
OpensCounted = (rows : Map) (mark : ℕ) → HasCounts mark [] (opened rows mark)

abbrev pub EachCallCounts : Type 0
EachCallCounts = (opening : Map) (mark : ℕ) (steps : List Step) (s : State) (c : Call) (r : Result)
    → MayCome s c r → IsKept opening steps s → HasCounts mark steps s
    → HasCounts mark (steps ++ steps_of s c r) (after_call s c r)
