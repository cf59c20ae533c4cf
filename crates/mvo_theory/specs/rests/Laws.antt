-- The laws of resting.
use Rattle.std.specs.Prelude.{ℕ, [], ◌++◌, ⊤, Option, None, Some}
use Rattle.mvo_types.specs.Keys.{Map}
use Rattle.mvo_types.specs.declared.refusal.Refusal.TheVariants.{NoSuchTransaction, Ended, NotActive, NotPreparing, DependencyAborted}
use Rattle.mvo_theory.specs.State.{State, StampedTx, opened}
use Rattle.mvo_theory.specs.Causes.{awaited}
use Rattle.mvo_theory.specs.Calls.{Call, Result, MayCome, after_call, steps_of, IsKept}
use Rattle.mvo_theory.specs.Calls.Call.{Do, Precommit, Validate, Settle}
use Rattle.mvo_theory.specs.Calls.Result.{Accepted, Refused}
use Rattle.mvo_theory.specs.rests.Course.{Course, trims_after}
use Rattle.mvo_theory.specs.rests.Resting.{RestsOnNoAborted, IsFirstAborted, IsFirstAwaited, AwaitsNone}
use Rattle.mvo_theory.specs.rests.Known.{KnowsRests}

-- DependencyAborted names the first aborted one of those on whom t rests, and where it isn't
-- answered, nor a cause that comes before it, t rests on none that was aborted.
abbrev pub TellsAborted : Course → ℕ → Result → Type 0
TellsAborted c t (Refused NoSuchTransaction) = ⊤
TellsAborted c t (Refused Ended) = ⊤
TellsAborted c t (Refused NotActive) = ⊤
TellsAborted c t (Refused NotPreparing) = ⊤
TellsAborted c t (Refused (DependencyAborted x)) = IsFirstAborted c t x.0
TellsAborted c t r = RestsOnNoAborted c t

-- so do an operation, a precommit, a check and a settling
abbrev pub TellsRests : Course → Call → Result → Type 0
TellsRests c (Do t op) r = TellsAborted c t r
TellsRests c (Precommit t) r = TellsAborted c t r
TellsRests c (Validate t) r = TellsAborted c t r
TellsRests c (Settle t) r = TellsAborted c t r
TellsRests c call r = ⊤

-- one that is settled rests on none that is Preparing, and one that waits is told the one with the
-- least end
abbrev pub TellsSettling : Course → ℕ → Option StampedTx → Type 0
TellsSettling c t None = AwaitsNone c t
TellsSettling c t (Some x) = IsFirstAwaited c t x.id

-- What a call may come to, in a state after what happened, tells whom its transaction rests on.
abbrev pub EachCallTells : Type 0
EachCallTells = (c : Course) (s : State) (call : Call) (r : Result)
    → IsKept c.rows c.steps s → KnowsRests c s → MayCome s call r → TellsRests c call r

-- So does a settling that isn't refused, by whom it waits for.
abbrev pub EachSettlingTells : Type 0
EachSettlingTells = (c : Course) (s : State) (t : ℕ)
    → IsKept c.rows c.steps s → KnowsRests c s → MayCome s (Settle t) Accepted
    → TellsSettling c t (awaited s t)

-- A state that was just opened knows whom its transactions rest on, and so it does after each call.
abbrev pub OpensKnowing : Type 0
OpensKnowing = (rows : Map) (mark : ℕ)
    → KnowsRests (record { rows = rows; mark = mark; steps = []; trims = [] }) (opened rows mark)

abbrev pub EachCallKnows : Type 0
EachCallKnows = (c : Course) (s : State) (call : Call) (r : Result)
    → MayCome s call r → IsKept c.rows c.steps s → KnowsRests c s
    → KnowsRests (record c { steps = c.steps ++ steps_of s call r; trims = trims_after c call r })
    (after_call s call r)
