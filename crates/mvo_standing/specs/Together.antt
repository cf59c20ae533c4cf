-- A core that is given works goes on with the state whose shadow it stands at.
use Rattle.std.specs.Prelude.{ℕ, List, [], ◌++◌}
use Rattle.mvo_types.specs.Keys.{Map}
use Rattle.mvo_model.specs.Trace.{Step}
use Rattle.mvo_theory.specs.State.{State, opened}
use Rattle.mvo_theory.specs.Calls.{Call, Result, MayCome, after_call, steps_of}
use Rattle.mvo_shared.specs.Kept.{IsWork}
use Rattle.mvo_shared.specs.Shared.{AllTaken, WorksById}
use Rattle.mvo_shared.specs.Given.{GivenState, MayComeGiven, after_given}
use Rattle.mvo_shared.specs.GivenLaws.{opened_given}
use Rattle.mvo_shared.specs.Held.{empty_work, work_for, works_after}
use Rattle.mvo_shadow.specs.Shadowed.{IsByWrites, GoByWrites, shadow_call, shadow_result}
use Rattle.mvo_shadow.specs.Laws.{GoTogether}
use Rattle.mvo_tale.specs.Records.{fits}

-- they stand together, and what each transaction holds is a work
pub record StandTogether (opening : Map) (steps : List Step) (s : State) (g : GivenState)
    (works : WorksById) : Type 0 where
  pub together : GoTogether opening steps s g works
  pub each : (t : ℕ) → IsWork (works t)

-- So they do where a core was just opened.
abbrev pub OpensTogether : Type 0
OpensTogether = (rows : Map) (mark : ℕ) (all : AllTaken)
    → StandTogether rows [] (opened rows mark) (opened_given rows mark all) (λ t. empty_work)

-- what the call leaves, where works are made on the core
abbrev pub StandTogetherAfter : Map → List Step → State → GivenState → WorksById → Call → Result
    → Type 0
StandTogetherAfter opening steps s g works c r =
    let call = shadow_call c in let result = shadow_result r in
    StandTogether opening (steps ++ steps_of s c r) (after_call s c r)
    (after_given g (work_for works call) call result) (works_after g works call result)

-- And what a call may come to on the state it may come to there, and they stand together after it.
abbrev pub EachCallGoesOn : Type 0
EachCallGoesOn = (opening : Map) (steps : List Step) (s : State) (g : GivenState)
    (works : WorksById) (c : Call) (r : Result) → IsByWrites c → MayCome s c r
    → StandTogether opening steps s g works
    → MayComeGiven g (work_for works (shadow_call c)) (shadow_call c) (shadow_result r)
    × StandTogetherAfter opening steps s g works c r

-- Whether commits fit into a group of the log goes by what they wrote.
abbrev pub FitsByWrites : Type 0
FitsByWrites = GoByWrites fits
