-- The laws of the shadow: a core that is given works which were all made on it goes, call by call,
-- as the theory does on the full state.
use Rattle.std.specs.Prelude.{ℕ, ◌≡◌, List}
use Rattle.std.specs.Option.{option_map}
use Rattle.mvo_types.specs.Keys.{Map}
use Rattle.mvo_model.specs.Trace.{Step}
use Rattle.mvo_theory.specs.State.{State, opened}
use Rattle.mvo_theory.specs.Calls.{Call, Result, Run, why_not, MayCome, after_call, MayRun, after_run, IsKept}
use Rattle.mvo_shared.specs.Shared.{AllTaken, WorksById, AreOwnWorks}
use Rattle.mvo_shared.specs.Given.{GivenState, GivenResult, why_not_given, MayComeGiven, after_given}
use Rattle.mvo_shared.specs.Given.GivenRefusal.{Because}
use Rattle.mvo_shared.specs.Held.{IsHeldGiven, empty_work, work_for, works_after, OwnCall, MayRunOwn}
use Rattle.mvo_shared.specs.GivenLaws.{opened_given}
use Rattle.mvo_shadow.specs.Shadowed.{IsShadowed, IsByWrites, shadow_call, shadow_result, IsTheoryCall, AreByWrites, AreOwnByWrites, results_of, own_results_of, shadow_run, after_own_run}

-- what both keep where they stand together
pub record GoTogether (opening : Map) (steps : List Step) (s : State) (g : GivenState)
    (works : WorksById) : Type 0 where
  pub kept : IsKept opening steps s
  pub held : IsHeldGiven opening g
  pub own : AreOwnWorks g.state g.taken works
  pub shadowed : IsShadowed s g works

-- Each call is refused there with the first cause for which the theory refuses it, and with none
-- where the theory has none.
abbrev pub CausesAreAlike : Type 0
CausesAreAlike = (opening : Map) (steps : List Step) (s : State) (g : GivenState)
    (works : WorksById) (c : Call) → GoTogether opening steps s g works
    → why_not_given g (work_for works (shadow_call c)) (shadow_call c)
    ≡ option_map Because (why_not s c)

-- What a call may come to in the theory it may come to there, and it leaves the shadow of what the
-- theory leaves.
abbrev pub EachCallGoesAlike : Type 0
EachCallGoesAlike = (opening : Map) (steps : List Step) (s : State) (g : GivenState)
    (works : WorksById) (c : Call) (r : Result) → IsByWrites c → MayCome s c r
    → GoTogether opening steps s g works
    → let call = shadow_call c in let given = shadow_result r in
    MayComeGiven g (work_for works call) call given
    × IsShadowed (after_call s c r) (after_given g (work_for works call) call given)
    (works_after g works call given)

-- So each list of calls of the theory is one there, over the shadows.
abbrev pub RunsGoAlike : Type 0
RunsGoAlike = (rows : Map) (mark : ℕ) (all : AllTaken) (cs : Run) → AreByWrites cs
    → MayRun (opened rows mark) cs
    → let after = after_own_run
    (record { given = opened_given rows mark all; works = λ t. empty_work }) (shadow_run cs) in
    MayRunOwn (opened_given rows mark all) (λ t. empty_work) (shadow_run cs)
    × IsShadowed (after_run (opened rows mark) cs) after.given after.works

-- And the other way round: whatever call such a core may come to, the theory may come to one as
-- well, with the same outcome, and what the core keeps then is the shadow of what that leaves.
abbrev pub EachOwnCallIsOne : Type 0
EachOwnCallIsOne = (opening : Map) (steps : List Step) (s : State) (g : GivenState)
    (works : WorksById) (call : Call) (result : GivenResult) → IsByWrites call
    → MayComeGiven g (work_for works call) call result → GoTogether opening steps s g works
    → (c : Call) × (r : Result) × IsTheoryCall s g works call result c r

-- So each list of calls on such a core is one of the theory, with the same outcomes.
abbrev pub OwnRunsAreRuns : Type 0
OwnRunsAreRuns = (rows : Map) (mark : ℕ) (all : AllTaken) (cs : List OwnCall)
    → AreOwnByWrites cs → MayRunOwn (opened_given rows mark all) (λ t. empty_work) cs
    → let after = after_own_run
    (record { given = opened_given rows mark all; works = λ t. empty_work }) cs in
    (run : Run) × MayRun (opened rows mark) run × (results_of run ≡ own_results_of cs)
    × IsShadowed (after_run (opened rows mark) run) after.given after.works
