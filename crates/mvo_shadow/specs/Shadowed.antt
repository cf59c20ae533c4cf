-- A core that is given works which were all made on it stands where a state of the theory does: it
-- keeps that state's shadow, and the works hold what the histories of the state have.
use Rattle.std.specs.Prelude.{◌≡◌, false, List, [], ◌∷◌, map, ⊤}
use Rattle.std.specs.List.{AllByRecursion}
use Rattle.mvo_model.specs.History.{History}
use Rattle.mvo_theory.specs.State.{State}
use Rattle.mvo_theory.specs.Marks.{Commit}
use Rattle.mvo_theory.specs.Groups.{Limits, Group}
use Rattle.mvo_theory.specs.Calls.{Call, Result, Run, MayCome, after_call}
use Rattle.mvo_theory.specs.Calls.Call.{Close}
use Rattle.mvo_theory.specs.Calls.Result.{Accepted, Refused}
use Rattle.mvo_shared.specs.Kept.{WorkContent, IsOrdered}
use Rattle.mvo_shared.specs.Shared.{WorksById}
use Rattle.mvo_shared.specs.Shadow.{writing_operations, shadow}
use Rattle.mvo_shared.specs.Given.{GivenState, GivenResult, after_given}
use Rattle.mvo_shared.specs.Given.GivenRefusal.{Because}
use Rattle.mvo_shared.specs.Given.GivenResult.{Took, Denied}
use Rattle.mvo_shared.specs.Held.{work_for, works_after, OwnCall}

-- ---- where it stands
-- the work of these operations: it holds just them, and its entries are theirs, in the order of the
-- first look
pub record IsWorkOf (ts : History) (w : WorkContent) : Type 0 where
  pub history : w.history ≡ ts
  pub order : IsOrdered w

-- the core keeps the shadow; the works are those of the Active ones, and precommit took in those of
-- the others; and of a Preparing one as many entries are checked
pub record IsShadowed (s : State) (g : GivenState) (works : WorksById) : Type 0 where
  pub state : g.state ≡ shadow s
  pub active : AllByRecursion (λ r. IsWorkOf r.history (works r.id)) s.active
  pub taken : AllByRecursion (λ x. IsWorkOf x.history (g.taken x.end).work) s.stamped
  pub checked :
      AllByRecursion (λ x. x.settled ≡ false → (g.taken x.end).checked ≡ x.checked) s.stamped

-- ---- a call on it
-- the commits of a group have there what was written alone
abbrev pub commit_shadow : Commit → Commit
commit_shadow c = (c.0, writing_operations c.1)

abbrev pub group_shadow : Group → Group
group_shadow g = record {
  prev = g.prev;
  mark = g.mark;
  commits = map {A = Commit} commit_shadow g.commits;
}

-- whether commits fit into a group goes by what they wrote
abbrev pub GoByWrites : Limits → Type 0
GoByWrites fits = (cs : List Commit) → fits (map {A = Commit} commit_shadow cs) ≡ fits cs

abbrev pub IsByWrites : Call → Type 0
IsByWrites (Close fits g full) = GoByWrites fits
IsByWrites c = ⊤

abbrev pub shadow_call : Call → Call
shadow_call (Close fits g full) = Close fits (group_shadow g) full
shadow_call c = c

-- it comes to the same
abbrev pub shadow_result : Result → GivenResult
shadow_result Accepted = Took
shadow_result (Refused r) = Denied (Because r)

-- ---- the call of the theory behind one there
-- the same one; where a group is closed it has there what was written alone, and where none is, it
-- counts for nothing which group it would be
abbrev pub with_no_group : Call → Call
with_no_group (Close fits g full) = Close fits (record { prev = 0; mark = 0; commits = [] }) full
with_no_group c = c

abbrev pub IsCallBehind : Call → Result → Call → Type 0
IsCallBehind c Accepted call = shadow_call c ≡ call
IsCallBehind c (Refused r) call = with_no_group c ≡ with_no_group call

-- the theory may come to the same, and the core keeps the shadow of what that leaves
pub record IsTheoryCall (s : State) (g : GivenState) (works : WorksById) (call : Call)
    (result : GivenResult) (c : Call) (r : Result) : Type 0 where
  pub may : MayCome s c r
  pub same : IsCallBehind c r call
  pub outcome : shadow_result r ≡ result
  pub shadowed :
      IsShadowed (after_call s c r) (after_given g (work_for works call) call result)
      (works_after g works call result)

-- ---- a list of calls on it
abbrev pub AreByWrites : Run → Type 0
AreByWrites [] = ⊤
AreByWrites (c ∷ cs) = IsByWrites c.0 × AreByWrites cs

abbrev pub shadow_run : Run → List OwnCall
shadow_run [] = []
shadow_run (c ∷ cs) =
    (record { call = shadow_call c.0; result = shadow_result c.1 }) ∷ shadow_run cs

abbrev pub AreOwnByWrites : List OwnCall → Type 0
AreOwnByWrites [] = ⊤
AreOwnByWrites (c ∷ cs) = IsByWrites c.call × AreOwnByWrites cs

-- what the calls came to
abbrev pub results_of : Run → List GivenResult
results_of cs = map {A = Call × Result} (λ c. shadow_result c.1) cs

abbrev pub own_results_of : List OwnCall → List GivenResult
own_results_of cs = map {A = OwnCall} (λ c. c.result) cs

-- the state and the works after calls whose works are made on the core
pub record OwnState : Type 0 where
  pub given : GivenState
  pub works : WorksById

abbrev pub after_own : OwnState → OwnCall → OwnState
after_own o c = record {
  given = after_given o.given (work_for o.works c.call) c.call c.result;
  works = works_after o.given o.works c.call c.result;
}

abbrev pub after_own_run : OwnState → List OwnCall → OwnState
after_own_run o [] = o
after_own_run o (c ∷ cs) = after_own_run (after_own o c) cs
