-- What a core that is given works keeps, and what works that were made on it keep beside it.
use Rattle.std.specs.Prelude.{◌≡◌, ◌≢◌, ◌+◌, List, [], ◌∷◌, ⊤}
use Rattle.mvo_types.specs.Keys.{Map}
use Rattle.mvo_theory.specs.Calls.{Call, answer_in}
use Rattle.mvo_theory.specs.Calls.Call.{Begin, Do, Precommit}
use Rattle.mvo_shared.specs.Kept.{WorkContent, after_op}
use Rattle.mvo_shared.specs.Shared.{IsShared, WorksById, with_work}
use Rattle.mvo_shared.specs.Standing.{IsStanding}
use Rattle.mvo_shared.specs.Given.{GivenState, GivenResult, MayComeGiven, after_given, rows_to, answer_given}
use Rattle.mvo_shared.specs.Given.GivenRefusal.{WorkMismatch}
use Rattle.mvo_shared.specs.Given.GivenResult.{Took, Denied}

-- whatever works it is given
pub record IsHeldGiven (opening : Map) (g : GivenState) : Type 0 where
  pub shared : IsShared g.state g.taken
  pub standing : IsStanding opening g.state

-- ---- works that are all made on this core: each transaction's goes with its operations and into
-- its precommit
abbrev pub empty_work : WorkContent
empty_work = record { history = []; looked = [] }

-- the work that goes with a call
abbrev pub work_for : WorksById → Call → WorkContent
work_for works (Do t op) = works t
work_for works (Precommit t) = works t
work_for works c = empty_work

-- the works after an accepted call
abbrev pub works_after_took : GivenState → WorksById → Call → WorksById
works_after_took g works Begin = with_work works (g.state.clock + 1) empty_work
works_after_took g works (Do t op) =
    with_work works t (after_op (works t) op (rows_to g.state t op))
works_after_took g works c = works

abbrev pub works_after : GivenState → WorksById → Call → GivenResult → WorksById
works_after g works c Took = works_after_took g works c
works_after g works c (Denied r) = works

-- a call on a core whose works were all made on it, with what it came to
pub record OwnCall : Type 0 where
  pub call : Call
  pub result : GivenResult

abbrev pub MayRunOwn : GivenState → WorksById → List OwnCall → Type 0
MayRunOwn g works [] = ⊤
MayRunOwn g works (c ∷ cs) =
    MayComeGiven g (work_for works c.call) c.call c.result
    × MayRunOwn (after_given g (work_for works c.call) c.call c.result)
    (works_after g works c.call c.result) cs

-- an operation that is accepted is told what the serial step answers on the snapshot
abbrev pub IsToldOwn : GivenState → WorksById → Call → GivenResult → Type 0
IsToldOwn g works (Do t op) Took =
    answer_given g.state t (works t) op ≡ answer_in g.state t op
IsToldOwn g works c r = ⊤

-- none of these calls is refused with a mismatch, and each is told so
abbrev pub AreToldOwn : GivenState → WorksById → List OwnCall → Type 0
AreToldOwn g works [] = ⊤
AreToldOwn g works (c ∷ cs) =
    (c.result ≢ Denied WorkMismatch) × IsToldOwn g works c.call c.result
    × AreToldOwn (after_given g (work_for works c.call) c.call c.result)
    (works_after g works c.call c.result) cs
