-- The laws of a core that is given works.
use Rattle.std.specs.Prelude.{ℕ, List}
use Rattle.mvo_types.specs.Keys.{Map}
use Rattle.mvo_model.specs.History.{Legal}
use Rattle.mvo_theory.specs.State.{opened}
use Rattle.mvo_theory.specs.Calls.{Call}
use Rattle.mvo_shared.specs.Kept.{WorkContent, IsWork}
use Rattle.mvo_shared.specs.Shared.{AllTaken, told_tale, WorksById, AreOwnWorks}
use Rattle.mvo_shared.specs.Given.{GivenState, GivenResult, GivenCall, MayComeGiven, after_given, MayRunGiven, after_given_run}
use Rattle.mvo_shared.specs.Held.{IsHeldGiven, empty_work, work_for, works_after, OwnCall, MayRunOwn, AreToldOwn}

-- a core that was just opened over these rows; nothing was taken in, whatever stands there
abbrev pub opened_given : Map → ℕ → AllTaken → GivenState
opened_given rows mark all = record { state = opened rows mark; taken = all }

-- Whatever work a call is given, and whatever it comes to, the core keeps what it keeps.
abbrev pub EachGivenCallHolds : Type 0
EachGivenCallHolds = (opening : Map) (g : GivenState) (w : WorkContent) (c : Call)
    (r : GivenResult) → IsWork w → MayComeGiven g w c r → IsHeldGiven opening g
    → IsHeldGiven opening (after_given g w c r)

-- So it does over each list of calls,
abbrev pub GivenRunsHold : Type 0
GivenRunsHold = (rows : Map) (mark : ℕ) (all : AllTaken) (cs : List GivenCall)
    → MayRunGiven (opened_given rows mark all) cs
    → IsHeldGiven rows (after_given_run (opened_given rows mark all) cs)

-- and what the settled ones were told is legal from the start of the tale.
abbrev pub GivenRunsAreLegal : Type 0
GivenRunsAreLegal = (rows : Map) (mark : ℕ) (all : AllTaken) (cs : List GivenCall)
    → MayRunGiven (opened_given rows mark all) cs
    → let g = after_given_run (opened_given rows mark all) cs in
    Legal g.state.base (told_tale g.taken g.state.stamped)

-- Where all works are made on the core, each call keeps them so;
abbrev pub EachOwnCallKeeps : Type 0
EachOwnCallKeeps = (opening : Map) (g : GivenState) (works : WorksById) (c : Call)
    (r : GivenResult) → MayComeGiven g (work_for works c) c r → IsHeldGiven opening g
    → AreOwnWorks g.state g.taken works
    → let h = after_given g (work_for works c) c r in
    AreOwnWorks h.state h.taken (works_after g works c r)

-- and over each list of calls no mismatch is answered, and each operation is told what the serial
-- step answers on its snapshot.
abbrev pub OwnRunsAreSerial : Type 0
OwnRunsAreSerial = (rows : Map) (mark : ℕ) (all : AllTaken) (cs : List OwnCall)
    → MayRunOwn (opened_given rows mark all) (λ t. empty_work) cs
    → AreToldOwn (opened_given rows mark all) (λ t. empty_work) cs
