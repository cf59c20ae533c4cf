-- What justifies what a call came to, by what happened and by who began read-only: a call of one of
-- those has a list of causes of its own, a call of another has that of a core.
use Rattle.std.specs.Prelude.{ℕ, ◌≡◌, ◌+◌, ◌<◌, ◌≤◌, Bool, true, false, eqb, length, List, Option, None, Some, ⊤}
use Rattle.std.specs.List.{list_any}
use Rattle.mvo_types.specs.declared.refusal.Refusal.{Refusal}
use Rattle.mvo_model.specs.Trace.{Step, phase_of}
use Rattle.mvo_model.specs.Trace.Phase.{Absent}
use Rattle.mvo_theory.specs.Calls.{Call, Result}
use Rattle.mvo_theory.specs.Calls.Result.{Accepted, Refused}
use Rattle.mvo_theory.specs.Counts.{draws}
use Rattle.mvo_theory.specs.Justified.{CauseStands, IsJustified}
use Rattle.mvo_theory.specs.rests.Course.{Course, start_behind}
use Rattle.mvo_theory.specs.rests.Laws.{TellsRests}
use Rattle.mvo_readonly.specs.Whole.{ReaderStage, WholeState, stage_of, id_named}
use Rattle.mvo_readonly.specs.WholeJustified.{ReaderCauseStands, IsReaderJustified}
use Rattle.mvo_world.specs.Order.{cause_place}

-- ---- who began read-only
-- it is one of these
abbrev pub is_among : ℕ → List ℕ → Bool
is_among n ns = list_any (eqb n) ns

-- so is the one that is named; none is where nobody is named
abbrev pub is_named_among : Option ℕ → List ℕ → Bool
is_named_among None ids = false
is_named_among (Some t) ids = is_among t ids

-- the call is one of a transaction that began read-only
abbrev pub is_of_reader : List ℕ → Call → Bool
is_of_reader ids call = is_named_among (id_named call) ids

-- The state has those that began read-only: its read-only ones are among them, and of them the
-- others are Absent. All of them began.
pub record KnowsReaders (ids : List ℕ) (steps : List Step) (w : WholeState) : Type 0 where
  pub all : (t : ℕ) (p : ReaderStage) → stage_of t w.readers ≡ Some p → is_among t ids ≡ true
  pub others : (t : ℕ) → is_among t ids ≡ true → stage_of t w.readers ≡ None
      → phase_of t steps ≡ Absent
  pub began : (t : ℕ) → is_among t ids ≡ true → t ≤ w.core.clock

-- ---- what a call came to; each is of a read-only transaction where the first argument is true
-- the cause stands against the call
abbrev pub CauseIs : Bool → Course → Call → Refusal → Type 0
CauseIs true c call r = ReaderCauseStands c.steps call r
CauseIs false c call r = CauseStands c.rows c.mark c.steps call r

-- no cause stands that comes before the one which is answered
abbrev pub NoneBefore : Bool → Course → Call → Result → Type 0
NoneBefore reads c call (Refused r) =
    (v : Refusal) → cause_place v < cause_place r → CauseIs reads c call v → ⊥
NoneBefore reads c call Accepted = ⊤

-- a cause stands where the call is refused, and else none does
abbrev pub HasCause : Bool → Course → Call → Result → Type 0
HasCause true c call r = IsReaderJustified c.rows c.steps call r
HasCause false c call r = IsJustified c.rows c.mark c.steps call r

-- What the call came to: with the first cause that stands where it is refused, and else with none;
-- and 22 just where one on whom its transaction rests was aborted.
abbrev pub IsJustCall : List ℕ → Course → Call → Result → Type 0
IsJustCall ids c call r =
    let reads = is_of_reader ids call
    in HasCause reads c call r × NoneBefore reads c call r × TellsRests c call r

-- ---- what is answered
-- the end of a precommit: the timestamp behind those that were drawn, or its begin
abbrev pub IsGivenEnd : Bool → Course → ℕ → ℕ → Type 0
IsGivenEnd true c t e = e ≡ t
IsGivenEnd false c t e = e ≡ c.mark + draws c.steps + 1

-- ---- a trim
-- The tale may be trimmed to the stamp: it starts below, the stamp was drawn, no transaction that
-- began before the stamp is unfinished, and no read-only one that began at it.
pub record MayTrim (ids : List ℕ) (c : Course) (stamp : ℕ) : Type 0 where
  pub above : start_behind c.mark c.trims (length c.steps) < stamp
  pub drawn : stamp ≤ c.mark + draws c.steps
  pub finished : (t : ℕ) → t < stamp → phase_of t c.steps ≡ Absent
  pub read_only : is_among stamp ids ≡ true → phase_of stamp c.steps ≡ Absent
