-- What closing a group comes to.
use Rattle.std.specs.Prelude.{◌≡◌, ◌==◌, Bool, true, false, List, [], ◌∷◌, ◌++◌, None, Result, Ok, Err}
use Rattle.mvo_types.specs.declared.refusal.Refusal.{Refusal}
use Rattle.mvo_types.specs.Keys.{Map}
use Rattle.mvo_model.specs.Trace.{Step}
use Rattle.mvo_group.specs.Data.{GroupData}
use Rattle.mvo_group.specs.Rules.{KeepsRules}
use Rattle.mvo_theory.specs.State.{State}
use Rattle.mvo_theory.specs.Marks.{Commit}
use Rattle.mvo_theory.specs.Groups.{IsNextGroup}
use Rattle.mvo_theory.specs.Changes.{after_close}
use Rattle.mvo_theory.specs.Causes.{why_not_close}
use Rattle.mvo_theory.specs.Calls.{IsRefusal}
use Rattle.mvo_tale.specs.Records.{AreRecordsOf, fits}
use Rattle.mvo_core.specs.declared.answers.Closed.{Closed}
use Rattle.mvo_core.specs.Data.{CoreData}
use Rattle.mvo_core.specs.Readers.{Readers, no_readers}
use Rattle.mvo_core.specs.Standing.{StandsAmong, StandsFor}
use Rattle.rtrb.specs.declared.producer.Producer.{Producer}
use Rattle.rtrb.specs.Ring.{sent, known_free, ProducerLooked}

-- the group is the next one, with the records of its commits
pub record IsClosedAmong (rs : Readers) (opening : Map) (steps : List Step) (s : State) (c : Closed)
    (new : CoreData) (g : GroupData) : Type 0 where
  pub commits : List Commit
  pub next : IsNextGroup fits s (record { prev = g.prev; mark = g.mark; commits = commits })
  pub records : AreRecordsOf commits g.records
  pub rules : KeepsRules g
  pub prev : g.prev ≡ c.prev.0
  pub mark : g.mark ≡ c.mark.0
  pub stands : StandsAmong rs opening steps (after_close s c.mark.0) new

-- so it is where no transaction is read-only
abbrev pub IsClosedNow : Map → List Step → State → Closed → CoreData → GroupData → Type 0
IsClosedNow opening steps s c new g = IsClosedAmong no_readers opening steps s c new g

-- The first cause that stands, by whether the ring is full, and else that memory is wanting; the
-- core stands for what it stood for.
pub record IsNotClosedAmong (rs : Readers) (opening : Map) (steps : List Step) (s : State)
    (full : Bool) (r : Refusal) (new : CoreData) : Type 0 where
  pub refused : IsRefusal true (why_not_close s full) r
  pub stands : StandsAmong rs opening steps s new

abbrev pub IsNotClosed : Map → List Step → State → Bool → Refusal → CoreData → Type 0
IsNotClosed opening steps s full r new = IsNotClosedAmong no_readers opening steps s full r new

module _ {A P : Type 0} where
  -- The group goes into the ring. Full is a ring in which no slot was seen to be free.
  abbrev pub HasClosedAmong : Readers → Map → List Step → State → Producer GroupData A P
      → Result Closed Refusal → CoreData → Producer GroupData A P → Type 0
  HasClosedAmong rs opening steps s ring (Ok c) new ring' =
      (why_not_close s false ≡ None)
      × ((g : GroupData) × (sent ring' ≡ sent ring ++ g ∷ [])
      × IsClosedAmong rs opening steps s c new g)
  HasClosedAmong rs opening steps s ring (Err r) new ring' =
      IsNotClosedAmong rs opening steps s (known_free ring' == 0) r new × ProducerLooked ring ring'

  abbrev pub HasClosed : Map → List Step → State → Producer GroupData A P
      → Result Closed Refusal → CoreData → Producer GroupData A P → Type 0
  HasClosed opening steps s ring r new ring' =
      HasClosedAmong no_readers opening steps s ring r new ring'

  abbrev pub IsClosing : CoreData → Producer GroupData A P → Result Closed Refusal → CoreData
      → Producer GroupData A P → Type 0
  IsClosing old ring result new ring' = (opening : Map) (steps : List Step) (s : State)
      → StandsFor opening steps s old → HasClosed opening steps s ring result new ring'

  -- a rule of the ring that allows each group which begins where the last one ended
  abbrev pub AllowsNext : (List GroupData → GroupData → Type 0) → CoreData → Producer GroupData A P
      → Type 0
  AllowsNext allows c ring = (g : GroupData) → g.prev ≡ c.closed → allows (sent ring) g
