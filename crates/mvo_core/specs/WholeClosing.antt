-- What closing a group comes to in the whole state.
use Rattle.std.specs.Prelude.{◌≡◌, ◌==◌, Bool, false, List, [], ◌∷◌, ◌++◌, Result, Ok, Err}
use Rattle.mvo_types.specs.declared.refusal.Refusal.{Refusal}
use Rattle.mvo_types.specs.Keys.{Map}
use Rattle.mvo_model.specs.Trace.{Step}
use Rattle.mvo_group.specs.Data.{GroupData}
use Rattle.mvo_group.specs.Rules.{KeepsRules}
use Rattle.mvo_theory.specs.Marks.{Commit}
use Rattle.mvo_theory.specs.Groups.{Group}
use Rattle.mvo_theory.specs.Calls.Call.{Close}
use Rattle.mvo_theory.specs.Calls.Result.{Accepted, Refused}
use Rattle.mvo_tale.specs.Records.{AreRecordsOf, fits}
use Rattle.mvo_readonly.specs.Whole.{WholeState}
use Rattle.mvo_readonly.specs.WholeCauses.WholeCall.{CoreCall}
use Rattle.mvo_core.specs.declared.answers.Closed.{Closed}
use Rattle.mvo_core.specs.Data.{CoreData}
use Rattle.mvo_core.specs.WholeStanding.{StandsWhole, LeadsWhole}
use Rattle.rtrb.specs.declared.producer.Producer.{Producer}
use Rattle.rtrb.specs.Ring.{sent, known_free, ProducerLooked}

-- the group has the records of these commits, and the call that closes it leads to the named state
pub record IsClosedWhole (opening : Map) (steps own : List Step) (w : WholeState) (c : Closed)
    (new : CoreData) (g : GroupData) : Type 0 where
  pub commits : List Commit
  pub records : AreRecordsOf commits g.records
  pub rules : KeepsRules g
  pub prev : g.prev ≡ c.prev.0
  pub mark : g.mark ≡ c.mark.0
  pub leads :
      LeadsWhole opening steps own w
      (CoreCall (Close fits (record { prev = g.prev; mark = g.mark; commits = commits }) false))
      Accepted new

-- it is refused, whatever group it would be, by whether the ring is full
abbrev pub IsNotClosedWhole : Map → List Step → List Step → WholeState → Bool → Refusal → CoreData
    → Type 0
IsNotClosedWhole opening steps own w full r new = (g : Group)
    → LeadsWhole opening steps own w (CoreCall (Close fits g full)) (Refused r) new

module _ {A P : Type 0} where
  -- The group goes into the ring. Full is a ring in which no slot was seen to be free.
  abbrev pub HasClosedWhole : Map → List Step → List Step → WholeState → Producer GroupData A P
      → Result Closed Refusal → CoreData → Producer GroupData A P → Type 0
  HasClosedWhole opening steps own w ring (Ok c) new ring' =
      (g : GroupData) × (sent ring' ≡ sent ring ++ g ∷ [])
      × IsClosedWhole opening steps own w c new g
  HasClosedWhole opening steps own w ring (Err r) new ring' =
      IsNotClosedWhole opening steps own w (known_free ring' == 0) r new
      × ProducerLooked ring ring'

  abbrev pub IsWholeClosing : CoreData → Producer GroupData A P → Result Closed Refusal → CoreData
      → Producer GroupData A P → Type 0
  IsWholeClosing old ring result new ring' =
      (opening : Map) (steps own : List Step) (w : WholeState)
      → StandsWhole opening steps own w old
      → HasClosedWhole opening steps own w ring result new ring'
