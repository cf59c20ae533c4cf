-- What a core stands for with its read-only transactions: a whole state.
use Rattle.std.specs.Prelude.{ℕ, ◌≡◌, ◌≢◌, ◌+◌, ◌++◌, false, List, [], ◌∷◌, length, None, Some, ⊤}
use Rattle.std.specs.Prelude.{Result as Answered}
use Rattle.std.specs.List.{AllByRecursion}
use Rattle.mvo_types.specs.declared.refusal.Refusal.{Refusal}
use Rattle.mvo_types.specs.Keys.{Map}
use Rattle.mvo_model.specs.Trace.{Step}
use Rattle.mvo_theory.specs.Marks.{IsClosedAt}
use Rattle.mvo_theory.specs.State.{State}
use Rattle.mvo_theory.specs.Calls.{Call, Result, trace_of}
use Rattle.mvo_theory.specs.Calls.Call.{Trim}
use Rattle.mvo_theory.specs.Calls.Result.{Accepted}
use Rattle.mvo_readonly.specs.Whole.{WholeState, id_named, stage_named}
use Rattle.mvo_readonly.specs.WholeCauses.{WholeCall, MayComeWhole, has_reader_to}
use Rattle.mvo_readonly.specs.WholeCauses.WholeCall.{CoreCall, BeginReadOnly}
use Rattle.mvo_readonly.specs.WholeCalls.{core_calls, steps_of_whole_call, after_whole_call, readers_after, committed_after}
use Rattle.mvo_readonly.specs.WholeKept.{IsWholeKept}
use Rattle.mvo_txn.specs.Txns.{Txns, table_after_begin}
use Rattle.mvo_deps.specs.declared.node.Node.{Node}
use Rattle.mvo_deps.specs.Data.{no_dependencies}
use Rattle.mvo_tale.specs.declared.tale_place.TalePlace.{TalePlace}
use Rattle.mvo_tale.specs.declared.tale_place.TalePlace.TheVariants.{Reading as IsReading}
use Rattle.mvo_tale.specs.Kept.{HasTale}
use Rattle.mvo_tale.specs.Next.{AreGroupedTo}
use Rattle.mvo_tale.specs.Others.{others_places}
use Rattle.mvo_tale.specs.Slots.{open_end_at}
use Rattle.mvo_tale.specs.WholePlaces.{HasReaders}
use Rattle.mvo_core.specs.declared.kept_transaction.KeptTransaction.{KeptTransaction}
use Rattle.mvo_core.specs.declared.kept_transaction.TransactionKind.TheVariants.{Reading}
use Rattle.mvo_core.specs.Data.{CoreData}
use Rattle.mvo_core.specs.Keeping.{IsWritten}
use Rattle.mvo_core.specs.Readers.{Readers, HaveStages, HasTalePlaces}
use Rattle.mvo_core.specs.Standing.{StandsAmong}
use Rattle.mvo_core.specs.Steps.{LeadsAmong, came}

abbrev pub readers_of : WholeState → Readers
readers_of w = record { unfinished = w.readers; committed = w.committed_readers }

-- It stands for the whole state, to which the whole steps since the opening lead, and the core's
-- own: for the core of the others, with these read-only ones beside them.
pub record StandsWhole (opening : Map) (steps own : List Step) (w : WholeState)
    (c : CoreData) : Type 0 where
  pub core : StandsAmong (readers_of w) opening own w.core c
  pub kept : IsWholeKept opening steps own w

-- for some whole state, whatever steps led there. Up to the mark of the group that was closed last
-- all are settled there
pub record StandsInWhole (c : CoreData) : Type 0 where
  pub opening : Map
  pub steps : List Step
  pub own : List Step
  pub whole : WholeState
  pub stands : StandsWhole opening steps own whole c
  pub closed : IsClosedAt whole.core.marks.closed whole.core

-- the call may come to this in the whole state, and leads to the named one
pub record LeadsWhole (opening : Map) (steps own : List Step) (w : WholeState) (a : WholeCall)
    (r : Result) (new : CoreData) : Type 0 where
  pub may : MayComeWhole w a r
  pub stands :
      StandsWhole opening (steps ++ steps_of_whole_call w a r)
      (own ++ trace_of w.core (core_calls w a r)) (after_whole_call w a r) new

-- so it does from each whole state that the core stands for
abbrev pub IsWholeStep : {A : Type 0} → CoreData → Call → Answered A Refusal → CoreData → Type 0
IsWholeStep old call result new = (opening : Map) (steps own : List Step) (w : WholeState)
    → StandsWhole opening steps own w old
    → LeadsWhole opening steps own w (CoreCall call) (came result) new

-- and so it does where a read-only one begins
abbrev pub IsReadOnlyBegin : {A : Type 0} → CoreData → Answered A Refusal → CoreData → Type 0
IsReadOnlyBegin old result new = (opening : Map) (steps own : List Step) (w : WholeState)
    → StandsWhole opening steps own w old
    → LeadsWhole opening steps own w BeginReadOnly (came result) new

-- ---- laws
-- its words stay, whatever else is kept of it
pub record HasSameWordList (old new : KeptTransaction) : Type 0 where
  pub words : new.writes.words ≡ old.writes.words

-- Where what is kept of one that isn't Preparing for the core, its place in the tale, and the
-- read-only ones change, and the places of the others stay, the core stands for the same state
-- among these.
abbrev pub ReadersMove : Type 0
ReadersMove = (before after : Readers) (opening : Map) (steps : List Step) (s : State)
    (c : CoreData) (t : ℕ) (table : Txns (Node KeptTransaction)) (tale : List TalePlace)
    → StandsAmong before opening steps s c
    → AllByRecursion (λ x. x.settled ≡ false → x.id ≢ t) s.stamped
    → IsWritten c.table table t HasSameWordList
    → ((q d : ℕ) → open_end_at c.tale q ≡ Some d → open_end_at tale q ≡ Some d)
    → HasTale s (others_places tale) → HasTalePlaces after s.start s.clock tale
    → HaveStages after.unfinished table tale → AreGroupedTo tale c.grouped c.closed
    → StandsAmong after opening steps s (record c { table = table; tale = tale })

-- a trim doesn't go up to the begin of one that is unfinished
abbrev pub IsBelowReaders : WholeState → Call → Type 0
IsBelowReaders w (Trim m) = has_reader_to m w.readers ≡ false
IsBelowReaders w call = ⊤

-- What a call of another leads to among the read-only ones it leads to in the whole state: they
-- stay as they are.
abbrev pub OthersLeadWhole : Type 0
OthersLeadWhole = (opening : Map) (steps own : List Step) (w : WholeState) (call : Call)
    (r : Result) (old new : CoreData) → StandsWhole opening steps own w old
    → stage_named w.readers (id_named call) ≡ None → IsBelowReaders w call
    → LeadsAmong (readers_of w) opening own w.core call r new
    → LeadsWhole opening steps own w (CoreCall call) r new

-- A read-only transaction begins: it has written nothing, and its place in the tale is behind all
-- others.
abbrev pub ReaderBegins : Type 0
ReaderBegins = (opening : Map) (steps own : List Step) (w : WholeState) (c : CoreData)
    (node : Node KeptTransaction) → StandsWhole opening steps own w c
    → node.dependencies ≡ no_dependencies → node.own.writes.words ≡ [] → node.own.kind ≡ Reading
    → node.own.place ≡ length c.tale
    → MayComeWhole w BeginReadOnly Accepted
    → LeadsWhole opening steps own w BeginReadOnly Accepted (record c {
      table = table_after_begin c.table node;
      tale = c.tale ++ IsReading (record { 0 = w.core.clock + 1 }) ∷ [];
    })

-- A call of a read-only transaction that is none of the core's, as its precommit and its checks: it
-- is written what is kept of it, its words stay, and so do the places.
abbrev pub ReaderGoesOn : Type 0
ReaderGoesOn = (opening : Map) (steps own : List Step) (w : WholeState) (c : CoreData)
    (call : Call) (r : Result) (t : ℕ) (table : Txns (Node KeptTransaction))
    → StandsWhole opening steps own w c → core_calls w (CoreCall call) r ≡ []
    → MayComeWhole w (CoreCall call) r
    → AllByRecursion (λ x. x.settled ≡ false → x.id ≢ t) w.core.stamped
    → IsWritten c.table table t HasSameWordList
    → HasReaders w.core.start (readers_after w (CoreCall call) r)
    (committed_after w (CoreCall call) r) c.tale
    → HaveStages (readers_after w (CoreCall call) r) table c.tale
    → LeadsWhole opening steps own w (CoreCall call) r (record c { table = table })
