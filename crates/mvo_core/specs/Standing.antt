-- What a core stands for: a state of the theory.
use Rattle.std.specs.Prelude.{ℕ, ◌≡◌, false, List, [], Option, None, Some}
use Rattle.std.specs.List.{AllByRecursion}
use Rattle.mvo_types.specs.Keys.{Map}
use Rattle.mvo_model.specs.Trace.{Step}
use Rattle.mvo_theory.specs.Calls.{IsKept}
use Rattle.mvo_theory.specs.State.{State, ActiveTx, StampedTx, opened}
use Rattle.mvo_theory.specs.Marks.{IsClosedAt}
use Rattle.mvo_txn.specs.Txns.{Txns, state_of}
use Rattle.mvo_deps.specs.declared.node.Node.{Node}
use Rattle.mvo_work.specs.declared.word_place.WordPlace.{WordPlace}
use Rattle.mvo_tale.specs.declared.tale_place.TalePlace.{TalePlace}
use Rattle.mvo_tale.specs.Slots.{open_end_at}
use Rattle.mvo_tale.specs.Kept.{HasTale}
use Rattle.mvo_tale.specs.Next.{AreGroupedTo}
use Rattle.mvo_tale.specs.Others.{others_places}
use Rattle.mvo_representation.specs.Laws as representation
use Rattle.mvo_representation.specs.Dependencies.{HasDependencies}
use Rattle.mvo_representation.specs.Order.{AllStandInOrder}
use Rattle.mvo_representation.specs.WordLists.{HasWordLists}
use Rattle.mvo_collect.specs.Begun.{AreOver}
use Rattle.mvo_core.specs.declared.kept_transaction.KeptTransaction.{KeptTransaction}
use Rattle.mvo_core.specs.Data.{CoreData, own_of}
use Rattle.mvo_core.specs.Readers.{Readers, no_readers, HaveStages, HasTalePlaces}
use Rattle.mvo_standing.specs.Beside.{WorksGoBeside}
use Rattle.mvo_content.specs.Works.{works_in}

-- ---- something is kept of each Active transaction, and of a Preparing one what the state has
pub record IsKeptActive (table : Txns (Node KeptTransaction)) (r : ActiveTx) : Type 0 where
  pub own : KeptTransaction
  pub kept : own_of table r.id ≡ Some own

pub record IsKeptPreparing (table : Txns (Node KeptTransaction)) (tale : List TalePlace)
    (x : StampedTx) : Type 0 where
  pub own : KeptTransaction
  pub kept : own_of table x.id ≡ Some own
  pub history : own.taken.history ≡ x.history
  pub checked : x.valid ≡ false → own.checked ≡ x.checked
  pub valid : own.valid ≡ x.valid
  pub place : open_end_at tale own.place ≡ Some x.end

pub record HasWorks (s : State) (table : Txns (Node KeptTransaction))
    (tale : List TalePlace) : Type 0 where
  pub active : AllByRecursion (IsKeptActive table) s.active
  pub preparing :
      AllByRecursion (λ x. x.settled ≡ false → IsKeptPreparing table tale x) s.stamped

-- the words that each still has to replace
abbrev pub own_words_of : Option KeptTransaction → List WordPlace
own_words_of None = []
own_words_of (Some own) = own.writes.words

abbrev pub words_in : Txns (Node KeptTransaction) → ℕ → List WordPlace
words_in table t = own_words_of (own_of table t)

-- ---- the core
-- It stands for the state, to which the steps since the opening lead: that of the others, in which
-- a read-only transaction is Active until it ends. Beside it are these read-only ones, and a core
-- that is given these works might go on beside it.
pub record StandsAmong (rs : Readers) (opening : Map) (steps : List Step) (s : State)
    (c : CoreData) : Type 0 where
  pub kept : IsKept opening steps s
  pub versions :
      representation.VersionsStandFor opening s (state_of c.table)
      c.versions.slots c.versions.lists c.versions.places
  pub dependencies : HasDependencies s c.table
  pub order : AllStandInOrder s.start (state_of c.table) c.versions.slots c.versions.lists
  pub works : HasWorks s c.table c.tale
  pub words : HasWordLists s c.versions.slots (words_in c.table)
  pub tale : HasTale s (others_places c.tale)
  pub places : HasTalePlaces rs s.start s.clock c.tale
  pub stages : HaveStages rs.unfinished c.table c.tale
  pub marks : s.marks ≡ record { opening = c.opening; closed = c.closed }
  pub grouped : AreGroupedTo c.tale c.grouped c.closed
  pub start : s.start ≡ c.start
  pub over : AreOver s
  pub beside : WorksGoBeside opening steps s (works_in c.works)

-- so it does where no transaction is read-only
abbrev pub StandsFor : Map → List Step → State → CoreData → Type 0
StandsFor opening steps s c = StandsAmong no_readers opening steps s c

-- so it does for some state, whatever steps led there. Up to the mark of the group that was closed
-- last all are settled there
pub record Stands (c : CoreData) : Type 0 where
  pub opening : Map
  pub steps : List Step
  pub state : State
  pub stands : StandsFor opening steps state c
  pub closed : IsClosedAt state.marks.closed state

-- just opened over these rows at this mark
abbrev pub HasOpenedOver : Map → ℕ → CoreData → Type 0
HasOpenedOver rows mark c = StandsFor rows [] (opened rows mark) c
