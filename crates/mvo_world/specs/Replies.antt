-- What each event of a world is answered, and what it leaves.
use Rattle.std.specs.Prelude.{◌≡◌, ◌⊎◌, ◌+◌, ℕ, nat_le, List, ◌∷◌, Option, None, Some, Result, Ok, Err, IfOk}
use Rattle.mvo_types.specs.declared.refusal.Refusal.{Refusal}
use Rattle.mvo_types.specs.declared.refusal.Refusal.TheVariants.{NothingToDo, OutOfMemory}
use Rattle.mvo_disk.specs.declared.disk.Disk.{Ghosts}
use Rattle.mvo_group.specs.Data.{GroupData}
use Rattle.mvo_types.specs.declared.answer.Answer.{Answer}
use Rattle.mvo_types.specs.declared.op.Op.{Op}
use Rattle.mvo_types.specs.Keys.{Map}
use Rattle.mvo_model.specs.Trace.{Step}
use Rattle.mvo_readonly.specs.Whole.{WholeState}
use Rattle.mvo_readonly.specs.WholeCauses.{WholeCall}
use Rattle.mvo_readonly.specs.WholeCauses.WholeCall.{CoreCall, BeginReadOnly as BeginReadOnlyCall}
use Rattle.mvo_theory.specs.Calls as theory
use Rattle.mvo_theory.specs.Calls.Call.{Begin as BeginCall, Precommit as PrecommitCall, Validate as ValidateCall, Settle as SettleCall, Rollback as RollbackCall, Finish as FinishCall, Trim as TrimCall, Do as DoCall}
use Rattle.mvo_theory.specs.Calls.Result.{Accepted, Refused as RefusedCall}
use Rattle.mvo_core.specs.Collection.{Collection}
use Rattle.mvo_core.specs.declared.answers.Closed as closing
use Rattle.mvo_core.specs.Seen.{closed_mark_of, HasNewVersions}
use Rattle.mvo_core.specs.WholeStanding.{StandsWhole, LeadsWhole}
use Rattle.mvo_core.specs.WholeAnswers.{InEachWhole, IsAnsweredWhole, IsFinishingWhole, StandsWholeAsBefore, AreFewerWhole}
use Rattle.mvo_core.specs.WholeEnds.{IsEndWhole, IsValidationWhole, IsSettlementWhole}
use Rattle.mvo_core.specs.Trimming.{HasForgotten}
use Rattle.mvo_store.specs.Seen.{mark_of}
use Rattle.mvo_store.specs.Causes.{why_not_take}
use Rattle.mvo_store.specs.Calls.{AnswersCall, ComesTo}
use Rattle.mvo_store.specs.Calls.StoreStep.{Take, Call}
use Rattle.mvo_store.specs.declared.call.StoreCall.{StoreCall}
use Rattle.mvo_store.specs.declared.done.Done.{Done}
use Rattle.mvo_store.specs.declared.done.Done.TheVariants as done
use Rattle.mvo_core.specs.Operations.{PutsRow}
use Rattle.mvo_world.specs.Ring.{oldest, IsClosingInto}
use Rattle.mvo_world.specs.WorldData.{WorldData}
use Rattle.mvo_world.specs.declared.event.Event.{Event}
use Rattle.mvo_world.specs.declared.event.Event.TheVariants.{Begin, BeginReadOnly, Do, Precommit, Validate, Settle, Rollback, Finish, Collect, Trim, CloseGroup, TakeGroup, Store, Poll}
use Rattle.mvo_world.specs.declared.reply.Reply.{Reply}
use Rattle.mvo_world.specs.declared.reply.Reply.TheVariants.{Began, Answered, Prepared, Validated, Settled, RolledBack, Finished, Collected, Trimmed, Closed, Taken, Written, Durable, Polled, Ready, Progress, Shut, Installed, Reclaimed, Refused}

-- ---- the first refusal whose cause stands

abbrev pub or_nothing : {T : Type 0} → Option Refusal → Option T → Option Refusal
or_nothing (Some why) group = Some why
or_nothing None None = Some NothingToDo
or_nothing None (Some g) = None

-- that of the store, and then that no group is closed
abbrev pub why_not_taken : {D : Type 0} → WorldData D → Option Refusal
why_not_taken w = or_nothing (why_not_take w.store) (oldest w.ring)

-- ---- what an accepted event makes of a world

-- The core was asked: from each state that it stands for, read-only transactions among the others,
-- the call may come to this, and it stands for what that leaves. The ring and the store stay.
pub record IsAskedWhole {D : Type 0} (w : WorldData D) (c : WholeCall) (r : theory.Result)
    (w' : WorldData D) : Type 0 where
  pub leads : (opening : Map) (steps own : List Step) (s : WholeState)
      → StandsWhole opening steps own s w.core → LeadsWhole opening steps own s c r w'.core
  pub rest : w' ≡ record w { core = w'.core }

abbrev pub IsAsked : {D : Type 0} → WorldData D → theory.Call → theory.Result → WorldData D → Type 0
IsAsked w c r w' = IsAskedWhole w (CoreCall c) r w'

-- an operation was answered: as the serial step answers on the transaction's snapshot
abbrev pub IsOpAnswered : {D : Type 0} → WorldData D → ℕ → Op → Answer → WorldData D → Type 0
IsOpAnswered w t op a w' = IsAsked w (DoCall t op) Accepted w' × IsAnsweredWhole w.core t op a

-- it is the next timestamp
abbrev pub IsDrawn : {D : Type 0} → WorldData D → ℕ → Type 0
IsDrawn w n = InEachWhole w.core (λ s. n ≡ s.core.clock + 1)

-- A collection came to this: of the core's versions one that is garbage is fewer, or none was. It
-- stands for each state that it stood for. All else stays.
pub record HasCollected {D : Type 0} (w : WorldData D) (c : Collection) (w' : WorldData D) :
    Type 0 where
  pub counts : AreFewerWhole w.core c w'.core
  pub stands : StandsWholeAsBefore w.core w'.core
  pub versions : HasNewVersions w.core w'.core
  pub rest : w' ≡ record w { core = w'.core }

-- the tale starts at the stamp, and what is trimmed and in a closed group is forgotten
pub record HasTrimmed {D : Type 0} (w : WorldData D) (upto : ℕ) (w' : WorldData D) :
    Type 0 where
  pub asked : IsAsked w (TrimCall upto) Accepted w'
  pub forgets : HasForgotten upto (closed_mark_of w.core) w.core w'.core

-- Closing a group came to this: the next group is in the ring, or what is refused leaves all.
-- The store stays.
pub record HasComeTo {D : Type 0} (w : WorldData D) (result : Result closing.Closed Refusal)
    (w' : WorldData D) : Type 0 where
  pub closing : IsClosingInto w.core w.ring result w'.core w'.ring
  pub store : w'.store ≡ w.store

-- the store's call came to this, and the rest stays
pub record IsStored {D : Type 0} (d : Ghosts D) (w : WorldData D) (call : StoreCall)
    (result : Result Done Refusal) (w' : WorldData D) : Type 0 where
  pub comes : ComesTo d w.store (Call call) result w'.store
  pub answers : IfOk result (λ answer. AnswersCall d w.store call answer w'.store)
  pub rest : w' ≡ record w { store = w'.store }

-- the store has the oldest group of the ring
pub record IsGroupTaken {D : Type 0} (d : Ghosts D) (w w' : WorldData D) : Type 0 where
  pub group : GroupData
  pub there : w.ring ≡ group ∷ w'.ring
  pub comes : ComesTo {A = Unit {0}} d w.store (Take group) (Ok tt) w'.store
  pub core : w'.core ≡ w.core

-- ---- the reply

-- to a taking of the oldest closed group
abbrev pub reply_to_taking : Result (Unit {0}) Refusal → Reply
reply_to_taking (Ok a) = Taken
reply_to_taking (Err r) = Refused r

-- to a call of the store
abbrev pub reply_of : Result Done Refusal → Reply
reply_of (Ok done.Written) = Written
reply_of (Ok (done.Durable mark)) = Durable (record { 0 = mark })
reply_of (Ok done.Ready) = Ready
reply_of (Ok (done.Progress progress)) = Progress progress
reply_of (Ok done.Shut) = Shut
reply_of (Ok (done.Installed generation)) = Installed generation
reply_of (Ok (done.Reclaimed reclaimed)) = Reclaimed reclaimed
reply_of (Err r) = Refused r

-- The first refusal whose cause stands; where none does, the event's own answer, and what that
-- makes of the world.
abbrev pub IsReplyTo : {D : Type 0} → Ghosts D → WorldData D → Event → Reply → WorldData D → Type 0
IsReplyTo d w Begin (Began t) w' = IsAsked w BeginCall Accepted w' × IsDrawn w t.0
IsReplyTo d w Begin (Refused r) w' = IsAsked w BeginCall (RefusedCall r) w'
IsReplyTo d w BeginReadOnly (Began t) w' =
    IsAskedWhole w BeginReadOnlyCall Accepted w' × IsDrawn w t.0
IsReplyTo d w BeginReadOnly (Refused r) w' = IsAskedWhole w BeginReadOnlyCall (RefusedCall r) w'
IsReplyTo d w (Do t op) (Answered a) w' = IsOpAnswered w t.0 op a w'
IsReplyTo d w (Do t op) (Refused r) w' = IsAsked w (DoCall t.0 op) (RefusedCall r) w'
IsReplyTo d w (Precommit t) (Prepared e) w' =
    IsAsked w (PrecommitCall t.0) Accepted w' × IsEndWhole w.core t.0 e
IsReplyTo d w (Precommit t) (Refused r) w' = IsAsked w (PrecommitCall t.0) (RefusedCall r) w'
IsReplyTo d w (Validate t) (Validated v) w' =
    IsAsked w (ValidateCall t.0) Accepted w' × IsValidationWhole w.core t.0 v
IsReplyTo d w (Validate t) (Refused r) w' = IsAsked w (ValidateCall t.0) (RefusedCall r) w'
IsReplyTo d w (Settle t) (Settled a) w' =
    IsAsked w (SettleCall t.0) Accepted w' × IsSettlementWhole w.core t.0 a
IsReplyTo d w (Settle t) (Refused r) w' = IsAsked w (SettleCall t.0) (RefusedCall r) w'
IsReplyTo d w (Rollback t) RolledBack w' = IsAsked w (RollbackCall t.0) Accepted w'
IsReplyTo d w (Rollback t) (Refused r) w' = IsAsked w (RollbackCall t.0) (RefusedCall r) w'
IsReplyTo d w (Finish t) (Finished a) w' =
    IsAsked w (FinishCall t.0) Accepted w' × IsFinishingWhole w.core t.0 a
IsReplyTo d w (Finish t) (Refused r) w' = IsAsked w (FinishCall t.0) (RefusedCall r) w'
IsReplyTo d w Collect (Collected c) w' = HasCollected w c w'
IsReplyTo d w (Trim upto) (Trimmed stamp) w' = (stamp ≡ upto) × HasTrimmed w upto.0 w'
IsReplyTo d w (Trim upto) (Refused r) w' =
    (r ≡ NothingToDo) × IsAsked w (TrimCall upto.0) (RefusedCall r) w'
IsReplyTo d w CloseGroup (Closed c) w' = HasComeTo w (Ok c) w'
IsReplyTo d w CloseGroup (Refused r) w' = HasComeTo w (Err r) w'
IsReplyTo d w TakeGroup Taken w' = (why_not_taken w ≡ None) × IsGroupTaken d w w'
IsReplyTo d w TakeGroup (Refused r) w' = (why_not_taken w ≡ Some r) × (w' ≡ w)
IsReplyTo d w (Poll stamp) (Polled answer) w' =
    (answer ≡ nat_le stamp.0 (mark_of w.store)) × (w' ≡ w)
IsReplyTo d w (Store call) r w' =
    (result : Result Done Refusal) × (r ≡ reply_of result) × IsStored d w call result w'
IsReplyTo d w e r w' = ⊥

-- a copy of the event takes memory: it has a row
abbrev pub HasRow : Event → Type 0
HasRow (Do t op) = PutsRow op
HasRow e = ⊥

-- the copy was refused, and nothing happens
pub record IsNotCopied {D : Type 0} (w : WorldData D) (e : Event) (r : Reply) (w' : WorldData D) :
    Type 0 where
  pub row : HasRow e
  pub reply : r ≡ Refused OutOfMemory
  pub same : w' ≡ w

-- the same of an event that is copied first
abbrev pub IsCopiedReplyTo : {D : Type 0} →
    Ghosts D → WorldData D → Event → Reply → WorldData D → Type 0
IsCopiedReplyTo d w e r w' = IsReplyTo d w e r w' ⊎ IsNotCopied w e r w'
