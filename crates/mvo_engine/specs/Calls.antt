-- What the calls under the locks come to, and those of a session.
use Rattle.std.specs.Prelude.{◌≡◌, ◌⊎◌, ◌<◌, ◌≤◌, ◌+◌, ℕ, Bool, true, false, List, [], ◌∷◌, ◌++◌, Option, None, Some, Result, Ok, Err, if◌then◌else◌, max, IfOk, IfSome}
use Rattle.mvo_types.specs.declared.refusal.Refusal.{Refusal}
use Rattle.mvo_types.specs.declared.refusal.Refusal.TheVariants.{NoSuchTransaction, Ended, Busy, NothingToDo, OutOfMemory}
use Rattle.mvo_types.specs.declared.ids.TxId.{TxId}
use Rattle.mvo_types.specs.declared.ids.Stamp.{Stamp}
use Rattle.mvo_types.specs.declared.op.Op.{Op}
use Rattle.mvo_types.specs.declared.answer.Answer.{Answer}
use Rattle.mvo_types.specs.AnswerData.{answer_data}
use Rattle.mvo_types.specs.Keys.{Map}
use Rattle.mvo_model.specs.History.{History}
use Rattle.mvo_model.specs.Trace.{Step}
use Rattle.mvo_disk.specs.declared.disk.Disk.{Ghosts}
use Rattle.mvo_group.specs.Data.{GroupData}
use Rattle.mvo_theory.specs.Calls as theory
use Rattle.mvo_theory.specs.Calls.Call.{Begin, Settle}
use Rattle.mvo_theory.specs.Causes.{is_failure}
use Rattle.mvo_readonly.specs.Whole.{WholeState}
use Rattle.mvo_core.specs.declared.answers.Closed.{Closed}
use Rattle.mvo_core.specs.declared.answers.Settlement.{Settlement}
use Rattle.mvo_core.specs.Holding.{HoldsJustWhole}
use Rattle.mvo_core.specs.Data.{CoreData}
use Rattle.mvo_core.specs.Seen.{clock_of}
use Rattle.mvo_core.specs.WholeClosing.{IsClosedWhole, IsNotClosedWhole}
use Rattle.mvo_core.specs.WholeStanding.{StandsWhole, IsWholeStep, IsReadOnlyBegin}
use Rattle.mvo_store.specs.StoreData.{StoreData}
use Rattle.mvo_store.specs.Seen.{mark_of}
use Rattle.mvo_store.specs.Causes.{why_not_take}
use Rattle.mvo_store.specs.Calls.{AnswersCall, AnswersSlice, AnswersPlaces, AnswersReading, AnswersCheckpointReading, IsStoreStep, StoreStep}
use Rattle.mvo_store.specs.Calls.StoreStep.{Take, Call, Slice as SliceOf, Place}
use Rattle.mvo_store.specs.Calls.StoreStep.{MergeBegin as BeginMerge, MergeReadOn, MergeForget as ForgetMerge}
use Rattle.mvo_store.specs.Calls.StoreStep.{CheckpointBegin as BeginCheckpoint, CheckpointReadOn, CheckpointForget as ForgetCheckpoint, Shorten as CutLong}
use Rattle.mvo_store.specs.Reclaiming.{HasShortened}
use Rattle.mvo_store.specs.declared.jobs.due.Due.TheVariants.{Data, MergeData, Install}
use Rattle.mvo_store.specs.declared.install.generation.Generation.{Generation}
use Rattle.mvo_store.specs.declared.install.install_step.InstallStep.TheVariants.{Open}
use Rattle.mvo_store.specs.declared.install.spent.Spent.{Spent}
use Rattle.mvo_store.specs.Jobs.{next_installed}
use Rattle.mvo_store.specs.Steps.{spent_by}
use Rattle.mvo_store.specs.declared.jobs.progress.Progress.{Progress}
use Rattle.mvo_store.specs.declared.jobs.progress.Progress.TheVariants.{More, Ready}
use Rattle.mvo_store.specs.declared.call.StoreCall.{StoreCall}
use Rattle.mvo_store.specs.declared.call.StoreCall.TheVariants.{Step as StepOf}
use Rattle.mvo_store.specs.declared.done.Done.{Done}
use Rattle.mvo_store.specs.declared.done.Done.TheVariants.{Durable, Installed}
use Rattle.mvo_engine.specs.declared.run.run.TheConstants.{MAX_SESSIONS}
use Rattle.mvo_engine.specs.declared.slice.Slice.{Slice}
use Rattle.mvo_engine.specs.declared.slice.Slice.TheVariants.{Checkpoint, Merge, Places, MergeBegin, MergeRead, MergeForget, CheckpointBegin, CheckpointRead, CheckpointForget, Shorten}
use Rattle.mvo_core.specs.Receipts.{receipt}
use Rattle.mvo_engine.specs.States.{CoreState, SendsState, StoreState, SessionState}

-- a step of the core that closes no group
pub record IsCoreStep {A : Type 0} (old : CoreState) (call : theory.Call)
    (result : Result A Refusal) (new : CoreState) : Type 0 where
  pub step : IsWholeStep old.core call result new.core
  pub sends : new.sends ≡ old.sends
  pub made : new.made ≡ old.made

-- The core begins a transaction; or it is refused with Busy, since the clock is below the stamp.
abbrev pub IsBeginning : {A : Type 0} → CoreState → ℕ → Result A Refusal → CoreState → Type 0
IsBeginning old last result new =
    ((last ≤ clock_of old.core) × IsCoreStep old Begin result new)
    ⊎ ((clock_of old.core < last) × (result ≡ Err Busy) × (new ≡ old))

-- So a read-only one begins.
pub record IsReadOnlyStep {A : Type 0} (old : CoreState) (result : Result A Refusal)
    (new : CoreState) : Type 0 where
  pub step : IsReadOnlyBegin old.core result new.core
  pub sends : new.sends ≡ old.sends
  pub made : new.made ≡ old.made

abbrev pub IsReadOnlyBeginning : {A : Type 0} → CoreState → ℕ → Result A Refusal → CoreState
    → Type 0
IsReadOnlyBeginning old last result new =
    ((last ≤ clock_of old.core) × IsReadOnlyStep old result new)
    ⊎ ((clock_of old.core < last) × (result ≡ Err Busy) × (new ≡ old))

-- The core settles the transaction, which was told just this; or it is refused with Busy, since the
-- transaction was told something else.
abbrev pub IsSettling : CoreState → ℕ → History → Result Settlement Refusal → CoreState → Type 0
IsSettling old t told result new =
    (HoldsJustWhole old.core t told true × IsCoreStep old (Settle t) result new)
    ⊎ (HoldsJustWhole old.core t told false × (result ≡ Err Busy) × (new ≡ old))

-- one session more was made; or none, as many were made as may be
abbrev pub IsAnother : {A : Type 0} → CoreState → Option A → CoreState → Type 0
IsAnother old (Some seat) new =
    (old.made < MAX_SESSIONS) × (new ≡ record old { made = old.made + 1 })
IsAnother old None new = (MAX_SESSIONS ≤ old.made) × (new ≡ old)

-- The next group is sent, and the closed mark raised to its mark and no further; or none, by the
-- first cause that stands, and else for want of memory. Whether the ring is full is what the
-- closing saw of it.
abbrev pub HasSent : Map → List Step → List Step → WholeState → SendsState
    → Result Closed Refusal → CoreData → SendsState → Type 0
HasSent rows steps own w old (Ok c) core new =
    ((g : GroupData) × (new.sent ≡ old.sent ++ g ∷ [])
    × IsClosedWhole rows steps own w c core g)
    × (new.raised ≡ max old.raised c.mark.0)
HasSent rows steps own w old (Err r) core new =
    (new.sent ≡ old.sent) × ((full : Bool) × IsNotClosedWhole rows steps own w full r core)
    × (new.raised ≡ old.raised)

abbrev pub IsSending : CoreData → SendsState → Result Closed Refusal → CoreData → SendsState
    → Type 0
IsSending core old result core' new = (rows : Map) (steps own : List Step) (w : WholeState)
    → StandsWhole rows steps own w core → HasSent rows steps own w old result core' new

-- so it is for what lies under the lock, and no session is made
pub record IsCoreSending (old : CoreState) (result : Result Closed Refusal) (new : CoreState)
    : Type 0 where
  pub sending : IsSending old.core old.sends result new.core new.sends
  pub made : new.made ≡ old.made

-- the next group, which begins at the store's mark, is being appended
pub record HasTaken {D : Type 0} (d : Ghosts D) (old new : StoreState D) : Type 0 where
  pub group : GroupData
  pub prev : group.prev ≡ mark_of old.store
  pub received : new.received ≡ old.received ++ group ∷ []
  pub step : IsStoreStep {A = Unit {0}} d old.store (Take group) (Ok tt) new.store
  pub published : new.published ≡ old.published

-- what the store refuses for, and else that no group was seen in the ring
abbrev pub is_refusal_to_take : Option Refusal → Refusal → Type 0
is_refusal_to_take None e = e ≡ NothingToDo
is_refusal_to_take (Some cause) e = e ≡ cause

pub record IsNotTaken {D : Type 0} (old : StoreState D) (e : Refusal) (new : StoreState D) : Type 0
  where
    pub refusal : is_refusal_to_take (why_not_take old.store) e
    pub store : new.store ≡ old.store
    pub received : new.received ≡ old.received
    pub published : new.published ≡ old.published

-- the next group is taken, or not
abbrev pub IsTaking : {D A : Type 0} → Ghosts D → StoreState D → Result A Refusal → StoreState D
    → Type 0
IsTaking d old (Ok a) new = HasTaken d old new
IsTaking d old (Err e) new = IsNotTaken old e new

-- what is published behind a call: also a mark that it answers durable
abbrev pub published_by : ℕ → Result Done Refusal → ℕ
published_by published (Ok (Durable mark)) = max published mark
published_by published result = published

-- A call of the store: no group is received, and a mark that is durable then is published.
pub record IsLockedCall {D : Type 0} (d : Ghosts D) (old : StoreState D) (call : StoreCall)
    (result : Result Done Refusal) (new : StoreState D) : Type 0 where
  pub step : IsStoreStep d old.store (Call call) result new.store
  pub answers : IfOk result (λ done. AnswersCall d old.store call done new.store)
  pub received : new.received ≡ old.received
  pub published : new.published ≡ published_by old.published result

-- what a slice asks of the store
abbrev pub asked_by : Slice → StoreStep
asked_by Checkpoint = SliceOf Data
asked_by Merge = SliceOf MergeData
asked_by Places = Place
asked_by (MergeBegin place) = BeginMerge place
asked_by MergeRead = MergeReadOn
asked_by MergeForget = ForgetMerge
asked_by CheckpointBegin = BeginCheckpoint
asked_by CheckpointRead = CheckpointReadOn
asked_by CheckpointForget = ForgetCheckpoint
asked_by Shorten = CutLong

-- what is told of what has no answer
abbrev pub told_with : Progress → Result (Unit {0}) Refusal → Result Progress Refusal
told_with progress (Ok _) = Ok progress
told_with progress (Err e) = Err e

-- Whether more of these slices are left: behind what begins they are, and behind what is forgotten
-- none.
abbrev pub AnswersAsked : {D : Type 0} → Ghosts D → Slice → StoreData D → StoreData D → Progress
    → Type 0
AnswersAsked d Checkpoint old new progress = AnswersSlice Data new progress
AnswersAsked d Merge old new progress = AnswersSlice MergeData new progress
AnswersAsked d Places old new progress = AnswersPlaces new progress
AnswersAsked d (MergeBegin place) old new progress = progress ≡ More
AnswersAsked d MergeRead old new progress = AnswersReading new progress
AnswersAsked d MergeForget old new progress = progress ≡ Ready
AnswersAsked d CheckpointBegin old new progress = progress ≡ More
AnswersAsked d CheckpointRead old new progress = AnswersCheckpointReading new progress
AnswersAsked d CheckpointForget old new progress = progress ≡ Ready
AnswersAsked d Shorten old new progress = HasShortened d old progress new

-- A slice: no group is received, and no mark published.
pub record IsLockedSlice {D : Type 0} (d : Ghosts D) (old : StoreState D) (slice : Slice)
    (result : Result Progress Refusal) (new : StoreState D) : Type 0 where
  pub step : IsStoreStep d old.store (asked_by slice) result new.store
  pub answers : IfOk result (λ progress. AnswersAsked d slice old.store new.store progress)
  pub received : new.received ≡ old.received
  pub published : new.published ≡ old.published

-- what the call answers that installs a manifest
abbrev pub installed_by : Result (Generation × Spent) Refusal → Result Done Refusal
installed_by (Ok opened) = Ok (Installed opened.0)
installed_by (Err e) = Err e

-- A manifest is installed, as by the call, and what its job held is answered beside.
pub record IsLockedOpening {D : Type 0} (d : Ghosts D) (old : StoreState D)
    (result : Result (Generation × Spent) Refusal) (new : StoreState D) : Type 0 where
  pub call : IsLockedCall d old (StepOf (Install Open)) (installed_by result) new
  pub spent : IfOk result (λ opened. opened.1 ≡ spent_by (next_installed old.store.jobs))

-- ---- a session

-- Refused with Busy where it has a transaction. Begun, it has the new one, and else what it had.
abbrev pub IsBegun : Option ℕ → Result TxId Refusal → Option ℕ → Type 0
IsBegun (Some t) result after = (result ≡ Err Busy) × (after ≡ Some t)
IsBegun None (Ok t) after = after ≡ Some t.0
IsBegun None (Err r) after = after ≡ None

-- refused where it has none
abbrev pub IsNoTx : {A : Type 0} → Option ℕ → Result A Refusal → Type 0
IsNoTx None result = result ≡ Err NoSuchTransaction
IsNoTx (Some t) result = Unit {0}

-- a failure ends the transaction, and it is over where the core has none, or says that it ended
abbrev pub ends_transaction : Refusal → Bool
ends_transaction NoSuchTransaction = true
ends_transaction Ended = true
ends_transaction r = is_failure r

-- what a refusal leaves
abbrev pub session_after : Refusal → SessionState → SessionState
session_after r s = record s { tx = if ends_transaction r then None else s.tx }

-- What an operation was answered is one more of what it was told. Where memory is refused, it may
-- have been rolled back: then the core had answered, and the copy was refused.
abbrev pub HasAsked : SessionState → Op → Result Answer Refusal → SessionState → Type 0
HasAsked old op (Ok a) new = new ≡ record old { told = old.told ++ (op, answer_data a) ∷ [] }
HasAsked old op (Err r) new =
    (new ≡ session_after r old) ⊎ ((r ≡ OutOfMemory) × (new ≡ record old { tx = None }))

-- A commit ends the transaction, and adds its receipt: what its calls were answered.
abbrev pub HasCommitted : SessionState → Result Stamp Refusal → SessionState → Type 0
HasCommitted old (Ok e) new = IfSome old.tx (λ t. new ≡ record old {
  tx = None;
  told = [];
  receipts = old.receipts ++ receipt t e.0 old.told ∷ [];
})
HasCommitted old (Err r) new = new ≡ session_after r old

-- so does a rollback, without one
abbrev pub HasLeft : {A : Type 0} → SessionState → Result A Refusal → SessionState → Type 0
HasLeft old (Ok a) new = new ≡ record old { tx = None }
HasLeft old (Err r) new = new ≡ session_after r old
