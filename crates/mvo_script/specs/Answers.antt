-- The reply to each line of a script, and what that leaves.
use Rattle.std.specs.Prelude.{◌≡◌, ◌≢◌, ◌⊎◌, ℕ, zero, suc, List, None, Result, Ok, IsSomeAnd}
use Rattle.hex.specs.Hex.{decode_of}
use Rattle.mvo_types.specs.RowData.{RowData}
use Rattle.mvo_types.specs.declared.ids.TxId.{TxId}
use Rattle.mvo_types.specs.declared.ids.Stamp.{Stamp}
use Rattle.mvo_types.specs.declared.op.Op.{Op}
use Rattle.mvo_types.specs.declared.op.Op.TheVariants as op
use Rattle.mvo_types.specs.declared.refusal.Refusal.{Refusal}
use Rattle.mvo_types.specs.declared.refusal.Refusal.TheVariants.{OutOfMemory}
use Rattle.mvo_core.specs.declared.answers.Settlement.TheVariants.{Committed}
use Rattle.mvo_core.specs.declared.answers.Validation.TheVariants as validation
use Rattle.mvo_core.specs.declared.answers.Finishing.TheVariants as finishing
use Rattle.mvo_world.specs.Logging.{IsCallBy}
use Rattle.mvo_world.specs.Replies.{reply_of}
use Rattle.mvo_world.specs.WorldData.{WorldData}
use Rattle.mvo_world.specs.declared.event.Event.{Event}
use Rattle.mvo_world.specs.declared.event.Event.TheVariants as event
use Rattle.mvo_world.specs.declared.reply.Reply.{Reply}
use Rattle.mvo_world.specs.declared.reply.Reply.TheVariants.{Prepared, Validated, Settled, Finished, Polled, Refused}
use Rattle.mvo_script.specs.Bound.{bound_by, BindsBegun, BindsEnd, KeepsBound, is_covered}
use Rattle.mvo_script.specs.Flushing.{IsFlush, IsFlushed}
use Rattle.mvo_script.specs.declared.bound.BoundTx.{BoundTx}
use Rattle.mvo_script.specs.declared.driver.Driver.{Driver}
use Rattle.mvo_script.specs.declared.line.line.Line.{Line}
use Rattle.mvo_script.specs.declared.line.line.Line.TheVariants as line
use Rattle.mvo_script.specs.declared.line.line.RowText.{RowText}
use Rattle.mvo_store.specs.Seen.{mark_of}
use Rattle.mvo_store.specs.Wholes.{AreToRefusal, IsCheckpoint, Part, merge, rotation}
use Rattle.mvo_store.specs.declared.done.Done.{Done}
use Rattle.mvo_script.specs.declared.names.Names.{Names}

-- the line speaks of a name that isn't bound
abbrev pub IsOfNoName : Names → Line → Type 0
IsOfNoName names (line.Read name key) = bound_by names name.now ≡ None
IsOfNoName names (line.Scan name range) = bound_by names name.now ≡ None
IsOfNoName names (line.Insert name row) = bound_by names name.now ≡ None
IsOfNoName names (line.Update name row) = bound_by names name.now ≡ None
IsOfNoName names (line.Delete name key) = bound_by names name.now ≡ None
IsOfNoName names (line.Precommit name) = bound_by names name.now ≡ None
IsOfNoName names (line.Validate name) = bound_by names name.now ≡ None
IsOfNoName names (line.Settle name) = bound_by names name.now ≡ None
IsOfNoName names (line.Rollback name) = bound_by names name.now ≡ None
IsOfNoName names (line.Finish name) = bound_by names name.now ≡ None
IsOfNoName names (line.Commit name) = bound_by names name.now ≡ None
IsOfNoName names (line.Poll name) = bound_by names name.now ≡ None
IsOfNoName names _ = ⊥

-- a settled transaction's end is noted for the name; where it isn't settled, the names stay
abbrev pub NotesEnd : Names → Names → List ℕ → Reply → Type 0
NotesEnd old new name (Settled (Committed end')) = BindsEnd old new name end'
NotesEnd old new name _ = new ≡ old

-- the row that a line gives, with its data
abbrev pub row_of_text : RowText → List ℕ → RowData
row_of_text text bytes = record { key = text.key; sort = text.sort; bytes = bytes }

abbrev pub IsRowOf : RowText → RowData → Type 0
IsRowOf text row =
    (bytes : List ℕ) × (decode_of text.digits.now ≡ Ok bytes) × (row ≡ row_of_text text bytes)

-- a whole job of the world's store came to this, and the names stay
abbrev pub IsWholeJob : {D : Type 0} → Part (WorldData D) → Driver D → Reply → Driver D → Type 0
IsWholeJob Job d r d' = (result : Result Done Refusal) × (r ≡ reply_of result)
    × Job d.world result d'.world × (d'.names ≡ d.names)

-- ---- by the steps of the world that the driver makes
module _ {D : Type 0} (IsStep : WorldData D → Event → Reply → WorldData D → Type 0) where
  -- the world makes this step, and the names stay
  pub record IsStepOf (d : Driver D) (e : Event) (r : Reply) (d' : Driver D) : Type 0 where
    pub step : IsStep d.world e r d'.world
    pub names : d'.names ≡ d.names

  -- begun by this step, as a transaction that the name is bound to; or refused without memory for
  -- the name
  abbrev pub IsBeginStep : Driver D → List ℕ → Event → Reply → Driver D → Type 0
  IsBeginStep d name e r d' =
      (IsStep d.world e r d'.world × BindsBegun d.names d'.names name r)
      ⊎ ((r ≡ Refused OutOfMemory) × (d'.world ≡ d.world) × KeepsBound d.names d'.names)

  -- one step with the row that a line gives
  abbrev pub TakesRow : Driver D → TxId → (RowData → Op) → RowText → Reply → Driver D → Type 0
  TakesRow d tx put text r d' =
      (row : RowData) × IsRowOf text row × IsStepOf d (event.Do tx (put row)) r d'

  -- that is made; or it is refused without memory for the data, and nothing changes
  abbrev pub IsRowStep : Driver D → TxId → (RowData → Op) → RowText → Reply → Driver D → Type 0
  IsRowStep d tx put text r d' =
      TakesRow d tx put text r d' ⊎ ((r ≡ Refused OutOfMemory) × (d' ≡ d))

  -- the transaction is settled, and its end is noted for the name
  pub record IsSettleStep (d : Driver D) (name : List ℕ) (tx : TxId) (r : Reply) (d' : Driver D)
      : Type 0 where
    pub step : IsStep d.world (event.Settle tx) r d'.world
    pub names : NotesEnd d.names d'.names name r

  -- so many steps of one event, each answered that more is left
  abbrev pub AreMoreSteps : Reply → ℕ → Event → Driver D → Driver D → Type 0
  AreMoreSteps more zero e d d' = d' ≡ d
  AreMoreSteps more (suc n) e d d' =
      (v : Driver D) × AreMoreSteps more n e d v × IsStepOf v e more d'

  -- steps of one event while it is answered that more is left, and the reply to the last
  pub record AreStepsOf (more_left : Reply) (d : Driver D) (e : Event) (r : Reply)
      (d' : Driver D) : Type 0 where
    pub count : ℕ
    pub before : Driver D
    pub more : AreMoreSteps more_left count e d before
    pub last : IsStepOf before e r d' ⊎ ((r ≡ more_left) × (d' ≡ before))

  abbrev pub AreChecks : Driver D → TxId → Reply → Driver D → Type 0
  AreChecks d tx = AreStepsOf (Validated validation.More) d (event.Validate tx)

  abbrev pub AreFinishes : Driver D → TxId → Reply → Driver D → Type 0
  AreFinishes d tx = AreStepsOf (Finished finishing.More) d (event.Finish tx)

  -- the transaction is prepared, and validated
  pub record IsValidated (d : Driver D) (tx : TxId) (d' : Driver D) : Type 0 where
    pub stop : Stamp
    pub then_on : Driver D
    pub prepared : IsStepOf d (event.Precommit tx) (Prepared stop) then_on
    pub checked : AreChecks then_on tx (Validated validation.Valid) d'

  -- A commit: it is answered as its first part that isn't as it should be, or as the settle. The
  -- parts are a precommit, a validation, a settle and a finish.
  pub data IsCommit (d : Driver D) (name : List ℕ) (tx : TxId) (r : Reply) (d' : Driver D) : Type 0
    where
      AtPrecommit : ((stop : Stamp) → r ≢ Prepared stop)
          → IsStepOf d (event.Precommit tx) r d' → IsCommit d name tx r d'
      AtValidate : (stop : Stamp) (v : Driver D) → r ≢ Validated validation.Valid
          → IsStepOf d (event.Precommit tx) (Prepared stop) v
          → AreChecks v tx r d' → IsCommit d name tx r d'
      AtSettle : (v : Driver D) → ((end' : Stamp) → r ≢ Settled (Committed end'))
          → IsValidated d tx v → IsSettleStep v name tx r d' → IsCommit d name tx r d'
      AtFinish : (v u : Driver D) (end' : Stamp) → r ≢ Finished finishing.Done
          → IsValidated d tx v → IsSettleStep v name tx (Settled (Committed end')) u
          → AreFinishes u tx r d' → IsCommit d name tx r d'
      AtEnd : (v u : Driver D) (end' : Stamp) → r ≡ Settled (Committed end')
          → IsValidated d tx v → IsSettleStep v name tx r u
          → AreFinishes u tx (Finished finishing.Done) d' → IsCommit d name tx r d'

  -- one step of the transaction that the name is bound to
  abbrev pub IsTxStep : Driver D → List ℕ → (TxId → Event) → Reply → Driver D → Type 0
  IsTxStep d name e r d' = IsSomeAnd (bound_by d.names name) (λ b. IsStepOf d (e b.tx) r d')

  -- that step is an operation
  abbrev pub IsTxOp : Driver D → List ℕ → Op → Reply → Driver D → Type 0
  IsTxOp d name op r d' = IsTxStep d name (λ tx. event.Do tx op) r d'

  -- the same with the row that a line gives
  abbrev pub IsTxRowStep : Driver D → List ℕ → (RowData → Op) → RowText → Reply → Driver D
      → Type 0
  IsTxRowStep d name put text r d' =
      IsSomeAnd (bound_by d.names name) (λ b. IsRowStep d b.tx put text r d')

  -- whether the transaction that the name is bound to is durable; nothing changes
  abbrev pub IsPolled : Driver D → BoundTx → Reply → Driver D → Type 0
  IsPolled d b r d' = (r ≡ Polled (is_covered (mark_of d.world.store) b.end)) × (d' ≡ d)

  -- a line is answered
  abbrev pub IsAnswerTo : Driver D → Line → Reply → Driver D → Type 0
  IsAnswerTo d (line.Begin name) r d' = IsBeginStep d name.now event.Begin r d'
  IsAnswerTo d (line.BeginReadOnly name) r d' = IsBeginStep d name.now event.BeginReadOnly r d'
  IsAnswerTo d (line.Read name key) r d' = IsTxOp d name.now (op.Read key) r d'
  IsAnswerTo d (line.Scan name range) r d' =
      IsTxOp d name.now (op.Scan range.table range.lo range.hi) r d'
  IsAnswerTo d (line.Insert name text) r d' = IsTxRowStep d name.now op.Insert text r d'
  IsAnswerTo d (line.Update name text) r d' = IsTxRowStep d name.now op.Update text r d'
  IsAnswerTo d (line.Delete name key) r d' = IsTxOp d name.now (op.Delete key) r d'
  IsAnswerTo d (line.Precommit name) r d' = IsTxStep d name.now event.Precommit r d'
  IsAnswerTo d (line.Validate name) r d' = IsTxStep d name.now event.Validate r d'
  IsAnswerTo d (line.Settle name) r d' =
      IsSomeAnd (bound_by d.names name.now) (λ b. IsSettleStep d name.now b.tx r d')
  IsAnswerTo d (line.Rollback name) r d' = IsTxStep d name.now event.Rollback r d'
  IsAnswerTo d (line.Finish name) r d' = IsTxStep d name.now event.Finish r d'
  IsAnswerTo d (line.Commit name) r d' =
      IsSomeAnd (bound_by d.names name.now) (λ b. IsCommit d name.now b.tx r d')
  IsAnswerTo d (line.Poll name) r d' =
      IsSomeAnd (bound_by d.names name.now) (λ b. IsPolled d b r d')
  IsAnswerTo d line.Collect r d' = IsStepOf d event.Collect r d'
  IsAnswerTo d (line.Trim upto) r d' = IsStepOf d (event.Trim upto) r d'
  IsAnswerTo d line.Group r d' = IsStepOf d event.CloseGroup r d'
  IsAnswerTo d line.Take r d' = IsStepOf d event.TakeGroup r d'
  IsAnswerTo d line.Flush r d' =
      IsFlush IsStep d.world r d'.world × IsFlushed d'.world r × (d'.names ≡ d.names)
  IsAnswerTo d line.Rotate r d' = IsWholeJob (AreToRefusal (IsCallBy IsStep) rotation) d r d'
  IsAnswerTo d line.Checkpoint r d' = IsWholeJob (IsCheckpoint (IsCallBy IsStep)) d r d'
  IsAnswerTo d (line.Merge place) r d' =
      IsWholeJob (AreToRefusal (IsCallBy IsStep) (merge place)) d r d'
  IsAnswerTo d (line.Store call) r d' = IsStepOf d (event.Store call) r d'

  -- a line is answered, for the transaction that its name is bound to
  abbrev pub IsAnswerBy : Driver D → Line → List ℕ → BoundTx → Reply → Driver D → Type 0
  IsAnswerBy d (line.Read _ key) name b r d' = IsStepOf d (event.Do b.tx (op.Read key)) r d'
  IsAnswerBy d (line.Scan _ range) name b r d' =
      IsStepOf d (event.Do b.tx (op.Scan range.table range.lo range.hi)) r d'
  IsAnswerBy d (line.Insert _ text) name b r d' = IsRowStep d b.tx op.Insert text r d'
  IsAnswerBy d (line.Update _ text) name b r d' = IsRowStep d b.tx op.Update text r d'
  IsAnswerBy d (line.Delete _ key) name b r d' = IsStepOf d (event.Do b.tx (op.Delete key)) r d'
  IsAnswerBy d (line.Precommit _) name b r d' = IsStepOf d (event.Precommit b.tx) r d'
  IsAnswerBy d (line.Validate _) name b r d' = IsStepOf d (event.Validate b.tx) r d'
  IsAnswerBy d (line.Settle _) name b r d' = IsSettleStep d name b.tx r d'
  IsAnswerBy d (line.Rollback _) name b r d' = IsStepOf d (event.Rollback b.tx) r d'
  IsAnswerBy d (line.Finish _) name b r d' = IsStepOf d (event.Finish b.tx) r d'
  IsAnswerBy d (line.Commit _) name b r d' = IsCommit d name b.tx r d'
  IsAnswerBy d (line.Poll _) name b r d' = IsPolled d b r d'
  IsAnswerBy d _ name b r d' = ⊥
