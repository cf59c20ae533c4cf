-- Reads at many keys, one after another under one hold of the lock of the core.
use Rattle.std.specs.Prelude.{◌≡◌, ◌<◌, ◌≤◌, ◌++◌, ◌∷◌, ℕ, List, length, map, true, Option, None, Some, Err}
use Rattle.std.specs.List.{AllByRecursion}
use Rattle.mvo_types.specs.declared.answer.Answer.{Answer}
use Rattle.mvo_types.specs.declared.answer.Answer.TheVariants.{Found, Rows, Inserted, Exists, Updated, Deleted, Absent}
use Rattle.mvo_types.specs.declared.op.Op.{Op}
use Rattle.mvo_types.specs.declared.op.Op.TheVariants.{Read}
use Rattle.mvo_types.specs.declared.refusal.Refusal.{Refusal}
use Rattle.mvo_types.specs.declared.refusal.Refusal.TheVariants.{NoSuchTransaction, OutOfMemory, TooManyReads}
use Rattle.mvo_types.specs.declared.row.RowKey.{RowKey}
use Rattle.mvo_types.specs.RowData.{RowData}
use Rattle.mvo_theory.specs.Calls.Call.{Do}
use Rattle.mvo_theory.specs.Told.{history_told}
use Rattle.mvo_engine.specs.run.Opening.{Opening}
use Rattle.mvo_engine.specs.States.{SessionState}
use Rattle.mvo_engine.specs.Calls.{session_after}
use Rattle.mvo_engine.specs.Asked.{WasAsked, WasAnswered, HasLeftTx, HasGone}
use Rattle.mvo_engine.specs.Asking.{IsFinding}
use Rattle.mvo_engine.specs.Refusing.{refuses_operation}
use Rattle.mvo_engine.specs.declared.session.reading_all.TheConstants.{READ_AT_ONCE}

-- what the core answered to each, in the transaction
abbrev pub AreCoreAnswers : Opening → ℕ → List (Op × Answer) → Type 0
AreCoreAnswers o t reads = AllByRecursion (λ r. WasAnswered o t r.0 r.1) reads

-- each found a row, or that none is shown
abbrev pub AreFinding : List (Op × Answer) → Type 0
AreFinding reads = AllByRecursion (λ r. IsFinding r.1) reads

-- the row that was found, if one was
abbrev pub row_found : Answer → Option RowData
row_found (Found row) = row
row_found (Rows rows) = None
row_found Inserted = None
row_found Exists = None
row_found Updated = None
row_found Deleted = None
row_found Absent = None

-- they are reads at these keys
abbrev pub AreReadsOf : List RowKey → List (Op × Answer) → Type 0
AreReadsOf keys reads = map (λ r. r.0) reads ≡ map Read keys

-- The core refused the read at the key behind these.
pub record IsRefusedRead (o : Opening) (t : ℕ) (keys : List RowKey) (reads : List (Op × Answer))
    (e : Refusal) : Type 0 where
  pub key : RowKey
  pub rest : List RowKey
  pub ops : map (λ r. r.0) reads ++ Read key ∷ map Read rest ≡ map Read keys
  pub refused : WasAsked {A = Answer} o (Do t (Read key)) (Err e)
  pub listed : refuses_operation (Read key) e ≡ true

-- all of them; or those before one that was refused so
abbrev pub AreReadUpTo : Opening → ℕ → List RowKey → List (Op × Answer) → Option Refusal → Type 0
AreReadUpTo o t keys reads None = AreReadsOf keys reads
AreReadUpTo o t keys reads (Some e) = IsRefusedRead o t keys reads e

-- It is in a transaction, and there are no more keys than may be.
pub record MayReadAll (old : SessionState) (keys : List RowKey) : Type 0 where
  pub tx : ℕ
  pub there : old.tx ≡ Some tx
  pub few : length keys ≤ READ_AT_ONCE

-- All were read in the transaction: the answers are the rows, and are what it was told besides.
pub record HasReadAll (o : Opening) (old : SessionState) (keys : List RowKey)
    (rows : List (Option RowData)) (new : SessionState) : Type 0 where
  pub may : MayReadAll old keys
  pub reads : List (Op × Answer)
  pub answered : AreCoreAnswers o may.tx reads
  pub ops : AreReadsOf keys reads
  pub answers : map Found rows ≡ map (λ r. r.1) reads
  pub session : new ≡ record old { told = old.told ++ history_told reads }

-- The read behind these was refused; what they were answered counts.
pub record HasReadSome (o : Opening) (old : SessionState) (keys : List RowKey) (e : Refusal)
    (new : SessionState) : Type 0 where
  pub may : MayReadAll old keys
  pub reads : List (Op × Answer)
  pub answered : AreCoreAnswers o may.tx reads
  pub refused : IsRefusedRead o may.tx keys reads e
  pub session : new ≡ session_after e (record old { told = old.told ++ history_told reads })
  pub left : HasLeftTx o old.tx e new.tx

-- It is refused without a transaction; else for too many keys; else for want of memory, before any
-- read or with the transaction rolled back; or as one of the reads.
pub data HasNotReadAll (o : Opening) (old : SessionState) (keys : List RowKey) (e : Refusal)
    (new : SessionState) : Type 0 where
  NoTx : old.tx ≡ None → e ≡ NoSuchTransaction → new ≡ old → HasNotReadAll o old keys e new
  TooMany : (tx : ℕ) → old.tx ≡ Some tx → READ_AT_ONCE < length keys → e ≡ TooManyReads
      → new ≡ old → HasNotReadAll o old keys e new
  NoMemory : MayReadAll old keys → e ≡ OutOfMemory → new ≡ old → HasNotReadAll o old keys e new
  Gone : (may : MayReadAll old keys) → e ≡ OutOfMemory → HasGone o may.tx
      → new ≡ record old { tx = None; told = new.told } → HasNotReadAll o old keys e new
  Refused : HasReadSome o old keys e new → HasNotReadAll o old keys e new
