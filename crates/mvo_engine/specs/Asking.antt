-- What the calls of a session come to that answer of their kind, where an operation has an answer.
use Rattle.std.specs.Prelude.{◌≡◌, ◌⊎◌, Bool, true, false, Option, Result, Ok, Err, IfErr}
use Rattle.std.specs.declared.vec.Vec.{Vec}
use Rattle.std.specs.declared.alloc.Global.{Global}
use Rattle.mvo_types.specs.declared.answer.Answer.{Answer}
use Rattle.mvo_types.specs.declared.answer.Answer.TheVariants.{Found, Rows, Inserted, Exists, Updated, Deleted, Absent}
use Rattle.mvo_types.specs.declared.op.Op.{Op}
use Rattle.mvo_types.specs.declared.op.Op.TheVariants.{Read, Scan, Insert, Update, Delete}
use Rattle.mvo_types.specs.declared.refusal.Refusal.{Refusal}
use Rattle.mvo_types.specs.declared.refusal.Refusal.TheVariants.{Busy, OutOfMemory}
use Rattle.mvo_types.specs.RowData.{RowData}
use Rattle.mvo_engine.specs.run.Opening.{Opening}
use Rattle.mvo_engine.specs.States.{SessionState}
use Rattle.mvo_engine.specs.Asked.{HasLeftTx, IsCoreAnswer}
use Rattle.mvo_engine.specs.Calls.{HasAsked, IsNoTx}
use Rattle.mvo_engine.specs.Refusing.{refuses_operation}

-- An operation came to this: its answer is one more of what the transaction was told, and the core
-- gave it; or it is refused, as the core refused it, and so without a transaction.
pub record IsOperation (o : Opening) (old : SessionState) (op : Op)
    (result : Result Answer Refusal) (new : SessionState) : Type 0 where
  pub none : IsNoTx old.tx result
  pub asked : HasAsked old op result new
  pub core : IsCoreAnswer o old.tx op result
  pub tx : IfErr result (λ e. HasLeftTx o old.tx e new.tx)
  pub err : IfErr result (λ e. refuses_operation op e ≡ true)

-- ---- what an operation may be answered
abbrev pub IsEither : Answer → Answer → Answer → Type 0
IsEither one other a = (a ≡ one) ⊎ (a ≡ other)

abbrev pub IsFinding : Answer → Type 0
IsFinding a = (row : Option RowData) × (a ≡ Found row)

abbrev pub IsListOfRows : Answer → Type 0
IsListOfRows a = (rows : Vec RowData Global) × (a ≡ Rows rows)

abbrev pub IsOfKind : Op → Answer → Type 0
IsOfKind (Read key) a = IsFinding a
IsOfKind (Scan table lo hi) a = IsListOfRows a
IsOfKind (Insert row) a = IsEither Inserted Exists a
IsOfKind (Update row) a = IsEither Updated Absent a
IsOfKind (Delete key) a = IsEither Deleted Absent a

-- ---- what the operation was answered, by what its call answers
abbrev pub found_row : Result (Option RowData) Refusal → Result Answer Refusal
found_row (Ok row) = Ok (Found row)
found_row (Err e) = Err e

abbrev pub listed_rows : Result (Vec RowData Global) Refusal → Result Answer Refusal
listed_rows (Ok rows) = Ok (Rows rows)
listed_rows (Err e) = Err e

abbrev pub either : Answer → Answer → Result Bool Refusal → Result Answer Refusal
either one other (Ok true) = Ok one
either one other (Ok false) = Ok other
either one other (Err e) = Err e

abbrev pub inserted : Result Bool Refusal → Result Answer Refusal
inserted result = either Inserted Exists result

abbrev pub updated : Result Bool Refusal → Result Answer Refusal
updated result = either Updated Absent result

abbrev pub deleted : Result Bool Refusal → Result Answer Refusal
deleted result = either Deleted Absent result

-- ---- a row that is put
-- No row was shown to the update, and the insert came to this.
pub record IsPutAnew (o : Opening) (old : SessionState) (row : RowData)
    (result : Result Answer Refusal) (new : SessionState) : Type 0 where
  pub between : SessionState
  pub absent : IsOperation o old (Update row) (Ok Absent) between
  pub insert : IsOperation o between (Insert row) result new

-- A put that is refused: memory for a copy of the row is; or the update is; or none was shown to
-- that, and the insert is, or a row was shown to it.
pub data IsNotPut (o : Opening) (old : SessionState) (row : RowData) (e : Refusal)
    (new : SessionState) : Type 0 where
  Copying : e ≡ OutOfMemory → new ≡ old → IsNotPut o old row e new
  Replacing : IsOperation o old (Update row) (Err e) new → IsNotPut o old row e new
  Adding : IsPutAnew o old row (Err e) new → IsNotPut o old row e new
  Shown : e ≡ Busy → IsPutAnew o old row (Ok Exists) new → IsNotPut o old row e new

-- an update replaced a row; or it was shown none, and an insert put this one
abbrev pub HasPut : Opening → SessionState → RowData → Result Bool Refusal → SessionState → Type 0
HasPut o old row (Ok true) new = IsOperation o old (Update row) (Ok Updated) new
HasPut o old row (Ok false) new = IsPutAnew o old row (Ok Inserted) new
HasPut o old row (Err e) new = IsNotPut o old row e new
