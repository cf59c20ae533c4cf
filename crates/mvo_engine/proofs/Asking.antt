-- Calls of a session that answer of their kind.
use Rattle.std.proofs.Common.{◌≡◌, ℕ, inl, inr, Bool, true, false, Option, None, Some, Result, Ok, Err, refl}
use Rattle.std.specs.Prelude.{◌⊎◌, List, IfOk, if◌then◌else◌}
use Rattle.mvo_types.specs.declared.answer.Answer.{Answer}
use Rattle.mvo_types.specs.declared.answer.Answer.TheVariants.{Found, Rows, Inserted, Exists, Updated, Deleted, Absent}
use Rattle.mvo_types.specs.declared.op.Op.{Op}
use Rattle.mvo_types.specs.declared.op.Op.TheVariants.{Read, Scan, Insert, Update, Delete}
use Rattle.mvo_types.specs.declared.refusal.Refusal.{Refusal}
use Rattle.mvo_types.specs.declared.refusal.Refusal.TheVariants.{NoSuchTransaction}
use Rattle.mvo_types.specs.AnswerData.{answer_data}
use Rattle.mvo_types.specs.RowData.{RowData}
use Rattle.mvo_types.specs.AnswerData.AnswerData.{Found as FoundData, Rows as RowsData, Inserted as InsertedData, Exists as ExistsData, Updated as UpdatedData, Deleted as DeletedData, Absent as AbsentData}
use Rattle.mvo_types.specs.Keys.{Map}
use Rattle.mvo_model.specs.Serial.{answer_to}
use Rattle.mvo_theory.specs.State.{snapshot}
use Rattle.mvo_engine.specs.run.Opening.{Opening}
use Rattle.mvo_engine.specs.Asked.{WasAnswered, IsCoreAnswer}
use Rattle.mvo_engine.specs.Asking.{IsOfKind, IsEither, IsFinding, IsListOfRows}
use Rattle.mvo_engine.specs.Calls.{IsNoTx}

-- ---- which answer it is, by what contracts see of it
is_inserted : (a : Answer) → answer_data a ≡ InsertedData → a ≡ Inserted
is_inserted (Found r) is = absurd cc
is_inserted (Rows v) is = absurd cc
is_inserted Inserted is = refl
is_inserted Exists is = absurd cc
is_inserted Updated is = absurd cc
is_inserted Deleted is = absurd cc
is_inserted Absent is = absurd cc

is_exists : (a : Answer) → answer_data a ≡ ExistsData → a ≡ Exists
is_exists (Found r) is = absurd cc
is_exists (Rows v) is = absurd cc
is_exists Inserted is = absurd cc
is_exists Exists is = refl
is_exists Updated is = absurd cc
is_exists Deleted is = absurd cc
is_exists Absent is = absurd cc

is_updated : (a : Answer) → answer_data a ≡ UpdatedData → a ≡ Updated
is_updated (Found r) is = absurd cc
is_updated (Rows v) is = absurd cc
is_updated Inserted is = absurd cc
is_updated Exists is = absurd cc
is_updated Updated is = refl
is_updated Deleted is = absurd cc
is_updated Absent is = absurd cc

is_deleted : (a : Answer) → answer_data a ≡ DeletedData → a ≡ Deleted
is_deleted (Found r) is = absurd cc
is_deleted (Rows v) is = absurd cc
is_deleted Inserted is = absurd cc
is_deleted Exists is = absurd cc
is_deleted Updated is = absurd cc
is_deleted Deleted is = refl
is_deleted Absent is = absurd cc

is_absent : (a : Answer) → answer_data a ≡ AbsentData → a ≡ Absent
is_absent (Found r) is = absurd cc
is_absent (Rows v) is = absurd cc
is_absent Inserted is = absurd cc
is_absent Exists is = absurd cc
is_absent Updated is = absurd cc
is_absent Deleted is = absurd cc
is_absent Absent is = refl

is_found : (row : Option RowData) (a : Answer) → answer_data a ≡ FoundData row → IsFinding a
is_found row (Found r) is = (r, refl)
is_found row (Rows v) is = absurd cc
is_found row Inserted is = absurd cc
is_found row Exists is = absurd cc
is_found row Updated is = absurd cc
is_found row Deleted is = absurd cc
is_found row Absent is = absurd cc

is_listed : (rows : List RowData) (a : Answer) → answer_data a ≡ RowsData rows → IsListOfRows a
is_listed rows (Found r) is = absurd cc
is_listed rows (Rows v) is = (v, refl)
is_listed rows Inserted is = absurd cc
is_listed rows Exists is = absurd cc
is_listed rows Updated is = absurd cc
is_listed rows Deleted is = absurd cc
is_listed rows Absent is = absurd cc

-- ---- what the serial step answers is of the operation's kind
insert_so : (b : Bool) (a : Answer) → answer_data a ≡ (if b then ExistsData else InsertedData) → IsEither Inserted Exists a
insert_so true a is = inr (is_exists a is)
insert_so false a is = inl (is_inserted a is)

update_so : (b : Bool) (a : Answer) → answer_data a ≡ (if b then UpdatedData else AbsentData) → IsEither Updated Absent a
update_so true a is = inl (is_updated a is)
update_so false a is = inr (is_absent a is)

delete_so : (b : Bool) (a : Answer) → answer_data a ≡ (if b then DeletedData else AbsentData) → IsEither Deleted Absent a
delete_so true a is = inl (is_deleted a is)
delete_so false a is = inr (is_absent a is)

kind_of : (op : Op) (m : Map) (a : Answer) → answer_data a ≡ answer_to op m → IsOfKind op a
kind_of (Read k) m a is = is_found _ a is
kind_of (Scan table lo hi) m a is = is_listed _ a is
kind_of (Insert r) m a is = insert_so _ a is
kind_of (Update r) m a is = update_so _ a is
kind_of (Delete k) m a is = delete_so _ a is

-- so is what a sound core answered
pub answered_so : {o : Opening} (t : ℕ) (op : Op) (a : Answer) → WasAnswered o t op a → IsOfKind op a
answered_so t op a w = kind_of op (snapshot w.sound.whole.core t) a (w.answer w.sound.rows w.sound.steps w.sound.own w.sound.whole w.sound.stands)

-- and what a session is answered
pub told_kind : (o : Opening) (x : Option ℕ) (op : Op) (r : Result Answer Refusal) → IsNoTx x r → IsCoreAnswer o x op r → IfOk r (IsOfKind op)
told_kind o (Some t) op (Ok a) none core = answered_so t op a core
told_kind o None op (Ok a) none core = absurd cc
told_kind o x op (Err e) none core = tt
