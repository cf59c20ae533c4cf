-- What the steps of the core refuse is of the lists of a session's refusals.
use Rattle.std.proofs.Common.{◌≡◌, inl, inr, ℕ, Bool, true, false, List, [], ◌∷◌, Option, None, Some, Result, Ok, Err, refl, ap, ◌∙◌, subst}
use Rattle.std.specs.Prelude.{⊤, IfErr, if◌then◌else◌, nat_le, nat_lt, not, length, ◌++◌}
use Rattle.std.proofs.lemmas.Bool.{false≢true}
use Rattle.mvo_types.specs.declared.cause.Cause.{Cause}
use Rattle.mvo_types.specs.declared.entry.Entry.{Entry}
use Rattle.mvo_types.specs.declared.entry.Entry.TheVariants.{Key, Range}
use Rattle.mvo_types.specs.declared.limits.TheConstants.{MAX_STAMP, MAX_TABLE, MAX_DATA_LEN, MAX_UNFINISHED}
use Rattle.mvo_types.specs.declared.op.Op.{Op}
use Rattle.mvo_types.specs.declared.op.Op.TheVariants.{Read, Scan, Insert, Update, Delete}
use Rattle.mvo_types.specs.declared.refusal.Refusal.{Refusal}
use Rattle.mvo_types.specs.declared.refusal.Refusal.TheVariants.{NoSuchTransaction, Ended, NotActive, NotPreparing, NotValidated, ReadOnly, TableFull, TooManyWrites, TooManyReads, DataTooLong, BadTable, ClockSpent, OutOfMemory, WriteConflict, DependencyAborted}
use Rattle.mvo_types.specs.declared.answer.Answer.{Answer}
use Rattle.mvo_types.specs.declared.ids.TxId.{TxId}
use Rattle.mvo_types.specs.declared.ids.Stamp.{Stamp}
use Rattle.mvo_types.specs.Causes.{when, first_cause}
use Rattle.mvo_theory.specs.State.{State, StampedTx, preparing_of, history_of_active}
use Rattle.mvo_theory.specs.Phases.{phase_in, is_absent, is_ended}
use Rattle.mvo_theory.specs.Causes.{unfinished, unless_active, unless_preparing, is_entry_too_many, is_write_too_many, conflict, was_valid, flagged, conflicts, differs, entry_differs, next_differs, why_not_begin, why_not_do, why_not_precommit, why_not_validate, why_not_settle, why_not_rollback}
use Rattle.mvo_theory.specs.Calls.{Call, IsRefusal, why_not, takes_memory}
use Rattle.mvo_theory.specs.Calls.Call.{Begin, Do, Precommit, Validate, Settle, Rollback}
use Rattle.mvo_model.specs.History.{History}
use Rattle.mvo_core.specs.declared.answers.Settlement.{Settlement}
use Rattle.mvo_core.specs.declared.answers.Settlement.TheVariants.{Committed}
use Rattle.mvo_core.specs.Data.{CoreData}
use Rattle.mvo_core.specs.WholeEnds.{IsSettlementWhole}
use Rattle.mvo_readonly.specs.Whole.{ReaderStage, WholeState, phase_at_stage, id_named, stage_named}
use Rattle.mvo_readonly.specs.WholeCauses.{unless_reading, unless_prepared, unless_read_only, is_valid_stage, why_not_at_stage, takes_memory_at_stage, reader_takes_memory}
use Rattle.mvo_core.specs.WholeStanding.{IsWholeStep}
use Rattle.mvo_engine.specs.run.Opening.{Opening}
use Rattle.mvo_engine.specs.Sound.{IsSoundCore}
use Rattle.mvo_engine.specs.States.{CoreState}
use Rattle.mvo_engine.specs.Calls.{IsBeginning, IsReadOnlyStep, IsReadOnlyBeginning, IsSettling}
use Rattle.mvo_engine.specs.Asked.{WasAsked, WasSettled, HasRefusedToCommit}
use Rattle.mvo_engine.specs.Asked.HasRefusedToCommit.{Preparing, Checking, Settling, Receipt, Unlike}
use Rattle.mvo_engine.specs.Refusing.{refuses_begin, refuses_operation, refuses_commit, refuses_rollback}

-- ---- by the causes
-- the cause, if it stands, is of the list
abbrev IsIn : (Refusal → Bool) → Option Refusal → Type 0
IsIn p None = ⊤
IsIn p (Some e) = p e ≡ true

abbrev AreIn : (Refusal → Bool) → List (Option Refusal) → Type 0
AreIn p [] = ⊤
AreIn p (c ∷ cs) = IsIn p c × AreIn p cs

first_in : (p : Refusal → Bool) (cs : List (Option Refusal)) → AreIn p cs → IsIn p (first_cause cs)
first_in p [] each = tt
first_in p (None ∷ cs) each = first_in p cs each.1
first_in p (Some e ∷ cs) each = each.0

when_in : (p : Refusal → Bool) (b : Bool) (e : Refusal) → p e ≡ true → IsIn p (when b e)
when_in p true e is = is
when_in p false e is = tt

flagged_in : (p : Refusal → Bool) → ((t : TxId) → p (DependencyAborted t) ≡ true) → (o : Option ℕ) → IsIn p (flagged o)
flagged_in p each None = tt
flagged_in p each (Some x) = each (record { 0 = x })

conflicts_in : (p : Refusal → Bool) → ((c : Cause) → p (WriteConflict c) ≡ true) → (o : Option Cause) → IsIn p (conflicts o)
conflicts_in p each None = tt
conflicts_in p each (Some c) = each c

differs_in : (o : Option ℕ) → IsIn refuses_commit (differs o)
differs_in None = tt
differs_in (Some stamp) = refl

-- what a call is refused with, by its causes and whether it takes memory
refusal_in : (p : Refusal → Bool) (takes : Bool) (why : Option Refusal) (e : Refusal) → IsIn p why → (takes ≡ true → p OutOfMemory ≡ true) → IsRefusal takes why e → p e ≡ true
refusal_in p takes (Some w) e is memory r = ap p r ∙ is
refusal_in p true None e is memory r = ap p r ∙ memory refl
refusal_in p false None e is memory r = absurd r

-- ---- of each call
begin_in : (s : State) → IsIn refuses_begin (why_not_begin s)
begin_in s =
    let p = refuses_begin in
    first_in p (when (nat_le MAX_UNFINISHED (unfinished s)) TableFull ∷ when (nat_le MAX_STAMP s.clock) ClockSpent ∷ []) (when_in p _ _ refl, (when_in p _ _ refl, tt))

operation_in : (s : State) (t : ℕ) (op : Op) → IsIn (refuses_operation op) (why_not_do s t op)
operation_in s t (Read k) =
    let p = refuses_operation (Read k) in
    let told = history_of_active t s.active in
    first_in p (unless_active s t ++ when (nat_lt MAX_TABLE k.table) BadTable ∷ when (is_entry_too_many told (Key k)) TooManyReads ∷ [])
    (when_in p _ _ refl, (when_in p _ _ refl, (when_in p _ _ refl, (flagged_in p (λ x. refl) _, (when_in p _ _ refl, (when_in p _ _ refl, tt))))))
operation_in s t (Scan table lo hi) =
    let p = refuses_operation (Scan table lo hi) in
    let told = history_of_active t s.active in
    first_in p (unless_active s t ++ when (nat_lt MAX_TABLE table) BadTable ∷ when (is_entry_too_many told (Range table lo hi)) TooManyReads ∷ [])
    (when_in p _ _ refl, (when_in p _ _ refl, (when_in p _ _ refl, (flagged_in p (λ x. refl) _, (when_in p _ _ refl, (when_in p _ _ refl, tt))))))
operation_in s t (Insert row) =
    let p = refuses_operation (Insert row) in
    let told = history_of_active t s.active in
    let r = row in
    first_in p (unless_active s t ++ when (nat_lt MAX_TABLE r.key.table) BadTable ∷ when (nat_lt MAX_DATA_LEN (length r.bytes)) DataTooLong ∷ when (is_entry_too_many told (Key r.key)) TooManyReads ∷ when (is_write_too_many told r.key) TooManyWrites ∷ [])
    (when_in p _ _ refl, (when_in p _ _ refl, (when_in p _ _ refl, (flagged_in p (λ x. refl) _, (when_in p _ _ refl, (when_in p _ _ refl, (when_in p _ _ refl, (when_in p _ _ refl, tt))))))))
operation_in s t (Update row) =
    let p = refuses_operation (Update row) in
    let told = history_of_active t s.active in
    let r = row in
    first_in p (unless_active s t ++ when (nat_lt MAX_TABLE r.key.table) BadTable ∷ when (nat_lt MAX_DATA_LEN (length r.bytes)) DataTooLong ∷ when (is_entry_too_many told (Key r.key)) TooManyReads ∷ when (is_write_too_many told r.key) TooManyWrites ∷ conflicts (conflict s t r.key) ∷ [])
    (when_in p _ _ refl, (when_in p _ _ refl, (when_in p _ _ refl, (flagged_in p (λ x. refl) _, (when_in p _ _ refl, (when_in p _ _ refl, (when_in p _ _ refl, (when_in p _ _ refl, (conflicts_in p (λ c. refl) _, tt)))))))))
operation_in s t (Delete k) =
    let p = refuses_operation (Delete k) in
    let told = history_of_active t s.active in
    first_in p (unless_active s t ++ when (nat_lt MAX_TABLE k.table) BadTable ∷ when (is_entry_too_many told (Key k)) TooManyReads ∷ when (is_write_too_many told k) TooManyWrites ∷ conflicts (conflict s t k) ∷ [])
    (when_in p _ _ refl, (when_in p _ _ refl, (when_in p _ _ refl, (flagged_in p (λ x. refl) _, (when_in p _ _ refl, (when_in p _ _ refl, (when_in p _ _ refl, (conflicts_in p (λ c. refl) _, tt))))))))

precommit_in : (s : State) (t : ℕ) → IsIn refuses_commit (why_not_precommit s t)
precommit_in s t =
    let p = refuses_commit in
    first_in p (unless_active s t ++ when (nat_le MAX_STAMP s.clock) ClockSpent ∷ []) (when_in p _ _ refl, (when_in p _ _ refl, (when_in p _ _ refl, (flagged_in p (λ x. refl) _, (when_in p _ _ refl, tt)))))

next_in : (stamped : List StampedTx) (o : Option StampedTx) → IsIn refuses_commit (next_differs stamped o)
next_in stamped None = tt
next_in stamped (Some x) = unless_valid x.valid _
  where
    entry : (o : Option Entry) → IsIn refuses_commit (entry_differs stamped x o)
    entry None = tt
    entry (Some e) = differs_in _

    unless_valid : (b : Bool) (o : Option Entry) → IsIn refuses_commit (if b then None else entry_differs stamped x o)
    unless_valid true o = tt
    unless_valid false o = entry o

validate_in : (s : State) (t : ℕ) → IsIn refuses_commit (why_not_validate s t)
validate_in s t =
    let p = refuses_commit in
    first_in p (unless_preparing s t ++ next_differs s.stamped (preparing_of t s.stamped) ∷ []) (when_in p _ _ refl, (when_in p _ _ refl, (when_in p _ _ refl, (flagged_in p (λ x. refl) _, (next_in s.stamped (preparing_of t s.stamped), tt)))))

settle_in : (s : State) (t : ℕ) → IsIn refuses_commit (why_not_settle s t)
settle_in s t =
    let p = refuses_commit in
    first_in p (unless_preparing s t ++ when (not (was_valid (preparing_of t s.stamped))) NotValidated ∷ []) (when_in p _ _ refl, (when_in p _ _ refl, (when_in p _ _ refl, (flagged_in p (λ x. refl) _, (when_in p _ _ refl, tt)))))

rollback_in : (s : State) (t : ℕ) → IsIn refuses_rollback (why_not_rollback s t)
rollback_in s t =
    let p = refuses_rollback in
    first_in p (when (is_absent (phase_in s t)) NoSuchTransaction ∷ when (is_ended (phase_in s t)) Ended ∷ []) (when_in p _ _ refl, (when_in p _ _ refl, tt))

-- ---- of a read-only one, by how far it is
read_in : (w : WholeState) (t : ℕ) (op : Op) (p : ReaderStage) → IsIn (refuses_operation op) (why_not_at_stage w (Do t op) (Some p))
read_in w t (Read k) p =
    let s = w.core in
    let q = refuses_operation (Read k) in
    first_in q (unless_reading s t p ++ unless_read_only s t (Read k)) (when_in q _ _ refl, (when_in q _ _ refl, (flagged_in q (λ x. refl) _, (when_in q _ _ refl, (when_in q _ _ refl, tt)))))
read_in w t (Scan table lo hi) p =
    let s = w.core in
    let q = refuses_operation (Scan table lo hi) in
    first_in q (unless_reading s t p ++ unless_read_only s t (Scan table lo hi)) (when_in q _ _ refl, (when_in q _ _ refl, (flagged_in q (λ x. refl) _, (when_in q _ _ refl, (when_in q _ _ refl, tt)))))
read_in w t (Insert row) p =
    let q = refuses_operation (Insert row) in
    first_in q (unless_reading w.core t p ++ Some ReadOnly ∷ []) (when_in q _ _ refl, (when_in q _ _ refl, (flagged_in q (λ x. refl) _, (refl, tt))))
read_in w t (Update row) p =
    let q = refuses_operation (Update row) in
    first_in q (unless_reading w.core t p ++ Some ReadOnly ∷ []) (when_in q _ _ refl, (when_in q _ _ refl, (flagged_in q (λ x. refl) _, (refl, tt))))
read_in w t (Delete k) p =
    let q = refuses_operation (Delete k) in
    first_in q (unless_reading w.core t p ++ Some ReadOnly ∷ []) (when_in q _ _ refl, (when_in q _ _ refl, (flagged_in q (λ x. refl) _, (refl, tt))))

-- ---- of each call, by whose it is
begins_in : (w : WholeState) (o : Option ReaderStage) → IsIn refuses_begin (why_not_at_stage w Begin o)
begins_in w None = begin_in w.core
begins_in w (Some p) = begin_in w.core

operates_in : (t : ℕ) (op : Op) (w : WholeState) (o : Option ReaderStage) → IsIn (refuses_operation op) (why_not_at_stage w (Do t op) o)
operates_in t op w None = operation_in w.core t op
operates_in t op w (Some p) = read_in w t op p

prepares_in : (t : ℕ) (w : WholeState) (o : Option ReaderStage) → IsIn refuses_commit (why_not_at_stage w (Precommit t) o)
prepares_in t w None = precommit_in w.core t
prepares_in t w (Some p) =
    let q = refuses_commit in
    first_in q (unless_reading w.core t p) (when_in q _ _ refl, (when_in q _ _ refl, (flagged_in q (λ x. refl) _, tt)))

validates_in : (t : ℕ) (w : WholeState) (o : Option ReaderStage) → IsIn refuses_commit (why_not_at_stage w (Validate t) o)
validates_in t w None = validate_in w.core t
validates_in t w (Some p) =
    let q = refuses_commit in
    first_in q (unless_prepared w.core t p) (when_in q _ _ refl, (when_in q _ _ refl, (flagged_in q (λ x. refl) _, tt)))

settles_in : (t : ℕ) (w : WholeState) (o : Option ReaderStage) → IsIn refuses_commit (why_not_at_stage w (Settle t) o)
settles_in t w None = settle_in w.core t
settles_in t w (Some p) =
    let q = refuses_commit in
    first_in q (unless_prepared w.core t p ++ when (not (is_valid_stage p)) NotValidated ∷ []) (when_in q _ _ refl, (when_in q _ _ refl, (flagged_in q (λ x. refl) _, (when_in q _ _ refl, tt))))

rolls_back_in : (t : ℕ) (w : WholeState) (o : Option ReaderStage) → IsIn refuses_rollback (why_not_at_stage w (Rollback t) o)
rolls_back_in t w None = rollback_in w.core t
rolls_back_in t w (Some p) = rollback_in w.core t

-- ---- of what was asked
asked_in : {A : Type 0} {o : Opening} (p : Refusal → Bool) (call : Call) (e : Refusal) → ((w : WholeState) (o : Option ReaderStage) → IsIn p (why_not_at_stage w call o)) → ((o : Option ReaderStage) → takes_memory_at_stage call o ≡ true → p OutOfMemory ≡ true) → WasAsked {A = A} o call (Err e) → p e ≡ true
asked_in p call e each memory asked =
    let i = asked.sound in
    let l = asked.step.step i.rows i.steps i.own i.whole i.stands in
    let o = stage_named i.whole.readers (id_named call) in
    refusal_in p (takes_memory_at_stage call o) (why_not_at_stage i.whole call o) e (each i.whole o) (memory o) l.may

pub begin_refused : {A : Type 0} {o : Opening} (e : Refusal) → WasAsked {A = A} o Begin (Err e) → refuses_begin e ≡ true
begin_refused e asked = asked_in refuses_begin Begin e begins_in (λ o m. refl) asked

pub reading_refused : {A : Type 0} {o : Opening} (old : CoreState) (e : Refusal) (new : CoreState) → IsSoundCore o old.core old.sends.sent → IsReadOnlyStep {A = A} old (Err e) new → refuses_begin e ≡ true
reading_refused old e new i step =
    let l = step.step i.rows i.steps i.own i.whole i.stands in
    refusal_in refuses_begin true (why_not_begin i.whole.core) e (begin_in i.whole.core) (λ m. refl) l.may

err_same : {A : Type 0} (e r : Refusal) → ◌≡◌ {A = Result A Refusal} (Err e) (Err r) → e ≡ r
err_same e r p = cc

pub beginning_refused : {A : Type 0} {o : Opening} (old new : CoreState) (last : ℕ) (e : Refusal) → IsSoundCore o old.core old.sends.sent → IsBeginning {A = A} old last (Err e) new → refuses_begin e ≡ true
beginning_refused old new last e sound (inl step) = begin_refused e (record { old = old; new = new; sound = sound; step = step.1 })
beginning_refused old new last e sound (inr busy) = ap refuses_begin (err_same e _ busy.1)

pub reading_beginning_refused : {A : Type 0} {o : Opening} (old new : CoreState) (last : ℕ) (e : Refusal) → IsSoundCore o old.core old.sends.sent → IsReadOnlyBeginning {A = A} old last (Err e) new → refuses_begin e ≡ true
reading_beginning_refused old new last e sound (inl step) = reading_refused old e new sound step.1
reading_beginning_refused old new last e sound (inr busy) = ap refuses_begin (err_same e _ busy.1)

pub settling_refused : {o : Opening} (old new : CoreState) (t : ℕ) (told : History) (e : Refusal) → IsSoundCore o old.core old.sends.sent → IsSettling old t told (Err e) new → HasRefusedToCommit o t told e
settling_refused old new t told e sound (inl step) = Settling (record { old = old; new = new; sound = sound; step = step.1 })
settling_refused old new t told e sound (inr busy) = Unlike (record { old = old; sound = sound; holds = busy.0 }) (err_same e _ busy.1)

-- one that is settled, by what the loop keeps of what it was told
pub settled_so : {o : Opening} (old new : CoreState) (t : ℕ) (told was : History) (a : Settlement) (end' : Stamp) → a ≡ Committed end' → told ≡ was → IsSoundCore o old.core old.sends.sent → IsSettling old t told (Ok a) new → IsSettlementWhole old.core t a → WasSettled o t was end'
settled_so {o} old new t told was a end' q same sound step answer =
    subst (λ (h : History). WasSettled o t h end') same (record {
      old = old;
      new = new;
      sound = sound;
      step = subst (λ (b : Settlement). IsSettling old t told (Ok b) new) q step;
      answer = subst (λ (b : Settlement). IsSettlementWhole old.core t b) q answer;
    })

-- want of memory is of each
no_memory : (op : Op) → refuses_operation op OutOfMemory ≡ true
no_memory (Read key) = refl
no_memory (Scan table lo hi) = refl
no_memory (Insert row) = refl
no_memory (Update row) = refl
no_memory (Delete key) = refl

pub operation_refused : {A : Type 0} {o : Opening} (t : ℕ) (op : Op) (e : Refusal) → WasAsked {A = A} o (Do t op) (Err e) → refuses_operation op e ≡ true
operation_refused t op e asked = asked_in (refuses_operation op) (Do t op) e (operates_in t op) (λ o m. no_memory op) asked

pub rollback_refused : {A : Type 0} {o : Opening} (t : ℕ) (e : Refusal) → WasAsked {A = A} o (Rollback t) (Err e) → refuses_rollback e ≡ true
rollback_refused t e asked = asked_in refuses_rollback (Rollback t) e (rolls_back_in t) (λ o m. absurd (no_memory_taken o m)) asked
  where
    no_memory_taken : (o : Option ReaderStage) → takes_memory_at_stage (Rollback t) o ≡ true → ⊥
    no_memory_taken None m = false≢true m
    no_memory_taken (Some p) m = false≢true m

pub commit_refused : {o : Opening} (t : ℕ) (told : History) (e : Refusal) → HasRefusedToCommit o t told e → refuses_commit e ≡ true
commit_refused t told e (Preparing asked) = asked_in refuses_commit (Precommit t) e (prepares_in t) (λ o m. refl) asked
commit_refused t told e (Checking asked) = asked_in refuses_commit (Validate t) e (validates_in t) (λ o m. refl) asked
commit_refused t told e (Settling asked) = asked_in refuses_commit (Settle t) e (settles_in t) (λ o m. refl) asked
commit_refused t told e (Receipt is) = ap refuses_commit is
commit_refused t told e (Unlike unlike is) = ap refuses_commit is

-- ---- of a step of a sound core
asked_of : {A : Type 0} {o : Opening} (old : CoreState) (call : Call) (result : Result A Refusal) (new : CoreData) → IsSoundCore o old.core old.sends.sent → IsWholeStep old.core call result new → WasAsked o call result
asked_of old call result new sound step = record { old = old; new = record old { core = new }; sound = sound; step = record { step = step; sends = refl; made = refl } }

pub operation_err : {o : Opening} (old : CoreState) (t : ℕ) (op : Op) (result : Result Answer Refusal) (new : CoreData) → IsSoundCore o old.core old.sends.sent → IsWholeStep old.core (Do t op) result new → IfErr result (λ e. refuses_operation op e ≡ true)
operation_err old t op (Ok a) new sound step = tt
operation_err old t op (Err e) new sound step = operation_refused {A = Answer} t op e (asked_of old (Do t op) (Err e) new sound step)

pub rollback_err : {o : Opening} (old : CoreState) (t : ℕ) (result : Result (Unit {0}) Refusal) (new : CoreData) → IsSoundCore o old.core old.sends.sent → IsWholeStep old.core (Rollback t) result new → IfErr result (λ e. refuses_rollback e ≡ true)
rollback_err old t (Ok a) new sound step = tt
rollback_err old t (Err e) new sound step = rollback_refused {A = Unit {0}} t e (asked_of old (Rollback t) (Err e) new sound step)
