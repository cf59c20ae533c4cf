-- The laws of works outside the core.
use Rattle.std.specs.Prelude.{ℕ, ◌≡◌, ◌≤◌, ◌<◌, ◌+◌, true, false, is_some, length, List, ◌∷◌, ◌++◌, None, Some}
use Rattle.std.specs.List.{AllByRecursion}
use Rattle.mvo_types.specs.declared.op.Op.{Op}
use Rattle.mvo_types.specs.RowData.{RowData}
use Rattle.mvo_types.specs.Keys.{Map}
use Rattle.mvo_types.specs.AnswerData.{AnswerData}
use Rattle.mvo_model.specs.Serial.{answer_to}
use Rattle.mvo_model.specs.History.{write_of, after_history, AreSerial, Legal}
use Rattle.mvo_theory.specs.Entries.{entry_of}
use Rattle.mvo_theory.specs.State.{State, Marks, ActiveTx, StampedTx, EndedTx, opened, seen_by}
use Rattle.mvo_theory.specs.Dependencies.{has_end, dependencies}
use Rattle.mvo_theory.specs.Changes.{after_begin, after_operation, after_prepare, after_commit, after_abort_of_preparing, after_trim}
use Rattle.mvo_theory.specs.Sound.{IsActive}
use Rattle.mvo_shared.specs.Kept.{WorkContent, AreShown, IsWork, IsOrdered, after_op, with_looked, answer_kept, Looked}
use Rattle.mvo_shared.specs.Shared.{AllTaken, looked_of, with_taken, OnlyWrites, IsShared, told_tale, after_registering, after_valid, AreSeen, IsOwnWork, rows_for, needs_exclusive}
use Rattle.mvo_shared.specs.Causes.{is_look_mismatch, is_write_mismatch, is_entry_mismatch, is_found, next_looked}

-- Whatever rows others show, a work is one after an operation too.
abbrev pub TypeStays : Type 0
TypeStays = (w : WorkContent) (op : Op) (rows : List RowData) → IsWork w
    → IsWork (after_op w op rows)

-- And where its entries were those of its operations, they are so after it.
abbrev pub OrderStays : Type 0
OrderStays = (w : WorkContent) (op : Op) (rows : List RowData) → IsOrdered w
    → IsOrdered (after_op w op rows)

-- On every map that shows what its entries keep, the answers of a work are serial.
abbrev pub AnswersAreSerial : Type 0
AnswersAreSerial = (w : WorkContent) (m : Map) → IsWork w → AreShown m w.looked
    → AreSerial w.history m

-- ---- what a core keeps, whatever works it is given
abbrev pub OpeningShares : Type 0
OpeningShares = (rows : Map) (mark : ℕ) (all : AllTaken) → IsShared (opened rows mark) all

abbrev pub BeginShares : Type 0
BeginShares = (s : State) (all : AllTaken) (t : ℕ) → s.clock < t → IsShared s all
    → IsShared (after_begin s t) all

abbrev pub LookShares : Type 0
LookShares = (s : State) (all : AllTaken) (t : ℕ) (op : Op) → IsShared s all
    → IsShared (after_registering s t op) all

-- a write, answered by what the core itself shows to the transaction
abbrev pub WriteShares : Type 0
WriteShares = (s : State) (all : AllTaken) (t : ℕ) (op : Op) (a : AnswerData)
    → is_some (write_of op a) ≡ true
    → AllByRecursion
    (λ r. r.id ≡ t → r.aborted_dependency ≡ None
    → a ≡ answer_to op (after_history r.history (seen_by s.base s.stamped r.id)))
    s.active
    → IsShared s all → IsShared (after_operation s t op a) all

-- precommit of any work that doesn't meet the mismatch of writes
abbrev pub PrecommitShares : Type 0
PrecommitShares = (s : State) (all : AllTaken) (r : ActiveTx) (e : ℕ) (w : WorkContent)
    → s.clock < e
    → IsActive s.base s.stamped s.clock r → OnlyWrites r.history → IsWork w
    → is_write_mismatch r w ≡ false → IsShared s all
    → IsShared (after_prepare s r e) (with_taken all e (record { work = w; checked = 0 }))

-- a check that meets neither a change nor a mismatch
abbrev pub CheckShares : Type 0
CheckShares = (s : State) (all : AllTaken) (e : ℕ)
    → AllByRecursion
    (λ x. x.end ≡ e
    → (l : Looked) → next_looked all e ≡ Some l → is_found s.base s.stamped x l ≡ true)
    s.stamped
    → IsShared s all
    → IsShared s (with_taken all e (record { work = (all e).work; checked = (all e).checked + 1 }))

-- the last check
abbrev pub LastCheckShares : Type 0
LastCheckShares = (s : State) (all : AllTaken) (e : ℕ)
    → AllByRecursion
    (λ x. x.end ≡ e
    → (x.settled ≡ false) × (length (looked_of (all x.end)) ≤ (all x.end).checked))
    s.stamped
    → IsShared s all → IsShared (after_valid s e) all

-- a settlement, anywhere among those with an end: valid, not flagged, and nobody it depends on is
-- Preparing
abbrev pub SettleShares : Type 0
SettleShares = (start : ℕ) (base : Map) (past : List StampedTx) (marks : Marks) (clock : ℕ)
    (active : List ActiveTx) (before after : List StampedTx) (t : StampedTx) (ended : List EndedTx)
    (all : AllTaken) → t.settled ≡ false → t.valid ≡ true → t.aborted_dependency ≡ None
    → AllByRecursion (λ x. x.settled ≡ false → has_end t.depends_on x.end ≡ false)
    (before ++ t ∷ after)
    → let s : State = record {
      start = start;
      base = base;
      past = past;
      marks = marks;
      clock = clock;
      active = active;
      stamped = before ++ t ∷ after;
      ended = ended;
    } in
    IsShared s all → IsShared (after_commit s t.id t.end) all

abbrev pub TrimShares : Type 0
TrimShares = (s : State) (all : AllTaken) (m : ℕ) → s.start < m → m ≤ s.clock
    → AllByRecursion (λ x. x.settled ≡ false → m < x.end) s.stamped
    → AllByRecursion (λ r. m ≤ r.id) s.active
    → AllByRecursion (λ x. x.settled ≡ false → m ≤ x.id) s.stamped
    → IsShared s all → IsShared (after_trim s m) all

abbrev pub AbortShares : Type 0
AbortShares = (s : State) (all : AllTaken) (t e : ℕ)
    → AllByRecursion (λ x. x.end ≡ e → x.settled ≡ false) s.stamped → IsShared s all
    → IsShared (after_abort_of_preparing s t e) all

-- So the tale is legal from the base.
abbrev pub SharedTaleIsLegal : Type 0
SharedTaleIsLegal = (s : State) (all : AllTaken) → IsShared s all
    → Legal s.base (told_tale all s.stamped)

-- ---- when a look needs the exclusive side
abbrev pub QuietLooksChangeNothing : Type 0
QuietLooksChangeNothing = (s : State) (t : ℕ) (op : Op)
    → AllByRecursion (λ r. r.id ≡ t → needs_exclusive s r op ≡ false) s.active
    → after_registering s t op ≡ s

abbrev pub LoudLooksRegister : Type 0
LoudLooksRegister = (s : State) (op : Op) (r : ActiveTx) → r.aborted_dependency ≡ None
    → needs_exclusive s r op ≡ true
    → (d : ℕ) × (has_end r.depends_on d ≡ false) × (has_end (dependencies s op r) d ≡ true)

-- ---- works that were made on this core
abbrev pub OwnAnswersAreOnSnapshots : Type 0
OwnAnswersAreOnSnapshots = (s : State) (r : ActiveTx) (w : WorkContent) (op : Op)
    → IsOwnWork s.base s.stamped r w → r.aborted_dependency ≡ None
    → answer_kept (with_looked w.looked (entry_of op) (rows_for s r op)) w.history op
    ≡ answer_to op (after_history r.history (seen_by s.base s.stamped r.id))

abbrev pub OwnLooksMatch : Type 0
OwnLooksMatch = (s : State) (r : ActiveTx) (w : WorkContent) (op : Op) → r.aborted_dependency ≡ None
    → IsOwnWork s.base s.stamped r w → is_look_mismatch s r w op ≡ false

abbrev pub OwnWritesMatch : Type 0
OwnWritesMatch = (base : Map) (stamped : List StampedTx) (r : ActiveTx) (w : WorkContent)
    → IsOwnWork base stamped r w → is_write_mismatch r w ≡ false

abbrev pub OwnEntriesMatch : Type 0
OwnEntriesMatch = (base : Map) (stamped : List StampedTx) (x : StampedTx) (looked : List Looked)
    → AreSeen base stamped x.id x.depends_on looked
    → AllByRecursion (λ l. is_entry_mismatch base stamped x l ≡ false) looked
