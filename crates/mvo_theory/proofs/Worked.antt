-- Worked examples: what the definitions say of small runs, computed.
use Rattle.std.proofs.Common.{◌≡◌, true, false, [], ◌∷◌, None, Some, refl}
use Rattle.std.specs.FinMap as fin
use Rattle.mvo_types.specs.declared.cause.Cause.TheVariants.{Active}
use Rattle.mvo_types.specs.declared.refusal.Refusal.TheVariants.{Ended, WriteConflict, ValidationFailed, DependencyAborted, NothingToDo, RingFull}
use Rattle.mvo_types.specs.declared.op.Op.TheVariants.{Read, Scan, Insert, Update, Delete}
use Rattle.mvo_types.specs.Write.Effect.{Delete as Gone}
use Rattle.mvo_types.specs.Keys.{Map}
use Rattle.mvo_types.specs.AnswerData.AnswerData.{Found, Rows, Inserted, Updated, Deleted}
use Rattle.mvo_model.specs.History.{net_write}
use Rattle.mvo_theory.specs.State.{State, opened, preparing_of, ended_of, history_of_active}
use Rattle.mvo_theory.specs.State.Word.{Own}
use Rattle.mvo_theory.specs.State.Outcome.{Committed, Aborted as WasAborted}
use Rattle.mvo_model.specs.Trace.Phase.{Committed as IsCommitted}
use Rattle.mvo_theory.specs.Phases.{phase_in}
use Rattle.mvo_theory.specs.Changes.{after_begin, after_answer, after_finish, after_close}
use Rattle.mvo_theory.specs.Words.{word_count, is_done}
use Rattle.mvo_theory.specs.Marks.{low_water}
use Rattle.mvo_theory.specs.Groups.{due}
use Rattle.mvo_theory.specs.Causes.{why_not_read, why_not_update, why_not_validate, why_not_settle, why_not_close, awaited}
use Rattle.mvo_theory.specs.Steps.{after_precommit, after_validate, after_settle, after_abort, after_refusal}
use Rattle.mvo_theory.proofs.Examples.{key, row, held}

-- ---- two transactions read keys 1 and 2 and update one each: the second's first check fails with 5
abbrev both_read : Map → State
both_read m =
    let begun = after_begin (after_begin (opened m 2) 3) 4 in
    let one = after_answer (after_answer begun 3 (Read (key 1)) (Found (Some (row 1 10)))) 3 (Read (key 2)) (Found (Some (row 2 20))) in
    after_answer (after_answer one 4 (Read (key 1)) (Found (Some (row 1 10)))) 4 (Read (key 2)) (Found (Some (row 2 20)))

abbrev both_wrote : Map → State
both_wrote m = after_answer (after_answer (both_read m) 3 (Update (row 1 11)) Updated) 4 (Update (row 2 21)) Updated

abbrev one_committed : Map → State
one_committed m = after_settle (after_validate (after_validate (after_precommit (both_wrote m) 3) 3) 3) 3

first_passes : (m : Map) → phase_in (one_committed m) 3 ≡ IsCommitted 5
first_passes m = refl

second_fails : (m : Map) → why_not_validate (after_precommit (one_committed m) 4) 4 ≡ Some (ValidationFailed (record { 0 = 5 }))
second_fails m = refl

-- ---- the second update of one key: refused 20 active 3, and then every call is refused 11
abbrev one_updates : Map → State
one_updates m = after_answer (after_begin (after_begin (opened m 2) 3) 4) 3 (Update (row 1 11)) Updated

second_update : (m : Map) → fin.get m (key 1) ≡ Some (held 10) → why_not_update (one_updates m) 4 (row 1 12) ≡ Some (WriteConflict (Active (record { 0 = 3 })))
second_update m e = rw e refl

then_ended : (m : Map) → why_not_read (after_refusal (one_updates m) 4 (WriteConflict (Active (record { 0 = 3 })))) 4 (key 2) ≡ Some Ended
then_ended m = refl

-- ---- a scan, an insert into its range that commits at 5, and the scan's check fails with 5
abbrev scanned : Map → State
scanned m = after_answer (after_answer (after_begin (after_begin (opened m 2) 3) 4) 3 (Scan 0 0 100) (Rows (row 1 10 ∷ row 2 20 ∷ []))) 4 (Insert (row 7 30)) Inserted

abbrev inserted_into : Map → State
inserted_into m = after_settle (after_validate (after_precommit (scanned m) 4) 4) 4

phantom_found : (m : Map) → fin.get m (key 7) ≡ None → why_not_validate (after_precommit (inserted_into m) 3) 3 ≡ Some (ValidationFailed (record { 0 = 5 }))
phantom_found m e = rw e refl

-- ---- a transaction inserts, updates and deletes a key of its own: a net delete, no claim, four words
abbrev own_key : Map → State
own_key m = after_answer (after_answer (after_answer (after_begin (opened m 0) 1) 1 (Insert (row 7 70)) Inserted) 1 (Update (row 7 71)) Updated) 1 (Delete (key 7)) Deleted

own_net : (m : Map) → net_write (key 7) (history_of_active 1 (own_key m).active) ≡ Some Gone
own_net m = refl

own_words : (m : Map) → ended_of 1 (after_abort (own_key m) 1).ended ≡ Some (record { id = 1; outcome = WasAborted; words = Own ∷ Own ∷ Own ∷ Own ∷ [] })
own_words m = refl

own_count : (m : Map) → word_count (history_of_active 1 (own_key m).active) ≡ 4
own_count m = refl

-- ---- a read of a Preparing insert: waiting for 1, then both commit
abbrev speculates : Map → State
speculates m = after_answer (after_begin (after_precommit (after_answer (after_begin (opened m 0) 1) 1 (Insert (row 5 50)) Inserted) 1) 3) 3 (Read (key 5)) (Found (Some (row 5 50)))

abbrev both_valid : Map → State
both_valid m = after_validate (after_precommit (speculates m) 3) 3

waiting : (m : Map) → awaited (both_valid m) 3 ≡ preparing_of 1 (both_valid m).stamped
waiting m = refl

abbrev both_committed : Map → State
both_committed m = after_settle (after_settle (after_validate (both_valid m) 1) 1) 3

committed_at_last : (m : Map) → (both_committed m).ended ≡ (record { id = 1; outcome = Committed 2; words = Own ∷ [] }) ∷ (record { id = 3; outcome = Committed 4; words = [] }) ∷ []
committed_at_last m = refl

-- ---- the same with a rollback of 1: refused 22 1, then 11
abbrev undone_before : Map → State
undone_before m = after_abort (both_valid m) 1

refused_for : (m : Map) → why_not_settle (undone_before m) 3 ≡ Some (DependencyAborted (record { 0 = 1 }))
refused_for m = refl

refused_then : (m : Map) → why_not_settle (after_refusal (undone_before m) 3 (DependencyAborted (record { 0 = 1 }))) 3 ≡ Some Ended
refused_then m = refl

-- ---- an update that is rolled back has two words, the End and the Begin; another that updates the key takes the End over
abbrev rolled_back : Map → State
rolled_back m = after_abort (one_updates m) 3

two_words : (m : Map) → is_done (rolled_back m) 3 ≡ false
two_words m = refl

then_one : (m : Map) → is_done (after_finish (rolled_back m) 3) 3 ≡ true
then_one m = refl

taken_words : (m : Map) → ended_of 3 (after_answer (rolled_back m) 4 (Update (row 1 12)) Updated).ended ≡ Some (record { id = 3; outcome = WasAborted; words = Own ∷ [] })
taken_words m = refl

-- ---- a group isn't closed past a Preparing one
abbrev one_open : Map → State
one_open m =
    let first = after_precommit (after_answer (after_begin (opened m 0) 1) 1 (Insert (row 1 10)) Inserted) 1 in
    after_settle (after_validate (after_precommit (after_answer (after_begin first 3) 3 (Insert (row 2 20)) Inserted) 3) 3) 3

low_at_one : (m : Map) → low_water (one_open m) ≡ 1
low_at_one m = refl

nothing_due : (m : Map) → due (one_open m) ≡ []
nothing_due m = refl

abbrev both_done : Map → State
both_done m = after_settle (after_validate (after_close (one_open m) 1) 1) 1

both_due : (m : Map) → due (both_done m) ≡ (2, (Insert (row 1 10), Inserted) ∷ []) ∷ (4, (Insert (row 2 20), Inserted) ∷ []) ∷ []
both_due m = refl

ring_full : (m : Map) → why_not_close (both_done m) true ≡ Some RingFull
ring_full m = refl

nothing_more : (m : Map) → why_not_close (after_close (both_done m) 4) false ≡ Some NothingToDo
nothing_more m = refl
