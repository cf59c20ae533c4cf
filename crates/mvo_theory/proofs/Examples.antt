-- Entries, footprints, dependencies and claims, on small cases.
use Rattle.std.proofs.Common.{◌≡◌, ℕ, [], ◌∷◌, None, Some, refl}
use Rattle.std.specs.FinMap as fin
use Rattle.mvo_types.specs.declared.cause.Cause.TheVariants.{Active, Stamped}
use Rattle.mvo_types.specs.declared.refusal.Refusal.TheVariants.{WriteConflict, ValidationFailed, DependencyAborted}
use Rattle.mvo_types.specs.declared.row.RowKey.{RowKey}
use Rattle.mvo_types.specs.declared.op.Op.TheVariants.{Read, Scan, Insert, Update, Delete}
use Rattle.mvo_types.specs.RowData.{ContentData, RowData}
use Rattle.mvo_types.specs.Keys.{Map}
use Rattle.mvo_types.proofs.Maps.{keys_total}
use Rattle.mvo_types.specs.AnswerData.AnswerData.{Found, Rows, Inserted, Updated, Deleted}
use Rattle.mvo_theory.specs.Entries.{entries}
use Rattle.mvo_theory.specs.State.{State, opened, preparing_of, active_of}
use Rattle.mvo_theory.specs.Changes.{after_begin, after_answer}
use Rattle.mvo_theory.specs.Causes.{why_not_update, why_not_delete, why_not_read, why_not_validate, why_not_settle, awaited}
use Rattle.mvo_theory.specs.Steps.{after_precommit, after_validate, after_commit_now, after_abort}
use Rattle.mvo_types.specs.declared.entry.Entry.TheVariants.{Key, Range}

-- keys and rows of table 0
abbrev pub key : ℕ → RowKey
key k = record { table = 0; key = k }

abbrev pub row : ℕ → ℕ → RowData
row k sort = record { key = key k; sort = sort; bytes = [] }

abbrev pub held : ℕ → ContentData
held sort = record { sort = sort; bytes = [] }

-- a scan that comes twice is one entry; a read and a scan that is wider are others
entries_once : entries ((Scan 0 1 9, Rows []) ∷ (Read (key 7), Found None) ∷ (Scan 0 1 9, Rows []) ∷ (Scan 0 1 10, Rows []) ∷ (Insert (row 7 5), Inserted) ∷ []) ≡ Range 0 1 9 ∷ Key (key 7) ∷ Range 0 1 10 ∷ []
entries_once = refl

-- ---- first writer wins: the rows m are those up to 2, with a row of key 1
abbrev two : Map → State
two m = after_answer (after_begin (after_begin (opened m 2) 3) 4) 3 (Update (row 1 10)) Updated

-- 3 is Active
updated_first : (m : Map) → fin.get m (key 1) ≡ Some (held 10) → why_not_update (two m) 4 (row 1 11) ≡ Some (WriteConflict (Active (record { 0 = 3 })))
updated_first m e = rw e refl

-- 3 is Committed with 5, or Preparing
deleted_later : (m : Map) → fin.get m (key 1) ≡ Some (held 10) → why_not_delete (after_precommit (two m) 3) 4 (key 1) ≡ Some (WriteConflict (Stamped (record { 0 = 5 })))
deleted_later m e = rw e refl

-- 3 was rolled back
free_again : (m : Map) → fin.get m (key 1) ≡ Some (held 10) → why_not_delete (after_abort (two m) 3) 4 (key 1) ≡ None
free_again m e = rw e refl

-- another key, and a key that doesn't stand
free_other : (m : Map) → fin.get m (key 2) ≡ Some (held 10) → why_not_delete (two m) 4 (key 2) ≡ None
free_other m e = rw e refl

free_absent : (m : Map) → fin.get m (key 1) ≡ None → why_not_delete (two m) 4 (key 1) ≡ None
free_absent m e = rw e refl

-- its own claim doesn't stand in its way
free_own : (m : Map) → fin.get m (key 1) ≡ Some (held 10) → why_not_update (two m) 3 (row 1 12) ≡ None
free_own m e = rw (fin.get-insert keys_total m (key 1) (held 10) (key 1)) refl

-- ---- 1 inserts key 5 and is Preparing with 2; 3 reads it, is Preparing with 4, and is checked
abbrev read_open : Map → State
read_open m = after_answer (after_begin (after_precommit (after_answer (after_begin (opened m 0) 1) 1 (Insert (row 5 50)) Inserted) 1) 3) 3 (Read (key 5)) (Found (Some (row 5 50)))

depends : (m : Map) → fin.get m (key 5) ≡ None → active_of 3 (read_open m).active ≡ Some (record { id = 3; history = (Read (key 5), Found (Some (row 5 50))) ∷ []; footprint = []; claims = []; depends_on = 2 ∷ []; aborted_dependency = None })
depends m e = refl

abbrev checked_open : Map → State
checked_open m = after_validate (after_precommit (read_open m) 3) 3

may_settle : (m : Map) → why_not_settle (checked_open m) 3 ≡ None
may_settle m = refl

-- it waits for 1
waits : (m : Map) → awaited (checked_open m) 3 ≡ preparing_of 1 (checked_open m).stamped
waits m = refl

-- until 1 is settled
waits_no_more : (m : Map) → awaited (after_commit_now (after_validate (checked_open m) 1) 1) 3 ≡ None
waits_no_more m = refl

-- or is rolled back
flagged : (m : Map) → why_not_settle (after_abort (checked_open m) 1) 3 ≡ Some (DependencyAborted (record { 0 = 1 }))
flagged m = refl

flagged_active : (m : Map) → why_not_read (after_abort (read_open m) 1) 3 (key 6) ≡ Some (DependencyAborted (record { 0 = 1 }))
flagged_active m = refl

-- ---- a key that it has written itself: none is depended on for it
abbrev own_write : Map → State
own_write m = after_answer (after_answer (read_open m) 3 (Insert (row 6 60)) Inserted) 3 (Scan 0 55 65) (Rows (row 6 60 ∷ []))

own_scan : (m : Map) → fin.entries m ≡ [] → fin.get m (key 6) ≡ None → active_of 3 (own_write m).active ≡ Some (record {
  id = 3;
  history = (Read (key 5), Found (Some (row 5 50))) ∷ (Insert (row 6 60), Inserted) ∷ (Scan 0 55 65, Rows (row 6 60 ∷ [])) ∷ [];
  footprint = (key 6, held 60) ∷ [];
  claims = [];
  depends_on = 2 ∷ [];
  aborted_dependency = None;
})
own_scan m e f = rw (e, fin.get-insert keys_total m (key 5) (held 50) (key 6), f) refl

-- ---- a scan depends on a Preparing one that put a row in the range, and on one that took it out of it
abbrev scan_open : Map → State
scan_open m = after_begin (after_precommit (after_answer (after_begin (opened m 0) 1) 1 (Insert (row 5 50)) Inserted) 1) 3

scan_in : (m : Map) → fin.entries m ≡ [] → active_of 3 (after_answer (scan_open m) 3 (Scan 0 40 60) (Rows (row 5 50 ∷ []))).active ≡ Some (record { id = 3; history = (Scan 0 40 60, Rows (row 5 50 ∷ [])) ∷ []; footprint = []; claims = []; depends_on = 2 ∷ []; aborted_dependency = None })
scan_in m e = rw e refl

scan_out : (m : Map) → fin.entries m ≡ [] → active_of 3 (after_answer (scan_open m) 3 (Scan 0 60 70) (Rows [])).active ≡ Some (record { id = 3; history = (Scan 0 60 70, Rows []) ∷ []; footprint = []; claims = []; depends_on = []; aborted_dependency = None })
scan_out m e = rw e refl

abbrev moved_open : Map → State
moved_open m = after_begin (after_precommit (after_answer (after_begin (opened m 0) 1) 1 (Update (row 5 80)) Updated) 1) 3

scan_moved : (m : Map) → fin.entries m ≡ (key 5, held 50) ∷ [] → active_of 3 (after_answer (moved_open m) 3 (Scan 0 40 60) (Rows [])).active ≡ Some (record { id = 3; history = (Scan 0 40 60, Rows []) ∷ []; footprint = []; claims = []; depends_on = 2 ∷ []; aborted_dependency = None })
scan_moved m e = rw e refl

-- ---- a scan, and then another puts a row into the range and commits: the check fails with its end
abbrev phantom : Map → State
phantom m = after_precommit (after_precommit (after_answer (after_answer (after_begin (after_begin (opened m 2) 3) 4) 3 (Scan 0 0 100) (Rows [])) 4 (Insert (row 7 30)) Inserted) 4) 3

phantom_fails : (m : Map) → fin.get m (key 7) ≡ None → why_not_validate (phantom m) 3 ≡ Some (ValidationFailed (record { 0 = 5 }))
phantom_fails m e = rw e refl

-- a row that is moved out of the range and deleted by the same transaction ended a row in it
abbrev leaver : Map → State
leaver m = after_precommit (after_precommit (after_answer (after_answer (after_answer (after_begin (after_begin (opened m 2) 3) 4) 3 (Scan 0 0 100) (Rows [])) 4 (Update (row 7 300)) Updated) 4 (Delete (key 7)) Deleted) 4) 3

leaver_fails : (m : Map) → fin.get m (key 7) ≡ Some (held 30) → why_not_validate (leaver m) 3 ≡ Some (ValidationFailed (record { 0 = 5 }))
leaver_fails m e = rw e refl

leaver_outside : (m : Map) → fin.get m (key 7) ≡ Some (held 200) → why_not_validate (leaver m) 3 ≡ None
leaver_outside m e = rw (e, fin.get-insert keys_total m (key 7) (held 300) (key 7)) refl

-- ---- 4 deletes the row that 1 moved into the range, and 1 is rolled back: what 4 ended counts as it was then, and 4 is flagged
abbrev ended_then : Map → State
ended_then m = after_precommit (after_abort (after_precommit (after_answer (after_answer (after_begin (after_precommit (after_answer (after_begin (after_begin (opened m 0) 1) 2) 1 (Update (row 7 95)) Updated) 1) 4) 4 (Delete (key 7)) Deleted) 2 (Scan 0 90 110) (Rows [])) 4) 1) 2

ended_then_fails : (m : Map) → fin.entries m ≡ (key 7, held 5) ∷ [] → why_not_validate (ended_then m) 2 ≡ Some (ValidationFailed (record { 0 = 5 }))
ended_then_fails m e = rw (e, fin.get-insert keys_total m (key 7) (held 95) (key 7)) refl
