-- Two courses, computed; and what wrong bodies would come to.
use Rattle.std.proofs.Common.{◌≡◌, ℕ, List, [], ◌∷◌, None, Some, refl}
use Rattle.std.specs.FinMap as fin
use Rattle.mvo_types.specs.declared.op.Op.TheVariants.{Read, Insert, Update}
use Rattle.mvo_types.specs.declared.refusal.Refusal.TheVariants.{NothingToDo, ReadOnly, NotActive, DependencyAborted, Ended}
use Rattle.mvo_types.specs.AnswerData.AnswerData.{Found, Inserted, Updated}
use Rattle.mvo_types.specs.AnswerData.{AnswerData}
use Rattle.mvo_types.specs.declared.op.Op.{Op}
use Rattle.mvo_theory.specs.Changes.{after_answer}
use Rattle.mvo_model.specs.Trace.Phase.{Committed as IsCommitted, Preparing as IsPreparing, Absent as IsAbsent}
use Rattle.mvo_theory.specs.State.{preparing_of, history_of_active}
use Rattle.mvo_theory.specs.Marks.{low_water}
use Rattle.mvo_theory.specs.Groups.{due}
use Rattle.mvo_theory.specs.Calls.Call.{Begin, Do, Precommit, Validate, Settle, Rollback, Finish, Trim}
use Rattle.mvo_theory.specs.Calls.Result.{Accepted, Refused}
use Rattle.mvo_theory.proofs.Examples.{key, row}
use Rattle.mvo_readonly.specs.Whole.{WholeState, opened_whole, stage_of, phase_in_whole}
use Rattle.mvo_readonly.specs.WholeCauses.{WholeCall, why_not_at_stage, awaited_by_reader}
use Rattle.mvo_readonly.specs.WholeCalls.{after_whole_call}
use Rattle.mvo_readonly.specs.WholeCauses.WholeCall.{CoreCall, BeginReadOnly}

abbrev accepted : WholeState → List WholeCall → WholeState
accepted w [] = w
accepted w (a ∷ rest) = accepted (after_whole_call w a Accepted) rest

-- an answer to an operation: the map doesn't compute here, so each answer is written down
abbrev told : WholeState → ℕ → Op → AnswerData → WholeState
told w t op a = record w { core = after_answer w.core t op a }

-- ---- it reads at its begin, also behind a commit, and commits there
abbrev set_up : WholeState
set_up = accepted (told (accepted (opened_whole fin.empty 0) (CoreCall Begin ∷ [])) 1 (Insert (row 1 10)) Inserted) (CoreCall (Precommit 1) ∷ CoreCall (Validate 1) ∷ CoreCall (Settle 1) ∷ CoreCall (Finish 1) ∷ [])

abbrev overtaken : WholeState
overtaken =
    let read = told (accepted set_up (BeginReadOnly ∷ [])) 3 (Read (key 1)) (Found (Some (row 1 10))) in
    let wrote = told (accepted read (CoreCall Begin ∷ [])) 4 (Update (row 1 20)) Updated in
    told (accepted wrote (CoreCall (Precommit 4) ∷ CoreCall (Validate 4) ∷ CoreCall (Settle 4) ∷ [])) 3 (Read (key 1)) (Found (Some (row 1 10)))

reads_twice : history_of_active 3 overtaken.core.active ≡ (Read (key 1), Found (Some (row 1 10))) ∷ (Read (key 1), Found (Some (row 1 10))) ∷ []
reads_twice = refl

-- its entry was changed by 5, and it is valid: nothing ends between its begin and its end
abbrev committed_behind : WholeState
committed_behind = accepted overtaken (CoreCall (Precommit 3) ∷ CoreCall (Validate 3) ∷ CoreCall (Settle 3) ∷ [])

commits_at_begin : phase_in_whole committed_behind 3 ≡ IsCommitted 3
commits_at_begin = refl

draws_nothing : committed_behind.core.clock ≡ 5
draws_nothing = refl

finished_behind : phase_in_whole (accepted committed_behind (CoreCall (Finish 3) ∷ [])) 3 ≡ IsAbsent
finished_behind = refl

-- ---- it waits for a Preparing one that it read
abbrev speculates : WholeState
speculates =
    let wrote = told (accepted (opened_whole fin.empty 0) (CoreCall Begin ∷ [])) 1 (Insert (row 5 50)) Inserted in
    told (accepted wrote (CoreCall (Precommit 1) ∷ BeginReadOnly ∷ [])) 3 (Read (key 5)) (Found (Some (row 5 50)))

reads_preparing : history_of_active 3 speculates.core.active ≡ (Read (key 5), Found (Some (row 5 50))) ∷ []
reads_preparing = refl

refused_60 : why_not_at_stage speculates (Do 3 (Insert (row 6 1))) (stage_of 3 speculates.readers) ≡ Some ReadOnly
refused_60 = refl

abbrev prepared : WholeState
prepared = accepted speculates (CoreCall (Precommit 3) ∷ CoreCall (Validate 3) ∷ [])

refused_12 : why_not_at_stage prepared (Do 3 (Insert (row 6 1))) (stage_of 3 prepared.readers) ≡ Some NotActive
refused_12 = refl

waits : awaited_by_reader prepared.core 3 ≡ preparing_of 1 prepared.core.stamped
waits = refl

-- settle leaves it Preparing with its begin
still_preparing : phase_in_whole (accepted prepared (CoreCall (Settle 3) ∷ [])) 3 ≡ IsPreparing 3
still_preparing = refl

abbrev one_committed : WholeState
one_committed = accepted prepared (CoreCall (Validate 1) ∷ CoreCall (Settle 1) ∷ CoreCall (Finish 1) ∷ [])

-- the low-water leaves it out
low_at_three : low_water one_committed.core ≡ 3
low_at_three = refl

due_of_one : due one_committed.core ≡ (2, (Insert (row 5 50), Inserted) ∷ []) ∷ []
due_of_one = refl

-- the core alone would take the trim up to its begin
trim_refused : why_not_at_stage one_committed (Trim 3) None ≡ Some NothingToDo
trim_refused = refl

trim_below : why_not_at_stage one_committed (Trim 2) None ≡ None
trim_below = refl

settles_at_last : phase_in_whole (accepted one_committed (CoreCall (Settle 3) ∷ [])) 3 ≡ IsCommitted 3
settles_at_last = refl

-- until it is finished it stands in the way
trim_still_refused : why_not_at_stage (accepted one_committed (CoreCall (Settle 3) ∷ [])) (Trim 3) None ≡ Some NothingToDo
trim_still_refused = refl

trim_at_last : why_not_at_stage (accepted one_committed (CoreCall (Settle 3) ∷ CoreCall (Finish 3) ∷ [])) (Trim 3) None ≡ None
trim_at_last = refl

-- ---- the one that it read is rolled back: 22, and then 11
abbrev undone : WholeState
undone = accepted prepared (CoreCall (Rollback 1) ∷ [])

refused_22 : why_not_at_stage undone (Settle 3) (stage_of 3 undone.readers) ≡ Some (DependencyAborted (record { 0 = 1 }))
refused_22 = refl

abbrev failed : WholeState
failed = after_whole_call undone (CoreCall (Settle 3)) (Refused (DependencyAborted (record { 0 = 1 })))

then_ended : why_not_at_stage failed (Settle 3) (stage_of 3 failed.readers) ≡ Some Ended
then_ended = refl

never_committed : failed.committed_readers ≡ []
never_committed = refl
