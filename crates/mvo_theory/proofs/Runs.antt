-- Every run has serial replies.
use Rattle.std.proofs.Common.{◌≡◌, ℕ, Bool, true, false, cond, List, [], ◌∷◌, ◌++◌, Option, None, Some, refl, sym, ap, ◌∙◌, subst, arith, append_assoc}
use Rattle.mvo_types.specs.declared.refusal.Refusal.{Refusal}
use Rattle.mvo_types.specs.declared.refusal.Refusal.TheVariants.{OutOfMemory}
use Rattle.mvo_types.specs.Keys.{Map}
use Rattle.mvo_model.specs.Trace.{Step, IsSerial}
use Rattle.mvo_model.specs.Trace.Step.{Answers, Terminates}
use Rattle.mvo_theory.specs.State.{State, opened}
use Rattle.mvo_theory.specs.Claims.{new_claim}
use Rattle.mvo_theory.specs.Changes.{with_words, after_finish, after_close, after_operation, after_termination, after_trim}
use Rattle.mvo_theory.specs.Causes.{why_not_finish}
use Rattle.mvo_theory.specs.Calls.{IsCallInOrder, Call, Result, Run, why_not, takes_memory, IsRefusal, MayCome, answer_in, after_accepted, steps_of_accepted, after_refused, steps_of_refused, after_call, steps_of, MayRun, after_run, trace_of, IsKept}
use Rattle.mvo_theory.specs.Words.{is_done, words_left}
use Rattle.mvo_theory.proofs.Finishing.{kept_worded, kept_taken_over, kept_closed}
use Rattle.mvo_theory.proofs.Tales.{serial_after_trace}
use Rattle.mvo_theory.proofs.Single.{single_opened}
use Rattle.mvo_theory.proofs.Started.{started_opened}
use Rattle.mvo_theory.proofs.Who.{unended_rolled_back, unended_done, unended_after_prepare, unended_after_check, unended_settled}
use Rattle.mvo_theory.proofs.AfterTrace.{trace_opened}
use Rattle.mvo_theory.proofs.Traced.{traced_opened}
use Rattle.mvo_theory.proofs.Prints.{prints_opened}
use Rattle.mvo_theory.proofs.EndSteps.{ends_opened}
use Rattle.mvo_theory.proofs.ClaimSteps.{claimed_opened}
use Rattle.mvo_theory.proofs.OriginSteps.{origins_opened}
use Rattle.mvo_theory.specs.Calls.Result.{Accepted, Refused}
use Rattle.mvo_theory.specs.Calls.Call.{Begin, Do, Precommit, Validate, Settle, Rollback, Finish, Trim, Close}
use Rattle.mvo_theory.proofs.Kept.{same_trace, kept_done, kept_begun, kept_prepared, kept_checked, kept_settled, kept_aborted, kept_failed, kept_terminated, kept_trimmed}

-- ---- each call, refused or not
kept_refused : (opening : Map) (xs : List Step) (s : State) (c : Call) (r : Refusal) → why_not s c ≡ Some r → IsKept opening xs s → IsKept opening (xs ++ steps_of_refused c r) (after_refused s c r)
kept_refused opening xs s Begin r w h = same_trace opening xs s h
kept_refused opening xs s (Do t op) r w h = kept_failed opening xs s t r (unended_done s t op r w) h
kept_refused opening xs s (Precommit t) r w h = kept_failed opening xs s t r (unended_after_prepare s t r w) h
kept_refused opening xs s (Validate t) r w h = kept_failed opening xs s t r (unended_after_check s t r w) h
kept_refused opening xs s (Settle t) r w h = kept_failed opening xs s t r (unended_settled s t r w) h
kept_refused opening xs s (Rollback t) r w h = same_trace opening xs s h
kept_refused opening xs s (Finish t) r w h = same_trace opening xs s h
kept_refused opening xs s (Trim m) r w h = same_trace opening xs s h
kept_refused opening xs s (Close fits g full) r w h = same_trace opening xs s h

-- out of memory changes nothing
kept_spent : (opening : Map) (xs : List Step) (s : State) (c : Call) → IsKept opening xs s → IsKept opening (xs ++ steps_of_refused c OutOfMemory) (after_refused s c OutOfMemory)
kept_spent opening xs s Begin h = same_trace opening xs s h
kept_spent opening xs s (Do t op) h = same_trace opening xs s h
kept_spent opening xs s (Precommit t) h = same_trace opening xs s h
kept_spent opening xs s (Validate t) h = same_trace opening xs s h
kept_spent opening xs s (Settle t) h = same_trace opening xs s h
kept_spent opening xs s (Rollback t) h = same_trace opening xs s h
kept_spent opening xs s (Finish t) h = same_trace opening xs s h
kept_spent opening xs s (Trim m) h = same_trace opening xs s h
kept_spent opening xs s (Close fits g full) h = same_trace opening xs s h

kept_finished : (opening : Map) (xs : List Step) (s : State) (t : ℕ) → why_not_finish s t ≡ None → IsKept opening xs s → IsKept opening (xs ++ steps_of_accepted s (Finish t)) (after_finish s t)
kept_finished opening xs s t w h = go (is_done s t)
  where
    go : (b : Bool) → IsKept opening (xs ++ cond b (Terminates t ∷ []) []) (cond b (after_termination s t) (with_words (words_left t) s))
    go true = kept_terminated opening xs s t w h
    go false = same_trace opening xs (with_words (words_left t) s) (kept_worded opening xs s (words_left t) h)

kept_accepted : (opening : Map) (xs : List Step) (s : State) (c : Call) → why_not s c ≡ None → IsKept opening xs s → IsKept opening (xs ++ steps_of_accepted s c) (after_accepted s c)
kept_accepted opening xs s Begin w h = kept_begun opening xs s h
kept_accepted opening xs s (Do t op) w h = kept_taken_over opening (xs ++ Answers t op (answer_in s t op) ∷ []) (after_operation s t op (answer_in s t op)) (new_claim s t op (answer_in s t op)) (kept_done opening xs s t op w h)
kept_accepted opening xs s (Precommit t) w h = kept_prepared opening xs s t w h
kept_accepted opening xs s (Validate t) w h = kept_checked opening xs s t w h
kept_accepted opening xs s (Settle t) w h = kept_settled opening xs s t w h
kept_accepted opening xs s (Rollback t) w h = kept_aborted opening xs s t (unended_rolled_back s t w) h
kept_accepted opening xs s (Finish t) w h = kept_finished opening xs s t w h
kept_accepted opening xs s (Trim m) w h = same_trace opening xs (after_trim s m) (kept_trimmed opening xs s m w h)
kept_accepted opening xs s (Close fits g full) w h = same_trace opening xs (after_close s g.mark) (kept_closed opening xs s g.mark h)

-- each call keeps what a core keeps, whatever it may come to
pub kept_after_call : (opening : Map) (xs : List Step) (s : State) (c : Call) (r : Result) → MayCome s c r → IsKept opening xs s → IsKept opening (xs ++ steps_of s c r) (after_call s c r)
kept_after_call opening xs s c Accepted m h = kept_accepted opening xs s c m.0 h
kept_after_call opening xs s c (Refused r) m h = go (why_not s c) refl (takes_memory c) m
  where
    go : (w : Option Refusal) → why_not s c ≡ w → (b : Bool) → IsRefusal b w r → IsKept opening (xs ++ steps_of_refused c r) (after_refused s c r)
    go (Some why) e b q = kept_refused opening xs s c r (e ∙ ap (λ (v : Refusal). Some v) (sym q)) h
    go None e true q = subst (λ (v : Refusal). IsKept opening (xs ++ steps_of_refused c v) (after_refused s c v)) (sym q) (kept_spent opening xs s c h)
    go None e false q = absurd q

pub kept_opened : (rows : Map) (mark : ℕ) → IsKept rows [] (opened rows mark)
kept_opened rows mark = record {
  sound = record { legal = tt; rising = tt; clear = tt; placed = tt; preparing = tt; active = tt };
  numbered = record { distinct = tt; apart = tt; before = tt };
  single = single_opened rows mark;
  exclusive = λ k n. omega arith;
  started = started_opened rows mark;
  after_trace = trace_opened rows mark;
  traced = traced_opened rows mark;
  claimed = claimed_opened rows mark;
  has_ends = ends_opened rows mark;
  prints = prints_opened rows mark;
  origins = origins_opened rows mark;
}

pub kept_after_run : (opening : Map) (xs : List Step) (s : State) (cs : Run) → MayRun s cs → IsKept opening xs s → IsKept opening (xs ++ trace_of s cs) (after_run s cs)
kept_after_run opening xs s [] m h = same_trace opening xs s h
kept_after_run opening xs s (c ∷ cs) m h =
    subst (λ ys. IsKept opening ys (after_run (after_call s c.0 c.1) cs)) (append_assoc xs (steps_of s c.0 c.1) (trace_of (after_call s c.0 c.1) cs))
    (kept_after_run opening (xs ++ steps_of s c.0 c.1) (after_call s c.0 c.1) cs m.1 (kept_after_call opening xs s c.0 c.1 m.0 h))

-- the committed transactions' replies are those of one map that runs them one after another by end timestamp
pub runs_are_serial : (rows : Map) (mark : ℕ) (cs : Run) → MayRun (opened rows mark) cs → IsSerial rows (trace_of (opened rows mark) cs)
runs_are_serial rows mark cs m =
    let k = kept_after_run rows [] (opened rows mark) cs m (kept_opened rows mark) in
    serial_after_trace rows (trace_of (opened rows mark) cs) (after_run (opened rows mark) cs) k.sound k.after_trace

-- each call comes to something: where no cause stands it may be accepted, and else it is refused with the first
pub some_result : (s : State) (c : Call) → IsCallInOrder s c → (r : Result) × MayCome s c r
some_result s c o = go (why_not s c) refl
  where
    refusal : (b : Bool) (why : Refusal) → IsRefusal b (Some why) why
    refusal true why = refl
    refusal false why = refl

    go : (w : Option Refusal) → why_not s c ≡ w → (r : Result) × MayCome s c r
    go None e = (Accepted, (e, o))
    go (Some why) e = (Refused why, subst (λ (v : Option Refusal). IsRefusal (takes_memory c) v why) (sym e) (refusal (takes_memory c) why))
