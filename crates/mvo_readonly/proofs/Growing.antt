-- Each call of the core keeps what the committed read-only transactions were told right.
use Rattle.std.proofs.Common.{◌≡◌, ◌≢◌, ℕ, ◌+◌, ◌<◌, ◌≤◌, Bool, true, false, cond, List, [], ◌∷◌, ◌++◌, Option, None, Some, length, map, refl, sym, ap, ◌∙◌, subst, arith}
use Rattle.std.specs.Prelude.{nat_le}
use Rattle.std.specs.List.{AllByRecursion}
use Rattle.mvo_types.specs.declared.op.Op.{Op}
use Rattle.mvo_types.specs.declared.refusal.Refusal.{Refusal}
use Rattle.mvo_types.specs.Keys.{Map}
use Rattle.mvo_types.specs.AnswerData.{AnswerData}
use Rattle.mvo_model.specs.History.{History}
use Rattle.mvo_model.specs.Trace.{Step}
use Rattle.mvo_theory.specs.Entries.{entries}
use Rattle.mvo_theory.specs.State.{State, StampedTx, ActiveTx, Claim, timeline, active_of, preparing_of}
use Rattle.mvo_theory.specs.Claims.{new_claim}
use Rattle.mvo_theory.specs.Changes.{after_operation, taken_over, after_answer, to_stamped, after_check, after_commit, with_settled, after_termination, after_finish, with_words, after_trim}
use Rattle.mvo_theory.specs.Causes.{awaited, awaited_by, waiting_for, is_failure, why_not_settle}
use Rattle.mvo_theory.specs.Words.{is_done, words_left}
use Rattle.mvo_theory.specs.Sound.{IsLegal, IsPast, IsRising}
use Rattle.mvo_theory.specs.Steps.{after_precommit_of, after_precommit, after_validate_of, after_validate, after_commit_of, after_settle_unless, after_settle, after_abort_of, after_abort, after_refusal}
use Rattle.mvo_theory.specs.Calls.{Call, Result, MayCome, answer_in, after_accepted, after_refused, after_call, steps_of, IsKept}
use Rattle.mvo_theory.specs.Calls.Call.{Begin, Do, Precommit, Validate, Settle, Rollback, Finish, Trim, Close}
use Rattle.mvo_theory.specs.Calls.Result.{Accepted, Refused}
use Rattle.mvo_theory.proofs.Each.{each_weaker, each_append}
use Rattle.mvo_theory.proofs.AfterTrace.{alone_open, rising_all}
use Rattle.mvo_theory.proofs.Commits.{split_at, free_settled}
use Rattle.mvo_theory.proofs.Settle.{rising_before, rising_after}
use Rattle.mvo_theory.proofs.Tales.{legal_append}
use Rattle.mvo_theory.proofs.Trim.{timeline_trimmed}
use Rattle.mvo_theory.proofs.Who.{preparing_settled}
use Rattle.mvo_theory.proofs.Runs.{kept_after_call}
use Rattle.mvo_readonly.specs.ReadAt.{IsReadAt}
use Rattle.mvo_readonly.proofs.Timeline.{read_prepared, read_checked, read_aborted, read_settled}

-- the clock doesn't fall, and what was told up to it stays right
pub record Grows (opening : Map) (s s' : State) : Type 0 where
  pub clock : s.clock ≤ s'.clock
  pub read : (b : ℕ) (ts : History) → b ≤ s.clock → IsReadAt opening (timeline s) b ts → IsReadAt opening (timeline s') b ts

grows_alike : (opening : Map) (s s' : State) → s.clock ≤ s'.clock → timeline s' ≡ timeline s → Grows opening s s'
grows_alike opening s s' le e = record { clock = le; read = λ b ts _ h. subst (λ l. IsReadAt opening l b ts) (sym e) h }

pub grows_same : (opening : Map) (s : State) → Grows opening s s
grows_same opening s = grows_alike opening s s (omega arith) refl

grows_prepared : (opening : Map) (s : State) (t : ℕ) → Grows opening s (after_precommit s t)
grows_prepared opening s t = go (active_of t s.active)
  where
    go : (w : Option ActiveTx) → Grows opening s (after_precommit_of s w)
    go None = grows_same opening s
    go (Some r) = record { clock = omega arith; read = λ b ts le h. read_prepared opening s.past s.stamped (to_stamped (s.clock + 1) r) b ts (omega arith) h }

grows_checked : (opening : Map) (s : State) (t : ℕ) → Grows opening s (after_validate s t)
grows_checked opening s t = go (preparing_of t s.stamped)
  where
    check : (x : StampedTx) (v b : Bool) → Grows opening s (cond b s (after_check s x.end v))
    check x v true = grows_same opening s
    check x v false = record { clock = omega arith; read = λ b ts _ h. read_checked opening s.past s.stamped x.end v b ts h }

    go : (w : Option StampedTx) → Grows opening s (after_validate_of s w)
    go None = grows_same opening s
    go (Some x) = check x (nat_le (length (entries x.history)) (x.checked + 1)) x.valid

pub grows_aborted : (opening : Map) (s : State) (t : ℕ) → IsRising s.stamped → Grows opening s (after_abort s t)
grows_aborted opening s t r = go (preparing_of t s.stamped) refl
  where
    go : (w : Option StampedTx) → preparing_of t s.stamped ≡ w → Grows opening s (after_abort_of s t w)
    go None e = grows_alike opening s _ (omega arith) refl
    go (Some x) e =
        let p = split_at t s.stamped x e in
        record { clock = omega arith; read = λ b ts _ h. read_aborted opening s.past s.stamped t x.end b ts (subst (AllByRecursion (λ y. y.end ≡ x.end → y.settled ≡ false)) (sym p.2) (alone_open p.0 p.1 x p.4 (subst IsRising p.2 r))) h }

grows_failed : (opening : Map) (s : State) (t : ℕ) (r : Refusal) → IsRising s.stamped → Grows opening s (after_refusal s t r)
grows_failed opening s t r k = go (is_failure r)
  where
    go : (b : Bool) → Grows opening s (cond b (after_abort s t) s)
    go true = grows_aborted opening s t k
    go false = grows_same opening s

grows_answered : (opening : Map) (s : State) (t : ℕ) (op : Op) (a : AnswerData) → Grows opening s (after_answer s t op a)
grows_answered opening s t op a = go (new_claim s t op a)
  where
    go : (c : Option Claim) → Grows opening s (taken_over c (after_operation s t op a))
    go None = grows_alike opening s _ (omega arith) refl
    go (Some c) = grows_alike opening s _ (omega arith) refl

pub grows_finished : (opening : Map) (s : State) (t : ℕ) → Grows opening s (after_finish s t)
grows_finished opening s t = go (is_done s t)
  where
    go : (b : Bool) → Grows opening s (cond b (after_termination s t) (with_words (words_left t) s))
    go true = grows_alike opening s _ (omega arith) refl
    go false = grows_alike opening s _ (omega arith) refl

-- ---- a commit
alone_flagless : (before after : List StampedTx) (x : StampedTx) → x.settled ≡ false → x.aborted_dependency ≡ None → IsRising (before ++ x ∷ after) → AllByRecursion (λ y. y.end ≡ x.end → (y.settled ≡ false) × (y.aborted_dependency ≡ None)) (before ++ x ∷ after)
alone_flagless before after x o d r = each_append (λ y. y.end ≡ x.end → (y.settled ≡ false) × (y.aborted_dependency ≡ None)) before (x ∷ after)
    (each_weaker (λ y. y.end < x.end) (λ y. y.end ≡ x.end → (y.settled ≡ false) × (y.aborted_dependency ≡ None)) (λ y lt e. absurd (omega arith)) before (rising_before before after x r))
    (λ _. (o, d), each_weaker (λ y. x.end < y.end) (λ y. y.end ≡ x.end → (y.settled ≡ false) × (y.aborted_dependency ≡ None)) (λ y lt e. absurd (omega arith)) after (rising_after before after x r))

legal_timeline : (opening : Map) (xs : List Step) (s : State) → IsKept opening xs s → IsLegal opening (timeline s)
legal_timeline opening xs s h = legal_append opening s.past s.stamped h.after_trace.legal (subst (λ (m : Map). IsLegal m s.stamped) h.after_trace.base h.sound.legal)

grows_committed : (opening : Map) (xs : List Step) (s : State) (t : ℕ) (x : StampedTx) → preparing_of t s.stamped ≡ Some x → why_not_settle s t ≡ None → waiting_for x.depends_on s.stamped ≡ None → IsKept opening xs s → IsLegal opening (s.past ++ map (with_settled x.end) s.stamped) → Grows opening s (after_commit s t x.end)
grows_committed opening xs s t x f w n h l =
    let p = split_at t s.stamped x f in
    let q = free_settled s t x f w n in
    record {
      clock = omega arith;
      read = λ b ts _ k. read_settled opening s.past s.stamped x.end b ts (each_weaker (IsPast s.start) (λ y. y.end ≢ x.end) (λ y u i. absurd (let a = u.until in let c = later p.0 p.1 p.2 in omega arith)) s.past h.started.past)
          (rising_all s h.sound h.started) l (subst (AllByRecursion (λ y. y.end ≡ x.end → (y.settled ≡ false) × (y.aborted_dependency ≡ None))) (sym p.2) (alone_flagless p.0 p.1 x p.4 q.0 (subst IsRising p.2 h.sound.rising))) k;
    }
  where
    last : (before after : List StampedTx) → AllByRecursion (λ y. s.start < y.end) (before ++ x ∷ after) → s.start < x.end
    last [] after k = k.0
    last (y ∷ ys) after k = last ys after k.1

    later : (before after : List StampedTx) → s.stamped ≡ before ++ x ∷ after → s.start < x.end
    later before after e = last before after (subst (AllByRecursion (λ y. s.start < y.end)) e h.started.later)

grows_settled : (opening : Map) (xs : List Step) (s : State) (t : ℕ) → why_not_settle s t ≡ None → IsKept opening xs s → IsLegal opening (timeline (after_settle s t)) → Grows opening s (after_settle s t)
grows_settled opening xs s t w h l = go (awaited s t) refl l
  where
    go : (v : Option StampedTx) → awaited s t ≡ v → IsLegal opening (timeline (after_settle_unless s t v)) → Grows opening s (after_settle_unless s t v)
    go (Some y) e l = grows_same opening s
    go None e l =
        let found = preparing_settled s t w in
        let x = found.0 in
        subst (Grows opening s) (sym (ap (after_commit_of s t) found.1))
        (grows_committed opening xs s t x found.1 w (sym (ap (awaited_by s.stamped) found.1) ∙ e) h
        (subst (λ (v : State). IsLegal opening (timeline v)) (ap (after_commit_of s t) found.1) l))

-- ---- each call
grows_accepted : (opening : Map) (xs : List Step) (s : State) (c : Call) → MayCome s c Accepted → IsKept opening xs s → IsLegal opening (timeline (after_accepted s c)) → Grows opening s (after_accepted s c)
grows_accepted opening xs s Begin m h l = grows_alike opening s _ (omega arith) refl
grows_accepted opening xs s (Do t op) m h l = grows_answered opening s t op (answer_in s t op)
grows_accepted opening xs s (Precommit t) m h l = grows_prepared opening s t
grows_accepted opening xs s (Validate t) m h l = grows_checked opening s t
grows_accepted opening xs s (Settle t) m h l = grows_settled opening xs s t m.0 h l
grows_accepted opening xs s (Rollback t) m h l = grows_aborted opening s t h.sound.rising
grows_accepted opening xs s (Finish t) m h l = grows_finished opening s t
grows_accepted opening xs s (Trim n) m h l = grows_alike opening s (after_trim s n) (omega arith) (timeline_trimmed s n h.sound.rising)
grows_accepted opening xs s (Close fits g full) m h l = grows_alike opening s _ (omega arith) refl

grows_refused : (opening : Map) (s : State) (c : Call) (r : Refusal) → IsRising s.stamped → Grows opening s (after_refused s c r)
grows_refused opening s Begin r k = grows_same opening s
grows_refused opening s (Do t op) r k = grows_failed opening s t r k
grows_refused opening s (Precommit t) r k = grows_failed opening s t r k
grows_refused opening s (Validate t) r k = grows_failed opening s t r k
grows_refused opening s (Settle t) r k = grows_failed opening s t r k
grows_refused opening s (Rollback t) r k = grows_same opening s
grows_refused opening s (Finish t) r k = grows_same opening s
grows_refused opening s (Trim m) r k = grows_same opening s
grows_refused opening s (Close fits g full) r k = grows_same opening s

-- each call of the core, whatever it comes to
pub grows_after_call : (opening : Map) (xs : List Step) (s : State) (c : Call) (r : Result) → MayCome s c r → IsKept opening xs s → Grows opening s (after_call s c r)
grows_after_call opening xs s c Accepted m h = grows_accepted opening xs s c m h (legal_timeline opening (xs ++ steps_of s c Accepted) (after_accepted s c) (kept_after_call opening xs s c Accepted m h))
grows_after_call opening xs s c (Refused r) m h = grows_refused opening s c r h.sound.rising
