-- What steps behind a trace say of each transaction.
use Rattle.std.proofs.Common.{◌≡◌, ◌≢◌, ℕ, ◌+◌, ◌≤◌, Bool, true, false, cond, List, [], ◌∷◌, ◌++◌, Option, None, Some, length, refl, sym, ap, ◌∙◌, subst, arith, append_assoc}
use Rattle.std.specs.Prelude.{◌==◌, nat_le}
use Rattle.std.specs.List.{AllByRecursion}
use Rattle.std.specs.List.Sorted.{IsPermutation}
use Rattle.std.proofs.lemmas.Bool.{ne_eqb}
use Rattle.std.proofs.lemmas.List.Sorted.{IsPermutation-trans, IsPermutation-append_left, IsPermutation-append_right, IsPermutation-append_comm}
use Rattle.mvo_types.specs.declared.op.Op.{Op}
use Rattle.mvo_types.specs.declared.refusal.Refusal.{Refusal}
use Rattle.mvo_types.specs.AnswerData.{AnswerData}
use Rattle.mvo_model.specs.History.{History}
use Rattle.mvo_model.specs.Trace.{Step, Phase, owner_of, phase_after, phase_from, phase_of, history_by, history_of, commit_of, commits}
use Rattle.mvo_model.specs.Trace.Step.{Begins, Answers, Prepares, Checks, Commits, Aborts, Terminates}
use Rattle.mvo_theory.specs.Entries.{entries}
use Rattle.mvo_theory.specs.State.{State, StampedTx, ActiveTx, Claim, active_of, preparing_of}
use Rattle.mvo_theory.specs.Claims.{new_claim}
use Rattle.mvo_theory.specs.Changes.{after_operation, taken_over, after_check, after_termination, with_words}
use Rattle.mvo_theory.specs.Causes.{awaited, is_failure, end_of}
use Rattle.mvo_theory.specs.Words.{is_done, words_left}
use Rattle.mvo_theory.specs.Snapshots.{is_aborted}
use Rattle.mvo_theory.specs.Traced.{is_abort_of}
use Rattle.mvo_theory.specs.Steps.{after_precommit_of, after_validate_of, after_commit_of, after_settle_unless, after_abort_of, after_abort, steps_of_refusal}
use Rattle.mvo_theory.specs.Calls.{Call, Result, answer_in, after_call, steps_unless, steps_of}
use Rattle.mvo_theory.specs.Calls.Call.{Begin, Do, Precommit, Validate, Settle, Rollback, Finish, Trim, Close}
use Rattle.mvo_theory.specs.Calls.Result.{Accepted, Refused}
use Rattle.mvo_theory.proofs.Footprints.{any_left}
use Rattle.mvo_readonly.specs.Whole.{id_named}

pub append-none : {X : Type 0} (xs : List X) → xs ++ [] ≡ xs
append-none [] = refl
append-none (x ∷ xs) = ap (λ ys. x ∷ ys) (append-none xs)

-- ---- steps behind steps
pub phase_both : (t : ℕ) (p : Phase) (xs zs : List Step) → phase_from p t (xs ++ zs) ≡ phase_from (phase_from p t xs) t zs
phase_both t p [] zs = refl
phase_both t p (x ∷ xs) zs = phase_both t (cond (owner_of x == t) (phase_after x p) p) xs zs

pub history_both : (t : ℕ) (xs zs : List Step) → history_of t (xs ++ zs) ≡ history_of t xs ++ history_of t zs
history_both t [] zs = refl
history_both t (x ∷ xs) zs = ap (λ us. history_by x t ++ us) (history_both t xs zs) ∙ sym (append_assoc (history_by x t) (history_of t xs) (history_of t zs))

pub commits_both : (xs zs : List Step) → commits (xs ++ zs) ≡ commits xs ++ commits zs
commits_both [] zs = refl
commits_both (x ∷ xs) zs = ap (λ us. commit_of x ++ us) (commits_both xs zs) ∙ sym (append_assoc (commit_of x) (commits xs) (commits zs))

pub aborted_still : (t : ℕ) (xs zs : List Step) → is_aborted t xs ≡ true → is_aborted t (xs ++ zs) ≡ true
aborted_still t xs zs h = any_left (is_abort_of t) xs zs h

-- ---- steps of others
abbrev pub AreOthers : ℕ → List Step → Type 0
AreOthers u zs = AllByRecursion (λ x. owner_of x ≢ u) zs

phase_from_others : (u : ℕ) (p : Phase) (zs : List Step) → AreOthers u zs → phase_from p u zs ≡ p
phase_from_others u p [] h = refl
phase_from_others u p (x ∷ zs) h = ap (λ (b : Bool). phase_from (cond b (phase_after x p) p) u zs) (ne_eqb (owner_of x) u h.0) ∙ phase_from_others u p zs h.1

pub phase_others : (u : ℕ) (xs zs : List Step) (p : Phase) → AreOthers u zs → phase_of u xs ≡ p → phase_of u (xs ++ zs) ≡ p
phase_others u xs zs p h e = phase_both u _ xs zs ∙ phase_from_others u (phase_of u xs) zs h ∙ e

one_other : (u : ℕ) (x : Step) → owner_of x ≢ u → history_by x u ≡ []
one_other u (Answers v op s) n = ap (λ (b : Bool). cond b ((op, s) ∷ []) []) (ne_eqb v u n)
one_other u (Begins v) n = refl
one_other u (Prepares v e) n = refl
one_other u (Checks v) n = refl
one_other u (Commits v e) n = refl
one_other u (Aborts v) n = refl
one_other u (Terminates v) n = refl

pub history_from_others : (u : ℕ) (zs : List Step) → AreOthers u zs → history_of u zs ≡ []
history_from_others u [] h = refl
history_from_others u (x ∷ zs) h = ap (λ ts. ts ++ history_of u zs) (one_other u x h.0) ∙ history_from_others u zs h.1

-- steps in which u was told nothing
pub history_quiet : (u : ℕ) (xs zs : List Step) (ts : History) → history_of u zs ≡ [] → history_of u xs ≡ ts → history_of u (xs ++ zs) ≡ ts
history_quiet u xs zs ts n e = history_both u xs zs ∙ ap (λ us. history_of u xs ++ us) n ∙ append-none (history_of u xs) ∙ e

-- ---- the same steps behind two traces
pub follow_history : (t : ℕ) (ws xs zs : List Step) → history_of t ws ≡ history_of t xs → history_of t (ws ++ zs) ≡ history_of t (xs ++ zs)
follow_history t ws xs zs e = history_both t ws zs ∙ ap (λ ts. ts ++ history_of t zs) e ∙ sym (history_both t xs zs)

pub follow_phase : (t : ℕ) (ws xs zs : List Step) → phase_of t ws ≡ phase_of t xs → phase_of t (ws ++ zs) ≡ phase_of t (xs ++ zs)
follow_phase t ws xs zs e = phase_both t _ ws zs ∙ ap (λ p. phase_from p t zs) e ∙ sym (phase_both t _ xs zs)

pub follow_commits : (ws xs zs : List Step) (more : List (ℕ × ℕ)) → IsPermutation (commits ws) (commits xs ++ more) → IsPermutation (commits (ws ++ zs)) (commits (xs ++ zs) ++ more)
follow_commits ws xs zs more p =
    let a = commits ws in
    let b = commits xs in
    let c = commits zs in
    subst (λ l. IsPermutation l (commits (xs ++ zs) ++ more)) (sym (commits_both ws zs))
    (subst (IsPermutation (a ++ c)) (sym (append_assoc b c more) ∙ ap (λ l. l ++ more) (sym (commits_both xs zs)))
    (IsPermutation-trans (a ++ c) (b ++ (more ++ c)) (b ++ (c ++ more))
    (subst (IsPermutation (a ++ c)) (append_assoc b more c) (IsPermutation-append_left c a (b ++ more) p))
    (IsPermutation-append_right b (more ++ c) (c ++ more) (IsPermutation-append_comm more c))))

-- ---- the steps of a call of the core
pub steps_of_others : (u : ℕ) (s : State) (c : Call) (r : Result) → u ≤ s.clock → ((t : ℕ) → id_named c ≡ Some t → t ≢ u) → AreOthers u (steps_of s c r)
steps_of_others u s c r le n = go c r n
  where
    failed : (t : ℕ) (r' : Refusal) → t ≢ u → AreOthers u (steps_of_refusal t r')
    failed t r' ne = by (is_failure r')
      where
        by : (b : Bool) → AreOthers u (cond b (Aborts t ∷ []) [])
        by true = (ne, tt)
        by false = tt

    unless : (t e : ℕ) (x : Option StampedTx) → t ≢ u → AreOthers u (steps_unless t e x)
    unless t e (Some x) ne = tt
    unless t e None ne = (ne, tt)

    done : (t : ℕ) (b : Bool) → t ≢ u → AreOthers u (cond b (Terminates t ∷ []) [])
    done t true ne = (ne, tt)
    done t false ne = tt

    go : (c' : Call) (r' : Result) → ((t : ℕ) → id_named c' ≡ Some t → t ≢ u) → AreOthers u (steps_of s c' r')
    go Begin Accepted m = ((λ e. absurd (omega arith)), tt)
    go (Do t op) Accepted m = (m t refl, tt)
    go (Precommit t) Accepted m = (m t refl, tt)
    go (Validate t) Accepted m = (m t refl, tt)
    go (Settle t) Accepted m = unless t (end_of s t) (awaited s t) (m t refl)
    go (Rollback t) Accepted m = (m t refl, tt)
    go (Finish t) Accepted m = done t (is_done s t) (m t refl)
    go (Trim k) Accepted m = tt
    go (Close fits g full) Accepted m = tt
    go Begin (Refused q) m = tt
    go (Do t op) (Refused q) m = failed t q (m t refl)
    go (Precommit t) (Refused q) m = failed t q (m t refl)
    go (Validate t) (Refused q) m = failed t q (m t refl)
    go (Settle t) (Refused q) m = failed t q (m t refl)
    go (Rollback t) (Refused q) m = tt
    go (Finish t) (Refused q) m = tt
    go (Trim k) (Refused q) m = tt
    go (Close fits g full) (Refused q) m = tt

-- u is told nothing but by an operation of its own
pub steps_of_quiet : (u : ℕ) (s : State) (c : Call) (r : Result) → ((t : ℕ) (op : Op) → c ≡ Do t op → r ≡ Accepted → t ≢ u) → history_of u (steps_of s c r) ≡ []
steps_of_quiet u s c r n = go c r n
  where
    failed : (t : ℕ) (b : Bool) → history_of u (cond b (Aborts t ∷ []) []) ≡ []
    failed t true = refl
    failed t false = refl

    unless : (t e : ℕ) (x : Option StampedTx) → history_of u (steps_unless t e x) ≡ []
    unless t e (Some x) = refl
    unless t e None = refl

    done : (t : ℕ) (b : Bool) → history_of u (cond b (Terminates t ∷ []) []) ≡ []
    done t true = refl
    done t false = refl

    go : (c' : Call) (r' : Result) → ((t : ℕ) (op : Op) → c' ≡ Do t op → r' ≡ Accepted → t ≢ u) → history_of u (steps_of s c' r') ≡ []
    go Begin Accepted m = refl
    go (Do t op) Accepted m = history_from_others u (Answers t op (answer_in s t op) ∷ []) (m t op refl refl, tt)
    go (Precommit t) Accepted m = refl
    go (Validate t) Accepted m = refl
    go (Settle t) Accepted m = unless t (end_of s t) (awaited s t)
    go (Rollback t) Accepted m = refl
    go (Finish t) Accepted m = done t (is_done s t)
    go (Trim k) Accepted m = refl
    go (Close fits g full) Accepted m = refl
    go Begin (Refused q) m = refl
    go (Do t op) (Refused q) m = failed t (is_failure q)
    go (Precommit t) (Refused q) m = failed t (is_failure q)
    go (Validate t) (Refused q) m = failed t (is_failure q)
    go (Settle t) (Refused q) m = failed t (is_failure q)
    go (Rollback t) (Refused q) m = refl
    go (Finish t) (Refused q) m = refl
    go (Trim k) (Refused q) m = refl
    go (Close fits g full) (Refused q) m = refl

-- ---- the start moves by a trim alone
pub start_stays : (s : State) (c : Call) (r : Result) → ((m : ℕ) → c ≡ Trim m → r ≡ Accepted → ⊥) → (after_call s c r).start ≡ s.start
start_stays s c r n = go c r n
  where
    aborted : (t : ℕ) (w : Option StampedTx) → (after_abort_of s t w).start ≡ s.start
    aborted t None = refl
    aborted t (Some x) = refl

    failed : (t : ℕ) (b : Bool) → (cond b (after_abort s t) s).start ≡ s.start
    failed t true = aborted t (preparing_of t s.stamped)
    failed t false = refl

    answered : (t : ℕ) (op : Op) (a : AnswerData) (w : Option Claim) → (taken_over w (after_operation s t op a)).start ≡ s.start
    answered t op a None = refl
    answered t op a (Some x) = refl

    prepared : (w : Option ActiveTx) → (after_precommit_of s w).start ≡ s.start
    prepared None = refl
    prepared (Some x) = refl

    checked : (w : Option StampedTx) → (after_validate_of s w).start ≡ s.start
    checked None = refl
    checked (Some x) = by x.valid
      where
        by : (b : Bool) → (cond b s (after_check s x.end (nat_le (length (entries x.history)) (x.checked + 1)))).start ≡ s.start
        by true = refl
        by false = refl

    committed : (t : ℕ) (w : Option StampedTx) → (after_commit_of s t w).start ≡ s.start
    committed t None = refl
    committed t (Some x) = refl

    settled : (t : ℕ) (w : Option StampedTx) → (after_settle_unless s t w).start ≡ s.start
    settled t (Some x) = refl
    settled t None = committed t (preparing_of t s.stamped)

    finished : (t : ℕ) (b : Bool) → (cond b (after_termination s t) (with_words (words_left t) s)).start ≡ s.start
    finished t true = refl
    finished t false = refl

    go : (c' : Call) (r' : Result) → ((m : ℕ) → c' ≡ Trim m → r' ≡ Accepted → ⊥) → (after_call s c' r').start ≡ s.start
    go Begin Accepted k = refl
    go (Do t op) Accepted k = answered t op (answer_in s t op) (new_claim s t op (answer_in s t op))
    go (Precommit t) Accepted k = prepared (active_of t s.active)
    go (Validate t) Accepted k = checked (preparing_of t s.stamped)
    go (Settle t) Accepted k = settled t (awaited s t)
    go (Rollback t) Accepted k = aborted t (preparing_of t s.stamped)
    go (Finish t) Accepted k = finished t (is_done s t)
    go (Trim m) Accepted k = absurd (k m refl refl)
    go (Close fits g full) Accepted k = refl
    go Begin (Refused q) k = refl
    go (Do t op) (Refused q) k = failed t (is_failure q)
    go (Precommit t) (Refused q) k = failed t (is_failure q)
    go (Validate t) (Refused q) k = failed t (is_failure q)
    go (Settle t) (Refused q) k = failed t (is_failure q)
    go (Rollback t) (Refused q) k = refl
    go (Finish t) (Refused q) k = refl
    go (Trim m) (Refused q) k = refl
    go (Close fits g full) (Refused q) k = refl
