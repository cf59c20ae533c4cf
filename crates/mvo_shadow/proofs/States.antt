-- What a call leaves on the shadow is the shadow of what it leaves.
use Rattle.std.proofs.Common.{◌≡◌, ℕ, ◌+◌, Bool, true, false, cond, not, List, [], ◌∷◌, ◌++◌, Option, None, Some, map, refl, sym, ap, ◌∙◌}
use Rattle.std.specs.Prelude.{◌==◌, is_some}
use Rattle.std.specs.List.{AllByRecursion, filter}
use Rattle.std.specs.Option.{option_map}
use Rattle.std.proofs.lemmas.Bool.{true≢false, eqb-true}
use Rattle.mvo_types.specs.declared.row.RowKey.{RowKey}
use Rattle.mvo_types.specs.declared.op.Op.{Op}
use Rattle.mvo_types.specs.declared.refusal.Refusal.{Refusal}
use Rattle.mvo_types.specs.AnswerData.{AnswerData}
use Rattle.mvo_types.specs.Write.{Write}
use Rattle.mvo_model.specs.History.{write_of, write_at}
use Rattle.mvo_theory.specs.State.{State, ActiveTx, StampedTx, Claim, Word, active_of, preparing_of, history_of_active, snapshot}
use Rattle.mvo_theory.specs.Causes.{awaited, is_failure}
use Rattle.mvo_theory.specs.Claims.{ended_key, claim_with, new_claim}
use Rattle.mvo_theory.specs.Words.{words_now, words_left, is_done}
use Rattle.mvo_theory.specs.Changes.{after_operation, after_answer, taken_over, without_id, with_settled, committed_tx, after_commit, with_flag, active_with_flag, not_at, aborted_tx, after_abort_of_active, after_abort_of_preparing, after_termination, with_words, after_finish, with_check, after_check}
use Rattle.mvo_theory.specs.Steps.{after_precommit_of, after_precommit, after_commit_of, after_commit_now, after_settle_unless, after_settle, after_abort_of, after_abort, after_refusal}
use Rattle.mvo_theory.specs.Calls.{answer_in}
use Rattle.mvo_theory.proofs.ClaimSteps.{ended_written}
use Rattle.mvo_shared.specs.Kept.{WorkContent}
use Rattle.mvo_shared.specs.Shared.{after_registering, after_valid}
use Rattle.mvo_shared.specs.Shadow.{is_writing_answer, active_shadow, stamped_shadow, shadow}
use Rattle.mvo_shared.specs.Given.{answer_given, core_op, after_core_op, after_do_given}
use Rattle.mvo_shared.proofs.Shadow.{prepare_shadow, settled_shadow, aborted_shadow, flagged_shadow, look_shadow, write_shadow, checked_shadow}
use Rattle.mvo_shared.proofs.OwnSteps.{core_op_same}
use Rattle.mvo_shadow.proofs.Finds.{active_there, preparing_there, answer_alike, new_claim_alike, awaited_there, words_alike, map_filter}

-- ---- an operation
none_of : (w : Option Write) → is_some w ≡ false → w ≡ None
none_of None e = refl
none_of (Some v) e = absurd (true≢false e)

silent_ends_none : (op : Op) (a : AnswerData) → write_of op a ≡ None → ended_key op a ≡ None
silent_ends_none op a n = go (ended_key op a) refl
  where
    go : (w : Option RowKey) → ended_key op a ≡ w → w ≡ None
    go None e = refl
    go (Some k) e = absurd (true≢false (sym (ended_written op a k e) ∙ ap (λ (v : Option Write). is_some (write_at k v)) n))

silent_alike : (s : State) (t : ℕ) (op : Op) (a : AnswerData) → write_of op a ≡ None → shadow (after_answer s t op a) ≡ after_registering (shadow s) t op
silent_alike s t op a n = ap (λ (k : Option RowKey). shadow (taken_over (claim_with s t (history_of_active t s.active) k) (after_operation s t op a))) (silent_ends_none op a n) ∙ look_shadow s t op a n

over_alike : (c : Option Claim) (s : State) → shadow (taken_over c s) ≡ taken_over c (shadow s)
over_alike None s = refl
over_alike (Some c) s = refl

writing_alike : (s : State) (t : ℕ) (op : Op) (a : AnswerData) → is_writing_answer (op, a) ≡ true → shadow (after_answer s t op a) ≡ after_answer (shadow s) t op a
writing_alike s t op a w =
    over_alike (new_claim s t op a) (after_operation s t op a)
    ∙ ap (taken_over (new_claim s t op a)) (write_shadow s t op a w)
    ∙ ap (λ c. taken_over c (after_operation (shadow s) t op a)) (sym (new_claim_alike s t op a))

pub do_state : (s : State) (t : ℕ) (w : WorkContent) (op : Op) → answer_given (shadow s) t w op ≡ answer_in (shadow s) t op → after_do_given (shadow s) t w op ≡ shadow (after_answer s t op (answer_in s t op))
do_state s t w op told = go (is_some (write_of op (answer_given (shadow s) t w op))) refl
  where
    own : Op
    own = core_op (snapshot (shadow s) t) op

    go : (b : Bool) → is_some (write_of op (answer_given (shadow s) t w op)) ≡ b → cond b (after_core_op (shadow s) t own (answer_in (shadow s) t own)) (after_registering (shadow s) t op) ≡ shadow (after_answer s t op (answer_in s t op))
    go false e = sym (silent_alike s t op (answer_in s t op) (none_of (write_of op (answer_in s t op)) (sym (ap (λ a. is_some (write_of op a)) (told ∙ answer_alike s t op)) ∙ e)))
    go true e =
        let here : is_some (write_of op (answer_in (shadow s) t op)) ≡ true = sym (ap (λ a. is_some (write_of op a)) told) ∙ e in
        ap (λ o. after_core_op (shadow s) t o (answer_in (shadow s) t o)) (core_op_same (snapshot (shadow s) t) op here)
        ∙ ap (λ (b : Bool). cond b (after_answer (shadow s) t op (answer_in (shadow s) t op)) (after_registering (shadow s) t op)) here
        ∙ ap (after_answer (shadow s) t op) (answer_alike s t op)
        ∙ sym (writing_alike s t op (answer_in s t op) (sym (ap (λ a. is_some (write_of op a)) (answer_alike s t op)) ∙ here))

-- ---- precommit
pub precommit_state : (s : State) (t : ℕ) → after_precommit (shadow s) t ≡ shadow (after_precommit s t)
precommit_state s t = ap (after_precommit_of (shadow s)) (active_there t s.active) ∙ go (active_of t s.active)
  where
    go : (v : Option ActiveTx) → after_precommit_of (shadow s) (option_map active_shadow v) ≡ shadow (after_precommit_of s v)
    go None = refl
    go (Some r) = sym (prepare_shadow s r (s.clock + 1))

-- ---- a check
pub last_state : (s : State) (e : ℕ) → after_valid (shadow s) e ≡ shadow (after_check s e true)
last_state s e = ap (λ xs. record (shadow s) { stamped = xs }) (sym (checked_shadow e s.stamped))

pub check_state : (s : State) (e : ℕ) → AllByRecursion (λ x. x.end ≡ e → x.valid ≡ false) s.stamped → shadow s ≡ shadow (after_check s e false)
check_state s e h = ap (λ xs. record (shadow s) { stamped = xs }) (go s.stamped h)
  where
    one : (x : StampedTx) (b : Bool) → x.end == e ≡ b → (x.end ≡ e → x.valid ≡ false) → ◌≡◌ {A = StampedTx} (stamped_shadow x) (record (stamped_shadow x) { checked = 0; valid = cond b false x.valid })
    one x true i n = ap (λ (v : Bool). record (stamped_shadow x) { valid = v }) (n (eqb-true x.end e i))
    one x false i n = refl

    go : (xs : List StampedTx) → AllByRecursion (λ x. x.end ≡ e → x.valid ≡ false) xs → map stamped_shadow xs ≡ map stamped_shadow (map (with_check e false) xs)
    go [] n = refl
    go (x ∷ xs) n = ap (λ y. y ∷ map stamped_shadow xs) (one x (x.end == e) refl n.0) ∙ ap (λ ys. stamped_shadow (with_check e false x) ∷ ys) (go xs n.1)

-- ---- settle
commit_state : (s : State) (t e : ℕ) → after_commit (shadow s) t e ≡ shadow (after_commit s t e)
commit_state s t e =
    ap (λ (ws : List Word). record (shadow s) { stamped = map (with_settled e) (map stamped_shadow s.stamped); ended = s.ended ++ committed_tx t e ws ∷ [] }) (words_alike s t)
    ∙ ap (λ (xs : List StampedTx). record (shadow s) { stamped = xs; ended = s.ended ++ committed_tx t e (words_now s t) ∷ [] }) (sym (settled_shadow e s.stamped))

commit_now_state : (s : State) (t : ℕ) → after_commit_now (shadow s) t ≡ shadow (after_commit_now s t)
commit_now_state s t = ap (after_commit_of (shadow s) t) (preparing_there t s.stamped) ∙ go (preparing_of t s.stamped)
  where
    go : (v : Option StampedTx) → after_commit_of (shadow s) t (option_map stamped_shadow v) ≡ shadow (after_commit_of s t v)
    go None = refl
    go (Some x) = commit_state s t x.end

pub settle_state : (s : State) (t : ℕ) → after_settle (shadow s) t ≡ shadow (after_settle s t)
settle_state s t = ap (after_settle_unless (shadow s) t) (awaited_there s t) ∙ go (awaited s t)
  where
    go : (v : Option StampedTx) → after_settle_unless (shadow s) t (option_map stamped_shadow v) ≡ shadow (after_settle_unless s t v)
    go None = commit_now_state s t
    go (Some x) = refl

-- ---- an abort
active_abort_state : (s : State) (t : ℕ) → after_abort_of_active (shadow s) t ≡ shadow (after_abort_of_active s t)
active_abort_state s t =
    ap (λ (ws : List Word). record (shadow s) { active = without_id t (map active_shadow s.active); ended = s.ended ++ aborted_tx t ws ∷ [] }) (words_alike s t)
    ∙ ap (λ (rs : List ActiveTx). record (shadow s) { active = rs; ended = s.ended ++ aborted_tx t (words_now s t) ∷ [] }) (sym (map_filter active_shadow (λ r. not (r.id == t)) (λ r. refl) s.active))

preparing_abort_state : (s : State) (t e : ℕ) → after_abort_of_preparing (shadow s) t e ≡ shadow (after_abort_of_preparing s t e)
preparing_abort_state s t e =
    ap (λ (ws : List Word). record (shadow s) { active = map (active_with_flag t e) (map active_shadow s.active); stamped = map (with_flag t e) (filter (not_at e) (map stamped_shadow s.stamped)); ended = s.ended ++ aborted_tx t ws ∷ [] }) (words_alike s t)
    ∙ ap (λ (rs : List ActiveTx). record (shadow s) { active = rs; stamped = map (with_flag t e) (filter (not_at e) (map stamped_shadow s.stamped)); ended = s.ended ++ aborted_tx t (words_now s t) ∷ [] }) (sym (flagged_shadow t e s.active))
    ∙ ap (λ (xs : List StampedTx). record (shadow s) { active = map active_shadow (map (active_with_flag t e) s.active); stamped = xs; ended = s.ended ++ aborted_tx t (words_now s t) ∷ [] }) (sym (aborted_shadow t e s.stamped))

pub abort_state : (s : State) (t : ℕ) → after_abort (shadow s) t ≡ shadow (after_abort s t)
abort_state s t = ap (after_abort_of (shadow s) t) (preparing_there t s.stamped) ∙ go (preparing_of t s.stamped)
  where
    go : (v : Option StampedTx) → after_abort_of (shadow s) t (option_map stamped_shadow v) ≡ shadow (after_abort_of s t v)
    go None = active_abort_state s t
    go (Some x) = preparing_abort_state s t x.end

pub refusal_state : (s : State) (t : ℕ) (r : Refusal) → after_refusal (shadow s) t r ≡ shadow (after_refusal s t r)
refusal_state s t r = go (is_failure r)
  where
    go : (b : Bool) → cond b (after_abort (shadow s) t) (shadow s) ≡ shadow (cond b (after_abort s t) s)
    go true = abort_state s t
    go false = refl

-- ---- finishing
pub finish_state : (s : State) (t : ℕ) → after_finish (shadow s) t ≡ shadow (after_finish s t)
finish_state s t = go (is_done s t)
  where
    go : (b : Bool) → cond b (after_termination (shadow s) t) (with_words (words_left t) (shadow s)) ≡ shadow (cond b (after_termination s t) (with_words (words_left t) s))
    go true = refl
    go false = refl
