-- The works hold what the histories of the state have, after each call too.
use Rattle.std.proofs.Common.{ne_eqb, ◌≡◌, ◌≢◌, ℕ, ◌+◌, Bool, true, false, cond, not, ◌||◌, List, [], ◌∷◌, ◌++◌, Option, None, Some, refl, sym, ap, ◌∙◌, subst, arith}
use Rattle.std.specs.Prelude.{◌==◌}
use Rattle.std.specs.List.{AllByRecursion, filter}
use Rattle.std.proofs.lemmas.Bool.{true≢false, eqb-true, eq-eqb}
use Rattle.mvo_types.specs.declared.op.Op.{Op}
use Rattle.mvo_types.specs.declared.refusal.Refusal.{Refusal}
use Rattle.mvo_types.specs.RowData.{RowData}
use Rattle.mvo_types.specs.AnswerData.{AnswerData}
use Rattle.mvo_theory.specs.State.{State, ActiveTx, StampedTx, Claim, preparing_of}
use Rattle.mvo_theory.specs.Causes.{awaited, is_failure}
use Rattle.mvo_theory.specs.Claims.{new_claim}
use Rattle.mvo_theory.specs.Words.{words_left, is_done}
use Rattle.mvo_theory.specs.Changes.{new_active, after_begin, with_answer, after_operation, after_answer, taken_over, to_stamped, after_prepare, with_settled, after_commit, with_flag, active_with_flag, not_at, after_termination, with_words, after_finish, is_to, after_trim, with_check, after_check}
use Rattle.mvo_theory.specs.Steps.{after_commit_of, after_settle_unless, after_settle, after_abort_of, after_abort, after_refusal}
use Rattle.mvo_theory.specs.Sound.{IsActive, IsPlaced, IsSound}
use Rattle.mvo_theory.proofs.Each.{each_both, each_append, each_map}
use Rattle.mvo_theory.proofs.Stamped.{each_part}
use Rattle.mvo_shared.specs.Kept.{WorkContent, after_op}
use Rattle.mvo_shared.specs.Shared.{TakenWork, AllTaken, with_taken, WorksById, with_work}
use Rattle.mvo_shared.specs.Shadow.{shadow}
use Rattle.mvo_shared.specs.Given.{rows_to, answer_given, one_more_checked}
use Rattle.mvo_shared.specs.Held.{empty_work}
use Rattle.mvo_shared.proofs.Works.{ordered_after_op}
use Rattle.mvo_shared.proofs.Told.{taken_other, taken_there}
use Rattle.mvo_shadow.specs.Shadowed.{IsWorkOf}

-- ---- what the works hold
abbrev pub IsHeld : WorksById → ActiveTx → Type 0
IsHeld works r = IsWorkOf r.history (works r.id)

abbrev pub IsIn : AllTaken → StampedTx → Type 0
IsIn all x = IsWorkOf x.history (all x.end).work

abbrev pub IsCounted : AllTaken → StampedTx → Type 0
IsCounted all x = x.settled ≡ false → (all x.end).checked ≡ x.checked

pub record AreHeld (s : State) (all : AllTaken) (works : WorksById) : Type 0 where
  pub active : AllByRecursion (IsHeld works) s.active
  pub taken : AllByRecursion (IsIn all) s.stamped
  pub checked : AllByRecursion (IsCounted all) s.stamped

-- ---- begin
with_other : (works : WorksById) (t : ℕ) (w : WorkContent) (n : ℕ) → n ≢ t → with_work works t w n ≡ works n
with_other works t w n h = ap (λ (b : Bool). cond b w (works n)) (ne_eqb n t h)

with_there : (works : WorksById) (t : ℕ) (w : WorkContent) → with_work works t w t ≡ w
with_there works t w = ap (λ (b : Bool). cond b w (works t)) (eq-eqb t t refl)

pub held_begun : (s : State) (all : AllTaken) (works : WorksById) → IsSound s → AreHeld s all works → AreHeld (after_begin s (s.clock + 1)) all (with_work works (s.clock + 1) empty_work)
held_begun s all works sound h = record {
  active = each_append (IsHeld (with_work works (s.clock + 1) empty_work)) s.active (new_active (s.clock + 1) ∷ [])
      (each_both (IsActive s.base s.stamped s.clock) (IsHeld works) (IsHeld (with_work works (s.clock + 1) empty_work))
      (λ r a q. subst (IsWorkOf r.history) (sym (with_other works (s.clock + 1) empty_work r.id (λ e. absurd (let d = a.drawn in omega arith)))) q) s.active sound.active h.active)
      (subst (IsWorkOf []) (sym (with_there works (s.clock + 1) empty_work)) (record { history = refl; order = refl }), tt);
  taken = h.taken;
  checked = h.checked;
}

-- ---- an operation
held_over : (c : Option Claim) (s : State) (all : AllTaken) (works : WorksById) → AreHeld s all works → AreHeld (taken_over c s) all works
held_over None s all works h = h
held_over (Some c) s all works h = record { active = h.active; taken = h.taken; checked = h.checked }

pub held_answered : (s : State) (all : AllTaken) (works : WorksById) (t : ℕ) (op : Op) (a : AnswerData) → answer_given (shadow s) t (works t) op ≡ a → AreHeld s all works → AreHeld (after_answer s t op a) all (with_work works t (after_op (works t) op (rows_to (shadow s) t op)))
held_answered s all works t op a told h = held_over (new_claim s t op a) (after_operation s t op a) all more (record {
  active = each_map (with_answer s t op a) (IsHeld works) (IsHeld more) (λ r q. one r (r.id == t) refl q) s.active h.active;
  taken = h.taken;
  checked = h.checked;
})
  where
    rows : List RowData
    rows = rows_to (shadow s) t op

    more : WorksById
    more = with_work works t (after_op (works t) op rows)

    one : (r : ActiveTx) (b : Bool) → r.id == t ≡ b → IsHeld works r → IsWorkOf (cond b (r.history ++ (op, a) ∷ []) r.history) (cond b (after_op (works t) op rows) (works r.id))
    one r false e q = q
    one r true e q =
        let w : IsWorkOf r.history (works t) = subst (λ (n : ℕ). IsWorkOf r.history (works n)) (eqb-true r.id t e) q in
        record {
          history = ap (λ ts. ts ++ (op, answer_given (shadow s) t (works t) op) ∷ []) w.history ∙ ap (λ (v : AnswerData). r.history ++ (op, v) ∷ []) told;
          order = ordered_after_op (works t) op rows w.order;
        }

-- ---- precommit
pub held_prepared : (s : State) (all : AllTaken) (works : WorksById) (t : ℕ) (r : ActiveTx) → IsWorkOf r.history (works t) → IsSound s → AreHeld s all works → AreHeld (after_prepare s r (s.clock + 1)) (with_taken all (s.clock + 1) (record { work = works t; checked = 0 })) works
held_prepared s all works t r mine sound h =
    let e = s.clock + 1 in
    let new : TakenWork = record { work = works t; checked = 0 } in
    let more = with_taken all e new in
    record {
      active = each_part (λ q. not (q.id == r.id)) (IsHeld works) s.active h.active;
      taken = each_append (IsIn more) s.stamped (to_stamped e r ∷ [])
          (each_both (IsPlaced s.stamped s.clock) (IsIn all) (IsIn more) (λ x p q. subst (λ (w : TakenWork). IsWorkOf x.history w.work) (sym (taken_other all e new x.end (λ is. absurd (let d = p.drawn in omega arith)))) q) s.stamped sound.placed h.taken)
          (subst (λ (w : TakenWork). IsWorkOf r.history w.work) (sym (taken_there all e new)) mine, tt);
      checked = each_append (IsCounted more) s.stamped (to_stamped e r ∷ [])
          (each_both (IsPlaced s.stamped s.clock) (IsCounted all) (IsCounted more) (λ x p q o. ap (λ (w : TakenWork). w.checked) (taken_other all e new x.end (λ is. absurd (let d = p.drawn in omega arith))) ∙ q o) s.stamped sound.placed h.checked)
          (λ o. ap (λ (w : TakenWork). w.checked) (taken_there all e new), tt);
    }

-- ---- a check
pub held_checked : (s : State) (all : AllTaken) (works : WorksById) (e : ℕ) (v : Bool) → AreHeld s all works → AreHeld (after_check s e v) (one_more_checked all e) works
held_checked s all works e v h = record {
  active = h.active;
  taken = each_map (with_check e v) (IsIn all) (IsIn more) (λ x q. subst (IsWorkOf x.history) (sym (same x.end (x.end == e) refl)) q) s.stamped h.taken;
  checked = each_map (with_check e v) (IsCounted all) (IsCounted more) (λ x q o. count x (x.end == e) refl (q o)) s.stamped h.checked;
}
  where
    more : AllTaken
    more = one_more_checked all e

    next : TakenWork
    next = record { work = (all e).work; checked = (all e).checked + 1 }

    same : (n : ℕ) (b : Bool) → n == e ≡ b → (cond b next (all n)).work ≡ (all n).work
    same n true i = ap (λ (m : ℕ). (all m).work) (sym (eqb-true n e i))
    same n false i = refl

    count : (x : StampedTx) (b : Bool) → x.end == e ≡ b → (all x.end).checked ≡ x.checked → (cond b next (all x.end)).checked ≡ cond b (x.checked + 1) x.checked
    count x true i q = ap (λ (m : ℕ). (all m).checked + 1) (sym (eqb-true x.end e i)) ∙ ap (λ (n : ℕ). n + 1) q
    count x false i q = q

-- ---- settle
held_committed : (s : State) (all : AllTaken) (works : WorksById) (t e : ℕ) → AreHeld s all works → AreHeld (after_commit s t e) all works
held_committed s all works t e h = record {
  active = h.active;
  taken = each_map (with_settled e) (IsIn all) (IsIn all) (λ x q. q) s.stamped h.taken;
  checked = each_map (with_settled e) (IsCounted all) (IsCounted all) (λ x q. one (all x.end).checked x.checked x.settled (x.end == e) q) s.stamped h.checked;
}
  where
    one : (n m : ℕ) (settled b : Bool) → (settled ≡ false → n ≡ m) → (settled || b) ≡ false → n ≡ cond b 0 m
    one n m true b q o = absurd (true≢false o)
    one n m false true q o = absurd (true≢false o)
    one n m false false q o = q refl

pub held_settled : (s : State) (all : AllTaken) (works : WorksById) (t : ℕ) → AreHeld s all works → AreHeld (after_settle s t) all works
held_settled s all works t h = go (awaited s t)
  where
    now : (v : Option StampedTx) → AreHeld (after_commit_of s t v) all works
    now None = h
    now (Some x) = held_committed s all works t x.end h

    go : (v : Option StampedTx) → AreHeld (after_settle_unless s t v) all works
    go None = now (preparing_of t s.stamped)
    go (Some x) = h

-- ---- an abort
pub held_aborted : (s : State) (all : AllTaken) (works : WorksById) (t : ℕ) → AreHeld s all works → AreHeld (after_abort s t) all works
held_aborted s all works t h = go (preparing_of t s.stamped)
  where
    go : (v : Option StampedTx) → AreHeld (after_abort_of s t v) all works
    go None = record { active = each_part (λ q. not (q.id == t)) (IsHeld works) s.active h.active; taken = h.taken; checked = h.checked }
    go (Some x) = record {
      active = each_map (active_with_flag t x.end) (IsHeld works) (IsHeld works) (λ r q. q) s.active h.active;
      taken = each_map (with_flag t x.end) (IsIn all) (IsIn all) (λ y q. q) (filter (not_at x.end) s.stamped) (each_part (not_at x.end) (IsIn all) s.stamped h.taken);
      checked = each_map (with_flag t x.end) (IsCounted all) (IsCounted all) (λ y q. q) (filter (not_at x.end) s.stamped) (each_part (not_at x.end) (IsCounted all) s.stamped h.checked);
    }

pub held_failed : (s : State) (all : AllTaken) (works : WorksById) (t : ℕ) (r : Refusal) → AreHeld s all works → AreHeld (after_refusal s t r) all works
held_failed s all works t r h = go (is_failure r)
  where
    go : (b : Bool) → AreHeld (cond b (after_abort s t) s) all works
    go true = held_aborted s all works t h
    go false = h

-- ---- finishing, and a trim
pub held_finished : (s : State) (all : AllTaken) (works : WorksById) (t : ℕ) → AreHeld s all works → AreHeld (after_finish s t) all works
held_finished s all works t h = go (is_done s t)
  where
    go : (b : Bool) → AreHeld (cond b (after_termination s t) (with_words (words_left t) s)) all works
    go true = record { active = h.active; taken = h.taken; checked = h.checked }
    go false = record { active = h.active; taken = h.taken; checked = h.checked }

pub held_trimmed : (s : State) (all : AllTaken) (works : WorksById) (m : ℕ) → AreHeld s all works → AreHeld (after_trim s m) all works
held_trimmed s all works m h = record {
  active = h.active;
  taken = each_part (λ x. not (is_to m x)) (IsIn all) s.stamped h.taken;
  checked = each_part (λ x. not (is_to m x)) (IsCounted all) s.stamped h.checked;
}
