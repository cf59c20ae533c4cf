-- Where the trace has one that was the first to end the version, and isn't aborted, the state has its claim.
use Rattle.std.proofs.Common.{◌≡◌, ℕ, ◌<◌, Bool, true, false, cond, ◌||◌, List, [], ◌∷◌, ◌++◌, None, Some, refl, sym, ap, ◌∙◌, subst, inl, inr, arith}
use Rattle.std.specs.Prelude.{◌==◌, ◌&&◌, is_some}
use Rattle.std.specs.List.{AllByRecursion, list_any}
use Rattle.std.proofs.lemmas.Bool.{false≢true, true≢false, eqb-true, eq-eqb, and_parts, cases_lt}
use Rattle.mvo_types.specs.declared.op.Op.{Op}
use Rattle.mvo_types.specs.declared.row.RowKey.{RowKey}
use Rattle.mvo_types.specs.AnswerData.{AnswerData}
use Rattle.mvo_model.specs.History.{write_of, write_at, net_write}
use Rattle.mvo_model.proofs.Serials.{net_write-append}
use Rattle.mvo_model.specs.Trace.{Step, history_by, history_of, committed}
use Rattle.mvo_model.specs.Trace.Step.{Answers}
use Rattle.mvo_theory.specs.Claims.{ended_key}
use Rattle.mvo_theory.specs.Claimed.{IsWrittenAt, IsOrigin, IsClaimed}
use Rattle.mvo_theory.proofs.ClaimSteps.{ended_written, later_first, later_second}

-- ---- one origin
pair_holds : (Q : ℕ × ℕ → Type 0) (n z : ℕ) (cs : List (ℕ × ℕ)) → AllByRecursion Q cs → list_any (λ c. (c.0 == n) && (c.1 == z)) cs ≡ true → Q (n, z)
pair_holds Q n z [] h e = absurd (false≢true e)
pair_holds Q n z (c ∷ cs) h e = go ((c.0 == n) && (c.1 == z)) refl e (pair_holds Q n z cs h.1)
  where
    go : (b : Bool) → ((c.0 == n) && (c.1 == z)) ≡ b → (b || list_any (λ d. (d.0 == n) && (d.1 == z)) cs) ≡ true → (list_any (λ d. (d.0 == n) && (d.1 == z)) cs ≡ true → Q (n, z)) → Q (n, z)
    go true f g r =
        let p = and_parts (c.0 == n) (c.1 == z) f in
        subst (λ (a : ℕ). Q (a, z)) (eqb-true c.0 n p.0) (subst (λ (a : ℕ). Q (c.0, a)) (eqb-true c.1 z p.1) h.0)
    go false f g r = r g

not_below : (mark : ℕ) (steps : List Step) (k : RowKey) (b m n : ℕ) → IsOrigin mark steps k b m → IsOrigin mark steps k b n → m < n → ⊥
not_below mark steps k b m n p q lt = elim q.source [
  | inl is ↦ elim p.source [ inl e ↦ absurd (omega arith) | inr w ↦ absurd (let a = w.above in omega arith) ]
  | inr w ↦ false≢true (sym (ap is_some (none w)) ∙ w.writes)
]
  where
    none : (w : IsWrittenAt mark steps k b n) → net_write k (history_of w.writer steps) ≡ None
    none w = elim w.ends [
      | inl f ↦ p.no_preparing w.writer n f lt w.below
      | inr f ↦ pair_holds (λ (c : ℕ × ℕ). m < c.0 → c.0 < b → net_write k (history_of c.1 steps) ≡ None) n w.writer (committed steps) p.no_committed f lt w.below
    ]

pub one_origin : (mark : ℕ) (steps : List Step) (k : RowKey) (b m n : ℕ) → IsOrigin mark steps k b m → IsOrigin mark steps k b n → m ≡ n
one_origin mark steps k b m n p q = elim (cases_lt m n) [
  | inl l ↦ absurd (not_below mark steps k b m n p q l)
  | inr g ↦ elim (cases_lt n m) [ inl l ↦ absurd (not_below mark steps k b n m q p l) | inr h ↦ omega arith ]
]

-- ---- one first writing answer
-- the answer counts in the history of u
history_here : (k : RowKey) (u : ℕ) (op : Op) (a : AnswerData) (rest : List Step) → ended_key op a ≡ Some k → is_some (net_write k (history_of u (Answers u op a ∷ rest))) ≡ true
history_here k u op a rest e =
    ap (λ (b : Bool). is_some (net_write k (cond b ((op, a) ∷ []) [] ++ history_of u rest))) (eq-eqb u u refl)
    ∙ later_second (net_write k (history_of u rest)) (write_at k (write_of op a)) (ended_written op a k e)

none_tail : (k : RowKey) (u : ℕ) (x : Step) (xs : List Step) → is_some (net_write k (history_of u (x ∷ xs))) ≡ false → is_some (net_write k (history_of u xs)) ≡ false
none_tail k u x xs h = go (is_some (net_write k (history_of u xs))) refl
  where
    go : (b : Bool) → is_some (net_write k (history_of u xs)) ≡ b → is_some (net_write k (history_of u xs)) ≡ false
    go false e = e
    go true e = absurd (true≢false (sym (ap is_some (net_write-append k (history_by x u) (history_of u xs)) ∙ later_first (net_write k (history_of u xs)) (net_write k (history_by x u)) e) ∙ h))

same_head : (x y : Step) (xs ys : List Step) → x ∷ xs ≡ y ∷ ys → x ≡ y
same_head x y xs ys e = cc

same_tail : (x y : Step) (xs ys : List Step) → x ∷ xs ≡ y ∷ ys → xs ≡ ys
same_tail x y xs ys e = cc

one_first : (k : RowKey) (u : ℕ) (bs cs : List Step) (op op' : Op) (a a' : AnswerData) (after after' : List Step) → bs ++ (Answers u op a ∷ after) ≡ cs ++ (Answers u op' a' ∷ after') → ended_key op a ≡ Some k → ended_key op' a' ≡ Some k →
    is_some (net_write k (history_of u bs)) ≡ false → is_some (net_write k (history_of u cs)) ≡ false → bs ≡ cs
one_first k u [] [] op op' a a' after after' e f g m n = refl
one_first k u [] (y ∷ ys) op op' a a' after after' e f g m n =
    absurd (true≢false (sym (history_here k u op a ys f) ∙ subst (λ (z : Step). is_some (net_write k (history_of u (z ∷ ys))) ≡ false) (sym (same_head (Answers u op a) y after (ys ++ (Answers u op' a' ∷ after')) e)) n))
one_first k u (x ∷ xs) [] op op' a a' after after' e f g m n =
    absurd (true≢false (sym (history_here k u op' a' xs g) ∙ subst (λ (z : Step). is_some (net_write k (history_of u (z ∷ xs))) ≡ false) (same_head x (Answers u op' a') (xs ++ (Answers u op a ∷ after)) after' e) m))
one_first k u (x ∷ xs) (y ∷ ys) op op' a a' after after' e f g m n =
    ap (λ (z : Step). z ∷ xs) (same_head x y _ _ e) ∙ ap (λ (zs : List Step). y ∷ zs) (one_first k u xs ys op op' a a' after after' (same_tail x y _ _ e) f g (none_tail k u x xs m) (none_tail k u y ys n))

-- so two claims of one key have one origin
pub one_claim : (mark : ℕ) (steps : List Step) (u : ℕ) (k : RowKey) (m n : ℕ) → IsClaimed mark steps u (record { key = k; origin = m }) → IsClaimed mark steps u (record { key = k; origin = n }) → m ≡ n
one_claim mark steps u k m n p q =
    let same : p.before ≡ q.before = one_first k u p.before q.before p.op q.op p.answer q.answer p.after q.after (sym p.then' ∙ q.then') p.answered q.answered p.first q.first in
    one_origin mark q.before k u m n (subst (λ (xs : List Step). IsOrigin mark xs k u m) same p.origin) q.origin
