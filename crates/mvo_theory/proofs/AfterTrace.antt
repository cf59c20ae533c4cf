-- Each step leaves a state after one step more.
use Rattle.std.proofs.Common.{◌≡◌, ◌≢◌, ℕ, ◌+◌, ◌<◌, ◌≤◌, Bool, true, false, cond, not, List, [], ◌∷◌, ◌++◌, Option, None, Some, map, refl, sym, ap, ◌∙◌, subst, arith, inl, inr, ◌⊎◌, append-nil, append_assoc}
use Rattle.std.specs.Prelude.{◌==◌}
use Rattle.std.specs.List.{AllByRecursion, filter}
use Rattle.std.proofs.lemmas.Bool.{eqb-true, eq-eqb, ne_eqb, cases_eq}
use Rattle.mvo_types.specs.declared.op.Op.{Op}
use Rattle.mvo_types.specs.Keys.{Map}
use Rattle.mvo_types.specs.AnswerData.{AnswerData}
use Rattle.mvo_model.specs.History.{History}
use Rattle.mvo_model.specs.Trace.{Step, history_by, history_of, commit_of, commits, end_cmp, committed as committed_in}
use Rattle.mvo_model.specs.Order.{in_order}
use Rattle.mvo_model.specs.Trace.Step.{Begins, Answers, Prepares, Checks, Commits, Aborts, Terminates}
use Rattle.mvo_model.proofs.Traces.{history_of-push, commits-push}
use Rattle.mvo_theory.specs.State.{State, StampedTx, ActiveTx, after_settled, opened, active_of, preparing_of}
use Rattle.mvo_theory.specs.Changes.{after_begin, after_operation, with_answer, after_prepare, to_stamped, after_check, with_check, after_commit, with_settled, after_abort_of_active, after_abort_of_preparing, with_flag, active_with_flag, not_at, after_termination}
use Rattle.mvo_theory.proofs.Cases.{is_ended_in}
use Rattle.mvo_theory.specs.Steps.{after_precommit_of, after_precommit, after_validate_of, after_validate, after_commit_of, after_commit_now, after_abort_of, after_abort}
use Rattle.mvo_theory.specs.Sound.{IsSound, IsNumbered, IsSingle, IsActive, IsRising, IsLegal, IsPast, IsStarted}
use Rattle.mvo_theory.specs.AfterTrace.{IsAfterTrace, pairs}
use Rattle.mvo_theory.proofs.Each.{each_weaker, each_both, each_append, each_back, each_map, each_filter}
use Rattle.mvo_theory.proofs.Who.{active_holds, id_of}
use Rattle.mvo_theory.proofs.Stamped.{rising_both}
use Rattle.mvo_theory.proofs.Commits.{split_at}
use Rattle.mvo_theory.proofs.Settle.{rising_before, rising_after, map-both}
use Rattle.mvo_theory.proofs.Tales.{pairs-append, pairs_others, committed_between}
use Rattle.mvo_theory.proofs.Phases.{Leads, phases_push, leads_after_begin, leads_after_operation, leads_after_prepare, leads_after_check, leads_after_commit, IsUnended, leads_aborted, leads_after_termination}

-- a state after the steps, but for where each transaction stands
record SaysHistory (opening : Map) (steps : List Step) (s : State) : Type 0 where
  pub base : s.base ≡ after_settled s.past opening
  pub legal : IsLegal opening s.past
  pub tale : committed_in steps ≡ pairs s.past ++ pairs s.stamped
  pub past : AllByRecursion (λ x. history_of x.id steps ≡ x.history) s.past
  pub stamped : AllByRecursion (λ x. history_of x.id steps ≡ x.history) s.stamped
  pub active : AllByRecursion (λ r. history_of r.id steps ≡ r.history) s.active
  pub fresh : (t : ℕ) → s.clock < t → history_of t steps ≡ []

-- ---- steps that tell nothing
still_history : (xs : List Step) (x : Step) (t : ℕ) (ts : History) → history_by x t ≡ [] → history_of t xs ≡ ts → history_of t (xs ++ x ∷ []) ≡ ts
still_history xs x t ts n e = history_of-push t xs x ∙ ap (λ us. history_of t xs ++ us) n ∙ append-nil (history_of t xs) ∙ e

still_committed : (xs : List Step) (x : Step) (cs : List (ℕ × ℕ)) → commit_of x ≡ [] → committed_in xs ≡ cs → committed_in (xs ++ x ∷ []) ≡ cs
still_committed xs x cs n e = ap (in_order end_cmp) (commits-push xs x ∙ ap (λ us. commits xs ++ us) n ∙ append-nil (commits xs)) ∙ e

says_silent : (opening : Map) (xs : List Step) (x : Step) (s : State) → ((t : ℕ) → history_by x t ≡ []) → commit_of x ≡ [] → SaysHistory opening xs s → SaysHistory opening (xs ++ x ∷ []) s
says_silent opening xs x s n m h = record {
  base = h.base;
  legal = h.legal;
  tale = still_committed xs x _ m h.tale;
  past = each_weaker (λ y. history_of y.id xs ≡ y.history) (λ y. history_of y.id (xs ++ x ∷ []) ≡ y.history) (λ y. still_history xs x y.id y.history (n y.id)) s.past h.past;
  stamped = each_weaker (λ y. history_of y.id xs ≡ y.history) (λ y. history_of y.id (xs ++ x ∷ []) ≡ y.history) (λ y. still_history xs x y.id y.history (n y.id)) s.stamped h.stamped;
  active = each_weaker (λ r. history_of r.id xs ≡ r.history) (λ r. history_of r.id (xs ++ x ∷ []) ≡ r.history) (λ r. still_history xs x r.id r.history (n r.id)) s.active h.active;
  fresh = λ t lt. still_history xs x t [] (n t) (h.fresh t lt);
}

-- ---- begin
says_after_begin : (opening : Map) (xs : List Step) (s : State) (t : ℕ) → s.clock < t → SaysHistory opening xs s → SaysHistory opening (xs ++ Begins t ∷ []) (after_begin s t)
says_after_begin opening xs s t lt h = says_silent opening xs (Begins t) (after_begin s t) (λ u. refl) refl (record {
  base = h.base;
  legal = h.legal;
  tale = h.tale;
  past = h.past;
  stamped = h.stamped;
  active = each_append (λ r. history_of r.id xs ≡ r.history) s.active _ h.active (h.fresh t lt, tt);
  fresh = λ u l. h.fresh u (omega arith);
})

-- ---- an operation
history_other : (xs : List Step) (t : ℕ) (op : Op) (a : AnswerData) (u : ℕ) (ts : History) → u ≢ t → history_of u xs ≡ ts → history_of u (xs ++ Answers t op a ∷ []) ≡ ts
history_other xs t op a u ts n e = still_history xs (Answers t op a) u ts (ap (λ (b : Bool). cond b ((op, a) ∷ []) []) (ne_eqb t u (λ q. n (sym q)))) e

history_same : (xs : List Step) (t : ℕ) (op : Op) (a : AnswerData) (r : ActiveTx) → history_of r.id xs ≡ r.history → history_of r.id (xs ++ Answers t op a ∷ []) ≡ cond (r.id == t) (r.history ++ (op, a) ∷ []) r.history
history_same xs t op a r e = go (cases_eq r.id t)
  where
    go : ((r.id ≡ t) ⊎ (r.id ≡ t → ⊥)) → history_of r.id (xs ++ Answers t op a ∷ []) ≡ cond (r.id == t) (r.history ++ (op, a) ∷ []) r.history
    go (inl q) = history_of-push r.id xs (Answers t op a) ∙ ap (λ (b : Bool). history_of r.id xs ++ cond b ((op, a) ∷ []) []) (eq-eqb t r.id (sym q)) ∙ ap (λ ts. ts ++ (op, a) ∷ []) e ∙ sym (ap (λ (b : Bool). cond b (r.history ++ (op, a) ∷ []) r.history) (eq-eqb r.id t q))
    go (inr n) = history_other xs t op a r.id r.history n e ∙ sym (ap (λ (b : Bool). cond b (r.history ++ (op, a) ∷ []) r.history) (ne_eqb r.id t n))

says_after_operation : (opening : Map) (xs : List Step) (s : State) (t : ℕ) (op : Op) (a : AnswerData) (mine : ActiveTx) → active_of t s.active ≡ Some mine → IsSound s → IsNumbered s → SaysHistory opening xs s → SaysHistory opening (xs ++ Answers t op a ∷ []) (after_operation s t op a)
says_after_operation opening xs s t op a mine f k n h =
    let own = active_holds (λ r. AllByRecursion (λ x. x.id ≢ r.id) s.stamped) t s.active mine f n.apart in
    let apart : AllByRecursion (λ x. x.id ≢ t) s.stamped = subst (λ (m : ℕ). AllByRecursion (λ x. x.id ≢ m) s.stamped) own.1 own.0 in
    let earlier = active_holds (λ r. AllByRecursion (λ x. x.id ≢ r.id) s.past) t s.active mine f n.before in
    let before : AllByRecursion (λ x. x.id ≢ t) s.past = subst (λ (m : ℕ). AllByRecursion (λ x. x.id ≢ m) s.past) earlier.1 earlier.0 in
    let active = active_holds (IsActive s.base s.stamped s.clock) t s.active mine f k.active in
    let drawn = active.0.drawn in
    let id = active.1 in
    record {
      base = h.base;
      legal = h.legal;
      tale = still_committed xs (Answers t op a) _ refl h.tale;
      past = each_both (λ x. x.id ≢ t) (λ x. history_of x.id xs ≡ x.history) (λ x. history_of x.id (xs ++ Answers t op a ∷ []) ≡ x.history) (λ x ne. history_other xs t op a x.id x.history ne) s.past before h.past;
      stamped = each_both (λ x. x.id ≢ t) (λ x. history_of x.id xs ≡ x.history) (λ x. history_of x.id (xs ++ Answers t op a ∷ []) ≡ x.history) (λ x ne. history_other xs t op a x.id x.history ne) s.stamped apart h.stamped;
      active = each_map (with_answer s t op a) (λ r. history_of r.id xs ≡ r.history) (λ r. history_of r.id (xs ++ Answers t op a ∷ []) ≡ r.history) (λ r. history_same xs t op a r) s.active h.active;
      fresh = λ u lt. history_other xs t op a u [] (λ q. absurd (omega arith)) (h.fresh u lt);
    }

-- ---- precommit
says_after_prepare : (opening : Map) (xs : List Step) (s : State) (t : ℕ) (mine : ActiveTx) → active_of t s.active ≡ Some mine → SaysHistory opening xs s → SaysHistory opening (xs ++ Prepares t (s.clock + 1) ∷ []) (after_precommit s t)
says_after_prepare opening xs s t mine f h =
    let e = s.clock + 1 in
    subst (SaysHistory opening (xs ++ Prepares t e ∷ [])) (sym (ap (after_precommit_of s) f))
    (says_silent opening xs (Prepares t e) (after_prepare s mine e) (λ u. refl) refl (record {
      base = h.base;
      legal = h.legal;
      tale = h.tale ∙ ap (λ ps. pairs s.past ++ ps) (sym (open_last s.stamped (to_stamped e mine) refl));
      past = h.past;
      stamped = each_append (λ x. history_of x.id xs ≡ x.history) s.stamped (to_stamped e mine ∷ []) h.stamped ((active_holds (λ r. history_of r.id xs ≡ r.history) t s.active mine f h.active).0, tt);
      active = each_filter (λ r. not (r.id == mine.id)) (λ r. history_of r.id xs ≡ r.history) (λ r. history_of r.id xs ≡ r.history) (λ r _ q. q) s.active h.active;
      fresh = λ u l. h.fresh u (omega arith);
    }))
  where
    open_last : (ys : List StampedTx) (y : StampedTx) → y.settled ≡ false → pairs (ys ++ y ∷ []) ≡ pairs ys
    open_last [] y o = ap (λ (b : Bool). cond b ((y.end, y.id) ∷ []) []) o
    open_last (z ∷ zs) y o = ap (λ (ps : List (ℕ × ℕ)). cond z.settled ((z.end, z.id) ∷ ps) ps) (open_last zs y o)

-- ---- a check
pairs-checked : (e : ℕ) (v : Bool) (xs : List StampedTx) → pairs (map (with_check e v) xs) ≡ pairs xs
pairs-checked e v [] = refl
pairs-checked e v (x ∷ xs) = ap (λ (ps : List (ℕ × ℕ)). cond x.settled ((x.end, x.id) ∷ ps) ps) (pairs-checked e v xs)

says_check : (opening : Map) (xs : List Step) (s : State) (e : ℕ) (v : Bool) → SaysHistory opening xs s → SaysHistory opening xs (after_check s e v)
says_check opening xs s e v h = record {
  base = h.base;
  legal = h.legal;
  tale = h.tale ∙ ap (λ ps. pairs s.past ++ ps) (sym (pairs-checked e v s.stamped));
  past = h.past;
  stamped = each_map (with_check e v) (λ x. history_of x.id xs ≡ x.history) (λ x. history_of x.id xs ≡ x.history) (λ x q. q) s.stamped h.stamped;
  active = h.active;
  fresh = h.fresh;
}

says_after_check : (opening : Map) (xs : List Step) (s : State) (t : ℕ) → SaysHistory opening xs s → SaysHistory opening (xs ++ Checks t ∷ []) (after_validate s t)
says_after_check opening xs s t h = says_silent opening xs (Checks t) (after_validate s t) (λ u. refl) refl (go (preparing_of t s.stamped))
  where
    now_valid : (x : StampedTx) (v b : Bool) → SaysHistory opening xs (cond b s (after_check s x.end v))
    now_valid x v true = h
    now_valid x v false = says_check opening xs s x.end v h

    go : (w : Option StampedTx) → SaysHistory opening xs (after_validate_of s w)
    go None = h
    go (Some x) = now_valid x _ x.valid

-- ---- a commit
pub rising_all : (s : State) → IsSound s → IsStarted s → IsRising (s.past ++ s.stamped)
rising_all s k p = rising_both s.start s.past s.stamped (each_weaker (IsPast s.start) (λ x. x.end ≤ s.start) (λ x q. q.until) s.past p.past) p.later p.rising k.rising

-- the commit between those before the start and those behind it
tale_commit : (xs : List Step) (past before after : List StampedTx) (x : StampedTx) → IsRising (past ++ (before ++ x ∷ after)) → x.settled ≡ false → AllByRecursion (λ y. y.end ≢ x.end) past → committed_in xs ≡ pairs past ++ pairs (before ++ x ∷ after) →
    committed_in (xs ++ Commits x.id x.end ∷ []) ≡ pairs past ++ pairs (map (with_settled x.end) (before ++ x ∷ after))
tale_commit xs past before after x r o n h =
    let same = append_assoc past before (x ∷ after) in
    committed_between xs (past ++ before) after x (subst IsRising (sym same) r) o (h ∙ sym (pairs-append past (before ++ x ∷ after)) ∙ ap pairs (sym same))
    ∙ ap (λ (l : List StampedTx). pairs (map (with_settled x.end) l)) same
    ∙ ap pairs (map-both x.end past (before ++ x ∷ after))
    ∙ pairs-append (map (with_settled x.end) past) (map (with_settled x.end) (before ++ x ∷ after))
    ∙ ap (λ ps. ps ++ pairs (map (with_settled x.end) (before ++ x ∷ after))) (pairs_others x.end past n)

says_commit : (opening : Map) (xs : List Step) (s : State) (before after : List StampedTx) (x : StampedTx) → s.stamped ≡ before ++ x ∷ after → x.settled ≡ false → IsSound s → IsStarted s → SaysHistory opening xs s → SaysHistory opening (xs ++ Commits x.id x.end ∷ []) (after_commit s x.id x.end)
says_commit opening xs s before after x e o k p h =
    let all : IsRising (s.past ++ (before ++ x ∷ after)) = subst (λ (l : List StampedTx). IsRising (s.past ++ l)) e (rising_all s k p) in
    let here = (each_back (λ y. s.start < y.end) before (x ∷ after) (subst (AllByRecursion (λ y. s.start < y.end)) e p.later)).0 in
    record {
      base = h.base;
      legal = h.legal;
      tale = tale_commit xs s.past before after x all o (each_weaker (IsPast s.start) (λ y. y.end ≢ x.end) (λ y q i. absurd (let l = q.until in omega arith)) s.past p.past) (h.tale ∙ ap (λ l. pairs s.past ++ pairs l) e) ∙ ap (λ (l : List StampedTx). pairs s.past ++ pairs (map (with_settled x.end) l)) (sym e);
      past = each_weaker (λ y. history_of y.id xs ≡ y.history) (λ y. history_of y.id (xs ++ Commits x.id x.end ∷ []) ≡ y.history) (λ y. still_history xs (Commits x.id x.end) y.id y.history refl) s.past h.past;
      stamped = each_map (with_settled x.end) (λ y. history_of y.id xs ≡ y.history) (λ y. history_of y.id (xs ++ Commits x.id x.end ∷ []) ≡ y.history) (λ y q. still_history xs (Commits x.id x.end) y.id y.history refl q) s.stamped h.stamped;
      active = each_weaker (λ r. history_of r.id xs ≡ r.history) (λ r. history_of r.id (xs ++ Commits x.id x.end ∷ []) ≡ r.history) (λ r. still_history xs (Commits x.id x.end) r.id r.history refl) s.active h.active;
      fresh = λ t lt. still_history xs (Commits x.id x.end) t [] refl (h.fresh t lt);
    }

says_after_commit : (opening : Map) (xs : List Step) (s : State) (t : ℕ) (x : StampedTx) → preparing_of t s.stamped ≡ Some x → IsSound s → IsStarted s → SaysHistory opening xs s → SaysHistory opening (xs ++ Commits t x.end ∷ []) (after_commit_now s t)
says_after_commit opening xs s t x f k st h =
    let p = split_at t s.stamped x f in
    subst (SaysHistory opening (xs ++ Commits t x.end ∷ [])) (sym (ap (after_commit_of s t) f))
    (subst (λ (n : ℕ). SaysHistory opening (xs ++ Commits n x.end ∷ []) (after_commit s n x.end)) p.3 (says_commit opening xs s p.0 p.1 x p.2 p.4 k st h))

-- ---- an abort, and leaving
says_after_abort_of_active : (opening : Map) (xs : List Step) (s : State) (t : ℕ) → SaysHistory opening xs s → SaysHistory opening xs (after_abort_of_active s t)
says_after_abort_of_active opening xs s t h = record {
  base = h.base;
  legal = h.legal;
  tale = h.tale;
  past = h.past;
  stamped = h.stamped;
  active = each_filter (λ r. not (r.id == t)) (λ r. history_of r.id xs ≡ r.history) (λ r. history_of r.id xs ≡ r.history) (λ r _ q. q) s.active h.active;
  fresh = h.fresh;
}

pairs-after_abort_of_preparing : (t e : ℕ) (xs : List StampedTx) → AllByRecursion (λ x. x.end ≡ e → x.settled ≡ false) xs → pairs (map (with_flag t e) (filter (not_at e) xs)) ≡ pairs xs
pairs-after_abort_of_preparing t e [] h = refl
pairs-after_abort_of_preparing t e (x ∷ xs) h = go (x.end == e) refl (pairs-after_abort_of_preparing t e xs h.1)
  where
    go : (b : Bool) → (x.end == e) ≡ b → pairs (map (with_flag t e) (filter (not_at e) xs)) ≡ pairs xs → pairs (map (with_flag t e) (cond (not b) (x ∷ filter (not_at e) xs) (filter (not_at e) xs))) ≡ cond x.settled ((x.end, x.id) ∷ pairs xs) (pairs xs)
    go true f q = q ∙ sym (ap (λ (c : Bool). cond c ((x.end, x.id) ∷ pairs xs) (pairs xs)) (h.0 (eqb-true x.end e f)))
    go false f q = ap (λ (ps : List (ℕ × ℕ)). cond x.settled ((x.end, x.id) ∷ ps) ps) q

says_after_abort_of_preparing : (opening : Map) (xs : List Step) (s : State) (t e : ℕ) → AllByRecursion (λ x. x.end ≡ e → x.settled ≡ false) s.stamped → SaysHistory opening xs s → SaysHistory opening xs (after_abort_of_preparing s t e)
says_after_abort_of_preparing opening xs s t e o h = record {
  base = h.base;
  legal = h.legal;
  tale = h.tale ∙ ap (λ ps. pairs s.past ++ ps) (sym (pairs-after_abort_of_preparing t e s.stamped o));
  past = h.past;
  stamped = each_map (with_flag t e) (λ x. history_of x.id xs ≡ x.history) (λ x. history_of x.id xs ≡ x.history) (λ x q. q) (filter (not_at e) s.stamped) (each_filter (not_at e) (λ x. history_of x.id xs ≡ x.history) (λ x. history_of x.id xs ≡ x.history) (λ x _ q. q) s.stamped h.stamped);
  active = each_map (active_with_flag t e) (λ r. history_of r.id xs ≡ r.history) (λ r. history_of r.id xs ≡ r.history) (λ r q. q) s.active h.active;
  fresh = h.fresh;
}

-- the one that is Preparing is the one with its end
pub alone_open : (before after : List StampedTx) (x : StampedTx) → x.settled ≡ false → IsRising (before ++ x ∷ after) → AllByRecursion (λ y. y.end ≡ x.end → y.settled ≡ false) (before ++ x ∷ after)
alone_open before after x o r = each_append (λ y. y.end ≡ x.end → y.settled ≡ false) before (x ∷ after)
    (each_weaker (λ y. y.end < x.end) (λ y. y.end ≡ x.end → y.settled ≡ false) (λ y lt e. absurd (omega arith)) before (rising_before before after x r))
    (λ _. o, each_weaker (λ y. x.end < y.end) (λ y. y.end ≡ x.end → y.settled ≡ false) (λ y lt e. absurd (omega arith)) after (rising_after before after x r))

says_aborted : (opening : Map) (xs : List Step) (s : State) (t : ℕ) → IsSound s → SaysHistory opening xs s → SaysHistory opening (xs ++ Aborts t ∷ []) (after_abort s t)
says_aborted opening xs s t k h = says_silent opening xs (Aborts t) (after_abort s t) (λ u. refl) refl (go (preparing_of t s.stamped) refl)
  where
    go : (w : Option StampedTx) → preparing_of t s.stamped ≡ w → SaysHistory opening xs (after_abort_of s t w)
    go None e = says_after_abort_of_active opening xs s t h
    go (Some x) e =
        let p = split_at t s.stamped x e in
        says_after_abort_of_preparing opening xs s t x.end (subst (AllByRecursion (λ y. y.end ≡ x.end → y.settled ≡ false)) (sym p.2) (alone_open p.0 p.1 x p.4 (subst IsRising p.2 k.rising))) h

says_after_termination : (opening : Map) (xs : List Step) (s : State) (t : ℕ) → SaysHistory opening xs s → SaysHistory opening (xs ++ Terminates t ∷ []) (after_termination s t)
says_after_termination opening xs s t h = says_silent opening xs (Terminates t) (after_termination s t) (λ u. refl) refl (record { base = h.base; legal = h.legal; tale = h.tale; past = h.past; stamped = h.stamped; active = h.active; fresh = h.fresh })

-- ---- with the phases
says : (opening : Map) (xs : List Step) (s : State) → IsAfterTrace opening xs s → SaysHistory opening xs s
says opening xs s h = record { base = h.base; legal = h.legal; tale = h.tale; past = h.past; stamped = h.stamped; active = h.active; fresh = h.fresh }

after_trace_by : (opening : Map) (xs : List Step) (x : Step) (s s' : State) → Leads x s s' → SaysHistory opening (xs ++ x ∷ []) s' → IsAfterTrace opening xs s → IsAfterTrace opening (xs ++ x ∷ []) s'
after_trace_by opening xs x s s' l n h = record { base = n.base; legal = n.legal; tale = n.tale; past = n.past; stamped = n.stamped; active = n.active; fresh = n.fresh; phases = phases_push xs x s s' l h.phases }

pub trace_opened : (opening : Map) (mark : ℕ) → IsAfterTrace opening [] (opened opening mark)
trace_opened opening mark = record { base = refl; legal = tt; tale = refl; past = tt; stamped = tt; active = tt; fresh = λ t lt. refl; phases = λ t. refl }

pub trace_after_begin : (opening : Map) (xs : List Step) (s : State) (t : ℕ) → s.clock < t → IsSound s → IsSingle s → IsAfterTrace opening xs s → IsAfterTrace opening (xs ++ Begins t ∷ []) (after_begin s t)
trace_after_begin opening xs s t lt k n h = after_trace_by opening xs (Begins t) s (after_begin s t) (leads_after_begin s t lt k n) (says_after_begin opening xs s t lt (says opening xs s h)) h

pub trace_after_operation : (opening : Map) (xs : List Step) (s : State) (t : ℕ) (op : Op) (a : AnswerData) (mine : ActiveTx) → active_of t s.active ≡ Some mine → IsSound s → IsNumbered s → IsAfterTrace opening xs s → IsAfterTrace opening (xs ++ Answers t op a ∷ []) (after_operation s t op a)
trace_after_operation opening xs s t op a mine f k n h = after_trace_by opening xs (Answers t op a) s (after_operation s t op a) (leads_after_operation s t op a) (says_after_operation opening xs s t op a mine f k n (says opening xs s h)) h

pub trace_after_prepare : (opening : Map) (xs : List Step) (s : State) (t : ℕ) (mine : ActiveTx) → active_of t s.active ≡ Some mine → IsSingle s → IsAfterTrace opening xs s → IsAfterTrace opening (xs ++ Prepares t (s.clock + 1) ∷ []) (after_precommit s t)
trace_after_prepare opening xs s t mine f n h =
    let e = s.clock + 1 in
    after_trace_by opening xs (Prepares t e) s (after_precommit s t)
    (subst (Leads (Prepares t e) s) (sym (ap (after_precommit_of s) f)) (leads_after_prepare s t mine e f (id_of t s.active mine f) n))
    (says_after_prepare opening xs s t mine f (says opening xs s h)) h

pub trace_after_check : (opening : Map) (xs : List Step) (s : State) (t : ℕ) → IsAfterTrace opening xs s → IsAfterTrace opening (xs ++ Checks t ∷ []) (after_validate s t)
trace_after_check opening xs s t h = after_trace_by opening xs (Checks t) s (after_validate s t) (leads_after_check s t) (says_after_check opening xs s t (says opening xs s h)) h

pub trace_after_commit : (opening : Map) (xs : List Step) (s : State) (t : ℕ) (x : StampedTx) → preparing_of t s.stamped ≡ Some x → IsSound s → IsSingle s → IsStarted s → IsAfterTrace opening xs s → IsAfterTrace opening (xs ++ Commits t x.end ∷ []) (after_commit_now s t)
trace_after_commit opening xs s t x f k n st h =
    after_trace_by opening xs (Commits t x.end) s (after_commit_now s t)
    (subst (Leads (Commits t x.end) s) (sym (ap (after_commit_of s t) f)) (leads_after_commit s t x f k n))
    (says_after_commit opening xs s t x f k st (says opening xs s h)) h

pub trace_aborted : (opening : Map) (xs : List Step) (s : State) (t : ℕ) → IsUnended s t → IsSound s → IsSingle s → IsAfterTrace opening xs s → IsAfterTrace opening (xs ++ Aborts t ∷ []) (after_abort s t)
trace_aborted opening xs s t a k n h = after_trace_by opening xs (Aborts t) s (after_abort s t) (leads_aborted s t a k n) (says_aborted opening xs s t k (says opening xs s h)) h

pub trace_after_termination : (opening : Map) (xs : List Step) (s : State) (t : ℕ) → is_ended_in s t ≡ true → IsSingle s → IsAfterTrace opening xs s → IsAfterTrace opening (xs ++ Terminates t ∷ []) (after_termination s t)
trace_after_termination opening xs s t o n h = after_trace_by opening xs (Terminates t) s (after_termination s t) (leads_after_termination s t o n) (says_after_termination opening xs s t (says opening xs s h)) h
