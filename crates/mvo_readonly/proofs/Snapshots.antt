-- Snapshots and footprints, read off the whole trace.
use Rattle.std.proofs.Common.{◌≡◌, ◌≢◌, ℕ, ◌+◌, ◌≤◌, Bool, true, false, cond, not, ◌||◌, ◌⊎◌, inl, inr, List, [], ◌∷◌, ◌++◌, refl, sym, ap, ◌∙◌, subst, arith, append_assoc}
use Rattle.std.specs.Prelude.{◌==◌, nat_lt}
use Rattle.std.specs.List.{AllByRecursion, filter}
use Rattle.std.proofs.lemmas.Bool.{true≢false, false≢true, eq-eqb, ne_eqb, eqb-true, cases_eq}
use Rattle.mvo_types.specs.declared.op.Op.{Op}
use Rattle.mvo_types.specs.Keys.{Map}
use Rattle.mvo_types.specs.AnswerData.{AnswerData}
use Rattle.mvo_model.specs.History.{after_history, write_of}
use Rattle.mvo_model.specs.Trace.{Step, Phase, owner_of, phase_after, phase_from, phase_of, history_by, history_of}
use Rattle.mvo_model.specs.Trace.Step.{Begins, Answers, Prepares, Checks, Commits, Aborts, Terminates}
use Rattle.mvo_model.specs.Trace.Phase.{Active as IsActive, Preparing as IsPreparing}
use Rattle.mvo_model.proofs.Traces.{phase_of-push_own, phase_of-push_other}
use Rattle.mvo_theory.specs.Ranges.{changed_by}
use Rattle.mvo_theory.specs.Snapshots.{prepare_of, prepares, is_aborted, ended_in, rows_below, snapshot_of, changed_in, footprint_since, footprint_in, HasFootprints}
use Rattle.mvo_theory.specs.State.{ActiveTx, snapshot}
use Rattle.mvo_theory.specs.Traced.{is_abort_of}
use Rattle.mvo_theory.specs.Calls.{trace_of}
use Rattle.mvo_theory.proofs.Each.{each_weaker, each_append}
use Rattle.mvo_theory.proofs.Snapshots.{snapshots_traced}
use Rattle.mvo_readonly.specs.ReadAt.{WritesNothing}
use Rattle.mvo_readonly.specs.Whole.{WholeState, opened_whole}
use Rattle.mvo_readonly.specs.WholeCalls.{own_trace, core_calls, steps_of_whole_call, after_whole_call, WholeRun, MayRunWhole, after_whole_run, whole_trace}
use Rattle.mvo_readonly.specs.WholeKept.{IsWholeKept}
use Rattle.mvo_readonly.specs.BothTraces.{NoPrepare, IsMatched, is_others, IsGiven, AreGiven}
use Rattle.mvo_readonly.proofs.Traces.{append-none, phase_both, history_quiet, history_from_others}
use Rattle.mvo_readonly.proofs.Ordered.{idle_rows}
use Rattle.mvo_readonly.proofs.CoreRuns.{may_core}
use Rattle.mvo_readonly.proofs.WholeRuns.{whole_opened, whole_after_call, whole_after_run}
use Rattle.mvo_readonly.proofs.Depending.{any_both}
use Rattle.mvo_readonly.proofs.Flags.{matched_more, matched_opened, run_clock}
use Rattle.mvo_readonly.proofs.Shapes.{is_plain, ArePlain, HasShape, call_shape}

-- ---- plain steps
plain_prepares : (zs : List Step) → ArePlain zs → prepares zs ≡ []
plain_prepares [] h = refl
plain_prepares (z ∷ zs) h = ap (λ cs. prepare_of z ++ cs) (plain_prepares zs h.1) ∙ append-none (prepare_of z) ∙ one z h.0
  where
    one : (y : Step) → is_plain y ≡ true → prepare_of y ≡ []
    one (Begins t) e = refl
    one (Answers t op a) e = refl
    one (Prepares t n) e = absurd (false≢true e)
    one (Checks t) e = refl
    one (Commits t n) e = refl
    one (Aborts t) e = refl
    one (Terminates t) e = refl

plain_history : (u : ℕ) (zs : List Step) → ArePlain zs → history_of u zs ≡ []
plain_history u [] h = refl
plain_history u (z ∷ zs) h = ap (λ ts. ts ++ history_of u zs) (one z h.0) ∙ plain_history u zs h.1
  where
    one : (y : Step) → is_plain y ≡ true → history_by y u ≡ []
    one (Begins t) e = refl
    one (Answers t op a) e = absurd (false≢true e)
    one (Prepares t n) e = refl
    one (Checks t) e = refl
    one (Commits t n) e = refl
    one (Aborts t) e = refl
    one (Terminates t) e = refl

plain_one : (y : Step) (p : Phase) → is_plain y ≡ true → phase_after y p ≡ IsActive → p ≡ IsActive
plain_one (Begins t) p e q = absurd (false≢true e)
plain_one (Answers t op a) p e q = q
plain_one (Prepares t n) p e q = absurd (false≢true e)
plain_one (Checks t) p e q = q
plain_one (Commits t n) p e q = absurd cc
plain_one (Aborts t) p e q = absurd cc
plain_one (Terminates t) p e q = absurd cc

plain_phase : (u : ℕ) (p : Phase) (zs : List Step) → ArePlain zs → phase_from p u zs ≡ IsActive → p ≡ IsActive
plain_phase u p [] h e = e
plain_phase u p (z ∷ zs) h e = go (owner_of z == u) (plain_phase u (cond (owner_of z == u) (phase_after z p) p) zs h.1 e)
  where
    go : (b : Bool) → cond b (phase_after z p) p ≡ IsActive → p ≡ IsActive
    go true q = plain_one z p h.0 q
    go false q = q

plain_rows : (opening : Map) (before zs : List Step) (u : ℕ) → ArePlain zs → footprint_since opening before zs u ≡ []
plain_rows opening before [] u h = refl
plain_rows opening before (z ∷ zs) u h = ap (λ rs. rs ++ footprint_since opening (before ++ z ∷ []) zs u) (one z h.0) ∙ plain_rows opening (before ++ z ∷ []) zs u h.1
  where
    one : (y : Step) → is_plain y ≡ true → changed_in opening before y u ≡ []
    one (Begins t) e = refl
    one (Answers t op a) e = absurd (false≢true e)
    one (Prepares t n) e = refl
    one (Checks t) e = refl
    one (Commits t n) e = refl
    one (Aborts t) e = refl
    one (Terminates t) e = refl

-- ---- behind others
prepares_both : (xs zs : List Step) → prepares (xs ++ zs) ≡ prepares xs ++ prepares zs
prepares_both [] zs = refl
prepares_both (x ∷ xs) zs = ap (λ cs. prepare_of x ++ cs) (prepares_both xs zs) ∙ sym (append_assoc (prepare_of x) (prepares xs) (prepares zs))

since_both : (opening : Map) (before xs zs : List Step) (u : ℕ) → footprint_since opening before (xs ++ zs) u ≡ footprint_since opening before xs u ++ footprint_since opening (before ++ xs) zs u
since_both opening before [] zs u = ap (λ b. footprint_since opening b zs u) (sym (append-none before))
since_both opening before (x ∷ xs) zs u =
    ap (λ rs. changed_in opening before x u ++ rs) (since_both opening (before ++ x ∷ []) xs zs u ∙ ap (λ b. footprint_since opening (before ++ x ∷ []) xs u ++ footprint_since opening b zs u) (append_assoc before (x ∷ []) xs))
    ∙ sym (append_assoc (changed_in opening before x u) (footprint_since opening (before ++ x ∷ []) xs u) (footprint_since opening (before ++ (x ∷ xs)) zs u))

filter_both : (p : ℕ × ℕ → Bool) (xs ys : List (ℕ × ℕ)) → filter p (xs ++ ys) ≡ filter p xs ++ filter p ys
filter_both p [] ys = refl
filter_both p (x ∷ xs) ys = ap (λ zs. cond (p x) (x ∷ zs) zs) (filter_both p xs ys) ∙ go (p x)
  where
    go : (b : Bool) → cond b (x ∷ (filter p xs ++ filter p ys)) (filter p xs ++ filter p ys) ≡ cond b (x ∷ filter p xs) (filter p xs) ++ filter p ys
    go true = refl
    go false = refl

-- ---- the ends that were given: those of the others, and each begin of a read-only one
-- ---- snapshots
pub each_kept : (Q : ℕ × ℕ → Type 0) (p : ℕ × ℕ → Bool) (cs : List (ℕ × ℕ)) → AllByRecursion Q (filter p cs) → AllByRecursion (λ c. p c ≡ true → Q c) cs
each_kept Q p [] h = tt
each_kept Q p (c ∷ cs) h = go (p c) refl h (each_kept Q p cs)
  where
    go : (b : Bool) → p c ≡ b → AllByRecursion Q (cond b (c ∷ filter p cs) (filter p cs)) → (AllByRecursion Q (filter p cs) → AllByRecursion (λ d. p d ≡ true → Q d) cs) → (p c ≡ true → Q c) × AllByRecursion (λ d. p d ≡ true → Q d) cs
    go true e k r = ((λ _. k.0), r k.1)
    go false e k r = ((λ f. absurd (false≢true (sym e ∙ f))), r k)

pub prepared : (xs : List Step) → AllByRecursion (λ (c : ℕ × ℕ). NoPrepare c.1 xs → ⊥) (prepares xs)
prepared [] = tt
prepared (x ∷ xs) = each_append (λ (c : ℕ × ℕ). NoPrepare c.1 (x ∷ xs) → ⊥) (prepare_of x) (prepares xs) (one x) (each_weaker (λ (c : ℕ × ℕ). NoPrepare c.1 xs → ⊥) (λ (c : ℕ × ℕ). NoPrepare c.1 (x ∷ xs) → ⊥) (λ c f n. f n.1) (prepares xs) (prepared xs))
  where
    one : (y : Step) → AllByRecursion (λ (c : ℕ × ℕ). NoPrepare c.1 (y ∷ xs) → ⊥) (prepare_of y)
    one (Begins t) = tt
    one (Answers t op a) = tt
    one (Prepares t n) = ((λ k. true≢false (sym (eq-eqb t t refl) ∙ k.0)), tt)
    one (Checks t) = tt
    one (Commits t n) = tt
    one (Aborts t) = tt
    one (Terminates t) = tt

rows_alike : (b : ℕ) (p q r : ℕ × ℕ → Bool) (ws xs : List Step) (cs : List (ℕ × ℕ)) (m : Map) → ((u : ℕ) → history_of u ws ≡ history_of u xs) → AllByRecursion (λ c. r c ≡ false → WritesNothing (history_of c.1 ws)) cs → AllByRecursion (λ c. r c ≡ true → p c ≡ q c) cs →
    rows_below b (filter p cs) ws m ≡ rows_below b (filter q (filter r cs)) xs m
rows_alike b p q r ws xs [] m h i a = refl
rows_alike b p q r ws xs (c ∷ cs) m h i a = go (r c) (p c) (q c) refl refl refl (λ n. rows_alike b p q r ws xs cs n h i.1 a.1)
  where
    one : (l : Bool) → r c ≡ false → cond l (after_history (history_of c.1 ws) m) m ≡ m
    one true e = idle_rows (history_of c.1 ws) m (i.0 e)
    one false e = refl

    go : (x y z : Bool) → r c ≡ x → p c ≡ y → q c ≡ z → ((n : Map) → rows_below b (filter p cs) ws n ≡ rows_below b (filter q (filter r cs)) xs n) → rows_below b (cond y (c ∷ filter p cs) (filter p cs)) ws m ≡ rows_below b (filter q (cond x (c ∷ filter r cs) (filter r cs))) xs m
    go false true z e f g k = k (cond (nat_lt c.0 b) (after_history (history_of c.1 ws) m) m) ∙ ap (rows_below b (filter q (filter r cs)) xs) (one (nat_lt c.0 b) e)
    go false false z e f g k = k m
    go true true true e f g k =
        k (cond (nat_lt c.0 b) (after_history (history_of c.1 ws) m) m)
        ∙ ap (λ ts. rows_below b (filter q (filter r cs)) xs (cond (nat_lt c.0 b) (after_history ts m) m)) (h c.1)
        ∙ ap (λ (v : Bool). rows_below b (cond v (c ∷ filter q (filter r cs)) (filter q (filter r cs))) xs m) (sym g)
    go true false false e f g k = k m ∙ ap (λ (v : Bool). rows_below b (cond v (c ∷ filter q (filter r cs)) (filter q (filter r cs))) xs m) (sym g)
    go true true false e f g k = absurd (true≢false (sym f ∙ a.0 e ∙ g))
    go true false true e f g k = absurd (true≢false (sym g ∙ sym (a.0 e) ∙ f))

pub not_not : (b : Bool) → not b ≡ false → b ≡ true
not_not true e = refl
not_not false e = absurd (true≢false e)

-- SNAPSHOTS: the whole trace and the core's own show the same
pub snapshot_whole : (opening : Map) (ws xs : List Step) (w : WholeState) (t : ℕ) → IsWholeKept opening ws xs w → IsMatched ws xs w → AreGiven opening ws xs w → snapshot_of opening ws t ≡ snapshot_of opening xs t
snapshot_whole opening ws xs w t h k g =
    ap (λ ts. after_history ts (rows_below t (ended_in ws) ws opening)) (h.histories t)
    ∙ ap (after_history (history_of t xs)) (rows_alike t (λ c. not (is_aborted c.1 ws)) (λ c. not (is_aborted c.1 xs)) is_others ws xs (prepares ws) opening h.histories
    (each_weaker (IsGiven ws xs w) (λ c. is_others c ≡ false → WritesNothing (history_of c.1 ws)) (λ c q e. subst WritesNothing (sym (h.histories c.1)) (q.idle (eqb-true c.0 c.1 (not_not (c.0 == c.1) e)))) (prepares ws) g.each)
    (each_kept (λ c. not (is_aborted c.1 ws) ≡ not (is_aborted c.1 xs)) is_others (prepares ws) (subst (AllByRecursion (λ c. not (is_aborted c.1 ws) ≡ not (is_aborted c.1 xs))) (sym g.order) (each_weaker (λ (c : ℕ × ℕ). NoPrepare c.1 xs → ⊥) (λ c. not (is_aborted c.1 ws) ≡ not (is_aborted c.1 xs)) (λ c n. ap not (same c.1 n)) (prepares xs) (prepared xs))))
    ∙ ap (λ cs. rows_below t (filter (λ (c : ℕ × ℕ). not (is_aborted c.1 xs)) cs) xs opening) g.order)
  where
    same : (u : ℕ) → (NoPrepare u xs → ⊥) → is_aborted u ws ≡ is_aborted u xs
    same u n = go (is_aborted u ws) (is_aborted u xs) refl refl
      where
        go : (a b : Bool) → is_aborted u ws ≡ a → is_aborted u xs ≡ b → a ≡ b
        go true true e f = refl
        go false false e f = refl
        go true false e f = absurd (true≢false (sym (g.aborts u e) ∙ f))
        go false true e f = absurd (other (k.aborts u f))
          where
            other : (is_aborted u ws ≡ true) ⊎ NoPrepare u xs → ⊥
            other (inl q) = true≢false (sym q ∙ e)
            other (inr q) = n q

-- ---- one call more
-- the same answer to both changes the same rows
print_told : (opening : Map) (ws xs : List Step) (t : ℕ) (op : Op) (a : AnswerData) (u : ℕ) → snapshot_of opening ws u ≡ snapshot_of opening xs u → changed_in opening ws (Answers t op a) u ≡ changed_in opening xs (Answers t op a) u
print_told opening ws xs t op a u e = ap (λ m. cond (t == u) (changed_by (write_of op a) m) []) e

pub given_more : (opening : Map) (ws xs us vs : List Step) (w w' : WholeState) → HasShape ws xs w us vs → w.core.clock ≤ w'.core.clock → IsWholeKept opening ws xs w → IsMatched ws xs w → AreGiven opening ws xs w → AreGiven opening (ws ++ us) (xs ++ vs) w'
given_more opening ws xs us vs w w' (inl q) c h k g = record {
  order = ap (filter is_others) (prepares_both ws us ∙ ap (λ l. prepares ws ++ l) (plain_prepares us q.whole) ∙ append-none (prepares ws)) ∙ g.order ∙ sym (prepares_both xs vs ∙ ap (λ l. prepares xs ++ l) (plain_prepares vs q.own) ∙ append-none (prepares xs));
  each = subst (AllByRecursion (IsGiven (ws ++ us) (xs ++ vs) w')) (sym (prepares_both ws us ∙ ap (λ l. prepares ws ++ l) (plain_prepares us q.whole) ∙ append-none (prepares ws)))
      (each_weaker (IsGiven ws xs w) (IsGiven (ws ++ us) (xs ++ vs) w') (λ d i. record {
        drawn = let l = i.drawn in omega arith;
        done = λ e. i.done (plain_phase d.1 (phase_of d.1 ws) us q.whole (sym (phase_both d.1 _ ws us) ∙ e));
        idle = λ e. subst WritesNothing (sym (history_quiet d.1 xs vs (history_of d.1 xs) (plain_history d.1 vs q.own) refl)) (i.idle e);
      }) (prepares ws) g.each);
  aborts = λ u e. abort u (is_aborted u ws) refl (sym (any_both (is_abort_of u) ws us) ∙ e);
  prints = λ u. since_both opening [] ws us u ∙ ap (λ l. footprint_in opening ws u ++ l) (plain_rows opening ws us u q.whole) ∙ append-none (footprint_in opening ws u) ∙ g.prints u
      ∙ sym (since_both opening [] xs vs u ∙ ap (λ l. footprint_in opening xs u ++ l) (plain_rows opening xs vs u q.own) ∙ append-none (footprint_in opening xs u));
}
  where
    abort : (u : ℕ) (b : Bool) → is_aborted u ws ≡ b → (is_aborted u ws || is_aborted u us) ≡ true → is_aborted u (xs ++ vs) ≡ true
    abort u true e f = any_both (is_abort_of u) xs vs ∙ ap (λ (b : Bool). b || is_aborted u vs) (g.aborts u e)
    abort u false e f = any_both (is_abort_of u) xs vs ∙ ap (λ (b : Bool). is_aborted u xs || b) (q.aborts u (sym (ap (λ (b : Bool). b || is_aborted u us) e) ∙ f)) ∙ or_true (is_aborted u xs)
      where
        or_true : (b : Bool) → (b || true) ≡ true
        or_true true = refl
        or_true false = refl
given_more opening ws xs us vs w w' (inr (inl q)) c h k g =
    let t = w.core.clock + 1 in
    subst (λ l. AreGiven opening (ws ++ l) (xs ++ vs) w') (sym q.whole) (subst (λ l. AreGiven opening (ws ++ (Begins t ∷ [])) (xs ++ l) w') (sym q.own) (record {
      order = ap (filter is_others) (prepares_both ws (Begins t ∷ []) ∙ append-none (prepares ws)) ∙ g.order ∙ sym (prepares_both xs (Begins t ∷ []) ∙ append-none (prepares xs));
      each = subst (AllByRecursion (IsGiven (ws ++ Begins t ∷ []) (xs ++ Begins t ∷ []) w')) (sym (prepares_both ws (Begins t ∷ []) ∙ append-none (prepares ws)))
          (each_weaker (IsGiven ws xs w) (IsGiven (ws ++ Begins t ∷ []) (xs ++ Begins t ∷ []) w') (λ d i. record {
            drawn = let l = i.drawn in omega arith;
            done = λ e. i.done (sym (phase_of-push_other d.1 ws (Begins t) (λ j. absurd (let l = i.drawn in omega arith))) ∙ e);
            idle = λ e. subst WritesNothing (sym (history_quiet d.1 xs (Begins t ∷ []) (history_of d.1 xs) refl refl)) (i.idle e);
          }) (prepares ws) g.each);
      aborts = λ u e. any_both (is_abort_of u) xs (Begins t ∷ []) ∙ ap (λ (b : Bool). b || false) (g.aborts u (or_none (is_aborted u ws) (sym (any_both (is_abort_of u) ws (Begins t ∷ [])) ∙ e)));
      prints = λ u. since_both opening [] ws (Begins t ∷ []) u ∙ append-none (footprint_in opening ws u) ∙ g.prints u ∙ sym (since_both opening [] xs (Begins t ∷ []) u ∙ append-none (footprint_in opening xs u));
    }))
  where
    or_none : (b : Bool) → (b || false) ≡ true → b ≡ true
    or_none true e = refl
    or_none false e = e
given_more opening ws xs us vs w w' (inr (inr (inl q))) c h k g =
    let z = Answers q.tx q.op q.answer in
    subst (λ l. AreGiven opening (ws ++ l) (xs ++ vs) w') (sym q.whole) (subst (λ l. AreGiven opening (ws ++ (z ∷ [])) (xs ++ l) w') (sym q.own) (record {
      order = ap (filter is_others) (prepares_both ws (z ∷ []) ∙ append-none (prepares ws)) ∙ g.order ∙ sym (prepares_both xs (z ∷ []) ∙ append-none (prepares xs));
      each = subst (AllByRecursion (IsGiven (ws ++ z ∷ []) (xs ++ z ∷ []) w')) (sym (prepares_both ws (z ∷ []) ∙ append-none (prepares ws)))
          (each_weaker (IsGiven ws xs w) (IsGiven (ws ++ z ∷ []) (xs ++ z ∷ []) w') (λ d i. let n : q.tx ≢ d.1 = (λ j. i.done (subst (λ (u : ℕ). phase_of u ws ≡ IsActive) j q.active)) in record {
            drawn = let l = i.drawn in omega arith;
            done = λ e. i.done (sym (phase_of-push_other d.1 ws z n) ∙ e);
            idle = λ e. subst WritesNothing (sym (history_quiet d.1 xs (z ∷ []) (history_of d.1 xs) (history_from_others d.1 (z ∷ []) (n, tt)) refl)) (i.idle e);
          }) (prepares ws) g.each);
      aborts = λ u e. any_both (is_abort_of u) xs (z ∷ []) ∙ ap (λ (b : Bool). b || false) (g.aborts u (or_none (is_aborted u ws) (sym (any_both (is_abort_of u) ws (z ∷ [])) ∙ e)));
      prints = λ u. since_both opening [] ws (z ∷ []) u ∙ ap (λ l. footprint_in opening ws u ++ (l ++ [])) (print_told opening ws xs q.tx q.op q.answer u (snapshot_whole opening ws xs w u h k g)) ∙ ap (λ l. l ++ (changed_in opening xs z u ++ [])) (g.prints u) ∙ sym (since_both opening [] xs (z ∷ []) u);
    }))
  where
    or_none : (b : Bool) → (b || false) ≡ true → b ≡ true
    or_none true e = refl
    or_none false e = e
given_more opening ws xs us vs w w' (inr (inr (inr (inl q)))) c h k g =
    let z = Prepares q.tx q.tx in
    subst (λ l. AreGiven opening (ws ++ l) (xs ++ vs) w') (sym q.whole) (subst (λ l. AreGiven opening (ws ++ (z ∷ [])) (xs ++ l) w') (sym q.own) (record {
      order = ap (filter is_others) (prepares_both ws (z ∷ [])) ∙ filter_both is_others (prepares ws) ((q.tx, q.tx) ∷ []) ∙ ap (λ (b : Bool). filter is_others (prepares ws) ++ cond (not b) ((q.tx, q.tx) ∷ []) []) (eq-eqb q.tx q.tx refl) ∙ append-none (filter is_others (prepares ws)) ∙ g.order ∙ ap prepares (sym (append-none xs));
      each = subst (AllByRecursion (IsGiven (ws ++ z ∷ []) (xs ++ []) w')) (sym (prepares_both ws (z ∷ [])))
          (each_append (IsGiven (ws ++ z ∷ []) (xs ++ []) w') (prepares ws) ((q.tx, q.tx) ∷ [])
          (each_weaker (IsGiven ws xs w) (IsGiven (ws ++ z ∷ []) (xs ++ []) w') (λ d i. record {
            drawn = let l = i.drawn in omega arith;
            done = λ e. away d.1 q.tx q.tx i.done (cases_eq q.tx d.1) e;
            idle = λ e. subst (λ l. WritesNothing (history_of d.1 l)) (sym (append-none xs)) (i.idle e);
          }) (prepares ws) g.each) (
            record {
              drawn = let l = q.drawn in omega arith;
              done = λ e. no_phase q.tx (sym (phase_of-push_own q.tx ws z refl) ∙ e);
              idle = λ e. subst (λ l. WritesNothing (history_of q.tx l)) (sym (append-none xs)) q.idle;
            },
            tt,
          ));
      aborts = λ u e. subst (λ l. is_aborted u l ≡ true) (sym (append-none xs)) (g.aborts u (or_none (is_aborted u ws) (sym (any_both (is_abort_of u) ws (z ∷ [])) ∙ e)));
      prints = λ u. since_both opening [] ws (z ∷ []) u ∙ append-none (footprint_in opening ws u) ∙ g.prints u ∙ ap (λ l. footprint_in opening l u) (sym (append-none xs));
    }))
  where
    or_none : (b : Bool) → (b || false) ≡ true → b ≡ true
    or_none true e = refl
    or_none false e = e

    no_phase : (n : ℕ) → IsPreparing n ≡ IsActive → ⊥
    no_phase n e = absurd cc

    away : (d t n : ℕ) → (phase_of d ws ≡ IsActive → ⊥) → ((t ≡ d) ⊎ (t ≡ d → ⊥)) → phase_of d (ws ++ Prepares t n ∷ []) ≡ IsActive → ⊥
    away d t n f (inl i) e = no_phase n (sym (phase_of-push_own d ws (Prepares t n) i) ∙ e)
    away d t n f (inr i) e = f (sym (phase_of-push_other d ws (Prepares t n) i) ∙ e)
given_more opening ws xs us vs w w' (inr (inr (inr (inr q)))) c h k g =
    let n = w.core.clock + 1 in
    let z = Prepares q.tx n in
    subst (λ l. AreGiven opening (ws ++ l) (xs ++ vs) w') (sym q.whole) (subst (λ l. AreGiven opening (ws ++ (z ∷ [])) (xs ++ l) w') (sym q.own) (record {
      order = ap (filter is_others) (prepares_both ws (z ∷ [])) ∙ filter_both is_others (prepares ws) ((n, q.tx) ∷ []) ∙ ap (λ (b : Bool). filter is_others (prepares ws) ++ cond (not b) ((n, q.tx) ∷ []) []) (ne_eqb n q.tx (λ e. absurd (let d = q.drawn in omega arith))) ∙ ap (λ l. l ++ (n, q.tx) ∷ []) g.order ∙ sym (prepares_both xs (z ∷ []));
      each = subst (AllByRecursion (IsGiven (ws ++ z ∷ []) (xs ++ z ∷ []) w')) (sym (prepares_both ws (z ∷ [])))
          (each_append (IsGiven (ws ++ z ∷ []) (xs ++ z ∷ []) w') (prepares ws) ((n, q.tx) ∷ [])
          (each_weaker (IsGiven ws xs w) (IsGiven (ws ++ z ∷ []) (xs ++ z ∷ []) w') (λ d i. record {
            drawn = let l = i.drawn in omega arith;
            done = λ e. away d.1 q.tx n i.done (cases_eq q.tx d.1) e;
            idle = λ e. subst WritesNothing (sym (history_quiet d.1 xs (z ∷ []) (history_of d.1 xs) refl refl)) (i.idle e);
          }) (prepares ws) g.each) (
            record {
              drawn = let l = q.drawn in omega arith;
              done = λ e. no_phase n (sym (phase_of-push_own q.tx ws z refl) ∙ e);
              idle = λ e. absurd (let d = q.drawn in omega arith);
            },
            tt,
          ));
      aborts = λ u e. any_both (is_abort_of u) xs (z ∷ []) ∙ ap (λ (b : Bool). b || false) (g.aborts u (or_none (is_aborted u ws) (sym (any_both (is_abort_of u) ws (z ∷ [])) ∙ e)));
      prints = λ u. since_both opening [] ws (z ∷ []) u ∙ append-none (footprint_in opening ws u) ∙ g.prints u ∙ sym (since_both opening [] xs (z ∷ []) u ∙ append-none (footprint_in opening xs u));
    }))
  where
    or_none : (b : Bool) → (b || false) ≡ true → b ≡ true
    or_none true e = refl
    or_none false e = e

    no_phase : (n' : ℕ) → IsPreparing n' ≡ IsActive → ⊥
    no_phase n' e = absurd cc

    away : (d t n' : ℕ) → (phase_of d ws ≡ IsActive → ⊥) → ((t ≡ d) ⊎ (t ≡ d → ⊥)) → phase_of d (ws ++ Prepares t n' ∷ []) ≡ IsActive → ⊥
    away d t n' f (inl i) e = no_phase n' (sym (phase_of-push_own d ws (Prepares t n') i) ∙ e)
    away d t n' f (inr i) e = f (sym (phase_of-push_other d ws (Prepares t n') i) ∙ e)

-- ---- over a list of calls
pub given_after_whole_run : (opening : Map) (ws xs : List Step) (w : WholeState) (d : WholeRun) → MayRunWhole w d → IsWholeKept opening ws xs w → IsMatched ws xs w → AreGiven opening ws xs w → AreGiven opening (ws ++ whole_trace w d) (xs ++ own_trace w d) (after_whole_run w d)
given_after_whole_run opening ws xs w [] m h k g = subst (λ l. AreGiven opening l (xs ++ []) w) (sym (append-none ws)) (subst (λ l. AreGiven opening ws l w) (sym (append-none xs)) g)
given_after_whole_run opening ws xs w (a ∷ rest) m h k g =
    let w' = after_whole_call w a.0 a.1 in
    let us = steps_of_whole_call w a.0 a.1 in
    let vs = trace_of w.core (core_calls w a.0 a.1) in
    subst (λ l. AreGiven opening l (xs ++ (vs ++ own_trace w' rest)) (after_whole_run w' rest)) (append_assoc ws us (whole_trace w' rest))
    (subst (λ l. AreGiven opening ((ws ++ us) ++ whole_trace w' rest) l (after_whole_run w' rest)) (append_assoc xs vs (own_trace w' rest))
    (given_after_whole_run opening (ws ++ us) (xs ++ vs) w' rest m.1 (whole_after_call opening ws xs w a.0 a.1 m.0 h) (matched_more opening ws xs w a.0 a.1 m.0 h k)
    (given_more opening ws xs us vs w w' (call_shape opening ws xs w a.0 a.1 m.0 h) (run_clock opening xs w.core (core_calls w a.0 a.1) (may_core opening ws xs w a.0 a.1 m.0 h) h.kept) h k g)))

pub given_opened : (rows : Map) (mark : ℕ) → AreGiven rows [] [] (opened_whole rows mark)
given_opened rows mark = record { order = refl; each = tt; aborts = λ u e. e; prints = λ u. refl }

-- FOOTPRINTS of the whole trace
pub prints_whole : (opening : Map) (ws xs : List Step) (w : WholeState) → IsWholeKept opening ws xs w → AreGiven opening ws xs w → HasFootprints opening ws w.core
prints_whole opening ws xs w h g = record {
  active = each_weaker (λ r. footprint_in opening xs r.id ≡ r.footprint) (λ r. footprint_in opening ws r.id ≡ r.footprint) (λ r e. g.prints r.id ∙ e) w.core.active h.kept.prints.active;
  stamped = each_weaker (λ x. footprint_in opening xs x.id ≡ x.footprint) (λ x. footprint_in opening ws x.id ≡ x.footprint) (λ x e. g.prints x.id ∙ e) w.core.stamped h.kept.prints.stamped;
  fresh = λ t l. g.prints t ∙ h.kept.prints.fresh t l;
}

pub runs_have_footprints : (rows : Map) (mark : ℕ) (d : WholeRun) → MayRunWhole (opened_whole rows mark) d → HasFootprints rows (whole_trace (opened_whole rows mark) d) (after_whole_run (opened_whole rows mark) d).core
runs_have_footprints rows mark d m =
    let w = opened_whole rows mark in
    prints_whole rows (whole_trace w d) (own_trace w d) (after_whole_run w d) (whole_after_run rows [] [] w d m (whole_opened rows mark)) (given_after_whole_run rows [] [] w d m (whole_opened rows mark) (matched_opened rows mark) (given_opened rows mark))

-- the snapshot of each Active one, of the read-only ones too, is that of the whole trace
pub snapshots_whole : (opening : Map) (ws xs : List Step) (w : WholeState) → IsWholeKept opening ws xs w → IsMatched ws xs w → AreGiven opening ws xs w → AllByRecursion (λ (r : ActiveTx). snapshot w.core r.id ≡ snapshot_of opening ws r.id) w.core.active
snapshots_whole opening ws xs w h k g = each_weaker (λ (r : ActiveTx). snapshot w.core r.id ≡ snapshot_of opening xs r.id) (λ (r : ActiveTx). snapshot w.core r.id ≡ snapshot_of opening ws r.id) (λ r e. e ∙ sym (snapshot_whole opening ws xs w r.id h k g)) w.core.active (snapshots_traced opening xs w.core h.kept)
