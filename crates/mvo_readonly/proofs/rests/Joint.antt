-- Both courses stay joint, and on whom a transaction rests is the same by both.
use Rattle.std.proofs.Common.{◌≡◌, ℕ, ◌≤◌, Bool, true, false, ◌⊎◌, inl, inr, List, [], ◌∷◌, ◌++◌, length, refl, sym, ap, ◌∙◌, subst, arith, append_assoc}
use Rattle.std.specs.Prelude.{◌==◌}
use Rattle.std.specs.List.{AllByRecursion}
use Rattle.std.proofs.lemmas.Bool.{true≢false, eq-eqb}
use Rattle.std.proofs.lemmas.List.{length-append}
use Rattle.mvo_types.specs.declared.op.Op.{Op}
use Rattle.mvo_types.specs.Keys.{Map}
use Rattle.mvo_types.specs.AnswerData.{AnswerData}
use Rattle.mvo_model.specs.Trace.{Step}
use Rattle.mvo_model.specs.Trace.Step.{Begins, Answers, Prepares, Checks, Commits, Aborts, Terminates}
use Rattle.mvo_theory.specs.Snapshots.{is_aborted}
use Rattle.mvo_theory.specs.Traced.{is_abort_of}
use Rattle.mvo_theory.proofs.Each.{each_weaker, each_append, each_back}
use Rattle.mvo_theory.proofs.Footprints.{or_left, or_right}
use Rattle.mvo_theory.specs.rests.Course.{Course, start_behind, with_steps, with_trim}
use Rattle.mvo_theory.specs.rests.Resting.{DependsNow, RestsOn}
use Rattle.mvo_theory.proofs.rests.Resting.{start_trimmed, start_later, start_then}
use Rattle.mvo_readonly.specs.Whole.{WholeState}
use Rattle.mvo_readonly.specs.WholeKept.{IsWholeKept}
use Rattle.mvo_readonly.proofs.Traces.{append-none}
use Rattle.mvo_readonly.proofs.Depending.{any_both, splits, Adds, no_answer_in, alone_is}
use Rattle.mvo_readonly.specs.rests.Joint.{AtBoth, PlacedOwn, PlacedWhole, AreJoint}
use Rattle.mvo_readonly.specs.BothTraces.{is_prepare_of, NoPrepare, IsMatched, AreGiven}
use Rattle.mvo_readonly.proofs.rests.Looking.{depends_now_own, depends_now_whole}

-- ---- ON WHOM IT RESTS is the same by both
pub rests_own : (a o : Course) (t x e : ℕ) → AreJoint a o → RestsOn a t x e → RestsOn o t x e
rests_own a o t x e j r =
    let p = j.to_own r.before r.after t r.op r.answer r.then' in record {
      before = p.before;
      op = r.op;
      answer = r.answer;
      after = p.after;
      then' = p.then';
      depends = subst (λ (m : ℕ). DependsNow o.rows p.before m t r.op x e) p.both.start
          (depends_now_own o.rows r.before p.before p.both.state (start_behind a.mark a.trims (length r.before)) t r.op x e p.both.kept p.both.matched p.both.given
          (subst (λ (rows : Map). DependsNow rows r.before (start_behind a.mark a.trims (length r.before)) t r.op x e) j.rows r.depends));
    }

pub rests_whole : (a o : Course) (t x e : ℕ) → AreJoint a o → RestsOn o t x e → RestsOn a t x e
rests_whole a o t x e j r =
    let p = j.to_whole r.before r.after t r.op r.answer r.then' in record {
      before = p.front;
      op = r.op;
      answer = r.answer;
      after = p.back;
      then' = p.then';
      depends = subst (λ (rows : Map). DependsNow rows p.front (start_behind a.mark a.trims (length p.front)) t r.op x e) (sym j.rows)
          (depends_now_whole o.rows p.front r.before p.both.state (start_behind a.mark a.trims (length p.front)) t r.op x e p.both.kept p.both.matched p.both.given
          (subst (λ (m : ℕ). DependsNow o.rows r.before m t r.op x e) (sym p.both.start) r.depends));
    }

-- ---- the aborts that a call adds
abbrev pub is_abort : Step → Bool
is_abort (Aborts t) = true
is_abort (Begins t) = false
is_abort (Answers t op s) = false
is_abort (Prepares t e) = false
is_abort (Checks t) = false
is_abort (Commits t e) = false
is_abort (Terminates t) = false

abbrev pub AbortsNothing : List Step → Type 0
AbortsNothing zs = AllByRecursion (λ z. is_abort z ≡ false) zs

-- none to the core's own; one to both; or one to the own alone, of one that got no end
abbrev pub AddsAborts : List Step → List Step → List Step → Type 0
AddsAborts xs us vs = AbortsNothing vs ⊎ (((t : ℕ) × (us ≡ Aborts t ∷ []) × (vs ≡ Aborts t ∷ [])) ⊎ ((t : ℕ) × (vs ≡ Aborts t ∷ []) × NoPrepare t xs))

there_aborted : (t : ℕ) (before after : List Step) → is_aborted t (before ++ (Aborts t ∷ after)) ≡ true
there_aborted t before after = any_both (is_abort_of t) before (Aborts t ∷ after) ∙ or_right (is_aborted t before) (is_aborted t (Aborts t ∷ after)) (or_left (t == t) (is_aborted t after) (eq-eqb t t refl))

same_aborts : (t u : ℕ) → Aborts t ≡ Aborts u → t ≡ u
same_aborts t u e = cc

-- ---- steps more
longer : (xs vs : List Step) → length xs ≤ length (xs ++ vs)
longer xs vs = let l = length-append xs vs in omega (arith, l)

pub joint_more : (a o : Course) (us vs : List Step) (w : WholeState) → Adds us vs → AddsAborts o.steps us vs → ((t : ℕ) → is_aborted t o.steps ≡ true → NoPrepare t o.steps → NoPrepare t (o.steps ++ vs)) → IsWholeKept o.rows a.steps o.steps w → IsMatched a.steps o.steps w → AreGiven o.rows a.steps o.steps w → AreJoint a o → AreJoint (with_steps a us) (with_steps o vs)
joint_more a o us vs w d d' still h k g j = record {
  rows = j.rows;
  mark = j.mark;
  to_own = λ front back t op s e. own front back t op s d (splits a.steps us front back (Answers t op s) e);
  to_whole = λ before after t op s e. whole before after t op s d (splits o.steps vs before after (Answers t op s) e);
  aborts = λ before after t e. gone before after t d' (splits o.steps vs before after (Aborts t) e);
  now = start_later a.mark (length a.steps) (length (a.steps ++ us)) a.trims (longer a.steps us) j.earlier ∙ j.now ∙ sym (start_later o.mark (length o.steps) (length (o.steps ++ vs)) o.trims (longer o.steps vs) j.earlier_own);
  earlier = each_weaker (λ d. d.0 ≤ length a.steps) (λ d. d.0 ≤ length (a.steps ++ us)) (λ d l. let m = longer a.steps us in omega (arith, l, m)) a.trims j.earlier;
  earlier_own = each_weaker (λ d. d.0 ≤ length o.steps) (λ d. d.0 ≤ length (o.steps ++ vs)) (λ d l. let m = longer o.steps vs in omega (arith, l, m)) o.trims j.earlier_own;
}
  where
    here : (front before : List Step) → front ≡ a.steps → before ≡ o.steps → AtBoth (with_steps a us) (with_steps o vs) front before
    here front before f b = subst (λ l. AtBoth (with_steps a us) (with_steps o vs) l before) (sym f) (subst (λ l. AtBoth (with_steps a us) (with_steps o vs) a.steps l) (sym b) (record { state = w; kept = h; matched = k; given = g; start = j.now }))

    both : (front before : List Step) → AtBoth a o front before → AtBoth (with_steps a us) (with_steps o vs) front before
    both front before b = record { state = b.state; kept = b.kept; matched = b.matched; given = b.given; start = b.start }

    own : (front back : List Step) (t : ℕ) (op : Op) (s : AnswerData) → Adds us vs → ((mid : List Step) × (a.steps ≡ front ++ (Answers t op s ∷ mid))) ⊎ ((rest : List Step) × (front ≡ a.steps ++ rest) × (us ≡ rest ++ (Answers t op s ∷ back))) → PlacedOwn (with_steps a us) (with_steps o vs) (Answers t op s) front (o.steps ++ vs)
    own front back t op s i (inl q) =
        let p = j.to_own front q.0 t op s q.1 in
        record { before = p.before; after = p.after ++ vs; then' = ap (λ l. l ++ vs) p.then' ∙ append_assoc p.before (Answers t op s ∷ p.after) vs; both = both front p.before p.both }
    own front back t op s (inl i) (inr q) = absurd (no_answer_in q.0 back t op s us q.2 i.0)
    own front back t op s (inr i) (inr q) =
        let one = alone_is q.0 back (Answers t op s) (Answers i.0 i.1 i.2) (sym i.3 ∙ q.2) in
        record { before = o.steps; after = []; then' = ap (λ l. o.steps ++ l) (i.4 ∙ ap (λ z. z ∷ []) one.1); both = here front o.steps (q.1 ∙ ap (λ l. a.steps ++ l) one.0 ∙ append-none a.steps) refl }

    whole : (before after : List Step) (t : ℕ) (op : Op) (s : AnswerData) → Adds us vs → ((mid : List Step) × (o.steps ≡ before ++ (Answers t op s ∷ mid))) ⊎ ((rest : List Step) × (before ≡ o.steps ++ rest) × (vs ≡ rest ++ (Answers t op s ∷ after))) → PlacedWhole (with_steps a us) (with_steps o vs) (Answers t op s) before (a.steps ++ us)
    whole before after t op s i (inl q) =
        let p = j.to_whole before q.0 t op s q.1 in
        record { front = p.front; back = p.back ++ us; then' = ap (λ l. l ++ us) p.then' ∙ append_assoc p.front (Answers t op s ∷ p.back) us; both = both p.front before p.both }
    whole before after t op s (inl i) (inr q) = absurd (no_answer_in q.0 after t op s vs q.2 i.1)
    whole before after t op s (inr i) (inr q) =
        let one = alone_is q.0 after (Answers t op s) (Answers i.0 i.1 i.2) (sym i.4 ∙ q.2) in
        record { front = a.steps; back = []; then' = ap (λ l. a.steps ++ l) (i.3 ∙ ap (λ z. z ∷ []) one.1); both = here a.steps before refl (q.1 ∙ ap (λ l. o.steps ++ l) one.0 ∙ append-none o.steps) }

    gone : (before after : List Step) (t : ℕ) → AddsAborts o.steps us vs → ((mid : List Step) × (o.steps ≡ before ++ (Aborts t ∷ mid))) ⊎ ((rest : List Step) × (before ≡ o.steps ++ rest) × (vs ≡ rest ++ (Aborts t ∷ after))) → PlacedWhole (with_steps a us) (with_steps o vs) (Aborts t) before (a.steps ++ us) ⊎ NoPrepare t (o.steps ++ vs)
    gone before after t i (inl q) = old (j.aborts before q.0 t q.1)
      where
        old : PlacedWhole a o (Aborts t) before a.steps ⊎ NoPrepare t o.steps → PlacedWhole (with_steps a us) (with_steps o vs) (Aborts t) before (a.steps ++ us) ⊎ NoPrepare t (o.steps ++ vs)
        old (inl p) = inl (record { front = p.front; back = p.back ++ us; then' = ap (λ l. l ++ us) p.then' ∙ append_assoc p.front (Aborts t ∷ p.back) us; both = both p.front before p.both })
        old (inr n) = inr (still t (subst (λ l. is_aborted t l ≡ true) (sym q.1) (there_aborted t before q.0)) n)
    gone before after t (inl i) (inr q) = absurd (true≢false (each_back (λ z. is_abort z ≡ false) q.0 (Aborts t ∷ after) (subst (λ l. AbortsNothing l) q.2 i)).0)
    gone before after t (inr (inl i)) (inr q) =
        let one = alone_is q.0 after (Aborts t) (Aborts i.0) (sym i.2 ∙ q.2) in
        inl (record { front = a.steps; back = []; then' = ap (λ l. a.steps ++ l) (i.1 ∙ ap (λ z. z ∷ []) one.1); both = here a.steps before refl (q.1 ∙ ap (λ l. o.steps ++ l) one.0 ∙ append-none o.steps) })
    gone before after t (inr (inr i)) (inr q) =
        let one = alone_is q.0 after (Aborts t) (Aborts i.0) (sym i.1 ∙ q.2) in
        let n = subst (λ (u : ℕ). NoPrepare u o.steps) (same_aborts i.0 t one.1) i.2 in
        inr (each_append (λ z. is_prepare_of t z ≡ false) o.steps vs n (subst (λ l. NoPrepare t l) (sym i.1) (refl, tt)))

-- ---- a trim more
pub joint_trimmed : (a o : Course) (m : ℕ) → AreJoint a o → AreJoint (with_trim a m) (with_trim o m)
joint_trimmed a o m j = record {
  rows = j.rows;
  mark = j.mark;
  to_own = λ front back t op s e. let p = j.to_own front back t op s e in record { before = p.before; after = p.after; then' = p.then'; both = both front p.before back p.after (Answers t op s) e p.then' p.both };
  to_whole = λ before after t op s e. let p = j.to_whole before after t op s e in record { front = p.front; back = p.back; then' = p.then'; both = both p.front before p.back after (Answers t op s) p.then' e p.both };
  aborts = λ before after t e. gone before after t e (j.aborts before after t e);
  now = start_trimmed a.mark (length a.steps) m a.trims j.earlier ∙ sym (start_trimmed o.mark (length o.steps) m o.trims j.earlier_own);
  earlier = each_append (λ d. d.0 ≤ length a.steps) a.trims ((length a.steps, m) ∷ []) j.earlier ((omega arith), tt);
  earlier_own = each_append (λ d. d.0 ≤ length o.steps) o.trims ((length o.steps, m) ∷ []) j.earlier_own ((omega arith), tt);
}
  where
    both : (front before back after : List Step) (z : Step) → a.steps ≡ front ++ (z ∷ back) → o.steps ≡ before ++ (z ∷ after) → AtBoth a o front before → AtBoth (with_trim a m) (with_trim o m) front before
    both front before back after z e f b = record {
      state = b.state;
      kept = b.kept;
      matched = b.matched;
      given = b.given;
      start = start_then a m front back z e ∙ b.start ∙ sym (start_then o m before after z f);
    }

    gone : (before after : List Step) (t : ℕ) → o.steps ≡ before ++ (Aborts t ∷ after) → PlacedWhole a o (Aborts t) before a.steps ⊎ NoPrepare t o.steps → PlacedWhole (with_trim a m) (with_trim o m) (Aborts t) before a.steps ⊎ NoPrepare t o.steps
    gone before after t e (inl p) = inl (record { front = p.front; back = p.back; then' = p.then'; both = both p.front before p.back after (Aborts t) p.then' e p.both })
    gone before after t e (inr n) = inr n
