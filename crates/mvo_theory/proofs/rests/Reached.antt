-- One on whom a transaction rests got its end, and is there unless it was aborted.
use Rattle.std.proofs.Common.{◌≡◌, ℕ, Bool, true, false, cond, not, ◌||◌, List, [], ◌∷◌, ◌++◌, refl, sym, ap, ◌∙◌, ◌⊎◌, inl, inr, append_assoc}
use Rattle.std.specs.Prelude.{◌==◌, ◌&&◌}
use Rattle.std.specs.List.{AllByRecursion, filter, list_any}
use Rattle.std.proofs.lemmas.Bool.{false≢true, true≢false, eqb-true, eq-eqb, and_from, and_parts}
use Rattle.mvo_model.specs.Trace.{Step, owner_of, Phase, phase_after, phase_from, phase_of}
use Rattle.mvo_model.specs.Trace.Step.{Begins, Answers, Prepares, Checks, Commits, Aborts, Terminates}
use Rattle.mvo_model.specs.Trace.Phase.{Absent, Active, Preparing, Committed, Aborted}
use Rattle.mvo_types.specs.Keys.{Map}
use Rattle.mvo_theory.specs.State.{State, StampedTx, timeline, active_of, preparing_of, ended_of}
use Rattle.mvo_theory.specs.Phases.{is_preparing}
use Rattle.mvo_theory.specs.Snapshots.{prepare_of, prepares, is_aborted, ends_with_ids}
use Rattle.mvo_theory.specs.Calls.{IsKept}
use Rattle.mvo_theory.proofs.Each.{each_back}
use Rattle.mvo_theory.proofs.Footprints.{or_left, or_right, any_left, any_right}
use Rattle.mvo_theory.proofs.Apart.{IsIn}
use Rattle.mvo_theory.proofs.There.{IsThere, There}
use Rattle.mvo_theory.proofs.LastWriter.{preparing_there, found_in, same_end}
use Rattle.mvo_theory.proofs.AfterTrace.{rising_all}
use Rattle.mvo_theory.proofs.Traced.{ends_differ}
use Rattle.mvo_theory.specs.rests.Course.{Course}
use Rattle.mvo_theory.specs.rests.Resting.{RestsOn}

module _ (x e : ℕ) where
  abbrev is_it : ℕ × ℕ → Bool
  is_it c = (c.0 == e) && (c.1 == x)

  not_so : (p : Phase) → is_preparing p ≡ false → p ≡ Preparing e → ⊥
  not_so p f g = true≢false (sym (ap is_preparing g) ∙ f)

  -- ---- who is Preparing with an end became so
  by_step : (y : Step) (p : Phase) → owner_of y ≡ x → phase_after y p ≡ Preparing e → (p ≡ Preparing e) ⊎ (list_any is_it (prepare_of y) ≡ true)
  by_step (Begins u) p o f = absurd (not_so Active refl f)
  by_step (Answers u op a) p o f = inl f
  by_step (Prepares u n) p o f = inr (or_left (is_it (n, u)) false (and_from (n == e) (u == x) (eq-eqb n e (same_end n e f)) (eq-eqb u x o)))
  by_step (Checks u) p o f = inl f
  by_step (Commits u n) p o f = absurd (not_so (Committed n) refl f)
  by_step (Aborts u) p o f = absurd (not_so Aborted refl f)
  by_step (Terminates u) p o f = absurd (not_so Absent refl f)

  by_steps : (p : Phase) (steps : List Step) → phase_from p x steps ≡ Preparing e → (p ≡ Preparing e) ⊎ (list_any is_it (prepares steps) ≡ true)
  by_steps p [] f = inl f
  by_steps p (y ∷ ys) f = elim (by_steps (cond (owner_of y == x) (phase_after y p) p) ys f) [
    | inl g ↦ go (owner_of y == x) refl g
    | inr g ↦ inr (any_right is_it (prepare_of y) (prepares ys) g)
  ]
    where
      go : (b : Bool) → (owner_of y == x) ≡ b → cond b (phase_after y p) p ≡ Preparing e → (p ≡ Preparing e) ⊎ (list_any is_it (prepare_of y ++ prepares ys) ≡ true)
      go true i g = elim (by_step y p (eqb-true (owner_of y) x i) g) [ inl h ↦ inl h | inr h ↦ inr (any_left is_it (prepare_of y) (prepares ys) h) ]
      go false i g = inl g

  got : (steps : List Step) → phase_of x steps ≡ Preparing e → list_any is_it (prepares steps) ≡ true
  got steps f = elim (by_steps Absent steps f) [ inl g ↦ absurd (not_so Absent refl g) | inr g ↦ g ]

  -- ---- who is among the ends is there
  further : (y : StampedTx) (ys : List StampedTx) → IsThere ys x e → IsThere (y ∷ ys) x e
  further y ys (There z m i d) = There z (λ P h. m P h.1) i d

  in_ends : (xs : List StampedTx) → list_any is_it (ends_with_ids xs) ≡ true → IsThere xs x e
  in_ends [] h = absurd (false≢true h)
  in_ends (y ∷ ys) h = go (is_it (y.end, y.id)) refl h (λ q. in_ends ys q)
    where
      go : (b : Bool) → is_it (y.end, y.id) ≡ b → (b || list_any is_it (ends_with_ids ys)) ≡ true → (list_any is_it (ends_with_ids ys) ≡ true → IsThere ys x e) → IsThere (y ∷ ys) x e
      go true f g k = let p = and_parts (y.end == e) (y.id == x) f in There y (λ P q. q.0) (eqb-true y.id x p.1) (eqb-true y.end e p.0)
      go false f g k = further y ys (k g)

prepares-append : (xs ys : List Step) → prepares (xs ++ ys) ≡ prepares xs ++ prepares ys
prepares-append [] ys = refl
prepares-append (x ∷ xs) ys = ap (λ cs. prepare_of x ++ cs) (prepares-append xs ys) ∙ sym (append_assoc (prepare_of x) (prepares xs) (prepares ys))

any_kept : (p keep : ℕ × ℕ → Bool) (cs : List (ℕ × ℕ)) → ((c : ℕ × ℕ) → p c ≡ true → keep c ≡ true) → list_any p cs ≡ true → list_any p (filter keep cs) ≡ true
any_kept p keep [] f h = absurd (false≢true h)
any_kept p keep (c ∷ cs) f h = go (p c) refl (keep c) refl h (any_kept p keep cs f)
  where
    go : (a : Bool) → p c ≡ a → (b : Bool) → keep c ≡ b → (a || list_any p cs) ≡ true → (list_any p cs ≡ true → list_any p (filter keep cs) ≡ true) → list_any p (cond b (c ∷ filter keep cs) (filter keep cs)) ≡ true
    go true i true j g r = or_left (p c) (list_any p (filter keep cs)) i
    go true i false j g r = absurd (true≢false (sym (f c i) ∙ j))
    go false i true j g r = or_right (p c) (list_any p (filter keep cs)) (r g)
    go false i false j g r = r g

pub reached : (c : Course) (s : State) (t x e : ℕ) → IsKept c.rows c.steps s → RestsOn c t x e → is_aborted x c.steps ≡ false → IsThere (timeline s) x e
reached c s t x e k h n =
    let later : list_any (is_it x e) (prepares c.steps) ≡ true =
    ap (λ xs. list_any (is_it x e) (prepares xs)) h.then'
    ∙ ap (list_any (is_it x e)) (prepares-append h.before (Answers t h.op h.answer ∷ h.after))
    ∙ any_left (is_it x e) (prepares h.before) (prepares (Answers t h.op h.answer ∷ h.after)) (got x e h.before h.depends.writer.preparing) in
    in_ends x e (timeline s) (ap (list_any (is_it x e)) (sym k.has_ends.ends)
    ∙ any_kept (is_it x e) (λ d. not (is_aborted d.1 c.steps)) (prepares c.steps) (λ d i. ap (λ (u : ℕ). not (is_aborted u c.steps)) (eqb-true d.1 x (and_parts (d.0 == e) (d.1 == x) i).1) ∙ ap not n) later)

-- ---- it alone has its end, and that alone
pub in_timeline : (s : State) (x : StampedTx) → IsIn x s.stamped → IsIn x (timeline s)
in_timeline s x m = λ P h. m P (each_back P s.past s.stamped h)

pub its_end : (rows : Map) (steps : List Step) (s : State) (x : StampedTx) (u e : ℕ) → IsKept rows steps s → IsIn x (timeline s) → x.id ≡ u → IsThere (timeline s) u e → e ≡ x.end
its_end rows steps s x u e k m is (There y n i d) = sym d ∙ n (λ z. z.id ≡ x.id → z.end ≡ x.end) (m (λ v. AllByRecursion (λ z. z.id ≡ v.id → z.end ≡ v.end) (timeline s)) k.has_ends.alone) (i ∙ sym is)

pub its_id : (rows : Map) (steps : List Step) (s : State) (x : StampedTx) (u : ℕ) → IsKept rows steps s → IsIn x (timeline s) → IsThere (timeline s) u x.end → u ≡ x.id
its_id rows steps s x u k m (There y n i d) = sym i ∙ n (λ z. z.end ≡ x.end → z.id ≡ x.id) (m (λ v. AllByRecursion (λ z. z.end ≡ v.end → z.id ≡ v.id) (timeline s)) (ends_differ (timeline s) (rising_all s k.sound k.started))) d

-- one that is Preparing wasn't aborted
pub unaborted : (rows : Map) (steps : List Step) (s : State) (x e : ℕ) → IsKept rows steps s → phase_of x steps ≡ Preparing e → is_aborted x steps ≡ false
unaborted rows steps s x e k p =
    let there = preparing_there (active_of x s.active) (preparing_of x s.stamped) (ended_of x s.ended) e (sym (k.after_trace.phases x) ∙ p) in
    let found = found_in x s.stamped there.0 there.1 in
    ap (λ (u : ℕ). is_aborted u steps) (sym found.1) ∙ in_timeline s there.0 found.0 (λ v. is_aborted v.id steps ≡ false) k.has_ends.stamped
