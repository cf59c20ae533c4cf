-- On whom a transaction rests, as what happened goes on.
use Rattle.std.proofs.Common.{◌≡◌, ℕ, ◌<◌, ◌≤◌, Bool, true, false, cond, ◌||◌, List, [], ◌∷◌, ◌++◌, Option, None, Some, length, refl, sym, ap, ◌∙◌, subst, ◌⊎◌, inl, inr, arith, append_assoc}
use Rattle.std.specs.Prelude.{nat_le}
use Rattle.std.specs.List.{AllByRecursion}
use Rattle.std.proofs.lemmas.Bool.{true≢false, lt-leb, le-leb, cases_eq, ne_eqb}
use Rattle.std.proofs.lemmas.List.{length-append}
use Rattle.std.proofs.lemmas.List.Folds.{list_any-append}
use Rattle.mvo_types.specs.declared.op.Op.{Op}
use Rattle.mvo_types.specs.AnswerData.{AnswerData}
use Rattle.mvo_model.specs.Trace.{Step}
use Rattle.mvo_model.specs.Trace.Step.{Answers, Aborts}
use Rattle.mvo_theory.specs.Dependencies.{has_end}
use Rattle.mvo_theory.specs.Changes.{aborted_dependency_after}
use Rattle.mvo_theory.specs.Traced.{is_abort_of}
use Rattle.mvo_theory.specs.Snapshots.{is_aborted}
use Rattle.mvo_theory.proofs.EndSteps.{or_none}
use Rattle.mvo_theory.specs.rests.Course.{Course, start_behind, with_steps, with_trim}
use Rattle.mvo_theory.specs.rests.Resting.{DependsNow, RestsOn, RestsOnNoAborted, IsFirstAborted}
use Rattle.mvo_theory.specs.rests.Known.{IsFlag, KnowsOne}

-- ---- one step more
same_head : {X : Type 0} (x y : X) (xs ys : List X) → x ∷ xs ≡ y ∷ ys → x ≡ y
same_head x y xs ys e = cc

same_tail : {X : Type 0} (x y : X) (xs ys : List X) → x ∷ xs ≡ y ∷ ys → xs ≡ ys
same_tail x y xs ys e = cc

no_end : {X : Type 0} (bs after : List X) (z : X) → [] ≡ bs ++ (z ∷ after) → ⊥
no_end [] after z e = cc
no_end (b ∷ bs) after z e = cc

-- one of a list with one more is of the list, or is that one
pub split_last : {X : Type 0} (xs before after : List X) (y z : X) → xs ++ y ∷ [] ≡ before ++ (z ∷ after) → ((rest : List X) × (xs ≡ before ++ (z ∷ rest))) ⊎ ((before ≡ xs) × (z ≡ y))
split_last [] [] after y z e = inr (refl, sym (same_head y z [] after e))
split_last [] (b ∷ bs) after y z e = absurd (no_end bs after z (same_tail y b [] (bs ++ (z ∷ after)) e))
split_last (x ∷ xs) [] after y z e = inl (xs, ap (λ w. w ∷ xs) (same_head x z (xs ++ y ∷ []) after e))
split_last (x ∷ xs) (b ∷ bs) after y z e =
    let head = same_head x b (xs ++ y ∷ []) (bs ++ (z ∷ after)) e in
    elim (split_last xs bs after y z (same_tail x b (xs ++ y ∷ []) (bs ++ (z ∷ after)) e)) [
      | inl q ↦ inl (q.0, ap (λ w. w ∷ xs) head ∙ ap (λ ws. b ∷ ws) q.1)
      | inr q ↦ inr (ap (λ w. w ∷ bs) (sym head) ∙ ap (λ ws. x ∷ ws) q.0, q.1)
    ]

-- the step is no answer of t
abbrev pub IsNoAnswer : ℕ → Step → Type 0
IsNoAnswer t y = (op : Op) (a : AnswerData) → Answers t op a ≡ y → ⊥

pub rests_later : (c : Course) (y : Step) (t x e : ℕ) → RestsOn c t x e → RestsOn (with_steps c (y ∷ [])) t x e
rests_later c y t x e h = record {
  before = h.before;
  op = h.op;
  answer = h.answer;
  after = h.after ++ y ∷ [];
  then' = ap (λ zs. zs ++ y ∷ []) h.then' ∙ append_assoc h.before (Answers t h.op h.answer ∷ h.after) (y ∷ []);
  depends = h.depends;
}

pub rests_before : (c : Course) (y : Step) (t x e : ℕ) → IsNoAnswer t y → RestsOn (with_steps c (y ∷ [])) t x e → RestsOn c t x e
rests_before c y t x e n h = elim (split_last c.steps h.before h.after y (Answers t h.op h.answer) h.then') [
  | inl q ↦ record { before = h.before; op = h.op; answer = h.answer; after = q.0; then' = q.1; depends = h.depends }
  | inr q ↦ absurd (n h.op h.answer q.1)
]

pub aborted_push : (x : ℕ) (xs : List Step) (y : Step) → is_aborted x (xs ++ y ∷ []) ≡ (is_aborted x xs || is_abort_of x y)
aborted_push x xs y = list_any-append (is_abort_of x) xs (y ∷ []) ∙ ap (λ (b : Bool). is_aborted x xs || b) (or_none (is_abort_of x y))

pub first_later : (c : Course) (y : Step) (t u : ℕ) → IsNoAnswer t y → IsFirstAborted c t u → IsFirstAborted (with_steps c (y ∷ [])) t u
first_later c y t u n h = record {
  end' = h.end';
  rests = rests_later c y t u h.end' h.rests;
  before = h.before;
  after = h.after ++ y ∷ [];
  then' = ap (λ zs. zs ++ y ∷ []) h.then' ∙ append_assoc h.before (Aborts u ∷ h.after) (y ∷ []);
  first = λ z e q. h.first z e (rests_before c y t z e n q);
}

-- the step aborts none on whom t rests
abbrev pub AbortsNone : Course → ℕ → Step → Type 0
AbortsNone c t y = (x e : ℕ) → RestsOn c t x e → is_abort_of x y ≡ false

pub none_later : (c : Course) (y : Step) (t : ℕ) → IsNoAnswer t y → AbortsNone c t y → RestsOnNoAborted c t → RestsOnNoAborted (with_steps c (y ∷ [])) t
none_later c y t n q h = λ x e r.
    let old = rests_before c y t x e n r in
    aborted_push x c.steps y ∙ ap (λ (b : Bool). b || is_abort_of x y) (h x e old) ∙ q x e old

flag_later : (c : Course) (y : Step) (t : ℕ) (f : Option ℕ) → IsNoAnswer t y → AbortsNone c t y → IsFlag c t f → IsFlag (with_steps c (y ∷ [])) t f
flag_later c y t None n q h = none_later c y t n q h
flag_later c y t (Some u) n q h = first_later c y t u n h

pub knows_later : (c : Course) (y : Step) (t : ℕ) (ds : List ℕ) (f : Option ℕ) → IsNoAnswer t y → AbortsNone c t y → KnowsOne c t ds f → KnowsOne (with_steps c (y ∷ [])) t ds f
knows_later c y t ds f n q k = record {
  all = λ x e h. k.all x e (rests_before c y t x e n h);
  only = λ e h. let r = k.only e h in (r.0, rests_later c y t r.0 e r.1);
  flag = flag_later c y t f n q k.flag;
}

-- ---- one trim more
-- the history starts where it did behind fewer steps
start_kept : (mark n m k : ℕ) (trims : List (ℕ × ℕ)) → k < n → start_behind mark (trims ++ (n, m) ∷ []) k ≡ start_behind mark trims k
start_kept mark n m k [] lt = ap (λ (b : Bool). cond b m mark) (lt-leb n k lt)
start_kept mark n m k (d ∷ ds) lt = go (nat_le d.0 k) (start_kept d.1 n m k ds lt)
  where
    go : (b : Bool) → start_behind d.1 (ds ++ (n, m) ∷ []) k ≡ start_behind d.1 ds k → cond b (start_behind d.1 (ds ++ (n, m) ∷ []) k) mark ≡ cond b (start_behind d.1 ds k) mark
    go true e = e
    go false e = refl

pub start_trimmed : (mark n m : ℕ) (trims : List (ℕ × ℕ)) → AllByRecursion (λ d. d.0 ≤ n) trims → start_behind mark (trims ++ (n, m) ∷ []) n ≡ m
start_trimmed mark n m [] h = ap (λ (b : Bool). cond b m mark) (le-leb n n (omega arith))
start_trimmed mark n m (d ∷ ds) h = ap (λ (b : Bool). cond b (start_behind d.1 (ds ++ (n, m) ∷ []) n) mark) (le-leb d.0 n h.0) ∙ start_trimmed d.1 n m ds h.1

pub start_later : (mark n k : ℕ) (trims : List (ℕ × ℕ)) → n ≤ k → AllByRecursion (λ d. d.0 ≤ n) trims → start_behind mark trims k ≡ start_behind mark trims n
start_later mark n k [] le h = refl
start_later mark n k (d ∷ ds) le h =
    let low = h.0 in
    ap (λ (b : Bool). cond b (start_behind d.1 ds k) mark) (le-leb d.0 k (omega (arith, low, le)))
    ∙ start_later d.1 n k ds le h.1
    ∙ ap (λ (b : Bool). cond b (start_behind d.1 ds n) mark) (sym (le-leb d.0 n h.0))

pub start_then : (c : Course) (m : ℕ) (before after : List Step) (z : Step) → c.steps ≡ before ++ (z ∷ after) → start_behind c.mark (c.trims ++ (length c.steps, m) ∷ []) (length before) ≡ start_behind c.mark c.trims (length before)
start_then c m before after z e =
    let l = ap length e ∙ length-append before (z ∷ after) in
    start_kept c.mark (length c.steps) m (length before) c.trims (omega (arith, l))

trim_later : (c : Course) (m t x e : ℕ) → RestsOn c t x e → RestsOn (with_trim c m) t x e
trim_later c m t x e h = record {
  before = h.before;
  op = h.op;
  answer = h.answer;
  after = h.after;
  then' = h.then';
  depends = subst (λ (n : ℕ). DependsNow c.rows h.before n t h.op x e) (sym (start_then c m h.before h.after (Answers t h.op h.answer) h.then')) h.depends;
}

trim_before : (c : Course) (m t x e : ℕ) → RestsOn (with_trim c m) t x e → RestsOn c t x e
trim_before c m t x e h = record {
  before = h.before;
  op = h.op;
  answer = h.answer;
  after = h.after;
  then' = h.then';
  depends = subst (λ (n : ℕ). DependsNow c.rows h.before n t h.op x e) (start_then c m h.before h.after (Answers t h.op h.answer) h.then') h.depends;
}

flag_trimmed : (c : Course) (m t : ℕ) (f : Option ℕ) → IsFlag c t f → IsFlag (with_trim c m) t f
flag_trimmed c m t None h = λ x e r. h x e (trim_before c m t x e r)
flag_trimmed c m t (Some u) h = record {
  end' = h.end';
  rests = trim_later c m t u h.end' h.rests;
  before = h.before;
  after = h.after;
  then' = h.then';
  first = λ z e q. h.first z e (trim_before c m t z e q);
}

pub knows_trimmed : (c : Course) (m t : ℕ) (ds : List ℕ) (f : Option ℕ) → KnowsOne c t ds f → KnowsOne (with_trim c m) t ds f
knows_trimmed c m t ds f k = record {
  all = λ x e h. k.all x e (trim_before c m t x e h);
  only = λ e h. let r = k.only e h in (r.0, trim_later c m t r.0 e r.1);
  flag = flag_trimmed c m t f k.flag;
}

-- ---- an abort of u, whose end was e
pub no_abort : (t v : ℕ) → IsNoAnswer t (Aborts v)
no_abort t v op a e = cc

pub flag_aborted : (c : Course) (t u e : ℕ) (ds : List ℕ) (f : Option ℕ) → ((x : ℕ) → RestsOn c t x e → is_aborted x c.steps ≡ false → x ≡ u) → ((n : ℕ) → RestsOn c t u n → is_aborted u c.steps ≡ false → n ≡ e)
    → KnowsOne c t ds f → KnowsOne (with_steps c (Aborts u ∷ [])) t ds (aborted_dependency_after u e ds f)
flag_aborted c t u e ds f its_id its_end k = record {
  all = λ x n h. k.all x n (rests_before c (Aborts u) t x n (no_abort t u) h);
  only = λ n h. let r = k.only n h in (r.0, rests_later c (Aborts u) t r.0 n r.1);
  flag = go f k.flag;
}
  where
    other : RestsOnNoAborted c t → has_end ds e ≡ false → AbortsNone c t (Aborts u)
    other none free x n h = elim (cases_eq u x) [
      | inl i ↦ absurd (true≢false (sym (subst (λ (j : ℕ). has_end ds j ≡ true) (its_end n (subst (λ (j : ℕ). RestsOn c t j n) (sym i) h) (ap (λ (j : ℕ). is_aborted j c.steps) i ∙ none x n h)) (k.all x n h)) ∙ free))
      | inr g ↦ ne_eqb u x g
    ]

    hit : RestsOnNoAborted c t → (b : Bool) → has_end ds e ≡ b → IsFlag (with_steps c (Aborts u ∷ [])) t (cond b (Some u) None)
    hit none false free = none_later c (Aborts u) t (no_abort t u) (other none free) none
    hit none true had =
        let r = k.only e had in
        let is = its_id r.0 r.1 (none r.0 e r.1) in
        record {
          end' = e;
          rests = rests_later c (Aborts u) t u e (subst (λ (j : ℕ). RestsOn c t j e) is r.1);
          before = c.steps;
          after = [];
          then' = refl;
          first = λ z n q. none z n (rests_before c (Aborts u) t z n (no_abort t u) q);
        }

    go : (g : Option ℕ) → IsFlag c t g → IsFlag (with_steps c (Aborts u ∷ [])) t (aborted_dependency_after u e ds g)
    go None h = hit h (has_end ds e) refl
    go (Some v) h = first_later c (Aborts u) t v (no_abort t u) h
