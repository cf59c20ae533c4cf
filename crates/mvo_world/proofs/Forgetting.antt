-- When a trim is refused, by what happened to the core's own.
use Rattle.std.proofs.Common.{◌≡◌, ℕ, ◌+◌, ◌≤◌, ◌<◌, Bool, true, false, cond, not, List, [], ◌∷◌, ◌++◌, Option, None, Some, length, map, refl, sym, ap, ◌∙◌, subst, arith}
use Rattle.std.specs.Prelude.{◌==◌, nat_le, nat_lt, ◌&&◌}
use Rattle.std.specs.List.{AllByRecursion}
use Rattle.std.proofs.lemmas.Bool.{true≢false, false≢true, eqb-true, eq-eqb, and_parts, and_from, ltb-true, lt-ltb, leb-true, leb-false, le-leb}
use Rattle.mvo_model.specs.Trace.{Phase, phase_of}
use Rattle.mvo_model.specs.Trace.Phase.{Absent}
use Rattle.mvo_theory.specs.State.{State, ActiveTx, StampedTx, EndedTx, Outcome, active_of, preparing_of, ended_of}
use Rattle.mvo_theory.specs.State.Outcome.{Committed, Aborted}
use Rattle.mvo_theory.specs.Phases.{ended_as, phase_by, is_absent}
use Rattle.mvo_theory.specs.Marks.{oldest_begin, low_water, open_begins, least, least_open, below_open}
use Rattle.mvo_theory.specs.Sound.{IsPlaced}
use Rattle.mvo_theory.specs.Causes.{is_trim}
use Rattle.mvo_theory.specs.Calls.{IsKept}
use Rattle.mvo_theory.specs.Counted.{HasCounts}
use Rattle.mvo_theory.specs.Counts.{draws}
use Rattle.mvo_theory.specs.rests.Course.{Course, start_behind}
use Rattle.mvo_theory.specs.rests.Known.{KnowsRests}
use Rattle.mvo_theory.proofs.Each.{each_append, each_weaker}

absent_not : (p : Phase) → p ≡ Absent → is_absent p ≡ false → ⊥
absent_not p e f = true≢false (sym (ap is_absent e) ∙ f)

-- ---- the least of some numbers
least_up : (m n : ℕ) (xs : List ℕ) → m ≤ least n xs → (m ≤ n) × AllByRecursion (λ x. m ≤ x) xs
least_up m n [] h = (h, tt)
least_up m n (x ∷ xs) h = go (nat_le n x) refl (least_up m (cond (nat_le n x) n x) xs h)
  where
    go : (b : Bool) → nat_le n x ≡ b → (m ≤ cond b n x) × AllByRecursion (λ y. m ≤ y) xs → (m ≤ n) × ((m ≤ x) × AllByRecursion (λ y. m ≤ y) xs)
    go true e q = let a = q.0 in let b = leb-true n x e in (a, (omega arith, q.1))
    go false e q = let a = q.0 in let b = leb-false n x e in (omega arith, (a, q.1))

least_from : (m n : ℕ) (xs : List ℕ) → m ≤ n → AllByRecursion (λ x. m ≤ x) xs → m ≤ least n xs
least_from m n [] h a = h
least_from m n (x ∷ xs) h a = least_from m (cond (nat_le n x) n x) xs (go (nat_le n x)) a.1
  where
    go : (b : Bool) → m ≤ cond b n x
    go true = h
    go false = a.0

front : (m : ℕ) (xs ys : List ℕ) → AllByRecursion (λ x. m ≤ x) (xs ++ ys) → AllByRecursion (λ x. m ≤ x) xs × AllByRecursion (λ x. m ≤ x) ys
front m [] ys h = (tt, h)
front m (x ∷ xs) ys h = let r = front m xs ys h.1 in ((h.0, r.0), r.1)

-- ---- who began at or above a stamp, by where each stands
-- those that are found began there
active_none : (m : ℕ) (rs : List ActiveTx) → AllByRecursion (λ x. m ≤ x) (map (λ r. r.id) rs) → (t : ℕ) → t < m → active_of t rs ≡ None
active_none m [] h t lt = refl
active_none m (r ∷ rs) h t lt = go (r.id == t) refl (active_none m rs h.1 t lt)
  where
    go : (b : Bool) → (r.id == t) ≡ b → active_of t rs ≡ None → cond b (Some r) (active_of t rs) ≡ None
    go true e q = let a = eqb-true r.id t e in let l = h.0 in absurd (omega (arith, a, l, lt))
    go false e q = q

active_all : (m : ℕ) (rs : List ActiveTx) → ((t : ℕ) → t < m → active_of t rs ≡ None) → AllByRecursion (λ x. m ≤ x) (map (λ r. r.id) rs)
active_all m [] h = tt
active_all m (r ∷ rs) h = (here (nat_le m r.id) refl, active_all m rs (λ t lt. none_of t (r.id == t) (h t lt)))
  where
    none_of : (t : ℕ) (b : Bool) → cond b (Some r) (active_of t rs) ≡ None → active_of t rs ≡ None
    none_of t true e = absurd cc
    none_of t false e = e

    found : (b : Bool) → b ≡ true → cond b (Some r) (active_of r.id rs) ≡ None → ⊥
    found true e f = cc
    found false e f = false≢true e

    here : (b : Bool) → nat_le m r.id ≡ b → m ≤ r.id
    here true e = leb-true m r.id e
    here false e = absurd (found (r.id == r.id) (eq-eqb r.id r.id refl) (h r.id (leb-false m r.id e)))

preparing_none : (m : ℕ) (xs : List StampedTx) → AllByRecursion (λ x. m ≤ x) (open_begins xs) → (t : ℕ) → t < m → preparing_of t xs ≡ None
preparing_none m [] h t lt = refl
preparing_none m (x ∷ xs) h t lt = go x.settled refl h (preparing_none m xs)
  where
    both : (b : Bool) → (x.id == t) ≡ b → m ≤ x.id → cond (b && true) (Some x) (preparing_of t xs) ≡ preparing_of t xs
    both true e l = let a = eqb-true x.id t e in absurd (omega (arith, a, l, lt))
    both false e l = refl

    off : (b : Bool) → cond (b && false) (Some x) (preparing_of t xs) ≡ preparing_of t xs
    off true = refl
    off false = refl

    go : (s : Bool) → x.settled ≡ s → AllByRecursion (λ y. m ≤ y) (cond s (open_begins xs) (x.id ∷ open_begins xs)) → (AllByRecursion (λ y. m ≤ y) (open_begins xs) → (u : ℕ) → u < m → preparing_of u xs ≡ None) → cond ((x.id == t) && not x.settled) (Some x) (preparing_of t xs) ≡ None
    go true e g r = ap (λ (s : Bool). cond ((x.id == t) && not s) (Some x) (preparing_of t xs)) e ∙ off (x.id == t) ∙ r g t lt
    go false e g r = ap (λ (s : Bool). cond ((x.id == t) && not s) (Some x) (preparing_of t xs)) e ∙ both (x.id == t) refl g.0 ∙ r g.1 t lt

preparing_all : (m : ℕ) (xs : List StampedTx) → ((t : ℕ) → t < m → preparing_of t xs ≡ None) → AllByRecursion (λ x. m ≤ x) (open_begins xs)
preparing_all m [] h = tt
preparing_all m (x ∷ xs) h = go x.settled refl (preparing_all m xs (λ t lt. none_of t ((x.id == t) && not x.settled) (h t lt)))
  where
    none_of : (t : ℕ) (b : Bool) → cond b (Some x) (preparing_of t xs) ≡ None → preparing_of t xs ≡ None
    none_of t true e = absurd cc
    none_of t false e = e

    found : (b : Bool) → b ≡ true → cond b (Some x) (preparing_of x.id xs) ≡ None → ⊥
    found true e f = cc
    found false e f = false≢true e

    here : x.settled ≡ false → (b : Bool) → nat_le m x.id ≡ b → m ≤ x.id
    here o true e = leb-true m x.id e
    here o false e = absurd (found ((x.id == x.id) && not x.settled) (and_from (x.id == x.id) (not x.settled) (eq-eqb x.id x.id refl) (ap not o)) (h x.id (leb-false m x.id e)))

    go : (s : Bool) → x.settled ≡ s → AllByRecursion (λ y. m ≤ y) (open_begins xs) → AllByRecursion (λ y. m ≤ y) (cond s (open_begins xs) (x.id ∷ open_begins xs))
    go true e rest = rest
    go false e rest = (here e (nat_le m x.id) refl, rest)

ended_none : (m : ℕ) (us : List EndedTx) → AllByRecursion (λ x. m ≤ x) (map (λ u. u.id) us) → (t : ℕ) → t < m → ended_of t us ≡ None
ended_none m [] h t lt = refl
ended_none m (u ∷ us) h t lt = go (u.id == t) refl (ended_none m us h.1 t lt)
  where
    go : (b : Bool) → (u.id == t) ≡ b → ended_of t us ≡ None → cond b (Some u) (ended_of t us) ≡ None
    go true e q = let a = eqb-true u.id t e in let l = h.0 in absurd (omega (arith, a, l, lt))
    go false e q = q

ended_all : (m : ℕ) (us : List EndedTx) → ((t : ℕ) → t < m → ended_of t us ≡ None) → AllByRecursion (λ x. m ≤ x) (map (λ u. u.id) us)
ended_all m [] h = tt
ended_all m (u ∷ us) h = (here (nat_le m u.id) refl, ended_all m us (λ t lt. none_of t (u.id == t) (h t lt)))
  where
    none_of : (t : ℕ) (b : Bool) → cond b (Some u) (ended_of t us) ≡ None → ended_of t us ≡ None
    none_of t true e = absurd cc
    none_of t false e = e

    found : (b : Bool) → b ≡ true → cond b (Some u) (ended_of u.id us) ≡ None → ⊥
    found true e f = cc
    found false e f = false≢true e

    here : (b : Bool) → nat_le m u.id ≡ b → m ≤ u.id
    here true e = leb-true m u.id e
    here false e = absurd (found (u.id == u.id) (eq-eqb u.id u.id refl) (h u.id (leb-false m u.id e)))

-- it stands nowhere just where it is Absent
nowhere : (r : Option ActiveTx) (x : Option StampedTx) (u : Option EndedTx) → phase_by r x u ≡ Absent → (r ≡ None) × (x ≡ None) × (u ≡ None)
nowhere None None None e = (refl, refl, refl)
nowhere (Some r) x u e = absurd (absent_not (phase_by (Some r) x u) e refl)
nowhere None (Some x) u e = absurd (absent_not (phase_by None (Some x) u) e refl)
nowhere None None (Some u) e = absurd (absent_not (ended_as u.outcome) e (so u.outcome))
  where
    so : (o : Outcome) → is_absent (ended_as o) ≡ false
    so (Committed n) = refl
    so Aborted = refl

absent_by : (r : Option ActiveTx) (x : Option StampedTx) (u : Option EndedTx) → r ≡ None → x ≡ None → u ≡ None → phase_by r x u ≡ Absent
absent_by r x u a b c = cc

-- ---- the low-water isn't below a stamp that is at or below each begin
low_from : (m clock : ℕ) (xs : List StampedTx) → m ≤ clock → AllByRecursion (λ x. m ≤ x) (open_begins xs) → AllByRecursion (λ x. x.id < x.end) xs → m ≤ below_open clock (least_open xs)
low_from m clock [] c h b = c
low_from m clock (x ∷ xs) c h b = go x.settled h (low_from m clock xs c)
  where
    go : (s : Bool) → AllByRecursion (λ y. m ≤ y) (cond s (open_begins xs) (x.id ∷ open_begins xs)) → (AllByRecursion (λ y. m ≤ y) (open_begins xs) → AllByRecursion (λ y. y.id < y.end) xs → m ≤ below_open clock (least_open xs)) → m ≤ below_open clock (cond s (least_open xs) (Some x.end))
    go true g r = r g b.1
    go false g r = let l = g.0 in let e = b.0 in omega (arith, l, e)

-- so may the core's own tale be trimmed, by what happened: as `MayTrim` without read-only ones
pub record MayTrimOwn (c : Course) (stamp : ℕ) : Type 0 where
  pub above : start_behind c.mark c.trims (length c.steps) < stamp
  pub drawn : stamp ≤ c.mark + draws c.steps
  pub finished : (t : ℕ) → t < stamp → phase_of t c.steps ≡ Absent

module _ (p : Course) (s : State) (kept : IsKept p.rows p.steps s) (counted : HasCounts p.mark p.steps s) (rests : KnowsRests p s) (m : ℕ) where
  pub may_be : is_trim s m ≡ true → MayTrimOwn p m
  may_be e =
      let parts = and_parts (nat_lt s.start m) (nat_le m (oldest_begin s) && nat_le m (low_water s)) e in
      let rest = and_parts (nat_le m (oldest_begin s)) (nat_le m (low_water s)) parts.1 in
      let up = least_up m s.clock (map (λ (r : ActiveTx). r.id) s.active ++ (open_begins s.stamped ++ map (λ (u : EndedTx). u.id) s.ended)) (leb-true m (oldest_begin s) rest.0) in
      let first = front m (map (λ (r : ActiveTx). r.id) s.active) (open_begins s.stamped ++ map (λ (u : EndedTx). u.id) s.ended) up.1 in
      let others = front m (open_begins s.stamped) (map (λ (u : EndedTx). u.id) s.ended) first.1 in
      record {
        above = subst (λ (n : ℕ). n < m) (sym rests.start) (ltb-true s.start m parts.0);
        drawn = subst (λ (n : ℕ). m ≤ n) counted.clock up.0;
        finished = λ t lt. kept.after_trace.phases t ∙ absent_by (active_of t s.active) (preparing_of t s.stamped) (ended_of t s.ended) (active_none m s.active first.0 t lt) (preparing_none m s.stamped others.0 t lt) (ended_none m s.ended others.1 t lt);
      }

  pub may : MayTrimOwn p m → is_trim s m ≡ true
  may h =
      let none : (t : ℕ) → t < m → (active_of t s.active ≡ None) × (preparing_of t s.stamped ≡ None) × (ended_of t s.ended ≡ None) = λ t lt. nowhere (active_of t s.active) (preparing_of t s.stamped) (ended_of t s.ended) (sym (kept.after_trace.phases t) ∙ h.finished t lt) in
      let drawn : m ≤ s.clock = subst (λ (n : ℕ). m ≤ n) (sym counted.clock) h.drawn in
      let begins = preparing_all m s.stamped (λ t lt. (none t lt).1) in
      let all = each_append (λ x. m ≤ x) (map (λ (r : ActiveTx). r.id) s.active) (open_begins s.stamped ++ map (λ (u : EndedTx). u.id) s.ended) (active_all m s.active (λ t lt. (none t lt).0))
      (each_append (λ x. m ≤ x) (open_begins s.stamped) (map (λ (u : EndedTx). u.id) s.ended) begins (ended_all m s.ended (λ t lt. (none t lt).2))) in
      and_from (nat_lt s.start m) (nat_le m (oldest_begin s) && nat_le m (low_water s)) (lt-ltb s.start m (subst (λ (n : ℕ). n < m) rests.start h.above))
      (and_from (nat_le m (oldest_begin s)) (nat_le m (low_water s)) (le-leb m (oldest_begin s) (least_from m s.clock (map (λ (r : ActiveTx). r.id) s.active ++ (open_begins s.stamped ++ map (λ (u : EndedTx). u.id) s.ended)) drawn all))
      (le-leb m (low_water s) (low_from m s.clock s.stamped drawn begins (each_weaker (IsPlaced s.stamped s.clock) (λ x. x.id < x.end) (λ x g. g.begun) s.stamped kept.sound.placed))))
