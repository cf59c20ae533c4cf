-- What the state keeps of dependencies is what the trace says: each call keeps that.
use Rattle.std.proofs.Common.{◌≡◌, ℕ, ◌<◌, ◌≤◌, Bool, true, false, cond, not, ◌||◌, List, [], ◌∷◌, ◌++◌, Option, None, Some, map, refl, sym, ap, ◌∙◌, subst, inl, inr, arith, append_assoc}
use Rattle.std.specs.Prelude.{◌==◌}
use Rattle.std.specs.List.{AllByRecursion, filter}
use Rattle.std.proofs.lemmas.Bool.{false≢true, true≢false, eqb-true, eq-eqb}
use Rattle.mvo_types.specs.declared.op.Op.{Op}
use Rattle.mvo_types.specs.Keys.{Map}
use Rattle.mvo_types.specs.AnswerData.{AnswerData}
use Rattle.mvo_model.specs.Trace.{Step}
use Rattle.mvo_model.specs.Trace.Step.{Answers, Aborts}
use Rattle.mvo_theory.specs.State.{State, StampedTx, ActiveTx, opened, active_of}
use Rattle.mvo_theory.specs.Dependencies.{has_end, dependencies}
use Rattle.mvo_theory.specs.Changes.{new_active, after_begin, after_operation, with_answer, after_prepare, to_stamped, after_check, with_check, after_commit, with_settled, aborted_dependency_after, with_flag, active_with_flag, not_at, after_abort_of_active, after_abort_of_preparing, after_termination, is_to, after_trim}
use Rattle.mvo_theory.specs.Sound.{IsRising, IsActive, IsPreparing, IsSound, IsStarted, IsSingle}
use Rattle.mvo_theory.specs.AfterTrace.{IsAfterTrace}
use Rattle.mvo_theory.specs.Traced.{DependsOn, is_abort_of, HasAbortedDependency, IsDependency, IsTraced, AreTraced}
use Rattle.mvo_theory.proofs.Each.{each_weaker, each_both, each_append, each_map, each_filter}
use Rattle.mvo_theory.proofs.Footprints.{or_left, or_right, any_left, any_right}
use Rattle.mvo_theory.proofs.Stamped.{each_part}
use Rattle.mvo_theory.proofs.Apart.{IsIn}
use Rattle.mvo_theory.proofs.Exact.{depends_only}
use Rattle.mvo_theory.proofs.LastWriter.{last_is}
use Rattle.mvo_theory.proofs.Deciding.{deciding_in_trace}

-- ---- as the trace goes on
depends_later : (opening : Map) (xs ys : List Step) (t x e : ℕ) → DependsOn opening xs t x e → DependsOn opening (xs ++ ys) t x e
depends_later opening xs ys t x e h = record {
  before = h.before;
  op = h.op;
  answer = h.answer;
  after = h.after ++ ys;
  then' = ap (λ zs. zs ++ ys) h.then' ∙ append_assoc h.before (Answers t h.op h.answer ∷ h.after) ys;
  key = h.key;
  looked = h.looked;
  unwritten = h.unwritten;
  writer = h.writer;
}

flagged_later : (opening : Map) (xs ys : List Step) (t u : ℕ) → HasAbortedDependency opening xs t u → HasAbortedDependency opening (xs ++ ys) t u
flagged_later opening xs ys t u h = record { end' = h.end'; depends = depends_later opening xs ys t u h.end' h.depends; aborted = any_left (is_abort_of u) xs ys h.aborted }

-- what is asked of the stamped ones
abbrev IsOne : ℕ → ℕ → StampedTx → Type 0
IsOne d x y = y.end ≡ d → y.id ≡ x

dependency_later : (opening : Map) (xs ys : List Step) (l l' : List StampedTx) (t d : ℕ) → ((x : ℕ) → AllByRecursion (IsOne d x) l → AllByRecursion (IsOne d x) l') → IsDependency opening xs l t d → IsDependency opening (xs ++ ys) l' t d
dependency_later opening xs ys l l' t d f h = record { id = h.id; depends = depends_later opening xs ys t h.id d h.depends; one = f h.id h.one }

traced_later : (opening : Map) (xs ys : List Step) (l l' : List StampedTx) (t : ℕ) (ds : List ℕ) (aborted_dependency : Option ℕ) → AllByRecursion (λ d. d < t) ds → ((d x : ℕ) → d < t → AllByRecursion (IsOne d x) l → AllByRecursion (IsOne d x) l') → IsTraced opening xs l t ds aborted_dependency → IsTraced opening (xs ++ ys) l' t ds aborted_dependency
traced_later opening xs ys l l' t ds aborted_dependency b f h = record {
  depends = each_both (λ d. d < t) (IsDependency opening xs l t) (IsDependency opening (xs ++ ys) l' t) (λ d lt q. dependency_later opening xs ys l l' t d (λ x. f d x lt) q) ds b h.depends;
  flagged = λ u e. flagged_later opening xs ys t u (h.flagged u e);
}

abbrev IsKeptIn : List StampedTx → List StampedTx → ℕ → Type 0
IsKeptIn l l' n = (d x : ℕ) → d < n → AllByRecursion (IsOne d x) l → AllByRecursion (IsOne d x) l'

kept_map : (f : StampedTx → StampedTx) → ((y : StampedTx) → ((f y).end ≡ y.end) × ((f y).id ≡ y.id)) → (l : List StampedTx) (n : ℕ) → IsKeptIn l (map f l) n
kept_map f k l n d x lt h = each_map f (IsOne d x) (IsOne d x) (λ y g e. (k y).1 ∙ g (sym (k y).0 ∙ e)) l h

kept_filter : (p : StampedTx → Bool) (l : List StampedTx) (n : ℕ) → IsKeptIn l (filter p l) n
kept_filter p l n d x lt h = each_part p (IsOne d x) l h

kept_last : (l : List StampedTx) (y : StampedTx) (n : ℕ) → n ≤ y.end → IsKeptIn l (l ++ y ∷ []) n
kept_last l y n le d x lt h = each_append (IsOne d x) l (y ∷ []) h ((λ e. absurd (omega arith)), tt)

-- the Active ones, through a change of the stamped ones
active_later : (opening : Map) (xs ys : List Step) (s : State) (l' : List StampedTx) → IsSound s → ((n : ℕ) → n ≤ s.clock → IsKeptIn s.stamped l' n) → AreTraced opening xs s → AllByRecursion (λ r. IsTraced opening (xs ++ ys) l' r.id r.depends_on r.aborted_dependency) s.active
active_later opening xs ys s l' k f h = each_both (IsActive s.base s.stamped s.clock) (λ r. IsTraced opening xs s.stamped r.id r.depends_on r.aborted_dependency) (λ r. IsTraced opening (xs ++ ys) l' r.id r.depends_on r.aborted_dependency)
    (λ r a q. traced_later opening xs ys s.stamped l' r.id r.depends_on r.aborted_dependency a.below (f r.id a.drawn) q) s.active k.active h.active

abbrev IsOpenTraced : Map → List Step → List StampedTx → StampedTx → Type 0
IsOpenTraced opening xs l x = x.settled ≡ false → IsTraced opening xs l x.id x.depends_on x.aborted_dependency

drawn_begin : (s : State) → IsSound s → AllByRecursion (λ x. x.id ≤ s.clock) s.stamped
drawn_begin s k = each_weaker _ (λ x. x.id ≤ s.clock) (λ x p. let b = p.begun in let d = p.drawn in omega arith) s.stamped k.placed

preparing_later : (opening : Map) (xs ys : List Step) (s : State) (l' : List StampedTx) → IsSound s → ((n : ℕ) → n ≤ s.clock → IsKeptIn s.stamped l' n) → AreTraced opening xs s → AllByRecursion (IsOpenTraced opening (xs ++ ys) l') s.stamped
preparing_later opening xs ys s l' k f h = each_both (λ x. x.id ≤ s.clock) (λ x. (x.settled ≡ false → IsPreparing s.base s.stamped x) × IsOpenTraced opening xs s.stamped x) (IsOpenTraced opening (xs ++ ys) l')
    (λ x le q o. traced_later opening xs ys s.stamped l' x.id x.depends_on x.aborted_dependency (q.0 o).below (f x.id le) (q.1 o)) s.stamped (drawn_begin s k)
    (each_both (λ x. x.settled ≡ false → IsPreparing s.base s.stamped x) (IsOpenTraced opening xs s.stamped) (λ x. (x.settled ≡ false → IsPreparing s.base s.stamped x) × IsOpenTraced opening xs s.stamped x) (λ x a b. (a, b)) s.stamped k.preparing h.preparing)

same_kept : (l : List StampedTx) (n : ℕ) → IsKeptIn l l n
same_kept l n d x lt h = h

-- ---- the steps that add none
pub traced_opened : (rows : Map) (mark : ℕ) → AreTraced rows [] (opened rows mark)
traced_opened rows mark = record { active = tt; preparing = tt }

none_some : (u : ℕ) → ◌≡◌ {A = Option ℕ} None (Some u) → ⊥
none_some u e = cc

pub traced_after_begin : (opening : Map) (xs ys : List Step) (s : State) (t : ℕ) → IsSound s → AreTraced opening xs s → AreTraced opening (xs ++ ys) (after_begin s t)
traced_after_begin opening xs ys s t k h = record {
  active = each_append (λ r. IsTraced opening (xs ++ ys) s.stamped r.id r.depends_on r.aborted_dependency) s.active (new_active t ∷ []) (active_later opening xs ys s s.stamped k (λ n le. same_kept s.stamped n) h) (record { depends = tt; flagged = λ u e. absurd (none_some u e) }, tt);
  preparing = preparing_later opening xs ys s s.stamped k (λ n le. same_kept s.stamped n) h;
}

pub traced_after_prepare : (opening : Map) (xs ys : List Step) (s : State) (r : ActiveTx) (e : ℕ) → s.clock < e → IsActive s.base s.stamped s.clock r → IsTraced opening xs s.stamped r.id r.depends_on r.aborted_dependency → IsSound s → AreTraced opening xs s → AreTraced opening (xs ++ ys) (after_prepare s r e)
traced_after_prepare opening xs ys s r e lt a mine k h =
    let l' = s.stamped ++ to_stamped e r ∷ [] in
    let f : (n : ℕ) → n ≤ s.clock → IsKeptIn s.stamped l' n = λ n le. kept_last s.stamped (to_stamped e r) n (omega arith) in
    record {
      active = each_filter (λ q. not (q.id == r.id)) (λ q. IsTraced opening (xs ++ ys) l' q.id q.depends_on q.aborted_dependency) (λ q. IsTraced opening (xs ++ ys) l' q.id q.depends_on q.aborted_dependency) (λ q _ g. g) s.active (active_later opening xs ys s l' k f h);
      preparing = each_append (IsOpenTraced opening (xs ++ ys) l') s.stamped (to_stamped e r ∷ []) (preparing_later opening xs ys s l' k f h)
          ((λ _. traced_later opening xs ys s.stamped l' r.id r.depends_on r.aborted_dependency a.below (f r.id a.drawn) mine), tt);
    }

pub traced_after_check : (opening : Map) (xs ys : List Step) (s : State) (e : ℕ) (v : Bool) → IsSound s → AreTraced opening xs s → AreTraced opening (xs ++ ys) (after_check s e v)
traced_after_check opening xs ys s e v k h =
    let f : (n : ℕ) → n ≤ s.clock → IsKeptIn s.stamped (map (with_check e v) s.stamped) n = λ n le. kept_map (with_check e v) (λ y. (refl, refl)) s.stamped n in
    record {
      active = active_later opening xs ys s (map (with_check e v) s.stamped) k f h;
      preparing = each_map (with_check e v) (IsOpenTraced opening (xs ++ ys) (map (with_check e v) s.stamped)) (IsOpenTraced opening (xs ++ ys) (map (with_check e v) s.stamped)) (λ x q. q) s.stamped (preparing_later opening xs ys s (map (with_check e v) s.stamped) k f h);
    }

pub still_open : (a b : Bool) → (a || b) ≡ false → a ≡ false
still_open true b h = absurd (true≢false h)
still_open false b h = refl

pub traced_after_commit : (opening : Map) (xs ys : List Step) (s : State) (t e : ℕ) → IsSound s → AreTraced opening xs s → AreTraced opening (xs ++ ys) (after_commit s t e)
traced_after_commit opening xs ys s t e k h =
    let l' = map (with_settled e) s.stamped in
    let f : (n : ℕ) → n ≤ s.clock → IsKeptIn s.stamped l' n = λ n le. kept_map (with_settled e) (λ y. (refl, refl)) s.stamped n in
    record {
      active = active_later opening xs ys s l' k f h;
      preparing = each_map (with_settled e) (IsOpenTraced opening (xs ++ ys) l') (IsOpenTraced opening (xs ++ ys) l') (λ x q o. q (still_open x.settled (x.end == e) o)) s.stamped (preparing_later opening xs ys s l' k f h);
    }

pub traced_after_abort_of_active : (opening : Map) (xs ys : List Step) (s : State) (t : ℕ) → IsSound s → AreTraced opening xs s → AreTraced opening (xs ++ ys) (after_abort_of_active s t)
traced_after_abort_of_active opening xs ys s t k h =
    let q = active_later opening xs ys s s.stamped k (λ n le. same_kept s.stamped n) h in
    record {
      active = each_filter (λ r. not (r.id == t)) (λ r. IsTraced opening (xs ++ ys) s.stamped r.id r.depends_on r.aborted_dependency) (λ r. IsTraced opening (xs ++ ys) s.stamped r.id r.depends_on r.aborted_dependency) (λ r _ g. g) s.active q;
      preparing = preparing_later opening xs ys s s.stamped k (λ n le. same_kept s.stamped n) h;
    }

pub traced_same : (opening : Map) (xs ys : List Step) (s : State) → IsSound s → AreTraced opening xs s → AreTraced opening (xs ++ ys) s
traced_same opening xs ys s k h = record {
  active = active_later opening xs ys s s.stamped k (λ n le. same_kept s.stamped n) h;
  preparing = preparing_later opening xs ys s s.stamped k (λ n le. same_kept s.stamped n) h;
}

pub traced_after_termination : (opening : Map) (xs ys : List Step) (s : State) (t : ℕ) → IsSound s → AreTraced opening xs s → AreTraced opening (xs ++ ys) (after_termination s t)
traced_after_termination opening xs ys s t k h = record {
  active = active_later opening xs ys s s.stamped k (λ n le. same_kept s.stamped n) h;
  preparing = preparing_later opening xs ys s s.stamped k (λ n le. same_kept s.stamped n) h;
}

pub traced_after_trim : (opening : Map) (xs ys : List Step) (s : State) (m : ℕ) → IsSound s → AreTraced opening xs s → AreTraced opening (xs ++ ys) (after_trim s m)
traced_after_trim opening xs ys s m k h =
    let l' = filter (λ x. not (is_to m x)) s.stamped in
    let f : (n : ℕ) → n ≤ s.clock → IsKeptIn s.stamped l' n = λ n le. kept_filter (λ x. not (is_to m x)) s.stamped n in
    record {
      active = active_later opening xs ys s l' k f h;
      preparing = each_part (λ x. not (is_to m x)) (IsOpenTraced opening (xs ++ ys) l') s.stamped (preparing_later opening xs ys s l' k f h);
    }

-- ---- an abort flags with the one that is aborted
some_same : (u v : ℕ) → ◌≡◌ {A = Option ℕ} (Some u) (Some v) → u ≡ v
some_same u v e = cc

pub has_it : (P : ℕ → Type 0) (ds : List ℕ) (e : ℕ) → AllByRecursion P ds → has_end ds e ≡ true → P e
has_it P [] e h f = absurd (false≢true f)
has_it P (d ∷ ds) e h f = go (d == e) refl f (λ g. has_it P ds e h.1 g)
  where
    go : (b : Bool) → (d == e) ≡ b → (b || has_end ds e) ≡ true → (has_end ds e ≡ true → P e) → P e
    go true i g r = subst P (eqb-true d e i) h.0
    go false i g r = r g

traced_flag : (opening : Map) (xs : List Step) (l l' : List StampedTx) (t e id : ℕ) (ds : List ℕ) (aborted_dependency : Option ℕ) (x : StampedTx) → IsIn x l → x.end ≡ e → x.id ≡ t → IsTraced opening xs l id ds aborted_dependency → IsTraced opening (xs ++ Aborts t ∷ []) l' id ds aborted_dependency → IsTraced opening (xs ++ Aborts t ∷ []) l' id ds (aborted_dependency_after t e ds aborted_dependency)
traced_flag opening xs l l' t e id ds (Some u) x m ie it h k = record { depends = k.depends; flagged = k.flagged }
traced_flag opening xs l l' t e id ds None x m ie it h k = record { depends = k.depends; flagged = λ u g. go (has_end ds e) refl u g }
  where
    by_it : has_end ds e ≡ true → HasAbortedDependency opening (xs ++ Aborts t ∷ []) id t
    by_it f =
        let d = has_it (IsDependency opening xs l id) ds e h.depends f in
        let same : t ≡ d.id = sym it ∙ m (IsOne e d.id) d.one ie in
        record {
          end' = e;
          depends = subst (λ (y : ℕ). DependsOn opening (xs ++ Aborts t ∷ []) id y e) (sym same) (depends_later opening xs (Aborts t ∷ []) id d.id e d.depends);
          aborted = any_right (is_abort_of t) xs (Aborts t ∷ []) (or_left (t == t) false (eq-eqb t t refl));
        }

    go : (b : Bool) → has_end ds e ≡ b → (u : ℕ) → cond b (Some t) None ≡ Some u → HasAbortedDependency opening (xs ++ Aborts t ∷ []) id u
    go true f u g = subst (HasAbortedDependency opening (xs ++ Aborts t ∷ []) id) (some_same t u g) (by_it f)
    go false f u g = absurd (none_some u g)

pub traced_after_abort_of_preparing : (opening : Map) (xs : List Step) (s : State) (t : ℕ) (x : StampedTx) → IsIn x s.stamped → x.id ≡ t → IsSound s → AreTraced opening xs s → AreTraced opening (xs ++ Aborts t ∷ []) (after_abort_of_preparing s t x.end)
traced_after_abort_of_preparing opening xs s t x m it k h =
    let e = x.end in
    let ys = Aborts t ∷ [] in
    let l' = map (with_flag t e) (filter (not_at e) s.stamped) in
    let f : (n : ℕ) → n ≤ s.clock → IsKeptIn s.stamped l' n = λ n le d z lt q. kept_map (with_flag t e) (λ y. (refl, refl)) (filter (not_at e) s.stamped) n d z lt (kept_filter (not_at e) s.stamped n d z lt q) in
    record {
      active = each_map (active_with_flag t e) (λ r. IsTraced opening xs s.stamped r.id r.depends_on r.aborted_dependency × IsTraced opening (xs ++ ys) l' r.id r.depends_on r.aborted_dependency) (λ r. IsTraced opening (xs ++ ys) l' r.id r.depends_on r.aborted_dependency)
          (λ r q. traced_flag opening xs s.stamped l' t e r.id r.depends_on r.aborted_dependency x m refl it q.0 q.1) s.active
          (each_both (λ r. IsTraced opening xs s.stamped r.id r.depends_on r.aborted_dependency) (λ r. IsTraced opening (xs ++ ys) l' r.id r.depends_on r.aborted_dependency) (λ r. IsTraced opening xs s.stamped r.id r.depends_on r.aborted_dependency × IsTraced opening (xs ++ ys) l' r.id r.depends_on r.aborted_dependency) (λ r a b. (a, b)) s.active h.active (active_later opening xs ys s l' k f h));
      preparing = each_map (with_flag t e) (λ y. IsOpenTraced opening xs s.stamped y × IsOpenTraced opening (xs ++ ys) l' y) (IsOpenTraced opening (xs ++ ys) l')
          (λ y q o. traced_flag opening xs s.stamped l' t e y.id y.depends_on y.aborted_dependency x m refl it (q.0 o) (q.1 o)) (filter (not_at e) s.stamped)
          (each_part (not_at e) (λ y. IsOpenTraced opening xs s.stamped y × IsOpenTraced opening (xs ++ ys) l' y) s.stamped
          (each_both (IsOpenTraced opening xs s.stamped) (IsOpenTraced opening (xs ++ ys) l') (λ y. IsOpenTraced opening xs s.stamped y × IsOpenTraced opening (xs ++ ys) l' y) (λ y a b. (a, b)) s.stamped h.preparing (preparing_later opening xs ys s l' k f h)));
    }

-- ---- an operation adds those that decide what it looks at
each_has : (P : ℕ → Type 0) (ds : List ℕ) → ((d : ℕ) → has_end ds d ≡ true → P d) → AllByRecursion P ds
each_has P [] f = tt
each_has P (d ∷ ds) f = (f d (or_left (d == d) (has_end ds d) (eq-eqb d d refl)), each_has P ds (λ e h. f e (or_right (d == e) (has_end ds e) h)))

pub ends_differ : (xs : List StampedTx) → IsRising xs → AllByRecursion (λ x. AllByRecursion (λ y. y.end ≡ x.end → y.id ≡ x.id) xs) xs
ends_differ [] r = tt
ends_differ (x ∷ xs) r = (
  (λ _. refl, each_weaker (λ y. x.end < y.end) (λ y. y.end ≡ x.end → y.id ≡ x.id) (λ y l e. absurd (omega arith)) xs r.0),
  each_both (λ y. x.end < y.end) (λ z. AllByRecursion (λ y. y.end ≡ z.end → y.id ≡ z.id) xs) (λ z. (x.end ≡ z.end → x.id ≡ z.id) × AllByRecursion (λ y. y.end ≡ z.end → y.id ≡ z.id) xs) (λ z l q. ((λ e. absurd (omega arith)), q)) xs r.0 (ends_differ xs r.1),
)

one_more : (opening : Map) (xs : List Step) (s : State) (t : ℕ) (op : Op) (a : AnswerData) (r : ActiveTx) (d : ℕ) → active_of t s.active ≡ Some r → IsSound s → IsSingle s → IsStarted s → IsAfterTrace opening xs s → IsTraced opening xs s.stamped t r.depends_on r.aborted_dependency → has_end (dependencies s op r) d ≡ true → IsDependency opening (xs ++ Answers t op a ∷ []) s.stamped t d
one_more opening xs s t op a r d f k n p st h g = elim (depends_only s op r d g) [
  | inl old ↦ dependency_later opening xs (Answers t op a ∷ []) s.stamped s.stamped t d (λ x q. q) (has_it (IsDependency opening xs s.stamped t) r.depends_on d h.depends old)
  | inr new ↦ (
      let added = deciding_in_trace opening xs s t op r d f k n p st new in
      let alone = last_is new.key r.id s.stamped new.writer new.last (λ x. AllByRecursion (λ y. y.end ≡ x.end → y.id ≡ x.id) s.stamped) (ends_differ s.stamped k.rising) in
      record {
        id = new.writer.id;
        depends = record { before = xs; op = op; answer = a; after = []; then' = refl; key = added.key; looked = added.looked; unwritten = added.unwritten; writer = added.writer };
        one = subst (λ (e : ℕ). AllByRecursion (λ y. y.end ≡ e → y.id ≡ new.writer.id) s.stamped) new.ends alone;
      })
]

history_traced : (opening : Map) (xs : List Step) (s : State) (t : ℕ) (op : Op) (a : AnswerData) (r q : ActiveTx) (b : Bool) → (q.id == t) ≡ b → (q.id ≡ t → q ≡ r) → active_of t s.active ≡ Some r → IsSound s → IsSingle s → IsStarted s → IsAfterTrace opening xs s →
    IsTraced opening xs s.stamped q.id q.depends_on q.aborted_dependency → IsTraced opening (xs ++ Answers t op a ∷ []) s.stamped q.id q.depends_on q.aborted_dependency → IsTraced opening (xs ++ Answers t op a ∷ []) s.stamped q.id (cond b (dependencies s op q) q.depends_on) q.aborted_dependency
history_traced opening xs s t op a r q false e is f k n p st h g = record { depends = g.depends; flagged = g.flagged }
history_traced opening xs s t op a r q true e is f k n p st h g =
    let same = eqb-true q.id t e in
    let mine : active_of t s.active ≡ Some q = f ∙ ap (λ (v : ActiveTx). Some v) (sym (is same)) in
    record {
      depends = subst (λ (i : ℕ). AllByRecursion (IsDependency opening (xs ++ Answers t op a ∷ []) s.stamped i) (dependencies s op q)) (sym same)
          (each_has (IsDependency opening (xs ++ Answers t op a ∷ []) s.stamped t) (dependencies s op q) (λ d has_it. one_more opening xs s t op a q d mine k n p st (subst (λ (i : ℕ). IsTraced opening xs s.stamped i q.depends_on q.aborted_dependency) same h) has_it));
      flagged = g.flagged;
    }

pub traced_after_operation : (opening : Map) (xs : List Step) (s : State) (t : ℕ) (op : Op) (a : AnswerData) (r : ActiveTx) → active_of t s.active ≡ Some r → AllByRecursion (λ (q : ActiveTx). q.id ≡ t → q ≡ r) s.active → IsSound s → IsSingle s → IsStarted s → IsAfterTrace opening xs s → AreTraced opening xs s → AreTraced opening (xs ++ Answers t op a ∷ []) (after_operation s t op a)
traced_after_operation opening xs s t op a r f only k n p st h =
    let ys = Answers t op a ∷ [] in
    let later = active_later opening xs ys s s.stamped k (λ m le. same_kept s.stamped m) h in
    record {
      active = each_map (with_answer s t op a) (λ q. (q.id ≡ t → q ≡ r) × (IsTraced opening xs s.stamped q.id q.depends_on q.aborted_dependency × IsTraced opening (xs ++ ys) s.stamped q.id q.depends_on q.aborted_dependency)) (λ q. IsTraced opening (xs ++ ys) s.stamped q.id q.depends_on q.aborted_dependency)
          (λ q w. history_traced opening xs s t op a r q (q.id == t) refl w.0 f k n p st w.1.0 w.1.1) s.active
          (each_both (λ (q : ActiveTx). q.id ≡ t → q ≡ r) (λ q. IsTraced opening xs s.stamped q.id q.depends_on q.aborted_dependency × IsTraced opening (xs ++ ys) s.stamped q.id q.depends_on q.aborted_dependency) (λ q. (q.id ≡ t → q ≡ r) × (IsTraced opening xs s.stamped q.id q.depends_on q.aborted_dependency × IsTraced opening (xs ++ ys) s.stamped q.id q.depends_on q.aborted_dependency)) (λ q u v. (u, v)) s.active only
          (each_both (λ q. IsTraced opening xs s.stamped q.id q.depends_on q.aborted_dependency) (λ q. IsTraced opening (xs ++ ys) s.stamped q.id q.depends_on q.aborted_dependency) (λ q. IsTraced opening xs s.stamped q.id q.depends_on q.aborted_dependency × IsTraced opening (xs ++ ys) s.stamped q.id q.depends_on q.aborted_dependency) (λ q u v. (u, v)) s.active h.active later));
      preparing = preparing_later opening xs ys s s.stamped k (λ m le. same_kept s.stamped m) h;
    }
