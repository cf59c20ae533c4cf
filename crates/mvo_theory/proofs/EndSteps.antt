-- Those with an end in the state are those of the trace: each step keeps that.
use Rattle.std.proofs.Common.{◌≡◌, ◌≢◌, ℕ, ◌<◌, ◌≤◌, Bool, true, false, cond, not, ◌||◌, List, [], ◌∷◌, ◌++◌, map, refl, sym, ap, ◌∙◌, subst, arith, append_assoc, append-nil}
use Rattle.std.specs.Prelude.{◌==◌}
use Rattle.std.specs.List.{AllByRecursion, filter}
use Rattle.std.proofs.lemmas.Bool.{false≢true, true≢false, eqb-true, eq-eqb, ne_eqb}
use Rattle.std.proofs.lemmas.List.{map-append}
use Rattle.std.proofs.lemmas.List.Folds.{list_any-append}
use Rattle.mvo_types.specs.declared.op.Op.{Op}
use Rattle.mvo_types.specs.Keys.{Map}
use Rattle.mvo_types.specs.AnswerData.{AnswerData}
use Rattle.mvo_model.specs.Trace.{Step}
use Rattle.mvo_model.specs.Trace.Step.{Begins, Answers, Prepares, Checks, Commits, Aborts, Terminates}
use Rattle.mvo_theory.specs.State.{State, StampedTx, ActiveTx, timeline, opened}
use Rattle.mvo_theory.specs.Changes.{new_active, after_begin, after_operation, with_answer, after_prepare, to_stamped, after_check, with_check, after_commit, with_settled, with_flag, active_with_flag, not_at, after_abort_of_active, after_abort_of_preparing, after_termination, is_to, after_trim}
use Rattle.mvo_theory.specs.Sound.{IsActive, IsPlaced, IsSound, IsPast, IsStarted, IsNumbered}
use Rattle.mvo_theory.specs.Traced.{is_abort_of}
use Rattle.mvo_theory.specs.Snapshots.{prepare_of, prepares, is_aborted, ended_in, ends_with_ids, HasEnds}
use Rattle.mvo_theory.proofs.Each.{each_weaker, each_both, each_append, each_map, each_filter}
use Rattle.mvo_theory.proofs.Stamped.{each_part}
use Rattle.mvo_theory.proofs.Apart.{IsIn}
use Rattle.mvo_theory.proofs.Trim.{timeline_trimmed}
use Rattle.mvo_theory.proofs.Traced.{ends_differ}

prepares-push : (xs : List Step) (x : Step) → prepares (xs ++ x ∷ []) ≡ prepares xs ++ prepare_of x
prepares-push [] x = append-nil (prepare_of x)
prepares-push (y ∷ ys) x = ap (λ cs. prepare_of y ++ cs) (prepares-push ys x) ∙ sym (append_assoc (prepare_of y) (prepares ys) (prepare_of x))

pub or_none : (b : Bool) → (b || false) ≡ b
or_none true = refl
or_none false = refl

aborted-push : (t : ℕ) (xs : List Step) (x : Step) → is_aborted t (xs ++ x ∷ []) ≡ (is_aborted t xs || is_abort_of t x)
aborted-push t xs x = list_any-append (is_abort_of t) xs (x ∷ []) ∙ ap (λ b. is_aborted t xs || b) (or_none (is_abort_of t x))

pub filter_same : {X : Type 0} (p q : X → Bool) (xs : List X) → AllByRecursion (λ x. p x ≡ q x) xs → filter p xs ≡ filter q xs
filter_same p q [] h = refl
filter_same p q (x ∷ xs) h = ap (λ (b : Bool). cond b (x ∷ filter p xs) (filter p xs)) h.0 ∙ ap (λ ys. cond (q x) (x ∷ ys) ys) (filter_same p q xs h.1)

filter-both : {X : Type 0} (p : X → Bool) (xs ys : List X) → filter p (xs ++ ys) ≡ filter p xs ++ filter p ys
filter-both p [] ys = refl
filter-both p (x ∷ xs) ys = go (p x) (filter-both p xs ys)
  where
    go : (b : Bool) → filter p (xs ++ ys) ≡ filter p xs ++ filter p ys → cond b (x ∷ filter p (xs ++ ys)) (filter p (xs ++ ys)) ≡ cond b (x ∷ filter p xs) (filter p xs) ++ filter p ys
    go true e = ap (λ zs. x ∷ zs) e
    go false e = e

each_always_in : {X : Type 0} (P : X → Type 0) → ((x : X) → P x) → (xs : List X) → AllByRecursion P xs
each_always_in P f [] = tt
each_always_in P f (x ∷ xs) = (f x, each_always_in P f xs)

-- ---- a step that aborts nobody and gives no end
still_not : (t : ℕ) (xs : List Step) (x : Step) → is_abort_of t x ≡ false → is_aborted t xs ≡ false → is_aborted t (xs ++ x ∷ []) ≡ false
still_not t xs x n h = aborted-push t xs x ∙ ap (λ b. b || is_abort_of t x) h ∙ n

ended_silent : (xs : List Step) (x : Step) → prepare_of x ≡ [] → ((t : ℕ) → is_abort_of t x ≡ false) → ended_in (xs ++ x ∷ []) ≡ ended_in xs
ended_silent xs x n f =
    ap (filter (λ c. not (is_aborted c.1 (xs ++ x ∷ [])))) (prepares-push xs x ∙ ap (λ cs. prepares xs ++ cs) n ∙ append-nil (prepares xs))
    ∙ filter_same (λ (c : ℕ × ℕ). not (is_aborted c.1 (xs ++ x ∷ []))) (λ (c : ℕ × ℕ). not (is_aborted c.1 xs)) (prepares xs) (each_always_in (λ (c : ℕ × ℕ). not (is_aborted c.1 (xs ++ x ∷ [])) ≡ not (is_aborted c.1 xs))
    (λ c. ap not (aborted-push c.1 xs x ∙ ap (λ b. is_aborted c.1 xs || b) (f c.1) ∙ or_none (is_aborted c.1 xs))) (prepares xs))

each_ends : (P : ℕ × ℕ → Type 0) (xs : List StampedTx) → AllByRecursion (λ x. P (x.end, x.id)) xs → AllByRecursion P (ends_with_ids xs)
each_ends P [] h = tt
each_ends P (x ∷ xs) h = (h.0, each_ends P xs h.1)

ends_each : (P : ℕ × ℕ → Type 0) (xs : List StampedTx) → AllByRecursion P (ends_with_ids xs) → AllByRecursion (λ x. P (x.end, x.id)) xs
ends_each P [] h = tt
ends_each P (x ∷ xs) h = (h.0, ends_each P xs h.1)

-- what is said of ends and ids, of other stamped ones with the same
ends_move : (P : ℕ × ℕ → Type 0) (xs ys : List StampedTx) → ends_with_ids ys ≡ ends_with_ids xs → AllByRecursion (λ x. P (x.end, x.id)) xs → AllByRecursion (λ x. P (x.end, x.id)) ys
ends_move P xs ys e h = ends_each P ys (subst (AllByRecursion P) (sym e) (each_ends P xs h))

abbrev IsAlone : List StampedTx → Type 0
IsAlone xs = AllByRecursion (λ x. AllByRecursion (λ y. y.id ≡ x.id → y.end ≡ x.end) xs) xs

alone_move : (xs ys : List StampedTx) → ends_with_ids ys ≡ ends_with_ids xs → IsAlone xs → IsAlone ys
alone_move xs ys e h = ends_move (λ c. AllByRecursion (λ y. y.id ≡ c.1 → y.end ≡ c.0) ys) xs ys e
    (each_weaker (λ x. AllByRecursion (λ y. y.id ≡ x.id → y.end ≡ x.end) xs) (λ x. AllByRecursion (λ y. y.id ≡ x.id → y.end ≡ x.end) ys) (λ x. ends_move (λ d. d.1 ≡ x.id → d.0 ≡ x.end) xs ys e) xs h)

pub ends_opened : (rows : Map) (mark : ℕ) → HasEnds [] (opened rows mark)
ends_opened rows mark = record { ends = refl; alone = tt; active = tt; stamped = tt; fresh = λ t lt. refl; others = tt }

-- a step that aborts nobody and gives no end, to a state with the same ends
abbrev IsOutside : List StampedTx → ℕ → Type 0
IsOutside xs n = AllByRecursion (λ x. x.end ≢ n) xs

pub ends_silent : (xs : List Step) (x : Step) (s s' : State) → prepare_of x ≡ [] → ((t : ℕ) → is_abort_of t x ≡ false) → s.clock ≤ s'.clock → ends_with_ids (timeline s') ≡ ends_with_ids (timeline s) →
    ((P : ℕ → Type 0) → AllByRecursion (λ r. P r.id) s.active → ((t : ℕ) → s.clock < t → P t) → AllByRecursion (λ r. P r.id) s'.active) → AllByRecursion (λ r. IsOutside s'.past r.id) s'.active → HasEnds xs s → HasEnds (xs ++ x ∷ []) s'
ends_silent xs x s s' n f c e g o h = record {
  ends = ended_silent xs x n f ∙ h.ends ∙ sym e;
  alone = alone_move (timeline s) (timeline s') e h.alone;
  active = g (λ t. is_aborted t (xs ++ x ∷ []) ≡ false) (each_weaker (λ r. is_aborted r.id xs ≡ false) (λ r. is_aborted r.id (xs ++ x ∷ []) ≡ false) (λ r. still_not r.id xs x (f r.id)) s.active h.active) (λ t lt. still_not t xs x (f t) (h.fresh t lt));
  stamped = ends_move (λ d. is_aborted d.1 (xs ++ x ∷ []) ≡ false) (timeline s) (timeline s') e (each_weaker (λ y. is_aborted y.id xs ≡ false) (λ y. is_aborted y.id (xs ++ x ∷ []) ≡ false) (λ y. still_not y.id xs x (f y.id)) (timeline s) h.stamped);
  fresh = λ t lt. still_not t xs x (f t) (h.fresh t (omega arith));
  others = o;
}

-- ---- ends through a change of each
ends_like : (f : StampedTx → StampedTx) → ((x : StampedTx) → ((f x).end ≡ x.end) × ((f x).id ≡ x.id)) → (xs : List StampedTx) → ends_with_ids (map f xs) ≡ ends_with_ids xs
ends_like f k [] = refl
ends_like f k (x ∷ xs) = ap (λ (n : ℕ). (n, (f x).id) ∷ ends_with_ids (map f xs)) (k x).0 ∙ ap (λ (n : ℕ). (x.end, n) ∷ ends_with_ids (map f xs)) (k x).1 ∙ ap (λ cs. (x.end, x.id) ∷ cs) (ends_like f k xs)

pub ends-both : (xs ys : List StampedTx) → ends_with_ids (xs ++ ys) ≡ ends_with_ids xs ++ ends_with_ids ys
ends-both xs ys = map-append (λ (x : StampedTx). (x.end, x.id)) xs ys

pub ends_timeline : (s : State) (ys : List StampedTx) → ends_with_ids ys ≡ ends_with_ids s.stamped → ends_with_ids (s.past ++ ys) ≡ ends_with_ids (timeline s)
ends_timeline s ys e = ends-both s.past ys ∙ ap (λ cs. ends_with_ids s.past ++ cs) e ∙ sym (ends-both s.past s.stamped)

-- ---- the steps that abort nobody and give no end
keeps_ids : (s : State) → (P : ℕ → Type 0) → AllByRecursion (λ r. P r.id) s.active → ((t : ℕ) → s.clock < t → P t) → AllByRecursion (λ r. P r.id) s.active
keeps_ids s P h f = h

pub ends_after_begin : (xs : List Step) (s : State) (t : ℕ) → s.clock < t → IsSound s → IsStarted s → HasEnds xs s → HasEnds (xs ++ Begins t ∷ []) (after_begin s t)
ends_after_begin xs s t lt k p h = ends_silent xs (Begins t) s (after_begin s t) refl (λ u. refl) (omega arith) refl (λ P q f. each_append (λ r. P r.id) s.active (new_active t ∷ []) q (f t lt, tt))
    (each_append (λ r. IsOutside s.past r.id) s.active (new_active t ∷ []) h.others (each_weaker (IsPast s.start) (λ x. x.end ≢ t) (λ x q e. absurd (let d = q.until in let c = p.drawn in omega arith)) s.past p.past, tt)) h

pub ends_after_operation : (xs : List Step) (s : State) (t : ℕ) (op : Op) (a : AnswerData) → HasEnds xs s → HasEnds (xs ++ Answers t op a ∷ []) (after_operation s t op a)
ends_after_operation xs s t op a h = ends_silent xs (Answers t op a) s (after_operation s t op a) refl (λ u. refl) (omega arith) refl (λ P q f. each_map (with_answer s t op a) (λ r. P r.id) (λ r. P r.id) (λ r g. g) s.active q)
    (each_map (with_answer s t op a) (λ r. IsOutside s.past r.id) (λ r. IsOutside s.past r.id) (λ r g. g) s.active h.others) h

pub ends_after_check : (xs : List Step) (s : State) (t e : ℕ) (v : Bool) → HasEnds xs s → HasEnds (xs ++ Checks t ∷ []) (after_check s e v)
ends_after_check xs s t e v h = ends_silent xs (Checks t) s (after_check s e v) refl (λ u. refl) (omega arith) (ends_timeline s (map (with_check e v) s.stamped) (ends_like (with_check e v) (λ x. (refl, refl)) s.stamped)) (keeps_ids s) h.others h

pub ends_same_after_check : (xs : List Step) (s : State) (t : ℕ) → HasEnds xs s → HasEnds (xs ++ Checks t ∷ []) s
ends_same_after_check xs s t h = ends_silent xs (Checks t) s s refl (λ u. refl) (omega arith) refl (keeps_ids s) h.others h

pub ends_after_commit : (xs : List Step) (s : State) (t u n e : ℕ) → HasEnds xs s → HasEnds (xs ++ Commits u n ∷ []) (after_commit s t e)
ends_after_commit xs s t u n e h = ends_silent xs (Commits u n) s (after_commit s t e) refl (λ v. refl) (omega arith) (ends_timeline s (map (with_settled e) s.stamped) (ends_like (with_settled e) (λ x. (refl, refl)) s.stamped)) (keeps_ids s) h.others h

pub ends_after_termination : (xs : List Step) (s : State) (t : ℕ) → HasEnds xs s → HasEnds (xs ++ Terminates t ∷ []) (after_termination s t)
ends_after_termination xs s t h = ends_silent xs (Terminates t) s (after_termination s t) refl (λ u. refl) (omega arith) refl (keeps_ids s) h.others h

-- ---- precommit
alone_push : (xs : List StampedTx) (y : StampedTx) → AllByRecursion (λ x. x.id ≢ y.id) xs → IsAlone xs → IsAlone (xs ++ y ∷ [])
alone_push xs y n h = each_append (λ x. AllByRecursion (λ z. z.id ≡ x.id → z.end ≡ x.end) (xs ++ y ∷ [])) xs (y ∷ [])
    (each_both (λ x. x.id ≢ y.id) (λ x. AllByRecursion (λ z. z.id ≡ x.id → z.end ≡ x.end) xs) (λ x. AllByRecursion (λ z. z.id ≡ x.id → z.end ≡ x.end) (xs ++ y ∷ []))
    (λ x ne q. each_append (λ z. z.id ≡ x.id → z.end ≡ x.end) xs (y ∷ []) q ((λ e. absurd (ne (sym e))), tt)) xs n h)
    (each_append (λ z. z.id ≡ y.id → z.end ≡ y.end) xs (y ∷ []) (each_weaker (λ x. x.id ≢ y.id) (λ z. z.id ≡ y.id → z.end ≡ y.end) (λ z ne e. absurd (ne e)) xs n) ((λ _. refl), tt), tt)

ended_prepares : (xs : List Step) (t e : ℕ) → is_aborted t xs ≡ false → ended_in (xs ++ Prepares t e ∷ []) ≡ ended_in xs ++ (e, t) ∷ []
ended_prepares xs t e n =
    ap (filter (λ c. not (is_aborted c.1 (xs ++ Prepares t e ∷ [])))) (prepares-push xs (Prepares t e))
    ∙ filter_same (λ (c : ℕ × ℕ). not (is_aborted c.1 (xs ++ Prepares t e ∷ []))) (λ (c : ℕ × ℕ). not (is_aborted c.1 xs)) (prepares xs ++ (e, t) ∷ []) (each_always_in (λ (c : ℕ × ℕ). not (is_aborted c.1 (xs ++ Prepares t e ∷ [])) ≡ not (is_aborted c.1 xs))
    (λ c. ap not (aborted-push c.1 xs (Prepares t e) ∙ or_none (is_aborted c.1 xs))) (prepares xs ++ (e, t) ∷ []))
    ∙ filter-both (λ (c : ℕ × ℕ). not (is_aborted c.1 xs)) (prepares xs) ((e, t) ∷ [])
    ∙ ap (λ (b : Bool). ended_in xs ++ cond (not b) ((e, t) ∷ []) []) n

pub ends_after_prepare : (xs : List Step) (s : State) (r : ActiveTx) (e : ℕ) → s.clock < e → is_aborted r.id xs ≡ false → AllByRecursion (λ x. x.id ≢ r.id) (timeline s) → HasEnds xs s → HasEnds (xs ++ Prepares r.id e ∷ []) (after_prepare s r e)
ends_after_prepare xs s r e lt alive n h =
    let y = to_stamped e r in
    let line = append_assoc s.past s.stamped (y ∷ []) in
    let still : (u : ℕ) → is_aborted u xs ≡ false → is_aborted u (xs ++ Prepares r.id e ∷ []) ≡ false = λ u. still_not u xs (Prepares r.id e) refl in
    record {
      ends = ended_prepares xs r.id e alive ∙ ap (λ cs. cs ++ (e, r.id) ∷ []) h.ends ∙ sym (ends-both (timeline s) (y ∷ [])) ∙ ap ends_with_ids line;
      alone = subst IsAlone line (alone_push (timeline s) y n h.alone);
      active = each_filter (λ q. not (q.id == r.id)) (λ q. is_aborted q.id xs ≡ false) (λ q. is_aborted q.id (xs ++ Prepares r.id e ∷ []) ≡ false) (λ q _ g. still q.id g) s.active h.active;
      stamped = subst (AllByRecursion (λ x. is_aborted x.id (xs ++ Prepares r.id e ∷ []) ≡ false)) line (each_append (λ x. is_aborted x.id (xs ++ Prepares r.id e ∷ []) ≡ false) (timeline s) (y ∷ []) (each_weaker (λ x. is_aborted x.id xs ≡ false) (λ x. is_aborted x.id (xs ++ Prepares r.id e ∷ []) ≡ false) (λ x. still x.id) (timeline s) h.stamped) (still r.id alive, tt));
      fresh = λ t l. still t (h.fresh t (omega arith));
      others = each_part (λ q. not (q.id == r.id)) (λ q. IsOutside s.past q.id) s.active h.others;
    }

-- ---- an abort
filter_twice : {X : Type 0} (a b : X → Bool) (xs : List X) → filter (λ x. not (a x || b x)) xs ≡ filter (λ x. not (b x)) (filter (λ x. not (a x)) xs)
filter_twice a b [] = refl
filter_twice a b (x ∷ xs) = go (a x) (filter_twice a b xs)
  where
    go : (c : Bool) → filter (λ y. not (a y || b y)) xs ≡ filter (λ y. not (b y)) (filter (λ y. not (a y)) xs) → cond (not (c || b x)) (x ∷ filter (λ y. not (a y || b y)) xs) (filter (λ y. not (a y || b y)) xs) ≡ filter (λ y. not (b y)) (cond (not c) (x ∷ filter (λ y. not (a y)) xs) (filter (λ y. not (a y)) xs))
    go true e = e
    go false e = ap (λ ys. cond (not (b x)) (x ∷ ys) ys) e

ended_aborts : (xs : List Step) (t : ℕ) → ended_in (xs ++ Aborts t ∷ []) ≡ filter (λ c. not (t == c.1)) (ended_in xs)
ended_aborts xs t =
    ap (filter (λ c. not (is_aborted c.1 (xs ++ Aborts t ∷ [])))) (prepares-push xs (Aborts t) ∙ append-nil (prepares xs))
    ∙ filter_same (λ (c : ℕ × ℕ). not (is_aborted c.1 (xs ++ Aborts t ∷ []))) (λ (c : ℕ × ℕ). not (is_aborted c.1 xs || (t == c.1))) (prepares xs) (each_always_in (λ (c : ℕ × ℕ). not (is_aborted c.1 (xs ++ Aborts t ∷ [])) ≡ not (is_aborted c.1 xs || (t == c.1)))
    (λ c. ap not (aborted-push c.1 xs (Aborts t))) (prepares xs))
    ∙ filter_twice (λ (c : ℕ × ℕ). is_aborted c.1 xs) (λ (c : ℕ × ℕ). t == c.1) (prepares xs)

ends_filter : (q : ℕ × ℕ → Bool) (p : StampedTx → Bool) (xs : List StampedTx) → AllByRecursion (λ x. q (x.end, x.id) ≡ p x) xs → filter q (ends_with_ids xs) ≡ ends_with_ids (filter p xs)
ends_filter q p [] h = refl
ends_filter q p (x ∷ xs) h = ap (λ (b : Bool). cond b ((x.end, x.id) ∷ filter q (ends_with_ids xs)) (filter q (ends_with_ids xs))) h.0 ∙ ap (λ cs. cond (p x) ((x.end, x.id) ∷ cs) cs) (ends_filter q p xs h.1) ∙ go (p x)
  where
    go : (b : Bool) → cond b ((x.end, x.id) ∷ ends_with_ids (filter p xs)) (ends_with_ids (filter p xs)) ≡ ends_with_ids (cond b (x ∷ filter p xs) (filter p xs))
    go true = refl
    go false = refl

filter_all : (xs : List StampedTx) → filter (λ (x : StampedTx). true) xs ≡ xs
filter_all [] = refl
filter_all (x ∷ xs) = ap (λ ys. x ∷ ys) (filter_all xs)

not_aborted : (u : ℕ) (xs : List Step) (t : ℕ) → u ≢ t → is_aborted u xs ≡ false → is_aborted u (xs ++ Aborts t ∷ []) ≡ false
not_aborted u xs t n h = still_not u xs (Aborts t) (ne_eqb t u (λ e. n (sym e))) h

pub ends_after_abort_of_active : (xs : List Step) (s : State) (t : ℕ) → t ≤ s.clock → AllByRecursion (λ x. x.id ≢ t) (timeline s) → HasEnds xs s → HasEnds (xs ++ Aborts t ∷ []) (after_abort_of_active s t)
ends_after_abort_of_active xs s t le n h = record {
  ends = ended_aborts xs t ∙ ap (filter (λ c. not (t == c.1))) h.ends
      ∙ ends_filter (λ c. not (t == c.1)) (λ x. true) (timeline s) (each_weaker (λ x. x.id ≢ t) (λ x. not (t == x.id) ≡ true) (λ x ne. ap not (ne_eqb t x.id (λ e. ne (sym e)))) (timeline s) n)
      ∙ ap ends_with_ids (filter_all (timeline s));
  alone = h.alone;
  active = each_filter (λ r. not (r.id == t)) (λ r. is_aborted r.id xs ≡ false) (λ r. is_aborted r.id (xs ++ Aborts t ∷ []) ≡ false) (λ r e g. not_aborted r.id xs t (λ i. false≢true (sym (ap not (eq-eqb r.id t i)) ∙ e)) g) s.active h.active;
  stamped = each_both (λ x. x.id ≢ t) (λ x. is_aborted x.id xs ≡ false) (λ x. is_aborted x.id (xs ++ Aborts t ∷ []) ≡ false) (λ x ne g. not_aborted x.id xs t ne g) (timeline s) n h.stamped;
  fresh = λ u l. not_aborted u xs t (λ e. absurd (omega arith)) (h.fresh u l);
  others = each_part (λ r. not (r.id == t)) (λ r. IsOutside s.past r.id) s.active h.others;
}

in_timeline : (xs ys : List StampedTx) (x : StampedTx) → IsIn x ys → IsIn x (xs ++ ys)
in_timeline [] ys x m = m
in_timeline (y ∷ xs) ys x m = λ P h. in_timeline xs ys x m P h.1

alone_filter : (p : StampedTx → Bool) (xs : List StampedTx) → IsAlone xs → IsAlone (filter p xs)
alone_filter p xs h = each_part p (λ x. AllByRecursion (λ y. y.id ≡ x.id → y.end ≡ x.end) (filter p xs)) xs
    (each_weaker (λ x. AllByRecursion (λ y. y.id ≡ x.id → y.end ≡ x.end) xs) (λ x. AllByRecursion (λ y. y.id ≡ x.id → y.end ≡ x.end) (filter p xs)) (λ x. each_part p (λ y. y.id ≡ x.id → y.end ≡ x.end) xs) xs h)

all_pass : (p : StampedTx → Bool) (xs : List StampedTx) → AllByRecursion (λ x. p x ≡ true) xs → filter p xs ≡ xs
all_pass p xs h = filter_same p (λ (x : StampedTx). true) xs h ∙ filter_all xs

pub ends_after_abort_of_preparing : (xs : List Step) (s : State) (t : ℕ) (x : StampedTx) → IsIn x s.stamped → x.id ≡ t → IsSound s → IsStarted s → IsNumbered s → HasEnds xs s → HasEnds (xs ++ Aborts t ∷ []) (after_abort_of_preparing s t x.end)
ends_after_abort_of_preparing xs s t x m it k p n h =
    record {
      ends = ended_aborts xs t ∙ ap (filter (λ c. not (t == c.1))) h.ends ∙ ends_filter (λ c. not (t == c.1)) (not_at e) (timeline s) tests ∙ sym moved;
      alone = alone_move kept line moved (alone_filter (not_at e) (timeline s) h.alone);
      active = each_map (active_with_flag t e) (λ r. (x.id ≢ r.id) × (is_aborted r.id xs ≡ false)) (λ r. is_aborted r.id (xs ++ Aborts t ∷ []) ≡ false) (λ r q. not_aborted r.id xs t (λ i. q.0 (it ∙ sym i)) q.1) s.active
          (each_both (λ r. AllByRecursion (λ y. y.id ≢ r.id) s.stamped) (λ r. is_aborted r.id xs ≡ false) (λ r. (x.id ≢ r.id) × (is_aborted r.id xs ≡ false)) (λ r a b. (m (λ y. y.id ≢ r.id) a, b)) s.active n.apart h.active);
      stamped = ends_move (λ d. is_aborted d.1 (xs ++ Aborts t ∷ []) ≡ false) kept line moved
          (each_filter (not_at e) (λ y. (y.id ≡ x.id → y.end ≡ x.end) × (is_aborted y.id xs ≡ false)) (λ y. is_aborted y.id (xs ++ Aborts t ∷ []) ≡ false) (λ y f q. not_aborted y.id xs t (λ i. false≢true (sym (ap not (eq-eqb y.end e (q.0 (i ∙ sym it)))) ∙ f)) q.1) (timeline s)
          (each_both (λ y. y.id ≡ x.id → y.end ≡ x.end) (λ y. is_aborted y.id xs ≡ false) (λ y. (y.id ≡ x.id → y.end ≡ x.end) × (is_aborted y.id xs ≡ false)) (λ y a b. (a, b)) (timeline s) mine h.stamped));
      fresh = λ u l. not_aborted u xs t (λ i. absurd (let b = placed.begun in let d = placed.drawn in omega arith)) (h.fresh u l);
      others = each_map (active_with_flag t e) (λ r. IsOutside s.past r.id) (λ r. IsOutside s.past r.id) (λ r g. g) s.active h.others;
    }
  where
    e : ℕ
    e = x.end

    kept : List StampedTx
    kept = filter (not_at e) (timeline s)

    line : List StampedTx
    line = s.past ++ map (with_flag t e) (filter (not_at e) s.stamped)

    placed : IsPlaced s.stamped s.clock x
    placed = m (IsPlaced s.stamped s.clock) k.placed

    later : s.start < e
    later = m (λ y. s.start < y.end) p.later

    mine : AllByRecursion (λ y. y.id ≡ x.id → y.end ≡ x.end) (timeline s)
    mine = in_timeline s.past s.stamped x m (λ z. AllByRecursion (λ y. y.id ≡ z.id → y.end ≡ z.end) (timeline s)) h.alone

    same_id : AllByRecursion (λ y. y.end ≡ x.end → y.id ≡ x.id) s.stamped
    same_id = m (λ z. AllByRecursion (λ y. y.end ≡ z.end → y.id ≡ z.id) s.stamped) (ends_differ s.stamped k.rising)

    past_below : AllByRecursion (λ y. y.end ≢ e) s.past
    past_below = each_weaker (IsPast s.start) (λ y. y.end ≢ e) (λ y q i. absurd (let d = q.until in let l = later in omega arith)) s.past p.past

    test : (y : StampedTx) → (y.id ≡ x.id → y.end ≡ e) → (y.end ≡ e → y.id ≡ x.id) → not (t == y.id) ≡ not_at e y
    test y f g = go (y.end == e) refl
      where
        go : (b : Bool) → (y.end == e) ≡ b → not (t == y.id) ≡ not b
        go true i = ap not (eq-eqb t y.id (sym it ∙ sym (g (eqb-true y.end e i))))
        go false i = ap not (ne_eqb t y.id (λ j. true≢false (sym (eq-eqb y.end e (f (sym j ∙ sym it))) ∙ i)))

    tests : AllByRecursion (λ y. not (t == y.id) ≡ not_at e y) (timeline s)
    tests = each_both (λ y. y.id ≡ x.id → y.end ≡ e) (λ y. y.end ≡ e → y.id ≡ x.id) (λ y. not (t == y.id) ≡ not_at e y) test (timeline s) mine
        (each_append (λ y. y.end ≡ e → y.id ≡ x.id) s.past s.stamped (each_weaker (λ y. y.end ≢ e) (λ y. y.end ≡ e → y.id ≡ x.id) (λ y ne i. absurd (ne i)) s.past past_below) same_id)

    moved : ends_with_ids line ≡ ends_with_ids kept
    moved =
        ends-both s.past (map (with_flag t e) (filter (not_at e) s.stamped))
        ∙ ap (λ cs. ends_with_ids s.past ++ cs) (ends_like (with_flag t e) (λ y. (refl, refl)) (filter (not_at e) s.stamped))
        ∙ sym (ends-both s.past (filter (not_at e) s.stamped))
        ∙ ap (λ ys. ends_with_ids (ys ++ filter (not_at e) s.stamped)) (sym (all_pass (not_at e) s.past (each_weaker (λ y. y.end ≢ e) (λ y. not_at e y ≡ true) (λ y ne. ap not (ne_eqb y.end e ne)) s.past past_below)))
        ∙ ap ends_with_ids (sym (filter-both (not_at e) s.past s.stamped))

-- ---- a trim
pub ends_after_trim : (xs : List Step) (s : State) (m : ℕ) → IsSound s → HasEnds xs s → HasEnds xs (after_trim s m)
ends_after_trim xs s m k h =
    let same = ap ends_with_ids (timeline_trimmed s m k.rising) in
    record {
      ends = h.ends ∙ sym same;
      alone = alone_move (timeline s) (timeline (after_trim s m)) same h.alone;
      active = h.active;
      stamped = ends_move (λ d. is_aborted d.1 xs ≡ false) (timeline s) (timeline (after_trim s m)) same h.stamped;
      fresh = h.fresh;
      others = each_both (λ r. IsOutside s.past r.id) (IsActive s.base s.stamped s.clock) (λ r. IsOutside (s.past ++ filter (is_to m) s.stamped) r.id) (λ r a b. each_append (λ x. x.end ≢ r.id) s.past (filter (is_to m) s.stamped) a (each_part (is_to m) (λ x. x.end ≢ r.id) s.stamped b.others)) s.active h.others k.active;
    }
