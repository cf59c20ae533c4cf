-- The claims are those of the trace: each step keeps that.
use Rattle.std.proofs.Common.{◌≡◌, ℕ, Bool, true, false, cond, not, List, [], ◌∷◌, ◌++◌, Option, None, Some, refl, sym, ap, ◌∙◌, subst, ◌⊎◌, inl, inr}
use Rattle.std.specs.Prelude.{◌==◌, is_some}
use Rattle.std.specs.List.{AllByRecursion, list_any, filter}
use Rattle.std.specs.Ordering.{eq_by_cmp}
use Rattle.std.proofs.lemmas.Bool.{false≢true, true≢false, eqb-true}
use Rattle.mvo_types.specs.declared.row.RowKey.{RowKey}
use Rattle.mvo_types.specs.declared.op.Op.{Op}
use Rattle.mvo_types.specs.declared.op.Op.TheVariants.{Read, Scan, Insert, Update, Delete}
use Rattle.mvo_types.specs.Keys.{Map, key_cmp}
use Rattle.mvo_types.specs.RowData.{content_of}
use Rattle.mvo_types.specs.AnswerData.{AnswerData}
use Rattle.mvo_types.specs.AnswerData.AnswerData.{Updated, Deleted}
use Rattle.mvo_types.specs.Write.Effect.{Put, Delete as Gone}
use Rattle.mvo_types.specs.Write.{Effect}
use Rattle.mvo_model.specs.History.{History, write_of, write_at, later, net_write}
use Rattle.mvo_model.proofs.Serials.{net_write-append}
use Rattle.mvo_model.specs.Trace.{Step, history_of}
use Rattle.mvo_model.specs.Trace.Step.{Answers}
use Rattle.mvo_theory.specs.State.{State, StampedTx, ActiveTx, Claim, opened}
use Rattle.mvo_theory.specs.Claims.{origin, ended_key, claims_with}
use Rattle.mvo_theory.specs.Changes.{new_active, after_begin, after_operation, with_answer, after_prepare, to_stamped, after_check, with_check, after_commit, with_settled, with_flag, active_with_flag, not_at, after_abort_of_active, after_abort_of_preparing, after_termination, is_to, after_trim}
use Rattle.mvo_theory.specs.Sound.{IsSound, IsSingle, IsStarted}
use Rattle.mvo_theory.specs.AfterTrace.{IsAfterTrace}
use Rattle.mvo_theory.specs.Claimed.{IsClaimed, is_ended_first, HasClaims, AreClaimed}
use Rattle.mvo_theory.proofs.Each.{each_weaker, each_both, each_append, each_map, each_filter}
use Rattle.mvo_theory.proofs.Footprints.{or_left, any_left, any_right, key_same}
use Rattle.mvo_theory.proofs.Looks.{key_is}
use Rattle.mvo_theory.proofs.Stamped.{each_part}
use Rattle.mvo_theory.proofs.Claimed.{claimed_later, has_later, origin_in_trace}
use Rattle.mvo_theory.proofs.Claims.{none_key, same_key}

-- ---- the first writing answer, after one more
is_none : (w : Option Effect) → is_some w ≡ false → w ≡ None
is_none None e = refl
is_none (Some h) e = absurd (true≢false e)

later_none : (a b : Option Effect) → is_some a ≡ false → is_some b ≡ false → is_some (later a b) ≡ false
later_none None b e f = f
later_none (Some h) b e f = absurd (true≢false e)

pub ended_push : (k : RowKey) (ts : History) (op : Op) (a : AnswerData) → is_ended_first k (ts ++ (op, a) ∷ []) ≡ true → (is_ended_first k ts ≡ true) ⊎ ((is_some (net_write k ts) ≡ false) × (is_some (write_at k (write_of op a)) ≡ true) × (is_some (ended_key op a) ≡ true))
ended_push k [] op a h = go (is_some (write_at k (write_of op a))) (is_some (ended_key op a)) h
  where
    go : (b c : Bool) → cond b c false ≡ true → (false ≡ true) ⊎ ((false ≡ false) × (b ≡ true) × (c ≡ true))
    go true c g = inr (refl, refl, g)
    go false c g = absurd (false≢true g)
ended_push k (t ∷ ts) op a h = go (is_some (write_at k (write_of t.0 t.1))) refl h (ended_push k ts op a)
  where
    go : (b : Bool) → is_some (write_at k (write_of t.0 t.1)) ≡ b → cond b (is_some (ended_key t.0 t.1)) (is_ended_first k (ts ++ (op, a) ∷ [])) ≡ true →
        (is_ended_first k (ts ++ (op, a) ∷ []) ≡ true → (is_ended_first k ts ≡ true) ⊎ ((is_some (net_write k ts) ≡ false) × (is_some (write_at k (write_of op a)) ≡ true) × (is_some (ended_key op a) ≡ true))) →
        (cond b (is_some (ended_key t.0 t.1)) (is_ended_first k ts) ≡ true) ⊎ ((is_some (later (net_write k ts) (write_at k (write_of t.0 t.1))) ≡ false) × (is_some (write_at k (write_of op a)) ≡ true) × (is_some (ended_key op a) ≡ true))
    go true e g r = inl g
    go false e g r = elim (r g) [ inl x ↦ inl x | inr y ↦ inr (later_none (net_write k ts) (write_at k (write_of t.0 t.1)) y.0 e, y.1, y.2) ]

-- the key that is ended is the one that is written
write_is : (k j : RowKey) (h : Effect) → is_some (write_at k (Some (j, h))) ≡ true → eq_by_cmp key_cmp k j ≡ true
write_is k j h e = go (eq_by_cmp key_cmp k j) e
  where
    go : (b : Bool) → is_some (cond b (Some h) None) ≡ true → b ≡ true
    go true f = refl
    go false f = absurd (false≢true f)

ended_write : (op : Op) (a : AnswerData) (j k : RowKey) → ended_key op a ≡ Some j → is_some (write_at k (write_of op a)) ≡ true → eq_by_cmp key_cmp k j ≡ true
ended_write (Read i) a j k e h = absurd (none_key j e)
ended_write (Scan t lo hi) a j k e h = absurd (none_key j e)
ended_write (Insert r) a j k e h = absurd (none_key j e)
ended_write (Update r) Updated j k e h = subst (λ (i : RowKey). eq_by_cmp key_cmp k i ≡ true) (same_key r.key j e) (write_is k r.key (Put (content_of r)) h)
ended_write (Update r) a j k e h = absurd (none_key j e)
ended_write (Delete i) Deleted j k e h = subst (λ (l : RowKey). eq_by_cmp key_cmp k l ≡ true) (same_key i j e) (write_is k i Gone h)
ended_write (Delete i) a j k e h = absurd (none_key j e)

-- ---- an operation
abbrev claims_key : RowKey → List Claim → Bool
claims_key k cs = list_any (λ c. eq_by_cmp key_cmp k c.key) cs

pub still_claimed : (s : State) (r : ActiveTx) (w : Option RowKey) (k : RowKey) → claims_key k r.claims ≡ true → claims_key k (claims_with s r w) ≡ true
still_claimed s r None k h = h
still_claimed s r (Some j) k h = go (is_some (net_write j r.history))
  where
    go : (b : Bool) → claims_key k (cond b r.claims (r.claims ++ (record { key = j; origin = origin s r.id j }) ∷ [])) ≡ true
    go true = h
    go false = any_left (λ c. eq_by_cmp key_cmp k c.key) r.claims ((record { key = j; origin = origin s r.id j }) ∷ []) h

pub now_claimed : (s : State) (op : Op) (a : AnswerData) (r : ActiveTx) (w : Option RowKey) (k : RowKey) → ended_key op a ≡ w → is_some w ≡ true → is_some (net_write k r.history) ≡ false → is_some (write_at k (write_of op a)) ≡ true → claims_key k (claims_with s r w) ≡ true
now_claimed s op a r None k e i n h = absurd (false≢true i)
now_claimed s op a r (Some j) k e i n h = go (is_some (net_write j r.history)) refl
  where
    same : eq_by_cmp key_cmp k j ≡ true
    same = ended_write op a j k e h

    go : (b : Bool) → is_some (net_write j r.history) ≡ b → claims_key k (cond b r.claims (r.claims ++ (record { key = j; origin = origin s r.id j }) ∷ [])) ≡ true
    go true f = absurd (true≢false (sym f ∙ subst (λ (l : RowKey). is_some (net_write l r.history) ≡ false) (sym (key_same k j same)) n))
    go false f = any_right (λ c. eq_by_cmp key_cmp k c.key) r.claims ((record { key = j; origin = origin s r.id j }) ∷ []) (or_left (eq_by_cmp key_cmp k j) false same)

more_claims : (opening : Map) (xs : List Step) (s : State) (t : ℕ) (op : Op) (a : AnswerData) (r : ActiveTx) (w : Option RowKey) → ended_key op a ≡ w → r.id ≡ t → history_of r.id xs ≡ r.history → IsSound s → IsSingle s → IsStarted s → IsAfterTrace opening xs s → AllByRecursion (IsClaimed s.marks.opening xs r.id) r.claims → AllByRecursion (IsClaimed s.marks.opening (xs ++ Answers t op a ∷ []) r.id) (claims_with s r w)
more_claims opening xs s t op a r None e i history k n p st h = each_weaker (IsClaimed s.marks.opening xs r.id) (IsClaimed s.marks.opening (xs ++ Answers t op a ∷ []) r.id) (claimed_later s.marks.opening xs (Answers t op a ∷ []) r.id) r.claims h
more_claims opening xs s t op a r (Some j) e i history k n p st h = go (is_some (net_write j r.history)) refl
  where
    old : AllByRecursion (IsClaimed s.marks.opening (xs ++ Answers t op a ∷ []) r.id) r.claims
    old = each_weaker (IsClaimed s.marks.opening xs r.id) (IsClaimed s.marks.opening (xs ++ Answers t op a ∷ []) r.id) (claimed_later s.marks.opening xs (Answers t op a ∷ []) r.id) r.claims h

    go : (b : Bool) → is_some (net_write j r.history) ≡ b → AllByRecursion (IsClaimed s.marks.opening (xs ++ Answers t op a ∷ []) r.id) (cond b r.claims (r.claims ++ (record { key = j; origin = origin s r.id j }) ∷ []))
    go true f = old
    go false f = each_append (IsClaimed s.marks.opening (xs ++ Answers t op a ∷ []) r.id) r.claims ((record { key = j; origin = origin s r.id j }) ∷ []) old
        (record { before = xs; op = op; answer = a; after = []; then' = ap (λ (u : ℕ). xs ++ Answers u op a ∷ []) (sym i); answered = e; first = ap (λ ts. is_some (net_write j ts)) history ∙ f; origin = origin_in_trace opening xs s j r.id k n p st }, tt)

pub later_first : (a b : Option Effect) → is_some a ≡ true → is_some (later a b) ≡ true
later_first None b e = absurd (false≢true e)
later_first (Some h) b e = refl

pub later_second : (a b : Option Effect) → is_some b ≡ true → is_some (later a b) ≡ true
later_second None b e = e
later_second (Some h) b e = refl

still_written : (k : RowKey) (ts us : History) → is_some (net_write k ts) ≡ true → is_some (net_write k (ts ++ us)) ≡ true
still_written k ts us h = ap is_some (net_write-append k ts us) ∙ later_second (net_write k us) (net_write k ts) h

own_write : (k : RowKey) (h : Effect) → is_some (write_at k (Some (k, h))) ≡ true
own_write k h = ap (λ (b : Bool). is_some (cond b (Some h) None)) (key_is k)

pub ended_written : (op : Op) (a : AnswerData) (j : RowKey) → ended_key op a ≡ Some j → is_some (write_at j (write_of op a)) ≡ true
ended_written (Read i) a j e = absurd (none_key j e)
ended_written (Scan t lo hi) a j e = absurd (none_key j e)
ended_written (Insert r) a j e = absurd (none_key j e)
ended_written (Update r) Updated j e = subst (λ (i : RowKey). is_some (write_at i (Some (r.key, Put (content_of r)))) ≡ true) (same_key r.key j e) (own_write r.key (Put (content_of r)))
ended_written (Update r) a j e = absurd (none_key j e)
ended_written (Delete i) Deleted j e = subst (λ (l : RowKey). is_some (write_at l (Some (i, Gone))) ≡ true) (same_key i j e) (own_write i Gone)
ended_written (Delete i) a j e = absurd (none_key j e)

now_written : (k : RowKey) (ts : History) (op : Op) (a : AnswerData) → ended_key op a ≡ Some k → is_some (net_write k (ts ++ (op, a) ∷ [])) ≡ true
now_written k ts op a e = ap is_some (net_write-append k ts ((op, a) ∷ [])) ∙ later_first (later None (write_at k (write_of op a))) (net_write k ts) (ended_written op a k e)

more_written : (s : State) (r : ActiveTx) (op : Op) (a : AnswerData) (w : Option RowKey) → ended_key op a ≡ w → AllByRecursion (λ c. is_some (net_write c.key r.history) ≡ true) r.claims → AllByRecursion (λ c. is_some (net_write c.key (r.history ++ (op, a) ∷ [])) ≡ true) (claims_with s r w)
more_written s r op a None e h = each_weaker (λ c. is_some (net_write c.key r.history) ≡ true) (λ c. is_some (net_write c.key (r.history ++ (op, a) ∷ [])) ≡ true) (λ c. still_written c.key r.history ((op, a) ∷ [])) r.claims h
more_written s r op a (Some j) e h = go (is_some (net_write j r.history))
  where
    old : AllByRecursion (λ c. is_some (net_write c.key (r.history ++ (op, a) ∷ [])) ≡ true) r.claims
    old = each_weaker (λ c. is_some (net_write c.key r.history) ≡ true) (λ c. is_some (net_write c.key (r.history ++ (op, a) ∷ [])) ≡ true) (λ c. still_written c.key r.history ((op, a) ∷ [])) r.claims h

    go : (b : Bool) → AllByRecursion (λ c. is_some (net_write c.key (r.history ++ (op, a) ∷ [])) ≡ true) (cond b r.claims (r.claims ++ (record { key = j; origin = origin s r.id j }) ∷ []))
    go true = old
    go false = each_append (λ c. is_some (net_write c.key (r.history ++ (op, a) ∷ [])) ≡ true) r.claims ((record { key = j; origin = origin s r.id j }) ∷ []) old (now_written j r.history op a e, tt)

has_history : (opening : Map) (xs : List Step) (s : State) (t : ℕ) (op : Op) (a : AnswerData) (r : ActiveTx) (b : Bool) → (r.id == t) ≡ b → history_of r.id xs ≡ r.history → IsSound s → IsSingle s → IsStarted s → IsAfterTrace opening xs s → HasClaims s.marks.opening xs r.id r.history r.claims →
    HasClaims s.marks.opening (xs ++ Answers t op a ∷ []) r.id (cond b (r.history ++ (op, a) ∷ []) r.history) (cond b (claims_with s r (ended_key op a)) r.claims)
has_history opening xs s t op a r false e history k n p st h = has_later s.marks.opening xs (Answers t op a ∷ []) r.id r.history r.claims h
has_history opening xs s t op a r true e history k n p st h = record {
  sound = more_claims opening xs s t op a r (ended_key op a) refl (eqb-true r.id t e) history k n p st h.sound;
  written = more_written s r op a (ended_key op a) refl h.written;
  complete = λ q f. elim (ended_push q r.history op a f) [
    | inl old ↦ still_claimed s r (ended_key op a) q (h.complete q old)
    | inr new ↦ now_claimed s op a r (ended_key op a) q refl new.2 new.0 new.1
  ];
}

-- ---- each step
abbrev OfActive : ℕ → List Step → ActiveTx → Type 0
OfActive mark xs r = HasClaims mark xs r.id r.history r.claims

abbrev OfStamped : ℕ → List Step → StampedTx → Type 0
OfStamped mark xs x = HasClaims mark xs x.id x.history x.claims

pub claimed_opened : (rows : Map) (mark : ℕ) → AreClaimed [] (opened rows mark)
claimed_opened rows mark = record { active = tt; stamped = tt; past = tt }

pub claimed_same : (xs ys : List Step) (s : State) → AreClaimed xs s → AreClaimed (xs ++ ys) s
claimed_same xs ys s h = record {
  active = each_weaker (OfActive s.marks.opening xs) (OfActive s.marks.opening (xs ++ ys)) (λ r. has_later s.marks.opening xs ys r.id r.history r.claims) s.active h.active;
  stamped = each_weaker (OfStamped s.marks.opening xs) (OfStamped s.marks.opening (xs ++ ys)) (λ x. has_later s.marks.opening xs ys x.id x.history x.claims) s.stamped h.stamped;
  past = each_weaker (OfStamped s.marks.opening xs) (OfStamped s.marks.opening (xs ++ ys)) (λ x. has_later s.marks.opening xs ys x.id x.history x.claims) s.past h.past;
}

pub claimed_after_begin : (xs ys : List Step) (s : State) (t : ℕ) → AreClaimed xs s → AreClaimed (xs ++ ys) (after_begin s t)
claimed_after_begin xs ys s t h = let q = claimed_same xs ys s h in record {
  active = each_append (OfActive s.marks.opening (xs ++ ys)) s.active (new_active t ∷ []) q.active (record { sound = tt; written = tt; complete = λ k f. absurd (false≢true f) }, tt);
  stamped = q.stamped;
  past = q.past;
}

pub claimed_after_operation : (opening : Map) (xs : List Step) (s : State) (t : ℕ) (op : Op) (a : AnswerData) → IsSound s → IsSingle s → IsStarted s → IsAfterTrace opening xs s → AreClaimed xs s → AreClaimed (xs ++ Answers t op a ∷ []) (after_operation s t op a)
claimed_after_operation opening xs s t op a k n p st h = record {
  active = each_map (with_answer s t op a) (λ r. (history_of r.id xs ≡ r.history) × OfActive s.marks.opening xs r) (OfActive s.marks.opening (xs ++ Answers t op a ∷ [])) (λ r q. has_history opening xs s t op a r (r.id == t) refl q.0 k n p st q.1) s.active
      (each_both (λ r. history_of r.id xs ≡ r.history) (OfActive s.marks.opening xs) (λ r. (history_of r.id xs ≡ r.history) × OfActive s.marks.opening xs r) (λ r u v. (u, v)) s.active st.active h.active);
  stamped = (claimed_same xs (Answers t op a ∷ []) s h).stamped;
  past = (claimed_same xs (Answers t op a ∷ []) s h).past;
}

pub claimed_after_prepare : (xs ys : List Step) (s : State) (r : ActiveTx) (e : ℕ) → OfActive s.marks.opening xs r → AreClaimed xs s → AreClaimed (xs ++ ys) (after_prepare s r e)
claimed_after_prepare xs ys s r e mine h = let q = claimed_same xs ys s h in record {
  active = each_filter (λ v. not (v.id == r.id)) (OfActive s.marks.opening (xs ++ ys)) (OfActive s.marks.opening (xs ++ ys)) (λ v _ g. g) s.active q.active;
  stamped = each_append (OfStamped s.marks.opening (xs ++ ys)) s.stamped (to_stamped e r ∷ []) q.stamped (has_later s.marks.opening xs ys r.id r.history r.claims mine, tt);
  past = q.past;
}

pub claimed_after_check : (xs ys : List Step) (s : State) (e : ℕ) (v : Bool) → AreClaimed xs s → AreClaimed (xs ++ ys) (after_check s e v)
claimed_after_check xs ys s e v h = let q = claimed_same xs ys s h in record {
  active = q.active;
  stamped = each_map (with_check e v) (OfStamped s.marks.opening (xs ++ ys)) (OfStamped s.marks.opening (xs ++ ys)) (λ x g. g) s.stamped q.stamped;
  past = q.past;
}

pub claimed_after_commit : (xs ys : List Step) (s : State) (t e : ℕ) → AreClaimed xs s → AreClaimed (xs ++ ys) (after_commit s t e)
claimed_after_commit xs ys s t e h = let q = claimed_same xs ys s h in record {
  active = q.active;
  stamped = each_map (with_settled e) (OfStamped s.marks.opening (xs ++ ys)) (OfStamped s.marks.opening (xs ++ ys)) (λ x g. g) s.stamped q.stamped;
  past = q.past;
}

pub claimed_after_abort_of_active : (xs ys : List Step) (s : State) (t : ℕ) → AreClaimed xs s → AreClaimed (xs ++ ys) (after_abort_of_active s t)
claimed_after_abort_of_active xs ys s t h = let q = claimed_same xs ys s h in record {
  active = each_filter (λ v. not (v.id == t)) (OfActive s.marks.opening (xs ++ ys)) (OfActive s.marks.opening (xs ++ ys)) (λ v _ g. g) s.active q.active;
  stamped = q.stamped;
  past = q.past;
}

pub claimed_after_abort_of_preparing : (xs ys : List Step) (s : State) (t e : ℕ) → AreClaimed xs s → AreClaimed (xs ++ ys) (after_abort_of_preparing s t e)
claimed_after_abort_of_preparing xs ys s t e h = let q = claimed_same xs ys s h in record {
  active = each_map (active_with_flag t e) (OfActive s.marks.opening (xs ++ ys)) (OfActive s.marks.opening (xs ++ ys)) (λ r g. g) s.active q.active;
  stamped = each_map (with_flag t e) (OfStamped s.marks.opening (xs ++ ys)) (OfStamped s.marks.opening (xs ++ ys)) (λ x g. g) (filter (not_at e) s.stamped) (each_part (not_at e) (OfStamped s.marks.opening (xs ++ ys)) s.stamped q.stamped);
  past = q.past;
}

pub claimed_after_termination : (xs ys : List Step) (s : State) (t : ℕ) → AreClaimed xs s → AreClaimed (xs ++ ys) (after_termination s t)
claimed_after_termination xs ys s t h = let q = claimed_same xs ys s h in record { active = q.active; stamped = q.stamped; past = q.past }

pub claimed_after_trim : (xs : List Step) (s : State) (m : ℕ) → AreClaimed xs s → AreClaimed xs (after_trim s m)
claimed_after_trim xs s m h = record {
  active = h.active;
  stamped = each_part (λ x. not (is_to m x)) (OfStamped s.marks.opening xs) s.stamped h.stamped;
  past = each_append (OfStamped s.marks.opening xs) s.past (filter (is_to m) s.stamped) h.past (each_part (is_to m) (OfStamped s.marks.opening xs) s.stamped h.stamped);
}
