-- Claims are of the versions that stand for their transactions: each step keeps that.
use Rattle.std.proofs.Common.{◌≡◌, ◌≢◌, ℕ, ◌<◌, ◌≤◌, Bool, true, false, cond, not, List, [], ◌∷◌, ◌++◌, Option, None, Some, map, refl, sym, ap, ◌∙◌, subst, arith}
use Rattle.std.specs.Prelude.{nat_lt, ◌==◌, ◌&&◌, is_some}
use Rattle.std.specs.List.{AllByRecursion, filter}
use Rattle.std.proofs.lemmas.Bool.{false≢true, le-ltb}
use Rattle.mvo_types.specs.declared.row.RowKey.{RowKey}
use Rattle.mvo_types.specs.declared.op.Op.{Op}
use Rattle.mvo_types.specs.AnswerData.{AnswerData}
use Rattle.mvo_types.specs.Keys.{Map}
use Rattle.mvo_model.specs.History.{net_write}
use Rattle.mvo_theory.specs.State.{State, StampedTx, ActiveTx, Claim, timeline, opened}
use Rattle.mvo_theory.specs.Dependencies.{is_writer, last_writer}
use Rattle.mvo_theory.specs.Claims.{end_or, origin, ended_key, claims_with}
use Rattle.mvo_theory.specs.Changes.{new_active, after_begin, after_operation, with_answer, after_prepare, to_stamped, after_check, with_check, after_abort_of_active, after_termination, is_to, after_trim}
use Rattle.mvo_theory.specs.Sound.{IsActive, IsPlaced, IsPast, IsStarted, IsSound}
use Rattle.mvo_theory.specs.Origins.{settled_ones, settled_origin, HaveOrigins, HasOrigins}
use Rattle.mvo_theory.proofs.Each.{each_weaker, each_both, each_append, each_front, each_back, each_map, each_filter}
use Rattle.mvo_theory.proofs.Stamped.{each_part}
use Rattle.mvo_theory.proofs.Trim.{IsTrim, is_after, front_below, timeline_trimmed, origins_trimmed}
use Rattle.mvo_theory.proofs.Origins.{last_map, last_push, settles, same_origin, same_settled}

abbrev pub Of : State → ActiveTx → Type 0
Of s r = r.aborted_dependency ≡ None → HaveOrigins (origin s r.id) r.claims

abbrev pub OfPreparing : State → StampedTx → Type 0
OfPreparing s x = x.settled ≡ false → x.aborted_dependency ≡ None → HaveOrigins (origin s x.id) x.claims

abbrev pub OfSettled : State → StampedTx → Type 0
OfSettled s x = x.settled ≡ true → HaveOrigins (settled_origin s x.end) x.claims

abbrev pub IsBehind : List StampedTx → StampedTx → Type 0
IsBehind past x = x.settled ≡ false → AllByRecursion (λ z. z.end < x.id) past

-- the same origins
pub moved : (f g : RowKey → ℕ) (cs : List Claim) → ((k : RowKey) → f k ≡ g k) → HaveOrigins f cs → HaveOrigins g cs
moved f g cs e h = each_weaker (λ c. c.origin ≡ f c.key) (λ c. c.origin ≡ g c.key) (λ c q. q ∙ e c.key) cs h

pub origins_opened : (rows : Map) (mark : ℕ) → HasOrigins (opened rows mark)
origins_opened rows mark = record { active = tt; preparing = tt; settled = tt; behind = tt }

-- ---- begin, and an operation
pub origins_after_begin : (s : State) (t : ℕ) → HasOrigins s → HasOrigins (after_begin s t)
origins_after_begin s t h = record { active = each_append (Of s) s.active (new_active t ∷ []) h.active (λ _. tt, tt); preparing = h.preparing; settled = h.settled; behind = h.behind }

pub origins_after_operation : (s : State) (t : ℕ) (op : Op) (a : AnswerData) → HasOrigins s → HasOrigins (after_operation s t op a)
origins_after_operation s t op a h = record { active = each_map (with_answer s t op a) (Of s) (Of s) (λ r q n. go r (ended_key op a) (r.id == t) (q n)) s.active h.active; preparing = h.preparing; settled = h.settled; behind = h.behind }
  where
    more : (r : ActiveTx) (k : RowKey) (b : Bool) → HaveOrigins (origin s r.id) r.claims → HaveOrigins (origin s r.id) (cond b r.claims (r.claims ++ (record { key = k; origin = origin s r.id k }) ∷ []))
    more r k true q = q
    more r k false q = each_append (λ c. c.origin ≡ origin s r.id c.key) r.claims ((record { key = k; origin = origin s r.id k }) ∷ []) q (refl, tt)

    go : (r : ActiveTx) (w : Option RowKey) (b : Bool) → HaveOrigins (origin s r.id) r.claims → HaveOrigins (origin s r.id) (cond b (claims_with s r w) r.claims)
    go r w false q = q
    go r None true q = q
    go r (Some k) true q = more r k (is_some (net_write k r.history)) q

-- ---- precommit
pub and_false : (a b : Bool) → b ≡ false → (a && b) ≡ false
and_false true b e = e
and_false false b e = refl

pub not_below : (k : RowKey) (b : ℕ) (y : StampedTx) → b ≤ y.end → is_writer k b y ≡ false
not_below k b y le = ap (λ (c : Bool). c && is_some (net_write k y.history)) (le-ltb y.end b le)

pub origins_after_prepare : (s : State) (r : ActiveTx) (e : ℕ) → s.clock < e → IsActive s.base s.stamped s.clock r → Of s r → AllByRecursion (λ x. x.end ≢ r.id) s.past → s.start ≤ r.id → IsSound s → IsStarted s → HasOrigins s → HasOrigins (after_prepare s r e)
origins_after_prepare s r e lt mine of others begun sound p h = record {
  active = each_filter (λ q. not (q.id == r.id)) (λ q. IsActive s.base s.stamped s.clock q × Of s q) (Of now) (λ q _ w n. moved (origin s q.id) (origin now q.id) q.claims (λ k. still k q.id (let d = w.0.drawn in omega arith)) (w.1 n)) s.active
      (each_both (IsActive s.base s.stamped s.clock) (Of s) (λ q. IsActive s.base s.stamped s.clock q × Of s q) (λ q u v. (u, v)) s.active sound.active h.active);
  preparing = each_append (OfPreparing now) s.stamped (y ∷ [])
      (each_both (IsPlaced s.stamped s.clock) (OfPreparing s) (OfPreparing now) (λ x u v o n. moved (origin s x.id) (origin now x.id) x.claims (λ k. still k x.id (let d = u.drawn in let b = u.begun in omega arith)) (v o n)) s.stamped sound.placed h.preparing)
      (λ o n. moved (origin s r.id) (origin now r.id) r.claims (λ k. still k r.id (let d = mine.drawn in omega arith)) (of n), tt);
  settled = each_append (OfSettled now) s.past (s.stamped ++ y ∷ [])
      (each_weaker (OfSettled s) (OfSettled now) keep s.past (each_front (OfSettled s) s.past s.stamped h.settled))
      (each_append (OfSettled now) s.stamped (y ∷ []) (each_weaker (OfSettled s) (OfSettled now) keep s.stamped (each_back (OfSettled s) s.past s.stamped h.settled)) (λ o. absurd (false≢true o), tt));
  behind = each_append (IsBehind s.past) s.stamped (y ∷ []) h.behind
      (λ _. each_both (IsPast s.start) (λ x. x.end ≢ r.id) (λ z. z.end < r.id) (λ z u n. let l = u.until in omega arith) s.past p.past others, tt);
}
  where
    y : StampedTx
    y = to_stamped e r

    now : State
    now = after_prepare s r e

    still : (k : RowKey) (b : ℕ) → b ≤ s.clock → origin s b k ≡ origin (after_prepare s r e) b k
    still k b le = same_origin s.marks.opening s.past s.stamped (s.stamped ++ to_stamped e r ∷ []) k b (last_push (is_writer k b) s.stamped (to_stamped e r) (not_below k b (to_stamped e r) (omega arith)))

    keep : (x : StampedTx) → OfSettled s x → OfSettled (after_prepare s r e) x
    keep x q o = moved (settled_origin s x.end) (settled_origin (after_prepare s r e) x.end) x.claims (λ k. same_settled s.marks.opening s.past s.stamped (s.stamped ++ to_stamped e r ∷ []) k x.end (last_push (settles k x.end) s.stamped (to_stamped e r) refl)) (q o)

-- ---- a step that leaves the stamped ones alike
pub origins_alike : (s s' : State) (f : StampedTx → StampedTx) → s'.marks.opening ≡ s.marks.opening → s'.past ≡ s.past → s'.stamped ≡ map f s.stamped → ((x : StampedTx) → (f x).end ≡ x.end) → ((x : StampedTx) → (f x).settled ≡ x.settled) → ((x : StampedTx) → (f x).history ≡ x.history) →
    ((k : RowKey) (b : ℕ) → origin s b k ≡ origin s' b k) × ((k : RowKey) (b : ℕ) → settled_origin s b k ≡ settled_origin s' b k)
origins_alike s s' f mark past stamped ends open' ts = (
  λ k b. same_origin s.marks.opening s.past s.stamped (map f s.stamped) k b (last_map (is_writer k b) (is_writer k b) f ends s.stamped (all_of (λ x. is_writer k b (f x) ≡ is_writer k b x) (alike k b) s.stamped))
      ∙ ap (λ (m : ℕ). end_or m (last_writer k b (s.past ++ map f s.stamped))) (sym mark) ∙ ap (λ l. end_or s'.marks.opening (last_writer k b (l ++ map f s.stamped))) (sym past) ∙ ap (λ l. end_or s'.marks.opening (last_writer k b (s'.past ++ l))) (sym stamped),
  λ k b. same_settled s.marks.opening s.past s.stamped (map f s.stamped) k b (last_map (settles k b) (settles k b) f ends s.stamped (all_of (λ x. settles k b (f x) ≡ settles k b x) (λ x. ap (λ (c : Bool). c && is_writer k b (f x)) (open' x) ∙ ap (λ (c : Bool). x.settled && c) (alike k b x)) s.stamped))
      ∙ ap (λ (m : ℕ). end_or m (last_writer k b (settled_ones (s.past ++ map f s.stamped)))) (sym mark) ∙ ap (λ l. end_or s'.marks.opening (last_writer k b (settled_ones (l ++ map f s.stamped)))) (sym past) ∙ ap (λ l. end_or s'.marks.opening (last_writer k b (settled_ones (s'.past ++ l)))) (sym stamped),
)
  where
    all_of : (P : StampedTx → Type 0) → ((x : StampedTx) → P x) → (xs : List StampedTx) → AllByRecursion P xs
    all_of P g [] = tt
    all_of P g (x ∷ xs) = (g x, all_of P g xs)

    alike : (k : RowKey) (b : ℕ) (x : StampedTx) → is_writer k b (f x) ≡ is_writer k b x
    alike k b x = ap (λ (n : ℕ). nat_lt n b && is_some (net_write k (f x).history)) (ends x) ∙ ap (λ us. nat_lt x.end b && is_some (net_write k us)) (ts x)

-- ---- a check
pub origins_after_check : (s : State) (e : ℕ) (v : Bool) → HasOrigins s → HasOrigins (after_check s e v)
origins_after_check s e v h = record {
  active = each_weaker (Of s) (Of now) (λ r q n. moved (origin s r.id) (origin now r.id) r.claims (λ k. still.0 k r.id) (q n)) s.active h.active;
  preparing = each_map (with_check e v) (OfPreparing s) (OfPreparing now) (λ x q o n. moved (origin s x.id) (origin now x.id) x.claims (λ k. still.0 k x.id) (q o n)) s.stamped h.preparing;
  settled = each_append (OfSettled now) s.past (map (with_check e v) s.stamped)
      (each_weaker (OfSettled s) (OfSettled now) keep s.past (each_front (OfSettled s) s.past s.stamped h.settled))
      (each_map (with_check e v) (OfSettled s) (OfSettled now) keep s.stamped (each_back (OfSettled s) s.past s.stamped h.settled));
  behind = each_map (with_check e v) (IsBehind s.past) (IsBehind s.past) (λ x q. q) s.stamped h.behind;
}
  where
    now : State
    now = after_check s e v

    still : ((k : RowKey) (b : ℕ) → origin s b k ≡ origin (after_check s e v) b k) × ((k : RowKey) (b : ℕ) → settled_origin s b k ≡ settled_origin (after_check s e v) b k)
    still = origins_alike s (after_check s e v) (with_check e v) refl refl refl (λ x. refl) (λ x. refl) (λ x. refl)

    keep : (x : StampedTx) → OfSettled s x → OfSettled (after_check s e v) x
    keep x q o = moved (settled_origin s x.end) (settled_origin (after_check s e v) x.end) x.claims (λ k. still.1 k x.end) (q o)

-- ---- an abort
pub origins_after_abort_of_active : (s : State) (t : ℕ) → HasOrigins s → HasOrigins (after_abort_of_active s t)
origins_after_abort_of_active s t h = record { active = each_filter (λ q. not (q.id == t)) (Of s) (Of s) (λ q _ w. w) s.active h.active; preparing = h.preparing; settled = h.settled; behind = h.behind }

pub origins_after_termination : (s : State) (t : ℕ) → HasOrigins s → HasOrigins (after_termination s t)
origins_after_termination s t h = record { active = h.active; preparing = h.preparing; settled = h.settled; behind = h.behind }

-- ---- a trim
pub origins_after_trim : (s : State) (m : ℕ) → IsTrim m s → IsSound s → HasOrigins s → HasOrigins (after_trim s m)
origins_after_trim s m t sound h = record {
  active = each_weaker (Of s) (Of now) (λ r q n. moved (origin s r.id) (origin now r.id) r.claims (λ k. sym (origins_trimmed s m r.id k sound.rising)) (q n)) s.active h.active;
  preparing = each_part (is_after m) (OfPreparing now) s.stamped (each_weaker (OfPreparing s) (OfPreparing now) (λ x q o n. moved (origin s x.id) (origin now x.id) x.claims (λ k. sym (origins_trimmed s m x.id k sound.rising)) (q o n)) s.stamped h.preparing);
  settled = subst (AllByRecursion (OfSettled now)) (sym same) (each_weaker (OfSettled s) (OfSettled now) (λ x q o. moved (settled_origin s x.end) (settled_origin now x.end) x.claims (λ k. ap (λ l. end_or s.marks.opening (last_writer k x.end (settled_ones l))) (sym same)) (q o)) (timeline s) h.settled);
  behind = each_part (is_after m) (IsBehind (s.past ++ filter (is_to m) s.stamped)) s.stamped
      (each_both (IsPlaced s.stamped s.clock) (λ x. (x.settled ≡ false → m ≤ x.id) × IsBehind s.past x) (IsBehind (s.past ++ filter (is_to m) s.stamped)) (λ x u v o. each_append (λ z. z.end < x.id) s.past (filter (is_to m) s.stamped) (v.1 o) (front_below m x.id s.stamped (v.0 o) u.others)) s.stamped sound.placed
      (each_both (λ x. x.settled ≡ false → m ≤ x.id) (IsBehind s.past) (λ x. (x.settled ≡ false → m ≤ x.id) × IsBehind s.past x) (λ x a b. (a, b)) s.stamped t.preparing h.behind));
}
  where
    now : State
    now = after_trim s m

    same : timeline (after_trim s m) ≡ timeline s
    same = timeline_trimmed s m sound.rising
