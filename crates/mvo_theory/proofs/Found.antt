-- Whom the trace says to be the first to end the version, the state finds: so update and delete are refused with WriteConflict exactly where there is one.
use Rattle.std.proofs.Common.{◌≡◌, ◌≢◌, ℕ, ◌<◌, ◌≤◌, Bool, true, false, cond, ◌||◌, List, [], ◌∷◌, ◌++◌, Option, None, Some, refl, sym, ap, ◌∙◌, subst, arith, append_assoc}
use Rattle.std.specs.Prelude.{◌==◌, ◌&&◌, is_some}
use Rattle.std.specs.List.{AllByRecursion, list_any}
use Rattle.std.specs.Ordering.{eq_by_cmp}
use Rattle.std.proofs.lemmas.Bool.{true≢false, eqb-true, eq-eqb, and_from}
use Rattle.mvo_types.specs.declared.op.Op.{Op}
use Rattle.mvo_types.specs.declared.row.RowKey.{RowKey}
use Rattle.mvo_types.specs.Keys.{Map, key_cmp}
use Rattle.mvo_types.specs.AnswerData.{AnswerData}
use Rattle.mvo_types.specs.Write.{Effect}
use Rattle.mvo_model.specs.History.{History, write_of, write_at, later, net_write}
use Rattle.mvo_model.specs.Trace.{Step, history_by, history_of}
use Rattle.mvo_model.specs.Trace.Step.{Answers}
use Rattle.mvo_theory.specs.State.{State, StampedTx, ActiveTx, Claim}
use Rattle.mvo_theory.specs.Claims.{ended_key, has_claim, origin}
use Rattle.mvo_theory.specs.Causes.{active_claim, stamped_claim, claimed_by}
use Rattle.mvo_theory.specs.Sound.{IsPast}
use Rattle.mvo_theory.specs.Claimed.{IsOrigin, IsClaimed, is_ended_first, HasClaims}
use Rattle.mvo_theory.specs.Calls.{IsKept}
use Rattle.mvo_theory.proofs.Each.{each_weaker, each_front}
use Rattle.mvo_theory.proofs.Footprints.{or_left, or_right, key_same}
use Rattle.mvo_theory.proofs.Apart.{each_in}
use Rattle.mvo_theory.proofs.Claims.{or_none, others_none, stamped_none}
use Rattle.mvo_theory.proofs.ClaimSteps.{ended_written}
use Rattle.mvo_theory.proofs.Claimed.{origin_in_trace}
use Rattle.mvo_theory.proofs.Converse.{one_origin, one_claim}
use Rattle.mvo_theory.proofs.AfterTrace.{rising_all}
use Rattle.mvo_theory.proofs.TrimReplies.{old_claim}

-- ---- the first writing answer, among its answers
none_first : (a b : Option Effect) → is_some (later a b) ≡ false → is_some a ≡ false
none_first None b h = refl
none_first (Some x) b h = absurd (true≢false h)

none_second : (a b : Option Effect) → is_some (later a b) ≡ false → is_some b ≡ false
none_second None b h = h
none_second (Some x) b h = absurd (true≢false h)

ended_at : (k : RowKey) (ts us : History) (op : Op) (a : AnswerData) → is_some (net_write k ts) ≡ false → ended_key op a ≡ Some k → is_ended_first k (ts ++ (op, a) ∷ us) ≡ true
ended_at k [] us op a n e = ap (λ (b : Bool). cond b (is_some (ended_key op a)) (is_ended_first k us)) (ended_written op a k e) ∙ ap is_some e
ended_at k (t ∷ ts) us op a n e =
    ap (λ (b : Bool). cond b (is_some (ended_key t.0 t.1)) (is_ended_first k (ts ++ (op, a) ∷ us))) (none_second (net_write k ts) (write_at k (write_of t.0 t.1)) n)
    ∙ ended_at k ts us op a (none_first (net_write k ts) (write_at k (write_of t.0 t.1)) n) e

pub history_of-append : (u : ℕ) (xs ys : List Step) → history_of u (xs ++ ys) ≡ history_of u xs ++ history_of u ys
history_of-append u [] ys = refl
history_of-append u (x ∷ xs) ys = ap (λ ts. history_by x u ++ ts) (history_of-append u xs ys) ∙ sym (append_assoc (history_by x u) (history_of u xs) (history_of u ys))

ended_history : (mark : ℕ) (steps : List Step) (u : ℕ) (k : RowKey) (n : ℕ) → IsClaimed mark steps u (record { key = k; origin = n }) → is_ended_first k (history_of u steps) ≡ true
ended_history mark steps u k n h =
    ap (is_ended_first k) (ap (history_of u) h.then' ∙ history_of-append u h.before (Answers u h.op h.answer ∷ h.after) ∙ ap (λ (b : Bool). history_of u h.before ++ (cond b ((h.op, h.answer) ∷ []) [] ++ history_of u h.after)) (eq-eqb u u refl))
    ∙ ended_at k (history_of u h.before) (history_of u h.after) h.op h.answer h.first h.answered

-- ---- the state has the claim
any_more : {X : Type 0} (p q : X → Bool) (xs : List X) → AllByRecursion (λ x. p x ≡ true → q x ≡ true) xs → list_any p xs ≡ true → list_any q xs ≡ true
any_more p q [] h e = e
any_more p q (x ∷ xs) h e = go (p x) refl e (any_more p q xs h.1)
  where
    go : (b : Bool) → p x ≡ b → (b || list_any p xs) ≡ true → (list_any p xs ≡ true → list_any q xs ≡ true) → (q x || list_any q xs) ≡ true
    go true f g r = or_left (q x) (list_any q xs) (h.0 f)
    go false f g r = or_right (q x) (list_any q xs) (r g)

has_it_too : (mark : ℕ) (steps : List Step) (u : ℕ) (history : History) (cs : List Claim) (k : RowKey) (n : ℕ) → history_of u steps ≡ history → HasClaims mark steps u history cs → IsClaimed mark steps u (record { key = k; origin = n }) → has_claim cs k n ≡ true
has_it_too mark steps u history cs k n e h p =
    any_more (λ c. eq_by_cmp key_cmp k c.key) (λ c. eq_by_cmp key_cmp k c.key && (c.origin == n)) cs
    (each_weaker (IsClaimed mark steps u) (λ c. eq_by_cmp key_cmp k c.key ≡ true → (eq_by_cmp key_cmp k c.key && (c.origin == n)) ≡ true) (λ c q f. and_from (eq_by_cmp key_cmp k c.key) (c.origin == n) f
    (eq-eqb c.origin n (one_claim mark steps u k c.origin n (subst (λ (j : RowKey). IsClaimed mark steps u (record { key = j; origin = c.origin })) (key_same k c.key f) q) p))) cs h.sound)
    (h.complete k (sym (ap (is_ended_first k) e) ∙ ended_history mark steps u k n p))

-- ---- so it is found
pub found_active : (opening : Map) (steps : List Step) (s : State) (t n : ℕ) (k : RowKey) → IsKept opening steps s → IsOrigin s.marks.opening steps k t n →
    AllByRecursion (λ (r : ActiveTx). r.id ≢ t → IsClaimed s.marks.opening steps r.id (record { key = k; origin = n }) → claimed_by s t k ≡ None → ⊥) s.active
found_active opening steps s t n k h o = each_in (λ (r : ActiveTx). r.id ≢ t → IsClaimed s.marks.opening steps r.id (record { key = k; origin = n }) → claimed_by s t k ≡ None → ⊥) s.active (λ r m ne p none.
    let now = one_origin s.marks.opening steps k t n (origin s t k) o (origin_in_trace opening steps s k t h.sound h.single h.started h.after_trace) in
    let mine = has_it_too s.marks.opening steps r.id r.history r.claims k n (m (λ q. history_of q.id steps ≡ q.history) h.after_trace.active) (m (λ q. HasClaims s.marks.opening steps q.id q.history q.claims) h.claimed.active) p in
    let c = or_none (active_claim t k (origin s t k) s.active) (stamped_claim k (origin s t k) s.stamped) none in
    ne (eqb-true r.id t (m (λ q. has_claim q.claims k (origin s t k) ≡ true → (q.id == t) ≡ true) (others_none t k (origin s t k) s.active c.0) (subst (λ (i : ℕ). has_claim r.claims k i ≡ true) now mine))))

pub found_stamped : (opening : Map) (steps : List Step) (s : State) (t n : ℕ) (k : RowKey) → IsKept opening steps s → IsOrigin s.marks.opening steps k t n →
    AllByRecursion (λ (x : StampedTx). IsClaimed s.marks.opening steps x.id (record { key = k; origin = n }) → claimed_by s t k ≡ None → ⊥) s.stamped
found_stamped opening steps s t n k h o = each_in (λ (x : StampedTx). IsClaimed s.marks.opening steps x.id (record { key = k; origin = n }) → claimed_by s t k ≡ None → ⊥) s.stamped (λ x m p none.
    let now = one_origin s.marks.opening steps k t n (origin s t k) o (origin_in_trace opening steps s k t h.sound h.single h.started h.after_trace) in
    let mine = has_it_too s.marks.opening steps x.id x.history x.claims k n (m (λ y. history_of y.id steps ≡ y.history) h.after_trace.stamped) (m (λ y. HasClaims s.marks.opening steps y.id y.history y.claims) h.claimed.stamped) p in
    let c = or_none (active_claim t k (origin s t k) s.active) (stamped_claim k (origin s t k) s.stamped) none in
    true≢false (sym (subst (λ (i : ℕ). has_claim x.claims k i ≡ true) now mine) ∙ m (λ y. has_claim y.claims k (origin s t k) ≡ false) (stamped_none k (origin s t k) s.stamped c.1)))

-- none before the start is such a one for an Active transaction
pub found_past : (opening : Map) (steps : List Step) (s : State) (n : ℕ) (k : RowKey) → IsKept opening steps s → AllByRecursion (λ (r : ActiveTx). IsOrigin s.marks.opening steps k r.id n → AllByRecursion (λ (x : StampedTx). IsClaimed s.marks.opening steps x.id (record { key = k; origin = n }) → ⊥) s.past) s.active
found_past opening steps s n k h = each_in (λ (r : ActiveTx). IsOrigin s.marks.opening steps k r.id n → AllByRecursion (λ (x : StampedTx). IsClaimed s.marks.opening steps x.id (record { key = k; origin = n }) → ⊥) s.past) s.active (λ r i o.
    let now = one_origin s.marks.opening steps k r.id n (origin s r.id k) o (origin_in_trace opening steps s k r.id h.sound h.single h.started h.after_trace) in
    let start = i (λ q. s.start ≤ q.id) h.started.begun in
    each_in (λ (x : StampedTx). IsClaimed s.marks.opening steps x.id (record { key = k; origin = n }) → ⊥) s.past (λ x m p.
    let old = m (IsPast s.start) h.started.past in
    let stamped = old.until in
    let other = m (λ y. y.end ≢ r.id) (i (λ q. AllByRecursion (λ y. y.end ≢ q.id) s.past) h.has_ends.others) in
    let claims = m (λ y. HasClaims s.marks.opening steps y.id y.history y.claims) h.claimed.past in
    let mine = has_it_too s.marks.opening steps x.id x.history x.claims k n (m (λ y. history_of y.id steps ≡ y.history) h.after_trace.past) claims p in
    let none = old_claim steps s k r.id x (λ P g. m P (each_front P s.past s.stamped g)) (rising_all s h.sound h.started) claims (m (λ y. s.marks.opening < y.end) h.started.after) old.begun (omega arith) in
    true≢false (sym (subst (λ (v : ℕ). has_claim x.claims k v ≡ true) now mine) ∙ none)))
