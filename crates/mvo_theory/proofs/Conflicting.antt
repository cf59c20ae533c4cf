-- An update or a delete is refused with WriteConflict exactly where the trace has one that was first.
use Rattle.std.proofs.Common.{◌≡◌, ◌≢◌, ℕ, Bool, true, false, cond, not, ◌||◌, List, [], ◌∷◌, Option, None, Some, refl, sym, ap, ◌∙◌, subst, inl, inr}
use Rattle.std.specs.Prelude.{◌==◌, ◌&&◌, is_some}
use Rattle.std.specs.List.{AllByRecursion}
use Rattle.std.specs.Ordering.{eq_by_cmp}
use Rattle.std.specs.FinMap as fin
use Rattle.std.proofs.lemmas.Bool.{false≢true, eqb-true, eq-eqb, and_parts, and_from, not-true}
use Rattle.mvo_types.specs.declared.cause.Cause.{Cause}
use Rattle.mvo_types.specs.declared.cause.Cause.TheVariants.{Active, Stamped}
use Rattle.mvo_types.specs.declared.row.RowKey.{RowKey}
use Rattle.mvo_types.specs.Keys.{Map, key_cmp}
use Rattle.mvo_model.specs.History.{net_write}
use Rattle.mvo_model.specs.Trace.{Step, history_of}
use Rattle.mvo_model.specs.Trace.Phase.{Active as Runs}
use Rattle.mvo_theory.specs.State.{State, StampedTx, ActiveTx, Claim, active_of, preparing_of, ended_of, history_of_active, snapshot}
use Rattle.mvo_theory.specs.Claims.{has_claim, origin}
use Rattle.mvo_theory.specs.Causes.{claimed_by, conflict}
use Rattle.mvo_theory.specs.Phases.{phase_by, phase_in}
use Rattle.mvo_theory.specs.Claimed.{IsOrigin, IsClaimed, HasClaims}
use Rattle.mvo_theory.specs.Snapshots.{snapshot_of}
use Rattle.mvo_theory.specs.Calls.{IsKept}
use Rattle.mvo_theory.proofs.Each.{each_weaker}
use Rattle.mvo_theory.proofs.Footprints.{key_same}
use Rattle.mvo_theory.proofs.Apart.{IsIn}
use Rattle.mvo_theory.proofs.Cases.{found_is}
use Rattle.mvo_theory.proofs.Claimed.{origin_in_trace}
use Rattle.mvo_theory.proofs.Named.{HoldsOfOne, claimed_is, none_cause}
use Rattle.mvo_theory.proofs.Found.{found_active, found_stamped, found_past}
use Rattle.mvo_theory.proofs.Snapshots.{snapshots_traced}
use Rattle.mvo_theory.proofs.Who.{active_holds}
use Rattle.mvo_theory.specs.Conflicts.{IsNamed, IsInTheWay}
use Rattle.mvo_theory.proofs.Firsts.{active_found}
use Rattle.mvo_theory.proofs.There.{ends_at, There, IsSomewhere, Past, Stamped as Later, somewhere}

-- ---- a claim of the state is one of the trace
claim_in : (mark : ℕ) (steps : List Step) (u : ℕ) (cs : List Claim) (k : RowKey) (n : ℕ) → AllByRecursion (IsClaimed mark steps u) cs → has_claim cs k n ≡ true → IsClaimed mark steps u (record { key = k; origin = n })
claim_in mark steps u [] k n h e = absurd (false≢true e)
claim_in mark steps u (c ∷ cs) k n h e = go (eq_by_cmp key_cmp k c.key && (c.origin == n)) refl e (claim_in mark steps u cs k n h.1)
  where
    go : (b : Bool) → (eq_by_cmp key_cmp k c.key && (c.origin == n)) ≡ b → (b || has_claim cs k n) ≡ true → (has_claim cs k n ≡ true → IsClaimed mark steps u (record { key = k; origin = n })) → IsClaimed mark steps u (record { key = k; origin = n })
    go true f g r =
        let p = and_parts (eq_by_cmp key_cmp k c.key) (c.origin == n) f in
        subst (λ (j : RowKey). IsClaimed mark steps u (record { key = j; origin = n })) (key_same k c.key p.0)
        (subst (λ (o : ℕ). IsClaimed mark steps u (record { key = c.key; origin = o })) (eqb-true c.origin n p.1) h.0)
    go false f g r = r g

one_of : {X : Type 0} (P : X → Type 0) (R : Type 0) (xs : List X) → ((x : X) → IsIn x xs → P x → R) → HoldsOfOne P xs → R
one_of P R [] f h = absurd h
one_of P R (x ∷ xs) f (inl p) = f x (λ Q g. g.0) p
one_of P R (x ∷ xs) f (inr q) = one_of P R xs (λ y m. f y (λ Q g. m Q g.1)) q

active_phase : (s : State) (r : ActiveTx) → IsIn r s.active → phase_in s r.id ≡ Runs
active_phase s r m = go (active_of r.id s.active) refl
  where
    none_there : (rs : List ActiveTx) → AllByRecursion (λ (q : ActiveTx). q.id ≡ r.id → active_of r.id rs ≡ None → ⊥) rs
    none_there [] = tt
    none_there (q ∷ qs) = (here, each_weaker (λ (v : ActiveTx). v.id ≡ r.id → active_of r.id qs ≡ None → ⊥) (λ (v : ActiveTx). v.id ≡ r.id → cond (q.id == r.id) (Some q) (active_of r.id qs) ≡ None → ⊥) (λ v f e n. later (q.id == r.id) n (f e)) qs (none_there qs))
      where
        some_none : ◌≡◌ {A = Option ActiveTx} (Some q) None → ⊥
        some_none e = cc

        here : q.id ≡ r.id → cond (q.id == r.id) (Some q) (active_of r.id qs) ≡ None → ⊥
        here e n = some_none (sym (ap (λ (b : Bool). cond b (Some q) (active_of r.id qs)) (eq-eqb q.id r.id e)) ∙ n)

        later : (b : Bool) → cond b (Some q) (active_of r.id qs) ≡ None → (active_of r.id qs ≡ None → ⊥) → ⊥
        later true n f = some_none n
        later false n f = f n

    go : (w : Option ActiveTx) → active_of r.id s.active ≡ w → phase_by w (preparing_of r.id s.stamped) (ended_of r.id s.ended) ≡ Runs
    go (Some q) e = refl
    go None e = absurd (m (λ (q : ActiveTx). q.id ≡ r.id → active_of r.id s.active ≡ None → ⊥) (none_there s.active) refl e)

-- ---- whom the refusal names
pub named : (opening : Map) (steps : List Step) (s : State) (t : ℕ) (k : RowKey) (c : Cause) → claimed_by s t k ≡ Some c → IsKept opening steps s → IsNamed s.marks.opening steps t k c
named opening steps s t k c e h = elim (claimed_is s t k c e) [
  | inl a ↦ one_of (λ (r : ActiveTx). (r.id ≢ t) × (has_claim r.claims k (origin s t k) ≡ true) × (c ≡ Active (record { 0 = r.id }))) (IsNamed s.marks.opening steps t k c) s.active active a
  | inr b ↦ one_of (λ (x : StampedTx). (has_claim x.claims k (origin s t k) ≡ true) × (c ≡ Stamped (record { 0 = x.end }))) (IsNamed s.marks.opening steps t k c) s.stamped stamped b
]
  where
    now : IsOrigin s.marks.opening steps k t (origin s t k)
    now = origin_in_trace opening steps s k t h.sound h.single h.started h.after_trace

    active : (r : ActiveTx) → IsIn r s.active → (r.id ≢ t) × (has_claim r.claims k (origin s t k) ≡ true) × (c ≡ Active (record { 0 = r.id })) → IsNamed s.marks.opening steps t k c
    active r m p = subst (IsNamed s.marks.opening steps t k) (sym p.2) (
      p.0,
      h.after_trace.phases r.id ∙ active_phase s r m,
      record { origin = origin s t k; claimed = claim_in s.marks.opening steps r.id r.claims k (origin s t k) (m (λ q. HasClaims s.marks.opening steps q.id q.history q.claims) h.claimed.active).sound p.1; now = now },
    )

    stamped : (x : StampedTx) → IsIn x s.stamped → (has_claim x.claims k (origin s t k) ≡ true) × (c ≡ Stamped (record { 0 = x.end })) → IsNamed s.marks.opening steps t k c
    stamped x m p = subst (IsNamed s.marks.opening steps t k) (sym p.1) (
      x.id,
      ends_at opening steps s x m h,
      record { origin = origin s t k; claimed = claim_in s.marks.opening steps x.id x.claims k (origin s t k) (m (λ q. HasClaims s.marks.opening steps q.id q.history q.claims) h.claimed.stamped).sound p.0; now = now },
    )

-- ---- and nobody stands in the way where it isn't answered
not_named : (opening : Map) (steps : List Step) (s : State) (t : ℕ) (k : RowKey) (c : Cause) (r : ActiveTx) → active_of t s.active ≡ Some r → claimed_by s t k ≡ None → IsKept opening steps s → IsNamed s.marks.opening steps t k c → ⊥
not_named opening steps s t k (Active u) r f none h (ne, phase, first) =
    let there = active_found (active_of u.0 s.active) (preparing_of u.0 s.stamped) (ended_of u.0 s.ended) (sym (h.after_trace.phases u.0) ∙ phase) in
    let a = active_holds (λ (q : ActiveTx). q.id ≢ t → IsClaimed s.marks.opening steps q.id (record { key = k; origin = first.origin }) → claimed_by s t k ≡ None → ⊥) u.0 s.active there.0 there.1 (found_active opening steps s t first.origin k h first.now) in
    a.0 (λ i. ne (sym a.1 ∙ i)) (subst (λ (v : ℕ). IsClaimed s.marks.opening steps v (record { key = k; origin = first.origin })) (sym a.1) first.claimed) none
not_named opening steps s t k (Stamped e) r f none h (u, ends, first) = go (somewhere opening steps s u e.0 ends h)
  where
    go : IsSomewhere s u e.0 → ⊥
    go (Later (There y my i d)) =
        my (λ (x : StampedTx). IsClaimed s.marks.opening steps x.id (record { key = k; origin = first.origin }) → claimed_by s t k ≡ None → ⊥) (found_stamped opening steps s t first.origin k h first.now)
        (subst (λ (v : ℕ). IsClaimed s.marks.opening steps v (record { key = k; origin = first.origin })) (sym i) first.claimed) none
    go (Past (There z mz i d)) =
        let a = active_holds (λ (q : ActiveTx). IsOrigin s.marks.opening steps k q.id first.origin → AllByRecursion (λ (x : StampedTx). IsClaimed s.marks.opening steps x.id (record { key = k; origin = first.origin }) → ⊥) s.past) t s.active r f (found_past opening steps s first.origin k h) in
        mz (λ (x : StampedTx). IsClaimed s.marks.opening steps x.id (record { key = k; origin = first.origin }) → ⊥) (a.0 (subst (λ (v : ℕ). IsOrigin s.marks.opening steps k v first.origin) (sym a.1) first.now))
        (subst (λ (v : ℕ). IsClaimed s.marks.opening steps v (record { key = k; origin = first.origin })) (sym i) first.claimed)

-- ---- what an Active transaction has done, and sees
pub told_so : (opening : Map) (steps : List Step) (s : State) (t : ℕ) (r : ActiveTx) → active_of t s.active ≡ Some r → IsKept opening steps s → history_of_active t s.active ≡ history_of t steps
told_so opening steps s t r f h =
    let a = active_holds (λ q. history_of q.id steps ≡ q.history) t s.active r f h.after_trace.active in
    (found_is t s.active r f).1 ∙ sym a.0 ∙ ap (λ (v : ℕ). history_of v steps) a.1

sees_so : (opening : Map) (steps : List Step) (s : State) (t : ℕ) (r : ActiveTx) → active_of t s.active ≡ Some r → IsKept opening steps s → snapshot s t ≡ snapshot_of opening steps t
sees_so opening steps s t r f h =
    let a = active_holds (λ (q : ActiveTx). snapshot s q.id ≡ snapshot_of opening steps q.id) t s.active r f (snapshots_traced opening steps s h) in
    subst (λ (v : ℕ). snapshot s v ≡ snapshot_of opening steps v) a.1 a.0

-- ---- the conflict
pub conflict_stands : (opening : Map) (steps : List Step) (s : State) (t : ℕ) (k : RowKey) (c : Cause) (r : ActiveTx) → active_of t s.active ≡ Some r → conflict s t k ≡ Some c → IsKept opening steps s → IsInTheWay opening s.marks.opening steps t k c
conflict_stands opening steps s t k c r f e h = go (fin.contains_key (snapshot s t) k && not (is_some (net_write k (history_of_active t s.active)))) refl e
  where
    go : (b : Bool) → (fin.contains_key (snapshot s t) k && not (is_some (net_write k (history_of_active t s.active)))) ≡ b → cond b (claimed_by s t k) None ≡ Some c → IsInTheWay opening s.marks.opening steps t k c
    go false g q = absurd (none_cause c q)
    go true g q =
        let p = and_parts (fin.contains_key (snapshot s t) k) (not (is_some (net_write k (history_of_active t s.active)))) g in
        record {
          stands = sym (ap (λ (m : Map). fin.contains_key m k) (sees_so opening steps s t r f h)) ∙ p.0;
          unwritten = sym (ap (λ ts. is_some (net_write k ts)) (told_so opening steps s t r f h)) ∙ not-true (is_some (net_write k (history_of_active t s.active))) p.1;
          named = named opening steps s t k c q h;
        }

pub no_conflict : (opening : Map) (steps : List Step) (s : State) (t : ℕ) (k : RowKey) (c : Cause) (r : ActiveTx) → active_of t s.active ≡ Some r → conflict s t k ≡ None → IsKept opening steps s → IsInTheWay opening s.marks.opening steps t k c → ⊥
no_conflict opening steps s t k c r f e h d = not_named opening steps s t k c r f (sym (ap (λ (b : Bool). cond b (claimed_by s t k) None) both) ∙ e) h d.named
  where
    both : (fin.contains_key (snapshot s t) k && not (is_some (net_write k (history_of_active t s.active)))) ≡ true
    both = and_from (fin.contains_key (snapshot s t) k) (not (is_some (net_write k (history_of_active t s.active)))) (ap (λ (m : Map). fin.contains_key m k) (sees_so opening steps s t r f h) ∙ d.stands)
        (ap not (ap (λ ts. is_some (net_write k ts)) (told_so opening steps s t r f h) ∙ d.unwritten))
