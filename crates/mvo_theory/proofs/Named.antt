-- What the replies name: in the state, and in the trace.
use Rattle.std.proofs.Common.{◌≡◌, ◌≢◌, ℕ, ◌+◌, ◌≤◌, Bool, true, false, cond, not, List, [], ◌∷◌, Option, None, Some, refl, sym, ◌∙◌, subst, ◌⊎◌, inl, inr, arith}
use Rattle.std.specs.Prelude.{◌==◌, ◌&&◌}
use Rattle.std.specs.List.{AllByRecursion}
use Rattle.std.proofs.lemmas.Bool.{true≢false, eq-eqb}
use Rattle.mvo_types.specs.declared.cause.Cause.{Cause}
use Rattle.mvo_types.specs.declared.cause.Cause.TheVariants.{Active, Stamped}
use Rattle.mvo_types.specs.declared.row.RowKey.{RowKey}
use Rattle.mvo_types.specs.Keys.{Map}
use Rattle.mvo_model.specs.Trace.{Step}
use Rattle.mvo_theory.specs.State.{State, StampedTx, ActiveTx, active_of, preparing_of}
use Rattle.mvo_theory.specs.Dependencies.{has_end}
use Rattle.mvo_theory.specs.Claims.{has_claim, origin}
use Rattle.mvo_theory.specs.Causes.{active_claim, stamped_claim, or_cause, claimed_by, waiting_for}
use Rattle.mvo_theory.specs.Sound.{how_many, AreExclusive}
use Rattle.mvo_theory.specs.Traced.{HasAbortedDependency, IsTraced}
use Rattle.mvo_theory.specs.Calls.{IsKept}
use Rattle.mvo_theory.proofs.Each.{each_weaker}
use Rattle.mvo_theory.proofs.Apart.{IsIn}
use Rattle.mvo_theory.proofs.Commits.{split_at}
use Rattle.mvo_theory.proofs.LastWriter.{found_in, counted}
use Rattle.mvo_theory.proofs.Claims.{claims_it, claimed_it}
use Rattle.mvo_theory.proofs.Who.{active_holds}
use Rattle.mvo_theory.proofs.Stamped.{no_stamped}
use Rattle.mvo_theory.proofs.Depends.{same_stamped}

-- ---- Waiting names one that it depends on and that is Preparing
pub waiting_in : (ds : List ℕ) (xs : List StampedTx) (y : StampedTx) → waiting_for ds xs ≡ Some y → IsIn y xs
waiting_in ds [] y e = absurd (no_stamped y e)
waiting_in ds (x ∷ xs) y e = go (not x.settled && has_end ds x.end) e (λ g. waiting_in ds xs y g)
  where
    go : (b : Bool) → cond b (Some x) (waiting_for ds xs) ≡ Some y → (waiting_for ds xs ≡ Some y → IsIn y xs) → IsIn y (x ∷ xs)
    go true g r = λ P h. subst P (same_stamped x y g) h.0
    go false g r = λ P h. r g P h.1

-- ---- DependencyAborted names one that it depended on and that was aborted
pub flagged_active : (opening : Map) (steps : List Step) (s : State) (t u : ℕ) (r : ActiveTx) → active_of t s.active ≡ Some r → r.aborted_dependency ≡ Some u → IsKept opening steps s → HasAbortedDependency opening steps t u
flagged_active opening steps s t u r f d h =
    let mine = active_holds (λ q. IsTraced opening steps s.stamped q.id q.depends_on q.aborted_dependency) t s.active r f h.traced.active in
    subst (λ (i : ℕ). HasAbortedDependency opening steps i u) mine.1 (mine.0.flagged u d)

pub flagged_preparing : (opening : Map) (steps : List Step) (s : State) (t u : ℕ) (x : StampedTx) → preparing_of t s.stamped ≡ Some x → x.aborted_dependency ≡ Some u → IsKept opening steps s → HasAbortedDependency opening steps t u
flagged_preparing opening steps s t u x f d h =
    let mine = found_in t s.stamped x f in
    let traced = mine.0 (λ z. z.settled ≡ false → IsTraced opening steps s.stamped z.id z.depends_on z.aborted_dependency) h.traced.preparing (split_at t s.stamped x f).4 in
    subst (λ (i : ℕ). HasAbortedDependency opening steps i u) mine.1 (traced.flagged u d)

-- ---- WriteConflict names one that claims the version
-- it holds of one of these
abbrev pub HoldsOfOne : {X : Type 0} → (X → Type 0) → List X → Type 0
HoldsOfOne P [] = ⊥
HoldsOfOne P (x ∷ xs) = P x ⊎ HoldsOfOne P xs

pub none_cause : (c : Cause) → ◌≡◌ {A = Option Cause} None (Some c) → ⊥
none_cause c e = cc

same_cause : (c d : Cause) → ◌≡◌ {A = Option Cause} (Some c) (Some d) → c ≡ d
same_cause c d e = cc

pub active_is : (t : ℕ) (k : RowKey) (n : ℕ) (rs : List ActiveTx) (c : Cause) → active_claim t k n rs ≡ Some c → HoldsOfOne (λ (r : ActiveTx). (r.id ≢ t) × (has_claim r.claims k n ≡ true) × (c ≡ Active (record { 0 = r.id }))) rs
active_is t k n [] c e = absurd (none_cause c e)
active_is t k n (r ∷ rs) c e = go (r.id == t) refl (has_claim r.claims k n) refl e (active_is t k n rs c)
  where
    go : (a : Bool) → (r.id == t) ≡ a → (b : Bool) → has_claim r.claims k n ≡ b → cond (not a && b) (Some (Active (record { 0 = r.id }))) (active_claim t k n rs) ≡ Some c →
        (active_claim t k n rs ≡ Some c → HoldsOfOne (λ (q : ActiveTx). (q.id ≢ t) × (has_claim q.claims k n ≡ true) × (c ≡ Active (record { 0 = q.id }))) rs) →
        ((r.id ≢ t) × (has_claim r.claims k n ≡ true) × (c ≡ Active (record { 0 = r.id }))) ⊎ HoldsOfOne (λ (q : ActiveTx). (q.id ≢ t) × (has_claim q.claims k n ≡ true) × (c ≡ Active (record { 0 = q.id }))) rs
    go true f b g q w = inr (w q)
    go false f true g q w = inl ((λ i. true≢false (sym (eq-eqb r.id t i) ∙ f)), g, sym (same_cause (Active (record { 0 = r.id })) c q))
    go false f false g q w = inr (w q)

pub stamped_is : (k : RowKey) (n : ℕ) (xs : List StampedTx) (c : Cause) → stamped_claim k n xs ≡ Some c → HoldsOfOne (λ (x : StampedTx). (has_claim x.claims k n ≡ true) × (c ≡ Stamped (record { 0 = x.end }))) xs
stamped_is k n [] c e = absurd (none_cause c e)
stamped_is k n (x ∷ xs) c e = go (has_claim x.claims k n) refl e (stamped_is k n xs c)
  where
    go : (b : Bool) → has_claim x.claims k n ≡ b → cond b (Some (Stamped (record { 0 = x.end }))) (stamped_claim k n xs) ≡ Some c →
        (stamped_claim k n xs ≡ Some c → HoldsOfOne (λ (y : StampedTx). (has_claim y.claims k n ≡ true) × (c ≡ Stamped (record { 0 = y.end }))) xs) →
        ((has_claim x.claims k n ≡ true) × (c ≡ Stamped (record { 0 = x.end }))) ⊎ HoldsOfOne (λ (y : StampedTx). (has_claim y.claims k n ≡ true) × (c ≡ Stamped (record { 0 = y.end }))) xs
    go true g q w = inl (g, sym (same_cause (Stamped (record { 0 = x.end })) c q))
    go false g q w = inr (w q)

pub claimed_is : (s : State) (t : ℕ) (k : RowKey) (c : Cause) → claimed_by s t k ≡ Some c →
    HoldsOfOne (λ (r : ActiveTx). (r.id ≢ t) × (has_claim r.claims k (origin s t k) ≡ true) × (c ≡ Active (record { 0 = r.id }))) s.active ⊎ HoldsOfOne (λ (x : StampedTx). (has_claim x.claims k (origin s t k) ≡ true) × (c ≡ Stamped (record { 0 = x.end }))) s.stamped
claimed_is s t k c e = go (active_claim t k (origin s t k) s.active) (active_is t k (origin s t k) s.active c) e
  where
    go : (w : Option Cause) → (w ≡ Some c → HoldsOfOne (λ (r : ActiveTx). (r.id ≢ t) × (has_claim r.claims k (origin s t k) ≡ true) × (c ≡ Active (record { 0 = r.id }))) s.active) → or_cause w (stamped_claim k (origin s t k) s.stamped) ≡ Some c →
        HoldsOfOne (λ (r : ActiveTx). (r.id ≢ t) × (has_claim r.claims k (origin s t k) ≡ true) × (c ≡ Active (record { 0 = r.id }))) s.active ⊎ HoldsOfOne (λ (x : StampedTx). (has_claim x.claims k (origin s t k) ≡ true) × (c ≡ Stamped (record { 0 = x.end }))) s.stamped
    go (Some d) f q = inl (f q)
    go None f q = inr (stamped_is k (origin s t k) s.stamped c q)

-- and nobody else claims it
pub one_claims : (s : State) (k : RowKey) (n : ℕ) → AreExclusive s → AllByRecursion (λ r. claims_it k n r ≡ true → (how_many (claims_it k n) s.active ≡ 1) × AllByRecursion (λ x. claimed_it k n x ≡ false) s.stamped) s.active
one_claims s k n h = each_weaker (λ r. claims_it k n r ≡ true → 1 ≤ how_many (claims_it k n) s.active) (λ r. claims_it k n r ≡ true → (how_many (claims_it k n) s.active ≡ 1) × AllByRecursion (λ x. claimed_it k n x ≡ false) s.stamped)
    (λ r f e. let l = f e in let o = h k n in ((omega arith), each_weaker (λ x. claimed_it k n x ≡ true → 1 ≤ how_many (claimed_it k n) s.stamped) (λ x. claimed_it k n x ≡ false) (λ x g. go x (claimed_it k n x) refl g l o) s.stamped (counted (claimed_it k n) s.stamped))) s.active (counted (claims_it k n) s.active)
  where
    go : (x : StampedTx) (b : Bool) → claimed_it k n x ≡ b → (claimed_it k n x ≡ true → 1 ≤ how_many (claimed_it k n) s.stamped) → 1 ≤ how_many (claims_it k n) s.active → how_many (claims_it k n) s.active + how_many (claimed_it k n) s.stamped ≤ 1 → claimed_it k n x ≡ false
    go x false e g l o = e
    go x true e g l o = absurd (let m = g e in omega arith)
