-- The steps as the calls make them.
use Rattle.std.proofs.Common.{◌≡◌, ℕ, Bool, true, false, cond, not, List, [], ◌∷◌, ◌++◌, Option, None, Some, refl, sym, ap, ◌∙◌, subst}
use Rattle.std.specs.Prelude.{◌==◌, ◌&&◌}
use Rattle.std.specs.List.{AllByRecursion}
use Rattle.std.proofs.lemmas.Bool.{and_parts, not-true, eqb-true}
use Rattle.mvo_theory.specs.State.{State, StampedTx, preparing_of}
use Rattle.mvo_theory.specs.Changes.{after_commit}
use Rattle.mvo_theory.specs.Sound.{IsSound}
use Rattle.mvo_theory.proofs.Cases.{settle_none, if_stands, or_flagged, not_settled_at}
use Rattle.mvo_theory.specs.Causes.{why_not_settle, waiting_for}
use Rattle.mvo_theory.proofs.Causes.{waiting_none}
use Rattle.mvo_theory.proofs.Apart.{IsFreeToSettle}
use Rattle.mvo_theory.proofs.Ends.{settled_in}
use Rattle.mvo_theory.proofs.Below.{none_some, some_same}
use Rattle.mvo_types.specs.declared.refusal.Refusal.{Refusal}
use Rattle.mvo_types.specs.declared.refusal.Refusal.TheVariants.{NotValidated, DependencyAborted}

some_none : (w : Refusal) → ◌≡◌ {A = Option Refusal} (Some w) None → ⊥
some_none w q = cc

-- where it stands among the stamped ones
pub split_at : (t : ℕ) (stamped : List StampedTx) (x : StampedTx) → preparing_of t stamped ≡ Some x → (before : List StampedTx) × (after : List StampedTx) × (stamped ≡ before ++ x ∷ after) × (x.id ≡ t) × (x.settled ≡ false)
split_at t [] x h = absurd (none_some x h)
split_at t (y ∷ ys) x h = go ((y.id == t) && not y.settled) refl h (λ q. split_at t ys x q)
  where
    go : (b : Bool) → ((y.id == t) && not y.settled) ≡ b → cond b (Some y) (preparing_of t ys) ≡ Some x → (preparing_of t ys ≡ Some x → (before : List StampedTx) × (after : List StampedTx) × (ys ≡ before ++ x ∷ after) × (x.id ≡ t) × (x.settled ≡ false)) → (before : List StampedTx) × (after : List StampedTx) × (y ∷ ys ≡ before ++ x ∷ after) × (x.id ≡ t) × (x.settled ≡ false)
    go true f g r =
        let is = some_same y x g in
        let p = and_parts (y.id == t) (not y.settled) f in
        ([], ys, ap (λ (z : StampedTx). z ∷ ys) is, subst (λ (z : StampedTx). z.id ≡ t) is (eqb-true y.id t p.0), subst (λ (z : StampedTx). z.settled ≡ false) is (not-true y.settled p.1))
    go false f g r = let q = r g in (y ∷ q.0, q.1, ap (λ zs. y ∷ zs) q.2, q.3, q.4)

not_flagged_valid : (d : Option ℕ) (v : Bool) → or_flagged d (if_stands (not v) NotValidated None) ≡ None → (d ≡ None) × (v ≡ true)
not_flagged_valid (Some x) v h = absurd (some_none (DependencyAborted (record { 0 = x })) h)
not_flagged_valid None true h = (refl, refl)
not_flagged_valid None false h = absurd (some_none NotValidated h)

-- settle: where no refusal's cause stands and it waits for none, the commit keeps what a core keeps
pub sound_settled : (s : State) (t : ℕ) (x : StampedTx) → preparing_of t s.stamped ≡ Some x → why_not_settle s t ≡ None → waiting_for x.depends_on s.stamped ≡ None → IsSound s → IsSound (after_commit s t x.end)
sound_settled s t x f w n h =
    let p = split_at t s.stamped x f in
    let q = not_flagged_valid x.aborted_dependency x.valid (sym (ap (not_settled_at s t) f) ∙ settle_none s t w) in
    let there : IsSound (record s { stamped = p.0 ++ x ∷ p.1 }) = subst (λ (l : List StampedTx). IsSound (record s { stamped = l })) p.2 h in
    subst (λ (l : List StampedTx). IsSound (after_commit (record s { stamped = l }) t x.end)) (sym p.2)
    (subst (λ (i : ℕ). IsSound (after_commit (record s { stamped = p.0 ++ x ∷ p.1 }) i x.end)) p.3
    (settled_in s.start s.base s.past s.marks s.clock s.active p.0 p.1 x s.ended p.4 q.1 q.0 (subst (AllByRecursion _) p.2 (waiting_none x.depends_on s.stamped n)) there))

-- it is valid and isn't flagged, and none that it depends on is Preparing
pub free_settled : (s : State) (t : ℕ) (x : StampedTx) → preparing_of t s.stamped ≡ Some x → why_not_settle s t ≡ None → waiting_for x.depends_on s.stamped ≡ None → (x.aborted_dependency ≡ None) × (x.valid ≡ true) × IsFreeToSettle s.stamped x.depends_on
free_settled s t x f w n =
    let q = not_flagged_valid x.aborted_dependency x.valid (sym (ap (not_settled_at s t) f) ∙ settle_none s t w) in
    (q.0, q.1, waiting_none x.depends_on s.stamped n)
