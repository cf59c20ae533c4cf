-- A transaction that stands as aborted was aborted in the trace.
use Rattle.std.proofs.Common.{◌≡◌, ℕ, Bool, true, false, cond, ◌⊎◌, inl, inr, List, [], ◌∷◌, refl}
use Rattle.std.specs.Prelude.{◌==◌}
use Rattle.mvo_model.specs.Trace.{Step, Phase, owner_of, phase_after, phase_from, phase_of}
use Rattle.mvo_model.specs.Trace.Step.{Begins, Answers, Prepares, Checks, Commits, Aborts, Terminates}
use Rattle.mvo_model.specs.Trace.Phase.{Absent, Aborted as IsAborted}
use Rattle.mvo_theory.specs.Snapshots.{is_aborted}
use Rattle.mvo_theory.specs.Traced.{is_abort_of}
use Rattle.mvo_theory.proofs.Footprints.{or_left, or_right}

pub aborted_in : (u : ℕ) (p : Phase) (xs : List Step) → phase_from p u xs ≡ IsAborted → (p ≡ IsAborted) ⊎ (is_aborted u xs ≡ true)
aborted_in u p [] e = inl e
aborted_in u p (x ∷ xs) e = go (aborted_in u (cond (owner_of x == u) (phase_after x p) p) xs e)
  where
    owned : (y : Step) → (owner_of y == u) ≡ true → phase_after y p ≡ IsAborted → (p ≡ IsAborted) ⊎ (is_abort_of u y ≡ true)
    owned (Begins v) f q = absurd cc
    owned (Answers v op s) f q = inl q
    owned (Prepares v n) f q = absurd cc
    owned (Checks v) f q = inl q
    owned (Commits v n) f q = absurd cc
    owned (Aborts v) f q = inr f
    owned (Terminates v) f q = absurd cc

    now : (b : Bool) → (owner_of x == u) ≡ b → cond b (phase_after x p) p ≡ IsAborted → (p ≡ IsAborted) ⊎ (is_abort_of u x ≡ true)
    now true f q = owned x f q
    now false f q = inl q

    put : (p ≡ IsAborted) ⊎ (is_abort_of u x ≡ true) → (p ≡ IsAborted) ⊎ (is_aborted u (x ∷ xs) ≡ true)
    put (inl q) = inl q
    put (inr q) = inr (or_left (is_abort_of u x) (is_aborted u xs) q)

    go : (cond (owner_of x == u) (phase_after x p) p ≡ IsAborted) ⊎ (is_aborted u xs ≡ true) → (p ≡ IsAborted) ⊎ (is_aborted u (x ∷ xs) ≡ true)
    go (inl q) = put (now (owner_of x == u) refl q)
    go (inr q) = inr (or_right (is_abort_of u x) (is_aborted u xs) q)

pub is_gone : (u : ℕ) (xs : List Step) → phase_of u xs ≡ IsAborted → is_aborted u xs ≡ true
is_gone u xs e = go (aborted_in u Absent xs e)
  where
    go : (Absent ≡ IsAborted) ⊎ (is_aborted u xs ≡ true) → is_aborted u xs ≡ true
    go (inl q) = absurd cc
    go (inr q) = q
