-- Who ends at a timestamp by the trace is the one that does in the state.
use Rattle.std.proofs.Common.{◌≡◌, ℕ, Bool, true, false, cond, ◌||◌, List, [], ◌∷◌, refl, sym, ap, ◌∙◌, ◌⊎◌, inl, inr}
use Rattle.std.specs.Prelude.{◌==◌, ◌&&◌}
use Rattle.std.specs.List.{list_any}
use Rattle.std.proofs.lemmas.Bool.{false≢true, eqb-true, and_parts}
use Rattle.std.proofs.lemmas.List.Folds.{list_any-append}
use Rattle.mvo_types.specs.Keys.{Map}
use Rattle.mvo_model.specs.Trace.{Step}
use Rattle.mvo_theory.specs.State.{State, StampedTx, active_of, preparing_of, ended_of}
use Rattle.mvo_theory.specs.AfterTrace.{pairs}
use Rattle.mvo_theory.specs.Calls.{IsKept}
use Rattle.mvo_theory.proofs.Apart.{IsIn}
use Rattle.mvo_theory.proofs.Footprints.{any_right}
use Rattle.mvo_theory.proofs.Claimed.{in_pairs}
use Rattle.mvo_theory.proofs.LastWriter.{preparing_phase, preparing_there, found_in}
use Rattle.mvo_theory.proofs.Exact.{or_cases}
use Rattle.mvo_theory.specs.Ends.{EndsAt}

-- ---- from the state
pub ends_at : (opening : Map) (steps : List Step) (s : State) (x : StampedTx) → IsIn x s.stamped → IsKept opening steps s → EndsAt steps x.id x.end
ends_at opening steps s x m h = go x.settled refl
  where
    test : ℕ × ℕ → Bool
    test c = (c.0 == x.end) && (c.1 == x.id)

    go : (b : Bool) → x.settled ≡ b → EndsAt steps x.id x.end
    go false o = inl (h.after_trace.phases x.id ∙ preparing_phase s x m o h.single)
    go true o = inr (ap (list_any test) h.after_trace.tale ∙ any_right test (pairs s.past) (pairs s.stamped) (in_pairs s.stamped x m o))

-- ---- from the trace
pub data IsThere (xs : List StampedTx) (u e : ℕ) : Type 1 where
  There : (x : StampedTx) → IsIn x xs → x.id ≡ u → x.end ≡ e → IsThere xs u e

there_too : (x : StampedTx) (xs : List StampedTx) (u e : ℕ) → IsThere xs u e → IsThere (x ∷ xs) u e
there_too x xs u e (There y m i d) = There y (λ P h. m P h.1) i d

in_list : (xs : List StampedTx) (u e : ℕ) → list_any (λ (c : ℕ × ℕ). (c.0 == e) && (c.1 == u)) (pairs xs) ≡ true → IsThere xs u e
in_list [] u e h = absurd (false≢true h)
in_list (x ∷ xs) u e h = go x.settled h (λ q. in_list xs u e q)
  where
    test : ℕ × ℕ → Bool
    test c = (c.0 == e) && (c.1 == u)

    two : (b : Bool) → test (x.end, x.id) ≡ b → (b || list_any test (pairs xs)) ≡ true → (list_any test (pairs xs) ≡ true → IsThere xs u e) → IsThere (x ∷ xs) u e
    two true f g k = let p = and_parts (x.end == e) (x.id == u) f in There x (λ P q. q.0) (eqb-true x.id u p.1) (eqb-true x.end e p.0)
    two false f g k = there_too x xs u e (k g)

    go : (b : Bool) → list_any test (cond b ((x.end, x.id) ∷ pairs xs) (pairs xs)) ≡ true → (list_any test (pairs xs) ≡ true → IsThere xs u e) → IsThere (x ∷ xs) u e
    go true g k = two (test (x.end, x.id)) refl g k
    go false g k = there_too x xs u e (k g)

-- it is before the start of the tale, or stamped
pub data IsSomewhere (s : State) (u e : ℕ) : Type 1 where
  Past : IsThere s.past u e → IsSomewhere s u e
  Stamped : IsThere s.stamped u e → IsSomewhere s u e

pub somewhere : (opening : Map) (steps : List Step) (s : State) (u e : ℕ) → EndsAt steps u e → IsKept opening steps s → IsSomewhere s u e
somewhere opening steps s u e (inl p) h =
    let there = preparing_there (active_of u s.active) (preparing_of u s.stamped) (ended_of u s.ended) e (sym (h.after_trace.phases u) ∙ p) in
    let found = found_in u s.stamped there.0 there.1 in
    Stamped (There there.0 found.0 found.1 there.2)
somewhere opening steps s u e (inr c) h = go (or_cases (list_any test (pairs s.past)) (list_any test (pairs s.stamped)) (sym (list_any-append test (pairs s.past) (pairs s.stamped)) ∙ sym (ap (list_any test) h.after_trace.tale) ∙ c))
  where
    test : ℕ × ℕ → Bool
    test d = (d.0 == e) && (d.1 == u)

    go : (list_any test (pairs s.past) ≡ true) ⊎ (list_any test (pairs s.stamped) ≡ true) → IsSomewhere s u e
    go (inl a) = Past (in_list s.past u e a)
    go (inr b) = Stamped (in_list s.stamped u e b)
