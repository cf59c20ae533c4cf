-- What an accepted call is answered, by the trace.
use Rattle.std.proofs.Common.{◌≡◌, ℕ, ◌+◌, Bool, true, false, ◌||◌, List, None, length, refl, sym, ap, ◌∙◌, arith}
use Rattle.std.specs.Prelude.{nat_lt, nat_le, ◌&&◌}
use Rattle.std.proofs.lemmas.Bool.{and_parts, leb-true, le-leb}
use Rattle.mvo_types.specs.Keys.{Map}
use Rattle.mvo_model.specs.Trace.{Step, history_of, phase_of}
use Rattle.mvo_model.specs.Trace.Phase.{Preparing}
use Rattle.mvo_theory.specs.Entries.{entries}
use Rattle.mvo_theory.specs.State.{State, StampedTx}
use Rattle.mvo_theory.specs.Causes.{why_not_validate, why_not_settle, end_at, end_of}
use Rattle.mvo_theory.specs.Steps.{has_last_check, is_valid_at, is_valid_now}
use Rattle.mvo_theory.specs.Calls.{IsKept}
use Rattle.mvo_theory.proofs.Commits.{split_at}
use Rattle.mvo_theory.proofs.LastWriter.{found_in, preparing_phase}
use Rattle.mvo_theory.proofs.Who.{preparing_after_check, preparing_settled}
use Rattle.mvo_theory.specs.Counts.{draws, checks_in}
use Rattle.mvo_theory.specs.Counted.{HasChecks, HasCounts}

-- ---- the next timestamp
pub next_drawn : (mark : ℕ) (steps : List Step) (s : State) (n : ℕ) → HasCounts mark steps s → n ≡ s.clock + 1 → n ≡ mark + draws steps + 1
next_drawn mark steps s n h e = let k = h.clock in omega (arith, e, k)

-- ---- whether a check answers Valid
last_check : (x : StampedTx) (n : ℕ) → (nat_lt 0 n && nat_le (length (entries x.history)) n) ≡ x.valid → (x.valid ≡ false → x.checked ≡ n) → has_last_check x ≡ nat_le (length (entries x.history)) (n + 1)
last_check x n v c = go x.valid refl
  where
    go : (b : Bool) → x.valid ≡ b → (b || nat_le (length (entries x.history)) (x.checked + 1)) ≡ nat_le (length (entries x.history)) (n + 1)
    go true e =
        let p = and_parts (nat_lt 0 n) (nat_le (length (entries x.history)) n) (v ∙ e) in
        let le = leb-true (length (entries x.history)) n p.1 in
        sym (le-leb (length (entries x.history)) (n + 1) (omega (arith, le)))
    go false e = ap (λ (i : ℕ). nat_le (length (entries x.history)) (i + 1)) (c e)

pub valid_is : (opening : Map) (mark : ℕ) (steps : List Step) (s : State) (t : ℕ) → why_not_validate s t ≡ None → IsKept opening steps s → HasCounts mark steps s → is_valid_now s t ≡ nat_le (length (entries (history_of t steps))) (checks_in t steps + 1)
valid_is opening mark steps s t w k h =
    let found = preparing_after_check s t w in
    let x = found.0 in
    let m = found_in t s.stamped x found.1 in
    let checks = m.0 (λ y. y.settled ≡ false → HasChecks steps y) h.preparing (split_at t s.stamped x found.1).4 in
    ap is_valid_at found.1
    ∙ last_check x (checks_in x.id steps) checks.valid checks.checked
    ∙ ap (λ ts. nat_le (length (entries ts)) (checks_in x.id steps + 1)) (sym (m.0 (λ y. history_of y.id steps ≡ y.history) k.after_trace.stamped))
    ∙ ap (λ (u : ℕ). nat_le (length (entries (history_of u steps))) (checks_in u steps + 1)) m.1

-- ---- what a settlement names
pub settles_so : (opening : Map) (steps : List Step) (s : State) (t : ℕ) → why_not_settle s t ≡ None → IsKept opening steps s → phase_of t steps ≡ Preparing (end_of s t)
settles_so opening steps s t w k =
    let found = preparing_settled s t w in
    let x = found.0 in
    let m = found_in t s.stamped x found.1 in
    ap (λ (u : ℕ). phase_of u steps) (sym m.1) ∙ k.after_trace.phases x.id ∙ preparing_phase s x m.0 (split_at t s.stamped x found.1).4 k.single ∙ ap Preparing (sym (ap end_at found.1))
