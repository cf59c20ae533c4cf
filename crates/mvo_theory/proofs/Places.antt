-- Each committed transaction has its place, also one that wrote nothing.
use Rattle.std.proofs.Common.{◌≡◌, ℕ, ◌≤◌, Bool, true, false, cond, List, [], ◌∷◌, ◌++◌, Option, None, Some, length, refl, subst, arith}
use Rattle.std.specs.Prelude.{◌==◌, not}
use Rattle.std.specs.List.{list_any}
use Rattle.std.specs.Option.{option_map}
use Rattle.std.specs.Ordering.{eq_by_cmp}
use Rattle.std.proofs.lemmas.Bool.{eqb-true, true≢false}
use Rattle.std.proofs.lemmas.List.{length-append}
use Rattle.mvo_types.specs.declared.row.RowKey.{RowKey}
use Rattle.mvo_types.specs.Keys.{Map, key_cmp}
use Rattle.mvo_types.specs.Write.{Write}
use Rattle.mvo_model.specs.History.{History, AreSerial, write_of, after_write, after_history}
use Rattle.mvo_model.specs.Trace.{Step, phase_of}
use Rattle.mvo_theory.specs.Entries.{noted, noted_key, written_from, written_keys}
use Rattle.mvo_theory.specs.State.{State, StampedTx, after_settled, timeline}
use Rattle.mvo_theory.specs.Sound.{IsLegal}
use Rattle.mvo_theory.specs.Phases.{phase_in}
use Rattle.mvo_theory.specs.Groups.{is_writing}
use Rattle.mvo_theory.specs.Calls.{IsKept}
use Rattle.mvo_theory.proofs.Tales.{legal_append}

-- ---- by end timestamp
placed_in : (m : Map) (before after : List StampedTx) (x : StampedTx) → IsLegal m (before ++ x ∷ after) → x.settled ≡ true → AreSerial x.history (after_settled before m)
placed_in m [] after x h e = (h.0 e).0
placed_in m (y ∷ before) after x h e = placed_in (after_history (cond y.settled y.history []) m) before after x h.1 e

-- its answers are the serial ones on the rows after those that are committed with a smaller end
pub place_of : (opening : Map) (steps : List Step) (s : State) (before after : List StampedTx) (x : StampedTx) → IsKept opening steps s → timeline s ≡ before ++ x ∷ after → x.settled ≡ true → AreSerial x.history (after_settled before opening)
place_of opening steps s before after x h e c =
    placed_in opening before after x (subst (IsLegal opening) e (legal_append opening s.past s.stamped h.after_trace.legal (subst (λ (m : Map). IsLegal m s.stamped) h.after_trace.base h.sound.legal))) c

-- each transaction stands where the trace says: a refusal 20, 21 or 22 is an abort
pub phase_traced : (opening : Map) (steps : List Step) (s : State) (t : ℕ) → IsKept opening steps s → phase_of t steps ≡ phase_in s t
phase_traced opening steps s t h = h.after_trace.phases t

-- ---- one that wrote nothing leaves the rows
noted_less : (ks : List RowKey) (k : RowKey) → length ks ≤ length (noted ks k)
noted_less ks k = go (list_any (eq_by_cmp key_cmp k) ks)
  where
    go : (b : Bool) → length ks ≤ length (cond b ks (ks ++ k ∷ []))
    go true = omega arith
    go false = let e = length-append ks (k ∷ []) in omega arith

written_less : (ks : List RowKey) (ts : History) → length ks ≤ length (written_from ks ts)
written_less ks [] = omega arith
written_less ks (t ∷ ts) =
    let rest = written_less (noted_key ks (option_map (λ (w : Write). w.0) (write_of t.0 t.1))) ts in
    let one = go (option_map (λ (w : Write). w.0) (write_of t.0 t.1)) in
    omega arith
  where
    go : (w : Option RowKey) → length ks ≤ length (noted_key ks w)
    go None = omega arith
    go (Some k) = noted_less ks k

idle_from : (ts : History) (m : Map) → length (written_from [] ts) ≡ 0 → after_history ts m ≡ m
idle_from [] m h = refl
idle_from (t ∷ ts) m h = go (write_of t.0 t.1) h (λ e. idle_from ts m e)
  where
    go : (w : Option Write) → length (written_from (noted_key [] (option_map (λ (v : Write). v.0) w)) ts) ≡ 0 → (length (written_from [] ts) ≡ 0 → after_history ts m ≡ m) → after_history ts (after_write w m) ≡ m
    go None e r = r e
    go (Some v) e r = absurd (let l = written_less (v.0 ∷ []) ts in omega arith)

not_not : (b : Bool) → not b ≡ false → b ≡ true
not_not true e = refl
not_not false e = absurd (true≢false e)

pub idle_leaves : (n : ℕ) (ts : History) (m : Map) → is_writing (n, ts) ≡ false → after_history ts m ≡ m
idle_leaves n ts m e = idle_from ts m (eqb-true (length (written_keys ts)) 0 (not_not (length (written_keys ts) == 0) e))
