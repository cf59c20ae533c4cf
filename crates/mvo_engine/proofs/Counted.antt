-- Each call adds to the tale's weight what it is said to add, above the start.
use Rattle.std.proofs.Common.{◌≡◌, ℕ, ◌+◌, ◌<◌, length, Bool, true, false, cond, not, ◌||◌, List, [], ◌∷◌, ◌++◌, Option, None, Some, map, refl, ap, ◌∙◌, subst, arith}
use Rattle.std.specs.Prelude.{◌==◌, ◌&&◌, nat_le}
use Rattle.std.specs.List.{AllByRecursion, filter}
use Rattle.std.proofs.lemmas.Bool.{ne_eqb, leb-true}
use Rattle.mvo_types.specs.declared.refusal.Refusal.{Refusal}
use Rattle.mvo_types.specs.declared.op.Op.{Op}
use Rattle.mvo_types.specs.AnswerData.{AnswerData}
use Rattle.mvo_theory.specs.Entries.{entries}
use Rattle.mvo_theory.specs.State.{State, StampedTx, ActiveTx, Claim, active_of, preparing_of}
use Rattle.mvo_theory.specs.Changes.{with_check, with_settled, with_flag, not_at, is_to, to_stamped, after_check, after_operation, after_answer, after_termination, after_finish, taken_over, with_words}
use Rattle.mvo_theory.specs.Causes.{awaited, is_failure}
use Rattle.mvo_theory.specs.Claims.{new_claim}
use Rattle.mvo_theory.specs.Words.{is_done, words_left}
use Rattle.mvo_theory.specs.Steps.{after_precommit_of, after_validate_of, after_commit_of, after_settle_unless, after_settle, after_abort_of, after_abort, after_refusal}
use Rattle.mvo_theory.specs.Sound.{IsRising, IsSound}
use Rattle.mvo_theory.specs.Calls.{Call, Result, answer_in, after_call}
use Rattle.mvo_theory.specs.Calls.Call.{Begin, Do, Precommit, Validate, Settle, Rollback, Finish, Trim, Close}
use Rattle.mvo_theory.specs.Calls.Result.{Accepted, Refused}
use Rattle.mvo_theory.proofs.Below.{none_some, some_same}
use Rattle.mvo_core.specs.Receipts.{Receipt, receipt_of, IsAt}
use Rattle.mvo_engine.proofs.Added.{weight, tale_weight, found_weight, unless_waiting, added}

-- what holds of all holds of the one that is found, which isn't settled
pub found_holds : (P : StampedTx → Type 0) (t : ℕ) (xs : List StampedTx) (x : StampedTx) → preparing_of t xs ≡ Some x → AllByRecursion P xs → P x
found_holds P t [] x e h = absurd (none_some x e)
found_holds P t (y ∷ ys) x e h = go (y.id == t) y.settled e (λ f. found_holds P t ys x f h.1)
  where
    go : (a b : Bool) → cond (a && not b) (Some y) (preparing_of t ys) ≡ Some x → (preparing_of t ys ≡ Some x → P x) → P x
    go true false g r = subst P (some_same y x g) h.0
    go true true g r = r g
    go false b g r = r g

module _ (h : Receipt → ℕ) where
  last : (xs : List StampedTx) (y : StampedTx) → y.settled ≡ false → tale_weight h (xs ++ y ∷ []) ≡ tale_weight h xs
  last [] y o = let z : weight h y ≡ 0 = ap (λ (b : Bool). cond b (h (receipt_of y)) 0) o in omega (arith, z)
  last (x ∷ xs) y o = ap (λ (n : ℕ). weight h x + n) (last xs y o)

  checked : (e : ℕ) (v : Bool) (xs : List StampedTx) → tale_weight h (map (with_check e v) xs) ≡ tale_weight h xs
  checked e v [] = refl
  checked e v (x ∷ xs) = ap (λ (n : ℕ). weight h x + n) (checked e v xs)

  flagged : (t e : ℕ) (xs : List StampedTx) → tale_weight h (map (with_flag t e) xs) ≡ tale_weight h xs
  flagged t e [] = refl
  flagged t e (x ∷ xs) = ap (λ (n : ℕ). weight h x + n) (flagged t e xs)

  -- where none has this end, settling it changes nothing
  others : (e : ℕ) (xs : List StampedTx) → AllByRecursion (λ (y : StampedTx). e < y.end) xs → tale_weight h (map (with_settled e) xs) ≡ tale_weight h xs
  others e [] a = refl
  others e (y ∷ ys) a =
      let lt = a.0 in
      let no : (y.end == e) ≡ false = ne_eqb y.end e (λ q. omega arith) in
      ap (λ (n : ℕ). weight h (with_settled e y) + n) (others e ys a.1) ∙ ap (λ (n : ℕ). n + tale_weight h ys) (ap (λ (b : Bool). cond (y.settled || b) (h (receipt_of y)) 0) no ∙ go y.settled)
    where
      go : (b : Bool) → cond (b || false) (h (receipt_of y)) 0 ≡ cond b (h (receipt_of y)) 0
      go true = refl
      go false = refl

  same_weight : (e : ℕ) (y : StampedTx) → (y.end == e) ≡ false → weight h (with_settled e y) ≡ weight h y
  same_weight e y apart = ap (λ (b : Bool). cond (y.settled || b) (h (receipt_of y)) 0) apart ∙ go y.settled
    where
      go : (b : Bool) → cond (b || false) (h (receipt_of y)) 0 ≡ cond b (h (receipt_of y)) 0
      go true = refl
      go false = refl

  kept_all : (e : ℕ) (xs : List StampedTx) → AllByRecursion (λ (y : StampedTx). e < y.end) xs → tale_weight h (filter (not_at e) xs) ≡ tale_weight h xs
  kept_all e [] a = refl
  kept_all e (y ∷ ys) a =
      let lt = a.0 in
      let no : (y.end == e) ≡ false = ne_eqb y.end e (λ q. omega arith) in
      ap (λ (b : Bool). tale_weight h (cond (not b) (y ∷ filter (not_at e) ys) (filter (not_at e) ys))) no ∙ ap (λ (n : ℕ). weight h y + n) (kept_all e ys a.1)

  -- the one that is found is settled: its receipt is in the tale then
  settled : (t : ℕ) (xs : List StampedTx) (x : StampedTx) → preparing_of t xs ≡ Some x → IsRising xs → tale_weight h (map (with_settled x.end) xs) ≡ tale_weight h xs + h (receipt_of x)
  settled t [] x e up = absurd (none_some x e)
  settled t (y ∷ ys) x e up = go (y.id == t) y.settled refl e (λ f. settled t ys x f up.1)
    where
      later : (preparing_of t ys ≡ Some x → tale_weight h (map (with_settled x.end) ys) ≡ tale_weight h ys + h (receipt_of x)) → preparing_of t ys ≡ Some x → tale_weight h (map (with_settled x.end) (y ∷ ys)) ≡ tale_weight h (y ∷ ys) + h (receipt_of x)
      later ih f =
          let lt = found_holds (λ (z : StampedTx). y.end < z.end) t ys x f up.0 in
          let same = same_weight x.end y (ne_eqb y.end x.end (λ q. omega arith)) in
          let rest = ih f in
          ap (λ (n : ℕ). n + tale_weight h (map (with_settled x.end) ys)) same ∙ (ap (λ (n : ℕ). weight h y + n) rest ∙ omega arith)

      here : y.settled ≡ false → y ≡ x → tale_weight h (map (with_settled x.end) (y ∷ ys)) ≡ tale_weight h (y ∷ ys) + h (receipt_of x)
      here o is = subst (λ (z : StampedTx). tale_weight h (map (with_settled z.end) (y ∷ ys)) ≡ tale_weight h (y ∷ ys) + h (receipt_of z)) is (
          let now : weight h (with_settled y.end y) ≡ h (receipt_of y) = ap (λ (b : Bool). cond (b || (y.end == y.end)) (h (receipt_of y)) 0) o ∙ ap (λ (b : Bool). cond b (h (receipt_of y)) 0) (own y.end) in
          let was : weight h y ≡ 0 = ap (λ (b : Bool). cond b (h (receipt_of y)) 0) o in
          let rest = others y.end ys up.0 in
          ap (λ (n : ℕ). n + tale_weight h (map (with_settled y.end) ys)) now ∙ (ap (λ (n : ℕ). h (receipt_of y) + n) rest ∙ omega (arith, was)))
        where
          own : (n : ℕ) → (n == n) ≡ true
          own n = grind arith

      go : (a b : Bool) → y.settled ≡ b → cond (a && not b) (Some y) (preparing_of t ys) ≡ Some x → (preparing_of t ys ≡ Some x → tale_weight h (map (with_settled x.end) ys) ≡ tale_weight h ys + h (receipt_of x)) → tale_weight h (map (with_settled x.end) (y ∷ ys)) ≡ tale_weight h (y ∷ ys) + h (receipt_of x)
      go true false o f ih = here o (some_same y x f)
      go true true o f ih = later ih f
      go false b o f ih = later ih f

  -- the one that is found, which isn't settled, goes
  gone : (t : ℕ) (xs : List StampedTx) (x : StampedTx) → preparing_of t xs ≡ Some x → IsRising xs → tale_weight h (filter (not_at x.end) xs) ≡ tale_weight h xs
  gone t [] x e up = absurd (none_some x e)
  gone t (y ∷ ys) x e up = go (y.id == t) y.settled refl e (λ f. gone t ys x f up.1)
    where
      later : (preparing_of t ys ≡ Some x → tale_weight h (filter (not_at x.end) ys) ≡ tale_weight h ys) → preparing_of t ys ≡ Some x → tale_weight h (filter (not_at x.end) (y ∷ ys)) ≡ tale_weight h (y ∷ ys)
      later ih f =
          let lt = found_holds (λ (z : StampedTx). y.end < z.end) t ys x f up.0 in
          let no : (y.end == x.end) ≡ false = ne_eqb y.end x.end (λ q. omega arith) in
          ap (λ (b : Bool). tale_weight h (cond (not b) (y ∷ filter (not_at x.end) ys) (filter (not_at x.end) ys))) no ∙ ap (λ (n : ℕ). weight h y + n) (ih f)

      here : y.settled ≡ false → y ≡ x → tale_weight h (filter (not_at x.end) (y ∷ ys)) ≡ tale_weight h (y ∷ ys)
      here o is = subst (λ (z : StampedTx). tale_weight h (filter (not_at z.end) (y ∷ ys)) ≡ tale_weight h (y ∷ ys)) is (
          let was : weight h y ≡ 0 = ap (λ (b : Bool). cond b (h (receipt_of y)) 0) o in
          let rest = kept_all y.end ys up.0 in
          ap (λ (b : Bool). tale_weight h (cond (not b) (y ∷ filter (not_at y.end) ys) (filter (not_at y.end) ys))) (own y.end) ∙ omega (arith, was, rest))
        where
          own : (n : ℕ) → (n == n) ≡ true
          own n = grind arith

      go : (a b : Bool) → y.settled ≡ b → cond (a && not b) (Some y) (preparing_of t ys) ≡ Some x → (preparing_of t ys ≡ Some x → tale_weight h (filter (not_at x.end) ys) ≡ tale_weight h ys) → tale_weight h (filter (not_at x.end) (y ∷ ys)) ≡ tale_weight h (y ∷ ys)
      go true false o f ih = here o (some_same y x f)
      go true true o f ih = later ih f
      go false b o f ih = later ih f

  -- those up to a stamp below the weight's end go
  trimmed : (e m : ℕ) → IsAt e h → m < e → (xs : List StampedTx) → tale_weight h (filter (λ x. not (is_to m x)) xs) ≡ tale_weight h xs
  trimmed e m at lt [] = refl
  trimmed e m at lt (x ∷ xs) = go (nat_le x.end m) refl (trimmed e m at lt xs)
    where
      go : (b : Bool) → nat_le x.end m ≡ b → tale_weight h (filter (λ x. not (is_to m x)) xs) ≡ tale_weight h xs → tale_weight h (cond (not b) (x ∷ filter (λ x. not (is_to m x)) xs) (filter (λ x. not (is_to m x)) xs)) ≡ weight h x + tale_weight h xs
      go false q ih = ap (λ (n : ℕ). weight h x + n) ih
      go true q ih =
          let low = leb-true x.end m q in
          let none = at (receipt_of x) (λ is. omega arith) in
          let zero : weight h x ≡ 0 = nothing (h (receipt_of x)) x.settled none in
          omega (arith, ih, zero)
        where
          nothing : (n : ℕ) (b : Bool) → n ≡ 0 → cond b n 0 ≡ 0
          nothing n true z = z
          nothing n false z = refl

  -- ---- over the calls
  aborted : (s : State) (t : ℕ) → IsRising s.stamped → tale_weight h (after_abort s t).stamped ≡ tale_weight h s.stamped
  aborted s t up = go (preparing_of t s.stamped) refl
    where
      go : (w : Option StampedTx) → preparing_of t s.stamped ≡ w → tale_weight h (after_abort_of s t w).stamped ≡ tale_weight h s.stamped
      go None q = refl
      go (Some x) q = flagged t x.end (filter (not_at x.end) s.stamped) ∙ gone t s.stamped x q up

  refused : (s : State) (t : ℕ) (r : Refusal) → IsRising s.stamped → tale_weight h (after_refusal s t r).stamped ≡ tale_weight h s.stamped
  refused s t r up = go (is_failure r)
    where
      go : (b : Bool) → tale_weight h (cond b (after_abort s t) s).stamped ≡ tale_weight h s.stamped
      go true = aborted s t up
      go false = refl

  prepared : (s : State) (w : Option ActiveTx) → tale_weight h (after_precommit_of s w).stamped ≡ tale_weight h s.stamped
  prepared s None = refl
  prepared s (Some r) = last s.stamped (to_stamped (s.clock + 1) r) refl

  validated : (s : State) (w : Option StampedTx) → tale_weight h (after_validate_of s w).stamped ≡ tale_weight h s.stamped
  validated s None = refl
  validated s (Some x) = go x.valid
    where
      go : (b : Bool) → tale_weight h (cond b s (after_check s x.end (nat_le (length (entries x.history)) (x.checked + 1)))).stamped ≡ tale_weight h s.stamped
      go true = refl
      go false = checked x.end (nat_le (length (entries x.history)) (x.checked + 1)) s.stamped

  committed : (s : State) (t : ℕ) → IsRising s.stamped → tale_weight h (after_settle s t).stamped ≡ tale_weight h s.stamped + unless_waiting h s t (awaited s t)
  committed s t up = go (awaited s t)
    where
      now : (w : Option StampedTx) → preparing_of t s.stamped ≡ w → tale_weight h (after_commit_of s t w).stamped ≡ tale_weight h s.stamped + found_weight h w
      now None q = omega arith
      now (Some x) q = settled t s.stamped x q up

      go : (w : Option StampedTx) → tale_weight h (after_settle_unless s t w).stamped ≡ tale_weight h s.stamped + unless_waiting h s t w
      go (Some y) = omega arith
      go None = now (preparing_of t s.stamped) refl

  answered : (s : State) (t : ℕ) (op : Op) (a : AnswerData) → tale_weight h (after_answer s t op a).stamped ≡ tale_weight h s.stamped
  answered s t op a = go (new_claim s t op a)
    where
      go : (c : Option Claim) → tale_weight h (taken_over c (after_operation s t op a)).stamped ≡ tale_weight h s.stamped
      go None = refl
      go (Some c) = refl

  finished : (s : State) (t : ℕ) → tale_weight h (after_finish s t).stamped ≡ tale_weight h s.stamped
  finished s t = go (is_done s t)
    where
      go : (b : Bool) → tale_weight h (cond b (after_termination s t) (with_words (words_left t) s)).stamped ≡ tale_weight h s.stamped
      go true = refl
      go false = refl

  plus_none : (a b : ℕ) → a ≡ b → a ≡ b + 0
  plus_none a b q = omega arith

  -- what a call adds, where the tale reaches down to the weight's end afterwards
  pub counted_after_call : (e : ℕ) → IsAt e h → (s : State) (c : Call) (r : Result) → IsSound s → (after_call s c r).start < e → tale_weight h (after_call s c r).stamped ≡ tale_weight h s.stamped + added h s c r
  counted_after_call e at s Begin Accepted k lt = plus_none _ _ refl
  counted_after_call e at s (Do t op) Accepted k lt = plus_none _ _ (answered s t op (answer_in s t op))
  counted_after_call e at s (Precommit t) Accepted k lt = plus_none _ _ (prepared s (active_of t s.active))
  counted_after_call e at s (Validate t) Accepted k lt = plus_none _ _ (validated s (preparing_of t s.stamped))
  counted_after_call e at s (Settle t) Accepted k lt = committed s t k.rising
  counted_after_call e at s (Rollback t) Accepted k lt = plus_none _ _ (aborted s t k.rising)
  counted_after_call e at s (Finish t) Accepted k lt = plus_none _ _ (finished s t)
  counted_after_call e at s (Trim m) Accepted k lt = plus_none _ _ (trimmed e m at lt s.stamped)
  counted_after_call e at s (Close fits g full) Accepted k lt = plus_none _ _ refl
  counted_after_call e at s Begin (Refused r) k lt = plus_none _ _ refl
  counted_after_call e at s (Do t op) (Refused r) k lt = plus_none _ _ (refused s t r k.rising)
  counted_after_call e at s (Precommit t) (Refused r) k lt = plus_none _ _ (refused s t r k.rising)
  counted_after_call e at s (Validate t) (Refused r) k lt = plus_none _ _ (refused s t r k.rising)
  counted_after_call e at s (Settle t) (Refused r) k lt = plus_none _ _ (refused s t r k.rising)
  counted_after_call e at s (Rollback t) (Refused r) k lt = plus_none _ _ refl
  counted_after_call e at s (Finish t) (Refused r) k lt = plus_none _ _ refl
  counted_after_call e at s (Trim m) (Refused r) k lt = plus_none _ _ refl
  counted_after_call e at s (Close fits g full) (Refused r) k lt = plus_none _ _ refl
