-- Each step leaves what is committed up to a mark.
use Rattle.std.proofs.Common.{◌≡◌, ℕ, ◌+◌, ◌<◌, Bool, true, false, cond, not, ◌||◌, List, [], ◌∷◌, ◌++◌, Option, None, Some, map, refl, sym, ap, ◌∙◌, subst, arith}
use Rattle.std.specs.Prelude.{◌==◌, ◌&&◌, nat_le}
use Rattle.std.specs.List.{AllByRecursion, filter}
use Rattle.std.proofs.lemmas.Bool.{eqb-true, lt-leb, true≢false}
use Rattle.mvo_types.specs.declared.op.Op.{Op}
use Rattle.mvo_types.specs.AnswerData.{AnswerData}
use Rattle.mvo_model.specs.History.{History}
use Rattle.mvo_theory.specs.State.{State, StampedTx, ActiveTx, active_of, preparing_of}
use Rattle.mvo_theory.specs.Changes.{after_begin, after_operation, to_stamped, after_check, with_check, with_settled, with_flag, not_at, after_termination}
use Rattle.mvo_theory.specs.Steps.{after_precommit_of, after_precommit, after_validate_of, after_validate, after_commit_of, after_commit_now, after_abort_of, after_abort}
use Rattle.mvo_theory.specs.Marks.{settled_to, IsClosedAt}
use Rattle.mvo_theory.proofs.Each.{each_append, each_map, each_filter}

-- the same of the stamped ones alone
abbrev pub EndsStay : State → State → Type 0
EndsStay s s' = (m : ℕ) → IsClosedAt m s → IsClosedAt m s' × (settled_to m s'.stamped ≡ settled_to m s.stamped)

pub stays_same : (s : State) → EndsStay s s
stays_same s m h = (h, refl)

pub stays_after_operation : (s : State) (t : ℕ) (op : Op) (a : AnswerData) → EndsStay s (after_operation s t op a)
stays_after_operation s t op a m h = (record { drawn = h.drawn; above = h.above }, refl)

pub stays_after_begin : (s : State) → EndsStay s (after_begin s (s.clock + 1))
stays_after_begin s m h = (record { drawn = let d = h.drawn in omega arith; above = h.above }, refl)

pub stays_after_termination : (s : State) (t : ℕ) → EndsStay s (after_termination s t)
stays_after_termination s t m h = (record { drawn = h.drawn; above = h.above }, refl)

and_none : (a b : Bool) → a ≡ false → (a && b) ≡ false
and_none true b e = absurd (true≢false e)
and_none false b e = refl

settled_last : (m : ℕ) (xs : List StampedTx) (y : StampedTx) → y.settled ≡ false → settled_to m (xs ++ y ∷ []) ≡ settled_to m xs
settled_last m [] y o = ap (λ (b : Bool). cond b ((y.end, y.history) ∷ []) []) (and_none y.settled (nat_le y.end m) o)
settled_last m (x ∷ xs) y o = ap (λ (zs : List (ℕ × History)). cond (x.settled && nat_le x.end m) ((x.end, x.history) ∷ zs) zs) (settled_last m xs y o)

pub stays_after_prepare : (s : State) (t : ℕ) → EndsStay s (after_precommit s t)
stays_after_prepare s t m h = go (active_of t s.active)
  where
    go : (w : Option ActiveTx) → IsClosedAt m (after_precommit_of s w) × (settled_to m (after_precommit_of s w).stamped ≡ settled_to m s.stamped)
    go None = (h, refl)
    go (Some r) = let d = h.drawn in (
      record { drawn = omega arith; above = each_append (λ x. x.settled ≡ false → m < x.end) s.stamped (to_stamped (s.clock + 1) r ∷ []) h.above (λ _. omega arith, tt) },
      settled_last m s.stamped (to_stamped (s.clock + 1) r) refl,
    )

settled_check : (m e : ℕ) (v : Bool) (xs : List StampedTx) → settled_to m (map (with_check e v) xs) ≡ settled_to m xs
settled_check m e v [] = refl
settled_check m e v (x ∷ xs) = ap (λ (zs : List (ℕ × History)). cond (x.settled && nat_le x.end m) ((x.end, x.history) ∷ zs) zs) (settled_check m e v xs)

pub stays_after_check : (s : State) (t : ℕ) → EndsStay s (after_validate s t)
stays_after_check s t m h = go (preparing_of t s.stamped)
  where
    check : (x : StampedTx) (v b : Bool) → IsClosedAt m (cond b s (after_check s x.end v)) × (settled_to m (cond b s (after_check s x.end v)).stamped ≡ settled_to m s.stamped)
    check x v true = (h, refl)
    check x v false = (record { drawn = h.drawn; above = each_map (with_check x.end v) (λ y. y.settled ≡ false → m < y.end) (λ y. y.settled ≡ false → m < y.end) (λ y q. q) s.stamped h.above }, settled_check m x.end v s.stamped)

    go : (w : Option StampedTx) → IsClosedAt m (after_validate_of s w) × (settled_to m (after_validate_of s w).stamped ≡ settled_to m s.stamped)
    go None = (h, refl)
    go (Some x) = check x _ x.valid

pub none_some : (z : StampedTx) → ◌≡◌ {A = Option StampedTx} None (Some z) → ⊥
none_some z q = cc

pub some_same : (v z : StampedTx) → ◌≡◌ {A = Option StampedTx} (Some v) (Some z) → v ≡ z
some_same v z q = cc

-- the one that is found is open, so that it ends above the mark
above_found : (m t : ℕ) (xs : List StampedTx) (x : StampedTx) → preparing_of t xs ≡ Some x → AllByRecursion (λ y. y.settled ≡ false → m < y.end) xs → m < x.end
above_found m t [] x e h = absurd (none_some x e)
above_found m t (y ∷ ys) x e h = go (y.id == t) y.settled refl e (λ f. above_found m t ys x f h.1)
  where
    go : (a b : Bool) → y.settled ≡ b → cond (a && not b) (Some y) (preparing_of t ys) ≡ Some x → (preparing_of t ys ≡ Some x → m < x.end) → m < x.end
    go true false o g r = let is = some_same y x g in subst (λ (z : StampedTx). m < z.end) is (h.0 o)
    go true true o g r = r g
    go false b o g r = r g

one_settled : (m e : ℕ) (x : StampedTx) → m < e → ((x.settled || (x.end == e)) && nat_le x.end m) ≡ (x.settled && nat_le x.end m)
one_settled m e x lt = go x.settled (x.end == e) refl
  where
    go : (a b : Bool) → (x.end == e) ≡ b → ((a || b) && nat_le x.end m) ≡ (a && nat_le x.end m)
    go true b f = refl
    go false false f = refl
    go false true f = lt-leb x.end m (let is = eqb-true x.end e f in omega arith)

settled_commit : (m e : ℕ) (xs : List StampedTx) → m < e → settled_to m (map (with_settled e) xs) ≡ settled_to m xs
settled_commit m e [] lt = refl
settled_commit m e (x ∷ xs) lt =
    ap (λ (b : Bool). cond b ((x.end, x.history) ∷ settled_to m (map (with_settled e) xs)) (settled_to m (map (with_settled e) xs))) (one_settled m e x lt)
    ∙ ap (λ (zs : List (ℕ × History)). cond (x.settled && nat_le x.end m) ((x.end, x.history) ∷ zs) zs) (settled_commit m e xs lt)

or_open : (a b : Bool) → (a || b) ≡ false → a ≡ false
or_open true b h = absurd (true≢false h)
or_open false b h = refl

pub stays_after_commit : (s : State) (t : ℕ) → EndsStay s (after_commit_now s t)
stays_after_commit s t m h = go (preparing_of t s.stamped) refl
  where
    go : (w : Option StampedTx) → preparing_of t s.stamped ≡ w → IsClosedAt m (after_commit_of s t w) × (settled_to m (after_commit_of s t w).stamped ≡ settled_to m s.stamped)
    go None e = (h, refl)
    go (Some x) e = let lt = above_found m t s.stamped x e h.above in (
      record { drawn = h.drawn; above = each_map (with_settled x.end) (λ y. y.settled ≡ false → m < y.end) (λ y. y.settled ≡ false → m < y.end) (λ y q o. q (or_open y.settled (y.end == x.end) o)) s.stamped h.above },
      settled_commit m x.end s.stamped lt,
    )

settled_after_abort_of_preparing : (m t e : ℕ) (xs : List StampedTx) → m < e → settled_to m (map (with_flag t e) (filter (not_at e) xs)) ≡ settled_to m xs
settled_after_abort_of_preparing m t e [] lt = refl
settled_after_abort_of_preparing m t e (x ∷ xs) lt = go (x.end == e) refl (settled_after_abort_of_preparing m t e xs lt)
  where
    gone : (a b : Bool) → b ≡ false → (a && b) ≡ false
    gone true b f = f
    gone false b f = refl

    go : (b : Bool) → (x.end == e) ≡ b → settled_to m (map (with_flag t e) (filter (not_at e) xs)) ≡ settled_to m xs → settled_to m (map (with_flag t e) (cond (not b) (x ∷ filter (not_at e) xs) (filter (not_at e) xs))) ≡ cond (x.settled && nat_le x.end m) ((x.end, x.history) ∷ settled_to m xs) (settled_to m xs)
    go true f q = q ∙ sym (ap (λ (b : Bool). cond b ((x.end, x.history) ∷ settled_to m xs) (settled_to m xs)) (gone x.settled (nat_le x.end m) (lt-leb x.end m (let is = eqb-true x.end e f in omega arith))))
    go false f q = ap (λ (zs : List (ℕ × History)). cond (x.settled && nat_le x.end m) ((x.end, x.history) ∷ zs) zs) q

pub stays_aborted : (s : State) (t : ℕ) → EndsStay s (after_abort s t)
stays_aborted s t m h = go (preparing_of t s.stamped) refl
  where
    go : (w : Option StampedTx) → preparing_of t s.stamped ≡ w → IsClosedAt m (after_abort_of s t w) × (settled_to m (after_abort_of s t w).stamped ≡ settled_to m s.stamped)
    go None e = (record { drawn = h.drawn; above = h.above }, refl)
    go (Some x) e = let lt = above_found m t s.stamped x e h.above in (
      record { drawn = h.drawn; above = each_map (with_flag t x.end) (λ y. y.settled ≡ false → m < y.end) (λ y. y.settled ≡ false → m < y.end) (λ y q. q) (filter (not_at x.end) s.stamped) (each_filter (not_at x.end) (λ y. y.settled ≡ false → m < y.end) (λ y. y.settled ≡ false → m < y.end) (λ y _ q. q) s.stamped h.above) },
      settled_after_abort_of_preparing m t x.end s.stamped lt,
    )
