-- How many are left where one comes, goes or changes.
use Rattle.std.proofs.Common.{suc, ◌≡◌, ◌≢◌, ℕ, ◌+◌, ◌<◌, Bool, true, false, cond, not, ◌||◌, List, [], ◌∷◌, ◌++◌, Option, None, Some, map, length, refl, sym, ap, ◌∙◌, arith}
use Rattle.std.specs.Prelude.{◌==◌}
use Rattle.std.specs.List.{AllByRecursion, filter}
use Rattle.std.proofs.lemmas.Bool.{true≢false, eqb-true, eq-eqb, ne_eqb}
use Rattle.mvo_model.specs.Trace.{Step}
use Rattle.mvo_theory.specs.State.{StampedTx, ActiveTx, EndedTx, active_of, ended_of}
use Rattle.mvo_theory.specs.Causes.{unsettled}
use Rattle.mvo_theory.specs.Changes.{without_id, with_settled, not_at, without_ended}
use Rattle.mvo_theory.specs.Sound.{IsRising, AreDistinct, how_many}
use Rattle.mvo_theory.proofs.Each.{each_weaker}
use Rattle.mvo_theory.proofs.Finds.{count_push}
use Rattle.mvo_theory.proofs.Settle.{rising_before, rising_after}
use Rattle.mvo_theory.specs.Counts.{is_check_of, checks_in}

-- ---- checks
pub checks_other : (t : ℕ) (xs : List Step) (x : Step) → is_check_of t x ≡ false → checks_in t (xs ++ x ∷ []) ≡ checks_in t xs
checks_other t xs x f = count_push (is_check_of t) xs x ∙ ap (λ (b : Bool). how_many (is_check_of t) xs + cond b 1 0) f ∙ (omega arith)

pub checks_more : (t : ℕ) (xs : List Step) (x : Step) → is_check_of t x ≡ true → checks_in t (xs ++ x ∷ []) ≡ checks_in t xs + 1
checks_more t xs x f = count_push (is_check_of t) xs x ∙ ap (λ (b : Bool). how_many (is_check_of t) xs + cond b 1 0) f

-- ---- the Active ones
no_active : (r : ActiveTx) → ◌≡◌ {A = Option ActiveTx} None (Some r) → ⊥
no_active r e = cc

pub without_none : (t : ℕ) (rs : List ActiveTx) → AllByRecursion (λ q. q.id ≢ t) rs → length (without_id t rs) ≡ length rs
without_none t [] h = refl
without_none t (q ∷ qs) h = go (q.id == t) (ne_eqb q.id t h.0) (without_none t qs h.1)
  where
    go : (b : Bool) → b ≡ false → length (without_id t qs) ≡ length qs → length (cond (not b) (q ∷ without_id t qs) (without_id t qs)) ≡ length (q ∷ qs)
    go true f l = absurd (true≢false f)
    go false f l = ap (λ (n : ℕ). suc n) l

pub without_one : (t : ℕ) (rs : List ActiveTx) (r : ActiveTx) → active_of t rs ≡ Some r → AreDistinct rs → length (without_id t rs) + 1 ≡ length rs
without_one t [] r e d = absurd (no_active r e)
without_one t (q ∷ qs) r e d = go (q.id == t) refl e (λ f. without_one t qs r f d.1)
  where
    go : (b : Bool) → (q.id == t) ≡ b → cond b (Some q) (active_of t qs) ≡ Some r → (active_of t qs ≡ Some r → length (without_id t qs) + 1 ≡ length qs) → length (cond (not b) (q ∷ without_id t qs) (without_id t qs)) + 1 ≡ length (q ∷ qs)
    go true f g k = let is = eqb-true q.id t f in let l = without_none t qs (each_weaker (λ v. v.id ≢ q.id) (λ v. v.id ≢ t) (λ v n i. n (i ∙ sym is)) qs d.0) in omega (arith, l)
    go false f g k = let l = k g in omega (arith, l)

-- ---- the Preparing ones
pub unsettled_append : (xs ys : List StampedTx) → unsettled (xs ++ ys) ≡ unsettled xs + unsettled ys
unsettled_append [] ys = omega arith
unsettled_append (x ∷ xs) ys = go x.settled (unsettled_append xs ys)
  where
    go : (b : Bool) → unsettled (xs ++ ys) ≡ unsettled xs + unsettled ys → cond b (unsettled (xs ++ ys)) (unsettled (xs ++ ys) + 1) ≡ cond b (unsettled xs) (unsettled xs + 1) + unsettled ys
    go true l = l
    go false l = omega (arith, l)

pub unsettled_map : (f : StampedTx → StampedTx) (xs : List StampedTx) → AllByRecursion (λ x. (f x).settled ≡ x.settled) xs → unsettled (map f xs) ≡ unsettled xs
unsettled_map f [] h = refl
unsettled_map f (x ∷ xs) h = ap (λ (b : Bool). cond b (unsettled (map f xs)) (unsettled (map f xs) + 1)) h.0 ∙ ap (λ (n : ℕ). cond x.settled n (n + 1)) (unsettled_map f xs h.1)

pub unsettled_filter : (keep : StampedTx → Bool) (xs : List StampedTx) → AllByRecursion (λ x. keep x ≡ false → x.settled ≡ true) xs → unsettled (filter keep xs) ≡ unsettled xs
unsettled_filter keep [] h = refl
unsettled_filter keep (x ∷ xs) h = go (keep x) refl x.settled refl (unsettled_filter keep xs h.1)
  where
    go : (b : Bool) → keep x ≡ b → (c : Bool) → x.settled ≡ c → unsettled (filter keep xs) ≡ unsettled xs → unsettled (cond b (x ∷ filter keep xs) (filter keep xs)) ≡ cond c (unsettled xs) (unsettled xs + 1)
    go true e c f l = ap (λ (v : Bool). cond v (unsettled (filter keep xs)) (unsettled (filter keep xs) + 1)) f ∙ ap (λ (n : ℕ). cond c n (n + 1)) l
    go false e true f l = l
    go false e false f l = absurd (true≢false (sym (h.0 e) ∙ f))

pub or_false : (b : Bool) → (b || false) ≡ b
or_false true = refl
or_false false = refl

others_settled : (e : ℕ) (xs : List StampedTx) → AllByRecursion (λ y. y.end ≢ e) xs → unsettled (map (with_settled e) xs) ≡ unsettled xs
others_settled e xs h = unsettled_map (with_settled e) xs (each_weaker (λ y. y.end ≢ e) (λ y. (y.settled || (y.end == e)) ≡ y.settled) (λ y n. ap (λ (b : Bool). y.settled || b) (ne_eqb y.end e n) ∙ or_false y.settled) xs h)

others_kept : (e : ℕ) (xs : List StampedTx) → AllByRecursion (λ y. y.end ≢ e) xs → unsettled (filter (not_at e) xs) ≡ unsettled xs
others_kept e xs h = unsettled_filter (not_at e) xs (each_weaker (λ y. y.end ≢ e) (λ y. not_at e y ≡ false → y.settled ≡ true) (λ y n f. absurd (true≢false (sym (ap not (ne_eqb y.end e n)) ∙ f))) xs h)

map_both : (f : StampedTx → StampedTx) (xs ys : List StampedTx) → map f (xs ++ ys) ≡ map f xs ++ map f ys
map_both f [] ys = refl
map_both f (x ∷ xs) ys = ap (λ zs. f x ∷ zs) (map_both f xs ys)

filter_both : (p : StampedTx → Bool) (xs ys : List StampedTx) → filter p (xs ++ ys) ≡ filter p xs ++ filter p ys
filter_both p [] ys = refl
filter_both p (x ∷ xs) ys = go (p x) (filter_both p xs ys)
  where
    go : (b : Bool) → filter p (xs ++ ys) ≡ filter p xs ++ filter p ys → cond b (x ∷ filter p (xs ++ ys)) (filter p (xs ++ ys)) ≡ cond b (x ∷ filter p xs) (filter p xs) ++ filter p ys
    go true l = ap (λ zs. x ∷ zs) l
    go false l = l

one_open : (x : StampedTx) (ys : List StampedTx) → x.settled ≡ false → unsettled (x ∷ ys) ≡ unsettled ys + 1
one_open x ys o = ap (λ (b : Bool). cond b (unsettled ys) (unsettled ys + 1)) o

apart_before : (before after : List StampedTx) (x : StampedTx) → IsRising (before ++ x ∷ after) → AllByRecursion (λ y. y.end ≢ x.end) before
apart_before before after x r = each_weaker (λ y. y.end < x.end) (λ y. y.end ≢ x.end) (λ y lt e. omega (arith, lt, e)) before (rising_before before after x r)

apart_after : (before after : List StampedTx) (x : StampedTx) → IsRising (before ++ x ∷ after) → AllByRecursion (λ y. y.end ≢ x.end) after
apart_after before after x r = each_weaker (λ y. x.end < y.end) (λ y. y.end ≢ x.end) (λ y lt e. omega (arith, lt, e)) after (rising_after before after x r)

-- one is settled
pub settled_one : (before after : List StampedTx) (x : StampedTx) → x.settled ≡ false → IsRising (before ++ x ∷ after) → unsettled (map (with_settled x.end) (before ++ x ∷ after)) + 1 ≡ unsettled (before ++ x ∷ after)
settled_one before after x o r =
    let f = with_settled x.end in
    let a = ap unsettled (map_both f before (x ∷ after)) ∙ unsettled_append (map f before) (map f (x ∷ after)) in
    let b = others_settled x.end before (apart_before before after x r) in
    let c = settles (x.end == x.end) (eq-eqb x.end x.end refl) in
    let d = others_settled x.end after (apart_after before after x r) in
    let e = unsettled_append before (x ∷ after) in
    let g = one_open x after o in
    omega (arith, a, b, c, d, e, g)
  where
    or_true : (u v : Bool) → v ≡ true → (u || v) ≡ true
    or_true true v e = refl
    or_true false v e = e

    settles : (v : Bool) → v ≡ true → cond (x.settled || v) (unsettled (map (with_settled x.end) after)) (unsettled (map (with_settled x.end) after) + 1) ≡ unsettled (map (with_settled x.end) after)
    settles v e = ap (λ (w : Bool). cond w (unsettled (map (with_settled x.end) after)) (unsettled (map (with_settled x.end) after) + 1)) (or_true x.settled v e)

-- one is taken out
pub dropped_one : (before after : List StampedTx) (x : StampedTx) → x.settled ≡ false → IsRising (before ++ x ∷ after) → unsettled (filter (not_at x.end) (before ++ x ∷ after)) + 1 ≡ unsettled (before ++ x ∷ after)
dropped_one before after x o r =
    let p = not_at x.end in
    let a = ap unsettled (filter_both p before (x ∷ after)) ∙ unsettled_append (filter p before) (filter p (x ∷ after)) in
    let b = others_kept x.end before (apart_before before after x r) in
    let c = ap (λ (v : Bool). unsettled (cond (not v) (x ∷ filter p after) (filter p after))) (eq-eqb x.end x.end refl) in
    let d = others_kept x.end after (apart_after before after x r) in
    let e = unsettled_append before (x ∷ after) in
    let g = one_open x after o in
    omega (arith, a, b, c, d, e, g)

-- ---- the ended ones
no_ended : (u : EndedTx) → ◌≡◌ {A = Option EndedTx} None (Some u) → ⊥
no_ended u e = cc

pub ended_one : (t : ℕ) (us : List EndedTx) (u : EndedTx) → ended_of t us ≡ Some u → length (without_ended t us) + 1 ≡ length us
ended_one t [] u e = absurd (no_ended u e)
ended_one t (v ∷ vs) u e = go (v.id == t) e (λ f. ended_one t vs u f)
  where
    go : (b : Bool) → cond b (Some v) (ended_of t vs) ≡ Some u → (ended_of t vs ≡ Some u → length (without_ended t vs) + 1 ≡ length vs) → length (cond b vs (v ∷ without_ended t vs)) + 1 ≡ length (v ∷ vs)
    go true f k = omega arith
    go false f k = let l = k f in omega (arith, l)
