-- Those that are Preparing: each is found by its id, and who is waited for.
use Rattle.std.proofs.Common.{◌≡◌, ℕ, ◌+◌, ◌≤◌, Bool, true, false, cond, not, List, [], ◌∷◌, Option, None, Some, refl, sym, ap, ◌∙◌, subst, arith}
use Rattle.std.specs.Prelude.{◌==◌, ◌&&◌, ⊤}
use Rattle.std.specs.List.{AllByRecursion}
use Rattle.std.proofs.lemmas.Bool.{eq-eqb, eqb-true, true≢false}
use Rattle.mvo_theory.specs.State.{State, StampedTx, preparing_of, is_preparing_as}
use Rattle.mvo_theory.specs.Causes.{waiting_for}
use Rattle.mvo_theory.specs.Dependencies.{has_end}
use Rattle.mvo_theory.specs.Sound.{IsRising, IsSingle, how_many}
use Rattle.mvo_theory.proofs.Each.{each_weaker, each_both, each_always}
use Rattle.mvo_theory.proofs.Finds.{count_some}
use Rattle.mvo_theory.proofs.Single.{preparing_found}
use Rattle.mvo_theory.proofs.Traced.{ends_differ}
use Rattle.mvo_representation.proofs.Facts.{found_holds}
use Rattle.mvo_deps.proofs.Lists.{one}

some_none : (x : StampedTx) → ◌≡◌ {A = Option StampedTx} (Some x) None → ⊥
some_none x q = cc

pub none_some : (x : StampedTx) → ◌≡◌ {A = Option StampedTx} None (Some x) → ⊥
none_some x q = cc

pub some_same : (x y : StampedTx) → ◌≡◌ {A = Option StampedTx} (Some x) (Some y) → x ≡ y
some_same x y q = cc

-- ---- by its id
abbrev AreOnce : List StampedTx → Type 0
AreOnce xs = (t : ℕ) → how_many (is_preparing_as t) xs ≤ 1

found_in : (xs : List StampedTx) → AreOnce xs → AllByRecursion (λ y. y.settled ≡ false → preparing_of y.id xs ≡ Some y) xs
found_in [] once = tt
found_in (z ∷ xs) once = (
  (λ o. ap (λ b. cond b (Some z) (preparing_of z.id xs)) (ap (λ b. b && not z.settled) (eq-eqb z.id z.id refl) ∙ ap not o)),
  each_weaker (λ y. y.settled ≡ false → preparing_of y.id xs ≡ Some y) (λ y. y.settled ≡ false → preparing_of y.id (z ∷ xs) ≡ Some y) (λ y f o. go y (f o) (is_preparing_as y.id z) refl) xs (found_in xs (λ t. let n = once t in fewer (is_preparing_as t z) (how_many (is_preparing_as t) xs) n)),
)
  where
    fewer : (b : Bool) (n : ℕ) → cond b 1 0 + n ≤ 1 → n ≤ 1
    fewer true n h = omega arith
    fewer false n h = omega arith

    go : (y : StampedTx) → preparing_of y.id xs ≡ Some y → (b : Bool) → is_preparing_as y.id z ≡ b → cond b (Some z) (preparing_of y.id xs) ≡ Some y
    go y f false e = f
    go y f true e = absurd (
        let n = once y.id in
        let k = count_some (is_preparing_as y.id) xs y (sym (preparing_found y.id xs) ∙ f) in
        let m : one (is_preparing_as y.id z) ≡ 1 = ap one e in
        omega (arith, n, k, m))

pub found_itself : (s : State) → IsSingle s → AllByRecursion (λ y. y.settled ≡ false → preparing_of y.id s.stamped ≡ Some y) s.stamped
found_itself s sg = found_in s.stamped (λ t. let n = sg.once t in omega arith)

-- it alone has its id, and its end
pub alone : (s : State) → IsSingle s → IsRising s.stamped → (id : ℕ) (x : StampedTx) → preparing_of id s.stamped ≡ Some x → AllByRecursion (λ y. y.settled ≡ false → (y.id == id) ≡ (y.end == x.end)) s.stamped
alone s sg rising id x g = each_both (λ y. y.settled ≡ false → preparing_of y.id s.stamped ≡ Some y) (λ y. y.end ≡ x.end → y.id ≡ x.id) (λ y. y.settled ≡ false → (y.id == id) ≡ (y.end == x.end))
    (λ y m d o. by y (m o) d (y.id == id) refl (y.end == x.end) refl) s.stamped (found_itself s sg)
    (found_holds (λ z. AllByRecursion (λ y. y.end ≡ z.end → y.id ≡ z.id) s.stamped) id s.stamped x g (ends_differ s.stamped rising)).0
  where
    its_id : x.id ≡ id
    its_id = (found_holds (λ z. ⊤) id s.stamped x g (each_always (λ z. ⊤) (λ z. tt) s.stamped)).1

    by : (y : StampedTx) → preparing_of y.id s.stamped ≡ Some y → (y.end ≡ x.end → y.id ≡ x.id) → (b : Bool) → (y.id == id) ≡ b → (c : Bool) → (y.end == x.end) ≡ c → b ≡ c
    by y m d true p true q = refl
    by y m d false p false q = refl
    by y m d true p false q =
        let same : y ≡ x = some_same y x (sym m ∙ ap (λ (n : ℕ). preparing_of n s.stamped) (eqb-true y.id id p) ∙ g) in
        absurd (true≢false (sym (eq-eqb y.end x.end (ap (λ (z : StampedTx). z.end) same)) ∙ q))
    by y m d false p true q = absurd (true≢false (sym (eq-eqb y.id id (d (eqb-true y.end x.end q) ∙ its_id)) ∙ p))

-- ---- who is waited for
pub waiting_holds : (P : StampedTx → Type 0) (ds : List ℕ) (xs : List StampedTx) (y : StampedTx) → waiting_for ds xs ≡ Some y → AllByRecursion P xs → P y
waiting_holds P ds [] y w h = absurd (none_some y w)
waiting_holds P ds (x ∷ xs) y w h = go (not x.settled && has_end ds x.end) w (λ v. waiting_holds P ds xs y v h.1)
  where
    go : (b : Bool) → cond b (Some x) (waiting_for ds xs) ≡ Some y → (waiting_for ds xs ≡ Some y → P y) → P y
    go true v again = subst P (some_same x y v) h.0
    go false v again = again v
