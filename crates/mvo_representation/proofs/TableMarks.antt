-- The oldest begin and the low-water, as the table tells them.
use Rattle.std.proofs.Common.{◌≡◌, ◌⊎◌, inl, inr, ℕ, ◌+◌, ◌<◌, ◌≤◌, Bool, true, false, cond, ◌||◌, List, [], ◌∷◌, ◌++◌, map, Option, None, Some, refl, sym, ap, ◌∙◌, subst, arith}
use Rattle.std.specs.Prelude.{◌==◌, nat_le}
use Rattle.std.specs.List.{AllByRecursion}
use Rattle.std.proofs.lemmas.Bool.{eq-eqb, leb-true, leb-false, true≢false}
use Rattle.mvo_types.specs.Keys.{Map}
use Rattle.mvo_theory.specs.State.{State, ActiveTx, StampedTx, EndedTx, preparing_of}
use Rattle.mvo_theory.specs.Dependencies.{has_end}
use Rattle.mvo_theory.specs.Marks.{least_open, below_open, low_water, open_begins, least, oldest_begin}
use Rattle.mvo_theory.specs.Sound.{IsRising, IsSound, IsSingle, IsActive, IsPlaced}
use Rattle.mvo_shared.specs.Standing.{IsStanding}
use Rattle.mvo_theory.proofs.Each.{each_append, each_map, each_weaker}
use Rattle.mvo_theory.proofs.Traced.{has_it}
use Rattle.mvo_txn.specs.Txns.{Txns, state_of, HasOpenEnd, IsOldestBegin, IsLowWater}
use Rattle.mvo_representation.specs.Dependencies.{IsTableOf}
use Rattle.mvo_representation.proofs.Facts.{found_holds, preparing_is, phase_preparing}
use Rattle.mvo_representation.proofs.TableCounts.{begins, seats_are}
use Rattle.mvo_representation.proofs.TableTells.{open_phase, phase_open}
use Rattle.mvo_representation.proofs.Unsettled.{found_itself}

-- ---- the least of some
at_most : (n x : ℕ) (b : Bool) → nat_le n x ≡ b → (cond b n x ≤ n) × (cond b n x ≤ x)
at_most n x true e = (omega arith, leb-true n x e)
at_most n x false e = let lt = leb-false n x e in (omega (arith, lt), omega arith)

least_le : (n : ℕ) (xs : List ℕ) → least n xs ≤ n
least_le n [] = omega arith
least_le n (x ∷ xs) =
    let l = least_le (cond (nat_le n x) n x) xs in
    let k = (at_most n x (nat_le n x) refl).0 in
    omega (arith, l, k)

least_below : (n : ℕ) (xs : List ℕ) → AllByRecursion (λ x. least n xs ≤ x) xs
least_below n [] = tt
least_below n (x ∷ xs) = (
  (let l = least_le (cond (nat_le n x) n x) xs in let k = (at_most n x (nat_le n x) refl).1 in omega (arith, l, k)),
  least_below (cond (nat_le n x) n x) xs,
)

pub or_second : (a b : Bool) → b ≡ true → (a || b) ≡ true
or_second true b e = refl
or_second false b e = e

least_in : (n : ℕ) (xs : List ℕ) → (least n xs ≡ n) ⊎ (has_end xs (least n xs) ≡ true)
least_in n [] = inl refl
least_in n (x ∷ xs) = go (nat_le n x) (least_in (cond (nat_le n x) n x) xs)
  where
    later : (m : ℕ) → has_end xs m ≡ true → has_end (x ∷ xs) m ≡ true
    later m e = or_second (x == m) (has_end xs m) e

    here : (m : ℕ) → m ≡ x → has_end (x ∷ xs) m ≡ true
    here m e = ap (λ b. b || has_end xs m) (eq-eqb x m (sym e))

    go : (b : Bool) → (least (cond b n x) xs ≡ cond b n x) ⊎ (has_end xs (least (cond b n x) xs) ≡ true) → (least (cond b n x) xs ≡ n) ⊎ (has_end (x ∷ xs) (least (cond b n x) xs) ≡ true)
    go true (inl e) = inl e
    go true (inr e) = inr (later (least n xs) e)
    go false (inl e) = inr (here (least x xs) e)
    go false (inr e) = inr (later (least x xs) e)

-- ---- the begins were drawn
drawn_open : (c : ℕ) (xs : List StampedTx) → AllByRecursion (λ x. x.id ≤ c) xs → AllByRecursion (λ b. b ≤ c) (open_begins xs)
drawn_open c [] h = tt
drawn_open c (x ∷ xs) h = go x.settled (drawn_open c xs h.1)
  where
    go : (b : Bool) → AllByRecursion (λ n. n ≤ c) (open_begins xs) → AllByRecursion (λ n. n ≤ c) (cond b (open_begins xs) (x.id ∷ open_begins xs))
    go true k = k
    go false k = (h.0, k)

drawn_begins : (s : State) → IsSound s → IsSingle s → AllByRecursion (λ b. b ≤ s.clock) (begins s)
drawn_begins s sd sg =
    each_append (λ b. b ≤ s.clock) (map (λ (r : ActiveTx). r.id) s.active) (open_begins s.stamped ++ map (λ (u : EndedTx). u.id) s.ended)
    (each_map (λ (r : ActiveTx). r.id) (IsActive s.base s.stamped s.clock) (λ b. b ≤ s.clock) (λ r a. a.drawn) s.active sd.active)
    (each_append (λ b. b ≤ s.clock) (open_begins s.stamped) (map (λ (u : EndedTx). u.id) s.ended)
    (drawn_open s.clock s.stamped (each_weaker (IsPlaced s.stamped s.clock) (λ x. x.id ≤ s.clock) (λ x p. let b = p.begun in let d = p.drawn in omega (arith, b, d)) s.stamped sd.placed))
    (each_map (λ (u : EndedTx). u.id) (λ u. u.id ≤ s.clock) (λ b. b ≤ s.clock) (λ u d. d) s.ended sg.drawn))

-- ---- the least end of those that are Preparing
open_holds : (P : StampedTx → Type 0) (e : ℕ) (xs : List StampedTx) → least_open xs ≡ Some e → AllByRecursion P xs → (x : StampedTx) × P x × (x.settled ≡ false) × (x.end ≡ e)
open_holds P e [] q h = absurd (none_end e q)
  where
    none_end : (n : ℕ) → ◌≡◌ {A = Option ℕ} None (Some n) → ⊥
    none_end n q = cc
open_holds P e (x ∷ xs) q h = go x.settled refl q (λ r. open_holds P e xs r h.1)
  where
    same : (m n : ℕ) → ◌≡◌ {A = Option ℕ} (Some m) (Some n) → m ≡ n
    same m n q = cc

    go : (b : Bool) → x.settled ≡ b → cond b (least_open xs) (Some x.end) ≡ Some e → (least_open xs ≡ Some e → (y : StampedTx) × P y × (y.settled ≡ false) × (y.end ≡ e)) → (y : StampedTx) × P y × (y.settled ≡ false) × (y.end ≡ e)
    go true o r again = again r
    go false o r again = (x, h.0, o, same x.end e r)

open_first : (e : ℕ) (xs : List StampedTx) → IsRising xs → least_open xs ≡ Some e → AllByRecursion (λ z. z.settled ≡ false → e ≤ z.end) xs
open_first e [] r q = tt
open_first e (x ∷ xs) r q = go x.settled refl q (λ p. open_first e xs r.1 p)
  where
    same : (m n : ℕ) → ◌≡◌ {A = Option ℕ} (Some m) (Some n) → m ≡ n
    same m n q = cc

    go : (b : Bool) → x.settled ≡ b → cond b (least_open xs) (Some x.end) ≡ Some e → (least_open xs ≡ Some e → AllByRecursion (λ z. z.settled ≡ false → e ≤ z.end) xs) → (x.settled ≡ false → e ≤ x.end) × AllByRecursion (λ z. z.settled ≡ false → e ≤ z.end) xs
    go true o p again = ((λ f. absurd (true≢false (sym o ∙ f))), again p)
    go false o p again =
        let i = same x.end e p in
        ((λ _. omega (arith, i)), each_weaker (λ z. x.end < z.end) (λ z. z.settled ≡ false → e ≤ z.end) (λ z lt _. omega (arith, lt, i)) xs r.0)

open_none : (xs : List StampedTx) → least_open xs ≡ None → AllByRecursion (λ x. x.settled ≡ true) xs
open_none [] q = tt
open_none (x ∷ xs) q = go x.settled refl q (λ p. open_none xs p)
  where
    some_end : (n : ℕ) → ◌≡◌ {A = Option ℕ} (Some n) None → ⊥
    some_end n q = cc

    go : (b : Bool) → x.settled ≡ b → cond b (least_open xs) (Some x.end) ≡ None → (least_open xs ≡ None → AllByRecursion (λ z. z.settled ≡ true) xs) → (x.settled ≡ true) × AllByRecursion (λ z. z.settled ≡ true) xs
    go true o p again = (o, again p)
    go false o p again = absurd (some_end x.end p)

module _ {P : Type 0} (opening : Map) (s : State) (table : Txns P) (k : IsStanding opening s) (h : IsTableOf s table) where
  -- ---- the oldest begin
  pub oldest_is : (n : ℕ) → IsOldestBegin table n → n ≡ oldest_begin s
  oldest_is n (inl a) = go (least_in s.clock (begins s))
    where
      mine : has_end (begins s) n ≡ true
      mine = sym (seats_are s table h n) ∙ a.0

      below : least s.clock (begins s) ≤ n
      below = has_it (λ b. least s.clock (begins s) ≤ b) (begins s) n (least_below s.clock (begins s)) mine

      drawn : n ≤ s.clock
      drawn = has_it (λ b. b ≤ s.clock) (begins s) n (drawn_begins s k.sound k.single) mine

      go : (least s.clock (begins s) ≡ s.clock) ⊎ (has_end (begins s) (least s.clock (begins s)) ≡ true) → n ≡ least s.clock (begins s)
      go (inl e) = omega (arith, e, below, drawn)
      go (inr e) = let l = a.1 (least s.clock (begins s)) (seats_are s table h (least s.clock (begins s)) ∙ e) in omega (arith, l, below)
  oldest_is n (inr a) = a.1 ∙ h.clock ∙ go (least_in s.clock (begins s))
    where
      go : (least s.clock (begins s) ≡ s.clock) ⊎ (has_end (begins s) (least s.clock (begins s)) ≡ true) → s.clock ≡ least s.clock (begins s)
      go (inl e) = sym e
      go (inr e) = absurd (a.0 (least s.clock (begins s)) (seats_are s table h (least s.clock (begins s)) ∙ e))

  -- ---- the low-water
  -- who has an open end in the table is Preparing, and who is Preparing has one
  open_in_state : (e : ℕ) → HasOpenEnd table e → (id : ℕ) × (x : StampedTx) × (preparing_of id s.stamped ≡ Some x) × (x.end ≡ e)
  open_in_state e o =
      let g = preparing_is s o.0 e (sym (h.phases o.0) ∙ phase_open (state_of table o.0) e o.1) in
      (o.0, g.0, g.1, g.2)

  open_in_table : (x : StampedTx) → preparing_of x.id s.stamped ≡ Some x → HasOpenEnd table x.end
  open_in_table x f = (x.id, open_phase (state_of table x.id) x.end (h.phases x.id ∙ phase_preparing s x.id x k.single f))

  low_at : (n : ℕ) → IsLowWater table n → (o : Option ℕ) → least_open s.stamped ≡ o → n ≡ below_open s.clock o
  low_at n (inl a) None e =
      let g = open_in_state (n + 1) a.0 in
      let w = found_holds (λ x. x.settled ≡ true) g.0 s.stamped g.1 g.2 (open_none s.stamped e) in
      absurd (true≢false (sym w.0 ∙ w.2))
  low_at n (inr a) None e = a.1 ∙ h.clock
  low_at n (inl a) (Some m) e =
      let g = open_in_state (n + 1) a.0 in
      let w = found_holds (λ z. z.settled ≡ false → m ≤ z.end) g.0 s.stamped g.1 g.2 (open_first m s.stamped k.sound.rising e) in
      let l : m ≤ n + 1 = subst (λ (i : ℕ). m ≤ i) g.3 (w.0 w.2) in
      let y = open_holds (λ x. x.settled ≡ false → preparing_of x.id s.stamped ≡ Some x) m s.stamped e (found_itself s k.single) in
      let b : n + 1 ≤ m = a.1 m (subst (HasOpenEnd table) y.3 (open_in_table y.0 (y.1 y.2))) in
      omega (arith, l, b)
  low_at n (inr a) (Some m) e =
      let y = open_holds (λ x. x.settled ≡ false → preparing_of x.id s.stamped ≡ Some x) m s.stamped e (found_itself s k.single) in
      absurd (a.0 m (subst (HasOpenEnd table) y.3 (open_in_table y.0 (y.1 y.2))))

  pub low_is : (n : ℕ) → IsLowWater table n → n ≡ low_water s
  low_is n a = low_at n a (least_open s.stamped) refl

pub oldest_begin_is : {P : Type 0} (opening : Map) (s : State) (table : Txns P) (n : ℕ) → IsStanding opening s → IsTableOf s table → IsOldestBegin table n → n ≡ oldest_begin s
oldest_begin_is opening s table n k h a = oldest_is opening s table k h n a

pub low_water_is : {P : Type 0} (opening : Map) (s : State) (table : Txns P) (n : ℕ) → IsStanding opening s → IsTableOf s table → IsLowWater table n → n ≡ low_water s
low_water_is opening s table n k h a = low_is opening s table k h n a
