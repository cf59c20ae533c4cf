-- What the causes name.
use Rattle.std.proofs.Common.{◌≡◌, ℕ, ◌<◌, ◌≤◌, Bool, true, false, cond, not, List, [], ◌∷◌, Option, None, Some, refl, sym, ◌∙◌, subst, arith, ◌⊎◌, inl, inr}
use Rattle.std.specs.Prelude.{nat_lt, ◌&&◌}
use Rattle.std.specs.List.{AllByRecursion}
use Rattle.std.proofs.lemmas.Bool.{true≢false, and_parts, and_from, lt-ltb, not-true}
use Rattle.mvo_theory.proofs.Each.{each_weaker}
use Rattle.mvo_theory.proofs.Below.{none_some, some_same}
use Rattle.mvo_theory.specs.State.{StampedTx}
use Rattle.mvo_theory.specs.Dependencies.{has_end}
use Rattle.mvo_theory.specs.Sound.{changes, IsUnchanged, IsRising}
use Rattle.mvo_types.specs.declared.entry.Entry.{Entry}
use Rattle.mvo_theory.specs.Causes.{waiting_for, is_changer, or_first, last_end, change_of}

some_none : (z : StampedTx) → ◌≡◌ {A = Option StampedTx} (Some z) None → ⊥
some_none z q = cc

not_false : (b : Bool) → b ≡ false → not b ≡ true
not_false true e = absurd (true≢false e)
not_false false e = refl

-- where none is waited for, none that it depends_on on is unsettled
pub waiting_none : (ds : List ℕ) (stamped : List StampedTx) → waiting_for ds stamped ≡ None → AllByRecursion (λ x. x.settled ≡ false → has_end ds x.end ≡ false) stamped
waiting_none ds [] h = tt
waiting_none ds (x ∷ xs) h = go (not x.settled && has_end ds x.end) refl h (λ q. waiting_none ds xs q)
  where
    in_ds : (b : Bool) → has_end ds x.end ≡ b → (not x.settled && has_end ds x.end) ≡ false → x.settled ≡ false → has_end ds x.end ≡ false
    in_ds false e f o = e
    in_ds true e f o = absurd (true≢false (sym (and_from (not x.settled) (has_end ds x.end) (not_false x.settled o) e) ∙ f))

    go : (b : Bool) → (not x.settled && has_end ds x.end) ≡ b → cond b (Some x) (waiting_for ds xs) ≡ None → (waiting_for ds xs ≡ None → AllByRecursion (λ y. y.settled ≡ false → has_end ds y.end ≡ false) xs) → (x.settled ≡ false → has_end ds x.end ≡ false) × AllByRecursion (λ y. y.settled ≡ false → has_end ds y.end ≡ false) xs
    go true f g r = absurd (some_none x g)
    go false f g r = (λ o. in_ds (has_end ds x.end) refl f o, r g)

-- who is waited for is unsettled, is rested on, and has the least end of all such
pub waiting_is : (ds : List ℕ) (stamped : List StampedTx) (y : StampedTx) → waiting_for ds stamped ≡ Some y → (y.settled ≡ false) × (has_end ds y.end ≡ true)
waiting_is ds [] y h = absurd (none_some y h)
waiting_is ds (x ∷ xs) y h = go (not x.settled && has_end ds x.end) refl h (λ q. waiting_is ds xs y q)
  where
    go : (b : Bool) → (not x.settled && has_end ds x.end) ≡ b → cond b (Some x) (waiting_for ds xs) ≡ Some y → (waiting_for ds xs ≡ Some y → (y.settled ≡ false) × (has_end ds y.end ≡ true)) → (y.settled ≡ false) × (has_end ds y.end ≡ true)
    go true f g r = let p = and_parts (not x.settled) (has_end ds x.end) f in subst (λ (z : StampedTx). (z.settled ≡ false) × (has_end ds z.end ≡ true)) (some_same x y g) (not-true x.settled p.0, p.1)
    go false f g r = r g

all_above : (n : ℕ) (ds : List ℕ) (x : StampedTx) (xs : List StampedTx) → n ≤ x.end → AllByRecursion (λ z. x.end < z.end) xs → AllByRecursion (λ z. z.settled ≡ false → has_end ds z.end ≡ true → n ≤ z.end) xs
all_above n ds x xs le h = each_weaker (λ z. x.end < z.end) (λ z. z.settled ≡ false → has_end ds z.end ≡ true → n ≤ z.end) (λ z lt _ _. omega arith) xs h

pub waiting_least : (ds : List ℕ) (stamped : List StampedTx) (y : StampedTx) → IsRising stamped → waiting_for ds stamped ≡ Some y → AllByRecursion (λ z. z.settled ≡ false → has_end ds z.end ≡ true → y.end ≤ z.end) stamped
waiting_least ds [] y r h = tt
waiting_least ds (x ∷ xs) y r h = go (not x.settled && has_end ds x.end) refl h (λ q. waiting_least ds xs y r.1 q)
  where
    go : (b : Bool) → (not x.settled && has_end ds x.end) ≡ b → cond b (Some x) (waiting_for ds xs) ≡ Some y → (waiting_for ds xs ≡ Some y → AllByRecursion (λ z. z.settled ≡ false → has_end ds z.end ≡ true → y.end ≤ z.end) xs) → (x.settled ≡ false → has_end ds x.end ≡ true → y.end ≤ x.end) × AllByRecursion (λ z. z.settled ≡ false → has_end ds z.end ≡ true → y.end ≤ z.end) xs
    go true f g q = subst (λ (v : StampedTx). (x.settled ≡ false → has_end ds x.end ≡ true → v.end ≤ x.end) × AllByRecursion (λ z. z.settled ≡ false → has_end ds z.end ≡ true → v.end ≤ z.end) xs) (some_same x y g) (λ _ _. omega arith, all_above x.end ds x xs (omega arith) r.0)
    go false f g q = (λ o w. absurd (true≢false (sym (and_from (not x.settled) (has_end ds x.end) (not_false x.settled o) w) ∙ f)), q g)

-- ---- the greatest change
num_none : (z : ℕ) → ◌≡◌ {A = Option ℕ} (Some z) None → ⊥
num_none z q = cc

num_same : (v z : ℕ) → ◌≡◌ {A = Option ℕ} (Some v) (Some z) → v ≡ z
num_same v z q = cc

none_num : (z : ℕ) → ◌≡◌ {A = Option ℕ} None (Some z) → ⊥
none_num z q = cc

-- one that passes has this end
abbrev pub HasEnd : (StampedTx → Bool) → ℕ → List StampedTx → Type 0
HasEnd p n [] = ⊥
HasEnd p n (x ∷ xs) = ((x.end ≡ n) × (p x ≡ true)) ⊎ HasEnd p n xs

-- without a last end none passes
pub last_none : (p : StampedTx → Bool) (stamped : List StampedTx) → last_end p stamped ≡ None → AllByRecursion (λ u. p u ≡ false) stamped
last_none p [] h = tt
last_none p (x ∷ xs) h = go (p x) refl (last_end p xs) refl (λ q. last_none p xs q) h
  where
    go : (c : Bool) → p x ≡ c → (w : Option ℕ) → last_end p xs ≡ w → (last_end p xs ≡ None → AllByRecursion (λ u. p u ≡ false) xs) → or_first (cond c (Some x.end) None) w ≡ None → (p x ≡ false) × AllByRecursion (λ u. p u ≡ false) xs
    go c f (Some z) g r q = absurd (num_none z q)
    go true f None g r q = absurd (num_none x.end q)
    go false f None g r q = (f, r g)

-- the last end is that of one that passes
pub last_some : (p : StampedTx → Bool) (stamped : List StampedTx) (n : ℕ) → last_end p stamped ≡ Some n → HasEnd p n stamped
last_some p [] n h = absurd (none_num n h)
last_some p (x ∷ xs) n h = go (p x) refl (last_end p xs) refl (λ q. last_some p xs n q) h
  where
    go : (c : Bool) → p x ≡ c → (w : Option ℕ) → last_end p xs ≡ w → (last_end p xs ≡ Some n → HasEnd p n xs) → or_first (cond c (Some x.end) None) w ≡ Some n → ((x.end ≡ n) × (p x ≡ true)) ⊎ HasEnd p n xs
    go c f (Some z) g r q = inr (r (g ∙ q))
    go true f None g r q = inl (num_same x.end n q, f)
    go false f None g r q = absurd (none_num n q)

above_end : (p : StampedTx → Bool) (m n : ℕ) (xs : List StampedTx) → AllByRecursion (λ y. m < y.end) xs → HasEnd p n xs → m < n
above_end p m n [] h c = absurd c
above_end p m n (x ∷ xs) h (inl e) = let l = h.0 in let q = e.0 in omega arith
above_end p m n (x ∷ xs) h (inr c) = above_end p m n xs h.1 c

-- and where the ends rise it is the greatest of those that pass
pub last_greatest : (p : StampedTx → Bool) (stamped : List StampedTx) (n : ℕ) → IsRising stamped → last_end p stamped ≡ Some n → AllByRecursion (λ u. p u ≡ true → u.end ≤ n) stamped
last_greatest p [] n r h = tt
last_greatest p (x ∷ xs) n r h = go (p x) refl (last_end p xs) refl (λ q. last_greatest p xs n r.1 q) h
  where
    none_here : (us : List StampedTx) → AllByRecursion (λ u. p u ≡ false) us → AllByRecursion (λ u. p u ≡ true → u.end ≤ n) us
    none_here us q = each_weaker (λ u. p u ≡ false) (λ u. p u ≡ true → u.end ≤ n) (λ u f g. absurd (true≢false (sym g ∙ f))) us q

    go : (c : Bool) → p x ≡ c → (w : Option ℕ) → last_end p xs ≡ w → (last_end p xs ≡ Some n → AllByRecursion (λ u. p u ≡ true → u.end ≤ n) xs) → or_first (cond c (Some x.end) None) w ≡ Some n → (p x ≡ true → x.end ≤ n) × AllByRecursion (λ u. p u ≡ true → u.end ≤ n) xs
    go c f (Some z) g q i = (λ _. let lt = above_end p x.end n xs r.0 (last_some p xs n (g ∙ i)) in omega arith, q (g ∙ i))
    go true f None g q i = (λ _. let same = num_same x.end n i in omega arith, none_here xs (last_none p xs g))
    go false f None g q i = absurd (none_num n i)

-- the stamp that a failed check names is the greatest by which the entry differs
pub change_greatest : (stamped : List StampedTx) (b e : ℕ) (entry : Entry) (n : ℕ) → IsRising stamped → change_of stamped b e entry ≡ Some n → HasEnd (is_changer b e entry) n stamped × AllByRecursion (λ u. is_changer b e entry u ≡ true → u.end ≤ n) stamped
change_greatest stamped b e entry n r h = (last_some (is_changer b e entry) stamped n h, last_greatest (is_changer b e entry) stamped n r h)

-- an entry that none changed is as it was
unchanged_one : (b e : ℕ) (entry : Entry) (u : StampedTx) → is_changer b e entry u ≡ false → b < u.end → u.end < e → changes entry u ≡ false
unchanged_one b e entry u f l m = go (changes entry u) refl
  where
    go : (w : Bool) → changes entry u ≡ w → changes entry u ≡ false
    go false g = g
    go true g = absurd (true≢false (sym (and_from (nat_lt b u.end && nat_lt u.end e) (changes entry u) (and_from (nat_lt b u.end) (nat_lt u.end e) (lt-ltb b u.end l) (lt-ltb u.end e m)) g) ∙ f))

pub change_none : (b e : ℕ) (entry : Entry) (stamped : List StampedTx) → change_of stamped b e entry ≡ None → IsUnchanged stamped b e entry
change_none b e entry stamped h = each_weaker (λ u. is_changer b e entry u ≡ false) (λ u. b < u.end → u.end < e → changes entry u ≡ false) (unchanged_one b e entry) stamped (last_none (is_changer b e entry) stamped h)
