-- Transactions that wrote nothing, put into their places among others that are legal one after another.
use Rattle.std.proofs.Common.{◌≡◌, ◌≢◌, ℕ, ◌<◌, ◌≤◌, Bool, true, false, cond, List, [], ◌∷◌, ◌++◌, map, refl, sym, ap, ◌∙◌, subst, arith}
use Rattle.std.specs.Prelude.{nat_lt, ◌==◌, ⊤}
use Rattle.std.specs.List.{AllByRecursion, filter, IsDistinct}
use Rattle.std.specs.List.Sorted.{IsStrictlySortedBy}
use Rattle.std.specs.Ordering.{nat_cmp, is_lt, is_eq, eq_by_cmp}
use Rattle.std.specs.declared.cmp.Ordering.TheVariants.{Less, Equal, Greater}
use Rattle.std.proofs.lemmas.Bool.{ltb-true, ltb-false, le-ltb, ne_eqb, true≢false}
use Rattle.std.proofs.lemmas.List.Sorted.{IsPermutation-refl}
use Rattle.std.proofs.lemmas.Map.Keys.{IsDistinct-cons, IsDistinct-from_sorted}
use Rattle.mvo_types.specs.Keys.{Map}
use Rattle.mvo_model.specs.History.{History, AreSerial, Legal, after_history, after_histories, after_write, rows_after_all}
use Rattle.mvo_model.specs.Order.{IsInOrder, placed, in_order}
use Rattle.mvo_model.specs.Trace.{end_cmp}
use Rattle.mvo_model.proofs.Orders.{in_order_is, only_in_order}
use Rattle.mvo_model.proofs.Scans.{end_total}
use Rattle.mvo_model.proofs.Serials.{rows_after_all-after_history}
use Rattle.mvo_theory.proofs.Each.{each_weaker}
use Rattle.mvo_readonly.specs.ReadAt.{WritesNothing}

abbrev pub Pairs : Type 0
Pairs = List (ℕ × ℕ)

-- one that wrote nothing leaves the rows
pub idle_rows : (ts : History) (m : Map) → WritesNothing ts → after_history ts m ≡ m
idle_rows [] m h = refl
idle_rows (t ∷ ts) m h = ap (λ w. after_history ts (after_write w m)) h.0 ∙ idle_rows ts m h.1

-- those with an end below b
abbrev pub below : ℕ → Pairs → Pairs
below b cs = filter (λ c. nat_lt c.0 b) cs

-- the rows after these, one after another
abbrev pub rows_of : (ℕ × ℕ → History) → Pairs → Map → Map
rows_of f cs m = after_histories (map f cs) m

-- whether the one comes before the other
lt_is : (x y : ℕ) → is_lt (nat_cmp x y) ≡ nat_lt x y
lt_is x y = go (nat_lt x y) (x == y)
  where
    go : (a b : Bool) → is_lt (cond a Less (cond b Equal Greater)) ≡ a
    go true b = refl
    go false true = refl
    go false false = refl

less_is : (x y : ℕ) → nat_cmp x y ≡ Less → x < y
less_is x y e = ltb-true x y (sym (lt_is x y) ∙ ap is_lt e)

none_below : (b : ℕ) (cs : Pairs) → AllByRecursion (λ c. b ≤ c.0) cs → below b cs ≡ []
none_below b [] h = refl
none_below b (c ∷ cs) h = ap (λ (x : Bool). cond x (c ∷ below b cs) (below b cs)) (le-ltb c.0 b h.0) ∙ none_below b cs h.1

-- ---- one more
-- its rows are those of the others
pub rows_placed : (f : ℕ × ℕ → History) (d : ℕ × ℕ) (p : ℕ × ℕ → Bool) (cs : Pairs) (m : Map) → WritesNothing (f d) → rows_of f (filter p (placed end_cmp d cs)) m ≡ rows_of f (filter p cs) m
rows_placed f d p [] m i = go (p d)
  where
    go : (b : Bool) → rows_of f (cond b (d ∷ []) []) m ≡ m
    go true = idle_rows (f d) m i
    go false = refl
rows_placed f d p (c ∷ cs) m i = go (is_lt (end_cmp c d)) (p c) (p d) refl refl (λ n. rows_placed f d p cs n i)
  where
    go : (a b e : Bool) → p c ≡ b → p d ≡ e → ((n : Map) → rows_of f (filter p (placed end_cmp d cs)) n ≡ rows_of f (filter p cs) n) → rows_of f (filter p (cond a (c ∷ placed end_cmp d cs) (d ∷ c ∷ cs))) m ≡ rows_of f (cond b (c ∷ filter p cs) (filter p cs)) m
    go true true e q r k = ap (λ (x : Bool). rows_of f (cond x (c ∷ filter p (placed end_cmp d cs)) (filter p (placed end_cmp d cs))) m) q ∙ k (after_history (f c) m)
    go true false e q r k = ap (λ (x : Bool). rows_of f (cond x (c ∷ filter p (placed end_cmp d cs)) (filter p (placed end_cmp d cs))) m) q ∙ k m
    go false b true q r k = ap (λ (x : Bool). rows_of f (cond x (d ∷ filter p (c ∷ cs)) (filter p (c ∷ cs))) m) r ∙ ap (λ n. rows_of f (filter p (c ∷ cs)) n) (idle_rows (f d) m i) ∙ ap (λ (x : Bool). rows_of f (cond x (c ∷ filter p cs) (filter p cs)) m) q
    go false b false q r k = ap (λ (x : Bool). rows_of f (cond x (d ∷ filter p (c ∷ cs)) (filter p (c ∷ cs))) m) r ∙ ap (λ (x : Bool). rows_of f (cond x (c ∷ filter p cs) (filter p cs)) m) q

-- and all stay legal
pub legal_placed : (f : ℕ × ℕ → History) (d : ℕ × ℕ) (cs : Pairs) (m : Map) → IsStrictlySortedBy end_cmp cs → AllByRecursion (λ c. c.0 ≢ d.0) cs → WritesNothing (f d) → AreSerial (f d) (rows_of f (below d.0 cs) m) → Legal m (map f cs) → Legal m (map f (placed end_cmp d cs))
unfolding IsStrictlySortedBy
legal_placed f d [] m s n i q l = (q, tt)
legal_placed f d (c ∷ cs) m s n i q l = go (nat_lt c.0 d.0) refl (lt_is c.0 d.0) q (λ k r t. legal_placed f d cs k s.1 n.1 i r t)
  where
    go : (b : Bool) → nat_lt c.0 d.0 ≡ b → is_lt (end_cmp c d) ≡ nat_lt c.0 d.0 → AreSerial (f d) (rows_of f (cond (nat_lt c.0 d.0) (c ∷ below d.0 cs) (below d.0 cs)) m) → ((k : Map) → AreSerial (f d) (rows_of f (below d.0 cs) k) → Legal k (map f cs) → Legal k (map f (placed end_cmp d cs))) → Legal m (map f (cond (is_lt (end_cmp c d)) (c ∷ placed end_cmp d cs) (d ∷ c ∷ cs)))
    go true e g r again =
        let rows = rows_after_all-after_history (f c) m l.0 in
        subst (λ (x : Bool). Legal m (map f (cond x (c ∷ placed end_cmp d cs) (d ∷ c ∷ cs)))) (sym (g ∙ e)) (
          l.0,
          again (rows_after_all (map (λ x. x.0) (f c)) m)
              (subst (λ k. AreSerial (f d) (rows_of f (below d.0 cs) k)) (sym rows) (subst (λ (x : Bool). AreSerial (f d) (rows_of f (cond x (c ∷ below d.0 cs) (below d.0 cs)) m)) e r)) l.1,
        )
    go false e g r again =
        let above = ltb-false c.0 d.0 e in
        let none = none_below d.0 cs (each_weaker (λ x. end_cmp c x ≡ Less) (λ x. d.0 ≤ x.0) (λ x k. let lt = less_is c.0 x.0 k in omega arith) cs s.0) in
        let mine : AreSerial (f d) m = subst (λ (xs : Pairs). AreSerial (f d) (rows_of f xs m)) none (subst (λ (x : Bool). AreSerial (f d) (rows_of f (cond x (c ∷ below d.0 cs) (below d.0 cs)) m)) e r) in
        subst (λ (x : Bool). Legal m (map f (cond x (c ∷ placed end_cmp d cs) (d ∷ c ∷ cs)))) (sym (g ∙ e)) (
          mine,
          subst (λ k. Legal k (map f (c ∷ cs))) (sym (rows_after_all-after_history (f d) m mine ∙ idle_rows (f d) m i)) l,
        )

-- ---- many more
-- with different ends among themselves and from the others
abbrev pub AreNew : Pairs → Pairs → Type 0
AreNew [] cs = ⊤
AreNew (d ∷ ds) cs = AllByRecursion (λ c. c.0 ≢ d.0) (ds ++ cs) × AreNew ds cs

differ : (d c : ℕ × ℕ) → c.0 ≢ d.0 → eq_by_cmp end_cmp d c ≡ false
differ d c n = go (nat_lt d.0 c.0) (d.0 == c.0) (ne_eqb d.0 c.0 (λ e. n (sym e)))
  where
    go : (a b : Bool) → b ≡ false → is_eq (cond a Less (cond b Equal Greater)) ≡ false
    go true b e = refl
    go false false e = refl
    go false true e = absurd (true≢false e)

distinct_new : (ds cs : Pairs) → AreNew ds cs → IsStrictlySortedBy end_cmp cs → IsDistinct (eq_by_cmp end_cmp) (ds ++ cs)
distinct_new [] cs n s = IsDistinct-from_sorted end_cmp cs s
distinct_new (d ∷ ds) cs n s = IsDistinct-cons (eq_by_cmp end_cmp) d (ds ++ cs) (each_weaker (λ c. c.0 ≢ d.0) (λ c. eq_by_cmp end_cmp d c ≡ false) (differ d) (ds ++ cs) n.0) (distinct_new ds cs n.1 s)

pub rise_new : (ds cs : Pairs) → AreNew ds cs → IsStrictlySortedBy end_cmp cs → IsInOrder end_cmp (ds ++ cs) (in_order end_cmp (ds ++ cs))
rise_new ds cs n s = in_order_is end_total (ds ++ cs) (distinct_new ds cs n s)

-- what is in order already stays as it is
pub in_order_already : (cs : Pairs) → IsStrictlySortedBy end_cmp cs → in_order end_cmp cs ≡ cs
in_order_already cs s = sym (only_in_order end_total cs cs (record { same = IsPermutation-refl cs; rise = s }))

each_placed : (P : ℕ × ℕ → Type 0) (d : ℕ × ℕ) (cs : Pairs) → P d → AllByRecursion P cs → AllByRecursion P (placed end_cmp d cs)
each_placed P d [] p h = (p, tt)
each_placed P d (c ∷ cs) p h = go (is_lt (end_cmp c d)) (each_placed P d cs p h.1)
  where
    go : (b : Bool) → AllByRecursion P (placed end_cmp d cs) → AllByRecursion P (cond b (c ∷ placed end_cmp d cs) (d ∷ c ∷ cs))
    go true k = (h.0, k)
    go false k = (p, h)

pub each_in_order : (P : ℕ × ℕ → Type 0) (cs : Pairs) → AllByRecursion P cs → AllByRecursion P (in_order end_cmp cs)
each_in_order P [] h = tt
each_in_order P (c ∷ cs) h = each_placed P c (in_order end_cmp cs) h.0 (each_in_order P cs h.1)

-- the rows of a part of them are those of the part of the others
pub rows_many : (f : ℕ × ℕ → History) (p : ℕ × ℕ → Bool) (ds cs : Pairs) (m : Map) → IsStrictlySortedBy end_cmp cs → AllByRecursion (λ d. WritesNothing (f d)) ds → rows_of f (filter p (in_order end_cmp (ds ++ cs))) m ≡ rows_of f (filter p cs) m
rows_many f p [] cs m s i = ap (λ (xs : Pairs). rows_of f (filter p xs) m) (in_order_already cs s)
rows_many f p (d ∷ ds) cs m s i = rows_placed f d p (in_order end_cmp (ds ++ cs)) m i.0 ∙ rows_many f p ds cs m s i.1

-- and all are legal one after another
pub legal_many : (f : ℕ × ℕ → History) (ds cs : Pairs) (m : Map) → IsStrictlySortedBy end_cmp cs → AreNew ds cs → AllByRecursion (λ d. WritesNothing (f d)) ds → AllByRecursion (λ d. AreSerial (f d) (rows_of f (below d.0 cs) m)) ds → Legal m (map f cs) → Legal m (map f (in_order end_cmp (ds ++ cs)))
legal_many f [] cs m s n i q l = subst (λ (xs : Pairs). Legal m (map f xs)) (sym (in_order_already cs s)) l
legal_many f (d ∷ ds) cs m s n i q l =
    legal_placed f d (in_order end_cmp (ds ++ cs)) m (rise_new ds cs n.1 s).rise (each_in_order (λ c. c.0 ≢ d.0) (ds ++ cs) n.0) i.0
    (subst (AreSerial (f d)) (sym (rows_many f (λ c. nat_lt c.0 d.0) ds cs m s i.1)) q.0) (legal_many f ds cs m s n.1 i.1 q.1 l)
