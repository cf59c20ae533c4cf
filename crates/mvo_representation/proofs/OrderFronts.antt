-- Versions that come to the front of their keys keep them in order, as their transaction goes on.
use Rattle.std.proofs.Common.{◌≡◌, ◌≢◌, ℕ, ◌||◌, Bool, true, false, cond, eqb, List, [], ◌∷◌, map, Option, None, Some, refl, sym, ap, ◌∙◌, subst}
use Rattle.std.specs.List.{AllByRecursion}
use Rattle.std.specs.Ordering.{eq_by_cmp}
use Rattle.std.specs.Cmp.{eq_by_cmp_equiv}
use Rattle.std.proofs.lemmas.Bool.{eqb-true, false≢true, true≢false}
use Rattle.mvo_types.proofs.Maps.{keys_total}
use Rattle.mvo_types.specs.declared.row.RowKey.{RowKey}
use Rattle.mvo_types.specs.Keys.{key_cmp}
use Rattle.mvo_theory.proofs.Each.{each_weaker, each_both}
use Rattle.mvo_theory.proofs.Footprints.{key_same, or_left, or_right}
use Rattle.mvo_chain.specs.declared.version.Version.{Version}
use Rattle.mvo_chain.specs.Slots.{Slots, version_at}
use Rattle.mvo_hash.specs.Lists.{Lists, number, numbers_of, is_among}
use Rattle.mvo_visible.specs.Words.{names}
use Rattle.mvo_representation.specs.Indexes.{HasNumbers}
use Rattle.mvo_representation.specs.Order.{EachPair, HasEndedItsOwn, is_written_by, IsEndedBefore, AreWrittenBy}
use Rattle.mvo_representation.proofs.OrderLists.{On, OnOne, EachLater, pairs_fronted, of_key, and_key, keyed, with_keyed, numbers_fronted, pairs_weaker}
use Rattle.mvo_representation.proofs.OrderSteps.{at_key, none_of, IsOther}
use Rattle.mvo_representation.proofs.Slots.{some_version}

abbrev pub IsNumberOf : Slots → (Version → Bool) → RowKey × ℕ → Type 0
IsNumberOf slots test p = (v : Version) → version_at slots (number p.1) ≡ Some v → (v.row.key ≡ p.0) × (test v ≡ true)

-- these are the numbers of the versions that pass, each with its key
pub record AreNumbersOf (slots : Slots) (test : Version → Bool) (ps : List (RowKey × ℕ)) : Type 0 where
  pub all : (n : ℕ) (v : Version) → version_at slots (number n) ≡ Some v → test v ≡ true → is_among n (map (λ p. p.1) ps) ≡ true
  pub only : AllByRecursion (IsNumberOf slots test) ps

-- of one key that comes later
abbrev pub StandsLater : Slots → (Version → Version → Type 0) → RowKey × ℕ → RowKey × ℕ → Type 0
StandsLater slots E p q = (v w : Version) → version_at slots (number p.1) ≡ Some v → version_at slots (number q.1) ≡ Some w → p.0 ≡ q.0 → p.1 ≢ q.1 → E w v

same_keys : (q k : RowKey) → k ≡ q → eq_by_cmp key_cmp q k ≡ true
same_keys q k e = subst (λ (j : RowKey). eq_by_cmp key_cmp j k ≡ true) e ((eq_by_cmp_equiv keys_total).refl k)

among_key : (slots : Slots) (test : Version → Bool) (q : RowKey) (a : ℕ) (w : Version) → version_at slots (number a) ≡ Some w → w.row.key ≡ q → (ps : List (RowKey × ℕ)) → AllByRecursion (IsNumberOf slots test) ps → is_among a (map (λ p. p.1) ps) ≡ true → is_among a (of_key q ps) ≡ true
among_key slots test q a w at key [] h e = absurd (false≢true e)
among_key slots test q a w at key (p ∷ ps) h e = go (eqb a p.1) refl e (among_key slots test q a w at key ps h.1)
  where
    more : (b : Bool) → is_among a (of_key q ps) ≡ true → is_among a (cond b (p.1 ∷ of_key q ps) (of_key q ps)) ≡ true
    more true f = or_right (eqb a p.1) (is_among a (of_key q ps)) f
    more false f = f

    go : (b : Bool) → eqb a p.1 ≡ b → (b || is_among a (map (λ r. r.1) ps)) ≡ true → (is_among a (map (λ r. r.1) ps) ≡ true → is_among a (of_key q ps) ≡ true) → is_among a (cond (eq_by_cmp key_cmp q p.0) (p.1 ∷ of_key q ps) (of_key q ps)) ≡ true
    go true f g r =
        let is = h.0 w (ap (λ (i : ℕ). version_at slots (number i)) (sym (eqb-true a p.1 f)) ∙ at) in
        ap (λ (b : Bool). is_among a (cond b (p.1 ∷ of_key q ps) (of_key q ps))) (same_keys q p.0 (sym is.0 ∙ key)) ∙ or_left (eqb a p.1) (is_among a (of_key q ps)) f
    go false f g r = more (eq_by_cmp key_cmp q p.0) (r g)

picked : (Q : ℕ → Type 0) (q : RowKey) (ps : List (RowKey × ℕ)) → AllByRecursion (λ p. p.0 ≡ q → Q p.1) ps → AllByRecursion Q (of_key q ps)
picked Q q [] h = tt
picked Q q (p ∷ ps) h = go (eq_by_cmp key_cmp q p.0) refl (picked Q q ps h.1)
  where
    go : (b : Bool) → eq_by_cmp key_cmp q p.0 ≡ b → AllByRecursion Q (of_key q ps) → AllByRecursion Q (cond b (p.1 ∷ of_key q ps) (of_key q ps))
    go true e r = (h.0 (key_same q p.0 e), r)
    go false e r = r

untested : (slots : Slots) (test : Version → Bool) (ps : List (RowKey × ℕ)) (q : RowKey) → AreNumbersOf slots test ps → (a : ℕ) (w : Version) → w.row.key ≡ q → is_among a (of_key q ps) ≡ false → version_at slots (number a) ≡ Some w → test w ≡ false
untested slots test ps q h a w key none at = go (test w) refl
  where
    go : (b : Bool) → test w ≡ b → test w ≡ false
    go false e = e
    go true e = absurd (true≢false (sym (among_key slots test q a w at key ps h.only (h.all a w at e)) ∙ none))

module _ (slots : Slots) (lists : Lists) (test : Version → Bool) (R R' E : Version → Version → Type 0) (F : Version → Type 0) where
  tested : (ps : List (RowKey × ℕ)) (q : RowKey) → AllByRecursion (IsNumberOf slots test) ps → AllByRecursion (OnOne slots (λ w. test w ≡ true)) (of_key q ps)
  tested ps q h = picked (OnOne slots (λ w. test w ≡ true)) q ps (each_weaker (IsNumberOf slots test) (λ p. p.0 ≡ q → OnOne slots (λ w. test w ≡ true) p.1) (λ p f e w at. (f w at).1) ps h)

  later : (ps : List (RowKey × ℕ)) (q : RowKey) → ((n : ℕ) (v : Version) → version_at slots (number n) ≡ Some v → F v) → AllByRecursion (IsNumberOf slots test) ps → EachPair (StandsLater slots E) ps → ((w v : Version) → F w → F v → test w ≡ true → E w v → R' w v) → EachLater (On slots R') (of_key q ps)
  later [] q facts h o front = tt
  later (p ∷ ps) q facts h o front = go (eq_by_cmp key_cmp q p.0) refl (later ps q facts h.1 o.1 front)
    where
      here : p.0 ≡ q → is_among p.1 (of_key q ps) ≡ false → AllByRecursion (λ a. On slots R' a p.1) (of_key q ps)
      here k none = each_both (λ a. IsOther p.1 a × OnOne slots (λ w. test w ≡ true) a) (λ a. p.1 ≢ a → On slots E a p.1) (λ a. On slots R' a p.1)
          (λ a is f w v at at'. front w v (facts a w at) (facts p.1 v at') (is.1 w at) (f (λ e. is.0 (sym e)) w v at at')) (of_key q ps)
          (each_both (IsOther p.1) (OnOne slots (λ w. test w ≡ true)) (λ a. IsOther p.1 a × OnOne slots (λ w. test w ≡ true) a) (λ a x y. (x, y)) (of_key q ps) (none_of p.1 (of_key q ps) none) (tested ps q h.1))
          (picked (λ a. p.1 ≢ a → On slots E a p.1) q ps (each_weaker (StandsLater slots E p) (λ r. r.0 ≡ q → p.1 ≢ r.1 → On slots E r.1 p.1) (λ r f e d w v at at'. f v w at' at (k ∙ sym e) d) ps o.0))

      go : (b : Bool) → eq_by_cmp key_cmp q p.0 ≡ b → EachLater (On slots R') (of_key q ps) → EachLater (On slots R') (cond b (p.1 ∷ of_key q ps) (of_key q ps))
      go true e r = (here (key_same q p.0 e), r)
      go false e r = r

  -- those that pass come to the front
  pub fronts_in_order : (ps : List (RowKey × ℕ)) → HasNumbers slots lists → ((n : ℕ) (v : Version) → version_at slots (number n) ≡ Some v → F v) → AreNumbersOf slots test ps → EachPair (StandsLater slots E) ps → ((w v : Version) → F w → F v → test w ≡ false → test v ≡ false → R w v → R' w v) →
      ((w v : Version) → F w → F v → test w ≡ true → E w v → R' w v) → ((w v : Version) → F v → test v ≡ false → E w v) → (q : RowKey) → EachPair (On slots R) (numbers_of lists q) → EachPair (On slots R') (numbers_of (with_keyed lists ps) q)
  fronts_in_order ps has facts h o stay front apart q order = subst (EachPair (On slots R')) (sym (numbers_fronted lists ps q)) (pairs_fronted (On slots R') (of_key q ps) (numbers_of lists q)
      (pairs_weaker (OnOne slots (λ v. v.row.key ≡ q)) (On slots R) (λ a b. is_among a (of_key q ps) ≡ false → is_among b (of_key q ps) ≡ false → On slots R' a b)
      (λ a b ka kb f x y w v at at'. stay w v (facts a w at) (facts b v at') (untested slots test ps q h a w (ka w at) x at) (untested slots test ps q h b v (kb v at') y at') (f w v at at')) (numbers_of lists q) (at_key slots lists q has) order)
      (each_weaker (OnOne slots (λ v. v.row.key ≡ q)) (λ b. is_among b (of_key q ps) ≡ false → AllByRecursion (λ a. On slots R' a b) (of_key q ps))
      (λ b kb none. each_weaker (OnOne slots (λ w. test w ≡ true)) (λ a. On slots R' a b) (λ a is w v at at'. front w v (facts a w at) (facts b v at') (is w at) (apart w v (facts b v at') (untested slots test ps q h b v (kb v at') none at'))) (of_key q ps) (tested ps q h.only)) (numbers_of lists q) (at_key slots lists q has))
      (later ps q facts h.only o front))

-- ---- what a transaction has written, as it comes to the front
no_key : (o : Option Version) (test : Version → Bool) (n : ℕ) (ps : List (RowKey × ℕ)) (P : RowKey × ℕ → Type 0) → ((v : Version) → o ≡ Some v → test v ≡ true → P (v.row.key, n)) → AllByRecursion P ps → AllByRecursion P (and_key test n o ps)
no_key None test n ps P f h = h
no_key (Some v) test n ps P f h = go (test v) refl
  where
    go : (b : Bool) → test v ≡ b → AllByRecursion P (cond b ((v.row.key, n) ∷ ps) ps)
    go true e = (f v refl e, h)
    go false e = h

-- what holds of each number that passes
pub each_keyed : (test : Version → Bool) (slots : Slots) (P : RowKey × ℕ → Type 0) (ns : List ℕ) → AllByRecursion (λ n. (v : Version) → version_at slots (number n) ≡ Some v → test v ≡ true → P (v.row.key, n)) ns → AllByRecursion P (keyed test slots ns)
each_keyed test slots P [] h = tt
each_keyed test slots P (n ∷ ns) h = no_key (version_at slots (number n)) test n (keyed test slots ns) P h.0 (each_keyed test slots P ns h.1)

always_of : (P : ℕ → Type 0) → ((n : ℕ) → P n) → (ns : List ℕ) → AllByRecursion P ns
always_of P f [] = tt
always_of P f (n ∷ ns) = (f n, always_of P f ns)

pairs_keyed : (test : Version → Bool) (slots : Slots) (R : RowKey × ℕ → RowKey × ℕ → Type 0) (ns : List ℕ) → EachPair (λ m n. (v w : Version) → version_at slots (number m) ≡ Some v → version_at slots (number n) ≡ Some w → R (v.row.key, m) (w.row.key, n)) ns → EachPair R (keyed test slots ns)
pairs_keyed test slots R [] h = tt
pairs_keyed test slots R (n ∷ ns) h = go (version_at slots (number n)) refl (pairs_keyed test slots R ns h.1)
  where
    here : (b : Bool) (v : Version) → version_at slots (number n) ≡ Some v → EachPair R (keyed test slots ns) → EachPair R (cond b ((v.row.key, n) ∷ keyed test slots ns) (keyed test slots ns))
    here true v e r = (each_keyed test slots (R (v.row.key, n)) ns (each_weaker _ (λ m. (w : Version) → version_at slots (number m) ≡ Some w → test w ≡ true → R (v.row.key, n) (w.row.key, m)) (λ m f w at _. f v w e at) ns h.0), r)
    here false v e r = r

    go : (o : Option Version) → version_at slots (number n) ≡ o → EachPair R (keyed test slots ns) → EachPair R (and_key test n o (keyed test slots ns))
    go None e r = r
    go (Some v) e r = here (test v) v e r

among_keyed : (test : Version → Bool) (slots : Slots) (n : ℕ) (v : Version) → version_at slots (number n) ≡ Some v → test v ≡ true → (ns : List ℕ) → is_among n ns ≡ true → is_among n (map (λ p. p.1) (keyed test slots ns)) ≡ true
among_keyed test slots n v at on [] e = absurd (false≢true e)
among_keyed test slots n v at on (m ∷ ns) e = go (eqb n m) refl e (among_keyed test slots n v at on ns)
  where
    more : (o : Option Version) → is_among n (map (λ p. p.1) (keyed test slots ns)) ≡ true → is_among n (map (λ p. p.1) (and_key test m o (keyed test slots ns))) ≡ true
    more None r = r
    more (Some w) r = by (test w)
      where
        by : (b : Bool) → is_among n (map (λ p. p.1) (cond b ((w.row.key, m) ∷ keyed test slots ns) (keyed test slots ns))) ≡ true
        by true = or_right (eqb n m) (is_among n (map (λ p. p.1) (keyed test slots ns))) r
        by false = r

    go : (b : Bool) → eqb n m ≡ b → (b || is_among n ns) ≡ true → (is_among n ns ≡ true → is_among n (map (λ p. p.1) (keyed test slots ns)) ≡ true) → is_among n (map (λ p. p.1) (and_key test m (version_at slots (number m)) (keyed test slots ns))) ≡ true
    go true f g r =
        ap (λ o. is_among n (map (λ p. p.1) (and_key test m o (keyed test slots ns)))) (ap (λ (i : ℕ). version_at slots (number i)) (sym (eqb-true n m f)) ∙ at)
        ∙ ap (λ (b : Bool). is_among n (map (λ p. p.1) (cond b ((v.row.key, m) ∷ keyed test slots ns) (keyed test slots ns)))) on
        ∙ or_left (eqb n m) (is_among n (map (λ p. p.1) (keyed test slots ns))) f
    go false f g r = more (version_at slots (number m)) (r g)

pub written_numbers : (t : ℕ) (slots : Slots) (test : Version → Bool) (ns : List ℕ) → ((v : Version) → test v ≡ true → is_written_by t v ≡ true) → AreWrittenBy t slots ns → AreNumbersOf slots test (keyed test slots ns)
written_numbers t slots test ns f h = record {
  all = λ n v at on. among_keyed test slots n v at on ns (h.all n v at (f v on));
  only = each_keyed test slots (IsNumberOf slots test) ns (always_of (λ n. (v : Version) → version_at slots (number n) ≡ Some v → test v ≡ true → IsNumberOf slots test (v.row.key, n)) (λ n v at on w at'. let same = some_version v w (sym at ∙ at') in (sym (ap (λ (x : Version). x.row.key) same), sym (ap test same) ∙ on)) ns);
}

pub written_order : (t : ℕ) (slots : Slots) (test : Version → Bool) (ns : List ℕ) → AreWrittenBy t slots ns → EachPair (StandsLater slots (HasEndedItsOwn (names t))) (keyed test slots ns)
written_order t slots test ns h = pairs_keyed test slots (StandsLater slots (HasEndedItsOwn (names t))) ns
    (pairs_weaker (λ n. Unit {0}) (IsEndedBefore t slots) _ (λ m n _ _ f v w at at' x y p q e d. f x y p q (sym (ap (λ (z : Version). z.row.key) (some_version v x (sym at ∙ p))) ∙ e ∙ ap (λ (z : Version). z.row.key) (some_version w y (sym at' ∙ q))) d) ns (always_of (λ n. Unit {0}) (λ n. tt) ns) h.order)
