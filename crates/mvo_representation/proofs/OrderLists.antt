-- Pairs of a list, and lists of numbers of which some come to the front.
use Rattle.std.proofs.Common.{◌≡◌, ℕ, ◌||◌, Bool, true, false, cond, not, eqb, List, [], ◌∷◌, Option, None, Some, refl, sym, ap, ◌∙◌, subst}
use Rattle.std.specs.Prelude.{⊤}
use Rattle.std.specs.List.{AllByRecursion}
use Rattle.std.specs.Ordering.{eq_by_cmp}
use Rattle.std.proofs.lemmas.Bool.{eqb-true, eq-eqb, true≢false}
use Rattle.mvo_types.specs.declared.row.RowKey.{RowKey}
use Rattle.mvo_types.specs.Keys.{key_cmp}
use Rattle.mvo_chain.specs.declared.version.Version.{Version}
use Rattle.mvo_chain.specs.Slots.{Slots, version_at}
use Rattle.mvo_hash.specs.Lists.{Lists, number, numbers_of, is_among, without_number}
use Rattle.mvo_hash.proofs.Views.{numbers_put}
use Rattle.mvo_visible.specs.Versions.{and_version}
use Rattle.mvo_visible.specs.Fronts.{with_front}
use Rattle.mvo_visible.proofs.Moves.{versions}
use Rattle.mvo_theory.proofs.Footprints.{key_same}
use Rattle.mvo_theory.proofs.Each.{each_weaker, each_both}
use Rattle.mvo_representation.specs.Order.{EachPair, with_front_if, with_fronts}
use Rattle.mvo_representation.proofs.Slots.{some_version}

-- ---- pairs
pub pairs_weaker : {X : Type 0} (P : X → Type 0) (R Q : X → X → Type 0) → ((w v : X) → P w → P v → R w v → Q w v) → (xs : List X) → AllByRecursion P xs → EachPair R xs → EachPair Q xs
pairs_weaker P R Q f [] a h = tt
pairs_weaker P R Q f (x ∷ xs) a h = (each_both P (R x) (Q x) (λ y p r. f x y a.0 p r) xs a.1 h.0, pairs_weaker P R Q f xs a.1 h.1)

-- ---- versions by their numbers
pub no_version : (v : Version) → ◌≡◌ {A = Option Version} None (Some v) → ⊥
no_version v q = cc

-- what holds of the versions with these numbers
abbrev pub On : Slots → (Version → Version → Type 0) → ℕ → ℕ → Type 0
On slots R a b = (w v : Version) → version_at slots (number a) ≡ Some w → version_at slots (number b) ≡ Some v → R w v

abbrev pub OnOne : Slots → (Version → Type 0) → ℕ → Type 0
OnOne slots P a = (v : Version) → version_at slots (number a) ≡ Some v → P v

pub all_to : (slots : Slots) (P : Version → Type 0) (ns : List ℕ) → AllByRecursion (λ e. P e.1) (versions slots ns) → AllByRecursion (OnOne slots P) ns
all_to slots P [] h = tt
all_to slots P (n ∷ ns) h = go (version_at slots (number n)) refl h (λ r. all_to slots P ns r)
  where
    go : (o : Option Version) → version_at slots (number n) ≡ o → AllByRecursion (λ e. P e.1) (and_version (number n) o (versions slots ns)) → (AllByRecursion (λ e. P e.1) (versions slots ns) → AllByRecursion (OnOne slots P) ns) → OnOne slots P n × AllByRecursion (OnOne slots P) ns
    go None e a r = ((λ v q. absurd (no_version v (sym e ∙ q))), r a)
    go (Some w) e a r = ((λ v q. subst P (some_version w v (sym e ∙ q)) a.0), r a.1)

pub all_from : (slots : Slots) (P : Version → Type 0) (ns : List ℕ) → AllByRecursion (OnOne slots P) ns → AllByRecursion (λ e. P e.1) (versions slots ns)
all_from slots P [] h = tt
all_from slots P (n ∷ ns) h = go (version_at slots (number n)) refl (all_from slots P ns h.1)
  where
    go : (o : Option Version) → version_at slots (number n) ≡ o → AllByRecursion (λ e. P e.1) (versions slots ns) → AllByRecursion (λ e. P e.1) (and_version (number n) o (versions slots ns))
    go None e r = r
    go (Some w) e r = (h.0 w e, r)

pub pairs_to : (slots : Slots) (R : Version → Version → Type 0) (ns : List ℕ) → EachPair (λ w v. R w.1 v.1) (versions slots ns) → EachPair (On slots R) ns
pairs_to slots R [] h = tt
pairs_to slots R (n ∷ ns) h = go (version_at slots (number n)) refl h (λ r. pairs_to slots R ns r)
  where
    none : (ms : List ℕ) → version_at slots (number n) ≡ None → AllByRecursion (On slots R n) ms
    none [] e = tt
    none (m ∷ ms) e = ((λ w v q r. absurd (no_version w (sym e ∙ q))), none ms e)

    go : (o : Option Version) → version_at slots (number n) ≡ o → EachPair (λ w v. R w.1 v.1) (and_version (number n) o (versions slots ns)) → (EachPair (λ w v. R w.1 v.1) (versions slots ns) → EachPair (On slots R) ns) → AllByRecursion (On slots R n) ns × EachPair (On slots R) ns
    go None e a r = (none ns e, r a)
    go (Some x) e a r = (each_weaker (OnOne slots (R x)) (On slots R n) (λ m f w v q s. subst (λ (u : Version). R u v) (some_version x w (sym e ∙ q)) (f v s)) ns (all_to slots (R x) ns a.0), r a.1)

pub pairs_from : (slots : Slots) (R : Version → Version → Type 0) (ns : List ℕ) → EachPair (On slots R) ns → EachPair (λ w v. R w.1 v.1) (versions slots ns)
pairs_from slots R [] h = tt
pairs_from slots R (n ∷ ns) h = go (version_at slots (number n)) refl (pairs_from slots R ns h.1)
  where
    go : (o : Option Version) → version_at slots (number n) ≡ o → EachPair (λ w v. R w.1 v.1) (versions slots ns) → EachPair (λ w v. R w.1 v.1) (and_version (number n) o (versions slots ns))
    go None e r = r
    go (Some x) e r = (all_from slots (R x) ns (each_weaker (On slots R n) (OnOne slots (R x)) (λ m f v s. f x v e s) ns h.0), r)

-- ---- numbers that come to the front
abbrev pub fronted : List ℕ → List ℕ → List ℕ
fronted [] ns = ns
fronted (m ∷ ms) ns = fronted ms (m ∷ without_number m ns)

-- each that isn't brought again later stands behind those that come after it
abbrev pub EachLater : (ℕ → ℕ → Type 0) → List ℕ → Type 0
EachLater R [] = ⊤
EachLater R (m ∷ ms) = (is_among m ms ≡ false → AllByRecursion (λ a. R a m) ms) × EachLater R ms

pub all_without : (m : ℕ) (P : ℕ → Type 0) (ns : List ℕ) → AllByRecursion (λ a. eqb m a ≡ false → P a) ns → AllByRecursion P (without_number m ns)
all_without m P [] h = tt
all_without m P (n ∷ ns) h = go (eqb m n) refl (all_without m P ns h.1)
  where
    go : (c : Bool) → eqb m n ≡ c → AllByRecursion P (without_number m ns) → AllByRecursion P (cond (not c) (n ∷ without_number m ns) (without_number m ns))
    go true e r = r
    go false e r = (h.0 e, r)

pub pairs_without : (m : ℕ) (R : ℕ → ℕ → Type 0) (ns : List ℕ) → EachPair (λ a b. eqb m a ≡ false → eqb m b ≡ false → R a b) ns → EachPair R (without_number m ns)
pairs_without m R [] h = tt
pairs_without m R (n ∷ ns) h = go (eqb m n) refl (pairs_without m R ns h.1)
  where
    go : (c : Bool) → eqb m n ≡ c → EachPair R (without_number m ns) → EachPair R (cond (not c) (n ∷ without_number m ns) (without_number m ns))
    go true e r = r
    go false e r = (all_without m (R n) ns (each_weaker (λ b. eqb m n ≡ false → eqb m b ≡ false → R n b) (λ b. eqb m b ≡ false → R n b) (λ b f. f e) ns h.0), r)

none_among : (a m : ℕ) (ms : List ℕ) → eqb m a ≡ false → is_among a ms ≡ false → is_among a (m ∷ ms) ≡ false
none_among a m ms e f = ap (λ (c : Bool). c || is_among a ms) (turned (eqb a m) refl) ∙ f
  where
    turned : (c : Bool) → eqb a m ≡ c → eqb a m ≡ false
    turned true q = absurd (true≢false (sym (eq-eqb m a (sym (eqb-true a m q))) ∙ e))
    turned false q = q

-- those that stay behind stand as before, and those that come to the front stand in front of them
pub pairs_fronted : (R : ℕ → ℕ → Type 0) (ms ns : List ℕ) → EachPair (λ a b. is_among a ms ≡ false → is_among b ms ≡ false → R a b) ns → AllByRecursion (λ b. is_among b ms ≡ false → AllByRecursion (λ a. R a b) ms) ns → EachLater R ms → EachPair R (fronted ms ns)
pairs_fronted R [] ns h k l = pairs_weaker (λ n. ⊤) (λ a b. is_among a [] ≡ false → is_among b [] ≡ false → R a b) R (λ a b p q f. f refl refl) ns (always ns) h
  where
    always : (xs : List ℕ) → AllByRecursion (λ n. ⊤) xs
    always [] = tt
    always (x ∷ xs) = (tt, always xs)
pairs_fronted R (m ∷ ms) ns h k l = pairs_fronted R ms (m ∷ without_number m ns) (
  all_without m (λ b. is_among m ms ≡ false → is_among b ms ≡ false → R m b) ns (each_weaker (λ b. is_among b (m ∷ ms) ≡ false → AllByRecursion (λ a. R a b) (m ∷ ms)) (λ b. eqb m b ≡ false → is_among m ms ≡ false → is_among b ms ≡ false → R m b) (λ b f e p q. (f (none_among b m ms e q)).0) ns k),
  pairs_without m (λ a b. is_among a ms ≡ false → is_among b ms ≡ false → R a b) ns (pairs_weaker (λ n. ⊤) (λ a b. is_among a (m ∷ ms) ≡ false → is_among b (m ∷ ms) ≡ false → R a b) (λ a b. eqb m a ≡ false → eqb m b ≡ false → is_among a ms ≡ false → is_among b ms ≡ false → R a b) (λ a b p q f d e u v. f (none_among a m ms d u) (none_among b m ms e v)) ns (always ns) h),
)
    ((λ f. l.0 f), all_without m (λ b. is_among b ms ≡ false → AllByRecursion (λ a. R a b) ms) ns (each_weaker (λ b. is_among b (m ∷ ms) ≡ false → AllByRecursion (λ a. R a b) (m ∷ ms)) (λ b. eqb m b ≡ false → is_among b ms ≡ false → AllByRecursion (λ a. R a b) ms) (λ b f e q. (f (none_among b m ms e q)).1) ns k)) l.1
  where
    always : (xs : List ℕ) → AllByRecursion (λ n. ⊤) xs
    always [] = tt
    always (x ∷ xs) = (tt, always xs)

-- ---- of the numbers that come to the front, those of one key
-- these numbers, each with the key of its version, come to the front of their keys
abbrev pub with_keyed : Lists → List (RowKey × ℕ) → Lists
with_keyed lists [] = lists
with_keyed lists (p ∷ ps) = with_keyed (with_front lists p.0 p.1) ps

abbrev pub of_key : RowKey → List (RowKey × ℕ) → List ℕ
of_key q [] = []
of_key q (p ∷ ps) = cond (eq_by_cmp key_cmp q p.0) (p.1 ∷ of_key q ps) (of_key q ps)

pub numbers_fronted : (lists : Lists) (ps : List (RowKey × ℕ)) (q : RowKey) → numbers_of (with_keyed lists ps) q ≡ fronted (of_key q ps) (numbers_of lists q)
numbers_fronted lists [] q = refl
numbers_fronted lists (p ∷ ps) q =
    numbers_fronted (with_front lists p.0 p.1) ps q ∙ ap (fronted (of_key q ps)) (numbers_put lists p.0 (p.1 ∷ without_number p.1 (numbers_of lists p.0)) q)
    ∙ go (eq_by_cmp key_cmp q p.0) refl
  where
    go : (c : Bool) → eq_by_cmp key_cmp q p.0 ≡ c → fronted (of_key q ps) (cond c (p.1 ∷ without_number p.1 (numbers_of lists p.0)) (numbers_of lists q)) ≡ fronted (cond c (p.1 ∷ of_key q ps) (of_key q ps)) (numbers_of lists q)
    go true e = ap (λ (k : RowKey). fronted (of_key q ps) (p.1 ∷ without_number p.1 (numbers_of lists k))) (key_same q p.0 e)
    go false e = refl

-- the numbers whose versions pass, each with its key
abbrev pub and_key : (Version → Bool) → ℕ → Option Version → List (RowKey × ℕ) → List (RowKey × ℕ)
and_key test n None ps = ps
and_key test n (Some v) ps = cond (test v) ((v.row.key, n) ∷ ps) ps

abbrev pub keyed : (Version → Bool) → Slots → List ℕ → List (RowKey × ℕ)
keyed test slots [] = []
keyed test slots (n ∷ ns) = and_key test n (version_at slots (number n)) (keyed test slots ns)

pub fronts_keyed : (test : Version → Bool) (slots : Slots) (lists : Lists) (ns : List ℕ) → with_fronts test slots lists ns ≡ with_keyed lists (keyed test slots ns)
fronts_keyed test slots lists [] = refl
fronts_keyed test slots lists (n ∷ ns) = fronts_keyed test slots (with_front_if test lists n (version_at slots (number n))) ns ∙ go (version_at slots (number n))
  where
    one : (b : Bool) (v : Version) → with_keyed (cond b (with_front lists v.row.key n) lists) (keyed test slots ns) ≡ with_keyed lists (cond b ((v.row.key, n) ∷ keyed test slots ns) (keyed test slots ns))
    one true v = refl
    one false v = refl

    go : (o : Option Version) → with_keyed (with_front_if test lists n o) (keyed test slots ns) ≡ with_keyed lists (and_key test n o (keyed test slots ns))
    go None = refl
    go (Some v) = one (test v) v
