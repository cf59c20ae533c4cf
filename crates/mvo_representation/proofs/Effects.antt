-- What versions say adds up in any order.
use Rattle.std.proofs.Common.{◌≡◌, Bool, true, false, cond, ◌||◌, List, [], ◌∷◌, ◌++◌, refl, sym, ap, ◌∙◌}
use Rattle.std.specs.Prelude.{◌&&◌}
use Rattle.std.specs.List.{AllByRecursion}
use Rattle.std.specs.Ordering.{eq_by_cmp}
use Rattle.mvo_types.specs.declared.row.RowKey.{RowKey}
use Rattle.mvo_types.specs.RowData.{content_of}
use Rattle.mvo_types.specs.Keys.{key_cmp}
use Rattle.mvo_theory.specs.Ranges.{Row}
use Rattle.mvo_word.specs.declared.held.Held.{Held}
use Rattle.mvo_chain.specs.declared.version.Version.{Version}
use Rattle.mvo_representation.specs.Words.{Touch, is_touch, NetEffect, with_effect, effect_by, effect_of, net_effect, touches, is_touched}
use Rattle.mvo_representation.specs.Words.NetEffect.{Untouched, Removed, Puts, Clash}
use Rattle.mvo_representation.specs.Words.Touch.{OnlyPut, PutOrEnded}

pub with_nothing : (a : NetEffect) → with_effect a Untouched ≡ a
with_nothing Untouched = refl
with_nothing Removed = refl
with_nothing (Puts h) = refl
with_nothing Clash = refl

pub with_comm : (a b : NetEffect) → with_effect a b ≡ with_effect b a
with_comm Untouched b = sym (with_nothing b)
with_comm Removed Untouched = refl
with_comm Removed Removed = refl
with_comm Removed (Puts h) = refl
with_comm Removed Clash = refl
with_comm (Puts h) Untouched = refl
with_comm (Puts h) Removed = refl
with_comm (Puts h) (Puts g) = refl
with_comm (Puts h) Clash = refl
with_comm Clash Untouched = refl
with_comm Clash Removed = refl
with_comm Clash (Puts h) = refl
with_comm Clash Clash = refl

pub with_assoc : (a b c : NetEffect) → with_effect (with_effect a b) c ≡ with_effect a (with_effect b c)
with_assoc Untouched b c = refl
with_assoc Clash b c = refl
with_assoc Removed Untouched c = refl
with_assoc Removed Clash c = refl
with_assoc Removed Removed Untouched = refl
with_assoc Removed Removed Removed = refl
with_assoc Removed Removed (Puts h) = refl
with_assoc Removed Removed Clash = refl
with_assoc Removed (Puts h) Untouched = refl
with_assoc Removed (Puts h) Removed = refl
with_assoc Removed (Puts h) (Puts g) = refl
with_assoc Removed (Puts h) Clash = refl
with_assoc (Puts h) Untouched c = refl
with_assoc (Puts h) Clash c = refl
with_assoc (Puts h) Removed Untouched = refl
with_assoc (Puts h) Removed Removed = refl
with_assoc (Puts h) Removed (Puts g) = refl
with_assoc (Puts h) Removed Clash = refl
with_assoc (Puts h) (Puts g) Untouched = refl
with_assoc (Puts h) (Puts g) Removed = refl
with_assoc (Puts h) (Puts g) (Puts f) = refl
with_assoc (Puts h) (Puts g) Clash = refl

pub net_effect-append : (n : Held → Bool) (k : RowKey) (xs ys : List Version) → net_effect n k (xs ++ ys) ≡ with_effect (net_effect n k xs) (net_effect n k ys)
net_effect-append n k [] ys = refl
net_effect-append n k (x ∷ xs) ys = ap (with_effect (effect_of n k x)) (net_effect-append n k xs ys) ∙ sym (with_assoc (effect_of n k x) (net_effect n k xs) (net_effect n k ys))

-- one of the versions, apart from the others
pub net_effect-at : (n : Held → Bool) (k : RowKey) (xs : List Version) (v : Version) (ys : List Version) → net_effect n k (xs ++ v ∷ ys) ≡ with_effect (effect_of n k v) (net_effect n k (xs ++ ys))
net_effect-at n k [] v ys = refl
net_effect-at n k (x ∷ xs) v ys =
    ap (with_effect (effect_of n k x)) (net_effect-at n k xs v ys)
    ∙ sym (with_assoc (effect_of n k x) (effect_of n k v) (net_effect n k (xs ++ ys)))
    ∙ ap (λ d. with_effect d (net_effect n k (xs ++ ys))) (with_comm (effect_of n k x) (effect_of n k v))
    ∙ with_assoc (effect_of n k v) (effect_of n k x) (net_effect n k (xs ++ ys))

-- a version that changes at one place
pub net_effect-changed : (n m : Held → Bool) (k : RowKey) (xs : List Version) (v w : Version) (ys : List Version) → effect_of n k v ≡ effect_of m k w → net_effect n k (xs ++ ys) ≡ net_effect m k (xs ++ ys) → net_effect n k (xs ++ v ∷ ys) ≡ net_effect m k (xs ++ w ∷ ys)
net_effect-changed n m k xs v w ys e f =
    net_effect-at n k xs v ys ∙ ap (λ d. with_effect d (net_effect n k (xs ++ ys))) e ∙ ap (with_effect (effect_of m k w)) f ∙ sym (net_effect-at m k xs w ys)

-- tests that agree on the words
pub effect_of_same : (n m : Held → Bool) (k : RowKey) (v : Version) → n v.begin ≡ m v.begin → n v.end ≡ m v.end → effect_of n k v ≡ effect_of m k v
effect_of_same n m k v e f =
    ap (λ b. cond (eq_by_cmp key_cmp k v.row.key) (effect_by b (n v.end) (content_of v.row)) Untouched) e
    ∙ ap (λ b. cond (eq_by_cmp key_cmp k v.row.key) (effect_by (m v.begin) b (content_of v.row)) Untouched) f

pub net_effect_same : (P : Held → Type 0) (n m : Held → Bool) (k : RowKey) → ((w : Held) → P w → n w ≡ m w) → (vs : List Version) → AllByRecursion (λ v. P v.begin × P v.end) vs → net_effect n k vs ≡ net_effect m k vs
net_effect_same P n m k f [] h = refl
net_effect_same P n m k f (v ∷ vs) h =
    ap (λ d. with_effect d (net_effect n k vs)) (effect_of_same n m k v (f v.begin h.0.0) (f v.end h.0.1))
    ∙ ap (with_effect (effect_of m k v)) (net_effect_same P n m k f vs h.1)

cond_nothing : (b : Bool) → cond b Untouched Untouched ≡ Untouched
cond_nothing true = refl
cond_nothing false = refl

-- a version of which neither word is tested for
pub effect_of_nothing : (n : Held → Bool) (k : RowKey) (v : Version) → n v.begin ≡ false → n v.end ≡ false → effect_of n k v ≡ Untouched
effect_of_nothing n k v e f =
    ap (λ b. cond (eq_by_cmp key_cmp k v.row.key) (effect_by b (n v.end) (content_of v.row)) Untouched) e
    ∙ ap (λ b. cond (eq_by_cmp key_cmp k v.row.key) (effect_by false b (content_of v.row)) Untouched) f
    ∙ cond_nothing (eq_by_cmp key_cmp k v.row.key)

-- it is no matter whether it is there
pub net_effect_without : (n : Held → Bool) (k : RowKey) (xs : List Version) (v : Version) (ys : List Version) → effect_of n k v ≡ Untouched → net_effect n k (xs ++ v ∷ ys) ≡ net_effect n k (xs ++ ys)
net_effect_without n k xs v ys e = net_effect-at n k xs v ys ∙ ap (λ d. with_effect d (net_effect n k (xs ++ ys))) e

-- ---- the rows that they mark
pub or_comm : (a b c : Bool) → (a || (b || c)) ≡ (b || (a || c))
or_comm true true c = refl
or_comm true false c = refl
or_comm false b c = refl

pub is_touched-at : (g : Touch) (n : Held → Bool) (p : Row → Bool) (xs : List Version) (v : Version) (ys : List Version) → is_touched g n p (xs ++ v ∷ ys) ≡ (touches g n p v || is_touched g n p (xs ++ ys))
is_touched-at g n p [] v ys = refl
is_touched-at g n p (x ∷ xs) v ys = ap (λ b. touches g n p x || b) (is_touched-at g n p xs v ys) ∙ or_comm (touches g n p x) (touches g n p v) (is_touched g n p (xs ++ ys))

pub touches_same : (g : Touch) (n m : Held → Bool) (p : Row → Bool) (v : Version) → n v.begin ≡ m v.begin → n v.end ≡ m v.end → touches g n p v ≡ touches g m p v
touches_same g n m p v e f =
    ap (λ b. is_touch g b (n v.end) && p (v.row.key, content_of v.row)) e ∙ ap (λ b. is_touch g (m v.begin) b && p (v.row.key, content_of v.row)) f

pub is_touched_same : (g : Touch) (P : Held → Type 0) (n m : Held → Bool) (p : Row → Bool) → ((w : Held) → P w → n w ≡ m w) → (vs : List Version) → AllByRecursion (λ v. P v.begin × P v.end) vs → is_touched g n p vs ≡ is_touched g m p vs
is_touched_same g P n m p f [] h = refl
is_touched_same g P n m p f (v ∷ vs) h =
    ap (λ b. b || is_touched g n p vs) (touches_same g n m p v (f v.begin h.0.0) (f v.end h.0.1))
    ∙ ap (λ b. touches g m p v || b) (is_touched_same g P n m p f vs h.1)

-- of a version of which no word passes, no part does
pub part_none : (g : Touch) → is_touch g false false ≡ false
part_none OnlyPut = refl
part_none PutOrEnded = refl
