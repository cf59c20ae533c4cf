-- The places in the tale stay those of the state's transactions where one is opened, settled or left.
use Rattle.std.proofs.Common.{◌≡◌, ◌≢◌, ℕ, zero, suc, ◌<◌, Bool, true, false, not, cond, List, [], ◌∷◌, ◌++◌, map, length, Option, None, Some, refl, sym, ap, ◌∙◌, subst, arith}
use Rattle.std.specs.Prelude.{slice_set, ◌==◌, ◌||◌, filter}
use Rattle.std.specs.List.{AllByRecursion}
use Rattle.std.proofs.lemmas.Bool.{eq-eqb, ne_eqb, false≢true}
use Rattle.mvo_types.specs.declared.ids.Stamp.{Stamp}
use Rattle.mvo_theory.specs.State.{StampedTx}
use Rattle.mvo_theory.specs.Changes.{with_settled, with_check, with_flag, not_at}
use Rattle.mvo_theory.specs.Sound.{IsRising}
use Rattle.mvo_tale.specs.declared.tale_place.TalePlace.{TalePlace}
use Rattle.mvo_tale.specs.declared.tale_place.TalePlace.TheVariants.{Open, Reading, Settled, Empty}
use Rattle.mvo_tale.specs.Stored.{StoredCommit}
use Rattle.mvo_tale.specs.Slots.{open_end_of, open_end_at, and_place, without_empty_back, or_all, closed_up}
use Rattle.mvo_tale.specs.Timeline.{IsStoredAs, ArePlacesOf}
use Rattle.mvo_tale.proofs.Rising.{same_end}

pub none_end : (e : ℕ) → ◌≡◌ {A = Option ℕ} None (Some e) → ⊥
none_end e h = cc

-- ---- the open places of others
apart_ends : (o : Option ℕ) (e d : ℕ) → o ≡ Some e → o ≡ Some d → d ≢ e → ⊥
apart_ends o e d p q ne = ne (same_end d e (sym q ∙ p))

pub open_beside : (slots : List TalePlace) (p q : ℕ) (y : TalePlace) (e d : ℕ) → open_end_at slots p ≡ Some e → open_end_at slots q ≡ Some d → d ≢ e → open_end_at (slice_set slots p y) q ≡ Some d
open_beside [] p q y e d at h ne = absurd (none_end d h)
open_beside (x ∷ xs) zero zero y e d at h ne = absurd (apart_ends (open_end_of x) e d at h ne)
open_beside (x ∷ xs) zero (suc q) y e d at h ne = h
open_beside (x ∷ xs) (suc p) zero y e d at h ne = h
open_beside (x ∷ xs) (suc p) (suc q) y e d at h ne = open_beside xs p q y e d at h ne

kept_first : (x : TalePlace) (ys : List TalePlace) (d : ℕ) → open_end_of x ≡ Some d → open_end_at (and_place x ys) zero ≡ Some d
kept_first (Open e) [] d h = h
kept_first (Open e) (y ∷ ys) d h = h
kept_first (Reading b) ys d h = absurd (none_end d h)
kept_first (Settled c) ys d h = absurd (none_end d h)
kept_first Empty ys d h = absurd (none_end d h)

kept_later : (x : TalePlace) (ys : List TalePlace) (q d : ℕ) → open_end_at ys q ≡ Some d → open_end_at (and_place x ys) (suc q) ≡ Some d
kept_later x [] q d h = absurd (none_end d h)
kept_later x (y ∷ ys) q d h = h

open_without : (slots : List TalePlace) (q d : ℕ) → open_end_at slots q ≡ Some d → open_end_at (without_empty_back slots) q ≡ Some d
open_without [] q d h = absurd (none_end d h)
open_without (x ∷ xs) zero d h = kept_first x (without_empty_back xs) d h
open_without (x ∷ xs) (suc q) d h = kept_later x (without_empty_back xs) q d (open_without xs q d h)

pub open_closed : (slots : List TalePlace) (q d : ℕ) → open_end_at slots q ≡ Some d → open_end_at (closed_up slots) q ≡ Some d
open_closed slots q d h = go (without_empty_back slots) (open_without slots q d h)
  where
    go : (ws : List TalePlace) → open_end_at ws q ≡ Some d → open_end_at (or_all slots ws) q ≡ Some d
    go [] k = h
    go (w ∷ ws) k = k

pub open_left : (slots : List TalePlace) (p q e d : ℕ) → open_end_at slots p ≡ Some e → open_end_at slots q ≡ Some d → d ≢ e → open_end_at (closed_up (slice_set slots p Empty)) q ≡ Some d
open_left slots p q e d at h ne = open_closed (slice_set slots p Empty) q d (open_beside slots p q Empty e d at h ne)

pub open_behind : (slots : List TalePlace) (y : TalePlace) (q d : ℕ) → open_end_at slots q ≡ Some d → open_end_at (slots ++ y ∷ []) q ≡ Some d
open_behind [] y q d h = absurd (none_end d h)
open_behind (x ∷ xs) y zero d h = h
open_behind (x ∷ xs) y (suc q) d h = open_behind xs y q d h

pub open_last : (slots : List TalePlace) (e : Stamp) → open_end_at (slots ++ Open e ∷ []) (length slots) ≡ Some e.0
open_last [] e = refl
open_last (x ∷ xs) e = open_last xs e

-- ---- an end at an open place is that of one behind
end_among : (slots : List TalePlace) (xs : List StampedTx) (p d e : ℕ) → ArePlacesOf slots xs → open_end_at slots p ≡ Some e → AllByRecursion (λ y. d < y.end) xs → d < e
end_among [] xs p d e h at k = absurd (none_end e at)
end_among (Open f ∷ slots) [] p d e h at k = absurd h
end_among (Open f ∷ slots) (x ∷ xs) zero d e h at k =
    let lt = k.0 in
    let same = h.0.1 in
    let is = same_end f.0 e at in
    omega arith
end_among (Open f ∷ slots) (x ∷ xs) (suc p) d e h at k = end_among slots xs p d e h.1 at k.1
end_among (Reading b ∷ slots) [] p d e h at k = absurd h
end_among (Reading b ∷ slots) (x ∷ xs) p d e h at k = absurd h
end_among (Settled c ∷ slots) [] p d e h at k = absurd h
end_among (Settled c ∷ slots) (x ∷ xs) zero d e h at k = absurd (none_end e at)
end_among (Settled c ∷ slots) (x ∷ xs) (suc p) d e h at k = end_among slots xs p d e h.1 at k.1
end_among (Empty ∷ slots) [] zero d e h at k = absurd (none_end e at)
end_among (Empty ∷ slots) (x ∷ xs) zero d e h at k = absurd (none_end e at)
end_among (Empty ∷ slots) [] (suc p) d e h at k = end_among slots [] p d e h at k
end_among (Empty ∷ slots) (x ∷ xs) (suc p) d e h at k = end_among slots (x ∷ xs) p d e h at k

pub below_apart : (d e : ℕ) → d < e → (d == e) ≡ false
below_apart d e lt = ne_eqb d e (λ q. omega arith)

above_apart : (d e : ℕ) → e < d → (d == e) ≡ false
above_apart d e lt = ne_eqb d e (λ q. omega arith)

-- ---- one is settled
-- the one with this end is this commit
abbrev pub IsCommitOf : StoredCommit → StampedTx → Type 0
IsCommitOf c x = x.end ≡ c.end → (x.id ≡ c.id) × (x.history ≡ c.history)

or_false : (a b : Bool) → a ≡ false → b ≡ false → (a || b) ≡ false
or_false true b p q = p
or_false false b p q = q

or_left : (a b : Bool) → a ≡ true → (a || b) ≡ true
or_left true b p = refl
or_left false b p = absurd (false≢true p)

or_right : (a b : Bool) → b ≡ true → (a || b) ≡ true
or_right true b p = refl
or_right false b p = p

settled_as : (e : ℕ) (c : StoredCommit) (x : StampedTx) → IsStoredAs c x → IsStoredAs c (with_settled e x)
settled_as e c x h = record { settled = or_left x.settled (x.end == e) h.settled; id = h.id; end' = h.end'; history = h.history }

others_settled : (e : ℕ) (slots : List TalePlace) (xs : List StampedTx) → ArePlacesOf slots xs → AllByRecursion (λ y. e < y.end) xs → ArePlacesOf slots (map (with_settled e) xs)
others_settled e [] [] h k = tt
others_settled e [] (x ∷ xs) h k = absurd h
others_settled e (Open d ∷ slots) [] h k = absurd h
others_settled e (Open d ∷ slots) (x ∷ xs) h k = ((or_false x.settled (x.end == e) h.0.0 (above_apart x.end e k.0), h.0.1), others_settled e slots xs h.1 k.1)
others_settled e (Reading b ∷ slots) [] h k = absurd h
others_settled e (Reading b ∷ slots) (x ∷ xs) h k = absurd h
others_settled e (Settled c ∷ slots) [] h k = absurd h
others_settled e (Settled c ∷ slots) (x ∷ xs) h k = (settled_as e c x h.0, others_settled e slots xs h.1 k.1)
others_settled e (Empty ∷ slots) [] h k = others_settled e slots [] h k
others_settled e (Empty ∷ slots) (x ∷ xs) h k = others_settled e slots (x ∷ xs) h k

pub places_settled : (slots : List TalePlace) (xs : List StampedTx) (p : ℕ) (c : StoredCommit) → ArePlacesOf slots xs → IsRising xs → open_end_at slots p ≡ Some c.end → AllByRecursion (IsCommitOf c) xs
    → ArePlacesOf (slice_set slots p (Settled c)) (map (with_settled c.end) xs)
places_settled [] xs p c h r at k = absurd (none_end c.end at)
places_settled (Open d ∷ slots) [] p c h r at k = absurd h
places_settled (Open d ∷ slots) (x ∷ xs) zero c h r at k =
    let is : x.end ≡ c.end = h.0.1 ∙ same_end d.0 c.end at in (
      record { settled = or_right x.settled (x.end == c.end) (eq-eqb x.end c.end is); id = (k.0 is).0; end' = is; history = (k.0 is).1 },
      others_settled c.end slots xs h.1 (subst (λ (n : ℕ). AllByRecursion (λ y. n < y.end) xs) is r.0),
    )
places_settled (Open d ∷ slots) (x ∷ xs) (suc p) c h r at k = (
  (or_false x.settled (x.end == c.end) h.0.0 (below_apart x.end c.end (end_among slots xs p x.end c.end h.1 at r.0)), h.0.1),
  places_settled slots xs p c h.1 r.1 at k.1,
)
places_settled (Reading b ∷ slots) [] p c h r at k = absurd h
places_settled (Reading b ∷ slots) (x ∷ xs) p c h r at k = absurd h
places_settled (Settled b ∷ slots) [] p c h r at k = absurd h
places_settled (Settled b ∷ slots) (x ∷ xs) zero c h r at k = absurd (none_end c.end at)
places_settled (Settled b ∷ slots) (x ∷ xs) (suc p) c h r at k = (settled_as c.end b x h.0, places_settled slots xs p c h.1 r.1 at k.1)
places_settled (Empty ∷ slots) [] zero c h r at k = absurd (none_end c.end at)
places_settled (Empty ∷ slots) (x ∷ xs) zero c h r at k = absurd (none_end c.end at)
places_settled (Empty ∷ slots) [] (suc p) c h r at k = places_settled slots [] p c h r at k
places_settled (Empty ∷ slots) (x ∷ xs) (suc p) c h r at k = places_settled slots (x ∷ xs) p c h r at k

-- ---- one is left
not_false : (b : Bool) → b ≡ false → not b ≡ true
not_false true h = absurd (false≢true (sym h))
not_false false h = refl

pub filter_kept : (e : ℕ) (x : StampedTx) (xs : List StampedTx) → (x.end == e) ≡ false → x ∷ filter (not_at e) xs ≡ filter (not_at e) (x ∷ xs)
filter_kept e x xs f = sym (ap (λ (b : Bool). cond b (x ∷ filter (not_at e) xs) (filter (not_at e) xs)) (not_false (x.end == e) f))

filter_out : (e : ℕ) (x : StampedTx) (xs : List StampedTx) → x.end ≡ e → filter (not_at e) xs ≡ filter (not_at e) (x ∷ xs)
filter_out e x xs is = sym (ap (λ (b : Bool). cond (not b) (x ∷ filter (not_at e) xs) (filter (not_at e) xs)) (eq-eqb x.end e is))

none_out : (e : ℕ) (xs : List StampedTx) → AllByRecursion (λ y. e < y.end) xs → xs ≡ filter (not_at e) xs
none_out e [] k = refl
none_out e (x ∷ xs) k = ap (λ ys. x ∷ ys) (none_out e xs k.1) ∙ filter_kept e x xs (above_apart x.end e k.0)

pub places_emptied : (slots : List TalePlace) (xs : List StampedTx) (p e : ℕ) → ArePlacesOf slots xs → IsRising xs → open_end_at slots p ≡ Some e → ArePlacesOf (slice_set slots p Empty) (filter (not_at e) xs)
places_emptied [] xs p e h r at = absurd (none_end e at)
places_emptied (Open d ∷ slots) [] p e h r at = absurd h
places_emptied (Open d ∷ slots) (x ∷ xs) zero e h r at =
    let is : x.end ≡ e = h.0.1 ∙ same_end d.0 e at in
    let rest : xs ≡ filter (not_at e) (x ∷ xs) = none_out e xs (subst (λ (n : ℕ). AllByRecursion (λ y. n < y.end) xs) is r.0) ∙ filter_out e x xs is in
    emptied slots (filter (not_at e) (x ∷ xs)) (subst (ArePlacesOf slots) rest h.1)
  where
    emptied : (slots : List TalePlace) (ys : List StampedTx) → ArePlacesOf slots ys → ArePlacesOf (Empty ∷ slots) ys
    emptied slots [] g = g
    emptied slots (y ∷ ys) g = g
places_emptied (Open d ∷ slots) (x ∷ xs) (suc p) e h r at =
    subst (ArePlacesOf (Open d ∷ slice_set slots p Empty)) (filter_kept e x xs (below_apart x.end e (end_among slots xs p x.end e h.1 at r.0))) (h.0, places_emptied slots xs p e h.1 r.1 at)
places_emptied (Reading b ∷ slots) [] p e h r at = absurd h
places_emptied (Reading b ∷ slots) (x ∷ xs) p e h r at = absurd h
places_emptied (Settled b ∷ slots) [] p e h r at = absurd h
places_emptied (Settled b ∷ slots) (x ∷ xs) zero e h r at = absurd (none_end e at)
places_emptied (Settled b ∷ slots) (x ∷ xs) (suc p) e h r at =
    subst (ArePlacesOf (Settled b ∷ slice_set slots p Empty)) (filter_kept e x xs (below_apart x.end e (end_among slots xs p x.end e h.1 at r.0))) (h.0, places_emptied slots xs p e h.1 r.1 at)
places_emptied (Empty ∷ slots) [] zero e h r at = absurd (none_end e at)
places_emptied (Empty ∷ slots) (x ∷ xs) zero e h r at = absurd (none_end e at)
places_emptied (Empty ∷ slots) [] (suc p) e h r at = places_emptied slots [] p e h r at
places_emptied (Empty ∷ slots) (x ∷ xs) (suc p) e h r at = go (filter (not_at e) (x ∷ xs)) (places_emptied slots (x ∷ xs) p e h r at)
  where
    go : (ys : List StampedTx) → ArePlacesOf (slice_set slots p Empty) ys → ArePlacesOf (Empty ∷ slice_set slots p Empty) ys
    go [] g = g
    go (y ∷ ys) g = g

pub places_flagged : (t e : ℕ) (slots : List TalePlace) (xs : List StampedTx) → ArePlacesOf slots xs → ArePlacesOf slots (map (with_flag t e) xs)
places_flagged t e [] [] h = tt
places_flagged t e [] (x ∷ xs) h = absurd h
places_flagged t e (Open d ∷ slots) [] h = absurd h
places_flagged t e (Open d ∷ slots) (x ∷ xs) h = (h.0, places_flagged t e slots xs h.1)
places_flagged t e (Reading b ∷ slots) [] h = absurd h
places_flagged t e (Reading b ∷ slots) (x ∷ xs) h = absurd h
places_flagged t e (Settled c ∷ slots) [] h = absurd h
places_flagged t e (Settled c ∷ slots) (x ∷ xs) h = (record { settled = h.0.settled; id = h.0.id; end' = h.0.end'; history = h.0.history }, places_flagged t e slots xs h.1)
places_flagged t e (Empty ∷ slots) [] h = places_flagged t e slots [] h
places_flagged t e (Empty ∷ slots) (x ∷ xs) h = places_flagged t e slots (x ∷ xs) h

-- ---- a check leaves them
pub places_checked : (e : ℕ) (v : Bool) (slots : List TalePlace) (xs : List StampedTx) → ArePlacesOf slots xs → ArePlacesOf slots (map (with_check e v) xs)
places_checked e v [] [] h = tt
places_checked e v [] (x ∷ xs) h = absurd h
places_checked e v (Open d ∷ slots) [] h = absurd h
places_checked e v (Open d ∷ slots) (x ∷ xs) h = (h.0, places_checked e v slots xs h.1)
places_checked e v (Reading b ∷ slots) [] h = absurd h
places_checked e v (Reading b ∷ slots) (x ∷ xs) h = absurd h
places_checked e v (Settled c ∷ slots) [] h = absurd h
places_checked e v (Settled c ∷ slots) (x ∷ xs) h = (record { settled = h.0.settled; id = h.0.id; end' = h.0.end'; history = h.0.history }, places_checked e v slots xs h.1)
places_checked e v (Empty ∷ slots) [] h = places_checked e v slots [] h
places_checked e v (Empty ∷ slots) (x ∷ xs) h = places_checked e v slots (x ∷ xs) h
