-- Lists in which no transaction stands twice.
use Rattle.std.proofs.Common.{◌≡◌, ℕ, Bool, true, false, eqb, ◌||◌, List, [], ◌∷◌, ◌++◌, length, take, ◌-◌, refl, sym, ap, ◌∙◌, arith, length-append}
use Rattle.std.proofs.lemmas.Bool.{eqb-true, eq-eqb, false≢true}
use Rattle.std.proofs.lemmas.List.Folds.{list_any-append}
use Rattle.std.proofs.Math.Seq.{take-append_seam}
use Rattle.std.specs.List.{list_any}
use Rattle.mvo_types.specs.declared.ids.TxId.{TxId}
use Rattle.mvo_deps.specs.Data.{is_id_among, AreDistinctIds}

or_left : (a b : Bool) → (a || b) ≡ false → a ≡ false
or_left true b e = e
or_left false b e = refl

or_right : (a b : Bool) → (a || b) ≡ false → b ≡ false
or_right true b e = absurd (false≢true (sym e))
or_right false b e = e

both_false : (a b : Bool) → a ≡ false → b ≡ false → (a || b) ≡ false
both_false a b e f = ap (λ x. x || b) e ∙ f

turned_false : (a b : ℕ) (t : Bool) → eqb b a ≡ t → eqb a b ≡ false → eqb b a ≡ false
turned_false a b true e f = absurd (false≢true (sym f ∙ eq-eqb a b (sym (eqb-true b a e))))
turned_false a b false e f = e

apart_sides : (id other : TxId) → eqb id.0 other.0 ≡ false → eqb other.0 id.0 ≡ false
apart_sides id other e = turned_false id.0 other.0 (eqb other.0 id.0) refl e

-- one more, that isn't among them
pub apart_behind : (id : TxId) (ids : List TxId) → is_id_among id ids ≡ false → AreDistinctIds ids → AreDistinctIds (ids ++ id ∷ [])
apart_behind id [] new apart = (refl, tt)
apart_behind id (x ∷ ids) new apart =
    let other : eqb x.0 id.0 ≡ false = or_left (eqb x.0 id.0) (is_id_among id ids) new in (
      list_any-append (λ o. eqb o.0 x.0) ids (id ∷ []) ∙ both_false (is_id_among x ids) (eqb id.0 x.0 || false) apart.0 (both_false (eqb id.0 x.0) false (apart_sides x id other) refl),
      apart_behind id ids (or_right (eqb x.0 id.0) (is_id_among id ids) new) apart.1,
    )

-- the front of such a list
pub apart_front : (ids more : List TxId) → AreDistinctIds (ids ++ more) → AreDistinctIds ids
apart_front [] more apart = tt
apart_front (x ∷ ids) more apart = (or_left (is_id_among x ids) (is_id_among x more) (sym (list_any-append (λ o. eqb o.0 x.0) ids more) ∙ apart.0), apart_front ids more apart.1)

-- the last isn't among those in front of it
pub apart_last : (ids : List TxId) (id : TxId) → AreDistinctIds (ids ++ id ∷ []) → is_id_among id ids ≡ false
apart_last [] id apart = refl
apart_last (x ∷ ids) id apart =
    let rest = or_right (is_id_among x ids) (eqb id.0 x.0 || false) (sym (list_any-append (λ o. eqb o.0 x.0) ids (id ∷ [])) ∙ apart.0) in
    both_false (eqb x.0 id.0) (is_id_among id ids) (apart_sides id x (or_left (eqb id.0 x.0) false rest)) (apart_last ids id apart.1)

-- whom the list has, by the number of its id
pub among_same : (a b : TxId) (ids : List TxId) → a.0 ≡ b.0 → is_id_among a ids ≡ is_id_among b ids
among_same a b ids e = ap (λ (n : ℕ). list_any (λ o. eqb o.0 n) ids) e

or_none : (a b : Bool) → (a || (b || false)) ≡ (a || b)
or_none true b = refl
or_none false true = refl
or_none false false = refl

turned : (a b : ℕ) (s t : Bool) → eqb a b ≡ s → eqb b a ≡ t → s ≡ t
turned a b true true e f = refl
turned a b true false e f = absurd (false≢true (sym f ∙ eq-eqb b a (sym (eqb-true a b e))))
turned a b false true e f = absurd (false≢true (sym e ∙ eq-eqb a b (sym (eqb-true b a f))))
turned a b false false e f = refl

-- whether it is among these, or is the last
pub among_behind : (q id : TxId) (ids : List TxId) → is_id_among q (ids ++ id ∷ []) ≡ (is_id_among q ids || eqb q.0 id.0)
among_behind q id ids =
    list_any-append (λ o. eqb o.0 q.0) ids (id ∷ []) ∙ or_none (is_id_among q ids) (eqb id.0 q.0) ∙ ap (λ b. is_id_among q ids || b) (turned id.0 q.0 (eqb id.0 q.0) (eqb q.0 id.0) refl refl)

pub front_of : (id : TxId) (ids : List TxId) → take (length (ids ++ id ∷ []) - 1) (ids ++ id ∷ []) ≡ ids
front_of id ids =
    let count : length (ids ++ id ∷ []) - 1 ≡ length ids = omega (arith, length-append ids (id ∷ [])) in
    ap (λ n. take n (ids ++ id ∷ [])) count ∙ take-append_seam ids (id ∷ [])
