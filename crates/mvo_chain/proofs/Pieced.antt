-- What a list kept in pieces holds, and what a change of one piece leaves.
use Rattle.std.proofs.Common.{◌≡◌, ℕ, zero, suc, ◌+◌, ◌-◌, ◌*◌, ◌/◌, ◌%◌, ◌<◌, ◌≤◌, List, [], ◌∷◌, ◌++◌, length, get_or, set, take, Option, None, Some, Result, Ok, Err, OnErr, Bor, refl, sym, ap, ◌∙◌, subst, arith, append_assoc, inl, inr}
use Rattle.std.specs.Prelude.{slice_get, option_copied, flat_map}
use Rattle.std.specs.Slice.{IsItemAt}
use Rattle.std.proofs.Math.Nat.{mod-lt}
use Rattle.std.proofs.lemmas.Bool.{cases_lt}
use Rattle.std.proofs.lemmas.List.{append-nil, length-append, set-append_left, set-append_right}
use Rattle.std.proofs.lemmas.List.Concat.{get_or-flat_map, flat_map-append}
use Rattle.std.proofs.lemmas.Nat.{div-add-mod'}
use Rattle.std.proofs.lemmas.Option.{slice_get-get_or, slice_get_past, slice_get_cases, slice_get_read, get_or_from_slice_get, slice_get_within}
use Rattle.mvo_chain.specs.Pieces.{IsPieced}

-- what `get` answers at a slice
pub read_at : {X : Type 0} (xs : List X) (i : ℕ) (r : Option (Bor X)) → IsItemAt xs i r → option_copied r ≡ slice_get xs i
read_at xs i None is = sym (slice_get_past xs i is.3)
read_at xs i (Some x) is = sym (slice_get_read xs (length xs) i x.now refl is.3.0 is.1)

-- what holds whatever was answered
pub on_err : {T E P : Type 0} (r : Result T E) → P → OnErr r P
on_err (Ok x) is = tt
on_err (Err e) is = is

pub past_from_none : {X : Type 0} (xs : List X) (q : ℕ) → slice_get xs q ≡ None → length xs ≤ q
past_from_none [] q none = omega arith
past_from_none (x ∷ xs) zero none = absurd (cc)
past_from_none (x ∷ xs) (suc q) none = let rest : length xs ≤ q = past_from_none xs q none in omega (arith, rest)

module _ {X A : Type 0} (items : X → List A) (size : ℕ) where
  -- a piece that is empty ends no list
  none_left : (xs : List X) (len : ℕ) → IsPieced items size xs len → len ≡ 0 → xs ≡ []
  none_left [] len are none = refl
  none_left (x ∷ xs) len are none = absurd (omega (arith, are.0, none))

  -- where a piece follows, one is full
  rest_above : (xs : List X) (len q : ℕ) → IsPieced items size xs len → q < length xs → 0 < len
  rest_above [] len q are within = absurd (omega (arith, within))
  rest_above (x ∷ xs) len q are within = are.0

  pub length-joined : (xs : List X) (len : ℕ) → IsPieced items size xs len → length (flat_map items xs) ≡ len
  length-joined [] len are = sym are
  length-joined (x ∷ xs) len are =
      let rest : length (flat_map items xs) ≡ len - size = length-joined xs (len - size) are.2 in
      omega (arith, length-append (items x) (flat_map items xs), are.1, rest)

  -- as many items stand before a piece as full ones have
  pub front : (xs : List X) (len q : ℕ) → IsPieced items size xs len → q < length xs → length (flat_map items (take q xs)) ≡ q * size
  front xs len zero are within = omega arith
  front [] len (suc q) are within = absurd (omega (arith, within))
  front (x ∷ xs) len (suc q) are within =
      let below : q < length xs = omega (arith, within) in
      let more : 0 < len - size = rest_above xs (len - size) q are.2 below in
      let rest : length (flat_map items (take q xs)) ≡ q * size = front xs (len - size) q are.2 below in
      omega (arith, length-append (items x) (flat_map items (take q xs)), are.1, rest, more)

  -- the piece of a place is there
  pub piece_within : (xs : List X) (len q r : ℕ) → IsPieced items size xs len → q * size + r < len → q < length xs
  piece_within [] len q r are within = absurd (omega (arith, are, within))
  piece_within (x ∷ xs) len zero r are within = omega arith
  piece_within (x ∷ xs) len (suc q) r are within =
      let rest : q < length xs = piece_within xs (len - size) q r are.2 (omega (arith, within)) in
      omega (arith, rest)

  -- and the place is within the piece
  pub place_within : (xs : List X) (len q r : ℕ) (d : X) → IsPieced items size xs len → r < size → q * size + r < len → r < length (items (get_or xs q d))
  place_within [] len q r d are short within = absurd (omega (arith, are, within))
  place_within (x ∷ xs) len zero r d are short within = omega (arith, are.1, short, within)
  place_within (x ∷ xs) len (suc q) r d are short within = place_within xs (len - size) q r d are.2 short (omega (arith, within))

  -- a place behind the items is behind those of its piece
  pub place_past : (xs : List X) (len q r : ℕ) (d : X) → IsPieced items size xs len → r < size → q < length xs → len ≤ q * size + r → length (items (get_or xs q d)) ≤ r
  place_past [] len q r d are short below past = absurd (omega (arith, below))
  place_past (x ∷ xs) len zero r d are short below past = omega (arith, are.1, short, past)
  place_past (x ∷ xs) len (suc q) r d are short below past = place_past xs (len - size) q r d are.2 short (omega (arith, below)) (omega (arith, past))

  -- all items stand before a piece that isn't there
  pub all_before : (xs : List X) (len q : ℕ) → IsPieced items size xs len → length xs ≤ q → len ≤ q * size
  all_before [] len q are past = omega (arith, are)
  all_before (x ∷ xs) len zero are past = absurd (omega (arith, past))
  all_before (x ∷ xs) len (suc q) are past =
      let rest : len - size ≤ q * size = all_before xs (len - size) q are.2 (omega (arith, past)) in
      omega (arith, rest)

  -- another piece of the same length
  pub same_sizes : (xs : List X) (len q : ℕ) (y d : X) → length (items y) ≡ length (items (get_or xs q d)) → IsPieced items size xs len → IsPieced items size (set xs q y) len
  same_sizes [] len q y d same are = are
  same_sizes (x ∷ xs) len zero y d same are = (are.0, omega (arith, same, are.1), are.2)
  same_sizes (x ∷ xs) len (suc q) y d same are = (are.0, are.1, same_sizes xs (len - size) q y d same are.2)

  -- an item more in the last piece
  pub longer_piece : (xs : List X) (len q r : ℕ) (y d : X) → q < length xs → len ≡ q * size + r → r < size → length (items y) ≡ length (items (get_or xs q d)) + 1 → IsPieced items size xs len → IsPieced items size (set xs q y) (len + 1)
  longer_piece [] len q r y d below is short more are = absurd (omega (arith, below))
  longer_piece (x ∷ xs) len zero r y d below is short more are =
      let last : xs ≡ [] = none_left xs (len - size) are.2 (omega (arith, is, short)) in (
        omega (arith, is),
        omega (arith, is, short, more, are.1),
        subst (λ (ys : List X). IsPieced items size ys (len + 1 - size)) (sym last) (omega (arith, is, short)),
      )
  longer_piece (x ∷ xs) len (suc q) r y d below is short more are =
      let rest : IsPieced items size (set xs q y) (len - size + 1) = longer_piece xs (len - size) q r y d (omega (arith, below)) (omega (arith, is)) short more are.2 in (
        omega (arith, is),
        omega (arith, is, are.1),
        subst (λ (n : ℕ). IsPieced items size (set xs q y) n) (omega (arith, is)) rest,
      )

  -- a piece more, with one item
  pub another_piece : (xs : List X) (len q : ℕ) (y : X) → 0 < size → length xs ≤ q → q * size ≤ len → length (items y) ≡ 1 → IsPieced items size xs len → IsPieced items size (xs ++ y ∷ []) (len + 1)
  another_piece [] len q y some past full one are = (omega (arith, are), omega (arith, are, one, some), omega (arith, are, some))
  another_piece (x ∷ xs) len zero y some past full one are = absurd (omega (arith, past))
  another_piece (x ∷ xs) len (suc q) y some past full one are =
      let rest : IsPieced items size (xs ++ y ∷ []) (len - size + 1) = another_piece xs (len - size) q y some (omega (arith, past)) (omega (arith, full)) one are.2 in (
        omega arith,
        omega (arith, full, are.1),
        subst (λ (n : ℕ). IsPieced items size (xs ++ y ∷ []) n) (omega (arith, full)) rest,
      )

  -- an item is replaced within its piece
  pub set-joined : (xs : List X) (q r : ℕ) (y d : X) (a : A) → q < length xs → r < length (items (get_or xs q d)) → items y ≡ set (items (get_or xs q d)) r a → flat_map items (set xs q y) ≡ set (flat_map items xs) (length (flat_map items (take q xs)) + r) a
  set-joined [] q r y d a below within is = absurd (omega (arith, below))
  set-joined (x ∷ xs) zero r y d a below within is =
      ap (λ (l : List A). l ++ flat_map items xs) is
      ∙ sym (set-append_left (items x) (flat_map items xs) r a within)
      ∙ ap (λ (n : ℕ). set (items x ++ flat_map items xs) n a) (let e : r ≡ 0 + r = omega arith in e)
  set-joined (x ∷ xs) (suc q) r y d a below within is =
      let before : ℕ = length (flat_map items (take q xs)) in
      ap (λ (l : List A). items x ++ l) (set-joined xs q r y d a (omega (arith, below)) within is)
      ∙ ap (λ (n : ℕ). items x ++ set (flat_map items xs) n a) (let e : before + r ≡ length (items x) + before + r - length (items x) = omega arith in e)
      ∙ sym (set-append_right (items x) (flat_map items xs) (length (items x)) (length (items x) + before + r) a refl (omega arith))
      ∙ ap (λ (n : ℕ). set (items x ++ flat_map items xs) (n + r) a) (sym (length-append (items x) (flat_map items (take q xs))))

  -- another piece with the same items
  pub same-joined : (xs : List X) (q : ℕ) (y d : X) → items y ≡ items (get_or xs q d) → flat_map items (set xs q y) ≡ flat_map items xs
  same-joined [] q y d same = refl
  same-joined (x ∷ xs) zero y d same = ap (λ (l : List A). l ++ flat_map items xs) same
  same-joined (x ∷ xs) (suc q) y d same = ap (λ (l : List A). items x ++ l) (same-joined xs q y d same)

  -- the last piece has an item more
  pub longer-joined : (xs : List X) (len q r : ℕ) (y d : X) (a : A) → q < length xs → len ≡ q * size + r → r < size → items y ≡ items (get_or xs q d) ++ a ∷ [] → IsPieced items size xs len → flat_map items (set xs q y) ≡ flat_map items xs ++ a ∷ []
  longer-joined [] len q r y d a below is short more are = absurd (omega (arith, below))
  longer-joined (x ∷ xs) len zero r y d a below is short more are =
      let last : xs ≡ [] = none_left xs (len - size) are.2 (omega (arith, is, short)) in
      ap (λ (zs : List X). items y ++ flat_map items zs) last ∙ append-nil (items y) ∙ more
      ∙ ap (λ (l : List A). l ++ a ∷ []) (sym (append-nil (items x)))
      ∙ ap (λ (zs : List X). items x ++ flat_map items zs ++ a ∷ []) (sym last)
  longer-joined (x ∷ xs) len (suc q) r y d a below is short more are =
      ap (λ (l : List A). items x ++ l) (longer-joined xs (len - size) q r y d a (omega (arith, below)) (omega (arith, is)) short more are.2)
      ∙ sym (append_assoc (items x) (flat_map items xs) (a ∷ []))

  -- a piece of one item more
  pub another-joined : (xs : List X) (y : X) (a : A) → items y ≡ a ∷ [] → flat_map items (xs ++ y ∷ []) ≡ flat_map items xs ++ a ∷ []
  another-joined xs y a one =
      flat_map-append items xs (y ∷ [])
      ∙ ap (λ (l : List A). flat_map items xs ++ l) (append-nil (items y) ∙ one)

  got_within : (xs : List X) (len q r : ℕ) (x : X) → r < size → q * size + r < len → q < length xs → get_or xs q x ≡ x → IsPieced items size xs len → slice_get (flat_map items xs) (q * size + r) ≡ slice_get (items x) r
  got_within xs len q r x short within below is are =
      let all : length (flat_map items xs) ≡ len = length-joined xs len are in
      let inside : r < length (items (get_or xs q x)) = place_within xs len q r x are short within in
      elim (slice_get_cases (items x) r).1 as (λ _. slice_get (flat_map items xs) (q * size + r) ≡ slice_get (items x) r) [
        | inl w ↦
            slice_get-get_or (flat_map items xs) (q * size + r) w.0 (omega (arith, all, within))
            ∙ ap Some (ap (λ (n : ℕ). get_or (flat_map items xs) (n + r) w.0) (sym (front xs len q are below))
            ∙ get_or-flat_map items xs q r x w.0 below inside
            ∙ ap (λ (p : X). get_or (items p) r w.0) is ∙ w.3)
            ∙ sym w.2
        | inr past ↦ absurd (let le : length (items x) ≤ r = past.0 in let lt : r < length (items x) = subst (λ (p : X). r < length (items p)) is inside in omega (arith, le, lt))
      ]

  -- a look-up goes to the piece of the place
  pub got : (xs : List X) (len q r : ℕ) (x : X) → r < size → slice_get xs q ≡ Some x → IsPieced items size xs len → slice_get (flat_map items xs) (q * size + r) ≡ slice_get (items x) r
  got xs len q r x short there are =
      let below : q < length xs = slice_get_within xs q x there in
      let all : length (flat_map items xs) ≡ len = length-joined xs len are in
      let is : get_or xs q x ≡ x = get_or_from_slice_get xs q x x there in
      elim (cases_lt (q * size + r) len) as (λ _. slice_get (flat_map items xs) (q * size + r) ≡ slice_get (items x) r) [
        | inl within ↦ got_within xs len q r x short within below is are
        | inr past ↦
            slice_get_past (flat_map items xs) (q * size + r) (omega (arith, all, past))
            ∙ sym (slice_get_past (items x) r (subst (λ (p : X). length (items p) ≤ r) is (place_past xs len q r x are short below past)))
      ]

  pub got_none : (xs : List X) (len q r : ℕ) → slice_get xs q ≡ None → IsPieced items size xs len → slice_get (flat_map items xs) (q * size + r) ≡ None
  got_none xs len q r none are =
      let all : length (flat_map items xs) ≡ len = length-joined xs len are in
      let past : len ≤ q * size = all_before xs len q are (past_from_none xs q none) in
      slice_get_past (flat_map items xs) (q * size + r) (omega (arith, all, past))

-- a place that is there, and the piece where it stands
module _ {X A : Type 0} (items : X → List A) (size : ℕ) (some : 0 < size) (xs : List X) (len : ℕ) (are : IsPieced items size xs len) (l : List A) (seen : flat_map items xs ≡ l) (at : ℕ) (inside : at < length l) where
  place : at / size * size + at % size ≡ at
  place = div-add-mod' at size

  below : at / size * size + at % size < len
  below =
      let all : length (flat_map items xs) ≡ len = length-joined items size xs len are in
      let same : length (flat_map items xs) ≡ length l = ap length seen in
      omega (arith, place, all, same, inside)

  pub piece_there : at / size < length xs
  piece_there = piece_within items size xs len (at / size) (at % size) are below

  module _ (p : X) (is : p ≡ get_or xs (at / size) p) where
    pub place_there : at % size < length (items p)
    place_there =
        subst (λ (x : X). at % size < length (items x)) (sym is)
        (place_within items size xs len (at / size) (at % size) p are (mod-lt at some) below)

    pub still_pieced : (y : X) → length (items y) ≡ length (items p) → IsPieced items size (set xs (at / size) y) len
    still_pieced y same = same_sizes items size xs len (at / size) y p (same ∙ ap (λ (x : X). length (items x)) is) are

    before : length (flat_map items (take (at / size) xs)) + at % size ≡ at
    before = let e : length (flat_map items (take (at / size) xs)) ≡ at / size * size = front items size xs len (at / size) are piece_there in omega (arith, e, place)

    pub set_there : (y : X) (a : A) → items y ≡ set (items p) (at % size) a → flat_map items (set xs (at / size) y) ≡ set l at a
    set_there y a put =
        set-joined items size xs (at / size) (at % size) y p a piece_there (subst (λ (x : X). at % size < length (items x)) is place_there) (put ∙ ap (λ (x : X). set (items x) (at % size) a) is)
        ∙ ap (λ (n : ℕ). set (flat_map items xs) n a) before
        ∙ ap (λ (k : List A). set k at a) seen

    pub item_there : (a : A) → get_or (items p) (at % size) a ≡ get_or l at a
    item_there a =
        ap (λ (x : X). get_or (items x) (at % size) a) is
        ∙ sym (get_or-flat_map items xs (at / size) (at % size) p a piece_there (subst (λ (x : X). at % size < length (items x)) is place_there))
        ∙ ap (λ (n : ℕ). get_or (flat_map items xs) n a) before
        ∙ ap (λ (k : List A). get_or k at a) seen
