-- What becomes of the list that is cut into pieces when one piece changes.
use Rattle.std.proofs.Common.{◌≡◌, ℕ, zero, suc, ◌+◌, ◌-◌, ◌*◌, ◌<◌, ◌≤◌, List, [], ◌∷◌, ◌++◌, length, get_or, set, take, drop, Option, None, Some, Bor, refl, sym, ap, ◌∙◌, subst, arith}
use Rattle.std.specs.Prelude.{slice_get, option_copied, flat_map}
use Rattle.std.specs.Slice.{IsItemAt}
use Rattle.std.proofs.lemmas.List.{take-append-drop, take-append-le, drop-append-le, take_all, drop_all, length-append, length-take, length-drop, drop-take, drop-drop, take-take, take-set-le, drop-set-lt, drop-set-add}
use Rattle.std.proofs.Math.Seq.{take-nil, take-set-lt}
use Rattle.std.proofs.lemmas.Option.{slice_get-get_or, slice_get_past, slice_get_read}
use Rattle.mvo_queue.specs.Cut.{AreCut, IsInPiece}

-- what `get` answers at a piece
pub read_at : {X : Type 0} (xs : List X) (i : ℕ) (r : Option (Bor X)) → IsItemAt xs i r → option_copied r ≡ slice_get xs i
read_at xs i None is = sym (slice_get_past xs i is.3)
read_at xs i (Some x) is = sym (slice_get_read xs (length xs) i x.now refl is.3.0 is.1)

-- what a pop answers
pub read_value : {X : Type 0} (xs : List X) (i : ℕ) (r : Option X) → i < length xs → ((d : X) → r ≡ Some (get_or xs i d)) → r ≡ slice_get xs i
read_value [] i r lt is = absurd (omega (arith, lt))
read_value (x ∷ xs) i r lt is = is x ∙ sym (slice_get-get_or (x ∷ xs) i x lt)

-- of no items none goes
pub none_goes : {X : Type 0} (xs : List X) → length xs ≡ 0 → xs ≡ drop 1 xs
none_goes [] none = refl
none_goes (x ∷ xs) none = absurd (omega (arith, none))

-- ---- a place of a list, and of its two parts
pub got_front : {A : Type 0} (n : ℕ) (l : List A) (i : ℕ) → i < n → slice_get (take n l) i ≡ slice_get l i
got_front zero l i lt = absurd (omega (arith, lt))
got_front (suc n) [] i lt = refl
got_front (suc n) (x ∷ l) zero lt = refl
got_front (suc n) (x ∷ l) (suc i) lt = got_front n l i (omega (arith, lt))

pub got_rest : {A : Type 0} (n : ℕ) (l : List A) (i : ℕ) → n ≤ i → slice_get (drop n l) (i - n) ≡ slice_get l i
got_rest zero l i le = ap (slice_get l) (let e : i - 0 ≡ i = omega arith in e)
got_rest (suc n) [] i le = refl
got_rest (suc n) (x ∷ l) zero le = absurd (omega (arith, le))
got_rest (suc n) (x ∷ l) (suc i) le = ap (slice_get (drop n l)) (let e : suc i - suc n ≡ i - n = omega arith in e) ∙ got_rest n l i (omega (arith, le))

set_rest : {A : Type 0} (n : ℕ) (l : List A) (i : ℕ) (a : A) → n ≤ i → drop n (set l i a) ≡ set (drop n l) (i - n) a
set_rest n l i a le = ap (λ (k : ℕ). drop n (set l k a)) (let e : i ≡ n + (i - n) = omega arith in e) ∙ drop-set-add n l (i - n) a

take_rest : {A : Type 0} (n i : ℕ) (l : List A) → n ≤ i → drop n (take i l) ≡ take (i - n) (drop n l)
take_rest n i l le = ap (λ (k : ℕ). drop n (take k l)) (let e : i ≡ n + (i - n) = omega arith in e) ∙ drop-take n (i - n) l

-- ---- the piece of a place, by division
in_full_piece : (size at q r : ℕ) → r < size → at ≡ q * size + r → IsInPiece size size at q r
in_full_piece size at zero r short is = (omega (arith, is), omega (arith, short, is))
in_full_piece size at (suc q) r short is = (
  omega (arith, is),
  in_full_piece size (at - size) q r short (omega (arith, is)),
)

pub in_piece : (size skipped at q r : ℕ) → skipped < size → r < size → 0 < q → skipped + at ≡ q * size + r → IsInPiece size (size - skipped) at q r
in_piece size skipped at zero r first short some is = absurd (omega (arith, some))
in_piece size skipped at (suc q) r first short some is = (
  omega (arith, is, first),
  in_full_piece size (at - (size - skipped)) q r short (omega (arith, is, first)),
)

module _ {X A : Type 0} (items : X → List A) (size : ℕ) where
  -- the pieces hold the list
  pub joined : (room : ℕ) (xs : List X) (l : List A) → AreCut items size room xs l → flat_map items xs ≡ l
  joined room [] l are = sym are
  joined room (x ∷ xs) l are =
      ap (λ (k : List A). k ++ flat_map items xs) are.0
      ∙ ap (λ (k : List A). take room l ++ k) (joined size xs (drop room l) are.1)
      ∙ take-append-drop room l

  -- a place that the pieces have lies in one of them
  pub piece_within : (n room at q r : ℕ) → room ≤ size → at + size < n * size + room → IsInPiece size room at q r → q < n
  piece_within zero room at q r le lt is = absurd (omega (arith, le, lt))
  piece_within (suc n) room at zero r le lt is = omega arith
  piece_within (suc n) room at (suc q) r le lt is =
      let rest : q < n = piece_within n size (at - room) q r (omega arith) (omega (arith, lt, is.0)) is.1 in
      omega (arith, rest)

  -- and not behind what a piece can hold
  pub inner_short : (room at q r : ℕ) → room ≤ size → IsInPiece size room at q r → r < size
  inner_short room at zero r le is = omega (arith, is.0, is.1, le)
  inner_short room at (suc q) r le is = inner_short size (at - room) q r (omega arith) is.1

  -- a look-up goes to the piece of the place
  pub got : (room : ℕ) (xs : List X) (l : List A) (at q r : ℕ) (x : X) → q < length xs → x ≡ get_or xs q x → AreCut items size room xs l → IsInPiece size room at q r → slice_get (items x) r ≡ slice_get l at
  got room [] l at q r x below is are there = absurd (omega (arith, below))
  got room (y ∷ ys) l at zero r x below is are there =
      ap (λ (z : X). slice_get (items z) r) is
      ∙ ap (λ (k : List A). slice_get k r) are.0
      ∙ ap (slice_get (take room l)) there.0
      ∙ got_front room l at there.1
  got room (y ∷ ys) l at (suc q) r x below is are there =
      got size ys (drop room l) (at - room) q r x (omega (arith, below)) is are.1 there.1
      ∙ got_rest room l at there.0

  -- an item of the list is one of the piece
  pub inner_within : (room : ℕ) (xs : List X) (l : List A) (at q r : ℕ) (x : X) → q < length xs → x ≡ get_or xs q x → AreCut items size room xs l → IsInPiece size room at q r → at < length l → r < length (items x)
  inner_within room [] l at q r x below is are there within = absurd (omega (arith, below))
  inner_within room (y ∷ ys) l at zero r x below is are there within =
      let e : length (items x) ≡ length (take room l) = ap (λ (z : X). length (items z)) is ∙ ap length are.0 in
      omega (arith, e, length-take room l, there.0, there.1, within)
  inner_within room (y ∷ ys) l at (suc q) r x below is are there within =
      inner_within size ys (drop room l) (at - room) q r x (omega (arith, below)) is are.1 there.1 (omega (arith, length-drop room l, there.0, within))

  -- the place behind the list is the one behind its piece
  pub inner_behind : (room : ℕ) (xs : List X) (l : List A) (at q r : ℕ) (x : X) → q < length xs → x ≡ get_or xs q x → AreCut items size room xs l → IsInPiece size room at q r → at ≡ length l → length (items x) ≡ r
  inner_behind room [] l at q r x below is are there behind = absurd (omega (arith, below))
  inner_behind room (y ∷ ys) l at zero r x below is are there behind =
      let e : length (items x) ≡ length (take room l) = ap (λ (z : X). length (items z)) is ∙ ap length are.0 in
      omega (arith, e, length-take room l, there.0, there.1, behind)
  inner_behind room (y ∷ ys) l at (suc q) r x below is are there behind =
      inner_behind size ys (drop room l) (at - room) q r x (omega (arith, below)) is are.1 there.1 (omega (arith, length-drop room l, there.0, behind))

  -- the last place is the last of its piece
  pub last_place : (room : ℕ) (xs : List X) (l : List A) (at q r : ℕ) (x : X) → q < length xs → x ≡ get_or xs q x → AreCut items size room xs l → IsInPiece size room at q r → at + 1 ≡ length l → length (items x) ≡ r + 1
  last_place room [] l at q r x below is are there last = absurd (omega (arith, below))
  last_place room (y ∷ ys) l at zero r x below is are there last =
      let e : length (items x) ≡ length (take room l) = ap (λ (z : X). length (items z)) is ∙ ap length are.0 in
      omega (arith, e, length-take room l, there.0, there.1, last)
  last_place room (y ∷ ys) l at (suc q) r x below is are there last =
      last_place size ys (drop room l) (at - room) q r x (omega (arith, below)) is are.1 there.1 (omega (arith, length-drop room l, there.0, last))

  -- another item at a place
  pub cut_set : (room : ℕ) (xs : List X) (l : List A) (at q r : ℕ) (x y : X) (a : A) → q < length xs → x ≡ get_or xs q x → items y ≡ set (items x) r a → AreCut items size room xs l → IsInPiece size room at q r → AreCut items size room (set xs q y) (set l at a)
  cut_set room [] l at q r x y a below is put are there = absurd (omega (arith, below))
  cut_set room (z ∷ zs) l at zero r x y a below is put are there = (
    put
        ∙ ap (λ (w : X). set (items w) r a) is
        ∙ ap (λ (k : List A). set k r a) are.0
        ∙ ap (λ (i : ℕ). set (take room l) i a) there.0
        ∙ sym (take-set-lt room l at a there.1),
    subst (AreCut items size size zs) (sym (drop-set-lt room l at a there.1)) are.1,
  )
  cut_set room (z ∷ zs) l at (suc q) r x y a below is put are there = (
    are.0 ∙ sym (take-set-le room l at a there.0),
    subst (AreCut items size size (set zs q y)) (sym (set_rest room l at a there.0))
        (cut_set size zs (drop room l) (at - room) q r x y a (omega (arith, below)) is put are.1 there.1),
  )

  -- an item more behind the others
  pub cut_pushed : (room : ℕ) (xs : List X) (l : List A) (at q r : ℕ) (x y : X) (a : A) → q < length xs → x ≡ get_or xs q x → items y ≡ items x ++ a ∷ [] → AreCut items size room xs l → IsInPiece size room at q r → at ≡ length l → AreCut items size room (set xs q y) (l ++ a ∷ [])
  cut_pushed room [] l at q r x y a below is put are there behind = absurd (omega (arith, below))
  cut_pushed room (z ∷ zs) l at zero r x y a below is put are there behind =
      let fits : length l < room = omega (arith, there.1, behind) in
      let more : length (l ++ a ∷ []) ≤ room = omega (arith, length-append l (a ∷ []), fits) in (
        put
            ∙ ap (λ (w : X). items w ++ a ∷ []) is
            ∙ ap (λ (k : List A). k ++ a ∷ []) (are.0 ∙ take_all room l (omega (arith, fits)))
            ∙ sym (take_all room (l ++ a ∷ []) more),
        subst (AreCut items size size zs) (drop_all room l (omega (arith, fits)) ∙ sym (drop_all room (l ++ a ∷ []) more)) are.1,
      )
  cut_pushed room (z ∷ zs) l at (suc q) r x y a below is put are there behind =
      let le : room ≤ length l = omega (arith, there.0, behind) in (
        are.0 ∙ sym (take-append-le room l (a ∷ []) le),
        subst (AreCut items size size (set zs q y)) (sym (drop-append-le room l (a ∷ []) le))
            (cut_pushed size zs (drop room l) (at - room) q r x y a (omega (arith, below)) is put are.1 there.1 (omega (arith, length-drop room l, behind))),
      )

  -- the last item goes
  pub cut_popped : (room : ℕ) (xs : List X) (l : List A) (at q r : ℕ) (x y : X) → q < length xs → x ≡ get_or xs q x → items y ≡ take (length (items x) - 1) (items x) → AreCut items size room xs l → IsInPiece size room at q r → at + 1 ≡ length l → AreCut items size room (set xs q y) (take at l)
  cut_popped room [] l at q r x y below is put are there last = absurd (omega (arith, below))
  cut_popped room (z ∷ zs) l at zero r x y below is put are there last =
      let fits : length l ≤ room = omega (arith, there.1, last) in
      let less : length (take at l) ≤ room = omega (arith, length-take at l, fits) in
      let whole : items x ≡ l = ap items is ∙ are.0 ∙ take_all room l fits in (
        put
            ∙ ap (λ (k : List A). take (length k - 1) k) whole
            ∙ ap (λ (i : ℕ). take i l) (let e : length l - 1 ≡ at = omega (arith, last) in e)
            ∙ sym (take_all room (take at l) less),
        subst (AreCut items size size zs) (drop_all room l fits ∙ sym (drop_all room (take at l) less)) are.1,
      )
  cut_popped room (z ∷ zs) l at (suc q) r x y below is put are there last = (
    are.0 ∙ sym (take-take room at l there.0),
    subst (AreCut items size size (set zs q y)) (sym (take_rest room at l there.0))
        (cut_popped size zs (drop room l) (at - room) q r x y (omega (arith, below)) is put are.1 there.1 (omega (arith, length-drop room l, there.0, last))),
  )

  -- the first item goes, and others stay in its piece
  pub cut_front : (room : ℕ) (xs : List X) (l : List A) (x y : X) → 0 < room → 0 < length xs → x ≡ get_or xs 0 x → items y ≡ drop 1 (items x) → AreCut items size room xs l → AreCut items size (room - 1) (set xs 0 y) (drop 1 l)
  cut_front room [] l x y some below is put are = absurd (omega (arith, below))
  cut_front room (z ∷ zs) l x y some below is put are =
      let more : room ≡ 1 + (room - 1) = omega arith in (
        put
            ∙ ap (λ (w : X). drop 1 (items w)) is
            ∙ ap (drop 1) are.0
            ∙ ap (λ (n : ℕ). drop 1 (take n l)) more
            ∙ drop-take 1 (room - 1) l,
        subst (AreCut items size size zs) (ap (λ (n : ℕ). drop n l) more ∙ sym (drop-drop (room - 1) 1 l)) are.1,
      )

  -- the first item goes with its piece
  pub cut_used : (xs : List X) (l : List A) → 0 < length xs → AreCut items size 1 xs l → AreCut items size size (drop 1 xs) (drop 1 l)
  cut_used [] l below are = absurd (omega (arith, below))
  cut_used (z ∷ zs) l below are = are.1

  -- an empty piece behind the others
  pub cut_more : (room : ℕ) (xs : List X) (l : List A) (y : X) → items y ≡ [] → AreCut items size room xs l → AreCut items size room (xs ++ y ∷ []) l
  cut_more room [] l y none are = (
    none ∙ sym (take-nil room) ∙ ap (take room) (sym are),
    drop_all room l (omega (arith, ap length are)),
  )
  cut_more room (z ∷ zs) l y none are = (are.0, cut_more size zs (drop room l) y none are.1)
