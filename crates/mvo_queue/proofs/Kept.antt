-- What a queue in pieces holds once a piece has changed, and that it stays one.
use Rattle.std.proofs.Common.{◌≡◌, ℕ, zero, suc, ◌+◌, ◌-◌, ◌*◌, ◌^◌, ◌<◌, ◌≤◌, List, [], ◌∷◌, ◌++◌, length, get_or, set, take, drop, refl, sym, ap, ◌∙◌, subst, arith}
use Rattle.std.specs.Prelude.{slice_get, flat_map}
use Rattle.std.specs.List.{All}
use Rattle.std.proofs.lemmas.List.{length-append, length-set, length-take, length-drop}
use Rattle.std.proofs.lemmas.List.Elements.{All-set, All-append, All-drop}
use Rattle.mvo_queue.specs.Cut.{AreCut, IsInPiece}
use Rattle.mvo_queue.specs.Queue.{QueueData, IsInPieces}
use Rattle.mvo_queue.proofs.Cuts.{joined, piece_within, inner_short, got, inner_within, inner_behind, last_place, cut_set, cut_pushed, cut_popped, cut_front, cut_used, cut_more}

-- two queues with the same parts
pub same_queue : {A : Type 0} (xs ys : List A) (m n : ℕ) → xs ≡ ys → m ≡ n → ◌≡◌ {A = QueueData A} (record { items = xs; room = m }) (record { items = ys; room = n })
same_queue xs ys m n e f =
    ap (λ (zs : List _). record { items = zs; room = m }) e
    ∙ ap (λ (k : ℕ). record { items = ys; room = k }) f

-- ---- one piece less
some_piece : (size n len : ℕ) → len ≤ n * size → 0 < len → 0 < n
some_piece size zero len within some = absurd (omega (arith, within, some))
some_piece size (suc n) len within some = omega arith

one_less : (size n len less : ℕ) → len ≤ n * size → less + size ≡ len → less ≤ (n - 1) * size
one_less size zero len less within is = omega (arith, within, is)
one_less size (suc n) len less within is =
    let e : suc n - 1 ≡ n = omega arith in
    subst (λ (m : ℕ). less ≤ m * size) (sym e) (omega (arith, within, is))

fewer : (size n : ℕ) → n * size < 2 ^ 64 → (n - 1) * size < 2 ^ 64
fewer size zero few = few
fewer size (suc n) few =
    let e : suc n - 1 ≡ n = omega arith in
    subst (λ (m : ℕ). m * size < 2 ^ 64) (sym e) (omega (arith, few))

rest_same : {X : Type 0} (xs : List X) (y : X) → drop 1 xs ≡ drop 1 (set xs 0 y)
rest_same [] y = refl
rest_same (x ∷ xs) y = refl

alone : {X : Type 0} (P : X → Type 0) (y : X) → P y → All P (y ∷ [])
alone P y is zero d lt = is
alone P y is (suc k) d lt = absurd (omega (arith, lt))

-- the pieces of another list
pub in_pieces : {X A : Type 0} (items : X → List A) (capacity : X → ℕ) (size skipped len : ℕ) (xs : List X) (l : List A) → AreCut items size (size - skipped) xs l → length l ≡ len → skipped < size → skipped + len ≤ length xs * size → length xs * size < 2 ^ 64 → All (λ x. size ≤ capacity x) xs → IsInPieces items capacity size skipped len xs
in_pieces items capacity size skipped len xs l cut count first within few wide =
    let is : flat_map items xs ≡ l = joined items size (size - skipped) xs l cut in
    record {
      cut = subst (AreCut items size (size - skipped) xs) (sym is) cut;
      count = ap length is ∙ count;
      first = first;
      within = within;
      few = few;
      wide = wide;
    }

module _ {X A : Type 0} {items : X → List A} {capacity : X → ℕ} {size skipped len : ℕ} {xs : List X} (is : IsInPieces items capacity size skipped len xs) where
  -- what callers see of it
  pub seen_len : (q : QueueData A) (room : ℕ) → record { items = flat_map items xs; room = room } ≡ q → len ≡ length q.items
  seen_len q room seen = sym is.count ∙ ap (λ (d : QueueData A). length d.items) seen

  pub seen_room : (q : QueueData A) (room : ℕ) → record { items = flat_map items xs; room = room } ≡ q → room ≡ q.room
  seen_room q room seen = ap (λ (d : QueueData A). d.room) seen

  -- ---- at a place
  module _ (at q r : ℕ) (there : IsInPiece size (size - skipped) at q r) (has : skipped + at < length xs * size) where
    pub piece_there : q < length xs
    piece_there = piece_within items size (length xs) (size - skipped) at q r (omega arith) (let first : skipped < size = is.first in omega (arith, first, has)) there

    module _ (x : X) (found : x ≡ get_or xs q x) where
      pub got_there : slice_get (items x) r ≡ slice_get (flat_map items xs) at
      got_there = got items size (size - skipped) xs (flat_map items xs) at q r x piece_there found is.cut there

      pub inner_there : at < length (flat_map items xs) → r < length (items x)
      inner_there inside = inner_within items size (size - skipped) xs (flat_map items xs) at q r x piece_there found is.cut there inside

      wide_there : size ≤ capacity x
      wide_there = subst (λ (y : X). size ≤ capacity y) (sym found) (is.wide q x piece_there)

      -- another piece that can hold as much
      still_wide : (y : X) → capacity y ≡ capacity x → All (λ p. size ≤ capacity p) (set xs q y)
      still_wide y same = All-set (λ p. size ≤ capacity p) xs q y (let wide : size ≤ capacity x = wide_there in omega (arith, same, wide)) is.wide

      -- ---- an item is replaced
      pub items_set : (y : X) (a : A) → items y ≡ set (items x) r a → flat_map items (set xs q y) ≡ set (flat_map items xs) at a
      items_set y a put = joined items size (size - skipped) (set xs q y) (set (flat_map items xs) at a) (cut_set items size (size - skipped) xs (flat_map items xs) at q r x y a piece_there found put is.cut there)

      pub pieces_set : (y : X) (a : A) → items y ≡ set (items x) r a → capacity y ≡ capacity x → IsInPieces items capacity size skipped len (set xs q y)
      pieces_set y a put same =
          let pieces : length (set xs q y) ≡ length xs = length-set xs q y in
          let within : skipped + len ≤ length xs * size = is.within in
          let few : length xs * size < 2 ^ 64 = is.few in
          in_pieces items capacity size skipped len (set xs q y) (set (flat_map items xs) at a)
          (cut_set items size (size - skipped) xs (flat_map items xs) at q r x y a piece_there found put is.cut there)
          (length-set (flat_map items xs) at a ∙ is.count)
          is.first
          (subst (λ (n : ℕ). skipped + len ≤ n * size) (sym pieces) within)
          (subst (λ (n : ℕ). n * size < 2 ^ 64) (sym pieces) few)
          (still_wide y same)

      -- ---- an item more
      pub inner_free : at ≡ len → length (items x) < capacity x
      inner_free behind =
          let e : length (items x) ≡ r = inner_behind items size (size - skipped) xs (flat_map items xs) at q r x piece_there found is.cut there (behind ∙ sym is.count) in
          let short : r < size = inner_short items size (size - skipped) at q r (omega arith) there in
          let wide : size ≤ capacity x = wide_there in
          omega (arith, e, short, wide)

      pub items_pushed : (y : X) (a : A) → at ≡ len → items y ≡ items x ++ a ∷ [] → flat_map items (set xs q y) ≡ flat_map items xs ++ a ∷ []
      items_pushed y a behind put = joined items size (size - skipped) (set xs q y) (flat_map items xs ++ a ∷ []) (cut_pushed items size (size - skipped) xs (flat_map items xs) at q r x y a piece_there found put is.cut there (behind ∙ sym is.count))

      pub pieces_pushed : (y : X) (a : A) → at ≡ len → items y ≡ items x ++ a ∷ [] → capacity y ≡ capacity x → IsInPieces items capacity size skipped (len + 1) (set xs q y)
      pieces_pushed y a behind put same =
          let pieces : length (set xs q y) ≡ length xs = length-set xs q y in
          let few : length xs * size < 2 ^ 64 = is.few in
          in_pieces items capacity size skipped (len + 1) (set xs q y) (flat_map items xs ++ a ∷ [])
          (cut_pushed items size (size - skipped) xs (flat_map items xs) at q r x y a piece_there found put is.cut there (behind ∙ sym is.count))
          (omega (arith, length-append (flat_map items xs) (a ∷ []), is.count))
          is.first
          (subst (λ (n : ℕ). skipped + (len + 1) ≤ n * size) (sym pieces) (omega (arith, has, behind)))
          (subst (λ (n : ℕ). n * size < 2 ^ 64) (sym pieces) few)
          (still_wide y same)

      -- ---- the last item goes
      pub inner_last : at + 1 ≡ len → length (items x) ≡ r + 1
      inner_last last = last_place items size (size - skipped) xs (flat_map items xs) at q r x piece_there found is.cut there (last ∙ sym is.count)

      pub items_popped : (y : X) → at + 1 ≡ len → items y ≡ take (length (items x) - 1) (items x) → flat_map items (set xs q y) ≡ take at (flat_map items xs)
      items_popped y last put = joined items size (size - skipped) (set xs q y) (take at (flat_map items xs)) (cut_popped items size (size - skipped) xs (flat_map items xs) at q r x y piece_there found put is.cut there (last ∙ sym is.count))

      pub pieces_popped : (y : X) → at + 1 ≡ len → items y ≡ take (length (items x) - 1) (items x) → capacity y ≡ capacity x → IsInPieces items capacity size skipped at (set xs q y)
      pieces_popped y last put same =
          let pieces : length (set xs q y) ≡ length xs = length-set xs q y in
          let few : length xs * size < 2 ^ 64 = is.few in
          in_pieces items capacity size skipped at (set xs q y) (take at (flat_map items xs))
          (cut_popped items size (size - skipped) xs (flat_map items xs) at q r x y piece_there found put is.cut there (last ∙ sym is.count))
          (omega (arith, length-take at (flat_map items xs), is.count, last))
          is.first
          (subst (λ (n : ℕ). skipped + at ≤ n * size) (sym pieces) (omega (arith, has)))
          (subst (λ (n : ℕ). n * size < 2 ^ 64) (sym pieces) few)
          (still_wide y same)

  -- ---- the first item goes
  module _ (some : 0 < len) where
    pub first_there : 0 < length xs
    first_there = some_piece size (length xs) (skipped + len) is.within (omega arith)

    module _ (x y : X) (found : x ≡ get_or xs 0 x) (put : items y ≡ drop 1 (items x)) where
      -- its piece stays
      front_cut : AreCut items size (size - (skipped + 1)) (set xs 0 y) (drop 1 (flat_map items xs))
      front_cut =
          let first : skipped < size = is.first in
          let less : size - skipped - 1 ≡ size - (skipped + 1) = omega arith in
          subst (λ (n : ℕ). AreCut items size n (set xs 0 y) (drop 1 (flat_map items xs))) less
          (cut_front items size (size - skipped) xs (flat_map items xs) x y (omega (arith, first)) first_there found put is.cut)

      pub items_front : flat_map items (set xs 0 y) ≡ drop 1 (flat_map items xs)
      items_front = joined items size (size - (skipped + 1)) (set xs 0 y) (drop 1 (flat_map items xs)) front_cut

      pub pieces_front : skipped + 1 < size → capacity y ≡ capacity x → IsInPieces items capacity size (skipped + 1) (len - 1) (set xs 0 y)
      pieces_front short same =
          let pieces : length (set xs 0 y) ≡ length xs = length-set xs 0 y in
          let within : skipped + len ≤ length xs * size = is.within in
          let few : length xs * size < 2 ^ 64 = is.few in
          let wide : size ≤ capacity x = subst (λ (p : X). size ≤ capacity p) (sym found) (is.wide 0 x first_there) in
          in_pieces items capacity size (skipped + 1) (len - 1) (set xs 0 y) (drop 1 (flat_map items xs))
          front_cut
          (length-drop 1 (flat_map items xs) ∙ ap (λ (n : ℕ). n - 1) is.count)
          short
          (subst (λ (n : ℕ). skipped + 1 + (len - 1) ≤ n * size) (sym pieces) (omega (arith, within, some)))
          (subst (λ (n : ℕ). n * size < 2 ^ 64) (sym pieces) few)
          (All-set (λ p. size ≤ capacity p) xs 0 y (omega (arith, same, wide)) is.wide)

      -- its piece goes
      used_cut : skipped + 1 ≡ size → AreCut items size (size - 0) (drop 1 (set xs 0 y)) (drop 1 (flat_map items xs))
      used_cut last =
          let one : size - skipped ≡ 1 = omega arith in
          subst (λ (n : ℕ). AreCut items size n (drop 1 (set xs 0 y)) (drop 1 (flat_map items xs))) (let e : size ≡ size - 0 = omega arith in e)
          (subst (λ (ps : List X). AreCut items size size ps (drop 1 (flat_map items xs))) (rest_same xs y)
          (cut_used items size xs (flat_map items xs) first_there (subst (λ (n : ℕ). AreCut items size n xs (flat_map items xs)) one is.cut)))

      pub items_used : skipped + 1 ≡ size → flat_map items (drop 1 (set xs 0 y)) ≡ drop 1 (flat_map items xs)
      items_used last = joined items size (size - 0) (drop 1 (set xs 0 y)) (drop 1 (flat_map items xs)) (used_cut last)

      pub pieces_used : skipped + 1 ≡ size → IsInPieces items capacity size 0 (len - 1) (drop 1 (set xs 0 y))
      pieces_used last =
          let pieces : length (drop 1 (set xs 0 y)) ≡ length xs - 1 = length-drop 1 (set xs 0 y) ∙ ap (λ (n : ℕ). n - 1) (length-set xs 0 y) in
          let within : skipped + len ≤ length xs * size = is.within in
          let few : length xs * size < 2 ^ 64 = is.few in
          in_pieces items capacity size 0 (len - 1) (drop 1 (set xs 0 y)) (drop 1 (flat_map items xs))
          (used_cut last)
          (length-drop 1 (flat_map items xs) ∙ ap (λ (n : ℕ). n - 1) is.count)
          (omega arith)
          (subst (λ (n : ℕ). 0 + (len - 1) ≤ n * size) (sym pieces) (let le : len - 1 ≤ (length xs - 1) * size = one_less size (length xs) (skipped + len) (len - 1) within (omega arith) in omega (arith, le)))
          (subst (λ (n : ℕ). n * size < 2 ^ 64) (sym pieces) (fewer size (length xs) few))
          (subst (All (λ p. size ≤ capacity p)) (rest_same xs y) (All-drop (λ p. size ≤ capacity p) 1 xs is.wide))

  -- ---- a piece more
  pub items_more : (y : X) → items y ≡ [] → flat_map items (xs ++ y ∷ []) ≡ flat_map items xs
  items_more y none = joined items size (size - skipped) (xs ++ y ∷ []) (flat_map items xs) (cut_more items size (size - skipped) xs (flat_map items xs) y none is.cut)

  pub pieces_more : (y : X) → items y ≡ [] → size ≤ capacity y → (length xs + 1) * size < 2 ^ 64 → IsInPieces items capacity size skipped len (xs ++ y ∷ [])
  pieces_more y none wide few =
      let pieces : length (xs ++ y ∷ []) ≡ length xs + 1 = length-append xs (y ∷ []) in
      let within : skipped + len ≤ length xs * size = is.within in
      in_pieces items capacity size skipped len (xs ++ y ∷ []) (flat_map items xs)
      (cut_more items size (size - skipped) xs (flat_map items xs) y none is.cut)
      is.count
      is.first
      (subst (λ (n : ℕ). skipped + len ≤ n * size) (sym pieces) (omega (arith, within)))
      (subst (λ (n : ℕ). n * size < 2 ^ 64) (sym pieces) few)
      (All-append (λ p. size ≤ capacity p) xs (y ∷ []) is.wide (alone (λ p. size ≤ capacity p) y wide))
