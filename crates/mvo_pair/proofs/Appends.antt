-- Numbers written behind the counted ones.
use Rattle.std.proofs.Common.{◌≡◌, ℕ, ◌+◌, ◌*◌, ◌≤◌, List, [], ◌∷◌, ◌++◌, length, take, drop, refl, sym, ap, subst, ◌∙◌, append_assoc, arith, length-append}
use Rattle.std.specs.List.{flat_map}
use Rattle.std.proofs.lemmas.List.{take_at}
use Rattle.std.proofs.lemmas.List.Concat.{flat_map-cons}
use Rattle.std.proofs.lemmas.Grind.{flat_map-append}
use Rattle.mvo_disk.specs.Disk.{Holds, Torn, Touched, Only, LeavesOnly, AllOf, Moment}
use Rattle.mvo_disk.specs.Moments.{started, weaker}
use Rattle.mvo_disk.specs.Torn.{torn_whole}
use Rattle.mvo_bytes.specs.Fields.{field}
use Rattle.mvo_bytes.proofs.Fields.{length-field}
use Rattle.mvo_pair.specs.Files.{AreNumbers, HasDeadNumbers, file_header, delta_magic, delta_bytes}
use Rattle.mvo_pair.specs.Writing.{KeepsNumbers, place_behind}

pub length-numbers : (ns : List ℕ) → length (flat_map (field 4) ns) ≡ 4 * length ns
length-numbers [] = refl
length-numbers (n ∷ ns) = ap (λ (l : List ℕ). length l) (flat_map-cons (field 4) n ns) ∙ length-append (field 4 n) (flat_map (field 4) ns) ∙ four (length-field 4 n) (length-numbers ns)
  where
    four : length (field 4 n) ≡ 4 → length (flat_map (field 4) ns) ≡ 4 * length ns → length (field 4 n) + length (flat_map (field 4) ns) ≡ 4 * length (n ∷ ns)
    four a b = omega arith

pub length-delta : (version : ℕ) (ns : List ℕ) (count : ℕ) → length ns ≡ count → length (delta_bytes version ns) ≡ place_behind count
length-delta version ns count is =
    let whole : length (delta_bytes version ns) ≡ length (file_header delta_magic version) + length (flat_map (field 4) ns) = length-append (file_header delta_magic version) (flat_map (field 4) ns) in
    let front : length (file_header delta_magic version) ≡ 4 + length (field 4 version) = length-append delta_magic (field 4 version) in
    omega (arith, whole, front, length-field 4 version, length-numbers ns, is)

module _ (version below count : ℕ) (ns old : List ℕ) (has : HasDeadNumbers version below count ns old) where
  kept : take (place_behind count) old ≡ delta_bytes version ns
  kept = ap (λ (l : List ℕ). take (place_behind count) l) has.whole ∙ take_at (delta_bytes version ns) has.rest (place_behind count) (length-delta version ns count has.counted)

  long : place_behind count ≤ length old
  long = omega (arith, ap (λ (l : List ℕ). length l) has.whole, length-append (delta_bytes version ns) has.rest, length-delta version ns count has.counted)

  -- a write behind the counted numbers of which any part is missing
  pub torn_numbers : (n : ℕ) (c : List ℕ) → Torn (place_behind count) n old c → HasDeadNumbers version below count ns c
  torn_numbers n c torn = record {
    rest = drop (place_behind count) c;
    whole = torn_whole (place_behind count) n old c torn long ∙ ap (λ (l : List ℕ). l ++ drop (place_behind count) c) kept;
    counted = has.counted;
    are = has.are;
  }

  -- one that is whole
  pub more_numbers : (more new : List ℕ) → Holds old (place_behind count) (flat_map (field 4) more) new → AreNumbers below (ns ++ more) → HasDeadNumbers version below (count + length more) (ns ++ more) new
  more_numbers more new holds are =
      let later = drop (place_behind count + length (flat_map (field 4) more)) old in
      let joined : delta_bytes version ns ++ flat_map (field 4) more ≡ delta_bytes version (ns ++ more) = append_assoc (file_header delta_magic version) (flat_map (field 4) ns) (flat_map (field 4) more) ∙ ap (λ (l : List ℕ). file_header delta_magic version ++ l) (sym (flat_map-append (field 4) ns more)) in
      record {
        rest = later;
        whole = holds ∙ ap (λ (l : List ℕ). l ++ flat_map (field 4) more ++ later) kept ∙ ap (λ (l : List ℕ). l ++ later) joined;
        counted = length-append ns more ∙ ap (λ k. k + length more) has.counted;
        are = are;
      }

-- ---- every moment

module _ {D : Type 0} (moment : D → Moment) (left_since : D → Moment → (ℕ → List ℕ) → Type 0) (content : D → ℕ → List ℕ) (may_leave : D → ℕ → List ℕ → Type 0) where
  pub keeps_within : (old new : D) (file count n : ℕ) → LeavesOnly moment left_since old new (Touched file (may_leave old) (Torn (place_behind count) n (content old file))) → KeepsNumbers moment left_since content may_leave old new file count
  keeps_within old new file count n only version below ns has =
      weaker moment left_since old new (Touched file (may_leave old) (Torn (place_behind count) n (content old file))) (Touched file (may_leave old) (HasDeadNumbers version below count ns))
      (λ image t. record { here = torn_numbers version below count ns (content old file) has n (image file) t.here; others = t.others }) only

  -- before the first call
  pub keeps_still : ((d : D) (image : ℕ → List ℕ) → left_since d (moment d) image → AllOf (may_leave d) image) → (old : D) (file count : ℕ) → Only (content old file) (may_leave old file) → KeepsNumbers moment left_since content may_leave old old file count
  keeps_still only_now old file count only version below ns has =
      started moment left_since old (Touched file (may_leave old) (HasDeadNumbers version below count ns)) (λ image left.
      record { here = subst (λ (l : List ℕ). HasDeadNumbers version below count ns l) (sym (only (image file) (only_now old image left file))) has; others = λ n ne. only_now old image left n })
