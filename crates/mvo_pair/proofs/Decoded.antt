-- What is decoded of bytes that spell numbers.
use Rattle.std.proofs.Common.{◌≡◌, ℕ, zero, suc, ◌+◌, ◌-◌, ◌*◌, ◌/◌, ◌<◌, ◌≤◌, ◌^◌, List, [], ◌∷◌, ◌++◌, length, take, drop, get_or, refl, sym, ap, ◌∙◌, arith, append_assoc, length-append}
use Rattle.std.specs.List.{flat_map, AllByRecursion}
use Rattle.std.proofs.lemmas.List.{take_at, drop_at, take_all, take_more, take-append-drop, drop-drop, length-take-le, length-drop}
use Rattle.std.proofs.lemmas.List.Concat.{flat_map-cons}
use Rattle.std.proofs.lemmas.List.Elements.{recursion_from_All}
use Rattle.std.proofs.lemmas.Grind.{flat_map-append}
use Rattle.mvo_bytes.specs.Fields.{field}
use Rattle.mvo_bytes.proofs.Fields.{length-field}
use Rattle.mvo_pair.specs.Reading.{number_in}
use Rattle.mvo_pair.specs.Files.{file_header, delta_magic}
use Rattle.mvo_pair.proofs.Spelled.{number_back_is, field_behind}
use Rattle.mvo_pair.proofs.Appends.{length-numbers}
use Rattle.mvo_pair.specs.Late.{numbers_upto, AreThoseFrom}

-- the number at a place
number_there : (ns : List ℕ) (i d : ℕ) → AllByRecursion (λ n. n < 256 ^ 4) ns → i < length ns → number_in 4 (drop (4 * i) (flat_map (field 4) ns)) ≡ get_or ns i d
number_there [] i d small lt = absurd (omega (arith, lt))
number_there (n ∷ ns) zero d small lt = ap (number_in 4) (flat_map-cons (field 4) n ns) ∙ number_back_is 4 n (flat_map (field 4) ns) small.0
number_there (n ∷ ns) (suc i) d small lt =
    let at : 4 * suc i ≡ 4 + 4 * i = omega arith in
    let there : drop (4 * suc i) (flat_map (field 4) (n ∷ ns)) ≡ drop (4 * i) (flat_map (field 4) ns) =
    ap (λ k. drop k (flat_map (field 4) (n ∷ ns))) at
    ∙ sym (drop-drop (4 * i) 4 (flat_map (field 4) (n ∷ ns)))
    ∙ ap (λ (l : List ℕ). drop (4 * i) (drop 4 l)) (flat_map-cons (field 4) n ns)
    ∙ ap (λ (l : List ℕ). drop (4 * i) l) (field_behind 4 n (flat_map (field 4) ns)) in
    ap (number_in 4) there ∙ number_there ns i d small.1 (omega (arith, lt))

pub length-upto : (k : ℕ) (bytes : List ℕ) → length (numbers_upto k bytes) ≡ k
length-upto zero bytes = refl
length-upto (suc k) bytes = length-append (numbers_upto k bytes) (number_in 4 (drop (4 * k) bytes) ∷ []) ∙ one (length-upto k bytes)
  where
    one : length (numbers_upto k bytes) ≡ k → length (numbers_upto k bytes) + 1 ≡ suc k
    one e = omega (arith, e)

upto_are : (k : ℕ) (ns : List ℕ) → AllByRecursion (λ n. n < 256 ^ 4) ns → k ≤ length ns → numbers_upto k (flat_map (field 4) ns) ≡ take k ns
upto_are zero ns small le = refl
upto_are (suc k) ns small le =
    ap (λ (l : List ℕ). l ++ number_in 4 (drop (4 * k) (flat_map (field 4) ns)) ∷ []) (upto_are k ns small (omega (arith, le)))
    ∙ ap (λ n. take k ns ++ n ∷ []) (number_there ns k 0 small (omega (arith, le)))
    ∙ sym (take_more ns k 0 (omega (arith, le)))
    ∙ ap (λ j. take j ns) (let one : k + 1 ≡ suc k = omega arith in one)

small_words : (below : ℕ) (ns : List ℕ) → below ≤ 2 ^ 32 → AllByRecursion (λ n. n < below) ns → AllByRecursion (λ n. n < 256 ^ 4) ns
small_words below [] few all = tt
small_words below (n ∷ ns) few all = (word n all.0, small_words below ns few all.1)
  where
    word : (k : ℕ) → k < below → k < 256 ^ 4
    word k lt = omega (arith, lt, few)

all_drop : (k : ℕ) (ns : List ℕ) → AllByRecursion (λ n. n < 256 ^ 4) ns → AllByRecursion (λ n. n < 256 ^ 4) (drop k ns)
all_drop zero ns all = all
all_drop (suc k) [] all = all
all_drop (suc k) (n ∷ ns) all = all_drop k ns all.1

module _ (from count : ℕ) (content bytes found : List ℕ) (le : from ≤ count) (read : bytes ≡ take (4 * (count - from)) (drop (8 + 4 * from) content)) (decoded : found ≡ numbers_upto (length bytes / 4) bytes) where
  -- THEY ARE those from the place on.
  pub those_from : AreThoseFrom from count content found
  those_from version below ns few has =
      let h = file_header delta_magic version in
      let front = take from ns in
      let back = drop from ns in
      let split : flat_map (field 4) ns ≡ flat_map (field 4) front ++ flat_map (field 4) back = ap (flat_map (field 4)) (sym (take-append-drop from ns)) ∙ flat_map-append (field 4) front back in
      let whole : content ≡ (h ++ flat_map (field 4) front) ++ (flat_map (field 4) back ++ has.rest) =
      has.whole
      ∙ ap (λ (l : List ℕ). (h ++ l) ++ has.rest) split
      ∙ append_assoc h (flat_map (field 4) front ++ flat_map (field 4) back) has.rest
      ∙ ap (λ (l : List ℕ). h ++ l) (append_assoc (flat_map (field 4) front) (flat_map (field 4) back) has.rest)
      ∙ sym (append_assoc h (flat_map (field 4) front) (flat_map (field 4) back ++ has.rest)) in
      let front_len : length front ≡ from = length-take-le from ns (omega (arith, has.counted, le)) in
      let back_len : length back ≡ count - from = omega (arith, length-drop from ns, has.counted) in
      let head_len : length h ≡ 8 = omega (arith, length-append delta_magic (field 4 version), length-field 4 version) in
      let before : length (h ++ flat_map (field 4) front) ≡ 8 + 4 * from = omega (arith, length-append h (flat_map (field 4) front), length-numbers front, head_len, front_len) in
      let rest : drop (8 + 4 * from) content ≡ flat_map (field 4) back ++ has.rest = ap (λ (l : List ℕ). drop (8 + 4 * from) l) whole ∙ drop_at (h ++ flat_map (field 4) front) (flat_map (field 4) back ++ has.rest) (8 + 4 * from) before in
      let long : length (flat_map (field 4) back) ≡ 4 * (count - from) = omega (arith, length-numbers back, back_len) in
      let is : bytes ≡ flat_map (field 4) back = read ∙ ap (λ (l : List ℕ). take (4 * (count - from)) l) rest ∙ take_at (flat_map (field 4) back) has.rest (4 * (count - from)) long in
      let many : length bytes / 4 ≡ length back = omega (arith, ap (λ (l : List ℕ). length l) is, long, back_len) in
      let small = all_drop from ns (small_words below ns few (recursion_from_All (λ n. n < below) ns has.are.each)) in
      decoded
      ∙ ap (λ k. numbers_upto k bytes) many
      ∙ ap (λ (l : List ℕ). numbers_upto (length back) l) is
      ∙ upto_are (length back) back small (omega arith)
      ∙ take_all (length back) back (omega arith)
