-- The bytes of a data file say which records they are.
use Rattle.std.proofs.Common.{◌≡◌, ℕ, ◌<◌, ◌^◌, List, [], ◌∷◌, ◌++◌, length, refl, sym, ap, ◌∙◌, arith, append_assoc}
use Rattle.std.specs.List.{flat_map, AllByRecursion}
use Rattle.std.proofs.lemmas.List.{append_cancel_left}
use Rattle.std.proofs.lemmas.List.Concat.{flat_map-cons}
use Rattle.std.proofs.lemmas.List.Elements.{recursion_from_All}
use Rattle.mvo_bytes.proofs.Fields.{some_is}
use Rattle.mvo_format.specs.declared.format.Format.{Format}
use Rattle.mvo_pair.specs.Data.{EntryData}
use Rattle.mvo_pair.specs.Files.{entry_bytes, file_header, data_magic, IsEntry, HasRowWords, HasEntries}
use Rattle.mvo_pair.specs.Reading.{entry_at}
use Rattle.mvo_pair.proofs.Said.{FitsFields}
use Rattle.mvo_pair.proofs.Spelled.{HasFields, entry_again}

module _ (f : Format) (lo hi : ℕ) (fits : FitsFields f) (top : hi < 2 ^ 64) where
  fields_of : (e : EntryData) → IsEntry f lo hi e → HasRowWords e → HasFields e
  fields_of e is words = record {
    begin = omega (arith, is.upto, top);
    table = omega (arith, is.table, fits.table);
    key = words.key;
    sort = words.sort;
    size = omega (arith, is.size, fits.size);
  }

  all_fields : (es : List EntryData) → AllByRecursion (IsEntry f lo hi) es → AllByRecursion HasRowWords es → AllByRecursion HasFields es
  all_fields [] is words = tt
  all_fields (e ∷ es) is words = (fields_of e is.0 words.0, all_fields es is.1 words.1)

entries_same : (xs ys : List EntryData) (r s : List ℕ) → AllByRecursion HasFields xs → AllByRecursion HasFields ys → length xs ≡ length ys → flat_map entry_bytes xs ++ r ≡ flat_map entry_bytes ys ++ s → xs ≡ ys
entries_same [] [] r s fa fb len e = refl
entries_same [] (y ∷ ys) r s fa fb len e = absurd (omega (arith, len))
entries_same (x ∷ xs) [] r s fa fb len e = absurd (omega (arith, len))
entries_same (a ∷ xs) (b ∷ ys) r s fa fb len e =
    let front : (x : EntryData) (es : List EntryData) (t : List ℕ) → flat_map entry_bytes (x ∷ es) ++ t ≡ entry_bytes x ++ (flat_map entry_bytes es ++ t) = λ x es t. ap (λ (l : List ℕ). l ++ t) (flat_map-cons entry_bytes x es) ∙ append_assoc (entry_bytes x) (flat_map entry_bytes es) t in
    let both : entry_bytes a ++ (flat_map entry_bytes xs ++ r) ≡ entry_bytes b ++ (flat_map entry_bytes ys ++ s) = sym (front a xs r) ∙ e ∙ front b ys s in
    let here : EntryData × List ℕ = (a, flat_map entry_bytes xs ++ r) in
    let there : EntryData × List ℕ = (b, flat_map entry_bytes ys ++ s) in
    let same : here ≡ there = some_is here there (sym (entry_again a (flat_map entry_bytes xs ++ r) fa.0) ∙ ap entry_at both ∙ entry_again b (flat_map entry_bytes ys ++ s) fb.0) in
    ap (λ (t : EntryData × List ℕ). t.0 ∷ xs) same
    ∙ ap (λ (es : List EntryData). b ∷ es) (entries_same xs ys r s fa.1 fb.1 (omega (arith, len)) (ap (λ (t : EntryData × List ℕ). t.1) same))

-- the records of a data file are these and no others
pub entries_once : (f : Format) (lo hi count : ℕ) (xs ys : List EntryData) (bytes : List ℕ) → FitsFields f → hi < 2 ^ 64 → HasEntries f lo hi count xs bytes → HasEntries f lo hi count ys bytes → xs ≡ ys
entries_once f lo hi count xs ys bytes fits top a b =
    let h = file_header data_magic f.version in
    let whole : h ++ (flat_map entry_bytes xs ++ a.rest) ≡ h ++ (flat_map entry_bytes ys ++ b.rest) = sym (append_assoc h (flat_map entry_bytes xs) a.rest) ∙ sym a.whole ∙ b.whole ∙ append_assoc h (flat_map entry_bytes ys) b.rest in
    entries_same xs ys a.rest b.rest
    (all_fields f lo hi fits top xs (recursion_from_All (IsEntry f lo hi) xs a.are.each) (recursion_from_All HasRowWords xs a.words))
    (all_fields f lo hi fits top ys (recursion_from_All (IsEntry f lo hi) ys b.are.each) (recursion_from_All HasRowWords ys b.words))
    (a.counted ∙ sym b.counted)
    (append_cancel_left h (flat_map entry_bytes xs ++ a.rest) (flat_map entry_bytes ys ++ b.rest) whole)
