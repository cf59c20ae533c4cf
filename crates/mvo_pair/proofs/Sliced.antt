-- Records that are written in slices.
use Rattle.std.proofs.Common.{◌≡◌, ◌⊎◌, inl, inr, ℕ, zero, suc, ◌+◌, ◌-◌, ◌<◌, ◌≤◌, Bool, true, false, cond, ltb, List, [], ◌∷◌, ◌++◌, length, take, drop, All, refl, sym, ap, subst, ◌∙◌, append_assoc, arith}
use Rattle.std.specs.List.{AllByRecursion, flat_map}
use Rattle.std.specs.List.Sorted.{IsStrictlySortedBy}
use Rattle.std.specs.declared.cmp.Ordering.TheVariants.{Less}
use Rattle.std.proofs.Math.Seq.{take-add}
use Rattle.std.proofs.lemmas.Bool.{ltb-true}
use Rattle.std.proofs.lemmas.List.{length-drop}
use Rattle.std.proofs.lemmas.List.Elements.{All-take, All-drop, All-append, recursion_from_All}
use Rattle.std.proofs.lemmas.Grind.{flat_map-append}
use Rattle.mvo_format.specs.declared.format.Format.{Format}
use Rattle.mvo_pair.specs.Data.{EntryData, entry_cmp}
use Rattle.mvo_pair.specs.Files.{AreEntries, IsEntry, HasRowWords, entry_bytes, data_bytes, file_header, data_magic}
use Rattle.mvo_pair.specs.Spelling.{IsShort}
use Rattle.mvo_pair.specs.Slices.{HasFirst, entry_len, fitting, with_slice}
use Rattle.mvo_pair.specs.declared.slices.TheConstants.{SLICE_LEN}

-- ---- the first of some records are records

all_first : {X : Type 0} (P : X → Type 0) (n : ℕ) (xs : List X) → AllByRecursion P xs → AllByRecursion P (take n xs)
all_first P zero xs all = tt
all_first P (suc n) [] all = tt
all_first P (suc n) (x ∷ xs) all = (all.0, all_first P n xs all.1)

sorted_first : (n : ℕ) (es : List EntryData) → IsStrictlySortedBy entry_cmp es → IsStrictlySortedBy entry_cmp (take n es)
unfolding IsStrictlySortedBy
sorted_first zero es up = tt
sorted_first (suc n) [] up = tt
sorted_first (suc n) (e ∷ es) up = (all_first (λ y. entry_cmp e y ≡ Less) n es up.0, sorted_first n es up.1)

pub first_are : (f : Format) (lo hi n : ℕ) (es : List EntryData) → AreEntries f lo hi es → AreEntries f lo hi (take n es)
first_are f lo hi n es are = record { each = All-take (IsEntry f lo hi) n es are.each; rise = sorted_first n es are.rise }

-- ---- one at least

one_fits : (e : EntryData) (es : List EntryData) → IsShort e → 0 < fitting SLICE_LEN (e ∷ es)
one_fits e es short = go (ltb SLICE_LEN (entry_len e)) refl
  where
    go : (b : Bool) → ltb SLICE_LEN (entry_len e) ≡ b → 0 < cond b 0 (suc (fitting (SLICE_LEN - entry_len e) es))
    go true is = absurd (omega (arith, ltb-true SLICE_LEN (entry_len e) is, short))
    go false is = omega arith

pub more_or_all : (es : List EntryData) (from : ℕ) → All IsShort es → from ≤ length es → (from < with_slice es from) ⊎ (with_slice es from ≡ length es)
more_or_all es from short le = go (drop from es) refl (recursion_from_All IsShort (drop from es) (All-drop IsShort from es short))
  where
    go : (rest : List EntryData) → drop from es ≡ rest → AllByRecursion IsShort rest → (from < from + fitting SLICE_LEN rest) ⊎ (from + fitting SLICE_LEN rest ≡ length es)
    go [] is all = inr (omega (arith, ap (λ (l : List EntryData). length l) is, length-drop from es, le))
    go (e ∷ rest) is all = inl (omega (arith, one_fits e rest all.0))

-- ---- the next behind the first

pub has_more : (f : Format) (es : List EntryData) (from more : ℕ) (old new : List ℕ) → HasFirst f es from old → new ≡ old ++ flat_map entry_bytes (take more (drop from es)) → All HasRowWords (take more (drop from es)) → HasFirst f es (from + more) new
has_more f es from more old new has is words =
    let both : take (from + more) es ≡ take from es ++ take more (drop from es) = take-add from more es in
    record {
      whole = is ∙ ap (λ (l : List ℕ). l ++ flat_map entry_bytes (take more (drop from es))) has.whole
          ∙ append_assoc (file_header data_magic f.version) (flat_map entry_bytes (take from es)) (flat_map entry_bytes (take more (drop from es)))
          ∙ ap (λ (l : List ℕ). file_header data_magic f.version ++ l) (sym (flat_map-append entry_bytes (take from es) (take more (drop from es))))
          ∙ ap (λ (l : List EntryData). data_bytes f.version l) (sym both);
      words = subst (All HasRowWords) (sym both) (All-append HasRowWords (take from es) (take more (drop from es)) has.words words);
    }

-- so many of them, as a slice of the list has them
pub has_appended : (f : Format) (es : List EntryData) (from more k : ℕ) (old new : List ℕ) → HasFirst f es from old → new ≡ old ++ flat_map entry_bytes (take k (drop from es)) → All HasRowWords (take k (drop from es)) → k ≡ more → HasFirst f es (from + more) new
has_appended f es from more k old new has is words same = has_more f es from more old new has (is ∙ ap (λ i. old ++ flat_map entry_bytes (take i (drop from es))) same) (subst (λ i. All HasRowWords (take i (drop from es))) same words)
