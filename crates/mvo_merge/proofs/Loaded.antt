-- What a pair holds whose live records are loaded.
use Rattle.std.proofs.Common.{◌≡◌, inl, inr, ℕ, ◌+◌, ◌-◌, ◌<◌, ◌≤◌, Bool, true, false, cond, List, [], ◌∷◌, ◌++◌, length, Result, Ok, Err, refl, sym, ap, subst, ◌∙◌, arith, length-append}
use Rattle.std.specs.Prelude.{not, nat_eq, ◌==◌, ◌||◌}
use Rattle.std.specs.List.{AllByRecursion, IsDistinct, enumerate_from}
use Rattle.std.proofs.lemmas.Bool.{cases_lt, eq-eqb, eqb-false}
use Rattle.std.proofs.lemmas.List.{length-map}
use Rattle.std.proofs.lemmas.List.Elements.{recursion_from_All, All-weaker}
use Rattle.std.proofs.lemmas.List.Folds.{list_any-append}
use Rattle.std.proofs.lemmas.List.FromFn.{length-enumerate_from}
use Rattle.mvo_types.specs.declared.refusal.Refusal.{Refusal}
use Rattle.mvo_format.specs.declared.format.Format.{Format}
use Rattle.mvo_format.specs.Formats.{IsFormatUpTo, AllowsNoMore}
use Rattle.mvo_format.proofs.Versions.{later_allows}
use Rattle.mvo_pair.specs.Data.{EntryData, Numbered, live_of}
use Rattle.mvo_pair.specs.Answers.{FoundOrUnread, Goes, After}
use Rattle.mvo_pair.specs.Files.{IsEntry, AreEntries, AreNumbers}
use Rattle.mvo_pair.specs.Loading.{DataSays, DeltaSays, LoadsAs}
use Rattle.mvo_pair.specs.declared.pair.Pair.{Pair}
use Rattle.mvo_places.proofs.Members.{Among, among_map, among_mapped, among_filter, all_among, Rises}
use Rattle.mvo_places.proofs.Held.{numbers_in}
use Rattle.mvo_places.proofs.Rising.{same_filter, two_filters, live_rises}
use Rattle.mvo_merge.specs.Merged.{entries_alone, merged, without}
use Rattle.mvo_merge.specs.Laws.{CountsLive, MergeLeavesOthers, LoadsMerged, HasBoth, MergeIsFewEnough}
use Rattle.mvo_merge.proofs.Lists.{names, not_named}

pub record Loaded (f : Format) (p : Pair) (live : List Numbered) : Type 0 where
  pub entries : List EntryData
  pub numbers : List ℕ
  pub counted : length entries ≡ p.records
  pub are : AreEntries f p.lo.0 p.hi.0 entries
  pub numbers_counted : length numbers ≡ p.entries
  pub numbers_are : AreNumbers p.records numbers
  pub is : live ≡ live_of numbers entries

module _ (upto : ℕ) (p : Pair) (delta_bytes : List ℕ) (live : List Numbered) where
  abbrev Rest : List EntryData → List ℕ → Result (List Numbered) Refusal → Type 0
  Rest es ns out = out ≡ Ok (live_of ns es)

  -- it is loaded by the format of its own version
  abbrev IsLoaded : Type 0
  IsLoaded = (own : Format) × IsFormatUpTo upto own × Loaded own p live

  of_numbers : (own : Format) → IsFormatUpTo upto own → (es : List EntryData) → length es ≡ p.records → AreEntries own p.lo.0 p.hi.0 es → (found : FoundOrUnread (List ℕ)) → DeltaSays own p delta_bytes found → Goes p.delta_file (Rest es) found (Ok live) → IsLoaded
  of_numbers own known es counted are (Ok ns) says is = let same : live ≡ live_of ns es = cc in (own, known, record { entries = es; numbers = ns; counted = counted; are = are; numbers_counted = says.counted; numbers_are = says.are; is = same })
  of_numbers own known es counted are (Err e) says is = absurd cc

  of_entries : (data_bytes : List ℕ) (found : FoundOrUnread (Format × List EntryData)) → DataSays upto p data_bytes found → Goes p.data_file (λ d. After p.delta_file (DeltaSays d.0 p delta_bytes) (Rest d.1)) found (Ok live) → IsLoaded
  of_entries data_bytes (Ok d) says goes = of_numbers d.0 says.known d.1 says.has.counted says.has.are goes.0 goes.1 goes.2
  of_entries data_bytes (Err e) says goes = absurd cc

pub loaded : (upto : ℕ) (p : Pair) (data_bytes delta_bytes : List ℕ) (live : List Numbered) → LoadsAs upto p data_bytes delta_bytes (Ok live) → (own : Format) × IsFormatUpTo upto own × Loaded own p live
loaded upto p data_bytes delta_bytes live loads = of_entries upto p delta_bytes live data_bytes loads.0 loads.1 loads.2

-- records that keep the rules of a version keep those of one that allows no less
entries_later : (own f : Format) → AllowsNoMore own f → (lo hi : ℕ) (es : List EntryData) → AreEntries own lo hi es → AreEntries f lo hi es
entries_later own f more lo hi es are = record {
  each = All-weaker (IsEntry own lo hi) (IsEntry f lo hi) (λ e is. let table = is.table in let size = is.size in record { above = is.above; upto = is.upto; table = omega (arith, table, more.table); size = omega (arith, size, more.size) }) es are.each;
  rise = are.rise;
}

-- and the pair is loaded by each version that isn't earlier
pub loaded_later : (upto : ℕ) (f : Format) → IsFormatUpTo f.version f → upto ≤ f.version → (p : Pair) (data_bytes delta_bytes : List ℕ) (live : List Numbered) → LoadsAs upto p data_bytes delta_bytes (Ok live) → Loaded f p live
loaded_later upto f known le p data_bytes delta_bytes live loads =
    let l = loaded upto p data_bytes delta_bytes live loads in
    let low = l.1.within in
    let more = later_allows upto f.version l.0 f l.1 known (omega (arith, low, le)) in
    record {
      entries = l.2.entries;
      numbers = l.2.numbers;
      counted = l.2.counted;
      are = entries_later l.0 f more p.lo.0 p.hi.0 l.2.entries l.2.are;
      numbers_counted = l.2.numbers_counted;
      numbers_are = l.2.numbers_are;
      is = l.2.is;
    }

-- ---- more numbers

pub leaves_others : MergeLeavesOthers
leaves_others ns late es =
    same_filter (λ (e : Numbered). not (names (ns ++ late) e.0)) (λ (e : Numbered). not (names ns e.0 || names late e.0)) (enumerate_from 0 es) (λ e a. ap not (list_any-append (λ x. x == e.0) ns late))
    ∙ two_filters (λ (e : Numbered). names ns e.0) (λ (e : Numbered). names late e.0) (enumerate_from 0 es)

-- ---- how many records are live

-- a record of some number is taken out
one_fewer : (live : List Numbered) (n : ℕ) → Rises (numbers_in live) → Among (numbers_in live) n → length (without (n ∷ []) live) + 1 ≡ length live
one_fewer [] n up a = absurd a
one_fewer (l ∷ live) n up (inl e) =
    let here : names (n ∷ []) l.0 ≡ true = ap (λ b. b || false) (eq-eqb n l.0 (sym e)) in
    let rest : without (n ∷ []) live ≡ live = all_stay live (λ m a. let above : l.0 < m.0 = all_among (λ x. l.0 < x) (numbers_in live) m.0 up.0 (among_map (λ (x : Numbered). x.0) live m a) in not_named (n ∷ []) m.0 (λ x b same. one_is x m.0 b same above)) in
    ap (λ b. length (cond (not b) (l ∷ without (n ∷ []) live) (without (n ∷ []) live)) + 1) here
    ∙ ap (λ (ls : List Numbered). length ls + 1) rest
    ∙ omega arith
  where
    one_is : (x m : ℕ) → Among (n ∷ []) x → x ≡ m → l.0 < m → ⊥
    one_is x m (inl same) is above = omega (arith, same, is, above, e)
    one_is x m (inr a) is above = a

    all_stay : (ls : List Numbered) → ((m : Numbered) → Among ls m → names (n ∷ []) m.0 ≡ false) → without (n ∷ []) ls ≡ ls
    all_stay [] none = refl
    all_stay (m ∷ ls) none =
        ap (λ b. cond (not b) (m ∷ without (n ∷ []) ls) (without (n ∷ []) ls)) (none m (inl refl))
        ∙ ap (λ (k : List Numbered). m ∷ k) (all_stay ls (λ x a. none x (inr a)))
one_fewer (l ∷ live) n up (inr a) =
    let above : l.0 < n = all_among (λ x. l.0 < x) (numbers_in live) n up.0 a in
    let other : names (n ∷ []) l.0 ≡ false = not_named (n ∷ []) l.0 (λ x b same. one_is x b same above) in
    ap (λ b. length (cond (not b) (l ∷ without (n ∷ []) live) (without (n ∷ []) live)) + 1) other
    ∙ (let later = one_fewer live n up.1 a in omega (arith, later))
  where
    one_is : (x : ℕ) → Among (n ∷ []) x → x ≡ l.0 → l.0 < n → ⊥
    one_is x (inl same) is above = omega (arith, same, is, above)
    one_is x (inr b) is above = b

-- a number of the records
counted_has : (n : ℕ) (es : List EntryData) (m : ℕ) → n ≤ m → m < n + length es → Among (numbers_in (enumerate_from n es)) m
counted_has n [] m low high = absurd (omega (arith, low, high))
counted_has n (e ∷ es) m low high = elim (cases_lt n m) [
  | inl below ↦ inr (counted_has (n + 1) es m (omega (arith, below)) (omega (arith, high)))
  | inr same ↦ inl (omega (arith, low, same))
]

-- it is that of a live one where it isn't named
pub live_has : (ns : List ℕ) (es : List EntryData) (m : ℕ) → m < length es → ((n : ℕ) → Among ns n → n ≡ m → ⊥) → Among (numbers_in (live_of ns es)) m
live_has ns es m lt none =
    let from = among_mapped (λ (x : Numbered). x.0) (enumerate_from 0 es) m (counted_has 0 es m (omega arith) (omega (arith, lt))) in
    subst (λ k. Among (numbers_in (live_of ns es)) k) from.2
    (among_map (λ (x : Numbered). x.0) (live_of ns es) from.0
    (among_filter (λ (e : Numbered). not (names ns e.0)) (enumerate_from 0 es) from.0 from.1 (ap not (not_named ns from.0.0 (λ n a same. none n a (same ∙ from.2))))))

first_last : (ns : List ℕ) (n : ℕ) (es : List EntryData) → live_of (n ∷ ns) es ≡ without (n ∷ []) (live_of ns es)
first_last ns n es =
    same_filter (λ (e : Numbered). not (names (n ∷ ns) e.0)) (λ (e : Numbered). not (names ns e.0 || names (n ∷ []) e.0)) (enumerate_from 0 es) (λ e a. ap not (flips (n == e.0) (names ns e.0)))
    ∙ two_filters (λ (e : Numbered). names ns e.0) (λ (e : Numbered). names (n ∷ []) e.0) (enumerate_from 0 es)
  where
    flips : (a b : Bool) → (a || b) ≡ (b || (a || false))
    flips true true = refl
    flips true false = refl
    flips false true = refl
    flips false false = refl

pub all_left : (live : List Numbered) → without [] live ≡ live
all_left [] = refl
all_left (l ∷ live) = ap (λ (k : List Numbered). l ∷ k) (all_left live)

count_live : (ns : List ℕ) (es : List EntryData) → AllByRecursion (λ n. n < length es) ns → IsDistinct nat_eq ns → length (live_of ns es) + length ns ≡ length es
unfolding IsDistinct
count_live [] es below differ = let same = ap (λ (ls : List Numbered). length ls) (all_left (enumerate_from 0 es)) ∙ length-enumerate_from 0 es in omega (arith, same)
count_live (n ∷ ns) es below differ =
    let there : Among (numbers_in (live_of ns es)) n = live_has ns es n below.0 (λ m a same. eqb-false n m (all_among (λ y. nat_eq n y ≡ false) ns m differ.0 a) (sym same)) in
    let fewer = one_fewer (live_of ns es) n (live_rises ns es) there in
    let later = count_live ns es below.1 differ.1 in
    let same : length (live_of (n ∷ ns) es) ≡ length (without (n ∷ []) (live_of ns es)) = ap (λ (ls : List Numbered). length ls) (first_last ns n es) in
    omega (arith, fewer, later, same)

pub counts_live : CountsLive
counts_live upto p data_bytes delta_bytes live loads =
    let l = (loaded upto p data_bytes delta_bytes live loads).2 in
    let count = count_live l.numbers l.entries (subst (λ k. AllByRecursion (λ n. n < k) l.numbers) (sym l.counted) (recursion_from_All (λ n. n < p.records) l.numbers l.numbers_are.each)) l.numbers_are.distinct in
    let same : length live ≡ length (live_of l.numbers l.entries) = ap (λ (ls : List Numbered). length ls) l.is in
    omega (arith, count, same, l.counted, l.numbers_counted)

pub has_both : HasBoth
has_both left right = omega (arith, length-append (entries_alone left) (entries_alone right), length-map left (λ (l : Numbered). l.1), length-map right (λ (l : Numbered). l.1))

pub few_enough : MergeIsFewEnough
few_enough upto p q left right are few =
    let here = counts_live upto p are.left_data are.left_delta left are.left_loads in
    let there = counts_live upto q are.right_data are.right_delta right are.right_loads in
    omega (arith, few, here, there)

pub loads_merged : LoadsMerged
loads_merged upto f p left right late_left late_right data_bytes delta_bytes known entries numbers = (Ok (f, merged left right), record { known = known; has = entries }, (Ok _, numbers, refl))
