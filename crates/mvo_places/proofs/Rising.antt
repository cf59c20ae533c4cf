-- The numbers of live records rise.
use Rattle.std.proofs.Common.{◌≡◌, inl, inr, ℕ, ◌+◌, ◌<◌, ◌≤◌, Bool, true, false, cond, List, [], ◌∷◌, length, Result, Ok, Err, refl, sym, ap, subst, ◌∙◌, arith}
use Rattle.std.specs.Prelude.{filter, not, ◌==◌, ◌||◌, All}
use Rattle.std.specs.List.{enumerate_from, list_any, AllByRecursion}
use Rattle.std.proofs.lemmas.List.Elements.{All-from_recursion}
use Rattle.mvo_pair.specs.Data.{EntryData, Numbered, live_of}
use Rattle.mvo_pair.specs.Answers.{FoundOrUnread, Goes, After}
use Rattle.mvo_pair.specs.Loading.{DataSays, DeltaSays}
use Rattle.mvo_pair.specs.declared.pair.Pair.{Pair}
use Rattle.mvo_format.specs.declared.format.Format.{Format}
use Rattle.mvo_types.specs.declared.refusal.Refusal.{Refusal}
use Rattle.mvo_places.specs.Places.{Rise}
use Rattle.mvo_places.specs.Laws.{LiveNumbersRise}
use Rattle.mvo_places.proofs.Members.{Among, among_map, among_mapped, among_filtered, all_among, all_from, Rises, increasing_from}
use Rattle.mvo_places.proofs.Held.{numbers_in}

abbrev pub names : List ℕ → ℕ → Bool
names ns n = list_any (λ x. x == n) ns

-- ---- live records have rising numbers of records

below_all : (n : ℕ) (es : List EntryData) (m : ℕ) → n ≤ m → AllByRecursion (λ x. n ≤ x) (numbers_in (enumerate_from m es))
below_all n [] m up = tt
below_all n (e ∷ es) m up = (up, below_all n es (m + 1) (omega (arith, up)))

pub counted_rise : (n : ℕ) (es : List EntryData) → Rises (numbers_in (enumerate_from n es))
counted_rise n [] = tt
counted_rise n (e ∷ es) = (
  all_from (λ x. n < x) (numbers_in (enumerate_from (n + 1) es)) (λ x a. let above : n + 1 ≤ x = all_among (λ y. n + 1 ≤ y) (numbers_in (enumerate_from (n + 1) es)) x (below_all (n + 1) es (n + 1) (omega arith)) a in omega (arith, above)),
  counted_rise (n + 1) es,
)

pub rise_filter : (p : Numbered → Bool) (live : List Numbered) → Rises (numbers_in live) → Rises (numbers_in (filter p live))
rise_filter p [] up = tt
rise_filter p (l ∷ live) up = go (p l) (rise_filter p live up.1)
  where
    go : (b : Bool) → Rises (numbers_in (filter p live)) → Rises (numbers_in (cond b (l ∷ filter p live) (filter p live)))
    go true later = (
      all_from (λ y. l.0 < y) (numbers_in (filter p live)) (λ y a.
          let m = among_mapped (λ (x : Numbered). x.0) (filter p live) y a in
          subst (λ n. l.0 < n) m.2 (all_among (λ n. l.0 < n) (numbers_in live) m.0.0 up.0 (among_map (λ (x : Numbered). x.0) live m.0 (among_filtered p live m.0 m.1).0))),
      later,
    )
    go false later = later

pub live_rises : (ns : List ℕ) (es : List EntryData) → Rises (numbers_in (live_of ns es))
live_rises ns es = rise_filter (λ e. not (names ns e.0)) (enumerate_from 0 es) (counted_rise 0 es)

pub counted_below : (n : ℕ) (es : List EntryData) → AllByRecursion (λ x. x < n + length es) (numbers_in (enumerate_from n es))
counted_below n [] = tt
counted_below n (e ∷ es) = (
  omega arith,
  all_from (λ x. x < n + length (e ∷ es)) (numbers_in (enumerate_from (n + 1) es)) (λ x a.
      let few : x < n + 1 + length es = all_among (λ y. y < n + 1 + length es) (numbers_in (enumerate_from (n + 1) es)) x (counted_below (n + 1) es) a in omega (arith, few)),
)

-- ---- filters

pub two_filters : {X : Type 0} (p q : X → Bool) (xs : List X) → filter (λ x. not (p x || q x)) xs ≡ filter (λ x. not (q x)) (filter (λ x. not (p x)) xs)
two_filters p q [] = refl
two_filters p q (x ∷ xs) = go (p x) (q x) refl (two_filters p q xs)
  where
    go : (a b : Bool) → q x ≡ b → filter (λ y. not (p y || q y)) xs ≡ filter (λ y. not (q y)) (filter (λ y. not (p y)) xs)
        → cond (not (a || b)) (x ∷ filter (λ y. not (p y || q y)) xs) (filter (λ y. not (p y || q y)) xs) ≡ filter (λ y. not (q y)) (cond (not a) (x ∷ filter (λ y. not (p y)) xs) (filter (λ y. not (p y)) xs))
    go true b is later = later
    go false true is later = later ∙ sym (ap (λ t. cond (not t) (x ∷ filter (λ y. not (q y)) (filter (λ y. not (p y)) xs)) (filter (λ y. not (q y)) (filter (λ y. not (p y)) xs))) is)
    go false false is later = ap (λ (l : List _). x ∷ l) later ∙ sym (ap (λ t. cond (not t) (x ∷ filter (λ y. not (q y)) (filter (λ y. not (p y)) xs)) (filter (λ y. not (q y)) (filter (λ y. not (p y)) xs))) is)

pub same_filter : {X : Type 0} (p q : X → Bool) (xs : List X) → ((x : X) → Among xs x → p x ≡ q x) → filter p xs ≡ filter q xs
same_filter p q [] same = refl
same_filter p q (x ∷ xs) same =
    ap (λ b. cond b (x ∷ filter p xs) (filter p xs)) (same x (inl refl))
    ∙ ap (λ (l : List _). cond (q x) (x ∷ l) l) (same_filter p q xs (λ y a. same y (inr a)))

-- ---- the live records of a pair

abbrev HasRising : Pair → List Numbered → Type 0
HasRising p live = Rise live × All (λ l. l.0 < p.records) live

live_kept : (p : Pair) (ns : List ℕ) (es : List EntryData) → length es ≡ p.records → HasRising p (live_of ns es)
live_kept p ns es counted = (
  increasing_from (numbers_in (live_of ns es)) (live_rises ns es),
  All-from_recursion (λ l. l.0 < p.records) (live_of ns es) (all_from (λ l. l.0 < p.records) (live_of ns es) (λ l a.
      let f = among_filtered (λ e. not (names ns e.0)) (enumerate_from 0 es) l a in
      let few : l.0 < 0 + length es = all_among (λ x. x < 0 + length es) (numbers_in (enumerate_from 0 es)) l.0 (counted_below 0 es) (among_map (λ (x : Numbered). x.0) (enumerate_from 0 es) l f.0) in
      omega (arith, few, counted))),
)

module _ (upto : ℕ) (p : Pair) (delta : List ℕ) (live : List Numbered) where
  abbrev Rest : List EntryData → List ℕ → Result (List Numbered) Refusal → Type 0
  Rest es ns out = out ≡ Ok (live_of ns es)

  of_numbers : (es : List EntryData) → length es ≡ p.records → (found : FoundOrUnread (List ℕ)) → Goes p.delta_file (Rest es) found (Ok live) → HasRising p live
  of_numbers es counted (Ok ns) is = let same : live ≡ live_of ns es = cc in subst (HasRising p) (sym same) (live_kept p ns es counted)
  of_numbers es counted (Err e) is = absurd cc

  of_entries : (data_bytes : List ℕ) (found : FoundOrUnread (Format × List EntryData)) → DataSays upto p data_bytes found → Goes p.data_file (λ d. After p.delta_file (DeltaSays d.0 p delta) (Rest d.1)) found (Ok live) → HasRising p live
  of_entries data_bytes (Ok d) says goes = of_numbers d.1 says.has.counted goes.0 goes.2
  of_entries data_bytes (Err e) says goes = absurd cc

pub live_numbers_rise : LiveNumbersRise
live_numbers_rise upto p data_bytes delta live loads = of_entries upto p delta live data_bytes loads.0 loads.1 loads.2
