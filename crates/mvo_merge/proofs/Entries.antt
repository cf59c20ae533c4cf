-- The records of two neighbours keep the rules of a data file.
use Rattle.std.proofs.Common.{◌≡◌, inl, inr, ⊎_elim, ℕ, ◌+◌, ◌<◌, Bool, true, false, cond, List, [], ◌∷◌, ◌++◌, refl, sym, ap, subst, arith}
use Rattle.std.specs.Prelude.{filter, not}
use Rattle.std.specs.List.{enumerate_from}
use Rattle.std.specs.List.Sorted.{IsStrictlySortedBy}
use Rattle.std.specs.Ordering.{nat_cmp, ordering_then}
use Rattle.std.specs.declared.cmp.Ordering.{Ordering}
use Rattle.std.specs.declared.cmp.Ordering.TheVariants.{Less}
use Rattle.std.proofs.lemmas.Bool.Decides.{nat_tests}
use Rattle.std.proofs.lemmas.List.Elements.{All-append, All-contains, All-from_recursion}
use Rattle.mvo_types.specs.Keys.{key_cmp}
use Rattle.mvo_format.specs.declared.format.Format.{Format}
use Rattle.mvo_pair.specs.Data.{EntryData, Numbered, entry_cmp, live_of}
use Rattle.mvo_pair.specs.Files.{IsEntry}
use Rattle.mvo_pair.specs.declared.pair.Pair.{Pair}
use Rattle.mvo_places.proofs.Members.{Among, among_append, among_mapped, among_filtered, all_among, all_from, contains_from}
use Rattle.mvo_merge.specs.Merged.{entries_alone}
use Rattle.mvo_merge.specs.Laws.{MergeGivesEntries}
use Rattle.mvo_merge.proofs.Lists.{names}
use Rattle.mvo_merge.proofs.Moves.{among_numbered}
use Rattle.mvo_merge.proofs.Loaded.{Loaded, loaded_later}

-- a live record is one of the records
entry_among : (ns : List ℕ) (es : List EntryData) (e : EntryData) → Among (entries_alone (live_of ns es)) e → Among es e
entry_among ns es e a =
    let l = among_mapped (λ (x : Numbered). x.1) (live_of ns es) e a in
    subst (λ x. Among es x) l.2 (among_numbered 0 es l.0 (among_filtered (λ (x : Numbered). not (names ns x.0)) (enumerate_from 0 es) l.0 l.1).0)

-- some of the records rise as all of them do
sorted_some : (ns : List ℕ) (n : ℕ) (es : List EntryData) → IsStrictlySortedBy entry_cmp es → IsStrictlySortedBy entry_cmp (entries_alone (filter (λ (l : Numbered). not (names ns l.0)) (enumerate_from n es)))
unfolding IsStrictlySortedBy
sorted_some ns n [] up = tt
sorted_some ns n (e ∷ es) up = go (not (names ns n)) (sorted_some ns (n + 1) es up.1)
  where
    rest : List Numbered
    rest = filter (λ (l : Numbered). not (names ns l.0)) (enumerate_from (n + 1) es)

    go : (b : Bool) → IsStrictlySortedBy entry_cmp (entries_alone rest) → IsStrictlySortedBy entry_cmp (entries_alone (cond b ((n, e) ∷ rest) rest))
    go true later = (
      all_from (λ x. entry_cmp e x ≡ Less) (entries_alone rest) (λ x a.
          let l = among_mapped (λ (y : Numbered). y.1) rest x a in
          let there = among_numbered (n + 1) es l.0 (among_filtered (λ (y : Numbered). not (names ns y.0)) (enumerate_from (n + 1) es) l.0 l.1).0 in
          all_among (λ y. entry_cmp e y ≡ Less) es x up.0 (subst (λ y. Among es y) l.2 there)),
      later,
    )
    go false later = later

pub sorted_append : {K : Type 0} (c : K → K → Ordering) (xs ys : List K) → IsStrictlySortedBy c xs → IsStrictlySortedBy c ys → ((x y : K) → Among xs x → Among ys y → c x y ≡ Less) → IsStrictlySortedBy c (xs ++ ys)
unfolding IsStrictlySortedBy
sorted_append c [] ys up also below = also
sorted_append {K} c (x ∷ xs) ys up also below = (
  all_from (λ y. c x y ≡ Less) (xs ++ ys) (λ y a. ⊎_elim (λ (l : Among xs y). all_among (λ z. c x z ≡ Less) xs y up.0 l) (λ (r : Among ys y). below x y (inl refl) r) (among_append xs ys y a)),
  sorted_append c xs ys up.1 also (λ z y a b. below z y (inr a) b),
)

earlier : (a b : EntryData) → a.begin < b.begin → entry_cmp a b ≡ Less
earlier a b lt = ap (λ o. ordering_then o (key_cmp a.row.key b.row.key)) (less a.begin b.begin lt)
  where
    less : (m n : ℕ) → m < n → nat_cmp m n ≡ Less
    less m n below = grind (arith, nat_tests)

-- the records of a pair that is loaded
module _ (f : Format) (p : Pair) (live : List Numbered) (l : Loaded f p live) where
  pub each_entry : (e : EntryData) → Among (entries_alone live) e → IsEntry f p.lo.0 p.hi.0 e
  each_entry e a =
      All-contains (IsEntry f p.lo.0 p.hi.0) l.entries e l.are.each
      (contains_from l.entries e (entry_among l.numbers l.entries e (subst (λ (ls : List Numbered). Among (entries_alone ls) e) l.is a)))

  pub entries_rise : IsStrictlySortedBy entry_cmp (entries_alone live)
  entries_rise = subst (λ (ls : List Numbered). IsStrictlySortedBy entry_cmp (entries_alone ls)) (sym l.is) (sorted_some l.numbers 0 l.entries l.are.rise)

pub gives_entries : MergeGivesEntries
gives_entries upto f p q left right known le are =
    let here = loaded_later upto f known le p are.left_data are.left_delta left are.left_loads in
    let there = loaded_later upto f known le q are.right_data are.right_delta right are.right_loads in
    record {
      each = All-append (IsEntry f p.lo.0 q.hi.0) (entries_alone left) (entries_alone right)
          (All-from_recursion (IsEntry f p.lo.0 q.hi.0) (entries_alone left) (all_from (IsEntry f p.lo.0 q.hi.0) (entries_alone left) (λ e a.
          let is = each_entry f p left here e a in
          record { above = is.above; upto = omega (arith, is.upto, are.next, are.goes_on); table = is.table; size = is.size })))
          (All-from_recursion (IsEntry f p.lo.0 q.hi.0) (entries_alone right) (all_from (IsEntry f p.lo.0 q.hi.0) (entries_alone right) (λ e a.
          let is = each_entry f q right there e a in
          record { above = omega (arith, is.above, are.next, are.rises); upto = is.upto; table = is.table; size = is.size })));
      rise = sorted_append entry_cmp (entries_alone left) (entries_alone right) (entries_rise f p left here) (entries_rise f q right there) (λ x y a b.
          let is = each_entry f p left here x a in
          let also = each_entry f q right there y b in
          earlier x y (omega (arith, is.upto, are.next, also.above)));
    }
