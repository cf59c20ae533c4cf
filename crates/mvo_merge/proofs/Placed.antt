-- The places after a merge.
use Rattle.std.proofs.Common.{◌≡◌, inl, inr, ℕ, Bool, true, false, List, [], ◌∷◌, ◌++◌, length, Option, None, Some, refl, sym, ap, subst, ◌∙◌, arith, append_assoc, length-append}
use Rattle.std.specs.Prelude.{map, not, nat_eq, ◌==◌, ◌||◌}
use Rattle.std.specs.List.{AllByRecursion, IsDistinct, enumerate_from}
use Rattle.std.specs.FinMap.{find, from_entries, get, get-from_entries, same_map}
use Rattle.std.proofs.lemmas.Bool.{eqb-true, eq-eqb, false_from_ne_true, or_cases, not-true}
use Rattle.std.proofs.lemmas.List.Concat.{flat_map-append, flat_map-cons}
use Rattle.mvo_types.specs.declared.row.RowKey.{RowKey}
use Rattle.mvo_types.specs.Keys.{key_cmp}
use Rattle.mvo_types.proofs.Maps.{keys_total, exact_keys}
use Rattle.mvo_pair.specs.Data.{Numbered, key_of, keys_of, AreApart}
use Rattle.mvo_pair.specs.declared.pair.Pair.{Pair}
use Rattle.mvo_places.specs.declared.record_place.RecordPlace.{RecordPlace}
use Rattle.mvo_places.specs.Places.{PlaceMap, places_in, record_places, file_of, Rise, ArePlaces, with_live}
use Rattle.mvo_places.proofs.Members.{Among, among_map, among_mapped, among_filter, among_filtered, among_append, among_left, among_right, all_among, increasing_from}
use Rattle.mvo_places.proofs.Keys.{eq, eq_self}
use Rattle.mvo_places.proofs.Held.{Entries, first_of, keys-places_in, keys-places_of, found_among, Zips, zips_once, at_live, live_at}
use Rattle.mvo_places.proofs.Rising.{same_filter, live_rises}
use Rattle.mvo_places.proofs.Finding.{or_else, find_append}
use Rattle.mvo_places.proofs.Putting.{found_none, there_found, get-with}
use Rattle.mvo_merge.specs.Merged.{live_numbers, merged, renumbering_of, of_left, of_right, without, live_after, under}
use Rattle.mvo_merge.specs.Moved.{lies_in, lying_in, moved}
use Rattle.mvo_merge.specs.Laws.{AreLate, PlacesMerged}
use Rattle.mvo_merge.proofs.Lists.{names, differs_left, differs_right, differs_across}
use Rattle.mvo_merge.proofs.Live.{late, merged_numbered, named_left, named_right}
use Rattle.mvo_merge.proofs.Kept.{live_keys, keys_of_two, stays_apart}

no_more : (l : Numbered) (live : List Numbered) (m : Numbered) → AllByRecursion (λ k. eq (key_of l) k ≡ false) (map key_of live) → Among live m → key_of l ≡ key_of m → ⊥
no_more l live m all a same =
    let apart : eq (key_of l) (key_of m) ≡ false = all_among (λ k. eq (key_of l) k ≡ false) (map key_of live) (key_of m) all (among_map key_of live m a) in
    let both : true ≡ false = sym (ap (eq (key_of l)) (sym same) ∙ eq_self (key_of l)) ∙ apart in
    absurd cc

-- the live record of one key
one_keyed : (live : List Numbered) (a b : Numbered) → IsDistinct eq (map key_of live) → Among live a → Among live b → key_of a ≡ key_of b → a ≡ b
unfolding IsDistinct
one_keyed [] a b differ here there same = absurd here
one_keyed (l ∷ live) a b differ (inl e) (inl f) same = sym e ∙ f
one_keyed (l ∷ live) a b differ (inl e) (inr f) same = absurd (no_more l live b differ.0 f (ap key_of e ∙ same))
one_keyed (l ∷ live) a b differ (inr e) (inl f) same = absurd (no_more l live a differ.0 e (ap key_of f ∙ sym same))
one_keyed (l ∷ live) a b differ (inr e) (inr f) same = one_keyed live a b differ.1 e f same

-- ---- pairs in two parts

places-split : (before : List Pair) (lives : List (List Numbered)) (ps : List Pair) (ls : List (List Numbered)) → length before ≡ length lives → record_places (before ++ ps) (lives ++ ls) ≡ record_places before lives ++ record_places ps ls
places-split [] [] ps ls same = refl
places-split [] (m ∷ lives) ps ls same = absurd (omega (arith, same))
places-split (q ∷ before) [] ps ls same = absurd (omega (arith, same))
places-split (q ∷ before) (m ∷ lives) ps ls same =
    ap (λ (es : Entries). places_in q.data_file m ++ es) (places-split before lives ps ls (omega (arith, same)))
    ∙ sym (append_assoc (places_in q.data_file m) (record_places before lives) (record_places ps ls))

zips_behind : (before : List Pair) (lives : List (List Numbered)) (ps : List Pair) (ls : List (List Numbered)) (p : Pair) (live : List Numbered) → length before ≡ length lives → Zips ps ls p live → Zips (before ++ ps) (lives ++ ls) p live
zips_behind [] [] ps ls p live same zips = zips
zips_behind [] (m ∷ lives) ps ls p live same zips = absurd (omega (arith, same))
zips_behind (q ∷ before) [] ps ls p live same zips = absurd (omega (arith, same))
zips_behind (q ∷ before) (m ∷ lives) ps ls p live same zips = inr (zips_behind before lives ps ls p live (omega (arith, same)) zips)

all_parts : {X : Type 0} (P : X → Type 0) (xs ys : List X) → AllByRecursion P (xs ++ ys) → AllByRecursion P xs × AllByRecursion P ys
all_parts P [] ys all = (tt, all)
all_parts P (x ∷ xs) ys all = let m = all_parts P xs ys all.1 in ((all.0, m.0), m.1)

all_whole : {X : Type 0} (P : X → Type 0) (xs ys : List X) → AllByRecursion P xs → AllByRecursion P ys → AllByRecursion P (xs ++ ys)
all_whole P [] ys all also = also
all_whole P (x ∷ xs) ys all also = (all.0, all_whole P xs ys all.1 also)

module _ (before behind : List Pair) (p q r : Pair) (lives more : List (List Numbered)) (left right : List Numbered) (late_left late_right : List ℕ) (at : PlaceMap) (long : length before ≡ length lives) (are_left : AreLate left late_left) (are_right : AreLate right late_right) (apart : AreApart (left ∷ right ∷ [])) (are : ArePlaces (before ++ p ∷ q ∷ behind) (lives ++ without late_left left ∷ without late_right right ∷ more) at) where
  abbrev ps : List Pair
  ps = before ++ p ∷ q ∷ behind

  abbrev ls : List (List Numbered)
  ls = lives ++ without late_left left ∷ without late_right right ∷ more

  abbrev here : List Numbered
  here = without late_left left

  abbrev there : List Numbered
  there = without late_right right

  abbrev live : List Numbered
  live = live_after left right late_left late_right

  abbrev lies : RowKey → Bool
  lies k = lies_in p.data_file q.data_file (get at k)

  two_keys : IsDistinct eq (map key_of left ++ map key_of right)
  two_keys = subst (λ (ks : List RowKey). IsDistinct eq ks) (keys_of_two left right) apart

  zips_left : Zips ps ls p here
  zips_left = zips_behind before lives (p ∷ q ∷ behind) (here ∷ there ∷ more) p here long (inl (refl, refl))

  zips_right : Zips ps ls q there
  zips_right = zips_behind before lives (p ∷ q ∷ behind) (here ∷ there ∷ more) q there long (inr (inl (refl, refl)))

  -- ---- what lies in the two files

  lies_left : (l : Numbered) → Among here l → lies (key_of l) ≡ true
  lies_left l a = ap (lies_in p.data_file q.data_file) (at_live ps ls at are p here l zips_left a) ∙ ap (λ b. b || (p.data_file == q.data_file)) (eq-eqb p.data_file p.data_file refl)

  lies_right : (l : Numbered) → Among there l → lies (key_of l) ≡ true
  lies_right l a = ap (lies_in p.data_file q.data_file) (at_live ps ls at are q there l zips_right a) ∙ ap (λ b. (q.data_file == p.data_file) || b) (eq-eqb q.data_file q.data_file refl) ∙ or_true (q.data_file == p.data_file)
    where
      or_true : (b : Bool) → (b || true) ≡ true
      or_true true = refl
      or_true false = refl

  lies_not : (k : RowKey) → ((l : Numbered) → Among here l → key_of l ≡ k → ⊥) → ((l : Numbered) → Among there l → key_of l ≡ k → ⊥) → lies k ≡ false
  lies_not k no_left no_right = go (get at k) refl
    where
      of_place : (v : RecordPlace) → get at k ≡ Some v → (v.data_file == p.data_file) || (v.data_file == q.data_file) ≡ true → ⊥
      of_place v is some =
          let x = live_at ps ls at are k v is in
          let file : x.pair.data_file ≡ v.data_file = ap (λ (y : RecordPlace). y.data_file) x.place in
          elim (or_cases (v.data_file == p.data_file) (v.data_file == q.data_file) some) [
            | inl first ↦
                let same : x.live ≡ here = zips_once ps ls x.pair p x.live here are.files x.zips zips_left (file ∙ eqb-true v.data_file p.data_file first) in
                no_left x.one (subst (λ (ms : List Numbered). Among ms x.one) same x.among) x.key
            | inr second ↦
                let same : x.live ≡ there = zips_once ps ls x.pair q x.live there are.files x.zips zips_right (file ∙ eqb-true v.data_file q.data_file second) in
                no_right x.one (subst (λ (ms : List Numbered). Among ms x.one) same x.among) x.key
          ]

      go : (o : Option RecordPlace) → get at k ≡ o → lies_in p.data_file q.data_file o ≡ false
      go None is = refl
      go (Some v) is = false_from_ne_true ((v.data_file == p.data_file) || (v.data_file == q.data_file)) (λ some. of_place v is some)

  across : (l m : Numbered) → Among left l → Among right m → key_of l ≡ key_of m → ⊥
  across l m a b same =
      let differ : eq (key_of l) (key_of m) ≡ false = differs_across eq (map key_of left) (map key_of right) (key_of l) (key_of m) two_keys (among_map key_of left l a) (among_map key_of right m b) in
      let both : true ≡ false = sym (ap (eq (key_of l)) (sym same) ∙ eq_self (key_of l)) ∙ differ in
      absurd cc

  of_live : (gone : List ℕ) (ms : List Numbered) (l : Numbered) → Among (without gone ms) l → Among ms l × (names gone l.0 ≡ false)
  of_live gone ms l a = let m = among_filtered (λ (x : Numbered). not (names gone x.0)) ms l a in (m.0, not-true (names gone l.0) m.1)

  stays : (gone : List ℕ) (ms : List Numbered) (l : Numbered) → Among ms l → names gone l.0 ≡ false → Among (without gone ms) l
  stays gone ms l a none = among_filter (λ (x : Numbered). not (names gone x.0)) ms l a (ap not none)

  never_again : (gone : List ℕ) (ms : List Numbered) (l m : Numbered) → IsDistinct eq (map key_of ms) → Among ms l → names gone l.0 ≡ true → Among (without gone ms) m → key_of m ≡ key_of l → ⊥
  never_again gone ms l m differ a named b same =
      let x = of_live gone ms m b in
      let one : m ≡ l = one_keyed ms m l differ x.0 a same in
      let both : true ≡ false = sym named ∙ ap (λ (y : Numbered). names gone y.0) (sym one) ∙ x.1 in
      absurd cc

  moved_left : (l : Numbered) → Among left l → (b : Bool) → names late_left l.0 ≡ b → lies (key_of l) ≡ not b
  moved_left l a false none = lies_left l (stays late_left left l a none)
  moved_left l a true named = lies_not (key_of l)
      (λ m b same. never_again late_left left l m (differs_left eq (map key_of left) (map key_of right) two_keys) a named b same)
      (λ m b same. across l m a (of_live late_right right m b).0 (sym same))

  moved_right : (l : Numbered) → Among right l → (b : Bool) → names late_right l.0 ≡ b → lies (key_of l) ≡ not b
  moved_right l a false none = lies_right l (stays late_right right l a none)
  moved_right l a true named = lies_not (key_of l)
      (λ m b same. across m l (of_live late_left left m b).0 a same)
      (λ m b same. never_again late_right right l m (differs_right eq (map key_of left) (map key_of right) two_keys) a named b same)

  abbrev gone : List ℕ
  gone = late left right late_left late_right are_left are_right

  lies_where : (x : Numbered) → Among (enumerate_from 0 (merged left right)) x → lies (key_of x) ≡ not (names gone x.0)
  lies_where x a =
      let new = renumbering_of left right in
      let a' : Among (map (under (of_left new)) left ++ map (under (of_right new)) right) x = subst (λ (ms : List Numbered). Among ms x) (merged_numbered left right are_left.rise are_right.rise) a in
      elim (among_append (map (under (of_left new)) left) (map (under (of_right new)) right) x a') [
        | inl first ↦
            let m = among_mapped (under (of_left new)) left x first in
            subst (λ (y : Numbered). lies (key_of y) ≡ not (names gone y.0)) m.2
            (moved_left m.0 m.1 (names late_left m.0.0) refl ∙ ap not (sym (named_left left right late_left late_right are_left are_right m.0.0 (among_map (λ (y : Numbered). y.0) left m.0 m.1))))
        | inr second ↦
            let m = among_mapped (under (of_right new)) right x second in
            subst (λ (y : Numbered). lies (key_of y) ≡ not (names gone y.0)) m.2
            (moved_right m.0 m.1 (names late_right m.0.0) refl ∙ ap not (sym (named_right left right late_left late_right are_left are_right m.0.0 (among_map (λ (y : Numbered). y.0) right m.0 m.1))))
      ]

  -- what is moved is what is live in the merged pair
  lying_live : lying_in p.data_file q.data_file at (merged left right) ≡ live
  lying_live = same_filter (λ (x : Numbered). lies (key_of x)) (λ (x : Numbered). not (names gone x.0)) (enumerate_from 0 (merged left right)) lies_where

  -- ---- looking up

  abbrev first : Entries
  first = record_places before lives

  abbrev last : Entries
  last = record_places behind more

  abbrev middle : Entries
  middle = places_in r.data_file live

  still_apart : AreApart (lives ++ live ∷ more)
  still_apart = stays_apart left right late_left late_right lives more are_left are_right are.apart

  parted : IsDistinct eq (keys_of lives ++ (map key_of live ++ keys_of more))
  parted = subst (λ (ks : List RowKey). IsDistinct eq ks) (flat_map-append (λ ms. map key_of ms) lives (live ∷ more) ∙ ap (λ (ks : List RowKey). keys_of lives ++ ks) (flat_map-cons (λ ms. map key_of ms) live more)) still_apart

  own : IsDistinct eq (map key_of live)
  own = differs_left eq (map key_of live) (keys_of more) (differs_right eq (keys_of lives) (map key_of live ++ keys_of more) parted)

  keys_live : map key_of live ≡ map key_of here ++ map key_of there
  keys_live = live_keys left right late_left late_right are_left are_right

  key_live : (k : RowKey) (v : RecordPlace) → Among middle (k, v) → Among (map key_of live) k
  key_live k v a = subst (λ (ks : List RowKey). Among ks k) (keys-places_in r.data_file live) (among_map first_of middle (k, v) a)

  -- none of the earlier pairs has its key
  not_before : (k : RowKey) → Among (map key_of live) k → find key_cmp k first ≡ None
  not_before k a = found_none first k (λ v b.
      let there' : Among (keys_of lives) k = subst (λ (ks : List RowKey). Among ks k) (keys-places_of before lives long) (among_map first_of first (k, v) b) in
      let differ : eq k k ≡ false = differs_across eq (keys_of lives) (map key_of live ++ keys_of more) k k parted there' (among_left (map key_of live) (keys_of more) k a) in
      let both : true ≡ false = sym (eq_self k) ∙ differ in
      absurd cc)

  missing : (file : ℕ) (ms : List Numbered) (k : RowKey) → ((j : RowKey) → Among (map key_of ms) j → Among (map key_of live) j) → find key_cmp k middle ≡ None → find key_cmp k (places_in file ms) ≡ None
  missing file ms k within none = found_none (places_in file ms) k (λ v a.
      let key : Among (map key_of ms) k = subst (λ (ks : List RowKey). Among ks k) (keys-places_in file ms) (among_map first_of (places_in file ms) (k, v) a) in
      there_found middle k (subst (λ (ks : List RowKey). Among ks k) (sym (keys-places_in r.data_file live)) (within k key)) none)

  abbrev of_two : RowKey → Option RecordPlace
  of_two k = or_else (find key_cmp k first) (or_else (find key_cmp k (places_in p.data_file here)) (or_else (find key_cmp k (places_in q.data_file there)) (find key_cmp k last)))

  before_is : (k : RowKey) → get at k ≡ of_two k
  before_is k =
      ap (λ (m : PlaceMap). get m k) are.are
      ∙ get-from_entries keys_total (record_places ps ls) k
      ∙ ap (λ (es : Entries). find key_cmp k es) (places-split before lives (p ∷ q ∷ behind) (here ∷ there ∷ more) long)
      ∙ find_append first (places_in p.data_file here ++ (places_in q.data_file there ++ last)) k
      ∙ ap (λ (o : Option RecordPlace). or_else (find key_cmp k first) o) (find_append (places_in p.data_file here) (places_in q.data_file there ++ last) k
      ∙ ap (λ (o : Option RecordPlace). or_else (find key_cmp k (places_in p.data_file here)) o) (find_append (places_in q.data_file there) last k))

  after_is : (k : RowKey) → find key_cmp k (record_places (before ++ r ∷ behind) (lives ++ live ∷ more)) ≡ or_else (find key_cmp k first) (or_else (find key_cmp k middle) (find key_cmp k last))
  after_is k =
      ap (λ (es : Entries). find key_cmp k es) (places-split before lives (r ∷ behind) (live ∷ more) long)
      ∙ find_append first (middle ++ last) k
      ∙ ap (λ (o : Option RecordPlace). or_else (find key_cmp k first) o) (find_append middle last k)

  settled : (k : RowKey) (o : Option RecordPlace) → find key_cmp k middle ≡ o → or_else o (of_two k) ≡ or_else (find key_cmp k first) (or_else o (find key_cmp k last))
  settled k (Some v) is = ap (λ (x : Option RecordPlace). or_else x (Some v)) (sym (not_before k (key_live k v (found_among middle k v is))))
  settled k None is =
      ap (λ (x : Option RecordPlace). or_else (find key_cmp k first) (or_else x (or_else (find key_cmp k (places_in q.data_file there)) (find key_cmp k last)))) (missing p.data_file here k (λ j a. subst (λ (ks : List RowKey). Among ks j) (sym keys_live) (among_left (map key_of here) (map key_of there) j a)) is)
      ∙ ap (λ (x : Option RecordPlace). or_else (find key_cmp k first) (or_else x (find key_cmp k last))) (missing q.data_file there k (λ j a. subst (λ (ks : List RowKey). Among ks j) (sym keys_live) (among_right (map key_of here) (map key_of there) j a)) is)

  places_are : moved p.data_file q.data_file r.data_file (merged left right) at ≡ from_entries {R = key_cmp} (record_places (before ++ r ∷ behind) (lives ++ live ∷ more))
  places_are =
      ap (λ (ms : List Numbered). with_live r.data_file ms at) lying_live
      ∙ same_map keys_total exact_keys (with_live r.data_file live at) (from_entries (record_places (before ++ r ∷ behind) (lives ++ live ∷ more))) (λ k.
      get-with r.data_file live at k own
      ∙ ap (λ (o : Option RecordPlace). or_else (find key_cmp k middle) o) (before_is k)
      ∙ settled k (find key_cmp k middle) refl
      ∙ sym (after_is k)
      ∙ sym (get-from_entries keys_total (record_places (before ++ r ∷ behind) (lives ++ live ∷ more)) k))

  pub placed : IsDistinct nat_eq (map file_of (before ++ r ∷ behind)) → ArePlaces (before ++ r ∷ behind) (lives ++ live ∷ more) (moved p.data_file q.data_file r.data_file (merged left right) at)
  placed files =
      let rise = all_parts Rise lives (here ∷ there ∷ more) are.rise in
      record {
        each = omega (arith, are.each, long, length-append before (p ∷ q ∷ behind), length-append lives (here ∷ there ∷ more), length-append before (r ∷ behind), length-append lives (live ∷ more));
        files = files;
        apart = still_apart;
        rise = all_whole Rise lives (live ∷ more) rise.0 (increasing_from (live_numbers live) (live_rises gone (merged left right)), rise.1.1.1);
        are = places_are;
      }

pub places_merged : PlacesMerged
places_merged before behind p q r lives more left right late_left late_right at long are_left are_right apart files are = placed before behind p q r lives more left right late_left late_right at long are_left are_right apart are files
