-- The numbers in each data file, of the places of the written keys.
use Rattle.std.proofs.Common.{◌≡◌, inl, inr, ℕ, ◌/◌, ◌%◌, ◌<◌, Bool, true, false, cond, List, [], ◌∷◌, ◌++◌, length, Option, None, Some, refl, sym, ap, subst, ◌∙◌, arith}
use Rattle.std.specs.Prelude.{map, filter, nat_eq, ◌==◌}
use Rattle.std.specs.Prelude.{reverse}
use Rattle.std.specs.List.{AllByRecursion, IsDistinct, filter_map, cons_option}
use Rattle.std.specs.Option.{option_map}
use Rattle.std.specs.FinMap.{get}
use Rattle.std.specs.List.Sorted.{IsPermutation, IsNonDecreasing}
use Rattle.std.proofs.lemmas.Bool.{eqb-true, eq-eqb, ne_eqb}
use Rattle.std.proofs.lemmas.List.Concat.{flat_map-cons}
use Rattle.std.proofs.lemmas.List.Sorted.{Contains-permutation, IsPermutation-sym, IsPermutation-trans, IsPermutation-reverse}
use Rattle.std.proofs.lemmas.Map.Keys.{IsDistinct-IsPermutation, IsStrictlyIncreasing-from_distinct}
use Rattle.std.proofs.lemmas.Bool.Decides.{nat_tests}
use Rattle.mvo_types.specs.declared.row.RowKey.{RowKey}
use Rattle.mvo_types.specs.declared.limits.TheConstants.{MAX_PAIR_RECORDS}
use Rattle.mvo_group.specs.Data.{GroupData}
use Rattle.mvo_pair.specs.Data.{Numbered, key_of}
use Rattle.mvo_pair.specs.declared.pair.Pair.{Pair}
use Rattle.mvo_places.specs.declared.record_place.RecordPlace.{RecordPlace}
use Rattle.mvo_ckpt.specs.Writes.{Stamped, is_write_at, writes_of, is_written, last_writes}
use Rattle.mvo_places.specs.Places.{PlaceMap, place, number_of, AreSmall, Rise, ArePlaces}
use Rattle.mvo_ckpt.specs.Checkpoint.{DeltaData}
use Rattle.mvo_ckpt.specs.Ended.{ended, delta_by, deltas_of}
use Rattle.mvo_ckpt.specs.Walk.{part_of, deltas_by}
use Rattle.mvo_places.proofs.Members.{Among, among_from, contains_from, among_map, among_mapped, among_filter, among_filtered, among_filter_map, among_filter_mapped, among_any, any_among, all_among, all_from, Rises, rises_from, rises_filter, same_rising}
use Rattle.mvo_places.proofs.Keys.{eq, key_same, eq_self}
use Rattle.mvo_ckpt.proofs.Lasts.{key_at, written_last, last_distinct}
use Rattle.mvo_ckpt.proofs.AllMet.{number_at}
use Rattle.mvo_places.proofs.Held.{Zips, zips_once, zips_all, numbers_in, at_live, live_at, number_once}

-- ---- numbers of one file

rises_within : (file : ℕ) (ns : List ℕ) → Rises ns → AllByRecursion (λ n. n / MAX_PAIR_RECORDS ≡ file) ns → Rises (map (λ n. n % MAX_PAIR_RECORDS) ns)
rises_within file [] up all = tt
rises_within file (n ∷ ns) up all = (
  all_from (λ y. n % MAX_PAIR_RECORDS < y) (map (λ x. x % MAX_PAIR_RECORDS) ns) (λ y a.
      let m = among_mapped (λ x. x % MAX_PAIR_RECORDS) ns y a in
      let above : n < m.0 = all_among (λ x. n < x) ns m.0 up.0 m.1 in
      let same : m.0 / MAX_PAIR_RECORDS ≡ file = all_among (λ x. x / MAX_PAIR_RECORDS ≡ file) ns m.0 all.1 m.1 in
      let here : n / MAX_PAIR_RECORDS ≡ file = all.0 in
      let is : m.0 % MAX_PAIR_RECORDS ≡ y = m.2 in
      below n m.0 file y above here same is),
  rises_within file ns up.1 all.1,
)
  where
    below : (n m file y : ℕ) → n < m → n / MAX_PAIR_RECORDS ≡ file → m / MAX_PAIR_RECORDS ≡ file → m % MAX_PAIR_RECORDS ≡ y → n % MAX_PAIR_RECORDS < y
    below n m file y above here same is = omega arith

pub part_rises : (file : ℕ) (ns : List ℕ) → Rises ns → Rises (part_of file ns)
part_rises file ns up =
    rises_within file (filter (λ n. n / MAX_PAIR_RECORDS == file) ns) (rises_filter (λ n. n / MAX_PAIR_RECORDS == file) ns up)
    (all_from (λ n. n / MAX_PAIR_RECORDS ≡ file) (filter (λ n. n / MAX_PAIR_RECORDS == file) ns) (λ n a. eqb-true (n / MAX_PAIR_RECORDS) file (among_filtered (λ x. x / MAX_PAIR_RECORDS == file) ns n a).1))

abbrev stamped_written : List GroupData → Numbered → Bool
stamped_written gs l = is_written (writes_of gs) (key_of l)

-- these are the numbers of the places of the written keys
pub record HasWritten (at : PlaceMap) (ws : List Stamped) (ns : List ℕ) : Type 0 where
  pub rise : Rises ns
  pub has : (k : RowKey) (v : RecordPlace) → is_written ws k ≡ true → get at k ≡ Some v → Among ns (number_of v)
  pub only : (n : ℕ) → Among ns n → (k : RowKey) × (v : RecordPlace) × (is_written ws k ≡ true) × (get at k ≡ Some v) × (number_of v ≡ n)

split : (v : RecordPlace) (n file : ℕ) → v.number < MAX_PAIR_RECORDS → number_of v ≡ n → n / MAX_PAIR_RECORDS ≡ file → (v.data_file ≡ file) × (v.number ≡ n % MAX_PAIR_RECORDS)
split v n file small is of = (omega arith, omega arith)

packed : (file number : ℕ) → number < MAX_PAIR_RECORDS → ((number_of (place file number)) / MAX_PAIR_RECORDS ≡ file) × ((number_of (place file number)) % MAX_PAIR_RECORDS ≡ number)
packed file number small = (omega arith, omega arith)

module _ (gs : List GroupData) (ps : List Pair) (lives : List (List Numbered)) (at : PlaceMap) (are : ArePlaces ps lives at) (small : AreSmall at) (ns : List ℕ) (written : HasWritten at (writes_of gs) ns) where
  ended_rises : (live : List Numbered) → Rises (numbers_in live) → Rises (ended gs live)
  ended_rises [] up = tt
  ended_rises (l ∷ live) up = go (stamped_written gs l) (ended_rises live up.1)
    where
      go : (b : Bool) → Rises (ended gs live) → Rises (numbers_in (cond b (l ∷ filter (stamped_written gs) live) (filter (stamped_written gs) live)))
      go true later = (
        all_from (λ y. l.0 < y) (ended gs live) (λ y a.
            let m = among_mapped (λ (x : Numbered). x.0) (filter (stamped_written gs) live) y a in
            let there : Among live m.0 = (among_filtered (stamped_written gs) live m.0 m.1).0 in
            subst (λ n. l.0 < n) m.2 (all_among (λ n. l.0 < n) (numbers_in live) m.0.0 up.0 (among_map (λ (x : Numbered). x.0) live m.0 there))),
        later,
      )
      go false later = later

  part_ended : (p : Pair) (live : List Numbered) → Zips ps lives p live → part_of p.data_file ns ≡ ended gs live
  part_ended p live zips =
      same_rising (part_of p.data_file ns) (ended gs live) (part_rises p.data_file ns written.rise)
      (ended_rises live (rises_from (numbers_in live) (zips_all Rise ps lives p live are.rise zips))) to back
    where
      in_file : ℕ → Bool
      in_file n = n / MAX_PAIR_RECORDS == p.data_file

      to : (m : ℕ) → Among (part_of p.data_file ns) m → Among (ended gs live) m
      to m a =
          let x = among_mapped (λ n. n % MAX_PAIR_RECORDS) (filter (λ n. n / MAX_PAIR_RECORDS == p.data_file) ns) m a in
          let y = among_filtered (λ n. n / MAX_PAIR_RECORDS == p.data_file) ns x.0 x.1 in
          let w = written.only x.0 y.0 in
          let s = split w.1 x.0 p.data_file (small.each w.0 w.1 w.3) w.4 (eqb-true (x.0 / MAX_PAIR_RECORDS) p.data_file y.1) in
          let lies = live_at ps lives at are w.0 w.1 w.3 in
          let file : lies.pair.data_file ≡ p.data_file = ap (λ (v : RecordPlace). v.data_file) lies.place ∙ s.0 in
          let same : lies.live ≡ live = zips_once ps lives lies.pair p lies.live live are.files lies.zips zips file in
          let here : Among live lies.one = subst (λ (l : List Numbered). Among l lies.one) same lies.among in
          let is : stamped_written gs lies.one ≡ true = ap (is_written (writes_of gs)) lies.key ∙ w.2 in
          let number : lies.one.0 ≡ m = ap (λ (v : RecordPlace). v.number) lies.place ∙ s.1 ∙ x.2 in
          subst (λ n. Among (ended gs live) n) number (among_map (λ (l : Numbered). l.0) (filter (stamped_written gs) live) lies.one (among_filter (stamped_written gs) live lies.one here is))

      back : (m : ℕ) → Among (ended gs live) m → Among (part_of p.data_file ns) m
      back m a =
          let x = among_mapped (λ (l : Numbered). l.0) (filter (stamped_written gs) live) m a in
          let y = among_filtered (stamped_written gs) live x.0 x.1 in
          let found = at_live ps lives at are p live x.0 zips y.0 in
          let few : x.0.0 < MAX_PAIR_RECORDS = small.each (key_of x.0) (place p.data_file x.0.0) found in
          let s = packed p.data_file x.0.0 few in
          let there : Among ns (number_of (place p.data_file x.0.0)) = written.has (key_of x.0) (place p.data_file x.0.0) y.1 found in
          subst (λ n. Among (part_of p.data_file ns) n) (s.1 ∙ x.2)
          (among_map (λ n. n % MAX_PAIR_RECORDS) (filter (λ n. n / MAX_PAIR_RECORDS == p.data_file) ns) (number_of (place p.data_file x.0.0))
          (among_filter (λ n. n / MAX_PAIR_RECORDS == p.data_file) ns (number_of (place p.data_file x.0.0)) there (eq-eqb ((number_of (place p.data_file x.0.0)) / MAX_PAIR_RECORDS) p.data_file s.0)))

  each_delta : (qs : List Pair) (ms : List (List Numbered)) → length qs ≡ length ms → ((p : Pair) (live : List Numbered) → Zips qs ms p live → part_of p.data_file ns ≡ ended gs live) → deltas_by qs ns ≡ deltas_of gs qs ms
  each_delta [] ms same each = refl
  each_delta (p ∷ qs) [] same each = absurd (omega (arith, same))
  each_delta (p ∷ qs) (live ∷ ms) same each =
      flat_map-cons (λ (x : Pair). delta_by x.data_file (part_of x.data_file ns)) p qs
      ∙ ap (λ (l : List ℕ). delta_by p.data_file l ++ deltas_by qs ns) (each p live (inl (refl, refl)))
      ∙ ap (λ (l : List DeltaData). delta_by p.data_file (ended gs live) ++ l) (each_delta qs ms (omega (arith, same)) (λ q m zips. each q m (inr zips)))

  pub deltas_are : deltas_by ps ns ≡ deltas_of gs ps lives
  deltas_are = each_delta ps lives are.each part_ended

-- ---- the numbers that a walk has met, sorted

module _ (ws : List Stamped) (ps : List Pair) (lives : List (List Numbered)) (at : PlaceMap) (are : ArePlaces ps lives at) (small : AreSmall at) where
  abbrev met : List ℕ
  met = filter_map (number_at at) (last_writes ws)

  some_number : (k : RowKey) (o : Option RecordPlace) (n : ℕ) → get at k ≡ o → option_map number_of o ≡ Some n → (v : RecordPlace) × (get at k ≡ Some v) × (number_of v ≡ n)
  some_number k None n is e = absurd cc
  some_number k (Some v) n is e = (v, is, (let same : number_of v ≡ n = cc in same))

  at_number : (k : RowKey) (n : ℕ) → option_map number_of (get at k) ≡ Some n → (v : RecordPlace) × (get at k ≡ Some v) × (number_of v ≡ n)
  at_number k n e = some_number k (get at k) n refl e

  others_differ : (w : Stamped) (us : List Stamped) (n : ℕ) → AllByRecursion (λ y. eq (key_at w) y ≡ false) (map key_at us) → number_at at w ≡ Some n → AllByRecursion (λ y. nat_eq n y ≡ false) (filter_map (number_at at) us)
  others_differ w us n apart is = all_from (λ y. nat_eq n y ≡ false) (filter_map (number_at at) us) (λ y a.
      let m = among_filter_mapped (number_at at) us y a in
      let here = at_number (key_at w) n is in
      let there = at_number (key_at m.0) y m.2 in
      ne_eqb n y (λ same.
      let one : key_at w ≡ key_at m.0 = number_once ps lives at are small (key_at w) (key_at m.0) here.0 there.0 here.1 there.1 (here.2 ∙ same ∙ sym there.2) in
      let differ : eq (key_at w) (key_at m.0) ≡ false = all_among (λ k. eq (key_at w) k ≡ false) (map key_at us) (key_at m.0) apart (among_map key_at us m.0 m.1) in
      let equal : eq (key_at w) (key_at m.0) ≡ true = ap (λ k. eq (key_at w) k) (sym one) ∙ eq_self (key_at w) in
      let both : true ≡ false = sym equal ∙ differ in
      cc))

  numbers_differ : (us : List Stamped) → IsDistinct eq (map key_at us) → IsDistinct nat_eq (filter_map (number_at at) us)
  unfolding IsDistinct
  numbers_differ [] apart = tt
  numbers_differ (w ∷ us) apart = go (number_at at w) refl (numbers_differ us apart.1)
    where
      go : (o : Option ℕ) → number_at at w ≡ o → IsDistinct nat_eq (filter_map (number_at at) us) → IsDistinct nat_eq (cons_option o (filter_map (number_at at) us))
      go None is later = later
      go (Some n) is later = (others_differ w us n apart.0 is, later)

  flips : (x y : ℕ) → nat_eq x y ≡ nat_eq y x
  flips x y = grind (arith, nat_tests)

  pub sorted_written : (found ns : List ℕ) → found ≡ reverse met → IsPermutation found ns → IsNonDecreasing ns → HasWritten at ws ns
  sorted_written found ns is moved up =
      let turned : IsPermutation met found = subst (λ (l : List ℕ). IsPermutation met l) (sym is) (IsPermutation-reverse met) in
      let perm : IsPermutation met ns = IsPermutation-trans met found ns turned moved in
      let apart : IsDistinct nat_eq ns = IsDistinct-IsPermutation nat_eq flips met ns perm (numbers_differ (last_writes ws) (last_distinct ws)) in
      record {
        rise = rises_from ns (IsStrictlyIncreasing-from_distinct ns up apart);
        has = λ k v is_in found_at.
            let any = any_among (is_write_at k) (last_writes ws) (written_last ws k ∙ is_in) in
            let same : k ≡ key_at any.0 = key_same k (key_at any.0) any.2 in
            let number : number_at at any.0 ≡ Some (number_of v) = ap (λ x. option_map number_of (get at x)) (sym same) ∙ ap (option_map number_of) found_at in
            among_from ns (number_of v) (Contains-permutation met ns (number_of v) perm (contains_from met (number_of v) (among_filter_map (number_at at) (last_writes ws) any.0 (number_of v) any.1 number)));
        only = λ n a.
            let m = among_filter_mapped (number_at at) (last_writes ws) n (among_from met n (Contains-permutation ns met n (IsPermutation-sym met ns perm) (contains_from ns n a))) in
            let v = at_number (key_at m.0) n m.2 in
            (key_at m.0, v.0, sym (written_last ws (key_at m.0)) ∙ among_any (is_write_at (key_at m.0)) (last_writes ws) m.0 m.1 (eq_self (key_at m.0)), v.1, v.2);
      }
