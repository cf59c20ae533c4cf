-- Whom a scan is told of place by place are those whom the rules name at the keys that it meets.
use Rattle.std.proofs.Common.{◌≡◌, ℕ, ◌+◌, ◌<◌, ◌≤◌, suc, Bool, true, false, cond, ◌||◌, List, [], ◌∷◌, map, filter, Option, None, Some, refl, sym, ap, ◌∙◌, subst, arith}
use Rattle.std.specs.Prelude.{◌==◌, ◌&&◌, not, nat_lt, nat_le, slice_index_or}
use Rattle.std.specs.List.{AllByRecursion, list_any}
use Rattle.std.specs.FinMap as fin
use Rattle.std.specs.Ordering.{eq_by_cmp}
use Rattle.std.specs.Cmp.{eq_by_cmp_equiv}
use Rattle.std.proofs.lemmas.Bool.{eq-eqb, eqb-true, false≢true, and_parts, and_from, leb-true, le-leb, lt-ltb, ltb-true}
use Rattle.std.proofs.lemmas.Map.Views.{tells_apart}
use Rattle.mvo_types.specs.declared.ids.TxId.{TxId}
use Rattle.mvo_types.specs.declared.row.RowKey.{RowKey}
use Rattle.mvo_types.specs.Keys.{key_cmp}
use Rattle.mvo_types.proofs.Maps.{exact_keys, keys_total}
use Rattle.mvo_types.specs.declared.entry.Entry.TheVariants.{Range}
use Rattle.mvo_theory.specs.Ranges.{shows, is_row_of}
use Rattle.mvo_theory.specs.Sound.{how_many}
use Rattle.mvo_theory.specs.State.{State}
use Rattle.mvo_theory.proofs.Each.{each_weaker}
use Rattle.mvo_theory.proofs.Footprints.{or_left, or_right}
use Rattle.mvo_word.specs.declared.held.Held.{Held}
use Rattle.mvo_word.specs.declared.held.Held.TheVariants.{At, By, Infinity}
use Rattle.mvo_txn.specs.declared.state.TxState.{TxState}
use Rattle.mvo_txn.specs.declared.state.TxState.TheVariants.{Active, Preparing, Committed, Aborted}
use Rattle.mvo_chain.specs.declared.version.Version.{Version}
use Rattle.mvo_chain.specs.Slots.{version_at}
use Rattle.mvo_hash.specs.Lists.{number, numbers_of}
use Rattle.mvo_range.specs.declared.sort_place.SortPlace.{SortPlace}
use Rattle.mvo_range.specs.Place.{place_cmp, is_between}
use Rattle.mvo_range.proofs.Places.{exact_places, places_total}
use Rattle.mvo_validate.specs.Entries.{key_at}
use Rattle.mvo_deps.specs.Data.{is_id_among}
use Rattle.mvo_deps.proofs.Lists.{one}
use Rattle.mvo_visible.specs.Words.{States, seen_in, seen_of}
use Rattle.mvo_versions.specs.Data.{VersionsData}
use Rattle.mvo_representation.specs.Dependencies.{named_at, is_met_at, AreNamedByScan}
use Rattle.mvo_representation.specs.Indexes.{all_versions, is_of_key, HasNumbers, version_place, is_at_place, HasPlaces}
use Rattle.mvo_representation.specs.Table.{phase_as, phases_of}
use Rattle.mvo_representation.specs.Words as words
use Rattle.mvo_representation.specs.Words.{end_in, ends_of, stamp_in, meets}
use Rattle.mvo_representation.proofs.RangeCheckedBy.{iff, any_slot, in_slot, none_number, some_there}
use Rattle.mvo_representation.proofs.ShownTo.{one_is}
use Rattle.mvo_core.specs.Scanning.{is_change_below, is_change_up_to, is_met_by, is_met_at_place, shown_at, places_within, AreNamedAt}

-- ---- what others see in a word is its stamp
below_is : (states : States) (w : Held) (b : ℕ) → is_change_below (seen_of states w) b ≡ words.is_below b (stamp_in (ends_of (phases_of states)) w)
below_is states (At s) b = refl
below_is states (By t) b = go (states t.0)
  where
    go : (o : Option TxState) → is_change_below (seen_in t o) b ≡ words.is_below b (end_in (phase_as o))
    go None = refl
    go (Some Active) = refl
    go (Some (Preparing e)) = refl
    go (Some (Committed e)) = refl
    go (Some Aborted) = refl
below_is states Infinity b = refl

at_most_is : (a b : ℕ) → nat_le a b ≡ nat_lt a (suc b)
at_most_is a b =
    iff (nat_le a b) (nat_lt a (suc b)) (λ e. let l : a ≤ b = leb-true a b e in lt-ltb a (suc b) (omega (arith, l)))
    (λ e. let l : a < suc b = ltb-true a (suc b) e in le-leb a b (omega (arith, l)))

up_to_is : (states : States) (w : Held) (b : ℕ) → is_change_up_to (seen_of states w) b ≡ words.is_up_to b (stamp_in (ends_of (phases_of states)) w)
up_to_is states (At s) b = at_most_is s.0 b
up_to_is states (By t) b = go (states t.0)
  where
    go : (o : Option TxState) → is_change_up_to (seen_in t o) b ≡ words.is_up_to b (end_in (phase_as o))
    go None = refl
    go (Some Active) = refl
    go (Some (Preparing e)) = at_most_is e.0 b
    go (Some (Committed e)) = at_most_is e.0 b
    go (Some Aborted) = refl
up_to_is states Infinity b = refl

not_is : (b : Bool) → not b ≡ cond b false true
not_is true = refl
not_is false = refl

-- ---- numbers
-- one of the numbers that passes
record FoundAt (f : ℕ → Bool) (ns : List ℕ) : Type 0 where
  pub n : ℕ
  pub listed : 1 ≤ how_many (λ i. i == n) ns
  pub passes : f n ≡ true

found_at : (f : ℕ → Bool) (ns : List ℕ) → list_any f ns ≡ true → FoundAt f ns
found_at f [] e = absurd (false≢true e)
found_at f (n ∷ ns) e = go (f n) refl e (λ r. found_at f ns r)
  where
    go : (b : Bool) → f n ≡ b → (b || list_any f ns) ≡ true → (list_any f ns ≡ true → FoundAt f ns) → FoundAt f (n ∷ ns)
    go true q r again = record { n = n; listed = (let c : one (n == n) ≡ 1 = ap one (eq-eqb n n refl) in omega (arith, c)); passes = q }
    go false q r again = let w = again r in record { n = w.n; listed = (let l = w.listed in omega (arith, l)); passes = w.passes }

any_number : (f : ℕ → Bool) (n : ℕ) (ns : List ℕ) → f n ≡ true → 1 ≤ how_many (λ i. i == n) ns → list_any f ns ≡ true
any_number f n [] q le = absurd (omega (arith, le))
any_number f n (m ∷ ns) q le = go (m == n) refl le (λ l. any_number f n ns q l)
  where
    go : (b : Bool) → (m == n) ≡ b → 1 ≤ cond b 1 0 + how_many (λ i. i == n) ns → (1 ≤ how_many (λ i. i == n) ns → list_any f ns ≡ true) → (f m || list_any f ns) ≡ true
    go true i l again = or_left (f m) (list_any f ns) (ap f (eqb-true m n i) ∙ q)
    go false i l again = or_right (f m) (list_any f ns) (again (omega (arith, l)))

-- ---- places of the range
-- what is so at each place of the range is so at one that is there
pub each_entry : (P : SortPlace → Type 0) (table lo hi : ℕ) (p : SortPlace) (n : ℕ) (es : List (SortPlace × ℕ)) → is_between table lo hi (p, 0) ≡ true → fin.find place_cmp p es ≡ Some n
    → AllByRecursion P (map (λ e. e.0) (filter (is_between table lo hi) es)) → P p
each_entry P table lo hi p n [] inside e h = absurd (none_number n e)
each_entry P table lo hi p n (x ∷ xs) inside e h = go (eq_by_cmp place_cmp p x.0) refl e (is_between table lo hi x) refl h (λ r g. each_entry P table lo hi p n xs inside r g)
  where
    go : (b : Bool) → eq_by_cmp place_cmp p x.0 ≡ b → cond b (Some x.1) (fin.find place_cmp p xs) ≡ Some n
        → (i : Bool) → is_between table lo hi x ≡ i → AllByRecursion P (map (λ e. e.0) (cond i (x ∷ filter (is_between table lo hi) xs) (filter (is_between table lo hi) xs)))
        → (fin.find place_cmp p xs ≡ Some n → AllByRecursion P (map (λ e. e.0) (filter (is_between table lo hi) xs)) → P p) → P p
    go true q r true i g again = subst P (sym (tells_apart exact_places p x.0 q)) g.0
    go true q r false i g again = absurd (false≢true (sym i ∙ ap (λ (y : SortPlace). is_between table lo hi (y, 0)) (sym (tells_apart exact_places p x.0 q)) ∙ inside))
    go false q r true i g again = again r g.1
    go false q r false i g again = again r g

-- ---- the keys that a scan meets
module _ (s : State) (states : States) (vs : VersionsData) (t table lo hi : ℕ) (ns : HasNumbers vs.slots vs.lists) (ps : HasPlaces (all_versions vs.slots) vs.places) where
  abbrev counts : Version → Bool
  counts v = words.is_below t (stamp_in (ends_of (phases_of states)) v.begin) && cond (words.is_up_to s.start (stamp_in (ends_of (phases_of states)) v.end)) false true

  abbrev counts_here : Version → Bool
  counts_here v = is_change_below (seen_of states v.begin) t && not (is_change_up_to (seen_of states v.end) s.start)

  abbrev within : Version → Bool
  within v = (v.row.key.table == table) && (nat_le lo v.row.sort && nat_le v.row.sort hi)

  counts_is : (v : Version) → counts_here v ≡ counts v
  counts_is v =
      ap (λ b. b && not (is_change_up_to (seen_of states v.end) s.start)) (below_is states v.begin t)
      ∙ ap (λ b. words.is_below t (stamp_in (ends_of (phases_of states)) v.begin) && b) (not_is (is_change_up_to (seen_of states v.end) s.start) ∙ ap (λ b. cond b false true) (up_to_is states v.end s.start))

  -- the key of a place of the range at which it meets a version
  key_met : (p : SortPlace) → is_between table lo hi (p, 0) ≡ true → is_met_at_place states vs s.start t p ≡ true → is_met_at states s vs.slots t table lo hi (key_at p) ≡ true
  key_met p inside e = go (version_at vs.slots (number w.n)) refl w.passes
    where
      w : FoundAt (λ n. is_met_by states s.start t p.sort (version_at vs.slots (number n))) (numbers_of vs.lists (key_at p))
      w = found_at (λ n. is_met_by states s.start t p.sort (version_at vs.slots (number n))) (numbers_of vs.lists (key_at p)) e

      of_key : is_of_key (key_at p) (slice_index_or vs.slots w.n None) ≡ true
      of_key = one_is (is_of_key (key_at p) (slice_index_or vs.slots w.n None)) (let m = ns.at (key_at p) w.n in let l = w.listed in omega (arith, m, l))

      go : (o : Option Version) → version_at vs.slots (number w.n) ≡ o → is_met_by states s.start t p.sort o ≡ true → is_met_at states s vs.slots t table lo hi (key_at p) ≡ true
      go None q r = absurd (false≢true r)
      go (Some v) q r =
          let a = and_parts (v.row.sort == p.sort) (counts_here v) r in
          let b = and_parts (p.table == table) (nat_le lo p.sort && nat_le p.sort hi) inside in
          let sort : v.row.sort ≡ p.sort = eqb-true v.row.sort p.sort a.0 in
          let is : eq_by_cmp key_cmp (key_at p) v.row.key ≡ true = ap (is_of_key (key_at p)) (sym q) ∙ of_key in
          let key : key_at p ≡ v.row.key = tells_apart exact_keys (key_at p) v.row.key is in
          any_slot (meets (ends_of (phases_of states)) s.start t (is_row_of (shows (Range table lo hi)) (key_at p))) vs.slots w.n v q
          (and_from (counts v) (eq_by_cmp key_cmp (key_at p) v.row.key && within v) (sym (counts_is v) ∙ a.1)
          (and_from (eq_by_cmp key_cmp (key_at p) v.row.key) (within v) is
          (and_from (v.row.key.table == table) (nat_le lo v.row.sort && nat_le v.row.sort hi) (ap (λ (k : RowKey). k.table == table) (sym key) ∙ b.0)
          (ap (λ (n : ℕ). nat_le lo n && nat_le n hi) sort ∙ b.1))))

  -- a place of the range at which it meets a version of the key
  record IsMetThere (q : RowKey) : Type 0 where
    pub place : SortPlace
    pub of : key_at place ≡ q
    pub inside : is_between table lo hi (place, 0) ≡ true
    pub held : ℕ
    pub there : fin.find place_cmp place (fin.entries vs.places) ≡ Some held
    pub met : is_met_at_place states vs s.start t place ≡ true

  met_there : (q : RowKey) → is_met_at states s vs.slots t table lo hi q ≡ true → IsMetThere q
  met_there q e =
      let w = in_slot (meets (ends_of (phases_of states)) s.start t (is_row_of (shows (Range table lo hi)) q)) vs.slots e in
      let v = w.version in
      let a = and_parts (counts v) (eq_by_cmp key_cmp q v.row.key && within v) w.passes in
      let b = and_parts (eq_by_cmp key_cmp q v.row.key) (within v) a.1 in
      let held = some_there (fin.get vs.places (version_place v)) (ps.at (version_place v) ∙ any_slot (is_at_place (version_place v)) vs.slots w.number v w.at ((eq_by_cmp_equiv places_total).refl (version_place v))) in
      let listed : is_of_key v.row.key (slice_index_or vs.slots w.number None) ≡ true = ap (is_of_key v.row.key) w.at ∙ (eq_by_cmp_equiv keys_total).refl v.row.key in
      let m : how_many (λ i. i == w.number) (numbers_of vs.lists v.row.key) ≡ 1 = ns.at v.row.key w.number ∙ ap one listed in
      record {
        place = version_place v;
        of = sym (tells_apart exact_keys q v.row.key b.0);
        inside = b.1;
        held = held.0;
        there = sym (fin.get-entries vs.places (version_place v)) ∙ held.1;
        met = any_number (λ n. is_met_by states s.start t v.row.sort (version_at vs.slots (number n))) w.number (numbers_of vs.lists v.row.key)
            (ap (is_met_by states s.start t v.row.sort) w.at ∙ and_from (v.row.sort == v.row.sort) (counts_here v) (eq-eqb v.row.sort v.row.sort refl) (counts_is v ∙ a.0)) (omega (arith, m));
      }

  pub named_by_scan : (on : List TxId) → AreNamedAt states vs s.start t table lo hi (places_within vs.places table lo hi) on → AreNamedByScan s states vs.slots vs.lists t table lo hi on
  named_by_scan on h = record {
    each = λ q id e f.
        let w = met_there q e in
        each_entry (λ p. (other : TxId) → is_met_at_place states vs s.start t p ≡ true → (shown_at states vs t p).depends_on ≡ Some other → is_id_among other on ≡ true)
        table lo hi w.place w.held (fin.entries vs.places) w.inside w.there h.each id w.met (ap (named_at states vs.slots vs.lists t) w.of ∙ f);
    only = each_weaker
        (λ id. (p : SortPlace) × (is_between table lo hi (p, 0) ≡ true) × (is_met_at_place states vs s.start t p ≡ true) × ((shown_at states vs t p).depends_on ≡ Some id))
        (λ id. (q : RowKey) × (is_met_at states s vs.slots t table lo hi q ≡ true) × (named_at states vs.slots vs.lists t q ≡ Some id))
        (λ id x. (key_at x.0, key_met x.0 x.1 x.2, x.3)) on h.only;
  }
