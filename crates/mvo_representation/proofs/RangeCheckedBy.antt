-- The check of a range by the rules: the versions at its places are those with a row in it.
use Rattle.std.proofs.Common.{◌≡◌, ℕ, ◌+◌, ◌<◌, ◌≤◌, suc, zero, Bool, true, false, cond, ◌||◌, List, [], ◌∷◌, map, Option, None, Some, refl, sym, ap, ◌∙◌, subst, arith}
use Rattle.std.specs.Prelude.{◌==◌, ◌&&◌, nat_le, is_some, slice_index_or, ⊤}
use Rattle.std.specs.List.{AllByRecursion, list_any, filter, flat_map}
use Rattle.std.specs.FinMap as fin
use Rattle.std.specs.Ordering.{eq_by_cmp}
use Rattle.std.specs.Cmp.{eq_by_cmp_equiv}
use Rattle.std.proofs.lemmas.Bool.{eq-eqb, eqb-true, false≢true, and_parts, and_from}
use Rattle.std.proofs.lemmas.List.Folds.{list_any-append}
use Rattle.std.proofs.lemmas.Map.Views.{tells_apart}
use Rattle.mvo_types.specs.declared.row.RowKey.{RowKey}
use Rattle.mvo_types.specs.Keys.{key_cmp}
use Rattle.mvo_types.proofs.Maps.{exact_keys, keys_total}
use Rattle.mvo_theory.specs.Ranges.{shows}
use Rattle.mvo_theory.specs.State.{State}
use Rattle.mvo_theory.specs.Causes.{change_of}
use Rattle.mvo_theory.proofs.Each.{each_always, each_both}
use Rattle.mvo_theory.proofs.Footprints.{or_left}
use Rattle.mvo_theory.specs.Sound.{IsSound, IsStarted, how_many}
use Rattle.mvo_chain.specs.declared.version.Version.{Version}
use Rattle.mvo_chain.specs.Slots.{Slots, version_at}
use Rattle.mvo_hash.specs.Lists.{Lists, number, numbers_of}
use Rattle.mvo_range.specs.declared.sort_place.SortPlace.{SortPlace}
use Rattle.mvo_range.specs.Place.{PlaceNumbers as Places, place_cmp, is_between}
use Rattle.mvo_range.proofs.Places.{exact_places, places_total}
use Rattle.mvo_visible.specs.Words.{States}
use Rattle.mvo_visible.specs.Versions.{NumberedVersion, and_version, versions_by, versions_at}
use Rattle.mvo_visible.specs.Changes.{changes_of}
use Rattle.mvo_types.specs.declared.entry.Entry.{Entry}
use Rattle.mvo_types.specs.declared.entry.Entry.TheVariants.{Key, Range}
use Rattle.mvo_validate.specs.Between.{stamp_between}
use Rattle.mvo_validate.specs.Entries.{has_sort, key_at, versions_of_place, versions_in}
use Rattle.mvo_representation.specs.Words.{ends_of, has_stamp, stamp_above, is_touched, touches}
use Rattle.mvo_representation.specs.Words.Touch.{PutOrEnded}
use Rattle.mvo_representation.specs.Versions.{AreVersionsOf}
use Rattle.mvo_representation.specs.Indexes.{all_versions, is_of_key, HasNumbers, version_place, is_at_place, HasPlaces}
use Rattle.mvo_representation.specs.Table.{phases_of}
use Rattle.mvo_representation.proofs.Between.{range_checked}
use Rattle.mvo_representation.proofs.Decided.{last_same, changes_at, greatest_change}
use Rattle.mvo_representation.proofs.ShownTo.{of_key, there}
use Rattle.mvo_representation.proofs.CheckedBy.{between_is, key_check_is}
use Rattle.mvo_representation.proofs.Slots.{none_version, some_version}

-- ---- lists and tests
any_filter : {X : Type 0} (f p : X → Bool) (xs : List X) → list_any f (filter p xs) ≡ list_any (λ x. p x && f x) xs
any_filter f p [] = refl
any_filter f p (x ∷ xs) = go (p x) (any_filter f p xs)
  where
    go : (b : Bool) → list_any f (filter p xs) ≡ list_any (λ y. p y && f y) xs → list_any f (cond b (x ∷ filter p xs) (filter p xs)) ≡ ((b && f x) || list_any (λ y. p y && f y) xs)
    go true r = ap (λ c. f x || c) r
    go false r = r

any_flat : {X Y : Type 0} (f : Y → Bool) (g : X → List Y) (xs : List X) → list_any f (flat_map g xs) ≡ list_any (λ x. list_any f (g x)) xs
any_flat f g [] = refl
any_flat f g (x ∷ xs) = list_any-append f (g x) (flat_map g xs) ∙ ap (λ c. list_any f (g x) || c) (any_flat f g xs)

-- one that passes
record Passing {X : Type 0} (P : X → Type 0) (f : X → Bool) : Type 0 where
  pub it : X
  pub is : P it
  pub passes : f it ≡ true

passing : {X : Type 0} (P : X → Type 0) (f : X → Bool) (xs : List X) → AllByRecursion P xs → list_any f xs ≡ true → Passing P f
passing P f [] h e = absurd (false≢true e)
passing P f (x ∷ xs) h e = go (f x) refl e (λ r. passing P f xs h.1 r)
  where
    go : (b : Bool) → f x ≡ b → (b || list_any f xs) ≡ true → (list_any f xs ≡ true → Passing P f) → Passing P f
    go true q r again = record { it = x; is = h.0; passes = q }
    go false q r again = again r

pub iff : (a b : Bool) → (a ≡ true → b ≡ true) → (b ≡ true → a ≡ true) → a ≡ b
iff true b f g = sym (f refl)
iff false true f g = g refl
iff false false f g = refl

or_true : (a : Bool) → (a || true) ≡ true
or_true true = refl
or_true false = refl

or_right : (a b : Bool) → b ≡ true → (a || b) ≡ true
or_right a true e = or_true a
or_right a false e = absurd (false≢true e)

-- ---- versions by number
pub any_slot : (f : Version → Bool) (slots : Slots) (n : ℕ) (v : Version) → slice_index_or slots n None ≡ Some v → f v ≡ true → list_any f (all_versions slots) ≡ true
any_slot f [] zero v e q = absurd (none_version v e)
any_slot f [] (suc n) v e q = absurd (none_version v e)
any_slot f (None ∷ ss) zero v e q = absurd (none_version v e)
any_slot f (Some w ∷ ss) zero v e q = or_left (f w) (list_any f (all_versions ss)) (ap f (some_version w v e) ∙ q)
any_slot f (None ∷ ss) (suc n) v e q = any_slot f ss n v e q
any_slot f (Some w ∷ ss) (suc n) v e q = or_right (f w) (list_any f (all_versions ss)) (any_slot f ss n v e q)

pub record InSlot (slots : Slots) (f : Version → Bool) : Type 0 where
  pub number : ℕ
  pub version : Version
  pub at : slice_index_or slots number None ≡ Some version
  pub passes : f version ≡ true

pub in_slot : (f : Version → Bool) (slots : Slots) → list_any f (all_versions slots) ≡ true → InSlot slots f
in_slot f [] e = absurd (false≢true e)
in_slot f (None ∷ ss) e = let w = in_slot f ss e in record { number = suc w.number; version = w.version; at = w.at; passes = w.passes }
in_slot f (Some v ∷ ss) e = go (f v) refl e (λ r. in_slot f ss r)
  where
    go : (b : Bool) → f v ≡ b → (b || list_any f (all_versions ss)) ≡ true → (list_any f (all_versions ss) ≡ true → InSlot ss f) → InSlot (Some v ∷ ss) f
    go true q r again = record { number = zero; version = v; at = refl; passes = q }
    go false q r again = let w = again r in record { number = suc w.number; version = w.version; at = w.at; passes = w.passes }

any_numbered : (f : NumberedVersion → Bool) (slots : Slots) (n : ℕ) (v : Version) (ns : List ℕ) → slice_index_or slots n None ≡ Some v → f (number n, v) ≡ true → 1 ≤ how_many (λ i. i == n) ns → list_any f (versions_by slots (map number ns)) ≡ true
any_numbered f slots n v [] e q le = absurd (omega (arith, le))
any_numbered f slots n v (m ∷ ns) e q le = go (m == n) refl le (λ l. any_numbered f slots n v ns e q l)
  where
    here : m ≡ n → list_any f (and_version (number m) (slice_index_or slots m None) (versions_by slots (map number ns))) ≡ true
    here i = subst (λ j. list_any f (and_version (number j) (slice_index_or slots j None) (versions_by slots (map number ns))) ≡ true) (sym i)
        (ap (λ o. list_any f (and_version (number n) o (versions_by slots (map number ns)))) e ∙ or_left (f (number n, v)) (list_any f (versions_by slots (map number ns))) q)

    more : (o : Option Version) → list_any f (versions_by slots (map number ns)) ≡ true → list_any f (and_version (number m) o (versions_by slots (map number ns))) ≡ true
    more None r = r
    more (Some w) r = or_right (f (number m, w)) (list_any f (versions_by slots (map number ns))) r

    go : (b : Bool) → (m == n) ≡ b → 1 ≤ cond b 1 0 + how_many (λ i. i == n) ns → (1 ≤ how_many (λ i. i == n) ns → list_any f (versions_by slots (map number ns)) ≡ true) → list_any f (versions_by slots (map number (m ∷ ns))) ≡ true
    go true i l again = here (eqb-true m n i)
    go false i l again = more (slice_index_or slots m None) (again (omega (arith, l)))

-- ---- the versions at the places of a range
pub some_there : (o : Option ℕ) → is_some o ≡ true → (n : ℕ) × (o ≡ Some n)
some_there None e = absurd (false≢true e)
some_there (Some n) e = (n, refl)

pub none_number : (n : ℕ) → ◌≡◌ {A = Option ℕ} None (Some n) → ⊥
none_number n q = cc

some_number : (m n : ℕ) → ◌≡◌ {A = Option ℕ} (Some m) (Some n) → m ≡ n
some_number m n q = cc

any_entry : (f : SortPlace × ℕ → Bool) (p : SortPlace) (n : ℕ) (es : List (SortPlace × ℕ)) → fin.find place_cmp p es ≡ Some n → f (p, n) ≡ true → list_any f es ≡ true
any_entry f p n [] e q = absurd (none_number n e)
any_entry f p n (x ∷ xs) e q = go (eq_by_cmp place_cmp p x.0) refl e (λ r. any_entry f p n xs r q)
  where
    go : (b : Bool) → eq_by_cmp place_cmp p x.0 ≡ b → cond b (Some x.1) (fin.find place_cmp p xs) ≡ Some n → (fin.find place_cmp p xs ≡ Some n → list_any f xs ≡ true) → (f x || list_any f xs) ≡ true
    go true i r again =
        or_left (f x) (list_any f xs)
        (ap (λ (y : SortPlace). f (y, x.1)) (sym (tells_apart exact_places p x.0 i)) ∙ ap (λ (m : ℕ). f (p, m)) (some_number x.1 n r) ∙ q)
    go false i r again = or_right (f x) (list_any f xs) (again r)

module _ (states : States) (slots : Slots) (lists : Lists) (places : Places) (ns : HasNumbers slots lists) (ps : HasPlaces (all_versions slots) places) (tab lo hi m : ℕ) where
  abbrev in_range : Version → Bool
  in_range v = touches PutOrEnded (has_stamp (ends_of (phases_of states)) m) (shows (Range tab lo hi)) v

  abbrev at_place : SortPlace × ℕ → NumberedVersion → Bool
  at_place p e = has_sort (Some p.0.sort) e && changes_at states m e

  abbrev passes_at : SortPlace × ℕ → Bool
  passes_at p = is_between tab lo hi p && list_any (at_place p) (versions_at slots lists (key_at p.0))

  -- the test over the versions that the entry looks at
  by_places : list_any (changes_at states m) (versions_in slots lists places (Range tab lo hi)) ≡ list_any passes_at (fin.entries places)
  by_places =
      any_flat (changes_at states m) (versions_of_place slots lists) (filter (is_between tab lo hi) (fin.entries places))
      ∙ any_filter (λ p. list_any (changes_at states m) (versions_of_place slots lists p)) (is_between tab lo hi) (fin.entries places)
      ∙ any_same (fin.entries places)
    where
      any_same : (es : List (SortPlace × ℕ)) → list_any (λ p. is_between tab lo hi p && list_any (changes_at states m) (versions_of_place slots lists p)) es ≡ list_any passes_at es
      any_same [] = refl
      any_same (p ∷ es) =
          ap (λ c. (is_between tab lo hi p && c) || list_any (λ q. is_between tab lo hi q && list_any (changes_at states m) (versions_of_place slots lists q)) es) (any_filter (changes_at states m) (has_sort (Some p.0.sort)) (versions_at slots lists (key_at p.0)))
          ∙ ap (λ c. passes_at p || c) (any_same es)

  -- one of these is one with a row in the range
  forth : list_any passes_at (fin.entries places) ≡ true → list_any in_range (all_versions slots) ≡ true
  forth e =
      let p = passing (λ _. ⊤) passes_at (fin.entries places) (each_always (λ _. ⊤) (λ _. tt) (fin.entries places)) e in
      let a = and_parts (is_between tab lo hi p.it) (list_any (at_place p.it) (versions_at slots lists (key_at p.it.0))) p.passes in
      let t = and_parts (p.it.0.table == tab) (nat_le lo p.it.0.sort && nat_le p.it.0.sort hi) a.0 in
      let v = passing (λ v. (version_at slots v.0 ≡ Some v.1) × (eq_by_cmp key_cmp (key_at p.it.0) v.1.row.key ≡ true)) (at_place p.it) (versions_at slots lists (key_at p.it.0))
      (each_both (λ v. version_at slots v.0 ≡ Some v.1) (λ v. eq_by_cmp key_cmp (key_at p.it.0) v.1.row.key ≡ true) (λ v. (version_at slots v.0 ≡ Some v.1) × (eq_by_cmp key_cmp (key_at p.it.0) v.1.row.key ≡ true)) (λ v x y. (x, y)) (versions_at slots lists (key_at p.it.0)) (there slots lists (key_at p.it.0)) (of_key slots lists (key_at p.it.0) ns)) a.1 in
      let c = and_parts (has_sort (Some p.it.0.sort) v.it) (changes_at states m v.it) v.passes in
      let sort : v.it.1.row.sort ≡ p.it.0.sort = eqb-true v.it.1.row.sort p.it.0.sort c.0 in
      let key : key_at p.it.0 ≡ v.it.1.row.key = tells_apart exact_keys (key_at p.it.0) v.it.1.row.key v.is.1 in
      any_slot in_range slots v.it.0.0 v.it.1 v.is.0
      (and_from (changes_at states m v.it) ((v.it.1.row.key.table == tab) && (nat_le lo v.it.1.row.sort && nat_le v.it.1.row.sort hi)) c.1
      (and_from (v.it.1.row.key.table == tab) (nat_le lo v.it.1.row.sort && nat_le v.it.1.row.sort hi)
      (ap (λ (k : RowKey). k.table == tab) (sym key) ∙ t.0)
      (ap (λ (n : ℕ). nat_le lo n && nat_le n hi) sort ∙ t.1)))

  back : list_any in_range (all_versions slots) ≡ true → list_any passes_at (fin.entries places) ≡ true
  back e =
      let w = in_slot in_range slots e in
      let v = w.version in
      let a = and_parts (changes_at states m (number w.number, v)) ((v.row.key.table == tab) && (nat_le lo v.row.sort && nat_le v.row.sort hi)) w.passes in
      let p = some_there (fin.get places (version_place v)) (ps.at (version_place v) ∙ any_slot (is_at_place (version_place v)) slots w.number v w.at ((eq_by_cmp_equiv places_total).refl (version_place v))) in
      let one : how_many (λ i. i == w.number) (numbers_of lists v.row.key) ≡ 1 = ns.at v.row.key w.number ∙ ap (λ o. cond (is_of_key v.row.key o) 1 0) w.at ∙ ap (λ b. cond b 1 0) ((eq_by_cmp_equiv keys_total).refl v.row.key) in
      any_entry passes_at (version_place v) p.0 (fin.entries places) (sym (fin.get-entries places (version_place v)) ∙ p.1)
      (and_from (is_between tab lo hi (version_place v, p.0)) (list_any (at_place (version_place v, p.0)) (versions_at slots lists v.row.key)) a.1
      (any_numbered (at_place (version_place v, p.0)) slots w.number v (numbers_of lists v.row.key) w.at (and_from (v.row.sort == v.row.sort) (changes_at states m (number w.number, v)) (eq-eqb v.row.sort v.row.sort refl) a.0) (omega (arith, one))))

  pub looked_at : list_any (changes_at states m) (versions_in slots lists places (Range tab lo hi)) ≡ is_touched PutOrEnded (has_stamp (ends_of (phases_of states)) m) (shows (Range tab lo hi)) (all_versions slots)
  looked_at = by_places ∙ iff (list_any passes_at (fin.entries places)) (list_any in_range (all_versions slots)) forth back

pub range_check_is : (s : State) (states : States) (slots : Slots) (lists : Lists) (places : Places) (b e tab lo hi : ℕ) → IsSound s → IsStarted s → AreVersionsOf s (phases_of states) (all_versions slots) → HasNumbers slots lists → HasPlaces (all_versions slots) places → s.start ≤ b → b < e → stamp_between b e (changes_of states (versions_in slots lists places (Range tab lo hi))) ≡ change_of s.stamped b e (Range tab lo hi)
range_check_is s states slots lists places b e tab lo hi sd st h ns ps le lt =
    between_is b e (changes_of states (versions_in slots lists places (Range tab lo hi)))
    ∙ ap (stamp_above b)
    (greatest_change states e (versions_in slots lists places (Range tab lo hi))
    ∙ last_same (λ m. list_any (changes_at states m) (versions_in slots lists places (Range tab lo hi))) (λ m. is_touched PutOrEnded (has_stamp (ends_of (phases_of states)) m) (shows (Range tab lo hi)) (all_versions slots)) e (λ m. looked_at states slots lists places ns ps tab lo hi m))
    ∙ range_checked s (phases_of states) (all_versions slots) b e tab lo hi sd st h le lt

-- what the check of an entry names is what the state names
pub check_is : (s : State) (states : States) (slots : Slots) (lists : Lists) (places : Places) (b e : ℕ) (entry : Entry) → IsSound s → IsStarted s → AreVersionsOf s (phases_of states) (all_versions slots) → HasNumbers slots lists → HasPlaces (all_versions slots) places → s.start ≤ b → b < e → stamp_between b e (changes_of states (versions_in slots lists places entry)) ≡ change_of s.stamped b e entry
check_is s states slots lists places b e (Key k) sd st h ns ps le lt = key_check_is s states slots lists places b e k sd st h ns le lt
check_is s states slots lists places b e (Range tab lo hi) sd st h ns ps le lt = range_check_is s states slots lists places b e tab lo hi sd st h ns ps le lt
