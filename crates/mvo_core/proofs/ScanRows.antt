-- The rows that a scan is shown rise by sort and then by key.
use Rattle.std.proofs.Common.{◌≡◌, ℕ, Bool, true, false, cond, List, [], ◌∷◌, ◌++◌, map, filter, Option, None, Some, refl, sym, ap, ◌∙◌, subst}
use Rattle.std.specs.Prelude.{◌==◌, ◌&&◌, nat_le}
use Rattle.std.specs.List.{AllByRecursion}
use Rattle.std.specs.List.Sorted.{IsStrictlySortedBy}
use Rattle.std.specs.Option.{option_to_list}
use Rattle.std.specs.Ordering.{nat_cmp, ordering_then}
use Rattle.std.specs.declared.cmp.Ordering.TheVariants.{Less}
use Rattle.std.specs.FinMap as fin
use Rattle.std.specs.FinMap.{is_sorted, entries_sorted}
use Rattle.std.specs.FinMap.Entries.{below_all}
use Rattle.std.proofs.Math.Dec.{T}
use Rattle.std.proofs.lemmas.Bool.{eqb-true, and_parts}
use Rattle.mvo_types.specs.declared.row.RowKey.{RowKey}
use Rattle.mvo_types.specs.RowData.{RowData}
use Rattle.mvo_types.specs.Keys.{Map}
use Rattle.mvo_types.proofs.Ranges.{first, second}
use Rattle.mvo_model.specs.Serial.{scan_cmp}
use Rattle.mvo_model.specs.Trace.{Step}
use Rattle.mvo_model.proofs.Scans.{less_of, nat_equal, same_table}
use Rattle.mvo_theory.specs.State.{State, ActiveTx, active_of}
use Rattle.mvo_txn.specs.Txns.{state_of}
use Rattle.mvo_chain.specs.declared.version.VersionNo.{VersionNo}
use Rattle.mvo_chain.specs.Slots.{version_at}
use Rattle.mvo_range.specs.declared.sort_place.SortPlace.{SortPlace}
use Rattle.mvo_range.specs.Place.{place_cmp, is_between}
use Rattle.mvo_validate.specs.Entries.{key_at}
use Rattle.mvo_representation.specs.Table.{IsShown}
use Rattle.mvo_core.specs.Readers.{Readers}
use Rattle.mvo_core.specs.Data.{CoreData}
use Rattle.mvo_core.specs.Scanning.{row_at_sort, row_with_sort, row_at_place, rows_at_places, places_within}
use Rattle.mvo_core.specs.Standing.{StandsAmong}
use Rattle.mvo_core.proofs.Looked.{shown_in, shown_there}

pub none_row : (r : RowData) → ◌≡◌ {A = Option RowData} None (Some r) → ⊥
none_row r q = cc

pub some_row : (a b : RowData) → ◌≡◌ {A = Option RowData} (Some a) (Some b) → a ≡ b
some_row a b q = cc

-- ---- the places of a range rise
abbrev pub of_range : ℕ → ℕ → ℕ → List (SortPlace × ℕ) → List SortPlace
of_range table lo hi es = map (λ e. e.0) (filter (is_between table lo hi) es)

below : (table lo hi : ℕ) (k : SortPlace) (es : List (SortPlace × ℕ)) → T (below_all place_cmp k es) → AllByRecursion (λ q. place_cmp k q ≡ Less) (of_range table lo hi es)
below table lo hi k [] s = tt
below table lo hi k (e ∷ es) s = go (is_between table lo hi e) (less_of _ (first _ _ s)) (below table lo hi k es (second _ _ s))
  where
    go : (b : Bool) → place_cmp k e.0 ≡ Less → AllByRecursion (λ q. place_cmp k q ≡ Less) (of_range table lo hi es)
        → AllByRecursion (λ q. place_cmp k q ≡ Less) (map (λ x. x.0) (cond b (e ∷ filter (is_between table lo hi) es) (filter (is_between table lo hi) es)))
    go true l r = (l, r)
    go false l r = r

rises : (table lo hi : ℕ) (es : List (SortPlace × ℕ)) → T (is_sorted place_cmp es) → IsStrictlySortedBy place_cmp (of_range table lo hi es)
unfolding IsStrictlySortedBy
rises table lo hi [] s = tt
rises table lo hi (e ∷ es) s = go (is_between table lo hi e) (below table lo hi e.0 es (first _ _ s)) (rises table lo hi es (second _ _ s))
  where
    go : (b : Bool) → AllByRecursion (λ q. place_cmp e.0 q ≡ Less) (of_range table lo hi es) → IsStrictlySortedBy place_cmp (of_range table lo hi es)
        → IsStrictlySortedBy place_cmp (map (λ x. x.0) (cond b (e ∷ filter (is_between table lo hi) es) (filter (is_between table lo hi) es)))
    go true l r = (l, r)
    go false l r = r

of_table : (table lo hi : ℕ) (es : List (SortPlace × ℕ)) → AllByRecursion (λ p. p.table ≡ table) (of_range table lo hi es)
of_table table lo hi [] = tt
of_table table lo hi (e ∷ es) = go (is_between table lo hi e) refl (of_table table lo hi es)
  where
    go : (b : Bool) → is_between table lo hi e ≡ b → AllByRecursion (λ p. p.table ≡ table) (of_range table lo hi es)
        → AllByRecursion (λ p. p.table ≡ table) (map (λ x. x.0) (cond b (e ∷ filter (is_between table lo hi) es) (filter (is_between table lo hi) es)))
    go true i r = (eqb-true e.0.table table (and_parts (e.0.table == table) (nat_le lo e.0.sort && nat_le e.0.sort hi) i).0, r)
    go false i r = r

-- ---- rows at places of one table compare as these
pub record IsAt (p : SortPlace) (row : RowData) : Type 0 where
  pub key : row.key ≡ key_at p
  pub sort : row.sort ≡ p.sort

less_at : (p q : SortPlace) (a b : RowData) → IsAt p a → IsAt q b → p.table ≡ q.table → place_cmp p q ≡ Less → scan_cmp a b ≡ Less
less_at p q a b x y e l =
    ap (λ (m : ℕ). ordering_then (nat_cmp m b.sort) (nat_cmp a.key.key b.key.key)) x.sort
    ∙ ap (λ (m : ℕ). ordering_then (nat_cmp p.sort m) (nat_cmp a.key.key b.key.key)) y.sort
    ∙ ap (λ (k : RowKey). ordering_then (nat_cmp p.sort q.sort) (nat_cmp k.key b.key.key)) x.key
    ∙ ap (λ (k : RowKey). ordering_then (nat_cmp p.sort q.sort) (nat_cmp p.key k.key)) y.key
    ∙ same_table (nat_cmp p.table q.table) (ordering_then (nat_cmp p.sort q.sort) (nat_cmp p.key q.key)) (nat_equal p.table q.table e) l

-- ---- the rows that a transaction is shown
module _ (rs : Readers) (opening : Map) (steps : List Step) (s : State) (c : CoreData) (h : StandsAmong rs opening steps s c) (t : ℕ) (r : ActiveTx) (f : active_of t s.active ≡ Some r) where
  abbrev here : List SortPlace → List RowData
  here ps = rows_at_places (state_of c.table) c.versions t ps

  with_version : (p : SortPlace) (row : RowData) (n : VersionNo) → IsShown s (state_of c.table) c.versions.slots t (key_at p) n → row_at_sort p.sort (version_at c.versions.slots n) ≡ Some row → IsAt p row
  with_version p row n w g = by (w.version.row.sort == p.sort) refl (ap (row_at_sort p.sort) (sym w.at) ∙ g)
    where
      by : (b : Bool) → (w.version.row.sort == p.sort) ≡ b → cond b (Some w.version.row) None ≡ Some row → IsAt p row
      by true q i =
          let same : w.version.row ≡ row = some_row w.version.row row i in
          record { key = ap (λ (x : RowData). x.key) (sym same) ∙ w.key; sort = ap (λ (x : RowData). x.sort) (sym same) ∙ eqb-true w.version.row.sort p.sort q }
      by false q i = absurd (none_row row i)

  pub row_at_is : (p : SortPlace) (row : RowData) → row_at_place (state_of c.table) c.versions t p ≡ Some row → IsAt p row
  row_at_is p row e = go (shown_in c t (key_at p)).version refl e
    where
      go : (o : Option VersionNo) → (shown_in c t (key_at p)).version ≡ o → row_with_sort c.versions.slots p.sort o ≡ Some row → IsAt p row
      go None q g = absurd (none_row row g)
      go (Some n) q g = with_version p row n (shown_there rs opening steps s c h t r f (key_at p) n q) g

  rows_below : (p : SortPlace) (a : RowData) (ps : List SortPlace) → IsAt p a → AllByRecursion (λ q. q.table ≡ p.table) ps → AllByRecursion (λ q. place_cmp p q ≡ Less) ps → AllByRecursion (λ b. scan_cmp a b ≡ Less) (here ps)
  rows_below p a [] x of l = tt
  rows_below p a (q ∷ qs) x of l = go (row_at_place (state_of c.table) c.versions t q) refl (rows_below p a qs x of.1 l.1)
    where
      go : (o : Option RowData) → row_at_place (state_of c.table) c.versions t q ≡ o → AllByRecursion (λ b. scan_cmp a b ≡ Less) (here qs) → AllByRecursion (λ b. scan_cmp a b ≡ Less) (option_to_list o ++ here qs)
      go None e again = again
      go (Some b) e again = (less_at p q a b x (row_at_is q b e) (sym of.0) l.0, again)

  tables : (n m : ℕ) (ps : List SortPlace) → n ≡ m → AllByRecursion (λ q. q.table ≡ n) ps → AllByRecursion (λ q. q.table ≡ m) ps
  tables n m ps e all = subst (λ (x : ℕ). AllByRecursion (λ q. q.table ≡ x) ps) e all

  rows_rise_at : (table : ℕ) (ps : List SortPlace) → AllByRecursion (λ q. q.table ≡ table) ps → IsStrictlySortedBy place_cmp ps → IsStrictlySortedBy scan_cmp (here ps)
  unfolding IsStrictlySortedBy
  rows_rise_at table [] of l = tt
  rows_rise_at table (p ∷ ps) of l = go (row_at_place (state_of c.table) c.versions t p) refl (rows_rise_at table ps of.1 l.1)
    where
      go : (o : Option RowData) → row_at_place (state_of c.table) c.versions t p ≡ o → IsStrictlySortedBy scan_cmp (here ps) → IsStrictlySortedBy scan_cmp (option_to_list o ++ here ps)
      go None e again = again
      go (Some a) e again = (rows_below p a ps (row_at_is p a e) (tables table p.table ps (sym of.0) of.1) l.0, again)

  -- they rise as a scan's do
  pub rows_rise : (table lo hi : ℕ) → IsStrictlySortedBy scan_cmp (here (places_within c.versions.places table lo hi))
  rows_rise table lo hi =
      rows_rise_at table (places_within c.versions.places table lo hi) (of_table table lo hi (fin.entries c.versions.places))
      (rises table lo hi (fin.entries c.versions.places) (entries_sorted c.versions.places))
