-- The scan of a range and the commit order are one list each.
use Rattle.std.proofs.Common.{◌≡◌, ℕ, Bool, true, false, cond, List, [], ◌∷◌, map, refl, sym, ap, ◌∙◌, subst}
use Rattle.std.specs.Prelude.{◌&&◌, ◌==◌, nat_le}
use Rattle.std.specs.List.{AllByRecursion, IsDistinct, filter}
use Rattle.std.specs.List.Sorted.{IsStrictlySortedBy}
use Rattle.std.specs.Cmp.{IsTotalOrder}
use Rattle.std.specs.Ordering.{nat_cmp, ordering_then, eq_by_cmp, is_eq, is_lt, ordering_reverse}
use Rattle.std.specs.declared.cmp.Ordering.{Ordering}
use Rattle.std.specs.declared.cmp.Ordering.TheVariants.{Less, Equal, Greater}
use Rattle.std.specs.FinMap as fin
use Rattle.std.specs.FinMap.{entries_sorted, is_sorted}
use Rattle.std.specs.FinMap.Entries.{below_all}
use Rattle.std.proofs.Math.Dec.{T}
use Rattle.std.proofs.lemmas.Bool.{eqb-true}
use Rattle.std.proofs.lemmas.Cmp.{on_total, then_total, nat_cmp_total}
use Rattle.std.proofs.lemmas.List.Kept.{IsStrictlySortedBy-filter}
use Rattle.std.proofs.lemmas.Map.Keys.{IsDistinct-cons}
use Rattle.mvo_types.specs.declared.row.RowKey.{RowKey}
use Rattle.mvo_types.specs.RowData.{RowData, ContentData, row_with}
use Rattle.mvo_types.specs.Keys.{Map, key_cmp}
use Rattle.mvo_types.specs.RowLists.{is_within, rows_by_key, rows_within}
use Rattle.mvo_types.proofs.Ranges.{first, second}
use Rattle.mvo_model.specs.Serial.{scan_cmp, IsScan, scan}
use Rattle.mvo_model.specs.Trace.{Step, commits, end_cmp, IsCommitOrder, committed}
use Rattle.mvo_model.proofs.Orders.{in_order_is, only_in_order}

pub scan_total : IsTotalOrder scan_cmp
scan_total = then_total (on_total (λ (r : RowData). r.sort) nat_cmp_total) (on_total (λ (r : RowData). r.key.key) nat_cmp_total)

pub end_total : IsTotalOrder end_cmp
end_total = on_total (λ (c : ℕ × ℕ). c.0) nat_cmp_total

-- ---- rows by their keys
abbrev row_cmp : RowData → RowData → Ordering
row_cmp a b = key_cmp a.key b.key

pub less_of : (o : Ordering) → T (is_lt o) → o ≡ Less
less_of Less h = refl
less_of Equal h = absurd h
less_of Greater h = absurd h

below : (k : RowKey) (h : ContentData) (es : List (RowKey × ContentData)) → T (below_all key_cmp k es) → AllByRecursion (λ r. row_cmp (row_with k h) r ≡ Less) (map (λ e. row_with e.0 e.1) es)
below k h [] s = tt
below k h (e ∷ es) s = (less_of _ (first _ _ s), below k h es (second _ _ s))

by_key : (es : List (RowKey × ContentData)) → T (is_sorted key_cmp es) → IsStrictlySortedBy row_cmp (map (λ e. row_with e.0 e.1) es)
unfolding IsStrictlySortedBy
by_key [] s = tt
by_key (e ∷ es) s = (below e.0 e.1 es (first _ _ s), by_key es (second _ _ s))

-- ---- those of one table differ in sort or key
and_first : (a b : Bool) → (a && b) ≡ true → a ≡ true
and_first true b e = refl
and_first false b e = e

one_table : (table low high : ℕ) (rows : List RowData) → AllByRecursion (λ r. r.key.table ≡ table) (filter (is_within table low high) rows)
one_table table low high [] = tt
one_table table low high (r ∷ rows) = go (is_within table low high r) refl (one_table table low high rows)
  where
    go : (b : Bool) → is_within table low high r ≡ b → AllByRecursion (λ q. q.key.table ≡ table) (filter (is_within table low high) rows) → AllByRecursion (λ q. q.key.table ≡ table) (cond b (r ∷ filter (is_within table low high) rows) (filter (is_within table low high) rows))
    go true e all = (eqb-true _ _ (and_first (r.key.table == table) (nat_le low r.sort && nat_le r.sort high) e), all)
    go false e all = all

pub same_table : (o p : Ordering) → o ≡ Equal → ordering_then o p ≡ Less → p ≡ Less
same_table Less p e f = absurd cc
same_table Equal p e f = f
same_table Greater p e f = absurd cc

differ : (o p : Ordering) → p ≡ Less → is_eq (ordering_then o p) ≡ false
differ Less p e = refl
differ Equal p e = ap is_eq e
differ Greater p e = refl

pub nat_equal : (x y : ℕ) → x ≡ y → nat_cmp x y ≡ Equal
nat_equal x y e = subst (λ z. nat_cmp x z ≡ Equal) e (same (nat_cmp x x) (nat_cmp_total.antisymm x x))
  where
    same : (o : Ordering) → o ≡ ordering_reverse o → o ≡ Equal
    same Less f = absurd cc
    same Equal f = refl
    same Greater f = absurd cc

unequal : (table : ℕ) (a b : RowData) → a.key.table ≡ table → b.key.table ≡ table → row_cmp a b ≡ Less → eq_by_cmp scan_cmp a b ≡ false
unequal table a b p q less =
    differ (nat_cmp a.sort b.sort) (nat_cmp a.key.key b.key.key) (same_table (nat_cmp a.key.table b.key.table) (nat_cmp a.key.key b.key.key) (nat_equal a.key.table b.key.table (p ∙ sym q)) less)

all_unequal : (table : ℕ) (a : RowData) (rows : List RowData) → a.key.table ≡ table → AllByRecursion (λ r. r.key.table ≡ table) rows → AllByRecursion (λ r. row_cmp a r ≡ Less) rows → AllByRecursion (λ r. eq_by_cmp scan_cmp a r ≡ false) rows
all_unequal table a [] p all less = tt
all_unequal table a (b ∷ rows) p all less = (unequal table a b p all.0 less.0, all_unequal table a rows p all.1 less.1)

none_apart : IsDistinct (eq_by_cmp scan_cmp) []
unfolding IsDistinct
none_apart = tt

apart : (table : ℕ) (rows : List RowData) → AllByRecursion (λ r. r.key.table ≡ table) rows → IsStrictlySortedBy row_cmp rows → IsDistinct (eq_by_cmp scan_cmp) rows
unfolding IsStrictlySortedBy
apart table [] all s = none_apart
apart table (r ∷ rows) all s = IsDistinct-cons (eq_by_cmp scan_cmp) r rows (all_unequal table r rows all.0 all.1 s.0) (apart table rows all.1 s.1)

-- ---- the scan
-- the rows of a range differ in sort or key
pub within_apart : (m : Map) (table low high : ℕ) → IsDistinct (eq_by_cmp scan_cmp) (rows_within m table low high)
within_apart m table low high =
    apart table (rows_within m table low high) (one_table table low high (rows_by_key m))
    (IsStrictlySortedBy-filter row_cmp (is_within table low high) (rows_by_key m) (by_key (fin.entries m) (entries_sorted m)))

pub scan_is : (m : Map) (table low high : ℕ) → IsScan m table low high (scan m table low high)
scan_is m table low high = in_order_is scan_total (rows_within m table low high) (within_apart m table low high)

pub only_scan : (m : Map) (table low high : ℕ) (rows : List RowData) → IsScan m table low high rows → rows ≡ scan m table low high
only_scan m table low high rows h = only_in_order scan_total (rows_within m table low high) rows h

-- ---- the commit order
pub committed_is : (steps : List Step) → IsDistinct (eq_by_cmp end_cmp) (commits steps) → IsCommitOrder steps (committed steps)
committed_is steps apart = in_order_is end_total (commits steps) apart

pub only_committed : (steps : List Step) (order : List (ℕ × ℕ)) → IsCommitOrder steps order → order ≡ committed steps
only_committed steps order h = only_in_order end_total (commits steps) order h
