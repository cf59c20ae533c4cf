-- What keeps the versions of each key in order: steps that move none, and operations.
use Rattle.std.proofs.Common.{◌≡◌, ◌≢◌, ℕ, ◌≤◌, Bool, true, false, cond, eqb, length, List, [], ◌∷◌, ◌++◌, None, Some, refl, sym, ap, ◌∙◌, subst, arith}
use Rattle.std.specs.Prelude.{⊤, slice_set}
use Rattle.std.specs.List.{AllByRecursion}
use Rattle.std.specs.Ordering.{eq_by_cmp}
use Rattle.std.specs.Cmp.{eq_by_cmp_equiv}
use Rattle.std.proofs.lemmas.Bool.{eqb-false, false≢true, or_parts}
use Rattle.mvo_types.proofs.Maps.{keys_total}
use Rattle.mvo_types.specs.declared.row.RowKey.{RowKey}
use Rattle.mvo_types.specs.RowData.{RowData, content_of}
use Rattle.mvo_types.specs.Keys.{key_cmp}
use Rattle.mvo_theory.proofs.Each.{each_weaker, each_both, each_back}
use Rattle.mvo_theory.proofs.Footprints.{key_same}
use Rattle.mvo_word.specs.declared.held.Held.{Held}
use Rattle.mvo_chain.specs.declared.version.Version.{Version}
use Rattle.mvo_chain.specs.Slots.{Slots, version_at}
use Rattle.mvo_hash.specs.Lists.{Lists, IsNewNumber, number, numbers_of, is_among, with_numbers, without_number}
use Rattle.mvo_hash.proofs.Views.{numbers_put}
use Rattle.mvo_txn.specs.declared.state.TxState.TheVariants as state
use Rattle.mvo_visible.specs.Words.{States, names}
use Rattle.mvo_visible.specs.Fronts.{with_new}
use Rattle.mvo_visible.specs.Laws.{SlotsDifferAt}
use Rattle.mvo_visible.proofs.Moves.{versions}
use Rattle.mvo_representation.specs.Words.{Phases, with_effect, effect_by, net_effect}
use Rattle.mvo_representation.specs.Words.NetEffect.{Untouched, Puts}
use Rattle.mvo_representation.specs.Indexes.{all_versions, HasNumbers}
use Rattle.mvo_representation.specs.Steps.{fresh, IsOneMore}
use Rattle.mvo_representation.specs.Table.{phase_as, phases_of}
use Rattle.mvo_representation.specs.Order.{MayPrecede, StandInOrder, AllStandInOrder, EachPair}
use Rattle.mvo_representation.specs.OrderLaws.{HaveNow, AlikeStayInOrder, RemovalKeepsOrder, UnheldStaysInOrder, SingleStandInOrder}
use Rattle.mvo_representation.proofs.Effects.{net_effect-at}
use Rattle.mvo_representation.proofs.Slots.{slot_emptied, some_version}
use Rattle.mvo_representation.proofs.Collect.{leaves_row, leaves_put}
use Rattle.mvo_representation.proofs.ShownTo.{of_key}
use Rattle.mvo_representation.proofs.OrderLists.{On, OnOne, all_to, pairs_weaker, pairs_to, pairs_from, pairs_without}
use Rattle.mvo_representation.proofs.OrderPairs.{alike_pair, fresh_pair}

-- ---- numbers of a key in order
abbrev pub InOrder : ℕ → Phases → Slots → List ℕ → Type 0
InOrder start table slots ns = EachPair (On slots (MayPrecede start table)) ns

pub order_to : (start : ℕ) (table : Phases) (slots : Slots) (ns : List ℕ) → StandInOrder start table (versions slots ns) → InOrder start table slots ns
order_to start table slots ns h = pairs_to slots (MayPrecede start table) ns h

pub order_from : (start : ℕ) (table : Phases) (slots : Slots) (ns : List ℕ) → InOrder start table slots ns → StandInOrder start table (versions slots ns)
order_from start table slots ns h = pairs_from slots (MayPrecede start table) ns h

pub always : {X : Type 0} (xs : List X) → AllByRecursion (λ n. ⊤) xs
always [] = tt
always (x ∷ xs) = (tt, always xs)

-- the numbers of each key, once one key has others
pub at_each : (P : List ℕ → Type 0) (lists : Lists) (key : RowKey) (ns : List ℕ) (q : RowKey) → (key ≡ q → P ns) → P (numbers_of lists q) → P (numbers_of (with_numbers lists key ns) q)
at_each P lists key ns q p h = subst P (sym (numbers_put lists key ns q)) (go (eq_by_cmp key_cmp q key) refl)
  where
    go : (b : Bool) → eq_by_cmp key_cmp q key ≡ b → P (cond b ns (numbers_of lists q))
    go true e = p (key_same q key e)
    go false e = h

-- ---- steps that move none
pub alike_stay_in_order : AlikeStayInOrder
alike_stay_in_order start states states' slots slots' lists alike h key =
    order_from start (phases_of states') slots' (numbers_of lists key)
    (pairs_weaker (λ n. ⊤) (On slots (MayPrecede start (phases_of states))) (On slots' (MayPrecede start (phases_of states')))
    (λ a b _ _ f w v p q. let x = alike (number a) w p in let y = alike (number b) v q in alike_pair start states states' x.0 y.0 w v x.2 y.2 (f x.0 y.0 x.1 y.1)) (numbers_of lists key) (always (numbers_of lists key))
    (order_to start (phases_of states) slots (numbers_of lists key) (h key)))

pub removal_keeps_order : RemovalKeepsOrder
removal_keeps_order start states slots lists key n h q =
    at_each (λ ns. StandInOrder start (phases_of states) (versions slots ns)) lists key (without_number n (numbers_of lists key)) q
    (λ _. order_from start (phases_of states) slots (without_number n (numbers_of lists key))
    (pairs_without n (On slots (MayPrecede start (phases_of states))) (numbers_of lists key) (pairs_weaker (λ m. ⊤) (On slots (MayPrecede start (phases_of states))) _ (λ a b _ _ f _ _. f) (numbers_of lists key) (always (numbers_of lists key)) (order_to start (phases_of states) slots (numbers_of lists key) (h key)))))
    (h q)

-- none of these is the number n
abbrev pub IsOther : ℕ → ℕ → Type 0
IsOther n m = m ≢ n

pub none_of : (n : ℕ) (ns : List ℕ) → is_among n ns ≡ false → AllByRecursion (IsOther n) ns
none_of n [] e = tt
none_of n (m ∷ ns) e = let p = or_parts (eqb n m) (is_among n ns) e in ((λ q. eqb-false n m p.0 (sym q)), none_of n ns p.1)

others_in_order : (start : ℕ) (table : Phases) (slots slots' : Slots) (n : ℕ) (ns : List ℕ) → SlotsDifferAt n slots slots' → is_among n ns ≡ false → InOrder start table slots ns → InOrder start table slots' ns
others_in_order start table slots slots' n ns d e h = pairs_weaker (IsOther n) (On slots (MayPrecede start table)) (On slots' (MayPrecede start table))
    (λ a b x y f w v p q. f w v (sym (d (number a) x) ∙ p) (sym (d (number b) y) ∙ q)) ns (none_of n ns e) h

pub unheld_stays_in_order : UnheldStaysInOrder
unheld_stays_in_order start states slots slots' lists n d free h key =
    order_from start (phases_of states) slots' (numbers_of lists key) (others_in_order start (phases_of states) slots slots' n (numbers_of lists key) d (free.at key) (order_to start (phases_of states) slots (numbers_of lists key) (h key)))

pub single_stand_in_order : SingleStandInOrder
single_stand_in_order start states slots lists short key = order_from start (phases_of states) slots (numbers_of lists key) (one (numbers_of lists key) (short key))
  where
    one : (ns : List ℕ) → length ns ≤ 1 → InOrder start (phases_of states) slots ns
    one [] le = tt
    one (n ∷ []) le = (tt, tt)
    one (n ∷ m ∷ ns) le = absurd (omega arith)

-- ---- a new version in front
pub new_in_order : (start : ℕ) (states : States) (slots slots' : Slots) (lists : Lists) (t : ℕ) (row : RowData) (n : ℕ) → states t ≡ Some state.Active → IsNewNumber lists n → HaveNow slots slots' n (fresh t row) → AllByRecursion (OnOne slots (λ v. names t v.begin ≡ true → names t v.end ≡ true)) (numbers_of lists row.key) → AllStandInOrder start states slots lists →
    AllStandInOrder start states slots' (with_new lists row.key n)
new_in_order start states slots slots' lists t row n act free now own h q =
    at_each (λ ns. StandInOrder start (phases_of states) (versions slots' ns)) lists row.key (n ∷ numbers_of lists row.key) q
    (λ _. order_from start (phases_of states) slots' (n ∷ numbers_of lists row.key) (front, before row.key))
    (order_from start (phases_of states) slots' (numbers_of lists q) (before q))
  where
    before : (k : RowKey) → InOrder start (phases_of states) slots' (numbers_of lists k)
    before k = others_in_order start (phases_of states) slots slots' n (numbers_of lists k) now.others (free.at k) (order_to start (phases_of states) slots (numbers_of lists k) (h k))

    front : AllByRecursion (On slots' (MayPrecede start (phases_of states)) n) (numbers_of lists row.key)
    front = each_both (IsOther n) (OnOne slots (λ v. names t v.begin ≡ true → names t v.end ≡ true)) (On slots' (MayPrecede start (phases_of states)) n)
        (λ m x f w v p r. subst (λ (u : Version). MayPrecede start (phases_of states) u v) (some_version (fresh t row) w (sym now.here ∙ p)) (fresh_pair start (phases_of states) t row v (ap phase_as act) (f v (sym (now.others (number m) x) ∙ r)))) (numbers_of lists row.key) (none_of n (numbers_of lists row.key) (free.at row.key)) own

-- ---- what t has put at a key and not ended
pub same_key : (k : RowKey) (v : Version) → v.row.key ≡ k → eq_by_cmp key_cmp k v.row.key ≡ true
same_key k v e = subst (λ (j : RowKey). eq_by_cmp key_cmp j v.row.key ≡ true) e ((eq_by_cmp_equiv keys_total).refl v.row.key)

-- a version that is put and not ended leaves a row
pub stays_put : (n : Held → Bool) (k : RowKey) (xs : List Version) (v : Version) (ys : List Version) → v.row.key ≡ k → n v.begin ≡ true → n v.end ≡ false → net_effect n k (xs ++ v ∷ ys) ≡ with_effect (Puts (content_of v.row)) (net_effect n k (xs ++ ys))
stays_put n k xs v ys key b e =
    net_effect-at n k xs v ys
    ∙ ap (λ (c : Bool). with_effect (cond c (effect_by (n v.begin) (n v.end) (content_of v.row)) Untouched) (net_effect n k (xs ++ ys))) (same_key k v key)
    ∙ ap (λ (c : Bool). with_effect (effect_by c (n v.end) (content_of v.row)) (net_effect n k (xs ++ ys))) b
    ∙ ap (λ (c : Bool). with_effect (effect_by true c (content_of v.row)) (net_effect n k (xs ++ ys))) e

-- the versions of a number in the slots
pub more_at : (slots : Slots) (n : ℕ) (v : Version) → version_at slots (number n) ≡ Some v → IsOneMore v (all_versions (slice_set slots n None)) (all_versions slots)
more_at slots n v e = slot_emptied slots n v e

pub live : (slots : Slots) (P : Version → Type 0) → AllByRecursion P (all_versions slots) → (n : ℕ) (v : Version) → version_at slots (number n) ≡ Some v → P v
live slots P h n v e = let m = more_at slots n v e in (each_back P m.before (v ∷ m.after) (subst (AllByRecursion P) (sym m.with') h)).0

pub at_key : (slots : Slots) (lists : Lists) (k : RowKey) → HasNumbers slots lists → AllByRecursion (OnOne slots (λ v. v.row.key ≡ k)) (numbers_of lists k)
at_key slots lists k h = each_weaker (OnOne slots (λ v. eq_by_cmp key_cmp k v.row.key ≡ true)) (OnOne slots (λ v. v.row.key ≡ k)) (λ m f v e. key_same k v.row.key (f v e)) (numbers_of lists k) (all_to slots (λ v. eq_by_cmp key_cmp k v.row.key ≡ true) (numbers_of lists k) (of_key slots lists k h))

pub is_false : (b : Bool) → (b ≡ false → ⊥) → b ≡ true
is_false true f = refl
is_false false f = absurd (f refl)

-- where no row of it is left, all that is put is ended
pub ended_where_none : (n : Held → Bool) (k : RowKey) (slots : Slots) (lists : Lists) → HasNumbers slots lists → leaves_row (net_effect n k (all_versions slots)) ≡ false → AllByRecursion (OnOne slots (λ v. n v.begin ≡ true → n v.end ≡ true)) (numbers_of lists k)
ended_where_none n k slots lists h none = each_weaker (OnOne slots (λ v. v.row.key ≡ k)) (OnOne slots (λ v. n v.begin ≡ true → n v.end ≡ true)) (λ m f v e b. is_false (n v.end) (λ c.
    let w = more_at slots m v e in
    false≢true (sym none ∙ ap (λ vs. leaves_row (net_effect n k vs)) (sym w.with') ∙ ap leaves_row (stays_put n k w.before v w.after (f v e) b c) ∙ leaves_put (content_of v.row) (net_effect n k (w.before ++ w.after))))) (numbers_of lists k) (at_key slots lists k h)
