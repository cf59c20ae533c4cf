-- An insert, a delete and an update keep the versions of each key in order.
use Rattle.std.proofs.Common.{◌≡◌, ◌≢◌, ℕ, ◌<◌, Bool, true, false, ◌||◌, List, ◌++◌, Option, None, Some, refl, sym, ap, ◌∙◌, subst, ◌⊎◌, inl, inr}
use Rattle.std.specs.Prelude.{slice_set}
use Rattle.std.specs.List.{AllByRecursion}
use Rattle.std.specs.FinMap as fin
use Rattle.std.proofs.lemmas.Bool.{cases_eq, false≢true, true≢false}
use Rattle.std.proofs.lemmas.List.{get_or-set_other}
use Rattle.mvo_types.specs.declared.row.RowKey.{RowKey}
use Rattle.mvo_types.specs.RowData.{ContentData, content_of}
use Rattle.mvo_types.specs.Write.{Effect, content_after_last}
use Rattle.mvo_types.specs.Write.Effect.{Put, Delete as Gone}
use Rattle.mvo_model.specs.History.{net_write, after_history}
use Rattle.mvo_model.specs.Trace.Phase.{Absent, Active, Preparing, Committed, Aborted}
use Rattle.mvo_model.proofs.Serials.{get-after_history}
use Rattle.mvo_theory.specs.State.{State, ActiveTx, active_of, seen_by}
use Rattle.mvo_theory.proofs.Cases.{found_is}
use Rattle.mvo_theory.proofs.Who.{active_holds}
use Rattle.mvo_theory.proofs.Each.{each_weaker}
use Rattle.mvo_chain.specs.declared.version.Version.{Version}
use Rattle.mvo_chain.specs.Slots.{Slots, version_at}
use Rattle.mvo_hash.specs.Lists.{number, numbers_of}
use Rattle.mvo_txn.specs.declared.state.TxState.{TxState}
use Rattle.mvo_txn.specs.declared.state.TxState.TheVariants as state
use Rattle.mvo_visible.specs.Words.{States, names}
use Rattle.mvo_representation.specs.Words.{Phases, ends_of, stamp_in, NetEffect, with_effect, net_effect, as_net_effect, is_clash, IsShownAt}
use Rattle.mvo_representation.specs.Words.NetEffect.{Untouched, Removed, Puts, Clash}
use Rattle.mvo_representation.specs.Versions.{IsInside, AreVersionsOf, Say}
use Rattle.mvo_representation.specs.Indexes.{all_versions}
use Rattle.mvo_representation.specs.Steps.{ended_by, MayEnd, IsOneMore}
use Rattle.mvo_representation.specs.Steps.MayEnd.{Own, Other}
use Rattle.mvo_representation.specs.Table.{phase_as, phases_of}
use Rattle.mvo_representation.specs.Order.{MayPrecede}
use Rattle.mvo_representation.specs.OrderLaws.{HaveNow, InsertKeepsOrder, DeleteKeepsOrder, UpdateKeepsOrder}
use Rattle.mvo_representation.proofs.Collect.{leaves_row, leaves_put}
use Rattle.mvo_representation.proofs.Facts.{phase_active}
use Rattle.mvo_representation.proofs.Own.{own_id, not_clash}
use Rattle.mvo_representation.proofs.OrderLists.{On, OnOne, pairs_weaker}
use Rattle.mvo_representation.proofs.OrderPairs.{ended_pair, loose_end, none_before_shown, put_has_effect}
use Rattle.mvo_representation.proofs.OrderSteps.{order_to, order_from, new_in_order, stays_put, more_at, live, at_key, ended_where_none, is_false}
use Rattle.mvo_representation.proofs.Slots.{some_version}

-- ---- an Active transaction
pub state_active : (s : State) (states : States) (vs : List Version) (r : ActiveTx) → AreVersionsOf s (phases_of states) vs → active_of r.id s.active ≡ Some r → states r.id ≡ Some state.Active
state_active s states vs r h f = by (states r.id) (h.phases r.id ∙ phase_active s r.id r f)
  where
    by : (o : Option TxState) → phase_as o ≡ Active → o ≡ Some state.Active
    by None e = absurd (absent e)
      where
        absent : Absent ≡ Active → ⊥
        absent q = cc
    by (Some state.Active) e = refl
    by (Some (state.Preparing n)) e = absurd (preparing n.0 e)
      where
        preparing : (m : ℕ) → Preparing m ≡ Active → ⊥
        preparing m q = cc
    by (Some (state.Committed n)) e = absurd (committed n.0 e)
      where
        committed : (m : ℕ) → Committed m ≡ Active → ⊥
        committed m q = cc
    by (Some state.Aborted) e = absurd (aborted e)
      where
        aborted : Aborted ≡ Active → ⊥
        aborted q = cc

pub own_words : (s : State) (table : Phases) (vs : List Version) (r : ActiveTx) (k : RowKey) → AreVersionsOf s table vs → active_of r.id s.active ≡ Some r → net_effect (names r.id) k vs ≡ as_net_effect (net_write k r.history)
own_words s table vs r k h f = (active_holds (λ q. Say (names q.id) q.history q.footprint vs) r.id s.active r f h.active).0.writes k

-- ---- an insert
pub unput : (w : Option Effect) (before : Option ContentData) → content_after_last w before ≡ None → leaves_row (as_net_effect w) ≡ false
unput None b e = refl
unput (Some Gone) b e = refl
unput (Some (Put h)) b e = absurd (put_there h e)
  where
    put_there : (h : ContentData) → ◌≡◌ {A = Option ContentData} (Some h) None → ⊥
    put_there h q = cc

pub insert_keeps_order : InsertKeepsOrder
insert_keeps_order opening s states slots slots' lists places r row n h f gone free now order =
    new_in_order s.start states slots slots' lists r.id row n (state_active s states (all_versions slots) r h.versions f) free now
    (ended_where_none (names r.id) row.key slots lists h.numbers
    (ap leaves_row (own_words s (phases_of states) (all_versions slots) r row.key h.versions f)
    ∙ unput (net_write row.key r.history) (fin.get (seen_by s.base s.stamped r.id) row.key) (sym (get-after_history row.key r.history (seen_by s.base s.stamped r.id)) ∙ ap (λ ts. fin.get (after_history ts (seen_by s.base s.stamped r.id)) row.key) (sym (found_is r.id s.active r f).1) ∙ gone))) order

-- ---- a version that is ended
-- what a version was before the one with the number n changed
pub record WasBefore (slots : Slots) (n : ℕ) (v : Version) (t m : ℕ) (x : Version) : Type 0 where
  pub version : Version
  pub at : version_at slots (number m) ≡ Some version
  pub is : ((m ≢ n) × (x ≡ version)) ⊎ ((m ≡ n) × (x ≡ ended_by t v))

pub was_before : (slots slots' : Slots) (n : ℕ) (v : Version) (t : ℕ) → version_at slots (number n) ≡ Some v → HaveNow slots slots' n (ended_by t v) → (m : ℕ) (x : Version) → version_at slots' (number m) ≡ Some x → WasBefore slots n v t m x
was_before slots slots' n v t e now m x q = elim (cases_eq m n) [
  | inl same ↦ record { version = v; at = ap (λ (i : ℕ). version_at slots (number i)) same ∙ e; is = inr (same, sym (some_version (ended_by t v) x (sym now.here ∙ ap (λ (i : ℕ). version_at slots' (number i)) (sym same) ∙ q))) }
  | inr other ↦ record { version = x; at = sym (now.others (number m) other) ∙ q; is = inl (other, refl) }
]

-- in front it is what it was
front_pair : (start : ℕ) (table : Phases) (t : ℕ) (w v : Version) → MayPrecede start table w v → MayPrecede start table (ended_by t w) v
front_pair start table t w v h = record { puts = h.puts; removals = h.removals; stamped = h.stamped; active = h.active; writes = h.writes }

nothing_in_front : (s : State) (states : States) (slots : Slots) (r : ActiveTx) (w v : Version) (m : ℕ) → AreVersionsOf s (phases_of states) (all_versions slots) → active_of r.id s.active ≡ Some r → MayEnd s (phases_of states) r.id (all_versions slots) v → version_at slots (number m) ≡ Some w → w.row.key ≡ v.row.key → MayPrecede s.start (phases_of states) w v →
    (e : ℕ) → stamp_in (ends_of (phases_of states)) w.begin ≡ Some e → e < r.id → ⊥
nothing_in_front s states slots r w v m h f (Own o) at key p e q lt = true≢false (sym o.mine ∙ mine (names r.id v.begin) (names r.id v.end) (p.writes r.id (h.phases r.id ∙ phase_active s r.id r f) e q lt))
  where
    mine : (a b : Bool) → (a || b) ≡ false → a ≡ false
    mine true b g = absurd (true≢false g)
    mine false b g = refl
nothing_in_front s states slots r w v m h f (Other o) at key p e q lt =
    let x = more_at slots m w at in
    none_before_shown s.start (phases_of states) r.id v.row.key w v o.stamp x.before x.after key (subst (λ vs. IsShownAt (ends_of (phases_of states)) r.id v.row.key vs v o.stamp) (sym x.with') o.shown) p e q lt

pub delete_keeps_order : DeleteKeepsOrder
delete_keeps_order opening s states slots slots' lists places r v n h f at may now order key =
    order_from s.start table slots' (numbers_of lists key)
    (pairs_weaker (OnOne slots (λ x. x.row.key ≡ key)) (On slots (MayPrecede s.start table)) (On slots' (MayPrecede s.start table)) pair (numbers_of lists key) (at_key slots lists key h.numbers) (order_to s.start table slots (numbers_of lists key) (order key)))
  where
    table : Phases
    table = phases_of states

    act : phases_of states r.id ≡ Active
    act = h.versions.phases r.id ∙ phase_active s r.id r f

    inside : AllByRecursion (IsInside v) s.active
    inside = live slots (λ x. AllByRecursion (IsInside x) s.active) h.versions.inside n v at

    behind : (a b : ℕ) (w x : Version) → version_at slots (number a) ≡ Some w → w.row.key ≡ key → (y : Version) → version_at slots (number b) ≡ Some y → y.row.key ≡ key → ((b ≢ n) × (x ≡ y)) ⊎ ((b ≡ n) × (x ≡ ended_by r.id v)) → MayPrecede s.start (phases_of states) w y → MayPrecede s.start (phases_of states) w x
    behind a b w x p kw y q ky (inl e) g = subst (MayPrecede s.start (phases_of states) w) (sym e.1) g
    behind a b w x p kw y q ky (inr e) g =
        let is : y ≡ v = some_version y v (sym q ∙ ap (λ (i : ℕ). version_at slots (number i)) e.0 ∙ at) in
        let g' : MayPrecede s.start (phases_of states) w v = subst (MayPrecede s.start (phases_of states) w) is g in
        let loose = loose_end s (phases_of states) r.id (all_versions slots) v h.versions.phases inside act may in
        subst (MayPrecede s.start (phases_of states) w) (sym e.1) (ended_pair s.start (phases_of states) r.id w v act loose.0 loose.1
        (nothing_in_front s states slots r w v a h.versions f may p (kw ∙ sym ky ∙ ap (λ (z : Version). z.row.key) is) g') g')

    front : (w x y : Version) → (x ≡ w) ⊎ (x ≡ ended_by r.id w) → MayPrecede s.start (phases_of states) w y → MayPrecede s.start (phases_of states) x y
    front w x y (inl e) g = subst (λ (z : Version). MayPrecede s.start (phases_of states) z y) (sym e) g
    front w x y (inr e) g = subst (λ (z : Version). MayPrecede s.start (phases_of states) z y) (sym e) (front_pair s.start (phases_of states) r.id w y g)

    pair : (a b : ℕ) → OnOne slots (λ x. x.row.key ≡ key) a → OnOne slots (λ x. x.row.key ≡ key) b → On slots (MayPrecede s.start (phases_of states)) a b → On slots' (MayPrecede s.start (phases_of states)) a b
    pair a b ka kb g w x p q =
        let was = was_before slots slots' n v r.id at now a w p in
        let had = was_before slots slots' n v r.id at now b x q in
        front was.version w x (elim was.is [ inl e ↦ inl e.1 | inr e ↦ inr (e.1 ∙ ap (ended_by r.id) (some_version v was.version (sym at ∙ ap (λ (i : ℕ). version_at slots (number i)) (sym e.0) ∙ was.at))) ])
        (behind a b was.version x was.at (ka was.version was.at) had.version had.at (kb had.version had.at) had.is (g was.version had.version was.at had.at))

-- ---- an update
two_clash : (h : ContentData) (d : NetEffect) → leaves_row d ≡ true → is_clash (with_effect (Puts h) d) ≡ true
two_clash h Untouched e = absurd (false≢true e)
two_clash h Removed e = absurd (false≢true e)
two_clash h (Puts g) e = refl
two_clash h Clash e = refl

-- of what it put of the key, just the one that it ends wasn't ended
pub other_ended : (s : State) (states : States) (slots : Slots) (r : ActiveTx) (v x : Version) (n m : ℕ) → AreVersionsOf s (phases_of states) (all_versions slots) → active_of r.id s.active ≡ Some r → MayEnd s (phases_of states) r.id (all_versions slots) v → version_at slots (number n) ≡ Some v → m ≢ n → version_at slots (number m) ≡ Some x → x.row.key ≡ v.row.key → names r.id x.begin ≡ true → names r.id x.end ≡ true
other_ended s states slots r v x n m h f (Other o) at other here key b = absurd (put_has_effect (names r.id) v.row.key w.before x w.after key b (ap (net_effect (names r.id) v.row.key) w.with' ∙ own_words s (phases_of states) (all_versions slots) r v.row.key h f ∙ ap (λ ts. as_net_effect (net_write v.row.key ts)) (sym (found_is r.id s.active r f).1) ∙ ap as_net_effect o.unwritten))
  where
    w : IsOneMore x (all_versions (slice_set slots m None)) (all_versions slots)
    w = more_at slots m x here
other_ended s states slots r v x n m h f (Own o) at other here key b = is_false (names r.id x.end) (λ c.
    let w = more_at slots n v at in
    let y = more_at (slice_set slots n None) m x (get_or-set_other slots n m None None other ∙ here) in
    let rest = ap (λ vs. leaves_row (net_effect (names r.id) v.row.key vs)) (w.without ∙ sym y.with') ∙ ap leaves_row (stays_put (names r.id) v.row.key y.before x y.after key b c) ∙ leaves_put (content_of x.row) (net_effect (names r.id) v.row.key (y.before ++ y.after)) in
    true≢false (sym (two_clash (content_of v.row) (net_effect (names r.id) v.row.key (w.before ++ w.after)) rest) ∙ ap is_clash (sym (stays_put (names r.id) v.row.key w.before v w.after refl o.mine o.kept) ∙ ap (net_effect (names r.id) v.row.key) w.with' ∙ own_words s (phases_of states) (all_versions slots) r v.row.key h f) ∙ not_clash (net_write v.row.key r.history)))

pub update_keeps_order : UpdateKeepsOrder
update_keeps_order opening s states slots between slots' lists places r v row n m h f at key may ended free now order =
    new_in_order s.start states between slots' lists r.id row m (state_active s states (all_versions slots) r h.versions f) free now
    (each_weaker (OnOne slots (λ x. x.row.key ≡ row.key)) (OnOne between (λ x. names r.id x.begin ≡ true → names r.id x.end ≡ true)) here (numbers_of lists row.key) (at_key slots lists row.key h.numbers))
    (delete_keeps_order opening s states slots between lists places r v n h f at may ended order)
  where
    by : (i : ℕ) (x y : Version) → OnOne slots (λ z. z.row.key ≡ row.key) i → version_at slots (number i) ≡ Some y → ((i ≢ n) × (x ≡ y)) ⊎ ((i ≡ n) × (x ≡ ended_by r.id v)) → names r.id x.begin ≡ true → names r.id x.end ≡ true
    by i x y k p (inr e) b = ap (λ (z : Version). names r.id z.end) e.1 ∙ own_id r.id
    by i x y k p (inl e) b = ap (λ (z : Version). names r.id z.end) e.1 ∙ other_ended s states slots r v y n i h.versions f may at e.0 p (k y p ∙ key) (sym (ap (λ (z : Version). names r.id z.begin) e.1) ∙ b)

    here : (i : ℕ) → OnOne slots (λ z. z.row.key ≡ row.key) i → OnOne between (λ x. names r.id x.begin ≡ true → names r.id x.end ≡ true) i
    here i k x q = let was = was_before slots between n v r.id at ended i x q in by i x was.version k was.at was.is
