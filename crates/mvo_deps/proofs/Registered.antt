-- A dependency more keeps the graph.
use Rattle.std.proofs.Common.{◌≡◌, ◌+◌, ◌≤◌, Bool, true, false, cond, eqb, ◌||◌, List, [], ◌∷◌, ◌++◌, Option, Some, None, refl, sym, ap, subst, ◌∙◌, arith, ◌⊎◌, ⊎_elim}
use Rattle.std.specs.Prelude.{count_by, ◌&&◌}
use Rattle.std.proofs.lemmas.Bool.{eqb-true, eq-eqb, false≢true}
use Rattle.std.specs.Option.{option_map, is_some}
use Rattle.std.specs.FinMap.{get}
use Rattle.mvo_types.specs.declared.ids.TxId.{TxId}
use Rattle.mvo_txn.specs.declared.state.TxState.{TxState}
use Rattle.mvo_txn.specs.declared.state.TxState.TheVariants.{Active, Preparing, Committed, Aborted}
use Rattle.mvo_txn.specs.declared.table_seat.TableSeat.{TableSeat}
use Rattle.mvo_txn.specs.Txns.{Txns, state_of}
use Rattle.mvo_txn.specs.Queue.{open_end}
use Rattle.mvo_txn.proofs.Chairs.{not_true}
use Rattle.mvo_deps.specs.declared.node.Node.{Node}
use Rattle.mvo_deps.specs.Data.{DependencyData, is_id_among, AreDistinctIds, with_dependency, with_dependent}
use Rattle.mvo_deps.specs.Nodes.{after_change, changed_if, data_of, noted_on}
use Rattle.mvo_deps.specs.Graph.{is_id_preparing, first_among, HasStopped, IsAbortedOrGone, IsDependencyGraph}
use Rattle.mvo_deps.proofs.Apart.{apart_behind, among_behind}
use Rattle.mvo_deps.proofs.Changes.{clock_changed}
use Rattle.mvo_deps.proofs.Lists.{one, count_same, count_behind, first_more, or_false}
use Rattle.mvo_deps.proofs.Looks.{state_changed, there_changed, data_changed, data_gone}
use Rattle.mvo_deps.proofs.Least.{either}

-- ---- the fields after both changes
abbrev both : TxId → TxId → Bool → Bool → DependencyData → DependencyData
both tx on b c d = changed_if b (with_dependency on) (changed_if c (with_dependent tx) d)

unsettled_is : (tx on : TxId) (b c : Bool) (d : DependencyData) → (both tx on b c d).unsettled ≡ d.unsettled + one b
unsettled_is tx on true true d = refl
unsettled_is tx on true false d = refl
unsettled_is tx on false true d = omega arith
unsettled_is tx on false false d = omega arith

aborted_is : (tx on : TxId) (b c : Bool) (d : DependencyData) → (both tx on b c d).aborted ≡ d.aborted
aborted_is tx on true true d = refl
aborted_is tx on true false d = refl
aborted_is tx on false true d = refl
aborted_is tx on false false d = refl

on_is : (tx on : TxId) (b c : Bool) (d : DependencyData) → (both tx on b c d).on ≡ cond b (d.on ++ on ∷ []) d.on
on_is tx on true true d = refl
on_is tx on true false d = refl
on_is tx on false true d = refl
on_is tx on false false d = refl

dependents_is : (tx on : TxId) (b c : Bool) (d : DependencyData) → (both tx on b c d).dependents ≡ cond c (d.dependents ++ tx ∷ []) d.dependents
dependents_is tx on true true d = refl
dependents_is tx on true false d = refl
dependents_is tx on false true d = refl
dependents_is tx on false false d = refl

-- ---- lists with one more, or not
among_cond : (q id : TxId) (b : Bool) (ids : List TxId) → is_id_among q (cond b (ids ++ id ∷ []) ids) ≡ (is_id_among q ids || (b && eqb q.0 id.0))
among_cond q id true ids = among_behind q id ids
among_cond q id false ids = sym (or_false (is_id_among q ids))

and_turned : (a b : Bool) → (a && b) ≡ (b && a)
and_turned true true = refl
and_turned true false = refl
and_turned false true = refl
and_turned false false = refl

and_right : (a b : Bool) → (a && b) ≡ true → b ≡ true
and_right true b e = e
and_right false b e = absurd (false≢true e)

apart_cond : (id : TxId) (b : Bool) (ids : List TxId) → (b ≡ true → is_id_among id ids ≡ false) → AreDistinctIds ids → AreDistinctIds (cond b (ids ++ id ∷ []) ids)
apart_cond id true ids new apart = apart_behind id ids (new refl) apart
apart_cond id false ids new apart = apart

first_cond : (ab : List TxId) (id : TxId) (b : Bool) (ids : List TxId) → is_id_among id ab ≡ false → first_among ab (cond b (ids ++ id ∷ []) ids) ≡ first_among ab ids
first_cond ab id true ids none = first_more ab ids id none
first_cond ab id false ids none = refl

count_cond : (p : TxId → Bool) (id : TxId) (b : Bool) (ids : List TxId) → p id ≡ true → count_by p (cond b (ids ++ id ∷ []) ids) ≡ count_by p ids + one b
count_cond p id true ids e = count_behind p id ids ∙ ap (λ b. count_by p ids + one b) e
count_cond p id false ids e = omega arith

same_cond : (b : Bool) (id : TxId) (ids : List TxId) → b ≡ false → cond b (ids ++ id ∷ []) ids ≡ ids
same_cond b id ids e = ap (λ b. cond b (ids ++ id ∷ []) ids) e

-- ---- how one stands
pub open_not_fallen : (o : Option TxState) → is_some (open_end o) ≡ true → IsAbortedOrGone o → ⊥
open_not_fallen None e h = false≢true e
open_not_fallen (Some Active) e h = h
open_not_fallen (Some (Preparing end)) e h = h
open_not_fallen (Some (Committed end)) e h = h
open_not_fallen (Some Aborted) e h = false≢true e

pub open_not_active : (o : Option TxState) → is_some (open_end o) ≡ true → o ≡ Some Active → ⊥
open_not_active o e h = false≢true (sym (ap (λ o. is_some (open_end o)) h) ∙ e)

module _ {P : Type 0} where
  there_at : (o : Option (TableSeat (Node P))) → is_some (open_end (option_map (λ s. s.state) o)) ≡ true → is_some o ≡ true
  there_at None e = e
  there_at (Some s) e = refl

  -- a Preparing one is unfinished
  pub there_if_preparing : (t : Txns (Node P)) (on : TxId) → is_id_preparing t on ≡ true → is_some (get t.seats on.0) ≡ true
  there_if_preparing t on e = there_at (get t.seats on.0) e

  -- and was not aborted
  pub not_fallen : (t : Txns (Node P)) (ab : List TxId) (on : TxId) → is_id_preparing t on ≡ true → IsDependencyGraph t ab → is_id_among on ab ≡ false
  not_fallen t ab on e h = not_true (is_id_among on ab) (λ a. open_not_fallen (state_of t on.0) e (h.fallen on a).fallen)

  -- ---- both changes
  data_both : (t : Txns (Node P)) (tx on : TxId) → is_some (get t.seats tx.0) ≡ true → is_some (get t.seats on.0) ≡ true → (q : TxId)
      → data_of (noted_on t tx on) q ≡ both tx on (eqb q.0 tx.0) (eqb q.0 on.0) (data_of t q)
  data_both t tx on tx_there on_there q = go (is_some (get t.seats q.0)) refl
    where
      other : (id : TxId) → is_some (get t.seats id.0) ≡ true → is_some (get t.seats q.0) ≡ false → eqb q.0 id.0 ≡ false
      other id there gone = not_true (eqb q.0 id.0) (λ e. false≢true (sym gone ∙ ap (λ n. is_some (get t.seats n)) (eqb-true q.0 id.0 e) ∙ there))

      go : (b : Bool) → is_some (get t.seats q.0) ≡ b → data_of (noted_on t tx on) q ≡ both tx on (eqb q.0 tx.0) (eqb q.0 on.0) (data_of t q)
      go true there =
          data_changed (after_change t on.0 (with_dependent tx)) tx.0 (with_dependency on) q (there_changed t on.0 (with_dependent tx) q.0 ∙ there)
          ∙ ap (changed_if (eqb q.0 tx.0) (with_dependency on)) (data_changed t on.0 (with_dependent tx) q there)
      go false gone =
          data_gone (after_change t on.0 (with_dependent tx)) tx.0 (with_dependency on) q (there_changed t on.0 (with_dependent tx) q.0 ∙ gone)
          ∙ data_gone t on.0 (with_dependent tx) q gone
          ∙ sym (ap (λ b. both tx on b (eqb q.0 on.0) (data_of t q)) (other tx tx_there gone) ∙ ap (λ c. both tx on false c (data_of t q)) (other on on_there gone))

  state_both : (t : Txns (Node P)) (tx on q : TxId) → state_of (noted_on t tx on) q.0 ≡ state_of t q.0
  state_both t tx on q = state_changed (after_change t on.0 (with_dependent tx)) tx.0 (with_dependency on) q.0 ∙ state_changed t on.0 (with_dependent tx) q.0

  there_both : (t : Txns (Node P)) (tx on q : TxId) → is_some (get (noted_on t tx on).seats q.0) ≡ is_some (get t.seats q.0)
  there_both t tx on q = there_changed (after_change t on.0 (with_dependent tx)) tx.0 (with_dependency on) q.0 ∙ there_changed t on.0 (with_dependent tx) q.0

  clock_both : (t : Txns (Node P)) (tx on : TxId) → (noted_on t tx on).clock ≡ t.clock
  clock_both t tx on = clock_changed (after_change t on.0 (with_dependent tx)) tx.0 (with_dependency on) ∙ clock_changed t on.0 (with_dependent tx)

  -- both sides note one that wasn't noted
  pub kept_noted : (t : Txns (Node P)) (ab : List TxId) (tx on : TxId) → is_some (get t.seats tx.0) ≡ true → is_id_preparing t on ≡ true → is_id_among on (data_of t tx).on ≡ false
      → is_id_among tx (data_of t on).dependents ≡ false → IsDependencyGraph t ab → IsDependencyGraph (noted_on t tx on) ab
  kept_noted t ab tx on tx_there prep new_on new_tx h = record {
    counter = λ q.
        ap (λ d. d.unsettled) (data_is q) ∙ unsettled_is tx on (eqb q.0 tx.0) (eqb q.0 on.0) (data_of t q)
        ∙ ap (λ n. n + one (eqb q.0 tx.0)) (h.counter q ∙ sym (count_same (is_id_preparing t) (is_id_preparing (noted_on t tx on)) (data_of t q).on (λ x e. prep_same x)))
        ∙ sym (ap (count_by (is_id_preparing (noted_on t tx on))) (on_at q) ∙ count_cond (is_id_preparing (noted_on t tx on)) on (eqb q.0 tx.0) (data_of t q).on (prep_same on ∙ prep));
    flag = λ q.
        ap (λ d. d.aborted) (data_is q) ∙ aborted_is tx on (eqb q.0 tx.0) (eqb q.0 on.0) (data_of t q) ∙ h.flag q
        ∙ sym (ap (first_among ab) (on_at q) ∙ first_cond ab on (eqb q.0 tx.0) (data_of t q).on (not_fallen t ab on prep h));
    on_once = λ q. subst AreDistinctIds (sym (on_at q))
        (apart_cond on (eqb q.0 tx.0) (data_of t q).on (λ e. ap (λ n. is_id_among on (data_of t (record { 0 = n })).on) (eqb-true q.0 tx.0 e) ∙ new_on) (h.on_once q));
    dependents_once = λ q. subst AreDistinctIds (sym (dependents_at q))
        (apart_cond tx (eqb q.0 on.0) (data_of t q).dependents (λ e. ap (λ n. is_id_among tx (data_of t (record { 0 = n })).dependents) (eqb-true q.0 on.0 e) ∙ new_tx) (h.dependents_once q));
    both_sides = λ a b there opened.
        ap (is_id_among a) (dependents_at b) ∙ among_cond a tx (eqb b.0 on.0) (data_of t b).dependents
        ∙ ap (λ x. x || (eqb b.0 on.0 && eqb a.0 tx.0)) (h.both_sides a b (sym (there_both t tx on a) ∙ there) (sym (prep_same b) ∙ opened))
        ∙ ap (λ x. is_id_among b (data_of t a).on || x) (and_turned (eqb b.0 on.0) (eqb a.0 tx.0))
        ∙ sym (ap (is_id_among b) (on_at a) ∙ among_cond b on (eqb a.0 tx.0) (data_of t a).on);
    settled = λ q closed.
        let was : is_id_preparing t q ≡ false = sym (prep_same q) ∙ closed in
        let other : eqb q.0 on.0 ≡ false = not_true (eqb q.0 on.0) (λ e. false≢true (sym was ∙ ap (λ n. is_some (open_end (state_of t n))) (eqb-true q.0 on.0 e) ∙ prep)) in
        dependents_at q ∙ same_cond (eqb q.0 on.0) tx (data_of t q).dependents other ∙ h.settled q was;
    stopped = λ a b e. ⊎_elim (λ before. stopped_same b (h.stopped a b before)) (λ now. stopped_on b (eqb-true b.0 on.0 (and_right (eqb a.0 tx.0) (eqb b.0 on.0) now)))
        (either (is_id_among b (data_of t a).on) (eqb a.0 tx.0 && eqb b.0 on.0) (sym (ap (is_id_among b) (on_at a) ∙ among_cond b on (eqb a.0 tx.0) (data_of t a).on) ∙ e));
    known = λ a b e. subst (λ c. a.0 ≤ c) (sym (clock_both t tx on))
        (⊎_elim (λ before. h.known a b before) (λ now. subst (λ n. n ≤ t.clock) (sym (eqb-true a.0 tx.0 (and_right (eqb b.0 on.0) (eqb a.0 tx.0) now))) (h.drawn tx tx_there))
        (either (is_id_among a (data_of t b).dependents) (eqb b.0 on.0 && eqb a.0 tx.0) (sym (ap (is_id_among a) (dependents_at b) ∙ among_cond a tx (eqb b.0 on.0) (data_of t b).dependents) ∙ e)));
    drawn = λ q there. subst (λ c. q.0 ≤ c) (sym (clock_both t tx on)) (h.drawn q (sym (there_both t tx on q) ∙ there));
    fallen = λ q e. record {
      drawn = subst (λ c. q.0 ≤ c) (sym (clock_both t tx on)) (h.fallen q e).drawn;
      fallen = subst IsAbortedOrGone (sym (state_both t tx on q)) (h.fallen q e).fallen;
    };
  } where
    data_is : (q : TxId) → data_of (noted_on t tx on) q ≡ both tx on (eqb q.0 tx.0) (eqb q.0 on.0) (data_of t q)
    data_is q = data_both t tx on tx_there (there_if_preparing t on prep) q

    on_at : (q : TxId) → (data_of (noted_on t tx on) q).on ≡ cond (eqb q.0 tx.0) ((data_of t q).on ++ on ∷ []) (data_of t q).on
    on_at q = ap (λ d. d.on) (data_is q) ∙ on_is tx on (eqb q.0 tx.0) (eqb q.0 on.0) (data_of t q)

    dependents_at : (q : TxId) → (data_of (noted_on t tx on) q).dependents ≡ cond (eqb q.0 on.0) ((data_of t q).dependents ++ tx ∷ []) (data_of t q).dependents
    dependents_at q = ap (λ d. d.dependents) (data_is q) ∙ dependents_is tx on (eqb q.0 tx.0) (eqb q.0 on.0) (data_of t q)

    prep_same : (q : TxId) → is_id_preparing (noted_on t tx on) q ≡ is_id_preparing t q
    prep_same q = ap (λ o. is_some (open_end o)) (state_both t tx on q)

    stopped_same : (b : TxId) → HasStopped t b → HasStopped (noted_on t tx on) b
    stopped_same b s = record { drawn = subst (λ c. b.0 ≤ c) (sym (clock_both t tx on)) s.drawn; stopped = λ e. s.stopped (sym (state_both t tx on b) ∙ e) }

    stopped_on : (b : TxId) → b.0 ≡ on.0 → HasStopped (noted_on t tx on) b
    stopped_on b e = record {
      drawn = subst (λ c. b.0 ≤ c) (sym (clock_both t tx on)) (subst (λ n. n ≤ t.clock) (sym e) (h.drawn on (there_if_preparing t on prep)));
      stopped = λ f. open_not_active (state_of t on.0) prep (ap (state_of t) (sym e) ∙ sym (state_both t tx on b) ∙ f);
    }

  -- and it depends on it then
  pub among_noted : (t : Txns (Node P)) (tx on : TxId) → is_some (get t.seats tx.0) ≡ true → is_id_preparing t on ≡ true → is_id_among on (data_of (noted_on t tx on) tx).on ≡ true
  among_noted t tx on there prep =
      ap (is_id_among on) (ap (λ d. d.on) (data_both t tx on there (there_if_preparing t on prep) tx) ∙ on_is tx on (eqb tx.0 tx.0) (eqb tx.0 on.0) (data_of t tx) ∙ ap (λ b. cond b ((data_of t tx).on ++ on ∷ []) (data_of t tx).on) (eq-eqb tx.0 tx.0 refl))
      ∙ among_behind on on (data_of t tx).on ∙ ap (λ b. is_id_among on (data_of t tx).on || b) (eq-eqb on.0 on.0 refl) ∙ or_true (is_id_among on (data_of t tx).on)
    where
      or_true : (b : Bool) → (b || true) ≡ true
      or_true true = refl
      or_true false = refl
