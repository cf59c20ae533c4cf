-- A report keeps the graph.
use Rattle.std.proofs.Common.{◌≡◌, ◌≢◌, ◌-◌, ◌≤◌, Bool, true, false, cond, eqb, ◌||◌, List, [], ◌∷◌, ◌++◌, Option, Some, None, refl, sym, ap, subst, ◌∙◌, arith, ⊎_elim}
use Rattle.std.proofs.lemmas.Bool.{cases_eq, eq-eqb, false≢true, ne_eqb}
use Rattle.std.proofs.lemmas.Option.{none-some}
use Rattle.std.specs.Option.{option_map, is_some}
use Rattle.std.specs.FinMap.{get}
use Rattle.mvo_types.specs.declared.ids.TxId.{TxId}
use Rattle.mvo_types.specs.declared.ids.Stamp.{Stamp}
use Rattle.mvo_txn.specs.declared.state.TxState.{TxState}
use Rattle.mvo_txn.specs.declared.state.TxState.TheVariants.{Active, Preparing, Committed, Aborted}
use Rattle.mvo_txn.specs.Txns.{Txns, state_of, IsPreparingState, IsUnended, table_after_change as after_state}
use Rattle.mvo_txn.specs.Queue.{open_end}
use Rattle.mvo_txn.proofs.Chairs.{not_true}
use Rattle.mvo_deps.specs.declared.node.Node.{Node}
use Rattle.mvo_deps.specs.Data.{DependencyData, is_id_among, AreDistinctIds, without_dependents, after_dependency_commit, after_dependency_abort, first_of}
use Rattle.mvo_deps.specs.Nodes.{after_change, changed_if, data_in, data_of, IsReported}
use Rattle.mvo_deps.specs.Graph.{is_id_preparing, preparing_count, first_among, IsAbortedOrGone, IsDependencyGraph}
use Rattle.mvo_deps.proofs.Apart.{among_behind, among_same}
use Rattle.mvo_deps.proofs.Changes.{clock_changed}
use Rattle.mvo_deps.proofs.Lists.{one, count_closed, first_none, first_with, first_without}
use Rattle.mvo_deps.proofs.Looks.{kept_restated, there_restated, state_restated, state_now, no_data, state_changed, there_changed, data_changed, data_gone, state_each, there_each, data_each, data_each_gone}
use Rattle.mvo_deps.proofs.Registered.{not_fallen}

-- the counter goes down by one, and the flag changes so
pub record IsNoting (f : DependencyData → DependencyData) (flagged : Option TxId → Option TxId) : Type 0 where
  pub unsettled : (d : DependencyData) → (f d).unsettled ≡ d.unsettled - 1
  pub aborted : (d : DependencyData) → (f d).aborted ≡ flagged d.aborted
  pub on : (d : DependencyData) → (f d).on ≡ d.on
  pub dependents : (d : DependencyData) → (f d).dependents ≡ d.dependents

noting_commit : IsNoting after_dependency_commit (λ o. o)
noting_commit = record { unsettled = λ d. refl; aborted = λ d. refl; on = λ d. refl; dependents = λ d. refl }

noting_abort : (on : TxId) → IsNoting (after_dependency_abort on) (λ o. Some (first_of o on))
noting_abort on = record { unsettled = λ d. refl; aborted = λ d. refl; on = λ d. refl; dependents = λ d. refl }

-- ---- the fields after a report
module _ (f : DependencyData → DependencyData) (flagged : Option TxId → Option TxId) (n : IsNoting f flagged) where
  told_unsettled : (c b : Bool) (d : DependencyData) → (changed_if c f (changed_if b without_dependents d)).unsettled ≡ d.unsettled - one c
  told_unsettled true true d = n.unsettled (without_dependents d)
  told_unsettled true false d = n.unsettled d
  told_unsettled false true d = omega arith
  told_unsettled false false d = omega arith

  told_aborted : (c b : Bool) (d : DependencyData) → (changed_if c f (changed_if b without_dependents d)).aborted ≡ cond c (flagged d.aborted) d.aborted
  told_aborted true true d = n.aborted (without_dependents d)
  told_aborted true false d = n.aborted d
  told_aborted false true d = refl
  told_aborted false false d = refl

  told_on : (c b : Bool) (d : DependencyData) → (changed_if c f (changed_if b without_dependents d)).on ≡ d.on
  told_on true true d = n.on (without_dependents d)
  told_on true false d = n.on d
  told_on false true d = refl
  told_on false false d = refl

  told_dependents : (c b : Bool) (d : DependencyData) → (changed_if c f (changed_if b without_dependents d)).dependents ≡ cond b [] d.dependents
  told_dependents true true d = n.dependents (without_dependents d)
  told_dependents true false d = n.dependents d
  told_dependents false true d = refl
  told_dependents false false d = refl

-- ---- how one stands
unended_open : (o : Option TxState) → IsUnended o → (o ≡ Some Active → ⊥) → is_some (open_end o) ≡ true
unended_open None h not = absurd h
unended_open (Some Active) h not = absurd (not refl)
unended_open (Some (Preparing end)) h not = refl
unended_open (Some (Committed end)) h not = absurd h
unended_open (Some Aborted) h not = absurd h

open_unended : (o : Option TxState) → is_some (open_end o) ≡ true → IsUnended o
open_unended None h = false≢true h
open_unended (Some Active) h = tt
open_unended (Some (Preparing end)) h = tt
open_unended (Some (Committed end)) h = false≢true h
open_unended (Some Aborted) h = false≢true h

unended_some : (o : Option TxState) → IsUnended o → (s : TxState) × (o ≡ Some s)
unended_some None h = absurd h
unended_some (Some s) h = (s, refl)

unended_not_fallen : (o : Option TxState) → IsUnended o → IsAbortedOrGone o → ⊥
unended_not_fallen None h g = h
unended_not_fallen (Some Active) h g = g
unended_not_fallen (Some (Preparing end)) h g = g
unended_not_fallen (Some (Committed end)) h g = g
unended_not_fallen (Some Aborted) h g = h

empty_if : (b : Bool) (ids : List TxId) → ids ≡ [] → cond b [] ids ≡ []
empty_if true ids e = refl
empty_if false ids e = e

module _ {P : Type 0} where
  -- the dependencies of one that isn't in the table
  gone_on : (t : Txns (Node P)) (q : TxId) → is_some (get t.seats q.0) ≡ false → (data_of t q).on ≡ []
  gone_on t q gone = ap (λ d. d.on) (no_data t q gone)

  -- what is told of one that was settled just now
  kept_told : (t new : Txns (Node P)) (on : TxId) (after : TxState) (f : DependencyData → DependencyData) (flagged : Option TxId → Option TxId) (ab ab' : List TxId)
      → IsUnended (state_of t on.0) → open_end (Some after) ≡ None → (Some after ≡ Some Active → ⊥) → IsNoting f flagged → IsReported f (after_state t on.0 after) new on
      → ((ids : List TxId) → is_id_among on ids ≡ true → flagged (first_among ab ids) ≡ first_among ab' ids)
      → ((ids : List TxId) → is_id_among on ids ≡ false → first_among ab' ids ≡ first_among ab ids)
      → ((q : TxId) → is_id_among q ab' ≡ true → (q.0 ≢ on.0 → is_id_among q ab ≡ true) × (q.0 ≡ on.0 → IsAbortedOrGone (Some after)))
      → IsDependencyGraph t ab → IsDependencyGraph new ab'
  kept_told t new on after f flagged ab ab' unended closed left noting told first_yes first_no of h = record {
    counter = λ q.
        let count = count_closed (is_id_preparing t) (is_id_preparing new) on (data_of t q).on prep_beside prep_on (λ x e among. ap (λ n. is_some (open_end (state_of t n))) e ∙ opened q among) (h.on_once q) in
        let before = h.counter q in
        let less : (data_of t q).unsettled - one (is_id_among on (data_of t q).on) ≡ preparing_count new (data_of t q).on = omega (arith, count, before) in
        unsettled_at q ∙ less ∙ sym (ap (preparing_count new) (on_at q));
    flag = λ q. aborted_at q ∙ sym (ap (first_among ab') (on_at q));
    on_once = λ q. subst AreDistinctIds (sym (on_at q)) (h.on_once q);
    dependents_once = λ q. subst AreDistinctIds (sym (dependents_at q)) (apart_if (eqb q.0 on.0) (data_of t q).dependents (h.dependents_once q));
    both_sides = λ a b there e.
        let other : b.0 ≢ on.0 = λ is. false≢true (sym (prep_on b is) ∙ e) in
        ap (is_id_among a) (dependents_at b ∙ ap (λ c. cond c [] (data_of t b).dependents) (ne_eqb b.0 on.0 other))
        ∙ h.both_sides a b (sym (there_same a) ∙ there) (sym (prep_beside b other) ∙ e)
        ∙ sym (ap (is_id_among b) (on_at a));
    settled = λ q e. ⊎_elim
        (λ is. dependents_at q ∙ ap (λ c. cond c [] (data_of t q).dependents) (eq-eqb q.0 on.0 is))
        (λ ne. dependents_at q ∙ empty_if (eqb q.0 on.0) (data_of t q).dependents (h.settled q (sym (prep_beside q ne) ∙ e)))
        (cases_eq q.0 on.0);
    stopped = λ a b e.
        let s = h.stopped a b (sym (ap (is_id_among b) (on_at a)) ∙ e) in record {
          drawn = subst (λ c. b.0 ≤ c) (sym clock_same) s.drawn;
          stopped = λ g. ⊎_elim (λ is. left (sym (state_on b is) ∙ g)) (λ ne. s.stopped (sym (state_beside b ne) ∙ g)) (cases_eq b.0 on.0);
        };
    known = λ a b e. subst (λ c. a.0 ≤ c) (sym clock_same) (h.known a b (among_if a (eqb b.0 on.0) (data_of t b).dependents (sym (ap (is_id_among a) (dependents_at b)) ∙ e)));
    drawn = λ q there. subst (λ c. q.0 ≤ c) (sym clock_same) (h.drawn q (sym (there_same q) ∙ there));
    fallen = λ q e. ⊎_elim
        (λ is. record { drawn = subst (λ c. q.0 ≤ c) (sym clock_same) (subst (λ m. m ≤ t.clock) (sym is) (h.drawn on on_there)); fallen = subst IsAbortedOrGone (sym (state_on q is)) ((of q e).1 is) })
        (λ ne. record { drawn = subst (λ c. q.0 ≤ c) (sym clock_same) (h.fallen q ((of q e).0 ne)).drawn; fallen = subst IsAbortedOrGone (sym (state_beside q ne)) (h.fallen q ((of q e).0 ne)).fallen })
        (cases_eq q.0 on.0);
  } where
    was : (s : TxState) × (state_of t on.0 ≡ Some s)
    was = unended_some (state_of t on.0) unended

    on_there : is_some (get t.seats on.0) ≡ true
    on_there = some_there (get t.seats on.0) was.0 was.1
      where
        some_there : (o : Option (Rattle.mvo_txn.specs.declared.table_seat.TableSeat.TableSeat (Node P))) (s : TxState) → option_map (λ x. x.state) o ≡ Some s → is_some o ≡ true
        some_there None s e = absurd (none-some s e)
        some_there (Some x) s e = refl

    apart_if : (b : Bool) (ids : List TxId) → AreDistinctIds ids → AreDistinctIds (cond b [] ids)
    apart_if true ids e = tt
    apart_if false ids e = e

    among_if : (q : TxId) (b : Bool) (ids : List TxId) → is_id_among q (cond b [] ids) ≡ true → is_id_among q ids ≡ true
    among_if q true ids e = absurd (false≢true e)
    among_if q false ids e = e

    there_same : (q : TxId) → is_some (get new.seats q.0) ≡ is_some (get t.seats q.0)
    there_same q =
        there_each f (after_change (after_state t on.0 after) on.0 without_dependents) new (data_of (after_state t on.0 after) on).dependents q told
        ∙ there_changed (after_state t on.0 after) on.0 without_dependents q.0 ∙ there_restated t.seats on.0 after q.0

    clock_same : new.clock ≡ t.clock
    clock_same = told.clock ∙ clock_changed (after_state t on.0 after) on.0 without_dependents

    state_same : (q : TxId) → state_of new q.0 ≡ state_of (after_state t on.0 after) q.0
    state_same q =
        state_each f (after_change (after_state t on.0 after) on.0 without_dependents) new (data_of (after_state t on.0 after) on).dependents q told
        ∙ state_changed (after_state t on.0 after) on.0 without_dependents q.0

    state_beside : (q : TxId) → q.0 ≢ on.0 → state_of new q.0 ≡ state_of t q.0
    state_beside q ne = state_same q ∙ state_restated t.seats on.0 after q.0 ne

    state_on : (q : TxId) → q.0 ≡ on.0 → state_of new q.0 ≡ Some after
    state_on q is = state_same q ∙ state_now t.seats on.0 after was.0 q.0 is was.1

    prep_beside : (q : TxId) → q.0 ≢ on.0 → is_id_preparing new q ≡ is_id_preparing t q
    prep_beside q ne = ap (λ o. is_some (open_end o)) (state_beside q ne)

    prep_on : (q : TxId) → q.0 ≡ on.0 → is_id_preparing new q ≡ false
    prep_on q is = ap (λ o. is_some (open_end o)) (state_on q is) ∙ ap is_some closed

    -- whoever is depended on is Preparing
    opened : (q : TxId) → is_id_among on (data_of t q).on ≡ true → is_id_preparing t on ≡ true
    opened q among = unended_open (state_of t on.0) unended (h.stopped q on among).stopped

    data_before : (q : TxId) → data_of (after_state t on.0 after) q ≡ data_of t q
    data_before q = ap data_in (kept_restated t.seats on.0 after q.0)

    -- who is told is who depends on it
    told_of : (q : TxId) → is_some (get t.seats q.0) ≡ true → is_id_among q (data_of (after_state t on.0 after) on).dependents ≡ is_id_among on (data_of t q).on
    told_of q there = ap (λ d. is_id_among q d.dependents) (data_before on) ∙ go (is_id_preparing t on) refl
      where
        go : (b : Bool) → is_id_preparing t on ≡ b → is_id_among q (data_of t on).dependents ≡ is_id_among on (data_of t q).on
        go true e = h.both_sides q on there e
        go false e = ap (is_id_among q) (h.settled on e) ∙ sym (not_true (is_id_among on (data_of t q).on) (λ among. false≢true (sym e ∙ opened q among)))

    data_there : (q : TxId) → is_some (get t.seats q.0) ≡ true → data_of new q ≡ changed_if (is_id_among on (data_of t q).on) f (changed_if (eqb q.0 on.0) without_dependents (data_of t q))
    data_there q there =
        data_each f (after_change (after_state t on.0 after) on.0 without_dependents) new (data_of (after_state t on.0 after) on).dependents q told
        (there_changed (after_state t on.0 after) on.0 without_dependents q.0 ∙ there_restated t.seats on.0 after q.0 ∙ there)
        ∙ ap (λ b. changed_if b f (data_of (after_change (after_state t on.0 after) on.0 without_dependents) q)) (told_of q there)
        ∙ ap (changed_if (is_id_among on (data_of t q).on) f) (data_changed (after_state t on.0 after) on.0 without_dependents q (there_restated t.seats on.0 after q.0 ∙ there) ∙ ap (changed_if (eqb q.0 on.0) without_dependents) (data_before q))

    data_left : (q : TxId) → is_some (get t.seats q.0) ≡ false → data_of new q ≡ data_of t q
    data_left q gone =
        data_each_gone f (after_change (after_state t on.0 after) on.0 without_dependents) new (data_of (after_state t on.0 after) on).dependents q told
        (there_changed (after_state t on.0 after) on.0 without_dependents q.0 ∙ there_restated t.seats on.0 after q.0 ∙ gone)
        ∙ data_gone (after_state t on.0 after) on.0 without_dependents q (there_restated t.seats on.0 after q.0 ∙ gone) ∙ data_before q

    on_at : (q : TxId) → (data_of new q).on ≡ (data_of t q).on
    on_at q = go (is_some (get t.seats q.0)) refl
      where
        go : (b : Bool) → is_some (get t.seats q.0) ≡ b → (data_of new q).on ≡ (data_of t q).on
        go true there = ap (λ d. d.on) (data_there q there) ∙ told_on f flagged noting (is_id_among on (data_of t q).on) (eqb q.0 on.0) (data_of t q)
        go false gone = ap (λ d. d.on) (data_left q gone)

    dependents_at : (q : TxId) → (data_of new q).dependents ≡ cond (eqb q.0 on.0) [] (data_of t q).dependents
    dependents_at q = go (is_some (get t.seats q.0)) refl
      where
        go : (b : Bool) → is_some (get t.seats q.0) ≡ b → (data_of new q).dependents ≡ cond (eqb q.0 on.0) [] (data_of t q).dependents
        go true there = ap (λ d. d.dependents) (data_there q there) ∙ told_dependents f flagged noting (is_id_among on (data_of t q).on) (eqb q.0 on.0) (data_of t q)
        go false gone = ap (λ d. d.dependents) (data_left q gone ∙ no_data t q gone) ∙ sym (empty_if (eqb q.0 on.0) (data_of t q).dependents (ap (λ d. d.dependents) (no_data t q gone)))

    unsettled_at : (q : TxId) → (data_of new q).unsettled ≡ (data_of t q).unsettled - one (is_id_among on (data_of t q).on)
    unsettled_at q = go (is_some (get t.seats q.0)) refl
      where
        go : (b : Bool) → is_some (get t.seats q.0) ≡ b → (data_of new q).unsettled ≡ (data_of t q).unsettled - one (is_id_among on (data_of t q).on)
        go true there = ap (λ d. d.unsettled) (data_there q there) ∙ told_unsettled f flagged noting (is_id_among on (data_of t q).on) (eqb q.0 on.0) (data_of t q)
        go false gone = ap (λ d. d.unsettled) (data_left q gone ∙ no_data t q gone) ∙ sym (ap (λ d. d.unsettled - one (is_id_among on d.on)) (no_data t q gone))

    flag_by : (b : Bool) (ids : List TxId) → is_id_among on ids ≡ b → cond b (flagged (first_among ab ids)) (first_among ab ids) ≡ first_among ab' ids
    flag_by true ids e = first_yes ids e
    flag_by false ids e = sym (first_no ids e)

    aborted_at : (q : TxId) → (data_of new q).aborted ≡ first_among ab' (data_of t q).on
    aborted_at q = go (is_some (get t.seats q.0)) refl
      where
        go : (b : Bool) → is_some (get t.seats q.0) ≡ b → (data_of new q).aborted ≡ first_among ab' (data_of t q).on
        go true there =
            ap (λ d. d.aborted) (data_there q there) ∙ told_aborted f flagged noting (is_id_among on (data_of t q).on) (eqb q.0 on.0) (data_of t q)
            ∙ ap (λ o. cond (is_id_among on (data_of t q).on) (flagged o) o) (h.flag q) ∙ flag_by (is_id_among on (data_of t q).on) (data_of t q).on refl
        go false gone = ap (λ d. d.aborted) (data_left q gone ∙ no_data t q gone) ∙ sym (ap (first_among ab') (gone_on t q gone) ∙ first_none ab')

  -- a commit is reported
  pub kept_commit : (before old new : Txns (Node P)) (on : TxId) (end : Stamp) (ab : List TxId) → IsPreparingState (state_of before on.0) → old ≡ after_state before on.0 (Committed end)
      → IsReported after_dependency_commit old new on → IsDependencyGraph before ab → IsDependencyGraph new ab
  kept_commit before old new on end ab prep is told h =
      kept_told before new on (Committed end) after_dependency_commit (λ o. o) ab ab (open_unended (state_of before on.0) prep) refl (λ e. cc) noting_commit (subst (λ t. IsReported after_dependency_commit t new on) is told)
      (λ ids e. refl) (λ ids e. refl)
      (λ q e. (λ _. e, λ same. absurd (false≢true (sym (not_fallen before ab on prep h) ∙ sym (among_same q on ab same) ∙ e)))) h

  -- an abort is reported
  pub kept_abort : (before old new : Txns (Node P)) (on : TxId) (ab : List TxId) → IsUnended (state_of before on.0) → old ≡ after_state before on.0 Aborted
      → IsReported (after_dependency_abort on) old new on → IsDependencyGraph before ab → IsDependencyGraph new (ab ++ on ∷ [])
  kept_abort before old new on ab unended is told h =
      kept_told before new on Aborted (after_dependency_abort on) (λ o. Some (first_of o on)) ab (ab ++ on ∷ []) unended refl (λ e. cc) (noting_abort on) (subst (λ t. IsReported (after_dependency_abort on) t new on) is told)
      (λ ids e. sym (first_with ab ids on e)) (λ ids e. first_without ab ids on e)
      (λ q e. (λ ne. sym (or_false (is_id_among q ab)) ∙ ap (λ b. is_id_among q ab || b) (sym (ne_eqb q.0 on.0 ne)) ∙ sym (among_behind q on ab) ∙ e, λ same. tt)) h
    where
      or_false : (b : Bool) → (b || false) ≡ b
      or_false true = refl
      or_false false = refl
