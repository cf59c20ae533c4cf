-- The calls of the table keep the graph of dependencies.
use Rattle.std.proofs.Common.{◌≡◌, ◌≢◌, ℕ, ◌+◌, ◌≤◌, Bool, true, false, eqb, List, [], Option, Some, None, refl, sym, ap, subst, ◌∙◌, arith, ⊎_elim}
use Rattle.std.proofs.lemmas.Bool.{cases_eq, eq-eqb, false≢true, ne_eqb}
use Rattle.std.proofs.lemmas.Option.{none-some}
use Rattle.std.specs.Option.{option_map, is_some}
use Rattle.std.specs.FinMap.{get, insert, get-empty}
use Rattle.std.specs.Ordering.{nat_cmp}
use Rattle.mvo_types.specs.declared.ids.TxId.{TxId}
use Rattle.mvo_txn.specs.declared.state.TxState.{TxState}
use Rattle.mvo_txn.specs.declared.state.TxState.TheVariants.{Active, Preparing, Aborted}
use Rattle.mvo_txn.specs.declared.table_seat.TableSeat.{TableSeat}
use Rattle.mvo_txn.specs.Seats.{with_kept_at, with_state}
use Rattle.mvo_txn.specs.Txns.{Txns, state_of, kept_of, IsEnded, table_after_begin, table_after_prepare, after_terminate, table_after_write, no_txns, table_after_change as after_state}
use Rattle.mvo_txn.specs.Queue.{open_end}
use Rattle.mvo_txn.proofs.Stamps.{get_inserted, get_beside, get_removed, get_left}
use Rattle.mvo_txn.proofs.Tables.{ended_is_closed}
use Rattle.mvo_txn.proofs.Chairs.{not_true}
use Rattle.mvo_deps.specs.declared.node.Node.{Node}
use Rattle.mvo_deps.specs.Data.{no_dependencies, is_id_among, AreDistinctIds}
use Rattle.mvo_deps.specs.Nodes.{data_in, data_of}
use Rattle.mvo_deps.specs.Graph.{is_id_preparing, preparing_count, first_among, IsAbortedOrGone, IsDependencyGraph}
use Rattle.mvo_deps.proofs.Apart.{among_same}
use Rattle.mvo_deps.proofs.Lists.{count_same, first_none}
use Rattle.mvo_deps.proofs.Looks.{kept_restated, there_restated, state_restated}

module _ {P : Type 0} where
  -- what a call changes at one transaction alone, whose id it is
  record IsAt (t u : Txns (Node P)) (id : ℕ) : Type 0 where
    pub clock : t.clock ≤ u.clock
    pub beside : (q : TxId) → q.0 ≢ id → get u.seats q.0 ≡ get t.seats q.0

  state_beside : (t u : Txns (Node P)) (id : ℕ) → IsAt t u id → (q : TxId) → q.0 ≢ id → state_of u q.0 ≡ state_of t q.0
  state_beside t u id h q ne = ap (option_map (λ s. s.state)) (h.beside q ne)

  data_beside : (t u : Txns (Node P)) (id : ℕ) → IsAt t u id → (q : TxId) → q.0 ≢ id → data_of u q ≡ data_of t q
  data_beside t u id h q ne = ap (λ o. data_in (option_map (λ s. s.kept) o)) (h.beside q ne)

  prep_beside : (t u : Txns (Node P)) (id : ℕ) → IsAt t u id → (q : TxId) → q.0 ≢ id → is_id_preparing u q ≡ is_id_preparing t q
  prep_beside t u id h q ne = ap (λ o. is_some (open_end o)) (state_beside t u id h q ne)

  -- one that depends on nobody, and on whom nobody depends, comes or leaves
  kept_at : (t u : Txns (Node P)) (id : TxId) (ab : List TxId) → IsAt t u id.0 → id.0 ≤ u.clock → data_of u id ≡ no_dependencies → open_end (state_of u id.0) ≡ None
      → ((tx : TxId) → is_id_among id (data_of t tx).on ≡ true → (is_id_preparing t id ≡ false) × (state_of u id.0 ≡ Some Active → ⊥))
      → ((on : TxId) → is_some (get u.seats id.0) ≡ true → is_id_among id (data_of t on).dependents ≡ false)
      → (is_id_among id ab ≡ true → IsAbortedOrGone (state_of u id.0))
      → IsDependencyGraph t ab → IsDependencyGraph u ab
  kept_at t u id ab one drawn none closed no_on no_dependents of h = record {
    counter = λ q. ⊎_elim
        (λ is. ap (λ d. d.unsettled) (none_at q is) ∙ sym (ap (λ d. preparing_count u d.on) (none_at q is)))
        (λ ne. ap (λ d. d.unsettled) (data_beside t u id.0 one q ne) ∙ h.counter q ∙ sym (ap (λ d. preparing_count u d.on) (data_beside t u id.0 one q ne) ∙ count_same (is_id_preparing t) (is_id_preparing u) (data_of t q).on (prep_listed q)))
        (cases_eq q.0 id.0);
    flag = λ q. ⊎_elim
        (λ is. ap (λ d. d.aborted) (none_at q is) ∙ sym (ap (λ d. first_among ab d.on) (none_at q is) ∙ first_none ab))
        (λ ne. ap (λ d. d.aborted) (data_beside t u id.0 one q ne) ∙ h.flag q ∙ sym (ap (λ d. first_among ab d.on) (data_beside t u id.0 one q ne)))
        (cases_eq q.0 id.0);
    on_once = λ q. ⊎_elim
        (λ is. subst (λ d. AreDistinctIds d.on) (sym (none_at q is)) tt)
        (λ ne. subst (λ d. AreDistinctIds d.on) (sym (data_beside t u id.0 one q ne)) (h.on_once q))
        (cases_eq q.0 id.0);
    dependents_once = λ q. ⊎_elim
        (λ is. subst (λ d. AreDistinctIds d.dependents) (sym (none_at q is)) tt)
        (λ ne. subst (λ d. AreDistinctIds d.dependents) (sym (data_beside t u id.0 one q ne)) (h.dependents_once q))
        (cases_eq q.0 id.0);
    both_sides = λ a b there e.
        let other : b.0 ≢ id.0 = λ is. false≢true (sym (ap (λ n. is_some (open_end (state_of u n))) is ∙ ap is_some closed) ∙ e) in
        ap (λ d. is_id_among a d.dependents) (data_beside t u id.0 one b other)
        ∙ ⊎_elim
        (λ is. among_same a id (data_of t b).dependents is ∙ no_dependents b (ap (λ n. is_some (get u.seats n)) (sym is) ∙ there) ∙ sym (ap (λ d. is_id_among b d.on) (none_at a is)))
        (λ ne. h.both_sides a b (ap is_some (sym (one.beside a ne)) ∙ there) (sym (prep_beside t u id.0 one b other) ∙ e) ∙ sym (ap (λ d. is_id_among b d.on) (data_beside t u id.0 one a ne)))
        (cases_eq a.0 id.0);
    settled = λ q e. ⊎_elim
        (λ is. ap (λ d. d.dependents) (none_at q is))
        (λ ne. ap (λ d. d.dependents) (data_beside t u id.0 one q ne) ∙ h.settled q (sym (prep_beside t u id.0 one q ne) ∙ e))
        (cases_eq q.0 id.0);
    stopped = λ a b e. ⊎_elim
        (λ is. absurd (false≢true (sym (ap (λ d. is_id_among b d.on) (none_at a is)) ∙ e)))
        (λ ne.
        let listed : is_id_among b (data_of t a).on ≡ true = sym (ap (λ d. is_id_among b d.on) (data_beside t u id.0 one a ne)) ∙ e in
        let s = h.stopped a b listed in
        record {
          drawn = let le = s.drawn in let more = one.clock in omega (arith, le, more);
          stopped = λ g. ⊎_elim
              (λ is. (no_on a (among_same id b (data_of t a).on (sym is) ∙ listed)).1 (ap (state_of u) (sym is) ∙ g))
              (λ other. s.stopped (sym (state_beside t u id.0 one b other) ∙ g))
              (cases_eq b.0 id.0);
        })
        (cases_eq a.0 id.0);
    known = λ a b e. ⊎_elim
        (λ is. absurd (false≢true (sym (ap (λ d. is_id_among a d.dependents) (none_at b is)) ∙ e)))
        (λ ne. let le = h.known a b (sym (ap (λ d. is_id_among a d.dependents) (data_beside t u id.0 one b ne)) ∙ e) in let more = one.clock in omega (arith, le, more))
        (cases_eq b.0 id.0);
    drawn = λ q there. ⊎_elim
        (λ is. subst (λ n. n ≤ u.clock) (sym is) drawn)
        (λ ne. let le = h.drawn q (ap is_some (sym (one.beside q ne)) ∙ there) in let more = one.clock in omega (arith, le, more))
        (cases_eq q.0 id.0);
    fallen = λ q e.
        let w = h.fallen q e in
        record {
          drawn = let le = w.drawn in let more = one.clock in omega (arith, le, more);
          fallen = ⊎_elim
              (λ is. subst IsAbortedOrGone (ap (state_of u) (sym is)) (of (among_same id q ab (sym is) ∙ e)))
              (λ ne. subst IsAbortedOrGone (sym (state_beside t u id.0 one q ne)) w.fallen)
              (cases_eq q.0 id.0);
        };
  } where
    none_at : (q : TxId) → q.0 ≡ id.0 → data_of u q ≡ no_dependencies
    none_at q is = ap (λ n. data_of u (record { 0 = n })) is ∙ none

    prep_listed : (q x : TxId) → is_id_among x (data_of t q).on ≡ true → is_id_preparing u x ≡ is_id_preparing t x
    prep_listed q x e = ⊎_elim
        (λ is. ap (λ n. is_some (open_end (state_of u n))) is ∙ ap is_some closed ∙ sym (ap (λ n. is_some (open_end (state_of t n))) is ∙ (no_on q (among_same id x (data_of t q).on (sym is) ∙ e)).0))
        (λ ne. prep_beside t u id.0 one x ne)
        (cases_eq x.0 id.0)

  -- a transaction begins that depends on nobody
  pub kept_begun : (t : Txns (Node P)) (node : Node P) (ab : List TxId) → node.dependencies ≡ no_dependencies → IsDependencyGraph t ab → IsDependencyGraph (table_after_begin t node) ab
  kept_begun t node ab none h =
      kept_at t (table_after_begin t node) id ab (record { clock = omega arith; beside = λ q ne. get_beside t.seats (t.clock + 1) seat q.0 ne }) (omega arith)
      (ap (λ o. data_in (option_map (λ s. s.kept) o)) (get_inserted t.seats (t.clock + 1) seat) ∙ none)
      (ap (λ o. open_end (option_map (λ s. s.state) o)) (get_inserted t.seats (t.clock + 1) seat))
      (λ tx e. let le = (h.stopped tx id e).drawn in absurd (omega (arith, le)))
      (λ on _. not_true (is_id_among id (data_of t on).dependents) (λ e. let le = h.known id on e in omega (arith, le)))
      (λ e. let le = (h.fallen id e).drawn in absurd (omega (arith, le)))
      h
    where
      id : TxId
      id = record { 0 = t.clock + 1 }

      seat : TableSeat (Node P)
      seat = record { state = Active; kept = node }

  -- one that is Committed or Aborted leaves
  pub kept_left : (t : Txns (Node P)) (id : TxId) (ab : List TxId) → IsEnded (state_of t id.0) → IsDependencyGraph t ab → IsDependencyGraph (after_terminate t id.0) ab
  kept_left t id ab ended h =
      kept_at t (after_terminate t id.0) id ab (record { clock = omega arith; beside = λ q ne. get_left t.seats id.0 q.0 ne }) (h.drawn id (ended_there (get t.seats id.0) ended))
      (ap (λ o. data_in (option_map (λ s. s.kept) o)) (get_removed t.seats id.0))
      (ap (λ o. open_end (option_map (λ s. s.state) o)) (get_removed t.seats id.0))
      (λ tx e. (ap is_some (ended_is_closed (state_of t id.0) ended), λ g. none-some Active (sym (ap (option_map (λ s. s.state)) (get_removed t.seats id.0)) ∙ g)))
      (λ on there. absurd (false≢true (sym (ap is_some (get_removed t.seats id.0)) ∙ there)))
      (λ e. subst IsAbortedOrGone (sym (ap (option_map (λ s. s.state)) (get_removed t.seats id.0))) tt)
      h
    where
      ended_there : (o : Option (TableSeat (Node P))) → IsEnded (option_map (λ s. s.state) o) → is_some o ≡ true
      ended_there None e = absurd e
      ended_there (Some s) e = refl

  -- ---- an Active one comes to stand otherwise
  -- the clock goes on, and the transaction stands so
  abbrev restated_at : Txns (Node P) → ℕ → TxId → TxState → Txns (Node P)
  restated_at t clock id now = record { clock = clock; seats = with_state t.seats id.0 now }

  kept_active : (t : Txns (Node P)) (clock : ℕ) (id : TxId) (now : TxState) (ab : List TxId) → t.clock ≤ clock → state_of t id.0 ≡ Some Active → IsDependencyGraph t ab → IsDependencyGraph (restated_at t clock id now) ab
  kept_active t clock id now ab later active h = record {
    counter = λ q.
        ap (λ d. d.unsettled) (data_is q) ∙ h.counter q
        ∙ sym (ap (λ d. preparing_count (restated_at t clock id now) d.on) (data_is q) ∙ count_same (is_id_preparing t) (is_id_preparing (restated_at t clock id now)) (data_of t q).on (λ x e. prep_at x (not_listed q x e)));
    flag = λ q. ap (λ d. d.aborted) (data_is q) ∙ h.flag q ∙ sym (ap (λ d. first_among ab d.on) (data_is q));
    on_once = λ q. subst (λ d. AreDistinctIds d.on) (sym (data_is q)) (h.on_once q);
    dependents_once = λ q. subst (λ d. AreDistinctIds d.dependents) (sym (data_is q)) (h.dependents_once q);
    both_sides = λ a b there e.
        ap (λ d. is_id_among a d.dependents) (data_is b)
        ∙ ⊎_elim
        (λ is. ap (λ ids. is_id_among a ids) (h.settled b (closed b is)) ∙ sym (not_true (is_id_among b (data_of t a).on) (λ listed. not_listed a b listed is)))
        (λ ne. h.both_sides a b (sym (there_restated t.seats id.0 now a.0) ∙ there) (sym (prep_at b ne) ∙ e))
        (cases_eq b.0 id.0)
        ∙ sym (ap (λ d. is_id_among b d.on) (data_is a));
    settled = λ q e. ap (λ d. d.dependents) (data_is q) ∙ ⊎_elim (λ is. h.settled q (closed q is)) (λ ne. h.settled q (sym (prep_at q ne) ∙ e)) (cases_eq q.0 id.0);
    stopped = λ a b e.
        let listed : is_id_among b (data_of t a).on ≡ true = sym (ap (λ d. is_id_among b d.on) (data_is a)) ∙ e in
        let s = h.stopped a b listed in
        record {
          drawn = let le = s.drawn in omega (arith, le, later);
          stopped = λ g. s.stopped (sym (state_restated t.seats id.0 now b.0 (not_listed a b listed)) ∙ g);
        };
    known = λ a b e. let le = h.known a b (sym (ap (λ d. is_id_among a d.dependents) (data_is b)) ∙ e) in omega (arith, le, later);
    drawn = λ q there. let le = h.drawn q (sym (there_restated t.seats id.0 now q.0) ∙ there) in omega (arith, le, later);
    fallen = λ q e.
        let w = h.fallen q e in
        record {
          drawn = let le = w.drawn in omega (arith, le, later);
          fallen = ⊎_elim
              (λ is. absurd (subst IsAbortedOrGone (ap (state_of t) is ∙ active) w.fallen))
              (λ ne. subst IsAbortedOrGone (sym (state_restated t.seats id.0 now q.0 ne)) w.fallen)
              (cases_eq q.0 id.0);
        };
  } where
    data_is : (q : TxId) → data_of (restated_at t clock id now) q ≡ data_of t q
    data_is q = ap data_in (kept_restated t.seats id.0 now q.0)

    prep_at : (q : TxId) → q.0 ≢ id.0 → is_id_preparing (restated_at t clock id now) q ≡ is_id_preparing t q
    prep_at q ne = ap (λ o. is_some (open_end o)) (state_restated t.seats id.0 now q.0 ne)

    not_listed : (q x : TxId) → is_id_among x (data_of t q).on ≡ true → x.0 ≢ id.0
    not_listed q x e is = (h.stopped q x e).stopped (ap (state_of t) is ∙ active)

    closed : (q : TxId) → q.0 ≡ id.0 → is_id_preparing t q ≡ false
    closed q is = ap (λ o. is_some (open_end o)) (ap (state_of t) is ∙ active)

  -- it draws its end
  pub kept_prepared : (t : Txns (Node P)) (id : TxId) (ab : List TxId) → state_of t id.0 ≡ Some Active → IsDependencyGraph t ab → IsDependencyGraph (table_after_prepare t id.0) ab
  kept_prepared t id ab active h = kept_active t (t.clock + 1) id (Preparing (record { 0 = t.clock + 1 })) ab (omega arith) active h

  -- it is aborted, which nobody has to be told
  pub kept_undone : (t : Txns (Node P)) (id : TxId) (ab : List TxId) → state_of t id.0 ≡ Some Active → IsDependencyGraph t ab → IsDependencyGraph (after_state t id.0 Aborted) ab
  kept_undone t id ab active h = kept_active t t.clock id Aborted ab (omega arith) active h

  -- ---- what the caller keeps
  -- a table that looks the same, to those that ask where each stands and for its dependencies
  pub record LooksSame (t u : Txns (Node P)) : Type 0 where
    pub clock : u.clock ≡ t.clock
    pub there_is : (q : TxId) → is_some (get u.seats q.0) ≡ is_some (get t.seats q.0)
    pub state_is : (q : TxId) → state_of u q.0 ≡ state_of t q.0
    pub data_is : (q : TxId) → data_of u q ≡ data_of t q

  kept_alike : (t u : Txns (Node P)) (ab : List TxId) → LooksSame t u → IsDependencyGraph t ab → IsDependencyGraph u ab
  kept_alike t u ab same h = record {
    counter = λ q. ap (λ d. d.unsettled) (same.data_is q) ∙ h.counter q ∙ sym (ap (λ d. preparing_count u d.on) (same.data_is q) ∙ count_same (is_id_preparing t) (is_id_preparing u) (data_of t q).on (λ x e. prep_is x));
    flag = λ q. ap (λ d. d.aborted) (same.data_is q) ∙ h.flag q ∙ sym (ap (λ d. first_among ab d.on) (same.data_is q));
    on_once = λ q. subst (λ d. AreDistinctIds d.on) (sym (same.data_is q)) (h.on_once q);
    dependents_once = λ q. subst (λ d. AreDistinctIds d.dependents) (sym (same.data_is q)) (h.dependents_once q);
    both_sides = λ a b there e.
        ap (λ d. is_id_among a d.dependents) (same.data_is b) ∙ h.both_sides a b (sym (same.there_is a) ∙ there) (sym (prep_is b) ∙ e) ∙ sym (ap (λ d. is_id_among b d.on) (same.data_is a));
    settled = λ q e. ap (λ d. d.dependents) (same.data_is q) ∙ h.settled q (sym (prep_is q) ∙ e);
    stopped = λ a b e.
        let s = h.stopped a b (sym (ap (λ d. is_id_among b d.on) (same.data_is a)) ∙ e) in record { drawn = subst (λ c. b.0 ≤ c) (sym same.clock) s.drawn; stopped = λ g. s.stopped (sym (same.state_is b) ∙ g) };
    known = λ a b e. subst (λ c. a.0 ≤ c) (sym same.clock) (h.known a b (sym (ap (λ d. is_id_among a d.dependents) (same.data_is b)) ∙ e));
    drawn = λ q there. subst (λ c. q.0 ≤ c) (sym same.clock) (h.drawn q (sym (same.there_is q) ∙ there));
    fallen = λ q e. record { drawn = subst (λ c. q.0 ≤ c) (sym same.clock) (h.fallen q e).drawn; fallen = subst IsAbortedOrGone (sym (same.state_is q)) (h.fallen q e).fallen };
  } where
    prep_is : (q : TxId) → is_id_preparing u q ≡ is_id_preparing t q
    prep_is q = ap (λ o. is_some (open_end o)) (same.state_is q)

  -- the caller writes what it keeps of one, and not its dependencies
  pub written_alike : (t : Txns (Node P)) (id : TxId) (node new : Node P) → kept_of t id.0 ≡ Some node → new.dependencies ≡ node.dependencies → LooksSame t (table_after_write t id.0 new)
  written_alike t id node new was same = record { clock = refl; there_is = there_is; state_is = state_is; data_is = data_is }
    where
      rewritten : Bool → TableSeat (Node P) → TableSeat (Node P)
      rewritten true s = record s { kept = new }
      rewritten false s = s

      same_seat : (o : Option (TableSeat (Node P))) → o ≡ option_map (rewritten false) o
      same_seat None = refl
      same_seat (Some s) = refl

      at : (o : Option (TableSeat (Node P))) → get t.seats id.0 ≡ o → (q : ℕ) → get (with_kept_at o t.seats id.0 new) q ≡ option_map (rewritten (eqb q id.0)) (get t.seats q)
      at None there q =
          ⊎_elim
          (λ is. ap (get t.seats) is ∙ there ∙ sym (ap (option_map (rewritten (eqb q id.0))) (ap (get t.seats) is ∙ there)))
          (λ ne. same_seat (get t.seats q) ∙ ap (λ b. option_map (rewritten b) (get t.seats q)) (sym (ne_eqb q id.0 ne)))
          (cases_eq q id.0)
      at (Some s) there q =
          ⊎_elim
          (λ is. ap (get (insert t.seats id.0 (record s { kept = new }))) is ∙ get_inserted t.seats id.0 (record s { kept = new })
          ∙ sym (ap (λ b. option_map (rewritten b) (get t.seats q)) (eq-eqb q id.0 is) ∙ ap (option_map (rewritten true)) (ap (get t.seats) is ∙ there)))
          (λ ne. get_beside t.seats id.0 (record s { kept = new }) q ne ∙ same_seat (get t.seats q) ∙ ap (λ b. option_map (rewritten b) (get t.seats q)) (sym (ne_eqb q id.0 ne)))
          (cases_eq q id.0)

      got : (q : ℕ) → get (table_after_write t id.0 new).seats q ≡ option_map (rewritten (eqb q id.0)) (get t.seats q)
      got q = at (get t.seats id.0) refl q

      there_by : (b : Bool) (o : Option (TableSeat (Node P))) → is_some (option_map (rewritten b) o) ≡ is_some o
      there_by b None = refl
      there_by true (Some s) = refl
      there_by false (Some s) = refl

      there_is : (q : TxId) → is_some (get (table_after_write t id.0 new).seats q.0) ≡ is_some (get t.seats q.0)
      there_is q = ap is_some (got q.0) ∙ there_by (eqb q.0 id.0) (get t.seats q.0)

      state_by : (b : Bool) (o : Option (TableSeat (Node P))) → option_map (λ s. s.state) (option_map (rewritten b) o) ≡ option_map (λ s. s.state) o
      state_by b None = refl
      state_by true (Some s) = refl
      state_by false (Some s) = refl

      state_is : (q : TxId) → state_of (table_after_write t id.0 new) q.0 ≡ state_of t q.0
      state_is q = ap (option_map (λ s. s.state)) (got q.0) ∙ state_by (eqb q.0 id.0) (get t.seats q.0)

      data_here : (o : Option (TableSeat (Node P))) → option_map (λ s. s.kept) o ≡ Some node → data_in (option_map (λ s. s.kept) (option_map (rewritten true) o)) ≡ data_in (option_map (λ s. s.kept) o)
      data_here None e = refl
      data_here (Some s) e = same ∙ sym (ap data_in e)

      data_other : (o : Option (TableSeat (Node P))) → data_in (option_map (λ s. s.kept) (option_map (rewritten false) o)) ≡ data_in (option_map (λ s. s.kept) o)
      data_other None = refl
      data_other (Some s) = refl

      data_is : (q : TxId) → data_of (table_after_write t id.0 new) q ≡ data_of t q
      data_is q =
          ap (λ o. data_in (option_map (λ s. s.kept) o)) (got q.0)
          ∙ ⊎_elim
          (λ is. ap (λ b. data_in (option_map (λ s. s.kept) (option_map (rewritten b) (get t.seats q.0)))) (eq-eqb q.0 id.0 is) ∙ data_here (get t.seats q.0) (ap (kept_of t) is ∙ was))
          (λ ne. ap (λ b. data_in (option_map (λ s. s.kept) (option_map (rewritten b) (get t.seats q.0)))) (ne_eqb q.0 id.0 ne) ∙ data_other (get t.seats q.0))
          (cases_eq q.0 id.0)

  pub kept_written : (t : Txns (Node P)) (id : TxId) (node new : Node P) (ab : List TxId) → kept_of t id.0 ≡ Some node → new.dependencies ≡ node.dependencies
      → IsDependencyGraph t ab → IsDependencyGraph (table_after_write t id.0 new) ab
  kept_written t id node new ab was same h = kept_alike t (table_after_write t id.0 new) ab (written_alike t id node new was same) h

  -- nobody has begun
  pub graph_of_none : (mark : ℕ) → IsDependencyGraph (no_txns {P = Node P} mark) []
  graph_of_none mark = record {
    counter = λ q. ap (λ d. d.unsettled) (none_at q) ∙ sym (ap (λ d. preparing_count (no_txns {P = Node P} mark) d.on) (none_at q));
    flag = λ q. ap (λ d. d.aborted) (none_at q);
    on_once = λ q. subst (λ d. AreDistinctIds d.on) (sym (none_at q)) tt;
    dependents_once = λ q. subst (λ d. AreDistinctIds d.dependents) (sym (none_at q)) tt;
    both_sides = λ a b there e. ap (λ d. is_id_among a d.dependents) (none_at b) ∙ sym (ap (λ d. is_id_among b d.on) (none_at a));
    settled = λ q e. ap (λ d. d.dependents) (none_at q);
    stopped = λ a b e. absurd (false≢true (sym (ap (λ d. is_id_among b d.on) (none_at a)) ∙ e));
    known = λ a b e. absurd (false≢true (sym (ap (λ d. is_id_among a d.dependents) (none_at b)) ∙ e));
    drawn = λ q there. absurd (false≢true (sym (ap is_some (get-empty nat_cmp q.0)) ∙ there));
    fallen = λ q e. absurd (false≢true e);
  } where
    none_at : (q : TxId) → data_of (no_txns {P = Node P} mark) q ≡ no_dependencies
    none_at q = ap (λ o. data_in (option_map (λ s. s.kept) o)) (get-empty nat_cmp q.0)
