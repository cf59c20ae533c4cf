-- What a look-up finds of each transaction after a change of a table.
use Rattle.std.proofs.Common.{◌≡◌, ◌≢◌, ℕ, Bool, true, false, eqb, List, Option, Some, None, refl, sym, ap, ◌∙◌, ⊎_elim}
use Rattle.std.proofs.lemmas.Bool.{cases_eq, eq-eqb, false≢true, ne_eqb}
use Rattle.std.proofs.lemmas.Option.{none-some}
use Rattle.std.specs.Option.{option_map, is_some}
use Rattle.std.specs.FinMap.{get, insert}
use Rattle.mvo_types.specs.declared.ids.TxId.{TxId}
use Rattle.mvo_txn.specs.declared.state.TxState.{TxState}
use Rattle.mvo_txn.specs.declared.table_seat.TableSeat.{TableSeat}
use Rattle.mvo_txn.specs.Seats.{SeatMap, state_in, kept_in, with_state, with_state_at}
use Rattle.mvo_txn.specs.Txns.{Txns, state_of}
use Rattle.mvo_txn.proofs.Stamps.{get_inserted, get_beside}
use Rattle.mvo_deps.specs.declared.node.Node.{Node}
use Rattle.mvo_deps.specs.Data.{DependencyData, no_dependencies, is_id_among}
use Rattle.mvo_deps.specs.Nodes.{after_change, changed_if, with_data, data_in, data_of, IsEachChanged}
use Rattle.mvo_deps.proofs.Changes.{get_changed}

module _ {P : Type 0} where
  -- ---- a seat with another state
  abbrev pub restated : Bool → TxState → TableSeat P → TableSeat P
  restated true state s = record s { state = state }
  restated false state s = s

  same_seat : (o : Option (TableSeat P)) (state : TxState) → o ≡ option_map (restated false state) o
  same_seat None state = refl
  same_seat (Some s) state = refl

  restated_at : (m : SeatMap P) (id : ℕ) (state : TxState) (o : Option (TableSeat P)) → get m id ≡ o → (q : ℕ)
      → get (with_state_at o m id state) q ≡ option_map (restated (eqb q id) state) (get m q)
  restated_at m id state None there q =
      ⊎_elim
      (λ is. ap (get m) is ∙ there ∙ sym (ap (option_map (restated (eqb q id) state)) (ap (get m) is ∙ there)))
      (λ ne. same_seat (get m q) state ∙ ap (λ b. option_map (restated b state) (get m q)) (sym (ne_eqb q id ne)))
      (cases_eq q id)
  restated_at m id state (Some s) there q =
      ⊎_elim
      (λ is. ap (get (insert m id (record s { state = state }))) is ∙ get_inserted m id (record s { state = state })
      ∙ sym (ap (λ b. option_map (restated b state) (get m q)) (eq-eqb q id is) ∙ ap (option_map (restated true state)) (ap (get m) is ∙ there)))
      (λ ne. get_beside m id (record s { state = state }) q ne ∙ same_seat (get m q) state ∙ ap (λ b. option_map (restated b state) (get m q)) (sym (ne_eqb q id ne)))
      (cases_eq q id)

  pub get_restated : (m : SeatMap P) (id : ℕ) (state : TxState) (q : ℕ) → get (with_state m id state) q ≡ option_map (restated (eqb q id) state) (get m q)
  get_restated m id state q = restated_at m id state (get m id) refl q

  kept_same : (b : Bool) (state : TxState) (o : Option (TableSeat P)) → option_map (λ s. s.kept) (option_map (restated b state) o) ≡ option_map (λ s. s.kept) o
  kept_same b state None = refl
  kept_same true state (Some s) = refl
  kept_same false state (Some s) = refl

  there_same : (b : Bool) (state : TxState) (o : Option (TableSeat P)) → is_some (option_map (restated b state) o) ≡ is_some o
  there_same b state None = refl
  there_same true state (Some s) = refl
  there_same false state (Some s) = refl

  pub kept_restated : (m : SeatMap P) (id : ℕ) (state : TxState) (q : ℕ) → kept_in (with_state m id state) q ≡ kept_in m q
  kept_restated m id state q = ap (option_map (λ s. s.kept)) (get_restated m id state q) ∙ kept_same (eqb q id) state (get m q)

  pub there_restated : (m : SeatMap P) (id : ℕ) (state : TxState) (q : ℕ) → is_some (get (with_state m id state) q) ≡ is_some (get m q)
  there_restated m id state q = ap is_some (get_restated m id state q) ∙ there_same (eqb q id) state (get m q)

  state_beside : (b : Bool) → b ≡ false → (state : TxState) (o : Option (TableSeat P)) → option_map (λ s. s.state) (option_map (restated b state) o) ≡ option_map (λ s. s.state) o
  state_beside b e state None = refl
  state_beside true e state (Some s) = absurd (false≢true (sym e))
  state_beside false e state (Some s) = refl

  state_here : (b : Bool) → b ≡ true → (state old : TxState) (o : Option (TableSeat P)) → option_map (λ s. s.state) o ≡ Some old → option_map (λ s. s.state) (option_map (restated b state) o) ≡ Some state
  state_here b e state old None was = absurd (none-some old was)
  state_here true e state old (Some s) was = refl
  state_here false e state old (Some s) was = absurd (false≢true e)

  -- the others stand as before
  pub state_restated : (m : SeatMap P) (id : ℕ) (state : TxState) (q : ℕ) → q ≢ id → state_in (with_state m id state) q ≡ state_in m q
  state_restated m id state q ne = ap (option_map (λ s. s.state)) (get_restated m id state q) ∙ state_beside (eqb q id) (ne_eqb q id ne) state (get m q)

  -- it stands so
  pub state_now : (m : SeatMap P) (id : ℕ) (state old : TxState) (q : ℕ) → q ≡ id → state_in m id ≡ Some old → state_in (with_state m id state) q ≡ Some state
  state_now m id state old q is was =
      ap (option_map (λ s. s.state)) (get_restated m id state q)
      ∙ state_here (eqb q id) (eq-eqb q id is) state old (get m q) (ap (state_in m) is ∙ was)

module _ {P : Type 0} where
  -- ---- a seat with other dependencies
  data_changed_at : (b : Bool) (f : DependencyData → DependencyData) (o : Option (TableSeat (Node P))) → is_some o ≡ true
      → data_in (option_map (λ s. s.kept) (option_map (with_data (changed_if b f)) o)) ≡ changed_if b f (data_in (option_map (λ s. s.kept) o))
  data_changed_at b f None there = absurd (false≢true there)
  data_changed_at b f (Some s) there = refl

  data_gone_at : (b : Bool) (f : DependencyData → DependencyData) (o : Option (TableSeat (Node P))) → is_some o ≡ false
      → data_in (option_map (λ s. s.kept) (option_map (with_data (changed_if b f)) o)) ≡ data_in (option_map (λ s. s.kept) o)
  data_gone_at b f None gone = refl
  data_gone_at b f (Some s) gone = absurd (false≢true (sym gone))

  no_data_at : (o : Option (TableSeat (Node P))) → is_some o ≡ false → data_in (option_map (λ s. s.kept) o) ≡ no_dependencies
  no_data_at None gone = refl
  no_data_at (Some s) gone = absurd (false≢true (sym gone))

  state_changed_at : (b : Bool) (f : DependencyData → DependencyData) (o : Option (TableSeat (Node P)))
      → option_map (λ s. s.state) (option_map (with_data (changed_if b f)) o) ≡ option_map (λ s. s.state) o
  state_changed_at b f None = refl
  state_changed_at b f (Some s) = refl

  there_changed_at : (b : Bool) (f : DependencyData → DependencyData) (o : Option (TableSeat (Node P))) → is_some (option_map (with_data (changed_if b f)) o) ≡ is_some o
  there_changed_at b f None = refl
  there_changed_at b f (Some s) = refl

  pub no_data : (t : Txns (Node P)) (q : TxId) → is_some (get t.seats q.0) ≡ false → data_of t q ≡ no_dependencies
  no_data t q gone = no_data_at (get t.seats q.0) gone

  pub state_changed : (t : Txns (Node P)) (id : ℕ) (f : DependencyData → DependencyData) (q : ℕ) → state_of (after_change t id f) q ≡ state_of t q
  state_changed t id f q = ap (option_map (λ s. s.state)) (get_changed t id f q) ∙ state_changed_at (eqb q id) f (get t.seats q)

  pub there_changed : (t : Txns (Node P)) (id : ℕ) (f : DependencyData → DependencyData) (q : ℕ) → is_some (get (after_change t id f).seats q) ≡ is_some (get t.seats q)
  there_changed t id f q = ap is_some (get_changed t id f q) ∙ there_changed_at (eqb q id) f (get t.seats q)

  pub data_changed : (t : Txns (Node P)) (id : ℕ) (f : DependencyData → DependencyData) (q : TxId) → is_some (get t.seats q.0) ≡ true
      → data_of (after_change t id f) q ≡ changed_if (eqb q.0 id) f (data_of t q)
  data_changed t id f q there = ap (λ o. data_in (option_map (λ s. s.kept) o)) (get_changed t id f q.0) ∙ data_changed_at (eqb q.0 id) f (get t.seats q.0) there

  pub data_gone : (t : Txns (Node P)) (id : ℕ) (f : DependencyData → DependencyData) (q : TxId) → is_some (get t.seats q.0) ≡ false
      → data_of (after_change t id f) q ≡ data_of t q
  data_gone t id f q gone = ap (λ o. data_in (option_map (λ s. s.kept) o)) (get_changed t id f q.0) ∙ data_gone_at (eqb q.0 id) f (get t.seats q.0) gone

  -- ---- each of some changed
  pub state_each : (f : DependencyData → DependencyData) (t u : Txns (Node P)) (ids : List TxId) (q : TxId) → IsEachChanged f t u ids → state_of u q.0 ≡ state_of t q.0
  state_each f t u ids q h = ap (option_map (λ s. s.state)) (h.each q) ∙ state_changed_at (is_id_among q ids) f (get t.seats q.0)

  pub there_each : (f : DependencyData → DependencyData) (t u : Txns (Node P)) (ids : List TxId) (q : TxId) → IsEachChanged f t u ids → is_some (get u.seats q.0) ≡ is_some (get t.seats q.0)
  there_each f t u ids q h = ap is_some (h.each q) ∙ there_changed_at (is_id_among q ids) f (get t.seats q.0)

  pub data_each : (f : DependencyData → DependencyData) (t u : Txns (Node P)) (ids : List TxId) (q : TxId) → IsEachChanged f t u ids → is_some (get t.seats q.0) ≡ true
      → data_of u q ≡ changed_if (is_id_among q ids) f (data_of t q)
  data_each f t u ids q h there = ap (λ o. data_in (option_map (λ s. s.kept) o)) (h.each q) ∙ data_changed_at (is_id_among q ids) f (get t.seats q.0) there

  pub data_each_gone : (f : DependencyData → DependencyData) (t u : Txns (Node P)) (ids : List TxId) (q : TxId) → IsEachChanged f t u ids → is_some (get t.seats q.0) ≡ false
      → data_of u q ≡ data_of t q
  data_each_gone f t u ids q h gone = ap (λ o. data_in (option_map (λ s. s.kept) o)) (h.each q) ∙ data_gone_at (is_id_among q ids) f (get t.seats q.0) gone
