-- What the table keeps of dependencies after each of its own calls.
use Rattle.std.proofs.Common.{◌≡◌, ◌≢◌, ℕ, ◌+◌, cond, Option, None, Some, refl, sym, ap, ◌∙◌, ⊎_elim}
use Rattle.std.specs.Option.{option_map}
use Rattle.std.proofs.lemmas.Bool.{cases_eq, eq-eqb, ne_eqb, false≢true}
use Rattle.mvo_types.specs.declared.ids.TxId.{TxId}
use Rattle.mvo_types.specs.declared.ids.Stamp.{Stamp}
use Rattle.mvo_txn.specs.declared.state.TxState.{TxState}
use Rattle.mvo_txn.specs.declared.state.TxState.TheVariants.{Active, Preparing, Committed, Aborted}
use Rattle.mvo_txn.specs.declared.table_seat.TableSeat.{TableSeat}
use Rattle.mvo_txn.specs.Seats.{with_state}
use Rattle.mvo_txn.specs.Txns.{Txns, state_of, kept_of, IsPreparingState, table_after_begin, table_after_write, after_terminate}
use Rattle.mvo_txn.proofs.Stamps.{get_inserted, get_beside, get_removed, get_left}
use Rattle.mvo_deps.specs.declared.node.Node.{Node}
use Rattle.mvo_deps.specs.Data.{DependencyData, no_dependencies, without_dependents}
use Rattle.mvo_deps.specs.Nodes.{data_in, data_of, after_change, IsReported}
use Rattle.mvo_deps.proofs.Changes.{clock_changed}
use Rattle.mvo_deps.proofs.Looks.{kept_restated, state_changed, state_each}
use Rattle.mvo_deps.proofs.Calls.{written_alike}
use Rattle.mvo_representation.specs.Nodes.{node_as, nodes_of, no_node, nodes_after_begin}
use Rattle.mvo_representation.specs.Dependencies.{tx_id}

-- one that is Preparing has an end
pub preparing_state : (o : Option TxState) → IsPreparingState o → (e : Stamp) × (o ≡ Some (Preparing e))
preparing_state None h = absurd (false≢true h)
preparing_state (Some Active) h = absurd (false≢true h)
preparing_state (Some (Preparing e)) h = (e, refl)
preparing_state (Some (Committed e)) h = absurd (false≢true h)
preparing_state (Some Aborted) h = absurd (false≢true h)

module _ {P : Type 0} where
  abbrev at_seat : Option (TableSeat (Node P)) → DependencyData
  at_seat o = data_in (option_map (λ s. s.kept) o)

  -- ---- a begin
  begun_at : (old : Txns (Node P)) (node : Node P) → node.dependencies ≡ no_dependencies → (u : ℕ) → nodes_of (table_after_begin old node) u ≡ nodes_after_begin (old.clock + 1) (nodes_of old) u
  begun_at old node none u = ⊎_elim
      (λ is. ap (nodes_of (table_after_begin old node)) is
      ∙ ap (λ o. node_as (at_seat o)) (get_inserted old.seats (old.clock + 1) seat)
      ∙ ap node_as none
      ∙ sym (ap (λ b. cond b no_node (nodes_of old u)) (eq-eqb u (old.clock + 1) is)))
      (λ ne. ap (λ o. node_as (at_seat o)) (get_beside old.seats (old.clock + 1) seat u ne)
      ∙ sym (ap (λ b. cond b no_node (nodes_of old u)) (ne_eqb u (old.clock + 1) ne)))
      (cases_eq u (old.clock + 1))
    where
      seat : TableSeat (Node P)
      seat = record { state = Active; kept = node }

  pub begun_nodes : (old : Txns (Node P)) (node : Node P) → node.dependencies ≡ no_dependencies → nodes_after_begin (old.clock + 1) (nodes_of old) ≡ nodes_of (table_after_begin old node)
  begun_nodes old node none = λ i u. sym (begun_at old node none u) i

  pub begun_state : (old : Txns (Node P)) (node : Node P) → state_of (table_after_begin old node) (old.clock + 1) ≡ Some Active
  begun_state old node = ap (option_map (λ s. s.state)) (get_inserted old.seats (old.clock + 1) (record { state = Active; kept = node }))

  pub begun_others : (old : Txns (Node P)) (node : Node P) (u : ℕ) → u ≢ old.clock + 1 → state_of (table_after_begin old node) u ≡ state_of old u
  begun_others old node u ne = ap (option_map (λ s. s.state)) (get_beside old.seats (old.clock + 1) (record { state = Active; kept = node }) u ne)

  -- ---- another state, at any clock
  abbrev pub restated : Txns (Node P) → ℕ → ℕ → TxState → Txns (Node P)
  restated old clock t now = record { clock = clock; seats = with_state old.seats t now }

  pub restated_nodes : (old : Txns (Node P)) (clock t : ℕ) (now : TxState) → nodes_of old ≡ nodes_of (restated old clock t now)
  restated_nodes old clock t now = λ i u. node_as (data_in (sym (kept_restated old.seats t now u) i))

  -- ---- what the caller keeps
  pub written_nodes : (old : Txns (Node P)) (t : ℕ) (node new : Node P) → kept_of old t ≡ Some node → new.dependencies ≡ node.dependencies → nodes_of old ≡ nodes_of (table_after_write old t new)
  written_nodes old t node new was same = λ i u. node_as (sym ((written_alike old (tx_id t) node new was same).data_is (tx_id u)) i)

  pub written_state : (old : Txns (Node P)) (t : ℕ) (node new : Node P) → kept_of old t ≡ Some node → new.dependencies ≡ node.dependencies → (u : ℕ) → state_of (table_after_write old t new) u ≡ state_of old u
  written_state old t node new was same u = (written_alike old (tx_id t) node new was same).state_is (tx_id u)

  -- ---- a report
  pub reported_state : (change : DependencyData → DependencyData) (old new : Txns (Node P)) (on : TxId) → IsReported change old new on → (u : ℕ) → state_of new u ≡ state_of old u
  reported_state change old new on told u =
      state_each change (after_change old on.0 without_dependents) new (data_of old on).dependents (tx_id u) told
      ∙ state_changed old on.0 without_dependents u

  pub reported_clock : (change : DependencyData → DependencyData) (old new : Txns (Node P)) (on : TxId) → IsReported change old new on → new.clock ≡ old.clock
  reported_clock change old new on told = told.clock ∙ clock_changed old on.0 without_dependents

  -- ---- one leaves
  pub left_nodes : (old : Txns (Node P)) (t u : ℕ) → u ≢ t → nodes_of (after_terminate old t) u ≡ nodes_of old u
  left_nodes old t u ne = ap (λ o. node_as (at_seat o)) (get_left old.seats t u ne)

  pub left_state : (old : Txns (Node P)) (t : ℕ) → state_of (after_terminate old t) t ≡ None
  left_state old t = ap (option_map (λ s. s.state)) (get_removed old.seats t)

  pub left_others : (old : Txns (Node P)) (t u : ℕ) → u ≢ t → state_of (after_terminate old t) u ≡ state_of old u
  left_others old t u ne = ap (option_map (λ s. s.state)) (get_left old.seats t u ne)
