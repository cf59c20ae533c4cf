-- One look writes what is kept of a transaction, and how it stands, as two would.
use Rattle.std.proofs.Common.{◌≡◌, ℕ, ◌+◌, Option, None, Some, refl, sym, ap, ◌∙◌}
use Rattle.std.specs.FinMap.{get, insert}
use Rattle.std.specs.Option.{option_map}
use Rattle.mvo_types.specs.declared.ids.TxId.{TxId}
use Rattle.mvo_txn.specs.declared.state.TxState.{TxState}
use Rattle.mvo_txn.specs.declared.state.TxState.TheVariants.{Preparing}
use Rattle.mvo_txn.specs.declared.table_seat.TableSeat.{TableSeat}
use Rattle.mvo_txn.specs.Seats.{SeatMap, with_state, with_state_at, with_kept, with_kept_at}
use Rattle.mvo_txn.specs.Txns.{Txns, kept_of, table_after_prepare, table_after_change, table_after_write}
use Rattle.mvo_txn.proofs.Stamps.{get_inserted}
use Rattle.mvo_deps.specs.declared.node.Node.{Node}
use Rattle.mvo_deps.specs.Nodes.{data_in, data_of}
use Rattle.mvo_deps.proofs.Calls.{written_alike}
use Rattle.mvo_deps.proofs.Looks.{kept_restated}
use Rattle.mvo_core.specs.declared.kept_transaction.KeptTransaction.{KeptTransaction}
use Rattle.mvo_core.specs.Keeping.{IsWritten, IsWrittenThen, with_own_at}
use Rattle.mvo_core.proofs.Alone.{inserted_twice}
use Rattle.mvo_core.proofs.Written.{written}

module _ {P : Type 0} (m : SeatMap P) (id : ℕ) (state : TxState) (kept : P) where
  either_first_at : (o : Option (TableSeat P)) → get m id ≡ o → with_kept (with_state_at o m id state) id kept ≡ with_state (with_kept_at o m id kept) id state
  either_first_at None there = ap (λ o. with_kept_at o m id kept) there ∙ sym (ap (λ o. with_state_at o m id state) there)
  either_first_at (Some s) there =
      let stood : TableSeat P = record s { state = state } in
      let held : TableSeat P = record s { kept = kept } in
      let both : TableSeat P = record { state = state; kept = kept } in
      ap (λ o. with_kept_at o (insert m id stood) id kept) (get_inserted m id stood) ∙ inserted_twice m id stood both
      ∙ sym (ap (λ o. with_state_at o (insert m id held) id state) (get_inserted m id held) ∙ inserted_twice m id held both)

  -- the state may be written first, or what is kept
  either_first : with_kept (with_state m id state) id kept ≡ with_state (with_kept m id kept) id state
  either_first = either_first_at (get m id) refl

module _ (table : Txns (Node KeptTransaction)) (t : ℕ) (node : Node KeptTransaction) (after : KeptTransaction) (change : KeptTransaction → KeptTransaction → Type 0) (kept : Some node ≡ kept_of table t) (changed : change node.own after) where
  abbrev now : Node KeptTransaction
  now = record node { own = after }

  -- it has drawn its end
  pub written_prepared : IsWrittenThen table (table_after_write (table_after_prepare table t) t now) t change (λ x. table_after_prepare x t)
  written_prepared = record {
    between = table_after_write table t now;
    written = written table t node after change kept changed;
    is = ap (λ (seats : SeatMap (Node KeptTransaction)). record { clock = table.clock + 1; seats = seats }) (either_first table.seats t (Preparing (record { 0 = table.clock + 1 })) now);
  }

  -- it stands so
  pub written_changed : (state : TxState) → IsWrittenThen table (table_after_write (table_after_change table t state) t now) t change (λ x. table_after_change x t state)
  written_changed state = record {
    between = table_after_write table t now;
    written = written table t node after change kept changed;
    is = ap (λ (seats : SeatMap (Node KeptTransaction)). record { clock = table.clock; seats = seats }) (either_first table.seats t state now);
  }

-- ---- on whom it depends stays
pub none_own : (own : KeptTransaction) → ◌≡◌ {A = Option KeptTransaction} None (Some own) → ⊥
none_own own q = cc

data_written : (old new : Txns (Node KeptTransaction)) (t : TxId) (change : KeptTransaction → KeptTransaction → Type 0) → IsWritten old new t.0 change → data_of new t ≡ data_of old t
data_written old new t change w = go (kept_of old t.0) refl w.was
  where
    go : (o : Option (Node KeptTransaction)) → kept_of old t.0 ≡ o → option_map (λ n. n.own) o ≡ Some w.before → data_of new t ≡ data_of old t
    go None k e = absurd (none_own w.before e)
    go (Some node) k e =
        ap (λ x. data_of x t) (w.is ∙ ap (λ o. with_own_at o old t.0 w.after) k) ∙ (written_alike old t node (record node { own = w.after }) k refl).data_is t

pub data_changed : (old new : Txns (Node KeptTransaction)) (t : TxId) (change : KeptTransaction → KeptTransaction → Type 0) (state : TxState) → IsWrittenThen old new t.0 change (λ x. table_after_change x t.0 state) → data_of new t ≡ data_of old t
data_changed old new t change state w =
    ap (λ x. data_of x t) w.is ∙ ap data_in (kept_restated w.between.seats t.0 state t.0) ∙ data_written old w.between t change w.written
