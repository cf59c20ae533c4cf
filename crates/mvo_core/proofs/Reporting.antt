-- What is kept of each transaction stays where one stands otherwise, and is reported.
use Rattle.std.proofs.Common.{◌≡◌, ◌≢◌, ℕ, List, Option, None, Some, refl, sym, ap, ◌∙◌}
use Rattle.std.specs.Option.{option_map}
use Rattle.std.specs.FinMap.{get}
use Rattle.mvo_types.specs.declared.ids.TxId.{TxId}
use Rattle.mvo_txn.specs.declared.table_seat.TableSeat.{TableSeat}
use Rattle.mvo_txn.specs.declared.state.TxState.{TxState}
use Rattle.mvo_txn.specs.Txns as txns
use Rattle.mvo_txn.specs.Txns.{Txns, state_of}
use Rattle.mvo_deps.specs.declared.node.Node.{Node}
use Rattle.mvo_deps.specs.Data.{DependencyData, is_id_among, without_dependents}
use Rattle.mvo_deps.specs.Nodes.{data_of, after_change, changed_if, with_data, IsEachChanged, IsReported}
use Rattle.mvo_deps.proofs.Changes.{get_changed}
use Rattle.mvo_deps.proofs.Looks.{kept_restated, state_now, state_restated}
use Rattle.mvo_representation.specs.Dependencies.{tx_id}
use Rattle.mvo_representation.proofs.TableNodes.{reported_state}
use Rattle.mvo_core.specs.declared.kept_transaction.KeptTransaction.{KeptTransaction}
use Rattle.mvo_core.specs.Data.{own_of}
use Rattle.mvo_core.specs.Standing.{own_words_of, words_in}
use Rattle.mvo_core.proofs.Carried.{SaysAsMuch, as_much}

abbrev own_at : Option (TableSeat (Node KeptTransaction)) → Option KeptTransaction
own_at o = option_map (λ n. n.own) (option_map (λ s. s.kept) o)

own_with : (f : DependencyData → DependencyData) (o : Option (TableSeat (Node KeptTransaction))) → own_at (option_map (with_data f) o) ≡ own_at o
own_with f None = refl
own_with f (Some s) = refl

own_changed : (table : Txns (Node KeptTransaction)) (id : ℕ) (f : DependencyData → DependencyData) (u : ℕ) → own_of (after_change table id f) u ≡ own_of table u
own_changed table id f u = ap own_at (get_changed table id f u) ∙ own_with (changed_if (Rattle.std.proofs.Common.eqb u id) f) (get table.seats u)

own_each : (f : DependencyData → DependencyData) (old new : Txns (Node KeptTransaction)) (ids : List TxId) → IsEachChanged f old new ids → (u : ℕ) → own_of new u ≡ own_of old u
own_each f old new ids h u = ap own_at (h.each (tx_id u)) ∙ own_with (changed_if (is_id_among (tx_id u) ids) f) (get old.seats u)

own_reported : (f : DependencyData → DependencyData) (old new : Txns (Node KeptTransaction)) (on : TxId) → IsReported f old new on → (u : ℕ) → own_of new u ≡ own_of old u
own_reported f old new on h u = own_each f (after_change old on.0 without_dependents) new (data_of old on).dependents h u ∙ own_changed old on.0 without_dependents u

-- ---- one stands otherwise, and is reported
module _ (f : DependencyData → DependencyData) (old untold new : Txns (Node KeptTransaction)) (t : TxId) (state : TxState) (is : untold ≡ txns.table_after_change old t.0 state) (told : IsReported f untold new t) where
  pub own_same : (u : ℕ) → own_of new u ≡ own_of old u
  own_same u = own_reported f untold new t told u ∙ ap (λ x. own_of x u) is ∙ ap (option_map (λ n. n.own)) (kept_restated old.seats t.0 state u)

  pub says_same : SaysAsMuch old new
  says_same u own w = (own, own_same u ∙ w, as_much own)

  pub words_same : words_in old ≡ words_in new
  words_same = λ i u. own_words_of (sym (own_same u) i)

  pub stands_now : (was : TxState) → state_of old t.0 ≡ Some was → state_of new t.0 ≡ Some state
  stands_now was w = reported_state f untold new t told t.0 ∙ ap (λ x. state_of x t.0) is ∙ state_now old.seats t.0 state was t.0 refl w

  pub others_stand : (u : ℕ) → u ≢ t.0 → state_of new u ≡ state_of old u
  others_stand u ne = reported_state f untold new t told u ∙ ap (λ x. state_of x u) is ∙ state_restated old.seats t.0 state u ne
