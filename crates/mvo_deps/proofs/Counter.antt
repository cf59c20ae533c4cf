-- Whoever waits for somebody has a counter above 0.
use Rattle.std.proofs.Common.{◌≡◌, ℕ, ◌<◌, true, List, Option, Some, None, refl, sym, ap, ◌∙◌, arith}
use Rattle.std.specs.Prelude.{MatchOption, nat_lt}
use Rattle.std.specs.Option.{is_some}
use Rattle.std.proofs.lemmas.Bool.{false≢true, lt-ltb}
use Rattle.mvo_types.specs.declared.ids.TxId.{TxId}
use Rattle.mvo_txn.specs.Txns.{Txns, state_of}
use Rattle.mvo_txn.specs.Queue.{open_end}
use Rattle.mvo_txn.proofs.Chairs.{not_true}
use Rattle.mvo_deps.specs.declared.node.Node.{Node}
use Rattle.mvo_deps.specs.Waiting.{IsLeastOpen, HasNoneOpen}
use Rattle.mvo_deps.specs.Nodes.{data_of}
use Rattle.mvo_deps.specs.Graph.{is_id_preparing, IsDependencyGraph}
use Rattle.mvo_deps.proofs.Lists.{count_none, count_some}

-- an end, if there is one
some_of : (o : Option ℕ) → is_some o ≡ true → (n : ℕ) × (o ≡ Some n)
some_of None e = absurd (false≢true e)
some_of (Some n) e = (n, refl)

above_zero : (n : ℕ) → 0 < n → nat_lt 0 n ≡ true
above_zero n h = lt-ltb 0 n h

module _ {P : Type 0} where
  pub waits_by_counter : (t : Txns (Node P)) (tx : TxId) (whom : Option TxId) (ab : List TxId)
      → MatchOption whom (HasNoneOpen t (data_of t tx).on) (IsLeastOpen t (data_of t tx).on) → IsDependencyGraph t ab → is_some whom ≡ nat_lt 0 (data_of t tx).unsettled
  waits_by_counter t tx None ab none h =
      sym (ap (nat_lt 0) (h.counter tx ∙ count_none (is_id_preparing t) (data_of t tx).on (λ q e. not_true (is_id_preparing t q) (λ p. let w = some_of (open_end (state_of t q.0)) p in none.none q w.0 (record { among = e; open_end_is = w.1 })))))
  waits_by_counter t tx (Some id) ab least h =
      let some = count_some (is_id_preparing t) id (data_of t tx).on least.is_open.among (λ q is. ap (λ n. is_some (open_end (state_of t n))) is ∙ ap is_some least.is_open.open_end_is) in
      sym (above_zero (data_of t tx).unsettled (let counted = h.counter tx in omega (arith, some, counted)))
