-- What one look at a transaction leaves, where several would leave the same.
use Rattle.std.proofs.Common.{◌≡◌, ℕ, false, List, [], ◌∷◌, Option, None, Some, refl, sym, ap, ◌∙◌, subst, arith, ⊎_elim}
use Rattle.std.specs.Prelude.{IsSome, length, nat_lt, slice_get}
use Rattle.std.specs.Option.{option_map}
use Rattle.std.proofs.lemmas.Bool.{cases_eq, false≢true, lt-ltb}
use Rattle.std.proofs.lemmas.Cmp.{nat_cmp_total}
use Rattle.std.specs.Ordering.{nat_cmp}
use Rattle.std.specs.FinMap.{FinMap, get, insert, same_map, nat_cmp-IsAntisymmetric}
use Rattle.mvo_types.specs.declared.ids.TxId.{TxId}
use Rattle.mvo_chain.specs.Slots.{Slots}
use Rattle.mvo_word.specs.declared.held.Held.{Held}
use Rattle.mvo_txn.specs.declared.table_seat.TableSeat.{TableSeat}
use Rattle.mvo_txn.specs.Seats.{with_kept_at}
use Rattle.mvo_txn.specs.Txns.{Txns, kept_of, table_after_write}
use Rattle.mvo_txn.proofs.Stamps.{get_inserted, get_beside}
use Rattle.mvo_deps.specs.declared.node.Node.{Node}
use Rattle.mvo_deps.specs.Data.{DependencyData, without_dependents}
use Rattle.mvo_deps.specs.Nodes.{data_in, data_of, after_change, after_change_at, IsEachChanged, IsReported}
use Rattle.mvo_deps.proofs.Changes.{write_same, each_none}
use Rattle.mvo_work.specs.declared.word_place.WordPlace.{WordPlace}
use Rattle.mvo_versions.specs.Data.{VersionsData}
use Rattle.mvo_core.specs.declared.kept_transaction.KeptTransaction.{KeptTransaction}
use Rattle.mvo_core.specs.Data.{own_of}
use Rattle.mvo_core.specs.Standing.{words_in}
use Rattle.mvo_core.specs.Keeping.{IsWritten, with_own_at}
use Rattle.mvo_core.specs.Finishing.{from_own, HasPassed, IsFirstReplaced, IsOneReplaced}
use Rattle.mvo_core.proofs.NoneLeft.{passed_none, none_node}

-- ---- nobody depends on it
same_node : (node : Node KeptTransaction) → node.dependencies.dependents ≡ [] → record node { dependencies = without_dependents node.dependencies } ≡ node
same_node node e = ap (λ (ids : List TxId). record node { dependencies = record node.dependencies { dependents = ids } }) (sym e)

same_at : (o : Option (Node KeptTransaction)) (t : Txns (Node KeptTransaction)) (id : ℕ) → kept_of t id ≡ o → (data_in o).dependents ≡ [] → after_change_at o t id without_dependents ≡ t
same_at None t id k e = refl
same_at (Some node) t id k e = ap (table_after_write t id) (same_node node e) ∙ write_same t id node k

-- who has no dependents tells nobody
pub nobody_told : (f : DependencyData → DependencyData) (t : Txns (Node KeptTransaction)) (on : TxId) → (data_of t on).dependents ≡ [] → IsReported f t t on
nobody_told f t on none =
    subst (λ ids. IsEachChanged f (after_change t on.0 without_dependents) t ids) (sym none)
    (subst (λ u. IsEachChanged f u t []) (sym (same_at (kept_of t on.0) t on.0 refl none)) (each_none f t))

-- ---- no word is left
no_word : (ps : List WordPlace) → nat_lt 0 (length ps) ≡ false → ps ≡ []
no_word [] e = refl
no_word (p ∷ ps) e = absurd (false≢true (sym e ∙ lt-ltb 0 (length (p ∷ ps)) (omega arith)))

module _ (versions : VersionsData) (table : Txns (Node KeptTransaction)) (t : ℕ) (none : nat_lt 0 (length (words_in table t)) ≡ false) where
  nothing_passed : IsSome (own_of table t) → IsWritten table table t (HasPassed versions.slots t)
  nothing_passed there = passed_none table t versions.slots there (no_word (words_in table t) none)

  pub nothing_replaced : IsSome (own_of table t) → (w : Held) → IsOneReplaced versions versions table table t w
  nothing_replaced there w = record {
    between = table;
    next = record {
      between = table;
      passed = nothing_passed there;
      first = subst (λ ps. IsFirstReplaced versions versions table table t w (slice_get ps 0)) (sym (no_word (words_in table t) none)) (refl, refl);
    };
    passed = nothing_passed there;
  }

  pub no_first : (slots : Slots) → None ≡ slice_get (from_own slots t (words_in table t)) 0
  no_first slots = sym (ap (λ ps. slice_get (from_own slots t ps) 0) (no_word (words_in table t) none))

  pub no_next : None ≡ slice_get (words_in table t) 0
  no_next = sym (ap (λ ps. slice_get ps 0) (no_word (words_in table t) none))

-- ---- it is written twice
pub inserted_twice : {X : Type 0} (m : FinMap nat_cmp X) (k : ℕ) (x y : X) → insert (insert m k x) k y ≡ insert m k y
inserted_twice m k x y = same_map nat_cmp_total nat_cmp-IsAntisymmetric (insert (insert m k x) k y) (insert m k y) (λ q.
    ⊎_elim
    (λ e. subst (λ n. get (insert (insert m k x) k y) n ≡ get (insert m k y) n) (sym e) (get_inserted (insert m k x) k y ∙ sym (get_inserted m k y)))
    (λ ne. get_beside (insert m k x) k y q ne ∙ get_beside m k x q ne ∙ sym (get_beside m k y q ne))
    (cases_eq q k))

module _ (table : Txns (Node KeptTransaction)) (t : ℕ) (node first second : Node KeptTransaction) where
  kept_at : (o : Option (TableSeat (Node KeptTransaction))) → get table.seats t ≡ o → option_map (λ s. s.kept) o ≡ Some node
      → option_map (λ s. s.kept) (get (with_kept_at o table.seats t first) t) ≡ Some first
  kept_at None is w = absurd (none_node node w)
  kept_at (Some s) is w = ap (option_map (λ s. s.kept)) (get_inserted table.seats t (record s { kept = first }))

  kept_now : kept_of table t ≡ Some node → kept_of (table_after_write table t first) t ≡ Some first
  kept_now k = kept_at (get table.seats t) refl k

  twice_at : (o : Option (TableSeat (Node KeptTransaction))) → get table.seats t ≡ o → option_map (λ s. s.kept) o ≡ Some node
      → with_kept_at (get (with_kept_at o table.seats t first) t) (with_kept_at o table.seats t first) t second ≡ with_kept_at o table.seats t second
  twice_at None is w = absurd (none_node node w)
  twice_at (Some s) is w =
      ap (λ q. with_kept_at q (insert table.seats t (record s { kept = first })) t second) (get_inserted table.seats t (record s { kept = first }))
      ∙ inserted_twice table.seats t (record s { kept = first }) (record s { kept = second })

  written_twice : kept_of table t ≡ Some node → table_after_write (table_after_write table t first) t second ≡ table_after_write table t second
  written_twice k = ap (λ seats. record table { seats = seats }) (twice_at (get table.seats t) refl k)

-- what is written of it is written over
pub written_again : (table : Txns (Node KeptTransaction)) (t : ℕ) (node : Node KeptTransaction) (one two : KeptTransaction) (change : KeptTransaction → KeptTransaction → Type 0)
    → Some node ≡ kept_of table t → change one two
    → IsWritten (table_after_write table t (record node { own = one })) (table_after_write table t (record node { own = two })) t change
written_again table t node one two change kept changed =
    let first : Node KeptTransaction = record node { own = one } in
    let second : Node KeptTransaction = record node { own = two } in
    let now = kept_now table t node first second (sym kept) in
    record {
      before = one;
      after = two;
      was = ap (option_map (λ n. n.own)) now;
      is = sym (written_twice table t node first second (sym kept)) ∙ sym (ap (λ o. with_own_at o (table_after_write table t first) t two) now);
      changed = changed;
    }
