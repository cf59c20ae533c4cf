-- Where no word is left nothing is passed over.
use Rattle.std.proofs.Common.{◌≡◌, ℕ, Bool, true, false, [], Option, None, Some, refl, sym, ap, ◌∙◌, subst, ⊎_elim}
use Rattle.std.specs.Prelude.{IsSome}
use Rattle.std.specs.Option.{option_map}
use Rattle.std.proofs.lemmas.Cmp.{nat_cmp_total}
use Rattle.std.specs.Ordering.{nat_cmp}
use Rattle.std.specs.FinMap.{FinMap, get, insert, same_map, nat_cmp-IsAntisymmetric}
use Rattle.std.proofs.lemmas.Bool.{cases_eq}
use Rattle.mvo_chain.specs.Slots.{Slots}
use Rattle.mvo_txn.specs.declared.table_seat.TableSeat.{TableSeat}
use Rattle.mvo_txn.specs.Seats.{with_kept_at}
use Rattle.mvo_txn.specs.Txns.{Txns, kept_of, table_after_write}
use Rattle.mvo_txn.proofs.Stamps.{get_inserted, get_beside}
use Rattle.mvo_deps.specs.declared.node.Node.{Node}
use Rattle.mvo_core.specs.declared.kept_transaction.KeptTransaction.{KeptTransaction}
use Rattle.mvo_core.specs.Data.{own_of}
use Rattle.mvo_core.specs.Standing.{own_words_of, words_in}
use Rattle.mvo_core.specs.Keeping.{IsWritten, with_own_at}
use Rattle.mvo_core.specs.Finishing.{from_own, HasPassed}

-- ---- to write what is kept changes nothing
pub none_node : (n : Node KeptTransaction) → ◌≡◌ {A = Option (Node KeptTransaction)} None (Some n) → ⊥
none_node n e = cc

some_node : (n m : Node KeptTransaction) → ◌≡◌ {A = Option (Node KeptTransaction)} (Some n) (Some m) → n ≡ m
some_node n m e = cc

not_there : ◌≡◌ {A = Bool} false true → ⊥
not_there e = cc

kept_map : {X : Type 0} (m : FinMap nat_cmp X) (k : ℕ) (x : X) → get m k ≡ Some x → insert m k x ≡ m
kept_map m k x h = same_map nat_cmp_total nat_cmp-IsAntisymmetric (insert m k x) m (λ q.
    ⊎_elim
    (λ e. subst (λ n. get (insert m k x) n ≡ get m n) (sym e) (get_inserted m k x ∙ sym h))
    (λ ne. get_beside m k x q ne)
    (cases_eq q k))

module _ (table : Txns (Node KeptTransaction)) (t : ℕ) where
  kept_seats : (node : Node KeptTransaction) (o : Option (TableSeat (Node KeptTransaction))) → get table.seats t ≡ o → option_map (λ s. s.kept) o ≡ Some node → with_kept_at o table.seats t node ≡ table.seats
  kept_seats node None is w = absurd (none_node node w)
  kept_seats node (Some s) is w = ap (λ n. insert table.seats t (record s { kept = n })) (sym (some_node s.kept node w)) ∙ kept_map table.seats t s is

  write_kept : (node : Node KeptTransaction) → kept_of table t ≡ Some node → table_after_write table t node ≡ table
  write_kept node k = ap (λ seats. record table { seats = seats }) (kept_seats node (get table.seats t) refl k)

  pub passed_none : (slots : Slots) → IsSome (own_of table t) → words_in table t ≡ [] → IsWritten table table t (HasPassed slots t)
  passed_none slots there none = go (kept_of table t) refl
    where
      go : (o : Option (Node KeptTransaction)) → kept_of table t ≡ o → IsWritten table table t (HasPassed slots t)
      go None k = absurd (not_there (subst IsSome (ap (option_map (λ n. n.own)) k) there))
      go (Some node) k =
          let was : own_of table t ≡ Some node.own = ap (option_map (λ n. n.own)) k in
          let empty : node.own.writes.words ≡ [] = sym (ap own_words_of was) ∙ none in
          record {
            before = node.own;
            after = node.own;
            was = was;
            is = sym (ap (λ o. with_own_at o table t node.own) k ∙ write_kept node k);
            changed = record {
              words = empty ∙ sym (ap (from_own slots t) empty);
              place = refl;
              checked = refl;
              valid = refl;
              kind = refl;
            };
          }
