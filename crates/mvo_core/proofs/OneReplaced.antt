-- A word is replaced in one look at the transaction.
use Rattle.std.proofs.Common.{◌≡◌, ℕ, List, [], ◌∷◌, Option, Some, drop, refl, sym, ap, ◌∙◌, subst}
use Rattle.std.specs.Prelude.{slice_get}
use Rattle.mvo_txn.specs.Txns.{Txns, kept_of, table_after_write}
use Rattle.mvo_deps.specs.declared.node.Node.{Node}
use Rattle.mvo_word.specs.declared.held.Held.{Held}
use Rattle.mvo_work.specs.Writes.{WritesData}
use Rattle.mvo_work.specs.declared.word_place.WordPlace.{WordPlace}
use Rattle.mvo_versions.specs.Data.{VersionsData}
use Rattle.mvo_core.specs.declared.kept_transaction.KeptTransaction.{KeptTransaction}
use Rattle.mvo_core.specs.Standing.{own_words_of, words_in}
use Rattle.mvo_core.specs.Keeping.{HasDropped}
use Rattle.mvo_core.specs.Finishing.{from_own, HasPassed, IsFirstReplaced, IsOneReplaced, IsRewordedAt}
use Rattle.mvo_core.proofs.Alone.{written_again}
use Rattle.mvo_core.proofs.Carried.{own_here}
use Rattle.mvo_core.proofs.Written.{written}

module _ (old new : VersionsData) (table : Txns (Node KeptTransaction)) (t : ℕ) (w : Held) (node : Node KeptTransaction) (writes : WritesData) (o : Option WordPlace)
    (kept : Some node ≡ kept_of table t)
    (first : o ≡ slice_get (from_own old.slots t node.own.writes.words) 0) (replaced : IsRewordedAt old new o w)
    (words : writes.words ≡ from_own new.slots t (drop 1 (from_own old.slots t node.own.writes.words))) where
  -- with these words, and what it has done
  abbrev with_words : List WordPlace → KeptTransaction
  with_words ps = record node.own { writes = record node.own.writes { words = ps } }

  abbrev table_with : List WordPlace → Txns (Node KeptTransaction)
  table_with ps = table_after_write table t (record node { own = with_words ps })

  first_with : (ps : List WordPlace) → slice_get (words_in (table_with ps) t) 0 ≡ slice_get ps 0
  first_with ps = ap (λ q. slice_get (own_words_of q) 0) (own_here table t node (record node { own = with_words ps }) (sym kept))

  abbrev after : KeptTransaction
  after = record node.own { writes = writes }

  pub one_replaced : IsOneReplaced old new table (table_after_write table t (record node { own = after })) t w
  one_replaced = go (from_own old.slots t node.own.writes.words) refl
    where
      go : (ps : List WordPlace) → from_own old.slots t node.own.writes.words ≡ ps → IsOneReplaced old new table (table_after_write table t (record node { own = after })) t w
      go [] e =
          let same : new ≡ old = subst (λ q. IsRewordedAt old new q w) (first ∙ ap (λ qs. slice_get qs 0) e) replaced in
          record {
            between = table_with [];
            next = record {
              between = table_with [];
              passed = written table t node (with_words []) (HasPassed old.slots t) kept (record { words = sym e; place = refl; checked = refl; valid = refl; kind = refl });
              first = subst (IsFirstReplaced old new (table_with []) (table_with []) t w) (sym (first_with [])) (same, refl);
            };
            passed = written_again table t node (with_words []) after (HasPassed new.slots t) kept
                (record { words = words ∙ ap (λ qs. from_own new.slots t (drop 1 qs)) e; place = refl; checked = refl; valid = refl; kind = refl });
          }
      go (p ∷ ps) e =
          let reworded = subst (λ q. IsRewordedAt old new q w) (first ∙ ap (λ qs. slice_get qs 0) e) replaced in
          record {
            between = table_with ps;
            next = record {
              between = table_with (p ∷ ps);
              passed = written table t node (with_words (p ∷ ps)) (HasPassed old.slots t) kept (record { words = sym e; place = refl; checked = refl; valid = refl; kind = refl });
              first = subst (IsFirstReplaced old new (table_with (p ∷ ps)) (table_with ps) t w) (sym (first_with (p ∷ ps)))
                  (reworded, written_again table t node (with_words (p ∷ ps)) (with_words ps) HasDropped kept (record { words = refl; place = refl; checked = refl; valid = refl; kind = refl }));
            };
            passed = written_again table t node (with_words ps) after (HasPassed new.slots t) kept
                (record { words = words ∙ ap (λ qs. from_own new.slots t (drop 1 qs)) e; place = refl; checked = refl; valid = refl; kind = refl });
          }
