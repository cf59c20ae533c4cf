-- What is kept of one transaction changes, and all else that the table tells stays.
use Rattle.std.proofs.Common.{◌≡◌, ◌≢◌, ℕ, Bool, true, false, cond, eqb, List, [], ◌∷◌, Option, None, Some, refl, sym, ap, ◌∙◌, subst, ⊎_elim}
use Rattle.std.specs.Option.{option_map}
use Rattle.std.specs.FinMap.{get}
use Rattle.std.proofs.lemmas.Bool.{cases_eq}
use Rattle.mvo_types.specs.declared.ids.TxId.{TxId}
use Rattle.mvo_theory.specs.State.{State}
use Rattle.mvo_txn.specs.declared.table_seat.TableSeat.{TableSeat}
use Rattle.mvo_txn.specs.Txns.{Txns, state_of, kept_of, table_after_write}
use Rattle.mvo_readonly.specs.Whole.{UnfinishedReader, stage_of}
use Rattle.mvo_deps.specs.declared.node.Node.{Node}
use Rattle.mvo_tale.specs.declared.tale_place.TalePlace.{TalePlace}
use Rattle.mvo_deps.specs.Data.{DependencyData, is_id_among, with_dependency, with_dependent}
use Rattle.mvo_deps.specs.Nodes.{data_of, after_change, changed_if, with_data, noted_on, after_register, after_register_all}
use Rattle.mvo_deps.proofs.Changes.{get_changed}
use Rattle.mvo_deps.proofs.Grown.{state_registered}
use Rattle.mvo_representation.specs.Dependencies.{HasDependencies}
use Rattle.mvo_representation.proofs.TableNodes.{written_state}
use Rattle.mvo_core.specs.declared.kept_transaction.KeptTransaction.{KeptTransaction}
use Rattle.mvo_core.specs.Data.{own_of}
use Rattle.mvo_core.specs.Standing.{own_words_of, words_in}
use Rattle.mvo_core.specs.Keeping.{IsWritten, with_own_at}
use Rattle.mvo_core.specs.Readers.{reader_in, HasStage, HaveStages}
use Rattle.mvo_core.proofs.Laws.{write_in_table}
use Rattle.mvo_core.proofs.Carried.{own_here, own_beside, some_own}
use Rattle.mvo_core.proofs.ReaderStages.{AreSameReaders, none_of_stage, other_reader, readers_but}
use Rattle.mvo_core.proofs.WrittenThen.{none_own}

-- ---- dependencies are registered
own_data : (b : Bool) (f : DependencyData → DependencyData) (o : Option (TableSeat (Node KeptTransaction)))
    → option_map (λ n. n.own) (option_map (λ s. s.kept) (option_map (with_data (changed_if b f)) o)) ≡ option_map (λ n. n.own) (option_map (λ s. s.kept) o)
own_data b f None = refl
own_data b f (Some s) = refl

module _ (table : Txns (Node KeptTransaction)) where
  pub own_depending : (id : ℕ) (f : DependencyData → DependencyData) (u : ℕ) → own_of (after_change table id f) u ≡ own_of table u
  own_depending id f u =
      ap (λ o. option_map (λ n. n.own) (option_map (λ s. s.kept) o)) (get_changed table id f u)
      ∙ own_data (eqb u id) f (get table.seats u)

own_noted : (table : Txns (Node KeptTransaction)) (t on : TxId) (u : ℕ) → own_of (noted_on table t on) u ≡ own_of table u
own_noted table t on u = own_depending (after_change table on.0 (with_dependent t)) t.0 (with_dependency on) u ∙ own_depending table on.0 (with_dependent t) u

own_registered : (table : Txns (Node KeptTransaction)) (t on : TxId) (u : ℕ) → own_of (after_register table t on) u ≡ own_of table u
own_registered table t on u = go (is_id_among on (data_of table t).on) (is_id_among t (data_of table on).dependents)
  where
    go : (a b : Bool) → own_of (cond a table (cond b table (noted_on table t on))) u ≡ own_of table u
    go true b = refl
    go false true = refl
    go false false = own_noted table t on u

pub own_registered_all : (table : Txns (Node KeptTransaction)) (t : TxId) (ids : List TxId) (u : ℕ) → own_of (after_register_all table t ids) u ≡ own_of table u
own_registered_all table t [] u = refl
own_registered_all table t (on ∷ ons) u = own_registered_all (after_register table t on) t ons u ∙ own_registered table t on u

pub state_registered_all : (table : Txns (Node KeptTransaction)) (t : TxId) (ids : List TxId) (u : ℕ) → state_of (after_register_all table t ids) u ≡ state_of table u
state_registered_all table t [] u = refl
state_registered_all table t (on ∷ ons) u = state_registered_all (after_register table t on) t ons u ∙ state_registered table t on u

-- ---- what is kept of one changes
pub record IsOwnChanged (old new : Txns (Node KeptTransaction)) (t : ℕ) (change : KeptTransaction → KeptTransaction → Type 0) : Type 0 where
  pub before : KeptTransaction
  pub after : KeptTransaction
  pub was : own_of old t ≡ Some before
  pub is : own_of new t ≡ Some after
  pub changed : change before after
  pub beside : (u : ℕ) → u ≢ t → own_of new u ≡ own_of old u
  pub states : (u : ℕ) → state_of new u ≡ state_of old u
  pub dependencies : (s : State) → HasDependencies s old → HasDependencies s new

module _ (old new : Txns (Node KeptTransaction)) (t : ℕ) (change : KeptTransaction → KeptTransaction → Type 0) where
  pub own_changed : IsWritten old new t change → IsOwnChanged old new t change
  own_changed w = go (kept_of old t) refl w.was
    where
      here : (node : Node KeptTransaction) → kept_of old t ≡ Some node → IsOwnChanged old (table_after_write old t (record node { own = w.after })) t change
      here node k = record {
        before = w.before;
        after = w.after;
        was = w.was;
        is = own_here old t node (record node { own = w.after }) k;
        changed = w.changed;
        beside = own_beside old t node (record node { own = w.after }) k;
        states = written_state old t node (record node { own = w.after }) k refl;
        dependencies = λ s h. write_in_table s old t node (record node { own = w.after }) h k refl;
      }

      go : (o : Option (Node KeptTransaction)) → kept_of old t ≡ o → option_map (λ n. n.own) o ≡ Some w.before → IsOwnChanged old new t change
      go None k e = absurd (none_own w.before e)
      go (Some node) k e = subst (λ x. IsOwnChanged old x t change) (sym (w.is ∙ ap (λ o. with_own_at o old t w.after) k)) (here node k)

-- as much of it, or less
pub own_weaker : (old new : Txns (Node KeptTransaction)) (t : ℕ) (P Q : KeptTransaction → KeptTransaction → Type 0) → ((x y : KeptTransaction) → P x y → Q x y)
    → IsOwnChanged old new t P → IsOwnChanged old new t Q
own_weaker old new t P Q f w = record {
  before = w.before;
  after = w.after;
  was = w.was;
  is = w.is;
  changed = f w.before w.after w.changed;
  beside = w.beside;
  states = w.states;
  dependencies = w.dependencies;
}

-- one change after another
pub own_changed_twice : (a b c : Txns (Node KeptTransaction)) (t : ℕ) (P Q R : KeptTransaction → KeptTransaction → Type 0) → ((x y z : KeptTransaction) → P x y → Q y z → R x z)
    → IsOwnChanged a b t P → IsOwnChanged b c t Q → IsOwnChanged a c t R
own_changed_twice a b c t P Q R f p q = record {
  before = p.before;
  after = q.after;
  was = p.was;
  is = q.is;
  changed = f p.before p.after q.after p.changed (subst (λ x. Q x q.after) (some_own q.before p.after (sym q.was ∙ p.is)) q.changed);
  beside = λ u ne. q.beside u ne ∙ p.beside u ne;
  states = λ u. q.states u ∙ p.states u;
  dependencies = λ s h. q.dependencies s (p.dependencies s h);
}

-- its list of words is the new one's, and the others have theirs
module _ (old new : Txns (Node KeptTransaction)) (t : ℕ) (change : KeptTransaction → KeptTransaction → Type 0) (w : IsOwnChanged old new t change) where
  pub words_beside : (u : ℕ) → u ≢ t → words_in new u ≡ words_in old u
  words_beside u ne = ap own_words_of (w.beside u ne)

  pub words_here : words_in new t ≡ w.after.writes.words
  words_here = ap own_words_of w.is

  pub words_before : words_in old t ≡ w.before.writes.words
  words_before = ap own_words_of w.was

  pub words_stay : w.after.writes.words ≡ w.before.writes.words → words_in new ≡ words_in old
  words_stay same = λ i u. at u i
    where
      at : (u : ℕ) → words_in new u ≡ words_in old u
      at u = ⊎_elim
          (λ is. ap (words_in new) is ∙ words_here ∙ same ∙ sym words_before ∙ sym (ap (words_in old) is))
          (λ ne. words_beside u ne)
          (cases_eq u t)

-- ---- those that are read-only are as they were
module _ (old new : Txns (Node KeptTransaction)) (t : ℕ) (change : KeptTransaction → KeptTransaction → Type 0) (w : IsOwnChanged old new t change) where
  pub readers_changed : reader_in (Some w.after) ≡ reader_in (Some w.before) → AreSameReaders old new
  readers_changed same = readers_but old new t w.beside (ap reader_in w.is ∙ same ∙ sym (ap reader_in w.was))

  -- where it is none of them
  pub others_changed : (rs : List UnfinishedReader) (tale : List TalePlace) → HaveStages rs old tale → stage_of t rs ≡ None → w.after.kind ≡ w.before.kind → AreSameReaders old new
  others_changed rs tale h other kind =
      let none : reader_in (Some w.before) ≡ None = sym (ap reader_in w.was) ∙ none_of_stage tale t (reader_in (own_of old t)) (subst (HasStage tale t (reader_in (own_of old t))) other (h t)) in
      readers_changed (other_reader w.before w.after kind none)

-- where dependencies were registered, the lists are those of before
pub words_registered : (table : Txns (Node KeptTransaction)) (t : TxId) (ids : List TxId) → words_in (after_register_all table t ids) ≡ words_in table
words_registered table t ids = λ i u. own_words_of (own_registered_all table t ids u i)
