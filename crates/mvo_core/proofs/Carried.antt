-- What a core stands for stays where what is kept of transactions says as much.
use Rattle.std.proofs.Common.{◌≡◌, ◌≢◌, ℕ, false, List, Option, None, Some, refl, sym, ap, ◌∙◌, subst, ⊎_elim}
use Rattle.std.specs.Option.{option_map}
use Rattle.std.specs.FinMap.{get}
use Rattle.std.proofs.lemmas.Bool.{cases_eq}
use Rattle.mvo_types.specs.Keys.{Map}
use Rattle.mvo_model.specs.Trace.{Step}
use Rattle.mvo_theory.specs.State.{State}
use Rattle.mvo_theory.proofs.Each.{each_weaker}
use Rattle.mvo_txn.specs.declared.table_seat.TableSeat.{TableSeat}
use Rattle.mvo_txn.specs.Seats.{with_kept_at}
use Rattle.mvo_txn.specs.Txns.{Txns, state_of, kept_of, table_after_write}
use Rattle.mvo_txn.proofs.Stamps.{get_inserted, get_beside}
use Rattle.mvo_deps.specs.declared.node.Node.{Node}
use Rattle.mvo_tale.specs.declared.tale_place.TalePlace.{TalePlace}
use Rattle.mvo_tale.specs.Slots.{open_end_at}
use Rattle.mvo_representation.specs.Laws as representation
use Rattle.mvo_representation.specs.Order.{AllStandInOrder}
use Rattle.mvo_representation.specs.WordLists.{HasWordLists}
use Rattle.mvo_representation.proofs.TableNodes.{written_state}
use Rattle.mvo_core.specs.Readers.{Readers, reader_in}
use Rattle.mvo_core.specs.declared.kept_transaction.KeptTransaction.{KeptTransaction}
use Rattle.mvo_core.specs.Data.{CoreData, own_of}
use Rattle.mvo_core.specs.Standing.{HasWorks, IsKeptActive, IsKeptPreparing, own_words_of, words_in, StandsAmong}
use Rattle.mvo_core.specs.Keeping.{IsWritten, HasWrittenAsMuch, HasMadeRoom, with_own_at}
use Rattle.mvo_core.proofs.Laws.{write_in_table}
use Rattle.mvo_core.proofs.ReaderStages.{AreSameReaders, stages_same, same_reader, readers_but}
use Rattle.mvo_core.proofs.WrittenThen.{none_own}

-- what is kept of each says as much in the other table
abbrev pub SaysAsMuch : Txns (Node KeptTransaction) → Txns (Node KeptTransaction) → Type 0
SaysAsMuch old new = (u : ℕ) (own : KeptTransaction) → own_of old u ≡ Some own
    → (after : KeptTransaction) × (own_of new u ≡ Some after) × HasWrittenAsMuch own after

pub as_much : (own : KeptTransaction) → HasWrittenAsMuch own own
as_much own = record { taken = refl; words = refl; place = refl; checked = refl; valid = refl; kind = refl }

pub works_carried : (s : State) (old new : Txns (Node KeptTransaction)) (tale : List TalePlace) → SaysAsMuch old new → HasWorks s old tale → HasWorks s new tale
works_carried s old new tale says h = record {
  active = each_weaker (IsKeptActive old) (IsKeptActive new)
      (λ r w. let m = says r.id w.own w.kept in record { own = m.0; kept = m.1 }) s.active h.active;
  preparing = each_weaker (λ x. x.settled ≡ false → IsKeptPreparing old tale x) (λ x. x.settled ≡ false → IsKeptPreparing new tale x)
      (λ x w open'. let p = w open' in let m = says x.id p.own p.kept in record {
        own = m.0;
        kept = m.1;
        history = m.2.taken ∙ p.history;
        checked = λ v. m.2.checked ∙ p.checked v;
        valid = m.2.valid ∙ p.valid;
        place = ap (open_end_at tale) m.2.place ∙ p.place;
      }) s.stamped h.preparing;
}

-- ---- one is written
pub some_own : (p q : KeptTransaction) → ◌≡◌ {A = Option KeptTransaction} (Some p) (Some q) → p ≡ q
some_own p q e = cc

none_node : (n : Node KeptTransaction) → ◌≡◌ {A = Option (Node KeptTransaction)} None (Some n) → ⊥
none_node n q = cc

module _ (table : Txns (Node KeptTransaction)) (t : ℕ) (node new : Node KeptTransaction) (was : kept_of table t ≡ Some node) where
  own_in : Option (TableSeat (Node KeptTransaction)) → Option KeptTransaction
  own_in o = option_map (λ n. n.own) (option_map (λ s. s.kept) o)

  here_at : (o : Option (TableSeat (Node KeptTransaction))) → option_map (λ s. s.kept) o ≡ Some node
      → option_map (λ n. n.own) (option_map (λ s. s.kept) (get (with_kept_at o table.seats t new) t)) ≡ Some new.own
  here_at None w = absurd (none_node node w)
  here_at (Some s) w = ap (λ q. option_map (λ n. n.own) (option_map (λ s. s.kept) q)) (get_inserted table.seats t (record s { kept = new }))

  pub own_here : own_of (table_after_write table t new) t ≡ Some new.own
  own_here = here_at (get table.seats t) was

  beside_at : (o : Option (TableSeat (Node KeptTransaction))) (u : ℕ) → u ≢ t
      → option_map (λ n. n.own) (option_map (λ s. s.kept) (get (with_kept_at o table.seats t new) u)) ≡ own_of table u
  beside_at None u ne = refl
  beside_at (Some s) u ne = ap (λ q. option_map (λ n. n.own) (option_map (λ s. s.kept) q)) (get_beside table.seats t (record s { kept = new }) u ne)

  pub own_beside : (u : ℕ) → u ≢ t → own_of (table_after_write table t new) u ≡ own_of table u
  own_beside u ne = beside_at (get table.seats t) u ne

  pub says_written : HasWrittenAsMuch node.own new.own → SaysAsMuch table (table_after_write table t new)
  says_written same u own w =
      ⊎_elim
      (λ is.
      let now : own_of (table_after_write table t new) u ≡ Some new.own = ap (own_of (table_after_write table t new)) is ∙ own_here in
      let one : node.own ≡ own = some_own node.own own (sym (ap (option_map (λ n. n.own)) was) ∙ ap (own_of table) (sym is) ∙ w) in
      (new.own, now, subst (λ o. HasWrittenAsMuch o new.own) one same))
      (λ ne. (own, own_beside u ne ∙ w, as_much own))
      (cases_eq u t)

  pub readers_written : HasWrittenAsMuch node.own new.own → AreSameReaders table (table_after_write table t new)
  readers_written same = readers_but table (table_after_write table t new) t own_beside
      (ap reader_in own_here ∙ same_reader node.own new.own same.kind same.place same.checked same.valid ∙ sym (ap (λ o. reader_in (option_map (λ n. n.own) o)) was))

  -- the lists of words are the same, if this one's is
  pub words_written : new.own.writes.words ≡ node.own.writes.words → words_in (table_after_write table t new) ≡ words_in table
  words_written same = λ i u. at u i
    where
      at : (u : ℕ) → words_in (table_after_write table t new) u ≡ words_in table u
      at u = ⊎_elim
          (λ is.
          ap (words_in (table_after_write table t new)) is ∙ ap own_words_of own_here ∙ same ∙ sym (ap (λ o. own_words_of (option_map (λ n. n.own) o)) was) ∙ sym (ap (words_in table) is))
          (λ ne. ap own_words_of (own_beside u ne))
          (cases_eq u t)

module _ (rs : Readers) (opening : Map) (steps : List Step) (s : State) (c : CoreData) (h : StandsAmong rs opening steps s c) (t : ℕ) where
  pub stands_written : (node new : Node KeptTransaction) → kept_of c.table t ≡ Some node → new.dependencies ≡ node.dependencies → HasWrittenAsMuch node.own new.own
      → StandsAmong rs opening steps s (record c { table = table_after_write c.table t new })
  stands_written node new was same much = record {
    kept = h.kept;
    versions = subst (λ states. representation.VersionsStandFor opening s states c.versions.slots c.versions.lists c.versions.places) states h.versions;
    dependencies = write_in_table s c.table t node new h.dependencies was same;
    order = subst (λ states. AllStandInOrder s.start states c.versions.slots c.versions.lists) states h.order;
    works = works_carried s c.table (table_after_write c.table t new) c.tale (says_written c.table t node new was much) h.works;
    words = subst (HasWordLists s c.versions.slots) (sym (words_written c.table t node new was much.words)) h.words;
    tale = h.tale;
    places = h.places;
    stages = stages_same rs.unfinished c.table (table_after_write c.table t new) c.tale (readers_written c.table t node new was much) h.stages;
    marks = h.marks;
    grouped = h.grouped;
    start = h.start;
    over = h.over;
    beside = h.beside;
  } where
    states : state_of c.table ≡ state_of (table_after_write c.table t new)
    states = λ i u. sym (written_state c.table t node new was same u) i

  -- as much is done, whatever room there is
  pub stands_as_much : (table : Txns (Node KeptTransaction)) → IsWritten c.table table t HasWrittenAsMuch → StandsAmong rs opening steps s (record c { table = table })
  stands_as_much table w = go (kept_of c.table t) refl w.was
    where
      go : (o : Option (Node KeptTransaction)) → kept_of c.table t ≡ o → option_map (λ n. n.own) o ≡ Some w.before → StandsAmong rs opening steps s (record c { table = table })
      go None k e = absurd (none_own w.before e)
      go (Some node) k e =
          subst (λ x. StandsAmong rs opening steps s (record c { table = x })) (sym (w.is ∙ ap (λ o. with_own_at o c.table t w.after) k))
          (stands_written node (record node { own = w.after }) k refl (subst (λ o. HasWrittenAsMuch o w.after) (sym (some_own node.own w.before e)) w.changed))

  pub stands_roomy : (table : Txns (Node KeptTransaction)) → IsWritten c.table table t HasMadeRoom → StandsAmong rs opening steps s (record c { table = table })
  stands_roomy table w = stands_as_much table (record { before = w.before; after = w.after; was = w.was; is = w.is; changed = w.changed.same })
