-- What a core stands for beside the lists of words, as it finishes an ended transaction.
use Rattle.std.proofs.Common.{◌≡◌, ◌≢◌, ℕ, ◌++◌, Bool, true, false, cond, List, Option, None, Some, refl, sym, ap, ◌∙◌, subst, inl, inr}
use Rattle.std.specs.Option.{option_map}
use Rattle.mvo_types.specs.Keys.{Map}
use Rattle.mvo_model.specs.Trace.{Step}
use Rattle.mvo_model.specs.Trace.Phase.{Active as ActivePhase}
use Rattle.mvo_theory.specs.State.{State, EndedTx, ended_of}
use Rattle.mvo_theory.specs.Phases.{phase_in}
use Rattle.mvo_theory.specs.Words.{is_done, words_left}
use Rattle.mvo_theory.specs.Changes as changes
use Rattle.mvo_theory.specs.Changes.{with_words, after_termination}
use Rattle.mvo_theory.specs.Sound.{IsSingle}
use Rattle.mvo_theory.specs.Calls.{IsKept, MayCome, steps_of}
use Rattle.mvo_theory.specs.Calls.Call.{Finish}
use Rattle.mvo_theory.specs.Calls.Result.{Accepted}
use Rattle.std.proofs.lemmas.Bool.{false≢true}
use Rattle.mvo_theory.proofs.Each.{each_both}
use Rattle.mvo_theory.proofs.Runs.{kept_after_call}
use Rattle.mvo_shared.proofs.Standing.{standing_of}
use Rattle.mvo_txn.specs.declared.state.TxState.{TxState}
use Rattle.mvo_txn.specs.declared.state.TxState.TheVariants.{Active, Preparing, Committed, Aborted}
use Rattle.mvo_txn.specs.Txns.{Txns, state_of, kept_of, table_after_write, after_terminate, IsEnded}
use Rattle.mvo_deps.specs.declared.node.Node.{Node}
use Rattle.mvo_chain.specs.declared.version.Version.{Version}
use Rattle.mvo_chain.specs.Slots.{version_at, with_change}
use Rattle.mvo_word.specs.declared.held.Held.{Held}
use Rattle.mvo_work.specs.declared.word_place.WordPlace.{WordPlace}
use Rattle.mvo_work.specs.declared.word_place.WordPlace.TheVariants.{Begin, End}
use Rattle.mvo_tale.specs.declared.tale_place.TalePlace.{TalePlace}
use Rattle.mvo_tale.specs.Kept.{HasTale}
use Rattle.mvo_tale.specs.Next.{AreGroupedTo}
use Rattle.mvo_tale.specs.Others.{others_places}
use Rattle.mvo_versions.specs.Data.{VersionsData}
use Rattle.mvo_versions.specs.Changes.{IsReworded}
use Rattle.mvo_representation.specs.Laws as representation
use Rattle.mvo_representation.specs.Words.{ends_of}
use Rattle.mvo_representation.specs.Versions.{AreVersionsOf}
use Rattle.mvo_representation.specs.Indexes.{all_versions}
use Rattle.mvo_representation.specs.Steps.{IsUnnamed}
use Rattle.mvo_representation.specs.Table.{phase_as, phases_of}
use Rattle.mvo_representation.specs.Dependencies.{HasDependencies}
use Rattle.mvo_representation.specs.Order.{AllStandInOrder, IsFinished, word_of_stamp}
use Rattle.mvo_representation.specs.OrderLaws.{HaveNow}
use Rattle.mvo_representation.specs.WordLists.{HasWordLists, HaveListNow, number_at_word, names_at, with_word, finished}
use Rattle.mvo_representation.proofs.TableNodes.{written_state, left_state, left_others}
use Rattle.mvo_representation.proofs.WordPlaces.{names_here}
use Rattle.mvo_representation.proofs.WordsSaid.{ended_not_active, ended_not_preparing}
use Rattle.mvo_collect.proofs.Over.{each_call_keeps_over}
use Rattle.mvo_collect.specs.Begun.{AreOver}
use Rattle.mvo_core.proofs.ReaderLeaves.{Leaves, own_left}
use Rattle.mvo_core.specs.declared.kept_transaction.KeptTransaction.{KeptTransaction}
use Rattle.mvo_core.specs.Data.{CoreData, own_of}
use Rattle.mvo_standing.specs.Beside.{WorksGoBeside}
use Rattle.mvo_content.specs.Works.{works_in}
use Rattle.mvo_core.specs.Standing.{HasWorks, IsKeptActive, IsKeptPreparing, own_words_of, words_in, StandsAmong}
use Rattle.mvo_core.specs.Keeping.{IsWritten, with_own_at}
use Rattle.mvo_core.specs.Readers.{Readers, reader_in, HaveStages, HasTalePlaces}
use Rattle.mvo_core.proofs.Carried.{own_here, own_beside}
use Rattle.mvo_standing.proofs.Beside.{called_beside}
use Rattle.mvo_core.proofs.Laws.{write_in_table, call_keeps}
use Rattle.mvo_core.proofs.ReaderStages.{stages_same, readers_but}
use Rattle.mvo_core.proofs.FinishLaws.{word_in_table, leave_in_table, finished_stands_for, finish_in_order, leaving_in_order, changed_now}

-- ---- what a core stands for beside the lists
pub record StandsBeside (rs : Readers) (opening : Map) (steps : List Step) (s : State) (c : CoreData) : Type 0 where
  pub kept : IsKept opening steps s
  pub versions : representation.VersionsStandFor opening s (state_of c.table) c.versions.slots c.versions.lists c.versions.places
  pub dependencies : HasDependencies s c.table
  pub order : AllStandInOrder s.start (state_of c.table) c.versions.slots c.versions.lists
  pub works : HasWorks s c.table c.tale
  pub tale : HasTale s (others_places c.tale)
  pub places : HasTalePlaces rs s.start s.clock c.tale
  pub stages : HaveStages rs.unfinished c.table c.tale
  pub marks : s.marks ≡ record { opening = c.opening; closed = c.closed }
  pub grouped : AreGroupedTo c.tale c.grouped c.closed
  pub start : s.start ≡ c.start
  pub over : AreOver s
  pub goes : WorksGoBeside opening steps s (works_in c.works)

pub beside : (rs : Readers) (opening : Map) (steps : List Step) (s : State) (c : CoreData) → StandsAmong rs opening steps s c → StandsBeside rs opening steps s c
beside rs opening steps s c h = record {
  kept = h.kept;
  versions = h.versions;
  dependencies = h.dependencies;
  order = h.order;
  works = h.works;
  tale = h.tale;
  places = h.places;
  stages = h.stages;
  marks = h.marks;
  grouped = h.grouped;
  start = h.start;
  over = h.over;
  goes = h.beside;
}

pub with_lists : (rs : Readers) (opening : Map) (steps : List Step) (s : State) (c : CoreData) → StandsBeside rs opening steps s c → HasWordLists s c.versions.slots (words_in c.table) → StandsAmong rs opening steps s c
with_lists rs opening steps s c h l = record {
  kept = h.kept;
  versions = h.versions;
  dependencies = h.dependencies;
  order = h.order;
  works = h.works;
  words = l;
  tale = h.tale;
  places = h.places;
  stages = h.stages;
  marks = h.marks;
  grouped = h.grouped;
  start = h.start;
  over = h.over;
  beside = h.goes;
}

-- ---- what is written of one transaction
none_node : (own : KeptTransaction) → ◌≡◌ {A = Option KeptTransaction} None (Some own) → ⊥
none_node own q = cc

-- the node that is kept of it, with another one's work
pub record IsNodeWritten (old new : Txns (Node KeptTransaction)) (t : ℕ) (after : KeptTransaction) : Type 0 where
  pub node : Node KeptTransaction
  pub was : kept_of old t ≡ Some node
  pub is : new ≡ table_after_write old t (record node { own = after })

pub node_written : (old new : Txns (Node KeptTransaction)) (t : ℕ) (change : KeptTransaction → KeptTransaction → Type 0) (w : IsWritten old new t change) → IsNodeWritten old new t w.after
node_written old new t change w = go (kept_of old t) refl w.was
  where
    go : (o : Option (Node KeptTransaction)) → kept_of old t ≡ o → option_map (λ n. n.own) o ≡ Some w.before → IsNodeWritten old new t w.after
    go None k e = absurd (none_node w.before e)
    go (Some node) k e = record { node = node; was = k; is = w.is ∙ ap (λ o. with_own_at o old t w.after) k }

module _ (old new : Txns (Node KeptTransaction)) (t : ℕ) (change : KeptTransaction → KeptTransaction → Type 0) (w : IsWritten old new t change) where
  one : IsNodeWritten old new t w.after
  one = node_written old new t change w

  pub own_others : (u : ℕ) → u ≢ t → own_of new u ≡ own_of old u
  own_others u ne = ap (λ x. own_of x u) one.is ∙ own_beside old t one.node (record one.node { own = w.after }) one.was u ne

  pub own_now : own_of new t ≡ Some w.after
  own_now = ap (λ x. own_of x t) one.is ∙ own_here old t one.node (record one.node { own = w.after }) one.was

  pub same_states : state_of old ≡ state_of new
  same_states = λ i u. sym (ap (λ x. state_of x u) one.is ∙ written_state old t one.node (record one.node { own = w.after }) one.was refl u) i

  pub deps_written : (s : State) → HasDependencies s old → HasDependencies s new
  deps_written s h = subst (HasDependencies s) (sym one.is) (write_in_table s old t one.node (record one.node { own = w.after }) h one.was refl)

  pub list_written : HaveListNow (words_in old) (words_in new) t w.after.writes.words
  list_written = record { others = λ u ne. ap own_words_of (own_others u ne); here = ap own_words_of own_now }

  pub list_was : words_in old t ≡ w.before.writes.words
  list_was = ap own_words_of w.was

-- ---- one that is ended isn't Active
still : (o : Option TxState) → IsEnded o → phase_as o ≢ ActivePhase
still None ended q = ended
still (Some Active) ended q = ended
still (Some (Preparing e)) ended q = ended
still (Some (Committed e)) ended q = cc
still (Some Aborted) ended q = cc

-- ---- what is kept of the others is what it was
works_of_others : (s : State) (old new : Txns (Node KeptTransaction)) (tale : List TalePlace) (t : ℕ) (u : EndedTx) → IsSingle s → ended_of t s.ended ≡ Some u → ((v : ℕ) → v ≢ t → own_of new v ≡ own_of old v) → HasWorks s old tale → HasWorks s new tale
works_of_others s old new tale t u single e others h = record {
  active = each_both (λ r. r.id ≢ t) (IsKeptActive old) (IsKeptActive new)
      (λ r d w. record { own = w.own; kept = others r.id d ∙ w.kept }) s.active (ended_not_active s t u single e) h.active;
  preparing = each_both (λ x. x.settled ≡ false → x.id ≢ t) (λ x. x.settled ≡ false → IsKeptPreparing old tale x) (λ x. x.settled ≡ false → IsKeptPreparing new tale x)
      (λ x d w o. let p = w o in record {
        own = p.own;
        kept = others x.id (d o) ∙ p.kept;
        history = p.history;
        checked = p.checked;
        valid = p.valid;
        place = p.place;
      }) s.stamped (ended_not_preparing s t u single e) h.preparing;
}

-- ---- the state after a word is finished
finish_at : (s : State) (t : ℕ) (b : Bool) → cond b (after_termination s t) (with_words (words_left t) s) ≡ record s { ended = (cond b (after_termination s t) (with_words (words_left t) s)).ended }
finish_at s t true = refl
finish_at s t false = refl

pub finish_is : (s : State) (t : ℕ) → changes.after_finish s t ≡ record s { ended = (changes.after_finish s t).ended }
finish_is s t = finish_at s t (is_done s t)

module _ (rs : Readers) (opening : Map) (steps : List Step) (s : State) (c : CoreData) (h : StandsBeside rs opening steps s c) (u : EndedTx) (e : ended_of u.id s.ended ≡ Some u) where
  -- what is kept of the ended one changes
  pub beside_written : (table : Txns (Node KeptTransaction)) (change : KeptTransaction → KeptTransaction → Type 0) → ((x y : KeptTransaction) → change x y → reader_in (Some y) ≡ reader_in (Some x)) → IsWritten c.table table u.id change → StandsBeside rs opening steps s (record c { table = table })
  beside_written table change same w = record {
    kept = h.kept;
    versions = subst (λ states. representation.VersionsStandFor opening s states c.versions.slots c.versions.lists c.versions.places) (same_states c.table table u.id change w) h.versions;
    dependencies = deps_written c.table table u.id change w s h.dependencies;
    order = subst (λ states. AllStandInOrder s.start states c.versions.slots c.versions.lists) (same_states c.table table u.id change w) h.order;
    works = works_of_others s c.table table c.tale u.id u h.versions.kept.single e (own_others c.table table u.id change w) h.works;
    tale = h.tale;
    places = h.places;
    stages = stages_same rs.unfinished c.table table c.tale
        (readers_but c.table table u.id (own_others c.table table u.id change w) (ap reader_in (own_now c.table table u.id change w) ∙ same w.before w.after w.changed ∙ sym (ap reader_in w.was))) h.stages;
    marks = h.marks;
    grouped = h.grouped;
    start = h.start;
    over = h.over;
    goes = h.goes;
  }

  -- a word that names it is finished
  begin_finished : (p : WordPlace) (v : Version) → names_at c.versions.slots u.id p ≡ true → version_at c.versions.slots (number_at_word p) ≡ Some v
      → IsFinished (ends_of (phases_of (state_of c.table))) u.id v.begin (finished (ends_of (phases_of (state_of c.table))) u.id p v).begin
  begin_finished (Begin n) v name at = inr (sym (names_here c.versions.slots u.id (Begin n) v at) ∙ name, refl)
  begin_finished (End n) v name at = inl refl

  end_finished : (p : WordPlace) (v : Version) → names_at c.versions.slots u.id p ≡ true → version_at c.versions.slots (number_at_word p) ≡ Some v
      → IsFinished (ends_of (phases_of (state_of c.table))) u.id v.end (finished (ends_of (phases_of (state_of c.table))) u.id p v).end
  end_finished (Begin n) v name at = inl refl
  end_finished (End n) v name at = inr (sym (names_here c.versions.slots u.id (End n) v at) ∙ name, refl)

  pub finished_now : (new : VersionsData) (w : Held) (p : WordPlace) (v : Version) → version_at c.versions.slots (number_at_word p) ≡ Some v → w ≡ word_of_stamp (ends_of (phases_of (state_of c.table)) u.id)
      → IsReworded c.versions new (number_at_word p) (with_word p w) → HaveNow c.versions.slots new.slots (number_at_word p).0 (finished (ends_of (phases_of (state_of c.table))) u.id p v)
  finished_now new w p v at is r =
      subst (λ slots. HaveNow c.versions.slots slots (number_at_word p).0 (finished (ends_of (phases_of (state_of c.table))) u.id p v))
      (ap (λ (x : Held). with_change c.versions.slots (number_at_word p) (with_word p x)) (sym is) ∙ sym r.slots)
      (changed_now c.versions.slots (number_at_word p) v (finished (ends_of (phases_of (state_of c.table))) u.id p) at)

  pub beside_finished : IsEnded (state_of c.table u.id) → (new : VersionsData) (w : Held) (p : WordPlace) (v : Version) → version_at c.versions.slots (number_at_word p) ≡ Some v → names_at c.versions.slots u.id p ≡ true
      → w ≡ word_of_stamp (ends_of (phases_of (state_of c.table)) u.id) → IsReworded c.versions new (number_at_word p) (with_word p w) → StandsBeside rs opening steps s (record c { versions = new })
  beside_finished ended new w p v at name is r =
      let now = finished_now new w p v at is r in
      let same : record { slots = new.slots; lists = c.versions.lists; places = c.versions.places } ≡ new = λ i. record { slots = new.slots; lists = sym r.lists i; places = sym r.places i } in
      subst (λ x. StandsBeside rs opening steps s (record c { versions = x })) same (record {
        kept = h.kept;
        versions = finished_stands_for opening s (state_of c.table) c.versions.slots new.slots c.versions.lists c.versions.places u p v h.versions e at name now;
        dependencies = h.dependencies;
        order = finish_in_order s.start (state_of c.table) c.versions.slots new.slots c.versions.lists u.id (number_at_word p).0 v (finished (ends_of (phases_of (state_of c.table))) u.id p v)
            (still (state_of c.table u.id) ended) at now (begin_finished p v name at) (end_finished p v name at) h.order;
        works = h.works;
        tale = h.tale;
        places = h.places;
        stages = h.stages;
        marks = h.marks;
        grouped = h.grouped;
        start = h.start;
        over = h.over;
        goes = h.goes;
      })

  -- ---- the state goes on
  phases : phases_of (state_of c.table) ≡ phase_in s
  phases = λ i v. h.dependencies.stands.phases v i

  versions_after : (may : MayCome s (Finish u.id) Accepted) (table : Txns (Node KeptTransaction)) → HasDependencies (changes.after_finish s u.id) table
      → (is_done s u.id ≡ true → IsUnnamed u.id (all_versions c.versions.slots))
      → representation.VersionsStandFor opening (changes.after_finish s u.id) (state_of table) c.versions.slots c.versions.lists c.versions.places
  versions_after may table deps unnamed = record {
    kept = standing_of opening (steps ++ steps_of s (Finish u.id) Accepted) (changes.after_finish s u.id) (kept_after_call opening steps s (Finish u.id) Accepted may h.kept);
    versions = subst (λ p. AreVersionsOf (changes.after_finish s u.id) p (all_versions c.versions.slots)) (λ i v. sym (deps.stands.phases v) i)
        (call_keeps opening s (Finish u.id) Accepted (all_versions c.versions.slots) (all_versions c.versions.slots) h.versions.kept may
        (subst (λ p. AreVersionsOf s p (all_versions c.versions.slots)) phases h.versions.versions) (refl, unnamed));
    numbers = h.versions.numbers;
    order = h.versions.order;
  }

  -- in the state with other ended ones, where the table has these works
  beside_after : MayCome s (Finish u.id) Accepted → (after : Readers) → HasTalePlaces after s.start s.clock c.tale → (table : Txns (Node KeptTransaction))
      → representation.VersionsStandFor opening (changes.after_finish s u.id) (state_of table) c.versions.slots c.versions.lists c.versions.places
      → HasDependencies (changes.after_finish s u.id) table → AllStandInOrder s.start (state_of table) c.versions.slots c.versions.lists → HasWorks s table c.tale → HaveStages after.unfinished table c.tale → AreOver (changes.after_finish s u.id)
      → StandsBeside after opening (steps ++ steps_of s (Finish u.id) Accepted) (changes.after_finish s u.id) (record c { table = table })
  beside_after may after places table versions deps order works stages over = record {
    kept = kept_after_call opening steps s (Finish u.id) Accepted may h.kept;
    versions = versions;
    dependencies = deps;
    order = subst (λ (x : State). AllStandInOrder x.start (state_of table) c.versions.slots c.versions.lists) (sym (finish_is s u.id)) order;
    works = subst (λ (x : State). HasWorks x table c.tale) (sym (finish_is s u.id)) (record { active = works.active; preparing = works.preparing });
    tale = subst (λ (x : State). HasTale x (others_places c.tale)) (sym (finish_is s u.id)) h.tale;
    places = subst (λ (x : State). HasTalePlaces after x.start x.clock c.tale) (sym (finish_is s u.id)) places;
    stages = stages;
    marks = ap (λ (x : State). x.marks) (finish_is s u.id) ∙ h.marks;
    grouped = h.grouped;
    start = ap (λ (x : State). x.start) (finish_is s u.id) ∙ h.start;
    over = over;
    goes = called_beside opening steps s (works_in c.works) h.goes (Finish u.id) Accepted tt may (λ g ws. refl);
  }

  over_finished : MayCome s (Finish u.id) Accepted → AreOver (changes.after_finish s u.id)
  over_finished may = each_call_keeps_over opening s (phases_of (state_of c.table)) (all_versions c.versions.slots) (Finish u.id) Accepted h.versions.kept may h.versions.versions h.over

  none_done : is_done s u.id ≡ false → is_done s u.id ≡ true → IsUnnamed u.id (all_versions c.versions.slots)
  none_done more last = absurd (false≢true (sym more ∙ last))

  -- words are left
  pub beside_word : MayCome s (Finish u.id) Accepted → is_done s u.id ≡ false → StandsBeside rs opening (steps ++ steps_of s (Finish u.id) Accepted) (changes.after_finish s u.id) c
  beside_word may more =
      let deps = word_in_table s c.table u.id h.dependencies more in
      beside_after may rs h.places c.table (versions_after may c.table deps (none_done more)) deps h.order h.works h.stages (over_finished may)

  -- none is left: it leaves
  left_own : (v : ℕ) → v ≢ u.id → own_of (after_terminate c.table u.id) v ≡ own_of c.table v
  left_own v ne = own_left c.table u.id v ne

  pub beside_left : (after : Readers) → Leaves rs after s c.tale u.id → MayCome s (Finish u.id) Accepted → IsEnded (state_of c.table u.id) → is_done s u.id ≡ true → IsUnnamed u.id (all_versions c.versions.slots)
      → StandsBeside after opening (steps ++ steps_of s (Finish u.id) Accepted) (changes.after_finish s u.id) (record c { table = after_terminate c.table u.id })
  beside_left after leaves may ended last unnamed =
      let table = after_terminate c.table u.id in
      let deps = leave_in_table opening s c.table u.id h.versions.kept h.dependencies ended last in
      beside_after may after leaves.places table (versions_after may table deps (λ y. unnamed)) deps
      (leaving_in_order s.start (state_of c.table) (state_of table) c.versions.slots c.versions.lists u.id (λ v ne. left_others c.table u.id v ne) (left_state c.table u.id) unnamed h.order)
      (works_of_others s c.table table c.tale u.id u h.versions.kept.single e left_own h.works)
      (leaves.stages c.table h.stages)
      (over_finished may)
