-- An operation is answered: what the core stands for then.
use Rattle.std.proofs.Common.{◌≡◌, ◌≢◌, ℕ, false, List, [], ◌∷◌, ◌++◌, Option, None, Some, refl, sym, ap, ◌∙◌, subst, ⊎_elim}
use Rattle.std.specs.List.{AllByRecursion}
use Rattle.std.proofs.lemmas.Bool.{cases_eq}
use Rattle.mvo_types.specs.declared.ids.TxId.{TxId}
use Rattle.mvo_types.specs.declared.op.Op.{Op}
use Rattle.mvo_types.specs.declared.op.Op.TheVariants.{Read, Scan, Insert, Update, Delete}
use Rattle.mvo_types.specs.AnswerData.{AnswerData}
use Rattle.mvo_types.specs.AnswerData.AnswerData.{Inserted, Updated, Deleted}
use Rattle.mvo_types.specs.Write.{Write}
use Rattle.mvo_types.specs.Keys.{Map}
use Rattle.mvo_model.specs.History.{write_of}
use Rattle.mvo_model.specs.Trace.{Step}
use Rattle.mvo_model.specs.Trace.Step.{Answers}
use Rattle.mvo_theory.specs.State.{State, ActiveTx, StampedTx, Claim, Marks, active_of}
use Rattle.mvo_theory.specs.Phases.{phase_in}
use Rattle.mvo_theory.specs.Claims.{new_claim}
use Rattle.mvo_theory.specs.Changes.{with_answer, after_operation, taken_over, after_answer}
use Rattle.mvo_theory.specs.Causes.{why_not_do}
use Rattle.mvo_theory.specs.Calls.{MayCome, answer_in}
use Rattle.mvo_theory.specs.Calls.Call.{Do}
use Rattle.mvo_theory.specs.Calls.Result.{Accepted}
use Rattle.mvo_theory.proofs.Each.{each_both, each_map}
use Rattle.mvo_theory.proofs.Runs.{kept_after_call}
use Rattle.mvo_theory.proofs.Who.{active_holds, id_of}
use Rattle.mvo_shared.proofs.Standing.{standing_of}
use Rattle.mvo_txn.specs.Txns.{Txns, state_of}
use Rattle.mvo_deps.specs.declared.node.Node.{Node}
use Rattle.mvo_deps.specs.Nodes.{after_register_all}
use Rattle.mvo_chain.specs.declared.version.Version.{Version}
use Rattle.mvo_tale.specs.declared.tale_place.TalePlace.{TalePlace}
use Rattle.mvo_tale.specs.Kept.{IsTale}
use Rattle.mvo_tale.specs.Others.{others_places}
use Rattle.mvo_versions.specs.Data.{VersionsData, AreIndexed}
use Rattle.mvo_representation.specs.Words.{Phases}
use Rattle.mvo_representation.specs.Versions.{AreVersionsOf}
use Rattle.mvo_representation.specs.Indexes.{all_versions}
use Rattle.mvo_representation.specs.Steps.{IsAfterAnswer}
use Rattle.mvo_representation.specs.Order.{AllStandInOrder}
use Rattle.mvo_representation.specs.Dependencies.{HasDependencies, AreDependencies}
use Rattle.mvo_representation.specs.Table.{phases_of}
use Rattle.mvo_representation.specs.WordLists.{HasWordLists}
use Rattle.mvo_representation.proofs.OrderAborts.{same_stay_in_order}
use Rattle.mvo_representation.proofs.WordsKept.{answer_keeps_lists}
use Rattle.mvo_collect.proofs.Over.{each_call_keeps_over}
use Rattle.mvo_work.specs.declared.word_place.WordPlace.{WordPlace}
use Rattle.mvo_core.specs.declared.kept_transaction.KeptTransaction.{KeptTransaction}
use Rattle.mvo_core.specs.Data.{CoreData, own_of}
use Rattle.mvo_core.specs.Standing.{HasWorks, IsKeptActive, IsKeptPreparing, words_in, StandsAmong}
use Rattle.mvo_core.specs.Keeping.{HasWrittenMore}
use Rattle.mvo_core.specs.Readers.{Readers, reader_in, HasTalePlaces}
use Rattle.mvo_core.specs.Steps.{LeadsAmong}
use Rattle.mvo_core.proofs.Laws.{answer_in_table, call_keeps}
use Rattle.mvo_content.specs.Works.{WorksData, works_in}
use Rattle.mvo_standing.specs.Beside.{WasTold}
use Rattle.mvo_standing.proofs.Beside.{told_beside}
use Rattle.mvo_core.proofs.OwnChanged.{IsOwnChanged, own_registered_all, state_registered_all, words_registered}
use Rattle.mvo_core.proofs.ReaderStages.{AreSameReaders, stages_same, same_reader, readers_but}

-- it may have put words
pub record HasAnswered (old new : KeptTransaction) : Type 0 where
  pub place : new.place ≡ old.place
  pub checked : new.checked ≡ old.checked
  pub valid : new.valid ≡ old.valid
  pub kind : new.kind ≡ old.kind

-- ---- a claim that is taken over
works_taken : (o : Option Claim) (z : State) (table : Txns (Node KeptTransaction)) (tale : List TalePlace) → HasWorks z table tale → HasWorks (taken_over o z) table tale
works_taken None z table tale h = h
works_taken (Some x) z table tale h = record { active = h.active; preparing = h.preparing }

-- it changes the ended ones alone
abbrev IsBeside : State → State → Type 0
IsBeside z s = (z.start ≡ s.start) × (z.stamped ≡ s.stamped) × (z.marks ≡ s.marks) × (z.past ≡ s.past) × (z.clock ≡ s.clock)

beside_taken : (o : Option Claim) (s : State) (active : List ActiveTx) → IsBeside (taken_over o (record s { active = active })) s
beside_taken None s active = (refl, refl, refl, refl, refl)
beside_taken (Some x) s active = (refl, refl, refl, refl, refl)

-- ---- what each transaction has done
module _ (rs : Readers) (opening : Map) (steps : List Step) (s : State) (c : CoreData) (h : StandsAmong rs opening steps s c) (t : TxId) (r : ActiveTx) (found : active_of t.0 s.active ≡ Some r) (op : Op) (a : AnswerData)
    (ids : List TxId) (table : Txns (Node KeptTransaction)) (w : IsOwnChanged (after_register_all c.table t ids) table t.0 HasAnswered) where
  was : own_of c.table t.0 ≡ Some w.before
  was = sym (own_registered_all c.table t ids t.0) ∙ w.was

  others : (u : ℕ) → u ≢ t.0 → own_of table u ≡ own_of c.table u
  others u ne = w.beside u ne ∙ own_registered_all c.table t ids u

  pub readers_answered : AreSameReaders c.table table
  readers_answered = readers_but c.table table t.0 others
      (ap reader_in w.is ∙ same_reader w.before w.after w.changed.kind w.changed.place w.changed.checked w.changed.valid ∙ sym (ap reader_in was))

  one : (q : ActiveTx) → IsKeptActive c.table q → IsKeptActive table (with_answer s t.0 op a q)
  one q m =
      ⊎_elim
      (λ is.
      record { own = w.after; kept = ap (own_of table) is ∙ w.is })
      (λ ne. record { own = m.own; kept = others q.id ne ∙ m.kept })
      (cases_eq q.id t.0)

  apart : AllByRecursion (λ x. x.id ≢ r.id) s.stamped
  apart = (active_holds (λ r. AllByRecursion (λ x. x.id ≢ r.id) s.stamped) t.0 s.active r found h.versions.kept.numbered.apart).0

  still : (x : StampedTx) → x.id ≢ r.id → (x.settled ≡ false → IsKeptPreparing c.table c.tale x) → x.settled ≡ false → IsKeptPreparing table c.tale x
  still x ne m open' = let p = m open' in record {
    own = p.own;
    kept = others x.id (λ e. ne (e ∙ sym (id_of t.0 s.active r found))) ∙ p.kept;
    history = p.history;
    checked = p.checked;
    valid = p.valid;
    place = p.place;
  }

  works_told : HasWorks (after_operation s t.0 op a) table c.tale
  works_told = record {
    active = each_map (with_answer s t.0 op a) (IsKeptActive c.table) (IsKeptActive table) one s.active h.works.active;
    preparing = each_both (λ x. x.id ≢ r.id) (λ x. x.settled ≡ false → IsKeptPreparing c.table c.tale x) (λ x. x.settled ≡ false → IsKeptPreparing table c.tale x) still s.stamped apart h.works.preparing;
  }

  pub works_answered : HasWorks (after_answer s t.0 op a) table c.tale
  works_answered = works_taken (new_claim s t.0 op a) (after_operation s t.0 op a) table c.tale works_told

-- ---- the answer
-- The Active transaction t is r. It is told what the state answers to the operation, which it may
-- do; those are registered on whom it depends then; and this has become of the versions.
pub record IsAnswered (s : State) (c : CoreData) (t : TxId) (r : ActiveTx) (op : Op) (ids : List TxId) (v : VersionsData) (table : Txns (Node KeptTransaction)) : Type 0 where
  pub found : active_of t.0 s.active ≡ Some r
  pub may : why_not_do s t.0 op ≡ None
  pub on : AreDependencies s op r ids
  pub told : IsOwnChanged (after_register_all c.table t ids) table t.0 HasAnswered
  pub versions : IsAfterAnswer s (phase_in s) t.0 op (answer_in s t.0 op) (all_versions c.versions.slots) (all_versions v.slots)
  pub indexed : AreIndexed v
  pub order : AllStandInOrder s.start (state_of c.table) v.slots v.lists
  pub words : HasWordLists (after_answer s t.0 op (answer_in s t.0 op)) v.slots (words_in table)

module _ (rs : Readers) (opening : Map) (steps : List Step) (s : State) (c : CoreData) (h : StandsAmong rs opening steps s c) (t : TxId) (r : ActiveTx) (op : Op) (ids : List TxId)
    (v : VersionsData) (table : Txns (Node KeptTransaction)) (w : IsAnswered s c t r op ids v table) (more : WorksData) (was_told : WasTold s (works_in c.works) t.0 op (works_in more)) where
  abbrev a : AnswerData
  a = answer_in s t.0 op

  abbrev after : State
  after = after_answer s t.0 op a

  may_come : MayCome s (Do t.0 op) Accepted
  may_come = (w.may, tt)

  deps : HasDependencies after table
  deps = w.told.dependencies after (answer_in_table opening s c.table t op a r ids h.versions.kept h.dependencies w.found w.on)

  phases : phases_of (state_of c.table) ≡ phase_in s
  phases = λ i u. h.dependencies.stands.phases u i

  phases_then : phases_of (state_of table) ≡ phase_in after
  phases_then = λ i u. deps.stands.phases u i

  states : (u : ℕ) → state_of table u ≡ state_of c.table u
  states u = w.told.states u ∙ state_registered_all c.table t ids u

  beside : IsBeside after s
  beside = beside_taken (new_claim s t.0 op a) s (after_operation s t.0 op a).active

  stands_answered : StandsAmong rs opening (steps ++ Answers t.0 op a ∷ []) after (record c { versions = v; table = table; works = more })
  stands_answered = record {
    kept = kept_after_call opening steps s (Do t.0 op) Accepted may_come h.kept;
    versions = record {
      kept = standing_of opening (steps ++ Answers t.0 op a ∷ []) after (kept_after_call opening steps s (Do t.0 op) Accepted may_come h.kept);
      versions = subst (λ p. AreVersionsOf after p (all_versions v.slots)) (sym phases_then)
          (call_keeps opening s (Do t.0 op) Accepted (all_versions c.versions.slots) (all_versions v.slots) h.versions.kept may_come
          (subst (λ p. AreVersionsOf s p (all_versions c.versions.slots)) phases h.versions.versions) w.versions);
      numbers = w.indexed.numbers;
      order = w.indexed.order;
    };
    dependencies = deps;
    order = subst (λ (n : ℕ). AllStandInOrder n (state_of table) v.slots v.lists) (sym beside.0)
        (same_stay_in_order s.start (state_of c.table) (state_of table) v.slots v.slots v.lists states (λ m. refl) w.order);
    works = works_answered rs opening steps s c h t r w.found op a ids table w.told;
    words = w.words;
    tale = subst (λ (q : ℕ × Marks × List StampedTx × List StampedTx). IsTale q.0 q.1.closed q.2 q.3 (others_places c.tale)) (λ i. (sym beside.0 i, sym beside.2 i, sym beside.3 i, sym beside.1 i)) h.tale;
    places = subst (λ (q : ℕ × ℕ). HasTalePlaces rs q.0 q.1 c.tale) (λ i. (sym beside.0 i, sym beside.4 i)) h.places;
    stages = stages_same rs.unfinished c.table table c.tale (readers_answered rs opening steps s c h t r w.found op a ids table w.told) h.stages;
    marks = beside.2 ∙ h.marks;
    grouped = h.grouped;
    start = beside.0 ∙ h.start;
    over = each_call_keeps_over opening s (phases_of (state_of c.table)) (all_versions c.versions.slots) (Do t.0 op) Accepted h.versions.kept may_come h.versions.versions h.over;
    beside = told_beside opening steps s (works_in c.works) h.beside t.0 op (works_in more) may_come was_told;
  }

  pub answer_leads : LeadsAmong rs opening steps s (Do t.0 op) Accepted (record c { versions = v; table = table; works = more })
  answer_leads = record { may = may_come; stands = stands_answered }

-- ---- an answer by which nothing is written
some_write : (x : Write) → ◌≡◌ {A = Option Write} (Some x) None → ⊥
some_write x q = cc

-- it leaves the versions
same_versions : (s : State) (table : Phases) (t : ℕ) (op : Op) (a : AnswerData) (vs : List Version) → write_of op a ≡ None → IsAfterAnswer s table t op a vs vs
same_versions s table t (Read k) a vs e = refl
same_versions s table t (Scan of lo hi) a vs e = refl
same_versions s table t (Insert row) Inserted vs e = absurd (some_write _ e)
same_versions s table t (Insert row) a vs e = refl
same_versions s table t (Update row) Updated vs e = absurd (some_write _ e)
same_versions s table t (Update row) a vs e = refl
same_versions s table t (Delete k) Deleted vs e = absurd (some_write _ e)
same_versions s table t (Delete k) a vs e = refl

pub done_so : (put : List WordPlace) (x y : KeptTransaction) → HasWrittenMore put x y → HasAnswered x y
done_so put x y w = record { place = w.place; checked = w.checked; valid = w.valid; kind = w.kind }

-- nothing is written of it
unwritten_changed : (table : Txns (Node KeptTransaction)) (t : ℕ) (own : KeptTransaction) → own_of table t ≡ Some own → IsOwnChanged table table t HasAnswered
unwritten_changed table t own kept = record {
  before = own;
  after = own;
  was = kept;
  is = kept;
  changed = record { place = refl; checked = refl; valid = refl; kind = refl };
  beside = λ u ne. refl;
  states = λ u. refl;
  dependencies = λ s h. h;
}

-- The same of an answer that writes nothing: the versions and the lists of words stay.
pub record IsAnsweredOnly (s : State) (c : CoreData) (t : TxId) (r : ActiveTx) (op : Op) (ids : List TxId) (table : Txns (Node KeptTransaction)) : Type 0 where
  pub found : active_of t.0 s.active ≡ Some r
  pub may : why_not_do s t.0 op ≡ None
  pub on : AreDependencies s op r ids
  pub is : table ≡ after_register_all c.table t ids
  pub unwritten : write_of op (answer_in s t.0 op) ≡ None

module _ (rs : Readers) (opening : Map) (steps : List Step) (s : State) (c : CoreData) (h : StandsAmong rs opening steps s c) (t : TxId) (r : ActiveTx) (op : Op) (ids : List TxId)
    (table : Txns (Node KeptTransaction)) (w : IsAnsweredOnly s c t r op ids table) where
  abbrev b : AnswerData
  b = answer_in s t.0 op

  id : r.id ≡ t.0
  id = id_of t.0 s.active r w.found

  lists : words_in table ≡ words_in c.table
  lists = ap (λ (x : Txns (Node KeptTransaction)). words_in x) w.is ∙ words_registered c.table t ids

  told : IsOwnChanged (after_register_all c.table t ids) table t.0 HasAnswered
  told =
      let k = active_holds (IsKeptActive c.table) t.0 s.active r w.found h.works.active in
      subst (λ x. IsOwnChanged (after_register_all c.table t ids) x t.0 HasAnswered) (sym w.is)
      (unwritten_changed (after_register_all c.table t ids) t.0 k.0.own (own_registered_all c.table t ids t.0 ∙ ap (own_of c.table) (sym k.1) ∙ k.0.kept))

  words : HasWordLists (after_answer s t.0 op b) c.versions.slots (words_in table)
  words = subst (HasWordLists (after_answer s t.0 op b) c.versions.slots) (sym lists)
      (subst (λ (n : ℕ). HasWordLists (after_answer s n op b) c.versions.slots (words_in c.table)) id
      (answer_keeps_lists opening s (state_of c.table) c.versions.slots c.versions.lists c.versions.places (words_in c.table) r op b h.versions
      (ap (λ (n : ℕ). active_of n s.active) id ∙ w.found) w.unwritten h.words))

  answered : IsAnswered s c t r op ids c.versions table
  answered = record {
    found = w.found;
    may = w.may;
    on = w.on;
    told = told;
    versions = same_versions s (phase_in s) t.0 op b (all_versions c.versions.slots) w.unwritten;
    indexed = record { numbers = h.versions.numbers; order = h.versions.order };
    order = h.order;
    words = words;
  }

  pub answer_only_leads : (more : WorksData) → WasTold s (works_in c.works) t.0 op (works_in more) → LeadsAmong rs opening steps s (Do t.0 op) Accepted (record c { table = table; works = more })
  answer_only_leads more was_told = answer_leads rs opening steps s c h t r op ids c.versions table answered more was_told

-- so it is where the answer is recorded
module _ (rs : Readers) (opening : Map) (steps : List Step) (s : State) (c : CoreData) (h : StandsAmong rs opening steps s c) (t : TxId) (r : ActiveTx) (found : active_of t.0 s.active ≡ Some r) (op : Op) (a : AnswerData) where
  pub recorded_leads : why_not_do s t.0 op ≡ None → a ≡ answer_in s t.0 op → write_of op a ≡ None → (ids : List TxId) → AreDependencies s op r ids
      → (table : Txns (Node KeptTransaction)) → table ≡ after_register_all c.table t ids → (more : WorksData) → WasTold s (works_in c.works) t.0 op (works_in more)
      → LeadsAmong rs opening steps s (Do t.0 op) Accepted (record c { table = table; works = more })
  recorded_leads may is unwritten ids on table w more was_told =
      answer_only_leads rs opening steps s c h t r op ids table (record {
        found = found;
        may = may;
        on = on;
        is = w;
        unwritten = subst (λ x. write_of op x ≡ None) is unwritten;
      }) more was_told
