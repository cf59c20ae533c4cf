-- A row is inserted: what the core stands for then.
use Rattle.std.proofs.Common.{◌≡◌, ℕ, cond, List, [], ◌∷◌, ◌++◌, None, Some, sym, ap, ◌∙◌, subst}
use Rattle.std.specs.Option.{is_some}
use Rattle.std.specs.FinMap as fin
use Rattle.mvo_types.specs.declared.ids.TxId.{TxId}
use Rattle.mvo_types.specs.declared.op.Op.TheVariants.{Insert}
use Rattle.mvo_types.specs.AnswerData.AnswerData.{Inserted, Exists}
use Rattle.mvo_types.specs.RowData.{RowData}
use Rattle.mvo_types.specs.Keys.{Map}
use Rattle.mvo_model.specs.Trace.{Step}
use Rattle.mvo_theory.specs.State.{State, active_of, snapshot}
use Rattle.mvo_theory.specs.Phases.{phase_in}
use Rattle.mvo_theory.specs.Causes.{why_not_do}
use Rattle.mvo_theory.specs.Changes.{after_answer}
use Rattle.mvo_theory.specs.Calls.{answer_in}
use Rattle.mvo_theory.specs.Calls.Call.{Do}
use Rattle.mvo_theory.specs.Calls.Result.{Accepted}
use Rattle.mvo_theory.proofs.Who.{id_of}
use Rattle.mvo_txn.specs.Txns.{Txns, state_of}
use Rattle.mvo_deps.specs.declared.node.Node.{Node}
use Rattle.mvo_deps.specs.Nodes.{after_register_all}
use Rattle.mvo_chain.specs.Slots.{version_at, with_room, with_slot}
use Rattle.mvo_work.specs.declared.word_place.WordPlace.TheVariants.{Begin}
use Rattle.mvo_versions.specs.Data.{VersionsData, AreIndexed}
use Rattle.mvo_versions.proofs.Indexing.{hole_inside, hole_empty, room_versions}
use Rattle.mvo_representation.specs.Dependencies.{AreDependencies}
use Rattle.mvo_representation.specs.Indexes.{all_versions}
use Rattle.mvo_representation.specs.Order.{AllStandInOrder}
use Rattle.mvo_representation.specs.OrderLaws.{HaveNow}
use Rattle.mvo_representation.specs.Steps.{IsOneMore, IsAfterAnswer, fresh}
use Rattle.mvo_representation.specs.WordLists.{HasWordLists, HaveListNow}
use Rattle.mvo_representation.proofs.OrderOperations.{insert_keeps_order}
use Rattle.mvo_representation.proofs.OrderSlots.{added_is_now}
use Rattle.mvo_representation.proofs.Slots.{slot_filled}
use Rattle.mvo_representation.proofs.WordsWritten.{insert_keeps_lists}
use Rattle.mvo_core.specs.Readers.{Readers}
use Rattle.mvo_core.specs.declared.kept_transaction.KeptTransaction.{KeptTransaction}
use Rattle.mvo_core.specs.Data.{CoreData}
use Rattle.mvo_core.specs.Inserting.{IsInserted}
use Rattle.mvo_core.specs.Keeping.{HasWrittenMore}
use Rattle.mvo_core.specs.Standing.{words_in, StandsAmong}
use Rattle.mvo_core.specs.Steps.{LeadsAmong}
use Rattle.mvo_content.specs.Works.{WorksData, works_in}
use Rattle.mvo_standing.specs.Beside.{WasTold}
use Rattle.mvo_core.proofs.Answered.{HasAnswered, IsAnswered, answer_leads, done_so}
use Rattle.mvo_core.proofs.Carried.{stands_roomy}
use Rattle.mvo_core.proofs.Looked.{IsActiveHere, shown_in, none_is, key_is}
use Rattle.mvo_core.proofs.OwnChanged.{IsOwnChanged, own_changed, own_weaker, words_beside, words_here, words_before, words_registered}

module _ (rs : Readers) (opening : Map) (steps : List Step) (s : State) (c : CoreData) (h : StandsAmong rs opening steps s c) (t : TxId) (row : RowData) (may : why_not_do s t.0 (Insert row) ≡ None) (here : IsActiveHere s c t.0)
    (unseen : (shown_in c t.0 row.key).version ≡ None) (ids : List TxId) (on : AreDependencies s (Insert row) here.tx ids) (new : VersionsData) (table : Txns (Node KeptTransaction))
    (w : IsInserted c.versions new c.table table t ids row) (indexed : AreIndexed new) where
  roomy : CoreData
  roomy = record c { table = w.recorded.roomy }

  stands : StandsAmong rs opening steps s (record c { table = w.recorded.roomy })
  stands = stands_roomy rs opening steps s c h t.0 w.recorded.roomy w.recorded.room

  id : here.tx.id ≡ t.0
  id = id_of t.0 s.active here.tx here.found

  found : active_of here.tx.id s.active ≡ Some here.tx
  found = ap (λ (n : ℕ). active_of n s.active) id ∙ here.found

  empty : fin.get (snapshot s here.tx.id) row.key ≡ None
  empty = ap (λ (n : ℕ). fin.get (snapshot s n) row.key) id ∙ none_is rs opening steps s c h t.0 here.tx here.found row.key unseen

  -- ---- the version
  added : (version_at c.versions.slots w.number ≡ None) × HaveNow c.versions.slots (with_slot (with_room c.versions.slots) w.number (Some (fresh t.0 row))) w.number.0 (fresh t.0 row)
  added = added_is_now c.versions.slots w.number (fresh t.0 row) w.put.hole

  now : HaveNow c.versions.slots new.slots w.number.0 (fresh here.tx.id row)
  now = subst (λ ss. HaveNow c.versions.slots ss w.number.0 (fresh here.tx.id row)) (sym w.put.slots)
      (subst (λ (n : ℕ). HaveNow c.versions.slots (with_slot (with_room c.versions.slots) w.number (Some (fresh t.0 row))) w.number.0 (fresh n row)) (sym id) added.1)

  in_order : AllStandInOrder s.start (state_of w.recorded.roomy) new.slots new.lists
  in_order = subst (AllStandInOrder s.start (state_of w.recorded.roomy) new.slots) (sym w.put.lists)
      (insert_keeps_order opening s (state_of w.recorded.roomy) c.versions.slots new.slots c.versions.lists c.versions.places here.tx row w.number.0 stands.versions found empty w.put.unused now stands.order)

  one_more : IsOneMore (fresh t.0 row) (all_versions c.versions.slots) (all_versions new.slots)
  one_more = subst (λ ss. IsOneMore (fresh t.0 row) (all_versions c.versions.slots) (all_versions ss)) (sym w.put.slots)
      (subst (λ vs. IsOneMore (fresh t.0 row) vs (all_versions (with_slot (with_room c.versions.slots) w.number (Some (fresh t.0 row))))) (room_versions c.versions.slots)
      (slot_filled (with_room c.versions.slots) w.number.0 (fresh t.0 row) (hole_inside (with_room c.versions.slots) w.number.0 w.put.hole) (hole_empty (with_room c.versions.slots) w.number.0 w.put.hole)))

  -- ---- the table
  registered : Txns (Node KeptTransaction)
  registered = after_register_all w.recorded.roomy t ids

  abbrev Done : KeptTransaction → KeptTransaction → Type 0
  Done = HasWrittenMore (Begin w.number ∷ [])

  changed : IsOwnChanged (after_register_all w.recorded.roomy t ids) table t.0 Done
  changed = own_changed (after_register_all w.recorded.roomy t ids) table t.0 Done w.recorded.done

  before : words_in (after_register_all w.recorded.roomy t ids) ≡ words_in w.recorded.roomy
  before = words_registered w.recorded.roomy t ids

  list_here : HaveListNow (words_in w.recorded.roomy) (words_in table) t.0 (words_in w.recorded.roomy t.0 ++ Begin w.number ∷ [])
  list_here = record {
    others = λ u ne. words_beside (after_register_all w.recorded.roomy t ids) table t.0 Done changed u ne ∙ ap (λ f. f u) before;
    here =
        words_here (after_register_all w.recorded.roomy t ids) table t.0 Done changed
        ∙ changed.changed.words
        ∙ ap (λ ws. ws ++ Begin w.number ∷ []) (sym (words_before (after_register_all w.recorded.roomy t ids) table t.0 Done changed) ∙ ap (λ f. f t.0) before);
  }

  list_now : HaveListNow (words_in w.recorded.roomy) (words_in table) here.tx.id (words_in w.recorded.roomy here.tx.id ++ Begin w.number ∷ [])
  list_now = subst (λ (n : ℕ). HaveListNow (words_in w.recorded.roomy) (words_in table) n (words_in w.recorded.roomy n ++ Begin w.number ∷ [])) (sym id) list_here

  words : HasWordLists (after_answer s t.0 (Insert row) Inserted) new.slots (words_in table)
  words = subst (λ (n : ℕ). HasWordLists (after_answer s n (Insert row) Inserted) new.slots (words_in table)) id
      (insert_keeps_lists opening s (state_of w.recorded.roomy) c.versions.slots new.slots c.versions.lists c.versions.places (words_in w.recorded.roomy) (words_in table) here.tx row w.number.0
      stands.versions found empty added.0 now list_now stands.words)

  -- ---- the answer
  pub insert_answers : Inserted ≡ answer_in s t.0 (Insert row)
  insert_answers = sym (ap (λ b. cond b Exists Inserted) (key_is rs opening steps s c h t.0 here.tx here.found row.key ∙ ap is_some unseen))

  answered : IsAnswered s (record c { table = w.recorded.roomy }) t here.tx (Insert row) ids new table
  answered = record {
    found = here.found;
    may = may;
    on = on;
    told = own_weaker (after_register_all w.recorded.roomy t ids) table t.0 Done HasAnswered (done_so (Begin w.number ∷ [])) changed;
    versions = subst (λ a. IsAfterAnswer s (phase_in s) t.0 (Insert row) a (all_versions c.versions.slots) (all_versions new.slots)) insert_answers one_more;
    indexed = indexed;
    order = in_order;
    words = subst (λ a. HasWordLists (after_answer s t.0 (Insert row) a) new.slots (words_in table)) insert_answers words;
  }

  pub inserted_leads : (more : WorksData) → WasTold s (works_in c.works) t.0 (Insert row) (works_in more) → LeadsAmong rs opening steps s (Do t.0 (Insert row)) Accepted (record c { versions = new; table = table; works = more })
  inserted_leads more was_told = answer_leads rs opening steps s (record c { table = w.recorded.roomy }) stands t here.tx (Insert row) ids new table answered more was_told
