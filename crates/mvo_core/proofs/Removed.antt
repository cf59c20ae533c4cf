-- A version is ended, and one is put in its place: what the core stands for after a delete that is told Deleted, and an update that is told Updated.
use Rattle.std.proofs.Common.{◌≡◌, ◌≢◌, ℕ, cond, List, [], ◌∷◌, ◌++◌, Option, None, Some, refl, sym, ap, ◌∙◌, subst, ⊎_elim, suc, zero}
use Rattle.std.specs.Prelude.{is_some, slice_set, IsSome}
use Rattle.std.specs.Option.{option_map}
use Rattle.std.proofs.lemmas.Bool.{cases_eq, false≢true}
use Rattle.std.proofs.lemmas.List.{append_assoc}
use Rattle.mvo_types.specs.declared.ids.TxId.{TxId}
use Rattle.mvo_types.specs.declared.row.RowKey.{RowKey}
use Rattle.mvo_types.specs.declared.op.Op.TheVariants.{Update, Delete}
use Rattle.mvo_types.specs.AnswerData.{AnswerData}
use Rattle.mvo_types.specs.AnswerData.AnswerData.{Updated, Deleted, Absent}
use Rattle.mvo_types.specs.RowData.{RowData, ContentData}
use Rattle.mvo_types.specs.Keys.{Map}
use Rattle.mvo_model.specs.Trace.{Step}
use Rattle.mvo_theory.specs.State.{State, ActiveTx, active_of}
use Rattle.mvo_theory.specs.Phases.{phase_in}
use Rattle.mvo_theory.specs.Changes.{after_answer}
use Rattle.mvo_theory.specs.Causes.{why_not_do}
use Rattle.mvo_theory.specs.Calls.{answer_in}
use Rattle.mvo_txn.specs.Txns.{Txns, state_of}
use Rattle.mvo_deps.specs.declared.node.Node.{Node}
use Rattle.mvo_deps.specs.Nodes.{after_register_all}
use Rattle.mvo_chain.specs.declared.version.Version.{Version}
use Rattle.mvo_chain.specs.declared.version.VersionNo.{VersionNo}
use Rattle.mvo_chain.specs.Slots.{Slots, version_at, with_room, with_slot, with_change}
use Rattle.mvo_work.specs.declared.word_place.WordPlace.{WordPlace}
use Rattle.mvo_work.specs.declared.word_place.WordPlace.TheVariants.{Begin, End}
use Rattle.mvo_versions.specs.Data.{VersionsData, AreIndexed}
use Rattle.mvo_versions.specs.Changes.{IsPut, IsReworded}
use Rattle.mvo_versions.proofs.Indexing.{emptied_again, room_same, room_versions, reworded}
use Rattle.mvo_representation.specs.Dependencies.{AreDependencies, tx_id}
use Rattle.mvo_representation.specs.Indexes.{all_versions}
use Rattle.mvo_representation.specs.Order.{AllStandInOrder}
use Rattle.mvo_representation.specs.OrderLaws.{HaveNow}
use Rattle.mvo_representation.specs.Steps.{MayEnd, IsAfterAnswer, IsOneMore, IsOneChanged, fresh, ended_by}
use Rattle.mvo_representation.specs.Table.{phases_of, IsShown}
use Rattle.mvo_representation.specs.WordLists.{HasWordLists, HaveListNow}
use Rattle.mvo_representation.proofs.OrderOperations.{delete_keeps_order, update_keeps_order}
use Rattle.mvo_representation.proofs.OrderSlots.{added_is_now, changed_is_now}
use Rattle.mvo_representation.proofs.Slots.{slot_changed, slot_emptied, none_version}
use Rattle.mvo_representation.proofs.WordsWritten.{delete_keeps_lists, update_keeps_lists}
use Rattle.mvo_core.specs.Readers.{Readers}
use Rattle.mvo_core.specs.declared.kept_transaction.KeptTransaction.{KeptTransaction}
use Rattle.mvo_core.specs.Data.{CoreData}
use Rattle.mvo_core.specs.Keeping.{HasWrittenMore}
use Rattle.mvo_core.specs.Looking.{cause_at}
use Rattle.mvo_core.specs.Standing.{words_in, StandsAmong}
use Rattle.mvo_core.proofs.OwnChanged.{IsOwnChanged, own_weaker, words_beside, words_here, words_before, words_registered}
use Rattle.mvo_core.proofs.Answered.{HasAnswered, IsAnswered, done_so}
use Rattle.mvo_core.proofs.InTheWay.{shown, shown_there, row_there, may_end}

-- ---- slots
-- two slots are set in either order
set_swap : (ss : Slots) (i j : ℕ) (x y : Option Version) → i ≢ j → slice_set (slice_set ss i x) j y ≡ slice_set (slice_set ss j y) i x
set_swap [] i j x y ne = refl
set_swap (o ∷ ss) zero zero x y ne = absurd (ne refl)
set_swap (o ∷ ss) zero (suc j) x y ne = refl
set_swap (o ∷ ss) (suc i) zero x y ne = refl
set_swap (o ∷ ss) (suc i) (suc j) x y ne = ap (λ rest. o ∷ rest) (set_swap ss i j x y (λ q. ne (ap suc q)))

-- ---- what is kept of one transaction
-- its list is this then
list_now : (table : Txns (Node KeptTransaction)) (t : TxId) (ids : List TxId) (new : Txns (Node KeptTransaction)) (put : List WordPlace)
    → IsOwnChanged (after_register_all table t ids) new t.0 (HasWrittenMore put) → HaveListNow (words_in table) (words_in new) t.0 (words_in table t.0 ++ put)
list_now table t ids new put w = record {
  others = λ u ne. words_beside (after_register_all table t ids) new t.0 (HasWrittenMore put) w u ne ∙ ap (λ (f : ℕ → List WordPlace). f u) (words_registered table t ids);
  here = words_here (after_register_all table t ids) new t.0 (HasWrittenMore put) w
      ∙ w.changed.words
      ∙ ap (λ ws. ws ++ put) (sym (words_before (after_register_all table t ids) new t.0 (HasWrittenMore put) w) ∙ ap (λ (f : ℕ → List WordPlace). f t.0) (words_registered table t ids));
}

-- ---- a version is ended
still_indexed : (old new : VersionsData) (n : VersionNo) (t : ℕ) → IsReworded old new n (ended_by t) → AreIndexed old → AreIndexed new
still_indexed old new n t w h = subst AreIndexed same (reworded old n (ended_by t) (λ v. refl) h)
  where
    same : record old { slots = with_change old.slots n (ended_by t) } ≡ new
    same = λ i. record { slots = sym w.slots i; lists = sym w.lists i; places = sym w.places i }

module _ (rs : Readers) (opening : Map) (steps : List Step) (s : State) (c : CoreData) (h : StandsAmong rs opening steps s c) (r : ActiveTx) (f : active_of r.id s.active ≡ Some r)
    (k : RowKey) (n : VersionNo) (e : shown rs opening steps s c h r f k ≡ Some n) (free : cause_at (state_of c.table) c.versions.slots r.id (Some n) ≡ None) where
  abbrev there : IsShown s (state_of c.table) c.versions.slots r.id k n
  there = shown_there rs opening steps s c h r f k n e

  abbrev v : Version
  v = there.version

  abbrev Table : Type 0
  Table = Txns (Node KeptTransaction)

  may : MayEnd s (phases_of (state_of c.table)) r.id (all_versions c.versions.slots) v
  may = may_end rs opening steps s c h r f k n e free

  ended_now : HaveNow c.versions.slots (with_change c.versions.slots n (ended_by r.id)) n.0 (ended_by r.id v)
  ended_now = changed_is_now c.versions.slots n v (ended_by r.id) there.at

  phases : phases_of (state_of c.table) ≡ phase_in s
  phases = λ i u. h.dependencies.stands.phases u i

  stood : AreIndexed c.versions
  stood = record { numbers = h.versions.numbers; order = h.versions.order }

  -- ---- a delete
  deleted_is : answer_in s r.id (Delete k) ≡ Deleted
  deleted_is = ap (λ (o : Option ContentData). cond (is_some o) Deleted Absent) (row_there rs opening steps s c h r f k n e)

  module _ (ids : List TxId) (versions : VersionsData) (table : Table) (w : IsReworded c.versions versions n (ended_by r.id))
      (told : IsOwnChanged (after_register_all c.table (tx_id r.id) ids) table r.id (HasWrittenMore (End n ∷ []))) where
    less_one : IsAfterAnswer s (phases_of (state_of c.table)) r.id (Delete k) Deleted (all_versions c.versions.slots) (all_versions versions.slots)
    less_one = (
      v,
      there.key,
      record {
        may = may;
        ended = subst (λ ss. IsOneChanged v (ended_by r.id v) (all_versions c.versions.slots) (all_versions ss))
            (sym (w.slots ∙ ap (λ o. slice_set c.versions.slots n.0 (option_map (ended_by r.id) o)) there.at))
            (slot_changed c.versions.slots n.0 v (ended_by r.id v) there.at);
      },
    )

    deleted_in_order : AllStandInOrder s.start (state_of c.table) versions.slots versions.lists
    deleted_in_order = subst (AllStandInOrder s.start (state_of c.table) versions.slots) (sym w.lists)
        (delete_keeps_order opening s (state_of c.table) c.versions.slots versions.slots c.versions.lists c.versions.places r v n.0 h.versions f there.at may
        (subst (λ ss. HaveNow c.versions.slots ss n.0 (ended_by r.id v)) (sym w.slots) ended_now) h.order)

    deleted_in_lists : HasWordLists (after_answer s r.id (Delete k) Deleted) versions.slots (words_in table)
    deleted_in_lists = subst (λ (q : RowKey). HasWordLists (after_answer s r.id (Delete q) Deleted) versions.slots (words_in table)) there.key
        (delete_keeps_lists opening s (state_of c.table) c.versions.slots versions.slots c.versions.lists c.versions.places (words_in c.table) (words_in table) r v n.0 h.versions f there.at may
        (subst (λ ss. HaveNow c.versions.slots ss n.0 (ended_by r.id v)) (sym w.slots) ended_now)
        (list_now c.table (tx_id r.id) ids table (End n ∷ []) told) h.words)

    pub deleted : AreDependencies s (Delete k) r ids → why_not_do s r.id (Delete k) ≡ None → IsAnswered s c (tx_id r.id) r (Delete k) ids versions table
    deleted on why = record {
      found = f;
      may = why;
      on = on;
      told = own_weaker (after_register_all c.table (tx_id r.id) ids) table r.id (HasWrittenMore (End n ∷ [])) HasAnswered (done_so (End n ∷ [])) told;
      versions = subst (λ (a : AnswerData). IsAfterAnswer s (phase_in s) r.id (Delete k) a (all_versions c.versions.slots) (all_versions versions.slots)) (sym deleted_is)
          (subst (λ p. IsAfterAnswer s p r.id (Delete k) Deleted (all_versions c.versions.slots) (all_versions versions.slots)) phases less_one);
      indexed = still_indexed c.versions versions n r.id w stood;
      order = deleted_in_order;
      words = subst (λ (a : AnswerData). HasWordLists (after_answer s r.id (Delete k) a) versions.slots (words_in table)) (sym deleted_is) deleted_in_lists;
    }

  -- ---- an update
  module _ (row : RowData) (key : row.key ≡ k) (m : VersionNo) (between versions : VersionsData) (p : IsPut c.versions between row r.id m) (sound : AreIndexed between)
      (w : IsReworded between versions n (ended_by r.id)) (ids : List TxId) (table : Table)
      (told : IsOwnChanged (after_register_all c.table (tx_id r.id) ids) table r.id (HasWrittenMore (End n ∷ Begin m ∷ []))) where
    added : (version_at c.versions.slots m ≡ None) × HaveNow c.versions.slots (with_slot (with_room c.versions.slots) m (Some (fresh r.id row))) m.0 (fresh r.id row)
    added = added_is_now c.versions.slots m (fresh r.id row) p.hole

    apart : n.0 ≢ m.0
    apart q = none_version v (sym added.0 ∙ ap (λ (i : ℕ). version_at c.versions.slots (record { 0 = i })) (sym q) ∙ there.at)

    put_now : HaveNow c.versions.slots between.slots m.0 (fresh r.id row)
    put_now = subst (λ ss. HaveNow c.versions.slots ss m.0 (fresh r.id row)) (sym p.slots) added.1

    still_there : version_at between.slots n ≡ Some v
    still_there = put_now.others n apart ∙ there.at

    -- the version is ended behind the put
    then_now : HaveNow between.slots versions.slots n.0 (ended_by r.id v)
    then_now = subst (λ ss. HaveNow between.slots ss n.0 (ended_by r.id v)) (sym w.slots) (changed_is_now between.slots n v (ended_by r.id) still_there)

    abbrev ended_slots : Slots
    ended_slots = with_change c.versions.slots n (ended_by r.id)

    -- that is the same as before it
    now : HaveNow ended_slots versions.slots m.0 (fresh r.id row)
    now = record {
      others = λ j ne. ⊎_elim
          (λ is. ap (λ (i : ℕ). version_at versions.slots (record { 0 = i })) is ∙ then_now.here ∙ sym ended_now.here ∙ sym (ap (λ (i : ℕ). version_at ended_slots (record { 0 = i })) is))
          (λ other. then_now.others j other ∙ put_now.others j ne ∙ sym (ended_now.others j other))
          (cases_eq j.0 n.0);
      here = then_now.others m (λ q. apart (sym q)) ∙ put_now.here;
    }

    hole : version_at ended_slots m ≡ None
    hole = ended_now.others m (λ q. apart (sym q)) ∙ added.0

    same_key : row.key ≡ v.row.key
    same_key = key ∙ sym there.key

    -- without the new one, only the old one has changed
    without_new : slice_set versions.slots m.0 None ≡ slice_set (with_room c.versions.slots) n.0 (Some (ended_by r.id v))
    without_new =
        ap (λ ss. slice_set ss m.0 None) (w.slots ∙ ap (λ o. slice_set between.slots n.0 (option_map (ended_by r.id) o)) still_there ∙ ap (λ ss. slice_set ss n.0 (Some (ended_by r.id v))) p.slots)
        ∙ set_swap (slice_set (with_room c.versions.slots) m.0 (Some (fresh r.id row))) n.0 m.0 (Some (ended_by r.id v)) None apart
        ∙ ap (λ ss. slice_set ss n.0 (Some (ended_by r.id v))) (emptied_again (with_room c.versions.slots) m.0 (fresh r.id row) p.hole)

    replaced : IsAfterAnswer s (phases_of (state_of c.table)) r.id (Update row) Updated (all_versions c.versions.slots) (all_versions versions.slots)
    replaced = record {
      version = v;
      key = same_key;
      may = may;
      between = all_versions (slice_set (with_room c.versions.slots) n.0 (Some (ended_by r.id v)));
      ended = subst (λ vs. IsOneChanged v (ended_by r.id v) vs (all_versions (slice_set (with_room c.versions.slots) n.0 (Some (ended_by r.id v))))) (room_versions c.versions.slots)
          (slot_changed (with_room c.versions.slots) n.0 v (ended_by r.id v) (room_same c.versions.slots n.0 ∙ there.at));
      put = subst (λ ss. IsOneMore (fresh r.id row) (all_versions ss) (all_versions versions.slots)) without_new
          (slot_emptied versions.slots m.0 (fresh r.id row) now.here);
    }

    updated_in_order : AllStandInOrder s.start (state_of c.table) versions.slots versions.lists
    updated_in_order = subst (AllStandInOrder s.start (state_of c.table) versions.slots) (sym (w.lists ∙ p.lists))
        (update_keeps_order opening s (state_of c.table) c.versions.slots ended_slots versions.slots c.versions.lists c.versions.places r v row n.0 m.0 h.versions f there.at same_key may
        ended_now p.unused now h.order)

    updated_in_lists : HasWordLists (after_answer s r.id (Update row) Updated) versions.slots (words_in table)
    updated_in_lists = update_keeps_lists opening s (state_of c.table) c.versions.slots ended_slots versions.slots c.versions.lists c.versions.places (words_in c.table) (words_in table) r v row n.0 m.0
        h.versions f there.at same_key may ended_now hole now
        (subst (HaveListNow (words_in c.table) (words_in table) r.id) (sym (append_assoc (words_in c.table r.id) (End n ∷ []) (Begin m ∷ [])))
        (list_now c.table (tx_id r.id) ids table (End n ∷ Begin m ∷ []) told)) h.words

    updated_is : answer_in s r.id (Update row) ≡ Updated
    updated_is = ap (λ (q : RowKey). answer_in s r.id (Update (record row { key = q }))) key ∙ ap (λ (o : Option ContentData). cond (is_some o) Updated Absent) (row_there rs opening steps s c h r f k n e)

    pub updated : AreDependencies s (Update row) r ids → why_not_do s r.id (Update row) ≡ None → IsAnswered s c (tx_id r.id) r (Update row) ids versions table
    updated on why = record {
      found = f;
      may = why;
      on = on;
      told = own_weaker (after_register_all c.table (tx_id r.id) ids) table r.id (HasWrittenMore (End n ∷ Begin m ∷ [])) HasAnswered (done_so (End n ∷ Begin m ∷ [])) told;
      versions = subst (λ (a : AnswerData). IsAfterAnswer s (phase_in s) r.id (Update row) a (all_versions c.versions.slots) (all_versions versions.slots)) (sym updated_is)
          (subst (λ q. IsAfterAnswer s q r.id (Update row) Updated (all_versions c.versions.slots) (all_versions versions.slots)) phases replaced);
      indexed = still_indexed between versions n r.id w sound;
      order = updated_in_order;
      words = subst (λ (a : AnswerData). HasWordLists (after_answer s r.id (Update row) a) versions.slots (words_in table)) (sym updated_is) updated_in_lists;
    }

-- a put leaves the other versions where they are
pub live_behind : (old new : VersionsData) (row : RowData) (t : ℕ) (m n : VersionNo) → IsPut old new row t m → IsSome (version_at old.slots n) → IsSome (version_at new.slots n)
live_behind old new row t m n p live = go (version_at old.slots n) refl live
  where
    now : (version_at old.slots m ≡ None) × HaveNow old.slots (with_slot (with_room old.slots) m (Some (fresh t row))) m.0 (fresh t row)
    now = added_is_now old.slots m (fresh t row) p.hole

    go : (o : Option Version) → version_at old.slots n ≡ o → IsSome o → IsSome (version_at new.slots n)
    go None e some = absurd (false≢true some)
    go (Some v) e some = subst (λ o. IsSome o)
        (sym (ap (λ ss. version_at ss n) p.slots ∙ now.1.others n (λ q. none_version v (sym now.0 ∙ ap (λ (i : ℕ). version_at old.slots (record { 0 = i })) (sym q) ∙ e)) ∙ e)) refl
