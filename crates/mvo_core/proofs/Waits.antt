-- What waits to be collected, through each change of versions and of the table.
use Rattle.std.proofs.Common.{◌≡◌, ◌≢◌, ℕ, ◌+◌, ◌-◌, ◌<◌, ◌≤◌, Bool, true, false, cond, List, [], ◌∷◌, Option, None, Some, refl, sym, ap, ◌∙◌, subst, arith, ⊎_elim}
use Rattle.std.specs.Prelude.{IsSome, slice_get, slice_set, Result, Ok, Err, OnOk, OnErr}
use Rattle.mvo_types.specs.declared.refusal.Refusal.{Refusal}
use Rattle.std.specs.Option.{option_map}
use Rattle.std.specs.List.{AllByRecursion}
use Rattle.std.proofs.lemmas.Bool.{cases_eq, false≢true}
use Rattle.mvo_types.specs.declared.ids.TxId.{TxId}
use Rattle.mvo_types.specs.RowData.{RowData}
use Rattle.mvo_word.specs.declared.held.Held.{Held}
use Rattle.mvo_chain.specs.declared.version.Version.{Version}
use Rattle.mvo_chain.specs.declared.version.VersionNo.{VersionNo}
use Rattle.mvo_chain.specs.Slots.{Slots, version_at, with_room, with_slot}
use Rattle.mvo_hash.specs.Lists.{number}
use Rattle.mvo_txn.specs.declared.state.TxState.TheVariants.{Active}
use Rattle.mvo_txn.specs.Txns.{Txns, state_of, kept_of, table_after_begin, after_terminate}
use Rattle.mvo_deps.specs.declared.node.Node.{Node}
use Rattle.mvo_deps.specs.Data.{DependencyData, is_id_among, with_dependency, with_dependent}
use Rattle.mvo_deps.specs.Nodes.{data_of, after_change_at, after_change, noted_on, after_register, after_register_all}
use Rattle.mvo_visible.specs.Words.{States}
use Rattle.mvo_work.specs.declared.word_place.WordPlace.{WordPlace}
use Rattle.mvo_versions.specs.Data.{VersionsData}
use Rattle.mvo_versions.specs.Changes.{IsPut, IsReworded}
use Rattle.mvo_versions.proofs.Indexing.{hole_inside, hole_empty, room_versions}
use Rattle.mvo_representation.specs.Words.{end_in, ends_of}
use Rattle.mvo_representation.specs.Table.{phase_as, phases_of}
use Rattle.mvo_representation.specs.Indexes.{all_versions}
use Rattle.mvo_representation.specs.OrderLaws.{HaveNow}
use Rattle.mvo_representation.specs.Steps.{IsOneMore, IsOneChanged, fresh, ended_by}
use Rattle.mvo_representation.specs.WordLists.{number_at_word, with_word, finished}
use Rattle.mvo_representation.proofs.OrderSlots.{added_is_now, changed_is_now}
use Rattle.mvo_representation.proofs.Slots.{slot_filled, slot_changed}
use Rattle.mvo_representation.proofs.TableNodes.{begun_state, begun_others, left_state, left_others}
use Rattle.mvo_representation.proofs.WordPlaces.{names_there}
use Rattle.mvo_representation.proofs.Decided.{none_end}
use Rattle.mvo_collect.specs.declared.ended.Ended.{Ended}
use Rattle.mvo_collect.specs.Waiting.{WaitingData, AreWaiting, HaveRisingEnds, waits, is_buried, is_by}
use Rattle.mvo_collect.specs.Collecting.{is_dead_in}
use Rattle.mvo_collect.specs.Laws.{with_owed, and_dead}
use Rattle.mvo_collect.proofs.Needed.{open_is_owed}
use Rattle.mvo_collect.proofs.Awaited.{table_keeps_waiting, room_keeps_waiting, put_keeps_waiting, end_keeps_waiting, finish_keeps_waiting}
use Rattle.mvo_core.specs.declared.kept_transaction.KeptTransaction.{KeptTransaction}
use Rattle.mvo_core.specs.Collecting.{is_open_end, is_open_end_at, counted_off}
use Rattle.mvo_core.specs.Ending.{IsRemoved, IsReplaced}
use Rattle.mvo_core.specs.Finishing.{IsFinalWord, HasPassed, from_own, IsFirstReplaced, IsNextReplaced}
use Rattle.mvo_core.specs.Inserting.{IsInserted}
use Rattle.mvo_core.specs.Keeping.{IsWritten, HasWrittenAsMuch, HasMadeRoom, HasWrittenMore, HasDropped, IsRecordedWith}
use Rattle.mvo_core.specs.Looking.{HasSameVersions}
use Rattle.mvo_core.specs.Standing.{words_in}
use Rattle.mvo_core.proofs.BesideWords.{list_written, list_was}
use Rattle.mvo_core.proofs.Drawing.{clock_written}
use Rattle.mvo_core.proofs.Finished.{final_is}
use Rattle.mvo_core.proofs.OwnChanged.{own_changed, state_registered_all}
use Rattle.mvo_core.proofs.Passed.{first_named}
use Rattle.mvo_core.proofs.FirstWord.{first_is}
use Rattle.mvo_core.proofs.SameVersions.{same_all, same_at}

-- ---- the room is nothing to it
pub waits_so : (clock : ℕ) (states : States) (slots : Slots) (w w' : WaitingData) → w'.ended ≡ w.ended → w'.dead ≡ w.dead → w'.owed ≡ w.owed → AreWaiting clock states slots w → AreWaiting clock states slots w'
waits_so clock states slots w w' ended dead owed h = record {
  each = λ n v at. let a = h.each n v at in record { ended = λ e q. ap (waits e n) ended ∙ a.ended e q; dead = λ q. ap (is_buried n) dead ∙ a.dead q; later = a.later };
  rising = subst HaveRisingEnds (sym ended) h.rising;
  drawn = subst (λ (xs : List Ended). AllByRecursion (λ x. x.end.0 ≤ clock) xs) (sym ended) h.drawn;
  owed = h.owed ∙ sym owed;
}

pub waits_roomy : (clock : ℕ) (states : States) (slots : Slots) (w w' : WaitingData) (room : ℕ) → w' ≡ record w { room = room } → AreWaiting clock states slots w → AreWaiting clock states slots w'
waits_roomy clock states slots w w' room is h = waits_so clock states slots w w' (ap (λ (x : WaitingData). x.ended) is) (ap (λ (x : WaitingData). x.dead) is) (ap (λ (x : WaitingData). x.owed) is) h

pub waits_roomy_ended : (clock : ℕ) (states : States) (slots : Slots) (w w' : WaitingData) (room : ℕ) → w' ≡ record w { ended_room = room } → AreWaiting clock states slots w → AreWaiting clock states slots w'
waits_roomy_ended clock states slots w w' room is h = waits_so clock states slots w w' (ap (λ (x : WaitingData). x.ended) is) (ap (λ (x : WaitingData). x.dead) is) (ap (λ (x : WaitingData). x.owed) is) h

-- ---- tables where each stands alike
pub record AreAlike (old new : Txns (Node KeptTransaction)) : Type 0 where
  pub clock : new.clock ≡ old.clock
  pub states : (u : ℕ) → state_of new u ≡ state_of old u

pub alike_twice : (a b c : Txns (Node KeptTransaction)) → AreAlike a b → AreAlike b c → AreAlike a c
alike_twice a b c p q = record { clock = q.clock ∙ p.clock; states = λ u. q.states u ∙ p.states u }

pub alike_written : (old new : Txns (Node KeptTransaction)) (t : ℕ) (change : KeptTransaction → KeptTransaction → Type 0) → IsWritten old new t change → AreAlike old new
alike_written old new t change w = record { clock = clock_written old new t change w; states = (own_changed old new t change w).states }

pub clock_changed : (table : Txns (Node KeptTransaction)) (id : ℕ) (f : DependencyData → DependencyData) → (after_change table id f).clock ≡ table.clock
clock_changed table id f = go (kept_of table id)
  where
    go : (o : Option (Node KeptTransaction)) → (after_change_at o table id f).clock ≡ table.clock
    go None = refl
    go (Some node) = refl

clock_registered : (table : Txns (Node KeptTransaction)) (t on : TxId) → (after_register table t on).clock ≡ table.clock
clock_registered table t on = go (is_id_among on (data_of table t).on) (is_id_among t (data_of table on).dependents)
  where
    go : (a b : Bool) → (cond a table (cond b table (noted_on table t on))).clock ≡ table.clock
    go true b = refl
    go false true = refl
    go false false = clock_changed (after_change table on.0 (with_dependent t)) t.0 (with_dependency on) ∙ clock_changed table on.0 (with_dependent t)

clock_registered_all : (table : Txns (Node KeptTransaction)) (t : TxId) (ids : List TxId) → (after_register_all table t ids).clock ≡ table.clock
clock_registered_all table t [] = refl
clock_registered_all table t (on ∷ ons) = clock_registered_all (after_register table t on) t ons ∙ clock_registered table t on

pub alike_registered : (table : Txns (Node KeptTransaction)) (t : TxId) (ids : List TxId) → AreAlike table (after_register_all table t ids)
alike_registered table t ids = record { clock = clock_registered_all table t ids; states = state_registered_all table t ids }

pub alike_depending : (old new : Txns (Node KeptTransaction)) (t : TxId) (ids : List TxId) → new ≡ after_register_all old t ids → AreAlike old new
alike_depending old new t ids is = subst (λ (x : Txns (Node KeptTransaction)). AreAlike old x) (sym is) (alike_registered old t ids)

pub alike_same : (old new : Txns (Node KeptTransaction)) → new ≡ old → AreAlike old new
alike_same old new is = subst (λ (x : Txns (Node KeptTransaction)). AreAlike old x) (sym is) (record { clock = refl; states = λ u. refl })

pub alike_recorded_with : (old new : Txns (Node KeptTransaction)) (t : TxId) (ids : List TxId) (put : List WordPlace) → IsRecordedWith old new t ids put → AreAlike old new
alike_recorded_with old new t ids put w =
    alike_twice old w.roomy new (alike_written old w.roomy t.0 HasMadeRoom w.room)
    (alike_twice w.roomy (after_register_all w.roomy t ids) new (alike_registered w.roomy t ids) (alike_written (after_register_all w.roomy t ids) new t.0 (HasWrittenMore put) w.done))

pub waits_alike : (old new : Txns (Node KeptTransaction)) (slots : Slots) (w : WaitingData) → AreAlike old new → AreWaiting old.clock (state_of old) slots w → AreWaiting new.clock (state_of new) slots w
waits_alike old new slots w a h = table_keeps_waiting old.clock new.clock (state_of old) (state_of new) slots w (let c = a.clock in omega (arith, c))
    (λ t e q. ap (λ o. end_in (phase_as o)) (sym (a.states t)) ∙ q) h

-- ---- one stands otherwise, and no word gets a stamp
pub waits_beside : (old new : Txns (Node KeptTransaction)) (t : ℕ) (slots : Slots) (w : WaitingData) → old.clock ≤ new.clock → ((u : ℕ) → u ≢ t → state_of new u ≡ state_of old u)
    → ((e : ℕ) → end_in (phase_as (state_of new t)) ≡ Some e → end_in (phase_as (state_of old t)) ≡ Some e) → AreWaiting old.clock (state_of old) slots w → AreWaiting new.clock (state_of new) slots w
waits_beside old new t slots w le others here h = table_keeps_waiting old.clock new.clock (state_of old) (state_of new) slots w le
    (λ u e q.
    ⊎_elim
    (λ is. subst (λ (x : ℕ). end_in (phase_as (state_of old x)) ≡ Some e) (sym is) (here e (ap (λ (x : ℕ). end_in (phase_as (state_of new x))) (sym is) ∙ q)))
    (λ ne. ap (λ o. end_in (phase_as o)) (sym (others u ne)) ∙ q)
    (cases_eq u t)) h

pub waits_begun : (old new : Txns (Node KeptTransaction)) (node : Node KeptTransaction) (slots : Slots) (w : WaitingData) → new ≡ table_after_begin old node → AreWaiting old.clock (state_of old) slots w → AreWaiting new.clock (state_of new) slots w
waits_begun old new node slots w is h = subst (λ (x : Txns (Node KeptTransaction)). AreWaiting x.clock (state_of x) slots w) (sym is)
    (waits_beside old (table_after_begin old node) (old.clock + 1) slots w (omega arith) (begun_others old node)
    (λ e q. absurd (none_end e (ap (λ o. end_in (phase_as o)) (sym (begun_state old node)) ∙ q))) h)

pub waits_gone : (old new : Txns (Node KeptTransaction)) (t : ℕ) (slots : Slots) (w : WaitingData) → new ≡ after_terminate old t → AreWaiting old.clock (state_of old) slots w → AreWaiting new.clock (state_of new) slots w
waits_gone old new t slots w is h = subst (λ (x : Txns (Node KeptTransaction)). AreWaiting x.clock (state_of x) slots w) (sym is)
    (waits_beside old (after_terminate old t) t slots w (omega arith) (left_others old t)
    (λ e q. absurd (none_end e (ap (λ o. end_in (phase_as o)) (sym (left_state old t)) ∙ q))) h)

-- ---- versions
pub waits_same : (clock : ℕ) (states : States) (old new : VersionsData) (w : WaitingData) → HasSameVersions old new → AreWaiting clock states old.slots w → AreWaiting clock states new.slots w
waits_same clock states old new w same h = room_keeps_waiting clock states old.slots new.slots w (λ n. same_at old new same (number n)) (same_all old new same) h

-- a version is put
pub put_now : (old new : VersionsData) (row : RowData) (t : ℕ) (n : VersionNo) → IsPut old new row t n → (version_at old.slots n ≡ None) × HaveNow old.slots new.slots n.0 (fresh t row)
put_now old new row t n p =
    let added = added_is_now old.slots n (fresh t row) p.hole in
    (added.0, subst (λ ss. HaveNow old.slots ss n.0 (fresh t row)) (sym p.slots) added.1)

put_more : (old new : VersionsData) (row : RowData) (t : ℕ) (n : VersionNo) → IsPut old new row t n → IsOneMore (fresh t row) (all_versions old.slots) (all_versions new.slots)
put_more old new row t n p = subst (λ ss. IsOneMore (fresh t row) (all_versions old.slots) (all_versions ss)) (sym p.slots)
    (subst (λ vs. IsOneMore (fresh t row) vs (all_versions (with_slot (with_room old.slots) n (Some (fresh t row))))) (room_versions old.slots)
    (slot_filled (with_room old.slots) n.0 (fresh t row) (hole_inside (with_room old.slots) n.0 p.hole) (hole_empty (with_room old.slots) n.0 p.hole)))

pub waits_put : (clock : ℕ) (states : States) (old new : VersionsData) (row : RowData) (t : ℕ) (n : VersionNo) (w w' : WaitingData) → IsPut old new row t n → w' ≡ record w { owed = w.owed + 1; room = w.room - 1 }
    → AreWaiting clock states old.slots w → AreWaiting clock states new.slots w'
waits_put clock states old new row t n w w' p is h =
    let now = put_now old new row t n p in
    subst (AreWaiting clock states new.slots) (sym is)
    (put_keeps_waiting clock states old.slots new.slots w t n.0 (w.room - 1) row now.0 now.1 (put_more old new row t n p) h)

-- a version is ended
version_there : (o : Option Version) → IsSome o → (v : Version) × (o ≡ Some v)
version_there None h = absurd (false≢true h)
version_there (Some v) h = (v, refl)

changed_one : (old new : VersionsData) (n : VersionNo) (f : Version → Version) (v : Version) → version_at old.slots n ≡ Some v → IsReworded old new n f → IsOneChanged v (f v) (all_versions old.slots) (all_versions new.slots)
changed_one old new n f v at w = subst (λ ss. IsOneChanged v (f v) (all_versions old.slots) (all_versions ss))
    (sym (w.slots ∙ ap (λ o. slice_set old.slots n.0 (option_map f o)) at))
    (slot_changed old.slots n.0 v (f v) at)

changed_here : (old new : VersionsData) (n : VersionNo) (f : Version → Version) (v : Version) → version_at old.slots n ≡ Some v → IsReworded old new n f → HaveNow old.slots new.slots n.0 (f v)
changed_here old new n f v at w = subst (λ ss. HaveNow old.slots ss n.0 (f v)) (sym w.slots) (changed_is_now old.slots n v f at)

pub waits_ended : (clock : ℕ) (states : States) (old new : VersionsData) (t : ℕ) (n : VersionNo) (b : Bool) (w w' : WaitingData) → states t ≡ Some Active → IsSome (version_at old.slots n) → IsReworded old new n (ended_by t)
    → b ≡ is_open_end_at old.slots n → w' ≡ with_owed w (w.owed + cond b 0 1) w'.room → AreWaiting clock states old.slots w → AreWaiting clock states new.slots w'
waits_ended clock states old new t n b w w' active there r test is h =
    let v = version_there (version_at old.slots n) there in
    let open' : b ≡ is_by v.0.end = test ∙ ap is_open_end v.1 in
    subst (AreWaiting clock states new.slots) (sym (is ∙ ap (λ (x : Bool). with_owed w (w.owed + cond x 0 1) w'.room) open'))
    (end_keeps_waiting clock states old.slots new.slots w t n.0 w'.room v.0 active v.1 (changed_here old new n (ended_by t) v.0 v.1 r) (changed_one old new n (ended_by t) v.0 v.1 r) h)

-- ---- an insert
module _ (old new : VersionsData) (table after : Txns (Node KeptTransaction)) (t : TxId) (ids : List TxId) (w roomy : WaitingData) (room : roomy ≡ record w { room = roomy.room }) where
  pub waits_inserted : (row : RowData) (last : WaitingData) → IsInserted old new table after t ids row → last ≡ record roomy { owed = roomy.owed + 1; room = roomy.room - 1 }
      → AreWaiting table.clock (state_of table) old.slots w → AreWaiting after.clock (state_of after) new.slots last
  waits_inserted row last p is h =
      waits_alike table after new.slots last
      (alike_recorded_with table after t ids _ p.recorded)
      (waits_put table.clock (state_of table) old new row t.0 p.number roomy last p.put is (waits_roomy table.clock (state_of table) old.slots w roomy roomy.room room h))

  -- ---- a delete
  pub waits_removed : (n : VersionNo) (b : Bool) (last : WaitingData) → state_of table t.0 ≡ Some Active → IsSome (version_at old.slots n) → IsRemoved old new table after t ids n
      → b ≡ is_open_end_at old.slots n → last ≡ with_owed roomy (roomy.owed + cond b 0 1) last.room
      → AreWaiting table.clock (state_of table) old.slots w → AreWaiting after.clock (state_of after) new.slots last
  waits_removed n b last active there p test is h =
      waits_alike table after new.slots last
      (alike_recorded_with table after t ids _ p.recorded)
      (waits_ended table.clock (state_of table) old new t.0 n b roomy last active there p.ended test is (waits_roomy table.clock (state_of table) old.slots w roomy roomy.room room h))

  -- ---- an update
  -- the version that is ended is there beside the new one
  still_there : (between : VersionsData) (row : RowData) (m n : VersionNo) → IsPut old between row t.0 m → IsSome (version_at old.slots n) → version_at between.slots n ≡ version_at old.slots n
  still_there between row m n p there =
      let now = put_now old between row t.0 m p in
      now.1.others n (λ is. gone (version_at old.slots n) (ap (λ (x : ℕ). version_at old.slots (number x)) is ∙ now.0) there)
    where
      gone : (o : Option Version) → o ≡ None → IsSome o → ⊥
      gone None e q = false≢true q
      gone (Some v) e q = cc

  pub waits_replaced : (n : VersionNo) (row : RowData) (b : Bool) (owed last : WaitingData) → state_of table t.0 ≡ Some Active → IsSome (version_at old.slots n) → IsReplaced old new table after t ids n row
      → b ≡ is_open_end_at old.slots n → owed ≡ record roomy { owed = roomy.owed + 1; room = roomy.room - 1 } → last ≡ with_owed owed (owed.owed + cond b 0 1) last.room
      → AreWaiting table.clock (state_of table) old.slots w → AreWaiting after.clock (state_of after) new.slots last
  waits_replaced n row b owed last active there p test one is h =
      let same = still_there p.between row p.place n p.put there in
      waits_alike table after new.slots last
      (alike_recorded_with table after t ids _ p.recorded)
      (waits_ended table.clock (state_of table) p.between new t.0 n b owed last active (subst IsSome (sym same) there) p.ended (test ∙ ap is_open_end (sym same)) is
      (waits_put table.clock (state_of table) old p.between row t.0 p.place roomy owed p.put one (waits_roomy table.clock (state_of table) old.slots w roomy roomy.room room h)))

-- ---- a word is finished
-- room is kept for its version
pub owed_for : (clock : ℕ) (states : States) (slots : Slots) (w : WaitingData) (t : ℕ) (ps : List WordPlace) (o : Option WordPlace) → o ≡ slice_get (from_own slots t ps) 0 → AreWaiting clock states slots w → (p : WordPlace) → o ≡ Some p → 0 < w.owed
owed_for clock states slots w t ps o first h p e =
    let here = first_is (from_own slots t ps) p (sym first ∙ e) in
    open_is_owed clock states slots w t p h (first_named slots t ps p here.rest here.is)

module _ (old new : VersionsData) (table table' end : Txns (Node KeptTransaction)) (t : ℕ) (f : Held) (r : IsNextReplaced old new table table' t f) (final : IsFinalWord (state_of table t) f) (again : IsWritten table' end t (HasPassed new.slots t)) where
  list_passed : words_in r.between t ≡ from_own old.slots t (words_in table t)
  list_passed =
      (list_written table r.between t (HasPassed old.slots t) r.passed).here ∙ r.passed.changed.words
      ∙ ap (from_own old.slots t) (sym (list_was table r.between t (HasPassed old.slots t) r.passed))

  alike_passed : AreAlike table r.between
  alike_passed = alike_written table r.between t (HasPassed old.slots t) r.passed

  alike_last : (o : Option WordPlace) → IsFirstReplaced old new r.between table' t f o → AreAlike r.between end
  alike_last None q = subst (λ (x : Txns (Node KeptTransaction)). AreAlike x end) q.1 (alike_written table' end t (HasPassed new.slots t) again)
  alike_last (Some p) q = alike_twice r.between table' end (alike_written r.between table' t HasDropped q.1) (alike_written table' end t (HasPassed new.slots t) again)

  by_place : (w w' : WaitingData) (o : Option WordPlace) → o ≡ slice_get (words_in r.between t) 0 → IsFirstReplaced old new r.between table' t f o → w' ≡ counted_off new.slots o w w'.room
      → AreWaiting table.clock (state_of table) old.slots w → AreWaiting table.clock (state_of table) new.slots w'
  by_place w w' None first q is h = subst (AreWaiting table.clock (state_of table) new.slots) (sym is) (subst (λ (x : VersionsData). AreWaiting table.clock (state_of table) x.slots w) (sym q.0) h)
  by_place w w' (Some p) first q is h =
      let ends = ends_of (phases_of (state_of table)) in
      let here = first_is (words_in r.between t) p (sym first) in
      let name = first_named old.slots t (words_in table t) p here.rest (sym list_passed ∙ here.is) in
      let there = names_there old.slots t p name in
      let told : IsReworded old new (number_at_word p) (finished ends t p) = subst (λ (x : Held). IsReworded old new (number_at_word p) (with_word p x)) (final_is (state_of table t) f final) q.0 in
      let now = changed_here old new (number_at_word p) (finished ends t p) there.version there.at told in
      subst (AreWaiting table.clock (state_of table) new.slots)
      (sym (is ∙ ap (λ o. and_dead (is_dead_in o) (number_at_word p).0 (with_owed w (w.owed - 1) w'.room)) now.here))
      (finish_keeps_waiting table.clock (state_of table) old.slots new.slots w t w'.room p there.version there.at name now (changed_one old new (number_at_word p) (finished ends t p) there.version there.at told) h)

  pub waits_finished : (w w' : WaitingData) (o : Option WordPlace) → o ≡ slice_get (from_own old.slots t (words_in table t)) 0 → w' ≡ counted_off new.slots o w w'.room
      → AreWaiting table.clock (state_of table) old.slots w → AreWaiting end.clock (state_of end) new.slots w'
  waits_finished w w' o first is h =
      let at : o ≡ slice_get (words_in r.between t) 0 = first ∙ ap (λ (qs : List WordPlace). slice_get qs 0) (sym list_passed) in
      let q : IsFirstReplaced old new r.between table' t f o = subst (IsFirstReplaced old new r.between table' t f) (sym at) r.first in
      waits_alike table end new.slots w' (alike_twice table r.between end alike_passed (alike_last o q)) (by_place w w' o at q is h)

-- ---- a write for which memory is wanting
pub waits_spent : (table after : Txns (Node KeptTransaction)) (t : ℕ) (old new : VersionsData) (w roomy : WaitingData) → roomy ≡ record w { room = roomy.room } → HasSameVersions old new → IsWritten table after t HasWrittenAsMuch
    → AreWaiting table.clock (state_of table) old.slots w → AreWaiting after.clock (state_of after) new.slots roomy
waits_spent table after t old new w roomy room same much h =
    waits_alike table after new.slots roomy (alike_written table after t HasWrittenAsMuch much)
    (waits_same table.clock (state_of table) old new roomy same (waits_roomy table.clock (state_of table) old.slots w roomy roomy.room room h))

-- ---- a begin, whatever it comes to
pub begun_waits : (old new : Txns (Node KeptTransaction)) (node : Node KeptTransaction) (slots : Slots) (w : WaitingData) (r : Result TxId Refusal) → OnOk r (new ≡ table_after_begin old node) → OnErr r (new ≡ old)
    → AreWaiting old.clock (state_of old) slots w → AreWaiting new.clock (state_of new) slots w
begun_waits old new node slots w (Ok t) is same h = waits_begun old new node slots w is h
begun_waits old new node slots w (Err e) is same h = subst (λ (x : Txns (Node KeptTransaction)). AreWaiting x.clock (state_of x) slots w) (sym same) h
