-- A word of an ended transaction is finished: what the core stands for then.
use Rattle.std.proofs.Common.{◌≡◌, ◌≢◌, ℕ, ◌++◌, Bool, true, false, cond, List, [], ◌∷◌, append-nil, drop, Option, None, Some, refl, sym, ap, ◌∙◌, subst}
use Rattle.std.specs.Prelude.{⊤, ◌≤◌, ◌||◌, is_some, slice_get, if◌then◌else◌}
use Rattle.std.specs.Option.{option_map}
use Rattle.std.proofs.lemmas.Bool.{eqb-true, true≢false, false≢true}
use Rattle.mvo_types.specs.Keys.{Map}
use Rattle.mvo_types.specs.declared.refusal.Refusal.{Refusal}
use Rattle.mvo_types.specs.declared.refusal.Refusal.TheVariants.{NoSuchTransaction, NotEnded}
use Rattle.mvo_model.specs.Trace.{Step}
use Rattle.mvo_theory.specs.State.{State, EndedTx, ended_of, is_ended_as}
use Rattle.mvo_theory.specs.Phases.{is_absent, is_active, is_preparing}
use Rattle.mvo_types.specs.Causes.{when, first_cause}
use Rattle.mvo_theory.specs.Causes.{why_not_finish}
use Rattle.mvo_theory.specs.Words.{is_done, words_left}
use Rattle.mvo_theory.specs.Changes as changes
use Rattle.mvo_theory.specs.Changes.{with_words, after_termination}
use Rattle.mvo_theory.specs.Calls.{MayCome, IsRefusal, steps_of}
use Rattle.mvo_theory.specs.Calls.Call.{Finish}
use Rattle.mvo_theory.specs.Calls.Result.{Accepted, Refused}
use Rattle.mvo_theory.proofs.Each.{each_always}
use Rattle.mvo_theory.proofs.Finds.{find_map, find_holds}
use Rattle.mvo_txn.specs.declared.state.TxState.{TxState}
use Rattle.mvo_txn.specs.declared.state.TxState.TheVariants.{Active, Preparing, Committed, Aborted}
use Rattle.mvo_txn.specs.Txns.{Txns, state_of, after_terminate, IsEnded}
use Rattle.mvo_txn.proofs.Stamps.{get_removed, get_left}
use Rattle.mvo_deps.specs.declared.node.Node.{Node}
use Rattle.mvo_word.specs.declared.held.Held.{Held}
use Rattle.mvo_work.specs.declared.word_place.WordPlace.{WordPlace}
use Rattle.mvo_versions.specs.Data.{VersionsData}
use Rattle.mvo_versions.specs.Changes.{IsReworded}
use Rattle.mvo_representation.specs.Words.{end_in, ends_of}
use Rattle.mvo_representation.specs.Table.{phase_as, phases_of}
use Rattle.mvo_representation.specs.Order.{word_of_stamp}
use Rattle.mvo_representation.specs.OrderLaws.{HaveNow}
use Rattle.mvo_representation.specs.WordLists.{HasWordLists, HaveListNow, number_at_word, names_at, places_naming, with_word, finished}
use Rattle.mvo_representation.proofs.Tabled.{ended_is}
use Rattle.mvo_representation.proofs.WordPlaces.{IsNamedAt, names_there}
use Rattle.mvo_readonly.specs.Whole.{stage_of}
use Rattle.mvo_chain.specs.Slots.{Slots}
use Rattle.mvo_core.proofs.ReaderStages.{same_reader}
use Rattle.mvo_core.proofs.ReaderLeaves.{Leaves, other_leaves}
use Rattle.mvo_core.specs.Readers.{Readers, reader_in}
use Rattle.mvo_core.specs.declared.kept_transaction.KeptTransaction.{KeptTransaction}
use Rattle.mvo_core.specs.declared.answers.Finishing.{Finishing}
use Rattle.mvo_core.specs.declared.answers.Finishing.TheVariants.{More, Done}
use Rattle.mvo_core.specs.Data.{CoreData}
use Rattle.mvo_core.specs.Standing.{own_words_of, words_in, StandsAmong}
use Rattle.mvo_core.specs.Steps.{LeadsAmong}
use Rattle.mvo_core.specs.Keeping.{IsWritten, HasDropped}
use Rattle.mvo_core.specs.Finishing.{why_not_finished, IsFinalWord, HasDrawnEnd, from_own, HasPassed, IsFirstReplaced, IsNextReplaced}
use Rattle.mvo_core.proofs.FinishLaws.{none_unnamed, finish_in_lists, last_unnamed, last_in_lists, leaving_in_lists}
use Rattle.mvo_core.proofs.BesideWords.{StandsBeside, beside, with_lists, same_states, list_written, list_was, beside_written, beside_finished, finished_now, beside_word, beside_left}
use Rattle.mvo_core.proofs.FirstWord.{IsFirst, first_of, first_is}
use Rattle.mvo_core.proofs.Passed.{first_named, passes, not_done, done_now, done_none}

-- ---- who may be finished
finish_as : (o : Option TxState) → why_not_finished o ≡ first_cause (when (is_absent (phase_as o)) NoSuchTransaction ∷ when (is_active (phase_as o) || is_preparing (phase_as o)) NotEnded ∷ [])
finish_as None = refl
finish_as (Some Active) = refl
finish_as (Some (Preparing e)) = refl
finish_as (Some (Committed e)) = refl
finish_as (Some Aborted) = refl

pub why_finished : (s : State) (c : CoreData) (rs : Readers) (opening : Map) (steps : List Step) → StandsAmong rs opening steps s c → (t : ℕ) → why_not_finished (state_of c.table t) ≡ why_not_finish s t
why_finished s c rs opening steps h t =
    finish_as (state_of c.table t)
    ∙ ap (λ p. first_cause (when (is_absent p) NoSuchTransaction ∷ when (is_active p || is_preparing p) NotEnded ∷ [])) (h.dependencies.stands.phases t)

pub final_ended : (o : Option TxState) (w : Held) → IsFinalWord o w → IsEnded o
final_ended None w f = f
final_ended (Some Active) w f = f
final_ended (Some (Preparing e)) w f = f
final_ended (Some (Committed e)) w f = tt
final_ended (Some Aborted) w f = tt

final_none : (o : Option TxState) (w : Held) → IsFinalWord o w → why_not_finished o ≡ None
final_none None w f = absurd f
final_none (Some Active) w f = absurd f
final_none (Some (Preparing e)) w f = absurd f
final_none (Some (Committed e)) w f = refl
final_none (Some Aborted) w f = refl

pub final_is : (o : Option TxState) (w : Held) → IsFinalWord o w → w ≡ word_of_stamp (end_in (phase_as o))
final_is None w f = absurd f
final_is (Some Active) w f = absurd f
final_is (Some (Preparing e)) w f = absurd f
final_is (Some (Committed e)) w f = f
final_is (Some Aborted) w f = f

-- ---- the transaction, once a word of it is finished
ended_with : (s : State) (t : ℕ) (u : EndedTx) → ended_of t s.ended ≡ Some u → ended_of t (with_words (words_left t) s).ended ≡ Some (record u { words = words_left t u })
ended_with s t u e =
    find_map {X = EndedTx} (is_ended_as t) (λ x. record x { words = words_left t x }) s.ended (each_always (λ x. is_ended_as t x ≡ is_ended_as t x) (λ x. refl) s.ended)
    ∙ ap (option_map {T = EndedTx} (λ x. record x { words = words_left t x })) e

ended_after : (s : State) (t : ℕ) (u : EndedTx) → ended_of t s.ended ≡ Some u → is_done s t ≡ false → ended_of t (changes.after_finish s t).ended ≡ Some (record u { words = words_left t u })
ended_after s t u e more = ap (λ (b : Bool). ended_of t (cond b (after_termination s t) (with_words (words_left t) s)).ended) more ∙ ended_with s t u e

-- ---- what the code has done
none_left : (t : ℕ) (table : Txns (Node KeptTransaction)) → words_in (after_terminate table t) t ≡ []
none_left t table = ap (λ o. own_words_of (option_map (λ n. n.own) (option_map (λ x. x.kept) o))) (get_removed table.seats t)

left_list : (t : ℕ) (words : ℕ → List WordPlace) (table : Txns (Node KeptTransaction)) → ((v : ℕ) → v ≢ t → words_in table v ≡ words v) → HaveListNow words (words_in (after_terminate table t)) t []
left_list t words table others = record { others = λ v ne. ap (λ o. own_words_of (option_map (λ n. n.own) (option_map (λ x. x.kept) o))) (get_left table.seats t v ne) ∙ others v ne; here = none_left t table }

-- what is answered, and what the core stands for then
pub record HasFinished (rs : Readers) (opening : Map) (steps : List Step) (s : State) (t : ℕ) (a : Finishing) (new : CoreData) : Type 0 where
  pub leads : LeadsAmong rs opening steps s (Finish t) Accepted new
  pub answer : a ≡ (if is_done s t then Done else More)

-- what is kept of one that is read-only stays where words are taken off
passed_same : (slots : Slots) (t : ℕ) (x y : KeptTransaction) → HasPassed slots t x y → reader_in (Some y) ≡ reader_in (Some x)
passed_same slots t x y k = same_reader x y k.kind k.place k.checked k.valid

dropped_same : (x y : KeptTransaction) → HasDropped x y → reader_in (Some y) ≡ reader_in (Some x)
dropped_same x y k = same_reader x y k.kind k.place k.checked k.valid

answered : (b : Bool) (s : State) (t : ℕ) → is_done s t ≡ b → cond b Done More ≡ (if is_done s t then Done else More)
answered b s t e = ap (λ (x : Bool). cond x Done More) (sym e)

module _ (rs : Readers) (opening : Map) (steps : List Step) (s : State) (c : CoreData) (h : StandsAmong rs opening steps s c) (u : EndedTx) (e : ended_of u.id s.ended ≡ Some u) (w : Held) (final : IsFinalWord (state_of c.table u.id) w) (between : Txns (Node KeptTransaction)) (passed : IsWritten c.table between u.id (HasPassed c.versions.slots u.id)) (after : Readers) (leaves : Leaves rs after s c.tale u.id) where
  may : MayCome s (Finish u.id) Accepted
  may = (sym (why_finished s c rs opening steps h u.id) ∙ final_none (state_of c.table u.id) w final, tt)

  ended_between : IsEnded (state_of between u.id)
  ended_between = subst (λ states. IsEnded (states u.id)) (same_states c.table between u.id (HasPassed c.versions.slots u.id) passed) (final_ended (state_of c.table u.id) w final)

  word_is : w ≡ word_of_stamp (ends_of (phases_of (state_of between)) u.id)
  word_is = final_is (state_of c.table u.id) w final ∙ ap (λ states. word_of_stamp (end_in (phase_as (states u.id)))) (same_states c.table between u.id (HasPassed c.versions.slots u.id) passed)

  first_beside : StandsBeside rs opening steps s (record c { table = between })
  first_beside = beside_written rs opening steps s c (beside rs opening steps s c h) u e between (HasPassed c.versions.slots u.id) (passed_same c.versions.slots u.id) passed

  list_passed : words_in between u.id ≡ from_own c.versions.slots u.id (words_in c.table u.id)
  list_passed =
      (list_written c.table between u.id (HasPassed c.versions.slots u.id) passed).here ∙ passed.changed.words
      ∙ ap (from_own c.versions.slots u.id) (sym (list_was c.table between u.id (HasPassed c.versions.slots u.id) passed))

  first_lists : HasWordLists s c.versions.slots (words_in between)
  first_lists = passes opening steps s (state_of c.table) c.versions.slots c.versions.lists c.versions.places u h.versions e (words_in c.table u.id) (words_in c.table) (words_in between) refl
      (record { others = (list_written c.table between u.id (HasPassed c.versions.slots u.id) passed).others; here = list_passed }) h.words

  -- ---- no word was left
  module _ (none : words_in between u.id ≡ []) (table : Txns (Node KeptTransaction)) (again : IsWritten between table u.id (HasPassed c.versions.slots u.id)) where
    none_there : places_naming c.versions.slots u.id (words_in between u.id) ≡ []
    none_there = ap (places_naming c.versions.slots u.id) none

    is_over : is_done s u.id ≡ true
    is_over = done_none s c.versions.slots (words_in between) u e first_lists none_there

    pub none_finished : HasFinished after opening steps s u.id Done (record c { table = after_terminate table u.id })
    none_finished =
        let beside_again = beside_written rs opening steps s (record c { table = between }) first_beside u e table (HasPassed c.versions.slots u.id) (passed_same c.versions.slots u.id) again in
        let ended = subst (λ states. IsEnded (states u.id)) (same_states between table u.id (HasPassed c.versions.slots u.id) again) ended_between in
        let unnamed = none_unnamed s c.versions.slots (words_in between) u.id none_there first_lists in
        let left = beside_left rs opening steps s (record c { table = table }) beside_again u e after leaves may ended is_over unnamed in
        let now = left_list u.id (words_in between) table (list_written between table u.id (HasPassed c.versions.slots u.id) again).others in
        record {
          leads = record {
            may = may;
            stands = with_lists after opening (steps ++ steps_of s (Finish u.id) Accepted) (changes.after_finish s u.id) (record c { table = after_terminate table u.id }) left
                (leaving_in_lists opening s (state_of between) c.versions.slots c.versions.lists c.versions.places (words_in between) (words_in (after_terminate table u.id)) u first_beside.versions e none_there now first_lists);
          };
          answer = answered true s u.id is_over;
        }

    none_again : words_in table u.id ≡ []
    none_again =
        (list_written between table u.id (HasPassed c.versions.slots u.id) again).here ∙ again.changed.words
        ∙ ap (from_own c.versions.slots u.id) (sym (list_was between table u.id (HasPassed c.versions.slots u.id) again) ∙ none)

  -- ---- the first one is replaced
  module _ (p : WordPlace) (ps : List WordPlace) (is : words_in between u.id ≡ p ∷ ps) (versions : VersionsData) (reworded : IsReworded c.versions versions (number_at_word p) (with_word p w))
      (dropped_table : Txns (Node KeptTransaction)) (dropped : IsWritten between dropped_table u.id HasDropped) (table : Txns (Node KeptTransaction)) (again : IsWritten dropped_table table u.id (HasPassed versions.slots u.id)) where
    name : names_at c.versions.slots u.id p ≡ true
    name = first_named c.versions.slots u.id (words_in c.table u.id) p ps (sym list_passed ∙ is)

    there : IsNamedAt c.versions.slots u.id p
    there = names_there c.versions.slots u.id p name

    second_beside : StandsBeside rs opening steps s (record c { versions = versions; table = between })
    second_beside = beside_finished rs opening steps s (record c { table = between }) first_beside u e ended_between versions w p there.version there.at name word_is reworded

    third_beside : StandsBeside rs opening steps s (record c { versions = versions; table = dropped_table })
    third_beside = beside_written rs opening steps s (record c { versions = versions; table = between }) second_beside u e dropped_table HasDropped dropped_same dropped

    now : HaveNow c.versions.slots versions.slots (number_at_word p).0 (finished (ends_of (phases_of (state_of between))) u.id p there.version)
    now = finished_now rs opening steps s (record c { table = between }) first_beside u e versions w p there.version there.at word_is reworded

    list_dropped : words_in dropped_table u.id ≡ ps
    list_dropped =
        (list_written between dropped_table u.id HasDropped dropped).here ∙ dropped.changed.words
        ∙ ap (λ (qs : List WordPlace). drop 1 qs) (sym (list_was between dropped_table u.id HasDropped dropped) ∙ is)

    list_again : words_in table u.id ≡ from_own versions.slots u.id ps
    list_again =
        (list_written dropped_table table u.id (HasPassed versions.slots u.id) again).here ∙ again.changed.words
        ∙ ap (from_own versions.slots u.id) (sym (list_was dropped_table table u.id (HasPassed versions.slots u.id) again) ∙ list_dropped)

    -- others are left
    pub more_finished : (q : WordPlace) (qs : List WordPlace) → words_in table u.id ≡ q ∷ qs → HasFinished rs opening steps s u.id More (record c { versions = versions; table = table })
    more_finished q qs f =
        let more = not_done s c.versions.slots versions.slots (words_in between) u e first_lists p ps is name (ends_of (phases_of (state_of between))) there.version there.at now q qs (sym list_again ∙ f) in
        let steps' = steps ++ steps_of s (Finish u.id) Accepted in
        let s' = changes.after_finish s u.id in
        let u' : EndedTx = record u { words = words_left u.id u } in
        let e' = ended_after s u.id u e more in
        let fourth = beside_word rs opening steps s (record c { versions = versions; table = dropped_table }) third_beside u e may more in
        let fifth = beside_written rs opening steps' s' (record c { versions = versions; table = dropped_table }) fourth u' e' table (HasPassed versions.slots u.id) (passed_same versions.slots u.id) again in
        let lists = finish_in_lists opening s (state_of between) c.versions.slots versions.slots c.versions.lists c.versions.places (words_in between) (words_in dropped_table) u p ps there.version
        first_beside.versions e is there.at name more now (record { others = (list_written between dropped_table u.id HasDropped dropped).others; here = list_dropped }) first_lists in
        let lists' = passes opening steps' s' (state_of dropped_table) versions.slots versions.lists versions.places u' fourth.versions e' ps (words_in dropped_table) (words_in table) list_dropped
        (record { others = (list_written dropped_table table u.id (HasPassed versions.slots u.id) again).others; here = list_again }) lists in
        record {
          leads = record { may = may; stands = with_lists rs opening steps' s' (record c { versions = versions; table = table }) fifth lists' };
          answer = answered false s u.id more;
        }

    -- it was the last one
    pub last_finished : words_in table u.id ≡ [] → HasFinished after opening steps s u.id Done (record c { versions = versions; table = after_terminate table u.id })
    last_finished f =
        let last = done_now s c.versions.slots versions.slots (words_in between) u e first_lists p ps is name (ends_of (phases_of (state_of between))) there.version there.at now (sym list_again ∙ f) in
        let steps' = steps ++ steps_of s (Finish u.id) Accepted in
        let s' = changes.after_finish s u.id in
        let fourth = beside_written rs opening steps s (record c { versions = versions; table = dropped_table }) third_beside u e table (HasPassed versions.slots u.id) (passed_same versions.slots u.id) again in
        let ended = subst (λ states. IsEnded (states u.id)) (same_states between dropped_table u.id HasDropped dropped ∙ same_states dropped_table table u.id (HasPassed versions.slots u.id) again) ended_between in
        let unnamed = last_unnamed s (state_of between) c.versions.slots versions.slots (words_in between) u p ps there.version e is there.at name last now first_lists in
        let left = beside_left rs opening steps s (record c { versions = versions; table = table }) fourth u e after leaves may ended last unnamed in
        let list = left_list u.id (words_in between) table (λ v ne. (list_written dropped_table table u.id (HasPassed versions.slots u.id) again).others v ne ∙ (list_written between dropped_table u.id HasDropped dropped).others v ne) in
        let lists = last_in_lists opening s (state_of between) c.versions.slots versions.slots c.versions.lists c.versions.places (words_in between) (words_in (after_terminate table u.id)) u p ps there.version
        first_beside.versions e is there.at name last now list first_lists in
        record {
          leads = record { may = may; stands = with_lists after opening steps' s' (record c { versions = versions; table = after_terminate table u.id }) left lists };
          answer = answered true s u.id last;
        }

-- ---- the call
-- the answer and the core, by the first word that is left
abbrev pub answer_as : Option WordPlace → Finishing
answer_as None = Done
answer_as (Some q) = More

abbrev pub table_as : Option WordPlace → Txns (Node KeptTransaction) → ℕ → Txns (Node KeptTransaction)
table_as None table t = after_terminate table t
table_as (Some q) table t = table

-- and the read-only ones
abbrev pub readers_as : Option WordPlace → Readers → Readers → Readers
readers_as None rs after = after
readers_as (Some q) rs after = rs

module _ (rs : Readers) (opening : Map) (steps : List Step) (s : State) (c : CoreData) (h : StandsAmong rs opening steps s c) (after : Readers) where
  by_first : (u : EndedTx) → ended_of u.id s.ended ≡ Some u → Leaves rs after s c.tale u.id → (w : Held) → IsFinalWord (state_of c.table u.id) w → (versions : VersionsData) (between table table' : Txns (Node KeptTransaction))
      → IsWritten c.table between u.id (HasPassed c.versions.slots u.id) → (first : Option WordPlace) → slice_get (words_in between u.id) 0 ≡ first → IsFirstReplaced c.versions versions between table u.id w first
      → IsWritten table table' u.id (HasPassed versions.slots u.id) → (o : Option WordPlace) → slice_get (words_in table' u.id) 0 ≡ o
      → HasFinished (readers_as o rs after) opening steps s u.id (answer_as o) (record c { versions = versions; table = table_as o table' u.id })
  by_first u e leaves w final versions between table table' passed None none r again o left =
      subst (λ (x : VersionsData). HasFinished (readers_as o rs after) opening steps s u.id (answer_as o) (record c { versions = x; table = table_as o table' u.id })) (sym r.0) (go o left)
    where
      again' : IsWritten between table' u.id (HasPassed c.versions.slots u.id)
      again' = subst (λ x. IsWritten x table' u.id (HasPassed c.versions.slots u.id)) r.1 (subst (λ (x : VersionsData). IsWritten table table' u.id (HasPassed x.slots u.id)) r.0 again)

      nothing : words_in table' u.id ≡ []
      nothing = none_again rs opening steps s c h u e w final between passed after leaves (first_of (words_in between u.id) none) table' again'

      no_place : (q : WordPlace) → ◌≡◌ {A = Option WordPlace} None (Some q) → ⊥
      no_place q f = cc

      go : (o : Option WordPlace) → slice_get (words_in table' u.id) 0 ≡ o → HasFinished (readers_as o rs after) opening steps s u.id (answer_as o) (record c { table = table_as o table' u.id })
      go None f = none_finished rs opening steps s c h u e w final between passed after leaves (first_of (words_in between u.id) none) table' again'
      go (Some q) f = absurd (no_place q (ap (λ qs. slice_get qs 0) (sym nothing) ∙ f))
  by_first u e leaves w final versions between table table' passed (Some p) some r again o left = go o left
    where
      here : IsFirst (words_in between u.id) p
      here = first_is (words_in between u.id) p some

      go : (o : Option WordPlace) → slice_get (words_in table' u.id) 0 ≡ o → HasFinished (readers_as o rs after) opening steps s u.id (answer_as o) (record c { versions = versions; table = table_as o table' u.id })
      go None f = last_finished rs opening steps s c h u e w final between passed after leaves p here.rest here.is versions r.0 table r.1 table' again (first_of (words_in table' u.id) f)
      go (Some q) f = let next = first_is (words_in table' u.id) q f in more_finished rs opening steps s c h u e w final between passed after leaves p here.rest here.is versions r.0 table r.1 table' again q next.rest next.is

  pub finish_leads : (t : ℕ) → Leaves rs after s c.tale t → (w : Held) → IsFinalWord (state_of c.table t) w → (versions : VersionsData) (table table' : Txns (Node KeptTransaction)) → IsNextReplaced c.versions versions c.table table t w
      → IsWritten table table' t (HasPassed versions.slots t) → (o : Option WordPlace) → o ≡ slice_get (words_in table' t) 0
      → HasFinished (readers_as o rs after) opening steps s t (answer_as o) (record c { versions = versions; table = table_as o table' t })
  finish_leads t leaves w final versions table table' r again o left =
      let found = ended_is s t (state_of c.table t) (final_ended (state_of c.table t) w final) (sym (h.dependencies.stands.phases t)) in
      let u = found.0 in
      let id : u.id ≡ t = eqb-true u.id t (find_holds (λ x. ⊤) (is_ended_as t) s.ended u found.1 (each_always (λ x. ⊤) (λ x. tt) s.ended)).1 in
      subst (λ (x : ℕ). ended_of x s.ended ≡ Some u → Leaves rs after s c.tale x → IsFinalWord (state_of c.table x) w → IsNextReplaced c.versions versions c.table table x w → IsWritten table table' x (HasPassed versions.slots x)
      → slice_get (words_in table' x) 0 ≡ o → HasFinished (readers_as o rs after) opening steps s x (answer_as o) (record c { versions = versions; table = table_as o table' x })) id
      (λ e d f n a l. by_first u e d w f versions n.between table table' n.passed (slice_get (words_in n.between u.id) 0) refl n.first a o l)
      found.1 leaves final r again (sym left)

module _ (rs : Readers) (opening : Map) (steps : List Step) (s : State) (c : CoreData) (h : StandsAmong rs opening steps s c) where
  -- ---- it is refused
  pub finish_refused : (t : ℕ) (why : Refusal) → why_not_finished (state_of c.table t) ≡ Some why → LeadsAmong rs opening steps s (Finish t) (Refused why) c
  finish_refused t why e = record {
    may = subst (λ o. IsRefusal false o why) (sym e ∙ why_finished s c rs opening steps h t) refl;
    stands = subst (λ ys. StandsAmong rs opening ys s c) (sym (append-nil steps)) h;
  }

  -- ---- by what the code found
  pub finish_more_of : (after : Readers) (t : ℕ) → Leaves rs after s c.tale t → (w : Held) → IsFinalWord (state_of c.table t) w → (versions : VersionsData) (table table' : Txns (Node KeptTransaction)) → IsNextReplaced c.versions versions c.table table t w
      → IsWritten table table' t (HasPassed versions.slots t) → (o : Option WordPlace) → o ≡ slice_get (words_in table' t) 0 → true ≡ is_some o
      → HasFinished rs opening steps s t More (record c { versions = versions; table = table' })
  finish_more_of after t leaves w final versions table table' r again None left is = absurd (true≢false is)
  finish_more_of after t leaves w final versions table table' r again (Some q) left is = finish_leads rs opening steps s c h after t leaves w final versions table table' r again (Some q) left

  pub finish_done_of : (after : Readers) (t : ℕ) → Leaves rs after s c.tale t → (w : Held) → IsFinalWord (state_of c.table t) w → (versions : VersionsData) (table table' end : Txns (Node KeptTransaction)) → IsNextReplaced c.versions versions c.table table t w
      → IsWritten table table' t (HasPassed versions.slots t) → (o : Option WordPlace) → o ≡ slice_get (words_in table' t) 0 → false ≡ is_some o → end ≡ after_terminate table' t
      → HasFinished after opening steps s t Done (record c { versions = versions; table = end })
  finish_done_of after t leaves w final versions table table' end r again None left is gone =
      subst (λ x. HasFinished after opening steps s t Done (record c { versions = versions; table = x })) (sym gone) (finish_leads rs opening steps s c h after t leaves w final versions table table' r again None left)
  finish_done_of after t leaves w final versions table table' end r again (Some q) left is gone = absurd (false≢true is)

  -- of one that is none of the read-only ones
  pub finish_more : (t : ℕ) → stage_of t rs.unfinished ≡ None → (w : Held) → IsFinalWord (state_of c.table t) w → (versions : VersionsData) (table table' : Txns (Node KeptTransaction)) → IsNextReplaced c.versions versions c.table table t w
      → IsWritten table table' t (HasPassed versions.slots t) → (o : Option WordPlace) → o ≡ slice_get (words_in table' t) 0 → true ≡ is_some o
      → HasFinished rs opening steps s t More (record c { versions = versions; table = table' })
  finish_more t other w final versions table table' r again o left is = finish_more_of rs t (other_leaves rs s c.tale t h.places other) w final versions table table' r again o left is

  pub finish_done : (t : ℕ) → stage_of t rs.unfinished ≡ None → (w : Held) → IsFinalWord (state_of c.table t) w → (versions : VersionsData) (table table' end : Txns (Node KeptTransaction)) → IsNextReplaced c.versions versions c.table table t w
      → IsWritten table table' t (HasPassed versions.slots t) → (o : Option WordPlace) → o ≡ slice_get (words_in table' t) 0 → false ≡ is_some o → end ≡ after_terminate table' t
      → HasFinished rs opening steps s t Done (record c { versions = versions; table = end })
  finish_done t other w final versions table table' end r again o left is gone = finish_done_of rs t (other_leaves rs s c.tale t h.places other) w final versions table table' end r again o left is gone

  -- the end of one that committed was drawn
  pub drawn_end : (t : ℕ) → HasDrawnEnd c.table.clock (state_of c.table t)
  drawn_end t = go (state_of c.table t) refl
    where
      go : (o : Option TxState) → state_of c.table t ≡ o → HasDrawnEnd c.table.clock o
      go None e = tt
      go (Some Active) e = tt
      go (Some (Preparing n)) e = tt
      go (Some (Committed n)) e = subst (λ clock. n.0 ≤ clock) (sym h.dependencies.stands.clock) (h.versions.versions.committed t n.0 (ap phase_as e)).drawn
      go (Some Aborted) e = tt

-- ---- the table, once a word was replaced
first_states : (old new : VersionsData) (table table' : Txns (Node KeptTransaction)) (t : ℕ) (w : Held) (o : Option WordPlace) → IsFirstReplaced old new table table' t w o → state_of table ≡ state_of table'
first_states old new table table' t w None r = ap state_of (sym r.1)
first_states old new table table' t w (Some p) r = same_states table table' t HasDropped r.1

module _ (old new : VersionsData) (table table' : Txns (Node KeptTransaction)) (t : ℕ) (w : Held) (r : IsNextReplaced old new table table' t w) where
  pub replaced_ended : (end : Txns (Node KeptTransaction)) → IsWritten table' end t (HasPassed new.slots t) → IsFinalWord (state_of table t) w → IsEnded (state_of end t)
  replaced_ended end again final =
      subst (λ states. IsEnded (states t))
      (same_states table r.between t (HasPassed old.slots t) r.passed ∙ first_states old new r.between table' t w (slice_get (words_in r.between t) 0) r.first ∙ same_states table' end t (HasPassed new.slots t) again)
      (final_ended (state_of table t) w final)
