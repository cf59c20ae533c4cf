-- An insert, a delete and an update keep the lists.
use Rattle.std.proofs.Common.{◌≡◌, ◌≢◌, ℕ, ◌+◌, ◌≤◌, Bool, true, false, cond, List, [], ◌∷◌, ◌++◌, map, Option, None, Some, refl, sym, ap, ◌∙◌, subst, arith, append_assoc, ◌⊎◌, inl, inr}
use Rattle.std.specs.Prelude.{◌==◌, is_some, slice_set}
use Rattle.std.specs.List.{AllByRecursion}
use Rattle.std.specs.Ordering.{eq_by_cmp}
use Rattle.std.proofs.lemmas.Bool.{cases_eq, eq-eqb, eqb-true, ne_eqb, true≢false, false≢true}
use Rattle.mvo_types.specs.declared.row.RowKey.{RowKey}
use Rattle.mvo_types.specs.declared.op.Op.{Op}
use Rattle.mvo_types.specs.declared.op.Op.TheVariants.{Insert, Update, Delete}
use Rattle.mvo_types.specs.declared.cause.Cause.{Cause}
use Rattle.mvo_types.specs.declared.cause.Cause.TheVariants as cause
use Rattle.mvo_types.specs.RowData.{RowData, content_of}
use Rattle.mvo_types.specs.AnswerData.{AnswerData}
use Rattle.mvo_types.specs.AnswerData.AnswerData.{Inserted, Updated, Deleted}
use Rattle.mvo_types.specs.Keys.{Map, key_cmp}
use Rattle.mvo_types.specs.Write.{Effect}
use Rattle.mvo_model.specs.History.{History, net_write}
use Rattle.mvo_model.specs.Trace.{Step, Phase}
use Rattle.mvo_model.specs.Trace.Phase.{Absent, Active, Preparing, Committed as IsCommitted, Aborted as IsAborted}
use Rattle.mvo_theory.specs.State.{State, ActiveTx, StampedTx, EndedTx, Outcome, Claim, Word, active_of, preparing_of, ended_of, history_of_active, is_ended_as}
use Rattle.mvo_theory.specs.State.Outcome.{Committed, Aborted}
use Rattle.mvo_theory.specs.State.Word.{Own, Ended}
use Rattle.mvo_theory.specs.Words.{end_on, end_word, words_by, words_of, words_without}
use Rattle.mvo_theory.specs.Claims.{origin, ended_key, claims_with, claim_with, new_claim}
use Rattle.mvo_theory.specs.Changes.{after_operation, after_answer, with_answer, taken_over}
use Rattle.mvo_theory.specs.Origins.{AreWritten}
use Rattle.mvo_shared.specs.Standing.{IsStanding}
use Rattle.mvo_theory.specs.Phases.{phase_in, phase_by, ended_as}
use Rattle.mvo_theory.specs.Sound.{how_many}
use Rattle.mvo_theory.proofs.Cases.{found_is}
use Rattle.mvo_theory.proofs.Each.{each_weaker, each_both, each_map, each_always}
use Rattle.mvo_theory.proofs.Finds.{count_some}
use Rattle.mvo_theory.proofs.Footprints.{key_same}
use Rattle.mvo_theory.proofs.Phases.{leads_after_operation}
use Rattle.mvo_theory.proofs.Who.{active_holds}
use Rattle.mvo_word.specs.declared.held.Held.{Held}
use Rattle.mvo_word.specs.declared.held.Held.TheVariants.{At, By, Infinity}
use Rattle.mvo_chain.specs.declared.version.Version.{Version}
use Rattle.mvo_chain.specs.declared.version.VersionNo.{VersionNo}
use Rattle.mvo_chain.specs.Slots.{Slots, version_at}
use Rattle.mvo_hash.specs.Lists.{Lists, number}
use Rattle.mvo_range.specs.Place.{PlaceNumbers as Places}
use Rattle.mvo_visible.specs.Words.{States, names}
use Rattle.mvo_work.specs.declared.word_place.WordPlace.{WordPlace}
use Rattle.mvo_work.specs.declared.word_place.WordPlace.TheVariants.{Begin, End}
use Rattle.mvo_representation.specs.Words.{Phases, Ends, ends_of, end_in, stamp_in, cause_at_end, cause_of_phase, as_net_effect, net_effect, IsShownAt}
use Rattle.mvo_representation.specs.Versions.{IsKnown, IsInside, AreVersionsOf}
use Rattle.mvo_representation.specs.Indexes.{all_versions}
use Rattle.mvo_representation.specs.Steps.{MayEnd, IsOneMore, IsOwnNewest, IsFreeToEnd, fresh, ended_by}
use Rattle.mvo_representation.specs.Steps.MayEnd.{Own as IsOwn, Other}
use Rattle.mvo_representation.specs.Table.{phases_of}
use Rattle.mvo_representation.specs.Laws.{VersionsStandFor}
use Rattle.mvo_representation.specs.Order.{AreWrittenBy}
use Rattle.mvo_representation.specs.OrderLaws.{HaveNow}
use Rattle.mvo_representation.specs.WordLists.{WordLists, HaveListNow, number_at_word, places_naming, StandAt, HasOwnWords, HasWordLists}
use Rattle.mvo_representation.specs.WordLaws.{InsertKeepsLists, DeleteKeepsLists, UpdateKeepsLists}
use Rattle.mvo_representation.proofs.Answers.{only_mine}
use Rattle.mvo_representation.proofs.Collect.{leaves_row, leaves_put}
use Rattle.mvo_representation.proofs.Ending.{named_end}
use Rattle.mvo_representation.proofs.Facts.{phase_active, stamp_drawn}
use Rattle.mvo_representation.proofs.OrderOperations.{own_words as says}
use Rattle.mvo_representation.proofs.OrderSteps.{live, more_at, stays_put}
use Rattle.mvo_representation.proofs.OrderWritten.{insert_is_written, delete_is_written, update_is_written}
use Rattle.mvo_representation.proofs.Shown.{active_begins, behind_is}
use Rattle.mvo_representation.proofs.Version.{version_shown}
use Rattle.mvo_representation.proofs.WordPlaces.{own_name}
use Rattle.mvo_representation.proofs.WordPairs.{ends_in, stand_self}
use Rattle.mvo_representation.proofs.WordPuts.{one_put_stands}
use Rattle.mvo_representation.proofs.Writing.{IsClaimable, claimable, stamped_unnamed}
use Rattle.mvo_representation.proofs.WordsAround.{IsListedAround, active_not_preparing, active_not_ended, put_around, end_around, end_ended, taken_ended}
use Rattle.mvo_representation.proofs.WordsStand.{ended_phase}
use Rattle.mvo_representation.proofs.WordsKept.{IsActiveListed, IsPreparingListed, IsEndedListed, own_self, here_versions}
use Rattle.mvo_representation.proofs.WordsOf.{words_told, told_own, told_other, words_claimed, end_on_new}
use Rattle.mvo_representation.proofs.WordsSaid.{ended_not_preparing}
use Rattle.mvo_representation.proofs.Reworded.{phase_with_words}

-- ---- who was aborted
aborted_there : (s : State) (t : ℕ) → phase_in s t ≡ IsAborted → (u : EndedTx) × (ended_of t s.ended ≡ Some u)
aborted_there s t = go (active_of t s.active) (preparing_of t s.stamped) (ended_of t s.ended)
  where
    absent : Absent ≡ IsAborted → ⊥
    absent q = cc

    active : Active ≡ IsAborted → ⊥
    active q = cc

    preparing : (n : ℕ) → Preparing n ≡ IsAborted → ⊥
    preparing n q = cc

    go : (a : Option ActiveTx) (b : Option StampedTx) (c : Option EndedTx) → phase_by a b c ≡ IsAborted → (u : EndedTx) × (c ≡ Some u)
    go (Some r) b c q = absurd (active q)
    go None (Some x) c q = absurd (preparing x.end q)
    go None None (Some v) q = (v, refl)
    go None None None q = absurd (absent q)

-- each ended one is found by its id
found_each : (us : List EndedTx) → ((t : ℕ) → how_many (is_ended_as t) us ≤ 1) → AllByRecursion (λ u. ended_of u.id us ≡ Some u) us
found_each [] h = tt
found_each (w ∷ ws) h = (
  ap (λ (b : Bool). cond b (Some w) (ended_of w.id ws)) (eq-eqb w.id w.id refl),
  each_weaker (λ u. ended_of u.id ws ≡ Some u) (λ u. ended_of u.id (w ∷ ws) ≡ Some u) (λ u e. go u (w.id == u.id) refl e) ws (found_each ws (λ t. let o = h t in let z = more t in omega (arith, o, z))),
)
  where
    more : (t : ℕ) → how_many (is_ended_as t) ws ≤ cond {A = ℕ} (is_ended_as t w) 1 0 + how_many (is_ended_as t) ws
    more t = by (is_ended_as t w)
      where
        by : (b : Bool) → how_many (is_ended_as t) ws ≤ cond {A = ℕ} b 1 0 + how_many (is_ended_as t) ws
        by true = omega arith
        by false = omega arith

    go : (u : EndedTx) (b : Bool) → (w.id == u.id) ≡ b → ended_of u.id ws ≡ Some u → cond (w.id == u.id) (Some w) (ended_of u.id ws) ≡ Some u
    go u true q e =
        let l = count_some (is_ended_as u.id) ws u e in
        let o = h u.id in
        let z : cond {A = ℕ} (is_ended_as u.id w) 1 0 ≡ 1 = ap (λ (b : Bool). cond {A = ℕ} b 1 0) q in
        absurd (omega (arith, l, o, z))
    go u false q e = ap (λ (b : Bool). cond b (Some w) (ended_of u.id ws)) q ∙ e

-- ---- whom an End may name that is free
none_cause : (c : Cause) → ◌≡◌ {A = Option Cause} (Some c) None → ⊥
none_cause c q = cc

free_committed : (s : State) (t e : ℕ) (w : Held) → phase_in s t ≡ IsCommitted e → cause_at_end (phase_in s) w ≡ None → names t w ≡ false
free_committed s t e (At n) p c = refl
free_committed s t e Infinity p c = refl
free_committed s t e (By y) p c = go (y.0 == t) refl
  where
    go : (b : Bool) → (y.0 == t) ≡ b → (y.0 == t) ≡ false
    go true q = absurd (none_cause (cause.Stamped (record { 0 = e })) (sym (ap (cause_of_phase y.0) (ap (phase_in s) (eqb-true y.0 t q) ∙ p)) ∙ c))
    go false q = q

free_preparing : (opening : Map) (s : State) (slots : Slots) (w : Held) → IsStanding opening s → IsKnown s (phase_in s) w → cause_at_end (phase_in s) w ≡ None → AllByRecursion (λ x. x.settled ≡ false → names x.id w ≡ false) s.stamped
free_preparing opening s slots (At n) k i c = each_always (λ x. x.settled ≡ false → names x.id (At n) ≡ false) (λ x _. refl) s.stamped
free_preparing opening s slots Infinity k i c = each_always (λ x. x.settled ≡ false → names x.id Infinity ≡ false) (λ x _. refl) s.stamped
free_preparing opening s slots (By y) k i c = go (phase_in s y.0) refl c
  where
    go : (p : Phase) → phase_in s y.0 ≡ p → cause_of_phase y.0 p ≡ None → AllByRecursion (λ x. x.settled ≡ false → names x.id (By y) ≡ false) s.stamped
    go Absent q g = absurd (i q)
    go Active q g = absurd (none_cause (cause.Active (record { 0 = y.0 })) g)
    go (Preparing e) q g = absurd (none_cause (cause.Stamped (record { 0 = e })) g)
    go (IsCommitted e) q g = absurd (none_cause (cause.Stamped (record { 0 = e })) g)
    go IsAborted q g = let u = aborted_there s y.0 q in each_weaker (λ x. x.settled ≡ false → x.id ≢ y.0) (λ x. x.settled ≡ false → names x.id (By y) ≡ false) (λ x d n. ne_eqb y.0 x.id (λ e. d n (sym e))) s.stamped (ended_not_preparing s y.0 u.0 k.single u.1)

numbers_push : (ps : List WordPlace) (q : WordPlace) → map (λ p. (number_at_word p).0) (ps ++ q ∷ []) ≡ map (λ p. (number_at_word p).0) ps ++ (number_at_word q).0 ∷ []
numbers_push [] q = refl
numbers_push (p ∷ ps) q = ap (λ ns. (number_at_word p).0 ∷ ns) (numbers_push ps q)

-- ---- one that writes
module _ (opening : Map) (s : State) (states : States) (slots : Slots) (lists : Lists) (places : Places) (words : WordLists) (r : ActiveTx) (h : VersionsStandFor opening s states slots lists places) (f : active_of r.id s.active ≡ Some r) (l : HasWordLists s slots words) where
  same_table : phases_of states ≡ phase_in s
  same_table = λ i t. h.versions.phases t i

  here : AreVersionsOf s (phase_in s) (all_versions slots)
  here = here_versions s (phases_of states) (all_versions slots) h.versions

  is_active : phase_in s r.id ≡ Active
  is_active = phase_active s r.id r f

  phases_told : (op : Op) (a : AnswerData) (u : ℕ) → phase_in (after_operation s r.id op a) u ≡ phase_in s u
  phases_told op a u = go (cases_eq r.id u)
    where
      go : (r.id ≡ u) ⊎ (r.id ≡ u → ⊥) → phase_in (after_operation s r.id op a) u ≡ phase_in s u
      go (inl i) = subst (λ (n : ℕ). phase_in (after_operation s r.id op a) n ≡ phase_in s n) i (leads_after_operation s r.id op a).own
      go (inr n) = (leads_after_operation s r.id op a).others u n

  path_told : (op : Op) (a : AnswerData) → ends_in (after_operation s r.id op a) ≡ ends_in s
  path_told op a = λ i u. end_in (phases_told op a u i)

  abbrev taking : Claim → Op → AnswerData → State
  taking c op a = taken_over (Some c) (after_operation s r.id op a)

  path_taken : (c : Claim) (op : Op) (a : AnswerData) → ends_in (taken_over (Some c) (after_operation s r.id op a)) ≡ ends_in s
  path_taken c op a = λ i u. end_in ((phase_with_words (λ u. words_without c u.outcome u.words) (after_operation s r.id op a) u ∙ phases_told op a u) i)

  start : IsListedAround s s slots words r.id (words_of r.history r.claims) s.ended
  start = record {
    once = l.once;
    active = each_weaker (IsActiveListed s slots words) (λ q. q.id ≢ r.id → IsActiveListed s slots words q) (λ q o _. o) s.active l.active;
    preparing = l.preparing;
    ended = l.ended;
    mine = (active_holds (IsActiveListed s slots words) r.id s.active r f l.active).0.stand;
    apart = active_not_preparing s r.id r h.kept.single f;
    apart_ended = active_not_ended s r.id r h.kept.single f;
  }

  written : AreWrittenBy r.id slots (map (λ p. (number_at_word p).0) (words r.id))
  written = (active_holds (IsActiveListed s slots words) r.id s.active r f l.active).0.written

  lifted : (s' : State) → s.clock ≤ s'.clock → ends_in s' ≡ ends_in s → (ws : List Word) → IsListedAround s s slots words r.id ws s.ended → IsListedAround s s' slots words r.id ws s.ended
  lifted s' le path ws g = record {
    once = g.once;
    active = each_weaker (λ q. q.id ≢ r.id → IsActiveListed s slots words q) (λ q. q.id ≢ r.id → IsActiveListed s' slots words q) (λ q o d. own_self s s' slots q.id le path (words_of q.history q.claims) (words q.id) (o d)) s.active g.active;
    preparing = each_weaker (IsPreparingListed s slots words) (IsPreparingListed s' slots words) (λ x o q. own_self s s' slots x.id le path (words_of x.history x.claims) (words x.id) (o q)) s.stamped g.preparing;
    ended = each_weaker (IsEndedListed s slots words) (IsEndedListed s' slots words) (λ u o. stand_self s s' slots u.id le path u.words (places_naming slots u.id (words u.id)) o) s.ended g.ended;
    mine = stand_self s s' slots r.id le path ws (words r.id) g.mine;
    apart = g.apart;
    apart_ended = g.apart_ended;
  }

  -- with its own words, these are the lists of all
  active_closed : (s' : State) (slots' : Slots) (words' : WordLists) (op : Op) (a : AnswerData) (ws : List Word) (us : List EndedTx) → IsListedAround s s' slots' words' r.id ws us → words_told s r.id op a r ≡ ws → AreWrittenBy r.id slots' (map (λ p. (number_at_word p).0) (words' r.id)) → AllByRecursion (IsActiveListed s' slots' words') (map (with_answer s r.id op a) s.active)
  active_closed s' slots' words' op a ws us g told w = each_map (with_answer s r.id op a) (λ q. (q.id ≡ r.id → q ≡ r) × (q.id ≢ r.id → IsActiveListed s' slots' words' q)) (IsActiveListed s' slots' words') (λ q x. closed q x.0 x.1 (cases_eq q.id r.id)) s.active
      (each_both (λ q. q.id ≡ r.id → q ≡ r) (λ q. q.id ≢ r.id → IsActiveListed s' slots' words' q) (λ q. (q.id ≡ r.id → q ≡ r) × (q.id ≢ r.id → IsActiveListed s' slots' words' q)) (λ q x y. (x, y)) s.active (only_mine r.id r s.active h.kept.numbered.distinct f) g.active)
    where
      closed : (q : ActiveTx) → (q.id ≡ r.id → q ≡ r) → (q.id ≢ r.id → IsActiveListed s' slots' words' q) → (q.id ≡ r.id) ⊎ (q.id ≡ r.id → ⊥) → HasOwnWords s' slots' q.id (words_told s r.id op a q) (words' q.id)
      closed q only other (inl i) = subst (λ (y : ActiveTx). HasOwnWords s' slots' y.id (words_told s r.id op a y) (words' y.id)) (sym (only i)) (record { stand = subst (λ vs. StandAt s' slots' r.id vs (words' r.id)) (sym told) g.mine; written = w })
      closed q only other (inr d) = subst (λ vs. HasOwnWords s' slots' q.id vs (words' q.id)) (sym (told_other s r.id op a q d)) (other d)

  absent_closed : (s' : State) (words' : WordLists) (ps : List WordPlace) → ((u : ℕ) → phase_in s' u ≡ phase_in s u) → HaveListNow words words' r.id ps → (u : ℕ) → phase_in s' u ≡ Absent → words' u ≡ []
  absent_closed s' words' ps same list u q = go (cases_eq u r.id)
    where
      differ : Active ≡ Absent → ⊥
      differ e = cc

      go : (u ≡ r.id) ⊎ (u ≡ r.id → ⊥) → words' u ≡ []
      go (inl i) = absurd (differ (sym is_active ∙ sym (same r.id) ∙ ap (phase_in s') (sym i) ∙ q))
      go (inr d) = list.others u d ∙ l.absent u (sym (same u) ∙ q)

  closed_plain : (slots' : Slots) (words' : WordLists) (op : Op) (a : AnswerData) (ws : List Word) (ps : List WordPlace) → HaveListNow words words' r.id ps → IsListedAround s (after_operation s r.id op a) slots' words' r.id ws s.ended → words_told s r.id op a r ≡ ws → AreWrittenBy r.id slots' (map (λ p. (number_at_word p).0) (words' r.id)) → HasWordLists (after_operation s r.id op a) slots' words'
  closed_plain slots' words' op a ws ps list g told w = record {
    once = g.once;
    active = active_closed (after_operation s r.id op a) slots' words' op a ws s.ended g told w;
    preparing = g.preparing;
    ended = g.ended;
    absent = absent_closed (after_operation s r.id op a) words' ps (phases_told op a) list;
  }

  closed_taken : (c : Claim) (slots' : Slots) (words' : WordLists) (op : Op) (a : AnswerData) (ws : List Word) (ps : List WordPlace) → HaveListNow words words' r.id ps → IsListedAround s (taken_over (Some c) (after_operation s r.id op a)) slots' words' r.id ws (taken_over (Some c) (after_operation s r.id op a)).ended → words_told s r.id op a r ≡ ws → AreWrittenBy r.id slots' (map (λ p. (number_at_word p).0) (words' r.id)) → HasWordLists (taken_over (Some c) (after_operation s r.id op a)) slots' words'
  closed_taken c slots' words' op a ws ps list g told w = record {
    once = g.once;
    active = active_closed (taken_over (Some c) (after_operation s r.id op a)) slots' words' op a ws (taken_over (Some c) (after_operation s r.id op a)).ended g told w;
    preparing = g.preparing;
    ended = g.ended;
    absent = absent_closed (taken_over (Some c) (after_operation s r.id op a)) words' ps (λ u. phase_with_words (λ u. words_without c u.outcome u.words) (after_operation s r.id op a) u ∙ phases_told op a u) list;
  }

  -- ---- an insert
  pub inserted : (slots' : Slots) (words' : WordLists) (row : RowData) (n : ℕ) → version_at slots (number n) ≡ None → HaveNow slots slots' n (fresh r.id row) → HaveListNow words words' r.id (words r.id ++ Begin (number n) ∷ []) → AreWrittenBy r.id slots' (map (λ p. (number_at_word p).0) (words r.id) ++ n ∷ []) → HasWordLists (after_operation s r.id (Insert row) Inserted) slots' words'
  inserted slots' words' row n hole now list w =
      closed_plain slots' words' (Insert row) Inserted (words_of r.history r.claims ++ Own ∷ []) (words r.id ++ Begin (number n) ∷ []) list
      (put_around s (after_operation s r.id (Insert row) Inserted) slots slots' words words' r.id row n hole now (ap (λ (x : Ends). x r.id) (path_told (Insert row) Inserted) ∙ ap end_in is_active) list (words_of r.history r.claims) s.ended (lifted (after_operation s r.id (Insert row) Inserted) (omega arith) (path_told (Insert row) Inserted) (words_of r.history r.claims) start))
      (told_own s r.id (Insert row) Inserted r refl)
      (subst (AreWrittenBy r.id slots') (sym (ap (map (λ p. (number_at_word p).0)) list.here ∙ numbers_push (words r.id) (Begin (number n)))) w)

  -- ---- an end
  module _ (v : Version) (n : ℕ) (at : version_at slots (number n) ≡ Some v) (op : Op) (a : AnswerData) (key : ended_key op a ≡ Some v.row.key) where
    known : IsKnown s (phase_in s) v.begin × IsKnown s (phase_in s) v.end
    known = live slots (λ x. IsKnown s (phase_in s) x.begin × IsKnown s (phase_in s) x.end) here.known n v at

    history : history_of_active r.id s.active ≡ r.history
    history = (found_is r.id s.active r f).1

    -- its own newest one
    module _ (o : IsOwnNewest r.id v) where
      not_ended : v.end ≡ Infinity
      not_ended = go ((active_holds (IsInside v) r.id s.active r f (live slots (λ x. AllByRecursion (IsInside x) s.active) here.inside n v at)).0 o.mine)
        where
          go : (v.end ≡ Infinity) ⊎ (names r.id v.end ≡ true) → v.end ≡ Infinity
          go (inl i) = i
          go (inr g) = absurd (true≢false (sym g ∙ o.kept))

      own_written : is_some (net_write v.row.key r.history) ≡ true
      own_written = go (net_write v.row.key r.history) refl
        where
          x : IsOneMore v (all_versions (slice_set slots n None)) (all_versions slots)
          x = more_at slots n v at

          leaves : leaves_row (net_effect (names r.id) v.row.key (all_versions slots)) ≡ true
          leaves = ap (λ vs. leaves_row (net_effect (names r.id) v.row.key vs)) (sym x.with') ∙ ap leaves_row (stays_put (names r.id) v.row.key x.before v x.after refl o.mine o.kept) ∙ leaves_put (content_of v.row) (net_effect (names r.id) v.row.key (x.before ++ x.after))

          go : (w : Option Effect) → net_write v.row.key r.history ≡ w → is_some (net_write v.row.key r.history) ≡ true
          go None e = absurd (false≢true (sym (ap (λ (y : Option Effect). leaves_row (as_net_effect y)) e) ∙ ap leaves_row (sym (says s (phase_in s) (all_versions slots) r v.row.key here f)) ∙ leaves))
          go (Some y) e = ap is_some e

      no_claim : new_claim s r.id op a ≡ None
      no_claim = ap (claim_with s r.id (history_of_active r.id s.active)) key ∙ ap (λ (ts : History). cond (is_some (net_write v.row.key ts)) None (Some (record { key = v.row.key; origin = origin s r.id v.row.key }))) history ∙ ap (λ (b : Bool). cond b None (Some (record { key = v.row.key; origin = origin s r.id v.row.key }))) own_written

      same_claims : claims_with s r (ended_key op a) ≡ r.claims
      same_claims = ap (claims_with s r) key ∙ ap (λ (b : Bool). cond b r.claims (r.claims ++ (record { key = v.row.key; origin = origin s r.id v.row.key }) ∷ [])) own_written

      own_end : end_word r.history (claims_with s r (ended_key op a)) v.row.key ≡ Own
      own_end = ap (λ (b : Bool). cond b Own (end_on v.row.key (claims_with s r (ended_key op a)))) own_written

      unnamed : (u : ℕ) → names u v.end ≡ false
      unnamed u = ap (names u) not_ended

      around_own : (between : Slots) (words' : WordLists) → HaveNow slots between n (ended_by r.id v) → HaveListNow words words' r.id (words r.id ++ End (number n) ∷ []) → IsListedAround s (after_operation s r.id op a) between words' r.id (words_of r.history r.claims ++ Own ∷ []) s.ended
      around_own between words' now list =
          end_around s (after_operation s r.id op a) slots between words words' r.id v n (omega arith) (path_told op a) at now list o.kept (words_of r.history r.claims) Own s.ended s.ended
          (each_always (λ q. names q.id v.end ≡ false) (λ q. unnamed q.id) s.active)
          (each_always (λ x. x.settled ≡ false → names x.id v.end ≡ false) (λ x _. unnamed x.id) s.stamped)
          start.apart_ended
          (each_both (λ u. u.id ≢ r.id) (IsEndedListed s slots words) (IsEndedListed (after_operation s r.id op a) between words') (λ u d g. end_ended s (after_operation s r.id op a) slots between words words' r.id v n (omega arith) (path_told op a) at now list o.kept u d (unnamed u.id) g) s.ended start.apart_ended l.ended)
          (record { version = ended_by r.id v; at = now.here; named = own_name r.id; is = λ b e. sym (named_end (ends_in (after_operation s r.id op a)) r.id v.begin o.mine) ∙ e })
          start

    -- another's
    module _ (o : IsFreeToEnd s (phase_in s) r.id (all_versions slots) v) where
      abbrev claim : Claim
      claim = record { key = v.row.key; origin = origin s r.id v.row.key }

      unwritten : net_write v.row.key r.history ≡ None
      unwritten = ap (net_write v.row.key) (sym history) ∙ o.unwritten

      free : IsClaimable s (ends_in s) v.end
      free = claimable s (phase_in s) (all_versions slots) v.end here known.1 o.free

      is_origin : o.stamp ≡ origin s r.id v.row.key
      is_origin =
          let x = more_at slots n v at in
          (version_shown s (phase_in s) x.before v x.after r.id v.row.key o.stamp h.kept.sound h.kept.started (subst (AreVersionsOf s (phase_in s)) (sym x.with') here)
          (active_begins s (phase_in s) (x.before ++ v ∷ x.after) r.id r h.kept.sound (subst (AreVersionsOf s (phase_in s)) (sym x.with') here) f)
          (behind_is s (phase_in s) (x.before ++ v ∷ x.after) r.id r (subst (AreVersionsOf s (phase_in s)) (sym x.with') here) f)
          (subst (λ vs. IsShownAt (ends_in s) r.id v.row.key vs v o.stamp) (sym x.with') o.shown)).origin

      put : stamp_in (ends_in s) v.begin ≡ Some (origin s r.id v.row.key)
      put = o.shown.put ∙ ap (λ (z : ℕ). Some z) is_origin

      not_mine : (w : Held) → AllByRecursion (λ q. names q.id w ≡ false) s.active → names r.id w ≡ false
      not_mine w g = (active_holds (λ (q : ActiveTx). names q.id w ≡ false) r.id s.active r f g).0

      one_claim : new_claim s r.id op a ≡ Some (record { key = v.row.key; origin = origin s r.id v.row.key })
      one_claim = ap (claim_with s r.id (history_of_active r.id s.active)) key ∙ ap (λ (y : Option Effect). cond (is_some y) None (Some (record { key = v.row.key; origin = origin s r.id v.row.key }))) o.unwritten

      more_claims : claims_with s r (ended_key op a) ≡ r.claims ++ (record { key = v.row.key; origin = origin s r.id v.row.key }) ∷ []
      more_claims = ap (claims_with s r) key ∙ ap (λ (y : Option Effect). cond (is_some y) r.claims (r.claims ++ (record { key = v.row.key; origin = origin s r.id v.row.key }) ∷ [])) unwritten

      unclaimed : AllByRecursion (λ d. eq_by_cmp key_cmp v.row.key d.key ≡ false) r.claims
      unclaimed = each_weaker (λ d. is_some (net_write d.key r.history) ≡ true) (λ d. eq_by_cmp key_cmp v.row.key d.key ≡ false) (λ d w. go d w (eq_by_cmp key_cmp v.row.key d.key) refl) r.claims (active_holds (λ q. AreWritten q.history q.claims) r.id s.active r f h.kept.written.active).0
        where
          go : (d : Claim) → is_some (net_write d.key r.history) ≡ true → (b : Bool) → eq_by_cmp key_cmp v.row.key d.key ≡ b → eq_by_cmp key_cmp v.row.key d.key ≡ false
          go d w true e = absurd (false≢true (sym (ap is_some (ap (λ (k : RowKey). net_write k r.history) (key_same v.row.key d.key e) ∙ unwritten)) ∙ w))
          go d w false e = e

      claimed_end : end_word r.history (claims_with s r (ended_key op a)) v.row.key ≡ Ended (record { key = v.row.key; origin = origin s r.id v.row.key })
      claimed_end =
          ap (λ (y : Option Effect). cond (is_some y) Own (end_on v.row.key (claims_with s r (ended_key op a)))) unwritten
          ∙ ap (end_on v.row.key) more_claims
          ∙ end_on_new v.row.key r.claims (record { key = v.row.key; origin = origin s r.id v.row.key }) refl unclaimed

      same_words : words_of r.history (claims_with s r (ended_key op a)) ≡ words_of r.history r.claims
      same_words = ap (words_of r.history) more_claims ∙ words_claimed r.history r.claims (record { key = v.row.key; origin = origin s r.id v.row.key }) unwritten

      only_put : (m : VersionNo) (w : Version) → version_at slots m ≡ Some w → w.row.key ≡ v.row.key → stamp_in (ends_in s) w.begin ≡ Some (origin s r.id v.row.key) → stamp_in (ends_in s) w.end ≡ None → m.0 ≡ n
      only_put m w there same b e =
          let turn = λ (y : Held) (z : Option ℕ) (q : stamp_in (ends_in s) y ≡ z). ap (λ (x : Phases). stamp_in (ends_of x) y) same_table ∙ q in
          one_put_stands s states slots w v m.0 n (origin s r.id v.row.key) h.versions there at same (turn w.begin (Some (origin s r.id v.row.key)) b) (turn v.begin (Some (origin s r.id v.row.key)) put) (turn w.end None e) (turn v.end None free.unseen)

      around_other : (between : Slots) (words' : WordLists) → HaveNow slots between n (ended_by r.id v) → HaveListNow words words' r.id (words r.id ++ End (number n) ∷ []) → IsListedAround s (taken_over (Some (record { key = v.row.key; origin = origin s r.id v.row.key })) (after_operation s r.id op a)) between words' r.id (words_of r.history r.claims ++ Ended (record { key = v.row.key; origin = origin s r.id v.row.key }) ∷ []) (taken_over (Some (record { key = v.row.key; origin = origin s r.id v.row.key })) (after_operation s r.id op a)).ended
      around_other between words' now list =
          end_around s s' slots between words words' r.id v n (omega arith) (path_taken c op a) at now list kept (words_of r.history r.claims) (Ended c) s.ended s'.ended
          free.unnamed
          (free_preparing opening s slots v.end h.kept known.1 o.free)
          (each_map {X = EndedTx} {Y = EndedTx} (λ u. record u { words = words_without c u.outcome u.words }) (λ u. u.id ≢ r.id) (λ u. u.id ≢ r.id) (λ u d. d) s.ended start.apart_ended)
          (each_map {X = EndedTx} {Y = EndedTx} (λ u. record u { words = words_without c u.outcome u.words }) (λ u. (u.id ≢ r.id) × (ended_of u.id s.ended ≡ Some u) × IsEndedListed s slots words u) (IsEndedListed s' between words') (λ u x. ended_one u x.0 x.1 x.2) s.ended
          (each_both (λ u. u.id ≢ r.id) (λ u. (ended_of u.id s.ended ≡ Some u) × IsEndedListed s slots words u) (λ u. (u.id ≢ r.id) × (ended_of u.id s.ended ≡ Some u) × IsEndedListed s slots words u) (λ u x y. (x, y.0, y.1)) s.ended start.apart_ended
          (each_both (λ u. ended_of u.id s.ended ≡ Some u) (IsEndedListed s slots words) (λ u. (ended_of u.id s.ended ≡ Some u) × IsEndedListed s slots words u) (λ u x y. (x, y)) s.ended (found_each s.ended (λ t. let q = h.kept.single.once t in omega (arith, q))) l.ended)))
          (record {
            version = ended_by r.id v;
            at = now.here;
            named = own_name r.id;
            is = record {
              key = refl;
              others = not_mine v.begin (stamped_unnamed s (phase_in s) (all_versions slots) v.begin (origin s r.id v.row.key) here put);
              put = inl (ap (λ (x : Ends). stamp_in x v.begin) (path_taken c op a) ∙ put);
              drawn = (stamp_drawn s (phase_in s) (all_versions slots) h.kept.sound here v.begin known.0 (origin s r.id v.row.key) put).drawn;
            };
          })
          start
        where
          c : Claim
          c = record { key = v.row.key; origin = origin s r.id v.row.key }

          s' : State
          s' = taken_over (Some c) (after_operation s r.id op a)

          kept : names r.id v.end ≡ false
          kept = not_mine v.end free.unnamed

          ended_one : (u : EndedTx) → u.id ≢ r.id → ended_of u.id s.ended ≡ Some u → IsEndedListed s slots words u → StandAt s' between u.id (words_without c u.outcome u.words) (places_naming between u.id (words' u.id))
          ended_one u d e g = go u.outcome refl
            where
              go : (y : Outcome) → u.outcome ≡ y → StandAt s' between u.id (words_without c y u.words) (places_naming between u.id (words' u.id))
              go Aborted q = taken_ended s s' slots between words words' r.id v n (omega arith) (path_taken c op a) at now list kept c refl put only_put u d (ap end_in (ended_phase s u h.kept.single e ∙ ap ended_as q)) g
              go (Committed m) q = end_ended s s' slots between words words' r.id v n (omega arith) (path_taken c op a) at now list kept u d (free_committed s u.id m v.end (ended_phase s u h.kept.single e ∙ ap ended_as q) o.free) g

-- ---- the laws
pub insert_keeps_lists : InsertKeepsLists
insert_keeps_lists opening s states slots slots' lists places words words' r row n h f gone hole now list l =
    inserted opening s states slots lists places words r h f l slots' words' row n hole now list
    (insert_is_written opening s states slots slots' lists places r row n (map (λ p. (number_at_word p).0) (words r.id)) h f gone hole now (written opening s states slots lists places words r h f l))

-- the lists between the End and the Begin of an update
abbrev between_lists : WordLists → ℕ → List WordPlace → WordLists
between_lists words t ps u = cond (u == t) ps (words u)

between_now : (words : WordLists) (t : ℕ) (ps : List WordPlace) → HaveListNow words (between_lists words t ps) t ps
between_now words t ps = record { others = λ u d. ap (λ (b : Bool). cond b ps (words u)) (ne_eqb u t d); here = ap (λ (b : Bool). cond b ps (words t)) (eq-eqb t t refl) }

then_now : (words words' : WordLists) (t : ℕ) (ps : List WordPlace) (q : WordPlace) → HaveListNow words words' t (ps ++ q ∷ []) → HaveListNow (between_lists words t ps) words' t (between_lists words t ps t ++ q ∷ [])
then_now words words' t ps q list = record { others = λ u d. list.others u d ∙ sym ((between_now words t ps).others u d); here = list.here ∙ sym (ap (λ qs. qs ++ q ∷ []) (between_now words t ps).here) }

pub delete_keeps_lists : DeleteKeepsLists
delete_keeps_lists opening s states slots slots' lists places words words' r v n h f at may now list l = go (subst (λ (x : Phases). MayEnd s x r.id (all_versions slots) v) (same_table opening s states slots lists places words r h f l) may)
  where
    ps : List WordPlace
    ps = words r.id ++ End (number n) ∷ []

    c : Claim
    c = record { key = v.row.key; origin = origin s r.id v.row.key }

    w : AreWrittenBy r.id slots' (map (λ p. (number_at_word p).0) (words' r.id))
    w = subst (AreWrittenBy r.id slots') (sym (ap (map (λ p. (number_at_word p).0)) list.here ∙ numbers_push (words r.id) (End (number n)))) (delete_is_written opening s states slots slots' lists places r v n (map (λ p. (number_at_word p).0) (words r.id)) h f at may now (written opening s states slots lists places words r h f l))

    go : MayEnd s (phase_in s) r.id (all_versions slots) v → HasWordLists (after_answer s r.id (Delete v.row.key) Deleted) slots' words'
    go (IsOwn o) = subst (λ (x : Option Claim). HasWordLists (taken_over x (after_operation s r.id (Delete v.row.key) Deleted)) slots' words') (sym (no_claim opening s states slots lists places words r h f l v n at (Delete v.row.key) Deleted refl o))
        (closed_plain opening s states slots lists places words r h f l slots' words' (Delete v.row.key) Deleted (words_of r.history r.claims ++ Own ∷ []) ps list
        (around_own opening s states slots lists places words r h f l v n at (Delete v.row.key) Deleted refl o slots' words' now list)
        (told_own s r.id (Delete v.row.key) Deleted r refl
        ∙ ap (λ cs. words_of r.history cs ++ words_by r.history (claims_with s r (Some v.row.key)) (Delete v.row.key) Deleted) (same_claims opening s states slots lists places words r h f l v n at (Delete v.row.key) Deleted refl o)
        ∙ ap (λ (x : Word). words_of r.history r.claims ++ x ∷ []) (own_end opening s states slots lists places words r h f l v n at (Delete v.row.key) Deleted refl o)) w)
    go (Other o) = subst (λ (x : Option Claim). HasWordLists (taken_over x (after_operation s r.id (Delete v.row.key) Deleted)) slots' words') (sym (one_claim opening s states slots lists places words r h f l v n at (Delete v.row.key) Deleted refl o))
        (closed_taken opening s states slots lists places words r h f l c slots' words' (Delete v.row.key) Deleted (words_of r.history r.claims ++ Ended c ∷ []) ps list
        (around_other opening s states slots lists places words r h f l v n at (Delete v.row.key) Deleted refl o slots' words' now list)
        (told_own s r.id (Delete v.row.key) Deleted r refl
        ∙ ap (λ (ws : List Word). ws ++ words_by r.history (claims_with s r (Some v.row.key)) (Delete v.row.key) Deleted) (same_words opening s states slots lists places words r h f l v n at (Delete v.row.key) Deleted refl o)
        ∙ ap (λ (x : Word). words_of r.history r.claims ++ x ∷ []) (claimed_end opening s states slots lists places words r h f l v n at (Delete v.row.key) Deleted refl o)) w)

pub update_keeps_lists : UpdateKeepsLists
update_keeps_lists opening s states slots between slots' lists places words words' r v row n m h f at key may ended hole now list l = go (subst (λ (x : Phases). MayEnd s x r.id (all_versions slots) v) (same_table opening s states slots lists places words r h f l) may)
  where
    ps : List WordPlace
    ps = words r.id ++ End (number n) ∷ []

    mid : WordLists
    mid = between_lists words r.id ps

    c : Claim
    c = record { key = v.row.key; origin = origin s r.id v.row.key }

    key_of : ◌≡◌ {A = Option RowKey} (Some row.key) (Some v.row.key)
    key_of = ap (λ (k : RowKey). Some k) key

    w : AreWrittenBy r.id slots' (map (λ p. (number_at_word p).0) (words' r.id))
    w = subst (AreWrittenBy r.id slots') (sym (ap (map (λ p. (number_at_word p).0)) list.here ∙ numbers_push ps (Begin (number m)) ∙ ap (λ ns. ns ++ m ∷ []) (numbers_push (words r.id) (End (number n)))))
        (update_is_written opening s states slots between slots' lists places r v row n m (map (λ p. (number_at_word p).0) (words r.id)) h f at key may ended hole now (written opening s states slots lists places words r h f l))

    -- the End is that of the version's key
    word : (x : Word) → end_word r.history (claims_with s r (Some row.key)) v.row.key ≡ x → words_by r.history (claims_with s r (Some row.key)) (Update row) Updated ≡ x ∷ Own ∷ []
    word x e = ap (λ (k : RowKey). end_word r.history (claims_with s r (Some row.key)) k ∷ Own ∷ []) key ∙ ap (λ (y : Word). y ∷ Own ∷ []) e

    go : MayEnd s (phase_in s) r.id (all_versions slots) v → HasWordLists (after_answer s r.id (Update row) Updated) slots' words'
    go (IsOwn o) = subst (λ (x : Option Claim). HasWordLists (taken_over x (after_operation s r.id (Update row) Updated)) slots' words') (sym (no_claim opening s states slots lists places words r h f l v n at (Update row) Updated key_of o))
        (closed_plain opening s states slots lists places words r h f l slots' words' (Update row) Updated ((words_of r.history r.claims ++ Own ∷ []) ++ Own ∷ []) (ps ++ Begin (number m) ∷ []) list
        (put_around s (after_operation s r.id (Update row) Updated) between slots' mid words' r.id row m hole now (ap (λ (x : Ends). x r.id) (path_told opening s states slots lists places words r h f l (Update row) Updated) ∙ ap end_in (is_active opening s states slots lists places words r h f l)) (then_now words words' r.id ps (Begin (number m)) list) (words_of r.history r.claims ++ Own ∷ []) s.ended
        (around_own opening s states slots lists places words r h f l v n at (Update row) Updated key_of o between mid ended (between_now words r.id ps)))
        (told_own s r.id (Update row) Updated r refl
        ∙ ap (λ cs. words_of r.history cs ++ words_by r.history (claims_with s r (Some row.key)) (Update row) Updated) (same_claims opening s states slots lists places words r h f l v n at (Update row) Updated key_of o)
        ∙ ap (λ ws. words_of r.history r.claims ++ ws) (word Own (own_end opening s states slots lists places words r h f l v n at (Update row) Updated key_of o))
        ∙ sym (append_assoc (words_of r.history r.claims) (Own ∷ []) (Own ∷ []))) w)
    go (Other o) = subst (λ (x : Option Claim). HasWordLists (taken_over x (after_operation s r.id (Update row) Updated)) slots' words') (sym (one_claim opening s states slots lists places words r h f l v n at (Update row) Updated key_of o))
        (closed_taken opening s states slots lists places words r h f l c slots' words' (Update row) Updated ((words_of r.history r.claims ++ Ended c ∷ []) ++ Own ∷ []) (ps ++ Begin (number m) ∷ []) list
        (put_around s (taken_over (Some c) (after_operation s r.id (Update row) Updated)) between slots' mid words' r.id row m hole now (ap (λ (x : Ends). x r.id) (path_taken opening s states slots lists places words r h f l c (Update row) Updated) ∙ ap end_in (is_active opening s states slots lists places words r h f l)) (then_now words words' r.id ps (Begin (number m)) list) (words_of r.history r.claims ++ Ended c ∷ []) (taken_over (Some c) (after_operation s r.id (Update row) Updated)).ended
        (around_other opening s states slots lists places words r h f l v n at (Update row) Updated key_of o between mid ended (between_now words r.id ps)))
        (told_own s r.id (Update row) Updated r refl
        ∙ ap (λ (ws : List Word). ws ++ words_by r.history (claims_with s r (Some row.key)) (Update row) Updated) (same_words opening s states slots lists places words r h f l v n at (Update row) Updated key_of o)
        ∙ ap (λ ws. words_of r.history r.claims ++ ws) (word (Ended c) (claimed_end opening s states slots lists places words r h f l v n at (Update row) Updated key_of o))
        ∙ sym (append_assoc (words_of r.history r.claims) (Ended c ∷ []) (Own ∷ []))) w)
