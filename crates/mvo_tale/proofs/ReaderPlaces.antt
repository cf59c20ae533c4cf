-- Each call of a read-only transaction leaves the places of the state after the call.
use Rattle.std.proofs.Common.{◌≡◌, ℕ, ◌+◌, Bool, true, false, cond, not, ◌||◌, List, [], ◌∷◌, Option, None, Some, refl, sym, ap, ◌∙◌, subst, arith}
use Rattle.std.specs.Prelude.{is_some, nat_le, length}
use Rattle.std.specs.List.{AllByRecursion}
use Rattle.mvo_types.specs.declared.refusal.Refusal.{Refusal}
use Rattle.mvo_types.specs.declared.refusal.Refusal.TheVariants.{NoSuchTransaction, Ended, NotPreparing, NotEnded}
use Rattle.mvo_types.specs.Causes.{first_cause, when}
use Rattle.mvo_types.specs.Keys.{Map}
use Rattle.mvo_model.specs.Trace.{Step, Phase, history_of, phase_of}
use Rattle.mvo_model.specs.Trace.Phase.{Active as IsActive}
use Rattle.mvo_theory.specs.Entries.{entries}
use Rattle.mvo_theory.specs.State.{State, StampedTx, Claim, preparing_of, is_preparing_as, history_of_active}
use Rattle.mvo_theory.specs.Phases.{phase_in, is_absent, is_active, is_preparing, is_ended}
use Rattle.mvo_theory.specs.Causes.{is_failure, why_not_rollback, why_not_finish}
use Rattle.mvo_theory.specs.Claims.{new_claim}
use Rattle.mvo_theory.specs.Changes.{after_operation, taken_over, after_termination, with_words}
use Rattle.mvo_theory.specs.Steps.{after_abort_of}
use Rattle.mvo_theory.specs.Words.{is_done, words_left}
use Rattle.mvo_theory.specs.Calls.{Call, Result, answer_in, after_run}
use Rattle.mvo_theory.specs.Calls.Call.{Begin, Do, Precommit, Validate, Settle, Rollback, Finish, Trim, Close}
use Rattle.mvo_theory.specs.Calls.Result.{Accepted, Refused}
use Rattle.mvo_theory.proofs.Cases.{found_is}
use Rattle.mvo_theory.proofs.Each.{each_weaker}
use Rattle.mvo_theory.proofs.Finds.{find_none}
use Rattle.mvo_theory.proofs.Single.{active_alone, preparing_found}
use Rattle.mvo_theory.proofs.Who.{active_holds}
use Rattle.mvo_readonly.specs.ReadAt.{WritesNothing}
use Rattle.mvo_readonly.specs.Whole.{ReaderStage, UnfinishedReader, CommittedReader, WholeState, stage_of, id_named, stage_named}
use Rattle.mvo_readonly.specs.Whole.ReaderStage.{Reading as IsReading, Preparing, Committed, Aborted}
use Rattle.mvo_readonly.specs.WholeCauses.{why_not_reader, MayComeAtStage, awaited_by_reader}
use Rattle.mvo_readonly.specs.WholeCalls.{rolled_back, unless_awaited, core_at_stage, core_reader, with_stage, without_reader, checked_more, settled_unless, readers_at_stage, readers_reader, committed_unless, committed_at_stage, committed_by_reader}
use Rattle.mvo_readonly.specs.WholeKept.{core_phase, IsUnfinishedReader, IsWholeKept}
use Rattle.mvo_readonly.proofs.ReaderCalls.{in_core}
use Rattle.mvo_readonly.proofs.Tales.{never_due}
use Rattle.mvo_readonly.proofs.Stages.{core_stands, found_active, may_prepare, may_settle, may_fail_do, may_fail_precommit, may_fail_validate, may_fail_settle}
use Rattle.mvo_tale.specs.declared.tale_place.TalePlace.{TalePlace}
use Rattle.mvo_tale.specs.Slots.{ends, reading_begin_at, AreRising}
use Rattle.mvo_tale.specs.Next.{AreGroupedTo}
use Rattle.mvo_tale.specs.WholePlaces.{has_ended, HasWholeTale}
use Rattle.mvo_tale.specs.ReaderPlaces.{read_commit, stored_unless, emptied_at, places_after_reader, BeginOpensPlace, ReaderCallsKeepTale, ReaderCallsKeepGrouped}
use Rattle.mvo_tale.proofs.ReadingPlaces.{grouped_read, grouped_reading_left}
use Rattle.mvo_tale.proofs.WholePlaces.{whole_begun, whole_staged, whole_settled, whole_left, whole_finished}

none_why : (r : Refusal) → ◌≡◌ {A = Option Refusal} (Some r) None → ⊥
none_why r e = cc

no_stage : (p : ReaderStage) → ◌≡◌ {A = Option ReaderStage} None (Some p) → ⊥
no_stage p e = cc

-- ---- it has ended just where the core has it so
ended_is : (p : ReaderStage) → has_ended p ≡ not (is_active (core_phase p))
ended_is IsReading = refl
ended_is (Preparing n v) = refl
ended_is Committed = refl
ended_is Aborted = refl

unended : (p : ReaderStage) → core_phase p ≡ IsActive → has_ended p ≡ false
unended p e = ended_is p ∙ ap (λ (f : Phase). not (is_active f)) e

each_as : (steps own : List Step) (s : State) (t : ℕ) (p : ReaderStage) (rs : List UnfinishedReader) → stage_of t rs ≡ Some p → AllByRecursion (IsUnfinishedReader steps own s) rs → AllByRecursion (λ r. r.id ≡ t → has_ended r.stage ≡ has_ended p) rs
each_as steps own s t p rs e h =
    let at = (core_stands steps own s t rs p e h).0 in
    each_weaker (IsUnfinishedReader steps own s) (λ r. r.id ≡ t → has_ended r.stage ≡ has_ended p)
    (λ r q i. ended_is r.stage ∙ ap (λ (f : Phase). not (is_active f)) (sym q.stands ∙ ap (λ (n : ℕ). phase_of n own) i ∙ at) ∙ sym (ended_is p)) rs h

each_ended_as : (b : Bool) (p : ReaderStage) (t : ℕ) (rs : List UnfinishedReader) → has_ended p ≡ b → AllByRecursion (λ r. r.id ≡ t → has_ended r.stage ≡ has_ended p) rs → AllByRecursion (λ r. r.id ≡ t → has_ended r.stage ≡ b) rs
each_ended_as b p t rs e h = each_weaker (λ r. r.id ≡ t → has_ended r.stage ≡ has_ended p) (λ r. r.id ≡ t → has_ended r.stage ≡ b) (λ r q i. q i ∙ e) rs h

finish_ended : (s : State) (t : ℕ) (p : ReaderStage) → phase_in s t ≡ core_phase p → why_not_finish s t ≡ None → has_ended p ≡ true
finish_ended s t Committed e n = refl
finish_ended s t Aborted e n = refl
finish_ended s t IsReading e n = absurd (none_why NotEnded (sym (ap (λ (f : Phase). first_cause (when (is_absent f) NoSuchTransaction ∷ when (is_active f || is_preparing f) NotEnded ∷ [])) e) ∙ n))
finish_ended s t (Preparing k v) e n = absurd (none_why NotEnded (sym (ap (λ (f : Phase). first_cause (when (is_absent f) NoSuchTransaction ∷ when (is_active f || is_preparing f) NotEnded ∷ [])) e) ∙ n))

rolled_active : (s : State) (t : ℕ) (p : ReaderStage) → phase_in s t ≡ core_phase p → why_not_rollback s t ≡ None → core_phase p ≡ IsActive
rolled_active s t IsReading e n = refl
rolled_active s t (Preparing k v) e n = refl
rolled_active s t Committed e n = absurd (none_why Ended (sym (ap (λ (f : Phase). first_cause (when (is_absent f) NoSuchTransaction ∷ when (is_ended f) Ended ∷ [])) e) ∙ n))
rolled_active s t Aborted e n = absurd (none_why Ended (sym (ap (λ (f : Phase). first_cause (when (is_absent f) NoSuchTransaction ∷ when (is_ended f) Ended ∷ [])) e) ∙ n))

-- ---- one begins
pub begin_opens : BeginOpensPlace
begin_opens w slots h =
    let k = whole_begun w (record { 0 = w.core.clock + 1 }) slots h in
    record { others = k.others; readers = k.readers }

-- ---- what the core forgets of words is none of the tale's
taken_whole : (o : Option Claim) (s : State) (rs : List UnfinishedReader) (ys : List CommittedReader) (slots : List TalePlace) → HasWholeTale (record { core = s; readers = rs; committed_readers = ys }) slots → HasWholeTale (record { core = taken_over o s; readers = rs; committed_readers = ys }) slots
taken_whole None s rs ys slots h = h
taken_whole (Some c) s rs ys slots h = record { others = h.others; readers = h.readers }

-- it wrote nothing
told_nothing : (opening : Map) (steps own : List Step) (w : WholeState) → IsWholeKept opening steps own w → (t : ℕ) (p : ReaderStage) → stage_of t w.readers ≡ Some p → core_phase p ≡ IsActive → WritesNothing (history_of_active t w.core.active)
told_nothing opening steps own w kept t p e a =
    let at = core_stands steps own w.core t w.readers p e kept.readers in
    let found = found_active w.core t (in_core opening steps own w t p e kept ∙ a) in
    let r = found.0 in
    let is = found_is t w.core.active r found.1 in
    let told : history_of t own ≡ r.history = subst (λ (u : ℕ). history_of u own ≡ r.history) is.0 (active_holds (λ q. history_of q.id own ≡ q.history) t w.core.active r found.1 kept.kept.after_trace.active).0 in
    subst WritesNothing (told ∙ sym is.1) at.2

module _ (opening : Map) (steps own : List Step) (w : WholeState) (slots : List TalePlace) (kept : IsWholeKept opening steps own w) (rising : AreRising (ends slots)) (h : HasWholeTale w slots) where
  -- in the core it is Active, and not Preparing
  none_prepares : (t : ℕ) (p : ReaderStage) → stage_of t w.readers ≡ Some p → core_phase p ≡ IsActive → preparing_of t w.core.stamped ≡ None
  none_prepares t p e a =
      let found = found_active w.core t (in_core opening steps own w t p e kept ∙ a) in
      let alone = active_alone w.core t found.0 found.1 kept.kept.single in
      preparing_found t w.core.stamped ∙ find_none (is_preparing_as t) w.core.stamped (omega (arith, alone))

  unended_readers : (t : ℕ) (p : ReaderStage) → stage_of t w.readers ≡ Some p → core_phase p ≡ IsActive → AllByRecursion (λ r. r.id ≡ t → has_ended r.stage ≡ false) w.readers
  unended_readers t p e a = each_ended_as false p t w.readers (unended p a) (each_as steps own w.core t p w.readers e kept.readers)

  -- it is aborted
  tale_aborted : (t : ℕ) (p : ReaderStage) (place : ℕ) → stage_of t w.readers ≡ Some p → core_phase p ≡ IsActive → (has_ended p ≡ false → reading_begin_at slots place ≡ Some t)
      → HasWholeTale (record { core = after_run w.core (rolled_back t); readers = with_stage t Aborted w.readers; committed_readers = w.committed_readers }) (emptied_at place slots)
  tale_aborted t p place e a at =
      let k = whole_left w t place slots rising (at (unended p a)) h in
      subst (λ (o : Option StampedTx). HasWholeTale (record { core = after_abort_of w.core t o; readers = with_stage t Aborted w.readers; committed_readers = w.committed_readers }) (emptied_at place slots)) (sym (none_prepares t p e a))
      (record { others = k.others; readers = k.readers })

  tale_failed : (t : ℕ) (p : ReaderStage) (r : Refusal) (place : ℕ) → stage_of t w.readers ≡ Some p → (is_failure r ≡ true → core_phase p ≡ IsActive) → (has_ended p ≡ false → reading_begin_at slots place ≡ Some t) → (b : Bool) → is_failure r ≡ b
      → HasWholeTale (record { core = after_run w.core (cond b (rolled_back t) []); readers = cond b (with_stage t Aborted w.readers) w.readers; committed_readers = w.committed_readers }) (cond b (emptied_at place slots) slots)
  tale_failed t p r place e f at true i = tale_aborted t p place e (f i) at
  tale_failed t p r place e f at false i = record { others = h.others; readers = h.readers }

  -- it is settled, or waits
  tale_settled : (t : ℕ) (p : ReaderStage) (place : ℕ) → stage_of t w.readers ≡ Some p → core_phase p ≡ IsActive → (has_ended p ≡ false → reading_begin_at slots place ≡ Some t) → (v : Option StampedTx)
      → HasWholeTale (record { core = after_run w.core (unless_awaited t v); readers = settled_unless t w.readers v; committed_readers = committed_unless w.core t w.committed_readers v }) (stored_unless w.core t place slots v)
  tale_settled t p place e a at (Some x) = record { others = h.others; readers = h.readers }
  tale_settled t p place e a at None =
      let k = whole_settled w (read_commit w.core t) place slots rising (at (unended p a)) refl (told_nothing opening steps own w kept t p e a) h in
      subst (λ (o : Option StampedTx). HasWholeTale (record { core = after_abort_of w.core t o; readers = with_stage t Committed w.readers; committed_readers = committed_unless w.core t w.committed_readers None }) (stored_unless w.core t place slots None)) (sym (none_prepares t p e a))
      (record { others = k.others; readers = k.readers })

  -- one more of its entries is checked
  tale_checked : (t : ℕ) (p : ReaderStage) → stage_of t w.readers ≡ Some p → why_not_reader w.core p (Validate t) ≡ None → HasWholeTale (record { core = w.core; readers = with_stage t (checked_more w.core t p) w.readers; committed_readers = w.committed_readers }) slots
  tale_checked t IsReading e n = absurd (none_why NotPreparing n)
  tale_checked t Committed e n = absurd (none_why Ended n)
  tale_checked t Aborted e n = absurd (none_why Ended n)
  tale_checked t (Preparing k v) e n = go v
    where
      go : (b : Bool) → HasWholeTale (record { core = w.core; readers = with_stage t (cond b (Preparing k v) (Preparing (k + 1) (nat_le (length (entries (history_of_active t w.core.active))) (k + 1)))) w.readers; committed_readers = w.committed_readers }) slots
      go true = whole_staged w t k v slots (unended_readers t (Preparing k v) e refl) h
      go false = whole_staged w t (k + 1) (nat_le (length (entries (history_of_active t w.core.active))) (k + 1)) slots (unended_readers t (Preparing k v) e refl) h

  -- it is finished
  tale_finished : (t : ℕ) (p : ReaderStage) → stage_of t w.readers ≡ Some p → why_not_finish w.core t ≡ None → HasWholeTale (record { core = after_run w.core ((Finish t, Accepted) ∷ []); readers = cond (is_done w.core t) (without_reader t w.readers) w.readers; committed_readers = w.committed_readers }) slots
  tale_finished t p e n =
      let ended = each_ended_as true p t w.readers (finish_ended w.core t p (in_core opening steps own w t p e kept) n) (each_as steps own w.core t p w.readers e kept.readers) in
      go (is_done w.core t) (whole_finished w t slots ended h)
    where
      go : (b : Bool) → HasWholeTale (record w { readers = without_reader t w.readers }) slots
          → HasWholeTale (record { core = cond b (after_termination w.core t) (with_words (words_left t) w.core); readers = cond b (without_reader t w.readers) w.readers; committed_readers = w.committed_readers }) slots
      go true k = record { others = k.others; readers = k.readers }
      go false k = record { others = h.others; readers = h.readers }

  -- each call of one that is so far
  tale_reader : (c : Call) (r : Result) (p : ReaderStage) (place : ℕ) → stage_named w.readers (id_named c) ≡ Some p → MayComeAtStage w c (Some p) r → (has_ended p ≡ false → reading_begin_at slots place ≡ id_named c)
      → HasWholeTale (record { core = after_run w.core (core_reader w.core c r); readers = readers_reader w.core p c r w.readers; committed_readers = committed_by_reader w.core c r w.committed_readers }) (places_after_reader w.core c r place slots)
  tale_reader Begin r p place e m at = absurd (no_stage p e)
  tale_reader (Trim k) r p place e m at = absurd (no_stage p e)
  tale_reader (Close fits g full) r p place e m at = absurd (no_stage p e)
  tale_reader (Do t op) Accepted p place e m at =
      taken_whole (new_claim w.core t op (answer_in w.core t op)) (after_operation w.core t op (answer_in w.core t op)) w.readers w.committed_readers slots
      (record { others = h.others; readers = h.readers })
  tale_reader (Precommit t) Accepted p place e m at = whole_staged w t 0 false slots (unended_readers t p e (may_prepare w.core t p m.0)) h
  tale_reader (Validate t) Accepted p place e m at = tale_checked t p e m.0
  tale_reader (Settle t) Accepted p place e m at = tale_settled t p place e (may_settle w.core t p m.0).0 at (awaited_by_reader w.core t)
  tale_reader (Rollback t) Accepted p place e m at = tale_aborted t p place e (rolled_active w.core t p (in_core opening steps own w t p e kept) m.0) at
  tale_reader (Finish t) Accepted p place e m at = tale_finished t p e m.0
  tale_reader (Do t op) (Refused r) p place e m at = tale_failed t p r place e (may_fail_do w t op p r m) at (is_failure r) refl
  tale_reader (Precommit t) (Refused r) p place e m at = tale_failed t p r place e (may_fail_precommit w t p r m) at (is_failure r) refl
  tale_reader (Validate t) (Refused r) p place e m at = tale_failed t p r place e (may_fail_validate w t p r m) at (is_failure r) refl
  tale_reader (Settle t) (Refused r) p place e m at = tale_failed t p r place e (may_fail_settle w t p r m) at (is_failure r) refl
  tale_reader (Rollback t) (Refused r) p place e m at = record { others = h.others; readers = h.readers }
  tale_reader (Finish t) (Refused r) p place e m at = record { others = h.others; readers = h.readers }

pub reader_calls_keep : ReaderCallsKeepTale
reader_calls_keep opening steps own w c r p place slots kept e m rising at h =
    subst (λ (o : Option ReaderStage). HasWholeTale (record { core = after_run w.core (core_at_stage w.core c r o); readers = readers_at_stage w.core c r o w.readers; committed_readers = committed_at_stage w.core c r o w.committed_readers }) (places_after_reader w.core c r place slots)) (sym e)
    (tale_reader opening steps own w slots kept rising h c r p place e m at)

-- ---- what is grouped up to a place
module _ (opening : Map) (steps own : List Step) (w : WholeState) (slots : List TalePlace) (from mark : ℕ) (kept : IsWholeKept opening steps own w) (h : AreGroupedTo slots from mark) where
  grouped_aborted : (t : ℕ) (p : ReaderStage) (place : ℕ) → core_phase p ≡ IsActive → (has_ended p ≡ false → reading_begin_at slots place ≡ Some t) → AreGroupedTo (emptied_at place slots) from mark
  grouped_aborted t p place a at = grouped_reading_left slots from mark place (ap is_some (at (unended p a))) h

  grouped_failed : (t : ℕ) (p : ReaderStage) (r : Refusal) (place : ℕ) → (is_failure r ≡ true → core_phase p ≡ IsActive) → (has_ended p ≡ false → reading_begin_at slots place ≡ Some t) → (b : Bool) → is_failure r ≡ b → AreGroupedTo (cond b (emptied_at place slots) slots) from mark
  grouped_failed t p r place f at true i = grouped_aborted t p place (f i) at
  grouped_failed t p r place f at false i = h

  grouped_settled_as : (t : ℕ) (p : ReaderStage) (place : ℕ) → stage_of t w.readers ≡ Some p → core_phase p ≡ IsActive → (has_ended p ≡ false → reading_begin_at slots place ≡ Some t) → (v : Option StampedTx) → AreGroupedTo (stored_unless w.core t place slots v) from mark
  grouped_settled_as t p place e a at (Some x) = h
  grouped_settled_as t p place e a at None =
      grouped_read slots from mark place (read_commit w.core t) (ap is_some (at (unended p a))) (never_due 0 1 (history_of_active t w.core.active) (told_nothing opening steps own w kept t p e a)) h

  grouped_reader : (c : Call) (r : Result) (p : ReaderStage) (place : ℕ) → stage_named w.readers (id_named c) ≡ Some p → MayComeAtStage w c (Some p) r → (has_ended p ≡ false → reading_begin_at slots place ≡ id_named c) → AreGroupedTo (places_after_reader w.core c r place slots) from mark
  grouped_reader Begin r p place e m at = absurd (no_stage p e)
  grouped_reader (Trim k) r p place e m at = absurd (no_stage p e)
  grouped_reader (Close fits g full) r p place e m at = absurd (no_stage p e)
  grouped_reader (Do t op) Accepted p place e m at = h
  grouped_reader (Precommit t) Accepted p place e m at = h
  grouped_reader (Validate t) Accepted p place e m at = h
  grouped_reader (Settle t) Accepted p place e m at = grouped_settled_as t p place e (may_settle w.core t p m.0).0 at (awaited_by_reader w.core t)
  grouped_reader (Rollback t) Accepted p place e m at = grouped_aborted t p place (rolled_active w.core t p (in_core opening steps own w t p e kept) m.0) at
  grouped_reader (Finish t) Accepted p place e m at = h
  grouped_reader (Do t op) (Refused r) p place e m at = grouped_failed t p r place (may_fail_do w t op p r m) at (is_failure r) refl
  grouped_reader (Precommit t) (Refused r) p place e m at = grouped_failed t p r place (may_fail_precommit w t p r m) at (is_failure r) refl
  grouped_reader (Validate t) (Refused r) p place e m at = grouped_failed t p r place (may_fail_validate w t p r m) at (is_failure r) refl
  grouped_reader (Settle t) (Refused r) p place e m at = grouped_failed t p r place (may_fail_settle w t p r m) at (is_failure r) refl
  grouped_reader (Rollback t) (Refused r) p place e m at = h
  grouped_reader (Finish t) (Refused r) p place e m at = h

pub reader_calls_grouped : ReaderCallsKeepGrouped
reader_calls_grouped opening steps own w c r p place from mark slots kept e m at h = grouped_reader opening steps own w slots from mark kept h c r p place e m at
