-- An operation of a transaction, a read-only one or another: what the core stands for then.
use Rattle.std.proofs.Common.{◌≡◌, ◌∙◌, ℕ, Bool, true, false, cond, List, [], ◌∷◌, ◌++◌, append-nil, Option, None, Some, refl, sym, ap, subst}
use Rattle.std.specs.Prelude.{nat_lt, length}
use Rattle.std.specs.Option.{option_map}
use Rattle.std.proofs.lemmas.Bool.{false≢true}
use Rattle.mvo_types.specs.declared.limits.TheConstants.{MAX_TABLE, MAX_DATA_LEN}
use Rattle.mvo_types.specs.declared.ids.TxId.{TxId}
use Rattle.mvo_types.specs.declared.entry.Entry.{Entry}
use Rattle.mvo_types.specs.declared.entry.Entry.TheVariants.{Key}
use Rattle.mvo_types.specs.declared.op.Op.{Op}
use Rattle.mvo_types.specs.declared.row.RowKey.{RowKey}
use Rattle.mvo_types.specs.declared.refusal.Refusal.{Refusal}
use Rattle.mvo_types.specs.declared.refusal.Refusal.TheVariants.{Ended, NotActive, BadTable, DataTooLong, TooManyReads, TooManyWrites, ReadOnly, OutOfMemory}
use Rattle.mvo_types.specs.Causes.{first_cause, or_next, when}
use Rattle.mvo_types.specs.RowData.{RowData}
use Rattle.mvo_types.specs.Keys.{Map}
use Rattle.mvo_model.specs.History.{History}
use Rattle.mvo_model.specs.Trace.{Step, Phase}
use Rattle.mvo_model.specs.Trace.Step.{Aborts}
use Rattle.mvo_model.specs.Trace.Phase.{Active as ActivePhase, Aborted as AbortedPhase}
use Rattle.mvo_theory.specs.State.{history_of_active}
use Rattle.mvo_theory.specs.Causes.{flagged, is_failure, is_entry_too_many, is_write_too_many}
use Rattle.mvo_theory.specs.Phases.{is_active, is_preparing, is_ended}
use Rattle.mvo_theory.specs.Steps.{after_abort}
use Rattle.mvo_theory.specs.Calls.{IsRefusal, steps_of, after_call, trace_of, after_run}
use Rattle.mvo_theory.specs.Calls.Call.{Do}
use Rattle.mvo_theory.specs.Calls.Result.{Accepted, Refused}
use Rattle.mvo_readonly.specs.Whole.{ReaderStage, WholeState, stage_of, phase_at_stage}
use Rattle.mvo_readonly.specs.Whole.ReaderStage.{Reading as IsReading, Preparing as IsPreparing, Committed as IsCommitted, Aborted as IsAborted}
use Rattle.mvo_readonly.specs.WholeCauses.{MayComeAtStage, flag_of_reader, unless_reading, unless_read_only, why_not_reader}
use Rattle.mvo_readonly.specs.WholeCauses.WholeCall.{CoreCall}
use Rattle.mvo_readonly.specs.WholeCalls.{rolled_back, core_failed, with_stage, readers_failed}
use Rattle.mvo_readonly.specs.WholeKept.{core_phase}
use Rattle.mvo_readonly.proofs.Stages.{may_fail_do}
use Rattle.mvo_txn.specs.declared.state.TxState.{TxState}
use Rattle.mvo_txn.specs.declared.state.TxState.TheVariants.{Active, Preparing, Committed, Aborted}
use Rattle.mvo_txn.specs.Txns.{Txns, state_of}
use Rattle.mvo_deps.specs.declared.node.Node.{Node}
use Rattle.mvo_tale.specs.WholePlaces.{has_ended}
use Rattle.mvo_representation.specs.Table.{phase_as}
use Rattle.mvo_core.specs.declared.kept_transaction.KeptTransaction.{KeptTransaction}
use Rattle.mvo_core.specs.Aborting.{IsReaderGivenUp}
use Rattle.mvo_core.specs.Causes.{kind_kept, flag_of, unless_active_as, why_not_active, why_not_look, why_not_put, why_not_remove, is_read_only}
use Rattle.mvo_core.specs.Own.{done_in}
use Rattle.mvo_core.specs.Data.{CoreData, own_of}
use Rattle.mvo_core.specs.Readers.{kind_at}
use Rattle.mvo_core.specs.Standing.{StandsAmong}
use Rattle.mvo_core.specs.Steps.{LeadsAmong}
use Rattle.mvo_core.specs.WholeStanding.{readers_of, StandsWhole, LeadsWhole}
use Rattle.mvo_core.proofs.Asked.{first_none, rest_none, when_none}
use Rattle.mvo_core.proofs.CausesTold.{MayLook, some_none, or_next_same, first_append, flag_same, entry_over_is}
use Rattle.mvo_core.proofs.Laws.{flag_of_active_told}
use Rattle.mvo_core.proofs.OthersLead.{others_lead}
use Rattle.mvo_core.proofs.ReaderAborted.{reader_kept, reader_is_read_only}
use Rattle.mvo_core.proofs.WholeLeads.{leads_at, phase_at}

-- ---- where it stands for the table
abbrev core_state : ReaderStage → TxState
core_state IsReading = Active
core_state (IsPreparing n v) = Active
core_state IsCommitted = Aborted
core_state IsAborted = Aborted

abbrev is_fallen : Phase → Bool
is_fallen AbortedPhase = true
is_fallen f = false

stood : (o : Option TxState) → phase_as o ≡ ActivePhase → o ≡ Some Active
stood None e = absurd (false≢true (ap is_active e))
stood (Some Active) e = refl
stood (Some (Preparing d)) e = absurd (false≢true (ap is_active e))
stood (Some (Committed d)) e = absurd (false≢true (ap is_active e))
stood (Some Aborted) e = absurd (false≢true (ap is_active e))

fell : (o : Option TxState) → phase_as o ≡ AbortedPhase → o ≡ Some Aborted
fell None e = absurd (false≢true (ap is_fallen e))
fell (Some Active) e = absurd (false≢true (ap is_fallen e))
fell (Some (Preparing d)) e = absurd (false≢true (ap is_fallen e))
fell (Some (Committed d)) e = absurd (false≢true (ap is_fallen e))
fell (Some Aborted) e = refl

stands_at : (p : ReaderStage) (o : Option TxState) → phase_as o ≡ core_phase p → o ≡ Some (core_state p)
stands_at IsReading o e = stood o e
stands_at (IsPreparing n v) o e = stood o e
stands_at IsCommitted o e = fell o e
stands_at IsAborted o e = fell o e

going_on : (p : ReaderStage) → core_phase p ≡ ActivePhase → has_ended p ≡ false
going_on IsReading e = refl
going_on (IsPreparing n v) e = refl
going_on IsCommitted e = absurd (false≢true (sym (ap is_fallen e)))
going_on IsAborted e = absurd (false≢true (sym (ap is_fallen e)))

causes_at : (t : ℕ) (p : ReaderStage) (flag : Option TxId) (f : Option ℕ) → (core_phase p ≡ ActivePhase → option_map (λ by. by.0) flag ≡ f)
    → unless_active_as (Some (core_state p)) (kind_at p) flag ≡ first_cause (when (is_ended (phase_at_stage t p)) Ended ∷ when (is_preparing (phase_at_stage t p)) NotActive ∷ flagged f ∷ [])
causes_at t IsReading flag f h = flag_same flag ∙ ap (λ g. or_next (flagged g) None) (h refl)
causes_at t (IsPreparing n v) flag f h = refl
causes_at t IsCommitted flag f h = refl
causes_at t IsAborted flag f h = refl

-- ---- one that isn't read-only, by what it may do
pub put_not_reading : (table : Txns (Node KeptTransaction)) (ts : History) (t : ℕ) (row : RowData) → why_not_put table ts t row ≡ None → is_read_only (own_of table t) ≡ false
put_not_reading table ts t row none = when_none (is_read_only (own_of table t)) ReadOnly (first_none (when (is_read_only (own_of table t)) ReadOnly) _ (rest_none (why_not_active table t) _ none))

pub remove_not_reading : (table : Txns (Node KeptTransaction)) (ts : History) (t : ℕ) (k : RowKey) → why_not_remove table ts t k ≡ None → is_read_only (own_of table t) ≡ false
remove_not_reading table ts t k none = when_none (is_read_only (own_of table t)) ReadOnly (first_none (when (is_read_only (own_of table t)) ReadOnly) _ (rest_none (why_not_active table t) _ none))

-- it may look, where nothing stands in the way
looks_if_none : (t : ℕ) (p : ReaderStage) (f : Option ℕ) → first_cause (when (is_ended (phase_at_stage t p)) Ended ∷ when (is_preparing (phase_at_stage t p)) NotActive ∷ flagged f ∷ []) ≡ None → MayLook (Some p)
looks_if_none t IsReading f e = tt
looks_if_none t (IsPreparing n v) f e = absurd (some_none NotActive e)
looks_if_none t IsCommitted f e = absurd (some_none Ended e)
looks_if_none t IsAborted f e = absurd (some_none Ended e)

module _ (opening : Map) (steps own : List Step) (w : WholeState) (c : CoreData) (h : StandsWhole opening steps own w c) (t : ℕ) where
  -- ---- a read-only one
  module _ (p : ReaderStage) (is : stage_of t w.readers ≡ Some p) where
    state_is : state_of c.table t ≡ Some (core_state p)
    state_is = stands_at p (state_of c.table t) (phase_at opening steps own w c h t p is)

    kind_is : kind_kept (own_of c.table t) ≡ kind_at p
    kind_is = let k = reader_kept (readers_of w) opening own w.core c h.core t p is in ap kind_kept k.kept ∙ k.kind

    flag_is : core_phase p ≡ ActivePhase → option_map (λ by. by.0) (flag_of c.table t) ≡ flag_of_reader w.core t
    flag_is e = flag_of_active_told w.core c.table t h.core.dependencies (stood (state_of c.table t) (phase_at opening steps own w c h t p is ∙ e))

    active_causes : why_not_active c.table t ≡ first_cause (unless_reading w.core t p)
    active_causes = (λ i. unless_active_as (state_is i) (kind_is i) (flag_of c.table t)) ∙ causes_at t p (flag_of c.table t) (flag_of_reader w.core t) flag_is

    reads : is_read_only (own_of c.table t) ≡ true
    reads = reader_is_read_only (readers_of w) opening own w.core c h.core t p is

    -- it is refused
    given_up_stands : (r : Refusal) (new : CoreData) → IsReaderGivenUp c t r new → (is_failure r ≡ true → core_phase p ≡ ActivePhase)
        → StandsAmong (record { unfinished = readers_failed t r w.readers; committed = w.committed_readers }) opening (own ++ trace_of w.core (core_failed t r)) (after_run w.core (core_failed t r)) new
    given_up_stands r new left active = go (is_failure r) (left (readers_of w) opening own w.core p is (λ e. going_on p (active e)) h.core)
      where
        go : (b : Bool) → StandsAmong (record { unfinished = cond b (with_stage t IsAborted w.readers) w.readers; committed = w.committed_readers }) opening (own ++ cond b (Aborts t ∷ []) []) (cond b (after_abort w.core t) w.core) new
            → StandsAmong (record { unfinished = cond b (with_stage t IsAborted w.readers) w.readers; committed = w.committed_readers }) opening (own ++ trace_of w.core (cond b (rolled_back t) [])) (after_run w.core (cond b (rolled_back t) [])) new
        go true k = k
        go false k = k

    reader_refused : (op : Op) (r : Refusal) (new : CoreData) → why_not_reader w.core p (Do t op) ≡ Some r → IsReaderGivenUp c t r new → LeadsWhole opening steps own w (CoreCall (Do t op)) (Refused r) new
    reader_refused op r new why left =
        let m : MayComeAtStage w (Do t op) (Some p) (Refused r) = subst (λ o. IsRefusal true o r) (sym why) refl in
        leads_at opening steps own w c h (Do t op) (Refused r) new (Some p) is m (given_up_stands r new left (may_fail_do w t op p r m))

    -- ---- it looks
    module _ (op : Op) (of : ℕ) (e : Entry) (list : unless_read_only w.core t op ≡ (when (nat_lt MAX_TABLE of) BadTable ∷ when (is_entry_too_many (history_of_active t w.core.active) e) TooManyReads ∷ [])) where
      look_causes : why_not_look c.table (done_in c.works t) t of e ≡ why_not_reader w.core p (Do t op)
      look_causes =
          let zs = when (nat_lt MAX_TABLE of) BadTable ∷ when (is_entry_too_many (done_in c.works t) e) TooManyReads ∷ [] in
          let ys = when (nat_lt MAX_TABLE of) BadTable ∷ when (is_entry_too_many (history_of_active t w.core.active) e) TooManyReads ∷ [] in
          or_next_same (why_not_active c.table t) (first_cause zs) (first_cause ys)
          (λ none. ap (λ (b : Bool). first_cause (when (nat_lt MAX_TABLE of) BadTable ∷ when b TooManyReads ∷ [])) (entry_over_is (readers_of w) opening own w.core c h.core t e none))
          ∙ ap (λ a. or_next a (first_cause ys)) active_causes
          ∙ sym (first_append (unless_reading w.core t p) ys)
          ∙ ap (λ l. first_cause (unless_reading w.core t p ++ l)) (sym list)

    looks_at_stage : (of : ℕ) (e : Entry) → why_not_look c.table (done_in c.works t) t of e ≡ None → MayLook (Some p)
    looks_at_stage of e none = looks_if_none t p (flag_of_reader w.core t) (sym active_causes ∙ first_none (why_not_active c.table t) _ none)

    -- ---- it would write
    write_causes : (op : Op) → unless_read_only w.core t op ≡ Some ReadOnly ∷ [] → (zs : List (Option Refusal)) → first_cause (why_not_active c.table t ∷ when (is_read_only (own_of c.table t)) ReadOnly ∷ zs) ≡ why_not_reader w.core p (Do t op)
    write_causes op list zs =
        ap (λ (b : Bool). first_cause (why_not_active c.table t ∷ when b ReadOnly ∷ zs)) reads
        ∙ ap (λ a. or_next a (Some ReadOnly)) active_causes
        ∙ sym (first_append (unless_reading w.core t p) (Some ReadOnly ∷ []))
        ∙ ap (λ l. first_cause (unless_reading w.core t p ++ l)) (sym list)

  -- ---- a look
  module _ (op : Op) (of : ℕ) (e : Entry) (list : unless_read_only w.core t op ≡ (when (nat_lt MAX_TABLE of) BadTable ∷ when (is_entry_too_many (history_of_active t w.core.active) e) TooManyReads ∷ [])) where
    pub look_refused : (r : Refusal) → why_not_look c.table (done_in c.works t) t of e ≡ Some r → (new : CoreData) → IsReaderGivenUp c t r new → (stage_of t w.readers ≡ None → LeadsAmong (readers_of w) opening own w.core (Do t op) (Refused r) new) → LeadsWhole opening steps own w (CoreCall (Do t op)) (Refused r) new
    look_refused r why new left leads = go (stage_of t w.readers) refl
      where
        go : (o : Option ReaderStage) → stage_of t w.readers ≡ o → LeadsWhole opening steps own w (CoreCall (Do t op)) (Refused r) new
        go None k = others_lead opening steps own w (Do t op) (Refused r) c new h k tt (leads k)
        go (Some p) k = reader_refused p k op r new (sym (look_causes p k op of e list) ∙ why) left

    module _ (none : why_not_look c.table (done_in c.works t) t of e ≡ None) where
      pub may_look_whole : MayLook (stage_of t w.readers)
      may_look_whole = go (stage_of t w.readers) refl
        where
          go : (o : Option ReaderStage) → stage_of t w.readers ≡ o → MayLook o
          go None k = tt
          go (Some p) k = looks_at_stage p k of e none

      pub look_leads : (new : CoreData) → LeadsAmong (readers_of w) opening own w.core (Do t op) Accepted new → LeadsWhole opening steps own w (CoreCall (Do t op)) Accepted new
      look_leads new l = go (stage_of t w.readers) refl
        where
          go : (o : Option ReaderStage) → stage_of t w.readers ≡ o → LeadsWhole opening steps own w (CoreCall (Do t op)) Accepted new
          go None k = others_lead opening steps own w (Do t op) Accepted c new h k tt l
          go (Some p) k = leads_at opening steps own w c h (Do t op) Accepted new (Some p) k (sym (look_causes p k op of e list) ∙ none, tt)
              (subst (λ ys. StandsAmong (readers_of w) opening (own ++ ys) (after_call w.core (Do t op) Accepted) new) (sym (append-nil (steps_of w.core (Do t op) Accepted))) l.stands)

      -- for want of memory
      pub look_spent : (new : CoreData) → LeadsAmong (readers_of w) opening own w.core (Do t op) (Refused OutOfMemory) new → LeadsWhole opening steps own w (CoreCall (Do t op)) (Refused OutOfMemory) new
      look_spent new l = go (stage_of t w.readers) refl
        where
          go : (o : Option ReaderStage) → stage_of t w.readers ≡ o → LeadsWhole opening steps own w (CoreCall (Do t op)) (Refused OutOfMemory) new
          go None k = others_lead opening steps own w (Do t op) (Refused OutOfMemory) c new h k tt l
          go (Some p) k = leads_at opening steps own w c h (Do t op) (Refused OutOfMemory) new (Some p) k (subst (λ o. IsRefusal true o OutOfMemory) (sym (sym (look_causes p k op of e list) ∙ none)) refl) l.stands

  -- ---- a write: that of a read-only one is refused
  module _ (op : Op) (list : unless_read_only w.core t op ≡ Some ReadOnly ∷ []) (r : Refusal) (new : CoreData) (left : IsReaderGivenUp c t r new) (leads : stage_of t w.readers ≡ None → LeadsAmong (readers_of w) opening own w.core (Do t op) (Refused r) new) where
    write_refused : (zs : List (Option Refusal)) → first_cause (why_not_active c.table t ∷ when (is_read_only (own_of c.table t)) ReadOnly ∷ zs) ≡ Some r → LeadsWhole opening steps own w (CoreCall (Do t op)) (Refused r) new
    write_refused zs why = go (stage_of t w.readers) refl
      where
        go : (o : Option ReaderStage) → stage_of t w.readers ≡ o → LeadsWhole opening steps own w (CoreCall (Do t op)) (Refused r) new
        go None k = others_lead opening steps own w (Do t op) (Refused r) c new h k tt (leads k)
        go (Some p) k = reader_refused p k op r new (sym (write_causes p k op list zs) ∙ why) left

    pub put_refused_whole : (row : RowData) → why_not_put c.table (done_in c.works t) t row ≡ Some r → LeadsWhole opening steps own w (CoreCall (Do t op)) (Refused r) new
    put_refused_whole row why = write_refused (when (nat_lt MAX_TABLE row.key.table) BadTable ∷ when (nat_lt MAX_DATA_LEN (length row.bytes)) DataTooLong ∷ when (is_entry_too_many (done_in c.works t) (Key row.key)) TooManyReads ∷ when (is_write_too_many (done_in c.works t) row.key) TooManyWrites ∷ []) why

    pub remove_refused_whole : (k : RowKey) → why_not_remove c.table (done_in c.works t) t k ≡ Some r → LeadsWhole opening steps own w (CoreCall (Do t op)) (Refused r) new
    remove_refused_whole k why = write_refused (when (nat_lt MAX_TABLE k.table) BadTable ∷ when (is_entry_too_many (done_in c.works t) (Key k)) TooManyReads ∷ when (is_write_too_many (done_in c.works t) k) TooManyWrites ∷ []) why
