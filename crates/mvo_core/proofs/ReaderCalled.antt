-- A call of a read-only transaction: why it is refused, and what it leads to in the whole state.
use Rattle.std.proofs.Common.{◌≡◌, ◌∙◌, ℕ, Bool, true, false, not, cond, List, [], ◌∷◌, ◌++◌, Option, None, Some, refl, sym, ap, subst}
use Rattle.std.specs.Option.{option_map}
use Rattle.std.specs.List.{AllByRecursion}
use Rattle.std.proofs.lemmas.Bool.{false≢true, true≢false}
use Rattle.mvo_types.specs.declared.ids.TxId.{TxId}
use Rattle.mvo_types.specs.declared.refusal.Refusal.{Refusal}
use Rattle.mvo_types.specs.declared.refusal.Refusal.TheVariants.{Ended, NotActive, NotPreparing, NotValidated}
use Rattle.mvo_types.specs.Causes.{first_cause, or_next, when}
use Rattle.mvo_types.specs.Keys.{Map}
use Rattle.mvo_model.specs.Trace.{Step, Phase, phase_of}
use Rattle.mvo_model.specs.Trace.Step.{Aborts}
use Rattle.mvo_model.specs.Trace.Phase.{Active as ActivePhase, Aborted as AbortedPhase}
use Rattle.mvo_theory.specs.Causes.{flagged, is_failure}
use Rattle.mvo_theory.specs.Phases.{is_active, is_preparing, is_ended}
use Rattle.mvo_theory.specs.Steps.{after_abort}
use Rattle.mvo_theory.proofs.Each.{each_weaker}
use Rattle.mvo_theory.specs.Calls.{Call, Run, IsRefusal, trace_of, after_run}
use Rattle.mvo_theory.specs.Calls.Call.{Precommit, Validate, Settle}
use Rattle.mvo_theory.specs.Calls.Result.{Accepted, Refused}
use Rattle.mvo_readonly.specs.Whole.{ReaderStage, WholeState, stage_of, id_named, stage_named, phase_at_stage}
use Rattle.mvo_readonly.specs.Whole.ReaderStage.{Reading as IsReading, Preparing as IsPreparing, Committed as IsCommitted, Aborted as IsAborted}
use Rattle.mvo_readonly.specs.WholeCauses.{MayComeWhole, MayComeAtStage, flag_of_reader, unless_reading, unless_prepared, why_not_reader, is_valid_stage}
use Rattle.mvo_readonly.specs.WholeCauses.WholeCall.{CoreCall}
use Rattle.mvo_readonly.specs.WholeCalls.{rolled_back, core_failed, core_refused, core_at_stage, core_calls, with_stage, readers_failed, readers_refused, readers_at_stage, readers_after, committed_at_stage, committed_after}
use Rattle.mvo_readonly.specs.WholeKept.{core_phase, IsUnfinishedReader}
use Rattle.mvo_readonly.proofs.ReaderCalls.{in_core}
use Rattle.mvo_readonly.proofs.Stages.{core_stands, may_prepare, may_fail_precommit, may_fail_validate, may_fail_settle}
use Rattle.mvo_readonly.proofs.WholeRuns.{whole_after_call}
use Rattle.mvo_txn.specs.declared.state.TxState.{TxState}
use Rattle.mvo_txn.specs.declared.state.TxState.TheVariants.{Active, Preparing, Committed, Aborted}
use Rattle.mvo_txn.specs.Txns.{Txns, state_of}
use Rattle.mvo_deps.specs.declared.node.Node.{Node}
use Rattle.mvo_tale.specs.Slots.{reading_begin_at}
use Rattle.mvo_tale.specs.WholePlaces.{has_ended, HasReaders}
use Rattle.mvo_tale.proofs.WholePlaces.{whole_staged}
use Rattle.mvo_representation.specs.Table.{phase_as}
use Rattle.mvo_core.specs.declared.kept_transaction.KeptTransaction.{KeptTransaction}
use Rattle.mvo_core.specs.Aborting.{IsReaderGivenUp}
use Rattle.mvo_core.specs.Causes.{kind_kept, flag_of, unless_active_as, unless_preparing_as, why_not_active, why_not_preparing}
use Rattle.mvo_core.specs.Data.{CoreData, own_of}
use Rattle.mvo_core.specs.Keeping.{IsWritten, HasStartedChecks}
use Rattle.mvo_core.specs.Readers.{kind_at, HaveStages}
use Rattle.mvo_core.specs.Standing.{StandsAmong}
use Rattle.mvo_core.specs.WholeStanding.{readers_of, StandsWhole, LeadsWhole, HasSameWordList}
use Rattle.mvo_core.proofs.Carried.{some_own}
use Rattle.mvo_core.proofs.CausesTold.{flag_same, first_append, stands_active}
use Rattle.mvo_core.proofs.Laws.{flag_of_active_told}
use Rattle.mvo_core.proofs.OwnChanged.{IsOwnChanged, own_changed}
use Rattle.mvo_core.proofs.ReaderAborted.{reader_kept, reader_apart}
use Rattle.mvo_core.proofs.ReaderOwn.{IsOwnOfReader, stages_moved}
use Rattle.mvo_core.proofs.ReadersMoved.{reader_goes_on}

-- ---- where it stands for the table
abbrev pub core_state : ReaderStage → TxState
core_state IsReading = Active
core_state (IsPreparing n v) = Active
core_state IsCommitted = Aborted
core_state IsAborted = Aborted

abbrev is_fallen : Phase → Bool
is_fallen AbortedPhase = true
is_fallen f = false

stood : (o : Option TxState) → phase_as o ≡ ActivePhase → o ≡ Some Active
stood None e = absurd (false≢true (ap is_active e))
stood (Some Active) e = refl
stood (Some (Preparing d)) e = absurd (false≢true (ap is_active e))
stood (Some (Committed d)) e = absurd (false≢true (ap is_active e))
stood (Some Aborted) e = absurd (false≢true (ap is_active e))

fell : (o : Option TxState) → phase_as o ≡ AbortedPhase → o ≡ Some Aborted
fell None e = absurd (false≢true (ap is_fallen e))
fell (Some Active) e = absurd (false≢true (ap is_fallen e))
fell (Some (Preparing d)) e = absurd (false≢true (ap is_fallen e))
fell (Some (Committed d)) e = absurd (false≢true (ap is_fallen e))
fell (Some Aborted) e = refl

stands_at : (p : ReaderStage) (o : Option TxState) → phase_as o ≡ core_phase p → o ≡ Some (core_state p)
stands_at IsReading o e = stood o e
stands_at (IsPreparing n v) o e = stood o e
stands_at IsCommitted o e = fell o e
stands_at IsAborted o e = fell o e

pub going_on : (p : ReaderStage) → core_phase p ≡ ActivePhase → has_ended p ≡ false
going_on IsReading e = refl
going_on (IsPreparing n v) e = refl
going_on IsCommitted e = absurd (true≢false (ap is_fallen e))
going_on IsAborted e = absurd (true≢false (ap is_fallen e))

-- ---- its causes
active_causes : (t : ℕ) (p : ReaderStage) (flag : Option TxId) (f : Option ℕ) → (core_phase p ≡ ActivePhase → option_map (λ by. by.0) flag ≡ f)
    → unless_active_as (Some (core_state p)) (kind_at p) flag ≡ first_cause (when (is_ended (phase_at_stage t p)) Ended ∷ when (is_preparing (phase_at_stage t p)) NotActive ∷ flagged f ∷ [])
active_causes t IsReading flag f h = flag_same flag ∙ ap (λ g. or_next (flagged g) None) (h refl)
active_causes t (IsPreparing n v) flag f h = refl
active_causes t IsCommitted flag f h = refl
active_causes t IsAborted flag f h = refl

prepared_causes : (t : ℕ) (p : ReaderStage) (flag : Option TxId) (f : Option ℕ) → (core_phase p ≡ ActivePhase → option_map (λ by. by.0) flag ≡ f)
    → unless_preparing_as (Some (core_state p)) (kind_at p) flag ≡ first_cause (when (is_ended (phase_at_stage t p)) Ended ∷ when (is_active (phase_at_stage t p)) NotPreparing ∷ flagged f ∷ [])
prepared_causes t IsReading flag f h = refl
prepared_causes t (IsPreparing n v) flag f h = flag_same flag ∙ ap (λ g. or_next (flagged g) None) (h refl)
prepared_causes t IsCommitted flag f h = refl
prepared_causes t IsAborted flag f h = refl

module _ (opening : Map) (steps own : List Step) (w : WholeState) (c : CoreData) (h : StandsWhole opening steps own w c) (t : ℕ) (p : ReaderStage) (is : stage_of t w.readers ≡ Some p) where
  phase_is : phase_as (state_of c.table t) ≡ core_phase p
  phase_is = h.core.dependencies.stands.phases t ∙ in_core opening steps own w t p is h.kept

  pub state_is : state_of c.table t ≡ Some (core_state p)
  state_is = stands_at p (state_of c.table t) phase_is

  pub kept_is : IsOwnOfReader c.tale t (own_of c.table t) p
  kept_is = reader_kept (readers_of w) opening own w.core c h.core t p is

  kind_is : kind_kept (own_of c.table t) ≡ kind_at p
  kind_is = ap kind_kept kept_is.kept ∙ kept_is.kind

  flag_is : core_phase p ≡ ActivePhase → option_map (λ by. by.0) (flag_of c.table t) ≡ flag_of_reader w.core t
  flag_is e = flag_of_active_told w.core c.table t h.core.dependencies (stood (state_of c.table t) (phase_is ∙ e))

  pub not_active : why_not_active c.table t ≡ first_cause (unless_reading w.core t p)
  not_active = (λ i. unless_active_as (state_is i) (kind_is i) (flag_of c.table t)) ∙ active_causes t p (flag_of c.table t) (flag_of_reader w.core t) flag_is

  pub not_preparing : why_not_preparing c.table t ≡ first_cause (unless_prepared w.core t p)
  not_preparing = (λ i. unless_preparing_as (state_is i) (kind_is i) (flag_of c.table t)) ∙ prepared_causes t p (flag_of c.table t) (flag_of_reader w.core t) flag_is

  -- none that has its id has ended
  going : core_phase p ≡ ActivePhase → AllByRecursion (λ r. r.id ≡ t → has_ended r.stage ≡ false) w.readers
  going e = each_weaker (IsUnfinishedReader steps own w.core) (λ r. r.id ≡ t → has_ended r.stage ≡ false)
      (λ r q i. going_on r.stage (sym q.stands ∙ ap (λ (n : ℕ). phase_of n own) i ∙ (core_stands steps own w.core t w.readers p is h.kept.readers).0 ∙ e)) w.readers h.kept.readers

  -- its place stays as its checks begin, and as its entries are counted
  pub staged : core_phase p ≡ ActivePhase → (n : ℕ) (v : Bool) → HasReaders w.core.start (with_stage t (IsPreparing n v) w.readers) w.committed_readers c.tale
  staged e n v = (whole_staged w t n v c.tale (going e) (record { others = h.core.tale; readers = h.core.places.readers })).readers

  -- ---- it is refused
  given_up_stands : (r : Refusal) (new : CoreData) → IsReaderGivenUp c t r new → (is_failure r ≡ true → core_phase p ≡ ActivePhase)
      → StandsAmong (record { unfinished = readers_failed t r w.readers; committed = w.committed_readers }) opening (own ++ trace_of w.core (core_failed t r)) (after_run w.core (core_failed t r)) new
  given_up_stands r new left active = go (is_failure r) (left (readers_of w) opening own w.core p is (λ e. going_on p (active e)) h.core)
    where
      go : (b : Bool) → StandsAmong (record { unfinished = cond b (with_stage t IsAborted w.readers) w.readers; committed = w.committed_readers }) opening (own ++ cond b (Aborts t ∷ []) []) (cond b (after_abort w.core t) w.core) new
          → StandsAmong (record { unfinished = cond b (with_stage t IsAborted w.readers) w.readers; committed = w.committed_readers }) opening (own ++ trace_of w.core (cond b (rolled_back t) [])) (after_run w.core (cond b (rolled_back t) [])) new
      go true k = k
      go false k = k

  given_up : (call : Call) (r : Refusal) (new : CoreData) → stage_named w.readers (id_named call) ≡ Some p → core_refused call r ≡ core_failed t r → readers_refused call r w.readers ≡ readers_failed t r w.readers
      → MayComeAtStage w call (Some p) (Refused r) → (is_failure r ≡ true → core_phase p ≡ ActivePhase) → IsReaderGivenUp c t r new → LeadsWhole opening steps own w (CoreCall call) (Refused r) new
  given_up call r new named core readers m active left =
      let may : MayComeWhole w (CoreCall call) (Refused r) = subst (λ o. MayComeAtStage w call o (Refused r)) (sym named) m in
      record {
        may = may;
        stands = record {
          core = subst (λ (o : Option ReaderStage). StandsAmong (record { unfinished = readers_at_stage w.core call (Refused r) o w.readers; committed = committed_at_stage w.core call (Refused r) o w.committed_readers }) opening
              (own ++ trace_of w.core (core_at_stage w.core call (Refused r) o)) (after_run w.core (core_at_stage w.core call (Refused r) o)) new) (sym named)
              (subst (λ (xs : Run). StandsAmong (record { unfinished = readers_refused call r w.readers; committed = w.committed_readers }) opening (own ++ trace_of w.core xs) (after_run w.core xs) new) (sym core)
              (subst (λ us. StandsAmong (record { unfinished = us; committed = w.committed_readers }) opening (own ++ trace_of w.core (core_failed t r)) (after_run w.core (core_failed t r)) new) (sym readers)
              (given_up_stands r new left active)));
          kept = whole_after_call opening steps own w (CoreCall call) (Refused r) may h.kept;
        };
      }

  pub reader_precommit_refused : (r : Refusal) (new : CoreData) → why_not_active c.table t ≡ Some r → IsReaderGivenUp c t r new → LeadsWhole opening steps own w (CoreCall (Precommit t)) (Refused r) new
  reader_precommit_refused r new why left =
      let m : MayComeAtStage w (Precommit t) (Some p) (Refused r) = subst (λ o. IsRefusal false o r) (sym (sym not_active ∙ why)) refl in
      given_up (Precommit t) r new is refl refl m (may_fail_precommit w t p r m) left

  pub reader_validate_refused : (r : Refusal) (new : CoreData) → why_not_preparing c.table t ≡ Some r → IsReaderGivenUp c t r new → LeadsWhole opening steps own w (CoreCall (Validate t)) (Refused r) new
  reader_validate_refused r new why left =
      let m : MayComeAtStage w (Validate t) (Some p) (Refused r) = subst (λ o. IsRefusal false o r) (sym (sym not_preparing ∙ why)) refl in
      given_up (Validate t) r new is refl refl m (may_fail_validate w t p r m) left

  pub reader_settle_refused : (r : Refusal) (new : CoreData) → why_not_preparing c.table t ≡ Some r → IsReaderGivenUp c t r new → LeadsWhole opening steps own w (CoreCall (Settle t)) (Refused r) new
  reader_settle_refused r new why left =
      let rest : List (Option Refusal) = when (not (is_valid_stage p)) NotValidated ∷ [] in
      let first : why_not_reader w.core p (Settle t) ≡ Some r = first_append (unless_prepared w.core t p) rest ∙ ap (λ a. or_next a (first_cause rest)) (sym not_preparing ∙ why) in
      let m : MayComeAtStage w (Settle t) (Some p) (Refused r) = subst (λ o. IsRefusal false o r) (sym first) refl in
      given_up (Settle t) r new is refl refl m (may_fail_settle w t p r m) left

  -- ---- it prepares
  module _ (table : Txns (Node KeptTransaction)) (written : IsWritten c.table table t HasStartedChecks) (none : why_not_active c.table t ≡ None) where
    change : IsOwnChanged c.table table t HasStartedChecks
    change = own_changed c.table table t HasStartedChecks written

    same_work : IsWritten c.table table t HasSameWordList
    same_work = record {
      before = written.before;
      after = written.after;
      was = written.was;
      is = written.is;
      changed = record { words = ap (λ x. x.words) written.changed.writes };
    }

    free : why_not_reader w.core p (Precommit t) ≡ None
    free = sym not_active ∙ none

    may : MayComeAtStage w (Precommit t) (Some p) Accepted
    may = (free, tt)

    nothing : core_calls w (CoreCall (Precommit t)) Accepted ≡ []
    nothing = ap (core_at_stage w.core (Precommit t) Accepted) is

    readers : HasReaders w.core.start (readers_after w (CoreCall (Precommit t)) Accepted) (committed_after w (CoreCall (Precommit t)) Accepted) c.tale
    readers = subst (λ (o : Option ReaderStage). HasReaders w.core.start (readers_at_stage w.core (Precommit t) Accepted o w.readers) (committed_at_stage w.core (Precommit t) Accepted o w.committed_readers) c.tale) (sym is)
        (staged (may_prepare w.core t p free) 0 false)

    own_is : change.before ≡ kept_is.own
    own_is = some_own change.before kept_is.own (sym change.was ∙ kept_is.kept)

    here : IsOwnOfReader c.tale t (own_of table t) (IsPreparing 0 false)
    here = record {
      own = change.after;
      kept = change.is;
      kind = change.changed.kind;
      checked = (λ e. change.changed.checked, change.changed.valid);
      place = λ e. ap (λ (n : ℕ). reading_begin_at c.tale n) (change.changed.place ∙ ap (λ (o : KeptTransaction). o.place) own_is) ∙ kept_is.place (going_on p (may_prepare w.core t p free));
    }

    stages : HaveStages (readers_after w (CoreCall (Precommit t)) Accepted) table c.tale
    stages = subst (λ (o : Option ReaderStage). HaveStages (readers_at_stage w.core (Precommit t) Accepted o w.readers) table c.tale) (sym is)
        (stages_moved w.readers c.table table c.tale c.tale t p (IsPreparing 0 false) is change.beside (λ u n ne k. k) here h.core.stages)

    pub reader_precommits : LeadsWhole opening steps own w (CoreCall (Precommit t)) Accepted (record c { table = table })
    reader_precommits = reader_goes_on opening steps own w c (Precommit t) Accepted t table h nothing (subst (λ o. MayComeAtStage w (Precommit t) o Accepted) (sym is) may)
        (reader_apart (readers_of w) opening own w.core c h.core t p is (stands_active c.table t none)) same_work readers stages
