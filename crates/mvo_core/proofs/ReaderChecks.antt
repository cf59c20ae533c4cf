-- A check of a read-only transaction: one more of its entries is counted, or nothing changes.
use Rattle.std.proofs.Common.{◌≡◌, ◌∙◌, ℕ, ◌+◌, Bool, true, false, cond, List, [], length, Option, None, Some, refl, sym, ap, subst}
use Rattle.std.specs.Prelude.{nat_le}
use Rattle.mvo_types.specs.declared.refusal.Refusal.{Refusal}
use Rattle.mvo_types.specs.Keys.{Map}
use Rattle.mvo_model.specs.Trace.{Step}
use Rattle.mvo_theory.specs.Entries.{entries}
use Rattle.mvo_theory.specs.State.{history_of_active}
use Rattle.mvo_theory.specs.Calls.{Call, Result}
use Rattle.mvo_theory.specs.Calls.Call.{Validate}
use Rattle.mvo_theory.specs.Calls.Result.{Accepted}
use Rattle.mvo_readonly.specs.Whole.{ReaderStage, UnfinishedReader, CommittedReader, WholeState, stage_of}
use Rattle.mvo_readonly.specs.Whole.ReaderStage.{Preparing as IsPreparing}
use Rattle.mvo_readonly.specs.WholeCauses.{MayComeWhole, MayComeAtStage, is_valid_stage}
use Rattle.mvo_readonly.specs.WholeCauses.WholeCall.{CoreCall}
use Rattle.mvo_readonly.specs.WholeCalls.{checked_more, with_stage, core_at_stage, core_calls, readers_at_stage, readers_after, committed_at_stage, committed_after, after_whole_call}
use Rattle.mvo_readonly.proofs.WholeRuns.{whole_after_call}
use Rattle.mvo_txn.specs.declared.state.TxState.TheVariants.{Active}
use Rattle.mvo_txn.specs.Txns.{Txns, state_of}
use Rattle.mvo_deps.specs.declared.node.Node.{Node}
use Rattle.mvo_tale.specs.Slots.{reading_begin_at}
use Rattle.mvo_tale.specs.WholePlaces.{HasReaders}
use Rattle.mvo_core.specs.declared.answers.Validation.TheVariants as validation
use Rattle.mvo_core.specs.declared.kept_transaction.KeptTransaction.{KeptTransaction}
use Rattle.mvo_core.specs.Causes.{why_not_preparing, is_read_only_kind}
use Rattle.mvo_core.specs.Checking.{entries_to_check}
use Rattle.mvo_core.specs.Data.{CoreData, own_of}
use Rattle.mvo_core.specs.Keeping.{IsWritten, IsCounted}
use Rattle.mvo_core.specs.Own.{done_in, is_own_valid, is_last_check, checked_as, own_check}
use Rattle.mvo_core.specs.Readers.{HaveStages}
use Rattle.mvo_core.specs.Standing.{StandsAmong}
use Rattle.mvo_core.specs.WholeStanding.{readers_of, StandsWhole, LeadsWhole, HasSameWordList}
use Rattle.mvo_core.proofs.Carried.{some_own}
use Rattle.mvo_core.proofs.CausesTold.{done_of_active}
use Rattle.mvo_core.proofs.OwnChanged.{IsOwnChanged, own_changed}
use Rattle.mvo_core.proofs.ReaderAborted.{reader_kept, reader_apart}
use Rattle.mvo_core.proofs.ReaderCalled.{state_is, not_preparing, staged}
use Rattle.mvo_core.proofs.ReaderOwn.{IsOwnOfReader, stages_moved}
use Rattle.mvo_core.proofs.ReadersMoved.{nothing_called, reader_goes_on}

pub refused_some : (r : Refusal) → ◌≡◌ {A = Option Refusal} (Some r) None → ⊥
refused_some r e = cc

module _ (opening : Map) (steps own : List Step) (w : WholeState) (c : CoreData) (h : StandsWhole opening steps own w c) where
  -- ---- nothing is written: the call is none of the core's
  stands_among : (us : List UnfinishedReader) (ys : List CommittedReader) → HasReaders w.core.start us ys c.tale → HaveStages us c.table c.tale → StandsAmong (record { unfinished = us; committed = ys }) opening own w.core c
  stands_among us ys readers stages = record {
    kept = h.core.kept;
    versions = h.core.versions;
    dependencies = h.core.dependencies;
    order = h.core.order;
    works = h.core.works;
    words = h.core.words;
    tale = h.core.tale;
    places = record { drawn = h.core.places.drawn; readers = readers };
    stages = stages;
    marks = h.core.marks;
    grouped = h.core.grouped;
    start = h.core.start;
    over = h.core.over;
    beside = h.core.beside;
  }

  pub reader_stays : (call : Call) (r : Result) → core_calls w (CoreCall call) r ≡ [] → MayComeWhole w (CoreCall call) r → HasReaders w.core.start (readers_after w (CoreCall call) r) (committed_after w (CoreCall call) r) c.tale
      → HaveStages (readers_after w (CoreCall call) r) c.table c.tale → LeadsWhole opening steps own w (CoreCall call) r c
  reader_stays call r none may readers stages = record {
    may = may;
    stands = record {
      core = nothing_called (readers_of (after_whole_call w (CoreCall call) r)) opening own w.core (core_calls w (CoreCall call) r) c none
          (stands_among (readers_after w (CoreCall call) r) (committed_after w (CoreCall call) r) readers stages);
      kept = whole_after_call opening steps own w (CoreCall call) r may h.kept;
    };
  }

  -- ---- it is Preparing
  module _ (t n : ℕ) (v : Bool) (is : stage_of t w.readers ≡ Some (IsPreparing n v)) where
    here : IsOwnOfReader c.tale t (own_of c.table t) (IsPreparing n v)
    here = reader_kept (readers_of w) opening own w.core c h.core t (IsPreparing n v) is

    active : state_of c.table t ≡ Some Active
    active = state_is opening steps own w c h t (IsPreparing n v) is

    valid_is : is_own_valid (own_of c.table t) ≡ v
    valid_is = ap is_own_valid here.kept ∙ here.checked.1

    nothing : core_calls w (CoreCall (Validate t)) Accepted ≡ []
    nothing = ap (core_at_stage w.core (Validate t) Accepted) is

    committed_are : committed_after w (CoreCall (Validate t)) Accepted ≡ w.committed_readers
    committed_are = ap (λ o. committed_at_stage w.core (Validate t) Accepted o w.committed_readers) is

    readers_are : (q : ReaderStage) → checked_more w.core t (IsPreparing n v) ≡ q → readers_after w (CoreCall (Validate t)) Accepted ≡ with_stage t q w.readers
    readers_are q e = ap (λ o. readers_at_stage w.core (Validate t) Accepted o w.readers) is ∙ ap (λ (p : ReaderStage). with_stage t p w.readers) e

    has_readers : (m : ℕ) (u : Bool) → checked_more w.core t (IsPreparing n v) ≡ IsPreparing m u → HasReaders w.core.start (readers_after w (CoreCall (Validate t)) Accepted) (committed_after w (CoreCall (Validate t)) Accepted) c.tale
    has_readers m u e =
        subst (λ us. HasReaders w.core.start us (committed_after w (CoreCall (Validate t)) Accepted) c.tale) (sym (readers_are (IsPreparing m u) e))
        (subst (λ ys. HasReaders w.core.start (with_stage t (IsPreparing m u) w.readers) ys c.tale) (sym committed_are) (staged opening steps own w c h t (IsPreparing n v) is refl m u))

    module _ (none : why_not_preparing c.table t ≡ None) where
      may : MayComeWhole w (CoreCall (Validate t)) Accepted
      may = subst (λ o. MayComeAtStage w (Validate t) o Accepted) (sym is) (sym (not_preparing opening steps own w c h t (IsPreparing n v) is) ∙ none, tt)

      -- all of its entries are checked
      valid_stage : is_own_valid (own_of c.table t) ≡ true → checked_more w.core t (IsPreparing n v) ≡ IsPreparing n v
      valid_stage valid = ap (λ (b : Bool). cond b (IsPreparing n v) (IsPreparing (n + 1) (nat_le (length (entries (history_of_active t w.core.active))) (n + 1)))) (sym valid_is ∙ valid)

      pub valid_stays : is_own_valid (own_of c.table t) ≡ true → LeadsWhole opening steps own w (CoreCall (Validate t)) Accepted c
      valid_stays valid = reader_stays (Validate t) Accepted nothing may (has_readers n v (valid_stage valid))
          (subst (λ us. HaveStages us c.table c.tale) (sym (readers_are (IsPreparing n v) (valid_stage valid)))
          (stages_moved w.readers c.table c.table c.tale c.tale t (IsPreparing n v) (IsPreparing n v) is (λ u ne. refl) (λ u m ne k. k) here h.core.stages))

      pub stays_valid : is_own_valid (own_of c.table t) ≡ true → is_valid_stage (checked_more w.core t (IsPreparing n v)) ≡ true
      stays_valid valid = ap is_valid_stage (valid_stage valid) ∙ sym valid_is ∙ valid

      -- one more is
      module _ (unvalid : is_own_valid (own_of c.table t) ≡ false) where
        abbrev last : Bool
        last = nat_le (length (entries (history_of_active t w.core.active))) (n + 1)

        counted_stage : checked_more w.core t (IsPreparing n v) ≡ IsPreparing (n + 1) last
        counted_stage = ap (λ (b : Bool). cond b (IsPreparing n v) (IsPreparing (n + 1) last)) (sym valid_is ∙ unvalid)

        -- its entries are those of its work
        abbrev count : ℕ
        count = entries_to_check (done_in c.works t) (own_of c.table t)

        count_is : count ≡ length (entries (history_of_active t w.core.active))
        count_is =
            ap (entries_to_check (done_in c.works t)) here.kept
            ∙ ap (λ k. length (entries (cond (is_read_only_kind k) (done_in c.works t) here.own.taken.history))) here.kind
            ∙ ap (λ ts. length (entries ts)) (done_of_active (readers_of w) opening own w.core c h.core t active)

        last_is : (o : KeptTransaction) → own_of c.table t ≡ Some o → is_last_check count o ≡ last
        last_is o k =
            ap (λ (m : ℕ). nat_le m (o.checked + 1)) count_is
            ∙ ap (λ (m : ℕ). nat_le (length (entries (history_of_active t w.core.active))) (m + 1)) (ap (λ (x : KeptTransaction). x.checked) (some_own o here.own (sym k ∙ here.kept)) ∙ here.checked.0 (sym valid_is ∙ unvalid))

        pub reader_counts_as : own_check count (own_of c.table t) ≡ cond (is_valid_stage (checked_more w.core t (IsPreparing n v))) validation.Valid validation.More
        reader_counts_as = ap (own_check count) here.kept ∙ ap checked_as (last_is here.own here.kept) ∙ sym (ap (λ q. cond (is_valid_stage q) validation.Valid validation.More) counted_stage)

        module _ (table : Txns (Node KeptTransaction)) (written : IsWritten c.table table t (IsCounted count)) where
          change : IsOwnChanged c.table table t (IsCounted count)
          change = own_changed c.table table t (IsCounted count) written

          before_is : change.before ≡ here.own
          before_is = some_own change.before here.own (sym change.was ∙ here.kept)

          same_work : IsWritten c.table table t HasSameWordList
          same_work = record {
            before = written.before;
            after = written.after;
            was = written.was;
            is = written.is;
            changed = record { words = ap (λ x. x.words) written.changed.writes };
          }

          moved : IsOwnOfReader c.tale t (own_of table t) (IsPreparing (n + 1) last)
          moved = record {
            own = change.after;
            kept = change.is;
            kind = change.changed.kind ∙ ap (λ (x : KeptTransaction). x.kind) before_is ∙ here.kind;
            checked = (
              λ e. change.changed.checked
                  ∙ ap (λ (b : Bool). cond b change.before.checked (change.before.checked + 1)) (last_is change.before change.was ∙ e)
                  ∙ ap (λ (x : KeptTransaction). x.checked + 1) before_is
                  ∙ ap (λ (m : ℕ). m + 1) (here.checked.0 (sym valid_is ∙ unvalid)),
              change.changed.valid ∙ last_is change.before change.was,
            );
            place = λ e. ap (λ (m : ℕ). reading_begin_at c.tale m) (change.changed.place ∙ ap (λ (x : KeptTransaction). x.place) before_is) ∙ here.place refl;
          }

          pub reader_counted : LeadsWhole opening steps own w (CoreCall (Validate t)) Accepted (record c { table = table })
          reader_counted = reader_goes_on opening steps own w c (Validate t) Accepted t table h nothing may (reader_apart (readers_of w) opening own w.core c h.core t (IsPreparing n v) is active) same_work
              (has_readers (n + 1) last counted_stage)
              (subst (λ us. HaveStages us table c.tale) (sym (readers_are (IsPreparing (n + 1) last) counted_stage))
              (stages_moved w.readers c.table table c.tale c.tale t (IsPreparing n v) (IsPreparing (n + 1) last) is change.beside (λ u m ne k. k) moved h.core.stages))
