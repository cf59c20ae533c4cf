-- A settlement leads the whole state on, whether the transaction is read-only or another.
use Rattle.std.proofs.Common.{◌≡◌, ◌∙◌, ℕ, Bool, true, false, not, List, [], ◌∷◌, length, Option, None, Some, refl, sym, ap, subst, arith}
use Rattle.std.specs.Prelude.{◌==◌, slice_set, IsSome}
use Rattle.std.proofs.lemmas.Bool.{ne_eqb, true≢false}
use Rattle.mvo_types.specs.declared.ids.Stamp.{Stamp}
use Rattle.mvo_types.specs.declared.ids.TxId.{TxId}
use Rattle.mvo_types.specs.declared.refusal.Refusal.{Refusal}
use Rattle.mvo_types.specs.declared.refusal.Refusal.TheVariants.{NoSuchTransaction, Ended, NotValidated}
use Rattle.mvo_types.specs.declared.row.RowKey.{RowKey}
use Rattle.mvo_types.specs.Keys.{Map}
use Rattle.mvo_model.specs.History.{History}
use Rattle.mvo_model.specs.Trace.{Step}
use Rattle.mvo_theory.specs.Calls.Call.{Settle}
use Rattle.mvo_theory.specs.Calls.Result.{Accepted, Refused}
use Rattle.mvo_theory.specs.Entries.{written_keys}
use Rattle.mvo_theory.specs.State.{history_of_active}
use Rattle.mvo_readonly.specs.Whole.{WholeState, stage_of}
use Rattle.mvo_readonly.specs.Whole.ReaderStage.{Preparing as IsPreparing}
use Rattle.mvo_readonly.specs.WholeCauses.WholeCall.{CoreCall}
use Rattle.mvo_readonly.proofs.Tales.{never_due}
use Rattle.mvo_shared.specs.Held.{empty_work}
use Rattle.mvo_content.specs.Works.{WorksData, HasWorkFor}
use Rattle.mvo_txn.specs.declared.state.TxState.{TxState}
use Rattle.mvo_txn.specs.declared.state.TxState.TheVariants.{Active, Preparing, Committed, Aborted}
use Rattle.mvo_txn.specs.Txns as txns
use Rattle.mvo_txn.specs.Txns.{Txns, state_of, IsUnended}
use Rattle.mvo_deps.specs.declared.node.Node.{Node}
use Rattle.mvo_deps.specs.Data as deps
use Rattle.mvo_deps.specs.Nodes.{data_of, IsReported}
use Rattle.mvo_deps.specs.Graph.{KeepsGraphAtAbort}
use Rattle.mvo_deps.specs.Waiting.{HasNoneOpen, IsLeastOpen}
use Rattle.mvo_tale.specs.declared.tale_place.TalePlace.{TalePlace}
use Rattle.mvo_tale.specs.declared.tale_place.TalePlace.TheVariants.{Settled}
use Rattle.mvo_tale.specs.Slots.{ends, AreRising, pending_end_at, reading_begin_at}
use Rattle.mvo_representation.specs.Order.{is_put_by}
use Rattle.mvo_versions.specs.Data.{VersionsData}
use Rattle.mvo_core.specs.declared.answers.Settlement.TheVariants as settlement
use Rattle.mvo_core.specs.declared.kept_transaction.KeptTransaction.{KeptTransaction}
use Rattle.mvo_core.specs.declared.kept_transaction.TransactionKind.{TransactionKind}
use Rattle.mvo_core.specs.declared.kept_transaction.TransactionKind.TheVariants.{Committed as KindCommitted}
use Rattle.mvo_core.specs.Aborting.{IsGivenUp, IsReaderGivenUp}
use Rattle.mvo_core.specs.Causes.{why_not_preparing, unless_preparing_as, kind_kept, flag_of, is_read_only}
use Rattle.mvo_core.specs.Data.{CoreData, own_of}
use Rattle.mvo_core.specs.Fronts.{AreInFront}
use Rattle.mvo_core.specs.Keeping.{IsWritten, HasEndedAs}
use Rattle.mvo_core.specs.Own.{done_in, is_own_valid, own_place}
use Rattle.mvo_core.specs.Settling.{IsReadyReader}
use Rattle.mvo_core.specs.Standing.{words_in}
use Rattle.mvo_core.specs.WholeEnds.{settled_by_stage, reader_settled_as}
use Rattle.mvo_core.specs.WholeStanding.{readers_of, StandsWhole, LeadsWhole}
use Rattle.mvo_core.proofs.CausesTold.{may_write, done_of_active}
use Rattle.mvo_core.proofs.Committing.{settle_refused, unvalidated_leads, waits_leads, waits_for, commits_as}
use Rattle.mvo_core.proofs.OthersLead.{others_lead}
use Rattle.mvo_core.proofs.ReaderAborted.{read_only_some, place_reading}
use Rattle.mvo_core.proofs.ReaderCalled.{state_is, reader_settle_refused}
use Rattle.mvo_core.proofs.ReaderChecks.{refused_some}
use Rattle.mvo_core.proofs.ReaderSettles.{reader_unvalidated, reader_waits, reader_waits_for, reader_commits_as, reader_settles, idle}
use Rattle.mvo_core.proofs.ReaderOwn.{reading_pending}
use Rattle.mvo_core.proofs.Reporting.{own_same}
use Rattle.mvo_core.proofs.WholeCalled.{leads_by_stage, stage_none}
use Rattle.mvo_core.proofs.WholeChecks.{prepared_by_stage}

no_keys : (ks : List RowKey) → not (length ks == 0) ≡ false → ks ≡ []
no_keys [] e = refl
no_keys (k ∷ ks) e = absurd (true≢false (sym (ap not (ne_eqb (length (k ∷ ks)) 0 (λ q. omega (arith, q)))) ∙ e))

-- ---- one that may be called as a Preparing one is unended for the table
unended_as : (o : Option TxState) (k : TransactionKind) (flag : Option TxId) → unless_preparing_as o k flag ≡ None → IsUnended o
unended_as None k flag e = absurd (refused_some NoSuchTransaction e)
unended_as (Some Active) k flag e = tt
unended_as (Some (Preparing d)) k flag e = tt
unended_as (Some (Committed d)) k flag e = absurd (refused_some Ended e)
unended_as (Some Aborted) k flag e = absurd (refused_some Ended e)

pub unended_if_none : (table : Txns (Node KeptTransaction)) (t : ℕ) → why_not_preparing table t ≡ None → IsUnended (state_of table t)
unended_if_none table t none = unended_as (state_of table t) (kind_kept (own_of table t)) (flag_of table t) none

-- and it is kept once its abort is reported
module _ (old untold table : Txns (Node KeptTransaction)) (t : TxId) (aborted : untold ≡ txns.table_after_change old t.0 Aborted) (reported : IsReported (deps.after_dependency_abort t) untold table t) where
  pub own_reported : own_of table t.0 ≡ own_of old t.0
  own_reported = own_same (deps.after_dependency_abort t) old untold table t Aborted aborted reported t.0

  pub some_reported : is_read_only (own_of old t.0) ≡ true → IsSome (own_of table t.0)
  some_reported reads = read_only_some (own_of table t.0) (ap is_read_only own_reported ∙ reads)

module _ (opening : Map) (steps own : List Step) (w : WholeState) (c : CoreData) (h : StandsWhole opening steps own w c) (t : TxId) where
  pub settle_refused_whole : (r : Refusal) (new : CoreData) → why_not_preparing c.table t.0 ≡ Some r → IsGivenUp c t.0 r new → IsReaderGivenUp c t.0 r new → LeadsWhole opening steps own w (CoreCall (Settle t.0)) (Refused r) new
  settle_refused_whole r new why left reader = leads_by_stage opening steps own w c h t.0 (Settle t.0) refl tt (Refused r) new
      (λ k. settle_refused (readers_of w) opening own w.core c h.core t.0 k r new why left)
      (λ p k. reader_settle_refused opening steps own w c h t.0 p k r new why reader)

  module _ (none : why_not_preparing c.table t.0 ≡ None) where
    -- ---- it isn't validated, or waits
    pub unvalidated_leads_whole : is_own_valid (own_of c.table t.0) ≡ false → LeadsWhole opening steps own w (CoreCall (Settle t.0)) (Refused NotValidated) c
    unvalidated_leads_whole e = prepared_by_stage opening steps own w c h t.0 none (λ o. LeadsWhole opening steps own w (CoreCall (Settle t.0)) (Refused NotValidated) c)
        (λ k. others_lead opening steps own w (Settle t.0) (Refused NotValidated) c c h k tt (unvalidated_leads (readers_of w) opening own w.core c h.core t none k e))
        (λ n v k. reader_unvalidated opening steps own w c h t n v k none e)

    pub waits_leads_whole : (other : TxId) → IsLeastOpen c.table (data_of c.table t).on other → is_own_valid (own_of c.table t.0) ≡ true → LeadsWhole opening steps own w (CoreCall (Settle t.0)) Accepted c
    waits_leads_whole other least e = prepared_by_stage opening steps own w c h t.0 none (λ o. LeadsWhole opening steps own w (CoreCall (Settle t.0)) Accepted c)
        (λ k. others_lead opening steps own w (Settle t.0) Accepted c c h k tt (waits_leads (readers_of w) opening own w.core c h.core t none k other least e))
        (λ n v k. reader_waits opening steps own w c h t n v k none e other least)

    pub waits_for_whole : (other : TxId) → IsLeastOpen c.table (data_of c.table t).on other → is_own_valid (own_of c.table t.0) ≡ true → settlement.Waiting other ≡ settled_by_stage w.core t.0 (stage_of t.0 w.readers)
    waits_for_whole other least e = prepared_by_stage opening steps own w c h t.0 none (λ o. settlement.Waiting other ≡ settled_by_stage w.core t.0 o)
        (λ k. waits_for (readers_of w) opening own w.core c h.core t none k other least)
        (λ n v k. reader_waits_for opening steps own w c h t n v k none e other least)

    -- ---- another is committed
    pub commits_as_whole : is_read_only (own_of c.table t.0) ≡ false → HasNoneOpen c.table (data_of c.table t).on → (end' : Stamp) → state_of c.table t.0 ≡ Some (Preparing end') → settlement.Committed end' ≡ settled_by_stage w.core t.0 (stage_of t.0 w.readers)
    commits_as_whole e least end' was =
        let k = stage_none (readers_of w) opening own w.core c h.core t.0 e in
        commits_as (readers_of w) opening own w.core c h.core t none k least end' was ∙ sym (ap (settled_by_stage w.core t.0) k)

  -- ---- a read-only one is
  module _ (ready : IsReadyReader c.table t) where
    never_other : stage_of t.0 w.readers ≡ None → ⊥
    never_other k = true≢false (sym ready.reads ∙ may_write (readers_of w) opening own w.core c h.core t.0 k)

    pub reads_settled : reader_settled_as t.0 None ≡ settled_by_stage w.core t.0 (stage_of t.0 w.readers)
    reads_settled = prepared_by_stage opening steps own w c h t.0 ready.called.none (λ o. reader_settled_as t.0 None ≡ settled_by_stage w.core t.0 o)
        (λ k. absurd (never_other k))
        (λ n v k. reader_commits_as opening steps own w c h t n v k ready.called.none ready.called.valid_is ready.free)

    -- it wrote nothing
    pub reads_wrote_nothing : written_keys (done_in c.works t.0) ≡ []
    reads_wrote_nothing = prepared_by_stage opening steps own w c h t.0 ready.called.none (λ o. written_keys (done_in c.works t.0) ≡ [])
        (λ k. absurd (never_other k))
        (λ n v k. ap (λ (ts : History). written_keys ts) (done_of_active (readers_of w) opening own w.core c h.core t.0 (state_is opening steps own w c h t.0 (IsPreparing n v) k))
        ∙ no_keys (written_keys (history_of_active t.0 w.core.active)) (never_due 0 1 (history_of_active t.0 w.core.active) (idle opening steps own w c h t n v k ready.called.none ready.called.valid_is ready.free)))

    -- its place is opened at its begin
    pub reads_pending : (untold table : Txns (Node KeptTransaction)) → untold ≡ txns.table_after_change c.table t.0 Aborted → IsReported (deps.after_dependency_abort t) untold table t → (place : ℕ) → place ≡ own_place (own_of table t.0) → pending_end_at c.tale place ≡ Some t.0
    reads_pending untold table aborted reported place at = prepared_by_stage opening steps own w c h t.0 ready.called.none (λ o. pending_end_at c.tale place ≡ Some t.0)
        (λ k. absurd (never_other k))
        (λ n v k. reading_pending c.tale place t.0 (ap (λ (m : ℕ). reading_begin_at c.tale m) (at ∙ ap own_place (own_reported c.table untold table t aborted reported)) ∙ place_reading (readers_of w) opening own w.core c h.core t.0 (IsPreparing n v) k refl))

    module _ (rising : AreRising (ends c.tale)) (untold table last : Txns (Node KeptTransaction)) (aborted : untold ≡ txns.table_after_change c.table t.0 Aborted) (reported : IsReported (deps.after_dependency_abort t) untold table t)
        (graph : KeepsGraphAtAbort untold table t) (versions : VersionsData) (front : AreInFront (is_put_by t.0) c.versions versions (words_in table t.0)) (written : IsWritten table last t.0 (HasEndedAs KindCommitted)) (works : WorksData) (taken : HasWorkFor c.works works t.0 empty_work)
        (place : ℕ) (place_is : place ≡ own_place (own_of table t.0)) (history : History) (history_is : history ≡ done_in c.works t.0)
        (tale : List TalePlace) (left : tale ≡ slice_set c.tale place (Settled (record { id = t.0; end = t.0; history = history }))) where
      told : state_of c.table t.0 ≡ Some Active → history ≡ history_of_active t.0 w.core.active
      told active = history_is ∙ done_of_active (readers_of w) opening own w.core c h.core t.0 active

      at : place ≡ own_place (own_of c.table t.0)
      at = place_is ∙ ap own_place (own_reported c.table untold table t aborted reported)

      stores : (ts : History) → history ≡ ts → tale ≡ slice_set c.tale (own_place (own_of c.table t.0)) (Settled (record { id = t.0; end = t.0; history = ts }))
      stores ts e =
          left
          ∙ ap (λ (m : ℕ). slice_set c.tale m (Settled (record { id = t.0; end = t.0; history = history }))) at
          ∙ ap (λ (us : History). slice_set c.tale (own_place (own_of c.table t.0)) (Settled (record { id = t.0; end = t.0; history = us }))) e

      pub reads_settle : LeadsWhole opening steps own w (CoreCall (Settle t.0)) Accepted (record c { versions = versions; table = last; tale = tale; works = works })
      reads_settle = prepared_by_stage opening steps own w c h t.0 ready.called.none (λ o. LeadsWhole opening steps own w (CoreCall (Settle t.0)) Accepted (record c { versions = versions; table = last; tale = tale; works = works }))
          (λ k. absurd (never_other k))
          (λ n v k. subst (λ (p : List TalePlace). LeadsWhole opening steps own w (CoreCall (Settle t.0)) Accepted (record c { versions = versions; table = last; tale = p; works = works }))
          (sym (stores (history_of_active t.0 w.core.active) (told (state_is opening steps own w c h t.0 (IsPreparing n v) k))))
          (reader_settles opening steps own w c h t n v k ready.called.none ready.called.valid_is ready.free rising untold table last aborted reported graph versions front written works taken))
