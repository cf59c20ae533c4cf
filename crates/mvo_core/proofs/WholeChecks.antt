-- A check leads the whole state on, whether the transaction is read-only or another.
use Rattle.std.proofs.Common.{◌≡◌, ◌∙◌, ℕ, Bool, true, false, cond, Option, None, Some, refl, sym, ap, List}
use Rattle.std.specs.Prelude.{IsSome}
use Rattle.std.specs.Option.{is_some}
use Rattle.mvo_types.specs.declared.ids.Stamp.{Stamp}
use Rattle.mvo_types.specs.declared.refusal.Refusal.{Refusal}
use Rattle.mvo_types.specs.declared.refusal.Refusal.TheVariants.{Ended, NotPreparing, ValidationFailed}
use Rattle.mvo_types.specs.Keys.{Map}
use Rattle.mvo_model.specs.Trace.{Step}
use Rattle.mvo_theory.specs.Calls.Call.{Validate}
use Rattle.mvo_theory.specs.Calls.Result.{Accepted, Refused}
use Rattle.mvo_readonly.specs.Whole.{ReaderStage, WholeState, stage_of}
use Rattle.mvo_readonly.specs.Whole.ReaderStage.{Reading as IsReading, Preparing as IsPreparing, Committed as IsCommitted, Aborted as IsAborted}
use Rattle.mvo_readonly.specs.WholeCauses.WholeCall.{CoreCall}
use Rattle.mvo_txn.specs.Txns.{Txns, state_of}
use Rattle.mvo_deps.specs.declared.node.Node.{Node}
use Rattle.mvo_core.specs.declared.answers.Validation.TheVariants as validation
use Rattle.mvo_core.specs.declared.kept_transaction.KeptTransaction.{KeptTransaction}
use Rattle.mvo_core.specs.Aborting.{IsGivenUp, IsReaderGivenUp}
use Rattle.mvo_core.specs.Causes.{why_not_preparing}
use Rattle.mvo_core.specs.Checking.{IsNextChange, change_for, entries_to_check}
use Rattle.mvo_core.specs.Data.{CoreData, own_of}
use Rattle.mvo_core.specs.Keeping.{IsWritten, IsCounted}
use Rattle.mvo_core.specs.Own.{done_in, is_own_valid, own_check, own_entry}
use Rattle.mvo_core.specs.WholeEnds.{valid_by_stage}
use Rattle.mvo_core.specs.WholeStanding.{readers_of, StandsWhole, LeadsWhole}
use Rattle.mvo_core.proofs.OthersLead.{others_lead}
use Rattle.mvo_core.proofs.ReaderAborted.{reader_kept}
use Rattle.mvo_core.proofs.ReaderCalled.{state_is, not_preparing, reader_validate_refused}
use Rattle.mvo_core.proofs.ReaderChecks.{refused_some, valid_stays, stays_valid, reader_counted, reader_counts_as}
use Rattle.mvo_core.proofs.Validating.{validate_refused, fall, valid_leads, valid_answers, differs_leads, counted_leads, counts_as, own_there}
use Rattle.mvo_core.proofs.WholeCalled.{leads_by_stage}

none_found : (n : ℕ) → ◌≡◌ {A = Option ℕ} (Some n) None → ⊥
none_found n e = cc

module _ (opening : Map) (steps own : List Step) (w : WholeState) (c : CoreData) (h : StandsWhole opening steps own w c) (t : ℕ) where
  pub validate_refused_whole : (r : Refusal) (new : CoreData) → why_not_preparing c.table t ≡ Some r → IsGivenUp c t r new → IsReaderGivenUp c t r new → LeadsWhole opening steps own w (CoreCall (Validate t)) (Refused r) new
  validate_refused_whole r new why left reader = leads_by_stage opening steps own w c h t (Validate t) refl tt (Refused r) new
      (λ k. validate_refused (readers_of w) opening own w.core c h.core t k r new why left)
      (λ p k. reader_validate_refused opening steps own w c h t p k r new why reader)

  module _ (none : why_not_preparing c.table t ≡ None) where
    -- it is another, or a read-only one that is Preparing
    pub prepared_by_stage : (P : Option ReaderStage → Type 0) → (stage_of t w.readers ≡ None → P None) → ((n : ℕ) (v : Bool) → stage_of t w.readers ≡ Some (IsPreparing n v) → P (Some (IsPreparing n v))) → P (stage_of t w.readers)
    prepared_by_stage P others reads = go (stage_of t w.readers) refl
      where
        go : (o : Option ReaderStage) → stage_of t w.readers ≡ o → P o
        go None k = others k
        go (Some IsReading) k = absurd (refused_some NotPreparing (sym (not_preparing opening steps own w c h t IsReading k) ∙ none))
        go (Some (IsPreparing n v)) k = reads n v k
        go (Some IsCommitted) k = absurd (refused_some Ended (sym (not_preparing opening steps own w c h t IsCommitted k) ∙ none))
        go (Some IsAborted) k = absurd (refused_some Ended (sym (not_preparing opening steps own w c h t IsAborted k) ∙ none))

    -- something is kept of it
    pub own_there_whole : IsSome (own_of c.table t)
    own_there_whole = prepared_by_stage (λ o. IsSome (own_of c.table t))
        (λ k. own_there (readers_of w) opening own w.core c h.core t none k)
        (λ n v k. ap is_some (reader_kept (readers_of w) opening own w.core c h.core t (IsPreparing n v) k).kept)

    -- ---- all of its entries are checked
    module _ (valid : is_own_valid (own_of c.table t) ≡ true) where
      pub valid_leads_whole : LeadsWhole opening steps own w (CoreCall (Validate t)) Accepted c
      valid_leads_whole = prepared_by_stage (λ o. LeadsWhole opening steps own w (CoreCall (Validate t)) Accepted c)
          (λ k. others_lead opening steps own w (Validate t) Accepted c c h k tt (valid_leads (readers_of w) opening own w.core c h.core t none k valid))
          (λ n v k. valid_stays opening steps own w c h t n v k none valid)

      pub valid_answers_whole : validation.Valid ≡ cond (valid_by_stage w.core t (stage_of t w.readers)) validation.Valid validation.More
      valid_answers_whole = prepared_by_stage (λ o. validation.Valid ≡ cond (valid_by_stage w.core t o) validation.Valid validation.More)
          (λ k. valid_answers (readers_of w) opening own w.core c h.core t none k valid)
          (λ n v k. sym (ap (λ (b : Bool). cond b validation.Valid validation.More) (stays_valid opening steps own w c h t n v k none valid)))

    -- ---- the next one is checked
    module _ (unvalid : is_own_valid (own_of c.table t) ≡ false) where
      abbrev count : ℕ
      count = entries_to_check (done_in c.works t) (own_of c.table t)

      -- that of a read-only one never differs
      never_differs : (stamp : Stamp) → IsNextChange c.table c.versions t (Some stamp.0) → (n : ℕ) (v : Bool) → stage_of t w.readers ≡ Some (IsPreparing n v) → ⊥
      never_differs stamp differs n v k = none_found stamp.0 (differs (fall (readers_of w) opening own w.core c h.core) ∙ ap (λ o. change_for o (state_of c.table) c.versions t (own_entry (own_of c.table t))) (state_is opening steps own w c h t (IsPreparing n v) k))

      pub differs_leads_whole : (stamp : Stamp) (new : CoreData) → IsNextChange c.table c.versions t (Some stamp.0) → IsGivenUp c t (ValidationFailed stamp) new → LeadsWhole opening steps own w (CoreCall (Validate t)) (Refused (ValidationFailed stamp)) new
      differs_leads_whole stamp new differs left = prepared_by_stage (λ o. LeadsWhole opening steps own w (CoreCall (Validate t)) (Refused (ValidationFailed stamp)) new)
          (λ k. others_lead opening steps own w (Validate t) (Refused (ValidationFailed stamp)) c new h k tt (differs_leads (readers_of w) opening own w.core c h.core t none k unvalid stamp new (differs (fall (readers_of w) opening own w.core c h.core)) left))
          (λ n v k. absurd (never_differs stamp differs n v k))

      pub counted_leads_whole : (table : Txns (Node KeptTransaction)) → IsWritten c.table table t (IsCounted count) → IsNextChange c.table c.versions t None → LeadsWhole opening steps own w (CoreCall (Validate t)) Accepted (record c { table = table })
      counted_leads_whole table written same = prepared_by_stage (λ o. LeadsWhole opening steps own w (CoreCall (Validate t)) Accepted (record c { table = table }))
          (λ k. others_lead opening steps own w (Validate t) Accepted c (record c { table = table }) h k tt (counted_leads (readers_of w) opening own w.core c h.core t none k unvalid table written (same (fall (readers_of w) opening own w.core c h.core))))
          (λ n v k. reader_counted opening steps own w c h t n v k none unvalid table written)

      pub counts_as_whole : own_check count (own_of c.table t) ≡ cond (valid_by_stage w.core t (stage_of t w.readers)) validation.Valid validation.More
      counts_as_whole = prepared_by_stage (λ o. own_check count (own_of c.table t) ≡ cond (valid_by_stage w.core t o) validation.Valid validation.More)
          (λ k. counts_as (readers_of w) opening own w.core c h.core t none k unvalid)
          (λ n v k. reader_counts_as opening steps own w c h t n v k none unvalid)
