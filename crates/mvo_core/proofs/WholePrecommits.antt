-- A precommit leads the whole state on, whether the transaction is read-only or another.
use Rattle.std.proofs.Common.{◌≡◌, ◌≢◌, ◌∙◌, ℕ, ◌+◌, true, false, Option, None, Some, refl, sym, ap, List}
use Rattle.std.specs.Prelude.{IsSome}
use Rattle.std.proofs.lemmas.Bool.{true≢false}
use Rattle.mvo_types.specs.declared.refusal.Refusal.{Refusal}
use Rattle.mvo_types.specs.Keys.{Map}
use Rattle.mvo_model.specs.Trace.{Step}
use Rattle.mvo_theory.specs.Calls.Call.{Precommit}
use Rattle.mvo_theory.specs.Calls.Result.{Accepted, Refused}
use Rattle.mvo_readonly.specs.Whole.{ReaderStage, WholeState, stage_of}
use Rattle.mvo_readonly.specs.WholeCauses.WholeCall.{CoreCall}
use Rattle.mvo_txn.specs.Txns.{Txns}
use Rattle.mvo_deps.specs.declared.node.Node.{Node}
use Rattle.mvo_core.specs.declared.kept_transaction.KeptTransaction.{KeptTransaction}
use Rattle.mvo_core.specs.Aborting.{IsGivenUp, IsReaderGivenUp}
use Rattle.mvo_core.specs.Causes.{why_not_active, is_read_only}
use Rattle.mvo_core.specs.Data.{CoreData, own_of}
use Rattle.mvo_core.specs.Keeping.{IsWritten, HasStartedChecks}
use Rattle.mvo_core.specs.WholeEnds.{end_by_stage}
use Rattle.mvo_core.specs.WholeStanding.{readers_of, StandsWhole, LeadsWhole}
use Rattle.mvo_core.proofs.CausesTold.{may_write}
use Rattle.mvo_core.proofs.Drawing.{precommit_refused}
use Rattle.mvo_core.proofs.ReaderAborted.{read_only_some}
use Rattle.mvo_core.proofs.ReaderCalled.{reader_precommit_refused, reader_precommits}
use Rattle.mvo_core.proofs.WholeCalled.{leads_by_stage, stage_none}

pub read_is_some : (o : Option KeptTransaction) → is_read_only o ≡ true → IsSome o
read_is_some = read_only_some

module _ (opening : Map) (steps own : List Step) (w : WholeState) (c : CoreData) (h : StandsWhole opening steps own w c) (t : ℕ) where
  pub precommit_refused_whole : (r : Refusal) (new : CoreData) → why_not_active c.table t ≡ Some r → IsGivenUp c t r new → IsReaderGivenUp c t r new → LeadsWhole opening steps own w (CoreCall (Precommit t)) (Refused r) new
  precommit_refused_whole r new why left reader = leads_by_stage opening steps own w c h t (Precommit t) refl tt (Refused r) new
      (λ k. precommit_refused (readers_of w) opening own w.core c h.core t k r new why left)
      (λ p k. reader_precommit_refused opening steps own w c h t p k r new why reader)

  pub reads_precommits : (table : Txns (Node KeptTransaction)) → IsWritten c.table table t HasStartedChecks → why_not_active c.table t ≡ None → is_read_only (own_of c.table t) ≡ true
      → LeadsWhole opening steps own w (CoreCall (Precommit t)) Accepted (record c { table = table })
  reads_precommits table written none reads = leads_by_stage opening steps own w c h t (Precommit t) refl tt Accepted (record c { table = table })
      (λ k. absurd (true≢false (sym reads ∙ may_write (readers_of w) opening own w.core c h.core t k)))
      (λ p k. reader_precommits opening steps own w c h t p k table written none)

  -- ---- what is answered
  pub draws_next : is_read_only (own_of c.table t) ≡ false → (n : ℕ) → n ≡ c.table.clock → n + 1 ≡ end_by_stage w.core t (stage_of t w.readers)
  draws_next e n at = ap (λ (m : ℕ). m + 1) (at ∙ h.core.dependencies.stands.clock) ∙ sym (ap (end_by_stage w.core t) (stage_none (readers_of w) opening own w.core c h.core t e))

  pub draws_none : is_read_only (own_of c.table t) ≡ true → t ≡ end_by_stage w.core t (stage_of t w.readers)
  draws_none reads = go (stage_of t w.readers) refl
    where
      go : (o : Option ReaderStage) → stage_of t w.readers ≡ o → t ≡ end_by_stage w.core t o
      go None k = absurd (true≢false (sym reads ∙ may_write (readers_of w) opening own w.core c h.core t k))
      go (Some p) k = refl
