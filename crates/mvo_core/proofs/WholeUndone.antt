-- A transaction is rolled back, a read-only one or another: what the core stands for then.
use Rattle.std.proofs.Common.{◌≡◌, ◌∙◌, ℕ, false, List, [], ◌++◌, append-nil, Option, None, Some, refl, sym, subst}
use Rattle.mvo_types.specs.declared.refusal.Refusal.{Refusal}
use Rattle.mvo_types.specs.declared.refusal.Refusal.TheVariants.{NoSuchTransaction, Ended}
use Rattle.mvo_types.specs.Keys.{Map}
use Rattle.mvo_model.specs.Trace.{Step}
use Rattle.mvo_theory.specs.Calls.{IsRefusal, why_not}
use Rattle.mvo_theory.specs.Calls.Call.{Rollback}
use Rattle.mvo_theory.specs.Calls.Result.{Accepted, Refused}
use Rattle.mvo_readonly.specs.Whole.{ReaderStage, WholeState, stage_of}
use Rattle.mvo_readonly.specs.WholeCauses.WholeCall.{CoreCall}
use Rattle.mvo_txn.specs.declared.state.TxState.{TxState}
use Rattle.mvo_txn.specs.declared.state.TxState.TheVariants.{Active, Preparing, Committed, Aborted}
use Rattle.mvo_txn.specs.Txns.{state_of, IsUnended}
use Rattle.mvo_core.specs.Aborting.{IsAborted, IsReaderAborted}
use Rattle.mvo_core.specs.Causes.{why_not_undo}
use Rattle.mvo_core.specs.Data.{CoreData}
use Rattle.mvo_core.specs.Standing.{StandsAmong}
use Rattle.mvo_core.specs.WholeStanding.{readers_of, StandsWhole, LeadsWhole}
use Rattle.mvo_core.proofs.CausesTold.{some_none, not_undone_is}
use Rattle.mvo_core.proofs.GivenUp.{rolled_back}
use Rattle.mvo_core.proofs.OthersLead.{others_lead}
use Rattle.mvo_core.proofs.WholeLeads.{leads_at, unended_at}

undone_unended : (o : Option TxState) → why_not_undo o ≡ None → IsUnended o
undone_unended None e = absurd (some_none NoSuchTransaction e)
undone_unended (Some Active) e = tt
undone_unended (Some (Preparing d)) e = tt
undone_unended (Some (Committed d)) e = absurd (some_none Ended e)
undone_unended (Some Aborted) e = absurd (some_none Ended e)

module _ (opening : Map) (steps own : List Step) (w : WholeState) (c : CoreData) (h : StandsWhole opening steps own w c) (t : ℕ) where
  pub rollback_refused_whole : (r : Refusal) → why_not_undo (state_of c.table t) ≡ Some r → LeadsWhole opening steps own w (CoreCall (Rollback t)) (Refused r) c
  rollback_refused_whole r why = go (stage_of t w.readers) refl
    where
      refused : IsRefusal false (why_not w.core (Rollback t)) r
      refused = subst (λ o. IsRefusal false o r) (sym (sym (not_undone_is (readers_of w) opening own w.core c h.core t) ∙ why)) refl

      stays : StandsAmong (readers_of w) opening (own ++ []) w.core c
      stays = subst (λ ys. StandsAmong (readers_of w) opening ys w.core c) (sym (append-nil own)) h.core

      go : (o : Option ReaderStage) → stage_of t w.readers ≡ o → LeadsWhole opening steps own w (CoreCall (Rollback t)) (Refused r) c
      go None k = others_lead opening steps own w (Rollback t) (Refused r) c c h k tt (record { may = refused; stands = stays })
      go (Some p) k = leads_at opening steps own w c h (Rollback t) (Refused r) c (Some p) k refused stays

  pub rolled_back_whole : (new : CoreData) → why_not_undo (state_of c.table t) ≡ None → IsAborted c t new → IsReaderAborted c t new → LeadsWhole opening steps own w (CoreCall (Rollback t)) Accepted new
  rolled_back_whole new none aborted readers = go (stage_of t w.readers) refl
    where
      go : (o : Option ReaderStage) → stage_of t w.readers ≡ o → LeadsWhole opening steps own w (CoreCall (Rollback t)) Accepted new
      go None k = others_lead opening steps own w (Rollback t) Accepted c new h k tt (rolled_back (readers_of w) opening own w.core c new h.core t k none aborted)
      go (Some p) k = leads_at opening steps own w c h (Rollback t) Accepted new (Some p) k (sym (not_undone_is (readers_of w) opening own w.core c h.core t) ∙ none, tt)
          (readers (readers_of w) opening own w.core p k (unended_at opening steps own w c h t p k (undone_unended (state_of c.table t) none)) h.core)
