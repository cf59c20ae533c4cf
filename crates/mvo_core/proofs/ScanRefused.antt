-- A scan is refused: what the core stands for then.
use Rattle.std.proofs.Common.{◌≡◌, ℕ, List, ◌++◌, None, Some, sym, ◌∙◌, subst}
use Rattle.mvo_types.specs.declared.ids.TxId.{TxId}
use Rattle.mvo_types.specs.declared.op.Op.TheVariants.{Scan}
use Rattle.mvo_types.specs.declared.refusal.Refusal.{Refusal}
use Rattle.mvo_types.specs.declared.refusal.Refusal.TheVariants.{OutOfMemory}
use Rattle.mvo_types.specs.Keys.{Map}
use Rattle.mvo_model.specs.Trace.{Step}
use Rattle.mvo_types.specs.declared.entry.Entry.TheVariants.{Range}
use Rattle.mvo_theory.specs.State.{State}
use Rattle.mvo_theory.specs.Causes.{why_not_do}
use Rattle.mvo_theory.specs.Steps.{after_refusal, steps_of_refusal}
use Rattle.mvo_theory.specs.Calls.Call.{Do}
use Rattle.mvo_theory.specs.Calls.Result.{Refused}
use Rattle.mvo_txn.specs.Txns.{Txns}
use Rattle.mvo_deps.specs.declared.node.Node.{Node}
use Rattle.mvo_readonly.specs.Whole.{stage_of}
use Rattle.mvo_core.specs.Readers.{Readers}
use Rattle.mvo_core.specs.declared.kept_transaction.KeptTransaction.{KeptTransaction}
use Rattle.mvo_core.specs.Causes.{why_not_look}
use Rattle.mvo_core.specs.Own.{done_in}
use Rattle.mvo_core.specs.Data.{CoreData}
use Rattle.mvo_core.specs.Standing.{StandsAmong}
use Rattle.mvo_core.specs.Steps.{LeadsAmong}
use Rattle.mvo_core.proofs.CausesTold.{not_scanned_is, MayLook}
use Rattle.mvo_core.proofs.Refused.{refused_leads, spent_leads}

module _ (rs : Readers) (opening : Map) (steps : List Step) (s : State) (c : CoreData) (h : StandsAmong rs opening steps s c) (t : TxId) (of lo hi : ℕ) (looks : MayLook (stage_of t.0 rs.unfinished)) where
  pub scan_refused : (r : Refusal) → why_not_look c.table (done_in c.works t.0) t.0 of (Range of lo hi) ≡ Some r → (new : CoreData) → StandsAmong rs opening (steps ++ steps_of_refusal t.0 r) (after_refusal s t.0 r) new
      → LeadsAmong rs opening steps s (Do t.0 (Scan of lo hi)) (Refused r) new
  scan_refused r why new stands = refused_leads rs opening steps s t.0 (Scan of lo hi) new r (sym (not_scanned_is rs opening steps s c h t.0 looks of lo hi) ∙ why) stands

  module _ (none : why_not_look c.table (done_in c.works t.0) t.0 of (Range of lo hi) ≡ None) where
    pub may_scan : why_not_do s t.0 (Scan of lo hi) ≡ None
    may_scan = sym (not_scanned_is rs opening steps s c h t.0 looks of lo hi) ∙ none

    -- for want of memory
    pub scan_spent : LeadsAmong rs opening steps s (Do t.0 (Scan of lo hi)) (Refused OutOfMemory) c
    scan_spent = spent_leads rs opening steps s t.0 (Scan of lo hi) c may_scan h

    pub scan_spent_roomy : (table : Txns (Node KeptTransaction)) → table ≡ c.table → LeadsAmong rs opening steps s (Do t.0 (Scan of lo hi)) (Refused OutOfMemory) (record c { table = table })
    scan_spent_roomy table same = subst (λ (x : Txns (Node KeptTransaction)). LeadsAmong rs opening steps s (Do t.0 (Scan of lo hi)) (Refused OutOfMemory) (record c { table = x })) (sym same) scan_spent
