-- What a call leads to in the whole state, by how far the read-only transaction is that it names.
use Rattle.std.proofs.Common.{◌≡◌, ◌∙◌, ℕ, Bool, true, false, List, ◌++◌, Option, None, Some, refl, sym, ap, subst}
use Rattle.std.proofs.lemmas.Bool.{true≢false}
use Rattle.mvo_types.specs.Keys.{Map}
use Rattle.mvo_model.specs.Trace.{Step, Phase}
use Rattle.mvo_model.specs.Trace.Phase.{Aborted as AbortedPhase}
use Rattle.mvo_theory.specs.Calls.{Call, Result, trace_of, after_run}
use Rattle.mvo_readonly.specs.Whole.{ReaderStage, WholeState, id_named, stage_named, stage_of}
use Rattle.mvo_readonly.specs.Whole.ReaderStage.{Reading as IsReading, Preparing as IsPreparing, Committed as IsCommitted, Aborted as IsAborted}
use Rattle.mvo_readonly.specs.WholeCauses.{MayComeAtStage}
use Rattle.mvo_readonly.specs.WholeCauses.WholeCall.{CoreCall}
use Rattle.mvo_readonly.specs.WholeCalls.{core_at_stage, readers_at_stage, committed_at_stage}
use Rattle.mvo_readonly.specs.WholeKept.{core_phase}
use Rattle.mvo_readonly.proofs.ReaderCalls.{in_core}
use Rattle.mvo_readonly.proofs.WholeRuns.{whole_after_call}
use Rattle.mvo_txn.specs.declared.state.TxState.{TxState}
use Rattle.mvo_txn.specs.declared.state.TxState.TheVariants.{Active, Preparing, Committed, Aborted}
use Rattle.mvo_txn.specs.Txns.{state_of, IsUnended}
use Rattle.mvo_tale.specs.WholePlaces.{has_ended}
use Rattle.mvo_representation.specs.Table.{phase_as}
use Rattle.mvo_core.specs.Data.{CoreData}
use Rattle.mvo_core.specs.Standing.{StandsAmong}
use Rattle.mvo_core.specs.WholeStanding.{StandsWhole, LeadsWhole}

-- ---- one that is Active or Preparing for the core hasn't ended
abbrev is_fallen : Phase → Bool
is_fallen AbortedPhase = true
is_fallen f = false

unended_phase : (o : Option TxState) → IsUnended o → is_fallen (phase_as o) ≡ false
unended_phase None u = absurd u
unended_phase (Some Active) u = refl
unended_phase (Some (Preparing e)) u = refl
unended_phase (Some (Committed e)) u = absurd u
unended_phase (Some Aborted) u = absurd u

unended_stage : (p : ReaderStage) → is_fallen (core_phase p) ≡ false → has_ended p ≡ false
unended_stage IsReading e = refl
unended_stage (IsPreparing n v) e = refl
unended_stage IsCommitted e = absurd (true≢false e)
unended_stage IsAborted e = absurd (true≢false e)

module _ (opening : Map) (steps own : List Step) (w : WholeState) (c : CoreData) (h : StandsWhole opening steps own w c) where
  pub leads_at : (call : Call) (r : Result) (new : CoreData) (p : Option ReaderStage) → stage_named w.readers (id_named call) ≡ p → MayComeAtStage w call p r
      → StandsAmong (record { unfinished = readers_at_stage w.core call r p w.readers; committed = committed_at_stage w.core call r p w.committed_readers }) opening
      (own ++ trace_of w.core (core_at_stage w.core call r p)) (after_run w.core (core_at_stage w.core call r p)) new
      → LeadsWhole opening steps own w (CoreCall call) r new
  leads_at call r new p is m stands =
      let may = subst (λ (o : Option ReaderStage). MayComeAtStage w call o r) (sym is) m in
      record {
        may = may;
        stands = record {
          core = subst (λ (o : Option ReaderStage). StandsAmong (record { unfinished = readers_at_stage w.core call r o w.readers; committed = committed_at_stage w.core call r o w.committed_readers }) opening
              (own ++ trace_of w.core (core_at_stage w.core call r o)) (after_run w.core (core_at_stage w.core call r o)) new) (sym is) stands;
          kept = whole_after_call opening steps own w (CoreCall call) r may h.kept;
        };
      }

  module _ (t : ℕ) (p : ReaderStage) (is : stage_of t w.readers ≡ Some p) where
    pub phase_at : phase_as (state_of c.table t) ≡ core_phase p
    phase_at = h.core.dependencies.stands.phases t ∙ in_core opening steps own w t p is h.kept

    pub unended_at : IsUnended (state_of c.table t) → has_ended p ≡ false
    unended_at u = unended_stage p (ap is_fallen (sym phase_at) ∙ unended_phase (state_of c.table t) u)
