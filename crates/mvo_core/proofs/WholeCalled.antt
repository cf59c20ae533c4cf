-- A call of a transaction leads the whole state on, whether it is read-only or another.
use Rattle.std.proofs.Common.{◌≡◌, ◌∙◌, ℕ, true, false, Option, None, Some, refl, sym, ap, List}
use Rattle.std.proofs.lemmas.Bool.{true≢false}
use Rattle.mvo_types.specs.Keys.{Map}
use Rattle.mvo_model.specs.Trace.{Step}
use Rattle.mvo_theory.specs.State.{State}
use Rattle.mvo_theory.specs.Calls.{Call, Result}
use Rattle.mvo_readonly.specs.Whole.{ReaderStage, WholeState, id_named, stage_named, stage_of}
use Rattle.mvo_readonly.specs.WholeCauses.WholeCall.{CoreCall}
use Rattle.mvo_core.specs.Causes.{is_read_only}
use Rattle.mvo_core.specs.Data.{CoreData, own_of}
use Rattle.mvo_core.specs.Readers.{Readers, no_readers}
use Rattle.mvo_core.specs.Standing.{StandsAmong, StandsFor}
use Rattle.mvo_core.specs.Steps.{LeadsAmong}
use Rattle.mvo_core.specs.WholeStanding.{readers_of, StandsWhole, LeadsWhole, IsBelowReaders}
use Rattle.mvo_core.proofs.CausesTold.{may_write}
use Rattle.mvo_core.proofs.OthersLead.{others_lead}
use Rattle.mvo_core.proofs.ReaderAborted.{reader_is_read_only}

-- where none is read-only
pub none_reads : (opening : Map) (steps : List Step) (s : State) (c : CoreData) → StandsFor opening steps s c → (t : ℕ) → is_read_only (own_of c.table t) ≡ true → ⊥
none_reads opening steps s c h t e = true≢false (sym e ∙ may_write no_readers opening steps s c h t refl)

-- it is another by what is kept of it
pub stage_none : (rs : Readers) (opening : Map) (steps : List Step) (s : State) (c : CoreData) → StandsAmong rs opening steps s c → (t : ℕ) → is_read_only (own_of c.table t) ≡ false → stage_of t rs.unfinished ≡ None
stage_none rs opening steps s c h t e = go (stage_of t rs.unfinished) refl
  where
    go : (o : Option ReaderStage) → stage_of t rs.unfinished ≡ o → o ≡ None
    go None k = refl
    go (Some p) k = absurd (true≢false (sym (reader_is_read_only rs opening steps s c h t p k) ∙ e))

module _ (opening : Map) (steps own : List Step) (w : WholeState) (c : CoreData) (h : StandsWhole opening steps own w c) (t : ℕ) (call : Call) (named : id_named call ≡ Some t) (below : IsBelowReaders w call) (r : Result) (new : CoreData) where
  other_leads : (stage_of t w.readers ≡ None → LeadsAmong (readers_of w) opening own w.core call r new) → stage_of t w.readers ≡ None → LeadsWhole opening steps own w (CoreCall call) r new
  other_leads leads other = others_lead opening steps own w call r c new h (ap (stage_named w.readers) named ∙ other) below (leads other)

  -- of one that is another by what is kept of it
  pub other_leads_whole : is_read_only (own_of c.table t) ≡ false → (stage_of t w.readers ≡ None → LeadsAmong (readers_of w) opening own w.core call r new) → LeadsWhole opening steps own w (CoreCall call) r new
  other_leads_whole e leads = other_leads leads (stage_none (readers_of w) opening own w.core c h.core t e)

  -- of either, by its stage
  pub leads_by_stage : (stage_of t w.readers ≡ None → LeadsAmong (readers_of w) opening own w.core call r new) → ((p : ReaderStage) → stage_of t w.readers ≡ Some p → LeadsWhole opening steps own w (CoreCall call) r new) → LeadsWhole opening steps own w (CoreCall call) r new
  leads_by_stage leads reads = go (stage_of t w.readers) refl
    where
      go : (o : Option ReaderStage) → stage_of t w.readers ≡ o → LeadsWhole opening steps own w (CoreCall call) r new
      go None k = other_leads leads k
      go (Some p) k = reads p k
