-- The tale is trimmed beside read-only transactions: what the core stands for then.
use Rattle.std.proofs.Common.{◌≡◌, ℕ, Bool, true, false, not, List, [], ◌∷◌, append-nil, Option, None, Some, refl, sym, ◌∙◌, subst}
use Rattle.std.specs.Prelude.{is_some, min}
use Rattle.std.proofs.lemmas.Bool.{true≢false, false≢true}
use Rattle.mvo_types.specs.declared.refusal.Refusal.TheVariants.{NothingToDo}
use Rattle.mvo_types.specs.Causes.{when, first_cause}
use Rattle.mvo_types.specs.Keys.{Map}
use Rattle.mvo_model.specs.Trace.{Step}
use Rattle.mvo_theory.specs.Causes.{is_trim}
use Rattle.mvo_theory.specs.Calls.{IsRefusal}
use Rattle.mvo_theory.specs.Calls.Call.{Trim}
use Rattle.mvo_theory.specs.Calls.Result.{Accepted, Refused}
use Rattle.mvo_readonly.specs.Whole.{ReaderStage, WholeState, stage_of}
use Rattle.mvo_readonly.specs.WholeCauses.{MayComeWhole, has_reader_to}
use Rattle.mvo_readonly.specs.WholeCauses.WholeCall.{CoreCall}
use Rattle.mvo_readonly.proofs.Trims.{trim_by_look_up}
use Rattle.mvo_readonly.proofs.WholeRuns.{whole_after_call}
use Rattle.mvo_txn.specs.Txns.{IsOldestBegin, IsLowWater}
use Rattle.mvo_tale.specs.declared.tale_place.TalePlace.{TalePlace}
use Rattle.mvo_tale.specs.Forgetting.{forgotten}
use Rattle.mvo_core.specs.Causes.{is_read_only}
use Rattle.mvo_core.specs.Data.{CoreData, own_of}
use Rattle.mvo_core.specs.Standing.{StandsAmong}
use Rattle.mvo_core.specs.Trimming.{may_trim_to}
use Rattle.mvo_core.specs.WholeStanding.{readers_of, StandsWhole, LeadsWhole}
use Rattle.mvo_core.proofs.CausesTold.{may_write}
use Rattle.mvo_core.proofs.OthersLead.{others_lead}
use Rattle.mvo_core.proofs.ReaderAborted.{reader_is_read_only}
use Rattle.mvo_core.proofs.Trimmed.{test_is, trim_leads}

-- ---- why it is refused
not_within : (a b : Bool) → a ≡ false → IsRefusal true (first_cause (when (not a) NothingToDo ∷ when b NothingToDo ∷ [])) NothingToDo
not_within true b e = absurd (true≢false e)
not_within false b e = refl

not_below : (a b : Bool) → b ≡ true → IsRefusal true (first_cause (when (not a) NothingToDo ∷ when b NothingToDo ∷ [])) NothingToDo
not_below true true e = refl
not_below true false e = absurd (false≢true e)
not_below false b e = refl

module _ (opening : Map) (steps own : List Step) (w : WholeState) (c : CoreData) (h : StandsWhole opening steps own w c) (m : ℕ) where
  -- it stands as before
  stays : MayComeWhole w (CoreCall (Trim m)) (Refused NothingToDo) → LeadsWhole opening steps own w (CoreCall (Trim m)) (Refused NothingToDo) c
  stays may = record {
    may = may;
    stands = record {
      core = subst (λ ys. StandsAmong (readers_of w) opening ys w.core c) (sym (append-nil own)) h.core;
      kept = whole_after_call opening steps own w (CoreCall (Trim m)) (Refused NothingToDo) may h.kept;
    };
  }

  -- ---- one look-up says whether an unfinished one began there
  is_reader : is_read_only (own_of c.table m) ≡ true → is_some (stage_of m w.readers) ≡ true
  is_reader e = go (stage_of m w.readers) refl
    where
      go : (o : Option ReaderStage) → stage_of m w.readers ≡ o → is_some o ≡ true
      go None k = absurd (true≢false (sym e ∙ may_write (readers_of w) opening own w.core c h.core m k))
      go (Some p) k = refl

  is_other : is_read_only (own_of c.table m) ≡ false → is_some (stage_of m w.readers) ≡ false
  is_other e = go (stage_of m w.readers) refl
    where
      go : (o : Option ReaderStage) → stage_of m w.readers ≡ o → is_some o ≡ false
      go None k = refl
      go (Some p) k = absurd (true≢false (sym (reader_is_read_only (readers_of w) opening own w.core c h.core m p k) ∙ e))

  module _ (oldest low : ℕ) (begin : IsOldestBegin c.table oldest) (water : IsLowWater c.table low) where
    within : is_trim w.core m ≡ may_trim_to m c.start oldest low
    within = test_is (readers_of w) opening own w.core c h.core m oldest low begin water

    pub trim_refused_whole : may_trim_to m c.start oldest low ≡ false → LeadsWhole opening steps own w (CoreCall (Trim m)) (Refused NothingToDo) c
    trim_refused_whole isnt = stays (not_within (is_trim w.core m) (has_reader_to m w.readers) (within ∙ isnt))

    module _ (yes : may_trim_to m c.start oldest low ≡ true) where
      by_look_up : has_reader_to m w.readers ≡ is_some (stage_of m w.readers)
      by_look_up = trim_by_look_up opening steps own w m h.kept (within ∙ yes)

      pub trim_to_reader : is_read_only (own_of c.table m) ≡ true → LeadsWhole opening steps own w (CoreCall (Trim m)) (Refused NothingToDo) c
      trim_to_reader reads = stays (not_below (is_trim w.core m) (has_reader_to m w.readers) (by_look_up ∙ is_reader reads))

      pub trim_leads_whole : is_read_only (own_of c.table m) ≡ false → (tale : List TalePlace) → tale ≡ forgotten (min m c.closed) c.tale → LeadsWhole opening steps own w (CoreCall (Trim m)) Accepted (record c { start = m; tale = tale })
      trim_leads_whole other tale left =
          others_lead opening steps own w (Trim m) Accepted c (record c { start = m; tale = tale }) h refl (by_look_up ∙ is_other other)
          (trim_leads (readers_of w) opening own w.core c h.core m oldest low begin water yes tale left)
