-- A transaction is finished, a read-only one or another: what the core stands for then.
use Rattle.std.proofs.Common.{◌≡◌, ◌∙◌, ℕ, Bool, true, false, not, cond, List, ◌++◌, append-nil, Option, None, Some, refl, sym, ap, subst}
use Rattle.std.specs.Prelude.{is_some, slice_get, if◌then◌else◌, Result, Ok, Err}
use Rattle.std.specs.Result.{IsErrAnd}
use Rattle.std.specs.List.{AllByRecursion}
use Rattle.mvo_types.specs.declared.refusal.Refusal.{Refusal}
use Rattle.mvo_types.specs.Keys.{Map}
use Rattle.mvo_model.specs.Trace.{Step, Phase, phase_of}
use Rattle.mvo_theory.specs.Phases.{is_active}
use Rattle.mvo_theory.specs.Words.{is_done}
use Rattle.mvo_theory.specs.Calls as theory
use Rattle.mvo_theory.specs.Calls.{steps_of, after_call}
use Rattle.mvo_theory.specs.Calls.Call.{Finish}
use Rattle.mvo_theory.specs.Calls.Result.{Accepted, Refused}
use Rattle.mvo_theory.proofs.Each.{each_weaker}
use Rattle.mvo_readonly.specs.Whole.{ReaderStage, WholeState, stage_of}
use Rattle.mvo_readonly.specs.Whole.ReaderStage.{Reading as IsReading, Preparing as IsPreparing, Committed as IsCommitted, Aborted as IsAborted}
use Rattle.mvo_readonly.specs.WholeCauses.WholeCall.{CoreCall}
use Rattle.mvo_readonly.specs.WholeCalls.{without_reader}
use Rattle.mvo_readonly.specs.WholeKept.{core_phase, IsUnfinishedReader}
use Rattle.mvo_readonly.proofs.Stages.{core_stands}
use Rattle.mvo_txn.specs.declared.state.TxState.{TxState}
use Rattle.mvo_txn.specs.declared.state.TxState.TheVariants.{Active, Preparing, Committed, Aborted}
use Rattle.mvo_txn.specs.Txns.{Txns, state_of, after_terminate}
use Rattle.mvo_deps.specs.declared.node.Node.{Node}
use Rattle.mvo_word.specs.declared.held.Held.{Held}
use Rattle.mvo_work.specs.declared.word_place.WordPlace.{WordPlace}
use Rattle.mvo_versions.specs.Data.{VersionsData}
use Rattle.mvo_representation.specs.Table.{phase_as}
use Rattle.mvo_tale.specs.WholePlaces.{has_ended}
use Rattle.mvo_tale.proofs.WholePlaces.{whole_finished}
use Rattle.mvo_core.specs.declared.kept_transaction.KeptTransaction.{KeptTransaction}
use Rattle.mvo_core.specs.declared.answers.Finishing.{Finishing}
use Rattle.mvo_core.specs.declared.answers.Finishing.TheVariants.{More, Done}
use Rattle.mvo_core.specs.Data.{CoreData}
use Rattle.mvo_core.specs.Readers.{Readers}
use Rattle.mvo_core.specs.Standing.{words_in, StandsAmong}
use Rattle.mvo_core.specs.Steps.{came, LeadsAmong}
use Rattle.mvo_core.specs.Keeping.{IsWritten}
use Rattle.mvo_core.specs.Finishing.{why_not_finished, IsFinalWord, HasPassed, IsNextReplaced}
use Rattle.mvo_core.specs.WholeStanding.{readers_of, StandsWhole, LeadsWhole}
use Rattle.mvo_core.proofs.Finished.{HasFinished, finish_refused, finish_more, finish_done, finish_more_of, finish_done_of}
use Rattle.mvo_core.proofs.OthersLead.{others_lead}
use Rattle.mvo_core.proofs.ReaderLeaves.{Leaves, stages_without}
use Rattle.mvo_core.proofs.WholeLeads.{leads_at, phase_at}

-- ---- one that has a final word has ended
ended_as : (p : ReaderStage) → has_ended p ≡ not (is_active (core_phase p))
ended_as IsReading = refl
ended_as (IsPreparing n v) = refl
ended_as IsCommitted = refl
ended_as IsAborted = refl

final_phase : (o : Option TxState) (word : Held) → IsFinalWord o word → is_active (phase_as o) ≡ false
final_phase None word f = absurd f
final_phase (Some Active) word f = absurd f
final_phase (Some (Preparing e)) word f = absurd f
final_phase (Some (Committed e)) word f = refl
final_phase (Some Aborted) word f = refl

more_done : ◌≡◌ {A = Finishing} More Done → ⊥
more_done e = cc

more_is : (b : Bool) → More ≡ (if b then Done else More) → b ≡ false
more_is true e = absurd (more_done e)
more_is false e = refl

done_is : (b : Bool) → Done ≡ (if b then Done else More) → b ≡ true
done_is true e = refl
done_is false e = absurd (more_done (sym e))

-- what a refusal that is handed on comes to
pub came_refused : {A : Type 0} (r : Result A Refusal) (why : Refusal) → IsErrAnd r (λ e. e ≡ why) → ◌≡◌ {A = theory.Result} (Refused why) (came r)
came_refused (Ok x) why e = absurd e
came_refused (Err x) why e = ap Refused (sym e)

-- what is answered, and what the core stands for then
pub record HasFinishedWhole (opening : Map) (steps own : List Step) (w : WholeState) (t : ℕ) (a : Finishing) (new : CoreData) : Type 0 where
  pub leads : LeadsWhole opening steps own w (CoreCall (Finish t)) Accepted new
  pub answer : a ≡ (if is_done w.core t then Done else More)

module _ (opening : Map) (steps own : List Step) (w : WholeState) (c : CoreData) (h : StandsWhole opening steps own w c) (t : ℕ) where
  -- ---- it is refused
  pub finish_refused_whole : (why : Refusal) → why_not_finished (state_of c.table t) ≡ Some why → LeadsWhole opening steps own w (CoreCall (Finish t)) (Refused why) c
  finish_refused_whole why e = go (stage_of t w.readers) refl (finish_refused (readers_of w) opening own w.core c h.core t why e)
    where
      go : (o : Option ReaderStage) → stage_of t w.readers ≡ o → LeadsAmong (readers_of w) opening own w.core (Finish t) (Refused why) c → LeadsWhole opening steps own w (CoreCall (Finish t)) (Refused why) c
      go None k l = others_lead opening steps own w (Finish t) (Refused why) c c h k tt l
      go (Some p) k l = leads_at opening steps own w c h (Finish t) (Refused why) c (Some p) k l.may l.stands

  -- ---- the read-only ones, and those of them that are left
  abbrev rest : Readers
  rest = record { unfinished = without_reader t w.readers; committed = w.committed_readers }

  module _ (p : ReaderStage) (is : stage_of t w.readers ≡ Some p) (word : Held) (final : IsFinalWord (state_of c.table t) word) where
    over : has_ended p ≡ true
    over = ended_as p ∙ ap (λ (f : Phase). not (is_active f)) (sym (phase_at opening steps own w c h t p is)) ∙ ap not (final_phase (state_of c.table t) word final)

    each_over : AllByRecursion (λ r. r.id ≡ t → has_ended r.stage ≡ true) w.readers
    each_over = each_weaker (IsUnfinishedReader steps own w.core) (λ r. r.id ≡ t → has_ended r.stage ≡ true)
        (λ r q i. ended_as r.stage ∙ ap (λ (f : Phase). not (is_active f)) (sym q.stands ∙ ap (λ (n : ℕ). phase_of n own) i ∙ (core_stands steps own w.core t w.readers p is h.kept.readers).0) ∙ sym (ended_as p) ∙ over) w.readers h.kept.readers

    reader_leaves : Leaves (readers_of w) rest w.core c.tale t
    reader_leaves = record {
      places = record {
        drawn = h.core.places.drawn;
        readers = (whole_finished w t c.tale each_over (record { others = h.core.tale; readers = h.core.places.readers })).readers;
      };
      stages = λ table k. stages_without w.readers table c.tale t k;
    }

    reader_finished : (b : Bool) → is_done w.core t ≡ b → (a : Finishing) (new : CoreData) → HasFinished (record { unfinished = cond b (without_reader t w.readers) w.readers; committed = w.committed_readers }) opening own w.core t a new → HasFinishedWhole opening steps own w t a new
    reader_finished b e a new f = record {
      leads = leads_at opening steps own w c h (Finish t) Accepted new (Some p) is f.leads.may
          (subst (λ ys. StandsAmong (record { unfinished = cond (is_done w.core t) (without_reader t w.readers) w.readers; committed = w.committed_readers }) opening (own ++ ys) (after_call w.core (Finish t) Accepted) new) (sym (append-nil (steps_of w.core (Finish t) Accepted)))
          (subst (λ (d : Bool). StandsAmong (record { unfinished = cond d (without_reader t w.readers) w.readers; committed = w.committed_readers }) opening (own ++ steps_of w.core (Finish t) Accepted) (after_call w.core (Finish t) Accepted) new) (sym e) f.leads.stands));
      answer = f.answer;
    }

  -- ---- by what the code found
  module _ (word : Held) (final : IsFinalWord (state_of c.table t) word) (versions : VersionsData) (table table' : Txns (Node KeptTransaction)) (next : IsNextReplaced c.versions versions c.table table t word) (again : IsWritten table table' t (HasPassed versions.slots t))
      (o : Option WordPlace) (left : o ≡ slice_get (words_in table' t) 0) where
    pub finish_more_whole : true ≡ is_some o → HasFinishedWhole opening steps own w t More (record c { versions = versions; table = table' })
    finish_more_whole found = go (stage_of t w.readers) refl
      where
        go : (q : Option ReaderStage) → stage_of t w.readers ≡ q → HasFinishedWhole opening steps own w t More (record c { versions = versions; table = table' })
        go None k =
            let f = finish_more (readers_of w) opening own w.core c h.core t k word final versions table table' next again o left found in
            record { leads = others_lead opening steps own w (Finish t) Accepted c (record c { versions = versions; table = table' }) h k tt f.leads; answer = f.answer }
        go (Some p) k =
            let f = finish_more_of (readers_of w) opening own w.core c h.core rest t (reader_leaves p k word final) word final versions table table' next again o left found in
            reader_finished p k word final false (more_is (is_done w.core t) f.answer) More (record c { versions = versions; table = table' }) f

    pub finish_done_whole : false ≡ is_some o → (end : Txns (Node KeptTransaction)) → end ≡ after_terminate table' t → HasFinishedWhole opening steps own w t Done (record c { versions = versions; table = end })
    finish_done_whole found end gone = go (stage_of t w.readers) refl
      where
        go : (q : Option ReaderStage) → stage_of t w.readers ≡ q → HasFinishedWhole opening steps own w t Done (record c { versions = versions; table = end })
        go None k =
            let f = finish_done (readers_of w) opening own w.core c h.core t k word final versions table table' end next again o left found gone in
            record { leads = others_lead opening steps own w (Finish t) Accepted c (record c { versions = versions; table = end }) h k tt f.leads; answer = f.answer }
        go (Some p) k =
            let f = finish_done_of (readers_of w) opening own w.core c h.core rest t (reader_leaves p k word final) word final versions table table' end next again o left found gone in
            reader_finished p k word final true (done_is (is_done w.core t) f.answer) Done (record c { versions = versions; table = end }) f
