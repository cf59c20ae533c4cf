-- A call of one that isn't read-only leads the whole state on.
use Rattle.std.proofs.Common.{◌≡◌, ◌∙◌, Bool, true, false, not, List, [], ◌∷◌, ◌++◌, append-nil, Option, None, refl, sym, ap, subst}
use Rattle.mvo_types.specs.declared.refusal.Refusal.TheVariants.{NothingToDo}
use Rattle.mvo_types.specs.Causes.{first_cause, when}
use Rattle.mvo_types.specs.Keys.{Map}
use Rattle.mvo_model.specs.Trace.{Step}
use Rattle.mvo_theory.specs.Causes.{is_trim}
use Rattle.mvo_theory.specs.Calls.{Call, Result, MayCome, IsRefusal, takes_memory, why_not, trace_of, after_run, steps_of, after_call}
use Rattle.mvo_theory.specs.Calls.Call.{Begin, Do, Precommit, Validate, Settle, Rollback, Finish, Trim, Close}
use Rattle.mvo_theory.specs.Calls.Result.{Accepted, Refused}
use Rattle.mvo_readonly.specs.Whole.{ReaderStage, WholeState}
use Rattle.mvo_readonly.specs.WholeCauses.{MayComeAtStage, why_not_other, has_reader_to}
use Rattle.mvo_readonly.specs.WholeCauses.WholeCall.{CoreCall}
use Rattle.mvo_readonly.specs.WholeCalls.{core_other, core_at_stage, readers_at_stage, committed_at_stage}
use Rattle.mvo_readonly.proofs.WholeRuns.{whole_after_call}
use Rattle.mvo_core.specs.Data.{CoreData}
use Rattle.mvo_core.specs.Readers.{Readers}
use Rattle.mvo_core.specs.Standing.{StandsAmong}
use Rattle.mvo_core.specs.WholeStanding.{readers_of, IsBelowReaders, OthersLeadWhole}

-- ---- why it is refused
why_at : (a b : Bool) → b ≡ false → first_cause (when (not a) NothingToDo ∷ when b NothingToDo ∷ []) ≡ first_cause (when (not a) NothingToDo ∷ [])
why_at true b e = ap (λ (x : Bool). first_cause (when x NothingToDo ∷ [])) e
why_at false b e = refl

why_other : (w : WholeState) (call : Call) → IsBelowReaders w call → why_not_other w call ≡ why_not w.core call
why_other w Begin e = refl
why_other w (Do t op) e = refl
why_other w (Precommit t) e = refl
why_other w (Validate t) e = refl
why_other w (Settle t) e = refl
why_other w (Rollback t) e = refl
why_other w (Finish t) e = refl
why_other w (Trim m) e = why_at (is_trim w.core m) (has_reader_to m w.readers) e
why_other w (Close fits g full) e = refl

may_other : (w : WholeState) (call : Call) (r : Result) → IsBelowReaders w call → MayCome w.core call r → MayComeAtStage w call None r
may_other w call Accepted e m = (why_other w call e ∙ m.0, m.1)
may_other w call (Refused r) e m = subst (λ o. IsRefusal (takes_memory call) o r) (sym (why_other w call e)) m

-- ---- what it leads to
module _ (rs : Readers) (opening : Map) (own : List Step) (new : CoreData) where
  once : (w : WholeState) (call : Call) (r : Result) → StandsAmong rs opening (own ++ steps_of w.core call r) (after_call w.core call r) new
      → StandsAmong rs opening (own ++ trace_of w.core ((call, r) ∷ [])) (after_run w.core ((call, r) ∷ [])) new
  once w call r h = subst (λ ys. StandsAmong rs opening (own ++ ys) (after_call w.core call r) new) (sym (append-nil (steps_of w.core call r))) h

  other : (w : WholeState) (call : Call) (r : Result) → StandsAmong rs opening (own ++ steps_of w.core call r) (after_call w.core call r) new
      → StandsAmong rs opening (own ++ trace_of w.core (core_other call r)) (after_run w.core (core_other call r)) new
  other w Begin r h = once w Begin r h
  other w (Do t op) r h = once w (Do t op) r h
  other w (Precommit t) r h = once w (Precommit t) r h
  other w (Validate t) r h = once w (Validate t) r h
  other w (Settle t) r h = once w (Settle t) r h
  other w (Rollback t) r h = once w (Rollback t) r h
  other w (Finish t) r h = once w (Finish t) r h
  other w (Trim m) Accepted h = once w (Trim m) Accepted h
  other w (Trim m) (Refused r) h = h
  other w (Close fits g full) r h = once w (Close fits g full) r h

pub others_lead : OthersLeadWhole
others_lead opening steps own w call r old new h e below l =
    let may = subst (λ (p : Option ReaderStage). MayComeAtStage w call p r) (sym e) (may_other w call r below l.may) in
    record {
      may = may;
      stands = record {
        core = subst (λ (p : Option ReaderStage). StandsAmong (record { unfinished = readers_at_stage w.core call r p w.readers; committed = committed_at_stage w.core call r p w.committed_readers }) opening
            (own ++ trace_of w.core (core_at_stage w.core call r p)) (after_run w.core (core_at_stage w.core call r p)) new) (sym e)
            (other (readers_of w) opening own new w call r l.stands);
        kept = whole_after_call opening steps own w (CoreCall call) r may h.kept;
      };
    }
