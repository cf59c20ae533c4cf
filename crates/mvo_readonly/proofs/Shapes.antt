-- What a call adds to the whole trace and to the core's own: nothing that begins, is answered or gets an end, or just one such step.
use Rattle.std.proofs.Common.{◌≡◌, ℕ, ◌+◌, ◌≤◌, Bool, true, false, cond, ◌⊎◌, inl, inr, List, [], ◌∷◌, ◌++◌, Option, None, Some, refl, sym, ap, ◌∙◌, subst, arith}
use Rattle.std.specs.List.{AllByRecursion}
use Rattle.std.proofs.lemmas.Bool.{false≢true}
use Rattle.mvo_types.specs.declared.op.Op.{Op}
use Rattle.mvo_types.specs.declared.refusal.Refusal.{Refusal}
use Rattle.mvo_types.specs.declared.refusal.Refusal.TheVariants.{Ended, NotActive}
use Rattle.mvo_types.specs.Keys.{Map}
use Rattle.mvo_types.specs.AnswerData.{AnswerData}
use Rattle.mvo_model.specs.Trace.{Step, history_of, phase_of}
use Rattle.mvo_model.specs.Trace.Step.{Begins, Answers, Prepares, Checks, Commits, Aborts, Terminates}
use Rattle.mvo_model.specs.Trace.Phase.{Active as IsActive}
use Rattle.mvo_theory.specs.Causes.{awaited, end_of, is_failure}
use Rattle.mvo_theory.specs.Phases.{phase_by, phase_in}
use Rattle.mvo_theory.specs.Snapshots.{is_aborted}
use Rattle.mvo_theory.specs.Sound.{IsActive as IsActiveTx}
use Rattle.mvo_theory.specs.State.{State, StampedTx, ActiveTx, active_of, preparing_of, ended_of}
use Rattle.mvo_theory.specs.Words.{is_done}
use Rattle.mvo_theory.specs.Steps.{steps_of_refusal}
use Rattle.mvo_theory.specs.Calls.{Call, Result, answer_in, steps_unless, steps_of, trace_of}
use Rattle.mvo_theory.specs.Calls.Call.{Begin, Do, Precommit, Validate, Settle, Rollback, Finish, Trim, Close}
use Rattle.mvo_theory.specs.Calls.Result.{Accepted, Refused}
use Rattle.mvo_theory.proofs.Who.{active_done, active_after_prepare, active_holds}
use Rattle.mvo_readonly.specs.ReadAt.{WritesNothing}
use Rattle.mvo_readonly.specs.Whole.{ReaderStage, WholeState, phase_at_stage, stage_named, id_named}
use Rattle.mvo_readonly.specs.WholeCauses.{WholeCall, why_not_reader, awaited_by_reader, MayComeAtStage, MayComeWhole}
use Rattle.mvo_readonly.specs.WholeCalls.{unless_awaited, rolled_back, core_failed, core_reader, core_other, core_at_stage, core_calls, commits_unless, reader_steps, steps_at_stage, steps_of_whole_call}
use Rattle.mvo_readonly.specs.Whole.ReaderStage.{Reading, Preparing, Committed, Aborted}
use Rattle.mvo_readonly.specs.WholeCauses.WholeCall.{CoreCall, BeginReadOnly}
use Rattle.mvo_readonly.specs.WholeKept.{IsWholeKept}
use Rattle.mvo_readonly.proofs.Traces.{append-none}
use Rattle.mvo_readonly.proofs.Stages.{core_stands}

abbrev pub is_plain : Step → Bool
is_plain (Begins t) = false
is_plain (Answers t op a) = false
is_plain (Prepares t e) = false
is_plain (Checks t) = true
is_plain (Commits t e) = true
is_plain (Aborts t) = true
is_plain (Terminates t) = true

abbrev pub ArePlain : List Step → Type 0
ArePlain zs = AllByRecursion (λ z. is_plain z ≡ true) zs

-- nothing of the kind, and each abort is one of the core's too
pub record IsQuiet (us vs : List Step) : Type 0 where
  pub whole : ArePlain us
  pub own : ArePlain vs
  pub aborts : (u : ℕ) → is_aborted u us ≡ true → is_aborted u vs ≡ true

pub record IsBegun (w : WholeState) (us vs : List Step) : Type 0 where
  pub whole : us ≡ Begins (w.core.clock + 1) ∷ []
  pub own : vs ≡ Begins (w.core.clock + 1) ∷ []

-- one that is Active is told
pub record IsTold (ws us vs : List Step) : Type 0 where
  pub tx : ℕ
  pub op : Op
  pub answer : AnswerData
  pub whole : us ≡ Answers tx op answer ∷ []
  pub own : vs ≡ Answers tx op answer ∷ []
  pub active : phase_of tx ws ≡ IsActive

-- a read-only one gets its begin as its end
pub record IsReadEnd (ws xs us vs : List Step) (w : WholeState) : Type 0 where
  pub tx : ℕ
  pub whole : us ≡ Prepares tx tx ∷ []
  pub own : vs ≡ []
  pub idle : WritesNothing (history_of tx xs)
  pub drawn : tx ≤ w.core.clock

-- another draws one
pub record IsDrawnEnd (us vs : List Step) (w : WholeState) : Type 0 where
  pub tx : ℕ
  pub whole : us ≡ Prepares tx (w.core.clock + 1) ∷ []
  pub own : vs ≡ Prepares tx (w.core.clock + 1) ∷ []
  pub drawn : tx ≤ w.core.clock

abbrev pub HasShape : List Step → List Step → WholeState → List Step → List Step → Type 0
HasShape ws xs w us vs = IsQuiet us vs ⊎ (IsBegun w us vs ⊎ (IsTold ws us vs ⊎ (IsReadEnd ws xs us vs w ⊎ IsDrawnEnd us vs w)))

-- ---- lists that are quiet
quiet_same : (zs : List Step) → ArePlain zs → IsQuiet zs (zs ++ [])
quiet_same zs h = record { whole = h; own = subst ArePlain (sym (append-none zs)) h; aborts = λ u e. subst (λ l. is_aborted u l ≡ true) (sym (append-none zs)) e }

quiet_none : IsQuiet [] []
quiet_none = record { whole = tt; own = tt; aborts = λ u e. e }

plain_refused : (t : ℕ) (r : Refusal) → ArePlain (steps_of_refusal t r)
plain_refused t r = go (is_failure r)
  where
    go : (b : Bool) → ArePlain (cond b (Aborts t ∷ []) [])
    go true = (refl, tt)
    go false = tt

plain_done : (t : ℕ) (b : Bool) → ArePlain (cond b (Terminates t ∷ []) [])
plain_done t true = (refl, tt)
plain_done t false = tt

plain_unless : (t e : ℕ) (x : Option StampedTx) → ArePlain (steps_unless t e x)
plain_unless t e (Some x) = tt
plain_unless t e None = (refl, tt)

quiet_failed : (s : State) (t : ℕ) (r : Refusal) → IsQuiet (steps_of_refusal t r) (trace_of s (core_failed t r))
quiet_failed s t r = go (is_failure r)
  where
    go : (b : Bool) → IsQuiet (cond b (Aborts t ∷ []) []) (trace_of s (cond b (rolled_back t) []))
    go true = record { whole = (refl, tt); own = (refl, tt); aborts = λ u e. e }
    go false = quiet_none

quiet_settled : (s : State) (t : ℕ) (x : Option StampedTx) → IsQuiet (commits_unless t x) (trace_of s (unless_awaited t x))
quiet_settled s t (Some x) = quiet_none
quiet_settled s t None = record { whole = (refl, tt); own = (refl, tt); aborts = λ u e. absurd (false≢true e) }

-- ---- who is Active
found_phase : (s : State) (t : ℕ) (r : ActiveTx) → active_of t s.active ≡ Some r → phase_in s t ≡ IsActive
found_phase s t r e = ap (λ (a : Option ActiveTx). phase_by a (preparing_of t s.stamped) (ended_of t s.ended)) e

none_why : (r : Refusal) → ◌≡◌ {A = Option Refusal} (Some r) None → ⊥
none_why r e = cc

reading_do : (s : State) (t : ℕ) (op : Op) (p : ReaderStage) → why_not_reader s p (Do t op) ≡ None → phase_at_stage t p ≡ IsActive
reading_do s t op Reading w = refl
reading_do s t op (Preparing n v) w = absurd (none_why NotActive w)
reading_do s t op Committed w = absurd (none_why Ended w)
reading_do s t op Aborted w = absurd (none_why Ended w)

-- ---- each call
other_shape : (opening : Map) (ws xs : List Step) (w : WholeState) (c : Call) (r : Result) → stage_named w.readers (id_named c) ≡ None → MayComeAtStage w c None r → IsWholeKept opening ws xs w → HasShape ws xs w (steps_of w.core c r) (trace_of w.core (core_other c r))
other_shape opening ws xs w Begin Accepted e m h = inr (inl (record { whole = refl; own = refl }))
other_shape opening ws xs w (Do t op) Accepted e m h =
    let found = active_done w.core t op m.0 in
    inr (inr (inl (record { tx = t; op = op; answer = answer_in w.core t op; whole = refl; own = refl; active = h.phases t e ∙ h.kept.after_trace.phases t ∙ found_phase w.core t found.0 found.1 })))
other_shape opening ws xs w (Precommit t) Accepted e m h =
    let found = active_after_prepare w.core t m.0 in
    let mine = active_holds (IsActiveTx w.core.base w.core.stamped w.core.clock) t w.core.active found.0 found.1 h.kept.sound.active in
    inr (inr (inr (inr (record { tx = t; whole = refl; own = refl; drawn = let d = mine.0.drawn in let i = mine.1 in omega arith }))))
other_shape opening ws xs w (Validate t) Accepted e m h = inl (quiet_same (Checks t ∷ []) (refl, tt))
other_shape opening ws xs w (Settle t) Accepted e m h = inl (quiet_same (steps_unless t (end_of w.core t) (awaited w.core t)) (plain_unless t (end_of w.core t) (awaited w.core t)))
other_shape opening ws xs w (Rollback t) Accepted e m h = inl (quiet_same (Aborts t ∷ []) (refl, tt))
other_shape opening ws xs w (Finish t) Accepted e m h = inl (quiet_same (cond (is_done w.core t) (Terminates t ∷ []) []) (plain_done t (is_done w.core t)))
other_shape opening ws xs w (Trim k) Accepted e m h = inl quiet_none
other_shape opening ws xs w (Close fits g full) Accepted e m h = inl quiet_none
other_shape opening ws xs w Begin (Refused q) e m h = inl quiet_none
other_shape opening ws xs w (Do t op) (Refused q) e m h = inl (quiet_same (steps_of_refusal t q) (plain_refused t q))
other_shape opening ws xs w (Precommit t) (Refused q) e m h = inl (quiet_same (steps_of_refusal t q) (plain_refused t q))
other_shape opening ws xs w (Validate t) (Refused q) e m h = inl (quiet_same (steps_of_refusal t q) (plain_refused t q))
other_shape opening ws xs w (Settle t) (Refused q) e m h = inl (quiet_same (steps_of_refusal t q) (plain_refused t q))
other_shape opening ws xs w (Rollback t) (Refused q) e m h = inl quiet_none
other_shape opening ws xs w (Finish t) (Refused q) e m h = inl quiet_none
other_shape opening ws xs w (Trim k) (Refused q) e m h = inl quiet_none
other_shape opening ws xs w (Close fits g full) (Refused q) e m h = inl quiet_none

no_stage : (p : ReaderStage) → ◌≡◌ {A = Option ReaderStage} None (Some p) → ⊥
no_stage p e = cc

reader_shape : (opening : Map) (ws xs : List Step) (w : WholeState) (c : Call) (r : Result) (p : ReaderStage) → stage_named w.readers (id_named c) ≡ Some p → MayComeAtStage w c (Some p) r → IsWholeKept opening ws xs w → HasShape ws xs w (reader_steps w.core c r) (trace_of w.core (core_reader w.core c r))
reader_shape opening ws xs w Begin r p e m h = absurd (no_stage p e)
reader_shape opening ws xs w (Trim k) r p e m h = absurd (no_stage p e)
reader_shape opening ws xs w (Close fits g full) r p e m h = absurd (no_stage p e)
reader_shape opening ws xs w (Do t op) Accepted p e m h =
    inr (inr (inl (record { tx = t; op = op; answer = answer_in w.core t op; whole = refl; own = refl; active = (core_stands ws xs w.core t w.readers p e h.readers).1 ∙ reading_do w.core t op p m.0 })))
reader_shape opening ws xs w (Precommit t) Accepted p e m h =
    let at = core_stands ws xs w.core t w.readers p e h.readers in
    inr (inr (inr (inl (record { tx = t; whole = refl; own = refl; idle = at.2; drawn = at.3 }))))
reader_shape opening ws xs w (Validate t) Accepted p e m h = inl (record { whole = (refl, tt); own = tt; aborts = λ u q. absurd (false≢true q) })
reader_shape opening ws xs w (Settle t) Accepted p e m h = inl (quiet_settled w.core t (awaited_by_reader w.core t))
reader_shape opening ws xs w (Rollback t) Accepted p e m h = inl (quiet_same (Aborts t ∷ []) (refl, tt))
reader_shape opening ws xs w (Finish t) Accepted p e m h = inl (quiet_same (cond (is_done w.core t) (Terminates t ∷ []) []) (plain_done t (is_done w.core t)))
reader_shape opening ws xs w (Do t op) (Refused q) p e m h = inl (quiet_failed w.core t q)
reader_shape opening ws xs w (Precommit t) (Refused q) p e m h = inl (quiet_failed w.core t q)
reader_shape opening ws xs w (Validate t) (Refused q) p e m h = inl (quiet_failed w.core t q)
reader_shape opening ws xs w (Settle t) (Refused q) p e m h = inl (quiet_failed w.core t q)
reader_shape opening ws xs w (Rollback t) (Refused q) p e m h = inl quiet_none
reader_shape opening ws xs w (Finish t) (Refused q) p e m h = inl quiet_none

pub call_shape : (opening : Map) (ws xs : List Step) (w : WholeState) (a : WholeCall) (r : Result) → MayComeWhole w a r → IsWholeKept opening ws xs w → HasShape ws xs w (steps_of_whole_call w a r) (trace_of w.core (core_calls w a r))
call_shape opening ws xs w BeginReadOnly Accepted m h = inr (inl (record { whole = refl; own = refl }))
call_shape opening ws xs w BeginReadOnly (Refused q) m h = inl quiet_none
call_shape opening ws xs w (CoreCall c) r m h = go (stage_named w.readers (id_named c)) refl m
  where
    go : (p : Option ReaderStage) → stage_named w.readers (id_named c) ≡ p → MayComeAtStage w c p r → HasShape ws xs w (steps_at_stage w.core c r p) (trace_of w.core (core_at_stage w.core c r p))
    go None e k = other_shape opening ws xs w c r e k h
    go (Some p) e k = reader_shape opening ws xs w c r p e k h
