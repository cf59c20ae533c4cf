-- A reply to a world that stands after a past is justified by the past, and what it is in the trace is what its call is.
use Rattle.std.proofs.Common.{◌≡◌, ℕ, List, [], ◌∷◌, ◌++◌, ◌+◌, Bool, true, false, cond, not, Option, None, Some, length, refl, sym, ap, ◌∙◌, subst}
use Rattle.std.specs.Prelude.{nat_le, ◌==◌, ⊤}
use Rattle.std.proofs.lemmas.Bool.{leb-true, leb-false}
use Rattle.mvo_types.specs.declared.ids.TxId.{TxId}
use Rattle.mvo_types.specs.declared.ids.Stamp.{Stamp}
use Rattle.mvo_types.specs.declared.answer.Answer.{Answer}
use Rattle.mvo_types.specs.declared.op.Op.{Op}
use Rattle.mvo_types.specs.declared.refusal.Refusal.{Refusal}
use Rattle.mvo_types.specs.declared.refusal.Refusal.TheVariants.{NothingToDo}
use Rattle.mvo_types.specs.AnswerData.{answer_data, AnswerData}
use Rattle.std.specs.List.{filter}
use Rattle.mvo_model.specs.Trace.{history_of, phase_of}
use Rattle.mvo_model.specs.Trace.Phase.{Preparing}
use Rattle.mvo_model.specs.Trace.Step.{Answers, Prepares, Checks, Aborts, Terminates}
use Rattle.mvo_disk.specs.declared.disk.Disk.{Ghosts}
use Rattle.mvo_theory.specs.Entries.{entries}
use Rattle.mvo_theory.specs.State.{StampedTx, State}
use Rattle.mvo_theory.specs.Causes.{awaited, end_of}
use Rattle.mvo_theory.specs.Counts.{checks_in}
use Rattle.mvo_theory.specs.Words.{is_done}
use Rattle.mvo_theory.specs.Calls.{Call, Result, answer_in, steps_unless, steps_of_refused}
use Rattle.mvo_theory.specs.Calls.Call.{Begin as BeginCall, Precommit as PrecommitCall, Validate as ValidateCall, Settle as SettleCall, Rollback as RollbackCall, Finish as FinishCall, Do as DoCall, Trim as TrimCall}
use Rattle.mvo_theory.specs.Calls.Result.{Accepted, Refused as RefusedCall}
use Rattle.mvo_theory.specs.rests.Course.{Course}
use Rattle.mvo_theory.specs.rests.Laws.{TellsSettling}
use Rattle.mvo_readonly.specs.Whole.{ReaderStage, WholeState, id_named, stage_of, stage_named}
use Rattle.mvo_readonly.specs.WholeCauses.{WholeCall, MayComeWhole, awaited_by_reader}
use Rattle.mvo_readonly.specs.WholeCauses.WholeCall.{CoreCall, BeginReadOnly as BeginReadOnlyCall}
use Rattle.mvo_readonly.specs.WholeCalls.{commits_unless, steps_at_stage, steps_of_whole_call}
use Rattle.mvo_readonly.specs.rests.Answers.{is_valid_at_stage, end_at_stage}
use Rattle.mvo_readonly.specs.rests.Laws.{awaited_at_stage}
use Rattle.mvo_readonly.proofs.rests.Answering.{clock_drawn, answers_whole, checks_whole, settles_at_end}
use Rattle.mvo_readonly.proofs.rests.Justifying.{whole_settles}
use Rattle.mvo_core.specs.declared.answers.Validation.{Validation}
use Rattle.mvo_core.specs.declared.answers.Validation.TheVariants.{More, Valid}
use Rattle.mvo_core.specs.declared.answers.Settlement.{Settlement}
use Rattle.mvo_core.specs.declared.answers.Finishing.TheVariants.{More, Done}
use Rattle.mvo_core.specs.declared.answers.Finishing as finishing
use Rattle.mvo_core.specs.Steps.{settled_as}
use Rattle.mvo_core.specs.WholeAnswers.{IsFinishingWhole}
use Rattle.mvo_core.specs.WholeEnds.{end_by_stage, valid_by_stage, reader_settled_as, settled_by_stage, IsEndWhole, IsValidationWhole, IsSettlementWhole}
use Rattle.mvo_world.specs.WorldData.{WorldData}
use Rattle.mvo_world.specs.Past.{Past, course_of, happened, mores_after}
use Rattle.mvo_world.specs.Standing.{IsAfter}
use Rattle.mvo_world.specs.Justified.{IsJust, IsNextStamp, IsJustEnd, IsJustOperation, IsJustCheck, IsJustSettlement, IsJustFinishing, IsJustifiedBy}
use Rattle.mvo_world.specs.Forgetting.{IsJustTrim, MayBeTrimmed}
use Rattle.mvo_world.proofs.Finishing.{mores_with}
use Rattle.mvo_world.proofs.WholeJustified.{just_whole, just_begins, end_whole, finishing_whole, trimmed_whole, not_trimmed_whole}
use Rattle.mvo_world.specs.Replies.{IsAskedWhole, IsAsked, IsOpAnswered, IsDrawn, IsReplyTo}
use Rattle.mvo_world.specs.declared.event.Event.{Event}
use Rattle.mvo_world.specs.declared.event.Event.TheVariants.{Begin, BeginReadOnly, Do, Precommit, Validate, Settle, Rollback, Finish, Collect, Trim, CloseGroup}
use Rattle.mvo_world.specs.declared.reply.Reply.{Reply}
use Rattle.mvo_world.specs.declared.reply.Reply.TheVariants.{Began, Answered, Prepared, Validated, Settled, RolledBack, Finished, Trimmed, Refused}

-- neither a collection nor the closing of a group
abbrev pub IsNoClosing : Event → Type 0
IsNoClosing Collect = ⊥
IsNoClosing CloseGroup = ⊥
IsNoClosing e = ⊤

module _ {D : Type 0} (d : Ghosts D) (p : Past) (w : WorldData D) (h : IsAfter d p w) where
  abbrev course : Course
  course = course_of p

  may : {a : WholeCall} {r : Result} {w' : WorldData D} → IsAskedWhole w a r w' → MayComeWhole h.state a r
  may asked = (asked.leads p.rows p.steps h.own.steps h.state h.core).may

  -- what the call came to
  just : (c : Call) (r : Result) (w' : WorldData D) → IsAsked w c r w' → IsJust p c r
  just c r w' asked = just_whole p.read_only course h.own h.state h.followed h.readers c r (may asked)

  begins : (r : Result) (w' : WorldData D) → IsAskedWhole w BeginReadOnlyCall r w' → IsJust p BeginCall r
  begins r w' asked = just_begins p.read_only course h.own h.state h.followed h.readers r (may asked)

  drawn : (n : ℕ) → IsDrawn w n → IsNextStamp p n
  drawn n e = e p.rows p.steps h.own.steps h.state h.core ∙ ap (λ (m : ℕ). m + 1) (clock_drawn course h.own h.state h.followed)

  ends : (t : ℕ) (e : Stamp) (w' : WorldData D) → IsAsked w (PrecommitCall t) Accepted w' → IsEndWhole w.core t e → IsJustEnd p t e.0
  ends t e w' asked is = subst (IsJustEnd p t) (sym (is p.rows p.steps h.own.steps h.state h.core)) (end_whole p.read_only course h.own h.state h.followed h.readers t (may asked))

  done : (t : ℕ) (o : Op) (a : Answer) (w' : WorldData D) → IsOpAnswered w t o a w' → IsJustOperation p t o (Answered a)
  done t o a w' q = (
    just (DoCall t o) Accepted w' q.0,
    q.1 p.rows p.steps h.own.steps h.state h.core ∙ answers_whole course h.own h.state h.followed t o (may q.0),
  )

  check : (t : ℕ) (v : Validation) (w' : WorldData D) → IsAsked w (ValidateCall t) Accepted w' → IsValidationWhole w.core t v → IsJustCheck p t v
  check t v w' asked e = go (nat_le entry_count checks) refl (e p.rows p.steps h.own.steps h.state h.core ∙ ap (λ (b : Bool). cond b Valid More) (same (stage_of t h.state.readers) ∙ checks_whole course h.own h.state h.followed t (may asked)))
    where
      entry_count : ℕ
      entry_count = length (entries (history_of t p.steps))

      checks : ℕ
      checks = checks_in t p.steps + 1

      same : (v : Option ReaderStage) → valid_by_stage h.state.core t v ≡ is_valid_at_stage h.state.core t v
      same None = refl
      same (Some s) = refl

      go : (b : Bool) → nat_le entry_count checks ≡ b → v ≡ cond b Valid More → IsJustCheck p t v
      go true f g = subst (IsJustCheck p t) (sym g) (leb-true entry_count checks f)
      go false f g = subst (IsJustCheck p t) (sym g) (leb-false entry_count checks f)

  settlement : (t : ℕ) (a : Settlement) (w' : WorldData D) → IsAsked w (SettleCall t) Accepted w' → IsSettlementWhole w.core t a → IsJustSettlement p t a
  settlement t a w' asked e = by (stage_of t h.state.readers) (whole_settles course h.own h.state h.followed t (may asked)) (settles_at_end course h.own h.state h.followed t (may asked)) (e p.rows p.steps h.own.steps h.state h.core)
    where
      go : (v : Option StampedTx) → TellsSettling course t v → phase_of t p.steps ≡ Preparing (end_of h.state.core t) → a ≡ settled_as h.state.core t v → IsJustSettlement p t a
      go None told ends g = subst (IsJustSettlement p t) (sym g) (ends, told)
      go (Some y) told ends g = subst (IsJustSettlement p t) (sym g) told

      reads : (v : Option StampedTx) → TellsSettling course t v → phase_of t p.steps ≡ Preparing t → a ≡ reader_settled_as t v → IsJustSettlement p t a
      reads None told ends g = subst (IsJustSettlement p t) (sym g) (ends, told)
      reads (Some y) told ends g = subst (IsJustSettlement p t) (sym g) told

      by : (v : Option ReaderStage) → TellsSettling course t (awaited_at_stage h.state.core t v) → phase_of t p.steps ≡ Preparing (end_at_stage h.state.core t v) → a ≡ settled_by_stage h.state.core t v → IsJustSettlement p t a
      by None told ends g = go (awaited h.state.core t) told ends g
      by (Some s) told ends g = reads (awaited_by_reader h.state.core t) told ends g

  finishing_so : (t : ℕ) (a : finishing.Finishing) (w' : WorldData D) → IsAsked w (FinishCall t) Accepted w' → IsFinishingWhole w.core t a → IsJustFinishing p t a
  finishing_so t a w' asked e = go (is_done h.state.core t) refl (e p.rows p.steps h.own.steps h.state h.core)
    where
      go : (b : Bool) → is_done h.state.core t ≡ b → a ≡ cond b Done More → IsJustFinishing p t a
      go true f g = subst (IsJustFinishing p t) (sym g) ((finishing_whole p.read_only course h.own h.state h.followed h.readers p.mores h.words t (may asked)).0 f)
      go false f g = subst (IsJustFinishing p t) (sym g) ((finishing_whole p.read_only course h.own h.state h.followed h.readers p.mores h.words t (may asked)).1 f)

  trim : (m : ℕ) (w' : WorldData D) → IsAsked w (TrimCall m) Accepted w' → MayBeTrimmed p m
  trim m w' asked = trimmed_whole p.read_only course h.own h.state h.followed h.readers m (may asked)

  no_trim : (m : ℕ) (w' : WorldData D) → IsAsked w (TrimCall m) (RefusedCall NothingToDo) w' → MayBeTrimmed p m → ⊥
  no_trim m w' asked = not_trimmed_whole p.read_only course h.own h.state h.followed h.readers m (may asked)

  -- of each event but a collection and the closing of a group
  pub justified_reply : (e : Event) (r : Reply) (w' : WorldData D) → IsNoClosing e → IsReplyTo d w e r w' → IsJustifiedBy p e r
  justified_reply Begin (Began t) w' o q = (just BeginCall Accepted w' q.0, drawn t.0 q.1)
  justified_reply Begin (Refused r) w' o q = just BeginCall (RefusedCall r) w' q
  justified_reply BeginReadOnly (Began t) w' o q = (begins Accepted w' q.0, drawn t.0 q.1)
  justified_reply BeginReadOnly (Refused r) w' o q = begins (RefusedCall r) w' q
  justified_reply (Do t op) (Answered a) w' o q = done t.0 op a w' q
  justified_reply (Do t op) (Refused r) w' o q = just (DoCall t.0 op) (RefusedCall r) w' q
  justified_reply (Precommit t) (Prepared e) w' o q = (just (PrecommitCall t.0) Accepted w' q.0, ends t.0 e w' q.0 q.1)
  justified_reply (Precommit t) (Refused r) w' o q = just (PrecommitCall t.0) (RefusedCall r) w' q
  justified_reply (Validate t) (Validated v) w' o q = (just (ValidateCall t.0) Accepted w' q.0, check t.0 v w' q.0 q.1)
  justified_reply (Validate t) (Refused r) w' o q = just (ValidateCall t.0) (RefusedCall r) w' q
  justified_reply (Settle t) (Settled a) w' o q = (just (SettleCall t.0) Accepted w' q.0, settlement t.0 a w' q.0 q.1)
  justified_reply (Settle t) (Refused r) w' o q = just (SettleCall t.0) (RefusedCall r) w' q
  justified_reply (Rollback t) RolledBack w' o q = just (RollbackCall t.0) Accepted w' q
  justified_reply (Rollback t) (Refused r) w' o q = just (RollbackCall t.0) (RefusedCall r) w' q
  justified_reply (Finish t) (Finished a) w' o q = (just (FinishCall t.0) Accepted w' q.0, finishing_so t.0 a w' q.0 q.1)
  justified_reply (Finish t) (Refused r) w' o q = just (FinishCall t.0) (RefusedCall r) w' q
  justified_reply (Trim upto) (Trimmed stamp) w' o q = trim upto.0 w' q.1.asked
  justified_reply (Trim upto) (Refused r) w' o q = subst (λ (v : Refusal). IsJustTrim p upto.0 (Refused v)) (sym q.0) (no_trim upto.0 w' (subst (λ (v : Refusal). IsAsked w (TrimCall upto.0) (RefusedCall v) w') q.0 q.1))
  justified_reply Collect r w' o q = absurd o
  justified_reply CloseGroup r w' o q = absurd o
  justified_reply e r w' o q = search

-- ---- what it is in the trace is what its call is
-- a refusal is in the trace what it is of another
pub refused_is : (w : WholeState) (c : Call) (r : Refusal) → steps_of_refused c r ≡ steps_of_whole_call w (CoreCall c) (RefusedCall r)
refused_is w c r = go (stage_named w.readers (id_named c))
  where
    go : (v : Option ReaderStage) → steps_of_refused c r ≡ steps_at_stage w.core c (RefusedCall r) v
    go None = refl
    go (Some s) = refl

-- the answer to an operation is that of the serial step on the snapshot
pub answered : (w : WholeState) {t : ℕ} {o : Op} (a : Answer) → answer_data a ≡ answer_in w.core t o → Answers t o (answer_data a) ∷ [] ≡ steps_of_whole_call w (CoreCall (DoCall t o)) Accepted
answered w {t} {o} a e = ap (λ (x : AnswerData). Answers t o x ∷ []) e ∙ go (stage_of t w.readers)
  where
    go : (v : Option ReaderStage) → Answers t o (answer_in w.core t o) ∷ [] ≡ steps_at_stage w.core (DoCall t o) Accepted v
    go None = refl
    go (Some s) = refl

-- a precommit draws its end, or gets the begin
pub prepared : (w : WholeState) (t : TxId) (e : Stamp) → e.0 ≡ end_by_stage w.core t.0 (stage_of t.0 w.readers) → happened (Precommit t) (Prepared e) ≡ steps_of_whole_call w (CoreCall (PrecommitCall t.0)) Accepted
prepared w t e is = ap (λ (n : ℕ). Prepares t.0 n ∷ []) is ∙ go (stage_of t.0 w.readers)
  where
    go : (v : Option ReaderStage) → Prepares t.0 (end_by_stage w.core t.0 v) ∷ [] ≡ steps_at_stage w.core (PrecommitCall t.0) Accepted v
    go None = refl
    go (Some s) = refl

pub checked : (w : WholeState) (t : TxId) (a : Validation) → happened (Validate t) (Validated a) ≡ steps_of_whole_call w (CoreCall (ValidateCall t.0)) Accepted
checked w t a = go (stage_of t.0 w.readers)
  where
    go : (v : Option ReaderStage) → Checks t.0 ∷ [] ≡ steps_at_stage w.core (ValidateCall t.0) Accepted v
    go None = refl
    go (Some s) = refl

pub undone : (w : WholeState) (t : TxId) → happened (Rollback t) RolledBack ≡ steps_of_whole_call w (CoreCall (RollbackCall t.0)) Accepted
undone w t = go (stage_of t.0 w.readers)
  where
    go : (v : Option ReaderStage) → Aborts t.0 ∷ [] ≡ steps_at_stage w.core (RollbackCall t.0) Accepted v
    go None = refl
    go (Some s) = refl

-- one that waits is no step
pub settled : (w : WholeState) (t : TxId) (a : Settlement) → a ≡ settled_by_stage w.core t.0 (stage_of t.0 w.readers) → happened (Settle t) (Settled a) ≡ steps_of_whole_call w (CoreCall (SettleCall t.0)) Accepted
settled w t a e = ap (λ (b : Settlement). happened (Settle t) (Settled b)) e ∙ by (stage_of t.0 w.readers)
  where
    go : (x : Option StampedTx) → happened (Settle t) (Settled (settled_as w.core t.0 x)) ≡ steps_unless t.0 (end_of w.core t.0) x
    go None = refl
    go (Some x) = refl

    reads : (x : Option StampedTx) → happened (Settle t) (Settled (reader_settled_as t.0 x)) ≡ commits_unless t.0 x
    reads None = refl
    reads (Some x) = refl

    by : (v : Option ReaderStage) → happened (Settle t) (Settled (settled_by_stage w.core t.0 v)) ≡ steps_at_stage w.core (SettleCall t.0) Accepted v
    by None = go (awaited w.core t.0)
    by (Some s) = reads (awaited_by_reader w.core t.0)

-- nor is a word that leaves others, which is one More
pub finished : (w : WholeState) (t : TxId) (a : finishing.Finishing) → a ≡ cond (is_done w.core t.0) Done More → happened (Finish t) (Finished a) ≡ steps_of_whole_call w (CoreCall (FinishCall t.0)) Accepted
finished w t a e = ap (λ (b : finishing.Finishing). happened (Finish t) (Finished b)) e ∙ go (is_done w.core t.0) ∙ by (stage_of t.0 w.readers)
  where
    go : (b : Bool) → happened (Finish t) (Finished (cond b Done More)) ≡ cond b (Terminates t.0 ∷ []) []
    go true = refl
    go false = refl

    by : (v : Option ReaderStage) → cond (is_done w.core t.0) (Terminates t.0 ∷ []) [] ≡ steps_at_stage w.core (FinishCall t.0) Accepted v
    by None = refl
    by (Some s) = refl

pub counted : (s : State) (t : TxId) (a : finishing.Finishing) → a ≡ cond (is_done s t.0) Done More → (ms : List ℕ) → mores_after (Finish t) (Finished a) ms ≡ mores_with s (FinishCall t.0) Accepted ms
counted s t a e ms = ap (λ (b : finishing.Finishing). mores_after (Finish t) (Finished b) ms) e ∙ go (is_done s t.0)
  where
    go : (b : Bool) → mores_after (Finish t) (Finished (cond b Done More)) ms ≡ cond b (filter (λ u. not (u == t.0)) ms) (ms ++ t.0 ∷ [])
    go true = refl
    go false = refl
