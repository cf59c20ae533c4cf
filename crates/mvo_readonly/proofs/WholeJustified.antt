-- Each call's answer or refusal is justified by the whole trace: of the others, what stands by the
-- core's own trace stands by the whole, and the other way round.
use Rattle.std.proofs.Common.{◌≡◌, ℕ, ◌+◌, ◌-◌, ◌≤◌, Bool, true, false, cond, ◌||◌, List, Option, None, Some, length, refl, sym, ap, ◌∙◌, subst}
use Rattle.std.specs.Prelude.{nat_lt, nat_le, ◌&&◌, is_some, slice_get}
use Rattle.std.specs.FinMap as fin
use Rattle.mvo_types.specs.declared.limits.TheConstants.{MAX_STAMP, MAX_UNFINISHED}
use Rattle.mvo_types.specs.declared.row.RowKey.{RowKey}
use Rattle.mvo_types.specs.declared.ids.Stamp.{Stamp}
use Rattle.mvo_types.specs.declared.op.Op.{Op}
use Rattle.mvo_types.specs.declared.op.Op.TheVariants.{Read, Scan, Insert, Update, Delete}
use Rattle.mvo_types.specs.declared.cause.Cause.{Cause}
use Rattle.mvo_types.specs.declared.entry.Entry.{Entry}
use Rattle.mvo_types.specs.declared.refusal.Refusal.{Refusal}
use Rattle.mvo_types.specs.declared.refusal.Refusal.TheVariants.{NoSuchTransaction, Ended, NotActive, NotPreparing, NotValidated, NotEnded, WriteConflict, ValidationFailed, DependencyAborted, TableFull, TooManyWrites, TooManyReads, DataTooLong, BadTable, ClockSpent, OutOfMemory}
use Rattle.mvo_types.specs.Keys.{Map}
use Rattle.mvo_model.specs.History.{net_write}
use Rattle.mvo_model.specs.Trace.{Step, Phase, history_of, phase_of}
use Rattle.mvo_model.specs.Trace.Phase.{Absent, Active as IsActive, Preparing as IsPreparing, Committed as IsCommitted, Aborted as IsAborted}
use Rattle.mvo_theory.specs.Entries.{entry_of, entries}
use Rattle.mvo_theory.specs.State.{State, StampedTx, EndedTx, active_of, preparing_of, ended_of}
use Rattle.mvo_theory.specs.Phases.{is_active, is_preparing, is_ended}
use Rattle.mvo_theory.specs.Causes.{is_entry_too_many, why_not_settle}
use Rattle.mvo_theory.specs.Snapshots.{is_aborted}
use Rattle.mvo_theory.specs.Calls.{Call, Result, IsRefusal, MayCome}
use Rattle.mvo_theory.specs.Calls.Call.{Begin, Do, Precommit, Validate, Settle, Rollback, Finish, Trim, Close}
use Rattle.mvo_theory.specs.Calls.Result.{Accepted, Refused}
use Rattle.mvo_theory.specs.Counts.{draws, is_begin, is_finish, unfinished_in, checks_in, is_validated}
use Rattle.mvo_theory.specs.Sound.{how_many}
use Rattle.mvo_theory.specs.Conflicts.{IsInTheWay}
use Rattle.mvo_theory.specs.Differences.{DiffersBy, next_entry, NextDiffers, NextDiffersLast}
use Rattle.mvo_theory.specs.Justified.{IsWriteTooMany, Conflicts, StandsAgainst, CauseStands, NoCauseStands, FlaggedBy, IsJustRefusal, IsJustified}
use Rattle.mvo_theory.proofs.Each.{each_back}
use Rattle.mvo_theory.proofs.Cases.{settle_not, not_preparing, not_there_by}
use Rattle.mvo_theory.proofs.Justified.{justified}
use Rattle.mvo_theory.proofs.LastWriter.{found_in, preparing_there}
use Rattle.mvo_readonly.specs.Whole.{WholeState, stage_of, id_named, stage_named}
use Rattle.mvo_readonly.specs.WholeCauses.{MayComeAtStage}
use Rattle.mvo_readonly.specs.WholeKept.{IsWholeKept}
use Rattle.mvo_readonly.specs.BothTraces.{IsMatched, AreGiven, IsRemembered, IsRecalled}
use Rattle.mvo_readonly.specs.WholeCounts.{HasWholeCounts}
use Rattle.mvo_readonly.proofs.Others.{may_come}
use Rattle.mvo_readonly.proofs.Flags.{flag_whole}
use Rattle.mvo_readonly.proofs.Snapshots.{snapshot_whole}
use Rattle.mvo_readonly.proofs.Naming.{ends_whole, changed_whole, named_whole}
use Rattle.mvo_readonly.proofs.Differing.{differs_own}
use Rattle.mvo_readonly.proofs.Conflicting.{in_the_way_own}

-- a settling is refused as not validated only where the transaction is Preparing
not_validated : (s : State) (t : ℕ) → why_not_settle s t ≡ Some NotValidated → (x : StampedTx) × (preparing_of t s.stamped ≡ Some x)
not_validated s t e = go (preparing_of t s.stamped) refl
  where
    same : (a b : Refusal) → ◌≡◌ {A = Option Refusal} (Some a) (Some b) → a ≡ b
    same a b q = cc

    never : (b : Bool) (u : Option EndedTx) → cond b NotPreparing (not_there_by u) ≡ NotValidated → ⊥
    never true u q = absurd cc
    never false (Some u) q = absurd cc
    never false None q = absurd cc

    go : (w : Option StampedTx) → preparing_of t s.stamped ≡ w → (x : StampedTx) × (preparing_of t s.stamped ≡ Some x)
    go (Some x) f = (x, f)
    go None f = absurd (never (is_some (active_of t s.active)) (ended_of t s.ended) (same (not_preparing s t) NotValidated (sym (settle_not s t f) ∙ e)))

module _ (opening : Map) (ws xs : List Step) (w : WholeState) (h : IsWholeKept opening ws xs w) (p : IsMatched ws xs w) (g : AreGiven opening ws xs w) (m : IsRemembered opening ws xs) (q : IsRecalled opening ws xs) (n : HasWholeCounts w.core.marks.opening ws xs w) where
  abbrev mark : ℕ
  mark = w.core.marks.opening

  pub open_alive : (t : ℕ) (x : StampedTx) → preparing_of t w.core.stamped ≡ Some x → is_aborted t xs ≡ false
  open_alive t x f =
      let i = found_in t w.core.stamped x f in
      subst (λ (u : ℕ). is_aborted u xs ≡ false) i.1 (i.0 (λ y. is_aborted y.id xs ≡ false) (each_back (λ y. is_aborted y.id xs ≡ false) w.core.past w.core.stamped h.kept.has_ends.stamped))

  preparing_alive : (t e : ℕ) → phase_of t xs ≡ IsPreparing e → is_aborted t xs ≡ false
  preparing_alive t e f =
      let x = preparing_there (active_of t w.core.active) (preparing_of t w.core.stamped) (ended_of t w.core.ended) e (sym (h.kept.after_trace.phases t) ∙ f) in
      open_alive t x.0 x.1

  same_next : (t e : ℕ) → stage_of t w.readers ≡ None → phase_of t xs ≡ IsPreparing e → next_entry t ws ≡ next_entry t xs
  same_next t e o f =
      ap (λ ts. slice_get (entries ts) (checks_in t ws)) (h.histories t)
      ∙ ap (λ (c : ℕ). slice_get (entries (history_of t xs)) c) (n.checks t o (preparing_alive t e f))

  same_validated : (t : ℕ) → stage_of t w.readers ≡ None → is_aborted t xs ≡ false → is_validated t ws ≡ is_validated t xs
  same_validated t o f =
      ap (λ ts. nat_lt 0 (checks_in t ws) && nat_le (length (entries ts)) (checks_in t ws)) (h.histories t)
      ∙ ap (λ (c : ℕ). nat_lt 0 c && nat_le (length (entries (history_of t xs))) c) (n.checks t o f)

  same_unfinished : unfinished_in ws ≡ unfinished_in xs
  same_unfinished = ap (λ (c : ℕ). c - how_many is_finish ws) n.begun ∙ ap (λ (c : ℕ). how_many is_begin xs - c) n.finished

  same_draws : mark + draws ws ≡ mark + draws xs
  same_draws = ap (λ (c : ℕ). mark + c) n.drawn

  -- ---- 20
  way_whole : (t : ℕ) (k : RowKey) (c : Cause) → IsInTheWay opening mark xs t k c → IsInTheWay opening mark ws t k c
  way_whole t k c d = record {
    stands = ap (λ (l : Map). fin.contains_key l k) (snapshot_whole opening ws xs w t h p g) ∙ d.stands;
    unwritten = ap (λ ts. is_some (net_write k ts)) (h.histories t) ∙ d.unwritten;
    named = named_whole opening ws xs w t k c h m d.named;
  }

  conflicts_whole : (t : ℕ) (op : Op) (c : Cause) → Conflicts opening mark xs t op c → Conflicts opening mark ws t op c
  conflicts_whole t (Read k) c d = absurd d
  conflicts_whole t (Scan table lo hi) c d = absurd d
  conflicts_whole t (Insert row) c d = absurd d
  conflicts_whole t (Update row) c d = way_whole t row.key c d
  conflicts_whole t (Delete k) c d = way_whole t k c d

  conflicts_own : (t : ℕ) (op : Op) (c : Cause) → Conflicts opening mark ws t op c → Conflicts opening mark xs t op c
  conflicts_own t (Read k) c d = absurd d
  conflicts_own t (Scan table lo hi) c d = absurd d
  conflicts_own t (Insert row) c d = absurd d
  conflicts_own t (Update row) c d = in_the_way_own opening ws xs w mark t row.key c h p g q d
  conflicts_own t (Delete k) c d = in_the_way_own opening ws xs w mark t k c h p g q d

  -- ---- 21
  differs_both : (b e k : ℕ) (entry : Entry) → DiffersBy opening xs entry b e k → DiffersBy opening ws entry b e k
  differs_both b e k entry d = record {
    writer = d.writer;
    ends = ends_whole opening ws xs w d.writer k h d.ends;
    above = d.above;
    below = d.below;
    changed = changed_whole opening ws xs w entry d.writer h g d.changed;
  }

  next_whole : (t k : ℕ) → stage_of t w.readers ≡ None → NextDiffers opening xs t k → NextDiffers opening ws t k
  next_whole t k o d = record {
    end' = d.end';
    preparing = h.phases t o ∙ d.preparing;
    entry = d.entry;
    next = same_next t d.end' o d.preparing ∙ d.next;
    differs = differs_both t d.end' k d.entry d.differs;
  }

  next_own : (t k : ℕ) → stage_of t w.readers ≡ None → NextDiffers opening ws t k → NextDiffers opening xs t k
  next_own t k o d =
      let i : phase_of t xs ≡ IsPreparing d.end' = sym (h.phases t o) ∙ d.preparing in
      record {
        end' = d.end';
        preparing = i;
        entry = d.entry;
        next = sym (same_next t d.end' o i) ∙ d.next;
        differs = differs_own opening ws xs w t d.end' k d.entry h g d.differs;
      }

  last_whole : (t k : ℕ) → stage_of t w.readers ≡ None → NextDiffersLast opening xs t k → NextDiffersLast opening ws t k
  last_whole t k o d = record { differs = next_whole t k o d.differs; greatest = λ j f. d.greatest j (next_own t j o f) }

  -- ---- an operation
  op_whole : (t : ℕ) (op : Op) (r : Refusal) → stage_of t w.readers ≡ None → StandsAgainst opening mark xs t op r → StandsAgainst opening mark ws t op r
  op_whole t op NoSuchTransaction o e = h.phases t o ∙ e
  op_whole t op Ended o e = ap is_ended (h.phases t o) ∙ e
  op_whole t op NotActive o e = ap is_preparing (h.phases t o) ∙ e
  op_whole t op BadTable o e = e
  op_whole t op DataTooLong o e = e
  op_whole t op TooManyReads o e = ap (λ ts. is_entry_too_many ts (entry_of op)) (h.histories t) ∙ e
  op_whole t op TooManyWrites o e = subst (λ ts. IsWriteTooMany ts op) (sym (h.histories t)) e
  op_whole t op (WriteConflict c) o e = conflicts_whole t op c e
  op_whole t op r o e = e

  op_own : (t : ℕ) (op : Op) (r : Refusal) → stage_of t w.readers ≡ None → StandsAgainst opening mark ws t op r → StandsAgainst opening mark xs t op r
  op_own t op NoSuchTransaction o e = sym (h.phases t o) ∙ e
  op_own t op Ended o e = ap is_ended (sym (h.phases t o)) ∙ e
  op_own t op NotActive o e = ap is_preparing (sym (h.phases t o)) ∙ e
  op_own t op BadTable o e = e
  op_own t op DataTooLong o e = e
  op_own t op TooManyReads o e = ap (λ ts. is_entry_too_many ts (entry_of op)) (sym (h.histories t)) ∙ e
  op_own t op TooManyWrites o e = subst (λ ts. IsWriteTooMany ts op) (h.histories t) e
  op_own t op (WriteConflict c) o e = conflicts_own t op c e
  op_own t op r o e = e

  -- ---- the other calls
  begin_whole : (r : Refusal) → CauseStands opening mark xs Begin r → CauseStands opening mark ws Begin r
  begin_whole TableFull e = subst (λ (c : ℕ). MAX_UNFINISHED ≤ c) (sym same_unfinished) e
  begin_whole ClockSpent e = subst (λ (c : ℕ). MAX_STAMP ≤ c) (sym same_draws) e
  begin_whole r e = e

  begin_own : (r : Refusal) → CauseStands opening mark ws Begin r → CauseStands opening mark xs Begin r
  begin_own TableFull e = subst (λ (c : ℕ). MAX_UNFINISHED ≤ c) same_unfinished e
  begin_own ClockSpent e = subst (λ (c : ℕ). MAX_STAMP ≤ c) same_draws e
  begin_own r e = e

  precommit_whole : (t : ℕ) (r : Refusal) → stage_of t w.readers ≡ None → CauseStands opening mark xs (Precommit t) r → CauseStands opening mark ws (Precommit t) r
  precommit_whole t NoSuchTransaction o e = h.phases t o ∙ e
  precommit_whole t Ended o e = ap is_ended (h.phases t o) ∙ e
  precommit_whole t NotActive o e = ap is_preparing (h.phases t o) ∙ e
  precommit_whole t ClockSpent o e = subst (λ (c : ℕ). MAX_STAMP ≤ c) (sym same_draws) e
  precommit_whole t r o e = e

  precommit_own : (t : ℕ) (r : Refusal) → stage_of t w.readers ≡ None → CauseStands opening mark ws (Precommit t) r → CauseStands opening mark xs (Precommit t) r
  precommit_own t NoSuchTransaction o e = sym (h.phases t o) ∙ e
  precommit_own t Ended o e = ap is_ended (sym (h.phases t o)) ∙ e
  precommit_own t NotActive o e = ap is_preparing (sym (h.phases t o)) ∙ e
  precommit_own t ClockSpent o e = subst (λ (c : ℕ). MAX_STAMP ≤ c) same_draws e
  precommit_own t r o e = e

  validate_whole : (t : ℕ) (r : Refusal) → stage_of t w.readers ≡ None → CauseStands opening mark xs (Validate t) r → CauseStands opening mark ws (Validate t) r
  validate_whole t NoSuchTransaction o e = h.phases t o ∙ e
  validate_whole t Ended o e = ap is_ended (h.phases t o) ∙ e
  validate_whole t NotPreparing o e = h.phases t o ∙ e
  validate_whole t (ValidationFailed k) o e = next_whole t k.0 o e
  validate_whole t r o e = e

  validate_own : (t : ℕ) (r : Refusal) → stage_of t w.readers ≡ None → CauseStands opening mark ws (Validate t) r → CauseStands opening mark xs (Validate t) r
  validate_own t NoSuchTransaction o e = sym (h.phases t o) ∙ e
  validate_own t Ended o e = ap is_ended (sym (h.phases t o)) ∙ e
  validate_own t NotPreparing o e = sym (h.phases t o) ∙ e
  validate_own t (ValidationFailed k) o e = next_own t k.0 o e
  validate_own t r o e = e

  settle_whole : (t : ℕ) (r : Refusal) → stage_of t w.readers ≡ None → (r ≡ NotValidated → is_aborted t xs ≡ false) → CauseStands opening mark xs (Settle t) r → CauseStands opening mark ws (Settle t) r
  settle_whole t NoSuchTransaction o a e = h.phases t o ∙ e
  settle_whole t Ended o a e = ap is_ended (h.phases t o) ∙ e
  settle_whole t NotPreparing o a e = h.phases t o ∙ e
  settle_whole t NotValidated o a e = same_validated t o (a refl) ∙ e
  settle_whole t r o a e = e

  settle_own : (t : ℕ) (r : Refusal) → stage_of t w.readers ≡ None → is_aborted t xs ≡ false → CauseStands opening mark ws (Settle t) r → CauseStands opening mark xs (Settle t) r
  settle_own t NoSuchTransaction o a e = sym (h.phases t o) ∙ e
  settle_own t Ended o a e = ap is_ended (sym (h.phases t o)) ∙ e
  settle_own t NotPreparing o a e = sym (h.phases t o) ∙ e
  settle_own t NotValidated o a e = sym (same_validated t o a) ∙ e
  settle_own t r o a e = e

  rollback_whole : (t : ℕ) (r : Refusal) → stage_of t w.readers ≡ None → CauseStands opening mark xs (Rollback t) r → CauseStands opening mark ws (Rollback t) r
  rollback_whole t NoSuchTransaction o e = h.phases t o ∙ e
  rollback_whole t Ended o e = ap is_ended (h.phases t o) ∙ e
  rollback_whole t r o e = e

  rollback_own : (t : ℕ) (r : Refusal) → stage_of t w.readers ≡ None → CauseStands opening mark ws (Rollback t) r → CauseStands opening mark xs (Rollback t) r
  rollback_own t NoSuchTransaction o e = sym (h.phases t o) ∙ e
  rollback_own t Ended o e = ap is_ended (sym (h.phases t o)) ∙ e
  rollback_own t r o e = e

  finish_whole : (t : ℕ) (r : Refusal) → stage_of t w.readers ≡ None → CauseStands opening mark xs (Finish t) r → CauseStands opening mark ws (Finish t) r
  finish_whole t NoSuchTransaction o e = h.phases t o ∙ e
  finish_whole t NotEnded o e = ap (λ (f : Phase). is_active f || is_preparing f) (h.phases t o) ∙ e
  finish_whole t r o e = e

  finish_own : (t : ℕ) (r : Refusal) → stage_of t w.readers ≡ None → CauseStands opening mark ws (Finish t) r → CauseStands opening mark xs (Finish t) r
  finish_own t NoSuchTransaction o e = sym (h.phases t o) ∙ e
  finish_own t NotEnded o e = ap (λ (f : Phase). is_active f || is_preparing f) (sym (h.phases t o)) ∙ e
  finish_own t r o e = e

  -- one for which nothing stands against its settling is Preparing
  settles_alive : (t : ℕ) → NoCauseStands opening mark xs (Settle t) → is_aborted t xs ≡ false
  settles_alive t f = go (phase_of t xs) refl
    where
      go : (v : Phase) → phase_of t xs ≡ v → is_aborted t xs ≡ false
      go Absent e = absurd (f NoSuchTransaction e)
      go IsActive e = absurd (f NotPreparing e)
      go (IsPreparing k) e = preparing_alive t k e
      go (IsCommitted k) e = absurd (f Ended (ap is_ended e))
      go IsAborted e = absurd (f Ended (ap is_ended e))

  free : (c : Call) → stage_named w.readers (id_named c) ≡ None → NoCauseStands opening mark xs c → NoCauseStands opening mark ws c
  free Begin o f = λ r e. f r (begin_own r e)
  free (Do t op) o f = λ r e. f r (op_own t op r o e)
  free (Precommit t) o f = λ r e. f r (precommit_own t r o e)
  free (Validate t) o f = λ r e. f r (validate_own t r o e)
  free (Settle t) o f = λ r e. f r (settle_own t r o (settles_alive t f) e)
  free (Rollback t) o f = λ r e. f r (rollback_own t r o e)
  free (Finish t) o f = λ r e. f r (finish_own t r o e)
  free (Trim k) o f = λ r e. f r e
  free (Close fits k full) o f = λ r e. f r e

  cause_whole : (c : Call) (r : Refusal) → stage_named w.readers (id_named c) ≡ None → ((t : ℕ) → c ≡ Settle t → r ≡ NotValidated → is_aborted t xs ≡ false) → CauseStands opening mark xs c r → CauseStands opening mark ws c r
  cause_whole Begin r o a e = begin_whole r e
  cause_whole (Do t op) r o a e = op_whole t op r o e
  cause_whole (Precommit t) r o a e = precommit_whole t r o e
  cause_whole (Validate t) r o a e = validate_whole t r o e
  cause_whole (Settle t) r o a e = settle_whole t r o (a t refl) e
  cause_whole (Rollback t) r o a e = rollback_whole t r o e
  cause_whole (Finish t) r o a e = finish_whole t r o e
  cause_whole (Trim k) r o a e = e
  cause_whole (Close fits k full) r o a e = e

  flags_whole : (c : Call) (u : ℕ) → FlaggedBy opening xs c u → FlaggedBy opening ws c u
  flags_whole (Do t op) u f = flag_whole opening ws xs w t u m p f
  flags_whole (Precommit t) u f = flag_whole opening ws xs w t u m p f
  flags_whole (Validate t) u f = flag_whole opening ws xs w t u m p f
  flags_whole (Settle t) u f = flag_whole opening ws xs w t u m p f
  flags_whole Begin u f = absurd f
  flags_whole (Rollback t) u f = absurd f
  flags_whole (Finish t) u f = absurd f
  flags_whole (Trim k) u f = absurd f
  flags_whole (Close fits k full) u f = absurd f

  failed_whole : (c : Call) (k : Stamp) → stage_named w.readers (id_named c) ≡ None → IsJustRefusal opening mark xs c (ValidationFailed k) → IsJustRefusal opening mark ws c (ValidationFailed k)
  failed_whole (Validate t) k o f = last_whole t k.0 o f
  failed_whole Begin k o f = f
  failed_whole (Do t op) k o f = f
  failed_whole (Precommit t) k o f = f
  failed_whole (Settle t) k o f = f
  failed_whole (Rollback t) k o f = f
  failed_whole (Finish t) k o f = f
  failed_whole (Trim j) k o f = f
  failed_whole (Close fits j full) k o f = f

  refusal_whole : (c : Call) (r : Refusal) → stage_named w.readers (id_named c) ≡ None → ((t : ℕ) → c ≡ Settle t → r ≡ NotValidated → is_aborted t xs ≡ false) → IsJustRefusal opening mark xs c r → IsJustRefusal opening mark ws c r
  refusal_whole c (DependencyAborted x) o a f = flags_whole c x.0 f
  refusal_whole c OutOfMemory o a f = free c o f
  refusal_whole c (ValidationFailed k) o a f = failed_whole c k o f
  refusal_whole c r o a f = cause_whole c r o a f

  not_settled : (t : ℕ) (r : Refusal) → MayCome w.core (Settle t) (Refused r) → r ≡ NotValidated → is_aborted t xs ≡ false
  not_settled t r k i = go (why_not_settle w.core t) refl k
    where
      go : (v : Option Refusal) → why_not_settle w.core t ≡ v → IsRefusal false v r → is_aborted t xs ≡ false
      go (Some why) e j = let x = not_validated w.core t (e ∙ ap (λ (u : Refusal). Some u) (sym j ∙ i)) in open_alive t x.0 x.1
      go None e j = absurd j

  -- what a call of another came to
  other_refused : (c : Call) (r : Refusal) → stage_named w.readers (id_named c) ≡ None → MayCome w.core c (Refused r) → IsJustRefusal opening mark xs c r → IsJustRefusal opening mark ws c r
  other_refused c r o k f = refusal_whole c r o (λ t i j. not_settled t r (subst (λ (d : Call). MayCome w.core d (Refused r)) i k) j) f

  pub other_justified : (c : Call) (r : Result) → stage_named w.readers (id_named c) ≡ None → MayComeAtStage w c None r → IsJustified opening mark ws c r
  other_justified (Trim j) r o k = tt
  other_justified (Close fits j full) r o k = tt
  other_justified Begin Accepted o k = free Begin o (justified opening mark xs w.core Begin Accepted h.kept n.core (may_come w Begin Accepted (λ j i. absurd cc) k))
  other_justified (Do t op) Accepted o k = free (Do t op) o (justified opening mark xs w.core (Do t op) Accepted h.kept n.core (may_come w (Do t op) Accepted (λ j i. absurd cc) k))
  other_justified (Precommit t) Accepted o k = free (Precommit t) o (justified opening mark xs w.core (Precommit t) Accepted h.kept n.core (may_come w (Precommit t) Accepted (λ j i. absurd cc) k))
  other_justified (Validate t) Accepted o k = free (Validate t) o (justified opening mark xs w.core (Validate t) Accepted h.kept n.core (may_come w (Validate t) Accepted (λ j i. absurd cc) k))
  other_justified (Settle t) Accepted o k = free (Settle t) o (justified opening mark xs w.core (Settle t) Accepted h.kept n.core (may_come w (Settle t) Accepted (λ j i. absurd cc) k))
  other_justified (Rollback t) Accepted o k = free (Rollback t) o (justified opening mark xs w.core (Rollback t) Accepted h.kept n.core (may_come w (Rollback t) Accepted (λ j i. absurd cc) k))
  other_justified (Finish t) Accepted o k = free (Finish t) o (justified opening mark xs w.core (Finish t) Accepted h.kept n.core (may_come w (Finish t) Accepted (λ j i. absurd cc) k))
  other_justified Begin (Refused r) o k = let l = may_come w Begin (Refused r) (λ j i. absurd cc) k in other_refused Begin r o l (justified opening mark xs w.core Begin (Refused r) h.kept n.core l)
  other_justified (Do t op) (Refused r) o k = let l = may_come w (Do t op) (Refused r) (λ j i. absurd cc) k in other_refused (Do t op) r o l (justified opening mark xs w.core (Do t op) (Refused r) h.kept n.core l)
  other_justified (Precommit t) (Refused r) o k = let l = may_come w (Precommit t) (Refused r) (λ j i. absurd cc) k in other_refused (Precommit t) r o l (justified opening mark xs w.core (Precommit t) (Refused r) h.kept n.core l)
  other_justified (Validate t) (Refused r) o k = let l = may_come w (Validate t) (Refused r) (λ j i. absurd cc) k in other_refused (Validate t) r o l (justified opening mark xs w.core (Validate t) (Refused r) h.kept n.core l)
  other_justified (Settle t) (Refused r) o k = let l = may_come w (Settle t) (Refused r) (λ j i. absurd cc) k in other_refused (Settle t) r o l (justified opening mark xs w.core (Settle t) (Refused r) h.kept n.core l)
  other_justified (Rollback t) (Refused r) o k = let l = may_come w (Rollback t) (Refused r) (λ j i. absurd cc) k in other_refused (Rollback t) r o l (justified opening mark xs w.core (Rollback t) (Refused r) h.kept n.core l)
  other_justified (Finish t) (Refused r) o k = let l = may_come w (Finish t) (Refused r) (λ j i. absurd cc) k in other_refused (Finish t) r o l (justified opening mark xs w.core (Finish t) (Refused r) h.kept n.core l)

  pub begin_justified : (r : Result) → MayCome w.core Begin r → IsJustified opening mark ws Begin r
  begin_justified Accepted k = free Begin refl (justified opening mark xs w.core Begin Accepted h.kept n.core k)
  begin_justified (Refused r) k = other_refused Begin r refl k (justified opening mark xs w.core Begin (Refused r) h.kept n.core k)
