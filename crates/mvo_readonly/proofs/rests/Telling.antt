-- What a call comes to tells on whom its transaction rests, by the whole course.
use Rattle.std.proofs.Common.{◌≡◌, ℕ, Bool, true, false, ◌⊎◌, inl, inr, List, [], ◌∷◌, ◌++◌, Option, None, Some, refl, sym, ap, ◌∙◌, subst}
use Rattle.std.specs.Prelude.{nat_lt, not}
use Rattle.std.specs.List.{AllByRecursion}
use Rattle.std.proofs.lemmas.Bool.{true≢false}
use Rattle.mvo_types.specs.declared.limits.TheConstants.{MAX_TABLE}
use Rattle.mvo_types.specs.declared.op.Op.{Op}
use Rattle.mvo_types.specs.declared.op.Op.TheVariants.{Read, Scan, Insert, Update, Delete}
use Rattle.mvo_types.specs.declared.entry.Entry.TheVariants.{Key, Range}
use Rattle.mvo_types.specs.declared.refusal.Refusal.{Refusal}
use Rattle.mvo_types.specs.declared.refusal.Refusal.TheVariants.{NoSuchTransaction, Ended, NotActive, NotPreparing, NotValidated, DependencyAborted, TooManyReads, BadTable, ReadOnly}
use Rattle.mvo_types.specs.Causes.{when}
use Rattle.mvo_model.specs.Trace.{Step}
use Rattle.mvo_model.specs.Trace.Step.{Aborts}
use Rattle.mvo_model.specs.Trace.Phase.{Active as IsActive}
use Rattle.mvo_theory.specs.State.{State, StampedTx, ActiveTx, history_of_active}
use Rattle.mvo_theory.specs.Phases.{is_active, is_preparing, is_ended}
use Rattle.mvo_theory.specs.Causes.{flagged, flag_of_active, is_entry_too_many, awaited, waiting_for}
use Rattle.mvo_theory.specs.Snapshots.{is_aborted}
use Rattle.mvo_theory.specs.Calls.{Call, Result}
use Rattle.mvo_theory.specs.Calls.Call.{Begin, Do, Precommit, Validate, Settle, Rollback, Finish, Trim, Close}
use Rattle.mvo_theory.specs.Calls.Result.{Accepted, Refused}
use Rattle.mvo_theory.specs.rests.Course.{Course}
use Rattle.mvo_theory.specs.rests.Resting.{RestsOn, RestsOnNoAborted, IsFirstAborted}
use Rattle.mvo_theory.specs.rests.Known.{IsFlag}
use Rattle.mvo_theory.specs.rests.Laws.{TellsAborted, TellsRests, TellsSettling}
use Rattle.mvo_theory.proofs.Firsts.{IsFirst, first_is, none_is, when_none}
use Rattle.mvo_theory.proofs.rests.Telling.{active_known, told_rests, told_waiting, told_settling}
use Rattle.mvo_readonly.specs.Whole.{ReaderStage, WholeState, stage_of, phase_at_stage, id_named, stage_named}
use Rattle.mvo_readonly.specs.Whole.ReaderStage.{Reading, Preparing, Committed, Aborted}
use Rattle.mvo_readonly.specs.WholeCauses.{flag_of_reader, unless_reading, unless_prepared, unless_read_only, is_valid_stage, why_not_reader, MayComeAtStage, depends_of_active, awaited_by_reader}
use Rattle.mvo_readonly.specs.WholeKept.{core_phase}
use Rattle.mvo_readonly.specs.BothTraces.{NoPrepare, AreGiven}
use Rattle.mvo_readonly.specs.rests.Joint.{PlacedWhole}
use Rattle.mvo_readonly.specs.rests.Followed.{IsFollowed}
use Rattle.mvo_readonly.proofs.Others.{may_come}
use Rattle.mvo_readonly.proofs.Stages.{found_active, may_settle}
use Rattle.mvo_readonly.proofs.ReaderCalls.{in_core}
use Rattle.mvo_readonly.proofs.ReaderJustified.{at_when, at_flag, at_end, by_memory, by_cause, reads_alone}
use Rattle.mvo_readonly.proofs.rests.Joint.{rests_own, rests_whole}
use Rattle.mvo_readonly.proofs.rests.Waiting.{rested_prepared, first_awaited_whole, awaits_none_whole, none_aborted_whole}

some_is : (a b : Refusal) → ◌≡◌ {A = Option Refusal} (Some a) (Some b) → a ≡ b
some_is a b e = cc

-- ---- what the core's own course tells, the whole one does
module _ (a o : Course) (w : WholeState) (f : IsFollowed a o w) where
  pub first_aborted_whole : (t x : ℕ) → IsFirstAborted o t x → IsFirstAborted a t x
  first_aborted_whole t x q = go (f.joint.aborts q.before q.after x q.then')
    where
      alive : (front : List Step) (v : WholeState) → AreGiven o.rows front q.before v → (y e : ℕ) → RestsOn a t y e → is_aborted y front ≡ false
      alive front v g y e d = by (is_aborted y front) refl
        where
          by : (b : Bool) → is_aborted y front ≡ b → is_aborted y front ≡ false
          by false i = i
          by true i = absurd (true≢false (sym (g.aborts y i) ∙ q.first y e (rests_own a o t y e f.joint d)))

      go : PlacedWhole a o (Aborts x) q.before a.steps ⊎ NoPrepare x o.steps → IsFirstAborted a t x
      go (inl p) = record {
        end' = q.end';
        rests = rests_whole a o t x q.end' f.joint q.rests;
        before = p.front;
        after = p.back;
        then' = p.then';
        first = alive p.front p.both.state p.both.given;
      }
      go (inr n) = absurd (rested_prepared o t x q.end' q.rests n)

  none_whole : (t : ℕ) → RestsOnNoAborted o t → RestsOnNoAborted a t
  none_whole t n = none_aborted_whole a o w t f.given f.joint n

  aborted_whole : (t : ℕ) (r : Result) → TellsAborted o t r → TellsAborted a t r
  aborted_whole t (Refused NoSuchTransaction) n = tt
  aborted_whole t (Refused Ended) n = tt
  aborted_whole t (Refused NotActive) n = tt
  aborted_whole t (Refused NotPreparing) n = tt
  aborted_whole t (Refused (DependencyAborted x)) n = first_aborted_whole t x.0 n
  aborted_whole t (Refused r) n = none_whole t n
  aborted_whole t Accepted n = none_whole t n

  pub tells_whole : (c : Call) (r : Result) → TellsRests o c r → TellsRests a c r
  tells_whole (Do t op) r n = aborted_whole t r n
  tells_whole (Precommit t) r n = aborted_whole t r n
  tells_whole (Validate t) r n = aborted_whole t r n
  tells_whole (Settle t) r n = aborted_whole t r n
  tells_whole Begin r n = tt
  tells_whole (Rollback t) r n = tt
  tells_whole (Finish t) r n = tt
  tells_whole (Trim k) r n = tt
  tells_whole (Close fits k full) r n = tt

  pub settling_whole : (t : ℕ) (x : Option StampedTx) → TellsSettling o t x → TellsSettling a t x
  settling_whole t None n = awaits_none_whole a o w t f.kept f.joint n
  settling_whole t (Some x) n = first_awaited_whole a o w t x.id f.kept f.joint n

  -- ---- of another
  pub other_tells : (c : Call) (r : Result) → MayComeAtStage w c None r → TellsRests a c r
  other_tells (Do t op) r m = tells_whole (Do t op) r (told_rests o w.core f.kept.kept f.knows (Do t op) r (may_come w (Do t op) r (λ k i. absurd cc) m))
  other_tells (Precommit t) r m = tells_whole (Precommit t) r (told_rests o w.core f.kept.kept f.knows (Precommit t) r (may_come w (Precommit t) r (λ k i. absurd cc) m))
  other_tells (Validate t) r m = tells_whole (Validate t) r (told_rests o w.core f.kept.kept f.knows (Validate t) r (may_come w (Validate t) r (λ k i. absurd cc) m))
  other_tells (Settle t) r m = tells_whole (Settle t) r (told_rests o w.core f.kept.kept f.knows (Settle t) r (may_come w (Settle t) r (λ k i. absurd cc) m))
  other_tells Begin r m = tt
  other_tells (Rollback t) r m = tt
  other_tells (Finish t) r m = tt
  other_tells (Trim k) r m = tt
  other_tells (Close fits k full) r m = tt

  pub other_settles : (t : ℕ) → MayComeAtStage w (Settle t) None Accepted → TellsSettling a t (awaited w.core t)
  other_settles t m = settling_whole t (awaited w.core t) (told_settling o w.core f.kept.kept f.knows t (may_come w (Settle t) Accepted (λ k i. absurd cc) m))

  -- ---- of a read-only transaction
  module _ (t : ℕ) (p : ReaderStage) (here : stage_of t w.readers ≡ Some p) where
    abbrev s : State
    s = w.core

    -- what the core knows of its flag
    flag_known : core_phase p ≡ IsActive → IsFlag o t (flag_of_reader s t)
    flag_known i =
        let r = found_active s t (in_core o.rows a.steps o.steps w t p here f.kept ∙ i) in
        subst (IsFlag o t) (sym (ap flag_of_active r.1)) (active_known o s f.kept.kept f.knows t r.0 r.1).flag

    abbrev Told : Refusal → Type 0
    Told r = TellsAborted o t (Refused r)

    reading_core : is_ended (phase_at_stage t p) ≡ false → is_preparing (phase_at_stage t p) ≡ false → core_phase p ≡ IsActive
    reading_core e i = ap core_phase (reads_alone t p e i)

    prepared_core : is_ended (phase_at_stage t p) ≡ false → core_phase p ≡ IsActive
    prepared_core e = go p e
      where
        go : (v : ReaderStage) → is_ended (phase_at_stage t v) ≡ false → core_phase v ≡ IsActive
        go Reading i = refl
        go (Preparing n b) i = refl
        go Committed i = absurd (true≢false i)
        go Aborted i = absurd (true≢false i)

    no_flag : (d : Option ℕ) → flag_of_reader s t ≡ d → flagged d ≡ None → IsFlag o t (flag_of_reader s t) → RestsOnNoAborted o t
    no_flag None e i k = subst (IsFlag o t) e k
    no_flag (Some x) e i k = absurd cc

    at_reading : (r : Refusal) (rest : List (Option Refusal)) → (RestsOnNoAborted o t → IsFirst rest r → Told r) → IsFirst (unless_reading s t p ++ rest) r → Told r
    at_reading r rest g first =
        at_when Told (is_ended (phase_at_stage t p)) Ended r (when (is_preparing (phase_at_stage t p)) NotActive ∷ flagged (flag_of_reader s t) ∷ rest) (λ _. tt) (λ e.
        at_when Told (is_preparing (phase_at_stage t p)) NotActive r (flagged (flag_of_reader s t) ∷ rest) (λ _. tt) (λ i.
        let known = flag_known (reading_core e i) in
        at_flag Told (flag_of_reader s t) r rest (λ x q. subst (IsFlag o t) q known) (λ q. g (subst (IsFlag o t) q known)))) first

    at_prepared : (r : Refusal) (rest : List (Option Refusal)) → (RestsOnNoAborted o t → IsFirst rest r → Told r) → IsFirst (unless_prepared s t p ++ rest) r → Told r
    at_prepared r rest g first =
        at_when Told (is_ended (phase_at_stage t p)) Ended r (when (is_active (phase_at_stage t p)) NotPreparing ∷ flagged (flag_of_reader s t) ∷ rest) (λ _. tt) (λ e.
        at_when Told (is_active (phase_at_stage t p)) NotPreparing r (flagged (flag_of_reader s t) ∷ rest) (λ _. tt) (λ i.
        let known = flag_known (prepared_core e) in
        at_flag Told (flag_of_reader s t) r rest (λ x q. subst (IsFlag o t) q known) (λ q. g (subst (IsFlag o t) q known)))) first

    abbrev AllNone : List (Option Refusal) → Type 0
    AllNone cs = AllByRecursion (λ d. d ≡ None) cs

    reading_free : (rest : List (Option Refusal)) → AllNone (unless_reading s t p ++ rest) → RestsOnNoAborted o t
    reading_free rest n = no_flag (flag_of_reader s t) refl n.1.1.0 (flag_known (reading_core (when_none (is_ended (phase_at_stage t p)) Ended n.0) (when_none (is_preparing (phase_at_stage t p)) NotActive n.1.0)))

    prepared_free : (rest : List (Option Refusal)) → AllNone (unless_prepared s t p ++ rest) → RestsOnNoAborted o t
    prepared_free rest n = no_flag (flag_of_reader s t) refl n.1.1.0 (flag_known (prepared_core (when_none (is_ended (phase_at_stage t p)) Ended n.0)))

    writes_told : (r : Refusal) → RestsOnNoAborted o t → IsFirst (Some ReadOnly ∷ []) r → Told r
    writes_told r n i = elim i.is [
      | inl e ↦ subst Told (some_is ReadOnly r e) n
      | inr e ↦ absurd e.1
    ]

    behind : (op : Op) (r : Refusal) → RestsOnNoAborted o t → IsFirst (unless_read_only s t op) r → Told r
    behind (Read j) r n first =
        at_when Told (nat_lt MAX_TABLE j.table) BadTable r (when (is_entry_too_many (history_of_active t s.active) (Key j)) TooManyReads ∷ []) (λ _. n) (λ _.
        at_when Told (is_entry_too_many (history_of_active t s.active) (Key j)) TooManyReads r [] (λ _. n) (λ _. at_end Told r)) first
    behind (Scan table lo hi) r n first =
        at_when Told (nat_lt MAX_TABLE table) BadTable r (when (is_entry_too_many (history_of_active t s.active) (Range table lo hi)) TooManyReads ∷ []) (λ _. n) (λ _.
        at_when Told (is_entry_too_many (history_of_active t s.active) (Range table lo hi)) TooManyReads r [] (λ _. n) (λ _. at_end Told r)) first
    behind (Insert row) r n first = writes_told r n first
    behind (Update row) r n first = writes_told r n first
    behind (Delete j) r n first = writes_told r n first

    do_refused : (op : Op) (r : Refusal) → why_not_reader s p (Do t op) ≡ Some r → Told r
    do_refused op r e = at_reading r (unless_read_only s t op) (behind op r) (first_is (unless_reading s t p ++ unless_read_only s t op) r e)

    do_free : (op : Op) → why_not_reader s p (Do t op) ≡ None → RestsOnNoAborted o t
    do_free op e = reading_free (unless_read_only s t op) (none_is (unless_reading s t p ++ unless_read_only s t op) e)

    precommit_refused : (r : Refusal) → why_not_reader s p (Precommit t) ≡ Some r → Told r
    precommit_refused r e = at_reading r [] (λ _. at_end Told r) (first_is (unless_reading s t p) r e)

    precommit_free : why_not_reader s p (Precommit t) ≡ None → RestsOnNoAborted o t
    precommit_free e = reading_free [] (none_is (unless_reading s t p) e)

    validate_refused : (r : Refusal) → why_not_reader s p (Validate t) ≡ Some r → Told r
    validate_refused r e = at_prepared r [] (λ _. at_end Told r) (first_is (unless_prepared s t p) r e)

    validate_free : why_not_reader s p (Validate t) ≡ None → RestsOnNoAborted o t
    validate_free e = prepared_free [] (none_is (unless_prepared s t p) e)

    settle_refused : (r : Refusal) → why_not_reader s p (Settle t) ≡ Some r → Told r
    settle_refused r e = at_prepared r (when (not (is_valid_stage p)) NotValidated ∷ []) (λ n. at_when Told (not (is_valid_stage p)) NotValidated r [] (λ _. n) (λ _. at_end Told r)) (first_is (unless_prepared s t p ++ when (not (is_valid_stage p)) NotValidated ∷ []) r e)

    settle_free : why_not_reader s p (Settle t) ≡ None → RestsOnNoAborted o t
    settle_free e = prepared_free (when (not (is_valid_stage p)) NotValidated ∷ []) (none_is (unless_prepared s t p ++ when (not (is_valid_stage p)) NotValidated ∷ []) e)

    -- whom it waits for
    pub reader_settles : MayComeAtStage w (Settle t) (Some p) Accepted → TellsSettling a t (awaited_by_reader s t)
    reader_settles m =
        let r = found_active s t (in_core o.rows a.steps o.steps w t p here f.kept ∙ (may_settle s t p m.0).0) in
        settling_whole t (awaited_by_reader s t)
        (subst (TellsSettling o t) (sym (ap (λ (v : Option ActiveTx). waiting_for (depends_of_active v) s.stamped) r.1))
        (told_waiting o s f.kept.kept f.knows t r.0.depends_on r.0.aborted_dependency (active_known o s f.kept.kept f.knows t r.0 r.1) (settle_free m.0)))

  no_stage : (p : ReaderStage) → ◌≡◌ {A = Option ReaderStage} None (Some p) → ⊥
  no_stage p e = cc

  own_tells : (c : Call) (r : Result) (p : ReaderStage) → stage_named w.readers (id_named c) ≡ Some p → MayComeAtStage w c (Some p) r → TellsRests o c r
  own_tells Begin r p e m = tt
  own_tells (Trim k) r p e m = tt
  own_tells (Close fits k full) r p e m = tt
  own_tells (Rollback t) r p e m = tt
  own_tells (Finish t) r p e m = tt
  own_tells (Do t op) Accepted p e m = do_free t p e op m.0
  own_tells (Precommit t) Accepted p e m = precommit_free t p e m.0
  own_tells (Validate t) Accepted p e m = validate_free t p e m.0
  own_tells (Settle t) Accepted p e m = settle_free t p e m.0
  own_tells (Do t op) (Refused r) p e m = by_memory (why_not_reader w.core p (Do t op)) r (λ v. TellsAborted o t (Refused v)) m (do_refused t p e op) (do_free t p e op)
  own_tells (Precommit t) (Refused r) p e m = by_cause (why_not_reader w.core p (Precommit t)) r (λ v. TellsAborted o t (Refused v)) m (precommit_refused t p e)
  own_tells (Validate t) (Refused r) p e m = by_cause (why_not_reader w.core p (Validate t)) r (λ v. TellsAborted o t (Refused v)) m (validate_refused t p e)
  own_tells (Settle t) (Refused r) p e m = by_cause (why_not_reader w.core p (Settle t)) r (λ v. TellsAborted o t (Refused v)) m (settle_refused t p e)

  pub reader_tells : (c : Call) (r : Result) (p : ReaderStage) → stage_named w.readers (id_named c) ≡ Some p → MayComeAtStage w c (Some p) r → TellsRests a c r
  reader_tells c r p e m = tells_whole c r (own_tells c r p e m)
