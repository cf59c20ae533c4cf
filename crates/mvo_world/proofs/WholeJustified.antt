-- What a call may come to, in a state after what happened, is justified by the whole trace and by
-- who began read-only.
use Rattle.std.proofs.Common.{◌≡◌, ℕ, ◌+◌, ◌<◌, ◌≤◌, Bool, true, false, not, List, [], ◌∷◌, Option, None, Some, length, refl, sym, ap, ◌∙◌, subst, arith}
use Rattle.std.specs.Prelude.{is_some}
use Rattle.std.proofs.lemmas.Bool.{true≢false, false≢true}
use Rattle.mvo_types.specs.declared.op.Op.{Op}
use Rattle.mvo_types.specs.declared.op.Op.TheVariants.{Insert, Update, Delete}
use Rattle.mvo_types.specs.declared.refusal.Refusal.{Refusal}
use Rattle.mvo_types.specs.declared.refusal.Refusal.TheVariants.{NoSuchTransaction, NothingToDo, OutOfMemory}
use Rattle.mvo_types.specs.AnswerData.{AnswerData}
use Rattle.mvo_types.specs.AnswerData.AnswerData.{Inserted, Updated, Deleted}
use Rattle.mvo_types.specs.Causes.{when, first_cause}
use Rattle.mvo_model.specs.History.{History, write_of}
use Rattle.mvo_model.specs.Serial.{answer_to}
use Rattle.mvo_model.specs.Trace.{Phase, history_of, phase_of}
use Rattle.mvo_model.specs.Trace.Phase.{Absent, Preparing as IsPreparing, Committed as IsCommitted}
use Rattle.mvo_theory.specs.State.{StampedTx, ActiveTx, EndedTx, Outcome, active_of, preparing_of, ended_of}
use Rattle.mvo_theory.specs.State.Outcome.{Committed as WasCommitted, Aborted as WasAborted}
use Rattle.mvo_theory.specs.Phases.{ended_as, phase_by, phase_in}
use Rattle.mvo_theory.specs.Causes.{is_trim, why_not_finish}
use Rattle.mvo_theory.specs.Counts.{draws}
use Rattle.mvo_theory.specs.Snapshots.{snapshot_of}
use Rattle.mvo_theory.specs.Words.{is_done, word_count_of, word_count}
use Rattle.mvo_theory.specs.Calls.{Call, Result, IsRefusal, answer_in}
use Rattle.mvo_theory.specs.Calls.Call.{Begin, Do, Precommit, Validate, Settle, Rollback, Finish, Trim, Close}
use Rattle.mvo_theory.specs.Calls.Result.{Accepted, Refused}
use Rattle.mvo_theory.specs.rests.Course.{Course, start_behind}
use Rattle.mvo_theory.specs.rests.Laws.{TellsRests}
use Rattle.mvo_theory.proofs.Cases.{finish_none}
use Rattle.mvo_theory.proofs.Trimmed.{passes}
use Rattle.mvo_readonly.specs.ReadAt.{WritesNothing}
use Rattle.mvo_readonly.specs.Whole.{ReaderStage, WholeState, stage_of, id_named, stage_named}
use Rattle.mvo_readonly.specs.Whole.ReaderStage.{Reading, Preparing, Committed, Aborted}
use Rattle.mvo_readonly.specs.WholeCauses.{has_reader_to, MayComeAtStage, MayComeWhole}
use Rattle.mvo_readonly.specs.WholeCauses.WholeCall.{CoreCall, BeginReadOnly}
use Rattle.mvo_readonly.specs.WholeJustified.{IsReaderJustified}
use Rattle.mvo_readonly.specs.WholeKept.{core_phase}
use Rattle.mvo_readonly.specs.rests.Followed.{IsFollowed}
use Rattle.mvo_readonly.specs.rests.Laws.{IsJustifiedAtStage}
use Rattle.mvo_readonly.proofs.Others.{may_come, may_trim}
use Rattle.mvo_readonly.proofs.Stages.{core_stands}
use Rattle.mvo_readonly.proofs.Trims.{trim_by_look_up}
use Rattle.mvo_readonly.proofs.rests.Answering.{clock_drawn, answers_whole}
use Rattle.mvo_readonly.proofs.rests.Justifying.{whole_justified, whole_tells}
use Rattle.mvo_core.specs.WholeEnds.{end_by_stage}
use Rattle.mvo_world.specs.Finishing.{mores_of, HaveCountedWords}
use Rattle.mvo_world.specs.WholeJustified.{is_among, is_named_among, KnowsReaders, HasCause, NoneBefore, IsJustCall, IsGivenEnd, MayTrim}
use Rattle.mvo_world.proofs.Finishing.{more_is_left, none_is_left}
use Rattle.mvo_world.proofs.Forgetting.{MayTrimOwn, may_be, may}
use Rattle.mvo_world.proofs.WholeOrder.{never_absent, other_before, reader_before}
use Rattle.mvo_world.proofs.WholeReaders.{refused_so}

some_id : (t u : ℕ) → ◌≡◌ {A = Option ℕ} (Some t) (Some u) → t ≡ u
some_id t u e = cc

no_id : (t : ℕ) → ◌≡◌ {A = Option ℕ} None (Some t) → ⊥
no_id t e = cc

none_some : (p : ReaderStage) → ◌≡◌ {A = Option ReaderStage} None (Some p) → ⊥
none_some p e = cc

not_refused : (r : Refusal) → ◌≡◌ {A = Result} Accepted (Refused r) → ⊥
not_refused r e = cc

-- a call that names somebody is one of these six: of one that is Absent the first cause stands
absent_stands : (c : Course) (call : Call) (t : ℕ) → id_named call ≡ Some t → phase_of t c.steps ≡ Absent → IsReaderJustified c.rows c.steps call (Refused NoSuchTransaction)
absent_stands c Begin t i e = absurd (no_id t i)
absent_stands c (Trim m) t i e = absurd (no_id t i)
absent_stands c (Close fits g full) t i e = absurd (no_id t i)
absent_stands c (Do u op) t i e = ap (λ (n : ℕ). phase_of n c.steps) (some_id u t i) ∙ e
absent_stands c (Precommit u) t i e = ap (λ (n : ℕ). phase_of n c.steps) (some_id u t i) ∙ e
absent_stands c (Validate u) t i e = ap (λ (n : ℕ). phase_of n c.steps) (some_id u t i) ∙ e
absent_stands c (Settle u) t i e = ap (λ (n : ℕ). phase_of n c.steps) (some_id u t i) ∙ e
absent_stands c (Rollback u) t i e = ap (λ (n : ℕ). phase_of n c.steps) (some_id u t i) ∙ e
absent_stands c (Finish u) t i e = ap (λ (n : ℕ). phase_of n c.steps) (some_id u t i) ∙ e

-- ---- words of one that wrote nothing
quiet_word : (op : Op) (a : AnswerData) → write_of op a ≡ None → word_count_of op a ≡ 0
quiet_word (Insert r) Inserted e = absurd cc
quiet_word (Update r) Updated e = absurd cc
quiet_word (Delete k) Deleted e = absurd cc
quiet_word op a e = refl

no_words : (ts : History) → WritesNothing ts → word_count ts ≡ 0
no_words [] h = refl
no_words (t ∷ ts) h = let a = quiet_word t.0 t.1 h.0 in let b = no_words ts h.1 in omega (arith, a, b)

-- one that stands as Committed ended so
committed_so : (a : Option ActiveTx) (b : Option StampedTx) (u : EndedTx) (e : ℕ) → phase_by a b (Some u) ≡ IsCommitted e → u.outcome ≡ WasCommitted e
committed_so (Some r) b u e q = absurd cc
committed_so None (Some x) u e q = absurd cc
committed_so None None u e q = go u.outcome q
  where
    same : (n m : ℕ) → ◌≡◌ {A = Phase} (IsCommitted n) (IsCommitted m) → n ≡ m
    same n m f = cc

    go : (o : Outcome) → ended_as o ≡ IsCommitted e → o ≡ WasCommitted e
    go (WasCommitted n) f = ap WasCommitted (same n e f)
    go WasAborted f = absurd cc

module _ (ids : List ℕ) (a o : Course) (w : WholeState) (f : IsFollowed a o w) (k : KnowsReaders ids a.steps w) where
  -- ---- what a call came to
  abbrev Just : Bool → Call → Result → Type 0
  Just reads call r = HasCause reads a call r × NoneBefore reads a call r × TellsRests a call r

  -- of another
  of_other : (call : Call) (r : Result) → stage_named w.readers (id_named call) ≡ None → MayComeAtStage w call None r → MayComeWhole w (CoreCall call) r → Just false call r
  of_other call r e at m = (cause, before call r e at cause, whole_tells a o w f (CoreCall call) r m)
    where
      cause : HasCause false a call r
      cause = subst (IsJustifiedAtStage a call r) e (whole_justified a o w f (CoreCall call) r m)

      before : (c : Call) (q : Result) → stage_named w.readers (id_named c) ≡ None → MayComeAtStage w c None q → HasCause false a c q → NoneBefore false a c q
      before (Trim j) Accepted n i h = tt
      before (Trim j) (Refused v) n i h = λ u lt x. x
      before Begin q n i h = other_before a o w f Begin q n (may_come w Begin q (λ j x. absurd cc) i) h
      before (Do t op) q n i h = other_before a o w f (Do t op) q n (may_come w (Do t op) q (λ j x. absurd cc) i) h
      before (Precommit t) q n i h = other_before a o w f (Precommit t) q n (may_come w (Precommit t) q (λ j x. absurd cc) i) h
      before (Validate t) q n i h = other_before a o w f (Validate t) q n (may_come w (Validate t) q (λ j x. absurd cc) i) h
      before (Settle t) q n i h = other_before a o w f (Settle t) q n (may_come w (Settle t) q (λ j x. absurd cc) i) h
      before (Rollback t) q n i h = other_before a o w f (Rollback t) q n (may_come w (Rollback t) q (λ j x. absurd cc) i) h
      before (Finish t) q n i h = other_before a o w f (Finish t) q n (may_come w (Finish t) q (λ j x. absurd cc) i) h
      before (Close fits g full) q n i h = other_before a o w f (Close fits g full) q n (may_come w (Close fits g full) q (λ j x. absurd cc) i) h

  -- of one that is unfinished
  of_reader : (call : Call) (r : Result) (p : ReaderStage) → stage_named w.readers (id_named call) ≡ Some p → MayComeAtStage w call (Some p) r → MayComeWhole w (CoreCall call) r → Just true call r
  of_reader call r p e at m =
      let cause : IsReaderJustified a.rows a.steps call r = subst (IsJustifiedAtStage a call r) e (whole_justified a o w f (CoreCall call) r m) in
      (cause, reader_before a o w f call r p e at cause, whole_tells a o w f (CoreCall call) r m)

  absent_core : (t : ℕ) → stage_of t w.readers ≡ None → phase_of t a.steps ≡ Absent → phase_in w.core t ≡ Absent
  absent_core t n e = sym (f.kept.kept.after_trace.phases t) ∙ sym (f.kept.phases t n) ∙ e

  -- of one that is finished
  of_finished : (call : Call) (r : Result) (t : ℕ) → id_named call ≡ Some t → stage_of t w.readers ≡ None → is_among t ids ≡ true → MayComeAtStage w call None r → MayComeWhole w (CoreCall call) r → Just true call r
  of_finished call r t i n among at m =
      let absent = k.others t among n in
      let is = refused_so w call r t i (absent_core t n absent) at in
      subst (λ (q : Result). HasCause true a call q × NoneBefore true a call q × TellsRests a call q) (sym is)
      (absent_stands a call t i absent, (λ v lt x. absurd (omega (arith, lt))), subst (TellsRests a call) is (whole_tells a o w f (CoreCall call) r m))

  pub just_whole : (call : Call) (r : Result) → MayComeWhole w (CoreCall call) r → IsJustCall ids a call r
  just_whole call r m = go (id_named call) refl
    where
      at : (p : Option ReaderStage) → stage_named w.readers (id_named call) ≡ p → MayComeAtStage w call p r
      at p e = subst (λ (v : Option ReaderStage). MayComeAtStage w call v r) e m

      by_stage : (t : ℕ) → id_named call ≡ Some t → (p : Option ReaderStage) → stage_of t w.readers ≡ p → (b : Bool) → is_among t ids ≡ b → Just b call r
      by_stage t i None n true among = of_finished call r t i n among (at None (ap (stage_named w.readers) i ∙ n)) m
      by_stage t i None n false among = let e = ap (stage_named w.readers) i ∙ n in of_other call r e (at None e) m
      by_stage t i (Some p) n true among = let e = ap (stage_named w.readers) i ∙ n in of_reader call r p e (at (Some p) e) m
      by_stage t i (Some p) n false among = absurd (true≢false (sym (k.all t p n) ∙ among))

      go : (n : Option ℕ) → id_named call ≡ n → IsJustCall ids a call r
      go None i = let e : stage_named w.readers (id_named call) ≡ None = ap (stage_named w.readers) i in subst (λ (b : Bool). Just b call r) (sym (ap (λ (v : Option ℕ). is_named_among v ids) i)) (of_other call r e (at None e) m)
      go (Some t) i = subst (λ (b : Bool). Just b call r) (sym (ap (λ (v : Option ℕ). is_named_among v ids) i)) (by_stage t i (stage_of t w.readers) refl (is_among t ids) refl)

  pub just_begins : (r : Result) → MayComeWhole w BeginReadOnly r → IsJustCall ids a Begin r
  just_begins r m = (whole_justified a o w f BeginReadOnly r m, other_before a o w f Begin r refl m (whole_justified a o w f BeginReadOnly r m), tt)

  -- ---- what is answered
  pub operation_whole : (t : ℕ) (op : Op) → MayComeWhole w (CoreCall (Do t op)) Accepted → answer_in w.core t op ≡ answer_to op (snapshot_of a.rows a.steps t)
  operation_whole t op m = answers_whole a o w f t op m

  -- one that is finished isn't answered
  answered_other : (call : Call) (t : ℕ) → id_named call ≡ Some t → MayComeWhole w (CoreCall call) Accepted → stage_of t w.readers ≡ None → is_among t ids ≡ false
  answered_other call t i m n = go (is_among t ids) refl
    where
      go : (b : Bool) → is_among t ids ≡ b → is_among t ids ≡ false
      go false e = e
      go true e = absurd (not_refused NoSuchTransaction (refused_so w call Accepted t i (absent_core t n (k.others t e n)) (subst (λ (v : Option ReaderStage). MayComeAtStage w call v Accepted) (ap (stage_named w.readers) i ∙ n) m)))

  pub end_whole : (t : ℕ) → MayComeWhole w (CoreCall (Precommit t)) Accepted → IsGivenEnd (is_among t ids) a t (end_by_stage w.core t (stage_of t w.readers))
  end_whole t m = go (stage_of t w.readers) refl
    where
      go : (p : Option ReaderStage) → stage_of t w.readers ≡ p → IsGivenEnd (is_among t ids) a t (end_by_stage w.core t p)
      go (Some p) e = subst (λ (b : Bool). IsGivenEnd b a t t) (sym (k.all t p e)) refl
      go None e = subst (λ (b : Bool). IsGivenEnd b a t (w.core.clock + 1)) (sym (answered_other (Precommit t) t refl m e)) (ap (λ (n : ℕ). n + 1) (clock_drawn a o w f))

  -- ---- finishing
  finishes : (t : ℕ) → MayComeWhole w (CoreCall (Finish t)) Accepted → why_not_finish w.core t ≡ None
  finishes t m = go (stage_of t w.readers) m
    where
      go : (p : Option ReaderStage) → MayComeAtStage w (Finish t) p Accepted → why_not_finish w.core t ≡ None
      go None i = i.0
      go (Some p) i = i.0

  pub finishing_whole : (mores : List ℕ) → HaveCountedWords mores o.steps w.core → (t : ℕ) → MayComeWhole w (CoreCall (Finish t)) Accepted
      → (is_done w.core t ≡ true → (e : ℕ) → phase_of t a.steps ≡ IsCommitted e → word_count (history_of t a.steps) ≤ mores_of t mores + 1) × (is_done w.core t ≡ false → mores_of t mores + 1 < word_count (history_of t a.steps))
  finishing_whole mores words t m = (λ d e is. done (stage_of t w.readers) refl d e is, λ d. subst (λ ts. mores_of t mores + 1 < word_count ts) (sym (f.kept.histories t)) (more_is_left o.rows o.steps w.core f.kept.kept mores words t found.0 found.1 d))
    where
      found : (u : EndedTx) × (ended_of t w.core.ended ≡ Some u)
      found = finish_none w.core t (finishes t m)

      -- who was Committed ended so
      as_committed : (e : ℕ) → phase_of t o.steps ≡ IsCommitted e → found.0.outcome ≡ WasCommitted e
      as_committed e is = committed_so (active_of t w.core.active) (preparing_of t w.core.stamped) found.0 e
          (ap (λ (v : Option EndedTx). phase_by (active_of t w.core.active) (preparing_of t w.core.stamped) v) (sym found.1) ∙ sym (f.kept.kept.after_trace.phases t) ∙ is)

      done : (p : Option ReaderStage) → stage_of t w.readers ≡ p → is_done w.core t ≡ true → (e : ℕ) → phase_of t a.steps ≡ IsCommitted e → word_count (history_of t a.steps) ≤ mores_of t mores + 1
      done None n d e is = subst (λ ts. word_count ts ≤ mores_of t mores + 1) (sym (f.kept.histories t)) (none_is_left o.rows o.steps w.core f.kept.kept mores words t e found.0 found.1 (as_committed e (sym (f.kept.phases t n) ∙ is)) d)
      done (Some p) n d e is =
          let idle = (core_stands a.steps o.steps w.core t w.readers p n f.kept.readers).2 in
          let none = no_words (history_of t o.steps) idle in
          subst (λ ts. word_count ts ≤ mores_of t mores + 1) (sym (f.kept.histories t)) (omega (arith, none))

  -- ---- a trim
  start_same : start_behind o.mark o.trims (length o.steps) ≡ start_behind a.mark a.trims (length a.steps)
  start_same = sym f.joint.now

  draws_same : o.mark + draws o.steps ≡ a.mark + draws a.steps
  draws_same = sym (ap (λ (c : ℕ). c + draws a.steps) f.joint.mark ∙ ap (λ (c : ℕ). o.mark + c) f.counts.drawn)

  never_core : (p : ReaderStage) → core_phase p ≡ Absent → ⊥
  never_core Reading e = absurd cc
  never_core (Preparing n v) e = absurd cc
  never_core Committed e = absurd cc
  never_core Aborted e = absurd cc

  absent_whole : (t : ℕ) → phase_of t o.steps ≡ Absent → phase_of t a.steps ≡ Absent
  absent_whole t e = go (stage_of t w.readers) refl
    where
      go : (p : Option ReaderStage) → stage_of t w.readers ≡ p → phase_of t a.steps ≡ Absent
      go None n = f.kept.phases t n ∙ e
      go (Some p) n = absurd (never_core p (sym (core_stands a.steps o.steps w.core t w.readers p n f.kept.readers).0 ∙ e))

  not_absent : (t : ℕ) (p : ReaderStage) → stage_of t w.readers ≡ Some p → phase_of t a.steps ≡ Absent → ⊥
  not_absent t p n e = never_absent t p (sym (core_stands a.steps o.steps w.core t w.readers p n f.kept.readers).1 ∙ e)

  absent_own : (t : ℕ) → phase_of t a.steps ≡ Absent → phase_of t o.steps ≡ Absent
  absent_own t e = go (stage_of t w.readers) refl
    where
      go : (p : Option ReaderStage) → stage_of t w.readers ≡ p → phase_of t o.steps ≡ Absent
      go None n = sym (f.kept.phases t n) ∙ e
      go (Some p) n = absurd (not_absent t p n e)

  -- it goes up to no read-only one's begin just where none that is unfinished began there
  no_reader : (m : ℕ) → is_trim w.core m ≡ true → has_reader_to m w.readers ≡ false → is_among m ids ≡ true → phase_of m a.steps ≡ Absent
  no_reader m trims none among = go (stage_of m w.readers) refl
    where
      go : (p : Option ReaderStage) → stage_of m w.readers ≡ p → phase_of m a.steps ≡ Absent
      go None n = k.others m among n
      go (Some p) n = absurd (true≢false (sym (trim_by_look_up o.rows a.steps o.steps w m f.kept trims ∙ ap is_some n) ∙ none))

  reads_none : (m : ℕ) → is_trim w.core m ≡ true → (is_among m ids ≡ true → phase_of m a.steps ≡ Absent) → has_reader_to m w.readers ≡ false
  reads_none m trims gone = go (stage_of m w.readers) refl
    where
      go : (p : Option ReaderStage) → stage_of m w.readers ≡ p → has_reader_to m w.readers ≡ false
      go None n = trim_by_look_up o.rows a.steps o.steps w m f.kept trims ∙ ap is_some n
      go (Some p) n = absurd (not_absent m p n (gone (k.all m p n)))

  pub trimmed_whole : (m : ℕ) → MayComeWhole w (CoreCall (Trim m)) Accepted → MayTrim ids a m
  trimmed_whole m may_come_so =
      let parts = may_trim w m may_come_so.0 in
      let trims = passes (is_trim w.core m) parts.0 in
      let own = may_be o w.core f.kept.kept f.counts.core f.knows m trims in
      record {
        above = subst (λ (n : ℕ). n < m) start_same own.above;
        drawn = subst (λ (n : ℕ). m ≤ n) draws_same own.drawn;
        finished = λ t lt. absent_whole t (own.finished t lt);
        read_only = no_reader m trims parts.1;
      }

  pub not_trimmed_whole : (m : ℕ) → MayComeWhole w (CoreCall (Trim m)) (Refused NothingToDo) → MayTrim ids a m → ⊥
  not_trimmed_whole m q h =
      let own : MayTrimOwn o m = record {
        above = subst (λ (n : ℕ). n < m) (sym start_same) h.above;
        drawn = subst (λ (n : ℕ). m ≤ n) (sym draws_same) h.drawn;
        finished = λ t lt. absent_own t (h.finished t lt);
      } in
      let trims = may o w.core f.kept.kept f.counts.core f.knows m own in
      go (is_trim w.core m) (has_reader_to m w.readers) trims (reads_none m trims h.read_only) q
    where
      no_memory : ◌≡◌ {A = Refusal} NothingToDo OutOfMemory → ⊥
      no_memory e = cc

      go : (b c : Bool) → b ≡ true → c ≡ false → IsRefusal true (first_cause (when (not b) NothingToDo ∷ when c NothingToDo ∷ [])) NothingToDo → ⊥
      go true false e i x = no_memory x
      go true true e i x = true≢false i
      go false c e i x = false≢true e

  -- ---- who is Preparing, but for those that began read-only
  -- by the core's own trace just who is by the whole one and didn't begin read-only
  pub preparing_whole : (t e : ℕ) → phase_of t o.steps ≡ IsPreparing e → (is_among t ids ≡ false) × (phase_of t a.steps ≡ IsPreparing e)
  preparing_whole t e is = go (stage_of t w.readers) refl
    where
      preparing_not : (n : ℕ) → ◌≡◌ {A = Phase} Absent (IsPreparing n) → ⊥
      preparing_not n q = cc

      not_core : (p : ReaderStage) → core_phase p ≡ IsPreparing e → ⊥
      not_core Reading q = absurd cc
      not_core (Preparing n v) q = absurd cc
      not_core Committed q = absurd cc
      not_core Aborted q = absurd cc

      among : stage_of t w.readers ≡ None → (b : Bool) → is_among t ids ≡ b → is_among t ids ≡ false
      among n false q = q
      among n true q = absurd (preparing_not e (sym (k.others t q n) ∙ f.kept.phases t n ∙ is))

      go : (p : Option ReaderStage) → stage_of t w.readers ≡ p → (is_among t ids ≡ false) × (phase_of t a.steps ≡ IsPreparing e)
      go None n = (among n (is_among t ids) refl, f.kept.phases t n ∙ is)
      go (Some p) n = absurd (not_core p (sym (core_stands a.steps o.steps w.core t w.readers p n f.kept.readers).0 ∙ is))

  pub preparing_own : (t e : ℕ) → is_among t ids ≡ false → phase_of t a.steps ≡ IsPreparing e → phase_of t o.steps ≡ IsPreparing e
  preparing_own t e other is = go (stage_of t w.readers) refl
    where
      go : (p : Option ReaderStage) → stage_of t w.readers ≡ p → phase_of t o.steps ≡ IsPreparing e
      go None n = sym (f.kept.phases t n) ∙ is
      go (Some p) n = absurd (true≢false (sym (k.all t p n) ∙ other))
