-- Each call keeps what a state with its read-only transactions keeps.
use Rattle.std.proofs.Common.{◌≡◌, ◌≢◌, ℕ, ◌<◌, ◌≤◌, Bool, true, false, cond, not, ◌||◌, ◌⊎◌, List, [], ◌∷◌, ◌++◌, Option, None, Some, refl, sym, ap, ◌∙◌, subst, inl, inr, arith, append_assoc}
use Rattle.std.specs.Prelude.{◌==◌, ◌&&◌, nat_lt}
use Rattle.std.specs.List.{AllByRecursion}
use Rattle.std.specs.List.Sorted.{IsPermutation}
use Rattle.std.proofs.lemmas.Bool.{eqb-true, eq-eqb, true≢false, false≢true, cases_eq, lt-ltb}
use Rattle.std.proofs.lemmas.List.Sorted.{IsPermutation-append_left}
use Rattle.mvo_types.specs.declared.op.Op.{Op}
use Rattle.mvo_types.specs.declared.refusal.Refusal.{Refusal}
use Rattle.mvo_types.specs.Keys.{Map}
use Rattle.mvo_types.specs.AnswerData.{AnswerData}
use Rattle.mvo_model.specs.History.{AreSerial, write_of, after_history}
use Rattle.mvo_model.proofs.Serials.{after_history-append}
use Rattle.mvo_model.proofs.Traces.{phase_of-push_own}
use Rattle.mvo_theory.specs.Phases.{phase_in, is_absent, is_ended}
use Rattle.mvo_theory.specs.Traced.{is_abort_of}
use Rattle.mvo_types.specs.declared.refusal.Refusal.TheVariants.{NoSuchTransaction, Ended}
use Rattle.mvo_model.specs.Trace.{Step, Phase, owner_of, history_by, commit_of, phase_after, commits, history_of, phase_of}
use Rattle.mvo_model.specs.Trace.Step.{Answers, Prepares, Checks, Commits, Aborts, Terminates}
use Rattle.mvo_model.specs.Trace.Phase.{Active as IsActive, Aborted as IsAborted}
use Rattle.mvo_theory.specs.State.{State, StampedTx, ActiveTx, active_of, history_of_active, after_settled, timeline}
use Rattle.mvo_types.specs.Causes.{first_cause, when}
use Rattle.mvo_theory.specs.Causes.{waiting_for, why_not_rollback, is_failure, flag_of_active}
use Rattle.mvo_theory.specs.Words.{is_done}
use Rattle.mvo_theory.specs.Sound.{IsApart, IsPast, IsActive as IsActiveTx}
use Rattle.mvo_theory.specs.Snapshots.{is_aborted}
use Rattle.mvo_theory.specs.Steps.{after_abort, steps_of_refusal}
use Rattle.mvo_theory.specs.Calls.{Call, Result, MayCome, answer_in, after_call, steps_of, IsKept}
use Rattle.mvo_theory.specs.Calls.Call.{Begin, Do, Precommit, Validate, Settle, Rollback, Finish, Trim, Close}
use Rattle.mvo_theory.specs.Calls.Result.{Accepted, Refused}
use Rattle.mvo_theory.proofs.Each.{each_weaker, each_append, each_filter}
use Rattle.mvo_theory.proofs.Causes.{waiting_none}
use Rattle.mvo_theory.proofs.Cases.{found_is}
use Rattle.mvo_theory.proofs.Who.{active_holds}
use Rattle.mvo_theory.proofs.Runs.{kept_after_call}
use Rattle.mvo_readonly.specs.ReadAt.{WritesNothing, settled_before, IsReadAt}
use Rattle.mvo_readonly.specs.Whole.{ReaderStage, UnfinishedReader, CommittedReader, WholeState, stage_of, phase_at_stage, id_named, stage_named}
use Rattle.mvo_readonly.specs.WholeCauses.{flag_of_reader, why_not_reader, MayComeAtStage, depends_of_active, awaited_by_reader}
use Rattle.mvo_readonly.specs.WholeCalls.{rolled_back, unless_awaited, core_failed, core_reader, checked_more, with_stage, without_reader, settled_unless, readers_failed, readers_reader, committed_unless, committed_by_reader, commits_unless, reader_steps}
use Rattle.mvo_readonly.specs.Whole.ReaderStage.{Reading, Preparing, Committed, Aborted}
use Rattle.mvo_readonly.specs.WholeKept.{core_phase, IsUnfinishedReader, IsCommittedReader, HaveDistinctIds, IsWholeKept, reader_commits}
use Rattle.mvo_readonly.proofs.ReadAt.{right_at_begin, apart_at_begin}
use Rattle.mvo_readonly.proofs.Timeline.{before-append}
use Rattle.mvo_readonly.proofs.Growing.{grows_after_call}
use Rattle.mvo_readonly.proofs.Traces.{append-none, history_both, history_quiet, commits_both, follow_history, follow_phase, follow_commits, start_stays}
use Rattle.mvo_readonly.proofs.Others.{reader_stays, committed_stays, Goes, one_call, whole_same}
use Rattle.mvo_readonly.proofs.Stages.{core_stands, found_active, may_roll_back, may_read, may_prepare, may_settle, may_fail_do, may_fail_precommit, may_fail_validate, may_fail_settle, checked_phase, moved}

-- ---- where the core has the one that is named
pub in_core : (opening : Map) (ws xs : List Step) (w : WholeState) (t : ℕ) (p : ReaderStage) → stage_of t w.readers ≡ Some p → IsWholeKept opening ws xs w → phase_in w.core t ≡ core_phase p
in_core opening ws xs w t p e h = sym (h.kept.after_trace.phases t) ∙ (core_stands ws xs w.core t w.readers p e h.readers).0

-- ---- a read or a scan
all_told : (ws xs : List Step) (s s' : State) (t : ℕ) (op : Op) (a : AnswerData) → write_of op a ≡ None → s.clock ≤ s'.clock → s'.start ≡ s.start → (rs : List UnfinishedReader) → AllByRecursion (IsUnfinishedReader ws xs s) rs → AllByRecursion (IsUnfinishedReader (ws ++ Answers t op a ∷ []) (xs ++ Answers t op a ∷ []) s') rs
all_told ws xs s s' t op a n c b rs h = each_weaker (IsUnfinishedReader ws xs s) (IsUnfinishedReader (ws ++ Answers t op a ∷ []) (xs ++ Answers t op a ∷ []) s') (λ r k. one r k (cases_eq t r.id)) rs h
  where
    one : (r : UnfinishedReader) → IsUnfinishedReader ws xs s r → ((t ≡ r.id) ⊎ (t ≡ r.id → ⊥)) → IsUnfinishedReader (ws ++ Answers t op a ∷ []) (xs ++ Answers t op a ∷ []) s' r
    one r k (inr m) = reader_stays ws xs (Answers t op a ∷ []) (Answers t op a ∷ []) s s' r (m, tt) (m, tt) c (let l = k.later in omega arith) k
    one r k (inl i) = record {
      stands = phase_of-push_own r.id xs (Answers t op a) i ∙ k.stands;
      phase = phase_of-push_own r.id ws (Answers t op a) i ∙ k.phase;
      idle = subst WritesNothing (sym (history_both r.id xs (Answers t op a ∷ []) ∙ ap (λ (b : Bool). history_of r.id xs ++ (cond b ((op, a) ∷ []) [] ++ [])) (eq-eqb t r.id i))) (each_append (λ o. write_of o.0 o.1 ≡ None) (history_of r.id xs) ((op, a) ∷ []) k.idle (n, tt));
      drawn = let d = k.drawn in omega arith;
      later = let l = k.later in omega arith;
    }

goes_read : (opening : Map) (ws xs : List Step) (w : WholeState) (t : ℕ) (op : Op) (p : ReaderStage) → stage_of t w.readers ≡ Some p → why_not_reader w.core p (Do t op) ≡ None → IsWholeKept opening ws xs w → Goes opening ws xs w (steps_of w.core (Do t op) Accepted) ((Do t op, Accepted) ∷ []) w.readers w.committed_readers
goes_read opening ws xs w t op p e n h =
    let may = may_read w.core t op p (in_core opening ws xs w t p e h) n in
    let m : MayCome w.core (Do t op) Accepted = (may.0, tt) in
    let zs = steps_of w.core (Do t op) Accepted in
    let s' = after_call w.core (Do t op) Accepted in
    one_call opening ws xs zs w (Do t op) Accepted w.readers w.committed_readers (record {
      kept = kept_after_call opening xs w.core (Do t op) Accepted m h.kept;
      readers = all_told ws xs w.core s' t op (answer_in w.core t op) (may.1 (answer_in w.core t op)) (grows_after_call opening xs w.core (Do t op) Accepted m h.kept).clock (start_stays w.core (Do t op) Accepted (λ k i _. absurd cc)) w.readers h.readers;
      committed_readers = each_weaker (IsCommittedReader opening xs w.core) (IsCommittedReader opening (xs ++ zs) s') (λ y. committed_stays opening xs w.core (Do t op) Accepted y m h.kept) w.committed_readers h.committed_readers;
      apart = h.apart;
      histories = λ u. follow_history u ws xs zs (h.histories u);
      commits = follow_commits ws xs zs (reader_commits w.committed_readers) h.commits;
      phases = λ u k. follow_phase u ws xs zs (h.phases u k);
    })

-- ---- precommit and checks: the core isn't called
still_committed : (opening : Map) (xs : List Step) (s : State) (ys : List CommittedReader) → AllByRecursion (IsCommittedReader opening xs s) ys → AllByRecursion (IsCommittedReader opening (xs ++ []) s) ys
still_committed opening xs s ys h = subst (λ l. AllByRecursion (IsCommittedReader opening l s) ys) (sym (append-none xs)) h

goes_moved : (opening : Map) (ws xs : List Step) (w : WholeState) (t : ℕ) (p q : ReaderStage) (x : Step) → owner_of x ≡ t → commit_of x ≡ [] → ((u : ℕ) → history_by x u ≡ []) → stage_of t w.readers ≡ Some p → core_phase q ≡ core_phase p → phase_after x (phase_at_stage t p) ≡ phase_at_stage t q → IsWholeKept opening ws xs w →
    Goes opening ws xs w (x ∷ []) [] (with_stage t q w.readers) w.committed_readers
goes_moved opening ws xs w t p q x o c n e core whole h =
    let at = core_stands ws xs w.core t w.readers p e h.readers in
    moved opening ws xs (x ∷ []) [] w t p q w.core w.committed_readers e h (subst (λ l. IsKept opening l w.core) (sym (append-none xs)) h.kept) (omega arith) refl
    (λ u ne. (((λ i. ne (sym o ∙ i)), tt), tt))
    (ap (phase_of t) (append-none xs) ∙ at.0 ∙ sym core)
    (phase_of-push_own t ws x o ∙ ap (phase_after x) at.1 ∙ whole)
    (λ u. ap (λ ts. ts ++ []) (n u)) (λ u. refl) (still_committed opening xs w.core w.committed_readers h.committed_readers) h.apart
    (subst (λ l. IsPermutation l (commits (xs ++ []) ++ reader_commits w.committed_readers)) (sym (commits_both ws (x ∷ []) ∙ ap (λ l. commits ws ++ (l ++ [])) c ∙ append-none (commits ws)))
    (subst (λ l. IsPermutation (commits ws) (commits l ++ reader_commits w.committed_readers)) (sym (append-none xs)) h.commits))

-- ---- an abort
goes_aborted : (opening : Map) (ws xs : List Step) (w : WholeState) (t : ℕ) (p : ReaderStage) → stage_of t w.readers ≡ Some p → core_phase p ≡ IsActive → IsWholeKept opening ws xs w → Goes opening ws xs w (Aborts t ∷ []) (rolled_back t) (with_stage t Aborted w.readers) w.committed_readers
goes_aborted opening ws xs w t p e a h =
    let at = core_stands ws xs w.core t w.readers p e h.readers in
    let m : MayCome w.core (Rollback t) Accepted = (may_roll_back w.core t (in_core opening ws xs w t p e h ∙ a), tt) in
    one_call opening ws xs (Aborts t ∷ []) w (Rollback t) Accepted (with_stage t Aborted w.readers) w.committed_readers
    (moved opening ws xs (Aborts t ∷ []) (Aborts t ∷ []) w t p Aborted (after_abort w.core t) w.committed_readers e h (kept_after_call opening xs w.core (Rollback t) Accepted m h.kept)
    (grows_after_call opening xs w.core (Rollback t) Accepted m h.kept).clock (start_stays w.core (Rollback t) Accepted (λ k i _. absurd cc))
    (λ u ne. ((ne, tt), (ne, tt))) (phase_of-push_own t xs (Aborts t) refl) (phase_of-push_own t ws (Aborts t) refl) (λ u. refl) (λ u. refl)
    (each_weaker (IsCommittedReader opening xs w.core) (IsCommittedReader opening (xs ++ Aborts t ∷ []) (after_abort w.core t)) (λ y. committed_stays opening xs w.core (Rollback t) Accepted y m h.kept) w.committed_readers h.committed_readers) h.apart
    (follow_commits ws xs (Aborts t ∷ []) (reader_commits w.committed_readers) h.commits))

goes_failed : (opening : Map) (ws xs : List Step) (w : WholeState) (t : ℕ) (p : ReaderStage) (r : Refusal) → stage_of t w.readers ≡ Some p → (is_failure r ≡ true → core_phase p ≡ IsActive) → IsWholeKept opening ws xs w →
    Goes opening ws xs w (steps_of_refusal t r) (core_failed t r) (readers_failed t r w.readers) w.committed_readers
goes_failed opening ws xs w t p r e f h = go (is_failure r) refl
  where
    go : (b : Bool) → is_failure r ≡ b → Goes opening ws xs w (cond b (Aborts t ∷ []) []) (cond b (rolled_back t) []) (cond b (with_stage t Aborted w.readers) w.readers) w.committed_readers
    go true g = goes_aborted opening ws xs w t p e (f g) h
    go false g = whole_same opening ws xs w h

-- ---- a commit
-- the settled ones below t, from the opening on
pub below_past : (t : ℕ) (xs : List StampedTx) (m : Map) → AllByRecursion (λ x. (x.settled ≡ true) × (x.end < t)) xs → after_history (settled_before t xs) m ≡ after_settled xs m
below_past t [] m h = refl
below_past t (x ∷ xs) m h =
    after_history-append (cond (x.settled && nat_lt x.end t) x.history []) (settled_before t xs) m
    ∙ ap (λ (b : Bool). after_history (settled_before t xs) (after_history (cond (x.settled && b) x.history []) m)) (lt-ltb x.end t h.0.1)
    ∙ ap (λ (b : Bool). after_history (settled_before t xs) (after_history (cond b x.history []) m)) (and_true x.settled)
    ∙ below_past t xs (after_history (cond x.settled x.history []) m) h.1
  where
    and_true : (a : Bool) → (a && true) ≡ a
    and_true true = refl
    and_true false = refl

pub seen_now : (opening : Map) (xs : List Step) (s : State) (t : ℕ) (r : ActiveTx) → active_of t s.active ≡ Some r → r.aborted_dependency ≡ None → waiting_for r.depends_on s.stamped ≡ None → s.start < t → WritesNothing r.history → IsKept opening xs s → IsReadAt opening (timeline s) t r.history
seen_now opening xs s t r f d n lt idle h =
    let a = active_holds (IsActiveTx s.base s.stamped s.clock) t s.active r f h.sound.active in
    let o = active_holds (λ q. AllByRecursion (λ x. x.end ≢ q.id) s.past) t s.active r f h.has_ends.others in
    let is = a.1 in
    let mine = a.0.consistent d in
    let free = waiting_none r.depends_on s.stamped n in
    subst (λ (u : ℕ). IsReadAt opening (timeline s) u r.history) is (record {
      serial = subst (AreSerial r.history) (rows r.id is) (right_at_begin s.base s.stamped r.id r.history r.footprint r.depends_on mine free h.sound.clear);
      apart = each_append (λ x. x.settled ≡ false → x.end < r.id → IsApart x r.history) s.past s.stamped
          (each_weaker (IsPast s.start) (λ x. x.settled ≡ false → x.end < r.id → IsApart x r.history) (λ x q p l. absurd (true≢false (sym q.settled ∙ p))) s.past h.started.past)
          (apart_at_begin s.base s.stamped s.clock r.id r.history r.footprint r.depends_on mine free h.sound.clear h.sound.placed h.sound.preparing);
      others = each_append (λ x. x.end ≢ r.id) s.past s.stamped o.0 a.0.others;
      idle = idle;
    })
  where
    rows : (u : ℕ) → u ≡ t → after_history (settled_before u s.stamped) s.base ≡ after_history (settled_before u (timeline s)) opening
    rows u i =
        ap (after_history (settled_before u s.stamped)) (h.after_trace.base ∙ sym (below_past u s.past opening (each_weaker (IsPast s.start) (λ x. (x.settled ≡ true) × (x.end < u)) (λ x q. (q.settled, (let e = q.until in omega arith))) s.past h.started.past)))
        ∙ sym (after_history-append (settled_before u s.past) (settled_before u s.stamped) opening)
        ∙ ap (λ us. after_history us opening) (sym (before-append u s.past s.stamped))

apart_push : (ys : List CommittedReader) (y : CommittedReader) → HaveDistinctIds ys → AllByRecursion (λ z. z.id ≢ y.id) ys → HaveDistinctIds (ys ++ y ∷ [])
apart_push [] y h n = (tt, tt)
apart_push (z ∷ zs) y h n = (each_append (λ v. v.id ≢ z.id) zs (y ∷ []) h.0 ((λ e. n.0 (sym e)), tt), apart_push zs y h.1 n.1)

pairs_push : (ys : List CommittedReader) (y : CommittedReader) → reader_commits (ys ++ y ∷ []) ≡ reader_commits ys ++ (y.id, y.id) ∷ []
pairs_push [] y = refl
pairs_push (z ∷ zs) y = ap (λ l. (z.id, z.id) ∷ l) (pairs_push zs y)

goes_committed : (opening : Map) (ws xs : List Step) (w : WholeState) (t : ℕ) (p : ReaderStage) → stage_of t w.readers ≡ Some p → core_phase p ≡ IsActive → flag_of_reader w.core t ≡ None → awaited_by_reader w.core t ≡ None → IsWholeKept opening ws xs w →
    Goes opening ws xs w (Commits t t ∷ []) (rolled_back t) (with_stage t Committed w.readers) (w.committed_readers ++ (record { id = t; history = history_of_active t w.core.active }) ∷ [])
goes_committed opening ws xs w t p e a d n h =
    let at = core_stands ws xs w.core t w.readers p e h.readers in
    let m : MayCome w.core (Rollback t) Accepted = (may_roll_back w.core t (in_core opening ws xs w t p e h ∙ a), tt) in
    let s' = after_abort w.core t in
    let vs = Aborts t ∷ [] in
    let found = found_active w.core t (in_core opening ws xs w t p e h ∙ a) in
    let r = found.0 in
    let f = found.1 in
    let is = found_is t w.core.active r f in
    let grows = grows_after_call opening xs w.core (Rollback t) Accepted m h.kept in
    let told : history_of t xs ≡ r.history = subst (λ (u : ℕ). history_of u xs ≡ r.history) is.0 (active_holds (λ q. history_of q.id xs ≡ q.history) t w.core.active r f h.kept.after_trace.active).0 in
    let read : IsReadAt opening (timeline w.core) t r.history = seen_now opening xs w.core t r f (sym (ap flag_of_active f) ∙ d) (sym (ap (λ o. waiting_for (depends_of_active o) w.core.stamped) f) ∙ n) at.4 (subst WritesNothing told at.2) h.kept in
    let alive : is_aborted t xs ≡ false = subst (λ (u : ℕ). is_aborted u xs ≡ false) is.0 (active_holds (λ q. is_aborted q.id xs ≡ false) t w.core.active r f h.kept.has_ends.active).0 in
    let y : CommittedReader = record { id = t; history = history_of_active t w.core.active } in
    one_call opening ws xs (Commits t t ∷ []) w (Rollback t) Accepted (with_stage t Committed w.readers) (w.committed_readers ++ y ∷ [])
    (moved opening ws xs (Commits t t ∷ []) vs w t p Committed s' (w.committed_readers ++ y ∷ []) e h (kept_after_call opening xs w.core (Rollback t) Accepted m h.kept)
    grows.clock (start_stays w.core (Rollback t) Accepted (λ k i _. absurd cc))
    (λ u ne. ((ne, tt), (ne, tt))) (phase_of-push_own t xs (Aborts t) refl) (phase_of-push_own t ws (Commits t t) refl) (λ u. refl) (λ u. refl)
    (each_append (IsCommittedReader opening (xs ++ vs) s') w.committed_readers (y ∷ [])
    (each_weaker (IsCommittedReader opening xs w.core) (IsCommittedReader opening (xs ++ vs) s') (λ z. committed_stays opening xs w.core (Rollback t) Accepted z m h.kept) w.committed_readers h.committed_readers) (
      record {
        read = subst (IsReadAt opening (timeline s') t) (sym is.1) (grows.read t r.history at.3 read);
        told = history_quiet t xs vs (history_of_active t w.core.active) refl (told ∙ sym is.1);
        gone = aborted_now t xs;
        drawn = let c = grows.clock in let l = at.3 in omega arith;
      },
      tt,
    ))
    (apart_push w.committed_readers y h.apart (each_weaker (IsCommittedReader opening xs w.core) (λ z. z.id ≢ t) (λ z q i. true≢false (sym (subst (λ (u : ℕ). is_aborted u xs ≡ true) i q.gone) ∙ alive)) w.committed_readers h.committed_readers))
    (perm y))
  where
    aborted_now : (u : ℕ) (zs : List Step) → is_aborted u (zs ++ Aborts u ∷ []) ≡ true
    aborted_now u [] = ap (λ (b : Bool). b || false) (eq-eqb u u refl)
    aborted_now u (z ∷ zs) = ap (λ (b : Bool). is_abort_of u z || b) (aborted_now u zs) ∙ or_right (is_abort_of u z)
      where
        or_right : (b : Bool) → (b || true) ≡ true
        or_right true = refl
        or_right false = refl

    perm : (y : CommittedReader) → IsPermutation (commits (ws ++ Commits y.id y.id ∷ [])) (commits (xs ++ Aborts y.id ∷ []) ++ reader_commits (w.committed_readers ++ y ∷ []))
    perm y =
        let c : List (ℕ × ℕ) = (y.id, y.id) ∷ [] in
        subst (λ l. IsPermutation l (commits (xs ++ Aborts y.id ∷ []) ++ reader_commits (w.committed_readers ++ y ∷ []))) (sym (commits_both ws (Commits y.id y.id ∷ [])))
        (subst (IsPermutation (commits ws ++ c)) (append_assoc (commits xs) (reader_commits w.committed_readers) c ∙ ap (λ l. l ++ (reader_commits w.committed_readers ++ c)) (sym (commits_both xs (Aborts y.id ∷ []) ∙ append-none (commits xs))) ∙ ap (λ l. commits (xs ++ Aborts y.id ∷ []) ++ l) (sym (pairs_push w.committed_readers y)))
        (IsPermutation-append_left c (commits ws) (commits xs ++ reader_commits w.committed_readers) h.commits))

goes_settled : (opening : Map) (ws xs : List Step) (w : WholeState) (t : ℕ) (p : ReaderStage) → stage_of t w.readers ≡ Some p → why_not_reader w.core p (Settle t) ≡ None → IsWholeKept opening ws xs w →
    Goes opening ws xs w (commits_unless t (awaited_by_reader w.core t)) (unless_awaited t (awaited_by_reader w.core t)) (settled_unless t w.readers (awaited_by_reader w.core t)) (committed_unless w.core t w.committed_readers (awaited_by_reader w.core t))
goes_settled opening ws xs w t p e n h = go (awaited_by_reader w.core t) refl
  where
    go : (v : Option StampedTx) → awaited_by_reader w.core t ≡ v → Goes opening ws xs w (commits_unless t v) (unless_awaited t v) (settled_unless t w.readers v) (committed_unless w.core t w.committed_readers v)
    go (Some x) f = whole_same opening ws xs w h
    go None f = let m = may_settle w.core t p n in goes_committed opening ws xs w t p e m.0 m.1 f h

-- ---- finishing
part_readers : (P : UnfinishedReader → Type 0) (t : ℕ) (rs : List UnfinishedReader) → AllByRecursion P rs → AllByRecursion (λ r. P r × (r.id ≢ t)) (without_reader t rs)
part_readers P t rs h = each_filter (λ (r : UnfinishedReader). not (r.id == t)) P (λ r. P r × (r.id ≢ t)) (λ r e q. (q, λ i. false≢true (sym (ap not (eq-eqb r.id t i)) ∙ e))) rs h

none_is : (p : ReaderStage) → ◌≡◌ {A = Option ReaderStage} (Some p) None → ⊥
none_is p e = cc

pub unstaged_without : (u t : ℕ) (rs : List UnfinishedReader) → t ≢ u → stage_of u (without_reader t rs) ≡ None → stage_of u rs ≡ None
unstaged_without u t [] n e = refl
unstaged_without u t (r ∷ rs) n e = go (r.id == t) (r.id == u) refl refl e (unstaged_without u t rs n)
  where
    go : (a b : Bool) → (r.id == t) ≡ a → (r.id == u) ≡ b → stage_of u (cond (not a) (r ∷ without_reader t rs) (without_reader t rs)) ≡ None → (stage_of u (without_reader t rs) ≡ None → stage_of u rs ≡ None) → cond b (Some r.stage) (stage_of u rs) ≡ None
    go true true f g q k = absurd (n (sym (eqb-true r.id t f) ∙ eqb-true r.id u g))
    go true false f g q k = k q
    go false true f g q k = absurd (none_is r.stage (ap (λ (b : Bool). cond b (Some r.stage) (stage_of u (without_reader t rs))) (sym g) ∙ q))
    go false false f g q k = k (ap (λ (b : Bool). cond b (Some r.stage) (stage_of u (without_reader t rs))) (sym g) ∙ q)

goes_finished : (opening : Map) (ws xs : List Step) (w : WholeState) (t : ℕ) (p : ReaderStage) → stage_of t w.readers ≡ Some p → MayCome w.core (Finish t) Accepted → IsWholeKept opening ws xs w → Goes opening ws xs w (steps_of w.core (Finish t) Accepted) ((Finish t, Accepted) ∷ []) (cond (is_done w.core t) (without_reader t w.readers) w.readers) w.committed_readers
goes_finished opening ws xs w t p e m h =
    let s' = after_call w.core (Finish t) Accepted in
    let zs = steps_of w.core (Finish t) Accepted in
    let g = grows_after_call opening xs w.core (Finish t) Accepted m h.kept in
    let start = start_stays w.core (Finish t) Accepted (λ k i _. absurd cc) in
    let rest = go (is_done w.core t) s' g.clock start in
    one_call opening ws xs zs w (Finish t) Accepted (cond (is_done w.core t) (without_reader t w.readers) w.readers) w.committed_readers (record {
      kept = kept_after_call opening xs w.core (Finish t) Accepted m h.kept;
      readers = rest.0;
      committed_readers = each_weaker (IsCommittedReader opening xs w.core) (IsCommittedReader opening (xs ++ zs) s') (λ y. committed_stays opening xs w.core (Finish t) Accepted y m h.kept) w.committed_readers h.committed_readers;
      apart = h.apart;
      histories = λ u. follow_history u ws xs zs (h.histories u);
      commits = follow_commits ws xs zs (reader_commits w.committed_readers) h.commits;
      phases = rest.1;
    })
  where
    leave : (u : ℕ) → stage_of u (without_reader t w.readers) ≡ None → ((t ≡ u) ⊎ (t ≡ u → ⊥)) → phase_of u (ws ++ Terminates t ∷ []) ≡ phase_of u (xs ++ Terminates t ∷ [])
    leave u k (inl i) = phase_of-push_own u ws (Terminates t) i ∙ sym (phase_of-push_own u xs (Terminates t) i)
    leave u k (inr n) = follow_phase u ws xs (Terminates t ∷ []) (h.phases u (unstaged_without u t w.readers n k))

    go : (b : Bool) (s' : State) → w.core.clock ≤ s'.clock → s'.start ≡ w.core.start → AllByRecursion (IsUnfinishedReader (ws ++ cond b (Terminates t ∷ []) []) (xs ++ cond b (Terminates t ∷ []) []) s') (cond b (without_reader t w.readers) w.readers) × ((u : ℕ) → stage_of u (cond b (without_reader t w.readers) w.readers) ≡ None → phase_of u (ws ++ cond b (Terminates t ∷ []) []) ≡ phase_of u (xs ++ cond b (Terminates t ∷ []) []))
    go true s' c d = (
      each_weaker (λ r. IsUnfinishedReader ws xs w.core r × (r.id ≢ t)) (IsUnfinishedReader (ws ++ Terminates t ∷ []) (xs ++ Terminates t ∷ []) s')
          (λ r q. reader_stays ws xs (Terminates t ∷ []) (Terminates t ∷ []) w.core s' r ((λ i. q.1 (sym i)), tt) ((λ i. q.1 (sym i)), tt) c (let l = q.0.later in omega arith) q.0) (without_reader t w.readers) (part_readers (IsUnfinishedReader ws xs w.core) t w.readers h.readers),
      λ u k. leave u k (cases_eq t u),
    )
    go false s' c d = (
      each_weaker (IsUnfinishedReader ws xs w.core) (IsUnfinishedReader (ws ++ []) (xs ++ []) s') (λ r q. reader_stays ws xs [] [] w.core s' r tt tt c (let l = q.later in omega arith) q) w.readers h.readers,
      λ u k. follow_phase u ws xs [] (h.phases u k),
    )

-- ---- a call that names a read-only transaction
none_why : (r : Refusal) → ◌≡◌ {A = Option Refusal} (Some r) None → ⊥
none_why r e = cc

ended_in : (s : State) (t : ℕ) → phase_in s t ≡ IsAborted → why_not_rollback s t ≡ None → ⊥
ended_in s t e n = none_why Ended (sym (ap (λ (p : Phase). first_cause (when (is_absent p) NoSuchTransaction ∷ when (is_ended p) Ended ∷ [])) e) ∙ n)

no_stage : (p : ReaderStage) → ◌≡◌ {A = Option ReaderStage} None (Some p) → ⊥
no_stage p e = cc

pub reader_goes : (opening : Map) (ws xs : List Step) (w : WholeState) (c : Call) (r : Result) (p : ReaderStage) → stage_named w.readers (id_named c) ≡ Some p → MayComeAtStage w c (Some p) r → IsWholeKept opening ws xs w → Goes opening ws xs w (reader_steps w.core c r) (core_reader w.core c r) (readers_reader w.core p c r w.readers) (committed_by_reader w.core c r w.committed_readers)
reader_goes opening ws xs w Begin r p e m h = absurd (no_stage p e)
reader_goes opening ws xs w (Trim k) r p e m h = absurd (no_stage p e)
reader_goes opening ws xs w (Close fits g full) r p e m h = absurd (no_stage p e)
reader_goes opening ws xs w (Do t op) Accepted p e m h = goes_read opening ws xs w t op p e m.0 h
reader_goes opening ws xs w (Precommit t) Accepted p e m h = goes_prepared p e m.0
  where
    goes_prepared : (q : ReaderStage) → stage_of t w.readers ≡ Some q → why_not_reader w.core q (Precommit t) ≡ None → Goes opening ws xs w (Prepares t t ∷ []) [] (with_stage t (Preparing 0 false) w.readers) w.committed_readers
    goes_prepared q f n = goes_moved opening ws xs w t q (Preparing 0 false) (Prepares t t) refl refl (λ u. refl) f (sym (may_prepare w.core t q n)) refl h
reader_goes opening ws xs w (Validate t) Accepted p e m h = let k = checked_phase w.core t p in goes_moved opening ws xs w t p (checked_more w.core t p) (Checks t) refl refl (λ u. refl) e k.0 (sym k.1) h
reader_goes opening ws xs w (Settle t) Accepted p e m h = goes_settled opening ws xs w t p e m.0 h
reader_goes opening ws xs w (Rollback t) Accepted p e m h = goes_rolled_back p e m.0
  where
    active_in : (q : ReaderStage) → phase_in w.core t ≡ core_phase q → why_not_rollback w.core t ≡ None → core_phase q ≡ IsActive
    active_in Reading i n = refl
    active_in (Preparing k v) i n = refl
    active_in Committed i n = absurd (ended_in w.core t i n)
    active_in Aborted i n = absurd (ended_in w.core t i n)

    goes_rolled_back : (q : ReaderStage) → stage_of t w.readers ≡ Some q → why_not_rollback w.core t ≡ None → Goes opening ws xs w (Aborts t ∷ []) (rolled_back t) (with_stage t Aborted w.readers) w.committed_readers
    goes_rolled_back q f n = goes_aborted opening ws xs w t q f (active_in q (in_core opening ws xs w t q f h) n) h
reader_goes opening ws xs w (Finish t) Accepted p e m h = goes_finished opening ws xs w t p e (m.0, m.1) h
reader_goes opening ws xs w (Do t op) (Refused r) p e m h = goes_failed opening ws xs w t p r e (may_fail_do w t op p r m) h
reader_goes opening ws xs w (Precommit t) (Refused r) p e m h = goes_failed opening ws xs w t p r e (may_fail_precommit w t p r m) h
reader_goes opening ws xs w (Validate t) (Refused r) p e m h = goes_failed opening ws xs w t p r e (may_fail_validate w t p r m) h
reader_goes opening ws xs w (Settle t) (Refused r) p e m h = goes_failed opening ws xs w t p r e (may_fail_settle w t p r m) h
reader_goes opening ws xs w (Rollback t) (Refused r) p e m h = whole_same opening ws xs w h
reader_goes opening ws xs w (Finish t) (Refused r) p e m h = whole_same opening ws xs w h
