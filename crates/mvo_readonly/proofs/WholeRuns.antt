-- Every list of calls keeps what a state with its read-only transactions keeps.
use Rattle.std.proofs.Common.{◌≡◌, ◌≢◌, ℕ, ◌+◌, Bool, true, false, cond, List, [], ◌∷◌, ◌++◌, Option, None, Some, refl, sym, subst, arith, append_assoc}
use Rattle.std.specs.Prelude.{◌==◌}
use Rattle.std.proofs.lemmas.List.Sorted.{IsPermutation-refl}
use Rattle.mvo_types.specs.Keys.{Map}
use Rattle.mvo_model.specs.Trace.{Step}
use Rattle.mvo_model.specs.Trace.Step.{Begins}
use Rattle.mvo_model.proofs.Traces.{phase_of-push_own}
use Rattle.mvo_theory.specs.Calls.{Result, MayCome, after_call, trace_of}
use Rattle.mvo_theory.specs.Calls.Call.{Begin}
use Rattle.mvo_theory.specs.Calls.Result.{Accepted, Refused}
use Rattle.mvo_theory.proofs.Each.{each_weaker, each_append}
use Rattle.mvo_theory.proofs.Runs.{kept_after_call, kept_opened}
use Rattle.mvo_readonly.specs.ReadAt.{WritesNothing}
use Rattle.mvo_readonly.specs.Whole.{ReaderStage, UnfinishedReader, WholeState, opened_whole, stage_of, id_named, stage_named}
use Rattle.mvo_readonly.specs.WholeCauses.{WholeCall, MayComeAtStage, MayComeWhole}
use Rattle.mvo_readonly.specs.WholeCalls.{own_trace, core_calls, core_at_stage, readers_at_stage, committed_at_stage, steps_at_stage, steps_of_whole_call, after_whole_call, WholeRun, MayRunWhole, after_whole_run, whole_trace}
use Rattle.mvo_readonly.specs.Whole.ReaderStage.{Reading}
use Rattle.mvo_readonly.specs.WholeCauses.WholeCall.{CoreCall, BeginReadOnly}
use Rattle.mvo_readonly.specs.WholeKept.{IsUnfinishedReader, IsCommittedReader, IsWholeKept, reader_commits}
use Rattle.mvo_readonly.proofs.Traces.{history_quiet, follow_history, follow_phase, follow_commits}
use Rattle.mvo_readonly.proofs.Others.{reader_stays, committed_stays, Goes, one_call, whole_same, other_goes}
use Rattle.mvo_readonly.proofs.ReaderCalls.{reader_goes}

-- ---- a read-only transaction begins
pub unstaged_front : (u : ℕ) (rs : List UnfinishedReader) (r : UnfinishedReader) → stage_of u (rs ++ r ∷ []) ≡ None → stage_of u rs ≡ None
unstaged_front u [] r e = refl
unstaged_front u (q ∷ qs) r e = go (q.id == u) e (unstaged_front u qs r)
  where
    some_none : (p : ReaderStage) → ◌≡◌ {A = Option ReaderStage} (Some p) None → ⊥
    some_none p f = cc

    go : (b : Bool) → cond b (Some q.stage) (stage_of u (qs ++ r ∷ [])) ≡ None → (stage_of u (qs ++ r ∷ []) ≡ None → stage_of u qs ≡ None) → cond b (Some q.stage) (stage_of u qs) ≡ None
    go true f k = absurd (some_none q.stage f)
    go false f k = k f

begin_goes : (opening : Map) (ws xs : List Step) (w : WholeState) (r : Result) → MayCome w.core Begin r → IsWholeKept opening ws xs w → IsWholeKept opening (ws ++ steps_of_whole_call w BeginReadOnly r) (xs ++ trace_of w.core (core_calls w BeginReadOnly r)) (after_whole_call w BeginReadOnly r)
begin_goes opening ws xs w (Refused q) m h = one_call opening ws xs [] w Begin (Refused q) w.readers w.committed_readers (whole_same opening ws xs w h)
begin_goes opening ws xs w Accepted m h =
    let t = w.core.clock + 1 in
    let zs = Begins t ∷ [] in
    let s' = after_call w.core Begin Accepted in
    let new : UnfinishedReader = record { id = t; stage = Reading } in
    one_call opening ws xs zs w Begin Accepted (w.readers ++ new ∷ []) w.committed_readers (record {
      kept = kept_after_call opening xs w.core Begin Accepted m h.kept;
      readers = each_append (IsUnfinishedReader (ws ++ zs) (xs ++ zs) s') w.readers (new ∷ [])
          (each_weaker (IsUnfinishedReader ws xs w.core) (IsUnfinishedReader (ws ++ zs) (xs ++ zs) s') (λ r k. let n : t ≢ r.id = (λ i. absurd (let d = k.drawn in omega arith)) in reader_stays ws xs zs zs w.core s' r (n, tt) (n, tt) (omega arith) k.later k) w.readers h.readers) (
            record {
              stands = phase_of-push_own t xs (Begins t) refl;
              phase = phase_of-push_own t ws (Begins t) refl;
              idle = subst WritesNothing (sym (history_quiet t xs zs [] refl (h.kept.after_trace.fresh t (omega arith)))) tt;
              drawn = omega arith;
              later = let d = h.kept.started.drawn in omega arith;
            },
            tt,
          );
      committed_readers = each_weaker (IsCommittedReader opening xs w.core) (IsCommittedReader opening (xs ++ zs) s') (λ y. committed_stays opening xs w.core Begin Accepted y m h.kept) w.committed_readers h.committed_readers;
      apart = h.apart;
      histories = λ u. follow_history u ws xs zs (h.histories u);
      commits = follow_commits ws xs zs (reader_commits w.committed_readers) h.commits;
      phases = λ u k. follow_phase u ws xs zs (h.phases u (unstaged_front u w.readers new k));
    })

-- ---- each call
pub whole_after_call : (opening : Map) (ws xs : List Step) (w : WholeState) (a : WholeCall) (r : Result) → MayComeWhole w a r → IsWholeKept opening ws xs w → IsWholeKept opening (ws ++ steps_of_whole_call w a r) (xs ++ trace_of w.core (core_calls w a r)) (after_whole_call w a r)
whole_after_call opening ws xs w BeginReadOnly r m h = begin_goes opening ws xs w r m h
whole_after_call opening ws xs w (CoreCall c) r m h = go (stage_named w.readers (id_named c)) refl m
  where
    go : (p : Option ReaderStage) → stage_named w.readers (id_named c) ≡ p → MayComeAtStage w c p r → Goes opening ws xs w (steps_at_stage w.core c r p) (core_at_stage w.core c r p) (readers_at_stage w.core c r p w.readers) (committed_at_stage w.core c r p w.committed_readers)
    go None e k = other_goes opening ws xs w c r e k h
    go (Some p) e k = reader_goes opening ws xs w c r p e k h

pub whole_opened : (rows : Map) (mark : ℕ) → IsWholeKept rows [] [] (opened_whole rows mark)
whole_opened rows mark = record {
  kept = kept_opened rows mark;
  readers = tt;
  committed_readers = tt;
  apart = tt;
  histories = λ t. refl;
  commits = IsPermutation-refl [];
  phases = λ t e. refl;
}

pub whole_after_run : (opening : Map) (ws xs : List Step) (w : WholeState) (d : WholeRun) → MayRunWhole w d → IsWholeKept opening ws xs w → IsWholeKept opening (ws ++ whole_trace w d) (xs ++ own_trace w d) (after_whole_run w d)
whole_after_run opening ws xs w [] m h = whole_same opening ws xs w h
whole_after_run opening ws xs w (a ∷ rest) m h =
    let w' = after_whole_call w a.0 a.1 in
    let us = steps_of_whole_call w a.0 a.1 in
    let vs = trace_of w.core (core_calls w a.0 a.1) in
    subst (λ l. IsWholeKept opening l (xs ++ (vs ++ own_trace w' rest)) (after_whole_run w' rest)) (append_assoc ws us (whole_trace w' rest))
    (subst (λ l. IsWholeKept opening ((ws ++ us) ++ whole_trace w' rest) l (after_whole_run w' rest)) (append_assoc xs vs (own_trace w' rest))
    (whole_after_run opening (ws ++ us) (xs ++ vs) w' rest m.1 (whole_after_call opening ws xs w a.0 a.1 m.0 h)))
