-- A call that names no read-only transaction keeps what is kept of all of them.
use Rattle.std.proofs.Common.{◌≡◌, ◌≢◌, ℕ, ◌<◌, ◌≤◌, Bool, true, false, cond, not, List, [], ◌∷◌, ◌++◌, Option, None, Some, refl, sym, ◌∙◌, subst, arith}
use Rattle.std.specs.Prelude.{◌==◌, nat_le}
use Rattle.std.specs.List.{AllByRecursion}
use Rattle.std.proofs.lemmas.Bool.{eq-eqb, true≢false, false≢true, leb-false}
use Rattle.mvo_types.specs.declared.op.Op.{Op}
use Rattle.mvo_types.specs.declared.refusal.Refusal.{Refusal}
use Rattle.mvo_types.specs.declared.refusal.Refusal.TheVariants.{NothingToDo}
use Rattle.mvo_types.specs.Keys.{Map}
use Rattle.mvo_model.specs.Trace.{Step, history_of}
use Rattle.mvo_theory.specs.State.{State}
use Rattle.mvo_theory.specs.Snapshots.{is_aborted}
use Rattle.mvo_theory.specs.Causes.{is_trim}
use Rattle.mvo_theory.specs.Calls.{Call, Result, Run, why_not, MayCome, after_call, after_run, steps_of, trace_of, IsKept}
use Rattle.mvo_theory.specs.Calls.Call.{Begin, Do, Precommit, Validate, Settle, Rollback, Finish, Trim, Close}
use Rattle.mvo_theory.specs.Calls.Result.{Accepted, Refused}
use Rattle.mvo_theory.proofs.Each.{each_weaker}
use Rattle.mvo_theory.proofs.Footprints.{none_any}
use Rattle.mvo_theory.proofs.Who.{active_done, active_holds}
use Rattle.mvo_theory.proofs.Runs.{kept_after_call}
use Rattle.mvo_readonly.specs.ReadAt.{WritesNothing}
use Rattle.mvo_readonly.specs.Whole.{ReaderStage, UnfinishedReader, CommittedReader, WholeState, stage_of, phase_at_stage, id_named, stage_named}
use Rattle.mvo_readonly.specs.WholeCauses.{has_reader_to, why_not_other, MayComeAtStage}
use Rattle.mvo_readonly.specs.WholeCalls.{core_other}
use Rattle.mvo_readonly.specs.WholeKept.{core_phase, IsUnfinishedReader, IsCommittedReader, IsWholeKept, reader_commits}
use Rattle.mvo_readonly.proofs.Growing.{grows_after_call}
use Rattle.mvo_readonly.proofs.Traces.{append-none, phase_others, history_quiet, history_from_others, aborted_still, AreOthers, follow_history, follow_phase, follow_commits, steps_of_others, steps_of_quiet, start_stays}

-- ---- who has a stage
none_stage : (p : ReaderStage) → ◌≡◌ {A = Option ReaderStage} (Some p) None → ⊥
none_stage p e = cc

pub unstaged : (t : ℕ) (rs : List UnfinishedReader) → stage_of t rs ≡ None → AllByRecursion (λ r. r.id ≢ t) rs
unstaged t [] e = tt
unstaged t (r ∷ rs) e = go (r.id == t) refl e (unstaged t rs)
  where
    go : (b : Bool) → (r.id == t) ≡ b → cond b (Some r.stage) (stage_of t rs) ≡ None → (stage_of t rs ≡ None → AllByRecursion (λ q. q.id ≢ t) rs) → (r.id ≢ t) × AllByRecursion (λ q. q.id ≢ t) rs
    go true f g k = absurd (none_stage r.stage g)
    go false f g k = ((λ i. true≢false (sym (eq-eqb r.id t i) ∙ f)), k g)

-- who isn't named
pub not_named : (c : Call) (rs : List UnfinishedReader) → stage_named rs (id_named c) ≡ None → AllByRecursion (λ r. (t : ℕ) → id_named c ≡ Some t → t ≢ r.id) rs
not_named c rs e = go (id_named c) e
  where
    some_nat : (t u : ℕ) → ◌≡◌ {A = Option ℕ} (Some t) (Some u) → t ≡ u
    some_nat t u q = cc

    none_nat : (t : ℕ) → ◌≡◌ {A = Option ℕ} None (Some t) → ⊥
    none_nat t q = cc

    every : (n : Option ℕ) (qs : List UnfinishedReader) → ((r : UnfinishedReader) → (t : ℕ) → n ≡ Some t → t ≢ r.id) → AllByRecursion (λ r. (t : ℕ) → n ≡ Some t → t ≢ r.id) qs
    every n [] f = tt
    every n (q ∷ qs) f = (f q, every n qs f)

    go : (n : Option ℕ) → stage_named rs n ≡ None → AllByRecursion (λ r. (t : ℕ) → n ≡ Some t → t ≢ r.id) rs
    go None f = every None rs (λ r t q. absurd (none_nat t q))
    go (Some u) f = each_weaker (λ r. r.id ≢ u) (λ r. (t : ℕ) → Some u ≡ Some t → t ≢ r.id) (λ r n t q i. n (sym i ∙ sym (some_nat u t q))) rs (unstaged u rs f)

-- ---- one that isn't named
pub reader_stays : (ws xs us vs : List Step) (s s' : State) (r : UnfinishedReader) → AreOthers r.id us → AreOthers r.id vs → s.clock ≤ s'.clock → s'.start < r.id → IsUnfinishedReader ws xs s r → IsUnfinishedReader (ws ++ us) (xs ++ vs) s' r
reader_stays ws xs us vs s s' r n m le lt h = record {
  stands = phase_others r.id xs vs (core_phase r.stage) m h.stands;
  phase = phase_others r.id ws us (phase_at_stage r.id r.stage) n h.phase;
  idle = subst WritesNothing (sym (history_quiet r.id xs vs (history_of r.id xs) (history_from_others r.id vs m) refl)) h.idle;
  drawn = let d = h.drawn in omega arith;
  later = lt;
}

-- one that is gone is told nothing
pub not_told : (opening : Map) (xs : List Step) (s : State) (c : Call) (r : Result) (u : ℕ) → MayCome s c r → IsKept opening xs s → is_aborted u xs ≡ true → history_of u (steps_of s c r) ≡ []
not_told opening xs s c r u m h g = steps_of_quiet u s c r (λ t op e f i. one t op (subst (λ (d : Call). MayCome s d Accepted) e (subst (MayCome s c) f m)) i)
  where
    one : (t : ℕ) (op : Op) → MayCome s (Do t op) Accepted → t ≡ u → ⊥
    one t op k i =
        let found = active_done s t op k.0 in
        let a = active_holds (λ q. is_aborted q.id xs ≡ false) t s.active found.0 found.1 h.has_ends.active in
        false≢true (sym a.0 ∙ subst (λ (n : ℕ). is_aborted n xs ≡ true) (sym (a.1 ∙ i)) g)

pub committed_stays : (opening : Map) (xs : List Step) (s : State) (c : Call) (r : Result) (y : CommittedReader) → MayCome s c r → IsKept opening xs s → IsCommittedReader opening xs s y → IsCommittedReader opening (xs ++ steps_of s c r) (after_call s c r) y
committed_stays opening xs s c r y m h q = let g = grows_after_call opening xs s c r m h in record {
  read = g.read y.id y.history q.drawn q.read;
  told = history_quiet y.id xs (steps_of s c r) y.history (not_told opening xs s c r y.id m h q.gone) q.told;
  gone = aborted_still y.id xs (steps_of s c r) q.gone;
  drawn = let d = q.drawn in let k = g.clock in omega arith;
}

-- ---- a call of the core that names none of them
follow : (opening : Map) (ws xs : List Step) (w : WholeState) (c : Call) (r : Result) → stage_named w.readers (id_named c) ≡ None → MayCome w.core c r → AllByRecursion (λ q. (after_call w.core c r).start < q.id) w.readers → IsWholeKept opening ws xs w →
    IsWholeKept opening (ws ++ steps_of w.core c r) (xs ++ steps_of w.core c r) (record { core = after_call w.core c r; readers = w.readers; committed_readers = w.committed_readers })
follow opening ws xs w c r e m l h =
    let zs = steps_of w.core c r in
    let s' = after_call w.core c r in
    let g = grows_after_call opening xs w.core c r m h.kept in
    record {
      kept = kept_after_call opening xs w.core c r m h.kept;
      readers = all_readers w.readers (not_named c w.readers e) l h.readers;
      committed_readers = each_weaker (IsCommittedReader opening xs w.core) (IsCommittedReader opening (xs ++ zs) s') (λ y. committed_stays opening xs w.core c r y m h.kept) w.committed_readers h.committed_readers;
      apart = h.apart;
      histories = λ t. follow_history t ws xs zs (h.histories t);
      commits = follow_commits ws xs zs (reader_commits w.committed_readers) h.commits;
      phases = λ t n. follow_phase t ws xs zs (h.phases t n);
    }
  where
    all_readers : (rs : List UnfinishedReader) → AllByRecursion (λ q. (t : ℕ) → id_named c ≡ Some t → t ≢ q.id) rs → AllByRecursion (λ q. (after_call w.core c r).start < q.id) rs → AllByRecursion (IsUnfinishedReader ws xs w.core) rs → AllByRecursion (IsUnfinishedReader (ws ++ steps_of w.core c r) (xs ++ steps_of w.core c r) (after_call w.core c r)) rs
    all_readers [] n k q = tt
    all_readers (a ∷ qs) n k q =
        let others = steps_of_others a.id w.core c r q.0.drawn n.0 in (
          reader_stays ws xs (steps_of w.core c r) (steps_of w.core c r) w.core (after_call w.core c r) a others others (grows_after_call opening xs w.core c r m h.kept).clock k.0 q.0,
          all_readers qs n.1 k.1 q.1,
        )

-- the start stays below each of them
pub start_below : (ws xs : List Step) (s : State) (c : Call) (r : Result) (rs : List UnfinishedReader) → ((m : ℕ) → c ≡ Trim m → r ≡ Accepted → ⊥) → AllByRecursion (IsUnfinishedReader ws xs s) rs → AllByRecursion (λ q. (after_call s c r).start < q.id) rs
start_below ws xs s c r rs n h = each_weaker (IsUnfinishedReader ws xs s) (λ q. (after_call s c r).start < q.id) (λ q k. subst (λ (b : ℕ). b < q.id) (sym (start_stays s c r n)) k.later) rs h

-- a trim stays below each of them
trim_none : (b c : Bool) (r : Refusal) → ◌≡◌ {A = Option Refusal} (cond b (Some r) None) None → b ≡ false
trim_none true c r e = absurd (one e)
  where
    one : ◌≡◌ {A = Option Refusal} (Some r) None → ⊥
    one q = cc
trim_none false c r e = refl

pub may_trim : (w : WholeState) (m : ℕ) → why_not_other w (Trim m) ≡ None → (why_not w.core (Trim m) ≡ None) × (has_reader_to m w.readers ≡ false)
may_trim w m = go (is_trim w.core m) (has_reader_to m w.readers)
  where
    some_none : ◌≡◌ {A = Option Refusal} (Some NothingToDo) None → ⊥
    some_none q = cc

    at : Bool → Bool → Option Refusal
    at a b = Rattle.mvo_types.specs.Causes.first_cause (Rattle.mvo_types.specs.Causes.when (not a) NothingToDo ∷ Rattle.mvo_types.specs.Causes.when b NothingToDo ∷ [])

    go : (a b : Bool) → at a b ≡ None → (Rattle.mvo_types.specs.Causes.first_cause (Rattle.mvo_types.specs.Causes.when (not a) NothingToDo ∷ []) ≡ None) × (b ≡ false)
    go false b e = absurd (some_none e)
    go true true e = absurd (some_none e)
    go true false e = (refl, refl)

readers_above : (m : ℕ) (rs : List UnfinishedReader) → has_reader_to m rs ≡ false → AllByRecursion (λ q. m < q.id) rs
readers_above m rs e = each_weaker (λ q. nat_le q.id m ≡ false) (λ q. m < q.id) (λ q f. leb-false q.id m f) rs (none_any (λ (q : UnfinishedReader). nat_le q.id m) rs e)

pub whole_same : (opening : Map) (ws xs : List Step) (w : WholeState) → IsWholeKept opening ws xs w → IsWholeKept opening (ws ++ []) (xs ++ []) w
whole_same opening ws xs w h = subst (λ l. IsWholeKept opening l (xs ++ []) w) (sym (append-none ws)) (subst (λ l. IsWholeKept opening ws l w) (sym (append-none xs)) h)

-- what the core of the others is called with
abbrev pub Goes : Map → List Step → List Step → WholeState → List Step → Run → List UnfinishedReader → List CommittedReader → Type 0
Goes opening ws xs w us run rs ys = IsWholeKept opening (ws ++ us) (xs ++ trace_of w.core run) (record { core = after_run w.core run; readers = rs; committed_readers = ys })

pub one_call : (opening : Map) (ws xs us : List Step) (w : WholeState) (c : Call) (r : Result) (rs : List UnfinishedReader) (ys : List CommittedReader) →
    IsWholeKept opening (ws ++ us) (xs ++ steps_of w.core c r) (record { core = after_call w.core c r; readers = rs; committed_readers = ys }) → Goes opening ws xs w us ((c, r) ∷ []) rs ys
one_call opening ws xs us w c r rs ys h = subst (λ l. IsWholeKept opening (ws ++ us) (xs ++ l) (record { core = after_call w.core c r; readers = rs; committed_readers = ys })) (sym (append-none (steps_of w.core c r))) h

-- what it may come to, the core's call may
pub may_come : (w : WholeState) (c : Call) (r : Result) → ((m : ℕ) → c ≡ Trim m → ⊥) → MayComeAtStage w c None r → MayCome w.core c r
may_come w Begin Accepted n k = k
may_come w Begin (Refused q) n k = k
may_come w (Do t op) Accepted n k = k
may_come w (Do t op) (Refused q) n k = k
may_come w (Precommit t) Accepted n k = k
may_come w (Precommit t) (Refused q) n k = k
may_come w (Validate t) Accepted n k = k
may_come w (Validate t) (Refused q) n k = k
may_come w (Settle t) Accepted n k = k
may_come w (Settle t) (Refused q) n k = k
may_come w (Rollback t) Accepted n k = k
may_come w (Rollback t) (Refused q) n k = k
may_come w (Finish t) Accepted n k = k
may_come w (Finish t) (Refused q) n k = k
may_come w (Close fits g full) Accepted n k = k
may_come w (Close fits g full) (Refused q) n k = k
may_come w (Trim m) Accepted n k = absurd (n m refl)
may_come w (Trim m) (Refused q) n k = absurd (n m refl)

plain_goes : (opening : Map) (ws xs : List Step) (w : WholeState) (c : Call) (r : Result) → ((m : ℕ) → c ≡ Trim m → ⊥) → stage_named w.readers (id_named c) ≡ None → MayComeAtStage w c None r → IsWholeKept opening ws xs w → Goes opening ws xs w (steps_of w.core c r) ((c, r) ∷ []) w.readers w.committed_readers
plain_goes opening ws xs w c r n e m h = one_call opening ws xs (steps_of w.core c r) w c r w.readers w.committed_readers
    (follow opening ws xs w c r e (may_come w c r n m) (start_below ws xs w.core c r w.readers (λ k i _. n k i) h.readers) h)

pub other_goes : (opening : Map) (ws xs : List Step) (w : WholeState) (c : Call) (r : Result) → stage_named w.readers (id_named c) ≡ None → MayComeAtStage w c None r → IsWholeKept opening ws xs w → Goes opening ws xs w (steps_of w.core c r) (core_other c r) w.readers w.committed_readers
other_goes opening ws xs w Begin r e m h = plain_goes opening ws xs w Begin r (λ k i. absurd cc) e m h
other_goes opening ws xs w (Do t op) r e m h = plain_goes opening ws xs w (Do t op) r (λ k i. absurd cc) e m h
other_goes opening ws xs w (Precommit t) r e m h = plain_goes opening ws xs w (Precommit t) r (λ k i. absurd cc) e m h
other_goes opening ws xs w (Validate t) r e m h = plain_goes opening ws xs w (Validate t) r (λ k i. absurd cc) e m h
other_goes opening ws xs w (Settle t) r e m h = plain_goes opening ws xs w (Settle t) r (λ k i. absurd cc) e m h
other_goes opening ws xs w (Rollback t) r e m h = plain_goes opening ws xs w (Rollback t) r (λ k i. absurd cc) e m h
other_goes opening ws xs w (Finish t) r e m h = plain_goes opening ws xs w (Finish t) r (λ k i. absurd cc) e m h
other_goes opening ws xs w (Close fits g full) r e m h = plain_goes opening ws xs w (Close fits g full) r (λ k i. absurd cc) e m h
other_goes opening ws xs w (Trim k) (Refused q) e m h = whole_same opening ws xs w h
other_goes opening ws xs w (Trim k) Accepted e m h =
    let p = may_trim w k m.0 in
    one_call opening ws xs [] w (Trim k) Accepted w.readers w.committed_readers
    (follow opening ws xs w (Trim k) Accepted e (p.0, m.1) (readers_above k w.readers p.1) h)
