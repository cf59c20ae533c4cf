-- Each step that a call makes keeps what a core keeps.
use Rattle.std.proofs.Common.{◌≡◌, ◌≢◌, ℕ, ◌≤◌, ◌+◌, ◌<◌, Bool, true, false, cond, List, [], ◌∷◌, ◌++◌, Option, None, Some, length, refl, sym, ap, ◌∙◌, subst, arith, append-nil}
use Rattle.std.specs.Prelude.{nat_le, ◌==◌, is_some, slice_get}
use Rattle.std.specs.List.{AllByRecursion}
use Rattle.std.proofs.lemmas.Bool.{eqb-true, eq-eqb, leb-true, true≢false}
use Rattle.mvo_types.specs.declared.op.Op.{Op}
use Rattle.mvo_types.specs.declared.refusal.Refusal.{Refusal}
use Rattle.mvo_types.specs.declared.refusal.Refusal.TheVariants.{ValidationFailed}
use Rattle.mvo_types.specs.Keys.{Map}
use Rattle.mvo_model.specs.Serial.{answer_to}
use Rattle.mvo_model.specs.History.{after_history, net_write}
use Rattle.mvo_model.specs.Trace.{Step}
use Rattle.mvo_model.specs.Trace.Step.{Begins, Answers, Prepares, Checks, Commits, Aborts, Terminates}
use Rattle.mvo_theory.specs.Entries.{entries}
use Rattle.mvo_theory.specs.State.{State, StampedTx, ActiveTx, seen_by, history_of_active, snapshot, active_of, preparing_of}
use Rattle.mvo_theory.specs.Claims.{ended_key}
use Rattle.mvo_theory.specs.Changes.{after_begin, after_operation, after_check, after_abort_of_active, after_termination, after_prepare, after_trim, after_commit}
use Rattle.mvo_theory.specs.Causes.{why_not_trim, claimed_by, change_of, differs, entry_differs, why_not_do, why_not_precommit, why_not_validate, why_not_settle, waiting_for, awaited_by, awaited, end_at, end_of, is_failure, why_not_finish}
use Rattle.mvo_theory.proofs.Cases.{validate_none, or_flagged, not_op, not_checked_at, none_refusal}
use Rattle.mvo_theory.specs.Steps.{after_precommit_of, after_precommit, after_validate_of, after_validate, after_commit_of, after_commit_now, after_settle_unless, after_settle, after_abort_of, after_abort, after_refusal, steps_of_refusal}
use Rattle.mvo_theory.specs.Sound.{IsRising, IsActive, IsSound, AreDistinct, IsNumbered, IsSingle, IsStarted, AreExclusive}
use Rattle.mvo_theory.specs.AfterTrace.{IsAfterTrace}
use Rattle.mvo_theory.specs.Traced.{IsTraced, AreTraced}
use Rattle.mvo_theory.specs.Claimed.{HasClaims, AreClaimed}
use Rattle.mvo_theory.specs.Snapshots.{is_aborted, HasEnds, footprint_in, HasFootprints}
use Rattle.mvo_theory.specs.Calls.{answer_in, steps_unless, steps_of_accepted, IsKept}
use Rattle.mvo_theory.proofs.Each.{each_weaker, each_both, each_append}
use Rattle.mvo_theory.proofs.Sound.{sound_after_begin, IsAnswer, sound_after_operation, sound_after_prepare, IsCheck, sound_after_check}
use Rattle.mvo_theory.proofs.Ends.{sound_after_abort_of_active, sound_after_abort_of_preparing}
use Rattle.mvo_theory.proofs.Causes.{change_none}
use Rattle.mvo_theory.proofs.Commits.{split_at, free_settled, sound_settled}
use Rattle.mvo_theory.proofs.Settle.{rising_before, rising_after}
use Rattle.mvo_theory.proofs.Numbered.{numbered_after_begin, numbered_after_operation, numbered_after_prepare, numbered_after_check, numbered_after_commit, numbered_after_abort_of_active, numbered_after_abort_of_preparing}
use Rattle.mvo_theory.proofs.Single.{single_after_begin, single_after_operation, single_after_prepare, single_after_check, single_after_commit, single_after_abort_of_active, single_after_abort_of_preparing, single_after_termination}
use Rattle.mvo_theory.proofs.Phases.{IsUnended}
use Rattle.mvo_theory.proofs.Started.{started_after_begin, started_after_operation, started_after_prepare, started_after_check, started_after_commit, started_after_abort_of_active, started_after_abort_of_preparing, started_after_termination}
use Rattle.mvo_theory.proofs.Trim.{sound_after_trim, started_after_trim}
use Rattle.mvo_theory.proofs.Trimmed.{may_trim, numbered_after_trim, single_after_trim, exclusive_after_trim, trace_after_trim}
use Rattle.mvo_theory.proofs.Who.{active_holds, id_of, active_done, active_after_prepare, preparing_after_check, preparing_settled, ended_finished}
use Rattle.mvo_theory.proofs.AfterTrace.{alone_open, trace_after_begin, trace_after_operation, trace_after_prepare, trace_after_check, trace_after_commit, trace_aborted, trace_after_termination}
use Rattle.mvo_theory.proofs.LastWriter.{found_in}
use Rattle.mvo_theory.proofs.Traced.{traced_after_begin, traced_after_prepare, traced_after_check, traced_after_commit, traced_after_abort_of_active, traced_same, traced_after_termination, traced_after_trim, traced_after_abort_of_preparing, traced_after_operation}
use Rattle.mvo_theory.proofs.Snapshots.{history_is, seen_traced}
use Rattle.mvo_theory.proofs.Prints.{prints_silent, prints_after_begin, prints_after_prepare, prints_after_check, prints_after_commit, prints_after_abort_of_active, prints_after_abort_of_preparing, prints_after_termination, prints_after_trim, prints_after_operation}
use Rattle.mvo_theory.proofs.EndSteps.{ends_after_begin, ends_after_operation, ends_after_check, ends_same_after_check, ends_after_commit, ends_after_termination, ends_after_prepare, ends_after_abort_of_active, ends_after_abort_of_preparing, ends_after_trim}
use Rattle.mvo_theory.proofs.ClaimSteps.{claimed_same, claimed_after_begin, claimed_after_operation, claimed_after_prepare, claimed_after_check, claimed_after_commit, claimed_after_abort_of_active, claimed_after_abort_of_preparing, claimed_after_termination, claimed_after_trim}
use Rattle.mvo_theory.proofs.Claims.{first_claim, exclusive_after_begin, IsFirst, exclusive_after_operation, exclusive_after_prepare, exclusive_after_check, exclusive_after_commit, exclusive_after_abort_of_active, exclusive_after_abort_of_preparing, exclusive_after_termination}
use Rattle.mvo_theory.specs.Calls.Call.{Settle}
use Rattle.mvo_theory.specs.Origins.{HasOrigins, AreWritten, HaveWrittenClaims}
use Rattle.mvo_theory.proofs.OriginSteps.{Of, origins_after_begin, origins_after_operation, origins_after_prepare, origins_after_check, origins_after_abort_of_active, origins_after_termination, origins_after_trim}
use Rattle.mvo_theory.proofs.OriginEnds.{alone_at, origins_after_commit, origins_after_abort_of_preparing}

-- what the trace says of claims, apart from it
pub written_claims : (xs : List Step) (s : State) → AreClaimed xs s → HaveWrittenClaims s
written_claims xs s h = record {
  active = each_weaker (λ r. HasClaims s.marks.opening xs r.id r.history r.claims) (λ r. AreWritten r.history r.claims) (λ r q. q.written) s.active h.active;
  stamped = each_weaker (λ x. HasClaims s.marks.opening xs x.id x.history x.claims) (λ x. AreWritten x.history x.claims) (λ x q. q.written) s.stamped h.stamped;
  past = each_weaker (λ x. HasClaims s.marks.opening xs x.id x.history x.claims) (λ x. AreWritten x.history x.claims) (λ x q. q.written) s.past h.past;
}

-- ---- what an Active transaction sees
pub sees : (s : State) (t : ℕ) → IsNumbered s → AllByRecursion (λ (r : ActiveTx). r.id ≡ t → snapshot s t ≡ after_history r.history (seen_by s.base s.stamped r.id)) s.active
sees s t n = each_weaker (λ (r : ActiveTx). r.id ≡ t → history_of_active t s.active ≡ r.history) (λ (r : ActiveTx). r.id ≡ t → snapshot s t ≡ after_history r.history (seen_by s.base s.stamped r.id))
    (λ r f e. ap (λ ts. after_history ts (seen_by s.base s.stamped t)) (f e) ∙ ap (λ (u : ℕ). after_history r.history (seen_by s.base s.stamped u)) (sym e)) s.active (history_is t s.active n.distinct)

-- ---- an operation
answers_now : (s : State) (t : ℕ) (op : Op) → IsNumbered s → AllByRecursion (IsAnswer s t op (answer_in s t op)) s.active
answers_now s t op n = each_weaker (λ (r : ActiveTx). r.id ≡ t → snapshot s t ≡ after_history r.history (seen_by s.base s.stamped r.id)) (IsAnswer s t op (answer_in s t op)) (λ r f e _. ap (answer_to op) (f e)) s.active (sees s t n)

some_active : (q r : ActiveTx) → ◌≡◌ {A = Option ActiveTx} (Some q) (Some r) → q ≡ r
some_active q r e = cc

-- the one that is found is the only one with its number
pub only_one : (t : ℕ) (rs : List ActiveTx) (r : ActiveTx) → active_of t rs ≡ Some r → AreDistinct rs → AllByRecursion (λ (q : ActiveTx). q.id ≡ t → q ≡ r) rs
only_one t [] r f d = tt
only_one t (q ∷ qs) r f d = go (q.id == t) refl f (λ g. only_one t qs r g d.1)
  where
    go : (b : Bool) → (q.id == t) ≡ b → cond b (Some q) (active_of t qs) ≡ Some r → (active_of t qs ≡ Some r → AllByRecursion (λ (v : ActiveTx). v.id ≡ t → v ≡ r) qs) → (q.id ≡ t → q ≡ r) × AllByRecursion (λ (v : ActiveTx). v.id ≡ t → v ≡ r) qs
    go true e g k = (λ _. some_active q r g, each_weaker (λ v. v.id ≢ q.id) (λ (v : ActiveTx). v.id ≡ t → v ≡ r) (λ v n i. absurd (n (i ∙ sym (eqb-true q.id t e)))) qs d.0)
    go false e g k = (λ i. absurd (true≢false (sym (eq-eqb q.id t i) ∙ e)), k g)

first_now : (s : State) (t : ℕ) (op : Op) (r : ActiveTx) → active_of t s.active ≡ Some r → not_op s op r ≡ None → IsNumbered s → IsFirst s t op (answer_in s t op)
first_now s t op r f w n k e =
    each_both (λ (q : ActiveTx). q.id ≡ t → snapshot s t ≡ after_history q.history (seen_by s.base s.stamped q.id)) (λ (q : ActiveTx). q.id ≡ t → q ≡ r) (λ (q : ActiveTx). q.id ≡ t → is_some (net_write k q.history) ≡ false → claimed_by s q.id k ≡ None)
    (λ q sees_it is i. first_claim s op q k (subst (λ (v : ActiveTx). not_op s op v ≡ None) (sym (is i)) w) (sym (ap (λ m. ended_key op (answer_to op m)) (sees_it i)) ∙ e)) s.active (sees s t n) (only_one t s.active r f n.distinct)

pub kept_done : (opening : Map) (xs : List Step) (s : State) (t : ℕ) (op : Op) → why_not_do s t op ≡ None → IsKept opening xs s → IsKept opening (xs ++ Answers t op (answer_in s t op) ∷ []) (after_operation s t op (answer_in s t op))
kept_done opening xs s t op w h =
    let a = answer_in s t op in
    let found = active_done s t op w in
    let once = h.single.once t in
    record {
      sound = sound_after_operation s t op a (answers_now s t op h.numbered) h.sound;
      numbered = numbered_after_operation s t op a h.numbered;
      single = single_after_operation s t op a h.single;
      exclusive = exclusive_after_operation s t op a (omega arith) (first_now s t op found.0 found.1 found.3 h.numbered) h.exclusive;
      started = started_after_operation s t op a h.started;
      after_trace = trace_after_operation opening xs s t op a found.0 found.1 h.sound h.numbered h.after_trace;
      traced = traced_after_operation opening xs s t op a found.0 found.1 (only_one t s.active found.0 found.1 h.numbered.distinct) h.sound h.single h.started h.after_trace h.traced;
      claimed = claimed_after_operation opening xs s t op a h.sound h.single h.started h.after_trace h.claimed;
      has_ends = ends_after_operation xs s t op a h.has_ends;
      prints = prints_after_operation opening xs s t op a (drawn found.0 found.1) (apart found.0 found.1) (seen_traced opening xs s h) h.prints;
      origins = origins_after_operation s t op a h.origins;
    }
  where
    drawn : (r : ActiveTx) → active_of t s.active ≡ Some r → t ≤ s.clock
    drawn r f = let a = active_holds (IsActive s.base s.stamped s.clock) t s.active r f h.sound.active in let d = a.0.drawn in let is = a.1 in omega arith

    apart : (r : ActiveTx) → active_of t s.active ≡ Some r → AllByRecursion (λ (x : StampedTx). x.id ≢ t) s.stamped
    apart r f = let a = active_holds (λ q. AllByRecursion (λ x. x.id ≢ q.id) s.stamped) t s.active r f h.numbered.apart in subst (λ (n : ℕ). AllByRecursion (λ (x : StampedTx). x.id ≢ n) s.stamped) a.1 a.0

-- ---- begin
pub kept_begun : (opening : Map) (xs : List Step) (s : State) → IsKept opening xs s → IsKept opening (xs ++ Begins (s.clock + 1) ∷ []) (after_begin s (s.clock + 1))
kept_begun opening xs s h = record {
  sound = sound_after_begin s (s.clock + 1) (omega arith) h.sound;
  numbered = numbered_after_begin s (s.clock + 1) (omega arith) h.sound h.started h.numbered;
  single = single_after_begin s (s.clock + 1) (omega arith) h.sound h.single;
  exclusive = exclusive_after_begin s (s.clock + 1) h.exclusive;
  started = started_after_begin s (s.clock + 1) (omega arith) h.started;
  after_trace = trace_after_begin opening xs s (s.clock + 1) (omega arith) h.sound h.single h.after_trace;
  traced = traced_after_begin opening xs (Begins (s.clock + 1) ∷ []) s (s.clock + 1) h.sound h.traced;
  claimed = claimed_after_begin xs (Begins (s.clock + 1) ∷ []) s (s.clock + 1) h.claimed;
  has_ends = ends_after_begin xs s (s.clock + 1) (omega arith) h.sound h.started h.has_ends;
  prints = prints_after_begin opening xs s (s.clock + 1) (omega arith) h.prints;
  origins = origins_after_begin s (s.clock + 1) h.origins;
}

-- ---- precommit
pub kept_prepared : (opening : Map) (xs : List Step) (s : State) (t : ℕ) → why_not_precommit s t ≡ None → IsKept opening xs s → IsKept opening (xs ++ Prepares t (s.clock + 1) ∷ []) (after_precommit s t)
kept_prepared opening xs s t w h =
    let found = active_after_prepare s t w in
    let r = found.0 in
    let is = id_of t s.active r found.1 in
    let same : active_of r.id s.active ≡ Some r = subst (λ (u : ℕ). active_of u s.active ≡ Some r) (sym is) found.1 in
    let now = sym (ap (after_precommit_of s) found.1) in
    record {
      sound = subst IsSound now (sound_after_prepare s r (s.clock + 1) (omega arith) (active_holds (IsActive s.base s.stamped s.clock) t s.active r found.1 h.sound.active).0 h.sound);
      numbered = subst IsNumbered now (numbered_after_prepare s r (s.clock + 1) h.numbered);
      single = subst IsSingle now (single_after_prepare s r (s.clock + 1) same (omega arith) h.single);
      exclusive = subst AreExclusive now (exclusive_after_prepare s r (s.clock + 1) same h.exclusive);
      started = subst IsStarted now (started_after_prepare s r (s.clock + 1) (omega arith) h.started);
      after_trace = trace_after_prepare opening xs s t r found.1 h.single h.after_trace;
      traced = subst (AreTraced opening (xs ++ Prepares t (s.clock + 1) ∷ [])) now (traced_after_prepare opening xs (Prepares t (s.clock + 1) ∷ []) s r (s.clock + 1) (omega arith) (active_holds (IsActive s.base s.stamped s.clock) t s.active r found.1 h.sound.active).0
          (active_holds (λ q. IsTraced opening xs s.stamped q.id q.depends_on q.aborted_dependency) t s.active r found.1 h.traced.active).0 h.sound h.traced);
      claimed = subst (AreClaimed (xs ++ Prepares t (s.clock + 1) ∷ [])) now (claimed_after_prepare xs (Prepares t (s.clock + 1) ∷ []) s r (s.clock + 1) (active_holds (λ q. HasClaims s.marks.opening xs q.id q.history q.claims) t s.active r found.1 h.claimed.active).0 h.claimed);
      has_ends = subst (HasEnds (xs ++ Prepares t (s.clock + 1) ∷ [])) now (subst (λ (u : ℕ). HasEnds (xs ++ Prepares u (s.clock + 1) ∷ []) (after_prepare s r (s.clock + 1))) is
          (ends_after_prepare xs s r (s.clock + 1) (omega arith) (active_holds (λ q. is_aborted q.id xs ≡ false) t s.active r found.1 h.has_ends.active).0
          (each_append (λ x. x.id ≢ r.id) s.past s.stamped (active_holds (λ q. AllByRecursion (λ x. x.id ≢ q.id) s.past) t s.active r found.1 h.numbered.before).0 (active_holds (λ q. AllByRecursion (λ x. x.id ≢ q.id) s.stamped) t s.active r found.1 h.numbered.apart).0) h.has_ends));
      prints = subst (HasFootprints opening (xs ++ Prepares t (s.clock + 1) ∷ [])) now (prints_after_prepare opening xs s r t (s.clock + 1) (omega arith) (active_holds (λ q. footprint_in opening xs q.id ≡ q.footprint) t s.active r found.1 h.prints.active).0 h.prints);
      origins = subst HasOrigins now (origins_after_prepare s r (s.clock + 1) (omega arith) (active_holds (IsActive s.base s.stamped s.clock) t s.active r found.1 h.sound.active).0 (active_holds (Of s) t s.active r found.1 h.origins.active).0
          (active_holds (λ q. AllByRecursion (λ x. x.end ≢ q.id) s.past) t s.active r found.1 h.has_ends.others).0 (active_holds (λ q. s.start ≤ q.id) t s.active r found.1 h.started.begun).0 h.sound h.started h.origins);
    }

-- ---- validate
not_flagged : (d : Option ℕ) (w : Option Refusal) → or_flagged d w ≡ None → w ≡ None
not_flagged None w h = h
not_flagged (Some x) w h = absurd (none_refusal _ h)

same_entry : (w : Option ℕ) → differs w ≡ None → w ≡ None
same_entry None h = refl
same_entry (Some n) h = absurd (none_refusal (ValidationFailed (record { 0 = n })) h)

mine_after_check : (stamped : List StampedTx) (x : StampedTx) → entry_differs stamped x (slice_get (entries x.history) x.checked) ≡ None → IsCheck stamped x.end (nat_le (length (entries x.history)) (x.checked + 1)) x
mine_after_check stamped x h = λ _. (
  λ d q. change_none x.id x.end d stamped (same_entry (change_of stamped x.id x.end d) (sym (ap (entry_differs stamped x) q) ∙ h)),
  λ q. leb-true (length (entries x.history)) (x.checked + 1) q,
)

all_checked : (s : State) (before after : List StampedTx) (x : StampedTx) → s.stamped ≡ before ++ x ∷ after → IsRising s.stamped → entry_differs s.stamped x (slice_get (entries x.history) x.checked) ≡ None → AllByRecursion (IsCheck s.stamped x.end (nat_le (length (entries x.history)) (x.checked + 1))) s.stamped
all_checked s before after x e r h =
    let v = nat_le (length (entries x.history)) (x.checked + 1) in
    let rising : IsRising (before ++ x ∷ after) = subst IsRising e r in
    subst (AllByRecursion (IsCheck s.stamped x.end v)) (sym e)
    (each_append (IsCheck s.stamped x.end v) before (x ∷ after)
    (each_weaker (λ y. y.end < x.end) (IsCheck s.stamped x.end v) (λ y lt is. absurd (omega arith)) before (rising_before before after x rising))
    (mine_after_check s.stamped x h, each_weaker (λ y. x.end < y.end) (IsCheck s.stamped x.end v) (λ y lt is. absurd (omega arith)) after (rising_after before after x rising)))

pub kept_checked : (opening : Map) (xs : List Step) (s : State) (t : ℕ) → why_not_validate s t ≡ None → IsKept opening xs s → IsKept opening (xs ++ Checks t ∷ []) (after_validate s t)
kept_checked opening xs s t w h =
    let found = preparing_after_check s t w in
    let x = found.0 in
    let p = split_at t s.stamped x found.1 in
    let now = sym (ap (after_validate_of s) found.1) in
    let v = nat_le (length (entries x.history)) (x.checked + 1) in
    let clear = not_flagged x.aborted_dependency (cond x.valid None (entry_differs s.stamped x (slice_get (entries x.history) x.checked))) (sym (ap (not_checked_at s t) found.1) ∙ validate_none s t w) in
    record {
      sound = subst IsSound now (sound_at x v p.0 p.1 p.2 x.valid clear);
      numbered = subst IsNumbered now (numbered_at x v x.valid);
      single = subst IsSingle now (single_at x v x.valid);
      exclusive = subst AreExclusive now (exclusive_at x v x.valid);
      started = subst IsStarted now (started_at x v x.valid);
      after_trace = trace_after_check opening xs s t h.after_trace;
      traced = subst (AreTraced opening (xs ++ Checks t ∷ [])) now (traced_at x v x.valid);
      claimed = subst (AreClaimed (xs ++ Checks t ∷ [])) now (claimed_at x v x.valid);
      has_ends = subst (HasEnds (xs ++ Checks t ∷ [])) now (ends_at x v x.valid);
      prints = subst (HasFootprints opening (xs ++ Checks t ∷ [])) now (prints_at x v x.valid);
      origins = subst HasOrigins now (origins_at x v x.valid);
    }
  where
    sound_at : (x : StampedTx) (v : Bool) (before after : List StampedTx) → s.stamped ≡ before ++ x ∷ after → (b : Bool) → cond b None (entry_differs s.stamped x (slice_get (entries x.history) x.checked)) ≡ None → IsSound (cond b s (after_check s x.end (nat_le (length (entries x.history)) (x.checked + 1))))
    sound_at x v before after e true q = h.sound
    sound_at x v before after e false q = sound_after_check s x.end (nat_le (length (entries x.history)) (x.checked + 1)) (all_checked s before after x e h.sound.rising q) h.sound

    numbered_at : (x : StampedTx) (v b : Bool) → IsNumbered (cond b s (after_check s x.end v))
    numbered_at x v true = h.numbered
    numbered_at x v false = numbered_after_check s x.end v h.numbered

    single_at : (x : StampedTx) (v b : Bool) → IsSingle (cond b s (after_check s x.end v))
    single_at x v true = h.single
    single_at x v false = single_after_check s x.end v h.single

    exclusive_at : (x : StampedTx) (v b : Bool) → AreExclusive (cond b s (after_check s x.end v))
    exclusive_at x v true = h.exclusive
    exclusive_at x v false = exclusive_after_check s x.end v h.exclusive

    prints_at : (x : StampedTx) (v b : Bool) → HasFootprints opening (xs ++ Checks t ∷ []) (cond b s (after_check s x.end v))
    prints_at x v true = prints_silent opening xs (Checks t) s (λ u. refl) h.prints
    prints_at x v false = prints_after_check opening xs s t x.end v h.prints

    origins_at : (x : StampedTx) (v b : Bool) → HasOrigins (cond b s (after_check s x.end v))
    origins_at x v true = h.origins
    origins_at x v false = origins_after_check s x.end v h.origins

    ends_at : (x : StampedTx) (v b : Bool) → HasEnds (xs ++ Checks t ∷ []) (cond b s (after_check s x.end v))
    ends_at x v true = ends_same_after_check xs s t h.has_ends
    ends_at x v false = ends_after_check xs s t x.end v h.has_ends

    claimed_at : (x : StampedTx) (v b : Bool) → AreClaimed (xs ++ Checks t ∷ []) (cond b s (after_check s x.end v))
    claimed_at x v true = claimed_same xs (Checks t ∷ []) s h.claimed
    claimed_at x v false = claimed_after_check xs (Checks t ∷ []) s x.end v h.claimed

    traced_at : (x : StampedTx) (v b : Bool) → AreTraced opening (xs ++ Checks t ∷ []) (cond b s (after_check s x.end v))
    traced_at x v true = traced_same opening xs (Checks t ∷ []) s h.sound h.traced
    traced_at x v false = traced_after_check opening xs (Checks t ∷ []) s x.end v h.sound h.traced

    started_at : (x : StampedTx) (v b : Bool) → IsStarted (cond b s (after_check s x.end v))
    started_at x v true = h.started
    started_at x v false = started_after_check s x.end v h.started

-- ---- settle
settled_origins : {opening : Map} (xs : List Step) (s : State) (t : ℕ) (x : StampedTx) → preparing_of t s.stamped ≡ Some x → why_not_settle s t ≡ None → waiting_for x.depends_on s.stamped ≡ None → IsKept opening xs s → HasOrigins (after_commit s t x.end)
settled_origins xs s t x f w n h =
    let p = split_at t s.stamped x f in
    let m = found_in t s.stamped x f in
    let q = free_settled s t x f w n in
    origins_after_commit xs s t x m.0 (λ P here. subst (AllByRecursion (λ y. y.end ≡ x.end → P y)) (sym p.2) (alone_at p.0 p.1 x (subst IsRising p.2 h.sound.rising) P here)) p.4 q.1 q.0 q.2 h.sound h.started (written_claims xs s h.claimed) h.origins

kept_committed : (opening : Map) (xs : List Step) (s : State) (t : ℕ) (x : StampedTx) → preparing_of t s.stamped ≡ Some x → why_not_settle s t ≡ None → waiting_for x.depends_on s.stamped ≡ None → IsKept opening xs s → IsKept opening (xs ++ Commits t (end_of s t) ∷ []) (after_commit_now s t)
kept_committed opening xs s t x f w n h =
    let now = sym (ap (after_commit_of s t) f) in
    record {
      sound = subst IsSound now (sound_settled s t x f w n h.sound);
      numbered = subst IsNumbered now (numbered_after_commit s t x.end h.numbered);
      single = subst IsSingle now (single_after_commit s t x f h.sound h.single);
      exclusive = subst AreExclusive now (exclusive_after_commit s t x.end h.exclusive);
      started = subst IsStarted now (started_after_commit s t x.end h.started);
      after_trace = subst (λ (e : ℕ). IsAfterTrace opening (xs ++ Commits t e ∷ []) (after_commit_now s t)) (sym (ap end_at f)) (trace_after_commit opening xs s t x f h.sound h.single h.started h.after_trace);
      traced = subst (AreTraced opening (xs ++ Commits t (end_of s t) ∷ [])) now (traced_after_commit opening xs (Commits t (end_of s t) ∷ []) s t x.end h.sound h.traced);
      claimed = subst (AreClaimed (xs ++ Commits t (end_of s t) ∷ [])) now (claimed_after_commit xs (Commits t (end_of s t) ∷ []) s t x.end h.claimed);
      has_ends = subst (HasEnds (xs ++ Commits t (end_of s t) ∷ [])) now (ends_after_commit xs s t t (end_of s t) x.end h.has_ends);
      prints = subst (HasFootprints opening (xs ++ Commits t (end_of s t) ∷ [])) now (prints_after_commit opening xs s t t (end_of s t) x.end h.prints);
      origins = subst HasOrigins now (settled_origins xs s t x f w n h);
    }

pub same_trace : (opening : Map) (xs : List Step) (s : State) → IsKept opening xs s → IsKept opening (xs ++ []) s
same_trace opening xs s h = subst (λ ys. IsKept opening ys s) (sym (append-nil xs)) h

pub kept_settled : (opening : Map) (xs : List Step) (s : State) (t : ℕ) → why_not_settle s t ≡ None → IsKept opening xs s → IsKept opening (xs ++ steps_of_accepted s (Settle t)) (after_settle s t)
kept_settled opening xs s t w h = go (awaited s t) refl
  where
    go : (v : Option StampedTx) → awaited s t ≡ v → IsKept opening (xs ++ steps_unless t (end_of s t) v) (after_settle_unless s t v)
    go (Some y) e = same_trace opening xs s h
    go None e =
        let found = preparing_settled s t w in
        kept_committed opening xs s t found.0 found.1 w (sym (ap (awaited_by s.stamped) found.1) ∙ e) h

-- ---- an abort
pub kept_aborted : (opening : Map) (xs : List Step) (s : State) (t : ℕ) → IsUnended s t → IsKept opening xs s → IsKept opening (xs ++ Aborts t ∷ []) (after_abort s t)
kept_aborted opening xs s t u h =
    let q = go (preparing_of t s.stamped) refl in
    record { sound = q.0; numbered = q.1; single = q.2; exclusive = q.3; started = q.4; after_trace = trace_aborted opening xs s t u h.sound h.single h.after_trace; traced = q.5; claimed = q.6; has_ends = q.7; prints = q.8; origins = q.9 }
  where
    gone : (r : ActiveTx) → active_of t s.active ≡ Some r → HasEnds (xs ++ Aborts t ∷ []) (after_abort_of_active s t)
    gone r f =
        let a = active_holds (IsActive s.base s.stamped s.clock) t s.active r f h.sound.active in
        let drawn = a.0.drawn in
        let is = a.1 in
        ends_after_abort_of_active xs s t (omega arith)
        (each_append (λ x. x.id ≢ t) s.past s.stamped
        (subst (λ (n : ℕ). AllByRecursion (λ x. x.id ≢ n) s.past) is (active_holds (λ q. AllByRecursion (λ x. x.id ≢ q.id) s.past) t s.active r f h.numbered.before).0)
        (subst (λ (n : ℕ). AllByRecursion (λ x. x.id ≢ n) s.stamped) is (active_holds (λ q. AllByRecursion (λ x. x.id ≢ q.id) s.stamped) t s.active r f h.numbered.apart).0)) h.has_ends

    drop : (r : ActiveTx) → active_of t s.active ≡ Some r → IsSound (after_abort_of_active s t) × IsNumbered (after_abort_of_active s t) × IsSingle (after_abort_of_active s t) × AreExclusive (after_abort_of_active s t) × IsStarted (after_abort_of_active s t) × AreTraced opening (xs ++ Aborts t ∷ []) (after_abort_of_active s t) × AreClaimed (xs ++ Aborts t ∷ []) (after_abort_of_active s t) × HasEnds (xs ++ Aborts t ∷ []) (after_abort_of_active s t) × HasFootprints opening (xs ++ Aborts t ∷ []) (after_abort_of_active s t) × HasOrigins (after_abort_of_active s t)
    drop r f = (sound_after_abort_of_active s t h.sound, numbered_after_abort_of_active s t h.numbered, single_after_abort_of_active s t r f h.sound h.single, exclusive_after_abort_of_active s t h.exclusive, started_after_abort_of_active s t h.started, traced_after_abort_of_active opening xs (Aborts t ∷ []) s t h.sound h.traced, claimed_after_abort_of_active xs (Aborts t ∷ []) s t h.claimed, gone r f, prints_after_abort_of_active opening xs s t h.prints, origins_after_abort_of_active s t h.origins)

    go : (w : Option StampedTx) → preparing_of t s.stamped ≡ w → IsSound (after_abort_of s t w) × IsNumbered (after_abort_of s t w) × IsSingle (after_abort_of s t w) × AreExclusive (after_abort_of s t w) × IsStarted (after_abort_of s t w) × AreTraced opening (xs ++ Aborts t ∷ []) (after_abort_of s t w) × AreClaimed (xs ++ Aborts t ∷ []) (after_abort_of s t w) × HasEnds (xs ++ Aborts t ∷ []) (after_abort_of s t w) × HasFootprints opening (xs ++ Aborts t ∷ []) (after_abort_of s t w) × HasOrigins (after_abort_of s t w)
    go None e = let r = u e in drop r.0 r.1
    go (Some x) e =
        let p = split_at t s.stamped x e in (
          sound_after_abort_of_preparing s t x.end (subst (AllByRecursion (λ y. y.end ≡ x.end → y.settled ≡ false)) (sym p.2) (alone_open p.0 p.1 x p.4 (subst IsRising p.2 h.sound.rising))) h.sound,
          numbered_after_abort_of_preparing s t x.end h.numbered,
          single_after_abort_of_preparing s t x e h.sound h.single,
          exclusive_after_abort_of_preparing s t x.end h.exclusive,
          started_after_abort_of_preparing s t x.end h.started,
          (let m = found_in t s.stamped x e in traced_after_abort_of_preparing opening xs s t x m.0 m.1 h.sound h.traced),
          claimed_after_abort_of_preparing xs (Aborts t ∷ []) s t x.end h.claimed,
          (let m = found_in t s.stamped x e in ends_after_abort_of_preparing xs s t x m.0 m.1 h.sound h.started h.numbered h.has_ends),
          prints_after_abort_of_preparing opening xs s t x.end h.prints,
          origins_after_abort_of_preparing xs s t x.end (subst (AllByRecursion (λ y. y.end ≡ x.end → y.settled ≡ false)) (sym p.2) (alone_open p.0 p.1 x p.4 (subst IsRising p.2 h.sound.rising))) h.sound (written_claims xs s h.claimed) h.origins,
        )

pub kept_failed : (opening : Map) (xs : List Step) (s : State) (t : ℕ) (r : Refusal) → (is_failure r ≡ true → IsUnended s t) → IsKept opening xs s → IsKept opening (xs ++ steps_of_refusal t r) (after_refusal s t r)
kept_failed opening xs s t r f h = go (is_failure r) refl
  where
    go : (b : Bool) → is_failure r ≡ b → IsKept opening (xs ++ cond b (Aborts t ∷ []) []) (cond b (after_abort s t) s)
    go true e = kept_aborted opening xs s t (f e) h
    go false e = same_trace opening xs s h

-- ---- finish
pub kept_terminated : (opening : Map) (xs : List Step) (s : State) (t : ℕ) → why_not_finish s t ≡ None → IsKept opening xs s → IsKept opening (xs ++ Terminates t ∷ []) (after_termination s t)
kept_terminated opening xs s t w h = record {
  sound = record { legal = h.sound.legal; rising = h.sound.rising; clear = h.sound.clear; placed = h.sound.placed; preparing = h.sound.preparing; active = h.sound.active };
  numbered = record { distinct = h.numbered.distinct; apart = h.numbered.apart; before = h.numbered.before };
  single = single_after_termination s t h.single;
  exclusive = exclusive_after_termination s t h.exclusive;
  started = started_after_termination s t h.started;
  after_trace = trace_after_termination opening xs s t (ended_finished s t w) h.single h.after_trace;
  traced = traced_after_termination opening xs (Terminates t ∷ []) s t h.sound h.traced;
  claimed = claimed_after_termination xs (Terminates t ∷ []) s t h.claimed;
  has_ends = ends_after_termination xs s t h.has_ends;
  prints = prints_after_termination opening xs s t h.prints;
  origins = origins_after_termination s t h.origins;
}

-- ---- trim
pub kept_trimmed : (opening : Map) (xs : List Step) (s : State) (m : ℕ) → why_not_trim s m ≡ None → IsKept opening xs s → IsKept opening xs (after_trim s m)
kept_trimmed opening xs s m w h = let t = may_trim s m w h.sound in record {
  sound = sound_after_trim s m t h.sound;
  numbered = numbered_after_trim s m h.numbered;
  single = single_after_trim s m h.single;
  exclusive = exclusive_after_trim s m h.exclusive;
  started = started_after_trim s m t h.sound h.started;
  after_trace = trace_after_trim opening xs s m t h.sound h.after_trace;
  traced = subst (λ ys. AreTraced opening ys (after_trim s m)) (append-nil xs) (traced_after_trim opening xs [] s m h.sound h.traced);
  claimed = claimed_after_trim xs s m h.claimed;
  has_ends = ends_after_trim xs s m h.sound h.has_ends;
  prints = prints_after_trim opening xs s m h.prints;
  origins = origins_after_trim s m t h.sound h.origins;
}
