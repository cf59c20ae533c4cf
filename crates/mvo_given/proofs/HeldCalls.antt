-- Whatever works it is given, a core keeps what it keeps of its read-only transactions too: each call, and so each list of calls.
use Rattle.std.proofs.Common.{◌≡◌, ◌≢◌, ℕ, ◌+◌, ◌<◌, ◌≤◌, Bool, true, false, cond, not, List, [], ◌∷◌, ◌++◌, Option, None, Some, take, refl, sym, ap, ◌∙◌, subst, ne_eqb, arith}
use Rattle.std.specs.Prelude.{◌==◌, is_some, nat_le}
use Rattle.std.specs.List.{AllByRecursion}
use Rattle.std.specs.Option.{option_map}
use Rattle.std.proofs.lemmas.Bool.{false≢true, eq-eqb, leb-false}
use Rattle.mvo_types.specs.declared.op.Op.{Op}
use Rattle.mvo_types.specs.declared.refusal.Refusal.{Refusal}
use Rattle.mvo_types.specs.declared.refusal.Refusal.TheVariants.{Ended}
use Rattle.mvo_types.specs.Keys.{Map}
use Rattle.mvo_model.specs.History.{write_of}
use Rattle.mvo_theory.specs.State.{State, ActiveTx, StampedTx, Claim, active_of, preparing_of, snapshot}
use Rattle.mvo_theory.specs.Claims.{new_claim}
use Rattle.mvo_theory.specs.Words.{is_done}
use Rattle.mvo_theory.specs.Changes.{new_active, after_operation, taken_over, after_answer}
use Rattle.mvo_theory.specs.Causes.{is_failure}
use Rattle.mvo_theory.specs.Steps.{after_abort_of, after_abort}
use Rattle.mvo_theory.specs.Sound.{IsActive}
use Rattle.mvo_theory.specs.Calls.{Call, why_not, takes_memory, IsCallInOrder, answer_in}
use Rattle.mvo_theory.specs.Calls.Call.{Begin, Do, Precommit, Validate, Settle, Rollback, Finish, Trim, Close}
use Rattle.mvo_theory.specs.Calls.Result.{Accepted, Refused}
use Rattle.mvo_theory.proofs.Each.{each_weaker, each_both, each_append, each_filter}
use Rattle.mvo_theory.proofs.Footprints.{none_any}
use Rattle.mvo_theory.proofs.Who.{active_holds, id_of}
use Rattle.mvo_shared.specs.Kept.{WorkContent, IsWork}
use Rattle.mvo_shared.specs.Shared.{AllTaken, WorksById, with_work, after_registering, after_valid}
use Rattle.mvo_shared.specs.Given.{GivenRefusal, GivenState, GivenResult, answer_given, why_not_given, IsGivenRefusal, core_op, after_core_op, after_do_given, one_more_checked, is_last_look, after_check_given, after_took, after_given}
use Rattle.mvo_shared.specs.Given.GivenRefusal.{Because, WorkMismatch}
use Rattle.mvo_shared.specs.Given.GivenResult.{Took, Denied}
use Rattle.mvo_shared.specs.Held.{IsHeldGiven}
use Rattle.mvo_shared.proofs.GivenSteps.{held_after, held_opened}
use Rattle.mvo_readonly.specs.Whole.{ReaderStage, UnfinishedReader, CommittedReader, stage_of, id_named, stage_named}
use Rattle.mvo_readonly.specs.Whole.ReaderStage.{Reading, Preparing, Committed, Aborted}
use Rattle.mvo_readonly.specs.WholeCauses.{WholeCall, flag_of_reader, takes_memory_at_stage, awaited_by_reader}
use Rattle.mvo_readonly.specs.WholeCauses.WholeCall.{CoreCall, BeginReadOnly}
use Rattle.mvo_readonly.specs.WholeCalls.{rolled_back, unless_awaited, core_failed, core_at_stage, with_stage, without_reader, settled_unless, readers_failed, readers_at_stage}
use Rattle.mvo_readonly.specs.WholeKept.{HaveDistinctIds}
use Rattle.mvo_readonly.proofs.Traces.{start_stays}
use Rattle.mvo_readonly.proofs.Others.{not_named, may_trim}
use Rattle.mvo_readonly.proofs.Stages.{staged, each_staged, may_roll_back}
use Rattle.mvo_given.specs.GivenWhole.{GivenWhole, others_given, why_not_read_given, why_not_take_reads, why_not_check_reads, read_mismatches, next_read, why_not_reader_given, why_not_other_given, why_not_given_at_stage, MayComeGivenWhole}
use Rattle.mvo_given.specs.GivenCalls.{after_given_calls, looked_more, readers_took, told_unless, committed_took, reads_took, after_given_whole}
use Rattle.mvo_given.specs.WholeHeld.{IsActiveReader, IsTakenRead, IsHeldAtStage, IsHeldReader, IsHeldCommitted, IsWholeHeld, GivenWholeCall, MayRunGivenWhole, after_given_whole_run, opened_given_whole}
use Rattle.mvo_given.proofs.Passing.{Passes, Leaves, leaves_registered, leaves_finished, leaves_took, leaves_denied}
use Rattle.mvo_given.proofs.HeldReads.{no_cause, behind_flagged, behind_mismatch, found_here, active_here, reads_now, takes_reads, was_reading, taken_now, found_next, found_all, settles_now, not_preparing, read_now}

-- ---- what stays
stays_reader : (opening : Map) (s s' : State) (reads : WorksById) → Passes opening s s' → (r : UnfinishedReader) → s'.start < r.id → (IsActiveReader s r.id → IsActiveReader s' r.id) → IsHeldReader s reads r → IsHeldReader s' reads r
stays_reader opening s s' reads p r lt k h = record {
  drawn = let c = p.clock in let d = h.drawn in omega arith;
  later = lt;
  stage = go r.stage h.stage;
}
  where
    go : (q : ReaderStage) → IsHeldAtStage s (reads r.id) r.id q → IsHeldAtStage s' (reads r.id) r.id q
    go Reading a = k a
    go Committed a = tt
    go Aborted a = tt
    go (Preparing n v) a = (
      k a.0,
      record {
        work = a.1.work;
        idle = a.1.idle;
        found = p.found r.id (take n (reads r.id).looked) h.drawn a.1.found;
        all = λ e. p.found r.id (reads r.id).looked h.drawn (a.1.all e);
      },
    )

stays_committed : (opening : Map) (s s' : State) → Passes opening s s' → (y : CommittedReader) → IsHeldCommitted opening s y → IsHeldCommitted opening s' y
stays_committed opening s s' p y h = record {
  read = p.read y.id y.history h.drawn h.read;
  gone = p.gone y.id h.drawn h.gone;
  drawn = let c = p.clock in let d = h.drawn in omega arith;
}

-- ---- the start
start_over : (c : Option Claim) (s : State) → (taken_over c s).start ≡ s.start
start_over None s = refl
start_over (Some c) s = refl

start_do : (s : State) (t : ℕ) (w : WorkContent) (op : Op) → (after_do_given s t w op).start ≡ s.start
start_do s t w op = told (is_some (write_of op (answer_given s t w op)))
  where
    own : Op
    own = core_op (snapshot s t) op

    writes : (b : Bool) → (cond b (after_answer s t own (answer_in s t own)) (after_registering s t own)).start ≡ s.start
    writes true = start_over (new_claim s t own (answer_in s t own)) (after_operation s t own (answer_in s t own))
    writes false = refl

    told : (b : Bool) → (cond b (after_core_op s t own (answer_in s t own)) (after_registering s t op)).start ≡ s.start
    told true = writes (is_some (write_of own (answer_in s t own)))
    told false = refl

start_check : (g : GivenState) (v : Option StampedTx) → (after_check_given g v).state.start ≡ g.state.start
start_check g None = refl
start_check g (Some x) = go x.valid
  where
    last : (b : Bool) → (cond b (after_valid g.state x.end) g.state).start ≡ g.state.start
    last true = refl
    last false = refl

    go : (b : Bool) → (cond b g (record { state = cond (is_last_look (g.taken x.end)) (after_valid g.state x.end) g.state; taken = one_more_checked g.taken x.end })).state.start ≡ g.state.start
    go true = refl
    go false = last (is_last_look (g.taken x.end))

start_took : (g : GivenState) (w : WorkContent) (c : Call) → ((m : ℕ) → c ≡ Trim m → ⊥) → (after_took g w c).state.start ≡ g.state.start
start_took g w Begin n = refl
start_took g w (Do t op) n = start_do g.state t w op
start_took g w (Precommit t) n = start_stays g.state (Precommit t) Accepted (λ k i j. n k i)
start_took g w (Validate t) n = start_check g (preparing_of t g.state.stamped)
start_took g w (Settle t) n = start_stays g.state (Settle t) Accepted (λ k i j. n k i)
start_took g w (Rollback t) n = start_stays g.state (Rollback t) Accepted (λ k i j. n k i)
start_took g w (Finish t) n = start_stays g.state (Finish t) Accepted (λ k i j. n k i)
start_took g w (Trim m) n = absurd (n m refl)
start_took g w (Close fits gr full) n = refl

-- ---- lists
here_last : (u : ℕ) (rs : List ActiveTx) (r : ActiveTx) → r.id ≡ u → is_some (active_of u (rs ++ r ∷ [])) ≡ true
here_last u [] r e = ap (λ (b : Bool). is_some (cond b (Some r) None)) (eq-eqb r.id u e)
here_last u (q ∷ rs) r e = go (q.id == u) (here_last u rs r e)
  where
    go : (b : Bool) → is_some (active_of u (rs ++ r ∷ [])) ≡ true → is_some (cond b (Some q) (active_of u (rs ++ r ∷ []))) ≡ true
    go true k = refl
    go false k = k

apart_push : (ys : List CommittedReader) (y : CommittedReader) → HaveDistinctIds ys → AllByRecursion (λ z. z.id ≢ y.id) ys → HaveDistinctIds (ys ++ y ∷ [])
apart_push [] y h n = (tt, tt)
apart_push (z ∷ zs) y h n = (each_append (λ v. v.id ≢ z.id) zs (y ∷ []) h.0 ((λ e. n.0 (sym e)), tt), apart_push zs y h.1 n.1)

with_other : (works : WorksById) (t : ℕ) (w : WorkContent) (n : ℕ) → n ≢ t → with_work works t w n ≡ works n
with_other works t w n h = ap (λ (b : Bool). cond b w (works n)) (ne_eqb n t h)

with_there : (works : WorksById) (t : ℕ) (w : WorkContent) → with_work works t w t ≡ w
with_there works t w = ap (λ (b : Bool). cond b w (works t)) (eq-eqb t t refl)

some_id : (t u : ℕ) → ◌≡◌ {A = Option ℕ} (Some t) (Some u) → t ≡ u
some_id t u e = cc

no_stage : (p : ReaderStage) → ◌≡◌ {A = Option ReaderStage} None (Some p) → ⊥
no_stage p e = cc

because_same : (q r : Refusal) → ◌≡◌ {A = GivenRefusal} (Because q) (Because r) → q ≡ r
because_same q r e = cc

not_ended : (q : Refusal) → ◌≡◌ {A = GivenRefusal} (Because q) (Because Ended) → is_failure q ≡ true → ⊥
not_ended q e f = false≢true (sym (ap is_failure (because_same q Ended e)) ∙ f)

module _ (opening : Map) (g : GivenWhole) (w : WorkContent) (work : IsWork w) (h : IsWholeHeld opening g) where
  abbrev s : State
  s = g.whole.core

  abbrev given : GivenState
  given = others_given g

  abbrev readers : List UnfinishedReader
  readers = g.whole.readers

  abbrev committed : List CommittedReader
  committed = g.whole.committed_readers

  -- ---- a step of the core of the others
  record IsStep (v : Option ℕ) (next : GivenState) : Type 0 where
    held : IsHeldGiven opening next
    leaves : Leaves opening v s next.state
    start : next.state.start ≡ s.start

  none_step : IsStep None given
  none_step = record {
    held = h.others;
    leaves = (record { clock = omega arith; read = λ b ts l k. k; gone = λ u l k. k; found = λ u looked l k. k }, λ u n k. k);
    start = refl;
  }

  step_took : (c : Call) → ((m : ℕ) → c ≡ Trim m → ⊥) → why_not_given given w c ≡ None → IsCallInOrder s c → IsStep (id_named c) (after_given given w c Took)
  step_took c t n o = let k = held_after opening given w c Took work (n, o) h.others in record {
    held = k;
    leaves = leaves_took opening given w c n h.others k;
    start = start_took given w c t;
  }

  step_denied : (c : Call) (q : Refusal) → IsGivenRefusal (takes_memory c) (why_not_given given w c) (Because q) → IsStep (id_named c) (after_given given w c (Denied (Because q)))
  step_denied c q m = record {
    held = held_after opening given w c (Denied (Because q)) work m h.others;
    leaves = leaves_denied opening given c q h.others.shared.sound;
    start = start_stays s c (Refused q) (λ k i j. absurd cc);
  }

  step_back : (t : ℕ) → IsActiveReader s t → IsStep (Some t) (after_given given w (Rollback t) Took)
  step_back t a = step_took (Rollback t) (λ m i. absurd cc) (ap (option_map Because) (may_roll_back s t (active_here s t a))) tt

  module _ (v : Option ℕ) (next : GivenState) (k : IsStep v next) where
    one_stays : (r : UnfinishedReader) → (v ≡ Some r.id → ⊥) → IsHeldReader s g.reads r → IsHeldReader next.state g.reads r
    one_stays r n q = stays_reader opening s next.state g.reads k.leaves.0 r (subst (λ (b : ℕ). b < r.id) (sym k.start) q.later) (k.leaves.1 r.id n) q

    all_stay : AllByRecursion (λ (r : UnfinishedReader). v ≡ Some r.id → ⊥) readers → AllByRecursion (IsHeldReader next.state g.reads) readers
    all_stay n = each_both (λ (r : UnfinishedReader). v ≡ Some r.id → ⊥) (IsHeldReader s g.reads) (IsHeldReader next.state g.reads) one_stays readers n h.readers

    committed_stay : AllByRecursion (IsHeldCommitted opening next.state) committed
    committed_stay = each_weaker (IsHeldCommitted opening s) (IsHeldCommitted opening next.state) (stays_committed opening s next.state k.leaves.0) committed h.committed

    -- with these of the unfinished ones
    rest_stays : (rs : List UnfinishedReader) → AllByRecursion (IsHeldReader next.state g.reads) rs → IsWholeHeld opening (record { whole = record { core = next.state; readers = rs; committed_readers = committed }; taken = next.taken; reads = g.reads })
    rest_stays rs q = record { others = k.held; readers = q; committed = committed_stay; apart = h.apart }

  -- one is at another stage, which holds nothing
  moved : (t : ℕ) (next : GivenState) → IsStep (Some t) next → (q : ReaderStage) → ((u : ℕ) → IsHeldAtStage next.state (g.reads u) u q) → AllByRecursion (IsHeldReader next.state g.reads) (with_stage t q readers)
  moved t next k q z = each_staged (IsHeldReader s g.reads) (IsHeldReader next.state g.reads) t q
      (λ r a i. record { drawn = let c = k.leaves.0.clock in let d = a.drawn in omega arith; later = subst (λ (b : ℕ). b < r.id) (sym k.start) a.later; stage = z r.id })
      (λ r a n. one_stays (Some t) next k r (λ e. n (sym (some_id t r.id e))) a) readers h.readers

  -- ---- the one that is named
  record IsAt (t : ℕ) (p : ReaderStage) : Type 0 where
    drawn : t ≤ s.clock
    later : s.start < t
    stage : IsHeldAtStage s (g.reads t) t p

  named : (t : ℕ) (p : ReaderStage) → stage_of t readers ≡ Some p → IsAt t p
  named t p e =
      let f = staged (IsHeldReader s g.reads) t readers p e h.readers in
      let i = f.2 in record {
        drawn = let d = f.1.drawn in omega arith;
        later = let l = f.1.later in omega arith;
        stage = subst (IsHeldAtStage s (g.reads t) t) f.3 (subst (λ (n : ℕ). IsHeldAtStage s (g.reads n) n f.0.stage) i f.1.stage);
      }

  -- ---- a call of another
  abbrev took_at : Call → Option ReaderStage → GivenWhole
  took_at c v =
      let k = after_given_calls given w (core_at_stage s c Accepted v) in record {
        whole = record { core = k.state; readers = readers_took g c v; committed_readers = committed_took g c v };
        taken = k.taken;
        reads = reads_took g w c v;
      }

  abbrev denied_at : Call → Refusal → Option ReaderStage → GivenWhole
  denied_at c q v =
      let k = after_given_calls given w (core_at_stage s c (Refused q) v) in record {
        whole = record { core = k.state; readers = readers_at_stage s c (Refused q) v readers; committed_readers = committed };
        taken = k.taken;
        reads = g.reads;
      }

  unnamed : (c : Call) → stage_named readers (id_named c) ≡ None → AllByRecursion (λ (r : UnfinishedReader). id_named c ≡ Some r.id → ⊥) readers
  unnamed c e = each_weaker (λ (r : UnfinishedReader). (u : ℕ) → id_named c ≡ Some u → u ≢ r.id) (λ (r : UnfinishedReader). id_named c ≡ Some r.id → ⊥) (λ r k i. k r.id i refl) readers (not_named c readers e)

  other_on : (c : Call) → ((m : ℕ) → c ≡ Trim m → ⊥) → stage_named readers (id_named c) ≡ None → why_not_given given w c ≡ None → IsCallInOrder s c
      → IsWholeHeld opening (record { whole = record { core = (after_given given w c Took).state; readers = readers; committed_readers = committed }; taken = (after_given given w c Took).taken; reads = g.reads })
  other_on c t e n o = let k = step_took c t n o in rest_stays (id_named c) (after_given given w c Took) k readers (all_stay (id_named c) (after_given given w c Took) k (unnamed c e))

  trim_on : (m : ℕ) → why_not_other_given g w (Trim m) ≡ None → IsWholeHeld opening (took_at (Trim m) None)
  trim_on m n =
      let f = may_trim g.whole m (no_cause _ n) in
      let c : why_not_given given w (Trim m) ≡ None = ap (option_map Because) f.0 in
      let next = after_given given w (Trim m) Took in
      let k = held_after opening given w (Trim m) Took work (c, tt) h.others in
      let l = leaves_took opening given w (Trim m) c h.others k in
      record {
        others = k;
        readers = each_both (λ (r : UnfinishedReader). nat_le r.id m ≡ false) (IsHeldReader s g.reads) (IsHeldReader next.state g.reads) (λ r b q. stays_reader opening s next.state g.reads l.0 r (leb-false r.id m b) (l.1 r.id (λ e. absurd cc)) q) readers (none_any (λ (r : UnfinishedReader). nat_le r.id m) readers f.1) h.readers;
        committed = each_weaker (IsHeldCommitted opening s) (IsHeldCommitted opening next.state) (stays_committed opening s next.state l.0) committed h.committed;
        apart = h.apart;
      }

  other_took : (c : Call) → stage_named readers (id_named c) ≡ None → why_not_other_given g w c ≡ None → IsCallInOrder s c → IsWholeHeld opening (took_at c None)
  other_took Begin e n o = other_on Begin (λ m i. absurd cc) e n o
  other_took (Do t op) e n o = other_on (Do t op) (λ m i. absurd cc) e n o
  other_took (Precommit t) e n o = other_on (Precommit t) (λ m i. absurd cc) e n o
  other_took (Validate t) e n o = other_on (Validate t) (λ m i. absurd cc) e n o
  other_took (Settle t) e n o = other_on (Settle t) (λ m i. absurd cc) e n o
  other_took (Rollback t) e n o = other_on (Rollback t) (λ m i. absurd cc) e n o
  other_took (Finish t) e n o = other_on (Finish t) (λ m i. absurd cc) e n o
  other_took (Trim m) e n o = trim_on m n
  other_took (Close fits gr full) e n o = other_on (Close fits gr full) (λ m i. absurd cc) e n o

  other_off : (c : Call) (q : Refusal) → stage_named readers (id_named c) ≡ None → IsGivenRefusal (takes_memory c) (why_not_given given w c) (Because q)
      → IsWholeHeld opening (record { whole = record { core = (after_given given w c (Denied (Because q))).state; readers = readers; committed_readers = committed }; taken = (after_given given w c (Denied (Because q))).taken; reads = g.reads })
  other_off c q e m = let k = step_denied c q m in rest_stays (id_named c) (after_given given w c (Denied (Because q))) k readers (all_stay (id_named c) (after_given given w c (Denied (Because q))) k (unnamed c e))

  other_denied : (c : Call) (q : Refusal) → stage_named readers (id_named c) ≡ None → IsGivenRefusal (takes_memory c) (why_not_other_given g w c) (Because q) → IsWholeHeld opening (denied_at c q None)
  other_denied Begin q e m = other_off Begin q e m
  other_denied (Do t op) q e m = other_off (Do t op) q e m
  other_denied (Precommit t) q e m = other_off (Precommit t) q e m
  other_denied (Validate t) q e m = other_off (Validate t) q e m
  other_denied (Settle t) q e m = other_off (Settle t) q e m
  other_denied (Rollback t) q e m = other_off (Rollback t) q e m
  other_denied (Finish t) q e m = other_off (Finish t) q e m
  other_denied (Trim k) q e m = h
  other_denied (Close fits gr full) q e m = other_off (Close fits gr full) q e m

  -- ---- an operation of a read-only one
  do_on : (t : ℕ) (op : Op) (p : ReaderStage) → stage_of t readers ≡ Some p → why_not_read_given s p t w op ≡ None → IsWholeHeld opening (took_at (Do t op) (Some p))
  do_on t op p e n =
      let k = reads_now s t w op p n in
      let a : IsActiveReader s t = subst (IsHeldAtStage s (g.reads t) t) k.stage (named t p e).stage in
      let step = step_took (Do t op) (λ m i. absurd cc) (k.given (active_here s t a)) tt in
      let quiet : after_do_given s t w op ≡ after_registering s t op = ap (λ v. cond (is_some v) (after_core_op s t (core_op (snapshot s t) op) (answer_in s t (core_op (snapshot s t) op))) (after_registering s t op)) (k.silent (answer_given s t w op)) in
      let next = after_given given w (Do t op) Took in
      let all : IsStep None next = record { held = step.held; leaves = subst (Leaves opening None s) (sym quiet) (leaves_registered opening s t op); start = step.start } in
      rest_stays None next all readers (all_stay None next all (each_weaker (IsHeldReader s g.reads) (λ (r : UnfinishedReader). None ≡ Some r.id → ⊥) (λ r q i. absurd cc) readers h.readers))

  -- ---- its precommit
  precommit_on : (t : ℕ) (p : ReaderStage) → stage_of t readers ≡ Some p → why_not_take_reads s p t w ≡ None → IsWholeHeld opening (took_at (Precommit t) (Some p))
  precommit_on t p e n =
      let a : IsActiveReader s t = subst (IsHeldAtStage s (g.reads t) t) (was_reading s t w p n) (named t p e).stage in
      let taken : IsTakenRead s t (with_work g.reads t w t) 0 false = subst (λ (u : WorkContent). IsTakenRead s t u 0 false) (sym (with_there g.reads t w)) (taken_now s t w work (takes_reads s t w p n a)) in
      record {
        others = h.others;
        readers = each_staged (IsHeldReader s g.reads) (IsHeldReader s (with_work g.reads t w)) t (Preparing 0 false)
            (λ r q i. record { drawn = q.drawn; later = q.later; stage = subst (λ (u : ℕ). IsHeldAtStage s (with_work g.reads t w u) u (Preparing 0 false)) (sym i) (a, taken) })
            (λ r q m. record { drawn = q.drawn; later = q.later; stage = subst (λ (u : WorkContent). IsHeldAtStage s u r.id r.stage) (sym (with_other g.reads t w r.id m)) q.stage }) readers h.readers;
        committed = h.committed;
        apart = h.apart;
      }

  -- ---- a check of it
  checked_now : (t : ℕ) (p : ReaderStage) → why_not_check_reads g p t ≡ None → IsHeldAtStage s (g.reads t) t p → IsHeldAtStage s (g.reads t) t (looked_more (g.reads t) p)
  checked_now t Reading n a = a
  checked_now t Committed n a = tt
  checked_now t Aborted n a = tt
  checked_now t (Preparing k true) n a = a
  checked_now t (Preparing k false) n a =
      let m = (behind_mismatch (read_mismatches s (active_of t s.active) (next_read (g.reads t) (Preparing k false))) None (behind_flagged (flag_of_reader s t) _ n).1).0 in
      let next = found_next s t k (g.reads t) h.others.standing.numbered.distinct a.0 m a.1.found in
      (a.0, record { work = a.1.work; idle = a.1.idle; found = next; all = λ e. found_all s t k (g.reads t) e next })

  check_on : (t : ℕ) (p : ReaderStage) → stage_of t readers ≡ Some p → why_not_check_reads g p t ≡ None → IsWholeHeld opening (took_at (Validate t) (Some p))
  check_on t p e n =
      let now = checked_now t p n (named t p e).stage in
      record {
        others = h.others;
        readers = each_staged (IsHeldReader s g.reads) (IsHeldReader s g.reads) t (looked_more (g.reads t) p) (λ r q i. record { drawn = q.drawn; later = q.later; stage = subst (λ (u : ℕ). IsHeldAtStage s (g.reads u) u (looked_more (g.reads t) p)) (sym i) now }) (λ r q m. q) readers h.readers;
        committed = h.committed;
        apart = h.apart;
      }

  -- ---- its settling
  gone_now : (t : ℕ) → IsActiveReader s t → AllByRecursion (λ (r : ActiveTx). r.id ≢ t) (after_abort s t).active
  gone_now t a =
      let f = found_here (active_of t s.active) a.here in
      let none : preparing_of t s.stamped ≡ None = not_preparing t s.stamped (subst (λ (u : ℕ). AllByRecursion (λ x. x.id ≢ u) s.stamped) (id_of t s.active f.0 f.1) (active_holds (λ q. AllByRecursion (λ x. x.id ≢ q.id) s.stamped) t s.active f.0 f.1 h.others.standing.numbered.apart).0) in
      subst (λ (v : Option StampedTx). AllByRecursion (λ (r : ActiveTx). r.id ≢ t) (after_abort_of s t v).active) (sym none)
      (each_filter (λ (q : ActiveTx). not (q.id == t)) (IsActive s.base s.stamped s.clock) (λ (q : ActiveTx). q.id ≢ t) (λ q e k i. false≢true (sym (ap not (eq-eqb q.id t i)) ∙ e)) s.active h.others.shared.sound.active)

  apart_now : (t : ℕ) → IsActiveReader s t → AllByRecursion (λ (z : CommittedReader). z.id ≢ t) committed
  apart_now t a =
      let f = found_here (active_of t s.active) a.here in
      let is = id_of t s.active f.0 f.1 in
      each_weaker (IsHeldCommitted opening s) (λ (z : CommittedReader). z.id ≢ t) (λ z q i. (active_holds (λ (r : ActiveTx). r.id ≢ z.id) t s.active f.0 f.1 q.gone).0 (is ∙ sym i)) committed h.committed

  committed_on : (t n : ℕ) → IsAt t (Preparing n true) → flag_of_reader s t ≡ None → awaited_by_reader s t ≡ None
      → IsWholeHeld opening (record { whole = record { core = after_abort s t; readers = with_stage t Committed readers; committed_readers = committed ++ (record { id = t; history = (g.reads t).history }) ∷ [] }; taken = g.taken; reads = g.reads })
  committed_on t n at d e =
      let a = at.stage.0 in
      let k = step_back t a in
      let next = after_given given w (Rollback t) Took in
      let y : CommittedReader = record { id = t; history = (g.reads t).history } in
      let told = read_now opening given t n (g.reads t) a at.stage.1 d e at.later h.others in
      record {
        others = k.held;
        readers = moved t next k Committed (λ u. tt);
        committed = each_append (IsHeldCommitted opening (after_abort s t)) committed (y ∷ []) (committed_stay (Some t) next k)
            (record { read = k.leaves.0.read t (g.reads t).history at.drawn told; gone = gone_now t a; drawn = let c = k.leaves.0.clock in let l = at.drawn in omega arith }, tt);
        apart = apart_push committed y h.apart (apart_now t a);
      }

  settle_on : (t : ℕ) (p : ReaderStage) → stage_of t readers ≡ Some p → why_not_reader_given g w p (Settle t) ≡ None → IsWholeHeld opening (took_at (Settle t) (Some p))
  settle_on t p e n =
      let q = settles_now s t p (no_cause _ n) in
      go (awaited_by_reader s t) refl q.0 (named t (Preparing q.0 true) (e ∙ ap Some q.1)) q.2
    where
      go : (v : Option StampedTx) → awaited_by_reader s t ≡ v → (k : ℕ) → IsAt t (Preparing k true) → flag_of_reader s t ≡ None
          → IsWholeHeld opening (record { whole = record { core = (after_given_calls given w (unless_awaited t v)).state; readers = settled_unless t readers v; committed_readers = told_unless (g.reads t) t committed v }; taken = (after_given_calls given w (unless_awaited t v)).taken; reads = g.reads })
      go (Some x) i k at d = h
      go None i k at d = committed_on t k at d i

  -- ---- its rollback, its finishing
  back_on : (t : ℕ) → IsStep (Some t) (after_given given w (Rollback t) Took) → IsWholeHeld opening (record { whole = record { core = after_abort s t; readers = with_stage t Aborted readers; committed_readers = committed }; taken = g.taken; reads = g.reads })
  back_on t k = rest_stays (Some t) (after_given given w (Rollback t) Took) k (with_stage t Aborted readers) (moved t (after_given given w (Rollback t) Took) k Aborted (λ u. tt))

  finish_on : (t : ℕ) → why_not_given given w (Finish t) ≡ None → IsWholeHeld opening (record { whole = record { core = (after_given given w (Finish t) Took).state; readers = cond (is_done s t) (without_reader t readers) readers; committed_readers = committed }; taken = g.taken; reads = g.reads })
  finish_on t n =
      let step = step_took (Finish t) (λ m i. absurd cc) n tt in
      let next = after_given given w (Finish t) Took in
      let k : IsStep None next = record { held = step.held; leaves = leaves_finished opening None s t; start = step.start } in
      let all = all_stay None next k (each_weaker (IsHeldReader s g.reads) (λ (r : UnfinishedReader). None ≡ Some r.id → ⊥) (λ r q i. absurd cc) readers h.readers) in
      rest_stays None next k (cond (is_done s t) (without_reader t readers) readers) (go (is_done s t) next.state all)
    where
      go : (b : Bool) (q : State) → AllByRecursion (IsHeldReader q g.reads) readers → AllByRecursion (IsHeldReader q g.reads) (cond b (without_reader t readers) readers)
      go true q all = each_filter (λ (r : UnfinishedReader). not (r.id == t)) (IsHeldReader q g.reads) (IsHeldReader q g.reads) (λ r _ k. k) readers all
      go false q all = all

  reader_took : (c : Call) (p : ReaderStage) → stage_named readers (id_named c) ≡ Some p → why_not_reader_given g w p c ≡ None → IsWholeHeld opening (took_at c (Some p))
  reader_took Begin p e n = absurd (no_stage p e)
  reader_took (Trim m) p e n = absurd (no_stage p e)
  reader_took (Close fits gr full) p e n = absurd (no_stage p e)
  reader_took (Do t op) p e n = do_on t op p e n
  reader_took (Precommit t) p e n = precommit_on t p e n
  reader_took (Validate t) p e n = check_on t p e n
  reader_took (Settle t) p e n = settle_on t p e n
  reader_took (Rollback t) p e n = back_on t (step_took (Rollback t) (λ m i. absurd cc) n tt)
  reader_took (Finish t) p e n = finish_on t n

  -- ---- a refusal of its call
  failed_on : (t : ℕ) (q : Refusal) → (is_failure q ≡ true → IsActiveReader s t) → IsWholeHeld opening (record {
    whole = record { core = (after_given_calls given w (core_failed t q)).state; readers = readers_failed t q readers; committed_readers = committed };
    taken = (after_given_calls given w (core_failed t q)).taken;
    reads = g.reads;
  })
  failed_on t q f = go (is_failure q) refl
    where
      go : (b : Bool) → is_failure q ≡ b → IsWholeHeld opening (record {
        whole = record { core = (after_given_calls given w (cond b (rolled_back t) [])).state; readers = cond b (with_stage t Aborted readers) readers; committed_readers = committed };
        taken = (after_given_calls given w (cond b (rolled_back t) [])).taken;
        reads = g.reads;
      })
      go true e = back_on t (step_back t (f e))
      go false e = h

  of_stage : (t : ℕ) (p : ReaderStage) → IsHeldAtStage s (g.reads t) t p → (p ≡ Committed → ⊥) → (p ≡ Aborted → ⊥) → IsActiveReader s t
  of_stage t Reading a m n = a
  of_stage t (Preparing k v) a m n = a.0
  of_stage t Committed a m n = absurd (m refl)
  of_stage t Aborted a m n = absurd (n refl)

  fails : (t : ℕ) (p : ReaderStage) (q : Refusal) → stage_of t readers ≡ Some p → (p ≡ Committed → ◌≡◌ {A = GivenRefusal} (Because q) (Because Ended)) → (p ≡ Aborted → ◌≡◌ {A = GivenRefusal} (Because q) (Because Ended)) → is_failure q ≡ true → IsActiveReader s t
  fails t p q e m n f = of_stage t p (named t p e).stage (λ i. not_ended q (m i) f) (λ i. not_ended q (n i) f)

  reader_denied : (c : Call) (p : ReaderStage) (q : Refusal) → stage_named readers (id_named c) ≡ Some p → IsGivenRefusal (takes_memory_at_stage c (Some p)) (why_not_reader_given g w p c) (Because q) → IsWholeHeld opening (denied_at c q (Some p))
  reader_denied Begin p q e m = h
  reader_denied (Trim k) p q e m = h
  reader_denied (Close fits gr full) p q e m = h
  reader_denied (Rollback t) p q e m = h
  reader_denied (Finish t) p q e m = h
  reader_denied (Do t op) p q e m = failed_on t q (fails t p q e (λ i. subst (λ (v : ReaderStage). IsGivenRefusal true (why_not_read_given s v t w op) (Because q)) i m) (λ i. subst (λ (v : ReaderStage). IsGivenRefusal true (why_not_read_given s v t w op) (Because q)) i m))
  reader_denied (Precommit t) p q e m = failed_on t q (fails t p q e (λ i. subst (λ (v : ReaderStage). IsGivenRefusal false (why_not_take_reads s v t w) (Because q)) i m) (λ i. subst (λ (v : ReaderStage). IsGivenRefusal false (why_not_take_reads s v t w) (Because q)) i m))
  reader_denied (Validate t) p q e m = failed_on t q (fails t p q e (λ i. subst (λ (v : ReaderStage). IsGivenRefusal false (why_not_check_reads g v t) (Because q)) i m) (λ i. subst (λ (v : ReaderStage). IsGivenRefusal false (why_not_check_reads g v t) (Because q)) i m))
  reader_denied (Settle t) p q e m = failed_on t q (fails t p q e (λ i. subst (λ (v : ReaderStage). IsGivenRefusal false (why_not_reader_given g w v (Settle t)) (Because q)) i m) (λ i. subst (λ (v : ReaderStage). IsGivenRefusal false (why_not_reader_given g w v (Settle t)) (Because q)) i m))

  -- ---- a read-only one begins
  begin_on : why_not s Begin ≡ None → IsWholeHeld opening (after_given_whole g w BeginReadOnly Took)
  begin_on n =
      let t = s.clock + 1 in
      let k = step_took Begin (λ m i. absurd cc) (ap (option_map Because) n) tt in
      let next = after_given given w Begin Took in
      let new : UnfinishedReader = record { id = t; stage = Reading } in
      let all = all_stay None next k (each_weaker (IsHeldReader s g.reads) (λ (r : UnfinishedReader). None ≡ Some r.id → ⊥) (λ r q i. absurd cc) readers h.readers) in
      rest_stays None next k (readers ++ new ∷ []) (each_append (IsHeldReader next.state g.reads) readers (new ∷ []) all (
        record {
          drawn = omega arith;
          later = let d = h.others.standing.started.drawn in omega arith;
          stage = record {
            here = here_last t s.active (new_active t) refl;
            idle = each_append (λ (r : ActiveTx). r.id ≡ t → r.history ≡ []) s.active (new_active t ∷ []) (each_weaker (IsActive s.base s.stamped s.clock) (λ (r : ActiveTx). r.id ≡ t → r.history ≡ []) (λ r a i. absurd (let d = a.drawn in omega arith)) s.active h.others.shared.sound.active) ((λ i. refl), tt);
          };
        },
        tt,
      ))

  -- ---- each call
  took_on : (c : Call) (v : Option ReaderStage) → stage_named readers (id_named c) ≡ v → why_not_given_at_stage g w c v ≡ None → IsCallInOrder s c → IsWholeHeld opening (took_at c v)
  took_on c None e n o = other_took c e n o
  took_on c (Some p) e n o = reader_took c p e n

  denied_on : (c : Call) (q : Refusal) (v : Option ReaderStage) → stage_named readers (id_named c) ≡ v → IsGivenRefusal (takes_memory_at_stage c v) (why_not_given_at_stage g w c v) (Because q) → IsWholeHeld opening (denied_at c q v)
  denied_on c q None e m = other_denied c q e m
  denied_on c q (Some p) e m = reader_denied c p q e m

  each_on : (c : WholeCall) (r : GivenResult) → MayComeGivenWhole g w c r → IsWholeHeld opening (after_given_whole g w c r)
  each_on BeginReadOnly Took m = begin_on (no_cause _ m.0)
  each_on BeginReadOnly (Denied (Because q)) m = h
  each_on BeginReadOnly (Denied WorkMismatch) m = h
  each_on (CoreCall c) Took m = took_on c (stage_named readers (id_named c)) refl m.0 m.1
  each_on (CoreCall c) (Denied (Because q)) m = denied_on c q (stage_named readers (id_named c)) refl m
  each_on (CoreCall c) (Denied WorkMismatch) m = h

pub whole_held_after : (opening : Map) (g : GivenWhole) (w : WorkContent) (c : WholeCall) (r : GivenResult) → IsWork w → MayComeGivenWhole g w c r → IsWholeHeld opening g → IsWholeHeld opening (after_given_whole g w c r)
whole_held_after opening g w c r work m h = each_on opening g w work h c r m

-- ---- each list of calls
pub whole_held_opened : (rows : Map) (mark : ℕ) (all : AllTaken) (reads : WorksById) → IsWholeHeld rows (opened_given_whole rows mark all reads)
whole_held_opened rows mark all reads = record { others = held_opened rows mark all; readers = tt; committed = tt; apart = tt }

pub whole_held_run : (opening : Map) (g : GivenWhole) (cs : List GivenWholeCall) → MayRunGivenWhole g cs → IsWholeHeld opening g → IsWholeHeld opening (after_given_whole_run g cs)
whole_held_run opening g [] m h = h
whole_held_run opening g (c ∷ cs) m h = whole_held_run opening (after_given_whole g c.work c.call c.result) cs m.2 (whole_held_after opening g c.work c.call c.result m.0 m.1 h)
