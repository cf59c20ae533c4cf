-- What is depended on, read off the whole trace.
use Rattle.std.proofs.Common.{◌≡◌, ℕ, ◌<◌, Bool, true, false, cond, ◌||◌, ◌⊎◌, inl, inr, List, [], ◌∷◌, ◌++◌, Option, None, Some, refl, sym, ap, ◌∙◌, subst, append_assoc}
use Rattle.std.specs.Prelude.{is_some}
use Rattle.std.specs.List.{AllByRecursion, list_any}
use Rattle.std.specs.FinMap as fin
use Rattle.std.proofs.lemmas.Bool.{true≢false}
use Rattle.mvo_types.specs.declared.row.RowKey.{RowKey}
use Rattle.mvo_types.specs.declared.op.Op.{Op}
use Rattle.mvo_types.specs.declared.refusal.Refusal.{Refusal}
use Rattle.mvo_types.specs.Keys.{Map}
use Rattle.mvo_types.specs.AnswerData.{AnswerData}
use Rattle.mvo_model.specs.History.{History, net_write, later, write_of, write_at}
use Rattle.mvo_model.specs.Trace.{Step, committed, history_of, phase_of}
use Rattle.mvo_model.specs.Trace.Step.{Begins, Answers, Prepares, Checks, Commits, Aborts, Terminates}
use Rattle.mvo_model.specs.Trace.Phase.{Preparing as IsPreparing}
use Rattle.mvo_theory.specs.AfterTrace.{pairs}
use Rattle.mvo_theory.specs.Causes.{awaited, end_of, is_failure}
use Rattle.mvo_types.specs.declared.entry.Entry.{Entry}
use Rattle.mvo_types.specs.declared.entry.Entry.TheVariants.{Key, Range}
use Rattle.mvo_theory.specs.Ranges.{Row, shows, pass}
use Rattle.mvo_theory.specs.State.{State, StampedTx, timeline}
use Rattle.mvo_theory.specs.Traced.{IsLastWriter, puts_row, IsLookedAt, DependsOn}
use Rattle.mvo_theory.specs.Words.{is_done}
use Rattle.mvo_theory.specs.Steps.{steps_of_refusal}
use Rattle.mvo_theory.specs.Calls.{Call, Result, answer_in, steps_unless, steps_of, trace_of}
use Rattle.mvo_theory.specs.Calls.Call.{Begin, Do, Precommit, Validate, Settle, Rollback, Finish, Trim, Close}
use Rattle.mvo_theory.specs.Calls.Result.{Accepted, Refused}
use Rattle.mvo_theory.proofs.Each.{each_weaker, each_append, each_back}
use Rattle.mvo_theory.proofs.Tales.{pairs-append}
use Rattle.mvo_readonly.specs.ReadAt.{WritesNothing}
use Rattle.mvo_readonly.specs.Whole.{ReaderStage, WholeState, opened_whole, stage_of, stage_named, id_named}
use Rattle.mvo_readonly.specs.WholeCauses.{WholeCall, awaited_by_reader}
use Rattle.mvo_readonly.specs.WholeCalls.{own_trace, unless_awaited, rolled_back, core_failed, core_reader, core_other, core_at_stage, core_calls, commits_unless, reader_steps, steps_at_stage, steps_of_whole_call, after_whole_call, WholeRun, MayRunWhole, whole_trace}
use Rattle.mvo_readonly.specs.Whole.ReaderStage.{Reading, Preparing, Committed, Aborted}
use Rattle.mvo_readonly.specs.WholeCauses.WholeCall.{CoreCall, BeginReadOnly}
use Rattle.mvo_readonly.specs.WholeKept.{core_phase, IsWholeKept, reader_commits}
use Rattle.mvo_readonly.specs.WholeTale.{told_in}
use Rattle.mvo_readonly.specs.BothTraces.{HasWholePlace, IsRemembered}
use Rattle.mvo_readonly.proofs.Traces.{append-none}
use Rattle.mvo_readonly.proofs.Stages.{core_stands}
use Rattle.mvo_readonly.proofs.WholeRuns.{whole_opened, whole_after_call}
use Rattle.mvo_readonly.proofs.Ordered.{each_in_order}
use Rattle.mvo_readonly.proofs.Serials.{idle_pairs, order_is}

-- ---- a writer of the others is one of the whole trace
pub idle_net : (k : RowKey) (ts : History) → WritesNothing ts → net_write k ts ≡ None
idle_net k [] h = refl
idle_net k (t ∷ ts) h = ap (λ w. later w (write_at k (write_of t.0 t.1))) (idle_net k ts h.1) ∙ ap (λ w. later None (write_at k w)) h.0

pub no_phase : (p : ReaderStage) (e : ℕ) → core_phase p ≡ IsPreparing e → ⊥
no_phase Reading e h = absurd cc
no_phase (Preparing n v) e h = absurd cc
no_phase Committed e h = absurd cc
no_phase Aborted e h = absurd cc

pub last_whole : (opening : Map) (ws xs : List Step) (w : WholeState) (k : RowKey) (b x e : ℕ) → IsWholeKept opening ws xs w → IsLastWriter xs k b x e → IsLastWriter ws k b x e
last_whole opening ws xs w k b x e h l = record {
  preparing = stands (stage_of x w.readers) refl;
  below = l.below;
  writes = ap (λ ts. is_some (net_write k ts)) (h.histories x) ∙ l.writes;
  no_preparing = λ z n p f g. none z n p f g (stage_of z w.readers) refl;
  no_committed = subst (AllByRecursion P) (sym (order_is opening ws xs w h))
      (each_in_order P (reader_commits w.committed_readers ++ pairs (timeline w.core)) (each_append P (reader_commits w.committed_readers) (pairs (timeline w.core))
      (each_weaker (λ d. WritesNothing (told_in ws d)) P (λ d i _ _. idle_net k (told_in ws d) i) (reader_commits w.committed_readers) (idle_pairs opening ws xs w h))
      (subst (AllByRecursion P) (h.kept.after_trace.tale ∙ sym (pairs-append w.core.past w.core.stamped))
      (each_weaker (λ (c : ℕ × ℕ). e < c.0 → c.0 < b → net_write k (history_of c.1 xs) ≡ None) P (λ c q f g. ap (net_write k) (h.histories c.1) ∙ q f g) (committed xs) l.no_committed))));
}
  where
    P : ℕ × ℕ → Type 0
    P c = e < c.0 → c.0 < b → net_write k (history_of c.1 ws) ≡ None

    stands : (p : Option ReaderStage) → stage_of x w.readers ≡ p → phase_of x ws ≡ IsPreparing e
    stands None f = h.phases x f ∙ l.preparing
    stands (Some p) f = absurd (no_phase p e (sym (core_stands ws xs w.core x w.readers p f h.readers).0 ∙ l.preparing))

    none : (z n : ℕ) → phase_of z ws ≡ IsPreparing n → e < n → n < b → (p : Option ReaderStage) → stage_of z w.readers ≡ p → net_write k (history_of z ws) ≡ None
    none z n p f g None i = ap (net_write k) (h.histories z) ∙ l.no_preparing z n (sym (h.phases z i) ∙ p) f g
    none z n p f g (Some q) i = ap (net_write k) (h.histories z) ∙ idle_net k (history_of z xs) (core_stands ws xs w.core z w.readers q i h.readers).2

-- ---- the prefix of the whole trace for each prefix of the core's that an answer follows
looked_whole : (opening : Map) (ws xs : List Step) (e : Entry) (k : RowKey) → ((p : Row → Bool) (q : RowKey) → list_any (puts_row p q) ws ≡ list_any (puts_row p q) xs) → IsLookedAt opening xs e k → IsLookedAt opening ws e k
looked_whole opening ws xs (Key j) k l h = h
looked_whole opening ws xs (Range t lo hi) k l h = ap (λ (b : Bool). is_some (pass (shows (Range t lo hi)) k (fin.get opening k)) || b) (l (shows (Range t lo hi)) k) ∙ h

-- DEPENDENCIES: what the core's own trace says, the whole one says
pub depends_whole : (opening : Map) (ws xs : List Step) (t x e : ℕ) → IsRemembered opening ws xs → DependsOn opening xs t x e → DependsOn opening ws t x e
depends_whole opening ws xs t x e m d =
    let r = m.at d.before d.after t d.op d.answer d.then' in record {
      before = r.front;
      op = d.op;
      answer = d.answer;
      after = r.back;
      then' = r.then';
      key = d.key;
      looked = looked_whole opening r.front d.before _ d.key r.looks d.looked;
      unwritten = ap (λ ts. is_some (net_write d.key ts)) (r.kept.histories t) ∙ d.unwritten;
      writer = last_whole opening r.front d.before r.state d.key t x e r.kept d.writer;
    }

-- ---- one step more, or several
abbrev pub is_answer : Step → Bool
is_answer (Answers t op a) = true
is_answer (Begins t) = false
is_answer (Prepares t e) = false
is_answer (Checks t) = false
is_answer (Commits t e) = false
is_answer (Aborts t) = false
is_answer (Terminates t) = false

abbrev pub AreSilent : List Step → Type 0
AreSilent zs = AllByRecursion (λ z. is_answer z ≡ false) zs

-- where an answer stands in a list of steps behind another
pub splits : (xs vs before after : List Step) (z : Step) → xs ++ vs ≡ before ++ (z ∷ after) → ((mid : List Step) × (xs ≡ before ++ (z ∷ mid))) ⊎ ((front : List Step) × (before ≡ xs ++ front) × (vs ≡ front ++ (z ∷ after)))
splits [] vs before after z e = inr (before, refl, e)
splits (x ∷ xs) vs [] after z e = inl (xs, ap (λ y. y ∷ xs) (head_is x z (xs ++ vs) after e))
  where
    head_is : (a b : Step) (ds bs : List Step) → a ∷ ds ≡ b ∷ bs → a ≡ b
    head_is a b ds bs q = cc
splits (x ∷ xs) vs (b ∷ before) after z e = go (splits xs vs before after z (tail_is x b (xs ++ vs) (before ++ (z ∷ after)) e)) (head_is x b (xs ++ vs) (before ++ (z ∷ after)) e)
  where
    head_is : (a c : Step) (ds cs : List Step) → a ∷ ds ≡ c ∷ cs → a ≡ c
    head_is a c ds cs q = cc

    tail_is : (a c : Step) (ds cs : List Step) → a ∷ ds ≡ c ∷ cs → ds ≡ cs
    tail_is a c ds cs q = cc

    go : ((mid : List Step) × (xs ≡ before ++ (z ∷ mid))) ⊎ ((front : List Step) × (before ≡ xs ++ front) × (vs ≡ front ++ (z ∷ after))) → x ≡ b → ((mid : List Step) × (x ∷ xs ≡ (b ∷ before) ++ (z ∷ mid))) ⊎ ((front : List Step) × (b ∷ before ≡ (x ∷ xs) ++ front) × (vs ≡ front ++ (z ∷ after)))
    go (inl q) i = inl (q.0, ap (λ y. y ∷ xs) i ∙ ap (λ ys. b ∷ ys) q.1)
    go (inr q) i = inr (q.0, ap (λ y. y ∷ before) (sym i) ∙ ap (λ ys. x ∷ ys) q.1, q.2)

pub any_both : (p : Step → Bool) (xs ys : List Step) → list_any p (xs ++ ys) ≡ (list_any p xs || list_any p ys)
any_both p [] ys = refl
any_both p (x ∷ xs) ys = ap (λ (b : Bool). p x || b) (any_both p xs ys) ∙ or_assoc (p x) (list_any p xs) (list_any p ys)
  where
    or_assoc : (a b c : Bool) → (a || (b || c)) ≡ ((a || b) || c)
    or_assoc true b c = refl
    or_assoc false b c = refl

silent_puts : (p : Row → Bool) (q : RowKey) (zs : List Step) → AreSilent zs → list_any (puts_row p q) zs ≡ false
silent_puts p q [] h = refl
silent_puts p q (z ∷ zs) h = one z h.0 (silent_puts p q zs h.1)
  where
    one : (y : Step) → is_answer y ≡ false → list_any (puts_row p q) zs ≡ false → (puts_row p q y || list_any (puts_row p q) zs) ≡ false
    one (Answers t op a) e k = absurd (true≢false e)
    one (Begins t) e k = k
    one (Prepares t n) e k = k
    one (Checks t) e k = k
    one (Commits t n) e k = k
    one (Aborts t) e k = k
    one (Terminates t) e k = k

-- what a call adds to both traces: no answer to either, or one answer to both
abbrev pub Adds : List Step → List Step → Type 0
Adds us vs = (AreSilent us × AreSilent vs) ⊎ ((t : ℕ) × (op : Op) × (a : AnswerData) × (us ≡ Answers t op a ∷ []) × (vs ≡ Answers t op a ∷ []))

pub no_answer_in : (front after : List Step) (t : ℕ) (op : Op) (a : AnswerData) (vs : List Step) → vs ≡ front ++ (Answers t op a ∷ after) → AreSilent vs → ⊥
no_answer_in front after t op a vs e h = true≢false (each_back (λ z. is_answer z ≡ false) front (Answers t op a ∷ after) (subst (λ l. AreSilent l) e h)).0

pub alone_is : (front after : List Step) (z y : Step) → y ∷ [] ≡ front ++ (z ∷ after) → (front ≡ []) × (y ≡ z)
alone_is [] after z y e = (refl, head_is y z [] after e)
  where
    head_is : (a c : Step) (ds cs : List Step) → a ∷ ds ≡ c ∷ cs → a ≡ c
    head_is a c ds cs q = cc
alone_is (f ∷ front) after z y e = absurd (empty_is front (tail_is y f [] (front ++ (z ∷ after)) e))
  where
    tail_is : (a c : Step) (ds cs : List Step) → a ∷ ds ≡ c ∷ cs → ds ≡ cs
    tail_is a c ds cs q = cc

    empty_is : (fs : List Step) → [] ≡ fs ++ (z ∷ after) → ⊥
    empty_is [] q = absurd cc
    empty_is (g ∷ fs) q = absurd cc

longer : (opening : Map) (ws us before : List Step) (t : ℕ) (op : Op) (a : AnswerData) → HasWholePlace opening ws before t op a → HasWholePlace opening (ws ++ us) before t op a
longer opening ws us before t op a h = record {
  front = h.front;
  back = h.back ++ us;
  state = h.state;
  then' = ap (λ l. l ++ us) h.then' ∙ append_assoc h.front (Answers t op a ∷ h.back) us;
  kept = h.kept;
  looks = h.looks;
}

pub remembered_more : (opening : Map) (ws xs us vs : List Step) (w : WholeState) → Adds us vs → IsWholeKept opening ws xs w → IsRemembered opening ws xs → IsRemembered opening (ws ++ us) (xs ++ vs)
remembered_more opening ws xs us vs w d h m = record {
  looks = λ p q. any_both (puts_row p q) ws us ∙ ap (λ (b : Bool). b || list_any (puts_row p q) us) (m.looks p q) ∙ ap (λ (b : Bool). list_any (puts_row p q) xs || b) (same p q d) ∙ sym (any_both (puts_row p q) xs vs);
  at = λ before after t op a e. found before after t op a d (splits xs vs before after (Answers t op a) e);
}
  where
    same : (p : Row → Bool) (q : RowKey) → Adds us vs → list_any (puts_row p q) us ≡ list_any (puts_row p q) vs
    same p q (inl k) = silent_puts p q us k.0 ∙ sym (silent_puts p q vs k.1)
    same p q (inr k) = ap (list_any (puts_row p q)) (k.3 ∙ sym k.4)

    found : (before after : List Step) (t : ℕ) (op : Op) (a : AnswerData) → Adds us vs → ((mid : List Step) × (xs ≡ before ++ (Answers t op a ∷ mid))) ⊎ ((front : List Step) × (before ≡ xs ++ front) × (vs ≡ front ++ (Answers t op a ∷ after))) → HasWholePlace opening (ws ++ us) before t op a
    found before after t op a k (inl q) = longer opening ws us before t op a (m.at before q.0 t op a q.1)
    found before after t op a (inl k) (inr q) = absurd (no_answer_in q.0 after t op a vs q.2 k.1)
    found before after t op a (inr k) (inr q) =
        let one = alone_is q.0 after (Answers t op a) (Answers k.0 k.1 k.2) (sym k.4 ∙ q.2) in
        let here : before ≡ xs = q.1 ∙ ap (λ l. xs ++ l) one.0 ∙ append-none xs in
        record {
          front = ws;
          back = [];
          state = w;
          then' = ap (λ l. ws ++ l) (k.3 ∙ ap (λ z. z ∷ []) one.1);
          kept = subst (λ l. IsWholeKept opening ws l w) (sym here) h;
          looks = λ p r. m.looks p r ∙ ap (list_any (puts_row p r)) (sym here);
        }

-- ---- what each call adds
silent_refused : (t : ℕ) (r : Refusal) → AreSilent (steps_of_refusal t r)
silent_refused t r = go (is_failure r)
  where
    go : (b : Bool) → AreSilent (cond b (Aborts t ∷ []) [])
    go true = (refl, tt)
    go false = tt

silent_done : (t : ℕ) (b : Bool) → AreSilent (cond b (Terminates t ∷ []) [])
silent_done t true = (refl, tt)
silent_done t false = tt

silent_unless : (t e : ℕ) (x : Option StampedTx) → AreSilent (steps_unless t e x)
silent_unless t e (Some x) = tt
silent_unless t e None = (refl, tt)

twice : (zs : List Step) → AreSilent zs → Adds zs zs
twice zs h = inl (h, h)

steps_add : (s : State) (c : Call) (r : Result) → Adds (steps_of s c r) (steps_of s c r)
steps_add s Begin Accepted = inl ((refl, tt), (refl, tt))
steps_add s (Do t op) Accepted = inr (t, op, answer_in s t op, refl, refl)
steps_add s (Precommit t) Accepted = inl ((refl, tt), (refl, tt))
steps_add s (Validate t) Accepted = inl ((refl, tt), (refl, tt))
steps_add s (Settle t) Accepted = twice (steps_unless t (end_of s t) (awaited s t)) (silent_unless t (end_of s t) (awaited s t))
steps_add s (Rollback t) Accepted = inl ((refl, tt), (refl, tt))
steps_add s (Finish t) Accepted = twice (cond (is_done s t) (Terminates t ∷ []) []) (silent_done t (is_done s t))
steps_add s (Trim m) Accepted = inl (tt, tt)
steps_add s (Close fits g full) Accepted = inl (tt, tt)
steps_add s Begin (Refused q) = inl (tt, tt)
steps_add s (Do t op) (Refused q) = twice (steps_of_refusal t q) (silent_refused t q)
steps_add s (Precommit t) (Refused q) = twice (steps_of_refusal t q) (silent_refused t q)
steps_add s (Validate t) (Refused q) = twice (steps_of_refusal t q) (silent_refused t q)
steps_add s (Settle t) (Refused q) = twice (steps_of_refusal t q) (silent_refused t q)
steps_add s (Rollback t) (Refused q) = inl (tt, tt)
steps_add s (Finish t) (Refused q) = inl (tt, tt)
steps_add s (Trim m) (Refused q) = inl (tt, tt)
steps_add s (Close fits g full) (Refused q) = inl (tt, tt)

once : (s : State) (c : Call) (r : Result) → Adds (steps_of s c r) (steps_of s c r ++ [])
once s c r = subst (Adds (steps_of s c r)) (sym (append-none (steps_of s c r))) (steps_add s c r)

other_adds : (s : State) (c : Call) (r : Result) → Adds (steps_of s c r) (trace_of s (core_other c r))
other_adds s Begin r = once s Begin r
other_adds s (Do t op) r = once s (Do t op) r
other_adds s (Precommit t) r = once s (Precommit t) r
other_adds s (Validate t) r = once s (Validate t) r
other_adds s (Settle t) r = once s (Settle t) r
other_adds s (Rollback t) r = once s (Rollback t) r
other_adds s (Finish t) r = once s (Finish t) r
other_adds s (Close fits g full) r = once s (Close fits g full) r
other_adds s (Trim m) Accepted = inl (tt, tt)
other_adds s (Trim m) (Refused q) = inl (tt, tt)

failed_adds : (s : State) (t : ℕ) (r : Refusal) → Adds (steps_of_refusal t r) (trace_of s (core_failed t r))
failed_adds s t r = go (is_failure r)
  where
    go : (b : Bool) → Adds (cond b (Aborts t ∷ []) []) (trace_of s (cond b (rolled_back t) []))
    go true = inl ((refl, tt), (refl, tt))
    go false = inl (tt, tt)

settled_adds : (s : State) (t : ℕ) (x : Option StampedTx) → Adds (commits_unless t x) (trace_of s (unless_awaited t x))
settled_adds s t (Some x) = inl (tt, tt)
settled_adds s t None = inl ((refl, tt), (refl, tt))

reader_adds : (s : State) (c : Call) (r : Result) → Adds (reader_steps s c r) (trace_of s (core_reader s c r))
reader_adds s Begin Accepted = once s Begin Accepted
reader_adds s (Do t op) Accepted = once s (Do t op) Accepted
reader_adds s (Precommit t) Accepted = inl ((refl, tt), tt)
reader_adds s (Validate t) Accepted = inl ((refl, tt), tt)
reader_adds s (Settle t) Accepted = settled_adds s t (awaited_by_reader s t)
reader_adds s (Rollback t) Accepted = once s (Rollback t) Accepted
reader_adds s (Finish t) Accepted = once s (Finish t) Accepted
reader_adds s (Trim m) Accepted = inl (tt, tt)
reader_adds s (Close fits g full) Accepted = inl (tt, tt)
reader_adds s Begin (Refused q) = inl (tt, tt)
reader_adds s (Do t op) (Refused q) = failed_adds s t q
reader_adds s (Precommit t) (Refused q) = failed_adds s t q
reader_adds s (Validate t) (Refused q) = failed_adds s t q
reader_adds s (Settle t) (Refused q) = failed_adds s t q
reader_adds s (Rollback t) (Refused q) = inl (tt, tt)
reader_adds s (Finish t) (Refused q) = inl (tt, tt)
reader_adds s (Trim m) (Refused q) = inl (tt, tt)
reader_adds s (Close fits g full) (Refused q) = inl (tt, tt)

pub call_adds : (w : WholeState) (a : WholeCall) (r : Result) → Adds (steps_of_whole_call w a r) (trace_of w.core (core_calls w a r))
call_adds w BeginReadOnly r = once w.core Begin r
call_adds w (CoreCall c) r = go (stage_named w.readers (id_named c))
  where
    go : (p : Option ReaderStage) → Adds (steps_at_stage w.core c r p) (trace_of w.core (core_at_stage w.core c r p))
    go None = other_adds w.core c r
    go (Some p) = reader_adds w.core c r

-- ---- over a list of calls
pub remembered_opened : (opening : Map) → IsRemembered opening [] []
remembered_opened opening = record { looks = λ p q. refl; at = λ before after t op a e. absurd (empty_is before after t op a e) }
  where
    empty_is : (before after : List Step) (t : ℕ) (op : Op) (a : AnswerData) → [] ≡ before ++ (Answers t op a ∷ after) → ⊥
    empty_is [] after t op a q = absurd cc
    empty_is (b ∷ before) after t op a q = absurd cc

pub remembered_after_whole_run : (opening : Map) (ws xs : List Step) (w : WholeState) (d : WholeRun) → MayRunWhole w d → IsWholeKept opening ws xs w → IsRemembered opening ws xs → IsRemembered opening (ws ++ whole_trace w d) (xs ++ own_trace w d)
remembered_after_whole_run opening ws xs w [] m h k = subst (λ l. IsRemembered opening l (xs ++ [])) (sym (append-none ws)) (subst (λ l. IsRemembered opening ws l) (sym (append-none xs)) k)
remembered_after_whole_run opening ws xs w (a ∷ rest) m h k =
    let w' = after_whole_call w a.0 a.1 in
    let us = steps_of_whole_call w a.0 a.1 in
    let vs = trace_of w.core (core_calls w a.0 a.1) in
    subst (λ l. IsRemembered opening l (xs ++ (vs ++ own_trace w' rest))) (append_assoc ws us (whole_trace w' rest))
    (subst (λ l. IsRemembered opening ((ws ++ us) ++ whole_trace w' rest) l) (append_assoc xs vs (own_trace w' rest))
    (remembered_after_whole_run opening (ws ++ us) (xs ++ vs) w' rest m.1 (whole_after_call opening ws xs w a.0 a.1 m.0 h) (remembered_more opening ws xs us vs w (call_adds w a.0 a.1) h k)))

-- each dependency that the state has, of a read-only transaction or of another, is one of the whole trace
pub dependencies_are : (rows : Map) (mark : ℕ) (d : WholeRun) → MayRunWhole (opened_whole rows mark) d → (t x e : ℕ) → DependsOn rows (own_trace (opened_whole rows mark) d) t x e → DependsOn rows (whole_trace (opened_whole rows mark) d) t x e
dependencies_are rows mark d m t x e k = depends_whole rows (whole_trace (opened_whole rows mark) d) (own_trace (opened_whole rows mark) d) t x e (remembered_after_whole_run rows [] [] (opened_whole rows mark) d m (whole_opened rows mark) (remembered_opened rows)) k
