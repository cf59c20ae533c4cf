-- The groups that a run closes are one chain, and what they hold stays.
use Rattle.std.proofs.Common.{◌≡◌, ℕ, ◌+◌, Bool, true, false, cond, List, [], ◌∷◌, ◌++◌, Option, None, Some, length, refl, sym, ap, ◌∙◌, subst, arith, append_assoc, append-nil}
use Rattle.std.specs.Prelude.{nat_le, filter}
use Rattle.mvo_types.specs.declared.refusal.Refusal.{Refusal}
use Rattle.mvo_types.specs.Keys.{Map}
use Rattle.mvo_model.specs.Trace.{Step}
use Rattle.mvo_theory.specs.Entries.{entries}
use Rattle.mvo_theory.specs.State.{State, Marks, StampedTx, ActiveTx, Claim, opened, active_of, preparing_of}
use Rattle.mvo_theory.specs.Marks.{IsClosedAt, StaysBelow}
use Rattle.mvo_theory.specs.Groups.{Group, is_due, IsGroupOf, AreGroupsOf}
use Rattle.mvo_theory.specs.Changes.{after_check, after_operation, taken_over, after_termination, with_words, after_finish, after_close}
use Rattle.mvo_theory.specs.Words.{is_done, words_left}
use Rattle.mvo_theory.specs.Claims.{new_claim}
use Rattle.mvo_theory.specs.Causes.{awaited, is_failure}
use Rattle.mvo_theory.specs.Steps.{after_precommit_of, after_precommit, after_validate_of, after_validate, after_commit_of, after_settle_unless, after_settle, after_abort_of, after_abort}
use Rattle.mvo_theory.specs.Calls.{Call, Result, Run, answer_in, after_accepted, after_refused, after_call, steps_of, MayCome, MayRun, after_run, groups_closed_by, groups_of, IsKept}
use Rattle.mvo_theory.specs.Calls.Call.{Begin, Do, Precommit, Validate, Settle, Rollback, Finish, Trim, Close}
use Rattle.mvo_theory.specs.Calls.Result.{Accepted, Refused}
use Rattle.mvo_theory.proofs.Runs.{kept_opened, kept_after_call}
use Rattle.mvo_theory.proofs.Stays.{stays_after_call}
use Rattle.mvo_theory.proofs.Groups.{next_group_closes}

-- ---- a call that closes no group leaves the marks
marks_precommit : (s : State) (w : Option ActiveTx) → (after_precommit_of s w).marks ≡ s.marks
marks_precommit s None = refl
marks_precommit s (Some r) = refl

marks_validate : (s : State) (w : Option StampedTx) → (after_validate_of s w).marks ≡ s.marks
marks_validate s None = refl
marks_validate s (Some x) = go x.valid
  where
    go : (b : Bool) → (cond b s (after_check s x.end (nat_le (length (entries x.history)) (x.checked + 1)))).marks ≡ s.marks
    go true = refl
    go false = refl

marks_commit : (s : State) (t : ℕ) (w : Option StampedTx) → (after_commit_of s t w).marks ≡ s.marks
marks_commit s t None = refl
marks_commit s t (Some x) = refl

marks_settle : (s : State) (t : ℕ) (w : Option StampedTx) → (after_settle_unless s t w).marks ≡ s.marks
marks_settle s t None = marks_commit s t (preparing_of t s.stamped)
marks_settle s t (Some y) = refl

marks_abort : (s : State) (t : ℕ) (w : Option StampedTx) → (after_abort_of s t w).marks ≡ s.marks
marks_abort s t None = refl
marks_abort s t (Some x) = refl

marks_taken : (s : State) (c : Option Claim) → (taken_over c s).marks ≡ s.marks
marks_taken s None = refl
marks_taken s (Some c) = refl

marks_finish : (s : State) (t : ℕ) (b : Bool) → (cond b (after_termination s t) (with_words (words_left t) s)).marks ≡ s.marks
marks_finish s t true = refl
marks_finish s t false = refl

marks_refusal : (s : State) (t : ℕ) (b : Bool) → (cond b (after_abort s t) s).marks ≡ s.marks
marks_refusal s t true = marks_abort s t (preparing_of t s.stamped)
marks_refusal s t false = refl

marks_refused : (s : State) (c : Call) (r : Refusal) → (after_refused s c r).marks ≡ s.marks
marks_refused s Begin r = refl
marks_refused s (Do t op) r = marks_refusal s t (is_failure r)
marks_refused s (Precommit t) r = marks_refusal s t (is_failure r)
marks_refused s (Validate t) r = marks_refusal s t (is_failure r)
marks_refused s (Settle t) r = marks_refusal s t (is_failure r)
marks_refused s (Rollback t) r = refl
marks_refused s (Finish t) r = refl
marks_refused s (Trim m) r = refl
marks_refused s (Close fits g full) r = refl

-- ---- the chain
same_mark : (m : ℕ) (s s' : State) → s'.marks ≡ s.marks → m ≡ s.marks.closed → m ≡ s'.marks.closed
same_mark m s s' e q = q ∙ sym (ap (λ (n : Marks). n.closed) e)

-- it stays where what is committed up to a closed mark does
group_stays : (s s' : State) (g : Group) → StaysBelow s s' → IsGroupOf s g → IsGroupOf s' g
group_stays s s' g f h = let q = f g.mark h.closed in record { closed = q.0; commits = h.commits ∙ ap (filter (is_due g.prev)) (sym q.1) }

pub groups_stay : (s s' : State) (m : ℕ) (gs : List Group) → StaysBelow s s' → s'.marks ≡ s.marks → AreGroupsOf s m gs → AreGroupsOf s' m gs
groups_stay s s' m [] f e h = same_mark m s s' e h
groups_stay s s' m (g ∷ gs) f e h = (h.0, group_stays s s' g f h.1, groups_stay s s' g.mark gs f e h.2)

-- a group more
pub groups_push : (s : State) (m : ℕ) (gs : List Group) (g : Group) → AreGroupsOf s m gs → g.prev ≡ s.marks.closed → IsGroupOf s g → AreGroupsOf (after_close s g.mark) m (gs ++ g ∷ [])
groups_push s m [] g h e q = (e ∙ sym h, record { closed = record { drawn = q.closed.drawn; above = q.closed.above }; commits = q.commits }, refl)
groups_push s m (p ∷ ps) g h e q = (h.0, record { closed = record { drawn = h.1.closed.drawn; above = h.1.closed.above }; commits = h.1.commits }, groups_push s p.mark ps g h.2 e q)

-- what a run keeps of its groups: they are a chain up to the closed mark, where all is settled
pub record IsChained (mark : ℕ) (gs : List Group) (s : State) : Type 0 where
  pub closed : IsClosedAt s.marks.closed s
  pub groups : AreGroupsOf s mark gs

quiet_chained : (mark : ℕ) (gs : List Group) (s s' : State) → StaysBelow s s' → s'.marks ≡ s.marks → IsChained mark gs s → IsChained mark gs s'
quiet_chained mark gs s s' f e h = record {
  closed = subst (λ (m : ℕ). IsClosedAt m s') (sym (ap (λ (n : Marks). n.closed) e)) (f s.marks.closed h.closed).0;
  groups = groups_stay s s' mark gs f e h.groups;
}

no_group : (mark : ℕ) (gs : List Group) (s s' : State) → StaysBelow s s' → s'.marks ≡ s.marks → IsChained mark gs s → IsChained mark (gs ++ []) s'
no_group mark gs s s' f e h = subst (λ l. IsChained mark l s') (sym (append-nil gs)) (quiet_chained mark gs s s' f e h)

chained_accepted : (opening : Map) (xs : List Step) (mark : ℕ) (gs : List Group) (s : State) (c : Call) → MayCome s c Accepted → IsKept opening xs s → IsChained mark gs s → IsChained mark (gs ++ groups_closed_by c Accepted) (after_accepted s c)
chained_accepted opening xs mark gs s Begin m k h = no_group mark gs s (after_accepted s Begin) (stays_after_call s Begin Accepted k.sound) refl h
chained_accepted opening xs mark gs s (Do t op) m k h = no_group mark gs s (after_accepted s (Do t op)) (stays_after_call s (Do t op) Accepted k.sound) (marks_taken (after_operation s t op (answer_in s t op)) (new_claim s t op (answer_in s t op))) h
chained_accepted opening xs mark gs s (Precommit t) m k h = no_group mark gs s (after_precommit s t) (stays_after_call s (Precommit t) Accepted k.sound) (marks_precommit s (active_of t s.active)) h
chained_accepted opening xs mark gs s (Validate t) m k h = no_group mark gs s (after_validate s t) (stays_after_call s (Validate t) Accepted k.sound) (marks_validate s (preparing_of t s.stamped)) h
chained_accepted opening xs mark gs s (Settle t) m k h = no_group mark gs s (after_settle s t) (stays_after_call s (Settle t) Accepted k.sound) (marks_settle s t (awaited s t)) h
chained_accepted opening xs mark gs s (Rollback t) m k h = no_group mark gs s (after_abort s t) (stays_after_call s (Rollback t) Accepted k.sound) (marks_abort s t (preparing_of t s.stamped)) h
chained_accepted opening xs mark gs s (Finish t) m k h = no_group mark gs s (after_finish s t) (stays_after_call s (Finish t) Accepted k.sound) (marks_finish s t (is_done s t)) h
chained_accepted opening xs mark gs s (Trim n) m k h = no_group mark gs s (after_accepted s (Trim n)) (stays_after_call s (Trim n) Accepted k.sound) refl h
chained_accepted opening xs mark gs s (Close fits g full) m k h =
    let q = next_group_closes opening xs s fits g k h.closed m.1 in
    record {
      closed = record { drawn = q.closed.drawn; above = q.closed.above };
      groups = groups_push s mark gs g h.groups m.1.prev q;
    }

group_of_refused : (c : Call) (r : Refusal) → groups_closed_by c (Refused r) ≡ []
group_of_refused Begin r = refl
group_of_refused (Do t op) r = refl
group_of_refused (Precommit t) r = refl
group_of_refused (Validate t) r = refl
group_of_refused (Settle t) r = refl
group_of_refused (Rollback t) r = refl
group_of_refused (Finish t) r = refl
group_of_refused (Trim m) r = refl
group_of_refused (Close fits g full) r = refl

pub chained_after_call : (opening : Map) (xs : List Step) (mark : ℕ) (gs : List Group) (s : State) (c : Call) (r : Result) → MayCome s c r → IsKept opening xs s → IsChained mark gs s → IsChained mark (gs ++ groups_closed_by c r) (after_call s c r)
chained_after_call opening xs mark gs s c Accepted m k h = chained_accepted opening xs mark gs s c m k h
chained_after_call opening xs mark gs s c (Refused r) m k h =
    subst (λ l. IsChained mark (gs ++ l) (after_refused s c r)) (sym (group_of_refused c r))
    (no_group mark gs s (after_refused s c r) (stays_after_call s c (Refused r) k.sound) (marks_refused s c r) h)

pub chained_after_run : (opening : Map) (xs : List Step) (mark : ℕ) (gs : List Group) (s : State) (cs : Run) → MayRun s cs → IsKept opening xs s → IsChained mark gs s → IsChained mark (gs ++ groups_of cs) (after_run s cs)
chained_after_run opening xs mark gs s [] m k h = subst (λ l. IsChained mark l s) (sym (append-nil gs)) h
chained_after_run opening xs mark gs s (c ∷ cs) m k h =
    subst (λ l. IsChained mark l (after_run (after_call s c.0 c.1) cs)) (append_assoc gs (groups_closed_by c.0 c.1) (groups_of cs))
    (chained_after_run opening (xs ++ steps_of s c.0 c.1) mark (gs ++ groups_closed_by c.0 c.1) (after_call s c.0 c.1) cs m.1 (kept_after_call opening xs s c.0 c.1 m.0 k) (chained_after_call opening xs mark gs s c.0 c.1 m.0 k h))

pub chained_opened : (rows : Map) (mark : ℕ) → IsChained mark [] (opened rows mark)
chained_opened rows mark = record { closed = record { drawn = omega arith; above = tt }; groups = refl }

-- the groups that a run closes: each begins at the mark of the one before, the first at the opening mark, and has the commits with a net write up to its own mark, then and ever after
pub groups_are_chained : (rows : Map) (mark : ℕ) (cs : Run) → MayRun (opened rows mark) cs → AreGroupsOf (after_run (opened rows mark) cs) mark (groups_of cs)
groups_are_chained rows mark cs m = (chained_after_run rows [] mark [] (opened rows mark) cs m (kept_opened rows mark) (chained_opened rows mark)).groups
