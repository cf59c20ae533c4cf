-- Whatever a core with works that were all made on it comes to, the theory may come to as well.
use Rattle.std.proofs.Common.{◌≡◌, ℕ, Bool, true, false, List, [], ◌∷◌, ◌++◌, Option, None, Some, map, length, refl, sym, ap, ◌∙◌, subst}
use Rattle.std.specs.Prelude.{take, drop}
use Rattle.std.specs.Option.{option_map}
use Rattle.std.proofs.lemmas.List.{length-map, map-append, take-map, take-append-drop}
use Rattle.std.proofs.Math.Seq.{take-append_seam}
use Rattle.mvo_types.specs.declared.refusal.Refusal.{Refusal}
use Rattle.mvo_types.specs.declared.refusal.Refusal.TheVariants.{OutOfMemory}
use Rattle.mvo_types.specs.Keys.{Map}
use Rattle.mvo_model.specs.Trace.{Step}
use Rattle.mvo_theory.specs.State.{State, opened}
use Rattle.mvo_theory.specs.Marks.{Commit, low_water}
use Rattle.mvo_theory.specs.Groups.{Limits, Group, due, IsFull, mark_by, IsNextGroup}
use Rattle.mvo_theory.specs.Calls.{Call, Result, Run, why_not, IsRefusal, after_call, steps_of, MayRun, after_run}
use Rattle.mvo_theory.specs.Calls.Call.{Begin, Do, Precommit, Validate, Settle, Rollback, Finish, Trim, Close}
use Rattle.mvo_theory.specs.Calls.Result.{Accepted, Refused}
use Rattle.mvo_theory.proofs.Runs.{kept_opened, kept_after_call}
use Rattle.mvo_shared.specs.Shared.{AllTaken, WorksById}
use Rattle.mvo_shared.specs.Shadow.{shadow}
use Rattle.mvo_shared.specs.Given.{GivenRefusal, GivenState, GivenResult, why_not_given, IsGivenRefusal, MayComeGiven, after_given}
use Rattle.mvo_shared.specs.Given.GivenRefusal.{Because, WorkMismatch}
use Rattle.mvo_shared.specs.Given.GivenResult.{Took, Denied}
use Rattle.mvo_shared.specs.GivenLaws.{opened_given}
use Rattle.mvo_shared.specs.Held.{empty_work, work_for, works_after, OwnCall, MayRunOwn}
use Rattle.mvo_shared.proofs.Works.{work_empty}
use Rattle.mvo_shared.proofs.GivenSteps.{held_after, held_opened}
use Rattle.mvo_shared.proofs.OwnRuns.{never_denied}
use Rattle.mvo_shared.proofs.OwnCalls.{own_after, own_opened}
use Rattle.mvo_shadow.specs.Shadowed.{IsShadowed, commit_shadow, group_shadow, GoByWrites, IsByWrites, shadow_call, IsTheoryCall, AreOwnByWrites, results_of, own_results_of, after_own_run}
use Rattle.mvo_shadow.specs.Laws.{GoTogether}
use Rattle.mvo_shadow.proofs.Finds.{low_water_alike}
use Rattle.mvo_shadow.proofs.Groups.{due_there, left_there, mark_there}
use Rattle.mvo_shadow.proofs.Runs.{AtShadow, at_shadow, given_is, at_there, causes_here, took_here, denied_here, AreWorks, works_now, works_still}

-- ---- causes
no_cause : (w : Option Refusal) → option_map Because w ≡ None → w ≡ None
no_cause None e = refl
no_cause (Some q) e = absurd (none (Because q) e)
  where
    none : (r : GivenRefusal) → ◌≡◌ {A = Option GivenRefusal} (Some r) None → ⊥
    none r f = cc

same_cause : (q r : Refusal) → ◌≡◌ {A = GivenRefusal} (Because q) (Because r) → q ≡ r
same_cause q r e = cc

refused_back : (takes : Bool) (why : Option Refusal) (r : Refusal) → IsGivenRefusal takes (option_map Because why) (Because r) → IsRefusal takes why r
refused_back takes (Some q) r e = same_cause r q e
refused_back true None r e = same_cause r OutOfMemory e
refused_back false None r e = e

-- ---- the group behind one
full_back : (fits : Limits) → GoByWrites fits → (taken left : List Commit) → IsFull fits (map {A = Commit} commit_shadow taken) (map {A = Commit} commit_shadow left) → IsFull fits taken left
full_back fits same taken [] h = tt
full_back fits same taken (c ∷ cs) h = sym (same (taken ++ c ∷ [])) ∙ ap fits (map-append commit_shadow taken (c ∷ [])) ∙ h

module _ (fits : Limits) (s : State) (g : Group) (same : GoByWrites fits) (h : IsNextGroup fits (shadow s) g) where
  abbrev taken : List Commit
  taken = take (length g.commits) (due s)

  abbrev behind : Group
  behind = record { prev = g.prev; mark = g.mark; commits = taken }

  commits_are : map {A = Commit} commit_shadow taken ≡ g.commits
  commits_are =
      sym (take-map commit_shadow (length g.commits) (due s))
      ∙ ap (take (length g.commits)) (sym (due_there s) ∙ sym h.longest.beginning)
      ∙ take-append_seam g.commits (drop (length g.commits) (due (shadow s)))

  many : length taken ≡ length g.commits
  many = sym (length-map taken commit_shadow) ∙ ap (λ (cs : List Commit). length cs) commits_are

  left_is : drop (length g.commits) (due (shadow s)) ≡ map {A = Commit} commit_shadow (drop (length taken) (due s))
  left_is = ap (λ (cs : List Commit). drop (length cs) (due (shadow s))) (sym commits_are) ∙ ap (drop (length (map {A = Commit} commit_shadow taken))) (due_there s) ∙ left_there taken (due s)

  group_is : group_shadow behind ≡ g
  group_is = ap (λ (cs : List Commit). record { prev = g.prev; mark = g.mark; commits = cs }) commits_are

  next_back : IsNextGroup fits s behind
  next_back = record {
    prev = h.prev;
    longest = record {
      beginning = ap (λ (n : ℕ). taken ++ drop n (due s)) many ∙ take-append-drop (length g.commits) (due s);
      within = sym (same taken) ∙ ap fits commits_are ∙ h.longest.within;
      full = full_back fits same taken (drop (length taken) (due s)) (subst (λ cs. IsFull fits cs (map {A = Commit} commit_shadow (drop (length taken) (due s)))) (sym commits_are) (subst (IsFull fits g.commits) left_is h.longest.full));
    };
    mark =
        h.mark ∙ ap (λ (n : ℕ). mark_by n s.marks.closed g.commits (drop (length g.commits) (due (shadow s)))) (low_water_alike s)
        ∙ ap (mark_by (low_water s) s.marks.closed g.commits) left_is
        ∙ ap (λ cs. mark_by (low_water s) s.marks.closed cs (map {A = Commit} commit_shadow (drop (length taken) (due s)))) (sym commits_are)
        ∙ mark_there (low_water s) s.marks.closed taken (drop (length taken) (due s));
  }

abbrev no_group : Group
no_group = record { prev = 0; mark = 0; commits = [] }

module _ (s : State) (all : AllTaken) (works : WorksById) (h : AtShadow s all works) where
  abbrev IsOne : Call → GivenResult → Type 0
  IsOne call result = (c : Call) × (r : Result) × IsTheoryCall s (at_shadow s all) works call result c r

  none_back : (c : Call) → why_not_given (at_shadow s all) (work_for works (shadow_call c)) (shadow_call c) ≡ None → why_not s c ≡ None
  none_back c e = no_cause (why_not s c) (sym (causes_here s all works h c) ∙ e)

  cause_back : (c : Call) (r : Refusal) (takes : Bool) → IsGivenRefusal takes (why_not_given (at_shadow s all) (work_for works (shadow_call c)) (shadow_call c)) (Because r) → IsRefusal takes (why_not s c) r
  cause_back c r takes m = refused_back takes (why_not s c) r (subst (λ v. IsGivenRefusal takes v (Because r)) (causes_here s all works h c) m)

  took_back : (call : Call) → IsByWrites call → MayComeGiven (at_shadow s all) (work_for works call) call Took → IsOne call Took
  took_back Begin w m = let n = none_back Begin m.0 in (Begin, Accepted, record { may = (n, tt); same = refl; outcome = refl; shadowed = took_here s all works h Begin n })
  took_back (Do t op) w m = let n = none_back (Do t op) m.0 in (Do t op, Accepted, record { may = (n, tt); same = refl; outcome = refl; shadowed = took_here s all works h (Do t op) n })
  took_back (Precommit t) w m = let n = none_back (Precommit t) m.0 in (Precommit t, Accepted, record { may = (n, tt); same = refl; outcome = refl; shadowed = took_here s all works h (Precommit t) n })
  took_back (Validate t) w m = let n = none_back (Validate t) m.0 in (Validate t, Accepted, record { may = (n, tt); same = refl; outcome = refl; shadowed = took_here s all works h (Validate t) n })
  took_back (Settle t) w m = let n = none_back (Settle t) m.0 in (Settle t, Accepted, record { may = (n, tt); same = refl; outcome = refl; shadowed = took_here s all works h (Settle t) n })
  took_back (Rollback t) w m = let n = none_back (Rollback t) m.0 in (Rollback t, Accepted, record { may = (n, tt); same = refl; outcome = refl; shadowed = took_here s all works h (Rollback t) n })
  took_back (Finish t) w m = let n = none_back (Finish t) m.0 in (Finish t, Accepted, record { may = (n, tt); same = refl; outcome = refl; shadowed = took_here s all works h (Finish t) n })
  took_back (Trim k) w m = let n = none_back (Trim k) m.0 in (Trim k, Accepted, record { may = (n, tt); same = refl; outcome = refl; shadowed = took_here s all works h (Trim k) n })
  took_back (Close fits g full) w m =
      let c = Close fits (behind fits s g w m.1) full in
      let n = none_back c m.0 in (
        c,
        Accepted,
        record { may = (n, next_back fits s g w m.1); same = ap (λ (q : Group). Close fits q full) (group_is fits s g w m.1); outcome = refl; shadowed = took_here s all works h c n },
      )

  denied_back : (call : Call) (r : Refusal) → MayComeGiven (at_shadow s all) (work_for works call) call (Denied (Because r)) → IsOne call (Denied (Because r))
  denied_back Begin r m = (Begin, Refused r, record { may = cause_back Begin r true m; same = refl; outcome = refl; shadowed = denied_here s all works h Begin r })
  denied_back (Do t op) r m = (Do t op, Refused r, record { may = cause_back (Do t op) r true m; same = refl; outcome = refl; shadowed = denied_here s all works h (Do t op) r })
  denied_back (Precommit t) r m = (Precommit t, Refused r, record { may = cause_back (Precommit t) r true m; same = refl; outcome = refl; shadowed = denied_here s all works h (Precommit t) r })
  denied_back (Validate t) r m = (Validate t, Refused r, record { may = cause_back (Validate t) r false m; same = refl; outcome = refl; shadowed = denied_here s all works h (Validate t) r })
  denied_back (Settle t) r m = (Settle t, Refused r, record { may = cause_back (Settle t) r false m; same = refl; outcome = refl; shadowed = denied_here s all works h (Settle t) r })
  denied_back (Rollback t) r m = (Rollback t, Refused r, record { may = cause_back (Rollback t) r false m; same = refl; outcome = refl; shadowed = denied_here s all works h (Rollback t) r })
  denied_back (Finish t) r m = (Finish t, Refused r, record { may = cause_back (Finish t) r false m; same = refl; outcome = refl; shadowed = denied_here s all works h (Finish t) r })
  denied_back (Trim k) r m = (Trim k, Refused r, record { may = cause_back (Trim k) r true m; same = refl; outcome = refl; shadowed = denied_here s all works h (Trim k) r })
  denied_back (Close fits g full) r m =
      let c = Close fits no_group full in (c, Refused r, record { may = cause_back c r true m; same = refl; outcome = refl; shadowed = denied_here s all works h c r })

  one_back : (call : Call) (result : GivenResult) → IsByWrites call → MayComeGiven (at_shadow s all) (work_for works call) call result → IsOne call result
  one_back call Took w m = took_back call w m
  one_back call (Denied (Because r)) w m = denied_back call r m
  one_back call (Denied WorkMismatch) w m = absurd (never_denied (at_shadow s all) works call h.own m)

-- ---- each call
pub call_is_one : (opening : Map) (steps : List Step) (s : State) (g : GivenState) (works : WorksById) (call : Call) (result : GivenResult) → IsByWrites call → MayComeGiven g (work_for works call) call result → GoTogether opening steps s g works
    → (c : Call) × (r : Result) × IsTheoryCall s g works call result c r
call_is_one opening steps s g works call result w m h =
    let a = at_there opening steps s g works h in
    let is = given_is s g works h.shadowed in
    subst (λ (q : GivenState). (c : Call) × (r : Result) × IsTheoryCall s q works call result c r) is
    (one_back s g.taken works a call result w (subst (λ (q : GivenState). MayComeGiven q (work_for works call) call result) (sym is) m))

-- ---- each list of calls
abbrev IsRunBehind : State → GivenState → WorksById → List OwnCall → Type 0
IsRunBehind s g works cs = (run : Run) × MayRun s run × (results_of run ≡ own_results_of cs) × IsShadowed (after_run s run) (after_own_run (record { given = g; works = works }) cs).given (after_own_run (record { given = g; works = works }) cs).works

run_is_one : (opening : Map) (steps : List Step) (s : State) (g : GivenState) (works : WorksById) (cs : List OwnCall) → AreOwnByWrites cs → MayRunOwn g works cs → AreWorks works → GoTogether opening steps s g works → IsRunBehind s g works cs
run_is_one opening steps s g works [] w m a h = ([], tt, refl, h.shadowed)
run_is_one opening steps s g works (o ∷ cs) w m a h =
    let q = call_is_one opening steps s g works o.call o.result w.0 m.0 h in
    let rest = run_is_one opening (steps ++ steps_of s q.0 q.1) (after_call s q.0 q.1) (after_given g (work_for works o.call) o.call o.result) (works_after g works o.call o.result) cs w.1 m.1 (works_still g works o.call o.result a) (record {
      kept = kept_after_call opening steps s q.0 q.1 q.2.may h.kept;
      held = held_after opening g (work_for works o.call) o.call o.result (works_now g works o.call a).0 m.0 h.held;
      own = own_after opening g works o.call o.result m.0 h.held h.own;
      shadowed = q.2.shadowed;
    }) in
    ((q.0, q.1) ∷ rest.0, (q.2.may, rest.1), ap (λ r. r ∷ results_of rest.0) q.2.outcome ∙ ap (λ rs. o.result ∷ rs) rest.2, rest.3)

pub runs_are_ones : (rows : Map) (mark : ℕ) (all : AllTaken) (cs : List OwnCall) → AreOwnByWrites cs → MayRunOwn (opened_given rows mark all) (λ t. empty_work) cs → IsRunBehind (opened rows mark) (opened_given rows mark all) (λ t. empty_work) cs
runs_are_ones rows mark all cs w m = run_is_one rows [] (opened rows mark) (opened_given rows mark all) (λ t. empty_work) cs w m (λ n. work_empty) (record {
  kept = kept_opened rows mark;
  held = held_opened rows mark all;
  own = own_opened rows mark all (λ t. empty_work);
  shadowed = record { state = refl; active = tt; taken = tt; checked = tt };
})
