-- Call by call, a core with works that were all made on it goes over the shadows of the states of the theory.
use Rattle.std.proofs.Common.{◌≡◌, ℕ, ◌+◌, Bool, true, false, cond, List, [], ◌∷◌, ◌++◌, Option, None, Some, length, refl, sym, ap, ◌∙◌, subst}
use Rattle.std.specs.Prelude.{◌==◌, nat_le}
use Rattle.std.specs.List.{AllByRecursion}
use Rattle.std.specs.Option.{option_map}
use Rattle.std.proofs.lemmas.List.{length-map}
use Rattle.mvo_types.specs.declared.entry.Entry.{Entry}
use Rattle.mvo_types.specs.declared.refusal.Refusal.{Refusal}
use Rattle.mvo_types.specs.Keys.{Map}
use Rattle.mvo_model.specs.Trace.{Step}
use Rattle.mvo_theory.specs.Entries.{entries}
use Rattle.mvo_theory.specs.State.{State, ActiveTx, StampedTx, opened, preparing_of}
use Rattle.mvo_theory.specs.Changes.{after_check}
use Rattle.mvo_theory.specs.Steps.{after_precommit_of, after_validate_of, after_validate, after_refusal}
use Rattle.mvo_theory.specs.Sound.{IsSound, IsRising, IsNumbered}
use Rattle.mvo_theory.specs.Calls.{Call, Result, Run, why_not, takes_memory, IsRefusal, IsCallInOrder, MayCome, answer_in, after_accepted, after_refused, after_call, steps_of, MayRun, after_run}
use Rattle.mvo_theory.specs.Calls.Call.{Begin, Do, Precommit, Validate, Settle, Rollback, Finish, Trim, Close}
use Rattle.mvo_theory.specs.Calls.Result.{Accepted, Refused}
use Rattle.mvo_theory.proofs.Each.{each_weaker}
use Rattle.mvo_theory.proofs.Who.{active_done, active_after_prepare, preparing_after_check}
use Rattle.mvo_theory.proofs.Commits.{split_at}
use Rattle.mvo_theory.proofs.OriginEnds.{alone_at}
use Rattle.mvo_theory.proofs.Runs.{kept_opened, kept_after_call}
use Rattle.mvo_shared.specs.Kept.{Looked, WorkContent, IsWork, after_op}
use Rattle.mvo_shared.specs.Shared.{AllTaken, looked_of, with_taken, WorksById, AreOwnWorks, with_work, after_valid}
use Rattle.mvo_shared.specs.Shadow.{stamped_shadow, shadow}
use Rattle.mvo_shared.specs.Given.{GivenState, GivenResult, why_not_given, IsGivenRefusal, MayComeGiven, rows_to, one_more_checked, is_last_look, after_check_given, with_new_state, after_took, after_given}
use Rattle.mvo_shared.specs.Given.GivenRefusal.{Because}
use Rattle.mvo_shared.specs.Given.GivenResult.{Took, Denied}
use Rattle.mvo_shared.specs.GivenLaws.{opened_given}
use Rattle.mvo_shared.specs.Held.{empty_work, work_for, works_after_took, works_after, MayRunOwn}
use Rattle.mvo_shared.proofs.Shadow.{begin_shadow, trim_shadow}
use Rattle.mvo_shared.proofs.Works.{work_empty, work_after_op}
use Rattle.mvo_shared.proofs.GivenSteps.{held_after, held_opened}
use Rattle.mvo_shared.proofs.OwnCalls.{own_after, own_opened}
use Rattle.mvo_shadow.specs.Shadowed.{IsShadowed, IsByWrites, shadow_call, shadow_result, AreByWrites, shadow_run, after_own_run}
use Rattle.mvo_shadow.specs.Laws.{GoTogether}
use Rattle.mvo_shadow.proofs.Finds.{preparing_there, answer_alike}
use Rattle.mvo_shadow.proofs.Causes.{entries_are, work_of_active, preparing_holds, told_alike, causes_alike}
use Rattle.mvo_shadow.proofs.States.{do_state, precommit_state, last_state, check_state, settle_state, abort_state, refusal_state, finish_state}
use Rattle.mvo_shadow.proofs.Groups.{next_there}
use Rattle.mvo_shadow.proofs.Held.{IsIn, IsCounted, AreHeld, held_begun, held_answered, held_prepared, held_checked, held_settled, held_aborted, held_failed, held_finished, held_trimmed}

-- ---- what stands together, at the shadow itself
pub record AtShadow (s : State) (all : AllTaken) (works : WorksById) : Type 0 where
  pub sound : IsSound s
  pub numbered : IsNumbered (shadow s)
  pub own : AreOwnWorks (shadow s) all works
  pub held : AreHeld s all works

abbrev pub at_shadow : State → AllTaken → GivenState
at_shadow s all = record { state = shadow s; taken = all }

pub given_is : (s : State) (g : GivenState) (works : WorksById) → IsShadowed s g works → at_shadow s g.taken ≡ g
given_is s g works h = ap (λ (q : State). record { state = q; taken = g.taken }) (sym h.state)

pub at_there : (opening : Map) (steps : List Step) (s : State) (g : GivenState) (works : WorksById) → GoTogether opening steps s g works → AtShadow s g.taken works
at_there opening steps s g works h = record {
  sound = h.kept.sound;
  numbered = subst IsNumbered h.shadowed.state h.held.standing.numbered;
  own = subst (λ (q : State). AreOwnWorks q g.taken works) h.shadowed.state h.own;
  held = record { active = h.shadowed.active; taken = h.shadowed.taken; checked = h.shadowed.checked };
}

pub shadowed_by : (s : State) (all : AllTaken) (works : WorksById) (q : State) → q ≡ shadow s → AreHeld s all works → IsShadowed s (record { state = q; taken = all }) works
shadowed_by s all works q e h = record { state = e; active = h.active; taken = h.taken; checked = h.checked }

module _ (s : State) (all : AllTaken) (works : WorksById) (h : AtShadow s all works) where
  pub causes_here : (c : Call) → why_not_given (at_shadow s all) (work_for works (shadow_call c)) (shadow_call c) ≡ option_map Because (why_not s c)
  causes_here c = causes_alike s all works h.numbered h.own h.held.active h.held.taken h.held.checked c

  -- ---- a check
  -- the last one by the work is the last one by the history
  last_alike : (x : StampedTx) → IsIn all x → (all x.end).checked ≡ x.checked → is_last_look (all x.end) ≡ nat_le (length (entries x.history)) (x.checked + 1)
  last_alike x w c =
      ap (λ (n : ℕ). nat_le n ((all x.end).checked + 1)) (sym (length-map (looked_of (all x.end)) (λ (l : Looked). l.entry)) ∙ ap (λ (es : List Entry). length es) (entries_are x.history (all x.end).work w))
      ∙ ap (λ (n : ℕ). nat_le (length (entries x.history)) (n + 1)) c

  checked_here : (x : StampedTx) → IsIn all x → (all x.end).checked ≡ x.checked → AllByRecursion (λ y. y.end ≡ x.end → y.valid ≡ x.valid) s.stamped
      → IsShadowed (after_validate_of s (Some x)) (after_check_given (at_shadow s all) (Some (stamped_shadow x))) works
  checked_here x w c alone = go x.valid refl
    where
      go : (v : Bool) → x.valid ≡ v → IsShadowed (cond v s (after_check s x.end (nat_le (length (entries x.history)) (x.checked + 1)))) (cond v (at_shadow s all) (record { state = cond (is_last_look (all x.end)) (after_valid (shadow s) x.end) (shadow s); taken = one_more_checked all x.end })) works
      go true e = shadowed_by s all works (shadow s) refl h.held
      go false e = subst (λ (b : Bool). IsShadowed (after_check s x.end b) (record { state = cond (is_last_look (all x.end)) (after_valid (shadow s) x.end) (shadow s); taken = one_more_checked all x.end }) works) (last_alike x w c) (last (is_last_look (all x.end)))
        where
          last : (b : Bool) → IsShadowed (after_check s x.end b) (record { state = cond b (after_valid (shadow s) x.end) (shadow s); taken = one_more_checked all x.end }) works
          last true = shadowed_by (after_check s x.end true) (one_more_checked all x.end) works (after_valid (shadow s) x.end) (last_state s x.end) (held_checked s all works x.end true h.held)
          last false = shadowed_by (after_check s x.end false) (one_more_checked all x.end) works (shadow s)
              (check_state s x.end (each_weaker (λ (y : StampedTx). y.end ≡ x.end → y.valid ≡ x.valid) (λ (y : StampedTx). y.end ≡ x.end → y.valid ≡ false) (λ y q i. q i ∙ e) s.stamped alone)) (held_checked s all works x.end false h.held)

  alone_there : (t : ℕ) (x : StampedTx) → preparing_of t s.stamped ≡ Some x → AllByRecursion (λ y. y.end ≡ x.end → y.valid ≡ x.valid) s.stamped
  alone_there t x f = let p = split_at t s.stamped x f in subst (AllByRecursion (λ y. y.end ≡ x.end → y.valid ≡ x.valid)) (sym p.2) (alone_at p.0 p.1 x (subst IsRising p.2 h.sound.rising) (λ y. y.valid ≡ x.valid) refl)

  -- ---- an accepted call
  pub took_here : (c : Call) → why_not s c ≡ None → IsShadowed (after_accepted s c) (after_took (at_shadow s all) (work_for works (shadow_call c)) (shadow_call c)) (works_after_took (at_shadow s all) works (shadow_call c))
  took_here Begin n = shadowed_by (after_accepted s Begin) all (with_work works (s.clock + 1) empty_work) _ (sym (begin_shadow s (s.clock + 1))) (held_begun s all works h.sound h.held)
  took_here (Do t op) n =
      let f = active_done s t op n in
      let told = told_alike s all works h.numbered h.own h.held.active h.held.taken h.held.checked t op f.0 f.1 f.2 in
      shadowed_by (after_accepted s (Do t op)) all (with_work works t (after_op (works t) op (rows_to (shadow s) t op))) _ (do_state s t (works t) op told)
      (held_answered s all works t op (answer_in s t op) (told ∙ answer_alike s t op) h.held)
  took_here (Precommit t) n =
      let f = active_after_prepare s t n in
      shadowed_by (after_accepted s (Precommit t)) (with_taken all (s.clock + 1) (record { work = works t; checked = 0 })) works _ (precommit_state s t)
      (subst (λ (v : Option ActiveTx). AreHeld (after_precommit_of s v) (with_taken all (s.clock + 1) (record { work = works t; checked = 0 })) works) (sym f.1)
      (held_prepared s all works t f.0 (work_of_active s works t f.0 f.1 h.held.active) h.sound h.held))
  took_here (Validate t) n =
      let f = preparing_after_check s t n in
      let w = preparing_holds (IsIn all) t s.stamped f.0 f.1 h.held.taken in
      let k = preparing_holds (IsCounted all) t s.stamped f.0 f.1 h.held.checked in
      subst (λ v. IsShadowed (after_validate s t) (after_check_given (at_shadow s all) v) works) (sym (preparing_there t s.stamped))
      (subst (λ (v : Option StampedTx). IsShadowed (after_validate_of s v) (after_check_given (at_shadow s all) (option_map stamped_shadow v)) works) (sym f.1)
      (checked_here f.0 w.0 (k.0 k.1) (alone_there t f.0 f.1)))
  took_here (Settle t) n = shadowed_by (after_accepted s (Settle t)) all works _ (settle_state s t) (held_settled s all works t h.held)
  took_here (Rollback t) n = shadowed_by (after_accepted s (Rollback t)) all works _ (abort_state s t) (held_aborted s all works t h.held)
  took_here (Finish t) n = shadowed_by (after_accepted s (Finish t)) all works _ (finish_state s t) (held_finished s all works t h.held)
  took_here (Trim m) n = shadowed_by (after_accepted s (Trim m)) all works _ (sym (trim_shadow s m)) (held_trimmed s all works m h.held)
  took_here (Close fits g full) n = shadowed_by (after_accepted s (Close fits g full)) all works _ refl (record { active = h.held.active; taken = h.held.taken; checked = h.held.checked })

  -- ---- a refused one
  failed_here : (t : ℕ) (r : Refusal) → IsShadowed (after_refusal s t r) (record { state = after_refusal (shadow s) t r; taken = all }) works
  failed_here t r = shadowed_by (after_refusal s t r) all works _ (refusal_state s t r) (held_failed s all works t r h.held)

  pub denied_here : (c : Call) (r : Refusal) → IsShadowed (after_refused s c r) (with_new_state (at_shadow s all) (after_refused (shadow s) (shadow_call c) r)) works
  denied_here Begin r = shadowed_by s all works (shadow s) refl h.held
  denied_here (Do t op) r = failed_here t r
  denied_here (Precommit t) r = failed_here t r
  denied_here (Validate t) r = failed_here t r
  denied_here (Settle t) r = failed_here t r
  denied_here (Rollback t) r = shadowed_by s all works (shadow s) refl h.held
  denied_here (Finish t) r = shadowed_by s all works (shadow s) refl h.held
  denied_here (Trim m) r = shadowed_by s all works (shadow s) refl h.held
  denied_here (Close fits g full) r = shadowed_by s all works (shadow s) refl h.held

  -- ---- what a call may come to
  refused_there : (takes : Bool) (why : Option Refusal) (r : Refusal) → IsRefusal takes why r → IsGivenRefusal takes (option_map Because why) (Because r)
  refused_there takes (Some q) r e = ap Because e
  refused_there true None r e = ap Because e
  refused_there false None r e = e

  takes_alike : (c : Call) → takes_memory (shadow_call c) ≡ takes_memory c
  takes_alike Begin = refl
  takes_alike (Do t op) = refl
  takes_alike (Precommit t) = refl
  takes_alike (Validate t) = refl
  takes_alike (Settle t) = refl
  takes_alike (Rollback t) = refl
  takes_alike (Finish t) = refl
  takes_alike (Trim m) = refl
  takes_alike (Close fits g full) = refl

  order_there : (c : Call) → IsByWrites c → IsCallInOrder s c → IsCallInOrder (shadow s) (shadow_call c)
  order_there Begin w o = tt
  order_there (Do t op) w o = tt
  order_there (Precommit t) w o = tt
  order_there (Validate t) w o = tt
  order_there (Settle t) w o = tt
  order_there (Rollback t) w o = tt
  order_there (Finish t) w o = tt
  order_there (Trim m) w o = tt
  order_there (Close fits g full) w o = next_there fits s g w o

  comes_here : (c : Call) (r : Result) → IsByWrites c → MayCome s c r → MayComeGiven (at_shadow s all) (work_for works (shadow_call c)) (shadow_call c) (shadow_result r)
  comes_here c Accepted w m = (causes_here c ∙ ap (option_map Because) m.0, order_there c w m.1)
  comes_here c (Refused r) w m =
      subst (λ (b : Bool). IsGivenRefusal b (why_not_given (at_shadow s all) (work_for works (shadow_call c)) (shadow_call c)) (Because r)) (sym (takes_alike c))
      (subst (λ v. IsGivenRefusal (takes_memory c) v (Because r)) (sym (causes_here c)) (refused_there (takes_memory c) (why_not s c) r m))

  goes_here : (c : Call) (r : Result) → MayCome s c r → IsShadowed (after_call s c r) (after_given (at_shadow s all) (work_for works (shadow_call c)) (shadow_call c) (shadow_result r)) (works_after (at_shadow s all) works (shadow_call c) (shadow_result r))
  goes_here c Accepted m = took_here c m.0
  goes_here c (Refused r) m = denied_here c r

-- ---- each call
pub causes_go : (opening : Map) (steps : List Step) (s : State) (g : GivenState) (works : WorksById) (c : Call) → GoTogether opening steps s g works → why_not_given g (work_for works (shadow_call c)) (shadow_call c) ≡ option_map Because (why_not s c)
causes_go opening steps s g works c h = subst (λ (q : GivenState). why_not_given q (work_for works (shadow_call c)) (shadow_call c) ≡ option_map Because (why_not s c)) (given_is s g works h.shadowed) (causes_here s g.taken works (at_there opening steps s g works h) c)

pub call_goes : (opening : Map) (steps : List Step) (s : State) (g : GivenState) (works : WorksById) (c : Call) (r : Result) → IsByWrites c → MayCome s c r → GoTogether opening steps s g works
    → MayComeGiven g (work_for works (shadow_call c)) (shadow_call c) (shadow_result r)
    × IsShadowed (after_call s c r) (after_given g (work_for works (shadow_call c)) (shadow_call c) (shadow_result r)) (works_after g works (shadow_call c) (shadow_result r))
call_goes opening steps s g works c r w m h =
    let a = at_there opening steps s g works h in
    subst (λ (q : GivenState). MayComeGiven q (work_for works (shadow_call c)) (shadow_call c) (shadow_result r)
    × IsShadowed (after_call s c r) (after_given q (work_for works (shadow_call c)) (shadow_call c) (shadow_result r)) (works_after q works (shadow_call c) (shadow_result r)))
    (given_is s g works h.shadowed) (comes_here s g.taken works a c r w m, goes_here s g.taken works a c r m)

-- ---- each list of calls
abbrev pub AreWorks : WorksById → Type 0
AreWorks works = (n : ℕ) → IsWork (works n)

works_with : (works : WorksById) (t : ℕ) (w : WorkContent) → IsWork w → AreWorks works → AreWorks (with_work works t w)
works_with works t w h a n = go (n == t)
  where
    go : (b : Bool) → IsWork (cond b w (works n))
    go true = h
    go false = a n

pub works_now : (g : GivenState) (works : WorksById) (c : Call) → AreWorks works → IsWork (work_for works c) × AreWorks (works_after_took g works c)
works_now g works Begin a = (work_empty, works_with works (g.state.clock + 1) empty_work work_empty a)
works_now g works (Do t op) a = (a t, works_with works t (after_op (works t) op (rows_to g.state t op)) (work_after_op (works t) op (rows_to g.state t op) (a t)) a)
works_now g works (Precommit t) a = (a t, a)
works_now g works (Validate t) a = (work_empty, a)
works_now g works (Settle t) a = (work_empty, a)
works_now g works (Rollback t) a = (work_empty, a)
works_now g works (Finish t) a = (work_empty, a)
works_now g works (Trim m) a = (work_empty, a)
works_now g works (Close fits group full) a = (work_empty, a)

pub works_still : (g : GivenState) (works : WorksById) (c : Call) (r : GivenResult) → AreWorks works → AreWorks (works_after g works c r)
works_still g works c Took a = (works_now g works c a).1
works_still g works c (Denied r) a = a

run_goes : (opening : Map) (steps : List Step) (s : State) (g : GivenState) (works : WorksById) (cs : Run) → AreByWrites cs → MayRun s cs → AreWorks works → GoTogether opening steps s g works
    → MayRunOwn g works (shadow_run cs) × IsShadowed (after_run s cs) (after_own_run (record { given = g; works = works }) (shadow_run cs)).given (after_own_run (record { given = g; works = works }) (shadow_run cs)).works
run_goes opening steps s g works [] w m a h = (tt, h.shadowed)
run_goes opening steps s g works (c ∷ cs) w m a h =
    let call = shadow_call c.0 in
    let result = shadow_result c.1 in
    let q = call_goes opening steps s g works c.0 c.1 w.0 m.0 h in
    let rest = run_goes opening (steps ++ steps_of s c.0 c.1) (after_call s c.0 c.1) (after_given g (work_for works call) call result) (works_after g works call result) cs w.1 m.1 (works_still g works call result a) (record {
      kept = kept_after_call opening steps s c.0 c.1 m.0 h.kept;
      held = held_after opening g (work_for works call) call result (works_now g works call a).0 q.0 h.held;
      own = own_after opening g works call result q.0 h.held h.own;
      shadowed = q.1;
    }) in
    ((q.0, rest.0), rest.1)

pub runs_go : (rows : Map) (mark : ℕ) (all : AllTaken) (cs : Run) → AreByWrites cs → MayRun (opened rows mark) cs
    → MayRunOwn (opened_given rows mark all) (λ t. empty_work) (shadow_run cs)
    × IsShadowed (after_run (opened rows mark) cs) (after_own_run (record { given = opened_given rows mark all; works = λ t. empty_work }) (shadow_run cs)).given
    (after_own_run (record { given = opened_given rows mark all; works = λ t. empty_work }) (shadow_run cs)).works
runs_go rows mark all cs w m = run_goes rows [] (opened rows mark) (opened_given rows mark all) (λ t. empty_work) cs w m (λ n. work_empty) (record {
  kept = kept_opened rows mark;
  held = held_opened rows mark all;
  own = own_opened rows mark all (λ t. empty_work);
  shadowed = record { state = refl; active = tt; taken = tt; checked = tt };
})
