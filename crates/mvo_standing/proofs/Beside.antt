-- Works go on beside a state: from the opening on, and over each call.
use Rattle.std.proofs.Common.{◌≡◌, ◌≢◌, ℕ, ◌+◌, ◌<◌, ◌≤◌, Bool, true, false, cond, List, [], ◌∷◌, ◌++◌, append-nil, Option, None, Some, refl, sym, ap, ◌∙◌, subst, arith}
use Rattle.std.specs.Prelude.{◌==◌}
use Rattle.std.specs.List.{AllByRecursion}
use Rattle.std.proofs.lemmas.Bool.{eqb-true, ne_eqb}
use Rattle.mvo_types.specs.declared.op.Op.{Op}
use Rattle.mvo_types.specs.Keys.{Map}
use Rattle.mvo_model.specs.Trace.{Step}
use Rattle.mvo_theory.specs.State.{State, ActiveTx, active_of, opened}
use Rattle.mvo_theory.specs.Sound.{IsActive}
use Rattle.mvo_theory.specs.Calls.{Call, Result, MayCome, after_call, steps_of}
use Rattle.mvo_theory.specs.Calls.Call.{Begin, Do}
use Rattle.mvo_theory.specs.Calls.Result.{Accepted}
use Rattle.mvo_theory.proofs.Each.{each_weaker}
use Rattle.mvo_theory.proofs.Cases.{not_op}
use Rattle.mvo_theory.proofs.Who.{active_done, active_holds, id_of}
use Rattle.mvo_readonly.proofs.Flags.{run_clock}
use Rattle.mvo_shared.specs.Kept.{after_op}
use Rattle.mvo_shared.specs.Shared.{AllTaken, WorksById}
use Rattle.mvo_shared.specs.Given.{after_given}
use Rattle.mvo_shared.specs.Given.GivenResult.{Took}
use Rattle.mvo_shared.specs.GivenLaws.{opened_given}
use Rattle.mvo_shared.specs.Held.{empty_work, work_for, works_after}
use Rattle.mvo_shared.proofs.Works.{work_empty}
use Rattle.mvo_shadow.specs.Shadowed.{IsByWrites, shadow_call, shadow_result}
use Rattle.mvo_standing.specs.Together.{StandTogether}
use Rattle.mvo_standing.specs.Telling.{AreWorksWith}
use Rattle.mvo_standing.proofs.Together.{opens_together, call_goes_on}
use Rattle.mvo_standing.proofs.Telling.{goes_on_told, goes_on_begun, goes_on_without}
use Rattle.mvo_standing.specs.Beside.{WorksGoBeside, LeavesWorks, WasTold}

-- nothing is taken in
pub none_taken : AllTaken
none_taken = λ e. record { work = empty_work; checked = 0 }

pub opens_beside : (rows : Map) (mark : ℕ) → WorksGoBeside rows [] (opened rows mark) (λ t. empty_work)
opens_beside rows mark = record {
  given = opened_given rows mark none_taken;
  together = opens_together rows mark none_taken;
  fresh = λ t above. refl;
}

module _ (opening : Map) (steps : List Step) (s : State) (works : WorksById) (h : WorksGoBeside opening steps s works) where
  -- the clock never goes back
  clock_on : (call : Call) (r : Result) → MayCome s call r → s.clock ≤ (after_call s call r).clock
  clock_on call r may = run_clock opening steps s ((call, r) ∷ []) (may, tt) h.together.together.kept

  still_fresh : (call : Call) (r : Result) → MayCome s call r → (t : ℕ) → (after_call s call r).clock < t → works t ≡ empty_work
  still_fresh call r may t above = let on = clock_on call r may in h.fresh t (omega (arith, on, above))

  -- what a call may come to, it comes to there as well
  pub called_beside : (call : Call) (r : Result) → IsByWrites call → MayCome s call r → LeavesWorks call r → WorksGoBeside opening (steps ++ steps_of s call r) (after_call s call r) works
  called_beside call r by may leaves = record {
    given = after_given h.given (work_for works (shadow_call call)) (shadow_call call) (shadow_result r);
    together = subst (λ (ws : WorksById). StandTogether opening (steps ++ steps_of s call r) (after_call s call r) (after_given h.given (work_for works (shadow_call call)) (shadow_call call) (shadow_result r)) ws)
        (leaves h.given works) (call_goes_on opening steps s h.given works call r by may h.together).1;
    fresh = still_fresh call r may;
  }

  -- one that begins has done nothing
  pub begun_beside : MayCome s Begin Accepted → WorksGoBeside opening (steps ++ steps_of s Begin Accepted) (after_call s Begin Accepted) works
  begun_beside may = record {
    given = after_given h.given empty_work Begin Took;
    together = goes_on_begun opening steps s h.given works h.together works may.0 empty_there;
    fresh = still_fresh Begin Accepted may;
  } where
    empty_there : AreWorksWith works (s.clock + 1) empty_work works
    empty_there u = go (u == s.clock + 1) refl
      where
        go : (b : Bool) → (u == s.clock + 1) ≡ b → works u ≡ cond b empty_work (works u)
        go true e = h.fresh u (let is = eqb-true u (s.clock + 1) e in omega (arith, is))
        go false e = refl

  -- an operation is told to its work
  pub told_beside : (t : ℕ) (op : Op) (more : WorksById) → MayCome s (Do t op) Accepted → WasTold s works t op more → WorksGoBeside opening (steps ++ steps_of s (Do t op) Accepted) (after_call s (Do t op) Accepted) more
  told_beside t op more may w = record {
    given = after_given h.given (works t) (Do t op) Took;
    together = goes_on_told opening steps s h.given works h.together t op w.rows more may.0 w.come w.told;
    fresh = λ u above. w.told u ∙ ap (λ (b : Bool). cond b (after_op (works t) op w.rows) (works u)) (ne_eqb u t (λ e. later u above (e ∙ sym id))) ∙ still_fresh (Do t op) Accepted may u above;
  } where
    found : (r : ActiveTx) × (active_of t s.active ≡ Some r) × (r.aborted_dependency ≡ None) × (not_op s op r ≡ None)
    found = active_done s t op may.0

    id : found.0.id ≡ t
    id = id_of t s.active found.0 found.1

    drawn : found.0.id ≤ s.clock
    drawn = (active_holds (λ (r : ActiveTx). r.id ≤ s.clock) t s.active found.0 found.1
        (each_weaker (IsActive s.base s.stamped s.clock) (λ (r : ActiveTx). r.id ≤ s.clock) (λ r a. a.drawn) s.active h.together.together.kept.sound.active)).0

    later : (u : ℕ) → (after_call s (Do t op) Accepted).clock < u → u ≡ found.0.id → ⊥
    later u above e = let on = clock_on (Do t op) Accepted may in absurd (omega (arith, on, above, drawn, e))

  -- the work of one that isn't Active may be forgotten
  pub forgotten_beside : (more : WorksById) (t : ℕ) → AllByRecursion (λ r. r.id ≢ t) s.active → AreWorksWith works t empty_work more → WorksGoBeside opening steps s more
  forgotten_beside more t apart told = record {
    given = h.given;
    together = goes_on_without opening steps s h.given works h.together more t empty_work apart work_empty told;
    fresh = λ u above. told u ∙ go u above (u == t);
  } where
    go : (u : ℕ) → s.clock < u → (b : Bool) → cond b empty_work (works u) ≡ empty_work
    go u above true = refl
    go u above false = h.fresh u above
