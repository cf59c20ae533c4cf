-- A core that stands together with a whole state keeps what it keeps, over each call.
use Rattle.std.proofs.Common.{ℕ, List, ◌++◌}
use Rattle.mvo_types.specs.Keys.{Map}
use Rattle.mvo_model.specs.Trace.{Step}
use Rattle.mvo_theory.specs.Calls.{Call, Result, trace_of}
use Rattle.mvo_theory.specs.Calls.Call.{Begin, Do, Precommit, Validate, Settle, Rollback, Finish, Trim, Close}
use Rattle.mvo_shared.specs.Kept.{IsWork}
use Rattle.mvo_shared.specs.Shared.{WorksById}
use Rattle.mvo_shared.specs.Held.{work_for}
use Rattle.mvo_shared.proofs.Works.{work_empty}
use Rattle.mvo_shadow.specs.Shadowed.{shadow_call, shadow_result}
use Rattle.mvo_readonly.specs.Whole.{WholeState}
use Rattle.mvo_readonly.specs.WholeCauses.{WholeCall, MayComeWhole}
use Rattle.mvo_readonly.specs.WholeCauses.WholeCall.{CoreCall, BeginReadOnly}
use Rattle.mvo_readonly.specs.WholeCalls.{core_calls, steps_of_whole_call, after_whole_call}
use Rattle.mvo_given.specs.GivenWhole.{GivenWhole, MayComeGivenWhole}
use Rattle.mvo_given.specs.GivenCalls.{after_given_whole, work_for_whole, works_after_whole}
use Rattle.mvo_given.specs.WholeShadowed.{whole_shadow_call, IsWholeByWrites}
use Rattle.mvo_given.specs.Laws.{StandWholeTogether}
use Rattle.mvo_given.proofs.Together.{whole_goes}
use Rattle.mvo_given.proofs.HeldCalls.{whole_held_after}

work_of : (works : WorksById) → ((t : ℕ) → IsWork (works t)) → (c : Call) → IsWork (work_for works (shadow_call c))
work_of works a Begin = work_empty
work_of works a (Do t op) = a t
work_of works a (Precommit t) = a t
work_of works a (Validate t) = work_empty
work_of works a (Settle t) = work_empty
work_of works a (Rollback t) = work_empty
work_of works a (Finish t) = work_empty
work_of works a (Trim m) = work_empty
work_of works a (Close fits g full) = work_empty

whole_work_of : (works : WorksById) → ((t : ℕ) → IsWork (works t)) → (c : WholeCall) → IsWork (work_for_whole works (whole_shadow_call c))
whole_work_of works a BeginReadOnly = work_empty
whole_work_of works a (CoreCall c) = work_of works a c

pub whole_goes_on : (opening : Map) (ws xs : List Step) (w : WholeState) (g : GivenWhole) (works : WorksById) (c : WholeCall) (r : Result) → IsWholeByWrites c → MayComeWhole w c r → StandWholeTogether opening ws xs w g works
    → MayComeGivenWhole g (work_for_whole works (whole_shadow_call c)) (whole_shadow_call c) (shadow_result r)
    × StandWholeTogether opening (ws ++ steps_of_whole_call w c r) (xs ++ trace_of w.core (core_calls w c r)) (after_whole_call w c r) (after_given_whole g (work_for_whole works (whole_shadow_call c)) (whole_shadow_call c) (shadow_result r)) (works_after_whole g works (whole_shadow_call c) (shadow_result r))
whole_goes_on opening ws xs w g works c r b m h =
    let q = whole_goes opening ws xs w g works c r b m h.together in
    let call = whole_shadow_call c in (
      q.0,
      record { together = q.2; held = whole_held_after opening g (work_for_whole works call) call (shadow_result r) (whole_work_of works h.together.each c) q.0 h.held },
    )
