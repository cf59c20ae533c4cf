-- A core that is given works goes on with the state whose shadow it stands at.
use Rattle.std.proofs.Common.{ℕ, List, [], refl}
use Rattle.mvo_types.specs.Keys.{Map}
use Rattle.mvo_model.specs.Trace.{Step}
use Rattle.mvo_theory.specs.State.{State, opened}
use Rattle.mvo_theory.specs.Calls.{Call, Result, MayCome}
use Rattle.mvo_theory.proofs.Runs.{kept_opened, kept_after_call}
use Rattle.mvo_shared.specs.Shared.{AllTaken, WorksById}
use Rattle.mvo_shared.specs.Given.{GivenState, MayComeGiven}
use Rattle.mvo_shared.specs.GivenLaws.{opened_given}
use Rattle.mvo_shared.specs.Held.{empty_work, work_for}
use Rattle.mvo_shared.proofs.Works.{work_empty}
use Rattle.mvo_shared.proofs.GivenSteps.{held_after, held_opened}
use Rattle.mvo_shared.proofs.OwnCalls.{own_after, own_opened}
use Rattle.mvo_shadow.specs.Shadowed.{IsByWrites, shadow_call, shadow_result}
use Rattle.mvo_shadow.proofs.Runs.{call_goes, works_now, works_still}
use Rattle.mvo_standing.specs.Together.{StandTogether, StandTogetherAfter}

pub opens_together : (rows : Map) (mark : ℕ) (all : AllTaken) → StandTogether rows [] (opened rows mark) (opened_given rows mark all) (λ t. empty_work)
opens_together rows mark all = record {
  together = record {
    kept = kept_opened rows mark;
    held = held_opened rows mark all;
    own = own_opened rows mark all (λ t. empty_work);
    shadowed = record { state = refl; active = tt; taken = tt; checked = tt };
  };
  each = λ t. work_empty;
}

pub call_goes_on : (opening : Map) (steps : List Step) (s : State) (g : GivenState) (works : WorksById) (c : Call) (r : Result) → IsByWrites c → MayCome s c r → StandTogether opening steps s g works
    → MayComeGiven g (work_for works (shadow_call c)) (shadow_call c) (shadow_result r) × StandTogetherAfter opening steps s g works c r
call_goes_on opening steps s g works c r w m h =
    let call = shadow_call c in
    let result = shadow_result r in
    let q = call_goes opening steps s g works c r w m h.together in (
      q.0,
      record {
        together = record {
          kept = kept_after_call opening steps s c r m h.together.kept;
          held = held_after opening g (work_for works call) call result (works_now g works call h.each).0 q.0 h.together.held;
          own = own_after opening g works call result q.0 h.together.held h.together.own;
          shadowed = q.1;
        };
        each = works_still g works call result h.each;
      },
    )
