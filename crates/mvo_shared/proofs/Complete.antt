-- Each key whose first write ended the row there is claimed: an answer keeps that.
use Rattle.std.proofs.Common.{◌≡◌, List, [], ◌∷◌, ◌++◌, refl, ◌⊎◌, inl, inr}
use Rattle.mvo_types.specs.declared.op.Op.{Op}
use Rattle.mvo_types.specs.AnswerData.{AnswerData}
use Rattle.mvo_theory.specs.State.{State, ActiveTx}
use Rattle.mvo_theory.specs.Claims.{ended_key, claims_with}
use Rattle.mvo_theory.proofs.ClaimSteps.{ended_push, still_claimed, now_claimed}
use Rattle.mvo_shared.specs.Standing.{AreComplete}

pub complete_answer : (s : State) (op : Op) (a : AnswerData) (r : ActiveTx) → AreComplete r.history r.claims → AreComplete (r.history ++ (op, a) ∷ []) (claims_with s r (ended_key op a))
complete_answer s op a r h q f = elim (ended_push q r.history op a f) [
  | inl old ↦ still_claimed s r (ended_key op a) q (h q old)
  | inr new ↦ now_claimed s op a r (ended_key op a) q refl new.2 new.0 new.1
]
