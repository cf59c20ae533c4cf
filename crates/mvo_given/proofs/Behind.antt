-- The call of the whole state behind one there is the same one, unless that closes a group.
use Rattle.std.proofs.Common.{◌≡◌, [], refl, sym, ◌∙◌}
use Rattle.mvo_theory.specs.Calls.{Result}
use Rattle.mvo_theory.specs.Calls.Call.{Begin, Do, Precommit, Validate, Settle, Rollback, Finish, Trim, Close}
use Rattle.mvo_theory.specs.Calls.Result.{Accepted, Refused}
use Rattle.mvo_shadow.specs.Shadowed.{group_shadow}
use Rattle.mvo_readonly.specs.WholeCauses.{WholeCall}
use Rattle.mvo_readonly.specs.WholeCauses.WholeCall.{CoreCall, BeginReadOnly}
use Rattle.mvo_given.specs.WholeShadowed.{whole_shadow_call, whole_with_no_group, IsWholeCallBehind, ClosesNone}

plain : (call : WholeCall) → ClosesNone call → whole_with_no_group call ≡ call
plain BeginReadOnly n = refl
plain (CoreCall Begin) n = refl
plain (CoreCall (Do t op)) n = refl
plain (CoreCall (Precommit t)) n = refl
plain (CoreCall (Validate t)) n = refl
plain (CoreCall (Settle t)) n = refl
plain (CoreCall (Rollback t)) n = refl
plain (CoreCall (Finish t)) n = refl
plain (CoreCall (Trim m)) n = refl
plain (CoreCall (Close fits g full)) n = absurd (n fits g full refl)

accepted_same : (c call : WholeCall) → whole_shadow_call c ≡ call → ClosesNone call → c ≡ call
accepted_same BeginReadOnly call e n = e
accepted_same (CoreCall Begin) call e n = e
accepted_same (CoreCall (Do t op)) call e n = e
accepted_same (CoreCall (Precommit t)) call e n = e
accepted_same (CoreCall (Validate t)) call e n = e
accepted_same (CoreCall (Settle t)) call e n = e
accepted_same (CoreCall (Rollback t)) call e n = e
accepted_same (CoreCall (Finish t)) call e n = e
accepted_same (CoreCall (Trim m)) call e n = e
accepted_same (CoreCall (Close fits g full)) call e n = absurd (n fits (group_shadow g) full (sym e))

refused_same : (c call : WholeCall) → whole_with_no_group c ≡ call → ClosesNone call → c ≡ call
refused_same BeginReadOnly call e n = e
refused_same (CoreCall Begin) call e n = e
refused_same (CoreCall (Do t op)) call e n = e
refused_same (CoreCall (Precommit t)) call e n = e
refused_same (CoreCall (Validate t)) call e n = e
refused_same (CoreCall (Settle t)) call e n = e
refused_same (CoreCall (Rollback t)) call e n = e
refused_same (CoreCall (Finish t)) call e n = e
refused_same (CoreCall (Trim m)) call e n = e
refused_same (CoreCall (Close fits g full)) call e n = absurd (n fits (record { prev = 0; mark = 0; commits = [] }) full (sym e))

pub behind_same : (c call : WholeCall) (r : Result) → IsWholeCallBehind c r call → ClosesNone call → c ≡ call
behind_same c call Accepted e n = accepted_same c call e n
behind_same c call (Refused q) e n = refused_same c call (e ∙ plain call n) n
