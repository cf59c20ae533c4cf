-- Lists of calls on a core that is given works which are all made on it, with its read-only
-- transactions.
use Rattle.std.specs.Prelude.{List, [], ◌∷◌, ⊤}
use Rattle.mvo_shared.specs.Shared.{WorksById}
use Rattle.mvo_shared.specs.Given.{GivenResult}
use Rattle.mvo_shadow.specs.Shadowed.{shadow_result}
use Rattle.mvo_readonly.specs.WholeCauses.{WholeCall}
use Rattle.mvo_readonly.specs.WholeCalls.{WholeRun}
use Rattle.mvo_given.specs.GivenWhole.{GivenWhole, MayComeGivenWhole}
use Rattle.mvo_given.specs.GivenCalls.{after_given_whole, work_for_whole, works_after_whole}
use Rattle.mvo_given.specs.WholeShadowed.{whole_shadow_call, IsWholeByWrites}

-- a call with what it came to
pub record OwnWholeCall : Type 0 where
  pub call : WholeCall
  pub result : GivenResult

abbrev pub whole_shadow_run : WholeRun → List OwnWholeCall
whole_shadow_run [] = []
whole_shadow_run (c ∷ cs) =
    (record { call = whole_shadow_call c.0; result = shadow_result c.1 }) ∷ whole_shadow_run cs

abbrev pub AreWholeByWrites : WholeRun → Type 0
AreWholeByWrites [] = ⊤
AreWholeByWrites (c ∷ cs) = IsWholeByWrites c.0 × AreWholeByWrites cs

-- the state and the works after calls
pub record OwnWholeState : Type 0 where
  pub given : GivenWhole
  pub works : WorksById

abbrev pub after_own_whole : OwnWholeState → OwnWholeCall → OwnWholeState
after_own_whole o c = record {
  given = after_given_whole o.given (work_for_whole o.works c.call) c.call c.result;
  works = works_after_whole o.given o.works c.call c.result;
}

abbrev pub after_own_whole_run : OwnWholeState → List OwnWholeCall → OwnWholeState
after_own_whole_run o [] = o
after_own_whole_run o (c ∷ cs) = after_own_whole_run (after_own_whole o c) cs

-- each call may come to what it came to
abbrev pub MayRunOwnWhole : OwnWholeState → List OwnWholeCall → Type 0
MayRunOwnWhole o [] = ⊤
MayRunOwnWhole o (c ∷ cs) =
    MayComeGivenWhole o.given (work_for_whole o.works c.call) c.call c.result
    × MayRunOwnWhole (after_own_whole o c) cs
