-- What is known with every ticket taken back and no job waiting.
use Rattle.std.proofs.Common.{◌≡◌, ◌++◌, List, [], true, ap, ◌∙◌, subst}
use Rattle.mvo_front.specs.Job.{JobData}
use Rattle.std.specs.Prelude.{MatchOption, None, Option, Some}
use Rattle.mvo_front.specs.declared.outcome.Outcome.{Outcome}
use Rattle.mvo_front.specs.declared.rule.Hand.{Hand}
use Rattle.mvo_front.specs.Outcomes.{AreOutcomes, AreRun}
use Rattle.mvo_front.specs.Queue.{AreAllTaken, HasPushed, hand}

pub at_none : {X : Type 0} (o : Option X) (P : Type 0) (Q : X → Type 0) → o ≡ None → MatchOption o P Q → P
at_none None P Q e m = m
at_none (Some x) P Q e m = absurd (cc)

pub gathered : (R : JobData → Outcome → Type 0) (t v : Hand) (os : List Outcome) → v.parts ≡ 1024 → v.pushes ≡ true → v.put ≡ t.put
    → AreOutcomes R os v.taken → AreAllTaken v → AreRun R t.put os
gathered R t v os whole may put same all = subst (λ ps. AreRun R ps os) put (v.taken, all may whole, same)

-- those that were pushed are all jobs
pub all_run : (R : JobData → Outcome → Type 0) (v w : Hand) (jobs : List JobData) (os : List Outcome) → HasPushed v jobs w
    → v ≡ hand true [] v.parts [] → AreRun R w.put os → AreRun R jobs os
all_run R v w jobs os pushed empty all =
    let put : w.put ≡ jobs = ap (λ (h : Hand). h.put) pushed ∙ ap (λ (h : Hand). h.put ++ jobs) empty in
    subst (λ ps. AreRun R ps os) put all
