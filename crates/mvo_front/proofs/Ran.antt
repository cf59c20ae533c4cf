-- Outcomes of the jobs that were taken.
use Rattle.std.proofs.Common.{◌≡◌, List, [], ◌∷◌, ◌++◌, ap, refl, subst, sym, ◌∙◌}
use Rattle.std.specs.Prelude.{ℕ, map}
use Rattle.std.proofs.lemmas.Slice.Zip.{all_zipped_more}
use Rattle.mvo_front.specs.Job.{JobData}
use Rattle.mvo_front.specs.declared.outcome.Outcome.{Outcome}
use Rattle.mvo_front.specs.declared.rule.Hand.{Hand}
use Rattle.mvo_front.specs.Outcomes.{AreOutcomes, IsOutcomeOf, IsRun}
use Rattle.mvo_front.specs.Queue.{Taken, Took, joined_hands}

-- the job that was taken was run
pub one_more : (R : JobData → Outcome → Type 0) (v w : Hand) (job : JobData) (before after : List Outcome)
    → Taken v job w → IsRun R before job after → AreOutcomes R before v.taken → AreOutcomes R after w.taken
one_more R v w job before after taken run each =
    let is : w.taken ≡ v.taken ++ (taken.0, job) ∷ [] = ap (λ (h : Hand). h.taken) taken.1 in
    let all = all_zipped_more (IsOutcomeOf R) v.taken before (taken.0, job) run.0 each (run.2, run.3) in
    subst (λ ts. AreOutcomes R after ts) (sym is) (subst (λ os. AreOutcomes R os (v.taken ++ (taken.0, job) ∷ [])) (sym run.1) all)

both : (R : JobData → Outcome → Type 0) (ts us : List Took) (os ps : List Outcome)
    → AreOutcomes R os ts → AreOutcomes R ps us → AreOutcomes R (os ++ ps) (ts ++ us)
both R [] us [] ps a b = b
both R [] us (o ∷ os) ps a b = absurd a
both R (t ∷ ts) us [] ps a b = absurd a
both R (t ∷ ts) us (o ∷ os) ps a b = (a.0, both R ts us os ps a.1 b)

-- the ticket of another came back, with what came of its jobs
pub joined : (R : JobData → Outcome → Type 0) (v w n : Hand) (os ps qs : List Outcome)
    → n ≡ joined_hands v w → qs ≡ os ++ ps → AreOutcomes R os v.taken → AreOutcomes R ps w.taken → AreOutcomes R qs n.taken
joined R v w n os ps qs is more a b =
    let is : n.taken ≡ v.taken ++ w.taken = ap (λ (h : Hand). h.taken) is in
    subst (λ ts. AreOutcomes R qs ts) (sym is) (subst (λ os. AreOutcomes R os (v.taken ++ w.taken)) (sym more) (both R v.taken w.taken os ps a b))

-- each has the number of its job
pub numbers_of : (R : JobData → Outcome → Type 0) (ts : List Took) (os : List Outcome)
    → AreOutcomes R os ts → map (λ (o : Outcome). o.number) os ≡ map (λ (t : Took). t.1.number) ts
numbers_of R [] [] a = refl
numbers_of R [] (o ∷ os) a = absurd a
numbers_of R (t ∷ ts) [] a = absurd a
numbers_of R (t ∷ ts) (o ∷ os) a = ap (λ (n : ℕ). n ∷ map (λ (o : Outcome). o.number) os) a.0.0 ∙ ap (λ (ns : List ℕ). t.1.number ∷ ns) (numbers_of R ts os a.1)
