-- What workers answer.
use Rattle.std.specs.Prelude.{◌≡◌, ◌==◌, ℕ, List, [], ◌∷◌, ◌++◌, count_by}
use Rattle.std.specs.List.{AllZip}
use Rattle.mvo_front.specs.Job.{JobData}
use Rattle.mvo_front.specs.Queue.{IsServed, Took}
use Rattle.mvo_front.specs.declared.outcome.Outcome.{Outcome}

-- what the running of the job that was taken came to, with its number
abbrev pub IsOutcomeOf : (JobData → Outcome → Type 0) → Took → Outcome → Type 0
IsOutcomeOf comes_to t o = (o.number ≡ t.1.number) × comes_to t.1 o

-- one outcome for each job that was taken, in order
abbrev pub AreOutcomes : (JobData → Outcome → Type 0) → List Outcome → List Took → Type 0
AreOutcomes comes_to outcomes taken = AllZip (IsOutcomeOf comes_to) taken outcomes

-- a job was run, and what that came to was put behind the outcomes
abbrev pub IsRun : (JobData → Outcome → Type 0) → List Outcome → JobData → List Outcome → Type 0
IsRun comes_to before job after =
    (o : Outcome) × (after ≡ before ++ o ∷ []) × (o.number ≡ job.number) × comes_to job o

-- Each of the jobs was run once, by its place among them: the outcomes are what that came to, each
-- its own job's.
abbrev pub AreRun : (JobData → Outcome → Type 0) → List JobData → List Outcome → Type 0
AreRun comes_to jobs outcomes =
    (ran : List Took) × IsServed jobs ran [] × AreOutcomes comes_to outcomes ran

-- each number has as many outcomes as jobs
abbrev pub AreAnswered : List JobData → List Outcome → Type 0
AreAnswered jobs outcomes =
    (n : ℕ) → count_by (λ o. o.number == n) outcomes ≡ count_by (λ j. j.number == n) jobs
