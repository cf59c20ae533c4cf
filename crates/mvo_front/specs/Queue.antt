-- Jobs that are pushed by one hand and taken by many.
use Rattle.std.specs.Prelude.{◌≡◌, ℕ, ◌+◌, ◌-◌, ◌<◌, List, [], ◌∷◌, ◌++◌, length, slice_get, drop, Bool, true, false, ◌==◌, if◌then◌else◌, nat_lt, Some}
use mathlib.Core.Option.{some}
use lib.ListN.{get_elem?}
use Rattle.mvo_front.specs.Job.{JobData}
use Rattle.mvo_front.specs.declared.rule.Hand.{Hand}

-- a job that was taken, with its place among those that were pushed
abbrev pub Took : Type 0
Took = ℕ × JobData

abbrev pub is_one : ℕ → ℕ → ℕ
is_one n m = if n == m then 1 else 0

-- how often the job at the place was taken
abbrev pub times_taken : ℕ → List Took → ℕ
times_taken n [] = 0
times_taken n (t ∷ ts) = is_one n t.0 + times_taken n ts

abbrev pub once_below : ℕ → ℕ → ℕ
once_below x n = if nat_lt x n then 1 else 0

-- the places are below this one
abbrev pub AllBelow : ℕ → List Took → Type 0
AllBelow n [] = Unit {0}
AllBelow n (t ∷ ts) = (t.0 < n) × AllBelow n ts

-- each is the job at its place
abbrev pub AreAt : List JobData → List Took → Type 0
AreAt put [] = Unit {0}
AreAt put (t ∷ ts) = (slice_get put t.0 ≡ Some t.1) × AreAt put ts

abbrev pub total : (Hand → ℕ) → List Hand → ℕ
total f [] = 0
total f (v ∷ vs) = f v + total f vs

abbrev pub hand : Bool → List JobData → ℕ → List Took → Hand
hand pushes put parts taken = record { pushes = pushes; put = put; parts = parts; taken = taken }

abbrev pub parts_of : Hand → ℕ
parts_of v = v.parts

abbrev pub took : ℕ → Hand → ℕ
took n v = times_taken n v.taken

pub record IsHandOf (from : ℕ) (put : List JobData) (seat by : ℕ) (v : Hand) : Type 0 where
  pub pusher : v.pushes ≡ true → (by ≡ seat) × (v.put ≡ put)
  pub idle : v.parts ≡ 0 → v.taken ≡ []
  pub below : AllBelow from v.taken
  pub are_at : AreAt put v.taken

pub record Runs (gone put : List JobData) (seat : ℕ) (items : List JobData) (views : List Hand)
    : Type 0
  where
    pub row : put ≡ gone ++ items
    pub parts : total parts_of views ≡ 1024
    pub once : (n : ℕ) → total (took n) views ≡ once_below n (length gone)
    pub each : (by : ℕ) (v : Hand)
        → get_elem? views by ≡ some v → IsHandOf (length gone) put seat by v

-- the rule: of the jobs that were pushed some first ones were taken, each once, and the others wait
-- in order
abbrev pub InOrder : List JobData → List Hand → Type 0
InOrder items views =
    (gone : List JobData) × (put : List JobData) × (seat : ℕ) × Runs gone put seat items views

abbrev pub first_hand : Hand
first_hand = hand true [] 1024 []

-- a push: the job goes behind those that were pushed
abbrev pub Pushed : Hand → JobData → Hand → Type 0
Pushed v x w = w ≡ hand v.pushes (v.put ++ x ∷ []) v.parts v.taken

-- a taking: the place of the job is behind those of all jobs that this hand took before
abbrev pub Taken : Hand → JobData → Hand → Type 0
Taken v x w =
    (n : ℕ) × (w ≡ hand v.pushes v.put v.parts (v.taken ++ (n, x) ∷ []))
    × AllBelow n v.taken

-- the same hand, but for what it has taken
abbrev pub IsButForTaken : Hand → Hand → Type 0
IsButForTaken v w = w ≡ hand v.pushes v.put v.parts w.taken

-- a hand that has pushed these jobs and taken some
abbrev pub HasPushed : Hand → List JobData → Hand → Type 0
HasPushed v jobs w = w ≡ hand v.pushes (v.put ++ jobs) v.parts w.taken

abbrev pub left_of : Hand → Hand
left_of v = hand v.pushes v.put (v.parts - 1) v.taken

abbrev pub worker : Hand
worker = hand false [] 1 []

abbrev pub joined_hands : Hand → Hand → Hand
joined_hands v w = hand v.pushes v.put (v.parts + w.parts) (v.taken ++ w.taken)

abbrev pub gone : Hand
gone = hand false [] 0 []

-- Each of the first jobs that were pushed was taken once, by its place, and the others are left, in
-- order.
pub record IsServed (put : List JobData) (taken : List Took) (left : List JobData) : Type 0 where
  pub count : ℕ
  pub left_is : left ≡ drop count put
  pub once : (n : ℕ) → times_taken n taken ≡ once_below n count
  pub are_at : AreAt put taken

-- with every part in one hand
abbrev pub Settled : Hand → List JobData → Type 0
Settled v items = v.pushes ≡ true → v.parts ≡ 1024 → IsServed v.put v.taken items

-- with every part in one hand and no job waiting: each job that was pushed was taken once
abbrev pub AreAllTaken : Hand → Type 0
AreAllTaken v = v.pushes ≡ true → v.parts ≡ 1024 → IsServed v.put v.taken []
