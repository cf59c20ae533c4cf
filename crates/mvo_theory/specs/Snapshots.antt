-- The snapshot of a transaction, read off the trace.
use Rattle.std.specs.Prelude.{ℕ, ◌≡◌, ◌≢◌, ◌<◌, ◌==◌, nat_lt, Bool, false, not, if◌then◌else◌, List, [], ◌∷◌, ◌++◌, map, filter}
use Rattle.std.specs.List.{AllByRecursion, list_any}
use Rattle.mvo_types.specs.Keys.{Map}
use Rattle.mvo_model.specs.History.{after_history, write_of}
use Rattle.mvo_model.specs.Trace.{Step, history_of}
use Rattle.mvo_model.specs.Trace.Step.{Begins, Answers, Prepares, Checks, Commits, Aborts, Terminates}
use Rattle.mvo_theory.specs.Ranges.{Row, changed_by}
use Rattle.mvo_theory.specs.State.{State, StampedTx, timeline}
use Rattle.mvo_theory.specs.Traced.{is_abort_of}

-- the end timestamp, and the transaction that got it
abbrev pub prepare_of : Step → List (ℕ × ℕ)
prepare_of (Prepares t e) = (e, t) ∷ []
prepare_of (Begins t) = []
prepare_of (Answers t op s) = []
prepare_of (Checks t) = []
prepare_of (Commits t e) = []
prepare_of (Aborts t) = []
prepare_of (Terminates t) = []

abbrev pub prepares : List Step → List (ℕ × ℕ)
prepares [] = []
prepares (x ∷ xs) = prepare_of x ++ prepares xs

abbrev pub is_aborted : ℕ → List Step → Bool
is_aborted t steps = list_any (is_abort_of t) steps

-- those that are Preparing or Committed: they got an end timestamp, and were not aborted. In the
-- order of the ends, as the clock gives them
abbrev pub ended_in : List Step → List (ℕ × ℕ)
ended_in steps = filter (λ c. not (is_aborted c.1 steps)) (prepares steps)

-- the rows after the net writes of those with an end below b, one after another
abbrev pub rows_below : ℕ → List (ℕ × ℕ) → List Step → Map → Map
rows_below b [] steps m = m
rows_below b (c ∷ cs) steps m =
    rows_below b cs steps (if nat_lt c.0 b then after_history (history_of c.1 steps) m else m)

-- the snapshot of t: the opening rows after the net writes of those that are Preparing or Committed
-- with an end below its begin, and then its own
abbrev pub snapshot_of : Map → List Step → ℕ → Map
snapshot_of opening steps t =
    after_history (history_of t steps) (rows_below t (ended_in steps) steps opening)

abbrev pub ends_with_ids : List StampedTx → List (ℕ × ℕ)
ends_with_ids xs = map (λ x. (x.end, x.id)) xs

-- those with an end in the state are those of the trace
pub record HasEnds (steps : List Step) (s : State) : Type 0 where
  pub ends : ended_in steps ≡ ends_with_ids (timeline s)
  pub alone :
      AllByRecursion (λ x. AllByRecursion (λ y. y.id ≡ x.id → y.end ≡ x.end) (timeline s))
      (timeline s)
  pub active : AllByRecursion (λ r. is_aborted r.id steps ≡ false) s.active
  pub stamped : AllByRecursion (λ x. is_aborted x.id steps ≡ false) (timeline s)
  pub fresh : (t : ℕ) → s.clock < t → is_aborted t steps ≡ false
  pub others : AllByRecursion (λ r. AllByRecursion (λ x. x.end ≢ r.id) s.past) s.active

-- the rows that a step of u puts and ends, behind these steps
abbrev pub changed_in : Map → List Step → Step → ℕ → List Row
changed_in opening before (Answers v op s) u =
    if v == u then changed_by (write_of op s) (snapshot_of opening before u) else []
changed_in opening before (Begins v) u = []
changed_in opening before (Prepares v e) u = []
changed_in opening before (Checks v) u = []
changed_in opening before (Commits v e) u = []
changed_in opening before (Aborts v) u = []
changed_in opening before (Terminates v) u = []

abbrev pub footprint_since : Map → List Step → List Step → ℕ → List Row
footprint_since opening before [] u = []
footprint_since opening before (x ∷ xs) u =
    changed_in opening before x u ++ footprint_since opening (before ++ x ∷ []) xs u

-- the footprint of u: the rows that its writing answers put and ended, each on its snapshot then
abbrev pub footprint_in : Map → List Step → ℕ → List Row
footprint_in opening steps u = footprint_since opening [] steps u

-- the footprints are those of the trace
pub record HasFootprints (opening : Map) (steps : List Step) (s : State) : Type 0 where
  pub active : AllByRecursion (λ r. footprint_in opening steps r.id ≡ r.footprint) s.active
  pub stamped : AllByRecursion (λ x. footprint_in opening steps x.id ≡ x.footprint) s.stamped
  pub fresh : (t : ℕ) → s.clock < t → footprint_in opening steps t ≡ []
