-- What a core that is given works, with its read-only transactions, keeps whatever works it is
-- given.
use Rattle.std.specs.Prelude.{ℕ, ◌≡◌, ◌≢◌, ◌<◌, ◌≤◌, ◌==◌, Bool, true, if◌then◌else◌, is_some, List, [], ◌∷◌, take, None, ⊤}
use Rattle.std.specs.List.{AllByRecursion}
use Rattle.mvo_types.specs.Keys.{Map}
use Rattle.mvo_model.specs.History.{History}
use Rattle.mvo_theory.specs.State.{State, ActiveTx, active_of, timeline}
use Rattle.mvo_shared.specs.Kept.{Looked, WorkContent, IsWork}
use Rattle.mvo_shared.specs.Shared.{WorksById, AllTaken, AreSeen, taken_history}
use Rattle.mvo_shared.specs.Given.{GivenResult}
use Rattle.mvo_shared.specs.Held.{IsHeldGiven}
use Rattle.mvo_readonly.specs.ReadAt.{WritesNothing, IsReadAt}
use Rattle.mvo_readonly.specs.Whole.{ReaderStage, UnfinishedReader, CommittedReader, opened_whole}
use Rattle.mvo_readonly.specs.Whole.ReaderStage.{Reading, Preparing, Committed, Aborted}
use Rattle.mvo_readonly.specs.WholeCauses.{WholeCall}
use Rattle.mvo_readonly.specs.WholeKept.{HaveDistinctIds}
use Rattle.mvo_given.specs.GivenWhole.{GivenWhole, others_given, MayComeGivenWhole}
use Rattle.mvo_given.specs.GivenCalls.{after_given_whole}

-- ---- an unfinished read-only one
-- the core has it as an Active one that wrote nothing
pub record IsActiveReader (s : State) (t : ℕ) : Type 0 where
  pub here : is_some (active_of t s.active) ≡ true
  pub idle : AllByRecursion (λ r. r.id ≡ t → r.history ≡ []) s.active

-- unless it is flagged, others show what these looks keep to its begin, and who decides them is
-- settled or depended on
abbrev pub AreFoundFor : State → ℕ → List Looked → Type 0
AreFoundFor s t looked = AllByRecursion
    (λ (r : ActiveTx). r.id ≡ t → r.aborted_dependency ≡ None
    → AreSeen s.base s.stamped r.id r.depends_on looked) s.active

-- what precommit took out of its work is one that wrote nothing; its first n looks were found, and
-- behind Valid all
pub record IsTakenRead (s : State) (t : ℕ) (w : WorkContent) (n : ℕ) (v : Bool) : Type 0 where
  pub work : IsWork w
  pub idle : WritesNothing w.history
  pub found : AreFoundFor s t (take n w.looked)
  pub all : v ≡ true → AreFoundFor s t w.looked

abbrev pub IsHeldAtStage : State → WorkContent → ℕ → ReaderStage → Type 0
IsHeldAtStage s w t Reading = IsActiveReader s t
IsHeldAtStage s w t (Preparing n v) = IsActiveReader s t × IsTakenRead s t w n v
IsHeldAtStage s w t Committed = ⊤
IsHeldAtStage s w t Aborted = ⊤

pub record IsHeldReader (s : State) (reads : WorksById) (r : UnfinishedReader) : Type 0 where
  pub drawn : r.id ≤ s.clock
  pub later : s.start < r.id
  pub stage : IsHeldAtStage s (reads r.id) r.id r.stage

-- ---- a committed one
-- what it was told is right at its begin
pub record IsHeldCommitted (opening : Map) (s : State) (y : CommittedReader) : Type 0 where
  pub read : IsReadAt opening (timeline s) y.id y.history
  pub gone : AllByRecursion (λ r. r.id ≢ y.id) s.active
  pub drawn : y.id ≤ s.clock

-- ---- all
pub record IsWholeHeld (opening : Map) (g : GivenWhole) : Type 0 where
  pub others : IsHeldGiven opening (others_given g)
  pub readers : AllByRecursion (IsHeldReader g.whole.core g.reads) g.whole.readers
  pub committed :
      AllByRecursion (IsHeldCommitted opening g.whole.core) g.whole.committed_readers
  pub apart : HaveDistinctIds g.whole.committed_readers

-- ---- the stored commits
abbrev pub read_by : ℕ → List CommittedReader → History
read_by t [] = []
read_by t (y ∷ ys) = if y.id == t then y.history else read_by t ys

-- what the one that a stored commit is of was told: the end of a read-only one is its id
abbrev pub told_given : GivenWhole → ℕ × ℕ → History
told_given g c =
    if c.0 == c.1 then read_by c.1 g.whole.committed_readers else taken_history (g.taken c.0)

-- ---- lists of calls, each with the work that it was given and with what it came to
pub record GivenWholeCall : Type 0 where
  pub work : WorkContent
  pub call : WholeCall
  pub result : GivenResult

-- each call may come to what it came to, whatever works are given
abbrev pub MayRunGivenWhole : GivenWhole → List GivenWholeCall → Type 0
MayRunGivenWhole g [] = ⊤
MayRunGivenWhole g (c ∷ cs) =
    IsWork c.work × MayComeGivenWhole g c.work c.call c.result
    × MayRunGivenWhole (after_given_whole g c.work c.call c.result) cs

abbrev pub after_given_whole_run : GivenWhole → List GivenWholeCall → GivenWhole
after_given_whole_run g [] = g
after_given_whole_run g (c ∷ cs) =
    after_given_whole_run (after_given_whole g c.work c.call c.result) cs

-- a core that was just opened over these rows; nothing was taken in, whatever stands there
abbrev pub opened_given_whole : Map → ℕ → AllTaken → WorksById → GivenWhole
opened_given_whole rows mark all reads =
    record { whole = opened_whole rows mark; taken = all; reads = reads }
