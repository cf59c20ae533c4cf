-- How many versions a core has, and how many more or fewer each call leaves.
use Rattle.std.specs.Prelude.{ℕ, ◌≡◌, ◌+◌, length, Result, Ok, Err}
use Rattle.std.specs.FinMap as fin
use Rattle.mvo_types.specs.declared.refusal.Refusal.{Refusal}
use Rattle.mvo_types.specs.declared.answer.Answer.{Answer}
use Rattle.mvo_types.specs.AnswerData.{AnswerData, answer_data}
use Rattle.mvo_types.specs.AnswerData.AnswerData.{Inserted, Updated}
use Rattle.mvo_types.specs.Keys.{Map}
use Rattle.mvo_representation.specs.Indexes.{all_versions}
use Rattle.mvo_txn.specs.Txns.{state_of}
use Rattle.mvo_collect.specs.Waiting.{WaitingData, AreWaiting}
use Rattle.mvo_collect.specs.declared.collection.Collection.{Collection}
use Rattle.mvo_collect.specs.declared.collection.Collection.TheVariants.{Collected, Nothing}
use Rattle.mvo_core.specs.Data.{CoreData}

-- all of them, those that are garbage too
abbrev pub version_count : CoreData → ℕ
version_count c = length (all_versions c.versions.slots)

-- the places in the order of sorts
abbrev pub place_count : CoreData → ℕ
place_count c = fin.len c.versions.places

-- Dead versions and those that were ended wait, so many of each: all that are garbage are among
-- them, or may come to be.
pub record AreWaitingCounts (c : CoreData) (counts : ℕ × ℕ) : Type 0 where
  pub waiting : WaitingData
  pub all : AreWaiting c.table.clock (state_of c.table) c.versions.slots waiting
  pub dead : counts.0 ≡ length waiting.dead
  pub ended : counts.1 ≡ length waiting.ended

-- one for each of these rows
abbrev pub HasOneEach : Map → CoreData → Type 0
HasOneEach rows c = version_count c ≡ fin.len rows

-- as many as before
abbrev pub HasAsMany : CoreData → CoreData → Type 0
HasAsMany old new = version_count new ≡ version_count old

-- a row that was inserted, or that came in the place of another, is a version of its own
abbrev pub versions_put : AnswerData → ℕ
versions_put Inserted = 1
versions_put Updated = 1
versions_put a = 0

-- an operation came to this: one that is refused puts none
abbrev pub HasPutMore : CoreData → Result Answer Refusal → CoreData → Type 0
HasPutMore old (Ok a) new = version_count new ≡ version_count old + versions_put (answer_data a)
HasPutMore old (Err r) new = HasAsMany old new

-- a collection came to this
abbrev pub HasTakenOne : CoreData → Collection → CoreData → Type 0
HasTakenOne old Collected new = version_count new + 1 ≡ version_count old
HasTakenOne old Nothing new = HasAsMany old new
