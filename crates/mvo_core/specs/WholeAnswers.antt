-- What is answered in each whole state that a core stands for, and what collecting leaves of it.
use Rattle.std.specs.Prelude.{ℕ, ◌≡◌, if◌then◌else◌, List}
use Rattle.mvo_types.specs.declared.answer.Answer.{Answer}
use Rattle.mvo_types.specs.declared.op.Op.{Op}
use Rattle.mvo_types.specs.declared.row.RowKey.{RowKey}
use Rattle.mvo_types.specs.AnswerData.{answer_data}
use Rattle.mvo_types.specs.Keys.{Map}
use Rattle.mvo_model.specs.Trace.{Step}
use Rattle.mvo_theory.specs.Words.{is_done}
use Rattle.mvo_theory.specs.Calls.{answer_in}
use Rattle.mvo_readonly.specs.Whole.{WholeState}
use Rattle.mvo_txn.specs.Txns.{state_of}
use Rattle.mvo_representation.specs.Indexes.{all_versions}
use Rattle.mvo_representation.specs.Table.{phases_of}
use Rattle.mvo_representation.specs.Words.{ends_of, change_below, standing}
use Rattle.mvo_collect.specs.declared.collection.Collection.{Collection}
use Rattle.mvo_collect.specs.Garbage.{horizon}
use Rattle.mvo_collect.specs.Laws.{IsCountedSo, IsFreeBegin}
use Rattle.mvo_core.specs.declared.answers.Finishing.{Finishing}
use Rattle.mvo_core.specs.declared.answers.Finishing.TheVariants as finishing
use Rattle.mvo_core.specs.Data.{CoreData}
use Rattle.mvo_core.specs.WholeStanding.{StandsWhole}

abbrev pub InEachWhole : CoreData → (WholeState → Type 0) → Type 0
InEachWhole c P = (opening : Map) (steps own : List Step) (w : WholeState)
    → StandsWhole opening steps own w c → P w

-- what the serial step answers on the transaction's snapshot, of a read-only one too
abbrev pub IsAnsweredWhole : CoreData → ℕ → Op → Answer → Type 0
IsAnsweredWhole c t op a = InEachWhole c (λ w. answer_data a ≡ answer_in w.core t op)

abbrev pub IsFinishingWhole : CoreData → ℕ → Finishing → Type 0
IsFinishingWhole c t a = InEachWhole c (λ w.
    a ≡ (if is_done w.core t then finishing.Done else finishing.More))

-- ---- collecting
-- it stands for each whole state that it stood for
abbrev pub StandsWholeAsBefore : CoreData → CoreData → Type 0
StandsWholeAsBefore old new = (opening : Map) (steps own : List Step) (w : WholeState)
    → StandsWhole opening steps own w old → StandsWhole opening steps own w new

-- one garbage version is fewer, or there was none
abbrev pub AreFewerWhole : CoreData → Collection → CoreData → Type 0
AreFewerWhole old c new = InEachWhole old (λ w.
    IsCountedSo (horizon w.core) old.versions.slots new.versions.slots c)

-- A begin above the start, or at it where no change has that stamp, is shown the same put with the
-- same stamp at each key.
abbrev pub ShowsSameWhole : CoreData → CoreData → Type 0
ShowsSameWhole old new = InEachWhole old (λ w. (b : ℕ) (k : RowKey)
    → IsFreeBegin w.core (state_of old.table) old.versions.slots b
    → standing (change_below (ends_of (phases_of (state_of old.table))) b k
    (all_versions new.versions.slots))
    ≡ standing (change_below (ends_of (phases_of (state_of old.table))) b k
    (all_versions old.versions.slots)))
