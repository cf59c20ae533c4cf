-- What waits to be collected, and what collecting comes to.
use Rattle.std.specs.Prelude.{ℕ, ◌≡◌, ◌-◌, ◌++◌, Bool, false, List, Option, None, Some}
use Rattle.mvo_types.specs.declared.ids.Stamp.{Stamp}
use Rattle.mvo_types.specs.declared.row.RowKey.{RowKey}
use Rattle.mvo_types.specs.Keys.{Map}
use Rattle.mvo_model.specs.Trace.{Step}
use Rattle.mvo_theory.specs.State.{State}
use Rattle.mvo_chain.specs.declared.version.Version.{Version}
use Rattle.mvo_chain.specs.declared.version.VersionNo.{VersionNo}
use Rattle.mvo_chain.specs.Slots.{Slots, version_at}
use Rattle.mvo_txn.specs.Txns.{state_of}
use Rattle.mvo_work.specs.declared.word_place.WordPlace.{WordPlace}
use Rattle.mvo_representation.specs.Words.{ends_of, change_below, standing}
use Rattle.mvo_representation.specs.Indexes.{all_versions}
use Rattle.mvo_representation.specs.Table.{phases_of}
use Rattle.mvo_representation.specs.WordLists.{number_at_word}
use Rattle.mvo_versions.specs.Data.{VersionsData}
use Rattle.mvo_collect.specs.declared.collection.Collection.{Collection}
use Rattle.mvo_collect.specs.declared.collection.Collection.TheVariants.{Collected, Nothing}
use Rattle.mvo_collect.specs.Garbage.{horizon}
use Rattle.mvo_collect.specs.Waiting.{WaitingData, is_by}
use Rattle.mvo_collect.specs.Collecting.{is_dead_at, IsCollected}
use Rattle.mvo_collect.specs.Laws.{IsCountedSo, IsFreeBegin, with_owed, and_dead, waiting_drawn, end_numbers}
use Rattle.mvo_core.specs.Data.{CoreData}
use Rattle.mvo_core.specs.Standing.{StandsFor}
use Rattle.mvo_core.specs.Steps.{InEach}

-- ---- what waits
abbrev pub is_open_end : Option Version → Bool
is_open_end None = false
is_open_end (Some v) = is_by v.end

-- whether the End of the version with the number names a transaction
abbrev pub is_open_end_at : Slots → VersionNo → Bool
is_open_end_at slots n = is_open_end (version_at slots n)

-- with the word that was replaced counted off, if one was; if its version is dead then, it waits
abbrev pub counted_off : Slots → Option WordPlace → WaitingData → ℕ → WaitingData
counted_off slots None w room = w
counted_off slots (Some p) w room =
    and_dead (is_dead_at slots (number_at_word p)) (number_at_word p).0
    (with_owed w (w.owed - 1) room)

-- what these words have ended waits behind the others, with this end
abbrev pub WaitBehind : Stamp → List WordPlace → WaitingData → WaitingData → Type 0
WaitBehind e words old new = new ≡ record old {
  ended = old.ended ++ waiting_drawn e (end_numbers words);
  ended_room = new.ended_room;
}

-- ---- collecting
-- one garbage version is taken out and nothing else, or nothing is
abbrev pub IsTaken : ℕ → VersionsData → Collection → VersionsData → Type 0
IsTaken start old Collected new = (n : VersionNo) × IsCollected start old new n
IsTaken start old Nothing new = new ≡ old

-- it stands for each state that it stood for
abbrev pub StandsAsBefore : CoreData → CoreData → Type 0
StandsAsBefore old new = (opening : Map) (steps : List Step) (s : State)
    → StandsFor opening steps s old → StandsFor opening steps s new

-- one garbage version is fewer, or there was none
abbrev pub AreFewer : CoreData → Collection → CoreData → Type 0
AreFewer old c new =
    InEach old (λ s. IsCountedSo (horizon s) old.versions.slots new.versions.slots c)

-- A begin above the start, or at it where no change has that stamp, is shown the same put with the
-- same stamp at each key.
abbrev pub ShowsSame : CoreData → CoreData → Type 0
ShowsSame old new = InEach old (λ s. (b : ℕ) (k : RowKey)
    → IsFreeBegin s (state_of old.table) old.versions.slots b
    → standing (change_below (ends_of (phases_of (state_of old.table))) b k
    (all_versions new.versions.slots))
    ≡ standing (change_below (ends_of (phases_of (state_of old.table))) b k
    (all_versions old.versions.slots)))
