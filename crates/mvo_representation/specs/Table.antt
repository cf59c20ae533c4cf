-- The transaction table as phases, and what the rules answer, as the state has it.
use Rattle.std.specs.Prelude.{ℕ, ◌≡◌, List, Option, None, Some}
use Rattle.std.specs.Option.{option_map}
use Rattle.mvo_types.specs.declared.ids.TxId.{TxId}
use Rattle.mvo_types.specs.declared.row.RowKey.{RowKey}
use Rattle.mvo_model.specs.History.{net_write}
use Rattle.mvo_theory.specs.State.{State, history_of_active}
use Rattle.mvo_chain.specs.declared.version.Version.{Version}
use Rattle.mvo_types.specs.RowData.{ContentData, content_of}
use Rattle.mvo_model.specs.Trace.{Phase}
use Rattle.mvo_model.specs.Trace.Phase.{Absent, Active, Preparing, Committed, Aborted}
use Rattle.mvo_txn.specs.declared.state.TxState.{TxState}
use Rattle.mvo_txn.specs.declared.state.TxState.TheVariants as state
use Rattle.mvo_chain.specs.declared.version.VersionNo.{VersionNo}
use Rattle.mvo_range.specs.declared.sort_place.SortPlace.{SortPlace}
use Rattle.mvo_chain.specs.Slots.{Slots, version_at}
use Rattle.mvo_visible.specs.Words.{States}
use Rattle.mvo_representation.specs.Words.{Phases, ends_of, open_end_in, IsShownAt}
use Rattle.mvo_representation.specs.Indexes.{all_versions}
use Rattle.mvo_representation.specs.Steps.{IsOwnNewest}

-- one that isn't in the table is Absent
abbrev pub phase_as : Option TxState → Phase
phase_as None = Absent
phase_as (Some state.Active) = Active
phase_as (Some (state.Preparing e)) = Preparing e.0
phase_as (Some (state.Committed e)) = Committed e.0
phase_as (Some state.Aborted) = Aborted

abbrev pub phases_of : States → Phases
phases_of states t = phase_as (states t)

-- the content of the version with the number
abbrev pub content_at : Slots → VersionNo → Option ContentData
content_at slots n = option_map (λ v. content_of v.row) (version_at slots n)

abbrev pub content_shown : Slots → Option VersionNo → Option ContentData
content_shown slots None = None
content_shown slots (Some n) = content_at slots n

-- where a row with this content stands in the order of sorts
abbrev pub place_with : RowKey → ContentData → SortPlace
place_with k h = record { table = k.table; sort = h.sort; key = k.key }

-- the end of the Preparing transaction that a reader depends on
abbrev pub end_awaited : States → Option TxId → Option ℕ
end_awaited states None = None
end_awaited states (Some t) = open_end_in (phases_of states t.0)

-- ---- the version that is shown
-- it is the transaction's own newest one, or it is shown by others' words and the key isn't written
pub data IsShownAs (s : State) (states : States) (t : ℕ) (vs : List Version)
    (v : Version) : Type 0 where
  AsOwn : IsOwnNewest t v → IsShownAs s states t vs v
  AsOthers : (stamp : ℕ) → net_write v.row.key (history_of_active t s.active) ≡ None
      → IsShownAt (ends_of (phases_of states)) t v.row.key vs v stamp → IsShownAs s states t vs v

pub record IsShown (s : State) (states : States) (slots : Slots) (t : ℕ) (k : RowKey)
    (number : VersionNo) : Type 0 where
  pub version : Version
  pub at : version_at slots number ≡ Some version
  pub key : version.row.key ≡ k
  pub as' : IsShownAs s states t (all_versions slots) version
