-- What a keeper sees of a store, which of it counts for what is due, and what is remembered.
use Rattle.std.specs.Prelude.{◌≡◌, ◌≢◌, ◌↔◌, ℕ, ◌+◌, ◌&&◌, ◌||◌, not, nat_lt, if◌then◌else◌, Bool, true, false, List, Option, None, Some, Result, Ok, Err}
use Rattle.std.specs.Option.{option_map}
use Rattle.mvo_types.specs.declared.ids.Stamp.{Stamp}
use Rattle.mvo_types.specs.declared.ids.TxId.{TxId}
use Rattle.mvo_types.specs.declared.limits.TheConstants.{MAX_STAMP}
use Rattle.mvo_types.specs.declared.refusal.Refusal.{Refusal}
use Rattle.mvo_pair.specs.declared.pair.Pair.{Pair}
use Rattle.mvo_store.specs.declared.call.StoreCall.TheVariants as calls
use Rattle.mvo_keep.specs.declared.standing.Standing.{Standing}
use Rattle.mvo_keep.specs.declared.chore.Chore.{Chore}
use Rattle.mvo_keep.specs.declared.chore.Chore.TheVariants.{Flush, Trim, Collect}
use Rattle.mvo_keep.specs.declared.served.Served.{Served}
use Rattle.mvo_keep.specs.declared.served.Served.TheVariants.{Files, Memory}
use Rattle.mvo_keep.specs.declared.sight.Sight.{Sight}
use Rattle.mvo_keep.specs.declared.remains.Remains.{Remains}
use Rattle.mvo_keep.specs.declared.remains.Remains.TheVariants.{NoFile, NoGarbage}
use Rattle.mvo_keep.specs.declared.keeper.Keeper.{Keeper}
use Rattle.mvo_keep.specs.declared.served.TheConstants.{MOST_TIMES}

-- nothing was seen
abbrev pub new_keeper : Keeper
new_keeper = record {
  last_end = None;
  mark = record { 0 = 0 };
  has_flushed = false;
  served = Files;
  reclaimed = None;
  collected = None;
}

-- ---- what is seen
-- the begin, or a stamp above all that are drawn
abbrev pub begin_or_above : Option TxId → ℕ
begin_or_above None = MAX_STAMP + 1
begin_or_above (Some t) = t.0

-- there is such an end, and it is above the mark
abbrev pub is_end_above : Option Stamp → Stamp → Bool
is_end_above None mark = false
is_end_above (Some end') mark = nat_lt mark.0 end'.0

-- What counts for what is due, by what is seen and what the keeper remembers. A flush that was the
-- last chore isn't due again, whatever came of it, so that one that is refused holds nothing up.
pub record IsStandingBy (k : Keeper) (s : Sight) (named : List Pair) (standing : Standing) : Type 0
  where
    pub has_group : standing.has_group ≡
        (not k.has_flushed && (s.has_group || nat_lt s.durable.0 s.closed.0))
    pub has_commits : standing.has_commits ≡ (not k.has_flushed && is_end_above k.last_end s.closed)
    pub step : standing.step ≡ option_map calls.Step s.step
    pub may_reclaim : (standing.may_reclaim ≡ true) ↔ (k.reclaimed ≢ Some s.generation)
    pub pairs : standing.pairs.items ≡ named
    pub segments : standing.segments ≡ s.segments
    pub last_segment : standing.last_segment ≡ s.last_segment
    pub tale_start : standing.tale_start ≡ s.tale_start
    pub tale_length : standing.tale_length ≡ s.places
    pub earlier_mark : standing.earlier_mark ≡ k.mark
    pub oldest_begin : standing.oldest_begin.0 ≡ begin_or_above s.oldest
    pub may_collect : (standing.may_collect ≡ true) ↔ (k.collected ≢ Some s.tale_start)
    pub served : standing.served ≡ k.served

-- ---- what is remembered
-- the last end and the mark, and that no flush came since
abbrev pub keeper_after_look : Sight → Keeper → Keeper
keeper_after_look s k = record k { last_end = s.last_end; mark = s.durable; has_flushed = false }

abbrev pub is_flush : Chore → Bool
is_flush Flush = true
is_flush chore = false

-- one more, as far as is counted
abbrev pub once_more : ℕ → ℕ
once_more n = if nat_lt n MOST_TIMES then n + 1 else n

abbrev pub served_behind_collection : Served → Served
served_behind_collection Files = Memory 1
served_behind_collection (Memory times) = Memory (once_more times)

-- a flush serves none of these
abbrev pub served_after : Chore → Served → Served
served_after Flush last = last
served_after (Trim upto) last = Memory 0
served_after (Collect most) last = served_behind_collection last
served_after chore last = Files

abbrev pub reclaimed_after : ℕ → Result Remains Refusal → Option ℕ → Option ℕ
reclaimed_after generation (Ok NoFile) known = Some generation
reclaimed_after generation came known = known

abbrev pub collected_after : Stamp → Result Remains Refusal → Option Stamp → Option Stamp
collected_after start (Ok NoGarbage) known = Some start
collected_after start came known = known

abbrev pub keeper_after : Sight → Chore → Result Remains Refusal → Keeper → Keeper
keeper_after s chore came k = record {
  last_end = s.last_end;
  mark = s.durable;
  has_flushed = is_flush chore;
  served = served_after chore k.served;
  reclaimed = reclaimed_after s.generation came k.reclaimed;
  collected = collected_after s.tale_start came k.collected;
}
