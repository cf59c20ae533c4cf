-- What a turn of a keeper comes to: it looks, does what is due then, and remembers.
use Rattle.std.specs.Prelude.{◌≡◌, ℕ, ◌<◌, ◌≤◌, ◌++◌, [], ◌∷◌, not, nat_lt, Bool, true, false, List, Option, None, Some, Result, Ok, Err, if◌then◌else◌}
use Rattle.std.specs.List.{AllByRecursion, sum}
use Rattle.mvo_types.specs.declared.ids.Stamp.{Stamp}
use Rattle.mvo_types.specs.declared.refusal.Refusal.{Refusal}
use Rattle.mvo_types.specs.declared.refusal.Refusal.TheVariants.{NothingToDo, Busy, RingFull, OutOfMemory, DiskFault, Down}
use Rattle.mvo_disk.specs.declared.disk.Disk.{Ghosts}
use Rattle.mvo_theory.specs.Calls.Call.{Trim as TrimCall}
use Rattle.mvo_pair.specs.declared.pair.Pair.{Pair}
use Rattle.mvo_store.specs.declared.call.StoreCall.{StoreCall}
use Rattle.mvo_store.specs.declared.call.StoreCall.TheVariants as calls
use Rattle.mvo_store.specs.declared.done.Done.{Done}
use Rattle.mvo_store.specs.declared.done.Done.TheVariants.{Reclaimed}
use Rattle.mvo_store.specs.declared.reclaimed.Reclaimed.TheVariants.{Done as AllDone}
use Rattle.mvo_store.specs.Seen.{installed_manifest}
use Rattle.mvo_keep.specs.declared.policy.Policy.{Policy}
use Rattle.mvo_keep.specs.declared.standing.Standing.{Standing}
use Rattle.mvo_keep.specs.declared.chore.Chore.{Chore}
use Rattle.mvo_keep.specs.declared.chore.Chore.TheVariants.{Flush, Step, Reclaim, Merge, Checkpoint, Rotate, Trim, Collect}
use Rattle.mvo_keep.specs.declared.keeper.Keeper.{Keeper}
use Rattle.mvo_keep.specs.declared.remains.Remains.{Remains}
use Rattle.mvo_keep.specs.declared.remains.Remains.TheVariants.{More, NoFile, NoGarbage}
use Rattle.mvo_keep.specs.declared.sight.Sight.{Sight}
use Rattle.mvo_keep.specs.Due.{due_chore}
use Rattle.mvo_keep.specs.Keeping.{IsStandingBy, keeper_after, keeper_after_look, new_keeper}
use Rattle.mvo_engine.specs.declared.engine.TheConstants.{AT_ONCE}
use Rattle.mvo_engine.specs.declared.kept.Kept.{Kept}
use Rattle.mvo_engine.specs.declared.kept.Kept.TheVariants.{Did, Idle}
use Rattle.mvo_engine.specs.declared.stats.Stats.{Stats}
use Rattle.mvo_engine.specs.run.Opening.{Opening}
use Rattle.mvo_engine.specs.States.{CoreState, StoreState}
use Rattle.mvo_engine.specs.Calls.{IsCoreStep}
use Rattle.mvo_engine.specs.Jobs.{IsCallAlone}
use Rattle.mvo_engine.specs.Flushing.{IsWholeFlush}
use Rattle.mvo_engine.specs.Collecting.{WasCollected}
use Rattle.mvo_core.specs.Seen.{clock_of}
use Rattle.mvo_engine.specs.declared.stats.StoreStats.{StoreStats}
use Rattle.mvo_engine.specs.Legal.{IsLegalCore}
use Rattle.mvo_engine.specs.Sound.{IsSoundStore}
use Rattle.mvo_engine.specs.Stats.{IsStatsOf, IsStoreStatsOf}

-- ---- what is seen
-- what of it a keeper sees
abbrev pub sight_of : Stats → Sight
sight_of s = record {
  last_end = s.core.last_end;
  closed = s.core.closed;
  oldest = s.core.oldest;
  tale_start = s.core.tale_start;
  places = s.core.places;
  durable = s.store.durable;
  has_group = s.store.has_group;
  generation = s.store.generation;
  segments = s.store.segments;
  last_segment = s.store.last_segment;
  step = s.store.step;
}

-- Under its lock the store lay sound and stood so, with these pairs.
pub record WasLookedAt {D : Type 0} (d : Ghosts D) (o : Opening) (s : StoreStats)
    (pairs : List Pair) : Type 0 where
  pub store : StoreState D
  pub sound : IsSoundStore d o store.store store.received
  pub stats : IsStoreStatsOf store s
  pub pairs_are : pairs ≡ (installed_manifest store.store).pairs

-- There were a store and a core under their locks that were seen so, and this was due by the
-- policy.
pub record WasDue {D : Type 0} (d : Ghosts D) (o : Opening) (p : Policy) (k : Keeper)
    (s : Sight) (due : Option Chore) : Type 0 where
  pub store : StoreState D
  pub core : CoreState
  pub told : Stats
  pub stats : IsStatsOf d o store core told
  pub seen : s ≡ sight_of told
  pub standing : Standing
  pub stands : IsStandingBy k s (installed_manifest store.store).pairs standing
  pub due_is : due ≡ due_chore p standing

-- ---- what is done
-- a collection of at most 128 versions, with the lock taken for it alone
abbrev pub WasPiece : ℕ → Type 0
WasPiece n = (asked : ℕ) × (asked ≤ AT_ONCE) × WasCollected asked n

-- Such collections, one after another: of as many versions as are asked for in all, or else of all
-- that were garbage when the last of them was made.
pub record HaveCollectedSome (most all : ℕ) : Type 0 where
  pub counts : List ℕ
  pub each : AllByRecursion WasPiece counts
  pub sum : all ≡ sum counts
  pub few : all ≤ most
  pub fewer : all < most → (asked n : ℕ) × (n < asked) × WasCollected asked n

-- what came of it, but for what is answered
abbrev pub came_of : {A : Type 0} → Result A Refusal → Result Remains Refusal
came_of (Ok a) = Ok More
came_of (Err e) = Err e

abbrev pub remains_by : Result Done Refusal → Result Remains Refusal
remains_by (Ok (Reclaimed AllDone)) = Ok NoFile
remains_by (Ok done) = Ok More
remains_by (Err e) = Err e

abbrev pub remains_of : ℕ → ℕ → Remains
remains_of most all = if nat_lt all most then NoGarbage else More

-- a call of the store, its lock taken for it alone
abbrev pub IsCallDone : {D : Type 0} → Ghosts D → StoreCall → Result Remains Refusal → Type 0
IsCallDone d call r = (came : Result Done Refusal) × IsCallAlone d tt call came tt
    × (r ≡ remains_by came)

-- the chore by the calls that it is made of, and what came of it
abbrev pub IsChoreDone : {D : Type 0} → Ghosts D → Chore → Result Remains Refusal → Type 0
IsChoreDone d Flush r = (came : Result Stamp Refusal) × IsWholeFlush d came × (r ≡ came_of came)
IsChoreDone d (Step call) r = IsCallDone d call r
IsChoreDone d Reclaim r = IsCallDone d calls.Reclaim r
IsChoreDone d (Merge place) r = IsCallDone d (calls.MergeRead place) r
IsChoreDone d Checkpoint r = IsCallDone d calls.CheckpointRead r
IsChoreDone d Rotate r = IsCallDone d calls.RotateWrite r
IsChoreDone d (Trim upto) r = (came : Result (Unit {0}) Refusal) × (old new : CoreState)
    × IsCoreStep old (TrimCall upto.0) came new × (r ≡ came_of came)
IsChoreDone d (Collect most) r = (all : ℕ) × HaveCollectedSome most all
    × (r ≡ Ok (remains_of most all))

-- ---- what is answered
-- there is nothing to be done, since another thread did it, or has it in hand
abbrev pub is_of_another : Refusal → Bool
is_of_another NothingToDo = true
is_of_another Busy = true
is_of_another RingFull = true
is_of_another e = false

abbrev pub kept_by : Chore → Result Remains Refusal → Result Kept Refusal
kept_by chore (Ok remains) = Ok (Did chore)
kept_by chore (Err e) = if is_of_another e then Ok Idle else Err e

-- ---- a turn
-- Memory for the look was refused, and nothing is remembered. Or nothing was due. Or a chore was,
-- which was done or refused.
pub data HasKept {D : Type 0} (d : Ghosts D) (o : Opening) (p : Policy) (old : Keeper)
    (r : Result Kept Refusal) (new : Keeper) : Type 0 where
  WithoutMemory : r ≡ Err OutOfMemory → new ≡ old → HasKept d o p old r new
  AtRest : (s : Sight) → WasDue d o p old s None → r ≡ Ok Idle → new ≡ keeper_after_look s old
      → HasKept d o p old r new
  WithChore : (s : Sight) (chore : Chore) → WasDue d o p old s (Some chore)
      → (came : Result Remains Refusal) → IsChoreDone d chore came → r ≡ kept_by chore came
      → new ≡ keeper_after s chore came old → HasKept d o p old r new

-- ---- turn after turn
-- the store is down
abbrev pub ends_keeping : Refusal → Bool
ends_keeping DiskFault = true
ends_keeping Down = true
ends_keeping e = false

abbrev pub may_go_on : Result Kept Refusal → Bool
may_go_on (Ok kept) = true
may_go_on (Err e) = not (ends_keeping e)

-- a turn behind which it goes on
abbrev pub WentOn : {D : Type 0} → Ghosts D → Opening → Policy → Keeper → Keeper → Type 0
WentOn d o p k last = (answer : Result Kept Refusal) × HasKept d o p k answer last
    × (may_go_on answer ≡ true)

-- Such turns from a new keeper on: what it remembered before each, the last of them first, and what
-- it remembers behind them all.
abbrev pub AreKeeperTurns : {D : Type 0} → Ghosts D → Opening → Policy → List Keeper → Keeper
    → Type 0
AreKeeperTurns d o p [] last = last ≡ new_keeper
AreKeeperTurns d o p (k ∷ ks) last = WentOn d o p k last × AreKeeperTurns d o p ks k

-- the marks of flushes, one after another
abbrev pub WereFlushed : {D : Type 0} → Ghosts D → List Stamp → Type 0
WereFlushed d marks = AllByRecursion (λ m. IsWholeFlush d (Ok m)) marks

-- Flushes, one after another, up to one that is refused, or reaches the clock as it was before
-- them, or comes no further than the one before it.
pub data IsFlushToEnd {D : Type 0} (d : Ghosts D) (o : Opening) (r : Result (Unit {0}) Refusal)
    : Type 0 where
  Refused : (marks : List Stamp) → WereFlushed d marks → (e : Refusal)
      → IsWholeFlush d (Err e) → r ≡ Err e → IsFlushToEnd d o r
  Reached : (core : CoreState) → IsLegalCore o core.core core.sends.sent
      → (marks : List Stamp) (last : Stamp) → WereFlushed d (marks ++ last ∷ [])
      → clock_of core.core ≤ last.0 → r ≡ Ok tt → IsFlushToEnd d o r
  Stayed : (marks : List Stamp) (last : Stamp) → WereFlushed d (marks ++ last ∷ last ∷ [])
      → r ≡ Ok tt → IsFlushToEnd d o r

-- a turn that finds the store down
abbrev pub WentDown : {D : Type 0} → Ghosts D → Opening → Policy → Keeper → Refusal → Type 0
WentDown d o p k e = (last : Keeper) × HasKept d o p k (Err e) last × (ends_keeping e ≡ true)

-- Turns, up to one that finds the store down; or up to a flush of all at the end.
pub data HasKeptUntil {D : Type 0} (d : Ghosts D) (o : Opening) (p : Policy)
    (r : Result (Unit {0}) Refusal) : Type 0 where
  WhereDown : (before : List Keeper) (k : Keeper) → AreKeeperTurns d o p before k
      → (e : Refusal) → WentDown d o p k e → r ≡ Err e → HasKeptUntil d o p r
  AtEnd : (before : List Keeper) (k : Keeper) → AreKeeperTurns d o p before k
      → IsFlushToEnd d o r → HasKeptUntil d o p r
