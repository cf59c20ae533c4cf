-- What is seen of an engine: how its memory stands under the one lock, and its store under the
-- other.
use Rattle.std.specs.Prelude.{◌≡◌, length, sum_by}
use Rattle.std.specs.Option.{option_map}
use Rattle.std.specs.FinMap as map
use Rattle.mvo_disk.specs.declared.disk.Disk.{Ghosts}
use Rattle.mvo_txn.specs.Next.{IsNextBegin}
use Rattle.mvo_core.specs.Counting.{AreWaitingCounts, place_count, version_count}
use Rattle.mvo_core.specs.Seen.{clock_of, closed_mark_of, last_end_of, tale_of}
use Rattle.mvo_store.specs.Causes.{has_group}
use Rattle.mvo_store.specs.Jobs.{next_due}
use Rattle.mvo_store.specs.Seen.{mark_of, installed_manifest}
use Rattle.mvo_engine.specs.declared.stats.CoreStats.{CoreStats}
use Rattle.mvo_engine.specs.declared.stats.StoreStats.{StoreStats}
use Rattle.mvo_engine.specs.declared.stats.Stats.{Stats}
use Rattle.mvo_engine.specs.Passing.{count_of_groups}
use Rattle.mvo_engine.specs.run.Opening.{Opening}
use Rattle.mvo_engine.specs.Sound.{IsSoundCore, IsSoundStore}
use Rattle.mvo_engine.specs.States.{CoreState, StoreState}

pub record IsCoreStatsOf (c : CoreState) (s : CoreStats) : Type 0 where
  pub clock : s.clock.0 ≡ clock_of c.core
  pub closed : s.closed.0 ≡ closed_mark_of c.core
  pub last_end : option_map (λ e. e.0) s.last_end ≡ last_end_of c.core
  pub unfinished : s.unfinished ≡ map.len c.core.table.seats
  pub oldest : IsNextBegin c.core.table 0 s.oldest
  pub tale_start : s.tale_start.0 ≡ c.core.start
  pub places : s.places ≡ length (tale_of c.core)
  pub versions : s.versions ≡ version_count c.core
  pub sorted_keys : s.sorted_keys ≡ place_count c.core
  pub waiting : AreWaitingCounts c.core (s.aborted, s.replaced)
  pub sent : s.sent ≡ count_of_groups c.sends.sent
  pub sessions : s.sessions ≡ c.made

pub record IsStoreStatsOf {D : Type 0} (t : StoreState D) (s : StoreStats) : Type 0 where
  pub durable : s.durable.0 ≡ mark_of t.store
  pub has_group : s.has_group ≡ has_group t.store
  pub generation : s.generation ≡ (installed_manifest t.store).generation
  pub segments : s.segments ≡ length (installed_manifest t.store).segments
  pub last_segment : s.last_segment ≡ t.store.segment.gate
  pub pairs : s.pairs ≡ length (installed_manifest t.store).pairs
  pub records : s.records ≡ sum_by (λ p. p.records) (installed_manifest t.store).pairs
  pub dead : s.dead ≡ sum_by (λ p. p.entries) (installed_manifest t.store).pairs
  pub step : s.step ≡ next_due t.store.jobs
  pub received : s.received ≡ count_of_groups t.received

-- Under its lock the store lay sound and stood so; and so did the core, under its own.
pub record IsStatsOf {D : Type 0} (d : Ghosts D) (o : Opening) (store : StoreState D)
    (core : CoreState) (s : Stats) : Type 0 where
  pub store_sound : IsSoundStore d o store.store store.received
  pub store_stats : IsStoreStatsOf store s.store
  pub core_sound : IsSoundCore o core.core core.sends.sent
  pub core_stats : IsCoreStatsOf core s.core

-- such a store and such a core there were
abbrev pub AreStats : {D : Type 0} → Ghosts D → Opening → Stats → Type 0
AreStats {D} d o s = (store : StoreState D) × (core : CoreState) × IsStatsOf d o store core s
