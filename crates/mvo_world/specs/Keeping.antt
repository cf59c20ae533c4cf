-- What who keeps a world sees of it, and what is due of it then.
use Rattle.std.specs.Prelude.{◌≡◌, length, Option}
use Rattle.std.specs.Option.{option_map}
use Rattle.mvo_txn.specs.Next.{IsNextBegin}
use Rattle.mvo_core.specs.Seen.{closed_mark_of, last_end_of, tale_of}
use Rattle.mvo_store.specs.Causes.{has_group}
use Rattle.mvo_store.specs.Jobs.{next_due}
use Rattle.mvo_store.specs.Seen.{mark_of, installed_manifest}
use Rattle.mvo_keep.specs.declared.chore.Chore.{Chore}
use Rattle.mvo_keep.specs.declared.keeper.Keeper.{Keeper}
use Rattle.mvo_keep.specs.declared.policy.Policy.{Policy}
use Rattle.mvo_keep.specs.declared.sight.Sight.{Sight}
use Rattle.mvo_keep.specs.declared.standing.Standing.{Standing}
use Rattle.mvo_keep.specs.Due.{due_chore}
use Rattle.mvo_keep.specs.Keeping.{IsStandingBy}
use Rattle.mvo_world.specs.WorldData.{WorldData}

-- what is seen of its core and of its store
pub record IsSightOf {D : Type 0} (w : WorldData D) (s : Sight) : Type 0 where
  pub last_end : option_map (λ e. e.0) s.last_end ≡ last_end_of w.core
  pub closed : s.closed.0 ≡ closed_mark_of w.core
  pub oldest : IsNextBegin w.core.table 0 s.oldest
  pub tale_start : s.tale_start.0 ≡ w.core.start
  pub places : s.places ≡ length (tale_of w.core)
  pub durable : s.durable.0 ≡ mark_of w.store
  pub has_group : s.has_group ≡ has_group w.store
  pub generation : s.generation ≡ (installed_manifest w.store).generation
  pub segments : s.segments ≡ length (installed_manifest w.store).segments
  pub last_segment : s.last_segment ≡ w.store.segment.gate
  pub step : s.step ≡ next_due w.store.jobs

-- So it is seen, and this is due by the policy, as the world then stands with its pairs and with
-- what the keeper remembers.
pub record IsDueOf {D : Type 0} (p : Policy) (k : Keeper) (w : WorldData D) (s : Sight)
    (due : Option Chore) : Type 0 where
  pub seen : IsSightOf w s
  pub standing : Standing
  pub stands : IsStandingBy k s (installed_manifest w.store).pairs standing
  pub due_is : due ≡ due_chore p standing
