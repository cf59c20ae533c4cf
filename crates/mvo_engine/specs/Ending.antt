-- What is known at the end of an engine.
use Rattle.std.specs.Prelude.{◌≡◌, ◌≤◌, ℕ, List}
use Rattle.std.specs.List.{AllByRecursion}
use Rattle.mvo_disk.specs.declared.disk.Disk.{Ghosts}
use Rattle.mvo_disk.specs.Disk.{Image, AllOf, IsHonest}
use Rattle.mvo_store.specs.Seen.{disk_of, mark_of}
use Rattle.mvo_engine.specs.run.Opening.{Opening}
use Rattle.mvo_engine.specs.Opening.{WasFormatted}
use Rattle.mvo_engine.specs.Sound.{GivesReceived}
use Rattle.mvo_engine.specs.Legal.{IsLegalCore}
use Rattle.mvo_engine.specs.Audited.{IsAudited}
use Rattle.mvo_engine.specs.States.{CoreState, StoreState}

-- each of what was seen is at most the mark
abbrev pub AreSeenUpTo : ℕ → List ℕ → Type 0
AreSeenUpTo mark seen = AllByRecursion (λ n. n ≤ mark) seen

-- What lay under the locks at the end: the core stands for one history, of which the groups that
-- were sent hold the commits, and those that the store received are a beginning of these. The disk
-- is the store's. Where it was formatted and has answered as written, it gives the opening rows
-- followed by groups that were received, up to a mark at least the store's, and so does each image
-- that a stop may leave from now on.
pub record HasShutDown {D : Type 0} (d : Ghosts D) (o : Opening) (c : CoreState) (s : StoreState D)
    (disk : D) : Type 0 where
  pub legal : IsLegalCore o c.core c.sends.sent
  pub audited : IsAudited d o c s
  pub disk_is : disk ≡ disk_of s.store
  pub gives : IsHonest (d.moment disk) → WasFormatted o →
      GivesReceived o s.received (mark_of s.store) (d.content disk)
  pub images : IsHonest (d.moment disk) → WasFormatted o → (image : Image) →
      AllOf (d.may_leave disk) image → GivesReceived o s.received (mark_of s.store) image

-- so it is, and all that sessions have seen to be durable is at most the store's mark
pub record IsShutDown {D : Type 0} (d : Ghosts D) (o : Opening) (seen : List ℕ)
    (disk : D) : Type 0 where
  pub core : CoreState
  pub store : StoreState D
  pub end : HasShutDown d o core store disk
  pub covers : AreSeenUpTo (mark_of store.store) seen
