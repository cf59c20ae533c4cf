-- What the layers above see of a store.
use Rattle.std.specs.Prelude.{◌≡◌, ℕ, false, Option, None}
use Rattle.mvo_group.specs.Data.{GroupData}
use Rattle.mvo_manifest.specs.Data.{ManifestData}
use Rattle.mvo_store.specs.Jobs.{no_jobs}
use Rattle.mvo_store.specs.StoreData.{StoreData}

abbrev pub disk_of : {D : Type 0} → StoreData D → D
disk_of s = s.disk

-- the mark of the last group that is durable, or the one that it opened at
abbrev pub mark_of : {D : Type 0} → StoreData D → ℕ
mark_of s = s.mark

-- the group that is being appended
abbrev pub pending_of : {D : Type 0} → StoreData D → Option GroupData
pending_of s = s.pending

-- the installed manifest
abbrev pub installed_manifest : {D : Type 0} → StoreData D → ManifestData
installed_manifest s = s.manifest

-- it is up, and no group is being appended and no job runs
pub record IsAtRest {D : Type 0} (s : StoreData D) : Type 0 where
  pub pending : s.pending ≡ None
  pub written : s.written ≡ false
  pub jobs : s.jobs ≡ no_jobs
  pub down : s.down ≡ false
