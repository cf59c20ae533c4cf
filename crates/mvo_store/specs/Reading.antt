-- What is read of the jobs that run: a checkpoint's segment, and a merge's pairs.
use Rattle.mvo_manifest.specs.Data.{ManifestData}
use Rattle.mvo_places.specs.Places.{PlaceMap}
use Rattle.mvo_recovery.specs.image.Opens.{Image}
use Rattle.mvo_store.specs.declared.jobs.jobs.Jobs.{Jobs}
use Rattle.mvo_store.specs.Jobs.{reading_of, segment_read_of}
use Rattle.mvo_store.specs.PairsRead.{IsSafeReading, HasReading}
use Rattle.mvo_store.specs.SegmentRead.{oldest_file, AreSafeSegmentRead, HasSegmentRead}

-- Each is safe beside this manifest and these places.
pub record AreSafeReadings (m : ManifestData) (at : PlaceMap) (jobs : Jobs) : Type 0 where
  pub pairs : IsSafeReading m (reading_of jobs)
  pub segment : AreSafeSegmentRead m at (segment_read_of jobs)

-- Each is of the files that the manifest names.
pub record HaveReadings (content : Image) (m : ManifestData) (at : PlaceMap) (jobs : Jobs) : Type 0
  where
    pub pairs : HasReading content m (reading_of jobs)
    pub segment : HasSegmentRead m at (content (oldest_file m)) (segment_read_of jobs)
