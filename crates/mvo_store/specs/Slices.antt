-- The data file of a job, which is written in slices.
use Rattle.std.specs.Prelude.{ℕ, zero, suc, List}
use Rattle.mvo_disk.specs.Disk.{Only}
use Rattle.mvo_format.specs.declared.format.TheConstants.{LAST_FORMAT}
use Rattle.mvo_pair.specs.declared.pair.Pair.{Pair}
use Rattle.mvo_pair.specs.Data.{EntryData}
use Rattle.mvo_pair.specs.Slices.{HasFirst}
use Rattle.mvo_recovery.specs.image.Opens.{Image}

-- The pair's data file holds the first so many of these records durably, and nothing else.
pub record HasFirstRecords (content : Image) (may : ℕ → List ℕ → Type 0) (p : Pair)
    (es : List EntryData) (count : ℕ) : Type 0 where
  pub has : HasFirst LAST_FORMAT es count (content p.data_file)
  pub durable : Only (content p.data_file) (may p.data_file)

-- so it does where any are written
abbrev pub HasAnyFirst : Image → (ℕ → List ℕ → Type 0) → Pair → List EntryData → ℕ → Type 0
HasAnyFirst content may p es zero = Unit {0}
HasAnyFirst content may p es (suc count) = HasFirstRecords content may p es (suc count)
