-- Which of the files that a manifest names are of an older version than the one that is written.
use Rattle.std.specs.Prelude.{◌≡◌, ℕ, ◌<◌, ◌&&◌, Bool, true, false, not, List, length, filter}
use Rattle.std.specs.Prelude.{slice_index_or}
use Rattle.mvo_manifest.specs.Data.{ManifestData, named}
use Rattle.mvo_recovery.specs.image.Opens.{Image}
use Rattle.mvo_load.specs.Old.{is_old}
use Rattle.mvo_store.specs.Files.{is_named}

-- the mark of a file
abbrev pub is_marked : List Bool → ℕ → Bool
is_marked old n = slice_index_or old n false

-- There is a mark for each of so many files, and it says of those that the manifest names whether
-- they are old.
pub record KnowsOld (content : Image) (m : ManifestData) (count : ℕ) (old : List Bool) : Type 0
  where
    pub long : length old ≡ count
    pub are : (n : ℕ) → n < count → is_named m n ≡ true → is_marked old n ≡ is_old (content n)

-- those of the files that a job gives new content are taken away, and the others stay
pub record AreUnmarked (taken : ℕ → Bool) (old new : List Bool) : Type 0 where
  pub long : length new ≡ length old
  pub are : (n : ℕ) → is_marked new n ≡ (is_marked old n && not (taken n))

-- how many of the files that the manifest names are old
abbrev pub old_file_count : Image → ManifestData → ℕ
old_file_count content m = length (filter (λ n. is_old (content n)) (named m))
