-- A pair that is read from a disk in slices.
use Rattle.std.specs.Prelude.{◌≡◌, ℕ, List, [], ◌++◌, length, take, drop}
use Rattle.mvo_types.specs.declared.refusal.Refusal.{Refusal}
use Rattle.mvo_pair.specs.declared.pair.Pair.{Pair}
use Rattle.mvo_pair.specs.declared.reading.ReadSoFar.{ReadSoFar}
use Rattle.mvo_pair.specs.Coming.{PairReadingData, FoundIsLoaded, IsReadOn, IsBroken, still_found, in_front}
use Rattle.mvo_pair.specs.Data.{Numbered}
use Rattle.mvo_pair.specs.Loading.{delta_reach}
use Rattle.mvo_pair.specs.Reading.{IsBytes, pair_found}
use Rattle.mvo_load.specs.declared.pair_slices.TheConstants.{READ_LEN}

-- The first bytes of its data file are read, and these live records of them: what is found of the
-- pair, whatever stands behind those bytes, is these and then what comes. Where the disk has
-- answered as written, they are the bytes of its files.
pub record IsReadUpTo (upto : ℕ) (p : Pair) (honest : Type 0) (content : ℕ → List ℕ)
    (r : PairReadingData) (live : List Numbered) (s : ReadSoFar) : Type 0 where
  pub front : List ℕ
  pub delta : List ℕ
  pub pair : r.pair ≡ p
  pub place : s.place ≡ length front
  pub bytes : IsBytes front
  pub numbers : IsBytes delta
  pub loaded : FoundIsLoaded upto p
  pub gives : (rest : List ℕ) →
      pair_found upto p (front ++ rest) delta ≡ in_front live (still_found r s rest)
  pub of_data : honest → front ≡ take (length front) (content p.data_file)
  pub of_delta : honest → delta ≡ take (delta_reach p) (content p.delta_file)

-- some bytes of its two files may have been read so far, with these live records
abbrev pub MayBeReadUpTo : ℕ → Pair → PairReadingData → List Numbered → ReadSoFar → Type 0
MayBeReadUpTo upto p r live s = IsReadUpTo upto p ⊥ (λ n. []) r live s

-- The next bytes are read, up to another place, and these live records are what comes of them.
-- Where the disk has answered as written, they are those of a data file of these bytes.
pub record IsSliceOf (honest : Type 0) (file_bytes : List ℕ) (r : PairReadingData)
    (from : ReadSoFar) (live : List Numbered) (to : ReadSoFar) : Type 0 where
  pub bytes : List ℕ
  pub fits : IsBytes bytes
  pub on : IsReadOn r from bytes live to
  pub are : honest → bytes ≡ take READ_LEN (drop from.place file_bytes)

-- The next bytes break a rule.
pub record IsBrokenSlice (honest : Type 0) (file_bytes : List ℕ) (r : PairReadingData)
    (from : ReadSoFar) (e : Refusal) : Type 0 where
  pub bytes : List ℕ
  pub fits : IsBytes bytes
  pub broken : IsBroken r from bytes e
  pub are : honest → bytes ≡ take READ_LEN (drop from.place file_bytes)
