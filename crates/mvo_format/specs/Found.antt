-- What is found in the bytes of a file, and the header that each file begins with.
use Rattle.std.specs.Prelude.{◌≡◌, ◌≢◌, ◌⊎◌, ℕ, ◌<◌, ◌^◌, List, ◌++◌, Option, Some, None}
use Rattle.std.specs.Prelude.{Result, Ok, Err, ◌==◌, if◌then◌else◌}
use Rattle.mvo_types.specs.declared.refusal.Refusal.{Refusal}
use Rattle.mvo_types.specs.declared.refusal.Refusal.TheVariants.{Corrupt, BadVersion, OutOfMemory}
use Rattle.mvo_bytes.specs.Fields.{field}
use Rattle.mvo_bytes.specs.Reading.{◌>>=◌, number_at}
use Rattle.mvo_format.specs.declared.format.Format.{Format}
use Rattle.mvo_format.specs.Formats.{format_up_to}

-- what the bytes hold, or how opening refuses them
abbrev pub Found : Type 0 → Type 0
Found X = Result X Refusal

abbrev pub and_then : {X Y : Type 0} → Found X → (X → Found Y) → Found Y
and_then (Ok x) f = f x
and_then (Err e) f = Err e

-- what a function answers, seen by view, is what is found
abbrev pub FindsAs : {X Y : Type 0} → (X → Y) → Found X → Found Y → Type 0
FindsAs view (Ok x) found = found ≡ Ok (view x)
FindsAs view (Err e) found = found ≡ Err e

-- the same, or it was refused memory
abbrev pub FindsButForMemory : {X Y : Type 0} → (X → Y) → Found X → Found Y → Type 0
FindsButForMemory view (Ok x) found = found ≡ Ok (view x)
FindsButForMemory view (Err e) found = (e ≡ OutOfMemory) ⊎ (found ≡ Err e)

-- ---- what is found, against what the bytes hold

-- neither another version nor any value
pub record IsNeither {X : Type 0} (Other : Type 0) (Holds : X → Type 0) : Type 0 where
  pub version : Other → ⊥
  pub value : (x : X) → Holds x → ⊥

-- What is found of a file: a value that it holds, or its version is another, or neither.
abbrev pub Says : {X : Type 0} → ℕ → Type 0 → (X → Type 0) → Found X → Type 0
Says file Other Holds (Ok x) = Holds x
Says file Other Holds (Err e) =
    ((e ≡ BadVersion) × Other) ⊎ ((e ≡ Corrupt file) × IsNeither Other Holds)

-- ---- headers

-- a magic, and a version
abbrev pub header : ℕ → ℕ → List ℕ
header magic version = field 4 magic ++ field 4 version

-- the magic is right, and the version field, which is whole, has a number that is no version up to
-- this one
pub record IsOtherVersion (magic upto : ℕ) (bytes : List ℕ) : Type 0 where
  pub number : ℕ
  pub rest : List ℕ
  pub whole : bytes ≡ header magic number ++ rest
  pub fits : number < 2 ^ 32
  pub other : format_up_to upto number ≡ None

-- the two numbers in front, and what stands behind them
unfoldable pub header_at : List ℕ → Option ((ℕ × ℕ) × List ℕ)
header_at bytes = do
  magic ← number_at 4 bytes
  version ← number_at 4 magic.1
  Some ((magic.0, version.0), version.1)

abbrev pub format_kept : List ℕ → Option Format → Found (Format × List ℕ)
format_kept rest None = Err BadVersion
format_kept rest (Some f) = Ok (f, rest)

abbrev pub header_kept : ℕ → ℕ → ℕ → Option ((ℕ × ℕ) × List ℕ) → Found (Format × List ℕ)
header_kept file magic upto None = Err (Corrupt file)
header_kept file magic upto (Some x) =
    if x.0.0 == magic then format_kept x.1 (format_up_to upto x.0.1) else Err (Corrupt file)

-- the format of the version in front, which is at most this one, and what stands behind
unfoldable pub header_found : ℕ → ℕ → ℕ → List ℕ → Found (Format × List ℕ)
header_found file magic upto bytes = header_kept file magic upto (header_at bytes)
