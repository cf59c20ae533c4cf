-- Reading from left to right: what stands at the front of some bytes, and the bytes after it.
use Rattle.std.specs.Prelude.{◌≡◌, ℕ, zero, suc, List, [], ◌∷◌, length, take, drop, Option, Some, None, nat_lt, if◌then◌else◌}
use Rattle.std.specs.Borrow.{Bor}
use Rattle.byteorder.specs.Endian.{little_number}

infixl 10 ◌>>=◌
abbrev pub ◌>>=◌ : {A B : Type 0} → Option A → (A → Option B) → Option B
(Some x) >>= f = f x
None >>= f = None

-- what a function found, seen by view, is what reading gives
abbrev pub ReadingGives : {X Y : Type 0} → (X → Y) → Option X → Option Y → Type 0
ReadingGives view (Some x) read = read ≡ Some (view x)
ReadingGives view None read = read ≡ None

-- the same of a value and the bytes after it
abbrev pub Reads : {X Y : Type 0} → (X → Y) → Option (X × Bor (List ℕ)) → Option (Y × List ℕ) →
    Type 0
Reads view found read = ReadingGives (λ x. (view x.0, x.1.now)) found read

-- a number of n bytes
unfoldable pub number_at : ℕ → List ℕ → Option (ℕ × List ℕ)
number_at n bytes =
    if nat_lt (length bytes) n then None else Some (little_number n bytes, drop n bytes)

-- n bytes
unfoldable pub data_at : ℕ → List ℕ → Option (List ℕ × List ℕ)
data_at n bytes = if nat_lt (length bytes) n then None else Some (take n bytes, drop n bytes)

-- n of them, one after the other
unfoldable pub times : {X : Type 0} → (List ℕ → Option (X × List ℕ)) → ℕ → List ℕ →
    Option (List X × List ℕ)
times one zero bytes = Some ([], bytes)
times one (suc n) bytes = do
  first ← one bytes
  others ← times one n first.1
  Some (first.0 ∷ others.0, others.1)
