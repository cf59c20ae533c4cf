-- The record at the front of some bytes is that of all bytes that begin so.
use Rattle.std.proofs.Common.{◌≡◌, ℕ, ◌+◌, ◌≤◌, ◌<◌, Bool, true, false, cond, ltb, List, ◌++◌, length, take, drop, Option, Some, None, Ok, Err, refl, sym, ap, ◌∙◌, arith}
use Rattle.std.specs.Prelude.{◌&&◌}
use Rattle.std.proofs.lemmas.Bool.{le-ltb}
use Rattle.std.proofs.lemmas.List.{take-take, drop-take, take_at, drop_at, length-take, length-append}
use Rattle.byteorder.specs.Endian.{little_from}
use Rattle.byteorder.specs.Numbers.{little_from-take, little_from-lt}
use Rattle.mvo_bytes.proofs.Fields.{IsBytes, IsBytes-drop}
use Rattle.mvo_format.specs.declared.format.Format.{Format}
use Rattle.mvo_pair.specs.declared.reading.TheConstants.{MOST_RECORD}
use Rattle.mvo_pair.specs.declared.unread.Unread.TheVariants.{Broken}
use Rattle.mvo_pair.specs.Data.{EntryData}
use Rattle.mvo_pair.specs.Reading.{number_in, len_of, len_found, first_entry, entry_at, keeps}
use Rattle.mvo_pair.specs.Coming.{LastRead, is_behind, record_kept, record_found}
use Rattle.mvo_pair.proofs.Places.{entry_whole, entry_none}
use Rattle.mvo_pair.proofs.Spelled.{whole_len}

-- ---- what the first m bytes say

module _ (m : ℕ) (x y : List ℕ) (same : take m x ≡ take m y) where
  part_same : (n k : ℕ) → k + n ≤ m → take n (drop k x) ≡ take n (drop k y)
  part_same n k le =
      sym (drop-take k n x)
      ∙ ap (λ (l : List ℕ). drop k l) (sym (take-take (k + n) m x le) ∙ ap (λ (l : List ℕ). take (k + n) l) same ∙ take-take (k + n) m y le)
      ∙ drop-take k n y

  pub number_same : (n k : ℕ) → k + n ≤ m → number_in n (drop k x) ≡ number_in n (drop k y)
  unfolding number_in
  number_same n k le =
      sym (little_from-take 0 n n (drop k x) (omega arith)) ∙ ap (λ (l : List ℕ). little_from 0 n l) (part_same n k le) ∙ little_from-take 0 n n (drop k y) (omega arith)

  first_same : m ≡ 27 + number_in 2 (drop 25 x) → first_entry x ≡ first_entry y
  unfolding first_entry
  first_same is =
      let len = number_same 2 25 (omega (arith, is)) in
      let text : take (number_in 2 (drop 25 x)) (drop 27 x) ≡ take (number_in 2 (drop 25 y)) (drop 27 y) = part_same (number_in 2 (drop 25 x)) 27 (omega (arith, is)) ∙ ap (λ n. take n (drop 27 y)) len in
      rw (number_same 8 0 (omega (arith, is)), number_same 1 8 (omega (arith, is)), number_same 8 9 (omega (arith, is)), number_same 8 17 (omega (arith, is)), text) refl

-- a record that is whole there
whole_there : (bytes : List ℕ) (len : ℕ) → len ≡ 27 + number_in 2 (drop 25 bytes) → len ≤ length bytes → len_found bytes ≡ Some len
unfolding len_found len_of
whole_there bytes len is le =
    let a : ltb (length bytes) 27 ≡ false = le-ltb _ _ (omega (arith, is, le)) in
    let b : ltb (length bytes) (27 + number_in 2 (drop 25 bytes)) ≡ false = le-ltb _ _ (omega (arith, is, le)) in
    rw (a, b) (ap (λ n. Some n) (sym is))

module _ (x y : List ℕ) (len : ℕ) (whole : len_found x ≡ Some len) (same : take len x ≡ take len y) (long : len ≤ length y) where
  len_there : len_found y ≡ Some len
  len_there =
      let w = whole_len x len whole in
      whole_there y len (w.0 ∙ ap (λ n. 27 + n) (number_same len x y same 2 25 (omega (arith, w.0)))) long

  entry_there : entry_at y ≡ Some (first_entry x, drop len y)
  entry_there = let w = whole_len x len whole in entry_whole y len len_there ∙ ap (λ e. Some (e, drop len y)) (sym (first_same len x y same w.0))

  module _ (f : Format) (lo hi : ℕ) (last : LastRead) where
    pub next_kept_there : (keeps f lo hi (first_entry x) && is_behind last (first_entry x)) ≡ true → record_found f lo hi last y ≡ Ok (first_entry x, drop len y)
    unfolding record_found
    next_kept_there is = ap (record_kept f lo hi last) entry_there ∙ ap (λ t. cond t (Ok (first_entry x, drop len y)) (Err Broken)) is

    pub next_broken_there : (keeps f lo hi (first_entry x) && is_behind last (first_entry x)) ≡ false → record_found f lo hi last y ≡ Err Broken
    unfolding record_found
    next_broken_there is = ap (record_kept f lo hi last) entry_there ∙ ap (λ t. cond t (Ok (first_entry x, drop len y)) (Err Broken)) is

-- ---- the front of some bytes

module _ (f : Format) (lo hi : ℕ) (last : LastRead) (bytes : List ℕ) (len : ℕ) (whole : len_found bytes ≡ Some len) where
  module _ (e : EntryData) (is : e ≡ first_entry bytes) where
    abbrev test : Bool
    test = keeps f lo hi e && is_behind last e

    abbrev first_test : Bool
    first_test = keeps f lo hi (first_entry bytes) && is_behind last (first_entry bytes)

    same_test : (t : Bool) → test ≡ t → first_test ≡ t
    same_test t h = sym (ap (λ x. keeps f lo hi x && is_behind last x) is) ∙ h

    pub next_is : test ≡ true → (rest : List ℕ) → record_found f lo hi last (take len bytes ++ rest) ≡ Ok (e, rest)
    next_is h rest =
        let w = whole_len bytes len whole in
        let fits : length (take len bytes) ≡ len = omega (arith, length-take len bytes, w.0, w.1) in
        let same : take len bytes ≡ take len (take len bytes ++ rest) = sym (take_at (take len bytes) rest len fits) in
        let long : len ≤ length (take len bytes ++ rest) = omega (arith, length-append (take len bytes) rest, fits) in
        next_kept_there bytes (take len bytes ++ rest) len whole same long f lo hi last (same_test true h)
        ∙ ap (λ (l : List ℕ). Ok (first_entry bytes, l)) (drop_at (take len bytes) rest len fits) ∙ ap (λ x. Ok (x, rest)) (sym is)

    pub next_breaks : test ≡ false → (n : ℕ) (body : List ℕ) → bytes ≡ take n body → record_found f lo hi last body ≡ Err Broken
    next_breaks h n body front =
        let w = whole_len bytes len whole in
        let many : length bytes ≡ length (take n body) = ap (λ (l : List ℕ). length l) front in
        let same : take len bytes ≡ take len body = ap (λ (l : List ℕ). take len l) front ∙ take-take len n body (omega (arith, w.0, w.1, many, length-take n body)) in
        next_broken_there bytes body len whole same (omega (arith, w.0, w.1, many, length-take n body)) f lo hi last (same_test false h)

pub next_lacks : (f : Format) (lo hi : ℕ) (last : LastRead) (bytes : List ℕ) → IsBytes bytes → len_found bytes ≡ None → (n : ℕ) (body : List ℕ) → MOST_RECORD ≤ n → bytes ≡ take n body → record_found f lo hi last body ≡ Err Broken
unfolding record_found number_in
next_lacks f lo hi last bytes fits lacks n body le front = ap (record_kept f lo hi last) (entry_none body (none (len_found body) refl))
  where
    small : number_in 2 (drop 25 bytes) < 65536
    small = let h = little_from-lt 0 2 (drop 25 bytes) (IsBytes-drop 25 bytes fits) in omega (arith, h)

    none : (o : Option ℕ) → len_found body ≡ o → len_found body ≡ None
    none None is = is
    none (Some len) is =
        let w = whole_len body len is in
        let same : take 27 body ≡ take 27 bytes = sym (take-take 27 n body (omega (arith, le))) ∙ ap (λ (l : List ℕ). take 27 l) (sym front) in
        let number : number_in 2 (drop 25 body) ≡ number_in 2 (drop 25 bytes) = number_same 27 body bytes same 2 25 (omega arith) in
        let short : len ≤ n = omega (arith, w.0, number, small, le) in
        let there : len_found bytes ≡ Some len = len_there body bytes len is (sym (take-take len n body short) ∙ ap (λ (l : List ℕ). take len l) (sym front)) (omega (arith, w.0, w.1, short, length-take n body, ap (λ (l : List ℕ). length l) front)) in
        absurd cc
