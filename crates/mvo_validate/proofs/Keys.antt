-- A key with a number above those of all keys among some entries is not among them.
use Rattle.std.proofs.Common.{◌≡◌, ℕ, true, false, List, [], ◌∷◌, ◌++◌, refl, arith}
use Rattle.std.proofs.lemmas.Bool.{or_from, or_parts}
use Rattle.std.specs.List.{list_any}
use Rattle.mvo_types.specs.declared.entry.Entry.{Entry}
use Rattle.mvo_types.specs.declared.entry.Entry.TheVariants.{Key, Range}
use Rattle.mvo_types.specs.Entries.{has_entry, is_same}
use Rattle.mvo_validate.specs.Noted.{HasNoKeyAbove, key_above, with_key}

differs : (n : ℕ) (e f : Entry) → key_above n e ≡ true → key_above n f ≡ false → is_same e f ≡ false
differs n (Key k) (Key j) above low = grind arith
differs n (Key k) (Range table lo hi) above low = refl
differs n (Range table lo hi) f above low = cc

pub not_among : (n : ℕ) (es : List Entry) (e : Entry) → HasNoKeyAbove n es → key_above n e ≡ true → has_entry es e ≡ false
not_among n [] e none above = refl
not_among n (f ∷ es) e none above =
    let parts = or_parts (key_above n f) (list_any (key_above n) es) none in
    or_from (is_same e f) (has_entry es e) (differs n e f above parts.0) (not_among n es e parts.1 above)

itself : (n : ℕ) (e : Entry) → key_above (with_key n e) e ≡ false
itself n (Key k) = grind arith
itself n (Range table lo hi) = refl

still : (n : ℕ) (e f : Entry) → key_above n f ≡ false → key_above (with_key n e) f ≡ false
still n (Key k) (Key j) low = grind arith
still n (Key k) (Range table lo hi) low = refl
still n (Range table lo hi) f low = low

-- with one more, none has a number above the greater
pub none_above : (n : ℕ) (es : List Entry) (e : Entry) → HasNoKeyAbove n es → HasNoKeyAbove (with_key n e) (es ++ e ∷ [])
none_above n [] e none = or_from (key_above (with_key n e) e) false (itself n e) refl
none_above n (f ∷ es) e none =
    let parts = or_parts (key_above n f) (list_any (key_above n) es) none in
    or_from (key_above (with_key n e) f) (list_any (key_above (with_key n e)) (es ++ e ∷ [])) (still n e f parts.0) (none_above n es e parts.1)
