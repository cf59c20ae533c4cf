-- The words of a script's line.
use Rattle.std.specs.Prelude.{◌≡◌, ℕ, ◌%◌, ◌^◌, ◌<◌, ◌≤◌, ◌⊎◌, ◌||◌, ◌&&◌, Bool, IsTrue, nat_le, List, [], length, codes, slice_index}
use Rattle.std.specs.List.{list_all}
use Rattle.std.specs.Str.Parse.{IsNumeral, digits_value}
use Rattle.mvo_script.specs.declared.line.words.TheConstants.{MAX_NAME_LEN}

-- one of a to z or 0 to 9
abbrev pub is_name_byte : ℕ → Bool
is_name_byte b = (nat_le 97 b && nat_le b 122) || (nat_le 48 b && nat_le b 57)

-- one of 0 to 9 or a to f
abbrev pub is_hex_byte : ℕ → Bool
is_hex_byte b = (nat_le 48 b && nat_le b 57) || (nat_le 97 b && nat_le b 102)

-- 1 to 16 of a to z and 0 to 9
abbrev pub IsName : List ℕ → Type 0
IsName w = (0 < length w) × (length w ≤ MAX_NAME_LEN) × IsTrue (list_all is_name_byte w)

-- digits that write a number of at most k bits, with a zero in front only where it is the number
abbrev pub IsNumber : ℕ → List ℕ → Type 0
IsNumber k w = IsNumeral 10 w × (slice_index w 0 ≡ 48 → length w ≡ 1) × (digits_value 10 w < 2 ^ k)

-- one byte or more in lower-case hexadecimal digits
abbrev pub IsHex : List ℕ → Type 0
IsHex w = (0 < length w) × (length w % 2 ≡ 0) × IsTrue (list_all is_hex_byte w)

-- the digits of the data that a word stands for: `-` stands for no bytes
abbrev pub IsDataOf : List ℕ → List ℕ → Type 0
IsDataOf w d = ((w ≡ codes "-") × (d ≡ [])) ⊎ (IsHex w × (d ≡ w))
