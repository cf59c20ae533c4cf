-- A word that is a number is what the number prints.
use Rattle.std.proofs.Common.{◌≡◌, ℕ, ◌^◌, ◌≤◌, List, Option, None, Some, IfSome, decimal, ap, ◌∙◌, arith}
use Rattle.std.specs.Option.{SomeIff}
use Rattle.std.specs.Str.Parse.{AllDigits, digits_value}
use Rattle.std.proofs.lemmas.Fmt.{decimal-digits_value}
use Rattle.std.proofs.lemmas.Str.Parse.{IsNumeralModel, numerals_by_value, tells_digits}
use Rattle.mvo_script.specs.line.Words.{IsNumber}

numerals : IsNumeralModel (AllDigits 10) (digits_value 10)
numerals = numerals_by_value (AllDigits 10) tells_digits

number_text : (k : ℕ) (w : List ℕ) → 2 ^ k ≤ 2 ^ 64 → IsNumber k w → decimal (digits_value 10 w) ≡ w
number_text k w small is = decimal-digits_value numerals w is.0.1 is.0.0 is.1 (omega (arith, is.2, small))

pub read_text : (k : ℕ) (w : List ℕ) (r : Option ℕ) → 2 ^ k ≤ 2 ^ 64 → SomeIff r (IsNumber k w) (digits_value 10 w) → IfSome r (λ n. decimal n ≡ w)
read_text k w None small read = tt
read_text k w (Some n) small read = ap decimal read.1 ∙ number_text k w small read.0
