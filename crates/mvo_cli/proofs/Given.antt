-- What the words behind a command give.
use Rattle.std.proofs.Common.{◌≡◌, ◌∙◌, ◌≤◌, ℕ, List, Option, Some, None, Result, Ok, Err, ap, sym, map, option_map, codes}
use Rattle.std.specs.Prelude.{IfSome}
use Rattle.std.specs.Str.Parse.{digits_value, without_leading_plus}
use Rattle.std.specs.Borrow.{Bor}
use Rattle.std.specs.Result.{OkIff, result_ok}
use Rattle.clap.specs.Words.{Row, Text, all_of, first_of, first_value, found_of, matched_of, raw_values, rows_of}
use Rattle.clap.specs.declared.ArgMatches.{ArgMatches}
use Rattle.mvo_cli.specs.Tasks.{HasCount}
use Rattle.mvo_cli.specs.declared.workers.Workers.{Workers}
use Rattle.mvo_front.specs.declared.workers.TheConstants.{MAX_WORKERS}
use Rattle.clap.proofs.WalkLemmas.{first_value-rows, raw_values-rows}

pub given : (m : ArgMatches) (id : Text) (r s : Option (Bor Text)) → option_map (λ t. t.now) r ≡ first_value (found_of m) id → r ≡ s → first_of id (rows_of (found_of m)) ≡ option_map (λ t. t.now) s
given m id r s e is = sym (first_value-rows (found_of m) id) ∙ (sym e ∙ ap (option_map (λ t. t.now)) is)

pub given_all : (m : ArgMatches) (id : Text) (r s : Option (Bor (List (Bor Text)))) → option_map (λ t. map (λ v. v.now) t.now) r ≡ option_map raw_values (matched_of (found_of m) id) → r ≡ s
    → all_of id (rows_of (found_of m)) ≡ option_map (λ t. map (λ v. v.now) t.now) s
given_all m id r s e is = sym (raw_values-rows (found_of m) id) ∙ (sym e ∙ ap (option_map (λ t. map (λ v. v.now) t.now)) is)

some_eq : {x y : ℕ} → Some x ≡ Some y → x ≡ y
some_eq e = ap (λ (o : Option ℕ). option_value o) e
  where
    option_value : Option ℕ → ℕ
    option_value (Some x) = x
    option_value None = 0

pub number : {E : Type 0} (r : Result ℕ E) (P : Type 0) (v t : ℕ) → OkIff r P v → result_ok r ≡ Some t → t ≡ v
number (Ok x) P v t iff is = sym (some_eq is) ∙ iff.1
number (Err e) P v t iff is = absurd (cc)

pub has_count : (option : Text) (rows : List Row) (text : Text) (count : ℕ) (r : Option Workers) → first_of option rows ≡ Some text → count ≡ digits_value 10 (without_leading_plus text)
    → IfSome r (λ w. (w.count ≡ count) × (1 ≤ w.count) × (w.count ≤ MAX_WORKERS)) → IfSome r (λ w. HasCount option rows w.count)
has_count option rows text count None at is h = tt
has_count option rows text count (Some w) at is h = (text, at, h.0 ∙ is, h.1, h.2)
