-- A map of numbers, seen as places.
use Rattle.std.proofs.Common.{◌≡◌, ℕ, ◌/◌, ◌%◌, ◌<◌, inl, inr, List, [], ◌∷◌, Bool, true, false, cond, map, Option, None, Some, refl, sym, ap, ◌∙◌, subst, arith}
use Rattle.std.proofs.lemmas.Bool.{cond-true, cond-false, cases_Bool}
use Rattle.std.specs.Option.{option_map, IsSome}
use Rattle.std.specs.Ordering.{eq_by_cmp}
use Rattle.std.specs.FinMap.{find, get, get-entries, get-from_entries, get-empty, get-insert, get-remove, empty, insert, remove, entries, same_map}
use Rattle.mvo_types.specs.declared.row.RowKey.{RowKey}
use Rattle.mvo_types.specs.declared.limits.TheConstants.{MAX_PAIR_RECORDS}
use Rattle.mvo_types.specs.Keys.{key_cmp}
use Rattle.mvo_types.proofs.Maps.{keys_total, exact_keys}
use Rattle.mvo_hash.specs.Table.{KeyNumbers}
use Rattle.mvo_places.specs.declared.record_place.RecordPlace.{RecordPlace}
use Rattle.mvo_places.specs.Places.{PlaceMap, place, numbers_as_places, placed_by, place_numbered, number_of, AreSmall}

find-placed : (es : List (RowKey × ℕ)) (q : RowKey) → find key_cmp q (map placed_by es) ≡ option_map place_numbered (find key_cmp q es)
find-placed [] q = refl
find-placed (e ∷ es) q =
    elim (cases_Bool (eq_by_cmp key_cmp q e.0)) [
      | inl t ↦
          cond-true (eq_by_cmp key_cmp q e.0) (Some (place_numbered e.1)) (find key_cmp q (map placed_by es)) t
          ∙ sym (ap (option_map place_numbered) (cond-true (eq_by_cmp key_cmp q e.0) (Some e.1) (find key_cmp q es) t))
      | inr f ↦
          cond-false (eq_by_cmp key_cmp q e.0) (Some (place_numbered e.1)) (find key_cmp q (map placed_by es)) f
          ∙ find-placed es q
          ∙ sym (ap (option_map place_numbered) (cond-false (eq_by_cmp key_cmp q e.0) (Some e.1) (find key_cmp q es) f))
    ]

-- the place at a key is its number
pub get-placed : (m : KeyNumbers) (q : RowKey) → get (numbers_as_places m) q ≡ option_map place_numbered (get m q)
get-placed m q =
    get-from_entries keys_total (map placed_by (entries m)) q
    ∙ find-placed (entries m) q ∙ ap (option_map place_numbered) (sym (get-entries m q))

pub placed-empty : numbers_as_places empty ≡ empty
placed-empty = same_map keys_total exact_keys (numbers_as_places empty) empty (λ q.
    get-placed empty q ∙ ap (option_map place_numbered) (get-empty key_cmp q) ∙ sym (get-empty key_cmp q))

map_cond : (b : Bool) (n : ℕ) (o : Option ℕ) → option_map place_numbered (cond b (Some n) o) ≡ cond b (Some (place_numbered n)) (option_map place_numbered o)
map_cond true n o = refl
map_cond false n o = refl

map_cond_none : (b : Bool) (o : Option ℕ) → option_map place_numbered (cond b None o) ≡ cond b None (option_map place_numbered o)
map_cond_none true o = refl
map_cond_none false o = refl

pub placed-insert : (m : KeyNumbers) (k : RowKey) (n : ℕ) → numbers_as_places (insert m k n) ≡ insert (numbers_as_places m) k (place_numbered n)
placed-insert m k n = same_map keys_total exact_keys (numbers_as_places (insert m k n)) (insert (numbers_as_places m) k (place_numbered n)) (λ q.
    get-placed (insert m k n) q
    ∙ ap (option_map place_numbered) (get-insert keys_total m k n q)
    ∙ map_cond (eq_by_cmp key_cmp q k) n (get m q)
    ∙ ap (cond (eq_by_cmp key_cmp q k) (Some (place_numbered n))) (sym (get-placed m q))
    ∙ sym (get-insert keys_total (numbers_as_places m) k (place_numbered n) q))

pub placed-remove : (m : KeyNumbers) (k : RowKey) → numbers_as_places (remove m k) ≡ remove (numbers_as_places m) k
placed-remove m k = same_map keys_total exact_keys (numbers_as_places (remove m k)) (remove (numbers_as_places m) k) (λ q.
    get-placed (remove m k) q
    ∙ ap (option_map place_numbered) (get-remove keys_total m k q)
    ∙ map_cond_none (eq_by_cmp key_cmp q k) (get m q)
    ∙ ap (cond (eq_by_cmp key_cmp q k) None) (sym (get-placed m q))
    ∙ sym (get-remove keys_total (numbers_as_places m) k q))

-- ---- a place as one number

one_place : (p : RecordPlace) (file number : ℕ) → p.data_file ≡ file → p.number ≡ number → p ≡ place file number
one_place p file number a b = ap (λ x. place x p.number) a ∙ ap (place file) b

pub place_of-number_of : (p : RecordPlace) → p.number < MAX_PAIR_RECORDS → place_numbered (number_of p) ≡ p
place_of-number_of p small = sym (one_place p ((number_of p) / MAX_PAIR_RECORDS) ((number_of p) % MAX_PAIR_RECORDS) (omega (arith, small)) (omega (arith, small)))

pub number_of-place_of : (n : ℕ) → number_of (place_numbered n) ≡ n
number_of-place_of n = omega arith

number_back : (o : Option ℕ) → option_map number_of (option_map place_numbered o) ≡ o
number_back None = refl
number_back (Some n) = ap Some (number_of-place_of n)

-- the number at a key is its place
pub get_number : (m : KeyNumbers) (q : RowKey) → get m q ≡ option_map number_of (get (numbers_as_places m) q)
get_number m q = sym (number_back (get m q)) ∙ ap (option_map number_of) (sym (get-placed m q))

-- each place has a number that a pair may have
pub small_places : (m : KeyNumbers) → AreSmall (numbers_as_places m)
small_places m = record { each = λ k p e. go k p (get m k) (sym (get-placed m k) ∙ e) }
  where
    go : (k : RowKey) (p : RecordPlace) (o : Option ℕ) → option_map place_numbered o ≡ Some p → p.number < MAX_PAIR_RECORDS
    go k p None e = absurd cc
    go k p (Some n) e =
        let same : place_numbered n ≡ p = cc in
        subst (λ (x : RecordPlace). x.number < MAX_PAIR_RECORDS) same (omega arith)

some_before : (o : Option ℕ) → IsSome (option_map place_numbered o) → IsSome o
some_before None some = some
some_before (Some n) some = some

pub some_placed : (m : KeyNumbers) (q : RowKey) → IsSome (get (numbers_as_places m) q) → IsSome (get m q)
some_placed m q some = some_before (get m q) (subst (λ (o : Option RecordPlace). IsSome o) (get-placed m q) some)

none_before : (o : Option ℕ) → o ≡ None → option_map place_numbered o ≡ None
none_before o none = ap (option_map place_numbered) none

pub none_placed : (m : KeyNumbers) (q : RowKey) → get m q ≡ None → get (numbers_as_places m) q ≡ None
none_placed m q none = get-placed m q ∙ none_before (get m q) none

place_again : (o : Option RecordPlace) → ((p : RecordPlace) → o ≡ Some p → p.number < MAX_PAIR_RECORDS) → option_map place_numbered (option_map number_of o) ≡ o
place_again None small = refl
place_again (Some p) small = ap Some (place_of-number_of p (small p refl))

-- the place at a key from its number
pub place_back : (at : PlaceMap) (q : RowKey) → AreSmall at → option_map place_numbered (option_map number_of (get at q)) ≡ get at q
place_back at q small = place_again (get at q) (small.each q)
