-- What a checkpoint makes of the places, a part of it after another.
use Rattle.std.proofs.Common.{◌≡◌, inl, inr, ℕ, ◌+◌, ◌-◌, ◌≤◌, List, [], ◌++◌, length, take, drop, sym, ap, ◌∙◌, arith}
use Rattle.std.specs.Prelude.{min}
use Rattle.std.specs.List.{enumerate_from}
use Rattle.std.specs.FinMap.{remove}
use Rattle.std.proofs.lemmas.List.{take_all, take-append-drop, take-take, drop-take, take_min, drop_all}
use Rattle.std.proofs.lemmas.Bool.{cases_lt}
use Rattle.std.proofs.lemmas.Grind.{fold-append}
use Rattle.mvo_types.specs.declared.row.RowKey.{RowKey}
use Rattle.mvo_pair.specs.Data.{EntryData}
use Rattle.mvo_places.specs.Places.{PlaceMap, with_live, without_keys, taken_places, taken_upto}

-- ---- none, and all

pub none_taken : (file : ℕ) (es : List EntryData) (gone : List RowKey) (at : PlaceMap) → taken_upto file es gone 0 at ≡ at
none_taken file es gone at =
    let none : 0 - length gone ≡ 0 = omega arith in
    ap (λ (n : ℕ). taken_places file (take n es) (take 0 gone) at) none

pub all_taken : (file : ℕ) (es : List EntryData) (gone : List RowKey) (at : PlaceMap) → taken_upto file es gone (length gone + length es) at ≡ taken_places file es gone at
all_taken file es gone at =
    let many : length es ≤ length gone + length es - length gone = omega arith in
    let most : length gone ≤ length gone + length es = omega arith in
    ap (λ (xs : List EntryData). taken_places file xs (take (length gone + length es) gone) at) (take_all (length gone + length es - length gone) es many)
    ∙ ap (λ (ks : List RowKey). taken_places file es ks at) (take_all (length gone + length es) gone most)

-- ---- one part behind another

-- what lies between two places
pub part_between : (ks : List RowKey) (from upto : ℕ) → from ≤ upto → take (upto - from) (drop from ks) ≡ drop from (take upto ks)
part_between ks from upto le =
    let end : from + (upto - from) ≡ upto = omega (arith, le) in
    sym (drop-take from (upto - from) ks) ∙ ap (λ (n : ℕ). drop from (take n ks)) end

-- keys go behind those that went before
pub removed_upto : (gone : List RowKey) (from upto : ℕ) (at : PlaceMap) → from ≤ upto → without_keys (drop from (take upto gone)) (without_keys (take from gone) at) ≡ without_keys (take upto gone) at
removed_upto gone from upto at le =
    let split : take from gone ++ drop from (take upto gone) ≡ take upto gone = ap (λ (ks : List RowKey). ks ++ drop from (take upto gone)) (sym (take-take from upto gone le)) ∙ take-append-drop from (take upto gone) in
    sym (fold-append (λ (m : PlaceMap) (k : RowKey). remove m k) at (take from gone) (drop from (take upto gone))) ∙ ap (λ (ks : List RowKey). without_keys ks at) split

-- Where the first changes are made and the next of the keys go, those records have their places
-- that had them before.
pub records_stay : (file : ℕ) (es : List EntryData) (gone : List RowKey) (from upto : ℕ) (at old : PlaceMap) → from ≤ upto → old ≡ taken_upto file es gone from at
    → without_keys (drop (min from (length gone)) (take (min upto (length gone)) gone)) old ≡ with_live file (enumerate_from 0 (take (min (from - length gone) (length es)) es)) (without_keys (take upto gone) at)
records_stay file es gone from upto at old le is =
    elim (cases_lt from (length gone)) [
      | inl less ↦
          let none : from - length gone ≡ 0 = omega (arith, less) in
          let here : min from (length gone) ≡ from = omega (arith, less) in
          let below : from ≤ min upto (length gone) = omega (arith, less, le) in
          let no_records : old ≡ without_keys (take from gone) at = is ∙ ap (λ (n : ℕ). taken_places file (take n es) (take from gone) at) none in
          let no_more : min (from - length gone) (length es) ≡ 0 = omega (arith, none) in
          ap (λ (n : ℕ). without_keys (drop n (take (min upto (length gone)) gone)) old) here
          ∙ ap (λ (m : PlaceMap). without_keys (drop from (take (min upto (length gone)) gone)) m) no_records
          ∙ removed_upto gone from (min upto (length gone)) at below
          ∙ ap (λ (ks : List RowKey). without_keys ks at) (take_min upto gone)
          ∙ sym (ap (λ (n : ℕ). with_live file (enumerate_from 0 (take n es)) (without_keys (take upto gone) at)) no_more)
      | inr all ↦
          let first : min from (length gone) ≡ length gone = omega (arith, all) in
          let last : min upto (length gone) ≡ length gone = omega (arith, all, le) in
          let whole : take (length gone) gone ≡ gone = take_all (length gone) gone (omega arith) in
          let rest : drop (length gone) gone ≡ [] = drop_all (length gone) gone (omega arith) in
          let same : take from gone ≡ take upto gone = take_all from gone all ∙ sym (take_all upto gone (omega (arith, all, le))) in
          ap (λ (n : ℕ). without_keys (drop n (take (min upto (length gone)) gone)) old) first
          ∙ ap (λ (n : ℕ). without_keys (drop (length gone) (take n gone)) old) last
          ∙ ap (λ (ks : List RowKey). without_keys (drop (length gone) ks) old) whole
          ∙ ap (λ (ks : List RowKey). without_keys ks old) rest
          ∙ is
          ∙ ap (λ (ks : List RowKey). with_live file (enumerate_from 0 (take (from - length gone) es)) (without_keys ks at)) same
          ∙ sym (ap (λ (xs : List EntryData). with_live file (enumerate_from 0 xs) (without_keys (take upto gone) at)) (take_min (from - length gone) es))
    ]

-- with those records that are put then
pub records_then : (file : ℕ) (es : List EntryData) (gone : List RowKey) (upto : ℕ) (at : PlaceMap) → with_live file (enumerate_from 0 (take (min (upto - length gone) (length es)) es)) (without_keys (take upto gone) at) ≡ taken_upto file es gone upto at
records_then file es gone upto at = ap (λ (xs : List EntryData). with_live file (enumerate_from 0 xs) (without_keys (take upto gone) at)) (take_min (upto - length gone) es)
