-- A version that was put and taken out again leaves the versions as they were.
use Rattle.std.proofs.Common.{◌≡◌, ℕ, Bool, true, false, cond, not, ◌∷◌, None, Some, refl, sym, ap, ◌∙◌, inr}
use Rattle.std.specs.Ordering.{eq_by_cmp}
use Rattle.std.specs.FinMap as fin
use Rattle.std.proofs.lemmas.Bool.{eq-eqb}
use Rattle.std.proofs.lemmas.List.{get_or-set_same}
use Rattle.std.proofs.lemmas.Map.Views.{tells_apart}
use Rattle.std.proofs.lemmas.Cmp.{eq_by_cmp_equiv}
use Rattle.mvo_types.proofs.Maps.{exact_keys, keys_total}
use Rattle.mvo_types.specs.declared.row.RowKey.{RowKey}
use Rattle.mvo_types.specs.RowData.{RowData}
use Rattle.mvo_types.specs.Keys.{key_cmp}
use Rattle.mvo_chain.specs.declared.version.VersionNo.{VersionNo}
use Rattle.mvo_chain.specs.Slots.{version_at, with_room, with_slot}
use Rattle.mvo_hash.specs.Lists.{Lists, numbers_of, without_number, IsNewNumber}
use Rattle.mvo_hash.proofs.Unlinks.{without_absent}
use Rattle.mvo_visible.specs.Fronts.{with_new, with_less}
use Rattle.mvo_representation.specs.Steps.{fresh}
use Rattle.mvo_representation.proofs.Numbers.{numbers_with}
use Rattle.mvo_versions.specs.Data.{VersionsData}
use Rattle.mvo_versions.specs.Changes.{IsPut, IsTakenOut}
use Rattle.mvo_versions.proofs.Indexing.{emptied_again, hole_inside}
use Rattle.mvo_core.specs.Looking.{HasSameVersions}

-- a new number that is taken out again
numbers_back : (lists : Lists) (k : RowKey) (n : ℕ) → IsNewNumber lists n → (q : RowKey) → numbers_of (with_less (with_new lists k n) k n) q ≡ numbers_of lists q
numbers_back lists k n unused q =
    numbers_with (with_new lists k n) k (without_number n (numbers_of (with_new lists k n) k)) q
    ∙ go (eq_by_cmp key_cmp q k) refl
  where
    here : numbers_of (with_new lists k n) k ≡ n ∷ numbers_of lists k
    here = numbers_with lists k (n ∷ numbers_of lists k) k
        ∙ ap (λ b. cond b (n ∷ numbers_of lists k) (numbers_of lists k)) ((eq_by_cmp_equiv keys_total).refl k)

    less : without_number n (numbers_of (with_new lists k n) k) ≡ numbers_of lists k
    less = ap (without_number n) here
        ∙ ap (λ b. cond (not b) (n ∷ without_number n (numbers_of lists k)) (without_number n (numbers_of lists k))) (eq-eqb n n refl)
        ∙ without_absent n (numbers_of lists k) (unused.at k)

    go : (b : Bool) → eq_by_cmp key_cmp q k ≡ b
        → cond b (without_number n (numbers_of (with_new lists k n) k)) (numbers_of (with_new lists k n) q) ≡ numbers_of lists q
    go true e = less ∙ ap (numbers_of lists) (sym (tells_apart exact_keys q k e))
    go false e = numbers_with lists k (n ∷ numbers_of lists k) q ∙ ap (λ b. cond b (n ∷ numbers_of lists k) (numbers_of lists q)) e

pub taken_back : (old between new : VersionsData) (row : RowData) (t : ℕ) (n : VersionNo) → IsPut old between row t n → IsTakenOut between new n → HasSameVersions old new
taken_back old between new row t n put out = record {
  slots = inr (out.slots ∙ ap (λ ss. with_slot ss n None) put.slots ∙ emptied_again (with_room old.slots) n.0 (fresh t row) put.hole);
  numbers = λ k.
      ap (λ l. numbers_of l k) (out.lists (fresh t row) there ∙ ap (λ l. with_less l row.key n.0) put.lists)
      ∙ numbers_back old.lists row.key n.0 put.unused k;
} where
  there : version_at between.slots n ≡ Some (fresh t row)
  there = ap (λ ss. version_at ss n) put.slots
      ∙ get_or-set_same (with_room old.slots) n.0 (Some (fresh t row)) None (hole_inside (with_room old.slots) n.0 put.hole)
