-- The rows of live records with different keys.
use Rattle.std.proofs.Common.{◌≡◌, true, List, [], ◌∷◌, ◌++◌, refl, sym, ap, subst, ◌∙◌}
use Rattle.std.specs.Prelude.{map}
use Rattle.std.specs.List.{IsDistinct}
use Rattle.std.specs.Ordering.{eq_by_cmp, is_eq}
use Rattle.std.specs.Cmp.{eq_by_cmp_equiv}
use Rattle.std.specs.declared.cmp.Ordering.{Ordering}
use Rattle.std.specs.declared.cmp.Ordering.TheVariants.{Less, Equal, Greater}
use Rattle.std.proofs.lemmas.List.{map-append}
use Rattle.std.proofs.lemmas.List.Concat.{flat_map-cons}
use Rattle.std.proofs.lemmas.Map.Views.{lookup-from_Contains, Contains-from_lookup}
use Rattle.mvo_types.specs.declared.row.RowKey.{RowKey}
use Rattle.mvo_types.specs.RowData.{ContentData}
use Rattle.mvo_types.specs.Keys.{key_cmp}
use Rattle.mvo_types.proofs.Maps.{keys_total, exact_keys, get_held}
use Rattle.mvo_pair.specs.Data.{Numbered, key_of, keys_of}
use Rattle.mvo_places.specs.Rows.{live_row_of, live_rows_in}
use Rattle.mvo_recovery.specs.image.Laws.{RowsAreLive}

abbrev first_of : RowKey × ContentData → RowKey
first_of e = e.0

keys-map : (live : List Numbered) → map first_of (map live_row_of live) ≡ map key_of live
keys-map [] = refl
keys-map (l ∷ live) = ap (λ (ks : List RowKey). key_of l ∷ ks) (keys-map live)

keys-kept : (lives : List (List Numbered)) → map first_of (live_rows_in lives) ≡ keys_of lives
keys-kept [] = refl
keys-kept (live ∷ lives) =
    ap (λ (es : List (RowKey × ContentData)). map first_of es) (flat_map-cons (λ l. map live_row_of l) live lives)
    ∙ map-append first_of (map live_row_of live) (live_rows_in lives)
    ∙ ap (λ (ks : List RowKey). ks ++ map first_of (live_rows_in lives)) (keys-map live)
    ∙ ap (λ (ks : List RowKey). map key_of live ++ ks) (keys-kept lives)
    ∙ sym (flat_map-cons (λ l. map key_of l) live lives)

equal_of : (o : Ordering) → is_eq o ≡ true → o ≡ Equal
equal_of Less e = absurd cc
equal_of Equal e = refl
equal_of Greater e = absurd cc

same_key : (x y : RowKey) → eq_by_cmp key_cmp x y ≡ true → x ≡ y
same_key x y e = exact_keys x y (equal_of (key_cmp x y) e)

pub rows_are_live : RowsAreLive
rows_are_live lives apart k h =
    let distinct : IsDistinct (eq_by_cmp key_cmp) (map first_of (live_rows_in lives)) = subst (λ ks. IsDistinct (eq_by_cmp key_cmp) ks) (sym (keys-kept lives)) apart in (
      λ e. Contains-from_lookup same_key k h (live_rows_in lives) (sym (get_held (live_rows_in lives) k) ∙ e),
      λ c. get_held (live_rows_in lives) k ∙ lookup-from_Contains (eq_by_cmp_equiv keys_total) k h (live_rows_in lives) distinct c,
    )
