-- The places of one more pair's live records.
use Rattle.std.proofs.Common.{◌≡◌, inl, inr, ℕ, true, false, List, [], ◌∷◌, ◌++◌, length, Option, None, Some, refl, sym, ap, subst, ◌∙◌, append_assoc, arith, length-append}
use Rattle.std.specs.Prelude.{map}
use Rattle.std.specs.List.{AllByRecursion, IsDistinct}
use Rattle.std.specs.FinMap.{find, from_entries, from_entries_push}
use Rattle.std.proofs.lemmas.List.{map-append, append-nil}
use Rattle.std.proofs.lemmas.List.Concat.{flat_map-append, flat_map-cons}
use Rattle.mvo_types.specs.declared.row.RowKey.{RowKey}
use Rattle.mvo_types.specs.Keys.{key_cmp}
use Rattle.mvo_types.proofs.Maps.{keys_total, exact_keys}
use Rattle.mvo_pair.specs.Data.{Numbered, key_of, keys_of}
use Rattle.mvo_pair.specs.declared.pair.Pair.{Pair}
use Rattle.mvo_places.specs.declared.record_place.RecordPlace.{RecordPlace}
use Rattle.mvo_places.specs.Places.{PlaceMap, place, places_in, record_places, Rise, with_live}
use Rattle.mvo_places.specs.Laws.{NoPlaces, PlacesGrow}
use Rattle.mvo_places.proofs.Members.{Among, among_map}
use Rattle.mvo_places.proofs.Keys.{eq, eq_self}
use Rattle.mvo_places.proofs.Held.{Entries, first_of, found_among, keys-places_of}

-- a key that stands behind others isn't one of them
pub differs_before : (xs : List RowKey) (k : RowKey) (ys : List RowKey) (x : RowKey) → IsDistinct eq (xs ++ k ∷ ys) → Among xs x → eq x k ≡ false
unfolding IsDistinct
differs_before [] k ys x differ a = absurd a
differs_before (z ∷ xs) k ys x differ (inl e) = subst (λ y. eq y k ≡ false) e (here xs differ.0)
  where
    here : (zs : List RowKey) → AllByRecursion (λ y. eq z y ≡ false) (zs ++ k ∷ ys) → eq z k ≡ false
    here [] all = all.0
    here (v ∷ zs) all = here zs all.1
differs_before (z ∷ xs) k ys x differ (inr a) = differs_before xs k ys x differ.1 a

not_found : (es : Entries) (k : RowKey) (ys : List RowKey) → IsDistinct eq (map first_of es ++ k ∷ ys) → find key_cmp k es ≡ None
not_found es k ys differ = go (find key_cmp k es) refl
  where
    go : (o : Option RecordPlace) → find key_cmp k es ≡ o → o ≡ None
    go None is = refl
    go (Some v) is =
        let same : eq k k ≡ false = differs_before (map first_of es) k ys k differ (among_map first_of es (k, v) (found_among es k v is)) in
        let both : true ≡ false = sym (eq_self k) ∙ same in
        absurd cc

-- new keys go behind the others
pub grown : (file : ℕ) (live : List Numbered) (es : Entries) → IsDistinct eq (map first_of es ++ map key_of live) → with_live file live (from_entries es) ≡ from_entries {R = key_cmp} (es ++ places_in file live)
grown file [] es differ = ap (λ (l : Entries). from_entries {R = key_cmp} l) (sym (append-nil es))
grown file (l ∷ live) es differ =
    let v = place file l.0 in
    let more : Entries = es ++ (key_of l, v) ∷ [] in
    let keys : map first_of more ++ map key_of live ≡ map first_of es ++ key_of l ∷ map key_of live =
    ap (λ (ks : List RowKey). ks ++ map key_of live) (map-append first_of es ((key_of l, v) ∷ [])) ∙ append_assoc (map first_of es) (key_of l ∷ []) (map key_of live) in
    ap (λ (m : PlaceMap). with_live file live m) (sym (from_entries_push keys_total exact_keys es (key_of l) v (not_found es (key_of l) (map key_of live) differ)))
    ∙ grown file live more (subst (λ (ks : List RowKey). IsDistinct eq ks) (sym keys) differ)
    ∙ ap (λ (x : Entries). from_entries {R = key_cmp} x) (append_assoc es ((key_of l, v) ∷ []) (places_in file live))

pub places-push : (ps : List Pair) (lives : List (List Numbered)) (p : Pair) (live : List Numbered) → length ps ≡ length lives → record_places (ps ++ p ∷ []) (lives ++ live ∷ []) ≡ record_places ps lives ++ places_in p.data_file live
places-push [] [] p live same = append-nil (places_in p.data_file live)
places-push [] (m ∷ lives) p live same = absurd (omega (arith, same))
places-push (q ∷ ps) [] p live same = absurd (omega (arith, same))
places-push (q ∷ ps) (m ∷ lives) p live same =
    ap (λ (es : Entries). places_in q.data_file m ++ es) (places-push ps lives p live (omega (arith, same)))
    ∙ sym (append_assoc (places_in q.data_file m) (record_places ps lives) (places_in p.data_file live))

pub rise-push : (lives : List (List Numbered)) (live : List Numbered) → AllByRecursion Rise lives → Rise live → AllByRecursion Rise (lives ++ live ∷ [])
rise-push [] live all up = (up, tt)
rise-push (m ∷ lives) live all up = (all.0, rise-push lives live all.1 up)

pub keys-push : (lives : List (List Numbered)) (live : List Numbered) → keys_of (lives ++ live ∷ []) ≡ keys_of lives ++ map key_of live
keys-push lives live =
    flat_map-append (λ l. map key_of l) lives (live ∷ [])
    ∙ ap (λ (ks : List RowKey). keys_of lives ++ ks) (flat_map-cons (λ l. map key_of l) live [] ∙ append-nil (map key_of live))

pub places_grow : PlacesGrow
places_grow ps lives at p live are files apart up =
    let keys : keys_of (lives ++ live ∷ []) ≡ map first_of (record_places ps lives) ++ map key_of live =
    keys-push lives live ∙ ap (λ (ks : List RowKey). ks ++ map key_of live) (sym (keys-places_of ps lives are.each)) in
    record {
      each = omega (arith, length-append ps (p ∷ []), length-append lives (live ∷ []), are.each);
      files = files;
      apart = apart;
      rise = rise-push lives live are.rise up;
      are = ap (λ (m : PlaceMap). with_live p.data_file live m) are.are
          ∙ grown p.data_file live (record_places ps lives) (subst (λ (ks : List RowKey). IsDistinct eq ks) keys apart)
          ∙ ap (λ (es : Entries). from_entries {R = key_cmp} es) (sym (places-push ps lives p live are.each));
    }

pub no_places : NoPlaces
unfolding IsDistinct
no_places = record { each = refl; files = tt; apart = tt; rise = tt; are = refl }
