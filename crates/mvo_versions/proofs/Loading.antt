-- Versions that are loaded one after another.
use Rattle.std.proofs.Common.{◌≡◌, ℕ, ◌<◌, ◌≤◌, ◌^◌, ◌||◌, T, suc, zero, List, [], ◌∷◌, ◌++◌, map, length, None, Some, refl, sym, ap, ◌∙◌, subst, arith}
use Rattle.std.specs.Prelude.{slice_get, slice_set, slice_index_or, fold, ◌==◌, cond, Bool, true, false}
use Rattle.std.specs.List.{list_any}
use Rattle.std.specs.FinMap as fin
use Rattle.std.specs.FinMap.Entries.{below_all}
use Rattle.std.proofs.lemmas.Bool.{true≢false}
use Rattle.std.proofs.lemmas.List.{length-set}
use Rattle.std.proofs.lemmas.Map.Views.{tells_apart}
use Rattle.mvo_types.proofs.Maps.{exact_keys}
use Rattle.mvo_types.proofs.Ranges.{first, lt_not_eq, second}
use Rattle.mvo_types.specs.declared.row.RowKey.{RowKey}
use Rattle.mvo_types.specs.RowData.{RowData, ContentData, row_with}
use Rattle.mvo_types.specs.RowLists.{rows_by_key}
use Rattle.mvo_types.specs.Keys.{Map}
use Rattle.mvo_word.specs.declared.held.Held.{Held}
use Rattle.mvo_word.specs.declared.held.Held.TheVariants.{At}
use Rattle.mvo_chain.specs.declared.version.Version.{Version}
use Rattle.mvo_chain.specs.declared.version.VersionNo.{VersionNo}
use Rattle.mvo_chain.specs.Slots.{Slots, with_room, with_slot, hole_count, IsHole, added}
use Rattle.mvo_hash.specs.Lists.{Lists, numbers_of, is_among}
use Rattle.mvo_types.specs.Keys.{key_cmp}
use Rattle.mvo_range.specs.declared.sort_place.SortPlace.{SortPlace}
use Rattle.mvo_range.specs.Place.{PlaceNumbers as Places, all_added, place_cmp}
use Rattle.mvo_range.proofs.Places.{places_total}
use Rattle.mvo_validate.specs.Entries.{key_at}
use Rattle.mvo_representation.specs.Indexes.{all_versions, version_place, is_at_place, is_of_key, HasNumbers}
use Rattle.mvo_representation.specs.Versions.{loaded_from, loaded}
use Rattle.mvo_versions.specs.Changes.{is_number_at}
use Rattle.mvo_versions.specs.Loading.{as_loaded, entry_for, AreListed}
use Rattle.mvo_versions.specs.Runs.{runs_at, runs_entry, AreCounted}
use Rattle.mvo_versions.proofs.Counting.{one, one_run}
use Rattle.mvo_versions.proofs.Counted.{once_each, key_number}
use Rattle.mvo_versions.proofs.Indexing.{found_at}
use Rattle.mvo_versions.proofs.Putting.{small_room}

-- ---- slots without a hole
no_holes : (mark : Held) (rows : List RowData) → hole_count (map (as_loaded mark) rows) ≡ 0
no_holes mark [] = refl
no_holes mark (r ∷ rows) = no_holes mark rows

full_room : (mark : Held) (rows : List RowData) → with_room (map (as_loaded mark) rows) ≡ map (as_loaded mark) rows ++ None ∷ []
full_room mark rows = ap (λ (c : ℕ). cond (c == 0) (map (as_loaded mark) rows ++ None ∷ []) (map (as_loaded mark) rows)) (no_holes mark rows)

only_hole : (mark : Held) (rows : List RowData) (n : ℕ) (w : Version) → slice_get (map (as_loaded mark) rows ++ None ∷ []) n ≡ Some None → slice_set (map (as_loaded mark) rows ++ None ∷ []) n (Some w) ≡ map (as_loaded mark) rows ++ Some w ∷ []
only_hole mark [] zero w e = refl
only_hole mark [] (suc n) w e = absurd cc
only_hole mark (r ∷ rows) zero w e = absurd cc
only_hole mark (r ∷ rows) (suc n) w e = ap (λ xs. as_loaded mark r ∷ xs) (only_hole mark rows n w e)

map_behind : (mark : Held) (rows : List RowData) (r : RowData) → map (as_loaded mark) rows ++ as_loaded mark r ∷ [] ≡ map (as_loaded mark) (rows ++ r ∷ [])
map_behind mark [] r = refl
map_behind mark (q ∷ rows) r = ap (λ xs. as_loaded mark q ∷ xs) (map_behind mark rows r)

entry_behind : (mark : Held) (rows : List RowData) (r : RowData) → map (entry_for mark) rows ++ entry_for mark r ∷ [] ≡ map (entry_for mark) (rows ++ r ∷ [])
entry_behind mark [] r = refl
entry_behind mark (q ∷ rows) r = ap (λ xs. entry_for mark q ∷ xs) (entry_behind mark rows r)

-- one more
pub one_listed : (mark : Held) (done : List RowData) (slots new : Slots) (es : List (SortPlace × ℕ)) (row : RowData) (n : VersionNo) (place : SortPlace) → n.0 < 2 ^ 32 → AreListed mark done slots es → IsHole (with_room slots) n → new ≡ with_slot (with_room slots) n (Some (added row mark)) → place ≡ version_place (added row mark) → AreListed mark (done ++ row ∷ []) new (es ++ (place, 1) ∷ [])
one_listed mark done slots new es row n place few h hole s p = record {
  slots_are =
      s ∙ ap (λ (x : Slots). slice_set x n.0 (Some (added row mark))) room_is
      ∙ only_hole mark done n.0 (added row mark) (subst (λ (x : Slots). slice_get x n.0 ≡ Some None) room_is hole)
      ∙ map_behind mark done row;
  entries_are = ap (λ (x : List (SortPlace × ℕ)). x ++ (place, 1) ∷ []) h.entries_are ∙ ap (λ q. map (entry_for mark) done ++ (q, 1) ∷ []) p ∙ entry_behind mark done row;
  small = subst (λ (x : Slots). length x ≤ 2 ^ 32) (sym s) (subst (λ m. m ≤ 2 ^ 32) (sym (length-set (with_room slots) n.0 (Some (added row mark)))) (small_room slots n hole few h.small));
}
  where
    room_is : with_room slots ≡ map (as_loaded mark) done ++ None ∷ []
    room_is = ap with_room h.slots_are ∙ full_room mark done

-- ---- all of them
versions_of : (mark : ℕ) (es : List (RowKey × ContentData)) → all_versions (map (as_loaded (At (record { 0 = mark }))) (map (λ e. row_with e.0 e.1) es)) ≡ loaded_from mark es
versions_of mark [] = refl
versions_of mark (e ∷ es) = ap (λ vs. added (row_with e.0 e.1) (At (record { 0 = mark })) ∷ vs) (versions_of mark es)

pub all_loaded : (mark : ℕ) (rows : Map) (slots : Slots) → slots ≡ map (as_loaded (At (record { 0 = mark }))) (rows_by_key rows) → all_versions slots ≡ loaded rows mark
all_loaded mark rows slots e = ap all_versions e ∙ versions_of mark (fin.entries rows)

-- ---- each key has one row at most
abbrev slots_of : Held → List (RowKey × ContentData) → Slots
slots_of mark es = map (as_loaded mark) (map (λ e. row_with e.0 e.1) es)

none_below : (mark : Held) (k : RowKey) (es : List (RowKey × ContentData)) (n : ℕ) → T (below_all key_cmp k es) → is_of_key k (slice_index_or (slots_of mark es) n None) ≡ false
none_below mark k [] n h = refl
none_below mark k (e ∷ es) zero h = lt_not_eq (key_cmp k e.0) (first _ _ h)
none_below mark k (e ∷ es) (suc n) h = none_below mark k es n (second _ _ h)

sole : (mark : Held) (k : RowKey) (es : List (RowKey × ContentData)) (i j : ℕ) → T (fin.is_sorted key_cmp es) → is_of_key k (slice_index_or (slots_of mark es) i None) ≡ true → is_of_key k (slice_index_or (slots_of mark es) j None) ≡ true → i ≡ j
sole mark k [] i j s a b = absurd (true≢false (sym a))
sole mark k (e ∷ es) zero zero s a b = refl
sole mark k (e ∷ es) zero (suc j) s a b = absurd (true≢false (sym b ∙ none_below mark k es j (subst (λ q. T (below_all key_cmp q es)) (sym (tells_apart exact_keys k e.0 a)) (first _ _ s))))
sole mark k (e ∷ es) (suc i) zero s a b = absurd (true≢false (sym a ∙ none_below mark k es i (subst (λ q. T (below_all key_cmp q es)) (sym (tells_apart exact_keys k e.0 b)) (first _ _ s))))
sole mark k (e ∷ es) (suc i) (suc j) s a b = ap suc (sole mark k es i j (second _ _ s) a b)

-- ---- the entries
abbrev added_to : Places → List (SortPlace × ℕ) → Places
added_to m es = fold (λ (n : Places) (f : SortPlace × ℕ). fin.insert n f.0 f.1) m es

entry_at : (mark : Held) (rows : List RowData) (m : Places) (p : SortPlace) → fin.get (added_to m (map (entry_for mark) rows)) p ≡ cond (list_any (is_at_place p) (all_versions (map (as_loaded mark) rows))) (Some 1) (fin.get m p)
entry_at mark [] m p = refl
entry_at mark (r ∷ rows) m p =
    entry_at mark rows (fin.insert m (version_place (added r mark)) 1) p
    ∙ ap (cond (list_any (is_at_place p) (all_versions (map (as_loaded mark) rows))) (Some 1)) (fin.get-insert places_total m (version_place (added r mark)) 1 p)
    ∙ go (is_at_place p (added r mark)) (list_any (is_at_place p) (all_versions (map (as_loaded mark) rows)))
  where
    go : (a b : Bool) → cond b (Some 1) (cond a (Some 1) (fin.get m p)) ≡ cond (a || b) (Some 1) (fin.get m p)
    go true true = refl
    go true false = refl
    go false b = refl

one_entry : (b : Bool) → cond b (Some 1) None ≡ runs_entry (one b)
one_entry true = refl
one_entry false = refl

pub loaded_runs : (mark : Held) (rows : Map) (slots : Slots) (lists : Lists) (p : SortPlace) → slots ≡ map (as_loaded mark) (rows_by_key rows) → HasNumbers slots lists → fin.get (all_added (map (entry_for mark) (rows_by_key rows))) p ≡ runs_entry (runs_at slots lists p)
loaded_runs mark rows slots lists p s h =
    entry_at mark (rows_by_key rows) fin.empty p
    ∙ ap (cond (list_any (is_at_place p) (all_versions (map (as_loaded mark) (rows_by_key rows)))) (Some 1)) (fin.get-empty place_cmp p)
    ∙ one_entry (list_any (is_at_place p) (all_versions (map (as_loaded mark) (rows_by_key rows))))
    ∙ ap (λ (x : Slots). runs_entry (one (list_any (is_at_place p) (all_versions x)))) (sym s)
    ∙ ap (λ b. runs_entry (one b)) (sym (found_at slots lists p h))
    ∙ ap runs_entry (sym (one_run (is_number_at slots p) (numbers_of lists (key_at p)) alone (once_each slots lists (key_at p) h)))
  where
    alone : (i j : ℕ) → is_among i (numbers_of lists (key_at p)) ≡ true → is_among j (numbers_of lists (key_at p)) ≡ true → i ≡ j
    alone i j a b = sole mark (key_at p) (fin.entries rows) i j (fin.entries_sorted rows)
        (ap (λ (x : Slots). is_of_key (key_at p) (slice_index_or x i None)) (sym s) ∙ key_number slots lists (key_at p) i h a)
        (ap (λ (x : Slots). is_of_key (key_at p) (slice_index_or x j None)) (sym s) ∙ key_number slots lists (key_at p) j h b)

-- as the loop has it at first
pub none_listed : (mark : Held) (slots : Slots) (es : List (SortPlace × ℕ)) → slots ≡ [] → es ≡ [] → AreListed mark [] slots es
none_listed mark slots es s e = record { slots_are = s; entries_are = e; small = subst (λ (x : Slots). length x ≤ 2 ^ 32) (sym s) (omega arith) }

-- with both indexes
pub loaded_counted : (mark : Held) (rows : Map) (slots : Slots) (lists : Lists) (es : List (SortPlace × ℕ)) (places : Places) → AreListed mark (rows_by_key rows) slots es → HasNumbers slots lists → places ≡ all_added es → AreCounted (record { slots = slots; lists = lists; places = places })
loaded_counted mark rows slots lists es places h numbers p = record {
  numbers = numbers;
  runs = λ q. ap (λ (x : Places). fin.get x q) (p ∙ ap all_added h.entries_are) ∙ loaded_runs mark rows slots lists q h.slots_are numbers;
  small = h.small;
}
