-- The places after a checkpoint is taken over.
use Rattle.std.proofs.Common.{◌≡◌, ℕ, Bool, true, false, cond, List, [], ◌∷◌, ◌++◌, length, Option, None, Some, refl, sym, ap, subst, ◌∙◌, arith, length-append}
use Rattle.std.specs.Prelude.{map, filter, not}
use Rattle.std.specs.List.{AllByRecursion, IsDistinct, enumerate_from, list_any}
use Rattle.std.specs.FinMap.{find, get, get-from_entries, from_entries, same_map}
use Rattle.std.proofs.lemmas.Bool.{false_from_ne_true}
use Rattle.std.proofs.lemmas.List.{length-map}
use Rattle.std.proofs.lemmas.List.Elements.{filter-append}
use Rattle.mvo_types.specs.declared.row.RowKey.{RowKey}
use Rattle.mvo_types.specs.Keys.{key_cmp}
use Rattle.mvo_types.specs.Write.{Effect}
use Rattle.mvo_types.specs.Write.Effect.{Put, Delete}
use Rattle.mvo_types.specs.RowData.{row_with}
use Rattle.mvo_types.proofs.Maps.{keys_total, exact_keys}
use Rattle.mvo_group.specs.Data.{GroupData}
use Rattle.mvo_pair.specs.Data.{EntryData, Numbered, key_of}
use Rattle.mvo_pair.specs.declared.pair.Pair.{Pair}
use Rattle.mvo_places.specs.declared.record_place.RecordPlace.{RecordPlace}
use Rattle.mvo_ckpt.specs.Writes.{Stamped, writes_of, is_write_at, is_written, last_writes, record_of, gone_at, records_of, gone_of}
use Rattle.mvo_places.specs.Places.{PlaceMap, place, places_in, record_places, file_of, Rise, without_keys, taken_places}
use Rattle.mvo_ckpt.specs.Ended.{left_in, lives_after}
use Rattle.mvo_ckpt.specs.Laws.{PlacesTakenOver}
use Rattle.mvo_places.proofs.Members.{Among, among_map, among_filter_map, among_filter_mapped, among_any, any_among, rises_from, increasing_from}
use Rattle.mvo_places.proofs.Keys.{eq, key_same, eq_self}
use Rattle.mvo_ckpt.proofs.Lasts.{key_at, written_last, last_distinct}
use Rattle.mvo_places.proofs.Held.{Entries, first_of, keys-places_in, numbers_in}
use Rattle.mvo_places.proofs.Finding.{or_else, find_append, find_failing}
use Rattle.mvo_ckpt.proofs.Staying.{entry_key, keys_numbered, entries_differ, record_written, stays_apart}
use Rattle.mvo_places.proofs.Rising.{counted_rise, rise_filter}
use Rattle.mvo_places.proofs.Growing.{places-push, rise-push}
use Rattle.mvo_places.proofs.Putting.{found_none, there_found, get-without, get-with}

-- ---- the older pairs

same_places : (ps after : List Pair) (lives : List (List Numbered)) → map file_of after ≡ map file_of ps → record_places after lives ≡ record_places ps lives
same_places [] [] lives same = refl
same_places [] (q ∷ after) lives same = absurd cc
same_places (p ∷ ps) [] lives same = absurd cc
same_places (p ∷ ps) (q ∷ after) [] same = refl
same_places (p ∷ ps) (q ∷ after) (live ∷ lives) same =
    let file : q.data_file ≡ p.data_file = cc in
    let rest : map file_of after ≡ map file_of ps = cc in
    ap (λ (f : ℕ). places_in f live ++ record_places after lives) file
    ∙ ap (λ (es : Entries). places_in p.data_file live ++ es) (same_places ps after lives rest)

abbrev unwritten : List GroupData → RowKey × RecordPlace → Bool
unwritten gs e = not (is_written (writes_of gs) e.0)

left_there : (gs : List GroupData) (file : ℕ) (live : List Numbered) → places_in file (left_in gs live) ≡ filter (unwritten gs) (places_in file live)
left_there gs file [] = refl
left_there gs file (l ∷ live) = go (not (is_written (writes_of gs) (key_of l))) (left_there gs file live)
  where
    go : (b : Bool) → places_in file (left_in gs live) ≡ filter (unwritten gs) (places_in file live) → places_in file (cond b (l ∷ left_in gs live) (left_in gs live)) ≡ cond b ((key_of l, place file l.0) ∷ filter (unwritten gs) (places_in file live)) (filter (unwritten gs) (places_in file live))
    go true later = ap (λ (es : Entries). (key_of l, place file l.0) ∷ es) later
    go false later = later

places_left : (gs : List GroupData) (ps : List Pair) (lives : List (List Numbered)) → record_places ps (map (left_in gs) lives) ≡ filter (unwritten gs) (record_places ps lives)
places_left gs [] lives = refl
places_left gs (p ∷ ps) [] = refl
places_left gs (p ∷ ps) (live ∷ lives) =
    ap (λ (es : Entries). es ++ record_places ps (map (left_in gs) lives)) (left_there gs p.data_file live)
    ∙ ap (λ (es : Entries). filter (unwritten gs) (places_in p.data_file live) ++ es) (places_left gs ps lives)
    ∙ sym (filter-append (unwritten gs) (places_in p.data_file live) (record_places ps lives))

rise_left : (gs : List GroupData) (lives : List (List Numbered)) → AllByRecursion Rise lives → AllByRecursion Rise (map (left_in gs) lives)
rise_left gs [] all = tt
rise_left gs (live ∷ lives) all = (
  increasing_from (numbers_in (left_in gs live)) (rise_filter (λ l. not (is_written (writes_of gs) (key_of l))) live (rises_from (numbers_in live) all.0)),
  rise_left gs lives all.1,
)

-- ---- what the writes leave at a key

module _ (gs : List GroupData) (file : ℕ) where
  abbrev pub left_here : Entries
  left_here = places_in file (enumerate_from 0 (records_of gs))

  keys_here : map first_of left_here ≡ map entry_key (records_of gs)
  keys_here = keys-places_in file (enumerate_from 0 (records_of gs)) ∙ keys_numbered 0 (records_of gs)

  distinct_here : IsDistinct eq (map key_of (enumerate_from 0 (records_of gs)))
  distinct_here =
      subst (λ (ks : List RowKey). IsDistinct eq ks) (sym (keys_numbered 0 (records_of gs)))
      (entries_differ (last_writes (writes_of gs)) (last_distinct (writes_of gs)))

  not_here : (q : RowKey) → is_written (writes_of gs) q ≡ false → find key_cmp q left_here ≡ None
  not_here q unwritten = found_none left_here q (λ v a.
      let there : Among (map entry_key (records_of gs)) q = subst (λ (ks : List RowKey). Among ks q) keys_here (among_map first_of left_here (q, v) a) in
      let both : true ≡ false = sym (record_written (writes_of gs) q there) ∙ unwritten in
      absurd cc)

  gone_key : (w : Stamped) (k : RowKey) → gone_at w ≡ Some k → key_at w ≡ k
  gone_key w k is = go w.1.1 is
    where
      go : (f : Effect) → gone_at (w.0, (key_at w, f)) ≡ Some k → key_at w ≡ k
      go (Put h) is = absurd cc
      go Delete is = cc

  not_gone : (q : RowKey) → is_written (writes_of gs) q ≡ false → list_any (eq q) (gone_of gs) ≡ false
  not_gone q unwritten = false_from_ne_true (list_any (eq q) (gone_of gs)) (λ some.
      let n = any_among (eq q) (gone_of gs) some in
      let w = among_filter_mapped gone_at (last_writes (writes_of gs)) n.0 n.1 in
      let here : eq q (key_at w.0) ≡ true = ap (eq q) (gone_key w.0 n.0 w.2) ∙ n.2 in
      let both : true ≡ false = sym (among_any (is_write_at q) (last_writes (writes_of gs)) w.0 w.1 here) ∙ written_last (writes_of gs) q ∙ unwritten in
      absurd cc)

  gone_here : (q : RowKey) → is_written (writes_of gs) q ≡ true → find key_cmp q left_here ≡ None → list_any (eq q) (gone_of gs) ≡ true
  gone_here q written none =
      let n = any_among (is_write_at q) (last_writes (writes_of gs)) (written_last (writes_of gs) q ∙ written) in
      go n.0 n.0.1.1 refl n.1 (key_same q (key_at n.0) n.2)
    where
      go : (w : Stamped) (f : Effect) → w.1.1 ≡ f → Among (last_writes (writes_of gs)) w → q ≡ key_at w → list_any (eq q) (gone_of gs) ≡ true
      go w (Put h) is a same =
          let e : EntryData = record { begin = w.0; row = row_with (key_at w) h } in
          let recorded : record_of w ≡ Some e = ap (λ (f : Effect). record_of (w.0, (key_at w, f))) is in
          let there : Among (map entry_key (records_of gs)) (key_at w) = among_map entry_key (records_of gs) e (among_filter_map record_of (last_writes (writes_of gs)) w e a recorded) in
          let found : Among (map first_of left_here) q = subst (λ (ks : List RowKey). Among ks q) (sym keys_here) (subst (λ (k : RowKey). Among (map entry_key (records_of gs)) k) (sym same) there) in
          absurd (there_found left_here q found none)
      go w Delete is a same =
          let gone : gone_at w ≡ Some (key_at w) = ap (λ (f : Effect). gone_at (w.0, (key_at w, f))) is in
          among_any (eq q) (gone_of gs) (key_at w) (among_filter_map gone_at (last_writes (writes_of gs)) w (key_at w) a gone) (ap (eq q) (sym same) ∙ eq_self q)

  or_none : (o : Option RecordPlace) → o ≡ or_else o None
  or_none None = refl
  or_none (Some v) = refl

  -- the record's place, or nothing where the key is written, or the place before
  settled : (q : RowKey) (before : Option RecordPlace) → or_else (find key_cmp q left_here) (cond (list_any (eq q) (gone_of gs)) None before) ≡ or_else (cond (is_written (writes_of gs) q) None before) (find key_cmp q left_here)
  settled q before = go (is_written (writes_of gs) q) refl
    where
      of_written : (o : Option RecordPlace) → find key_cmp q left_here ≡ o → is_written (writes_of gs) q ≡ true → or_else o (cond (list_any (eq q) (gone_of gs)) None before) ≡ o
      of_written (Some v) is written = refl
      of_written None is written = ap (λ b. cond b None before) (gone_here q written is)

      go : (b : Bool) → is_written (writes_of gs) q ≡ b → or_else (find key_cmp q left_here) (cond (list_any (eq q) (gone_of gs)) None before) ≡ or_else (cond b None before) (find key_cmp q left_here)
      go true is = of_written (find key_cmp q left_here) refl is
      go false is =
          ap (λ (o : Option RecordPlace). or_else o (cond (list_any (eq q) (gone_of gs)) None before)) (not_here q is)
          ∙ ap (λ b. cond b None before) (not_gone q is)
          ∙ or_none before ∙ ap (λ (o : Option RecordPlace). or_else before o) (sym (not_here q is))

pub places_taken_over : PlacesTakenOver
places_taken_over gs ps after lives at p are same files =
    let counts : length (map file_of after) ≡ length (map file_of ps) = ap (λ (ns : List ℕ). length ns) same in
    let many : length after ≡ length ps = sym (length-map after file_of) ∙ counts ∙ length-map ps file_of in
    let left : length (map (left_in gs) lives) ≡ length lives = length-map lives (left_in gs) in
    let each : length after ≡ length (map (left_in gs) lives) = many ∙ are.each ∙ sym left in
    let new : List Numbered = enumerate_from 0 (records_of gs) in
    let there : record_places (after ++ p ∷ []) (lives_after gs lives) ≡ filter (unwritten gs) (record_places ps lives) ++ left_here gs p.data_file =
    places-push after (map (left_in gs) lives) p new each
    ∙ ap (λ (es : Entries). es ++ left_here gs p.data_file) (same_places ps after (map (left_in gs) lives) same ∙ places_left gs ps lives) in
    record {
      each = omega (arith, each, length-append after (p ∷ []), length-append (map (left_in gs) lives) (new ∷ []));
      files = files;
      apart = stays_apart gs lives are.apart;
      rise = rise-push (map (left_in gs) lives) new (rise_left gs lives are.rise) (increasing_from (numbers_in new) (counted_rise 0 (records_of gs)));
      are = same_map keys_total exact_keys (taken_places p.data_file (records_of gs) (gone_of gs) at) (from_entries (record_places (after ++ p ∷ []) (lives_after gs lives))) (λ q.
          let before : get at q ≡ find key_cmp q (record_places ps lives) = ap (λ (m : PlaceMap). get m q) are.are ∙ get-from_entries keys_total (record_places ps lives) q in
          get-with p.data_file new (without_keys (gone_of gs) at) q (distinct_here gs p.data_file)
          ∙ ap (λ (o : Option RecordPlace). or_else (find key_cmp q (left_here gs p.data_file)) o) (get-without (gone_of gs) at q)
          ∙ settled gs p.data_file q (get at q)
          ∙ ap (λ (o : Option RecordPlace). or_else (cond (is_written (writes_of gs) q) None o) (find key_cmp q (left_here gs p.data_file))) before
          ∙ ap (λ (o : Option RecordPlace). or_else o (find key_cmp q (left_here gs p.data_file))) (sym (find_failing (is_written (writes_of gs)) (record_places ps lives) q))
          ∙ sym (find_append (filter (unwritten gs) (record_places ps lives)) (left_here gs p.data_file) q)
          ∙ ap (λ (es : Entries). find key_cmp q es) (sym there)
          ∙ sym (get-from_entries keys_total (record_places (after ++ p ∷ []) (lives_after gs lives)) q));
    }
