-- No two live records after a checkpoint have one key.
use Rattle.std.proofs.Common.{◌≡◌, ℕ, ◌+◌, Bool, true, false, cond, List, [], ◌∷◌, ◌++◌, Option, None, Some, refl, sym, ap, subst, ◌∙◌}
use Rattle.std.specs.Prelude.{map, filter, not}
use Rattle.std.specs.List.{filter_map, cons_option, enumerate_from, IsDistinct}
use Rattle.std.proofs.lemmas.Bool.{not-true, false_from_ne_true}
use Rattle.std.proofs.lemmas.List.{append-nil}
use Rattle.std.proofs.lemmas.List.Concat.{flat_map-append, flat_map-cons}
use Rattle.std.proofs.lemmas.List.Elements.{filter-append}
use Rattle.mvo_types.specs.declared.row.RowKey.{RowKey}
use Rattle.mvo_types.specs.Write.{Effect}
use Rattle.mvo_types.specs.Write.Effect.{Put, Delete}
use Rattle.mvo_group.specs.Data.{GroupData}
use Rattle.mvo_pair.specs.Data.{EntryData, Numbered, key_of, keys_of}
use Rattle.mvo_ckpt.specs.Writes.{Stamped, writes_of, is_write_at, is_written, last_writes, record_of, records_of}
use Rattle.mvo_ckpt.specs.Ended.{left_in, lives_after}
use Rattle.mvo_ckpt.specs.Laws.{StaysApart}
use Rattle.mvo_places.proofs.Members.{Among, among_map, among_filtered, among_filter_mapped, among_mapped, among_any, all_among, all_from}
use Rattle.mvo_places.proofs.Keys.{eq, key_same, eq_self}
use Rattle.mvo_ckpt.proofs.Lasts.{key_at, written_last, last_distinct}
use Rattle.mvo_places.proofs.Distinct.{distinct_append, distinct_filter}

abbrev unwritten : List GroupData → RowKey → Bool
unwritten gs k = not (is_written (writes_of gs) k)

keys_live : (gs : List GroupData) (live : List Numbered) → map key_of (left_in gs live) ≡ filter (unwritten gs) (map key_of live)
keys_live gs [] = refl
keys_live gs (l ∷ live) = go (unwritten gs (key_of l)) (keys_live gs live)
  where
    go : (b : Bool) → map key_of (left_in gs live) ≡ filter (unwritten gs) (map key_of live) → map key_of (cond b (l ∷ left_in gs live) (left_in gs live)) ≡ cond b (key_of l ∷ filter (unwritten gs) (map key_of live)) (filter (unwritten gs) (map key_of live))
    go true later = ap (λ (ks : List RowKey). key_of l ∷ ks) later
    go false later = later

keys-cons : (live : List Numbered) (lives : List (List Numbered)) → keys_of (live ∷ lives) ≡ map key_of live ++ keys_of lives
keys-cons live lives = flat_map-cons (λ l. map key_of l) live lives

keys_left : (gs : List GroupData) (lives : List (List Numbered)) → keys_of (map (left_in gs) lives) ≡ filter (unwritten gs) (keys_of lives)
keys_left gs [] = refl
keys_left gs (live ∷ lives) =
    keys-cons (left_in gs live) (map (left_in gs) lives)
    ∙ ap (λ (ks : List RowKey). ks ++ keys_of (map (left_in gs) lives)) (keys_live gs live)
    ∙ ap (λ (ks : List RowKey). filter (unwritten gs) (map key_of live) ++ ks) (keys_left gs lives)
    ∙ sym (filter-append (unwritten gs) (map key_of live) (keys_of lives))
    ∙ ap (λ (ks : List RowKey). filter (unwritten gs) ks) (sym (keys-cons live lives))

abbrev pub entry_key : EntryData → RowKey
entry_key e = e.row.key

pub keys_numbered : (n : ℕ) (es : List EntryData) → map key_of (enumerate_from n es) ≡ map entry_key es
keys_numbered n [] = refl
keys_numbered n (e ∷ es) = ap (λ (ks : List RowKey). entry_key e ∷ ks) (keys_numbered (n + 1) es)

keys_after : (gs : List GroupData) (lives : List (List Numbered)) → keys_of (lives_after gs lives) ≡ filter (unwritten gs) (keys_of lives) ++ map entry_key (records_of gs)
keys_after gs lives =
    flat_map-append (λ l. map key_of l) (map (left_in gs) lives) (enumerate_from 0 (records_of gs) ∷ [])
    ∙ ap (λ (ks : List RowKey). ks ++ keys_of (enumerate_from 0 (records_of gs) ∷ [])) (keys_left gs lives)
    ∙ ap (λ (ks : List RowKey). filter (unwritten gs) (keys_of lives) ++ ks)
    (keys-cons (enumerate_from 0 (records_of gs)) [] ∙ append-nil (map key_of (enumerate_from 0 (records_of gs))) ∙ keys_numbered 0 (records_of gs))

-- ---- the keys of the records

-- a record has the key of its write
pub record_key : (w : Stamped) (e : EntryData) → record_of w ≡ Some e → entry_key e ≡ key_at w
record_key w e is = go w.1.1 is
  where
    go : (f : Effect) → record_of (w.0, (key_at w, f)) ≡ Some e → entry_key e ≡ key_at w
    go (Put h) is = sym (ap (λ (o : Option EntryData). or_key o) is)
      where
        or_key : Option EntryData → RowKey
        or_key None = key_at w
        or_key (Some x) = entry_key x
    go Delete is = absurd cc

pub entries_differ : (ws : List Stamped) → IsDistinct eq (map key_at ws) → IsDistinct eq (map entry_key (filter_map record_of ws))
unfolding IsDistinct
entries_differ [] differ = tt
entries_differ (w ∷ ws) differ = go (record_of w) refl (entries_differ ws differ.1)
  where
    go : (o : Option EntryData) → record_of w ≡ o → IsDistinct eq (map entry_key (filter_map record_of ws)) → IsDistinct eq (map entry_key (cons_option o (filter_map record_of ws)))
    go None is later = later
    go (Some e) is later = (
      all_from (λ k. eq (entry_key e) k ≡ false) (map entry_key (filter_map record_of ws)) (λ k a.
          let m = among_mapped entry_key (filter_map record_of ws) k a in
          let v = among_filter_mapped record_of ws m.0 m.1 in
          let key : key_at v.0 ≡ k = sym (record_key v.0 m.0 v.2) ∙ m.2 in
          let other : eq (key_at w) (key_at v.0) ≡ false = all_among (λ x. eq (key_at w) x ≡ false) (map key_at ws) (key_at v.0) differ.0 (among_map key_at ws v.0 v.1) in
          ap (λ x. eq x k) (record_key w e is) ∙ ap (eq (key_at w)) (sym key) ∙ other),
      later,
    )

-- they are written
pub record_written : (ws : List Stamped) (k : RowKey) → Among (map entry_key (filter_map record_of (last_writes ws))) k → is_written ws k ≡ true
record_written ws k a =
    let m = among_mapped entry_key (filter_map record_of (last_writes ws)) k a in
    let v = among_filter_mapped record_of (last_writes ws) m.0 m.1 in
    let key : key_at v.0 ≡ k = sym (record_key v.0 m.0 v.2) ∙ m.2 in
    sym (written_last ws k) ∙ among_any (is_write_at k) (last_writes ws) v.0 v.1 (ap (eq k) key ∙ eq_self k)

pub stays_apart : StaysApart
stays_apart gs lives apart =
    subst (λ (ks : List RowKey). IsDistinct eq ks) (sym (keys_after gs lives))
    (distinct_append eq (filter (unwritten gs) (keys_of lives)) (map entry_key (records_of gs))
    (distinct_filter eq (unwritten gs) (keys_of lives) apart)
    (entries_differ (last_writes (writes_of gs)) (last_distinct (writes_of gs)))
    (λ x y a b. false_from_ne_true (eq x y) (λ same.
    let none : is_written (writes_of gs) x ≡ false = not-true (is_written (writes_of gs) x) (among_filtered (unwritten gs) (keys_of lives) x a).1 in
    let some : is_written (writes_of gs) y ≡ true = record_written (writes_of gs) y b in
    let both : true ≡ false = sym some ∙ sym (ap (is_written (writes_of gs)) (key_same x y same)) ∙ none in
    absurd cc)))
