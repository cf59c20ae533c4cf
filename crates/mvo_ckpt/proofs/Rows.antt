-- The rows of the live records after a checkpoint.
use Rattle.std.proofs.Common.{◌≡◌, ℕ, ◌+◌, Bool, true, false, cond, List, [], ◌∷◌, ◌++◌, Option, None, Some, refl, sym, ap, ◌∙◌}
use Rattle.std.specs.Prelude.{map, filter, fold, not, ◌||◌}
use Rattle.std.specs.List.{flat_map, filter_map, enumerate_from}
use Rattle.std.specs.Option.{option_map, is_some}
use Rattle.std.specs.FinMap.{find, get, get-from_entries, get-insert, get-remove, same_map}
use Rattle.std.proofs.lemmas.List.{append-nil}
use Rattle.std.proofs.lemmas.List.Concat.{flat_map-append, flat_map-cons}
use Rattle.std.proofs.lemmas.List.Elements.{filter-append}
use Rattle.std.proofs.lemmas.Grind.{fold-append}
use Rattle.mvo_types.specs.declared.row.RowKey.{RowKey}
use Rattle.mvo_types.specs.RowData.{ContentData}
use Rattle.mvo_types.specs.Keys.{Map, key_cmp}
use Rattle.mvo_types.specs.Write.{Write, Effect, content_after, content_after_last}
use Rattle.mvo_types.specs.Write.Effect.{Put, Delete}
use Rattle.mvo_types.proofs.Maps.{keys_total, exact_keys}
use Rattle.mvo_model.specs.History.{after_effect}
use Rattle.mvo_group.specs.Data.{RecordData, GroupData}
use Rattle.mvo_pair.specs.Data.{Numbered, key_of}
use Rattle.mvo_places.specs.Rows.{live_row_of, live_rows_in, rows_of, after_record, after_groups}
use Rattle.mvo_ckpt.specs.Writes.{Stamped, stamped, writes_in, writes_of, is_write_at, is_written, last_writes, later_write, last_write, record_of, records_of}
use Rattle.mvo_ckpt.specs.Ended.{left_in, lives_after}
use Rattle.mvo_ckpt.specs.Laws.{CheckpointKeepsRows}
use Rattle.mvo_places.proofs.Keys.{eq, key_same}
use Rattle.mvo_ckpt.proofs.Lasts.{key_at}
use Rattle.mvo_places.proofs.Finding.{or_else, find_append, find_failing}

abbrev Kept : Type 0
Kept = List (RowKey × ContentData)

-- ---- the live records that are left

abbrev unwritten : List GroupData → RowKey × ContentData → Bool
unwritten gs e = not (is_written (writes_of gs) e.0)

kept_live : (gs : List GroupData) (live : List Numbered) → map live_row_of (left_in gs live) ≡ filter (unwritten gs) (map live_row_of live)
kept_live gs [] = refl
kept_live gs (l ∷ live) = go (not (is_written (writes_of gs) (key_of l))) (kept_live gs live)
  where
    go : (b : Bool) → map live_row_of (left_in gs live) ≡ filter (unwritten gs) (map live_row_of live) → map live_row_of (cond b (l ∷ left_in gs live) (left_in gs live)) ≡ cond b (live_row_of l ∷ filter (unwritten gs) (map live_row_of live)) (filter (unwritten gs) (map live_row_of live))
    go true later = ap (λ (es : Kept). live_row_of l ∷ es) later
    go false later = later

kept-cons : (live : List Numbered) (lives : List (List Numbered)) → live_rows_in (live ∷ lives) ≡ map live_row_of live ++ live_rows_in lives
kept-cons live lives = flat_map-cons (λ l. map live_row_of l) live lives

kept_left : (gs : List GroupData) (lives : List (List Numbered)) → live_rows_in (map (left_in gs) lives) ≡ filter (unwritten gs) (live_rows_in lives)
kept_left gs [] = refl
kept_left gs (live ∷ lives) =
    kept-cons (left_in gs live) (map (left_in gs) lives)
    ∙ ap (λ (es : Kept). es ++ live_rows_in (map (left_in gs) lives)) (kept_live gs live)
    ∙ ap (λ (es : Kept). filter (unwritten gs) (map live_row_of live) ++ es) (kept_left gs lives)
    ∙ sym (filter-append (unwritten gs) (map live_row_of live) (live_rows_in lives))
    ∙ ap (λ (es : Kept). filter (unwritten gs) es) (sym (kept-cons live lives))

kept_after : (gs : List GroupData) (lives : List (List Numbered)) → live_rows_in (lives_after gs lives) ≡ filter (unwritten gs) (live_rows_in lives) ++ map live_row_of (enumerate_from 0 (records_of gs))
kept_after gs lives =
    flat_map-append (λ l. map live_row_of l) (map (left_in gs) lives) (enumerate_from 0 (records_of gs) ∷ [])
    ∙ ap (λ (es : Kept). es ++ live_rows_in (enumerate_from 0 (records_of gs) ∷ [])) (kept_left gs lives)
    ∙ ap (λ (es : Kept). filter (unwritten gs) (live_rows_in lives) ++ es) (kept-cons (enumerate_from 0 (records_of gs)) [] ∙ append-nil (map live_row_of (enumerate_from 0 (records_of gs))))

-- ---- the records that the writes leave

or_some : (o : Option Stamped) (b : Bool) (w : Stamped) → is_some (later_write o (cond b (Some w) None)) ≡ (b || is_some o)
or_some (Some v) true w = refl
or_some (Some v) false w = refl
or_some None true w = refl
or_some None false w = refl

-- a key has a last write where it is written
pub last_some : (ws : List Stamped) (k : RowKey) → is_some (last_write ws k) ≡ is_written ws k
last_some [] k = refl
last_some (w ∷ ws) k = or_some (last_write ws k) (is_write_at k w) w ∙ ap (λ b. is_write_at k w || b) (last_some ws k)

abbrev put_by : Option Stamped → Option ContentData
put_by None = None
put_by (Some w) = content_after w.1.1

no_first : (o : Option Stamped) → later_write o None ≡ o
no_first None = refl
no_first (Some w) = refl

pub none_some : {A : Type 0} (o : Option A) → is_some o ≡ false → o ≡ None
none_some None is = refl
none_some (Some x) is = absurd cc

abbrev found_new : ℕ → List Stamped → RowKey → Option ContentData
found_new n lasts k = find key_cmp k (map live_row_of (enumerate_from n (filter_map record_of lasts)))

one_first : (n : ℕ) (end : ℕ) (key : RowKey) (e : Effect) (lasts : List Stamped) (k : RowKey) (o : Option Stamped) → ((n : ℕ) → found_new n lasts k ≡ put_by o) → (b : Bool) → eq k key ≡ b → (b ≡ true → o ≡ None)
    → found_new n ((end, (key, e)) ∷ lasts) k ≡ put_by (later_write o (cond b (Some (end, (key, e))) None))
one_first n end key (Put h) lasts k o later true is none =
    ap (λ b. cond b (Some h) (found_new (n + 1) lasts k)) is ∙ sym (ap (λ (x : Option Stamped). put_by (later_write x (Some (end, (key, Put h))))) (none refl))
one_first n end key (Put h) lasts k o later false is none =
    ap (λ b. cond b (Some h) (found_new (n + 1) lasts k)) is ∙ later (n + 1) ∙ ap put_by (sym (no_first o))
one_first n end key Delete lasts k o later true is none =
    later n ∙ ap put_by (none refl) ∙ sym (ap (λ (x : Option Stamped). put_by (later_write x (Some (end, (key, Delete))))) (none refl))
one_first n end key Delete lasts k o later false is none = later n ∙ ap put_by (sym (no_first o))

found_last : (ws : List Stamped) (n : ℕ) (k : RowKey) → found_new n (last_writes ws) k ≡ put_by (last_write ws k)
found_last [] n k = refl
found_last (w ∷ ws) n k = go (is_written ws (key_at w)) refl (λ m. found_last ws m k)
  where
    over : (b : Bool) → eq k (key_at w) ≡ b → is_written ws (key_at w) ≡ true → (o : Option Stamped) → last_write ws k ≡ o → o ≡ later_write o (cond b (Some w) None)
    over b is again (Some v) last = refl
    over true is again None last =
        let some : is_written ws k ≡ true = ap (is_written ws) (key_same k (key_at w) is) ∙ again in
        let both : true ≡ false = sym some ∙ sym (last_some ws k) ∙ ap is_some last in
        absurd cc
    over false is again None last = refl

    go : (b : Bool) → is_written ws (key_at w) ≡ b → ((m : ℕ) → found_new m (last_writes ws) k ≡ put_by (last_write ws k)) → found_new n (cond b (last_writes ws) (w ∷ last_writes ws)) k ≡ put_by (last_write (w ∷ ws) k)
    go true again later = later n ∙ ap put_by (over (is_write_at k w) refl again (last_write ws k) refl)
    go false alone later = one_first n w.0 (key_at w) w.1.1 (last_writes ws) k (last_write ws k) later (is_write_at k w) refl (λ is.
        none_some (last_write ws k) (last_some ws k ∙ ap (is_written ws) (key_same k (key_at w) is) ∙ alone))

-- ---- the rows after the writes

abbrev after_write : Map → Stamped → Map
after_write m w = after_effect w.1.0 w.1.1 m

after_stamped : (m : Map) (end : ℕ) (ws : List Write) → fold after_write m (stamped end ws) ≡ fold (λ n w. after_effect w.0 w.1 n) m ws
after_stamped m end [] = refl
after_stamped m end (w ∷ ws) = after_stamped (after_effect w.0 w.1 m) end ws

after_in : (m : Map) (rs : List RecordData) → fold after_write m (writes_in rs) ≡ fold after_record m rs
after_in m [] = refl
after_in m (r ∷ rs) =
    ap (λ (l : List Stamped). fold after_write m l) (flat_map-cons (λ x. stamped x.end x.writes) r rs)
    ∙ fold-append after_write m (stamped r.end r.writes) (writes_in rs)
    ∙ ap (λ (n : Map). fold after_write n (writes_in rs)) (after_stamped m r.end r.writes)
    ∙ after_in (after_record m r) rs

after_of : (m : Map) (gs : List GroupData) → fold after_write m (writes_of gs) ≡ after_groups m gs
after_of m [] = refl
after_of m (g ∷ gs) =
    ap (λ (l : List Stamped). fold after_write m l) (flat_map-cons (λ x. writes_in x.records) g gs)
    ∙ fold-append after_write m (writes_in g.records) (writes_of gs)
    ∙ ap (λ (n : Map). fold after_write n (writes_of gs)) (after_in m g.records)
    ∙ after_of (fold after_record m g.records) gs
    ∙ sym (fold-append after_record m g.records (flat_map (λ x. x.records) gs))
    ∙ ap (λ (l : List RecordData). fold after_record m l) (sym (flat_map-cons (λ x. x.records) g gs))

abbrev effect_by : Option Stamped → Option Effect
effect_by o = option_map (λ w. w.1.1) o

get_effect : (m : Map) (key k : RowKey) (e : Effect) → get (after_effect key e m) k ≡ cond (eq k key) (content_after e) (get m k)
get_effect m key k (Put h) = get-insert keys_total m key h k
get_effect m key k Delete = get-remove keys_total m key k

last_content : (o : Option Stamped) (b : Bool) (w : Stamped) (before : Option ContentData) → content_after_last (effect_by o) (cond b (content_after w.1.1) before) ≡ content_after_last (effect_by (later_write o (cond b (Some w) None))) before
last_content (Some v) b w before = refl
last_content None true w before = refl
last_content None false w before = refl

get_after : (ws : List Stamped) (m : Map) (k : RowKey) → get (fold after_write m ws) k ≡ content_after_last (effect_by (last_write ws k)) (get m k)
get_after [] m k = refl
get_after (w ∷ ws) m k =
    get_after ws (after_write m w) k
    ∙ ap (content_after_last (effect_by (last_write ws k))) (get_effect m (key_at w) k w.1.1)
    ∙ last_content (last_write ws k) (is_write_at k w) w (get m k)

-- ---- both

both_are : (o : Option Stamped) (b : Bool) → is_some o ≡ b → (before : Option ContentData) → or_else (cond b None before) (put_by o) ≡ content_after_last (effect_by o) before
both_are None true is before = absurd cc
both_are None false is None = refl
both_are None false is (Some h) = refl
both_are (Some w) true is before = refl
both_are (Some w) false is before = absurd cc

pub keeps_rows : CheckpointKeepsRows
keeps_rows gs lives = same_map keys_total exact_keys (rows_of (lives_after gs lives)) (after_groups (rows_of lives) gs) (λ k.
    get-from_entries keys_total (live_rows_in (lives_after gs lives)) k
    ∙ ap (λ (es : Kept). find key_cmp k es) (kept_after gs lives)
    ∙ find_append (filter (unwritten gs) (live_rows_in lives)) (map live_row_of (enumerate_from 0 (records_of gs))) k
    ∙ ap (λ (o : Option ContentData). or_else o (found_new 0 (last_writes (writes_of gs)) k)) (find_failing (is_written (writes_of gs)) (live_rows_in lives) k)
    ∙ ap (or_else (cond (is_written (writes_of gs) k) None (find key_cmp k (live_rows_in lives)))) (found_last (writes_of gs) 0 k)
    ∙ both_are (last_write (writes_of gs) k) (is_written (writes_of gs) k) (last_some (writes_of gs) k) (find key_cmp k (live_rows_in lives))
    ∙ ap (content_after_last (effect_by (last_write (writes_of gs) k))) (sym (get-from_entries keys_total (live_rows_in lives) k))
    ∙ sym (get_after (writes_of gs) (rows_of lives) k)
    ∙ ap (λ (m : Map). get m k) (after_of (rows_of lives) gs))
