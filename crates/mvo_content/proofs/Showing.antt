-- Rows of a range as a map, one after another, and the scan behind own writes.
use Rattle.std.proofs.Common.{◌≡◌, Bool, true, false, cond, List, [], ◌∷◌, ◌++◌, Option, None, Some, map, length, refl, sym, ap, ◌∙◌, arith}
use Rattle.std.specs.Prelude.{is_some, slice_get}
use Rattle.std.specs.Option.{option_map, option_to_list}
use Rattle.std.specs.Ordering.{eq_by_cmp}
use Rattle.std.specs.FinMap as fin
use Rattle.std.proofs.lemmas.Bool.{true≢false}
use Rattle.std.proofs.lemmas.List.{map-append}
use Rattle.mvo_types.specs.declared.row.RowKey.{RowKey}
use Rattle.mvo_types.specs.RowData.{RowData, ContentData, content_of, row_with}
use Rattle.mvo_types.specs.Keys.{Map, key_cmp, row_at}
use Rattle.mvo_types.specs.Write.{Effect, content_after_last}
use Rattle.mvo_types.proofs.Maps.{keys_total, exact_keys}
use Rattle.mvo_types.specs.AnswerData.{answer_data}
use Rattle.mvo_types.specs.declared.op.Op.{Op}
use Rattle.mvo_types.specs.declared.answer.Answer.{Answer}
use Rattle.mvo_model.specs.History.{History, write_of, net_write, after_write, after_history}
use Rattle.mvo_model.proofs.Serials.{get-after_history, after_history-append}
use Rattle.mvo_theory.specs.Told.{history_told}
use Rattle.mvo_theory.proofs.Footprints.{key_same}
use Rattle.mvo_shared.specs.Kept.{map_of_rows}
use Rattle.mvo_content.specs.Shown.{with_first}
use Rattle.mvo_content.specs.Done.{row_left, left_at}

abbrev pair : RowData → RowKey × ContentData
pair r = (r.key, content_of r)

-- ---- a row more
find_other : (es : List (RowKey × ContentData)) (e : RowKey × ContentData) (q : RowKey) → eq_by_cmp key_cmp q e.0 ≡ false → fin.find key_cmp q (es ++ e ∷ []) ≡ fin.find key_cmp q es
find_other [] e q f = ap (λ (b : Bool). cond b (Some e.1) None) f
find_other (d ∷ es) e q f = ap (cond (eq_by_cmp key_cmp q d.0) (Some d.1)) (find_other es e q f)

find_push : (es : List (RowKey × ContentData)) (e : RowKey × ContentData) (q : RowKey) → is_some (fin.find key_cmp e.0 es) ≡ true → fin.find key_cmp q (es ++ e ∷ []) ≡ fin.find key_cmp q es
find_push [] e q f = absurd (true≢false (sym f))
find_push (d ∷ es) e q f = go (eq_by_cmp key_cmp e.0 d.0) refl f (find_push es e q)
  where
    at : (b : Bool) → eq_by_cmp key_cmp q d.0 ≡ b → e.0 ≡ d.0 → cond b (Some d.1) (fin.find key_cmp q (es ++ e ∷ [])) ≡ cond b (Some d.1) (fin.find key_cmp q es)
    at true g same = refl
    at false g same = find_other es e q (ap (eq_by_cmp key_cmp q) same ∙ g)

    go : (b : Bool) → eq_by_cmp key_cmp e.0 d.0 ≡ b → is_some (cond b (Some d.1) (fin.find key_cmp e.0 es)) ≡ true → (is_some (fin.find key_cmp e.0 es) ≡ true → fin.find key_cmp q (es ++ e ∷ []) ≡ fin.find key_cmp q es) → fin.find key_cmp q ((d ∷ es) ++ e ∷ []) ≡ fin.find key_cmp q (d ∷ es)
    go true g h k = at (eq_by_cmp key_cmp q d.0) refl (sym (key_same e.0 d.0 g))
    go false g h k = ap (cond (eq_by_cmp key_cmp q d.0) (Some d.1)) (k h)

none_there : (o : Option ContentData) → is_some o ≡ false → o ≡ None
none_there None f = refl
none_there (Some h) f = absurd (true≢false f)

pub one_first : (rows : List RowData) (r : RowData) → map_of_rows (rows ++ r ∷ []) ≡ with_first (map_of_rows rows) r
one_first rows r = ap fin.from_entries (map-append pair rows (r ∷ [])) ∙ go (fin.contains_key (map_of_rows rows) r.key) refl
  where
    es : List (RowKey × ContentData)
    es = map pair rows

    found : fin.get (map_of_rows rows) r.key ≡ fin.find key_cmp r.key es
    found = fin.get-from_entries keys_total es r.key

    go : (b : Bool) → fin.contains_key (map_of_rows rows) r.key ≡ b → fin.from_entries (es ++ pair r ∷ []) ≡ cond b (map_of_rows rows) (fin.insert (map_of_rows rows) r.key (content_of r))
    go true g = fin.same_map keys_total exact_keys _ _ (λ q. fin.get-from_entries keys_total (es ++ pair r ∷ []) q ∙ find_push es (pair r) q (ap is_some (sym found) ∙ g) ∙ sym (fin.get-from_entries keys_total es q))
    go false g = fin.from_entries_push keys_total exact_keys es r.key (content_of r) (sym found ∙ none_there (fin.get (map_of_rows rows) r.key) g)

-- ---- who wrote nothing changes nothing
none_some : (e : Effect) (k : RowKey) → ◌≡◌ {A = Option (Option RowData)} None (Some (row_left k e)) → ⊥
none_some e k f = cc

pub idle : (left : List (RowKey × Option RowData)) (ts : History) (m : Map) → left ≡ [] → ((k : RowKey) → left_at left k ≡ option_map (row_left k) (net_write k ts)) → after_history ts m ≡ m
idle left ts m empty h = fin.same_map keys_total exact_keys _ _ (λ q. get-after_history q ts m ∙ go q (net_write q ts) (ap (λ es. left_at es q) (sym empty) ∙ h q))
  where
    go : (q : RowKey) (w : Option Effect) → None ≡ option_map (row_left q) w → content_after_last w (fin.get m q) ≡ fin.get m q
    go q None f = refl
    go q (Some e) f = absurd (none_some e q f)

-- ---- the one row of a key
pub only_row : (rows : List RowData) (m : Map) (k : RowKey) → rows ≡ option_to_list (row_at m k) → slice_get rows 0 ≡ row_at m k
only_row rows m k f = ap (λ rs. slice_get rs 0) f ∙ go (row_at m k)
  where
    go : (o : Option RowData) → slice_get (option_to_list o) 0 ≡ o
    go None = refl
    go (Some r) = refl

-- a row stands at a key where there is one
pub stands : (m : Map) (k : RowKey) → is_some (row_at m k) ≡ fin.contains_key m k
stands m k = go (fin.get m k)
  where
    go : (o : Option ContentData) → is_some (option_map (row_with k) o) ≡ is_some o
    go None = refl
    go (Some h) = refl

-- ---- one write more
pub write_more : (told : List (Op × Answer)) (op : Op) (a : Answer) (m : Map) → after_history (history_told (told ++ (op, a) ∷ [])) m ≡ after_write (write_of op (answer_data a)) (after_history (history_told told) m)
write_more told op a m = ap (λ ts. after_history ts m) (map-append (λ t. (t.0, answer_data t.1)) told ((op, a) ∷ [])) ∙ after_history-append (history_told told) ((op, answer_data a) ∷ []) m

pub no_items : {X : Type 0} (xs : List X) → length xs ≡ 0 → xs ≡ []
no_items [] f = refl
no_items (x ∷ xs) f = absurd (omega (arith, f))
