-- What is left at keys: a map's look-up and insert, in the words of keys.
use Rattle.std.proofs.Common.{◌≡◌, ◌<◌, ◌≤◌, Bool, true, false, cond, ◌||◌, List, [], ◌∷◌, ◌++◌, Option, None, Some, suc, not, length, refl, sym, ap, ◌∙◌}
use Rattle.std.specs.Prelude.{◌&&◌, nat_le, is_some}
use Rattle.std.specs.List.{list_any}
use Rattle.std.proofs.lemmas.Bool.{lt-leb, le-leb}
use Rattle.std.specs.FinMap as fin
use Rattle.std.specs.Map.{lookup, keys_of}
use Rattle.std.specs.Option.{option_map}
use Rattle.std.specs.Ordering.{eq_by_cmp}
use Rattle.std.specs.Cmp.{eq_by_cmp_equiv}
use Rattle.indexmap.specs.IndexMap.{insert_entry}
use Rattle.mvo_types.proofs.Maps.{keys_total}
use Rattle.mvo_types.specs.declared.row.RowKey.{RowKey}
use Rattle.mvo_types.specs.declared.op.Op.{Op}
use Rattle.mvo_types.specs.RowData.{RowData, row_with}
use Rattle.mvo_types.specs.Keys.{Map, key_cmp, row_at}
use Rattle.mvo_types.specs.Write.{Write, Effect, content_after_last}
use Rattle.mvo_types.specs.AnswerData.{AnswerData}
use Rattle.mvo_model.specs.History.{History, write_of, write_at, later, net_write, after_history}
use Rattle.mvo_model.proofs.Serials.{get-after_history, net_write-append}
use Rattle.mvo_types.specs.declared.limits.TheConstants.{MAX_WRITES}
use Rattle.mvo_theory.specs.Causes.{is_write_too_many}
use Rattle.mvo_theory.specs.Entries.{noted, is_noted, written_keys}
use Rattle.mvo_theory.proofs.OriginSteps.{and_false}
use Rattle.mvo_theory.proofs.Written.{noted_written}
use Rattle.mvo_theory.proofs.Footprints.{key_same}
use Rattle.mvo_work.specs.History.{key_written}
use Rattle.mvo_content.specs.Done.{row_left, write_left, left_later}

pub lookup_by : {V : Type 0} (t u : RowKey → Bool) → ((j : RowKey) → t j ≡ u j) → (es : List (RowKey × V)) → lookup t es ≡ lookup u es
lookup_by t u same [] = refl
lookup_by t u same (e ∷ es) = ap (λ (b : Bool). cond b (Some e.1) (lookup t es)) (same e.0) ∙ ap (cond (u e.0) (Some e.1)) (lookup_by t u same es)

-- the keys after an insert
push_front : (b : Bool) (j : RowKey) (ks ls : List RowKey) → j ∷ cond b ks ls ≡ cond b (j ∷ ks) (j ∷ ls)
push_front true j ks ls = refl
push_front false j ks ls = refl

pub insert_keys : {V : Type 0} (eq : RowKey → RowKey → Bool) → ((j i : RowKey) → eq j i ≡ eq_by_cmp key_cmp j i) → (es : List (RowKey × V)) (k : RowKey) (v : V) → keys_of (insert_entry eq es k v) ≡ noted (keys_of es) k
insert_keys eq same [] k v = refl
insert_keys {V} eq same (e ∷ es) k v =
    ap (λ (b : Bool). keys_of (cond b ((e.0, v) ∷ es) (e ∷ insert_entry eq es k v))) (same k e.0) ∙ go (eq_by_cmp key_cmp k e.0) (insert_keys eq same es k v)
  where
    go : (b : Bool) → keys_of (insert_entry eq es k v) ≡ noted (keys_of es) k → keys_of (cond b ((e.0, v) ∷ es) (e ∷ insert_entry eq es k v)) ≡ cond (b || list_any (eq_by_cmp key_cmp k) (keys_of es)) (e.0 ∷ keys_of es) (e.0 ∷ (keys_of es ++ k ∷ []))
    go true r = refl
    go false r = ap (λ ks. e.0 ∷ ks) r ∙ push_front (list_any (eq_by_cmp key_cmp k) (keys_of es)) e.0 (keys_of es) (keys_of es ++ k ∷ [])

pub insert_at : {V : Type 0} (eq : RowKey → RowKey → Bool) → ((j i : RowKey) → eq j i ≡ eq_by_cmp key_cmp j i) → (old new : List (RowKey × V)) (k : RowKey) (v : V) → ((q : RowKey) → lookup (eq q) new ≡ cond (eq k q) (Some v) (lookup (eq q) old)) → (q : RowKey) → lookup (eq_by_cmp key_cmp q) new ≡ cond (eq_by_cmp key_cmp q k) (Some v) (lookup (eq_by_cmp key_cmp q) old)
insert_at eq same old new k v h q =
    sym (lookup_by (eq q) (eq_by_cmp key_cmp q) (same q) new)
    ∙ h q
    ∙ ap (λ (b : Bool). cond b (Some v) (lookup (eq q) old)) (same k q ∙ (eq_by_cmp_equiv keys_total).symm k q)
    ∙ ap (cond (eq_by_cmp key_cmp q k) (Some v)) (lookup_by (eq q) (eq_by_cmp key_cmp q) (same q) old)

-- ---- what stands at a key behind own writes
none_some : (r : Option RowData) → ◌≡◌ {A = Option (Option RowData)} None (Some r) → ⊥
none_some r f = cc

one_some : (a b : Option RowData) → ◌≡◌ {A = Option (Option RowData)} (Some a) (Some b) → a ≡ b
one_some a b f = cc

-- a key that was written has what its net write left
pub written_now : (ts : History) (m : Map) (k : RowKey) (r : Option RowData) → option_map (row_left k) (net_write k ts) ≡ Some r → r ≡ row_at (after_history ts m) k
written_now ts m k r f = go (net_write k ts) f ∙ ap (option_map (row_with k)) (sym (get-after_history k ts m))
  where
    go : (w : Option Effect) → option_map (row_left k) w ≡ Some r → r ≡ option_map (row_with k) (content_after_last w (fin.get m k))
    go None g = absurd (none_some r g)
    go (Some e) g = sym (one_some (row_left k e) r g)

-- and another what stood there before
pub other_now : (ts : History) (m : Map) (k : RowKey) → option_map (row_left k) (net_write k ts) ≡ None → row_at m k ≡ row_at (after_history ts m) k
other_now ts m k f = go (net_write k ts) f ∙ ap (option_map (row_with k)) (sym (get-after_history k ts m))
  where
    go : (w : Option Effect) → option_map (row_left k) w ≡ None → row_at m k ≡ option_map (row_with k) (content_after_last w (fin.get m k))
    go None g = refl
    go (Some e) g = absurd (none_some (row_left k e) (sym g))

-- ---- one operation more
pub wrote_key : (op : Op) (a : AnswerData) → option_map (λ (w : RowKey × Option RowData). w.0) (write_left op a) ≡ key_written op a
wrote_key op a = go (write_of op a)
  where
    go : (w : Option Write) → option_map (λ (v : RowKey × Option RowData). v.0) (option_map (λ (v : Write). (v.0, row_left v.0 v.1)) w) ≡ option_map (λ (v : Write). v.0) w
    go None = refl
    go (Some w) = refl

pub left_more : (k : RowKey) (w : Option Write) (before : Option Effect) → option_map (row_left k) (later (write_at k w) before) ≡ left_later k (option_map (λ (v : Write). (v.0, row_left v.0 v.1)) w) (option_map (row_left k) before)
left_more k None before = refl
left_more k (Some w) before = go (eq_by_cmp key_cmp k w.0) refl
  where
    go : (b : Bool) → eq_by_cmp key_cmp k w.0 ≡ b → option_map (row_left k) (later (cond b (Some w.1) None) before) ≡ cond b (Some (row_left w.0 w.1)) (option_map (row_left k) before)
    go true e = ap (λ (j : RowKey). Some (row_left j w.1)) (sym (key_same k w.0 e))
    go false e = refl

pub net_more : (k : RowKey) (ts : History) (op : Op) (a : AnswerData) → net_write k (ts ++ (op, a) ∷ []) ≡ later (write_at k (write_of op a)) (net_write k ts)
net_more k ts op a = net_write-append k ts ((op, a) ∷ [])

-- ---- one key too many
pub write_old : (ts : History) (k : RowKey) (r : Option RowData) → option_map (row_left k) (net_write k ts) ≡ Some r → is_write_too_many ts k ≡ false
write_old ts k r f = ap (λ (b : Bool). not b && nat_le MAX_WRITES (length (written_keys ts))) (noted_written ts k ∙ go (net_write k ts) f)
  where
    go : (w : Option Effect) → option_map (row_left k) w ≡ Some r → is_some w ≡ true
    go None g = absurd (none_some r g)
    go (Some e) g = refl

pub write_new : (ts : History) (k : RowKey) → option_map (row_left k) (net_write k ts) ≡ None → is_write_too_many ts k ≡ nat_le MAX_WRITES (length (written_keys ts))
write_new ts k f = ap (λ (b : Bool). not b && nat_le MAX_WRITES (length (written_keys ts))) (noted_written ts k ∙ go (net_write k ts) f)
  where
    go : (w : Option Effect) → option_map (row_left k) w ≡ None → is_some w ≡ false
    go None g = refl
    go (Some e) g = absurd (none_some (row_left k e) (sym g))

pub write_few : (ts : History) (k : RowKey) → length (written_keys ts) < MAX_WRITES → false ≡ is_write_too_many ts k
write_few ts k few = sym (and_false (not (is_noted (written_keys ts) k)) (nat_le MAX_WRITES (length (written_keys ts))) (lt-leb MAX_WRITES (length (written_keys ts)) few))

pub write_full : (ts : History) (k : RowKey) → option_map (row_left k) (net_write k ts) ≡ None → MAX_WRITES ≤ length (written_keys ts) → true ≡ is_write_too_many ts k
write_full ts k new full = sym (write_new ts k new ∙ le-leb MAX_WRITES (length (written_keys ts)) full)

pub key_count : (es : List (RowKey × Option RowData)) → length es ≡ length (keys_of es)
key_count [] = refl
key_count (e ∷ es) = ap (λ n. suc n) (key_count es)
