-- Each row that stands at the start has a version of its own.
use Rattle.std.proofs.Common.{◌≡◌, ℕ, ◌≤◌, length, Bool, true, false, cond, ◌||◌, List, [], ◌∷◌, Option, None, Some, map, refl, sym, ap, ◌∙◌, arith}
use Rattle.std.specs.Prelude.{◌-◌, ◌&&◌, is_some}
use Rattle.std.specs.List.{list_any}
use Rattle.std.specs.Option.{option_map}
use Rattle.std.specs.Ordering.{eq_by_cmp}
use Rattle.std.specs.FinMap as fin
use Rattle.std.proofs.lemmas.Bool.{true≢false}
use Rattle.mvo_types.specs.declared.row.RowKey.{RowKey}
use Rattle.mvo_types.specs.RowData.{ContentData, content_of}
use Rattle.mvo_types.specs.Keys.{Map, key_cmp}
use Rattle.mvo_types.specs.Write.Effect.{Put}
use Rattle.mvo_types.proofs.Maps.{keys_total}
use Rattle.mvo_model.specs.Trace.{Step}
use Rattle.mvo_theory.specs.Ranges.{Row}
use Rattle.mvo_theory.specs.State.{State}
use Rattle.mvo_theory.proofs.Looks.{key_is}
use Rattle.mvo_chain.specs.declared.version.Version.{Version}
use Rattle.mvo_txn.specs.Txns.{state_of}
use Rattle.mvo_representation.specs.Indexes.{all_versions}
use Rattle.mvo_representation.specs.Table.{phases_of}
use Rattle.mvo_representation.specs.Versions.{HoldsRows}
use Rattle.mvo_representation.specs.Words.{Ends, ends_of, with_effect, as_net_effect, is_standing, standing_effect}
use Rattle.mvo_representation.specs.Words.NetEffect.{Untouched, Puts}
use Rattle.mvo_core.specs.Counting.{version_count}
use Rattle.mvo_core.specs.Data.{CoreData}
use Rattle.mvo_core.specs.Readers.{Readers}
use Rattle.mvo_core.specs.Standing.{StandsAmong}

-- whether one of the versions is of the key
abbrev is_key : RowKey → Version → Bool
is_key k v = eq_by_cmp key_cmp k v.row.key

abbrev has_key : RowKey → List Version → Bool
has_key k vs = list_any (is_key k) vs

-- ---- a key whose row stands has a version
none_stands : (ends : Ends) (m : ℕ) (k : RowKey) (vs : List Version) → has_key k vs ≡ false → standing_effect ends m k vs ≡ Untouched
none_stands ends m k [] e = refl
none_stands ends m k (v ∷ vs) e = go (is_key k v) e (none_stands ends m k vs)
  where
    go : (b : Bool) → (b || has_key k vs) ≡ false → (has_key k vs ≡ false → standing_effect ends m k vs ≡ Untouched)
        → with_effect (cond (b && is_standing ends m v) (Puts (content_of v.row)) Untouched) (standing_effect ends m k vs) ≡ Untouched
    go true q ih = absurd (true≢false q)
    go false q ih = ih q

puts_not : (h : ContentData) → Untouched ≡ Puts h → ⊥
puts_not h q = cc

key_stands : (ends : Ends) (m : ℕ) (k : RowKey) (vs : List Version) (o : Option ContentData) → standing_effect ends m k vs ≡ as_net_effect (option_map (λ h. Put h) o) → is_some o ≡ true → has_key k vs ≡ true
key_stands ends m k vs None e some = absurd (true≢false (sym some))
key_stands ends m k vs (Some h) e some = go (has_key k vs) refl
  where
    go : (b : Bool) → has_key k vs ≡ b → has_key k vs ≡ true
    go true q = q
    go false q = absurd (puts_not h (sym (none_stands ends m k vs q) ∙ e))

-- ---- no more keys than versions
no_keys : (es : List Row) → ((k : RowKey) → list_any (eq_by_cmp key_cmp k) (map (λ e. e.0) es) ≡ true → ⊥) → length es ≡ 0
no_keys [] h = refl
no_keys (e ∷ es) h = absurd (h e.0 (ap (λ (b : Bool). b || list_any (eq_by_cmp key_cmp e.0) (map (λ x. x.0) es)) (key_is e.0)))

keys_fit : (vs : List Version) (rows : Map) → ((k : RowKey) → is_some (fin.get rows k) ≡ true → has_key k vs ≡ true) → fin.len rows ≤ length vs
keys_fit [] rows h =
    let none = fin.len-entries rows ∙ no_keys (fin.entries rows) (λ k e. true≢false (sym (h k (fin.contains_key-keys rows k ∙ e)))) in
    omega (arith, none)
keys_fit (v ∷ vs) rows h = last (fin.contains_key rows v.row.key) (fin.len-remove keys_total rows v.row.key) (keys_fit vs (fin.remove rows v.row.key) behind)
  where
    -- another key that is left has its version behind this one
    go : (k : RowKey) (b : Bool) → is_some (cond b None (fin.get rows k)) ≡ true → (is_some (fin.get rows k) ≡ true → (b || has_key k vs) ≡ true) → has_key k vs ≡ true
    go k true some there = absurd (true≢false (sym some))
    go k false some there = there some

    behind : (k : RowKey) → is_some (fin.get (fin.remove rows v.row.key) k) ≡ true → has_key k vs ≡ true
    behind k some = go k (eq_by_cmp key_cmp k v.row.key) (ap is_some (sym (fin.get-remove keys_total rows v.row.key k)) ∙ some) (h k)

    last : (b : Bool) → fin.len (fin.remove rows v.row.key) ≡ cond b (fin.len rows - 1) (fin.len rows) → fin.len (fin.remove rows v.row.key) ≤ length vs → fin.len rows ≤ length (v ∷ vs)
    last true e l = omega (arith, e, l)
    last false e l = omega (arith, e, l)

-- just these rows stand up to this timestamp
rows_fit : (ends : Ends) (m : ℕ) (rows : Map) (vs : List Version) → HoldsRows ends m rows vs → fin.len rows ≤ length vs
rows_fit ends m rows vs h = keys_fit vs rows (λ k some. key_stands ends m k vs (fin.get rows k) (h k) some)

-- a core has at least as many versions as rows stand at the start
pub rows_have_versions : {rs : Readers} (opening : Map) (steps : List Step) (s : State) (c : CoreData) → StandsAmong rs opening steps s c → fin.len s.base ≤ version_count c
rows_have_versions opening steps s c h = rows_fit (ends_of (phases_of (state_of c.table))) s.start s.base (all_versions c.versions.slots) h.versions.versions.stood
