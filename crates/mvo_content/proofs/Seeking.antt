-- Looks that lie in a list and then in a map: what is found there for an entry, and one look more.
use Rattle.std.proofs.Common.{◌≡◌, Bool, true, false, cond, ◌||◌, List, [], ◌∷◌, ◌++◌, Option, None, Some, map, refl, sym, ap, ◌∙◌}
use Rattle.std.specs.Prelude.{is_some}
use Rattle.std.specs.Map.{lookup}
use Rattle.std.proofs.lemmas.Bool.{true≢false}
use Rattle.mvo_types.specs.declared.entry.Entry.{Entry}
use Rattle.mvo_types.specs.Entries.{is_same, has_entry}
use Rattle.mvo_shared.specs.Kept.{Looked, entries_in, rows_kept}
use Rattle.mvo_content.specs.declared.rows_shown.RowsShown.{RowsShown}
use Rattle.mvo_content.specs.Shown.{rows_in}
use Rattle.mvo_content.specs.Looks.{look_of, look_at}

abbrev pub looks_of : List (Entry × RowsShown) → List Looked
looks_of ls = map look_of ls

none_some : (r : RowsShown) → ◌≡◌ {A = Option RowsShown} None (Some r) → ⊥
none_some r f = cc

same_some : (a b : RowsShown) → ◌≡◌ {A = Option RowsShown} (Some a) (Some b) → rows_in b ≡ rows_in a
same_some a b g = let same : a ≡ b = cc in ap rows_in (sym same)

-- an entry is found where it is kept
pub there : (ls : List (Entry × RowsShown)) (e : Entry) → is_some (look_at ls e) ≡ has_entry (entries_in (looks_of ls)) e
there [] e = refl
there (l ∷ ls) e = go (is_same e l.0) (there ls e)
  where
    go : (b : Bool) → is_some (look_at ls e) ≡ has_entry (entries_in (looks_of ls)) e → is_some (cond b (Some l.1) (look_at ls e)) ≡ (b || has_entry (entries_in (looks_of ls)) e)
    go true r = refl
    go false r = r

-- with its rows
pub kept_there : (ls : List (Entry × RowsShown)) (e : Entry) (r : RowsShown) → look_at ls e ≡ Some r → rows_in r ≡ rows_kept (looks_of ls) e
kept_there [] e r f = absurd (none_some r f)
kept_there (l ∷ ls) e r f = go (is_same e l.0) f (kept_there ls e r)
  where
    go : (b : Bool) → cond b (Some l.1) (look_at ls e) ≡ Some r → (look_at ls e ≡ Some r → rows_in r ≡ rows_kept (looks_of ls) e) → rows_in r ≡ cond b (rows_in l.1) (rows_kept (looks_of ls) e)
    go true g k = same_some l.1 r g
    go false g k = k g

-- what is found in front counts
pub found_front : (xs ys : List (Entry × RowsShown)) (e : Entry) (r : RowsShown) → look_at xs e ≡ Some r → look_at (xs ++ ys) e ≡ Some r
found_front [] ys e r f = absurd (none_some r f)
found_front (x ∷ xs) ys e r f = go (is_same e x.0) f (found_front xs ys e r)
  where
    go : (b : Bool) → cond b (Some x.1) (look_at xs e) ≡ Some r → (look_at xs e ≡ Some r → look_at (xs ++ ys) e ≡ Some r) → cond b (Some x.1) (look_at (xs ++ ys) e) ≡ Some r
    go true g k = g
    go false g k = k g

pub found_behind : (xs ys : List (Entry × RowsShown)) (e : Entry) → look_at xs e ≡ None → look_at (xs ++ ys) e ≡ look_at ys e
found_behind [] ys e f = refl
found_behind (x ∷ xs) ys e f = go (is_same e x.0) f (found_behind xs ys e)
  where
    go : (b : Bool) → cond b (Some x.1) (look_at xs e) ≡ None → (look_at xs e ≡ None → look_at (xs ++ ys) e ≡ look_at ys e) → cond b (Some x.1) (look_at (xs ++ ys) e) ≡ look_at ys e
    go true g k = absurd (none_some x.1 (sym g))
    go false g k = k g

-- one that isn't kept is found nowhere
none_found : (o : Option RowsShown) → is_some o ≡ false → o ≡ None
none_found None f = refl
none_found (Some r) f = absurd (true≢false f)

none_left : (b c : Bool) → (b || c) ≡ false → c ≡ false
none_left true c f = absurd (true≢false f)
none_left false c f = f

pub none_behind : (xs ys : List (Entry × RowsShown)) (e : Entry) → has_entry (entries_in (looks_of (xs ++ ys))) e ≡ false → look_at ys e ≡ None
none_behind [] ys e f = none_found (look_at ys e) (there ys e ∙ f)
none_behind (x ∷ xs) ys e f = none_behind xs ys e (none_left (is_same e x.0) (has_entry (entries_in (looks_of (xs ++ ys))) e) f)

-- a map's look-up finds the same
pub found_by : (test : Entry → Bool) (e : Entry) → ((d : Entry) → test d ≡ is_same e d) → (ls : List (Entry × RowsShown)) → lookup test ls ≡ look_at ls e
found_by test e same [] = refl
found_by test e same (l ∷ ls) = ap (λ (b : Bool). cond b (Some l.1) (lookup test ls)) (same l.0) ∙ ap (cond (is_same e l.0) (Some l.1)) (found_by test e same ls)
