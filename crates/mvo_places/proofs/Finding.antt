-- Looking a key up among entries.
use Rattle.std.proofs.Common.{◌≡◌, Bool, true, false, cond, List, [], ◌∷◌, ◌++◌, Option, None, Some, refl, sym, ap, ◌∙◌}
use Rattle.std.specs.Prelude.{filter, not}
use Rattle.std.specs.FinMap.{find}
use Rattle.mvo_types.specs.declared.row.RowKey.{RowKey}
use Rattle.mvo_types.specs.Keys.{key_cmp}
use Rattle.mvo_places.proofs.Keys.{eq, key_same}

abbrev pub or_else : {V : Type 0} → Option V → Option V → Option V
or_else (Some v) other = Some v
or_else None other = other

pub find_append : {V : Type 0} (es fs : List (RowKey × V)) (k : RowKey) → find key_cmp k (es ++ fs) ≡ or_else (find key_cmp k es) (find key_cmp k fs)
find_append [] fs k = refl
find_append (e ∷ es) fs k = go (eq k e.0) (find_append es fs k)
  where
    go : (b : Bool) → find key_cmp k (es ++ fs) ≡ or_else (find key_cmp k es) (find key_cmp k fs) → cond b (Some e.1) (find key_cmp k (es ++ fs)) ≡ or_else (cond b (Some e.1) (find key_cmp k es)) (find key_cmp k fs)
    go true later = refl
    go false later = later

-- entries at keys that fail a test
pub find_failing : {V : Type 0} (t : RowKey → Bool) (es : List (RowKey × V)) (k : RowKey) → find key_cmp k (filter (λ e. not (t e.0)) es) ≡ cond (t k) None (find key_cmp k es)
find_failing {V} t [] k = go (t k)
  where
    go : (b : Bool) → ◌≡◌ {A = Option V} None (cond b None None)
    go true = refl
    go false = refl
find_failing t (e ∷ es) k = go (eq k e.0) refl (t e.0) refl (find_failing t es k)
  where
    go : (b : Bool) → eq k e.0 ≡ b → (u : Bool) → t e.0 ≡ u → find key_cmp k (filter (λ x. not (t x.0)) es) ≡ cond (t k) None (find key_cmp k es) → find key_cmp k (cond (not u) (e ∷ filter (λ x. not (t x.0)) es) (filter (λ x. not (t x.0)) es)) ≡ cond (t k) None (cond b (Some e.1) (find key_cmp k es))
    go true is true fails later =
        let here : t k ≡ true = ap t (key_same k e.0 is) ∙ fails in
        later ∙ ap (λ x. cond x None (find key_cmp k es)) here ∙ sym (ap (λ x. cond x None (Some e.1)) here)
    go true is false passes later =
        let here : t k ≡ false = ap t (key_same k e.0 is) ∙ passes in
        ap (λ x. cond x (Some e.1) (find key_cmp k (filter (λ y. not (t y.0)) es))) is ∙ sym (ap (λ x. cond x None (Some e.1)) here)
    go false is true fails later = later
    go false is false passes later = ap (λ x. cond x (Some e.1) (find key_cmp k (filter (λ y. not (t y.0)) es))) is ∙ later
