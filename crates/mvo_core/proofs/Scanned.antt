-- What a scan sees, one place after another.
use Rattle.std.proofs.Common.{◌≡◌, ℕ, Bool, true, false, cond, eqb, ◌||◌, List, [], ◌∷◌, ◌++◌, map, filter, append_assoc, append-nil, Option, None, Some, refl, sym, ap, ◌∙◌, subst}
use Rattle.std.specs.List.{AllByRecursion}
use Rattle.std.specs.Option.{option_to_list}
use Rattle.std.specs.FinMap as fin
use Rattle.std.proofs.lemmas.Bool.{eq-eqb}
use Rattle.std.proofs.lemmas.List.Folds.{list_any-append}
use Rattle.mvo_types.specs.declared.ids.TxId.{TxId}
use Rattle.mvo_types.specs.declared.row.RowKey.{RowKey}
use Rattle.mvo_types.specs.RowData.{RowData}
use Rattle.mvo_theory.proofs.Each.{each_append, each_weaker}
use Rattle.mvo_theory.proofs.OriginEnds.{or_true}
use Rattle.mvo_range.specs.declared.sort_place.SortPlace.{SortPlace}
use Rattle.mvo_range.specs.Place.{is_between}
use Rattle.mvo_deps.specs.Data.{is_id_among}
use Rattle.mvo_visible.specs.Words.{States}
use Rattle.mvo_visible.specs.Versions.{versions_at}
use Rattle.mvo_visible.specs.Shown.{AreVersionsInOrder}
use Rattle.mvo_visible.specs.declared.outcome.Shown.{Shown}
use Rattle.mvo_versions.specs.Data.{VersionsData}
use Rattle.mvo_core.specs.Scanning.{row_with_sort, shown_at, row_at_place, is_met_at_place, rows_at_places, with_named, AreNamedAt, IsSeen}

some_id : (a b : TxId) → ◌≡◌ {A = Option TxId} (Some a) (Some b) → a ≡ b
some_id a b q = cc

none_id : (a : TxId) → ◌≡◌ {A = Option TxId} None (Some a) → ⊥
none_id a q = cc

-- ---- one more is named
among_itself : (id : TxId) (on : List TxId) → is_id_among id (on ++ id ∷ []) ≡ true
among_itself id on =
    list_any-append (λ (other : TxId). eqb other.0 id.0) on (id ∷ [])
    ∙ ap (λ b. is_id_among id on || (b || false)) (eq-eqb id.0 id.0 refl)
    ∙ or_true (is_id_among id on)

still_among : (met : Bool) (on : List TxId) (o : Option TxId) (id : TxId) → is_id_among id on ≡ true → is_id_among id (with_named met on o) ≡ true
still_among met on None id e = e
still_among met on (Some new) id e = go (is_id_among new on) met
  where
    go : (b m : Bool) → is_id_among id (cond b on (cond m (on ++ new ∷ []) on)) ≡ true
    go true m = e
    go false true = list_any-append (λ (other : TxId). eqb other.0 id.0) on (new ∷ []) ∙ ap (λ b. b || (eqb new.0 id.0 || false)) e
    go false false = e

now_among : (met : Bool) (on : List TxId) (o : Option TxId) (id : TxId) → met ≡ true → o ≡ Some id → is_id_among id (with_named met on o) ≡ true
now_among met on o id m e = subst (λ x. is_id_among id (with_named met on x) ≡ true) (sym e) (subst (λ b. is_id_among id (with_named b on (Some id)) ≡ true) (sym m) (go (is_id_among id on) refl))
  where
    go : (b : Bool) → is_id_among id on ≡ b → is_id_among id (cond b on (on ++ id ∷ [])) ≡ true
    go true q = q
    go false q = among_itself id on

only_more : (P : TxId → Type 0) (met : Bool) (on : List TxId) (o : Option TxId) → ((id : TxId) → met ≡ true → o ≡ Some id → P id) → AllByRecursion P on → AllByRecursion P (with_named met on o)
only_more P met on None f h = h
only_more P met on (Some new) f h = go (is_id_among new on) met refl
  where
    go : (b m : Bool) → met ≡ m → AllByRecursion P (cond b on (cond m (on ++ new ∷ []) on))
    go true m e = h
    go false true e = each_append P on (new ∷ []) h (f new e refl, tt)
    go false false e = h

-- ---- what passes
passes_in : (p : SortPlace × ℕ → Bool) (xs before : List (SortPlace × ℕ)) (e : SortPlace × ℕ) (rest : List (SortPlace × ℕ)) → filter p xs ≡ before ++ e ∷ rest → p e ≡ true
passes_in p xs before e rest q = each_at before (subst (AllByRecursion (λ x. p x ≡ true)) q (all xs))
  where
    all : (ys : List (SortPlace × ℕ)) → AllByRecursion (λ x. p x ≡ true) (filter p ys)
    all [] = tt
    all (y ∷ ys) = go (p y) refl (all ys)
      where
        go : (b : Bool) → p y ≡ b → AllByRecursion (λ x. p x ≡ true) (filter p ys) → AllByRecursion (λ x. p x ≡ true) (cond b (y ∷ filter p ys) (filter p ys))
        go true i h = (i, h)
        go false i h = h

    each_at : (ys : List (SortPlace × ℕ)) → AllByRecursion (λ x. p x ≡ true) (ys ++ e ∷ rest) → p e ≡ true
    each_at [] h = h.0
    each_at (y ∷ ys) h = each_at ys h.1

abbrev pub firsts : List (SortPlace × ℕ) → List SortPlace
firsts es = map (λ e. e.0) es

firsts_more : (es : List (SortPlace × ℕ)) (e : SortPlace × ℕ) → firsts (es ++ e ∷ []) ≡ firsts es ++ e.0 ∷ []
firsts_more [] e = refl
firsts_more (x ∷ xs) e = ap (λ ys. x.0 ∷ ys) (firsts_more xs e)

-- ---- as far as these places
module _ (states : States) (vs : VersionsData) (start t table lo hi : ℕ) where
  abbrev pub AllInOrder : Type 0
  AllInOrder = (k : RowKey) → AreVersionsInOrder states t t (versions_at vs.slots vs.lists k)

  pub record IsSoFar (es : List (SortPlace × ℕ)) (rows : List RowData) (on : List TxId) : Type 0 where
    pub rows' : rows ≡ rows_at_places states vs t (firsts es)
    pub named : AreNamedAt states vs start t table lo hi (firsts es) on

  pub none_yet : IsSoFar [] [] []
  none_yet = record { rows' = refl; named = record { each = tt; only = tt } }

  rows_more : (ps : List SortPlace) (p : SortPlace) → rows_at_places states vs t (ps ++ p ∷ []) ≡ rows_at_places states vs t ps ++ option_to_list (row_at_place states vs t p)
  rows_more [] p = append-nil (option_to_list (row_at_place states vs t p))
  rows_more (q ∷ qs) p = ap (λ xs. option_to_list (row_at_place states vs t q) ++ xs) (rows_more qs p) ∙ sym (append_assoc (option_to_list (row_at_place states vs t q)) (rows_at_places states vs t qs) (option_to_list (row_at_place states vs t p)))

  named_more : (ps : List SortPlace) (p : SortPlace) (on : List TxId) → is_between table lo hi (p, 0) ≡ true → AreNamedAt states vs start t table lo hi ps on
      → AreNamedAt states vs start t table lo hi (ps ++ p ∷ []) (with_named (is_met_at_place states vs start t p) on (shown_at states vs t p).depends_on)
  named_more ps p on inside h = record {
    each = each_append
        (λ q. (id : TxId) → is_met_at_place states vs start t q ≡ true → (shown_at states vs t q).depends_on ≡ Some id → is_id_among id (with_named (is_met_at_place states vs start t p) on (shown_at states vs t p).depends_on) ≡ true)
        ps (p ∷ [])
        (each_weaker (λ q. (id : TxId) → is_met_at_place states vs start t q ≡ true → (shown_at states vs t q).depends_on ≡ Some id → is_id_among id on ≡ true)
        (λ q. (id : TxId) → is_met_at_place states vs start t q ≡ true → (shown_at states vs t q).depends_on ≡ Some id → is_id_among id (with_named (is_met_at_place states vs start t p) on (shown_at states vs t p).depends_on) ≡ true)
        (λ q f id m e. still_among (is_met_at_place states vs start t p) on (shown_at states vs t p).depends_on id (f id m e)) ps h.each)
        ((λ id m e. now_among (is_met_at_place states vs start t p) on (shown_at states vs t p).depends_on id m e), tt);
    only = only_more (λ id. (q : SortPlace) × (is_between table lo hi (q, 0) ≡ true) × (is_met_at_place states vs start t q ≡ true) × ((shown_at states vs t q).depends_on ≡ Some id))
        (is_met_at_place states vs start t p) on (shown_at states vs t p).depends_on (λ id m e. (p, inside, m, e)) h.only;
  }

  -- one place more, where the walk shows what the rules say
  pub so_far_more : (es : List (SortPlace × ℕ)) (e : SortPlace × ℕ) (rest : List (SortPlace × ℕ)) (rows rows' : List RowData) (on on' : List TxId) (found : Shown) (row : Option RowData)
      → filter (is_between table lo hi) (fin.entries vs.places) ≡ es ++ e ∷ rest
      → found ≡ shown_at states vs t e.0 → row ≡ row_with_sort vs.slots e.0.sort found.version → rows' ≡ rows ++ option_to_list row
      → on' ≡ with_named (is_met_at_place states vs start t e.0) on found.depends_on → IsSoFar es rows on → IsSoFar (es ++ e ∷ []) rows' on'
  so_far_more es e rest rows rows' on on' found row all f w more named h = record {
    rows' = more
        ∙ ap (λ xs. xs ++ option_to_list row) h.rows'
        ∙ ap (λ o. rows_at_places states vs t (firsts es) ++ option_to_list o) (w ∙ ap (λ (x : Shown). row_with_sort vs.slots e.0.sort x.version) f)
        ∙ sym (rows_more (firsts es) e.0)
        ∙ ap (rows_at_places states vs t) (sym (firsts_more es e));
    named = subst (λ ps. AreNamedAt states vs start t table lo hi ps on') (sym (firsts_more es e))
        (subst (AreNamedAt states vs start t table lo hi (firsts es ++ e.0 ∷ [])) (sym (named ∙ ap (λ (x : Shown). with_named (is_met_at_place states vs start t e.0) on x.depends_on) f))
        (named_more (firsts es) e.0 on (passes_in (is_between table lo hi) (fin.entries vs.places) es e rest all) h.named));
  }

  pub all_seen : (es : List (SortPlace × ℕ)) (rows : List RowData) (on : List TxId) → filter (is_between table lo hi) (fin.entries vs.places) ≡ es → IsSoFar es rows on → IsSeen states vs start t table lo hi rows on
  all_seen es rows on all h = record {
    rows' = h.rows' ∙ ap (λ xs. rows_at_places states vs t (firsts xs)) (sym all);
    named = subst (λ xs. AreNamedAt states vs start t table lo hi (firsts xs) on) (sym all) h.named;
  }
