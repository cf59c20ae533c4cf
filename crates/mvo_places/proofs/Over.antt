-- The numbers of the keys of an opening over those of later keys.
use Rattle.std.proofs.Common.{◌≡◌, ℕ, zero, suc, ◌<◌, Bool, true, false, cond, List, [], ◌∷◌, ◌++◌, length, Option, None, Some, Result, Ok, Err, refl, sym, ap, subst, ◌∙◌, arith, get_or}
use Rattle.std.specs.Prelude.{slice_set, IfOk, OnErr, IsTrue}
use Rattle.std.specs.Option.{option_map, unwrap_or, IsSome}
use Rattle.std.specs.List.{AllByRecursion, IsDistinct}
use Rattle.std.specs.FinMap.{find, get, get-empty, get-insert, get-remove, get-from_entries, empty, from_entries, same_map}
use Rattle.std.proofs.lemmas.List.Elements.{filter_map-append, Contains-get_or}
use Rattle.std.specs.declared.alloc.AllocError.{AllocError}
use Rattle.mvo_types.specs.declared.row.RowKey.{RowKey}
use Rattle.mvo_types.specs.declared.limits.TheConstants.{MAX_PAIR_RECORDS}
use Rattle.mvo_types.specs.Keys.{key_cmp}
use Rattle.mvo_types.proofs.Maps.{keys_total, exact_keys}
use Rattle.mvo_hash.specs.Table.{KeyNumbers}
use Rattle.mvo_places.specs.declared.record_place.RecordPlace.{RecordPlace}
use Rattle.mvo_places.specs.Places.{numbers_as_places, place_numbered, number_of}
use Rattle.mvo_places.specs.Falling.{keys, HaveDistinctKeys}
use Rattle.mvo_places.specs.Fixed.{Numbers, with_number, AllLive, live_place, places_of_live, with_or_without, numbers_over}
use Rattle.mvo_places.proofs.Placing.{get-placed, place_of-number_of}
use Rattle.mvo_places.proofs.Keys.{eq, key_same, eq_self, eq_flips}
use Rattle.mvo_places.proofs.Members.{Among, among_from, among_map, all_among}

-- ---- what stands at a key

get-with_or_without : (m : KeyNumbers) (k : RowKey) (o : Option ℕ) (q : RowKey) → get (with_or_without m k o) q ≡ cond (eq q k) o (get m q)
get-with_or_without m k None q = get-remove keys_total m k q
get-with_or_without m k (Some n) q = get-insert keys_total m k n q

pub get-over : (es : Numbers) (m : KeyNumbers) (q : RowKey) → get (numbers_over es m) q ≡ unwrap_or (find key_cmp q es) (get m q)
get-over [] m q = refl
get-over (e ∷ es) m q = get-with_or_without (numbers_over es m) e.0 e.1 q ∙ go (eq q e.0) (get-over es m q)
  where
    go : (b : Bool) → get (numbers_over es m) q ≡ unwrap_or (find key_cmp q es) (get m q) → cond b e.1 (get (numbers_over es m) q) ≡ unwrap_or (cond b (Some e.1) (find key_cmp q es)) (get m q)
    go true later = refl
    go false later = later

find-with_number : (es : Numbers) (k : RowKey) (o : Option ℕ) (q : RowKey) → find key_cmp q (with_number es k o) ≡ cond (eq q k) (option_map (λ _. o) (find key_cmp q es)) (find key_cmp q es)
find-with_number [] k o q = go (eq q k)
  where
    go : (b : Bool) → ◌≡◌ {A = Option (Option ℕ)} None (cond b None None)
    go true = refl
    go false = refl
find-with_number (e ∷ es) k o q = go (eq q e.0) refl (eq q k) refl (find-with_number es k o q)
  where
    go : (b : Bool) → eq q e.0 ≡ b → (c : Bool) → eq q k ≡ c → find key_cmp q (with_number es k o) ≡ cond c (option_map (λ _. o) (find key_cmp q es)) (find key_cmp q es) → cond b (Some (cond (eq k e.0) o e.1)) (find key_cmp q (with_number es k o)) ≡ cond c (option_map (λ _. o) (cond b (Some e.1) (find key_cmp q es))) (cond b (Some e.1) (find key_cmp q es))
    go true is true also later =
        let here : eq k e.0 ≡ true = ap (λ x. eq x e.0) (sym (key_same q k also)) ∙ is in
        ap (λ b. Some (cond b o e.1)) here
    go true is false also later =
        let here : eq k e.0 ≡ false = ap (eq k) (sym (key_same q e.0 is)) ∙ eq_flips k q ∙ also in
        ap (λ b. Some (cond b o e.1)) here
    go false is c also later = later

-- ---- another number

given : (x : Option (Option ℕ)) (o d : Option ℕ) → IsSome x → unwrap_or (option_map (λ _. o) x) d ≡ o
given None o d some = absurd cc
given (Some x) o d some = refl

-- at a key of the opening
pub over-fixed : (es : Numbers) (m : KeyNumbers) (k : RowKey) (o : Option ℕ) → IsSome (find key_cmp k es) → numbers_over (with_number es k o) m ≡ with_or_without (numbers_over es m) k o
over-fixed es m k o some = same_map keys_total exact_keys (numbers_over (with_number es k o) m) (with_or_without (numbers_over es m) k o) (λ q.
    get-over (with_number es k o) m q
    ∙ ap (λ (x : Option (Option ℕ)). unwrap_or x (get m q)) (find-with_number es k o q)
    ∙ go q (eq q k) refl
    ∙ ap (cond (eq q k) o) (sym (get-over es m q))
    ∙ sym (get-with_or_without (numbers_over es m) k o q))
  where
    go : (q : RowKey) (b : Bool) → eq q k ≡ b → unwrap_or (cond b (option_map (λ _. o) (find key_cmp q es)) (find key_cmp q es)) (get m q) ≡ cond b o (unwrap_or (find key_cmp q es) (get m q))
    go q true is = given (find key_cmp q es) o (get m q) (subst (λ x. IsSome (find key_cmp x es)) (sym (key_same q k is)) some)
    go q false is = refl

-- at another key
pub over-later : (es : Numbers) (m : KeyNumbers) (k : RowKey) (o : Option ℕ) → find key_cmp k es ≡ None → numbers_over es (with_or_without m k o) ≡ with_or_without (numbers_over es m) k o
over-later es m k o none = same_map keys_total exact_keys (numbers_over es (with_or_without m k o)) (with_or_without (numbers_over es m) k o) (λ q.
    get-over es (with_or_without m k o) q
    ∙ ap (unwrap_or (find key_cmp q es)) (get-with_or_without m k o q)
    ∙ go q (eq q k) refl
    ∙ ap (cond (eq q k) o) (sym (get-over es m q))
    ∙ sym (get-with_or_without (numbers_over es m) k o q))
  where
    go : (q : RowKey) (b : Bool) → eq q k ≡ b → unwrap_or (find key_cmp q es) (cond b o (get m q)) ≡ cond b o (unwrap_or (find key_cmp q es) (get m q))
    go q true is = ap (λ (x : Option (Option ℕ)). unwrap_or x o) (ap (λ x. find key_cmp x es) (key_same q k is) ∙ none)
    go q false is = refl

pub unchanged : (es : Numbers) (k : RowKey) (o : Option ℕ) → find key_cmp k es ≡ None → with_number es k o ≡ es
unchanged [] k o none = refl
unchanged (e ∷ es) k o none = go (eq k e.0) none (unchanged es k o)
  where
    go : (b : Bool) → cond b (Some e.1) (find key_cmp k es) ≡ None → (find key_cmp k es ≡ None → with_number es k o ≡ es) → ◌≡◌ {A = Numbers} ((e.0, cond b o e.1) ∷ with_number es k o) (e ∷ es)
    go true there later = absurd cc
    go false there later = ap (λ (xs : Numbers). e ∷ xs) (later there)

pub keys-with_number : (es : Numbers) (k : RowKey) (o : Option ℕ) → keys (with_number es k o) ≡ keys es
keys-with_number [] k o = refl
keys-with_number (e ∷ es) k o = ap (λ (ks : List RowKey). e.0 ∷ ks) (keys-with_number es k o)

apart_same : (es : Numbers) (k : RowKey) (o : Option ℕ) → AllByRecursion (λ y. eq k y ≡ false) (keys es) → with_number es k o ≡ es
apart_same [] k o all = refl
apart_same (e ∷ es) k o all =
    ap (λ b. (e.0, cond b o e.1) ∷ with_number es k o) all.0 ∙ ap (λ (xs : Numbers). e ∷ xs) (apart_same es k o all.1)

-- at the place of the key
pub set_at : (es : Numbers) (k : RowKey) (o : Option ℕ) (i : ℕ) (d : RowKey × Option ℕ) → HaveDistinctKeys es → i < length es → (get_or es i d).0 ≡ k → slice_set es i (k, o) ≡ with_number es k o
unfolding IsDistinct
set_at [] k o i d apart within is = absurd (omega (arith, within))
set_at (e ∷ es) k o zero d apart within is =
    let here : eq k e.0 ≡ true = ap (eq k) is ∙ eq_self k in
    let rest : with_number es k o ≡ es = apart_same es k o (subst (λ x. AllByRecursion (λ y. eq x y ≡ false) (keys es)) is apart.0) in
    ap (λ (xs : Numbers). (k, o) ∷ xs) (sym rest)
    ∙ ap (λ x. (x, o) ∷ with_number es k o) (sym is)
    ∙ ap (λ b. (e.0, cond b o e.1) ∷ with_number es k o) (sym here)
set_at (e ∷ es) k o (suc i) d apart within is =
    let there : Among (keys es) k = subst (λ x. Among (keys es) x) is (among_map (λ (x : RowKey × Option ℕ). x.0) es (get_or es i d) (among_from es (get_or es i d) (Contains-get_or es i d (omega (arith, within))))) in
    let other : eq k e.0 ≡ false = eq_flips k e.0 ∙ all_among (λ y. eq e.0 y ≡ false) (keys es) k apart.0 there in
    ap (λ (xs : Numbers). e ∷ xs) (set_at es k o i d apart.1 (omega (arith, within)) is)
    ∙ ap (λ b. (e.0, cond b o e.1) ∷ with_number es k o) (sym other)

-- ---- keys that all have numbers

pub live-push : (es : Numbers) (k : RowKey) (n : ℕ) → AllLive es → AllLive (es ++ (k, Some n) ∷ [])
live-push [] k n live = (refl, tt)
live-push (e ∷ es) k n live = (live.0, live-push es k n live.1)

pub places-live-push : (es : Numbers) (k : RowKey) (p : RecordPlace) → p.number < MAX_PAIR_RECORDS → places_of_live (es ++ (k, Some (number_of p)) ∷ []) ≡ places_of_live es ++ (k, p) ∷ []
places-live-push es k p small =
    filter_map-append live_place es ((k, Some (number_of p)) ∷ [])
    ∙ ap (λ (x : RecordPlace). places_of_live es ++ (k, x) ∷ []) (place_of-number_of p small)

-- after a push that may have changed nothing
pub places-pushed : (es : Numbers) (k : RowKey) (p : RecordPlace) (n : ℕ) → n ≡ number_of p → p.number < MAX_PAIR_RECORDS → (b : Bool) → places_of_live (cond b (es ++ (k, Some n) ∷ []) es) ≡ cond b (places_of_live es ++ (k, p) ∷ []) (places_of_live es)
places-pushed es k p n is small true = ap (λ (m : ℕ). places_of_live (es ++ (k, Some m) ∷ [])) is ∙ places-live-push es k p small
places-pushed es k p n is small false = refl

pub live-pushed : (es new : Numbers) (k : RowKey) (n : ℕ) (r : Result Bool AllocError) → IfOk r (λ b. new ≡ cond b (es ++ (k, Some n) ∷ []) es) → OnErr r (new ≡ es) → AllLive es → AllLive new
live-pushed es new k n (Ok true) ok err live = subst (λ (xs : Numbers). AllLive xs) (sym ok) (live-push es k n live)
live-pushed es new k n (Ok false) ok err live = subst (λ (xs : Numbers). AllLive xs) (sym ok) live
live-pushed es new k n (Err e) ok err live = subst (λ (xs : Numbers). AllLive xs) (sym err) live

pub keys-live : (es : Numbers) → AllLive es → keys (places_of_live es) ≡ keys es
keys-live [] live = refl
keys-live ((k, None) ∷ es) live = let no : false ≡ true = live.0 in absurd cc
keys-live ((k, Some n) ∷ es) live = ap (λ (ks : List RowKey). k ∷ ks) (keys-live es live.1)

find-live : (es : Numbers) → AllLive es → (q : RowKey) → find key_cmp q (places_of_live es) ≡ option_map place_numbered (unwrap_or (find key_cmp q es) None)
find-live [] live q = refl
find-live ((k, None) ∷ es) live q = let no : false ≡ true = live.0 in absurd cc
find-live ((k, Some n) ∷ es) live q = go (eq q k) (find-live es live.1 q)
  where
    go : (b : Bool) → find key_cmp q (places_of_live es) ≡ option_map place_numbered (unwrap_or (find key_cmp q es) None) → cond b (Some (place_numbered n)) (find key_cmp q (places_of_live es)) ≡ option_map place_numbered (unwrap_or (cond b (Some (Some n)) (find key_cmp q es)) None)
    go true later = refl
    go false later = later

-- their places are those of a table without later keys
pub placed-live : (es : Numbers) → AllLive es → numbers_as_places (numbers_over es empty) ≡ from_entries (places_of_live es)
placed-live es live = same_map keys_total exact_keys (numbers_as_places (numbers_over es empty)) (from_entries (places_of_live es)) (λ q.
    get-placed (numbers_over es empty) q
    ∙ ap (option_map place_numbered) (get-over es empty q ∙ ap (unwrap_or (find key_cmp q es)) (get-empty key_cmp q))
    ∙ sym (find-live es live q)
    ∙ sym (get-from_entries keys_total (places_of_live es) q))

-- ---- what the calls of a table make

pub none_there : {X : Type 0} (o : Option X) → (IsSome o → IsTrue false) → o ≡ None
none_there None absent = refl
none_there (Some x) absent = let both : false ≡ true = absent refl in absurd cc

pub after-fixed : (es new : Numbers) (m : KeyNumbers) (k : RowKey) (o : Option ℕ) → new ≡ with_number es k o → IsSome (find key_cmp k es) → numbers_over new m ≡ with_or_without (numbers_over es m) k o
after-fixed es new m k o set some = ap (λ (xs : Numbers). numbers_over xs m) set ∙ over-fixed es m k o some

-- where the key isn't one of the opening
module _ (es new : Numbers) (k : RowKey) (o : Option ℕ) (set : new ≡ with_number es k o) (absent : IsSome (find key_cmp k es) → IsTrue false) where
  none : find key_cmp k es ≡ None
  none = none_there (find key_cmp k es) absent

  pub same-fixed : new ≡ es
  same-fixed = set ∙ unchanged es k o none

  pub after-later : (m later : KeyNumbers) → later ≡ with_or_without m k o → numbers_over new later ≡ with_or_without (numbers_over es m) k o
  after-later m later is =
      ap (λ (xs : Numbers). numbers_over xs later) same-fixed
      ∙ ap (numbers_over es) is
      ∙ over-later es m k o none

  pub later-at : (m : KeyNumbers) → get (numbers_over es m) k ≡ get m k
  later-at m = get-over es m k ∙ ap (λ (x : Option (Option ℕ)). unwrap_or x (get m k)) none
