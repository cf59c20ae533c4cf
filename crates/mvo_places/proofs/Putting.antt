-- The place that a key has once places were put and removed.
use Rattle.std.proofs.Common.{◌≡◌, inl, inr, ℕ, ◌+◌, Bool, true, false, cond, List, [], ◌∷◌, ◌++◌, length, Option, None, Some, refl, sym, ap, subst, ◌∙◌, arith, ◌<◌, take, get_or, add-one, length-take}
use Rattle.std.specs.Prelude.{map, ◌||◌}
use Rattle.std.specs.List.{IsDistinct, enumerate_from, list_any}
use Rattle.std.specs.FinMap.{find, get, get-insert, get-remove, insert, remove}
use Rattle.std.proofs.Math.Seq.{take-suc}
use Rattle.std.proofs.lemmas.Grind.{fold-append}
use Rattle.mvo_types.specs.declared.row.RowKey.{RowKey}
use Rattle.mvo_types.specs.Keys.{key_cmp}
use Rattle.mvo_types.proofs.Maps.{keys_total}
use Rattle.mvo_pair.specs.Data.{EntryData, Numbered, key_of}
use Rattle.mvo_places.specs.declared.record_place.RecordPlace.{RecordPlace}
use Rattle.mvo_places.specs.Places.{PlaceMap, place, places_in, with_live, without_keys}
use Rattle.mvo_places.proofs.Members.{Among, among_map, all_among}
use Rattle.mvo_places.proofs.Keys.{eq, eq_self, eq_flips}
use Rattle.mvo_places.proofs.Held.{Entries, first_of, found_among, keys-places_in}
use Rattle.mvo_places.proofs.Finding.{or_else}

-- ---- one more record

pub enumerated-push : (n : ℕ) (es : List EntryData) (e : EntryData) → enumerate_from n (es ++ e ∷ []) ≡ enumerate_from n es ++ (n + length es, e) ∷ []
enumerated-push n [] e = ap (λ (k : ℕ). (k, e) ∷ enumerate_from (n + 1) []) (omega arith)
enumerated-push n (x ∷ es) e =
    let same : n + 1 + length es ≡ n + length (x ∷ es) = omega arith in
    ap (λ (ls : List Numbered). (n, x) ∷ ls) (enumerated-push (n + 1) es e)
    ∙ ap (λ (k : ℕ). (n, x) ∷ (enumerate_from (n + 1) es ++ (k, e) ∷ [])) same

-- its place goes in last
one_more : (file : ℕ) (es : List EntryData) (e : EntryData) (at : PlaceMap) → with_live file (enumerate_from 0 (es ++ e ∷ [])) at ≡ insert (with_live file (enumerate_from 0 es) at) e.row.key (place file (length es))
one_more file es e at =
    let count : 0 + length es ≡ length es = omega arith in
    ap (λ (ls : List Numbered). with_live file ls at) (enumerated-push 0 es e ∙ ap (λ (k : ℕ). enumerate_from 0 es ++ (k, e) ∷ []) count)
    ∙ fold-append (λ (m : PlaceMap) (l : Numbered). insert m (key_of l) (place file l.0)) at (enumerate_from 0 es) ((length es, e) ∷ [])

-- a loop over the records goes on
pub took : (file : ℕ) (es : List EntryData) (n : ℕ) (e : EntryData) (at before after : PlaceMap) → n < length es → e ≡ get_or es n e → before ≡ with_live file (enumerate_from 0 (take n es)) at → after ≡ insert before e.row.key (place file n) → after ≡ with_live file (enumerate_from 0 (take (n + 1) es)) at
took file es n e at before after below is held put =
    let many : length (take n es) ≡ n = omega (arith, length-take n es, below) in
    let longer : take (n + 1) es ≡ take n es ++ e ∷ [] = ap (λ k. take k es) (add-one n) ∙ take-suc es n e below ∙ ap (λ (x : EntryData). take n es ++ x ∷ []) (sym is) in
    put
    ∙ ap (λ (m : PlaceMap). insert m e.row.key (place file n)) held
    ∙ ap (λ (k : ℕ). insert (with_live file (enumerate_from 0 (take n es)) at) e.row.key (place file k)) (sym many)
    ∙ sym (one_more file (take n es) e at)
    ∙ ap (λ (xs : List EntryData). with_live file (enumerate_from 0 xs) at) (sym longer)

-- ---- looking up

pub found_none : (es : Entries) (k : RowKey) → ((v : RecordPlace) → Among es (k, v) → ⊥) → find key_cmp k es ≡ None
found_none es k absent = go (find key_cmp k es) refl
  where
    go : (o : Option RecordPlace) → find key_cmp k es ≡ o → o ≡ None
    go None is = refl
    go (Some v) is = absurd (absent v (found_among es k v is))

pub there_found : (es : Entries) (k : RowKey) → Among (map first_of es) k → find key_cmp k es ≡ None → ⊥
there_found [] k a none = a
there_found (e ∷ es) k a none = go (eq k e.0) refl a none (there_found es k)
  where
    go : (b : Bool) → eq k e.0 ≡ b → Among (map first_of (e ∷ es)) k → cond b (Some e.1) (find key_cmp k es) ≡ None → (Among (map first_of es) k → find key_cmp k es ≡ None → ⊥) → ⊥
    go true is at none later = absurd cc
    go false is (inl same) none later =
        let here : eq k e.0 ≡ true = ap (λ x. eq k x) same ∙ eq_self k in
        let both : true ≡ false = sym here ∙ is in
        absurd cc
    go false is (inr a) none later = later a none

pub get-without : (ks : List RowKey) (at : PlaceMap) (q : RowKey) → get (without_keys ks at) q ≡ cond (list_any (eq q) ks) None (get at q)
get-without [] at q = refl
get-without (k ∷ ks) at q =
    get-without ks (remove at k) q
    ∙ ap (λ (o : Option RecordPlace). cond (list_any (eq q) ks) None o) (get-remove keys_total at k q)
    ∙ go (eq q k) (list_any (eq q) ks)
  where
    go : (b c : Bool) → cond c None (cond b None (get at q)) ≡ cond (b || c) None (get at q)
    go true true = refl
    go true false = refl
    go false true = refl
    go false false = refl

pub get-with : (file : ℕ) (live : List Numbered) (at : PlaceMap) (q : RowKey) → IsDistinct eq (map key_of live) → get (with_live file live at) q ≡ or_else (find key_cmp q (places_in file live)) (get at q)
unfolding IsDistinct
get-with file [] at q differ = refl
get-with file (l ∷ live) at q differ =
    get-with file live (insert at (key_of l) (place file l.0)) q differ.1
    ∙ ap (λ (o : Option RecordPlace). or_else (find key_cmp q (places_in file live)) o) (get-insert keys_total at (key_of l) (place file l.0) q)
    ∙ go (eq q (key_of l)) refl
  where
    other : eq q (key_of l) ≡ true → find key_cmp q (places_in file live) ≡ None
    other is = found_none (places_in file live) q (λ v a.
        let there : Among (map key_of live) q = subst (λ (ks : List RowKey). Among ks q) (keys-places_in file live) (among_map first_of (places_in file live) (q, v) a) in
        let apart : eq (key_of l) q ≡ false = all_among (λ y. eq (key_of l) y ≡ false) (map key_of live) q differ.0 there in
        let both : true ≡ false = sym is ∙ eq_flips q (key_of l) ∙ apart in
        absurd cc)

    go : (b : Bool) → eq q (key_of l) ≡ b → or_else (find key_cmp q (places_in file live)) (cond b (Some (place file l.0)) (get at q)) ≡ or_else (cond b (Some (place file l.0)) (find key_cmp q (places_in file live))) (get at q)
    go true is = ap (λ (o : Option RecordPlace). or_else o (Some (place file l.0))) (other is)
    go false is = refl
