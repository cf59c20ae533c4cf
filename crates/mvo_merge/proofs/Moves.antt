-- The places of a merge, one record after another.
use Rattle.std.proofs.Common.{◌≡◌, inl, inr, ℕ, ◌+◌, ◌<◌, Bool, true, false, cond, List, [], ◌∷◌, ◌++◌, length, get_or, take, drop, Option, Some, refl, sym, ap, subst, ◌∙◌, arith, add-one, length-take}
use Rattle.std.specs.Prelude.{map, filter}
use Rattle.std.specs.List.{IsDistinct, enumerate_from}
use Rattle.std.specs.FinMap.{get, get-insert, insert}
use Rattle.std.proofs.Math.Seq.{drop-cons, take-suc}
use Rattle.std.proofs.lemmas.List.{map-append, take-append-drop}
use Rattle.std.proofs.lemmas.List.Elements.{filter-append}
use Rattle.std.proofs.lemmas.Grind.{fold-append}
use Rattle.mvo_types.specs.declared.row.RowKey.{RowKey}
use Rattle.mvo_types.proofs.Maps.{keys_total}
use Rattle.mvo_pair.specs.Data.{EntryData, Numbered, key_of}
use Rattle.mvo_places.specs.declared.record_place.RecordPlace.{RecordPlace}
use Rattle.mvo_places.specs.Places.{PlaceMap, place, with_live}
use Rattle.mvo_places.proofs.Members.{Among, among_map, among_filtered}
use Rattle.mvo_places.proofs.Keys.{eq, eq_flips}
use Rattle.mvo_places.proofs.Growing.{differs_before}
use Rattle.mvo_places.proofs.Putting.{enumerated-push}
use Rattle.mvo_merge.specs.Moved.{HaveOwnKeys, lies_in, lying_in, with_one, moved}

abbrev pub entry_key : EntryData → RowKey
entry_key e = e.row.key

-- a key of none of the records keeps its place
pub other_key : (file : ℕ) (live : List Numbered) (at : PlaceMap) (q : RowKey) → ((l : Numbered) → Among live l → eq q (key_of l) ≡ false) → get (with_live file live at) q ≡ get at q
other_key file [] at q apart = refl
other_key file (l ∷ live) at q apart =
    other_key file live (insert at (key_of l) (place file l.0)) q (λ m a. apart m (inr a))
    ∙ get-insert keys_total at (key_of l) (place file l.0) q
    ∙ ap (λ b. cond b (Some (place file l.0)) (get at q)) (apart l (inl refl))

-- the record of a number
pub among_numbered : (n : ℕ) (es : List EntryData) (l : Numbered) → Among (enumerate_from n es) l → Among es l.1
among_numbered n [] l a = absurd a
among_numbered n (e ∷ es) l (inl same) = inl (ap (λ (x : Numbered). x.1) same)
among_numbered n (e ∷ es) l (inr a) = inr (among_numbered (n + 1) es l a)

module _ (left right file : ℕ) (at : PlaceMap) where
  abbrev lies : Numbered → Bool
  lies l = lies_in left right (get at (key_of l))

  one_more : (es : List EntryData) (e : EntryData) → moved left right file (es ++ e ∷ []) at ≡ (cond (lies_in left right (get at e.row.key)) (insert (moved left right file es at) e.row.key (place file (length es))) (moved left right file es at))
  one_more es e =
      let count : 0 + length es ≡ length es = omega arith in
      ap (λ (ls : List Numbered). with_live file (filter lies ls) at) (enumerated-push 0 es e ∙ ap (λ (k : ℕ). enumerate_from 0 es ++ (k, e) ∷ []) count)
      ∙ ap (λ (ls : List Numbered). with_live file ls at) (filter-append lies (enumerate_from 0 es) ((length es, e) ∷ []))
      ∙ fold-append (λ (m : PlaceMap) (l : Numbered). insert m (key_of l) (place file l.0)) at (filter lies (enumerate_from 0 es)) (filter lies ((length es, e) ∷ []))
      ∙ go (lies_in left right (get at e.row.key))
    where
      go : (b : Bool) → with_live file (cond b ((length es, e) ∷ []) []) (moved left right file es at) ≡ cond b (insert (moved left right file es at) e.row.key (place file (length es))) (moved left right file es at)
      go true = refl
      go false = refl

  -- a loop over the records goes on
  pub moves_on : (es : List EntryData) (n : ℕ) (e : EntryData) (before after : PlaceMap) → n < length es → e ≡ get_or es n e → HaveOwnKeys es → before ≡ moved left right file (take n es) at → after ≡ with_one left right e.row.key (place file n) before → after ≡ moved left right file (take (n + 1) es) at
  moves_on es n e before after below is keys done put =
      let many : length (take n es) ≡ n = omega (arith, length-take n es, below) in
      let longer : take (n + 1) es ≡ take n es ++ e ∷ [] = ap (λ k. take k es) (add-one n) ∙ take-suc es n e below ∙ ap (λ (x : EntryData). take n es ++ x ∷ []) (sym is) in
      let split : es ≡ take n es ++ e ∷ drop (n + 1) es = sym (take-append-drop n es) ∙ ap (λ (xs : List EntryData). take n es ++ xs) (drop-cons es n e below ∙ ap (λ (k : ℕ). get_or es n e ∷ drop k es) (sym (add-one n)) ∙ ap (λ (x : EntryData). x ∷ drop (n + 1) es) (sym is)) in
      let apart : IsDistinct eq (map entry_key (take n es) ++ e.row.key ∷ map entry_key (drop (n + 1) es)) =
      subst (λ (ks : List RowKey). IsDistinct eq ks) (ap (λ (xs : List EntryData). map entry_key xs) split ∙ map-append entry_key (take n es) (e ∷ drop (n + 1) es)) keys in
      let same : get before e.row.key ≡ get at e.row.key = ap (λ (m : PlaceMap). get m e.row.key) done ∙ other_key file (lying_in left right at (take n es)) at e.row.key (λ l a.
      let there : Among (take n es) l.1 = among_numbered 0 (take n es) l (among_filtered lies (enumerate_from 0 (take n es)) l a).0 in
      eq_flips e.row.key (key_of l) ∙ differs_before (map entry_key (take n es)) e.row.key (map entry_key (drop (n + 1) es)) (key_of l) apart (among_map entry_key (take n es) l.1 there)) in
      put
      ∙ ap (λ (o : Option RecordPlace). cond (lies_in left right o) (insert before e.row.key (place file n)) before) same
      ∙ ap (λ (m : PlaceMap). cond (lies_in left right (get at e.row.key)) (insert m e.row.key (place file n)) m) done
      ∙ ap (λ (k : ℕ). cond (lies_in left right (get at e.row.key)) (insert (moved left right file (take n es) at) e.row.key (place file k)) (moved left right file (take n es) at)) (sym many)
      ∙ sym (one_more (take n es) e)
      ∙ ap (λ (xs : List EntryData). moved left right file xs at) (sym longer)
