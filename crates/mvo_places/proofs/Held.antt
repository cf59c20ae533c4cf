-- Where the live records of pairs lie.
use Rattle.std.proofs.Common.{◌≡◌, ◌⊎◌, inl, inr, ℕ, ◌<◌, Bool, true, false, cond, List, [], ◌∷◌, ◌++◌, length, Some, refl, sym, ap, subst, ◌∙◌, arith}
use Rattle.std.specs.Prelude.{map, nat_eq}
use Rattle.std.specs.List.{AllByRecursion, IsDistinct}
use Rattle.std.specs.FinMap.{find, get, get-from_entries}
use Rattle.std.proofs.lemmas.Bool.{eqb-false}
use Rattle.std.proofs.lemmas.List.{map-append}
use Rattle.std.proofs.lemmas.List.Concat.{flat_map-cons}
use Rattle.mvo_types.specs.declared.row.RowKey.{RowKey}
use Rattle.mvo_types.specs.Keys.{key_cmp}
use Rattle.mvo_types.proofs.Maps.{keys_total}
use Rattle.mvo_pair.specs.Data.{Numbered, key_of, keys_of}
use Rattle.mvo_pair.specs.declared.pair.Pair.{Pair}
use Rattle.mvo_places.specs.declared.record_place.RecordPlace.{RecordPlace}
use Rattle.mvo_places.specs.Places.{PlaceMap, place, places_in, record_places, file_of, Rise, ArePlaces, number_of, place_numbered, AreSmall}
use Rattle.mvo_places.proofs.Placing.{place_of-number_of}
use Rattle.mvo_places.proofs.Members.{Among, among_left, among_right, among_append, among_map, among_mapped, all_among, Rises, rises_from}
use Rattle.mvo_places.proofs.Keys.{eq, key_same, eq_self, eq_flips}

abbrev pub Entries : Type 0
Entries = List (RowKey × RecordPlace)

abbrev pub first_of : RowKey × RecordPlace → RowKey
first_of e = e.0

pub found_among : (es : Entries) (k : RowKey) (v : RecordPlace) → find key_cmp k es ≡ Some v → Among es (k, v)
found_among [] k v is = absurd cc
found_among (e ∷ es) k v is = go (eq k e.0) refl is (found_among es k v)
  where
    go : (b : Bool) → eq k e.0 ≡ b → cond b (Some e.1) (find key_cmp k es) ≡ Some v → (find key_cmp k es ≡ Some v → Among es (k, v)) → Among (e ∷ es) (k, v)
    go true same found later =
        let key : k ≡ e.0 = key_same k e.0 same in
        let value : e.1 ≡ v = cc in
        inl (λ i. (sym key i, value i))
    go false other found later = inr (later found)

pub among_found : (es : Entries) (k : RowKey) (v : RecordPlace) → IsDistinct eq (map first_of es) → Among es (k, v) → find key_cmp k es ≡ Some v
unfolding IsDistinct
among_found [] k v apart a = absurd a
among_found (e ∷ es) k v apart (inl same) =
    let here : eq k e.0 ≡ true = ap (λ (x : RowKey × RecordPlace). eq k x.0) same ∙ eq_self k in
    ap (λ b. cond b (Some e.1) (find key_cmp k es)) here ∙ ap (λ (x : RowKey × RecordPlace). Some x.1) same
among_found (e ∷ es) k v apart (inr a) =
    let other : eq k e.0 ≡ false = eq_flips k e.0 ∙ all_among (λ y. eq e.0 y ≡ false) (map first_of es) k apart.0 (among_map first_of es (k, v) a) in
    ap (λ b. cond b (Some e.1) (find key_cmp k es)) other ∙ among_found es k v apart.1 a

pub keys-places_in : (file : ℕ) (live : List Numbered) → map first_of (places_in file live) ≡ map key_of live
keys-places_in file [] = refl
keys-places_in file (l ∷ live) = ap (λ (ks : List RowKey). key_of l ∷ ks) (keys-places_in file live)

pub keys-places_of : (ps : List Pair) (lives : List (List Numbered)) → length ps ≡ length lives → map first_of (record_places ps lives) ≡ keys_of lives
keys-places_of [] [] same = refl
keys-places_of [] (live ∷ lives) same = absurd (omega (arith, same))
keys-places_of (p ∷ ps) [] same = absurd (omega (arith, same))
keys-places_of (p ∷ ps) (live ∷ lives) same =
    map-append first_of (places_in p.data_file live) (record_places ps lives)
    ∙ ap (λ (ks : List RowKey). ks ++ map first_of (record_places ps lives)) (keys-places_in p.data_file live)
    ∙ ap (λ (ks : List RowKey). map key_of live ++ ks) (keys-places_of ps lives (omega (arith, same)))
    ∙ sym (flat_map-cons (λ l. map key_of l) live lives)

-- ---- pairs with their live records

-- this pair has these live records
abbrev pub Zips : List Pair → List (List Numbered) → Pair → List Numbered → Type 0
Zips [] lives p live = ⊥
Zips (q ∷ ps) [] p live = ⊥
Zips (q ∷ ps) (m ∷ lives) p live = ((q ≡ p) × (m ≡ live)) ⊎ Zips ps lives p live

pub record LiesAt (ps : List Pair) (lives : List (List Numbered)) (k : RowKey) (v : RecordPlace) : Type 0 where
  pub pair : Pair
  pub live : List Numbered
  pub one : Numbered
  pub zips : Zips ps lives pair live
  pub among : Among live one
  pub key : key_of one ≡ k
  pub place : place pair.data_file one.0 ≡ v

pub lies_at : (ps : List Pair) (lives : List (List Numbered)) (k : RowKey) (v : RecordPlace) → Among (record_places ps lives) (k, v) → LiesAt ps lives k v
lies_at [] lives k v a = absurd a
lies_at (p ∷ ps) [] k v a = absurd a
lies_at (p ∷ ps) (live ∷ lives) k v a = go (among_append (places_in p.data_file live) (record_places ps lives) (k, v) a) (lies_at ps lives k v)
  where
    go : Among (places_in p.data_file live) (k, v) ⊎ Among (record_places ps lives) (k, v) → (Among (record_places ps lives) (k, v) → LiesAt ps lives k v) → LiesAt (p ∷ ps) (live ∷ lives) k v
    go (inl here) later =
        let m = among_mapped (λ (l : Numbered). (key_of l, place p.data_file l.0)) live (k, v) here in
        record { pair = p; live = live; one = m.0; zips = inl (refl, refl); among = m.1; key = ap (λ (x : RowKey × RecordPlace). x.0) m.2; place = ap (λ (x : RowKey × RecordPlace). x.1) m.2 }
    go (inr there) later =
        let l = later there in
        record { pair = l.pair; live = l.live; one = l.one; zips = inr l.zips; among = l.among; key = l.key; place = l.place }

pub lies_there : (ps : List Pair) (lives : List (List Numbered)) (p : Pair) (live : List Numbered) (l : Numbered) → Zips ps lives p live → Among live l → Among (record_places ps lives) (key_of l, place p.data_file l.0)
lies_there [] lives p live l zips a = absurd zips
lies_there (q ∷ ps) [] p live l zips a = absurd zips
lies_there (q ∷ ps) (m ∷ lives) p live l (inl same) a =
    among_left (places_in q.data_file m) (record_places ps lives) (key_of l, place p.data_file l.0)
    (subst (λ (x : Pair). Among (places_in q.data_file m) (key_of l, place x.data_file l.0)) same.0
    (among_map (λ (n : Numbered). (key_of n, place q.data_file n.0)) m l (subst (λ (x : List Numbered). Among x l) (sym same.1) a)))
lies_there (q ∷ ps) (m ∷ lives) p live l (inr zips) a = among_right (places_in q.data_file m) (record_places ps lives) (key_of l, place p.data_file l.0) (lies_there ps lives p live l zips a)

zips_file : (ps : List Pair) (lives : List (List Numbered)) (p : Pair) (live : List Numbered) → Zips ps lives p live → Among (map file_of ps) p.data_file
zips_file [] lives p live zips = absurd zips
zips_file (q ∷ ps) [] p live zips = absurd zips
zips_file (q ∷ ps) (m ∷ lives) p live (inl same) = inl (ap file_of same.0)
zips_file (q ∷ ps) (m ∷ lives) p live (inr zips) = inr (zips_file ps lives p live zips)

-- the live records in one data file
pub zips_once : (ps : List Pair) (lives : List (List Numbered)) (p q : Pair) (live other : List Numbered) → IsDistinct nat_eq (map file_of ps) → Zips ps lives p live → Zips ps lives q other → p.data_file ≡ q.data_file → live ≡ other
unfolding IsDistinct
zips_once [] lives p q live other files zips also same = absurd zips
zips_once (r ∷ ps) [] p q live other files zips also same = absurd zips
zips_once (r ∷ ps) (m ∷ lives) p q live other files (inl a) (inl b) same = sym a.1 ∙ b.1
zips_once (r ∷ ps) (m ∷ lives) p q live other files (inl a) (inr b) same =
    absurd (eqb-false r.data_file q.data_file (all_among (λ y. nat_eq r.data_file y ≡ false) (map file_of ps) q.data_file files.0 (zips_file ps lives q other b)) (ap file_of a.0 ∙ same))
zips_once (r ∷ ps) (m ∷ lives) p q live other files (inr a) (inl b) same =
    absurd (eqb-false r.data_file p.data_file (all_among (λ y. nat_eq r.data_file y ≡ false) (map file_of ps) p.data_file files.0 (zips_file ps lives p live a)) (ap file_of b.0 ∙ sym same))
zips_once (r ∷ ps) (m ∷ lives) p q live other files (inr a) (inr b) same = zips_once ps lives p q live other files.1 a b same

pub zips_all : (P : List Numbered → Type 0) (ps : List Pair) (lives : List (List Numbered)) (p : Pair) (live : List Numbered) → AllByRecursion P lives → Zips ps lives p live → P live
zips_all P [] lives p live all zips = absurd zips
zips_all P (q ∷ ps) [] p live all zips = absurd zips
zips_all P (q ∷ ps) (m ∷ lives) p live all (inl same) = subst P same.1 all.0
zips_all P (q ∷ ps) (m ∷ lives) p live all (inr zips) = zips_all P ps lives p live all.1 zips

abbrev pub numbers_in : List Numbered → List ℕ
numbers_in live = map (λ l. l.0) live

-- the live record of one number
pub one_numbered : (live : List Numbered) (a b : Numbered) → Rises (numbers_in live) → Among live a → Among live b → a.0 ≡ b.0 → a ≡ b
one_numbered [] a b up here there same = absurd here
one_numbered (l ∷ live) a b up (inl e) (inl f) same = sym e ∙ f
one_numbered (l ∷ live) a b up (inl e) (inr f) same =
    absurd (let above : l.0 < b.0 = all_among (λ n. l.0 < n) (numbers_in live) b.0 up.0 (among_map (λ (x : Numbered). x.0) live b f) in
    let here : l.0 ≡ a.0 = ap (λ (x : Numbered). x.0) e in omega (arith, above, here, same))
one_numbered (l ∷ live) a b up (inr e) (inl f) same =
    absurd (let above : l.0 < a.0 = all_among (λ n. l.0 < n) (numbers_in live) a.0 up.0 (among_map (λ (x : Numbered). x.0) live a e) in
    let here : l.0 ≡ b.0 = ap (λ (x : Numbered). x.0) f in omega (arith, above, here, same))
one_numbered (l ∷ live) a b up (inr e) (inr f) same = one_numbered live a b up.1 e f same

module _ (ps : List Pair) (lives : List (List Numbered)) (at : PlaceMap) (are : ArePlaces ps lives at) where
  found : (k : RowKey) → get at k ≡ find key_cmp k (record_places ps lives)
  found k = ap (λ (m : PlaceMap). get m k) are.are ∙ get-from_entries keys_total (record_places ps lives) k

  pub at_live : (p : Pair) (live : List Numbered) (l : Numbered) → Zips ps lives p live → Among live l → get at (key_of l) ≡ Some (place p.data_file l.0)
  at_live p live l zips a =
      found (key_of l)
      ∙ among_found (record_places ps lives) (key_of l) (place p.data_file l.0) (subst (λ (ks : List RowKey). IsDistinct eq ks) (sym (keys-places_of ps lives are.each)) are.apart) (lies_there ps lives p live l zips a)

  pub live_at : (k : RowKey) (v : RecordPlace) → get at k ≡ Some v → LiesAt ps lives k v
  live_at k v is = lies_at ps lives k v (found_among (record_places ps lives) k v (sym (found k) ∙ is))

  one_key : (k j : RowKey) (v : RecordPlace) → get at k ≡ Some v → get at j ≡ Some v → k ≡ j
  one_key k j v is also =
      let a = live_at k v is in
      let b = live_at j v also in
      let both : place a.pair.data_file a.one.0 ≡ place b.pair.data_file b.one.0 = a.place ∙ sym b.place in
      let file : a.pair.data_file ≡ b.pair.data_file = ap (λ (x : RecordPlace). x.data_file) both in
      let number : a.one.0 ≡ b.one.0 = ap (λ (x : RecordPlace). x.number) both in
      let same : a.live ≡ b.live = zips_once ps lives a.pair b.pair a.live b.live are.files a.zips b.zips file in
      let there : Among a.live b.one = subst (λ (x : List Numbered). Among x b.one) (sym same) b.among in
      let up : Rises (numbers_in a.live) = rises_from (numbers_in a.live) (zips_all Rise ps lives a.pair a.live are.rise a.zips) in
      sym a.key ∙ ap key_of (one_numbered a.live a.one b.one up a.among there number) ∙ b.key

  -- no two keys have one number
  pub number_once : AreSmall at → (k j : RowKey) (v w : RecordPlace) → get at k ≡ Some v → get at j ≡ Some w → number_of v ≡ number_of w → k ≡ j
  number_once small k j v w is also same =
      let one : v ≡ w = sym (place_of-number_of v (small.each k v is)) ∙ ap place_numbered same ∙ place_of-number_of w (small.each j w also) in
      one_key k j w (is ∙ ap Some one) also
