-- The pairs of a manifest, gathered one after another.
use Rattle.std.proofs.Common.{◌≡◌, ℕ, ◌<◌, List, [], ◌∷◌, ◌++◌, length, Ok, refl, sym, ap, subst, ◌∙◌, append_assoc, arith, length-append}
use Rattle.std.specs.Prelude.{map, nat_eq, All}
use Rattle.std.specs.List.{AllByRecursion, AllZip, IsDistinct}
use Rattle.std.specs.List.Sorted.{IsPermutation}
use Rattle.std.specs.FinMap.{from_entries}
use Rattle.std.proofs.lemmas.List.{append-nil, map-append}
use Rattle.std.proofs.lemmas.List.Elements.{All-append, All-from_recursion, recursion_from_All}
use Rattle.std.proofs.lemmas.List.Concat.{flat_map-cons}
use Rattle.std.proofs.lemmas.List.Sorted.{IsPermutation-refl, IsPermutation-append, IsPermutation-map, All-permutation}
use Rattle.mvo_types.specs.declared.row.RowKey.{RowKey}
use Rattle.mvo_types.specs.Keys.{Map}
use Rattle.mvo_pair.specs.Data.{Numbered, AreApart, key_of, keys_of}
use Rattle.mvo_pair.specs.Answers.{IsOnly}
use Rattle.mvo_pair.specs.Loading.{LoadsAs}
use Rattle.mvo_pair.specs.declared.pair.Pair.{Pair}
use Rattle.mvo_manifest.specs.Data.{ManifestData}
use Rattle.mvo_manifest.specs.Rules.{IsManifest}
use Rattle.mvo_manifest.proofs.Spelled.{all_parts}
use Rattle.mvo_places.specs.Rows.{rows_of}
use Rattle.mvo_recovery.specs.image.Opens.{Image, OpeningOutcome, Pairs}
use Rattle.mvo_recovery.specs.image.Gives.{HaveLive}
use Rattle.mvo_recovery.proofs.image.Apart.{distinct_front}
use Rattle.mvo_places.specs.Places.{PlaceMap, ArePlaces, file_of, places_in, record_places}
use Rattle.mvo_places.proofs.Rising.{live_numbers_rise}
use Rattle.mvo_places.proofs.Growing.{no_places, places_grow, keys-push}
use Rattle.mvo_places.proofs.Keys.{eq}
use Rattle.mvo_places.proofs.Held.{first_of, keys-places_of}
use Rattle.mvo_load.specs.Leading.{Leads}
use Rattle.mvo_load.specs.Parts.{HaveRows, HavePlaces}
use Rattle.mvo_load.specs.Gathered.{Filed, filed_of, filed_in, filed_by, unfiled, keyed_place, AreGathered, AreMade, MayLie}
use Rattle.mvo_load.specs.Files.{PairBytes, bytes_of, IsPart}
use Rattle.mvo_load.specs.declared.part.Part.{Part}
use Rattle.mvo_load.proofs.Fronts.{pair_on_disk}
use Rattle.mvo_load.proofs.Ordered.{AreRows, all_of, same_entries, apart_each, rows_each, made_in_order}
use Rattle.mvo_load.proofs.Pairing.{HasFiles, pair_files_fit, data_files_differ, live_push, none_alone, one_more_alone, Behind, Whole}
use Rattle.mvo_load.proofs.Steps.{pair_leads}
use Rattle.mvo_load.proofs.Taken.{Placed}

-- live records that lie in one data file
abbrev pub file_all : ℕ → List Numbered → List Filed
file_all file live = map (λ l. (file, l)) live

-- ---- live records of pairs with their data files

filed-push : (ps : List Pair) (lives : List (List Numbered)) (p : Pair) (live : List Numbered) → length ps ≡ length lives → filed_by (ps ++ p ∷ []) (lives ++ live ∷ []) ≡ filed_by ps lives ++ file_all p.data_file live
filed-push [] [] p live same = append-nil (file_all p.data_file live)
filed-push [] (m ∷ lives) p live same = absurd (omega (arith, same))
filed-push (q ∷ ps) [] p live same = absurd (omega (arith, same))
filed-push (q ∷ ps) (m ∷ lives) p live same =
    ap (λ (all : List Filed). file_all q.data_file m ++ all) (filed-push ps lives p live (omega (arith, same)))
    ∙ sym (append_assoc (file_all q.data_file m) (filed_by ps lives) (file_all p.data_file live))

unfiled-all : (file : ℕ) (live : List Numbered) → unfiled (file_all file live) ≡ live
unfiled-all file [] = refl
unfiled-all file (l ∷ live) = ap (λ (ls : List Numbered). l ∷ ls) (unfiled-all file live)

unfiled-by : (ps : List Pair) (lives : List (List Numbered)) → length ps ≡ length lives → unfiled (filed_by ps lives) ≡ all_of lives
unfiled-by [] [] same = refl
unfiled-by [] (live ∷ lives) same = absurd (omega (arith, same))
unfiled-by (p ∷ ps) [] same = absurd (omega (arith, same))
unfiled-by (p ∷ ps) (live ∷ lives) same =
    map-append (λ (x : Filed). x.1) (file_all p.data_file live) (filed_by ps lives)
    ∙ ap (λ (l : List Numbered). l ++ unfiled (filed_by ps lives)) (unfiled-all p.data_file live)
    ∙ ap (λ (l : List Numbered). live ++ l) (unfiled-by ps lives (omega (arith, same)))
    ∙ sym (flat_map-cons (λ of_pair. of_pair) live lives)

placed-all : (file : ℕ) (live : List Numbered) → map keyed_place (file_all file live) ≡ places_in file live
placed-all file [] = refl
placed-all file (l ∷ live) = ap (λ (es : Placed). keyed_place (file, l) ∷ es) (placed-all file live)

placed-by : (ps : List Pair) (lives : List (List Numbered)) → map keyed_place (filed_by ps lives) ≡ record_places ps lives
placed-by [] lives = refl
placed-by (p ∷ ps) [] = refl
placed-by (p ∷ ps) (live ∷ lives) =
    map-append keyed_place (file_all p.data_file live) (filed_by ps lives)
    ∙ ap (λ (es : Placed). es ++ map keyed_place (filed_by ps lives)) (placed-all p.data_file live)
    ∙ ap (λ (es : Placed). places_in p.data_file live ++ es) (placed-by ps lives)

may_lie : (p : Pair) (live : List Numbered) → HasFiles p → AllByRecursion (λ l. l.0 < p.records) live → AllByRecursion MayLie (file_all p.data_file live)
may_lie p [] fits few = tt
may_lie p (l ∷ live) fits few = ((omega (arith, fits.«data»), omega (arith, few.0, fits.records)), may_lie p live fits few.1)

abbrev pub AreFiles : Pair → Type 0
AreFiles p = (p.data_file < 1024) × (p.delta_file < 1024)

pub all_files : (ps : List Pair) → AllByRecursion HasFiles ps → AllByRecursion AreFiles ps
all_files [] fit = tt
all_files (p ∷ ps) fit = ((fit.0.«data», fit.0.delta), all_files ps fit.1)

-- ---- the pairs of a manifest

module _ (upto : ℕ) (image : Image) (m : ManifestData) where
  abbrev next : List (List Numbered) → OpeningOutcome → Type 0
  next lives = Behind upto image m (rows_of lives)

  -- the pairs in front of these are gathered
  pub record GatheredSoFar (rest : List Pair) (gathered : List Filed) : Type 0 where
    pub done : List Pair
    pub whole : m.pairs ≡ done ++ rest
    pub lives : List (List Numbered)
    pub have : HaveLive upto image done lives
    pub files : AllByRecursion HasFiles rest
    pub alone : (ls : List (List Numbered)) → HaveLive upto image done ls → ls ≡ lives
    pub all : IsPermutation (filed_by done lives) gathered
    pub long : length done ≡ length lives
    pub leads : AreApart lives → Leads (Pairs upto image next rest lives) (Whole upto image m)
    pub places : AreApart lives → ArePlaces done lives (from_entries (record_places done lives))

  pub none_gathered : IsManifest m → GatheredSoFar m.pairs []
  none_gathered good = record {
    done = [];
    whole = refl;
    lives = [];
    have = tt;
    files = pair_files_fit m good;
    alone = none_alone upto image;
    all = IsPermutation-refl [];
    long = refl;
    leads = λ apart out only. only;
    places = λ apart. no_places;
  }

  module _ (p : Pair) (ps : List Pair) (before : List Filed) (here : GatheredSoFar (p ∷ ps) before) (live sorted : List Numbered) (moved : IsPermutation live sorted) (only : IsOnly (LoadsAs upto p (image p.data_file) (image p.delta_file)) (Ok live)) (good : IsManifest m) where
    front : AreApart (here.lives ++ live ∷ []) → AreApart here.lives
    front apart = distinct_front eq (keys_of here.lives) (map key_of live) (subst (λ (ks : List RowKey). IsDistinct eq ks) (keys-push here.lives live) apart)

    all_more : IsPermutation (filed_by (here.done ++ p ∷ []) (here.lives ++ live ∷ [])) (before ++ file_all p.data_file sorted)
    all_more = subst (λ (l : List Filed). IsPermutation l (before ++ file_all p.data_file sorted)) (sym (filed-push here.done here.lives p live here.long))
        (IsPermutation-append (filed_by here.done here.lives) before (file_all p.data_file live) (file_all p.data_file sorted) here.all (IsPermutation-map (λ (l : Numbered). (p.data_file, l)) live sorted moved))

    whole_more : m.pairs ≡ (here.done ++ p ∷ []) ++ ps
    whole_more = here.whole ∙ sym (append_assoc here.done (p ∷ []) ps)

    files_differ : IsDistinct nat_eq (map file_of (here.done ++ p ∷ []))
    files_differ =
        distinct_front nat_eq (map file_of (here.done ++ p ∷ [])) (map file_of ps)
        (subst (λ (l : List ℕ). IsDistinct nat_eq l) (ap (λ (l : List Pair). map file_of l) whole_more ∙ map-append file_of (here.done ++ p ∷ []) ps) (data_files_differ m good))

    places_more : AreApart (here.lives ++ live ∷ []) → ArePlaces (here.done ++ p ∷ []) (here.lives ++ live ∷ []) (from_entries (record_places (here.done ++ p ∷ []) (here.lives ++ live ∷ [])))
    places_more apart =
        let grown = places_grow here.done here.lives (from_entries (record_places here.done here.lives)) p live (here.places (front apart)) files_differ apart (live_numbers_rise upto p (image p.data_file) (image p.delta_file) live only.0).0 in
        subst (λ (at : PlaceMap). ArePlaces (here.done ++ p ∷ []) (here.lives ++ live ∷ []) at) grown.are grown

    pub one_gathered : GatheredSoFar ps (before ++ file_all p.data_file sorted)
    one_gathered = record {
      done = here.done ++ p ∷ [];
      whole = whole_more;
      lives = here.lives ++ live ∷ [];
      have = live_push upto image here.done here.lives p live here.have only.0;
      files = here.files.1;
      alone = one_more_alone upto image here.done here.lives p live here.alone only;
      all = all_more;
      long = omega (arith, length-append here.done (p ∷ []), length-append here.lives (live ∷ []), here.long);
      leads = λ apart out n. here.leads (front apart) out (pair_leads upto image next p ps here.lives live only apart out n);
      places = places_more;
    }

  -- the files that the first of these pairs name
  pub front_files : (ps qs : List Pair) (gathered : List Filed) → GatheredSoFar (ps ++ qs) gathered → All AreFiles ps
  front_files ps qs gathered here = All-from_recursion AreFiles ps (all_files ps (all_parts HasFiles ps qs here.files).0)

  abbrev pub ArePartsOf : List Pair → List Part → Type 0
  ArePartsOf ps parts = AllZip (IsPart upto) (map (bytes_of upto image) ps) parts

  -- the parts of some more pairs, one after another
  pub more_gathered : IsManifest m → (ps qs : List Pair) (parts : List Part) (before : List Filed) → GatheredSoFar (ps ++ qs) before → ArePartsOf ps parts → GatheredSoFar qs (before ++ filed_in parts)
  more_gathered good [] qs [] before here are = subst (λ (l : List Filed). GatheredSoFar qs l) (sym (append-nil before)) here
  more_gathered good [] qs (part ∷ parts) before here are = absurd are
  more_gathered good (p ∷ ps) qs [] before here are = absurd are
  more_gathered good (p ∷ ps) qs (part ∷ parts) before here are =
      let only = pair_on_disk upto p (image p.data_file) (image p.delta_file) (Ok are.0.live) are.0.only in
      let one = one_gathered p (ps ++ qs) before here are.0.live part.live.items are.0.moved only good in
      let next = subst (λ (n : ℕ). GatheredSoFar (ps ++ qs) (before ++ file_all n part.live.items)) (sym are.0.file) one in
      let all = more_gathered good ps qs parts (before ++ filed_of part) next are.1 in
      let all_is : (before ++ filed_of part) ++ filed_in parts ≡ before ++ filed_in (part ∷ parts) =
      append_assoc before (filed_of part) (filed_in parts) ∙ ap (λ (l : List Filed). before ++ l) (sym (flat_map-cons filed_of part parts)) in
      subst (λ (l : List Filed). GatheredSoFar qs l) all_is all

  module _ (gathered : List Filed) (all : GatheredSoFar [] gathered) where
    pairs_are : m.pairs ≡ all.done
    pairs_are = all.whole ∙ append-nil all.done

    places_all : AreApart all.lives → HavePlaces upto image m.pairs (from_entries (record_places m.pairs all.lives))
    places_all apart = record {
      are = λ lives have.
          let same : lives ≡ all.lives = all.alone lives (subst (λ (ps : List Pair). HaveLive upto image ps lives) pairs_are have) in
          subst (λ (ps : List Pair). ArePlaces ps lives (from_entries (record_places ps all.lives))) (sym pairs_are)
          (subst (λ (ls : List (List Numbered)). ArePlaces all.done ls (from_entries (record_places all.done all.lives))) (sym same) (all.places apart));
    }

    pub all_gathered : AreGathered upto image m gathered
    all_gathered = record {
      lives = all.lives;
      have = subst (λ (ps : List Pair). HaveLive upto image ps all.lives) (sym pairs_are) all.have;
      whole = subst (λ (ps : List Pair). IsPermutation (filed_by ps all.lives) gathered) (sym pairs_are) all.all;
      leads = all.leads;
      places = places_all;
    }

-- ---- what is made of them

long_as : (upto : ℕ) (image : Image) (ps : List Pair) (ls : List (List Numbered)) → HaveLive upto image ps ls → length ps ≡ length ls
long_as upto image [] [] have = refl
long_as upto image [] (l ∷ ls) have = absurd have
long_as upto image (p ∷ ps) [] have = absurd have
long_as upto image (p ∷ ps) (l ∷ ls) have = omega (arith, long_as upto image ps ls have.1)

module _ (upto : ℕ) (image : Image) (m : ManifestData) (gathered : List Filed) (all : AreGathered upto image m gathered) (rows : Map) (at : PlaceMap) (made : AreMade gathered rows at) where
  long : length m.pairs ≡ length all.lives
  long = long_as upto image m.pairs all.lives all.have

  each_made : AreRows (all_of all.lives) rows
  each_made =
      let moved = IsPermutation-map (λ (x : Filed). x.1) (filed_by m.pairs all.lives) gathered all.whole in
      made_in_order (all_of all.lives) (unfiled gathered) rows (subst (λ (l : List Numbered). IsPermutation l (unfiled gathered)) (unfiled-by m.pairs all.lives long) moved) made.apart made.rows_are

  apart : AreApart all.lives
  apart = apart_each all.lives (all_of all.lives) refl each_made.apart

  keys_apart : IsDistinct eq (map first_of (record_places m.pairs all.lives))
  keys_apart = subst (λ (ks : List RowKey). IsDistinct eq ks) (sym (keys-places_of m.pairs all.lives long)) apart

  places_moved : IsPermutation (record_places m.pairs all.lives) (map keyed_place gathered)
  places_moved = subst (λ (es : Placed). IsPermutation es (map keyed_place gathered)) (placed-by m.pairs all.lives) (IsPermutation-map keyed_place (filed_by m.pairs all.lives) gathered all.whole)

  at_is : from_entries (record_places m.pairs all.lives) ≡ at
  at_is = same_entries (record_places m.pairs all.lives) (map keyed_place gathered) places_moved keys_apart ∙ sym made.places_are

  rows_are : rows ≡ rows_of all.lives
  rows_are = each_made.are ∙ rows_each all.lives (all_of all.lives) refl

  pub rows_made : HaveRows upto image m.pairs rows
  rows_made = record { lives = all.lives; live = all.have; distinct = apart; are = rows_are }

  pub places_made : HavePlaces upto image m.pairs at
  places_made = subst (λ (x : PlaceMap). HavePlaces upto image m.pairs x) at_is (all.places apart)

  pub leads_made : Leads (Behind upto image m rows) (Whole upto image m)
  leads_made out only = all.leads apart out (subst (λ (r : Map). IsOnly (Behind upto image m r) out) rows_are only)

-- the live records of parts that were found may lie in a table, whatever their bytes
pub small_parts : (upto : ℕ) (bs : List PairBytes) (parts : List Part) → AllByRecursion HasFiles (map (λ b. b.pair) bs) → AllZip (IsPart upto) bs parts → All MayLie (filed_in parts)
small_parts upto [] [] fit are = All-from_recursion MayLie [] tt
small_parts upto [] (part ∷ parts) fit are = absurd are
small_parts upto (b ∷ bs) [] fit are = absurd are
small_parts upto (b ∷ bs) (part ∷ parts) fit are =
    let p = b.pair in
    let sorted = part.live.items in
    let few = All-permutation (λ (l : Numbered). l.0 < p.records) are.0.live sorted are.0.moved (live_numbers_rise upto p b.data_bytes b.delta_bytes are.0.live are.0.only.0).1 in
    let here = All-from_recursion MayLie (file_all p.data_file sorted) (may_lie p sorted fit.0 (recursion_from_All (λ l. l.0 < p.records) sorted few)) in
    let mine : All MayLie (filed_of part) = subst (λ (n : ℕ). All MayLie (file_all n sorted)) (sym are.0.file) here in
    subst (λ (l : List Filed). All MayLie l) (sym (flat_map-cons filed_of part parts)) (All-append MayLie (filed_of part) (filed_in parts) mine (small_parts upto bs parts fit.1 are.1))
