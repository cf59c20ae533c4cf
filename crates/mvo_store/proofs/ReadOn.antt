-- Two pairs that are read in slices: what begins, what a slice makes of it, and the merge that is planned of it.
use Rattle.std.proofs.Common.{◌≡◌, ◌⊎◌, inl, inr, ℕ, ◌+◌, ◌<◌, ◌≤◌, Bool, true, false, List, [], ◌∷◌, ◌++◌, length, take, drop, Result, Ok, Err, Some, refl, sym, ap, subst, ◌∙◌, arith, append_assoc}
use Rattle.std.specs.List.Sorted.{IsStrictlyIncreasing}
use Rattle.std.proofs.lemmas.List.{append-nil, map-append, length-map, take_at, drop_at}
use Rattle.mvo_types.specs.declared.limits.TheConstants.{MAX_PAIR_RECORDS}
use Rattle.mvo_types.specs.declared.refusal.Refusal.{Refusal}
use Rattle.mvo_format.specs.declared.format.TheConstants.{LAST_FORMAT}
use Rattle.mvo_pair.specs.declared.pair.Pair.{Pair}
use Rattle.mvo_pair.specs.declared.reading.ReadSoFar.{ReadSoFar}
use Rattle.mvo_pair.specs.Coming.{PairReadingData, at_start, still_found, in_front}
use Rattle.mvo_pair.specs.Data.{EntryData, Numbered}
use Rattle.mvo_pair.specs.Writing.{IsStop}
use Rattle.mvo_pair.proofs.Comes.{none_in_front}
use Rattle.mvo_manifest.specs.Data.{ManifestData}
use Rattle.mvo_manifest.specs.Rules.{IsManifest}
use Rattle.mvo_places.specs.Places.{PlaceMap, ArePlaces, Rise}
use Rattle.mvo_merge.specs.Merged.{MergedData, merged, entries_alone, live_numbers}
use Rattle.mvo_merge.specs.SoFar.{merged_of, nothing_merged, merged_whole, with_left, with_right}
use Rattle.mvo_merge.proofs.Loaded.{has_both}
use Rattle.mvo_merge.proofs.SoFar.{left_more, right_more}
use Rattle.mvo_recovery.specs.image.Opens.{Image}
use Rattle.mvo_recovery.specs.Parts.{Parts}
use Rattle.mvo_recovery.specs.Settled.{IsSettled}
use Rattle.mvo_recovery.specs.beside.Seen.{WasSeen}
use Rattle.mvo_recovery.proofs.Later.{loads_later, up_to_last}
use Rattle.mvo_load.specs.Read.{IsMisread, MayBeLive}
use Rattle.mvo_load.specs.Sliced.{IsReadUpTo, IsSliceOf, IsBrokenSlice}
use Rattle.mvo_load.proofs.Sliced.{ends_loaded, ends_misread, whole_comes, may_be_read, may_be_read_on, slice_misread, slice_comes, broken_comes}
use Rattle.mvo_store.specs.declared.limits.TheConstants.{MAX_GENERATION}
use Rattle.mvo_store.specs.declared.merge.merging.Merging.{Merging}
use Rattle.mvo_store.specs.declared.merge.reading.MergeReading.{MergeReading}
use Rattle.mvo_store.specs.declared.merge.merge_job.MergeJob.{MergeJob}
use Rattle.mvo_store.specs.declared.merge.merge_job.MergeJob.TheVariants.{Reading, Running}
use Rattle.mvo_store.specs.Causes.{are_too_many}
use Rattle.mvo_store.specs.Merging.{neighbours_at}
use Rattle.mvo_store.specs.MergePlanning.{HasLive, IsPlannedMerge}
use Rattle.mvo_store.specs.PairsRead.{side_of, with_rest, IsLeftRead, IsRightRead, AreReadOn, IsSafeRead, read_with, IsReadFrom, left_to_read}
use Rattle.mvo_store.specs.ReadSlices.{with_side, IsReadSlice, IsTurned, IsEndRefusal, IsBeginRefusal, IsEndedTo, IsFurther, IsPlannedOf, IsSliceTo}
use Rattle.mvo_store.proofs.Neighbours.{are_two, still_now, left_files, right_files, left_now_live, seen_of, apart_two, may_rise, may_few, safe_merge, merge_read_to, job_as_seen}

-- ---- what is made of slices

in_front_ok : (live rest : List Numbered) (x : Result (List Numbered) Refusal) → in_front live x ≡ Ok rest → (more : List Numbered) × (x ≡ Ok more) × (rest ≡ live ++ more)
in_front_ok live rest (Ok more) e = let same : live ++ more ≡ rest = cc e in (more, refl, sym same)
in_front_ok live rest (Err why) e = absurd (cc e)

left_twice : (a b : List Numbered) (made : MergedData) → with_left b (with_left a made) ≡ with_left (a ++ b) made
left_twice a b made =
    ap (λ (es : List EntryData). merged_of es ((made.renumbering.left ++ live_numbers a) ++ live_numbers b) made.renumbering.right)
    (append_assoc made.records (entries_alone a) (entries_alone b) ∙ ap (λ (es : List EntryData). made.records ++ es) (sym (map-append (λ l. l.1) a b)))
    ∙ ap (λ (ns : List ℕ). merged_of (made.records ++ entries_alone (a ++ b)) ns made.renumbering.right)
    (append_assoc made.renumbering.left (live_numbers a) (live_numbers b) ∙ ap (λ (ns : List ℕ). made.renumbering.left ++ ns) (sym (map-append (λ l. l.0) a b)))

right_twice : (a b : List Numbered) (made : MergedData) → with_right b (with_right a made) ≡ with_right (a ++ b) made
right_twice a b made =
    ap (λ (es : List EntryData). merged_of es made.renumbering.left ((made.renumbering.right ++ live_numbers a) ++ live_numbers b))
    (append_assoc made.records (entries_alone a) (entries_alone b) ∙ ap (λ (es : List EntryData). made.records ++ es) (sym (map-append (λ l. l.1) a b)))
    ∙ ap (λ (ns : List ℕ). merged_of (made.records ++ entries_alone (a ++ b)) made.renumbering.left ns)
    (append_assoc made.renumbering.right (live_numbers a) (live_numbers b) ∙ ap (λ (ns : List ℕ). made.renumbering.right ++ ns) (sym (map-append (λ l. l.0) a b)))

none_left : (made : MergedData) → with_left [] made ≡ made
none_left made =
    ap (λ (es : List EntryData). merged_of es (made.renumbering.left ++ []) made.renumbering.right) (append-nil made.records)
    ∙ ap (λ (ns : List ℕ). merged_of made.records ns made.renumbering.right) (append-nil made.renumbering.left)

none_right : (made : MergedData) → with_right [] made ≡ made
none_right made =
    ap (λ (es : List EntryData). merged_of es made.renumbering.left (made.renumbering.right ++ [])) (append-nil made.records)
    ∙ ap (λ (ns : List ℕ). merged_of made.records made.renumbering.left ns) (append-nil made.renumbering.right)

-- a slice, and then the rest
rest_on : (b : Bool) (a rest right : List Numbered) (made : MergedData) → with_rest b rest right (with_side b a made) ≡ with_rest b (a ++ rest) right made
rest_on true a rest right made = ap (λ (k : MergedData). with_right right k) (left_twice a rest made)
rest_on false a rest right made = right_twice a rest made

-- ---- the whole of two

zip_same : (a c : List Numbered) → live_numbers a ≡ live_numbers c → entries_alone a ≡ entries_alone c → a ≡ c
zip_same [] [] ns es = refl
zip_same [] (y ∷ c) ns es = absurd (cc ns)
zip_same (x ∷ a) [] ns es = absurd (cc ns)
zip_same (x ∷ a) (y ∷ c) ns es =
    let number : x.0 ≡ y.0 = cc ns in
    let entry : x.1 ≡ y.1 = cc es in
    let numbers : live_numbers a ≡ live_numbers c = cc ns in
    let entries : entries_alone a ≡ entries_alone c = cc es in
    let head : ◌≡◌ {A = Numbered} x y = ap (λ (n : ℕ). (n, x.1)) number ∙ ap (λ (e : EntryData). (y.0, e)) entry in
    ap (λ (l : List Numbered). x ∷ l) (zip_same a c numbers entries) ∙ ap (λ (h : Numbered). h ∷ c) head

-- it tells which they are
whole_same : (a b c d : List Numbered) → merged_whole a b ≡ merged_whole c d → (a ≡ c) × (b ≡ d)
whole_same a b c d e =
    let left : live_numbers a ≡ live_numbers c = ap (λ (k : MergedData). k.renumbering.left) e in
    let right : live_numbers b ≡ live_numbers d = ap (λ (k : MergedData). k.renumbering.right) e in
    let records : entries_alone a ++ entries_alone b ≡ entries_alone c ++ entries_alone d = ap (λ (k : MergedData). k.records) e in
    let n = length (entries_alone a) in
    let many : length (entries_alone c) ≡ n = length-map c (λ (l : Numbered). l.1) ∙ sym (length-map c (λ (l : Numbered). l.0)) ∙ ap (λ (l : List ℕ). length l) (sym left) ∙ length-map a (λ (l : Numbered). l.0) ∙ sym (length-map a (λ (l : Numbered). l.1)) in
    let first : entries_alone a ≡ entries_alone c = sym (take_at (entries_alone a) (entries_alone b) n refl) ∙ ap (λ (es : List EntryData). take n es) records ∙ take_at (entries_alone c) (entries_alone d) n many in
    let second : entries_alone b ≡ entries_alone d = sym (drop_at (entries_alone a) (entries_alone b) n refl) ∙ ap (λ (es : List EntryData). drop n es) records ∙ drop_at (entries_alone c) (entries_alone d) n many in
    (zip_same a c left first, zip_same b d right second)

-- ---- the pair that is read now

side_is : (b : Bool) (g : MergeReading) → AreReadOn b g → g.reading.pair ≡ side_of b g.left g.right
side_is true g h = h.so_far.pair
side_is false g h = h.so_far.pair

pub side_file : (m : ManifestData) (g : MergeReading) → IsSafeRead m g → g.reading.pair.data_file < 1024
side_file m g safe = go g.is_left (side_is g.is_left g safe.read)
  where
    go : (b : Bool) → g.reading.pair ≡ side_of b g.left g.right → g.reading.pair.data_file < 1024
    go true e = subst (λ (p : Pair). p.data_file < 1024) (sym e) safe.left_files.data_file
    go false e = subst (λ (p : Pair). p.data_file < 1024) (sym e) safe.right_files.data_file

-- its end is refused for what breaks a rule alone
end_breaks : (b : Bool) (g : MergeReading) → AreReadOn b g → (e : Refusal) → still_found g.reading g.so_far [] ≡ Err e → IsMisread e
end_breaks true g h e is = ends_misread LAST_FORMAT.version g.left (λ n. []) ⊥ g.reading h.live g.so_far h.so_far e is
end_breaks false g h e is = ends_misread LAST_FORMAT.version g.right (λ n. []) ⊥ g.reading h.live g.so_far h.so_far e is

pub end_misread : (b : Bool) (g : MergeReading) → AreReadOn b g → (e : Refusal) → IsEndRefusal g e → IsMisread e
end_misread b g h e refused = end_breaks b g h e (refused [])

-- and never where what comes is known
pub end_never : (content : Image) (m : ManifestData) (g : MergeReading) (e : Refusal) → IsEndRefusal g e → IsReadFrom content m g → ⊥
end_never content m g e refused h = absurd (cc (sym (refused (drop g.so_far.place (content (side_of g.is_left g.left g.right).data_file))) ∙ h.comes.comes))

-- ---- a slice of records

read_on_so : (honest : Type 0) (bytes : List ℕ) (b : Bool) (g : MergeReading) (live : List Numbered) (to : ReadSoFar) → IsSliceOf honest bytes g.reading g.so_far live to → AreReadOn b g → AreReadOn b (record g { so_far = to; made = with_side b live g.made })
read_on_so honest bytes true g live to slice h = record {
  live = h.live ++ live;
  so_far = may_be_read_on honest bytes g.reading g.so_far LAST_FORMAT.version g.left h.live live to h.so_far slice;
  made = ap (λ (k : MergedData). with_left live k) h.made ∙ left_more h.live live;
}
read_on_so honest bytes false g live to slice h = record {
  first = h.first;
  may = h.may;
  live = h.live ++ live;
  so_far = may_be_read_on honest bytes g.reading g.so_far LAST_FORMAT.version g.right h.live live to h.so_far slice;
  made = ap (λ (k : MergedData). with_right live k) h.made ∙ right_more h.first h.live live;
}

module _ (honest : Type 0) (content : Image) (m : ManifestData) (old : MergeReading) (safe : IsSafeRead m old) where
  file_is : (side_of old.is_left old.left old.right).data_file ≡ old.reading.pair.data_file
  file_is = ap (λ (p : Pair). p.data_file) (sym (side_is old.is_left old safe.read))

  module _ (new : MergeReading) (slice : IsReadSlice honest content old new) (some : old.so_far.count < old.reading.pair.records) (more : old.so_far.count < new.so_far.count) where
    abbrev to : MergeReading
    to = record old { so_far = new.so_far; made = with_side old.is_left slice.live old.made }

    safe_to : IsSafeRead m to
    safe_to = record {
      generation = safe.generation;
      left_files = safe.left_files;
      right_files = safe.right_files;
      fits = safe.fits;
      still = safe.still;
      read = read_on_so honest (content old.reading.pair.data_file) old.is_left old slice.live new.so_far slice.slice safe.read;
    }

    stands_to : honest → IsReadFrom content m old → IsReadFrom content m to
    stands_to now h =
        let come : in_front slice.live (still_found old.reading new.so_far (drop new.so_far.place (content old.reading.pair.data_file))) ≡ Ok h.comes.rest
        = sym (slice_comes honest (content old.reading.pair.data_file) old.reading old.so_far now slice.live new.so_far slice.slice)
        ∙ sym (ap (λ (n : ℕ). still_found old.reading old.so_far (drop old.so_far.place (content n))) file_is) ∙ h.comes.comes in
        let rest = in_front_ok slice.live h.comes.rest _ come in
        record {
          left = h.left;
          right = h.right;
          seen = h.seen;
          comes = record {
            rest = rest.0;
            comes = ap (λ (n : ℕ). still_found old.reading new.so_far (drop new.so_far.place (content n))) file_is ∙ rest.1;
            whole = rest_on old.is_left slice.live rest.0 h.right old.made ∙ ap (λ (l : List Numbered). with_rest old.is_left l h.right old.made) (sym rest.2) ∙ h.comes.whole;
          };
        }

    less_to : left_to_read old.is_left to < left_to_read old.is_left old
    less_to = go old.is_left (side_is old.is_left old safe.read)
      where
        go : (b : Bool) → old.reading.pair ≡ side_of b old.left old.right → left_to_read b to < left_to_read b old
        go true e = let same : old.reading.pair.records ≡ old.left.records = ap (λ (p : Pair). p.records) e in omega (arith, same, some, more)
        go false e = let same : old.reading.pair.records ≡ old.right.records = ap (λ (p : Pair). p.records) e in omega (arith, same, some, more)

    -- IT IS READ FURTHER.
    pub slice_further : IsFurther honest content m old new
    slice_further = subst (λ (g : MergeReading). IsFurther honest content m old g) (sym slice.after) (record {
      further = record { place = refl; left = refl; right = refl; less = less_to };
      safe = safe_to;
      stands = stands_to;
    })

  -- it is refused for memory, a fault or what breaks a rule
  pub slice_why : (e : Refusal) → IsStop e ⊎ IsBrokenSlice honest (content old.reading.pair.data_file) old.reading old.so_far e → IsStop e ⊎ IsMisread e
  slice_why e (inl stop) = inl stop
  slice_why e (inr broken) = inr (go old.is_left safe.read)
    where
      go : (b : Bool) → AreReadOn b old → IsMisread e
      go true h = slice_misread honest (content old.reading.pair.data_file) old.reading old.so_far LAST_FORMAT.version old.left h.live e h.so_far broken
      go false h = slice_misread honest (content old.reading.pair.data_file) old.reading old.so_far LAST_FORMAT.version old.right h.live e h.so_far broken

  pub slice_stop : (e : Refusal) → IsStop e ⊎ IsBrokenSlice honest (content old.reading.pair.data_file) old.reading old.so_far e → honest → IsReadFrom content m old → IsStop e
  slice_stop e (inl stop) now h = stop
  slice_stop e (inr broken) now h =
      let is = broken_comes honest (content old.reading.pair.data_file) old.reading old.so_far now e broken in
      let ok = sym (ap (λ (n : ℕ). still_found old.reading old.so_far (drop old.so_far.place (content n))) file_is) ∙ h.comes.comes in
      absurd (cc (sym is ∙ ok))

  -- ---- between the two

  module _ (is : IsManifest m) (new : MergeReading) (turned : IsTurned honest content old new) (first : old.is_left ≡ true) where
    left_read : IsLeftRead old
    left_read = subst (λ (b : Bool). AreReadOn b old) first safe.read

    abbrev on_right : MergeReading
    on_right = record old { is_left = false; reading = new.reading; so_far = at_start }

    safe_right : IsSafeRead m on_right
    safe_right = record {
      generation = safe.generation;
      left_files = safe.left_files;
      right_files = safe.right_files;
      fits = safe.fits;
      still = safe.still;
      read = record {
        first = left_read.live;
        may = (left_read.so_far.front, left_read.so_far.delta, (ends_loaded LAST_FORMAT.version old.left (λ n. []) ⊥ old.reading left_read.live old.so_far left_read.so_far (turned.ended [])).0);
        live = [];
        so_far = may_be_read LAST_FORMAT.version old.right content honest new.reading [] at_start turned.begun;
        made = left_read.made;
      };
    }

    stands_right : honest → IsReadFrom content m old → IsReadFrom content m on_right
    stands_right now h =
        let left = go old.is_left first h.comes.comes h.comes.whole in
        let has : HasLive content old.right h.right = loads_later m.version LAST_FORMAT.version (up_to_last m is) content old.right h.right h.seen.right in
        let begun : still_found new.reading at_start (drop 8 (content old.right.data_file)) ≡ Ok h.right
        = sym (none_in_front (still_found new.reading at_start (drop 8 (content old.right.data_file)))) ∙ whole_comes LAST_FORMAT.version old.right content honest new.reading [] at_start turned.begun now h.right has in
        record {
          left = h.left;
          right = h.right;
          seen = h.seen;
          comes = record { rest = h.right; comes = begun; whole = left };
        }
      where
        go : (b : Bool) → b ≡ true → still_found old.reading old.so_far (drop old.so_far.place (content (side_of b old.left old.right).data_file)) ≡ Ok h.comes.rest → with_rest b h.comes.rest h.right old.made ≡ merged_whole h.left h.right → with_right h.right old.made ≡ merged_whole h.left h.right
        go true e come whole =
            let none : h.comes.rest ≡ [] = cc (sym (turned.ended (drop old.so_far.place (content old.left.data_file))) ∙ come) in
            ap (λ (k : MergedData). with_right h.right k) (sym (none_left old.made)) ∙ ap (λ (l : List Numbered). with_right h.right (with_left l old.made)) (sym none) ∙ whole
        go false e come whole = absurd (cc e)

    -- THE RIGHT ONE IS BEGUN.
    pub turned_further : IsFurther honest content m old new
    turned_further = subst (λ (g : MergeReading). IsFurther honest content m old g) (sym turned.after) (record {
      further = record { place = refl; left = refl; right = refl; less = subst (λ (b : Bool). left_to_read false on_right < left_to_read b old) (sym first) (omega arith) };
      safe = safe_right;
      stands = stands_right;
    })

  module _ (e : Refusal) (refused : IsEndRefusal old e ⊎ IsBeginRefusal honest content old.right e) where
    pub turn_why : IsStop e ⊎ IsMisread e
    turn_why = go refused
      where
        go : IsEndRefusal old e ⊎ IsBeginRefusal honest content old.right e → IsStop e ⊎ IsMisread e
        go (inl ended) = inr (end_misread old.is_left old safe.read e ended)
        go (inr begun) = begun.why

    pub turn_stop : IsManifest m → honest → IsReadFrom content m old → IsStop e
    turn_stop is now h = go refused
      where
        go : IsEndRefusal old e ⊎ IsBeginRefusal honest content old.right e → IsStop e
        go (inl ended) = absurd (end_never content m old e ended h)
        go (inr begun) = begun.stop now h.right (loads_later m.version LAST_FORMAT.version (up_to_last m is) content old.right h.right h.seen.right)

-- ---- behind both

module _ (m : ManifestData) (is : IsManifest m) (g : MergeReading) (safe : IsSafeRead m g) (read : IsRightRead g) (ended : (rest : List ℕ) → still_found g.reading g.so_far rest ≡ Ok []) where
  may_right : MayBeLive LAST_FORMAT.version g.right read.live
  may_right = (read.so_far.front, read.so_far.delta, (ends_loaded LAST_FORMAT.version g.right (λ n. []) ⊥ g.reading read.live g.so_far read.so_far (ended [])).0)

  rises : Rise read.first × Rise read.live
  rises = may_rise m is g.place g.left g.right safe.still read.first read.live read.may may_right

  few : length read.first + length read.live ≤ MAX_PAIR_RECORDS
  few = may_few m is g.place g.left g.right safe.still read.first read.live read.may may_right safe.fits

  pub rise_left : IsStrictlyIncreasing g.made.renumbering.left
  rise_left = subst (λ (ns : List ℕ). IsStrictlyIncreasing ns) (sym (ap (λ (k : MergedData). k.renumbering.left) read.made)) rises.0

  pub rise_right : IsStrictlyIncreasing g.made.renumbering.right
  rise_right = subst (λ (ns : List ℕ). IsStrictlyIncreasing ns) (sym (ap (λ (k : MergedData). k.renumbering.right) read.made)) rises.1

  pub few_numbers : length g.made.renumbering.left + length g.made.renumbering.right ≤ MAX_PAIR_RECORDS
  few_numbers =
      let left : length g.made.renumbering.left ≡ length read.first = ap (λ (k : MergedData). length k.renumbering.left) read.made ∙ length-map read.first (λ (l : Numbered). l.0) in
      let right : length g.made.renumbering.right ≡ length read.live = ap (λ (k : MergedData). length k.renumbering.right) read.made ∙ length-map read.live (λ (l : Numbered). l.0) in
      omega (arith, left, right, few)

  pub few_records : length g.made.records ≤ MAX_PAIR_RECORDS
  few_records =
      let all : length g.made.records ≡ length (merged read.first read.live) = ap (λ (k : MergedData). length k.records) read.made in
      omega (arith, all, has_both read.first read.live, few)

  module _ (second : g.is_left ≡ false) (content : Image) (h : IsReadFrom content m g) where
    whole_now : g.made ≡ merged_whole h.left h.right
    whole_now = go g.is_left second h.comes.comes h.comes.whole
      where
        go : (b : Bool) → b ≡ false → still_found g.reading g.so_far (drop g.so_far.place (content (side_of b g.left g.right).data_file)) ≡ Ok h.comes.rest → with_rest b h.comes.rest h.right g.made ≡ merged_whole h.left h.right → g.made ≡ merged_whole h.left h.right
        go true e come whole = absurd (cc e)
        go false e come whole =
            let none : h.comes.rest ≡ [] = cc (sym (ended (drop g.so_far.place (content g.right.data_file))) ∙ come) in
            sym (none_right g.made) ∙ ap (λ (l : List Numbered). with_right l g.made) (sym none) ∙ whole

    they_are : (h.left ≡ read.first) × (h.right ≡ read.live)
    they_are = whole_same h.left h.right read.first read.live (sym whole_now ∙ read.made)

    saw_them : WasSeen content m (read_with g read.first read.live)
    saw_them = subst (λ (l : List Numbered). WasSeen content m (read_with g read.first l)) they_are.1 (subst (λ (l : List Numbered). WasSeen content m (read_with g l h.right)) they_are.0 h.seen)

    have_them : HasLive content g.left read.first × HasLive content g.right read.live
    have_them = (
      loads_later m.version LAST_FORMAT.version (up_to_last m is) content g.left read.first saw_them.left,
      loads_later m.version LAST_FORMAT.version (up_to_last m is) content g.right read.live saw_them.right,
    )

  -- THE MERGE IS PLANNED OF IT.
  pub planned_of : g.is_left ≡ false → (made : MergedData) → made ≡ g.made → (taken : List ℕ) (merge : Merging) → IsPlannedMerge m taken g.place g.left g.right made merge → (honest : Type 0) (content : Image) (may : ℕ → List ℕ → Type 0) → IsPlannedOf honest content may m taken g merge
  planned_of second made same taken merge planned honest content may =
      let records : made.records ≡ merged read.first read.live = ap (λ (k : MergedData). k.records) (same ∙ read.made) in
      let renumbering = ap (λ (k : MergedData). k.renumbering) (same ∙ read.made) in
      record {
        read = merge_read_to m is g.place g.left g.right safe.still read.first read.live read.may may_right safe.fits safe.generation made records renumbering taken merge planned (honest × IsReadFrom content m g) content g refl refl refl (λ h. have_them second content h.1);
        safe = safe_merge m is g.place g.left g.right safe.still read.first read.live read.may may_right safe.fits safe.generation made records renumbering taken merge planned;
        stands = λ now h x. job_as_seen m is g.place g.left g.right safe.still read.first read.live read.may may_right safe.fits safe.generation made records renumbering taken merge planned content may x (saw_them second content h);
      }

-- so it is of whichever comes
pub ended_slice : (m : ManifestData) (g : MergeReading) → IsSafeRead m g → IsRightRead g → g.is_left ≡ false → (taken : List ℕ) (honest : Type 0) (content : Image) (may : ℕ → List ℕ → Type 0) (j : MergeJob) → IsEndedTo m taken g j → IsSliceTo honest content may m taken g j
ended_slice m g safe read second taken honest content may (Reading n) h = absurd h
ended_slice m g safe read second taken honest content may (Running merge) h = planned_of m h.is g safe read h.ended second g.made refl taken merge h.planned honest content may

-- ---- the beginning

module _ (m : ManifestData) (is : IsManifest m) (place : ℕ) (p q : Pair) (two : neighbours_at place m.pairs ≡ Some (p, q)) (honest : Type 0) (content : Image) (reading : PairReadingData) (begun : IsReadUpTo LAST_FORMAT.version p honest content reading [] at_start) (made : MergedData) (nothing : made ≡ nothing_merged) where
  abbrev first_reading : MergeReading
  first_reading = record { place = place; left = p; right = q; is_left = true; reading = reading; so_far = at_start; made = made }

  pub begun_safe : are_too_many (Some (p, q)) ≡ false → m.generation ≤ MAX_GENERATION → IsSafeRead m first_reading
  begun_safe fits generation = record {
    generation = generation;
    left_files = left_files m is place p q (still_now m place p q two);
    right_files = right_files m is place p q (still_now m place p q two);
    fits = fits;
    still = still_now m place p q two;
    read = record { live = []; so_far = may_be_read LAST_FORMAT.version p content honest reading [] at_start begun; made = nothing };
  }

  pub begun_from : honest → (may : ℕ → List ℕ → Type 0) (x : Parts) (at : PlaceMap) → IsSettled content may m x → ArePlaces m.pairs x.lives at → IsReadFrom content m first_reading
  begun_from now may x at settled are =
      let t = are_two content may m x settled at are place p q two in
      let l = t.live.lives.left in
      let r = t.live.lives.right in
      let apart = apart_two t.live.lives.before l r t.live.lives.behind (subst (λ (ls : List (List Numbered)). Rattle.mvo_pair.specs.Data.AreApart ls) t.live.are are.apart) in
      let come : still_found reading at_start (drop 8 (content p.data_file)) ≡ Ok l
      = sym (none_in_front (still_found reading at_start (drop 8 (content p.data_file)))) ∙ whole_comes LAST_FORMAT.version p content honest reading [] at_start begun now l (left_now_live t) in
      record {
        left = l;
        right = r;
        seen = seen_of t l r t.live.left t.live.right apart;
        comes = record {
          rest = l;
          comes = come;
          whole = ap (λ (k : MergedData). with_right r (with_left l k)) nothing ∙ ap (λ (k : MergedData). with_right r k) (left_more [] l) ∙ right_more l [] r;
        };
      }
