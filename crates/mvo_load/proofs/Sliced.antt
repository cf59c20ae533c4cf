-- A pair that is read in slices: what one more slice makes of it, and how it ends.
use Rattle.std.proofs.Common.{◌≡◌, ℕ, zero, suc, ◌+◌, ◌≤◌, List, [], ◌∷◌, ◌++◌, length, take, drop, Result, Ok, Err, refl, sym, ap, subst, ◌∙◌, append_assoc, length-append, arith, lit≤}
use Rattle.std.proofs.Math.Seq.{take-add}
use Rattle.std.proofs.lemmas.List.{append-nil, take_all, take_at, drop_at, drop-drop, take-take, length-take, take-append-drop}
use Rattle.mvo_types.specs.declared.refusal.Refusal.{Refusal}
use Rattle.mvo_pair.specs.declared.pair.Pair.{Pair}
use Rattle.mvo_pair.specs.declared.reading.ReadSoFar.{ReadSoFar}
use Rattle.mvo_pair.specs.declared.reading.TheConstants.{MOST_RECORD}
use Rattle.mvo_pair.specs.Answers.{IsOnly}
use Rattle.mvo_pair.specs.Coming.{PairReadingData, FoundIsLoaded, IsReadingBegun, IsNoReading, IsReadOn, IsBroken, at_start, still_found, in_front}
use Rattle.mvo_pair.specs.Data.{Numbered}
use Rattle.mvo_pair.specs.Loading.{LoadsAs, delta_reach}
use Rattle.mvo_pair.specs.Reading.{IsBytes, pair_found}
use Rattle.mvo_pair.proofs.Comes.{none_in_front, front_of_front}
use Rattle.mvo_pair.proofs.Fronts.{loads_delta_front, loads_of_delta_front, loads_longer}
use Rattle.mvo_load.specs.Read.{IsMisread}
use Rattle.mvo_load.specs.declared.pair_slices.TheConstants.{READ_LEN}
use Rattle.mvo_load.specs.Sliced.{IsReadUpTo, MayBeReadUpTo, IsSliceOf, IsBrokenSlice}
use Rattle.mvo_load.proofs.Misread.{pair_misread}

both_bytes : (a b : List ℕ) → IsBytes a → IsBytes b → IsBytes (a ++ b)
both_bytes [] b fits more i = more i
both_bytes (x ∷ a) b fits more zero = fits zero
both_bytes (x ∷ a) b fits more (suc i) = both_bytes a b (λ j. fits (suc j)) more i

first_bytes : (k : ℕ) (a : List ℕ) → IsBytes a → IsBytes (take k a)
first_bytes zero a fits i = omega arith
first_bytes (suc k) [] fits i = fits i
first_bytes (suc k) (x ∷ a) fits zero = fits zero
first_bytes (suc k) (x ∷ a) fits (suc i) = first_bytes k a (λ j. fits (suc j)) i

module _ (upto : ℕ) (p : Pair) (content : ℕ → List ℕ) where
  abbrev Gives : Result (List Numbered) Refusal → Type 0
  Gives out = LoadsAs upto p (content p.data_file) (content p.delta_file) out

  module _ (front delta : List ℕ) (loaded : FoundIsLoaded upto p) (bytes : IsBytes front) (numbers : IsBytes delta) where
    -- it isn't found as anything but what the files give
    found_misread : (e : Refusal) → pair_found upto p front delta ≡ Err e → IsMisread e
    found_misread e is = pair_misread upto p front delta e (subst (λ x. LoadsAs upto p front delta x) is (loaded.only front delta bytes numbers).0)

  found_given : FoundIsLoaded upto p → (delta : List ℕ) → delta ≡ take (delta_reach p) (content p.delta_file) → (whole : List Numbered) → Gives (Ok whole) → pair_found upto p (content p.data_file) delta ≡ Ok whole
  found_given loaded delta is whole gives = loaded.live (content p.data_file) delta whole (subst (λ (l : List ℕ). LoadsAs upto p (content p.data_file) l (Ok whole)) (sym is) (loads_delta_front upto p (content p.data_file) (content p.delta_file) (Ok whole) gives))

  -- ---- the beginning

  module _ (front delta : List ℕ) (loaded : FoundIsLoaded upto p) (bytes : IsBytes front) (numbers : IsBytes delta) where
    pub begins : (honest : Type 0) (r : PairReadingData) → r.pair ≡ p → length front ≡ 8 → IsReadingBegun upto p front delta r
        → (honest → front ≡ take 8 (content p.data_file)) → (honest → delta ≡ take (delta_reach p) (content p.delta_file)) → IsReadUpTo upto p honest content r [] at_start
    begins honest r of eight begun of_data of_delta = record {
      front = front;
      delta = delta;
      pair = of;
      place = sym eight;
      bytes = bytes;
      numbers = numbers;
      loaded = loaded;
      gives = λ rest.
          let same : take 8 (front ++ rest) ≡ take 8 front = take_at front rest 8 eight ∙ sym (take_all 8 front (omega (arith, eight))) in
          begun (front ++ rest) same ∙ ap (λ (l : List ℕ). still_found r at_start l) (drop_at front rest 8 eight) ∙ sym (none_in_front (still_found r at_start rest));
      of_data = λ h. of_data h ∙ ap (λ n. take n (content p.data_file)) (sym eight);
      of_delta = of_delta;
    }

    pub begins_misread : (len : ℕ) (e : Refusal) → length front ≤ len → IsNoReading upto p len front delta e → IsMisread e
    begins_misread len e short not_begun = found_misread front delta loaded bytes numbers e (not_begun front refl short)

    pub begins_broken : (len : ℕ) (e : Refusal) → IsNoReading upto p len front delta e → length (content p.data_file) ≤ len → front ≡ take 8 (content p.data_file) → delta ≡ take (delta_reach p) (content p.delta_file)
        → (whole : List Numbered) → Gives (Ok whole) → ⊥
    begins_broken len e not_begun short of_data of_delta whole gives =
        let found = found_given loaded delta of_delta whole gives in
        let same : take 8 (content p.data_file) ≡ take 8 front = sym (ap (λ (l : List ℕ). take 8 l) of_data ∙ take-take 8 8 (content p.data_file) (omega arith)) in
        let broken = not_begun (content p.data_file) same short in
        cc

  -- ---- one more slice

  module _ (honest : Type 0) (r : PairReadingData) (live : List Numbered) (s : ReadSoFar) (h : IsReadUpTo upto p honest content r live s) (bytes : List ℕ) (fits : IsBytes bytes) where
    pub reads_on : (later : Type 0) (some : List Numbered) (to : ReadSoFar) (n : ℕ) → IsReadOn r s bytes some to → (later → honest) → (later → bytes ≡ take n (drop s.place (content p.data_file))) → IsReadUpTo upto p later content r (live ++ some) to
    reads_on later some to n on before of =
        let k = on.place in
        let part = take k bytes in
        let many : length part ≡ k = omega (arith, on.within, length-take k bytes) in
        record {
          front = h.front ++ part;
          delta = h.delta;
          pair = h.pair;
          place = omega (arith, on.place_is, h.place, many, length-append h.front part);
          bytes = both_bytes h.front part h.bytes (first_bytes k bytes fits);
          numbers = h.numbers;
          loaded = h.loaded;
          gives = λ rest.
              ap (λ (l : List ℕ). pair_found upto p l h.delta) (append_assoc h.front part rest)
              ∙ h.gives (part ++ rest) ∙ ap (in_front live) (on.comes rest) ∙ front_of_front live some (still_found r to rest);
          of_data = λ now.
              let c = content p.data_file in
              let a = length h.front in
              let back : bytes ≡ take n (drop a c) = of now ∙ ap (λ i. take n (drop i c)) h.place in
              let few : k ≤ n = omega (arith, on.within, ap (λ (l : List ℕ). length l) back, length-take n (drop a c)) in
              let piece : part ≡ take k (drop a c) = ap (λ (l : List ℕ). take k l) back ∙ take-take k n (drop a c) few in
              ap (λ (l : List ℕ). l ++ part) (h.of_data (before now)) ∙ ap (λ (l : List ℕ). take a c ++ l) piece ∙ sym (take-add a k c)
              ∙ ap (λ i. take i c) (let long : a + k ≡ length (h.front ++ part) = omega (arith, many, length-append h.front part) in long);
          of_delta = λ now. h.of_delta (before now);
        }

    module _ (e : Refusal) (broken : IsBroken r s bytes e) where
      pub on_misread : IsMisread e
      on_misread =
          let n = MOST_RECORD + length bytes in
          found_misread (h.front ++ bytes) h.delta h.loaded (both_bytes h.front bytes h.bytes fits) h.numbers e (h.gives bytes ∙ ap (in_front live) (broken n bytes (omega arith) (sym (take_all n bytes (omega arith)))))

      pub on_broken : (n : ℕ) → MOST_RECORD ≤ n → honest → bytes ≡ take n (drop s.place (content p.data_file)) → (whole : List Numbered) → Gives (Ok whole) → ⊥
      on_broken n le now of whole gives =
          let found = found_given h.loaded h.delta (h.of_delta now) whole gives in
          let rest = drop (length h.front) (content p.data_file) in
          let parts : content p.data_file ≡ h.front ++ rest = sym (take-append-drop (length h.front) (content p.data_file)) ∙ ap (λ (l : List ℕ). l ++ rest) (sym (h.of_data now)) in
          let err : pair_found upto p (content p.data_file) h.delta ≡ Err e = ap (λ (l : List ℕ). pair_found upto p l h.delta) parts ∙ h.gives rest ∙ ap (in_front live) (broken n rest le (of ∙ ap (λ i. take n (drop i (content p.data_file))) h.place)) in
          cc

  -- ---- the end

  module _ (honest : Type 0) (r : PairReadingData) (live : List Numbered) (s : ReadSoFar) (h : IsReadUpTo upto p honest content r live s) where
    found_so : (x : Result (List Numbered) Refusal) → still_found r s [] ≡ x → pair_found upto p h.front h.delta ≡ in_front live x
    found_so x is = ap (λ (l : List ℕ). pair_found upto p l h.delta) (sym (append-nil h.front)) ∙ h.gives [] ∙ ap (in_front live) is

    -- what was read of its files says so
    pub ends_loaded : still_found r s [] ≡ Ok [] → IsOnly (LoadsAs upto p h.front h.delta) (Ok live)
    ends_loaded is = subst (λ x. IsOnly (LoadsAs upto p h.front h.delta) x) (found_so (Ok []) is ∙ ap Ok (append-nil live)) (h.loaded.only h.front h.delta h.bytes h.numbers)

    pub ends_misread : (e : Refusal) → still_found r s [] ≡ Err e → IsMisread e
    ends_misread e is = found_misread h.front h.delta h.loaded h.bytes h.numbers e (found_so (Err e) is)

    module _ (now : honest) where
      parted : content p.data_file ≡ h.front ++ drop (length h.front) (content p.data_file)
      parted = sym (take-append-drop (length h.front) (content p.data_file)) ∙ ap (λ (l : List ℕ). l ++ drop (length h.front) (content p.data_file)) (sym (h.of_data now))

      -- and so do the files
      pub ends_given : still_found r s [] ≡ Ok [] → Gives (Ok live)
      ends_given is =
          let a = content p.data_file in
          let b = content p.delta_file in
          let longer = loads_longer upto p h.front h.delta (drop (length h.front) a) live (ends_loaded is).0 in
          loads_of_delta_front upto p a b (Ok live) (subst (λ (l : List ℕ). LoadsAs upto p a l (Ok live)) (h.of_delta now) (subst (λ (l : List ℕ). LoadsAs upto p l h.delta (Ok live)) (sym parted) longer))

      -- and nothing else
      pub ends_alone : ((rest : List ℕ) → still_found r s rest ≡ Ok []) → (whole : List Numbered) → Gives (Ok whole) → live ≡ whole
      ends_alone is whole gives =
          let rest = drop (length h.front) (content p.data_file) in
          let found = found_given h.loaded h.delta (h.of_delta now) whole gives in
          let so : pair_found upto p (content p.data_file) h.delta ≡ Ok live = ap (λ (l : List ℕ). pair_found upto p l h.delta) parted ∙ h.gives rest ∙ ap (in_front live) (is rest) ∙ ap Ok (append-nil live) in
          cc

      pub ends_broken : (e : Refusal) → ((rest : List ℕ) → still_found r s rest ≡ Err e) → (whole : List Numbered) → Gives (Ok whole) → ⊥
      ends_broken e is whole gives =
          let rest = drop (length h.front) (content p.data_file) in
          let found = found_given h.loaded h.delta (h.of_delta now) whole gives in
          let so : pair_found upto p (content p.data_file) h.delta ≡ Err e = ap (λ (l : List ℕ). pair_found upto p l h.delta) parted ∙ h.gives rest ∙ ap (in_front live) (is rest) in
          cc

      -- of live records that the files give, those that are read come first
      pub whole_comes : (whole : List Numbered) → Gives (Ok whole) → in_front live (still_found r s (drop s.place (content p.data_file))) ≡ Ok whole
      whole_comes whole gives =
          let found = found_given h.loaded h.delta (h.of_delta now) whole gives in
          let so : pair_found upto p (content p.data_file) h.delta ≡ in_front live (still_found r s (drop s.place (content p.data_file))) = ap (λ (l : List ℕ). pair_found upto p l h.delta) parted ∙ h.gives (drop (length h.front) (content p.data_file)) ∙ ap (λ n. in_front live (still_found r s (drop n (content p.data_file)))) (sym h.place) in
          sym so ∙ found

    -- whatever the disk has answered, some bytes may have been read
    pub may_be_read : MayBeReadUpTo upto p r live s
    may_be_read = record {
      front = h.front;
      delta = h.delta;
      pair = h.pair;
      place = h.place;
      bytes = h.bytes;
      numbers = h.numbers;
      loaded = h.loaded;
      gives = h.gives;
      of_data = λ never. absurd never;
      of_delta = λ never. absurd never;
    }

-- ---- a slice, whatever was read before it

module _ (honest : Type 0) (file_bytes : List ℕ) (r : PairReadingData) (from : ReadSoFar) where
  -- some bytes may have been read so far, with its live records
  pub may_be_read_on : (upto : ℕ) (p : Pair) (live some : List Numbered) (to : ReadSoFar) → MayBeReadUpTo upto p r live from → IsSliceOf honest file_bytes r from some to → MayBeReadUpTo upto p r (live ++ some) to
  may_be_read_on upto p live some to h slice = reads_on upto p (λ n. []) ⊥ r live from h slice.bytes slice.fits ⊥ some to 0 slice.on (λ never. never) (λ never. absurd never)

  pub slice_misread : (upto : ℕ) (p : Pair) (live : List Numbered) (e : Refusal) → MayBeReadUpTo upto p r live from → IsBrokenSlice honest file_bytes r from e → IsMisread e
  slice_misread upto p live e h slice = on_misread upto p (λ n. []) ⊥ r live from h slice.bytes slice.fits e slice.broken

  module _ (now : honest) where
    comes_at : (n : ℕ) (bytes : List ℕ) (live : List Numbered) (to : ReadSoFar) → bytes ≡ take n (drop from.place file_bytes) → IsReadOn r from bytes live to → still_found r from (drop from.place file_bytes) ≡ in_front live (still_found r to (drop to.place file_bytes))
    comes_at n bytes live to back on =
        let k = on.place in
        let after = drop from.place file_bytes in
        let few : k ≤ n = omega (arith, on.within, ap (λ (l : List ℕ). length l) back, length-take n after) in
        let piece : take k bytes ≡ take k after = ap (λ (l : List ℕ). take k l) back ∙ take-take k n after few in
        let parts : after ≡ take k bytes ++ drop k after = sym (take-append-drop k after) ∙ ap (λ (l : List ℕ). l ++ drop k after) (sym piece) in
        let later : drop k after ≡ drop to.place file_bytes = drop-drop k from.place file_bytes ∙ ap (λ i. drop i file_bytes) (sym on.place_is) in
        ap (still_found r from) parts ∙ on.comes (drop k after) ∙ ap (λ (l : List ℕ). in_front live (still_found r to l)) later

    -- it is what comes of the file
    pub slice_comes : (live : List Numbered) (to : ReadSoFar) → IsSliceOf honest file_bytes r from live to → still_found r from (drop from.place file_bytes) ≡ in_front live (still_found r to (drop to.place file_bytes))
    slice_comes live to slice = comes_at READ_LEN slice.bytes live to (slice.are now) slice.on

    -- and so it is refused
    pub broken_comes : (e : Refusal) → IsBrokenSlice honest file_bytes r from e → still_found r from (drop from.place file_bytes) ≡ Err e
    broken_comes e slice =
        let long : MOST_RECORD ≤ READ_LEN = lit≤ tt in
        slice.broken READ_LEN (drop from.place file_bytes) long (slice.are now)
