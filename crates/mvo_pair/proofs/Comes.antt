-- Records that are read one after another, and what comes behind them.
use Rattle.std.proofs.Common.{◌≡◌, ◌⊎◌, inl, inr, ℕ, suc, ◌+◌, ◌-◌, ◌≤◌, ◌<◌, Bool, true, false, cond, List, [], ◌∷◌, ◌++◌, length, take, drop, Option, Some, None, Result, Ok, Err, refl, sym, ap, subst, ◌∙◌, append_assoc, arith}
use Rattle.std.specs.Prelude.{slice_index_or, ◌&&◌}
use Rattle.std.proofs.Math.Seq.{take-add}
use Rattle.std.proofs.lemmas.List.{append-nil, take_all, take-take, drop-take, drop-drop, length-take, length-drop, take-append-drop}
use Rattle.mvo_types.specs.declared.refusal.Refusal.{Refusal}
use Rattle.mvo_types.specs.declared.refusal.Refusal.TheVariants.{OutOfMemory, Corrupt}
use Rattle.mvo_format.specs.declared.format.Format.{Format}
use Rattle.mvo_pair.specs.declared.reading.ReadSoFar.{ReadSoFar}
use Rattle.mvo_pair.specs.declared.reading.TheConstants.{MOST_RECORD}
use Rattle.mvo_pair.specs.declared.unread.Unread.{Unread}
use Rattle.mvo_pair.specs.declared.unread.Unread.TheVariants.{Broken}
use Rattle.mvo_pair.specs.Answers.{FoundOrUnread, file_refusal}
use Rattle.mvo_pair.specs.Data.{EntryData, Numbered}
use Rattle.mvo_pair.specs.Flags.{live_one}
use Rattle.mvo_pair.specs.Reading.{read_then, of_file, entry_at, keeps}
use Rattle.mvo_pair.specs.Coming.{LastRead, read_last, is_behind, record_kept, record_found, entries_behind, IsNextRecord, unflagged, PairReadingData, unless_refused, still_found, in_front, behind_record, IsReadOn, IsBroken}

-- ---- in front

pub none_in_front : (x : Result (List Numbered) Refusal) → in_front [] x ≡ x
none_in_front (Ok live) = refl
none_in_front (Err e) = refl

pub front_of_front : (a b : List Numbered) (x : Result (List Numbered) Refusal) → in_front a (in_front b x) ≡ in_front (a ++ b) x
front_of_front a b (Ok live) = ap Ok (sym (append_assoc a b live))
front_of_front a b (Err e) = refl

-- ---- one more record

module _ (r : PairReadingData) (s : ReadSoFar) where
  abbrev ends_so : List EntryData → Result (List Numbered) Refusal
  ends_so es = unless_refused r.refused (unflagged r.named s.count es)

  abbrev one : EntryData → List Numbered
  one e = live_one (slice_index_or r.named s.count false) s.count e

  pub comes_none : (body : List ℕ) → r.pair.records ≤ s.count → still_found r s body ≡ unless_refused r.refused []
  unfolding still_found
  comes_none body le = let none : r.pair.records - s.count ≡ 0 = omega arith in rw none refl

  module _ (body : List ℕ) (lt : s.count < r.pair.records) where
    one_left : r.pair.records - s.count ≡ suc (r.pair.records - (s.count + 1))
    one_left = omega arith

    abbrev first_then : FoundOrUnread (EntryData × List ℕ) → Result (List Numbered) Refusal
    first_then found =
        read_then (of_file r.pair.data_file (read_then found (λ x. read_then (entries_behind r.format r.pair.lo.0 r.pair.hi.0 (read_last x.0) (r.pair.records - (s.count + 1)) x.1) (λ es. Ok (x.0 ∷ es))))) ends_so

    by_first : still_found r s body ≡ first_then (record_found r.format r.pair.lo.0 r.pair.hi.0 s.last body)
    unfolding still_found
    by_first = ap (λ n. read_then (of_file r.pair.data_file (entries_behind r.format r.pair.lo.0 r.pair.hi.0 s.last n body)) ends_so) one_left

    pub comes_broken : (u : Unread) → record_found r.format r.pair.lo.0 r.pair.hi.0 s.last body ≡ Err u → still_found r s body ≡ Err (file_refusal r.pair.data_file u)
    comes_broken u is = by_first ∙ ap first_then is

    behind : (e : EntryData) (refused : Option Refusal) (found : FoundOrUnread (List EntryData)) →
        read_then (of_file r.pair.data_file (read_then found (λ es. Ok (e ∷ es)))) (λ es. unless_refused refused (unflagged r.named s.count es))
        ≡ in_front (one e) (read_then (of_file r.pair.data_file found) (λ es. unless_refused refused (unflagged r.named (s.count + 1) es)))
    behind e None (Ok es) = refl
    behind e (Some why) (Ok es) = refl
    behind e refused (Err u) = refl

    pub comes_more : (e : EntryData) (after : List ℕ) (len : ℕ) → record_found r.format r.pair.lo.0 r.pair.hi.0 s.last body ≡ Ok (e, after) → still_found r s body ≡ in_front (one e) (still_found r (behind_record s e len) after)
    unfolding still_found
    comes_more e after len is = by_first ∙ ap first_then is ∙ behind e r.refused (entries_behind r.format r.pair.lo.0 r.pair.hi.0 (read_last e) (r.pair.records - (s.count + 1)) after)

-- only a broken rule refuses a record
record_breaks : (f : Format) (lo hi : ℕ) (last : LastRead) (body : List ℕ) (u : Unread) → record_found f lo hi last body ≡ Err u → u ≡ Broken
unfolding record_found
record_breaks f lo hi last body u is = go (entry_at body) is
  where
    by_test : (t : Bool) (x : EntryData × List ℕ) → cond t (Ok x) (Err Broken) ≡ Err u → u ≡ Broken
    by_test true x h = absurd cc
    by_test false x h = cc

    go : (o : Option (EntryData × List ℕ)) → record_kept f lo hi last o ≡ Err u → u ≡ Broken
    go None h = cc
    go (Some x) h = by_test (keeps f lo hi x.0 && is_behind last x.0) x h

pub refused_why : (f : Format) (lo hi : ℕ) (last : LastRead) (bytes : List ℕ) (file : ℕ) (u : Unread) (e : Refusal) → e ≡ file_refusal file u → IsNextRecord f lo hi last bytes (Err u) → (e ≡ OutOfMemory) ⊎ (e ≡ Corrupt file)
refused_why f lo hi last bytes file u e is (inl memory) = inl (is ∙ ap (file_refusal file) memory)
refused_why f lo hi last bytes file u e is (inr found) = inr (is ∙ ap (file_refusal file) (record_breaks f lo hi last bytes u (found (length bytes) bytes (sym (take_all (length bytes) bytes (omega arith))))))

-- what is next by the parts of a reading
pub next_of : (q r : PairReadingData) → q ≡ r → (last : LastRead) (bytes : List ℕ) (x : Result (Option (EntryData × ℕ)) Unread) → IsNextRecord q.format q.pair.lo.0 q.pair.hi.0 last bytes x → IsNextRecord r.format r.pair.lo.0 r.pair.hi.0 last bytes x
next_of q r same last bytes x = subst (λ (s : PairReadingData). IsNextRecord s.format s.pair.lo.0 s.pair.hi.0 last bytes x → IsNextRecord r.format r.pair.lo.0 r.pair.hi.0 last bytes x) (sym same) (λ h. h)

-- ---- some records, one after another

module _ (r : PairReadingData) (from : ReadSoFar) (bytes : List ℕ) where
  -- so many are read, and these are the bytes behind them
  pub record AreRead (rest : List ℕ) (live : List Numbered) (i : ℕ) (to : ReadSoFar) : Type 0 where
    pub on : IsReadOn r from bytes live to
    pub rest_is : rest ≡ drop on.place bytes
    pub count : to.count ≡ from.count + i
    pub started : i ≡ 0 → on.place ≡ 0

  pub none_read : (live : List Numbered) → live ≡ [] → AreRead bytes live 0 from
  none_read live none = record {
    on = record { place = 0; place_is = omega arith; within = omega arith; comes = λ rest. sym (none_in_front (still_found r from rest)) ∙ ap (λ l. in_front l (still_found r from rest)) (sym none) };
    rest_is = refl;
    count = omega arith;
    started = λ _. refl;
  }

  module _ (rest : List ℕ) (live : List Numbered) (i : ℕ) (to : ReadSoFar) (s : AreRead rest live i to) where
    abbrev k : ℕ
    k = s.on.place

    -- the rest of a file of which these are the next bytes
    parted : (n : ℕ) (body : List ℕ) → bytes ≡ take n body → still_found r from body ≡ in_front live (still_found r to (drop k body))
    parted n body front =
        let few : k ≤ n = omega (arith, s.on.within, ap (λ (l : List ℕ). length l) front, length-take n body) in
        let same : take k bytes ≡ take k body = ap (λ (l : List ℕ). take k l) front ∙ take-take k n body few in
        ap (still_found r from) (sym (take-append-drop k body) ∙ ap (λ (l : List ℕ). l ++ drop k body) (sym same)) ∙ s.on.comes (drop k body)

    rest_front : (n : ℕ) (body : List ℕ) → bytes ≡ take n body → rest ≡ take (n - k) (drop k body)
    rest_front n body front =
        let few : k + (n - k) ≡ n = omega (arith, s.on.within, ap (λ (l : List ℕ). length l) front, length-take n body) in
        s.rest_is ∙ ap (λ (l : List ℕ). drop k l) (front ∙ ap (λ j. take j body) (sym few)) ∙ drop-take k (n - k) body

    breaks : (n : ℕ) (body : List ℕ) (u : Unread) → bytes ≡ take n body → to.count < r.pair.records → record_found r.format r.pair.lo.0 r.pair.hi.0 to.last (drop k body) ≡ Err u → still_found r from body ≡ Err (file_refusal r.pair.data_file u)
    breaks n body u front lt is = parted n body front ∙ ap (in_front live) (comes_broken r to (drop k body) lt u is)

    -- a record breaks a rule
    pub one_breaks : (u : Unread) (e : Refusal) → e ≡ file_refusal r.pair.data_file u → to.count < r.pair.records → IsNextRecord r.format r.pair.lo.0 r.pair.hi.0 to.last rest (Err u) → (e ≡ OutOfMemory) ⊎ IsBroken r from bytes e
    one_breaks u e is lt (inl memory) = inl (is ∙ ap (file_refusal r.pair.data_file) memory)
    one_breaks u e is lt (inr found) = inr (λ n body le front. breaks n body u front lt (found (n - k) (drop k body) (rest_front n body front)) ∙ ap Err (sym is))

    -- not one is whole
    pub none_whole : (e : Refusal) → e ≡ file_refusal r.pair.data_file Broken → to.count < r.pair.records → to.count ≡ from.count → IsNextRecord r.format r.pair.lo.0 r.pair.hi.0 to.last rest (Ok None) → IsBroken r from bytes e
    none_whole e is lt none found n body le front =
        let still : k ≡ 0 = s.started (omega (arith, s.count, none)) in
        breaks n body Broken front lt (found (n - k) (drop k body) (omega (arith, still, le)) (rest_front n body front)) ∙ ap Err (sym is)

    -- one more is read
    pub one_read : (e : EntryData) (len : ℕ) (flag : Bool) (after : List Numbered) (to_then : ReadSoFar) → to.count < r.pair.records → IsNextRecord r.format r.pair.lo.0 r.pair.hi.0 to.last rest (Ok (Some (e, len)))
        → flag ≡ slice_index_or r.named to.count false → after ≡ live ++ live_one flag to.count e → to_then ≡ behind_record to e len → AreRead (drop len rest) after (i + 1) to_then
    one_read e len flag after to_then lt next flag_is after_is then_is = record {
      on = record {
        place = k + len;
        place_is = omega (arith, s.on.place_is, ap (λ (t : ReadSoFar). t.place) then_is);
        within = omega (arith, s.on.within, next.0, ap (λ (l : List ℕ). length l) s.rest_is, length-drop k bytes);
        comes = λ more.
            ap (λ (l : List ℕ). still_found r from (l ++ more)) (take-add k len bytes ∙ ap (λ (l : List ℕ). take k bytes ++ take len l) (sym s.rest_is))
            ∙ ap (still_found r from) (append_assoc (take k bytes) (take len rest) more)
            ∙ s.on.comes (take len rest ++ more)
            ∙ ap (in_front live) (comes_more r to (take len rest ++ more) lt e more len (next.1 more) ∙ ap (λ b. in_front (live_one b to.count e) (still_found r (behind_record to e len) more)) (sym flag_is))
            ∙ front_of_front live (live_one flag to.count e) (still_found r (behind_record to e len) more)
            ∙ ap (λ (l : List Numbered). in_front l (still_found r (behind_record to e len) more)) (sym after_is)
            ∙ ap (λ t. in_front after (still_found r t more)) (sym then_is);
      };
      rest_is = ap (λ (l : List ℕ). drop len l) s.rest_is ∙ drop-drop len k bytes;
      count = omega (arith, s.count, ap (λ (t : ReadSoFar). t.count) then_is);
      started = λ none. absurd (omega arith);
    }

-- ---- all of it

module _ (r : PairReadingData) (start : ReadSoFar) (bytes : List ℕ) where
  -- so much has come of the bytes behind the header
  abbrev pub HasCome : List Numbered → ReadSoFar → Type 0
  HasCome live to = still_found r start (drop 8 bytes) ≡ in_front live (still_found r to (drop to.place bytes))

  pub none_come : (live : List Numbered) → live ≡ [] → start.place ≡ 8 → HasCome live start
  none_come live none is = sym (none_in_front (still_found r start (drop 8 bytes))) ∙ ap (λ l. in_front l (still_found r start (drop 8 bytes))) (sym none) ∙ ap (λ k. in_front live (still_found r start (drop k bytes))) (sym is)

  module _ (live : List Numbered) (from : ReadSoFar) (so_far : HasCome live from) where
    pub goes_on : (some after : List Numbered) (to : ReadSoFar) → IsReadOn r from (drop from.place bytes) some to → after ≡ live ++ some → HasCome after to
    goes_on some after to on is =
        let part = drop from.place bytes in
        let behind : drop on.place part ≡ drop to.place bytes = drop-drop on.place from.place bytes ∙ ap (λ k. drop k bytes) (sym on.place_is) in
        so_far
        ∙ ap (λ (l : List ℕ). in_front live (still_found r from l)) (sym (take-append-drop on.place part))
        ∙ ap (in_front live) (on.comes (drop on.place part) ∙ ap (λ (l : List ℕ). in_front some (still_found r to l)) behind)
        ∙ front_of_front live some (still_found r to (drop to.place bytes))
        ∙ ap (λ (l : List Numbered). in_front l (still_found r to (drop to.place bytes))) (sym is)

    pub breaks_off : (e : Refusal) → (e ≡ OutOfMemory) ⊎ IsBroken r from (drop from.place bytes) e → (e ≡ OutOfMemory) ⊎ (still_found r start (drop 8 bytes) ≡ Err e)
    breaks_off e (inl memory) = inl memory
    breaks_off e (inr broken) =
        let part = drop from.place bytes in
        let n = MOST_RECORD + length part in
        inr (so_far ∙ ap (in_front live) (broken n part (omega arith) (sym (take_all n part (omega arith)))))

    pub ends_whole : still_found r from (drop from.place bytes) ≡ Ok [] → still_found r start (drop 8 bytes) ≡ Ok live
    ends_whole none = so_far ∙ ap (in_front live) none ∙ ap Ok (append-nil live)

    pub ends_refused : (e : Refusal) → still_found r from (drop from.place bytes) ≡ Err e → still_found r start (drop 8 bytes) ≡ Err e
    ends_refused e is = so_far ∙ ap (in_front live) is
