-- What the first bytes of a pair's files say is what the files say, as many as its counts reach.
use Rattle.std.proofs.Common.{◌≡◌, ℕ, zero, suc, ◌+◌, ◌-◌, ◌*◌, ◌≤◌, List, [], ◌∷◌, ◌++◌, length, take, drop, Result, Ok, Err, refl, ap, subst, ◌∙◌, append_assoc, length-append, arith}
use Rattle.std.proofs.Math.Nat.{suc-mul}
use Rattle.std.specs.List.{flat_map, AllByRecursion}
use Rattle.std.proofs.lemmas.List.Concat.{flat_map-cons}
use Rattle.std.proofs.lemmas.List.Elements.{recursion_from_All}
use Rattle.mvo_types.specs.declared.refusal.Refusal.{Refusal}
use Rattle.mvo_bytes.specs.Fields.{field}
use Rattle.mvo_bytes.proofs.Fields.{length-field}
use Rattle.mvo_format.specs.declared.format.Format.{Format}
use Rattle.mvo_format.proofs.Fronts.{front_taken, front_back}
use Rattle.mvo_pair.specs.declared.pair.Pair.{Pair}
use Rattle.mvo_pair.specs.declared.unread.Unread.TheVariants.{Memory, Broken, OtherVersion}
use Rattle.mvo_pair.specs.Data.{EntryData, Numbered, live_of}
use Rattle.mvo_pair.specs.Answers.{FoundOrUnread, IsFound, Goes, After, IsOnly}
use Rattle.mvo_pair.specs.Files.{file_header, data_magic, delta_magic, HasOtherVersion, HasUnknownVersion, IsDataFile, entry_bytes, data_bytes, IsEntry, HasEntries, delta_bytes, HasDeadNumbers}
use Rattle.mvo_pair.specs.Loading.{DataSays, DeltaSays, LoadsAs, most_data, data_reach, delta_reach}
use Rattle.mvo_format.specs.Formats.{IsFormatUpTo}
use Rattle.mvo_pair.proofs.Appends.{length-delta}
use Rattle.mvo_pair.proofs.Said.{known_most}

-- ---- headers

length-header : (magic : List ℕ) (version : ℕ) → length magic ≡ 4 → length (file_header magic version) ≡ 8
length-header magic version four = omega (arith, length-append magic (field 4 version), length-field 4 version, four)

module _ (n : ℕ) (magic : List ℕ) (version : ℕ) (bytes : List ℕ) where
  other_in_front : length magic ≡ 4 → 8 ≤ n → HasOtherVersion magic version bytes → HasOtherVersion magic version (take n bytes)
  other_in_front four le o = record {
    number = o.number;
    rest = take (n - length (file_header magic o.number)) o.rest;
    whole = front_taken n bytes (file_header magic o.number) o.rest (omega (arith, le, length-header magic o.number four)) o.whole;
    fits = o.fits;
    other = o.other;
  }

  other_of_front : HasOtherVersion magic version (take n bytes) → HasOtherVersion magic version bytes
  other_of_front o = record {
    number = o.number;
    rest = o.rest ++ drop n bytes;
    whole = front_back n bytes (file_header magic o.number) o.rest o.whole;
    fits = o.fits;
    other = o.other;
  }

module _ (n : ℕ) (magic : List ℕ) (upto : ℕ) (bytes : List ℕ) where
  unknown_in_front : length magic ≡ 4 → 8 ≤ n → HasUnknownVersion magic upto bytes → HasUnknownVersion magic upto (take n bytes)
  unknown_in_front four le o = record {
    number = o.number;
    rest = take (n - length (file_header magic o.number)) o.rest;
    whole = front_taken n bytes (file_header magic o.number) o.rest (omega (arith, le, length-header magic o.number four)) o.whole;
    fits = o.fits;
    other = o.other;
  }

  unknown_of_front : HasUnknownVersion magic upto (take n bytes) → HasUnknownVersion magic upto bytes
  unknown_of_front o = record {
    number = o.number;
    rest = o.rest ++ drop n bytes;
    whole = front_back n bytes (file_header magic o.number) o.rest o.whole;
    fits = o.fits;
    other = o.other;
  }

-- where two files are of another version alike, and hold the same values, the same is found
found_alike : {X : Type 0} (OtherA OtherB : Type 0) (A B : X → Type 0) → (OtherA → OtherB) → (OtherB → OtherA) → ((x : X) → A x → B x) → ((x : X) → B x → A x) → (found : FoundOrUnread X) → IsFound OtherA A found → IsFound OtherB B found
found_alike OtherA OtherB A B over back holds held (Ok x) s = holds x s
found_alike OtherA OtherB A B over back holds held (Err OtherVersion) s = over s
found_alike OtherA OtherB A B over back holds held (Err Broken) s = (λ o. s.0 (back o), λ x h. s.1 x (held x h))
found_alike OtherA OtherB A B over back holds held (Err Memory) s = absurd s

-- ---- data files

length-entry : (e : EntryData) → length (entry_bytes e) ≡ 27 + length e.row.bytes
length-entry e = simp length-append (omega (arith, length-field 8 e.begin, length-field 1 e.row.key.table, length-field 8 e.row.key.key, length-field 8 e.row.sort, length-field 2 (length e.row.bytes)))

length-entries : (f : Format) (lo hi : ℕ) (es : List EntryData) → AllByRecursion (IsEntry f lo hi) es → length (flat_map entry_bytes es) ≤ length es * (27 + f.max_data_len)
length-entries f lo hi [] all = omega arith
length-entries f lo hi (e ∷ es) all =
    let more = length-entries f lo hi es all.1 in
    let size = all.0.size in
    let one : length (flat_map entry_bytes (e ∷ es)) ≡ length (entry_bytes e) + length (flat_map entry_bytes es) = ap (λ (l : List ℕ). length l) (flat_map-cons entry_bytes e es) ∙ length-append (entry_bytes e) (flat_map entry_bytes es) in
    let next : suc (length es) * (27 + f.max_data_len) ≡ length es * (27 + f.max_data_len) + (27 + f.max_data_len) = suc-mul (length es) (27 + f.max_data_len) in
    omega (arith, one, next, more, size, length-entry e)

mul_up : (k a b : ℕ) → a ≤ b → k * a ≤ k * b
mul_up zero a b le = omega arith
mul_up (suc k) a b le = let more = mul_up k a b le in omega (arith, suc-mul k a, suc-mul k b, more, le)

module _ (upto : ℕ) (p : Pair) (bytes : List ℕ) where
  abbrev n : ℕ
  n = data_reach upto p

  abbrev Holds : List ℕ → Format × List EntryData → Type 0
  Holds l d = IsDataFile upto p.lo.0 p.hi.0 p.records d l

  length-data : (f : Format) (es : List EntryData) (l : List ℕ) → IsFormatUpTo upto f → HasEntries f p.lo.0 p.hi.0 p.records es l → length (data_bytes f.version es) ≤ n
  length-data f es l known h =
      let whole : length (data_bytes f.version es) ≡ length (file_header data_magic f.version) + length (flat_map entry_bytes es) = length-append (file_header data_magic f.version) (flat_map entry_bytes es) in
      let most = subst (λ (k : ℕ). length (flat_map entry_bytes es) ≤ k * (27 + f.max_data_len)) h.counted (length-entries f p.lo.0 p.hi.0 es (recursion_from_All (IsEntry f p.lo.0 p.hi.0) es h.are.each)) in
      let up = mul_up p.records (27 + f.max_data_len) (27 + most_data upto) (omega (arith, known_most upto f known)) in
      omega (arith, whole, most, up, length-header data_magic f.version refl)

  entries_in_front : (d : Format × List EntryData) → Holds bytes d → Holds (take n bytes) d
  entries_in_front d file =
      let h = file.has in
      let front = data_bytes d.0.version d.1 in
      record { known = file.known; has = record { rest = take (n - length front) h.rest; whole = front_taken n bytes front h.rest (length-data d.0 d.1 bytes file.known h) h.whole; counted = h.counted; are = h.are; words = h.words } }

  entries_of_front : (d : Format × List EntryData) → Holds (take n bytes) d → Holds bytes d
  entries_of_front d file =
      let h = file.has in
      record { known = file.known; has = record { rest = h.rest ++ drop n bytes; whole = front_back n bytes (data_bytes d.0.version d.1) h.rest h.whole; counted = h.counted; are = h.are; words = h.words } }

  abbrev Other : List ℕ → Type 0
  Other l = HasUnknownVersion data_magic upto l

  data_of_front : (found : FoundOrUnread (Format × List EntryData)) → DataSays upto p (take n bytes) found → DataSays upto p bytes found
  data_of_front = found_alike (Other (take n bytes)) (Other bytes) (Holds (take n bytes)) (Holds bytes) (unknown_of_front n data_magic upto bytes) (unknown_in_front n data_magic upto bytes refl (omega arith)) entries_of_front entries_in_front

  data_in_front : (found : FoundOrUnread (Format × List EntryData)) → DataSays upto p bytes found → DataSays upto p (take n bytes) found
  data_in_front = found_alike (Other bytes) (Other (take n bytes)) (Holds bytes) (Holds (take n bytes)) (unknown_in_front n data_magic upto bytes refl (omega arith)) (unknown_of_front n data_magic upto bytes) entries_in_front entries_of_front

-- ---- delta files

module _ (f : Format) (p : Pair) (bytes : List ℕ) where
  abbrev m : ℕ
  m = delta_reach p

  abbrev HoldsNumbers : List ℕ → List ℕ → Type 0
  HoldsNumbers l ns = HasDeadNumbers f.version p.records p.entries ns l

  abbrev OtherDelta : List ℕ → Type 0
  OtherDelta l = HasOtherVersion delta_magic f.version l

  numbers_in_front : (ns : List ℕ) → HoldsNumbers bytes ns → HoldsNumbers (take m bytes) ns
  numbers_in_front ns h =
      let front = delta_bytes f.version ns in
      let long = length-delta f.version ns p.entries h.counted in
      record { rest = take (m - length front) h.rest; whole = front_taken m bytes front h.rest (omega (arith, long)) h.whole; counted = h.counted; are = h.are }

  numbers_of_front : (ns : List ℕ) → HoldsNumbers (take m bytes) ns → HoldsNumbers bytes ns
  numbers_of_front ns h = record { rest = h.rest ++ drop m bytes; whole = front_back m bytes (delta_bytes f.version ns) h.rest h.whole; counted = h.counted; are = h.are }

  delta_of_front : (found : FoundOrUnread (List ℕ)) → DeltaSays f p (take m bytes) found → DeltaSays f p bytes found
  delta_of_front = found_alike (OtherDelta (take m bytes)) (OtherDelta bytes) (HoldsNumbers (take m bytes)) (HoldsNumbers bytes) (other_of_front m delta_magic f.version bytes) (other_in_front m delta_magic f.version bytes refl (omega arith)) numbers_of_front numbers_in_front

  delta_in_front : (found : FoundOrUnread (List ℕ)) → DeltaSays f p bytes found → DeltaSays f p (take m bytes) found
  delta_in_front = found_alike (OtherDelta bytes) (OtherDelta (take m bytes)) (HoldsNumbers bytes) (HoldsNumbers (take m bytes)) (other_in_front m delta_magic f.version bytes refl (omega arith)) (other_of_front m delta_magic f.version bytes) numbers_in_front numbers_of_front

-- ---- the pair

-- where two files say the same, and the same comes next, the same is answered
after_alike : {X Y : Type 0} (file : ℕ) (A B : FoundOrUnread X → Type 0) (first second : X → Result Y Refusal → Type 0) → ((found : FoundOrUnread X) → A found → B found) → ((x : X) (out : Result Y Refusal) → first x out → second x out) → (out : Result Y Refusal) → After file A first out → After file B second out
after_alike {X} {Y} file A B first second over next out h = (h.0, over h.0 h.1, go h.0 h.2)
  where
    go : (found : FoundOrUnread X) → Goes {Y = Y} file first found out → Goes {Y = Y} file second found out
    go (Ok x) goes = next x out goes
    go (Err e) goes = goes

module _ (upto : ℕ) (p : Pair) (a b : List ℕ) where
  abbrev Answer : Type 0
  Answer = Result (List Numbered) Refusal

  abbrev Behind : List ℕ → Format × List EntryData → Answer → Type 0
  Behind l d = After p.delta_file (DeltaSays d.0 p l) (λ ns out. out ≡ Ok (live_of ns d.1))

  abbrev live : List EntryData → List ℕ → Answer → Type 0
  live es ns out = out ≡ Ok (live_of ns es)

  abbrev data_front : List ℕ
  data_front = take (data_reach upto p) a

  abbrev delta_front : List ℕ
  delta_front = take (delta_reach p) b

  pub loads_of_front : (out : Answer) → LoadsAs upto p data_front delta_front out → LoadsAs upto p a b out
  loads_of_front =
      after_alike p.data_file (DataSays upto p data_front) (DataSays upto p a) (Behind delta_front) (Behind b) (data_of_front upto p a)
      (λ d. after_alike p.delta_file (DeltaSays d.0 p delta_front) (DeltaSays d.0 p b) (live d.1) (live d.1) (delta_of_front d.0 p b) (λ ns out is. is))

  pub loads_in_front : (out : Answer) → LoadsAs upto p a b out → LoadsAs upto p data_front delta_front out
  loads_in_front =
      after_alike p.data_file (DataSays upto p a) (DataSays upto p data_front) (Behind b) (Behind delta_front) (data_in_front upto p a)
      (λ d. after_alike p.delta_file (DeltaSays d.0 p b) (DeltaSays d.0 p delta_front) (live d.1) (live d.1) (delta_in_front d.0 p b) (λ ns out is. is))

-- the same of the delta file alone
module _ (upto : ℕ) (p : Pair) (a b : List ℕ) where
  pub loads_delta_front : (out : Answer upto p a b) → LoadsAs upto p a b out → LoadsAs upto p a (delta_front upto p a b) out
  loads_delta_front =
      after_alike p.data_file (DataSays upto p a) (DataSays upto p a) (Behind upto p a b b) (Behind upto p a b (delta_front upto p a b)) (λ found says. says)
      (λ d. after_alike p.delta_file (DeltaSays d.0 p b) (DeltaSays d.0 p (delta_front upto p a b)) (live upto p a b d.1) (live upto p a b d.1) (delta_in_front d.0 p b) (λ ns out is. is))

  pub loads_of_delta_front : (out : Answer upto p a b) → LoadsAs upto p a (delta_front upto p a b) out → LoadsAs upto p a b out
  loads_of_delta_front =
      after_alike p.data_file (DataSays upto p a) (DataSays upto p a) (Behind upto p a b (delta_front upto p a b)) (Behind upto p a b b) (λ found says. says)
      (λ d. after_alike p.delta_file (DeltaSays d.0 p (delta_front upto p a b)) (DeltaSays d.0 p b) (live upto p a b d.1) (live upto p a b d.1) (delta_of_front d.0 p b) (λ ns out is. is))

  -- more bytes behind the records change nothing
  pub loads_longer : (more : List ℕ) (out : List Numbered) → LoadsAs upto p a b (Ok out) → LoadsAs upto p (a ++ more) b (Ok out)
  loads_longer more out h = go h.0 h.1 h.2
    where
      go : (found : FoundOrUnread (Format × List EntryData)) → DataSays upto p a found → Goes p.data_file (Behind upto p a b b) found (Ok out) → LoadsAs upto p (a ++ more) b (Ok out)
      go (Ok d) file next =
          let has = file.has in
          let front = data_bytes d.0.version d.1 in
          (Ok d, record { known = file.known; has = record { rest = has.rest ++ more; whole = ap (λ (l : List ℕ). l ++ more) has.whole ∙ append_assoc front has.rest more; counted = has.counted; are = has.are; words = has.words } }, next)
      go (Err e) says next = absurd cc

-- what is the one answer of some bytes is that of others which say the same
pub only_alike : {Y : Type 0} (A B : Y → Type 0) → ((y : Y) → A y → B y) → ((y : Y) → B y → A y) → (y : Y) → IsOnly A y → IsOnly B y
only_alike A B over back y only = (over y only.0, λ z h. only.1 z (back z h))
