-- A reading that begins: its header, and what its delta file says.
use Rattle.std.proofs.Common.{◌≡◌, ◌⊎◌, inl, inr, ℕ, ◌+◌, ◌-◌, ◌/◌, ◌≤◌, ◌<◌, Bool, true, false, cond, ltb, eqb, List, [], ◌∷◌, ◌++◌, length, take, drop, get_or, Option, Some, None, Result, Ok, Err, refl, sym, ap, ◌∙◌, arith}
use Rattle.std.proofs.lemmas.Bool.{cases_lt, lt-ltb, le-ltb}
use Rattle.std.proofs.lemmas.List.{length-take, length-drop}
use Rattle.mvo_types.specs.declared.refusal.Refusal.{Refusal}
use Rattle.mvo_types.specs.declared.refusal.Refusal.TheVariants.{OutOfMemory, Corrupt}
use Rattle.mvo_format.specs.declared.format.Format.{Format}
use Rattle.mvo_format.specs.Formats.{format_up_to}
use Rattle.mvo_pair.specs.declared.data.TheConstants.{DATA_MAGIC}
use Rattle.mvo_pair.specs.declared.pair.Pair.{Pair}
use Rattle.mvo_pair.specs.declared.unread.Unread.{Unread}
use Rattle.mvo_pair.specs.declared.unread.Unread.TheVariants.{Memory, Broken, OtherVersion}
use Rattle.mvo_pair.specs.Answers.{FoundOrUnread, file_refusal}
use Rattle.mvo_pair.specs.Data.{EntryData, Numbered, live_of}
use Rattle.mvo_pair.specs.Flags.{AreFlags, live_one}
use Rattle.mvo_pair.specs.Reading.{read_then, of_file, number_in, known_kept, format_header_found, entries_found, data_found, delta_found, live_found, pair_found, has}
use Rattle.mvo_pair.specs.Coming.{entries_behind, unflagged, PairReadingData, unless_refused, still_found, at_start, AreNamed, IsReadingBegun, IsNoReading, FoundIsLoaded}
use Rattle.mvo_pair.proofs.Loads.{Fits, entries_break, entries_len, stops_there, loads, loads_again}
use Rattle.mvo_pair.proofs.Places.{no_room, none_found}
use Rattle.mvo_pair.proofs.Lives.{live_from, one_more}
use Rattle.mvo_pair.proofs.Coming.{one_by_one}
use Rattle.mvo_pair.proofs.Next.{number_same}

-- ---- the header

module _ (m upto : ℕ) where
  abbrev by_known : Option Format → FoundOrUnread Format
  by_known None = Err OtherVersion
  by_known (Some f) = Ok f

  abbrev by_tests : Bool → Bool → Option Format → FoundOrUnread Format
  by_tests short right known = cond short (Err Broken) (cond right (by_known known) (Err Broken))

  abbrev head_format : List ℕ → FoundOrUnread Format
  head_format bytes = by_tests (ltb (length bytes) 8) (eqb (number_in 4 bytes) m) (format_up_to upto (number_in 4 (drop 4 bytes)))

  abbrev and_body : List ℕ → FoundOrUnread Format → FoundOrUnread (Format × List ℕ)
  and_body bytes found = read_then found (λ f. Ok (f, drop 8 bytes))

  head_parts : (bytes : List ℕ) → format_header_found m upto bytes ≡ and_body bytes (head_format bytes)
  unfolding format_header_found
  head_parts bytes = go (ltb (length bytes) 8) (eqb (number_in 4 bytes) m) (format_up_to upto (number_in 4 (drop 4 bytes)))
    where
      go : (short right : Bool) (known : Option Format) → cond short (Err Broken) (cond right (known_kept (drop 8 bytes) known) (Err Broken)) ≡ and_body bytes (by_tests short right known)
      go true right known = refl
      go false false known = refl
      go false true None = refl
      go false true (Some f) = refl

  short_same : (a b : List ℕ) → take 8 a ≡ take 8 b → ltb (length a) 8 ≡ ltb (length b) 8
  short_same a b same = go (cases_lt (length a) 8)
    where
      len : length (take 8 a) ≡ length (take 8 b)
      len = ap (λ (l : List ℕ). length l) same

      go : ((length a < 8) ⊎ (8 ≤ length a)) → ltb (length a) 8 ≡ ltb (length b) 8
      go (inl lt) = lt-ltb _ _ lt ∙ sym (lt-ltb _ _ (omega (arith, len, length-take 8 a, length-take 8 b)))
      go (inr le) = le-ltb _ _ le ∙ sym (le-ltb _ _ (omega (arith, len, length-take 8 a, length-take 8 b)))

  format_same : (a b : List ℕ) → take 8 a ≡ take 8 b → head_format a ≡ head_format b
  format_same a b same =
      ap (λ t. by_tests t (eqb (number_in 4 a) m) (format_up_to upto (number_in 4 (drop 4 a)))) (short_same a b same)
      ∙ ap (λ n. by_tests (ltb (length b) 8) (eqb n m) (format_up_to upto (number_in 4 (drop 4 a)))) (number_same 8 a b same 4 0 (omega arith))
      ∙ ap (λ n. by_tests (ltb (length b) 8) (eqb (number_in 4 b) m) (format_up_to upto n)) (number_same 8 a b same 4 4 (omega arith))

  module _ (front bytes : List ℕ) (same : take 8 bytes ≡ take 8 front) where
    abbrev has_head : FoundOrUnread Format → Format × List ℕ → Type 0
    has_head found x = and_body front found ≡ Ok x

    head_there : (f : Format) (body : List ℕ) → format_header_found m upto front ≡ Ok (f, body) → format_header_found m upto bytes ≡ Ok (f, drop 8 bytes)
    head_there f body is = head_parts bytes ∙ ap (and_body bytes) (format_same bytes front same ∙ go (head_format front) (sym (head_parts front) ∙ is))
      where
        go : (found : FoundOrUnread Format) → has_head found (f, body) → found ≡ Ok f
        go (Ok g) h = let same_format : (g, drop 8 front) ≡ (f, body) = cc in ap Ok (ap (λ (x : Format × List ℕ). x.0) same_format)
        go (Err u) h = absurd cc

    abbrev lacks_head : FoundOrUnread Format → Unread → Type 0
    lacks_head found u = and_body front found ≡ Err u

    head_lacks : (u : Unread) → format_header_found m upto front ≡ Err u → format_header_found m upto bytes ≡ Err u
    head_lacks u is = head_parts bytes ∙ ap (and_body bytes) (format_same bytes front same ∙ go (head_format front) (sym (head_parts front) ∙ is))
      where
        go : (found : FoundOrUnread Format) → lacks_head found u → found ≡ Err u
        go (Ok g) h = absurd cc
        go (Err v) h = cc

  pub head_long : (front : List ℕ) (x : Format × List ℕ) → format_header_found m upto front ≡ Ok x → 8 ≤ length front
  head_long front x is = go (cases_lt (length front) 8)
    where
      lacks : length front < 8 → format_header_found m upto front ≡ Err Broken
      lacks lt = head_parts front ∙ ap (λ t. and_body front (by_tests t (eqb (number_in 4 front) m) (format_up_to upto (number_in 4 (drop 4 front))))) (lt-ltb _ _ lt)

      go : ((length front < 8) ⊎ (8 ≤ length front)) → 8 ≤ length front
      go (inl lt) = absurd (let h = lacks lt in cc)
      go (inr le) = le

-- ---- the flags

pub unflagged_is : (below : ℕ) (ns : List ℕ) (flags : List Bool) → AreFlags below ns flags → (n : ℕ) (es : List EntryData) → n + length es ≤ below → unflagged flags n es ≡ live_from n ns es
unflagged_is below ns flags are n [] le = refl
unflagged_is below ns flags are n (e ∷ es) le =
    ap (λ (l : List Numbered). live_one (get_or flags n false) n e ++ l) (unflagged_is below ns flags are (n + 1) es (omega arith))
    ∙ ap (λ t. live_one t n e ++ live_from (n + 1) ns es) (are.each n false (omega arith))
    ∙ sym (one_more (has ns n) n e (live_from (n + 1) ns es))

-- ---- the whole

pub are_flagged : (f : Format) (p : Pair) (delta : List ℕ) (flags : List Bool) (ns : List ℕ) → delta_found f.version p.records p.entries delta ≡ Ok ns → AreFlags p.records ns flags → AreNamed f p delta flags None
unfolding live_found
are_flagged f p delta flags ns is are es many =
    ap (λ q. read_then (of_file p.delta_file q) (λ ks. Ok (live_of ks es))) is
    ∙ ap Ok (sym (unflagged_is p.records ns flags are 0 es (omega arith)))

pub are_refused : (f : Format) (p : Pair) (delta : List ℕ) (flags : List Bool) (u : Unread) (e : Refusal) → delta_found f.version p.records p.entries delta ≡ Err u → e ≡ file_refusal p.delta_file u → AreNamed f p delta flags (Some e)
unfolding live_found
are_refused f p delta flags u e is why es many = ap (λ q. read_then (of_file p.delta_file q) (λ ks. Ok (live_of ks es))) is ∙ ap Err (sym why)

pub found_is_loaded : (upto : ℕ) (p : Pair) → Fits p → FoundIsLoaded upto p
found_is_loaded upto p fits = record {
  only = λ bytes delta fit numbers. loads upto p bytes delta fits fit (λ d _. numbers);
  live = λ bytes delta live h. loads_again upto p bytes delta live fits h;
}

module _ (upto : ℕ) (p : Pair) (front delta : List ℕ) where
  module _ (f : Format) (body : List ℕ) (head : format_header_found DATA_MAGIC upto front ≡ Ok (f, body)) where
    module _ (bytes : List ℕ) (so : take 8 bytes ≡ take 8 front) (flags : List Bool) (refused : Option Refusal) where
      abbrev rest : List ℕ
      rest = drop 8 bytes

      abbrev of_entries : FoundOrUnread (List EntryData) → Result (List Numbered) Refusal
      of_entries x = read_then (of_file p.data_file x) (λ es. unless_refused refused (unflagged flags 0 es))

      abbrev of_data : FoundOrUnread (Format × List EntryData) → Result (List Numbered) Refusal
      of_data x = read_then (of_file p.data_file x) (λ d. live_found d.0 p delta d.1)

      data_is : data_found upto p.lo.0 p.hi.0 p.records bytes ≡ read_then (entries_found f p.lo.0 p.hi.0 p.records rest) (λ es. Ok (f, es))
      unfolding data_found
      data_is = ap (λ q. read_then q (λ x. read_then (entries_found x.0 p.lo.0 p.hi.0 p.records x.1) (λ es. Ok (x.0, es)))) (head_there DATA_MAGIC upto front bytes so f body head)

      by_entries : AreNamed f p delta flags refused → (x : FoundOrUnread (List EntryData)) → entries_found f p.lo.0 p.hi.0 p.records rest ≡ x → of_data (read_then x (λ es. Ok (f, es))) ≡ of_entries x
      by_entries flagged (Ok es) h = flagged es (entries_len f p.lo.0 p.hi.0 p.records rest es h)
      by_entries flagged (Err u) h = refl

      none_yet : p.records ≡ p.records - 0
      none_yet = omega arith

      module _ (r : PairReadingData) (is : r ≡ record { pair = p; format = f; named = flags; refused = refused }) where
        comes : of_entries (entries_found f p.lo.0 p.hi.0 p.records rest) ≡ still_found r at_start rest
        unfolding still_found
        comes = ap of_entries (one_by_one f p.lo.0 p.hi.0 p.records rest ∙ ap (λ n. entries_behind f p.lo.0 p.hi.0 None n rest) none_yet) ∙ ap (λ q. still_found q at_start rest) (sym is)

        whole : AreNamed f p delta flags refused → pair_found upto p bytes delta ≡ still_found r at_start rest
        unfolding pair_found
        whole flagged = ap of_data data_is ∙ by_entries flagged (entries_found f p.lo.0 p.hi.0 p.records rest) refl ∙ comes

    pub begun : (flags : List Bool) (refused : Option Refusal) (r : PairReadingData) → r ≡ record { pair = p; format = f; named = flags; refused = refused } → AreNamed f p delta flags refused → IsReadingBegun upto p front delta r
    begun flags refused r is flagged bytes so = whole bytes so flags refused r is flagged

    pub too_many : (len : ℕ) → (len - 8) / 27 < p.records → IsNoReading upto p len front delta (Corrupt p.data_file)
    too_many len many bytes so short =
        let there = head_there DATA_MAGIC upto front bytes so f body head in
        let rest = drop 8 bytes in
        let lacks = none_found rest f p.lo.0 p.hi.0 p.records (sym (no_room p.records rest (omega (arith, many, short, length-drop 8 bytes)))) in
        let found : data_found upto p.lo.0 p.hi.0 p.records bytes ≡ Err Broken = entries_break upto p.lo.0 p.hi.0 p.records bytes f rest there Broken lacks in
        stops_there upto p bytes delta Broken (Corrupt p.data_file) refl found

  data_lacks : (bytes : List ℕ) (u : Unread) → format_header_found DATA_MAGIC upto bytes ≡ Err u → data_found upto p.lo.0 p.hi.0 p.records bytes ≡ Err u
  unfolding data_found
  data_lacks bytes u is = ap (λ q. read_then q (λ x. read_then (entries_found x.0 p.lo.0 p.hi.0 p.records x.1) (λ es. Ok (x.0, es)))) is

  pub not_begun : (len : ℕ) (u : Unread) (e : Refusal) → e ≡ file_refusal p.data_file u → (u ≡ Memory) ⊎ (format_header_found DATA_MAGIC upto front ≡ Err u) → (e ≡ OutOfMemory) ⊎ IsNoReading upto p len front delta e
  not_begun len u e is (inl memory) = inl (is ∙ ap (file_refusal p.data_file) memory)
  not_begun len u e is (inr head) = inr (λ bytes so short.
      let lacks = head_lacks DATA_MAGIC upto front bytes so u head in
      let found = data_lacks bytes u lacks in
      stops_there upto p bytes delta u e is found)
