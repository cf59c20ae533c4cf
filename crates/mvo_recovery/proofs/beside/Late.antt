-- The numbers that came to a pair's delta since it was seen.
use Rattle.std.proofs.Common.{◌≡◌, ℕ, ◌+◌, ◌<◌, ◌≤◌, ◌^◌, List, ◌++◌, length, drop, sym, ap, subst, ◌∙◌}
use Rattle.mvo_types.specs.declared.limits.TheConstants.{MAX_PAIR_RECORDS}
use Rattle.mvo_format.specs.declared.format.Format.{Format}
use Rattle.mvo_format.specs.Formats.{IsFormatUpTo}
use Rattle.mvo_format.proofs.Versions.{known_word}
use Rattle.mvo_pair.proofs.Said.{known_fits}
use Rattle.mvo_pair.specs.declared.pair.Pair.{Pair}
use Rattle.mvo_pair.specs.Data.{EntryData, Numbered, live_of}
use Rattle.mvo_pair.specs.Files.{AreNumbers, HasEntries, HasDeadNumbers}
use Rattle.mvo_recovery.specs.image.Opens.{Image}
use Rattle.mvo_merge.specs.Merged.{without}
use Rattle.mvo_merge.specs.Laws.{AreLate}
use Rattle.mvo_merge.proofs.Late.{gained_late}
use Rattle.mvo_recovery.proofs.Counted.{HasLoaded, loaded, loads, live_of-more, numbers_once, version_once, format_once}
use Rattle.mvo_recovery.proofs.Gained.{few_word}
use Rattle.mvo_recovery.specs.beside.Seen.{grown, Loads}
use Rattle.mvo_recovery.proofs.beside.Entries.{entries_once}
use Rattle.mvo_recovery.proofs.beside.Numbers.{first_are, more_are, first_stay}

module _ (upto : ℕ) (content : Image) (p : Pair) (more : ℕ) (seen now : List Numbered) (few : p.records ≤ MAX_PAIR_RECORDS) (was : Loads upto content p seen) (is : Loads upto content (grown more p) now) where
  abbrev old : HasLoaded upto p (content p.data_file) (content p.delta_file) seen
  old = loaded upto p (content p.data_file) (content p.delta_file) seen was

  abbrev new : HasLoaded upto (grown more p) (content p.data_file) (content p.delta_file) now
  new = loaded upto (grown more p) (content p.data_file) (content p.delta_file) now is

  -- both are of one version
  same_own : new.own ≡ old.own
  same_own =
      format_once upto upto new.own old.own new.known old.known
      (version_once new.own.version old.own.version p.records (p.entries + more) p.entries p.records new.ns old.ns (content p.delta_file) (known_word upto new.own new.known) (known_word upto old.own old.known) new.numbers old.numbers)

  new_entries : HasEntries old.own p.lo.0 p.hi.0 p.records new.es (content p.data_file)
  new_entries = subst (λ (g : Format). HasEntries g p.lo.0 p.hi.0 p.records new.es (content p.data_file)) same_own new.entries

  new_numbers : HasDeadNumbers old.own.version p.records (p.entries + more) new.ns (content p.delta_file)
  new_numbers = subst (λ (g : Format). HasDeadNumbers g.version p.records (p.entries + more) new.ns (content p.delta_file)) same_own new.numbers

  module _ (own : Format) (known : IsFormatUpTo upto own) (top : p.hi.0 < 2 ^ 64) (ns : List ℕ) (has : HasDeadNumbers own.version p.records (p.entries + more) ns (content p.delta_file)) where
    abbrev late : List ℕ
    late = drop p.entries ns

    has_own : HasDeadNumbers old.own.version p.records (p.entries + more) ns (content p.delta_file)
    has_own =
        subst (λ k. HasDeadNumbers k p.records (p.entries + more) ns (content p.delta_file))
        (version_once own.version old.own.version p.records (p.entries + more) p.entries p.records ns old.ns (content p.delta_file) (known_word upto own known) (known_word upto old.own old.known) has old.numbers) has

    same_entries : new.es ≡ old.es
    same_entries = entries_once old.own p.lo.0 p.hi.0 p.records new.es old.es (content p.data_file) (known_fits upto old.own old.known) top new_entries old.entries

    same_numbers : new.ns ≡ old.ns ++ late
    same_numbers =
        numbers_once old.own.version p.records (p.entries + more) new.ns ns (content p.delta_file) (few_word p.records few) new_numbers has_own
        ∙ first_are old.own.version p.records p.entries more old.ns ns (content p.delta_file) (few_word p.records few) old.numbers has_own

    pub are_late : AreLate seen late
    are_late = subst (λ (l : List Numbered). AreLate l late) (sym old.is)
        (gained_late p.records old.ns late old.es old.entries.counted (subst (AreNumbers p.records) (first_are old.own.version p.records p.entries more old.ns ns (content p.delta_file) (few_word p.records few) old.numbers has_own) has_own.are))

    -- THE OTHERS ARE LIVE NOW.
    pub others_live : now ≡ without late seen
    others_live =
        new.is
        ∙ ap (λ (l : List ℕ). live_of l new.es) same_numbers
        ∙ ap (λ (l : List EntryData). live_of (old.ns ++ late) l) same_entries
        ∙ live_of-more old.ns late old.es
        ∙ ap (λ (l : List Numbered). without late l) (sym old.is)

    pub late_counted : length late ≡ more
    late_counted = more_are old.own.version p.records p.entries more old.ns ns (content p.delta_file) (few_word p.records few) old.numbers has_own

  -- where the counted numbers and the data file stay, what was seen loads again
  pub seen_again : (later : Image) → later p.data_file ≡ content p.data_file
      → ((own : Format) → IsFormatUpTo upto own → (ns : List ℕ) → HasDeadNumbers own.version p.records (p.entries + more) ns (content p.delta_file) → HasDeadNumbers own.version p.records (p.entries + more) ns (later p.delta_file))
      → Loads upto later p seen
  seen_again later same stays = loads upto p (later p.data_file) (later p.delta_file) seen (record {
    own = old.own;
    known = old.known;
    es = old.es;
    ns = old.ns;
    entries = subst (λ (b : List ℕ). HasEntries old.own p.lo.0 p.hi.0 p.records old.es b) (sym same) old.entries;
    numbers = first_stay old.own.version p.records p.entries more old.ns new.ns (content p.delta_file) (later p.delta_file) (few_word p.records few) old.numbers new_numbers (stays old.own old.known new.ns new_numbers);
    is = old.is;
  })
