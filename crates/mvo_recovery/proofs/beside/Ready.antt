-- One pair in the place of the two, with the numbers that came late: it may be installed.
use Rattle.std.proofs.Common.{◌≡◌, ◌≢◌, inr, ℕ, ◌<◌, ◌≤◌, ◌^◌, List, ◌∷◌, ◌++◌, length, drop, refl, sym, ap, subst, ◌∙◌, arith, length-append}
use Rattle.std.specs.Prelude.{map, All, AllPairs}
use Rattle.std.specs.List.{Contains}
use Rattle.std.proofs.lemmas.List.{length-map}
use Rattle.mvo_types.specs.Keys.{Map}
use Rattle.mvo_disk.specs.Disk.{Only}
use Rattle.mvo_format.specs.declared.format.Format.{Format}
use Rattle.mvo_format.specs.declared.format.TheConstants.{LAST_FORMAT}
use Rattle.mvo_format.specs.Formats.{IsFormatUpTo}
use Rattle.mvo_frame.specs.declared.kind.Kind.TheVariants.{Last}
use Rattle.mvo_pair.specs.declared.pair.Pair.{Pair}
use Rattle.mvo_pair.specs.Data.{Numbered, AreApart}
use Rattle.mvo_pair.specs.Files.{HasEntries}
use Rattle.mvo_manifest.specs.Data.{ManifestData, named}
use Rattle.mvo_manifest.specs.Rules.{IsManifest, IsFile, IsPair, PairsRise}
use Rattle.mvo_recovery.specs.image.Opens.{Image}
use Rattle.mvo_recovery.specs.image.Gives.{HaveLive}
use Rattle.mvo_places.specs.Rows.{rows_of, after_groups}
use Rattle.mvo_places.specs.Places.{PlaceMap, ArePlaces}
use Rattle.mvo_merge.specs.Merged.{merged as records_of, renumbering_of, of_left, of_right, renumbered, without, live_after}
use Rattle.mvo_merge.specs.Moved.{moved}
use Rattle.mvo_merge.specs.Laws.{AreLate}
use Rattle.mvo_merge.proofs.Kept.{keeps_rows, stays_apart}
use Rattle.mvo_merge.proofs.Loaded.{counts_live, loads_merged}
use Rattle.mvo_merge.proofs.Placed.{places_merged}
use Rattle.mvo_recovery.specs.Parts.{Parts, MakeUpSame, HasParts}
use Rattle.mvo_recovery.specs.Settled.{IsSettled}
use Rattle.mvo_recovery.specs.Installing.{IsReady}
use Rattle.mvo_recovery.specs.Merging.{MergeData, merged_manifest, HasRecords}
use Rattle.mvo_recovery.proofs.Later.{up_to_last, live_later, sealed_later, segment_later}
use Rattle.mvo_recovery.proofs.Merged.{named_merged, named_cases, manifest_merged, rise_merged}
use Rattle.mvo_recovery.specs.beside.Seen.{SeenData, Loads, WasSeen, pairs_now, MayMergeNow, NumbersNow, HasLate, lives_now, parts_now}
use Rattle.mvo_recovery.specs.beside.Laws.{FindsLate}
use Rattle.mvo_recovery.proofs.beside.Late.{are_late, others_live, late_counted}
use Rattle.mvo_recovery.proofs.beside.Two.{HaveTwo, have_one, lives_at, two_rules, few_one}
use Rattle.mvo_recovery.proofs.beside.Seen.{left_now, right_now, two_now}

pub finds_late : (content : Image) → FindsLate content
finds_late content upto own p more seen now ns known top few was is has = (
  are_late upto content p more seen now few was is own known top ns has,
  others_live upto content p more seen now few was is own known top ns has,
  late_counted upto content p more seen now few was is own known top ns has,
)

-- ---- what came late

module _ (content : Image) (m : ManifestData) (lives : List (List Numbered)) (s : SeenData) (is : IsManifest m) (have : HaveLive m.version content m.pairs lives) (seen : WasSeen content m s) (now : NumbersNow content m s seen) where
  abbrev p : Pair
  p = left_now content m s seen

  abbrev q : Pair
  q = right_now content m s seen

  abbrev two : HaveTwo m.version content seen.before p q lives
  two = two_now content m s seen lives have

  rules : IsPair p.lo.0 p × IsPair p.hi.0 q
  rules = two_rules 0 m.checkpoint_mark seen.before seen.behind p q (subst (λ (ps : List Pair). PairsRise 0 ps m.checkpoint_mark) seen.pairs is.rules.rise)

  left_top : s.left.hi.0 < 2 ^ 64
  left_top = omega (arith, rules.0.top)

  right_top : s.right.hi.0 < 2 ^ 64
  right_top = omega (arith, rules.1.top)

  abbrev late_left : List ℕ
  late_left = drop s.left.entries now.left

  abbrev late_right : List ℕ
  late_right = drop s.right.entries now.right

  pub are_left : AreLate s.live_left late_left
  are_left = are_late m.version content s.left seen.more_left s.live_left two.left rules.0.records seen.left two.left_has now.left_own now.left_known left_top now.left now.left_has

  pub are_right : AreLate s.live_right late_right
  are_right = are_late m.version content s.right seen.more_right s.live_right two.right rules.1.records seen.right two.right_has now.right_own now.right_known right_top now.right now.right_has

  abbrev live : List Numbered
  live = live_after s.live_left s.live_right late_left late_right

  abbrev old_lives : List (List Numbered)
  old_lives = two.front ++ without late_left s.live_left ∷ without late_right s.live_right ∷ two.back

  lives_are : lives ≡ old_lives
  lives_are =
      two.are
      ∙ ap (λ (l : List Numbered). two.front ++ l ∷ two.right ∷ two.back) (others_live m.version content s.left seen.more_left s.live_left two.left rules.0.records seen.left two.left_has now.left_own now.left_known left_top now.left now.left_has)
      ∙ ap (λ (r : List Numbered). two.front ++ without late_left s.live_left ∷ r ∷ two.back) (others_live m.version content s.right seen.more_right s.live_right two.right rules.1.records seen.right two.right_has now.right_own now.right_known right_top now.right now.right_has)

  new_lives : lives_now s live lives ≡ two.front ++ live ∷ two.back
  new_lives = lives_at s live lives two.front two.back two.left two.right two.are (sym two.each ∙ seen.at)

  same_rows : rows_of (lives_now s live lives) ≡ rows_of lives
  same_rows = ap rows_of new_lives ∙ keeps_rows s.live_left s.live_right late_left late_right two.front two.back are_left are_right ∙ ap rows_of (sym lives_are)

  apart_now : AreApart lives → AreApart (lives_now s live lives)
  apart_now apart = subst AreApart (sym new_lives) (stays_apart s.live_left s.live_right late_left late_right two.front two.back are_left are_right (subst AreApart lives_are apart))

  -- they are few
  pub few_late : length (renumbered (renumbering_of s.live_left s.live_right) late_left late_right) < 2 ^ 32
  few_late =
      let r = renumbering_of s.live_left s.live_right in
      let left_counts = counts_live m.version p (content p.data_file) (content p.delta_file) two.left two.left_has in
      let right_counts = counts_live m.version q (content q.data_file) (content q.delta_file) two.right two.right_has in
      let left_more = late_counted m.version content s.left seen.more_left s.live_left two.left rules.0.records seen.left two.left_has now.left_own now.left_known left_top now.left now.left_has in
      let right_more = late_counted m.version content s.right seen.more_right s.live_right two.right rules.1.records seen.right two.right_has now.right_own now.right_known right_top now.right now.right_has in
      omega (arith, length-append (map (of_left r) late_left) (map (of_right r) late_right), length-map late_left (of_left r), length-map late_right (of_right r), left_counts, right_counts, left_more, right_more, rules.0.records, rules.1.records)

  module _ (pair : Pair) where
    abbrev c : MergeData
    c = pairs_now seen pair

    -- THE PLACES ARE MOVED.
    pub places_now : (at : PlaceMap) → Rattle.std.specs.List.IsDistinct Rattle.std.specs.Prelude.nat_eq (map Rattle.mvo_places.specs.Places.file_of (merged_manifest m c).pairs) → ArePlaces m.pairs lives at
        → ArePlaces (merged_manifest m c).pairs (lives_now s live lives) (moved s.left.data_file s.right.data_file pair.data_file (records_of s.live_left s.live_right) at)
    places_now at differ are =
        let were : ArePlaces (seen.before ++ p ∷ q ∷ seen.behind) old_lives at =
        subst (λ (ls : List (List Numbered)). ArePlaces (seen.before ++ p ∷ q ∷ seen.behind) ls at) lives_are (subst (λ (ps : List Pair). ArePlaces ps lives at) seen.pairs are) in
        subst (λ (ls : List (List Numbered)). ArePlaces (merged_manifest m c).pairs ls (moved s.left.data_file s.right.data_file pair.data_file (records_of s.live_left s.live_right) at)) (sym new_lives)
        (places_merged seen.before seen.behind p q pair two.front two.back s.live_left s.live_right late_left late_right at two.each are_left are_right seen.apart differ were)

    -- THE NEXT MANIFEST KEEPS THE RULES.
    module _ (may : MayMergeNow m s pair (records_of s.live_left s.live_right) (length (renumbered (renumbering_of s.live_left s.live_right) late_left late_right))) where
      abbrev none : Pair
      none = record pair { entries = 0 }

      without_numbers : IsManifest (merged_manifest m (pairs_now seen none))
      without_numbers = manifest_merged m (pairs_now seen none) seen.pairs (records_of s.live_left s.live_right) (record {
        generation = may.generation;
        lo = may.lo;
        hi = may.hi;
        counted = may.counted;
        few = may.few;
        none = refl;
        data_file = may.data_file;
        delta_file = may.delta_file;
        data_unnamed = may.data_unnamed;
        delta_unnamed = may.delta_unnamed;
        two_files = may.two_files;
      }) is

      same_named : named (merged_manifest m (pairs_now seen none)) ≡ named (merged_manifest m c)
      same_named = named_merged m (pairs_now seen none) seen.pairs ∙ sym (named_merged m c seen.pairs)

      pub manifest_now : IsManifest (merged_manifest m c)
      manifest_now =
          let rules_none = without_numbers.rules in
          record {
            rules = record {
              version = rules_none.version;
              pairs = omega (arith, length-append seen.before (pair ∷ seen.behind), length-append seen.before (none ∷ seen.behind), rules_none.pairs);
              some = rules_none.some;
              segments = rules_none.segments;
              rise = rise_merged 0 m.checkpoint_mark seen.before seen.behind p q pair may.lo may.hi may.few (subst (λ (ps : List Pair). PairsRise 0 ps m.checkpoint_mark) seen.pairs is.rules.rise);
              files = subst (λ (ns : List ℕ). All IsFile ns) same_named rules_none.files;
              different = subst (λ (ns : List ℕ). AllPairs (λ x y. x ≢ y) ns) same_named rules_none.different;
            };
            generation = may.generation;
            entries = few_one seen.before seen.behind p q pair (omega (arith, may.entries, few_late)) (subst (λ (ps : List Pair). All (λ r. r.entries < 2 ^ 32) ps) seen.pairs is.entries);
          }

-- ---- one pair for the two

module _ (content : Image) (may : ℕ → List ℕ → Type 0) (m : ManifestData) (x : Parts) (s : SeenData) (pair : Pair) (settled : IsSettled content may m x) (seen : WasSeen content m s) (now : NumbersNow content m s seen) where
  abbrev parts : HasParts content m x
  parts = settled.installed.parts

  abbrev is_manifest : IsManifest m
  is_manifest = settled.installed.own.is

  abbrev lates : List ℕ
  lates = renumbered (renumbering_of s.live_left s.live_right) (drop s.left.entries now.left) (drop s.right.entries now.right)

  abbrev joined : List Numbered
  joined = live content m x.lives s is_manifest parts.live seen now

  abbrev y : Parts
  y = parts_now s joined x

  abbrev twice : HaveTwo m.version content seen.before (left_now content m s seen) (right_now content m s seen) x.lives
  twice = two_now content m s seen x.lives parts.live

  module _ (may_merge : MayMergeNow m s pair (records_of s.live_left s.live_right) (length lates)) (f : Format) (known : IsFormatUpTo LAST_FORMAT.version f) (data_file : HasRecords f content may pair (records_of s.live_left s.live_right)) (delta_file : HasLate f content may pair lates) where
    pair_loads : Loads LAST_FORMAT.version content pair joined
    pair_loads =
        loads_merged LAST_FORMAT.version f pair s.live_left s.live_right (drop s.left.entries now.left) (drop s.right.entries now.right) (content pair.data_file) (content pair.delta_file) known
        (subst (λ k. HasEntries f pair.lo.0 pair.hi.0 k (records_of s.live_left s.live_right) (content pair.data_file)) (sym may_merge.counted) data_file.has) delta_file.has

    le : m.version ≤ LAST_FORMAT.version
    le = up_to_last m is_manifest

    live_now : HaveLive LAST_FORMAT.version content (seen.before ++ pair ∷ seen.behind) y.lives
    live_now =
        subst (λ (ls : List (List Numbered)). HaveLive LAST_FORMAT.version content (seen.before ++ pair ∷ seen.behind) ls) (sym (new_lives content m x.lives s is_manifest parts.live seen now))
        (have_one LAST_FORMAT.version content seen.before seen.behind (left_now content m s seen) (right_now content m s seen) pair twice.front twice.back twice.left twice.right joined twice.each
        (live_later m.version LAST_FORMAT.version le content (seen.before ++ left_now content m s seen ∷ right_now content m s seen ∷ seen.behind) (twice.front ++ twice.left ∷ twice.right ∷ twice.back) (subst (λ (ls : List (List Numbered)). HaveLive m.version content (seen.before ++ left_now content m s seen ∷ right_now content m s seen ∷ seen.behind) ls) twice.are (subst (λ (ps : List Pair). HaveLive m.version content ps x.lives) seen.pairs parts.live))) pair_loads)

    pub ready_now : IsReady content may (merged_manifest m (pairs_now seen pair)) y
    ready_now = record {
      parts = record {
        sealed_files = parts.sealed_files;
        last_file = parts.last_file;
        segments = parts.segments;
        live = live_now;
        distinct = apart_now content m x.lives s is_manifest parts.live seen now parts.distinct;
        sealed = sealed_later m.version LAST_FORMAT.version le content parts.sealed_files m.checkpoint_mark x.sealed x.middle parts.sealed;
        last = segment_later m.version LAST_FORMAT.version le x.middle Last x.last (content parts.last_file) parts.last;
      };
      durable = λ n has. named_cases m (pairs_now seen pair) seen.pairs n has (λ k. Only (content k) (may k)) (λ old. settled.durable n (inr old)) data_file.durable delta_file.durable;
    }

    pub same_now : MakeUpSame x y
    same_now = record {
      rows = ap (λ (r : Map). after_groups r (x.sealed ++ x.last)) (same_rows content m x.lives s is_manifest parts.live seen now);
      mark = refl;
    }
