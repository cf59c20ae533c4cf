-- Runs of steps beside a merge that writes its files.
use Rattle.std.proofs.Common.{◌≡◌, ◌≢◌, inr, ℕ, ◌+◌, ◌<◌, List, refl, sym, subst, ◌∙◌}
use Rattle.std.specs.Prelude.{⊤}
use Rattle.std.specs.List.{Contains, flat_map}
use Rattle.mvo_types.specs.Keys.{Map}
use Rattle.mvo_disk.specs.Disk.{Image, AllOf, Moment}
use Rattle.mvo_disk.specs.Moments.{started, runs_on}
use Rattle.mvo_format.specs.declared.format.Format.{Format}
use Rattle.mvo_pair.specs.Files.{HasDeadNumbers}
use Rattle.mvo_format.specs.Formats.{IsFormatUpTo}
use Rattle.mvo_manifest.specs.Data.{ManifestData, named, pair_files}
use Rattle.mvo_manifest.specs.Rules.{IsManifest}
use Rattle.mvo_recovery.specs.image.Files.{GivesRows}
use Rattle.mvo_recovery.specs.Parts.{Parts, rows_of_parts, mark_of_parts, MakeUpSame}
use Rattle.mvo_recovery.specs.Settled.{other_slot, IsSettled, GivesParts}
use Rattle.mvo_recovery.proofs.Named.{pairs_named, named_is_no_slot, slot_below}
use Rattle.mvo_recovery.proofs.Framed.{settled_gives, settled_others}
use Rattle.mvo_recovery.proofs.Appended.{all_durable}
use Rattle.mvo_recovery.proofs.Gained.{live_counted, installed_counted}
use Rattle.mvo_recovery.proofs.Moments.{moments_unused, moments_numbers}
use Rattle.mvo_recovery.specs.beside.Seen.{SeenData, WasSeen}
use Rattle.mvo_recovery.specs.beside.Runs.{WritesUnused, WritesNumbers, WritesSlot, InstallsCheckpoint, IsMove, Unused, Numbers, Slot, Installs, Rests, Goes, KeepsAll, RunsKeepAll}
use Rattle.mvo_recovery.proofs.beside.Numbers.{counted_stay}
use Rattle.mvo_recovery.proofs.beside.Seen.{seen_stays, seen_beside_numbers, seen_beside_install}

same_again : (x : Parts) → MakeUpSame x x
same_again x = record { rows = refl; mark = refl }

same_on : (x y z : Parts) → MakeUpSame x y → MakeUpSame y z → MakeUpSame x z
same_on x y z one two = record { rows = two.rows ∙ one.rows; mark = two.mark ∙ one.mark }

-- what gives the one gives the other
same_gives : (x y : Parts) (image : Image) → MakeUpSame x y → GivesParts y image → GivesParts x image
same_gives x y image same gives = subst (λ (rows : Map). GivesRows image rows (mark_of_parts x)) same.rows (subst (λ mark. GivesRows image (rows_of_parts y) mark) same.mark gives)

module _ {D : Type 0} (moment : D → Moment) (left_since : D → Moment → Image → Type 0) (content : D → Image) (may : D → ℕ → List ℕ → Type 0) (only_now : (d : D) (image : Image) → left_since d (moment d) image → AllOf (may d) image) where
  abbrev Keeps : SeenData → D → Parts → D → ManifestData → Parts → Type 0
  Keeps s a x b n y = KeepsAll moment left_since content may s a x b n y

  module _ (s : SeenData) (a : D) (m : ManifestData) (x : Parts) (settled : IsSettled (content a) (may a) m x) (seen : WasSeen (content a) m s) where
    is : IsManifest m
    is = settled.installed.own.is

    -- no pair's file is a slot
    no_slot : (n : ℕ) → Contains (flat_map pair_files m.pairs) n → n ≢ other_slot m
    no_slot n has e = named_is_no_slot m n is (pairs_named m n has) (subst (λ k. k < 2) (sym e) (slot_below (m.generation + 1)))

    unused_keeps : (b : D) → WritesUnused moment left_since content may a m b → Keeps s a x b m x
    unused_keeps b w = record {
      settled = settled_others (content a) (content b) (may a) (may b) m x w.file w.unused w.rest settled;
      seen = seen_stays (content a) (content b) m s (λ n has. w.rest.content n (λ e. w.unused (inr (subst (Contains (named m)) e (pairs_named m n has))))) seen;
      same = same_again x;
      gives = moments_unused moment left_since content may a b m x settled w.file (λ _. ⊤) w.unused w.touched;
    }

    numbers_keep : (b : D) → WritesNumbers moment left_since content may a m b → Keeps s a x b m x
    numbers_keep b w =
        let p = w.pair in
        let stays : (own : Format) → IsFormatUpTo m.version own → (ns : List ℕ) → HasDeadNumbers own.version p.records p.entries ns (content a p.delta_file) → HasDeadNumbers own.version p.records p.entries ns (content b p.delta_file) =
        λ own known. counted_stay own.version p.records p.entries w.more (content a p.delta_file) (content b p.delta_file) w.gains (w.follow own known) in
        let others : (n : ℕ) → Contains (named m) n → n ≢ p.delta_file → content b n ≡ content a n = λ n has ne. w.rest.content n ne in
        let live = live_counted m.version (content a) (content b) m is p w.has others x.lives stays settled.installed.parts.live in
        record {
          settled = record {
            installed = installed_counted (content a) (content b) m x p w.has (λ n used. w.rest.content n used.1) settled.installed live;
            durable = all_durable (content a) (content b) (may a) (may b) p.delta_file w.rest m x settled w.durable;
          };
          seen = seen_beside_numbers (content a) (content b) m s p w.more x.lives is settled.installed.parts.live w.has others w.gains w.follow seen;
          same = same_again x;
          gives = moments_numbers moment left_since content may a b m x settled p w.has w.keeps;
        }

    slot_keeps : (b : D) → WritesSlot moment left_since content may a m x b → Keeps s a x b m x
    slot_keeps b w = record {
      settled = w.settled;
      seen = seen_stays (content a) (content b) m s (λ n has. w.rest.content n (no_slot n has)) seen;
      same = same_again x;
      gives = w.gives;
    }

    install_keeps : (b : D) (n : ManifestData) (y : Parts) → InstallsCheckpoint moment left_since content may a m x b n y → Keeps s a x b n y
    install_keeps b n y w = record {
      settled = w.settled;
      seen = seen_beside_install (content b) m n s w.numbers w.pair w.version w.pairs (seen_stays (content a) (content b) m s (λ k has. w.rest.content k (no_slot k has)) seen);
      same = w.same;
      gives = w.gives;
    }

    move_keeps : (b : D) (n : ManifestData) (y : Parts) → IsMove moment left_since content may a m x b n y → Keeps s a x b n y
    move_keeps b n y (Unused _ w) = unused_keeps b w
    move_keeps b n y (Numbers _ w) = numbers_keep b w
    move_keeps b n y (Slot _ w) = slot_keeps b w
    move_keeps b n y (Installs _ _ _ w) = install_keeps b n y w

  -- OVER EACH RUN the rows stay, at every moment of it, and what the merge saw stays.
  pub runs_keep : RunsKeepAll moment left_since content may
  runs_keep s a m x settled seen b n y Rests = record {
    settled = settled;
    seen = seen;
    same = same_again x;
    gives = started moment left_since a (GivesParts x) (λ image left. settled_gives (content a) (may a) m x settled image (only_now a image left));
  }
  runs_keep s a m x settled seen b n y (Goes c _ k _ z _ moves move) =
      let one = runs_keep s a m x settled seen c k z moves in
      let two = move_keeps s c k z one.settled one.seen b n y move in
      record {
        settled = two.settled;
        seen = two.seen;
        same = same_on x z y one.same two.same;
        gives = runs_on moment left_since a c b (GivesParts x) (GivesParts z) one.gives two.gives (λ image g. same_gives x z image one.same g);
      }
