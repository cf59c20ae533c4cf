-- Each row of a snapshot has its place in the ordered index, and a scan meets the keys that count.
use Rattle.std.proofs.Common.{◌≡◌, ℕ, true, Option, None, Some, refl, sym, ap, ◌∙◌}
use Rattle.std.specs.Prelude.{is_some}
use Rattle.std.specs.Option.{option_map}
use Rattle.std.specs.FinMap as fin
use Rattle.std.specs.Cmp.{eq_by_cmp_equiv}
use Rattle.mvo_types.specs.declared.row.RowKey.{RowKey}
use Rattle.mvo_types.specs.RowData.{ContentData, content_of}
use Rattle.mvo_types.specs.declared.entry.Entry.TheVariants.{Range}
use Rattle.mvo_theory.specs.Ranges.{shows, is_row_of}
use Rattle.mvo_theory.specs.State.{State, ActiveTx, active_of, snapshot}
use Rattle.mvo_theory.specs.Dependencies.{counts_for}
use Rattle.mvo_theory.specs.Sound.{IsSound, IsStarted}
use Rattle.mvo_chain.specs.declared.version.Version.{Version}
use Rattle.mvo_chain.specs.declared.version.VersionNo.{VersionNo}
use Rattle.mvo_chain.specs.Slots.{Slots}
use Rattle.mvo_hash.specs.Lists.{Lists}
use Rattle.mvo_range.specs.Place.{PlaceNumbers as Places}
use Rattle.mvo_range.proofs.Places.{places_total}
use Rattle.mvo_visible.specs.Words.{States}
use Rattle.mvo_visible.specs.Versions.{versions_at}
use Rattle.mvo_visible.specs.Shown.{shown_to}
use Rattle.mvo_representation.specs.Words.{ends_of, is_met}
use Rattle.mvo_representation.specs.Versions.{AreVersionsOf}
use Rattle.mvo_representation.specs.Indexes.{all_versions, HasNumbers, version_place, is_at_place, HasPlaces}
use Rattle.mvo_representation.specs.Table.{phases_of, content_shown, place_with}
use Rattle.mvo_representation.proofs.ShownTo.{shown_is}
use Rattle.mvo_representation.proofs.MayEnd.{shown_as}
use Rattle.mvo_representation.proofs.RangeCheckedBy.{any_slot, iff}
use Rattle.mvo_representation.proofs.Scanned.{met_counts, counts_met}

pub none_content : (h : ContentData) → ◌≡◌ {A = Option ContentData} None (Some h) → ⊥
none_content h q = cc

some_content : (g h : ContentData) → ◌≡◌ {A = Option ContentData} (Some g) (Some h) → g ≡ h
some_content g h q = cc

pub row_placed : (s : State) (states : States) (slots : Slots) (lists : Lists) (places : Places) (r : ActiveTx) (k : RowKey) (h : ContentData) → IsSound s → IsStarted s → AreVersionsOf s (phases_of states) (all_versions slots) → HasNumbers slots lists → HasPlaces (all_versions slots) places → active_of r.id s.active ≡ Some r → fin.get (snapshot s r.id) k ≡ Some h → is_some (fin.get places (place_with k h)) ≡ true
row_placed s states slots lists places r k h sd st vs ns ps f e = go (shown_to states r.id r.id (versions_at slots lists k)).version refl
  where
    shown : content_shown slots (shown_to states r.id r.id (versions_at slots lists k)).version ≡ Some h
    shown = shown_is s states slots lists r.id r k sd st vs ns f ∙ e

    go : (n : Option VersionNo) → (shown_to states r.id r.id (versions_at slots lists k)).version ≡ n → is_some (fin.get places (place_with k h)) ≡ true
    go None q = absurd (none_content h (sym (ap (content_shown slots) q) ∙ shown))
    go (Some n) q =
        let w = shown_as s states slots lists r.id r k n vs ns f q in
        let content : content_of w.version.row ≡ h = some_content (content_of w.version.row) h (sym (ap (option_map (λ (v : Version). content_of v.row)) w.at) ∙ sym (ap (content_shown slots) q) ∙ shown) in
        ap (λ (j : RowKey). is_some (fin.get places (place_with j h))) (sym w.key)
        ∙ ap (λ (g : ContentData). is_some (fin.get places (place_with w.version.row.key g))) (sym content)
        ∙ ps.at (version_place w.version)
        ∙ any_slot (is_at_place (version_place w.version)) slots n.0 w.version w.at ((eq_by_cmp_equiv places_total).refl (version_place w.version))

pub met_is : (s : State) (states : States) (slots : Slots) (r : ActiveTx) (tab lo hi : ℕ) (q : RowKey) → IsSound s → IsStarted s → AreVersionsOf s (phases_of states) (all_versions slots) → active_of r.id s.active ≡ Some r → is_met (ends_of (phases_of states)) s.start r.id (is_row_of (shows (Range tab lo hi)) q) (all_versions slots) ≡ counts_for (Range tab lo hi) q r.id s.base s.stamped
met_is s states slots r tab lo hi q sd st vs f =
    iff (is_met (ends_of (phases_of states)) s.start r.id (is_row_of (shows (Range tab lo hi)) q) (all_versions slots)) (counts_for (Range tab lo hi) q r.id s.base s.stamped)
    (met_counts s (phases_of states) (all_versions slots) r.id tab lo hi q vs)
    (counts_met s (phases_of states) (all_versions slots) r.id r tab lo hi q sd st vs f)
