-- What others show to an Active transaction at a key.
use Rattle.std.proofs.Common.{◌≡◌, ℕ, Bool, true, false, cond, List, [], ◌∷◌, Option, None, Some, refl, sym, ap, ◌∙◌}
use Rattle.std.specs.Option.{option_map, option_or}
use Rattle.std.proofs.lemmas.Map.Views.{tells_apart}
use Rattle.mvo_types.proofs.Maps.{exact_keys}
use Rattle.std.specs.FinMap as fin
use Rattle.std.specs.Cmp.{eq_by_cmp_equiv}
use Rattle.std.specs.Prelude.{is_some}
use Rattle.mvo_types.specs.declared.row.RowKey.{RowKey}
use Rattle.mvo_types.specs.RowData.{RowData, ContentData, content_of, row_with}
use Rattle.mvo_types.specs.Keys.{row_at}
use Rattle.mvo_types.specs.Write.{Effect}
use Rattle.mvo_model.specs.History.{net_write}
use Rattle.mvo_model.specs.Serial.{scan}
use Rattle.mvo_theory.specs.State.{State, ActiveTx, active_of, seen_by}
use Rattle.mvo_theory.specs.Claims.{origin}
use Rattle.mvo_theory.specs.Sound.{IsSound, IsStarted}
use Rattle.mvo_word.specs.declared.held.Held.{Held}
use Rattle.mvo_chain.specs.declared.version.Version.{Version}
use Rattle.mvo_chain.specs.declared.version.VersionNo.{VersionNo}
use Rattle.mvo_chain.specs.Slots.{Slots, version_at}
use Rattle.mvo_hash.specs.Lists.{Lists}
use Rattle.mvo_range.specs.Place.{PlaceNumbers as Places}
use Rattle.mvo_range.proofs.Places.{places_total}
use Rattle.mvo_visible.specs.Words.{States}
use Rattle.mvo_visible.specs.Versions.{NumberedVersion, versions_at, own_newest}
use Rattle.mvo_visible.specs.Changes.{changes_of, greatest_below, done_with, deciding}
use Rattle.mvo_visible.specs.Shown.{shown_by, own_or, shown_to}
use Rattle.mvo_representation.specs.Words.{ends_of, has_stamp, NetEffect, net_effect, change_below, standing, row_in, content_put, is_clash}
use Rattle.mvo_representation.specs.Words.NetEffect.{Untouched, Removed, Puts, Clash}
use Rattle.mvo_representation.specs.Versions.{AreVersionsOf}
use Rattle.mvo_representation.specs.Indexes.{all_versions, HasNumbers, version_place, is_at_place, HasPlaces}
use Rattle.mvo_representation.specs.Table.{phases_of, content_shown, place_with}
use Rattle.mvo_representation.proofs.Shown.{active_begins, behind_is, stands_below, row_of_standing}
use Rattle.mvo_representation.proofs.ShownTo.{of_key, there, AreThere, below_keyed}
use Rattle.mvo_representation.proofs.MayEnd.{own_is}
use Rattle.mvo_representation.proofs.RangeCheckedBy.{any_slot}
use Rattle.mvo_representation.proofs.Version.{clash_in, no_clash}
use Rattle.mvo_standing.specs.Scans.{row_of_version, rows_of_places, places_of_range, others_shown}
use Rattle.mvo_standing.proofs.Scans.{rows_are_scan}
use Rattle.mvo_representation.proofs.Decided.{is_put_by, first_put, number_of, version_first, AreOfKey, unnumbered, content_of_first, content_first, last_of_versions}

content_found : (slots : Slots) (n : Held → Bool) (vs : List NumberedVersion) → AreThere slots vs → content_shown slots (number_of (first_put n vs)) ≡ content_of_first (first_put n vs)
content_found slots n [] h = refl
content_found slots n (e ∷ es) h = go (is_put_by n e) (content_found slots n es h.1)
  where
    go : (b : Bool) → content_shown slots (number_of (first_put n es)) ≡ content_of_first (first_put n es) → content_shown slots (number_of (option_or (cond b (Some e) None) (first_put n es))) ≡ content_of_first (option_or (cond b (Some e) None) (first_put n es))
    go true r = ap (option_map (λ v. content_of v.row)) h.0
    go false r = r

row_put : (s : ℕ) (d : NetEffect) → row_in (Some (s, d)) ≡ content_put d
row_put s Untouched = refl
row_put s Removed = refl
row_put s (Puts h) = refl
row_put s Clash = refl

clash_standing : (s : ℕ) (d : NetEffect) → clash_in (standing (Some (s, d))) ≡ is_clash d
clash_standing s Untouched = refl
clash_standing s Removed = refl
clash_standing s (Puts h) = refl
clash_standing s Clash = refl

-- no two puts stand below b
abbrev HasNoClash : States → ℕ → RowKey → List Version → Type 0
HasNoClash states b k vs = (p : ℕ × NetEffect) → change_below (ends_of (phases_of states)) b k vs ≡ Some p → is_clash p.1 ≡ false

-- the deciding change below b shows what stands there
others_row : (states : States) (slots : Slots) (b : ℕ) (k : RowKey) (vs : List NumberedVersion) → AreOfKey k vs → AreThere slots vs → HasNoClash states b k (unnumbered vs) → content_shown slots (shown_by (deciding b (changes_of states vs))).version ≡ row_in (change_below (ends_of (phases_of states)) b k (unnumbered vs))
others_row states slots b k vs of th clear = go (greatest_below b (changes_of states vs)) refl
  where
    effect_with : ℕ → NetEffect
    effect_with s = net_effect (has_stamp (ends_of (phases_of states)) s) k (unnumbered vs)

    last : (w : Option ℕ) → greatest_below b (changes_of states vs) ≡ w → change_below (ends_of (phases_of states)) b k (unnumbered vs) ≡ option_map (λ s. (s, effect_with s)) w
    last w e = last_of_versions states b k vs of ∙ ap (option_map (λ s. (s, effect_with s))) e

    go : (w : Option ℕ) → greatest_below b (changes_of states vs) ≡ w → content_shown slots (shown_by (deciding b (changes_of states vs))).version ≡ row_in (change_below (ends_of (phases_of states)) b k (unnumbered vs))
    go None e =
        ap (λ w. content_shown slots (shown_by (option_map (done_with (changes_of states vs)) w)).version) e
        ∙ sym (ap row_in (last None e))
    go (Some s) e =
        ap (λ w. content_shown slots (shown_by (option_map (done_with (changes_of states vs)) w)).version) e
        ∙ ap (content_shown slots) (version_first states s vs)
        ∙ content_found slots (has_stamp (ends_of (phases_of states)) s) vs th
        ∙ sym (content_first (has_stamp (ends_of (phases_of states)) s) k vs of (clear (s, effect_with s) (last (Some s) e)))
        ∙ sym (ap row_in (last (Some s) e) ∙ row_put s (effect_with s))

module _ (s : State) (states : States) (slots : Slots) (lists : Lists) (r : ActiveTx) (k : RowKey) (sound : IsSound s) (started : IsStarted s)
    (h : AreVersionsOf s (phases_of states) (all_versions slots)) (numbers : HasNumbers slots lists) (found : active_of r.id s.active ≡ Some r) where
  stands : standing (change_below (ends_of (phases_of states)) r.id k (all_versions slots)) ≡ option_map (λ c. (origin s r.id k, Puts c)) (fin.get (seen_by s.base s.stamped r.id) k)
  stands = stands_below s (phases_of states) (all_versions slots) r.id k sound started h (active_begins s (phases_of states) (all_versions slots) r.id r sound h found) (behind_is s (phases_of states) (all_versions slots) r.id r h found)

  clear : HasNoClash states r.id k (unnumbered (versions_at slots lists k))
  clear p e =
      sym (clash_standing p.0 p.1)
      ∙ ap (λ c. clash_in (standing c)) (sym (below_keyed states slots lists k r.id numbers ∙ e))
      ∙ ap clash_in stands
      ∙ no_clash (origin s r.id k) (fin.get (seen_by s.base s.stamped r.id) k)

  pub others_show : content_shown slots (shown_by (deciding r.id (changes_of states (versions_at slots lists k)))).version ≡ fin.get (seen_by s.base s.stamped r.id) k
  others_show =
      others_row states slots r.id k (versions_at slots lists k) (of_key slots lists k numbers) (there slots lists k) clear
      ∙ ap row_in (sym (below_keyed states slots lists k r.id numbers))
      ∙ row_of_standing (change_below (ends_of (phases_of states)) r.id k (all_versions slots)) (origin s r.id k) (fin.get (seen_by s.base s.stamped r.id) k) stands

-- ---- where they stand in the order of sorts
none_content : (h : ContentData) → ◌≡◌ {A = Option ContentData} None (Some h) → ⊥
none_content h q = cc

some_content : (g h : ContentData) → ◌≡◌ {A = Option ContentData} (Some g) (Some h) → g ≡ h
some_content g h q = cc

none_number : (n : VersionNo) → ◌≡◌ {A = Option VersionNo} None (Some n) → ⊥
none_number n q = cc

some_number : (m n : VersionNo) → ◌≡◌ {A = Option VersionNo} (Some m) (Some n) → m ≡ n
some_number m n q = cc

-- a version of the key stands at the number
record StandsAt (slots : Slots) (k : RowKey) (n : VersionNo) : Type 0 where
  version : Version
  at : version_at slots n ≡ Some version
  key : version.row.key ≡ k

first_stands : (slots : Slots) (k : RowKey) (n : Held → Bool) (number : VersionNo) (vs : List NumberedVersion) → AreOfKey k vs → AreThere slots vs → number_of (first_put n vs) ≡ Some number → StandsAt slots k number
first_stands slots k n number [] of th e = absurd (none_number number e)
first_stands slots k n number (v ∷ vs) of th e = go (is_put_by n v) e (λ q. first_stands slots k n number vs of.1 th.1 q)
  where
    go : (b : Bool) → number_of (option_or (cond b (Some v) None) (first_put n vs)) ≡ Some number → (number_of (first_put n vs) ≡ Some number → StandsAt slots k number) → StandsAt slots k number
    go true q again = record { version = v.1; at = ap (version_at slots) (sym (some_number v.0 number q)) ∙ th.0; key = sym (tells_apart exact_keys k v.1.row.key of.0) }
    go false q again = again q

module _ (s : State) (states : States) (slots : Slots) (lists : Lists) (places : Places) (r : ActiveTx) (k : RowKey) (h : ContentData) (sound : IsSound s) (started : IsStarted s)
    (versions : AreVersionsOf s (phases_of states) (all_versions slots)) (numbers : HasNumbers slots lists) (order : HasPlaces (all_versions slots) places) (found : active_of r.id s.active ≡ Some r)
    (row : fin.get (seen_by s.base s.stamped r.id) k ≡ Some h) where
  abbrev here : List NumberedVersion
  here = versions_at slots lists k

  shown : content_shown slots (shown_by (deciding r.id (changes_of states here))).version ≡ Some h
  shown = others_show s states slots lists r k sound started versions numbers found ∙ row

  placed_by : (n : VersionNo) → content_shown slots (Some n) ≡ Some h → StandsAt slots k n → is_some (fin.get places (place_with k h)) ≡ true
  placed_by n e w =
      let content : content_of w.version.row ≡ h = some_content (content_of w.version.row) h (sym (ap (option_map (λ (v : Version). content_of v.row)) w.at) ∙ e) in
      ap (λ (j : RowKey). is_some (fin.get places (place_with j h))) (sym w.key)
      ∙ ap (λ (g : ContentData). is_some (fin.get places (place_with w.version.row.key g))) (sym content)
      ∙ order.at (version_place w.version)
      ∙ any_slot (is_at_place (version_place w.version)) slots n.0 w.version w.at ((eq_by_cmp_equiv places_total).refl (version_place w.version))

  pub others_placed : is_some (fin.get places (place_with k h)) ≡ true
  others_placed = go (greatest_below r.id (changes_of states here)) refl
    where
      first : (m : ℕ) (o : Option VersionNo) → number_of (first_put (has_stamp (ends_of (phases_of states)) m) here) ≡ o → content_shown slots o ≡ Some h → is_some (fin.get places (place_with k h)) ≡ true
      first m None e q = absurd (none_content h q)
      first m (Some n) e q = placed_by n q (first_stands slots k (has_stamp (ends_of (phases_of states)) m) n here (of_key slots lists k numbers) (there slots lists k) e)

      go : (w : Option ℕ) → greatest_below r.id (changes_of states here) ≡ w → is_some (fin.get places (place_with k h)) ≡ true
      go None e = absurd (none_content h (sym (ap (λ w. content_shown slots (shown_by (option_map (done_with (changes_of states here)) w)).version) e) ∙ shown))
      go (Some m) e =
          first m (number_of (first_put (has_stamp (ends_of (phases_of states)) m) here)) refl
          (ap (content_shown slots) (sym (version_first states m here))
          ∙ sym (ap (λ w. content_shown slots (shown_by (option_map (done_with (changes_of states here)) w)).version) e)
          ∙ shown)

-- ---- the scan of what others show
module _ (s : State) (states : States) (slots : Slots) (lists : Lists) (places : Places) (r : ActiveTx) (sound : IsSound s) (started : IsStarted s)
    (versions : AreVersionsOf s (phases_of states) (all_versions slots)) (numbers : HasNumbers slots lists) (order : HasPlaces (all_versions slots) places) (found : active_of r.id s.active ≡ Some r) where
  -- a version of the key stands where others show one
  others_stand : (k : RowKey) (n : VersionNo) → others_shown states slots lists r.id k ≡ Some n → StandsAt slots k n
  others_stand k n e = go (greatest_below r.id (changes_of states (versions_at slots lists k))) refl
    where
      go : (w : Option ℕ) → greatest_below r.id (changes_of states (versions_at slots lists k)) ≡ w → StandsAt slots k n
      go None q = absurd (none_number n (sym (ap (λ w. (shown_by (option_map (done_with (changes_of states (versions_at slots lists k))) w)).version) q) ∙ e))
      go (Some m) q =
          first_stands slots k (has_stamp (ends_of (phases_of states)) m) n (versions_at slots lists k) (of_key slots lists k numbers) (there slots lists k)
          (sym (version_first states m (versions_at slots lists k)) ∙ sym (ap (λ w. (shown_by (option_map (done_with (changes_of states (versions_at slots lists k))) w)).version) q) ∙ e)

  others_row_is : (k : RowKey) → row_of_version slots (others_shown states slots lists r.id k) ≡ row_at (seen_by s.base s.stamped r.id) k
  others_row_is k = go (others_shown states slots lists r.id k) refl
    where
      content : content_shown slots (others_shown states slots lists r.id k) ≡ fin.get (seen_by s.base s.stamped r.id) k
      content = others_show s states slots lists r k sound started versions numbers found

      with_key : (v : Version) → v.row.key ≡ k → v.row ≡ row_with k (content_of v.row)
      with_key v e = ap (λ (j : RowKey). row_with j (content_of v.row)) e

      go : (o : Option VersionNo) → others_shown states slots lists r.id k ≡ o → row_of_version slots o ≡ row_at (seen_by s.base s.stamped r.id) k
      go None q = ap (option_map (row_with k)) (sym (ap (content_shown slots) q) ∙ content)
      go (Some n) q =
          let w = others_stand k n q in
          ap (option_map (λ (v : Version). v.row)) w.at
          ∙ ap (λ (z : RowData). Some z) (with_key w.version w.key)
          ∙ ap (option_map (row_with k)) (sym (ap (option_map (λ (v : Version). content_of v.row)) w.at) ∙ sym (ap (content_shown slots) q) ∙ content)

  pub others_scanned : (table lo hi : ℕ) → rows_of_places slots (others_shown states slots lists r.id) (places_of_range places table lo hi) ≡ scan (seen_by s.base s.stamped r.id) table lo hi
  others_scanned table lo hi = rows_are_scan slots places (others_shown states slots lists r.id) (seen_by s.base s.stamped r.id) table lo hi (record {
    rows = others_row_is;
    placed = λ k h row. others_placed s states slots lists places r k h sound started versions numbers order found row;
  })

-- ---- who didn't write the key is shown what the others show
pub unwritten_shown : (s : State) (states : States) (slots : Slots) (lists : Lists) (r : ActiveTx) (k : RowKey) → AreVersionsOf s (phases_of states) (all_versions slots) → HasNumbers slots lists → active_of r.id s.active ≡ Some r → net_write k r.history ≡ None
    → shown_to states r.id r.id (versions_at slots lists k) ≡ shown_by (deciding r.id (changes_of states (versions_at slots lists k)))
unwritten_shown s states slots lists r k h numbers found none =
    ap (λ (b : Bool). own_or b (own_newest r.id (versions_at slots lists k)) (deciding r.id (changes_of states (versions_at slots lists k))))
    (own_is s states slots lists r.id r k h numbers found ∙ ap (λ (w : Option Effect). is_some w) none)
