-- Who isn't in the table is shown what the others show.
use Rattle.std.proofs.Common.{◌≡◌, ℕ, Bool, false, ◌||◌, List, [], ◌∷◌, None, map, refl, ap, ◌∙◌}
use Rattle.std.specs.List.{AllByRecursion, list_any}
use Rattle.mvo_types.specs.declared.row.RowKey.{RowKey}
use Rattle.mvo_types.specs.Keys.{Map}
use Rattle.mvo_theory.specs.State.{State}
use Rattle.mvo_chain.specs.Slots.{Slots}
use Rattle.mvo_hash.specs.Lists.{Lists, number, numbers_of}
use Rattle.mvo_range.specs.Place.{PlaceNumbers as Places}
use Rattle.mvo_visible.specs.Words.{States, names}
use Rattle.mvo_visible.specs.Versions.{NumberedVersion, versions_at, is_own, own_newest}
use Rattle.mvo_visible.specs.Changes.{changes_of, deciding}
use Rattle.mvo_visible.specs.Shown.{own_or, shown_by, shown_to, HasOwnInFront}
use Rattle.mvo_representation.specs.Laws.{VersionsStandFor}
use Rattle.mvo_representation.proofs.DependsOn.{each_numbered}
use Rattle.mvo_representation.proofs.OrderAborts.{absent_is_unnamed}

abbrev IsUnnamedHere : ℕ → NumberedVersion → Type 0
IsUnnamedHere n e = (names n e.1.begin ≡ false) × (names n e.1.end ≡ false)

none_own : (n : ℕ) (vs : List NumberedVersion) → AllByRecursion (IsUnnamedHere n) vs → list_any (is_own n) vs ≡ false
none_own n [] h = refl
none_own n (e ∷ es) h =
    ap (λ (b : Bool). (b || names n e.1.end) || list_any (is_own n) es) h.0.0
    ∙ ap (λ (b : Bool). (false || b) || list_any (is_own n) es) h.0.1
    ∙ none_own n es h.1

own_in_front : (states : States) (b n : ℕ) (vs : List NumberedVersion) → AllByRecursion (IsUnnamedHere n) vs → HasOwnInFront states b n vs
own_in_front states b n [] h = tt
own_in_front states b n (e ∷ es) h = (λ s q lt. none_own n es h.1, own_in_front states b n es h.1)

module _ (opening : Map) (s : State) (states : States) (slots : Slots) (lists : Lists) (places : Places) (n b : ℕ) (k : RowKey) (h : VersionsStandFor opening s states slots lists places) (absent : states n ≡ None) where
  unnamed : AllByRecursion (IsUnnamedHere n) (versions_at slots lists k)
  unnamed = each_numbered (λ v. (names n v.begin ≡ false) × (names n v.end ≡ false)) slots (map number (numbers_of lists k)) (absent_is_unnamed opening s states slots lists places n h absent)

  pub shown_others : shown_to states b n (versions_at slots lists k) ≡ shown_by (deciding b (changes_of states (versions_at slots lists k)))
  shown_others = ap (λ (own : Bool). own_or own (own_newest n (versions_at slots lists k)) (deciding b (changes_of states (versions_at slots lists k)))) (none_own n (versions_at slots lists k) unnamed)

  pub none_in_front : HasOwnInFront states b n (versions_at slots lists k)
  none_in_front = own_in_front states b n (versions_at slots lists k) unnamed
