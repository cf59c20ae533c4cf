-- A version that goes in front of the others of its key.
use Rattle.std.proofs.Common.{◌≡◌, ℕ, Bool, true, false, cond, eqb, List, [], ◌∷◌, map, Option, None, Some, refl, sym, ap, ◌∙◌, subst, inl, inr}
use Rattle.std.proofs.lemmas.Bool.{cases_Bool, eqb-false, or_parts}
use Rattle.std.specs.List.{AllByRecursion}
use Rattle.std.specs.Option.{option_map}
use Rattle.std.specs.Ordering.{eq_by_cmp}
use Rattle.mvo_types.specs.declared.row.RowKey.{RowKey}
use Rattle.mvo_types.specs.Keys.{key_cmp}
use Rattle.mvo_chain.specs.declared.version.Version.{Version}
use Rattle.mvo_chain.specs.declared.version.VersionNo.{VersionNo}
use Rattle.mvo_chain.specs.Slots.{Slots, version_at}
use Rattle.mvo_hash.specs.Lists.{Lists, number, numbers_of, is_among, with_numbers, without_number}
use Rattle.mvo_hash.proofs.Unlinks.{without_here, without_there}
use Rattle.mvo_hash.proofs.Views.{numbers_put}
use Rattle.mvo_visible.specs.declared.seen.Seen.{Seen}
use Rattle.mvo_visible.specs.Words.{States, seen_of}
use Rattle.mvo_visible.specs.Versions.{NumberedVersion, and_version, versions_by, versions_at}
use Rattle.mvo_visible.specs.Shown.{HasFallingStamps, HasOwnInFront}
use Rattle.mvo_visible.specs.Fronts.{IsUnsettled, IsUnsettledAt}
use Rattle.mvo_visible.specs.Laws.{SlotsDifferAt, NewKeepsOrder, FrontKeepsOrder, LessKeepsOrder, UnheldKeepsOrder, AlikeKeepsOrder, seen_both}
use Rattle.mvo_visible.proofs.Behind.{Behind, AreUnder, IsUnder, IsOthersBelow, from_falling, to_falling, from_front, to_front}

-- the versions with these numbers
abbrev pub versions : Slots → List ℕ → List NumberedVersion
versions slots ns = versions_by slots (map number ns)

module _ (states : States) (slots : Slots) (Q : ℕ → NumberedVersion → Type 0) where
  all_and : (s : ℕ) (m : VersionNo) (o : Option Version) (vs ws : List NumberedVersion) → (AllByRecursion (Q s) vs → AllByRecursion (Q s) ws) → AllByRecursion (Q s) (and_version m o vs) → AllByRecursion (Q s) (and_version m o ws)
  all_and s m None vs ws f a = f a
  all_and s m (Some v) vs ws f a = (a.0, f a.1)

  all_rest : (s : ℕ) (m : VersionNo) (o : Option Version) (vs : List NumberedVersion) → AllByRecursion (Q s) (and_version m o vs) → AllByRecursion (Q s) vs
  all_rest s m None vs a = a
  all_rest s m (Some v) vs a = a.1

  all_without : (s n : ℕ) (ns : List ℕ) → AllByRecursion (Q s) (versions slots ns) → AllByRecursion (Q s) (versions slots (without_number n ns))
  all_without s n [] a = a
  all_without s n (m ∷ ns) a =
      elim (cases_Bool (eqb n m)) [
        | inl e ↦
            subst (λ ms. AllByRecursion (Q s) (versions slots ms)) (sym (without_here n m ns e))
            (all_without s n ns (all_rest s (number m) (version_at slots (number m)) (versions slots ns) a))
        | inr f ↦
            subst (λ ms. AllByRecursion (Q s) (versions slots ms)) (sym (without_there n m ns f))
            (all_and s (number m) (version_at slots (number m)) (versions slots ns) (versions slots (without_number n ns)) (all_without s n ns) a)
      ]

  behind_and : (m : VersionNo) (o : Option Version) (vs ws : List NumberedVersion) → ((s : ℕ) → AllByRecursion (Q s) vs → AllByRecursion (Q s) ws) → (Behind states Q vs → Behind states Q ws) → Behind states Q (and_version m o vs) → Behind states Q (and_version m o ws)
  behind_and m None vs ws f g a = g a
  behind_and m (Some v) vs ws f g a = (λ s is. f s.0 (a.0 s is), g a.1)

  behind_rest : (m : VersionNo) (o : Option Version) (vs : List NumberedVersion) → Behind states Q (and_version m o vs) → Behind states Q vs
  behind_rest m None vs a = a
  behind_rest m (Some v) vs a = a.1

  -- one version less
  behind_without : (n : ℕ) (ns : List ℕ) → Behind states Q (versions slots ns) → Behind states Q (versions slots (without_number n ns))
  behind_without n [] a = a
  behind_without n (m ∷ ns) a =
      elim (cases_Bool (eqb n m)) [
        | inl e ↦
            subst (λ ms. Behind states Q (versions slots ms)) (sym (without_here n m ns e))
            (behind_without n ns (behind_rest (number m) (version_at slots (number m)) (versions slots ns) a))
        | inr f ↦
            subst (λ ms. Behind states Q (versions slots ms)) (sym (without_there n m ns f))
            (behind_and (number m) (version_at slots (number m)) (versions slots ns) (versions slots (without_number n ns)) (λ s. all_without s n ns) (behind_without n ns) a)
      ]

  -- one whose put isn't settled in front
  behind_first : (m : VersionNo) (o : Option Version) (vs : List NumberedVersion) → ((v : Version) → o ≡ Some v → IsUnsettled states v) → Behind states Q vs → Behind states Q (and_version m o vs)
  behind_first m None vs u a = a
  behind_first m (Some v) vs u a = (λ s is. absurd (u v refl s is), a)

  behind_new : (n : ℕ) (ns : List ℕ) → IsUnsettledAt states slots n → Behind states Q (versions slots ns) → Behind states Q (versions slots (n ∷ ns))
  behind_new n ns u a = behind_first (number n) (version_at slots (number n)) (versions slots ns) u a

  behind_front : (n : ℕ) (ns : List ℕ) → IsUnsettledAt states slots n → Behind states Q (versions slots ns) → Behind states Q (versions slots (n ∷ without_number n ns))
  behind_front n ns u a = behind_new n (without_number n ns) u (behind_without n ns a)

-- other slots show the same where the numbers aren't the one that changed
same_versions : (slots slots' : Slots) (n : ℕ) → SlotsDifferAt n slots slots' → (ns : List ℕ) → is_among n ns ≡ false → versions slots' ns ≡ versions slots ns
same_versions slots slots' n d [] a = refl
same_versions slots slots' n d (m ∷ ns) a =
    let parts = or_parts (eqb n m) (is_among n ns) a in
    ap (λ o. and_version (number m) o (versions slots' ns)) (d (number m) (λ e. eqb-false n m parts.0 (sym e)))
    ∙ ap (and_version (number m) (version_at slots (number m))) (same_versions slots slots' n d ns parts.1)

by_cond : (P : List ℕ → Type 0) (b : Bool) (xs ys : List ℕ) → P xs → P ys → P (cond b xs ys)
by_cond P true xs ys p q = p
by_cond P false xs ys p q = q

-- what holds of the numbers of each key, once one key has others
at_each : (P : List ℕ → Type 0) (lists : Lists) (key : RowKey) (ns : List ℕ) (q : RowKey) → P ns → P (numbers_of lists q) → P (numbers_of (with_numbers lists key ns) q)
at_each P lists key ns q p h = subst P (sym (numbers_put lists key ns q)) (by_cond P (eq_by_cmp key_cmp q key) ns (numbers_of lists q) p h)

pub new_keeps_order : NewKeepsOrder
new_keeps_order states slots slots' lists key n d fresh u = record {
  falling = λ h q.
      let before = λ (k : RowKey). subst (HasFallingStamps states) (sym (same_versions slots slots' n d (numbers_of lists k) (fresh.at k))) (h k) in
      at_each (λ ns. HasFallingStamps states (versions slots' ns)) lists key (n ∷ numbers_of lists key) q
      (to_falling states (versions slots' (n ∷ numbers_of lists key)) (behind_new states slots' (AreUnder states) n (numbers_of lists key) u (from_falling states (versions slots' (numbers_of lists key)) (before key))))
      (before q);
  own = λ b r h q.
      let before = λ (k : RowKey). subst (HasOwnInFront states b r) (sym (same_versions slots slots' n d (numbers_of lists k) (fresh.at k))) (h k) in
      at_each (λ ns. HasOwnInFront states b r (versions slots' ns)) lists key (n ∷ numbers_of lists key) q
      (to_front states b r (versions slots' (n ∷ numbers_of lists key)) (behind_new states slots' (IsOthersBelow b r) n (numbers_of lists key) u (from_front states b r (versions slots' (numbers_of lists key)) (before key))))
      (before q);
}

pub front_keeps_order : FrontKeepsOrder
front_keeps_order states slots lists key n u = record {
  falling = λ h q.
      at_each (λ ns. HasFallingStamps states (versions slots ns)) lists key (n ∷ without_number n (numbers_of lists key)) q
      (to_falling states (versions slots (n ∷ without_number n (numbers_of lists key))) (behind_front states slots (AreUnder states) n (numbers_of lists key) u (from_falling states (versions slots (numbers_of lists key)) (h key))))
      (h q);
  own = λ b r h q.
      at_each (λ ns. HasOwnInFront states b r (versions slots ns)) lists key (n ∷ without_number n (numbers_of lists key)) q
      (to_front states b r (versions slots (n ∷ without_number n (numbers_of lists key))) (behind_front states slots (IsOthersBelow b r) n (numbers_of lists key) u (from_front states b r (versions slots (numbers_of lists key)) (h key))))
      (h q);
}

pub less_keeps_order : LessKeepsOrder
less_keeps_order states slots lists key n = record {
  falling = λ h q.
      at_each (λ ns. HasFallingStamps states (versions slots ns)) lists key (without_number n (numbers_of lists key)) q
      (to_falling states (versions slots (without_number n (numbers_of lists key))) (behind_without states slots (AreUnder states) n (numbers_of lists key) (from_falling states (versions slots (numbers_of lists key)) (h key))))
      (h q);
  own = λ b r h q.
      at_each (λ ns. HasOwnInFront states b r (versions slots ns)) lists key (without_number n (numbers_of lists key)) q
      (to_front states b r (versions slots (without_number n (numbers_of lists key))) (behind_without states slots (IsOthersBelow b r) n (numbers_of lists key) (from_front states b r (versions slots (numbers_of lists key)) (h key))))
      (h q);
}

pub unheld_keeps_order : UnheldKeepsOrder
unheld_keeps_order states slots slots' lists n d fresh = record {
  falling = λ h q. subst (HasFallingStamps states) (sym (same_versions slots slots' n d (numbers_of lists q) (fresh.at q))) (h q);
  own = λ b r h q. subst (HasOwnInFront states b r) (sym (same_versions slots slots' n d (numbers_of lists q) (fresh.at q))) (h q);
}

-- ---- versions that others see alike
abbrev IsAlike : States → States → Option Version → Option Version → Type 0
IsAlike states states' o p = option_map (seen_both states') p ≡ option_map (seen_both states) o

module _ (states states' : States) where
  alike_parts : (v w : Version) → IsAlike states states' (Some v) (Some w) → (seen_of states' w.begin ≡ seen_of states v.begin) × (seen_of states' w.end ≡ seen_of states v.end)
  alike_parts v w e =
      let h : seen_both states' w ≡ seen_both states v = cc in
      (ap (λ (p : Seen × Seen). p.0) h, ap (λ (p : Seen × Seen). p.1) h)

  all_alike : (s : ℕ) (m : VersionNo) (o p : Option Version) (vs ws : List NumberedVersion) → IsAlike states states' o p → (AllByRecursion (AreUnder states s) vs → AllByRecursion (AreUnder states' s) ws) → AllByRecursion (AreUnder states s) (and_version m o vs) → AllByRecursion (AreUnder states' s) (and_version m p ws)
  all_alike s m None None vs ws e f a = f a
  all_alike s m None (Some w) vs ws e f a = cc
  all_alike s m (Some v) None vs ws e f a = cc
  all_alike s m (Some v) (Some w) vs ws e f a =
      let same = alike_parts v w e in
      ((subst (IsUnder s) (sym same.0) a.0.0, subst (IsUnder s) (sym same.1) a.0.1), f a.1)

  behind_alike : (m : VersionNo) (o p : Option Version) (vs ws : List NumberedVersion) → IsAlike states states' o p → ((s : ℕ) → AllByRecursion (AreUnder states s) vs → AllByRecursion (AreUnder states' s) ws) → (Behind states (AreUnder states) vs → Behind states' (AreUnder states') ws) → Behind states (AreUnder states) (and_version m o vs) → Behind states' (AreUnder states') (and_version m p ws)
  behind_alike m None None vs ws e f g a = g a
  behind_alike m None (Some w) vs ws e f g a = cc
  behind_alike m (Some v) None vs ws e f g a = cc
  behind_alike m (Some v) (Some w) vs ws e f g a =
      let same = alike_parts v w e in
      (λ s is. f s.0 (a.0 s (sym same.0 ∙ is)), g a.1)

  module _ (slots slots' : Slots) (alike : (m : VersionNo) → IsAlike states states' (version_at slots m) (version_at slots' m)) where
    all_numbers : (s : ℕ) (ms : List VersionNo) → AllByRecursion (AreUnder states s) (versions_by slots ms) → AllByRecursion (AreUnder states' s) (versions_by slots' ms)
    all_numbers s [] a = tt
    all_numbers s (m ∷ ms) a = all_alike s m (version_at slots m) (version_at slots' m) (versions_by slots ms) (versions_by slots' ms) (alike m) (all_numbers s ms) a

    behind_numbers : (ms : List VersionNo) → Behind states (AreUnder states) (versions_by slots ms) → Behind states' (AreUnder states') (versions_by slots' ms)
    behind_numbers [] a = tt
    behind_numbers (m ∷ ms) a = behind_alike m (version_at slots m) (version_at slots' m) (versions_by slots ms) (versions_by slots' ms) (alike m) (λ s. all_numbers s ms) (behind_numbers ms) a

pub alike_keeps_order : AlikeKeepsOrder
alike_keeps_order states states' slots slots' lists alike h key =
    to_falling states' (versions_at slots' lists key)
    (behind_numbers states states' slots slots' alike (map number (numbers_of lists key)) (from_falling states (versions_at slots lists key) (h key)))
