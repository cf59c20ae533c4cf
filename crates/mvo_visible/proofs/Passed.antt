-- Versions in front of all others, whose words all are from the begin on: a reader is shown the
-- same without them.
use Rattle.std.proofs.Common.{◌≡◌, ℕ, true, ◌||◌, List, [], ◌∷◌, ◌++◌, sym, ap, ◌∙◌, refl}
use Rattle.std.specs.List.{AllByRecursion, list_any}
use Rattle.std.specs.Option.{option_or}
use Rattle.mvo_visible.specs.declared.outcome.Shown.{Shown}
use Rattle.mvo_visible.specs.declared.walked.Walked.{Walked}
use Rattle.mvo_visible.specs.Words.{States}
use Rattle.mvo_visible.specs.Versions.{NumberedVersion, is_own, own_newest}
use Rattle.mvo_visible.specs.Changes.{changes_of, deciding, later_change}
use Rattle.mvo_visible.specs.Shown.{HasFallingStamps, HasOwnInFront, AreVersionsInOrder, own_or, shown_to}
use Rattle.mvo_visible.specs.Walked.{AreLater, is_later, walked_over}
use Rattle.mvo_visible.proofs.Walks.{walked_is, walked_later, walked_more}

-- one tells nothing
one_passed : (states : States) (b r : ℕ) (e : NumberedVersion) (vs : List NumberedVersion) → is_later b e.1 ≡ true → walked_over states b r (e ∷ vs) ≡ walked_over states b r vs
one_passed states b r e vs l =
    let alone : walked_over states b r (e ∷ []) ≡ walked_over states b r [] = walked_more states b r [] e ∙ walked_later states b r (walked_over states b r []) e.0 e.1 l in
    walked_is states b r (e ∷ []) vs
    ∙ ap (λ (w : Walked). record { own = w.own || list_any (is_own r) vs; newest = option_or w.newest (own_newest r vs); change = later_change w.change (deciding b (changes_of states vs)) }) alone

-- nor do all of them
pub all_passed : (states : States) (b r : ℕ) (front vs : List NumberedVersion) → AreLater b front → walked_over states b r (front ++ vs) ≡ walked_over states b r vs
all_passed states b r [] vs l = refl
all_passed states b r (e ∷ front) vs l = one_passed states b r e (front ++ vs) l.0 ∙ all_passed states b r front vs l.1

shown_by_walk : (states : States) (b r : ℕ) (vs ws : List NumberedVersion) → walked_over states b r vs ≡ walked_over states b r ws → shown_to states b r vs ≡ shown_to states b r ws
shown_by_walk states b r vs ws e = ap (λ (w : Walked). own_or w.own w.newest w.change) e

falling_behind : (states : States) (front vs : List NumberedVersion) → HasFallingStamps states (front ++ vs) → HasFallingStamps states vs
falling_behind states [] vs h = h
falling_behind states (e ∷ front) vs h = falling_behind states front vs h.1

own_behind : (states : States) (b r : ℕ) (front vs : List NumberedVersion) → HasOwnInFront states b r (front ++ vs) → HasOwnInFront states b r vs
own_behind states b r [] vs h = h
own_behind states b r (e ∷ front) vs h = own_behind states b r front vs h.1

-- what is shown of those behind is shown of all
pub shown_behind : (states : States) (b r : ℕ) (front vs : List NumberedVersion) (shown : Shown) → AreLater b front → (AreVersionsInOrder states b r vs → shown ≡ shown_to states b r vs) → AreVersionsInOrder states b r (front ++ vs) → shown ≡ shown_to states b r (front ++ vs)
shown_behind states b r front vs shown l is order =
    is (record { falling = falling_behind states front vs order.falling; own = own_behind states b r front vs order.own })
    ∙ sym (shown_by_walk states b r (front ++ vs) vs (all_passed states b r front vs l))
