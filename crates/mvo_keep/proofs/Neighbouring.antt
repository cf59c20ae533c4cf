-- The neighbours from a place on.
use Rattle.std.proofs.Common.{◌≡◌, ◌+◌, ◌-◌, ◌≤◌, ◌<◌, ℕ, List, [], ◌∷◌, length, drop, get_or, Option, None, Some, IfSome, inl, inr, arith, ap, sym, subst, refl, ◌∙◌}
use Rattle.std.proofs.lemmas.List.{drop_more, drop_all, get_or_default}
use Rattle.mvo_pair.specs.declared.pair.Pair.{Pair}
use Rattle.mvo_keep.specs.declared.policy.Policy.{Policy}
use Rattle.mvo_keep.specs.declared.choice.Choice.{Choice}
use Rattle.mvo_keep.specs.declared.neighbours.Neighbours.{Neighbours}
use Rattle.mvo_keep.specs.Choosing.{chosen_neighbours, chosen_from, neighbours_from, live_in, live_in_both, IsBetterOf}
use Rattle.mvo_keep.specs.Due.{MayMergeAt}

-- those from a place on are the one there, and those behind it
pub one_more : (p : Policy) (choice : Choice) (pairs : List Pair) (i : ℕ) (d : Pair)
    → i + 1 < length pairs
    → chosen_neighbours p choice (neighbours_from i (drop i pairs))
    ≡ chosen_from p choice
    (record { place = i; left = get_or pairs i d; right = get_or pairs (i + 1) d })
    (chosen_neighbours p choice (neighbours_from (i + 1) (drop (i + 1) pairs)))
one_more p choice pairs i d lt =
    let a = drop_more pairs i d (omega (arith, lt)) in
    let b = drop_more pairs (i + 1) d lt in
    ap (λ l. chosen_neighbours p choice (neighbours_from i l)) (a ∙ ap (λ l. get_or pairs i d ∷ l) b)
    ∙ ap (λ l. chosen_from p choice (record { place = i; left = get_or pairs i d; right = get_or pairs (i + 1) d }) (chosen_neighbours p choice (neighbours_from (i + 1) l))) (sym b)

-- the same, by the place of the right one
pub one_before : (p : Policy) (choice : Choice) (pairs : List Pair) (j : ℕ) (d : Pair) → 0 < j
    → j < length pairs
    → chosen_neighbours p choice (neighbours_from (j - 1) (drop (j - 1) pairs))
    ≡ chosen_from p choice
    (record { place = j - 1; left = get_or pairs (j - 1) d; right = get_or pairs j d })
    (chosen_neighbours p choice (neighbours_from j (drop j pairs)))
one_before p choice pairs j d pos lt =
    let back : j - 1 + 1 ≡ j = omega (arith, pos) in
    subst (λ k. chosen_neighbours p choice (neighbours_from (j - 1) (drop (j - 1) pairs)) ≡ chosen_from p choice (record { place = j - 1; left = get_or pairs (j - 1) d; right = get_or pairs k d }) (chosen_neighbours p choice (neighbours_from k (drop k pairs)))) back (one_more p choice pairs (j - 1) d (omega (arith, back, lt)))

-- from the last pair on there are none
pub none_left : (p : Policy) (choice : Choice) (pairs : List Pair)
    → None ≡ chosen_neighbours p choice (neighbours_from (length pairs - 1) (drop (length pairs - 1) pairs))
none_left p choice [] = refl
none_left p choice (x ∷ xs) = sym (ap (λ l. chosen_neighbours p choice (neighbours_from (length (x ∷ xs) - 1) l)) (drop_more (x ∷ xs) (length (x ∷ xs) - 1) x (omega (arith)) ∙ ap (λ l. get_or (x ∷ xs) (length (x ∷ xs) - 1) x ∷ l) (drop_all (length (x ∷ xs) - 1 + 1) (x ∷ xs) (omega (arith)))))

-- The two at a place, as they are read, may be merged where they aren't too large.
pub may_merge : (p : Policy) (pairs : List Pair) (i j : ℕ) (d : Pair) → i + 1 ≡ j → j < length pairs
    → live_in (get_or pairs i d) + live_in (get_or pairs j d) ≤ p.most_live → MayMergeAt p pairs i
may_merge p pairs i j d next lt few = (
  omega (arith, next, lt),
  λ none.
      let a : get_or pairs i none ≡ get_or pairs i d = get_or_default pairs i none d (omega (arith, next, lt)) in
      let b : get_or pairs j none ≡ get_or pairs j d = get_or_default pairs j none d lt in
      subst (λ k. live_in (get_or pairs i none) + live_in (get_or pairs k none) ≤ p.most_live) (sym next)
      (subst (λ x. live_in x + live_in (get_or pairs j none) ≤ p.most_live) (sym a)
      (subst (λ x. live_in (get_or pairs i d) + live_in x ≤ p.most_live) (sym b) few)),
)

-- So may those that are chosen: those that were read, or those that were chosen before.
pub one_may : (p : Policy) (pairs : List Pair) (two : Neighbours) (behind : Option Neighbours)
    → (live_in_both two ≤ p.most_live → MayMergeAt p pairs two.place)
    → IfSome behind (λ t. MayMergeAt p pairs t.place)
    → (chosen_neighbours : Option Neighbours) → IfSome chosen_neighbours (IsBetterOf p two behind)
    → IfSome chosen_neighbours (λ t. MayMergeAt p pairs t.place)
one_may p pairs two behind here there None one = tt
one_may p pairs two behind here there (Some t) (inl x) =
    subst (λ u. MayMergeAt p pairs u.place) (sym x.0) (here x.1)
one_may p pairs two behind here there (Some t) (inr is) =
    subst (λ b. IfSome b (λ u. MayMergeAt p pairs u.place)) is there
