-- Chains of numbers by their links.
use Rattle.std.proofs.Common.{◌≡◌, ◌≢◌, ◌⊎◌, ℕ, suc, zero, ◌<◌, ◌≤◌, ◌||◌, eqb, inl, inr, List, [], ◌∷◌, ◌++◌, take, drop, true, false, length, None, Some, refl, sym, ap, ◌∙◌, arith}
use Rattle.std.proofs.lemmas.Bool.{cond-true, cond-false, cases_Bool, eq-eqb, ne_eqb, eqb-true, or_parts, or_cases, or_left, or_right, false≢true}
use Rattle.std.proofs.lemmas.Map.Steps.{length-le_from_distinct_below}
use Rattle.std.specs.List.{IsDistinct, AllByRecursion}
use Rattle.mvo_hash.specs.declared.link.Link.{Link}
use Rattle.mvo_hash.specs.Lists.{newest_of, older_of, newer_behind, is_among}
use Rattle.mvo_hash.specs.Links.{no_number, unheld, link, first_or_none, some_unless_none, walk, IsChain, AreDistinctNumbers}

pub eqb_same : (n : ℕ) → eqb n n ≡ true
eqb_same n = eq-eqb n n refl

-- a number of a chain has a link
pub among_within : (ls : List Link) (newer : ℕ) (ns : List ℕ) (n : ℕ) → IsChain ls newer ns → is_among n ns ≡ true → n < length ls
among_within ls newer [] n c a = absurd (false≢true a)
among_within ls newer (m ∷ ns) n c a =
    elim (or_cases (eqb n m) (is_among n ns) a) [
      | inl e ↦ let g : n ≡ m = eqb-true n m e in let h : m < length ls = c.0 in omega (arith, g, h)
      | inr b ↦ among_within ls m ns n c.3 b
    ]

pub all_apart : (n : ℕ) (ns : List ℕ) → is_among n ns ≡ false → AllByRecursion (λ m. eqb n m ≡ false) ns
all_apart n [] a = tt
all_apart n (m ∷ ns) a = let h = or_parts (eqb n m) (is_among n ns) a in (h.0, all_apart n ns h.1)

distinct : (ns : List ℕ) → AreDistinctNumbers ns → IsDistinct eqb ns
unfolding IsDistinct
distinct [] a = tt
distinct (n ∷ ns) a = (all_apart n ns a.0, distinct ns a.1)

-- a chain is no longer than the links
pub chain_short : (ls : List Link) (newer : ℕ) (ns : List ℕ) → IsChain ls newer ns → AreDistinctNumbers ns → length ns ≤ length ls
chain_short ls newer ns c a = length-le_from_distinct_below ns (length ls) (distinct ns a) (λ q h. among_within ls newer ns q c h)

-- a walk gives the chain
pub walk_chain : (ls : List Link) (newer : ℕ) (ns : List ℕ) (most : ℕ) → length ls ≤ unheld → IsChain ls newer ns → length ns ≤ most → walk ls most (first_or_none ns) ≡ ns
walk_chain ls newer [] zero small c short = refl
walk_chain ls newer [] (suc most) small c short = cond-true (eqb no_number no_number) [] (no_number ∷ walk ls most (link ls no_number).older) (eqb_same no_number)
walk_chain ls newer (n ∷ ns) zero small c short = absurd (omega (arith, short))
walk_chain ls newer (n ∷ ns) (suc most) small c short =
    let within : n < length ls = c.0 in
    cond-false (eqb n no_number) [] (n ∷ walk ls most (link ls n).older) (ne_eqb n no_number (λ e. omega (arith, e, within, small)))
    ∙ ap (λ o. n ∷ walk ls most o) c.2
    ∙ ap (λ ms. n ∷ ms) (walk_chain ls n ns most small c.3 (omega (arith, short)))

-- links that agree at each number of a chain make the same chain
pub chain_kept : (old new : List Link) (newer : ℕ) (ns : List ℕ) → length old ≤ length new → ((n : ℕ) → is_among n ns ≡ true → link new n ≡ link old n) → IsChain old newer ns → IsChain new newer ns
chain_kept old new newer [] longer same c = tt
chain_kept old new newer (n ∷ ns) longer same c =
    let here : link new n ≡ link old n = same n (or_left (eqb n n) (is_among n ns) (eqb_same n)) in
    let within : n < length old = c.0 in (
      omega (arith, within, longer),
      ap (λ (l : Link). l.newer) here ∙ c.1,
      ap (λ (l : Link). l.older) here ∙ c.2,
      chain_kept old new n ns longer (λ m a. same m (or_right (eqb m n) (is_among m ns) a)) c.3,
    )

-- each number but the first has the one before it as its newer neighbour, and none is unheld
pub among_held : (ls : List Link) (newer : ℕ) (ns : List ℕ) (n : ℕ) → newer ≢ unheld → length ls ≤ unheld → IsChain ls newer ns → is_among n ns ≡ true → (link ls n).newer ≢ unheld
among_held ls newer [] n other small c a = absurd (false≢true a)
among_held ls newer (m ∷ ns) n other small c a =
    elim (or_cases (eqb n m) (is_among n ns) a) [
      | inl e ↦ λ u. let g : n ≡ m = eqb-true n m e in other (sym c.1 ∙ ap (λ k. (link ls k).newer) (sym g) ∙ u)
      | inr b ↦ among_held ls m ns n (λ e. let h : m < length ls = c.0 in omega (arith, e, h, small)) small c.3 b
    ]

pub newest_is : (ls : List Link) (newer : ℕ) (ns : List ℕ) → length ls ≤ unheld → IsChain ls newer ns → newest_of ns ≡ some_unless_none (first_or_none ns)
newest_is ls newer [] small c = sym (cond-true (eqb no_number no_number) None (Some no_number) (eqb_same no_number))
newest_is ls newer (n ∷ ns) small c = sym (cond-false (eqb n no_number) None (Some n) (ne_eqb n no_number (λ e. let h : n < length ls = c.0 in omega (arith, e, h, small))))

-- the number behind another is its older neighbour
pub older_is : (ls : List Link) (newer : ℕ) (ns : List ℕ) (n : ℕ) → length ls ≤ unheld → IsChain ls newer ns → is_among n ns ≡ true → older_of n ns ≡ some_unless_none (link ls n).older
older_is ls newer [] n small c a = absurd (false≢true a)
older_is ls newer (m ∷ ns) n small c a =
    elim (cases_Bool (eqb n m)) [
      | inl e ↦
          cond-true (eqb n m) (newest_of ns) (older_of n ns) e ∙ newest_is ls m ns small c.3
          ∙ ap some_unless_none (sym c.2 ∙ ap (λ k. (link ls k).older) (sym (eqb-true n m e)))
      | inr f ↦
          cond-false (eqb n m) (newest_of ns) (older_of n ns) f
          ∙ older_is ls m ns n small c.3 (sym (ap (λ b. b || is_among n ns) f) ∙ a)
    ]

-- the number in front of another is its newer neighbour
pub newer_is : (ls : List Link) (newer : ℕ) (ns : List ℕ) (n : ℕ) → length ls ≤ unheld → IsChain ls newer ns → is_among n ns ≡ true → newer_behind (some_unless_none newer) n ns ≡ some_unless_none (link ls n).newer
newer_is ls newer [] n small c a = absurd (false≢true a)
newer_is ls newer (m ∷ ns) n small c a =
    elim (cases_Bool (eqb n m)) [
      | inl e ↦
          cond-true (eqb n m) (some_unless_none newer) (newer_behind (Some m) n ns) e
          ∙ ap some_unless_none (sym c.1 ∙ ap (λ k. (link ls k).newer) (sym (eqb-true n m e)))
      | inr f ↦
          cond-false (eqb n m) (some_unless_none newer) (newer_behind (Some m) n ns) f
          ∙ ap (λ o. newer_behind o n ns) (sym (cond-false (eqb m no_number) None (Some m) (ne_eqb m no_number (λ e. let h : m < length ls = c.0 in omega (arith, e, h, small)))))
          ∙ newer_is ls m ns n small c.3 (sym (ap (λ b. b || is_among n ns) f) ∙ a)
    ]

-- a number's older neighbour has it as its newer one
pub older_back : (ls : List Link) (newer : ℕ) (ns : List ℕ) (n : ℕ) → IsChain ls newer ns → is_among n ns ≡ true → ((link ls n).older ≡ no_number) ⊎ (((link ls n).older < length ls) × ((link ls (link ls n).older).newer ≡ n))
older_back ls newer [] n c a = absurd (false≢true a)
older_back ls newer (m ∷ []) n c a =
    elim (or_cases (eqb n m) (is_among n []) a) [
      | inl e ↦ inl (ap (λ k. (link ls k).older) (eqb-true n m e) ∙ c.2)
      | inr b ↦ absurd (false≢true b)
    ]
older_back ls newer (m ∷ r ∷ ns) n c a =
    elim (or_cases (eqb n m) (is_among n (r ∷ ns)) a) [
      | inl e ↦
          let g : n ≡ m = eqb-true n m e in
          let is : (link ls n).older ≡ r = ap (λ k. (link ls k).older) g ∙ c.2 in
          let within : r < length ls = c.3.0 in
          inr (omega (arith, is, within), ap (λ k. (link ls k).newer) is ∙ c.3.1 ∙ sym g)
      | inr b ↦ older_back ls m (r ∷ ns) n c.3 b
    ]

-- a number is the first, or its newer neighbour has it as its older one
pub newer_back : (ls : List Link) (newer : ℕ) (ns : List ℕ) (n : ℕ) → IsChain ls newer ns → is_among n ns ≡ true → ((first_or_none ns ≡ n) × ((link ls n).newer ≡ newer)) ⊎ (((link ls n).newer < length ls) × ((link ls (link ls n).newer).older ≡ n))
newer_back ls newer [] n c a = absurd (false≢true a)
newer_back ls newer (m ∷ ns) n c a =
    elim (or_cases (eqb n m) (is_among n ns) a) [
      | inl e ↦ let g : n ≡ m = eqb-true n m e in inl (sym g, ap (λ k. (link ls k).newer) g ∙ c.1)
      | inr b ↦ elim (newer_back ls m ns n c.3 b) [
        | inl h ↦
            let is : (link ls n).newer ≡ m = h.1 in
            let within : m < length ls = c.0 in
            inr (omega (arith, is, within), ap (λ k. (link ls k).older) is ∙ c.2 ∙ h.0)
        | inr h ↦ inr h
      ]
    ]

-- one step of a walk along a chain
pub step_within : (ls : List Link) (newer : ℕ) (ns : List ℕ) (k : ℕ) → first_or_none (drop k ns) ≢ no_number → k < length ns
step_within ls newer [] zero h = absurd (h refl)
step_within ls newer [] (suc k) h = absurd (h refl)
step_within ls newer (n ∷ ns) zero h = omega arith
step_within ls newer (n ∷ ns) (suc k) h = let rest = step_within ls newer ns k h in omega (arith, rest)

pub step_link : (ls : List Link) (newer : ℕ) (ns : List ℕ) (k : ℕ) → IsChain ls newer ns → k < length ns → first_or_none (drop k ns) < length ls
step_link ls newer [] k c h = absurd (omega (arith, h))
step_link ls newer (n ∷ ns) zero c h = c.0
step_link ls newer (n ∷ ns) (suc k) c h = step_link ls n ns k c.3 (omega (arith, h))

pub step_older : (ls : List Link) (newer : ℕ) (ns : List ℕ) (k : ℕ) → IsChain ls newer ns → k < length ns → (link ls (first_or_none (drop k ns))).older ≡ first_or_none (drop (suc k) ns)
step_older ls newer [] k c h = absurd (omega (arith, h))
step_older ls newer (n ∷ ns) zero c h = c.2
step_older ls newer (n ∷ ns) (suc k) c h = step_older ls n ns k c.3 (omega (arith, h))

pub step_take : (ns : List ℕ) (k : ℕ) → k < length ns → take (suc k) ns ≡ take k ns ++ first_or_none (drop k ns) ∷ []
step_take [] k h = absurd (omega (arith, h))
step_take (n ∷ ns) zero h = refl
step_take (n ∷ ns) (suc k) h = ap (λ ms. n ∷ ms) (step_take ns k (omega (arith, h)))

pub step_end : (ns : List ℕ) (ls : List Link) (newer : ℕ) (k : ℕ) → length ls ≤ unheld → IsChain ls newer ns → first_or_none (drop k ns) ≡ no_number → take k ns ≡ ns
step_end [] ls newer zero small c h = refl
step_end [] ls newer (suc k) small c h = refl
step_end (n ∷ ns) ls newer zero small c h = let inside : n < length ls = c.0 in absurd (omega (arith, inside, small, h))
step_end (n ∷ ns) ls newer (suc k) small c h = ap (λ ms. n ∷ ms) (step_end ns ls n k small c.3 h)
