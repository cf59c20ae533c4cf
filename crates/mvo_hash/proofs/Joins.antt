-- A number is put in front of those of its key.
use Rattle.std.proofs.Common.{◌≡◌, ◌≢◌, ◌⊎◌, ℕ, ◌<◌, ◌≤◌, eqb, inl, inr, List, [], ◌∷◌, true, false, length, Some, refl, sym, ap, ◌∙◌, subst, arith}
use Rattle.std.proofs.lemmas.Bool.{cond-true, cond-false, cases_eq, cases_lt, eq-eqb, ne_eqb, eqb-true, or_cases, or_left, or_right, false≢true, false_from_ne_true}
use Rattle.std.proofs.lemmas.List.{get_or_past}
use Rattle.std.specs.Ordering.{eq_by_cmp}
use Rattle.std.specs.FinMap.{get, insert, get-insert}
use Rattle.mvo_types.specs.declared.row.RowKey.{RowKey}
use Rattle.mvo_types.specs.Keys.{key_cmp}
use Rattle.mvo_types.proofs.Maps.{keys_total}
use Rattle.mvo_hash.specs.declared.link.Link.{Link}
use Rattle.mvo_hash.specs.Table.{KeyNumbers}
use Rattle.mvo_hash.specs.Lists.{Lists, newest_of, is_among, numbers_of, with_numbers, IsNewNumber}
use Rattle.mvo_hash.specs.Links.{no_number, unheld, link, number_or_none, first_or_none, no_link, IsChain, AreDistinctNumbers, IsIndexOf, IsIndex, IsGrown, IsJoined, numbers, lists_of}
use Rattle.mvo_hash.proofs.Finds.{same_key, other_key, cases_key}
use Rattle.mvo_hash.proofs.Chains.{eqb_same, among_within, chain_kept}
use Rattle.mvo_hash.proofs.Views.{put_at, put_same, put_other, numbers_shown, to_index, grown_index, lists_put}

pub first_among : (ns : List ℕ) → first_or_none ns ≢ no_number → is_among (first_or_none ns) ns ≡ true
first_among [] h = absurd (h refl)
first_among (n ∷ ns) h = or_left (eqb n n) (is_among n ns) (eqb_same n)

-- a number with a newer neighbour that isn't `unheld` has a link
pub held_within : (ls : List Link) (n : ℕ) → (link ls n).newer ≢ unheld → n < length ls
held_within ls n h = elim (cases_lt n (length ls)) [ inl l ↦ l | inr past ↦ absurd (h (ap (λ (l : Link). l.newer) (get_or_past ls n no_link past))) ]

-- what stands in a chain isn't a number that no chain has
among_apart : (n m : ℕ) (ns : List ℕ) → is_among n ns ≡ false → is_among m ns ≡ true → m ≢ n
among_apart n m ns f a e = false≢true (sym f ∙ ap (λ k. is_among k ns) (sym e) ∙ a)

module _ (old new : List Link) (number behind : ℕ) (small : length old ≤ unheld) (j : IsJoined old new number behind) where
  -- a link that isn't one of the two is kept
  kept : (n : ℕ) → n < length old → n ≢ number → n ≢ behind → link new n ≡ link old n
  kept n within a b =
      let newer : (link new n).newer ≡ (link old n).newer = j.newer n within a ∙ cond-false (eqb n behind) number (link old n).newer (ne_eqb n behind b) in
      let older : (link new n).older ≡ (link old n).older = j.older n a in
      λ i. record { older = older i; newer = newer i }

  -- a chain with neither of the two is kept
  pub other_chain : (newer : ℕ) (ns : List ℕ) → is_among number ns ≡ false → is_among behind ns ≡ false → IsChain old newer ns → IsChain new newer ns
  other_chain newer ns a b c =
      chain_kept old new newer ns (omega (arith, j.size)) (λ n h. kept n (among_within old newer ns n c h) (among_apart number n ns a h) (among_apart behind n ns b h)) c

  -- the chain behind the number
  pub own_chain : (ns : List ℕ) → first_or_none ns ≡ behind → number < length old → is_among number ns ≡ false → AreDistinctNumbers ns → IsChain old no_number ns → IsChain new no_number (number ∷ ns)
  own_chain [] is within fresh apart c =
      (omega (arith, within, j.size), ap (λ (l : Link). l.newer) j.here, ap (λ (l : Link). l.older) j.here ∙ sym is, tt)
  own_chain (b ∷ ns) is within fresh apart c =
      let inside : b < length old = c.0 in
      let other : b ≢ number = among_apart number b (b ∷ ns) fresh (or_left (eqb b b) (is_among b ns) (eqb_same b)) in
      let rest : is_among number ns ≡ false = false_from_ne_true _ (λ h. false≢true (sym fresh ∙ or_right (eqb number b) (is_among number ns) h)) in (
        omega (arith, within, j.size),
        ap (λ (l : Link). l.newer) j.here,
        ap (λ (l : Link). l.older) j.here ∙ sym is,
        (
          omega (arith, inside, j.size),
          j.newer b inside other ∙ cond-true (eqb b behind) number (link old b).newer (eq-eqb b behind is),
          j.older b other ∙ c.2,
          other_chain b ns rest (ap (λ k. is_among k ns) (sym is) ∙ apart.0) c.3,
        ),
      )

module _ (heads : KeyNumbers) (old new : List Link) (at : RowKey → List ℕ) (t : IsIndexOf heads old at) (key : RowKey) (number : ℕ) (j : IsJoined old new number (number_or_none (get heads key))) (within : number < length old) (fresh : (k : RowKey) → is_among number (at k) ≡ false) where
  abbrev behind : ℕ
  behind = number_or_none (get heads key)

  abbrev at' : RowKey → List ℕ
  at' = put_at at key (number ∷ at key)

  first : first_or_none (at key) ≡ behind
  first = ap number_or_none (sym (t.starts key))

  behind_here : behind < length old → is_among behind (at key) ≡ true
  behind_here h =
      ap (λ k. is_among k (at key)) (sym first)
      ∙ first_among (at key) (λ e. let small = t.numbered in let f = first in omega (arith, e, f, h, small))

  behind_only : (k : RowKey) → k ≢ key → is_among behind (at k) ≡ false
  behind_only k n = false_from_ne_true _ (λ a. n (t.only k key behind a (behind_here (among_within old no_number (at k) behind (t.chained k) a))))

  among_put : (k : RowKey) (n : ℕ) → is_among n (at k) ≡ true → is_among n (at' k) ≡ true
  among_put k n a =
      elim (cases_key k key) [
        | inl e ↦ ap (is_among n) (put_same at key (number ∷ at key) k e) ∙ or_right (eqb n number) (is_among n (at key)) (ap (λ q. is_among n (at q)) (sym e) ∙ a)
        | inr o ↦ ap (is_among n) (put_other at key (number ∷ at key) k o) ∙ a
      ]

  -- a number among the new ones is the one that was put or was there
  among_cases : (k : RowKey) (n : ℕ) → is_among n (at' k) ≡ true → ((n ≡ number) × (k ≡ key)) ⊎ (is_among n (at k) ≡ true)
  among_cases k n a =
      elim (cases_key k key) [
        | inl e ↦ elim (or_cases (eqb n number) (is_among n (at key)) (ap (is_among n) (sym (put_same at key (number ∷ at key) k e)) ∙ a)) [
          | inl is ↦ inl (eqb-true n number is, e)
          | inr b ↦ inr (ap (λ q. is_among n (at q)) e ∙ b)
        ]
        | inr o ↦ inr (ap (is_among n) (sym (put_other at key (number ∷ at key) k o)) ∙ a)
      ]

  not_fresh : (k : RowKey) (n : ℕ) → n ≡ number → is_among n (at k) ≡ true → ⊥
  not_fresh k n e a = false≢true (sym (fresh k) ∙ ap (λ m. is_among m (at k)) (sym e) ∙ a)

  pub joined_index : IsIndexOf (insert heads key number) new at'
  joined_index = record {
    numbered = let h = t.numbered in omega (arith, h, j.size);
    starts = λ k. get-insert keys_total heads key number k ∙ elim (cases_key k key) [
      | inl e ↦ cond-true (eq_by_cmp key_cmp k key) (Some number) (get heads k) (same_key k key e) ∙ ap newest_of (sym (put_same at key (number ∷ at key) k e))
      | inr o ↦ cond-false (eq_by_cmp key_cmp k key) (Some number) (get heads k) (other_key k key o) ∙ t.starts k ∙ ap newest_of (sym (put_other at key (number ∷ at key) k o))
    ];
    chained = λ k. elim (cases_key k key) [
      | inl e ↦ subst (IsChain new no_number) (sym (put_same at key (number ∷ at key) k e))
          (own_chain old new number behind t.numbered j (at key) first within (fresh key) (t.apart key) (t.chained key))
      | inr o ↦ subst (IsChain new no_number) (sym (put_other at key (number ∷ at key) k o))
          (other_chain old new number behind t.numbered j no_number (at k) (fresh k) (behind_only k o) (t.chained k))
    ];
    apart = λ k. elim (cases_key k key) [
      | inl e ↦ subst AreDistinctNumbers (sym (put_same at key (number ∷ at key) k e)) (fresh key, t.apart key)
      | inr o ↦ subst AreDistinctNumbers (sym (put_other at key (number ∷ at key) k o)) (t.apart k)
    ];
    only = λ a b n x y. elim (among_cases a n x) [
      | inl p ↦ elim (among_cases b n y) [
        | inl q ↦ p.1 ∙ sym q.1
        | inr q ↦ absurd (not_fresh b n p.0 q)
      ]
      | inr p ↦ elim (among_cases b n y) [
        | inl q ↦ absurd (not_fresh a n q.0 p)
        | inr q ↦ t.only a b n p q
      ]
    ];
    held = λ n h. elim (cases_eq n number) [
      | inl e ↦ (key, ap (is_among n) (put_same at key (number ∷ at key) key refl) ∙ or_left (eqb n number) (is_among n (at key)) (eq-eqb n number e))
      | inr o ↦
          let inside : n < length old = (let w = held_within new n h in omega (arith, w, j.size)) in
          elim (cases_eq n behind) [
            | inl e ↦ (key, among_put key n (ap (λ m. is_among m (at key)) e ∙ behind_here (omega (arith, e, inside))))
            | inr b ↦
                let was = t.held n (λ u. h (j.newer n inside o ∙ cond-false (eqb n behind) number (link old n).newer (ne_eqb n behind b) ∙ u)) in
                (was.0, among_put was.0 n was.1)
          ]
    ];
  }

module _ (heads heads' : KeyNumbers) (ls grown new : List Link) (lists : Lists) (key : RowKey) (number older : ℕ) (t : IsIndex heads ls) (view : lists_of heads ls ≡ lists) (g : IsGrown ls grown) (within : number < length grown) (fresh : IsNewNumber lists number) (is : older ≡ number_or_none (get heads key)) where
  not_among : (k : RowKey) → is_among number (numbers heads ls k) ≡ false
  not_among k = ap (is_among number) (sym (numbers_shown heads ls (numbers heads ls) t k)) ∙ ap (λ m. is_among number (numbers_of m k)) view ∙ fresh.at k

  -- a number that no key has isn't the newest
  pub not_newest : number ≢ older
  not_newest e =
      let first : number ≡ first_or_none (numbers heads ls key) = e ∙ is ∙ ap number_or_none (t.starts key) in
      false≢true (sym (not_among key) ∙ ap (λ n. is_among n (numbers heads ls key)) first
      ∙ first_among (numbers heads ls key) (λ h. let small = g.numbered in omega (arith, h, first, within, small)))

  module _ (put : heads' ≡ insert heads key number) (j : IsJoined grown new number older) where
    joined : IsIndexOf heads' new (put_at (numbers heads ls) key (number ∷ numbers heads ls key))
    joined =
        subst (λ m. IsIndexOf m new (put_at (numbers heads ls) key (number ∷ numbers heads ls key))) (sym put)
        (joined_index heads grown new (numbers heads ls) (grown_index heads ls grown (numbers heads ls) g t) key number (subst (IsJoined grown new number) is j) within not_among)

    pub added_index : IsIndex heads' new
    added_index = to_index heads' new (put_at (numbers heads ls) key (number ∷ numbers heads ls key)) joined

    pub added_lists : lists_of heads' new ≡ insert lists key (number ∷ numbers_of lists key)
    added_lists =
        lists_put heads heads' ls new (numbers heads ls) key (number ∷ numbers heads ls key) t joined
        ∙ ap (λ m. with_numbers m key (number ∷ numbers heads ls key)) view
        ∙ ap (λ ns. insert lists key (number ∷ ns)) (sym (numbers_shown heads ls (numbers heads ls) t key) ∙ ap (λ m. numbers_of m key) view)
