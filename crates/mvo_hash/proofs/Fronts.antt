-- A number is brought to the front of those of its key.
use Rattle.std.proofs.Common.{◌≡◌, ◌≢◌, ℕ, ◌<◌, ◌≤◌, ◌&&◌, ◌||◌, eqb, inl, inr, Option, List, [], ◌∷◌, true, false, cond, length, None, Some, refl, sym, ap, ◌∙◌, subst, arith}
use Rattle.std.proofs.lemmas.Bool.{cond-false, cases_eq, ne_eqb, eq-eqb, and_right, false≢true}
use Rattle.std.specs.Option.{OnSome}
use Rattle.std.specs.Prelude.{is_some}
use Rattle.std.specs.Ordering.{eq_by_cmp}
use Rattle.std.specs.FinMap.{get, insert}
use Rattle.mvo_types.specs.declared.row.RowKey.{RowKey}
use Rattle.mvo_types.specs.Keys.{key_cmp}
use Rattle.mvo_hash.specs.declared.link.Link.{Link}
use Rattle.mvo_hash.specs.Table.{KeyNumbers}
use Rattle.mvo_hash.specs.Lists.{Lists, is_among, without_number, numbers_of, with_numbers}
use Rattle.mvo_hash.specs.Links.{no_number, unheld, link, number_or_none, first_or_none, some_unless_none, IsChain, AreDistinctNumbers, IsIndexOf, IsIndex, IsUnlinked, IsJoined, numbers, lists_of}
use Rattle.mvo_hash.proofs.Finds.{cases_key}
use Rattle.mvo_hash.proofs.Chains.{among_within, newer_back}
use Rattle.mvo_hash.proofs.Views.{put_at, put_same, put_other, numbers_shown, to_index, lists_put}
use Rattle.mvo_hash.proofs.Joins.{first_among, joined_index}
use Rattle.mvo_hash.proofs.Unlinks.{without_absent, without_here, among_self, put_is, unlinked_index}

-- the number without a newer one is the first
first_is : (ls : List Link) (n : ℕ) (ns : List ℕ) → length ls ≤ unheld → AreDistinctNumbers ns → IsChain ls no_number ns → is_among n ns ≡ true → (link ls n).newer ≡ no_number → n ∷ without_number n ns ≡ ns
first_is ls n [] small apart c a e = absurd (false≢true a)
first_is ls n (m ∷ ns) small apart c a e =
    elim (cases_eq n m) [
      | inl is ↦
          ap (λ ms. n ∷ ms) (without_here n m ns (eq-eqb n m is) ∙ without_absent n ns (ap (λ k. is_among k ns) is ∙ apart.0))
          ∙ ap (λ k. k ∷ ns) is
      | inr o ↦
          let there : is_among n ns ≡ true = sym (ap (λ b. b || is_among n ns) (ne_eqb n m o)) ∙ a in
          let inside : m < length ls = c.0 in
          elim (newer_back ls m ns n c.3 there) [
            | inl p ↦ let q : (link ls n).newer ≡ m = p.1 in absurd (omega (arith, e, q, inside, small))
            | inr p ↦ let q : (link ls n).newer < length ls = p.0 in absurd (omega (arith, e, q, small))
          ]
    ]

module _ (heads : KeyNumbers) (old mid : List Link) (at : RowKey → List ℕ) (t : IsIndexOf heads old at) (key : RowKey) (number : ℕ) (a : is_among number (at key) ≡ true) (led : (link old number).newer ≢ no_number) (u : IsUnlinked old mid number) where
  abbrev at' : RowKey → List ℕ
  at' = put_at at key (without_number number (at key))

  -- the heads are right without the number, which was the first of no key
  headed : (k : RowKey) → get heads k ≡ cond (eq_by_cmp key_cmp k key && eqb (link old number).newer no_number) (some_unless_none (link old number).older) (get heads k)
  headed k =
      sym (cond-false (eq_by_cmp key_cmp k key && eqb (link old number).newer no_number) (some_unless_none (link old number).older) (get heads k)
      (and_right (eq_by_cmp key_cmp k key) (eqb (link old number).newer no_number) (ne_eqb (link old number).newer no_number led)))

  taken : IsIndexOf heads mid at'
  taken = unlinked_index heads heads old mid at t key number u a headed

  pub fresh : (k : RowKey) → is_among number (at' k) ≡ false
  fresh k = ap (is_among number) (put_is heads heads old mid at t key number u a headed k) ∙ among_self number (at k)

  pub within : number < length mid
  within = let w = among_within old no_number (at key) number (t.chained key) a in omega (arith, w, u.size)

  abbrev behind : ℕ
  behind = number_or_none (get heads key)

  starts : behind ≡ first_or_none (at' key)
  starts = ap number_or_none (taken.starts key)

  among_behind : behind ≢ no_number → is_among behind (at' key) ≡ true
  among_behind h = ap (λ k. is_among k (at' key)) starts ∙ first_among (at' key) (λ e. h (starts ∙ e))

  pub behind_within : behind ≢ no_number → behind < length mid
  behind_within h = among_within mid no_number (at' key) behind (taken.chained key) (among_behind h)

  pub behind_other : number ≢ behind
  behind_other e =
      let w = within in
      let small = taken.numbered in
      false≢true (sym (fresh key) ∙ ap (λ k. is_among k (at' key)) e ∙ among_behind (λ h. omega (arith, e, h, w, small)))

  module _ (heads' : KeyNumbers) (new : List Link) (put : heads' ≡ insert heads key number) (j : IsJoined mid new number behind) where
    same : (k : RowKey) → put_at at' key (number ∷ at' key) k ≡ put_at at key (number ∷ without_number number (at key)) k
    same k =
        elim (cases_key k key) [
          | inl e ↦
              put_same at' key (number ∷ at' key) k e ∙ ap (λ ns. number ∷ ns) (put_same at key (without_number number (at key)) key refl)
              ∙ sym (put_same at key (number ∷ without_number number (at key)) k e)
          | inr o ↦
              put_other at' key (number ∷ at' key) k o ∙ put_other at key (without_number number (at key)) k o
              ∙ sym (put_other at key (number ∷ without_number number (at key)) k o)
        ]

    pub fronted_index : IsIndexOf heads' new (put_at at key (number ∷ without_number number (at key)))
    fronted_index =
        subst (IsIndexOf heads' new) (λ i k. same k i)
        (subst (λ m. IsIndexOf m new (put_at at' key (number ∷ at' key))) (sym put)
        (joined_index heads mid new at' taken key number j within fresh))

module _ (heads : KeyNumbers) (ls : List Link) (lists : Lists) (key : RowKey) (number : ℕ) (t : IsIndex heads ls) (view : lists_of heads ls ≡ lists) (a : is_among number (numbers_of lists key) ≡ true) where
  pub among : is_among number (numbers heads ls key) ≡ true
  among = ap (is_among number) (sym (numbers_shown heads ls (numbers heads ls) t key)) ∙ ap (λ m. is_among number (numbers_of m key)) view ∙ a

  -- what the lists are, by the numbers that the links hold
  by_links : (heads' : KeyNumbers) (new : List Link) → IsIndexOf heads' new (put_at (numbers heads ls) key (number ∷ without_number number (numbers heads ls key))) → lists_of heads' new ≡ with_numbers lists key (number ∷ without_number number (numbers_of lists key))
  by_links heads' new t' =
      lists_put heads heads' ls new (numbers heads ls) key (number ∷ without_number number (numbers heads ls key)) t t'
      ∙ ap (λ m. with_numbers m key (number ∷ without_number number (numbers heads ls key))) view
      ∙ ap (λ ns. with_numbers lists key (number ∷ without_number number ns)) (sym (numbers_shown heads ls (numbers heads ls) t key) ∙ ap (λ m. numbers_of m key) view)

  -- the number is in front already
  pub first_lists : (link ls number).newer ≡ no_number → lists ≡ with_numbers lists key (number ∷ without_number number (numbers_of lists key))
  first_lists e = sym view ∙ by_links heads ls (subst (IsIndexOf heads ls) (λ i k. sym (same k) i) t)
    where
      same : (k : RowKey) → put_at (numbers heads ls) key (number ∷ without_number number (numbers heads ls key)) k ≡ numbers heads ls k
      same k =
          elim (cases_key k key) [
            | inl is ↦
                put_same (numbers heads ls) key (number ∷ without_number number (numbers heads ls key)) k is
                ∙ first_is ls number (numbers heads ls key) t.numbered (t.apart key) (t.chained key) among e
                ∙ ap (numbers heads ls) (sym is)
            | inr o ↦ put_other (numbers heads ls) key (number ∷ without_number number (numbers heads ls key)) k o
          ]

  module _ (heads' : KeyNumbers) (mid new : List Link) (led : (link ls number).newer ≢ no_number) (u : IsUnlinked ls mid number) (put : heads' ≡ insert heads key number) (older : ℕ) (is : older ≡ number_or_none (get heads key)) (j : IsJoined mid new number older) where
    fronted : IsIndexOf heads' new (put_at (numbers heads ls) key (number ∷ without_number number (numbers heads ls key)))
    fronted = fronted_index heads ls mid (numbers heads ls) t key number among led u heads' new put (subst (IsJoined mid new number) is j)

    pub front_index : IsIndex heads' new
    front_index = to_index heads' new (put_at (numbers heads ls) key (number ∷ without_number number (numbers heads ls key))) fronted

    pub front_lists : lists_of heads' new ≡ with_numbers lists key (number ∷ without_number number (numbers_of lists key))
    front_lists = by_links heads' new fronted

-- what is put where a number stands is put
pub is_put : {A : Type 0} (o : Option A) (P : Type 0) → is_some o ≡ true → OnSome o P → P
is_put None P some p = absurd (false≢true some)
is_put (Some x) P some p = p
