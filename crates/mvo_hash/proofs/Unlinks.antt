-- A number is taken out from between its neighbours.
use Rattle.std.proofs.Common.{◌≡◌, ◌≢◌, ℕ, ◌<◌, ◌≤◌, ◌&&◌, ◌||◌, eqb, not, inl, inr, Bool, List, [], ◌∷◌, true, false, cond, length, None, Some, refl, sym, ap, ◌∙◌, subst, arith}
use Rattle.std.proofs.lemmas.Bool.{cond-true, cond-false, cases_eq, cases_Bool, eq-eqb, ne_eqb, eqb-true, or_cases, or_left, or_right, or_parts, and_right, false≢true, false_from_ne_true}
use Rattle.std.specs.Prelude.{is_some}
use Rattle.std.specs.Ordering.{eq_by_cmp}
use Rattle.std.specs.FinMap.{get, insert, remove, get-insert, get-remove}
use Rattle.mvo_types.specs.declared.row.RowKey.{RowKey}
use Rattle.mvo_types.specs.Keys.{key_cmp}
use Rattle.mvo_types.proofs.Maps.{keys_total}
use Rattle.mvo_hash.specs.declared.link.Link.{Link}
use Rattle.mvo_hash.specs.Table.{KeyNumbers}
use Rattle.mvo_hash.specs.Lists.{Lists, newest_of, is_among, without_number, numbers_of, with_numbers}
use Rattle.mvo_hash.specs.Links.{no_number, unheld, link, first_or_none, some_unless_none, IsChain, AreDistinctNumbers, IsIndexOf, IsIndex, IsUnlinked, numbers, lists_of}
use Rattle.mvo_hash.proofs.Finds.{same_key, other_key, cases_key}
use Rattle.mvo_hash.proofs.Chains.{eqb_same, among_within, newest_is, older_back, newer_back}
use Rattle.mvo_hash.proofs.Joins.{held_within}
use Rattle.mvo_hash.proofs.Views.{put_at, put_same, put_other, numbers_shown, to_index, lists_put}

pub without_here : (n m : ℕ) (ns : List ℕ) → eqb n m ≡ true → without_number n (m ∷ ns) ≡ without_number n ns
without_here n m ns e = ap (λ b. cond (not b) (m ∷ without_number n ns) (without_number n ns)) e

pub without_there : (n m : ℕ) (ns : List ℕ) → eqb n m ≡ false → without_number n (m ∷ ns) ≡ m ∷ without_number n ns
without_there n m ns e = ap (λ b. cond (not b) (m ∷ without_number n ns) (without_number n ns)) e

-- to take out what isn't there changes nothing
pub without_absent : (n : ℕ) (ns : List ℕ) → is_among n ns ≡ false → without_number n ns ≡ ns
without_absent n [] a = refl
without_absent n (m ∷ ns) a = let h = or_parts (eqb n m) (is_among n ns) a in without_there n m ns h.0 ∙ ap (λ ms. m ∷ ms) (without_absent n ns h.1)

pub among_before : (n m : ℕ) (ns : List ℕ) → is_among m (without_number n ns) ≡ true → is_among m ns ≡ true
among_before n m [] a = absurd (false≢true a)
among_before n m (k ∷ ns) a =
    elim (cases_Bool (eqb n k)) [
      | inl e ↦ or_right (eqb m k) (is_among m ns) (among_before n m ns (ap (is_among m) (sym (without_here n k ns e)) ∙ a))
      | inr f ↦ elim (or_cases (eqb m k) (is_among m (without_number n ns)) (ap (is_among m) (sym (without_there n k ns f)) ∙ a)) [
        | inl is ↦ or_left (eqb m k) (is_among m ns) is
        | inr b ↦ or_right (eqb m k) (is_among m ns) (among_before n m ns b)
      ]
    ]

pub among_after : (n m : ℕ) (ns : List ℕ) → m ≢ n → is_among m ns ≡ true → is_among m (without_number n ns) ≡ true
among_after n m [] other a = absurd (false≢true a)
among_after n m (k ∷ ns) other a =
    elim (cases_Bool (eqb n k)) [
      | inl e ↦ ap (is_among m) (without_here n k ns e) ∙ elim (or_cases (eqb m k) (is_among m ns) a) [
        | inl is ↦ absurd (other (eqb-true m k is ∙ sym (eqb-true n k e)))
        | inr b ↦ among_after n m ns other b
      ]
      | inr f ↦ ap (is_among m) (without_there n k ns f) ∙ elim (or_cases (eqb m k) (is_among m ns) a) [
        | inl is ↦ or_left (eqb m k) (is_among m (without_number n ns)) is
        | inr b ↦ or_right (eqb m k) (is_among m (without_number n ns)) (among_after n m ns other b)
      ]
    ]

pub among_self : (n : ℕ) (ns : List ℕ) → is_among n (without_number n ns) ≡ false
among_self n [] = refl
among_self n (m ∷ ns) =
    elim (cases_Bool (eqb n m)) [
      | inl e ↦ ap (is_among n) (without_here n m ns e) ∙ among_self n ns
      | inr f ↦ ap (is_among n) (without_there n m ns f) ∙ ap (λ b. b || is_among n (without_number n ns)) f ∙ among_self n ns
    ]

pub apart_without : (n : ℕ) (ns : List ℕ) → AreDistinctNumbers ns → AreDistinctNumbers (without_number n ns)
apart_without n [] a = tt
apart_without n (m ∷ ns) a =
    elim (cases_Bool (eqb n m)) [
      | inl e ↦ subst AreDistinctNumbers (sym (without_here n m ns e)) (apart_without n ns a.1)
      | inr f ↦ subst AreDistinctNumbers (sym (without_there n m ns f))
          (false_from_ne_true _ (λ h. false≢true (sym a.0 ∙ among_before n m ns h)), apart_without n ns a.1)
    ]

-- what stands at a place once the number is skipped
abbrev pub skip : ℕ → ℕ → ℕ → ℕ
skip number next n = cond (eqb n number) next n

skip_other : (number next n : ℕ) → n ≢ number → skip number next n ≡ n
skip_other number next n h = cond-false (eqb n number) next n (ne_eqb n number h)

skip_same : (number next n : ℕ) → n ≡ number → skip number next n ≡ next
skip_same number next n h = cond-true (eqb n number) next n (eq-eqb n number h)

skip_next : (number next n : ℕ) → n ≡ next → skip number next n ≡ next
skip_next number next n h = elim (cases_eq n number) [ inl e ↦ skip_same number next n e | inr o ↦ skip_other number next n o ∙ h ]

eqb_alike : (a b c d : ℕ) → (a ≡ b → c ≡ d) → (c ≡ d → a ≡ b) → eqb a b ≡ eqb c d
eqb_alike a b c d to from =
    elim (cases_eq a b) [
      | inl e ↦ eq-eqb a b e ∙ sym (eq-eqb c d (to e))
      | inr n ↦ ne_eqb a b n ∙ sym (ne_eqb c d (λ e. n (from e)))
    ]

module _ (old new : List Link) (number : ℕ) (small : length old ≤ unheld) (within : number < length old) (u : IsUnlinked old new number) where
  abbrev ahead : ℕ
  ahead = (link old number).newer

  abbrev behind : ℕ
  behind = (link old number).older

  real : number ≢ no_number
  real e = omega (arith, e, within, small)

  -- the first number, once the number is skipped
  first_without : (newer : ℕ) (ns : List ℕ) → AreDistinctNumbers ns → IsChain old newer ns → skip number behind (first_or_none ns) ≡ first_or_none (without_number number ns)
  first_without newer [] a c = skip_other number behind no_number (λ e. real (sym e))
  first_without newer (m ∷ ns) a c =
      elim (cases_eq m number) [
        | inl e ↦
            skip_same number behind m e ∙ ap (λ k. (link old k).older) (sym e) ∙ c.2
            ∙ ap first_or_none (sym (without_absent number ns (ap (λ k. is_among k ns) (sym e) ∙ a.0)))
            ∙ ap first_or_none (sym (without_here number m ns (eq-eqb number m (sym e))))
        | inr o ↦
            skip_other number behind m o
            ∙ ap first_or_none (sym (without_there number m ns (ne_eqb number m (λ e. o (sym e)))))
      ]

  -- the other numbers' links skip the number
  pub record Skips (ns : List ℕ) : Type 0 where
    pub older : (n : ℕ) → is_among n ns ≡ true → n ≢ number → (link new n).older ≡ skip number behind (link old n).older
    pub newer : (n : ℕ) → is_among n ns ≡ true → n ≢ number → (link new n).newer ≡ skip number ahead (link old n).newer

  pub chain_without : (newer : ℕ) (ns : List ℕ) → Skips ns → AreDistinctNumbers ns → IsChain old newer ns → IsChain new (skip number ahead newer) (without_number number ns)
  chain_without newer [] s a c = tt
  chain_without newer (m ∷ ns) s a c =
      let rest : IsChain new (skip number ahead m) (without_number number ns) = chain_without m ns (record {
        older = λ n h. s.older n (or_right (eqb n m) (is_among n ns) h);
        newer = λ n h. s.newer n (or_right (eqb n m) (is_among n ns) h);
      }) a.1 c.3 in
      elim (cases_eq m number) [
        | inl e ↦
            subst (IsChain new (skip number ahead newer)) (sym (without_here number m ns (eq-eqb number m (sym e))))
            (subst (λ k. IsChain new k (without_number number ns))
            (skip_same number ahead m e ∙ sym (skip_next number ahead newer (sym c.1 ∙ ap (λ k. (link old k).newer) e))) rest)
        | inr o ↦
            let here : is_among m (m ∷ ns) ≡ true = or_left (eqb m m) (is_among m ns) (eqb_same m) in
            let inside : m < length old = c.0 in
            subst (IsChain new (skip number ahead newer)) (sym (without_there number m ns (ne_eqb number m (λ e. o (sym e))))) (
              omega (arith, inside, u.size),
              s.newer m here o ∙ ap (skip number ahead) c.1,
              s.older m here o ∙ ap (skip number behind) c.2 ∙ first_without m ns a.1 c.3,
              subst (λ k. IsChain new k (without_number number ns)) (skip_other number ahead m o) rest,
            )
      ]

  module _ (own : List ℕ) (c : IsChain old no_number own) (a : is_among number own ≡ true) where
    pub skips : (ns : List ℕ) → IsChain old no_number ns → Skips ns
    skips ns d = record {
      older = λ n h o.
          let inside : n < length old = among_within old no_number ns n d h in
          u.older n inside o ∙ ap (λ b. cond b behind (link old n).older) (eqb_alike n ahead (link old n).older number
          (λ e. elim (newer_back old no_number own number c a) [
            | inl p ↦ let is : ahead ≡ no_number = p.1 in absurd (omega (arith, e, is, inside, small))
            | inr p ↦ ap (λ k. (link old k).older) e ∙ p.1
          ])
          (λ e. elim (older_back old no_number ns n d h) [
            | inl p ↦ absurd (real (sym e ∙ p))
            | inr p ↦ sym p.1 ∙ ap (λ k. (link old k).newer) e
          ]));
      newer = λ n h o.
          let inside : n < length old = among_within old no_number ns n d h in
          u.newer n inside o ∙ ap (λ b. cond b ahead (link old n).newer) (eqb_alike n behind (link old n).newer number
          (λ e. elim (older_back old no_number own number c a) [
            | inl p ↦ let is : behind ≡ no_number = p in absurd (omega (arith, e, is, inside, small))
            | inr p ↦ ap (λ k. (link old k).newer) e ∙ p.1
          ])
          (λ e. elim (newer_back old no_number ns n d h) [
            | inl p ↦ absurd (real (sym e ∙ p.1))
            | inr p ↦ sym p.1 ∙ ap (λ k. (link old k).older) e
          ]));
    }

    -- a number that is held now was held before
    pub held_before : (n : ℕ) → n ≢ number → (link new n).newer ≢ unheld → (link old n).newer ≢ unheld
    held_before n o h e =
        let inside : n < length old = (let w = held_within new n h in omega (arith, w, u.size)) in
        elim (cases_eq n behind) [
          | inl is ↦ elim (older_back old no_number own number c a) [
            | inl p ↦ let q : behind ≡ no_number = p in omega (arith, is, q, inside, small)
            | inr p ↦
                let q : (link old n).newer ≡ number = ap (λ k. (link old k).newer) is ∙ p.1 in
                omega (arith, q, e, within, small)
          ]
          | inr b ↦ h (u.newer n inside o ∙ cond-false (eqb n behind) ahead (link old n).newer (ne_eqb n behind b) ∙ e)
        ]

  -- the newest number, once the number is taken out
  pub newest_without : (ns : List ℕ) → AreDistinctNumbers ns → IsChain old no_number ns → is_among number ns ≡ true → newest_of (without_number number ns) ≡ cond (eqb ahead no_number) (some_unless_none behind) (newest_of ns)
  newest_without [] a c h = absurd (false≢true h)
  newest_without (m ∷ ns) a c h =
      elim (cases_eq number m) [
        | inl e ↦
            ap newest_of (without_here number m ns (eq-eqb number m e))
            ∙ ap newest_of (without_absent number ns (ap (λ k. is_among k ns) e ∙ a.0))
            ∙ newest_is old m ns small c.3
            ∙ ap some_unless_none (sym c.2 ∙ ap (λ k. (link old k).older) (sym e))
            ∙ sym (cond-true (eqb ahead no_number) (some_unless_none behind) (Some m) (eq-eqb ahead no_number (ap (λ k. (link old k).newer) e ∙ c.1)))
        | inr o ↦
            let f : eqb number m ≡ false = ne_eqb number m o in
            let there : is_among number ns ≡ true = sym (ap (λ b. b || is_among number ns) f) ∙ h in
            let inside : m < length old = c.0 in
            let led : ahead ≢ no_number = λ e. elim (newer_back old m ns number c.3 there) [
              | inl p ↦ let q : ahead ≡ m = p.1 in omega (arith, e, q, inside, small)
              | inr p ↦ let q : ahead < length old = p.0 in omega (arith, e, q, small)
            ] in
            ap newest_of (without_there number m ns f)
            ∙ sym (cond-false (eqb ahead no_number) (some_unless_none behind) (Some m) (ne_eqb ahead no_number led))
      ]

module _ (heads heads' : KeyNumbers) (old new : List Link) (at : RowKey → List ℕ) (t : IsIndexOf heads old at) (key : RowKey) (number : ℕ) (u : IsUnlinked old new number) (a : is_among number (at key) ≡ true) (headed : (k : RowKey) → get heads' k ≡ cond (eq_by_cmp key_cmp k key && eqb (link old number).newer no_number) (some_unless_none (link old number).older) (get heads k)) where
  abbrev at' : RowKey → List ℕ
  at' = put_at at key (without_number number (at key))

  within : number < length old
  within = among_within old no_number (at key) number (t.chained key) a

  all_skip : (k : RowKey) → IsChain new no_number (without_number number (at k))
  all_skip k =
      subst (λ n. IsChain new n (without_number number (at k)))
      (skip_other number (link old number).newer no_number (λ e. let w = within in let s = t.numbered in omega (arith, e, w, s)))
      (chain_without old new number t.numbered within u no_number (at k) (skips old new number t.numbered within u (at key) (t.chained key) a (at k) (t.chained k)) (t.apart k) (t.chained k))

  absent : (k : RowKey) → k ≢ key → is_among number (at k) ≡ false
  absent k o = false_from_ne_true _ (λ h. o (t.only k key number h a))

  -- what each key has is what it had without the number
  pub put_is : (k : RowKey) → at' k ≡ without_number number (at k)
  put_is k =
      elim (cases_key k key) [
        | inl e ↦ put_same at key (without_number number (at key)) k e ∙ ap (λ q. without_number number (at q)) (sym e)
        | inr o ↦ put_other at key (without_number number (at key)) k o ∙ sym (without_absent number (at k) (absent k o))
      ]

  pub unlinked_index : IsIndexOf heads' new at'
  unlinked_index = record {
    numbered = let h = t.numbered in omega (arith, h, u.size);
    starts = λ k. headed k ∙ elim (cases_key k key) [
      | inl e ↦
          ap (λ b. cond (b && eqb (link old number).newer no_number) (some_unless_none (link old number).older) (get heads k)) (same_key k key e)
          ∙ ap (cond (eqb (link old number).newer no_number) (some_unless_none (link old number).older)) (t.starts k ∙ ap (λ q. newest_of (at q)) e)
          ∙ sym (newest_without old new number t.numbered within u (at key) (t.apart key) (t.chained key) a)
          ∙ ap newest_of (sym (put_same at key (without_number number (at key)) k e))
      | inr o ↦
          ap (λ b. cond (b && eqb (link old number).newer no_number) (some_unless_none (link old number).older) (get heads k)) (other_key k key o)
          ∙ t.starts k ∙ ap newest_of (sym (put_other at key (without_number number (at key)) k o))
    ];
    chained = λ k. subst (IsChain new no_number) (sym (put_is k)) (all_skip k);
    apart = λ k. subst AreDistinctNumbers (sym (put_is k)) (apart_without number (at k) (t.apart k));
    only = λ j k n x y.
        t.only j k n (among_before number n (at j) (ap (is_among n) (sym (put_is j)) ∙ x)) (among_before number n (at k) (ap (is_among n) (sym (put_is k)) ∙ y));
    held = λ n h. elim (cases_eq n number) [
      | inl e ↦ absurd (h (ap (λ k. (link new k).newer) e ∙ ap (λ (l : Link). l.newer) u.here))
      | inr o ↦
          let was = t.held n (held_before old new number t.numbered within u (at key) (t.chained key) a n o h) in
          (was.0, ap (is_among n) (put_is was.0) ∙ among_after number n (at was.0) o was.1)
    ];
  }

both : (a b : Bool) → b ≡ true → (a && b) ≡ a
both true b t = t
both false b t = refl

-- what the heads have, once the newest number of a key may have gone
pub beheaded : (heads heads' : KeyNumbers) (key : RowKey) (newer older : ℕ) → heads' ≡ cond (eqb newer no_number) (cond (eqb older no_number) (remove heads key) (insert heads key older)) heads → (k : RowKey) → get heads' k ≡ cond (eq_by_cmp key_cmp k key && eqb newer no_number) (some_unless_none older) (get heads k)
beheaded heads heads' key newer older is k =
    ap (λ m. get m k) is ∙ elim (cases_Bool (eqb newer no_number)) [
      | inr f ↦
          ap (λ m. get m k) (cond-false (eqb newer no_number) (cond (eqb older no_number) (remove heads key) (insert heads key older)) heads f)
          ∙ sym (cond-false (eq_by_cmp key_cmp k key && eqb newer no_number) (some_unless_none older) (get heads k) (and_right (eq_by_cmp key_cmp k key) (eqb newer no_number) f))
      | inl t ↦
          ap (λ m. get m k) (cond-true (eqb newer no_number) (cond (eqb older no_number) (remove heads key) (insert heads key older)) heads t)
          ∙ elim (cases_Bool (eqb older no_number)) [
            | inl n ↦
                ap (λ m. get m k) (cond-true (eqb older no_number) (remove heads key) (insert heads key older) n) ∙ get-remove keys_total heads key k
                ∙ ap (λ o. cond (eq_by_cmp key_cmp k key) o (get heads k)) (sym (cond-true (eqb older no_number) None (Some older) n))
            | inr s ↦
                ap (λ m. get m k) (cond-false (eqb older no_number) (remove heads key) (insert heads key older) s) ∙ get-insert keys_total heads key older k
                ∙ ap (λ o. cond (eq_by_cmp key_cmp k key) o (get heads k)) (sym (cond-false (eqb older no_number) None (Some older) s))
          ]
          ∙ ap (λ b. cond b (some_unless_none older) (get heads k)) (sym (both (eq_by_cmp key_cmp k key) (eqb newer no_number) t))
    ]

some_newest : (n : ℕ) (ns : List ℕ) → is_among n ns ≡ true → is_some (newest_of ns) ≡ true
some_newest n [] a = absurd (false≢true a)
some_newest n (m ∷ ns) a = refl

module _ (heads heads' : KeyNumbers) (ls new : List Link) (lists : Lists) (key : RowKey) (number : ℕ) (t : IsIndex heads ls) (view : lists_of heads ls ≡ lists) (a : is_among number (numbers_of lists key) ≡ true) where
  among : is_among number (numbers heads ls key) ≡ true
  among = ap (is_among number) (sym (numbers_shown heads ls (numbers heads ls) t key)) ∙ ap (λ m. is_among number (numbers_of m key)) view ∙ a

  pub gone_within : number < length ls
  gone_within = among_within ls no_number (numbers heads ls key) number (t.chained key) among

  pub gone_newer : (link ls number).newer ≢ no_number → (link ls number).newer < length ls
  gone_newer h = elim (newer_back ls no_number (numbers heads ls key) number (t.chained key) among) [ inl p ↦ absurd (h p.1) | inr p ↦ p.0 ]

  pub gone_older : (link ls number).older ≢ no_number → (link ls number).older < length ls
  gone_older h = elim (older_back ls no_number (numbers heads ls key) number (t.chained key) among) [ inl p ↦ absurd (h p) | inr p ↦ p.0 ]

  pub some_head : is_some (get heads key) ≡ true
  some_head = ap is_some (t.starts key) ∙ some_newest number (numbers heads ls key) among

  module _ (u : IsUnlinked ls new number) (gone : Link) (read : gone ≡ link ls number) (is : heads' ≡ cond (eqb gone.newer no_number) (cond (eqb gone.older no_number) (remove heads key) (insert heads key gone.older)) heads) where
    unlinked : IsIndexOf heads' new (put_at (numbers heads ls) key (without_number number (numbers heads ls key)))
    unlinked =
        unlinked_index heads heads' ls new (numbers heads ls) t key number u among
        (beheaded heads heads' key (link ls number).newer (link ls number).older
        (is ∙ ap (λ (l : Link). cond (eqb l.newer no_number) (cond (eqb l.older no_number) (remove heads key) (insert heads key l.older)) heads) read))

    pub removed_index : IsIndex heads' new
    removed_index = to_index heads' new (put_at (numbers heads ls) key (without_number number (numbers heads ls key))) unlinked

    pub removed_lists : lists_of heads' new ≡ with_numbers lists key (without_number number (numbers_of lists key))
    removed_lists =
        lists_put heads heads' ls new (numbers heads ls) key (without_number number (numbers heads ls key)) t unlinked
        ∙ ap (λ m. with_numbers m key (without_number number (numbers heads ls key))) view
        ∙ ap (λ ns. with_numbers lists key (without_number number ns)) (sym (numbers_shown heads ls (numbers heads ls) t key) ∙ ap (λ m. numbers_of m key) view)
