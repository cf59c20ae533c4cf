-- Each kind of step keeps the rule.
use Rattle.std.proofs.Common.{◌≡◌, ◌≢◌, ◌⊎◌, ℕ, zero, suc, ◌+◌, ◌≤◌, ◌<◌, List, [], ◌∷◌, ◌++◌, length, set, max, Bool, true, false, true≢false, refl, sym, ap, ◌∙◌, subst, ⊎_elim, inl, inr, arith}
use Rattle.std.specs.Prelude.{slice_index}
use mathlib.Core.Option.{some, some-injective, some-ne-none}
use mathlib.Core.Logic.{dite}
use native.Mathlib.Decide.{ℕ_discrete}
use lib.ListN.{get_elem?}
use Rattle.atomic_table.specs.Table.{State, Me, Step, keeps, opening, Allows, Splits, Joins}
use Rattle.atomic_table.proofs.Lists.{at_set, at_snoc, at_longer, set_again, set_here, set_else}
use Rattle.mvo_marks.specs.declared.rule.Known.{Known}
use Rattle.mvo_marks.specs.Marks.{first, onlooker, with_closed, with_raised, with_durable, with_published, Fits, Standing, IsRuleKept, seat_noted, nobody}
use Rattle.mvo_marks.specs.Telling.{HasSeenDurable, HasSeenClosed, HasRaised, HasPublished, HasConfirmed}

in_range : {A : Type 0} (l : List A) (i : ℕ) (a : A) → get_elem? l i ≡ some a → i < length l
in_range [] i a e = absurd (some-ne-none a (sym e))
in_range (x ∷ xs) zero a e = omega arith
in_range (x ∷ xs) (suc i) a e = let h = in_range xs i a e in omega arith

-- one view changes, and the words may rise
changed : (c d c' d' seat id : ℕ) (old new : List ℕ) (views : List Known) (v w : Known) → Standing c d seat old views → get_elem? views id ≡ some v → new ≡ c' ∷ d' ∷ [] → d' ≤ c'
    → Fits c' d' seat id w → w.publishes ≡ v.publishes → ((by : ℕ) (u : Known) → by ≢ id → Fits c d seat by u → Fits c' d' seat by u) → Standing c' d' seat new (set views id w)
changed c d c' d' seat id old new views v w k at is le mine same others =
    let each : (by : ℕ) (u : Known) → get_elem? (set views id w) by ≡ some u → Fits c' d' seat by u =
    λ by u e. ⊎_elim
    (λ (x : (by ≡ id) × (w ≡ u)). subst (λ (y : ℕ × Known). Fits c' d' seat y.0 y.1) (λ i. (sym x.0 i, x.1 i)) mine)
    (λ (x : (by ≢ id) × (get_elem? views by ≡ some u)). others by u x.0 (k.each by u x.1))
    (at_set views id by w u e) in
    office (ℕ_discrete seat id) each
  where
    office : Dec (seat ≡ id) → ((by : ℕ) (u : Known) → get_elem? (set views id w) by ≡ some u → Fits c' d' seat by u) → Standing c' d' seat new (set views id w)
    office (yes e) each =
        let was : k.publisher ≡ v = some-injective _ _ (sym k.there ∙ ap (get_elem? views) e ∙ at) in
        record {
          words_are = is;
          ordered = le;
          publisher = w;
          there = subst (λ (n : ℕ). get_elem? (set views id w) n ≡ some w) (sym e) (set_here views id w (in_range views id v at));
          in_office = same ∙ sym (ap (λ u. u.publishes) was) ∙ k.in_office;
          each = each;
        }
    office (no n) each =
        record { words_are = is; ordered = le; publisher = k.publisher; there = set_else views id seat w n ∙ k.there; in_office = k.in_office; each = each }

pub begins : (start : ℕ) → IsRuleKept (opening (start ∷ start ∷ []) [] (first start))
begins start = (start, start, 0, record { words_are = refl; ordered = omega arith; publisher = first start; there = refl; in_office = refl; each = one })
  where
    one : (by : ℕ) (v : Known) → get_elem? (first start ∷ []) by ≡ some v → Fits start start 0 by v
    one zero v e = subst (Fits start start 0 0) (some-injective _ _ e) (record { closed_seen = omega arith; durable_seen = omega arith; one = λ _. refl; published = λ _. refl })
    one (suc by) v e = absurd (some-ne-none v (sym e))

off : false ≡ true → ⊥
off e = true≢false (sym e)

pub splits : (id : ℕ) (v : Known) → Splits IsRuleKept id v v (onlooker v)
splits id v s kept at =
    let c = kept.0 in
    let d = kept.1 in
    let seat = kept.2 in
    let k = kept.3 in
    let same = set_again s.views id v at in
    let mine = k.each id v at in (
      c,
      d,
      seat,
      record {
        words_are = k.words_are;
        ordered = k.ordered;
        publisher = k.publisher;
        there = at_longer (set s.views id v) (onlooker v ∷ []) seat k.publisher (ap (λ l. get_elem? l seat) same ∙ k.there);
        in_office = k.in_office;
        each = λ by u e. ⊎_elim
            (λ (was : get_elem? (set s.views id v) by ≡ some u). k.each by u (subst (λ l. get_elem? l by ≡ some u) same was))
            (λ (new : onlooker v ≡ u). subst (Fits c d seat by) new (record { closed_seen = mine.closed_seen; durable_seen = mine.durable_seen; one = λ x. absurd (off x); published = λ x. absurd (off x) }))
            (at_snoc (set s.views id v) (onlooker v) u by e);
      },
    )

pub sees_durable : (slots id : ℕ) (me : Me ℕ Known) (st : Step ℕ) → Allows IsRuleKept slots id me 1 (λ n. n) (HasSeenDurable st me)
sees_durable slots id me st s kept count at small =
    let c = kept.0 in
    let d = kept.1 in
    let seat = kept.2 in
    let k = kept.3 in
    let n = slice_index s.words 1 in
    let found : n ≡ d = ap (λ l. slice_index l 1) k.words_are in
    let mine = k.each id me.0 at in
    let words = ap (λ l. set l 1 (slice_index l 1)) k.words_are in
    let fits : Fits c d seat id (with_durable me.0 n) = record { closed_seen = mine.closed_seen; durable_seen = omega (arith, found); one = mine.one; published = mine.published } in
    (with_durable me.0 n, keeps, tt, (c, d, seat, changed c d c d seat id s.words _ s.views me.0 _ k at words k.ordered fits refl (λ by u apart f. f)), (refl, omega (arith, found, mine.durable_seen)))

pub sees_closed : (slots id : ℕ) (me : Me ℕ Known) (st : Step ℕ) → Allows IsRuleKept slots id me 0 (λ n. n) (HasSeenClosed st me)
sees_closed slots id me st s kept count at small =
    let c = kept.0 in
    let d = kept.1 in
    let seat = kept.2 in
    let k = kept.3 in
    let n = slice_index s.words 0 in
    let found : n ≡ c = ap (λ l. slice_index l 0) k.words_are in
    let mine = k.each id me.0 at in
    let words = ap (λ l. set l 0 (slice_index l 0)) k.words_are in
    let fits : Fits c d seat id (with_closed me.0 n) = record { closed_seen = omega (arith, found); durable_seen = mine.durable_seen; one = mine.one; published = mine.published } in
    (with_closed me.0 n, keeps, tt, (c, d, seat, changed c d c d seat id s.words _ s.views me.0 _ k at words k.ordered fits refl (λ by u apart f. f)), (refl, omega (arith, found, mine.closed_seen)))

pub raises : (slots id : ℕ) (me : Me ℕ Known) (st : Step ℕ) → Allows IsRuleKept slots id me 0 (λ n. max n st.first) (HasRaised st me)
raises slots id me st s kept count at small =
    let c = kept.0 in
    let d = kept.1 in
    let seat = kept.2 in
    let k = kept.3 in
    let n = slice_index s.words 0 in
    let c' = max n st.first in
    let found : n ≡ c = ap (λ l. slice_index l 0) k.words_are in
    let more : c ≤ c' = omega (arith, found) in
    let mine = k.each id me.0 at in
    let words = ap (λ l. set l 0 c') k.words_are in
    let fits : Fits c' d seat id (with_raised me.0 c' st.first) = record { closed_seen = omega arith; durable_seen = mine.durable_seen; one = mine.one; published = mine.published } in
    let le = k.ordered in (
      with_raised me.0 c' st.first,
      keeps,
      tt,
      (
        c',
        d,
        seat,
        changed c d c' d seat id s.words _ s.views me.0 _ k at words (omega (arith, le, more)) fits refl
            (λ by u apart f. let h = f.closed_seen in record { closed_seen = omega (arith, h, more); durable_seen = f.durable_seen; one = f.one; published = f.published }),
      ),
      (refl, omega (arith, found, mine.closed_seen)),
    )

-- a publishing seat may raise the durable word as far as it has seen the closed one
pub publishes : (slots id : ℕ) (me : Me ℕ Known) (st : Step ℕ) → me.0.publishes ≡ true → st.first ≤ me.0.closed → Allows IsRuleKept slots id me 1 (λ n. max n st.first) (HasPublished st me)
publishes slots id me st may far s kept count at small =
    let c = kept.0 in
    let d = kept.1 in
    let seat = kept.2 in
    let k = kept.3 in
    let n = slice_index s.words 1 in
    let d' = max n st.first in
    let found : n ≡ d = ap (λ l. slice_index l 1) k.words_are in
    let more : d ≤ d' = omega (arith, found) in
    let mine = k.each id me.0 at in
    let here : id ≡ seat = mine.one may in
    let words = ap (λ l. set l 1 d') k.words_are in
    let fits : Fits c d' seat id (with_published me.0 d') = record { closed_seen = mine.closed_seen; durable_seen = omega arith; one = mine.one; published = λ _. refl } in
    let le = k.ordered in
    let seen = mine.closed_seen in (
      with_published me.0 d',
      keeps,
      tt,
      (
        c,
        d',
        seat,
        changed c d c d' seat id s.words _ s.views me.0 _ k at words (omega (arith, le, far, seen, found)) fits refl
            (λ by u apart f. let h = f.durable_seen in record { closed_seen = f.closed_seen; durable_seen = omega (arith, h, more); one = f.one; published = λ p. absurd (apart (f.one p ∙ sym here)) }),
      ),
      (refl, found ∙ sym (mine.published may)),
    )

pub confirms : (slots id : ℕ) (me : Me ℕ Known) (st : Step ℕ) → me.0.publishes ≡ true → Allows IsRuleKept slots id me 1 (λ n. n) (HasConfirmed st me)
confirms slots id me st may s kept count at small =
    let k = kept.3 in
    let found : slice_index s.words 1 ≡ kept.1 = ap (λ l. slice_index l 1) k.words_are in
    let r = sees_durable slots id me st s kept count at small in
    (r.0, r.1, r.2, r.3, (r.4.0, r.4.1, found ∙ sym ((k.each id me.0 at).published may)))

-- the publisher takes in what an onlooker has seen
pub takes_in : (id : ℕ) (v : Known) (other : ℕ) (u : Known) → v.publishes ≡ true → u.publishes ≡ false → Joins IsRuleKept id v other u (seat_noted v u) nobody
takes_in id v other u may not s kept at apart there =
    let c = kept.0 in
    let d = kept.1 in
    let seat = kept.2 in
    let k = kept.3 in
    let mine = k.each id v at in
    let theirs : Fits c d seat other u = ⊎_elim
    (λ (x : (other ≡ id) × (seat_noted v u ≡ u)). absurd (apart x.0))
    (λ (x : (other ≢ id) × (get_elem? s.views other ≡ some u)). k.each other u x.1)
    (at_set s.views id other (seat_noted v u) u there) in
    let low = mine.durable_seen in
    let low' = theirs.durable_seen in
    let fits : Fits c d seat id (seat_noted v u) = record { closed_seen = mine.closed_seen; durable_seen = omega (arith, low, low'); one = mine.one; published = mine.published } in
    let first = changed c d c d seat id s.words s.words s.views v (seat_noted v u) k at k.words_are k.ordered fits refl (λ by w far f. f) in
    let none : Fits c d seat other nobody = record { closed_seen = omega arith; durable_seen = omega arith; one = λ x. absurd (off x); published = λ x. absurd (off x) } in
    (c, d, seat, changed c d c d seat other s.words s.words (set s.views id (seat_noted v u)) u nobody first there k.words_are k.ordered none (sym not) (λ by w far f. f))
