-- From a version to ever older ones of its key, which all have ended.
use Rattle.std.proofs.Common.{◌≡◌, ◌≢◌, ℕ, ◌≤◌, Bool, true, false, cond, eqb, ◌&&◌, ◌||◌, List, [], ◌∷◌, ◌++◌, Option, None, Some, refl, sym, ap, ◌∙◌, arith, inl, inr}
use Rattle.std.specs.Prelude.{◌==◌, min}
use Rattle.std.proofs.lemmas.Bool.{cases_eq, cond-true, cond-false, eq-eqb, eqb-true, ne_eqb, or_cases, or_left, true≢false}
use Rattle.mvo_types.specs.declared.ids.Stamp.{Stamp}
use Rattle.mvo_types.specs.declared.row.RowKey.{RowKey}
use Rattle.mvo_theory.specs.Sound.{how_many}
use Rattle.mvo_chain.specs.declared.version.Version.{Version}
use Rattle.mvo_chain.specs.declared.version.VersionNo.{VersionNo}
use Rattle.mvo_chain.specs.Slots.{Slots, version_at}
use Rattle.mvo_hash.specs.Lists.{Lists, number, numbers_of, newest_of, older_of, is_among, IsHeld, IsOlder}
use Rattle.mvo_hash.proofs.Walks.{older_among}
use Rattle.mvo_representation.specs.Indexes.{is_of_key, HasNumbers}
use Rattle.mvo_versions.specs.Skips.{begin_of_ended, is_at_least, is_ended_from, from_on, leads, IsSkip}
use Rattle.mvo_versions.proofs.Indexing.{number_among}
use Rattle.mvo_versions.proofs.Words.{at_least_lower, began_at}

-- ---- a number that stands once
-- each number stands at most once in the list of a key
pub once : (slots : Slots) (lists : Lists) → HasNumbers slots lists → (key : RowKey) (n : ℕ) → how_many (λ i. i == n) (numbers_of lists key) ≤ 1
once slots lists h key n = let e = h.at key n in go (is_of_key key (Rattle.std.specs.Prelude.slice_index_or slots n None)) e
  where
    go : (b : Bool) → how_many (λ i. i == n) (numbers_of lists key) ≡ cond b 1 0 → how_many (λ i. i == n) (numbers_of lists key) ≤ 1
    go true e = omega (arith, e)
    go false e = omega (arith, e)

counted : (m n : ℕ) → m ≡ n → ◌≡◌ {A = ℕ} (cond (m == n) 1 0) 1
counted m n e = ap (λ (b : Bool). cond {A = ℕ} b 1 0) (eq-eqb m n e)

pub among_counts : (n : ℕ) (ns : List ℕ) → is_among n ns ≡ true → 1 ≤ how_many (λ i. i == n) ns
among_counts n [] a = absurd (true≢false (sym a))
among_counts n (m ∷ ns) a =
    elim (or_cases (eqb n m) (is_among n ns) a) [
      | inl e ↦ let c = counted m n (sym (eqb-true n m e)) in omega (arith, c)
      | inr e ↦ let c = among_counts n ns e in omega (arith, c)
    ]

-- so it isn't in front of a list that has it
pub not_first : (n m : ℕ) (ns : List ℕ) → how_many (λ i. i == n) (m ∷ ns) ≤ 1 → is_among n ns ≡ true → n ≢ m
not_first n m ns few a = λ e. (let c = counted m n (sym e) in let k = among_counts n ns a in absurd (omega (arith, few, c, k)))

pub fewer : (n m : ℕ) (ns : List ℕ) → how_many (λ i. i == n) (m ∷ ns) ≤ 1 → how_many (λ i. i == n) ns ≤ 1
fewer n m ns few = omega (arith, few)

-- ---- the numbers from one on
pub from_first : (n : ℕ) (ns : List ℕ) → from_on n (n ∷ ns) ≡ n ∷ ns
from_first n ns = cond-true (eqb n n) (n ∷ ns) (from_on n ns) (eq-eqb n n refl)

pub from_later : (n m : ℕ) (ns : List ℕ) → n ≢ m → from_on n (m ∷ ns) ≡ from_on n ns
from_later n m ns d = cond-false (eqb n m) (m ∷ ns) (from_on n ns) (ne_eqb n m d)

pub from_head : (n : ℕ) (ns : List ℕ) → is_among n ns ≡ true → (rest : List ℕ) × (from_on n ns ≡ n ∷ rest)
from_head n [] a = absurd (true≢false (sym a))
from_head n (m ∷ ns) a =
    elim (cases_eq n m) [
      | inl e ↦ (ns, ap (λ i. from_on n (i ∷ ns)) (sym e) ∙ from_first n ns)
      | inr d ↦
          let it = from_head n ns (sym (ap (λ b. b || is_among n ns) (ne_eqb n m d)) ∙ a) in
          (it.0, from_later n m ns d ∙ it.1)
    ]

newest_from : (n : ℕ) (ns : List ℕ) → newest_of ns ≡ Some n → (from_on n ns ≡ ns) × (is_among n ns ≡ true)
newest_from n [] e = cc
newest_from n (m ∷ ns) e =
    let q : m ≡ n = cc in
    (ap (λ i. from_on i (m ∷ ns)) (sym q) ∙ from_first m ns, or_left (eqb n m) (is_among n ns) (eq-eqb n m (sym q)))

-- behind a number come those from the next older one on
pub from_next : (n o : ℕ) (ns : List ℕ) → how_many (λ i. i == o) ns ≤ 1 → older_of n ns ≡ Some o → from_on n ns ≡ n ∷ from_on o ns
from_next n o [] few e = cc
from_next n o (m ∷ ns) few e =
    elim (cases_eq n m) [
      | inl q ↦
          let next = newest_from o ns (sym (cond-true (eqb n m) (newest_of ns) (older_of n ns) (eq-eqb n m q)) ∙ e) in
          ap (λ i. from_on n (i ∷ ns)) (sym q) ∙ from_first n ns
          ∙ ap (λ xs. n ∷ xs) (sym next.0 ∙ sym (from_later o m ns (not_first o m ns few next.1)))
      | inr d ↦
          let older = sym (cond-false (eqb n m) (newest_of ns) (older_of n ns) (ne_eqb n m d)) ∙ e in
          from_later n m ns d
          ∙ from_next n o ns (fewer o m ns few) older
          ∙ ap (λ xs. n ∷ xs) (sym (from_later o m ns (not_first o m ns few (older_among n ns o older))))
    ]

-- the list from a number on, where it stands
pub among_split : (n : ℕ) (front rest : List ℕ) → is_among n (front ++ n ∷ rest) ≡ true
among_split n [] rest = or_left (eqb n n) (is_among n rest) (eq-eqb n n refl)
among_split n (m ∷ front) rest = Rattle.std.proofs.lemmas.Bool.or_right (eqb n m) (is_among n (front ++ n ∷ rest)) (among_split n front rest)

pub from_split : (n : ℕ) (front rest : List ℕ) → how_many (λ i. i == n) (front ++ n ∷ rest) ≤ 1 → from_on n (front ++ n ∷ rest) ≡ n ∷ rest
from_split n [] rest few = from_first n rest
from_split n (m ∷ front) rest few =
    from_later n m (front ++ n ∷ rest) (not_first n m (front ++ n ∷ rest) few (among_split n front rest))
    ∙ from_split n front rest (fewer n m (front ++ n ∷ rest) few)

-- ---- from a number on to an older one
-- all up to it have ended, and a skip from it on is one from the first on
pub record Reaches (slots : Slots) (lists : Lists) (n at least : ℕ) : Type 0 where
  pub ended : is_ended_from slots least at ≡ true
  pub back : (key : RowKey) → is_among n (numbers_of lists key) ≡ true → is_among at (numbers_of lists key) ≡ true
  pub leads : (key : RowKey) → is_among n (numbers_of lists key) ≡ true → (b to : ℕ) → b ≤ least → leads slots b to (from_on at (numbers_of lists key)) ≡ true → leads slots b to (from_on n (numbers_of lists key)) ≡ true

pub reached_itself : (slots : Slots) (lists : Lists) (n : ℕ) (s : Stamp) → begin_of_ended (version_at slots (number n)) ≡ Some s → Reaches slots lists n n s.0
reached_itself slots lists n s e = record {
  ended = began_at s.0 s (begin_of_ended (version_at slots (number n))) e (omega arith);
  back = λ key a. a;
  leads = λ key a b to le l. l;
}

pub reached_older : (slots : Slots) (lists : Lists) (n at least o : ℕ) (s : Stamp) (lower : ℕ) → HasNumbers slots lists → Reaches slots lists n at least → IsOlder lists at (Some o) → begin_of_ended (version_at slots (number o)) ≡ Some s → lower ≡ min least s.0 → Reaches slots lists n o lower
reached_older slots lists n at least o s lower h r older e low = record {
  ended = began_at lower s (begin_of_ended (version_at slots (number o))) e (omega (arith, low));
  back = λ key a. older_among at (numbers_of lists key) o (next key a);
  leads = λ key a b to le l. (let b_low : b ≤ least = omega (arith, low, le) in
      r.leads key a b to b_low
      (ap (leads slots b to) (from_next at o (numbers_of lists key) (once slots lists h key o) (next key a))
      ∙ ap (λ x. x && (eqb at to || leads slots b to (from_on o (numbers_of lists key)))) (at_least_lower b least (begin_of_ended (version_at slots (number at))) b_low r.ended)
      ∙ ap (λ x. eqb at to || x) l
      ∙ or_true (eqb at to)));
}
  where
    or_true : (x : Bool) → (x || true) ≡ true
    or_true true = refl
    or_true false = refl

    next : (key : RowKey) → is_among n (numbers_of lists key) ≡ true → older_of at (numbers_of lists key) ≡ Some o
    next key a = sym (older.at key (r.back key a))

-- so it is a skip
pub reached_skip : (slots : Slots) (lists : Lists) (n : ℕ) (to : VersionNo) (least : Stamp) → Reaches slots lists n to.0 least.0 → IsSkip slots lists n (record { to = to; least = least })
reached_skip slots lists n to least r = record {
  at = λ key a. (let it = from_head to.0 (numbers_of lists key) (r.back key a) in
      r.leads key a least.0 to.0 (omega arith)
      (ap (leads slots least.0 to.0) it.1
      ∙ ap (λ x. x && (eqb to.0 to.0 || leads slots least.0 to.0 it.0)) r.ended
      ∙ ap (λ x. x || leads slots least.0 to.0 it.0) (eq-eqb to.0 to.0 refl)));
}

-- what has ended is held
pub held_if_ended : (slots : Slots) (lists : Lists) (n b : ℕ) → HasNumbers slots lists → is_ended_from slots b n ≡ true → IsHeld lists n
held_if_ended slots lists n b h e = go (version_at slots (number n)) refl e
  where
    go : (o : Option Version) → version_at slots (number n) ≡ o → is_at_least b (begin_of_ended o) ≡ true → IsHeld lists n
    go None is q = absurd (true≢false (sym q))
    go (Some v) is q = (v.row.key, number_among slots lists n v h is)
