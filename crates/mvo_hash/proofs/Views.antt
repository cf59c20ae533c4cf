-- What the heads and the links show.
use Rattle.std.proofs.Common.{◌≡◌, ◌≢◌, ℕ, ◌<◌, ◌≤◌, inl, inr, Bool, List, [], ◌∷◌, true, false, cond, length, map, get_or, Result, Ok, Err, Option, None, Some, refl, sym, ap, ◌∙◌, subst, arith}
use Rattle.std.proofs.lemmas.Bool.{cond-true, cond-false, cases_Bool, false_from_ne_true, false≢true}
use Rattle.std.proofs.lemmas.List.{get_or_read, get_or_past}
use Rattle.std.specs.Option.{option_map}
use Rattle.std.specs.Result.{OnErr}
use Rattle.std.specs.Ordering.{eq_by_cmp}
use Rattle.std.specs.FinMap.{find, get, get-entries, get-from_entries, get-empty, get-insert, get-remove, empty, entries, same_map}
use Rattle.mvo_types.specs.declared.row.RowKey.{RowKey}
use Rattle.mvo_types.specs.Keys.{key_cmp}
use Rattle.mvo_types.proofs.Maps.{keys_total, exact_keys}
use Rattle.mvo_hash.specs.declared.link.Link.{Link}
use Rattle.mvo_hash.specs.Table.{KeyNumbers, Table}
use Rattle.mvo_hash.specs.Lists.{Lists, no_versions, newest_of, older_of, newer_of, is_among, numbers_of, or_empty, with_numbers, IsHeld, IsNewNumber, IsPastAll}
use Rattle.mvo_hash.specs.Links.{unheld, no_link, link, number_or_none, walk, numbers, listed, lists_of, index_of, first_or_none, some_unless_none, IsIndexOf, IsIndex, IsGrown}
use Rattle.mvo_hash.proofs.Finds.{same_key, other_key}
use Rattle.mvo_hash.proofs.Chains.{walk_chain, chain_short, chain_kept, among_held, among_within, older_is, newer_is}

pub none_if_empty : List ℕ → Option (List ℕ)
none_if_empty [] = None
none_if_empty (n ∷ ns) = Some (n ∷ ns)

or_empty-none_if_empty : (ns : List ℕ) → or_empty (none_if_empty ns) ≡ ns
unfolding none_if_empty
or_empty-none_if_empty [] = refl
or_empty-none_if_empty (n ∷ ns) = refl

find-listed : (ls : List Link) (es : List (RowKey × ℕ)) (q : RowKey) → find key_cmp q (map (listed ls) es) ≡ option_map (walk ls (length ls)) (find key_cmp q es)
find-listed ls [] q = refl
find-listed ls (e ∷ es) q =
    elim (cases_Bool (eq_by_cmp key_cmp q e.0)) [
      | inl t ↦
          cond-true (eq_by_cmp key_cmp q e.0) (Some (walk ls (length ls) e.1)) (find key_cmp q (map (listed ls) es)) t
          ∙ sym (ap (option_map (walk ls (length ls))) (cond-true (eq_by_cmp key_cmp q e.0) (Some e.1) (find key_cmp q es) t))
      | inr f ↦
          cond-false (eq_by_cmp key_cmp q e.0) (Some (walk ls (length ls) e.1)) (find key_cmp q (map (listed ls) es)) f
          ∙ find-listed ls es q
          ∙ sym (ap (option_map (walk ls (length ls))) (cond-false (eq_by_cmp key_cmp q e.0) (Some e.1) (find key_cmp q es) f))
    ]

-- what stands at a key
get-lists_of : (heads : KeyNumbers) (ls : List Link) (q : RowKey) → get (lists_of heads ls) q ≡ option_map (walk ls (length ls)) (get heads q)
get-lists_of heads ls q =
    get-from_entries keys_total (map (listed ls) (entries heads)) q
    ∙ find-listed ls (entries heads) q ∙ ap (option_map (walk ls (length ls))) (sym (get-entries heads q))

module _ (heads : KeyNumbers) (ls : List Link) (at : RowKey → List ℕ) (t : IsIndexOf heads ls at) where
  -- a key's numbers are the walk from its head
  pub numbers_are : (key : RowKey) → numbers heads ls key ≡ at key
  numbers_are key =
      ap (λ o. walk ls (length ls) (number_or_none o)) (t.starts key)
      ∙ walk_chain ls 0xFFFF_FFFF (at key) (length ls) t.numbered (t.chained key) (chain_short ls 0xFFFF_FFFF (at key) (t.chained key) (t.apart key))

  pub to_index : IsIndex heads ls
  to_index = subst (IsIndexOf heads ls) (λ i key. sym (numbers_are key) i) t

  get_some : (key : RowKey) (ns : List ℕ) → at key ≡ ns → option_map (walk ls (length ls)) (newest_of ns) ≡ none_if_empty ns
  unfolding none_if_empty
  get_some key [] e = refl
  get_some key (n ∷ ns) e =
      ap Some (ap (λ ms. walk ls (length ls) (number_or_none (newest_of ms))) (sym e)
      ∙ ap (λ o. walk ls (length ls) (number_or_none o)) (sym (t.starts key)) ∙ numbers_are key ∙ e)

  pub get_lists : (key : RowKey) → get (lists_of heads ls) key ≡ none_if_empty (at key)
  get_lists key = get-lists_of heads ls key ∙ ap (option_map (walk ls (length ls))) (t.starts key) ∙ get_some key (at key) refl

  pub numbers_shown : (key : RowKey) → numbers_of (lists_of heads ls) key ≡ at key
  numbers_shown key = ap or_empty (get_lists key) ∙ or_empty-none_if_empty (at key)

  pub shown_held : (n : ℕ) → (link ls n).newer ≢ unheld → IsHeld (lists_of heads ls) n
  shown_held n h = let held = t.held n h in (held.0, ap (is_among n) (numbers_shown held.0) ∙ held.1)

  pub shown_fresh : (n : ℕ) → (link ls n).newer ≡ unheld → IsNewNumber (lists_of heads ls) n
  shown_fresh n h = record {
    at = λ key. ap (is_among n) (numbers_shown key)
        ∙ false_from_ne_true _ (λ a. among_held ls 0xFFFF_FFFF (at key) n (λ e. omega (arith, e)) t.numbered (t.chained key) a h);
  }

pub shown_newest : (heads : KeyNumbers) (ls : List Link) → IsIndex heads ls → (key : RowKey) → get heads key ≡ newest_of (numbers_of (lists_of heads ls) key)
shown_newest heads ls t key = t.starts key ∙ ap newest_of (sym (numbers_shown heads ls (numbers heads ls) t key))

pub shown_within : (heads : KeyNumbers) (ls : List Link) → IsIndex heads ls → (key : RowKey) (n : ℕ) → is_among n (numbers_of (lists_of heads ls) key) ≡ true → n < length ls
shown_within heads ls t key n a =
    among_within ls 0xFFFF_FFFF (numbers heads ls key) n (t.chained key) (ap (is_among n) (sym (numbers_shown heads ls (numbers heads ls) t key)) ∙ a)

pub shown_older : (heads : KeyNumbers) (ls : List Link) → IsIndex heads ls → (key : RowKey) (n : ℕ) → is_among n (numbers_of (lists_of heads ls) key) ≡ true → older_of n (numbers_of (lists_of heads ls) key) ≡ some_unless_none (link ls n).older
shown_older heads ls t key n a =
    let e = numbers_shown heads ls (numbers heads ls) t key in
    ap (older_of n) e ∙ older_is ls 0xFFFF_FFFF (numbers heads ls key) n t.numbered (t.chained key) (ap (is_among n) (sym e) ∙ a)

pub shown_newer : (heads : KeyNumbers) (ls : List Link) → IsIndex heads ls → (key : RowKey) (n : ℕ) → is_among n (numbers_of (lists_of heads ls) key) ≡ true → newer_of n (numbers_of (lists_of heads ls) key) ≡ some_unless_none (link ls n).newer
shown_newer heads ls t key n a =
    let e = numbers_shown heads ls (numbers heads ls) t key in
    ap (newer_of n) e ∙ newer_is ls 0xFFFF_FFFF (numbers heads ls key) n t.numbered (t.chained key) (ap (is_among n) (sym e) ∙ a)

-- what was read at a place is the link there
pub link_read : (ls : List Link) (i n : ℕ) (l : Link) → i ≡ n → n < length ls → l ≡ get_or ls i l → l ≡ link ls n
link_read ls i n l is within e = get_or_read ls i l (omega (arith, is, within)) e no_link ∙ ap (link ls) is

-- what was read of a number's link says what stands behind it
pub read_older : (heads : KeyNumbers) (ls : List Link) (lists : Lists) → IsIndex heads ls → lists_of heads ls ≡ lists → (key : RowKey) (n i : ℕ) (l : Link) → i ≡ n → l ≡ get_or ls i l → is_among n (numbers_of lists key) ≡ true → older_of n (numbers_of lists key) ≡ some_unless_none l.older
read_older heads ls lists t view key n i l is e a =
    let held : is_among n (numbers_of (lists_of heads ls) key) ≡ true = ap (λ m. is_among n (numbers_of m key)) view ∙ a in
    let read : l ≡ link ls n = link_read ls i n l is (shown_within heads ls t key n held) e in
    ap (λ m. older_of n (numbers_of m key)) (sym view) ∙ shown_older heads ls t key n held
    ∙ ap (λ (k : Link). some_unless_none k.older) (sym read)

-- and what stands in front of it
pub read_newer : (heads : KeyNumbers) (ls : List Link) (lists : Lists) → IsIndex heads ls → lists_of heads ls ≡ lists → (key : RowKey) (n i : ℕ) (l : Link) → i ≡ n → l ≡ get_or ls i l → is_among n (numbers_of lists key) ≡ true → newer_of n (numbers_of lists key) ≡ some_unless_none l.newer
read_newer heads ls lists t view key n i l is e a =
    let held : is_among n (numbers_of (lists_of heads ls) key) ≡ true = ap (λ m. is_among n (numbers_of m key)) view ∙ a in
    let read : l ≡ link ls n = link_read ls i n l is (shown_within heads ls t key n held) e in
    ap (λ m. newer_of n (numbers_of m key)) (sym view) ∙ shown_newer heads ls t key n held
    ∙ ap (λ (k : Link). some_unless_none k.newer) (sym read)

pub walk_starts : (heads : KeyNumbers) (ls : List Link) → IsIndex heads ls → (key : RowKey) → number_or_none (get heads key) ≡ first_or_none (numbers heads ls key)
walk_starts heads ls t key = ap number_or_none (t.starts key)

get-with_numbers : (lists : Lists) (key : RowKey) (ns : List ℕ) (q : RowKey) → get (with_numbers lists key ns) q ≡ cond (eq_by_cmp key_cmp q key) (none_if_empty ns) (get lists q)
unfolding none_if_empty
get-with_numbers lists key [] q = get-remove keys_total lists key q
get-with_numbers lists key (n ∷ ns) q = get-insert keys_total lists key (n ∷ ns) q

-- the numbers of each key, once a key has these
pub numbers_put : (lists : Lists) (key : RowKey) (ns : List ℕ) (q : RowKey) → numbers_of (with_numbers lists key ns) q ≡ cond (eq_by_cmp key_cmp q key) ns (numbers_of lists q)
numbers_put lists key ns q =
    ap or_empty (get-with_numbers lists key ns q) ∙ or_empty-cond (eq_by_cmp key_cmp q key) (none_if_empty ns) (get lists q)
    ∙ ap (λ ms. cond (eq_by_cmp key_cmp q key) ms (numbers_of lists q)) (or_empty-none_if_empty ns)
  where
    or_empty-cond : (b : Bool) (o p : Option (List ℕ)) → or_empty (cond b o p) ≡ cond b (or_empty o) (or_empty p)
    or_empty-cond true o p = refl
    or_empty-cond false o p = refl

-- two that hold the same numbers look the same
pub same_lists : (heads heads' : KeyNumbers) (ls ls' : List Link) (at at' : RowKey → List ℕ) → IsIndexOf heads ls at → IsIndexOf heads' ls' at' → ((q : RowKey) → at' q ≡ at q) → lists_of heads' ls' ≡ lists_of heads ls
same_lists heads heads' ls ls' at at' t t' same =
    same_map keys_total exact_keys _ _ (λ q. get_lists heads' ls' at' t' q ∙ ap none_if_empty (same q) ∙ sym (get_lists heads ls at t q))

-- other numbers at one key
pub put_at : (RowKey → List ℕ) → RowKey → List ℕ → RowKey → List ℕ
put_at at key ns q = cond (eq_by_cmp key_cmp q key) ns (at q)

pub put_at-is : (at : RowKey → List ℕ) (key : RowKey) (ns : List ℕ) (q : RowKey) → put_at at key ns q ≡ cond (eq_by_cmp key_cmp q key) ns (at q)
unfolding put_at
put_at-is at key ns q = refl

pub put_same : (at : RowKey → List ℕ) (key : RowKey) (ns : List ℕ) (q : RowKey) → q ≡ key → put_at at key ns q ≡ ns
put_same at key ns q e = put_at-is at key ns q ∙ cond-true (eq_by_cmp key_cmp q key) ns (at q) (same_key q key e)

pub put_other : (at : RowKey → List ℕ) (key : RowKey) (ns : List ℕ) (q : RowKey) → q ≢ key → put_at at key ns q ≡ at q
put_other at key ns q n = put_at-is at key ns q ∙ cond-false (eq_by_cmp key_cmp q key) ns (at q) (other_key q key n)

cond-none_if_empty : (b : Bool) (ns ms : List ℕ) → none_if_empty (cond b ns ms) ≡ cond b (none_if_empty ns) (none_if_empty ms)
cond-none_if_empty true ns ms = refl
cond-none_if_empty false ns ms = refl

pub lists_put : (heads heads' : KeyNumbers) (ls ls' : List Link) (at : RowKey → List ℕ) (key : RowKey) (ns : List ℕ) → IsIndexOf heads ls at → IsIndexOf heads' ls' (put_at at key ns) → lists_of heads' ls' ≡ with_numbers (lists_of heads ls) key ns
lists_put heads heads' ls ls' at key ns t t' =
    same_map keys_total exact_keys _ _ (λ q.
    get_lists heads' ls' (put_at at key ns) t' q
    ∙ ap none_if_empty (put_at-is at key ns q)
    ∙ cond-none_if_empty (eq_by_cmp key_cmp q key) ns (at q)
    ∙ ap (cond (eq_by_cmp key_cmp q key) (none_if_empty ns)) (sym (get_lists heads ls at t q))
    ∙ sym (get-with_numbers (lists_of heads ls) key ns q))

-- more links change nothing
pub grown_index : (heads : KeyNumbers) (old new : List Link) (at : RowKey → List ℕ) → IsGrown old new → IsIndexOf heads old at → IsIndexOf heads new at
grown_index heads old new at g t = record {
  numbered = g.numbered;
  starts = t.starts;
  chained = λ key. chain_kept old new _ (at key) g.longer (λ n _. g.same n) (t.chained key);
  apart = t.apart;
  only = t.only;
  held = λ n h. t.held n (λ e. h (ap (λ (l : Link). l.newer) (g.same n) ∙ e));
}

pub grown_is : (heads : KeyNumbers) (old new : List Link) → IsGrown old new → IsIndex heads old → IsIndex heads new
grown_is heads old new g t = to_index heads new (numbers heads old) (grown_index heads old new (numbers heads old) g t)

grown_lists : (heads : KeyNumbers) (old new : List Link) → IsGrown old new → IsIndex heads old → lists_of heads new ≡ lists_of heads old
grown_lists heads old new g t =
    same_lists heads heads old new (numbers heads old) (numbers heads old) t (grown_index heads old new (numbers heads old) g t) (λ _. refl)

pub grown_same : (heads : Table) (old new : List Link) → IsGrown old new → IsIndex heads.numbers old → index_of heads new ≡ index_of heads old
grown_same heads old new g t = let e = grown_lists heads.numbers old new g t in cc

-- no key has a number that the links don't reach to
pub past_all : (heads : KeyNumbers) (ls : List Link) → IsIndex heads ls → (n : ℕ) → length ls ≤ n → IsPastAll (lists_of heads ls) n
past_all heads ls t n past m above =
    shown_fresh heads ls (numbers heads ls) t m (ap (λ (l : Link). l.newer) (get_or_past ls m no_link (omega (arith, past, above))))

pub on_err : {T E P : Type 0} (r : Result T E) → P → OnErr r P
on_err (Ok x) p = tt
on_err (Err e) p = p

-- nothing is held at first
pub empty_index : IsIndexOf (empty {R = key_cmp}) [] (λ _. [])
empty_index = record {
  numbered = omega arith;
  starts = λ key. get-empty key_cmp key;
  chained = λ key. tt;
  apart = λ key. tt;
  only = λ j k n a b. absurd (false≢true a);
  held = λ n h. absurd (h refl);
}

empty_lists : lists_of (empty {R = key_cmp}) [] ≡ empty
unfolding none_if_empty
empty_lists = same_map keys_total exact_keys _ _ (λ q. get_lists (empty {R = key_cmp}) [] (λ _. []) empty_index q ∙ sym (get-empty key_cmp q))

pub new_index : (heads : Table) → heads.numbers ≡ empty → heads.room ≡ 0 → index_of heads [] ≡ no_versions
new_index heads none no_room = let e = ap (λ (m : KeyNumbers). lists_of m []) none ∙ empty_lists in cc
