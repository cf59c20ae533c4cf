-- What tables that share the keys out hold together.
use Rattle.std.proofs.Common.{◌≡◌, ◌≢◌, ◌⊎◌, inl, inr, ℕ, zero, suc, ◌<◌, ◌≤◌, List, [], ◌∷◌, ◌++◌, Bool, true, false, cond, Option, None, Some, length, get_or, set, replicate, refl, sym, ap, ◌∙◌, arith}
use Rattle.std.proofs.lemmas.Bool.{cond-false, cases_eq, cases_lt}
use Rattle.std.proofs.lemmas.List.{get_or_past, get_or_read, get_or_push, get_or_append_left, length_push, get_or-set_same, get_or-set_other, length-set, length-replicate}
use Rattle.std.specs.Option.{option_or}
use Rattle.std.specs.Ordering.{eq_by_cmp}
use Rattle.std.specs.FinMap.{find, get, insert, remove, entries, get-entries, get-from_entries, get-empty, get-insert, get-remove, same_map}
use Rattle.mvo_types.specs.declared.row.RowKey.{RowKey}
use Rattle.mvo_types.specs.Keys.{key_cmp}
use Rattle.mvo_types.proofs.Maps.{keys_total, exact_keys}
use Rattle.mvo_hash.specs.declared.seeds.Seeds.{Seeds}
use Rattle.mvo_hash.specs.Table.{KeyNumbers, Table, no_keys}
use Rattle.mvo_hash.specs.Shards.{no_table, table, all_entries, joined, shard_of_key, IsSharded, AreMoved}
use Rattle.mvo_hash.specs.Home.{hash_of, shard_of}
use Rattle.mvo_hash.proofs.Finds.{other_key, cases_key}

find-joined : (es fs : List (RowKey × ℕ)) (q : RowKey) → find key_cmp q (es ++ fs) ≡ option_or (find key_cmp q es) (find key_cmp q fs)
find-joined [] fs q = refl
find-joined (e ∷ es) fs q = go (eq_by_cmp key_cmp q e.0) (find-joined es fs q)
  where
    go : (b : Bool) → find key_cmp q (es ++ fs) ≡ option_or (find key_cmp q es) (find key_cmp q fs) → cond b (Some e.1) (find key_cmp q (es ++ fs)) ≡ option_or (cond b (Some e.1) (find key_cmp q es)) (find key_cmp q fs)
    go true h = refl
    go false h = h

find_first : (t : Table) (ts : List Table) (q : RowKey) → find key_cmp q (all_entries (t ∷ ts)) ≡ option_or (get t.numbers q) (find key_cmp q (all_entries ts))
find_first t ts q = find-joined (entries t.numbers) (all_entries ts) q ∙ ap (λ o. option_or o (find key_cmp q (all_entries ts))) (sym (get-entries t.numbers q))

-- a key that no table has
find_none : (ts : List Table) (q : RowKey) → ((j : ℕ) → get (table ts j).numbers q ≡ None) → find key_cmp q (all_entries ts) ≡ None
find_none [] q none = refl
find_none (t ∷ ts) q none =
    find_first t ts q ∙ ap (λ o. option_or o (find key_cmp q (all_entries ts))) (none 0) ∙ find_none ts q (λ j. none (suc j))

none_or : (o : Option ℕ) → (o ≡ None) ⊎ (o ≢ None)
none_or None = inl refl
none_or (Some n) = inr (λ e. cc)

some_first : (o p : Option ℕ) → o ≢ None → option_or o p ≡ o
some_first None p some = absurd (some refl)
some_first (Some n) p some = refl

none_from_not : (o : Option ℕ) → (o ≢ None → ⊥) → o ≡ None
none_from_not None h = refl
none_from_not (Some n) h = absurd (h (λ e. cc))

-- a key that no table but one has
find_all : (ts : List Table) (q : RowKey) (k : ℕ) → ((j : ℕ) → get (table ts j).numbers q ≢ None → k ≡ j) → find key_cmp q (all_entries ts) ≡ get (table ts k).numbers q
find_all [] q k only = sym (get-empty key_cmp q)
find_all (t ∷ ts) q zero only =
    find_first t ts q
    ∙ ap (option_or (get t.numbers q)) (find_none ts q (λ j. none_from_not _ (λ some. let e = only (suc j) some in omega (arith, e))))
    ∙ or_none (get t.numbers q)
  where
    or_none : (o : Option ℕ) → option_or o None ≡ o
    or_none None = refl
    or_none (Some n) = refl
find_all (t ∷ ts) q (suc k) only =
    find_first t ts q
    ∙ ap (λ o. option_or o (find key_cmp q (all_entries ts))) (none_from_not _ (λ some. let e = only 0 some in omega (arith, e)))
    ∙ find_all ts q k (λ j some. let e = only (suc j) some in omega (arith, e))

-- what all hold at a key is what its own table holds
pub get_joined : (seeds : Seeds) (ts : List Table) → IsSharded seeds ts → (q : RowKey) → get (joined ts) q ≡ get (table ts (shard_of_key seeds q)).numbers q
get_joined seeds ts s q = get-from_entries keys_total (all_entries ts) q ∙ find_all ts q (shard_of_key seeds q) (λ j some. s.placed j q some)

-- tables that hold the same, table by table, hold the same together
pub joined_kept : (seeds : Seeds) (ts us : List Table) → IsSharded seeds ts → IsSharded seeds us → ((i : ℕ) → (table us i).numbers ≡ (table ts i).numbers) → joined us ≡ joined ts
joined_kept seeds ts us s r same =
    same_map keys_total exact_keys _ _ (λ q.
    get_joined seeds us r q ∙ ap (λ (m : KeyNumbers). get m q) (same (shard_of_key seeds q)) ∙ sym (get_joined seeds ts s q))

module _ (seeds : Seeds) (ts : List Table) (s : IsSharded seeds ts) (key : RowKey) (i : ℕ) (own : shard_of_key seeds key ≡ i) (within : i < length ts) (u : Table) (seeded : u.seeds ≡ seeds) (o : Option ℕ) (at : (q : RowKey) → get u.numbers q ≡ cond (eq_by_cmp key_cmp q key) o (get (table ts i).numbers q)) where
  here : table (set ts i u) i ≡ u
  here = get_or-set_same ts i u no_table within

  others : (j : ℕ) → j ≢ i → table (set ts i u) j ≡ table ts j
  others j n = get_or-set_other ts i j u no_table n

  size : length (set ts i u) ≡ length ts
  size = length-set ts i u

  stays : (q : RowKey) → get u.numbers q ≢ None → shard_of_key seeds q ≡ i
  stays q some = elim (cases_key q key) [
    | inl e ↦ ap (shard_of_key seeds) e ∙ own
    | inr n ↦ s.placed i q (λ none. some (at q ∙ cond-false _ o (get (table ts i).numbers q) (other_key q key n) ∙ none))
  ]

  -- another table at a place keeps each key in its own, where it differs at such a key alone
  pub shared_put : IsSharded seeds (set ts i u)
  shared_put = record {
    counted = elim s.counted [ inl e ↦ inl (size ∙ e) | inr e ↦ inr (size ∙ e) ];
    seeded = λ j below. elim (cases_eq j i) [
      | inl e ↦ ap (λ k. (table (set ts i u) k).seeds) e ∙ ap (λ (t : Table). t.seeds) here ∙ seeded
      | inr n ↦ ap (λ (t : Table). t.seeds) (others j n) ∙ s.seeded j (omega (arith, below, size))
    ];
    placed = λ j q some. elim (cases_eq j i) [
      | inl e ↦ stays q (λ none. some (ap (λ k. get (table (set ts i u) k).numbers q) e ∙ ap (λ (t : Table). get t.numbers q) here ∙ none)) ∙ sym e
      | inr n ↦ s.placed j q (λ none. some (ap (λ (t : Table). get t.numbers q) (others j n) ∙ none))
    ];
  }

  pub get_put_shared : (q : RowKey) → get (joined (set ts i u)) q ≡ cond (eq_by_cmp key_cmp q key) o (get (joined ts) q)
  get_put_shared q =
      get_joined seeds (set ts i u) shared_put q
      ∙ elim (cases_eq (shard_of_key seeds q) i) [
        | inl e ↦
            ap (λ k. get (table (set ts i u) k).numbers q) e ∙ ap (λ (t : Table). get t.numbers q) here ∙ at q
            ∙ ap (λ k. cond (eq_by_cmp key_cmp q key) o (get (table ts k).numbers q)) (sym e)
            ∙ ap (cond (eq_by_cmp key_cmp q key) o) (sym (get_joined seeds ts s q))
        | inr n ↦
            ap (λ (t : Table). get t.numbers q) (others (shard_of_key seeds q) n)
            ∙ sym (get_joined seeds ts s q)
            ∙ sym (cond-false _ o (get (joined ts) q) (other_key q key (λ e. n (ap (shard_of_key seeds) e ∙ own))))
      ]

module _ (seeds : Seeds) (ts : List Table) (s : IsSharded seeds ts) (key : RowKey) (i : ℕ) (own : shard_of_key seeds key ≡ i) (within : i < length ts) (u : Table) (seeded : u.seeds ≡ seeds) where
  pub shared_insert : (n : ℕ) → u.numbers ≡ insert (table ts i).numbers key n → IsSharded seeds (set ts i u)
  shared_insert n is = shared_put seeds ts s key i own within u seeded (Some n) (λ q. ap (λ (m : KeyNumbers). get m q) is ∙ get-insert keys_total (table ts i).numbers key n q)

  pub joined_insert : (n : ℕ) → u.numbers ≡ insert (table ts i).numbers key n → joined (set ts i u) ≡ insert (joined ts) key n
  joined_insert n is = same_map keys_total exact_keys _ _ (λ q.
      get_put_shared seeds ts s key i own within u seeded (Some n) (λ r. ap (λ (m : KeyNumbers). get m r) is ∙ get-insert keys_total (table ts i).numbers key n r) q
      ∙ sym (get-insert keys_total (joined ts) key n q))

  pub shared_remove : u.numbers ≡ remove (table ts i).numbers key → IsSharded seeds (set ts i u)
  shared_remove is = shared_put seeds ts s key i own within u seeded None (λ q. ap (λ (m : KeyNumbers). get m q) is ∙ get-remove keys_total (table ts i).numbers key q)

  pub joined_remove : u.numbers ≡ remove (table ts i).numbers key → joined (set ts i u) ≡ remove (joined ts) key
  joined_remove is = same_map keys_total exact_keys _ _ (λ q.
      get_put_shared seeds ts s key i own within u seeded None (λ r. ap (λ (m : KeyNumbers). get m r) is ∙ get-remove keys_total (table ts i).numbers key r) q
      ∙ sym (get-remove keys_total (joined ts) key q))

  same_at : u.numbers ≡ (table ts i).numbers → (j : ℕ) → (table (set ts i u) j).numbers ≡ (table ts j).numbers
  same_at is j = elim (cases_eq j i) [
    | inl e ↦ ap (λ k. (table (set ts i u) k).numbers) e ∙ ap (λ (t : Table). t.numbers) (get_or-set_same ts i u no_table within) ∙ is ∙ ap (λ k. (table ts k).numbers) (sym e)
    | inr n ↦ ap (λ (t : Table). t.numbers) (get_or-set_other ts i j u no_table n)
  ]

  pub shared_same : u.numbers ≡ (table ts i).numbers → IsSharded seeds (set ts i u)
  shared_same is = record {
    counted = let size = length-set ts i u in elim s.counted [ inl e ↦ inl (size ∙ e) | inr e ↦ inr (size ∙ e) ];
    seeded = λ j below. elim (cases_eq j i) [
      | inl e ↦ ap (λ k. (table (set ts i u) k).seeds) e ∙ ap (λ (t : Table). t.seeds) (get_or-set_same ts i u no_table within) ∙ seeded
      | inr n ↦ ap (λ (t : Table). t.seeds) (get_or-set_other ts i j u no_table n) ∙ s.seeded j (let size = length-set ts i u in omega (arith, below, size))
    ];
    placed = λ j q some. s.placed j q (λ none. some (ap (λ (m : KeyNumbers). get m q) (same_at is j) ∙ none));
  }

  pub joined_same : u.numbers ≡ (table ts i).numbers → joined (set ts i u) ≡ joined ts
  joined_same is = joined_kept seeds ts (set ts i u) s (shared_same is) (same_at is)

-- tables in place of others that hold the same
module _ (seeds : Seeds) (ts : List Table) (keys : ℕ) (us : List Table) (moved : AreMoved ts keys us) (s : IsSharded seeds ts) where
  pub shared_moved : IsSharded seeds us
  shared_moved = record {
    counted = let size = moved.size in elim s.counted [ inl e ↦ inl (size ∙ e) | inr e ↦ inr (size ∙ e) ];
    seeded = λ j below. let lt : j < length ts = (let size = moved.size in omega (arith, below, size)) in moved.seeded j lt ∙ s.seeded j lt;
    placed = λ j q some. s.placed j q (λ none. some (ap (λ (m : KeyNumbers). get m q) (moved.same j) ∙ none));
  }

  pub joined_moved : joined us ≡ joined ts
  joined_moved = joined_kept seeds ts us s shared_moved moved.same

-- tables that were just made
empty_table : (seeds : Seeds) (n i : ℕ) (q : RowKey) → get (table (replicate n (no_keys seeds 0)) i).numbers q ≡ None
empty_table seeds zero i q = get-empty key_cmp q
empty_table seeds (suc n) zero q = get-empty key_cmp q
empty_table seeds (suc n) (suc i) q = empty_table seeds n i q

seeds_of_new : (seeds : Seeds) (n i : ℕ) → i < n → (table (replicate n (no_keys seeds 0)) i).seeds ≡ seeds
seeds_of_new seeds zero i below = absurd (omega (arith, below))
seeds_of_new seeds (suc n) zero below = refl
seeds_of_new seeds (suc n) (suc i) below = seeds_of_new seeds n i (omega (arith, below))

pub shared_new : (seeds : Seeds) → IsSharded seeds (replicate 256 (no_keys seeds 0))
shared_new seeds = record {
  counted = inr (length-replicate 256 (no_keys seeds 0));
  seeded = λ i below. seeds_of_new seeds 256 i (omega (arith, below, length-replicate 256 (no_keys seeds 0)));
  placed = λ i q some. absurd (some (empty_table seeds 256 i q));
}

pub shared_none : (seeds : Seeds) → IsSharded seeds []
shared_none seeds = record {
  counted = inl refl;
  seeded = λ i below. absurd (omega (arith, below));
  placed = λ i q some. absurd (some (get-empty key_cmp q));
}

pub joined_new : (seeds : Seeds) → joined (replicate 256 (no_keys seeds 0)) ≡ joined []
joined_new seeds = same_map keys_total exact_keys _ _ (λ q.
    get_joined seeds _ (shared_new seeds) q ∙ empty_table seeds 256 (shard_of_key seeds q) q ∙ sym (get-empty key_cmp q))

-- the table at the place that a key's hash gives is its own
pub own_place : (seeds : Seeds) (key : RowKey) (hash at : ℕ) → hash ≡ hash_of seeds.first seeds.second key → at ≡ shard_of hash → shard_of_key seeds key ≡ at
own_place seeds key hash at is place = ap shard_of (sym is) ∙ sym place

-- what was read at a place is the table there
pub table_read : (ts : List Table) (i : ℕ) (t : Table) → i < length ts → t ≡ get_or ts i t → t ≡ table ts i
table_read ts i t h e = get_or_read ts i t h e no_table

-- where there are no tables there is no key
pub get_past : (seeds : Seeds) (ts : List Table) → IsSharded seeds ts → (q : RowKey) (at : ℕ) → shard_of_key seeds q ≡ at → length ts ≤ at → get (joined ts) q ≡ None
get_past seeds ts s q at own past =
    get_joined seeds ts s q
    ∙ ap (λ (t : Table). get t.numbers q) (get_or_past ts (shard_of_key seeds q) no_table (omega (arith, own, past)))
    ∙ get-empty key_cmp q

-- what the table at a key's place holds there is what all hold
pub get_own : (seeds : Seeds) (ts : List Table) → IsSharded seeds ts → (q : RowKey) (at : ℕ) → shard_of_key seeds q ≡ at → get (table ts at).numbers q ≡ get (joined ts) q
get_own seeds ts s q at own = ap (λ k. get (table ts k).numbers q) (sym own) ∙ sym (get_joined seeds ts s q)

pub moved_none : (keys : ℕ) → AreMoved [] keys []
moved_none keys = record { size = refl; same = λ i. refl; seeded = λ i below. refl; roomy = λ i below. absurd (omega (arith, below)) }

-- one table more
pub moved_more : (old : List Table) (keys : ℕ) (new : List Table) (t u : Table) → AreMoved old keys new → u.numbers ≡ t.numbers → u.seeds ≡ t.seeds → keys ≤ u.room → AreMoved (old ++ t ∷ []) keys (new ++ u ∷ [])
moved_more old keys new t u m same seeded roomy = record {
  size = let a = length_push old t in let b = length_push new u in omega (arith, a, b, m.size);
  same = λ i. elim (cases_lt i (length old)) [
    | inl lt ↦ ap (λ (x : Table). x.numbers) (left i lt) ∙ m.same i ∙ ap (λ (x : Table). x.numbers) (sym (get_or_append_left old (t ∷ []) no_table i lt))
    | inr ge ↦ elim (cases_eq i (length old)) [
      | inl e ↦ ap (λ (x : Table). x.numbers) (last i e) ∙ same ∙ ap (λ (x : Table). x.numbers) (sym (get_or_push old t no_table i (sym e)))
      | inr n ↦ ap (λ (x : Table). x.numbers) (get_or_past (new ++ u ∷ []) i no_table (let b = length_push new u in let s = m.size in omega (arith, b, s, ge, n))
          ∙ sym (get_or_past (old ++ t ∷ []) i no_table (let a = length_push old t in omega (arith, a, ge, n))))
    ]
  ];
  seeded = λ i below. elim (cases_lt i (length old)) [
    | inl lt ↦ ap (λ (x : Table). x.seeds) (left i lt) ∙ m.seeded i lt ∙ ap (λ (x : Table). x.seeds) (sym (get_or_append_left old (t ∷ []) no_table i lt))
    | inr ge ↦
        let e : i ≡ length old = (let a = length_push old t in omega (arith, a, below, ge)) in
        ap (λ (x : Table). x.seeds) (last i e) ∙ seeded ∙ ap (λ (x : Table). x.seeds) (sym (get_or_push old t no_table i (sym e)))
  ];
  roomy = λ i below. elim (cases_lt i (length old)) [
    | inl lt ↦ let e = ap (λ (x : Table). x.room) (left i lt) in let h = m.roomy i lt in omega (arith, e, h)
    | inr ge ↦
        let f = ap (λ (x : Table). x.room) (last i (let a = length_push old t in omega (arith, a, below, ge))) in
        omega (arith, f, roomy)
  ];
}
  where
    left : (i : ℕ) → i < length old → table (new ++ u ∷ []) i ≡ table new i
    left i lt = get_or_append_left new (u ∷ []) no_table i (let s = m.size in omega (arith, s, lt))

    last : (i : ℕ) → i ≡ length old → table (new ++ u ∷ []) i ≡ u
    last i e = get_or_push new u no_table i (let s = m.size in omega (arith, s, e))
