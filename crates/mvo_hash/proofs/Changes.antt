-- One of the tables that share the keys out is changed.
use Rattle.std.proofs.Common.{◌≡◌, ℕ, ◌+◌, ◌<◌, ◌≤◌, List, [], ◌∷◌, Option, None, Some, length, get_or, set, replicate, refl, sym, ap, ◌∙◌, arith}
use Rattle.std.specs.Option.{OnSome, IfNone}
use Rattle.std.specs.FinMap.{get, insert, remove}
use Rattle.mvo_types.specs.declared.row.RowKey.{RowKey}
use Rattle.mvo_hash.specs.declared.seeds.Seeds.{Seeds}
use Rattle.mvo_hash.specs.Home.{hash_of, shard_of}
use Rattle.mvo_hash.specs.Table.{Table, no_keys}
use Rattle.mvo_hash.specs.Shards.{table, joined, least_room, heads_of, shard_of_key, IsSharded}
use Rattle.mvo_hash.proofs.Rooms.{least_same, least_less, none_left, least_new}
use Rattle.mvo_hash.proofs.Shared.{own_place, joined_new, table_read, get_own, shared_insert, joined_insert, shared_remove, joined_remove, shared_same, joined_same}

-- the table t of a key, at its place, is to be replaced by u
pub record Changed (seeds : Seeds) (ts : List Table) (key : RowKey) (i : ℕ) (t u : Table) : Type 0 where
  pub shared : IsSharded seeds ts
  pub own : shard_of_key seeds key ≡ i
  pub within : i < length ts
  pub read : t ≡ table ts i
  pub kept : u.seeds ≡ t.seeds

pub changing : (seeds : Seeds) (ts : List Table) (key : RowKey) (hash i : ℕ) (t u : Table) → IsSharded seeds ts → hash ≡ hash_of seeds.first seeds.second key → i ≡ shard_of hash → i < length ts → t ≡ get_or ts i t → u.seeds ≡ t.seeds → Changed seeds ts key i t u
changing seeds ts key hash i t u shared hashed place within read kept = record {
  shared = shared;
  own = own_place seeds key hash i hashed place;
  within = within;
  read = table_read ts i t within read;
  kept = kept;
}

module _ (seeds : Seeds) (ts : List Table) (key : RowKey) (i : ℕ) (t u : Table) (h : Changed seeds ts key i t u) where
  seeded : u.seeds ≡ seeds
  seeded = h.kept ∙ ap (λ (x : Table). x.seeds) h.read ∙ h.shared.seeded i h.within

  pub held_before : get t.numbers key ≡ get (joined ts) key
  held_before = ap (λ (x : Table). get x.numbers key) h.read ∙ get_own seeds ts h.shared key i h.own

  pub insert_shared : (n : ℕ) → u.numbers ≡ insert t.numbers key n → IsSharded seeds (set ts i u)
  insert_shared n is = shared_insert seeds ts h.shared key i h.own h.within u seeded n (is ∙ ap (λ (x : Table). insert x.numbers key n) h.read)

  pub insert_joined : (n : ℕ) → u.numbers ≡ insert t.numbers key n → joined (set ts i u) ≡ insert (joined ts) key n
  insert_joined n is = joined_insert seeds ts h.shared key i h.own h.within u seeded n (is ∙ ap (λ (x : Table). insert x.numbers key n) h.read)

  pub remove_shared : u.numbers ≡ remove t.numbers key → IsSharded seeds (set ts i u)
  remove_shared is = shared_remove seeds ts h.shared key i h.own h.within u seeded (is ∙ ap (λ (x : Table). remove x.numbers key) h.read)

  pub remove_joined : u.numbers ≡ remove t.numbers key → joined (set ts i u) ≡ remove (joined ts) key
  remove_joined is = joined_remove seeds ts h.shared key i h.own h.within u seeded (is ∙ ap (λ (x : Table). remove x.numbers key) h.read)

  pub same_shared : u.numbers ≡ t.numbers → IsSharded seeds (set ts i u)
  same_shared is = shared_same seeds ts h.shared key i h.own h.within u seeded (is ∙ ap (λ (x : Table). x.numbers) h.read)

  pub same_joined : u.numbers ≡ t.numbers → joined (set ts i u) ≡ joined ts
  same_joined is = joined_same seeds ts h.shared key i h.own h.within u seeded (is ∙ ap (λ (x : Table). x.numbers) h.read)

  pub room_same : u.room ≡ t.room → least_room (set ts i u) ≡ least_room ts
  room_same is = least_same ts i h.within u (is ∙ ap (λ (x : Table). x.room) h.read)

  pub room_less : t.room ≤ u.room + 1 → least_room ts ≤ least_room (set ts i u) + 1
  room_less le = least_less ts i h.within u 1 (let e = ap (λ (x : Table). x.room) h.read in omega (arith, le, e))

  pub room_none : t.room ≡ 0 → least_room ts ≡ 0
  room_none is = none_left ts i h.within u (ap (λ (x : Table). x.room) (sym h.read) ∙ is)

  pub unchanged : u ≡ t → heads_of seeds (set ts i u) ≡ heads_of seeds ts
  unchanged is =
      let e : joined (set ts i u) ≡ joined ts = same_joined (ap (λ (x : Table). x.numbers) is) in
      let f : least_room (set ts i u) ≡ least_room ts = room_same (ap (λ (x : Table). x.room) is) in
      cc

  -- a key that may be there takes another number
  pub set_shared : (r : Option ℕ) (n : ℕ) → OnSome r (u.numbers ≡ insert t.numbers key n) → IfNone r (u.numbers ≡ t.numbers) → IsSharded seeds (set ts i u)
  set_shared None n there away = same_shared away
  set_shared (Some m) n there away = insert_shared n there

  pub set_joined : (r : Option ℕ) (n : ℕ) → OnSome r (u.numbers ≡ insert t.numbers key n) → OnSome r (joined (set ts i u) ≡ insert (joined ts) key n)
  set_joined None n there = tt
  set_joined (Some m) n there = insert_joined n there

  pub set_away : (r : Option ℕ) → IfNone r (u.numbers ≡ t.numbers) → IfNone r (joined (set ts i u) ≡ joined ts)
  set_away None away = same_joined away
  set_away (Some m) away = tt

pub same_heads : (seeds : Seeds) (ts us : List Table) → joined us ≡ joined ts → least_room us ≡ least_room ts → heads_of seeds us ≡ heads_of seeds ts
same_heads seeds ts us e f = cc

-- tables that were just made hold nothing, as none do
pub new_heads_same : (seeds : Seeds) → heads_of seeds (replicate 256 (no_keys seeds 0)) ≡ heads_of seeds []
new_heads_same seeds = same_heads seeds [] (replicate 256 (no_keys seeds 0)) (joined_new seeds) (least_new seeds)

pub nothing : (ts : List Table) → length ts ≡ 0 → ts ≡ []
nothing [] e = refl
nothing (t ∷ ts) e = absurd (omega (arith, e))
