-- The least room of several tables.
use Rattle.std.proofs.Common.{◌≡◌, ◌≢◌, inl, inr, ℕ, zero, suc, ◌+◌, ◌<◌, ◌≤◌, min, List, [], ◌∷◌, ◌++◌, length, set, replicate, refl, sym, ap, ◌∙◌, arith}
use Rattle.std.proofs.lemmas.Bool.{cases_eq}
use Rattle.std.proofs.lemmas.List.{get_or-set_same, get_or-set_other, length-set}
use Rattle.mvo_hash.specs.declared.seeds.Seeds.{Seeds}
use Rattle.mvo_hash.specs.Table.{Table, no_keys}
use Rattle.mvo_hash.specs.Shards.{no_table, table, least_from, least_room}

pub least_push : (most : ℕ) (ts : List Table) (t : Table) → least_from most (ts ++ t ∷ []) ≡ min (least_from most ts) t.room
least_push most [] t = refl
least_push most (u ∷ ts) t = least_push (min most u.room) ts t

from_most : (most : ℕ) (ts : List Table) → least_from most ts ≤ most
from_most most [] = omega arith
from_most most (t ∷ ts) = let h = from_most (min most t.room) ts in omega (arith, h)

from_each : (most : ℕ) (ts : List Table) (i : ℕ) → i < length ts → least_from most ts ≤ (table ts i).room
from_each most [] i below = absurd (omega (arith, below))
from_each most (t ∷ ts) zero below = let h = from_most (min most t.room) ts in omega (arith, h)
from_each most (t ∷ ts) (suc i) below = from_each (min most t.room) ts i (omega (arith, below))

to_from : (k most : ℕ) (ts : List Table) → k ≤ most → ((i : ℕ) → i < length ts → k ≤ (table ts i).room) → k ≤ least_from most ts
to_from k most [] le all = omega (arith, le)
to_from k most (t ∷ ts) le all = to_from k (min most t.room) ts (let h = all 0 (omega arith) in omega (arith, le, h)) (λ i below. all (suc i) (omega (arith, below)))

-- no table has less
pub least_each : (ts : List Table) (i : ℕ) → i < length ts → least_room ts ≤ (table ts i).room
least_each [] i below = absurd (omega (arith, below))
least_each (t ∷ ts) zero below = from_most t.room ts
least_each (t ∷ ts) (suc i) below = from_each t.room ts i (omega (arith, below))

-- and nothing that no table falls below is more
pub least_most : (k : ℕ) (ts : List Table) → 0 < length ts → ((i : ℕ) → i < length ts → k ≤ (table ts i).room) → k ≤ least_room ts
least_most k [] some all = absurd (omega (arith, some))
least_most k (t ∷ ts) some all = to_from k t.room ts (all 0 (omega arith)) (λ i below. all (suc i) (omega (arith, below)))

-- the search for the least may begin with the first
pub least_all : (t : Table) (ts : List Table) → least_from t.room (t ∷ ts) ≡ least_room (t ∷ ts)
least_all t ts = ap (λ n. least_from n ts) (omega arith)

pub least_kept : (d : ℕ) (ts us : List Table) → length us ≡ length ts → 0 < length ts → ((i : ℕ) → i < length ts → (table ts i).room ≤ (table us i).room + d) → least_room ts ≤ least_room us + d
least_kept d ts us size some all =
    let h = least_most (Rattle.std.proofs.Common.◌-◌ (least_room ts) d) us (omega (arith, size, some)) (λ i below. let lt : i < length ts = omega (arith, below, size) in let e = least_each ts i lt in let g = all i lt in omega (arith, e, g)) in
    omega (arith, h)

module _ (ts : List Table) (i : ℕ) (within : i < length ts) (u : Table) where
  here : table (set ts i u) i ≡ u
  here = get_or-set_same ts i u no_table within

  room_here : (j : ℕ) → j ≡ i → (table (set ts i u) j).room ≡ u.room
  room_here j e = ap (λ k. (table (set ts i u) k).room) e ∙ ap (λ (t : Table). t.room) here

  was_here : (j : ℕ) → j ≡ i → (table ts j).room ≡ (table ts i).room
  was_here j e = ap (λ k. (table ts k).room) e

  other : (j : ℕ) → j ≢ i → (table (set ts i u) j).room ≡ (table ts j).room
  other j n = ap (λ (t : Table). t.room) (get_or-set_other ts i j u no_table n)

  -- a table that loses so much room at most takes no more from the least
  pub least_less : (d : ℕ) → (table ts i).room ≤ u.room + d → least_room ts ≤ least_room (set ts i u) + d
  least_less d few = least_kept d ts (set ts i u) (length-set ts i u) (omega (arith, within)) (λ j below.
      elim (cases_eq j i) [
        | inl e ↦ let a = room_here j e in let b = was_here j e in omega (arith, a, b, few)
        | inr n ↦ let a = other j n in omega (arith, a)
      ])

  -- a table with as much room as before changes nothing
  pub least_same : u.room ≡ (table ts i).room → least_room (set ts i u) ≡ least_room ts
  least_same same =
      let less = least_less 0 (omega (arith, same)) in
      let more = least_kept 0 (set ts i u) ts (sym (length-set ts i u)) (let e = length-set ts i u in omega (arith, within, e)) (λ j below.
      elim (cases_eq j i) [
        | inl e ↦ let a = room_here j e in let b = was_here j e in omega (arith, a, b, same)
        | inr n ↦ let a = other j n in omega (arith, a)
      ]) in
      omega (arith, less, more)

  pub none_left : (table ts i).room ≡ 0 → least_room ts ≡ 0
  none_left none = let h = least_each ts i within in omega (arith, h, none)

from_new : (seeds : Seeds) (n : ℕ) → least_from 0 (replicate n (no_keys seeds 0)) ≡ 0
from_new seeds n = let h = from_most 0 (replicate n (no_keys seeds 0)) in omega (arith, h)

pub least_new : (seeds : Seeds) → least_room (replicate 256 (no_keys seeds 0)) ≡ 0
least_new seeds = from_new seeds 255
