-- What a put in the table of a key shows.
use Rattle.std.proofs.Common.{◌≡◌, ℕ, ◌+◌, ◌≤◌, List, [], Option, None, Result, Ok, Err, set, sym, ap, ◌∙◌, subst, arith}
use Rattle.std.specs.Prelude.{IsSome}
use Rattle.std.specs.Result.{OnOk, OnErr, IfOk}
use Rattle.std.specs.FinMap.{get, insert, get-empty}
use Rattle.mvo_types.specs.declared.row.RowKey.{RowKey}
use Rattle.mvo_types.specs.Keys.{key_cmp}
use Rattle.mvo_hash.specs.declared.seeds.Seeds.{Seeds}
use Rattle.mvo_hash.specs.Table.{Table}
use Rattle.mvo_hash.specs.Shards.{joined, least_room, heads_of, AreMoved, IsSharded}
use Rattle.mvo_hash.proofs.Changes.{Changed, held_before, insert_shared, insert_joined, same_shared, room_same, room_less, room_none}
use Rattle.mvo_hash.proofs.Rooms.{least_most}
use Rattle.mvo_hash.proofs.Shared.{joined_moved}

module _ (seeds : Seeds) (ts : List Table) (key : RowKey) (i : ℕ) (t u : Table) (h : Changed seeds ts key i t u) (m : Table) (seen : heads_of seeds ts ≡ m) (E : Type 0) (r : Result (Option ℕ) E) where
  numbers : joined ts ≡ m.numbers
  numbers = ap (λ (x : Table). x.numbers) seen

  room : least_room ts ≡ m.room
  room = ap (λ (x : Table). x.room) seen

  held : get t.numbers key ≡ get m.numbers key
  held = held_before seeds ts key i t u h ∙ ap (λ (x : Table). get x.numbers key) seen

  on_ok : {P Q : Type 0} (s : Result (Option ℕ) E) → (P → Q) → OnOk s P → OnOk s Q
  on_ok (Ok x) f p = f p
  on_ok (Err e) f p = tt

  on_err : {P Q : Type 0} (s : Result (Option ℕ) E) → (P → Q) → OnErr s P → OnErr s Q
  on_err (Ok x) f p = tt
  on_err (Err e) f p = f p

  put_one : (s : Result (Option ℕ) E) (n : ℕ) → OnOk s (u.numbers ≡ insert t.numbers key n) → OnErr s (u ≡ t) → IsSharded seeds (set ts i u)
  put_one (Ok x) n ok err = insert_shared seeds ts key i t u h n ok
  put_one (Err e) n ok err = same_shared seeds ts key i t u h (ap (λ (x : Table). x.numbers) err)

  pub put_shared : (n : ℕ) → OnOk r (u.numbers ≡ insert t.numbers key n) → OnErr r (u ≡ t) → IsSharded seeds (set ts i u)
  put_shared n ok err = put_one r n ok err

  pub put_ok : (n : ℕ) → OnOk r (u.numbers ≡ insert t.numbers key n) → OnOk r (joined (set ts i u) ≡ insert m.numbers key n)
  put_ok n ok = on_ok r (λ is. insert_joined seeds ts key i t u h n is ∙ ap (λ (x : Table). insert x.numbers key n) seen) ok

  pub put_before : IfOk r (λ o. o ≡ get t.numbers key) → IfOk r (λ o. o ≡ get m.numbers key)
  put_before before = subst (λ (x : Option ℕ). IfOk r (λ o. o ≡ x)) held before

  pub put_room : t.room ≤ u.room + 1 → m.room ≤ least_room (set ts i u) + 1
  put_room le = let e = room_less seeds ts key i t u h le in omega (arith, e, room)

  pub put_again : (IsSome (get t.numbers key) → u.room ≡ t.room) → IsSome (get m.numbers key) → least_room (set ts i u) ≡ m.room
  put_again again some = room_same seeds ts key i t u h (again (subst (λ (o : Option ℕ). IsSome o) (sym held) some)) ∙ room

  pub put_absent : OnErr r (get t.numbers key ≡ None) → OnErr r (get m.numbers key ≡ None)
  put_absent absent = on_err r (λ is. sym held ∙ is) absent

  pub put_full : OnErr r (t.room ≡ 0) → OnErr r (m.room ≡ 0)
  put_full full = on_err r (λ is. sym room ∙ room_none seeds ts key i t u h is) full

-- where there are no tables there is no key, and no room
pub none_held : (seeds : Seeds) (ts : List Table) (m : Table) (key : RowKey) → ts ≡ [] → heads_of seeds ts ≡ m → get m.numbers key ≡ None
none_held seeds ts m key none seen =
    ap (λ (x : Table). get x.numbers key) (sym seen) ∙ ap (λ (x : List Table). get (joined x) key) none ∙ get-empty key_cmp key

pub none_roomy : (seeds : Seeds) (ts : List Table) (m : Table) → ts ≡ [] → heads_of seeds ts ≡ m → m.room ≡ 0
none_roomy seeds ts m none seen = ap (λ (x : Table). x.room) (sym seen) ∙ ap least_room none

pub on_err_is : {T E P : Type 0} (r : Result T E) → P → OnErr r P
on_err_is (Ok x) p = tt
on_err_is (Err e) p = p

-- tables in place of others, each with so much room
pub moved_roomy : (ts us : List Table) (keys least : ℕ) → Rattle.std.proofs.Common.length ts ≡ 256 → AreMoved ts keys us → least ≤ keys → least ≤ least_room us
moved_roomy ts us keys least count moved le =
    least_most least us (let e = moved.size in omega (arith, count, e)) (λ i below.
    let h = moved.roomy i (let e = moved.size in omega (arith, below, e)) in omega (arith, h, le))

pub moved_same : (seeds : Seeds) (ts us : List Table) (keys : ℕ) (m : Table) → AreMoved ts keys us → IsSharded seeds ts → heads_of seeds ts ≡ m → joined us ≡ m.numbers
moved_same seeds ts us keys m moved s seen = joined_moved seeds ts keys us moved s ∙ ap (λ (x : Table). x.numbers) seen
