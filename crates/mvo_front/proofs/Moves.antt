-- Each step keeps the order of the jobs.
use Rattle.std.proofs.Common.{◌≡◌, ◌≢◌, ℕ, zero, suc, ◌+◌, ◌<◌, ◌≤◌, List, [], ◌∷◌, ◌++◌, length, set, drop, true, false, true≢false, refl, sym, ap, ◌∙◌, subst, ⊎_elim, arith, append_assoc, length-append}
use Rattle.std.specs.Prelude.{slice_get, Some, Option, None}
use Rattle.std.proofs.lemmas.Bool.Decides.{nat_tests}
use mathlib.Core.Option.{some, some-injective, some-ne-none}
use lib.ListN.{get_elem?}
use Rattle.crossbeam_channel.specs.Fifo.{Pushes, Pops, Forks, Merges, Learns}
use Rattle.atomic_table.proofs.Lists.{at_set, at_snoc}
use Rattle.mvo_front.specs.Job.{JobData}
use Rattle.mvo_front.specs.declared.rule.Hand.{Hand}
use Rattle.mvo_front.specs.Queue.{Took, is_one, times_taken, once_below, AllBelow, AreAt, total, hand, parts_of, took, IsHandOf, InOrder, first_hand, Pushed, Taken, left_of, worker, joined_hands, gone, Settled}

-- ---- lists
none_some : (x y : JobData) → ◌≡◌ {A = Option JobData} None (Some y) → ⊥
none_some x y e = cc

get_front : (xs ys : List JobData) (n : ℕ) (x : JobData) → slice_get xs n ≡ Some x → slice_get (xs ++ ys) n ≡ Some x
get_front [] ys n x e = absurd (none_some x x e)
get_front (z ∷ xs) ys zero x e = e
get_front (z ∷ xs) ys (suc n) x e = get_front xs ys n x e

get_next : (xs ys : List JobData) (x : JobData) → slice_get (xs ++ x ∷ ys) (length xs) ≡ Some x
get_next [] ys x = refl
get_next (z ∷ xs) ys x = get_next xs ys x

drop_front : (xs ys : List JobData) → drop (length xs) (xs ++ ys) ≡ ys
drop_front [] ys = refl
drop_front (x ∷ xs) ys = drop_front xs ys

at_more : (put more : List JobData) (ts : List Took) → AreAt put ts → AreAt (put ++ more) ts
at_more put more [] h = tt
at_more put more (t ∷ ts) h = (get_front put more t.0 t.1 h.0, at_more put more ts h.1)

at_push : (put : List JobData) (ts : List Took) (t : Took) → AreAt put ts → slice_get put t.0 ≡ Some t.1 → AreAt put (ts ++ t ∷ [])
at_push put [] t h e = (e, tt)
at_push put (u ∷ us) t h e = (h.0, at_push put us t h.1 e)

at_append : (put : List JobData) (ts us : List Took) → AreAt put ts → AreAt put us → AreAt put (ts ++ us)
at_append put [] us a b = b
at_append put (t ∷ ts) us a b = (a.0, at_append put ts us a.1 b)

times_push : (n : ℕ) (xs : List Took) (y : Took) → times_taken n (xs ++ y ∷ []) ≡ times_taken n xs + is_one n y.0
times_push n [] y = omega arith
times_push n (z ∷ xs) y = let e = times_push n xs y in omega (arith, e)

times_append : (n : ℕ) (xs ys : List Took) → times_taken n (xs ++ ys) ≡ times_taken n xs + times_taken n ys
times_append n [] ys = omega arith
times_append n (z ∷ xs) ys = let e = times_append n xs ys in omega (arith, e)

total_set : (f : Hand → ℕ) (views : List Hand) (i : ℕ) (v w : Hand) → get_elem? views i ≡ some v → total f (set views i w) + f v ≡ total f views + f w
total_set f [] i v w e = absurd (some-ne-none v (sym e))
total_set f (u ∷ us) zero v w e = let s : f u ≡ f v = ap f (some-injective u v e) in omega (arith, s)
total_set f (u ∷ us) (suc i) v w e = let s = total_set f us i v w e in omega (arith, s)

total_push : (f : Hand → ℕ) (views : List Hand) (w : Hand) → total f (views ++ w ∷ []) ≡ total f views + f w
total_push f [] w = omega arith
total_push f (u ∷ us) w = let s = total_push f us w in omega (arith, s)

below_more : (n m : ℕ) (xs : List Took) → n ≤ m → AllBelow n xs → AllBelow m xs
below_more n m [] le b = tt
below_more n m (x ∷ xs) le b = let h = b.0 in (omega (arith, h), below_more n m xs le b.1)

below_push : (n m : ℕ) (xs : List Took) (t : Took) → n ≤ m → t.0 < m → AllBelow n xs → AllBelow m (xs ++ t ∷ [])
below_push n m [] t le lt b = (lt, tt)
below_push n m (x ∷ xs) t le lt b = let h = b.0 in (omega (arith, h), below_push n m xs t le lt b.1)

below_append : (n : ℕ) (xs ys : List Took) → AllBelow n xs → AllBelow n ys → AllBelow n (xs ++ ys)
below_append n [] ys b c = c
below_append n (x ∷ xs) ys b c = (b.0, below_append n xs ys b.1 c)

once_more : (x n : ℕ) → once_below x (n + 1) ≡ once_below x n + is_one x n
once_more x n = grind (arith, nat_tests)

off : false ≡ true → ⊥
off e = true≢false (sym e)

others : (from : ℕ) (put : List JobData) (seat by : ℕ) (views : List Hand) (w : Hand) → ((j : ℕ) (u : Hand) → j ≢ by → get_elem? views j ≡ some u → IsHandOf from put seat j u) → IsHandOf from put seat by w
    → (j : ℕ) (u : Hand) → get_elem? (set views by w) j ≡ some u → IsHandOf from put seat j u
others from put seat by views w rest mine j u e =
    ⊎_elim
    (λ (x : (j ≡ by) × (w ≡ u)). subst (λ (y : ℕ × Hand). IsHandOf from put seat y.0 y.1) (λ i. (sym x.0 i, x.1 i)) mine)
    (λ (x : (j ≢ by) × (get_elem? views j ≡ some u)). rest j u x.0 x.1)
    (at_set views by j w u e)

-- ---- the steps
pub pushes : (n by : ℕ) (v : Hand) (x : JobData) → v.pushes ≡ true → Pushes InOrder n by v x (Pushed v x)
pushes n by v x may items views room h at =
    let before = h.0 in
    let put = h.1 in
    let seat = h.2 in
    let k = h.3 in
    let mine = k.each by v at in
    let here = mine.pusher may in
    let w = hand v.pushes (v.put ++ x ∷ []) v.parts v.taken in
    let fits : IsHandOf (length before) (put ++ x ∷ []) seat by w = record { pusher = λ _. (here.0, ap (λ (xs : List JobData). xs ++ x ∷ []) here.1); idle = mine.idle; below = mine.below; are_at = at_more put (x ∷ []) v.taken mine.are_at } in (
      w,
      (
        before,
        put ++ x ∷ [],
        seat,
        record {
          row = ap (λ (xs : List JobData). xs ++ x ∷ []) k.row ∙ append_assoc before items (x ∷ []);
          parts = let s = total_set parts_of views by v w at in let p = k.parts in omega (arith, s, p);
          once = λ y. let s = total_set (took y) views by v w at in let p = k.once y in omega (arith, s, p);
          each = others (length before) (put ++ x ∷ []) seat by views w
              (λ j u apart e. let f = k.each j u e in record { pusher = λ p. absurd (apart ((f.pusher p).0 ∙ sym here.0)); idle = f.idle; below = f.below; are_at = at_more put (x ∷ []) u.taken f.are_at })
              fits;
        },
      ),
      refl,
    )

pub takes : (by : ℕ) (v : Hand) → 0 < v.parts → Pops InOrder by v (Taken v)
takes by v part x items views h at =
    let before = h.0 in
    let put = h.1 in
    let seat = h.2 in
    let k = h.3 in
    let n = length before in
    let len : length (before ++ x ∷ []) ≡ n + 1 = length-append before (x ∷ []) in
    let mine = k.each by v at in
    let there : slice_get put n ≡ Some x = ap (λ (xs : List JobData). slice_get xs n) k.row ∙ get_next before items x in
    let w = hand v.pushes v.put v.parts (v.taken ++ (n, x) ∷ []) in
    let fits : IsHandOf (length (before ++ x ∷ [])) put seat by w = record { pusher = mine.pusher; idle = λ none. absurd (omega (arith, none, part)); below = below_push n (length (before ++ x ∷ [])) v.taken (n, x) (omega (arith, len)) (omega (arith, len)) mine.below; are_at = at_push put v.taken (n, x) mine.are_at there } in (
      w,
      (
        before ++ x ∷ [],
        put,
        seat,
        record {
          row = k.row ∙ sym (append_assoc before (x ∷ []) items);
          parts = let s = total_set parts_of views by v w at in let p = k.parts in omega (arith, s, p);
          once = λ y. let s = total_set (took y) views by v w at in let p = k.once y in let t = times_push y v.taken (n, x) in let o = once_more y n in let l : once_below y (length (before ++ x ∷ [])) ≡ once_below y (n + 1) = ap (once_below y) len in omega (arith, s, p, t, o, l);
          each = others (length (before ++ x ∷ [])) put seat by views w
              (λ j u apart e. let f = k.each j u e in record { pusher = f.pusher; idle = f.idle; below = below_more n (length (before ++ x ∷ [])) u.taken (omega (arith, len)) f.below; are_at = f.are_at })
              fits;
        },
      ),
      (n, refl, mine.below),
    )

pub hires : (by : ℕ) (v : Hand) → 1 < v.parts → Forks InOrder by v (left_of v) worker
hires by v more items views h at =
    let before = h.0 in
    let put = h.1 in
    let seat = h.2 in
    let k = h.3 in
    let from = length before in
    let mine = k.each by v at in
    let w = left_of v in
    let fits : IsHandOf from put seat by w = record { pusher = mine.pusher; idle = λ none. absurd (omega (arith, none, more)); below = mine.below; are_at = mine.are_at } in (
      before,
      put,
      seat,
      record {
        row = k.row;
        parts = let s = total_set parts_of views by v w at in let t = total_push parts_of (set views by w) worker in let p = k.parts in omega (arith, s, t, p, more);
        once = λ y. let s = total_set (took y) views by v w at in let t = total_push (took y) (set views by w) worker in let p = k.once y in omega (arith, s, t, p);
        each = λ j u e. ⊎_elim
            (λ was. others from put seat by views w (λ i z apart at'. k.each i z at') fits j u was)
            (λ (new : worker ≡ u). subst (IsHandOf from put seat j) new (record { pusher = λ p. absurd (off p); idle = λ _. refl; below = tt; are_at = tt }))
            (at_snoc (set views by w) worker u j e);
      },
    )

nothing : (x : ℕ) (views : List Hand) → total parts_of views ≡ 0 → ((i : ℕ) (u : Hand) → get_elem? views i ≡ some u → u.parts ≡ 0 → u.taken ≡ []) → total (took x) views ≡ 0
nothing x [] none idle = refl
nothing x (u ∷ us) none idle =
    let t : took x u ≡ 0 = ap (times_taken x) (idle 0 u refl (omega (arith, none))) in
    let r = nothing x us (omega (arith, none)) (λ i w at. idle (suc i) w at) in
    omega (arith, t, r)

alone : (x : ℕ) (views : List Hand) (by : ℕ) (v : Hand) → get_elem? views by ≡ some v → total parts_of views ≡ v.parts → ((i : ℕ) (u : Hand) → get_elem? views i ≡ some u → u.parts ≡ 0 → u.taken ≡ []) → total (took x) views ≡ took x v
alone x [] by v at all idle = absurd (some-ne-none v (sym at))
alone x (u ∷ us) zero v at all idle =
    let same = some-injective u v at in
    let p : u.parts ≡ v.parts = ap parts_of same in
    let t : took x u ≡ took x v = ap (took x) same in
    let r = nothing x us (omega (arith, all, p)) (λ i w at'. idle (suc i) w at') in
    omega (arith, t, r)
alone x (u ∷ us) (suc by) v at all idle =
    let others' = total_at us by v at in
    let t : took x u ≡ 0 = ap (times_taken x) (idle 0 u refl (omega (arith, all, others'))) in
    let r = alone x us by v at (omega (arith, all, others')) (λ i w at'. idle (suc i) w at') in
    omega (arith, t, r)
  where
    total_at : (us : List Hand) (by : ℕ) (v : Hand) → get_elem? us by ≡ some v → v.parts ≤ total parts_of us
    total_at [] by v e = absurd (some-ne-none v (sym e))
    total_at (w ∷ ws) zero v e = let s : w.parts ≡ v.parts = ap parts_of (some-injective w v e) in omega (arith, s)
    total_at (w ∷ ws) (suc by) v e = let s = total_at ws by v e in omega (arith, s)

pub settles : (by : ℕ) (v : Hand) → Learns InOrder by v (Settled v)
settles by v items views h at may whole =
    let before = h.0 in
    let put = h.1 in
    let k = h.3 in
    let mine = k.each by v at in
    let same = (mine.pusher may).1 in
    record {
      count = length before;
      left_is = sym (drop_front before items) ∙ (ap (drop (length before)) (sym k.row) ∙ ap (drop (length before)) (sym same));
      once = λ x. sym (alone x views by v at (k.parts ∙ sym whole) (λ i u e. (k.each i u e).idle)) ∙ k.once x;
      are_at = subst (λ (xs : List JobData). AreAt xs v.taken) (sym same) mine.are_at;
    }

pub merges : (by : ℕ) (v : Hand) (other : ℕ) (u : Hand) → Merges InOrder by v other u (joined_hands v u) gone
merges by v other u items views h at apart there =
    let before = h.0 in
    let put = h.1 in
    let seat = h.2 in
    let k = h.3 in
    let from = length before in
    let mine = k.each by v at in
    let w = joined_hands v u in
    let theirs : IsHandOf from put seat other u = ⊎_elim
    (λ (x : (other ≡ by) × (w ≡ u)). absurd (apart x.0))
    (λ (x : (other ≢ by) × (get_elem? views other ≡ some u)). k.each other u x.1)
    (at_set views by other w u there) in
    let fits : IsHandOf from put seat by w = record {
      pusher = mine.pusher;
      idle = λ none. λ i. mine.idle (omega (arith, none)) i ++ theirs.idle (omega (arith, none)) i;
      below = below_append from v.taken u.taken mine.below theirs.below;
      are_at = at_append put v.taken u.taken mine.are_at theirs.are_at;
    } in
    let none : IsHandOf from put seat other gone = record { pusher = λ p. absurd (off p); idle = λ _. refl; below = tt; are_at = tt } in (
      before,
      put,
      seat,
      record {
        row = k.row;
        parts = let s = total_set parts_of views by v w at in let t = total_set parts_of (set views by w) other u gone there in let p = k.parts in omega (arith, s, t, p);
        once = λ y. let s = total_set (took y) views by v w at in let t = total_set (took y) (set views by w) other u gone there in let p = k.once y in let a = times_append y v.taken u.taken in omega (arith, s, t, p, a);
        each = others from put seat other (set views by w) gone (λ j z far e. others from put seat by views w (λ i y _ e'. k.each i y e') fits j z e) none;
      },
    )

-- ---- before the first step
none_below : (n : ℕ) → once_below n 0 ≡ 0
none_below n = grind (arith, nat_tests)

pub starts : InOrder [] (first_hand ∷ [])
starts = (
  [],
  [],
  zero,
  record {
    row = refl;
    parts = refl;
    once = λ n. sym (none_below n);
    each = only;
  },
)
  where
    only : (by : ℕ) (v : Hand) → get_elem? (first_hand ∷ []) by ≡ some v → IsHandOf zero [] zero by v
    only zero v at = subst (IsHandOf zero [] zero zero) (some-injective first_hand v at) (record { pusher = λ p. (refl, refl); idle = λ none. refl; below = tt; are_at = tt })
    only (suc by) v at = absurd (some-ne-none v (sym at))
