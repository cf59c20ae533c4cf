-- Places behind some that are gone.
use Rattle.std.proofs.Common.{◌≡◌, ℕ, zero, suc, ◌+◌, ◌-◌, ◌<◌, ◌≤◌, Bool, true, false, cond, List, [], ◌∷◌, ◌++◌, length, take, get_or, Option, None, Some, refl, sym, ap, ◌∙◌, subst, arith}
use Rattle.std.specs.Prelude.{slice_get, slice_set, option_and_then, IsSome}
use Rattle.std.proofs.lemmas.Bool.{false≢true}
use Rattle.std.proofs.lemmas.Option.{get_or_from_slice_get, slice_get-get_or}
use Rattle.mvo_tale.proofs.Backs.{ends_without}
use Rattle.mvo_tale.specs.declared.tale_place.TalePlace.{TalePlace}
use Rattle.mvo_tale.specs.declared.tale_place.TalePlace.TheVariants.{Open, Reading, Settled, Empty}
use Rattle.mvo_tale.specs.Slots.{AreRising, ends, open_ends, tale_commits, pending_end_of, pending_end_at, stored_of, stored_at, and_place, without_empty_back, or_all, closed_up}
use Rattle.mvo_tale.specs.Next.{NoneIsDue, IsBehindStored, AreGroupedTo}
use Rattle.mvo_tale.specs.Forgetting.{behind_gone, slot_or_empty, may_go, from_kept, forgotten}

-- ---- how many, and which ends
pub length_gone : (n : ℕ) (xs : List TalePlace) → length (behind_gone n xs) ≡ n + length xs
length_gone zero xs = omega arith
length_gone (suc n) xs = let e = length_gone n xs in omega arith

pub ends_gone : (n : ℕ) (xs : List TalePlace) → ends (behind_gone n xs) ≡ ends xs
ends_gone zero xs = refl
ends_gone (suc n) xs = ends_gone n xs

pub push_gone : (n : ℕ) (xs ys : List TalePlace) → behind_gone n (xs ++ ys) ≡ behind_gone n xs ++ ys
push_gone zero xs ys = refl
push_gone (suc n) xs ys = ap (λ (zs : List TalePlace). Empty ∷ zs) (push_gone n xs ys)

pub gone_more : (n k : ℕ) (xs : List TalePlace) → behind_gone n (behind_gone k xs) ≡ behind_gone (n + k) xs
gone_more zero k xs = let e : k ≡ 0 + k = omega arith in ap (λ (m : ℕ). behind_gone m xs) e
gone_more (suc n) k xs =
    let e : suc (n + k) ≡ suc n + k = omega arith in
    ap (λ (zs : List TalePlace). Empty ∷ zs) (gone_more n k xs) ∙ ap (λ (m : ℕ). behind_gone m xs) e

gone_shift : (n : ℕ) (xs : List TalePlace) → behind_gone n (Empty ∷ xs) ≡ behind_gone (suc n) xs
gone_shift zero xs = refl
gone_shift (suc n) xs = ap (λ (zs : List TalePlace). Empty ∷ zs) (gone_shift n xs)

-- ---- at a place
pub get_gone : (n p : ℕ) (xs : List TalePlace) → p < n → slice_get (behind_gone n xs) p ≡ Some Empty
get_gone zero p xs lt = absurd (omega arith)
get_gone (suc n) zero xs lt = refl
get_gone (suc n) (suc p) xs lt = get_gone n p xs (omega arith)

pub get_behind : (n p : ℕ) (xs : List TalePlace) → n ≤ p → slice_get (behind_gone n xs) p ≡ slice_get xs (p - n)
get_behind zero p xs le = let e : p ≡ p - 0 = omega arith in ap (slice_get xs) e
get_behind (suc n) zero xs le = absurd (omega arith)
get_behind (suc n) (suc p) xs le =
    let e : p - n ≡ suc p - suc n = omega arith in
    get_behind n p xs (omega arith) ∙ ap (slice_get xs) e

pub set_gone : (n p : ℕ) (y : TalePlace) (xs : List TalePlace) → n ≤ p → behind_gone n (slice_set xs (p - n) y) ≡ slice_set (behind_gone n xs) p y
set_gone zero p y xs le = let e : p - 0 ≡ p = omega arith in ap (λ (q : ℕ). slice_set xs q y) e
set_gone (suc n) zero y xs le = absurd (omega arith)
set_gone (suc n) (suc p) y xs le =
    let e : suc p - suc n ≡ p - n = omega arith in
    ap (λ (zs : List TalePlace). Empty ∷ zs)
    (ap (λ (q : ℕ). behind_gone n (slice_set xs q y)) e ∙ set_gone n p y xs (omega arith))

pub stored_gone : (n p : ℕ) (xs : List TalePlace) → p < n → stored_at (behind_gone n xs) p ≡ None
stored_gone n p xs lt = ap (option_and_then stored_of) (get_gone n p xs lt)

pub stored_behind_gone : (n p : ℕ) (xs : List TalePlace) → n ≤ p → stored_at (behind_gone n xs) p ≡ stored_at xs (p - n)
stored_behind_gone n p xs le = ap (option_and_then stored_of) (get_behind n p xs le)

pub slot_is : (xs : List TalePlace) (p : ℕ) (x : TalePlace) → slice_get xs p ≡ Some x → x ≡ get_or xs p x
slot_is xs p x e = sym (get_or_from_slice_get xs p x x e)

pub stored_slot : (xs : List TalePlace) (p : ℕ) (o : Option TalePlace) → o ≡ slice_get xs p → option_and_then stored_of o ≡ stored_at xs p
stored_slot xs p o e = ap (option_and_then stored_of) e

slot_there : (o : Option TalePlace) (q : TalePlace) → o ≡ Some q → o ≡ Some (slot_or_empty o)
slot_there o q e = e ∙ ap Some (sym (ap slot_or_empty e))

pub slot_within : (xs : List TalePlace) (p : ℕ) (o : Option TalePlace) → o ≡ slice_get xs p → p < length xs → slice_get xs p ≡ Some (slot_or_empty o)
slot_within xs p o e lt = sym e ∙ slot_there o (get_or xs p Empty) (e ∙ slice_get-get_or xs p Empty lt)

-- ---- a place that is open for its end isn't gone
pub pending_after : (n p : ℕ) (xs : List TalePlace) → IsSome (pending_end_at (behind_gone n xs) p) → n ≤ p
pending_after zero p xs h = omega arith
pending_after (suc n) zero xs h = absurd (false≢true h)
pending_after (suc n) (suc p) xs h = let le = pending_after n p xs h in omega arith

pub pending_moved : (n p : ℕ) (xs : List TalePlace) → n ≤ p → pending_end_at (behind_gone n xs) p ≡ pending_end_at xs (p - n)
pending_moved n p xs le = ap (option_and_then pending_end_of) (get_behind n p xs le)

pub pending_within : (xs : List TalePlace) (q : ℕ) → IsSome (pending_end_at xs q) → q < length xs
pending_within [] q h = absurd (false≢true h)
pending_within (x ∷ xs) zero h = omega arith
pending_within (x ∷ xs) (suc q) h = let lt = pending_within xs q h in omega arith

pub pending_there : (n p : ℕ) (xs : List TalePlace) → IsSome (pending_end_at (behind_gone n xs) p) → p - n < length xs
pending_there n p xs h = pending_within xs (p - n) (subst (λ o. IsSome o) (pending_moved n p xs (pending_after n p xs h)) h)

-- ---- the empty ones at the back go
nil_cons : (x : TalePlace) (xs : List TalePlace) → ◌≡◌ {A = List TalePlace} (x ∷ xs) [] → ⊥
nil_cons x xs h = cc

and_some : (n : ℕ) (y : TalePlace) (ys : List TalePlace) → and_place Empty (behind_gone n (y ∷ ys)) ≡ Empty ∷ behind_gone n (y ∷ ys)
and_some zero y ys = refl
and_some (suc n) y ys = refl

back_some : (n : ℕ) (xs : List TalePlace) (y : TalePlace) (ys : List TalePlace) → without_empty_back xs ≡ y ∷ ys → without_empty_back (behind_gone n xs) ≡ behind_gone n (y ∷ ys)
back_some zero xs y ys e = e
back_some (suc n) xs y ys e = ap (and_place Empty) (back_some n xs y ys e) ∙ and_some n y ys

or_some : (n : ℕ) (zs : List TalePlace) (y : TalePlace) (ys : List TalePlace) → or_all zs (behind_gone n (y ∷ ys)) ≡ behind_gone n (y ∷ ys)
or_some zero zs y ys = refl
or_some (suc n) zs y ys = refl

pub closed_some : (n : ℕ) (xs : List TalePlace) (y : TalePlace) (ys : List TalePlace) → without_empty_back xs ≡ y ∷ ys → closed_up (behind_gone n xs) ≡ behind_gone n (y ∷ ys)
closed_some n xs y ys e = ap (or_all (behind_gone n xs)) (back_some n xs y ys e) ∙ or_some n (behind_gone n xs) y ys

back_none : (n : ℕ) (xs : List TalePlace) → without_empty_back xs ≡ [] → without_empty_back (behind_gone n xs) ≡ []
back_none zero xs e = e
back_none (suc n) xs e = ap (and_place Empty) (back_none n xs e)

all_empty : (n : ℕ) (xs : List TalePlace) → without_empty_back xs ≡ [] → behind_gone n xs ≡ behind_gone (n + length xs) []
all_empty n [] e = let k : n ≡ n + 0 = omega arith in ap (λ (m : ℕ). behind_gone m []) k
all_empty n (x ∷ xs) e = rest x (without_empty_back xs) (λ i. all_empty (suc n) xs i) refl e
  where
    rest : (x : TalePlace) (ws : List TalePlace) → (without_empty_back xs ≡ [] → behind_gone (suc n) xs ≡ behind_gone (suc n + length xs) []) → without_empty_back xs ≡ ws → and_place x ws ≡ [] → behind_gone n (x ∷ xs) ≡ behind_gone (n + suc (length xs)) []
    rest x (w ∷ ws) r i h = absurd (nil_cons x (w ∷ ws) h)
    rest (Open d) [] r i h = absurd (nil_cons (Open d) [] h)
    rest (Reading b) [] r i h = absurd (nil_cons (Reading b) [] h)
    rest (Settled c) [] r i h = absurd (nil_cons (Settled c) [] h)
    rest Empty [] r i h =
        let k : suc n + length xs ≡ n + suc (length xs) = omega arith in
        gone_shift n xs ∙ r i ∙ ap (λ (m : ℕ). behind_gone m []) k

pub closed_none : (n : ℕ) (xs : List TalePlace) → without_empty_back xs ≡ [] → closed_up (behind_gone n xs) ≡ behind_gone (n + length xs) []
closed_none n xs e = ap (or_all (behind_gone n xs)) (back_none n xs e) ∙ all_empty n xs e

pub closed_gone : (n : ℕ) (xs : List TalePlace) → behind_gone n (closed_up xs) ≡ closed_up (behind_gone n xs)
closed_gone n xs = go (without_empty_back xs) refl
  where
    go : (ws : List TalePlace) → without_empty_back xs ≡ ws → behind_gone n (or_all xs ws) ≡ closed_up (behind_gone n xs)
    go [] i = sym (ap (or_all (behind_gone n xs)) (back_none n xs i))
    go (w ∷ ws) i = sym (closed_some n xs w ws i)

or_filled : (xs ws : List TalePlace) → 0 < length ws → or_all xs ws ≡ ws
or_filled xs [] lt = absurd (omega arith)
or_filled xs (w ∷ ws) lt = refl

-- some are left
pub closed_kept : (xs : List TalePlace) → 0 < length (without_empty_back xs) → without_empty_back xs ≡ closed_up xs
closed_kept xs some = sym (or_filled xs (without_empty_back xs) some)

pub no_places : (xs : List TalePlace) → length xs ≡ 0 → xs ≡ []
no_places [] none = refl
no_places (x ∷ xs) none = absurd (omega (arith, none))

-- all go
pub closed_whole : (xs : List TalePlace) → without_empty_back xs ≡ [] → behind_gone (length xs) [] ≡ closed_up xs
closed_whole xs e = let k : length xs ≡ 0 + length xs = omega arith in ap (λ (m : ℕ). behind_gone m []) k ∙ sym (closed_none 0 xs e)

pub ends_closed : (xs : List TalePlace) → ends (closed_up xs) ≡ ends xs
ends_closed xs = go (without_empty_back xs) (ends_without xs)
  where
    go : (ws : List TalePlace) → ends ws ≡ ends xs → ends (or_all xs ws) ≡ ends xs
    go [] e = refl
    go (w ∷ ws) e = e

-- ---- the front is forgotten
kept_few : (upto : ℕ) (xs : List TalePlace) → length (from_kept upto xs) ≤ length xs
kept_few upto [] = omega arith
kept_few upto (x ∷ xs) = go (may_go upto x) (kept_few upto xs)
  where
    go : (b : Bool) → length (from_kept upto xs) ≤ length xs → length (cond b (from_kept upto xs) (x ∷ xs)) ≤ suc (length xs)
    go true le = omega arith
    go false le = omega arith

forgotten_is : (upto : ℕ) (xs : List TalePlace) (k : ℕ) → k + length (from_kept upto xs) ≡ length xs → forgotten upto xs ≡ behind_gone k (from_kept upto xs)
forgotten_is upto [] k e = let z : 0 ≡ k = omega arith in ap (λ (m : ℕ). behind_gone m []) z
forgotten_is upto (x ∷ xs) k e = go (may_go upto x) (λ j i. forgotten_is upto xs j i) e
  where
    go : (b : Bool) → ((j : ℕ) → j + length (from_kept upto xs) ≡ length xs → forgotten upto xs ≡ behind_gone j (from_kept upto xs)) → k + length (cond b (from_kept upto xs) (x ∷ xs)) ≡ suc (length xs) → cond b (Empty ∷ forgotten upto xs) (x ∷ xs) ≡ behind_gone k (cond b (from_kept upto xs) (x ∷ xs))
    go true r i =
        let few = kept_few upto xs in
        let m : suc (k - 1) ≡ k = omega arith in
        ap (λ (zs : List TalePlace). Empty ∷ zs) (r (k - 1) (omega arith))
        ∙ ap (λ (j : ℕ). behind_gone j (from_kept upto xs)) m
    go false r i = let z : 0 ≡ k = omega arith in ap (λ (m : ℕ). behind_gone m (x ∷ xs)) z

forgotten_gone : (upto n : ℕ) (xs : List TalePlace) → forgotten upto (behind_gone n xs) ≡ behind_gone n (forgotten upto xs)
forgotten_gone upto zero xs = refl
forgotten_gone upto (suc n) xs = ap (λ (zs : List TalePlace). Empty ∷ zs) (forgotten_gone upto n xs)

pub forgotten_behind : (upto n k : ℕ) (xs : List TalePlace) → k + length (from_kept upto xs) ≡ length xs → behind_gone (n + k) (from_kept upto xs) ≡ forgotten upto (behind_gone n xs)
forgotten_behind upto n k xs e =
    sym (forgotten_gone upto n xs ∙ ap (behind_gone n) (forgotten_is upto xs k e) ∙ gone_more n k (from_kept upto xs))

rising_rest : (x : TalePlace) (xs : List TalePlace) → AreRising (ends (x ∷ xs)) → AreRising (ends xs)
rising_rest (Open d) xs h = h.1
rising_rest (Reading b) xs h = h.1
rising_rest (Settled c) xs h = h.1
rising_rest Empty xs h = h

pub rising_kept : (upto : ℕ) (xs : List TalePlace) → AreRising (ends xs) → AreRising (ends (from_kept upto xs))
rising_kept upto [] h = h
rising_kept upto (x ∷ xs) h = go (may_go upto x) (rising_kept upto xs (rising_rest x xs h))
  where
    go : (b : Bool) → AreRising (ends (from_kept upto xs)) → AreRising (ends (cond b (from_kept upto xs) (x ∷ xs)))
    go true r = r
    go false r = h

-- ---- what is grouped up to where the places are gone
behind_front : (n : ℕ) (xs : List TalePlace) → IsBehindStored (behind_gone n xs) n
behind_front zero xs = tt
behind_front (suc n) xs = behind_front n xs

opens_front : (n : ℕ) (xs : List TalePlace) → open_ends (take n (behind_gone n xs)) ≡ []
opens_front zero xs = refl
opens_front (suc n) xs = opens_front n xs

none_front : (mark n : ℕ) (xs : List TalePlace) → NoneIsDue mark (tale_commits (take n (behind_gone n xs)))
none_front mark zero xs = tt
none_front mark (suc n) xs = none_front mark n xs

pub grouped_front : (n mark : ℕ) (xs : List TalePlace) → AreGroupedTo (behind_gone n xs) n mark
grouped_front n mark xs = record {
  behind = behind_front n xs;
  settled = opens_front n xs;
  grouped = none_front mark n xs;
}
