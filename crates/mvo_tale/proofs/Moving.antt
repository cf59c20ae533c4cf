-- What is grouped up to a place stays so where others are opened, settled and left.
use Rattle.std.proofs.Common.{◌≡◌, ℕ, zero, suc, ◌≤◌, Bool, true, false, cond, List, [], ◌∷◌, ◌++◌, take, refl, sym, ap, ◌∙◌, subst, arith}
use Rattle.std.specs.Prelude.{slice_set, IsSome, nat_le}
use Rattle.std.proofs.lemmas.Bool.{false≢true}
use Rattle.mvo_types.specs.declared.ids.Stamp.{Stamp}
use Rattle.mvo_tale.specs.declared.tale_place.TalePlace.{TalePlace}
use Rattle.mvo_tale.specs.declared.tale_place.TalePlace.TheVariants.{Open, Reading, Settled, Empty}
use Rattle.mvo_tale.specs.Stored.{StoredCommit}
use Rattle.mvo_tale.specs.Slots.{open_ends, tale_commits, open_end_at, stored_of, stored_at, and_place, without_empty_back, or_all, closed_up}
use Rattle.mvo_tale.specs.Forgetting.{forgotten}
use Rattle.mvo_tale.specs.Next.{NoneIsDue, IsBehindStored, AreGroupedTo}

-- ---- where the places before it are the same
taken_at : (xs : List TalePlace) (n : ℕ) → stored_at (take (suc n) xs) n ≡ stored_at xs n
taken_at [] n = refl
taken_at (x ∷ xs) zero = refl
taken_at (x ∷ xs) (suc n) = taken_at xs n

nil_cons : (x : TalePlace) (xs : List TalePlace) → ◌≡◌ {A = List TalePlace} [] (x ∷ xs) → ⊥
nil_cons x xs h = cc

open_empty : (e : Stamp) (xs ys : List TalePlace) → ◌≡◌ {A = List TalePlace} (Empty ∷ ys) (Open e ∷ xs) → ⊥
open_empty e xs ys h = cc

reading_empty : (b : Stamp) (xs ys : List TalePlace) → ◌≡◌ {A = List TalePlace} (Empty ∷ ys) (Reading b ∷ xs) → ⊥
reading_empty b xs ys h = cc

settled_empty : (c : StoredCommit) (xs ys : List TalePlace) → ◌≡◌ {A = List TalePlace} (Empty ∷ ys) (Settled c ∷ xs) → ⊥
settled_empty c xs ys h = cc

same_rest : (x y : TalePlace) (xs ys : List TalePlace) → ◌≡◌ {A = List TalePlace} (y ∷ ys) (x ∷ xs) → ys ≡ xs
same_rest x y xs ys h = cc

stored_same : (xs ys : List TalePlace) (n : ℕ) → take (suc n) ys ≡ take (suc n) xs → IsSome (stored_at xs n) → IsSome (stored_at ys n)
stored_same xs ys n e h = subst (λ o. IsSome o) (sym (taken_at xs n) ∙ sym (ap (λ zs. stored_at zs n) e) ∙ taken_at ys n) h

behind_same : (xs ys : List TalePlace) (place : ℕ) → take place ys ≡ take place xs → IsBehindStored xs place → IsBehindStored ys place
behind_same xs ys zero e h = tt
behind_same [] ys (suc n) e h = absurd h
behind_same (x ∷ xs) [] (suc n) e h = absurd (nil_cons x (take n xs) e)
behind_same (Empty ∷ xs) (Empty ∷ ys) (suc n) e h = behind_same xs ys n (same_rest Empty Empty (take n xs) (take n ys) e) h
behind_same (Empty ∷ xs) (Open d ∷ ys) (suc n) e h = absurd (open_empty d (take n ys) (take n xs) (sym e))
behind_same (Empty ∷ xs) (Reading d ∷ ys) (suc n) e h = absurd (reading_empty d (take n ys) (take n xs) (sym e))
behind_same (Empty ∷ xs) (Settled c ∷ ys) (suc n) e h = absurd (settled_empty c (take n ys) (take n xs) (sym e))
behind_same (Open d ∷ xs) (Empty ∷ ys) (suc n) e h = absurd (open_empty d (take n xs) (take n ys) e)
behind_same (Open d ∷ xs) (Open f ∷ ys) (suc n) e h = stored_same (Open d ∷ xs) (Open f ∷ ys) n e h
behind_same (Open d ∷ xs) (Reading f ∷ ys) (suc n) e h = stored_same (Open d ∷ xs) (Reading f ∷ ys) n e h
behind_same (Open d ∷ xs) (Settled c ∷ ys) (suc n) e h = stored_same (Open d ∷ xs) (Settled c ∷ ys) n e h
behind_same (Reading d ∷ xs) (Empty ∷ ys) (suc n) e h = absurd (reading_empty d (take n xs) (take n ys) e)
behind_same (Reading d ∷ xs) (Open f ∷ ys) (suc n) e h = stored_same (Reading d ∷ xs) (Open f ∷ ys) n e h
behind_same (Reading d ∷ xs) (Reading f ∷ ys) (suc n) e h = stored_same (Reading d ∷ xs) (Reading f ∷ ys) n e h
behind_same (Reading d ∷ xs) (Settled c ∷ ys) (suc n) e h = stored_same (Reading d ∷ xs) (Settled c ∷ ys) n e h
behind_same (Settled b ∷ xs) (Empty ∷ ys) (suc n) e h = absurd (settled_empty b (take n xs) (take n ys) e)
behind_same (Settled b ∷ xs) (Open f ∷ ys) (suc n) e h = stored_same (Settled b ∷ xs) (Open f ∷ ys) n e h
behind_same (Settled b ∷ xs) (Reading f ∷ ys) (suc n) e h = stored_same (Settled b ∷ xs) (Reading f ∷ ys) n e h
behind_same (Settled b ∷ xs) (Settled c ∷ ys) (suc n) e h = stored_same (Settled b ∷ xs) (Settled c ∷ ys) n e h

pub grouped_same : (xs ys : List TalePlace) (place mark : ℕ) → take place ys ≡ take place xs → AreGroupedTo xs place mark → AreGroupedTo ys place mark
grouped_same xs ys place mark e h = record {
  behind = behind_same xs ys place e h.behind;
  settled = ap open_ends e ∙ h.settled;
  grouped = subst (λ zs. NoneIsDue mark (tale_commits zs)) (sym e) h.grouped;
}

pub grouped_new : (mark : ℕ) → AreGroupedTo [] 0 mark
grouped_new mark = record { behind = tt; settled = refl; grouped = tt }

-- ---- a place is opened
none_there : (n : ℕ) → IsSome (stored_at [] n) → ⊥
none_there n h = false≢true h

front_stored : (xs ys : List TalePlace) (n : ℕ) → IsSome (stored_at xs n) → take (suc n) (xs ++ ys) ≡ take (suc n) xs
front_stored [] ys n h = absurd (none_there n h)
front_stored (x ∷ xs) ys zero h = refl
front_stored (x ∷ xs) ys (suc n) h = ap (λ zs. x ∷ zs) (front_stored xs ys n h)

front_same : (xs ys : List TalePlace) (place : ℕ) → IsBehindStored xs place → take place (xs ++ ys) ≡ take place xs
front_same xs ys zero h = refl
front_same [] ys (suc n) h = absurd h
front_same (Empty ∷ xs) ys (suc n) h = ap (λ zs. Empty ∷ zs) (front_same xs ys n h)
front_same (Open d ∷ xs) ys (suc n) h = front_stored (Open d ∷ xs) ys n h
front_same (Reading d ∷ xs) ys (suc n) h = front_stored (Reading d ∷ xs) ys n h
front_same (Settled c ∷ xs) ys (suc n) h = front_stored (Settled c ∷ xs) ys n h

pub grouped_opened : (slots : List TalePlace) (place mark : ℕ) (e : Stamp) → AreGroupedTo slots place mark → AreGroupedTo (slots ++ Open e ∷ []) place mark
grouped_opened slots place mark e h = grouped_same slots (slots ++ Open e ∷ []) place mark (front_same slots (Open e ∷ []) place h.behind) h

-- the same for a read-only one
pub grouped_begun : (slots : List TalePlace) (place mark : ℕ) (b : Stamp) → AreGroupedTo slots place mark → AreGroupedTo (slots ++ Reading b ∷ []) place mark
grouped_begun slots place mark b h = grouped_same slots (slots ++ Reading b ∷ []) place mark (front_same slots (Reading b ∷ []) place h.behind) h

-- ---- an open place, which is none of those before, becomes another
cons_nil : (e : ℕ) (es : List ℕ) → ◌≡◌ {A = List ℕ} (e ∷ es) [] → ⊥
cons_nil e es h = cc

none_open : ◌≡◌ {A = Bool} false true → ⊥
none_open h = false≢true h

open_behind : (xs : List TalePlace) (place p : ℕ) → open_ends (take place xs) ≡ [] → IsSome (open_end_at xs p) → place ≤ p
open_behind xs zero p h k = omega arith
open_behind [] (suc n) p h k = absurd (none_open k)
open_behind (Open e ∷ xs) (suc n) p h k = absurd (cons_nil e.0 (open_ends (take n xs)) h)
open_behind (Reading b ∷ xs) (suc n) zero h k = absurd (none_open k)
open_behind (Reading b ∷ xs) (suc n) (suc p) h k = let le = open_behind xs n p h k in omega arith
open_behind (Settled x ∷ xs) (suc n) zero h k = absurd (none_open k)
open_behind (Settled x ∷ xs) (suc n) (suc p) h k = let le = open_behind xs n p h k in omega arith
open_behind (Empty ∷ xs) (suc n) zero h k = absurd (none_open k)
open_behind (Empty ∷ xs) (suc n) (suc p) h k = let le = open_behind xs n p h k in omega arith

front_set : (xs : List TalePlace) (place p : ℕ) (y : TalePlace) → place ≤ p → take place (slice_set xs p y) ≡ take place xs
front_set xs zero p y le = refl
front_set [] (suc n) p y le = refl
front_set (x ∷ xs) (suc n) zero y le = absurd (omega arith)
front_set (x ∷ xs) (suc n) (suc p) y le = ap (λ zs. x ∷ zs) (front_set xs n p y (omega arith))

grouped_set : (slots : List TalePlace) (place mark p : ℕ) (y : TalePlace) → IsSome (open_end_at slots p) → AreGroupedTo slots place mark → AreGroupedTo (slice_set slots p y) place mark
grouped_set slots place mark p y k h = grouped_same slots (slice_set slots p y) place mark (front_set slots place p y (open_behind slots place p h.settled k)) h

-- ---- it is settled
pub grouped_settled : (slots : List TalePlace) (place mark p : ℕ) (x : StoredCommit) → IsSome (open_end_at slots p) → AreGroupedTo slots place mark → AreGroupedTo (slice_set slots p (Settled x)) place mark
grouped_settled slots place mark p x k h = grouped_set slots place mark p (Settled x) k h

-- ---- it is left
and_kept : (x : TalePlace) (ys : List TalePlace) → IsSome (stored_of x) → and_place x ys ≡ x ∷ ys
and_kept (Open e) ys h = absurd (none_open h)
and_kept (Reading b) ys h = absurd (none_open h)
and_kept (Settled c) [] h = refl
and_kept (Settled c) (y ∷ ys) h = refl
and_kept Empty ys h = absurd (none_open h)

front_kept : (xs : List TalePlace) (n : ℕ) → IsSome (stored_at xs n) → take (suc n) (without_empty_back xs) ≡ take (suc n) xs
front_kept [] n h = absurd (none_there n h)
front_kept (x ∷ xs) zero h = ap (take 1) (and_kept x (without_empty_back xs) h)
front_kept (x ∷ []) (suc n) h = absurd (none_there n h)
front_kept (x ∷ z ∷ zs) (suc n) h = go (without_empty_back (z ∷ zs)) (front_kept (z ∷ zs) n h)
  where
    go : (ys : List TalePlace) → take (suc n) ys ≡ take (suc n) (z ∷ zs) → take (suc (suc n)) (and_place x ys) ≡ take (suc (suc n)) (x ∷ z ∷ zs)
    go [] e = absurd (nil_cons z (take n zs) e)
    go (y ∷ ys) e = ap (λ ws. x ∷ ws) e

front_back : (xs : List TalePlace) (place : ℕ) (y : TalePlace) (ys : List TalePlace) → IsBehindStored xs place → without_empty_back xs ≡ y ∷ ys → take place (without_empty_back xs) ≡ take place xs
front_back xs zero y ys h e = refl
front_back [] (suc n) y ys h e = absurd h
front_back (Open d ∷ xs) (suc n) y ys h e = front_kept (Open d ∷ xs) n h
front_back (Reading d ∷ xs) (suc n) y ys h e = front_kept (Reading d ∷ xs) n h
front_back (Settled c ∷ xs) (suc n) y ys h e = front_kept (Settled c ∷ xs) n h
front_back (Empty ∷ xs) (suc n) y ys h e = go (without_empty_back xs) (λ w ws i. front_back xs n w ws h i) refl e
  where
    go : (ws : List TalePlace) → ((w : TalePlace) (us : List TalePlace) → without_empty_back xs ≡ w ∷ us → take n (without_empty_back xs) ≡ take n xs) → without_empty_back xs ≡ ws → and_place Empty ws ≡ y ∷ ys → take (suc n) (and_place Empty ws) ≡ Empty ∷ take n xs
    go [] r i k = absurd (nil_cons y ys k)
    go (w ∷ ws) r i k = ap (λ zs. Empty ∷ zs) (ap (take n) (sym i) ∙ r w ws i)

pub front_closed : (xs : List TalePlace) (place : ℕ) → IsBehindStored xs place → take place (closed_up xs) ≡ take place xs
front_closed xs place h = go (without_empty_back xs) refl
  where
    go : (ws : List TalePlace) → without_empty_back xs ≡ ws → take place (or_all xs ws) ≡ take place xs
    go [] i = refl
    go (w ∷ ws) i = ap (take place) (sym i) ∙ front_back xs place w ws h i

pub grouped_left : (slots : List TalePlace) (place mark p : ℕ) → IsSome (open_end_at slots p) → AreGroupedTo slots place mark → AreGroupedTo (closed_up (slice_set slots p Empty)) place mark
grouped_left slots place mark p k h =
    let emptied = grouped_set slots place mark p Empty k h in
    grouped_same (slice_set slots p Empty) (closed_up (slice_set slots p Empty)) place mark (front_closed (slice_set slots p Empty) place emptied.behind) emptied

-- ---- what is before it is forgotten
pub stored_behind : (xs : List TalePlace) (n : ℕ) → IsSome (stored_at xs n) → IsBehindStored xs (suc n)
stored_behind [] n h = absurd (none_there n h)
stored_behind (Open d ∷ xs) n h = h
stored_behind (Reading d ∷ xs) n h = h
stored_behind (Settled c ∷ xs) n h = h
stored_behind (Empty ∷ xs) zero h = absurd (none_open h)
stored_behind (Empty ∷ xs) (suc n) h = stored_behind xs n h

behind_rest : (c : StoredCommit) (xs : List TalePlace) (n : ℕ) → IsBehindStored (Settled c ∷ xs) (suc n) → IsBehindStored xs n
behind_rest c xs zero h = tt
behind_rest c xs (suc n) h = stored_behind xs n h

pub grouped_forgotten : (upto : ℕ) (slots : List TalePlace) (place mark : ℕ) → AreGroupedTo slots place mark → AreGroupedTo (forgotten upto slots) place mark
grouped_forgotten upto slots zero mark h = record { behind = tt; settled = refl; grouped = tt }
grouped_forgotten upto [] (suc n) mark h = h
grouped_forgotten upto (Open d ∷ xs) (suc n) mark h = h
grouped_forgotten upto (Reading d ∷ xs) (suc n) mark h = h
grouped_forgotten upto (Empty ∷ xs) (suc n) mark h =
    let r = grouped_forgotten upto xs n mark (record { behind = h.behind; settled = h.settled; grouped = h.grouped }) in
    record { behind = r.behind; settled = r.settled; grouped = r.grouped }
grouped_forgotten upto (Settled c ∷ xs) (suc n) mark h =
    go (nat_le c.end upto) (grouped_forgotten upto xs n mark (record { behind = behind_rest c xs n h.behind; settled = h.settled; grouped = h.grouped.1 }))
  where
    go : (b : Bool) → AreGroupedTo (forgotten upto xs) n mark → AreGroupedTo (cond b (Empty ∷ forgotten upto xs) (Settled c ∷ xs)) (suc n) mark
    go true r = record { behind = r.behind; settled = r.settled; grouped = r.grouped }
    go false r = h
