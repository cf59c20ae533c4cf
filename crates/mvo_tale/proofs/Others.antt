-- The places of the others as some are opened, settled, left and forgotten.
use Rattle.std.proofs.Common.{◌≡◌, ℕ, zero, suc, ◌≤◌, Bool, true, false, cond, List, [], ◌∷◌, ◌++◌, Option, None, Some, refl, ap, ◌∙◌, arith}
use Rattle.std.specs.Prelude.{slice_set, IsSome, nat_le, filter}
use Rattle.std.specs.List.{AllByRecursion}
use Rattle.std.proofs.lemmas.Bool.{false≢true, leb-true}
use Rattle.std.proofs.lemmas.List.{map-append}
use Rattle.mvo_theory.specs.Marks.{Commit}
use Rattle.mvo_theory.specs.Groups.{is_due}
use Rattle.mvo_theory.specs.State.{State, StampedTx}
use Rattle.mvo_theory.specs.Sound.{IsStarted}
use Rattle.mvo_readonly.specs.ReadAt.{WritesNothing}
use Rattle.mvo_readonly.proofs.Tales.{never_due}
use Rattle.mvo_tale.specs.declared.tale_place.TalePlace.{TalePlace}
use Rattle.mvo_tale.specs.declared.tale_place.TalePlace.TheVariants.{Open, Reading, Settled, Empty}
use Rattle.mvo_tale.specs.Stored.{StoredCommit, stored_commit_of}
use Rattle.mvo_tale.specs.Slots.{open_ends, tale_commits, open_end_at, reading_begin_at, and_place, without_empty_back, or_all, closed_up}
use Rattle.mvo_tale.specs.Forgetting.{forgotten}
use Rattle.mvo_tale.specs.Next.{due_in}
use Rattle.mvo_tale.specs.Timeline.{ArePlacesOf}
use Rattle.mvo_tale.specs.Kept.{HasTale}
use Rattle.mvo_tale.specs.Others.{ends_at_begin, others_place, others_places}
use Rattle.mvo_tale.specs.WholePlaces.{reader_of, readers_at}
use Rattle.mvo_tale.proofs.KeptPlaces.{empty_goes, empty_comes, settled_goes}

none_some : ◌≡◌ {A = Bool} false true → ⊥
none_some h = false≢true h

none_end : (e : ℕ) → ◌≡◌ {A = Option ℕ} None (Some e) → ⊥
none_end e h = cc

-- ---- at a place
pub others_append : (xs ys : List TalePlace) → others_places (xs ++ ys) ≡ others_places xs ++ others_places ys
others_append xs ys = map-append others_place xs ys

pub others_set : (xs : List TalePlace) (p : ℕ) (y : TalePlace) → others_places (slice_set xs p y) ≡ slice_set (others_places xs) p (others_place y)
others_set [] p y = refl
others_set (x ∷ xs) zero y = refl
others_set (x ∷ xs) (suc p) y = ap (λ (zs : List TalePlace). others_place x ∷ zs) (others_set xs p y)

-- a commit of another is stored
pub others_settled : (xs : List TalePlace) (p : ℕ) (c : StoredCommit) → ends_at_begin c ≡ false → others_places (slice_set xs p (Settled c)) ≡ slice_set (others_places xs) p (Settled c)
others_settled xs p c apart = others_set xs p (Settled c) ∙ ap (λ (b : Bool). slice_set (others_places xs) p (cond b Empty (Settled c))) apart

pub others_open : (xs : List TalePlace) (p e : ℕ) → open_end_at xs p ≡ Some e → open_end_at (others_places xs) p ≡ Some e
others_open [] p e h = h
others_open (Open d ∷ xs) zero e h = h
others_open (Reading b ∷ xs) zero e h = h
others_open (Settled c ∷ xs) zero e h = absurd (none_end e h)
others_open (Empty ∷ xs) zero e h = h
others_open (x ∷ xs) (suc p) e h = others_open xs p e h

pub others_open_ends : (xs : List TalePlace) → open_ends (others_places xs) ≡ open_ends xs
others_open_ends [] = refl
others_open_ends (Open e ∷ xs) = ap (λ es. e.0 ∷ es) (others_open_ends xs)
others_open_ends (Reading b ∷ xs) = others_open_ends xs
others_open_ends (Settled c ∷ xs) = go (ends_at_begin c) (others_open_ends xs)
  where
    go : (b : Bool) → open_ends (others_places xs) ≡ open_ends xs → open_ends (cond b Empty (Settled c) ∷ others_places xs) ≡ open_ends xs
    go true r = r
    go false r = r
others_open_ends (Empty ∷ xs) = others_open_ends xs

-- a read-only one is settled, or left: the others' places stay
pub others_read : (xs : List TalePlace) (p : ℕ) (c : StoredCommit) → IsSome (reading_begin_at xs p) → ends_at_begin c ≡ true → others_places (slice_set xs p (Settled c)) ≡ others_places xs
others_read [] p c h e = absurd (none_some h)
others_read (Open d ∷ xs) zero c h e = absurd (none_some h)
others_read (Reading b ∷ xs) zero c h e = ap (λ (v : Bool). cond v Empty (Settled c) ∷ others_places xs) e
others_read (Settled d ∷ xs) zero c h e = absurd (none_some h)
others_read (Empty ∷ xs) zero c h e = absurd (none_some h)
others_read (x ∷ xs) (suc p) c h e = ap (λ (zs : List TalePlace). others_place x ∷ zs) (others_read xs p c h e)

pub others_unread : (xs : List TalePlace) (p : ℕ) → IsSome (reading_begin_at xs p) → others_places (slice_set xs p Empty) ≡ others_places xs
others_unread [] p h = absurd (none_some h)
others_unread (Open d ∷ xs) zero h = absurd (none_some h)
others_unread (Reading b ∷ xs) zero h = refl
others_unread (Settled d ∷ xs) zero h = absurd (none_some h)
others_unread (Empty ∷ xs) zero h = absurd (none_some h)
others_unread (x ∷ xs) (suc p) h = ap (λ (zs : List TalePlace). others_place x ∷ zs) (others_unread xs p h)

-- ---- empty places at the back
with_front : (y : TalePlace) (ss ts : List TalePlace) → ((xs : List StampedTx) → ArePlacesOf ss xs → ArePlacesOf ts xs) → (xs : List StampedTx) → ArePlacesOf (y ∷ ss) xs → ArePlacesOf (y ∷ ts) xs
with_front (Open e) ss ts f [] h = absurd h
with_front (Open e) ss ts f (x ∷ xs) h = (h.0, f xs h.1)
with_front (Reading b) ss ts f [] h = absurd h
with_front (Reading b) ss ts f (x ∷ xs) h = absurd h
with_front (Settled c) ss ts f [] h = absurd h
with_front (Settled c) ss ts f (x ∷ xs) h = (h.0, f xs h.1)
with_front Empty ss ts f [] h = f [] h
with_front Empty ss ts f (x ∷ xs) h = f (x ∷ xs) h

-- one is opened
pub places_begun : (ss : List TalePlace) (xs : List StampedTx) → ArePlacesOf ss xs → ArePlacesOf (ss ++ Empty ∷ []) xs
places_begun [] [] h = h
places_begun [] (x ∷ xs) h = absurd h
places_begun (y ∷ ss) xs h = with_front y ss (ss ++ Empty ∷ []) (places_begun ss) xs h

others_back : (z : TalePlace) (ws : List TalePlace) (xs : List StampedTx) → ArePlacesOf (others_place z ∷ others_places ws) xs → ArePlacesOf (others_places (and_place z ws)) xs
others_back z (w ∷ ws) xs r = r
others_back (Open e) [] xs r = r
others_back (Reading b) [] xs r = r
others_back (Settled c) [] xs r = r
others_back Empty [] [] r = r
others_back Empty [] (x ∷ xs) r = r

others_without : (zs : List TalePlace) (xs : List StampedTx) → ArePlacesOf (others_places zs) xs → ArePlacesOf (others_places (without_empty_back zs)) xs
others_without [] xs h = h
others_without (z ∷ zs) xs h = others_back z (without_empty_back zs) xs (with_front (others_place z) (others_places zs) (others_places (without_empty_back zs)) (others_without zs) xs h)

-- they go
pub others_closed : (zs : List TalePlace) (xs : List StampedTx) → ArePlacesOf (others_places zs) xs → ArePlacesOf (others_places (closed_up zs)) xs
others_closed zs xs h = go (without_empty_back zs) (others_without zs xs h)
  where
    go : (ws : List TalePlace) → ArePlacesOf (others_places ws) xs → ArePlacesOf (others_places (or_all zs ws)) xs
    go [] k = h
    go (w ∷ ws) k = k

-- ---- the front is forgotten
pub others_forgotten : (s : State) (upto : ℕ) (slots : List TalePlace) → IsStarted s → upto ≤ s.start → upto ≤ s.marks.closed → HasTale s (others_places slots) → HasTale s (others_places (forgotten upto slots))
others_forgotten s upto [] st a b h = h
others_forgotten s upto (Open e ∷ slots) st a b h = h
others_forgotten s upto (Reading e ∷ slots) st a b h = h
others_forgotten s upto (Settled c ∷ slots) st a b h = go (nat_le c.end upto) refl (λ k. others_forgotten s upto slots st a b k)
  where
    front : (v : Bool) → c.end ≤ upto → HasTale s (cond v Empty (Settled c) ∷ others_places slots) → HasTale s (others_places slots)
    front true le k = empty_goes s (others_places slots) k
    front false le k = settled_goes s c (others_places slots) st (omega arith) (omega arith) k

    go : (x : Bool) → nat_le c.end upto ≡ x → (HasTale s (others_places slots) → HasTale s (others_places (forgotten upto slots))) → HasTale s (others_places (cond x (Empty ∷ forgotten upto slots) (Settled c ∷ slots)))
    go true i r = empty_comes s (others_places (forgotten upto slots)) (r (front (ends_at_begin c) (leb-true c.end upto i) h))
    go false i r = h
others_forgotten s upto (Empty ∷ slots) st a b h = empty_comes s (others_places (forgotten upto slots)) (others_forgotten s upto slots st a b (empty_goes s (others_places slots) h))

-- ---- the next group
due_cons : (prev low : ℕ) (c : Commit) (cs ds : List Commit) → filter (is_due prev) (filter (λ d. nat_le d.0 low) cs) ≡ filter (is_due prev) (filter (λ d. nat_le d.0 low) ds) → filter (is_due prev) (filter (λ d. nat_le d.0 low) (c ∷ cs)) ≡ filter (is_due prev) (filter (λ d. nat_le d.0 low) (c ∷ ds))
due_cons prev low c cs ds r = go (nat_le c.0 low)
  where
    go : (b : Bool) → filter (is_due prev) (cond b (c ∷ filter (λ d. nat_le d.0 low) cs) (filter (λ d. nat_le d.0 low) cs)) ≡ filter (is_due prev) (cond b (c ∷ filter (λ d. nat_le d.0 low) ds) (filter (λ d. nat_le d.0 low) ds))
    go true = ap (λ l. cond (is_due prev c) (c ∷ l) l) r
    go false = r

due_idle : (prev low : ℕ) (c : StoredCommit) (cs : List Commit) → WritesNothing c.history → filter (is_due prev) (filter (λ d. nat_le d.0 low) (stored_commit_of c ∷ cs)) ≡ filter (is_due prev) (filter (λ d. nat_le d.0 low) cs)
due_idle prev low c cs idle = go (nat_le c.end low)
  where
    go : (b : Bool) → filter (is_due prev) (cond b (stored_commit_of c ∷ filter (λ d. nat_le d.0 low) cs) (filter (λ d. nat_le d.0 low) cs)) ≡ filter (is_due prev) (filter (λ d. nat_le d.0 low) cs)
    go true = ap (λ (b : Bool). cond b (stored_commit_of c ∷ filter (is_due prev) (filter (λ d. nat_le d.0 low) cs)) (filter (is_due prev) (filter (λ d. nat_le d.0 low) cs))) (never_due prev c.end c.history idle)
    go false = refl

pub due_others : (prev low : ℕ) (slots : List TalePlace) → AllByRecursion (λ y. WritesNothing y.history) (readers_at slots) → due_in prev low slots ≡ due_in prev low (others_places slots)
due_others prev low [] h = refl
due_others prev low (Open e ∷ slots) h = due_others prev low slots h
due_others prev low (Reading b ∷ slots) h = due_others prev low slots h
due_others prev low (Settled c ∷ slots) h = go (ends_at_begin c) (λ k. due_others prev low slots k) h
  where
    go : (b : Bool) → (AllByRecursion (λ y. WritesNothing y.history) (readers_at slots) → due_in prev low slots ≡ due_in prev low (others_places slots))
        → AllByRecursion (λ y. WritesNothing y.history) (cond b (reader_of c ∷ readers_at slots) (readers_at slots)) → due_in prev low (Settled c ∷ slots) ≡ due_in prev low (cond b Empty (Settled c) ∷ others_places slots)
    go true r k = due_idle prev low c (tale_commits slots) k.0 ∙ r k.1
    go false r k = due_cons prev low (stored_commit_of c) (tale_commits slots) (tale_commits (others_places slots)) (r k)
due_others prev low (Empty ∷ slots) h = due_others prev low slots h
