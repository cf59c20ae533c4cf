-- What is grouped up to a place stays so where a read-only transaction in front of it, or behind it, is settled or left.
use Rattle.std.proofs.Common.{◌≡◌, ℕ, zero, suc, Bool, true, false, List, [], ◌∷◌, take, refl}
use Rattle.std.specs.Prelude.{slice_set, IsSome}
use Rattle.std.proofs.lemmas.Bool.{false≢true}
use Rattle.mvo_theory.specs.Groups.{is_writing}
use Rattle.mvo_tale.specs.declared.tale_place.TalePlace.{TalePlace}
use Rattle.mvo_tale.specs.declared.tale_place.TalePlace.TheVariants.{Open, Reading, Settled, Empty}
use Rattle.mvo_tale.specs.Stored.{StoredCommit, stored_commit_of}
use Rattle.mvo_tale.specs.Slots.{open_ends, tale_commits, reading_begin_at, stored_at, closed_up}
use Rattle.mvo_tale.specs.Next.{NoneIsDue, IsBehindStored, AreGroupedTo}
use Rattle.mvo_tale.proofs.DueCommits.{idle_not_due}
use Rattle.mvo_tale.proofs.Moving.{stored_behind, front_closed, grouped_same}

none_reading : ◌≡◌ {A = Bool} false true → ⊥
none_reading h = false≢true h

-- ---- its place isn't the one right behind which a group goes on
stored_beside : (xs : List TalePlace) (p n : ℕ) (y : TalePlace) → IsSome (stored_at xs n) → IsSome (reading_begin_at xs p) → IsSome (stored_at (slice_set xs p y) n)
stored_beside [] p n y h k = absurd (none_reading k)
stored_beside (Open e ∷ xs) zero zero y h k = absurd (none_reading k)
stored_beside (Reading b ∷ xs) zero zero y h k = absurd (none_reading h)
stored_beside (Settled c ∷ xs) zero zero y h k = absurd (none_reading k)
stored_beside (Empty ∷ xs) zero zero y h k = absurd (none_reading k)
stored_beside (x ∷ xs) zero (suc n) y h k = h
stored_beside (x ∷ xs) (suc p) zero y h k = h
stored_beside (x ∷ xs) (suc p) (suc n) y h k = stored_beside xs p n y h k

behind_set : (xs : List TalePlace) (place p : ℕ) (y : TalePlace) → IsSome (reading_begin_at xs p) → IsBehindStored xs place → IsBehindStored (slice_set xs p y) place
behind_set xs zero p y k h = tt
behind_set [] (suc n) p y k h = absurd h
behind_set (Open e ∷ xs) (suc n) p y k h = stored_behind (slice_set (Open e ∷ xs) p y) n (stored_beside (Open e ∷ xs) p n y h k)
behind_set (Reading b ∷ xs) (suc n) p y k h = stored_behind (slice_set (Reading b ∷ xs) p y) n (stored_beside (Reading b ∷ xs) p n y h k)
behind_set (Settled c ∷ xs) (suc n) p y k h = stored_behind (slice_set (Settled c ∷ xs) p y) n (stored_beside (Settled c ∷ xs) p n y h k)
behind_set (Empty ∷ xs) (suc n) zero y k h = absurd (none_reading k)
behind_set (Empty ∷ xs) (suc n) (suc p) y k h = behind_set xs n p y k h

-- ---- none is open there, and no commit is due
cons_nil : (e : ℕ) (es : List ℕ) → ◌≡◌ {A = List ℕ} (e ∷ es) [] → ⊥
cons_nil e es h = cc

opens_first : (x : TalePlace) (xs : List TalePlace) → open_ends (x ∷ xs) ≡ [] → open_ends (x ∷ []) ≡ []
opens_first (Open e) xs h = absurd (cons_nil e.0 (open_ends xs) h)
opens_first (Reading b) xs h = refl
opens_first (Settled c) xs h = refl
opens_first Empty xs h = refl

opens_rest : (x : TalePlace) (xs : List TalePlace) → open_ends (x ∷ xs) ≡ [] → open_ends xs ≡ []
opens_rest (Open e) xs h = absurd (cons_nil e.0 (open_ends xs) h)
opens_rest (Reading b) xs h = h
opens_rest (Settled c) xs h = h
opens_rest Empty xs h = h

opens_both : (x : TalePlace) (xs : List TalePlace) → open_ends (x ∷ []) ≡ [] → open_ends xs ≡ [] → open_ends (x ∷ xs) ≡ []
opens_both (Open e) xs h k = absurd (cons_nil e.0 [] h)
opens_both (Reading b) xs h k = k
opens_both (Settled c) xs h k = k
opens_both Empty xs h k = k

opens_set : (xs : List TalePlace) (place p : ℕ) (y : TalePlace) → open_ends (y ∷ []) ≡ [] → open_ends (take place xs) ≡ [] → open_ends (take place (slice_set xs p y)) ≡ []
opens_set xs zero p y e h = refl
opens_set [] (suc n) p y e h = refl
opens_set (x ∷ xs) (suc n) zero y e h = opens_both y (take n xs) e (opens_rest x (take n xs) h)
opens_set (x ∷ xs) (suc n) (suc p) y e h = opens_both x (take n (slice_set xs p y)) (opens_first x (take n xs) h) (opens_set xs n p y e (opens_rest x (take n xs) h))

due_first : (mark : ℕ) (x : TalePlace) (xs : List TalePlace) → NoneIsDue mark (tale_commits (x ∷ xs)) → NoneIsDue mark (tale_commits (x ∷ []))
due_first mark (Open e) xs h = tt
due_first mark (Reading b) xs h = tt
due_first mark (Settled c) xs h = (h.0, tt)
due_first mark Empty xs h = tt

due_rest : (mark : ℕ) (x : TalePlace) (xs : List TalePlace) → NoneIsDue mark (tale_commits (x ∷ xs)) → NoneIsDue mark (tale_commits xs)
due_rest mark (Open e) xs h = h
due_rest mark (Reading b) xs h = h
due_rest mark (Settled c) xs h = h.1
due_rest mark Empty xs h = h

due_both : (mark : ℕ) (x : TalePlace) (xs : List TalePlace) → NoneIsDue mark (tale_commits (x ∷ [])) → NoneIsDue mark (tale_commits xs) → NoneIsDue mark (tale_commits (x ∷ xs))
due_both mark (Open e) xs h k = k
due_both mark (Reading b) xs h k = k
due_both mark (Settled c) xs h k = (h.0, k)
due_both mark Empty xs h k = k

due_set : (mark : ℕ) (xs : List TalePlace) (place p : ℕ) (y : TalePlace) → NoneIsDue mark (tale_commits (y ∷ [])) → NoneIsDue mark (tale_commits (take place xs)) → NoneIsDue mark (tale_commits (take place (slice_set xs p y)))
due_set mark xs zero p y e h = tt
due_set mark [] (suc n) p y e h = tt
due_set mark (x ∷ xs) (suc n) zero y e h = due_both mark y (take n xs) e (due_rest mark x (take n xs) h)
due_set mark (x ∷ xs) (suc n) (suc p) y e h = due_both mark x (take n (slice_set xs p y)) (due_first mark x (take n xs) h) (due_set mark xs n p y e (due_rest mark x (take n xs) h))

grouped_reading : (slots : List TalePlace) (place mark p : ℕ) (y : TalePlace) → IsSome (reading_begin_at slots p) → open_ends (y ∷ []) ≡ [] → NoneIsDue mark (tale_commits (y ∷ [])) → AreGroupedTo slots place mark → AreGroupedTo (slice_set slots p y) place mark
grouped_reading slots place mark p y k o d h = record {
  behind = behind_set slots place p y k h.behind;
  settled = opens_set slots place p y o h.settled;
  grouped = due_set mark slots place p y d h.grouped;
}

-- ---- it is settled, and wrote nothing
pub grouped_read : (slots : List TalePlace) (place mark p : ℕ) (x : StoredCommit) → IsSome (reading_begin_at slots p) → is_writing (stored_commit_of x) ≡ false → AreGroupedTo slots place mark → AreGroupedTo (slice_set slots p (Settled x)) place mark
grouped_read slots place mark p x k idle h = grouped_reading slots place mark p (Settled x) k refl (idle_not_due mark (stored_commit_of x) idle, tt) h

-- ---- it is left
pub grouped_reading_left : (slots : List TalePlace) (place mark p : ℕ) → IsSome (reading_begin_at slots p) → AreGroupedTo slots place mark → AreGroupedTo (closed_up (slice_set slots p Empty)) place mark
grouped_reading_left slots place mark p k h =
    let emptied = grouped_reading slots place mark p Empty k refl tt h in
    grouped_same (slice_set slots p Empty) (closed_up (slice_set slots p Empty)) place mark (front_closed (slice_set slots p Empty) place emptied.behind) emptied
