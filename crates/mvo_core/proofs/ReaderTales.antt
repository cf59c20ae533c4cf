-- The places of read-only transactions in the tale stay theirs as those of others are opened, settled and left.
use Rattle.std.proofs.Common.{◌≡◌, ◌∙◌, ℕ, ◌≤◌, zero, suc, Bool, true, false, cond, List, [], ◌∷◌, ◌++◌, Some, refl, sym, ap, subst, arith}
use Rattle.std.specs.Prelude.{nat_lt, slice_set, IsSome, length, filter}
use Rattle.std.specs.Option.{is_some}
use Rattle.std.specs.List.{AllByRecursion}
use Rattle.std.proofs.lemmas.Bool.{eqb-true}
use Rattle.std.proofs.lemmas.List.{nil_from_length}
use Rattle.std.proofs.lemmas.List.Sorted.{length_permutation}
use Rattle.mvo_types.specs.declared.ids.Stamp.{Stamp}
use Rattle.mvo_theory.proofs.Each.{each_append, each_weaker}
use Rattle.mvo_readonly.specs.Whole.{CommittedReader}
use Rattle.mvo_readonly.specs.WholeTale.{stored_readers}
use Rattle.mvo_tale.specs.declared.tale_place.TalePlace.{TalePlace}
use Rattle.mvo_tale.specs.declared.tale_place.TalePlace.TheVariants.{Open, Reading, Settled, Empty}
use Rattle.mvo_tale.specs.Stored.{StoredCommit}
use Rattle.mvo_tale.specs.Slots.{ends, open_end_at, closed_up}
use Rattle.mvo_tale.specs.Forgetting.{forgotten}
use Rattle.mvo_tale.specs.Others.{ends_at_begin, others_places}
use Rattle.mvo_tale.specs.WholePlaces.{reader_of, readers_at, HasReaders}
use Rattle.mvo_tale.proofs.Gone.{ends_closed}
use Rattle.mvo_tale.proofs.ReadingMoves.{readers_prepared, readers_committed, readers_aborted}
use Rattle.mvo_tale.proofs.Rising.{ends-append, ends_settled, open_pending}
use Rattle.mvo_core.specs.Readers.{Readers, HasTalePlaces}
use Rattle.mvo_core.specs.Receipts.{Receipt}
use Rattle.mvo_core.specs.Trimming.{stored_above, and_above}

-- ---- fewer ends
pub each_emptied : (P : ℕ → Type 0) (xs : List TalePlace) (p : ℕ) → AllByRecursion P (ends xs) → AllByRecursion P (ends (slice_set xs p Empty))
each_emptied P [] p h = h
each_emptied P (Open e ∷ xs) zero h = h.1
each_emptied P (Reading b ∷ xs) zero h = h.1
each_emptied P (Settled c ∷ xs) zero h = h.1
each_emptied P (Empty ∷ xs) zero h = h
each_emptied P (Open e ∷ xs) (suc p) h = (h.0, each_emptied P xs p h.1)
each_emptied P (Reading b ∷ xs) (suc p) h = (h.0, each_emptied P xs p h.1)
each_emptied P (Settled c ∷ xs) (suc p) h = (h.0, each_emptied P xs p h.1)
each_emptied P (Empty ∷ xs) (suc p) h = each_emptied P xs p h

pub each_forgotten : (P : ℕ → Type 0) (upto : ℕ) (xs : List TalePlace) → AllByRecursion P (ends xs) → AllByRecursion P (ends (forgotten upto xs))
each_forgotten P upto [] h = h
each_forgotten P upto (Open e ∷ xs) h = h
each_forgotten P upto (Reading b ∷ xs) h = h
each_forgotten P upto (Settled c ∷ xs) h = go (Rattle.std.specs.Prelude.nat_le c.end upto) (each_forgotten P upto xs h.1)
  where
    go : (b : Bool) → AllByRecursion P (ends (forgotten upto xs)) → AllByRecursion P (ends (cond b (Empty ∷ forgotten upto xs) (Settled c ∷ xs)))
    go true k = k
    go false k = h
each_forgotten P upto (Empty ∷ xs) h = each_forgotten P upto xs h

-- ---- the places
module _ (rs : Readers) (start k : ℕ) (slots : List TalePlace) (h : HasTalePlaces rs start k slots) where
  pub places_later : (n : ℕ) → k ≤ n → HasTalePlaces rs start n slots
  places_later n le = record {
    drawn = each_weaker (λ e. e ≤ k) (λ e. e ≤ n) (λ e l. omega (arith, l, le)) (ends slots) h.drawn;
    readers = h.readers;
  }

  pub places_with : (e : Stamp) → e.0 ≤ k → HasTalePlaces rs start k (slots ++ Open e ∷ [])
  places_with e le = record {
    drawn = subst (AllByRecursion (λ d. d ≤ k)) (sym (ends-append slots (Open e ∷ []))) (each_append (λ d. d ≤ k) (ends slots) (e.0 ∷ []) h.drawn (le, tt));
    readers = readers_prepared start rs.unfinished rs.committed e slots h.readers;
  }

  pub places_stored : (p : ℕ) (c : StoredCommit) → open_end_at slots p ≡ Some c.end → ends_at_begin c ≡ false → HasTalePlaces rs start k (slice_set slots p (Settled c))
  places_stored p c at apart = record {
    drawn = subst (AllByRecursion (λ d. d ≤ k)) (sym (ends_settled slots p c (open_pending slots p c.end at))) h.drawn;
    readers = readers_committed start rs.unfinished rs.committed c p slots at apart h.readers;
  }

  pub places_left : (p : ℕ) → IsSome (open_end_at slots p) → HasTalePlaces rs start k (closed_up (slice_set slots p Empty))
  places_left p there = record {
    drawn = subst (AllByRecursion (λ d. d ≤ k)) (sym (ends_closed (slice_set slots p Empty))) (each_emptied (λ d. d ≤ k) slots p h.drawn);
    readers = readers_aborted start rs.unfinished rs.committed p slots there h.readers;
  }

-- ---- where none was committed the stored commits are those of the others
some_reader : (y : CommittedReader) (ys : List CommittedReader) → ◌≡◌ {A = List CommittedReader} (y ∷ ys) [] → ⊥
some_reader y ys e = cc

stored_by : (start : ℕ) (slots : List TalePlace) → stored_readers start (readers_at slots) ≡ [] → stored_above start slots ≡ stored_above start (others_places slots)
stored_by start [] e = refl
stored_by start (Open d ∷ xs) e = stored_by start xs e
stored_by start (Reading b ∷ xs) e = stored_by start xs e
stored_by start (Settled c ∷ xs) e = go (ends_at_begin c) refl e (λ k. stored_by start xs k)
  where
    read : (b : Bool) → nat_lt start c.end ≡ b → cond b (reader_of c ∷ stored_readers start (readers_at xs)) (stored_readers start (readers_at xs)) ≡ [] → (stored_readers start (readers_at xs) ≡ [] → stored_above start xs ≡ stored_above start (others_places xs))
        → stored_above start (Settled c ∷ xs) ≡ stored_above start (others_places xs)
    read true i k r = absurd (some_reader (reader_of c) (stored_readers start (readers_at xs)) k)
    read false i k r = ap (λ (b : Bool). cond b (Rattle.mvo_core.specs.Receipts.receipt c.id c.end c.history ∷ stored_above start xs) (stored_above start xs)) i ∙ r k

    go : (b : Bool) → ends_at_begin c ≡ b → stored_readers start (cond b (reader_of c ∷ readers_at xs) (readers_at xs)) ≡ [] → (stored_readers start (readers_at xs) ≡ [] → stored_above start xs ≡ stored_above start (others_places xs))
        → stored_above start (Settled c ∷ xs) ≡ stored_above start (cond b Empty (Settled c) ∷ others_places xs)
    go true i k r =
        let same : c.id ≡ c.end = eqb-true c.id c.end i in
        read (nat_lt start c.end) refl (subst (λ (n : ℕ). cond (nat_lt start n) (reader_of c ∷ stored_readers start (readers_at xs)) (stored_readers start (readers_at xs)) ≡ []) same k) r
    go false i k r = ap (λ (rs : List Receipt). and_above start c rs) (r k)
stored_by start (Empty ∷ xs) e = stored_by start xs e

pub stored_others : (start : ℕ) (slots : List TalePlace) → HasReaders start [] [] slots → stored_above start slots ≡ stored_above start (others_places slots)
stored_others start slots h = stored_by start slots (nil_from_length (stored_readers start (readers_at slots)) (length_permutation [] (stored_readers start (readers_at slots)) (h.stored start (omega arith))))
