-- The places of read-only transactions that haven't ended, and of the others that are open, as places beside them change.
use Rattle.std.proofs.Common.{◌≡◌, ◌≢◌, ℕ, zero, suc, Bool, true, false, cond, List, [], ◌∷◌, ◌++◌, length, Option, None, Some, refl, sym, ap, ◌∙◌, subst, append-nil}
use Rattle.std.specs.Prelude.{slice_set, IsSome, is_some, nat_le}
use Rattle.std.specs.List.{AllByRecursion}
use Rattle.std.proofs.lemmas.Bool.{false≢true}
use Rattle.mvo_types.specs.declared.ids.Stamp.{Stamp}
use Rattle.mvo_readonly.specs.ReadAt.{WritesNothing}
use Rattle.mvo_readonly.specs.Whole.{CommittedReader}
use Rattle.mvo_readonly.specs.WholeTale.{stored_readers}
use Rattle.std.specs.List.Sorted.{IsPermutation}
use Rattle.mvo_tale.specs.declared.tale_place.TalePlace.{TalePlace}
use Rattle.mvo_tale.specs.declared.tale_place.TalePlace.TheVariants.{Open, Reading, Settled, Empty}
use Rattle.mvo_tale.specs.Slots.{open_end_at, reading_begin_of, reading_begin_at, reading_begins, and_place, without_empty_back, or_all, closed_up}
use Rattle.mvo_tale.specs.Forgetting.{forgotten}
use Rattle.mvo_tale.specs.Others.{ends_at_begin}
use Rattle.mvo_tale.specs.WholePlaces.{reader_of, readers_at, PrepareKeepsReaders, CommitKeepsReaders, AbortKeepsReaders}
use Rattle.mvo_tale.proofs.WholePlaces.{begins-append, begins_cons, begins_closed, readers-append, readers_closed}

none_there : ◌≡◌ {A = Bool} false true → ⊥
none_there h = false≢true h

none_begin : (b : ℕ) → ◌≡◌ {A = Option ℕ} None (Some b) → ⊥
none_begin b h = cc

-- ---- a place of one that reads stays
pub reading_last : (slots : List TalePlace) (b : Stamp) → reading_begin_at (slots ++ Reading b ∷ []) (length slots) ≡ Some b.0
reading_last [] b = refl
reading_last (x ∷ xs) b = reading_last xs b

pub reading_behind : (slots : List TalePlace) (y : TalePlace) (q b : ℕ) → reading_begin_at slots q ≡ Some b → reading_begin_at (slots ++ y ∷ []) q ≡ Some b
reading_behind [] y q b h = absurd (none_begin b h)
reading_behind (x ∷ xs) y zero b h = h
reading_behind (x ∷ xs) y (suc q) b h = reading_behind xs y q b h

-- another place is another's
pub reading_elsewhere : (slots : List TalePlace) (p q b : ℕ) (y : TalePlace) → p ≢ q → reading_begin_at slots q ≡ Some b → reading_begin_at (slice_set slots p y) q ≡ Some b
reading_elsewhere [] p q b y ne h = absurd (none_begin b h)
reading_elsewhere (x ∷ xs) zero zero b y ne h = absurd (ne refl)
reading_elsewhere (x ∷ xs) zero (suc q) b y ne h = h
reading_elsewhere (x ∷ xs) (suc p) zero b y ne h = h
reading_elsewhere (x ∷ xs) (suc p) (suc q) b y ne h = reading_elsewhere xs p q b y (λ e. ne (ap suc e)) h

pub open_elsewhere : (slots : List TalePlace) (p q e : ℕ) (y : TalePlace) → p ≢ q → open_end_at slots q ≡ Some e → open_end_at (slice_set slots p y) q ≡ Some e
open_elsewhere [] p q e y ne h = absurd (none_begin e h)
open_elsewhere (x ∷ xs) zero zero e y ne h = absurd (ne refl)
open_elsewhere (x ∷ xs) zero (suc q) e y ne h = h
open_elsewhere (x ∷ xs) (suc p) zero e y ne h = h
open_elsewhere (x ∷ xs) (suc p) (suc q) e y ne h = open_elsewhere xs p q e y (λ i. ne (ap suc i)) h

-- no place is both
pub reading_not_open : (slots : List TalePlace) (p q b e : ℕ) → reading_begin_at slots p ≡ Some b → open_end_at slots q ≡ Some e → p ≢ q
reading_not_open [] p q b e h k = absurd (none_begin b h)
reading_not_open (Open d ∷ xs) zero q b e h k = absurd (none_begin b h)
reading_not_open (Reading d ∷ xs) zero zero b e h k = absurd (none_begin e k)
reading_not_open (Reading d ∷ xs) zero (suc q) b e h k = λ i. apart q i
  where
    apart : (n : ℕ) → ◌≡◌ {A = ℕ} zero (suc n) → ⊥
    apart n i = cc
reading_not_open (Settled c ∷ xs) zero q b e h k = absurd (none_begin b h)
reading_not_open (Empty ∷ xs) zero q b e h k = absurd (none_begin b h)
reading_not_open (x ∷ xs) (suc p) zero b e h k = λ i. apart p i
  where
    apart : (n : ℕ) → ◌≡◌ {A = ℕ} (suc n) zero → ⊥
    apart n i = cc
reading_not_open (x ∷ xs) (suc p) (suc q) b e h k = λ i. reading_not_open xs p q b e h k (same p q i)
  where
    same : (m n : ℕ) → ◌≡◌ {A = ℕ} (suc m) (suc n) → m ≡ n
    same m n i = cc

reading_first : (x : TalePlace) (ys : List TalePlace) (b : ℕ) → reading_begin_of x ≡ Some b → reading_begin_at (and_place x ys) zero ≡ Some b
reading_first (Open e) ys b h = absurd (none_begin b h)
reading_first (Reading d) [] b h = h
reading_first (Reading d) (y ∷ ys) b h = h
reading_first (Settled c) ys b h = absurd (none_begin b h)
reading_first Empty ys b h = absurd (none_begin b h)

reading_later : (x : TalePlace) (ys : List TalePlace) (q b : ℕ) → reading_begin_at ys q ≡ Some b → reading_begin_at (and_place x ys) (suc q) ≡ Some b
reading_later x [] q b h = absurd (none_begin b h)
reading_later x (y ∷ ys) q b h = h

reading_without : (slots : List TalePlace) (q b : ℕ) → reading_begin_at slots q ≡ Some b → reading_begin_at (without_empty_back slots) q ≡ Some b
reading_without [] q b h = absurd (none_begin b h)
reading_without (x ∷ xs) zero b h = reading_first x (without_empty_back xs) b h
reading_without (x ∷ xs) (suc q) b h = reading_later x (without_empty_back xs) q b (reading_without xs q b h)

pub reading_closed : (slots : List TalePlace) (q b : ℕ) → reading_begin_at slots q ≡ Some b → reading_begin_at (closed_up slots) q ≡ Some b
reading_closed slots q b h = go (without_empty_back slots) (reading_without slots q b h)
  where
    go : (ws : List TalePlace) → reading_begin_at ws q ≡ Some b → reading_begin_at (or_all slots ws) q ≡ Some b
    go [] k = h
    go (w ∷ ws) k = k

pub reading_forgotten : (upto : ℕ) (slots : List TalePlace) (q b : ℕ) → reading_begin_at slots q ≡ Some b → reading_begin_at (forgotten upto slots) q ≡ Some b
reading_forgotten upto [] q b h = h
reading_forgotten upto (Open e ∷ slots) q b h = h
reading_forgotten upto (Reading d ∷ slots) q b h = h
reading_forgotten upto (Settled c ∷ slots) zero b h = absurd (none_begin b h)
reading_forgotten upto (Settled c ∷ slots) (suc q) b h = go (nat_le c.end upto) (reading_forgotten upto slots q b h)
  where
    go : (v : Bool) → reading_begin_at (forgotten upto slots) q ≡ Some b → reading_begin_at (cond v (Empty ∷ forgotten upto slots) (Settled c ∷ slots)) (suc q) ≡ Some b
    go true r = r
    go false r = h
reading_forgotten upto (Empty ∷ slots) zero b h = absurd (none_begin b h)
reading_forgotten upto (Empty ∷ slots) (suc q) b h = reading_forgotten upto slots q b h

-- ---- another prepares, is settled or is aborted: the read-only ones' places stay
begins_open : (xs : List TalePlace) (p : ℕ) (y : TalePlace) → reading_begins (y ∷ []) ≡ [] → IsSome (open_end_at xs p) → reading_begins (slice_set xs p y) ≡ reading_begins xs
begins_open [] p y e h = absurd (none_there h)
begins_open (Open d ∷ xs) zero y e h = begins_cons y xs e
begins_open (Open d ∷ xs) (suc p) y e h = begins_open xs p y e h
begins_open (Reading b ∷ xs) zero y e h = absurd (none_there h)
begins_open (Reading b ∷ xs) (suc p) y e h = ap (λ bs. b.0 ∷ bs) (begins_open xs p y e h)
begins_open (Settled c ∷ xs) zero y e h = absurd (none_there h)
begins_open (Settled c ∷ xs) (suc p) y e h = begins_open xs p y e h
begins_open (Empty ∷ xs) zero y e h = absurd (none_there h)
begins_open (Empty ∷ xs) (suc p) y e h = begins_open xs p y e h

readers_cons : (y : TalePlace) (xs : List TalePlace) → readers_at (y ∷ []) ≡ [] → readers_at (y ∷ xs) ≡ readers_at xs
readers_cons (Open e) xs h = refl
readers_cons (Reading b) xs h = refl
readers_cons (Settled c) xs h = go (ends_at_begin c) h
  where
    some : (z : CommittedReader) → ◌≡◌ {A = List CommittedReader} (z ∷ []) [] → ⊥
    some z k = cc

    go : (v : Bool) → cond v (reader_of c ∷ []) [] ≡ [] → cond v (reader_of c ∷ readers_at xs) (readers_at xs) ≡ readers_at xs
    go true k = absurd (some (reader_of c) k)
    go false k = refl
readers_cons Empty xs h = refl

readers_open : (xs : List TalePlace) (p : ℕ) (y : TalePlace) → readers_at (y ∷ []) ≡ [] → IsSome (open_end_at xs p) → readers_at (slice_set xs p y) ≡ readers_at xs
readers_open [] p y e h = absurd (none_there h)
readers_open (Open d ∷ xs) zero y e h = readers_cons y xs e
readers_open (Open d ∷ xs) (suc p) y e h = readers_open xs p y e h
readers_open (Reading b ∷ xs) zero y e h = absurd (none_there h)
readers_open (Reading b ∷ xs) (suc p) y e h = readers_open xs p y e h
readers_open (Settled c ∷ xs) zero y e h = absurd (none_there h)
readers_open (Settled c ∷ xs) (suc p) y e h = ap (λ l. cond (ends_at_begin c) (reader_of c ∷ l) l) (readers_open xs p y e h)
readers_open (Empty ∷ xs) zero y e h = absurd (none_there h)
readers_open (Empty ∷ xs) (suc p) y e h = readers_open xs p y e h

pub readers_prepared : PrepareKeepsReaders
readers_prepared start rs ys e slots h = record {
  reading = begins-append slots (Open e ∷ []) ∙ append-nil (reading_begins slots) ∙ h.reading;
  stored = λ m le. subst (λ (l : List CommittedReader). IsPermutation (stored_readers m ys) (stored_readers m l)) (sym (readers-append slots (Open e) refl)) (h.stored m le);
  idle = subst (AllByRecursion (λ y. WritesNothing y.history)) (sym (readers-append slots (Open e) refl)) h.idle;
}

pub readers_committed : CommitKeepsReaders
readers_committed start rs ys c place slots at apart h =
    let there : IsSome (open_end_at slots place) = ap is_some at in
    let none : readers_at (Settled c ∷ []) ≡ [] = ap (λ (v : Bool). cond v (reader_of c ∷ []) []) apart in
    let same : readers_at (slice_set slots place (Settled c)) ≡ readers_at slots = readers_open slots place (Settled c) none there in
    record {
      reading = begins_open slots place (Settled c) refl there ∙ h.reading;
      stored = λ m le. subst (λ (l : List CommittedReader). IsPermutation (stored_readers m ys) (stored_readers m l)) (sym same) (h.stored m le);
      idle = subst (AllByRecursion (λ y. WritesNothing y.history)) (sym same) h.idle;
    }

pub readers_aborted : AbortKeepsReaders
readers_aborted start rs ys place slots there h =
    let emptied = slice_set slots place Empty in
    let same : readers_at (closed_up emptied) ≡ readers_at slots = readers_closed emptied ∙ readers_open slots place Empty refl there in
    record {
      reading = begins_closed emptied ∙ begins_open slots place Empty refl there ∙ h.reading;
      stored = λ m le. subst (λ (l : List CommittedReader). IsPermutation (stored_readers m ys) (stored_readers m l)) (sym same) (h.stored m le);
      idle = subst (AllByRecursion (λ y. WritesNothing y.history)) (sym same) h.idle;
    }
