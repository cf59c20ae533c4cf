-- The places of read-only transactions as these begin, commit, are aborted and are finished.
use Rattle.std.proofs.Common.{◌≡◌, ℕ, zero, suc, ◌<◌, ◌≤◌, Bool, true, false, not, cond, List, [], ◌∷◌, ◌++◌, Option, None, Some, refl, sym, ap, ◌∙◌, subst, arith, append-nil}
use Rattle.std.specs.Prelude.{slice_set, IsSome, is_some, nat_lt, nat_le, ◌==◌, filter}
use Rattle.std.specs.List.{AllByRecursion}
use Rattle.std.specs.List.Sorted.{IsPermutation}
use Rattle.std.proofs.lemmas.Bool.{false≢true, eq-eqb, eqb-true, ne_eqb, le-ltb, leb-true}
use Rattle.std.proofs.lemmas.List.Elements.{filter-append}
use Rattle.std.proofs.lemmas.List.Sorted.{IsPermutation-refl, IsPermutation-trans, IsPermutation-cons, IsPermutation-middle, IsPermutation-to_front}
use Rattle.mvo_theory.specs.State.{State, StampedTx}
use Rattle.mvo_readonly.specs.ReadAt.{WritesNothing}
use Rattle.mvo_readonly.specs.Whole.{ReaderStage, UnfinishedReader, CommittedReader}
use Rattle.mvo_readonly.specs.Whole.ReaderStage.{Reading as IsReading, Preparing, Committed, Aborted}
use Rattle.mvo_readonly.specs.WholeCalls.{with_stage, without_reader}
use Rattle.mvo_readonly.specs.WholeTale.{stored_readers}
use Rattle.mvo_tale.specs.declared.tale_place.TalePlace.{TalePlace}
use Rattle.mvo_tale.specs.declared.tale_place.TalePlace.TheVariants.{Open, Reading, Settled, Empty}
use Rattle.mvo_tale.specs.Stored.{StoredCommit}
use Rattle.mvo_tale.specs.Slots.{ends, reading_begins, reading_begin_at, AreRising, and_place, without_empty_back, or_all, closed_up}
use Rattle.mvo_tale.specs.Forgetting.{forgotten}
use Rattle.mvo_tale.specs.Kept.{HasTale}
use Rattle.mvo_tale.specs.Timeline.{ArePlacesOf}
use Rattle.mvo_tale.specs.Others.{ends_at_begin, others_places}
use Rattle.mvo_tale.specs.WholePlaces.{has_ended, begins_of, reader_of, readers_at, BeginKeepsWholeTale, StageKeepsWholeTale, SettleKeepsWholeTale, LeaveKeepsWholeTale, FinishKeepsWholeTale, TrimKeepsWholeTale, CloseKeepsWholeTale, ForgettingKeepsWholeTale, GroupTakesOthers}
use Rattle.mvo_tale.proofs.Rising.{same_end}
use Rattle.mvo_tale.proofs.KeptPlaces.{tale_trimmed, tale_closed}
use Rattle.mvo_tale.proofs.Others.{others_append, others_read, others_unread, places_begun, others_closed, others_forgotten, due_others}

no_reading : ◌≡◌ {A = Bool} false true → ⊥
no_reading h = false≢true h

none_end : (e : ℕ) → ◌≡◌ {A = Option ℕ} None (Some e) → ⊥
none_end e h = cc

-- ---- the begins of those that haven't ended, at the places
pub begins-append : (xs ys : List TalePlace) → reading_begins (xs ++ ys) ≡ reading_begins xs ++ reading_begins ys
begins-append [] ys = refl
begins-append (Open e ∷ xs) ys = begins-append xs ys
begins-append (Reading b ∷ xs) ys = ap (λ bs. b.0 ∷ bs) (begins-append xs ys)
begins-append (Settled c ∷ xs) ys = begins-append xs ys
begins-append (Empty ∷ xs) ys = begins-append xs ys

each_begin : (P : ℕ → Type 0) (xs : List TalePlace) → AllByRecursion P (ends xs) → AllByRecursion P (reading_begins xs)
each_begin P [] h = tt
each_begin P (Open e ∷ xs) h = each_begin P xs h.1
each_begin P (Reading b ∷ xs) h = (h.0, each_begin P xs h.1)
each_begin P (Settled c ∷ xs) h = each_begin P xs h.1
each_begin P (Empty ∷ xs) h = each_begin P xs h

begin_among : (P : ℕ → Type 0) (xs : List TalePlace) (p t : ℕ) → AllByRecursion P (ends xs) → reading_begin_at xs p ≡ Some t → P t
begin_among P [] p t h at = absurd (none_end t at)
begin_among P (Open e ∷ xs) zero t h at = absurd (none_end t at)
begin_among P (Open e ∷ xs) (suc p) t h at = begin_among P xs p t h.1 at
begin_among P (Reading b ∷ xs) zero t h at = subst P (same_end b.0 t at) h.0
begin_among P (Reading b ∷ xs) (suc p) t h at = begin_among P xs p t h.1 at
begin_among P (Settled c ∷ xs) zero t h at = absurd (none_end t at)
begin_among P (Settled c ∷ xs) (suc p) t h at = begin_among P xs p t h.1 at
begin_among P (Empty ∷ xs) zero t h at = absurd (none_end t at)
begin_among P (Empty ∷ xs) (suc p) t h at = begin_among P xs p t h at

all_kept : (t : ℕ) (bs : List ℕ) → AllByRecursion (λ b. t < b) bs → filter (λ b. not (b == t)) bs ≡ bs
all_kept t [] h = refl
all_kept t (b ∷ bs) h =
    let lt = h.0 in
    ap (λ (v : Bool). cond (not v) (b ∷ filter (λ a. not (a == t)) bs) (filter (λ a. not (a == t)) bs)) (ne_eqb b t (λ e. omega arith))
    ∙ ap (λ us. b ∷ us) (all_kept t bs h.1)

pub begins_cons : (y : TalePlace) (xs : List TalePlace) → reading_begins (y ∷ []) ≡ [] → reading_begins (y ∷ xs) ≡ reading_begins xs
begins_cons (Open e) xs h = refl
begins_cons (Reading b) xs h = absurd (some b.0 h)
  where
    some : (n : ℕ) → ◌≡◌ {A = List ℕ} (n ∷ []) [] → ⊥
    some n k = cc
begins_cons (Settled c) xs h = refl
begins_cons Empty xs h = refl

-- one of them is settled or left
begins_set : (xs : List TalePlace) (p t : ℕ) (y : TalePlace) → reading_begins (y ∷ []) ≡ [] → AreRising (ends xs) → reading_begin_at xs p ≡ Some t → reading_begins (slice_set xs p y) ≡ filter (λ b. not (b == t)) (reading_begins xs)
begins_set [] p t y e h at = absurd (none_end t at)
begins_set (Open d ∷ xs) zero t y e h at = absurd (none_end t at)
begins_set (Open d ∷ xs) (suc p) t y e h at = begins_set xs p t y e h.1 at
begins_set (Reading b ∷ xs) zero t y e h at =
    let is : b.0 ≡ t = same_end b.0 t at in
    begins_cons y xs e
    ∙ sym (all_kept t (reading_begins xs) (each_begin (λ d. t < d) xs (subst (λ (n : ℕ). AllByRecursion (λ d. n < d) (ends xs)) is h.0)))
    ∙ sym (ap (λ (v : Bool). cond (not v) (b.0 ∷ filter (λ a. not (a == t)) (reading_begins xs)) (filter (λ a. not (a == t)) (reading_begins xs))) (eq-eqb b.0 t is))
begins_set (Reading b ∷ xs) (suc p) t y e h at =
    let lt : b.0 < t = begin_among (λ d. b.0 < d) xs p t h.0 at in
    ap (λ bs. b.0 ∷ bs) (begins_set xs p t y e h.1 at)
    ∙ sym (ap (λ (v : Bool). cond (not v) (b.0 ∷ filter (λ a. not (a == t)) (reading_begins xs)) (filter (λ a. not (a == t)) (reading_begins xs))) (ne_eqb b.0 t (λ i. omega arith)))
begins_set (Settled d ∷ xs) zero t y e h at = absurd (none_end t at)
begins_set (Settled d ∷ xs) (suc p) t y e h at = begins_set xs p t y e h.1 at
begins_set (Empty ∷ xs) zero t y e h at = absurd (none_end t at)
begins_set (Empty ∷ xs) (suc p) t y e h at = begins_set xs p t y e h at

begins_and : (x : TalePlace) (ys : List TalePlace) → reading_begins (and_place x ys) ≡ reading_begins (x ∷ ys)
begins_and (Open e) [] = refl
begins_and (Reading b) [] = refl
begins_and (Settled c) [] = refl
begins_and Empty [] = refl
begins_and x (y ∷ ys) = refl

begins_without : (xs : List TalePlace) → reading_begins (without_empty_back xs) ≡ reading_begins xs
begins_without [] = refl
begins_without (x ∷ xs) = begins_and x (without_empty_back xs) ∙ more x (begins_without xs)
  where
    more : (y : TalePlace) → reading_begins (without_empty_back xs) ≡ reading_begins xs → reading_begins (y ∷ without_empty_back xs) ≡ reading_begins (y ∷ xs)
    more (Open e) h = h
    more (Reading b) h = ap (λ bs. b.0 ∷ bs) h
    more (Settled c) h = h
    more Empty h = h

pub begins_closed : (xs : List TalePlace) → reading_begins (closed_up xs) ≡ reading_begins xs
begins_closed xs = go (without_empty_back xs) (begins_without xs)
  where
    go : (ws : List TalePlace) → reading_begins ws ≡ reading_begins xs → reading_begins (or_all xs ws) ≡ reading_begins xs
    go [] e = refl
    go (w ∷ ws) e = e

begins_forgotten : (upto : ℕ) (xs : List TalePlace) → reading_begins (forgotten upto xs) ≡ reading_begins xs
begins_forgotten upto [] = refl
begins_forgotten upto (Open e ∷ xs) = refl
begins_forgotten upto (Reading b ∷ xs) = refl
begins_forgotten upto (Settled c ∷ xs) = go (nat_le c.end upto) (begins_forgotten upto xs)
  where
    go : (b : Bool) → reading_begins (forgotten upto xs) ≡ reading_begins xs → reading_begins (cond b (Empty ∷ forgotten upto xs) (Settled c ∷ xs)) ≡ reading_begins xs
    go true r = r
    go false r = refl
begins_forgotten upto (Empty ∷ xs) = begins_forgotten upto xs

-- ---- the begins of those that haven't ended, in the state
begins_of-append : (rs ss : List UnfinishedReader) → begins_of (rs ++ ss) ≡ begins_of rs ++ begins_of ss
begins_of-append [] ss = refl
begins_of-append (r ∷ rs) ss = go (has_ended r.stage) (begins_of-append rs ss)
  where
    go : (b : Bool) → begins_of (rs ++ ss) ≡ begins_of rs ++ begins_of ss → cond b (begins_of (rs ++ ss)) (r.id ∷ begins_of (rs ++ ss)) ≡ cond b (begins_of rs) (r.id ∷ begins_of rs) ++ begins_of ss
    go true e = e
    go false e = ap (λ bs. r.id ∷ bs) e

-- one has ended
begins_ended : (t : ℕ) (p : ReaderStage) (rs : List UnfinishedReader) → has_ended p ≡ true → begins_of (with_stage t p rs) ≡ filter (λ b. not (b == t)) (begins_of rs)
begins_ended t p [] e = refl
begins_ended t p (r ∷ rs) e = one (r.id == t) r.stage r.id (begins_of (with_stage t p rs)) (begins_of rs) (begins_ended t p rs e) refl
  where
    one : (a : Bool) (st : ReaderStage) (n : ℕ) (B C : List ℕ) → B ≡ filter (λ b. not (b == t)) C → (n == t) ≡ a → cond (has_ended (cond a p st)) B (n ∷ B) ≡ filter (λ b. not (b == t)) (cond (has_ended st) C (n ∷ C))
    one true st n B C q i = ap (λ (v : Bool). cond v B (n ∷ B)) e ∙ q ∙ out (has_ended st)
      where
        out : (v : Bool) → filter (λ b. not (b == t)) C ≡ filter (λ b. not (b == t)) (cond v C (n ∷ C))
        out true = refl
        out false = sym (ap (λ (w : Bool). cond (not w) (n ∷ filter (λ b. not (b == t)) C) (filter (λ b. not (b == t)) C)) i)
    one false st n B C q i = go (has_ended st)
      where
        go : (v : Bool) → cond v B (n ∷ B) ≡ filter (λ b. not (b == t)) (cond v C (n ∷ C))
        go true = q
        go false = ap (λ l. n ∷ l) q ∙ sym (ap (λ (w : Bool). cond (not w) (n ∷ filter (λ b. not (b == t)) C) (filter (λ b. not (b == t)) C)) i)

-- one goes on
begins_staged : (t : ℕ) (p : ReaderStage) (rs : List UnfinishedReader) → has_ended p ≡ false → AllByRecursion (λ r. r.id ≡ t → has_ended r.stage ≡ false) rs → begins_of (with_stage t p rs) ≡ begins_of rs
begins_staged t p [] e h = refl
begins_staged t p (r ∷ rs) e h = one (r.id == t) refl (begins_staged t p rs e h.1)
  where
    one : (a : Bool) → (r.id == t) ≡ a → begins_of (with_stage t p rs) ≡ begins_of rs → cond (has_ended (cond a p r.stage)) (begins_of (with_stage t p rs)) (r.id ∷ begins_of (with_stage t p rs)) ≡ cond (has_ended r.stage) (begins_of rs) (r.id ∷ begins_of rs)
    one true i q =
        ap (λ (v : Bool). cond v (begins_of (with_stage t p rs)) (r.id ∷ begins_of (with_stage t p rs))) e
        ∙ ap (λ l. r.id ∷ l) q
        ∙ sym (ap (λ (v : Bool). cond v (begins_of rs) (r.id ∷ begins_of rs)) (h.0 (eqb-true r.id t i)))
    one false i q = ap (λ l. cond (has_ended r.stage) l (r.id ∷ l)) q

-- one is finished
begins_finished : (t : ℕ) (rs : List UnfinishedReader) → AllByRecursion (λ r. r.id ≡ t → has_ended r.stage ≡ true) rs → begins_of (without_reader t rs) ≡ begins_of rs
begins_finished t [] h = refl
begins_finished t (r ∷ rs) h = one (r.id == t) refl (begins_finished t rs h.1)
  where
    one : (a : Bool) → (r.id == t) ≡ a → begins_of (without_reader t rs) ≡ begins_of rs → begins_of (cond (not a) (r ∷ without_reader t rs) (without_reader t rs)) ≡ cond (has_ended r.stage) (begins_of rs) (r.id ∷ begins_of rs)
    one true i q = q ∙ sym (ap (λ (v : Bool). cond v (begins_of rs) (r.id ∷ begins_of rs)) (h.0 (eqb-true r.id t i)))
    one false i q = ap (λ l. cond (has_ended r.stage) l (r.id ∷ l)) q

-- ---- the committed ones at the places
pub readers-append : (xs : List TalePlace) (y : TalePlace) → readers_at (y ∷ []) ≡ [] → readers_at (xs ++ y ∷ []) ≡ readers_at xs
readers-append [] y e = e
readers-append (Open d ∷ xs) y e = readers-append xs y e
readers-append (Reading b ∷ xs) y e = readers-append xs y e
readers-append (Settled c ∷ xs) y e = ap (λ l. cond (ends_at_begin c) (reader_of c ∷ l) l) (readers-append xs y e)
readers-append (Empty ∷ xs) y e = readers-append xs y e

readers_left : (xs : List TalePlace) (p : ℕ) → IsSome (reading_begin_at xs p) → readers_at (slice_set xs p Empty) ≡ readers_at xs
readers_left [] p h = absurd (no_reading h)
readers_left (Open d ∷ xs) zero h = absurd (no_reading h)
readers_left (Open d ∷ xs) (suc p) h = readers_left xs p h
readers_left (Reading b ∷ xs) zero h = refl
readers_left (Reading b ∷ xs) (suc p) h = readers_left xs p h
readers_left (Settled c ∷ xs) zero h = absurd (no_reading h)
readers_left (Settled c ∷ xs) (suc p) h = ap (λ l. cond (ends_at_begin c) (reader_of c ∷ l) l) (readers_left xs p h)
readers_left (Empty ∷ xs) zero h = absurd (no_reading h)
readers_left (Empty ∷ xs) (suc p) h = readers_left xs p h

readers_and : (x : TalePlace) (ys : List TalePlace) → readers_at (and_place x ys) ≡ readers_at (x ∷ ys)
readers_and (Open e) [] = refl
readers_and (Reading b) [] = refl
readers_and (Settled c) [] = refl
readers_and Empty [] = refl
readers_and x (y ∷ ys) = refl

readers_without : (xs : List TalePlace) → readers_at (without_empty_back xs) ≡ readers_at xs
readers_without [] = refl
readers_without (x ∷ xs) = readers_and x (without_empty_back xs) ∙ more x (readers_without xs)
  where
    more : (y : TalePlace) → readers_at (without_empty_back xs) ≡ readers_at xs → readers_at (y ∷ without_empty_back xs) ≡ readers_at (y ∷ xs)
    more (Open e) h = h
    more (Reading b) h = h
    more (Settled c) h = ap (λ l. cond (ends_at_begin c) (reader_of c ∷ l) l) h
    more Empty h = h

pub readers_closed : (xs : List TalePlace) → readers_at (closed_up xs) ≡ readers_at xs
readers_closed xs = go (without_empty_back xs) (readers_without xs)
  where
    go : (ws : List TalePlace) → readers_at ws ≡ readers_at xs → readers_at (or_all xs ws) ≡ readers_at xs
    go [] e = refl
    go (w ∷ ws) e = e

-- one more is stored
idle_stored : (P : CommittedReader → Type 0) (xs : List TalePlace) (p : ℕ) (c : StoredCommit) → P (reader_of c) → AllByRecursion P (readers_at xs) → AllByRecursion P (readers_at (slice_set xs p (Settled c)))
idle_stored P [] p c q h = tt
idle_stored P (x ∷ xs) zero c q h = here (ends_at_begin c) (rest x h)
  where
    drop : (d : StoredCommit) (b : Bool) → AllByRecursion P (cond b (reader_of d ∷ readers_at xs) (readers_at xs)) → AllByRecursion P (readers_at xs)
    drop d true k = k.1
    drop d false k = k

    rest : (y : TalePlace) → AllByRecursion P (readers_at (y ∷ xs)) → AllByRecursion P (readers_at xs)
    rest (Open e) k = k
    rest (Reading b) k = k
    rest (Settled d) k = drop d (ends_at_begin d) k
    rest Empty k = k

    here : (b : Bool) → AllByRecursion P (readers_at xs) → AllByRecursion P (cond b (reader_of c ∷ readers_at xs) (readers_at xs))
    here true k = (q, k)
    here false k = k
idle_stored P (Open d ∷ xs) (suc p) c q h = idle_stored P xs p c q h
idle_stored P (Reading b ∷ xs) (suc p) c q h = idle_stored P xs p c q h
idle_stored P (Settled d ∷ xs) (suc p) c q h = go (ends_at_begin d) (λ k. idle_stored P xs p c q k) h
  where
    go : (b : Bool) → (AllByRecursion P (readers_at xs) → AllByRecursion P (readers_at (slice_set xs p (Settled c)))) → AllByRecursion P (cond b (reader_of d ∷ readers_at xs) (readers_at xs)) → AllByRecursion P (cond b (reader_of d ∷ readers_at (slice_set xs p (Settled c))) (readers_at (slice_set xs p (Settled c))))
    go true f k = (k.0, f k.1)
    go false f k = f k
idle_stored P (Empty ∷ xs) (suc p) c q h = idle_stored P xs p c q h

-- these, with one more where it is above m
abbrev with_later : Bool → CommittedReader → List CommittedReader → List CommittedReader
with_later b y ys = cond b (y ∷ ys) ys

later_over : (b : Bool) (y z : CommittedReader) (us bs : List CommittedReader) → IsPermutation (with_later b y us) bs → IsPermutation (with_later b y (z ∷ us)) (z ∷ bs)
later_over true y z us bs h = IsPermutation-trans (y ∷ z ∷ us) (z ∷ y ∷ us) (z ∷ bs) (IsPermutation-middle (y ∷ []) z us) (IsPermutation-cons z (y ∷ us) bs h)
later_over false y z us bs h = IsPermutation-cons z us bs h

stored_one : (m : ℕ) (xs : List TalePlace) (p : ℕ) (c : StoredCommit) → IsSome (reading_begin_at xs p) → ends_at_begin c ≡ true → IsPermutation (with_later (nat_lt m c.id) (reader_of c) (stored_readers m (readers_at xs))) (stored_readers m (readers_at (slice_set xs p (Settled c))))
stored_one m [] p c h e = absurd (no_reading h)
stored_one m (Open d ∷ xs) zero c h e = absurd (no_reading h)
stored_one m (Open d ∷ xs) (suc p) c h e = stored_one m xs p c h e
stored_one m (Reading b ∷ xs) zero c h e =
    subst (λ (v : Bool). IsPermutation (with_later (nat_lt m c.id) (reader_of c) (stored_readers m (readers_at xs))) (stored_readers m (cond v (reader_of c ∷ readers_at xs) (readers_at xs)))) (sym e)
    (IsPermutation-refl (with_later (nat_lt m c.id) (reader_of c) (stored_readers m (readers_at xs))))
stored_one m (Reading b ∷ xs) (suc p) c h e = stored_one m xs p c h e
stored_one m (Settled d ∷ xs) zero c h e = absurd (no_reading h)
stored_one m (Settled d ∷ xs) (suc p) c h e = go (ends_at_begin d) (nat_lt m d.id) (stored_one m xs p c h e)
  where
    go : (a b : Bool) → IsPermutation (with_later (nat_lt m c.id) (reader_of c) (stored_readers m (readers_at xs))) (stored_readers m (readers_at (slice_set xs p (Settled c))))
        → IsPermutation (with_later (nat_lt m c.id) (reader_of c) (stored_readers m (cond a (reader_of d ∷ readers_at xs) (readers_at xs)))) (stored_readers m (cond a (reader_of d ∷ readers_at (slice_set xs p (Settled c))) (readers_at (slice_set xs p (Settled c)))))
    go false b r = r
    go true b r = two (nat_lt m d.id) r
      where
        two : (v : Bool) → IsPermutation (with_later (nat_lt m c.id) (reader_of c) (stored_readers m (readers_at xs))) (stored_readers m (readers_at (slice_set xs p (Settled c))))
            → IsPermutation (with_later (nat_lt m c.id) (reader_of c) (cond v (reader_of d ∷ stored_readers m (readers_at xs)) (stored_readers m (readers_at xs)))) (cond v (reader_of d ∷ stored_readers m (readers_at (slice_set xs p (Settled c)))) (stored_readers m (readers_at (slice_set xs p (Settled c)))))
        two true k = later_over (nat_lt m c.id) (reader_of c) (reader_of d) (stored_readers m (readers_at xs)) (stored_readers m (readers_at (slice_set xs p (Settled c)))) k
        two false k = k
stored_one m (Empty ∷ xs) zero c h e = absurd (no_reading h)
stored_one m (Empty ∷ xs) (suc p) c h e = stored_one m xs p c h e

committed_one : (m : ℕ) (ys : List CommittedReader) (y : CommittedReader) → IsPermutation (stored_readers m (ys ++ y ∷ [])) (with_later (nat_lt m y.id) y (stored_readers m ys))
committed_one m ys y = subst (λ (l : List CommittedReader). IsPermutation l (with_later (nat_lt m y.id) y (stored_readers m ys))) (sym (filter-append (λ (z : CommittedReader). nat_lt m z.id) ys (y ∷ []))) (go (nat_lt m y.id))
  where
    go : (b : Bool) → IsPermutation (stored_readers m ys ++ cond b (y ∷ []) []) (with_later b y (stored_readers m ys))
    go true = IsPermutation-to_front (stored_readers m ys) y
    go false = subst (λ (l : List CommittedReader). IsPermutation l (stored_readers m ys)) (sym (append-nil (stored_readers m ys))) (IsPermutation-refl (stored_readers m ys))

later_same : (b : Bool) (y : CommittedReader) (us bs : List CommittedReader) → IsPermutation us bs → IsPermutation (with_later b y us) (with_later b y bs)
later_same true y us bs h = IsPermutation-cons y us bs h
later_same false y us bs h = h

-- the front is forgotten
stored_forgotten : (m upto : ℕ) (xs : List TalePlace) → upto ≤ m → stored_readers m (readers_at (forgotten upto xs)) ≡ stored_readers m (readers_at xs)
stored_forgotten m upto [] le = refl
stored_forgotten m upto (Open e ∷ xs) le = refl
stored_forgotten m upto (Reading b ∷ xs) le = refl
stored_forgotten m upto (Settled c ∷ xs) le = go (nat_le c.end upto) refl (stored_forgotten m upto xs le)
  where
    gone : (b : Bool) → ends_at_begin c ≡ b → c.end ≤ upto → stored_readers m (readers_at xs) ≡ stored_readers m (cond b (reader_of c ∷ readers_at xs) (readers_at xs))
    gone true i k =
        let is = eqb-true c.id c.end i in
        sym (ap (λ (v : Bool). cond v (reader_of c ∷ stored_readers m (readers_at xs)) (stored_readers m (readers_at xs))) (le-ltb m c.id (omega arith)))
    gone false i k = refl

    go : (b : Bool) → nat_le c.end upto ≡ b → stored_readers m (readers_at (forgotten upto xs)) ≡ stored_readers m (readers_at xs) → stored_readers m (readers_at (cond b (Empty ∷ forgotten upto xs) (Settled c ∷ xs))) ≡ stored_readers m (readers_at (Settled c ∷ xs))
    go true i r = r ∙ gone (ends_at_begin c) refl (leb-true c.end upto i)
    go false i r = refl
stored_forgotten m upto (Empty ∷ xs) le = stored_forgotten m upto xs le

idle_forgotten : (P : CommittedReader → Type 0) (upto : ℕ) (xs : List TalePlace) → AllByRecursion P (readers_at xs) → AllByRecursion P (readers_at (forgotten upto xs))
idle_forgotten P upto [] h = h
idle_forgotten P upto (Open e ∷ xs) h = h
idle_forgotten P upto (Reading b ∷ xs) h = h
idle_forgotten P upto (Settled c ∷ xs) h = go (nat_le c.end upto) (idle_forgotten P upto xs (rest (ends_at_begin c) h))
  where
    rest : (b : Bool) → AllByRecursion P (cond b (reader_of c ∷ readers_at xs) (readers_at xs)) → AllByRecursion P (readers_at xs)
    rest true k = k.1
    rest false k = k

    go : (b : Bool) → AllByRecursion P (readers_at (forgotten upto xs)) → AllByRecursion P (readers_at (cond b (Empty ∷ forgotten upto xs) (Settled c ∷ xs)))
    go true r = r
    go false r = h
idle_forgotten P upto (Empty ∷ xs) h = idle_forgotten P upto xs h

-- ---- the ends at the places are the others' and the begins of the read-only ones
pub each_end : (P : ℕ → Type 0) (xs : List TalePlace) → AllByRecursion P (ends (others_places xs)) → AllByRecursion P (reading_begins xs) → AllByRecursion (λ y. P y.id) (readers_at xs) → AllByRecursion P (ends xs)
each_end P [] a b r = tt
each_end P (Open e ∷ xs) a b r = (a.0, each_end P xs a.1 b r)
each_end P (Reading e ∷ xs) a b r = (b.0, each_end P xs a b.1 r)
each_end P (Settled c ∷ xs) a b r = go (ends_at_begin c) refl (λ q s. each_end P xs q b s) a r
  where
    go : (v : Bool) → ends_at_begin c ≡ v → (AllByRecursion P (ends (others_places xs)) → AllByRecursion (λ y. P y.id) (readers_at xs) → AllByRecursion P (ends xs))
        → AllByRecursion P (ends (cond v Empty (Settled c) ∷ others_places xs)) → AllByRecursion (λ y. P y.id) (cond v (reader_of c ∷ readers_at xs) (readers_at xs)) → P c.end × AllByRecursion P (ends xs)
    go true i f q s = (subst P (eqb-true c.id c.end i) s.0, f q s.1)
    go false i f q s = (q.0, f q.1 s)
each_end P (Empty ∷ xs) a b r = each_end P xs a b r

-- ---- the whole tale
-- the others' places are another list, with as much at them
same_others : (s : State) (old new : List TalePlace) → ((xs : List StampedTx) → ArePlacesOf old xs → ArePlacesOf new xs) → HasTale s old → HasTale s new
same_others s old new f h = record { gone = h.gone; kept = h.kept; parts = h.parts; places = f (h.kept ++ s.stamped) h.places; may = h.may }

pub whole_begun : BeginKeepsWholeTale
whole_begun w b slots h = record {
  others = subst (HasTale w.core) (sym (others_append slots (Reading b ∷ []))) (same_others w.core (others_places slots) (others_places slots ++ Empty ∷ []) (places_begun (others_places slots)) h.others);
  readers = record {
    reading = begins-append slots (Reading b ∷ []) ∙ ap (λ bs. bs ++ b.0 ∷ []) h.readers.reading ∙ sym (begins_of-append w.readers ((record { id = b.0; stage = IsReading }) ∷ []));
    stored = λ m le. subst (λ (l : List CommittedReader). IsPermutation (stored_readers m w.committed_readers) (stored_readers m l)) (sym (readers-append slots (Reading b) refl)) (h.readers.stored m le);
    idle = subst (AllByRecursion (λ y. WritesNothing y.history)) (sym (readers-append slots (Reading b) refl)) h.readers.idle;
  };
}

pub whole_staged : StageKeepsWholeTale
whole_staged w t n v slots going h = record {
  others = h.others;
  readers = record {
    reading = h.readers.reading ∙ sym (begins_staged t (Preparing n v) w.readers refl going);
    stored = h.readers.stored;
    idle = h.readers.idle;
  };
}

pub whole_settled : SettleKeepsWholeTale
whole_settled w c place slots rising at same idle h =
    let there : IsSome (reading_begin_at slots place) = ap is_some at in
    let is : ends_at_begin c ≡ true = eq-eqb c.id c.end same in
    let at' : reading_begin_at slots place ≡ Some c.id = at ∙ ap (λ (n : ℕ). Some n) (sym same) in
    record {
      others = subst (HasTale w.core) (sym (others_read slots place c there is)) h.others;
      readers = record {
        reading = begins_set slots place c.id (Settled c) refl rising at' ∙ ap (filter (λ b. not (b == c.id))) h.readers.reading ∙ sym (begins_ended c.id Committed w.readers refl);
        stored = λ m le. IsPermutation-trans (stored_readers m (w.committed_readers ++ reader_of c ∷ [])) (with_later (nat_lt m c.id) (reader_of c) (stored_readers m w.committed_readers)) (stored_readers m (readers_at (slice_set slots place (Settled c))))
            (committed_one m w.committed_readers (reader_of c))
            (IsPermutation-trans (with_later (nat_lt m c.id) (reader_of c) (stored_readers m w.committed_readers)) (with_later (nat_lt m c.id) (reader_of c) (stored_readers m (readers_at slots))) (stored_readers m (readers_at (slice_set slots place (Settled c))))
            (later_same (nat_lt m c.id) (reader_of c) (stored_readers m w.committed_readers) (stored_readers m (readers_at slots)) (h.readers.stored m le))
            (stored_one m slots place c there is));
        idle = idle_stored (λ y. WritesNothing y.history) slots place c idle h.readers.idle;
      };
    }

pub whole_left : LeaveKeepsWholeTale
whole_left w t place slots rising at h =
    let there : IsSome (reading_begin_at slots place) = ap is_some at in
    let emptied = slice_set slots place Empty in
    let others : HasTale w.core (others_places emptied) = subst (HasTale w.core) (sym (others_unread slots place there)) h.others in
    let readers : readers_at (closed_up emptied) ≡ readers_at slots = readers_closed emptied ∙ readers_left slots place there in
    record {
      others = same_others w.core (others_places emptied) (others_places (closed_up emptied)) (others_closed emptied) others;
      readers = record {
        reading = begins_closed emptied ∙ begins_set slots place t Empty refl rising at ∙ ap (filter (λ b. not (b == t))) h.readers.reading ∙ sym (begins_ended t Aborted w.readers refl);
        stored = λ m le. subst (λ (l : List CommittedReader). IsPermutation (stored_readers m w.committed_readers) (stored_readers m l)) (sym readers) (h.readers.stored m le);
        idle = subst (AllByRecursion (λ y. WritesNothing y.history)) (sym readers) h.readers.idle;
      };
    }

pub whole_finished : FinishKeepsWholeTale
whole_finished w t slots ended h = record {
  others = h.others;
  readers = record {
    reading = h.readers.reading ∙ sym (begins_finished t w.readers ended);
    stored = h.readers.stored;
    idle = h.readers.idle;
  };
}

pub whole_trimmed : TrimKeepsWholeTale
whole_trimmed w m slots rising le h = record {
  others = tale_trimmed w.core m (others_places slots) rising le h.others;
  readers = record {
    reading = h.readers.reading;
    stored = λ n above. h.readers.stored n (omega (arith, above, le));
    idle = h.readers.idle;
  };
}

pub whole_closed : CloseKeepsWholeTale
whole_closed w mark slots le h = record {
  others = tale_closed w.core mark (others_places slots) le h.others;
  readers = record { reading = h.readers.reading; stored = h.readers.stored; idle = h.readers.idle };
}

pub whole_forgotten : ForgettingKeepsWholeTale
whole_forgotten w upto slots st a b h = record {
  others = others_forgotten w.core upto slots st a b h.others;
  readers = record {
    reading = begins_forgotten upto slots ∙ h.readers.reading;
    stored = λ m le. subst (IsPermutation (stored_readers m w.committed_readers)) (sym (stored_forgotten m upto slots (omega (arith, a, le)))) (h.readers.stored m le);
    idle = idle_forgotten (λ y. WritesNothing y.history) upto slots h.readers.idle;
  };
}

pub group_takes_others : GroupTakesOthers
group_takes_others w prev low slots h = due_others prev low slots h.readers.idle
