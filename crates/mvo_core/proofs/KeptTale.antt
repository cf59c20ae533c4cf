-- The tale stays that of the state where a place is opened, settled, left, checked or forgotten.
use Rattle.std.proofs.Common.{◌≡◌, ℕ, zero, suc, ◌<◌, ◌≤◌, Bool, true, false, cond, List, [], ◌∷◌, ◌++◌, append_assoc, map, length, Some, refl, sym, ap, ◌∙◌, subst, arith}
use Rattle.std.specs.Prelude.{slice_set, ◌==◌, ◌||◌, ◌&&◌, nat_le, filter}
use Rattle.std.specs.List.{AllByRecursion}
use Rattle.std.proofs.lemmas.Bool.{ne_eqb, le-ltb, lt-ltb}
use Rattle.std.proofs.lemmas.List.{map-append}
use Rattle.std.proofs.lemmas.List.Elements.{filter-append}
use Rattle.mvo_types.specs.declared.ids.Stamp.{Stamp}
use Rattle.mvo_theory.specs.State.{State, StampedTx}
use Rattle.mvo_theory.specs.Changes.{with_settled, with_check, with_flag, not_at}
use Rattle.mvo_theory.specs.Marks.{settled_to, low_water}
use Rattle.mvo_theory.specs.Groups.{is_due, is_writing, IsLongest, mark_by, due, IsNextGroup}
use Rattle.mvo_theory.specs.Sound.{IsRising, IsPast, IsStarted}
use Rattle.mvo_theory.proofs.Each.{each_append, each_back, each_weaker}
use Rattle.mvo_theory.proofs.Stamped.{rising_both}
use Rattle.mvo_readonly.specs.ReadAt.{WritesNothing}
use Rattle.mvo_tale.specs.declared.tale_place.TalePlace.{TalePlace}
use Rattle.mvo_tale.specs.declared.tale_place.TalePlace.TheVariants.{Open, Reading, Settled, Empty}
use Rattle.mvo_tale.specs.declared.next_records.NextRecords.{NextRecords}
use Rattle.mvo_tale.specs.Stored.{StoredCommit}
use Rattle.mvo_tale.specs.Others.{ends_at_begin, others_places}
use Rattle.mvo_tale.specs.Slots.{open_ends, open_end_at, closed_up}
use Rattle.mvo_tale.specs.Forgetting.{forgotten}
use Rattle.mvo_tale.specs.Kept.{MayGo, IsTale, HasTale}
use Rattle.mvo_tale.specs.Next.{due_in, AreNextRecords}
use Rattle.mvo_tale.specs.Records.{fits}
use Rattle.mvo_tale.specs.Timeline.{ArePlacesOf}
use Rattle.mvo_tale.specs.WholePlaces.{readers_at}
use Rattle.mvo_tale.proofs.KeptPlaces.{places_parted, places_joined}
use Rattle.mvo_tale.proofs.NextGroups.{open_ends_above, settled_to_places, places_opened}
use Rattle.mvo_tale.proofs.Others.{others_append, others_set, others_settled, others_open, others_open_ends, others_closed, due_others}
use Rattle.mvo_core.specs.Receipts.{Receipt, receipt, receipt_of, receipts_of, stored_commits}
use Rattle.mvo_core.specs.Trimming.{stored_above}
use Rattle.mvo_core.proofs.TaleMoves.{IsCommitOf, below_apart, filter_kept, places_settled, places_emptied, places_flagged, places_checked, none_end}

-- ---- those that are past
rising_back : (xs ys : List StampedTx) → IsRising (xs ++ ys) → IsRising ys
rising_back [] ys h = h
rising_back (x ∷ xs) ys h = rising_back xs ys h.1

settled_past : (start e : ℕ) (x : StampedTx) → start < e → IsPast start x → with_settled e x ≡ x
settled_past start e x lt p =
    let u = p.until in
    let apart : (x.end == e) ≡ false = ne_eqb x.end e (λ is. omega (arith, u, is, lt)) in
    let same : (x.settled || (x.end == e)) ≡ x.settled = ap (λ (b : Bool). b || (x.end == e)) p.settled ∙ sym p.settled in
    let count : cond (x.end == e) 0 x.checked ≡ x.checked = ap (λ (b : Bool). cond b 0 x.checked) apart in
    λ i. record x { settled = same i; checked = count i }

all_settled_past : (start e : ℕ) (xs : List StampedTx) → start < e → AllByRecursion (IsPast start) xs → map (with_settled e) xs ≡ xs
all_settled_past start e [] lt h = refl
all_settled_past start e (x ∷ xs) lt h =
    ap (λ (ys : List StampedTx). with_settled e x ∷ ys) (all_settled_past start e xs lt h.1)
    ∙ ap (λ (y : StampedTx). y ∷ xs) (settled_past start e x lt h.0)

past_apart : (start e : ℕ) (xs : List StampedTx) → start < e → AllByRecursion (IsPast start) xs → filter (not_at e) xs ≡ xs
past_apart start e [] lt h = refl
past_apart start e (x ∷ xs) lt h =
    let u = h.0.until in
    sym (filter_kept e x xs (below_apart x.end e (omega (arith, u, lt))))
    ∙ ap (λ (ys : List StampedTx). x ∷ ys) (past_apart start e xs lt h.1)

-- ---- an open place stays where others are forgotten
pub open_forgotten : (upto : ℕ) (slots : List TalePlace) (q d : ℕ) → open_end_at slots q ≡ Some d → open_end_at (forgotten upto slots) q ≡ Some d
open_forgotten upto [] q d h = h
open_forgotten upto (Open e ∷ slots) q d h = h
open_forgotten upto (Reading b ∷ slots) q d h = h
open_forgotten upto (Settled c ∷ slots) zero d h = absurd (none_end d h)
open_forgotten upto (Settled c ∷ slots) (suc q) d h = go (nat_le c.end upto) (open_forgotten upto slots q d h)
  where
    go : (b : Bool) → open_end_at (forgotten upto slots) q ≡ Some d → open_end_at (cond b (Empty ∷ forgotten upto slots) (Settled c ∷ slots)) (suc q) ≡ Some d
    go true r = r
    go false r = h
open_forgotten upto (Empty ∷ slots) zero d h = absurd (none_end d h)
open_forgotten upto (Empty ∷ slots) (suc q) d h = open_forgotten upto slots q d h

-- ---- what is in a group already isn't due
due_gone : (start closed low : ℕ) (xs ys : List StampedTx) → AllByRecursion (MayGo start closed) xs → filter (is_due closed) (settled_to low (xs ++ ys)) ≡ filter (is_due closed) (settled_to low ys)
due_gone start closed low [] ys h = refl
due_gone start closed low (x ∷ xs) ys h = go (x.settled && nat_le x.end low) (due_gone start closed low xs ys h.1)
  where
    go : (b : Bool) → filter (is_due closed) (settled_to low (xs ++ ys)) ≡ filter (is_due closed) (settled_to low ys)
        → filter (is_due closed) (cond b ((x.end, x.history) ∷ settled_to low (xs ++ ys)) (settled_to low (xs ++ ys))) ≡ filter (is_due closed) (settled_to low ys)
    go true r =
        ap (λ (d : Bool). cond (d && is_writing (x.end, x.history)) ((x.end, x.history) ∷ filter (is_due closed) (settled_to low (xs ++ ys))) (filter (is_due closed) (settled_to low (xs ++ ys))))
        (le-ltb closed x.end h.0.grouped)
        ∙ r
    go false r = r

-- ---- the stored commits
none_above : (start : ℕ) (front back : List TalePlace) (xs : List StampedTx) → ArePlacesOf front xs → AllByRecursion (IsPast start) xs → stored_above start (front ++ back) ≡ stored_above start back
none_above start [] back xs h k = refl
none_above start (Open e ∷ front) back [] h k = absurd h
none_above start (Open e ∷ front) back (x ∷ xs) h k = none_above start front back xs h.1 k.1
none_above start (Reading b ∷ front) back [] h k = absurd h
none_above start (Reading b ∷ front) back (x ∷ xs) h k = absurd h
none_above start (Settled c ∷ front) back [] h k = absurd h
none_above start (Settled c ∷ front) back (x ∷ xs) h k =
    let u = k.0.until in
    let is = h.0.end' in
    ap (λ (b : Bool). cond b (receipt c.id c.end c.history ∷ stored_above start (front ++ back)) (stored_above start (front ++ back))) (le-ltb start c.end (omega (arith, u, is)))
    ∙ none_above start front back xs h.1 k.1
none_above start (Empty ∷ front) back [] h k = none_above start front back [] h k
none_above start (Empty ∷ front) back (x ∷ xs) h k = none_above start front back (x ∷ xs) h k

all_above : (start : ℕ) (slots : List TalePlace) (xs : List StampedTx) → ArePlacesOf slots xs → AllByRecursion (λ x. start < x.end) xs → stored_above start slots ≡ receipts_of xs
all_above start [] [] h k = refl
all_above start [] (x ∷ xs) h k = absurd h
all_above start (Open e ∷ slots) [] h k = absurd h
all_above start (Open e ∷ slots) (x ∷ xs) h k =
    all_above start slots xs h.1 k.1
    ∙ sym (ap (λ (b : Bool). cond b (receipt_of x ∷ receipts_of xs) (receipts_of xs)) h.0.0)
all_above start (Reading b ∷ slots) [] h k = absurd h
all_above start (Reading b ∷ slots) (x ∷ xs) h k = absurd h
all_above start (Settled c ∷ slots) [] h k = absurd h
all_above start (Settled c ∷ slots) (x ∷ xs) h k =
    let lt = k.0 in
    let is = h.0.end' in
    let one : receipt c.id c.end c.history ≡ receipt_of x = λ i. receipt (sym h.0.id i) (sym h.0.end' i) (sym h.0.history i) in
    ap (λ (b : Bool). cond b (receipt c.id c.end c.history ∷ stored_above start slots) (stored_above start slots)) (lt-ltb start c.end (omega (arith, lt, is)))
    ∙ ap (λ (rs : List Receipt). receipt c.id c.end c.history ∷ rs) (all_above start slots xs h.1 k.1)
    ∙ ap (λ (r : Receipt). r ∷ receipts_of xs) one
    ∙ sym (ap (λ (b : Bool). cond b (receipt_of x ∷ receipts_of xs) (receipts_of xs)) h.0.settled)
all_above start (Empty ∷ slots) [] h k = all_above start slots [] h k
all_above start (Empty ∷ slots) (x ∷ xs) h k = all_above start slots (x ∷ xs) h k

-- ---- the tale of a state
module _ (s : State) (slots : List TalePlace) (st : IsStarted s) (rising : IsRising s.stamped) (h : HasTale s slots) where
  kept_past : AllByRecursion (IsPast s.start) h.kept
  kept_past = each_back (IsPast s.start) h.gone h.kept (subst (AllByRecursion (IsPast s.start)) h.parts st.past)

  all_rising : IsRising (h.kept ++ s.stamped)
  all_rising = rising_both s.start h.kept s.stamped (each_weaker (IsPast s.start) (λ x. x.end ≤ s.start) (λ x p. p.until) h.kept kept_past) st.later (rising_back h.gone h.kept (subst IsRising h.parts st.rising)) rising

  -- one is settled
  pub tale_settled : (p : ℕ) (c : StoredCommit) → open_end_at slots p ≡ Some c.end → s.start < c.end → AllByRecursion (IsCommitOf c) s.stamped
      → IsTale s.start s.marks.closed s.past (map (with_settled c.end) s.stamped) (slice_set slots p (Settled c))
  tale_settled p c at above are = record {
    gone = h.gone;
    kept = h.kept;
    parts = h.parts;
    places = subst (ArePlacesOf (slice_set slots p (Settled c)))
        (map-append (with_settled c.end) h.kept s.stamped ∙ ap (λ (xs : List StampedTx). xs ++ map (with_settled c.end) s.stamped) (all_settled_past s.start c.end h.kept above kept_past))
        (places_settled slots (h.kept ++ s.stamped) p c h.places all_rising at
        (each_append (IsCommitOf c) h.kept s.stamped (each_weaker (IsPast s.start) (IsCommitOf c) (λ x q is. absurd (let u = q.until in omega (arith, u, is, above))) h.kept kept_past) are));
    may = h.may;
  }

  -- one is left
  pub tale_emptied : (p t e : ℕ) → open_end_at slots p ≡ Some e → s.start < e
      → IsTale s.start s.marks.closed s.past (map (with_flag t e) (filter (not_at e) s.stamped)) (slice_set slots p Empty)
  tale_emptied p t e at above =
      let emptied = subst (ArePlacesOf (slice_set slots p Empty))
      (filter-append (not_at e) h.kept s.stamped ∙ ap (λ (xs : List StampedTx). xs ++ filter (not_at e) s.stamped) (past_apart s.start e h.kept above kept_past))
      (places_emptied slots (h.kept ++ s.stamped) p e h.places all_rising at) in
      let parts = places_parted (slice_set slots p Empty) h.kept (filter (not_at e) s.stamped) emptied in
      record {
        gone = h.gone;
        kept = h.kept;
        parts = h.parts;
        places = subst (λ (xs : List TalePlace). ArePlacesOf xs (h.kept ++ map (with_flag t e) (filter (not_at e) s.stamped))) (sym parts.are)
            (places_joined parts.front parts.back h.kept (map (with_flag t e) (filter (not_at e) s.stamped)) parts.first (places_flagged t e parts.back (filter (not_at e) s.stamped) parts.second));
        may = h.may;
      }

  -- one is checked
  pub tale_checked : (e : ℕ) (v : Bool) → IsTale s.start s.marks.closed s.past (map (with_check e v) s.stamped) slots
  tale_checked e v =
      let parts = places_parted slots h.kept s.stamped h.places in
      record {
        gone = h.gone;
        kept = h.kept;
        parts = h.parts;
        places = subst (λ (xs : List TalePlace). ArePlacesOf xs (h.kept ++ map (with_check e v) s.stamped)) (sym parts.are)
            (places_joined parts.front parts.back h.kept (map (with_check e v) s.stamped) parts.first (places_checked e v parts.back s.stamped parts.second));
        may = h.may;
      }

  -- one is opened
  pub tale_opened : (e : Stamp) (x : StampedTx) → x.settled ≡ false → x.end ≡ e.0 → IsTale s.start s.marks.closed s.past (s.stamped ++ x ∷ []) (slots ++ Open e ∷ [])
  tale_opened e x un is = record {
    gone = h.gone;
    kept = h.kept;
    parts = h.parts;
    places = subst (ArePlacesOf (slots ++ Open e ∷ [])) (append_assoc h.kept s.stamped (x ∷ [])) (places_opened slots (h.kept ++ s.stamped) e x h.places un is);
    may = h.may;
  }

  -- those that are open end above a mark up to which all are settled
  pub opens_above : (m : ℕ) → AllByRecursion (λ x. x.settled ≡ false → m < x.end) s.stamped → AllByRecursion (λ e. m < e) (open_ends slots)
  opens_above m above =
      open_ends_above m slots (h.kept ++ s.stamped) h.places
      (each_append (λ (x : StampedTx). x.settled ≡ false → m < x.end) h.kept s.stamped
      (each_weaker (IsPast s.start) (λ (x : StampedTx). x.settled ≡ false → m < x.end) (λ x p un. absurd (both p.settled un)) h.kept kept_past) above)
    where
      both : {b : Bool} → b ≡ true → b ≡ false → ⊥
      both p q = cc

  -- the next records are those of the next group
  due_kept : due_in s.marks.closed (low_water s) slots ≡ due s
  due_kept =
      ap (filter (is_due s.marks.closed)) (sym (settled_to_places (low_water s) slots (h.kept ++ s.stamped) h.places))
      ∙ sym (due_gone s.start s.marks.closed (low_water s) h.gone (h.kept ++ s.stamped) h.may)
      ∙ ap (λ (xs : List StampedTx). filter (is_due s.marks.closed) (settled_to (low_water s) xs))
      (sym (append_assoc h.gone h.kept s.stamped) ∙ ap (λ (xs : List StampedTx). xs ++ s.stamped) (sym h.parts))

  pub next_group_kept : (places : List TalePlace) → due_in s.marks.closed (low_water s) places ≡ due_in s.marks.closed (low_water s) slots → (n : NextRecords) → (k : AreNextRecords places s.marks.closed (low_water s) n)
      → IsNextGroup fits s (record { prev = s.marks.closed; mark = n.mark.0; commits = k.taken })
  next_group_kept places same n k = record {
    prev = refl;
    longest = subst (λ cs. IsLongest fits cs k.taken) (same ∙ due_kept) k.longest;
    mark = k.mark ∙ ap (λ cs. mark_by (low_water s) s.marks.closed k.taken (Rattle.std.specs.Prelude.drop (length k.taken) cs)) (same ∙ due_kept);
  }

  -- the places have just the commits above the start
  pub stored_is : stored_above s.start slots ≡ stored_commits s
  stored_is =
      let parts = places_parted slots h.kept s.stamped h.places in
      ap (stored_above s.start) parts.are
      ∙ none_above s.start parts.front parts.back h.kept parts.first kept_past
      ∙ all_above s.start parts.back s.stamped parts.second st.later

-- ---- the same where read-only transactions have places among the others'
module _ (s : State) (slots : List TalePlace) (st : IsStarted s) (rising : IsRising s.stamped) (h : HasTale s (others_places slots)) where
  pub tale_settled_among : (p : ℕ) (c : StoredCommit) → open_end_at slots p ≡ Some c.end → ends_at_begin c ≡ false → s.start < c.end → AllByRecursion (IsCommitOf c) s.stamped
      → IsTale s.start s.marks.closed s.past (map (with_settled c.end) s.stamped) (others_places (slice_set slots p (Settled c)))
  tale_settled_among p c at apart above are = subst (IsTale s.start s.marks.closed s.past (map (with_settled c.end) s.stamped)) (sym (others_settled slots p c apart))
      (tale_settled s (others_places slots) st rising h p c (others_open slots p c.end at) above are)

  pub tale_left_among : (p t e : ℕ) → open_end_at slots p ≡ Some e → s.start < e
      → IsTale s.start s.marks.closed s.past (map (with_flag t e) (filter (not_at e) s.stamped)) (others_places (closed_up (slice_set slots p Empty)))
  tale_left_among p t e at above =
      let emptied = tale_emptied s (others_places slots) st rising h p t e (others_open slots p e at) above in
      record {
        gone = emptied.gone;
        kept = emptied.kept;
        parts = emptied.parts;
        places = others_closed (slice_set slots p Empty) (emptied.kept ++ map (with_flag t e) (filter (not_at e) s.stamped))
            (subst (λ (xs : List TalePlace). ArePlacesOf xs (emptied.kept ++ map (with_flag t e) (filter (not_at e) s.stamped))) (sym (others_set slots p Empty)) emptied.places);
        may = emptied.may;
      }

  pub tale_opened_among : (e : Stamp) (x : StampedTx) → x.settled ≡ false → x.end ≡ e.0 → IsTale s.start s.marks.closed s.past (s.stamped ++ x ∷ []) (others_places (slots ++ Open e ∷ []))
  tale_opened_among e x un is = subst (IsTale s.start s.marks.closed s.past (s.stamped ++ x ∷ [])) (sym (others_append slots (Open e ∷ [])))
      (tale_opened s (others_places slots) st rising h e x un is)

  pub opens_above_among : (m : ℕ) → AllByRecursion (λ x. x.settled ≡ false → m < x.end) s.stamped → AllByRecursion (λ e. m < e) (open_ends slots)
  opens_above_among m above = subst (AllByRecursion (λ e. m < e)) (others_open_ends slots) (opens_above s (others_places slots) st rising h m above)

  pub next_group_among : AllByRecursion (λ y. WritesNothing y.history) (readers_at slots) → (n : NextRecords) → (k : AreNextRecords slots s.marks.closed (low_water s) n)
      → IsNextGroup fits s (record { prev = s.marks.closed; mark = n.mark.0; commits = k.taken })
  next_group_among idle n k = next_group_kept s (others_places slots) st rising h slots (due_others s.marks.closed (low_water s) slots idle) n k
