-- The check of a range, by words, is the state's.
use Rattle.std.proofs.Common.{◌≡◌, ◌≢◌, ℕ, ◌<◌, ◌≤◌, suc, zero, Bool, true, false, cond, List, [], ◌∷◌, Option, None, Some, refl, sym, ap, ◌∙◌, subst, arith, ◌⊎◌, inl, inr}
use Rattle.std.specs.Prelude.{nat_lt, ◌&&◌}
use Rattle.std.specs.List.{AllByRecursion, list_any}
use Rattle.std.proofs.lemmas.Bool.{ne_eqb, eq-eqb, lt-ltb, le-ltb, ltb-false, cases_order}
use Rattle.mvo_theory.specs.Ranges.{Row, shows}
use Rattle.mvo_types.specs.declared.entry.Entry.TheVariants.{Range}
use Rattle.mvo_theory.specs.State.{State, StampedTx}
use Rattle.mvo_theory.specs.Causes.{last_end, or_first, change_of}
use Rattle.mvo_theory.specs.Sound.{IsSound, IsStarted, IsRising}
use Rattle.mvo_theory.proofs.Each.{each_weaker}
use Rattle.mvo_chain.specs.declared.version.Version.{Version}
use Rattle.mvo_representation.specs.Words.{Phases, ends_of, has_stamp, is_touched, last_passing, touch_below, stamp_above}
use Rattle.mvo_representation.specs.Words.Touch.{PutOrEnded}
use Rattle.mvo_representation.specs.Versions.{rows_at, AreVersionsOf}
use Rattle.mvo_representation.proofs.LastChanges.{rows_at-none, above_start}
use Rattle.mvo_representation.proofs.Decided.{none_end, some_end, last_within}

-- one that ends below e and has such a row
abbrev touches_below : (Row → Bool) → ℕ → StampedTx → Bool
touches_below p e u = nat_lt u.end e && list_any p u.footprint

abbrev last_mark : (Row → Bool) → ℕ → List StampedTx → Option ℕ
last_mark p e xs = last_end (touches_below p e) xs

pub last_end_holds : (P : ℕ → Type 0) (r : StampedTx → Bool) (xs : List StampedTx) (n : ℕ) → AllByRecursion (λ u. P u.end) xs → last_end r xs ≡ Some n → P n
last_end_holds P r [] n h e = absurd (none_end n e)
last_end_holds P r (x ∷ xs) n h e = go (r x) (last_end r xs) refl e (λ g. last_end_holds P r xs n h.1 g)
  where
    go : (b : Bool) (w : Option ℕ) → last_end r xs ≡ w → or_first (cond b (Some x.end) None) w ≡ Some n → (last_end r xs ≡ Some n → P n) → P n
    go b (Some m) f g again = again (f ∙ g)
    go true None f g again = subst P (some_end x.end n g) h.0
    go false None f g again = absurd (none_end n g)

beyond_none : (p : Row → Bool) (e : ℕ) (xs : List StampedTx) → AllByRecursion (λ u. e ≤ u.end) xs → last_mark p e xs ≡ None
beyond_none p e [] h = refl
beyond_none p e (x ∷ xs) h =
    ap (λ (c : Bool). or_first (cond (c && list_any p x.footprint) (Some x.end) None) (last_mark p e xs)) (le-ltb x.end e h.0)
    ∙ ap (or_first None) (beyond_none p e xs h.1)

first_assoc : (a b c : Option ℕ) → or_first a (or_first b c) ≡ or_first (or_first a b) c
first_assoc a b None = refl
first_assoc a b (Some c) = refl

mark_step : (p : Row → Bool) (e : ℕ) (xs : List StampedTx) → IsRising xs → last_mark p (suc e) xs ≡ or_first (last_mark p e xs) (cond (list_any p (rows_at e xs)) (Some e) None)
mark_step p e [] h = refl
mark_step p e (x ∷ xs) h = go (cases_order x.end e) (mark_step p e xs h.1)
  where
    own : Bool → Option ℕ
    own c = cond (c && list_any p x.footprint) (Some x.end) None

    beyond : e ≤ x.end → AllByRecursion (λ u. suc e ≤ u.end) xs
    beyond le = each_weaker (λ u. x.end < u.end) (λ u. suc e ≤ u.end) (λ u lt. omega (arith, lt, le)) xs h.0

    here : e ≤ x.end → AllByRecursion (λ u. e ≤ u.end) xs
    here le = each_weaker (λ u. x.end < u.end) (λ u. e ≤ u.end) (λ u lt. omega (arith, lt, le)) xs h.0

    nobody : e ≤ x.end → rows_at e xs ≡ []
    nobody le = rows_at-none e xs (each_weaker (λ u. x.end < u.end) (λ u. u.end ≢ e) (λ u lt q. absurd (omega (arith, lt, le, q))) xs h.0)

    go : (x.end ≡ e) ⊎ ((x.end < e) ⊎ (e < x.end)) → last_mark p (suc e) xs ≡ or_first (last_mark p e xs) (cond (list_any p (rows_at e xs)) (Some e) None) → last_mark p (suc e) (x ∷ xs) ≡ or_first (last_mark p e (x ∷ xs)) (cond (list_any p (rows_at e (x ∷ xs))) (Some e) None)
    go (inl q) again =
        ap (λ w. or_first (own (nat_lt x.end (suc e))) w) (beyond_none p (suc e) xs (beyond (omega (arith, q))))
        ∙ ap own (lt-ltb x.end (suc e) (omega (arith, q)))
        ∙ ap (λ n. cond (list_any p x.footprint) (Some n) None) q
        ∙ sym (none_first (cond (list_any p x.footprint) (Some e) None))
        ∙ ap (λ w. or_first w (cond (list_any p x.footprint) (Some e) None)) (sym (ap (λ w. or_first (own (nat_lt x.end e)) w) (beyond_none p e xs (here (omega (arith, q)))) ∙ ap own (le-ltb x.end e (omega (arith, q)))))
        ∙ ap (λ c. or_first (last_mark p e (x ∷ xs)) (cond (list_any p (cond c x.footprint (rows_at e xs))) (Some e) None)) (sym (eq-eqb x.end e q))
      where
        none_first : (w : Option ℕ) → or_first None w ≡ w
        none_first None = refl
        none_first (Some n) = refl
    go (inr (inl lt)) again =
        ap (or_first (own (nat_lt x.end (suc e)))) again
        ∙ ap (λ c. or_first (own c) (or_first (last_mark p e xs) (cond (list_any p (rows_at e xs)) (Some e) None))) (lt-ltb x.end (suc e) (omega (arith, lt)) ∙ sym (lt-ltb x.end e lt))
        ∙ first_assoc (own (nat_lt x.end e)) (last_mark p e xs) (cond (list_any p (rows_at e xs)) (Some e) None)
        ∙ ap (λ c. or_first (last_mark p e (x ∷ xs)) (cond (list_any p (cond c x.footprint (rows_at e xs))) (Some e) None)) (sym (ne_eqb x.end e (λ q. absurd (omega (arith, lt, q)))))
    go (inr (inr gt)) again =
        ap (λ w. or_first (own (nat_lt x.end (suc e))) w) (beyond_none p (suc e) xs (beyond (omega (arith, gt))))
        ∙ ap own (le-ltb x.end (suc e) gt)
        ∙ sym (ap (λ w. or_first (own (nat_lt x.end e)) w) (beyond_none p e xs (here (omega (arith, gt)))) ∙ ap own (le-ltb x.end e (omega (arith, gt))))
        ∙ ap (λ rs. or_first (last_mark p e (x ∷ xs)) (cond (list_any p rs) (Some e) None)) (sym (nobody (omega (arith, gt))))
        ∙ ap (λ c. or_first (last_mark p e (x ∷ xs)) (cond (list_any p (cond c x.footprint (rows_at e xs))) (Some e) None)) (sym (ne_eqb x.end e (λ q. absurd (omega (arith, gt, q)))))

passing_first : (b : Bool) (e : ℕ) (w : Option ℕ) → cond b (Some e) w ≡ or_first w (cond b (Some e) None)
passing_first true e w = refl
passing_first false e w = refl

last_passing_last : (f : ℕ → Bool) (p : Row → Bool) (xs : List StampedTx) (start e : ℕ) → ((m : ℕ) → start < m → f m ≡ list_any p (rows_at m xs)) → IsRising xs → AllByRecursion (λ u. start < u.end) xs → start < e → last_passing f e ≡ or_first (last_passing f (suc start)) (last_mark p e xs)
last_passing_last f p xs start zero h r a lt = absurd (omega (arith, lt))
last_passing_last f p xs start (suc e) h r a lt = go (above_start start (suc e) lt) (λ l. last_passing_last f p xs start e h r a l)
  where
    go : (suc start ≡ suc e) ⊎ (suc start < suc e) → (start < e → last_passing f e ≡ or_first (last_passing f (suc start)) (last_mark p e xs)) → last_passing f (suc e) ≡ or_first (last_passing f (suc start)) (last_mark p (suc e) xs)
    go (inl q) again =
        ap (last_passing f) (sym q)
        ∙ ap (or_first (last_passing f (suc start))) (sym (ap (λ n. last_mark p n xs) (sym q) ∙ beyond_none p (suc start) xs (each_weaker (λ u. start < u.end) (λ u. suc start ≤ u.end) (λ u l. omega (arith, l)) xs a)))
    go (inr l) again =
        ap (λ b. cond b (Some e) (last_passing f e)) (h e (omega (arith, l)))
        ∙ passing_first (list_any p (rows_at e xs)) e (last_passing f e)
        ∙ ap (λ w. or_first w (cond (list_any p (rows_at e xs)) (Some e) None)) (again (omega (arith, l)))
        ∙ sym (first_assoc (last_passing f (suc start)) (last_mark p e xs) (cond (list_any p (rows_at e xs)) (Some e) None))
        ∙ ap (or_first (last_passing f (suc start))) (sym (mark_step p e xs r))

-- those between, by those below the end
last_between : (p : Row → Bool) (b e : ℕ) (xs : List StampedTx) → IsRising xs → last_end (λ u. (nat_lt b u.end && nat_lt u.end e) && list_any p u.footprint) xs ≡ stamp_above b (last_mark p e xs)
last_between p b e [] h = refl
last_between p b e (x ∷ xs) h =
    ap (or_first (cond ((nat_lt b x.end && nat_lt x.end e) && list_any p x.footprint) (Some x.end) None)) (last_between p b e xs h.1)
    ∙ go (last_mark p e xs) refl
  where
    alone : (c d r : Bool) → nat_lt b x.end ≡ c → cond ((c && d) && r) (Some x.end) None ≡ stamp_above b (cond (d && r) (Some x.end) None)
    alone true true true f = sym (ap (λ y. cond y (Some x.end) None) f)
    alone true true false f = refl
    alone true false r f = refl
    alone false true true f = sym (ap (λ y. cond y (Some x.end) None) f)
    alone false true false f = refl
    alone false false r f = refl

    later_wins : (n : ℕ) (c : Bool) → nat_lt b n ≡ c → x.end < n → or_first (cond ((nat_lt b x.end && nat_lt x.end e) && list_any p x.footprint) (Some x.end) None) (cond c (Some n) None) ≡ cond c (Some n) None
    later_wins n true f lt = refl
    later_wins n false f lt =
        ap (λ (d : Bool). cond ((d && nat_lt x.end e) && list_any p x.footprint) (Some x.end) None) (le-ltb b x.end (let le : n ≤ b = ltb-false b n f in omega (arith, le, lt)))

    go : (w : Option ℕ) → last_mark p e xs ≡ w → or_first (cond ((nat_lt b x.end && nat_lt x.end e) && list_any p x.footprint) (Some x.end) None) (stamp_above b (last_mark p e xs)) ≡ stamp_above b (or_first (cond (touches_below p e x) (Some x.end) None) (last_mark p e xs))
    go None f =
        ap (λ w. or_first (cond ((nat_lt b x.end && nat_lt x.end e) && list_any p x.footprint) (Some x.end) None) (stamp_above b w)) f
        ∙ alone (nat_lt b x.end) (nat_lt x.end e) (list_any p x.footprint) refl
        ∙ ap (λ w. stamp_above b (or_first (cond (touches_below p e x) (Some x.end) None) w)) (sym f)
    go (Some n) f =
        ap (λ w. or_first (cond ((nat_lt b x.end && nat_lt x.end e) && list_any p x.footprint) (Some x.end) None) (stamp_above b w)) f
        ∙ later_wins n (nat_lt b n) refl (last_end_holds (λ m. x.end < m) (touches_below p e) xs n h.0 f)
        ∙ ap (λ w. stamp_above b (or_first (cond (touches_below p e x) (Some x.end) None) w)) (sym f)

-- for a range: the greatest stamp between with which a row in it was put or ended
pub range_checked : (s : State) (table : Phases) (vs : List Version) (b e tab lo hi : ℕ) → IsSound s → IsStarted s → AreVersionsOf s table vs → s.start ≤ b → b < e → stamp_above b (touch_below (ends_of table) e (shows (Range tab lo hi)) vs) ≡ change_of s.stamped b e (Range tab lo hi)
range_checked s table vs b e tab lo hi sd st h le lt =
    ap (stamp_above b) (last_passing_last (λ m. is_touched PutOrEnded (has_stamp (ends_of table) m) (shows (Range tab lo hi)) vs) (shows (Range tab lo hi)) s.stamped s.start e (λ m gt. (h.stamped m gt).touches PutOrEnded (shows (Range tab lo hi))) sd.rising st.later (omega arith))
    ∙ go (last_mark (shows (Range tab lo hi)) e s.stamped) (last_passing (λ m. is_touched PutOrEnded (has_stamp (ends_of table) m) (shows (Range tab lo hi)) vs) (suc s.start)) refl
    ∙ sym (last_between (shows (Range tab lo hi)) b e s.stamped sd.rising)
  where
    go : (c t : Option ℕ) → last_passing (λ m. is_touched PutOrEnded (has_stamp (ends_of table) m) (shows (Range tab lo hi)) vs) (suc s.start) ≡ t → stamp_above b (or_first t c) ≡ stamp_above b c
    go (Some n) t f = refl
    go None None f = refl
    go None (Some n) f = let l : n < suc s.start = last_within (λ m. is_touched PutOrEnded (has_stamp (ends_of table) m) (shows (Range tab lo hi)) vs) (suc s.start) n f in ap (λ c. cond c (Some n) None) (le-ltb b n (omega (arith, l, le)))
