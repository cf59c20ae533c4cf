-- A settled transaction takes its place in the middle of the history.
use Rattle.std.proofs.Common.{◌≡◌, ◌≢◌, ℕ, ◌<◌, ◌≤◌, Bool, true, false, cond, ◌||◌, List, [], ◌∷◌, ◌++◌, None, map, refl, sym, ap, ◌∙◌, subst, inl, inr, arith}
use Rattle.std.specs.Prelude.{nat_lt, ◌==◌, ◌&&◌, is_some}
use Rattle.std.specs.List.{AllByRecursion}
use Rattle.std.proofs.lemmas.Bool.{eqb-true, lt-ltb, eq-eqb, ne_eqb, true≢false, or_cases}
use Rattle.mvo_types.specs.Keys.{Map}
use Rattle.mvo_model.specs.History.{History, after_history, AreSerial}
use Rattle.mvo_model.proofs.Serials.{after_history-append}
use Rattle.mvo_types.specs.declared.entry.Entry.{Entry}
use Rattle.mvo_theory.specs.Entries.{entry_of, entries}
use Rattle.mvo_theory.specs.Ranges.{AgreeOn, AllAgreeOn, footprint_of}
use Rattle.mvo_theory.specs.State.{StampedTx, after_settled, seen_by}
use Rattle.mvo_theory.specs.Changes.{with_settled}
use Rattle.mvo_theory.specs.Sound.{changes, IsDecidedOn, IsUnchanged, LeavesAlone, IsApart, IsClear, IsRising, IsLegal, IsConsistent, IsPlaced}
use Rattle.mvo_theory.proofs.Each.{each_weaker, each_both, each_back}
use Rattle.mvo_theory.proofs.Looks.{serial_agrees, footprint_agrees, all_agree_left}
use Rattle.mvo_theory.proofs.Footprints.{unchanged_agree}
use Rattle.mvo_theory.proofs.Between.{settled_below, settled_none, at_end}
use Rattle.mvo_theory.proofs.Apart.{each_entry, IsFreeToSettle}
use Rattle.mvo_types.specs.declared.entry.Entry.TheVariants.{Key, Range}

pub or-false : (a b : Bool) → b ≡ false → (a || b) ≡ a
or-false true b e = refl
or-false false b e = e

pub or-true : (a b : Bool) → b ≡ true → (a || b) ≡ true
or-true true b e = refl
or-true false b e = e

pub map-both : (e : ℕ) (xs ys : List StampedTx) → map (with_settled e) (xs ++ ys) ≡ map (with_settled e) xs ++ map (with_settled e) ys
map-both e [] ys = refl
map-both e (x ∷ xs) ys = ap (λ zs. with_settled e x ∷ zs) (map-both e xs ys)

-- ---- its place
pub rising_before : (before after : List StampedTx) (t : StampedTx) → IsRising (before ++ t ∷ after) → AllByRecursion (λ x. x.end < t.end) before
rising_before [] after t h = tt
rising_before (x ∷ xs) after t h = ((each_back (λ y. x.end < y.end) xs (t ∷ after) h.0).0, rising_before xs after t h.1)

pub rising_after : (before after : List StampedTx) (t : StampedTx) → IsRising (before ++ t ∷ after) → AllByRecursion (λ x. t.end < x.end) after
rising_after [] after t h = h.0
rising_after (x ∷ xs) after t h = rising_after xs after t h.1

pub clear_after : (before after : List StampedTx) (t : StampedTx) → IsClear (before ++ t ∷ after) → t.settled ≡ false → AllByRecursion (λ u. u.settled ≡ true → IsApart t u.history) after
clear_after [] after t h o = h.0 o
clear_after (x ∷ xs) after t h o = clear_after xs after t h.1 o

-- ---- the history stays legal where one takes its place in it
abbrev LooksAlike : Map → Map → StampedTx → Type 0
LooksAlike m n u = u.settled ≡ true → AllAgreeOn u.history m n

legal_alike : (e : ℕ) (m n : Map) (us : List StampedTx) → AllByRecursion (λ u. u.end ≢ e) us → AllByRecursion (LooksAlike m n) us → IsLegal m us → IsLegal n (map (with_settled e) us)
legal_alike e m n [] d a h = tt
legal_alike e m n (u ∷ us) d a h =
    subst (λ (b : Bool). (b ≡ true → AreSerial u.history n × (footprint_of u.history n ≡ u.footprint)) × IsLegal (after_history (cond b u.history []) n) (map (with_settled e) us)) (sym (or-false u.settled (u.end == e) (ne_eqb u.end e d.0))) (
      λ s. (serial_agrees u.history m n (a.0 s) (h.0 s).0, sym (footprint_agrees u.history m n (a.0 s)) ∙ (h.0 s).1),
      legal_alike e (after_history (cond u.settled u.history []) m) (after_history (cond u.settled u.history []) n) us d.1
          (each_weaker (LooksAlike m n) (LooksAlike (after_history (cond u.settled u.history []) m) (after_history (cond u.settled u.history []) n)) (λ v f s. all_agree_left v.history (cond u.settled u.history []) m n (f s)) us a.1) h.1,
    )

legal_between : (t : StampedTx) (m : Map) (before after : List StampedTx) → t.settled ≡ false → AllByRecursion (λ x. x.end ≢ t.end) before → AllByRecursion (λ x. x.end ≢ t.end) after →
    AreSerial t.history (after_settled before m) → footprint_of t.history (after_settled before m) ≡ t.footprint → AllByRecursion (LooksAlike (after_settled before m) (after_history t.history (after_settled before m))) after → IsLegal m (before ++ t ∷ after) → IsLegal m (map (with_settled t.end) (before ++ t ∷ after))
legal_between t m [] after o f g s p a h =
    subst (λ (b : Bool). (b ≡ true → AreSerial t.history m × (footprint_of t.history m ≡ t.footprint)) × IsLegal (after_history (cond b t.history []) m) (map (with_settled t.end) after)) (sym (or-true t.settled (t.end == t.end) (eq-eqb t.end t.end refl)))
    (λ _. (s, p), legal_alike t.end m (after_history t.history m) after g a (subst (λ (b : Bool). IsLegal (after_history (cond b t.history []) m) after) o h.1))
legal_between t m (x ∷ xs) after o f g s p a h =
    subst (λ (b : Bool). (b ≡ true → AreSerial x.history m × (footprint_of x.history m ≡ x.footprint)) × IsLegal (after_history (cond b x.history []) m) (map (with_settled t.end) (xs ++ t ∷ after))) (sym (or-false x.settled (x.end == t.end) (ne_eqb x.end t.end f.0)))
    (h.0, legal_between t (after_history (cond x.settled x.history []) m) xs after o f.1 g s p a h.1)

pub left_settled : (e : ℕ) (before ys : List StampedTx) (m : Map) → AllByRecursion (λ x. x.end < e) before → AllByRecursion (λ x. e ≤ x.end) ys → after_history (settled_below e (before ++ ys)) m ≡ after_settled before m
left_settled e [] ys m f g = ap (λ ts. after_history ts m) (settled_none e ys g)
left_settled e (x ∷ xs) ys m f g =
    after_history-append (cond (x.settled && nat_lt x.end e) x.history []) (settled_below e (xs ++ ys)) m
    ∙ ap (λ (b : Bool). after_history (settled_below e (xs ++ ys)) (after_history (cond b x.history []) m)) (one x.settled)
    ∙ left_settled e xs ys (after_history (cond x.settled x.history []) m) f.1 g
  where
    one : (b : Bool) → (b && nat_lt x.end e) ≡ b
    one true = lt-ltb x.end e f.0
    one false = refl

pub changes_not : (t : StampedTx) (e : Entry) → t.aborted_dependency ≡ None → LeavesAlone t e → changes e t ≡ false
changes_not t (Key k) d h = ap is_some h
changes_not t (Range a lo hi) d h = h d

pub legal_settled : (base : Map) (before after : List StampedTx) (t : StampedTx) → IsRising (before ++ t ∷ after) → IsClear (before ++ t ∷ after) → t.settled ≡ false → t.aborted_dependency ≡ None →
    AreSerial t.history (after_history (settled_below t.end (before ++ t ∷ after)) base) → footprint_of t.history (after_history (settled_below t.end (before ++ t ∷ after)) base) ≡ t.footprint → IsLegal base (before ++ t ∷ after) →
    IsLegal base (map (with_settled t.end) (before ++ t ∷ after))
legal_settled base before after t r c o n s p l =
    let below = rising_before before after t r in
    let above = rising_after before after t r in
    let m = after_settled before base in
    let place = left_settled t.end before (t ∷ after) base below (omega arith, each_weaker (λ x. t.end < x.end) (λ x. t.end ≤ x.end) (λ x lt. omega arith) after above) in
    let prints = subst (λ (m' : Map). footprint_of t.history m' ≡ t.footprint) place p in
    legal_between t base before after o
    (each_weaker (λ x. x.end < t.end) (λ x. x.end ≢ t.end) (λ x lt e. absurd (omega arith)) before below)
    (each_weaker (λ x. t.end < x.end) (λ x. x.end ≢ t.end) (λ x lt e. absurd (omega arith)) after above)
    (subst (AreSerial t.history) place s) prints
    (each_weaker (λ u. u.settled ≡ true → IsApart t u.history) (LooksAlike m (after_history t.history m)) (λ u f q. each_weaker (λ w. LeavesAlone t (entry_of w.0)) (λ w. AgreeOn (entry_of w.0) m (after_history t.history m)) (λ w g. unchanged_agree (entry_of w.0) t m prints (changes_not t (entry_of w.0) n g)) u.history (f q)) after (clear_after before after t c o))
    l

-- ---- and no settled one has looked where one before wrote that isn't
pub alone_settled : (e : ℕ) (x : StampedTx) (d : Entry) → LeavesAlone x d → LeavesAlone (with_settled e x) d
alone_settled e x (Key k) h = h
alone_settled e x (Range t lo hi) h = h

pub apart_settled : (e : ℕ) (x : StampedTx) (ts : History) → IsApart x ts → IsApart (with_settled e x) ts
apart_settled e x ts h = each_weaker (λ o. LeavesAlone x (entry_of o.0)) (λ o. LeavesAlone (with_settled e x) (entry_of o.0)) (λ o. alone_settled e x (entry_of o.0)) ts h

pub clear_settled : (e : ℕ) (ts : History) (stamped : List StampedTx) → IsRising stamped → AllByRecursion (λ u. u.end ≡ e → u.history ≡ ts) stamped → AllByRecursion (λ x. x.settled ≡ false → x.end < e → IsApart x ts) stamped → IsClear stamped → IsClear (map (with_settled e) stamped)
clear_settled e ts [] r g f c = tt
clear_settled e ts (x ∷ xs) r g f c = (λ o. let old = now_open x.settled (x.end == e) o in each_all xs (c.0 old) g.1 r.0 (f.0 old), clear_settled e ts xs r.1 g.1 f.1 c.1)
  where
    now_open : (a b : Bool) → (a || b) ≡ false → a ≡ false
    now_open true b h = absurd (true≢false h)
    now_open false b h = refl

    each_all : (us : List StampedTx) → AllByRecursion (λ u. u.settled ≡ true → IsApart x u.history) us → AllByRecursion (λ u. u.end ≡ e → u.history ≡ ts) us → AllByRecursion (λ y. x.end < y.end) us → (x.end < e → IsApart x ts) → AllByRecursion (λ u. u.settled ≡ true → IsApart (with_settled e x) u.history) (map (with_settled e) us)
    each_all [] p q l h = tt
    each_all (u ∷ us) p q l h = (
      λ s. apart_settled e x u.history (elim (or_cases u.settled (u.end == e) s) [ inl a ↦ p.0 a | inr b ↦ let is = eqb-true u.end e b in let lt = l.0 in subst (IsApart x) (sym (q.0 is)) (h (omega arith)) ]),
      each_all us p.1 q.1 l.1 h,
    )

-- ---- the one that settles
pub agree_at_end : (base : Map) (stamped : List StampedTx) (clock : ℕ) (t : StampedTx) → IsConsistent base stamped t.id t.history t.footprint t.depends_on → AllByRecursion (IsUnchanged stamped t.id t.end) (entries t.history) → IsFreeToSettle stamped t.depends_on → IsClear stamped → IsRising stamped → IsLegal base stamped → IsPlaced stamped clock t →
    AllAgreeOn t.history (seen_by base stamped t.id) (after_history (settled_below t.end stamped) base)
agree_at_end base stamped clock t h v n c r l p =
    each_both (λ o. IsDecidedOn (entry_of o.0) t.id t.depends_on base stamped) (λ o. IsUnchanged stamped t.id t.end (entry_of o.0)) (λ o. AgreeOn (entry_of o.0) (seen_by base stamped t.id) (after_history (settled_below t.end stamped) base))
    (λ o a b. at_end (entry_of o.0) t.id t.end t.depends_on base stamped p.begun a b c r l p.others n) t.history h.decided (each_entry (IsUnchanged stamped t.id t.end) t.history v)
