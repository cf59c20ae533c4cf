-- What the settled ones were told stays serial: as one more draws an end, settles, is aborted, and as the tale is trimmed.
use Rattle.std.proofs.Common.{◌≡◌, ◌≢◌, ℕ, ◌<◌, Bool, true, false, cond, ◌||◌, List, [], ◌∷◌, ◌++◌, map, refl, sym, ap, ◌∙◌, subst, arith, inl, inr}
use Rattle.std.specs.Prelude.{◌==◌}
use Rattle.std.specs.List.{AllByRecursion, filter}
use Rattle.std.proofs.lemmas.Bool.{eqb-true, eq-eqb, ne_eqb, false≢true, true≢false, or_cases}
use Rattle.mvo_types.specs.Keys.{Map}
use Rattle.mvo_model.specs.History.{History, after_history, AreSerial}
use Rattle.mvo_theory.specs.Entries.{entry_of}
use Rattle.mvo_theory.specs.Ranges.{AllAgreeOn}
use Rattle.mvo_theory.specs.State.{StampedTx, after_settled}
use Rattle.mvo_theory.specs.Changes.{with_settled, with_flag}
use Rattle.mvo_theory.specs.Sound.{LeavesAlone, IsApart, IsRising}
use Rattle.mvo_theory.proofs.Each.{each_weaker, each_append, each_map}
use Rattle.mvo_theory.proofs.Looks.{serial_agrees, all_agree_left}
use Rattle.mvo_theory.proofs.Stamped.{each_part}
use Rattle.mvo_theory.proofs.Settle.{or-false, or-true, apart_settled}
use Rattle.mvo_theory.proofs.Ends.{alone_flag}
use Rattle.mvo_shared.specs.Shared.{TakenWork, AllTaken, taken_history, with_taken, with_valid, AreToldSerially, AreToldApart}
use Rattle.mvo_shared.proofs.Valid.{apart_valid}

-- ---- another one at an end that no other has
pub taken_other : (all : AllTaken) (e : ℕ) (w : TakenWork) (n : ℕ) → n ≢ e → with_taken all e w n ≡ all n
taken_other all e w n h = ap (λ (b : Bool). cond b w (all n)) (ne_eqb n e h)

pub taken_there : (all : AllTaken) (e : ℕ) (w : TakenWork) → with_taken all e w e ≡ w
taken_there all e w = ap (λ (b : Bool). cond b w (all e)) (eq-eqb e e refl)

pub serial_with : (all more : AllTaken) (m : Map) (xs : List StampedTx) → AllByRecursion (λ x. taken_history (more x.end) ≡ taken_history (all x.end)) xs → AreToldSerially all m xs → AreToldSerially more m xs
serial_with all more m [] f h = tt
serial_with all more m (x ∷ xs) f h = (
  λ s. subst (λ (ts : History). AreSerial ts m) (sym f.0) (h.0 s),
  serial_with all more (after_history (cond x.settled x.history []) m) xs f.1 h.1,
)

pub apart_with : (all more : AllTaken) (xs : List StampedTx) → AllByRecursion (λ x. taken_history (more x.end) ≡ taken_history (all x.end)) xs → AreToldApart all xs → AreToldApart more xs
apart_with all more [] f h = tt
apart_with all more (x ∷ xs) f h = (λ o. rest xs f.1 (h.0 o), apart_with all more xs f.1 h.1)
  where
    rest : (us : List StampedTx) → AllByRecursion (λ u. taken_history (more u.end) ≡ taken_history (all u.end)) us → AllByRecursion (λ u. u.settled ≡ true → IsApart x (taken_history (all u.end))) us → AllByRecursion (λ u. u.settled ≡ true → IsApart x (taken_history (more u.end))) us
    rest [] g a = tt
    rest (u ∷ us) g a = (λ s. subst (IsApart x) (sym g.0) (a.0 s), rest us g.1 a.1)

-- ---- one more that isn't settled
pub serial_last : (all : AllTaken) (m : Map) (xs : List StampedTx) (y : StampedTx) → y.settled ≡ false → AreToldSerially all m xs → AreToldSerially all m (xs ++ y ∷ [])
serial_last all m [] y o h = (λ s. absurd (false≢true (sym o ∙ s)), tt)
serial_last all m (x ∷ xs) y o h = (h.0, serial_last all (after_history (cond x.settled x.history []) m) xs y o h.1)

pub apart_last : (all : AllTaken) (xs : List StampedTx) (y : StampedTx) → y.settled ≡ false → AreToldApart all xs → AreToldApart all (xs ++ y ∷ [])
apart_last all [] y o h = (λ _. tt, tt)
apart_last all (x ∷ xs) y o h = (
  λ n. each_append (λ u. u.settled ≡ true → IsApart x (taken_history (all u.end))) xs (y ∷ []) (h.0 n) (λ s. absurd (false≢true (sym o ∙ s)), tt),
  apart_last all xs y o h.1,
)

-- ---- all entries of one are checked
pub serial_valid : (all : AllTaken) (e : ℕ) (m : Map) (xs : List StampedTx) → AreToldSerially all m xs → AreToldSerially all m (map (with_valid e) xs)
serial_valid all e m [] h = tt
serial_valid all e m (x ∷ xs) h = (h.0, serial_valid all e (after_history (cond x.settled x.history []) m) xs h.1)

pub apart_told_valid : (all : AllTaken) (e : ℕ) (xs : List StampedTx) → AreToldApart all xs → AreToldApart all (map (with_valid e) xs)
apart_told_valid all e [] h = tt
apart_told_valid all e (x ∷ xs) h = (
  λ o. each_map (with_valid e) (λ u. u.settled ≡ true → IsApart x (taken_history (all u.end))) (λ u. u.settled ≡ true → IsApart (with_valid e x) (taken_history (all u.end))) (λ u q s. apart_valid e x (taken_history (all u.end)) (q s)) xs (h.0 o),
  apart_told_valid all e xs h.1,
)

-- ---- one takes its place
abbrev pub ToldAlike : AllTaken → Map → Map → StampedTx → Type 0
ToldAlike all m n u = u.settled ≡ true → AllAgreeOn (taken_history (all u.end)) m n

told_alike : (all : AllTaken) (e : ℕ) (m n : Map) (us : List StampedTx) → AllByRecursion (λ u. u.end ≢ e) us → AllByRecursion (ToldAlike all m n) us → AreToldSerially all m us → AreToldSerially all n (map (with_settled e) us)
told_alike all e m n [] d a h = tt
told_alike all e m n (u ∷ us) d a h =
    subst (λ (b : Bool). (b ≡ true → AreSerial (taken_history (all u.end)) n) × AreToldSerially all (after_history (cond b u.history []) n) (map (with_settled e) us)) (sym (or-false u.settled (u.end == e) (ne_eqb u.end e d.0))) (
      λ s. serial_agrees (taken_history (all u.end)) m n (a.0 s) (h.0 s),
      told_alike all e (after_history (cond u.settled u.history []) m) (after_history (cond u.settled u.history []) n) us d.1
          (each_weaker (ToldAlike all m n) (ToldAlike all (after_history (cond u.settled u.history []) m) (after_history (cond u.settled u.history []) n)) (λ v f s. all_agree_left (taken_history (all v.end)) (cond u.settled u.history []) m n (f s)) us a.1) h.1,
    )

pub told_between : (all : AllTaken) (t : StampedTx) (m : Map) (before after : List StampedTx) → t.settled ≡ false → AllByRecursion (λ x. x.end ≢ t.end) before → AllByRecursion (λ x. x.end ≢ t.end) after →
    AreSerial (taken_history (all t.end)) (after_settled before m) → AllByRecursion (ToldAlike all (after_settled before m) (after_history t.history (after_settled before m))) after → AreToldSerially all m (before ++ t ∷ after) → AreToldSerially all m (map (with_settled t.end) (before ++ t ∷ after))
told_between all t m [] after o f g s a h =
    subst (λ (b : Bool). (b ≡ true → AreSerial (taken_history (all t.end)) m) × AreToldSerially all (after_history (cond b t.history []) m) (map (with_settled t.end) after)) (sym (or-true t.settled (t.end == t.end) (eq-eqb t.end t.end refl)))
    (λ _. s, told_alike all t.end m (after_history t.history m) after g a (subst (λ (b : Bool). AreToldSerially all (after_history (cond b t.history []) m) after) o h.1))
told_between all t m (x ∷ xs) after o f g s a h =
    subst (λ (b : Bool). (b ≡ true → AreSerial (taken_history (all x.end)) m) × AreToldSerially all (after_history (cond b x.history []) m) (map (with_settled t.end) (xs ++ t ∷ after))) (sym (or-false x.settled (x.end == t.end) (ne_eqb x.end t.end f.0)))
    (h.0, told_between all t (after_history (cond x.settled x.history []) m) xs after o f.1 g s a h.1)

pub apart_told_settled : (all : AllTaken) (e : ℕ) (ts : History) (stamped : List StampedTx) → IsRising stamped → AllByRecursion (λ u. u.end ≡ e → taken_history (all u.end) ≡ ts) stamped → AllByRecursion (λ x. x.settled ≡ false → x.end < e → IsApart x ts) stamped → AreToldApart all stamped → AreToldApart all (map (with_settled e) stamped)
apart_told_settled all e ts [] r g f c = tt
apart_told_settled all e ts (x ∷ xs) r g f c = (λ o. let old = now_open x.settled (x.end == e) o in each_all xs (c.0 old) g.1 r.0 (f.0 old), apart_told_settled all e ts xs r.1 g.1 f.1 c.1)
  where
    now_open : (a b : Bool) → (a || b) ≡ false → a ≡ false
    now_open true b h = absurd (true≢false h)
    now_open false b h = refl

    each_all : (us : List StampedTx) → AllByRecursion (λ u. u.settled ≡ true → IsApart x (taken_history (all u.end))) us → AllByRecursion (λ u. u.end ≡ e → taken_history (all u.end) ≡ ts) us → AllByRecursion (λ y. x.end < y.end) us → (x.end < e → IsApart x ts) → AllByRecursion (λ u. u.settled ≡ true → IsApart (with_settled e x) (taken_history (all u.end))) (map (with_settled e) us)
    each_all [] p q l h = tt
    each_all (u ∷ us) p q l h = (
      λ s. apart_settled e x (taken_history (all u.end)) (elim (or_cases u.settled (u.end == e) s) [ inl a ↦ p.0 a | inr b ↦ let is = eqb-true u.end e b in let lt = l.0 in subst (IsApart x) (sym (q.0 is)) (h (omega arith)) ]),
      each_all us p.1 q.1 l.1 h,
    )

-- ---- some are taken out that aren't settled
pub serial_part : (all : AllTaken) (p : StampedTx → Bool) (m : Map) (xs : List StampedTx) → AllByRecursion (λ x. p x ≡ false → x.settled ≡ false) xs → AreToldSerially all m xs → AreToldSerially all m (filter p xs)
serial_part all p m [] h l = tt
serial_part all p m (x ∷ xs) h l = go (p x) refl (serial_part all p (after_history (cond x.settled x.history []) m) xs h.1 l.1)
  where
    go : (c : Bool) → p x ≡ c → AreToldSerially all (after_history (cond x.settled x.history []) m) (filter p xs) → AreToldSerially all m (cond c (x ∷ filter p xs) (filter p xs))
    go true e r = (l.0, r)
    go false e r = subst (λ (b : Bool). AreToldSerially all (after_history (cond b x.history []) m) (filter p xs)) (h.0 e) r

pub apart_part : (all : AllTaken) (p : StampedTx → Bool) (xs : List StampedTx) → AreToldApart all xs → AreToldApart all (filter p xs)
apart_part all p [] h = tt
apart_part all p (x ∷ xs) h = go (p x) (apart_part all p xs h.1)
  where
    go : (c : Bool) → AreToldApart all (filter p xs) → AreToldApart all (cond c (x ∷ filter p xs) (filter p xs))
    go true r = (λ o. each_part p (λ u. u.settled ≡ true → IsApart x (taken_history (all u.end))) xs (h.0 o), r)
    go false r = r

-- ---- those that depend on an aborted one are flagged
pub serial_flag : (all : AllTaken) (t e : ℕ) (m : Map) (xs : List StampedTx) → AreToldSerially all m xs → AreToldSerially all m (map (with_flag t e) xs)
serial_flag all t e m [] h = tt
serial_flag all t e m (x ∷ xs) h = (h.0, serial_flag all t e (after_history (cond x.settled x.history []) m) xs h.1)

pub apart_flag : (all : AllTaken) (t e : ℕ) (xs : List StampedTx) → AreToldApart all xs → AreToldApart all (map (with_flag t e) xs)
apart_flag all t e [] h = tt
apart_flag all t e (x ∷ xs) h = (
  λ o. each_map (with_flag t e) (λ u. u.settled ≡ true → IsApart x (taken_history (all u.end))) (λ u. u.settled ≡ true → IsApart (with_flag t e x) (taken_history (all u.end))) (λ u q s. each_weaker (λ w. LeavesAlone x (entry_of w.0)) (λ w. LeavesAlone (with_flag t e x) (entry_of w.0)) (λ w. alone_flag t e x (entry_of w.0)) (taken_history (all u.end)) (q s)) xs (h.0 o),
  apart_flag all t e xs h.1,
)

-- ---- a trim
pub serial_rest : (all : AllTaken) (m : Map) (xs ys : List StampedTx) → AreToldSerially all m (xs ++ ys) → AreToldSerially all (after_settled xs m) ys
serial_rest all m [] ys h = h
serial_rest all m (x ∷ xs) ys h = serial_rest all (after_history (cond x.settled x.history []) m) xs ys h.1
