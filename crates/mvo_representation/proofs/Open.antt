-- Whom a read depends on, by words.
use Rattle.std.proofs.Common.{◌≡◌, ◌≢◌, ℕ, ◌<◌, suc, zero, Bool, true, false, cond, not, ◌||◌, eqb, List, [], ◌∷◌, Option, None, Some, refl, sym, ap, ◌∙◌, arith}
use Rattle.std.specs.Prelude.{◌==◌, ◌&&◌}
use Rattle.std.specs.List.{AllByRecursion, list_any}
use Rattle.std.specs.Option.{option_map}
use Rattle.std.proofs.lemmas.Bool.{ne_eqb, eq-eqb, true≢false}
use Rattle.mvo_types.specs.declared.row.RowKey.{RowKey}
use Rattle.mvo_model.specs.Trace.{Phase}
use Rattle.mvo_model.specs.Trace.Phase.{Absent, Active, Preparing, Committed, Aborted}
use Rattle.mvo_theory.specs.State.{State, StampedTx, preparing_of}
use Rattle.mvo_theory.specs.Dependencies.{last_writer, is_writer, depend_on, with_end}
use Rattle.mvo_theory.specs.Sound.{IsSound, IsStarted, IsRising}
use Rattle.mvo_theory.proofs.Each.{each_weaker, each_both}
use Rattle.mvo_theory.proofs.Footprints.{any_none, none_any}
use Rattle.mvo_theory.specs.Phases.{phase_in}
use Rattle.mvo_word.specs.declared.held.Held.{Held}
use Rattle.mvo_word.specs.declared.held.Held.TheVariants.{At, By, Infinity}
use Rattle.mvo_chain.specs.declared.version.Version.{Version}
use Rattle.mvo_representation.specs.Words.{Phases, end_in, ends_of, stamp_in, has_stamp, open_end_in, open_in, with_open, NetEffect, net_effect, last_change, or_change_at, change_below}
use Rattle.mvo_representation.specs.Words.NetEffect.{Untouched, Removed, Puts, Clash}
use Rattle.mvo_representation.specs.Versions.{IsKnown, AreVersionsOf}
use Rattle.mvo_representation.proofs.LastChanges.{change_by, first_of, last_holds}
use Rattle.mvo_representation.proofs.Facts.{preparing_is, found_holds}
use Rattle.mvo_representation.proofs.Shown.{IsBegin, deciding}
use Rattle.mvo_representation.proofs.Decided.{none_end, some_end}

-- whether an unsettled one ends at e
abbrev pub is_open : ℕ → List StampedTx → Bool
is_open e xs = list_any (λ x. not x.settled && (x.end == e)) xs

or_first : (b c : Bool) → b ≡ true → (b || c) ≡ true
or_first b c e = ap (λ x. x || c) e

or_second : (b c : Bool) → c ≡ true → (b || c) ≡ true
or_second true c e = refl
or_second false c e = e

closed_at : (e : ℕ) (xs : List StampedTx) → AllByRecursion (λ x. x.settled ≡ false → x.end ≢ e) xs → is_open e xs ≡ false
closed_at e xs h = any_none (λ x. not x.settled && (x.end == e)) xs (each_weaker (λ x. x.settled ≡ false → x.end ≢ e) (λ x. (not x.settled && (x.end == e)) ≡ false) (λ x n. go x x.settled refl n) xs h)
  where
    go : (x : StampedTx) (b : Bool) → x.settled ≡ b → (x.settled ≡ false → x.end ≢ e) → (not b && (x.end == e)) ≡ false
    go x true f n = refl
    go x false f n = ne_eqb x.end e (n f)

open_at : (e : ℕ) (xs : List StampedTx) → AllByRecursion (λ x. (not x.settled && (x.end == e)) ≡ false) xs → is_open e xs ≡ false
open_at e xs h = any_none (λ x. not x.settled && (x.end == e)) xs h

-- an unsettled one that is found is open
found_open : (s : State) (t : ℕ) (e : ℕ) → phase_in s t ≡ Preparing e → is_open e s.stamped ≡ true
found_open s t e f = go (is_open e s.stamped) refl
  where
    w : (x : StampedTx) × (preparing_of t s.stamped ≡ Some x) × (x.end ≡ e)
    w = preparing_is s t e f

    go : (b : Bool) → is_open e s.stamped ≡ b → is_open e s.stamped ≡ true
    go true g = g
    go false g =
        let p = found_holds (λ x. (not x.settled && (x.end == e)) ≡ false) t s.stamped w.0 w.1 (none_any (λ x. not x.settled && (x.end == e)) s.stamped g) in
        absurd (true≢false (sym (ap (λ (b : Bool). not b && (w.0.end == e)) p.2 ∙ eq-eqb w.0.end e w.2) ∙ p.0))

-- a word with the stamp e names a Preparing one just if an unsettled one ends at e
pub open_word : (s : State) (table : Phases) (vs : List Version) → AreVersionsOf s table vs → (w : Held) → IsKnown s table w → (e : ℕ) → stamp_in (ends_of table) w ≡ Some e → open_in table w ≡ cond (is_open e s.stamped) (Some e) None
open_word s table vs h Infinity is e q = absurd (none_end e q)
open_word s table vs h (At n) is e q = sym (ap (λ b. cond b (Some e) None) (ap (λ m. is_open m s.stamped) (sym (some_end n.0 e q)) ∙ closed_at n.0 s.stamped is.settled))
open_word s table vs h (By t) is e q = go (table t.0) refl q
  where
    go : (p : Phase) → table t.0 ≡ p → end_in p ≡ Some e → open_end_in p ≡ cond (is_open e s.stamped) (Some e) None
    go Absent f g = absurd (none_end e g)
    go Active f g = absurd (none_end e g)
    go Aborted f g = absurd (none_end e g)
    go (Committed n) f g = sym (ap (λ b. cond b (Some e) None) (ap (λ m. is_open m s.stamped) (sym (some_end n e g)) ∙ closed_at n s.stamped (h.committed t.0 n f).settled))
    go (Preparing n) f g = ap (λ m. Some m) (some_end n e g) ∙ sym (ap (λ b. cond b (Some e) None) (ap (λ m. is_open m s.stamped) (sym (some_end n e g)) ∙ found_open s t.0 n (sym (h.phases t.0) ∙ f)))

-- of one in a list that rises
open_beyond : (e : ℕ) (xs : List StampedTx) → AllByRecursion (λ x. e < x.end) xs → is_open e xs ≡ false
open_beyond e xs h = closed_at e xs (each_weaker (λ x. e < x.end) (λ x. x.settled ≡ false → x.end ≢ e) (λ x lt f q. absurd (omega (arith, lt, q))) xs h)

pub open_each : (xs : List StampedTx) → IsRising xs → AllByRecursion (λ x. is_open x.end xs ≡ not x.settled) xs
open_each [] h = tt
open_each (x ∷ xs) h = (
  ap (λ b. (not x.settled && eqb x.end x.end) || b) (open_beyond x.end xs h.0)
      ∙ ap (λ b. (not x.settled && b) || false) (eq-eqb x.end x.end refl)
      ∙ plain x.settled,
  each_both (λ y. x.end < y.end) (λ y. is_open y.end xs ≡ not y.settled) (λ y. is_open y.end (x ∷ xs) ≡ not y.settled)
      (λ y lt e. ap (λ b. (not x.settled && b) || is_open y.end xs) (ne_eqb x.end y.end (λ q. absurd (omega (arith, lt, q)))) ∙ ap (λ b. b || is_open y.end xs) (no x.settled) ∙ e) xs h.0 (open_each xs h.1),
)
  where
    plain : (b : Bool) → ((not b && true) || false) ≡ not b
    plain true = refl
    plain false = refl

    no : (b : Bool) → (not b && false) ≡ false
    no true = refl
    no false = refl

abbrev pub stamp_of : Option (ℕ × NetEffect) → ℕ
stamp_of None = 0
stamp_of (Some r) = r.0

pub last_change_within : (f : ℕ → NetEffect) (b : ℕ) (p : ℕ × NetEffect) → last_change f b ≡ Some p → p.0 < b
last_change_within f zero p e = absurd (no_change p e)
  where
    no_change : (p : ℕ × NetEffect) → ◌≡◌ {A = Option (ℕ × NetEffect)} None (Some p) → ⊥
    no_change p q = cc
last_change_within f (suc b) p e = go (f b) e (λ g. last_change_within f b p g)
  where
    here : (d : NetEffect) → Some (b, d) ≡ Some p → p.0 < suc b
    here d g = let q : b ≡ p.0 = ap stamp_of g in omega (arith, q)

    go : (d : NetEffect) → or_change_at b d (last_change f b) ≡ Some p → (last_change f b ≡ Some p → p.0 < b) → p.0 < suc b
    go Untouched g again = let l = again g in omega (arith, l)
    go Removed g again = here Removed g
    go (Puts h) g again = here (Puts h) g
    go Clash g again = here Clash g

-- the dependency: where the deciding change has this stamp, a word with the stamp tells whom the state depends on
pub depends_right : (s : State) (table : Phases) (vs : List Version) (b : ℕ) (k : RowKey) (ds : List ℕ) → IsSound s → IsStarted s → AreVersionsOf s table vs → IsBegin s table vs b → (w : Held) → IsKnown s table w → (p : ℕ × NetEffect) → change_below (ends_of table) b k vs ≡ Some p → stamp_in (ends_of table) w ≡ Some p.0 → with_open ds (open_in table w) ≡ depend_on ds (last_writer k b s.stamped)
depends_right s table vs b k ds sd st h at w is p c q =
    ap (with_open ds) (open_word s table vs h w is p.0 q) ∙ go (last_writer k b s.stamped) refl
  where
    low : Option (ℕ × NetEffect)
    low = last_change (λ e. net_effect (has_stamp (ends_of table) e) k vs) (suc s.start)

    known : (v : Option StampedTx) → last_writer k b s.stamped ≡ v → first_of (option_map (change_by k) v) (last_change (λ e. net_effect (has_stamp (ends_of table) e) k vs) (suc s.start)) ≡ Some p
    known v e = ap (λ v. first_of (option_map (change_by k) v) (last_change (λ e. net_effect (has_stamp (ends_of table) e) k vs) (suc s.start))) (sym e) ∙ sym (deciding s table vs b k sd st h at) ∙ c

    by_open : (x : StampedTx) (o : Bool) → o ≡ not x.settled → with_open ds (cond o (Some x.end) None) ≡ cond x.settled ds (with_end ds x.end)
    by_open x o e = turned x.settled (ap (λ c. with_open ds (cond c (Some x.end) None)) e)
      where
        turned : (b : Bool) → with_open ds (cond o (Some x.end) None) ≡ with_open ds (cond (not b) (Some x.end) None) → with_open ds (cond o (Some x.end) None) ≡ cond b ds (with_end ds x.end)
        turned true f = f
        turned false f = f

    go : (v : Option StampedTx) → last_writer k b s.stamped ≡ v → with_open ds (cond (is_open p.0 s.stamped) (Some p.0) None) ≡ depend_on ds (last_writer k b s.stamped)
    go None e =
        let lt : p.0 < suc s.start = last_change_within (λ e. net_effect (has_stamp (ends_of table) e) k vs) (suc s.start) p (known None e) in
        ap (λ o. with_open ds (cond o (Some p.0) None)) (open_beyond p.0 s.stamped (each_weaker (λ x. s.start < x.end) (λ x. p.0 < x.end) (λ x l. omega (arith, l, lt)) s.stamped st.later))
        ∙ ap (depend_on ds) (sym e)
    go (Some x) e =
        let same : x.end ≡ p.0 = ap stamp_of (known (Some x) e) in
        ap (λ n. with_open ds (cond (is_open n s.stamped) (Some n) None)) (sym same)
        ∙ by_open x (is_open x.end s.stamped) (last_holds (λ y. is_open y.end s.stamped ≡ not y.settled) k b s.stamped x (each_weaker (λ y. is_open y.end s.stamped ≡ not y.settled) (λ y. is_writer k b y ≡ true → is_open y.end s.stamped ≡ not y.settled) (λ y o _. o) s.stamped (open_each s.stamped sd.rising)) e)
        ∙ ap (depend_on ds) (sym e)
