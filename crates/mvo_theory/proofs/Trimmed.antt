-- Where a trim isn't refused it keeps all that a core keeps.
use Rattle.std.proofs.Common.{◌≡◌, ◌≢◌, ℕ, ◌-◌, ◌<◌, ◌≤◌, Bool, true, false, cond, not, List, [], ◌∷◌, ◌++◌, Option, None, Some, map, refl, sym, ap, ◌∙◌, subst, arith}
use Rattle.std.specs.Prelude.{nat_lt, nat_le, ◌==◌, ◌&&◌, not}
use Rattle.std.specs.List.{AllByRecursion, filter}
use Rattle.std.proofs.lemmas.Bool.{ltb-true, leb-true, leb-false, true≢false, and_parts, and_right, not-false}
use Rattle.mvo_types.specs.declared.refusal.Refusal.TheVariants.{NothingToDo}
use Rattle.mvo_types.specs.Keys.{Map}
use Rattle.mvo_model.specs.Trace.{Step, history_of}
use Rattle.mvo_theory.specs.State.{EndedTx, State, StampedTx, ActiveTx, after_settled, active_of, preparing_of, ended_of, is_preparing_as}
use Rattle.mvo_theory.specs.Changes.{is_to, after_trim}
use Rattle.mvo_theory.specs.Marks.{least_open, below_open, low_water, open_begins, least, oldest_begin}
use Rattle.mvo_types.specs.Causes.{when, first_cause}
use Rattle.mvo_theory.specs.Causes.{why_not_trim}
use Rattle.mvo_theory.specs.Phases.{phase_by}
use Rattle.mvo_theory.specs.Sound.{IsRising, IsLegal, IsPlaced, IsSound, IsNumbered, IsSingle, AreExclusive}
use Rattle.mvo_theory.specs.AfterTrace.{pairs, IsAfterTrace}
use Rattle.mvo_theory.proofs.Each.{each_weaker, each_both, each_append, each_front, each_back}
use Rattle.mvo_theory.proofs.Stamped.{each_part}
use Rattle.mvo_theory.proofs.Finds.{find_filter, count_filter}
use Rattle.mvo_theory.proofs.Single.{preparing_found}
use Rattle.mvo_theory.proofs.Tales.{pairs-append, legal_append}
use Rattle.mvo_theory.proofs.Claims.{claimed_it}
use Rattle.mvo_theory.proofs.Trim.{is_after, parted, after_settled-append, legal_front, IsTrim}
use Rattle.mvo_theory.proofs.Cases.{none_refusal}

-- ---- where it isn't refused
least_above : (m n : ℕ) (xs : List ℕ) → m ≤ least n xs → (m ≤ n) × AllByRecursion (λ x. m ≤ x) xs
least_above m n [] h = (h, tt)
least_above m n (x ∷ xs) h = go (nat_le n x) refl (least_above m (cond (nat_le n x) n x) xs h)
  where
    go : (b : Bool) → nat_le n x ≡ b → (m ≤ cond b n x) × AllByRecursion (λ y. m ≤ y) xs → (m ≤ n) × ((m ≤ x) × AllByRecursion (λ y. m ≤ y) xs)
    go true e q = let a = q.0 in let b = leb-true n x e in (a, (omega arith, q.1))
    go false e q = let a = q.0 in let b = leb-false n x e in (omega arith, (a, q.1))

pub each_of_map : {X : Type 0} (f : X → ℕ) (P : ℕ → Type 0) (xs : List X) → AllByRecursion P (map f xs) → AllByRecursion (λ x. P (f x)) xs
each_of_map f P [] h = tt
each_of_map f P (x ∷ xs) h = (h.0, each_of_map f P xs h.1)

each_open : (P : ℕ → Type 0) (xs : List StampedTx) → AllByRecursion P (open_begins xs) → AllByRecursion (λ x. x.settled ≡ false → P x.id) xs
each_open P [] h = tt
each_open P (x ∷ xs) h = go x.settled refl h (each_open P xs)
  where
    go : (b : Bool) → x.settled ≡ b → AllByRecursion P (cond b (open_begins xs) (x.id ∷ open_begins xs)) → (AllByRecursion P (open_begins xs) → AllByRecursion (λ y. y.settled ≡ false → P y.id) xs) → (x.settled ≡ false → P x.id) × AllByRecursion (λ y. y.settled ≡ false → P y.id) xs
    go true e g r = (λ f. absurd (true≢false (sym e ∙ f)), r g)
    go false e g r = (λ _. g.0, r g.1)

-- the low-water is below each end that isn't settled
pub low_below : (clock : ℕ) (xs : List StampedTx) → IsRising xs → AllByRecursion (λ x. x.id < x.end) xs → AllByRecursion (λ x. x.settled ≡ false → below_open clock (least_open xs) < x.end) xs
low_below clock [] r b = tt
low_below clock (x ∷ xs) r b = go x.settled refl (low_below clock xs r.1 b.1)
  where
    go : (s : Bool) → x.settled ≡ s → AllByRecursion (λ y. y.settled ≡ false → below_open clock (least_open xs) < y.end) xs → (x.settled ≡ false → below_open clock (cond s (least_open xs) (Some x.end)) < x.end) × AllByRecursion (λ y. y.settled ≡ false → below_open clock (cond s (least_open xs) (Some x.end)) < y.end) xs
    go true e q = (λ f. absurd (true≢false (sym e ∙ f)), q)
    go false e q = let l = b.0 in (λ _. omega arith, each_weaker (λ y. x.end < y.end) (λ y. y.settled ≡ false → x.end - 1 < y.end) (λ y g _. omega arith) xs r.0)

pub passes : (b : Bool) → first_cause (when (not b) NothingToDo ∷ []) ≡ None → b ≡ true
passes true h = refl
passes false h = absurd (none_refusal NothingToDo h)

pub may_trim : (s : State) (m : ℕ) → why_not_trim s m ≡ None → IsSound s → IsTrim m s
may_trim s m w h =
    let p = and_parts (nat_lt s.start m) (nat_le m (oldest_begin s) && nat_le m (low_water s)) (passes (nat_lt s.start m && (nat_le m (oldest_begin s) && nat_le m (low_water s))) w) in
    let q = and_parts (nat_le m (oldest_begin s)) (nat_le m (low_water s)) p.1 in
    let begins = least_above m s.clock _ (leb-true m (oldest_begin s) q.0) in
    let low = leb-true m (low_water s) q.1 in
    let ids = map (λ (r : ActiveTx). r.id) s.active in
    let rest = open_begins s.stamped ++ map (λ (u : EndedTx). u.id) s.ended in
    record {
      above = ltb-true s.start m p.0;
      drawn = begins.0;
      settled = each_weaker (λ x. x.settled ≡ false → low_water s < x.end) (λ x. x.settled ≡ false → m < x.end) (λ x f o. let l = f o in omega arith) s.stamped
          (low_below s.clock s.stamped h.rising (each_weaker (IsPlaced s.stamped s.clock) (λ x. x.id < x.end) (λ x g. g.begun) s.stamped h.placed));
      active = each_of_map (λ (r : ActiveTx). r.id) (λ n. m ≤ n) s.active (each_front (λ n. m ≤ n) ids rest begins.1);
      preparing = each_open (λ n. m ≤ n) s.stamped (each_front (λ n. m ≤ n) (open_begins s.stamped) (map (λ (u : EndedTx). u.id) s.ended) (each_back (λ n. m ≤ n) ids rest begins.1));
    }

-- ---- what it keeps besides
pub numbered_after_trim : (s : State) (m : ℕ) → IsNumbered s → IsNumbered (after_trim s m)
numbered_after_trim s m h = record {
  distinct = h.distinct;
  apart = each_weaker (λ r. AllByRecursion (λ x. x.id ≢ r.id) s.stamped) (λ r. AllByRecursion (λ x. x.id ≢ r.id) (filter (is_after m) s.stamped)) (λ r. each_part (is_after m) (λ x. x.id ≢ r.id) s.stamped) s.active h.apart;
  before = each_both (λ r. AllByRecursion (λ x. x.id ≢ r.id) s.past) (λ r. AllByRecursion (λ x. x.id ≢ r.id) s.stamped) (λ r. AllByRecursion (λ x. x.id ≢ r.id) (s.past ++ filter (is_to m) s.stamped))
      (λ r a b. each_append (λ x. x.id ≢ r.id) s.past (filter (is_to m) s.stamped) a (each_part (is_to m) (λ x. x.id ≢ r.id) s.stamped b)) s.active h.before h.apart;
}

pub single_after_trim : (s : State) (m : ℕ) → IsSingle s → IsSingle (after_trim s m)
single_after_trim s m h = record {
  once = λ t. let l = count_filter (is_preparing_as t) (is_after m) s.stamped in let o = h.once t in omega arith;
  drawn = h.drawn;
}

pub exclusive_after_trim : (s : State) (m : ℕ) → AreExclusive s → AreExclusive (after_trim s m)
exclusive_after_trim s m h = λ k n. let l = count_filter (claimed_it k n) (is_after m) s.stamped in let o = h k n in omega arith

pub preparing_after_trim : (s : State) (m t : ℕ) → IsTrim m s → preparing_of t (filter (is_after m) s.stamped) ≡ preparing_of t s.stamped
preparing_after_trim s m t h = preparing_found t (filter (is_after m) s.stamped) ∙ find_filter (is_preparing_as t) (is_after m) s.stamped
    (each_weaker (λ x. x.settled ≡ false → m < x.end) (λ x. is_after m x ≡ false → is_preparing_as t x ≡ false) (λ x f e. go x (leb-true x.end m (not-false (is_to m x) e)) x.settled refl f) s.stamped h.settled)
    ∙ sym (preparing_found t s.stamped)
  where
    go : (x : StampedTx) → x.end ≤ m → (b : Bool) → x.settled ≡ b → (x.settled ≡ false → m < x.end) → is_preparing_as t x ≡ false
    go x l true e f = and_right (x.id == t) (not x.settled) (ap not e)
    go x l false e f = absurd (let g = f e in omega arith)

pub trace_after_trim : (opening : Map) (xs : List Step) (s : State) (m : ℕ) → IsTrim m s → IsSound s → IsAfterTrace opening xs s → IsAfterTrace opening xs (after_trim s m)
trace_after_trim opening xs s m t k h =
    let front = filter (is_to m) s.stamped in
    let back = filter (is_after m) s.stamped in
    let both = parted m s.stamped k.rising in
    record {
      base = ap (after_settled front) h.base ∙ sym (after_settled-append s.past front opening);
      legal = legal_append opening s.past front h.legal (subst (λ (n : Map). IsLegal n front) h.base (legal_front s.base front back (subst (IsLegal s.base) (sym both) k.legal)));
      tale = h.tale ∙ ap (λ l. pairs s.past ++ pairs l) (sym both) ∙ ap (λ ps. pairs s.past ++ ps) (pairs-append front back) ∙ pairs_assoc (pairs s.past) (pairs front) (pairs back) ∙ ap (λ ps. ps ++ pairs back) (sym (pairs-append s.past front));
      past = each_append (λ x. history_of x.id xs ≡ x.history) s.past front h.past (each_part (is_to m) (λ x. history_of x.id xs ≡ x.history) s.stamped h.stamped);
      stamped = each_part (is_after m) (λ x. history_of x.id xs ≡ x.history) s.stamped h.stamped;
      active = h.active;
      fresh = h.fresh;
      phases = λ u. h.phases u ∙ ap (λ (w : Option StampedTx). phase_by (active_of u s.active) w (ended_of u s.ended)) (sym (preparing_after_trim s m u t));
    }
  where
    pairs_assoc : (a b c : List (ℕ × ℕ)) → a ++ (b ++ c) ≡ (a ++ b) ++ c
    pairs_assoc [] b c = refl
    pairs_assoc (x ∷ a) b c = ap (λ ys. x ∷ ys) (pairs_assoc a b c)
