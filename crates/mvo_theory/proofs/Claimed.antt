-- The claims are those of the trace: each step keeps that.
use Rattle.std.proofs.Common.{◌≡◌, ℕ, ◌<◌, Bool, true, false, cond, ◌||◌, List, [], ◌∷◌, ◌++◌, Option, None, Some, refl, sym, ap, ◌∙◌, subst, ◌⊎◌, inl, inr, arith, append_assoc}
use Rattle.std.specs.Prelude.{nat_lt, ◌==◌, ◌&&◌, is_some}
use Rattle.std.specs.List.{AllByRecursion, list_any}
use Rattle.std.proofs.lemmas.Bool.{true≢false, eq-eqb, and_parts, and_from}
use Rattle.mvo_types.specs.declared.row.RowKey.{RowKey}
use Rattle.mvo_types.specs.Keys.{Map}
use Rattle.mvo_model.specs.History.{History, net_write}
use Rattle.mvo_model.specs.Trace.{Step, history_of, committed as committed_in, phase_of}
use Rattle.mvo_model.specs.Trace.Step.{Answers}
use Rattle.mvo_model.specs.Trace.Phase.{Preparing}
use Rattle.mvo_theory.specs.State.{State, StampedTx, Claim, timeline, active_of, preparing_of, ended_of}
use Rattle.mvo_theory.specs.Dependencies.{is_writer, last_writer}
use Rattle.mvo_theory.specs.Claims.{end_or, origin}
use Rattle.mvo_theory.specs.Sound.{IsSound, IsSingle, IsPast, IsStarted}
use Rattle.mvo_theory.specs.AfterTrace.{pairs, IsAfterTrace}
use Rattle.mvo_theory.specs.Claimed.{IsWrittenAt, IsOrigin, IsClaimed, HasClaims}
use Rattle.mvo_theory.proofs.Each.{each_weaker, each_both, each_append, each_front, each_back}
use Rattle.mvo_theory.proofs.Footprints.{or_left, or_right}
use Rattle.mvo_theory.proofs.Apart.{IsIn}
use Rattle.mvo_theory.proofs.Depends.{below_last}
use Rattle.mvo_theory.proofs.LastWriter.{last_is, last_writes, none_writes, not_written, after_last, preparing_phase, preparing_there, found_in}
use Rattle.mvo_theory.proofs.Deciding.{each_pair}
use Rattle.mvo_theory.proofs.AfterTrace.{rising_all}

-- ---- the origin, read off the trace
any_pair : (n z : ℕ) (xs : List StampedTx) → AllByRecursion (λ x. x.settled ≡ true → x.end ≡ n → x.id ≡ z → list_any (λ (c : ℕ × ℕ). (c.0 == n) && (c.1 == z)) (pairs xs) ≡ true) xs
any_pair n z [] = tt
any_pair n z (x ∷ xs) = (
  (λ s e i. subst (λ (b : Bool). list_any test (cond b ((x.end, x.id) ∷ pairs xs) (pairs xs)) ≡ true) (sym s) (or_left (test (x.end, x.id)) (list_any test (pairs xs)) (and_from (x.end == n) (x.id == z) (eq-eqb x.end n e) (eq-eqb x.id z i)))),
  each_weaker (λ y. y.settled ≡ true → y.end ≡ n → y.id ≡ z → list_any test (pairs xs) ≡ true) (λ y. y.settled ≡ true → y.end ≡ n → y.id ≡ z → list_any test (cond x.settled ((x.end, x.id) ∷ pairs xs) (pairs xs)) ≡ true)
      (λ y f s e i. more x.settled (f s e i)) xs (any_pair n z xs),
)
  where
    test : ℕ × ℕ → Bool
    test c = (c.0 == n) && (c.1 == z)

    more : (b : Bool) → list_any test (pairs xs) ≡ true → list_any test (cond b ((x.end, x.id) ∷ pairs xs) (pairs xs)) ≡ true
    more true g = or_right (test (x.end, x.id)) (list_any test (pairs xs)) g
    more false g = g

pub in_pairs : (xs : List StampedTx) (x : StampedTx) → IsIn x xs → x.settled ≡ true → list_any (λ (c : ℕ × ℕ). (c.0 == x.end) && (c.1 == x.id)) (pairs xs) ≡ true
in_pairs xs x m s = m (λ y. y.settled ≡ true → y.end ≡ x.end → y.id ≡ x.id → list_any (λ (c : ℕ × ℕ). (c.0 == x.end) && (c.1 == x.id)) (pairs xs) ≡ true) (any_pair x.end x.id xs) s refl refl

-- none of these with an end between writes the key
abbrev NoneBetween : RowKey → ℕ → ℕ → StampedTx → Type 0
NoneBetween k n b y = n < y.end → y.end < b → net_write k y.history ≡ None

origin_from : (opening : Map) (steps : List Step) (s : State) (k : RowKey) (b n : ℕ) → AllByRecursion (NoneBetween k n b) (timeline s) → (n ≡ s.marks.opening) ⊎ IsWrittenAt s.marks.opening steps k b n → IsAfterTrace opening steps s → IsOrigin s.marks.opening steps k b n
origin_from opening steps s k b n none source h = record {
  source = source;
  no_preparing = λ z e q lo hi.
      let there = preparing_there (active_of z s.active) (preparing_of z s.stamped) (ended_of z s.ended) e (sym (h.phases z) ∙ q) in
      let found = found_in z s.stamped there.0 there.1 in
      let is = there.2 in
      subst (λ (i : ℕ). net_write k (history_of i steps) ≡ None) found.1
      (ap (net_write k) (found.0 (λ v. history_of v.id steps ≡ v.history) h.stamped) ∙ found.0 (NoneBetween k n b) (each_back (NoneBetween k n b) s.past s.stamped none) (omega arith) (omega arith));
  no_committed = subst (AllByRecursion (λ (c : ℕ × ℕ). n < c.0 → c.0 < b → net_write k (history_of c.1 steps) ≡ None)) (sym h.tale)
      (each_append (λ (c : ℕ × ℕ). n < c.0 → c.0 < b → net_write k (history_of c.1 steps) ≡ None) (pairs s.past) (pairs s.stamped)
      (each_pair (λ c. n < c.0 → c.0 < b → net_write k (history_of c.1 steps) ≡ None) s.past (each_both (NoneBetween k n b) (λ y. history_of y.id steps ≡ y.history) (λ y. n < y.end → y.end < b → net_write k (history_of y.id steps) ≡ None) (λ y f g lo hi. ap (net_write k) g ∙ f lo hi) s.past (each_front (NoneBetween k n b) s.past s.stamped none) h.past))
      (each_pair (λ c. n < c.0 → c.0 < b → net_write k (history_of c.1 steps) ≡ None) s.stamped (each_both (NoneBetween k n b) (λ y. history_of y.id steps ≡ y.history) (λ y. n < y.end → y.end < b → net_write k (history_of y.id steps) ≡ None) (λ y f g lo hi. ap (net_write k) g ∙ f lo hi) s.stamped (each_back (NoneBetween k n b) s.past s.stamped none) h.stamped)));
}

in_part : (xs ys : List StampedTx) (x : StampedTx) → IsIn x (xs ++ ys) → AllByRecursion (λ y. y.settled ≡ true) xs → x.settled ≡ false → IsIn x ys
in_part xs ys x m s o = λ P h. m (λ y. y.settled ≡ false → P y) (each_append (λ y. y.settled ≡ false → P y) xs ys (each_weaker (λ y. y.settled ≡ true) (λ y. y.settled ≡ false → P y) (λ y a b. absurd (true≢false (sym a ∙ b))) xs s) (each_weaker P (λ y. y.settled ≡ false → P y) (λ y a b. a) ys h)) o

pairs_both : (p : ℕ × ℕ → Bool) (xs ys : List StampedTx) → list_any p (pairs (xs ++ ys)) ≡ true → list_any p (pairs xs ++ pairs ys) ≡ true
pairs_both p [] ys h = h
pairs_both p (x ∷ xs) ys h = go x.settled h (pairs_both p xs ys)
  where
    go : (b : Bool) → list_any p (cond b ((x.end, x.id) ∷ pairs (xs ++ ys)) (pairs (xs ++ ys))) ≡ true → (list_any p (pairs (xs ++ ys)) ≡ true → list_any p (pairs xs ++ pairs ys) ≡ true) → list_any p (cond b ((x.end, x.id) ∷ pairs xs) (pairs xs) ++ pairs ys) ≡ true
    go false g r = r g
    go true g r = two (p (x.end, x.id)) (list_any p (pairs (xs ++ ys))) (list_any p (pairs xs ++ pairs ys)) r g
      where
        two : (a b c : Bool) → (b ≡ true → c ≡ true) → (a || b) ≡ true → (a || c) ≡ true
        two true b c f e = refl
        two false b c f e = f e

writer_in_trace : (opening : Map) (steps : List Step) (s : State) (k : RowKey) (b : ℕ) (x : StampedTx) → last_writer k b (timeline s) ≡ Some x → IsSingle s → IsStarted s → IsAfterTrace opening steps s → IsWrittenAt s.marks.opening steps k b x.end
writer_in_trace opening steps s k b x l single p h =
    let m = last_is k b (timeline s) x l in
    let history = m (λ y. history_of y.id steps ≡ y.history) (each_append (λ y. history_of y.id steps ≡ y.history) s.past s.stamped h.past h.stamped) in
    record {
      writer = x.id;
      above = m (λ y. s.marks.opening < y.end) (each_append (λ y. s.marks.opening < y.end) s.past s.stamped p.after (each_weaker (λ y. s.start < y.end) (λ y. s.marks.opening < y.end) (λ y l. let o = p.opened in omega arith) s.stamped p.later));
      ends = go m x.settled refl;
      below = below_last k b (timeline s) x l;
      writes = ap (λ ts. is_some (net_write k ts)) history ∙ (and_parts (nat_lt x.end b) (is_some (net_write k x.history)) (last_writes k b (timeline s) x l)).1;
    }
  where
    go : IsIn x (timeline s) → (c : Bool) → x.settled ≡ c → (phase_of x.id steps ≡ Preparing x.end) ⊎ (list_any (λ c. (c.0 == x.end) && (c.1 == x.id)) (committed_in steps) ≡ true)
    go m false e = inl (h.phases x.id ∙ preparing_phase s x (in_part s.past s.stamped x m (each_weaker (IsPast s.start) (λ y. y.settled ≡ true) (λ y q. q.settled) s.past p.past) e) e single)
    go m true e = inr (ap (list_any (λ c. (c.0 == x.end) && (c.1 == x.id))) h.tale ∙ pairs_both (λ c. (c.0 == x.end) && (c.1 == x.id)) s.past s.stamped (in_pairs (timeline s) x m e))

pub origin_in_trace : (opening : Map) (steps : List Step) (s : State) (k : RowKey) (b : ℕ) → IsSound s → IsSingle s → IsStarted s → IsAfterTrace opening steps s → IsOrigin s.marks.opening steps k b (origin s b k)
origin_in_trace opening steps s k b sound single p h = go (last_writer k b (timeline s)) refl
  where
    go : (w : Option StampedTx) → last_writer k b (timeline s) ≡ w → IsOrigin s.marks.opening steps k b (end_or s.marks.opening w)
    go None e = origin_from opening steps s k b s.marks.opening (each_weaker (λ z. is_writer k b z ≡ false) (NoneBetween k s.marks.opening b) (λ z f lo hi. not_written k b z f hi) (timeline s) (none_writes k b (timeline s) e)) (inl refl) h
    go (Some x) e = origin_from opening steps s k b x.end (after_last k b (timeline s) x (rising_all s sound p) e) (inr (writer_in_trace opening steps s k b x e single p h)) h

-- ---- one more operation
pub claimed_later : (mark : ℕ) (xs ys : List Step) (u : ℕ) (c : Claim) → IsClaimed mark xs u c → IsClaimed mark (xs ++ ys) u c
claimed_later mark xs ys u c h = record {
  before = h.before;
  op = h.op;
  answer = h.answer;
  after = h.after ++ ys;
  then' = ap (λ zs. zs ++ ys) h.then' ∙ append_assoc h.before (Answers u h.op h.answer ∷ h.after) ys;
  answered = h.answered;
  first = h.first;
  origin = h.origin;
}

pub has_later : (mark : ℕ) (xs ys : List Step) (u : ℕ) (ts : History) (cs : List Claim) → HasClaims mark xs u ts cs → HasClaims mark (xs ++ ys) u ts cs
has_later mark xs ys u ts cs h = record { sound = each_weaker (IsClaimed mark xs u) (IsClaimed mark (xs ++ ys) u) (claimed_later mark xs ys u) cs h.sound; written = h.written; complete = h.complete }
