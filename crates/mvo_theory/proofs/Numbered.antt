-- Each step keeps the numbers apart.
use Rattle.std.proofs.Common.{◌≡◌, ◌≢◌, ℕ, ◌<◌, Bool, true, false, cond, not, List, [], ◌∷◌, ◌++◌, map, refl, sym, ◌∙◌, arith}
use Rattle.std.specs.Prelude.{◌==◌}
use Rattle.std.specs.List.{AllByRecursion, filter}
use Rattle.std.proofs.lemmas.Bool.{eq-eqb, false≢true, not-true}
use Rattle.mvo_types.specs.declared.op.Op.{Op}
use Rattle.mvo_types.specs.AnswerData.{AnswerData}
use Rattle.mvo_theory.specs.State.{State, StampedTx, ActiveTx}
use Rattle.mvo_theory.specs.Changes.{after_begin, after_operation, with_answer, after_prepare, to_stamped, after_check, with_check, after_commit, with_settled, with_flag, active_with_flag, not_at, after_abort_of_active, after_abort_of_preparing}
use Rattle.mvo_theory.specs.Sound.{IsSound, IsActive, IsPlaced, AreDistinct, IsNumbered, IsPast, IsStarted}
use Rattle.mvo_theory.proofs.Each.{each_weaker, each_append, each_map, each_filter}

distinct_push : (rs : List ActiveTx) (r : ActiveTx) → AreDistinct rs → AllByRecursion (λ q. q.id < r.id) rs → AreDistinct (rs ++ r ∷ [])
distinct_push [] r d h = (tt, tt)
distinct_push (q ∷ qs) r d h = (each_append (λ p. p.id ≢ q.id) qs (r ∷ []) d.0 (λ e. absurd (let lt = h.0 in omega arith), tt), distinct_push qs r d.1 h.1)

-- a change of each that keeps the ids
distinct_map : (f : ActiveTx → ActiveTx) → ((r : ActiveTx) → (f r).id ≡ r.id) → (rs : List ActiveTx) → AreDistinct rs → AreDistinct (map f rs)
distinct_map f k [] d = tt
distinct_map f k (r ∷ rs) d = (each_map f (λ q. q.id ≢ r.id) (λ q. q.id ≢ (f r).id) (λ q n e. n (sym (k q) ∙ e ∙ k r)) rs d.0, distinct_map f k rs d.1)

distinct_filter : (p : ActiveTx → Bool) (rs : List ActiveTx) → AreDistinct rs → AreDistinct (filter p rs)
distinct_filter p [] d = tt
distinct_filter p (r ∷ rs) d = go (p r) (each_filter p (λ q. q.id ≢ r.id) (λ q. q.id ≢ r.id) (λ q _ n. n) rs d.0) (distinct_filter p rs d.1)
  where
    go : (b : Bool) → AllByRecursion (λ q. q.id ≢ r.id) (filter p rs) → AreDistinct (filter p rs) → AreDistinct (cond b (r ∷ filter p rs) (filter p rs))
    go true u v = (u, v)
    go false u v = v

abbrev IsOutside : List StampedTx → ActiveTx → Type 0
IsOutside stamped r = AllByRecursion (λ x. x.id ≢ r.id) stamped

pub numbered_after_begin : (s : State) (t : ℕ) → s.clock < t → IsSound s → IsStarted s → IsNumbered s → IsNumbered (after_begin s t)
numbered_after_begin s t lt k p h = record {
  distinct = distinct_push s.active _ h.distinct (each_weaker (IsActive s.base s.stamped s.clock) (λ q. q.id < t) (λ q a. let d = a.drawn in omega arith) s.active k.active);
  apart = each_append (IsOutside s.stamped) s.active _ h.apart (each_weaker (IsPlaced s.stamped s.clock) (λ x. x.id ≢ t) (λ x p e. absurd (let b = p.begun in let d = p.drawn in omega arith)) s.stamped k.placed, tt);
  before = each_append (IsOutside s.past) s.active _ h.before (each_weaker (IsPast s.start) (λ x. x.id ≢ t) (λ x q e. absurd (let b = q.begun in let d = q.until in let c = p.drawn in omega arith)) s.past p.past, tt);
}

pub numbered_after_operation : (s : State) (t : ℕ) (op : Op) (a : AnswerData) → IsNumbered s → IsNumbered (after_operation s t op a)
numbered_after_operation s t op a h = record {
  distinct = distinct_map (with_answer s t op a) (λ r. refl) s.active h.distinct;
  apart = each_map (with_answer s t op a) (IsOutside s.stamped) (IsOutside s.stamped) (λ r q. q) s.active h.apart;
  before = each_map (with_answer s t op a) (IsOutside s.past) (IsOutside s.past) (λ r q. q) s.active h.before;
}

pub numbered_after_prepare : (s : State) (r : ActiveTx) (e : ℕ) → IsNumbered s → IsNumbered (after_prepare s r e)
numbered_after_prepare s r e h = record {
  distinct = distinct_filter (λ q. not (q.id == r.id)) s.active h.distinct;
  apart = each_filter (λ q. not (q.id == r.id)) (IsOutside s.stamped) (IsOutside (s.stamped ++ to_stamped e r ∷ [])) (λ q f o. each_append (λ x. x.id ≢ q.id) s.stamped (to_stamped e r ∷ []) o (λ same. false≢true (sym (not-true (q.id == r.id) f) ∙ eq-eqb q.id r.id (sym same)), tt)) s.active h.apart;
  before = each_filter (λ q. not (q.id == r.id)) (IsOutside s.past) (IsOutside s.past) (λ q _ o. o) s.active h.before;
}

pub numbered_map : (s : State) (f : StampedTx → StampedTx) → ((x : StampedTx) → (f x).id ≡ x.id) → IsNumbered s → IsNumbered (record s { stamped = map f s.stamped })
numbered_map s f k h = record {
  distinct = h.distinct;
  apart = each_weaker (IsOutside s.stamped) (IsOutside (map f s.stamped)) (λ r o. each_map f (λ x. x.id ≢ r.id) (λ x. x.id ≢ r.id) (λ x n e. n (sym (k x) ∙ e)) s.stamped o) s.active h.apart;
  before = h.before;
}

pub numbered_after_check : (s : State) (e : ℕ) (v : Bool) → IsNumbered s → IsNumbered (after_check s e v)
numbered_after_check s e v h = numbered_map s (with_check e v) (λ x. refl) h

pub numbered_after_commit : (s : State) (t e : ℕ) → IsNumbered s → IsNumbered (after_commit s t e)
numbered_after_commit s t e h = let q = numbered_map s (with_settled e) (λ x. refl) h in record { distinct = q.distinct; apart = q.apart; before = q.before }

pub numbered_after_abort_of_active : (s : State) (t : ℕ) → IsNumbered s → IsNumbered (after_abort_of_active s t)
numbered_after_abort_of_active s t h = record {
  distinct = distinct_filter (λ q. not (q.id == t)) s.active h.distinct;
  apart = each_filter (λ q. not (q.id == t)) (IsOutside s.stamped) (IsOutside s.stamped) (λ q _ o. o) s.active h.apart;
  before = each_filter (λ q. not (q.id == t)) (IsOutside s.past) (IsOutside s.past) (λ q _ o. o) s.active h.before;
}

pub numbered_after_abort_of_preparing : (s : State) (t e : ℕ) → IsNumbered s → IsNumbered (after_abort_of_preparing s t e)
numbered_after_abort_of_preparing s t e h = record {
  distinct = distinct_map (active_with_flag t e) (λ r. refl) s.active h.distinct;
  apart = each_map (active_with_flag t e) (IsOutside s.stamped) (IsOutside (map (with_flag t e) (filter (not_at e) s.stamped))) (λ r o. each_map (with_flag t e) (λ x. x.id ≢ r.id) (λ x. x.id ≢ r.id) (λ x n. n) (filter (not_at e) s.stamped) (each_filter (not_at e) (λ x. x.id ≢ r.id) (λ x. x.id ≢ r.id) (λ x _ n. n) s.stamped o)) s.active h.apart;
  before = each_map (active_with_flag t e) (IsOutside s.past) (IsOutside s.past) (λ r o. o) s.active h.before;
}
