-- Each step keeps an unfinished transaction at one place.
use Rattle.std.proofs.Common.{◌≡◌, ℕ, ◌+◌, ◌<◌, ◌≤◌, Bool, true, false, cond, not, ◌||◌, List, [], ◌∷◌, ◌++◌, Option, Some, map, refl, sym, ap, ◌∙◌, subst, arith}
use Rattle.std.specs.Prelude.{◌==◌, ◌&&◌}
use Rattle.std.specs.List.{AllByRecursion, filter, find}
use Rattle.std.proofs.lemmas.Bool.{eq-eqb, eqb-true, ne_eqb, and_parts, and_left, and_right, or_right}
use Rattle.mvo_types.specs.declared.op.Op.{Op}
use Rattle.mvo_types.specs.Keys.{Map}
use Rattle.mvo_types.specs.AnswerData.{AnswerData}
use Rattle.mvo_theory.specs.State.{EndedTx, State, StampedTx, ActiveTx, opened, active_of, preparing_of, is_active_as, is_preparing_as, is_ended_as}
use Rattle.mvo_theory.specs.Words.{words_now}
use Rattle.mvo_theory.specs.Changes.{new_active, after_begin, after_operation, with_answer, after_prepare, to_stamped, without_id, after_check, with_check, after_commit, committed_tx, with_settled, with_flag, active_with_flag, not_at, after_abort_of_active, aborted_tx, after_abort_of_preparing, after_termination, without_ended}
use Rattle.mvo_theory.specs.Sound.{IsSound, IsActive, IsPlaced, IsSingle, how_many}
use Rattle.mvo_theory.proofs.Each.{each_weaker, each_append}
use Rattle.mvo_theory.proofs.Finds.{find_holds, count_none, count_some, push_no, push_yes, count_map, count_map_out, count_filter, count_filter_out}

-- ---- the look-ups are finds
pub active_found : (t : ℕ) (rs : List ActiveTx) → active_of t rs ≡ find (is_active_as t) rs
active_found t [] = refl
active_found t (r ∷ rs) = ap (λ (w : Option ActiveTx). cond (r.id == t) (Some r) w) (active_found t rs)

pub preparing_found : (t : ℕ) (xs : List StampedTx) → preparing_of t xs ≡ find (is_preparing_as t) xs
preparing_found t [] = refl
preparing_found t (x ∷ xs) = ap (λ (w : Option StampedTx). cond ((x.id == t) && not x.settled) (Some x) w) (preparing_found t xs)

active_counts : (t : ℕ) (rs : List ActiveTx) (r : ActiveTx) → active_of t rs ≡ Some r → 1 ≤ how_many (is_active_as t) rs
active_counts t rs r e = count_some (is_active_as t) rs r (sym (active_found t rs) ∙ e)

preparing_counts : (t : ℕ) (xs : List StampedTx) (x : StampedTx) → preparing_of t xs ≡ Some x → 1 ≤ how_many (is_preparing_as t) xs
preparing_counts t xs x e = count_some (is_preparing_as t) xs x (sym (preparing_found t xs) ∙ e)

active_is : (s : State) (t : ℕ) (r : ActiveTx) → active_of t s.active ≡ Some r → IsSound s → IsActive s.base s.stamped s.clock r × (is_active_as t r ≡ true)
active_is s t r e k = find_holds (IsActive s.base s.stamped s.clock) (is_active_as t) s.active r (sym (active_found t s.active) ∙ e) k.active

preparing_is : (s : State) (t : ℕ) (x : StampedTx) → preparing_of t s.stamped ≡ Some x → IsSound s → IsPlaced s.stamped s.clock x × (is_preparing_as t x ≡ true)
preparing_is s t x e k = find_holds (IsPlaced s.stamped s.clock) (is_preparing_as t) s.stamped x (sym (preparing_found t s.stamped) ∙ e) k.placed

-- who is at one place is at no other
pub active_alone : (s : State) (t : ℕ) (r : ActiveTx) → active_of t s.active ≡ Some r → IsSingle s → how_many (is_preparing_as t) s.stamped + how_many (is_ended_as t) s.ended ≤ 0
active_alone s t r e h = let l = active_counts t s.active r e in let o = h.once t in omega arith

pub preparing_alone : (s : State) (t : ℕ) (x : StampedTx) → preparing_of t s.stamped ≡ Some x → IsSingle s → how_many (is_active_as t) s.active + how_many (is_ended_as t) s.ended ≤ 0
preparing_alone s t x e h = let l = preparing_counts t s.stamped x e in let o = h.once t in omega arith

-- ---- an opening, and a begin
pub single_opened : (rows : Map) (mark : ℕ) → IsSingle (opened rows mark)
single_opened rows mark = record { once = λ t. omega arith; drawn = tt }

-- nobody has a number that is not drawn yet
pub fresh_alone : (s : State) (t : ℕ) → s.clock < t → IsSound s → IsSingle s → (how_many (is_active_as t) s.active ≤ 0) × (how_many (is_preparing_as t) s.stamped ≤ 0) × (how_many (is_ended_as t) s.ended ≤ 0)
fresh_alone s t lt k h = (
  count_none (is_active_as t) s.active (each_weaker (IsActive s.base s.stamped s.clock) (λ r. (r.id == t) ≡ false) (λ r a. ne_eqb r.id t (λ e. absurd (let d = a.drawn in omega arith))) s.active k.active),
  count_none (is_preparing_as t) s.stamped (each_weaker (IsPlaced s.stamped s.clock) (λ x. ((x.id == t) && not x.settled) ≡ false) (λ x p. and_left (x.id == t) (not x.settled) (ne_eqb x.id t (λ e. absurd (let b = p.begun in let d = p.drawn in omega arith)))) s.stamped k.placed),
  count_none (is_ended_as t) s.ended (each_weaker (λ u. u.id ≤ s.clock) (λ u. (u.id == t) ≡ false) (λ u d. ne_eqb u.id t (λ e. absurd (omega arith))) s.ended h.drawn),
)

pub single_after_begin : (s : State) (t : ℕ) → s.clock < t → IsSound s → IsSingle s → IsSingle (after_begin s t)
single_after_begin s t lt k h = record {
  once = λ u. go u (t == u) refl;
  drawn = each_weaker (λ u. u.id ≤ s.clock) (λ u. u.id ≤ t) (λ u d. omega arith) s.ended h.drawn;
}
  where
    new : ActiveTx
    new = new_active t

    go : (u : ℕ) (b : Bool) → (t == u) ≡ b → how_many (is_active_as u) (s.active ++ new ∷ []) + (how_many (is_preparing_as u) s.stamped + how_many (is_ended_as u) s.ended) ≤ 1
    go u true e =
        let is = eqb-true t u e in
        let f = fresh_alone s u (omega arith) k h in
        let a = f.0 in
        let b = f.1 in
        let c = f.2 in
        let l = push_yes (is_active_as u) s.active new in
        omega arith
    go u false e = let l = push_no (is_active_as u) s.active new e in let o = h.once u in omega arith

-- ---- an operation
pub single_after_operation : (s : State) (t : ℕ) (op : Op) (a : AnswerData) → IsSingle s → IsSingle (after_operation s t op a)
single_after_operation s t op a h = record {
  once = λ u. let l = count_map (is_active_as u) (with_answer s t op a) s.active (λ r e. e) in let o = h.once u in omega arith;
  drawn = h.drawn;
}

-- ---- from one list to another
still_active : (s : State) (t u : ℕ) (r : ActiveTx) → active_of t s.active ≡ Some r → (t == u) ≡ true → find (is_active_as u) s.active ≡ Some r
still_active s t u r f e = subst (λ (m : ℕ). find (is_active_as m) s.active ≡ Some r) (eqb-true t u e) (sym (active_found t s.active) ∙ f)

still_preparing : (s : State) (t u : ℕ) (x : StampedTx) → preparing_of t s.stamped ≡ Some x → (t == u) ≡ true → find (is_preparing_as u) s.stamped ≡ Some x
still_preparing s t u x f e = subst (λ (m : ℕ). find (is_preparing_as m) s.stamped ≡ Some x) (eqb-true t u e) (sym (preparing_found t s.stamped) ∙ f)

pub single_after_prepare : (s : State) (r : ActiveTx) (e : ℕ) → active_of r.id s.active ≡ Some r → s.clock ≤ e → IsSingle s → IsSingle (after_prepare s r e)
single_after_prepare s r e f le h = record {
  once = λ u. go u (r.id == u) refl;
  drawn = each_weaker (λ u. u.id ≤ s.clock) (λ u. u.id ≤ e) (λ u d. omega arith) s.ended h.drawn;
}
  where
    go : (u : ℕ) (b : Bool) → (r.id == u) ≡ b → how_many (is_active_as u) (without_id r.id s.active) + (how_many (is_preparing_as u) (s.stamped ++ to_stamped e r ∷ []) + how_many (is_ended_as u) s.ended) ≤ 1
    go u true g =
        let l = count_filter_out (is_active_as u) (λ q. not (q.id == r.id)) s.active r (still_active s r.id u r f g) (ap not (eq-eqb r.id r.id refl)) in
        let m = push_yes (is_preparing_as u) s.stamped (to_stamped e r) in
        let o = h.once u in
        omega arith
    go u false g =
        let l = count_filter (is_active_as u) (λ q. not (q.id == r.id)) s.active in
        let m = push_no (is_preparing_as u) s.stamped (to_stamped e r) (and_left (r.id == u) true g) in
        let o = h.once u in
        omega arith

pub single_after_check : (s : State) (e : ℕ) (v : Bool) → IsSingle s → IsSingle (after_check s e v)
single_after_check s e v h = record {
  once = λ u. let l = count_map (is_preparing_as u) (with_check e v) s.stamped (λ x q. q) in let o = h.once u in omega arith;
  drawn = h.drawn;
}

still_open : (a c b : Bool) → (a && not (c || b)) ≡ true → (a && not c) ≡ true
still_open true true b q = q
still_open true false b q = refl
still_open false c b q = q

-- a settled one prepares no longer
pub settles : (u : ℕ) (x : StampedTx) → is_preparing_as u (with_settled x.end x) ≡ false
settles u x = and_right (x.id == u) (not (x.settled || (x.end == x.end))) (ap not (or_right x.settled (x.end == x.end) (eq-eqb x.end x.end refl)))

pub fewer_settled : (u : ℕ) (xs : List StampedTx) (x : StampedTx) → find (is_preparing_as u) xs ≡ Some x → how_many (is_preparing_as u) (map (with_settled x.end) xs) + 1 ≤ how_many (is_preparing_as u) xs
fewer_settled u xs x f = count_map_out (is_preparing_as u) (with_settled x.end) xs x (λ y q. still_open (y.id == u) y.settled (y.end == x.end) q) f (settles u x)

-- the number of one that is Preparing is drawn
drawn_preparing : (s : State) (t : ℕ) (x : StampedTx) → preparing_of t s.stamped ≡ Some x → IsSound s → t ≤ s.clock
drawn_preparing s t x f k =
    let p = preparing_is s t x f k in
    let is = eqb-true x.id t (and_parts (x.id == t) (not x.settled) p.1).0 in
    let b = p.0.begun in
    let d = p.0.drawn in
    omega arith

pub single_after_commit : (s : State) (t : ℕ) (x : StampedTx) → preparing_of t s.stamped ≡ Some x → IsSound s → IsSingle s → IsSingle (after_commit s t x.end)
single_after_commit s t x f k h = record {
  once = λ u. go u (t == u) refl;
  drawn = each_append (λ u. u.id ≤ s.clock) s.ended (committed_tx t x.end (words_now s t) ∷ []) h.drawn (drawn_preparing s t x f k, tt);
}
  where
    go : (u : ℕ) (b : Bool) → (t == u) ≡ b → how_many (is_active_as u) s.active + (how_many (is_preparing_as u) (map (with_settled x.end) s.stamped) + how_many (is_ended_as u) (s.ended ++ committed_tx t x.end (words_now s t) ∷ [])) ≤ 1
    go u true e =
        let l = fewer_settled u s.stamped x (still_preparing s t u x f e) in
        let m = push_yes (is_ended_as u) s.ended (committed_tx t x.end (words_now s t)) in
        let o = h.once u in
        omega arith
    go u false e =
        let l = count_map (is_preparing_as u) (with_settled x.end) s.stamped (λ y q. still_open (y.id == u) y.settled (y.end == x.end) q) in
        let m = push_no (is_ended_as u) s.ended (committed_tx t x.end (words_now s t)) e in
        let o = h.once u in
        omega arith

pub single_after_abort_of_active : (s : State) (t : ℕ) (r : ActiveTx) → active_of t s.active ≡ Some r → IsSound s → IsSingle s → IsSingle (after_abort_of_active s t)
single_after_abort_of_active s t r f k h = record {
  once = λ u. go u (t == u) refl;
  drawn = each_append (λ u. u.id ≤ s.clock) s.ended (aborted_tx t (words_now s t) ∷ []) h.drawn (let is = eqb-true r.id t found.1 in let d = found.0.drawn in omega arith, tt);
}
  where
    found : IsActive s.base s.stamped s.clock r × (is_active_as t r ≡ true)
    found = active_is s t r f k

    go : (u : ℕ) (b : Bool) → (t == u) ≡ b → how_many (is_active_as u) (without_id t s.active) + (how_many (is_preparing_as u) s.stamped + how_many (is_ended_as u) (s.ended ++ aborted_tx t (words_now s t) ∷ [])) ≤ 1
    go u true e =
        let l = count_filter_out (is_active_as u) (λ q. not (q.id == t)) s.active r (still_active s t u r f e) (ap not found.1) in
        let m = push_yes (is_ended_as u) s.ended (aborted_tx t (words_now s t)) in
        let o = h.once u in
        omega arith
    go u false e =
        let l = count_filter (is_active_as u) (λ q. not (q.id == t)) s.active in
        let m = push_no (is_ended_as u) s.ended (aborted_tx t (words_now s t)) e in
        let o = h.once u in
        omega arith

pub fewer_after_abort_of_preparing : (t u : ℕ) (xs : List StampedTx) (x : StampedTx) → find (is_preparing_as u) xs ≡ Some x → how_many (is_preparing_as u) (map (with_flag t x.end) (filter (not_at x.end) xs)) + 1 ≤ how_many (is_preparing_as u) xs
fewer_after_abort_of_preparing t u xs x f =
    let l = count_map (is_preparing_as u) (with_flag t x.end) (filter (not_at x.end) xs) (λ y q. q) in
    let m = count_filter_out (is_preparing_as u) (not_at x.end) xs x f (ap not (eq-eqb x.end x.end refl)) in
    omega arith

pub single_after_abort_of_preparing : (s : State) (t : ℕ) (x : StampedTx) → preparing_of t s.stamped ≡ Some x → IsSound s → IsSingle s → IsSingle (after_abort_of_preparing s t x.end)
single_after_abort_of_preparing s t x f k h = record {
  once = λ u. go u (t == u) refl;
  drawn = each_append (λ u. u.id ≤ s.clock) s.ended (aborted_tx t (words_now s t) ∷ []) h.drawn (drawn_preparing s t x f k, tt);
}
  where
    go : (u : ℕ) (b : Bool) → (t == u) ≡ b → how_many (is_active_as u) (map (active_with_flag t x.end) s.active) + (how_many (is_preparing_as u) (map (with_flag t x.end) (filter (not_at x.end) s.stamped)) + how_many (is_ended_as u) (s.ended ++ aborted_tx t (words_now s t) ∷ [])) ≤ 1
    go u true e =
        let a = count_map (is_active_as u) (active_with_flag t x.end) s.active (λ r q. q) in
        let l = fewer_after_abort_of_preparing t u s.stamped x (still_preparing s t u x f e) in
        let m = push_yes (is_ended_as u) s.ended (aborted_tx t (words_now s t)) in
        let o = h.once u in
        omega arith
    go u false e =
        let a = count_map (is_active_as u) (active_with_flag t x.end) s.active (λ r q. q) in
        let l = count_map (is_preparing_as u) (with_flag t x.end) (filter (not_at x.end) s.stamped) (λ y q. q) in
        let n = count_filter (is_preparing_as u) (not_at x.end) s.stamped in
        let m = push_no (is_ended_as u) s.ended (aborted_tx t (words_now s t)) e in
        let o = h.once u in
        omega arith

-- ---- leaving
count_without : (t u : ℕ) (us : List EndedTx) → how_many (is_ended_as u) (without_ended t us) ≤ how_many (is_ended_as u) us
count_without t u [] = omega arith
count_without t u (w ∷ ws) = go (w.id == t) (count_without t u ws)
  where
    go : (b : Bool) → how_many (is_ended_as u) (without_ended t ws) ≤ how_many (is_ended_as u) ws → how_many (is_ended_as u) (cond b ws (w ∷ without_ended t ws)) ≤ how_many (is_ended_as u) (w ∷ ws)
    go true l = omega arith
    go false l = omega arith

pub each_without : (P : EndedTx → Type 0) (t : ℕ) (us : List EndedTx) → AllByRecursion P us → AllByRecursion P (without_ended t us)
each_without P t [] h = tt
each_without P t (w ∷ ws) h = go (w.id == t) (each_without P t ws h.1)
  where
    go : (b : Bool) → AllByRecursion P (without_ended t ws) → AllByRecursion P (cond b ws (w ∷ without_ended t ws))
    go true r = h.1
    go false r = (h.0, r)

pub single_after_termination : (s : State) (t : ℕ) → IsSingle s → IsSingle (after_termination s t)
single_after_termination s t h = record {
  once = λ u. let l = count_without t u s.ended in let o = h.once u in omega arith;
  drawn = each_without (λ u. u.id ≤ s.clock) t s.ended h.drawn;
}
