-- Works that were all made on this core: each call that it may come to keeps them so.
use Rattle.std.proofs.Common.{ne_eqb, ◌≡◌, ◌≢◌, ℕ, ◌+◌, ◌<◌, Bool, true, false, cond, not, List, [], ◌∷◌, ◌++◌, Option, None, Some, map, refl, sym, ap, ◌∙◌, subst, arith}
use Rattle.std.specs.Prelude.{◌==◌, is_some}
use Rattle.std.specs.FinMap as fin
use Rattle.std.proofs.lemmas.Bool.{false≢true, true≢false, eqb-true, eq-eqb}
use Rattle.mvo_types.specs.declared.op.Op.{Op}
use Rattle.mvo_types.specs.declared.op.Op.TheVariants.{Read, Scan, Insert, Update, Delete}
use Rattle.mvo_types.specs.AnswerData.{AnswerData}
use Rattle.mvo_types.specs.AnswerData.AnswerData.{Exists, Inserted, Updated, Absent}
use Rattle.mvo_types.specs.Keys.{Map}
use Rattle.mvo_types.specs.Write.{Write}
use Rattle.mvo_model.specs.Serial.{answer_to}
use Rattle.mvo_model.specs.History.{write_of, after_history}
use Rattle.mvo_theory.specs.State.{State, ActiveTx, StampedTx, Claim, active_of, seen_by, snapshot}
use Rattle.mvo_theory.specs.Ranges.{changed_by}
use Rattle.mvo_theory.specs.Dependencies.{dependencies}
use Rattle.mvo_theory.specs.Claims.{new_claim, claims_with, ended_key}
use Rattle.mvo_theory.specs.Changes.{new_active, seen_now, taken_over, after_operation, after_answer, with_answer, to_stamped, after_prepare}
use Rattle.mvo_theory.specs.Sound.{IsActive, IsPlaced, IsSound, IsNumbered}
use Rattle.mvo_theory.specs.Calls.{answer_in}
use Rattle.mvo_theory.proofs.Each.{each_weaker, each_both, each_append, each_map, each_filter}
use Rattle.mvo_theory.proofs.Stamped.{IsLike}
use Rattle.mvo_theory.proofs.Who.{active_holds}
use Rattle.mvo_theory.proofs.Kept.{sees, only_one}
use Rattle.mvo_shared.specs.Kept.{WorkContent, after_op}
use Rattle.mvo_shared.specs.Shared.{TakenWork, AllTaken, looked_of, with_taken, AreSeen, IsOwnWork, WorksById, AreOwnWorks, with_work, with_dependencies, after_registering}
use Rattle.mvo_shared.specs.Given.{rows_to, answer_given, core_op, after_core_op, after_do_given}
use Rattle.mvo_shared.specs.Held.{empty_work}
use Rattle.mvo_shared.proofs.Seen.{seen_last, seen_map}
use Rattle.mvo_shared.proofs.Told.{taken_other, taken_there}
use Rattle.mvo_shared.proofs.Own.{own_after_look, own_after_write, own_begun, own_last, own_map, own_prepared}

abbrev pub IsSeenTaken : State → AllTaken → StampedTx → Type 0
IsSeenTaken s all x = x.settled ≡ false → x.aborted_dependency ≡ None → AreSeen s.base s.stamped x.id x.depends_on (looked_of (all x.end))

abbrev pub IsOwnActive : State → WorksById → ActiveTx → Type 0
IsOwnActive s works r = IsOwnWork s.base s.stamped r (works r.id)

-- ---- begin
with_other : (works : WorksById) (t : ℕ) (w : WorkContent) (n : ℕ) → n ≢ t → with_work works t w n ≡ works n
with_other works t w n h = ap (λ (b : Bool). cond b w (works n)) (ne_eqb n t h)

with_there : (works : WorksById) (t : ℕ) (w : WorkContent) → with_work works t w t ≡ w
with_there works t w = ap (λ (b : Bool). cond b w (works t)) (eq-eqb t t refl)

pub own_after_begin : (s : State) (all : AllTaken) (works : WorksById) (t : ℕ) → s.clock < t → IsSound s → AreOwnWorks s all works → AreOwnWorks (record s { clock = t; active = s.active ++ new_active t ∷ [] }) all (with_work works t empty_work)
own_after_begin s all works t lt sound h = record {
  active = each_append (IsOwnActive s (with_work works t empty_work)) s.active (new_active t ∷ [])
      (each_both (IsActive s.base s.stamped s.clock) (IsOwnActive s works) (IsOwnActive s (with_work works t empty_work)) (λ r a q. subst (IsOwnWork s.base s.stamped r) (sym (with_other works t empty_work r.id (λ e. absurd (let d = a.drawn in omega arith)))) q) s.active sound.active h.active)
      (subst (IsOwnWork s.base s.stamped (new_active t)) (sym (with_there works t empty_work)) (own_begun s.base s.stamped t), tt);
  preparing = h.preparing;
}

-- ---- an operation
own_over : (c : Option Claim) (s : State) (all : AllTaken) (works : WorksById) → AreOwnWorks s all works → AreOwnWorks (taken_over c s) all works
own_over None s all works h = h
own_over (Some c) s all works h = record { active = h.active; preparing = h.preparing }

pub own_after_registering : (s : State) (all : AllTaken) (works : WorksById) (t : ℕ) (op : Op) → is_some (write_of op (answer_given s t (works t) op)) ≡ false → IsSound s → AreOwnWorks s all works → AreOwnWorks (after_registering s t op) all (with_work works t (after_op (works t) op (rows_to s t op)))
own_after_registering s all works t op silent sound h = record {
  active = each_map (with_dependencies s t op) (λ r. IsActive s.base s.stamped s.clock r × IsOwnActive s works r) (IsOwnActive s more) (λ r p. one r (r.id == t) refl p.0 p.1) s.active
      (each_both (IsActive s.base s.stamped s.clock) (IsOwnActive s works) (λ r. IsActive s.base s.stamped s.clock r × IsOwnActive s works r) (λ r a q. (a, q)) s.active sound.active h.active);
  preparing = h.preparing;
}
  where
    more : WorksById
    more = with_work works t (after_op (works t) op (rows_to s t op))

    no_write : (b : Option Write) → is_some b ≡ false → b ≡ None
    no_write None e = refl
    no_write (Some v) e = absurd (true≢false e)

    one : (r : ActiveTx) (b : Bool) → r.id == t ≡ b → IsActive s.base s.stamped s.clock r → IsOwnActive s works r → IsOwnWork s.base s.stamped (record r { depends_on = cond b (dependencies s op r) r.depends_on }) (cond b (after_op (works t) op (rows_to s t op)) (works r.id))
    one r false e a q = record { work = q.work; writes = q.writes; seen = q.seen }
    one r true e a q =
        let is = eqb-true r.id t e in
        subst (λ (u : ℕ). IsOwnWork s.base s.stamped (record r { depends_on = dependencies s op r }) (after_op (works u) op (rows_to s u op))) is
        (own_after_look s r (works r.id) op (no_write (write_of op (answer_given s r.id (works r.id) op)) (subst (λ (u : ℕ). is_some (write_of op (answer_given s u (works u) op)) ≡ false) (sym is) silent)) a q)

pub own_after_operation : (s : State) (all : AllTaken) (works : WorksById) (t : ℕ) (op : Op) (r : ActiveTx) → active_of t s.active ≡ Some r → r.aborted_dependency ≡ None → IsNumbered s → IsSound s → AreOwnWorks s all works → AreOwnWorks (after_operation s t op (answer_in s t op)) all (with_work works t (after_op (works t) op (rows_to s t op)))
own_after_operation s all works t op r f unflagged numbered sound h = record {
  active = each_map (with_answer s t op (answer_in s t op)) (λ q. (IsActive s.base s.stamped s.clock q × IsOwnActive s works q) × ((q.id ≡ t → q.aborted_dependency ≡ None) × (q.id ≡ t → snapshot s t ≡ after_history q.history (seen_by s.base s.stamped q.id)))) (IsOwnActive s more) (λ q p. one q (q.id == t) refl p.0.0 p.0.1 p.1.0 p.1.1) s.active
      (each_both (λ q. IsActive s.base s.stamped s.clock q × IsOwnActive s works q) (λ q. (q.id ≡ t → q.aborted_dependency ≡ None) × (q.id ≡ t → snapshot s t ≡ after_history q.history (seen_by s.base s.stamped q.id))) (λ q. (IsActive s.base s.stamped s.clock q × IsOwnActive s works q) × ((q.id ≡ t → q.aborted_dependency ≡ None) × (q.id ≡ t → snapshot s t ≡ after_history q.history (seen_by s.base s.stamped q.id)))) (λ q a b. (a, b)) s.active
      (each_both (IsActive s.base s.stamped s.clock) (IsOwnActive s works) (λ q. IsActive s.base s.stamped s.clock q × IsOwnActive s works q) (λ q a b. (a, b)) s.active sound.active h.active)
      (each_both (λ (q : ActiveTx). q.id ≡ t → q ≡ r) (λ (q : ActiveTx). q.id ≡ t → snapshot s t ≡ after_history q.history (seen_by s.base s.stamped q.id)) (λ q. (q.id ≡ t → q.aborted_dependency ≡ None) × (q.id ≡ t → snapshot s t ≡ after_history q.history (seen_by s.base s.stamped q.id))) (λ q a b. (λ i. ap (λ (v : ActiveTx). v.aborted_dependency) (a i) ∙ unflagged, b)) s.active (only_one t s.active r f numbered.distinct) (sees s t numbered)));
  preparing = h.preparing;
}
  where
    more : WorksById
    more = with_work works t (after_op (works t) op (rows_to s t op))

    one : (q : ActiveTx) (b : Bool) → q.id == t ≡ b → IsActive s.base s.stamped s.clock q → IsOwnActive s works q → (q.id ≡ t → q.aborted_dependency ≡ None) → (q.id ≡ t → snapshot s t ≡ after_history q.history (seen_by s.base s.stamped q.id)) →
        IsOwnWork s.base s.stamped (record {
          id = q.id;
          history = cond b (q.history ++ (op, answer_in s t op) ∷ []) q.history;
          footprint = cond b (q.footprint ++ changed_by (write_of op (answer_in s t op)) (seen_now s q)) q.footprint;
          claims = cond b (claims_with s q (ended_key op (answer_in s t op))) q.claims;
          depends_on = cond b (dependencies s op q) q.depends_on;
          aborted_dependency = q.aborted_dependency;
        }) (cond b (after_op (works t) op (rows_to s t op)) (works q.id))
    one q false e a w n m = record { work = w.work; writes = w.writes; seen = w.seen }
    one q true e a w n m =
        let is = eqb-true q.id t e in
        let rs = q.footprint ++ changed_by (write_of op (answer_in s t op)) (seen_now s q) in
        let cs = claims_with s q (ended_key op (answer_in s t op)) in
        subst (λ (u : ℕ). IsOwnWork s.base s.stamped (record {
          id = q.id;
          history = q.history ++ (op, answer_in s t op) ∷ [];
          footprint = rs;
          claims = cs;
          depends_on = dependencies s op q;
          aborted_dependency = q.aborted_dependency;
        }) (after_op (works u) op (rows_to s u op))) is
        (subst (λ (v : AnswerData). IsOwnWork s.base s.stamped (record {
          id = q.id;
          history = q.history ++ (op, v) ∷ [];
          footprint = rs;
          claims = cs;
          depends_on = dependencies s op q;
          aborted_dependency = q.aborted_dependency;
        }) (after_op (works q.id) op (rows_to s q.id op))) (sym (ap (answer_to op) (m is)))
        (own_after_write s q (works q.id) op rs cs (n is) a w))

-- where the serial step writes on the core's own rows, the core does just that operation
pub core_op_same : (m : Map) (op : Op) → is_some (write_of op (answer_to op m)) ≡ true → core_op m op ≡ op
core_op_same m (Read k) h = refl
core_op_same m (Scan table lo hi) h = refl
core_op_same m (Insert row) h = go (fin.contains_key m row.key) h
  where
    go : (b : Bool) → is_some (write_of (Insert row) (cond b Exists Inserted)) ≡ true → ◌≡◌ {A = Op} (cond b (Update row) (Insert row)) (Insert row)
    go true e = absurd (false≢true e)
    go false e = refl
core_op_same m (Update row) h = go (fin.contains_key m row.key) h
  where
    go : (b : Bool) → is_some (write_of (Update row) (cond b Updated Absent)) ≡ true → ◌≡◌ {A = Op} (cond b (Update row) (Insert row)) (Update row)
    go true e = refl
    go false e = absurd (false≢true e)
core_op_same m (Delete k) h = refl

pub own_after_do : (s : State) (all : AllTaken) (works : WorksById) (t : ℕ) (op : Op) (r : ActiveTx) → active_of t s.active ≡ Some r → r.aborted_dependency ≡ None → answer_given s t (works t) op ≡ answer_in s t op → IsNumbered s → IsSound s → AreOwnWorks s all works → AreOwnWorks (after_do_given s t (works t) op) all (with_work works t (after_op (works t) op (rows_to s t op)))
own_after_do s all works t op r f unflagged told numbered sound h = go (is_some (write_of op (answer_given s t (works t) op))) refl
  where
    more : WorksById
    more = with_work works t (after_op (works t) op (rows_to s t op))

    own : Op
    own = core_op (snapshot s t) op

    writes : (b : Bool) → is_some (write_of op (answer_in s t op)) ≡ b → b ≡ true → AreOwnWorks (cond b (after_answer s t op (answer_in s t op)) (after_registering s t op)) all more
    writes false e g = absurd (false≢true g)
    writes true e g = own_over (new_claim s t op (answer_in s t op)) (after_operation s t op (answer_in s t op)) all more (own_after_operation s all works t op r f unflagged numbered sound h)

    go : (b : Bool) → is_some (write_of op (answer_given s t (works t) op)) ≡ b → AreOwnWorks (cond b (after_core_op s t own (answer_in s t own)) (after_registering s t op)) all more
    go false e = own_after_registering s all works t op e sound h
    go true e =
        let w : is_some (write_of op (answer_in s t op)) ≡ true = sym (ap (λ a. is_some (write_of op a)) told) ∙ e in
        subst (λ (o : Op). AreOwnWorks (after_core_op s t o (answer_in s t o)) all more) (sym (core_op_same (snapshot s t) op w)) (writes (is_some (write_of op (answer_in s t op))) refl w)

-- ---- precommit
pub own_after_prepare : (s : State) (all : AllTaken) (works : WorksById) (t : ℕ) (r : ActiveTx) → active_of t s.active ≡ Some r → r.aborted_dependency ≡ None → IsSound s → AreOwnWorks s all works → AreOwnWorks (after_prepare s r (s.clock + 1)) (with_taken all (s.clock + 1) (record { work = works t; checked = 0 })) works
own_after_prepare s all works t r f unflagged sound h =
    let e = s.clock + 1 in
    let y = to_stamped e r in
    let new : TakenWork = record { work = works t; checked = 0 } in
    let more = with_taken all e new in
    let mine = active_holds (λ q. IsActive s.base s.stamped s.clock q) t s.active r f sound.active in
    let own = active_holds (IsOwnActive s works) t s.active r f h.active in
    record {
      active = each_filter (λ q. not (q.id == r.id)) (λ q. IsActive s.base s.stamped s.clock q × IsOwnActive s works q) (λ q. IsOwnWork s.base (s.stamped ++ y ∷ []) q (works q.id)) (λ q _ p. own_last s.base s.stamped y q (works q.id) (let d = p.0.drawn in omega arith) p.1) s.active
          (each_both (IsActive s.base s.stamped s.clock) (IsOwnActive s works) (λ q. IsActive s.base s.stamped s.clock q × IsOwnActive s works q) (λ q a b. (a, b)) s.active sound.active h.active);
      preparing = each_append (λ x. x.settled ≡ false → x.aborted_dependency ≡ None → AreSeen s.base (s.stamped ++ y ∷ []) x.id x.depends_on (looked_of (more x.end))) s.stamped (y ∷ [])
          (each_both (IsPlaced s.stamped s.clock) (IsSeenTaken s all) (λ x. x.settled ≡ false → x.aborted_dependency ≡ None → AreSeen s.base (s.stamped ++ y ∷ []) x.id x.depends_on (looked_of (more x.end)))
          (λ x p q o d. subst (λ (w : TakenWork). AreSeen s.base (s.stamped ++ y ∷ []) x.id x.depends_on (looked_of w)) (sym (taken_other all e new x.end (λ is. absurd (let dr = p.drawn in omega arith)))) (seen_last s.base s.stamped y x.id x.depends_on (looked_of (all x.end)) (let b = p.begun in let dr = p.drawn in omega arith) (q o d))) s.stamped sound.placed h.preparing)
          (λ o d. subst (λ (w : TakenWork). AreSeen s.base (s.stamped ++ y ∷ []) r.id r.depends_on (looked_of w)) (sym (taken_there all e new)) (own_prepared s.base s.stamped e r (works t) (let d = mine.0.drawn in omega arith) (subst (λ (n : ℕ). IsOwnWork s.base s.stamped r (works n)) own.1 own.0) unflagged), tt);
    }

-- ---- a change of each that keeps what others see, where the looks that were taken in are the same
pub own_mapped : (f : StampedTx → StampedTx) → IsLike f → (s : State) (all more : AllTaken) (works : WorksById) → ((x : StampedTx) → looked_of (more (f x).end) ≡ looked_of (all x.end)) → ((x : StampedTx) → (f x).settled ≡ false → x.settled ≡ false) → ((x : StampedTx) → (f x).aborted_dependency ≡ x.aborted_dependency) → ((x : StampedTx) → (f x).id ≡ x.id) → ((x : StampedTx) → (f x).depends_on ≡ x.depends_on) → AreOwnWorks s all works → AreOwnWorks (record s { stamped = map f s.stamped }) more works
own_mapped f l s all more works same open_ flags ids depends h = record {
  active = each_weaker (IsOwnActive s works) (λ r. IsOwnWork s.base (map f s.stamped) r (works r.id)) (λ r q. own_map f l s.base s.stamped r (works r.id) q) s.active h.active;
  preparing = each_map f (IsSeenTaken s all) (λ x. x.settled ≡ false → x.aborted_dependency ≡ None → AreSeen s.base (map f s.stamped) x.id x.depends_on (looked_of (more x.end)))
      (λ x q o d. subst (λ (i : ℕ). AreSeen s.base (map f s.stamped) i (f x).depends_on (looked_of (more (f x).end))) (sym (ids x)) (subst (λ (ds : List ℕ). AreSeen s.base (map f s.stamped) x.id ds (looked_of (more (f x).end))) (sym (depends x)) (subst (λ looked. AreSeen s.base (map f s.stamped) x.id x.depends_on looked) (sym (same x)) (seen_map f l s.base s.stamped x.id x.depends_on (looked_of (all x.end)) (q (open_ x o) (sym (flags x) ∙ d)))))) s.stamped h.preparing;
}
