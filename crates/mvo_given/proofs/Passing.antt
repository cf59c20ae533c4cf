-- What each call of the core of the others leaves to those that it doesn't name, whatever works it is given.
use Rattle.std.proofs.Common.{◌≡◌, ◌≢◌, ℕ, ◌+◌, ◌<◌, ◌≤◌, Bool, true, false, cond, not, List, [], ◌∷◌, ◌++◌, Option, None, Some, map, refl, sym, ap, ◌∙◌, subst, ne_eqb, arith}
use Rattle.std.specs.Prelude.{◌==◌, ◌&&◌, is_some, nat_lt}
use Rattle.std.specs.List.{AllByRecursion, filter}
use Rattle.std.specs.Option.{option_map}
use Rattle.std.proofs.lemmas.Bool.{true≢false, eqb-true}
use Rattle.mvo_types.specs.declared.op.Op.{Op}
use Rattle.mvo_types.specs.declared.refusal.Refusal.{Refusal}
use Rattle.mvo_types.specs.Keys.{Map}
use Rattle.mvo_types.specs.AnswerData.{AnswerData}
use Rattle.mvo_model.specs.History.{History, write_of}
use Rattle.mvo_theory.specs.Entries.{entry_of}
use Rattle.mvo_theory.specs.State.{State, ActiveTx, StampedTx, Claim, active_of, preparing_of, snapshot, timeline}
use Rattle.mvo_theory.specs.Dependencies.{has_end, dependencies, keys_for, unwritten}
use Rattle.mvo_theory.specs.Claims.{new_claim}
use Rattle.mvo_theory.specs.Words.{words_left, is_done}
use Rattle.mvo_theory.specs.Changes.{new_active, after_begin, with_answer, after_operation, taken_over, after_answer, without_id, to_stamped, with_settled, after_commit, with_flag, active_with_flag, not_at, after_termination, with_words, after_finish, after_trim, after_close}
use Rattle.mvo_theory.specs.Causes.{awaited, awaited_by, waiting_for, is_failure, why_not_settle}
use Rattle.mvo_theory.specs.Steps.{after_precommit_of, after_precommit, after_commit_of, after_settle_unless, after_settle, after_abort_of, after_abort, after_refusal}
use Rattle.mvo_theory.specs.Sound.{IsApart, IsActive, IsRising, IsLegal, IsPast, IsSound}
use Rattle.mvo_theory.specs.Calls.{Call, answer_in, after_refused}
use Rattle.mvo_theory.specs.Calls.Call.{Begin, Do, Precommit, Validate, Settle, Rollback, Finish, Trim, Close}
use Rattle.mvo_theory.proofs.Each.{each_weaker, each_both, each_append, each_map, each_filter}
use Rattle.mvo_theory.proofs.AfterTrace.{alone_open, rising_all}
use Rattle.mvo_theory.proofs.Commits.{split_at, free_settled}
use Rattle.mvo_theory.proofs.Settle.{rising_before, rising_after}
use Rattle.mvo_theory.proofs.Tales.{legal_append}
use Rattle.mvo_theory.proofs.Trim.{IsTrim, timeline_trimmed}
use Rattle.mvo_theory.proofs.Trimmed.{may_trim}
use Rattle.mvo_theory.proofs.Who.{preparing_settled, id_of}
use Rattle.mvo_theory.proofs.Depends.{depends_more}
use Rattle.mvo_theory.proofs.Stamped.{IsLike}
use Rattle.mvo_theory.proofs.Ends.{like_settled, spared}
use Rattle.mvo_shared.specs.Kept.{Looked, WorkContent}
use Rattle.mvo_shared.specs.Shared.{AreSeen, with_dependencies, after_registering, with_valid, after_valid}
use Rattle.mvo_shared.specs.Given.{GivenState, answer_given, why_not_given, core_op, after_core_op, after_do_given, one_more_checked, is_last_look, after_check_given, after_took}
use Rattle.mvo_shared.specs.Given.GivenRefusal.{Because}
use Rattle.mvo_shared.specs.Held.{IsHeldGiven}
use Rattle.mvo_shared.proofs.Seen.{seen_last, seen_map, seen_aborted, seen_to, seen_more}
use Rattle.mvo_shared.proofs.Valid.{apart_valid}
use Rattle.mvo_readonly.specs.ReadAt.{settled_before, IsReadAt}
use Rattle.mvo_readonly.specs.Whole.{id_named}
use Rattle.mvo_readonly.proofs.Timeline.{seen_back, read_prepared, read_settled}
use Rattle.mvo_readonly.proofs.Growing.{grows_aborted}
use Rattle.mvo_given.specs.WholeHeld.{IsActiveReader, AreFoundFor}

-- ---- who is Active
here_append : (u : ℕ) (rs qs : List ActiveTx) → is_some (active_of u rs) ≡ true → is_some (active_of u (rs ++ qs)) ≡ true
here_append u [] qs e = absurd (true≢false (sym e))
here_append u (r ∷ rs) qs e = go (r.id == u) e (here_append u rs qs)
  where
    go : (b : Bool) → is_some (cond b (Some r) (active_of u rs)) ≡ true → (is_some (active_of u rs) ≡ true → is_some (active_of u (rs ++ qs)) ≡ true) → is_some (cond b (Some r) (active_of u (rs ++ qs))) ≡ true
    go true f k = refl
    go false f k = k f

here_map : (f : ActiveTx → ActiveTx) → ((r : ActiveTx) → (f r).id ≡ r.id) → (u : ℕ) (rs : List ActiveTx) → is_some (active_of u (map f rs)) ≡ is_some (active_of u rs)
here_map f same u [] = refl
here_map f same u (r ∷ rs) = ap (λ (n : ℕ). is_some (cond (n == u) (Some (f r)) (active_of u (map f rs)))) (same r) ∙ go (r.id == u) (here_map f same u rs)
  where
    go : (b : Bool) → is_some (active_of u (map f rs)) ≡ is_some (active_of u rs) → is_some (cond b (Some (f r)) (active_of u (map f rs))) ≡ is_some (cond b (Some r) (active_of u rs))
    go true e = refl
    go false e = e

here_without : (u t : ℕ) → u ≢ t → (rs : List ActiveTx) → is_some (active_of u (without_id t rs)) ≡ is_some (active_of u rs)
here_without u t n [] = refl
here_without u t n (r ∷ rs) = go (r.id == t) (r.id == u) refl refl (here_without u t n rs)
  where
    go : (a b : Bool) → r.id == t ≡ a → r.id == u ≡ b → is_some (active_of u (without_id t rs)) ≡ is_some (active_of u rs) → is_some (active_of u (cond (not a) (r ∷ without_id t rs) (without_id t rs))) ≡ is_some (cond b (Some r) (active_of u rs))
    go true true e f k = absurd (n (sym (eqb-true r.id u f) ∙ eqb-true r.id t e))
    go true false e f k = k
    go false true e f k = ap (λ (b : Bool). is_some (cond b (Some r) (active_of u (without_id t rs)))) f
    go false false e f k = ap (λ (b : Bool). is_some (cond b (Some r) (active_of u (without_id t rs)))) f ∙ k

-- ---- what a step leaves
pub record Passes (opening : Map) (s s' : State) : Type 0 where
  pub clock : s.clock ≤ s'.clock
  pub read : (b : ℕ) (ts : History) → b ≤ s.clock → IsReadAt opening (timeline s) b ts → IsReadAt opening (timeline s') b ts
  pub gone : (u : ℕ) → u ≤ s.clock → AllByRecursion (λ (r : ActiveTx). r.id ≢ u) s.active → AllByRecursion (λ (r : ActiveTx). r.id ≢ u) s'.active
  pub found : (u : ℕ) (looked : List Looked) → u ≤ s.clock → AreFoundFor s u looked → AreFoundFor s' u looked

-- and to those that it isn't of
abbrev pub Spares : Option ℕ → State → State → Type 0
Spares v s s' = (u : ℕ) → (v ≡ Some u → ⊥) → IsActiveReader s u → IsActiveReader s' u

abbrev pub Leaves : Map → Option ℕ → State → State → Type 0
Leaves opening v s s' = Passes opening s s' × Spares v s s'

leaves_same : (opening : Map) (v : Option ℕ) (s : State) → Leaves opening v s s
leaves_same opening v s = (record { clock = omega arith; read = λ b ts l h. h; gone = λ u l h. h; found = λ u looked l h. h }, λ u n h. h)

-- where those with an end and who is Active stay
leaves_alike : (opening : Map) (v : Option ℕ) (s s' : State) → s'.clock ≡ s.clock → s'.base ≡ s.base → s'.past ≡ s.past → s'.stamped ≡ s.stamped → s'.active ≡ s.active → Leaves opening v s s'
leaves_alike opening v s s' c b p st a = (
  record {
    clock = omega arith;
    read = λ n ts l h. subst (λ ys. IsReadAt opening (s'.past ++ ys) n ts) (sym st) (subst (λ xs. IsReadAt opening (xs ++ s.stamped) n ts) (sym p) h);
    gone = λ u l h. subst (AllByRecursion (λ (r : ActiveTx). r.id ≢ u)) (sym a) h;
    found = λ u looked l h.
        subst (AllByRecursion (λ (r : ActiveTx). r.id ≡ u → r.aborted_dependency ≡ None → AreSeen s'.base s'.stamped r.id r.depends_on looked)) (sym a)
        (subst (λ (m : Map). AllByRecursion (λ (r : ActiveTx). r.id ≡ u → r.aborted_dependency ≡ None → AreSeen m s'.stamped r.id r.depends_on looked) s.active) (sym b)
        (subst (λ (ys : List StampedTx). AllByRecursion (λ (r : ActiveTx). r.id ≡ u → r.aborted_dependency ≡ None → AreSeen s.base ys r.id r.depends_on looked) s.active) (sym st) h));
  },
  λ u n h. record { here = ap (λ rs. is_some (active_of u rs)) a ∙ h.here; idle = subst (AllByRecursion (λ (r : ActiveTx). r.id ≡ u → r.history ≡ [])) (sym a) h.idle },
)

-- ---- begin
leaves_begun : (opening : Map) (v : Option ℕ) (s : State) → Leaves opening v s (after_begin s (s.clock + 1))
leaves_begun opening v s = (
  record {
    clock = omega arith;
    read = λ b ts l h. h;
    gone = λ u l h. each_append (λ (r : ActiveTx). r.id ≢ u) s.active (new_active (s.clock + 1) ∷ []) h ((λ e. absurd (omega arith)), tt);
    found = λ u looked l h. each_append (λ (r : ActiveTx). r.id ≡ u → r.aborted_dependency ≡ None → AreSeen s.base s.stamped r.id r.depends_on looked) s.active (new_active (s.clock + 1) ∷ []) h ((λ e d. absurd (omega arith)), tt);
  },
  λ u n h. record { here = here_append u s.active (new_active (s.clock + 1) ∷ []) h.here; idle = each_append (λ (r : ActiveTx). r.id ≡ u → r.history ≡ []) s.active (new_active (s.clock + 1) ∷ []) h.idle ((λ e. refl), tt) },
)

-- ---- an operation
record IsMore (f : ActiveTx → ActiveTx) : Type 0 where
  same : (r : ActiveTx) → (f r).id ≡ r.id
  flag : (r : ActiveTx) → (f r).aborted_dependency ≡ r.aborted_dependency
  more : (r : ActiveTx) (d : ℕ) → has_end r.depends_on d ≡ true → has_end (f r).depends_on d ≡ true

passes_more : (opening : Map) (s : State) (f : ActiveTx → ActiveTx) → IsMore f → Passes opening s (record s { active = map f s.active })
passes_more opening s f m = record {
  clock = omega arith;
  read = λ b ts l h. h;
  gone = λ u l h. each_map f (λ (r : ActiveTx). r.id ≢ u) (λ (r : ActiveTx). r.id ≢ u) (λ r n e. n (sym (m.same r) ∙ e)) s.active h;
  found = λ u looked l h. each_map f (λ (r : ActiveTx). r.id ≡ u → r.aborted_dependency ≡ None → AreSeen s.base s.stamped r.id r.depends_on looked) (λ (r : ActiveTx). r.id ≡ u → r.aborted_dependency ≡ None → AreSeen s.base s.stamped r.id r.depends_on looked)
      (λ r k e d. subst (λ (n : ℕ). AreSeen s.base s.stamped n (f r).depends_on looked) (sym (m.same r)) (seen_more s.base s.stamped r.id r.depends_on (f r).depends_on looked (m.more r) (k (sym (m.same r) ∙ e) (sym (m.flag r) ∙ d)))) s.active h;
}

more_if : (s : State) (t : ℕ) (op : Op) (r : ActiveTx) (b : Bool) (d : ℕ) → has_end r.depends_on d ≡ true → has_end (cond b (dependencies s op r) r.depends_on) d ≡ true
more_if s t op r true d h = depends_more r.depends_on (unwritten r.history (keys_for (entry_of op) r.id s.base s.stamped)) r.id s.stamped d h
more_if s t op r false d h = h

-- a look that registers is no matter to anyone
pub leaves_registered : (opening : Map) (s : State) (t : ℕ) (op : Op) → Leaves opening None s (after_registering s t op)
leaves_registered opening s t op = (
  passes_more opening s (with_dependencies s t op) (record { same = λ r. refl; flag = λ r. refl; more = λ r d h. more_if s t op r (r.id == t) d h }),
  λ u n h. record { here = here_map (with_dependencies s t op) (λ r. refl) u s.active ∙ h.here; idle = each_map (with_dependencies s t op) (λ (r : ActiveTx). r.id ≡ u → r.history ≡ []) (λ (r : ActiveTx). r.id ≡ u → r.history ≡ []) (λ r k e. k e) s.active h.idle },
)

leaves_operation : (opening : Map) (s : State) (t : ℕ) (op : Op) (a : AnswerData) → Leaves opening (Some t) s (after_operation s t op a)
leaves_operation opening s t op a = (
  passes_more opening s (with_answer s t op a) (record { same = λ r. refl; flag = λ r. refl; more = λ r d h. more_if s t op r (r.id == t) d h }),
  λ u n h. record {
    here = here_map (with_answer s t op a) (λ r. refl) u s.active ∙ h.here;
    idle = each_map (with_answer s t op a) (λ (r : ActiveTx). r.id ≡ u → r.history ≡ []) (λ (r : ActiveTx). r.id ≡ u → r.history ≡ [])
        (λ r k e. ap (λ (b : Bool). cond b (r.history ++ (op, a) ∷ []) r.history) (ne_eqb r.id t (λ i. n (ap Some (sym i ∙ e)))) ∙ k e) s.active h.idle;
  },
)

leaves_over : (opening : Map) (v : Option ℕ) (c : Option Claim) (s q : State) → Leaves opening v s q → Leaves opening v s (taken_over c q)
leaves_over opening v None s q h = h
leaves_over opening v (Some c) s q h = (record { clock = h.0.clock; read = h.0.read; gone = h.0.gone; found = h.0.found }, λ u n k. let i = h.1 u n k in record { here = i.here; idle = i.idle })

leaves_answered : (opening : Map) (s : State) (t : ℕ) (op : Op) (a : AnswerData) → Leaves opening (Some t) s (after_answer s t op a)
leaves_answered opening s t op a = leaves_over opening (Some t) (new_claim s t op a) s (after_operation s t op a) (leaves_operation opening s t op a)

spares_some : (t : ℕ) (s s' : State) → Spares None s s' → Spares (Some t) s s'
spares_some t s s' k u n h = k u (λ e. absurd cc) h

leaves_do : (opening : Map) (s : State) (t : ℕ) (w : WorkContent) (op : Op) → Leaves opening (Some t) s (after_do_given s t w op)
leaves_do opening s t w op = told (is_some (write_of op (answer_given s t w op)))
  where
    own : Op
    own = core_op (snapshot s t) op

    quiet : (o : Op) → Leaves opening (Some t) s (after_registering s t o)
    quiet o = let k = leaves_registered opening s t o in (k.0, spares_some t s (after_registering s t o) k.1)

    writes : (b : Bool) → Leaves opening (Some t) s (cond b (after_answer s t own (answer_in s t own)) (after_registering s t own))
    writes true = leaves_answered opening s t own (answer_in s t own)
    writes false = quiet own

    told : (b : Bool) → Leaves opening (Some t) s (cond b (after_core_op s t own (answer_in s t own)) (after_registering s t op))
    told true = writes (is_some (write_of own (answer_in s t own)))
    told false = quiet op

-- ---- precommit
leaves_prepared : (opening : Map) (s : State) (t : ℕ) → Leaves opening (Some t) s (after_precommit s t)
leaves_prepared opening s t = go (active_of t s.active) refl
  where
    go : (v : Option ActiveTx) → active_of t s.active ≡ v → Leaves opening (Some t) s (after_precommit_of s v)
    go None e = leaves_same opening (Some t) s
    go (Some r) e =
        let y = to_stamped (s.clock + 1) r in (
          record {
            clock = omega arith;
            read = λ b ts l h. read_prepared opening s.past s.stamped y b ts (omega arith) h;
            gone = λ u l h. each_filter (λ (q : ActiveTx). not (q.id == r.id)) (λ (q : ActiveTx). q.id ≢ u) (λ (q : ActiveTx). q.id ≢ u) (λ q _ n. n) s.active h;
            found = λ u looked l h. each_filter (λ (q : ActiveTx). not (q.id == r.id)) (λ (q : ActiveTx). q.id ≡ u → q.aborted_dependency ≡ None → AreSeen s.base s.stamped q.id q.depends_on looked) (λ (q : ActiveTx). q.id ≡ u → q.aborted_dependency ≡ None → AreSeen s.base (s.stamped ++ y ∷ []) q.id q.depends_on looked)
                (λ q _ k i d. seen_last s.base s.stamped y q.id q.depends_on looked (omega arith) (k i d)) s.active h;
          },
          λ u n h. record {
            here = here_without u r.id (λ i. n (ap Some (sym (id_of t s.active r e) ∙ sym i))) s.active ∙ h.here;
            idle = each_filter (λ (q : ActiveTx). not (q.id == r.id)) (λ (q : ActiveTx). q.id ≡ u → q.history ≡ []) (λ (q : ActiveTx). q.id ≡ u → q.history ≡ []) (λ q _ k. k) s.active h.idle;
          },
        )

-- ---- a check, a settlement
passes_like : (opening : Map) (s : State) (f : StampedTx → StampedTx) → IsLike f → (u : ℕ) (looked : List Looked) → AreFoundFor s u looked → AllByRecursion (λ (r : ActiveTx). r.id ≡ u → r.aborted_dependency ≡ None → AreSeen s.base (map f s.stamped) r.id r.depends_on looked) s.active
passes_like opening s f l u looked h = each_weaker (λ (r : ActiveTx). r.id ≡ u → r.aborted_dependency ≡ None → AreSeen s.base s.stamped r.id r.depends_on looked) (λ (r : ActiveTx). r.id ≡ u → r.aborted_dependency ≡ None → AreSeen s.base (map f s.stamped) r.id r.depends_on looked) (λ r k i d. seen_map f l s.base s.stamped r.id r.depends_on looked (k i d)) s.active h

before_valid : (b e : ℕ) (xs : List StampedTx) → settled_before b (map (with_valid e) xs) ≡ settled_before b xs
before_valid b e [] = refl
before_valid b e (x ∷ xs) = ap (λ ts. cond (x.settled && nat_lt x.end b) x.history [] ++ ts) (before_valid b e xs)

leaves_valid : (opening : Map) (v : Option ℕ) (s : State) (e : ℕ) → Leaves opening v s (after_valid s e)
leaves_valid opening v s e = (
  record {
    clock = omega arith;
    read = λ b ts l h. seen_back opening s.past s.stamped (map (with_valid e) s.stamped) b ts (before_valid b e s.stamped)
        (λ q. each_map (with_valid e) (λ x. x.settled ≡ false → x.end < b → IsApart x ts) (λ x. x.settled ≡ false → x.end < b → IsApart x ts) (λ x k o m. apart_valid e x ts (k o m)) s.stamped q)
        (λ q. each_map (with_valid e) (λ x. x.end ≢ b) (λ x. x.end ≢ b) (λ x k. k) s.stamped q) h;
    gone = λ u l h. h;
    found = λ u looked l h. passes_like opening s (with_valid e) (λ y. (refl, refl, λ q. q, refl)) u looked h;
  },
  λ u n h. record { here = h.here; idle = h.idle },
)

leaves_checked : (opening : Map) (t : Option ℕ) (g : GivenState) (v : Option StampedTx) → Leaves opening t g.state (after_check_given g v).state
leaves_checked opening t g None = leaves_same opening t g.state
leaves_checked opening t g (Some x) = go x.valid
  where
    last : (b : Bool) → Leaves opening t g.state (cond b (after_valid g.state x.end) g.state)
    last true = leaves_valid opening t g.state x.end
    last false = leaves_same opening t g.state

    go : (b : Bool) → Leaves opening t g.state (cond b g (record { state = cond (is_last_look (g.taken x.end)) (after_valid g.state x.end) g.state; taken = one_more_checked g.taken x.end })).state
    go true = leaves_same opening t g.state
    go false = last (is_last_look (g.taken x.end))

alone_flagless : (before after : List StampedTx) (x : StampedTx) → x.settled ≡ false → x.aborted_dependency ≡ None → IsRising (before ++ x ∷ after) → AllByRecursion (λ y. y.end ≡ x.end → (y.settled ≡ false) × (y.aborted_dependency ≡ None)) (before ++ x ∷ after)
alone_flagless before after x o d r = each_append (λ y. y.end ≡ x.end → (y.settled ≡ false) × (y.aborted_dependency ≡ None)) before (x ∷ after)
    (each_weaker (λ y. y.end < x.end) (λ y. y.end ≡ x.end → (y.settled ≡ false) × (y.aborted_dependency ≡ None)) (λ y lt e. absurd (omega arith)) before (rising_before before after x r))
    (λ _. (o, d), each_weaker (λ y. x.end < y.end) (λ y. y.end ≡ x.end → (y.settled ≡ false) × (y.aborted_dependency ≡ None)) (λ y lt e. absurd (omega arith)) after (rising_after before after x r))

pub legal_line : (opening : Map) (g : GivenState) → IsHeldGiven opening g → IsLegal opening (timeline g.state)
legal_line opening g h = legal_append opening g.state.past g.state.stamped h.standing.legal (subst (λ (m : Map). IsLegal m g.state.stamped) h.standing.base h.shared.sound.legal)

leaves_committed : (opening : Map) (g : GivenState) (t : ℕ) (x : StampedTx) → preparing_of t g.state.stamped ≡ Some x → why_not_settle g.state t ≡ None → waiting_for x.depends_on g.state.stamped ≡ None → IsHeldGiven opening g → IsLegal opening (g.state.past ++ map (with_settled x.end) g.state.stamped) → Leaves opening (Some t) g.state (after_commit g.state t x.end)
leaves_committed opening g t x f w n h l =
    let s = g.state in
    let p = split_at t s.stamped x f in
    let q = free_settled s t x f w n in (
      record {
        clock = omega arith;
        read = λ b ts _ k. read_settled opening s.past s.stamped x.end b ts (each_weaker (IsPast s.start) (λ y. y.end ≢ x.end) (λ y u i. absurd (let a = u.until in let c = later p.0 p.1 p.2 in omega arith)) s.past h.standing.started.past)
            (rising_all s h.shared.sound h.standing.started) l (subst (AllByRecursion (λ y. y.end ≡ x.end → (y.settled ≡ false) × (y.aborted_dependency ≡ None))) (sym p.2) (alone_flagless p.0 p.1 x p.4 q.0 (subst IsRising p.2 h.shared.sound.rising))) k;
        gone = λ u m k. k;
        found = λ u looked m k. passes_like opening s (with_settled x.end) (like_settled x.end) u looked k;
      },
      λ u m k. record { here = k.here; idle = k.idle },
    )
  where
    last : (before after : List StampedTx) → AllByRecursion (λ y. g.state.start < y.end) (before ++ x ∷ after) → g.state.start < x.end
    last [] after k = k.0
    last (y ∷ ys) after k = last ys after k.1

    later : (before after : List StampedTx) → g.state.stamped ≡ before ++ x ∷ after → g.state.start < x.end
    later before after e = last before after (subst (AllByRecursion (λ y. g.state.start < y.end)) e h.standing.started.later)

leaves_settled : (opening : Map) (g : GivenState) (t : ℕ) → why_not_settle g.state t ≡ None → IsHeldGiven opening g → IsLegal opening (timeline (after_settle g.state t)) → Leaves opening (Some t) g.state (after_settle g.state t)
leaves_settled opening g t w h l = go (awaited g.state t) refl l
  where
    go : (v : Option StampedTx) → awaited g.state t ≡ v → IsLegal opening (timeline (after_settle_unless g.state t v)) → Leaves opening (Some t) g.state (after_settle_unless g.state t v)
    go (Some y) e k = leaves_same opening (Some t) g.state
    go None e k =
        let f = preparing_settled g.state t w in
        subst (Leaves opening (Some t) g.state) (sym (ap (after_commit_of g.state t) f.1))
        (leaves_committed opening g t f.0 f.1 w (sym (ap (awaited_by g.state.stamped) f.1) ∙ e) h
        (subst (λ (v : State). IsLegal opening (timeline v)) (ap (after_commit_of g.state t) f.1) k))

-- ---- an abort
pub leaves_aborted : (opening : Map) (s : State) (t : ℕ) → IsSound s → Leaves opening (Some t) s (after_abort s t)
leaves_aborted opening s t sound = let grown = grows_aborted opening s t sound.rising in go (preparing_of t s.stamped) refl grown.clock grown.read
  where
    go : (v : Option StampedTx) → preparing_of t s.stamped ≡ v → s.clock ≤ (after_abort_of s t v).clock → ((b : ℕ) (ts : History) → b ≤ s.clock → IsReadAt opening (timeline s) b ts → IsReadAt opening (timeline (after_abort_of s t v)) b ts) → Leaves opening (Some t) s (after_abort_of s t v)
    go None e c read = (
      record {
        clock = c;
        read = read;
        gone = λ u l h. each_filter (λ (q : ActiveTx). not (q.id == t)) (λ (q : ActiveTx). q.id ≢ u) (λ (q : ActiveTx). q.id ≢ u) (λ q _ n. n) s.active h;
        found = λ u looked l h. each_filter (λ (q : ActiveTx). not (q.id == t)) (λ (q : ActiveTx). q.id ≡ u → q.aborted_dependency ≡ None → AreSeen s.base s.stamped q.id q.depends_on looked) (λ (q : ActiveTx). q.id ≡ u → q.aborted_dependency ≡ None → AreSeen s.base s.stamped q.id q.depends_on looked) (λ q _ k. k) s.active h;
      },
      λ u n h. record {
        here = here_without u t (λ i. n (ap Some (sym i))) s.active ∙ h.here;
        idle = each_filter (λ (q : ActiveTx). not (q.id == t)) (λ (q : ActiveTx). q.id ≡ u → q.history ≡ []) (λ (q : ActiveTx). q.id ≡ u → q.history ≡ []) (λ q _ k. k) s.active h.idle;
      },
    )
    go (Some x) e c read =
        let p = split_at t s.stamped x e in
        let alone : AllByRecursion (λ y. y.end ≡ x.end → y.settled ≡ false) s.stamped = subst (AllByRecursion (λ y. y.end ≡ x.end → y.settled ≡ false)) (sym p.2) (alone_open p.0 p.1 x p.4 (subst IsRising p.2 sound.rising)) in
        let f = active_with_flag t x.end in (
          record {
            clock = c;
            read = read;
            gone = λ u l h. each_map f (λ (q : ActiveTx). q.id ≢ u) (λ (q : ActiveTx). q.id ≢ u) (λ q n. n) s.active h;
            found = λ u looked l h. each_map f (λ (q : ActiveTx). q.id ≡ u → q.aborted_dependency ≡ None → AreSeen s.base s.stamped q.id q.depends_on looked) (λ (q : ActiveTx). q.id ≡ u → q.aborted_dependency ≡ None → AreSeen s.base (map (with_flag t x.end) (filter (not_at x.end) s.stamped)) q.id q.depends_on looked)
                (λ q k i d. let z = spared t x.end q.depends_on q.aborted_dependency d in seen_aborted s.base s.stamped t x.end q.id q.depends_on looked alone z.1 (k i z.0)) s.active h;
          },
          λ u n h. record {
            here = here_map f (λ q. refl) u s.active ∙ h.here;
            idle = each_map f (λ (q : ActiveTx). q.id ≡ u → q.history ≡ []) (λ (q : ActiveTx). q.id ≡ u → q.history ≡ []) (λ q k. k) s.active h.idle;
          },
        )

leaves_failed : (opening : Map) (s : State) (t : ℕ) (r : Refusal) → IsSound s → Leaves opening (Some t) s (after_refusal s t r)
leaves_failed opening s t r sound = go (is_failure r)
  where
    go : (b : Bool) → Leaves opening (Some t) s (cond b (after_abort s t) s)
    go true = leaves_aborted opening s t sound
    go false = leaves_same opening (Some t) s

-- ---- finishing, a trim
pub leaves_finished : (opening : Map) (v : Option ℕ) (s : State) (t : ℕ) → Leaves opening v s (after_finish s t)
leaves_finished opening v s t = go (is_done s t)
  where
    go : (b : Bool) → Leaves opening v s (cond b (after_termination s t) (with_words (words_left t) s))
    go true = leaves_alike opening v s (after_termination s t) refl refl refl refl refl
    go false = leaves_alike opening v s (with_words (words_left t) s) refl refl refl refl refl

leaves_trimmed : (opening : Map) (v : Option ℕ) (s : State) (m : ℕ) → IsTrim m s → IsSound s → Leaves opening v s (after_trim s m)
leaves_trimmed opening v s m t sound = (
  record {
    clock = omega arith;
    read = λ b ts l h. subst (λ xs. IsReadAt opening xs b ts) (sym (timeline_trimmed s m sound.rising)) h;
    gone = λ u l h. h;
    found = λ u looked l h. each_both (λ r. IsActive s.base s.stamped s.clock r × (m ≤ r.id)) (λ (r : ActiveTx). r.id ≡ u → r.aborted_dependency ≡ None → AreSeen s.base s.stamped r.id r.depends_on looked) (λ (r : ActiveTx). r.id ≡ u → r.aborted_dependency ≡ None → AreSeen (after_trim s m).base (after_trim s m).stamped r.id r.depends_on looked)
        (λ r p k i d. seen_to m s.base s.stamped r.id r.depends_on looked sound.rising t.settled p.1 p.0.others (k i d)) s.active
        (each_both (IsActive s.base s.stamped s.clock) (λ r. m ≤ r.id) (λ r. IsActive s.base s.stamped s.clock r × (m ≤ r.id)) (λ r a b. (a, b)) s.active sound.active t.active) h;
  },
  λ u n h. record { here = h.here; idle = h.idle },
)

-- ---- each call
no_cause : (w : Option Refusal) → option_map Because w ≡ None → w ≡ None
no_cause None e = refl
no_cause (Some q) e = cc

pub leaves_took : (opening : Map) (g : GivenState) (w : WorkContent) (c : Call) → why_not_given g w c ≡ None → IsHeldGiven opening g → IsHeldGiven opening (after_took g w c) → Leaves opening (id_named c) g.state (after_took g w c).state
leaves_took opening g w Begin n h k = leaves_begun opening None g.state
leaves_took opening g w (Do t op) n h k = leaves_do opening g.state t w op
leaves_took opening g w (Precommit t) n h k = leaves_prepared opening g.state t
leaves_took opening g w (Validate t) n h k = leaves_checked opening (Some t) g (preparing_of t g.state.stamped)
leaves_took opening g w (Settle t) n h k = leaves_settled opening g t (no_cause _ n) h (legal_line opening (after_took g w (Settle t)) k)
leaves_took opening g w (Rollback t) n h k = leaves_aborted opening g.state t h.shared.sound
leaves_took opening g w (Finish t) n h k = leaves_finished opening (Some t) g.state t
leaves_took opening g w (Trim m) n h k = leaves_trimmed opening None g.state m (may_trim g.state m (no_cause _ n) h.shared.sound) h.shared.sound
leaves_took opening g w (Close fits gr full) n h k = leaves_alike opening None g.state (after_close g.state gr.mark) refl refl refl refl refl

pub leaves_denied : (opening : Map) (g : GivenState) (c : Call) (r : Refusal) → IsSound g.state → Leaves opening (id_named c) g.state (after_refused g.state c r)
leaves_denied opening g Begin r k = leaves_same opening None g.state
leaves_denied opening g (Do t op) r k = leaves_failed opening g.state t r k
leaves_denied opening g (Precommit t) r k = leaves_failed opening g.state t r k
leaves_denied opening g (Validate t) r k = leaves_failed opening g.state t r k
leaves_denied opening g (Settle t) r k = leaves_failed opening g.state t r k
leaves_denied opening g (Rollback t) r k = leaves_same opening (Some t) g.state
leaves_denied opening g (Finish t) r k = leaves_same opening (Some t) g.state
leaves_denied opening g (Trim m) r k = leaves_same opening None g.state
leaves_denied opening g (Close fits gr full) r k = leaves_same opening None g.state
