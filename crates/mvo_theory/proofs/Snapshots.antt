-- The snapshot of the state is that of the trace.
use Rattle.std.proofs.Common.{◌≡◌, ◌≢◌, ℕ, ◌<◌, ◌≤◌, Bool, true, false, cond, List, [], ◌∷◌, ◌++◌, None, refl, sym, ap, ◌∙◌, subst, arith}
use Rattle.std.specs.Prelude.{nat_lt, ◌==◌}
use Rattle.std.specs.List.{AllByRecursion}
use Rattle.std.proofs.lemmas.Bool.{eq-eqb, ne_eqb}
use Rattle.mvo_types.specs.Keys.{Map}
use Rattle.mvo_model.specs.History.{after_history}
use Rattle.mvo_model.proofs.Serials.{after_history-append}
use Rattle.mvo_model.specs.Trace.{Step, history_of}
use Rattle.mvo_theory.specs.State.{State, StampedTx, ActiveTx, timeline, history_below, seen_by, history_of_active, snapshot}
use Rattle.mvo_theory.specs.Sound.{AreDistinct, IsPast}
use Rattle.mvo_theory.specs.Snapshots.{ended_in, rows_below, snapshot_of, ends_with_ids}
use Rattle.mvo_theory.specs.Causes.{why_not_do}
use Rattle.mvo_theory.specs.Calls.{answer_in, IsKept}
use Rattle.mvo_theory.proofs.Who.{active_holds, active_done}
use Rattle.mvo_theory.proofs.Each.{each_weaker, each_both, each_append}
use Rattle.mvo_theory.proofs.Trim.{seen_front}
use Rattle.mvo_theory.proofs.Stamped.{history_below-append}
use Rattle.mvo_theory.proofs.Apart.{each_in}
use Rattle.mvo_types.specs.declared.op.Op.{Op}
use Rattle.mvo_model.specs.Serial.{answer_to}

-- ---- the history of an Active transaction
pub history_is : (t : ℕ) (rs : List ActiveTx) → AreDistinct rs → AllByRecursion (λ (r : ActiveTx). r.id ≡ t → history_of_active t rs ≡ r.history) rs
history_is t [] d = tt
history_is t (r ∷ rs) d = (
  λ e. ap (λ (b : Bool). cond b r.history (history_of_active t rs)) (eq-eqb r.id t e),
  each_both (λ q. q.id ≢ r.id) (λ (q : ActiveTx). q.id ≡ t → history_of_active t rs ≡ q.history) (λ (q : ActiveTx). q.id ≡ t → cond (r.id == t) r.history (history_of_active t rs) ≡ q.history)
      (λ q n f e. ap (λ (b : Bool). cond b r.history (history_of_active t rs)) (ne_eqb r.id t (λ g. n (e ∙ sym g))) ∙ f e) rs d.0 (history_is t rs d.1),
)

rows_of_ends : (b : ℕ) (xs : List StampedTx) (steps : List Step) (m : Map) → AllByRecursion (λ x. history_of x.id steps ≡ x.history) xs → rows_below b (ends_with_ids xs) steps m ≡ after_history (history_below b xs) m
rows_of_ends b [] steps m h = refl
rows_of_ends b (x ∷ xs) steps m h = rows_of_ends b xs steps (cond (nat_lt x.end b) (after_history (history_of x.id steps) m) m) h.1 ∙ go (nat_lt x.end b)
  where
    go : (c : Bool) → after_history (history_below b xs) (cond c (after_history (history_of x.id steps) m) m) ≡ after_history (cond c x.history [] ++ history_below b xs) m
    go true = ap (λ ts. after_history (history_below b xs) (after_history ts m)) h.0 ∙ sym (after_history-append x.history (history_below b xs) m)
    go false = refl

-- an Active transaction sees what the trace says
pub snapshots_traced : (opening : Map) (steps : List Step) (s : State) → IsKept opening steps s → AllByRecursion (λ (r : ActiveTx). snapshot s r.id ≡ snapshot_of opening steps r.id) s.active
snapshots_traced opening steps s h =
    each_both (λ r. history_of r.id steps ≡ r.history) (λ (r : ActiveTx). (s.start ≤ r.id) × (AllByRecursion (λ x. x.end ≢ r.id) s.past × (history_of_active r.id s.active ≡ r.history))) (λ (r : ActiveTx). snapshot s r.id ≡ snapshot_of opening steps r.id) one s.active h.after_trace.active
    (each_both (λ r. s.start ≤ r.id) (λ (r : ActiveTx). AllByRecursion (λ x. x.end ≢ r.id) s.past × (history_of_active r.id s.active ≡ r.history)) (λ (r : ActiveTx). (s.start ≤ r.id) × (AllByRecursion (λ x. x.end ≢ r.id) s.past × (history_of_active r.id s.active ≡ r.history))) (λ r a b. (a, b)) s.active h.started.begun
    (each_both (λ r. AllByRecursion (λ x. x.end ≢ r.id) s.past) (λ (r : ActiveTx). history_of_active r.id s.active ≡ r.history) (λ (r : ActiveTx). AllByRecursion (λ x. x.end ≢ r.id) s.past × (history_of_active r.id s.active ≡ r.history)) (λ r a b. (a, b)) s.active h.has_ends.others (own_history s.active h.numbered.distinct)))
  where
    all_history : AllByRecursion (λ x. history_of x.id steps ≡ x.history) (timeline s)
    all_history = each_append (λ x. history_of x.id steps ≡ x.history) s.past s.stamped h.after_trace.past h.after_trace.stamped

    below : (b : ℕ) → s.start ≤ b → AllByRecursion (λ x. x.end ≢ b) s.past → AllByRecursion (λ x. x.end < b) s.past
    below b le o = each_both (IsPast s.start) (λ x. x.end ≢ b) (λ x. x.end < b) (λ x q ne. let d = q.until in omega arith) s.past h.started.past o

    seen : (b : ℕ) → s.start ≤ b → AllByRecursion (λ x. x.end ≢ b) s.past → seen_by s.base s.stamped b ≡ rows_below b (ended_in steps) steps opening
    seen b le o =
        ap (λ (m : Map). seen_by m s.stamped b) (h.after_trace.base ∙ sym (seen_front b s.past opening (each_weaker (IsPast s.start) (λ x. x.settled ≡ true) (λ x q. q.settled) s.past h.started.past) (below b le o)))
        ∙ sym (after_history-append (history_below b s.past) (history_below b s.stamped) opening)
        ∙ ap (λ ts. after_history ts opening) (sym (history_below-append b s.past s.stamped))
        ∙ sym (rows_of_ends b (timeline s) steps opening all_history)
        ∙ ap (λ cs. rows_below b cs steps opening) (sym h.has_ends.ends)

    one : (r : ActiveTx) → history_of r.id steps ≡ r.history → (s.start ≤ r.id) × (AllByRecursion (λ x. x.end ≢ r.id) s.past × (history_of_active r.id s.active ≡ r.history)) → snapshot s r.id ≡ snapshot_of opening steps r.id
    one r t q = ap (λ ts. after_history ts (seen_by s.base s.stamped r.id)) (q.1.1 ∙ sym t) ∙ ap (after_history (history_of r.id steps)) (seen r.id q.0 q.1.0)

    own_history : (rs : List ActiveTx) → AreDistinct rs → AllByRecursion (λ (r : ActiveTx). history_of_active r.id rs ≡ r.history) rs
    own_history rs d = each_in (λ (r : ActiveTx). history_of_active r.id rs ≡ r.history) rs (λ r m. m (λ (q : ActiveTx). q.id ≡ r.id → history_of_active r.id rs ≡ q.history) (history_is r.id rs d) refl)

pub seen_traced : (opening : Map) (steps : List Step) (s : State) → IsKept opening steps s → AllByRecursion (λ (r : ActiveTx). after_history r.history (seen_by s.base s.stamped r.id) ≡ snapshot_of opening steps r.id) s.active
seen_traced opening steps s h = each_in (λ (r : ActiveTx). after_history r.history (seen_by s.base s.stamped r.id) ≡ snapshot_of opening steps r.id) s.active (λ r m.
    ap (λ ts. after_history ts (seen_by s.base s.stamped r.id)) (sym (m (λ (q : ActiveTx). q.id ≡ r.id → history_of_active r.id s.active ≡ q.history) (history_is r.id s.active h.numbered.distinct) refl))
    ∙ m (λ (q : ActiveTx). snapshot s q.id ≡ snapshot_of opening steps q.id) (snapshots_traced opening steps s h))

-- an operation is answered as the serial step on the snapshot that the trace says
pub answers_traced : (opening : Map) (steps : List Step) (s : State) (t : ℕ) (op : Op) → why_not_do s t op ≡ None → IsKept opening steps s → answer_in s t op ≡ answer_to op (snapshot_of opening steps t)
answers_traced opening steps s t op w h =
    let found = active_done s t op w in
    let it = active_holds (λ (r : ActiveTx). snapshot s r.id ≡ snapshot_of opening steps r.id) t s.active found.0 found.1 (snapshots_traced opening steps s h) in
    subst (λ (u : ℕ). answer_to op (snapshot s u) ≡ answer_to op (snapshot_of opening steps u)) it.1 (ap (answer_to op) it.0)
