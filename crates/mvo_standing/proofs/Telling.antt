-- The work of a transaction is told what the state answers, and goes on with it.
use Rattle.std.proofs.Common.{◌≡◌, ◌≢◌, ℕ, ◌+◌, ◌++◌, Bool, true, false, cond, List, [], ◌∷◌, Option, None, Some, map, refl, sym, ap, ◌∙◌, subst}
use Rattle.std.specs.Prelude.{◌==◌, is_some}
use Rattle.std.specs.List.{AllByRecursion}
use Rattle.std.specs.Option.{option_map}
use Rattle.std.specs.FinMap as fin
use Rattle.std.proofs.lemmas.Bool.{true≢false, ne_eqb}
use Rattle.mvo_types.specs.declared.op.Op.{Op}
use Rattle.mvo_types.specs.declared.row.RowKey.{RowKey}
use Rattle.mvo_types.specs.declared.entry.Entry.{Entry}
use Rattle.mvo_types.specs.declared.entry.Entry.TheVariants.{Key}
use Rattle.mvo_types.specs.Entries.{has_entry}
use Rattle.mvo_types.specs.Keys.{Map, row_at}
use Rattle.mvo_types.specs.RowData.{RowData, row_with}
use Rattle.mvo_types.specs.Write.{Effect, content_after_last}
use Rattle.mvo_types.proofs.Maps.{keys_total, exact_keys}
use Rattle.mvo_model.specs.History.{History, net_write, after_history}
use Rattle.mvo_model.specs.Serial.{scan}
use Rattle.mvo_model.specs.Trace.{Step}
use Rattle.mvo_model.proofs.Serials.{get-after_history}
use Rattle.mvo_theory.specs.Entries.{entry_of, entries, is_noted, written_keys}
use Rattle.mvo_theory.specs.State.{State, ActiveTx, active_of, history_of_active, seen_by, snapshot}
use Rattle.mvo_theory.specs.Causes.{why_not_begin, why_not_do}
use Rattle.mvo_theory.specs.Calls.{answer_in, after_call, steps_of}
use Rattle.mvo_theory.specs.Calls.Call.{Begin, Do}
use Rattle.mvo_theory.specs.Calls.Result.{Accepted}
use Rattle.mvo_theory.proofs.Each.{each_both, each_map}
use Rattle.mvo_theory.proofs.Who.{active_done}
use Rattle.mvo_theory.proofs.Written.{noted_written}
use Rattle.mvo_shared.specs.Kept.{Looked, WorkContent, IsWork, rows_shown, entries_in, with_looked, answer_kept, after_op}
use Rattle.mvo_shared.specs.Shared.{WorksById, with_work, AreOwnWorks, IsOwnWork}
use Rattle.mvo_shared.specs.Shadow.{shadow, active_shadow, stamped_shadow}
use Rattle.mvo_shared.specs.Given.{GivenState, after_given, rows_to}
use Rattle.mvo_shared.specs.Given.GivenResult.{Took}
use Rattle.mvo_shared.specs.Held.{empty_work}
use Rattle.mvo_shared.proofs.Shadow.{seen_shadow}
use Rattle.mvo_shadow.specs.Shadowed.{IsShadowed, IsWorkOf}
use Rattle.mvo_shadow.proofs.Causes.{told_alike, work_of_active}
use Rattle.mvo_shadow.proofs.Finds.{answer_alike}
use Rattle.mvo_shadow.proofs.Runs.{at_there}
use Rattle.mvo_work.proofs.Written.{unwritten}
use Rattle.mvo_standing.specs.Together.{StandTogether}
use Rattle.mvo_standing.specs.Telling.{MayComeWith, AreWorksWith}
use Rattle.mvo_standing.proofs.Each.{each_unmap}
use Rattle.mvo_standing.proofs.Together.{call_goes_on}

module _ (opening : Map) (steps : List Step) (s : State) (g : GivenState) (works : WorksById) (h : StandTogether opening steps s g works) where
  -- ---- what a work holds
  pub holds_history : (t : ℕ) (r : ActiveTx) → active_of t s.active ≡ Some r → IsWorkOf r.history (works t)
  holds_history t r f = work_of_active s works t r f h.together.shadowed.active

  -- ---- the rows that come with an operation
  rows_alike : (t : ℕ) (op : Op) → rows_to g.state t op ≡ rows_shown (entry_of op) (seen_by s.base s.stamped t)
  rows_alike t op = ap (λ (q : State). rows_to q t op) h.together.shadowed.state ∙ ap (rows_shown (entry_of op)) (seen_shadow s.base t s.stamped)

  looked_alike : (t : ℕ) (op : Op) (rows : List RowData) → MayComeWith s t (works t) op rows → with_looked (works t).looked (entry_of op) rows ≡ with_looked (works t).looked (entry_of op) (rows_to g.state t op)
  looked_alike t op rows with' = go (has_entry (entries_in (works t).looked) (entry_of op)) (λ e. with' e ∙ sym (rows_alike t op))
    where
      more : List RowData → List Looked
      more rs = (works t).looked ++ (record { entry = entry_of op; rows = rs }) ∷ []

      go : (b : Bool) → (b ≡ false → rows ≡ rows_to g.state t op) → cond b (works t).looked (more rows) ≡ cond b (works t).looked (more (rows_to g.state t op))
      go true e = refl
      go false e = ap more (e refl)

  after_alike : (t : ℕ) (op : Op) (rows : List RowData) → MayComeWith s t (works t) op rows → after_op (works t) op rows ≡ after_op (works t) op (rows_to g.state t op)
  after_alike t op rows with' = ap (λ (looked : List Looked). record { history = (works t).history ++ (op, answer_kept looked (works t).history op) ∷ []; looked = looked }) (looked_alike t op rows with')

  -- ---- its answer
  pub tells_answer : (t : ℕ) (op : Op) (rows : List RowData) → why_not_do s t op ≡ None → MayComeWith s t (works t) op rows → answer_kept (with_looked (works t).looked (entry_of op) rows) (works t).history op ≡ answer_in s t op
  tells_answer t op rows may with' =
      let a = at_there opening steps s g works h.together in
      let f = active_done s t op may in
      ap (λ (looked : List Looked). answer_kept looked (works t).history op)
      (looked_alike t op rows with' ∙ ap (λ (q : State). with_looked (works t).looked (entry_of op) (rows_to q t op)) h.together.shadowed.state)
      ∙ told_alike s g.taken works a.numbered a.own a.held.active a.held.taken a.held.checked t op f.0 f.1 f.2
      ∙ answer_alike s t op

  -- ---- the works after it
  same_works : (one more : WorksById) → ((u : ℕ) → more u ≡ one u) → more ≡ one
  same_works one more e = λ i u. e u i

  pub goes_on_told : (t : ℕ) (op : Op) (rows : List RowData) (more : WorksById) → why_not_do s t op ≡ None → MayComeWith s t (works t) op rows → AreWorksWith works t (after_op (works t) op rows) more
      → StandTogether opening (steps ++ steps_of s (Do t op) Accepted) (after_call s (Do t op) Accepted) (after_given g (works t) (Do t op) Took) more
  goes_on_told t op rows more may with' told =
      subst (λ (ws : WorksById). StandTogether opening (steps ++ steps_of s (Do t op) Accepted) (after_call s (Do t op) Accepted) (after_given g (works t) (Do t op) Took) ws)
      (sym (same_works (with_work works t (after_op (works t) op rows)) more told ∙ ap (λ (w : WorkContent). with_work works t w) (after_alike t op rows with')))
      (call_goes_on opening steps s g works (Do t op) Accepted tt (may, tt) h).1

  -- ---- one begins
  pub goes_on_begun : (more : WorksById) → why_not_begin s ≡ None → AreWorksWith works (s.clock + 1) empty_work more → StandTogether opening (steps ++ steps_of s Begin Accepted) (after_call s Begin Accepted) (after_given g empty_work Begin Took) more
  goes_on_begun more may told =
      subst (λ (ws : WorksById). StandTogether opening (steps ++ steps_of s Begin Accepted) (after_call s Begin Accepted) (after_given g empty_work Begin Took) ws)
      (sym (same_works (with_work works (s.clock + 1) empty_work) more told ∙ ap (λ (q : State). with_work works (q.clock + 1) empty_work) (sym h.together.shadowed.state)))
      (call_goes_on opening steps s g works Begin Accepted tt (may, tt) h).1

  -- ---- the rows of its own snapshot
  effect_none : (w : Option Effect) → is_some w ≡ false → w ≡ None
  effect_none None e = refl
  effect_none (Some v) e = absurd (true≢false e)

  snapshot_is : (t : ℕ) (r : ActiveTx) → active_of t s.active ≡ Some r → snapshot s t ≡ after_history (works t).history (seen_by s.base s.stamped t)
  snapshot_is t r f = ap (λ (ts : History). after_history ts (seen_by s.base s.stamped t)) (found t s.active r f ∙ sym (holds_history t r f).history)
    where
      same : (p q : ActiveTx) → ◌≡◌ {A = Option ActiveTx} (Some p) (Some q) → p ≡ q
      same p q e = cc

      none : (q : ActiveTx) → ◌≡◌ {A = Option ActiveTx} None (Some q) → ⊥
      none q e = cc

      found : (n : ℕ) (rs : List ActiveTx) (q : ActiveTx) → active_of n rs ≡ Some q → history_of_active n rs ≡ q.history
      found n [] q e = absurd (none q e)
      found n (p ∷ rs) q e = go (p.id == n) e (found n rs q)
        where
          go : (b : Bool) → cond b (Some p) (active_of n rs) ≡ Some q → (active_of n rs ≡ Some q → history_of_active n rs ≡ q.history) → cond b p.history (history_of_active n rs) ≡ q.history
          go true x k = ap (λ (v : ActiveTx). v.history) (same p q x)
          go false x k = k x

  unwritten_same : (t : ℕ) (r : ActiveTx) → active_of t s.active ≡ Some r → (k : RowKey) → is_noted (written_keys (works t).history) k ≡ false → fin.get (snapshot s t) k ≡ fin.get (seen_by s.base s.stamped t) k
  unwritten_same t r f k e =
      ap (λ (m : Map). fin.get m k) (snapshot_is t r f)
      ∙ get-after_history k (works t).history (seen_by s.base s.stamped t)
      ∙ ap (λ (w : Option Effect). content_after_last w (fin.get (seen_by s.base s.stamped t) k)) (effect_none (net_write k (works t).history) (sym (noted_written (works t).history k) ∙ e))

  pub shows_others_row : (t : ℕ) (r : ActiveTx) (k : RowKey) → active_of t s.active ≡ Some r → has_entry (entries_in (works t).looked) (Key k) ≡ false → row_at (snapshot s t) k ≡ row_at (seen_by s.base s.stamped t) k
  shows_others_row t r k f new =
      let order = (holds_history t r f).order in
      ap (option_map (row_with k)) (unwritten_same t r f k (unwritten (works t).history k (ap (λ (es : List Entry). has_entry es (Key k)) (sym order) ∙ new)))

  pub shows_others_range : (t : ℕ) (r : ActiveTx) (table lo hi : ℕ) → active_of t s.active ≡ Some r → written_keys (works t).history ≡ [] → scan (snapshot s t) table lo hi ≡ scan (seen_by s.base s.stamped t) table lo hi
  shows_others_range t r table lo hi f none =
      ap (λ (m : Map). scan m table lo hi)
      (fin.same_map keys_total exact_keys (snapshot s t) (seen_by s.base s.stamped t) (λ k. unwritten_same t r f k (ap (λ (ks : List RowKey). is_noted ks k) none)))

  -- ---- the work of one that isn't Active
  pub goes_on_without : (more : WorksById) (t : ℕ) (w : WorkContent) → AllByRecursion (λ (r : ActiveTx). r.id ≢ t) s.active → IsWork w → AreWorksWith works t w more → StandTogether opening steps s g more
  goes_on_without more t w apart is told = record {
    together = record {
      kept = h.together.kept;
      held = h.together.held;
      own = record {
        active = subst (λ (q : State). AllByRecursion (λ (r : ActiveTx). IsOwnWork q.base q.stamped r (more r.id)) q.active) (sym h.together.shadowed.state)
            (each_map active_shadow (λ (r : ActiveTx). (r.id ≢ t) × IsOwnWork s.base (map stamped_shadow s.stamped) (active_shadow r) (works r.id)) (λ (r : ActiveTx). IsOwnWork s.base (map stamped_shadow s.stamped) r (more r.id))
            (λ r p. subst (λ (v : WorkContent). IsOwnWork s.base (map stamped_shadow s.stamped) (active_shadow r) v) (sym (beside r.id p.0)) p.1) s.active
            (each_both (λ (r : ActiveTx). r.id ≢ t) (λ (r : ActiveTx). IsOwnWork s.base (map stamped_shadow s.stamped) (active_shadow r) (works r.id))
            (λ (r : ActiveTx). (r.id ≢ t) × IsOwnWork s.base (map stamped_shadow s.stamped) (active_shadow r) (works r.id)) (λ r a b. (a, b)) s.active apart
            (each_unmap active_shadow (λ (r : ActiveTx). IsOwnWork s.base (map stamped_shadow s.stamped) (active_shadow r) (works r.id)) (λ (r : ActiveTx). IsOwnWork s.base (map stamped_shadow s.stamped) r (works r.id)) (λ r q. q) s.active
            (subst (λ (q : State). AllByRecursion (λ (r : ActiveTx). IsOwnWork q.base q.stamped r (works r.id)) q.active) h.together.shadowed.state h.together.own.active))));
        preparing = h.together.own.preparing;
      };
      shadowed = record {
        state = h.together.shadowed.state;
        active = each_both (λ (r : ActiveTx). r.id ≢ t) (λ (r : ActiveTx). IsWorkOf r.history (works r.id)) (λ (r : ActiveTx). IsWorkOf r.history (more r.id)) (λ r a b. subst (IsWorkOf r.history) (sym (beside r.id a)) b) s.active apart h.together.shadowed.active;
        taken = h.together.shadowed.taken;
        checked = h.together.shadowed.checked;
      };
    };
    each = λ u. subst IsWork (sym (told u)) (one u (u == t));
  } where
    beside : (u : ℕ) → u ≢ t → more u ≡ works u
    beside u ne = told u ∙ ap (λ (b : Bool). cond b w (works u)) (ne_eqb u t ne)

    one : (u : ℕ) (b : Bool) → IsWork (cond b w (works u))
    one u true = is
    one u false = h.each u
