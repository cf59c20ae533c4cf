-- What the table keeps after a commit or an abort was reported is right.
use Rattle.std.proofs.Common.{◌≡◌, ◌≢◌, ℕ, ◌-◌, Bool, true, false, cond, eqb, not, ◌||◌, List, [], ◌∷◌, map, Option, None, Some, refl, sym, ap, ◌∙◌}
use Rattle.std.specs.Prelude.{◌==◌, ◌&&◌, is_some}
use Rattle.std.specs.List.{AllByRecursion, filter}
use Rattle.std.specs.Option.{option_map}
use Rattle.std.specs.FinMap as fin
use Rattle.std.proofs.lemmas.Bool.{eq-eqb, ne_eqb, true≢false, false≢true}
use Rattle.mvo_types.specs.declared.ids.TxId.{TxId}
use Rattle.mvo_model.specs.Trace.{Phase}
use Rattle.mvo_model.specs.Trace.Phase.{Active, Preparing}
use Rattle.mvo_theory.specs.State.{State, StampedTx, ActiveTx, active_of, preparing_of, ended_of}
use Rattle.mvo_theory.specs.Changes.{after_commit as committed, after_abort_of_preparing, active_with_flag, with_flag, not_at}
use Rattle.mvo_theory.specs.Dependencies.{has_end}
use Rattle.mvo_theory.specs.Phases.{phase_by, phase_in}
use Rattle.mvo_theory.specs.Sound.{IsSound, IsSingle}
use Rattle.mvo_theory.proofs.Each.{each_weaker, each_both, each_map, each_filter}
use Rattle.mvo_theory.proofs.Phases.{leads_after_commit, leads_after_abort_of_preparing}
use Rattle.mvo_txn.specs.declared.table_seat.TableSeat.{TableSeat}
use Rattle.mvo_txn.specs.Txns.{Txns, state_of}
use Rattle.mvo_deps.specs.declared.node.Node.{Node}
use Rattle.mvo_deps.specs.Data.{DependencyData, is_id_among, after_dependency_commit, first_of, after_dependency_abort, without_dependents}
use Rattle.mvo_deps.specs.Nodes.{data_in, data_of, changed_if, with_data, IsReported}
use Rattle.mvo_deps.proofs.Changes.{get_changed}
use Rattle.mvo_representation.specs.Nodes.{node_as, nodes_of, HasNodes, HasDrawnDependents, nodes_after_commit, or_flag, nodes_after_abort}
use Rattle.mvo_representation.specs.Table.{phase_as, phases_of}
use Rattle.mvo_representation.proofs.NodesKept.{AreAlike, nodes_elsewhere, drawn_elsewhere, drawn_committed, drawn_reported}
use Rattle.mvo_representation.proofs.Reported.{kept_commit, kept_abort}

-- ---- one that is neither Active nor Preparing has no place there
pub active_none : (t : ℕ) (rs : List ActiveTx) → active_of t rs ≡ None → AllByRecursion (λ r. r.id ≢ t) rs
active_none t [] e = tt
active_none t (r ∷ rs) e = go (r.id == t) refl e (λ q. active_none t rs q)
  where
    found : ◌≡◌ {A = Option ActiveTx} (Some r) None → ⊥
    found q = cc

    go : (b : Bool) → (r.id == t) ≡ b → cond b (Some r) (active_of t rs) ≡ None → (active_of t rs ≡ None → AllByRecursion (λ q. q.id ≢ t) rs) → (r.id ≢ t) × AllByRecursion (λ q. q.id ≢ t) rs
    go true q e again = absurd (found e)
    go false q e again = ((λ i. true≢false (sym (eq-eqb r.id t i) ∙ q)), again e)

pub preparing_none : (t : ℕ) (xs : List StampedTx) → preparing_of t xs ≡ None → AllByRecursion (λ x. x.settled ≡ false → x.id ≢ t) xs
preparing_none t [] e = tt
preparing_none t (x ∷ xs) e = go ((x.id == t) && not x.settled) refl e (λ q. preparing_none t xs q)
  where
    found : ◌≡◌ {A = Option StampedTx} (Some x) None → ⊥
    found q = cc

    here : x.settled ≡ false → x.id ≡ t → ((x.id == t) && not x.settled) ≡ true
    here o i = ap (λ b. b && not x.settled) (eq-eqb x.id t i) ∙ ap not o

    go : (b : Bool) → ((x.id == t) && not x.settled) ≡ b → cond b (Some x) (preparing_of t xs) ≡ None → (preparing_of t xs ≡ None → AllByRecursion (λ y. y.settled ≡ false → y.id ≢ t) xs) → (x.settled ≡ false → x.id ≢ t) × AllByRecursion (λ y. y.settled ≡ false → y.id ≢ t) xs
    go true q e again = absurd (found e)
    go false q e again = ((λ o i. true≢false (sym (here o i) ∙ q)), again e)

-- where it stands tells so
abbrev pub is_open_phase : Phase → Bool
is_open_phase Active = true
is_open_phase (Preparing e) = true
is_open_phase p = false

record IsNowhere (s : State) (t : ℕ) : Type 0 where
  pub active : AllByRecursion (λ r. r.id ≢ t) s.active
  pub preparing : AllByRecursion (λ x. x.settled ≡ false → x.id ≢ t) s.stamped

nowhere : (s : State) (t : ℕ) → is_open_phase (phase_in s t) ≡ false → IsNowhere s t
nowhere s t e = go (active_of t s.active) refl (preparing_of t s.stamped) refl e
  where
    go : (a : Option ActiveTx) → active_of t s.active ≡ a → (b : Option StampedTx) → preparing_of t s.stamped ≡ b → is_open_phase (phase_by a b (ended_of t s.ended)) ≡ false → IsNowhere s t
    go (Some r) p b q f = absurd (true≢false f)
    go None p (Some x) q f = absurd (true≢false f)
    go None p None q f = record { active = active_none t s.active p; preparing = preparing_none t s.stamped q }

-- one that is Active or Preparing is found there
active_there : (rs : List ActiveTx) → AllByRecursion (λ r. is_some (active_of r.id rs) ≡ true) rs
active_there [] = tt
active_there (q ∷ rs) = (ap (λ b. is_some (cond b (Some q) (active_of q.id rs))) (eq-eqb q.id q.id refl), each_weaker (λ r. is_some (active_of r.id rs) ≡ true) (λ r. is_some (cond (q.id == r.id) (Some q) (active_of r.id rs)) ≡ true) (λ r e. go (q.id == r.id) r e) rs (active_there rs))
  where
    go : (b : Bool) (r : ActiveTx) → is_some (active_of r.id rs) ≡ true → is_some (cond b (Some q) (active_of r.id rs)) ≡ true
    go true r e = refl
    go false r e = e

preparing_there : (xs : List StampedTx) → AllByRecursion (λ x. x.settled ≡ false → is_some (preparing_of x.id xs) ≡ true) xs
preparing_there [] = tt
preparing_there (y ∷ xs) = (
  (λ o. ap (λ b. is_some (cond (b && not y.settled) (Some y) (preparing_of y.id xs))) (eq-eqb y.id y.id refl) ∙ ap (λ b. is_some (cond (not b) (Some y) (preparing_of y.id xs))) o),
  each_weaker (λ x. x.settled ≡ false → is_some (preparing_of x.id xs) ≡ true) (λ x. x.settled ≡ false → is_some (cond ((y.id == x.id) && not y.settled) (Some y) (preparing_of x.id xs)) ≡ true) (λ x e o. go ((y.id == x.id) && not y.settled) x (e o)) xs (preparing_there xs),
)
  where
    go : (b : Bool) (x : StampedTx) → is_some (preparing_of x.id xs) ≡ true → is_some (cond b (Some y) (preparing_of x.id xs)) ≡ true
    go true x e = refl
    go false x e = e

open_active : (s : State) (t : ℕ) → is_some (active_of t s.active) ≡ true → is_open_phase (phase_in s t) ≡ true
open_active s t e = go (active_of t s.active) e
  where
    go : (a : Option ActiveTx) → is_some a ≡ true → is_open_phase (phase_by a (preparing_of t s.stamped) (ended_of t s.ended)) ≡ true
    go None e = absurd (false≢true e)
    go (Some r) e = refl

open_preparing : (s : State) (t : ℕ) → is_some (preparing_of t s.stamped) ≡ true → is_open_phase (phase_in s t) ≡ true
open_preparing s t e = go (active_of t s.active) (preparing_of t s.stamped) e
  where
    go : (a : Option ActiveTx) (b : Option StampedTx) → is_some b ≡ true → is_open_phase (phase_by a b (ended_of t s.ended)) ≡ true
    go a None e = absurd (false≢true e)
    go (Some r) (Some x) e = refl
    go None (Some x) e = refl

-- ---- what is kept of each
pub among_is : (u : TxId) (ids : List TxId) → is_id_among u ids ≡ has_end (map (λ t. t.0) ids) u.0
among_is u [] = refl
among_is u (t ∷ ts) = ap (λ b. eqb t.0 u.0 || b) (among_is u ts)

module _ {P : Type 0} where
  -- the change at each of these, and at the reported one that nobody depends on it
  reported_at : (change : DependencyData → DependencyData) (old new : Txns (Node P)) (on : TxId) (u : ℕ) → u ≢ on.0 → IsReported change old new on → fin.get new.seats u ≡ option_map (with_data (changed_if (is_id_among (record { 0 = u }) (data_of old on).dependents) change)) (fin.get old.seats u)
  reported_at change old new on u ne r =
      r.each (record { 0 = u })
      ∙ ap (option_map (with_data (changed_if (is_id_among (record { 0 = u }) (data_of old on).dependents) change)))
      (get_changed old on.0 without_dependents u
      ∙ ap (λ b. option_map (with_data (changed_if b without_dependents)) (fin.get old.seats u)) (ne_eqb u on.0 ne)
      ∙ same (fin.get old.seats u))
    where
      same : (o : Option (TableSeat (Node P))) → option_map (with_data (changed_if false without_dependents)) o ≡ o
      same None = refl
      same (Some s) = refl

  -- a commit
  commit_at : (old new : Txns (Node P)) (on : TxId) (u : ℕ) → u ≢ on.0 → IsReported after_dependency_commit old new on → nodes_of new u ≡ nodes_after_commit (nodes_of old on.0).dependents (nodes_of old) u
  commit_at old new on u ne r =
      ap (λ o. node_as (data_in (option_map (λ s. s.kept) o))) (reported_at after_dependency_commit old new on u ne r)
      ∙ go (fin.get old.seats u) (is_id_among (record { 0 = u }) (data_of old on).dependents)
      ∙ ap (λ b. record (nodes_of old u) { waits = cond b ((nodes_of old u).waits - 1) (nodes_of old u).waits }) (among_is (record { 0 = u }) (data_of old on).dependents)
    where
      go : (o : Option (TableSeat (Node P))) (b : Bool) → node_as (data_in (option_map (λ s. s.kept) (option_map (with_data (changed_if b after_dependency_commit)) o))) ≡ record (node_as (data_in (option_map (λ s. s.kept) o))) { waits = cond b ((node_as (data_in (option_map (λ s. s.kept) o))).waits - 1) (node_as (data_in (option_map (λ s. s.kept) o))).waits }
      go None true = refl
      go None false = refl
      go (Some s) true = refl
      go (Some s) false = refl

  -- an abort, of one that is in the table
  abort_at : (old new : Txns (Node P)) (on : TxId) (u : ℕ) → u ≢ on.0 → is_some (fin.get old.seats u) ≡ true → IsReported (after_dependency_abort on) old new on → nodes_of new u ≡ nodes_after_abort on.0 (nodes_of old on.0).dependents (nodes_of old) u
  abort_at old new on u ne there r =
      ap (λ o. node_as (data_in (option_map (λ s. s.kept) o))) (reported_at (after_dependency_abort on) old new on u ne r)
      ∙ go (fin.get old.seats u) there (is_id_among (record { 0 = u }) (data_of old on).dependents)
      ∙ ap (λ b. record (nodes_of old u) { waits = cond b ((nodes_of old u).waits - 1) (nodes_of old u).waits; flag = cond b (or_flag on.0 (nodes_of old u).flag) (nodes_of old u).flag }) (among_is (record { 0 = u }) (data_of old on).dependents)
    where
      flagged : (a : Option TxId) → option_map (λ t. t.0) (Some (first_of a on)) ≡ or_flag on.0 (option_map (λ t. t.0) a)
      flagged None = refl
      flagged (Some f) = refl

      go : (o : Option (TableSeat (Node P))) → is_some o ≡ true → (b : Bool) → node_as (data_in (option_map (λ s. s.kept) (option_map (with_data (changed_if b (after_dependency_abort on))) o))) ≡ record (node_as (data_in (option_map (λ s. s.kept) o))) { waits = cond b ((node_as (data_in (option_map (λ s. s.kept) o))).waits - 1) (node_as (data_in (option_map (λ s. s.kept) o))).waits; flag = cond b (or_flag on.0 (node_as (data_in (option_map (λ s. s.kept) o))).flag) (node_as (data_in (option_map (λ s. s.kept) o))).flag }
      go None e b = absurd (false≢true e)
      go (Some s) e true = ap (λ f. record { waits = s.kept.dependencies.unsettled - 1; flag = f; dependents = map (λ t. t.0) s.kept.dependencies.dependents }) (flagged s.kept.dependencies.aborted)
      go (Some s) e false = refl

  -- ---- the reports
  pub commit_alike : (s : State) (old new : Txns (Node P)) (t : ℕ) (x : StampedTx) → IsSound s → IsSingle s → preparing_of t s.stamped ≡ Some x → IsReported after_dependency_commit old new (record { 0 = t }) → AreAlike (committed s t x.end) (nodes_after_commit (nodes_of old t).dependents (nodes_of old)) (nodes_of new)
  commit_alike s old new t x sd sg f r = record {
    active = each_weaker (λ q. q.id ≢ t) (λ q. nodes_of new q.id ≡ nodes_after_commit (nodes_of old t).dependents (nodes_of old) q.id) (λ q n. commit_at old new (record { 0 = t }) q.id n r) (committed s t x.end).active gone.active;
    preparing = each_weaker (λ y. y.settled ≡ false → y.id ≢ t) (λ y. y.settled ≡ false → nodes_of new y.id ≡ nodes_after_commit (nodes_of old t).dependents (nodes_of old) y.id) (λ y n o. commit_at old new (record { 0 = t }) y.id (n o) r) (committed s t x.end).stamped gone.preparing;
  }
    where
      gone : IsNowhere (committed s t x.end) t
      gone = nowhere (committed s t x.end) t (ap is_open_phase (leads_after_commit s t x f sd sg).own)

  pub commit_reported : (s : State) (old new : Txns (Node P)) (t : ℕ) (x : StampedTx) → IsSound s → IsSingle s → preparing_of t s.stamped ≡ Some x → HasNodes s (nodes_of old) → IsReported after_dependency_commit old new (record { 0 = t }) → HasNodes (committed s t x.end) (nodes_of new)
  commit_reported s old new t x sd sg f h r =
      let a = commit_alike s old new t x sd sg f r in
      nodes_elsewhere (committed s t x.end) (committed s t x.end).marks (committed s t x.end).ended (nodes_after_commit (nodes_of old t).dependents (nodes_of old)) (nodes_of new) a.active a.preparing (kept_commit s (nodes_of old) t x sd f h)

  pub commit_drawn : (s : State) (old new : Txns (Node P)) (t : ℕ) (x : StampedTx) → IsSound s → IsSingle s → preparing_of t s.stamped ≡ Some x → HasDrawnDependents s (nodes_of old) → IsReported after_dependency_commit old new (record { 0 = t }) → HasDrawnDependents (committed s t x.end) (nodes_of new)
  commit_drawn s old new t x sd sg f g r =
      let a = commit_alike s old new t x sd sg f r in
      drawn_elsewhere (committed s t x.end) (committed s t x.end).marks (committed s t x.end).ended (nodes_after_commit (nodes_of old t).dependents (nodes_of old)) (nodes_of new) a.active a.preparing (drawn_committed s (nodes_of old) t x.end (nodes_of old t).dependents g)

  -- who is in the table
  pub seated : (s : State) (old : Txns (Node P)) (u : ℕ) → phases_of (state_of old) u ≡ phase_in s u → is_open_phase (phase_in s u) ≡ true → is_some (fin.get old.seats u) ≡ true
  seated s old u p o = go (fin.get old.seats u) refl
    where
      go : (w : Option (TableSeat (Node P))) → fin.get old.seats u ≡ w → is_some w ≡ true
      go (Some seat) e = refl
      go None e = absurd (false≢true (sym (ap (λ x. is_open_phase (phase_as (option_map (λ seat. seat.state) x))) e) ∙ ap is_open_phase p ∙ o))

  -- each that is Active or Preparing is in the table
  abbrev pub AreSeated : State → Txns (Node P) → Type 0
  AreSeated s t = (u : ℕ) → is_open_phase (phase_in s u) ≡ true → is_some (fin.get t.seats u) ≡ true

  pub abort_alike : (s : State) (old new : Txns (Node P)) (t : ℕ) (x : StampedTx) → IsSound s → IsSingle s → preparing_of t s.stamped ≡ Some x → AreSeated s old → IsReported (after_dependency_abort (record { 0 = t })) old new (record { 0 = t }) → AreAlike (after_abort_of_preparing s t x.end) (nodes_after_abort t (nodes_of old t).dependents (nodes_of old)) (nodes_of new)
  abort_alike s old new t x sd sg f seats r = record {
    active = each_both (λ q. q.id ≢ t) (λ q. is_some (fin.get old.seats q.id) ≡ true) (λ q. nodes_of new q.id ≡ nodes_after_abort t (nodes_of old t).dependents (nodes_of old) q.id) (λ q n i. abort_at old new (record { 0 = t }) q.id n i r) (after_abort_of_preparing s t x.end).active gone.active
        (each_map (active_with_flag t x.end) (λ q. is_some (active_of q.id s.active) ≡ true) (λ q. is_some (fin.get old.seats q.id) ≡ true) (λ q e. seats q.id (open_active s q.id e)) s.active (active_there s.active));
    preparing = each_both (λ y. y.settled ≡ false → y.id ≢ t) (λ y. y.settled ≡ false → is_some (fin.get old.seats y.id) ≡ true) (λ y. y.settled ≡ false → nodes_of new y.id ≡ nodes_after_abort t (nodes_of old t).dependents (nodes_of old) y.id) (λ y n i o. abort_at old new (record { 0 = t }) y.id (n o) (i o) r) (after_abort_of_preparing s t x.end).stamped gone.preparing
        (each_map (with_flag t x.end) (λ y. y.settled ≡ false → is_some (preparing_of y.id s.stamped) ≡ true) (λ y. y.settled ≡ false → is_some (fin.get old.seats y.id) ≡ true) (λ y e o. seats y.id (open_preparing s y.id (e o))) (filter (not_at x.end) s.stamped)
        (each_filter (not_at x.end) (λ y. y.settled ≡ false → is_some (preparing_of y.id s.stamped) ≡ true) (λ y. y.settled ≡ false → is_some (preparing_of y.id s.stamped) ≡ true) (λ y _ e. e) s.stamped (preparing_there s.stamped)));
  }
    where
      gone : IsNowhere (after_abort_of_preparing s t x.end) t
      gone = nowhere (after_abort_of_preparing s t x.end) t (ap is_open_phase (leads_after_abort_of_preparing s t x f sd sg).own)

  pub abort_reported : (s : State) (old new : Txns (Node P)) (t : ℕ) (x : StampedTx) → IsSound s → IsSingle s → preparing_of t s.stamped ≡ Some x → AreSeated s old → HasNodes s (nodes_of old) → IsReported (after_dependency_abort (record { 0 = t })) old new (record { 0 = t }) → HasNodes (after_abort_of_preparing s t x.end) (nodes_of new)
  abort_reported s old new t x sd sg f seats h r =
      let a = abort_alike s old new t x sd sg f seats r in
      nodes_elsewhere (after_abort_of_preparing s t x.end) (after_abort_of_preparing s t x.end).marks (after_abort_of_preparing s t x.end).ended (nodes_after_abort t (nodes_of old t).dependents (nodes_of old)) (nodes_of new) a.active a.preparing (kept_abort s (nodes_of old) t x f h)

  pub abort_drawn : (s : State) (old new : Txns (Node P)) (t : ℕ) (x : StampedTx) → IsSound s → IsSingle s → preparing_of t s.stamped ≡ Some x → AreSeated s old → HasDrawnDependents s (nodes_of old) → IsReported (after_dependency_abort (record { 0 = t })) old new (record { 0 = t }) → HasDrawnDependents (after_abort_of_preparing s t x.end) (nodes_of new)
  abort_drawn s old new t x sd sg f seats g r =
      let a = abort_alike s old new t x sd sg f seats r in
      drawn_elsewhere (after_abort_of_preparing s t x.end) (after_abort_of_preparing s t x.end).marks (after_abort_of_preparing s t x.end).ended (nodes_after_abort t (nodes_of old t).dependents (nodes_of old)) (nodes_of new) a.active a.preparing (drawn_reported s (nodes_of old) t x.end (nodes_of old t).dependents g)

  -- an Active one: nobody depended on it, so that nobody is told
  pub undone_at : (old new : Txns (Node P)) (t : ℕ) → (nodes_of old t).dependents ≡ [] → IsReported (after_dependency_abort (record { 0 = t })) old new (record { 0 = t }) → (u : ℕ) → u ≢ t → nodes_of new u ≡ nodes_of old u
  undone_at old new t none r u ne =
      ap (λ o. node_as (data_in (option_map (λ s. s.kept) o))) (reported_at (after_dependency_abort (record { 0 = t })) old new (record { 0 = t }) u ne r)
      ∙ ap (λ b. node_as (data_in (option_map (λ s. s.kept) (option_map (with_data (changed_if b (after_dependency_abort (record { 0 = t })))) (fin.get old.seats u))))) (among_is (record { 0 = u }) (data_of old (record { 0 = t })).dependents ∙ ap (λ ds. has_end ds u) none)
      ∙ same (fin.get old.seats u)
    where
      same : (o : Option (TableSeat (Node P))) → node_as (data_in (option_map (λ s. s.kept) (option_map (with_data (changed_if false (after_dependency_abort (record { 0 = t })))) o))) ≡ node_as (data_in (option_map (λ s. s.kept) o))
      same None = refl
      same (Some s) = refl

  -- what one keeps that isn't Active or Preparing doesn't matter
  pub left_alike : (s : State) (old new : Txns (Node P)) (t : ℕ) → is_open_phase (phase_in s t) ≡ false → ((u : ℕ) → u ≢ t → nodes_of new u ≡ nodes_of old u) → AreAlike s (nodes_of old) (nodes_of new)
  left_alike s old new t closed same =
      let gone = nowhere s t closed in
      record {
        active = each_weaker (λ q. q.id ≢ t) (λ q. nodes_of new q.id ≡ nodes_of old q.id) (λ q n. same q.id n) s.active gone.active;
        preparing = each_weaker (λ y. y.settled ≡ false → y.id ≢ t) (λ y. y.settled ≡ false → nodes_of new y.id ≡ nodes_of old y.id) (λ y n o. same y.id (n o)) s.stamped gone.preparing;
      }
