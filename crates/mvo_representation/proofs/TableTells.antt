-- What the table tells of dependencies is what the state has.
use Rattle.std.proofs.Common.{◌≡◌, ℕ, ◌≤◌, true, false, List, Option, None, Some, refl, sym, ap, ◌∙◌, subst, arith}
use Rattle.std.specs.Prelude.{nat_lt, MatchOption}
use Rattle.std.specs.List.{AllByRecursion}
use Rattle.std.specs.Option.{option_map, is_some}
use Rattle.std.proofs.lemmas.Bool.{true≢false}
use Rattle.mvo_types.specs.declared.ids.TxId.{TxId}
use Rattle.mvo_types.specs.Keys.{Map}
use Rattle.mvo_model.specs.Trace.Phase.{Preparing as PreparingPhase}
use Rattle.mvo_theory.specs.State.{State, StampedTx, active_of, preparing_of}
use Rattle.mvo_theory.specs.Causes.{flag_of_active, flag_of_preparing, waiting_for, awaited_by, awaited}
use Rattle.mvo_theory.specs.Dependencies.{has_end}
use Rattle.mvo_shared.specs.Standing.{IsStanding}
use Rattle.mvo_theory.proofs.Causes.{waiting_none, waiting_is, waiting_least}
use Rattle.mvo_theory.proofs.Each.{each_both}
use Rattle.mvo_theory.proofs.Traced.{ends_differ}
use Rattle.mvo_theory.proofs.Who.{active_holds}
use Rattle.mvo_txn.specs.declared.state.TxState.{TxState}
use Rattle.mvo_txn.specs.declared.state.TxState.TheVariants.{Active, Preparing, Committed, Aborted}
use Rattle.mvo_txn.specs.Txns.{Txns, state_of, IsPreparingState}
use Rattle.mvo_txn.specs.Queue.{open_end}
use Rattle.mvo_deps.specs.declared.node.Node.{Node}
use Rattle.mvo_deps.specs.Data.{is_id_among}
use Rattle.mvo_deps.specs.Nodes.{data_of}
use Rattle.mvo_deps.specs.Waiting.{IsOpenEnd, HasNoneOpen, IsLeastOpen}
use Rattle.mvo_deps.proofs.Counter.{waits_by_counter}
use Rattle.mvo_deps.proofs.Registered.{there_if_preparing}
use Rattle.mvo_representation.specs.Nodes.{nodes_of, IsNode, AreDependents}
use Rattle.mvo_representation.specs.Table.{phase_as}
use Rattle.mvo_representation.specs.Dependencies.{HasDependencies, tx_id}
use Rattle.mvo_representation.proofs.Facts.{found_holds, preparing_is, phase_preparing}
use Rattle.mvo_representation.proofs.NodesReported.{among_is}
use Rattle.mvo_representation.proofs.Tabled.{active_is}
use Rattle.mvo_representation.proofs.TableNodes.{preparing_state}
use Rattle.mvo_representation.proofs.Unsettled.{found_itself, waiting_holds}

-- one that is Preparing in a phase is so in the table
pub open_phase : (o : Option TxState) (e : ℕ) → phase_as o ≡ PreparingPhase e → open_end o ≡ Some e
open_phase None e q = cc
open_phase (Some Active) e q = cc
open_phase (Some (Preparing n)) e q = cc
open_phase (Some (Committed n)) e q = cc
open_phase (Some Aborted) e q = cc

pub phase_open : (o : Option TxState) (e : ℕ) → open_end o ≡ Some e → phase_as o ≡ PreparingPhase e
phase_open None e q = cc
phase_open (Some Active) e q = cc
phase_open (Some (Preparing n)) e q = cc
phase_open (Some (Committed n)) e q = cc
phase_open (Some Aborted) e q = cc

module _ {P : Type 0} where
  -- ---- flags
  pub flag_of_active_is : (s : State) (table : Txns (Node P)) (t : ℕ) → HasDependencies s table → state_of table t ≡ Some Active → (nodes_of table t).flag ≡ flag_of_active (active_of t s.active)
  flag_of_active_is s table t h was =
      let found = active_is s t (sym (h.stands.phases t) ∙ ap phase_as was) in
      let w = active_holds (λ q. IsNode s.stamped q.depends_on q.aborted_dependency (nodes_of table q.id)) t s.active found.0 found.1 h.nodes.active in
      ap (λ (u : ℕ). (nodes_of table u).flag) (sym w.1) ∙ w.0.flag ∙ sym (ap flag_of_active found.1)

  -- the Preparing one
  pub preparing_found_in : (s : State) (table : Txns (Node P)) (t : ℕ) → HasDependencies s table → IsPreparingState (state_of table t) → (x : StampedTx) × (preparing_of t s.stamped ≡ Some x)
  preparing_found_in s table t h prep =
      let e = preparing_state (state_of table t) prep in
      let x = preparing_is s t e.0.0 (sym (h.stands.phases t) ∙ ap phase_as e.1) in
      (x.0, x.1)

  pub flag_of_preparing_is : (s : State) (table : Txns (Node P)) (t : ℕ) → HasDependencies s table → IsPreparingState (state_of table t) → (nodes_of table t).flag ≡ flag_of_preparing (preparing_of t s.stamped)
  flag_of_preparing_is s table t h prep =
      let found = preparing_found_in s table t h prep in
      let w = found_holds (λ x. x.settled ≡ false → IsNode s.stamped x.depends_on x.aborted_dependency (nodes_of table x.id)) t s.stamped found.0 found.1 h.nodes.preparing in
      ap (λ (u : ℕ). (nodes_of table u).flag) (sym w.1) ∙ (w.0 w.2).flag ∙ sym (ap flag_of_preparing found.1)

  -- ---- whom a Preparing one waits for
  module _ (opening : Map) (s : State) (table : Txns (Node P)) (t : TxId) (k : IsStanding opening s) (h : HasDependencies s table) (prep : IsPreparingState (state_of table t.0)) (x : StampedTx) (f : preparing_of t.0 s.stamped ≡ Some x) where
    -- each Preparing one stands so in the table, and is among those that it depends on just where it is so in the state
    record IsOn (y : StampedTx) : Type 0 where
      pub open_end_is : open_end (state_of table y.id) ≡ Some y.end
      pub on_is : is_id_among (tx_id y.id) (data_of table t).on ≡ has_end x.depends_on y.end

    it : ((y : StampedTx) → y.settled ≡ false → preparing_of y.id s.stamped ≡ Some y → AreDependents s (nodes_of table y.id).dependents y.end → IsOn y)
    it y o g d =
        let opened : open_end (state_of table y.id) ≡ Some y.end = open_phase (state_of table y.id) y.end (h.stands.phases y.id ∙ phase_preparing s y.id y k.single g) in
        let w = found_holds (λ z. z.settled ≡ false → has_end (nodes_of table y.id).dependents z.id ≡ has_end z.depends_on y.end) t.0 s.stamped x f d.preparing in
        record {
          open_end_is = opened;
          on_is = sym (h.graph.both_sides t (tx_id y.id) (there_if_preparing table t prep) (ap is_some opened))
              ∙ among_is t (data_of table (tx_id y.id)).dependents
              ∙ ap (has_end (nodes_of table y.id).dependents) (sym w.1)
              ∙ w.0 w.2;
        }

    all_on : AllByRecursion (λ y. y.settled ≡ false → IsOn y) s.stamped
    all_on = each_both (λ y. y.settled ≡ false → preparing_of y.id s.stamped ≡ Some y) (λ y. y.settled ≡ false → AreDependents s (nodes_of table y.id).dependents y.end) (λ y. y.settled ≡ false → IsOn y) (λ y a b o. it y o (a o) (b o)) s.stamped (found_itself s k.single) h.nodes.dependents

    -- who is open in the table is open in the state
    record IsOpenThere (id : TxId) (e : ℕ) : Type 0 where
      pub it : StampedTx
      pub found : preparing_of id.0 s.stamped ≡ Some it
      pub ends : it.end ≡ e
      pub is : it.id ≡ id.0
      pub waits : it.settled ≡ false
      pub on : has_end x.depends_on it.end ≡ true

    open_there : (id : TxId) (e : ℕ) → IsOpenEnd table (data_of table t).on id e → IsOpenThere id e
    open_there id e o =
        let g = preparing_is s id.0 e (sym (h.stands.phases id.0) ∙ phase_open (state_of table id.0) e o.open_end_is) in
        let w = found_holds (λ y. y.settled ≡ false → IsOn y) id.0 s.stamped g.0 g.1 all_on in
        record {
          it = g.0;
          found = g.1;
          ends = g.2;
          is = w.1;
          waits = w.2;
          on = sym (w.0 w.2).on_is ∙ ap (λ (u : ℕ). is_id_among (tx_id u) (data_of table t).on) w.1 ∙ o.among;
        }

    least_in : (o : Option StampedTx) → waiting_for x.depends_on s.stamped ≡ o → MatchOption (option_map (λ y. tx_id y.id) o) (HasNoneOpen table (data_of table t).on) (IsLeastOpen table (data_of table t).on)
    least_in None w = record {
      none = λ id e o.
          let g = open_there id e o in
          let n = found_holds (λ y. y.settled ≡ false → has_end x.depends_on y.end ≡ false) id.0 s.stamped g.it g.found (waiting_none x.depends_on s.stamped w) in
          true≢false (sym g.on ∙ n.0 g.waits);
    }
    least_in (Some y) w =
        let q = waiting_holds (λ z. z.settled ≡ false → IsOn z) x.depends_on s.stamped y w all_on in
        let p = waiting_is x.depends_on s.stamped y w in
        record {
          end = y.end;
          is_open = record { among = (q p.0).on_is ∙ p.1; open_end_is = (q p.0).open_end_is };
          least = λ other later o.
              let g = open_there other later o in
              let n = found_holds (λ z. z.settled ≡ false → has_end x.depends_on z.end ≡ true → y.end ≤ z.end) other.0 s.stamped g.it g.found (waiting_least x.depends_on s.stamped y k.sound.rising w) in
              subst (λ (e : ℕ). y.end ≤ e) g.ends (n.0 g.waits g.on);
        }

    -- who has the least end is the one
    same_ids : (a b : TxId) (e : ℕ) → IsOpenEnd table (data_of table t).on a e → IsOpenEnd table (data_of table t).on b e → a.0 ≡ b.0
    same_ids a b e o p =
        let g = open_there a e o in
        let m = open_there b e p in
        let d = found_holds (λ y. AllByRecursion (λ z. z.end ≡ y.end → z.id ≡ y.id) s.stamped) b.0 s.stamped m.it m.found (ends_differ s.stamped k.sound.rising) in
        let c = found_holds (λ z. z.end ≡ m.it.end → z.id ≡ m.it.id) a.0 s.stamped g.it g.found d.0 in
        sym g.is ∙ c.0 (g.ends ∙ sym m.ends) ∙ m.is

    same_least : (a b : Option TxId) → MatchOption a (HasNoneOpen table (data_of table t).on) (IsLeastOpen table (data_of table t).on) → MatchOption b (HasNoneOpen table (data_of table t).on) (IsLeastOpen table (data_of table t).on) → option_map (λ id. id.0) a ≡ option_map (λ id. id.0) b
    same_least None None n m = refl
    same_least None (Some b) n m = absurd (n.none b m.end m.is_open)
    same_least (Some a) None n m = absurd (m.none a n.end n.is_open)
    same_least (Some a) (Some b) n m =
        let l = n.least b m.end m.is_open in
        let r = m.least a n.end n.is_open in
        let e : n.end ≡ m.end = omega (arith, l, r) in
        ap Some (same_ids a b m.end (subst (λ (u : ℕ). IsOpenEnd table (data_of table t).on a u) e n.is_open) m.is_open)

    id_within : (o : Option StampedTx) → option_map (λ id. id.0) (option_map (λ y. tx_id y.id) o) ≡ option_map (λ y. y.id) o
    id_within None = refl
    id_within (Some y) = refl

    some_within : (o : Option StampedTx) → is_some o ≡ is_some (option_map (λ y. tx_id y.id) o)
    some_within None = refl
    some_within (Some y) = refl

    awaited_at : awaited s t.0 ≡ waiting_for x.depends_on s.stamped
    awaited_at = ap (awaited_by s.stamped) f

    pub awaited_found : (whom : Option TxId) → MatchOption whom (HasNoneOpen table (data_of table t).on) (IsLeastOpen table (data_of table t).on) → option_map (λ id. id.0) whom ≡ option_map (λ y. y.id) (awaited s t.0)
    awaited_found whom m =
        same_least whom (option_map (λ y. tx_id y.id) (waiting_for x.depends_on s.stamped)) m (least_in (waiting_for x.depends_on s.stamped) refl)
        ∙ id_within (waiting_for x.depends_on s.stamped)
        ∙ ap (option_map (λ y. y.id)) (sym awaited_at)

    pub counted_found : is_some (awaited s t.0) ≡ nat_lt 0 (data_of table t).unsettled
    counted_found =
        ap is_some awaited_at
        ∙ some_within (waiting_for x.depends_on s.stamped)
        ∙ waits_by_counter table t (option_map (λ y. tx_id y.id) (waiting_for x.depends_on s.stamped)) h.aborted (least_in (waiting_for x.depends_on s.stamped) refl) h.graph

  pub awaited_is : (opening : Map) (s : State) (table : Txns (Node P)) (t : TxId) (whom : Option TxId) → IsStanding opening s → HasDependencies s table → IsPreparingState (state_of table t.0) → MatchOption whom (HasNoneOpen table (data_of table t).on) (IsLeastOpen table (data_of table t).on) → option_map (λ id. id.0) whom ≡ option_map (λ y. y.id) (awaited s t.0)
  awaited_is opening s table t whom k h prep m =
      let found = preparing_found_in s table t.0 h prep in
      awaited_found opening s table t k h prep found.0 found.1 whom m

  pub counted_is : (opening : Map) (s : State) (table : Txns (Node P)) (t : TxId) → IsStanding opening s → HasDependencies s table → IsPreparingState (state_of table t.0) → is_some (awaited s t.0) ≡ nat_lt 0 (data_of table t).unsettled
  counted_is opening s table t k h prep =
      let found = preparing_found_in s table t.0 h prep in
      counted_found opening s table t k h prep found.0 found.1
