-- An operation is answered, and those are registered on whom it lets the transaction depend.
use Rattle.std.proofs.Common.{◌≡◌, ◌≢◌, ◌⊎◌, inl, inr, ℕ, ◌≤◌, Bool, true, false, cond, eqb, ◌||◌, List, [], ◌∷◌, Option, None, Some, refl, sym, ap, ◌∙◌, subst, arith}
use Rattle.std.specs.Prelude.{◌==◌, IsSome}
use Rattle.std.specs.List.{AllByRecursion}
use Rattle.std.specs.Option.{is_some}
use Rattle.std.specs.FinMap.{get}
use Rattle.std.proofs.lemmas.Bool.{cases_eq, eqb-true, false≢true}
use Rattle.mvo_types.specs.declared.ids.TxId.{TxId}
use Rattle.mvo_types.specs.declared.op.Op.{Op}
use Rattle.mvo_types.specs.AnswerData.{AnswerData}
use Rattle.mvo_types.specs.Keys.{Map}
use Rattle.mvo_theory.specs.State.{State, ActiveTx, StampedTx, Claim, active_of, preparing_of, is_active_as, is_preparing_as}
use Rattle.mvo_theory.specs.Changes.{with_answer, after_operation, taken_over, after_answer, with_words}
use Rattle.mvo_theory.specs.Claims.{new_claim}
use Rattle.mvo_theory.specs.Words.{words_without}
use Rattle.mvo_theory.specs.Dependencies.{has_end, dependencies}
use Rattle.mvo_theory.specs.Phases.{phase_in}
use Rattle.mvo_theory.specs.Sound.{IsActive}
use Rattle.mvo_shared.specs.Standing.{IsStanding}
use Rattle.mvo_theory.proofs.Each.{each_both, each_map, each_weaker, each_always}
use Rattle.mvo_theory.proofs.Finds.{find_none}
use Rattle.mvo_theory.proofs.Phases.{leads_after_operation}
use Rattle.mvo_theory.proofs.Single.{active_found, preparing_found, active_alone, preparing_alone}
use Rattle.mvo_theory.proofs.Who.{active_holds, id_of}
use Rattle.mvo_theory.proofs.EndSteps.{or_none}
use Rattle.mvo_txn.specs.Txns.{Txns, state_of}
use Rattle.mvo_deps.specs.declared.node.Node.{Node}
use Rattle.mvo_deps.specs.Data.{is_id_among}
use Rattle.mvo_deps.specs.Nodes.{after_register, after_register_all}
use Rattle.mvo_deps.specs.Graph.{is_id_preparing, IsDependencyGraph}
use Rattle.mvo_deps.proofs.Grown.{state_registered, clock_registered, kept_registered}
use Rattle.mvo_deps.proofs.Registered.{there_if_preparing}
use Rattle.mvo_representation.specs.Nodes.{Nodes, nodes_of, HasNodes, HasDrawnDependents}
use Rattle.mvo_representation.specs.Table.{phase_as}
use Rattle.mvo_representation.specs.Dependencies.{HasDependencies, AreDependencies, tx_id}
use Rattle.mvo_representation.proofs.Answers.{only_mine}
use Rattle.mvo_representation.proofs.Facts.{phase_active, phase_preparing}
use Rattle.mvo_representation.proofs.Members.{with_ends, active_with_ends, after_ends, has_with_ends, after_no_ends, after_one_more, nodes_by_members, drawn_by_members}
use Rattle.mvo_representation.proofs.NodesRegistered.{MayRegister, dependency_registered, dependency_drawn}
use Rattle.mvo_representation.proofs.NodesReported.{active_none, preparing_none, is_open_phase, seated}
use Rattle.mvo_representation.proofs.Reported.{IsNew, its_dependents, its_open, swap_eq}
use Rattle.mvo_representation.proofs.Tabled.{table_alike, phase_taken_over}
use Rattle.mvo_representation.proofs.TableSteps.{nodes_beside, drawn_beside}
use Rattle.mvo_representation.proofs.TableTells.{open_phase}
use Rattle.mvo_representation.proofs.Unsettled.{alone, none_some}

or_turned : (a b : Bool) → (a || b) ≡ (b || a)
or_turned true true = refl
or_turned true false = refl
or_turned false true = refl
or_turned false false = refl

-- (a || (b || c)) with b and a turned
or_passed : (a b c : Bool) → (a || (b || c)) ≡ ((b || a) || c)
or_passed true true c = refl
or_passed true false c = refl
or_passed false true c = refl
or_passed false false c = refl

module _ {P : Type 0} (opening : Map) (s : State) (old : Txns (Node P)) (r : ActiveTx) (k : IsStanding opening s) (h : HasDependencies s old) (f : active_of r.id s.active ≡ Some r) where
  abbrev mine : TxId
  mine = tx_id r.id

  nobody : preparing_of r.id s.stamped ≡ None
  nobody = preparing_found r.id s.stamped ∙ find_none (is_preparing_as r.id) s.stamped (let l = active_alone s r.id r f k.single in omega arith)

  drawn_id : r.id ≤ s.clock
  drawn_id = (active_holds (IsActive s.base s.stamped s.clock) r.id s.active r f k.sound.active).0.drawn

  -- of a Preparing one
  module _ (id : TxId) (x : StampedTx) (g : preparing_of id.0 s.stamped ≡ Some x) where
    new : (es : List ℕ) → IsNew (after_ends s r.id es) r.id id.0 x.end
    new es = record { there = its_open s id.0 x k.sound g; alone = alone s k.single k.sound.rising id.0 x g; apart = preparing_none r.id s.stamped nobody }

    away : AllByRecursion (λ q. q.id ≢ id.0) s.active
    away = active_none id.0 s.active (active_found id.0 s.active ∙ find_none (is_active_as id.0) s.active (let l = preparing_alone s id.0 x g k.single in omega arith))

    other : r.id ≢ id.0
    other e = none_some x (sym nobody ∙ ap (λ (n : ℕ). preparing_of n s.stamped) e ∙ g)

  -- ---- as far as some are registered
  record HasEnds (table : Txns (Node P)) (es : List ℕ) : Type 0 where
    pub clock : table.clock ≡ old.clock
    pub states : (u : ℕ) → state_of table u ≡ state_of old u
    pub nodes : HasNodes (after_ends s r.id es) (nodes_of table)
    pub drawn : HasDrawnDependents (after_ends s r.id es) (nodes_of table)
    pub graph : IsDependencyGraph table h.aborted

  stands : (table : Txns (Node P)) → ((u : ℕ) → state_of table u ≡ state_of old u) → (u : ℕ) → phase_as (state_of table u) ≡ phase_in s u
  stands table same u = ap phase_as (same u) ∙ h.stands.phases u

  one_registered : (table : Txns (Node P)) (es : List ℕ) (id : TxId) (x : StampedTx) → preparing_of id.0 s.stamped ≡ Some x → HasEnds table es → HasEnds (after_register table mine id) (x.end ∷ es)
  one_registered table es id x g w =
      let prep : is_id_preparing table id ≡ true = ap is_some (open_phase (state_of table id.0) x.end (stands table w.states id.0 ∙ phase_preparing s id.0 x k.single g)) in
      let there : is_some (get table.seats r.id) ≡ true = seated s table r.id (stands table w.states r.id) (ap is_open_phase (phase_active s r.id r f)) in
      let may : MayRegister table mine id = record {
        apart = other id x g;
        there = there;
        other = there_if_preparing table id prep;
        mutual' = λ e. w.graph.both_sides mine id there prep ∙ e;
      } in
      record {
        clock = clock_registered table mine id ∙ w.clock;
        states = λ u. state_registered table mine id u ∙ w.states u;
        nodes = subst (λ (z : State). HasNodes z (nodes_of (after_register table mine id))) (after_one_more s r.id x.end es)
            (dependency_registered (after_ends s r.id es) table mine id x.end k.sound.rising (new id x g es) (its_dependents (after_ends s r.id es) (nodes_of table) id.0 x w.nodes g) may w.nodes);
        drawn = subst (λ (z : State). HasDrawnDependents z (nodes_of (after_register table mine id))) (after_one_more s r.id x.end es)
            (dependency_drawn (after_ends s r.id es) table mine id x.end drawn_id (each_map (active_with_ends r.id es) (λ q. q.id ≢ id.0) (λ q. q.id ≢ id.0) (λ q n. n) s.active (away id x g)) may w.drawn);
        graph = kept_registered table h.aborted mine id there prep w.graph;
      }

  -- these ends are of just those that are registered, and of those before
  abbrev AreOf : List TxId → List ℕ → List ℕ → Type 0
  AreOf ids es es' = AllByRecursion (λ y. y.settled ≡ false → has_end es' y.end ≡ (is_id_among (tx_id y.id) ids || has_end es y.end)) s.stamped

  -- those that are left are registered
  abbrev Registers : Txns (Node P) → List ℕ → List TxId → Type 0
  Registers table es ids = (es' : List ℕ) × HasEnds (after_register_all table mine ids) es' × AreOf ids es es'

  all_registered : (table : Txns (Node P)) (es : List ℕ) (ids : List TxId) → AllByRecursion (λ id. IsSome (preparing_of id.0 s.stamped)) ids → HasEnds table es → Registers table es ids
  all_registered table es [] p w = (es, w, each_always (λ y. y.settled ≡ false → has_end es y.end ≡ has_end es y.end) (λ y o. refl) s.stamped)
  all_registered table es (id ∷ ids) p w = go (preparing_of id.0 s.stamped) refl p.0 (λ x w'. all_registered (after_register table mine id) (x.end ∷ es) ids p.1 w')
    where
      go : (o : Option StampedTx) → preparing_of id.0 s.stamped ≡ o → IsSome o → ((x : StampedTx) → HasEnds (after_register table mine id) (x.end ∷ es) → Registers (after_register table mine id) (x.end ∷ es) ids) → Registers table es (id ∷ ids)
      go None g i again = absurd (false≢true i)
      go (Some x) g i again =
          let rest = again x (one_registered table es id x g w) in (
            rest.0,
            rest.1,
            each_both (λ y. y.settled ≡ false → has_end rest.0 y.end ≡ (is_id_among (tx_id y.id) ids || ((x.end == y.end) || has_end es y.end))) (λ y. y.settled ≡ false → (y.id == id.0) ≡ (y.end == x.end)) (λ y. y.settled ≡ false → has_end rest.0 y.end ≡ ((eqb id.0 y.id || is_id_among (tx_id y.id) ids) || has_end es y.end))
                (λ y a b o.
                a o
                ∙ ap (λ c. is_id_among (tx_id y.id) ids || (c || has_end es y.end)) (swap_eq x.end y.end ∙ sym (b o) ∙ swap_eq y.id id.0)
                ∙ or_passed (is_id_among (tx_id y.id) ids) (eqb id.0 y.id) (has_end es y.end)) s.stamped rest.2 (alone s k.single k.sound.rising id.0 x g),
          )

  -- ---- the answer
  none_yet : HasEnds old []
  none_yet = record {
    clock = refl;
    states = λ u. refl;
    nodes = subst (λ (z : State). HasNodes z (nodes_of old)) (sym (after_no_ends s r.id)) h.nodes;
    drawn = subst (λ (z : State). HasDrawnDependents z (nodes_of old)) (sym (after_no_ends s r.id)) h.drawn;
    graph = h.graph;
  }

  same_open : (op : Op) (a : AnswerData) (ids : List TxId) (es : List ℕ) → AreDependencies s op r ids → AreOf ids [] es → (q : ActiveTx) → (q.id ≡ r.id → q ≡ r) → AllByRecursion (λ y. y.settled ≡ false → has_end (active_with_ends r.id es q).depends_on y.end ≡ has_end (with_answer s r.id op a q).depends_on y.end) s.stamped
  same_open op a ids es d of q own = each_both (λ y. y.settled ≡ false → has_end es y.end ≡ (is_id_among (tx_id y.id) ids || false)) (λ y. y.settled ≡ false → has_end (dependencies s op r) y.end ≡ (has_end r.depends_on y.end || is_id_among (tx_id y.id) ids)) (λ y. y.settled ≡ false → has_end (cond (q.id == r.id) (with_ends q.depends_on es) q.depends_on) y.end ≡ has_end (cond (q.id == r.id) (dependencies s op q) q.depends_on) y.end)
      (λ y m j o. by y (m o) (j o) (q.id == r.id) refl) s.stamped of d.just
    where
      by : (y : StampedTx) → has_end es y.end ≡ (is_id_among (tx_id y.id) ids || false) → has_end (dependencies s op r) y.end ≡ (has_end r.depends_on y.end || is_id_among (tx_id y.id) ids) → (b : Bool) → (q.id == r.id) ≡ b → has_end (cond b (with_ends q.depends_on es) q.depends_on) y.end ≡ has_end (cond b (dependencies s op q) q.depends_on) y.end
      by y m j false e = refl
      by y m j true e =
          let same = own (eqb-true q.id r.id e) in
          has_with_ends q.depends_on es y.end
          ∙ ap (λ c. c || has_end q.depends_on y.end) (m ∙ or_none (is_id_among (tx_id y.id) ids))
          ∙ or_turned (is_id_among (tx_id y.id) ids) (has_end q.depends_on y.end)
          ∙ ap (λ (z : ActiveTx). has_end z.depends_on y.end || is_id_among (tx_id y.id) ids) same
          ∙ sym j
          ∙ ap (λ (z : ActiveTx). has_end (dependencies s op z) y.end) (sym same)

  phase_answered : (op : Op) (a : AnswerData) (u : ℕ) → phase_in (after_answer s r.id op a) u ≡ phase_in s u
  phase_answered op a u = phase_taken_over (after_operation s r.id op a) (new_claim s r.id op a) u ∙ go (cases_eq r.id u)
    where
      go : (r.id ≡ u) ⊎ (r.id ≢ u) → phase_in (after_operation s r.id op a) u ≡ phase_in s u
      go (inl e) = subst (λ (n : ℕ). phase_in (after_operation s r.id op a) n ≡ phase_in s n) e (leads_after_operation s r.id op a).own
      go (inr n) = (leads_after_operation s r.id op a).others u n

  nodes_over : (o : Option Claim) (z : State) (nodes : Nodes) → HasNodes z nodes → HasNodes (taken_over o z) nodes
  nodes_over None z nodes n = n
  nodes_over (Some c) z nodes n = nodes_beside z z.marks (with_words (λ u. words_without c u.outcome u.words) z).ended nodes n

  drawn_over : (o : Option Claim) (z : State) (nodes : Nodes) → HasDrawnDependents z nodes → HasDrawnDependents (taken_over o z) nodes
  drawn_over None z nodes n = n
  drawn_over (Some c) z nodes n = drawn_beside z z.marks (with_words (λ u. words_without c u.outcome u.words) z).ended nodes n

  clock_over : (o : Option Claim) (z : State) → (taken_over o z).clock ≡ z.clock
  clock_over None z = refl
  clock_over (Some c) z = refl

  pub answered : (op : Op) (a : AnswerData) (ids : List TxId) → AreDependencies s op r ids → HasDependencies (after_answer s r.id op a) (after_register_all old mine ids)
  answered op a ids d =
      let all = all_registered old [] ids d.preparing none_yet in
      let w = all.1 in
      let same = each_weaker (λ q. q.id ≡ r.id → q ≡ r) (λ q. AllByRecursion (λ y. y.settled ≡ false → has_end (active_with_ends r.id all.0 q).depends_on y.end ≡ has_end (with_answer s r.id op a q).depends_on y.end) s.stamped) (λ q own. same_open op a ids all.0 d all.2 q own) s.active (only_mine r.id r s.active k.numbered.distinct f) in
      record {
        stands = table_alike s (after_answer s r.id op a) old (after_register_all old mine ids) h.stands w.clock (clock_over (new_claim s r.id op a) (after_operation s r.id op a)) w.states (phase_answered op a);
        nodes = nodes_over (new_claim s r.id op a) (after_operation s r.id op a) (nodes_of (after_register_all old mine ids)) (nodes_by_members s (nodes_of (after_register_all old mine ids)) r.id all.0 op a same w.nodes);
        drawn = drawn_over (new_claim s r.id op a) (after_operation s r.id op a) (nodes_of (after_register_all old mine ids)) (drawn_by_members s (nodes_of (after_register_all old mine ids)) r.id all.0 op a w.drawn);
        aborted = h.aborted;
        graph = w.graph;
      }

pub table_answered : {P : Type 0} (opening : Map) (s : State) (old : Txns (Node P)) (t : TxId) (op : Op) (a : AnswerData) (r : ActiveTx) (ids : List TxId) → IsStanding opening s → HasDependencies s old → active_of t.0 s.active ≡ Some r → AreDependencies s op r ids → HasDependencies (after_answer s t.0 op a) (after_register_all old t ids)
table_answered opening s old t op a r ids k h f d =
    let is : r.id ≡ t.0 = id_of t.0 s.active r f in
    subst (λ (u : ℕ). HasDependencies (after_answer s u op a) (after_register_all old (tx_id u) ids)) is
    (answered opening s old r k h (subst (λ (u : ℕ). active_of u s.active ≡ Some r) (sym is) f) op a ids d)
