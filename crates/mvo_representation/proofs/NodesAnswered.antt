-- Counters, flags and dependents at an answer: what it depends on is all that they see of it.
use Rattle.std.proofs.Common.{◌≡◌, ℕ, Bool, true, false, cond, List, [], ◌∷◌, map, Some, refl, sym, ap, ◌∙◌, subst}
use Rattle.std.specs.Prelude.{◌==◌}
use Rattle.std.specs.List.{AllByRecursion}
use Rattle.std.proofs.lemmas.Bool.{eqb-true}
use Rattle.mvo_types.specs.declared.op.Op.{Op}
use Rattle.mvo_types.specs.AnswerData.{AnswerData}
use Rattle.mvo_theory.specs.State.{State, ActiveTx, active_of}
use Rattle.mvo_theory.specs.Changes.{with_answer, after_operation}
use Rattle.mvo_theory.specs.Dependencies.{has_end, with_end, dependencies}
use Rattle.mvo_theory.specs.Sound.{IsNumbered}
use Rattle.mvo_theory.proofs.Each.{each_weaker, each_both, each_map}
use Rattle.mvo_representation.specs.Nodes.{Nodes, IsNode, AreDependents, HasNodes, active_with_dependency, after_dependency}
use Rattle.mvo_representation.proofs.Answers.{only_mine}

-- what holds of each of a mapped list
pub unmapped : (f : ActiveTx → ActiveTx) (P : ActiveTx → Type 0) (rs : List ActiveTx) → AllByRecursion P (map f rs) → AllByRecursion (λ r. P (f r)) rs
unmapped f P [] h = tt
unmapped f P (r ∷ rs) h = (h.0, unmapped f P rs h.1)

map_same : (rs : List ActiveTx) → map (λ (r : ActiveTx). r) rs ≡ rs
map_same [] = refl
map_same (r ∷ rs) = ap (λ qs. r ∷ qs) (map_same rs)

module _ (s : State) (nodes : Nodes) (t : ℕ) (op : Op) (a : AnswerData) (g : ActiveTx → ActiveTx) (id_same : (r : ActiveTx) → (g r).id ≡ r.id) (flag_same : (r : ActiveTx) → (g r).aborted_dependency ≡ r.aborted_dependency) (same : AllByRecursion (λ r. (g r).depends_on ≡ (with_answer s t op a r).depends_on) s.active) where
  node_same : (r : ActiveTx) → (g r).depends_on ≡ (with_answer s t op a r).depends_on → IsNode s.stamped (g r).depends_on (g r).aborted_dependency (nodes (g r).id) → IsNode s.stamped (with_answer s t op a r).depends_on r.aborted_dependency (nodes r.id)
  node_same r d n =
      subst (λ ds. IsNode s.stamped ds r.aborted_dependency (nodes r.id)) d
      (subst (λ o. IsNode s.stamped (g r).depends_on o (nodes r.id)) (flag_same r)
      (subst (λ (u : ℕ). IsNode s.stamped (g r).depends_on (g r).aborted_dependency (nodes u)) (id_same r) n))

  nodes_alike : HasNodes (record s { active = map g s.active }) nodes → HasNodes (after_operation s t op a) nodes
  nodes_alike h = record {
    active = each_map (with_answer s t op a) (λ r. ((g r).depends_on ≡ (with_answer s t op a r).depends_on) × IsNode s.stamped (g r).depends_on (g r).aborted_dependency (nodes (g r).id)) (λ r. IsNode s.stamped r.depends_on r.aborted_dependency (nodes r.id))
        (λ r w. node_same r w.0 w.1) s.active
        (each_both (λ r. (g r).depends_on ≡ (with_answer s t op a r).depends_on) (λ r. IsNode s.stamped (g r).depends_on (g r).aborted_dependency (nodes (g r).id)) (λ r. ((g r).depends_on ≡ (with_answer s t op a r).depends_on) × IsNode s.stamped (g r).depends_on (g r).aborted_dependency (nodes (g r).id)) (λ r x y. (x, y)) s.active same
        (unmapped g (λ r. IsNode s.stamped r.depends_on r.aborted_dependency (nodes r.id)) s.active h.active));
    preparing = h.preparing;
    dependents = each_weaker (λ x. x.settled ≡ false → AreDependents (record s { active = map g s.active }) (nodes x.id).dependents x.end) (λ x. x.settled ≡ false → AreDependents (after_operation s t op a) (nodes x.id).dependents x.end)
        (λ x w o. record {
          active = each_map (with_answer s t op a) (λ r. ((g r).depends_on ≡ (with_answer s t op a r).depends_on) × (has_end (nodes x.id).dependents (g r).id ≡ has_end (g r).depends_on x.end)) (λ r. has_end (nodes x.id).dependents r.id ≡ has_end r.depends_on x.end)
              (λ r k. ap (has_end (nodes x.id).dependents) (sym (id_same r)) ∙ k.1 ∙ ap (λ ds. has_end ds x.end) k.0) s.active
              (each_both (λ r. (g r).depends_on ≡ (with_answer s t op a r).depends_on) (λ r. has_end (nodes x.id).dependents (g r).id ≡ has_end (g r).depends_on x.end) (λ r. ((g r).depends_on ≡ (with_answer s t op a r).depends_on) × (has_end (nodes x.id).dependents (g r).id ≡ has_end (g r).depends_on x.end)) (λ r p q. (p, q)) s.active same
              (unmapped g (λ r. has_end (nodes x.id).dependents r.id ≡ has_end r.depends_on x.end) s.active (w o).active));
          preparing = (w o).preparing;
        }) s.stamped h.dependents;
  }

-- ---- it depends on nobody more
pub nodes_answered : (s : State) (nodes : Nodes) (t : ℕ) (op : Op) (a : AnswerData) (mine : ActiveTx) → IsNumbered s → active_of t s.active ≡ Some mine → dependencies s op mine ≡ mine.depends_on → HasNodes s nodes → HasNodes (after_operation s t op a) nodes
nodes_answered s nodes t op a mine num f d h =
    nodes_alike s nodes t op a (λ r. r) (λ r. refl) (λ r. refl)
    (each_weaker (λ r. r.id ≡ t → r ≡ mine) (λ r. r.depends_on ≡ (with_answer s t op a r).depends_on) (λ r o. go r o (r.id == t) refl) s.active (only_mine t mine s.active num.distinct f))
    (subst (λ rs. HasNodes (record s { active = rs }) nodes) (sym (map_same s.active)) h)
  where
    go : (r : ActiveTx) → (r.id ≡ t → r ≡ mine) → (b : Bool) → (r.id == t) ≡ b → r.depends_on ≡ cond b (dependencies s op r) r.depends_on
    go r o true e = let i = o (eqb-true r.id t e) in ap (λ (q : ActiveTx). q.depends_on) i ∙ sym d ∙ ap (dependencies s op) (sym i)
    go r o false e = refl

-- ---- on one more
pub nodes_answered_more : (s : State) (nodes : Nodes) (t e : ℕ) (op : Op) (a : AnswerData) (mine : ActiveTx) → IsNumbered s → active_of t s.active ≡ Some mine → dependencies s op mine ≡ with_end mine.depends_on e → HasNodes (after_dependency s t e) nodes → HasNodes (after_operation s t op a) nodes
nodes_answered_more s nodes t e op a mine num f d h =
    nodes_alike s nodes t op a (active_with_dependency t e) (λ r. refl) (λ r. refl)
    (each_weaker (λ r. r.id ≡ t → r ≡ mine) (λ r. (active_with_dependency t e r).depends_on ≡ (with_answer s t op a r).depends_on) (λ r o. go r o (r.id == t) refl) s.active (only_mine t mine s.active num.distinct f))
    h
  where
    go : (r : ActiveTx) → (r.id ≡ t → r ≡ mine) → (b : Bool) → (r.id == t) ≡ b → cond b (with_end r.depends_on e) r.depends_on ≡ cond b (dependencies s op r) r.depends_on
    go r o true q = let i = o (eqb-true r.id t q) in ap (λ (x : ActiveTx). with_end x.depends_on e) i ∙ sym d ∙ ap (dependencies s op) (sym i)
    go r o false q = refl
