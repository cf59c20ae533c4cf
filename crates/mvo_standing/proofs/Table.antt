-- The transaction table of a state, with the dependencies that it keeps, is that of its shadow.
use Rattle.std.proofs.Common.{◌≡◌, ◌≤◌, ℕ, false, List, [], Option, map, sym, ◌∙◌, refl}
use Rattle.std.specs.List.{AllByRecursion}
use Rattle.mvo_theory.specs.State.{State, StampedTx}
use Rattle.mvo_theory.specs.Dependencies.{has_end}
use Rattle.mvo_theory.proofs.Each.{each_map}
use Rattle.mvo_shared.specs.Shadow.{active_shadow, stamped_shadow, shadow}
use Rattle.mvo_shadow.proofs.Finds.{phase_alike}
use Rattle.mvo_txn.specs.Txns.{Txns}
use Rattle.mvo_deps.specs.declared.node.Node.{Node}
use Rattle.mvo_representation.specs.Nodes.{Nodes, NodeData, is_open_in, open_count, IsNode, AreDependents, HasNodes, HasDrawnDependents, nodes_of}
use Rattle.mvo_representation.specs.Dependencies.{HasDependencies}
use Rattle.mvo_standing.proofs.Each.{each_unmap, count_map}

open_alike : (ds : List ℕ) (xs : List StampedTx) → open_count ds (map stamped_shadow xs) ≡ open_count ds xs
open_alike ds xs = count_map stamped_shadow (is_open_in ds) (is_open_in ds) (λ x. refl) xs

node_there : (xs : List StampedTx) (ds : List ℕ) (flag : Option ℕ) (n : NodeData) → IsNode xs ds flag n → IsNode (map stamped_shadow xs) ds flag n
node_there xs ds flag n h = record { flag = h.flag; waits = λ none. h.waits none ∙ sym (open_alike ds xs) }

node_back : (xs : List StampedTx) (ds : List ℕ) (flag : Option ℕ) (n : NodeData) → IsNode (map stamped_shadow xs) ds flag n → IsNode xs ds flag n
node_back xs ds flag n h = record { flag = h.flag; waits = λ none. h.waits none ∙ open_alike ds xs }

dependents_there : (s : State) (ids : List ℕ) (e : ℕ) → AreDependents s ids e → AreDependents (shadow s) ids e
dependents_there s ids e h = record {
  active = each_map active_shadow (λ r. has_end ids r.id ≡ has_end r.depends_on e) (λ r. has_end ids r.id ≡ has_end r.depends_on e) (λ r p. p) s.active h.active;
  preparing = each_map stamped_shadow (λ y. y.settled ≡ false → has_end ids y.id ≡ has_end y.depends_on e) (λ y. y.settled ≡ false → has_end ids y.id ≡ has_end y.depends_on e) (λ y p. p) s.stamped h.preparing;
}

dependents_back : (s : State) (ids : List ℕ) (e : ℕ) → AreDependents (shadow s) ids e → AreDependents s ids e
dependents_back s ids e h = record {
  active = each_unmap active_shadow (λ r. has_end ids r.id ≡ has_end r.depends_on e) (λ r. has_end ids r.id ≡ has_end r.depends_on e) (λ r p. p) s.active h.active;
  preparing = each_unmap stamped_shadow (λ y. y.settled ≡ false → has_end ids y.id ≡ has_end y.depends_on e) (λ y. y.settled ≡ false → has_end ids y.id ≡ has_end y.depends_on e) (λ y p. p) s.stamped h.preparing;
}

nodes_there : (s : State) (nodes : Nodes) → HasNodes s nodes → HasNodes (shadow s) nodes
nodes_there s nodes h = record {
  active = each_map active_shadow (λ r. IsNode s.stamped r.depends_on r.aborted_dependency (nodes r.id)) (λ r. IsNode (map stamped_shadow s.stamped) r.depends_on r.aborted_dependency (nodes r.id)) (λ r p. node_there s.stamped r.depends_on r.aborted_dependency (nodes r.id) p) s.active h.active;
  preparing = each_map stamped_shadow (λ x. x.settled ≡ false → IsNode s.stamped x.depends_on x.aborted_dependency (nodes x.id)) (λ x. x.settled ≡ false → IsNode (map stamped_shadow s.stamped) x.depends_on x.aborted_dependency (nodes x.id)) (λ x p o. node_there s.stamped x.depends_on x.aborted_dependency (nodes x.id) (p o)) s.stamped h.preparing;
  dependents = each_map stamped_shadow (λ x. x.settled ≡ false → AreDependents s (nodes x.id).dependents x.end) (λ x. x.settled ≡ false → AreDependents (shadow s) (nodes x.id).dependents x.end) (λ x p o. dependents_there s (nodes x.id).dependents x.end (p o)) s.stamped h.dependents;
}

nodes_back : (s : State) (nodes : Nodes) → HasNodes (shadow s) nodes → HasNodes s nodes
nodes_back s nodes h = record {
  active = each_unmap active_shadow (λ r. IsNode s.stamped r.depends_on r.aborted_dependency (nodes r.id)) (λ r. IsNode (map stamped_shadow s.stamped) r.depends_on r.aborted_dependency (nodes r.id)) (λ r p. node_back s.stamped r.depends_on r.aborted_dependency (nodes r.id) p) s.active h.active;
  preparing = each_unmap stamped_shadow (λ x. x.settled ≡ false → IsNode s.stamped x.depends_on x.aborted_dependency (nodes x.id)) (λ x. x.settled ≡ false → IsNode (map stamped_shadow s.stamped) x.depends_on x.aborted_dependency (nodes x.id)) (λ x p o. node_back s.stamped x.depends_on x.aborted_dependency (nodes x.id) (p o)) s.stamped h.preparing;
  dependents = each_unmap stamped_shadow (λ x. x.settled ≡ false → AreDependents s (nodes x.id).dependents x.end) (λ x. x.settled ≡ false → AreDependents (shadow s) (nodes x.id).dependents x.end) (λ x p o. dependents_back s (nodes x.id).dependents x.end (p o)) s.stamped h.dependents;
}

drawn_there : (s : State) (nodes : Nodes) → HasDrawnDependents s nodes → HasDrawnDependents (shadow s) nodes
drawn_there s nodes h = record {
  drawn = each_map stamped_shadow (λ x. x.settled ≡ false → AllByRecursion (λ d. d ≤ s.clock) (nodes x.id).dependents) (λ x. x.settled ≡ false → AllByRecursion (λ d. d ≤ s.clock) (nodes x.id).dependents) (λ x p. p) s.stamped h.drawn;
  none = each_map active_shadow (λ r. (nodes r.id).dependents ≡ []) (λ r. (nodes r.id).dependents ≡ []) (λ r p. p) s.active h.none;
}

drawn_back : (s : State) (nodes : Nodes) → HasDrawnDependents (shadow s) nodes → HasDrawnDependents s nodes
drawn_back s nodes h = record {
  drawn = each_unmap stamped_shadow (λ x. x.settled ≡ false → AllByRecursion (λ d. d ≤ s.clock) (nodes x.id).dependents) (λ x. x.settled ≡ false → AllByRecursion (λ d. d ≤ s.clock) (nodes x.id).dependents) (λ x p. p) s.stamped h.drawn;
  none = each_unmap active_shadow (λ r. (nodes r.id).dependents ≡ []) (λ r. (nodes r.id).dependents ≡ []) (λ r p. p) s.active h.none;
}

pub dependencies_there : {P : Type 0} (s : State) (table : Txns (Node P)) → HasDependencies s table → HasDependencies (shadow s) table
dependencies_there s table h = record {
  stands = record { clock = h.stands.clock; phases = λ t. h.stands.phases t ∙ sym (phase_alike s t) };
  nodes = nodes_there s (nodes_of table) h.nodes;
  drawn = drawn_there s (nodes_of table) h.drawn;
  aborted = h.aborted;
  graph = h.graph;
}

pub dependencies_back : {P : Type 0} (s : State) (table : Txns (Node P)) → HasDependencies (shadow s) table → HasDependencies s table
dependencies_back s table h = record {
  stands = record { clock = h.stands.clock; phases = λ t. h.stands.phases t ∙ phase_alike s t };
  nodes = nodes_back s (nodes_of table) h.nodes;
  drawn = drawn_back s (nodes_of table) h.drawn;
  aborted = h.aborted;
  graph = h.graph;
}
