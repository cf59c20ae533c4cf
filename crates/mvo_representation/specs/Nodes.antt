-- What the table keeps of dependencies.
use Rattle.std.specs.Prelude.{◌∷◌, ◌++◌, if◌then◌else◌, ◌≤◌, [], ℕ, ◌≡◌, ◌+◌, ◌-◌, ◌==◌, ◌&&◌, Bool, false, not, cond, List, map, Option, None, Some}
use Rattle.std.specs.List.{AllByRecursion}
use Rattle.mvo_theory.specs.State.{State, StampedTx, ActiveTx}
use Rattle.mvo_theory.specs.Dependencies.{has_end, with_end}
use Rattle.mvo_theory.specs.Sound.{how_many}
use Rattle.mvo_txn.specs.Txns.{Txns}
use Rattle.mvo_deps.specs.declared.node.Node.{Node}
use Rattle.mvo_deps.specs.Data.{DependencyData}
use Rattle.mvo_deps.specs.Nodes.{data_of}
use Rattle.std.specs.Option.{option_map}

-- of one transaction: how many it waits for, the first aborted one of those that it depends on, and
-- who depends on it
pub record NodeData : Type 0 where
  pub waits : ℕ
  pub flag : Option ℕ
  pub dependents : List ℕ

abbrev pub Nodes : Type 0
Nodes = ℕ → NodeData

-- those of a table, by what it keeps of each
abbrev pub node_as : DependencyData → NodeData
node_as d = record {
  waits = d.unsettled;
  flag = option_map (λ t. t.0) d.aborted;
  dependents = map (λ t. t.0) d.dependents;
}

abbrev pub nodes_of : {P : Type 0} → Txns (Node P) → Nodes
nodes_of t u = node_as (data_of t (record { 0 = u }))

-- how many of these ends are of one that isn't settled
abbrev pub is_open_in : List ℕ → StampedTx → Bool
is_open_in ds x = not x.settled && has_end ds x.end

abbrev pub open_count : List ℕ → List StampedTx → ℕ
open_count ds xs = how_many (is_open_in ds) xs

-- the flag is the aborted dependency, and the counter is right where there is none
pub record IsNode (stamped : List StampedTx) (ds : List ℕ) (aborted : Option ℕ)
    (n : NodeData) : Type 0 where
  pub flag : n.flag ≡ aborted
  pub waits : aborted ≡ None → n.waits ≡ open_count ds stamped

-- just those that depend on the one with this end
pub record AreDependents (s : State) (dependents : List ℕ) (e : ℕ) : Type 0 where
  pub active : AllByRecursion (λ r. has_end dependents r.id ≡ has_end r.depends_on e) s.active
  pub preparing :
      AllByRecursion
      (λ y. y.settled ≡ false → has_end dependents y.id ≡ has_end y.depends_on e) s.stamped

pub record HasNodes (s : State) (nodes : Nodes) : Type 0 where
  pub active :
      AllByRecursion
      (λ r. IsNode s.stamped r.depends_on r.aborted_dependency (nodes r.id)) s.active
  pub preparing :
      AllByRecursion
      (λ x. x.settled ≡ false
      → IsNode s.stamped x.depends_on x.aborted_dependency (nodes x.id)) s.stamped
  pub dependents :
      AllByRecursion
      (λ x. x.settled ≡ false → AreDependents s (nodes x.id).dependents x.end) s.stamped

-- the dependents of a Preparing one were drawn, and an Active one has none
pub record HasDrawnDependents (s : State) (nodes : Nodes) : Type 0 where
  pub drawn :
      AllByRecursion
      (λ x. x.settled ≡ false
      → AllByRecursion (λ d. d ≤ s.clock) (nodes x.id).dependents) s.stamped
  pub none : AllByRecursion (λ r. (nodes r.id).dependents ≡ []) s.active

-- ---- what the code does
-- t begins
abbrev pub no_node : NodeData
no_node = record { waits = 0; flag = None; dependents = [] }

abbrev pub nodes_after_begin : ℕ → Nodes → Nodes
nodes_after_begin t nodes u = if u == t then no_node else nodes u

-- a commit is reported: each dependent waits for one less
abbrev pub nodes_after_commit : List ℕ → Nodes → Nodes
nodes_after_commit ds nodes u = record (nodes u) {
  waits = cond (has_end ds u) ((nodes u).waits - 1) (nodes u).waits;
}

-- an abort of t is reported: each dependent waits for one less, and its flag is set, if none was
abbrev pub or_flag : ℕ → Option ℕ → Option ℕ
or_flag t None = Some t
or_flag t (Some u) = Some u

abbrev pub nodes_after_abort : ℕ → List ℕ → Nodes → Nodes
nodes_after_abort t ds nodes u = record (nodes u) {
  waits = cond (has_end ds u) ((nodes u).waits - 1) (nodes u).waits;
  flag = cond (has_end ds u) (or_flag t (nodes u).flag) (nodes u).flag;
}

-- one more of them, if it isn't among them
abbrev pub with_listed : List ℕ → ℕ → List ℕ
with_listed ds d = if has_end ds d then ds else ds ++ d ∷ []

-- t depends on x from now on, unless it did
abbrev pub nodes_after_register : ℕ → ℕ → Nodes → Nodes
nodes_after_register t x nodes u = record {
  waits =
      cond ((u == t) && not (has_end (nodes x).dependents t))
      ((nodes u).waits + 1) (nodes u).waits;
  flag = (nodes u).flag;
  dependents = cond (u == x) (with_listed (nodes u).dependents t) (nodes u).dependents;
}

-- in the state: t depends on the one with the end e
abbrev pub active_with_dependency : ℕ → ℕ → ActiveTx → ActiveTx
active_with_dependency t e r = record r {
  depends_on = cond (r.id == t) (with_end r.depends_on e) r.depends_on;
}

abbrev pub after_dependency : State → ℕ → ℕ → State
after_dependency s t e = record s { active = map (active_with_dependency t e) s.active }
