-- Counters, flags and dependents stay right where others stay as they are; and who was drawn.
use Rattle.std.proofs.Common.{◌≡◌, ◌≢◌, ℕ, ◌+◌, ◌<◌, ◌≤◌, Bool, true, false, cond, not, ◌||◌, List, [], ◌∷◌, ◌++◌, map, Option, refl, sym, ap, ◌∙◌, subst, arith}
use Rattle.std.specs.Prelude.{◌==◌, ◌&&◌}
use Rattle.std.specs.List.{AllByRecursion, filter}
use Rattle.std.proofs.lemmas.Bool.{ne_eqb, leb-true, true≢false}
use Rattle.mvo_theory.specs.State.{State, StampedTx, EndedTx, Marks}
use Rattle.mvo_theory.specs.Changes.{with_check, after_check, with_settled, after_commit, with_flag, active_with_flag, not_at, after_abort_of_active, after_abort_of_preparing, is_to, after_trim}
use Rattle.mvo_theory.specs.Dependencies.{has_end}
use Rattle.mvo_theory.proofs.Each.{each_append, each_weaker, each_both, each_filter, each_map}
use Rattle.mvo_theory.proofs.Trim.{IsTrim}
use Rattle.mvo_representation.specs.Nodes.{with_listed, NodeData, Nodes, is_open_in, open_count, IsNode, AreDependents, HasNodes, HasDrawnDependents, nodes_after_commit, nodes_after_abort, nodes_after_register, active_with_dependency, after_dependency}
use Rattle.mvo_deps.proofs.Lists.{one}

-- ---- what others keep doesn't matter
-- the nodes of those that are Active or Preparing are the same
pub record AreAlike (s : State) (nodes nodes' : Nodes) : Type 0 where
  pub active : AllByRecursion (λ r. nodes' r.id ≡ nodes r.id) s.active
  pub preparing : AllByRecursion (λ x. x.settled ≡ false → nodes' x.id ≡ nodes x.id) s.stamped

-- other marks, other ended ones, and other nodes of those that are neither Active nor Preparing
pub nodes_elsewhere : (s : State) (marks : Marks) (ended : List EndedTx) (nodes nodes' : Nodes) → AllByRecursion (λ r. nodes' r.id ≡ nodes r.id) s.active → AllByRecursion (λ x. x.settled ≡ false → nodes' x.id ≡ nodes x.id) s.stamped → HasNodes s nodes → HasNodes (record s { marks = marks; ended = ended }) nodes'
nodes_elsewhere s marks ended nodes nodes' a p h = record {
  active = each_both (λ r. nodes' r.id ≡ nodes r.id) (λ r. IsNode s.stamped r.depends_on r.aborted_dependency (nodes r.id)) (λ r. IsNode s.stamped r.depends_on r.aborted_dependency (nodes' r.id))
      (λ r e n. subst (IsNode s.stamped r.depends_on r.aborted_dependency) (sym e) n) s.active a h.active;
  preparing = each_both (λ x. x.settled ≡ false → nodes' x.id ≡ nodes x.id) (λ x. x.settled ≡ false → IsNode s.stamped x.depends_on x.aborted_dependency (nodes x.id)) (λ x. x.settled ≡ false → IsNode s.stamped x.depends_on x.aborted_dependency (nodes' x.id))
      (λ x e n o. subst (IsNode s.stamped x.depends_on x.aborted_dependency) (sym (e o)) (n o)) s.stamped p h.preparing;
  dependents = each_both (λ x. x.settled ≡ false → nodes' x.id ≡ nodes x.id) (λ x. x.settled ≡ false → AreDependents s (nodes x.id).dependents x.end) (λ x. x.settled ≡ false → AreDependents (record s { marks = marks; ended = ended }) (nodes' x.id).dependents x.end)
      (λ x e w o. subst (λ (n : NodeData). AreDependents (record s { marks = marks; ended = ended }) n.dependents x.end) (sym (e o)) (record { active = (w o).active; preparing = (w o).preparing })) s.stamped p h.dependents;
}

pub drawn_elsewhere : (s : State) (marks : Marks) (ended : List EndedTx) (nodes nodes' : Nodes) → AllByRecursion (λ r. nodes' r.id ≡ nodes r.id) s.active → AllByRecursion (λ x. x.settled ≡ false → nodes' x.id ≡ nodes x.id) s.stamped → HasDrawnDependents s nodes → HasDrawnDependents (record s { marks = marks; ended = ended }) nodes'
drawn_elsewhere s marks ended nodes nodes' a p g = record {
  drawn = each_both (λ x. x.settled ≡ false → nodes' x.id ≡ nodes x.id) (λ x. x.settled ≡ false → AllByRecursion (λ d. d ≤ s.clock) (nodes x.id).dependents) (λ x. x.settled ≡ false → AllByRecursion (λ d. d ≤ s.clock) (nodes' x.id).dependents)
      (λ x e w o. subst (λ (n : NodeData). AllByRecursion (λ d. d ≤ s.clock) n.dependents) (sym (e o)) (w o)) s.stamped p g.drawn;
  none = each_both (λ r. nodes' r.id ≡ nodes r.id) (λ r. (nodes r.id).dependents ≡ []) (λ r. (nodes' r.id).dependents ≡ []) (λ r e n. ap (λ (m : NodeData). m.dependents) e ∙ n) s.active a g.none;
}

-- ---- an Active one aborts: nobody depends on it
pub nodes_aborted : (s : State) (nodes : Nodes) (t : ℕ) → HasNodes s nodes → HasNodes (after_abort_of_active s t) nodes
nodes_aborted s nodes t h = record {
  active = each_filter (λ q. not (q.id == t)) (λ q. IsNode s.stamped q.depends_on q.aborted_dependency (nodes q.id)) (λ q. IsNode s.stamped q.depends_on q.aborted_dependency (nodes q.id)) (λ q _ n. n) s.active h.active;
  preparing = h.preparing;
  dependents = each_weaker (λ x. x.settled ≡ false → AreDependents s (nodes x.id).dependents x.end) (λ x. x.settled ≡ false → AreDependents (after_abort_of_active s t) (nodes x.id).dependents x.end)
      (λ x w o. record {
        active = each_filter (λ q. not (q.id == t)) (λ q. has_end (nodes x.id).dependents q.id ≡ has_end q.depends_on x.end) (λ q. has_end (nodes x.id).dependents q.id ≡ has_end q.depends_on x.end) (λ q _ k. k) s.active (w o).active;
        preparing = (w o).preparing;
      }) s.stamped h.dependents;
}

pub drawn_aborted : (s : State) (nodes : Nodes) (t : ℕ) → HasDrawnDependents s nodes → HasDrawnDependents (after_abort_of_active s t) nodes
drawn_aborted s nodes t g = record { drawn = g.drawn; none = each_filter (λ q. not (q.id == t)) (λ q. (nodes q.id).dependents ≡ []) (λ q. (nodes q.id).dependents ≡ []) (λ q _ n. n) s.active g.none }

-- ---- an entry more is checked
count_checked : (ds : List ℕ) (e : ℕ) (v : Bool) (xs : List StampedTx) → open_count ds (map (with_check e v) xs) ≡ open_count ds xs
count_checked ds e v [] = refl
count_checked ds e v (x ∷ xs) = ap (λ n. one (is_open_in ds x) + n) (count_checked ds e v xs)

node_checked : (ds : List ℕ) (o : Option ℕ) (n : NodeData) (e : ℕ) (v : Bool) (xs : List StampedTx) → IsNode xs ds o n → IsNode (map (with_check e v) xs) ds o n
node_checked ds o n e v xs h = record { flag = h.flag; waits = λ q. h.waits q ∙ sym (count_checked ds e v xs) }

pub nodes_checked : (s : State) (nodes : Nodes) (e : ℕ) (v : Bool) → HasNodes s nodes → HasNodes (after_check s e v) nodes
nodes_checked s nodes e v h = record {
  active = each_weaker (λ r. IsNode s.stamped r.depends_on r.aborted_dependency (nodes r.id)) (λ r. IsNode (map (with_check e v) s.stamped) r.depends_on r.aborted_dependency (nodes r.id)) (λ r n. node_checked r.depends_on r.aborted_dependency (nodes r.id) e v s.stamped n) s.active h.active;
  preparing = each_map (with_check e v) (λ x. x.settled ≡ false → IsNode s.stamped x.depends_on x.aborted_dependency (nodes x.id)) (λ x. x.settled ≡ false → IsNode (map (with_check e v) s.stamped) x.depends_on x.aborted_dependency (nodes x.id))
      (λ x n o. node_checked x.depends_on x.aborted_dependency (nodes x.id) e v s.stamped (n o)) s.stamped h.preparing;
  dependents = each_map (with_check e v) (λ x. x.settled ≡ false → AreDependents s (nodes x.id).dependents x.end) (λ x. x.settled ≡ false → AreDependents (after_check s e v) (nodes x.id).dependents x.end)
      (λ x w o. record {
        active = (w o).active;
        preparing = each_map (with_check e v) (λ y. y.settled ≡ false → has_end (nodes x.id).dependents y.id ≡ has_end y.depends_on x.end) (λ y. y.settled ≡ false → has_end (nodes x.id).dependents y.id ≡ has_end y.depends_on x.end) (λ y k. k) s.stamped (w o).preparing;
      }) s.stamped h.dependents;
}

pub drawn_checked : (s : State) (nodes : Nodes) (e : ℕ) (v : Bool) → HasDrawnDependents s nodes → HasDrawnDependents (after_check s e v) nodes
drawn_checked s nodes e v g = record {
  drawn = each_map (with_check e v) (λ x. x.settled ≡ false → AllByRecursion (λ d. d ≤ s.clock) (nodes x.id).dependents) (λ x. x.settled ≡ false → AllByRecursion (λ d. d ≤ s.clock) (nodes x.id).dependents) (λ x w. w) s.stamped g.drawn;
  none = g.none;
}

-- ---- a trim: those that go are settled
count_trimmed : (ds : List ℕ) (m : ℕ) (xs : List StampedTx) → AllByRecursion (λ x. x.settled ≡ false → m < x.end) xs → open_count ds (filter (λ x. not (is_to m x)) xs) ≡ open_count ds xs
count_trimmed ds m [] h = refl
count_trimmed ds m (x ∷ xs) h = go (is_to m x) refl x.settled refl (count_trimmed ds m xs h.1)
  where
    go : (b : Bool) → is_to m x ≡ b → (c : Bool) → x.settled ≡ c → open_count ds (filter (λ y. not (is_to m y)) xs) ≡ open_count ds xs → open_count ds (cond (not b) (x ∷ filter (λ y. not (is_to m y)) xs) (filter (λ y. not (is_to m y)) xs)) ≡ one (not x.settled && has_end ds x.end) + open_count ds xs
    go false q c e r = ap (λ n. one (is_open_in ds x) + n) r
    go true q true e r = let z : one (not x.settled && has_end ds x.end) ≡ 0 = ap (λ b. one (not b && has_end ds x.end)) e in omega (arith, r, z)
    go true q false e r = absurd (let lt = h.0 e in let le : x.end ≤ m = leb-true x.end m q in omega (arith, lt, le))

node_trimmed : (ds : List ℕ) (o : Option ℕ) (n : NodeData) (m : ℕ) (xs : List StampedTx) → AllByRecursion (λ x. x.settled ≡ false → m < x.end) xs → IsNode xs ds o n → IsNode (filter (λ x. not (is_to m x)) xs) ds o n
node_trimmed ds o n m xs k h = record { flag = h.flag; waits = λ q. h.waits q ∙ sym (count_trimmed ds m xs k) }

pub nodes_trimmed : (s : State) (nodes : Nodes) (m : ℕ) → IsTrim m s → HasNodes s nodes → HasNodes (after_trim s m) nodes
nodes_trimmed s nodes m t h = record {
  active = each_weaker (λ r. IsNode s.stamped r.depends_on r.aborted_dependency (nodes r.id)) (λ r. IsNode (filter (λ x. not (is_to m x)) s.stamped) r.depends_on r.aborted_dependency (nodes r.id)) (λ r n. node_trimmed r.depends_on r.aborted_dependency (nodes r.id) m s.stamped t.settled n) s.active h.active;
  preparing = each_filter (λ x. not (is_to m x)) (λ x. x.settled ≡ false → IsNode s.stamped x.depends_on x.aborted_dependency (nodes x.id)) (λ x. x.settled ≡ false → IsNode (filter (λ y. not (is_to m y)) s.stamped) x.depends_on x.aborted_dependency (nodes x.id))
      (λ x _ n o. node_trimmed x.depends_on x.aborted_dependency (nodes x.id) m s.stamped t.settled (n o)) s.stamped h.preparing;
  dependents = each_filter (λ x. not (is_to m x)) (λ x. x.settled ≡ false → AreDependents s (nodes x.id).dependents x.end) (λ x. x.settled ≡ false → AreDependents (after_trim s m) (nodes x.id).dependents x.end)
      (λ x _ w o. record {
        active = (w o).active;
        preparing = each_filter (λ y. not (is_to m y)) (λ y. y.settled ≡ false → has_end (nodes x.id).dependents y.id ≡ has_end y.depends_on x.end) (λ y. y.settled ≡ false → has_end (nodes x.id).dependents y.id ≡ has_end y.depends_on x.end) (λ y _ k. k) s.stamped (w o).preparing;
      }) s.stamped h.dependents;
}

pub drawn_trimmed : (s : State) (nodes : Nodes) (m : ℕ) → HasDrawnDependents s nodes → HasDrawnDependents (after_trim s m) nodes
drawn_trimmed s nodes m g = record {
  drawn = each_filter (λ x. not (is_to m x)) (λ x. x.settled ≡ false → AllByRecursion (λ d. d ≤ s.clock) (nodes x.id).dependents) (λ x. x.settled ≡ false → AllByRecursion (λ d. d ≤ s.clock) (nodes x.id).dependents) (λ x _ w. w) s.stamped g.drawn;
  none = g.none;
}

-- ---- who was drawn, where a commit or an abort is reported, or a dependency is added
or_no : (a b : Bool) → (a || b) ≡ false → a ≡ false
or_no true b h = absurd (true≢false h)
or_no false b h = refl

pub drawn_committed : (s : State) (nodes : Nodes) (t e : ℕ) (ds : List ℕ) → HasDrawnDependents s nodes → HasDrawnDependents (after_commit s t e) (nodes_after_commit ds nodes)
drawn_committed s nodes t e ds g = record {
  drawn = each_map (with_settled e) (λ x. x.settled ≡ false → AllByRecursion (λ d. d ≤ s.clock) (nodes x.id).dependents) (λ x. x.settled ≡ false → AllByRecursion (λ d. d ≤ s.clock) (nodes x.id).dependents) (λ x w o. w (or_no x.settled (x.end == e) o)) s.stamped g.drawn;
  none = g.none;
}

pub drawn_reported : (s : State) (nodes : Nodes) (t e : ℕ) (ds : List ℕ) → HasDrawnDependents s nodes → HasDrawnDependents (after_abort_of_preparing s t e) (nodes_after_abort t ds nodes)
drawn_reported s nodes t e ds g = record {
  drawn = each_map (with_flag t e) (λ x. x.settled ≡ false → AllByRecursion (λ d. d ≤ s.clock) (nodes x.id).dependents) (λ x. x.settled ≡ false → AllByRecursion (λ d. d ≤ s.clock) (nodes x.id).dependents) (λ x w. w) (filter (not_at e) s.stamped)
      (each_filter (not_at e) (λ x. x.settled ≡ false → AllByRecursion (λ d. d ≤ s.clock) (nodes x.id).dependents) (λ x. x.settled ≡ false → AllByRecursion (λ d. d ≤ s.clock) (nodes x.id).dependents) (λ x _ w. w) s.stamped g.drawn);
  none = each_map (active_with_flag t e) (λ r. (nodes r.id).dependents ≡ []) (λ r. (nodes r.id).dependents ≡ []) (λ r n. n) s.active g.none;
}

drawn_with : (ds : List ℕ) (t c : ℕ) → t ≤ c → AllByRecursion (λ d. d ≤ c) ds → AllByRecursion (λ d. d ≤ c) (with_listed ds t)
drawn_with ds t c le h = go (has_end ds t)
  where
    go : (b : Bool) → AllByRecursion (λ d. d ≤ c) (cond b ds (ds ++ t ∷ []))
    go true = h
    go false = each_append (λ d. d ≤ c) ds (t ∷ []) h (le, tt)

-- t was drawn, and x isn't Active
pub drawn_registered : (s : State) (nodes : Nodes) (t x e : ℕ) → t ≤ s.clock → AllByRecursion (λ r. r.id ≢ x) s.active → HasDrawnDependents s nodes → HasDrawnDependents (after_dependency s t e) (nodes_after_register t x nodes)
drawn_registered s nodes t x e le apart g = record {
  drawn = each_weaker (λ y. y.settled ≡ false → AllByRecursion (λ d. d ≤ s.clock) (nodes y.id).dependents) (λ y. y.settled ≡ false → AllByRecursion (λ d. d ≤ s.clock) (nodes_after_register t x nodes y.id).dependents)
      (λ y w o. by (nodes y.id) (y.id == x) (w o)) s.stamped g.drawn;
  none = each_map (active_with_dependency t e) (λ r. (r.id ≢ x) × ((nodes r.id).dependents ≡ [])) (λ r. (nodes_after_register t x nodes r.id).dependents ≡ [])
      (λ r w. ap (λ b. cond b (with_listed (nodes r.id).dependents t) (nodes r.id).dependents) (ne_eqb r.id x w.0) ∙ w.1) s.active
      (each_both (λ r. r.id ≢ x) (λ r. (nodes r.id).dependents ≡ []) (λ r. (r.id ≢ x) × ((nodes r.id).dependents ≡ [])) (λ r a b. (a, b)) s.active apart g.none);
}
  where
    by : (n : NodeData) (b : Bool) → AllByRecursion (λ d. d ≤ s.clock) n.dependents → AllByRecursion (λ d. d ≤ s.clock) (cond b (with_listed n.dependents t) n.dependents)
    by n true h = drawn_with n.dependents t s.clock le h
    by n false h = h
