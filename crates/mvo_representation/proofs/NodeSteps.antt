-- Counters, flags and dependents stay right where transactions begin, precommit, abort and leave.
use Rattle.std.proofs.Common.{◌≡◌, ℕ, ◌+◌, ◌<◌, ◌≤◌, Bool, true, false, cond, not, ◌||◌, List, [], ◌∷◌, ◌++◌, Option, None, Some, refl, sym, ap, ◌∙◌, subst, arith}
use Rattle.std.specs.Prelude.{◌==◌, ◌&&◌}
use Rattle.std.specs.List.{AllByRecursion}
use Rattle.std.proofs.lemmas.Bool.{eq-eqb, ne_eqb}
use Rattle.mvo_theory.specs.State.{State, StampedTx, ActiveTx, active_of}
use Rattle.mvo_theory.specs.Changes.{new_active, after_begin, to_stamped, after_prepare}
use Rattle.mvo_theory.specs.Dependencies.{has_end}
use Rattle.mvo_theory.specs.Sound.{IsSound, IsActive, IsPreparing, IsPlaced}
use Rattle.mvo_theory.proofs.Each.{each_weaker, each_both, each_filter, each_append}
use Rattle.mvo_theory.proofs.Who.{active_holds}
use Rattle.mvo_representation.specs.Nodes.{NodeData, Nodes, open_count, IsNode, AreDependents, HasNodes, HasDrawnDependents, no_node, nodes_after_begin}
use Rattle.mvo_representation.proofs.Waited.{count_pushed}
use Rattle.mvo_deps.proofs.Lists.{one}

-- ---- who isn't among them
not_among : (ds : List ℕ) (c u : ℕ) → AllByRecursion (λ d. d ≤ c) ds → c < u → has_end ds u ≡ false
not_among [] c u h lt = refl
not_among (d ∷ ds) c u h lt =
    ap (λ b. b || has_end ds u) (ne_eqb d u (λ e. absurd (let le = h.0 in omega (arith, le, lt, e))))
    ∙ not_among ds c u h.1 lt

no_end : (ds : List ℕ) (id c e : ℕ) → AllByRecursion (λ d. d < id) ds → id ≤ c → c < e → has_end ds e ≡ false
no_end ds id c e h le lt = not_among ds c e (each_weaker (λ d. d < id) (λ d. d ≤ c) (λ d l. omega (arith, l, le)) ds h) lt

open_none : (xs : List StampedTx) → 0 ≡ open_count [] xs
open_none [] = refl
open_none (x ∷ xs) = open_none xs ∙ go (not x.settled)
  where
    go : (b : Bool) → open_count [] xs ≡ one (b && false) + open_count [] xs
    go true = omega arith
    go false = omega arith

both : {X : Type 0} (P Q : X → Type 0) (xs : List X) → AllByRecursion P xs → AllByRecursion Q xs → AllByRecursion (λ x. P x × Q x) xs
both P Q xs p q = each_both P Q (λ x. P x × Q x) (λ x a b. (a, b)) xs p q

-- ---- a begin
module _ (s : State) (nodes : Nodes) (t : ℕ) (lt : s.clock < t) (sd : IsSound s) where
  old_node : (u : ℕ) → u ≤ s.clock → nodes_after_begin t nodes u ≡ nodes u
  old_node u le = ap (λ b. cond b no_node (nodes u)) (ne_eqb u t (λ e. absurd (omega (arith, le, lt, e))))

  new_node : nodes_after_begin t nodes t ≡ no_node
  new_node = ap (λ b. cond b no_node (nodes t)) (eq-eqb t t refl)

  placed_low : (x : StampedTx) → IsPlaced s.stamped s.clock x → x.id ≤ s.clock
  placed_low x p = let b = p.begun in let d = p.drawn in omega (arith, b, d)

  pub nodes_begun : HasNodes s nodes → HasDrawnDependents s nodes → HasNodes (after_begin s t) (nodes_after_begin t nodes)
  nodes_begun h g = record {
    active = each_append (λ r. IsNode s.stamped r.depends_on r.aborted_dependency (nodes_after_begin t nodes r.id)) s.active (new_active t ∷ [])
        (each_both (IsActive s.base s.stamped s.clock) (λ r. IsNode s.stamped r.depends_on r.aborted_dependency (nodes r.id)) (λ r. IsNode s.stamped r.depends_on r.aborted_dependency (nodes_after_begin t nodes r.id))
        (λ r a n. subst (IsNode s.stamped r.depends_on r.aborted_dependency) (sym (old_node r.id a.drawn)) n) s.active sd.active h.active)
        (subst (IsNode s.stamped [] None) (sym new_node) (record { flag = refl; waits = λ _. open_none s.stamped }), tt);
    preparing = each_both (IsPlaced s.stamped s.clock) (λ x. x.settled ≡ false → IsNode s.stamped x.depends_on x.aborted_dependency (nodes x.id)) (λ x. x.settled ≡ false → IsNode s.stamped x.depends_on x.aborted_dependency (nodes_after_begin t nodes x.id))
        (λ x p n o. subst (IsNode s.stamped x.depends_on x.aborted_dependency) (sym (old_node x.id (placed_low x p))) (n o)) s.stamped sd.placed h.preparing;
    dependents = each_both (IsPlaced s.stamped s.clock) (λ x. (x.settled ≡ false → AreDependents s (nodes x.id).dependents x.end) × (x.settled ≡ false → AllByRecursion (λ d. d ≤ s.clock) (nodes x.id).dependents)) (λ x. x.settled ≡ false → AreDependents (after_begin s t) (nodes_after_begin t nodes x.id).dependents x.end)
        (λ x p w o. subst (λ (n : NodeData). AreDependents (after_begin s t) n.dependents x.end) (sym (old_node x.id (placed_low x p))) (record {
          active = each_append (λ r. has_end (nodes x.id).dependents r.id ≡ has_end r.depends_on x.end) s.active (new_active t ∷ []) (w.0 o).active (not_among (nodes x.id).dependents s.clock t (w.1 o) lt, tt);
          preparing = (w.0 o).preparing;
        })) s.stamped sd.placed
        (both (λ x. x.settled ≡ false → AreDependents s (nodes x.id).dependents x.end) (λ x. x.settled ≡ false → AllByRecursion (λ d. d ≤ s.clock) (nodes x.id).dependents) s.stamped h.dependents g.drawn);
  }

  pub drawn_begun : HasDrawnDependents s nodes → HasDrawnDependents (after_begin s t) (nodes_after_begin t nodes)
  drawn_begun g = record {
    drawn = each_both (IsPlaced s.stamped s.clock) (λ x. x.settled ≡ false → AllByRecursion (λ d. d ≤ s.clock) (nodes x.id).dependents) (λ x. x.settled ≡ false → AllByRecursion (λ d. d ≤ t) (nodes_after_begin t nodes x.id).dependents)
        (λ x p w o. subst (λ (n : NodeData). AllByRecursion (λ d. d ≤ t) n.dependents) (sym (old_node x.id (placed_low x p))) (each_weaker (λ d. d ≤ s.clock) (λ d. d ≤ t) (λ d le. omega (arith, le, lt)) (nodes x.id).dependents (w o))) s.stamped sd.placed g.drawn;
    none = each_append (λ r. (nodes_after_begin t nodes r.id).dependents ≡ []) s.active (new_active t ∷ [])
        (each_both (IsActive s.base s.stamped s.clock) (λ r. (nodes r.id).dependents ≡ []) (λ r. (nodes_after_begin t nodes r.id).dependents ≡ []) (λ r a n. ap (λ (m : NodeData). m.dependents) (old_node r.id a.drawn) ∙ n) s.active sd.active g.none)
        (ap (λ (m : NodeData). m.dependents) new_node, tt);
  }

-- ---- a precommit
module _ (s : State) (nodes : Nodes) (r : ActiveTx) (e : ℕ) (lt : s.clock < e) (sd : IsSound s) (f : active_of r.id s.active ≡ Some r) where
  stays : ActiveTx → Bool
  stays q = not (q.id == r.id)

  active_end : (q : ActiveTx) → IsActive s.base s.stamped s.clock q → has_end q.depends_on e ≡ false
  active_end q a = no_end q.depends_on q.id s.clock e a.below a.drawn lt

  stamped_end : (x : StampedTx) → x.settled ≡ false → IsPlaced s.stamped s.clock x → (x.settled ≡ false → IsPreparing s.base s.stamped x) → has_end x.depends_on e ≡ false
  stamped_end x o p w = no_end x.depends_on x.id s.clock e (w o).below (let b = p.begun in let d = p.drawn in omega (arith, b, d)) lt

  node_pushed : (ds : List ℕ) (o : Option ℕ) (n : NodeData) → has_end ds e ≡ false → IsNode s.stamped ds o n → IsNode (s.stamped ++ to_stamped e r ∷ []) ds o n
  node_pushed ds o n away h = record { flag = h.flag; waits = λ q. h.waits q ∙ sym (count_pushed ds s.stamped (to_stamped e r) away) }

  pub nodes_prepared : HasNodes s nodes → HasDrawnDependents s nodes → HasNodes (after_prepare s r e) nodes
  nodes_prepared h g = record {
    active = each_filter (λ q. not (q.id == r.id)) (λ q. IsActive s.base s.stamped s.clock q × IsNode s.stamped q.depends_on q.aborted_dependency (nodes q.id)) (λ q. IsNode (s.stamped ++ to_stamped e r ∷ []) q.depends_on q.aborted_dependency (nodes q.id))
        (λ q _ w. node_pushed q.depends_on q.aborted_dependency (nodes q.id) (active_end q w.0) w.1) s.active
        (both (IsActive s.base s.stamped s.clock) (λ q. IsNode s.stamped q.depends_on q.aborted_dependency (nodes q.id)) s.active sd.active h.active);
    preparing = each_append (λ x. x.settled ≡ false → IsNode (s.stamped ++ to_stamped e r ∷ []) x.depends_on x.aborted_dependency (nodes x.id)) s.stamped (to_stamped e r ∷ [])
        (each_both (λ x. IsPlaced s.stamped s.clock x × (x.settled ≡ false → IsPreparing s.base s.stamped x)) (λ x. x.settled ≡ false → IsNode s.stamped x.depends_on x.aborted_dependency (nodes x.id)) (λ x. x.settled ≡ false → IsNode (s.stamped ++ to_stamped e r ∷ []) x.depends_on x.aborted_dependency (nodes x.id))
        (λ x w n o. node_pushed x.depends_on x.aborted_dependency (nodes x.id) (stamped_end x o w.0 w.1) (n o)) s.stamped placed h.preparing)
        ((λ _. node_pushed r.depends_on r.aborted_dependency (nodes r.id) (active_end r mine.0.0) mine.0.1), tt);
    dependents = each_append (λ x. x.settled ≡ false → AreDependents (after_prepare s r e) (nodes x.id).dependents x.end) s.stamped (to_stamped e r ∷ [])
        (each_weaker (λ x. x.settled ≡ false → AreDependents s (nodes x.id).dependents x.end) (λ x. x.settled ≡ false → AreDependents (after_prepare s r e) (nodes x.id).dependents x.end)
        (λ x w o. record {
          active = each_filter (λ q. not (q.id == r.id)) (λ q. has_end (nodes x.id).dependents q.id ≡ has_end q.depends_on x.end) (λ q. has_end (nodes x.id).dependents q.id ≡ has_end q.depends_on x.end) (λ q _ k. k) s.active (w o).active;
          preparing = each_append (λ y. y.settled ≡ false → has_end (nodes x.id).dependents y.id ≡ has_end y.depends_on x.end) s.stamped (to_stamped e r ∷ []) (w o).preparing
              ((λ _. (active_holds (λ q. has_end (nodes x.id).dependents q.id ≡ has_end q.depends_on x.end) r.id s.active r f (w o).active).0), tt);
        }) s.stamped h.dependents) (
          (λ _. subst (λ ds. AreDependents (after_prepare s r e) ds e) (sym mine_none) (record {
            active = each_filter (λ q. not (q.id == r.id)) (IsActive s.base s.stamped s.clock) (λ q. false ≡ has_end q.depends_on e) (λ q _ a. sym (active_end q a)) s.active sd.active;
            preparing = each_append (λ y. y.settled ≡ false → false ≡ has_end y.depends_on e) s.stamped (to_stamped e r ∷ [])
                (each_weaker (λ x. IsPlaced s.stamped s.clock x × (x.settled ≡ false → IsPreparing s.base s.stamped x)) (λ y. y.settled ≡ false → false ≡ has_end y.depends_on e) (λ x w o. sym (stamped_end x o w.0 w.1)) s.stamped placed)
                ((λ _. sym (active_end r mine.0.0)), tt);
          })),
          tt,
        );
  }
    where
      placed : AllByRecursion (λ x. IsPlaced s.stamped s.clock x × (x.settled ≡ false → IsPreparing s.base s.stamped x)) s.stamped
      placed = both (IsPlaced s.stamped s.clock) (λ x. x.settled ≡ false → IsPreparing s.base s.stamped x) s.stamped sd.placed sd.preparing

      mine : (IsActive s.base s.stamped s.clock r × IsNode s.stamped r.depends_on r.aborted_dependency (nodes r.id)) × (r.id ≡ r.id)
      mine = active_holds (λ q. IsActive s.base s.stamped s.clock q × IsNode s.stamped q.depends_on q.aborted_dependency (nodes q.id)) r.id s.active r f
          (both (IsActive s.base s.stamped s.clock) (λ q. IsNode s.stamped q.depends_on q.aborted_dependency (nodes q.id)) s.active sd.active h.active)

      mine_none : (nodes r.id).dependents ≡ []
      mine_none = (active_holds (λ q. (nodes q.id).dependents ≡ []) r.id s.active r f g.none).0

  pub drawn_prepared : HasDrawnDependents s nodes → HasDrawnDependents (after_prepare s r e) nodes
  drawn_prepared g = record {
    drawn = each_append (λ x. x.settled ≡ false → AllByRecursion (λ d. d ≤ e) (nodes x.id).dependents) s.stamped (to_stamped e r ∷ [])
        (each_weaker (λ x. x.settled ≡ false → AllByRecursion (λ d. d ≤ s.clock) (nodes x.id).dependents) (λ x. x.settled ≡ false → AllByRecursion (λ d. d ≤ e) (nodes x.id).dependents)
        (λ x w o. each_weaker (λ d. d ≤ s.clock) (λ d. d ≤ e) (λ d le. omega (arith, le, lt)) (nodes x.id).dependents (w o)) s.stamped g.drawn)
        ((λ _. subst (AllByRecursion (λ d. d ≤ e)) (sym (active_holds (λ q. (nodes q.id).dependents ≡ []) r.id s.active r f g.none).0) tt), tt);
    none = each_filter (λ q. not (q.id == r.id)) (λ q. (nodes q.id).dependents ≡ []) (λ q. (nodes q.id).dependents ≡ []) (λ q _ n. n) s.active g.none;
  }
