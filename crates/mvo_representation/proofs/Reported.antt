-- A commit and an abort are reported to the dependents, and a dependency is added.
use Rattle.std.proofs.Common.{◌≡◌, ◌≢◌, ℕ, ◌+◌, ◌-◌, Bool, true, false, cond, not, ◌||◌, eqb, List, map, Option, None, Some, refl, sym, ap, ◌∙◌, subst, arith, ◌⊎◌, inl, inr}
use Rattle.std.specs.Prelude.{◌==◌, ◌&&◌}
use Rattle.std.specs.List.{AllByRecursion, filter}
use Rattle.std.proofs.lemmas.Bool.{eq-eqb, eqb-true, ne_eqb, cases_eq}
use Rattle.mvo_theory.specs.State.{State, StampedTx, ActiveTx, preparing_of}
use Rattle.mvo_theory.specs.Dependencies.{has_end, with_end}
use Rattle.mvo_theory.specs.Changes.{with_settled, after_commit, after_abort_of_preparing, with_flag, active_with_flag, not_at, aborted_dependency_after}
use Rattle.mvo_theory.specs.Sound.{IsSound, IsRising}
use Rattle.mvo_theory.proofs.Each.{each_both, each_map, each_filter}
use Rattle.mvo_representation.specs.Nodes.{with_listed, NodeData, Nodes, open_count, IsNode, AreDependents, HasNodes, nodes_after_commit, or_flag, nodes_after_abort, nodes_after_register, active_with_dependency, after_dependency}
use Rattle.mvo_representation.proofs.Facts.{found_holds}
use Rattle.mvo_representation.proofs.Open.{is_open, open_each}
use Rattle.mvo_representation.proofs.Waited.{has_listed, count_settled, count_gone, count_added, has_with}
use Rattle.mvo_representation.proofs.Quiet.{or_no}
use Rattle.mvo_deps.proofs.Lists.{one}

pub its_dependents : (s : State) (nodes : Nodes) (t : ℕ) (x : StampedTx) → HasNodes s nodes → preparing_of t s.stamped ≡ Some x → AreDependents s (nodes t).dependents x.end
its_dependents s nodes t x h f =
    let w = found_holds (λ y. y.settled ≡ false → AreDependents s (nodes y.id).dependents y.end) t s.stamped x f h.dependents in
    subst (λ (u : ℕ). AreDependents s (nodes u).dependents x.end) w.1 (w.0 w.2)

pub its_open : (s : State) (t : ℕ) (x : StampedTx) → IsSound s → preparing_of t s.stamped ≡ Some x → is_open x.end s.stamped ≡ true
its_open s t x sd f = let w = found_holds (λ y. is_open y.end s.stamped ≡ not y.settled) t s.stamped x f (open_each s.stamped sd.rising) in w.0 ∙ ap not w.2

-- ---- a commit
settled_node : (xs : List StampedTx) (e : ℕ) (ds : List ℕ) (flag_was : Option ℕ) (n : NodeData) (b : Bool) → IsRising xs → is_open e xs ≡ true → b ≡ has_end ds e → IsNode xs ds flag_was n → IsNode (map (with_settled e) xs) ds flag_was (record n { waits = cond b (n.waits - 1) n.waits })
settled_node xs e ds flag_was n b r o q h = record { flag = h.flag; waits = λ d. go b refl (h.waits d) }
  where
    go : (c : Bool) → b ≡ c → n.waits ≡ open_count ds xs → cond b (n.waits - 1) n.waits ≡ open_count ds (map (with_settled e) xs)
    go true i w =
        let k : open_count ds xs ≡ open_count ds (map (with_settled e) xs) + one (has_end ds e) = count_settled ds e xs r o in
        let l : one (has_end ds e) ≡ 1 = ap one (sym q ∙ i) in
        let m : n.waits - 1 ≡ open_count ds (map (with_settled e) xs) = omega (arith, w, k, l) in
        ap (λ c. cond c (n.waits - 1) n.waits) i ∙ m
    go false i w =
        let k : open_count ds xs ≡ open_count ds (map (with_settled e) xs) + one (has_end ds e) = count_settled ds e xs r o in
        let l : one (has_end ds e) ≡ 0 = ap one (sym q ∙ i) in
        let m : n.waits ≡ open_count ds (map (with_settled e) xs) = omega (arith, w, k, l) in
        ap (λ c. cond c (n.waits - 1) n.waits) i ∙ m

-- report a commit
pub kept_commit : (s : State) (nodes : Nodes) (t : ℕ) (x : StampedTx) → IsSound s → preparing_of t s.stamped ≡ Some x → HasNodes s nodes → HasNodes (after_commit s t x.end) (nodes_after_commit (nodes t).dependents nodes)
kept_commit s nodes t x sd f h = record {
  active = each_both (λ r. has_end (nodes t).dependents r.id ≡ has_end r.depends_on x.end) (λ r. IsNode s.stamped r.depends_on r.aborted_dependency (nodes r.id)) (λ r. IsNode (map (with_settled x.end) s.stamped) r.depends_on r.aborted_dependency (nodes_after_commit (nodes t).dependents nodes r.id)) (λ r q g. settled_node s.stamped x.end r.depends_on r.aborted_dependency (nodes r.id) (has_end (nodes t).dependents r.id) sd.rising (its_open s t x sd f) q g) s.active (its_dependents s nodes t x h f).active h.active;
  preparing = each_map (with_settled x.end) (λ y. (y.settled ≡ false → has_end (nodes t).dependents y.id ≡ has_end y.depends_on x.end) × (y.settled ≡ false → IsNode s.stamped y.depends_on y.aborted_dependency (nodes y.id))) (λ y. y.settled ≡ false → IsNode (map (with_settled x.end) s.stamped) y.depends_on y.aborted_dependency (nodes_after_commit (nodes t).dependents nodes y.id))
      (λ y g e. let o = (or_no y.settled (y.end == x.end) e).0 in settled_node s.stamped x.end y.depends_on y.aborted_dependency (nodes y.id) (has_end (nodes t).dependents y.id) sd.rising (its_open s t x sd f) (g.0 o) (g.1 o)) s.stamped
      (each_both (λ y. y.settled ≡ false → has_end (nodes t).dependents y.id ≡ has_end y.depends_on x.end) (λ y. y.settled ≡ false → IsNode s.stamped y.depends_on y.aborted_dependency (nodes y.id)) (λ y. (y.settled ≡ false → has_end (nodes t).dependents y.id ≡ has_end y.depends_on x.end) × (y.settled ≡ false → IsNode s.stamped y.depends_on y.aborted_dependency (nodes y.id))) (λ y a b. (a, b)) s.stamped (its_dependents s nodes t x h f).preparing h.preparing);
  dependents = each_map (with_settled x.end) (λ y. y.settled ≡ false → AreDependents s (nodes y.id).dependents y.end) (λ y. y.settled ≡ false → AreDependents (after_commit s t x.end) (nodes y.id).dependents y.end)
      (λ y g e. let w = g (or_no y.settled (y.end == x.end) e).0 in record {
        active = w.active;
        preparing = each_map (with_settled x.end) (λ z. z.settled ≡ false → has_end (nodes y.id).dependents z.id ≡ has_end z.depends_on y.end) (λ z. z.settled ≡ false → has_end (nodes y.id).dependents z.id ≡ has_end z.depends_on y.end) (λ z k o. k (or_no z.settled (z.end == x.end) o).0) s.stamped w.preparing;
      }) s.stamped h.dependents;
}

-- ---- an abort
flagged_node : (xs : List StampedTx) (t e : ℕ) (ds : List ℕ) (flag_was : Option ℕ) (n : NodeData) (b : Bool) → b ≡ has_end ds e → IsNode xs ds flag_was n → IsNode (map (with_flag t e) (filter (not_at e) xs)) ds (aborted_dependency_after t e ds flag_was) (record n { waits = cond b (n.waits - 1) n.waits; flag = cond b (or_flag t n.flag) n.flag })
flagged_node xs t e ds flag_was n b q h = record { flag = flag flag_was h.flag; waits = waits flag_was h.waits }
  where
    flag : (d : Option ℕ) → n.flag ≡ d → cond b (or_flag t n.flag) n.flag ≡ aborted_dependency_after t e ds d
    flag None i = ap (λ f. cond b (or_flag t f) f) i ∙ ap (λ c. cond c (Some t) None) q
    flag (Some u) i = ap (λ f. cond b (or_flag t f) f) i ∙ same b
      where
        same : (c : Bool) → cond c (Some u) (Some u) ≡ Some u
        same true = refl
        same false = refl

    some_none : (u : ℕ) → ◌≡◌ {A = Option ℕ} (Some u) None → ⊥
    some_none u q = cc

    waits : (d : Option ℕ) → (d ≡ None → n.waits ≡ open_count ds xs) → aborted_dependency_after t e ds d ≡ None → cond b (n.waits - 1) n.waits ≡ open_count ds (map (with_flag t e) (filter (not_at e) xs))
    waits (Some u) w i = absurd (some_none u i)
    waits None w i = go (has_end ds e) refl i
      where
        go : (c : Bool) → has_end ds e ≡ c → cond c (Some t) None ≡ None → cond b (n.waits - 1) n.waits ≡ open_count ds (map (with_flag t e) (filter (not_at e) xs))
        go true j k = absurd (some_none t k)
        go false j k = ap (λ c. cond c (n.waits - 1) n.waits) (q ∙ j) ∙ w refl ∙ sym (count_gone ds t e xs j)

-- report an abort
pub kept_abort : (s : State) (nodes : Nodes) (t : ℕ) (x : StampedTx) → preparing_of t s.stamped ≡ Some x → HasNodes s nodes → HasNodes (after_abort_of_preparing s t x.end) (nodes_after_abort t (nodes t).dependents nodes)
kept_abort s nodes t x f h = record {
  active = each_map (active_with_flag t x.end) (λ r. (has_end (nodes t).dependents r.id ≡ has_end r.depends_on x.end) × IsNode s.stamped r.depends_on r.aborted_dependency (nodes r.id)) (λ r. IsNode (map (with_flag t x.end) (filter (not_at x.end) s.stamped)) r.depends_on r.aborted_dependency (nodes_after_abort t (nodes t).dependents nodes r.id))
      (λ r g. flagged_node s.stamped t x.end r.depends_on r.aborted_dependency (nodes r.id) (has_end (nodes t).dependents r.id) g.0 g.1) s.active
      (each_both (λ r. has_end (nodes t).dependents r.id ≡ has_end r.depends_on x.end) (λ r. IsNode s.stamped r.depends_on r.aborted_dependency (nodes r.id)) (λ r. (has_end (nodes t).dependents r.id ≡ has_end r.depends_on x.end) × IsNode s.stamped r.depends_on r.aborted_dependency (nodes r.id)) (λ r a b. (a, b)) s.active (its_dependents s nodes t x h f).active h.active);
  preparing = each_map (with_flag t x.end) (λ y. (y.settled ≡ false → has_end (nodes t).dependents y.id ≡ has_end y.depends_on x.end) × (y.settled ≡ false → IsNode s.stamped y.depends_on y.aborted_dependency (nodes y.id))) (λ y. y.settled ≡ false → IsNode (map (with_flag t x.end) (filter (not_at x.end) s.stamped)) y.depends_on y.aborted_dependency (nodes_after_abort t (nodes t).dependents nodes y.id))
      (λ y g e. flagged_node s.stamped t x.end y.depends_on y.aborted_dependency (nodes y.id) (has_end (nodes t).dependents y.id) (g.0 e) (g.1 e)) (filter (not_at x.end) s.stamped)
      (each_filter (not_at x.end) (λ y. (y.settled ≡ false → has_end (nodes t).dependents y.id ≡ has_end y.depends_on x.end) × (y.settled ≡ false → IsNode s.stamped y.depends_on y.aborted_dependency (nodes y.id))) (λ y. (y.settled ≡ false → has_end (nodes t).dependents y.id ≡ has_end y.depends_on x.end) × (y.settled ≡ false → IsNode s.stamped y.depends_on y.aborted_dependency (nodes y.id))) (λ y _ g. g) s.stamped
      (each_both (λ y. y.settled ≡ false → has_end (nodes t).dependents y.id ≡ has_end y.depends_on x.end) (λ y. y.settled ≡ false → IsNode s.stamped y.depends_on y.aborted_dependency (nodes y.id)) (λ y. (y.settled ≡ false → has_end (nodes t).dependents y.id ≡ has_end y.depends_on x.end) × (y.settled ≡ false → IsNode s.stamped y.depends_on y.aborted_dependency (nodes y.id))) (λ y a b. (a, b)) s.stamped (its_dependents s nodes t x h f).preparing h.preparing));
  dependents = each_map (with_flag t x.end) (λ y. y.settled ≡ false → AreDependents s (nodes y.id).dependents y.end) (λ y. y.settled ≡ false → AreDependents (after_abort_of_preparing s t x.end) (nodes y.id).dependents y.end)
      (λ y g e. let w = g e in record {
        active = each_map (active_with_flag t x.end) (λ r. has_end (nodes y.id).dependents r.id ≡ has_end r.depends_on y.end) (λ r. has_end (nodes y.id).dependents r.id ≡ has_end r.depends_on y.end) (λ r k. k) s.active w.active;
        preparing = each_map (with_flag t x.end) (λ z. z.settled ≡ false → has_end (nodes y.id).dependents z.id ≡ has_end z.depends_on y.end) (λ z. z.settled ≡ false → has_end (nodes y.id).dependents z.id ≡ has_end z.depends_on y.end) (λ z k. k) (filter (not_at x.end) s.stamped)
            (each_filter (not_at x.end) (λ z. z.settled ≡ false → has_end (nodes y.id).dependents z.id ≡ has_end z.depends_on y.end) (λ z. z.settled ≡ false → has_end (nodes y.id).dependents z.id ≡ has_end z.depends_on y.end) (λ z _ k. k) s.stamped w.preparing);
      }) (filter (not_at x.end) s.stamped)
      (each_filter (not_at x.end) (λ y. y.settled ≡ false → AreDependents s (nodes y.id).dependents y.end) (λ y. y.settled ≡ false → AreDependents s (nodes y.id).dependents y.end) (λ y _ g. g) s.stamped h.dependents);
}

-- ---- a dependency more
-- the unsettled one x with the end e is the only unsettled one with its id, and with its end; and t is nobody of those with an end
pub record IsNew (s : State) (t x e : ℕ) : Type 0 where
  pub there : is_open e s.stamped ≡ true
  pub alone : AllByRecursion (λ y. y.settled ≡ false → (y.id == x) ≡ (y.end == e)) s.stamped
  pub apart : AllByRecursion (λ y. y.settled ≡ false → y.id ≢ t) s.stamped

pub swap_eq : (a b : ℕ) → eqb a b ≡ eqb b a
swap_eq a b = go (cases_eq a b)
  where
    go : (a ≡ b) ⊎ (a ≡ b → ⊥) → eqb a b ≡ eqb b a
    go (inl e) = eq-eqb a b e ∙ sym (eq-eqb b a (sym e))
    go (inr n) = ne_eqb a b n ∙ sym (ne_eqb b a (λ e. n (sym e)))

-- whether one is among the dependents afterwards
listed_active : (t e end' : ℕ) (deps ds : List ℕ) (u : ℕ) (b : Bool) → b ≡ (end' == e) → has_end deps u ≡ has_end ds end' → has_end (cond b (with_listed deps t) deps) u ≡ has_end (cond (u == t) (with_end ds e) ds) end'
listed_active t e end' deps ds u true q h = has_listed deps t u ∙ go (u == t) refl
  where
    go : (c : Bool) → (u == t) ≡ c → ((t == u) || has_end deps u) ≡ has_end (cond c (with_end ds e) ds) end'
    go true i = ap (λ x. x || has_end deps u) (swap_eq t u ∙ i) ∙ sym (has_with ds e end' ∙ ap (λ x. x || has_end ds end') (swap_eq e end' ∙ sym q))
    go false i = ap (λ x. x || has_end deps u) (swap_eq t u ∙ i) ∙ h
listed_active t e end' deps ds u false q h = h ∙ go (u == t)
  where
    go : (c : Bool) → has_end ds end' ≡ has_end (cond c (with_end ds e) ds) end'
    go true = sym (has_with ds e end' ∙ ap (λ x. x || has_end ds end') (swap_eq e end' ∙ sym q))
    go false = refl

listed_other : (t : ℕ) (deps : List ℕ) (u : ℕ) (b : Bool) → (u ≡ t → ⊥) → has_end (cond b (with_listed deps t) deps) u ≡ has_end deps u
listed_other t deps u true n = has_listed deps t u ∙ ap (λ x. x || has_end deps u) (ne_eqb t u (λ e. n (sym e)))
listed_other t deps u false n = refl

added_node : (xs : List StampedTx) (t e : ℕ) (deps : List ℕ) (r : ActiveTx) (n : NodeData) → IsRising xs → is_open e xs ≡ true → has_end deps r.id ≡ has_end r.depends_on e → IsNode xs r.depends_on r.aborted_dependency n → IsNode xs (cond (r.id == t) (with_end r.depends_on e) r.depends_on) r.aborted_dependency (record n { waits = cond ((r.id == t) && not (has_end deps t)) (n.waits + 1) n.waits })
added_node xs t e deps r n ri o q h = record { flag = h.flag; waits = λ d. go (r.id == t) refl (h.waits d) }
  where
    plus : (c : Bool) → cond c (n.waits + 1) n.waits ≡ n.waits + one c
    plus true = refl
    plus false = omega arith

    go : (c : Bool) → (r.id == t) ≡ c → n.waits ≡ open_count r.depends_on xs → cond (c && not (has_end deps t)) (n.waits + 1) n.waits ≡ open_count (cond c (with_end r.depends_on e) r.depends_on) xs
    go true i w =
        let k : open_count (with_end r.depends_on e) xs ≡ open_count r.depends_on xs + one (not (has_end r.depends_on e)) = count_added r.depends_on e xs ri o in
        let l : one (not (has_end deps t)) ≡ one (not (has_end r.depends_on e)) = ap (λ b. one (not b)) (ap (has_end deps) (sym (eqb-true r.id t i)) ∙ q) in
        let m = plus (not (has_end deps t)) in
        omega (arith, k, l, m, w)
    go false i w = w

-- add a dependency
pub kept_registered : (s : State) (nodes : Nodes) (t x e : ℕ) → IsRising s.stamped → IsNew s t x e → AreDependents s (nodes x).dependents e → HasNodes s nodes → HasNodes (after_dependency s t e) (nodes_after_register t x nodes)
kept_registered s nodes t x e rising new deps h = record {
  active = each_map (active_with_dependency t e) (λ r. (has_end (nodes x).dependents r.id ≡ has_end r.depends_on e) × IsNode s.stamped r.depends_on r.aborted_dependency (nodes r.id)) (λ r. IsNode s.stamped r.depends_on r.aborted_dependency (nodes_after_register t x nodes r.id))
      (λ r g. let n = added_node s.stamped t e (nodes x).dependents r (nodes r.id) rising new.there g.0 g.1 in record { flag = n.flag; waits = n.waits }) s.active
      (each_both (λ r. has_end (nodes x).dependents r.id ≡ has_end r.depends_on e) (λ r. IsNode s.stamped r.depends_on r.aborted_dependency (nodes r.id)) (λ r. (has_end (nodes x).dependents r.id ≡ has_end r.depends_on e) × IsNode s.stamped r.depends_on r.aborted_dependency (nodes r.id)) (λ r a b. (a, b)) s.active deps.active h.active);
  preparing = each_both (λ y. y.settled ≡ false → y.id ≢ t) (λ y. y.settled ≡ false → IsNode s.stamped y.depends_on y.aborted_dependency (nodes y.id)) (λ y. y.settled ≡ false → IsNode s.stamped y.depends_on y.aborted_dependency (nodes_after_register t x nodes y.id))
      (λ y n g o. let w = g o in record { flag = w.flag; waits = λ d. ap (λ c. cond (c && not (has_end (nodes x).dependents t)) ((nodes y.id).waits + 1) (nodes y.id).waits) (ne_eqb y.id t (n o)) ∙ w.waits d }) s.stamped new.apart h.preparing;
  dependents = each_both (λ y. y.settled ≡ false → (y.id == x) ≡ (y.end == e)) (λ y. y.settled ≡ false → AreDependents s (nodes y.id).dependents y.end) (λ y. y.settled ≡ false → AreDependents (after_dependency s t e) (nodes_after_register t x nodes y.id).dependents y.end)
      (λ y a g o. let w = g o in record {
        active = each_map (active_with_dependency t e) (λ r. has_end (nodes y.id).dependents r.id ≡ has_end r.depends_on y.end) (λ r. has_end (nodes_after_register t x nodes y.id).dependents r.id ≡ has_end r.depends_on y.end) (λ r k. listed_active t e y.end (nodes y.id).dependents r.depends_on r.id (y.id == x) (a o) k) s.active w.active;
        preparing = each_both (λ z. z.settled ≡ false → z.id ≢ t) (λ z. z.settled ≡ false → has_end (nodes y.id).dependents z.id ≡ has_end z.depends_on y.end) (λ z. z.settled ≡ false → has_end (nodes_after_register t x nodes y.id).dependents z.id ≡ has_end z.depends_on y.end) (λ z n k p. listed_other t (nodes y.id).dependents z.id (y.id == x) (n p) ∙ k p) s.stamped new.apart w.preparing;
      }) s.stamped new.alone h.dependents;
}
