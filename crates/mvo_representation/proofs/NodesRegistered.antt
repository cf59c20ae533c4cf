-- What the table keeps after a dependency was registered is right.
use Rattle.std.proofs.Common.{◌≡◌, ◌≢◌, ℕ, ◌+◌, ◌≤◌, Bool, true, false, cond, eqb, not, List, [], ◌∷◌, ◌++◌, map, Option, None, Some, refl, sym, ap, ◌∙◌, subst}
use Rattle.std.specs.Prelude.{◌==◌, ◌&&◌, is_some}
use Rattle.std.specs.List.{AllByRecursion}
use Rattle.std.specs.Option.{option_map}
use Rattle.std.specs.FinMap as fin
use Rattle.std.proofs.lemmas.Bool.{eqb-true, false≢true}
use Rattle.mvo_types.specs.declared.ids.TxId.{TxId}
use Rattle.mvo_theory.specs.State.{State}
use Rattle.mvo_theory.specs.Dependencies.{has_end}
use Rattle.mvo_theory.specs.Sound.{IsRising}
use Rattle.mvo_txn.specs.declared.table_seat.TableSeat.{TableSeat}
use Rattle.mvo_txn.specs.Txns.{Txns}
use Rattle.mvo_deps.specs.declared.node.Node.{Node}
use Rattle.mvo_deps.specs.Data.{is_id_among, with_dependency, with_dependent}
use Rattle.mvo_deps.specs.Nodes.{data_in, data_of, after_change, changed_if, with_data, after_register as after_registration}
use Rattle.mvo_deps.proofs.Changes.{get_changed}
use Rattle.mvo_representation.specs.Nodes.{NodeData, node_as, nodes_of, with_listed, AreDependents, HasNodes, HasDrawnDependents, nodes_after_register, after_dependency}
use Rattle.mvo_representation.proofs.NodesKept.{drawn_registered}
use Rattle.mvo_representation.proofs.NodesReported.{among_is}
use Rattle.mvo_representation.proofs.Reported.{IsNew, kept_registered}

ids_behind : (ids : List TxId) (t : TxId) → map (λ (x : TxId). x.0) (ids ++ t ∷ []) ≡ map (λ (x : TxId). x.0) ids ++ t.0 ∷ []
ids_behind [] t = refl
ids_behind (x ∷ xs) t = ap (λ ns. x.0 ∷ ns) (ids_behind xs t)

module _ {P : Type 0} where
  -- both are in the table, and the one stands with the other where the other stands with the one
  pub record MayRegister (old : Txns (Node P)) (tx on : TxId) : Type 0 where
    pub apart : tx.0 ≢ on.0
    pub there : is_some (fin.get old.seats tx.0) ≡ true
    pub other : is_some (fin.get old.seats on.0) ≡ true
    pub mutual' : is_id_among on (data_of old tx).on ≡ true → is_id_among tx (data_of old on).dependents ≡ true

  registered_is : (old : Txns (Node P)) (tx on : TxId) → MayRegister old tx on → (u : ℕ) → nodes_of (after_registration old tx on) u ≡ nodes_after_register tx.0 on.0 (nodes_of old) u
  registered_is old tx on m u = go (is_id_among on (data_of old tx).on) refl (is_id_among tx (data_of old on).dependents) refl
    where
      listed : (b : Bool) → is_id_among tx (data_of old on).dependents ≡ b → has_end (nodes_of old on.0).dependents tx.0 ≡ b
      listed b e = sym (among_is tx (data_of old on).dependents) ∙ e

      -- it stood there already
      old_node : has_end (nodes_of old on.0).dependents tx.0 ≡ true → nodes_of old u ≡ nodes_after_register tx.0 on.0 (nodes_of old) u
      old_node h = stays (u == tx.0) (u == on.0) refl
        where
          stays : (b c : Bool) → (u == on.0) ≡ c → nodes_of old u ≡ record { waits = cond (b && not (has_end (nodes_of old on.0).dependents tx.0)) ((nodes_of old u).waits + 1) (nodes_of old u).waits; flag = (nodes_of old u).flag; dependents = cond c (with_listed (nodes_of old u).dependents tx.0) (nodes_of old u).dependents }
          stays true false q = ap (λ x. record { waits = cond (not x) ((nodes_of old u).waits + 1) (nodes_of old u).waits; flag = (nodes_of old u).flag; dependents = (nodes_of old u).dependents }) (sym h)
          stays false false q = refl
          stays b true q =
              let same = eqb-true u on.0 q in
              let k : has_end (nodes_of old u).dependents tx.0 ≡ true = subst (λ (j : ℕ). has_end (nodes_of old j).dependents tx.0 ≡ true) (sym same) h in
              ap (λ x. record { waits = (nodes_of old u).waits; flag = (nodes_of old u).flag; dependents = cond x (nodes_of old u).dependents ((nodes_of old u).dependents ++ tx.0 ∷ []) }) (sym k)
              ∙ ap (λ w. record { waits = w; flag = (nodes_of old u).flag; dependents = with_listed (nodes_of old u).dependents tx.0 }) (by b)
            where
              by : (b : Bool) → (nodes_of old u).waits ≡ cond (b && not (has_end (nodes_of old on.0).dependents tx.0)) ((nodes_of old u).waits + 1) (nodes_of old u).waits
              by true = ap (λ x. cond (not x) ((nodes_of old u).waits + 1) (nodes_of old u).waits) (sym h)
              by false = refl

      -- it is new
      seat : fin.get (after_change (after_change old on.0 (with_dependent tx)) tx.0 (with_dependency on)).seats u ≡ option_map (with_data (changed_if (eqb u tx.0) (with_dependency on))) (option_map (with_data (changed_if (eqb u on.0) (with_dependent tx))) (fin.get old.seats u))
      seat =
          get_changed (after_change old on.0 (with_dependent tx)) tx.0 (with_dependency on) u
          ∙ ap (option_map (with_data (changed_if (eqb u tx.0) (with_dependency on)))) (get_changed old on.0 (with_dependent tx) u)

      new_node : has_end (nodes_of old on.0).dependents tx.0 ≡ false → nodes_of (after_change (after_change old on.0 (with_dependent tx)) tx.0 (with_dependency on)) u ≡ nodes_after_register tx.0 on.0 (nodes_of old) u
      new_node h = ap (λ o. node_as (data_in (option_map (λ s. s.kept) o))) seat ∙ by (fin.get old.seats u) refl (u == tx.0) refl (u == on.0) refl
        where
          by : (o : Option (TableSeat (Node P))) → fin.get old.seats u ≡ o → (b : Bool) → (u == tx.0) ≡ b → (c : Bool) → (u == on.0) ≡ c →
              node_as (data_in (option_map (λ s. s.kept) (option_map (with_data (changed_if b (with_dependency on))) (option_map (with_data (changed_if c (with_dependent tx))) o))))
              ≡ record { waits = cond (b && not (has_end (nodes_of old on.0).dependents tx.0)) ((node_as (data_in (option_map (λ s. s.kept) o))).waits + 1) (node_as (data_in (option_map (λ s. s.kept) o))).waits; flag = (node_as (data_in (option_map (λ s. s.kept) o))).flag; dependents = cond c (with_listed (node_as (data_in (option_map (λ s. s.kept) o))).dependents tx.0) (node_as (data_in (option_map (λ s. s.kept) o))).dependents }
          by o e true i true j = absurd (m.apart (sym (eqb-true u tx.0 i) ∙ eqb-true u on.0 j))
          by None e true i false j = absurd (false≢true (sym (ap is_some e) ∙ ap (λ (x : ℕ). is_some (fin.get old.seats x)) (eqb-true u tx.0 i) ∙ m.there))
          by None e false i true j = absurd (false≢true (sym (ap is_some e) ∙ ap (λ (x : ℕ). is_some (fin.get old.seats x)) (eqb-true u on.0 j) ∙ m.other))
          by None e false i false j = refl
          by (Some s) e false i false j = refl
          by (Some s) e true i false j = ap (λ x. record { waits = cond (not x) (s.kept.dependencies.unsettled + 1) s.kept.dependencies.unsettled; flag = option_map (λ (t : TxId). t.0) s.kept.dependencies.aborted; dependents = map (λ (t : TxId). t.0) s.kept.dependencies.dependents }) (sym h)
          by (Some s) e false i true j =
              let mine : nodes_of old on.0 ≡ node_as s.kept.dependencies = ap (λ (x : ℕ). nodes_of old x) (sym (eqb-true u on.0 j)) ∙ ap (λ o. node_as (data_in (option_map (λ s. s.kept) o))) e in
              let k : has_end (map (λ (t : TxId). t.0) s.kept.dependencies.dependents) tx.0 ≡ false = ap (λ (n : NodeData). has_end n.dependents tx.0) (sym mine) ∙ h in
              ap (λ ns. record { waits = s.kept.dependencies.unsettled; flag = option_map (λ (t : TxId). t.0) s.kept.dependencies.aborted; dependents = ns })
              (ids_behind s.kept.dependencies.dependents tx ∙ ap (λ x. cond x (map (λ (t : TxId). t.0) s.kept.dependencies.dependents) (map (λ (t : TxId). t.0) s.kept.dependencies.dependents ++ tx.0 ∷ [])) (sym k))

      go : (a : Bool) → is_id_among on (data_of old tx).on ≡ a → (b : Bool) → is_id_among tx (data_of old on).dependents ≡ b → nodes_of (cond a old (cond b old (after_change (after_change old on.0 (with_dependent tx)) tx.0 (with_dependency on)))) u ≡ nodes_after_register tx.0 on.0 (nodes_of old) u
      go true i b j = old_node (listed true (m.mutual' i))
      go false i true j = old_node (listed true j)
      go false i false j = new_node (listed false j)

  -- one dependency more
  same_nodes : (old : Txns (Node P)) (tx on : TxId) → MayRegister old tx on → nodes_after_register tx.0 on.0 (nodes_of old) ≡ nodes_of (after_registration old tx on)
  same_nodes old tx on m = λ i u. sym (registered_is old tx on m u) i

  pub dependency_registered : (s : State) (old : Txns (Node P)) (t x : TxId) (e : ℕ) → IsRising s.stamped → IsNew s t.0 x.0 e → AreDependents s (nodes_of old x.0).dependents e → MayRegister old t x → HasNodes s (nodes_of old) → HasNodes (after_dependency s t.0 e) (nodes_of (after_registration old t x))
  dependency_registered s old t x e rising new deps m h = subst (HasNodes (after_dependency s t.0 e)) (same_nodes old t x m) (kept_registered s (nodes_of old) t.0 x.0 e rising new deps h)

  pub dependency_drawn : (s : State) (old : Txns (Node P)) (t x : TxId) (e : ℕ) → t.0 ≤ s.clock → AllByRecursion (λ r. r.id ≢ x.0) s.active → MayRegister old t x → HasDrawnDependents s (nodes_of old) → HasDrawnDependents (after_dependency s t.0 e) (nodes_of (after_registration old t x))
  dependency_drawn s old t x e le apart m g = subst (HasDrawnDependents (after_dependency s t.0 e)) (same_nodes old t x m) (drawn_registered s (nodes_of old) t.0 x.0 e le apart g)
