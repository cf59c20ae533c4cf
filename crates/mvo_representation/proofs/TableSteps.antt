-- What each call does in the table leaves that of the state after the call.
use Rattle.std.proofs.Common.{◌≡◌, ◌≢◌, ◌⊎◌, inl, inr, ℕ, ◌+◌, Bool, true, false, cond, List, [], ◌∷◌, ◌++◌, Option, None, Some, refl, sym, ap, ◌∙◌, subst, arith}
use Rattle.std.specs.Option.{option_map, is_some}
use Rattle.std.specs.Ordering.{nat_cmp}
use Rattle.std.specs.FinMap.{get-empty}
use Rattle.std.proofs.lemmas.Bool.{cases_eq}
use Rattle.mvo_types.specs.declared.ids.TxId.{TxId}
use Rattle.mvo_types.specs.declared.ids.Stamp.{Stamp}
use Rattle.mvo_types.specs.Keys.{Map}
use Rattle.mvo_model.specs.Trace.Step.{Begins, Prepares, Commits, Aborts, Terminates}
use Rattle.mvo_model.specs.Trace.Phase.{Preparing as PreparingPhase, Committed as CommittedPhase}
use Rattle.mvo_theory.specs.State.{State, ActiveTx, StampedTx, EndedTx, Marks, Word, opened, active_of, preparing_of, ended_of, is_preparing_as}
use Rattle.mvo_theory.specs.Causes.{why_not_trim}
use Rattle.mvo_theory.specs.Changes.{after_begin, after_prepare, after_check, after_commit, after_abort_of_active, after_abort_of_preparing, with_words, after_termination, after_finish, after_trim, after_close}
use Rattle.mvo_theory.specs.Phases.{phase_by, phase_in}
use Rattle.mvo_theory.specs.Steps.{after_precommit_of, after_precommit, after_validate_of, after_validate, after_commit_of, after_abort_of}
use Rattle.mvo_theory.specs.Words.{is_done, words_left}
use Rattle.mvo_shared.specs.Standing.{IsStanding}
use Rattle.mvo_theory.proofs.Cases.{ended_in}
use Rattle.mvo_theory.proofs.Each.{each_always}
use Rattle.mvo_theory.proofs.Finds.{find_none}
use Rattle.mvo_theory.proofs.Phases.{Leads, leads_after_begin, leads_after_prepare, leads_after_check, leads_after_commit, leads_after_abort_of_active, leads_after_abort_of_preparing, leads_after_termination}
use Rattle.mvo_theory.proofs.Single.{preparing_found, active_alone}
use Rattle.mvo_theory.proofs.Trimmed.{may_trim, preparing_after_trim}
use Rattle.mvo_theory.proofs.Who.{active_holds, id_of}
use Rattle.mvo_txn.specs.declared.state.TxState.{TxState}
use Rattle.mvo_txn.specs.declared.state.TxState.TheVariants.{Active, Preparing, Committed, Aborted}
use Rattle.mvo_txn.specs.Txns as txns
use Rattle.mvo_txn.specs.Txns.{Txns, no_txns, state_of, kept_of, IsPreparingState, IsUnended, IsEnded}
use Rattle.mvo_txn.specs.Queue.{open_end}
use Rattle.mvo_deps.specs.declared.node.Node.{Node}
use Rattle.mvo_deps.specs.Data as deps
use Rattle.mvo_deps.specs.Data.{no_dependencies}
use Rattle.mvo_deps.specs.Nodes.{IsReported}
use Rattle.mvo_deps.specs.Graph.{KeepsGraphAtCommit, KeepsGraphAtAbort}
use Rattle.mvo_deps.proofs.Calls.{kept_begun, kept_left, kept_prepared, kept_written, graph_of_none}
use Rattle.mvo_deps.proofs.Looks.{there_restated, state_restated, state_now}
use Rattle.mvo_representation.specs.Nodes.{Nodes, nodes_of, nodes_after_begin, HasNodes, HasDrawnDependents}
use Rattle.mvo_representation.specs.Table.{phase_as}
use Rattle.mvo_representation.specs.Dependencies.{HasDependencies, tx_id}
use Rattle.mvo_representation.proofs.Facts.{preparing_is}
use Rattle.mvo_representation.proofs.NodeSteps.{nodes_begun, drawn_begun, nodes_prepared, drawn_prepared}
use Rattle.mvo_representation.proofs.NodesKept.{AreAlike, nodes_elsewhere, drawn_elsewhere, nodes_aborted, drawn_aborted, nodes_checked, drawn_checked, nodes_trimmed, drawn_trimmed}
use Rattle.mvo_representation.proofs.NodesReported.{is_open_phase, commit_reported, commit_drawn, seated, AreSeated, abort_reported, abort_drawn, undone_at, left_alike}
use Rattle.mvo_representation.proofs.Tabled.{table_leads, table_alike, phase_worded, active_is, ended_is}
use Rattle.mvo_representation.proofs.TableNodes.{begun_nodes, begun_state, begun_others, restated_nodes, written_nodes, written_state, reported_state, reported_clock, left_nodes, left_state, left_others}

-- ---- other marks and other ended ones
pub nodes_beside : (s : State) (marks : Marks) (ended : List EndedTx) (nodes : Nodes) → HasNodes s nodes → HasNodes (record s { marks = marks; ended = ended }) nodes
nodes_beside s marks ended nodes h = nodes_elsewhere s marks ended nodes nodes (each_always (λ r. nodes r.id ≡ nodes r.id) (λ r. refl) s.active) (each_always (λ x. x.settled ≡ false → nodes x.id ≡ nodes x.id) (λ x o. refl) s.stamped) h

pub drawn_beside : (s : State) (marks : Marks) (ended : List EndedTx) (nodes : Nodes) → HasDrawnDependents s nodes → HasDrawnDependents (record s { marks = marks; ended = ended }) nodes
drawn_beside s marks ended nodes g = drawn_elsewhere s marks ended nodes nodes (each_always (λ r. nodes r.id ≡ nodes r.id) (λ r. refl) s.active) (each_always (λ x. x.settled ≡ false → nodes x.id ≡ nodes x.id) (λ x o. refl) s.stamped) g

module _ {P : Type 0} where
  -- ---- the empty table
  pub table_opened : (rows : Map) (mark : ℕ) → HasDependencies (opened rows mark) (no_txns {P = Node P} mark)
  table_opened rows mark = record {
    stands = record { clock = refl; phases = λ t. ap (λ o. phase_as (option_map (λ s. s.state) o)) (get-empty nat_cmp t) };
    nodes = record { active = tt; preparing = tt; dependents = tt };
    drawn = record { drawn = tt; none = tt };
    aborted = [];
    graph = graph_of_none mark;
  }

  -- ---- a begin
  pub table_begun : (opening : Map) (s : State) (old : Txns (Node P)) (node : Node P) → IsStanding opening s → HasDependencies s old → node.dependencies ≡ no_dependencies → HasDependencies (after_begin s (s.clock + 1)) (txns.table_after_begin old node)
  table_begun opening s old node k h none = record {
    stands = table_leads s (after_begin s (s.clock + 1)) (Begins (s.clock + 1)) old (txns.table_after_begin old node) (Some Active) h.stands (leads_after_begin s (s.clock + 1) (omega arith) k.sound k.single) clock
        (ap (state_of (txns.table_after_begin old node)) (sym clock) ∙ begun_state old node) refl
        (λ u ne. begun_others old node u (λ e. ne (e ∙ clock)));
    nodes = subst (HasNodes (after_begin s (s.clock + 1))) nodes_are (nodes_begun s (nodes_of old) (s.clock + 1) (omega arith) k.sound h.nodes h.drawn);
    drawn = subst (HasDrawnDependents (after_begin s (s.clock + 1))) nodes_are (drawn_begun s (nodes_of old) (s.clock + 1) (omega arith) k.sound h.drawn);
    aborted = h.aborted;
    graph = kept_begun old node h.aborted none h.graph;
  }
    where
      clock : old.clock + 1 ≡ s.clock + 1
      clock = ap (λ (n : ℕ). n + 1) h.stands.clock

      nodes_are : nodes_after_begin (s.clock + 1) (nodes_of old) ≡ nodes_of (txns.table_after_begin old node)
      nodes_are = ap (λ (n : ℕ). nodes_after_begin n (nodes_of old)) (sym clock) ∙ begun_nodes old node none

  -- ---- what the caller keeps
  pub table_written : (s : State) (old : Txns (Node P)) (t : ℕ) (node new : Node P) → HasDependencies s old → kept_of old t ≡ Some node → new.dependencies ≡ node.dependencies → HasDependencies s (txns.table_after_write old t new)
  table_written s old t node new h was same = record {
    stands = table_alike s s old (txns.table_after_write old t new) h.stands refl refl (written_state old t node new was same) (λ u. refl);
    nodes = subst (HasNodes s) (written_nodes old t node new was same) h.nodes;
    drawn = subst (HasDrawnDependents s) (written_nodes old t node new was same) h.drawn;
    aborted = h.aborted;
    graph = kept_written old (tx_id t) node new h.aborted was same h.graph;
  }

  -- ---- a precommit
  pub table_prepared : (opening : Map) (s : State) (old : Txns (Node P)) (t : ℕ) → IsStanding opening s → HasDependencies s old → state_of old t ≡ Some Active → HasDependencies (after_precommit s t) (txns.table_after_prepare old t)
  table_prepared opening s old t k h was = subst (λ o. HasDependencies (after_precommit_of s o) (txns.table_after_prepare old t)) (sym f) (record {
    stands = table_leads s (after_prepare s r (s.clock + 1)) (Prepares t (s.clock + 1)) old (txns.table_after_prepare old t) (Some (Preparing (record { 0 = old.clock + 1 }))) h.stands
        (leads_after_prepare s t r (s.clock + 1) f is k.single) clock
        (state_now old.seats t (Preparing (record { 0 = old.clock + 1 })) Active t refl was)
        (ap PreparingPhase clock)
        (λ u ne. state_restated old.seats t (Preparing (record { 0 = old.clock + 1 })) u ne);
    nodes = subst (HasNodes (after_prepare s r (s.clock + 1))) nodes_are (nodes_prepared s (nodes_of old) r (s.clock + 1) (omega arith) k.sound own h.nodes h.drawn);
    drawn = subst (HasDrawnDependents (after_prepare s r (s.clock + 1))) nodes_are (drawn_prepared s (nodes_of old) r (s.clock + 1) (omega arith) k.sound own h.drawn);
    aborted = h.aborted;
    graph = kept_prepared old (tx_id t) h.aborted was h.graph;
  })
    where
      found : (r : ActiveTx) × (active_of t s.active ≡ Some r)
      found = active_is s t (sym (h.stands.phases t) ∙ ap phase_as was)

      r : ActiveTx
      r = found.0

      f : active_of t s.active ≡ Some r
      f = found.1

      is : r.id ≡ t
      is = id_of t s.active r f

      own : active_of r.id s.active ≡ Some r
      own = subst (λ (n : ℕ). active_of n s.active ≡ Some r) (sym is) f

      clock : old.clock + 1 ≡ s.clock + 1
      clock = ap (λ (n : ℕ). n + 1) h.stands.clock

      nodes_are : nodes_of old ≡ nodes_of (txns.table_after_prepare old t)
      nodes_are = restated_nodes old (old.clock + 1) t (Preparing (record { 0 = old.clock + 1 }))

  -- ---- a check
  pub table_checked : (s : State) (old : Txns (Node P)) (t : ℕ) → HasDependencies s old → HasDependencies (after_validate s t) old
  table_checked s old t h = record {
    stands = table_alike s (after_validate s t) old old h.stands refl (clock_of (preparing_of t s.stamped)) (λ u. refl) (λ u. phase u (cases_eq t u));
    nodes = nodes_at (preparing_of t s.stamped);
    drawn = drawn_at (preparing_of t s.stamped);
    aborted = h.aborted;
    graph = h.graph;
  }
    where
      clock_by : (x : StampedTx) (v b : Bool) → (cond b s (after_check s x.end v)).clock ≡ s.clock
      clock_by x v true = refl
      clock_by x v false = refl

      clock_of : (o : Option StampedTx) → (after_validate_of s o).clock ≡ s.clock
      clock_of None = refl
      clock_of (Some x) = clock_by x _ x.valid

      phase : (u : ℕ) → (t ≡ u) ⊎ (t ≢ u) → phase_in (after_validate s t) u ≡ phase_in s u
      phase u (inl e) = subst (λ (n : ℕ). phase_in (after_validate s t) n ≡ phase_in s n) e (leads_after_check s t).own
      phase u (inr n) = (leads_after_check s t).others u n

      nodes_by : (x : StampedTx) (v b : Bool) → HasNodes (cond b s (after_check s x.end v)) (nodes_of old)
      nodes_by x v true = h.nodes
      nodes_by x v false = nodes_checked s (nodes_of old) x.end v h.nodes

      nodes_at : (o : Option StampedTx) → HasNodes (after_validate_of s o) (nodes_of old)
      nodes_at None = h.nodes
      nodes_at (Some x) = nodes_by x _ x.valid

      drawn_by : (x : StampedTx) (v b : Bool) → HasDrawnDependents (cond b s (after_check s x.end v)) (nodes_of old)
      drawn_by x v true = h.drawn
      drawn_by x v false = drawn_checked s (nodes_of old) x.end v h.drawn

      drawn_at : (o : Option StampedTx) → HasDrawnDependents (after_validate_of s o) (nodes_of old)
      drawn_at None = h.drawn
      drawn_at (Some x) = drawn_by x _ x.valid

  -- ---- a commit
  committed : (opening : Map) (s : State) (old new : Txns (Node P)) (t : TxId) (end : Stamp) → IsStanding opening s → HasDependencies s old → state_of old t.0 ≡ Some (Preparing end)
      → IsReported deps.after_dependency_commit (txns.table_after_change old t.0 (Committed end)) new t → KeepsGraphAtCommit (txns.table_after_change old t.0 (Committed end)) new t → HasDependencies (after_commit_of s t.0 (preparing_of t.0 s.stamped)) new
  committed opening s old new t end k h was told keeps = subst (λ o. HasDependencies (after_commit_of s t.0 o) new) (sym f) (record {
    stands = table_leads s (after_commit s t.0 x.end) (Commits t.0 x.end) old new (Some (Committed end)) h.stands (leads_after_commit s t.0 x f k.sound k.single)
        (reported_clock deps.after_dependency_commit now new t told ∙ h.stands.clock)
        (reported_state deps.after_dependency_commit now new t told t.0 ∙ state_now old.seats t.0 (Committed end) (Preparing end) t.0 refl was)
        (ap CommittedPhase (sym e))
        (λ u ne. reported_state deps.after_dependency_commit now new t told u ∙ state_restated old.seats t.0 (Committed end) u ne);
    nodes = commit_reported s now new t.0 x k.sound k.single f (subst (HasNodes s) nodes_are h.nodes) told;
    drawn = commit_drawn s now new t.0 x k.sound k.single f (subst (HasDrawnDependents s) nodes_are h.drawn) told;
    aborted = h.aborted;
    graph = keeps old end h.aborted (ap (λ o. is_some (open_end o)) was) refl h.graph;
  })
    where
      now : Txns (Node P)
      now = txns.table_after_change old t.0 (Committed end)

      found : (x : StampedTx) × (preparing_of t.0 s.stamped ≡ Some x) × (x.end ≡ end.0)
      found = preparing_is s t.0 end.0 (sym (h.stands.phases t.0) ∙ ap phase_as was)

      x : StampedTx
      x = found.0

      f : preparing_of t.0 s.stamped ≡ Some x
      f = found.1

      e : x.end ≡ end.0
      e = found.2

      nodes_are : nodes_of old ≡ nodes_of now
      nodes_are = restated_nodes old old.clock t.0 (Committed end)

  pub table_committed : (opening : Map) (s : State) (old untold new : Txns (Node P)) (t : TxId) (end : Stamp) → IsStanding opening s → HasDependencies s old → state_of old t.0 ≡ Some (Preparing end)
      → untold ≡ txns.table_after_change old t.0 (Committed end) → IsReported deps.after_dependency_commit untold new t → KeepsGraphAtCommit untold new t → HasDependencies (after_commit_of s t.0 (preparing_of t.0 s.stamped)) new
  table_committed opening s old untold new t end k h was e told keeps =
      committed opening s old new t end k h was (subst (λ table. IsReported deps.after_dependency_commit table new t) e told) (subst (λ table. KeepsGraphAtCommit table new t) e keeps)

  -- ---- an abort
  abbrev fallen : Txns (Node P) → ℕ → Txns (Node P)
  fallen old t = txns.table_after_change old t Aborted

  undone : (opening : Map) (s : State) (old new : Txns (Node P)) (t : TxId) → IsStanding opening s → HasDependencies s old → state_of old t.0 ≡ Some Active
      → IsReported (deps.after_dependency_abort t) (fallen old t.0) new t → KeepsGraphAtAbort (fallen old t.0) new t → HasDependencies (after_abort_of s t.0 (preparing_of t.0 s.stamped)) new
  undone opening s old new t k h was told keeps = subst (λ o. HasDependencies (after_abort_of s t.0 o) new) (sym nobody) (record {
    stands = table_leads s (after_abort_of_active s t.0) (Aborts t.0) old new (Some Aborted) h.stands leads
        (reported_clock (deps.after_dependency_abort t) (fallen old t.0) new t told ∙ h.stands.clock)
        (reported_state (deps.after_dependency_abort t) (fallen old t.0) new t told t.0 ∙ state_now old.seats t.0 Aborted Active t.0 refl was)
        refl
        (λ u ne. reported_state (deps.after_dependency_abort t) (fallen old t.0) new t told u ∙ state_restated old.seats t.0 Aborted u ne);
    nodes = nodes_elsewhere (after_abort_of_active s t.0) (after_abort_of_active s t.0).marks (after_abort_of_active s t.0).ended (nodes_of (fallen old t.0)) (nodes_of new) alike.active alike.preparing
        (subst (HasNodes (after_abort_of_active s t.0)) nodes_are (nodes_aborted s (nodes_of old) t.0 h.nodes));
    drawn = drawn_elsewhere (after_abort_of_active s t.0) (after_abort_of_active s t.0).marks (after_abort_of_active s t.0).ended (nodes_of (fallen old t.0)) (nodes_of new) alike.active alike.preparing
        (subst (HasDrawnDependents (after_abort_of_active s t.0)) nodes_are (drawn_aborted s (nodes_of old) t.0 h.drawn));
    aborted = h.aborted ++ t ∷ [];
    graph = keeps old h.aborted (subst IsUnended (sym was) tt) refl h.graph;
  })
    where
      found : (r : ActiveTx) × (active_of t.0 s.active ≡ Some r)
      found = active_is s t.0 (sym (h.stands.phases t.0) ∙ ap phase_as was)

      is : found.0.id ≡ t.0
      is = id_of t.0 s.active found.0 found.1

      nobody : preparing_of t.0 s.stamped ≡ None
      nobody = preparing_found t.0 s.stamped ∙ find_none (is_preparing_as t.0) s.stamped (let l = active_alone s t.0 found.0 found.1 k.single in omega arith)

      leads : Leads (Aborts t.0) s (after_abort_of_active s t.0)
      leads = leads_after_abort_of_active s t.0 found.0 found.1 is k.single

      nodes_are : nodes_of old ≡ nodes_of (fallen old t.0)
      nodes_are = restated_nodes old old.clock t.0 Aborted

      none : (nodes_of (fallen old t.0) t.0).dependents ≡ []
      none =
          ap (λ (n : Nodes). (n t.0).dependents) (sym nodes_are)
          ∙ subst (λ (u : ℕ). (nodes_of old u).dependents ≡ []) is (active_holds (λ r. (nodes_of old r.id).dependents ≡ []) t.0 s.active found.0 found.1 h.drawn.none).0

      alike : AreAlike (after_abort_of_active s t.0) (nodes_of (fallen old t.0)) (nodes_of new)
      alike = left_alike (after_abort_of_active s t.0) (fallen old t.0) new t.0 (ap is_open_phase leads.own) (λ u ne. undone_at (fallen old t.0) new t.0 none told u ne)

  failed : (opening : Map) (s : State) (old new : Txns (Node P)) (t : TxId) (end : Stamp) → IsStanding opening s → HasDependencies s old → state_of old t.0 ≡ Some (Preparing end)
      → IsReported (deps.after_dependency_abort t) (fallen old t.0) new t → KeepsGraphAtAbort (fallen old t.0) new t → HasDependencies (after_abort_of s t.0 (preparing_of t.0 s.stamped)) new
  failed opening s old new t end k h was told keeps = subst (λ o. HasDependencies (after_abort_of s t.0 o) new) (sym f) (record {
    stands = table_leads s (after_abort_of_preparing s t.0 x.end) (Aborts t.0) old new (Some Aborted) h.stands (leads_after_abort_of_preparing s t.0 x f k.sound k.single)
        (reported_clock (deps.after_dependency_abort t) (fallen old t.0) new t told ∙ h.stands.clock)
        (reported_state (deps.after_dependency_abort t) (fallen old t.0) new t told t.0 ∙ state_now old.seats t.0 Aborted (Preparing end) t.0 refl was)
        refl
        (λ u ne. reported_state (deps.after_dependency_abort t) (fallen old t.0) new t told u ∙ state_restated old.seats t.0 Aborted u ne);
    nodes = abort_reported s (fallen old t.0) new t.0 x k.sound k.single f seats (subst (HasNodes s) nodes_are h.nodes) told;
    drawn = abort_drawn s (fallen old t.0) new t.0 x k.sound k.single f seats (subst (HasDrawnDependents s) nodes_are h.drawn) told;
    aborted = h.aborted ++ t ∷ [];
    graph = keeps old h.aborted (subst IsUnended (sym was) tt) refl h.graph;
  })
    where
      found : (x : StampedTx) × (preparing_of t.0 s.stamped ≡ Some x) × (x.end ≡ end.0)
      found = preparing_is s t.0 end.0 (sym (h.stands.phases t.0) ∙ ap phase_as was)

      x : StampedTx
      x = found.0

      f : preparing_of t.0 s.stamped ≡ Some x
      f = found.1

      nodes_are : nodes_of old ≡ nodes_of (fallen old t.0)
      nodes_are = restated_nodes old old.clock t.0 Aborted

      seats : AreSeated s (fallen old t.0)
      seats = λ u o. there_restated old.seats t.0 Aborted u ∙ seated s old u (h.stands.phases u) o

  aborted : (opening : Map) (s : State) (old new : Txns (Node P)) (t : TxId) → IsStanding opening s → HasDependencies s old → IsUnended (state_of old t.0)
      → IsReported (deps.after_dependency_abort t) (txns.table_after_change old t.0 Aborted) new t → KeepsGraphAtAbort (txns.table_after_change old t.0 Aborted) new t → HasDependencies (after_abort_of s t.0 (preparing_of t.0 s.stamped)) new
  aborted opening s old new t k h unended told keeps = go (state_of old t.0) refl unended
    where
      go : (o : Option TxState) → state_of old t.0 ≡ o → IsUnended o → HasDependencies (after_abort_of s t.0 (preparing_of t.0 s.stamped)) new
      go None e u = absurd u
      go (Some Active) e u = undone opening s old new t k h e told keeps
      go (Some (Preparing end)) e u = failed opening s old new t end k h e told keeps
      go (Some (Committed end)) e u = absurd u
      go (Some Aborted) e u = absurd u

  pub table_aborted : (opening : Map) (s : State) (old untold new : Txns (Node P)) (t : TxId) → IsStanding opening s → HasDependencies s old → IsUnended (state_of old t.0)
      → untold ≡ txns.table_after_change old t.0 Aborted → IsReported (deps.after_dependency_abort t) untold new t → KeepsGraphAtAbort untold new t → HasDependencies (after_abort_of s t.0 (preparing_of t.0 s.stamped)) new
  table_aborted opening s old untold new t k h unended e told keeps =
      aborted opening s old new t k h unended (subst (λ table. IsReported (deps.after_dependency_abort t) table new t) e told) (subst (λ table. KeepsGraphAtAbort table new t) e keeps)

  -- ---- finishing
  pub table_worded : (s : State) (old : Txns (Node P)) (f : EndedTx → List Word) → HasDependencies s old → HasDependencies (with_words f s) old
  table_worded s old f h = record {
    stands = table_alike s (with_words f s) old old h.stands refl refl (λ u. refl) (phase_worded s f);
    nodes = nodes_beside s s.marks (with_words f s).ended (nodes_of old) h.nodes;
    drawn = drawn_beside s s.marks (with_words f s).ended (nodes_of old) h.drawn;
    aborted = h.aborted;
    graph = h.graph;
  }

  pub table_word : (s : State) (old : Txns (Node P)) (t : ℕ) → HasDependencies s old → is_done s t ≡ false → HasDependencies (after_finish s t) old
  table_word s old t h e = subst (λ b. HasDependencies (cond b (after_termination s t) (with_words (words_left t) s)) old) (sym e) (table_worded s old (words_left t) h)

  pub table_left : (opening : Map) (s : State) (old : Txns (Node P)) (t : ℕ) → IsStanding opening s → HasDependencies s old → IsEnded (state_of old t) → is_done s t ≡ true → HasDependencies (after_finish s t) (txns.after_terminate old t)
  table_left opening s old t k h ended e = subst (λ b. HasDependencies (cond b (after_termination s t) (with_words (words_left t) s)) (txns.after_terminate old t)) (sym e) (record {
    stands = table_leads s (after_termination s t) (Terminates t) old (txns.after_terminate old t) None h.stands leads h.stands.clock (left_state old t) refl (left_others old t);
    nodes = nodes_elsewhere s s.marks (after_termination s t).ended (nodes_of old) (nodes_of (txns.after_terminate old t)) alike.active alike.preparing h.nodes;
    drawn = drawn_elsewhere s s.marks (after_termination s t).ended (nodes_of old) (nodes_of (txns.after_terminate old t)) alike.active alike.preparing h.drawn;
    aborted = h.aborted;
    graph = kept_left old (tx_id t) h.aborted ended h.graph;
  })
    where
      found : (u : EndedTx) × (ended_of t s.ended ≡ Some u)
      found = ended_is s t (state_of old t) ended (sym (h.stands.phases t))

      leads : Leads (Terminates t) s (after_termination s t)
      leads = leads_after_termination s t (ended_in t s.ended found.0 found.1) k.single

      alike : AreAlike (after_termination s t) (nodes_of old) (nodes_of (txns.after_terminate old t))
      alike = left_alike (after_termination s t) old (txns.after_terminate old t) t (ap is_open_phase leads.own) (left_nodes old t)

  -- ---- trimming the tale, and closing a group
  pub table_trimmed : (opening : Map) (s : State) (old : Txns (Node P)) (m : ℕ) → IsStanding opening s → HasDependencies s old → why_not_trim s m ≡ None → HasDependencies (after_trim s m) old
  table_trimmed opening s old m k h w =
      let trim = may_trim s m w k.sound in
      record {
        stands = table_alike s (after_trim s m) old old h.stands refl refl (λ u. refl) (λ u. ap (λ o. phase_by (active_of u s.active) o (ended_of u s.ended)) (preparing_after_trim s m u trim));
        nodes = nodes_trimmed s (nodes_of old) m trim h.nodes;
        drawn = drawn_trimmed s (nodes_of old) m h.drawn;
        aborted = h.aborted;
        graph = h.graph;
      }

  pub table_closed : (s : State) (old : Txns (Node P)) (mark : ℕ) → HasDependencies s old → HasDependencies (after_close s mark) old
  table_closed s old mark h = record {
    stands = table_alike s (after_close s mark) old old h.stands refl refl (λ u. refl) (λ u. refl);
    nodes = nodes_beside s (after_close s mark).marks s.ended (nodes_of old) h.nodes;
    drawn = drawn_beside s (after_close s mark).marks s.ended (nodes_of old) h.drawn;
    aborted = h.aborted;
    graph = h.graph;
  }
