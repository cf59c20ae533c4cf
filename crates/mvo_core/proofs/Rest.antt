-- What a core has beside versions and dependencies, after a step.
use Rattle.std.proofs.Common.{◌≡◌, ℕ, ◌++◌, List, None, Some, sym, ap, ◌∙◌, subst, arith}
use Rattle.mvo_types.specs.Keys.{Map}
use Rattle.mvo_model.specs.Trace.{Step}
use Rattle.mvo_theory.specs.State.{State, StampedTx, preparing_of, is_preparing_as}
use Rattle.mvo_theory.specs.Phases.{phase_in}
use Rattle.mvo_theory.specs.Calls.{Call, Result, MayCome, after_call, steps_of}
use Rattle.mvo_theory.proofs.Finds.{find_none}
use Rattle.mvo_theory.proofs.Runs.{kept_after_call}
use Rattle.mvo_theory.proofs.Single.{preparing_found, active_alone}
use Rattle.mvo_shared.proofs.Standing.{standing_of}
use Rattle.mvo_shadow.specs.Shadowed.{IsByWrites}
use Rattle.mvo_txn.specs.declared.state.TxState.TheVariants.{Active, Preparing}
use Rattle.mvo_txn.specs.Txns.{Txns, state_of}
use Rattle.mvo_deps.specs.declared.node.Node.{Node}
use Rattle.mvo_tale.specs.declared.tale_place.TalePlace.{TalePlace}
use Rattle.mvo_tale.specs.Kept.{HasTale}
use Rattle.mvo_tale.specs.Next.{AreGroupedTo}
use Rattle.mvo_tale.specs.Others.{others_places}
use Rattle.mvo_representation.specs.Versions.{AreVersionsOf}
use Rattle.mvo_representation.specs.Indexes.{all_versions, HasNumbers}
use Rattle.mvo_representation.specs.Steps.{IsAfterCall}
use Rattle.mvo_representation.specs.Order.{AllStandInOrder}
use Rattle.mvo_representation.specs.Dependencies.{HasDependencies}
use Rattle.mvo_representation.specs.WordLists.{HasWordLists}
use Rattle.mvo_representation.specs.Table.{phase_as, phases_of}
use Rattle.mvo_representation.proofs.Facts.{preparing_is}
use Rattle.mvo_representation.proofs.Tabled.{active_is}
use Rattle.mvo_hash.specs.Lists.{Lists}
use Rattle.mvo_core.specs.Readers.{Readers, HaveStages, HasTalePlaces}
use Rattle.mvo_core.specs.declared.kept_transaction.KeptTransaction.{KeptTransaction}
use Rattle.mvo_collect.proofs.Over.{each_call_keeps_over}
use Rattle.mvo_core.specs.Data.{CoreData}
use Rattle.mvo_core.specs.Standing.{HasWorks, words_in, StandsAmong}
use Rattle.mvo_core.proofs.Laws.{call_keeps}
use Rattle.mvo_standing.specs.Beside.{LeavesWorks}
use Rattle.mvo_content.specs.Works.{works_in}
use Rattle.mvo_standing.proofs.Beside.{called_beside}

-- the rest is that of the state: what is kept of each, the tale and the marks
pub record HasRest (rs : Readers) (s : State) (table : Txns (Node KeptTransaction)) (slots : List TalePlace) (c : CoreData) : Type 0 where
  pub works : HasWorks s table slots
  pub tale : HasTale s (others_places slots)
  pub places : HasTalePlaces rs s.start s.clock slots
  pub stages : HaveStages rs.unfinished table slots
  pub marks : s.marks ≡ record { opening = c.opening; closed = c.closed }
  pub grouped : AreGroupedTo slots c.grouped c.closed
  pub start : s.start ≡ c.start

module _ (rs : Readers) (opening : Map) (steps : List Step) (s : State) (c : CoreData) (h : StandsAmong rs opening steps s c) where
  -- one that is Active isn't Preparing
  pub not_preparing_too : (t : ℕ) → state_of c.table t ≡ Some Active → preparing_of t s.stamped ≡ None
  not_preparing_too t was =
      let found = active_is s t (sym (h.dependencies.stands.phases t) ∙ ap phase_as was) in
      let alone = active_alone s t found.0 found.1 h.versions.kept.single in
      preparing_found t s.stamped ∙ find_none (is_preparing_as t) s.stamped (omega (arith, alone))

  -- one that is Preparing stands so in the state
  pub preparing_there : (t : ℕ) (e : Rattle.mvo_types.specs.declared.ids.Stamp.Stamp) → state_of c.table t ≡ Some (Preparing e) → (x : StampedTx) × (preparing_of t s.stamped ≡ Some x) × (x.end ≡ e.0)
  preparing_there t e was = preparing_is s t e.0 (sym (h.dependencies.stands.phases t) ∙ ap phase_as was)

  phases : phases_of (state_of c.table) ≡ phase_in s
  phases = λ i u. h.dependencies.stands.phases u i

  -- a call that changes no version, and brings some to the front of their keys
  pub stands_then : (call : Call) (r : Result) (table : Txns (Node KeptTransaction)) (lists : Lists) (tale : List TalePlace) → IsByWrites call → LeavesWorks call r → MayCome s call r
      → IsAfterCall s (phase_in s) call r (all_versions c.versions.slots) (all_versions c.versions.slots)
      → HasNumbers c.versions.slots lists
      → HasDependencies (after_call s call r) table
      → AllStandInOrder s.start (state_of table) c.versions.slots lists
      → HasWordLists (after_call s call r) c.versions.slots (words_in table)
      → HasRest rs (after_call s call r) table tale c
      → StandsAmong rs opening (steps ++ steps_of s call r) (after_call s call r) (record c { versions = record c.versions { lists = lists }; table = table; tale = tale })
  stands_then call r table lists tale by leaves may same numbers deps order words rest = record {
    kept = kept_after_call opening steps s call r may h.kept;
    versions = record {
      kept = standing_of opening (steps ++ steps_of s call r) (after_call s call r) (kept_after_call opening steps s call r may h.kept);
      versions = subst (λ p. AreVersionsOf (after_call s call r) p (all_versions c.versions.slots)) (sym (λ i u. deps.stands.phases u i))
          (call_keeps opening s call r (all_versions c.versions.slots) (all_versions c.versions.slots) h.versions.kept may
          (subst (λ p. AreVersionsOf s p (all_versions c.versions.slots)) phases h.versions.versions) same);
      numbers = numbers;
      order = h.versions.order;
    };
    dependencies = deps;
    order = subst (λ (n : ℕ). AllStandInOrder n (state_of table) c.versions.slots lists) (h.start ∙ sym rest.start) order;
    works = rest.works;
    words = words;
    tale = rest.tale;
    places = rest.places;
    stages = rest.stages;
    marks = rest.marks;
    grouped = rest.grouped;
    start = rest.start;
    over = each_call_keeps_over opening s (phases_of (state_of c.table)) (all_versions c.versions.slots) call r h.versions.kept may h.versions.versions h.over;
    beside = called_beside opening steps s (works_in c.works) h.beside call r by may leaves;
  }
