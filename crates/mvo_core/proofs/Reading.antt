-- A row is read: what the core stands for then.
use Rattle.std.proofs.Common.{◌≡◌, List, ◌++◌, None, Some, refl, sym, ap, ◌∙◌, subst}
use Rattle.std.specs.Option.{option_to_list}
use Rattle.mvo_types.specs.declared.ids.TxId.{TxId}
use Rattle.mvo_types.specs.declared.op.Op.TheVariants.{Read}
use Rattle.mvo_types.specs.declared.refusal.Refusal.{Refusal}
use Rattle.mvo_types.specs.declared.refusal.Refusal.TheVariants.{OutOfMemory}
use Rattle.mvo_types.specs.declared.row.RowKey.{RowKey}
use Rattle.mvo_types.specs.AnswerData.{AnswerData}
use Rattle.mvo_types.specs.AnswerData.AnswerData.{Found}
use Rattle.mvo_types.specs.RowData.{RowData}
use Rattle.mvo_types.specs.Keys.{Map, row_at}
use Rattle.mvo_model.specs.Trace.{Step}
use Rattle.mvo_types.specs.declared.entry.Entry.TheVariants.{Key}
use Rattle.mvo_theory.specs.State.{State, snapshot}
use Rattle.mvo_theory.specs.Causes.{why_not_do}
use Rattle.mvo_theory.specs.Steps.{after_refusal, steps_of_refusal}
use Rattle.mvo_theory.specs.Calls.{answer_in}
use Rattle.mvo_theory.specs.Calls.Call.{Do}
use Rattle.mvo_theory.specs.Calls.Result.{Accepted, Refused}
use Rattle.mvo_txn.specs.Txns.{Txns, state_of}
use Rattle.mvo_deps.specs.declared.node.Node.{Node}
use Rattle.mvo_deps.specs.Nodes.{after_register_all}
use Rattle.mvo_visible.specs.declared.outcome.Shown.{Shown}
use Rattle.mvo_visible.specs.Versions.{versions_at}
use Rattle.mvo_visible.specs.Shown.{AreVersionsInOrder}
use Rattle.mvo_readonly.specs.Whole.{stage_of}
use Rattle.mvo_core.specs.Readers.{Readers}
use Rattle.mvo_core.specs.declared.kept_transaction.KeptTransaction.{KeptTransaction}
use Rattle.mvo_core.specs.Causes.{why_not_look}
use Rattle.mvo_core.specs.Own.{done_in}
use Rattle.mvo_core.specs.Data.{CoreData}
use Rattle.mvo_core.specs.Looking.{row_shown}
use Rattle.mvo_core.specs.Standing.{StandsAmong}
use Rattle.mvo_core.specs.Steps.{LeadsAmong}
use Rattle.mvo_representation.specs.Dependencies.{AreDependencies}
use Rattle.mvo_shared.specs.Kept.{after_op}
use Rattle.mvo_content.specs.Shown.{AreRowsOf}
use Rattle.mvo_content.specs.Works.{WorksData, works_in, HasWorkFor, MayBeKept, answer_of_work}
use Rattle.mvo_core.proofs.Answered.{recorded_leads}
use Rattle.mvo_core.proofs.Asked.{active_if_looked}
use Rattle.mvo_core.proofs.CausesTold.{not_read_is, MayLook}
use Rattle.mvo_core.proofs.Looked.{IsActiveHere, active_here, shown_in, versions_in_order, row_is, names_just}
use Rattle.mvo_core.proofs.Refused.{refused_leads, spent_leads}
use Rattle.mvo_core.proofs.WorksHeld.{may_be_kept, key_fits, key_answer_so, key_told_so}

module _ (rs : Readers) (opening : Map) (steps : List Step) (s : State) (c : CoreData) (h : StandsAmong rs opening steps s c) (t : TxId) (k : RowKey) (looks : MayLook (stage_of t.0 rs.unfinished)) where
  pub read_refused : (r : Refusal) → why_not_look c.table (done_in c.works t.0) t.0 k.table (Key k) ≡ Some r → (new : CoreData) → StandsAmong rs opening (steps ++ steps_of_refusal t.0 r) (after_refusal s t.0 r) new
      → LeadsAmong rs opening steps s (Do t.0 (Read k)) (Refused r) new
  read_refused r why new stands = refused_leads rs opening steps s t.0 (Read k) new r (sym (not_read_is rs opening steps s c h t.0 looks k) ∙ why) stands

  module _ (none : why_not_look c.table (done_in c.works t.0) t.0 k.table (Key k) ≡ None) where
    may : why_not_do s t.0 (Read k) ≡ None
    may = sym (not_read_is rs opening steps s c h t.0 looks k) ∙ none

    here : IsActiveHere s c t.0
    here = active_here rs opening steps s c h t.0 (active_if_looked c.table (done_in c.works t.0) t.0 k.table (Key k) none)

    -- for want of memory
    pub read_spent : LeadsAmong rs opening steps s (Do t.0 (Read k)) (Refused OutOfMemory) c
    read_spent = spent_leads rs opening steps s t.0 (Read k) c may h

    pub read_spent_roomy : (table : Txns (Node KeptTransaction)) → table ≡ c.table → LeadsAmong rs opening steps s (Do t.0 (Read k)) (Refused OutOfMemory) (record c { table = table })
    read_spent_roomy table same = subst (λ (x : Txns (Node KeptTransaction)). LeadsAmong rs opening steps s (Do t.0 (Read k)) (Refused OutOfMemory) (record c { table = x })) (sym same) read_spent

    pub read_fits : (found : Shown) → (AreVersionsInOrder (state_of c.table) t.0 t.0 (versions_at c.versions.slots c.versions.lists k) → found ≡ shown_in c t.0 k) → AreRowsOf (Key k) (option_to_list (row_shown c.versions.slots found.version))
    read_fits found is = key_fits rs opening steps s c h t.0 here k found is

    -- so it may be done
    pub read_may_be_kept : (found : Shown) → (AreVersionsInOrder (state_of c.table) t.0 t.0 (versions_at c.versions.slots c.versions.lists k) → found ≡ shown_in c t.0 k) → MayBeKept c.works t.0 (Read k) (option_to_list (row_shown c.versions.slots found.version))
    read_may_be_kept found is = may_be_kept rs opening steps s c h t.0 (Read k) may (option_to_list (row_shown c.versions.slots found.version)) (read_fits found is)

    -- it is told what the state answers
    pub read_answers : (found : Shown) → (AreVersionsInOrder (state_of c.table) t.0 t.0 (versions_at c.versions.slots c.versions.lists k) → found ≡ shown_in c t.0 k) → (a : AnswerData) → a ≡ answer_of_work (works_in c.works t.0) (Read k) (option_to_list (row_shown c.versions.slots found.version)) → a ≡ answer_in s t.0 (Read k)
    read_answers found is a told = key_answer_so rs opening steps s c h t.0 here k found is (Read k) refl may a told

    -- and that is told it
    module _ (found : Shown) (is : AreVersionsInOrder (state_of c.table) t.0 t.0 (versions_at c.versions.slots c.versions.lists k) → found ≡ shown_in c t.0 k) where
      shown : found ≡ shown_in c t.0 k
      shown = is (versions_in_order rs opening steps s c h t.0 here.state k)

      row_there : row_shown c.versions.slots found.version ≡ row_at (snapshot s t.0) k
      row_there = ap (λ (x : Shown). row_shown c.versions.slots x.version) shown ∙ row_is rs opening steps s c h t.0 here.tx here.found k

      row_answers : Found (row_shown c.versions.slots found.version) ≡ answer_in s t.0 (Read k)
      row_answers = ap Found row_there

      pub read_leads : (table : Txns (Node KeptTransaction)) → table ≡ after_register_all c.table t (option_to_list found.depends_on)
          → (more : WorksData) → HasWorkFor c.works more t.0 (after_op (works_in c.works t.0) (Read k) (option_to_list (row_shown c.versions.slots found.version))) → LeadsAmong rs opening steps s (Do t.0 (Read k)) Accepted (record c { table = table; works = more })
      read_leads table w more told =
          recorded_leads rs opening steps s c h t here.tx here.found (Read k) (Found (row_shown c.versions.slots found.version)) may row_answers refl (option_to_list found.depends_on)
          (subst (λ (x : Shown). AreDependencies s (Read k) here.tx (option_to_list x.depends_on)) (sym shown) (names_just rs opening steps s c h t.0 here.tx here.found k (Read k) refl)) table w more
          (key_told_so rs opening steps s c h t.0 here k found is (Read k) refl may more told)
