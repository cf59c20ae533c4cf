-- A call that inserts a row: what it comes to.
use Rattle.std.proofs.Common.{◌≡◌, true, false, cond, List, ◌++◌, Option, None, Some, refl, sym, ap, ◌∙◌, subst}
use Rattle.std.specs.Option.{option_to_list, is_some}
use Rattle.std.proofs.lemmas.Bool.{false≢true}
use Rattle.mvo_types.specs.declared.entry.Entry.TheVariants.{Key}
use Rattle.mvo_types.specs.declared.ids.TxId.{TxId}
use Rattle.mvo_types.specs.declared.op.Op.TheVariants.{Insert}
use Rattle.mvo_types.specs.declared.refusal.Refusal.{Refusal}
use Rattle.mvo_types.specs.declared.refusal.Refusal.TheVariants.{OutOfMemory}
use Rattle.mvo_types.specs.AnswerData.AnswerData.{Inserted, Exists}
use Rattle.mvo_types.specs.RowData.{RowData}
use Rattle.mvo_types.specs.Keys.{Map}
use Rattle.mvo_model.specs.Trace.{Step}
use Rattle.mvo_theory.specs.State.{State}
use Rattle.mvo_theory.specs.Causes.{why_not_do}
use Rattle.mvo_theory.specs.Steps.{after_refusal, steps_of_refusal}
use Rattle.mvo_theory.specs.Calls.{answer_in}
use Rattle.mvo_theory.specs.Calls.Call.{Do}
use Rattle.mvo_theory.specs.Calls.Result.{Accepted, Refused}
use Rattle.mvo_chain.specs.declared.version.VersionNo.{VersionNo}
use Rattle.mvo_txn.specs.Txns.{Txns, state_of}
use Rattle.mvo_deps.specs.declared.node.Node.{Node}
use Rattle.mvo_deps.specs.Nodes.{after_register_all}
use Rattle.mvo_visible.specs.declared.outcome.Shown.{Shown}
use Rattle.mvo_visible.specs.Versions.{versions_at}
use Rattle.mvo_visible.specs.Shown.{AreVersionsInOrder}
use Rattle.mvo_versions.specs.Data.{VersionsData, AreIndexed}
use Rattle.mvo_representation.specs.Dependencies.{AreDependencies}
use Rattle.mvo_readonly.specs.Whole.{stage_of}
use Rattle.mvo_core.specs.Readers.{Readers}
use Rattle.mvo_core.specs.declared.kept_transaction.KeptTransaction.{KeptTransaction}
use Rattle.mvo_core.specs.Causes.{why_not_put}
use Rattle.mvo_core.specs.Own.{done_in}
use Rattle.mvo_core.specs.Data.{CoreData}
use Rattle.mvo_core.specs.Inserting.{IsInserted}
use Rattle.mvo_core.specs.Keeping.{IsWritten, HasWrittenAsMuch}
use Rattle.mvo_core.specs.Looking.{HasSameVersions, row_shown}
use Rattle.mvo_core.specs.Standing.{StandsAmong}
use Rattle.mvo_core.specs.Steps.{LeadsAmong}
use Rattle.mvo_content.specs.Shown.{AreRowsOf}
use Rattle.mvo_content.specs.Next.{NextData}
use Rattle.mvo_content.specs.Works.{WorksData, IsPreparedAt, MayBeTold}
use Rattle.mvo_core.proofs.Answered.{recorded_leads}
use Rattle.mvo_core.proofs.Asked.{active_if_put}
use Rattle.mvo_core.proofs.Carried.{stands_as_much}
use Rattle.mvo_core.proofs.CausesTold.{not_inserted_is}
use Rattle.mvo_core.proofs.Inserted.{inserted_leads}
use Rattle.mvo_core.proofs.Looked.{IsActiveHere, active_here, shown_in, versions_in_order, key_is, names_just}
use Rattle.mvo_core.proofs.Refused.{refused_leads, spent_leads}
use Rattle.mvo_core.proofs.SameVersions.{stands_same_versions}
use Rattle.mvo_core.proofs.WorksHeld.{IsNextTold, may_be_told, key_fits, key_told}

none_shown : (o : Option VersionNo) → is_some o ≡ false → o ≡ None
none_shown None e = refl
none_shown (Some n) e = absurd (false≢true (sym e))

module _ (rs : Readers) (opening : Map) (steps : List Step) (s : State) (c : CoreData) (h : StandsAmong rs opening steps s c) (t : TxId) (row : RowData) (other : stage_of t.0 rs.unfinished ≡ None) where
  pub insert_refused : (r : Refusal) → why_not_put c.table (done_in c.works t.0) t.0 row ≡ Some r → (new : CoreData) → StandsAmong rs opening (steps ++ steps_of_refusal t.0 r) (after_refusal s t.0 r) new
      → LeadsAmong rs opening steps s (Do t.0 (Insert row)) (Refused r) new
  insert_refused r why new stands = refused_leads rs opening steps s t.0 (Insert row) new r (sym (not_inserted_is rs opening steps s c h t.0 other row) ∙ why) stands

  module _ (none : why_not_put c.table (done_in c.works t.0) t.0 row ≡ None) where
    may : why_not_do s t.0 (Insert row) ≡ None
    may = sym (not_inserted_is rs opening steps s c h t.0 other row) ∙ none

    here : IsActiveHere s c t.0
    here = active_here rs opening steps s c h t.0 (active_if_put c.table (done_in c.works t.0) t.0 row none)

    -- for want of memory
    pub insert_starved : LeadsAmong rs opening steps s (Do t.0 (Insert row)) (Refused OutOfMemory) c
    insert_starved = spent_leads rs opening steps s t.0 (Insert row) c may h

    pub insert_spent : (table : Txns (Node KeptTransaction)) → table ≡ c.table → LeadsAmong rs opening steps s (Do t.0 (Insert row)) (Refused OutOfMemory) (record c { table = table })
    insert_spent table same = subst (λ (x : Txns (Node KeptTransaction)). LeadsAmong rs opening steps s (Do t.0 (Insert row)) (Refused OutOfMemory) (record c { table = x })) (sym same) insert_starved

    pub insert_spent_same : (new : VersionsData) → HasSameVersions c.versions new → (AreIndexed c.versions → AreIndexed new) → (table : Txns (Node KeptTransaction)) → IsWritten c.table table t.0 HasWrittenAsMuch
        → LeadsAmong rs opening steps s (Do t.0 (Insert row)) (Refused OutOfMemory) (record c { versions = new; table = table })
    insert_spent_same new same indexed table w =
        spent_leads rs opening steps s t.0 (Insert row) (record c { versions = new; table = table }) may
        (stands_same_versions rs opening steps s (record c { table = table }) (stands_as_much rs opening steps s c h t.0 table w) new same (indexed (record { numbers = h.versions.numbers; order = h.versions.order })))

    -- its work may be told
    pub insert_may_be_told : (rows : List RowData) (n : NextData) → IsPreparedAt c.works t.0 (Insert row) rows n → MayBeTold c.works t.0 n
    insert_may_be_told rows n p = may_be_told rs opening steps s c h t.0 (Insert row) may rows n p

    pub insert_fits : (found : Shown) → (AreVersionsInOrder (state_of c.table) t.0 t.0 (versions_at c.versions.slots c.versions.lists row.key) → found ≡ shown_in c t.0 row.key) → AreRowsOf (Key row.key) (option_to_list (row_shown c.versions.slots found.version))
    insert_fits found is = key_fits rs opening steps s c h t.0 here row.key found is

    -- answered
    module _ (found : Shown) (is : AreVersionsInOrder (state_of c.table) t.0 t.0 (versions_at c.versions.slots c.versions.lists row.key) → found ≡ shown_in c t.0 row.key) where
      shown : found ≡ shown_in c t.0 row.key
      shown = is (versions_in_order rs opening steps s c h t.0 here.state row.key)

      on : AreDependencies s (Insert row) here.tx (option_to_list found.depends_on)
      on = subst (λ (x : Shown). AreDependencies s (Insert row) here.tx (option_to_list x.depends_on)) (sym shown)
          (names_just rs opening steps s c h t.0 here.tx here.found row.key (Insert row) refl)

      -- where a row stands
      pub exists_answers : is_some found.version ≡ true → Exists ≡ answer_in s t.0 (Insert row)
      exists_answers seen = sym (ap (λ b. cond b Exists Inserted) (key_is rs opening steps s c h t.0 here.tx here.found row.key ∙ ap (λ (x : Shown). is_some x.version) (sym shown) ∙ seen))

      pub exists_leads : is_some found.version ≡ true → (table : Txns (Node KeptTransaction)) → table ≡ after_register_all c.table t (option_to_list found.depends_on)
          → (more : WorksData) → IsNextTold c.works t.0 (Insert row) (option_to_list (row_shown c.versions.slots found.version)) more → LeadsAmong rs opening steps s (Do t.0 (Insert row)) Accepted (record c { table = table; works = more })
      exists_leads seen table w more next = recorded_leads rs opening steps s c h t here.tx here.found (Insert row) Exists may (exists_answers seen) refl (option_to_list found.depends_on) on table w more (key_told rs opening steps s c h t.0 here row.key found is (Insert row) refl may more next)

      -- and where none does
      unseen : is_some found.version ≡ false → (shown_in c t.0 row.key).version ≡ None
      unseen e = ap (λ (x : Shown). x.version) (sym shown) ∙ none_shown found.version e

      pub insert_leads : is_some found.version ≡ false → (new : VersionsData) (table : Txns (Node KeptTransaction)) → IsInserted c.versions new c.table table t (option_to_list found.depends_on) row → (AreIndexed c.versions → AreIndexed new)
          → (more : WorksData) → IsNextTold c.works t.0 (Insert row) (option_to_list (row_shown c.versions.slots found.version)) more → LeadsAmong rs opening steps s (Do t.0 (Insert row)) Accepted (record c { versions = new; table = table; works = more })
      insert_leads e new table w indexed more next =
          inserted_leads rs opening steps s c h t row may here (unseen e) (option_to_list found.depends_on) on new table w (indexed (record { numbers = h.versions.numbers; order = h.versions.order })) more
          (key_told rs opening steps s c h t.0 here row.key found is (Insert row) refl may more next)

      pub inserted_answers : is_some found.version ≡ false → Inserted ≡ answer_in s t.0 (Insert row)
      inserted_answers e = sym (ap (λ b. cond b Exists Inserted) (key_is rs opening steps s c h t.0 here.tx here.found row.key ∙ ap is_some (unseen e)))
