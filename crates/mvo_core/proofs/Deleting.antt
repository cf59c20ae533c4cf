-- A delete: what the core stands for then.
use Rattle.std.proofs.Common.{◌≡◌, ℕ, cond, List, [], ◌∷◌, ◌++◌, Option, None, Some, refl, sym, ap, ◌∙◌, subst}
use Rattle.std.specs.Prelude.{IsSome}
use Rattle.std.specs.Option.{is_some, option_to_list}
use Rattle.mvo_types.specs.declared.entry.Entry.TheVariants.{Key}
use Rattle.mvo_types.specs.declared.ids.TxId.{TxId}
use Rattle.mvo_types.specs.declared.cause.Cause.{Cause}
use Rattle.mvo_types.specs.declared.op.Op.TheVariants.{Delete}
use Rattle.mvo_types.specs.declared.refusal.Refusal.{Refusal}
use Rattle.mvo_types.specs.declared.refusal.Refusal.TheVariants.{OutOfMemory, WriteConflict}
use Rattle.mvo_types.specs.declared.row.RowKey.{RowKey}
use Rattle.mvo_types.specs.AnswerData.AnswerData.{Deleted, Absent}
use Rattle.mvo_types.specs.RowData.{RowData}
use Rattle.mvo_types.specs.Keys.{Map}
use Rattle.mvo_model.specs.Trace.{Step}
use Rattle.mvo_theory.specs.State.{State, active_of}
use Rattle.mvo_types.specs.Causes.{or_next}
use Rattle.mvo_theory.specs.Causes.{why_not_do, conflict, conflicts}
use Rattle.mvo_theory.specs.Steps.{after_refusal, steps_of_refusal}
use Rattle.mvo_theory.specs.Calls.{answer_in}
use Rattle.mvo_theory.specs.Calls.Call.{Do}
use Rattle.mvo_theory.specs.Calls.Result.{Accepted, Refused}
use Rattle.mvo_theory.proofs.Who.{id_of}
use Rattle.mvo_chain.specs.declared.version.VersionNo.{VersionNo}
use Rattle.mvo_chain.specs.Slots.{version_at}
use Rattle.mvo_txn.specs.Txns.{Txns, state_of}
use Rattle.mvo_deps.specs.declared.node.Node.{Node}
use Rattle.mvo_deps.specs.Nodes.{after_register_all}
use Rattle.mvo_visible.specs.declared.outcome.Shown.{Shown}
use Rattle.mvo_visible.specs.Words.{States}
use Rattle.mvo_visible.specs.Versions.{versions_at}
use Rattle.mvo_visible.specs.Shown.{AreVersionsInOrder, shown_to}
use Rattle.mvo_work.specs.declared.word_place.WordPlace.TheVariants.{End}
use Rattle.mvo_representation.specs.Dependencies.{AreDependencies, tx_id}
use Rattle.mvo_representation.specs.Steps.{ended_by}
use Rattle.mvo_versions.specs.Data.{VersionsData}
use Rattle.mvo_versions.specs.Changes.{IsReworded}
use Rattle.mvo_readonly.specs.Whole.{stage_of}
use Rattle.mvo_core.specs.Readers.{Readers}
use Rattle.mvo_core.specs.declared.kept_transaction.KeptTransaction.{KeptTransaction}
use Rattle.mvo_core.specs.Causes.{why_not_remove}
use Rattle.mvo_core.specs.Own.{done_in}
use Rattle.mvo_core.specs.Data.{CoreData}
use Rattle.mvo_core.specs.Ending.{IsRemoved}
use Rattle.mvo_core.specs.Keeping.{IsWritten, HasWrittenAsMuch, HasMadeRoom, HasWrittenMore}
use Rattle.mvo_core.specs.Looking.{cause_at, row_shown}
use Rattle.mvo_core.specs.Standing.{StandsAmong}
use Rattle.mvo_core.specs.Steps.{LeadsAmong}
use Rattle.mvo_content.specs.Shown.{AreRowsOf}
use Rattle.mvo_content.specs.Next.{NextData}
use Rattle.mvo_content.specs.Works.{WorksData, IsPreparedAt, MayBeTold}
use Rattle.mvo_core.proofs.Answered.{IsAnswered, answer_leads, recorded_leads}
use Rattle.mvo_core.proofs.Asked.{active_if_removed}
use Rattle.mvo_core.proofs.Carried.{stands_as_much, stands_roomy}
use Rattle.mvo_core.proofs.CausesTold.{not_deleted_is}
use Rattle.mvo_core.proofs.InTheWay.{in_the_way_is}
use Rattle.mvo_core.proofs.Looked.{IsActiveHere, active_here, shown_in, versions_in_order, shown_there, key_is, names_just}
use Rattle.mvo_core.proofs.OwnChanged.{IsOwnChanged, own_changed}
use Rattle.mvo_core.proofs.Refused.{refused_leads, spent_leads}
use Rattle.mvo_core.proofs.Removed.{deleted}
use Rattle.mvo_core.proofs.WorksHeld.{IsNextTold, may_be_told, key_fits, key_told}

module _ (rs : Readers) (opening : Map) (steps : List Step) (s : State) (c : CoreData) (h : StandsAmong rs opening steps s c) (t : TxId) (k : RowKey) (other : stage_of t.0 rs.unfinished ≡ None) where
  pub delete_refused : (r : Refusal) → why_not_remove c.table (done_in c.works t.0) t.0 k ≡ Some r → (new : CoreData) → StandsAmong rs opening (steps ++ steps_of_refusal t.0 r) (after_refusal s t.0 r) new
      → LeadsAmong rs opening steps s (Do t.0 (Delete k)) (Refused r) new
  delete_refused r why new stands = refused_leads rs opening steps s t.0 (Delete k) new r
      (sym (not_deleted_is rs opening steps s c h t.0 other k) ∙ ap (λ o. or_next o (conflicts (conflict s t.0 k))) why) stands

  module _ (none : why_not_remove c.table (done_in c.works t.0) t.0 k ≡ None) where
    here : IsActiveHere s c t.0
    here = active_here rs opening steps s c h t.0 (active_if_removed c.table (done_in c.works t.0) t.0 k none)

    id : here.tx.id ≡ t.0
    id = id_of t.0 s.active here.tx here.found

    mine : active_of here.tx.id s.active ≡ Some here.tx
    mine = ap (λ (n : ℕ). active_of n s.active) id ∙ here.found

    behind : why_not_do s t.0 (Delete k) ≡ conflicts (conflict s t.0 k)
    behind = sym (not_deleted_is rs opening steps s c h t.0 other k) ∙ ap (λ o. or_next o (conflicts (conflict s t.0 k))) none

    module _ (found : Shown) (is : AreVersionsInOrder (state_of c.table) t.0 t.0 (versions_at c.versions.slots c.versions.lists k) → found ≡ shown_in c t.0 k) where
      shown : found ≡ shown_in c t.0 k
      shown = is (versions_in_order rs opening steps s c h t.0 here.state k)

      way : cause_at (state_of c.table) c.versions.slots t.0 found.version ≡ conflict s t.0 k
      way = ap (λ (x : Shown). cause_at (state_of c.table) c.versions.slots t.0 x.version) shown
          ∙ subst (λ (n : ℕ). cause_at (state_of c.table) c.versions.slots n (shown_in c n k).version ≡ conflict s n k) id (in_the_way_is rs opening steps s c h here.tx mine k)

      -- another has ended the version first
      pub delete_conflicts : (cause : Cause) → cause_at (state_of c.table) c.versions.slots t.0 found.version ≡ Some cause → (new : CoreData)
          → StandsAmong rs opening (steps ++ steps_of_refusal t.0 (WriteConflict cause)) (after_refusal s t.0 (WriteConflict cause)) new
          → LeadsAmong rs opening steps s (Do t.0 (Delete k)) (Refused (WriteConflict cause)) new
      delete_conflicts cause told new stands = refused_leads rs opening steps s t.0 (Delete k) new (WriteConflict cause) (behind ∙ ap conflicts (sym way ∙ told)) stands

      module _ (free : cause_at (state_of c.table) c.versions.slots t.0 found.version ≡ None) where
        may : why_not_do s t.0 (Delete k) ≡ None
        may = behind ∙ ap conflicts (sym way ∙ free)

        answer_is : answer_in s t.0 (Delete k) ≡ cond (is_some found.version) Deleted Absent
        answer_is = ap (λ b. cond b Deleted Absent) (key_is rs opening steps s c h t.0 here.tx here.found k) ∙ ap (λ (x : Shown). cond (is_some x.version) Deleted Absent) (sym shown)

        on : AreDependencies s (Delete k) here.tx (option_to_list found.depends_on)
        on = subst (λ (x : Shown). AreDependencies s (Delete k) here.tx (option_to_list x.depends_on)) (sym shown) (names_just rs opening steps s c h t.0 here.tx here.found k (Delete k) refl)

        -- for want of memory
        pub delete_starved : LeadsAmong rs opening steps s (Do t.0 (Delete k)) (Refused OutOfMemory) c
        delete_starved = spent_leads rs opening steps s t.0 (Delete k) c may h

        pub delete_spent : (table : Txns (Node KeptTransaction)) → table ≡ c.table → LeadsAmong rs opening steps s (Do t.0 (Delete k)) (Refused OutOfMemory) (record c { table = table })
        delete_spent table same = subst (λ (x : Txns (Node KeptTransaction)). LeadsAmong rs opening steps s (Do t.0 (Delete k)) (Refused OutOfMemory) (record c { table = x })) (sym same) delete_starved

        pub delete_left : (versions : VersionsData) → versions ≡ c.versions → (table : Txns (Node KeptTransaction)) → IsWritten c.table table t.0 HasWrittenAsMuch
            → LeadsAmong rs opening steps s (Do t.0 (Delete k)) (Refused OutOfMemory) (record c { versions = versions; table = table })
        delete_left versions same table w = subst (λ (v : VersionsData). LeadsAmong rs opening steps s (Do t.0 (Delete k)) (Refused OutOfMemory) (record c { versions = v; table = table })) (sym same)
            (spent_leads rs opening steps s t.0 (Delete k) (record c { table = table }) may (stands_as_much rs opening steps s c h t.0 table w))

        -- its work may be told
        pub delete_may_be_told : (rows : List RowData) (n : NextData) → IsPreparedAt c.works t.0 (Delete k) rows n → MayBeTold c.works t.0 n
        delete_may_be_told rows n p = may_be_told rs opening steps s c h t.0 (Delete k) may rows n p

        pub delete_fits : AreRowsOf (Key k) (option_to_list (row_shown c.versions.slots found.version))
        delete_fits = key_fits rs opening steps s c h t.0 here k found is

        -- nothing is there
        pub absent_answers : found.version ≡ None → Absent ≡ answer_in s t.0 (Delete k)
        absent_answers e = sym (answer_is ∙ ap (λ (o : Option VersionNo). cond (is_some o) Deleted Absent) e)

        pub absent_leads : found.version ≡ None → (table : Txns (Node KeptTransaction)) → table ≡ after_register_all c.table t (option_to_list found.depends_on)
            → (more : WorksData) → IsNextTold c.works t.0 (Delete k) (option_to_list (row_shown c.versions.slots found.version)) more → LeadsAmong rs opening steps s (Do t.0 (Delete k)) Accepted (record c { table = table; works = more })
        absent_leads e table w more next = recorded_leads rs opening steps s c h t here.tx here.found (Delete k) Absent may (absent_answers e) refl (option_to_list found.depends_on) on table w more (key_told rs opening steps s c h t.0 here k found is (Delete k) refl may more next)

        -- the version is ended
        module _ (n : VersionNo) (e : found.version ≡ Some n) where
          pub deleted_answers : Deleted ≡ answer_in s t.0 (Delete k)
          deleted_answers = sym (answer_is ∙ ap (λ (o : Option VersionNo). cond (is_some o) Deleted Absent) e)

          -- it is there
          pub deleted_live : IsSome (version_at c.versions.slots n)
          deleted_live = ap is_some (shown_there rs opening steps s c h t.0 here.tx here.found k n (ap (λ (x : Shown). x.version) (sym shown) ∙ e)).at

          module _ (versions : VersionsData) (table : Txns (Node KeptTransaction)) (w : IsRemoved c.versions versions c.table table t (option_to_list found.depends_on) n) where
            states : state_of c.table ≡ state_of w.recorded.roomy
            states = λ i u. sym ((own_changed c.table w.recorded.roomy t.0 HasMadeRoom w.recorded.room).states u) i

            stands : StandsAmong rs opening steps s (record c { table = w.recorded.roomy })
            stands = stands_roomy rs opening steps s c h t.0 w.recorded.roomy w.recorded.room

            told : IsOwnChanged (after_register_all w.recorded.roomy t (option_to_list found.depends_on)) table t.0 (HasWrittenMore (End n ∷ []))
            told = own_changed (after_register_all w.recorded.roomy t (option_to_list found.depends_on)) table t.0 (HasWrittenMore (End n ∷ [])) w.recorded.done

            abbrev Claim : ℕ → Type 0
            Claim i = (shown_to (state_of w.recorded.roomy) i i (versions_at c.versions.slots c.versions.lists k)).version ≡ Some n → cause_at (state_of w.recorded.roomy) c.versions.slots i (Some n) ≡ None
                → IsReworded c.versions versions n (ended_by i)
                → IsOwnChanged (after_register_all w.recorded.roomy (tx_id i) (option_to_list found.depends_on)) table i (HasWrittenMore (End n ∷ []))
                → why_not_do s i (Delete k) ≡ None
                → IsAnswered s (record c { table = w.recorded.roomy }) (tx_id i) here.tx (Delete k) (option_to_list found.depends_on) versions table

            claim : Claim here.tx.id
            claim e' free' w' told' may' = deleted rs opening steps s (record c { table = w.recorded.roomy }) stands here.tx mine k n e' free' (option_to_list found.depends_on) versions table w' told' on may'

            pub deleted_leads : (more : WorksData) → IsNextTold c.works t.0 (Delete k) (option_to_list (row_shown c.versions.slots found.version)) more → LeadsAmong rs opening steps s (Do t.0 (Delete k)) Accepted (record c { versions = versions; table = table; works = more })
            deleted_leads more next = answer_leads rs opening steps s (record c { table = w.recorded.roomy }) stands t here.tx (Delete k) (option_to_list found.depends_on) versions table
                (subst Claim id claim
                (subst (λ (st : States). (shown_to st t.0 t.0 (versions_at c.versions.slots c.versions.lists k)).version ≡ Some n) states (ap (λ (x : Shown). x.version) (sym shown) ∙ e))
                (subst (λ (st : States). cause_at st c.versions.slots t.0 (Some n) ≡ None) states (ap (cause_at (state_of c.table) c.versions.slots t.0) (sym e) ∙ free))
                w.ended told may) more
                (key_told rs opening steps s c h t.0 here k found is (Delete k) refl may more next)
