-- An update: what the core stands for then.
use Rattle.std.proofs.Common.{◌≡◌, ℕ, cond, List, [], ◌∷◌, ◌++◌, Option, None, Some, refl, sym, ap, ◌∙◌, subst}
use Rattle.std.specs.Prelude.{IsSome}
use Rattle.std.specs.Option.{is_some, option_to_list}
use Rattle.mvo_types.specs.declared.entry.Entry.TheVariants.{Key}
use Rattle.mvo_types.specs.declared.ids.TxId.{TxId}
use Rattle.mvo_types.specs.declared.cause.Cause.{Cause}
use Rattle.mvo_types.specs.declared.op.Op.TheVariants.{Update}
use Rattle.mvo_types.specs.declared.refusal.Refusal.{Refusal}
use Rattle.mvo_types.specs.declared.refusal.Refusal.TheVariants.{OutOfMemory, WriteConflict}
use Rattle.mvo_types.specs.RowData.{RowData}
use Rattle.mvo_types.specs.AnswerData.AnswerData.{Updated, Absent}
use Rattle.mvo_types.specs.Keys.{Map}
use Rattle.mvo_model.specs.Trace.{Step}
use Rattle.mvo_theory.specs.State.{State, active_of}
use Rattle.mvo_types.specs.Causes.{or_next}
use Rattle.mvo_theory.specs.Causes.{why_not_do, conflict, conflicts}
use Rattle.mvo_theory.specs.Steps.{after_refusal, steps_of_refusal}
use Rattle.mvo_theory.specs.Calls.{answer_in}
use Rattle.mvo_theory.specs.Calls.Call.{Do}
use Rattle.mvo_theory.specs.Calls.Result.{Accepted, Refused}
use Rattle.mvo_theory.proofs.Who.{id_of}
use Rattle.mvo_chain.specs.declared.version.VersionNo.{VersionNo}
use Rattle.mvo_chain.specs.Slots.{version_at}
use Rattle.mvo_txn.specs.Txns.{Txns, state_of}
use Rattle.mvo_deps.specs.declared.node.Node.{Node}
use Rattle.mvo_deps.specs.Nodes.{after_register_all}
use Rattle.mvo_visible.specs.declared.outcome.Shown.{Shown}
use Rattle.mvo_visible.specs.Words.{States}
use Rattle.mvo_visible.specs.Versions.{versions_at}
use Rattle.mvo_visible.specs.Shown.{AreVersionsInOrder, shown_to}
use Rattle.mvo_work.specs.declared.word_place.WordPlace.TheVariants.{Begin, End}
use Rattle.mvo_representation.specs.Dependencies.{AreDependencies, tx_id}
use Rattle.mvo_representation.specs.Steps.{ended_by}
use Rattle.mvo_versions.specs.Data.{VersionsData}
use Rattle.mvo_versions.specs.Changes.{IsPut, IsReworded}
use Rattle.mvo_readonly.specs.Whole.{stage_of}
use Rattle.mvo_core.specs.Readers.{Readers}
use Rattle.mvo_core.specs.declared.kept_transaction.KeptTransaction.{KeptTransaction}
use Rattle.mvo_core.specs.Causes.{why_not_put}
use Rattle.mvo_core.specs.Own.{done_in}
use Rattle.mvo_core.specs.Data.{CoreData}
use Rattle.mvo_core.specs.Ending.{IsReplaced, IsLeft}
use Rattle.mvo_core.specs.Keeping.{HasMadeRoom, HasWrittenMore}
use Rattle.mvo_core.specs.Looking.{cause_at, row_shown}
use Rattle.mvo_core.specs.Standing.{StandsAmong}
use Rattle.mvo_core.specs.Steps.{LeadsAmong}
use Rattle.mvo_content.specs.Shown.{AreRowsOf}
use Rattle.mvo_content.specs.Next.{NextData}
use Rattle.mvo_content.specs.Works.{WorksData, IsPreparedAt, MayBeTold}
use Rattle.mvo_core.proofs.Answered.{IsAnswered, answer_leads, recorded_leads}
use Rattle.mvo_core.proofs.Asked.{active_if_put}
use Rattle.mvo_core.proofs.Carried.{stands_as_much, stands_roomy}
use Rattle.mvo_core.proofs.CausesTold.{not_updated_is}
use Rattle.mvo_core.proofs.InTheWay.{in_the_way_is}
use Rattle.mvo_core.proofs.Looked.{IsActiveHere, active_here, shown_in, versions_in_order, shown_there, key_is, names_just}
use Rattle.mvo_core.proofs.OwnChanged.{IsOwnChanged, own_changed}
use Rattle.mvo_core.proofs.Refused.{refused_leads, spent_leads}
use Rattle.mvo_core.proofs.Removed.{updated}
use Rattle.mvo_core.proofs.SameVersions.{stands_same_versions}
use Rattle.mvo_core.proofs.WorksHeld.{IsNextTold, may_be_told, key_fits, key_told}

module _ (rs : Readers) (opening : Map) (steps : List Step) (s : State) (c : CoreData) (h : StandsAmong rs opening steps s c) (t : TxId) (row : RowData) (other : stage_of t.0 rs.unfinished ≡ None) where
  pub update_refused : (r : Refusal) → why_not_put c.table (done_in c.works t.0) t.0 row ≡ Some r → (new : CoreData) → StandsAmong rs opening (steps ++ steps_of_refusal t.0 r) (after_refusal s t.0 r) new
      → LeadsAmong rs opening steps s (Do t.0 (Update row)) (Refused r) new
  update_refused r why new stands = refused_leads rs opening steps s t.0 (Update row) new r
      (sym (not_updated_is rs opening steps s c h t.0 other row) ∙ ap (λ o. or_next o (conflicts (conflict s t.0 row.key))) why) stands

  module _ (none : why_not_put c.table (done_in c.works t.0) t.0 row ≡ None) where
    here : IsActiveHere s c t.0
    here = active_here rs opening steps s c h t.0 (active_if_put c.table (done_in c.works t.0) t.0 row none)

    id : here.tx.id ≡ t.0
    id = id_of t.0 s.active here.tx here.found

    mine : active_of here.tx.id s.active ≡ Some here.tx
    mine = ap (λ (n : ℕ). active_of n s.active) id ∙ here.found

    behind : why_not_do s t.0 (Update row) ≡ conflicts (conflict s t.0 row.key)
    behind = sym (not_updated_is rs opening steps s c h t.0 other row) ∙ ap (λ o. or_next o (conflicts (conflict s t.0 row.key))) none

    module _ (found : Shown) (is : AreVersionsInOrder (state_of c.table) t.0 t.0 (versions_at c.versions.slots c.versions.lists row.key) → found ≡ shown_in c t.0 row.key) where
      shown : found ≡ shown_in c t.0 row.key
      shown = is (versions_in_order rs opening steps s c h t.0 here.state row.key)

      way : cause_at (state_of c.table) c.versions.slots t.0 found.version ≡ conflict s t.0 row.key
      way = ap (λ (x : Shown). cause_at (state_of c.table) c.versions.slots t.0 x.version) shown
          ∙ subst (λ (n : ℕ). cause_at (state_of c.table) c.versions.slots n (shown_in c n row.key).version ≡ conflict s n row.key) id (in_the_way_is rs opening steps s c h here.tx mine row.key)

      -- another has ended the version first
      pub update_conflicts : (cause : Cause) → cause_at (state_of c.table) c.versions.slots t.0 found.version ≡ Some cause → (new : CoreData)
          → StandsAmong rs opening (steps ++ steps_of_refusal t.0 (WriteConflict cause)) (after_refusal s t.0 (WriteConflict cause)) new
          → LeadsAmong rs opening steps s (Do t.0 (Update row)) (Refused (WriteConflict cause)) new
      update_conflicts cause told new stands = refused_leads rs opening steps s t.0 (Update row) new (WriteConflict cause) (behind ∙ ap conflicts (sym way ∙ told)) stands

      module _ (free : cause_at (state_of c.table) c.versions.slots t.0 found.version ≡ None) where
        may : why_not_do s t.0 (Update row) ≡ None
        may = behind ∙ ap conflicts (sym way ∙ free)

        answer_is : answer_in s t.0 (Update row) ≡ cond (is_some found.version) Updated Absent
        answer_is = ap (λ b. cond b Updated Absent) (key_is rs opening steps s c h t.0 here.tx here.found row.key) ∙ ap (λ (x : Shown). cond (is_some x.version) Updated Absent) (sym shown)

        on : AreDependencies s (Update row) here.tx (option_to_list found.depends_on)
        on = subst (λ (x : Shown). AreDependencies s (Update row) here.tx (option_to_list x.depends_on)) (sym shown) (names_just rs opening steps s c h t.0 here.tx here.found row.key (Update row) refl)

        -- for want of memory
        pub update_starved : LeadsAmong rs opening steps s (Do t.0 (Update row)) (Refused OutOfMemory) c
        update_starved = spent_leads rs opening steps s t.0 (Update row) c may h

        pub update_spent : (table : Txns (Node KeptTransaction)) → table ≡ c.table → LeadsAmong rs opening steps s (Do t.0 (Update row)) (Refused OutOfMemory) (record c { table = table })
        update_spent table same = subst (λ (x : Txns (Node KeptTransaction)). LeadsAmong rs opening steps s (Do t.0 (Update row)) (Refused OutOfMemory) (record c { table = x })) (sym same) update_starved

        pub update_left : (versions : VersionsData) (table : Txns (Node KeptTransaction)) → IsLeft c.versions versions c.table table t
            → LeadsAmong rs opening steps s (Do t.0 (Update row)) (Refused OutOfMemory) (record c { versions = versions; table = table })
        update_left versions table w = spent_leads rs opening steps s t.0 (Update row) (record c { versions = versions; table = table }) may
            (stands_same_versions rs opening steps s (record c { table = table }) (stands_as_much rs opening steps s c h t.0 table w.own) versions w.versions
            (w.indexed (record { numbers = h.versions.numbers; order = h.versions.order })))

        -- its work may be told
        pub update_may_be_told : (rows : List RowData) (n : NextData) → IsPreparedAt c.works t.0 (Update row) rows n → MayBeTold c.works t.0 n
        update_may_be_told rows n p = may_be_told rs opening steps s c h t.0 (Update row) may rows n p

        pub update_fits : AreRowsOf (Key row.key) (option_to_list (row_shown c.versions.slots found.version))
        update_fits = key_fits rs opening steps s c h t.0 here row.key found is

        -- nothing is there
        pub absent_answers : found.version ≡ None → Absent ≡ answer_in s t.0 (Update row)
        absent_answers e = sym (answer_is ∙ ap (λ (o : Option VersionNo). cond (is_some o) Updated Absent) e)

        pub absent_leads : found.version ≡ None → (table : Txns (Node KeptTransaction)) → table ≡ after_register_all c.table t (option_to_list found.depends_on)
            → (more : WorksData) → IsNextTold c.works t.0 (Update row) (option_to_list (row_shown c.versions.slots found.version)) more → LeadsAmong rs opening steps s (Do t.0 (Update row)) Accepted (record c { table = table; works = more })
        absent_leads e table w more next = recorded_leads rs opening steps s c h t here.tx here.found (Update row) Absent may (absent_answers e) refl (option_to_list found.depends_on) on table w more (key_told rs opening steps s c h t.0 here row.key found is (Update row) refl may more next)

        -- the row is put in place of the version
        module _ (n : VersionNo) (e : found.version ≡ Some n) where
          pub updated_answers : Updated ≡ answer_in s t.0 (Update row)
          updated_answers = sym (answer_is ∙ ap (λ (o : Option VersionNo). cond (is_some o) Updated Absent) e)

          -- it is there
          pub updated_live : IsSome (version_at c.versions.slots n)
          updated_live = ap is_some (shown_there rs opening steps s c h t.0 here.tx here.found row.key n (ap (λ (x : Shown). x.version) (sym shown) ∙ e)).at

          module _ (versions : VersionsData) (table : Txns (Node KeptTransaction)) (w : IsReplaced c.versions versions c.table table t (option_to_list found.depends_on) n row) where
            states : state_of c.table ≡ state_of w.recorded.roomy
            states = λ i u. sym ((own_changed c.table w.recorded.roomy t.0 HasMadeRoom w.recorded.room).states u) i

            stands : StandsAmong rs opening steps s (record c { table = w.recorded.roomy })
            stands = stands_roomy rs opening steps s c h t.0 w.recorded.roomy w.recorded.room

            told : IsOwnChanged (after_register_all w.recorded.roomy t (option_to_list found.depends_on)) table t.0 (HasWrittenMore (End n ∷ Begin w.place ∷ []))
            told = own_changed (after_register_all w.recorded.roomy t (option_to_list found.depends_on)) table t.0 (HasWrittenMore (End n ∷ Begin w.place ∷ [])) w.recorded.done

            abbrev Claim : ℕ → Type 0
            Claim i = (shown_to (state_of w.recorded.roomy) i i (versions_at c.versions.slots c.versions.lists row.key)).version ≡ Some n → cause_at (state_of w.recorded.roomy) c.versions.slots i (Some n) ≡ None
                → IsPut c.versions w.between row i w.place → IsReworded w.between versions n (ended_by i)
                → IsOwnChanged (after_register_all w.recorded.roomy (tx_id i) (option_to_list found.depends_on)) table i (HasWrittenMore (End n ∷ Begin w.place ∷ []))
                → why_not_do s i (Update row) ≡ None
                → IsAnswered s (record c { table = w.recorded.roomy }) (tx_id i) here.tx (Update row) (option_to_list found.depends_on) versions table

            claim : Claim here.tx.id
            claim e' free' p' w' told' may' = updated rs opening steps s (record c { table = w.recorded.roomy }) stands here.tx mine row.key n e' free' row refl w.place w.between versions p'
                (w.indexed (record { numbers = h.versions.numbers; order = h.versions.order })) w' (option_to_list found.depends_on) table told' on may'

            pub updated_leads : (more : WorksData) → IsNextTold c.works t.0 (Update row) (option_to_list (row_shown c.versions.slots found.version)) more → LeadsAmong rs opening steps s (Do t.0 (Update row)) Accepted (record c { versions = versions; table = table; works = more })
            updated_leads more next = answer_leads rs opening steps s (record c { table = w.recorded.roomy }) stands t here.tx (Update row) (option_to_list found.depends_on) versions table
                (subst Claim id claim
                (subst (λ (st : States). (shown_to st t.0 t.0 (versions_at c.versions.slots c.versions.lists row.key)).version ≡ Some n) states (ap (λ (x : Shown). x.version) (sym shown) ∙ e))
                (subst (λ (st : States). cause_at st c.versions.slots t.0 (Some n) ≡ None) states (ap (cause_at (state_of c.table) c.versions.slots t.0) (sym e) ∙ free))
                w.put w.ended told may) more
                (key_told rs opening steps s c h t.0 here row.key found is (Update row) refl may more next)
