-- A read-only transaction begins, or doesn't: what that leads to in the whole state.
use Rattle.std.proofs.Common.{◌≡◌, ◌∙◌, ℕ, ◌+◌, List, [], ◌∷◌, ◌++◌, append-nil, length, None, sym, ap, subst}
use Rattle.std.specs.Prelude.{slice_set}
use Rattle.mvo_types.specs.declared.ids.Stamp.{Stamp}
use Rattle.mvo_types.specs.declared.refusal.Refusal.{Refusal}
use Rattle.mvo_types.specs.Keys.{Map}
use Rattle.mvo_model.specs.Trace.{Step}
use Rattle.mvo_theory.specs.Calls.Result.{Accepted, Refused}
use Rattle.mvo_readonly.specs.Whole.{WholeState}
use Rattle.mvo_readonly.specs.WholeCauses.WholeCall.{BeginReadOnly}
use Rattle.mvo_readonly.proofs.WholeRuns.{whole_after_call}
use Rattle.mvo_txn.specs.Txns.{Txns, table_after_begin, why_not_begun, IsTableRefusal}
use Rattle.mvo_deps.specs.declared.node.Node.{Node}
use Rattle.mvo_deps.specs.Data.{no_dependencies}
use Rattle.mvo_tale.specs.declared.tale_place.TalePlace.{TalePlace}
use Rattle.mvo_tale.specs.declared.tale_place.TalePlace.TheVariants.{Reading as PlaceReading, Empty}
use Rattle.mvo_tale.specs.Slots.{ends, AreRising, closed_up}
use Rattle.mvo_core.specs.declared.kept_transaction.KeptTransaction.{KeptTransaction}
use Rattle.mvo_core.specs.declared.kept_transaction.TransactionKind.TheVariants.{Reading}
use Rattle.mvo_core.specs.Data.{CoreData}
use Rattle.mvo_core.specs.Standing.{StandsAmong}
use Rattle.mvo_core.specs.WholeStanding.{readers_of, StandsWhole, LeadsWhole}
use Rattle.mvo_core.proofs.Begun.{begin_refused}
use Rattle.mvo_core.proofs.Laws.{why_not_begun_told}
use Rattle.mvo_core.proofs.ReaderBegins.{reader_begins}
use Rattle.mvo_core.proofs.ReaderNotBegun.{reader_not_begun}

module _ (opening : Map) (steps own : List Step) (w : WholeState) (c : CoreData) (h : StandsWhole opening steps own w c) where
  -- ---- it doesn't
  pub not_begun_whole : (r : Refusal) → IsTableRefusal (why_not_begun c.table) r → (new : CoreData) → StandsWhole opening steps own w new → LeadsWhole opening steps own w BeginReadOnly (Refused r) new
  not_begun_whole r why new g =
      let may = (begin_refused (readers_of w) opening own w.core c h.core r why).may in
      record {
        may = may;
        stands = record {
          core = subst (λ ys. StandsAmong (readers_of w) opening ys w.core new) (sym (append-nil own)) g.core;
          kept = whole_after_call opening steps own w BeginReadOnly (Refused r) may h.kept;
        };
      }

  -- its place was opened, and is left
  begin_is : (n : ℕ) → n ≡ c.table.clock → ◌≡◌ {A = Stamp} (record { 0 = n + 1 }) (record { 0 = w.core.clock + 1 })
  begin_is n at = ap (λ (m : ℕ). record { 0 = m + 1 }) (at ∙ h.core.dependencies.stands.clock)

  pub left_whole : AreRising (ends c.tale) → (n : ℕ) → n ≡ c.table.clock → (place : ℕ) → place ≡ length c.tale → (opened tale : List TalePlace) → opened ≡ c.tale ++ PlaceReading (record { 0 = n + 1 }) ∷ [] → tale ≡ closed_up (slice_set opened place Empty)
      → StandsWhole opening steps own w (record c { tale = tale })
  left_whole rising n at place place_is opened tale opened_is left =
      subst (λ (xs : List TalePlace). StandsWhole opening steps own w (record c { tale = xs }))
      (sym (left ∙ (λ i. closed_up (slice_set (opened_is i) (place_is i) Empty)) ∙ ap (λ (b : Stamp). closed_up (slice_set (c.tale ++ PlaceReading b ∷ []) (length c.tale) Empty)) (begin_is n at)))
      (reader_not_begun opening steps own w c h rising)

  -- ---- it does
  pub begins_whole : (node : Node KeptTransaction) → node.dependencies ≡ no_dependencies → node.own.writes.words ≡ [] → node.own.kind ≡ Reading → node.own.place ≡ length c.tale → (n : ℕ) → n ≡ c.table.clock
      → why_not_begun c.table ≡ None → (table : Txns (Node KeptTransaction)) → table ≡ table_after_begin c.table node → (tale : List TalePlace) → tale ≡ c.tale ++ PlaceReading (record { 0 = n + 1 }) ∷ []
      → LeadsWhole opening steps own w BeginReadOnly Accepted (record c { table = table; tale = tale })
  begins_whole node none wordless kind place n at why table table_is tale tale_is =
      subst (λ (xs : List TalePlace). LeadsWhole opening steps own w BeginReadOnly Accepted (record c { table = table; tale = xs })) (sym (tale_is ∙ ap (λ (b : Stamp). c.tale ++ PlaceReading b ∷ []) (begin_is n at)))
      (subst (λ (x : Txns (Node KeptTransaction)). LeadsWhole opening steps own w BeginReadOnly Accepted (record c { table = x; tale = c.tale ++ PlaceReading (record { 0 = w.core.clock + 1 }) ∷ [] })) (sym table_is)
      (reader_begins opening steps own w c node h none wordless kind place (sym (why_not_begun_told opening w.core c.table h.core.versions.kept h.core.dependencies.stands) ∙ why, tt)))
