-- A transaction begins: what the core stands for then.
use Rattle.std.proofs.Common.{◌≡◌, ◌≢◌, ℕ, ◌+◌, true, List, [], ◌∷◌, ◌++◌, append-nil, Option, None, Some, refl, sym, ap, ◌∙◌, subst, arith, ⊎_elim}
use Rattle.std.specs.Prelude.{Result, Ok, Err, OnOk, OnErr, IfErr}
use Rattle.std.specs.Option.{option_map, is_some}
use Rattle.std.specs.FinMap.{get}
use Rattle.std.proofs.lemmas.Bool.{cases_eq}
use Rattle.mvo_types.specs.declared.ids.TxId.{TxId}
use Rattle.mvo_types.specs.declared.refusal.Refusal.{Refusal}
use Rattle.mvo_types.specs.Keys.{Map}
use Rattle.mvo_model.specs.Trace.{Step}
use Rattle.mvo_theory.specs.State.{State}
use Rattle.mvo_theory.specs.Marks.{IsClosedAt}
use Rattle.mvo_theory.specs.Phases.{phase_in}
use Rattle.mvo_theory.specs.Changes as changes
use Rattle.mvo_theory.specs.Changes.{new_active}
use Rattle.mvo_theory.specs.Causes.{why_not_begin}
use Rattle.mvo_theory.specs.Calls as theory
use Rattle.mvo_theory.specs.Calls.{IsKept, MayCome, steps_of}
use Rattle.mvo_theory.specs.Calls.Call.{Begin}
use Rattle.mvo_theory.specs.Calls.Result.{Accepted, Refused}
use Rattle.mvo_theory.proofs.Each.{each_append}
use Rattle.mvo_theory.proofs.Chain.{chained_after_call}
use Rattle.mvo_theory.proofs.Runs.{kept_after_call}
use Rattle.mvo_shared.proofs.Standing.{standing_of}
use Rattle.mvo_txn.specs.declared.table_seat.TableSeat.{TableSeat}
use Rattle.mvo_txn.specs.declared.state.TxState.TheVariants.{Active}
use Rattle.mvo_txn.specs.Txns.{Txns, state_of, table_after_begin, why_not_begun, IsTableRefusal}
use Rattle.mvo_txn.proofs.Stamps.{get_inserted, get_beside}
use Rattle.mvo_deps.specs.declared.node.Node.{Node}
use Rattle.mvo_deps.specs.Data.{no_dependencies}
use Rattle.mvo_representation.specs.Versions.{AreVersionsOf}
use Rattle.mvo_representation.specs.Indexes.{all_versions}
use Rattle.mvo_representation.specs.Dependencies.{HasDependencies, tx_id}
use Rattle.mvo_representation.specs.Table.{phases_of}
use Rattle.mvo_representation.specs.WordLists.{HasWordLists}
use Rattle.mvo_representation.proofs.TableNodes.{begun_state, begun_others}
use Rattle.mvo_core.specs.Readers.{Readers, reader_in, reader_by}
use Rattle.mvo_core.specs.declared.kept_transaction.KeptTransaction.{KeptTransaction}
use Rattle.mvo_core.specs.declared.kept_transaction.TransactionKind.TheVariants.{Other}
use Rattle.mvo_collect.proofs.Over.{each_call_keeps_over}
use Rattle.mvo_core.specs.Data.{CoreData, own_of}
use Rattle.mvo_core.specs.Standing.{HasWorks, IsKeptActive, Stands, own_words_of, words_in, StandsAmong}
use Rattle.mvo_core.specs.Steps.{came, LeadsOn, LeadsAmong}
use Rattle.mvo_core.proofs.Laws.{why_not_begun_told, begin_in_table, begin_in_order, begin_in_lists, call_keeps}
use Rattle.mvo_core.proofs.Carried.{SaysAsMuch, as_much, works_carried}
use Rattle.mvo_content.specs.Works.{works_in}
use Rattle.mvo_standing.proofs.Beside.{begun_beside}
use Rattle.mvo_core.proofs.ReaderStages.{AreSameReaders, stages_same, readers_but}
use Rattle.mvo_core.proofs.ReaderTales.{places_later}
use Rattle.mvo_core.proofs.WrittenThen.{none_own}

refusal_as : (why : Option Refusal) (r : Refusal) → IsTableRefusal why r → theory.IsRefusal true why r
refusal_as None r h = h
refusal_as (Some w) r h = h

module _ (rs : Readers) (opening : Map) (steps : List Step) (s : State) (c : CoreData) (h : StandsAmong rs opening steps s c) where
  why_begun : why_not_begun c.table ≡ why_not_begin s
  why_begun = why_not_begun_told opening s c.table h.versions.kept h.dependencies.stands

  -- refused, it leaves all as it was
  pub begin_refused : (r : Refusal) → IsTableRefusal (why_not_begun c.table) r → LeadsAmong rs opening steps s Begin (Refused r) c
  begin_refused r why = record {
    may = subst (λ o. theory.IsRefusal true o r) why_begun (refusal_as (why_not_begun c.table) r why);
    stands = subst (λ ys. StandsAmong rs opening ys s c) (sym (append-nil steps)) h;
  }

  -- the next timestamp is nobody's id
  fresh : get c.table.seats (c.table.clock + 1) ≡ None
  fresh = go (get c.table.seats (c.table.clock + 1)) refl
    where
      go : (o : Option (TableSeat (Node KeptTransaction))) → get c.table.seats (c.table.clock + 1) ≡ o → o ≡ None
      go None e = refl
      go (Some x) e = let le = h.dependencies.graph.drawn (tx_id (c.table.clock + 1)) (ap is_some e) in absurd (omega (arith, le))

  pub fresh_state : state_of c.table (c.table.clock + 1) ≡ None
  fresh_state = ap (λ o. option_map (λ x. x.state) o) fresh

  pub fresh_own : own_of c.table (c.table.clock + 1) ≡ None
  fresh_own = ap (λ o. option_map (λ n. n.own) (option_map (λ x. x.kept) o)) fresh

  module _ (node : Node KeptTransaction) (none : node.dependencies ≡ no_dependencies) (wordless : node.own.writes.words ≡ []) (other : node.own.kind ≡ Other) where
    begun : Txns (Node KeptTransaction)
    begun = table_after_begin c.table node

    pub own_begun : own_of (table_after_begin c.table node) (c.table.clock + 1) ≡ Some node.own
    own_begun = ap (λ o. option_map (λ n. n.own) (option_map (λ x. x.kept) o)) (get_inserted c.table.seats (c.table.clock + 1) (record { state = Active; kept = node }))

    pub own_others : (u : ℕ) → u ≢ c.table.clock + 1 → own_of (table_after_begin c.table node) u ≡ own_of c.table u
    own_others u ne = ap (λ o. option_map (λ n. n.own) (option_map (λ x. x.kept) o)) (get_beside c.table.seats (c.table.clock + 1) (record { state = Active; kept = node }) u ne)

    says_begun : SaysAsMuch c.table (table_after_begin c.table node)
    says_begun u own w =
        ⊎_elim
        (λ is. absurd (none_own own (sym (ap (own_of c.table) is ∙ fresh_own) ∙ w)))
        (λ ne. (own, own_others u ne ∙ w, as_much own))
        (cases_eq u (c.table.clock + 1))

    same_readers : AreSameReaders c.table (table_after_begin c.table node)
    same_readers = readers_but c.table (table_after_begin c.table node) (c.table.clock + 1) own_others
        (ap reader_in own_begun ∙ ap (λ k. reader_by k node.own.place node.own.checked node.own.valid) other ∙ sym (ap reader_in fresh_own))

    words_begun : words_in (table_after_begin c.table node) ≡ words_in c.table
    words_begun = λ i u. at u i
      where
        at : (u : ℕ) → words_in (table_after_begin c.table node) u ≡ words_in c.table u
        at u = ⊎_elim
            (λ is.
            ap (words_in (table_after_begin c.table node)) is ∙ ap own_words_of own_begun ∙ wordless ∙ sym (ap own_words_of fresh_own) ∙ sym (ap (words_in c.table) is))
            (λ ne. ap own_words_of (own_others u ne))
            (cases_eq u (c.table.clock + 1))

    clock : c.table.clock + 1 ≡ s.clock + 1
    clock = ap (λ (n : ℕ). n + 1) h.dependencies.stands.clock

    deps : HasDependencies (changes.after_begin s (s.clock + 1)) (table_after_begin c.table node)
    deps = begin_in_table opening s c.table node h.versions.kept h.dependencies none

    new_one : IsKeptActive (table_after_begin c.table node) (new_active (s.clock + 1))
    new_one = record { own = node.own; kept = ap (own_of (table_after_begin c.table node)) (sym clock) ∙ own_begun }

    works : HasWorks (changes.after_begin s (s.clock + 1)) (table_after_begin c.table node) c.tale
    works = let w = works_carried s c.table (table_after_begin c.table node) c.tale says_begun h.works in record {
      active = each_append (IsKeptActive (table_after_begin c.table node)) s.active (new_active (s.clock + 1) ∷ []) w.active (new_one, tt);
      preparing = w.preparing;
    }

    phases : phases_of (state_of c.table) ≡ phase_in s
    phases = λ i u. h.dependencies.stands.phases u i

    phases_then : phases_of (state_of (table_after_begin c.table node)) ≡ phase_in (changes.after_begin s (s.clock + 1))
    phases_then = λ i u. deps.stands.phases u i

    pub stands_begun : MayCome s Begin Accepted
        → StandsAmong rs opening (steps ++ steps_of s Begin Accepted) (changes.after_begin s (s.clock + 1)) (record c { table = table_after_begin c.table node })
    stands_begun may = record {
      kept = kept_after_call opening steps s Begin Accepted may h.kept;
      versions = record {
        kept = standing_of opening (steps ++ steps_of s Begin Accepted) (changes.after_begin s (s.clock + 1)) (kept_after_call opening steps s Begin Accepted may h.kept);
        versions = subst (λ p. AreVersionsOf (changes.after_begin s (s.clock + 1)) p (all_versions c.versions.slots)) (sym phases_then)
            (call_keeps opening s Begin Accepted (all_versions c.versions.slots) (all_versions c.versions.slots) h.versions.kept may
            (subst (λ p. AreVersionsOf s p (all_versions c.versions.slots)) phases h.versions.versions) refl);
        numbers = h.versions.numbers;
        order = h.versions.order;
      };
      dependencies = deps;
      order = begin_in_order opening s (state_of c.table) (state_of (table_after_begin c.table node)) c.versions.slots c.versions.lists c.versions.places (c.table.clock + 1)
          h.versions (ap (option_map (λ x. x.state)) fresh) (begun_others c.table node) (begun_state c.table node) h.order;
      works = works;
      words = subst (HasWordLists (changes.after_begin s (s.clock + 1)) c.versions.slots) (sym words_begun)
          (begin_in_lists opening s (state_of c.table) c.versions.slots c.versions.lists c.versions.places (words_in c.table) h.versions h.words);
      tale = h.tale;
      places = places_later rs s.start s.clock c.tale h.places (s.clock + 1) (omega arith);
      stages = stages_same rs.unfinished c.table (table_after_begin c.table node) c.tale same_readers h.stages;
      marks = h.marks;
      grouped = h.grouped;
      start = h.start;
      over = each_call_keeps_over opening s (phases_of (state_of c.table)) (all_versions c.versions.slots) Begin Accepted h.versions.kept may h.versions.versions h.over;
      beside = begun_beside opening steps s (works_in c.works) h.beside may;
    }

    pub begin_leads : (r : Result TxId Refusal) (table : Txns (Node KeptTransaction)) → OnOk r (table ≡ table_after_begin c.table node) → OnOk r (why_not_begun c.table ≡ None)
        → IfErr r (IsTableRefusal (why_not_begun c.table)) → OnErr r (table ≡ c.table) → LeadsAmong rs opening steps s Begin (came r) (record c { table = table })
    begin_leads (Ok t) table is cause why same =
        let may : MayCome s Begin Accepted = (sym why_begun ∙ cause, tt) in
        record {
          may = may;
          stands = subst (λ x. StandsAmong rs opening (steps ++ steps_of s Begin Accepted) (changes.after_begin s (s.clock + 1)) (record c { table = x })) (sym is) (stands_begun may);
        }
    begin_leads (Err r) table is cause why same =
        subst (λ x. LeadsAmong rs opening steps s Begin (Refused r) (record c { table = x })) (sym same) (begin_refused r why)

-- ---- up to the mark of the group that was closed last all stay settled
pub still_closed : (opening : Map) (steps : List Step) (s : State) (call : theory.Call) (r : theory.Result) → MayCome s call r → IsKept opening steps s → IsClosedAt s.marks.closed s
    → IsClosedAt (theory.after_call s call r).marks.closed (theory.after_call s call r)
still_closed opening steps s call r may kept closed = (chained_after_call opening steps s.marks.closed [] s call r may kept (record { closed = closed; groups = refl })).closed

-- ---- what it stands for after a call, it stands for
pub stands_on : {old : CoreData} (i : Stands old) (call : theory.Call) (r : theory.Result) (c : CoreData) → LeadsOn i.opening i.steps i.state call r c → Stands c
stands_on {old} i call r c l = record {
  opening = i.opening;
  steps = i.steps ++ steps_of i.state call r;
  state = theory.after_call i.state call r;
  stands = l.stands;
  closed = still_closed i.opening i.steps i.state call r l.may i.stands.kept i.closed;
}
