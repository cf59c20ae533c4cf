-- A core is opened over rows: what it stands for.
use Rattle.std.proofs.Common.{◌≡◌, ℕ, List, [], ◌∷◌, refl, sym, ap, subst, None}
use Rattle.std.specs.List.{AllByRecursion}
use Rattle.std.specs.Option.{option_map}
use Rattle.std.specs.Ordering.{nat_cmp}
use Rattle.std.specs.FinMap as fin
use Rattle.std.specs.FinMap.{get-empty}
use Rattle.std.proofs.lemmas.List.Sorted.{IsPermutation-refl}
use Rattle.mvo_types.specs.Keys.{Map}
use Rattle.mvo_theory.specs.Phases.{phase_in}
use Rattle.mvo_theory.specs.Ranges.{Row}
use Rattle.mvo_theory.specs.State.{opened}
use Rattle.mvo_theory.proofs.Chain.{chained_opened}
use Rattle.mvo_theory.proofs.Runs.{kept_opened}
use Rattle.mvo_shared.proofs.Standing.{standing_opened}
use Rattle.mvo_word.specs.declared.held.Held.TheVariants.{At, Infinity}
use Rattle.mvo_chain.specs.declared.version.Version.{Version}
use Rattle.mvo_txn.specs.declared.table_seat.TableSeat.{TableSeat}
use Rattle.mvo_txn.specs.Txns.{no_txns, state_of}
use Rattle.mvo_deps.specs.declared.node.Node.{Node}
use Rattle.mvo_visible.specs.Words.{States}
use Rattle.mvo_versions.specs.Data.{VersionsData, AreIndexed}
use Rattle.mvo_versions.specs.Changes.{AreLoaded}
use Rattle.mvo_representation.specs.DependencyLaws.{OpenedTable}
use Rattle.mvo_representation.specs.Indexes.{all_versions}
use Rattle.mvo_representation.specs.Order.{AllStandInOrder}
use Rattle.mvo_representation.specs.Table.{phases_of}
use Rattle.mvo_representation.specs.Versions.{AreVersionsOf, loaded_from}
use Rattle.mvo_representation.specs.WordLists.{HasWordLists}
use Rattle.mvo_representation.proofs.OrderOthers.{opening_stands_in_order}
use Rattle.mvo_representation.proofs.Proved.{opens_so}
use Rattle.mvo_representation.proofs.TableSteps.{table_opened}
use Rattle.mvo_representation.proofs.WordsKept.{opening_has_lists}
use Rattle.mvo_collect.specs.Waiting.{WaitingData, AreWaiting, IsNothing}
use Rattle.mvo_collect.proofs.Needed.{opening_waits}
use Rattle.mvo_collect.proofs.Over.{opens_over}
use Rattle.mvo_core.specs.Readers.{HasStage, reader_in}
use Rattle.mvo_core.specs.declared.kept_transaction.KeptTransaction.{KeptTransaction}
use Rattle.mvo_core.specs.Data.{CoreData, own_of}
use Rattle.mvo_core.specs.Standing.{HasOpenedOver, own_words_of, words_in}
use Rattle.mvo_core.specs.WholeStanding.{StandsInWhole}
use Rattle.mvo_standing.proofs.Beside.{opens_beside}
use Rattle.mvo_readonly.specs.Whole.{opened_whole}
use Rattle.mvo_readonly.proofs.WholeRuns.{whole_opened}

opened_table : OpenedTable KeptTransaction
opened_table = table_opened

abbrev IsLoadedAt : ℕ → Version → Type 0
IsLoadedAt mark v = (v.begin ≡ At (record { 0 = mark })) × (v.end ≡ Infinity)

all_loaded : (mark : ℕ) (es : List Row) → AllByRecursion (IsLoadedAt mark) (loaded_from mark es)
all_loaded mark [] = tt
all_loaded mark (e ∷ es) = ((refl, refl), all_loaded mark es)

module _ (rows : Map) (mark : ℕ) (v : VersionsData) (is : AreLoaded rows mark v) (indexed : AreIndexed v) where
  phases : phases_of (state_of (no_txns {P = Node KeptTransaction} mark)) ≡ phase_in (opened rows mark)
  phases = λ i u. (opened_table rows mark).stands.phases u i

  versions : AreVersionsOf (opened rows mark) (phases_of (state_of (no_txns {P = Node KeptTransaction} mark))) (all_versions v.slots)
  versions =
      subst (λ p. AreVersionsOf (opened rows mark) p (all_versions v.slots)) (sym phases)
      (subst (AreVersionsOf (opened rows mark) (phase_in (opened rows mark))) (sym is) (opens_so rows mark))

  in_order : AllStandInOrder mark (state_of (no_txns {P = Node KeptTransaction} mark)) v.slots v.lists
  in_order =
      opening_stands_in_order rows mark (state_of (no_txns {P = Node KeptTransaction} mark)) v.slots v.lists versions indexed.numbers
      (subst (AllByRecursion (IsLoadedAt mark)) (sym is) (all_loaded mark (fin.entries rows)))

  none_at : (t : ℕ) → own_of (no_txns {P = Node KeptTransaction} mark) t ≡ None
  none_at t = ap (λ o. option_map (λ (n : Node KeptTransaction). n.own) (option_map (λ (x : TableSeat (Node KeptTransaction)). x.kept) o)) (get-empty nat_cmp t)

  no_words : words_in (no_txns {P = Node KeptTransaction} mark) ≡ (λ t. [])
  no_words = λ i t. ap (λ o. own_words_of (option_map (λ (n : Node KeptTransaction). n.own) (option_map (λ (x : TableSeat (Node KeptTransaction)). x.kept) o))) (get-empty nat_cmp t) i

  words : HasWordLists (opened rows mark) v.slots (words_in (no_txns {P = Node KeptTransaction} mark))
  words = subst (HasWordLists (opened rows mark) v.slots) (sym no_words) (opening_has_lists rows mark (state_of (no_txns {P = Node KeptTransaction} mark)) v.slots versions)

  pub opens : HasOpenedOver rows mark (record { versions = v; table = no_txns mark; tale = []; works = []; start = mark; opening = mark; closed = mark; grouped = 0 })
  opens = record {
    kept = kept_opened rows mark;
    versions = record { kept = standing_opened rows mark; versions = versions; numbers = indexed.numbers; order = indexed.order };
    dependencies = opened_table rows mark;
    order = in_order;
    works = record { active = tt; preparing = tt };
    words = words;
    tale = record { gone = []; kept = []; parts = refl; places = tt; may = tt };
    places = record { drawn = tt; readers = record { reading = refl; stored = λ m le. IsPermutation-refl []; idle = tt } };
    stages = λ t. subst (λ o. HasStage [] t (reader_in o) None) (sym (none_at t)) tt;
    marks = refl;
    grouped = record { behind = tt; settled = refl; grouped = tt };
    start = refl;
    over = opens_over rows mark;
    beside = opens_beside rows mark;
  }

  -- nothing waits
  pub opened_waits : (clock : ℕ) (states : States) (w : WaitingData) → IsNothing w → AreWaiting clock states v.slots w
  opened_waits clock states w nothing = opening_waits clock mark states v.slots w (subst (AllByRecursion (IsLoadedAt mark)) (sym is) (all_loaded mark (fin.entries rows))) nothing

  -- what the table and the tale are
  pub opens_as : (c : CoreData) → c.versions ≡ v → c.table ≡ no_txns mark → c.tale ≡ [] → c.works ≡ [] → c.start ≡ mark → c.opening ≡ mark → c.closed ≡ mark → c.grouped ≡ 0 → HasOpenedOver rows mark c
  opens_as c is_versions is_table is_tale is_works is_start is_opening is_closed is_grouped =
      subst (HasOpenedOver rows mark)
      (λ i. record { versions = sym is_versions i; table = sym is_table i; tale = sym is_tale i; works = sym is_works i; start = sym is_start i; opening = sym is_opening i; closed = sym is_closed i; grouped = sym is_grouped i }) opens

pub opened_stands : (rows : Map) (mark : ℕ) (c : CoreData) → HasOpenedOver rows mark c → StandsInWhole c
opened_stands rows mark c h = record { opening = rows; steps = []; own = []; whole = opened_whole rows mark; stands = record { core = h; kept = whole_opened rows mark }; closed = (chained_opened rows mark).closed }
