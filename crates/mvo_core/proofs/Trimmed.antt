-- The tale is trimmed, and its front is forgotten: what the core stands for then.
use Rattle.std.proofs.Common.{◌≡◌, ℕ, suc, ◌<◌, ◌≤◌, Bool, true, false, not, List, [], ◌∷◌, append-nil, None, refl, sym, ap, ◌∙◌, subst, arith}
use Rattle.std.specs.Prelude.{◌&&◌, nat_le, nat_lt, min}
use Rattle.std.specs.FinMap as fin
use Rattle.std.proofs.lemmas.Bool.{and_parts, ltb-true}
use Rattle.std.proofs.Math.Nat.{min-le_left, min-le_right}
use Rattle.mvo_types.specs.declared.refusal.Refusal.TheVariants.{NothingToDo}
use Rattle.mvo_types.specs.Keys.{Map}
use Rattle.mvo_model.specs.Trace.{Step}
use Rattle.mvo_theory.specs.State.{State, Marks}
use Rattle.mvo_theory.specs.Phases.{phase_in}
use Rattle.mvo_theory.specs.Marks.{oldest_begin, low_water}
use Rattle.mvo_types.specs.Causes.{when, first_cause}
use Rattle.mvo_theory.specs.Causes.{is_trim, why_not_trim}
use Rattle.mvo_theory.specs.Changes.{is_to, after_trim}
use Rattle.mvo_theory.specs.Calls.{IsKept, IsRefusal}
use Rattle.mvo_theory.specs.Calls.Call.{Trim}
use Rattle.mvo_theory.specs.Calls.Result.{Accepted, Refused}
use Rattle.mvo_theory.proofs.Each.{each_filter, each_weaker}
use Rattle.mvo_theory.proofs.Kept.{kept_trimmed}
use Rattle.mvo_shared.proofs.Standing.{standing_of}
use Rattle.mvo_txn.specs.Txns.{state_of, IsOldestBegin, IsLowWater}
use Rattle.mvo_deps.specs.declared.node.Node.{Node}
use Rattle.mvo_readonly.specs.Whole.{WholeState}
use Rattle.mvo_tale.specs.declared.tale_place.TalePlace.{TalePlace}
use Rattle.mvo_tale.specs.Forgetting.{forgotten}
use Rattle.mvo_tale.specs.Others.{others_places}
use Rattle.mvo_tale.specs.WholePlaces.{HasWholeTale}
use Rattle.mvo_tale.proofs.Moving.{grouped_forgotten}
use Rattle.mvo_tale.proofs.ReadingMoves.{reading_forgotten}
use Rattle.mvo_tale.proofs.WholePlaces.{whole_trimmed, whole_forgotten}
use Rattle.mvo_representation.specs.DependencyLaws.{TrimInTable}
use Rattle.mvo_representation.specs.Indexes.{all_versions}
use Rattle.mvo_representation.specs.Words.{ends_of, change_below}
use Rattle.mvo_representation.specs.Versions.{origin_at_start}
use Rattle.mvo_representation.proofs.Shown.{row_of_standing}
use Rattle.mvo_representation.specs.OrderLaws.{TrimKeepsOrder}
use Rattle.mvo_representation.specs.Table.{phases_of}
use Rattle.mvo_representation.specs.TableLaws.{TellsOldestBegin, TellsLowWater}
use Rattle.mvo_representation.specs.WordLaws.{TrimKeepsLists}
use Rattle.mvo_representation.proofs.OrderFalls.{trim_keeps_order}
use Rattle.mvo_representation.proofs.Proved.{each_call_keeps}
use Rattle.mvo_representation.proofs.Steps.{retabled}
use Rattle.mvo_representation.proofs.TableMarks.{oldest_begin_is, low_water_is}
use Rattle.mvo_representation.proofs.TableSteps.{table_trimmed}
use Rattle.mvo_representation.proofs.WordsKept.{trim_keeps_lists}
use Rattle.mvo_collect.proofs.Over.{over_trimmed}
use Rattle.mvo_core.specs.Readers.{Readers}
use Rattle.mvo_core.specs.declared.kept_transaction.KeptTransaction.{KeptTransaction}
use Rattle.mvo_core.specs.Data.{CoreData}
use Rattle.mvo_core.specs.Standing.{StandsFor, IsKeptPreparing, words_in, StandsAmong}
use Rattle.mvo_core.specs.Steps.{LeadsAmong}
use Rattle.mvo_core.specs.Trimming.{may_trim_to, IsTaleOf}
use Rattle.mvo_content.specs.Works.{works_in}
use Rattle.mvo_standing.proofs.Beside.{called_beside}
use Rattle.mvo_core.proofs.GoesBeside.{called_beside_so}
use Rattle.mvo_core.proofs.ReaderStages.{stages_told}
use Rattle.mvo_core.proofs.ReaderTales.{each_forgotten, stored_others}
use Rattle.mvo_core.proofs.KeptTale.{open_forgotten, stored_is}

trim_in_table : TrimInTable KeptTransaction
trim_in_table = table_trimmed

trim_in_order : TrimKeepsOrder
trim_in_order = trim_keeps_order

trim_in_lists : TrimKeepsLists
trim_in_lists = trim_keeps_lists

oldest_told : TellsOldestBegin (Node KeptTransaction)
oldest_told = oldest_begin_is

pub low_water_told : TellsLowWater (Node KeptTransaction)
low_water_told = low_water_is

-- the state with its read-only transactions
abbrev whole_of : Readers → State → WholeState
whole_of rs s = record { core = s; readers = rs.unfinished; committed_readers = rs.committed }

-- ---- what is both trimmed and in a group is forgotten
pub stands_forgotten : (rs : Readers) (opening : Map) (steps : List Step) (s : State) (c : CoreData) → StandsAmong rs opening steps s c → (upto : ℕ) → upto ≤ s.start → upto ≤ s.marks.closed
    → StandsAmong rs opening steps s (record c { tale = forgotten upto c.tale })
stands_forgotten rs opening steps s c h upto trimmed grouped = let after = whole_forgotten (whole_of rs s) upto c.tale h.versions.kept.started trimmed grouped (record { others = h.tale; readers = h.places.readers }) in record {
  kept = h.kept;
  versions = h.versions;
  dependencies = h.dependencies;
  order = h.order;
  works = record {
    active = h.works.active;
    preparing = each_weaker (λ x. x.settled ≡ false → IsKeptPreparing c.table c.tale x) (λ x. x.settled ≡ false → IsKeptPreparing c.table (forgotten upto c.tale) x)
        (λ x w open'. let p = w open' in record {
          own = p.own;
          kept = p.kept;
          history = p.history;
          checked = p.checked;
          valid = p.valid;
          place = open_forgotten upto c.tale p.own.place x.end p.place;
        }) s.stamped h.works.preparing;
  };
  words = h.words;
  tale = after.others;
  places = record { drawn = each_forgotten (λ e. e ≤ s.clock) upto c.tale h.places.drawn; readers = after.readers };
  stages = stages_told rs.unfinished c.table c.tale (forgotten upto c.tale) (λ q b e. reading_forgotten upto c.tale q b e) h.stages;
  marks = h.marks;
  grouped = grouped_forgotten upto c.tale c.grouped c.closed h.grouped;
  start = h.start;
  over = h.over;
  beside = h.beside;
}

-- ---- its tale is the one of the state
pub tale_is : (opening : Map) (steps : List Step) (s : State) (c : CoreData) → StandsFor opening steps s c → IsTaleOf s (state_of c.table) c.versions.slots c.tale
tale_is opening steps s c h = record {
  stored = stored_others s.start c.tale h.places.readers ∙ stored_is s (others_places c.tale) h.versions.kept.started h.versions.kept.sound.rising h.tale;
  legal = h.versions.kept.sound.legal;
  shown = λ k. row_of_standing (change_below (ends_of (phases_of (state_of c.table))) (suc s.start) k (all_versions c.versions.slots)) (origin_at_start s k) (fin.get s.base k) (h.versions.versions.opened k);
}

-- ---- the core
module _ (rs : Readers) (opening : Map) (steps : List Step) (s : State) (c : CoreData) (h : StandsAmong rs opening steps s c) where
  module _ (m oldest low : ℕ) (begin : IsOldestBegin c.table oldest) (water : IsLowWater c.table low) where
    -- ---- the three tests
    pub test_is : is_trim s m ≡ may_trim_to m c.start oldest low
    test_is =
        let o = oldest_told opening s c.table oldest h.versions.kept h.dependencies.stands begin in
        let l = low_water_told opening s c.table low h.versions.kept h.dependencies.stands water in
        λ i. nat_lt (h.start i) m && (nat_le m (sym o i) && nat_le m (sym l i))

    why_is : (b : Bool) → may_trim_to m c.start oldest low ≡ b → why_not_trim s m ≡ first_cause (when (not b) NothingToDo ∷ [])
    why_is b e = ap (λ (d : Bool). first_cause (when (not d) NothingToDo ∷ [])) (test_is ∙ e)

    pub trim_refused : may_trim_to m c.start oldest low ≡ false → LeadsAmong rs opening steps s (Trim m) (Refused NothingToDo) c
    trim_refused isnt = record {
      may = subst (λ o. IsRefusal true o NothingToDo) (sym (why_is false isnt)) refl;
      stands = subst (λ ys. StandsAmong rs opening ys s c) (sym (append-nil steps)) h;
    }

    -- ---- what is up to the new start goes into its rows
    module _ (yes : may_trim_to m c.start oldest low ≡ true) where
      free : why_not_trim s m ≡ None
      free = why_is true yes

      above : s.start < m
      above = ltb-true s.start m (and_parts (nat_lt s.start m) (nat_le m (oldest_begin s) && nat_le m (low_water s)) (test_is ∙ yes)).0

      kept : IsKept opening steps (after_trim s m)
      kept = kept_trimmed opening steps s m free h.kept

      same_phase : (t : ℕ) → phase_in s t ≡ phase_in (after_trim s m) t
      same_phase t = sym (h.kept.after_trace.phases t) ∙ kept.after_trace.phases t

      tale_then : HasWholeTale (record { core = after_trim s m; readers = rs.unfinished; committed_readers = rs.committed }) c.tale
      tale_then = whole_trimmed (whole_of rs s) m c.tale h.versions.kept.sound.rising (omega (arith, above)) (record { others = h.tale; readers = h.places.readers })

      trimmed : StandsAmong rs opening steps (after_trim s m) (record c { start = m })
      trimmed = record {
        kept = kept;
        versions = record {
          kept = standing_of opening steps (after_trim s m) kept;
          versions = retabled (after_trim s m) (phase_in (after_trim s m)) (phases_of (state_of c.table)) (all_versions c.versions.slots) (λ t. h.versions.versions.phases t ∙ same_phase t)
              (each_call_keeps opening s (Trim m) Accepted (all_versions c.versions.slots) (all_versions c.versions.slots) h.versions.kept (free, tt)
              (retabled s (phases_of (state_of c.table)) (phase_in s) (all_versions c.versions.slots) (λ t. refl) h.versions.versions) refl);
          numbers = h.versions.numbers;
          order = h.versions.order;
        };
        dependencies = trim_in_table opening s c.table m h.versions.kept h.dependencies free;
        order = trim_in_order opening s (state_of c.table) c.versions.slots c.versions.lists c.versions.places m h.versions free h.order;
        works = record {
          active = h.works.active;
          preparing = each_filter (λ x. not (is_to m x)) (λ x. x.settled ≡ false → IsKeptPreparing c.table c.tale x) (λ x. x.settled ≡ false → IsKeptPreparing c.table c.tale x) (λ x e w. w) s.stamped h.works.preparing;
        };
        words = trim_in_lists opening s (state_of c.table) c.versions.slots c.versions.lists c.versions.places (words_in c.table) m h.versions free h.words;
        tale = tale_then.others;
        places = record { drawn = h.places.drawn; readers = tale_then.readers };
        stages = h.stages;
        marks = h.marks;
        grouped = h.grouped;
        start = refl;
        over = over_trimmed s m free h.over;
        beside = called_beside_so opening steps (after_trim s m) (works_in c.works) (called_beside opening steps s (works_in c.works) h.beside (Trim m) Accepted tt (free, tt) (λ g ws. refl));
      }

      pub trim_leads : (tale : List TalePlace) → tale ≡ forgotten (min m c.closed) c.tale → LeadsAmong rs opening steps s (Trim m) Accepted (record c { start = m; tale = tale })
      trim_leads tale left = record {
        may = (free, tt);
        stands = subst (λ ys. StandsAmong rs opening ys (after_trim s m) (record c { start = m; tale = tale })) (sym (append-nil steps))
            (subst (λ xs. StandsAmong rs opening steps (after_trim s m) (record c { start = m; tale = xs })) (sym left)
            (stands_forgotten rs opening steps (after_trim s m) (record c { start = m }) trimmed (min m c.closed) (min-le_left m c.closed)
            (subst (λ (q : Marks). min m c.closed ≤ q.closed) (sym h.marks) (min-le_right m c.closed))));
      }
