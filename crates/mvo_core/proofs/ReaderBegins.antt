-- A read-only transaction begins: what the core stands for then.
use Rattle.std.proofs.Common.{◌≡◌, ◌≢◌, ℕ, ◌+◌, ◌≤◌, Bool, true, false, cond, List, [], ◌∷◌, ◌++◌, length, Option, None, Some, refl, sym, ap, ◌∙◌, subst, arith, ⊎_elim}
use Rattle.std.specs.Prelude.{◌==◌}
use Rattle.std.specs.List.{AllByRecursion}
use Rattle.std.specs.FinMap.{get}
use Rattle.std.specs.Option.{option_map}
use Rattle.std.proofs.lemmas.Bool.{cases_eq, eq-eqb, ne_eqb}
use Rattle.mvo_types.specs.declared.ids.Stamp.{Stamp}
use Rattle.mvo_types.specs.Keys.{Map}
use Rattle.mvo_model.specs.Trace.{Step}
use Rattle.mvo_theory.specs.State.{State}
use Rattle.mvo_theory.specs.Sound.{IsPlaced}
use Rattle.mvo_theory.specs.Changes as changes
use Rattle.mvo_theory.specs.Calls.{MayCome, steps_of}
use Rattle.mvo_theory.specs.Calls.Call.{Begin}
use Rattle.mvo_theory.specs.Calls.Result.{Accepted}
use Rattle.mvo_theory.proofs.Each.{each_append, each_weaker}
use Rattle.mvo_readonly.specs.Whole.{ReaderStage, UnfinishedReader, WholeState, stage_of}
use Rattle.mvo_readonly.specs.Whole.ReaderStage.{Reading as StageReading}
use Rattle.mvo_readonly.specs.WholeCauses.WholeCall.{BeginReadOnly}
use Rattle.mvo_readonly.specs.WholeCalls.{after_whole_call}
use Rattle.mvo_readonly.proofs.WholeRuns.{whole_after_call}
use Rattle.mvo_txn.specs.declared.state.TxState.TheVariants.{Active}
use Rattle.mvo_txn.specs.declared.table_seat.TableSeat.{TableSeat}
use Rattle.mvo_txn.specs.Seats.{SeatMap, with_kept_at}
use Rattle.mvo_txn.specs.Txns.{Txns, table_after_begin, table_after_write}
use Rattle.mvo_txn.proofs.Stamps.{get_inserted, get_beside}
use Rattle.mvo_deps.specs.declared.node.Node.{Node}
use Rattle.mvo_deps.specs.Data.{no_dependencies}
use Rattle.mvo_tale.specs.declared.tale_place.TalePlace.{TalePlace}
use Rattle.mvo_tale.specs.declared.tale_place.TalePlace.TheVariants.{Reading as PlaceReading}
use Rattle.mvo_tale.specs.Slots.{ends, reading_begin_at}
use Rattle.mvo_tale.specs.WholePlaces.{HasWholeTale}
use Rattle.mvo_tale.proofs.Moving.{grouped_begun}
use Rattle.mvo_tale.proofs.ReaderPlaces.{begin_opens}
use Rattle.mvo_tale.proofs.ReadingMoves.{reading_last, reading_behind}
use Rattle.mvo_tale.proofs.Rising.{ends-append}
use Rattle.mvo_core.specs.declared.kept_transaction.KeptTransaction.{KeptTransaction}
use Rattle.mvo_core.specs.declared.kept_transaction.TransactionKind.TheVariants.{Other, Reading}
use Rattle.mvo_core.specs.Data.{CoreData, own_of}
use Rattle.mvo_core.specs.Keeping.{IsWritten, with_own_at}
use Rattle.mvo_core.specs.Readers.{KeptReader, reader_by, reader_in, HasStage, HaveStages}
use Rattle.mvo_core.specs.Standing.{StandsAmong}
use Rattle.mvo_core.specs.WholeStanding.{readers_of, HasSameWordList, ReaderBegins}
use Rattle.mvo_core.proofs.Alone.{inserted_twice}
use Rattle.mvo_core.proofs.Begun.{fresh_own, own_begun, stands_begun}
use Rattle.mvo_core.proofs.ReadersMoved.{readers_moved}
use Rattle.mvo_core.proofs.ReaderStages.{stage_kept}
use Rattle.mvo_core.proofs.TaleMoves.{open_behind}

-- ---- the list with one more
some_stage : (p : ReaderStage) → ◌≡◌ {A = Option ReaderStage} (Some p) None → ⊥
some_stage p e = cc

stage_last : (t : ℕ) (p : ReaderStage) (rs : List UnfinishedReader) → stage_of t rs ≡ None → stage_of t (rs ++ (record { id = t; stage = p }) ∷ []) ≡ Some p
stage_last t p [] e = ap (λ (b : Bool). cond b (Some p) None) (eq-eqb t t refl)
stage_last t p (r ∷ rs) e = go (r.id == t) (λ k. stage_last t p rs k) e
  where
    go : (b : Bool) → (stage_of t rs ≡ None → stage_of t (rs ++ (record { id = t; stage = p }) ∷ []) ≡ Some p) → cond b (Some r.stage) (stage_of t rs) ≡ None → cond b (Some r.stage) (stage_of t (rs ++ (record { id = t; stage = p }) ∷ [])) ≡ Some p
    go true f k = absurd (some_stage r.stage k)
    go false f k = f k

stage_elsewhere : (t u : ℕ) (p : ReaderStage) (rs : List UnfinishedReader) → t ≢ u → stage_of u (rs ++ (record { id = t; stage = p }) ∷ []) ≡ stage_of u rs
stage_elsewhere t u p [] ne = ap (λ (b : Bool). cond b (Some p) None) (ne_eqb t u ne)
stage_elsewhere t u p (r ∷ rs) ne = ap (λ o. cond (r.id == u) (Some r.stage) o) (stage_elsewhere t u p rs ne)

-- nobody of whom nothing is kept is among them
none_among : (tale : List TalePlace) (t : ℕ) (p : Option ReaderStage) → HasStage tale t None p → p ≡ None
none_among tale t None h = refl
none_among tale t (Some p) h = absurd h

module _ (opening : Map) (own : List Step) (w : WholeState) (c : CoreData) (node : Node KeptTransaction) (h : StandsAmong (readers_of w) opening own w.core c) (none : node.dependencies ≡ no_dependencies)
    (wordless : node.own.writes.words ≡ []) (kind : node.own.kind ≡ Reading) (place : node.own.place ≡ length c.tale) (may : MayCome w.core Begin Accepted) where
  abbrev s : State
  s = w.core

  abbrev t : ℕ
  t = c.table.clock + 1

  abbrev b : Stamp
  b = record { 0 = w.core.clock + 1 }

  t_is : t ≡ s.clock + 1
  t_is = ap (λ (n : ℕ). n + 1) h.dependencies.stands.clock

  -- ---- as one that isn't read-only would
  abbrev first : Node KeptTransaction
  first = record node { own = record node.own { kind = Other } }

  abbrev before : Txns (Node KeptTransaction)
  before = table_after_begin c.table first

  abbrev after : Txns (Node KeptTransaction)
  after = table_after_begin c.table node

  abbrev old : CoreData
  old = record c { table = before }

  began : StandsAmong (readers_of w) opening (own ++ steps_of s Begin Accepted) (changes.after_begin s (s.clock + 1)) old
  began = stands_begun (readers_of w) opening own s c h first none wordless refl may

  seat : get before.seats t ≡ Some (record { state = Active; kept = first })
  seat = get_inserted c.table.seats t (record { state = Active; kept = first })

  rewritten : after ≡ table_after_write before t node
  rewritten =
      ap (λ (seats : SeatMap (Node KeptTransaction)). record { clock = c.table.clock + 1; seats = seats })
      (sym (ap (λ (o : Option (TableSeat (Node KeptTransaction))). with_kept_at o before.seats t node) seat ∙ inserted_twice c.table.seats t (record { state = Active; kept = first }) (record { state = Active; kept = node })))

  written : IsWritten before after t HasSameWordList
  written = record {
    before = first.own;
    after = node.own;
    was = own_begun (readers_of w) opening own s c h first none wordless refl;
    is = rewritten ∙ sym (ap (λ (o : Option (TableSeat (Node KeptTransaction))). with_own_at (option_map (λ x. x.kept) o) before t node.own) seat);
    changed = record { words = refl };
  }

  apart : AllByRecursion (λ x. x.settled ≡ false → x.id ≢ t) s.stamped
  apart = each_weaker (IsPlaced s.stamped s.clock) (λ x. x.settled ≡ false → x.id ≢ t)
      (λ x p o q. let begun = p.begun in let drawn = p.drawn in omega (arith, begun, drawn, q, t_is)) s.stamped h.versions.kept.sound.placed

  -- ---- the places
  abbrev tale : List TalePlace
  tale = c.tale ++ PlaceReading b ∷ []

  whole : HasWholeTale (after_whole_call w BeginReadOnly Accepted) tale
  whole = begin_opens w c.tale (record { others = h.tale; readers = h.places.readers })

  drawn : AllByRecursion (λ e. e ≤ s.clock + 1) (ends tale)
  drawn = subst (AllByRecursion (λ e. e ≤ s.clock + 1)) (sym (ends-append c.tale (PlaceReading b ∷ [])))
      (each_append (λ e. e ≤ s.clock + 1) (ends c.tale) (b.0 ∷ []) (each_weaker (λ e. e ≤ s.clock) (λ e. e ≤ s.clock + 1) (λ e l. omega (arith, l)) (ends c.tale) h.places.drawn) (omega arith, tt))

  -- ---- its stage
  now : own_of after t ≡ Some node.own
  now = ap (λ o. option_map (λ n. n.own) (option_map (λ x. x.kept) o)) (get_inserted c.table.seats t (record { state = Active; kept = node }))

  among : stage_of t w.readers ≡ None
  among = none_among c.tale t (stage_of t w.readers) (subst (λ o. HasStage c.tale t (reader_in o) (stage_of t w.readers)) (fresh_own (readers_of w) opening own s c h) (h.stages t))

  abbrev mine : KeptReader
  mine = record { kind = Reading; place = node.own.place; checked = node.own.checked; valid = node.own.valid }

  here : HasStage tale t (Some mine) (Some StageReading)
  here = record {
    kind = refl;
    checked = tt;
    place = λ e. ap (λ (n : ℕ). reading_begin_at tale n) place ∙ reading_last c.tale b ∙ ap (λ (n : ℕ). Some n) (sym t_is);
  }

  at_own : HasStage tale t (reader_in (own_of after t)) (stage_of t (w.readers ++ (record { id = t; stage = StageReading }) ∷ []))
  at_own =
      subst (λ o. HasStage tale t (reader_in o) (stage_of t (w.readers ++ (record { id = t; stage = StageReading }) ∷ []))) (sym now)
      (subst (λ k. HasStage tale t (reader_by k node.own.place node.own.checked node.own.valid) (stage_of t (w.readers ++ (record { id = t; stage = StageReading }) ∷ []))) (sym kind)
      (subst (HasStage tale t (Some mine)) (sym (stage_last t StageReading w.readers among)) here))

  beside : (u : ℕ) → u ≢ t → HasStage tale u (reader_in (own_of after u)) (stage_of u (w.readers ++ (record { id = t; stage = StageReading }) ∷ []))
  beside u ne =
      subst (λ o. HasStage tale u (reader_in o) (stage_of u (w.readers ++ (record { id = t; stage = StageReading }) ∷ []))) (sym (ap (λ o. option_map (λ n. n.own) (option_map (λ x. x.kept) o)) (get_beside c.table.seats t (record { state = Active; kept = node }) u ne)))
      (subst (HasStage tale u (reader_in (own_of c.table u))) (sym (stage_elsewhere t u StageReading w.readers (λ q. ne (sym q))))
      (stage_kept c.tale tale (λ q d e. reading_behind c.tale (PlaceReading b) q d e) u (reader_in (own_of c.table u)) (stage_of u w.readers) (h.stages u)))

  stages_at : (u : ℕ) → HasStage tale u (reader_in (own_of after u)) (stage_of u (w.readers ++ (record { id = t; stage = StageReading }) ∷ []))
  stages_at u =
      ⊎_elim
      (λ is. subst (λ (n : ℕ). HasStage tale n (reader_in (own_of after n)) (stage_of n (w.readers ++ (record { id = t; stage = StageReading }) ∷ []))) (sym is) at_own)
      (λ ne. beside u ne)
      (cases_eq u t)

  stages : HaveStages (w.readers ++ (record { id = s.clock + 1; stage = StageReading }) ∷ []) after tale
  stages = subst (λ (n : ℕ). HaveStages (w.readers ++ (record { id = n; stage = StageReading }) ∷ []) after tale) t_is stages_at

  begins : StandsAmong (readers_of (after_whole_call w BeginReadOnly Accepted)) opening (own ++ steps_of s Begin Accepted) (changes.after_begin s (s.clock + 1)) (record c { table = after; tale = tale })
  begins = readers_moved (readers_of w) (readers_of (after_whole_call w BeginReadOnly Accepted)) opening (own ++ steps_of s Begin Accepted) (changes.after_begin s (s.clock + 1)) old t after tale
      began apart written (λ q d e. open_behind c.tale (PlaceReading b) q d e) whole.others (record { drawn = drawn; readers = whole.readers }) stages (grouped_begun c.tale c.grouped c.closed b h.grouped)

pub reader_begins : ReaderBegins
reader_begins opening steps own w c node h none wordless kind place may = record {
  may = may;
  stands = record {
    core = begins opening own w c node h.core none wordless kind place may;
    kept = whole_after_call opening steps own w BeginReadOnly Accepted may h.kept;
  };
}
