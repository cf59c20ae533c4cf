-- A read-only transaction doesn't begin for want of memory: its place, which was opened behind all others, is left again, and the core stands for what it stood for.
use Rattle.std.proofs.Common.{◌≡◌, ◌≢◌, ◌≤◌, ◌<◌, ◌+◌, ◌∙◌, ℕ, Bool, true, false, not, cond, List, [], ◌∷◌, ◌++◌, append-nil, length, Some, refl, sym, ap, subst, arith}
use Rattle.std.specs.Prelude.{◌==◌, slice_set}
use Rattle.std.specs.Option.{is_some}
use Rattle.std.specs.List.{AllByRecursion}
use Rattle.std.proofs.lemmas.Bool.{eq-eqb, ne_eqb}
use Rattle.mvo_types.specs.declared.ids.Stamp.{Stamp}
use Rattle.mvo_types.specs.Keys.{Map}
use Rattle.mvo_model.specs.Trace.{Step}
use Rattle.mvo_theory.specs.State.{State, StampedTx}
use Rattle.mvo_theory.proofs.Each.{each_append, each_weaker}
use Rattle.mvo_readonly.specs.Whole.{UnfinishedReader, WholeState}
use Rattle.mvo_readonly.specs.Whole.ReaderStage.{Reading as IsReading, Aborted as IsAborted}
use Rattle.mvo_readonly.specs.WholeCalls.{with_stage, without_reader}
use Rattle.mvo_readonly.specs.WholeKept.{IsUnfinishedReader}
use Rattle.mvo_tale.specs.declared.tale_place.TalePlace.{TalePlace}
use Rattle.mvo_tale.specs.declared.tale_place.TalePlace.TheVariants.{Reading, Empty}
use Rattle.mvo_tale.specs.Next.{AreGroupedTo}
use Rattle.mvo_tale.specs.Slots.{ends, AreRising, reading_begin_at, closed_up}
use Rattle.mvo_tale.specs.WholePlaces.{has_ended, HasWholeTale}
use Rattle.mvo_tale.proofs.Gone.{ends_closed}
use Rattle.mvo_tale.proofs.Moving.{grouped_begun}
use Rattle.mvo_tale.proofs.ReadingMoves.{reading_last, reading_behind, reading_closed}
use Rattle.mvo_tale.proofs.ReadingPlaces.{grouped_reading_left}
use Rattle.mvo_tale.proofs.Rising.{ends-append, rising_opened}
use Rattle.mvo_tale.proofs.WholePlaces.{whole_begun, whole_left, whole_finished}
use Rattle.mvo_core.specs.Data.{CoreData}
use Rattle.mvo_core.specs.Readers.{HasTalePlaces}
use Rattle.mvo_core.specs.Standing.{IsKeptPreparing}
use Rattle.mvo_core.specs.WholeStanding.{readers_of, StandsWhole}
use Rattle.mvo_core.proofs.ReaderStages.{stages_told}
use Rattle.mvo_core.proofs.TaleMoves.{open_behind, open_closed}

-- ---- one that is opened, aborted and finished is as if it had never been
dropped_last : (t : ℕ) (rs : List UnfinishedReader) → AllByRecursion (λ r. r.id ≢ t) rs → without_reader t (with_stage t IsAborted (rs ++ (record { id = t; stage = IsReading }) ∷ [])) ≡ rs
dropped_last t [] h = ap (λ (b : Bool). cond (not b) ((record { id = t; stage = cond b IsAborted IsReading }) ∷ []) []) (eq-eqb t t refl)
dropped_last t (r ∷ rs) h =
    ap (λ (b : Bool). cond (not b) ((record { id = r.id; stage = cond b IsAborted r.stage }) ∷ without_reader t (with_stage t IsAborted (rs ++ (record { id = t; stage = IsReading }) ∷ []))) (without_reader t (with_stage t IsAborted (rs ++ (record { id = t; stage = IsReading }) ∷ [])))) (ne_eqb r.id t h.0)
    ∙ ap (λ us. r ∷ us) (dropped_last t rs h.1)

ended_last : (t : ℕ) (rs : List UnfinishedReader) → AllByRecursion (λ r. r.id ≡ t → has_ended r.stage ≡ true) (with_stage t IsAborted rs)
ended_last t [] = tt
ended_last t (r ∷ rs) = (λ e. ap (λ (b : Bool). has_ended (cond b IsAborted r.stage)) (eq-eqb r.id t e), ended_last t rs)

set_last : (xs : List TalePlace) (y z : TalePlace) → slice_set (xs ++ y ∷ []) (length xs) z ≡ xs ++ z ∷ []
set_last [] y z = refl
set_last (x ∷ xs) y z = ap (λ ws. x ∷ ws) (set_last xs y z)

module _ (opening : Map) (steps own : List Step) (w : WholeState) (c : CoreData) (h : StandsWhole opening steps own w c) (rising : AreRising (ends c.tale)) where
  abbrev s : State
  s = w.core

  abbrev b : Stamp
  b = record { 0 = s.clock + 1 }

  abbrev opened : List TalePlace
  opened = c.tale ++ Reading b ∷ []

  abbrev left : List TalePlace
  left = closed_up (c.tale ++ Empty ∷ [])

  left_is : closed_up (slice_set opened (length c.tale) Empty) ≡ left
  left_is = ap closed_up (set_last c.tale (Reading b) Empty)

  apart : AllByRecursion (λ r. r.id ≢ b.0) w.readers
  apart = each_weaker (IsUnfinishedReader steps own s) (λ r. r.id ≢ b.0) (λ r u e. let d = u.drawn in omega (arith, d, e)) w.readers h.kept.readers

  below : AllByRecursion (λ d. d < b.0) (ends c.tale)
  below = each_weaker (λ d. d ≤ s.clock) (λ d. d < b.0) (λ d l. omega (arith, l)) (ends c.tale) h.core.places.drawn

  last : reading_begin_at opened (length c.tale) ≡ Some b.0
  last = reading_last c.tale b

  whole : HasWholeTale w left
  whole =
      let one = whole_begun w b c.tale (record { others = h.core.tale; readers = h.core.places.readers }) in
      let two = whole_left (record w { readers = w.readers ++ (record { id = b.0; stage = IsReading }) ∷ [] }) b.0 (length c.tale) opened (rising_opened c.tale (Reading b) b.0 refl rising below) last one in
      let three = whole_finished (record w { readers = with_stage b.0 IsAborted (w.readers ++ (record { id = b.0; stage = IsReading }) ∷ []) }) b.0 (closed_up (slice_set opened (length c.tale) Empty)) (ended_last b.0 (w.readers ++ (record { id = b.0; stage = IsReading }) ∷ [])) two in
      subst (HasWholeTale w) left_is (subst (λ us. HasWholeTale (record w { readers = us }) (closed_up (slice_set opened (length c.tale) Empty))) (dropped_last b.0 w.readers apart) three)

  keeps : (q d : ℕ) → reading_begin_at c.tale q ≡ Some d → reading_begin_at left q ≡ Some d
  keeps q d k = reading_closed (c.tale ++ Empty ∷ []) q d (reading_behind c.tale Empty q d k)

  still : (x : StampedTx) → (x.settled ≡ false → IsKeptPreparing c.table c.tale x) → x.settled ≡ false → IsKeptPreparing c.table left x
  still x k o = let p = k o in record {
    own = p.own;
    kept = p.kept;
    history = p.history;
    checked = p.checked;
    valid = p.valid;
    place = open_closed (c.tale ++ Empty ∷ []) p.own.place x.end (open_behind c.tale Empty p.own.place x.end p.place);
  }

  places : HasTalePlaces (readers_of w) s.start s.clock left
  places = record {
    drawn = subst (AllByRecursion (λ d. d ≤ s.clock)) (sym (ends_closed (c.tale ++ Empty ∷ []) ∙ ends-append c.tale (Empty ∷ []) ∙ append-nil (ends c.tale))) h.core.places.drawn;
    readers = whole.readers;
  }

  -- what the core stands for where the place was opened and left
  pub reader_not_begun : StandsWhole opening steps own w (record c { tale = closed_up (slice_set (c.tale ++ Reading (record { 0 = w.core.clock + 1 }) ∷ []) (length c.tale) Empty) })
  reader_not_begun = subst (λ (xs : List TalePlace). StandsWhole opening steps own w (record c { tale = xs })) (sym left_is) (record {
    core = record {
      kept = h.core.kept;
      versions = h.core.versions;
      dependencies = h.core.dependencies;
      order = h.core.order;
      works = record { active = h.core.works.active; preparing = each_weaker (λ x. x.settled ≡ false → IsKeptPreparing c.table c.tale x) (λ x. x.settled ≡ false → IsKeptPreparing c.table left x) still s.stamped h.core.works.preparing };
      words = h.core.words;
      tale = whole.others;
      places = places;
      stages = stages_told w.readers c.table c.tale left keeps h.core.stages;
      marks = h.core.marks;
      grouped = subst (λ (xs : List TalePlace). AreGroupedTo xs c.grouped c.closed) left_is (grouped_reading_left opened c.grouped c.closed (length c.tale) (ap is_some last) (grouped_begun c.tale c.grouped c.closed b h.core.grouped));
      start = h.core.start;
      over = h.core.over;
      beside = h.core.beside;
    };
    kept = h.kept;
  })
