-- What the calls of a read-only transaction are never refused with, and whom it waits for.
use Rattle.std.proofs.Common.{◌≡◌, ℕ, ◌≤◌, Bool, true, false, List, Option, None, Some, refl, sym, ap, subst}
use Rattle.std.specs.List.{AllByRecursion}
use Rattle.mvo_types.specs.declared.op.Op.TheVariants.{Insert}
use Rattle.mvo_types.specs.declared.refusal.Refusal.{Refusal}
use Rattle.mvo_types.specs.declared.refusal.Refusal.TheVariants.{ReadOnly, DependencyAborted}
use Rattle.mvo_types.specs.Keys.{Map}
use Rattle.mvo_types.specs.RowData.{RowData}
use Rattle.mvo_model.specs.Trace.{Step}
use Rattle.mvo_theory.specs.State.{State, StampedTx, active_of}
use Rattle.mvo_types.specs.Causes.{or_next}
use Rattle.mvo_theory.specs.Causes.{flagged}
use Rattle.mvo_theory.specs.Dependencies.{has_end}
use Rattle.mvo_theory.specs.Calls.{Result, IsRefusal}
use Rattle.mvo_theory.specs.Calls.Call.{Begin, Do, Precommit, Validate}
use Rattle.mvo_theory.specs.Calls.Result.{Accepted, Refused}
use Rattle.mvo_theory.proofs.Causes.{waiting_is, waiting_least}
use Rattle.mvo_readonly.specs.Whole.{WholeState, stage_named, id_named}
use Rattle.mvo_readonly.specs.WholeCauses.{WholeCall, flag_of_reader, why_not_reader, why_not_at_stage, MayComeAtStage, MayComeWhole, depends_of_active, awaited_by_reader, IsWholeCallInOrder, takes_memory_at_stage}
use Rattle.mvo_readonly.specs.Whole.ReaderStage.{Reading, Preparing}
use Rattle.mvo_readonly.specs.WholeCauses.WholeCall.{CoreCall, BeginReadOnly}
use Rattle.mvo_readonly.specs.WholeKept.{IsWholeKept}
use Rattle.mvo_theory.specs.Calls.{why_not}

flag_is : (f : Option ℕ) (r : Refusal) → or_next (flagged f) None ≡ Some r → (x : ℕ) × (r ≡ DependencyAborted (record { 0 = x }))
flag_is None r e = absurd cc
flag_is (Some x) r e = (x, sym (same _ r e))
  where
    same : (a b : Refusal) → ◌≡◌ {A = Option Refusal} (Some a) (Some b) → a ≡ b
    same a b q = cc

-- a check is never refused with 21: what is left at a Preparing one is 22
pub only_22 : (s : State) (t n : ℕ) (v : Bool) (r : Refusal) → why_not_reader s (Preparing n v) (Validate t) ≡ Some r → (x : ℕ) × (r ≡ DependencyAborted (record { 0 = x }))
only_22 s t n v r e = flag_is (flag_of_reader s t) r e

-- nor is its precommit with 35
pub only_22_at_precommit : (s : State) (t : ℕ) (r : Refusal) → why_not_reader s Reading (Precommit t) ≡ Some r → (x : ℕ) × (r ≡ DependencyAborted (record { 0 = x }))
only_22_at_precommit s t r e = flag_is (flag_of_reader s t) r e

-- each operation that may write is refused: with 22 if it is flagged, and else with 60
pub never_writes : (s : State) (t : ℕ) (row : RowData) → flag_of_reader s t ≡ None → why_not_reader s Reading (Do t (Insert row)) ≡ Some ReadOnly
never_writes s t row e = ap (λ f. or_next (flagged f) (Some ReadOnly)) e

-- ---- it waits for one that is Preparing, that it depends on, and that has the least end of these
pub waits_for_least : (opening : Map) (ws xs : List Step) (w : WholeState) (t : ℕ) (y : StampedTx) → IsWholeKept opening ws xs w → awaited_by_reader w.core t ≡ Some y → (y.settled ≡ false) × (has_end (depends_of_active (active_of t w.core.active)) y.end ≡ true)
    × AllByRecursion (λ z. z.settled ≡ false → has_end (depends_of_active (active_of t w.core.active)) z.end ≡ true → y.end ≤ z.end) w.core.stamped
waits_for_least opening ws xs w t y h e =
    let ds = depends_of_active (active_of t w.core.active) in
    let is = waiting_is ds w.core.stamped y e in
    (is.0, is.1, waiting_least ds w.core.stamped y h.kept.sound.rising e)

-- ---- each call comes to something
pub some_result : (w : WholeState) (a : WholeCall) → IsWholeCallInOrder w a → (r : Result) × MayComeWhole w a r
some_result w BeginReadOnly o = go (why_not w.core Begin) refl
  where
    go : (v : Option Refusal) → why_not w.core Begin ≡ v → (r : Result) × MayComeWhole w BeginReadOnly r
    go None e = (Accepted, (e, tt))
    go (Some why) e = (Refused why, subst (λ (v : Option Refusal). IsRefusal true v why) (sym e) refl)
some_result w (CoreCall c) o = go (why_not_at_stage w c (stage_named w.readers (id_named c))) refl
  where
    refusal : (b : Bool) (why : Refusal) → IsRefusal b (Some why) why
    refusal true why = refl
    refusal false why = refl

    go : (v : Option Refusal) → why_not_at_stage w c (stage_named w.readers (id_named c)) ≡ v → (r : Result) × MayComeAtStage w c (stage_named w.readers (id_named c)) r
    go None e = (Accepted, (e, o))
    go (Some why) e = (Refused why, subst (λ (v : Option Refusal). IsRefusal (takes_memory_at_stage c (stage_named w.readers (id_named c))) v why) (sym e) (refusal (takes_memory_at_stage c (stage_named w.readers (id_named c))) why))
