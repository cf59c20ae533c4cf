-- The last writes to many keys: each write is noted at the place of its key.
use Rattle.std.proofs.Common.{◌≡◌, ℕ, inl, inr, zero, suc, ◌+◌, ◌<◌, true, false, cond, List, [], ◌∷◌, map, replicate, take, set, length, get_or, Option, None, Some, refl, sym, ap, ◌∙◌, arith}
use Rattle.std.specs.Option.{option_map}
use Rattle.std.specs.List.{AllByRecursion, IsDistinct}
use Rattle.std.specs.List.Sorted.{IsStrictlySortedBy, IsNonDecreasingBy, IsPartitionPoint}
use Rattle.std.specs.Ordering.{eq_by_cmp, is_eq, is_lt, ordering_index, ordering_reverse}
use Rattle.std.specs.declared.cmp.Ordering.TheVariants.{Less, Greater}
use Rattle.std.proofs.lemmas.Bool.{cases_lt}
use Rattle.std.proofs.lemmas.List.{length-map, get_or-map}
use Rattle.std.proofs.lemmas.List.Elements.{recursion_from_All}
use Rattle.std.proofs.lemmas.List.Sorted.{searchable_from_sorted}
use Rattle.std.proofs.lemmas.Map.Keys.{Less-from_sorted, apart_from_distinct}
use Rattle.mvo_types.specs.declared.row.RowKey.{RowKey}
use Rattle.mvo_types.specs.declared.op.Op.{Op}
use Rattle.mvo_types.specs.declared.answer.Answer.{Answer}
use Rattle.mvo_types.specs.Keys.{key_cmp}
use Rattle.mvo_types.specs.AnswerData.{answer_data}
use Rattle.mvo_types.proofs.Maps.{keys_total}
use Rattle.mvo_types.specs.Write.{Write, Effect}
use Rattle.mvo_model.specs.History.{write_of, later, net_write}
use Rattle.mvo_theory.specs.Told.{history_told}
use Rattle.mvo_theory.proofs.Written.{keys_equal}
use Rattle.mvo_tale.specs.declared.effect.Effect.{Effect as EffectAt}
use Rattle.mvo_tale.specs.Stored.{effect_data, effects_data}
use Rattle.mvo_tale.specs.Records.{with_newer}
use Rattle.mvo_tale.proofs.LastWrites.{last_step}

-- ---- a write at its place
pub no_write : (ks : List RowKey) (es : List (Option Effect)) → length es ≡ length ks → with_newer None ks es ≡ es
no_write [] [] e = refl
no_write [] (x ∷ es) e = absurd (omega (arith, e))
no_write (k ∷ ks) [] e = absurd (omega (arith, e))
no_write (k ∷ ks) (x ∷ es) e = ap (λ xs. x ∷ xs) (no_write ks es (omega (arith, e)))

pub other_write : (ks : List RowKey) (es : List (Option Effect)) (k : RowKey) (h : Effect) → AllByRecursion (λ j. eq_by_cmp key_cmp j k ≡ false) ks → length es ≡ length ks → with_newer (Some (k, h)) ks es ≡ es
other_write [] [] k h others e = refl
other_write [] (x ∷ es) k h others e = absurd (omega (arith, e))
other_write (j ∷ ks) [] k h others e = absurd (omega (arith, e))
other_write (j ∷ ks) (x ∷ es) k h others e =
    ap (λ b. later (cond b (Some h) None) x ∷ with_newer (Some (k, h)) ks es) others.0
    ∙ ap (λ xs. x ∷ xs) (other_write ks es k h others.1 (omega (arith, e)))

flipped : (ks : List RowKey) (j k : RowKey) → j ≡ k → AllByRecursion (λ i. eq_by_cmp key_cmp j i ≡ false) ks → AllByRecursion (λ i. eq_by_cmp key_cmp i k ≡ false) ks
flipped [] j k e h = tt
flipped (i ∷ ks) j k e h = (keys_equal.symm i k ∙ ap (λ x. eq_by_cmp key_cmp x i) (sym e) ∙ h.0, flipped ks j k e h.1)

pub set_write : (ks : List RowKey) (es : List (Option Effect)) (i : ℕ) (k : RowKey) (h : Effect) → IsDistinct (eq_by_cmp key_cmp) ks → i < length ks → get_or ks i k ≡ k → length es ≡ length ks → set es i (Some h) ≡ with_newer (Some (k, h)) ks es
unfolding IsDistinct
set_write [] es i k h apart lt at e = absurd (omega (arith, lt))
set_write (j ∷ ks) [] i k h apart lt at e = absurd (omega (arith, e))
set_write (j ∷ ks) (x ∷ es) zero k h apart lt at e =
    let same : eq_by_cmp key_cmp j k ≡ true = ap (eq_by_cmp key_cmp j) (sym at) ∙ keys_equal.refl j in
    ap (λ xs. Some h ∷ xs) (sym (other_write ks es k h (flipped ks j k at apart.0) (omega (arith, e))))
    ∙ ap (λ b. later (cond b (Some h) None) x ∷ with_newer (Some (k, h)) ks es) (sym same)
set_write (j ∷ ks) (x ∷ es) (suc i) k h apart lt at e =
    let other : eq_by_cmp key_cmp j k ≡ false = ap (eq_by_cmp key_cmp j) (sym at) ∙ apart_from_distinct (eq_by_cmp key_cmp) (j ∷ ks) 0 (suc i) k apart (omega arith) lt in
    ap (λ xs. x ∷ xs) (set_write ks es i k h apart.1 (omega (arith, lt)) at (omega (arith, e)))
    ∙ ap (λ b. later (cond b (Some h) None) x ∷ with_newer (Some (k, h)) ks es) (sym other)

-- ---- a search for a key
pub searchable : (ks : List RowKey) (k : RowKey) → IsStrictlySortedBy key_cmp ks → IsNonDecreasingBy (λ j. ordering_index (key_cmp j k)) ks
searchable ks k rise =
    searchable_from_sorted keys_total (λ (j : RowKey). j) ks k (λ n d low lt.
    ap is_lt (keys_total.antisymm (get_or ks (n + 1) d) (get_or ks n d) ∙ ap ordering_reverse (Less-from_sorted key_cmp ks n (n + 1) d rise (omega arith) lt)))

pub not_there : (ks : List RowKey) (k : RowKey) (i : ℕ) → IsPartitionPoint (λ j. key_cmp j k ≡ Less) (λ j. key_cmp j k ≡ Greater) ks i → AllByRecursion (λ j. eq_by_cmp key_cmp j k ≡ false) ks
not_there ks k i point =
    recursion_from_All (λ j. eq_by_cmp key_cmp j k ≡ false) ks (λ n d lt.
    elim (cases_lt n i) [
      | inl below ↦ ap is_eq (point.0 n d (omega arith) below)
      | inr above ↦ ap is_eq (point.1 n d above lt)
    ])

-- ---- as a loop goes over the operations
pub none_yet : (ks : List RowKey) (es : List (Option EffectAt)) → es ≡ replicate (length ks) None → effects_data es ≡ map (λ k. net_write k []) ks
none_yet ks es e = ap effects_data e ∙ each ks
  where
    each : (js : List RowKey) → effects_data (replicate (length js) None) ≡ map (λ k. net_write k []) js
    each [] = refl
    each (j ∷ js) = ap (λ xs. None ∷ xs) (each js)

pub note_step : (ks : List RowKey) (ops : List (Op × Answer)) (i : ℕ) (x : Op × Answer) (w : Option Write) → i < length ops → x ≡ get_or ops i x → w ≡ write_of x.0 (answer_data x.1) → with_newer w ks (map (λ k. net_write k (history_told (take i ops))) ks) ≡ map (λ k. net_write k (history_told (take (i + 1) ops))) ks
note_step [] ops i x w lt e is = refl
note_step (k ∷ ks) ops i x w lt e is =
    ap (λ v. v ∷ with_newer w ks (map (λ j. net_write j (history_told (take i ops))) ks)) (sym (last_step k ops i x w lt e is))
    ∙ ap (λ vs. net_write k (history_told (take (i + 1) ops)) ∷ vs) (note_step ks ops i x w lt e is)

pub as_many : (ks : List RowKey) (es : List (Option EffectAt)) (net : RowKey → Option Effect) → effects_data es ≡ map net ks → length es ≡ length ks
as_many ks es net e = sym (length-map es (option_map effect_data)) ∙ ap (λ (xs : List (Option Effect)). length xs) e ∙ length-map ks net

-- ---- what stands at the place of a key
pub at_place : (ks : List RowKey) (es : List (Option EffectAt)) (net : RowKey → Option Effect) (i : ℕ) (d : RowKey) (x : Option EffectAt) → effects_data es ≡ map net ks → i < length ks → x ≡ get_or es i x → net (get_or ks i d) ≡ option_map effect_data x
at_place ks es net i d x e lt is =
    let many = as_many ks es net e in
    sym (get_or-map net ks i d None lt)
    ∙ ap (λ (xs : List (Option Effect)). get_or xs i None) (sym e)
    ∙ get_or-map (option_map effect_data) es i x None (omega arith)
    ∙ ap (option_map effect_data) (sym is)
