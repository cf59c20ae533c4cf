-- One more of a list, as a loop goes over it.
use Rattle.std.proofs.Common.{◌≡◌, ℕ, zero, suc, ◌+◌, ◌-◌, ◌<◌, ◌≤◌, true, List, [], ◌∷◌, ◌++◌, length, take, get_or, refl, sym, ap, ◌∙◌, subst, arith}
use Rattle.std.specs.Prelude.{IsSome}
use Rattle.std.specs.List.{AllByRecursion}
use Rattle.std.specs.Option.{option_map}
use Rattle.std.proofs.lemmas.Bool.{false≢true}
use Rattle.std.proofs.lemmas.List.{take_more, map-append}
use Rattle.mvo_types.specs.declared.row.RowKey.{RowKey}
use Rattle.mvo_types.specs.declared.op.Op.{Op}
use Rattle.mvo_types.specs.declared.answer.Answer.{Answer}
use Rattle.mvo_types.specs.AnswerData.{AnswerData, answer_data}
use Rattle.mvo_model.specs.History.{History, write_of}
use Rattle.mvo_theory.specs.Entries.{noted_key, written_from, written_keys}
use Rattle.mvo_theory.proofs.Each.{each_append}
use Rattle.mvo_tale.specs.declared.tale_place.TalePlace.{TalePlace}
use Rattle.mvo_theory.specs.Told.{history_told}
use Rattle.mvo_theory.specs.Limits.{IsInLimits}
use Rattle.mvo_tale.specs.declared.tale_place.TalePlace.TheVariants.{Open, Reading, Settled, Empty}
use Rattle.mvo_tale.specs.Slots.{ends, open_ends, stored_at, is_empty}
use Rattle.mvo_tale.specs.Next.{IsBehindStored}
use Rattle.mvo_tale.proofs.Moving.{stored_behind}
use Rattle.mvo_tale.proofs.Rising.{ends-append, open_ends-append}

taken_more : {X : Type 0} (xs : List X) (i : ℕ) (x : X) → i < length xs → x ≡ get_or xs i x → take (i + 1) xs ≡ take i xs ++ x ∷ []
taken_more xs i x lt is = take_more xs i x lt ∙ ap (λ y. take i xs ++ y ∷ []) (sym is)

-- ---- places
pub ends_more : (P : ℕ → Type 0) (xs : List TalePlace) (i : ℕ) (x : TalePlace) → i < length xs → x ≡ get_or xs i x → AllByRecursion P (ends (take i xs)) → AllByRecursion P (ends (x ∷ [])) → AllByRecursion P (ends (take (i + 1) xs))
ends_more P xs i x lt is h k = subst (AllByRecursion P) (sym (ap ends (taken_more xs i x lt is) ∙ ends-append (take i xs) (x ∷ []))) (each_append P (ends (take i xs)) (ends (x ∷ [])) h k)

pub open_ends_more : (P : ℕ → Type 0) (xs : List TalePlace) (i : ℕ) (x : TalePlace) → i < length xs → x ≡ get_or xs i x → AllByRecursion P (open_ends (take i xs)) → AllByRecursion P (open_ends (x ∷ [])) → AllByRecursion P (open_ends (take (i + 1) xs))
open_ends_more P xs i x lt is h k = subst (AllByRecursion P) (sym (ap open_ends (taken_more xs i x lt is) ∙ open_ends-append (take i xs) (x ∷ []))) (each_append P (open_ends (take i xs)) (open_ends (x ∷ [])) h k)

pub empty_more : (P : TalePlace → Type 0) (xs : List TalePlace) (i : ℕ) (x : TalePlace) → i < length xs → x ≡ get_or xs i x → AllByRecursion P (take i xs) → P x → AllByRecursion P (take (i + 1) xs)
empty_more P xs i x lt is h k = subst (AllByRecursion P) (sym (taken_more xs i x lt is)) (each_append P (take i xs) (x ∷ []) h (k, tt))

behind_rest : (x : TalePlace) (xs : List TalePlace) (n : ℕ) → is_empty x ≡ true → IsBehindStored xs n → IsBehindStored (x ∷ xs) (suc n)
behind_rest (Open e) xs n i h = absurd (false≢true i)
behind_rest (Reading b) xs n i h = absurd (false≢true i)
behind_rest (Settled c) xs n i h = absurd (false≢true i)
behind_rest Empty xs n i h = h

pub behind_empty : (xs : List TalePlace) (place : ℕ) → place ≤ length xs → AllByRecursion (λ x. is_empty x ≡ true) (take place xs) → IsBehindStored xs place
behind_empty xs zero le h = tt
behind_empty [] (suc n) le h = absurd (omega arith)
behind_empty (x ∷ xs) (suc n) le h = behind_rest x xs n h.0 (behind_empty xs n (omega arith) h.1)

pub behind_commit : (xs : List TalePlace) (place : ℕ) → 0 < place → IsSome (stored_at xs (place - 1)) → IsBehindStored xs place
behind_commit xs place lt h = let n : suc (place - 1) ≡ place = omega arith in subst (IsBehindStored xs) n (stored_behind xs (place - 1) h)

-- ---- operations
one_more : (ops : List (Op × Answer)) (i : ℕ) (x : Op × Answer) → i < length ops → x ≡ get_or ops i x → history_told (take (i + 1) ops) ≡ history_told (take i ops) ++ (x.0, answer_data x.1) ∷ []
one_more ops i x lt is = ap history_told (taken_more ops i x lt is) ∙ map-append (λ y. (y.0, answer_data y.1)) (take i ops) (x ∷ [])

written_from-push : (ks : List RowKey) (ts : History) (x : Op × AnswerData) → written_from ks (ts ++ x ∷ []) ≡ noted_key (written_from ks ts) (option_map (λ w. w.0) (write_of x.0 x.1))
written_from-push ks [] x = refl
written_from-push ks (t ∷ ts) x = written_from-push (noted_key ks (option_map (λ w. w.0) (write_of t.0 t.1))) ts x

pub written_more : (ops : List (Op × Answer)) (i : ℕ) (x : Op × Answer) → i < length ops → x ≡ get_or ops i x → written_keys (history_told (take (i + 1) ops)) ≡ noted_key (written_keys (history_told (take i ops))) (option_map (λ w. w.0) (write_of x.0 (answer_data x.1)))
written_more ops i x lt is = ap written_keys (one_more ops i x lt is) ∙ written_from-push [] (history_told (take i ops)) (x.0, answer_data x.1)

pub limited_more : (ops : List (Op × Answer)) (i : ℕ) (x : Op × Answer) → i < length ops → x ≡ get_or ops i x → AllByRecursion (λ t. IsInLimits t.0) (history_told (take i ops)) → IsInLimits x.0 → AllByRecursion (λ t. IsInLimits t.0) (history_told (take (i + 1) ops))
limited_more ops i x lt is h k = subst (AllByRecursion (λ t. IsInLimits t.0)) (sym (one_more ops i x lt is)) (each_append (λ t. IsInLimits t.0) (history_told (take i ops)) ((x.0, answer_data x.1) ∷ []) h (k, tt))
