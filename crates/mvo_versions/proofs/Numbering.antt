-- Versions go to the key index in the order of their numbers.
use Rattle.std.proofs.Common.{◌≡◌, ℕ, ◌+◌, ◌<◌, ◌≤◌, suc, zero, cond, List, [], ◌∷◌, ◌++◌, length, take, Option, None, Some, refl, sym, ap, ◌∙◌, subst, arith}
use Rattle.std.specs.Prelude.{◌==◌, slice_index_or, slice_set}
use Rattle.std.specs.FinMap as fin
use Rattle.std.proofs.Math.Seq.{take-suc}
use Rattle.std.proofs.lemmas.List.{length-take-le, take_all}
use Rattle.mvo_types.specs.Keys.{key_cmp}
use Rattle.mvo_theory.specs.Sound.{how_many}
use Rattle.mvo_chain.specs.declared.version.Version.{Version}
use Rattle.mvo_chain.specs.Slots.{Slots}
use Rattle.mvo_hash.specs.Lists.{Lists, or_empty, IsNewNumber}
use Rattle.mvo_visible.specs.Fronts.{with_new}
use Rattle.mvo_representation.specs.Indexes.{is_of_key, HasNumbers}
use Rattle.mvo_representation.proofs.Numbers.{numbers_added}
use Rattle.mvo_versions.proofs.Indexing.{appended_same, empty_fresh}

past_end : (slots : Slots) (n : ℕ) → length slots ≤ n → slice_index_or slots n None ≡ None
past_end [] n e = refl
past_end (s ∷ slots) zero e = absurd (omega (arith, e))
past_end (s ∷ slots) (suc n) e = past_end slots n (omega (arith, e))

last_set : (slots : Slots) (w : Version) → slice_set (slots ++ None ∷ []) (length slots) (Some w) ≡ slots ++ Some w ∷ []
last_set [] w = refl
last_set (s ∷ slots) w = ap (λ (xs : Slots). s ∷ xs) (last_set slots w)

one_longer : (slots : Slots) → length slots < length (slots ++ None ∷ [])
one_longer [] = omega arith
one_longer (s ∷ slots) = let rest = one_longer slots in omega (arith, rest)

-- a slot behind the others that is empty
empty_behind : (slots : Slots) (lists : Lists) → HasNumbers slots lists → HasNumbers (slots ++ None ∷ []) lists
empty_behind slots lists h = record { at = λ k n. h.at k n ∙ ap (λ (s : Option Version). cond (is_of_key k s) 1 0) (sym (appended_same slots n)) }

-- and one with a version
version_behind : (slots : Slots) (lists : Lists) (w : Version) → HasNumbers slots lists → HasNumbers (slots ++ Some w ∷ []) (with_new lists w.row.key (length slots))
version_behind slots lists w h =
    subst (λ (xs : Slots). HasNumbers xs (with_new lists w.row.key (length slots))) (last_set slots w)
    (numbers_added (slots ++ None ∷ []) lists (length slots) w (one_longer slots)
    (appended_same slots (length slots) ∙ past_end slots (length slots) (omega arith)) (empty_behind slots lists h))

-- ---- the first of the slots have their numbers
pub none_numbered : (slots : Slots) (lists : Lists) → lists ≡ fin.empty → HasNumbers (take 0 slots) lists
none_numbered slots lists e =
    subst (λ (l : Lists). HasNumbers [] l) (sym e)
    (record { at = λ k n. ap (λ (o : Option (List ℕ)). how_many (λ m. m == n) (or_empty o)) (fin.get-empty key_cmp k) })

pub next_fresh : (slots : Slots) (lists : Lists) (i : ℕ) → i < length slots → HasNumbers (take i slots) lists → IsNewNumber lists i
next_fresh slots lists i lt h = empty_fresh (take i slots) lists i h (past_end (take i slots) i (let is = length-take-le i slots (omega (arith, lt)) in omega (arith, is)))

-- one slot more
one_more : (slots : Slots) (i : ℕ) (s : Option Version) → i < length slots → slice_index_or slots i None ≡ s → take i slots ++ s ∷ [] ≡ take (i + 1) slots
one_more slots i s lt at =
    let next : suc i ≡ i + 1 = omega arith in
    ap (λ (t : Option Version). take i slots ++ t ∷ []) (sym at) ∙ sym (take-suc slots i None lt) ∙ ap (λ n. take n slots) next

pub next_numbered : (slots : Slots) (lists new : Lists) (i : ℕ) (w : Version) → i < length slots → slice_index_or slots i None ≡ Some w → new ≡ with_new lists w.row.key i → HasNumbers (take i slots) lists → HasNumbers (take (i + 1) slots) new
next_numbered slots lists new i w lt at e h =
    subst (λ (xs : Slots). HasNumbers xs new) (one_more slots i (Some w) lt at)
    (subst (λ (l : Lists). HasNumbers (take i slots ++ Some w ∷ []) l) (sym e)
    (subst (λ (n : ℕ). HasNumbers (take i slots ++ Some w ∷ []) (with_new lists w.row.key n)) (length-take-le i slots (omega (arith, lt)))
    (version_behind (take i slots) lists w h)))

pub next_empty : (slots : Slots) (lists : Lists) (i : ℕ) → i < length slots → slice_index_or slots i None ≡ None → HasNumbers (take i slots) lists → HasNumbers (take (i + 1) slots) lists
next_empty slots lists i lt at h = subst (λ (xs : Slots). HasNumbers xs lists) (one_more slots i None lt at) (empty_behind (take i slots) lists h)

pub all_numbered : (slots : Slots) (lists : Lists) (i : ℕ) → length slots ≤ i → HasNumbers (take i slots) lists → HasNumbers slots lists
all_numbered slots lists i e h = subst (λ (xs : Slots). HasNumbers xs lists) (take_all i slots e) h
