-- A version that comes into a slot, changes there or goes is one among all versions.
use Rattle.std.proofs.Common.{◌≡◌, ℕ, ◌<◌, suc, zero, List, [], ◌∷◌, ◌++◌, length, Option, None, Some, refl, sym, ap, arith}
use Rattle.std.specs.Prelude.{slice_index_or, slice_set}
use Rattle.mvo_chain.specs.declared.version.Version.{Version}
use Rattle.mvo_chain.specs.Slots.{Slots}
use Rattle.mvo_representation.specs.Indexes.{all_versions}
use Rattle.mvo_representation.specs.Steps.{IsOneMore, IsOneChanged}

pub none_version : (v : Version) → ◌≡◌ {A = Option Version} None (Some v) → ⊥
none_version v q = cc

pub some_version : (w v : Version) → ◌≡◌ {A = Option Version} (Some w) (Some v) → w ≡ v
some_version w v q = cc

-- one that is full has no version less
none_less : (v : Version) → ◌≡◌ {A = Option Version} (Some v) None → ⊥
none_less v q = cc

one_more_behind : (w v : Version) (old new : List Version) → IsOneMore v old new → IsOneMore v (w ∷ old) (w ∷ new)
one_more_behind w v old new m = record { before = w ∷ m.before; after = m.after; without = ap (λ xs. w ∷ xs) m.without; with' = ap (λ xs. w ∷ xs) m.with' }

one_changed_behind : (x v w : Version) (old new : List Version) → IsOneChanged v w old new → IsOneChanged v w (x ∷ old) (x ∷ new)
one_changed_behind x v w old new m = record { before = x ∷ m.before; after = m.after; was = ap (λ xs. x ∷ xs) m.was; is = ap (λ xs. x ∷ xs) m.is }

-- an empty slot more holds none
pub room_made : (slots : Slots) → all_versions (slots ++ None ∷ []) ≡ all_versions slots
room_made [] = refl
room_made (None ∷ ss) = room_made ss
room_made (Some v ∷ ss) = ap (λ xs. v ∷ xs) (room_made ss)

-- a version fills an empty slot
pub slot_filled : (slots : Slots) (n : ℕ) (v : Version) → n < length slots → slice_index_or slots n None ≡ None → IsOneMore v (all_versions slots) (all_versions (slice_set slots n (Some v)))
slot_filled [] n v lt e = absurd (omega (arith, lt))
slot_filled (None ∷ ss) zero v lt e = record { before = []; after = all_versions ss; without = refl; with' = refl }
slot_filled (Some w ∷ ss) zero v lt e = absurd (none_less w e)
slot_filled (None ∷ ss) (suc n) v lt e = slot_filled ss n v (omega (arith, lt)) e
slot_filled (Some w ∷ ss) (suc n) v lt e = one_more_behind w v (all_versions ss) (all_versions (slice_set ss n (Some v))) (slot_filled ss n v (omega (arith, lt)) e)

-- it goes
pub slot_emptied : (slots : Slots) (n : ℕ) (v : Version) → slice_index_or slots n None ≡ Some v → IsOneMore v (all_versions (slice_set slots n None)) (all_versions slots)
slot_emptied [] zero v e = absurd (none_version v e)
slot_emptied [] (suc n) v e = absurd (none_version v e)
slot_emptied (None ∷ ss) zero v e = absurd (none_version v e)
slot_emptied (Some w ∷ ss) zero v e = record { before = []; after = all_versions ss; without = refl; with' = ap (λ (x : Version). x ∷ all_versions ss) (sym (some_version w v e)) }
slot_emptied (None ∷ ss) (suc n) v e = slot_emptied ss n v e
slot_emptied (Some w ∷ ss) (suc n) v e = one_more_behind w v (all_versions (slice_set ss n None)) (all_versions ss) (slot_emptied ss n v e)

-- it changes there
pub slot_changed : (slots : Slots) (n : ℕ) (v w : Version) → slice_index_or slots n None ≡ Some v → IsOneChanged v w (all_versions slots) (all_versions (slice_set slots n (Some w)))
slot_changed [] zero v w e = absurd (none_version v e)
slot_changed [] (suc n) v w e = absurd (none_version v e)
slot_changed (None ∷ ss) zero v w e = absurd (none_version v e)
slot_changed (Some x ∷ ss) zero v w e = record { before = []; after = all_versions ss; was = ap (λ (y : Version). y ∷ all_versions ss) (sym (some_version x v e)); is = refl }
slot_changed (None ∷ ss) (suc n) v w e = slot_changed ss n v w e
slot_changed (Some x ∷ ss) (suc n) v w e = one_changed_behind x v w (all_versions ss) (all_versions (slice_set ss n (Some w))) (slot_changed ss n v w e)
