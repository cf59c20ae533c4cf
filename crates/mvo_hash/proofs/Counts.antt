-- How many slots are used, and how many hold a key.
use Rattle.std.proofs.Common.{◌≡◌, ◌≢◌, ℕ, zero, suc, ◌+◌, ◌<◌, ◌≤◌, List, [], ◌∷◌, true, false, cond, length, set, take, refl, ap, subst, arith, add-one}
use Rattle.std.proofs.lemmas.List.Sums.{sum_by-set, sum_by-cons, sum_by-take-le, count_by_more_no, count_by_more_yes}
use Rattle.mvo_hash.specs.declared.slot.Slot.{Slot}
use Rattle.mvo_hash.specs.declared.slot.State.{State}
use Rattle.mvo_hash.specs.declared.slot.State.TheVariants.{Empty, Left, Live}
use Rattle.mvo_hash.specs.Slots.{slot, empty_slot, IsLive, IsFilled, is_used, is_used_state, used_count, is_live, is_live_state, live_count}

-- what a slot adds to the count
abbrev pub share : Slot → ℕ
share s = cond (is_used s) 1 0

full_state : (t : State) → t ≢ Empty → is_used_state t ≡ true
full_state Empty full = absurd (full refl)
full_state Left full = refl
full_state Live full = refl

share_full : (s : Slot) → s.state ≢ Empty → share s ≡ 1
share_full s full = let h : is_used_state s.state ≡ true = full_state s.state full in ap (λ b. cond b 1 0) h

share_empty : (s : Slot) → s.state ≡ Empty → share s ≡ 0
share_empty s empty = ap (λ (t : State). cond (is_used_state t) 1 0) empty

used-set : (ss : List Slot) (i : ℕ) (s : Slot) → i < length ss → used_count (set ss i s) + share (slot ss i) ≡ used_count ss + share s
used-set ss i s within = sum_by-set share ss i s empty_slot within

-- a slot that was used and stays so
pub used_kept : (ss : List Slot) (i : ℕ) (s : Slot) → i < length ss → (slot ss i).state ≢ Empty → s.state ≢ Empty → used_count (set ss i s) ≡ used_count ss
used_kept ss i s within full stays = omega (arith, used-set ss i s within, share_full (slot ss i) full, share_full s stays)

-- a slot that was never used
pub used_more : (ss : List Slot) (i : ℕ) (s : Slot) → i < length ss → (slot ss i).state ≡ Empty → s.state ≢ Empty → used_count (set ss i s) ≡ used_count ss + 1
used_more ss i s within empty stays = omega (arith, used-set ss i s within, share_empty (slot ss i) empty, share_full s stays)

used_next : (ss : List Slot) (i : ℕ) → i < length ss → (slot ss i).state ≢ Empty → used_count (take (suc i) ss) ≡ used_count (take i ss) + 1
used_next ss i within full =
    subst (λ m. used_count (take m ss) ≡ used_count (take i ss) + 1) (add-one i) (count_by_more_yes is_used ss i empty_slot within (full_state (slot ss i).state full))

filled_front : (ss : List Slot) (i : ℕ) → IsFilled ss 0 i → i ≤ length ss → i ≤ used_count (take i ss)
filled_front ss zero filled le = omega arith
filled_front ss (suc i) filled le =
    let before : IsFilled ss 0 i = record { at = λ j from to. filled.at j from (omega (arith, to)) } in
    omega (arith, filled_front ss i before (omega (arith, le)), used_next ss i (omega (arith, le)) (filled.at i (omega arith) (omega arith)))

-- where no slot is empty, each is used
pub filled_used : (ss : List Slot) → IsFilled ss 0 (length ss) → length ss ≤ used_count ss
filled_used ss filled =
    let front : used_count (take (length ss) ss) ≤ used_count ss = sum_by-take-le share ss (length ss) in
    omega (arith, front, filled_front ss (length ss) filled (omega arith))

-- what a slot adds to the keys
abbrev pub presence : Slot → ℕ
presence s = cond (is_live s) 1 0

present : (s : Slot) → IsLive s → presence s ≡ 1
present s live = ap (λ (t : State). cond (is_live_state t) 1 0) live

not_live_state : (t : State) → t ≢ Live → is_live_state t ≡ false
not_live_state Empty free = refl
not_live_state Left free = refl
not_live_state Live free = absurd (free refl)

not_present : (s : Slot) → s.state ≢ Live → presence s ≡ 0
not_present s free = ap (λ b. cond b 1 0) (not_live_state s.state free)

live-set : (ss : List Slot) (i : ℕ) (s : Slot) → i < length ss → live_count (set ss i s) + presence (slot ss i) ≡ live_count ss + presence s
live-set ss i s within = sum_by-set presence ss i s empty_slot within

pub live_kept : (ss : List Slot) (i : ℕ) (s : Slot) → i < length ss → IsLive (slot ss i) → IsLive s → live_count (set ss i s) ≡ live_count ss
live_kept ss i s within was is = omega (arith, live-set ss i s within, present (slot ss i) was, present s is)

pub live_more : (ss : List Slot) (i : ℕ) (s : Slot) → i < length ss → (slot ss i).state ≢ Live → IsLive s → live_count (set ss i s) ≡ live_count ss + 1
live_more ss i s within free is = omega (arith, live-set ss i s within, not_present (slot ss i) free, present s is)

pub live_less : (ss : List Slot) (i : ℕ) (s : Slot) → i < length ss → IsLive (slot ss i) → s.state ≢ Live → live_count (set ss i s) + 1 ≡ live_count ss
live_less ss i s within was gone = omega (arith, live-set ss i s within, present (slot ss i) was, not_present s gone)

pub live_next : (ss : List Slot) (i : ℕ) → i < length ss → IsLive (slot ss i) → live_count (take (i + 1) ss) ≡ live_count (take i ss) + 1
live_next ss i within live = count_by_more_yes is_live ss i empty_slot within (ap is_live_state live)

pub live_next_free : (ss : List Slot) (i : ℕ) → i < length ss → (slot ss i).state ≢ Live → live_count (take (i + 1) ss) ≡ live_count (take i ss)
live_next_free ss i within free = count_by_more_no is_live ss i empty_slot within (not_live_state (slot ss i).state free)

pub live_front : (ss : List Slot) (i : ℕ) → live_count (take i ss) ≤ live_count ss
live_front ss i = sum_by-take-le presence ss i

presence_share : (t : State) → cond (is_live_state t) 1 0 ≤ cond (is_used_state t) 1 0
presence_share Empty = omega arith
presence_share Left = omega arith
presence_share Live = omega arith

-- a slot with a key is a used one
pub live_used : (ss : List Slot) → live_count ss ≤ used_count ss
live_used [] = omega arith
live_used (s ∷ ss) =
    let h : presence s ≤ share s = presence_share s.state in
    let keys : live_count (s ∷ ss) ≡ presence s + live_count ss = sum_by-cons presence s ss in
    let used : used_count (s ∷ ss) ≡ share s + used_count ss = sum_by-cons share s ss in
    omega (arith, h, keys, used, live_used ss)
