-- The stack of empty slots keeps up with the slots.
use Rattle.std.proofs.Common.{◌≡◌, ◌≢◌, ℕ, ◌+◌, ◌<◌, ◌≤◌, ◌^◌, true, cond, eqb, List, [], ◌∷◌, ◌++◌, length, get_or, Option, None, Some, refl, sym, ap, ◌∙◌, arith, inl, inr, subst, length-append}
use Rattle.std.specs.Prelude.{is_some, is_none, slice_get}
use Rattle.std.proofs.Math.ListN.{set, length-set}
use Rattle.std.proofs.Math.Seq.{get_or-append_seam, set-append_seam}
use Rattle.std.proofs.lemmas.Bool.{cases_lt, false≢true}
use Rattle.std.proofs.lemmas.List.{get_or-set_same, get_or-set_other, get_or_append_left, get_or_past}
use Rattle.std.proofs.lemmas.List.Sums.{sum_by-set, sum_by-append, count_by-le-length}
use Rattle.std.proofs.lemmas.Option.{slice_get_within, slice_get-get_or, get_or_from_slice_get}
use Rattle.mvo_chain.specs.declared.version.Version.{Version}
use Rattle.mvo_chain.specs.declared.version.VersionNo.{VersionNo}
use Rattle.mvo_chain.specs.Slots.{Slots, hole_count, with_room}
use Rattle.mvo_chain.specs.Sound.{IsChainSound}

abbrev pub no_version : Option Version
no_version = None

-- 1 for an empty slot
abbrev pub emptiness : Option Version → ℕ
emptiness slot = cond (is_none slot) 1 0

-- a number with a version is below the length
pub live_within : (slots : Slots) (i : ℕ) → is_some (get_or slots i None) ≡ true → i < length slots
live_within slots i live =
    elim (cases_lt i (length slots)) as (λ _. i < length slots) [
      | inl within ↦ within
      | inr past ↦ absurd (false≢true (sym (ap is_some (get_or_past slots i None past)) ∙ live))
    ]

-- a slot with a version isn't an empty one
pub live_apart : (slots : Slots) (i j : ℕ) → is_some (get_or slots i None) ≡ true → slice_get slots j ≡ Some None → j ≢ i
live_apart slots i j live hole same =
    false≢true (sym (ap is_some (sym (ap (λ k. get_or slots k None) same) ∙ get_or_from_slice_get slots j None None hole)) ∙ live)

pub hole_kept : (slots : Slots) (i j : ℕ) (slot : Option Version) → j ≢ i → slice_get slots j ≡ Some None → slice_get (set slots i slot) j ≡ Some None
hole_kept slots i j slot apart hole =
    let within : j < length slots = slice_get_within slots j None hole in
    let within' : j < length (set slots i slot) = omega (arith, length-set slots i slot) in
    slice_get-get_or (set slots i slot) j None within' ∙ ap Some (get_or-set_other slots i j slot None apart ∙ get_or_from_slice_get slots j None None hole)

pub hole_made : (slots : Slots) (i : ℕ) → i < length slots → slice_get (set slots i None) i ≡ Some None
hole_made slots i within =
    let within' : i < length (set slots i None) = omega (arith, length-set slots i no_version) in
    slice_get-get_or (set slots i None) i None within' ∙ ap Some (get_or-set_same slots i None None within)

pub hole_count-set : (slots : Slots) (i : ℕ) (slot : Option Version) → i < length slots → hole_count (set slots i slot) + emptiness (get_or slots i None) ≡ hole_count slots + emptiness slot
hole_count-set slots i slot within = sum_by-set emptiness slots i slot None within

emptiness_live : (slot : Option Version) → is_some slot ≡ true → emptiness slot ≡ 0
emptiness_live None live = absurd (false≢true live)
emptiness_live (Some version) live = omega arith

-- not every slot is empty where one has a version
pub live_count : (slots : Slots) (i : ℕ) → is_some (get_or slots i None) ≡ true → hole_count slots < length slots
live_count slots i live =
    let counts : hole_count (set slots i None) + emptiness (get_or slots i None) ≡ hole_count slots + 1 = hole_count-set slots i None (live_within slots i live) in
    let was : emptiness (get_or slots i None) ≡ 0 = emptiness_live (get_or slots i None) live in
    let all : hole_count (set slots i None) ≤ length (set slots i None) = count_by-le-length is_none (set slots i None) in
    omega (arith, counts, was, all, length-set slots i no_version)

number_left : (front : List VersionNo) (number d : VersionNo) (k : ℕ) → k < length front → (get_or (front ++ number ∷ []) k d).0 ≡ (get_or front k d).0
number_left front number d k within = ap (λ (v : VersionNo). v.0) (get_or_append_left front (number ∷ []) d k within)

number_last : (front : List VersionNo) (number d : VersionNo) (k : ℕ) → k ≡ length front → (get_or (front ++ number ∷ []) k d).0 ≡ number.0
number_last front number d k e = ap (λ (i : ℕ). (get_or (front ++ number ∷ []) i d).0) e ∙ ap (λ (v : VersionNo). v.0) (get_or-append_seam front number [] d)

length-last : {X : Type 0} (front : List X) (x : X) → length (front ++ x ∷ []) ≡ length front + 1
length-last front x = omega (arith, length-append front (x ∷ []))

filled_last : (slots : Slots) (rest : List VersionNo) (number : VersionNo) (version : Version) (room : ℕ) → IsChainSound slots (rest ++ number ∷ []) room → IsChainSound (set slots number.0 (Some version)) rest room
filled_last slots rest number version room sound =
    let size : length (rest ++ number ∷ []) ≡ length rest + 1 = length-last rest number in
    let hole : slice_get slots number.0 ≡ Some None =
    subst (λ i. slice_get slots i ≡ Some None) (number_last rest number number (length rest) refl) (sound.empty (length rest) number (omega arith)) in
    let within : number.0 < length slots = slice_get_within slots number.0 None hole in
    let counts : hole_count (set slots number.0 (Some version)) + emptiness (get_or slots number.0 None) ≡ hole_count slots + 0 = hole_count-set slots number.0 (Some version) within in
    let was : emptiness (get_or slots number.0 None) ≡ 1 = ap emptiness (get_or_from_slice_get slots number.0 None None hole) in
    record {
      counted = omega (arith, sound.counted, counts, was, size);
      empty = λ k d lt.
          hole_kept slots number.0 (get_or rest k d).0 (Some version)
          (λ same. sound.apart k (length rest) d lt (omega arith) (number_left rest number d k lt ∙ same ∙ sym (number_last rest number d (length rest) refl)))
          (subst (λ i. slice_get slots i ≡ Some None) (number_left rest number d k lt) (sound.empty k d (omega arith)));
      apart = λ j k d below lt same.
          sound.apart j k d below (omega arith) (number_left rest number d j (omega arith) ∙ same ∙ sym (number_left rest number d k lt));
      roomy = omega (arith, sound.roomy, length-set slots number.0 (Some version));
      numbered = omega (arith, sound.numbered, length-set slots number.0 (Some version));
    }

-- the last empty slot gets a version
pub filled : (slots slots' : Slots) (holes rest : List VersionNo) (number : VersionNo) (version : Version) (room room' : ℕ) → room' ≡ room → holes ≡ rest ++ number ∷ [] → set slots number.0 (Some version) ≡ slots' → IsChainSound slots holes room → IsChainSound slots' rest room'
filled slots slots' holes rest number version room room' same was is sound =
    subst (λ (s : Slots). IsChainSound s rest room') is (subst (λ (r : ℕ). IsChainSound (set slots number.0 (Some version)) rest r) (sym same) (filled_last slots rest number version room (subst (λ (h : List VersionNo). IsChainSound slots h room) was sound)))

emptied_last : (slots : Slots) (holes : List VersionNo) (number : VersionNo) (room room' : ℕ) → room ≤ room' → is_some (get_or slots number.0 None) ≡ true → IsChainSound slots holes room → IsChainSound (set slots number.0 None) (holes ++ number ∷ []) room'
emptied_last slots holes number room room' larger live sound =
    let size : length (holes ++ number ∷ []) ≡ length holes + 1 = length-last holes number in
    let within : number.0 < length slots = live_within slots number.0 live in
    let counts : hole_count (set slots number.0 None) + emptiness (get_or slots number.0 None) ≡ hole_count slots + 1 = hole_count-set slots number.0 None within in
    let was : emptiness (get_or slots number.0 None) ≡ 0 = emptiness_live (get_or slots number.0 None) live in
    record {
      counted = omega (arith, sound.counted, counts, was, size);
      empty = λ k d lt.
          elim (cases_lt k (length holes)) as (λ _. slice_get (set slots number.0 None) (get_or (holes ++ number ∷ []) k d).0 ≡ Some None) [
            | inl old ↦
                let hole : slice_get slots (get_or holes k d).0 ≡ Some None = sound.empty k d old in
                subst (λ i. slice_get (set slots number.0 None) i ≡ Some None) (sym (number_left holes number d k old))
                (hole_kept slots number.0 (get_or holes k d).0 None (live_apart slots number.0 (get_or holes k d).0 live hole) hole)
            | inr last ↦
                subst (λ i. slice_get (set slots number.0 None) i ≡ Some None) (sym (number_last holes number d k (omega arith)))
                (hole_made slots number.0 within)
          ];
      apart = λ j k d below lt same.
          elim (cases_lt k (length holes)) as (λ _. ⊥) [
            | inl old ↦ sound.apart j k d below old (sym (number_left holes number d j (omega arith)) ∙ same ∙ number_left holes number d k old)
            | inr last ↦
                live_apart slots number.0 (get_or holes j d).0 live (sound.empty j d (omega arith))
                (sym (number_left holes number d j (omega arith)) ∙ same ∙ number_last holes number d k (omega arith))
          ];
      roomy = omega (arith, sound.roomy, length-set slots number.0 no_version);
      numbered = omega (arith, sound.numbered, length-set slots number.0 no_version);
    }

-- a slot with a version is emptied
pub emptied : (slots slots' : Slots) (holes holes' : List VersionNo) (number : VersionNo) (room room' : ℕ) → room ≤ room' → is_some (get_or slots number.0 None) ≡ true → set slots number.0 None ≡ slots' → holes ++ number ∷ [] ≡ holes' → IsChainSound slots holes room → IsChainSound slots' holes' room'
emptied slots slots' holes holes' number room room' larger live is stacked sound =
    subst (λ (s : Slots). IsChainSound s holes' room') is
    (subst (λ (h : List VersionNo). IsChainSound (set slots number.0 None) h room') stacked (emptied_last slots holes number room room' larger live sound))

grown_last : (slots : Slots) (holes : List VersionNo) (number : VersionNo) (room room' : ℕ) → number.0 ≡ length slots → length slots < room' → length slots < 2 ^ 32 → IsChainSound slots holes room → IsChainSound (slots ++ None ∷ []) (holes ++ number ∷ []) room'
grown_last slots holes number room room' is roomy numbered sound =
    let size : length (holes ++ number ∷ []) ≡ length holes + 1 = length-last holes number in
    let longer : length (slots ++ None ∷ []) ≡ length slots + 1 = length-last slots None in
    let counts : hole_count (slots ++ None ∷ []) ≡ hole_count slots + 1 = sum_by-append emptiness slots (None ∷ []) in
    record {
      counted = omega (arith, sound.counted, counts, size);
      empty = λ k d lt.
          elim (cases_lt k (length holes)) as (λ _. slice_get (slots ++ None ∷ []) (get_or (holes ++ number ∷ []) k d).0 ≡ Some None) [
            | inl old ↦
                let hole : slice_get slots (get_or holes k d).0 ≡ Some None = sound.empty k d old in
                let there : (get_or holes k d).0 < length slots = slice_get_within slots (get_or holes k d).0 None hole in
                subst (λ i. slice_get (slots ++ None ∷ []) i ≡ Some None) (sym (number_left holes number d k old))
                (slice_get-get_or (slots ++ None ∷ []) (get_or holes k d).0 None (omega arith)
                ∙ ap Some (get_or_append_left slots (None ∷ []) None (get_or holes k d).0 there ∙ get_or_from_slice_get slots (get_or holes k d).0 None None hole))
            | inr last ↦
                subst (λ i. slice_get (slots ++ None ∷ []) i ≡ Some None) (sym (number_last holes number d k (omega arith) ∙ is))
                (slice_get-get_or (slots ++ None ∷ []) (length slots) None (omega arith) ∙ ap Some (get_or-append_seam slots None [] None))
          ];
      apart = λ j k d below lt same.
          elim (cases_lt k (length holes)) as (λ _. ⊥) [
            | inl old ↦ sound.apart j k d below old (sym (number_left holes number d j (omega arith)) ∙ same ∙ number_left holes number d k old)
            | inr last ↦
                let there : (get_or holes j d).0 < length slots = slice_get_within slots (get_or holes j d).0 None (sound.empty j d (omega arith)) in
                let met : (get_or holes j d).0 ≡ length slots = sym (number_left holes number d j (omega arith)) ∙ same ∙ number_last holes number d k (omega arith) ∙ is in
                absurd (omega (arith, there, met))
          ];
      roomy = omega arith;
      numbered = omega arith;
    }

-- an empty slot more
pub grown : (slots slots' : Slots) (holes holes' : List VersionNo) (number : VersionNo) (room room' : ℕ) → number.0 ≡ length slots → length slots < room' → length slots < 2 ^ 32 → slots' ≡ slots ++ None ∷ [] → holes' ≡ holes ++ number ∷ [] → IsChainSound slots holes room → IsChainSound slots' holes' room'
grown slots slots' holes holes' number room room' at roomy numbered is stacked sound =
    subst (λ (s : Slots). IsChainSound s holes' room') (sym is)
    (subst (λ (h : List VersionNo). IsChainSound (slots ++ None ∷ []) h room') (sym stacked) (grown_last slots holes number room room' at roomy numbered sound))

-- a version is replaced by another
pub changed : (slots : Slots) (holes : List VersionNo) (i : ℕ) (version : Version) (room : ℕ) → is_some (get_or slots i None) ≡ true → IsChainSound slots holes room → IsChainSound (set slots i (Some version)) holes room
changed slots holes i version room live sound =
    let within : i < length slots = live_within slots i live in
    let counts : hole_count (set slots i (Some version)) + emptiness (get_or slots i None) ≡ hole_count slots + 0 = hole_count-set slots i (Some version) within in
    let was : emptiness (get_or slots i None) ≡ 0 = emptiness_live (get_or slots i None) live in
    record {
      counted = omega (arith, sound.counted, counts, was);
      empty = λ k d lt.
          hole_kept slots i (get_or holes k d).0 (Some version) (live_apart slots i (get_or holes k d).0 live (sound.empty k d lt)) (sound.empty k d lt);
      apart = sound.apart;
      roomy = omega (arith, sound.roomy, length-set slots i (Some version));
      numbered = omega (arith, sound.numbered, length-set slots i (Some version));
    }

-- what the contracts require of a number holds of the slots inside
pub live_inside : (slots seen : Slots) (i j : ℕ) → slots ≡ seen → j ≡ i → is_some (get_or seen i None) ≡ true → is_some (get_or slots j None) ≡ true
live_inside slots seen i j is at live = ap (λ (k : ℕ). is_some (get_or slots k None)) at ∙ ap (λ (s : Slots). is_some (get_or s i None)) is ∙ live

-- a version at the end stands in the slot that was made for it
pub pushed : (slots slots' seen : Slots) (i : ℕ) (version : Version) → slots ≡ seen → hole_count seen ≡ 0 → i ≡ length slots → slots' ≡ slots ++ Some version ∷ [] → slots' ≡ set (with_room seen) i (Some version)
pushed slots slots' seen i version is full at grown =
    grown ∙ ap (λ (s : Slots). s ++ Some version ∷ []) is
    ∙ sym (set-append_seam seen None [] (Some version))
    ∙ ap (λ (s : Slots). set (seen ++ None ∷ []) (length s) (Some version)) (sym is)
    ∙ ap (λ (k : ℕ). set (seen ++ None ∷ []) k (Some version)) (sym at)
    ∙ ap (λ (n : ℕ). set (cond (eqb n 0) (seen ++ None ∷ []) seen) i (Some version)) (sym full)

-- an empty slot at the end is one
pub last_empty : (slots slots' : Slots) → slots' ≡ slots ++ None ∷ [] → 0 < hole_count slots'
last_empty slots slots' is =
    let counts : hole_count slots' ≡ hole_count slots + 1 = ap (λ (s : Slots). hole_count s) is ∙ sum_by-append emptiness slots (None ∷ []) in
    omega (arith, counts)
