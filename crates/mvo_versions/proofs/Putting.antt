-- What a put leaves, where all of it was had and where some was refused.
use Rattle.std.proofs.Common.{◌≡◌, ℕ, ◌+◌, ◌<◌, ◌≤◌, ◌^◌, suc, zero, Bool, true, false, cond, [], ◌∷◌, ◌++◌, length, Option, None, Some, IsSome, refl, sym, ap, ◌∙◌, subst, arith, inr}
use Rattle.std.specs.Prelude.{◌==◌, slice_index_or, slice_get, is_none}
use Rattle.std.specs.Option.{option_map}
use Rattle.std.proofs.lemmas.Bool.{true≢false, eqb-true}
use Rattle.std.proofs.lemmas.List.{get_or-set_same, length-set}
use Rattle.std.proofs.lemmas.List.Sums.{sum_by-cons}
use Rattle.mvo_chain.specs.declared.version.Version.{Version}
use Rattle.mvo_chain.specs.declared.version.VersionNo.{VersionNo}
use Rattle.mvo_chain.specs.Slots.{Slots, version_at, with_room, with_slot, hole_count, IsHole}
use Rattle.mvo_hash.specs.Lists.{Lists, numbers_of, is_among, IsNewNumber, IsHeld, IsNewer}
use Rattle.mvo_range.specs.declared.sort_place.SortPlace.{SortPlace}
use Rattle.mvo_range.specs.Place.{PlaceNumbers as Places}
use Rattle.mvo_validate.specs.Entries.{key_at}
use Rattle.mvo_visible.specs.Fronts.{with_new}
use Rattle.mvo_representation.specs.Indexes.{HasNumbers, version_place}
use Rattle.mvo_representation.proofs.Numbers.{numbers_added}
use Rattle.mvo_versions.specs.Data.{VersionsData}
use Rattle.mvo_versions.specs.Changes.{IsRoomed, is_slot_at, is_number_at}
use Rattle.mvo_versions.specs.Runs.{runs_at, runs_entry, passes, one_less, is_newest_at, entered, AreCounted}
use Rattle.mvo_versions.proofs.Counting.{runs_alike, newest_is}
use Rattle.mvo_versions.proofs.Entries.{entered_has, given_back}
use Rattle.mvo_versions.proofs.Indexing.{hole_inside, hole_empty, room_same, room_numbers, emptied_again, empty_fresh, number_among, at_key}
use Rattle.mvo_versions.proofs.Counted.{comes_runs}
use Rattle.mvo_versions.proofs.Going.{with_all}

-- no key has the number yet
pub fresh_number : (slots : Slots) (lists : Lists) (n : VersionNo) → IsHole (with_room slots) n → HasNumbers slots lists → IsNewNumber lists n.0
fresh_number slots lists n hole h = empty_fresh slots lists n.0 h (sym (room_same slots n.0) ∙ hole_empty (with_room slots) n.0 hole)

-- ---- there are no more slots than numbers
one_hole_more : (slots : Slots) → hole_count (None ∷ slots) ≡ hole_count slots + 1
one_hole_more slots = let more = sum_by-cons (λ (o : Option Version). cond (is_none o) 1 0) None slots in omega (arith, more)

last_hole : (slots : Slots) (n : ℕ) → hole_count slots ≡ 0 → slice_get (slots ++ None ∷ []) n ≡ Some None → length slots ≤ n
last_hole [] n e hole = omega arith
last_hole (None ∷ slots) n e hole = absurd (let more : hole_count (None ∷ slots) ≡ hole_count slots + 1 = one_hole_more slots in omega (arith, e, more))
last_hole (Some v ∷ slots) zero e hole = absurd cc
last_hole (Some v ∷ slots) (suc n) e hole = let rest = last_hole slots n e hole in omega (arith, rest)

one_longer : (slots : Slots) → length (slots ++ None ∷ []) ≡ length slots + 1
one_longer [] = refl
one_longer (x ∷ slots) = let rest = one_longer slots in omega (arith, rest)

pub small_room : (slots : Slots) (n : VersionNo) → IsHole (with_room slots) n → n.0 < 2 ^ 32 → length slots ≤ 2 ^ 32 → length (with_room slots) ≤ 2 ^ 32
small_room slots n hole few small = go (hole_count slots == 0) refl hole
  where
    go : (b : Bool) → (hole_count slots == 0) ≡ b → slice_get (cond b (slots ++ None ∷ []) slots) n.0 ≡ Some None → length (cond b (slots ++ None ∷ []) slots) ≤ 2 ^ 32
    go true e there =
        let last = last_hole slots n.0 (eqb-true (hole_count slots) 0 e) there in
        let longer = one_longer slots in
        omega (arith, last, longer, few)
    go false e there = small

-- ---- refused
room_runs : (slots : Slots) (lists : Lists) (q : SortPlace) → runs_at (with_room slots) lists q ≡ runs_at slots lists q
room_runs slots lists q = runs_alike (is_number_at (with_room slots) q) (is_number_at slots q) false (numbers_of lists (key_at q)) (λ m a. ap (is_slot_at q) (room_same slots m))

-- the version was put, and went again
pub undone : (v : VersionsData) (n : VersionNo) (w : Version) (slots : Slots) (lists : Lists) (places : Places) → IsHole (with_room v.slots) n → slots ≡ with_slot (with_slot (with_room v.slots) n (Some w)) n None → lists ≡ v.lists → places ≡ v.places → IsRoomed v (record { slots = slots; lists = lists; places = places })
undone v n w slots lists places hole s l p = record {
  slots = inr (s ∙ emptied_again (with_room v.slots) n.0 w hole);
  lists = l;
  places = p;
}

pub undone_right : (v : VersionsData) (n : VersionNo) (w : Version) (slots : Slots) (lists : Lists) (places : Places) → n.0 < 2 ^ 32 → IsHole (with_room v.slots) n → slots ≡ with_slot (with_slot (with_room v.slots) n (Some w)) n None → lists ≡ v.lists → places ≡ v.places → AreCounted v → AreCounted (record { slots = slots; lists = lists; places = places })
undone_right v n w slots lists places few hole s l p h =
    subst (λ x. AreCounted (with_all x lists places)) (sym (s ∙ emptied_again (with_room v.slots) n.0 w hole))
    (subst (λ x. AreCounted (with_all (with_room v.slots) x places)) (sym l)
    (subst (λ x. AreCounted (with_all (with_room v.slots) v.lists x)) (sym p) (record {
      numbers = room_numbers v.slots v.lists h.numbers;
      runs = λ q. h.runs q ∙ ap runs_entry (sym (room_runs v.slots v.lists q));
      small = small_room v.slots n hole few h.small;
    })))

-- the places are as they were
pub places_back : (v : VersionsData) (joins : Bool) (p : SortPlace) (taken after : Places) → AreCounted v → taken ≡ entered joins v.places p → after ≡ cond joins taken (one_less taken p) → after ≡ v.places
places_back v joins p taken after h t a = a ∙ ap (λ x. cond joins x (one_less x p)) t ∙ given_back joins v.places (runs_at v.slots v.lists) p h.runs

-- ---- put
pub put_right : (v : VersionsData) (n : VersionNo) (w : Version) (joins : Bool) (p : SortPlace) (slots : Slots) (lists : Lists) (places : Places) → n.0 < 2 ^ 32 → IsHole (with_room v.slots) n → slots ≡ with_slot (with_room v.slots) n (Some w) → lists ≡ with_new v.lists w.row.key n.0 → p ≡ version_place w → joins ≡ is_newest_at v.slots v.lists p → places ≡ entered joins v.places p → AreCounted v → AreCounted (record { slots = slots; lists = lists; places = places })
put_right v n w joins p slots lists places few hole s l pi j ps h =
    subst (λ x. AreCounted (with_all x lists places)) (sym s)
    (subst (λ x. AreCounted (with_all (with_slot (with_room v.slots) n (Some w)) x places)) (sym l)
    (subst (λ x. AreCounted (with_all (with_slot (with_room v.slots) n (Some w)) (with_new v.lists w.row.key n.0) x)) (sym places_are) (record {
      numbers = numbers_added (with_room v.slots) v.lists n.0 w (hole_inside (with_room v.slots) n.0 hole) (hole_empty (with_room v.slots) n.0 hole) (room_numbers v.slots v.lists h.numbers);
      runs = λ q. entered_has newest v.places (runs_at v.slots v.lists) (version_place w) h.runs q ∙ ap runs_entry (sym (comes_runs v.slots v.lists n w q hole h.numbers));
      small = subst (λ m. m ≤ 2 ^ 32) (sym (length-set (with_room v.slots) n.0 (Some w))) (small_room v.slots n hole few h.small);
    })))
  where
    newest : Bool
    newest = is_newest_at v.slots v.lists (version_place w)

    places_are : places ≡ entered newest v.places (version_place w)
    places_are = ps ∙ ap (λ x. entered x v.places p) (j ∙ ap (is_newest_at v.slots v.lists) pi) ∙ ap (entered newest v.places) pi

-- it is there
pub put_there : (slots new : Slots) (n : VersionNo) (w : Version) → IsHole (with_room slots) n → new ≡ with_slot (with_room slots) n (Some w) → IsSome (version_at new n)
put_there slots new n w hole e = subst (λ o. IsSome o) (sym (ap (λ ss. slice_index_or ss n.0 None) e ∙ get_or-set_same (with_room slots) n.0 (Some w) None (hole_inside (with_room slots) n.0 hole))) refl

-- ---- whether a version joins the newest
-- one that stands at the place is among the numbers of its key
pub like_among : (slots : Slots) (lists : Lists) (p : SortPlace) (n : VersionNo) → HasNumbers slots lists → is_number_at slots p n.0 ≡ true → is_among n.0 (numbers_of lists (key_at p)) ≡ true
like_among slots lists p n h t = go (slice_index_or slots n.0 None) refl t
  where
    go : (o : Option Version) → slice_index_or slots n.0 None ≡ o → is_slot_at p o ≡ true → is_among n.0 (numbers_of lists (key_at p)) ≡ true
    go None e f = absurd (true≢false (sym f))
    go (Some v) e f = ap (λ k. is_among n.0 (numbers_of lists k)) (sym (at_key p v f)) ∙ number_among slots lists n.0 v h e

pub like_held : (slots : Slots) (lists : Lists) (p : SortPlace) (n : VersionNo) → HasNumbers slots lists → is_number_at slots p n.0 ≡ true → IsHeld lists n.0
like_held slots lists p n h t = (key_at p, like_among slots lists p n h t)

-- it is the newest where none is newer
pub joins_like : (slots : Slots) (lists : Lists) (p : SortPlace) (n : VersionNo) (newer : Option VersionNo) → HasNumbers slots lists → is_number_at slots p n.0 ≡ true → IsNewer lists n.0 (option_map (λ (m : VersionNo). m.0) newer) → is_none newer ≡ true → true ≡ is_newest_at slots lists p
joins_like slots lists p n newer h t front none =
    let a = like_among slots lists p n h t in
    sym (ap (passes (is_number_at slots p)) (newest_is n.0 (numbers_of lists (key_at p)) a (sym (front.at (key_at p) a) ∙ no_number newer none)) ∙ t)
  where
    no_number : (o : Option VersionNo) → is_none o ≡ true → option_map (λ (m : VersionNo). m.0) o ≡ None
    no_number None q = refl
    no_number (Some m) q = absurd (true≢false (sym q))
