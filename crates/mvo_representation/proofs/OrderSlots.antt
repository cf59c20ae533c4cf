-- The slots where one has changed.
use Rattle.std.proofs.Common.{◌≡◌, ℕ, ◌<◌, suc, zero, Bool, true, false, cond, length, [], ◌∷◌, ◌++◌, Option, None, Some, refl, sym, ap, ◌∙◌, subst, inl, inr}
use Rattle.std.specs.Prelude.{◌==◌, slice_index_or, slice_set}
use Rattle.std.specs.Option.{option_map, unwrap_or}
use Rattle.std.proofs.lemmas.Bool.{cases_lt}
use Rattle.std.proofs.lemmas.List.{get_or-set_same, get_or-set_other}
use Rattle.std.proofs.lemmas.Option.{slice_get_past, slice_get_within, get_or_from_slice_get, unwrap_or-slice_get}
use Rattle.mvo_chain.specs.declared.version.Version.{Version}
use Rattle.mvo_chain.specs.Slots.{Slots, hole_count, with_room}
use Rattle.mvo_representation.specs.OrderLaws.{HaveNow, AddedIsNow, ChangedIsNow}
use Rattle.mvo_representation.proofs.OrderLists.{no_version}

in_range : (slots : Slots) (n : ℕ) (v : Version) → slice_index_or slots n None ≡ Some v → n < length slots
in_range slots n v e = elim (cases_lt n (length slots)) [
  | inl lt ↦ lt
  | inr le ↦ absurd (no_version v (sym (sym (unwrap_or-slice_get slots n None) ∙ ap (λ (o : Option (Option Version)). unwrap_or o None) (slice_get_past slots n le)) ∙ e))
]

pub have_now : (slots slots' : Slots) (n : ℕ) (v : Version) → n < length slots → ((m : ℕ) → slice_index_or slots m None ≡ slice_index_or slots' m None) → HaveNow slots' (slice_set slots n (Some v)) n v
have_now slots slots' n v lt same = record { others = λ m other. get_or-set_other slots n m.0 (Some v) None other ∙ same m.0; here = get_or-set_same slots n (Some v) None lt }

more_room : (slots : Slots) (m : ℕ) → slice_index_or (slots ++ None ∷ []) m None ≡ slice_index_or slots m None
more_room [] zero = refl
more_room [] (suc m) = refl
more_room (o ∷ ss) zero = refl
more_room (o ∷ ss) (suc m) = more_room ss m

pub room_same : (slots : Slots) (m : ℕ) → slice_index_or (with_room slots) m None ≡ slice_index_or slots m None
room_same slots m = go (hole_count slots == 0)
  where
    go : (b : Bool) → slice_index_or (cond b (slots ++ None ∷ []) slots) m None ≡ slice_index_or slots m None
    go true = more_room slots m
    go false = refl

pub added_is_now : AddedIsNow
added_is_now slots n v hole = (
  sym (room_same slots n.0) ∙ get_or_from_slice_get (with_room slots) n.0 None None hole,
  have_now (with_room slots) slots n.0 v (slice_get_within (with_room slots) n.0 None hole) (room_same slots),
)

pub changed_is_now : ChangedIsNow
changed_is_now slots n v change e = subst (λ (o : Option Version). HaveNow slots (slice_set slots n.0 o) n.0 (change v)) (sym (ap (option_map change) e)) (have_now slots slots n.0 (change v) (in_range slots n.0 v e) (λ m. refl))
