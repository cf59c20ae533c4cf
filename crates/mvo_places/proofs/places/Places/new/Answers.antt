use Rattle.std.proofs.Common.{◌≡◌, ℕ, [], ap, ◌∙◌}
use Rattle.std.specs.FinMap.{empty}
use Rattle.mvo_hash.specs.Table.{KeyNumbers, Table}
use Rattle.mvo_places.specs.Places.{PlaceMap, PlaceTable, numbers_as_places, no_places}
use Rattle.mvo_places.specs.Fixed.{Numbers, numbers_over, table_over}
use Rattle.mvo_places.proofs.Placing.{placed-empty}
use Rattle.mvo_places.proofs.places.Places.new.Goals as goal

abbrev with_room : PlaceMap → ℕ → PlaceTable
with_room at room = record { at = at; room = room }

no_keys : (es : Numbers) (t : Table) → es ≡ [] → t.numbers ≡ empty → t.room ≡ 0 → table_over es t ≡ no_places
no_keys es t nothing none room =
    ap (λ (m : KeyNumbers). with_room (numbers_as_places (numbers_over es m)) t.room) none
    ∙ ap (λ (xs : Numbers). with_room (numbers_as_places (numbers_over xs empty)) t.room) nothing
    ∙ ap (λ (m : PlaceMap). with_room m t.room) placed-empty
    ∙ ap (λ (n : ℕ). with_room no_places.at n) room

pub returns : goal.returns
returns c = no_keys c.new.result c.new-2.result c.new.ensures c.new-2.ensures.numbers c.new-2.ensures.room
