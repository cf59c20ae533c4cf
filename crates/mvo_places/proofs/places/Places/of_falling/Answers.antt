use Rattle.std.proofs.Common.{◌∙◌, ap}
use Rattle.std.specs.FinMap.{from_entries}
use Rattle.mvo_types.specs.Keys.{key_cmp}
use Rattle.mvo_hash.specs.Table.{KeyNumbers}
use Rattle.mvo_places.specs.Places.{numbers_as_places}
use Rattle.mvo_places.specs.Falling.{PlaceList}
use Rattle.mvo_places.specs.Fixed.{numbers_over}
use Rattle.mvo_places.proofs.Over.{placed-live}
use Rattle.mvo_places.proofs.places.Places.of_falling.Goals as goal

pub returns-clause-at : goal.returns-clause-at
returns-clause-at c =
    ap (λ (m : KeyNumbers). numbers_as_places (numbers_over c.into_fixed.result m)) c.new.ensures.numbers
    ∙ placed-live c.into_fixed.result c.into_fixed.ensures.live
    ∙ ap (λ (es : PlaceList). from_entries {R = key_cmp} es) c.into_fixed.ensures.places
