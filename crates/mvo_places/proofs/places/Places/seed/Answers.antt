use Rattle.std.proofs.Common.{subst}
use Rattle.mvo_places.specs.Places.{PlaceTable, AreSmall}
use Rattle.mvo_places.specs.Fixed.{numbers_over}
use Rattle.mvo_places.proofs.Placing.{small_places}
use Rattle.mvo_places.proofs.places.Places.seed.Goals as goal

pub returns : goal.returns
returns c =
    subst (λ (t : PlaceTable). AreSmall t.at) c.self.view_is
    (small_places (numbers_over c.self.inside.fixed c.self.inside.heads.numbers))
