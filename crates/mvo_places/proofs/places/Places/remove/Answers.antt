use Rattle.std.proofs.Common.{None, ap, ◌∙◌, refl}
use Rattle.std.specs.FinMap.{remove}
use Rattle.mvo_places.specs.Places.{PlaceTable, numbers_as_places}
use Rattle.mvo_places.specs.Fixed.{numbers_over}
use Rattle.mvo_places.proofs.Placing.{placed-remove}
use Rattle.mvo_places.proofs.Over.{after-fixed, after-later}
use Rattle.mvo_places.proofs.places.Places.remove.Goals as goal

pub returns-then-not-set-clause-gone : goal.returns-then-not-set-clause-gone
returns-then-not-set-clause-gone c =
    ap numbers_as_places (after-later c.self.inside.fixed c.set.new.self c.args.key None c.if-not-set.ensures.set c.if-not-set.ensures.stands.1 c.self.inside.heads.numbers c.remove.new.self.numbers c.remove.ensures.gone)
    ∙ placed-remove (numbers_over c.self.inside.fixed c.self.inside.heads.numbers) c.args.key
    ∙ ap (λ (t : PlaceTable). remove t.at c.args.key) c.self.view_is

pub returns-else-not-set-clause-gone : goal.returns-else-not-set-clause-gone
returns-else-not-set-clause-gone c =
    ap numbers_as_places (after-fixed c.self.inside.fixed c.set.new.self c.self.inside.heads.numbers c.args.key None c.if-not-set.ensures.set (c.if-not-set.ensures.stands.0 refl))
    ∙ placed-remove (numbers_over c.self.inside.fixed c.self.inside.heads.numbers) c.args.key
    ∙ ap (λ (t : PlaceTable). remove t.at c.args.key) c.self.view_is
