use Rattle.std.proofs.Common.{ℕ, Option, ap, ◌∙◌, sym, subst}
use Rattle.std.specs.Option.{option_map, unwrap_or}
use Rattle.std.specs.FinMap.{get}
use Rattle.mvo_places.specs.Places.{PlaceTable, number_of, AreSmall}
use Rattle.mvo_places.specs.Fixed.{numbers_over}
use Rattle.mvo_places.proofs.Placing.{get_number, small_places}
use Rattle.mvo_places.proofs.Over.{get-over}
use Rattle.mvo_places.proofs.places.Places.number.Goals as goal

pub returns-in-Some-clause-number : goal.returns-in-Some-clause-number
returns-in-Some-clause-number c =
    ap (λ (o : Option (Option ℕ)). unwrap_or o (get c.self.inside.heads.numbers c.args.key)) c.in-Some.ensures
    ∙ sym (get-over c.self.inside.fixed c.self.inside.heads.numbers c.args.key)
    ∙ get_number (numbers_over c.self.inside.fixed c.self.inside.heads.numbers) c.args.key
    ∙ ap (λ (t : PlaceTable). option_map number_of (get t.at c.args.key)) c.self.view_is

pub returns-in-None-clause-number : goal.returns-in-None-clause-number
returns-in-None-clause-number c =
    c.get-in-None.ensures
    ∙ ap (λ (o : Option (Option ℕ)). unwrap_or o (get c.self.inside.heads.numbers c.args.key)) c.in-None.ensures
    ∙ sym (get-over c.self.inside.fixed c.self.inside.heads.numbers c.args.key)
    ∙ get_number (numbers_over c.self.inside.fixed c.self.inside.heads.numbers) c.args.key
    ∙ ap (λ (t : PlaceTable). option_map number_of (get t.at c.args.key)) c.self.view_is

pub returns-in-Some-clause-small : goal.returns-in-Some-clause-small
returns-in-Some-clause-small c = subst (λ (t : PlaceTable). AreSmall t.at) c.self.view_is (small_places (numbers_over c.self.inside.fixed c.self.inside.heads.numbers))

pub returns-in-None-clause-small : goal.returns-in-None-clause-small
returns-in-None-clause-small c = subst (λ (t : PlaceTable). AreSmall t.at) c.self.view_is (small_places (numbers_over c.self.inside.fixed c.self.inside.heads.numbers))
