use Rattle.std.proofs.Common.{◌≡◌, None, Some, ap, ◌∙◌, sym, subst, refl}
use Rattle.std.specs.Option.{IsSome}
use Rattle.std.specs.FinMap.{get, insert}
use Rattle.mvo_model.proofs.Partials.{on_err}
use Rattle.mvo_hash.specs.Table.{Table}
use Rattle.mvo_places.specs.Places.{PlaceTable, numbers_as_places, place_numbered}
use Rattle.mvo_places.specs.Fixed.{Numbers, numbers_over, table_over}
use Rattle.mvo_places.proofs.Placing.{placed-insert, place_of-number_of, some_placed, none_placed}
use Rattle.mvo_places.proofs.Over.{after-fixed, after-later, same-fixed, later-at}
use Rattle.mvo_places.proofs.places.Places.put.Goals as goal

pub returns-then-set-clause-ok : goal.returns-then-set-clause-ok
returns-then-set-clause-ok c =
    ap numbers_as_places (after-fixed c.self.inside.fixed c.set.new.self c.self.inside.heads.numbers c.args.key (Some c.as_number-number.result) c.if-set.ensures.set (c.if-set.ensures.stands.0 refl))
    ∙ placed-insert (numbers_over c.self.inside.fixed c.self.inside.heads.numbers) c.args.key c.as_number-number.result
    ∙ ap (insert (numbers_as_places (numbers_over c.self.inside.fixed c.self.inside.heads.numbers)) c.args.key) (ap place_numbered c.as_number-number.ensures ∙ place_of-number_of c.args.place c.requires.number)
    ∙ ap (λ (t : PlaceTable). insert t.at c.args.key c.args.place) c.self.view_is

pub returns-clause-ok : goal.returns-clause-ok
returns-clause-ok c =
    ap numbers_as_places (after-later c.self.inside.fixed c.set.new.self c.args.key (Some c.as_number-number.result) c.if-set.ensures.set c.if-set.ensures.stands.1 c.self.inside.heads.numbers c.put.new.self.numbers c.in_ok-put.ensures.ok)
    ∙ placed-insert (numbers_over c.self.inside.fixed c.self.inside.heads.numbers) c.args.key c.as_number-number.result
    ∙ ap (insert (numbers_as_places (numbers_over c.self.inside.fixed c.self.inside.heads.numbers)) c.args.key) (ap place_numbered c.as_number-number.ensures ∙ place_of-number_of c.args.place c.requires.number)
    ∙ ap (λ (t : PlaceTable). insert t.at c.args.key c.args.place) c.self.view_is

pub returns-clause-again : goal.returns-clause-again
returns-clause-again c some =
    let numbers = numbers_over c.self.inside.fixed c.self.inside.heads.numbers in
    let there : IsSome (get numbers c.args.key) = some_placed numbers c.args.key (subst (λ (t : PlaceTable). IsSome (get t.at c.args.key)) (sym c.self.view_is) some) in
    c.in_ok-put.ensures.again (subst (λ o. IsSome o) (later-at c.self.inside.fixed c.set.new.self c.args.key (Some c.as_number-number.result) c.if-set.ensures.set c.if-set.ensures.stands.1 c.self.inside.heads.numbers) there)
    ∙ ap (λ (t : PlaceTable). t.room) c.self.view_is

pub returns-in_err-put-clause-err : goal.returns-in_err-put-clause-err
returns-in_err-put-clause-err c =
    on_err c.from_residual.result
    (ap (λ (t : Table). table_over c.set.new.self t) c.in_err-put.ensures.err
    ∙ ap (λ (es : Numbers). table_over es c.self.inside.heads) (same-fixed c.self.inside.fixed c.set.new.self c.args.key (Some c.as_number-number.result) c.if-set.ensures.set c.if-set.ensures.stands.1)
    ∙ c.self.view_is)

pub returns-in_err-put-clause-absent : goal.returns-in_err-put-clause-absent
returns-in_err-put-clause-absent c =
    let numbers = numbers_over c.self.inside.fixed c.self.inside.heads.numbers in
    let none : get numbers c.args.key ≡ None = later-at c.self.inside.fixed c.set.new.self c.args.key (Some c.as_number-number.result) c.if-set.ensures.set c.if-set.ensures.stands.1 c.self.inside.heads.numbers ∙ c.in_err-put.ensures.absent in
    on_err c.from_residual.result
    (subst (λ (t : PlaceTable). get t.at c.args.key ≡ None) c.self.view_is (none_placed numbers c.args.key none))
