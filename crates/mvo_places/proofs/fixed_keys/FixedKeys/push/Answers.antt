use Rattle.std.proofs.Common.{ℕ, ◌++◌, ◌∷◌, [], Some, Option, sym, subst, ap, ◌∙◌, rules}
use Rattle.mvo_types.specs.declared.row.RowKey.{RowKey}
use Rattle.mvo_places.specs.Fixed.{Numbers}
use Rattle.mvo_places.specs.Falling.{Falls, MayStandLast}
use Rattle.mvo_places.proofs.Falls.{falls_push}
use Rattle.mvo_places.proofs.fixed_keys.FixedKeys.push.Goals as goal

pushed : goal.invariant_of-self-2
pushed c =
    let may : MayStandLast c.args.self.now c.args.key = c.may_follow.ensures.0 (search (rules, c.if-not-may_follow.false)) in
    let here : MayStandLast c.self.inside.keys.items c.args.key = subst (λ (xs : Numbers). MayStandLast xs c.args.key) (sym c.self.view_is) may in
    subst (λ (xs : Numbers). Falls xs)
    (sym (c.in_ok-push.ensures.items ∙ ap (λ (e : RowKey × Option ℕ). c.self.inside.keys.items ++ e ∷ []) c.new.ensures))
    (falls_push c.self.inside.keys.items c.args.key (Some c.args.number) c.self.invariant here.1)

pub invariant_of-self-2 : goal.invariant_of-self-2
invariant_of-self-2 = pushed

pub returns-clause-falls : goal.returns-clause-falls
returns-clause-falls = pushed
