use Rattle.std.proofs.Common.{ℕ, Some, sym, ap, subst, ◌∙◌, get_or}
use Rattle.std.specs.Prelude.{Option}
use Rattle.mvo_types.specs.declared.row.RowKey.{RowKey}
use Rattle.mvo_places.specs.Fixed.{Numbers}
use Rattle.mvo_places.specs.Falling.{Falls}
use Rattle.mvo_places.proofs.Falls.{falls_apart, found_at}
use Rattle.mvo_places.proofs.fixed_keys.FixedKeys.get.Goals as goal

pub returns-in-Some : goal.returns-in-Some
returns-in-Some c =
    let falls : Falls c.args.self.now = subst (λ (xs : Numbers). Falls xs) c.self.view_is c.self.invariant in
    let found = found_at c.args.self.now c.args.key c.in-Some.at c.index.result.now (falls_apart c.args.self.now falls) c.in-Some.ensures.within (c.in-Some.ensures.at c.index.result.now) in
    let is = c.index.ensures ∙ ap (λ (xs : Numbers). get_or xs c.in-Some.at c.index.result.now) c.self.view_is in
    ap (λ (n : Option ℕ). Some n) (c.number.ensures ∙ ap (λ (e : RowKey × Option ℕ). e.1) is) ∙ sym found
