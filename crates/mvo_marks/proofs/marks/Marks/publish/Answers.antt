use Rattle.std.proofs.Common.{◌≡◌, ◌≤◌, ◌<◌, ℕ, sym, ap, ◌∙◌, subst, refl, arith, rules}
use mathlib.Core.Option.{none}
use Rattle.atomic_table.specs.Table.{step}
use Rattle.mvo_marks.proofs.Kept.{begins, splits, sees_durable, sees_closed, raises, publishes}
use Rattle.mvo_marks.proofs.marks.Marks.publish.Goals as goal

pub fetch_max-requires : goal.fetch_max-requires
fetch_max-requires c = (ap (λ p. p.marks) c.publisher.view_is ∙ (c.requires ∙ sym c.self.view_is), omega (arith, c.self.invariant), raises _ _ _ (step 0 0 _ 0 none))

pub fetch_max-requires-2 : goal.fetch_max-requires-2
fetch_max-requires-2 c =
    let first = c.fetch_max.ensures in
    let view = ap (λ m. m.0) first.2.0 in
    let closed = ap (λ v. v.closed) view in
    (first.0 ∙ (ap (λ p. p.marks) c.publisher.view_is ∙ (c.requires ∙ sym c.self.view_is)), omega (arith, c.self.invariant), publishes _ _ _ (step 0 1 c.mark-mark.result.0 0 none) (ap (λ v. v.publishes) view ∙ c.publisher.invariant.1) (omega (arith, closed)))
