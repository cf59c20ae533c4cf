use Rattle.std.proofs.Common.{◌≡◌, ◌≤◌, ◌<◌, ℕ, sym, ap, ◌∙◌, subst, refl, arith, rules}
use mathlib.Core.Option.{none}
use Rattle.atomic_table.specs.Table.{step}
use Rattle.mvo_marks.proofs.Kept.{begins, splits, sees_durable, sees_closed, raises, publishes}
use Rattle.mvo_marks.proofs.marks.Marks.raise_closed.Goals as goal

pub fetch_max-requires : goal.fetch_max-requires
fetch_max-requires c = (ap (λ p. p.marks) c.seat.view_is ∙ (c.requires ∙ sym c.self.view_is), omega (arith, c.self.invariant), raises _ _ _ (step 0 0 _ 0 none))
