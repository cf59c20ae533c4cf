use Rattle.std.proofs.Common.{◌≡◌, ◌≤◌, ◌<◌, ℕ, sym, ap, ◌∙◌, subst, refl, arith, rules}
use mathlib.Core.Option.{none}
use Rattle.atomic_table.specs.Table.{step}
use Rattle.mvo_marks.proofs.Kept.{begins, splits, sees_durable, sees_closed, raises, publishes}
use Rattle.mvo_marks.proofs.marks.Marks.poll_durable.Goals as goal

pub load-durable-requires : goal.load-durable-requires
load-durable-requires c = (ap (λ p. p.marks) c.seat.view_is ∙ (c.requires ∙ sym c.self.view_is), omega (arith, c.self.invariant), sees_durable _ _ _ (step 0 0 0 0 none))
