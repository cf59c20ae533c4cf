use Rattle.std.proofs.Common.{◌≡◌, ◌≤◌, ◌<◌, ℕ, sym, ap, ◌∙◌, subst, refl, arith, rules}
use mathlib.Core.Option.{none}
use Rattle.atomic_table.specs.Table.{step}
use Rattle.mvo_marks.proofs.Kept.{begins, splits, sees_durable, sees_closed, raises, publishes}
use Rattle.mvo_marks.proofs.marks.Marks.new.Goals as goal

pub of_words-requires : goal.of_words-requires
of_words-requires c = begins c.args.start.0

pub split_seat-other-requires : goal.split_seat-other-requires
split_seat-other-requires c =
    let e = c.in_ok-table.ensures in
    (e.2, omega (arith, e.0), splits _ _)
