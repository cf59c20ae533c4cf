use Rattle.std.proofs.Common.{IsSome, ◌+◌, sym, ap, ◌∙◌, subst}
use Rattle.std.specs.FinMap as fin
use Rattle.mvo_versions.specs.Runs.{entered}
use Rattle.mvo_versions.proofs.Entries.{has_put, counted_up}
use Rattle.mvo_versions.proofs.runs.enter.Goals as goal

pub set_count-requires : goal.set_count-requires
set_count-requires c = subst (λ m. IsSome (fin.get m c.args.place)) (sym c.in_ok-runs.ensures.ok) (has_put c.args.order.now c.args.place 1)

pub returns-in-Some-clause-ok : goal.returns-in-Some-clause-ok
returns-in-Some-clause-ok c =
    c.set_count.ensures
    ∙ ap (λ m. fin.insert m c.args.place (c.in-Some.runs + 1)) c.in_ok-runs.ensures.ok
    ∙ counted_up c.args.order.now c.args.place c.in-Some.runs (sym c.in_ok-runs.ensures.before ∙ c.in-Some.is)
    ∙ ap (λ joins. entered joins c.args.order.now c.args.place) (sym c.if-joins.false)
