use Rattle.std.proofs.Common.{sym, ap, subst, ◌∙◌}
use Rattle.std.specs.Prelude.{MatchOption, nat_lt}
use Rattle.mvo_deps.specs.Waiting.{HasNoneOpen, IsLeastOpen}
use Rattle.mvo_deps.proofs.Counter.{waits_by_counter}
use Rattle.mvo_deps.proofs.waiting.waiting_for.Goals as goal

pub returns-clause-counter : goal.returns-clause-counter
returns-clause-counter g c = λ aborted tx h is.
    waits_by_counter c.args.table.now tx c.least_open.result aborted
    (subst (λ ids. MatchOption c.least_open.result (HasNoneOpen c.args.table.now ids) (IsLeastOpen c.args.table.now ids)) (c.on.ensures ∙ ap (λ d. d.on) (sym is)) c.least_open.ensures) h
    ∙ ap (λ d. nat_lt 0 d.unsettled) is
