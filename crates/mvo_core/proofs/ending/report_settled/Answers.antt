use Rattle.mvo_deps.specs.Data.{after_dependency_commit}
use Rattle.mvo_deps.proofs.Reported.{kept_commit}
use Rattle.mvo_core.proofs.Alone.{nobody_told}
use Rattle.mvo_core.proofs.ending.report_settled.Goals as goal

pub returns-else-has_dependents-clause-told : goal.returns-else-has_dependents-clause-told
returns-else-has_dependents-clause-told c = nobody_told after_dependency_commit c.args.table.now c.args.tx.id (c.requires c.if-has_dependents.false)

pub returns-else-has_dependents-clause-graph : goal.returns-else-has_dependents-clause-graph
returns-else-has_dependents-clause-graph c = λ before end aborted preparing is h.
    kept_commit before c.args.table.now c.args.table.now c.args.tx.id end aborted preparing is (nobody_told after_dependency_commit c.args.table.now c.args.tx.id (c.requires c.if-has_dependents.false)) h
