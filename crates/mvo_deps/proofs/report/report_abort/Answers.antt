use Rattle.mvo_deps.proofs.Reported.{kept_abort}
use Rattle.mvo_deps.proofs.report.report_abort.Goals as goal

pub returns-clause-graph : goal.returns-clause-graph
returns-clause-graph g c = λ before aborted unended is h. kept_abort before c.args.table.now c.report.new.table c.args.on.id aborted unended is c.report.ensures h
