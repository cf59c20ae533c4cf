use Rattle.mvo_deps.proofs.Reported.{kept_commit}
use Rattle.mvo_deps.proofs.report.report_commit.Goals as goal

pub returns-clause-graph : goal.returns-clause-graph
returns-clause-graph g c = λ before end aborted prep is h. kept_commit before c.args.table.now c.report.new.table c.args.on.id end aborted prep is c.report.ensures h
