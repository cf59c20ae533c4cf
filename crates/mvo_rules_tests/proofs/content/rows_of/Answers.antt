use Rattle.mvo_model.proofs.Scans.{only_scan}
use Rattle.mvo_rules_tests.proofs.content.rows_of.Goals as goal

pub returns-in-Ok : goal.returns-in-Ok
returns-in-Ok c = only_scan c.args.others.now c.args.table c.args.lo c.args.hi c.in-Ok.rows.items c.in-Ok.ensures
