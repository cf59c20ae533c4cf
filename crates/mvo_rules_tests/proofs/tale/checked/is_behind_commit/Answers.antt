use Rattle.std.proofs.Common.{sym, ap, arith}
use Rattle.std.specs.Prelude.{is_some}
use Rattle.mvo_rules_tests.proofs.tale.Loops.{behind_commit}
use Rattle.mvo_rules_tests.proofs.tale.checked.is_behind_commit.Goals as goal

pub returns-in-Some : goal.returns-in-Some
returns-in-Some c = λ _. behind_commit c.args.tale.now c.args.place (omega arith) (ap is_some (sym c.in-Some.ensures))
