use Rattle.std.proofs.Common.{◌≡◌, drop}
use Rattle.std.specs.FinMap as map
use Rattle.mvo_model.specs.Answers.{rows_after_transactions}
use Rattle.mvo_stops.specs.Promise.{up_to, with_rows}
use Rattle.mvo_stops.proofs.judge.rows_of_commits.Given as goal

abbrev pub invariant-loop-commit : goal.invariant-loop-commit
invariant-loop-commit l =
    rows_after_transactions (up_to l.mark.0 (drop l.commit-index l.commits)) l.serial
    ≡ rows_after_transactions (up_to l.mark.0 l.commits) (with_rows l.recorded.rows.items map.empty)
