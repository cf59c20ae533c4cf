use Rattle.std.proofs.Common.{sym, ◌∙◌}
use Rattle.mvo_tale.proofs.Grouping.{end_behind_more}
use Rattle.mvo_tale.proofs.gathering.last_end.Goals as goal

pub loop-commit-preserved : goal.loop-commit-preserved
loop-commit-preserved c =
    c.end_of-last.ensures
    ∙ sym (end_behind_more c.args.prev.0 c.args.records.now c.loop-commit.commit-index c.commit-item.result c.loop-commit-test.true c.commit-item.is)
