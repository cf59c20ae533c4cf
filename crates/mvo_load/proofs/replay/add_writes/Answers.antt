use Rattle.std.proofs.Common.{◌∙◌, ◌++◌, List, map, ap}
use Rattle.mvo_types.specs.Write.{Write}
use Rattle.mvo_group.specs.Data.{write_data}
use Rattle.mvo_load.proofs.Replaying.{writes_more, no_writes}
use Rattle.mvo_load.proofs.replay.add_writes.Goals as goal

pub loop-commit-init : goal.loop-commit-init
loop-commit-init c = no_writes (map write_data c.args.writes.now.items)

pub loop-commit-preserved : goal.loop-commit-preserved
loop-commit-preserved c =
    c.in_ok-add_record.ensures
    ∙ ap (λ (l : List Write). l ++ c.in-Some.commit.writes) c.loop-commit.invariant
    ∙ writes_more (map write_data c.args.writes.now.items) c.loop-commit.yielded c.in-Some.commit
