use Rattle.std.proofs.Common.{◌∙◌}
use Rattle.mvo_load.proofs.Olds.{by_header}
use Rattle.mvo_load.proofs.old.is_old_on.Goals as goal

pub returns-in-Ok-clause-is : goal.returns-in-Ok-clause-is
returns-in-Ok-clause-is g c = λ honest.
    by_header c.is_of_first.result c.deref.result.now (g.D.Disk.content c.args.disk.now c.args.file) (c.deref.ensures.value ∙ c.in-Ok.ensures.bytes honest) c.is_of_first.ensures
