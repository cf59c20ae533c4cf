use Rattle.std.proofs.Common.{◌++◌}
use Rattle.mvo_theory.proofs.Each.{each_append}
use Rattle.mvo_engine.specs.RollingBack.{HasGivenWay}
use Rattle.mvo_engine.proofs.RollingBack.{more_count}
use Rattle.mvo_engine.proofs.engine.Engine.roll_back_older.Goals as goal

pub returns-then-gone-eq0 : goal.returns-then-gone-eq0
returns-then-gone-eq0 g c =
    let before = c.loop.invariant in
    record { ids = before.0; each = before.1; none = c.pass_older-gone.ensures.none c.if-gone-eq0.true; count = before.2 }

pub loop-preserved : goal.loop-preserved
loop-preserved g c =
    let before = c.loop.invariant in
    let more = c.pass_older-gone.ensures in (
      before.0 ++ more.ids,
      each_append (HasGivenWay g.L.Run.opening c.args.stamp.0) before.0 more.ids before.1 more.each,
      more_count c.loop.all c.pass_older-gone.result c.saturating_add-all.result before.0 more.ids before.2 more.count c.saturating_add-all.ensures,
    )
