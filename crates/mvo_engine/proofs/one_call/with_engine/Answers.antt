use Rattle.std.proofs.Common.{Err}
use Rattle.mvo_store.specs.Seen.{disk_of}
use Rattle.mvo_engine.specs.OneCall.HasNotRun.{NotWorked}
use Rattle.mvo_engine.proofs.OneCall.{has_run}
use Rattle.mvo_engine.proofs.one_call.with_engine.Goals as goal

pub returns-in-Err-result-clause-err : goal.returns-in-Err-result-clause-err
returns-in-Err-result-clause-err g c =
    let run = c.run-result in
    NotWorked (has_run g.D.Disk c.args.disk (disk_of c.in-Ok.fresh.store) (g.P.Program.comes_to c.args.program.now) run.result.0 (Err c.in-Err-result.refusal) run.result.1 c.in-Ok.ensures.content c.in-Ok.ensures.any_moment run.ensures c.in-Err-result.is)
