use Rattle.std.proofs.Common.{true}
use Rattle.mvo_load.proofs.Unchanged.{was_read, then_misread}
use Rattle.mvo_store.proofs.ReadOn.{end_misread}
use Rattle.mvo_store.proofs.merge.reading.MergeReading.turn_right.Goals as goal

pub returns-in-Err-end-clause-read : goal.returns-in-Err-end-clause-read
returns-in-Err-end-clause-read g c =
    let broken = end_misread true c.args.self.now c.requires.read c.in-Err-end.e (λ rest. c.in-Err-end.ensures c.args.self.now.so_far rest c.requires.whole) in
    then_misread g.D.Disk _ c.args.disk.now c.begin_pair.new.disk c.in-Err-end.e broken (was_read g.D.Disk c.args.disk.now c.begin_pair.new.disk c.in-Ok.reading c.in-Ok.ensures.read)
