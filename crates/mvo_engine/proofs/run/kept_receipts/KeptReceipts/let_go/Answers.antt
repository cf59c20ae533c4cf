use Rattle.std.proofs.Common.{◌+◌, refl, true}
use Rattle.mvo_engine.specs.run.Receiving.{HasLetGoFirst}
use Rattle.mvo_engine.proofs.Forgetting.{one_more_gone}
use Rattle.mvo_engine.proofs.run.kept_receipts.KeptReceipts.let_go.Goals as goal

pub loop-n-preserved : goal.loop-n-preserved
loop-n-preserved c =
    let l = c.loop-n in
    let new = c.let_go_first.new.self.list in
    let h : HasLetGoFirst c.args.start.0 l.self.list true new = c.if-not-let_go_first.ensures in
    one_more_gone c.args.start.0 l.n (l.n + 1) c.args.self.now.list l.self.list new h.0 l.invariant h.1 h.2 refl
