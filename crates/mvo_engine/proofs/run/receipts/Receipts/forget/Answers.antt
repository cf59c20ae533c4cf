use Rattle.std.proofs.Common.{arith}
use Rattle.mvo_engine.proofs.Forgetting.{up_to_left, left_counts}
use Rattle.mvo_engine.proofs.run.receipts.Receipts.forget.Goals as goal

pub invariant_of-self : goal.invariant_of-self
invariant_of-self g c =
    let i = c.self.invariant in
    let h = c.let_go.ensures in
    let s = c.self.inside in
    let later = c.later_of-self-inside.ensures in (
      i.0,
      (λ low. left_counts g.L.Run.watched c.args.start.0 c.args.most c.let_go.result s.list.list c.let_go.new.self.list s.share.amount s.forgotten.0 h i.1 (omega (arith, low, later))),
      up_to_left h s.last.0 i.2,
    )
