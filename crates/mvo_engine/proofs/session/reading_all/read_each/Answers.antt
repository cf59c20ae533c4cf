use Rattle.mvo_engine.proofs.ReadingMany.{one_more, refused_at}
use Rattle.mvo_engine.proofs.session.reading_all.read_each.Goals as goal

pub returns-in-Err-clause-upto : goal.returns-in-Err-clause-upto
returns-in-Err-clause-upto g c =
    let e = c.in-Err.ensures in
    refused_at g.L.Run.opening c.args.tx.0 c.args.keys.now c.loop-key.key-index _ c.loop-key.reads.items c.in-Err.refusal c.loop-key.core c.operate.new.self c.loop-key-test.true c.loop-key.invariant.2 e.sound e.step e.err

pub loop-key-preserved : goal.loop-key-preserved
loop-key-preserved g c =
    let e = c.in-Ok.ensures in
    one_more g.L.Run.opening c.args.tx.0 c.args.keys.now c.loop-key.key-index _ c.loop-key.reads.items c.push.new.self.items c.in-Ok.answer c.loop-key.core c.operate.new.self c.loop-key-test.true c.loop-key.invariant e.sound e.step e.answer c.in_ok-push-in-Ok.ensures.items
