use Rattle.std.proofs.Common.{take}
use Rattle.mvo_engine.specs.Reads.{AreCoreAnswers, AreFinding, AreReadsOf}
use Rattle.mvo_engine.proofs.session.reading_all.read_each.Given as goal

abbrev pub invariant-loop-key : goal.invariant-loop-key
invariant-loop-key g l =
    AreCoreAnswers g.L.Run.opening l.tx.0 l.reads.items × AreFinding l.reads.items
    × AreReadsOf (take l.key-index l.keys) l.reads.items
