use Rattle.std.proofs.Common.{◌≡◌, ◌+◌, ◌<◌, ◌≤◌, ◌++◌, length}
use Rattle.std.specs.Prelude.{vec_len, vec_capacity}
use Rattle.mvo_engine.specs.run.Watching.{count_of}
use Rattle.mvo_engine.specs.Gathering.{gathered_receipts, receipts_in, AreForgottenUpTo}
use Rattle.mvo_engine.proofs.gathering.pour.Given as goal

abbrev pub invariant-loop-session : goal.invariant-loop-session
invariant-loop-session g l = record {
  parts : l.whole.parts + length l.left.items ≡ length l.initial.left.items;
  items : l.all.items ++ gathered_receipts l.left.items ≡ gathered_receipts l.initial.left.items;
  amount : l.fn.start.0 < g.L.Run.watched.end → l.whole.amount ≡ count_of g.L.Run.watched l.all.items;
  forgotten : AreForgottenUpTo l.fn.start.0 l.left.items;
  room : vec_len l.all + receipts_in l.left.items ≤ vec_capacity l.all;
}

abbrev pub decreases-loop-session : goal.decreases-loop-session
decreases-loop-session g l = length l.left.items
