use Rattle.std.proofs.Common.{◌≡◌, ◌+◌, [], true, vec_len}
use Rattle.mvo_front.specs.Queue.{hand}
use Rattle.mvo_front.proofs.workers.hire_all.Given as goal

abbrev pub invariant-loop-k : goal.invariant-loop-k
invariant-loop-k g l = record {
  hand : l.ticket ≡ hand true [] l.ticket.parts [];
  parts : l.ticket.parts + l.k ≡ 1024;
  length : vec_len l.hired ≡ l.k;
}
