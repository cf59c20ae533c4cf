use Rattle.std.proofs.Common.{◌≡◌, take}
use Rattle.mvo_engine.specs.Gathering.{receipts_in}
use Rattle.mvo_engine.proofs.gathering.count_all.Given as goal

abbrev pub invariant-loop-session : goal.invariant-loop-session
invariant-loop-session g l = l.total ≡ receipts_in (take l.session-index l.sessions)
