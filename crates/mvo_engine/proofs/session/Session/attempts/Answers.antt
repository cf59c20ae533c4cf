use Rattle.std.proofs.Common.{arith}
use Rattle.mvo_engine.proofs.Forgetting.{more_forgotten}
use Rattle.mvo_engine.proofs.Transacting.{ended_by, done_by, last_by, failed_more}
use Rattle.mvo_engine.proofs.session.Session.attempts.Goals as goal

pub returns-in-Err : goal.returns-in-Err
returns-in-Err g c =
    let l = c.loop-failures in
    let test = c.loop-failures-test.true in
    let end = c.saturating_sub-failures-end.ensures in
    ended_by g.L.Run.opening (g.W.Transaction.comes_to c.args.work.now) c.args.times l._failures c.args.self.now l.self c.attempt.new.self c.in-Err.refusal c.is_failure.result l.invariant.0 l.invariant.1 c.in-Err.ensures (omega (arith, test, end)) c.is_failure.ensures c.if-not-is_failure.true

pub returns-in-Ok : goal.returns-in-Ok
returns-in-Ok g c =
    let l = c.loop-failures in
    let test = c.loop-failures-test.true in
    let end = c.saturating_sub-failures-end.ensures in
    done_by g.L.Run.opening (g.W.Transaction.comes_to c.args.work.now) c.args.times l._failures c.args.self.now l.self c.attempt.new.self c.in-Ok.done l.invariant.0 l.invariant.1 c.in-Ok.ensures (omega (arith, test, end))

pub returns : goal.returns
returns g c =
    let l = c.loop-failures in
    let test = c.loop-failures-test.false in
    let end = c.saturating_sub-failures-end.ensures in
    let upto = l.auto._failures-end in
    last_by g.L.Run.opening (g.W.Transaction.comes_to c.args.work.now) c.args.times l._failures c.args.self.now l.self c.attempt-2.new.self c.attempt-2.result l.invariant.0 l.invariant.1 c.attempt-2.ensures (omega (arith, test, end, upto))

pub loop-failures-preserved : goal.loop-failures-preserved
loop-failures-preserved g c =
    let l = c.loop-failures in
    let last = c.in-Err.ensures in
    (failed_more g.L.Run.opening (g.W.Transaction.comes_to c.args.work.now) l._failures c.args.self.now l.self c.attempt.new.self c.in-Err.refusal c.is_failure.result l.invariant.0 last c.is_failure.ensures c.if-not-is_failure.false, more_forgotten g.L.Run.opening c.args.self.now.receipts l.self.receipts c.attempt.new.self.receipts l.invariant.1 last.receipts, last.tx)
