use Rattle.std.proofs.Common.{◌≡◌, arith, suc, refl, sym, Bool, true, false, Result, Ok, Err, subst}
use Rattle.mvo_types.specs.declared.refusal.Refusal.{Refusal}
use Rattle.mvo_types.specs.declared.refusal.Refusal.TheVariants.{NothingToDo}
use Rattle.mvo_store.specs.Flushing.{IsTurn}
use Rattle.mvo_world.specs.Logging.{IsCallBy, IsTakingBy}
use Rattle.mvo_world.specs.Replies.{IsReplyTo}
use Rattle.mvo_script.specs.Flushing.IsFlush.{AtTurn, AtEnd}
use Rattle.mvo_script.proofs.Turns.{close_goes, turn_count}
use Rattle.mvo_script.proofs.flush.flush.Goals as goal
use Rattle.mvo_script.proofs.flush.flush.Goals.{in-Closed-1, in-Refused+in-NothingToDo-1}

pub loop-world-init : goal.loop-world-init
loop-world-init g c = record {
  reply = c.step.result;
  then_on = c.step.new.self;
  closed = c.step.ensures.reply;
  goes_on = elim c.match-step.branch [
    | in-Closed-1 w ↦ close_goes c.step.result (λ why e a b. grind (arith, e))
    | in-Refused+in-NothingToDo-1 w ↦ close_goes c.step.result (λ why e a b. grind (arith, e, a, b))
  ];
  count = 0;
  turns = refl;
}

pub loop-world-preserved : goal.loop-world-preserved
loop-world-preserved g c =
    let is : c.turn.result ≡ Ok true = grind arith in
    let turned = subst (λ (r : Result Bool Refusal). IsTurn (IsTakingBy (IsReplyTo g.D.Disk)) (IsCallBy (IsReplyTo g.D.Disk)) c.loop-world.world r c.turn.new.log) is c.turn.ensures in
    record {
      reply = c.loop-world.invariant.reply;
      then_on = c.loop-world.invariant.then_on;
      closed = c.loop-world.invariant.closed;
      goes_on = c.loop-world.invariant.goes_on;
      count = suc c.loop-world.invariant.count;
      turns = (c.loop-world.world, c.loop-world.invariant.turns, turned);
    }

pub loop-world-smaller : goal.loop-world-smaller
loop-world-smaller g c =
    let is : c.turn.result ≡ Ok true = grind arith in
    let turned = subst (λ (r : Result Bool Refusal). IsTurn (IsTakingBy (IsReplyTo g.D.Disk)) (IsCallBy (IsReplyTo g.D.Disk)) c.loop-world.world r c.turn.new.log) is c.turn.ensures in
    turn_count g.D.Disk c.loop-world.world c.turn.new.log turned

pub returns-in-Ok-false-clause-steps : goal.returns-in-Ok-false-clause-steps
returns-in-Ok-false-clause-steps g c =
    let is : c.turn.result ≡ Ok false = grind arith in
    let turned = subst (λ (r : Result Bool Refusal). IsTurn (IsTakingBy (IsReplyTo g.D.Disk)) (IsCallBy (IsReplyTo g.D.Disk)) c.loop-world.world r c.turn.new.log) is c.turn.ensures in
    AtEnd c.loop-world.world c.mark.result refl (sym c.mark.ensures.value) c.loop-world.invariant turned

pub returns-in-Err-clause-steps : goal.returns-in-Err-clause-steps
returns-in-Err-clause-steps g c =
    let turned = subst (λ (r : Result Bool Refusal). IsTurn (IsTakingBy (IsReplyTo g.D.Disk)) (IsCallBy (IsReplyTo g.D.Disk)) c.loop-world.world r c.turn.new.log) c.in-Err.is c.turn.ensures in
    AtTurn c.loop-world.world c.in-Err.refusal refl c.loop-world.invariant turned
