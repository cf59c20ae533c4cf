use Rattle.std.proofs.Common.{◌≡◌, ◌≤◌, length, take}
use Rattle.std.specs.Prelude.{vec_capacity}
use Rattle.mvo_world.specs.Past.{Past, with_events}
use Rattle.mvo_world.specs.Standing.{IsAfter}
use Rattle.mvo_world.specs.Steps.{IsRunStep, AreSteps}
use Rattle.mvo_world.proofs.world.World.run.Given as goal

abbrev pub invariant-loop-event : goal.invariant-loop-event
invariant-loop-event g l = record {
  many : length l.replies.items ≡ l.event-index;
  room : length l.fn.events ≤ vec_capacity l.replies;
  each : AreSteps (IsRunStep g.D.Disk) l.fn.self (take l.event-index l.fn.events) l.replies.items l.self;
  after : (past : Past) → IsAfter g.D.Disk past l.fn.self → IsAfter g.D.Disk (with_events past (take l.event-index l.fn.events) l.replies.items) l.self;
}
