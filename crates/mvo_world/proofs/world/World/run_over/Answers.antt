use Rattle.std.proofs.Common.{sym, subst}
use Rattle.mvo_store.specs.Seen.{disk_of, mark_of}
use Rattle.mvo_world.specs.Past.{Past, opened_over}
use Rattle.mvo_world.specs.Promise.{LeavePrefixes}
use Rattle.mvo_world.proofs.Runs.{leave_prefixes}
use Rattle.mvo_world.proofs.world.World.run_over.Goals as goal

pub returns-in-Ok-run-clause-promise : goal.returns-in-Ok-run-clause-promise
returns-in-Ok-run-clause-promise g c = λ slots.
    let w = c.in-Ok.world in
    let given = c.in-Ok.ensures.stands in
    let past : Past = opened_over given.0 (mark_of w.store) in
    let after = given.1.after slots in
    record {
      rows = given.0;
      mark = mark_of w.store;
      serial = c.in-Ok-run.ensures.serial past after;
      opened = disk_of w.store;
      gives = given.1.gives;
      opening = c.in-Ok.ensures.any_moment;
      prefixes = subst (LeavePrefixes g.D.Disk past (disk_of w.store) c.args.events.now c.in-Ok-run.replies.items) (sym c.into_disk.ensures.disk)
          (leave_prefixes g.D.Disk past w c.args.events.now c.in-Ok-run.replies.items c.run.new.self after c.in-Ok-run.ensures.each);
    }
