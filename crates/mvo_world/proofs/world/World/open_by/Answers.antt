use Rattle.mvo_world.specs.WorldData.{WorldData}
use Rattle.mvo_store.proofs.Marked.{not_of_files}
use Rattle.mvo_world.proofs.Runs.{sound_here, answer_here, gives_here, opened_here, world_begins, world_after, world_prefix}
use Rattle.mvo_world.proofs.world.World.open_by.Goals as goal

pub invariant_of-result : goal.invariant_of-result
invariant_of-result g c =
    let w : WorldData _ = record { core = c.in-Ok-open_by.core; ring = c.in-Ok-new.ring; store = c.in-Ok.opened.0 } in
    sound_here g.D.Disk c.args.disk w c.in-Ok.opened.1 c.in-Ok.opened.2.0 c.in-Ok.ensures.begins c.in-Ok-open_by.ensures.ok c.in-Ok-open_by.ensures.count c.in-Ok-new.ensures

pub returns : goal.returns
returns g c =
    let w : WorldData _ = record { core = c.in-Ok-open_by.core; ring = c.in-Ok-new.ring; store = c.in-Ok.opened.0 } in
    let rows = c.in-Ok.opened.1 in
    let mark = c.in-Ok.opened.2.0 in
    let e = c.in-Ok.ensures in
    let core = c.in-Ok-open_by.ensures in
    record {
      stands = (rows, opened_here g.D.Disk c.args.disk w rows mark e.begins core.ok core.count c.in-Ok-new.ensures e.stamp e.any_moment e.gives e.keeps);
      answer = λ now. (rows, answer_here g.D.Disk c.args.disk w rows mark e.begins core.ok core.count c.in-Ok-new.ensures (e.answer now));
      gives = λ now. (rows, gives_here g.D.Disk c.args.disk w rows mark e.begins core.ok core.count c.in-Ok-new.ensures (e.gives now));
      after = λ now. world_after g.D.Disk c.args.disk w rows mark e.begins core.ok core.count c.in-Ok-new.ensures (e.answer now) e.keeps;
      prefix = λ now. world_prefix g.D.Disk c.args.disk w rows mark e.begins core.ok core.count c.in-Ok-new.ensures (e.answer now);
      begins = λ now. world_begins g.D.Disk c.args.disk w rows mark e.begins core.ok core.count c.in-Ok-new.ensures (e.answer now);
      content = e.content;
      any_moment = e.any_moment;
      few = e.begins.few;
      count = e.begins.count;
      refused = tt;
      well_formed = tt;
      content_err = tt;
      any_moment_err = tt;
    }

pub returns-in-Err : goal.returns-in-Err
returns-in-Err g c =
    let e = c.in-Err.ensures in
    record {
      stands = tt;
      answer = tt;
      gives = tt;
      after = tt;
      prefix = tt;
      begins = tt;
      content = tt;
      any_moment = tt;
      few = tt;
      count = tt;
      refused = e.refused;
      well_formed = not_of_files g.D.Disk c.args.disk c.in-Err.refused.1 c.in-Err.refused.0 e.refused;
      content_err = e.content_err;
      any_moment_err = e.any_moment_err;
    }
