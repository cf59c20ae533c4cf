use Rattle.std.proofs.Common.{rules}
use Rattle.mvo_store.proofs.Marked.{opened_safe, opened_up, opened_keeps}
use Rattle.mvo_store.proofs.store.Store.open_by.Goals as goal

pub invariant_of-store : goal.invariant_of-store
invariant_of-store g c =
    let l = c.in-Ok.found.0 in
    let marks = c.in-Ok.found.1.items in
    let e = c.in-Ok.ensures in
    λ _. rw c.none.ensures (record {
      safe = opened_safe g.D.Disk c.args.disk c.load_synced.new.disk l.manifest l.places marks l.mark.0 l.gate c.last_segment.result c.last_segment.ensures.file e.gate e.synced e.few;
      up = λ honest. (l.rows, opened_up g.D.Disk c.args.disk c.load_synced.new.disk l.manifest l.rows l.mark.0 l.gate c.last_segment.result (e.loaded honest) l.places (e.places honest) marks (e.marks honest) e.synced c.last_segment.ensures.last e.few);
    })

pub returns : goal.returns
returns g c =
    let l = c.in-Ok.found.0 in
    let marks = c.in-Ok.found.1.items in
    let e = c.in-Ok.ensures in
    record {
      answer = e.answer;
      gives = λ honest. let loaded = e.loaded honest in search (rules, loaded);
      up = λ honest. rw c.none.ensures (opened_up g.D.Disk c.args.disk c.load_synced.new.disk l.manifest l.rows l.mark.0 l.gate c.last_segment.result (e.loaded honest) l.places (e.places honest) marks (e.marks honest) e.synced c.last_segment.ensures.last e.few);
      keeps = λ honest. rw c.none.ensures (opened_keeps g.D.Disk c.args.disk c.load_synced.new.disk l.manifest l.rows l.mark.0 l.gate c.last_segment.result (e.loaded honest) l.places (e.places honest) marks (e.marks honest) e.synced c.last_segment.ensures.last e.few);
      begins = search rules;
      stamp = e.stamp;
      content = e.content;
      any_moment = e.any_moment;
      refused = tt;
      content_err = tt;
      any_moment_err = tt;
    }
