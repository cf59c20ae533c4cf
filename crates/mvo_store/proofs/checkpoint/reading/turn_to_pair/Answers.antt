use Rattle.std.proofs.Common.{sym, ap, ◌∙◌}
use Rattle.mvo_format.specs.declared.format.TheConstants.{LAST_FORMAT}
use Rattle.mvo_frame.specs.Frames.{mark_after}
use Rattle.mvo_store.proofs.SegmentOn.{turned_safe, turned_of}
use Rattle.mvo_store.proofs.checkpoint.reading.turn_to_pair.Goals as goal

pub returns-in-Ok-clause-next : goal.returns-in-Ok-clause-next
returns-in-Ok-clause-next c =
    let some = c.requires.read.some in
    let e = c.into_contents-groups.ensures in
    (e.place LAST_FORMAT.version c.args.manifest.now.checkpoint_mark some.0 some.1).mark ∙ ap (mark_after c.args.manifest.now.checkpoint_mark) e.groups ∙ sym some.1.mark_is

pub returns-in-Ok-clause-safe : goal.returns-in-Ok-clause-safe
returns-in-Ok-clause-safe c =
    let some = c.requires.read.some in
    let m = c.args.manifest.now in
    let e = c.into_contents-groups.ensures in
    let contents = c.into_contents-groups.result in
    turned_safe m c.args.places.now.at c.args.reader contents.groups.items e.groups contents.mark (e.place LAST_FORMAT.version m.checkpoint_mark some.0 some.1).mark c.begin-building.result (c.begin-building.ensures m.pairs)
    (λ upto start bytes to closed. c.in-Ok.ensures.ok upto start bytes to closed) c.requires.read

pub returns-in-Ok-clause-of : goal.returns-in-Ok-clause-of
returns-in-Ok-clause-of c = λ bytes h.
    let m = c.args.manifest.now in
    let e = c.into_contents-groups.ensures in
    let contents = c.into_contents-groups.result in
    turned_of m c.args.places.now.at c.args.reader contents.groups.items e.groups contents.mark (e.place LAST_FORMAT.version m.checkpoint_mark bytes h.to).mark c.begin-building.result (c.begin-building.ensures m.pairs)
    (λ upto start bytes to closed. c.in-Ok.ensures.ok upto start bytes to closed) bytes h
