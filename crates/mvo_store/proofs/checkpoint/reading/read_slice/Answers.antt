use Rattle.std.proofs.Common.{◌<◌, refl, sym, subst}
use Rattle.mvo_disk.specs.Disk.{IsHonest}
use Rattle.mvo_format.specs.declared.format.TheConstants.{LAST_FORMAT}
use Rattle.mvo_store.proofs.Checkpoints.{first_below}
use Rattle.mvo_store.proofs.SegmentOn.{framed_so, more_frames, all_frames, stop_or_only}
use Rattle.mvo_store.proofs.checkpoint.reading.read_slice.Goals as goal

pub read_frames-requires-clause-file : goal.read_frames-requires-clause-file
read_frames-requires-clause-file g c =
    let m = c.args.manifest.now in
    subst (λ n. n < 1024) (sym c.requires.read.file) (first_below m c.generation-generation.ensures.manifest m.segments refl)

pub returns-in-Ok-More-clause-done : goal.returns-in-Ok-More-clause-done
returns-in-Ok-More-clause-done g c = λ at.
    let m = c.args.manifest.now in
    let r = c.args.reader in
    let content = g.D.Disk.content c.args.disk.now in
    let was = IsHonest (g.D.Disk.moment c.args.disk.now) in
    let later = IsHonest (g.D.Disk.moment c.read_frames.new.disk) in
    let e = c.in-Ok-More.ensures in
    let framed = framed_so was content m r c.requires.read c.requires.of in
    more_frames was content m r c.requires.read c.requires.of later c.read_frames.new.reader e.file (e.on LAST_FORMAT.version m.checkpoint_mark framed) e.most at (e.further c.in-Ok-More.field-0-is)

pub returns-in-Ok-End-clause-done : goal.returns-in-Ok-End-clause-done
returns-in-Ok-End-clause-done g c = λ at.
    let m = c.args.manifest.now in
    let r = c.args.reader in
    let content = g.D.Disk.content c.args.disk.now in
    let was = IsHonest (g.D.Disk.moment c.args.disk.now) in
    let later = IsHonest (g.D.Disk.moment c.read_frames.new.disk) in
    let e = c.in-Ok-End.ensures in
    let framed = framed_so was content m r c.requires.read c.requires.of in
    all_frames was content m r c.requires.read c.requires.of later c.read_frames.new.reader e.file (e.on LAST_FORMAT.version m.checkpoint_mark framed) e.most at (e.end LAST_FORMAT.version m.checkpoint_mark framed c.in-Ok-End.field-0-is)

pub returns-in-Err-clause-stop : goal.returns-in-Err-clause-stop
returns-in-Err-clause-stop g c = λ honest at.
    let m = c.args.manifest.now in
    let r = c.args.reader in
    let content = g.D.Disk.content c.args.disk.now in
    let was = IsHonest (g.D.Disk.moment c.args.disk.now) in
    let framed = framed_so was content m r c.requires.read c.requires.of in
    stop_or_only content (g.D.Disk.may_leave c.args.disk.now) m c.requires.may at c.in-Err.e r.file c.requires.read.file (c.in-Err.ensures.refused honest LAST_FORMAT.version m.checkpoint_mark framed)
