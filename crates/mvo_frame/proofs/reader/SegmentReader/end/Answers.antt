use Rattle.std.proofs.Common.{subst, sym}
use Rattle.mvo_frame.specs.Frames.{IsEnough}
use Rattle.mvo_frame.proofs.Slices.{end_enough, end_too_few}
use Rattle.mvo_frame.proofs.reader.SegmentReader.end.Goals as goal

pub returns-then-is_enough-clause-ok : goal.returns-then-is_enough-clause-ok
returns-then-is_enough-clause-ok c =
    let some : IsEnough c.args.kind c.self.inside.groups.items = subst (IsEnough c.args.kind) c.as_slice.ensures.value (c.is_enough.ensures.0 c.if-is_enough.true) in
    rw (← c.self.view_is) (λ upto start bytes is closed. end_enough upto start bytes _ is closed c.self.inside.file c.args.kind some)

pub returns-else-is_enough-clause-err : goal.returns-else-is_enough-clause-err
returns-else-is_enough-clause-err c =
    let few = λ (some : IsEnough c.args.kind c.self.inside.groups.items).
    let yes = c.is_enough.ensures.1 (subst (IsEnough c.args.kind) (sym c.as_slice.ensures.value) some) in
    let no = c.if-is_enough.false in
    absurd (cc (yes, no)) in
    rw (← c.self.view_is) (λ upto start bytes is closed. end_too_few upto start bytes _ is closed c.self.inside.file c.args.kind few)
