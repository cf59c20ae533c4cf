use Rattle.std.proofs.Common.{◌<◌, ◌+◌, ◌-◌, length, sym, subst, ◌∙◌}
use Rattle.mvo_frame.specs.declared.reached.Reached.{Reached}
use Rattle.mvo_frame.specs.Slices.{IsToldOf}
use Rattle.mvo_frame.proofs.Slices.{is_more, less_left, not_more}
use Rattle.mvo_frame.proofs.reading.read_slices.Goals as goal

pub returns-in-Err-clause-refused : goal.returns-in-Err-clause-refused
returns-in-Err-clause-refused c upto start is =
    let now = (c.loop-reached.invariant.2 upto start is).0 in
    subst (λ n. IsToldOf upto n start c.args.bytes.now c.in-Err.refusal) c.loop-reached.invariant.1 (c.in-Err.ensures.refused upto start now)

pub loop-reached-smaller : goal.loop-reached-smaller
loop-reached-smaller c =
    let len = length c.args.bytes.now in
    let old = c.loop-reached.reader.gate in
    let new = c.next_slice.new.reader.gate in
    subst (λ (x : Reached). is_more c.in-Ok.reached + (len - new) < is_more x + (len - old)) (sym c.in-More.is) (less_left c.in-Ok.reached len old new c.in-Ok.ensures.within c.in-Ok.ensures.grows c.in-Ok.ensures.some)

pub loop-reached-preserved : goal.loop-reached-preserved
loop-reached-preserved c = (
  c.in-Ok.ensures.within,
  c.in-Ok.ensures.file ∙ c.loop-reached.invariant.1,
  λ upto start is. let now = (c.loop-reached.invariant.2 upto start is).0 in (c.in-Ok.ensures.read upto start now, c.in-Ok.ensures.end upto start now),
)

pub returns-clause-read : goal.returns-clause-read
returns-clause-read c upto start is = (c.loop-reached.invariant.2 upto start is).0

pub returns-clause-end : goal.returns-clause-end
returns-clause-end c upto start is = (c.loop-reached.invariant.2 upto start is).1 (not_more c.loop-reached.reached c.in_default.not-More)
