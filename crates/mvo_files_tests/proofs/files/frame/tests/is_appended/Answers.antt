use Rattle.std.proofs.Common.{◌≡◌, [], sym, ap, ◌∙◌, arith}
use Rattle.mvo_frame.specs.declared.segment.Segment.{Segment}
use Rattle.mvo_frame.proofs.Crash.{gate_few}
use Rattle.mvo_files_tests.proofs.files.frame.tests.is_appended.Goals as goal

pub write_body-requires-clause-few : goal.write_body-requires-clause-few
write_body-requires-clause-few g c =
    let here = gate_few 1 0 [] _ _ (c.in_ok-segment.ensures.stands 0) in
    here.0

pub write_body-requires-clause-start : goal.write_body-requires-clause-start
write_body-requires-clause-start g c = λ honest.
    let here = gate_few 1 0 [] _ _ (c.in_ok-segment.ensures.stands 0) in
    rw c.in_ok-segment.ensures.file (omega (arith, here.1))

pub open_gate-requires-clause-start : goal.open_gate-requires-clause-start
open_gate-requires-clause-start g c = λ honest.
    let written = c.in_ok-write_body.ensures.written 1 0 [] (rw c.in_ok-segment.ensures.file (c.in_ok-segment.ensures.stands 0)) (sym c.prev.ensures.value ∙ c.if-prev-ne0.false) in
    let here = gate_few 1 0 [] _ _ written.has in
    rw (ap (λ (s : Segment). s.file) c.in_ok-write_body.ensures.ok) (omega (arith, here.1))
