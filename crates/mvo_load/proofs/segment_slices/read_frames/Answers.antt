use Rattle.std.proofs.Common.{ℕ, List, Some, take, drop, ap, subst, ◌∙◌}
use Rattle.mvo_frame.specs.declared.lengths.TheConstants.{MAX_FRAME_LEN}
use Rattle.mvo_load.specs.Framed.{IsStopOrOnly}
use Rattle.mvo_load.proofs.Framed.{reads_on, reads_all, reads_only}
use Rattle.mvo_load.proofs.segment_slices.read_frames.Goals as goal

pub returns-in-Ok-Some-clause-end : goal.returns-in-Ok-Some-clause-end
returns-in-Ok-Some-clause-end g c upto mark h end =
    c.in-Ok-Some.ensures.end upto mark h (c.in-Ok-Some.field-0-is ∙ ap Some end)

pub returns-in-Ok-more-clause-on : goal.returns-in-Ok-more-clause-on
returns-in-Ok-more-clause-on g c upto mark h =
    let near = c.in-Ok-None.ensures in
    let content = g.D.Disk.content in
    let file = c.args.reader.now.file in
    reads_on upto mark _ _ (content c.args.disk.now file) c.deref.result.now c.read_near.new.reader (near.on upto mark h) (λ honest. c.in-Ok.ensures.read.any_moment.later.honest honest)
    (λ honest. c.deref.ensures.value ∙ c.in-Ok.ensures.bytes honest ∙ ap (λ (n : ℕ). take MAX_FRAME_LEN (drop c.gate-gate.result (content c.read_near.new.disk n))) (c.file-file.ensures ∙ near.file) ∙ ap (λ (l : List ℕ). take MAX_FRAME_LEN (drop c.gate-gate.result l)) (near.read.rest.content file) ∙ ap (λ (n : ℕ). take MAX_FRAME_LEN (drop n (content c.args.disk.now file))) c.gate-gate.ensures.value)
    c.more.new.self (λ all is w. c.in-Ok-more.ensures.read upto mark all is w)

pub returns-in-Ok-more-clause-end : goal.returns-in-Ok-more-clause-end
returns-in-Ok-more-clause-end g c upto mark h end =
    let near = c.in-Ok-None.ensures in
    let content = g.D.Disk.content in
    let file = c.args.reader.now.file in
    reads_all upto mark _ _ (content c.args.disk.now file) c.deref.result.now c.read_near.new.reader (near.on upto mark h) (λ honest. c.in-Ok.ensures.read.any_moment.later.honest honest)
    (λ honest. c.deref.ensures.value ∙ c.in-Ok.ensures.bytes honest ∙ ap (λ (n : ℕ). take MAX_FRAME_LEN (drop c.gate-gate.result (content c.read_near.new.disk n))) (c.file-file.ensures ∙ near.file) ∙ ap (λ (l : List ℕ). take MAX_FRAME_LEN (drop c.gate-gate.result l)) (near.read.rest.content file) ∙ ap (λ (n : ℕ). take MAX_FRAME_LEN (drop n (content c.args.disk.now file))) c.gate-gate.ensures.value)
    c.more.new.self (λ all is w. c.in-Ok-more.ensures.read upto mark all is w) (λ all is w. c.in-Ok-more.ensures.end upto mark all is w end)

pub returns-clause-refused : goal.returns-clause-refused
returns-clause-refused g c = λ honest upto mark h.
    let near = c.in-Ok-None.ensures in
    let content = g.D.Disk.content in
    let file = c.args.reader.now.file in
    let told = reads_only upto mark _ _ (content c.args.disk.now file) c.deref.result.now c.read_near.new.reader (near.on upto mark h) (λ honest. c.in-Ok.ensures.read.any_moment.later.honest honest)
    (λ honest. c.deref.ensures.value ∙ c.in-Ok.ensures.bytes honest ∙ ap (λ (n : ℕ). take MAX_FRAME_LEN (drop c.gate-gate.result (content c.read_near.new.disk n))) (c.file-file.ensures ∙ near.file) ∙ ap (λ (l : List ℕ). take MAX_FRAME_LEN (drop c.gate-gate.result l)) (near.read.rest.content file) ∙ ap (λ (n : ℕ). take MAX_FRAME_LEN (drop n (content c.args.disk.now file))) c.gate-gate.ensures.value)
    c.read_near.new.reader.file c.in-Err-more.e (λ all is w. c.in-Err-more.ensures.refused upto mark all is w) honest
    in
    subst (λ (n : ℕ). IsStopOrOnly upto n mark (content c.args.disk.now file) c.in-Err-more.e) near.file told
