use Rattle.std.proofs.Common.{ℕ, take, drop, ap, ◌∙◌}
use Rattle.mvo_load.specs.declared.segment_slices.TheConstants.{NEAR_LEN}
use Rattle.mvo_load.proofs.Framed.{near_on, near_all}
use Rattle.mvo_load.proofs.segment_slices.read_near.Goals as goal

pub returns-in-End-clause-on : goal.returns-in-End-clause-on
returns-in-End-clause-on g c upto mark h =
    let content = g.D.Disk.content c.args.disk.now in
    near_on upto mark NEAR_LEN _ _ (content c.args.reader.now.file) c.deref.result.now c.args.reader.now h (λ honest. c.in-Ok.ensures.read.any_moment.later.honest honest)
    (λ honest. c.deref.ensures.value ∙ c.in-Ok.ensures.bytes honest ∙ ap (λ (n : ℕ). take NEAR_LEN (drop c.gate-gate.result (content n))) c.file-file.ensures ∙ ap (λ (n : ℕ). take NEAR_LEN (drop n (content c.args.reader.now.file))) c.gate-gate.ensures.value)
    c.read_on-reached.new.self (λ all more is at. c.read_on-reached.ensures.read upto mark all more is at)

pub returns-in-End-clause-end : goal.returns-in-End-clause-end
returns-in-End-clause-end g c upto mark h end =
    let content = g.D.Disk.content c.args.disk.now in
    near_all upto mark NEAR_LEN _ _ (content c.args.reader.now.file) c.deref.result.now c.args.reader.now h (λ honest. c.in-Ok.ensures.read.any_moment.later.honest honest)
    (λ honest. c.deref.ensures.value ∙ c.in-Ok.ensures.bytes honest ∙ ap (λ (n : ℕ). take NEAR_LEN (drop c.gate-gate.result (content n))) c.file-file.ensures ∙ ap (λ (n : ℕ). take NEAR_LEN (drop n (content c.args.reader.now.file))) c.gate-gate.ensures.value)
    c.read_on-reached.new.self (λ all more is at. c.read_on-reached.ensures.read upto mark all more is at) (λ all more is at. c.read_on-reached.ensures.end upto mark all more is at c.in-End.is)

pub returns-clause-on : goal.returns-clause-on
returns-clause-on g c upto mark h =
    let content = g.D.Disk.content c.args.disk.now in
    near_on upto mark NEAR_LEN _ _ (content c.args.reader.now.file) c.deref.result.now c.args.reader.now h (λ honest. c.in-Ok.ensures.read.any_moment.later.honest honest)
    (λ honest. c.deref.ensures.value ∙ c.in-Ok.ensures.bytes honest ∙ ap (λ (n : ℕ). take NEAR_LEN (drop c.gate-gate.result (content n))) c.file-file.ensures ∙ ap (λ (n : ℕ). take NEAR_LEN (drop n (content c.args.reader.now.file))) c.gate-gate.ensures.value)
    c.read_on-reached.new.self (λ all more is at. c.read_on-reached.ensures.read upto mark all more is at)
