use Rattle.std.proofs.Common.{⊎_elim}
use Rattle.mvo_pair.proofs.Begun.{are_flagged, are_refused}
use Rattle.mvo_pair.proofs.reading.named_by.Goals as goal

pub returns-in-Ok-clause-named : goal.returns-in-Ok-clause-named
returns-in-Ok-clause-named c =
    let read = c.in-Ok.ensures in
    are_flagged c.args.format c.args.pair c.args.delta.now c.in-Ok.named.items read.0 read.1 read.2

pub returns-in_ok-vec-in-Some-clause-named : goal.returns-in_ok-vec-in-Some-clause-named
returns-in_ok-vec-in-Some-clause-named c =
    ⊎_elim (λ memory. absurd (c.in-Some.ensures.0 memory))
    (λ found. are_refused c.args.format c.args.pair c.args.delta.now c.in_ok-vec-in-Some.field-0.items c.in-Err.e c.in-Some.refusal found c.in-Some.ensures.1) c.in-Err.ensures
