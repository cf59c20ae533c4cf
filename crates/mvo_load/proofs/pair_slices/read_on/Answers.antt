use Rattle.std.proofs.Common.{◌≤◌, take, drop, inl, inr, ⊎_elim, sym, ap, subst, ◌∙◌, lit≤}
use Rattle.mvo_pair.specs.declared.pair.Pair.{Pair}
use Rattle.mvo_pair.specs.declared.reading.TheConstants.{MOST_RECORD}
use Rattle.mvo_load.specs.declared.pair_slices.TheConstants.{READ_LEN}
use Rattle.mvo_load.specs.Read.{IsMisread}
use Rattle.mvo_load.proofs.Sliced.{reads_on, on_misread, on_broken}
use Rattle.mvo_load.proofs.Unchanged.{was_read, then_no_memory, then_misread}
use Rattle.mvo_load.proofs.pair_slices.read_on.Goals as goal

pub returns-in-Ok-more-clause-on : goal.returns-in-Ok-more-clause-on
returns-in-Ok-more-clause-on g c upto p live h =
    let content = g.D.Disk.content c.args.disk.now in
    let made = c.in-Ok-more.ensures in
    let file = ap (λ (q : Pair). q.data_file) (c.pair-file.ensures ∙ h.pair) in
    reads_on upto p content _ c.args.reading.now live c.args.so_far h c.deref.result.now made.bytes _ c.in-Ok-more.some.0.items c.in-Ok-more.some.1 READ_LEN made.on
    (λ honest. c.in-Ok.ensures.read.any_moment.later.honest honest)
    (λ honest. c.deref.ensures.value ∙ c.in-Ok.ensures.bytes honest ∙ ap (λ n. take READ_LEN (drop c.args.so_far.place (content n))) file)

pub returns-clause-why : goal.returns-clause-why
returns-clause-why g c upto p live h =
    let made = c.in-Err-more.ensures in
    ⊎_elim (λ m. inl (inl m)) (λ b. inr (on_misread upto p (g.D.Disk.content c.args.disk.now) _ c.args.reading.now live c.args.so_far h c.deref.result.now made.bytes c.in-Err-more.e b)) made.refused

pub returns-clause-stop : goal.returns-clause-stop
returns-clause-stop g c = λ honest upto p live whole h gives.
    let content = g.D.Disk.content c.args.disk.now in
    let made = c.in-Err-more.ensures in
    let file = ap (λ (q : Pair). q.data_file) (c.pair-file.ensures ∙ h.pair) in
    let long : MOST_RECORD ≤ READ_LEN = lit≤ tt in
    ⊎_elim (λ m. inl m)
    (λ b. absurd (on_broken upto p content _ c.args.reading.now live c.args.so_far h c.deref.result.now made.bytes c.in-Err-more.e b READ_LEN long (c.in-Ok.ensures.read.any_moment.later.honest honest)
    (c.deref.ensures.value ∙ c.in-Ok.ensures.bytes honest ∙ ap (λ n. take READ_LEN (drop c.args.so_far.place (content n))) file) whole gives)) made.refused

pub returns-clause-read : goal.returns-clause-read
returns-clause-read g c =
    let made = c.in-Err-more.ensures in
    let first = was_read g.D.Disk c.args.disk.now c.bytes_from.new.disk c.in-Ok.read c.in-Ok.ensures.read in
    let e = c.in-Err-more.e in
    ⊎_elim (λ m. then_no_memory g.D.Disk _ c.args.disk.now c.bytes_from.new.disk e m first)
    (λ is. then_misread g.D.Disk _ c.args.disk.now c.bytes_from.new.disk e (subst IsMisread (sym is) tt) first) made.why

pub returns-in-Ok-more-clause-slice : goal.returns-in-Ok-more-clause-slice
returns-in-Ok-more-clause-slice g c =
    let content = g.D.Disk.content c.args.disk.now in
    let made = c.in-Ok-more.ensures in
    record {
      bytes = c.deref.result.now;
      fits = made.bytes;
      on = made.on;
      are = λ honest. c.deref.ensures.value ∙ c.in-Ok.ensures.bytes honest ∙ ap (λ n. take READ_LEN (drop c.args.so_far.place (content n))) (ap (λ (q : Pair). q.data_file) c.pair-file.ensures);
    }

pub returns-clause-broken : goal.returns-clause-broken
returns-clause-broken g c =
    let content = g.D.Disk.content c.args.disk.now in
    let made = c.in-Err-more.ensures in
    ⊎_elim (λ m. inl (inl m))
    (λ b. inr (record {
      bytes = c.deref.result.now;
      fits = made.bytes;
      broken = b;
      are = λ honest. c.deref.ensures.value ∙ c.in-Ok.ensures.bytes honest ∙ ap (λ n. take READ_LEN (drop c.args.so_far.place (content n))) (ap (λ (q : Pair). q.data_file) c.pair-file.ensures);
    })) made.refused
