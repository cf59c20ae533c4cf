use Rattle.std.proofs.Common.{rules, inl, inr}
use Rattle.mvo_store.proofs.jobs.whole.run_checkpoint.Goals as goal

pub returns-in_err-write_deltas : goal.returns-in_err-write_deltas
returns-in_err-write_deltas g c =
    let one = rw c.in_ok-call.was at c.call.ensures in
    let two = rw c.in_ok-call-2.was at c.call-2.ensures in
    inr (_, _, one, inr (_, _, two, inl (search rules)))

pub returns : goal.returns
returns g c =
    let one = rw c.in_ok-call.was at c.call.ensures in
    let two = rw c.in_ok-call-2.was at c.call-2.ensures in
    let three = rw c.in_ok-write_deltas.was at c.write_deltas.ensures in
    inr (_, _, one, inr (_, _, two, inr (_, _, three, c.run_install.ensures)))
