use Rattle.std.proofs.Common.{rules, inl, inr}
use Rattle.mvo_store.proofs.jobs.whole.run_merge.Goals as goal

pub returns-in_err-call-3 : goal.returns-in_err-call-3
returns-in_err-call-3 g c =
    let one = rw c.in_ok-call.was at c.call.ensures in
    let two = rw c.in_ok-call-2.was at c.call-2.ensures in
    inr (_, _, one, inr (_, _, two, inl (search rules)))

pub returns : goal.returns
returns g c =
    let one = rw c.in_ok-call.was at c.call.ensures in
    let two = rw c.in_ok-call-2.was at c.call-2.ensures in
    let three = rw c.in_ok-call-3.was at c.call-3.ensures in
    inr (_, _, one, inr (_, _, two, inr (_, _, three, c.run_install.ensures)))
