use Rattle.std.proofs.Common.{sym, subst, take}
use Rattle.std.proofs.lemmas.List.{take_more, take_all}
use Rattle.mvo_deps.specs.Waiting.{IsLeast}
use Rattle.mvo_deps.proofs.Least.{least_none, least_found}
use Rattle.mvo_deps.proofs.waiting.least_open.Goals as goal

pub loop-id-init : goal.loop-id-init
loop-id-init g c = least_none c.args.table.now 0

pub loop-id-preserved : goal.loop-id-preserved
loop-id-preserved g c =
    subst (λ ids. IsLeast c.args.table.now ids c.lesser-next.result.0 c.lesser-next.result.1.0) (sym (take_more c.args.ids.now c.loop-id.id-index (record { 0 = 0 }) c.loop-id-test.true))
    (c.lesser-next.ensures.stays (take c.loop-id.id-index c.args.ids.now) c.loop-id.invariant)

pub returns : goal.returns
returns g c = least_found c.args.table.now c.args.ids.now c.loop-id.least c.loop-id.least_end.0
    (subst (λ ids. IsLeast c.args.table.now ids c.loop-id.least c.loop-id.least_end.0) (take_all c.loop-id.id-index c.args.ids.now c.loop-id-test.false) c.loop-id.invariant)
