use Rattle.std.proofs.Common.{sym}
use Rattle.mvo_load.proofs.Unchanged.{then_unchanged, was_read, gives_any}
use Rattle.mvo_store.proofs.Neighbours.{read_is, read_never, has_stayed}
use Rattle.mvo_store.proofs.merge.steps.read_both.Goals as goal

pub returns-in-Err-clause-stop : goal.returns-in-Err-clause-stop
returns-in-Err-clause-stop g c = λ honest a b has_a has_b. read_never (g.D.Disk.content c.args.disk.now) c.args.left a c.in-Err.refusal has_a (c.in-Err.ensures.says honest)

pub returns-in-Ok-pair_on-clause-live : goal.returns-in-Ok-pair_on-clause-live
returns-in-Ok-pair_on-clause-live g c =
    let old = g.D.Disk.content c.args.disk.now in
    let new = g.D.Disk.content c.pair_on.new.disk in
    λ honest a b has_a has_b. (
      read_is old c.args.left a c.in-Ok.live.items has_a (c.in-Ok.ensures.says (c.in-Ok-pair_on.ensures.read.any_moment.later.honest honest)),
      read_is new c.args.right b c.in-Ok-pair_on.second.items (has_stayed old new c.args.right b c.in-Ok.ensures.read.rest.content has_b) (c.in-Ok-pair_on.ensures.says honest),
    )

pub returns-in-Ok-pair_on-clause-has : goal.returns-in-Ok-pair_on-clause-has
returns-in-Ok-pair_on-clause-has g c = λ honest.
    let old = g.D.Disk.content c.args.disk.now in
    let new = g.D.Disk.content c.pair_on.new.disk in
    let left = c.in-Ok.ensures.says (c.in-Ok-pair_on.ensures.read.any_moment.later.honest honest) in
    let right = c.in-Ok-pair_on.ensures.says honest in
    (left.0, has_stayed new old c.args.right c.in-Ok-pair_on.second.items (λ n. sym (c.in-Ok.ensures.read.rest.content n)) right.0)

pub returns-in-Err-pair_on-clause-stop : goal.returns-in-Err-pair_on-clause-stop
returns-in-Err-pair_on-clause-stop g c =
    let old = g.D.Disk.content c.args.disk.now in
    let new = g.D.Disk.content c.pair_on.new.disk in
    λ honest a b has_a has_b. read_never new c.args.right b c.in-Err-pair_on.refusal (has_stayed old new c.args.right b c.in-Ok.ensures.read.rest.content has_b) (c.in-Err-pair_on.ensures.says honest)

pub returns-in-Ok-pair_on-clause-read : goal.returns-in-Ok-pair_on-clause-read
returns-in-Ok-pair_on-clause-read g c =
    let first = was_read g.D.Disk _ _ c.in-Ok.live c.in-Ok.ensures.read in
    let second = was_read g.D.Disk _ _ c.in-Ok-pair_on.second c.in-Ok-pair_on.ensures.read in
    gives_any g.D.Disk _ _ _ _ (then_unchanged g.D.Disk _ _ _ first second)
