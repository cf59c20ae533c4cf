use Rattle.std.proofs.Common.{◌≡◌, Option, Some, false, sym, ap, subst, ◌∙◌, arith}
use Rattle.mvo_pair.specs.declared.pair.Pair.{Pair}
use Rattle.mvo_store.specs.Causes.{are_too_many}
use Rattle.mvo_store.specs.Files.{files_taken}
use Rattle.mvo_store.specs.Merging.{neighbours_at, AreStill}
use Rattle.mvo_store.proofs.Neighbours.{are_two, still_now, left_files, right_files, only_stops, may_rise, may_few, safe_merge, merge_to, job_as_read}
use Rattle.mvo_store.proofs.merge.steps.read_merge.Given as given
use Rattle.mvo_store.proofs.merge.steps.read_merge.Goals as goal
use Rattle.mvo_store.proofs.merge.steps.read_merge.Goals.{In-Some}

-- the pairs that are read
two : (g : given.Over) (c : goal.In-Some g) → neighbours_at c.args.place c.args.manifest.now.pairs ≡ Some (c.in-Some.left, c.in-Some.right)
two g c = ap (neighbours_at c.args.place) (sym c.pairs.ensures.value) ∙ sym c.neighbours.ensures ∙ c.in-Some.is

still : (g : given.Over) (c : goal.In-Some g) → AreStill c.args.manifest.now c.args.place c.in-Some.left c.in-Some.right
still g c = still_now c.args.manifest.now c.args.place c.in-Some.left c.in-Some.right (two g c)

fits : (g : given.Over) (c : goal.In-Some g) → are_too_many (Some (c.in-Some.left, c.in-Some.right)) ≡ false
fits g c = subst (λ (o : Option (Pair × Pair)). are_too_many o ≡ false) (two g c) c.requires.may.few

pub read_both-requires-clause-left : goal.read_both-requires-clause-left
read_both-requires-clause-left g c = left_files c.args.manifest.now c.pairs.ensures.manifest c.args.place _ _ (still g (goal.at.read_both-requires-clause-left g c).In-Some)

pub read_both-requires-clause-right : goal.read_both-requires-clause-right
read_both-requires-clause-right g c = right_files c.args.manifest.now c.pairs.ensures.manifest c.args.place _ _ (still g (goal.at.read_both-requires-clause-right g c).In-Some)

pub returns-in-Err-clause-stop : goal.returns-in-Err-clause-stop
returns-in-Err-clause-stop g c = λ honest x at settled are.
    let old = c.args.disk.now in
    only_stops (are_two (g.D.Disk.content old) (g.D.Disk.may_leave old) c.args.manifest.now x settled at are c.args.place _ _ (two g (goal.at.returns-in-Err-clause-stop g c).In-Some)) c.in-Err.refusal (c.in-Err.ensures.stop honest)

pub build-requires-clause-rise_left : goal.build-requires-clause-rise_left
build-requires-clause-rise_left g c = (may_rise c.args.manifest.now c.pairs.ensures.manifest c.args.place _ _ (still g (goal.at.build-requires-clause-rise_left g c).In-Some) _ _ c.in-Ok.ensures.some.0 c.in-Ok.ensures.some.1).0

pub build-requires-clause-rise_right : goal.build-requires-clause-rise_right
build-requires-clause-rise_right g c = (may_rise c.args.manifest.now c.pairs.ensures.manifest c.args.place _ _ (still g (goal.at.build-requires-clause-rise_right g c).In-Some) _ _ c.in-Ok.ensures.some.0 c.in-Ok.ensures.some.1).1

pub build-requires-clause-few : goal.build-requires-clause-few
build-requires-clause-few g c =
    let at = (goal.at.build-requires-clause-few g c).In-Some in
    may_few c.args.manifest.now c.pairs.ensures.manifest c.args.place _ _ (still g at) _ _ c.in-Ok.ensures.some.0 c.in-Ok.ensures.some.1 (fits g at)

pub returns-clause-safe : goal.returns-clause-safe
returns-clause-safe g c =
    let at = (goal.at.returns-clause-safe g c).In-Some in
    let made = c.in_ok-made.ensures in
    safe_merge c.args.manifest.now c.pairs.ensures.manifest c.args.place _ _ (still g at) _ _ c.in-Ok.ensures.some.0 c.in-Ok.ensures.some.1 (fits g at) (omega (arith, c.requires.may.generation)) c.in_ok-made.made made.records made.renumbering (files_taken c.args.other) c.planned_merge.result c.planned_merge.ensures

pub returns-clause-to : goal.returns-clause-to
returns-clause-to g c =
    let at = (goal.at.returns-clause-to g c).In-Some in
    let made = c.in_ok-made.ensures in
    merge_to c.args.manifest.now c.pairs.ensures.manifest c.args.place _ _ (still g at) _ _ c.in-Ok.ensures.some.0 c.in-Ok.ensures.some.1 (fits g at) (omega (arith, c.requires.may.generation)) c.in_ok-made.made made.records made.renumbering (files_taken c.args.other) c.planned_merge.result c.planned_merge.ensures (two g at) _ (g.D.Disk.content c.args.disk.now) c.in-Ok.ensures.has

pub returns-clause-stands : goal.returns-clause-stands
returns-clause-stands g c = λ honest x at settled are.
    let old = c.args.disk.now in
    let here = (goal.at.returns-clause-stands g c).In-Some in
    let made = c.in_ok-made.ensures in
    let both = are_two (g.D.Disk.content old) (g.D.Disk.may_leave old) c.args.manifest.now x settled at are c.args.place _ _ (two g here) in
    job_as_read c.args.manifest.now c.pairs.ensures.manifest c.args.place _ _ (still g here) _ _ c.in-Ok.ensures.some.0 c.in-Ok.ensures.some.1 (fits g here) (omega (arith, c.requires.may.generation)) c.in_ok-made.made made.records made.renumbering (files_taken c.args.other) c.planned_merge.result c.planned_merge.ensures (g.D.Disk.content old) (g.D.Disk.may_leave old) x both (c.in-Ok.ensures.live honest) are.apart
