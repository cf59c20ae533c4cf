use Rattle.std.proofs.Common.{⊎_elim}
use Rattle.mvo_store.specs.Files.{files_taken}
use Rattle.mvo_store.specs.Planning.{CountsFit, MayPlan}
use Rattle.mvo_store.proofs.Checkpoints.{may_plan_of, safe_planned, read_to, counts_are, read_stands, read_never, plan_why, plan_stop, plan_count}
use Rattle.mvo_store.proofs.checkpoint.steps.read_checkpoint.Given as given
use Rattle.mvo_store.proofs.checkpoint.steps.read_checkpoint.Goals as goal
use Rattle.mvo_store.proofs.checkpoint.steps.read_checkpoint.Goals.{In-Ok}

may : (g : given.Over) (c : goal.In-Ok g) → MayPlan c.args.manifest.now c.in-Ok.contents.groups.items c.in-Ok.contents.mark.0
may g c = may_plan_of c.args.manifest.now c.in-Ok.ensures.is c.requires.may c.in-Ok.contents.groups.items c.in-Ok.contents.mark.0 c.in-Ok.ensures.groups c.in-Ok.ensures.place.mark

pub planned-requires : goal.planned-requires
planned-requires g c = may g (goal.at.planned-requires g c).In-Ok

pub returns-in-Err-clause-stop : goal.returns-in-Err-clause-stop
returns-in-Err-clause-stop g c = λ honest x settled are.
    let old = c.args.disk.now in
    ⊎_elim (λ stop. stop) (λ only. absurd (read_never (g.D.Disk.content old) (g.D.Disk.may_leave old) c.args.manifest.now x settled c.requires.may.sealed c.in-Err.refusal only)) (c.in-Err.ensures.says honest)

pub returns-in-Ok-planned-clause-safe : goal.returns-in-Ok-planned-clause-safe
returns-in-Ok-planned-clause-safe g c =
    let e = c.in-Ok-planned.ensures.planned in
    safe_planned c.args.manifest.now c.in-Ok.contents.groups.items c.in-Ok.contents.mark.0 (may g (goal.at.returns-in-Ok-planned-clause-safe g c).In-Ok) (files_taken c.args.other) c.in-Ok-planned.checkpoint e.plan e.known

pub returns-in-Ok-planned-clause-to : goal.returns-in-Ok-planned-clause-to
returns-in-Ok-planned-clause-to g c =
    read_to _ (g.D.Disk.content c.args.disk.now) c.args.manifest.now c.in-Ok.contents.groups.items c.in-Ok.contents.mark.0 (may g (goal.at.returns-in-Ok-planned-clause-to g c).In-Ok) c.in-Ok.ensures.place.mark (λ honest. (c.in-Ok.ensures.says honest).0) (files_taken c.args.other) c.in-Ok-planned.checkpoint c.in-Ok-planned.ensures.planned.plan

pub returns-in-Ok-planned-clause-stands : goal.returns-in-Ok-planned-clause-stands
returns-in-Ok-planned-clause-stands g c = λ honest x settled are.
    let old = c.args.disk.now in
    let may_plan = may g (goal.at.returns-in-Ok-planned-clause-stands g c).In-Ok in
    read_stands (g.D.Disk.content old) (g.D.Disk.may_leave old) c.args.manifest.now x settled c.requires.may.sealed c.in-Ok.contents.groups.items (c.in-Ok.ensures.says honest) c.args.places.now.at are c.in-Ok.contents.mark.0 c.in-Ok.ensures.place.mark may_plan (files_taken c.args.other) c.in-Ok-planned.checkpoint c.in-Ok-planned.ensures.planned

pub returns-in-Err-planned-clause-why : goal.returns-in-Err-planned-clause-why
returns-in-Err-planned-clause-why g c = plan_why _ c.in-Err-planned.refusal c.in-Err-planned.ensures.refused

pub returns-in-Err-planned-clause-stop : goal.returns-in-Err-planned-clause-stop
returns-in-Err-planned-clause-stop g c = λ honest x settled are.
    let old = c.args.disk.now in
    let fits : CountsFit c.args.manifest.now c.args.places.now.at c.in-Ok.contents.groups.items = counts_are (g.D.Disk.content old) (g.D.Disk.may_leave old) c.args.manifest.now x settled c.requires.may.sealed c.args.places.now.at are c.in-Ok.contents.groups.items in
    plan_stop _ c.in-Err-planned.refusal fits c.in-Err-planned.ensures.refused

pub returns-in-Err-planned-clause-read : goal.returns-in-Err-planned-clause-read
returns-in-Err-planned-clause-read g c =
    let e = c.in-Ok.ensures.read in
    record { rest = e.rest; any_moment = e.any_moment; count = plan_count _ (g.D.Disk.fault_count c.args.disk.now) (g.D.Disk.fault_count c.read_oldest.new.disk) c.in-Err-planned.refusal e.count c.in-Err-planned.ensures.refused }
