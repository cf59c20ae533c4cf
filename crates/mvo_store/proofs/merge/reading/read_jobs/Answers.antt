use Rattle.std.proofs.Common.{◌≡◌, ◌⊎◌, ◌∙◌, rules, refl, sym, ap, subst, Result, Some}
use Rattle.std.specs.Prelude.{IfErr, OnOk, OnErr}
use Rattle.mvo_types.specs.declared.refusal.Refusal.{Refusal}
use Rattle.mvo_disk.specs.Disk.{IsHonest}
use Rattle.mvo_load.specs.Read.{HasRead, IsMisread}
use Rattle.mvo_pair.specs.Writing.{IsStop}
use Rattle.mvo_store.specs.declared.jobs.jobs.Jobs.{Jobs}
use Rattle.mvo_store.specs.declared.jobs.jobs.Jobs.TheVariants.{Beside}
use Rattle.mvo_store.specs.declared.merge.merge_job.MergeJob.{MergeJob}
use Rattle.mvo_store.specs.declared.merge.merge_job.MergeJob.TheVariants.{Reading}
use Rattle.mvo_store.specs.Files.{files_taken}
use Rattle.mvo_store.specs.Jobs.{reading_of}
use Rattle.mvo_store.specs.PairsRead.{IsSafeReading, IsReadFrom, HasReading}
use Rattle.mvo_store.specs.ReadSlices.{IsSliceTo, AreReadTo}
use Rattle.mvo_store.proofs.Turning.{is_read}
use Rattle.mvo_store.proofs.merge.reading.read_jobs.Given as given
use Rattle.mvo_store.proofs.merge.reading.read_jobs.Goals as goal
use Rattle.mvo_store.proofs.merge.reading.read_jobs.Goals.{In-Some-Reading}

-- the merge that is read, beside the checkpoint that runs
jobs_are : (g : given.Over) (c : goal.In-Some-Reading g) → c.args.jobs ≡ Beside c.in-Beside.checkpoint (Some (Reading c.in-Some-Reading.reading))
jobs_are g c = search rules

pub unreachable-requires : goal.unreachable-requires
unreachable-requires g c = let h = is_read c.args.jobs c.requires.is in c.in_default.not-Beside h.0 (Some (Reading h.1)) h.2

pub read_next-merge-requires-clause-safe : goal.read_next-merge-requires-clause-safe
read_next-merge-requires-clause-safe g c =
    subst (λ (k : Jobs). IsSafeReading c.args.manifest.now (reading_of k)) (jobs_are g (goal.at.read_next-merge-requires-clause-safe g c).In-Some-Reading) c.requires.safe

pub returns-in-Ok-clause-done : goal.returns-in-Ok-clause-done
returns-in-Ok-clause-done g c =
    let old = c.args.disk.now in
    let taken = files_taken c.args.other in
    let j = c.read_next-merge.result.0 in
    let r = c.in-Some-Reading.reading in
    let honest = IsHonest (g.D.Disk.moment c.read_next-merge.new.disk) in
    let To = IsSliceTo honest (g.D.Disk.content old) (g.D.Disk.may_leave old) c.args.manifest.now taken r in
    let to : To j = subst (λ (x : Result (Unit {0}) Refusal). OnOk x (To j)) c.in-Ok.is c.read_next-merge.ensures.done in
    subst (λ (k : Jobs). AreReadTo honest (g.D.Disk.content old) (g.D.Disk.may_leave old) c.args.manifest.now taken k (Beside c.in-Beside.checkpoint (Some j))) (sym (jobs_are g (goal.at.returns-in-Ok-clause-done g c).In-Some-Reading)) (record { merge = j; is = refl; to = to })

pub returns-in-Ok-clause-read : goal.returns-in-Ok-clause-read
returns-in-Ok-clause-read g c = subst (λ (x : Result (Unit {0}) Refusal). HasRead g.D.Disk c.args.disk.now c.read_next-merge.new.disk x) c.in-Ok.is c.read_next-merge.ensures.read

pub returns-in-Err-clause-err : goal.returns-in-Err-clause-err
returns-in-Err-clause-err g c =
    let j = c.read_next-merge.result.0 in
    let same : j ≡ Reading c.in-Some-Reading.reading = subst (λ (x : Result (Unit {0}) Refusal). OnErr x (j ≡ Reading c.in-Some-Reading.reading)) c.in-Err.is c.read_next-merge.ensures.err in
    ap (λ (k : MergeJob). Beside c.in-Beside.checkpoint (Some k)) same ∙ sym (jobs_are g (goal.at.returns-in-Err-clause-err g c).In-Some-Reading)

pub returns-in-Err-clause-why : goal.returns-in-Err-clause-why
returns-in-Err-clause-why g c = subst (λ (x : Result (Unit {0}) Refusal). IfErr x (λ e. IsStop e ⊎ IsMisread e)) c.in-Err.is c.read_next-merge.ensures.why

pub returns-in-Err-clause-stop : goal.returns-in-Err-clause-stop
returns-in-Err-clause-stop g c = λ honest has.
    let m = c.args.manifest.now in
    let content = g.D.Disk.content c.args.disk.now in
    let from = subst (λ (k : Jobs). HasReading content m (reading_of k)) (jobs_are g (goal.at.returns-in-Err-clause-stop g c).In-Some-Reading) has in
    subst (λ (x : Result (Unit {0}) Refusal). IfErr x (λ e. IsReadFrom content m c.in-Some-Reading.reading → IsStop e)) c.in-Err.is (c.read_next-merge.ensures.stop honest) from

pub returns-in-Err-clause-read : goal.returns-in-Err-clause-read
returns-in-Err-clause-read g c = subst (λ (x : Result (Unit {0}) Refusal). HasRead g.D.Disk c.args.disk.now c.read_next-merge.new.disk x) c.in-Err.is c.read_next-merge.ensures.read
