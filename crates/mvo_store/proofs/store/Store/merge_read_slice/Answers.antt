use Rattle.std.proofs.Common.{◌≡◌, ◌⊎◌, ◌∙◌, inl, inr, refl, sym, subst, Result, Ok, Err, Some}
use Rattle.std.specs.Prelude.{IfErr, OnOk, OnErr}
use Rattle.mvo_types.specs.declared.refusal.Refusal.{Refusal}
use Rattle.mvo_disk.specs.Disk.{IsHonest}
use Rattle.mvo_load.specs.Read.{IsMisread}
use Rattle.mvo_pair.specs.Writing.{IsStop, CountsFaults}
use Rattle.mvo_store.specs.declared.jobs.jobs.Jobs.{Jobs}
use Rattle.mvo_store.specs.StoreData.{StoreData}
use Rattle.mvo_store.specs.View.{store_data}
use Rattle.mvo_store.specs.Causes.{why_not_merge_read}
use Rattle.mvo_store.specs.Files.{files_taken}
use Rattle.mvo_store.specs.Jobs.{reading_of}
use Rattle.mvo_store.specs.PairsRead.{HasReading}
use Rattle.mvo_store.specs.ReadSlices.{AreReadTo}
use Rattle.mvo_store.specs.Calls.StoreStep.{MergeReadOn}
use Rattle.mvo_store.proofs.Keeping.{Begins, begins, refused_step}
use Rattle.mvo_store.proofs.Looks.{looked_refused, refused_still}
use Rattle.mvo_store.proofs.ReadStore.{read_sound, read_done}
use Rattle.mvo_store.proofs.store.Store.merge_read_slice.Given as given
use Rattle.mvo_store.proofs.store.Store.merge_read_slice.Goals as goal
use Rattle.mvo_store.proofs.store.Store.merge_read_slice.Goals.{After-read_jobs-jobs}

begun : (g : given.Over) (c : goal.After-read_jobs-jobs g) → Begins g.D.Disk (store_data c.self.inside) MergeReadOn
begun g c = begins g.D.Disk (store_data c.self.inside) _ MergeReadOn c.self.view_is (sym c.why_not_merge_read.ensures ∙ c.in_default.is) c.self.invariant

-- what the slice made of the jobs
abbrev To : (g : given.Over) (c : goal.After-read_jobs-jobs g) → Jobs → Type 0
To g c k = AreReadTo (IsHonest (g.D.Disk.moment c.read_jobs-jobs.new.disk)) (g.D.Disk.content c.self.inside.disk) (g.D.Disk.may_leave c.self.inside.disk) c.self.inside.manifest (files_taken c.checkpoint_pair-other.result) k c.read_jobs-jobs.result.0

-- the calls of the disk that failed
abbrev Counts : (g : given.Over) (c : goal.After-read_jobs-jobs g) → Result (Unit {0}) Refusal → Type 0
Counts g c x = CountsFaults (g.D.Disk.fault_count c.self.inside.disk) (g.D.Disk.fault_count c.read_jobs-jobs.new.disk) x

done_to : (g : given.Over) (c : goal.After-read_jobs-jobs g) (u : Unit {0}) → c.read_jobs-jobs.result.1 ≡ Ok u → To g c c.self.inside.jobs
done_to g c u is = subst (To g c) c.replace-jobs.ensures.value (subst (λ (x : Result (Unit {0}) Refusal). OnOk x (To g c c.replace-jobs.result)) is c.read_jobs-jobs.ensures.done)

-- refused, they are as they were
same_jobs : (g : given.Over) (c : goal.After-read_jobs-jobs g) (e : Refusal) → c.read_jobs-jobs.result.1 ≡ Err e → c.read_jobs-jobs.result.0 ≡ c.self.inside.jobs
same_jobs g c e is = subst (λ (x : Result (Unit {0}) Refusal). OnErr x (c.read_jobs-jobs.result.0 ≡ c.replace-jobs.result)) is c.read_jobs-jobs.ensures.err ∙ c.replace-jobs.ensures.value

pub returns-in-Some-clause-step : goal.returns-in-Some-clause-step
returns-in-Some-clause-step g c =
    let is = subst (λ (s : StoreData _). why_not_merge_read s ≡ Some c.in-Some.refusal) (sym c.self.view_is) (sym c.why_not_merge_read.ensures ∙ c.in-Some.is) in
    rw (← c.self.view_is) (refused_step g.D.Disk g.met.D.Disk.only_now (store_data c.self.inside) MergeReadOn c.in-Some.refusal is)

pub invariant_of-self : goal.invariant_of-self
invariant_of-self g c =
    let here = (goal.at.invariant_of-self g c).After-read_jobs-jobs in
    let b = begun g here in
    let read = c.read_jobs-jobs.ensures.read in
    let count = subst (Counts g here) c.in-Ok.is read.count in
    λ _. read_sound b _ read.rest read.any_moment count c.checkpoint_pair-other.result c.checkpoint_pair-other.ensures _ (done_to g here _ c.in-Ok.is)

pub returns-in-Ok-clause-step : goal.returns-in-Ok-clause-step
returns-in-Ok-clause-step g c =
    let here = (goal.at.returns-in-Ok-clause-step g c).After-read_jobs-jobs in
    let b = begun g here in
    let read = c.read_jobs-jobs.ensures.read in
    let count = subst (Counts g here) c.in-Ok.is read.count in
    rw (← c.self.view_is) (read_done b _ read.rest read.any_moment count c.checkpoint_pair-other.result c.checkpoint_pair-other.ensures _ (done_to g here _ c.in-Ok.is) c.slices_left.result)

pub invariant_of-self-in-Err : goal.invariant_of-self-in-Err
invariant_of-self-in-Err g c =
    let here = (goal.at.invariant_of-self-in-Err g c).After-read_jobs-jobs in
    let b = begun g here in
    let read = c.read_jobs-jobs.ensures.read in
    let count = subst (Counts g here) c.in-Err.is read.count in
    let same = same_jobs g here _ c.in-Err.is in
    let down = c.brings_down-self-inside in
    λ up. rw same (refused_still b _ read.rest read.any_moment c.in-Err.refusal count down.result down.ensures.memory up)

pub returns-in-Err-clause-step : goal.returns-in-Err-clause-step
returns-in-Err-clause-step g c =
    let here = (goal.at.returns-in-Err-clause-step g c).After-read_jobs-jobs in
    let b = begun g here in
    let e = c.read_jobs-jobs.ensures in
    let content = g.D.Disk.content c.self.inside.disk in
    let m = c.self.inside.manifest in
    let count = subst (Counts g here) c.in-Err.is e.read.count in
    let why : IsStop c.in-Err.refusal ⊎ IsMisread c.in-Err.refusal = subst (λ (x : Result (Unit {0}) Refusal). IfErr x (λ k. IsStop k ⊎ IsMisread k)) c.in-Err.is e.why in
    let same = same_jobs g here _ c.in-Err.is in
    let down = c.brings_down-self-inside in
    rw (same, ← c.self.view_is) (looked_refused b _ e.read.rest e.read.any_moment g.met.D.Disk.counts_now c.in-Err.refusal (inl refl) (inr (inl refl)) (λ is. inr (inr is)) (λ n. record { after = refl; no_fault = n }) count why
    (λ honest rows up. subst (λ (x : Result (Unit {0}) Refusal). IfErr x (λ k. HasReading content m (reading_of c.replace-jobs.result) → IsStop k)) c.in-Err.is (e.stop honest) (subst (λ (k : Jobs). HasReading content m (reading_of k)) (sym c.replace-jobs.ensures.value) up.reading.pairs)) down.result down.ensures.other down.ensures.memory)
