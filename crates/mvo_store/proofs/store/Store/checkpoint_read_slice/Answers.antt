use Rattle.std.proofs.Common.{◌≡◌, ◌⊎◌, ◌∙◌, sym, subst, Result, Ok, Err, Some}
use Rattle.std.specs.Prelude.{IfErr, OnOk, OnErr}
use Rattle.mvo_types.specs.declared.refusal.Refusal.{Refusal}
use Rattle.mvo_disk.specs.Disk.{IsHonest}
use Rattle.mvo_load.specs.Read.{IsMisread}
use Rattle.mvo_pair.specs.Writing.{IsStop, CountsFaults}
use Rattle.mvo_store.specs.declared.jobs.jobs.Jobs.{Jobs}
use Rattle.mvo_store.specs.StoreData.{StoreData}
use Rattle.mvo_store.specs.View.{store_data}
use Rattle.mvo_store.specs.Causes.{why_not_segment_read}
use Rattle.mvo_store.specs.Files.{files_taken}
use Rattle.mvo_store.specs.Planning.{IsStoppedBeside}
use Rattle.mvo_store.specs.SegmentSlices.{AreSegmentReadTo, AreKeptOrLetGo}
use Rattle.mvo_store.specs.Calls.StoreStep.{CheckpointReadOn}
use Rattle.mvo_store.proofs.Keeping.{Begins, begins, refused_step}
use Rattle.mvo_store.proofs.SegmentStore.{read_sound, read_done, slice_refused, slice_still}
use Rattle.mvo_store.proofs.store.Store.checkpoint_read_slice.Given as given
use Rattle.mvo_store.proofs.store.Store.checkpoint_read_slice.Goals as goal
use Rattle.mvo_store.proofs.store.Store.checkpoint_read_slice.Goals.{After-read_segment_on-jobs}

begun : (g : given.Over) (c : goal.After-read_segment_on-jobs g) → Begins g.D.Disk (store_data c.self.inside) CheckpointReadOn
begun g c = begins g.D.Disk (store_data c.self.inside) _ CheckpointReadOn c.self.view_is (sym c.why_not_segment_read.ensures ∙ c.in_default.is) c.self.invariant

-- what the slice made of the jobs
abbrev To : (g : given.Over) (c : goal.After-read_segment_on-jobs g) → Jobs → Type 0
To g c k = AreSegmentReadTo (IsHonest (g.D.Disk.moment c.read_segment_on-jobs.new.disk)) (g.D.Disk.content c.self.inside.disk) (g.D.Disk.may_leave c.self.inside.disk) c.self.inside.manifest c.self.inside.places.at c.read_segment_on-jobs.new.places.room (files_taken c.merge_pair-other.result) k c.read_segment_on-jobs.result.0

-- the calls of the disk that failed
abbrev Counts : (g : given.Over) (c : goal.After-read_segment_on-jobs g) → Result (Unit {0}) Refusal → Type 0
Counts g c x = CountsFaults (g.D.Disk.fault_count c.self.inside.disk) (g.D.Disk.fault_count c.read_segment_on-jobs.new.disk) x

done_to : (g : given.Over) (c : goal.After-read_segment_on-jobs g) (u : Unit {0}) → c.read_segment_on-jobs.result.1 ≡ Ok u → To g c c.self.inside.jobs
done_to g c u is = subst (To g c) c.replace-jobs.ensures.value (subst (λ (x : Result (Unit {0}) Refusal). OnOk x (To g c c.replace-jobs.result)) is c.read_segment_on-jobs.ensures.done)

-- refused, they are as they were, or the pair is let go
kept : (g : given.Over) (c : goal.After-read_segment_on-jobs g) (e : Refusal) → c.read_segment_on-jobs.result.1 ≡ Err e → AreKeptOrLetGo e c.self.inside.jobs c.read_segment_on-jobs.result.0
kept g c e is =
    subst (λ (k : Jobs). AreKeptOrLetGo e k c.read_segment_on-jobs.result.0) c.replace-jobs.ensures.value
    (subst (λ (x : Result (Unit {0}) Refusal). IfErr x (λ r. AreKeptOrLetGo r c.replace-jobs.result c.read_segment_on-jobs.result.0)) is c.read_segment_on-jobs.ensures.kept)

same_places : (g : given.Over) (c : goal.After-read_segment_on-jobs g) (e : Refusal) → c.read_segment_on-jobs.result.1 ≡ Err e → c.read_segment_on-jobs.new.places ≡ c.self.inside.places
same_places g c e is = subst (λ (x : Result (Unit {0}) Refusal). OnErr x (c.read_segment_on-jobs.new.places ≡ c.self.inside.places)) is c.read_segment_on-jobs.ensures.same

pub returns-in-Some-clause-step : goal.returns-in-Some-clause-step
returns-in-Some-clause-step g c =
    let is = subst (λ (s : StoreData _). why_not_segment_read s ≡ Some c.in-Some.refusal) (sym c.self.view_is) (sym c.why_not_segment_read.ensures ∙ c.in-Some.is) in
    rw (← c.self.view_is) (refused_step g.D.Disk g.met.D.Disk.only_now (store_data c.self.inside) CheckpointReadOn c.in-Some.refusal is)

pub invariant_of-self : goal.invariant_of-self
invariant_of-self g c =
    let here = (goal.at.invariant_of-self g c).After-read_segment_on-jobs in
    let b = begun g here in
    let e = c.read_segment_on-jobs.ensures in
    let count = subst (Counts g here) c.in-Ok.is e.read.count in
    λ _. read_sound b _ e.read.rest e.read.any_moment count c.merge_pair-other.result c.merge_pair-other.ensures _ e.places _ (done_to g here _ c.in-Ok.is)

pub returns-in-Ok-clause-step : goal.returns-in-Ok-clause-step
returns-in-Ok-clause-step g c =
    let here = (goal.at.returns-in-Ok-clause-step g c).After-read_segment_on-jobs in
    let b = begun g here in
    let e = c.read_segment_on-jobs.ensures in
    let count = subst (Counts g here) c.in-Ok.is e.read.count in
    rw (← c.self.view_is) (read_done b _ e.read.rest e.read.any_moment count c.merge_pair-other.result c.merge_pair-other.ensures _ e.places _ (done_to g here _ c.in-Ok.is) c.slices_left.result)

pub invariant_of-self-in-Err : goal.invariant_of-self-in-Err
invariant_of-self-in-Err g c =
    let here = (goal.at.invariant_of-self-in-Err g c).After-read_segment_on-jobs in
    let b = begun g here in
    let e = c.read_segment_on-jobs.ensures in
    let count = subst (Counts g here) c.in-Err.is e.read.count in
    let down = c.brings_down-self-inside in
    λ up. rw (same_places g here _ c.in-Err.is) (slice_still b _ e.read.rest e.read.any_moment c.in-Err.refusal count _ (kept g here _ c.in-Err.is) down.result down.ensures.memory up)

pub returns-in-Err-clause-step : goal.returns-in-Err-clause-step
returns-in-Err-clause-step g c =
    let here = (goal.at.returns-in-Err-clause-step g c).After-read_segment_on-jobs in
    let b = begun g here in
    let e = c.read_segment_on-jobs.ensures in
    let content = g.D.Disk.content c.self.inside.disk in
    let may = g.D.Disk.may_leave c.self.inside.disk in
    let m = c.self.inside.manifest in
    let count = subst (Counts g here) c.in-Err.is e.read.count in
    let why : IsStop c.in-Err.refusal ⊎ IsMisread c.in-Err.refusal = subst (λ (x : Result (Unit {0}) Refusal). IfErr x (λ k. IsStop k ⊎ IsMisread k)) c.in-Err.is e.why in
    let down = c.brings_down-self-inside in
    rw (same_places g here _ c.in-Err.is, ← c.self.view_is) (slice_refused b _ e.read.rest e.read.any_moment c.in-Err.refusal count g.met.D.Disk.counts_now why
    (λ honest. subst (λ (x : Result (Unit {0}) Refusal). IfErr x (IsStoppedBeside content may m c.self.inside.places.at)) c.in-Err.is (e.stop honest)) _ (kept g here _ c.in-Err.is) down.result down.ensures.other down.ensures.memory)
