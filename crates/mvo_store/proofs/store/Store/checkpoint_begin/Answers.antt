use Rattle.std.proofs.Common.{◌∙◌, rules, inl, inr, refl, sym, ap}
use Rattle.mvo_store.specs.View.{store_data}
use Rattle.mvo_store.specs.Jobs.{with_segment_read}
use Rattle.mvo_store.specs.Calls.StoreStep.{CheckpointBegin}
use Rattle.mvo_store.proofs.Keeping.{may_read, Begins, begins, refused_step}
use Rattle.mvo_store.proofs.Looks.{looked_refused, refused_still}
use Rattle.mvo_store.proofs.SegmentStore.{begun_sound, begun_done}
use Rattle.mvo_store.proofs.store.Store.checkpoint_begin.Given as given
use Rattle.mvo_store.proofs.store.Store.checkpoint_begin.Goals as goal
use Rattle.mvo_store.proofs.store.Store.checkpoint_begin.Goals.{After-begin_oldest}

begun : (g : given.Over) (c : goal.After-begin_oldest g) → Begins g.D.Disk (store_data c.self.inside) CheckpointBegin
begun g c = begins g.D.Disk (store_data c.self.inside) _ CheckpointBegin c.self.view_is (sym c.why_not_checkpoint.ensures ∙ c.in_default.is) c.self.invariant

pub returns-in-Some : goal.returns-in-Some
returns-in-Some g c = rw (← c.self.view_is) (refused_step g.D.Disk g.met.D.Disk.only_now _ CheckpointBegin _ (search rules))

pub begin_oldest-requires-clause-room : goal.begin_oldest-requires-clause-room
begin_oldest-requires-clause-room g c =
    let b = begins g.D.Disk (store_data c.self.inside) _ CheckpointBegin c.self.view_is (sym c.why_not_checkpoint.ensures ∙ c.in_default.is) c.self.invariant in b.sound.safe.room

pub begin_oldest-requires-clause-may : goal.begin_oldest-requires-clause-may
begin_oldest-requires-clause-may g c =
    let b = begins g.D.Disk (store_data c.self.inside) _ CheckpointBegin c.self.view_is (sym c.why_not_checkpoint.ensures ∙ c.in_default.is) c.self.invariant in may_read (store_data c.self.inside) b.none

pub invariant_of-self : goal.invariant_of-self
invariant_of-self g c =
    let b = begun g (goal.at.invariant_of-self g c).After-begin_oldest in
    let e = c.in-Ok.ensures in
    let jobs_are = c.with_segment_read.ensures ∙ ap (with_segment_read c.in-Ok.reading) c.replace-jobs.ensures.value in
    λ _. rw jobs_are (begun_sound b _ e.read.rest e.read.any_moment e.read.count c.in-Ok.reading e.safe e.begun e.stands)

pub returns-in-Ok : goal.returns-in-Ok
returns-in-Ok g c =
    let b = begun g (goal.at.returns-in-Ok g c).After-begin_oldest in
    let e = c.in-Ok.ensures in
    let jobs_are = c.with_segment_read.ensures ∙ ap (with_segment_read c.in-Ok.reading) c.replace-jobs.ensures.value in
    rw (jobs_are, ← c.self.view_is) (begun_done b _ e.read.rest e.read.any_moment e.read.count c.in-Ok.reading e.safe e.begun e.stands)

pub invariant_of-self-in-Err : goal.invariant_of-self-in-Err
invariant_of-self-in-Err g c =
    let b = begun g (goal.at.invariant_of-self-in-Err g c).After-begin_oldest in
    let e = c.in-Err.ensures in
    let down = c.brings_down-self-inside in
    λ up. refused_still b _ e.read.rest e.read.any_moment c.in-Err.refusal e.read.count down.result down.ensures.memory up

pub returns-in-Err : goal.returns-in-Err
returns-in-Err g c =
    let b = begun g (goal.at.returns-in-Err g c).After-begin_oldest in
    let e = c.in-Err.ensures in
    let down = c.brings_down-self-inside in
    rw (← c.self.view_is) (looked_refused b _ e.read.rest e.read.any_moment g.met.D.Disk.counts_now c.in-Err.refusal (inl refl) (inr (inl refl)) (λ is. inr (inr is)) (λ n. record { after = refl; no_fault = n }) e.read.count e.why (λ honest rows up. e.stop honest up.places.at up.parts up.settled up.places.are) down.result down.ensures.other down.ensures.memory)
