use Rattle.std.proofs.Common.{◌∙◌, rules, sym, ap}
use Rattle.mvo_store.specs.View.{store_data}
use Rattle.mvo_store.specs.Jobs.{without_segment_read}
use Rattle.mvo_store.specs.Calls.StoreStep.{CheckpointForget}
use Rattle.mvo_store.proofs.Keeping.{Begins, begins, refused_step}
use Rattle.mvo_store.proofs.SegmentStore.{forgotten_segment_sound, forgotten_segment_done}
use Rattle.mvo_store.proofs.store.Store.checkpoint_forget.Given as given
use Rattle.mvo_store.proofs.store.Store.checkpoint_forget.Goals as goal
use Rattle.mvo_store.proofs.store.Store.checkpoint_forget.Goals.{In_default}

begun : (g : given.Over) (c : goal.In_default g) → Begins g.D.Disk (store_data c.self.inside) CheckpointForget
begun g c = begins g.D.Disk (store_data c.self.inside) _ CheckpointForget c.self.view_is (sym c.why_not_segment_read.ensures ∙ c.in_default.is) c.self.invariant

pub returns-in-Some : goal.returns-in-Some
returns-in-Some g c = rw (← c.self.view_is) (refused_step g.D.Disk g.met.D.Disk.only_now _ CheckpointForget _ (search rules))

pub invariant_of-self : goal.invariant_of-self
invariant_of-self g c =
    let b = begun g (goal.at.invariant_of-self g c).In_default in
    let jobs_are = c.without_segment_read.ensures ∙ ap without_segment_read c.replace-jobs.ensures.value in
    λ _. rw jobs_are (forgotten_segment_sound b)

pub returns : goal.returns
returns g c =
    let b = begun g (goal.at.returns g c).In_default in
    let jobs_are = c.without_segment_read.ensures ∙ ap without_segment_read c.replace-jobs.ensures.value in
    rw (jobs_are, ← c.self.view_is) (forgotten_segment_done b g.met.D.Disk.only_now)
