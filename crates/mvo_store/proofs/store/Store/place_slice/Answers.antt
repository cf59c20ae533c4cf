use Rattle.std.proofs.Common.{◌≡◌, Some, sym, ap, subst, ◌∙◌}
use Rattle.mvo_store.specs.StoreData.{StoreData}
use Rattle.mvo_store.specs.View.{store_data}
use Rattle.mvo_store.specs.Causes.{why_not_place}
use Rattle.mvo_store.specs.Placing.{with_places}
use Rattle.mvo_store.specs.Calls.StoreStep.{Place}
use Rattle.mvo_store.proofs.Keeping.{Begins, begins, refused_step}
use Rattle.mvo_store.proofs.PlacedStore.{may_place_here, placed_sound, placed_done}
use Rattle.mvo_store.proofs.store.Store.place_slice.Given as given
use Rattle.mvo_store.proofs.store.Store.place_slice.Goals as goal
use Rattle.mvo_store.proofs.store.Store.place_slice.Goals.{In_default}

begun : (g : given.Over) (c : goal.In_default g) → Begins g.D.Disk (store_data c.self.inside) Place
begun g c = begins g.D.Disk (store_data c.self.inside) _ Place c.self.view_is (sym c.why_not_place.ensures ∙ c.in_default.is) c.self.invariant

pub returns-in-Some-clause-step : goal.returns-in-Some-clause-step
returns-in-Some-clause-step g c =
    let is = subst (λ (s : StoreData _). why_not_place s ≡ Some c.in-Some.refusal) (sym c.self.view_is) (sym c.why_not_place.ensures ∙ c.in-Some.is) in
    rw (← c.self.view_is) (refused_step g.D.Disk g.met.D.Disk.only_now (store_data c.self.inside) Place c.in-Some.refusal is)

pub place_more-requires : goal.place_more-requires
place_more-requires g c = may_place_here (begun g (goal.at.place_more-requires g c).In_default)

pub invariant_of-self : goal.invariant_of-self
invariant_of-self g c =
    let b = begun g (goal.at.invariant_of-self g c).In_default in
    let jobs_are = c.with_places.ensures ∙ ap with_places c.replace-jobs.ensures.value in
    λ _. rw jobs_are (placed_sound b c.place_more.new.places c.place_more.ensures.places c.place_more.ensures.room)

pub returns-clause-step : goal.returns-clause-step
returns-clause-step g c =
    let b = begun g (goal.at.returns-clause-step g c).In_default in
    let jobs_are = c.with_places.ensures ∙ ap with_places c.replace-jobs.ensures.value in
    rw (jobs_are, ← c.self.view_is) (placed_done b c.place_more.new.places c.place_more.ensures.places c.place_more.ensures.room g.met.D.Disk.only_now c.slices_left.result)
