use Rattle.std.proofs.Common.{ℕ, Option, ◌∙◌, refl, subst, rules}
use Rattle.std.specs.Prelude.{IfSome}
use Rattle.mvo_types.specs.declared.refusal.Refusal.TheVariants.{DiskFault}
use Rattle.mvo_store.specs.View.{store_data}
use Rattle.mvo_store.specs.Reclaiming.{IsUnused}
use Rattle.mvo_store.specs.Calls.StoreStep.{Shorten}
use Rattle.mvo_store.proofs.Looks.{looked_same, still_sound, looked_fault, looked_done, others_stay, emptied_slots, emptied_up, emptying_leaves}
use Rattle.mvo_store.proofs.Keeping.{Begins, refused_step, fault_step, done_step, file_others, looked_safe}
use Rattle.mvo_store.proofs.store.Store.shorten_slice.Given as given
use Rattle.mvo_store.proofs.store.Store.shorten_slice.Goals as goal
use Rattle.mvo_store.proofs.store.Store.shorten_slice.Goals.{After-least_long, In-Some}

begun : (g : given.Over) (c : goal.After-least_long g) → Begins g.D.Disk (store_data c.self.inside) Shorten
begun g c = record { none = search rules; up = c.if-self.false; sound = c.self.invariant c.if-self.false }

pub least_long-requires : goal.least_long-requires
least_long-requires g c = record { room = (c.self.invariant c.if-self.false).safe.room }

-- the file that is emptied
free : (g : given.Over) (c : goal.In-Some g) → IsUnused c.self.inside.manifest c.self.inside.jobs c.in-Some.file
free g c = subst (λ (o : Option (ℕ × ℕ)). IfSome o (λ x. IsUnused c.self.inside.manifest c.self.inside.jobs x.0)) c.in-Some.is c.in-Ok.ensures.unused

-- no file is dead
pub invariant_of-self-in_default-found : goal.invariant_of-self-in_default-found
invariant_of-self-in_default-found g c =
    let b = begun g (goal.at.invariant_of-self-in_default-found g c).After-least_long in
    λ _. still_sound b _ c.in-Ok.ensures.rest c.in-Ok.ensures.any_moment c.in-Ok.ensures.count

pub returns-in_default-found-clause-step : goal.returns-in_default-found-clause-step
returns-in_default-found-clause-step g c =
    let b = begun g (goal.at.returns-in_default-found-clause-step g c).After-least_long in
    let e = c.in-Ok.ensures in
    rw (← c.self.view_is) (looked_done b _ e.rest e.any_moment c.self.inside.places c.self.inside.jobs _ refl e.count (λ _. looked_same b _ e.rest e.count))

pub returns-in_default-clause-step : goal.returns-in_default-clause-step
returns-in_default-clause-step g c =
    let b = begun g (goal.at.returns-in_default-clause-step g c).After-least_long in
    let e = c.in_default.ensures in
    rw (← c.self.view_is) (looked_fault b _ e.rest e.any_moment g.met.D.Disk.counts_now DiskFault refl refl (search rules))

-- one is emptied
pub invariant_of-self-in-Ok-cut_synced : goal.invariant_of-self-in-Ok-cut_synced
invariant_of-self-in-Ok-cut_synced g c =
    let b = begun g (goal.at.invariant_of-self-in-Ok-cut_synced g c).After-least_long in
    let is = free g (goal.at.invariant_of-self-in-Ok-cut_synced g c).In-Some in
    let e = c.in-Ok-cut_synced.ensures in
    let looked = c.in-Ok.ensures in
    λ _. record {
      safe = looked_safe b.sound.safe _ (e.count ∙ looked.count);
      up = λ honest.
          let now = b.sound.up (looked.any_moment.later.honest (e.any_moment.later.honest honest)) in
          (now.0, emptied_up b _ _ c.in-Some.file is looked.rest e.rest (e.count ∙ looked.count) now.0 now.1);
    }

pub returns-in_default-cut_synced-clause-step : goal.returns-in_default-cut_synced-clause-step
returns-in_default-cut_synced-clause-step g c =
    let b = begun g (goal.at.returns-in_default-cut_synced-clause-step g c).After-least_long in
    let is = free g (goal.at.returns-in_default-cut_synced-clause-step g c).In-Some in
    let looked = c.in-Ok.ensures in
    let e = c.in_default-cut_synced.ensures in
    rw (← c.self.view_is) (fault_step b g.met.D.Disk.counts_now _ DiskFault refl refl (search rules) (λ h. looked.any_moment.later.honest (e.any_moment.later.honest h)) (λ _. emptying_leaves b _ _ c.in-Some.file is looked.rest e.rest looked.any_moment e.any_moment)
    (file_others g.D.Disk Shorten _ _ c.in-Some.file is (others_stay b _ _ c.in-Some.file is looked.rest e.rest)))

pub returns-clause-step : goal.returns-clause-step
returns-clause-step g c =
    let b = begun g (goal.at.returns-clause-step g c).After-least_long in
    let is = free g (goal.at.returns-clause-step g c).In-Some in
    let looked = c.in-Ok.ensures in
    let e = c.in-Ok-cut_synced.ensures in
    rw (← c.self.view_is) (done_step b _ (λ h. looked.any_moment.later.honest (e.any_moment.later.honest h)) (λ _. emptying_leaves b _ _ c.in-Some.file is looked.rest e.rest looked.any_moment e.any_moment) (λ _ rows up. emptied_slots b _ _ c.in-Some.file is looked.rest e.rest)
    (file_others g.D.Disk Shorten _ _ c.in-Some.file is (others_stay b _ _ c.in-Some.file is looked.rest e.rest)) _ refl (e.count ∙ looked.count)
    (λ _. emptied_up b _ _ c.in-Some.file is looked.rest e.rest (e.count ∙ looked.count)))

pub returns-then-self-clause-step : goal.returns-then-self-clause-step
returns-then-self-clause-step g c = rw (← c.self.view_is) (refused_step g.D.Disk g.met.D.Disk.only_now _ Shorten _ (search rules))
