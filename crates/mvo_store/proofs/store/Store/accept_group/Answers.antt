use Rattle.std.proofs.Common.{refl}
use Rattle.mvo_store.specs.View.{store_data}
use Rattle.mvo_store.specs.Calls.StoreStep.{Take}
use Rattle.mvo_store.proofs.Logged.{taken_up, taken_safe}
use Rattle.mvo_store.proofs.Keeping.{still_leaves, free_to_take, begins, done_step}
use Rattle.mvo_store.proofs.store.Store.accept_group.Goals as goal

pub invariant_of-self : goal.invariant_of-self
invariant_of-self g c =
    let b = begins g.D.Disk (store_data c.self.inside) _ (Take c.args.group) c.self.view_is c.requires.free c.self.invariant in
    let follows = rw (← c.self.view_is) at c.requires.follows in
    let none = free_to_take (store_data c.self.inside) b.none in
    λ _. record {
      safe = taken_safe b.sound.safe c.args.group none;
      up = λ honest. let now = b.sound.up honest in (now.0, taken_up g.D.Disk (store_data c.self.inside) now.0 now.1 c.args.group none follows c.mark.ensures.group);
    }

pub returns : goal.returns
returns g c =
    let b = begins g.D.Disk (store_data c.self.inside) _ (Take c.args.group) c.self.view_is c.requires.free c.self.invariant in
    let follows = rw (← c.self.view_is) at c.requires.follows in
    rw (← c.self.view_is) (done_step b _ (λ h. h) (λ _. still_leaves g.D.Disk g.met.D.Disk.only_now _) (λ _ rows up slots. slots) (record { content = λ n _. refl; images = λ n k _ left. left; keeps = λ n k _ left. left }) _ refl refl
    (λ _ rows up. taken_up g.D.Disk (store_data c.self.inside) rows up c.args.group (free_to_take (store_data c.self.inside) b.none) follows c.mark.ensures.group))
