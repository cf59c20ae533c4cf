-- What opening a store gives, by whomever its pairs are read.
use Rattle.std.specs.Prelude.{◌≤◌, Result, Ok, IfOk, IfErr}
use Rattle.mvo_types.specs.Keys.{Map}
use Rattle.mvo_types.specs.declared.ids.Stamp.{Stamp}
use Rattle.mvo_types.specs.declared.limits.TheConstants.{MAX_STAMP}
use Rattle.mvo_types.specs.declared.refusal.Refusal.{Refusal}
use Rattle.mvo_disk.specs.declared.disk.Disk.{Ghosts}
use Rattle.mvo_disk.specs.Disk.{IsHonest}
use Rattle.mvo_store.specs.StoreData.{StoreData}
use Rattle.mvo_store.specs.Standing.{IsUp, Gives, HasSlots, KeepsRows}
use Rattle.mvo_store.specs.Opening.{IsAnswer, HasBegun, KeepsContent, LeavesAsBefore, IsNotOpened}

-- Of what is on a disk: a store that is up over it, with its rows and its mark, or why there is
-- none. Each field is the clause of `Store::open` of that name.
pub record IsOpenedStore {D : Type 0} (d : Ghosts D) (disk : D)
    (result : Result (StoreData D × Map × Stamp) (Refusal × D)) : Type 0 where
  pub answer : IfOk result (λ x. IsHonest (d.moment x.0.disk) →
      IsAnswer (d.content disk) (Ok (x.1, x.2.0)))
  pub gives : IfOk result (λ x. IsHonest (d.moment x.0.disk) →
      Gives x.1 x.2.0 (d.content disk))
  pub up : IfOk result (λ x. IsHonest (d.moment x.0.disk) → IsUp d x.0 x.1)
  pub keeps : IfOk result (λ x. IsHonest (d.moment x.0.disk) →
      HasSlots (d.content disk) → KeepsRows d x.0 x.1)
  pub begins : IfOk result (λ x. HasBegun d disk x.0 x.2.0)
  pub stamp : IfOk result (λ x. x.2.0 ≤ MAX_STAMP)
  pub content : IfOk result (λ x. KeepsContent d disk x.0.disk)
  pub any_moment : IfOk result (λ x. LeavesAsBefore d disk x.0.disk)
  pub refused : IfErr result (λ e. IsNotOpened d disk e.0 e.1)
  pub content_err : IfErr result (λ e. KeepsContent d disk e.1)
  pub any_moment_err : IfErr result (λ e. LeavesAsBefore d disk e.1)
