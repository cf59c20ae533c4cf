-- What opening a world gives, by whomever its rows are read and indexed.
use Rattle.std.specs.Prelude.{◌≡◌, ℕ, ◌<◌, Result, Ok, IfOk, IfErr}
use Rattle.mvo_types.specs.Keys.{Map}
use Rattle.mvo_types.specs.declared.refusal.Refusal.{Refusal}
use Rattle.mvo_disk.specs.declared.disk.Disk.{Ghosts}
use Rattle.mvo_disk.specs.Disk.{IsHonest}
use Rattle.mvo_store.specs.declared.limits.TheConstants.{MAX_FAULTS}
use Rattle.mvo_store.specs.Standing.{Gives, HasSlots}
use Rattle.mvo_store.specs.Opening.{IsAnswer, KeepsContent, LeavesAsBefore}
use Rattle.mvo_store.specs.Opening.{IsNotOpened, IsNotOfFiles}
use Rattle.mvo_store.specs.Seen.{disk_of, mark_of}
use Rattle.mvo_world.specs.WorldData.{WorldData, IsJustOpened}
use Rattle.mvo_world.specs.Past.{Past, opened_over}
use Rattle.mvo_world.specs.Standing.{IsAfter, IsPrefix, RecoversPrefix, HasHonestDisk}
use Rattle.mvo_world.specs.Promise.{IsOpenedOver}

-- Of what is on a disk: a world over it, or why there is none. Each field is the clause of
-- `World::open` of that name.
pub record IsWorldOpening {D : Type 0} (d : Ghosts D) (disk : D)
    (result : Result (WorldData D) (Refusal × D)) : Type 0 where
  pub stands : IfOk result (λ w. (rows : Map) × IsOpenedOver d disk rows w)
  pub answer : IfOk result (λ w. HasHonestDisk d w → (rows : Map) ×
      IsAnswer (d.content disk) (Ok (rows, mark_of w.store)))
  pub gives : IfOk result (λ w. HasHonestDisk d w → (rows : Map) ×
      Gives rows (mark_of w.store) (d.content disk))
  pub after : IfOk result (λ w. HasHonestDisk d w → (rows : Map) →
      Gives rows (mark_of w.store) (d.content disk) → HasSlots (d.content disk) →
      IsAfter d (opened_over rows (mark_of w.store)) w)
  pub prefix : IfOk result (λ w. HasHonestDisk d w → (rows : Map) →
      Gives rows (mark_of w.store) (d.content disk) → (past : Past) →
      RecoversPrefix past (d.content disk) → IsPrefix past rows (mark_of w.store))
  pub begins : IfOk result (λ w. HasHonestDisk d w → (rows : Map) →
      Gives rows (mark_of w.store) (d.content disk) → IsJustOpened rows w)
  pub content : IfOk result (λ w. KeepsContent d disk (disk_of w.store))
  pub any_moment : IfOk result (λ w. LeavesAsBefore d disk (disk_of w.store))
  pub few : IfOk result (λ w. d.fault_count disk < MAX_FAULTS)
  pub count : IfOk result (λ w. d.fault_count (disk_of w.store) ≡ d.fault_count disk)
  pub refused : IfErr result (λ e. IsNotOpened d disk e.0 e.1)
  pub well_formed : IfErr result (λ e. IsHonest (d.moment e.1) →
      (rows : Map) (mark : ℕ) → Gives rows mark (d.content disk) → IsNotOfFiles e.0)
  pub content_err : IfErr result (λ e. KeepsContent d disk e.1)
  pub any_moment_err : IfErr result (λ e. LeavesAsBefore d disk e.1)
