-- Which calls are quiet, by what they answer.
use Rattle.std.proofs.Common.{◌≡◌, ◌≢◌, ℕ, refl}
use Rattle.mvo_disk.specs.declared.disk.Disk.{Ghosts}
use Rattle.mvo_store.specs.StoreData.{StoreData}
use Rattle.mvo_store.specs.Calls.{AnswersCall}
use Rattle.mvo_store.specs.Calls.StoreStep.{Call}
use Rattle.mvo_store.specs.declared.call.StoreCall.{StoreCall}
use Rattle.mvo_store.specs.declared.call.StoreCall.TheVariants.{AppendOpen, Step}
use Rattle.mvo_store.specs.declared.jobs.due.Due.TheVariants.{Install}
use Rattle.mvo_store.specs.declared.install.install_step.InstallStep.TheVariants.{Close}
use Rattle.mvo_store.specs.declared.done.Done.{Done}
use Rattle.mvo_store.specs.declared.done.Done.TheVariants.{Durable}
use Rattle.mvo_store.proofs.Taken.{IsQuiet}

module _ {D : Type 0} (d : Ghosts D) (old new : StoreData D) where
  -- a mark is durable by the opening of a gate alone
  pub opens_by : (call : StoreCall) (n : ℕ) → AnswersCall d old call (Durable n) new → call ≡ AppendOpen
  opens_by AppendOpen n h = refl
  opens_by (Step (Install Close)) n h = absurd h
  opens_by call n h = absurd h

  -- where no mark is durable, no group is taken, and none made durable
  pub quiet_by : (call : StoreCall) (done : Done) → AnswersCall d old call done new → ((n : ℕ) → done ≢ Durable n) → IsQuiet (Call call)
  quiet_by AppendOpen (Durable n) h other = absurd (other n refl)
  quiet_by AppendOpen done h other = absurd h
  quiet_by call done h other = tt
