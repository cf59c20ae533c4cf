-- A manifest that is installed under the lock of the store.
use Rattle.std.proofs.Common.{◌≡◌, Result, Ok, Err}
use Rattle.mvo_types.specs.declared.refusal.Refusal.{Refusal}
use Rattle.mvo_disk.specs.declared.disk.Disk.{Ghosts}
use Rattle.mvo_store.specs.declared.install.generation.Generation.{Generation}
use Rattle.mvo_store.specs.declared.install.install_step.InstallStep.TheVariants.{Open}
use Rattle.mvo_store.specs.declared.install.spent.Spent.{Spent}
use Rattle.mvo_store.specs.declared.jobs.due.Due.TheVariants.{Install}
use Rattle.mvo_store.specs.declared.call.StoreCall.TheVariants.{Step}
use Rattle.mvo_store.specs.declared.done.Done.{Done}
use Rattle.mvo_store.specs.declared.done.Done.TheVariants.{Installed}
use Rattle.mvo_store.specs.Calls.{AnswersGeneration, IsStoreStep}
use Rattle.mvo_store.specs.Calls.StoreStep.{Call}
use Rattle.mvo_store.specs.Jobs.{next_installed}
use Rattle.mvo_store.specs.Steps.{spent_by}
use Rattle.mvo_store.proofs.Taken.{opened_so, refused_so}
use Rattle.mvo_engine.specs.Calls.{IsLockedOpening}
use Rattle.mvo_engine.specs.States.{StoreState}

abbrev Opened : Type 0
Opened = Generation × Spent

module _ {D : Type 0} (d : Ghosts D) (old new : StoreState D) (received : new.received ≡ old.received) (published : new.published ≡ old.published) where
  pub opened : (x : Opened) → IsStoreStep {A = Opened} d old.store (Call (Step (Install Open))) (Ok x) new.store → AnswersGeneration new.store x.0.0 → x.1 ≡ spent_by (next_installed old.store.jobs) → IsLockedOpening d old (Ok x) new
  opened x step answers is = record {
    call = record { step = opened_so Opened Done d old.store x (Installed x.0) new.store step; answers = answers; received = received; published = published };
    spent = is;
  }

  pub not_opened : (e : Refusal) → IsStoreStep {A = Opened} d old.store (Call (Step (Install Open))) (Err e) new.store → IsLockedOpening d old (Err e) new
  not_opened e step = record {
    call = record { step = refused_so Opened Done d old.store (Call (Step (Install Open))) e new.store step; answers = tt; received = received; published = published };
    spent = tt;
  }
