-- A program that has run with an engine of a disk.
use Rattle.std.proofs.Common.{◌≡◌, Result, Err, subst}
use Rattle.mvo_types.specs.declared.refusal.Refusal.{Refusal}
use Rattle.mvo_disk.specs.declared.disk.Disk.{Ghosts}
use Rattle.mvo_store.specs.Opening.{KeepsContent, LeavesAsBefore}
use Rattle.mvo_engine.specs.run.Opening.{opening_of}
use Rattle.mvo_engine.specs.OneCall.{Works, HasWorked, HasRun}

-- by what it answered
pub has_run : {D A : Type 0} (d : Ghosts D) (before opened : D) (works : Works A) (r told : Result A Refusal) (disk : D) → KeepsContent d before opened → LeavesAsBefore d before opened → HasWorked d (opening_of d opened) works r disk → r ≡ told → HasRun d before works told disk
has_run {A = A} d before opened works r told disk content moment run is = record {
  opened = opened;
  content = content;
  any_moment = moment;
  run = subst (λ (x : Result A Refusal). HasWorked d (opening_of d opened) works x disk) is run;
}
