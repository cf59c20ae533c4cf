-- What an engine comes to that is opened, worked with and shut down in one call.
use Rattle.std.specs.Prelude.{ℕ, List, Result, Err}
use Rattle.mvo_types.specs.declared.refusal.Refusal.{Refusal}
use Rattle.mvo_types.specs.Keys.{Map}
use Rattle.mvo_disk.specs.declared.disk.Disk.{Ghosts}
use Rattle.mvo_disk.specs.Disk.{IsHonest}
use Rattle.mvo_store.specs.Standing.{Gives}
use Rattle.mvo_store.specs.Opening.{KeepsContent, LeavesAsBefore, IsNotOpened, IsNotOfFiles}
use Rattle.mvo_engine.specs.run.Opening.{Opening, opening_of}
use Rattle.mvo_engine.specs.Ending.{IsShutDown}

-- what a program comes to: its result, and how far its sessions have seen commits to be durable
abbrev pub Works : Type 0 → Type 1
Works A = Result A Refusal → List ℕ → Type 0

-- The program came to this, and its engine was shut down: what is on the disk is known then, and
-- all that its sessions have seen to be durable.
pub record HasWorked {D A : Type 0} (d : Ghosts D) (o : Opening) (works : Works A)
    (result : Result A Refusal) (disk : D) : Type 0 where
  pub seen : List ℕ
  pub comes : works result seen
  pub end : IsShutDown d o seen disk

-- So it is over what the disk held. Opening it left its files as they were.
pub record HasRun {D A : Type 0} (d : Ghosts D) (before : D) (works : Works A)
    (result : Result A Refusal) (disk : D) : Type 0 where
  pub opened : D
  pub content : KeepsContent d before opened
  pub any_moment : LeavesAsBefore d before opened
  pub run : HasWorked d (opening_of d opened) works result disk

-- the disk wasn't opened, and nothing was run
pub record HasNotOpened {D : Type 0} (d : Ghosts D) (before : D) (e : Refusal) (disk : D) : Type 0
  where
    pub refused : IsNotOpened d before e disk
    pub well_formed : IsHonest (d.moment disk) → (rows : Map) (mark : ℕ)
        → Gives rows mark (d.content before) → IsNotOfFiles e
    pub content : KeepsContent d before disk
    pub any_moment : LeavesAsBefore d before disk

-- refused as the opening was, or as the program was
pub data HasNotRun {D A : Type 0} (d : Ghosts D) (before : D) (works : Works A) (e : Refusal)
    (disk : D) : Type 0 where
  NotOpened : HasNotOpened d before e disk → HasNotRun d before works e disk
  NotWorked : HasRun d before works (Err e) disk → HasNotRun d before works e disk
