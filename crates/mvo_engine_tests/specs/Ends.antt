-- What a disk has at the end.
use Rattle.std.specs.Prelude.{ℕ, List}
use Rattle.std.specs.List.{AllByRecursion}
use Rattle.mvo_disk.specs.Disk.{Image}
use Rattle.mvo_engine.specs.run.Opening.{Opening}
use Rattle.mvo_engine.specs.Legal.{IsLegalCore}
use Rattle.mvo_engine.specs.Sound.{GivesReceived}
use Rattle.mvo_engine.specs.States.{CoreState}

-- The image gives the opening rows followed by groups that a core has sent which stands for one
-- history, up to a mark at least this one.
pub record HasAtLeast (o : Opening) (least : ℕ) (image : Image) : Type 0 where
  pub core : CoreState
  pub legal : IsLegalCore o core.core core.sends.sent
  pub gives : GivesReceived o core.sends.sent least image

-- so it does for each of these
abbrev pub HasAll : Opening → List ℕ → Image → Type 0
HasAll o seen image = AllByRecursion (λ n. HasAtLeast o n image) seen
