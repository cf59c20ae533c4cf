-- What a run was opened over.
use Rattle.std.specs.Prelude.{Bool, false, []}
use Rattle.mvo_disk.specs.declared.disk.Disk.{Ghosts}
use Rattle.mvo_disk.specs.Disk.{Image}

-- what its disk held when it was opened, and whether it had answered as written until then
pub record Opening : Type 0 where
  pub image : Image
  pub honest : Bool

abbrev pub opening_of : {D : Type 0} → Ghosts D → D → Opening
opening_of d disk = record { image = d.content disk; honest = (d.moment disk).honest }

abbrev pub no_opening : Opening
no_opening = record { image = λ n. []; honest = false }
