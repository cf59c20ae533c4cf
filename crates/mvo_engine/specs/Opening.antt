-- What is known of the disk that a run was opened over.
use Rattle.std.specs.Prelude.{◌≡◌, ℕ, IsTrue}
use Rattle.mvo_types.specs.Keys.{Map}
use Rattle.mvo_disk.specs.Disk.{Image}
use Rattle.mvo_engine.specs.run.Opening.{Opening}
use Rattle.mvo_store.specs.Standing.{Gives, HasSlots}

-- the image gives these rows and this mark, and no others
pub record GivesJust (rows : Map) (mark : ℕ) (image : Image) : Type 0 where
  pub gives : Gives rows mark image
  pub no_other : (r : Map) (m : ℕ) → Gives r m image → (r ≡ rows) × (m ≡ mark)

-- it gave just these rows and this mark, if it had answered as written
abbrev pub GaveWhenOpened : Map → ℕ → Opening → Type 0
GaveWhenOpened rows mark o = IsTrue o.honest → GivesJust rows mark o.image

-- each slot of it had a gate
abbrev pub WasFormatted : Opening → Type 0
WasFormatted o = HasSlots o.image
