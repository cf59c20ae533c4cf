-- What the layers above see of a core.
use Rattle.std.specs.Prelude.{◌≡◌, ℕ, List, Option}
use Rattle.mvo_tale.specs.declared.tale_place.TalePlace.{TalePlace}
use Rattle.mvo_tale.specs.Slots.{end_at_back}
use Rattle.mvo_core.specs.Data.{CoreData}

-- the timestamp that was drawn last, or the opening mark
abbrev pub clock_of : CoreData → ℕ
clock_of c = c.table.clock

-- the mark of the group that was closed last, or the opening mark
abbrev pub closed_mark_of : CoreData → ℕ
closed_mark_of c = c.closed

-- the places of the stored commits
abbrev pub tale_of : CoreData → List TalePlace
tale_of c = c.tale

-- the end at the back of the tale
abbrev pub last_end_of : CoreData → Option ℕ
last_end_of c = end_at_back c.tale

-- nothing but the versions is another
abbrev pub HasNewVersions : CoreData → CoreData → Type 0
HasNewVersions old new = new ≡ record old { versions = new.versions }
