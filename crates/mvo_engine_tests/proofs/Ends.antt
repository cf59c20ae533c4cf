-- What a disk has at the end.
use Rattle.std.proofs.Common.{ℕ, ◌≤◌, List, [], ◌∷◌, arith}
use Rattle.mvo_disk.specs.Disk.{Image}
use Rattle.mvo_group.specs.Data.{GroupData}
use Rattle.mvo_engine.specs.run.Opening.{Opening}
use Rattle.mvo_engine.specs.Ending.{AreSeenUpTo}
use Rattle.mvo_engine.specs.Legal.{IsLegalCore}
use Rattle.mvo_engine.specs.Sound.{GivesReceived}
use Rattle.mvo_engine.specs.States.{CoreState}
use Rattle.mvo_engine_tests.specs.Ends.{HasAll}

-- up to a mark at least a lesser one
covers_less : (o : Opening) (sent : List GroupData) (least less : ℕ) (image : Image) → GivesReceived o sent least image → less ≤ least → GivesReceived o sent less image
covers_less o sent least less image g le = record {
  rows = g.rows;
  mark = g.mark;
  opened = g.opened;
  front = g.front;
  behind = g.behind;
  received_is = g.received_is;
  slots = g.slots;
  gives = g.gives;
  covers = let c = g.covers in omega (arith, c, le);
}

pub has_all : (o : Opening) (c : CoreState) (mark : ℕ) (image : Image) → IsLegalCore o c.core c.sends.sent → GivesReceived o c.sends.sent mark image → (seen : List ℕ) → AreSeenUpTo mark seen → HasAll o seen image
has_all o c mark image legal g [] up = tt
has_all o c mark image legal g (n ∷ ns) up = (record { core = c; legal = legal; gives = covers_less o c.sends.sent mark n image g up.0 }, has_all o c mark image legal g ns up.1)
